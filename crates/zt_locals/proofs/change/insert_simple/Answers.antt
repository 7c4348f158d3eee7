use Rattle.std.proofs.Common.{sym}
use Rattle.zt_locals.proofs.Arms.{known_arm, new_arm}
use Rattle.zt_ordered.specs.Placing.{find-gap}
use Rattle.zt_locals.proofs.Placing.{found_row}
use Rattle.zt_locals.proofs.change.insert_simple.Goals as goal

pub insert_new-requires-clause-callable : goal.insert_new-requires-clause-callable
insert_new-requires-clause-callable g c =
    let at = sym (rw c.deref.ensures.value at c.in-Err.ensures.place) in
    rw (find-gap g.Res.Ord.cmp g.met.Res.Ord.total c.args.key c.args.body.now.simple.items c.in-Err.place c.requires.sound.simple_in_order at) at c.requires.callable

pub returns-in_ok-told-in-Ok : goal.returns-in_ok-told-in-Ok
returns-in_ok-told-in-Ok g c =
    let at = sym (rw c.deref.ensures.value at c.in-Ok.ensures.place) in
    let told = c.in_ok-told-in-Ok.told in
    let says = c.in_ok-told-in-Ok.ensures in
    let f = found_row g.Res.Ord.cmp g.met.Res.Ord.total g.met.Res.LocalResourceTrait.laws.equal_is_same c.args.key c.args.body.now.simple.items c.in-Ok.place at in
    let arm = known_arm g.Res.Ord.cmp g.Res.LocalResourceTrait.matching g.Info.PartialEq.eq g.Info.LocalResourceInfoTrait.aggregating g.met.Res.Ord.total g.met.Res.LocalResourceTrait.laws g.met.Info.LocalResourceInfoTrait.laws c.args.key c.in-Ok.place told.0 c.args.info c.args.interests.now
    c.args.body.now.simple.items c.insert_known.new.body.simple.items c.args.body.now.aggregated.items c.insert_known.new.body.aggregated.items told.1.items
    c.requires.sound at says.id says.simple says.aggregated says.results in
    record {
      id = rw f.2 (says.id f.0 f.1);
      simple = arm.simple_is;
      aggregated = arm.fresh;
      results = arm.told_is;
      err_simple = tt;
      err_aggregated = tt;
      sound = arm.sound;
    }

pub returns-in_ok-told-in-Err : goal.returns-in_ok-told-in-Err
returns-in_ok-told-in-Err g c =
    let at = sym (rw c.deref.ensures.value at c.in-Err.ensures.place) in
    let told = c.in_ok-told-in-Err.told in
    let says = c.in_ok-told-in-Err.ensures in
    let found = find-gap g.Res.Ord.cmp g.met.Res.Ord.total c.args.key c.args.body.now.simple.items c.in-Err.place c.requires.sound.simple_in_order at in
    let arm = new_arm g.Res.Ord.cmp g.Res.LocalResourceTrait.matching g.Info.PartialEq.eq g.Info.LocalResourceInfoTrait.aggregating g.met.Res.Ord.total g.met.Res.LocalResourceTrait.laws g.met.Info.LocalResourceInfoTrait.laws c.args.key c.in-Err.place told.0 c.args.info c.args.interests.now
    c.args.body.now.simple.items c.insert_new.new.body.simple.items c.args.body.now.aggregated.items c.insert_new.new.body.aggregated.items told.1.items
    c.requires.sound at says.simple says.aggregated says.results in
    record {
      id = rw found says.id;
      simple = arm.simple_is;
      aggregated = arm.fresh;
      results = arm.told_is;
      err_simple = tt;
      err_aggregated = tt;
      sound = arm.sound;
    }
