use Rattle.std.proofs.Common.{sym}
use Rattle.zt_ordered.specs.Placing.{find-gap}
use Rattle.zt_locals.proofs.Aggregates.{known_aggregate, new_aggregate}
use Rattle.zt_locals.proofs.Placing.{found_row}
use Rattle.zt_locals.proofs.aggregated.insert_aggregated.Goals as goal

pub insert_new-requires-clause-callable : goal.insert_new-requires-clause-callable
insert_new-requires-clause-callable g c =
    let at = sym (rw c.deref.ensures.value at c.in-Err.ensures.place) in
    rw (find-gap g.Res.Ord.cmp g.met.Res.Ord.total c.args.key c.args.rows.now.items c.in-Err.place c.requires.sound.aggregated_in_order at) at c.requires.callable

pub returns-in_ok-known-in-Ok : goal.returns-in_ok-known-in-Ok
returns-in_ok-known-in-Ok g c =
    let at = sym (rw c.deref.ensures.value at c.in-Ok.ensures.place) in
    let known = c.in_ok-known-in-Ok.known in
    let says = c.in_ok-known-in-Ok.ensures in
    let f = found_row g.Res.Ord.cmp g.met.Res.Ord.total g.met.Res.LocalResourceTrait.laws.equal_is_same c.args.key c.args.rows.now.items c.in-Ok.place at in
    let arm = known_aggregate g.Res.Ord.cmp g.Res.LocalResourceTrait.matching g.Info.LocalResourceInfoTrait.aggregating g.met.Res.Ord.total g.met.Res.LocalResourceTrait.laws c.args.key c.in-Ok.place known.0 known.1 c.args.interests.now
    c.args.simple.now c.args.rows.now.items c.join_row.new.rows.items c.requires.sound at says.info says.ok in
    record {
      id = rw f.2 (says.id f.0 f.1);
      info = arm.info_is;
      rows = arm.rows_are;
      err = tt;
      sound = arm.sound;
    }

pub returns-in_ok-new-in-Err : goal.returns-in_ok-new-in-Err
returns-in_ok-new-in-Err g c =
    let at = sym (rw c.deref.ensures.value at c.in-Err.ensures.place) in
    let new = c.in_ok-new-in-Err.new in
    let says = c.in_ok-new-in-Err.ensures in
    let found = find-gap g.Res.Ord.cmp g.met.Res.Ord.total c.args.key c.args.rows.now.items c.in-Err.place c.requires.sound.aggregated_in_order at in
    let arm = new_aggregate g.Res.Ord.cmp g.Res.LocalResourceTrait.matching g.Info.LocalResourceInfoTrait.aggregating g.met.Res.Ord.total g.met.Res.LocalResourceTrait.laws c.args.key c.in-Err.place new.0 new.1 c.args.interests.now
    c.args.simple.now c.args.rows.now.items c.insert_new.new.rows.items c.requires.sound at says.info says.rows in
    record {
      id = rw found says.id;
      info = arm.info_is;
      rows = arm.rows_are;
      err = tt;
      sound = arm.sound;
    }
