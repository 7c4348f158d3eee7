use Rattle.std.proofs.Common.{sym, rules}
use Rattle.zt_locals.proofs.Arms.{gone_arm}
use Rattle.zt_locals.proofs.Folds.{refreshed_same}
use Rattle.zt_ordered.specs.Placing.{find-gap, without-gap}
use Rattle.zt_locals.proofs.change.remove_simple.Goals as goal

pub returns-in_ok-results-in-Ok : goal.returns-in_ok-results-in-Ok
returns-in_ok-results-in-Ok g c =
    let at = sym (rw c.deref.ensures.value at c.in-Ok.ensures.place) in
    let says = c.in_ok-results-in-Ok.ensures in
    let arm = gone_arm g.Res.Ord.cmp g.Res.LocalResourceTrait.matching g.Info.PartialEq.eq g.Info.LocalResourceInfoTrait.aggregating g.met.Res.Ord.total g.met.Res.LocalResourceTrait.laws g.met.Info.LocalResourceInfoTrait.laws c.args.key.now c.in-Ok.place
    c.args.body.now.simple.items c.remove_known.new.body.simple.items c.args.body.now.aggregated.items c.remove_known.new.body.aggregated.items c.in_ok-results-in-Ok.results.items
    c.requires at says.simple says.aggregated says.results in
    record {
      simple = arm.simple_is;
      aggregated = arm.fresh;
      results = arm.told_is;
      err_simple = tt;
      err_aggregated = tt;
      sound = arm.sound;
    }

pub returns-in-Err-clause-simple : goal.returns-in-Err-clause-simple
returns-in-Err-clause-simple g c =
    let at = sym (rw c.deref.ensures.value at c.in-Err.ensures.place) in
    sym (without-gap g.Res.Ord.cmp g.met.Res.Ord.total c.args.key.now c.args.body.now.simple.items _ c.requires.simple_in_order at)

pub returns-in-Err-clause-aggregated : goal.returns-in-Err-clause-aggregated
returns-in-Err-clause-aggregated g c =
    refreshed_same g.Res.LocalResourceTrait.matching g.Info.LocalResourceInfoTrait.aggregating c.args.body.now.simple.items c.args.body.now.aggregated.items c.requires.folds

pub returns-in-Err-clause-results : goal.returns-in-Err-clause-results
returns-in-Err-clause-results g c =
    let at = sym (rw c.deref.ensures.value at c.in-Err.ensures.place) in
    rw (find-gap g.Res.Ord.cmp g.met.Res.Ord.total c.args.key.now c.args.body.now.simple.items _ c.requires.simple_in_order at) (search rules)
