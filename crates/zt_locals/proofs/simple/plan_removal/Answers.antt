use Rattle.zt_locals.proofs.Items.{same_item}
use Rattle.zt_locals.specs.Results.{beside, remove_result}
use Rattle.zt_locals.proofs.KnownRow.{untold_of_row}
use Rattle.zt_locals.proofs.simple.plan_removal.Goals as goal

pub returns-clause-infos : goal.returns-clause-infos
returns-clause-infos g c = rw (c.deref.ensures.value, c.deref-2.ensures.value) at c.in_ok-infos.ensures

pub returns-clause-results : goal.returns-clause-results
returns-clause-results g c = λ row there.
    let it = c.index.result.now in
    let same = same_item c.args.body.now.simple.items c.args.place row it c.requires there c.index.ensures in
    let before = rw (c.deref-3.ensures.value, c.deref-4.ensures.value) at c.in_ok-results.ensures in
    let all = rw before at c.in_ok-untell.ensures in
    untold_of_row g.Res.Ord.cmp c.args.key.now row it c.in_ok-told.told (beside (remove_result g.Info.PartialEq.eq) c.args.body.now.aggregated.items c.in_ok-infos.infos.items) c.untell.new.results.items same all c.in_ok-told.ensures
