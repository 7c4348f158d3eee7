use Rattle.zt_locals.proofs.Items.{same_item}
use Rattle.zt_locals.specs.Results.{beside, insert_result}
use Rattle.zt_locals.proofs.KnownRow.{told_of_row}
use Rattle.zt_locals.proofs.simple.plan_known.Goals as goal

pub returns-clause-infos : goal.returns-clause-infos
returns-clause-infos g c = rw (c.deref.ensures.value, c.deref-2.ensures.value) at c.in_ok-infos.ensures

pub returns-clause-results : goal.returns-clause-results
returns-clause-results g c = λ row there.
    let it = c.index.result.now in
    let same = same_item c.args.body.now.simple.items c.args.place row it c.requires there c.index.ensures in
    let before = rw (c.deref-3.ensures.value, c.deref-4.ensures.value) at c.in_ok-results.ensures in
    let all = rw before at c.in_ok-tell_more.ensures in
    told_of_row g.Res.Ord.cmp g.Info.PartialEq.eq c.args.key c.args.info c.args.interests.now row it c.told_again-told.result (beside (insert_result g.Info.PartialEq.eq) c.args.body.now.aggregated.items c.in_ok-infos.infos.items) c.tell_more.new.results.items same all c.told_again-told.ensures
