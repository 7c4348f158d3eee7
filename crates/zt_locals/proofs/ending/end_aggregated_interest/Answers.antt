use Rattle.std.proofs.Common.{sym}
use Rattle.zt_locals.proofs.Aggregates.{not_there}
use Rattle.zt_locals.proofs.ending.end_aggregated_interest.Goals as goal

pub end_at-requires-clause-at : goal.end_at-requires-clause-at
end_at-requires-clause-at g c = sym (rw c.deref.ensures.value at c.in-Ok.ensures.place)

pub returns-in-Err : goal.returns-in-Err
returns-in-Err g c =
    let at = sym (rw c.deref.ensures.value at c.in-Err.ensures.place) in
    let end = not_there g.Res.Ord.cmp g.Res.LocalResourceTrait.matching g.Info.LocalResourceInfoTrait.aggregating g.met.Res.Ord.total g.met.Res.LocalResourceTrait.laws c.args.key.now _ c.args.id
    c.args.body.now.simple.items c.args.body.now.aggregated.items c.requires at in
    record { answer = end.answer_is; aggregated = end.rows_are; simple = end.simple_are; sound = end.sound }
