use Rattle.zt_locals.proofs.Aggregates.{not_asked, goes, stays}
use Rattle.zt_locals.proofs.ending.end_at.Goals as goal

pub returns-then-not-contains : goal.returns-then-not-contains
returns-then-not-contains g c =
    let end = not_asked g.Res.Ord.cmp g.Res.LocalResourceTrait.matching g.Info.LocalResourceInfoTrait.aggregating g.met.Res.Ord.total g.met.Res.LocalResourceTrait.laws c.args.key.now c.args.at c.args.id c.index.result.now
    c.args.body.now.simple.items c.args.body.now.aggregated.items c.requires.sound c.requires.at c.index.ensures (rw c.contains.ensures at c.if-not-contains.true) in
    record { answer = end.answer_is; aggregated = end.rows_are; simple = end.simple_are; sound = end.sound }

pub returns-then-is_only : goal.returns-then-is_only
returns-then-is_only g c =
    let left = rw c.deref.ensures.value at c.drop_unheld.ensures in
    let end = goes g.Res.Ord.cmp g.Res.LocalResourceTrait.matching g.Info.LocalResourceInfoTrait.aggregating g.met.Res.Ord.total g.met.Res.LocalResourceTrait.laws c.args.key.now c.args.at c.args.id c.index.result.now
    c.args.body.now.simple.items c.drop_unheld.new.simple.items c.args.body.now.aggregated.items c.remove.new.self.items c.requires.sound c.requires.at c.index.ensures
    (rw c.contains.ensures at c.if-not-contains.false) (rw c.is_only.ensures at c.if-is_only.true) c.remove.ensures.items left in
    record { answer = end.answer_is; aggregated = end.rows_are; simple = end.simple_are; sound = end.sound }

pub returns : goal.returns
returns g c =
    let end = stays g.Res.Ord.cmp g.Res.LocalResourceTrait.matching g.Info.LocalResourceInfoTrait.aggregating g.met.Res.Ord.total g.met.Res.LocalResourceTrait.laws c.args.key.now c.args.at c.args.id c.index.result.now
    c.args.body.now.simple.items c.args.body.now.aggregated.items c.unask_row.new.rows.items c.requires.sound c.requires.at c.index.ensures
    (rw c.contains.ensures at c.if-not-contains.false) (rw c.is_only.ensures at c.if-is_only.false) (c.unask_row.ensures c.index.result.now c.index.ensures) in
    record { answer = end.answer_is; aggregated = end.rows_are; simple = end.simple_are; sound = end.sound }
