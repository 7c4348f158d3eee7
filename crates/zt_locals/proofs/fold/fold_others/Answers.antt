use Rattle.zt_locals.proofs.Folds.{fold_others}
use Rattle.zt_locals.proofs.fold.fold_others.Goals as goal

pub returns : goal.returns
returns g c = fold_others g.Res.LocalResourceTrait.matching g.Info.LocalResourceInfoTrait.aggregating c.args.into.now c.args.rows.now c.args.place _ _ c.fold_onto-front.ensures c.fold_onto.ensures
