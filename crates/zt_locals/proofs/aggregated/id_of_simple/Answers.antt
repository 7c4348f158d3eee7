use Rattle.std.proofs.Common.{sym, ap}
use Rattle.std.specs.Option.{option_map}
use Rattle.zt_ordered.specs.Placing.{find-place, find-gap}
use Rattle.zt_locals.proofs.aggregated.id_of_simple.Goals as goal

pub returns-in-Ok : goal.returns-in-Ok
returns-in-Ok g c =
    ap (option_map (λ row. row.id)) (sym (find-place g.Res.Ord.cmp g.met.Res.Ord.total c.args.key.now c.args.rows.now c.in-Ok.place c.index-rows-place.result (sym c.in-Ok.ensures.place)))

pub returns-in-Err : goal.returns-in-Err
returns-in-Err g c = ap (option_map (λ row. row.id)) (sym (find-gap g.Res.Ord.cmp g.met.Res.Ord.total c.args.key.now c.args.rows.now _ c.requires (sym c.in-Err.ensures.place)))
