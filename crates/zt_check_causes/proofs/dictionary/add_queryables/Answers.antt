use Rattle.std.proofs.Common.{◌<◌, ◌≤◌, ap, arith, length, map}
use Rattle.std.proofs.lemmas.List.{drop_all}
use Rattle.zt_check_causes.proofs.Numbered.{all_numbered, more_rows_numbered}
use Rattle.zt_check_causes.proofs.dictionary.add_queryables.Goals as goal

pub loop-queryable-preserved : goal.loop-queryable-preserved
loop-queryable-preserved g c =
    let rows = c.args.queryables.now in
    let i = c.loop-queryable.queryable-index in
    let within : i < length rows = omega arith in
    more_rows_numbered g.K.Ord.cmp (λ q. q.0) rows i c.queryable-item.result _ _ _ within c.queryable-item.is c.in_ok-add_new.ensures c.loop-queryable.invariant

pub returns : goal.returns
returns g c =
    let rows = c.args.queryables.now in
    let i = c.loop-queryable.queryable-index in
    let past : length rows ≤ i = omega arith in
    all_numbered g.K.Ord.cmp _ _ _ (ap (map (λ q. q.0)) (drop_all i rows past)) c.loop-queryable.invariant
