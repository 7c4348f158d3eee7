use Rattle.std.proofs.Common.{◌+◌, [], ap, sym, unwrap_or, ◌∙◌}
use Rattle.std.proofs.lemmas.Result.{on_ok_weaker}
use Rattle.zt_indexes.proofs.Kept.{counted-more}
use Rattle.zt_indexes.specs.Counted.{count_in, one_in}
use Rattle.zt_indexes.specs.Grouped.{key-with}
use Rattle.zt_indexes.proofs.live.put_first.Goals as goal

pub returns-clause-more : goal.returns-clause-more
returns-clause-more g c =
    on_ok_weaker c.put_counts.result
    (λ puts absent.
    counted-more g.K.Ord.cmp g.met.K.Ord.total c.args.region c.args.expr.now c.add.new.self c.args.keys.now.entries c.put_counts.new.keys.entries puts
    (λ r. c.in_ok-add.ensures.ok r ∙ ap (λ rows. count_in r rows + one_in r c.args.region) (c.new-counts.ensures ∙ sym (ap (λ x. unwrap_or x []) absent))))
    c.put_counts.ensures.with

pub returns-clause-key : goal.returns-clause-key
returns-clause-key g c =
    on_ok_weaker c.put_counts.result
    (λ puts. key-with g.K.Ord.cmp c.args.expr.now c.add.new.self c.args.keys.now.entries c.put_counts.new.keys.entries puts)
    c.put_counts.ensures.with
