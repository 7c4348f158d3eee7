use Rattle.std.proofs.Common.{◌++◌, [], ◌∷◌, List, Option, Some, ℕ, ap, sym, unwrap_or, ◌∙◌}
use Rattle.std.proofs.lemmas.Result.{on_ok_weaker}
use Rattle.zt_indexes.specs.Grouped.{key-with}
use Rattle.zt_interest_index.proofs.Changed.{changes-written}
use Rattle.zt_interest_index.proofs.keyed.put_first.Goals as goal

pub returns-clause-more : goal.returns-clause-more
returns-clause-more g c =
    let more : List ((ℕ × ℕ) × Option g.row.K.Denot) → List ((ℕ × ℕ) × Option g.row.K.Denot) = λ rows. rows ++ ((c.args.face, c.args.id), Some c.args.key.now) ∷ [] in
    on_ok_weaker c.put_rows.result
    (λ puts absent.
    changes-written g.K.Ord.cmp g.met.K.Ord.total c.args.key.now more c.args.keyed.now.entries c.put_rows.new.keyed.entries c.in_ok-rows.rows
    (rw c.in_ok-copy.ensures at c.in_ok-rows.ensures ∙ ap more (sym (ap (λ x. unwrap_or x []) absent))) puts.at)
    c.put_rows.ensures.with

pub returns-clause-key : goal.returns-clause-key
returns-clause-key g c =
    on_ok_weaker c.put_rows.result
    (λ puts. key-with g.K.Ord.cmp c.args.key.now c.in_ok-rows.rows c.args.keyed.now.entries c.put_rows.new.keyed.entries puts)
    c.put_rows.ensures.with
