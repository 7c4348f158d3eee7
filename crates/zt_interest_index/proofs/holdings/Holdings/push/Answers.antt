use Rattle.std.proofs.Common.{◌++◌, [], ◌∷◌, List, Option, ap, subst, sym, ℕ, ◌∙◌}
use Rattle.zt_interest_index.specs.Holdings.{AreAlike, AreRising}
use Rattle.zt_interest_index.proofs.holdings.Holdings.push.Goals as goal

pub invariant_of-self-2 : goal.invariant_of-self-2
invariant_of-self-2 g c =
    let more : List ((ℕ × ℕ) × Option g.row.K.Denot) → List ((ℕ × ℕ) × Option g.row.K.Denot) = λ rows. rows ++ ((c.args.face, c.args.id), c.args.about) ∷ [] in
    let pushed = ap more c.as_slice-rows.ensures.value ∙ sym c.in_ok-push.ensures.items in (
      (λ alike.
          subst (λ (rows : List ((ℕ × ℕ) × Option g.row.K.Denot)). AreAlike rows) pushed
          (c.stay_alike-are_alike.ensures (c.args.face, c.args.id) alike)),
      (λ rising.
          subst (λ (rows : List ((ℕ × ℕ) × Option g.row.K.Denot)). AreRising rows) pushed
          (c.stay_rising-are_rising.ensures c.args.about rising)),
    )
