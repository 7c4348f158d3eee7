use Rattle.std.proofs.Common.{◌≡◌, ◌++◌, ◌==◌, List, [], ◌∷◌, true, arith, eqb-true, length, refl, rules}
use Rattle.zt_calls.proofs.speech.add.Goals as goal

-- behind nothing
behind_nothing : {A : Type 0} (xs ys : List A) → (length xs == 0) ≡ true → ys ≡ xs ++ ys
behind_nothing [] ys none = refl
behind_nothing (x ∷ xs) ys none = absurd (omega (arith, eqb-true (length (x ∷ xs)) 0 none))

pub returns-then-is_empty : goal.returns-then-is_empty
returns-then-is_empty g c =
    let none : (length c.args.said.now.items == 0) ≡ true = search rules in
    behind_nothing c.args.said.now.items c.args.sends.items none
