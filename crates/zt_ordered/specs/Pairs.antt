-- Rows that stand under numbers, each seen as a pair.
use Rattle.std.specs.Prelude.{◌≡◌, List, [], ◌∷◌, map, refl}
use Rattle.std.proofs.Common.{ap}

-- pairs are seen as they are
pub pairs-same : {X : Type 0} (rows : List X) → rows ≡ map (λ row. row) rows
pairs-same [] = refl
pairs-same (row ∷ rows) = ap (λ rest. row ∷ rest) (pairs-same rows)
