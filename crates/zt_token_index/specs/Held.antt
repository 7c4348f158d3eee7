-- How what faces were told is held.
--     pairs_of faces                 the pairs of face and id of an expression: none, one, or those in a box
--     index_in_order cmp entries     the entries of a table in key order, of each key the first
--     IsWith cmp e x old new         this stands under an expression, and all else stays
--     IsWithout cmp e old new        an expression is gone, and all else stays
use Rattle.std.specs.Prelude.{◌≡◌, ℕ, if◌then◌else◌, List, [], ◌∷◌, Some, None}
use Rattle.std.specs.BTreeMap.{is_at}
use Rattle.std.specs.FinMap.Entries.{put}
use Rattle.std.specs.Map.{lookup}
use Rattle.std.specs.declared.cmp.Ordering.{Ordering}
use Rattle.zt_token_index.specs.declared.faces.Faces.{Faces}
use Rattle.zt_token_index.specs.declared.faces.Faces.TheVariants.{Empty, One, More}

abbrev pub pairs_of : Faces → List (ℕ × ℕ)
pairs_of Empty = []
pairs_of (One pair) = pair ∷ []
pairs_of (More many) = many.value

module _ {K X : Type 0} (cmp : K → K → Ordering) where
  unfoldable pub index_in_order : List (K × X) → List (K × X)
  index_in_order [] = []
  index_in_order (e ∷ es) = put cmp e.0 e.1 (index_in_order es)

  pub record IsWith (e : K) (x : X) (old new : List (K × X)) : Type 0 where
    pub at : (q : K) → lookup (is_at (cmp q)) new ≡ (if is_at (cmp e) q then Some x else lookup (is_at (cmp q)) old)

  pub record IsWithout (e : K) (old new : List (K × X)) : Type 0 where
    pub at : (q : K) → lookup (is_at (cmp q)) new ≡ (if is_at (cmp e) q then None else lookup (is_at (cmp q)) old)
