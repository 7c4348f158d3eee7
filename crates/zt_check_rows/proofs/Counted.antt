-- Numbers of expressions.
use Rattle.std.proofs.Common.{◌≡◌, true, false, if◌then◌else◌, List, [], ◌∷◌, ◌++◌, refl}
use Rattle.std.specs.declared.cmp.Ordering.{Ordering}
use Rattle.zt_protocol.specs.Interest.{has_aggregate}
use Rattle.zt_model.specs.Entities.{numbered_by, numbered_with}
use Rattle.zt_model.specs.Rows.{InterestRow}
use Rattle.zt_model.specs.Lists.{is_among}

module _ {K : Type 0} (cmp : K → K → Ordering) where
  pub number_none : (known : List K) → known ≡ numbered_with cmp [] known
  unfolding numbered_with
  number_none known = refl

  pub number_by : (interest : InterestRow K) (known : List K) → has_aggregate interest.options ≡ false → known ≡ numbered_with cmp (numbered_by cmp interest) known
  unfolding numbered_with
  number_by interest known none_ = rw none_ refl

  pub number_known : (e : K) (known : List K) → is_among cmp e known ≡ true → known ≡ numbered_with cmp (e ∷ []) known
  unfolding numbered_with
  number_known e known there = rw there refl

  pub number_new : (e : K) (known : List K) → is_among cmp e known ≡ false → known ++ e ∷ [] ≡ numbered_with cmp (e ∷ []) known
  unfolding numbered_with
  number_new e known none_ = rw none_ refl

  -- expressions get numbers one after another
  pub number_both : (one two known : List K) → numbered_with cmp two (numbered_with cmp one known) ≡ numbered_with cmp (one ++ two) known
  unfolding numbered_with
  number_both [] two known = refl
  number_both (e ∷ one) two known = number_both one two (if is_among cmp e known then known else known ++ e ∷ [])

  pub number_one : (e : K) (es known : List K) → numbered_with cmp es (numbered_with cmp (e ∷ []) known) ≡ numbered_with cmp (e ∷ es) known
  unfolding numbered_with
  number_one e es known = refl
