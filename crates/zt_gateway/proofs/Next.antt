-- The next expression in key order, found by a walk.
--     next_more     an expression more becomes the next one, if it is nearer
--     next_in       .. and so does that of a place more, if one stands there
use Rattle.std.proofs.Common.{◌≡◌, Bool, true, false, ◌&&◌, ℕ, List, [], ◌∷◌, map, Option, None, Some, refl, sym, ap, subst}
use Rattle.std.proofs.lemmas.Cmp.{tied_itself}
use Rattle.std.specs.Cmp.{IsTotalOrder}
use Rattle.std.specs.FinMap.Entries.{by_order}
use Rattle.std.specs.Ordering.{is_lt}
use Rattle.std.specs.declared.cmp.Ordering.{Ordering}
use Rattle.std.specs.declared.cmp.Ordering.TheVariants.{Less, Equal, Greater}
use Rattle.zt_laws.proofs.Keys.{in_key_order_is}
use Rattle.zt_laws.proofs.Lists.{by_test, each_weaker}
use Rattle.zt_laws.specs.Order.{InKeyOrder}
use Rattle.zt_model.specs.Lists.{first_where, in_key_order, with_key}
use Rattle.zt_model.specs.Transcript.{Each}
use Rattle.zt_rows.specs.Places.{rows_in}
use Rattle.zt_gateway.specs.Lookups.{is_above, is_below, nearer, nearer_in, next_above}

module _ {K : Type 0} (cmp : K → K → Ordering) (total : IsTotalOrder cmp) where
  -- what is below each is below the first that passes
  below_first : (p : K → Bool) (e : K) (ks : List K) → Each (λ x. cmp e x ≡ Less) ks → is_below cmp (first_where p ks) e ≡ true
  below_first p e [] all = refl
  below_first p e (k ∷ ks) all = by_test (p k) (λ t. rw t (ap is_lt all.0)) (λ t. rw t (below_first p e ks all.1))

  and_true : (b : Bool) → (b && true) ≡ b
  and_true true = refl
  and_true false = refl

  and_false : (b : Bool) → (b && false) ≡ false
  and_false true = refl
  and_false false = refl

  module _ (equal_is_same : (a b : K) → cmp a b ≡ Equal → a ≡ b) (after : Option K) where
    abbrev p : K → Bool
    p = is_above cmp after

    -- one that stands already is no nearer
    again : (k : K) (ks : List K) → first_where p (k ∷ ks) ≡ nearer cmp after k (first_where p (k ∷ ks))
    again k ks =
        by_test (p k)
        (λ t. let not_below : is_lt (cmp k k) ≡ false = ap is_lt (tied_itself total k) in rw (t, not_below) refl)
        (λ t. rw t refl)

    next_with : (e : K) (ks : List K) → InKeyOrder cmp ks → first_where p (with_key cmp e ks) ≡ nearer cmp after e (first_where p ks)
    next_with e [] ordered = by_test (p e) (λ t. rw t refl) (λ t. rw t refl)
    next_with e (k ∷ ks) ordered =
        elim (cmp e k) as (λ o. cmp e k ≡ o → first_where p (by_order o (e ∷ k ∷ ks) (k ∷ ks) (k ∷ with_key cmp e ks)) ≡ nearer cmp after e (first_where p (k ∷ ks))) [
          | Less ↦ λ h.
              let below = below_first p e (k ∷ ks) (h, each_weaker (λ x. cmp k x ≡ Less) (λ x. cmp e x ≡ Less) (λ x more. total.trans e k x h more) ks ordered.0) in
              rw (below, and_true (p e)) refl
          | Equal ↦ λ h. subst (λ x. first_where p (k ∷ ks) ≡ nearer cmp after x (first_where p (k ∷ ks))) (sym (equal_is_same e k h)) (again k ks)
          | Greater ↦ λ h.
              by_test (p k)
              (λ t. let not_below : is_lt (cmp e k) ≡ false = ap is_lt h in rw (t, not_below, and_false (p e)) refl)
              (λ t. rw t (next_with e ks ordered.1))
        ] refl

    pub next_more : (e : K) (es : List K) → next_above cmp after (e ∷ es) ≡ nearer cmp after e (next_above cmp after es)
    next_more e es = next_with e (in_key_order cmp es) (in_key_order_is cmp total es)

    pub next_in : (place : ℕ × Option K) (places : List (ℕ × Option K)) → next_above cmp after (map (λ row. row.1) (rows_in (place ∷ places)))
        ≡ nearer_in cmp after place.1 (next_above cmp after (map (λ row. row.1) (rows_in places)))
    next_in (id, None) places = refl
    next_in (id, Some e) places = next_more e (map (λ row. row.1) (rows_in places))
