-- Where an expression stands among entries, and what a write there does.
use Rattle.std.proofs.Common.{◌≡◌, ℕ, ◌+◌, Bool, true, ⊎_elim, IfNone, IfSome, List, [], ◌∷◌, Option, Some, None, position, slice_get, suc, zero, refl, subst, sym, ap, ◌∙◌, arith}
use Rattle.std.proofs.lemmas.Map.Entries.{lookup_from_place}
use Rattle.std.proofs.lemmas.Option.{same_Some, slice_get-map, slice_get_cases}
use Rattle.std.specs.BTreeMap.{is_at}
use Rattle.std.specs.Cmp.{IsEquivalence}
use Rattle.std.specs.List.{IsDistinct, position_or_len}
use Rattle.std.specs.Map.{keys_of, lookup, lookup_key, values_of}
use Rattle.std.specs.Option.{option_map}
use Rattle.std.specs.Ordering.{is_eq}
use Rattle.std.specs.declared.cmp.Ordering.{Ordering}
use Rattle.std.specs.declared.cmp.Ordering.TheVariants.{Equal}
use Rattle.indexmap.proofs.CallerLemmas.{updates-with_value_at}
use Rattle.indexmap.proofs.MapLemmas.{Found-position, Missing-position}
use Rattle.indexmap.specs.IndexMap.{IndexMap, insert_entry, IsUnique, set_value_at, Updates}
use Rattle.zt_ordered.specs.Test.{by_test}
use Rattle.zt_token_index.specs.Held.{IsWith, IsWithout}
use Rattle.zt_token_index.specs.Told.{told_at}
use Rattle.zt_token_index.proofs.Changed.{entries-changed, equal-from, lookup-tied_by, told-found}

module _ {K X : Type 0} where
  -- the value of an entry stands among the values where the entry stands
  pub value-there : (entries : List (K × X)) (at : ℕ) (e : K × X) (x : X) → slice_get entries at ≡ Some e → slice_get (values_of entries) at ≡ Some x → x ≡ e.1
  value-there entries at e x is value =
      same_Some _ _ (sym value ∙ slice_get-map (λ (e : K × X). e.1) entries at ∙ ap (option_map (λ (e : K × X). e.1)) is)

  -- a value that is written over itself changes nothing
  pub written-same : (entries : List (K × X)) (at : ℕ) (e : K × X) → slice_get entries at ≡ Some e → set_value_at entries at e.1 ≡ entries
  written-same [] at e is = refl
  written-same (x ∷ entries) zero e is = ap (λ (y : K × X). (x.0, y.1) ∷ entries) (sym (same_Some _ _ is))
  written-same (x ∷ entries) (suc at) e is = ap (λ es. x ∷ es) (written-same entries at e is)

  -- a value stands where it was written
  pub stands-written : (entries : List (K × X)) (at : ℕ) (e : K × X) (x : X) → slice_get entries at ≡ Some e → slice_get (set_value_at entries at x) at ≡ Some (e.0, x)
  stands-written [] at e x is = cc
  stands-written (y ∷ entries) zero e x is = ap (λ (z : K × X). Some (z.0, x)) (same_Some _ _ is)
  stands-written (y ∷ entries) (suc at) e x is = stands-written entries at e x is

  module _ (test : K → Bool) where
    key-passes : (entries : List (K × X)) (key : K) → lookup_key test entries ≡ Some key → test key ≡ true
    key-passes [] key is = cc
    key-passes (e ∷ entries) key is =
        by_test (test e.0)
        (λ t. let same : e.0 ≡ key = same_Some _ _ (rw t at is) in subst (λ k. test k ≡ true) same t)
        (λ t. key-passes entries key (rw t at is))

    -- the first entry whose key passes
    pub first-place : (entries : List (K × X)) (at : ℕ) → position test (keys_of entries) ≡ Some at → (e : K × X) × (slice_get entries at ≡ Some e) × (test e.0 ≡ true) × (lookup test entries ≡ Some e.1)
    first-place entries at is =
        let found = Found-position test entries at is in
        ⊎_elim
        (λ there.
        let key = slice_get-map (λ (e : K × X). e.0) entries at ∙ ap (option_map (λ (e : K × X). e.0)) there.2 in
        let value = slice_get-map (λ (e : K × X). e.1) entries at ∙ ap (option_map (λ (e : K × X). e.1)) there.2 in
        (there.0, there.2, key-passes entries there.0.0 (found.key ∙ key), found.value ∙ value))
        (λ past. absurd (omega (arith, found.within, past.0)))
        (slice_get_cases entries at).1

one-more : (n : ℕ) → 1 + n ≡ suc n
one-more n = omega arith

module _ {K : Type 0} {eq : K → K → Bool} (cmp : K → K → Ordering) (ties : (a b : K) → eq a b ≡ is_eq (cmp a b)) where
  module _ (one : (x y : K) → cmp x y ≡ Equal → x ≡ y) where
    equal-one : (x y : K) → eq x y ≡ true → x ≡ y
    equal-one x y equal = one x y (equal-from _ (sym (ties x y) ∙ equal))

    stands : (expr : K) (entries : List (K × List (ℕ × ℕ))) (at : ℕ) (e : K × List (ℕ × ℕ)) → slice_get entries at ≡ Some e → e.0 ≡ expr → lookup (eq expr) entries ≡ Some e.1 → slice_get entries at ≡ Some (expr, told_at cmp expr entries)
    stands expr entries at e is same found =
        let told = told-found cmp ties (Some e.1) expr entries (sym found) in
        is ∙ (λ i. Some (same i, told i))

    -- an equal key stands there
    pub stands-there : IsEquivalence eq → (expr : K) (entries : List (K × List (ℕ × ℕ))) (at : ℕ) (e : K × List (ℕ × ℕ)) → IsDistinct eq (keys_of entries) → Some e ≡ slice_get entries at → true ≡ eq e.0 expr → slice_get entries at ≡ Some (expr, told_at cmp expr entries)
    stands-there laws expr entries at e distinct is equal =
        let same = equal-one e.0 expr (sym equal) in
        let found = lookup_from_place laws entries at e.0 e.1 distinct (sym is) in
        stands expr entries at e (sym is) same (subst (λ k. lookup (eq k) entries ≡ Some e.1) same found)

    -- it was looked for among the keys
    pub stands-found : (expr : K) (entries : List (K × List (ℕ × ℕ))) (found : Option ℕ) → found ≡ position (eq expr) (keys_of entries) → IfSome found (λ at. slice_get entries at ≡ Some (expr, told_at cmp expr entries))
    stands-found expr entries None is = tt
    stands-found expr entries (Some at) is =
        let first = first-place (eq expr) entries at (sym is) in
        stands expr entries at first.0 first.1 (sym (equal-one expr first.0.0 first.2)) first.3

    -- what is put in stands where an equal key stood, or last
    pub stands-put : {X : Type 0} (expr : K) (x : X) (entries : List (K × X)) → slice_get (insert_entry eq entries expr x) (position_or_len (eq expr) (keys_of entries)) ≡ Some (expr, x)
    stands-put expr x [] = refl
    stands-put {X} expr x (e ∷ entries) =
        by_test (eq expr e.0)
        (λ t. rw t (ap (λ (k : K). Some (k, x)) (sym (equal-one expr e.0 t))))
        (λ t. rw t (ap (slice_get (e ∷ insert_entry eq entries expr x)) (one-more (position_or_len (eq expr) (keys_of entries))) ∙ stands-put expr x entries))

  pub stands-nowhere : {X : Type 0} (expr : K) (entries : List (K × X)) (found : Option ℕ) → found ≡ position (eq expr) (keys_of entries) → IfNone found (lookup (is_at (cmp expr)) entries ≡ None)
  stands-nowhere expr entries None is = sym (lookup-tied_by cmp ties expr entries) ∙ (Missing-position (eq expr) entries (sym is)).value
  stands-nowhere expr entries (Some at) is = tt

  -- what is written where an expression stands is written under it
  pub with-written : {X S : Type 0} → IsEquivalence eq → (map : IndexMap K X S) → IsUnique eq map → (expr : K) (at : ℕ) (old new : X) → slice_get map.entries at ≡ Some (expr, old) → IsWith cmp expr new map.entries (set_value_at map.entries at new)
  with-written laws map unique expr at old new is = record {
    at = entries-changed cmp ties (Some new) expr map.entries (set_value_at map.entries at new) (updates-with_value_at map at new laws unique expr old is).0;
  }

  -- the entry of an expression is taken out
  pub without-taken : {X S : Type 0} (old new : IndexMap K X S) (taken : Option (K × X)) (e : K × X) → taken ≡ Some e → IfSome taken (λ p. Updates eq old new p.0 None) → IsWithout cmp e.0 old.entries new.entries
  without-taken old new taken e is updates = record { at = entries-changed cmp ties None e.0 old.entries new.entries (subst (λ r. IfSome r (λ p. Updates eq old new p.0 None)) is updates).0 }
