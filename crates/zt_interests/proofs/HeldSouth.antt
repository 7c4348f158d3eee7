-- An interest that a south-bound face holds is found among those of its kind in its expression.
use Rattle.std.proofs.Common.{◌≡◌, ℕ, ◌==◌, Bool, true, false, ◌&&◌, ◌||◌, not, List, [], ◌∷◌, Option, Some, None, ap, arith, filter, flat_map, map, refl, sym, ◌∙◌}
use Rattle.std.proofs.lemmas.Bool.Decides.{nat_tests}
use Rattle.std.proofs.lemmas.List.Folds.{list_any-append}
use Rattle.std.proofs.lemmas.Option.{same_Some}
use Rattle.std.specs.Int.RustNames.{bit_and}
use Rattle.std.specs.List.{AllByRecursion, list_any}
use Rattle.std.specs.List.Sorted.{IsStrictlySortedBy}
use Rattle.std.specs.Map.{keys_of}
use Rattle.std.specs.Ordering.{is_eq, nat_cmp, ordering_then}
use Rattle.std.specs.declared.cmp.Ordering.{Ordering}
use Rattle.std.specs.declared.cmp.Ordering.TheVariants.{Less, Equal, Greater}
use Rattle.zt_keys.specs.Test.{by_test}
use Rattle.zt_region.specs.Region.{is_north}
use Rattle.zt_protocol.specs.Interest.{has_tokens}
use Rattle.zt_rows.specs.ById.{IsInOrder}
use Rattle.zt_interest_index.specs.Held.{any_kept}
use Rattle.zt_token_index.specs.Seekers.{HeldRow, in_others, in_tokens, kind_rows}
use Rattle.zt_model.specs.Lists.{at_id, first_where, is_some_and}
use Rattle.zt_model.specs.Parts.{find_face}
use Rattle.zt_model.specs.Routing.{asks_same, expression_order, is_held_south}
use Rattle.zt_model.specs.Rows.{ById, Face, InterestRow, Rows}
use Rattle.zt_faces.specs.Rising.{IsRising}
use Rattle.zt_tokens.proofs.Chosen.{all-found}
use Rattle.zt_interests.specs.Held.{holds_south_as, is_held_as}

itself : (n : ℕ) → (n == n) ≡ true
itself n = grind (arith, nat_tests)

tied-below : (n a b : ℕ) → (n == a) ≡ true → nat_cmp a b ≡ Less → (n == b) ≡ false
tied-below n a b h k = grind (arith, nat_tests)

tied : (a b : ℕ) → nat_cmp a b ≡ Equal → a ≡ b
tied a b h = grind (arith, nat_tests)

equal-from : (r : Ordering) → is_eq r ≡ true → r ≡ Equal
equal-from Less h = cc
equal-from Equal h = refl
equal-from Greater h = cc

first-equal : (o p : Ordering) → is_eq (ordering_then o p) ≡ true → is_eq o ≡ true
first-equal Less p h = h
first-equal Equal p h = refl
first-equal Greater p h = h

second-equal : (o p : Ordering) → is_eq (ordering_then o p) ≡ true → is_eq p ≡ true
second-equal Less p h = cc
second-equal Equal p h = h
second-equal Greater p h = cc

and_true : (a b : Bool) → a ≡ true → b ≡ true → (a && b) ≡ true
and_true true b h k = k
and_true false b h k = cc

and_second : (a b : Bool) → (a && b) ≡ true → b ≡ true
and_second true b h = h
and_second false b h = cc

and_first : (a b : Bool) → (a && b) ≡ true → a ≡ true
and_first true b h = refl
and_first false b h = cc

or_first : (a b : Bool) → a ≡ true → (a || b) ≡ true
or_first true b h = refl
or_first false b h = cc

or_second : (a b : Bool) → b ≡ true → (a || b) ≡ true
or_second true b h = refl
or_second false b h = h

or_none : (a b : Bool) → b ≡ false → (a || b) ≡ a
or_none true b h = refl
or_none false b h = h

nothing : (a b c : Bool) → b ≡ false → ((a && b) && c) ≡ false
nothing true true c h = cc
nothing true false c h = refl
nothing false b c h = refl

north_none : (north b : Bool) → north ≡ true → (not north && b) ≡ false
north_none true b h = refl
north_none false b h = cc

south_all : (north b : Bool) → north ≡ false → (not north && b) ≡ b
south_all true b h = cc
south_all false b h = refl

module _ {A : Type 0} where
  any_weaker : (p q : A → Bool) → ((x : A) → p x ≡ true → q x ≡ true) → (xs : List A) → list_any p xs ≡ true → list_any q xs ≡ true
  any_weaker p q weaker [] h = cc
  any_weaker p q weaker (x ∷ xs) h =
      by_test (p x)
      (λ t. or_first (q x) (list_any q xs) (weaker x t))
      (λ t. or_second (q x) (list_any q xs) (any_weaker p q weaker xs (rw t at h)))

  any_none : (p : A → Bool) → ((x : A) → p x ≡ false) → (xs : List A) → list_any p xs ≡ false
  any_none p none [] = refl
  any_none p none (x ∷ xs) = let here = none x in rw here (any_none p none xs)

  any_mapped : {B : Type 0} (p : B → Bool) (k : A → B) (xs : List A) → list_any p (map k xs) ≡ list_any (λ x. p (k x)) xs
  any_mapped p k [] = refl
  any_mapped p k (x ∷ xs) = ap (λ b. p (k x) || b) (any_mapped p k xs)

  any_same : (p q : A → Bool) → ((x : A) → p x ≡ q x) → (xs : List A) → list_any p xs ≡ list_any q xs
  any_same p q same [] = refl
  any_same p q same (x ∷ xs) = λ i. same x i || any_same p q same xs i

  -- ---- the row under an id
  pub under-none : (id : ℕ) (p : A → Bool) (rows : ById A) → at_id id rows ≡ None → list_any (λ row. id == row.0 && p row.1) rows ≡ false
  under-none id p [] is = refl
  under-none id p (row ∷ rows) is = by_test (id == row.0) (λ t. let found = rw t at is in cc) (λ t. rw t (under-none id p rows (rw t at is)))

  none-behind : (id n : ℕ) (p : A → Bool) (rows : ById A) → (id == n) ≡ true → AllByRecursion (λ k. nat_cmp n k ≡ Less) (keys_of rows) → list_any (λ row. id == row.0 && p row.1) rows ≡ false
  none-behind id n p [] t below = refl
  none-behind id n p (row ∷ rows) t below = let apart = tied-below id n row.0 t below.0 in rw apart (none-behind id n p rows t below.1)

  pub under-some : (id : ℕ) (p : A → Bool) (rows : ById A) (x : A) → IsInOrder rows → at_id id rows ≡ Some x → list_any (λ row. id == row.0 && p row.1) rows ≡ p x
  unfolding IsStrictlySortedBy
  under-some id p [] x sorted is = cc
  under-some id p (row ∷ rows) x sorted is =
      by_test (id == row.0)
      (λ t.
      let same : row.1 ≡ x = same_Some row.1 x (rw t at is) in
      let behind = none-behind id row.0 p rows t sorted.0 in
      rw t (or_none (p row.1) (list_any (λ r. id == r.0 && p r.1) rows) behind ∙ ap p same))
      (λ t. rw t (under-some id p rows x sorted.1 (rw t at is)))

module _ {K : Type 0} (cmp : K → K → Ordering) (matching : K → K → Bool) where
  -- an expression that compares equal is the same
  same_expression : ((a b : K) → cmp a b ≡ Equal → a ≡ b) → (a b : Option K) → is_eq (expression_order cmp matching a b) ≡ true → b ≡ a
  same_expression exact None None h = refl
  same_expression exact None (Some b) h = cc
  same_expression exact (Some a) None h = cc
  same_expression exact (Some a) (Some b) h = ap Some (sym (exact a b (equal-from (cmp a b) h)))

  -- a row that is of such an interest has its expression
  pub held-in : ((a b : K) → cmp a b ≡ Equal → a ≡ b) → (g : Rows K) (interest : InterestRow K) (row : HeldRow K) → is_held_as cmp matching g interest row ≡ true → row.1 ≡ interest.expr
  held-in exact g interest row h = same_expression exact interest.expr row.1 (and_first (is_eq (expression_order cmp matching interest.expr row.1)) _ h)

  in_expression : (interest other : InterestRow K) → asks_same cmp matching interest other ≡ true → is_eq (expression_order cmp matching interest.expr other.expr) ≡ true
  in_expression interest other h = first-equal (expression_order cmp matching interest.expr other.expr) (nat_cmp interest.options.0 other.options.0) h

  -- an interest that asks for the same is one of the same kind
  same_kind : (interest other : InterestRow K) → asks_same cmp matching interest other ≡ true → has_tokens interest.options ≡ has_tokens other.options
  same_kind interest other h =
      ap (λ (bits : ℕ). bit_and bits 8 == 8)
      (tied interest.options.0 other.options.0 (equal-from (nat_cmp interest.options.0 other.options.0) (second-equal (expression_order cmp matching interest.expr other.expr) (nat_cmp interest.options.0 other.options.0) h)))

  pub alike-tokens : (interest : InterestRow K) → has_tokens interest.options ≡ true → (other : InterestRow K) → asks_same cmp matching interest other ≡ true → in_tokens other ≡ true
  alike-tokens interest is other h = sym (same_kind interest other h) ∙ is

  pub alike-others : (interest : InterestRow K) → has_tokens interest.options ≡ false → (other : InterestRow K) → asks_same cmp matching interest other ≡ true → in_others other ≡ true
  alike-others interest is other h = ap not (sym (same_kind interest other h) ∙ is)

  module _ (kind : InterestRow K → Bool) (interest : InterestRow K) (alike : (other : InterestRow K) → asks_same cmp matching interest other ≡ true → kind other ≡ true) where
    -- ---- the interests of one face
    module _ (held : ById (InterestRow K)) where
      abbrev asks : ℕ × InterestRow K → Bool
      asks row = asks_same cmp matching interest row.1

      abbrev is_under : ℕ → Bool
      is_under id = list_any (λ row. id == row.0 && asks row) held

      -- the row is found, as one of the kind
      abbrev is_seen : ℕ × InterestRow K → Bool
      is_seen row = (is_eq (expression_order cmp matching interest.expr row.1.expr) && is_under row.0) && kind row.1

      seen-each : (rows : ById (InterestRow K)) → ((p : ℕ × InterestRow K → Bool) → list_any p rows ≡ true → list_any p held ≡ true) → list_any asks rows ≡ true → list_any is_seen rows ≡ true
      seen-each [] among h = cc
      seen-each (row ∷ rows) among h =
          by_test (asks row)
          (λ t.
          let here : list_any (λ r. row.0 == r.0 && asks r) (row ∷ rows) ≡ true = or_first (row.0 == row.0 && asks row) (list_any (λ r. row.0 == r.0 && asks r) rows) (and_true (row.0 == row.0) (asks row) (itself row.0) t) in
          let seen : is_seen row ≡ true =
          and_true _ _ (and_true _ _ (in_expression interest row.1 t) (among (λ r. row.0 == r.0 && asks r) here)) (alike row.1 t) in
          or_first (is_seen row) (list_any is_seen rows) seen)
          (λ t. or_second (is_seen row) (list_any is_seen rows) (seen-each rows (λ p k. among p (or_second (p row) (list_any p rows) k)) (rw t at h)))

      unseen : list_any asks held ≡ false → (row : ℕ × InterestRow K) → is_seen row ≡ false
      unseen none row =
          by_test (is_under row.0)
          (λ t. let some : list_any asks held ≡ true = any_weaker (λ r. row.0 == r.0 && asks r) asks (λ r k. and_second (row.0 == r.0) (asks r) k) held t in cc)
          (λ t. nothing (is_eq (expression_order cmp matching interest.expr row.1.expr)) (is_under row.0) (kind row.1) t)

      seen-all : list_any is_seen held ≡ list_any asks held
      seen-all =
          by_test (list_any asks held)
          (λ t. seen-each held (λ p k. k) t ∙ sym t)
          (λ t. any_none is_seen (unseen t) held ∙ sym t)

    module _ (g : Rows K) where
      of_face : (f : Face K) → find_face f.number g ≡ Some f
          → list_any (is_held_as cmp matching g interest) (kind_rows kind f) ≡ (not (is_north f.region) && list_any (λ row. asks_same cmp matching interest row.1) f.held)
      of_face f found =
          any_mapped (is_held_as cmp matching g interest) (λ row. ((f.number, row.0), row.1.expr)) (filter (λ row. kind row.1) f.held)
          ∙ any_kept (λ row. is_held_as cmp matching g interest ((f.number, row.0), row.1.expr)) (λ row. kind row.1) f.held
          ∙ by_test (is_north f.region)
          (λ t.
          any_none is_found (λ row. nothing (in_it row) (is_some_and (find_face f.number g) (holds_south_as cmp matching interest row.0)) (kind row.1) (here row ∙ north_none (is_north f.region) (is_under f.held row.0) t)) f.held
          ∙ sym (north_none (is_north f.region) (list_any (asks f.held) f.held) t))
          (λ t.
          any_same is_found (is_seen f.held) (λ row. ap (λ b. (in_it row && b) && kind row.1) (here row ∙ south_all (is_north f.region) (is_under f.held row.0) t)) f.held
          ∙ seen-all f.held
          ∙ sym (south_all (is_north f.region) (list_any (asks f.held) f.held) t))
        where
          in_it : ℕ × InterestRow K → Bool
          in_it row = is_eq (expression_order cmp matching interest.expr row.1.expr)

          is_found : ℕ × InterestRow K → Bool
          is_found row = is_held_as cmp matching g interest ((f.number, row.0), row.1.expr) && kind row.1

          here : (row : ℕ × InterestRow K) → is_some_and (find_face f.number g) (holds_south_as cmp matching interest row.0) ≡ holds_south_as cmp matching interest row.0 f
          here row = ap (λ (o : Option (Face K)). is_some_and o (holds_south_as cmp matching interest row.0)) found

      each : (fs : List (Face K)) → AllByRecursion (λ f. first_where (λ x. f.number == x.number) g.faces ≡ Some f) fs
          → list_any (is_held_as cmp matching g interest) (flat_map (kind_rows kind) fs) ≡ list_any (λ f. not (is_north f.region) && list_any (λ row. asks_same cmp matching interest row.1) f.held) fs
      each [] found = refl
      each (f ∷ fs) found =
          list_any-append (is_held_as cmp matching g interest) (kind_rows kind f) (flat_map (kind_rows kind) fs)
          ∙ (λ i. of_face f found.0 i || each fs found.1 i)

      -- they are found by face, id and expression
      pub held-south-found : IsRising (λ f. f.number) g.faces → list_any (is_held_as cmp matching g interest) (flat_map (kind_rows kind) g.faces) ≡ is_held_south cmp matching g interest
      unfolding is_held_south
      held-south-found rising = each g.faces (all-found g.faces rising)
