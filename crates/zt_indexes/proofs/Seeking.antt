-- What is found among few is all that is sought.
use Rattle.std.proofs.Common.{◌≡◌, ℕ, Bool, true, false, ◌&&◌, ◌||◌, if◌then◌else◌, List, [], ◌∷◌, Option, Some, None, filter, is_some, not, unwrap_or, refl, sym, ap, ◌∙◌}
use Rattle.std.proofs.lemmas.Bool.{false≢true}
use Rattle.std.proofs.lemmas.List.Kept.{IsStrictlySortedBy-filter}
use Rattle.std.proofs.lemmas.Map.Lookups.{btree_set_from_contains}
use Rattle.std.specs.BTreeMap.{is_at}
use Rattle.std.specs.Cmp.{IsTotalOrder, eq_by_cmp_equiv, tied_itself}
use Rattle.std.specs.List.Sorted.{IsStrictlySortedBy}
use Rattle.std.specs.Map.{lookup}
use Rattle.std.specs.Ordering.{is_eq}
use Rattle.std.specs.declared.cmp.Ordering.{Ordering}
use Rattle.std.specs.declared.cmp.Ordering.TheVariants.{Equal}
use Rattle.zt_keys.specs.Test.{by_test}
use Rattle.zt_region.specs.declared.region.Region.{Region}
use Rattle.zt_indexes.specs.Counted.{is_shown_in}
use Rattle.zt_indexes.specs.Grouped.{Covers, equal-from, is_grouped, is_in}
use Rattle.zt_indexes.specs.Live.{counts_at, shown_keys}
use Rattle.zt_indexes.specs.Ordered.{ordered_entries}
use Rattle.zt_indexes.specs.Shown.{among-shown, shown-sorted}
use Rattle.zt_indexes.specs.Sought.{AreFound, is_found, is_found_plain, is_sought}
use Rattle.zt_indexes.specs.Wild.{HoldsWild}
use Rattle.zt_indexes.proofs.Ordered.{ordered-found, ordered-sorted}

and_none : (b : Bool) → (b && false) ≡ false
and_none true = refl
and_none false = refl

or_all : (b : Bool) → (b || true) ≡ true
or_all true = refl
or_all false = refl

and_first : (a b : Bool) → (a && b) ≡ true → a ≡ true
and_first true b h = refl
and_first false b h = cc

and_second : (a b : Bool) → (a && b) ≡ true → b ≡ true
and_second true b h = h
and_second false b h = cc

or_first : (a b : Bool) → a ≡ true → (a || b) ≡ true
or_first true b h = refl
or_first false b h = cc

or_second : (a b : Bool) → b ≡ true → (a || b) ≡ true
or_second true b h = refl
or_second false b h = h

by_option : {A G : Type 0} (o : Option A) → ((x : A) → o ≡ Some x → G) → (o ≡ None → G) → G
by_option None some none = none refl
by_option (Some x) some none = some x refl

-- where all that is sought stands, no more is found there than is sought
narrowed : (stands sought : Bool) → (sought ≡ true → stands ≡ true) → (stands && sought) ≡ sought
narrowed stands true h = ap (λ b. b && true) (h refl)
narrowed stands false h = and_none stands

-- a key more that is looked at
one-gathered : (a b this that found left : Bool) → a ≡ b → (b ≡ true → this ≡ that)
    → ((if a && this then true else found) || (left && that)) ≡ (found || ((b || left) && that))
one-gathered true true true true found left turned same = sym (or_all found)
one-gathered true true false false found left turned same = ap (λ x. found || x) (and_none left)
one-gathered true true true false found left turned same = let h = same refl in cc
one-gathered true true false true found left turned same = let h = same refl in cc
one-gathered true false this that found left turned same = cc
one-gathered false true this that found left turned same = cc
one-gathered false false this that found left turned same = refl

kept : (a passes left there : Bool) → there ≡ (passes && left) → (a ≡ true → passes ≡ true) → (a || there) ≡ (passes && (a || left))
kept true passes left there is own = sym (ap (λ b. b && true) (own refl))
kept false passes left there is own = is

dropped : (a passes left there : Bool) → there ≡ (passes && left) → (a ≡ true → passes ≡ false) → there ≡ (passes && (a || left))
dropped true passes left there is own = is ∙ ap (λ b. b && left) (own refl) ∙ sym (ap (λ b. b && true) (own refl))
dropped false passes left there is own = is

shown-there : (shown : Region → Bool) (found : Option (List (Region × ℕ))) → is_shown_in shown (unwrap_or found []) ≡ true → is_some found ≡ true
shown-there shown None h = h
shown-there shown (Some x) h = refl

module _ {K : Type 0} (cmp : K → K → Ordering) (o : IsTotalOrder cmp) (one : (a b : K) → cmp a b ≡ Equal → a ≡ b) where
  -- one of a list later, as many are found
  pub step : (sought : K → Bool) (q e : K) (found : Bool) (left : List K)
      → ((if is_at (cmp e) q && sought e then true else found) || (is_in cmp q left && sought q)) ≡ (found || (is_in cmp q (e ∷ left) && sought q))
  step sought q e found left =
      one-gathered (is_at (cmp e) q) (is_at (cmp q) e) (sought e) (sought q) found (is_in cmp q left) ((eq_by_cmp_equiv o).symm e q) (λ t. ap sought (sym (one q e (equal-from _ t))))

  pub among-filter : (passes : K → Bool) (q : K) (keys : List K) → is_in cmp q (filter passes keys) ≡ (passes q && is_in cmp q keys)
  among-filter passes q [] = sym (and_none (passes q))
  among-filter passes q (x ∷ xs) =
      by_test (passes x)
      (λ t. rw t (kept (is_at (cmp q) x) (passes q) (is_in cmp q xs) _ (among-filter passes q xs) (λ u. ap passes (one q x (equal-from _ u)) ∙ t)))
      (λ t. rw t (dropped (is_at (cmp q) x) (passes q) (is_in cmp q xs) _ (among-filter passes q xs) (λ u. ap passes (one q x (equal-from _ u)) ∙ t)))

  module _ (shown : Region → Bool) (counts : List (K × List (Region × ℕ))) (exprs : List K) (sorted : IsStrictlySortedBy cmp exprs) where
    shown-there-too : (q : K) → is_shown_in shown (counts_at cmp q counts) ≡ is_in cmp q (shown_keys shown (ordered_entries cmp counts))
    shown-there-too q =
        ap (λ x. is_shown_in shown (unwrap_or x [])) (sym (ordered-found cmp o q counts)) ∙ sym (among-shown cmp o shown q (ordered_entries cmp counts) (ordered-sorted cmp o counts))

    all-in-order : IsStrictlySortedBy cmp (shown_keys shown (ordered_entries cmp counts))
    all-in-order = shown-sorted cmp o shown (ordered_entries cmp counts) (ordered-sorted cmp o counts)

    -- keys in order that are all that are shown
    pub shown-listed : ((q : K) → is_in cmp q exprs ≡ is_shown_in shown (counts_at cmp q counts)) → exprs ≡ shown_keys shown (ordered_entries cmp counts)
    shown-listed all =
        btree_set_from_contains o (record { keys = exprs }) (record { keys = shown_keys shown (ordered_entries cmp counts) }) sorted all-in-order (λ q. all q ∙ shown-there-too q) one

    -- and all that match besides
    pub matching-listed : (matches : K → Bool) → ((q : K) → is_in cmp q exprs ≡ is_sought cmp matches shown counts q) → exprs ≡ filter matches (shown_keys shown (ordered_entries cmp counts))
    matching-listed matches all =
        btree_set_from_contains o (record { keys = exprs }) (record { keys = filter matches (shown_keys shown (ordered_entries cmp counts)) }) sorted
        (IsStrictlySortedBy-filter cmp matches (shown_keys shown (ordered_entries cmp counts)) all-in-order)
        (λ q. all q ∙ ap (λ b. matches q && b) (shown-there-too q) ∙ sym (among-filter matches q (shown_keys shown (ordered_entries cmp counts))))
        one

  module _ (matching : K → K → Bool) (numbered : K → Option ℕ)
      (agree : (a b : K) (m n : ℕ) → matching a b ≡ true → numbered a ≡ Some m → numbered b ≡ Some n → m ≡ n)
      (shown : Region → Bool) (key : K) (number : ℕ) (is : numbered key ≡ Some number) where
    module _ (groups : List (Option ℕ × List K)) (counts : List (K × List (Region × ℕ))) (covers : Covers cmp numbered groups counts) where
      -- what is sought stands at the number or at none
      stands : (q : K) → is_sought cmp (matching key) shown counts q ≡ true → (is_grouped cmp (Some number) q groups || is_grouped cmp None q groups) ≡ true
      stands q h =
          let matches : matching key q ≡ true = and_first _ _ h in
          let there : is_some (lookup (is_at (cmp q)) counts) ≡ true = shown-there shown _ (and_second (matching key q) _ h) in
          let at = covers.at q there in
          by_option (numbered q)
          (λ m some.
          let same : number ≡ m = agree key q number m matches is some in
          or_first _ _ (ap (λ n. is_grouped cmp n q groups) (ap (λ (x : ℕ). Some x) same ∙ sym some) ∙ at))
          (λ none. or_second (is_grouped cmp (Some number) q groups) _ (ap (λ n. is_grouped cmp n q groups) (sym none) ∙ at))

      seen : (q : K) → is_found cmp groups number (is_sought cmp (matching key) shown counts) q ≡ is_sought cmp (matching key) shown counts q
      seen q = narrowed _ _ (stands q)

      pub all-found : (exprs : List K) → AreFound cmp (is_found cmp groups number (is_sought cmp (matching key) shown counts)) exprs → exprs ≡ filter (matching key) (shown_keys shown (ordered_entries cmp counts))
      all-found exprs found = matching-listed shown counts exprs found.in_order (matching key) (λ q. found.among q ∙ seen q)

  module _ (matching : K → K → Bool) (numbered : K → Option ℕ)
      (same : (a b : K) (m n : ℕ) → matching a b ≡ true → numbered a ≡ Some m → numbered b ≡ Some n → a ≡ b)
      (shown : Region → Bool) (key : K) (plain : is_some (numbered key) ≡ true) where
    module _ (wilds : List K) (counts : List (K × List (Region × ℕ))) (holds : HoldsWild cmp numbered wilds counts) where
      -- what is sought is the key or has wildcards
      is-either : (q : K) → is_sought cmp (matching key) shown counts q ≡ true → is_in cmp q (key ∷ wilds) ≡ true
      is-either q h =
          let matches : matching key q ≡ true = and_first _ _ h in
          let there : is_some (lookup (is_at (cmp q)) counts) ≡ true = shown-there shown _ (and_second (matching key q) _ h) in
          by_option (numbered q)
          (λ n some.
          by_option (numbered key)
          (λ m own. or_first _ _ (ap is_eq (ap (cmp q) (same key q m n matches own some) ∙ tied_itself o q)))
          (λ none. absurd (false≢true (sym (ap is_some none) ∙ plain))))
          (λ none. or_second (is_at (cmp q) key) _ (holds.at q there (ap (λ n. not (is_some n)) none)))

      plain-seen : (q : K) → is_found_plain cmp key wilds (is_sought cmp (matching key) shown counts) q ≡ is_sought cmp (matching key) shown counts q
      plain-seen q = narrowed _ _ (is-either q)

      pub plain-found : (exprs : List K) → AreFound cmp (is_found_plain cmp key wilds (is_sought cmp (matching key) shown counts)) exprs → exprs ≡ filter (matching key) (shown_keys shown (ordered_entries cmp counts))
      plain-found exprs found = matching-listed shown counts exprs found.in_order (matching key) (λ q. found.among q ∙ plain-seen q)
