-- Expressions that get numbers in a dictionary.
use Rattle.std.proofs.Common.{◌≡◌, ◌||◌, ◌+◌, ◌<◌, ◌≤◌, ℕ, Bool, true, false, not, nat_lt, List, [], ◌∷◌, ◌++◌, refl, ap, sym, ◌∙◌, append_assoc, drop, get_or, length, length-append, map, arith, lt-ltb, le-ltb}
use Rattle.std.proofs.lemmas.List.{append-nil, drop_more}
use Rattle.std.proofs.lemmas.List.Folds.{list_any-append}
use Rattle.std.specs.declared.cmp.Ordering.{Ordering}
use Rattle.zt_keys.specs.Test.{by_test}
use Rattle.zt_model.specs.Entities.{numbered_with}
use Rattle.zt_model.specs.Lists.{is_among, same}

module _ {K : Type 0} (cmp : K → K → Ordering) where
  -- ---- one expression

  known_kept : (e : K) (known : List K) → is_among cmp e known ≡ true → numbered_with cmp (e ∷ []) known ≡ known
  unfolding numbered_with
  known_kept e known there = rw there refl

  new_added : (e : K) (known : List K) → is_among cmp e known ≡ false → numbered_with cmp (e ∷ []) known ≡ known ++ e ∷ []
  unfolding numbered_with
  new_added e known new = rw new refl

  one_at_most : (e : K) (known : List K) → length (numbered_with cmp (e ∷ []) known) ≤ length known + 1
  one_at_most e known =
      by_test (is_among cmp e known)
      (λ there. omega (arith, ap length (known_kept e known there)))
      (λ new. omega (arith, ap length (new_added e known new), length-append known (e ∷ [])))

  -- with room for one it isn't too many
  pub one_fits : (most : ℕ) (e : K) (known : List K) → length known < most → false ≡ nat_lt most (length (numbered_with cmp (e ∷ []) known))
  one_fits most e known room = sym (le-ltb most _ (omega (arith, one_at_most e known, room)))

  -- without, it is where it is new, or they are too many already
  pub one_too_many : (most : ℕ) (e : K) (known : List K) → most ≤ length known
      → (nat_lt most (length known) || not (is_among cmp e known)) ≡ nat_lt most (length (numbered_with cmp (e ∷ []) known))
  one_too_many most e known full =
      by_test (is_among cmp e known)
      (λ there. rw (there, known_kept e known there) (by_test (nat_lt most (length known)) (λ t. rw t refl) (λ f. rw f refl)))
      (λ new.
      let more : nat_lt most (length (numbered_with cmp (e ∷ []) known)) ≡ true =
      lt-ltb most _ (omega (arith, ap length (new_added e known new), length-append known (e ∷ []), full)) in
      rw (new, more) (by_test (nat_lt most (length known)) (λ t. rw t refl) (λ f. rw f refl)))

  pub none_more : (most : ℕ) (known : List K) → nat_lt most (length known) ≡ nat_lt most (length (numbered_with cmp [] known))
  unfolding numbered_with
  none_more most known = refl

  -- ---- beside those that are known

  -- what is known, or among those that are new, isn't added
  pub kept_beside : (e : K) (known new : List K) → (is_among cmp e known || is_among cmp e new) ≡ true → known ++ new ≡ numbered_with cmp (e ∷ []) (known ++ new)
  kept_beside e known new there = sym (known_kept e (known ++ new) (list_any-append (same cmp e) known new ∙ there))

  -- what is neither is
  pub added_beside : (e : K) (known new : List K) → (is_among cmp e known || is_among cmp e new) ≡ false → known ++ (new ++ e ∷ []) ≡ numbered_with cmp (e ∷ []) (known ++ new)
  added_beside e known new apart =
      sym (append_assoc known new (e ∷ [])) ∙ sym (new_added e (known ++ new) (list_any-append (same cmp e) known new ∙ apart))

  -- ---- one expression after another

  first_numbered : (e : K) (es known : List K) → numbered_with cmp (e ∷ es) known ≡ numbered_with cmp es (numbered_with cmp (e ∷ []) known)
  unfolding numbered_with
  first_numbered e es known = refl

  -- the rest after one more
  pub more_numbered : (es : List K) (i : ℕ) (e : K) (before after all : List K) → i < length es → e ≡ get_or es i e
      → after ≡ numbered_with cmp (e ∷ []) before
      → numbered_with cmp (drop i es) before ≡ all
      → numbered_with cmp (drop (i + 1) es) after ≡ all
  more_numbered es i e before after all within is more left =
      let next : drop i es ≡ e ∷ drop (i + 1) es = drop_more es i e within ∙ ap (λ (y : _). y ∷ drop (i + 1) es) (sym is) in
      ap (numbered_with cmp (drop (i + 1) es)) more
      ∙ sym (first_numbered e (drop (i + 1) es) before)
      ∙ sym (ap (λ rest. numbered_with cmp rest before) next)
      ∙ left

  -- the same of rows with expressions
  pub more_rows_numbered : {A : Type 0} (key : A → K) (rows : List A) (i : ℕ) (row : A) (before after all : List K) → i < length rows → row ≡ get_or rows i row
      → after ≡ numbered_with cmp (key row ∷ []) before
      → numbered_with cmp (map key (drop i rows)) before ≡ all
      → numbered_with cmp (map key (drop (i + 1) rows)) after ≡ all
  more_rows_numbered key rows i row before after all within is more left =
      let next : drop i rows ≡ row ∷ drop (i + 1) rows = drop_more rows i row within ∙ ap (λ (y : _). y ∷ drop (i + 1) rows) (sym is) in
      ap (numbered_with cmp (map key (drop (i + 1) rows))) more
      ∙ sym (first_numbered (key row) (map key (drop (i + 1) rows)) before)
      ∙ sym (ap (λ rest. numbered_with cmp (map key rest) before) next)
      ∙ left

  -- where none is left all are there
  pub all_numbered : (rest known all : List K) → rest ≡ [] → numbered_with cmp rest known ≡ all → known ≡ all
  unfolding numbered_with
  all_numbered rest known all none_left is = sym (ap (λ es. numbered_with cmp es known) none_left) ∙ is

  -- ---- two lists

  two_numbered : (es ks known : List K) → numbered_with cmp (es ++ ks) known ≡ numbered_with cmp ks (numbered_with cmp es known)
  unfolding numbered_with
  two_numbered [] ks known = refl
  two_numbered (e ∷ es) ks known = two_numbered es ks (numbered_with cmp (e ∷ []) known)

  -- how many there are with both
  pub both_counted : (known one two es ks : List K)
      → known ++ one ≡ numbered_with cmp es (known ++ [])
      → known ++ two ≡ numbered_with cmp ks (known ++ one)
      → length known + length two ≡ length (numbered_with cmp (es ++ ks) known)
  both_counted known one two es ks first second =
      sym (length-append known two)
      ∙ ap length (second ∙ ap (numbered_with cmp ks) (first ∙ ap (numbered_with cmp es) (append-nil known)) ∙ sym (two_numbered es ks known))
