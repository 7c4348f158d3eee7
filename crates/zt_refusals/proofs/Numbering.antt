-- Expressions that get numbers, one after the other.
use Rattle.std.proofs.Common.{◌≡◌, ◌+◌, ◌<◌, ℕ, true, false, if◌then◌else◌, List, [], ◌∷◌, ◌++◌, refl, ap, sym, ◌∙◌, append_assoc, drop, get_or, length, length-append, map}
use Rattle.std.proofs.lemmas.List.{append-nil}
use Rattle.std.proofs.lemmas.List.Folds.{list_any-append}
use Rattle.std.specs.declared.cmp.Ordering.{Ordering}
use Rattle.zt_keys.specs.Test.{by_test}
use Rattle.zt_model.specs.Entities.{numbered_with}
use Rattle.zt_model.specs.Lists.{is_among, same}
use Rattle.zt_state.proofs.Walks.{drop_item}

module _ {K : Type 0} (cmp : K → K → Ordering) where
  -- an expression that stands in the first part is known
  pub known_before : (e : K) (known fresh : List K) → is_among cmp e known ≡ true → known ++ fresh ≡ numbered_with cmp (e ∷ []) (known ++ fresh)
  unfolding numbered_with
  known_before e known fresh there =
      rw (list_any-append (same cmp e) known fresh, there)

  -- one that stands in neither part is added
  pub numbered_beside : (e : K) (known fresh after : List K) → is_among cmp e known ≡ false → after ≡ numbered_with cmp (e ∷ []) fresh → known ++ after ≡ numbered_with cmp (e ∷ []) (known ++ fresh)
  unfolding numbered_with
  numbered_beside e known fresh after not_there is =
      ap (λ more. known ++ more) is
      ∙ by_test (is_among cmp e fresh)
      (λ there. rw (list_any-append (same cmp e) known fresh, not_there, there) refl)
      (λ new. rw (list_any-append (same cmp e) known fresh, not_there, new) (sym (append_assoc known fresh (e ∷ []))))

  -- expressions get numbers one after the other
  pub numbered_more : (es : List K) (i : ℕ) (e : K) (before after all : List K)
      → i < length es → e ≡ get_or es i e
      → after ≡ numbered_with cmp (e ∷ []) before
      → numbered_with cmp (drop i es) before ≡ all
      → numbered_with cmp (drop (i + 1) es) after ≡ all
  unfolding numbered_with
  numbered_more es i e before after all within is more left =
      ap (numbered_with cmp (drop (i + 1) es)) more
      ∙ sym (ap (λ rest. numbered_with cmp rest before) (drop_item es i e within is))
      ∙ left

  -- the same of rows that have expressions
  pub numbered_rows_more : {A : Type 0} (key : A → K) (rows : List A) (i : ℕ) (row : A) (before after all : List K)
      → i < length rows → row ≡ get_or rows i row
      → after ≡ numbered_with cmp (key row ∷ []) before
      → numbered_with cmp (map key (drop i rows)) before ≡ all
      → numbered_with cmp (map key (drop (i + 1) rows)) after ≡ all
  unfolding numbered_with
  numbered_rows_more key rows i row before after all within is more left =
      ap (numbered_with cmp (map key (drop (i + 1) rows))) more
      ∙ sym (ap (λ rest. numbered_with cmp (map key rest) before) (drop_item rows i row within is))
      ∙ left

  -- and first these, and then those
  pub numbered_append : (es ks known : List K) → numbered_with cmp (es ++ ks) known ≡ numbered_with cmp ks (numbered_with cmp es known)
  unfolding numbered_with
  numbered_append [] ks known = refl
  numbered_append (e ∷ es) ks known = numbered_append es ks (if is_among cmp e known then known else known ++ e ∷ [])

  -- with none left all have numbers
  pub numbered_done : (rest known all : List K) → rest ≡ [] → numbered_with cmp rest known ≡ all → known ≡ all
  unfolding numbered_with
  numbered_done rest known all none_left is = sym (ap (λ es. numbered_with cmp es known) none_left) ∙ is

  -- how many there are with these and those
  pub numbered_length : (known dictionary one two es ks : List K)
      → known ≡ dictionary
      → known ++ one ≡ numbered_with cmp es (known ++ [])
      → known ++ two ≡ numbered_with cmp ks (known ++ one)
      → length known + length two ≡ length (numbered_with cmp (es ++ ks) dictionary)
  numbered_length known dictionary one two es ks same_ first second =
      sym (length-append known two)
      ∙ ap length
      (second
      ∙ ap (numbered_with cmp ks) (first ∙ ap (numbered_with cmp es) (append-nil known ∙ same_))
      ∙ sym (numbered_append es ks dictionary))
