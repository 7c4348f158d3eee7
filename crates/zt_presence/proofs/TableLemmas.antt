-- What an ask is answered, message by message, and searches in tables.
use Rattle.std.proofs.Common.{◌≡◌, ◌≢◌, ℕ, zero, suc, ◌+◌, ◌<◌, ◌==◌, true, false, not, List, [], ◌∷◌, ◌++◌, append-nil, length, take, get_or, Result, Ok, Err, is_ok, refl, sym, ap, ◌∙◌, arith, add-one, ⊎_elim}
use Rattle.std.proofs.lemmas.Bool.{cases_lt, eqb-false, eqb-true}
use Rattle.std.proofs.lemmas.List.Concat.{flat_map-append}
use Rattle.std.proofs.lemmas.List.Elements.{filter-append}
use Rattle.std.proofs.lemmas.List.Folds.{list_any_at, list_any_none}
use Rattle.std.proofs.lemmas.List.Sorted.{searchable_from_sorted}
use Rattle.std.specs.Cmp.{IsTotalOrder}
use Rattle.std.specs.List.Sorted.{IsBinarySearchResult, IsSearchInRange, IsSorted}
use Rattle.std.specs.Ordering.{is_eq, is_lt, ordering_reverse}
use Rattle.std.specs.declared.cmp.Ordering.{Ordering}
use Rattle.std.specs.declared.cmp.Ordering.TheVariants.{Less, Equal, Greater}
use Rattle.zt_protocol.specs.declared.entries.Sent.{Sent}
use Rattle.zt_laws.specs.Order.{InKeyOrder}
use Rattle.zt_laws.proofs.Lists.{by_test}
use Rattle.zt_model.specs.Fabric.{printed_for}
use Rattle.zt_model.specs.Lists.{is_among, same}
use Rattle.zt_model.specs.Promises.{answered_by, answers_in}
use Rattle.zt_theorem_journal.specs.Asked.{answers_to}
use Rattle.zt_presence.specs.Presence.{IsTable, beyond}

module _ {K : Type 0} where
  printed_append : (face : ℕ) (xs ys : List (Sent K)) → printed_for face (xs ++ ys) ≡ printed_for face xs ++ printed_for face ys
  unfolding printed_for
  printed_append face [] ys = refl
  printed_append face (x ∷ xs) ys =
      by_test (face == x.face)
      (λ own. rw own (ap (λ ms. x.message ∷ ms) (printed_append face xs ys)))
      (λ other. rw other (printed_append face xs ys))

  -- the answers among more messages
  pub answers_append : (face id : ℕ) (xs ys : List (Sent K)) → answers_to face id (xs ++ ys) ≡ answers_to face id xs ++ answers_to face id ys
  answers_append face id xs ys = ap (answers_in id) (printed_append face xs ys) ∙ flat_map-append (answered_by id) (printed_for face xs) (printed_for face ys)

  pub answers_none : (face id : ℕ) → [] ≡ answers_to {K = K} face id []
  unfolding printed_for
  answers_none face id = refl

  -- the answers of one message
  pub answers_own : (face id : ℕ) (sent : Sent K) → face ≡ sent.face → answered_by id sent.message ≡ answers_to face id (sent ∷ [])
  unfolding printed_for
  answers_own face id sent own =
      by_test (face == sent.face)
      (λ same. rw same (sym (append-nil (answered_by id sent.message))))
      (λ apart. absurd (eqb-false face sent.face apart own))

  pub answers_other : (face id : ℕ) (sent : Sent K) → face ≢ sent.face → [] ≡ answers_to face id (sent ∷ [])
  unfolding printed_for
  answers_other face id sent other =
      by_test (face == sent.face)
      (λ same. absurd (other (eqb-true face sent.face same)))
      (λ apart. rw apart refl)

module _ {K : Type 0} (cmp : K → K → Ordering) where
  -- one key more
  pub beyond_more : (table keys : List K) (i : ℕ) (key : K) → i < length keys → key ≡ get_or keys i key → beyond cmp table (take (i + 1) keys) ≡ beyond cmp table (take i keys) ++ beyond cmp table (key ∷ [])
  beyond_more table keys i key less is = ap (beyond cmp table) (taken keys i less is) ∙ filter-append (λ e. not (is_among cmp e table)) (take i keys) (key ∷ [])
    where
      taken : (xs : List K) (i : ℕ) → i < length xs → key ≡ get_or xs i key → take (i + 1) xs ≡ take i xs ++ key ∷ []
      taken [] i less is = absurd (omega arith)
      taken (x ∷ xs) zero less is = cc
      taken (x ∷ xs) (suc i) less is =
          let more : suc i + 1 ≡ suc (i + 1) = omega arith in
          rw more (ap (λ rest. x ∷ rest) (taken xs i (omega arith) is))

  pub beyond_in : (table : List K) (key : K) → is_among cmp key table ≡ true → [] ≡ beyond cmp table (key ∷ [])
  beyond_in table key is = rw is refl

  pub beyond_out : (table : List K) (key : K) → is_among cmp key table ≡ false → key ∷ [] ≡ beyond cmp table (key ∷ [])
  beyond_out table key is = rw is refl

  module _ (total : IsTotalOrder cmp) where
    each_at : (k : K) (ks : List K) → InKeyOrder cmp (k ∷ ks) → (d : K) → 0 < length ks → cmp k (get_or ks 0 d) ≡ Less
    each_at k [] ordered d less = absurd (omega arith)
    each_at k (x ∷ ks) ordered d less = ordered.0.0

    strict_at : (xs : List K) → InKeyOrder cmp xs → (k : ℕ) (d : K) → suc k < length xs → cmp (get_or xs k d) (get_or xs (suc k) d) ≡ Less
    strict_at [] ordered k d less = absurd (omega arith)
    strict_at (x ∷ xs) ordered zero d less = each_at x xs ordered d (omega arith)
    strict_at (x ∷ xs) ordered (suc k) d less = strict_at xs ordered.1 k d (omega arith)

    sorted_from_order : (xs : List K) → InKeyOrder cmp xs → IsSorted cmp xs
    sorted_from_order xs ordered k d z less =
        rw add-one
        (ap is_lt (total.antisymm (get_or xs (suc k) d) (get_or xs k d))
        ∙ ap (λ o. is_lt (ordering_reverse o)) (strict_at xs ordered k d (omega arith)))

    -- a search by halves finds a key where it is in a table
    pub key_found : (key : K) (xs : List K) (r : Result ℕ ℕ) → IsTable cmp xs → IsSearchInRange r (length xs) → IsBinarySearchResult (λ y. cmp y key) xs r → is_ok r ≡ is_among cmp key xs
    key_found key xs (Ok i) table within found = sym (list_any_at (same cmp key) xs i key within (turned (total.antisymm key (get_or xs i key)) (found key)))
      where
        turned : {o p : Ordering} → o ≡ ordering_reverse p → p ≡ Equal → is_eq o ≡ true
        turned is equal = cc
    key_found key xs (Err i) table within found =
        let parts = found (searchable_from_sorted total (λ y. y) xs key (sorted_from_order xs table.ordered)) in
        sym (list_any_none (same cmp key) xs (λ k d less.
        ⊎_elim
        (λ below. other (total.antisymm key (get_or xs k d)) (parts.0 k d (omega arith) below))
        (λ above. other_greater (total.antisymm key (get_or xs k d)) (parts.1 k d above less))
        (cases_lt k i)))
      where
        other : {o p : Ordering} → o ≡ ordering_reverse p → p ≡ Less → is_eq o ≡ false
        other is less = cc

        other_greater : {o p : Ordering} → o ≡ ordering_reverse p → p ≡ Greater → is_eq o ≡ false
        other_greater is greater = cc
