-- What a change of the interests in one key leaves.
use Rattle.std.proofs.Common.{◌≡◌, ℕ, Bool, true, ◌==◌, ◌&&◌, cond, if◌then◌else◌, List, [], ◌∷◌, Option, Some, None, is_some, length, suc, unwrap_or, refl, sym, ap, ◌∙◌, arith}
use Rattle.std.proofs.lemmas.Bool.Decides.{nat_tests}
use Rattle.std.specs.BTreeMap.{is_at}
use Rattle.std.specs.Cmp.{IsTotalOrder}
use Rattle.std.specs.List.{list_any}
use Rattle.std.specs.Map.{keys_of, lookup}
use Rattle.std.specs.Ordering.{is_eq}
use Rattle.std.specs.declared.cmp.Ordering.{Ordering}
use Rattle.std.specs.declared.cmp.Ordering.TheVariants.{Less, Equal, Greater}
use Rattle.zt_indexes.specs.Grouped.{HasSameKeys}
use Rattle.zt_indexes.specs.Live.{IsWithout}
use Rattle.zt_indexes.specs.Ordered.{ordered_entries}
use Rattle.zt_indexes.proofs.Ordered.{ordered-found}
use Rattle.zt_interest_index.specs.Holders.{IsIndexOf, belongs, by_test}
use Rattle.zt_interest_index.specs.Index.{ChangesAt, ChangesOf, Interest, is_same, rows_at, rows_of}

pub equal-from : (r : Ordering) → is_eq r ≡ true → r ≡ Equal
equal-from Less h = cc
equal-from Equal h = refl
equal-from Greater h = cc

no-more : (n : ℕ) → (suc n == 0) ≡ true → suc n ≡ 0
no-more n h = grind (arith, nat_tests)

pub empty-from : {X : Type 0} (xs : List X) → (length xs == 0) ≡ true → xs ≡ []
empty-from [] h = refl
empty-from (x ∷ xs) h = let none = no-more (length xs) h in absurd (omega arith)

pub nothing-from : {X : Type 0} (xs : List X) → length xs ≡ 0 → xs ≡ []
nothing-from [] h = refl
nothing-from (x ∷ xs) h = absurd (omega (arith, h))

some-keys : {K X : Type 0} (test : K → Bool) (es : List (K × X)) → is_some (lookup test es) ≡ list_any test (keys_of es)
some-keys test [] = refl
some-keys test (e ∷ es) = by_test (test e.0) (λ t. rw t refl) (λ t. rw t (some-keys test es))

pub same-keys : {K X : Type 0} (cmp : K → K → Ordering) (old new : List (K × X)) → keys_of new ≡ keys_of old → HasSameKeys cmp old new
same-keys cmp old new same = record { at = λ q. some-keys (is_at (cmp q)) new ∙ ap (list_any (is_at (cmp q))) same ∙ sym (some-keys (is_at (cmp q)) old) }

module _ {K : Type 0} (cmp : K → K → Ordering) (o : IsTotalOrder cmp) where
  pub rows-ordered : (q : K) (es : List (K × List (Interest K))) → rows_of cmp q (ordered_entries cmp es) ≡ rows_of cmp q es
  rows-ordered q es = ap (λ found. unwrap_or found []) (ordered-found cmp o q es)

  -- an index of entries in their order is one of the entries
  pub unordered : (any : List (Interest K)) (es : List (K × List (Interest K))) (held : List (Interest K)) → IsIndexOf cmp (any, ordered_entries cmp es) held → IsIndexOf cmp (any, es) held
  unordered any es held indexed = record { at = found }
    where
      found : (about : Option K) (test : Interest K → Bool) → list_any test (rows_at cmp about (any, es)) ≡ list_any (λ row. belongs cmp about row && test row) held
      found None test = indexed.at None test
      found (Some q) test = ap (list_any test) (sym (rows-ordered q es)) ∙ indexed.at (Some q) test

  -- interests in all keys change
  pub changes-any : (change : List (Interest K) → List (Interest K)) (old new : List (Interest K)) (es : List (K × List (Interest K))) → new ≡ change old → ChangesAt cmp None change (old, es) (new, es)
  changes-any change old new es is = record { at = changed }
    where
      changed : (q : Option K) → rows_at cmp q (new, es) ≡ (if is_same cmp None q then change (rows_at cmp q (old, es)) else rows_at cmp q (old, es))
      changed None = is
      changed (Some q) = refl

  module _ (e : K) (change : List (Interest K) → List (Interest K)) where
    -- interests in one key change
    pub changes-keyed : (any : List (Interest K)) (old new : List (K × List (Interest K))) → ChangesOf cmp e change old new → ChangesAt cmp (Some e) change (any, ordered_entries cmp old) (any, ordered_entries cmp new)
    changes-keyed any old new changes = record { at = changed }
      where
        changed : (q : Option K)
            → rows_at cmp q (any, ordered_entries cmp new) ≡ (if is_same cmp (Some e) q then change (rows_at cmp q (any, ordered_entries cmp old)) else rows_at cmp q (any, ordered_entries cmp old))
        changed None = refl
        changed (Some q) =
            rows-ordered q new ∙ changes.at q ∙ sym (ap (λ rows. if is_at (cmp e) q then change rows else rows) (rows-ordered q old))

    lookup-tied : (q : K) → cmp e q ≡ Equal → (es : List (K × List (Interest K))) → lookup (is_at (cmp q)) es ≡ lookup (is_at (cmp e)) es
    lookup-tied q t [] = refl
    lookup-tied q t (x ∷ es) = λ i. cond (is_eq (sym (o.congr e q x.0 t) i)) (Some x.1) (lookup-tied q t es i)

    tied-rows : (q : K) → is_at (cmp e) q ≡ true → (es : List (K × List (Interest K))) → rows_of cmp q es ≡ rows_of cmp e es
    tied-rows q t es = ap (λ found. unwrap_or found []) (lookup-tied q (equal-from _ t) es)

    -- other interests are written under the key
    pub changes-written : (old new : List (K × List (Interest K))) (w : List (Interest K)) → w ≡ change (rows_of cmp e old)
        → ((q : K) → lookup (is_at (cmp q)) new ≡ cond (is_at (cmp e) q) (Some w) (lookup (is_at (cmp q)) old)) → ChangesOf cmp e change old new
    changes-written old new w is updates = record {
      at = λ q.
          let found : rows_of cmp q new ≡ unwrap_or (cond (is_at (cmp e) q) (Some w) (lookup (is_at (cmp q)) old)) [] = ap (λ found. unwrap_or found []) (updates q) in
          by_test (is_at (cmp e) q)
          (λ t. found ∙ rw t (is ∙ ap change (sym (tied-rows q t old))))
          (λ t. found ∙ rw t refl);
    }

    -- nothing is there to be changed
    pub changes-none : (es : List (K × List (Interest K))) → rows_of cmp e es ≡ [] → change [] ≡ [] → ChangesOf cmp e change es es
    changes-none es none still = record {
      at = λ q. by_test (is_at (cmp e) q)
          (λ t. let rows = tied-rows q t es ∙ none in rw t (rows ∙ sym still ∙ ap change (sym rows)))
          (λ t. rw t refl);
    }

    -- a key goes in which there is no interest
    pub changes-released : (old mid new : List (K × List (Interest K))) → ChangesOf cmp e change old mid → rows_of cmp e mid ≡ [] → IsWithout cmp e mid new → ChangesOf cmp e change old new
    changes-released old mid new changed none gone = record {
      at = λ q.
          let found : rows_of cmp q new ≡ unwrap_or (if is_at (cmp e) q then None else lookup (is_at (cmp q)) mid) [] = ap (λ found. unwrap_or found []) (gone.at q) in
          by_test (is_at (cmp e) q)
          (λ t. found ∙ rw t (sym none ∙ sym (tied-rows q t mid) ∙ rw t at (changed.at q)))
          (λ t. found ∙ rw t (rw t at (changed.at q)));
    }
