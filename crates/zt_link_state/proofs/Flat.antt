-- Rows in order of an outer key and an inner one, kept as entries: each outer key with its inner ones.
--     inserted-there, inserted-new     a row is put in its place where one entry changes, or comes
--     removed-there, removed-none      a row is taken away where one entry changes, or none
--     any-there, any-none              whether a row is there
--     less-there                       a row less where one entry has one less
--     same-flat, tested-flat           no row changes; those go whose outer key a test refuses
use Rattle.std.proofs.Common.{◌≡◌, Bool, true, false, ◌||◌, not, cond, List, [], ◌∷◌, ◌++◌, Option, Some, None, ap, filter, flat_map, map, refl, subst, sym, ◌∙◌}
use Rattle.std.proofs.lemmas.List.Elements.{filter-append}
use Rattle.std.proofs.lemmas.List.Folds.{list_any-append}
use Rattle.std.proofs.lemmas.Map.{NonePasses, none_passes_from_lookup, lookup-none}
use Rattle.std.proofs.lemmas.Map.Entries.{none_below_head, none_past_head}
use Rattle.std.proofs.lemmas.Map.Keys.{IsDistinct-from_sorted}
use Rattle.std.proofs.lemmas.Option.{same_Some}
use Rattle.std.specs.BTreeMap.{insert_entry, is_at}
use Rattle.std.specs.Cmp.{IsTotalOrder, eq_by_cmp_equiv, tied_itself}
use Rattle.std.specs.FinMap.Entries.{by_order}
use Rattle.std.specs.List.{AllByRecursion, list_any}
use Rattle.std.specs.List.Sorted.{IsStrictlySortedBy}
use Rattle.std.specs.Map.{keys_of, lookup, remove_entry, set_value}
use Rattle.std.specs.Ordering.{is_eq, ordering_then}
use Rattle.std.specs.declared.cmp.Ordering.{Ordering}
use Rattle.std.specs.declared.cmp.Ordering.TheVariants.{Less, Equal, Greater}
use Rattle.zt_keys.specs.Test.{by_test}
use Rattle.zt_model.specs.Lists.{with_key}
use Rattle.zt_link_state.specs.More.{HasOneMore}
use Rattle.zt_link_state.proofs.More.{more-before, more-behind, more-mapped}

pub by_cases : {G : Type 0} (r : Ordering) → (r ≡ Less → G) → (r ≡ Equal → G) → (r ≡ Greater → G) → G
by_cases Less l e g = l refl
by_cases Equal l e g = e refl
by_cases Greater l e g = g refl

never : {A G : Type 0} (x : A) → None ≡ Some x → G
never x h = cc

equal-from : (r : Ordering) → is_eq r ≡ true → r ≡ Equal
equal-from Less h = cc
equal-from Equal h = refl
equal-from Greater h = cc

then-apart : (a b : Ordering) → is_eq a ≡ false → is_eq (ordering_then a b) ≡ false
then-apart Less b h = refl
then-apart Equal b h = cc
then-apart Greater b h = refl

then-tied : (a b : Ordering) → is_eq a ≡ true → is_eq (ordering_then a b) ≡ is_eq b
then-tied Less b h = cc
then-tied Equal b h = refl
then-tied Greater b h = cc

or-false : (b : Bool) → (b || false) ≡ b
or-false true = refl
or-false false = refl

module _ {O S : Type 0} (outer : O → O → Ordering) (total : IsTotalOrder outer) where
  -- behind an entry that ties there is none
  pub none-past : (o : O) (x : O × S) (xs : List (O × S)) → IsStrictlySortedBy outer (keys_of (x ∷ xs)) → is_at (outer o) x.0 ≡ true → NonePasses (is_at (outer o)) xs
  none-past o x xs sorted t = none_past_head (eq_by_cmp_equiv total) o x xs (IsDistinct-from_sorted outer (keys_of (x ∷ xs)) sorted) t

module _ {O K R S : Type 0} (outer : O → O → Ordering) (inner : K → K → Ordering) (order : R → R → Ordering) (row : O → K → R) (keys : S → List K) (agrees : (o p : O) (e f : K) → order (row o e) (row p f) ≡ ordering_then (outer o p) (inner e f)) where
  abbrev pub flat : List (O × S) → List R
  flat es = flat_map (λ x. map (row x.0) (keys x.1)) es

  abbrev stays : O → K → R → Bool
  stays o e r = not (is_eq (order (row o e) r))

  abbrev is_row : O → K → R → Bool
  is_row o e r = is_eq (order (row o e) r)

  less-row : (o p : O) (e f : K) → outer o p ≡ Less → order (row o e) (row p f) ≡ Less
  less-row o p e f h = agrees o p e f ∙ ap (λ r. ordering_then r (inner e f)) h

  tied-order : (o p : O) (e f : K) → outer o p ≡ Equal → order (row o e) (row p f) ≡ inner e f
  tied-order o p e f h = agrees o p e f ∙ ap (λ r. ordering_then r (inner e f)) h

  greater-row : (o p : O) (e f : K) → outer o p ≡ Greater → order (row o e) (row p f) ≡ Greater
  greater-row o p e f h = agrees o p e f ∙ ap (λ r. ordering_then r (inner e f)) h

  apart-row : (o p : O) (e f : K) → is_eq (outer o p) ≡ false → is_eq (order (row o e) (row p f)) ≡ false
  apart-row o p e f h = ap is_eq (agrees o p e f) ∙ then-apart (outer o p) (inner e f) h

  tied-row : (o p : O) (e f : K) → is_eq (outer o p) ≡ true → is_eq (order (row o e) (row p f)) ≡ is_eq (inner e f)
  tied-row o p e f h = ap is_eq (agrees o p e f) ∙ then-tied (outer o p) (inner e f) h

  -- ---- a row in its place among the rows of one entry
  first-keys : (o : O) (e : K) (p : O) (ks : List K) (rest : List R) → outer o p ≡ Less → with_key order (row o e) rest ≡ row o e ∷ rest
      → with_key order (row o e) (map (row p) ks ++ rest) ≡ row o e ∷ (map (row p) ks ++ rest)
  first-keys o e p [] rest h first = first
  first-keys o e p (k ∷ ks) rest h first = let is = less-row o p e k h in rw is refl

  first-flat : (o : O) (e : K) (es : List (O × S)) → AllByRecursion (λ p. outer o p ≡ Less) (keys_of es) → with_key order (row o e) (flat es) ≡ row o e ∷ flat es
  first-flat o e [] h = refl
  first-flat o e (x ∷ xs) h = first-keys o e x.0 (keys x.1) (flat xs) h.0 (first-flat o e xs h.1)

  past-keys : (o : O) (e : K) (p : O) (ks : List K) (rest : List R) → outer o p ≡ Greater
      → with_key order (row o e) (map (row p) ks ++ rest) ≡ map (row p) ks ++ with_key order (row o e) rest
  past-keys o e p [] rest h = refl
  past-keys o e p (k ∷ ks) rest h = let is = greater-row o p e k h in rw is (ap (λ rs. row p k ∷ rs) (past-keys o e p ks rest h))

  among-keys : (o : O) (e : K) (ks : List K) (rest : List R) → outer o o ≡ Equal → with_key order (row o e) rest ≡ row o e ∷ rest
      → with_key order (row o e) (map (row o) ks ++ rest) ≡ map (row o) (with_key inner e ks) ++ rest
  among-keys o e [] rest h first = first
  among-keys o e (k ∷ ks) rest h first =
      let is = tied-order o o e k h in
      by_cases (inner e k)
      (λ t. rw (is, t) refl)
      (λ t. rw (is, t) refl)
      (λ t. rw (is, t) (ap (λ rs. row o k ∷ rs) (among-keys o e ks rest h first)))

  -- ---- a row that goes from the rows of one entry
  kept-keys : (o : O) (e : K) (p : O) (ks : List K) → is_eq (outer o p) ≡ false → filter (stays o e) (map (row p) ks) ≡ map (row p) ks
  kept-keys o e p [] h = refl
  kept-keys o e p (k ∷ ks) h = let is = apart-row o p e k h in rw is (ap (λ rs. row p k ∷ rs) (kept-keys o e p ks h))

  gone-keys : (o : O) (e : K) (p : O) (ks : List K) → is_eq (outer o p) ≡ true → filter (stays o e) (map (row p) ks) ≡ map (row p) (filter (λ f. not (is_eq (inner e f))) ks)
  gone-keys o e p [] h = refl
  gone-keys o e p (k ∷ ks) h =
      let is = tied-row o p e k h in
      by_test (is_eq (inner e k))
      (λ t. rw (is, t) (gone-keys o e p ks h))
      (λ t. rw (is, t) (ap (λ rs. row p k ∷ rs) (gone-keys o e p ks h)))

  kept-flat : (o : O) (e : K) (es : List (O × S)) → NonePasses (is_at (outer o)) es → filter (stays o e) (flat es) ≡ flat es
  kept-flat o e [] h = refl
  kept-flat o e (x ∷ xs) h =
      filter-append (stays o e) (map (row x.0) (keys x.1)) (flat xs)
      ∙ ap (λ rs. rs ++ filter (stays o e) (flat xs)) (kept-keys o e x.0 (keys x.1) h.0)
      ∙ ap (λ rs. map (row x.0) (keys x.1) ++ rs) (kept-flat o e xs h.1)

  -- ---- whether a row is there
  any-apart-keys : (o : O) (e : K) (p : O) (ks : List K) → is_eq (outer o p) ≡ false → list_any (is_row o e) (map (row p) ks) ≡ false
  any-apart-keys o e p [] h = refl
  any-apart-keys o e p (k ∷ ks) h = let is = apart-row o p e k h in rw is (any-apart-keys o e p ks h)

  any-tied-keys : (o : O) (e : K) (p : O) (ks : List K) → is_eq (outer o p) ≡ true → list_any (is_row o e) (map (row p) ks) ≡ list_any (λ f. is_eq (inner e f)) ks
  any-tied-keys o e p [] h = refl
  any-tied-keys o e p (k ∷ ks) h = let is = tied-row o p e k h in rw is (ap (λ b. is_eq (inner e k) || b) (any-tied-keys o e p ks h))

  any-apart : (o : O) (e : K) (es : List (O × S)) → NonePasses (is_at (outer o)) es → list_any (is_row o e) (flat es) ≡ false
  any-apart o e [] h = refl
  any-apart o e (x ∷ xs) h =
      list_any-append (is_row o e) (map (row x.0) (keys x.1)) (flat xs)
      ∙ ap (λ b. b || list_any (is_row o e) (flat xs)) (any-apart-keys o e x.0 (keys x.1) h.0)
      ∙ any-apart o e xs h.1

  pub any-none : (o : O) (e : K) (es : List (O × S)) → lookup (is_at (outer o)) es ≡ None → list_any (is_row o e) (flat es) ≡ false
  any-none o e es none = any-apart o e es (none_passes_from_lookup (is_at (outer o)) es none)

  pub removed-none : (o : O) (e : K) (es : List (O × S)) → lookup (is_at (outer o)) es ≡ None → flat es ≡ filter (stays o e) (flat es)
  removed-none o e es none = sym (kept-flat o e es (none_passes_from_lookup (is_at (outer o)) es none))

  -- ---- entries that change in no row
  pub same-flat : (o : O) (es : List (O × S)) (s w : S) → lookup (is_at (outer o)) es ≡ Some s → keys w ≡ keys s → flat (set_value (is_at (outer o)) es w) ≡ flat es
  same-flat o [] s w is same = never s is
  same-flat o (x ∷ xs) s w is same =
      by_test (is_at (outer o) x.0)
      (λ t. rw t (ap (λ ks. map (row x.0) ks ++ flat xs) (same ∙ ap keys (sym (same_Some x.1 s (rw t at is))))))
      (λ t. rw t (ap (λ rs. map (row x.0) (keys x.1) ++ rs) (same-flat o xs s w (rw t at is) same)))

  -- a test of the outer keys
  pub tested-flat : (p : O → Bool) (q : R → Bool) → ((o : O) (e : K) → q (row o e) ≡ p o) → (es : List (O × S)) → flat (filter (λ x. p x.0) es) ≡ filter q (flat es)
  tested-flat p q alike [] = refl
  tested-flat p q alike (x ∷ xs) =
      by_test (p x.0)
      (λ t. rw t (ap (λ rs. map (row x.0) (keys x.1) ++ rs) (tested-flat p q alike xs) ∙ sym (filter-append q (map (row x.0) (keys x.1)) (flat xs) ∙ ap (λ rs. rs ++ filter q (flat xs)) (all_pass t (keys x.1)))))
      (λ t. rw t (tested-flat p q alike xs ∙ sym (filter-append q (map (row x.0) (keys x.1)) (flat xs) ∙ ap (λ rs. rs ++ filter q (flat xs)) (none_pass t (keys x.1)))))
    where
      all_pass : p x.0 ≡ true → (ks : List K) → filter q (map (row x.0) ks) ≡ map (row x.0) ks
      all_pass t [] = refl
      all_pass t (k ∷ ks) = let is = alike x.0 k ∙ t in rw is (ap (λ rs. row x.0 k ∷ rs) (all_pass t ks))

      none_pass : p x.0 ≡ false → (ks : List K) → filter q (map (row x.0) ks) ≡ []
      none_pass t [] = refl
      none_pass t (k ∷ ks) = let is = alike x.0 k ∙ t in rw is (none_pass t ks)

  module _ (total : IsTotalOrder outer) where
    below-all : (o p : O) (ps : List O) → outer o p ≡ Less → AllByRecursion (λ q. outer p q ≡ Less) ps → AllByRecursion (λ q. outer o q ≡ Less) ps
    below-all o p [] h all = tt
    below-all o p (q ∷ qs) h all = (total.trans o p q h all.0, below-all o p qs h all.1)

    pub any-there : (o : O) (e : K) (es : List (O × S)) (s : S) → IsStrictlySortedBy outer (keys_of es) → lookup (is_at (outer o)) es ≡ Some s
        → list_any (is_row o e) (flat es) ≡ list_any (λ f. is_eq (inner e f)) (keys s)
    unfolding IsStrictlySortedBy
    any-there o e [] s sorted is = never s is
    any-there o e (x ∷ xs) s sorted is =
        by_test (is_at (outer o) x.0)
        (λ t.
        list_any-append (is_row o e) (map (row x.0) (keys x.1)) (flat xs)
        ∙ ap (λ b. b || list_any (is_row o e) (flat xs)) (any-tied-keys o e x.0 (keys x.1) t)
        ∙ ap (λ b. list_any (λ f. is_eq (inner e f)) (keys x.1) || b) (any-apart o e xs (none-past outer total o x xs sorted t))
        ∙ or-false (list_any (λ f. is_eq (inner e f)) (keys x.1))
        ∙ ap (λ (z : S). list_any (λ f. is_eq (inner e f)) (keys z)) (same_Some x.1 s (rw t at is)))
        (λ t.
        list_any-append (is_row o e) (map (row x.0) (keys x.1)) (flat xs)
        ∙ ap (λ b. b || list_any (is_row o e) (flat xs)) (any-apart-keys o e x.0 (keys x.1) t)
        ∙ any-there o e xs s sorted.1 (rw t at is))

    pub removed-there : (o : O) (e : K) (es : List (O × S)) (s w : S) → IsStrictlySortedBy outer (keys_of es) → lookup (is_at (outer o)) es ≡ Some s → keys w ≡ filter (λ f. not (is_eq (inner e f))) (keys s)
        → flat (set_value (is_at (outer o)) es w) ≡ filter (stays o e) (flat es)
    unfolding IsStrictlySortedBy
    removed-there o e [] s w sorted is less = never s is
    removed-there o e (x ∷ xs) s w sorted is less =
        by_test (is_at (outer o) x.0)
        (λ t.
        rw t
        (ap (λ ks. map (row x.0) ks ++ flat xs) (less ∙ ap (λ (z : S). filter (λ f. not (is_eq (inner e f))) (keys z)) (sym (same_Some x.1 s (rw t at is))))
        ∙ sym
        (filter-append (stays o e) (map (row x.0) (keys x.1)) (flat xs)
        ∙ ap (λ rs. rs ++ filter (stays o e) (flat xs)) (gone-keys o e x.0 (keys x.1) t)
        ∙ ap (λ rs. map (row x.0) (filter (λ f. not (is_eq (inner e f))) (keys x.1)) ++ rs) (kept-flat o e xs (none-past outer total o x xs sorted t)))))
        (λ t.
        rw t
        (ap (λ rs. map (row x.0) (keys x.1) ++ rs) (removed-there o e xs s w sorted.1 (rw t at is) less)
        ∙ sym (filter-append (stays o e) (map (row x.0) (keys x.1)) (flat xs) ∙ ap (λ rs. rs ++ filter (stays o e) (flat xs)) (kept-keys o e x.0 (keys x.1) t))))

    module _ (one : (o p : O) → outer o p ≡ Equal → o ≡ p) where
      pub inserted-there : (o : O) (e : K) (es : List (O × S)) (s w : S) → IsStrictlySortedBy outer (keys_of es) → lookup (is_at (outer o)) es ≡ Some s → keys w ≡ with_key inner e (keys s)
          → flat (set_value (is_at (outer o)) es w) ≡ with_key order (row o e) (flat es)
      unfolding IsStrictlySortedBy
      inserted-there o e [] s w sorted is more = never s is
      inserted-there o e (x ∷ xs) s w sorted is more =
          by_cases (outer o x.0)
          (λ t. never s (sym (lookup-none (is_at (outer o)) (x ∷ xs) (none_below_head total o x xs sorted t)) ∙ is))
          (λ t.
          rw t
          (ap (λ ks. map (row x.0) ks ++ flat xs) (more ∙ ap (λ (z : S). with_key inner e (keys z)) (sym (same_Some x.1 s (rw t at is))))
          ∙ sym (among-keys x.0 e (keys x.1) (flat xs) (tied_itself total x.0) (first-flat x.0 e xs sorted.0))
          ∙ ap (λ (q : O). with_key order (row q e) (map (row x.0) (keys x.1) ++ flat xs)) (sym (one o x.0 t))))
          (λ t.
          rw t
          (ap (λ rs. map (row x.0) (keys x.1) ++ rs) (inserted-there o e xs s w sorted.1 (rw t at is) more)
          ∙ sym (past-keys o e x.0 (keys x.1) (flat xs) t)))

      pub inserted-new : (o : O) (e : K) (es : List (O × S)) (w : S) → IsStrictlySortedBy outer (keys_of es) → lookup (is_at (outer o)) es ≡ None → keys w ≡ e ∷ []
          → flat (insert_entry outer es o w) ≡ with_key order (row o e) (flat es)
      unfolding IsStrictlySortedBy
      inserted-new o e [] w sorted none more = ap (λ ks. map (row o) ks ++ []) more
      inserted-new o e (x ∷ xs) w sorted none more =
          by_cases (outer o x.0)
          (λ t. rw t (ap (λ ks. map (row o) ks ++ flat (x ∷ xs)) more ∙ sym (first-flat o e (x ∷ xs) (t, below-all o x.0 (keys_of xs) t sorted.0))))
          (λ t. never x.1 (sym (rw t at none)))
          (λ t.
          rw t
          (ap (λ rs. map (row x.0) (keys x.1) ++ rs) (inserted-new o e xs w sorted.1 (rw t at none) more)
          ∙ sym (past-keys o e x.0 (keys x.1) (flat xs) t)))

      -- a row less where one entry has one less
      pub less-there : (o : O) (e : K) (es : List (O × S)) (s w : S) → lookup (is_at (outer o)) es ≡ Some s → HasOneMore e (keys w) (keys s)
          → HasOneMore (row o e) (flat (set_value (is_at (outer o)) es w)) (flat es)
      less-there o e [] s w is more = never s is
      less-there o e (x ∷ xs) s w is more =
          by_test (is_at (outer o) x.0)
          (λ t.
          let here : x.1 ≡ s = same_Some x.1 s (rw t at is) in
          let same : x.0 ≡ o = sym (one o x.0 (equal-from (outer o x.0) t)) in
          let one_less = more-mapped (row x.0) e (keys w) (keys x.1) (subst (λ (z : S). HasOneMore e (keys w) (keys z)) (sym here) more) in
          rw t (subst (λ (q : O). HasOneMore (row q e) (map (row x.0) (keys w) ++ flat xs) (map (row x.0) (keys x.1) ++ flat xs)) same (more-before (flat xs) (map (row x.0) (keys w)) (map (row x.0) (keys x.1)) one_less)))
          (λ t. rw t (more-behind (map (row x.0) (keys x.1)) (flat (set_value (is_at (outer o)) xs w)) (flat xs) (less-there o e xs s w (rw t at is) more)))
