-- What a face was told: pairs of id and expression that come and go.
use Rattle.std.proofs.Common.{◌≡◌, ℕ, ◌==◌, Bool, true, false, ◌&&◌, ◌||◌, not, if◌then◌else◌, Option, Some, None, is_some, [], ◌∷◌, ◌++◌, filter, refl, ap, sym, subst, ◌∙◌}
use Rattle.std.proofs.lemmas.Bool.{false≢true, eqb-true}
use Rattle.std.proofs.lemmas.Map.Keys.{sorted_head, sorted_tail}
use Rattle.std.specs.Cmp.{IsTotalOrder, nat_cmp_total, tied_itself, unsigned_tied}
use Rattle.std.specs.List.{AllByRecursion, list_any}
use Rattle.std.specs.Map.{keys_of}
use Rattle.std.specs.Ordering.{is_eq, nat_cmp}
use Rattle.std.specs.declared.cmp.Ordering.{Ordering}
use Rattle.std.specs.declared.cmp.Ordering.TheVariants.{Less, Equal, Greater}
use Rattle.zt_keys.specs.Test.{by_test}
use Rattle.zt_face.specs.Told.{AreApart, with_pair}
use Rattle.zt_rows.specs.ById.{IsInOrder}
use Rattle.zt_rows.proofs.ById.{below_all_absent}
use Rattle.zt_model.specs.Lists.{at_id, same, without_id}
use Rattle.zt_model.specs.Parts.{told_id}
use Rattle.zt_model.specs.Rows.{ById}

abbrev IsBelow : {A : Type 0} → ℕ → ById A → Type 0
IsBelow n rows = AllByRecursion (λ k. nat_cmp n k ≡ Less) (keys_of rows)

below_none : {A : Type 0} (n : ℕ) (rows : ById A) → IsBelow n rows → at_id n rows ≡ None
below_none n [] below = refl
below_none n (row ∷ rows) below = rw (sym (unsigned_tied n row.0) ∙ ap is_eq below.0) (below_none n rows below.1)

not_some : {A : Type 0} (x : A) → None ≡ Some x → ⊥
not_some x e = false≢true (ap is_some e)

module _ {K : Type 0} (cmp : K → K → Ordering) where
  pub told_is_some : (e : K) (rows : ById K) → is_some (told_id cmp e rows) ≡ list_any (λ row. same cmp e row.1) rows
  unfolding told_id
  told_is_some e [] = refl
  told_is_some e (row ∷ rows) =
      elim (same cmp e row.1) as (λ b. is_some (if b then Some row.0 else told_id cmp e rows) ≡ (b || list_any (λ row. same cmp e row.1) rows)) [
        | true ↦ refl
        | false ↦ told_is_some e rows
      ]

  -- ---- telling

  -- under an id that isn't there
  pub with_new : (id : ℕ) (e : K) (rows : ById K) → None ≡ at_id id rows → rows ++ (id, e) ∷ [] ≡ with_pair cmp id e rows
  with_new id e rows absent = rw (none_there rows absent) refl
    where
      none_there : (rows : ById K) → None ≡ at_id id rows → list_any (λ row. id == row.0 && same cmp e row.1) rows ≡ false
      none_there [] absent = refl
      none_there (row ∷ rows) absent = by_test (id == row.0) (λ t. absurd (not_some row.1 (rw t at absent))) (λ t. rw t (none_there rows (rw t at absent)))

  -- under the id that it has
  pub with_known : (id : ℕ) (e known : K) (rows : ById K) → Some known ≡ at_id id rows → same cmp e known ≡ true → rows ≡ with_pair cmp id e rows
  with_known id e known rows found tied = rw (there rows found) refl
    where
      own : (k : K) → Some known ≡ Some k → same cmp e k ≡ true
      own k is = cc

      or_later : (b : Bool) {c : Bool} → c ≡ true → (b || c) ≡ true
      or_later true t = refl
      or_later false t = t

      there : (rows : ById K) → Some known ≡ at_id id rows → list_any (λ row. id == row.0 && same cmp e row.1) rows ≡ true
      there [] found = absurd (not_some known (sym found))
      there (row ∷ rows) found = by_test (id == row.0)
          (λ t. let here : same cmp e row.1 ≡ true = own row.1 (rw t at found) in rw (t, here) refl)
          (λ t. or_later (id == row.0 && same cmp e row.1) (there rows (rw t at found)))

  -- a pair that is told is among the rows
  found_pair : (id : ℕ) (e : K) (rows : ById K) → told_id cmp e rows ≡ Some id → list_any (λ row. id == row.0 && same cmp e row.1) rows ≡ true
  unfolding told_id
  found_pair id e [] found = cc
  found_pair id e (row ∷ rows) found = by_test (same cmp e row.1) (λ t.
      let own : row.0 ≡ id = some_is (rw t at found) in
      let here : (id == row.0) ≡ true = rw own (eq_itself id) in
      rw (here, t) refl) (λ t.
      or_later (id == row.0 && same cmp e row.1) (found_pair id e rows (rw t at found)))
    where
      some_is : {n m : ℕ} → Some n ≡ Some m → n ≡ m
      some_is {n} eq = ap (λ o. elim o as (λ _. ℕ) [ None ↦ n | Some x ↦ x ]) eq

      eq_itself : (n : ℕ) → (n == n) ≡ true
      eq_itself n = sym (unsigned_tied n n) ∙ ap is_eq (tied_itself nat_cmp_total n)

      or_later : (b : Bool) {c : Bool} → c ≡ true → (b || c) ≡ true
      or_later true t = refl
      or_later false t = t

  no_pair : (id : ℕ) (e : K) (rows : ById K) → told_id cmp e rows ≡ None → list_any (λ row. id == row.0 && same cmp e row.1) rows ≡ false
  unfolding told_id
  no_pair id e [] none_ = refl
  no_pair id e (row ∷ rows) none_ = by_test (same cmp e row.1) (λ t. absurd (not_some row.0 (sym (rw t at none_)))) (λ t. rw t (and_none (id == row.0) (no_pair id e rows (rw t at none_))))
    where
      and_none : (b : Bool) {c : Bool} → c ≡ false → ((b && false) || c) ≡ false
      and_none true f = f
      and_none false f = f

  pub with_again : (id : ℕ) (e : K) (rows : ById K) → told_id cmp e rows ≡ Some id → with_pair cmp id e rows ≡ rows
  with_again id e rows found = rw (found_pair id e rows found) refl

  pub with_first : (id : ℕ) (e : K) (rows : ById K) → told_id cmp e rows ≡ None → with_pair cmp id e rows ≡ rows ++ (id, e) ∷ []
  with_first id e rows none_ = rw (no_pair id e rows none_) refl

  module _ (total : IsTotalOrder cmp) (exact : (a b : K) → cmp a b ≡ Equal → a ≡ b) where
    same_is : (a b : K) → same cmp a b ≡ true → a ≡ b
    same_is a b t = exact a b (equal_of (cmp a b) t)
      where
        equal_of : (o : Ordering) → is_eq o ≡ true → o ≡ Equal
        equal_of Less t = absurd (false≢true t)
        equal_of Equal t = refl
        equal_of Greater t = absurd (false≢true t)

    same_itself : (a : K) → same cmp a a ≡ true
    same_itself a = ap is_eq (tied_itself total a)

    -- what is found where a token is added
    pub told_added : (q e : K) (id : ℕ) (rows : ById K) → told_id cmp e rows ≡ None → told_id cmp q (rows ++ (id, e) ∷ []) ≡ (if same cmp e q then Some id else told_id cmp q rows)
    unfolding told_id
    told_added q e id rows absent = by_test (same cmp e q)
        (λ t. rw t (subst (λ k. told_id cmp k (rows ++ (id, e) ∷ []) ≡ Some id) (same_is e q t) (last_found rows absent)))
        (λ t. rw t (not_last t rows))
      where
        last_found : (rows : ById K) → told_id cmp e rows ≡ None → told_id cmp e (rows ++ (id, e) ∷ []) ≡ Some id
        last_found [] absent = rw (same_itself e) refl
        last_found (row ∷ rows) absent = by_test (same cmp e row.1) (λ t. absurd (not_some row.0 (sym (rw t at absent)))) (λ t. rw t (last_found rows (rw t at absent)))

        not_last : same cmp e q ≡ false → (rows : ById K) → told_id cmp q (rows ++ (id, e) ∷ []) ≡ told_id cmp q rows
        not_last apart [] = by_test (same cmp q e) (λ t. absurd (false≢true (sym apart ∙ subst (λ k. same cmp k q ≡ true) (same_is q e t) (same_itself q)))) (λ t. rw t refl)
        not_last apart (row ∷ rows) = ap (λ (o : Option ℕ). if same cmp q row.1 then Some row.0 else o) (not_last apart rows)

    -- and where one is taken away
    pub told_dropped : (q e : K) (rows : ById K) → told_id cmp q (filter (λ row. not (same cmp e row.1)) rows) ≡ (if same cmp e q then None else told_id cmp q rows)
    unfolding told_id
    told_dropped q e [] = by_test (same cmp e q) (λ t. rw t refl) (λ t. rw t refl)
    told_dropped q e (row ∷ rows) =
        let rest = told_dropped q e rows in
        by_test (same cmp e row.1)
        (λ gone. by_test (same cmp e q)
        (λ t. rw (gone, t) (rw t at rest))
        (λ t. by_test (same cmp q row.1)
        (λ own. absurd (false≢true (sym t ∙ subst (λ k. same cmp e k ≡ true) (sym (same_is q row.1 own)) gone)))
        (λ other. rw (gone, t, other) (rw t at rest))))
        (λ kept. by_test (same cmp q row.1)
        (λ own. by_test (same cmp e q)
        (λ t. absurd (false≢true (sym kept ∙ subst (λ k. same cmp e k ≡ true) (same_is q row.1 own) t)))
        (λ t. rw (kept, own, t) refl))
        (λ other. rw (kept, other) rest))

    pub apart_added : (e : K) (id : ℕ) (rows : ById K) → told_id cmp e rows ≡ None → AreApart cmp rows → AreApart cmp (rows ++ (id, e) ∷ [])
    unfolding told_id
    apart_added e id [] absent apart = (refl, tt)
    apart_added e id (row ∷ rows) absent apart = by_test (same cmp e row.1)
        (λ t. absurd (not_some row.0 (sym (rw t at absent))))
        (λ t. let later = rw t at absent in
        (told_added row.1 e id rows later ∙ rw t apart.0, apart_added e id rows later apart.1))

    pub apart_dropped : (e : K) (rows : ById K) → AreApart cmp rows → AreApart cmp (filter (λ row. not (same cmp e row.1)) rows)
    unfolding told_id
    apart_dropped e [] apart = tt
    apart_dropped e (row ∷ rows) apart = by_test (same cmp e row.1)
        (λ gone. rw gone (apart_dropped e rows apart.1))
        (λ kept. rw kept (told_dropped row.1 e rows ∙ rw kept apart.0, apart_dropped e rows apart.1))

    -- an expression that isn't told
    pub none_dropped : (e : K) (rows : ById K) → told_id cmp e rows ≡ None → filter (λ row. not (same cmp e row.1)) rows ≡ rows
    unfolding told_id
    none_dropped e [] absent = refl
    none_dropped e (row ∷ rows) absent = by_test (same cmp e row.1)
        (λ t. absurd (not_some row.0 (sym (rw t at absent))))
        (λ t. rw t (ap (λ r. row ∷ r) (none_dropped e rows (rw t at absent))))

    -- an id that isn't there
    pub none_without : (id : ℕ) (rows : ById K) → at_id id rows ≡ None → without_id id rows ≡ rows
    none_without id [] absent = refl
    none_without id (row ∷ rows) absent = by_test (id == row.0)
        (λ t. absurd (not_some row.1 (sym (rw t at absent))))
        (λ t. rw t (ap (λ r. row ∷ r) (none_without id rows (rw t at absent))))

    at_found : (id : ℕ) (e : K) (rows : ById K) → at_id id rows ≡ Some e → told_id cmp e rows ≡ None → ⊥
    unfolding told_id
    at_found id e [] at_ absent = absurd (not_some e at_)
    at_found id e (row ∷ rows) at_ absent = by_test (same cmp e row.1)
        (λ t. not_some row.0 (sym (rw t at absent)))
        (λ t. by_test (id == row.0)
        (λ here. let own : Some row.1 ≡ Some e = rw here at at_ in
        false≢true (sym t ∙ subst (λ k. same cmp e k ≡ true) (sym (some_is row.1 own)) (same_itself e)))
        (λ there. at_found id e rows (rw there at at_) (rw t at absent)))
      where
        some_is : {e : K} (k : K) → Some k ≡ Some e → k ≡ e
        some_is {e} k eq = ap (λ o. elim o as (λ _. K) [ None ↦ e | Some x ↦ x ]) eq

    -- the token of an id goes as that of its expression
    pub dropped_without : (id : ℕ) (e : K) (rows : ById K) → IsInOrder rows → AreApart cmp rows → at_id id rows ≡ Some e → filter (λ row. not (same cmp e row.1)) rows ≡ without_id id rows
    unfolding told_id
    dropped_without id e [] ordered apart at_ = absurd (not_some e at_)
    dropped_without id e (row ∷ rows) ordered apart at_ = by_test (id == row.0)
        (λ here.
        let own : Some row.1 ≡ Some e = rw here at at_ in
        let is : row.1 ≡ e = ap (λ o. elim o as (λ _. K) [ None ↦ e | Some x ↦ x ]) own in
        let tied : same cmp e row.1 ≡ true = subst (λ k. same cmp e k ≡ true) (sym is) (same_itself e) in
        let number : id ≡ row.0 = eqb-true id row.0 here in
        rw (here, tied) (none_dropped e rows (subst (λ k. told_id cmp k rows ≡ None) is apart.0)
        ∙ sym (below_all_absent id rows (subst (λ n. IsBelow n rows) (sym number) (sorted_head nat_cmp row.0 (keys_of rows) ordered)))))
        (λ there. by_test (same cmp e row.1)
        (λ tied. absurd (at_found id e rows (rw there at at_) (subst (λ k. told_id cmp k rows ≡ None) (sym (same_is e row.1 tied)) apart.0)))
        (λ other. rw (there, other) (ap (λ r. row ∷ r) (dropped_without id e rows (sorted_tail nat_cmp row.0 (keys_of rows) ordered) apart.1 (rw there at at_)))))

    -- what is told under an id stands there
    pub told_at : (id : ℕ) (e : K) (rows : ById K) → IsInOrder rows → told_id cmp e rows ≡ Some id → at_id id rows ≡ Some e
    unfolding told_id
    told_at id e [] ordered found = absurd (not_some id found)
    told_at id e (row ∷ rows) ordered found = by_test (same cmp e row.1)
        (λ t.
        let own : row.0 ≡ id = ap (λ o. elim o as (λ _. ℕ) [ None ↦ id | Some x ↦ x ]) (rw t at found) in
        let here : (id == row.0) ≡ true = ap (λ n. id == n) own ∙ sym (unsigned_tied id id) ∙ ap is_eq (tied_itself nat_cmp_total id) in
        rw here (ap Some (sym (same_is e row.1 t))))
        (λ t.
        let later = told_at id e rows (sorted_tail nat_cmp row.0 (keys_of rows) ordered) (rw t at found) in
        by_test (id == row.0)
        (λ here. absurd (not_some e (sym (below_none id rows (subst (λ n. IsBelow n rows) (sym (eqb-true id row.0 here)) (sorted_head nat_cmp row.0 (keys_of rows) ordered))) ∙ later)))
        (λ there. rw there later))
