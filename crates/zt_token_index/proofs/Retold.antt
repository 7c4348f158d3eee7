-- What an index finds, where what one face was told changes.
use Rattle.std.proofs.Common.{◌≡◌, ℕ, ◌==◌, Bool, true, false, cond, not, if◌then◌else◌, List, [], ◌∷◌, ◌++◌, Option, Some, None, ap, arith, filter, refl, subst, sym, ◌∙◌}
use Rattle.std.proofs.lemmas.Bool.{eqb-true}
use Rattle.std.proofs.lemmas.Bool.Decides.{nat_tests}
use Rattle.std.specs.BTreeMap.{is_at}
use Rattle.std.specs.Cmp.{IsTotalOrder, eq_by_cmp_equiv, nat_cmp_total}
use Rattle.std.specs.FinMap.Entries.{find, find-put}
use Rattle.std.specs.Ordering.{is_eq, nat_cmp}
use Rattle.std.specs.declared.cmp.Ordering.{Ordering}
use Rattle.std.specs.declared.cmp.Ordering.TheVariants.{Less, Equal, Greater}
use Rattle.zt_keys.specs.Test.{by_test}
use Rattle.zt_face.specs.Told.{AreApart}
use Rattle.zt_rows.specs.ById.{IsInOrder}
use Rattle.zt_face.proofs.Told.{apart_added, apart_dropped, dropped_without, none_dropped, none_without, told_added, told_at as row-told, told_dropped, with_again, with_first}
use Rattle.zt_model.specs.Hearing.{told_pair}
use Rattle.zt_model.specs.Lists.{at_id, same, without_id}
use Rattle.zt_model.specs.Parts.{told_id}
use Rattle.zt_model.specs.Rows.{ById}
use Rattle.zt_token_index.specs.Told.{ChangesAt, id_of, told_at, with_face, without_face}
use Rattle.zt_token_index.specs.Retold.{Index, IsRetold}

-- ---- pairs of face and id
turned-test : (n m : ℕ) → is_eq (nat_cmp m n) ≡ (n == m)
turned-test n m = grind (arith, nat_tests)

find-id : (m : ℕ) (pairs : List (ℕ × ℕ)) → find nat_cmp m pairs ≡ id_of m pairs
find-id m [] = refl
find-id m (pair ∷ pairs) = ap (cond (is_at (nat_cmp m) pair.0) (Some pair.1)) (find-id m pairs)

-- the id of a face where one is put
id-put : (m n id : ℕ) (pairs : List (ℕ × ℕ)) → id_of m (with_face n id pairs) ≡ (if n == m then Some id else id_of m pairs)
id-put m n id pairs =
    sym (find-id m (with_face n id pairs)) ∙ find-put nat_cmp nat_cmp_total m n id pairs
    ∙ ap (cond (is_eq (nat_cmp m n)) (Some id)) (find-id m pairs) ∙ ap (λ b. cond b (Some id) (id_of m pairs)) (turned-test n m)

-- and where one goes
id-dropped : (m n : ℕ) (pairs : List (ℕ × ℕ)) → id_of m (without_face n pairs) ≡ (if n == m then None else id_of m pairs)
id-dropped m n [] = by_test (n == m) (λ t. rw t refl) (λ t. rw t refl)
id-dropped m n (pair ∷ pairs) =
    let rest = id-dropped m n pairs in
    by_test (n == pair.0)
    (λ gone. by_test (n == m)
    (λ t. rw (gone, t) (rw t at rest))
    (λ t.
    let other : is_eq (nat_cmp m pair.0) ≡ false = ap (λ k. is_eq (nat_cmp m k)) (sym (eqb-true n pair.0 gone)) ∙ turned-test n m ∙ t in
    rw (gone, t, other) (rw t at rest)))
    (λ kept. by_test (is_eq (nat_cmp m pair.0))
    (λ own.
    let apart : (n == m) ≡ false = ap (λ k. n == k) (eqb-true m pair.0 (sym (turned-test m pair.0) ∙ turned pair.0 m own)) ∙ kept in
    rw (kept, own, apart) refl)
    (λ other. rw (kept, other) rest))
  where
    turned : (k m : ℕ) → is_eq (nat_cmp m k) ≡ true → is_eq (nat_cmp k m) ≡ true
    turned k m t = grind (arith, nat_tests)

module _ {K : Type 0} (cmp : K → K → Ordering) (n : ℕ) where
  -- the index finds for the face what it was told
  abbrev pub Finds : ById K → Index K → Type 0
  Finds rows index = (q : K) → id_of n (told_at cmp q index) ≡ told_id cmp q rows

  -- where the index finds the same of an expression as before, or for the face the id that is there now
  abbrev Refinds : K → Option ℕ → Index K → Index K → Type 0
  Refinds e there old new = (q : K) (m : ℕ) → id_of m (told_at cmp q new) ≡ (if same cmp e q then (if n == m then there else id_of m (told_at cmp q old)) else id_of m (told_at cmp q old))

  refinds : (e : K) (change : List (ℕ × ℕ) → List (ℕ × ℕ)) (there : Option ℕ) → ((m : ℕ) (pairs : List (ℕ × ℕ)) → id_of m (change pairs) ≡ (if n == m then there else id_of m pairs))
      → (old new : Index K) → ChangesAt cmp e change old new → Refinds e there old new
  refinds e change there found old new changes q m =
      ap (id_of m) (changes.at q) ∙ by_test (same cmp e q) (λ t. rw t (found m (told_at cmp q old))) (λ t. rw t refl)

  -- what is found for the face, and for others, where one expression changes
  one-refound : (e : K) (there : Option ℕ) (before after : ById K) (old new : Index K) → Refinds e there old new → ((q : K) → told_id cmp q after ≡ (if same cmp e q then there else told_id cmp q before))
      → Finds before old → (q : K) (m : ℕ) → id_of m (told_at cmp q new) ≡ (if n == m then told_id cmp q after else id_of m (told_at cmp q old))
  one-refound e there before after old new changes rows finds q m =
      changes q m
      ∙ by_test (n == m)
      (λ t.
      let own : id_of m (told_at cmp q old) ≡ told_id cmp q before = subst (λ k. id_of k (told_at cmp q old) ≡ told_id cmp q before) (eqb-true n m t) (finds q) in
      rw t (ap (λ (o : Option ℕ). if same cmp e q then there else o) own ∙ sym (rows q)))
      (λ t. rw t (either (same cmp e q)))
    where
      either : (b : Bool) → (if b then id_of m (told_at cmp q old) else id_of m (told_at cmp q old)) ≡ id_of m (told_at cmp q old)
      either true = refl
      either false = refl

  -- nothing changes
  pub retold-same : (rows : ById K) (index : Index K) → IsRetold cmp n rows rows index index
  retold-same rows index = record {
    apart = λ apart finds. apart;
    at = λ apart finds q m. by_test (n == m)
        (λ t. rw t (subst (λ k. id_of k (told_at cmp q index) ≡ told_id cmp q rows) (eqb-true n m t) (finds q)))
        (λ t. rw t refl);
  }

  -- the same rows by another name
  pub retold-alike : (before after other : ById K) (old new : Index K) → (AreApart cmp before → Finds before old → after ≡ other) → IsRetold cmp n before after old new → IsRetold cmp n before other old new
  retold-alike before after other old new alike retold = record {
    apart = λ apart finds. subst (AreApart cmp) (alike apart finds) (retold.apart apart finds);
    at = λ apart finds q m. retold.at apart finds q m ∙ ap (λ rows. if n == m then told_id cmp q rows else id_of m (told_at cmp q old)) (alike apart finds);
  }

  -- a pair of an id that is never kept
  pub retold-none : (id : ℕ) (e : K) (rows : ById K) (index : Index K) → (id == 0) ≡ true → IsRetold cmp n rows (told_pair cmp id e rows) index index
  retold-none id e rows index none = retold-alike rows rows (told_pair cmp id e rows) index index (λ apart finds. rw none refl) (retold-same rows index)

  -- ---- all that a face was told goes
  -- the rows that are left are found still, and no others
  pub record LeavesFound (whole left : ById K) (old new : Index K) : Type 0 where
    pub own : Finds whole old → (q : K) → told_id cmp q left ≡ None → id_of n (told_at cmp q new) ≡ None
    pub others : (q : K) (m : ℕ) → (n == m) ≡ false → id_of m (told_at cmp q new) ≡ id_of m (told_at cmp q old)

  pub leaves-all : (whole : ById K) (index : Index K) → LeavesFound whole whole index index
  leaves-all whole index = record { own = λ finds q none. finds q ∙ none; others = λ q m apart. refl }

  pub leaves-none : (whole : ById K) (old new : Index K) → LeavesFound whole [] old new → IsRetold cmp n whole [] old new
  unfolding told_id
  leaves-none whole old new leaves = record {
    apart = λ apart finds. tt;
    at = λ apart finds q m. by_test (n == m)
        (λ t. rw t (subst (λ k. id_of k (told_at cmp q new) ≡ None) (eqb-true n m t) (leaves.own finds q refl)))
        (λ t. rw t (leaves.others q m t));
  }

  module _ (total : IsTotalOrder cmp) (exact : (a b : K) → cmp a b ≡ Equal → a ≡ b) where
    -- ---- told
    pub retold-more : (id : ℕ) (e : K) (rows : ById K) (old new : Index K) → (id == 0) ≡ false → None ≡ id_of n (told_at cmp e old) → ChangesAt cmp e (with_face n id) old new → IsRetold cmp n rows (told_pair cmp id e rows) old new
    retold-more id e rows old new real none changes =
        retold-alike rows (rows ++ (id, e) ∷ []) (told_pair cmp id e rows) old new
        (λ apart finds. rw real (sym (with_first cmp id e rows (absent finds))))
        (record {
          apart = λ apart finds. apart_added cmp total exact e id rows (absent finds) apart;
          at = λ apart finds. one-refound e (Some id) rows (rows ++ (id, e) ∷ []) old new (refinds e (with_face n id) (Some id) (λ m. id-put m n id) old new changes) (λ q. told_added cmp total exact q e id rows (absent finds)) finds;
        })
      where
        absent : Finds rows old → told_id cmp e rows ≡ None
        absent finds = sym (finds e) ∙ sym none

    -- the same pair again
    pub retold-again : (id : ℕ) (e : K) (rows : ById K) (old new : Index K) → Some id ≡ id_of n (told_at cmp e old) → ChangesAt cmp e (with_face n id) old new → IsRetold cmp n rows (told_pair cmp id e rows) old new
    retold-again id e rows old new found changes =
        retold-alike rows rows (told_pair cmp id e rows) old new
        (λ apart finds. by_test (id == 0) (λ t. rw t refl) (λ t. rw t (sym (with_again cmp id e rows (there finds)))))
        (record {
          apart = λ apart finds. apart;
          at = λ apart finds. one-refound e (Some id) rows rows old new (refinds e (with_face n id) (Some id) (λ m. id-put m n id) old new changes) (λ q. by_test (same cmp e q) (λ t. rw t (own finds q t)) (λ t. rw t refl)) finds;
        })
      where
        there : Finds rows old → told_id cmp e rows ≡ Some id
        there finds = sym (finds e) ∙ sym found

        equal : (o : Ordering) → is_eq o ≡ true → o ≡ Equal
        equal Less t = cc
        equal Equal t = refl
        equal Greater t = cc

        own : Finds rows old → (q : K) → same cmp e q ≡ true → told_id cmp q rows ≡ Some id
        own finds q t = subst (λ k. told_id cmp k rows ≡ Some id) (exact e q (equal (cmp e q) t)) (there finds)

    -- ---- told that it is gone
    pub retold-less : (e : K) (rows : ById K) (old new : Index K) → ChangesAt cmp e (without_face n) old new → IsRetold cmp n rows (filter (λ row. not (same cmp e row.1)) rows) old new
    retold-less e rows old new changes = record {
      apart = λ apart finds. apart_dropped cmp total exact e rows apart;
      at = λ apart finds. one-refound e None rows (filter (λ row. not (same cmp e row.1)) rows) old new (refinds e (without_face n) None (λ m. id-dropped m n) old new changes) (λ q. told_dropped cmp total exact q e rows) finds;
    }

    -- by id
    pub retold-found : (id : ℕ) (e : K) (rows : ById K) (old new : Index K) → at_id id rows ≡ Some e → IsInOrder rows → ChangesAt cmp e (without_face n) old new → IsRetold cmp n rows (without_id id rows) old new
    retold-found id e rows old new found ordered changes =
        retold-alike rows (filter (λ row. not (same cmp e row.1)) rows) (without_id id rows) old new (λ apart finds. dropped_without cmp total exact id e rows ordered apart found) (retold-less e rows old new changes)

    pub retold-unfound : (id : ℕ) (rows : ById K) (index : Index K) → at_id id rows ≡ None → IsRetold cmp n rows (without_id id rows) index index
    retold-unfound id rows index none = retold-alike rows rows (without_id id rows) index index (λ apart finds. sym (none_without cmp total exact id rows none)) (retold-same rows index)

    -- by expression, under the id that is found
    pub retold-by-id : (id : ℕ) (e : K) (rows : ById K) (old new : Index K) → Some id ≡ id_of n (told_at cmp e old) → IsInOrder rows → IsRetold cmp n rows (without_id id rows) old new → IsRetold cmp n rows (filter (λ row. not (same cmp e row.1)) rows) old new
    retold-by-id id e rows old new found ordered retold =
        retold-alike rows (without_id id rows) (filter (λ row. not (same cmp e row.1)) rows) old new
        (λ apart finds. sym (dropped_without cmp total exact id e rows ordered apart (row-told cmp total exact id e rows ordered (sym (finds e) ∙ sym found))))
        retold

    pub retold-unless : (e : K) (rows : ById K) (index : Index K) → None ≡ id_of n (told_at cmp e index) → IsRetold cmp n rows (filter (λ row. not (same cmp e row.1)) rows) index index
    retold-unless e rows index none =
        retold-alike rows rows (filter (λ row. not (same cmp e row.1)) rows) index index (λ apart finds. sym (none_dropped cmp total exact e rows (sym (finds e) ∙ sym none))) (retold-same rows index)

    -- one row less is left
    told-later : (row : ℕ × K) (left : ById K) (q : K) → told_id cmp q left ≡ None → same cmp row.1 q ≡ false → told_id cmp q (row ∷ left) ≡ None
    unfolding told_id
    told-later row left q none apart = let other = (eq_by_cmp_equiv total).symm q row.1 ∙ apart in rw other none

    pub leaves-less : (whole : ById K) (row : ℕ × K) (left : ById K) (old now new : Index K) → LeavesFound whole (row ∷ left) old now → ChangesAt cmp row.1 (without_face n) now new → LeavesFound whole left old new
    leaves-less whole row left old now new leaves changes = record {
      own = λ finds q none.
          less q n
          ∙ by_test (same cmp row.1 q)
          (λ t. rw (t, itself n) refl)
          (λ t. rw t (leaves.own finds q (told-later row left q none t)));
      others = λ q m apart. less q m ∙ rw apart (either (same cmp row.1 q) q m) ∙ leaves.others q m apart;
    }
      where
        less : Refinds row.1 None now new
        less = refinds row.1 (without_face n) None (λ m. id-dropped m n) now new changes

        itself : (k : ℕ) → (k == k) ≡ true
        itself k = grind (arith, nat_tests)

        either : (b : Bool) (q : K) (m : ℕ) → (if b then id_of m (told_at cmp q now) else id_of m (told_at cmp q now)) ≡ id_of m (told_at cmp q now)
        either true q m = refl
        either false q m = refl
