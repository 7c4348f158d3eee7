-- Rows by id: the row under an id, after one is put or taken.
use Rattle.std.proofs.Common.{◌≡◌, ℕ, ◌+◌, ◌≤◌, ◌<◌, true, false, not, ◌==◌, List, [], ◌∷◌, map, Some, None, refl, sym, ap, ◌∙◌, subst, arith, eq-eqb, ne_eqb}
use Rattle.std.proofs.lemmas.Cmp.{ranked}
use Rattle.std.specs.FinMap.Entries.{by_order, put}
use Rattle.std.specs.Ordering.{nat_cmp}
use Rattle.std.specs.declared.cmp.Ordering.TheVariants.{Less, Equal, Greater}
use Rattle.zt_model.specs.Lists.{at_id, first_where, has_id, without_id}
use Rattle.zt_model.specs.Rows.{ById, Face}
use Rattle.zt_model.specs.Transcript.{Each}
use Rattle.zt_laws.specs.Sound.{RiseFrom}
use Rattle.zt_laws.proofs.Lists.{by_test, each_both, each_weaker, filter_all, never, rise_above}

pub at_put : {A : Type 0} (id : ℕ) (v : A) (rows : ById A) → at_id id (put nat_cmp id v rows) ≡ Some v
at_put id v [] = rw (eq-eqb id id refl) refl
at_put id v (row ∷ rows) =
    elim (nat_cmp id row.0) as (λ o. nat_cmp id row.0 ≡ o → at_id id (by_order o ((id, v) ∷ row ∷ rows) ((row.0, v) ∷ rows) (row ∷ put nat_cmp id v rows)) ≡ Some v) [
      | Less ↦ λ is. rw (eq-eqb id id refl) refl
      | Equal ↦ λ is. rw (eq-eqb id row.0 (ranked id row.0 Equal (sym is))) refl
      | Greater ↦ λ is. let more : row.0 < id = ranked id row.0 Greater (sym is) in rw (ne_eqb id row.0 (λ one. omega arith)) (at_put id v rows)
    ] refl

pub at_put_other : {A : Type 0} (k id : ℕ) (v : A) (rows : ById A) → (k == id) ≡ false → at_id k (put nat_cmp id v rows) ≡ at_id k rows
at_put_other k id v [] apart = rw apart refl
at_put_other k id v (row ∷ rows) apart =
    elim (nat_cmp id row.0) as (λ o. nat_cmp id row.0 ≡ o → at_id k (by_order o ((id, v) ∷ row ∷ rows) ((row.0, v) ∷ rows) (row ∷ put nat_cmp id v rows)) ≡ at_id k (row ∷ rows)) [
      | Less ↦ λ is. rw apart refl
      | Equal ↦ λ is. let one : id ≡ row.0 = ranked id row.0 Equal (sym is) in let miss : (k == row.0) ≡ false = ap (λ j. k == j) (sym one) ∙ apart in rw miss refl
      | Greater ↦ λ is. by_test (k == row.0) (λ here. rw here refl) (λ here. rw here (at_put_other k id v rows apart))
    ] refl

pub at_without_other : {A : Type 0} (k id : ℕ) (rows : ById A) → (id == k) ≡ false → at_id k (without_id id rows) ≡ at_id k rows
at_without_other k id [] apart = refl
at_without_other k id (row ∷ rows) apart =
    by_test (id == row.0)
    (λ here.
    let miss : (k == row.0) ≡ false = ne_eqb k row.0 (λ one. never (ap (λ j. id == j) one ∙ here) apart) in
    rw (here, miss) (at_without_other k id rows apart))
    (λ here. rw here (by_test (k == row.0) (λ own. rw own refl) (λ own. rw own (at_without_other k id rows apart))))

-- what holds of each row under an id holds of that at the id
pub at_each : {A : Type 0} (Q : A → Type 0) (id : ℕ) (rows : ById A) (v : A) → Each (λ row. (id == row.0) ≡ true → Q row.1) rows → at_id id rows ≡ Some v → Q v
at_each Q id [] v all found = cc
at_each Q id (row ∷ rows) v all found =
    by_test (id == row.0) (λ here. let e : Some row.1 ≡ Some v = rw here at found in let is : row.1 ≡ v = cc in subst Q is (all.0 here)) (λ here. at_each Q id rows v all.1 (rw here at found))

-- where ids rise each row stands at its own
pub each_at : {A : Type 0} (low : ℕ) (rows : ById A) → RiseFrom (λ row. row.0) low rows → Each (λ row. at_id row.0 rows ≡ Some row.1) rows
each_at low [] rises = tt
each_at low (row ∷ rows) rises = (
  rw (eq-eqb row.0 row.0 refl) refl,
  each_both (λ other. row.0 + 1 ≤ other.0) (λ other. at_id other.0 rows ≡ Some other.1) (λ other. at_id other.0 (row ∷ rows) ≡ Some other.1)
      (λ other above found. let miss : (other.0 == row.0) ≡ false = ne_eqb other.0 row.0 (λ one. omega arith) in rw miss found) rows (rise_above (λ other. other.0) (row.0 + 1) rows rises.1) (each_at (row.0 + 1) rows rises.1),
)

pub at_has : {A : Type 0} (id : ℕ) (rows : ById A) (v : A) → at_id id rows ≡ Some v → has_id id rows ≡ true
at_has id [] v found = cc
at_has id (row ∷ rows) v found = by_test (id == row.0) (λ here. rw here refl) (λ here. rw here (at_has id rows v (rw here at found)))

-- the rows after the first
pub without_first : {A : Type 0} (row : ℕ × A) (rows : ById A) → RiseFrom (λ r. r.0) (row.0 + 1) rows → without_id row.0 (row ∷ rows) ≡ rows
without_first row rows rises = rw (eq-eqb row.0 row.0 refl) (filter_all (λ other. not (row.0 == other.0)) rows (each_weaker (λ other. row.0 + 1 ≤ other.0) (λ other. not (row.0 == other.0) ≡ true) (λ other above. ap not (ne_eqb row.0 other.0 (λ one. omega arith))) rows (rise_above (λ other. other.0) (row.0 + 1) rows rises)))

pub at_none_has : {A : Type 0} (id : ℕ) (rows : ById A) → at_id id rows ≡ None → has_id id rows ≡ false
at_none_has id [] found = refl
at_none_has id (row ∷ rows) found =
    by_test (id == row.0) (λ here. let e : Some row.1 ≡ None = rw here at found in cc) (λ here. rw here (at_none_has id rows (rw here at found)))

-- the face of a number, after each face is changed
pub find_mapped : {K : Type 0} (n : ℕ) (change : Face K → Face K) (fs : List (Face K)) (f : Face K) → ((f : Face K) → (change f).number ≡ f.number) → first_where (λ f. n == f.number) fs ≡ Some f → first_where (λ f. n == f.number) (map change fs) ≡ Some (change f)
find_mapped n change [] f number_ found = cc
find_mapped n change (h ∷ fs) f number_ found =
    by_test (n == h.number)
    (λ here.
    let e : Some h ≡ Some f = rw here at found in
    let is : h ≡ f = cc in
    let there : (n == (change h).number) ≡ true = ap (λ k. n == k) (number_ h) ∙ here in
    rw there (ap (λ k. Some (change k)) is))
    (λ here. let there : (n == (change h).number) ≡ false = ap (λ k. n == k) (number_ h) ∙ here in rw there (find_mapped n change fs f number_ (rw here at found)))
