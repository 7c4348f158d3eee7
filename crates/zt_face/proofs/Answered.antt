-- The ask of an id is answered.
use Rattle.std.proofs.Common.{◌≡◌, ℕ, Bool, ◌==◌, ◌++◌, ◌∷◌, [], List, true, false, Some, None, map, refl, subst, sym, append_assoc, ◌∙◌}
use Rattle.indexmap.specs.IndexSet.{insert_key}
use Rattle.std.proofs.lemmas.Map.Keys.{IsDistinct-head, IsDistinct-tail}
use Rattle.std.specs.BTreeMap.{is_at}
use Rattle.std.specs.Cmp.{IsEquivalence}
use Rattle.std.specs.List.{AllByRecursion, IsDistinct, list_any}
use Rattle.std.specs.Map.{set_value}
use Rattle.std.specs.Ordering.{nat_cmp}
use Rattle.std.specs.declared.cmp.Ordering.{Ordering}
use Rattle.zt_keys.specs.Test.{by_test}
use Rattle.zt_face.specs.Told.{answered_with}
use Rattle.zt_rows.specs.ById.{IsInOrder}
use Rattle.zt_rows.proofs.ById.{changed_at, unchanged}
use Rattle.zt_model.specs.Hearing.{with_answer}
use Rattle.zt_model.specs.Lists.{at_id, is_among}
use Rattle.zt_model.specs.Rows.{Ask, ById}

module _ {K : Type 0} {eq : K → K → Bool} (laws : IsEquivalence eq) where
  first-of : (x : K) (xs ys : List K) (k : K) → AllByRecursion (λ y. eq x y ≡ false) (xs ++ k ∷ ys) → eq x k ≡ false
  first-of x [] ys k all = all.0
  first-of x (y ∷ xs) ys k all = first-of x xs ys k all.1

  -- a key that stands behind others which all differ is none of these
  pub is-new : (xs ys : List K) (k : K) → IsDistinct eq (xs ++ k ∷ ys) → list_any (eq k) xs ≡ false
  is-new [] ys k distinct = refl
  is-new (x ∷ xs) ys k distinct =
      rw (laws.symm k x ∙ first-of x xs ys k (IsDistinct-head eq x (xs ++ k ∷ ys) distinct)) (is-new xs ys k (IsDistinct-tail eq x (xs ++ k ∷ ys) distinct))

  -- the next of the keys left is put behind those so far
  pub put-behind : (done rest all : List K) (k : K) → done ++ k ∷ rest ≡ all → IsDistinct eq all → insert_key eq done k ++ rest ≡ all
  put-behind done rest all k is distinct = rw (is-new done rest k (subst (IsDistinct eq) (sym is) distinct)) (append_assoc done (k ∷ []) rest ∙ is)

module _ {K : Type 0} (cmp : K → K → Ordering) (id : ℕ) (e : K) where
  here : (row : ℕ × Ask K) → (id == row.0) ≡ true → with_answer cmp id e row ≡ (row.0, answered_with cmp e row.1)
  here row at_ = by_test (is_among cmp e row.1.answered) (λ t. rw (at_, t) refl) (λ t. rw (at_, t) refl)

  there : (row : ℕ × Ask K) → (id == row.0) ≡ false → with_answer cmp id e row ≡ row
  there row apart = rw apart refl

  pub answered_nowhere : (asks : ById (Ask K)) → at_id id asks ≡ None → asks ≡ map (with_answer cmp id e) asks
  answered_nowhere asks absent = sym (unchanged id (answered_with cmp e) (with_answer cmp id e) here there asks absent)

  pub answered_at : (asks : ById (Ask K)) (old new : Ask K) → IsInOrder asks → at_id id asks ≡ Some old → new ≡ answered_with cmp e old → set_value (is_at (nat_cmp id)) asks new ≡ map (with_answer cmp id e) asks
  answered_at asks old new ordered is change = changed_at id (answered_with cmp e) (with_answer cmp id e) here there asks old new ordered is change
