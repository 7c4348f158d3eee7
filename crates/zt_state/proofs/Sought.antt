-- A face that is found by its number, beside what is looked up of it.
use Rattle.std.proofs.Common.{◌≡◌, ◌<◌, ℕ, Bool, ◌==◌, true, false, not, if◌then◌else◌, List, [], ◌∷◌, Option, Some, ap, arith, filter, map, refl, subst, sym, ◌∙◌}
use Rattle.std.proofs.lemmas.Bool.{eqb-true}
use Rattle.std.proofs.lemmas.Bool.Decides.{nat_tests}
use Rattle.std.proofs.lemmas.Option.{same_Some}
use Rattle.std.specs.List.{AllByRecursion, list_any}
use Rattle.std.specs.List.Sorted.{IsStrictlySortedBy}
use Rattle.std.specs.Ordering.{nat_cmp}
use Rattle.std.specs.declared.cmp.Ordering.{Ordering}
use Rattle.std.specs.declared.cmp.Ordering.TheVariants.{Less}
use Rattle.zt_keys.specs.Test.{by_test}
use Rattle.zt_keys.specs.declared.anchor.Anchor.{Anchor}
use Rattle.zt_model.specs.Lists.{first_where}
use Rattle.zt_model.specs.Rows.{Face}
use Rattle.zt_protocol.specs.declared.messages.Message.{Message}
use Rattle.zt_face.specs.Told.{heard_known}
use Rattle.zt_model.specs.Hearing.{heard}
use Rattle.zt_model.specs.Wants.{seeks}
use Rattle.zt_model.proofs.Hats.{seeks_is}
use Rattle.zt_region.specs.declared.region.WhatAmI.{WhatAmI}
use Rattle.zt_token_index.specs.Seekers.{AreSeekers, IsKnown, IsOnlyOne, Leaves, Reseeks, Seeking, may_seek}
use Rattle.zt_faces.specs.Rising.{IsRising}
use Rattle.zt_faces.proofs.Rising.{all-weaker, none-above}

below : (a b : ℕ) → a < b → nat_cmp a b ≡ Less
below a b h = grind (arith, nat_tests)

-- rising numbers stand in order
pub numbers-sorted : {A : Type 0} (number : A → ℕ) (xs : List A) → IsRising number xs → IsStrictlySortedBy nat_cmp (map number xs)
unfolding IsStrictlySortedBy
numbers-sorted number [] rising = tt
numbers-sorted number (x ∷ xs) rising = (each xs rising.0, numbers-sorted number xs rising.1)
  where
    each : (ys : List _) → AllByRecursion (λ y. number x < number y) ys → AllByRecursion (λ m. nat_cmp (number x) m ≡ Less) (map number ys)
    each [] h = tt
    each (y ∷ ys) h = (below (number x) (number y) h.0, each ys h.1)

module _ {K : Type 0} where
  -- faces to the north, and those that want the expression, are those that seek it
  pub sought-same : (matching : K → K → Bool) (mode : WhatAmI) (e : K) (fs : List (Face K))
      → map (λ f. f.number) (filter (λ f. may_seek matching f e) fs) ≡ map (λ f. f.number) (filter (λ f. seeks matching mode f e) fs)
  sought-same matching mode e fs = λ i. map (λ (f : Face K). f.number) (filter (λ f. sym (seeks_is matching mode f e) i) fs)

  pub number-found : (n : ℕ) (f : Face K) (fs : List (Face K)) → first_where (λ x. n == x.number) fs ≡ Some f → n ≡ f.number
  number-found n f [] is = cc
  number-found n f (x ∷ xs) is =
      by_test (n == x.number)
      (λ t. eqb-true n x.number t ∙ ap (λ (y : Face K). y.number) (same_Some _ _ (rw t at is)))
      (λ t. number-found n f xs (rw t at is))

  any-found : (n : ℕ) (f : Face K) (fs : List (Face K)) → first_where (λ x. n == x.number) fs ≡ Some f → list_any (λ x. n == x.number) fs ≡ true
  any-found n f [] is = cc
  any-found n f (x ∷ xs) is = by_test (n == x.number) (λ t. rw t refl) (λ t. rw t (any-found n f xs (rw t at is)))

  only-found : (n : ℕ) (f : Face K) (fs : List (Face K)) → IsRising (λ x. x.number) fs → first_where (λ x. n == x.number) fs ≡ Some f → AllByRecursion (λ x. (n == x.number) ≡ true → x ≡ f) fs
  only-found n f [] rising is = tt
  only-found n f (x ∷ xs) rising is =
      by_test (n == x.number)
      (λ t.
      let none = subst (λ (m : ℕ). AllByRecursion (λ (y : Face K). (m == y.number) ≡ false) xs) (sym (eqb-true n x.number t)) (none-above (λ (y : Face K). y.number) x.number xs rising.0) in
      (λ _. same_Some _ _ (rw t at is), all-weaker (λ (y : Face K). (n == y.number) ≡ false) (λ (y : Face K). (n == y.number) ≡ true → y ≡ f) (λ y apart tied. cc) xs none))
      (λ t. (λ tied. cc, only-found n f xs rising.1 (rw t at is)))

  none-passed : (n : ℕ) (fs : List (Face K)) → AllByRecursion (λ x. (n == x.number) ≡ false) fs → filter (λ x. n == x.number) fs ≡ []
  none-passed n [] none = refl
  none-passed n (x ∷ xs) none = let apart = none.0 in rw apart (none-passed n xs none.1)

  alone-found : (n : ℕ) (f : Face K) (fs : List (Face K)) → IsRising (λ x. x.number) fs → first_where (λ x. n == x.number) fs ≡ Some f → filter (λ x. n == x.number) fs ≡ f ∷ []
  alone-found n f [] rising is = cc
  alone-found n f (x ∷ xs) rising is =
      by_test (n == x.number)
      (λ t.
      let none = subst (λ (m : ℕ). AllByRecursion (λ (y : Face K). (m == y.number) ≡ false) xs) (sym (eqb-true n x.number t)) (none-above (λ (y : Face K). y.number) x.number xs rising.0) in
      let here : x ≡ f = same_Some _ _ (rw t at is) in
      rw t (λ i. here i ∷ none-passed n xs none i))
      (λ t. rw t (alone-found n f xs rising.1 (rw t at is)))

  only-one : (n : ℕ) (f : Face K) (fs : List (Face K)) → IsRising (λ x. x.number) fs → first_where (λ x. n == x.number) fs ≡ Some f → IsOnlyOne f fs
  only-one n f fs rising is =
      let same = number-found n f fs is in
      record {
        found = subst (λ (m : ℕ). list_any (λ (x : Face K). m == x.number) fs ≡ true) same (any-found n f fs is);
        only = subst (λ (m : ℕ). AllByRecursion (λ (x : Face K). (m == x.number) ≡ true → x ≡ f) fs) same (only-found n f fs rising is);
        alone = subst (λ (m : ℕ). filter (λ (x : Face K). m == x.number) fs ≡ f ∷ []) same (alone-found n f fs rising is);
      }

  -- two changes that do the same to the one of a number
  pub same-changed : (n : ℕ) (f : Face K) (fs : List (Face K)) → IsRising (λ x. x.number) fs → first_where (λ x. n == x.number) fs ≡ Some f → (one other : Face K → Face K) → one f ≡ other f
      → map (λ x. if n == x.number then one x else x) fs ≡ map (λ x. if n == x.number then other x else x) fs
  same-changed n f fs rising is one other same = each fs (only-found n f fs rising is)
    where
      each : (xs : List (Face K)) → AllByRecursion (λ x. (n == x.number) ≡ true → x ≡ f) xs → map (λ x. if n == x.number then one x else x) xs ≡ map (λ x. if n == x.number then other x else x) xs
      each [] only = refl
      each (x ∷ xs) only =
          by_test (n == x.number)
          (λ t. let here : one x ≡ other x = subst (λ (y : Face K). one y ≡ other y) (sym (only.0 t)) same in rw t (λ i. here i ∷ each xs only.1 i))
          (λ t. rw t (ap (λ ys. x ∷ ys) (each xs only.1)))

  module _ (cmp : K → K → Ordering) (anchored : Anchor → K → Option ℕ) (n : ℕ) (f : Face K) (fs : List (Face K)) (rising : IsRising (λ x. x.number) fs) (is : first_where (λ x. n == x.number) fs ≡ Some f) (old new : Seeking K) (are : AreSeekers cmp anchored old fs) where
    pub sought-changed : (change : Face K → Face K) → Reseeks cmp anchored f change old new → AreSeekers cmp anchored new (map (λ x. if n == x.number then change x else x) fs)
    sought-changed change changes =
        subst (λ (m : ℕ). AreSeekers cmp anchored new (map (λ (x : Face K). if m == x.number then change x else x) fs)) (sym (number-found n f fs is)) (changes.at fs (only-one n f fs rising is) are)

    pub sought-closed : Leaves cmp anchored f old new → AreSeekers cmp anchored new (filter (λ x. not (n == x.number)) fs)
    sought-closed leaves =
        subst (λ (m : ℕ). AreSeekers cmp anchored new (filter (λ (x : Face K). not (m == x.number)) fs)) (sym (number-found n f fs is)) (leaves.at fs (only-one n f fs rising is) are)

    -- a message is heard by the id that is known as it is heard
    pub known-heard : (m : Message K) (known : Option ℕ) (moment : ℕ) → IsKnown cmp anchored f m known old
        → map (λ x. if n == x.number then heard_known cmp moment m known x else x) fs ≡ map (λ x. if n == x.number then heard cmp moment m x else x) fs
    known-heard m known moment knows = same-changed n f fs rising is (heard_known cmp moment m known) (heard cmp moment m) (knows.at fs (only-one n f fs rising is) are moment)
