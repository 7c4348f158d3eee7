-- An interest needs ids of the face that asks, for the answers, and of faces to the north alone.
use Rattle.std.proofs.Common.{◌≡◌, ◌+◌, ◌||◌, ◌&&◌, ◌==◌, ℕ, Bool, true, false, not, nat_lt, if◌then◌else◌, List, [], ◌∷◌, Option, Some, None, ap, arith, filter, map, refl, sym, ◌∙◌}
use Rattle.std.proofs.lemmas.Bool.{eqb-true}
use Rattle.std.proofs.lemmas.Option.{same_Some}
use Rattle.std.specs.List.{AllByRecursion, list_any}
use Rattle.std.specs.declared.cmp.Ordering.{Ordering}
use Rattle.zt_keys.specs.Test.{by_test}
use Rattle.zt_region.specs.Region.{is_north}
use Rattle.zt_region.specs.declared.region.Region.{Region}
use Rattle.zt_protocol.specs.declared.interests.InterestMode.{InterestMode}
use Rattle.zt_protocol.specs.declared.interests.InterestOptions.{InterestOptions}
use Rattle.zt_model.specs.Lists.{first_where, is_some_and}
use Rattle.zt_model.specs.Parts.{find_face, is_routed}
use Rattle.zt_model.specs.Refusals.{ids_for_interest, ids_for_target, left_ids}
use Rattle.zt_model.specs.Routing.{is_asked, is_target}
use Rattle.zt_model.specs.Rows.{Face, Rows}
use Rattle.zt_model.proofs.Hats.{asked_north}
use Rattle.zt_faces.specs.Rising.{IsRising}
use Rattle.zt_state.proofs.Sought.{number-found}
use Rattle.zt_tokens.proofs.Chosen.{all-found}
use Rattle.zt_refusals.specs.Lacking.{lacks_for_answers, lacks_for_interest, lacks_for_target}
use Rattle.zt_refusals.proofs.LeftIds.{needs_none}
use Rattle.zt_refusals.proofs.Seekers.{any_chosen}

add_zero : (k : ℕ) → k + 0 ≡ k
add_zero k = omega arith

zero_add : (k : ℕ) → 0 + k ≡ k
zero_add k = omega arith

-- one that passes is among those that do
pub any_of_found : {A : Type 0} (p q : A → Bool) (xs : List A) (x : A) → first_where p xs ≡ Some x → q x ≡ true → list_any q xs ≡ true
any_of_found p q [] x is t = cc
any_of_found p q (y ∷ ys) x is t =
    by_test (p y)
    (λ here. let same : q y ≡ true = ap q (same_Some y x (rw here at is)) ∙ t in rw same refl)
    (λ not_here. let rest = any_of_found p q ys x (rw not_here at is) t in by_test (q y) (λ u. rw u refl) (λ u. rw u rest))

module _ {K : Type 0} where
  south-unasked : (g : Rows K) (mode : InterestMode) (f : Face K) → is_north f.region ≡ false → is_asked g mode f ≡ false
  south-unasked g mode f h = by_test (is_asked g mode f) (λ t. let north = asked_north g mode f t in cc) (λ t. t)

  south-untargeted : (g : Rows K) (asker : Region) (mode : InterestMode) (f : Face K) → is_north f.region ≡ false → is_target g asker mode f ≡ false
  unfolding is_target
  south-untargeted g asker mode f h = let unasked = south-unasked g mode f h in by_test (is_north asker) (λ t. rw t refl) (λ t. rw (t, unasked) refl)

  -- no face is sent an interest of its own
  own-untargeted : (g : Rows K) (mode : InterestMode) (f : Face K) → is_target g f.region mode f ≡ false
  unfolding is_target
  own-untargeted g mode f = by_test (is_north f.region) (λ t. rw t refl) (south-untargeted g f.region mode f)

  -- nor does a face to the south need an id for one
  south-lacks-none : (g : Rows K) (asker : Region) (mode : InterestMode) (f : Face K) → is_north f.region ≡ false → lacks_for_target asker mode g f ≡ false
  south-lacks-none g asker mode f h =
      let none = south-untargeted g asker mode f h in
      needs_none g (λ x. if is_target g asker mode x then 1 else 0) f (rw none refl)

module _ {K : Type 0} (cmp : K → K → Ordering) (matching : K → K → Bool) (n : ℕ) (mode : InterestMode) (options : InterestOptions) (e : Option K) (g : Rows K) where
  -- another face than the one that asks is answered nothing
  answered_none : (f : Face K) → (n == f.number) ≡ false → ids_for_interest cmp matching n mode options e g f ≡ 0
  answered_none f apart = rw (apart, ids_for_interest) refl

  -- an interest of a face that isn't open needs none
  pub closed_lack : find_face n g ≡ None → false ≡ list_any (lacks_for_interest cmp matching n mode options e g) g.faces
  closed_lack closed = each g.faces closed
    where
      each : (fs : List (Face K)) → first_where (λ x. n == x.number) fs ≡ None → false ≡ list_any (lacks_for_interest cmp matching n mode options e g) fs
      each [] is = refl
      each (f ∷ fs) is =
          by_test (n == f.number)
          (λ t. let found = rw t at is in cc)
          (λ t.
          let needed = λ (x : Face K). ids_for_interest cmp matching n mode options e g x + ids_for_target cmp matching n mode g x in
          let sent : ids_for_target cmp matching n mode g f ≡ 0 = rw (closed, ids_for_target) refl in
          let here : lacks_for_interest cmp matching n mode options e g f ≡ false = needs_none g needed f (λ i. answered_none f t i + sent i) in
          let rest = each fs (rw t at is) in
          λ i. sym here i || rest i)

  module _ (from : Face K) (is : find_face n g ≡ Some from) where
    own_ids : ids_for_interest cmp matching n mode options e g from + ids_for_target cmp matching n mode g from ≡ ids_for_interest cmp matching from.number mode options e g from
    own_ids =
        let none = own-untargeted g mode from in
        let unsent : ids_for_target cmp matching n mode g from ≡ 0 = rw (is, ids_for_target) (rw none refl) in
        ap (λ k. ids_for_interest cmp matching n mode options e g from + k) unsent
        ∙ add_zero (ids_for_interest cmp matching n mode options e g from)
        ∙ ap (λ (m : ℕ). ids_for_interest cmp matching m mode options e g from) (number-found n from g.faces is)

    -- the face that asks needs them for the answers
    own_lacks : lacks_for_interest cmp matching n mode options e g from ≡ lacks_for_answers cmp matching mode options e g from
    own_lacks = ap (λ k. not (is_routed g from) && nat_lt (left_ids from) k) own_ids

    -- another, for the interest that is sent to it
    other_lacks : (f : Face K) → (n == f.number) ≡ false → lacks_for_interest cmp matching n mode options e g f ≡ lacks_for_target from.region mode g f
    other_lacks f apart =
        let sent : ids_for_target cmp matching n mode g f ≡ (if is_target g from.region mode f then 1 else 0) = rw (is, ids_for_target) refl in
        let ids : ids_for_interest cmp matching n mode options e g f + ids_for_target cmp matching n mode g f ≡ (if is_target g from.region mode f then 1 else 0) = (λ i. answered_none f apart i + sent i) ∙ zero_add (if is_target g from.region mode f then 1 else 0) in
        ap (λ k. not (is_routed g f) && nat_lt (left_ids f) k) ids

    pub asker_lacks : lacks_for_answers cmp matching mode options e g from ≡ true → list_any (lacks_for_interest cmp matching n mode options e g) g.faces ≡ true
    asker_lacks t = any_of_found (λ x. n == x.number) (lacks_for_interest cmp matching n mode options e g) g.faces from is (own_lacks ∙ t)

    -- where it has enough, the faces that are sent the interest decide
    target_decides : lacks_for_answers cmp matching mode options e g from ≡ false → (f : Face K) → first_where (λ x. f.number == x.number) g.faces ≡ Some f
        → lacks_for_target from.region mode g f ≡ lacks_for_interest cmp matching n mode options e g f
    target_decides enough f found =
        by_test (n == f.number)
        (λ t.
        let own : f ≡ from = same_Some f from (sym found ∙ ap (λ (m : ℕ). first_where (λ (x : Face K). m == x.number) g.faces) (sym (eqb-true n f.number t)) ∙ is) in
        let none = own-untargeted g mode from in
        let unsent : lacks_for_target from.region mode g from ≡ false = needs_none g (λ x. if is_target g from.region mode x then 1 else 0) from (rw none refl) in
        ap (lacks_for_target from.region mode g) own ∙ unsent ∙ sym (ap (lacks_for_interest cmp matching n mode options e g) own ∙ own_lacks ∙ enough))
        (λ t. sym (other_lacks f t))

    targets_decide : lacks_for_answers cmp matching mode options e g from ≡ false → (fs : List (Face K)) → AllByRecursion (λ f. first_where (λ x. f.number == x.number) g.faces ≡ Some f) fs
        → list_any (lacks_for_target from.region mode g) fs ≡ list_any (lacks_for_interest cmp matching n mode options e g) fs
    targets_decide enough [] found = refl
    targets_decide enough (f ∷ fs) found =
        let here = target_decides enough f found.0 in
        let rest = targets_decide enough fs found.1 in
        λ i. here i || rest i

    pub targets_lack : IsRising (λ f. f.number) g.faces → lacks_for_answers cmp matching mode options e g from ≡ false
        → list_any (λ m. is_some_and (find_face m g) (lacks_for_target from.region mode g)) (map (λ f. f.number) (filter (λ f. is_north f.region) g.faces))
        ≡ list_any (lacks_for_interest cmp matching n mode options e g) g.faces
    targets_lack rising enough =
        let found = all-found g.faces rising in
        any_chosen g.faces g.faces (λ f. is_north f.region) (lacks_for_target from.region mode g) (south-lacks-none g from.region mode) found
        ∙ targets_decide enough g.faces found
