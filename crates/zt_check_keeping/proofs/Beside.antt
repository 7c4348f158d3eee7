-- What is known of faces where they keep what they should of the tokens that a line changes.
use Rattle.std.proofs.Common.{◌≡◌, ℕ, Bool, true, false, ◌==◌, ◌&&◌, ◌||◌, not, List, [], ◌∷◌, Option, Some, None, refl, sym, ap, subst, ◌∙◌, eqb-true}
use Rattle.std.proofs.lemmas.Bool.{false≢true, or_left, or_right}
use Rattle.std.specs.Ordering.{is_eq}
use Rattle.std.specs.declared.cmp.Ordering.TheVariants.{Less, Equal, Greater}
use Rattle.std.specs.List.{list_all, list_any}
use Rattle.std.specs.declared.cmp.Ordering.{Ordering}
use Rattle.zt_keys.specs.Test.{by_test}
use Rattle.zt_model.specs.Fabric.{Fabric, Node}
use Rattle.zt_model.specs.Lists.{nth, same}
use Rattle.zt_model.specs.Parts.{is_routed}
use Rattle.zt_model.specs.Rows.{Face, Rows}
use Rattle.zt_check_keeping.specs.Keeping.{at_face, at_gateway, changed_are_kept, faces_keep_rightly, heard_is_kept, keeps_bound, keeps_rightly}
use Rattle.zt_check_keeping.specs.declared.keeping.Bound.{Bound}

and_left : (a b : Bool) → (a && b) ≡ true → a ≡ true
and_left true b h = refl
and_left false b h = h

and_right : (a b : Bool) → (a && b) ≡ true → b ≡ true
and_right true b h = h
and_right false b h = cc

or_split : (a b : Bool) → {G : Type 0} → (a || b) ≡ true → (a ≡ true → G) → (b ≡ true → G) → G
or_split true b h left right = left refl
or_split false b h left right = right h

pub equal-from : (r : Ordering) → is_eq r ≡ true → r ≡ Equal
equal-from Less h = cc
equal-from Equal h = refl
equal-from Greater h = cc

all-weaker : {X : Type 0} (p q : X → Bool) (xs : List X) → ((x : X) → p x ≡ true → q x ≡ true) → list_all p xs ≡ true → list_all q xs ≡ true
all-weaker p q [] weaker h = refl
all-weaker p q (x ∷ xs) weaker h = rw (weaker x (and_left (p x) (list_all p xs) h)) (all-weaker p q xs weaker (and_right (p x) (list_all p xs) h))

there-weaker : {K : Type 0} (found : Option (Node K)) (p q : Rows K → Bool) → ((g : Rows K) → p g ≡ true → q g ≡ true)
    → (elim found as (λ _. Bool) [ None ↦ true | Some node ↦ p node.rows ]) ≡ true → (elim found as (λ _. Bool) [ None ↦ true | Some node ↦ q node.rows ]) ≡ true
there-weaker None p q weaker h = refl
there-weaker (Some node) p q weaker h = weaker node.rows h

module _ {K : Type 0} (cmp : K → K → Ordering) (matching : K → K → Bool) (exact : (a b : K) → same cmp a b ≡ true → a ≡ b) (bound : Bound) (s : Fabric K) where
  -- all faces of a gateway, and so those of a number
  one_face : (n : ℕ) (e : K) (g : Rows K) → faces_keep_rightly cmp matching bound g e ≡ true → at_face n (λ g f. keeps_bound cmp matching bound g f e) g ≡ true
  one_face n e g h =
      all-weaker (λ f. keeps_rightly cmp matching bound g f e) (λ f. (not (n == f.number) || is_routed g f) || keeps_bound cmp matching bound g f e) g.faces
      (λ f t. or_split (is_routed g f) (keeps_bound cmp matching bound g f e) t
      (λ u. or_left (not (n == f.number) || is_routed g f) (keeps_bound cmp matching bound g f e) (or_right (not (n == f.number)) (is_routed g f) u))
      (λ u. or_right (not (n == f.number) || is_routed g f) (keeps_bound cmp matching bound g f e) u))
      h

  here : (t : ℕ × ℕ × K) (token : ℕ × K) → at_gateway s token.0 (λ g. faces_keep_rightly cmp matching bound g token.1) ≡ true → (t.0 == token.0 && same cmp t.2 token.1) ≡ true → heard_is_kept cmp matching bound s t ≡ true
  here t token kept h =
      let at : t.0 ≡ token.0 = eqb-true t.0 token.0 (and_left (t.0 == token.0) (same cmp t.2 token.1) h) in
      let is : t.2 ≡ token.1 = exact t.2 token.1 (and_right (t.0 == token.0) (same cmp t.2 token.1) h) in
      let own : at_gateway s t.0 (λ g. faces_keep_rightly cmp matching bound g t.2) ≡ true =
      subst (λ n. at_gateway s n (λ g. faces_keep_rightly cmp matching bound g t.2) ≡ true) (sym at)
      (subst (λ e. at_gateway s token.0 (λ g. faces_keep_rightly cmp matching bound g e) ≡ true) (sym is) kept) in
      there-weaker (nth t.0 s.gateways) (λ g. faces_keep_rightly cmp matching bound g t.2) (at_face t.1 (λ g f. keeps_bound cmp matching bound g f t.2)) (one_face t.1 t.2) own

  pub kept-beside : (t : ℕ × ℕ × K) (changed : List (ℕ × K)) → changed_are_kept cmp matching bound s changed ≡ true → list_any (λ token. t.0 == token.0 && same cmp t.2 token.1) changed ≡ true → heard_is_kept cmp matching bound s t ≡ true
  kept-beside t [] kept h = absurd (false≢true h)
  kept-beside t (token ∷ changed) kept h =
      let first = at_gateway s token.0 (λ g. faces_keep_rightly cmp matching bound g token.1) in
      or_split (t.0 == token.0 && same cmp t.2 token.1) (list_any (λ token. t.0 == token.0 && same cmp t.2 token.1) changed) h
      (λ u. here t token (and_left first (changed_are_kept cmp matching bound s changed) kept) u)
      (λ u. kept-beside t changed (and_right first (changed_are_kept cmp matching bound s changed) kept) u)
