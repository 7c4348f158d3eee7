-- What a table names beside the routers that it lists is the same where they are gathered to be looked up. What no link
-- names, none that counts does.
use Rattle.std.proofs.Common.{◌≡◌, ◌||◌, ◌++◌, ℕ, Bool, true, false, not, List, [], ◌∷◌, ap, ap₂, refl, sym, ◌∙◌}
use Rattle.std.proofs.lemmas.Bool.{and_parts, eqb-true, or_parts}
use Rattle.std.proofs.lemmas.List.Folds.{list_any-append}
use Rattle.std.specs.List.{list_any}
use Rattle.zt_region.specs.declared.region.Zid.{Zid}
use Rattle.zt_protocol.specs.Plain.{Trees}
use Rattle.zt_model.specs.Refusals.{names_unlisted}
use Rattle.zt_model.specs.Rows.{Rows}
use Rattle.zt_model.specs.Trees.{counted_beside, is_same_link}
use Rattle.zt_keys.specs.Test.{by_test}
use Rattle.zt_refusals.specs.Unlisted.{names_others}
use Rattle.zt_link_state.specs.Listed.{AreListed, is_among}

any_alike : {A : Type 0} (p q : A → Bool) → ((x : A) → p x ≡ q x) → (xs : List A) → list_any p xs ≡ list_any q xs
any_alike p q alike [] = refl
any_alike p q alike (x ∷ xs) = ap₂ (λ a b. a || b) (alike x) (any_alike p q alike xs)

pub names_listed : {K : Type 0} (t : Trees) (nodes : List (Zid × ℕ)) (g : Rows K) → AreListed nodes t.routers → names_others t.links t.children nodes g.zid ≡ names_unlisted t g
names_listed t nodes g listed =
    ap₂ (λ a b. a || b)
    (ap₂ (λ a b. not a || b) (listed.finds g.zid) (any_alike _ _ (λ l. ap not (listed.finds l.2)) t.links))
    (any_alike _ _ (λ c. ap₂ (λ a b. not a || not b) (listed.finds c.0) (listed.finds c.1)) t.children)

-- beside those that count so far
none_beside : {A : Type 0} (clashes : A → A → Bool) (p : A → Bool) (counted xs : List A) → list_any p counted ≡ false → list_any p xs ≡ false → list_any p (counted_beside clashes counted xs) ≡ false
none_beside clashes p counted [] none all = none
none_beside clashes p counted (x ∷ xs) none all =
    let first = (or_parts (p x) (list_any p xs) all).0 in
    let rest = (or_parts (p x) (list_any p xs) all).1 in
    let more : list_any p (counted ++ x ∷ []) ≡ false = list_any-append p counted (x ∷ []) ∙ ap₂ (λ a b. a || (b || false)) none first in
    by_test (list_any (clashes x) counted)
    (λ t. rw t (none_beside clashes p counted xs none rest))
    (λ f. rw f (none_beside clashes p (counted ++ x ∷ []) xs more rest))

none_counted : (p : ℕ × ℕ × Zid → Bool) (links : List (ℕ × ℕ × Zid)) → list_any p links ≡ false → list_any p (counted_beside is_same_link [] links) ≡ false
none_counted p links none = none_beside is_same_link p [] links refl none

pub others_counted : (links : List (ℕ × ℕ × Zid)) (children : List (Zid × Zid)) (nodes : List (Zid × ℕ)) (zid : Zid)
    → names_others links children nodes zid ≡ false → names_others (counted_beside is_same_link [] links) children nodes zid ≡ false
others_counted links children nodes zid none =
    let unlisted : ℕ × ℕ × Zid → Bool = λ l. not (is_among l.2 nodes) in
    let no_link = (or_parts _ _ (or_parts _ _ none).0).1 in
    ap (λ b. (not (is_among zid nodes) || b) || list_any (λ c. not (is_among c.0 nodes) || not (is_among c.1 nodes)) children) (none_counted unlisted links no_link ∙ sym no_link) ∙ none

-- a test of the face of a link
module _ (p : ℕ → Bool) where
  abbrev for_face : ℕ × ℕ × Zid → Bool
  for_face l = p l.0

  -- one that clashes with one that counts has its face
  with_same_face : (x : ℕ × ℕ × Zid) (counted : List (ℕ × ℕ × Zid)) → list_any (is_same_link x) counted ≡ true → p x.0 ≡ true → list_any for_face counted ≡ true
  with_same_face x [] clash holds = cc
  with_same_face x (y ∷ counted) clash holds =
      by_test (is_same_link x y)
      (λ t. let same : x.0 ≡ y.0 = eqb-true x.0 y.0 (and_parts _ _ t).0 in ap (λ b. b || list_any for_face counted) (ap p (sym same) ∙ holds))
      (λ f. let later = with_same_face x counted (sym (ap (λ b. b || list_any (is_same_link x) counted) f) ∙ clash) holds in ap (λ b. p y.0 || b) later ∙ or_true (p y.0))
    where
      or_true : (b : Bool) → (b || true) ≡ true
      or_true true = refl
      or_true false = refl

  absorbed : (a b c : Bool) → (b ≡ true → a ≡ true) → (a || c) ≡ (a || (b || c))
  absorbed true b c h = refl
  absorbed false true c h = cc (h refl)
  absorbed false false c h = refl

  or_rest : (a b c : Bool) → ((a || (b || false)) || c) ≡ (a || (b || c))
  or_rest true b c = refl
  or_rest false true c = refl
  or_rest false false c = refl

  beside_counted : (counted xs : List (ℕ × ℕ × Zid)) → list_any for_face (counted_beside is_same_link counted xs) ≡ (list_any for_face counted || list_any for_face xs)
  beside_counted counted [] = sym (or_none (list_any for_face counted))
    where
      or_none : (b : Bool) → (b || false) ≡ b
      or_none true = refl
      or_none false = refl
  beside_counted counted (x ∷ xs) =
      let old = list_any for_face counted in
      let rest = list_any for_face xs in
      by_test (list_any (is_same_link x) counted)
      (λ t. rw t (beside_counted counted xs ∙ absorbed old (p x.0) rest (with_same_face x counted t)))
      (λ f. rw f (beside_counted (counted ++ x ∷ []) xs ∙ ap (λ b. b || rest) (list_any-append for_face counted (x ∷ [])) ∙ or_rest old (p x.0) rest))

  -- a face is that of a link that counts where it is that of any
  pub face_counted : (links : List (ℕ × ℕ × Zid)) → list_any for_face links ≡ list_any for_face (counted_beside is_same_link [] links)
  face_counted links = sym (beside_counted [] links)
