-- What a face of a tree sees, and joints on which nothing waits.
use Rattle.std.proofs.Common.{◌≡◌, ℕ, Bool, true, false, ◌&&◌, ◌||◌, ◌==◌, not, List, [], ◌∷◌, map, filter, Some, None, refl, ap, ◌∙◌, subst}
use Rattle.std.proofs.Math.Bool.{or-false}
use Rattle.std.proofs.lemmas.Bool.{and_parts}
use Rattle.std.specs.List.{list_all, list_any}
use Rattle.std.specs.declared.cmp.Ordering.{Ordering}
use Rattle.zt_region.specs.declared.region.Region.{Region}
use Rattle.zt_region.specs.declared.region.WhatAmI.{WhatAmI}
use Rattle.zt_region.specs.Region.{is_north, zid_eq}
use Rattle.zt_protocol.specs.Plain.{}
use Rattle.zt_protocol.specs.declared.messages.Message.{Message}
use Rattle.zt_model.specs.Fabric.{Fabric, Link, Node}
use Rattle.zt_model.specs.Linking.{waiting_of}
use Rattle.zt_model.specs.Lists.{at_id, same}
use Rattle.zt_model.specs.Rows.{ById, Face, Rows, RoutedRow}
use Rattle.zt_model.specs.Transcript.{Each, FaceAt, face_numbered}
use Rattle.zt_model.specs.TreePromises.{are_links_empty}
use Rattle.zt_model.specs.Visible.{is_visible, rows_of_face, shows}
use Rattle.zt_laws.proofs.Lists.{any-map, any_alike, by_test}
use Rattle.zt_laws.proofs.Visible.{any_live_rows}
use Rattle.zt_theorem_tree_invariant.specs.Facts.{IsTreeGateway, JointAgrees, TreesAgree, token_interests}
use Rattle.zt_theorem_tree_invariant.specs.Joints.{are_joined, joins}
use Rattle.zt_theorem_tree_invariant.proofs.Members.{each_nth, is_there}

-- ---- what is visible

none_passes : {A : Type 0} (p : A → Bool) (xs : List A) → Each (λ x. p x ≡ true) xs → filter (λ x. not (p x)) xs ≡ []
none_passes p [] all = refl
none_passes p (x ∷ xs) all = let here : p x ≡ true = all.0 in rw here (none_passes p xs all.1)

pub any_and_last : {A : Type 0} (p : A → Bool) (b : Bool) (xs : List A) → list_any (λ x. p x && b) xs ≡ (list_any p xs && b)
any_and_last p true [] = refl
any_and_last p false [] = refl
any_and_last p true (x ∷ xs) = by_test (p x) (λ here. rw here refl) (λ here. rw here (any_and_last p true xs))
any_and_last p false (x ∷ xs) = by_test (p x) (λ here. rw here (any_and_last p false xs ∙ and_none (list_any p xs))) (λ here. rw here (any_and_last p false xs))
  where
    and_none : (b : Bool) → (b && false) ≡ false
    and_none true = refl
    and_none false = refl

module _ {K : Type 0} (cmp : K → K → Ordering) where
  -- the expression is a live token of the face
  abbrev pub is_live : K → Face K → Bool
  is_live e f = list_any (λ row. same cmp e row.1) f.live

  -- a face of this region, of a gateway of this mode, is shown a live token of the expression here
  abbrev pub is_shown_by : WhatAmI → Region → K → Face K → Bool
  is_shown_by mode own e f = is_live e f && shows mode own f.region

  face_shows : (mode : WhatAmI) (own : Region) (e : K) (f : Face K) → list_any (λ row. same cmp e row.1 && shows mode own row.0) (rows_of_face f) ≡ is_shown_by mode own e f
  face_shows mode own e f = any-map (λ row. same cmp e row.1 && shows mode own row.0) (λ row. (f.region, row.1)) f.live ∙ any_and_last (λ row. same cmp e row.1) (shows mode own f.region) f.live

  -- where a gateway has rows of its own alone, what is visible is live at a face
  pub visible_by_faces : (g : Rows K) (own : Region) (e : K) → Each (λ (row : RoutedRow K). zid_eq row.source g.zid ≡ true) g.routed → is_visible cmp g own e ≡ list_any (is_shown_by g.mode own e) g.faces
  unfolding is_visible
  visible_by_faces g own e own_rows =
      let test = λ (row : Region × K). same cmp e row.1 && shows g.mode own row.0 in
      any_live_rows test g g.faces
      ∙ ap (λ (rows : List (Region × K)). list_any (λ f. list_any test (rows_of_face f)) g.faces || list_any test rows) (ap (map (λ (row : RoutedRow K). (row.region, row.expr))) (none_passes (λ (row : RoutedRow K). zid_eq row.source g.zid) g.routed own_rows))
      ∙ or-false (list_any (λ f. list_any test (rows_of_face f)) g.faces)
      ∙ any_alike (λ f. list_any test (rows_of_face f)) (is_shown_by g.mode own e) (face_shows g.mode own e) g.faces

-- ---- links

pub joins_back : (a b : ℕ) (link : Link) → joins a b link ≡ joins b a link
joins_back a b link = swap (a == link.one) (b == link.two) (a == link.two) (b == link.one)
  where
    swap : (p q r t : Bool) → ((p && q) || (r && t)) ≡ ((t && r) || (q && p))
    swap true true true true = refl
    swap true true true false = refl
    swap true true false true = refl
    swap true true false false = refl
    swap true false true true = refl
    swap true false true false = refl
    swap true false false true = refl
    swap true false false false = refl
    swap false true true true = refl
    swap false true true false = refl
    swap false true false true = refl
    swap false true false false = refl
    swap false false true true = refl
    swap false false true false = refl
    swap false false false true = refl
    swap false false false false = refl

pub joined_back : {K : Type 0} (s : Fabric K) (a b : ℕ) → are_joined s a b ≡ true → are_joined s b a ≡ true
joined_back s a b joined = any_alike (λ link. link.is_open && joins b a link) (λ link. link.is_open && joins a b link) (λ link. ap (λ t. link.is_open && t) (joins_back b a link)) s.links ∙ joined

-- nothing waits for a face where all links are empty
pub nothing_waits : {K : Type 0} (s : Fabric K) (a : ℕ) → are_links_empty s ≡ true → waiting_of s a ≡ []
nothing_waits {K} s a quiet = go s.waiting quiet
  where
    is_empty : (ms : List (Message K)) → (let b : Bool = elim ms [ [] ↦ true | m ∷ ms ↦ false ] in b) ≡ true → ms ≡ []
    is_empty [] h = refl
    is_empty (m ∷ ms) h = cc

    go : (rows : ById (List (Message K))) → list_all (λ row. elim row.1 [ [] ↦ true | m ∷ ms ↦ false ]) rows ≡ true → (let ms : List (Message K) = elim (at_id a rows) [ None ↦ [] | Some ms ↦ ms ] in ms) ≡ []
    go [] h = refl
    go (row ∷ rows) h =
        let parts = and_parts (elim row.1 [ [] ↦ true | m ∷ ms ↦ false ]) (list_all (λ row. elim row.1 [ [] ↦ true | m ∷ ms ↦ false ]) rows) h in
        by_test (a == row.0)
        (λ here. rw here (is_empty row.1 parts.0))
        (λ here. rw here (go rows parts.1))

-- a joint on which nothing waits
pub record IsQuiet {K : Type 0} (lower upper : Face K) : Type 0 where
  pub live_above : upper.live ≡ lower.told
  pub live_below : lower.live ≡ upper.told
  pub held_above : token_interests upper.held ≡ token_interests lower.locals

module _ {K : Type 0} (cmp : K → K → Ordering) (matching : K → K → Bool) where
  pub quiet_joint : (s : Fabric K) (a b : ℕ) (x y : FaceAt K) → TreesAgree cmp matching s → are_links_empty s ≡ true → are_joined s a b ≡ true → face_numbered s a ≡ Some x → face_numbered s b ≡ Some y → is_north x.face.region ≡ true → IsQuiet x.face y.face
  quiet_joint s a b x y agree quiet joined x_is y_is up =
      let j = agree.joints a b x y joined x_is y_is up in
      let rising : waiting_of s a ≡ [] = nothing_waits s a quiet in
      let falling : waiting_of s b ≡ [] = nothing_waits s b quiet in
      let j2 : JointAgrees cmp x.face y.face [] [] = subst (λ ms. JointAgrees cmp x.face y.face [] ms) falling (subst (λ ms. JointAgrees cmp x.face y.face ms (waiting_of s b)) rising j) in
      record { live_above = j2.tokens_above; live_below = j2.tokens_below; held_above = j2.interests_above }

  -- a face's gateway
  pub gateway_of : (s : Fabric K) (k : ℕ) (x : FaceAt K) → TreesAgree cmp matching s → face_numbered s k ≡ Some x → IsTreeGateway cmp matching x.rows
  gateway_of s k x agree found =
      let at_ = is_there s k x found in
      subst (IsTreeGateway cmp matching) at_.rows_are (each_nth (λ (node : Node K). IsTreeGateway cmp matching node.rows) x.gateway s.gateways at_.node agree.gateways at_.node_is)
