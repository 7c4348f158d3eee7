-- What a call at a gateway of a fabric makes of its faces, and of what waits for them.
use Rattle.std.proofs.Common.{◌≡◌, ◌≢◌, ◌⊎◌, inl, inr, ℕ, Bool, true, if◌then◌else◌, ◌&&◌, ◌==◌, not, List, [], ◌∷◌, ◌++◌, filter, Option, Some, None, option_map, refl, sym, ap, ◌∙◌, subst}
use Rattle.std.proofs.lemmas.Bool.{and_from, or_left, or_right}
use Rattle.std.specs.Cmp.{IsTotalOrder}
use Rattle.std.specs.List.{list_any}
use Rattle.std.specs.declared.cmp.Ordering.{Ordering}
use Rattle.zt_protocol.specs.Plain.{PlainCall, CloseFace, DeclareToken, UndeclareToken, Interest, InterestFinal, DeclareFinal}
use Rattle.zt_protocol.specs.declared.entries.Sent.{Sent}
use Rattle.zt_protocol.specs.declared.messages.Message.{Message}
use Rattle.zt_protocol.specs.declared.messages.Message.TheVariants as message
use Rattle.zt_model.specs.Closing.{closing, leaving, without_face}
use Rattle.zt_model.specs.Fabric.{Fabric, Node, call_face, number_from, printed_for}
use Rattle.zt_model.specs.Hearing.{heard_all, messages_for, rows_heard}
use Rattle.zt_model.specs.Linking.{call_of_message, waiting_of}
use Rattle.zt_model.specs.Lists.{first_where, has_id, nth}
use Rattle.zt_model.specs.Parts.{Part, altered_by, find_face, is_routed, unsaid_to}
use Rattle.zt_model.specs.Rows.{ById, Face, Rows}
use Rattle.zt_model.specs.Says.{altered, parts_of, said}
use Rattle.zt_model.specs.Transcript.{Each, FaceAt, face_numbered}
use Rattle.zt_laws.specs.Order.{FabricIsInOrder}
use Rattle.zt_laws.specs.Sound.{CallHasFirstIds, RiseFrom, is_placed, rows_after_call}
use Rattle.zt_laws.proofs.Entries.{nth-at_nth}
use Rattle.zt_laws.proofs.Gateways.{PrintsSends}
use Rattle.zt_laws.proofs.Hearing.{find_each, find_only, find_passes, heard_all-number}
use Rattle.zt_laws.proofs.LinesOrder.{gateway_in_order}
use Rattle.zt_laws.proofs.Lists.{by_test, each_weaker, never}
use Rattle.zt_laws.proofs.Numbered.{nth_real}
use Rattle.zt_laws.proofs.PartsOrder.{altered_by_last}
use Rattle.zt_theorem_tree_invariant.specs.Joints.{are_joined}
use Rattle.zt_theorem_tree_invariant.proofs.Members.{is_there, number_is_its, numbered}
use Rattle.zt_theorem_tree_invariant.proofs.Saying.{find_map}
use Rattle.zt_theorem_tree_invariant.proofs.Standing.{LeavesOpen, closes_face}
use Rattle.zt_theorem_tree_invariant.proofs.Turning.{nth_other, queue, queue_added, turned}

-- ---- one face of a gateway, among its faces

module _ {K : Type 0} where
  pub own_of : (C : Face K → Type 0) (p : ℕ) (g : Rows K) (f : Face K) → RiseFrom (λ f. f.number) 1 g.faces → find_face p g ≡ Some f → C f → Each (λ h. (p == h.number) ≡ true → C h) g.faces
  own_of C p g f rises found own = each_weaker (λ h. (p == h.number) ≡ true → h ≡ f) (λ h. (p == h.number) ≡ true → C h) (λ h same_ here. subst C (sym (same_ here)) own) g.faces (find_only p 1 g.faces f rises found)

  pub of_own : (C : Face K → Type 0) (p : ℕ) (g : Rows K) (f : Face K) → find_face p g ≡ Some f → Each (λ h. (p == h.number) ≡ true → C h) g.faces → C f
  of_own C p g f found all = find_each (λ h. (p == h.number) ≡ true → C h) (λ (h : Face K). p == h.number) g.faces f all found (find_passes (λ (h : Face K). p == h.number) g.faces f found)

  pub any_of : (test : Face K → Bool) (p : ℕ) (fs : List (Face K)) (f : Face K) → first_where (λ h. p == h.number) fs ≡ Some f → test f ≡ true → list_any (λ h. (p == h.number) && test h) fs ≡ true
  any_of test p [] f found passes = cc
  any_of test p (h ∷ fs) f found passes =
      by_test (p == h.number)
      (λ here. let e : Some h ≡ Some f = rw here at found in let is : h ≡ f = cc in or_left ((p == h.number) && test h) (list_any (λ h. (p == h.number) && test h) fs) (and_from (p == h.number) (test h) here (ap test is ∙ passes)))
      (λ here. or_right ((p == h.number) && test h) (list_any (λ h. (p == h.number) && test h) fs) (any_of test p fs f (rw here at found) passes))

-- ---- a face that is closed is gone

module _ {K : Type 0} (cmp : K → K → Ordering) (matching : K → K → Bool) where
  none_left : (n : ℕ) (fs : List (Face K)) → first_where (λ f. n == f.number) (filter (λ f. not (n == f.number)) fs) ≡ None
  none_left n [] = refl
  none_left n (f ∷ fs) = by_test (n == f.number) (λ here. rw here (none_left n fs)) (λ here. rw here (rw here (none_left n fs)))

  pub closed_is_gone : (n : ℕ) (g : Rows K) → find_face n (rows_after_call cmp matching (CloseFace n) g) ≡ None
  unfolding parts_of rows_heard altered_by
  closed_is_gone n g =
      find_map cmp n (λ h. heard_all cmp (altered cmp matching (CloseFace n) g).moment (messages_for h.number (said cmp matching (CloseFace n) g)) h) (altered cmp matching (CloseFace n) g).faces (λ h. heard_all-number cmp (altered cmp matching (CloseFace n) g).moment (messages_for h.number (said cmp matching (CloseFace n) g)) h)
      ∙ ap (option_map (λ h. heard_all cmp (altered cmp matching (CloseFace n) g).moment (messages_for h.number (said cmp matching (CloseFace n) g)) h)) (by_found (find_face n g) refl)
    where
      by_found : (o : Option (Face K)) → find_face n g ≡ o → find_face n (altered_by cmp matching (elim o [ None ↦ [] | Some f ↦ closing cmp matching n g f ]) g) ≡ None
      by_found None is = is
      by_found (Some f) is =
          let parts : List (Part K) = if is_routed g f then [] else unsaid_to n (leaving cmp matching n f) in
          ap (find_face n) (altered_by_last cmp matching parts (without_face n) g) ∙ none_left n (altered_by cmp matching parts g).faces

module _ {K : Type 0} (cmp : K → K → Ordering) (matching : K → K → Bool) (total : IsTotalOrder cmp) (s : Fabric K) (fine : FabricIsInOrder cmp matching s) (j : ℕ) (node : Node K) (at_j : nth j s.gateways ≡ Some node) (c : PlainCall K) (real : CallHasFirstIds c) (ms : List (Sent K)) (w : ById (List (Message K)))
    (prints : PrintsSends s.faces j (said cmp matching c node.rows) ms) where
  abbrev pub then_ : Fabric K
  then_ = turned cmp matching total s fine j node at_j c real ms w prints

  abbrev change : Node K → Node K
  change x = record x { rows = rows_after_call cmp matching c x.rows }

  some_is : {A : Type 0} {u v : A} → Some u ≡ Some v → u ≡ v
  some_is h = cc

  -- a face keeps its place
  pub same_place : (k : ℕ) (z y : FaceAt K) → face_numbered s k ≡ Some z → face_numbered then_ k ≡ Some y → (y.gateway ≡ z.gateway) × (y.face.number ≡ z.face.number)
  same_place k z y found now_ =
      let one = is_there s k z found in
      let two = is_there then_ k y now_ in
      let same_ : one.place ≡ two.place = some_is (sym one.place_is ∙ two.place_is) in
      (sym two.gateway_is ∙ ap (λ p. p.gateway) (sym same_) ∙ one.gateway_is, sym two.number_is ∙ ap (λ p. p.face) (sym same_) ∙ one.number_is)

  -- the gateway's rows before the call and after it
  pub rows_before : (k : ℕ) (z : FaceAt K) → face_numbered s k ≡ Some z → z.gateway ≡ j → find_face z.face.number node.rows ≡ Some z.face
  rows_before k z found here =
      let at_ = is_there s k z found in
      let same_ : at_.node ≡ node = some_is (sym at_.node_is ∙ ap (λ i. nth i s.gateways) here ∙ at_j) in
      ap (λ (x : Node K). find_face z.face.number x.rows) (sym same_) ∙ ap (find_face z.face.number) at_.rows_are ∙ at_.face_is

  pub rows_then : (k : ℕ) (y : FaceAt K) → face_numbered then_ k ≡ Some y → y.gateway ≡ j → find_face y.face.number (rows_after_call cmp matching c node.rows) ≡ Some y.face
  rows_then k y found here =
      let at_ = is_there then_ k y found in
      let same_ : at_.node ≡ change node = some_is (sym at_.node_is ∙ ap (λ i. nth i then_.gateways) here ∙ nth-at_nth j change s.gateways node at_j) in
      ap (λ (x : Node K). find_face y.face.number x.rows) (sym same_) ∙ ap (find_face y.face.number) at_.rows_are ∙ at_.face_is

  -- faces of other gateways stay
  pub elsewhere : (k : ℕ) (z y : FaceAt K) → face_numbered s k ≡ Some z → face_numbered then_ k ≡ Some y → z.gateway ≢ j → y.face ≡ z.face
  elsewhere k z y found now_ apart =
      let at_ = is_there s k z found in
      let node_still : nth at_.place.gateway then_.gateways ≡ Some at_.node = ap (λ i. nth i then_.gateways) at_.gateway_is ∙ nth_other z.gateway j change s.gateways at_.node (nth_real j s.gateways node at_j) apart at_.node_is in
      let face_still : find_face at_.place.face at_.node.rows ≡ Some z.face = ap (λ n. find_face n at_.node.rows) at_.number_is ∙ ap (find_face z.face.number) at_.rows_are ∙ at_.face_is in
      let is = numbered then_ k at_.place at_.node z.face at_.place_is node_still face_still in
      ap (λ (v : FaceAt K). v.face) (some_is (sym now_ ∙ is))

  -- a face that the call leaves open
  pub still_open : (k : ℕ) (z : FaceAt K) (h : Face K) → face_numbered s k ≡ Some z → z.gateway ≡ j → find_face z.face.number (rows_after_call cmp matching c node.rows) ≡ Some h → (y : FaceAt K) × (face_numbered then_ k ≡ Some y) × (y.face ≡ h)
  still_open k z h found here is =
      let at_ = is_there s k z found in
      let place_here : at_.place.gateway ≡ j = at_.gateway_is ∙ here in (
        record { gateway = at_.place.gateway; rows = (change node).rows; face = h },
        numbered then_ k at_.place (change node) h at_.place_is (ap (λ i. nth i then_.gateways) place_here ∙ nth-at_nth j change s.gateways node at_j) (ap (λ n. find_face n (change node).rows) at_.number_is ∙ is),
        refl,
      )

  pub still_elsewhere : (k : ℕ) (z : FaceAt K) → face_numbered s k ≡ Some z → z.gateway ≢ j → (y : FaceAt K) × (face_numbered then_ k ≡ Some y) × (y.face ≡ z.face)
  still_elsewhere k z found apart =
      let at_ = is_there s k z found in
      let node_still : nth at_.place.gateway then_.gateways ≡ Some at_.node = ap (λ i. nth i then_.gateways) at_.gateway_is ∙ nth_other z.gateway j change s.gateways at_.node (nth_real j s.gateways node at_j) apart at_.node_is in
      let face_still : find_face at_.place.face at_.node.rows ≡ Some z.face = ap (λ n. find_face n at_.node.rows) at_.number_is ∙ ap (find_face z.face.number) at_.rows_are ∙ at_.face_is in (
        record { gateway = at_.place.gateway; rows = at_.node.rows; face = z.face },
        numbered then_ k at_.place at_.node z.face at_.place_is node_still face_still,
        refl,
      )

  -- what is printed for a face, and waits
  pub printed_here : (k : ℕ) (z : FaceAt K) → face_numbered s k ≡ Some z → z.gateway ≡ j → printed_for k ms ≡ messages_for z.face.number (said cmp matching c node.rows)
  printed_here k z found here =
      let at_ = is_there s k z found in
      let gateway = gateway_in_order cmp matching s z.gateway at_.node at_.node_is fine in
      let placed : is_placed z.gateway z.face.number s.faces ≡ true = find_each (λ f. is_placed z.gateway f.number s.faces ≡ true) (λ (f : Face K). z.face.number == f.number) at_.node.rows.faces z.face gateway.placed (ap (find_face z.face.number) at_.rows_are ∙ at_.face_is) in
      ap (λ n. printed_for n ms) (sym (number_is_its cmp matching s k z fine found) ∙ ap (λ g. number_from 1 g z.face.number s.faces) here)
      ∙ prints.own z.face.number (ap (λ g. is_placed g z.face.number s.faces) (sym here) ∙ placed)

  pub printed_elsewhere : (k : ℕ) (z : FaceAt K) → face_numbered s k ≡ Some z → z.gateway ≢ j → printed_for k ms ≡ []
  printed_elsewhere k z found apart =
      let at_ = is_there s k z found in
      let gateway = gateway_in_order cmp matching s z.gateway at_.node at_.node_is fine in
      let placed : is_placed z.gateway z.face.number s.faces ≡ true = find_each (λ f. is_placed z.gateway f.number s.faces ≡ true) (λ (f : Face K). z.face.number == f.number) at_.node.rows.faces z.face gateway.placed (ap (find_face z.face.number) at_.rows_are ∙ at_.face_is) in
      ap (λ n. printed_for n ms) (sym (number_is_its cmp matching s k z fine found)) ∙ prints.other z.gateway z.face.number apart placed

  pub waits_then : (k : ℕ) → has_id k w ≡ true → waiting_of then_ k ≡ queue w k ++ printed_for k ms
  waits_then k there = queue_added w ms k there

  -- ---- who speaks

  -- the face doesn't make the call, and what waits for the other end stays
  pub record IsUnspoken (b : ℕ) (z : FaceAt K) : Type 0 where
    pub queue_is : queue w b ≡ waiting_of s b
    pub unnamed : z.gateway ≡ j → (n : ℕ) → call_face c ≡ Some n → n ≢ z.face.number

  -- the face speaks the oldest message that waits for the other end
  pub record IsSpoken (b : ℕ) (z : FaceAt K) : Type 0 where
    pub here : z.gateway ≡ j
    pub message : Message K
    pub oldest : waiting_of s b ≡ message ∷ queue w b
    pub says : call_of_message z.face.number message ≡ Some c

  abbrev pub Speaks : Type 0
  Speaks = (k b : ℕ) (z : FaceAt K) → face_numbered s k ≡ Some z → are_joined s k b ≡ true → IsUnspoken b z ⊎ IsSpoken b z

  closes_none : (n : ℕ) (m : Message K) → call_of_message n m ≡ Some c → closes_face c ≡ true → ⊥
  closes_none n (message.DeclareToken id e i node_) is closes = let same_ : DeclareToken n id e node_ i ≡ c = some_is is in never (ap closes_face same_ ∙ closes) refl
  closes_none n (message.UndeclareToken id e node_) is closes = let same_ : UndeclareToken n id e node_ ≡ c = some_is is in never (ap closes_face same_ ∙ closes) refl
  closes_none n (message.DeclareFinal id) is closes = let same_ : DeclareFinal n id ≡ c = some_is is in never (ap closes_face same_ ∙ closes) refl
  closes_none n (message.Interest id mode options e) is closes = let same_ : Interest n id mode options e ≡ c = some_is is in never (ap closes_face same_ ∙ closes) refl
  closes_none n (message.InterestFinal id) is closes = let same_ : InterestFinal n id ≡ c = some_is is in never (ap closes_face same_ ∙ closes) refl
  closes_none n (message.DeclareSubscriber number e i) is closes = cc
  closes_none n (message.DeclareQueryable number e info i) is closes = cc

  -- so it closes no face that is joined
  pub leaves_open : Speaks → (k b : ℕ) (z : FaceAt K) → face_numbered s k ≡ Some z → are_joined s k b ≡ true → z.gateway ≡ j → LeavesOpen c z.face.number
  leaves_open speaks k b z found joined here closes n n_is = cases (speaks k b z found joined)
    where
      cases : IsUnspoken b z ⊎ IsSpoken b z → n ≢ z.face.number
      cases (inl un) = un.unnamed here n n_is
      cases (inr sp) = absurd (closes_none z.face.number sp.message sp.says closes)

  -- what is true of all that waits for the other end is true of what is left
  pub still_waits : (P : Message K → Type 0) (b : ℕ) (z : FaceAt K) → IsUnspoken b z ⊎ IsSpoken b z → Each P (waiting_of s b) → Each P (queue w b)
  still_waits P b z (inl un) all = subst (Each P) (sym un.queue_is) all
  still_waits P b z (inr sp) all = (subst (Each P) sp.oldest all).1
