-- What is gathered from the members of a list, one after another.
use Rattle.std.proofs.Common.{◌≡◌, ℕ, false, ◌+◌, ◌<◌, ◌≤◌, ◌==◌, List, [], ◌∷◌, ◌++◌, length, drop, get_or, refl, sym, ap, ◌∙◌, append_assoc, eq-eqb, ne_eqb}
use Rattle.std.proofs.lemmas.Bool.{or_parts}
use Rattle.std.proofs.lemmas.List.{drop_all}
use Rattle.std.specs.List.{flat_map, list_any}
use Rattle.zt_keys.specs.Test.{by_test}
use Rattle.zt_region.specs.Region.{is_north}
use Rattle.zt_protocol.specs.Interest.{is_current}
use Rattle.zt_protocol.specs.declared.entries.Sent.{Sent}
use Rattle.zt_protocol.specs.declared.messages.Message.{Message}
use Rattle.zt_protocol.specs.declared.messages.Message.TheVariants.{DeclareToken, UndeclareToken, DeclareFinal, Interest, InterestFinal, DeclareSubscriber, DeclareQueryable}
use Rattle.zt_model.specs.Fabric.{Fabric, number_of_place, printed_for}
use Rattle.zt_model.specs.Rows.{Face}
use Rattle.zt_model.specs.Transcript.{current_ids}
use Rattle.zt_check_faces.proofs.Placed.{next_is}
use Rattle.zt_check_fabric.specs.Made.{is_current_interest, pendings_for, pendings_in, with_number}

pub append_none : {B : Type 0} (xs : List B) → xs ++ [] ≡ xs
append_none [] = refl
append_none (x ∷ xs) = ap (λ (ys : List _). x ∷ ys) (append_none xs)

module _ {X B : Type 0} (gives : List X → List B) (law : (x : X) (xs : List X) → gives (x ∷ xs) ≡ gives (x ∷ []) ++ gives xs) where
  -- one more of them
  pub gather_more : (xs : List X) (i : ℕ) (x : X) (before after all : List B) → i < length xs → x ≡ get_or xs i x
      → before ++ gives (drop i xs) ≡ all → after ≡ before ++ gives (x ∷ []) → after ++ gives (drop (i + 1) xs) ≡ all
  gather_more xs i x before after all within is so_far added =
      let rest = drop (i + 1) xs in
      ap (λ (b : List B). b ++ gives rest) added
      ∙ (append_assoc before (gives (x ∷ [])) (gives rest)
      ∙ (ap (λ (b : List B). before ++ b) (sym (law x rest))
      ∙ (ap (λ (ys : List X). before ++ gives ys) (sym (next_is xs i x within is))
      ∙ so_far)))

module _ {X B : Type 0} (gives : List X → List B) (none : gives [] ≡ []) where
  -- all of them
  pub gather_all : (xs : List X) (i : ℕ) (before all : List B) → length xs ≤ i → before ++ gives (drop i xs) ≡ all → before ≡ all
  gather_all xs i before all past so_far =
      sym (append_none before) ∙ (ap (λ (b : List B). before ++ b) (sym (ap gives (drop_all i xs past) ∙ none)) ∙ so_far)

pub pending_none : (K : Type 0) (face number : ℕ) → pendings_in {K = K} face number [] ≡ []
unfolding printed_for
pending_none K face number = refl

module _ {K : Type 0} where
  -- ---- what is printed for a face

  pub printed_first : (face : ℕ) (m : Sent K) (ms : List (Sent K)) → printed_for face (m ∷ ms) ≡ printed_for face (m ∷ []) ++ printed_for face ms
  unfolding printed_for
  printed_first face m ms = by_test (face == m.face) (λ here. rw here refl) (λ here. rw here refl)

  pub printed_none : (face : ℕ) → printed_for {K = K} face [] ≡ []
  unfolding printed_for
  printed_none face = refl

  pendings_append : (face : ℕ) (xs ys : List (Message K)) → with_number face (current_ids (xs ++ ys)) ≡ with_number face (current_ids xs) ++ with_number face (current_ids ys)
  pendings_append face [] ys = refl
  pendings_append face (Interest id mode options e ∷ xs) ys =
      by_test (is_current mode)
      (λ here. rw here (ap (λ (ps : List (ℕ × ℕ)). (face, id) ∷ ps) (pendings_append face xs ys)))
      (λ here. rw here (pendings_append face xs ys))
  pendings_append face (DeclareToken id e interest node ∷ xs) ys = pendings_append face xs ys
  pendings_append face (UndeclareToken id e node ∷ xs) ys = pendings_append face xs ys
  pendings_append face (DeclareFinal interest ∷ xs) ys = pendings_append face xs ys
  pendings_append face (InterestFinal id ∷ xs) ys = pendings_append face xs ys
  pendings_append face (DeclareSubscriber id e interest ∷ xs) ys = pendings_append face xs ys
  pendings_append face (DeclareQueryable id e info interest ∷ xs) ys = pendings_append face xs ys

  -- one message more
  pub printed_other : (face : ℕ) (m : Sent K) (ms : List (Message K)) → (face ≡ m.face → ⊥) → ms ≡ ms ++ printed_for face (m ∷ [])
  unfolding printed_for
  printed_other face m ms apart = rw (ne_eqb face m.face apart) (sym (append_none ms))

  pub printed_own : (face : ℕ) (m : Sent K) (ms : List (Message K)) → face ≡ m.face → ms ++ m.message ∷ [] ≡ ms ++ printed_for face (m ∷ [])
  unfolding printed_for
  printed_own face m ms same = rw (eq-eqb face m.face same) refl

  -- ---- pendings

  pub pending_first : (face number : ℕ) (m : Sent K) (ms : List (Sent K)) → pendings_in face number (m ∷ ms) ≡ pendings_in face number (m ∷ []) ++ pendings_in face number ms
  pending_first face number m ms =
      ap (λ (xs : List (Message K)). with_number face (current_ids xs)) (printed_first number m ms) ∙ pendings_append face (printed_for number (m ∷ [])) (printed_for number ms)

  pub pending_other : (face number : ℕ) (m : Sent K) (ps : List (ℕ × ℕ)) → (number ≡ m.face → ⊥) → ps ≡ ps ++ pendings_in face number (m ∷ [])
  unfolding printed_for
  pending_other face number m ps apart = rw (ne_eqb number m.face apart) (sym (append_none ps))

  own_printed : (number : ℕ) (m : Sent K) → number ≡ m.face → printed_for number (m ∷ []) ≡ m.message ∷ []
  unfolding printed_for
  own_printed number m same = rw (eq-eqb number m.face same) refl

  pub pending_own : (face number : ℕ) (m : Sent K) (ps : List (ℕ × ℕ)) (ids : List ℕ) → number ≡ m.face → ids ≡ current_ids (m.message ∷ [])
      → ps ++ with_number face ids ≡ ps ++ pendings_in face number (m ∷ [])
  pending_own face number m ps ids same are =
      ap (λ (xs : List ℕ). ps ++ with_number face xs) are
      ∙ ap (λ (xs : List (Message K)). ps ++ with_number face (current_ids xs)) (sym (own_printed number m same))

  -- ---- where no message is an interest in what is there now

  no_id : (m : Message K) (ms : List (Message K)) → is_current_interest m ≡ false → current_ids ms ≡ [] → current_ids (m ∷ ms) ≡ []
  no_id (Interest id mode options e) ms other rest = rw other rest
  no_id (DeclareToken id e interest node) ms other rest = rest
  no_id (UndeclareToken id e node) ms other rest = rest
  no_id (DeclareFinal interest) ms other rest = rest
  no_id (InterestFinal id) ms other rest = rest
  no_id (DeclareSubscriber id e interest) ms other rest = rest
  no_id (DeclareQueryable id e info interest) ms other rest = rest

  no_ids : (number : ℕ) (ms : List (Sent K)) → list_any (λ m. is_current_interest m.message) ms ≡ false → current_ids (printed_for number ms) ≡ []
  unfolding printed_for
  no_ids number [] others = refl
  no_ids number (m ∷ ms) others =
      let parts = or_parts (is_current_interest m.message) (list_any (λ m. is_current_interest m.message) ms) others in
      by_test (number == m.face)
      (λ here. rw here (no_id m.message (printed_for number ms) parts.0 (no_ids number ms parts.1)))
      (λ here. rw here (no_ids number ms parts.1))

  none_for : (s : Fabric K) (ms : List (Sent K)) (gateway : ℕ) (f : Face K) → list_any (λ m. is_current_interest m.message) ms ≡ false → pendings_for s ms gateway f ≡ []
  none_for s ms gateway f others =
      by_test (is_north f.region)
      (λ here. rw here (ap (with_number f.number) (no_ids (number_of_place s gateway f.number) ms others)))
      (λ here. rw here refl)

  pub none_pending : (s : Fabric K) (ms : List (Sent K)) (gateway : ℕ) (fs : List (Face K)) → list_any (λ m. is_current_interest m.message) ms ≡ false
      → [] ≡ flat_map (pendings_for s ms gateway) fs
  none_pending s ms gateway [] others = refl
  none_pending s ms gateway (f ∷ fs) others =
      none_pending s ms gateway fs others ∙ ap (λ (ps : List (ℕ × ℕ)). ps ++ flat_map (pendings_for s ms gateway) fs) (sym (none_for s ms gateway f others))

  -- faces of a gateway, one after another
  pub pendings_first : (s : Fabric K) (ms : List (Sent K)) (gateway : ℕ) (f : Face K) (fs : List (Face K))
      → flat_map (pendings_for s ms gateway) (f ∷ fs) ≡ flat_map (pendings_for s ms gateway) (f ∷ []) ++ flat_map (pendings_for s ms gateway) fs
  pendings_first s ms gateway f fs = ap (λ (ps : List (ℕ × ℕ)). ps ++ flat_map (pendings_for s ms gateway) fs) (sym (append_none (pendings_for s ms gateway f)))

  pub face_added : (s : Fabric K) (ms : List (Sent K)) (gateway : ℕ) (f : Face K) (before after : List (ℕ × ℕ)) → after ≡ before ++ pendings_for s ms gateway f
      → after ≡ before ++ flat_map (pendings_for s ms gateway) (f ∷ [])
  face_added s ms gateway f before after added = added ∙ ap (λ (xs : List (ℕ × ℕ)). before ++ xs) (sym (append_none (pendings_for s ms gateway f)))
