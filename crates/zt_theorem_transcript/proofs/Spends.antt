-- A line that needs more ids than are left could spend them, as a transcript shows it.
use Rattle.std.proofs.Common.{◌≡◌, ℕ, ◌+◌, ◌-◌, Bool, true, not, ◌==◌, ◌&&◌, nat_lt, List, [], ◌∷◌, ◌++◌, length, sum_by, map, filter, Option, Some, None, refl, ap, ◌∙◌, subst}
use Rattle.std.specs.Cmp.{IsTotalOrder}
use Rattle.std.specs.List.{flat_map, list_any}
use Rattle.std.specs.declared.cmp.Ordering.{Ordering}
use Rattle.std.specs.declared.cmp.Ordering.TheVariants.{Equal}
use Rattle.zt_region.specs.declared.region.Region.{Region}
use Rattle.zt_protocol.specs.Plain.{PlainCall, NewSession, NewTransport, DeclareToken, UndeclareToken, Interest, InterestFinal, DeclareFinal, CloseFace, Expire, SetTrees, SetEntities}
use Rattle.zt_protocol.specs.declared.errors.Refusal.TheVariants as refusal
use Rattle.zt_protocol.specs.declared.interests.InterestMode.{InterestMode}
use Rattle.zt_model.specs.Fabric.{CallAt, Fabric, Node, causes_of_call}
use Rattle.zt_model.specs.Lists.{is_some_and, nth}
use Rattle.zt_model.specs.Refusals.{asks_upstream, call_causes, can_draw, could, could_spend_ids, faces_with, first_cause, left_ids, spends_ids, would_send}
use Rattle.zt_model.specs.Routing.{is_target, sent_as}
use Rattle.zt_model.specs.Rows.{Face, RoutedRow, Rows}
use Rattle.zt_model.specs.Says.{find_face, is_routed}
use Rattle.zt_model.specs.Shown.{rows_shown}
use Rattle.zt_model.specs.Transcript.{Each}
use Rattle.zt_model.specs.Visible.{keeps, live_rows, rows_of_face}
use Rattle.zt_laws.specs.Order.{ListsAreInOrder}
use Rattle.zt_laws.specs.Shown.{call_shown, is_from_other, without_own}
use Rattle.zt_laws.proofs.Lists.{any_alike, by_test, each_always, filter_alike, never}
use Rattle.zt_laws.proofs.ShownRows.{call_aside, filter_within}
use Rattle.zt_theorem_soundness.specs.Lines.{EachGatewayIs}
use Rattle.zt_theorem_soundness.specs.Sound.{IsSound}
use Rattle.zt_theorem_drawn_ids.proofs.Could.{could_from}
use Rattle.zt_theorem_drawn_ids.proofs.Needs.{visible_as}
use Rattle.zt_theorem_drawn_ids.proofs.Within.{need_within_could, spends_could}
use Rattle.zt_theorem_transcript.proofs.Beside.{draws_if_spent}

pub member : {A : Type 0} (P : A → Type 0) (n : ℕ) (xs : List A) (x : A) → nth n xs ≡ Some x → Each P xs → P x
member P n [] x at_ all = cc
member P n (y ∷ xs) x at_ all =
    by_test (n == 1)
    (λ here. let e : Some y ≡ Some x = rw here at at_ in let is : y ≡ x = cc in subst P is all.0)
    (λ here. member P (n - 1) xs x (rw here at at_) all.1)

module _ {K : Type 0} (cmp : K → K → Ordering) (matching : K → K → Bool) where
  -- ---- what a call could draw, as a transcript shows it

  could_aside : (h : Rows K) (f : Face K) → could_from cmp matching (without_own h) f ≡ could_from cmp matching h f
  could_aside h f =
      ap (λ (es : List K). length (filter (λ e. not (keeps cmp f e)) es) + (sum_by (λ x. length x.held) h.faces + sum_by (asks_upstream cmp matching) h.faces)) (visible_as cmp matching h (without_own h) f.region (live_of_others h))
    where
      live_of_others : (g : Rows K) → live_rows (without_own g) ≡ live_rows g
      live_of_others g = ap (λ (rows : List (RoutedRow K)). flat_map rows_of_face g.faces ++ map (λ row. (row.region, row.expr)) rows) (filter_within (is_from_other g.zid) (is_from_other g.zid) (λ row other. other) g.routed)

  target_shown : (g : Rows K) (asker : Region) (mode : InterestMode) (f : Face K) → is_target (without_own g) asker mode f ≡ is_target g asker mode f
  unfolding is_target
  target_shown g asker mode f = refl

  sent_shown : (g : Rows K) (asker : Region) (mode : InterestMode) → sent_as (without_own g) asker mode ≡ sent_as g asker mode
  unfolding sent_as
  sent_shown g asker mode =
      ap (λ (fs : List (Face K)). map (λ f. (f.number, f.next)) fs)
      (filter_alike (is_target (without_own g) asker mode) (is_target g asker mode) g.faces (each_always (λ f. is_target (without_own g) asker mode f ≡ is_target g asker mode f) (λ f. target_shown g asker mode f) g.faces))

  would_send_shown : (c : PlainCall K) (g : Rows K) → would_send cmp matching c (without_own g) ≡ would_send cmp matching c g
  would_send_shown (Interest n id mode options e) g = cases (find_face n g)
    where
      cases : (o : Option (Face K)) → (let ps : List (ℕ × ℕ) = elim o [ None ↦ [] | Some f ↦ sent_as (without_own g) f.region mode ] in ps) ≡ elim o [ None ↦ [] | Some f ↦ sent_as g f.region mode ]
      cases None = refl
      cases (Some f) = sent_shown g f.region mode
  would_send_shown (NewSession first) g = refl
  would_send_shown (NewTransport zid whatami region bound first) g = refl
  would_send_shown (DeclareToken n id e node interest) g = refl
  would_send_shown (UndeclareToken n id given node) g = refl
  would_send_shown (InterestFinal n id) g = refl
  would_send_shown (DeclareFinal n id) g = refl
  would_send_shown (CloseFace n) g = refl
  would_send_shown (Expire now) g = refl
  would_send_shown (SetTrees region t) g = refl
  would_send_shown (SetEntities n subscribers queryables) g = refl

  faces_shown : (c : PlainCall K) (g : Rows K) → faces_with cmp matching c (without_own g) ≡ faces_with cmp matching c g
  faces_shown (NewTransport zid whatami region bound first) g = refl
  faces_shown (NewSession first) g = refl
  faces_shown (DeclareToken n id e node interest) g = refl
  faces_shown (UndeclareToken n id given node) g = refl
  faces_shown (Interest n id mode options e) g = refl
  faces_shown (InterestFinal n id) g = refl
  faces_shown (DeclareFinal n id) g = refl
  faces_shown (CloseFace n) g = refl
  faces_shown (Expire now) g = refl
  faces_shown (SetTrees region t) g = refl
  faces_shown (SetEntities n subscribers queryables) g = refl

  module _ (total : IsTotalOrder cmp) where
    could_shown : (c : PlainCall K) (g : Rows K) (f : Face K) → ListsAreInOrder cmp matching g → could cmp matching c (without_own g) f ≡ could cmp matching c g f
    unfolding could
    could_shown c g f lists =
        ap (λ ps. could_from cmp matching (rows_shown cmp ps c (without_own g)) f) (would_send_shown c g)
        ∙ ap (λ (h : Rows K). could_from cmp matching h f) (call_aside cmp matching total (would_send cmp matching c g) c g lists)
        ∙ could_aside (rows_shown cmp (would_send cmp matching c g) c g) f

    pub spend_shown : (c : PlainCall K) (g : Rows K) → ListsAreInOrder cmp matching g → could_spend_ids cmp matching c (without_own g) ≡ could_spend_ids cmp matching c g
    unfolding could_spend_ids
    spend_shown c g lists =
        ap (λ (fs : List (Face K)). can_draw cmp matching c && list_any (λ f. not (is_routed g f) && nat_lt (left_ids f) (could cmp matching c (without_own g) f)) fs) (faces_shown c g)
        ∙ ap (λ b. can_draw cmp matching c && b)
        (any_alike (λ f. not (is_routed g f) && nat_lt (left_ids f) (could cmp matching c (without_own g) f)) (λ f. not (is_routed g f) && nat_lt (left_ids f) (could cmp matching c g f))
        (λ f. ap (λ k. not (is_routed g f) && nat_lt (left_ids f) k) (could_shown c g f lists)) (faces_with cmp matching c g))

  -- ---- lines of one call

  module _ (total : IsTotalOrder cmp) (equal_is_same : (a b : K) → cmp a b ≡ Equal → a ≡ b) where
    call_could : (c : PlainCall K) (g : Rows K) → first_cause (call_causes cmp matching true c g) ≡ Some refusal.IdsSpent → IsSound cmp matching g → spends_ids cmp matching c g ≡ true → could_spend_ids cmp matching c (without_own g) ≡ true
    call_could c g first sound spent =
        spend_shown total c g sound.ordered.lists
        ∙ spends_could cmp matching total equal_is_same c g (draws_if_spent cmp matching c g first) (need_within_could cmp matching total equal_is_same c g first sound) spent

    abbrev pub SpendsAt : Option (CallAt K) → Bool
    SpendsAt at = is_some_and at (λ at. spends_ids cmp matching at.call at.rows)

    abbrev pub CouldAt : Option (CallAt K) → Bool
    CouldAt at = is_some_and at (λ at. could_spend_ids cmp matching at.call at.rows)

    abbrev pub Goes : Option (CallAt K) → Type 0
    Goes at = first_cause (causes_of_call cmp matching true at) ≡ Some refusal.IdsSpent → SpendsAt at ≡ true → CouldAt (call_shown at) ≡ true

    pub goes_none : Goes None
    goes_none first spent = never spent refl

    pub goes_made : (s : Fabric K) → EachGatewayIs cmp matching (IsSound cmp matching) s → (n : ℕ) (node : Node K) (c : PlainCall K) → nth n s.gateways ≡ Some node → Goes (Some (record { gateway = n; rows = node.rows; call = c }))
    goes_made s sound n node c at_ first spent = call_could c node.rows first (member (λ (x : Node K). IsSound cmp matching x.rows) n s.gateways node at_ sound.gateways) spent
