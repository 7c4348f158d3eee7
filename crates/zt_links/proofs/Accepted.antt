-- What an accepted line says and does, by its kind, and what entry it comes to.
use Rattle.std.proofs.Common.{◌≡◌, ℕ, Bool, true, false, List, [], Option, Some, None, Result, Ok, Err, IfOk, OnErr, is_none, refl, sym, ap, subst, ◌∙◌}
use Rattle.std.specs.Cmp.{IsTotalOrder}
use Rattle.zt_keys.specs.declared.error.Memory.{Memory}
use Rattle.zt_protocol.specs.declared.entries.Entry.{Entry}
use Rattle.zt_laws.specs.Order.{FabricIsInOrder}
use Rattle.zt_laws.specs.Sound.{HasFirstIds}
use Rattle.zt_laws.proofs.AllLines.{in_order_after_line}
use Rattle.std.specs.declared.cmp.Ordering.{Ordering}
use Rattle.zt_region.specs.declared.region.Bound.{Bound}
use Rattle.zt_region.specs.declared.region.Region.{Region}
use Rattle.zt_region.specs.declared.region.WhatAmI.{WhatAmI}
use Rattle.zt_region.specs.declared.region.Zid.{Zid}
use Rattle.zt_region.specs.South.{PlainSouth}
use Rattle.zt_protocol.specs.Plain.{PlainCall, PlainEntry, PlainLine, plain_entry, Trees, NewSession, Gateway, Session, Face as FaceLine, Step, Speak, Moment, SetTreesAt}
use Rattle.zt_protocol.specs.declared.entries.Sent.{Sent}
use Rattle.zt_protocol.specs.declared.errors.Refusal.{Refusal}
use Rattle.zt_protocol.specs.declared.errors.Refusal.TheVariants as refusal
use Rattle.zt_model.specs.Fabric.{CallAt, Fabric, Node, after_hearing, after_refusal, altered_at, altered_by_line, call_of, entry_by, entry_of, fabric_after, is_unknown_gateway, new_rows, opened_at, said_at, said_by_line, sorted_by_face, with_gateway, with_session, with_waiting, without_message}
use Rattle.zt_model.specs.Lists.{nth}
use Rattle.zt_model.specs.Refusals.{first_cause}
use Rattle.zt_model.specs.Says.{altered_by, parts_of, said_by}
use Rattle.zt_laws.proofs.Gateways.{after_hearing_nothing}
use Rattle.zt_laws.proofs.LinesOrder.{called_at}
use Rattle.zt_links.specs.Lines.{cause_if, cause_of_line, or_cause}
use Rattle.zt_links.proofs.Carried.{nothing_waits}
use Rattle.zt_links.proofs.Refusing.{session_cause}

not_caused : (b : Bool) (r : Refusal) (later : Option Refusal) → or_cause (cause_if b r) later ≡ None → b ≡ false
not_caused true r later none = cc
not_caused false r later none = refl

module _ {K : Type 0} (cmp : K → K → Ordering) (matching : K → K → Bool) where
  -- ---- calls that open no face

  -- what a call at its gateway says and does
  abbrev pub does_called : Fabric K → List (Sent K) → Option (CallAt K) → Fabric K
  does_called s ms at = with_waiting ms (after_hearing cmp ms (altered_at cmp matching s at))

  pub speak_says : (call : PlainCall K) (s : Fabric K) (at : Option (CallAt K)) → at ≡ call_of (Speak call) s → sorted_by_face (said_at cmp matching s at) ≡ sorted_by_face (said_by_line cmp matching (Speak call) s)
  unfolding said_by_line
  speak_says call s at is = ap (λ o. sorted_by_face (said_at cmp matching s o)) is

  pub speak_does : (call : PlainCall K) (s : Fabric K) (ms : List (Sent K)) (at : Option (CallAt K)) → at ≡ call_of (Speak call) s → does_called s ms at ≡ fabric_after cmp matching (Speak call) (Ok ms) s
  unfolding fabric_after altered_by_line
  speak_does call s ms at is = ap (does_called s ms) is

  pub moment_says : (gateway now : ℕ) (s : Fabric K) (at : Option (CallAt K)) → at ≡ call_of (Moment gateway now) s → sorted_by_face (said_at cmp matching s at) ≡ sorted_by_face (said_by_line cmp matching (Moment gateway now) s)
  unfolding said_by_line
  moment_says gateway now s at is = ap (λ o. sorted_by_face (said_at cmp matching s o)) is

  pub moment_does : (gateway now : ℕ) (s : Fabric K) (ms : List (Sent K)) (at : Option (CallAt K)) → at ≡ call_of (Moment gateway now) s → does_called s ms at ≡ fabric_after cmp matching (Moment gateway now) (Ok ms) s
  unfolding fabric_after altered_by_line
  moment_does gateway now s ms at is = ap (does_called s ms) is

  pub trees_says : (gateway : ℕ) (region : Region) (table : Trees) (s : Fabric K) (at : Option (CallAt K)) → at ≡ call_of (SetTreesAt gateway region table) s
      → sorted_by_face (said_at cmp matching s at) ≡ sorted_by_face (said_by_line cmp matching (SetTreesAt gateway region table) s)
  unfolding said_by_line
  trees_says gateway region table s at is = ap (λ o. sorted_by_face (said_at cmp matching s o)) is

  pub trees_does : (gateway : ℕ) (region : Region) (table : Trees) (s : Fabric K) (ms : List (Sent K)) (at : Option (CallAt K)) → at ≡ call_of (SetTreesAt gateway region table) s
      → does_called s ms at ≡ fabric_after cmp matching (SetTreesAt gateway region table) (Ok ms) s
  unfolding fabric_after altered_by_line
  trees_does gateway region table s ms at is = ap (does_called s ms) is

  pub step_says : (link : ℕ) (back : Bool) (s : Fabric K) (at : Option (CallAt K)) → at ≡ call_of (Step link back) s → sorted_by_face (said_at cmp matching s at) ≡ sorted_by_face (said_by_line cmp matching (Step link back) s)
  unfolding said_by_line
  step_says link back s at is = ap (λ o. sorted_by_face (said_at cmp matching s o)) is

  pub step_does : (link : ℕ) (back : Bool) (s t : Fabric K) (ms : List (Sent K)) (at : Option (CallAt K)) → t ≡ without_message link back s → at ≡ call_of (Step link back) s → does_called t ms at ≡ fabric_after cmp matching (Step link back) (Ok ms) s
  unfolding fabric_after altered_by_line
  step_does link back s t ms at taken is = ap (λ u. does_called u ms at) taken ∙ ap (does_called (without_message link back s) ms) is

  -- ---- calls that open a face

  abbrev pub says_opened : Fabric K → Option (CallAt K) → List (Sent K)
  says_opened s at = sorted_by_face (said_at cmp matching (opened_at cmp matching at s) at)

  abbrev pub does_opened : Fabric K → List (Sent K) → Option (CallAt K) → Fabric K
  does_opened s ms at = with_waiting ms (after_hearing cmp ms (opened_at cmp matching at s))

  pub face_says : (gateway : ℕ) (mode : WhatAmI) (zid : Zid) (region : Region) (bound : Bound) (first : ℕ) (s : Fabric K) (at : Option (CallAt K)) → at ≡ call_of (FaceLine gateway mode zid region bound first) s
      → says_opened s at ≡ sorted_by_face (said_by_line cmp matching (FaceLine gateway mode zid region bound first) s)
  unfolding said_by_line
  face_says gateway mode zid region bound first s at is = ap (says_opened s) is

  pub face_does : (gateway : ℕ) (mode : WhatAmI) (zid : Zid) (region : Region) (bound : Bound) (first : ℕ) (s : Fabric K) (ms : List (Sent K)) (at : Option (CallAt K)) → at ≡ call_of (FaceLine gateway mode zid region bound first) s
      → does_opened s ms at ≡ fabric_after cmp matching (FaceLine gateway mode zid region bound first) (Ok ms) s
  unfolding fabric_after altered_by_line
  face_does gateway mode zid region bound first s ms at is = ap (does_opened s ms) is

  -- a session is opened without a word
  pub session_says : (gateway first : ℕ) (s : Fabric K) (at : Option (CallAt K)) → at ≡ call_of (Session gateway first) s → says_opened s at ≡ sorted_by_face (said_by_line cmp matching (Session gateway first) s)
  unfolding said_by_line call_of parts_of said_by
  session_says gateway first s at is =
      ap (says_opened s) is
      ∙ called_at (λ o. says_opened s o ≡ sorted_by_face (said_at cmp matching s o)) s gateway (NewSession first) refl (λ node at_. refl)

  session_opened : (gateway first : ℕ) (s : Fabric K) → is_unknown_gateway s gateway ≡ false → opened_at cmp matching (call_of (Session gateway first) s) s ≡ with_session gateway first s
  unfolding call_of parts_of altered_by
  session_opened gateway first s known = cases (nth gateway s.gateways) refl known
    where
      G : Option (CallAt K) → Type 0
      G at = opened_at cmp matching at s ≡ with_session gateway first s

      cases : (o : Option (Node K)) → nth gateway s.gateways ≡ o → is_none o ≡ false → G (elim o [ None ↦ None | Some node ↦ Some (record { gateway = gateway; rows = node.rows; call = NewSession first }) ])
      cases None at_ known = cc
      cases (Some node) at_ known = refl

  pub session_does : (gateway first : ℕ) (s : Fabric K) (ms : List (Sent K)) (at : Option (CallAt K)) → cause_of_line cmp matching (Session gateway first) s ≡ None → at ≡ call_of (Session gateway first) s
      → does_opened s ms at ≡ fabric_after cmp matching (Session gateway first) (Ok ms) s
  unfolding fabric_after altered_by_line
  session_does gateway first s ms at accepted is =
      let known : is_unknown_gateway s gateway ≡ false = not_caused (is_unknown_gateway s gateway) refusal.UnknownGateway _ (sym (session_cause cmp matching gateway first s) ∙ accepted) in
      ap (does_opened s ms) is ∙ ap (λ t. with_waiting ms (after_hearing cmp ms t)) (session_opened gateway first s known)

  -- ---- gateways

  pub gateway_says : (mode : WhatAmI) (zid : Zid) (regions : List Region) (south : PlainSouth) (name : Option (List ℕ)) (timeout : ℕ) (refused : List (Region × Region)) (s : Fabric K)
      → [] ≡ sorted_by_face (said_by_line cmp matching (Gateway mode zid regions south name timeout refused) s)
  unfolding said_by_line call_of sorted_by_face
  gateway_says mode zid regions south name timeout refused s = refl

  pub gateway_does : (mode : WhatAmI) (zid : Zid) (regions : List Region) (south : PlainSouth) (name : Option (List ℕ)) (timeout : ℕ) (refused : List (Region × Region)) (s : Fabric K)
      → with_gateway (record { rows = new_rows mode zid regions timeout refused; south = south; name = name }) s ≡ fabric_after cmp matching (Gateway mode zid regions south name timeout refused) (Ok []) s
  unfolding fabric_after altered_by_line
  gateway_does mode zid regions south name timeout refused s =
      let made = with_gateway (record { rows = new_rows mode zid regions timeout refused; south = south; name = name }) s in
      sym (nothing_waits (after_hearing cmp [] made) ∙ after_hearing_nothing cmp made)

  -- ---- entries

  pub refused_entry : (line : PlainLine K) (s : Fabric K) (r : Refusal) → cause_of_line cmp matching line s ≡ Some r → (let entry : PlainEntry K = Err r in entry ≡ entry_of cmp matching line s)
  unfolding entry_of cause_of_line first_cause
  refused_entry line s r is = sym (ap (λ o. entry_by cmp matching o (sorted_by_face (said_by_line cmp matching line s))) is)

  pub refused_fabric : (line : PlainLine K) (s : Fabric K) (r : Refusal) → after_refusal cmp matching line r s ≡ fabric_after cmp matching line (Err r) s
  unfolding fabric_after
  refused_fabric line s r = refl

  pub accepted_entry : (line : PlainLine K) (s : Fabric K) (ms : List (Sent K)) → cause_of_line cmp matching line s ≡ None → ms ≡ sorted_by_face (said_by_line cmp matching line s) → (let entry : PlainEntry K = Ok ms in entry ≡ entry_of cmp matching line s)
  unfolding entry_of cause_of_line first_cause
  accepted_entry line s ms is says = ap (λ (xs : List (Sent K)). let entry : PlainEntry K = Ok xs in entry) says ∙ sym (ap (λ o. entry_by cmp matching o (sorted_by_face (said_by_line cmp matching line s))) is)

  -- whatever comes of a line, the fabric stays in order
  pub stepped : (total : IsTotalOrder cmp) (line : PlainLine K) (s t : Fabric K) (result : Result (Entry K) Memory) → HasFirstIds line → FabricIsInOrder cmp matching s
      → IfOk result (λ entry. plain_entry entry ≡ entry_of cmp matching line s) → IfOk result (λ entry. t ≡ fabric_after cmp matching line (plain_entry entry) s) → OnErr result (t ≡ s) → FabricIsInOrder cmp matching t
  stepped total line s t (Ok entry) real fine is does still =
      subst (FabricIsInOrder cmp matching) (sym (does ∙ ap (λ e. fabric_after cmp matching line e s) is)) (in_order_after_line cmp matching total line s real fine)
  stepped total line s t (Err error) real fine is does still = subst (FabricIsInOrder cmp matching) (sym still) fine
