-- A way up stays one through a call: no final falls of an interest that wasn't sent up yet.
use Rattle.std.proofs.Common.{◌≡◌, ◌⊎◌, inl, inr, ℕ, ◌≤◌, ◌<◌, max, Bool, true, false, ◌==◌, not, nat_lt, List, [], ◌∷◌, ◌++◌, Option, Some, None, is_none, refl, sym, ap, ◌∙◌, subst, arith, eqb-true, eq-eqb, ne_eqb, ⊎_elim}
use Rattle.std.proofs.lemmas.Bool.{ltb-false, ltb-true}
use Rattle.std.specs.Cmp.{IsTotalOrder}
use Rattle.std.specs.declared.cmp.Ordering.{Ordering}
use Rattle.std.specs.declared.cmp.Ordering.TheVariants.{Equal}
use Rattle.zt_region.specs.Region.{is_north}
use Rattle.zt_protocol.specs.declared.interests.InterestMode.{InterestMode}
use Rattle.zt_protocol.specs.declared.interests.InterestOptions.{InterestOptions}
use Rattle.zt_protocol.specs.Plain.{PlainCall, NewSession, NewTransport, DeclareToken, UndeclareToken, Interest, InterestFinal, DeclareFinal, CloseFace, Expire, SetTrees, SetEntities}
use Rattle.zt_protocol.specs.declared.entries.Sent.{Sent}
use Rattle.zt_protocol.specs.declared.messages.Message.{Message}
use Rattle.zt_protocol.specs.declared.messages.Message.TheVariants as message
use Rattle.zt_model.specs.Fabric.{Fabric, Node, call_face, printed_for}
use Rattle.zt_model.specs.Hearing.{heard, heard_all, messages_for}
use Rattle.zt_model.specs.Linking.{call_of_message, waiting_of}
use Rattle.zt_model.specs.Lists.{first_where, has_id, nth}
use Rattle.zt_model.specs.Parts.{find_face}
use Rattle.zt_model.specs.Refusals.{call_causes, first_cause, is_unknown_face}
use Rattle.zt_model.specs.Rows.{Ask, ById, Face}
use Rattle.zt_model.specs.Says.{altered, said}
use Rattle.zt_model.specs.Transcript.{Each, FaceAt, face_numbered}
use Rattle.zt_laws.specs.Order.{FabricIsInOrder}
use Rattle.zt_laws.specs.Sound.{CallHasFirstIds, RiseFrom, opens_face, rows_after_call}
use Rattle.zt_laws.proofs.Calls.{no_cause}
use Rattle.zt_laws.proofs.Gateways.{PrintsSends}
use Rattle.zt_laws.proofs.Lists.{any_none, by_test, each_append, each_fails, each_weaker, never, rise_above}
use Rattle.zt_theorem_tree_invariant.specs.Facts.{TreesAgree, top_of}
use Rattle.zt_theorem_tree_invariant.specs.Joints.{are_joined}
use Rattle.zt_theorem_tree_invariant.proofs.Lines.{tree_rows}
use Rattle.zt_theorem_tree_invariant.proofs.Quiet.{joined_back}
use Rattle.zt_theorem_tree_invariant.proofs.Saying.{find_heard_at}
use Rattle.zt_theorem_tree_invariant.proofs.Standing.{After, LeavesOpen, closes_face, still_there}
use Rattle.zt_theorem_tree_invariant.proofs.Turning.{queue}
use Rattle.zt_theorem_tree_invariant.proofs.Waiting.{IsBelow, below_top, rise_below, rise_within}
use Rattle.zt_theorem_tree_all_that_stays.specs.Steady.{FinalIsBelow, IsNoFinal}
use Rattle.zt_theorem_tree_all_that_stays.specs.Ways.{IsAbove, IsStepUp, LeadsUpTo}
use Rattle.zt_theorem_tree_all_that_stays.proofs.Carrying.{expires}
use Rattle.zt_theorem_tree_all_that_stays.proofs.Finals.{IsServed, Serves, Spares, leaves_asks}
use Rattle.zt_theorem_tree_all_that_stays.proofs.Parts.{sent_to}
use Rattle.zt_theorem_tree_all_that_stays.proofs.Stays.{is_left}
use Rattle.zt_theorem_tree_all_that_stays.proofs.Views.{IsSpoken, IsUnspoken, Speaks, elsewhere, leaves_open, own_of, printed_elsewhere, printed_here, rows_before, rows_then, same_place, still_waits, then_, waits_then}

-- ids only rise at a face that hears
next_heard : {K : Type 0} (cmp : K → K → Ordering) (now : ℕ) (m : Message K) (f : Face K) → f.next ≤ (heard cmp now m f).next
next_heard cmp now (message.DeclareToken id e i node) f = omega arith
next_heard cmp now (message.UndeclareToken id e node) f = omega arith
next_heard cmp now (message.DeclareFinal i) f = omega arith
next_heard cmp now (message.Interest id mode options e) f = omega arith
next_heard cmp now (message.InterestFinal id) f = omega arith
next_heard cmp now (message.DeclareSubscriber n e i) f = omega arith
next_heard cmp now (message.DeclareQueryable n e info i) f = omega arith

pub next_rises : {K : Type 0} (cmp : K → K → Ordering) (now : ℕ) (ms : List (Message K)) (f : Face K) → f.next ≤ (heard_all cmp now ms f).next
unfolding heard_all
next_rises cmp now [] f = omega arith
next_rises cmp now (m ∷ ms) f = let one = next_heard cmp now m f in let more = next_rises cmp now ms (heard cmp now m f) in omega arith

no_more : {A : Type 0} (ns : List A) → ns ++ [] ≡ ns
no_more [] = refl
no_more (m ∷ ns) = ap (λ xs. m ∷ xs) (no_more ns)

-- messages that are no finals of the ids from one on have finals below it
below_by : {K : Type 0} (next : ℕ) (ms : List (Message K)) → ((id : ℕ) → next ≤ id → Each (IsNoFinal id) ms) → Each (FinalIsBelow next) ms
below_by next [] h = tt
below_by next (message.DeclareFinal i ∷ ms) h = (by_less (λ le. never (eq-eqb i i refl) (h i le).0), below_by next ms (λ id le. (h id le).1))
  where
    by_less : (next ≤ i → ⊥) → i < next
    by_less no_ = ⊎_elim (λ less. less) (λ le. absurd (no_ le)) (less_or i next)
      where
        less_or : (a b : ℕ) → (a < b) ⊎ (b ≤ a)
        less_or a b = by_test (nat_lt a b) (λ is. inl (ltb-true a b is)) (λ is. inr (ltb-false a b (sym (sym is))))
below_by next (message.DeclareToken id e i node ∷ ms) h = (tt, below_by next ms (λ id le. (h id le).1))
below_by next (message.UndeclareToken id e node ∷ ms) h = (tt, below_by next ms (λ id le. (h id le).1))
below_by next (message.Interest id mode options e ∷ ms) h = (tt, below_by next ms (λ id le. (h id le).1))
below_by next (message.InterestFinal id ∷ ms) h = (tt, below_by next ms (λ id le. (h id le).1))
below_by next (message.DeclareSubscriber n e i ∷ ms) h = (tt, below_by next ms (λ id le. (h id le).1))
below_by next (message.DeclareQueryable n e info i ∷ ms) h = (tt, below_by next ms (λ id le. (h id le).1))

final_later : {K : Type 0} (low high : ℕ) → low ≤ high → (m : Message K) → FinalIsBelow low m → FinalIsBelow high m
final_later low high le (message.DeclareFinal i) less = omega arith
final_later low high le (message.DeclareToken id e i node) less = tt
final_later low high le (message.UndeclareToken id e node) less = tt
final_later low high le (message.Interest id mode options e) less = tt
final_later low high le (message.InterestFinal id) less = tt
final_later low high le (message.DeclareSubscriber n e i) less = tt
final_later low high le (message.DeclareQueryable n e info i) less = tt

-- an id that no row has
pub asks_free : {A : Type 0} (low id : ℕ) (rows : ById A) → top_of rows ≤ low → low ≤ id → has_id id rows ≡ false
asks_free {A} low id rows top le =
    any_none (λ (row : ℕ × A). id == row.0) rows
    (each_weaker (λ (row : ℕ × A). row.0 < id) (λ row. (id == row.0) ≡ false) (λ row less. ne_eqb id row.0 (λ is. let bad : row.0 < id = less in absurd (omega arith))) rows (below_top id rows (omega arith)))

module _ {K : Type 0} (cmp : K → K → Ordering) (matching : K → K → Bool) (total : IsTotalOrder cmp) (equal_is_same : (a b : K) → cmp a b ≡ Equal → a ≡ b) (s : Fabric K) (fine : FabricIsInOrder cmp matching s) (agree : TreesAgree cmp matching s) (j : ℕ) (node : Node K) (at_j : nth j s.gateways ≡ Some node)
    (c : PlainCall K) (real : CallHasFirstIds c) (still : opens_face c ≡ false) (timeless : expires c ≡ false) (spent : Bool) (accepted : first_cause (call_causes cmp matching spent c node.rows) ≡ None) (ms : List (Sent K)) (w : ById (List (Message K))) (prints : PrintsSends s.faces j (said cmp matching c node.rows) ms)
    (waits : (k : ℕ) → has_id k s.waiting ≡ true → has_id k w ≡ true) (speaks : Speaks cmp matching total s fine j node at_j c real ms w prints) where
  abbrev t : Fabric K
  t = then_ cmp matching total s fine j node at_j c real ms w prints

  the_same : {A : Type 0} {u v : A} → Some u ≡ Some v → u ≡ v
  the_same h = cc

  abbrev open_ : (k b : ℕ) (z : FaceAt K) → face_numbered s k ≡ Some z → are_joined s k b ≡ true → z.gateway ≡ j → LeavesOpen c z.face.number
  open_ = leaves_open cmp matching total s fine j node at_j c real ms w prints speaks

  -- ---- a face that has no such ask is sent no final of it

  no_face_zero : (fs : List (Face K)) → RiseFrom (λ f. f.number) 1 fs → first_where (λ f. 0 == f.number) fs ≡ None
  no_face_zero fs rises = go fs (rise_above (λ (f : Face K). f.number) 1 fs rises)
    where
      go : (fs : List (Face K)) → Each (λ f. 1 ≤ f.number) fs → first_where (λ f. 0 == f.number) fs ≡ None
      go [] all = refl
      go (f ∷ fs) all = let real_ : 1 ≤ f.number = all.0 in let miss : (0 == f.number) ≡ false = ne_eqb 0 f.number (λ is. omega arith) in rw miss (go fs all.1)

  known_not_zero : (n : ℕ) → is_unknown_face n node.rows ≡ false → (n == 0) ≡ false
  known_not_zero n known =
      by_test (n == 0)
      (λ here.
      let gone : find_face n node.rows ≡ None = ap (λ i. find_face i node.rows) (eqb-true n 0 here) ∙ no_face_zero node.rows.faces (tree_rows cmp matching s j node fine agree at_j).rises in
      never (ap is_none gone) known)
      (λ apart. apart)

  -- the call asks something else
  abbrev pub AsksOther : ℕ → ℕ → Type 0
  AsksOther p id = (mode : InterestMode) (options : InterestOptions) (x : Option K) → c ≡ Interest p id mode options x → ⊥

  pub finals_none : (p id : ℕ) (f : Face K) → find_face p node.rows ≡ Some f → LeavesOpen c p → has_id id f.asks ≡ false → AsksOther p id → Each (IsNoFinal id) (messages_for p (said cmp matching c node.rows))
  unfolding call_causes
  finals_none p id f found opens free other =
      let g = node.rows in
      let rows = tree_rows cmp matching s j node fine agree at_j in
      let serves : Serves cmp matching id 0 0 false false p g = record {
        asks =
            own_of (λ h. Each (λ row. (id == row.0) ≡ true → IsServed cmp matching id 0 0 false false row.1) h.asks) p g f rows.rises found
            (each_weaker (λ (row : ℕ × Ask K). (id == row.0) ≡ false) (λ row. (id == row.0) ≡ true → IsServed cmp matching id 0 0 false false row.1) (λ row no_ own. never own no_) f.asks (each_fails (λ (row : ℕ × Ask K). id == row.0) f.asks free));
        stands = λ bad. cc;
      } in
      sent_to p (IsNoFinal id) p (said cmp matching c g) (eq-eqb p p refl) (leaves_asks cmp matching id 0 0 false false p c g rows serves (spares c refl accepted)).0
    where
      spares : (d : PlainCall K) → c ≡ d → first_cause (call_causes cmp matching spent d node.rows) ≡ None → Spares cmp matching id 0 0 false false p d
      spares (DeclareToken n k x tree_node interest) is accepted_ = tt
      spares (UndeclareToken n k given tree_node) is accepted_ = tt
      spares (Interest n k mode options x) is accepted_ = λ at_p same_. absurd (other mode options x (is ∙ ap (λ i. Interest i k mode options x) (eqb-true n p at_p) ∙ ap (λ i. Interest p i mode options x) (sym (eqb-true id k same_))))
      spares (InterestFinal n k) is accepted_ = λ at_p same_. refl
      spares (DeclareFinal n k) is accepted_ = rw (known_not_zero n (no_cause _ _ _ accepted_).0) refl
      spares (CloseFace n) is accepted_ = (
        ne_eqb n p (λ same_. opens (ap closes_face is) n (ap call_face is) same_),
        known_not_zero n (no_cause _ _ _ accepted_).0,
      )
      spares (SetTrees region table) is accepted_ = tt
      spares (SetEntities n subscribers queryables) is accepted_ = tt
      spares (NewSession first) is accepted_ = never (ap opens_face is) still
      spares (NewTransport zid whatami region bound first) is accepted_ = never (ap opens_face is) still
      spares (Expire now) is accepted_ = never (ap expires is) timeless

  -- an interest is asked above only where it is spoken
  asks_below : (n id : ℕ) (next : ℕ) (m : Message K) (mode : InterestMode) (options : InterestOptions) (x : Option K) → IsBelow next m → call_of_message n m ≡ Some (Interest n id mode options x) → id < next
  asks_below n id next (message.Interest k mode2 options2 x2) mode options x less is = let same_ : Interest n k mode2 options2 x2 ≡ Interest n id mode options x = the_same is in let k_is : k ≡ id = cc in subst (λ i. i < next) k_is less
  asks_below n id next (message.DeclareToken k e i tree_node) mode options x less is = cc
  asks_below n id next (message.UndeclareToken k e tree_node) mode options x less is = cc
  asks_below n id next (message.DeclareFinal k) mode options x less is = cc
  asks_below n id next (message.InterestFinal k) mode options x less is = cc
  asks_below n id next (message.DeclareSubscriber number e i) mode options x less is = cc
  asks_below n id next (message.DeclareQueryable number e info i) mode options x less is = cc

  -- ---- one step

  module _ (k a b : ℕ) (step : IsStepUp s k a b) where
    abbrev above : IsAbove s k a b step.own step.lower step.upper
    above = step.above

    back : are_joined s b a ≡ true
    back = joined_back s a b above.joined

    abbrev lower_then : After cmp matching total s fine agree j node at_j c real still open_ spent accepted ms w prints a step.lower
    lower_then = still_there cmp matching total s fine agree j node at_j c real still open_ spent accepted ms w prints a b step.lower above.lower_is above.joined

    abbrev upper_then : After cmp matching total s fine agree j node at_j c real still open_ spent accepted ms w prints b step.upper
    upper_then = still_there cmp matching total s fine agree j node at_j c real still open_ spent accepted ms w prints b a step.upper above.upper_is back

    abbrev waits_b : waiting_of t b ≡ queue w b ++ printed_for b ms
    waits_b = waits_then cmp matching total s fine j node at_j c real ms w prints b (waits b (agree.links.wait b a back))

    pub lower_rises : step.lower.face.next ≤ lower_then.face.face.next
    lower_rises =
        by_test (step.lower.gateway == j)
        (λ same_.
        let here : step.lower.gateway ≡ j = eqb-true step.lower.gateway j same_ in
        let g = node.rows in
        let p = step.lower.face.number in
        let found = rows_before cmp matching total s fine j node at_j c real ms w prints a step.lower above.lower_is here in
        let left = is_left cmp matching total spent c g p step.lower.face (tree_rows cmp matching s j node fine agree at_j) accepted still (open_ a b step.lower above.lower_is above.joined here) found in
        let h = heard_all cmp (altered cmp matching c g).moment (messages_for p (said cmp matching c g)) left.after in
        let found_h : find_face p (rows_after_call cmp matching c g) ≡ Some h = find_heard_at cmp (said cmp matching c g) (altered cmp matching c g) p left.after left.altered_is in
        let place = same_place cmp matching total s fine j node at_j c real ms w prints a step.lower lower_then.face above.lower_is lower_then.is in
        let then_low : find_face p (rows_after_call cmp matching c g) ≡ Some lower_then.face.face = ap (λ n. find_face n (rows_after_call cmp matching c g)) (sym place.1) ∙ rows_then cmp matching total s fine j node at_j c real ms w prints a lower_then.face lower_then.is (place.0 ∙ here) in
        let is : h ≡ lower_then.face.face = the_same (sym found_h ∙ then_low) in
        subst (λ (f : Face K). step.lower.face.next ≤ f.next) is (subst (λ n. n ≤ h.next) left.next (next_rises cmp (altered cmp matching c g).moment (messages_for p (said cmp matching c g)) left.after)))
        (λ apart. subst (λ (f : Face K). step.lower.face.next ≤ f.next) (sym (elsewhere cmp matching total s fine j node at_j c real ms w prints a step.lower lower_then.face above.lower_is lower_then.is (λ is. never (eq-eqb step.lower.gateway j is) apart))) (omega arith))

    -- no final is said above of what wasn't sent up
    pub new_finals : (id : ℕ) → step.lower.face.next ≤ id → Each (IsNoFinal id) (printed_for b ms)
    new_finals id le =
        by_test (step.upper.gateway == j)
        (λ same_.
        let here : step.upper.gateway ≡ j = eqb-true step.upper.gateway j same_ in
        let joint = agree.joints a b step.lower step.upper above.joined above.lower_is above.upper_is above.up in
        let found = rows_before cmp matching total s fine j node at_j c real ms w prints b step.upper above.upper_is here in
        let within = rise_within (max (top_of step.upper.face.held) (top_of step.upper.face.asks)) (waiting_of s a) step.lower.face.next joint.ids_rise in
        subst (Each (IsNoFinal id)) (sym (printed_here cmp matching total s fine j node at_j c real ms w prints b step.upper above.upper_is here))
        (finals_none step.upper.face.number id step.upper.face found (open_ b a step.upper above.upper_is back here) (asks_free step.lower.face.next id step.upper.face.asks (omega arith) le)
        (λ mode options x is. cases mode options x is here (speaks b a step.upper above.upper_is back))))
        (λ apart. subst (Each (IsNoFinal id)) (sym (printed_elsewhere cmp matching total s fine j node at_j c real ms w prints b step.upper above.upper_is (λ is. never (eq-eqb step.upper.gateway j is) apart))) tt)
      where
        cases : (mode : InterestMode) (options : InterestOptions) (x : Option K) → c ≡ Interest step.upper.face.number id mode options x → step.upper.gateway ≡ j → IsUnspoken cmp matching total s fine j node at_j c real ms w prints a step.upper ⊎ IsSpoken cmp matching total s fine j node at_j c real ms w prints a step.upper → ⊥
        cases mode options x is here (inl un) = un.unnamed here step.upper.face.number (ap call_face is) refl
        cases mode options x is here (inr sp) =
            let joint = agree.joints a b step.lower step.upper above.joined above.lower_is above.upper_is above.up in
            let below = (subst (Each (IsBelow step.lower.face.next)) sp.oldest (rise_below (max (top_of step.upper.face.held) (top_of step.upper.face.asks)) (waiting_of s a) step.lower.face.next joint.ids_rise)).0 in
            let less : id < step.lower.face.next = asks_below step.upper.face.number id step.lower.face.next sp.message mode options x below (sp.says ∙ ap Some is) in
            omega arith

    pub step_then : (y : FaceAt K) → face_numbered t k ≡ Some y → is_north y.face.region ≡ false → IsStepUp t k a b
    step_then y y_is down =
        let place = same_place cmp matching total s fine j node at_j c real ms w prints k step.own y above.own_is y_is in
        let low = step.lower.face.next in
        record {
          own = y;
          lower = lower_then.face;
          upper = upper_then.face;
          above = record { own_is = y_is; lower_is = lower_then.is; upper_is = upper_then.is; down = down; up = ap is_north lower_then.region ∙ above.up; joined = above.joined; beside = lower_then.gateway ∙ above.beside ∙ sym place.0 };
          finals =
              each_weaker (FinalIsBelow low) (FinalIsBelow lower_then.face.face.next) (final_later low lower_then.face.face.next lower_rises) (waiting_of t b)
              (subst (Each (FinalIsBelow low)) (sym waits_b)
              (each_append (FinalIsBelow low) (queue w b) (printed_for b ms) (still_waits cmp matching total s fine j node at_j c real ms w prints (FinalIsBelow low) b step.lower (speaks a b step.lower above.lower_is above.joined) step.finals) (below_by low (printed_for b ms) new_finals)));
        }

    pub upper_down : is_north step.upper.face.region ≡ false
    upper_down =
        let ends = agree.links.meet a b above.joined in
        let one : ends.one ≡ step.lower = the_same (sym ends.one_is ∙ above.lower_is) in
        let two : ends.two ≡ step.upper = the_same (sym ends.two_is ∙ above.upper_is) in
        ap (λ (z : FaceAt K). is_north z.face.region) (sym two) ∙ ends.one_leads_up ∙ ap (λ (z : FaceAt K). not (is_north z.face.region)) one ∙ ap not above.up

  -- ---- the whole way

  pub leads_then : (way : List (ℕ × ℕ)) (k top : ℕ) (y : FaceAt K) → LeadsUpTo s k way top → face_numbered t k ≡ Some y → is_north y.face.region ≡ false → LeadsUpTo t k way top
  leads_then [] k top y up y_is down = (y, y_is, (same_place cmp matching total s fine j node at_j c real ms w prints k up.0 y up.1 y_is).0 ∙ up.2)
  leads_then (step ∷ way) k top y up y_is down =
      let u = upper_then k step.0 step.1 up.0 in
      (step_then k step.0 step.1 up.0 y y_is down, leads_then way step.1 top u.face up.1 u.is (ap is_north u.region ∙ upper_down k step.0 step.1 up.0))
