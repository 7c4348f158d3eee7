-- Lines that make the gateway, open a face of it, or name a gateway that isn't there.
use Rattle.std.proofs.Common.{◌≡◌, ℕ, ◌+◌, ◌≤◌, Bool, true, false, not, if◌then◌else◌, ◌==◌, List, [], ◌∷◌, ◌++◌, length, map, Option, Some, None, Ok, Err, is_none, nat_le, refl, sym, ap, ◌∙◌, subst, arith, eqb-true, length-append}
use Rattle.std.specs.Cmp.{IsTotalOrder}
use Rattle.std.specs.declared.cmp.Ordering.{Ordering}
use Rattle.zt_region.specs.declared.region.Bound.{Bound}
use Rattle.zt_region.specs.declared.region.Region.{Region}
use Rattle.zt_region.specs.declared.region.WhatAmI.{WhatAmI}
use Rattle.zt_region.specs.declared.region.Zid.{Zid}
use Rattle.zt_region.specs.South.{PlainSouth}
use Rattle.zt_protocol.specs.Plain.{PlainCall, NewSession, NewTransport, PlainEntry, PlainLine, Gateway, Session, Face as FaceLine, Link, Unlink, Step, Speak, Moment, SetTreesAt}
use Rattle.zt_protocol.specs.declared.entries.Sent.{Sent}
use Rattle.zt_protocol.specs.declared.errors.Refusal.{Refusal}
use Rattle.zt_protocol.specs.declared.errors.Refusal.TheVariants as refusal
use Rattle.zt_model.specs.Fabric.{CallAt, Fabric, Node, Place, after_hearing, after_refusal, altered_by_line, at_nth, line_causes, call_at, call_of, causes_of_call, empty_fabric, entry_by, entry_of, fabric_after, new_rows, next_face, opened_at, said_at, said_by_line, sorted_by_face, with_gateway, with_place, with_rows, with_waiting}
use Rattle.zt_model.specs.Hat.{hat_of}
use Rattle.zt_model.specs.Hearing.{rows_heard}
use Rattle.zt_model.specs.Journal.{cause_of, is_making, outcome_of, rows_after}
use Rattle.zt_model.specs.Lists.{is_some_and, nth}
use Rattle.zt_model.specs.Refusals.{Causes, GREATEST_NUMBER, are_numbers_spent, call_causes, first_cause, is_north_taken, spends_ids}
use Rattle.zt_model.specs.Strategy.{is_region_of}
use Rattle.zt_model.specs.Rows.{Rows}
use Rattle.zt_model.specs.Says.{altered, altered_by, parts_of, said, said_by}
use Rattle.zt_model.specs.Transcript.{Each}
use Rattle.zt_laws.specs.Order.{FabricIsInOrder}
use Rattle.zt_laws.specs.Sound.{CallHasFirstIds, HasFirstIds, is_placed, opens_face, rows_after_call}
use Rattle.zt_laws.proofs.AllLines.{in_order_after_line}
use Rattle.zt_laws.proofs.Gateways.{after_hearing_nothing, prints_sorted}
use Rattle.zt_laws.proofs.LinesOrder.{after_prints, faces_still_placed, gateway_in_order, in_order_empty, in_order_opened, opened_faces}
use Rattle.zt_laws.proofs.Lists.{by_test, each_weaker, never}
use Rattle.zt_laws.proofs.Numbered.{each_from_last}
use Rattle.zt_laws.proofs.Places.{placed_new, placed_still}
use Rattle.zt_laws.proofs.Sorting.{printed}
use Rattle.zt_theorem_transcript.proofs.Said.{said_for_open}
use Rattle.zt_theorem_journal.specs.Alone.{ComesTo, IsAlone, made_entry, made_rows}
use Rattle.zt_theorem_journal.proofs.Numbers.{Places, at_one, called_at_one, numbers_made, printed_alone, sent_alone}
use Rattle.zt_theorem_journal.proofs.Speaking.{alone_with, cause_in, first_holds, nth_alone, outcome_by}

first_later : (cause : Bool × Refusal) (xs ys : Causes) → first_cause xs ≡ first_cause ys → first_cause (cause ∷ xs) ≡ first_cause (cause ∷ ys)
unfolding first_cause
first_later cause xs ys same = ap (λ o. if cause.0 then Some cause.1 else o) same

first_twice : (x y : Bool) (r : Refusal) → x ≡ y → first_cause ((x, r) ∷ (y, r) ∷ []) ≡ first_cause ((x, r) ∷ [])
unfolding first_cause
first_twice true y r same = refl
first_twice false true r same = cc
first_twice false false r same = refl

first_of_five : (a b c d : Bool × Refusal) (x y : Bool) (r : Refusal) → x ≡ y → first_cause (a ∷ b ∷ c ∷ d ∷ (x, r) ∷ (y, r) ∷ []) ≡ first_cause (a ∷ b ∷ c ∷ d ∷ (x, r) ∷ [])
first_of_five a b c d x y r same =
    first_later a (b ∷ c ∷ d ∷ (x, r) ∷ (y, r) ∷ []) (b ∷ c ∷ d ∷ (x, r) ∷ [])
    (first_later b (c ∷ d ∷ (x, r) ∷ (y, r) ∷ []) (c ∷ d ∷ (x, r) ∷ [])
    (first_later c (d ∷ (x, r) ∷ (y, r) ∷ []) (d ∷ (x, r) ∷ [])
    (first_later d ((x, r) ∷ (y, r) ∷ []) ((x, r) ∷ []) (first_twice x y r same))))

module _ {K : Type 0} (cmp : K → K → Ordering) (matching : K → K → Bool) (total : IsTotalOrder cmp) where
  -- the fabric with a place more
  abbrev with_one : Fabric K → Fabric K
  with_one s = with_place 1 s

  abbrev says_opening : PlainCall K → Fabric K → Node K → List (Sent K)
  says_opening c s node = map (printed (with_one s).faces 1) (said cmp matching c node.rows)

  -- ---- what a call that opens a face says and leaves

  module _ (c : PlainCall K) (g : Rows K) (s : Fabric K) (alone : IsAlone cmp matching g s) (opens : opens_face c ≡ true) (real : CallHasFirstIds c) where
    abbrev rows_then : Rows K
    rows_then = rows_after_call cmp matching c alone.node.rows

    abbrev opened_then : Fabric K
    opened_then = with_rows 1 (rows_after_call cmp matching c) (with_one s)

    next_is : next_face (nth 1 s.gateways) ≡ alone.node.rows.made + 1
    next_is = ap next_face (nth_alone cmp matching total g s alone)

    opened_left : Each (λ f. is_placed 1 f.number (with_one s).faces ≡ true) (altered cmp matching c alone.node.rows).faces × ((altered cmp matching c alone.node.rows).made ≡ alone.node.rows.made + 1)
    opened_left =
        let there = nth_alone cmp matching total g s alone in
        let gateway = gateway_in_order cmp matching s 1 alone.node there alone.ordered in
        let p : Place = record { gateway = 1; face = next_face (nth 1 s.gateways) } in
        let places = s.faces ++ p ∷ [] in
        let new_ : is_placed 1 (alone.node.rows.made + 1) places ≡ true = subst (λ k. is_placed 1 k places ≡ true) next_is (placed_new 1 p.face s.faces) in
        opened_faces cmp matching total (λ k. is_placed 1 k places ≡ true) c alone.node.rows opens new_
        (each_weaker (λ f. is_placed 1 f.number s.faces ≡ true) (λ f. is_placed 1 f.number places ≡ true) (λ f placed. placed_still 1 f.number s.faces p placed) alone.node.rows.faces gateway.placed)

    opened_heard : (ms : List (Sent K)) → ms ≡ sorted_by_face (says_opening c s alone.node) → after_hearing cmp ms (with_rows 1 (altered cmp matching c) (with_one s)) ≡ opened_then
    opened_heard ms is =
        let p : Place = record { gateway = 1; face = next_face (nth 1 s.gateways) } in
        ap (λ xs. after_hearing cmp xs (with_rows 1 (altered cmp matching c) (with_one s))) is
        ∙ after_prints cmp matching 1 alone.node c (with_one s) (sorted_by_face (says_opening c s alone.node)) (prints_sorted (with_one s).faces 1 (said cmp matching c alone.node.rows)) (nth_alone cmp matching total g s alone) opened_left.0
        (faces_still_placed cmp matching p s alone.ordered)

    opened_ordered : FabricIsInOrder cmp matching opened_then
    opened_ordered =
        let ms = sorted_by_face (says_opening c s alone.node) in
        subst (FabricIsInOrder cmp matching) (opened_heard ms refl)
        (in_order_opened cmp matching total 1 alone.node c s ms (prints_sorted (with_one s).faces 1 (said cmp matching c alone.node.rows)) (nth_alone cmp matching total g s alone) opens real alone.ordered)

    made_then : rows_then.made ≡ alone.node.rows.made + 1
    unfolding rows_heard
    made_then = opened_left.1

    length_then : length (with_one s).faces ≡ rows_then.made
    length_then =
        let p : Place = record { gateway = 1; face = next_face (nth 1 s.gateways) } in
        length-append s.faces (p ∷ []) ∙ ap (λ k. k + 1) (alone.made ∙ sym (ap (λ (h : Rows K). h.made) alone.rows)) ∙ sym made_then

    places_then : Places (with_one s).faces
    places_then =
        let last : next_face (nth 1 s.gateways) ≡ 1 + length s.faces = next_is ∙ ap (λ k. k + 1) (ap (λ (h : Rows K). h.made) alone.rows ∙ sym alone.made) ∙ omega arith in
        each_from_last (λ n p. p ≡ record { gateway = 1; face = n }) 1 s.faces (record { gateway = 1; face = next_face (nth 1 s.gateways) }) alone.places (ap (λ k. record { gateway = 1; face = k }) last)

    said_then : says_opening c s alone.node ≡ map sent_alone (said cmp matching c alone.node.rows)
    said_then =
        let there = nth_alone cmp matching total g s alone in
        let gateway = gateway_in_order cmp matching s 1 alone.node there alone.ordered in
        let changed : Node K = record alone.node { rows = rows_then } in
        let at_ : nth 1 opened_then.gateways ≡ Some changed = ap (λ gs. nth 1 (at_nth 1 (λ (n : Node K). record n { rows = rows_after_call cmp matching c n.rows }) gs)) alone.gateways in
        let after = gateway_in_order cmp matching opened_then 1 changed at_ opened_ordered in
        printed_alone (with_one s).faces (said cmp matching c alone.node.rows) places_then after.places_rise
        (subst (λ k. Each (λ m. (1 ≤ m.0) × (m.0 ≤ k)) (said cmp matching c alone.node.rows)) (sym length_then)
        (numbers_made cmp matching rows_then (said cmp matching c alone.node.rows) after.rows.lists (said_for_open cmp matching total c alone.node.rows gateway.rows.lists)))

  -- ---- lines that open a face

  -- what a line and its call have to do with each other
  record IsOpening (line : PlainLine K) (c : PlainCall K) (s : Fabric K) (node : Node K) : Type 0 where
    cause : cause_in cmp matching line s ≡ cause_of cmp matching c node.rows
    says : said_by_line cmp matching line s ≡ says_opening c s node
    does : altered_by_line cmp matching line s ≡ with_rows 1 (altered cmp matching c) (with_one s)
    stays : (r : Refusal) → after_refusal cmp matching line r s ≡ s

  opens_to : (line : PlainLine K) (c : PlainCall K) (g : Rows K) (s : Fabric K) (alone : IsAlone cmp matching g s) → opens_face c ≡ true → CallHasFirstIds c → IsOpening line c s alone.node
      → ComesTo cmp matching line s (outcome_of cmp matching c g) (rows_after cmp matching c g)
  unfolding entry_of outcome_of fabric_after rows_after
  opens_to line c g s alone opens real is =
      let caused : cause_in cmp matching line s ≡ cause_of cmp matching c g = is.cause ∙ ap (cause_of cmp matching c) alone.rows in
      let says : said_by_line cmp matching line s ≡ map sent_alone (said cmp matching c g) = is.says ∙ said_then c g s alone opens real ∙ ap (λ h. map sent_alone (said cmp matching c h)) alone.rows in
      record {
        entry_is = outcome_by cmp matching total c g (cause_in cmp matching line s) (said_by_line cmp matching line s) caused says;
        after = by_cause (cause_of cmp matching c g) refl;
      }
    where
      Left : PlainEntry K → Type 0
      Left entry = IsAlone cmp matching (rows_after cmp matching c g) (fabric_after cmp matching line entry s)

      by_cause : (o : Option Refusal) → cause_of cmp matching c g ≡ o → Left (entry_of cmp matching line s)
      by_cause None accepted =
          let ms = sorted_by_face (said_by_line cmp matching line s) in
          let entry : entry_of cmp matching line s ≡ Ok ms = ap (λ o. entry_by cmp matching o ms) (is.cause ∙ ap (cause_of cmp matching c) alone.rows ∙ accepted) in
          let heard = ap (after_hearing cmp ms) is.does ∙ opened_heard c g s alone opens real ms (ap sorted_by_face is.says) in
          let ordered = subst (FabricIsInOrder cmp matching) (sym heard) (opened_ordered c g s alone opens real) in
          subst Left (sym entry)
          (alone_with cmp matching total c g alone.node (with_one s) (after_hearing cmp ms (altered_by_line cmp matching line s)) ms heard alone.gateways alone.rows accepted (length_then c g s alone opens real) (places_then c g s alone opens real) alone.links alone.waiting ordered)
      by_cause (Some r) refused_ =
          let entry : entry_of cmp matching line s ≡ Err r = ap (λ o. entry_by cmp matching o (sorted_by_face (said_by_line cmp matching line s))) (is.cause ∙ ap (cause_of cmp matching c) alone.rows ∙ refused_) in
          let same : g ≡ rows_after cmp matching c g = sym (ap (λ o. elim o [ None ↦ rows_after_call cmp matching c g | Some refusal ↦ g ]) refused_) in
          subst Left (sym entry) (subst (IsAlone cmp matching (rows_after cmp matching c g)) (sym (is.stays r)) (subst (λ h. IsAlone cmp matching h s) same alone))

  full_is : (g : Rows K) (s : Fabric K) (alone : IsAlone cmp matching g s) → are_numbers_spent alone.node.rows ≡ nat_le GREATEST_NUMBER (length s.faces)
  full_is g s alone = ap (nat_le GREATEST_NUMBER) (ap (λ (h : Rows K). h.made) alone.rows ∙ sym alone.made)

  -- A session's line.
  pub session_opens : (first : ℕ) (g : Rows K) (s : Fabric K) → 1 ≤ first → IsAlone cmp matching g s → ComesTo cmp matching (Session 1 first) s (outcome_of cmp matching (NewSession first) g) (rows_after cmp matching (NewSession first) g)
  unfolding line_causes call_of call_causes cause_of first_cause said_by_line said_by altered_by altered_by_line parts_of
  session_opens first g s real alone =
      let there = nth_alone cmp matching total g s alone in
      let at_ = called_at_one s alone.node (NewSession first) alone.gateways in
      opens_to (Session 1 first) (NewSession first) g s alone refl real
      (record {
        cause =
            ap (λ o. first_cause ((is_none o, refusal.UnknownGateway) ∷ (nat_le GREATEST_NUMBER (length s.faces), refusal.NumbersSpent) ∷ [])) there
            ∙ ap (λ b. first_cause ((b, refusal.NumbersSpent) ∷ [])) (sym (full_is g s alone));
        says = ap (said_at cmp matching s) at_;
        does = refl;
        stays = λ r. refl;
      })

  abbrev face_causes : Bool → Option (CallAt K) → Bool → Option Refusal
  face_causes unknown at full =
      first_cause (((unknown, refusal.UnknownGateway) ∷ causes_of_call cmp matching (is_some_and at (λ a. spends_ids cmp matching a.call a.rows)) at) ++ (full, refusal.NumbersSpent) ∷ [])

  face_first : (mode : WhatAmI) (zid : Zid) (region : Region) (bound : Bound) (first : ℕ) (g : Rows K) (s : Fabric K) (alone : IsAlone cmp matching g s)
      → (let c : PlainCall K = NewTransport zid mode region bound first in face_causes false (at_one alone.node c) (nat_le GREATEST_NUMBER (length s.faces)) ≡ cause_of cmp matching c alone.node.rows)
  unfolding call_causes cause_of first_cause
  face_first mode zid region bound first g s alone =
      let c : PlainCall K = NewTransport zid mode region bound first in
      let h = alone.node.rows in
      first_of_five (not (is_region_of h.regions region), refusal.NoSuchRegion) (not ((hat_of h.mode region).fits region mode bound), refusal.RegionConflict) (is_north_taken region h, refusal.NorthTaken) (spends_ids cmp matching c h, refusal.IdsSpent) (are_numbers_spent h) (nat_le GREATEST_NUMBER (length s.faces)) refusal.NumbersSpent (full_is g s alone)

  -- A face's line.
  pub face_opens : (mode : WhatAmI) (zid : Zid) (region : Region) (bound : Bound) (first : ℕ) (g : Rows K) (s : Fabric K) → 1 ≤ first → IsAlone cmp matching g s
      → ComesTo cmp matching (FaceLine 1 mode zid region bound first) s (outcome_of cmp matching (NewTransport zid mode region bound first) g) (rows_after cmp matching (NewTransport zid mode region bound first) g)
  unfolding line_causes call_of call_causes cause_of said_by_line altered_by_line
  face_opens mode zid region bound first g s real alone =
      let c : PlainCall K = NewTransport zid mode region bound first in
      let line : PlainLine K = FaceLine 1 mode zid region bound first in
      let there = nth_alone cmp matching total g s alone in
      let at_ = called_at_one s alone.node c alone.gateways in
      opens_to line c g s alone refl real
      (record {
        cause =
            ap (λ o. face_causes (is_none o) (call_at s 1 c) (nat_le GREATEST_NUMBER (length s.faces))) there
            ∙ ap (λ at. face_causes false at (nat_le GREATEST_NUMBER (length s.faces))) at_
            ∙ face_first mode zid region bound first g s alone;
        says = ap (λ at. said_at cmp matching (opened_at cmp matching at s) at) at_;
        does = ap (λ at. opened_at cmp matching at s) at_;
        stays = λ r. refl;
      })

  -- ---- lines that are refused

  -- a refused line, that is no step, leaves all as it is
  pub refuses : (line : PlainLine K) (g : Rows K) (s : Fabric K) (r : Refusal) → IsAlone cmp matching g s → cause_in cmp matching line s ≡ Some r → after_refusal cmp matching line r s ≡ s
      → ComesTo cmp matching line s (Err r) g
  unfolding entry_of fabric_after
  refuses line g s r alone caused stays =
      let entry : entry_of cmp matching line s ≡ Err r = ap (λ o. entry_by cmp matching o (sorted_by_face (said_by_line cmp matching line s))) caused in
      record { entry_is = entry; after = subst (λ e. IsAlone cmp matching g (fabric_after cmp matching line e s)) (sym entry) (subst (IsAlone cmp matching g) (sym stays) alone) }

  no_gateway : (n : ℕ) (node : Node K) → (n == 1) ≡ false → is_none (nth n (node ∷ [])) ≡ true
  no_gateway n node other = rw other refl

  -- lines that open a face of a gateway that isn't there
  pub session_nowhere : (n first : ℕ) (s : Fabric K) → is_none (nth n s.gateways) ≡ true → cause_in cmp matching (Session n first) s ≡ Some refusal.UnknownGateway
  unfolding line_causes first_cause
  session_nowhere n first s none =
      first_holds (is_none (nth n s.gateways)) refusal.UnknownGateway ((nat_le GREATEST_NUMBER (length s.faces), refusal.NumbersSpent) ∷ []) none

  pub face_nowhere : (n : ℕ) (mode : WhatAmI) (zid : Zid) (region : Region) (bound : Bound) (first : ℕ) (s : Fabric K) → is_none (nth n s.gateways) ≡ true → cause_in cmp matching (FaceLine n mode zid region bound first) s ≡ Some refusal.UnknownGateway
  unfolding line_causes first_cause call_of
  face_nowhere n mode zid region bound first s none =
      let c : PlainCall K = NewTransport zid mode region bound first in
      ap (λ b. face_causes b (call_at s n c) (nat_le GREATEST_NUMBER (length s.faces))) none

  -- A line that opens a face comes to the outcome of its call, or names another gateway.
  pub line_makes : (line : PlainLine K) (g : Rows K) (s : Fabric K) → is_making line ≡ true → HasFirstIds line → IsAlone cmp matching g s → ComesTo cmp matching line s (made_entry cmp matching line g) (made_rows cmp matching line g)
  line_makes (Session n first) g s making real alone =
      by_test (n == 1)
      (λ own.
      let is : n ≡ 1 = eqb-true n 1 own in
      rw own (subst (λ k. ComesTo cmp matching (Session k first) s (outcome_of cmp matching (NewSession first) g) (rows_after cmp matching (NewSession first) g)) (sym is) (session_opens first g s real alone)))
      (λ other. rw other (refuses (Session n first) g s refusal.UnknownGateway alone (session_nowhere n first s (ap (λ gs. is_none (nth n gs)) alone.gateways ∙ no_gateway n alone.node other)) refl))
  line_makes (FaceLine n mode zid region bound first) g s making real alone =
      let c : PlainCall K = NewTransport zid mode region bound first in
      by_test (n == 1)
      (λ own.
      let is : n ≡ 1 = eqb-true n 1 own in
      rw own (subst (λ k. ComesTo cmp matching (FaceLine k mode zid region bound first) s (outcome_of cmp matching c g) (rows_after cmp matching c g)) (sym is) (face_opens mode zid region bound first g s real alone)))
      (λ other. rw other (refuses (FaceLine n mode zid region bound first) g s refusal.UnknownGateway alone (face_nowhere n mode zid region bound first s (ap (λ gs. is_none (nth n gs)) alone.gateways ∙ no_gateway n alone.node other)) refl))
  line_makes (Gateway mode zid regions south name timeout refused) g s making real alone = never making refl
  line_makes (Link one two first back) g s making real alone = never making refl
  line_makes (Unlink link) g s making real alone = never making refl
  line_makes (Step link back) g s making real alone = never making refl
  line_makes (Speak call) g s making real alone = never making refl
  line_makes (Moment gateway now) g s making real alone = never making refl
  line_makes (SetTreesAt gateway region table) g s making real alone = never making refl

  -- ---- the gateway's own line

  pub first_line_cause : (mode : WhatAmI) (zid : Zid) (regions : List Region) (south : PlainSouth) (name : Option (List ℕ)) (timeout : ℕ) (refused : List (Region × Region))
      → (let line : PlainLine K = Gateway mode zid regions south name timeout refused in cause_in cmp matching line empty_fabric ≡ first_cause (line_causes cmp matching false line empty_fabric))
  unfolding line_causes first_cause
  first_line_cause mode zid regions south name timeout refused = refl

  -- Where it isn't refused there is then one gateway without faces.
  pub gateway_made : (mode : WhatAmI) (zid : Zid) (regions : List Region) (south : PlainSouth) (name : Option (List ℕ)) (timeout : ℕ) (refused : List (Region × Region))
      → (let line : PlainLine K = Gateway mode zid regions south name timeout refused in first_cause (line_causes cmp matching false line empty_fabric) ≡ None
      → ComesTo cmp matching line empty_fabric (Ok []) (new_rows mode zid regions timeout refused))
  unfolding entry_of fabric_after said_by_line call_of sorted_by_face altered_by_line
  gateway_made mode zid regions south name timeout refused accepted =
      let line : PlainLine K = Gateway mode zid regions south name timeout refused in
      let node : Node K = record { rows = new_rows mode zid regions timeout refused; south = south; name = name } in
      let entry : entry_of cmp matching line empty_fabric ≡ Ok [] = ap (λ o. entry_by cmp matching o []) (first_line_cause mode zid regions south name timeout refused ∙ accepted) in
      let heard : after_hearing cmp [] (with_gateway node empty_fabric) ≡ with_gateway node empty_fabric = after_hearing_nothing cmp (with_gateway node empty_fabric) in
      let ordered = in_order_after_line cmp matching total line empty_fabric tt (in_order_empty cmp matching) in
      let ordered_ = subst (λ e. FabricIsInOrder cmp matching (fabric_after cmp matching line e empty_fabric)) entry ordered in
      let one : IsAlone cmp matching (new_rows mode zid regions timeout refused) (with_waiting [] (after_hearing cmp [] (with_gateway node empty_fabric))) = record {
        node = node;
        gateways = ap (λ (f : Fabric K). f.gateways) heard;
        rows = refl;
        made = refl;
        places = tt;
        links = refl;
        waiting = refl;
        ordered = ordered_;
      } in
      record { entry_is = entry; after = subst (λ e. IsAlone cmp matching (new_rows mode zid regions timeout refused) (fabric_after cmp matching line e empty_fabric)) (sym entry) one }
