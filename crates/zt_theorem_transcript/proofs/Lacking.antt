-- A line that is refused for want of ids could spend them, and may lack them, as a transcript shows it.
use Rattle.std.proofs.Common.{◌≡◌, ℕ, ◌-◌, ◌≤◌, ◌<◌, Bool, true, false, not, ◌==◌, nat_lt, List, [], ◌∷◌, length, filter, Option, Some, None, Err, refl, sym, ap, ◌∙◌, subst, arith, inl, inr, ⊎_elim, lt-ltb, ltb-true}
use Rattle.std.proofs.lemmas.Bool.{or_left, or_right}
use Rattle.std.proofs.lemmas.List.Sums.{sum_by_push}
use Rattle.std.specs.Cmp.{IsTotalOrder}
use Rattle.std.specs.List.{list_any}
use Rattle.std.specs.Option.{option_to_list}
use Rattle.std.specs.declared.cmp.Ordering.{Ordering}
use Rattle.std.specs.declared.cmp.Ordering.TheVariants.{Equal}
use Rattle.zt_region.specs.declared.region.Bound.{Bound}
use Rattle.zt_region.specs.declared.region.Region.{Region}
use Rattle.zt_region.specs.declared.region.WhatAmI.{WhatAmI}
use Rattle.zt_region.specs.declared.region.Zid.{Zid}
use Rattle.zt_protocol.specs.Plain.{PlainCall, NewSession, NewTransport, Expire, SetTrees, PlainEntry, PlainLine, Gateway, Session, Face as FaceLine, Link as LinkLine, Unlink, Step, Speak, Moment, SetTreesAt}
use Rattle.zt_protocol.specs.declared.errors.Refusal.{Refusal}
use Rattle.zt_protocol.specs.declared.errors.Refusal.TheVariants as refusal
use Rattle.zt_protocol.specs.declared.messages.Message.{Message}
use Rattle.zt_model.specs.Fabric.{CallAt, Fabric, Node, at_nth, line_causes, call_at, call_face, call_of, call_of_step, causes_of_call, entries_from, entry_by, entry_of, is_full, line_causes, line_spends_ids, opening_at, opening_calls, said_by_line, sorted_by_face, table_at, with_place, with_rows, with_session}
use Rattle.zt_model.specs.Linking.{LinkEnd, link_ends, with_link}
use Rattle.zt_model.specs.Lists.{is_some_and, nth}
use Rattle.zt_model.specs.Places.{Link}
use Rattle.zt_model.specs.Promises.{turns_from}
use Rattle.zt_model.specs.Refusals.{could_spend_ids, first_cause, left_ids, spends_ids}
use Rattle.zt_model.specs.Routing.{face_opened, opened}
use Rattle.zt_model.specs.Rows.{ById, Face, Rows}
use Rattle.zt_model.specs.Shown.{rows_shown, with_new_transport}
use Rattle.zt_model.specs.Transcript.{Each, IsRefusedByCause, LacksIdsByCall, comes_to_ids, fabric_with, line_could_spend_ids, line_may_lack_ids, most_ids, openings, pendings_printed, with_call, with_opening, with_openings}
use Rattle.zt_model.specs.Visible.{keeps, visible_expressions}
use Rattle.zt_laws.specs.Shown.{as_shown}
use Rattle.zt_laws.proofs.ShownRows.{opened_is_made}
use Rattle.zt_laws.specs.Sound.{HasFirstIds}
use Rattle.zt_laws.proofs.AllLines.{starts_real, without_message_is}
use Rattle.zt_laws.proofs.Ends.{by_end}
use Rattle.zt_laws.proofs.Gateways.{after_hearing_nothing}
use Rattle.zt_laws.proofs.Lists.{any-append, any_weaker, by_test, never}
use Rattle.zt_laws.proofs.LinesOrder.{called_at, called_by_speaker, called_by_step}
use Rattle.zt_laws.proofs.MostIds.{call_may_lack}
use Rattle.zt_laws.proofs.ShownLines.{turns_have}
use Rattle.zt_theorem_soundness.specs.Lines.{EachGatewayIs}
use Rattle.zt_theorem_soundness.specs.Sound.{IsSound}
use Rattle.zt_theorem_soundness.proofs.Opening.{new_same}
use Rattle.zt_theorem_soundness.proofs.Sound.{sound_after_line}
use Rattle.zt_theorem_drawn_ids.proofs.Needs.{visible_as}
use Rattle.zt_theorem_visibility.proofs.Future.{call_at_shown, call_of_face_shown, call_of_step_shown}
use Rattle.zt_theorem_transcript.proofs.Beside.{late_none, late_numbers, line_beside, not_after, not_yet}
use Rattle.zt_theorem_transcript.proofs.Causes.{causes_shown, link_ends_shown}
use Rattle.zt_theorem_transcript.proofs.Links.{ends_could, second_of}
use Rattle.zt_theorem_transcript.proofs.Spends.{CouldAt, Goes, goes_made, goes_none}

module _ {K : Type 0} (cmp : K → K → Ordering) (matching : K → K → Bool) where
  module _ (total : IsTotalOrder cmp) (equal_is_same : (a b : K) → cmp a b ≡ Equal → a ≡ b) where
    -- The line's own call could spend the ids.
    line_could : (line : PlainLine K) (s : Fabric K) → HasFirstIds line → EachGatewayIs cmp matching (IsSound cmp matching) s → first_cause (line_causes cmp matching true line s) ≡ Some refusal.IdsSpent
        → line_spends_ids cmp matching line s ≡ true → line_could_spend_ids cmp matching line (as_shown s) ≡ true
    unfolding line_causes call_of
    line_could (Gateway mode zid regions south name timeout refused) s real sound first spent = never spent refl
    line_could (Session n ids) s real sound first spent = absurd ((line_beside cmp matching (Session n ids) s).apart first)
    line_could (FaceLine n mode zid region bound ids) s real sound first spent =
        let c : PlainCall K = NewTransport zid mode region bound ids in
        let one = not_yet _ _ _ (λ h. cc) first in
        let two = not_after (causes_of_call cmp matching true (call_at s n c)) ((is_full s.faces, refusal.NumbersSpent) ∷ []) (late_numbers (is_full s.faces) [] late_none).apart one in
        ap (CouldAt cmp matching total equal_is_same) (call_at_shown s n c)
        ∙ called_at (Goes cmp matching total equal_is_same) s n c (goes_none cmp matching total equal_is_same) (λ node at_. goes_made cmp matching total equal_is_same s sound n node c at_) two spent
    line_could (LinkLine one two ids back) s real sound first spent =
        let ends = link_ends s one two ids back in
        ap (λ (xs : List (LinkEnd K)). list_any (λ at. could_spend_ids cmp matching at.call at.rows) (openings cmp matching xs (as_shown s))) (link_ends_shown s one two ids back)
        ∙ ends_could cmp matching total equal_is_same ends s [] (starts_real cmp matching s one two ids back real.0 real.1) sound.order tt
        (ap (λ (X : Fabric K). list_any (λ at. spends_ids cmp matching at.call at.rows) (opening_calls cmp matching ends X)) (after_hearing_nothing cmp s) ∙ spent)
    line_could (Unlink link) s real sound first spent = never spent refl
    line_could (Step link back) s real sound first spent =
        let two = not_yet _ _ _ (λ h. cc) (not_yet _ _ _ (λ h. cc) first) in
        ap (CouldAt cmp matching total equal_is_same) (call_of_step_shown s back (nth link s.links))
        ∙ called_by_step (Goes cmp matching total equal_is_same) s back (nth link s.links) (goes_none cmp matching total equal_is_same) (λ n node c at_ still. goes_made cmp matching total equal_is_same s sound n node c at_) two spent
    line_could (Speak c) s real sound first spent =
        let two = not_yet _ _ _ (λ h. cc) (not_yet _ _ _ (λ h. cc) first) in
        ap (CouldAt cmp matching total equal_is_same) (call_of_face_shown s c (call_face c))
        ∙ called_by_speaker (Goes cmp matching total equal_is_same) s c (goes_none cmp matching total equal_is_same) (λ n node d at_ still. goes_made cmp matching total equal_is_same s sound n node d at_) two spent
    line_could (Moment n now) s real sound first spent =
        let one = not_yet _ _ _ (λ h. cc) first in
        ap (CouldAt cmp matching total equal_is_same) (call_at_shown s n (Expire now))
        ∙ called_at (Goes cmp matching total equal_is_same) s n (Expire now) (goes_none cmp matching total equal_is_same) (λ node at_. goes_made cmp matching total equal_is_same s sound n node (Expire now) at_) one spent
    line_could (SetTreesAt n region t) s real sound first spent =
        let c : PlainCall K = SetTrees region (table_at s n t) in
        let one = not_yet _ _ _ (λ h. cc) first in
        ap (CouldAt cmp matching total equal_is_same) (call_at_shown s n c)
        ∙ called_at (Goes cmp matching total equal_is_same) s n c (goes_none cmp matching total equal_is_same) (λ node at_. goes_made cmp matching total equal_is_same s sound n node c at_) one spent

  -- ---- then some face may lack them

  abbrev LacksAt : Node K → Bool
  LacksAt node = list_any (λ f. nat_lt (left_ids f) (most_ids cmp matching node.rows f)) node.rows.faces

  abbrev MayLack : Fabric K → Type 0
  MayLack t = list_any LacksAt t.gateways ≡ true

  lacks_there : (n : ℕ) (change : Node K → Node K) (gs : List (Node K)) (node : Node K) → nth n gs ≡ Some node → LacksAt (change node) ≡ true → list_any LacksAt (at_nth n change gs) ≡ true
  lacks_there n change [] node at_ lacks = cc
  lacks_there n change (x ∷ gs) node at_ lacks =
      by_test (n == 1)
      (λ here.
      let e : Some x ≡ Some node = rw here at at_ in
      let is : x ≡ node = cc in
      rw here (or_left (LacksAt (change x)) (list_any LacksAt gs) (ap (λ y. LacksAt (change y)) is ∙ lacks)))
      (λ here. rw here (or_right (LacksAt x) (list_any LacksAt (at_nth (n - 1) change gs)) (lacks_there (n - 1) change gs node (rw here at at_) lacks)))

  lacks_still : (n : ℕ) (change : Node K → Node K) (gs : List (Node K)) → ((x : Node K) → LacksAt x ≡ true → LacksAt (change x) ≡ true) → list_any LacksAt gs ≡ true → list_any LacksAt (at_nth n change gs) ≡ true
  lacks_still n change [] keeps_ lacks = lacks
  lacks_still n change (x ∷ gs) keeps_ lacks =
      by_test (n == 1)
      (λ here.
      rw here
      (by_test (LacksAt x)
      (λ own. or_left (LacksAt (change x)) (list_any LacksAt gs) (keeps_ x own))
      (λ own. or_right (LacksAt (change x)) (list_any LacksAt gs) (second_of (LacksAt x) (list_any LacksAt gs) own lacks))))
      (λ here.
      rw here
      (by_test (LacksAt x)
      (λ own. or_left (LacksAt x) (list_any LacksAt (at_nth (n - 1) change gs)) own)
      (λ own. or_right (LacksAt x) (list_any LacksAt (at_nth (n - 1) change gs)) (lacks_still (n - 1) change gs keeps_ (second_of (LacksAt x) (list_any LacksAt gs) own lacks)))))

  -- a new face leaves the others as many
  most_opened : (zid : Zid) (whatami : WhatAmI) (region : Region) (bound : Bound) (first : ℕ) (g : Rows K) (f : Face K) → most_ids cmp matching g f ≤ most_ids cmp matching (opened zid whatami region bound first g) f
  most_opened zid whatami region bound first g f =
      let new_ = face_opened zid whatami region bound first g in
      let h = opened zid whatami region bound first g in
      let seen : length (filter (λ e. not (keeps cmp f e)) (visible_expressions cmp h f.region)) ≡ length (filter (λ e. not (keeps cmp f e)) (visible_expressions cmp g f.region)) =
      ap (λ (es : List K). length (filter (λ e. not (keeps cmp f e)) es)) (visible_as cmp matching g h f.region (new_same new_ g refl refl refl).live) in
      let held_ = sum_by_push (λ (x : Face K). length x.held) g.faces new_ in
      let asks_ = sum_by_push (λ (x : Face K). length x.asks) g.faces new_ in
      omega (arith, seen, held_, asks_)

  opened_lacks : (zid : Zid) (whatami : WhatAmI) (region : Region) (bound : Bound) (first : ℕ) (x : Node K) → LacksAt x ≡ true → LacksAt (record x { rows = opened zid whatami region bound first x.rows }) ≡ true
  opened_lacks zid whatami region bound first x lacks =
      let g = x.rows in
      let h = opened zid whatami region bound first g in
      let new_ = face_opened zid whatami region bound first g in
      let short = λ (k : Rows K) (f : Face K). nat_lt (left_ids f) (most_ids cmp matching k f) in
      any-append (short h) g.faces (new_ ∷ [])
      ∙ or_left (list_any (short h) g.faces) (list_any (short h) (new_ ∷ []))
      (any_weaker (short g) (short h)
      (λ f less.
      let up = most_opened zid whatami region bound first g f in
      let low : left_ids f < most_ids cmp matching g f = ltb-true (left_ids f) (most_ids cmp matching g f) less in
      lt-ltb (left_ids f) (most_ids cmp matching h f) (omega (arith, up, low))) g.faces lacks)

  -- and so as a transcript shows it
  made_lacks : (zid : Zid) (whatami : WhatAmI) (region : Region) (bound : Bound) (first : ℕ) (x : Node K) → LacksAt x ≡ true → LacksAt (record x { rows = with_new_transport zid whatami region bound first x.rows }) ≡ true
  made_lacks zid whatami region bound first x lacks =
      subst (λ (after : Rows K). LacksAt (record x { rows = after }) ≡ true) (opened_is_made zid whatami region bound first x.rows) (opened_lacks zid whatami region bound first x lacks)

  -- a call that is made
  abbrev Lacks : (Option (CallAt K) → Fabric K) → Option (CallAt K) → Type 0
  Lacks made at = is_some_and at (λ at. could_spend_ids cmp matching at.call at.rows) ≡ true → MayLack (made at)

  call_lacks : (ps : List (ℕ × ℕ)) (n : ℕ) (node : Node K) (c : PlainCall K) (t : Fabric K) → nth n t.gateways ≡ Some node → could_spend_ids cmp matching c node.rows ≡ true → MayLack (with_rows n (rows_shown cmp ps c) t)
  call_lacks ps n node c t at_ can = lacks_there n (λ (x : Node K). record x { rows = rows_shown cmp ps c x.rows }) t.gateways node at_ (call_may_lack cmp matching ps c node.rows can)

  opening_lacks : (end : LinkEnd K) (t : Fabric K) → Lacks (λ at. with_opening cmp matching at t) (opening_at cmp matching t end)
  opening_lacks end t =
      by_end cmp matching (λ o. (let at : Option (CallAt K) = elim o [ None ↦ None | Some call ↦ call_at t end.gateway call ] in Lacks (λ at. with_opening cmp matching at t) at)) end (λ h. never h refl)
      (λ zid whatami region bound.
      let c : PlainCall K = NewTransport zid whatami region bound end.first in
      called_at (Lacks (λ at. with_opening cmp matching at t)) t end.gateway c (λ h. never h refl)
      (λ node at_ can. call_lacks (pendings_printed (with_place end.gateway t) [] (record { gateway = end.gateway; rows = node.rows; call = c })) end.gateway node c (with_place end.gateway t) at_ can))

  still_lacks : (end : LinkEnd K) (t : Fabric K) → MayLack t → MayLack (with_opening cmp matching (opening_at cmp matching t end) t)
  unfolding rows_shown
  still_lacks end t lacks =
      by_end cmp matching (λ o. (let at : Option (CallAt K) = elim o [ None ↦ None | Some call ↦ call_at t end.gateway call ] in MayLack (with_opening cmp matching at t))) end lacks
      (λ zid whatami region bound.
      let c : PlainCall K = NewTransport zid whatami region bound end.first in
      called_at (λ at. MayLack (with_opening cmp matching at t)) t end.gateway c lacks
      (λ node at_. lacks_still end.gateway (λ (x : Node K). record x { rows = with_new_transport zid whatami region bound end.first x.rows }) t.gateways (made_lacks zid whatami region bound end.first) lacks))

  all_still_lack : (ends : List (LinkEnd K)) (t : Fabric K) → MayLack t → MayLack (with_openings cmp matching ends t)
  unfolding with_openings
  all_still_lack [] t lacks = lacks
  all_still_lack (end ∷ ends) t lacks = all_still_lack ends (with_opening cmp matching (opening_at cmp matching t end) t) (still_lacks end t lacks)

  elsewhere : (at : Option (CallAt K)) (links : List Link) (waiting : ById (List (Message K))) (t : Fabric K) → with_opening cmp matching at (record t { links = links; waiting = waiting }) ≡ record (with_opening cmp matching at t) { links = links; waiting = waiting }
  elsewhere None links waiting t = refl
  elsewhere (Some at) links waiting t = refl

  openings_lack : (ends : List (LinkEnd K)) (links : List Link) (waiting : ById (List (Message K))) (t : Fabric K) → list_any (λ at. could_spend_ids cmp matching at.call at.rows) (openings cmp matching ends t) ≡ true
      → MayLack (with_openings cmp matching ends (record t { links = links; waiting = waiting }))
  unfolding openings with_openings
  openings_lack [] links waiting t can = never can refl
  openings_lack (end ∷ ends) links waiting t can =
      let test = λ (at : CallAt K). could_spend_ids cmp matching at.call at.rows in
      let at = opening_at cmp matching t end in
      let firsts = option_to_list at in
      let rest = openings cmp matching ends (with_opening cmp matching at t) in
      subst (λ (X : Fabric K). MayLack (with_openings cmp matching ends X)) (sym (elsewhere at links waiting t))
      (by_test (list_any test firsts)
      (λ here. all_still_lack ends (record (with_opening cmp matching at t) { links = links; waiting = waiting }) (opening_lacks end t (of_list at here)))
      (λ here. openings_lack ends links waiting (with_opening cmp matching at t) (second_of (list_any test firsts) (list_any test rest) here (sym (any-append test firsts rest) ∙ can))))
    where
      of_list : (at : Option (CallAt K)) → list_any (λ at. could_spend_ids cmp matching at.call at.rows) (option_to_list at) ≡ true → is_some_and at (λ at. could_spend_ids cmp matching at.call at.rows) ≡ true
      of_list None h = h
      of_list (Some at) h = by_test (could_spend_ids cmp matching at.call at.rows) (λ own. own) (λ own. never h (rw own refl))

  line_may_lack : (line : PlainLine K) (t : Fabric K) → line_could_spend_ids cmp matching line t ≡ true → line_may_lack_ids cmp matching line t ≡ true
  unfolding fabric_with call_of
  line_may_lack (Gateway mode zid regions south name timeout refused) t can = never can refl
  line_may_lack (Session n first) t can =
      called_at (λ at. is_some_and at (λ at. could_spend_ids cmp matching at.call at.rows) ≡ true → MayLack (with_session n first t)) t n (NewSession first) (λ h. never h refl) (λ node at_ h. never h (unfold could_spend_ids in refl)) can
  line_may_lack (FaceLine n mode zid region bound first) t can =
      let c : PlainCall K = NewTransport zid mode region bound first in
      called_at (Lacks (λ at. with_opening cmp matching at t)) t n c (λ h. never h refl)
      (λ node at_ can_. call_lacks (pendings_printed (with_place n t) [] (record { gateway = n; rows = node.rows; call = c })) n node c (with_place n t) at_ can_) can
  line_may_lack (LinkLine one two first back) t can =
      let linked = with_link t in openings_lack (link_ends t one two first back) linked.links linked.waiting t can
  line_may_lack (Unlink link) t can = never can refl
  line_may_lack (Step link back) t can =
      let taken = without_message_is cmp matching link back t in
      subst (λ (X : Fabric K). MayLack (with_call cmp matching [] (call_of_step t back (nth link t.links)) X)) (sym taken.1)
      (called_by_step (Lacks (λ at. with_call cmp matching [] at (record t { waiting = taken.0 }))) t back (nth link t.links) (λ h. never h refl)
      (λ n node c at_ still can_. call_lacks (pendings_printed (record t { waiting = taken.0 }) [] (record { gateway = n; rows = node.rows; call = c })) n node c (record t { waiting = taken.0 }) at_ can_) can)
  line_may_lack (Speak c) t can =
      called_by_speaker (Lacks (λ at. with_call cmp matching [] at t)) t c (λ h. never h refl) (λ n node d at_ still can_. call_lacks (pendings_printed t [] (record { gateway = n; rows = node.rows; call = d })) n node d t at_ can_) can
  line_may_lack (Moment n now) t can =
      called_at (Lacks (λ at. with_call cmp matching [] at t)) t n (Expire now) (λ h. never h refl) (λ node at_ can_. call_lacks (pendings_printed t [] (record { gateway = n; rows = node.rows; call = Expire now })) n node (Expire now) t at_ can_) can
  line_may_lack (SetTreesAt n region table) t can =
      let c : PlainCall K = SetTrees region (table_at t n table) in
      called_at (Lacks (λ at. with_call cmp matching [] at t)) t n c (λ h. never h refl) (λ node at_ can_. call_lacks (pendings_printed t [] (record { gateway = n; rows = node.rows; call = c })) n node c t at_ can_) can

  -- ---- refusals

  module _ (total : IsTotalOrder cmp) (equal_is_same : (a b : K) → cmp a b ≡ Equal → a ≡ b) where
    abbrev Sound : Fabric K → Type 0
    Sound s = EachGatewayIs cmp matching (IsSound cmp matching) s

    -- The machine's entry is a refusal exactly by the first cause of its line, as a transcript shows it.
    refused_by_cause : (line : PlainLine K) (s : Fabric K) → HasFirstIds line → Sound s → IsRefusedByCause cmp matching line (entry_of cmp matching line s) (as_shown s)
    unfolding entry_of first_cause
    refused_by_cause line s real sound = by_test (line_spends_ids cmp matching line s) spent enough
      where
        causes : Bool → Option Refusal
        causes b = first_cause (line_causes cmp matching b line s)

        Right : Option Refusal → Type 0
        Right o = IsRefusedByCause cmp matching line (entry_by cmp matching o (sorted_by_face (said_by_line cmp matching line s))) (as_shown s)

        shown : (b : Bool) → first_cause (line_causes cmp matching b line (as_shown s)) ≡ causes b
        shown b = ap first_cause (causes_shown cmp matching b line s)

        by_first : (o : Option Refusal) → causes false ≡ o → Right o
        by_first None is = shown false ∙ is
        by_first (Some r) is = inl (shown false ∙ is)

        enough : line_spends_ids cmp matching line s ≡ false → Right (causes (line_spends_ids cmp matching line s))
        enough h = subst (λ b. Right (causes b)) (sym h) (by_first (causes false) refl)

        spent : line_spends_ids cmp matching line s ≡ true → Right (causes (line_spends_ids cmp matching line s))
        spent h =
            subst (λ b. Right (causes b)) (sym h)
            (⊎_elim
            (λ same_. by_first (causes true) (sym same_))
            (λ ids. subst Right (sym ids.0) (inr (refl, ap comes_to_ids (shown false) ∙ ids.1, line_may_lack line (as_shown s) (line_could total equal_is_same line s real sound ids.0 h))))
            (line_beside cmp matching line s).only)

    -- Too few ids are left only for the line's own call.
    lacks_by_call : (line : PlainLine K) (s : Fabric K) → HasFirstIds line → Sound s → LacksIdsByCall cmp matching line (entry_of cmp matching line s) (as_shown s)
    unfolding entry_of first_cause
    lacks_by_call line s real sound spent = by_spent (line_spends_ids cmp matching line s) refl spent
      where
        Entry : Option Refusal → PlainEntry K
        Entry o = entry_by cmp matching o (sorted_by_face (said_by_line cmp matching line s))

        by_entry : (o : Option Refusal) → Entry o ≡ Err refusal.IdsSpent → o ≡ Some refusal.IdsSpent
        by_entry None e = cc
        by_entry (Some r) e = cc

        by_spent : (b : Bool) → line_spends_ids cmp matching line s ≡ b → Entry (first_cause (line_causes cmp matching b line s)) ≡ Err refusal.IdsSpent
            → (first_cause (line_causes cmp matching true line (as_shown s)) ≡ Some refusal.IdsSpent) × (line_could_spend_ids cmp matching line (as_shown s) ≡ true)
        by_spent true is e =
            let first = by_entry (first_cause (line_causes cmp matching true line s)) e in
            (ap first_cause (causes_shown cmp matching true line s) ∙ first, line_could total equal_is_same line s real sound first is)
        by_spent false is e = absurd ((line_beside cmp matching line s).apart (by_entry (first_cause (line_causes cmp matching false line s)) e))

    pub turns_refused_by_cause : (lines : List (PlainLine K)) (s : Fabric K) → Each HasFirstIds lines → Sound s
        → Each (λ t. IsRefusedByCause cmp matching t.line t.entry t.before) (turns_from cmp matching lines (entries_from cmp matching lines s) (as_shown s))
    turns_refused_by_cause lines s real sound =
        turns_have cmp matching total (λ t. IsRefusedByCause cmp matching t.line t.entry t.before) Sound
        (λ line x first fine holds. (refused_by_cause line x first holds, sound_after_line cmp matching total equal_is_same line x first holds)) lines s real sound.order sound

    pub turns_lack_by_call : (lines : List (PlainLine K)) (s : Fabric K) → Each HasFirstIds lines → Sound s
        → Each (λ t. LacksIdsByCall cmp matching t.line t.entry t.before) (turns_from cmp matching lines (entries_from cmp matching lines s) (as_shown s))
    turns_lack_by_call lines s real sound =
        turns_have cmp matching total (λ t. LacksIdsByCall cmp matching t.line t.entry t.before) Sound
        (λ line x first fine holds. (lacks_by_call line x first holds, sound_after_line cmp matching total equal_is_same line x first holds)) lines s real sound.order sound
