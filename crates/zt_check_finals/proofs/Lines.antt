-- What stays of the asks and pendings of all gateways after what an accepted line itself changes.
use Rattle.std.proofs.Common.{◌≡◌, ◌⊎◌, inl, inr, ℕ, ◌+◌, Bool, true, false, ◌&&◌, ◌||◌, ◌==◌, List, [], ◌∷◌, ◌++◌, Option, None, Some, Ok, Err, refl, sym, ap, subst, ◌∙◌, ⊎_elim, eq-eqb}
use Rattle.std.proofs.lemmas.Bool.{and_from, false≢true}
use Rattle.std.specs.List.{list_any}
use Rattle.std.specs.declared.cmp.Ordering.{Ordering}
use Rattle.zt_region.specs.Tables.{RegionAnswer}
use Rattle.zt_protocol.specs.Plain.{PlainCall, PlainLine, CloseFace, Expire, NewSession, NewTransport, SetTrees, Gateway, Session, Face as FaceLine, Link as LinkLine, Unlink, Step, Speak, Moment, SetTreesAt}
use Rattle.zt_protocol.specs.declared.entries.Sent.{Sent}
use Rattle.zt_protocol.specs.declared.messages.Message.{Message}
use Rattle.zt_model.specs.Fabric.{CallAt, Fabric, Link, Node, Place, at_nth, both_ends, call_at, call_at_place, call_face, call_of, call_of_face, call_of_step, closing_call, new_rows, opening_at, table_at, with_gateway, with_place, with_session}
use Rattle.zt_model.specs.Linking.{LinkEnd, call_of_message, end_region, link_ends, sending_end, speaking_end, waiting_of, with_link, without_link}
use Rattle.zt_model.specs.Lists.{first_of, nth}
use Rattle.zt_model.specs.Parts.{opened_session}
use Rattle.zt_model.specs.Rows.{Face, Rows}
use Rattle.zt_model.specs.Shown.{rows_shown}
use Rattle.zt_model.specs.Transcript.{call_stepped, fabric_with, oldest_of, pendings_printed, printed_end, speaking_face, with_call, with_closings, with_opening, with_openings, with_stepped}
use Rattle.zt_check_keeping.proofs.Members.{Among, append_left, append_right, member_any, any_member}
use Rattle.zt_check_keeping.proofs.Nodes.{changed_at, nth_end}
use Rattle.zt_check_asks.specs.Answering.{is_that}
use Rattle.zt_check_finals.specs.Ending.{Ended, ended_at, ended_between, ended_by, ended_by_line, is_ended, touched_at, touched_by}
use Rattle.zt_check_finals.proofs.Frame.{MadeBy, OverBy, StaysOn, called_on, is_over, on_appended, on_same, on_then, on_weaker}

module _ {K : Type 0} (cmp : K → K → Ordering) (matching : K → K → Bool) (touched : Option (ℕ × ℕ × ℕ)) (ended : List Ended) where
  -- the line makes the ask, or ends its interest
  abbrev pub Made : ℕ → ℕ → ℕ → Type 0
  Made n f id = is_that touched n f id ≡ true

  -- it may end the pending of the gateway
  abbrev pub Over : ℕ → ℕ × ℕ → Type 0
  Over n p = list_any (is_over n p) ended ≡ true

  -- a gateway is one of before, whose asks and pendings stay
  abbrev pub NodeOn : List (Node K) → ℕ → Node K → Type 0
  NodeOn nodes n node = (old : Node K) × ((nth n nodes ≡ Some old) × StaysOn (Made n) (Over n) old.rows node.rows)

  abbrev pub NodesOn : List (Node K) → List (Node K) → Type 0
  NodesOn nodes later = (n : ℕ) (node : Node K) → nth n later ≡ Some node → NodeOn nodes n node

  nodes_same : (nodes : List (Node K)) → NodesOn nodes nodes
  nodes_same nodes n node at = (node, (at, on_same (Made n) (Over n) node.rows node.rows refl))

  nodes_then : (one two three : List (Node K)) → NodesOn one two → NodesOn two three → NodesOn one three
  nodes_then one two three first second n node at =
      let mid = second n node at in
      let old = first n mid.0 mid.1.0 in
      (old.0, (old.1.0, on_then (Made n) (Over n) old.0.rows mid.0.rows node.rows old.1.1 mid.1.1))

  -- the rows of one gateway change
  one_on : (k : ℕ) (change : Rows K → Rows K) (nodes : List (Node K)) → ((g : Rows K) → StaysOn (Made k) (Over k) g (change g)) → NodesOn nodes (at_nth k (λ (node : Node K). record node { rows = change node.rows }) nodes)
  one_on k change nodes stays n node at =
      let found = changed_at k n (λ (x : Node K). record x { rows = change x.rows }) nodes node at in
      (found.0, (found.1.0, ⊎_elim (λ is. own found.0 is.0 is.1) (λ is. other found.0 is) found.1.1))
    where
      own : (old : Node K) → n ≡ k → node ≡ record old { rows = change old.rows } → StaysOn (Made n) (Over n) old.rows node.rows
      own old number is =
          subst (λ i. StaysOn (Made i) (Over i) old.rows node.rows) (sym number)
          (subst (λ (g : Rows K). StaysOn (Made k) (Over k) old.rows g) (sym (ap (λ (x : Node K). x.rows) is)) (stays old.rows))

      other : (old : Node K) → node ≡ old → StaysOn (Made n) (Over n) old.rows node.rows
      other old is = on_same (Made n) (Over n) old.rows node.rows (ap (λ (x : Node K). x.rows.faces) is)

  -- ---- calls

  -- what a call makes and may end is within what the line does
  pub record Within (gateway : ℕ) (call : PlainCall K) : Type 0 where
    pub made : (n id : ℕ) → MadeBy gateway call n id → Made gateway n id
    pub over : (p : ℕ × ℕ) → OverBy gateway call p → Over gateway p

  abbrev WithinAt : Option (CallAt K) → Type 0
  WithinAt None = Unit {0}
  WithinAt (Some at) = Within at.gateway at.call

  rows_on : (gateway : ℕ) (call : PlainCall K) (pendings : List (ℕ × ℕ)) → Within gateway call → (g : Rows K) → StaysOn (Made gateway) (Over gateway) g (rows_shown cmp pendings call g)
  rows_on gateway call pendings within g =
      on_weaker (MadeBy gateway call) (Made gateway) (OverBy gateway call) (Over gateway) within.made within.over g (rows_shown cmp pendings call g) (called_on cmp gateway pendings call g)

  call_on : (s : Fabric K) (ms : List (Sent K)) (found : Option (CallAt K)) → WithinAt found → NodesOn s.gateways (with_call cmp matching ms found s).gateways
  call_on s ms None within = nodes_same s.gateways
  call_on s ms (Some at) within = one_on at.gateway (rows_shown cmp (pendings_printed s ms at) at.call) s.gateways (rows_on at.gateway at.call (pendings_printed s ms at) within)

  opening_on : (s : Fabric K) (found : Option (CallAt K)) → WithinAt found → NodesOn s.gateways (with_opening cmp matching found s).gateways
  opening_on s None within = nodes_same s.gateways
  opening_on s (Some at) within = call_on (with_place at.gateway s) [] (Some at) within

  within_call : (s : Fabric K) (n : ℕ) (call : PlainCall K) → Within n call → WithinAt (call_at s n call)
  within_call s n call within = go (nth n s.gateways)
    where
      go : (found : Option (Node K)) → WithinAt (elim found as (λ _. Option (CallAt K)) [ None ↦ None | Some node ↦ Some (record { gateway = n; rows = node.rows; call = call }) ])
      go None = tt
      go (Some node) = within

  -- ---- links

  abbrev call_by : LinkEnd K → RegionAnswer → Option (PlainCall K)
  call_by end answer = elim answer [ Ok given ↦ Some (NewTransport end.other.rows.zid end.other.rows.mode given.0 given.1 end.first) | Err e ↦ None ]

  within_opening : (s : Fabric K) (end : LinkEnd K) → WithinAt (opening_at cmp matching s end)
  within_opening s end = go (end_region end.node end.other)
    where
      go : (answer : RegionAnswer) → WithinAt (elim (call_by end answer) as (λ _. Option (CallAt K)) [ None ↦ None | Some call ↦ call_at s end.gateway call ])
      go (Err e) = tt
      go (Ok given) =
          within_call s end.gateway (NewTransport end.other.rows.zid end.other.rows.mode given.0 given.1 end.first)
          (record { made = λ n id none. absurd (false≢true none); over = λ p none. absurd (false≢true none) })

  openings_on : (ends : List (LinkEnd K)) (s : Fabric K) → NodesOn s.gateways (with_openings cmp matching ends s).gateways
  unfolding with_openings
  openings_on [] s = nodes_same s.gateways
  openings_on (end ∷ ends) s =
      let u = with_opening cmp matching (opening_at cmp matching s end) s in
      nodes_then s.gateways u.gateways (with_openings cmp matching ends u).gateways (opening_on s (opening_at cmp matching s end) (within_opening s end)) (openings_on ends u)

  -- ---- faces that close

  abbrev Includes : List Ended → Type 0
  Includes some = (e : Ended) → Among e some → Among e ended

  closes_within : (n face : ℕ) → Among {A = Ended} (n, Some face, None) ended → Within n (CloseFace face)
  closes_within n face listed = record {
    made = λ k id none. absurd (false≢true none);
    over = λ p over. member_any (is_over n p) (n, Some face, None) ended listed (first (is_over n p (n, Some face, None)) over);
  }
    where
      first : (b : Bool) → (b || false) ≡ true → b ≡ true
      first true h = refl
      first false h = h

  closing_on : (s u : Fabric K) (face : ℕ) → u.faces ≡ s.faces → ((n : ℕ) (node : Node K) → nth n u.gateways ≡ Some node → (old : Node K) × (nth n s.gateways ≡ Some old)) → Includes (ended_at (closing_call s face))
      → NodesOn u.gateways (with_call cmp matching [] (closing_call u face) u).gateways
  closing_on s u face places older includes = call_on u [] (closing_call u face) (go (nth face u.faces) refl)
    where
      at_node : (p : Place) → nth face u.faces ≡ Some p → (found : Option (Node K)) → nth p.gateway u.gateways ≡ found
          → WithinAt (elim found as (λ _. Option (CallAt K)) [ None ↦ None | Some node ↦ Some (record { gateway = p.gateway; rows = node.rows; call = CloseFace p.face }) ])
      at_node p there None is = tt
      at_node p there (Some node) is =
          let old = older p.gateway node is in
          let here : nth face s.faces ≡ Some p = ap (nth face) (sym places) ∙ there in
          closes_within p.gateway p.face
          (includes (p.gateway, Some p.face, None)
          (subst (λ (place : Option Place). Among {A = Ended} (p.gateway, Some p.face, None) (ended_at (call_at_place s (CloseFace face) place))) (sym here)
          (subst (λ (found : Option (Node K)). Among {A = Ended} (p.gateway, Some p.face, None) (ended_at (elim found as (λ _. Option (CallAt K)) [ None ↦ None | Some x ↦ Some (record { gateway = p.gateway; rows = x.rows; call = CloseFace p.face }) ]))) (sym old.1) (inl refl))))

      go : (place : Option Place) → nth face u.faces ≡ place → WithinAt (call_at_place u (CloseFace face) place)
      go None is = tt
      go (Some p) is = at_node p is (nth p.gateway u.gateways) refl

  closings_on : (s : Fabric K) (found : Option Link) → Includes (ended_between s found) → NodesOn s.gateways (with_closings cmp matching (elim found [ None ↦ [] | Some link ↦ link.one ∷ link.two ∷ [] ]) s).gateways
  unfolding with_closings
  closings_on s None includes n node at = nodes_same s.gateways n node at
  closings_on s (Some link) includes n node at =
      let u = with_call cmp matching [] (closing_call s link.one) s in
      let one : NodesOn s.gateways u.gateways = closing_on s s link.one refl (λ k x there. (x, there)) (λ e listed. includes e (append_left e (ended_at (closing_call s link.one)) (ended_at (closing_call s link.two)) listed)) in
      nodes_then s.gateways u.gateways (with_call cmp matching [] (closing_call u link.two) u).gateways one
      (closing_on s u link.two (same_places (closing_call s link.one)) (λ k x there. let old = one k x there in (old.0, old.1.0)) (λ e listed. includes e (append_right e (ended_at (closing_call s link.one)) (ended_at (closing_call s link.two)) listed)))
      n node at
    where
      same_places : (call : Option (CallAt K)) → (with_call cmp matching [] call s).faces ≡ s.faces
      same_places None = refl
      same_places (Some at) = refl

  -- ---- lines

  oldest_first : {A : Type 0} (xs : List A) → oldest_of xs ≡ first_of xs
  oldest_first [] = refl
  oldest_first (x ∷ xs) = refl

  stepped_is : (s : Fabric K) (back : Bool) (link : Option Link) → call_stepped s back link ≡ call_of_step s back link
  stepped_is s back None = refl
  stepped_is s back (Some link) =
      ap (λ (o : Option (Message K)). elim o as (λ _. Option (CallAt K)) [ None ↦ None | Some m ↦ elim (call_of_message 0 m) as (λ _. Option (CallAt K)) [ None ↦ None | Some call ↦ call_at_place s call (nth (speaking_end link back) s.faces) ] ])
      (oldest_first (waiting_of s (sending_end link back)))

  unlinked : (s : Fabric K) (n : ℕ) → (without_link n s).gateways ≡ s.gateways
  unlinked s n = go (nth n s.links) refl
    where
      go : (found : Option Link) → nth n s.links ≡ found → (without_link n s).gateways ≡ s.gateways
      go None none = rw (none, without_link) refl
      go (Some link) some = rw (some, without_link) refl

  stepped : (s : Fabric K) (n : ℕ) (back : Bool) → (with_stepped n back s).gateways ≡ s.gateways
  stepped s n back = go (nth n s.links) refl
    where
      go : (found : Option Link) → nth n s.links ≡ found → (with_stepped n back s).gateways ≡ s.gateways
      go None none = rw (none, with_stepped) refl
      go (Some link) some = rw (some, with_stepped) refl

  call_within : (found : Option (CallAt K)) → touched ≡ touched_at found → ended ≡ ended_at found → WithinAt found
  call_within None touched_is ended_is = tt
  call_within (Some at) touched_is ended_is = record {
    made = λ n id made. subst (λ t. is_that t at.gateway n id ≡ true) (sym touched_is) made;
    over = λ p over. subst (λ es. list_any (is_over at.gateway p) es ≡ true) (sym ended_is) over;
  }

  abbrev pub OnOrNew : List (Node K) → List (Node K) → Type 0
  OnOrNew nodes later = (n : ℕ) (node : Node K) → nth n later ≡ Some node → NodeOn nodes n node ⊎ (node.rows.faces ≡ [])

  gateway_on : (nodes : List (Node K)) (new : Node K) → new.rows.faces ≡ [] → OnOrNew nodes (nodes ++ new ∷ [])
  gateway_on nodes new none n node at =
      ⊎_elim (λ old. inl (nodes_same nodes n node old)) (λ is. inr (ap (λ (x : Node K). x.rows.faces) is ∙ none)) (nth_end n nodes new node at)

  called_by : (s u : Fabric K) (ms : List (Sent K)) (found : Option (CallAt K)) → u.gateways ≡ s.gateways → WithinAt found → NodesOn s.gateways (with_call cmp matching ms found u).gateways
  called_by s u ms found is within = subst (λ nodes. NodesOn nodes (with_call cmp matching ms found u).gateways) is (call_on u ms found within)

  session_on : (s : Fabric K) (gateway first : ℕ) → NodesOn s.gateways (with_session gateway first s).gateways
  session_on s gateway first = one_on gateway (opened_session first) s.gateways (λ g. on_appended (Made gateway) (Over gateway) g _ _ refl refl)

  pub line_on : (line : PlainLine K) (ms : List (Sent K)) (s : Fabric K) → touched ≡ touched_at (call_of line s) → ended ≡ ended_by_line line (call_of line s) s → OnOrNew s.gateways (fabric_with cmp matching line ms s).gateways
  unfolding fabric_with call_of
  line_on (Gateway mode zid regions south name timeout refused) ms s touched_is ended_is n node at =
      gateway_on s.gateways (record { rows = new_rows mode zid regions timeout refused; south = south; name = name }) refl n node at
  line_on (Session gateway first) ms s touched_is ended_is n node at = inl (session_on s gateway first n node at)
  line_on (FaceLine gateway mode zid region bound first) ms s touched_is ended_is n node at =
      let found = call_at s gateway (NewTransport zid mode region bound first) in
      inl (opening_on s found (call_within found touched_is ended_is) n node at)
  line_on (LinkLine one two first back) ms s touched_is ended_is n node at = inl (openings_on (link_ends s one two first back) (with_link s) n node at)
  line_on (Unlink link) ms s touched_is ended_is n node at =
      let closed = with_closings cmp matching (both_ends cmp matching s link) s in
      inl (closings_on s (nth link s.links) (λ e listed. subst (Among e) (sym ended_is) listed) n node (subst (λ nodes. nth n nodes ≡ Some node) (unlinked closed link) at))
  line_on (Step link back) ms s touched_is ended_is n node at =
      let found = call_stepped s back (nth link s.links) in
      let is : call_of_step s back (nth link s.links) ≡ found = sym (stepped_is s back (nth link s.links)) in
      inl (called_by s (with_stepped link back s) ms found (stepped s link back) (subst WithinAt is (call_within (call_of_step s back (nth link s.links)) touched_is ended_is)) n node at)
  line_on (Speak call) ms s touched_is ended_is n node at =
      let found = call_of_face s call (call_face call) in
      inl (called_by s s ms found refl (call_within found touched_is ended_is) n node at)
  line_on (Moment gateway now) ms s touched_is ended_is n node at =
      let found = call_at s gateway (Expire now) in
      inl (called_by s s ms found refl (call_within found touched_is ended_is) n node at)
  line_on (SetTreesAt gateway region table) ms s touched_is ended_is n node at =
      let found = call_at s gateway (SetTrees region (table_at s gateway table)) in
      inl (called_by s s ms found refl (call_within found touched_is ended_is) n node at)
