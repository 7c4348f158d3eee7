-- What accepted lines change, put together from what changes at one gateway.
use Rattle.std.proofs.Common.{◌≡◌, ℕ, ◌+◌, ◌==◌, length, append_assoc, Bool, true, false, if◌then◌else◌, List, [], ◌∷◌, ◌++◌, map, Option, None, Some, is_some, refl, sym, ap, ap₂, ◌∙◌}
use Rattle.std.specs.List.{flat_map}
use Rattle.std.specs.declared.cmp.Ordering.{Ordering}
use Rattle.zt_region.specs.Region.{is_north}
use Rattle.zt_protocol.specs.Plain.{PlainCall, plain_call, NewSession, NewTransport, DeclareToken, UndeclareToken, Interest, InterestFinal, DeclareFinal, CloseFace, Expire, SetTrees, SetEntities}
use Rattle.zt_protocol.specs.declared.calls.Call.{Call}
use Rattle.zt_protocol.specs.declared.entries.Sent.{Sent}
use Rattle.zt_protocol.specs.declared.messages.Message.{Message}
use Rattle.zt_model.specs.Fabric.{CallAt, Fabric, Link, Node, at_nth, both_ends, call_at, call_at_place, call_of_step, closing_call, opening_at, printed_for, with_place, with_rows, with_session, without_message}
use Rattle.zt_model.specs.Linking.{LinkEnd, call_of_message, end_call, link_ends, speaking_end, waiting_of, with_link, without_link}
use Rattle.zt_model.specs.Lists.{first_of, nth, rest_of, without_id}
use Rattle.zt_model.specs.Rows.{Face, Rows}
use Rattle.zt_model.specs.Shown.{rows_shown}
use Rattle.zt_model.specs.Transcript.{call_stepped, oldest_of, pendings_printed, printed_end, with_call, with_closings, with_opening, with_openings, with_stepped, without_oldest}
use Rattle.zt_check_fabric.specs.Linked.{first_call, given_at, second_call}
use Rattle.zt_check_fabric.specs.Made.{made_at, pendings_for, pendings_of}
use Rattle.zt_check_fabric.proofs.Numbered.{at_nth_none, at_nth_same}

abbrev nothing : List (ℕ × ℕ)
nothing = []

module _ {K : Type 0} where
  abbrev with_queue : Fabric K → ℕ → Fabric K
  with_queue x n = record x { waiting = x.waiting ++ (n, []) ∷ [] }

  abbrev with_joined : Fabric K → ℕ → ℕ → Fabric K
  with_joined s one two = record s { links = s.links ++ record { one = one; two = two; is_open = true } ∷ [] }

  abbrev joined : Fabric K → ℕ → ℕ → Fabric K
  joined s one two = record (with_joined s one two) { waiting = s.waiting ++ (one, []) ∷ (two, []) ∷ [] }

  with_rows_same : (n : ℕ) (one two : Rows K → Rows K) (s : Fabric K) → ((g : Rows K) → one g ≡ two g) → with_rows n one s ≡ with_rows n two s
  with_rows_same n one two s same =
      ap (λ (gs : List (Node K)). record s { gateways = gs })
      (at_nth_same n (λ (node : Node K). record node { rows = one node.rows }) (λ (node : Node K). record node { rows = two node.rows }) s.gateways
      (λ (node : Node K). ap (λ (g : Rows K). record node { rows = g }) (same node.rows)))

  with_rows_none : (n : ℕ) (change : Rows K → Rows K) (s : Fabric K) → nth n s.gateways ≡ None → with_rows n change s ≡ s
  with_rows_none n change s none =
      ap (λ (gs : List (Node K)). record s { gateways = gs }) (at_nth_none n (λ (node : Node K). record node { rows = change node.rows }) s.gateways none)

  call_none : (s : Fabric K) (n : ℕ) (call : PlainCall K) → nth n s.gateways ≡ None → call_at s n call ≡ None
  call_none s n call none = rw (none, call_at) refl

  call_some : (s : Fabric K) (n : ℕ) (call : PlainCall K) (node : Node K) → nth n s.gateways ≡ Some node → call_at s n call ≡ Some (record { gateway = n; rows = node.rows; call = call })
  call_some s n call node some = rw (some, call_at) refl

  -- ---- a link

  pub link_added : (s u v t : Fabric K) (one two : ℕ) → one ≡ length s.faces + 1 → two ≡ one + 1
      → u ≡ record s { links = s.links ++ record { one = one; two = two; is_open = true } ∷ [] }
      → v ≡ record u { waiting = u.waiting ++ (one, []) ∷ [] } → t ≡ record v { waiting = v.waiting ++ (two, []) ∷ [] } → t ≡ with_link s
  link_added s u v t one two one_is two_is linked first second =
      second ∙ ap (λ (x : Fabric K). with_queue x two) first ∙ ap (λ (x : Fabric K). with_queue (with_queue x one) two) linked
      ∙ ap (λ (ws : List (ℕ × List (Message K))). record (with_joined s one two) { waiting = ws }) (append_assoc s.waiting ((one, []) ∷ []) ((two, []) ∷ []))
      ∙ ap (λ k. joined s k two) one_is ∙ ap (λ k. joined s (length s.faces + 1) k) (two_is ∙ ap (λ k. k + 1) one_is)

  -- ---- pendings

  no_pendings : (s : Fabric K) (gateway : ℕ) (fs : List (Face K)) → flat_map (pendings_for s [] gateway) fs ≡ []
  unfolding printed_for
  no_pendings s gateway [] = refl
  no_pendings s gateway (f ∷ fs) = ap₂ (λ (ys : List (ℕ × ℕ)) (rest : List (ℕ × ℕ)). ys ++ rest) (go (is_north f.region)) (no_pendings s gateway fs)
    where
      go : (b : Bool) → (if b then nothing else nothing) ≡ nothing
      go true = refl
      go false = refl

  none_printed : (s : Fabric K) (at : CallAt K) → pendings_printed s [] at ≡ []
  none_printed s at = no_pendings s at.gateway at.rows.faces

module _ {K : Type 0} (cmp : K → K → Ordering) (matching : K → K → Bool) where
  -- a call's pendings count only where it asks
  asked_alike : (s : Fabric K) (ms : List (Sent K)) (n : ℕ) (rows g : Rows K) (call : PlainCall K)
      → rows_shown cmp (pendings_of s ms n rows call) call g ≡ rows_shown cmp (pendings_printed s ms (record { gateway = n; rows = rows; call = call })) call g
  unfolding rows_shown
  asked_alike s ms n rows g (NewSession first) = refl
  asked_alike s ms n rows g (NewTransport zid whatami region bound first) = refl
  asked_alike s ms n rows g (DeclareToken face id e node interest) = refl
  asked_alike s ms n rows g (UndeclareToken face id e node) = refl
  asked_alike s ms n rows g (Interest face id mode options e) = refl
  asked_alike s ms n rows g (InterestFinal face id) = refl
  asked_alike s ms n rows g (DeclareFinal face id) = refl
  asked_alike s ms n rows g (CloseFace face) = refl
  asked_alike s ms n rows g (Expire now) = refl
  asked_alike s ms n rows g (SetTrees region table) = refl
  asked_alike s ms n rows g (SetEntities face subscribers queryables) = refl

  -- ---- one call

  pub not_carried : (s : Fabric K) (ms : List (Sent K)) (n : ℕ) (call : PlainCall K) → nth n s.gateways ≡ None → s ≡ with_call cmp matching ms (call_at s n call) s
  not_carried s ms n call none = sym (ap (λ at. with_call cmp matching ms at s) (call_none s n call none))

  pub carried : (s : Fabric K) (ms : List (Sent K)) (n : ℕ) (call : PlainCall K) (node : Node K) (pendings : List (ℕ × ℕ)) (t : Fabric K) → nth n s.gateways ≡ Some node
      → pendings ≡ pendings_of s ms n node.rows call → t ≡ with_rows n (rows_shown cmp pendings call) s → t ≡ with_call cmp matching ms (call_at s n call) s
  carried s ms n call node pendings t some are done =
      let at : CallAt K = record { gateway = n; rows = node.rows; call = call } in
      done ∙ ap (λ ps. with_rows n (rows_shown cmp ps call) s) are
      ∙ with_rows_same n (rows_shown cmp (pendings_of s ms n node.rows call) call) (rows_shown cmp (pendings_printed s ms at) call) s (λ g. asked_alike s ms n node.rows g call)
      ∙ sym (ap (λ at. with_call cmp matching ms at s) (call_some s n call node some))

  -- a call of which nothing is printed
  by_rows : (s : Fabric K) (at : CallAt K) → with_rows at.gateway (rows_shown cmp [] at.call) s ≡ with_call cmp matching [] (Some at) s
  by_rows s at = sym (ap (λ ps. with_rows at.gateway (rows_shown cmp ps at.call) s) (none_printed s at))

  pub called : (s : Fabric K) (n : ℕ) (call : PlainCall K) (t : Fabric K) → t ≡ with_rows n (rows_shown cmp [] call) s → t ≡ with_call cmp matching [] (call_at s n call) s
  called s n call t done = go (nth n s.gateways) refl
    where
      go : (found : Option (Node K)) → nth n s.gateways ≡ found → t ≡ with_call cmp matching [] (call_at s n call) s
      go None none = done ∙ with_rows_none n (rows_shown cmp [] call) s none ∙ not_carried s [] n call none
      go (Some node) some =
          done ∙ by_rows s (record { gateway = n; rows = node.rows; call = call }) ∙ sym (ap (λ at. with_call cmp matching [] at s) (call_some s n call node some))

  -- ---- faces that open

  pub not_opened : (s : Fabric K) (n : ℕ) (call : PlainCall K) → nth n s.gateways ≡ None → s ≡ with_opening cmp matching (call_at s n call) s
  not_opened s n call none = sym (ap (λ at. with_opening cmp matching at s) (call_none s n call none))

  pub opened : (s : Fabric K) (n : ℕ) (call : PlainCall K) (node : Node K) (t : Fabric K) → nth n s.gateways ≡ Some node
      → t ≡ with_rows n (rows_shown cmp [] call) (with_place n s) → t ≡ with_opening cmp matching (call_at s n call) s
  opened s n call node t some done =
      done ∙ by_rows (with_place n s) (record { gateway = n; rows = node.rows; call = call }) ∙ sym (ap (λ at. with_opening cmp matching at s) (call_some s n call node some))

  pub opened_there : (s : Fabric K) (n : ℕ) (call : PlainCall K) (t : Fabric K) → is_some (nth n s.gateways) ≡ true
      → t ≡ with_rows n (rows_shown cmp [] call) (with_place n s) → t ≡ with_opening cmp matching (call_at s n call) s
  opened_there s n call t there done = go (nth n s.gateways) refl
    where
      go : (found : Option (Node K)) → nth n s.gateways ≡ found → t ≡ with_opening cmp matching (call_at s n call) s
      go None none = let e : false ≡ true = ap is_some (sym none) ∙ there in cc
      go (Some node) some = opened s n call node t some done

  pub opened_nowhere : (s : Fabric K) (n : ℕ) (call : PlainCall K) → is_some (nth n s.gateways) ≡ false → s ≡ with_opening cmp matching (call_at s n call) s
  opened_nowhere s n call nowhere = go (nth n s.gateways) refl
    where
      go : (found : Option (Node K)) → nth n s.gateways ≡ found → s ≡ with_opening cmp matching (call_at s n call) s
      go None none = not_opened s n call none
      go (Some node) some = let e : true ≡ false = ap is_some (sym some) ∙ nowhere in cc

  pub session_opened : (s : Fabric K) (n first : ℕ) → with_rows n (rows_shown cmp [] (NewSession first)) (with_place n s) ≡ with_session n first s
  unfolding rows_shown
  session_opened s n first = refl

  -- ---- links

  pub given_is : (s : Fabric K) (end : LinkEnd K) → given_at s end.gateway (end_call end) ≡ opening_at cmp matching s end
  given_is s end = go (end_call end)
    where
      go : (call : Option (PlainCall K)) → given_at s end.gateway call ≡ (elim call [ None ↦ None | Some c ↦ call_at s end.gateway c ])
      go None = refl
      go (Some c) = refl

  abbrev opened_both : ℕ → ℕ → Option (PlainCall K) → Option (PlainCall K) → Fabric K → Fabric K
  opened_both one two forth back s =
      let u = with_opening cmp matching (given_at s one forth) s in
      with_opening cmp matching (given_at u two back) u

  abbrev ends_between : ℕ → ℕ → ℕ → ℕ → Option (Node K) → Option (Node K) → List (LinkEnd K)
  ends_between one two first back o p =
      elim o [
        | None ↦ []
        | Some a ↦
            elim p [
              | None ↦ []
              | Some b ↦ record { gateway = one; node = a; beyond = two; other = b; first = first } ∷ record { gateway = two; node = b; beyond = one; other = a; first = back } ∷ []
            ]
      ]

  pub ends_opened : (s u : Fabric K) (one two first back : ℕ)
      → opened_both one two (first_call (link_ends s one two first back)) (second_call (link_ends s one two first back)) u ≡ with_openings cmp matching (link_ends s one two first back) u
  unfolding with_openings
  ends_opened s u one two first back = go (nth one s.gateways) (nth two s.gateways)
    where
      go : (o p : Option (Node K)) → opened_both one two (first_call (ends_between one two first back o p)) (second_call (ends_between one two first back o p)) u ≡ with_openings cmp matching (ends_between one two first back o p) u
      go None p = refl
      go (Some a) None = refl
      go (Some a) (Some b) =
          let own : LinkEnd K = record { gateway = one; node = a; beyond = two; other = b; first = first } in
          let other : LinkEnd K = record { gateway = two; node = b; beyond = one; other = a; first = back } in
          let v = λ (at : Option (CallAt K)). with_opening cmp matching at u in
          ap (λ at. with_opening cmp matching (given_at (v at) two (end_call other)) (v at)) (given_is u own)
          ∙ ap (λ at. with_opening cmp matching at (v (opening_at cmp matching u own))) (given_is (v (opening_at cmp matching u own)) other)

  pub link_opened : (s u v t : Fabric K) (one two first back : ℕ) (forth other : Option (PlainCall K))
      → forth ≡ first_call (link_ends s one two first back) → other ≡ second_call (link_ends s one two first back)
      → u ≡ with_link s → v ≡ with_opening cmp matching (given_at u one forth) u → t ≡ with_opening cmp matching (given_at v two other) v
      → t ≡ with_openings cmp matching (link_ends s one two first back) (with_link s)
  link_opened s u v t one two first back forth other forth_is other_is linked first_opened done =
      done ∙ ap (λ (x : Fabric K). with_opening cmp matching (given_at x two other) x) first_opened
      ∙ ap (opened_both one two forth other) linked
      ∙ ap (λ c. opened_both one two c other (with_link s)) forth_is
      ∙ ap (λ c. opened_both one two (first_call (link_ends s one two first back)) c (with_link s)) other_is
      ∙ ends_opened s (with_link s) one two first back

  -- calls change no link, and nothing that waits
  links_stay : (s : Fabric K) (at : Option (CallAt K)) → (with_call cmp matching [] at s).links ≡ s.links
  links_stay s None = refl
  links_stay s (Some at) = refl

  pub link_closed : (s u v : Fabric K) (n : ℕ) (link : Link) → nth n s.links ≡ Some link
      → u ≡ with_call cmp matching [] (closing_call s link.one) s → v ≡ with_call cmp matching [] (closing_call u link.two) u
      → record v { links = at_nth n (λ l. record l { is_open = false }) v.links; waiting = without_id link.one (without_id link.two v.waiting) } ≡ without_link n (with_closings cmp matching (both_ends cmp matching s n) s)
  unfolding with_closings
  link_closed s u v n link is first then_ =
      let links : v.links ≡ s.links = ap (λ (x : Fabric K). x.links) then_ ∙ links_stay u (closing_call u link.two) ∙ ap (λ (x : Fabric K). x.links) first ∙ links_stay s (closing_call s link.one) in
      let there : nth n v.links ≡ Some link = ap (nth n) links ∙ is in
      let ends : both_ends cmp matching s n ≡ link.one ∷ link.two ∷ [] = rw (is, both_ends) refl in
      let closed : v ≡ with_closings cmp matching (link.one ∷ link.two ∷ []) s = then_ ∙ ap (λ x. with_call cmp matching [] (closing_call x link.two) x) first in
      let dropped : record v { links = at_nth n (λ l. record l { is_open = false }) v.links; waiting = without_id link.one (without_id link.two v.waiting) } ≡ without_link n v = rw (there, without_link) refl in
      dropped ∙ ap (without_link n) (closed ∙ ap (λ faces. with_closings cmp matching faces s) (sym ends))

  pub link_dropped : (s u v t : Fabric K) (n : ℕ) (link : Link) (one two : ℕ) → nth n s.links ≡ Some link → one ≡ link.one → two ≡ link.two
      → u ≡ with_call cmp matching [] (closing_call s one) s → v ≡ with_call cmp matching [] (closing_call u two) u
      → t ≡ record v { links = at_nth n (λ l. record l { is_open = false }) v.links; waiting = without_id one (without_id two v.waiting) }
      → t ≡ without_link n (with_closings cmp matching (both_ends cmp matching s n) s)
  link_dropped s u v t n link one two is one_is two_is first then_ done =
      done
      ∙ ap (λ k. record v { links = at_nth n (λ l. record l { is_open = false }) v.links; waiting = without_id k (without_id two v.waiting) }) one_is
      ∙ ap (λ k. record v { links = at_nth n (λ l. record l { is_open = false }) v.links; waiting = without_id link.one (without_id k v.waiting) }) two_is
      ∙ link_closed s u v n link is (first ∙ ap (λ k. with_call cmp matching [] (closing_call s k) s) one_is) (then_ ∙ ap (λ k. with_call cmp matching [] (closing_call u k) u) two_is)

  pub no_link_closed : (s : Fabric K) (n : ℕ) → nth n s.links ≡ None → s ≡ without_link n (with_closings cmp matching (both_ends cmp matching s n) s)
  unfolding with_closings
  no_link_closed s n none =
      let ends : both_ends cmp matching s n ≡ [] = rw (none, both_ends) refl in
      let stays : s ≡ without_link n s = rw (none, without_link) refl in
      stays ∙ ap (λ faces. without_link n (with_closings cmp matching faces s)) (sym ends)

  -- ---- steps

  first_alike : (ms : List (Message K)) → first_of ms ≡ oldest_of ms
  first_alike [] = refl
  first_alike (m ∷ ms) = refl

  abbrev spoken : Fabric K → Link → Bool → Option (Message K) → Option (CallAt K)
  spoken s link back m = elim m [ None ↦ None | Some x ↦ elim (call_of_message 0 x) [ None ↦ None | Some call ↦ call_at_place s call (nth (speaking_end link back) s.faces) ] ]

  step_call : (s : Fabric K) (back : Bool) (link : Option Link) → call_of_step s back link ≡ call_stepped s back link
  step_call s back None = refl
  step_call s back (Some link) = ap (spoken s link back) (first_alike (waiting_of s (printed_end link back)))

  taken_alike : (s : Fabric K) (n : ℕ) (back : Bool) → without_message n back s ≡ with_stepped n back s
  taken_alike s n back = go (nth n s.links) refl
    where
      rest_alike : (ms : List (Message K)) → rest_of ms ≡ without_oldest ms
      rest_alike [] = refl
      rest_alike (m ∷ ms) = refl

      rows_alike : (face : ℕ) (rows : List (ℕ × List (Message K))) → map (λ row. if face == row.0 then (row.0, rest_of row.1) else row) rows ≡ map (λ row. if face == row.0 then (row.0, without_oldest row.1) else row) rows
      rows_alike face [] = refl
      rows_alike face (row ∷ rows) =
          ap₂ (λ (x : ℕ × List (Message K)) (rest : List (ℕ × List (Message K))). x ∷ rest)
          (ap (λ (ms : List (Message K)). if face == row.0 then (row.0, ms) else row) (rest_alike row.1)) (rows_alike face rows)

      go : (found : Option Link) → nth n s.links ≡ found → without_message n back s ≡ with_stepped n back s
      go None none = rw (none, without_message, with_stepped) refl
      go (Some link) some = rw (some, without_message, with_stepped) (ap (λ (ws : List (ℕ × List (Message K))). record s { waiting = ws }) (rows_alike (printed_end link back) s.waiting))

  -- the gateways stay where a message is taken
  gateways_stay : (s : Fabric K) (n : ℕ) (back : Bool) → (with_stepped n back s).gateways ≡ s.gateways
  gateways_stay s n back = go (nth n s.links) refl
    where
      go : (found : Option Link) → nth n s.links ≡ found → (with_stepped n back s).gateways ≡ s.gateways
      go None none = rw (none, with_stepped) refl
      go (Some link) some = rw (some, with_stepped) refl

  made_stays : (s u : Fabric K) (made : Option (ℕ × Call K)) → u.gateways ≡ s.gateways → made_at u made ≡ made_at s made
  made_stays s u None same = refl
  made_stays s u (Some m) same =
      ap (λ (gs : List (Node K)). elim (nth m.0 gs) [ None ↦ None | Some node ↦ Some (record { gateway = m.0; rows = node.rows; call = plain_call m.1 }) ]) same

  pub stepped : (s u t : Fabric K) (ms : List (Sent K)) (n : ℕ) (back : Bool) (made : Option (ℕ × Call K)) → made_at s made ≡ call_of_step s back (nth n s.links)
      → u ≡ without_message n back s → t ≡ with_call cmp matching ms (made_at u made) u
      → t ≡ with_call cmp matching ms (call_stepped s back (nth n s.links)) (with_stepped n back s)
  stepped s u t ms n back made is taken done =
      let same : u ≡ with_stepped n back s = taken ∙ taken_alike s n back in
      let stays : made_at u made ≡ made_at s made = made_stays s u made (ap (λ (x : Fabric K). x.gateways) same ∙ gateways_stay s n back) in
      done ∙ ap (λ at. with_call cmp matching ms at u) (stays ∙ is ∙ step_call s back (nth n s.links))
      ∙ ap (λ (x : Fabric K). with_call cmp matching ms (call_stepped s back (nth n s.links)) x) same
