-- What stays of all gateways after what an accepted line itself changes.
use Rattle.std.proofs.Common.{◌≡◌, ◌⊎◌, inl, inr, ℕ, ◌+◌, Bool, true, false, List, [], ◌∷◌, ◌++◌, Option, None, Some, refl, sym, ap, subst, ◌∙◌, ⊎_elim, arith, eq-eqb}
use Rattle.std.specs.declared.cmp.Ordering.{Ordering}
use Rattle.zt_protocol.specs.Plain.{PlainCall, PlainLine, CloseFace, Expire, NewSession, NewTransport, SetTrees, Gateway, Session, Face as FaceLine, Link as LinkLine, Unlink, Step, Speak, Moment, SetTreesAt}
use Rattle.zt_protocol.specs.declared.entries.Sent.{Sent}
use Rattle.zt_protocol.specs.declared.messages.Message.{Message}
use Rattle.zt_model.specs.Fabric.{CallAt, Fabric, Link, Node, Place, both_ends, call_at, call_at_place, call_face, call_of, call_of_face, call_of_step, closing_call, new_rows, opening_at, table_at, with_call_face, with_gateway, with_place, with_session}
use Rattle.zt_model.specs.Linking.{LinkEnd, call_of_message, link_ends, sending_end, speaking_end, waiting_of, with_link, without_link}
use Rattle.zt_model.specs.Lists.{first_of, nth, same}
use Rattle.zt_model.specs.Rows.{Face, Rows}
use Rattle.zt_model.specs.Shown.{rows_shown}
use Rattle.zt_model.specs.Transcript.{call_stepped, fabric_with, oldest_of, printed_end, speaking_face, with_call, with_closings, with_opening, with_openings, with_stepped}
use Rattle.zt_check_keeping.specs.Changed.{declared, held_at, is_sought, next_one, next_two, opened_at, opened_by, tokens_at, tokens_between, tokens_by, unheld_at}
use Rattle.zt_check_keeping.proofs.Members.{Among, append_left, append_right}
use Rattle.zt_check_keeping.proofs.Nodes.{Closes, IsOwn, Lists, NodeGoes, NodesGo, On, Same, Within, all_stay, call_goes, closing_goes, end_goes, end_made, nodes_then, nodes_weaker, nth_end, own_at, same_stay, still_closes}
use Rattle.zt_check_fabric.proofs.Numbered.{at_nth_none}
use Rattle.zt_check_keeping.proofs.Standing.{Has}
use Rattle.zt_check_keeping.proofs.Touched.{declared_in}

module _ {K : Type 0} (cmp : K → K → Ordering) (matching : K → K → Bool) (exact : (a b : K) → same cmp a b ≡ true → a ≡ b) (lists : Lists K) where
  abbrev Go : List (Node K) → List (Node K) → Type 0
  Go nodes later = NodesGo cmp matching exact lists (On cmp matching exact lists) nodes later

  abbrev GoSame : List (Node K) → List (Node K) → Type 0
  GoSame nodes later = NodesGo cmp matching exact lists (Same cmp matching exact lists) nodes later

  abbrev Own : List (Node K) → Option (CallAt K) → Type 0
  Own nodes found = IsOwn cmp matching exact lists nodes found

  -- ---- the call of a line is at its gateway's rows

  own_place : (nodes : List (Node K)) (s : Fabric K) → s.gateways ≡ nodes → (call : PlainCall K) (place : Option Place) → Own nodes (call_at_place s call place)
  own_place nodes s is call None = tt
  own_place nodes s is call (Some p) = own_at cmp matching exact lists nodes s is p.gateway (with_call_face p.face call)

  own_face : (s : Fabric K) (call : PlainCall K) (face : Option ℕ) → Own s.gateways (call_of_face s call face)
  own_face s call None = tt
  own_face s call (Some face) = own_place s.gateways s refl call (nth face s.faces)

  own_step : (s : Fabric K) (back : Bool) (link : Option Link) → Own s.gateways (call_stepped s back link)
  own_step s back None = tt
  own_step s back (Some link) = by_message (oldest_of (waiting_of s (printed_end link back)))
    where
      by_call : (call : Option (PlainCall K)) → Own s.gateways (elim call [ None ↦ None | Some c ↦ call_at_place s c (nth (speaking_face link back) s.faces) ])
      by_call None = tt
      by_call (Some c) = own_place s.gateways s refl c (nth (speaking_face link back) s.faces)

      by_message : (m : Option (Message K)) → Own s.gateways (elim m [ None ↦ None | Some x ↦ elim (call_of_message 0 x) [ None ↦ None | Some call ↦ call_at_place s call (nth (speaking_face link back) s.faces) ] ])
      by_message None = tt
      by_message (Some x) = by_call (call_of_message 0 x)

  oldest_first : {A : Type 0} (xs : List A) → oldest_of xs ≡ first_of xs
  oldest_first [] = refl
  oldest_first (x ∷ xs) = refl

  stepped_is : (s : Fabric K) (back : Bool) (link : Option Link) → call_stepped s back link ≡ call_of_step s back link
  stepped_is s back None = refl
  stepped_is s back (Some link) =
      ap (λ (o : Option (Message K)). elim o as (λ _. Option (CallAt K)) [ None ↦ None | Some m ↦ elim (call_of_message 0 m) as (λ _. Option (CallAt K)) [ None ↦ None | Some call ↦ call_at_place s call (nth (speaking_end link back) s.faces) ] ])
      (oldest_first (waiting_of s (sending_end link back)))

  -- ---- links

  abbrev ends_between : ℕ → ℕ → ℕ → ℕ → Option (Node K) → Option (Node K) → List (LinkEnd K)
  ends_between one two first back o p =
      elim o [
        | None ↦ []
        | Some a ↦
            elim p [
              | None ↦ []
              | Some b ↦ record { gateway = one; node = a; beyond = two; other = b; first = first } ∷ record { gateway = two; node = b; beyond = one; other = a; first = back } ∷ []
            ]
      ]

  abbrev Opens : List (ℕ × ℕ) → Type 0
  Opens faces = (x : ℕ × ℕ) → Among x faces → Among x lists.opened

  same_node : (x y : Node K) → Some x ≡ Some y → x ≡ y
  same_node x y e = cc

  openings_go : (s u : Fabric K) (one two first back : ℕ) → u.gateways ≡ s.gateways → Opens (next_one one (nth one s.gateways) ++ next_two two (nth two s.gateways))
      → GoSame s.gateways (with_openings cmp matching (link_ends s one two first back) u).gateways
  unfolding with_openings
  openings_go s u one two first back is opens = subst (λ nodes. GoSame nodes (with_openings cmp matching (link_ends s one two first back) u).gateways) is (go (nth one s.gateways) (nth two s.gateways) refl refl)
    where
      go : (o p : Option (Node K)) → nth one s.gateways ≡ o → nth two s.gateways ≡ p → GoSame u.gateways (with_openings cmp matching (ends_between one two first back o p) u).gateways
      go None p o_is p_is n node at = same_stay cmp matching exact lists u.gateways n node at
      go (Some a) None o_is p_is n node at = same_stay cmp matching exact lists u.gateways n node at
      go (Some a) (Some b) o_is p_is n node at =
          let own : LinkEnd K = record { gateway = one; node = a; beyond = two; other = b; first = first } in
          let far : LinkEnd K = record { gateway = two; node = b; beyond = one; other = a; first = back } in
          let v = with_opening cmp matching (opening_at cmp matching u own) u in
          nodes_then cmp matching exact lists u.gateways v.gateways (with_opening cmp matching (opening_at cmp matching v far) v).gateways
          (end_goes cmp matching exact lists u own (λ old there. opens (one, old.rows.made + 1) (first_there old a o_is there)))
          (end_goes cmp matching exact lists v far (λ old there. let before = end_made cmp matching exact lists u own two old there in second_there before.0 old b p_is before.1.0 before.1.1))
          n node at
        where
          first_there : (old a : Node K) → nth one s.gateways ≡ Some a → nth one u.gateways ≡ Some old → Among {A = ℕ × ℕ} (one, old.rows.made + 1) (next_one one (nth one s.gateways) ++ next_two two (nth two s.gateways))
          first_there old a found there =
              let same_a : a ≡ old = same_node a old (sym found ∙ (ap (nth one) (sym is) ∙ there)) in
              let listed : Among {A = ℕ × ℕ} (one, old.rows.made + 1) (next_one one (Some a)) = inl (ap (λ (x : Node K). (one, x.rows.made + 1)) (sym same_a)) in
              append_left (one, old.rows.made + 1) (next_one one (nth one s.gateways)) (next_two two (nth two s.gateways))
              (subst (λ o. Among {A = ℕ × ℕ} (one, old.rows.made + 1) (next_one one o)) (sym found) listed)

          second_there : (before old b : Node K) → nth two s.gateways ≡ Some b → nth two u.gateways ≡ Some before → (old.rows.made ≡ before.rows.made) ⊎ (old.rows.made ≡ before.rows.made + 1) → Among {A = ℕ × ℕ} (two, old.rows.made + 1) lists.opened
          second_there before old b found there made =
              let same_b : b ≡ before = same_node b before (sym found ∙ (ap (nth two) (sym is) ∙ there)) in
              opens (two, old.rows.made + 1)
              (append_right (two, old.rows.made + 1) (next_one one (nth one s.gateways)) (next_two two (nth two s.gateways))
              (subst (λ p. Among {A = ℕ × ℕ} (two, old.rows.made + 1) (next_two two p)) (sym found)
              (⊎_elim
              (λ m. inl (ap (λ k. (two, k + 1)) (m ∙ ap (λ (x : Node K). x.rows.made) (sym same_b))))
              (λ m. let same_made : before.rows.made ≡ b.rows.made = ap (λ (x : Node K). x.rows.made) (sym same_b) in let two_more : old.rows.made + 1 ≡ b.rows.made + 2 = omega (arith, m, same_made) in inr (inl (ap (λ k. (two, k)) two_more)))
              made)))

  -- ---- faces that close

  closes_by : (s : Fabric K) (face : ℕ) → ((x : ℕ × K) → Among x (tokens_at (closing_call s face)) → Among x lists.tokens) → Closes cmp matching exact lists s face
  closes_by s face tokens p p_is old there o at own k has =
      tokens (p.gateway, k)
      (subst (λ (place : Option Place). Among (p.gateway, k) (tokens_at (call_at_place s (CloseFace face) place))) (sym p_is)
      (subst (λ (found : Option (Node K)). Among (p.gateway, k) (tokens_at (elim found as (λ _. Option (CallAt K)) [ None ↦ None | Some node ↦ Some (record { gateway = p.gateway; rows = node.rows; call = CloseFace p.face }) ]))) (sym there)
      (declared_in p.gateway p.face None has.0 k o old.rows.faces at own has.1 refl)))

  closings_go : (s : Fabric K) (link : Link) → ((x : ℕ × K) → Among x (tokens_at (closing_call s link.one) ++ tokens_at (closing_call s link.two)) → Among x lists.tokens)
      → GoSame s.gateways (with_closings cmp matching (link.one ∷ link.two ∷ []) s).gateways
  unfolding with_closings
  closings_go s link tokens =
      let u = with_call cmp matching [] (closing_call s link.one) s in
      let one = closes_by s link.one (λ x at. tokens x (append_left x (tokens_at (closing_call s link.one)) (tokens_at (closing_call s link.two)) at)) in
      let two = closes_by s link.two (λ x at. tokens x (append_right x (tokens_at (closing_call s link.one)) (tokens_at (closing_call s link.two)) at)) in
      nodes_then cmp matching exact lists s.gateways u.gateways (with_call cmp matching [] (closing_call u link.two) u).gateways
      (closing_goes cmp matching exact lists s link.one one)
      (closing_goes cmp matching exact lists u link.two (still_closes cmp matching exact lists s link.one link.two two))

  -- ---- lines

  -- the lists of a line are within these
  pub record LineWithin (line : PlainLine K) (s : Fabric K) : Type 0 where
    pub tokens : (x : ℕ × K) → Among x (tokens_by line (call_of line s) s) → Among x lists.tokens
    pub unheld : (x : ℕ × ℕ) → Among x (unheld_at (call_of line s)) → Among x lists.unheld
    pub opened : (x : ℕ × ℕ) → Among x (opened_by line (call_of line s) s) → Among x lists.opened
    pub held : (x : ℕ × ℕ × ℕ) → Among x (held_at (call_of line s)) → Among x lists.held

  abbrev pub GoesOrNew : List (Node K) → List (Node K) → Type 0
  GoesOrNew nodes later = (n : ℕ) (node : Node K) → nth n later ≡ Some node → NodeGoes cmp matching exact lists (On cmp matching exact lists) nodes n node ⊎ (node.rows.faces ≡ [])

  old_only : (nodes later : List (Node K)) → Go nodes later → GoesOrNew nodes later
  old_only nodes later go n node at = inl (go n node at)

  gateway_goes : (s : Fabric K) (new : Node K) → new.rows.faces ≡ [] → GoesOrNew s.gateways (s.gateways ++ new ∷ [])
  gateway_goes s new none n node at =
      ⊎_elim (λ old. inl (all_stay cmp matching exact lists s.gateways n node old)) (λ is. inr (ap (λ (x : Node K). x.rows.faces) is ∙ none)) (nth_end n s.gateways new node at)

  unlinked : (s : Fabric K) (n : ℕ) → (without_link n s).gateways ≡ s.gateways
  unlinked s n = go (nth n s.links) refl
    where
      go : (found : Option Link) → nth n s.links ≡ found → (without_link n s).gateways ≡ s.gateways
      go None none = rw (none, without_link) refl
      go (Some link) some = rw (some, without_link) refl

  stepped : (s : Fabric K) (n : ℕ) (back : Bool) → (with_stepped n back s).gateways ≡ s.gateways
  stepped s n back = go (nth n s.links) refl
    where
      go : (found : Option Link) → nth n s.links ≡ found → (with_stepped n back s).gateways ≡ s.gateways
      go None none = rw (none, with_stepped) refl
      go (Some link) some = rw (some, with_stepped) refl

  closed_go : (s : Fabric K) (n : ℕ) (found : Option Link) → ((x : ℕ × K) → Among x (tokens_between s found) → Among x lists.tokens)
      → GoSame s.gateways (with_closings cmp matching (elim found [ None ↦ [] | Some link ↦ link.one ∷ link.two ∷ [] ]) s).gateways
  unfolding with_closings
  closed_go s n None tokens k node at = same_stay cmp matching exact lists s.gateways k node at
  closed_go s n (Some link) tokens k node at = closings_go s link tokens k node at

  within_call : (s : Fabric K) (found : Option (CallAt K)) → ((x : ℕ × K) → Among x (tokens_at found) → Among x lists.tokens) → ((x : ℕ × ℕ) → Among x (unheld_at found) → Among x lists.unheld)
      → ((x : ℕ × ℕ) → Among x (opened_at found) → Among x lists.opened) → ((x : ℕ × ℕ × ℕ) → Among x (held_at found) → Among x lists.held) → Within cmp matching exact lists found
  within_call s found tokens unheld opened held = record { tokens = tokens; unheld = unheld; opened = opened; held = held }

  own_line : (line : PlainLine K) (s : Fabric K) → Own s.gateways (call_of line s)
  unfolding call_of
  own_line (Gateway mode zid regions south name timeout refused) s = tt
  own_line (Session gateway first) s = own_at cmp matching exact lists s.gateways s refl gateway (NewSession first)
  own_line (FaceLine gateway mode zid region bound first) s = own_at cmp matching exact lists s.gateways s refl gateway (NewTransport zid mode region bound first)
  own_line (LinkLine one two first back) s = tt
  own_line (Unlink link) s = tt
  own_line (Step link back) s = subst (Own s.gateways) (stepped_is s back (nth link s.links)) (own_step s back (nth link s.links))
  own_line (Speak call) s = own_face s call (call_face call)
  own_line (Moment gateway now) s = own_at cmp matching exact lists s.gateways s refl gateway (Expire now)
  own_line (SetTreesAt gateway region table) s = own_at cmp matching exact lists s.gateways s refl gateway (SetTrees region (table_at s gateway table))

  -- the call of a line is made on a fabric with these gateways
  calls_on : (s u : Fabric K) (ms : List (Sent K)) (found : Option (CallAt K)) → u.gateways ≡ s.gateways → Own s.gateways found → Within cmp matching exact lists found → Go s.gateways (with_call cmp matching ms found u).gateways
  calls_on s u ms found is own within =
      subst (λ nodes. Go nodes (with_call cmp matching ms found u).gateways) is
      (call_goes cmp matching exact lists u ms found (subst (λ nodes. Own nodes found) (sym is) own) within)

  -- a session is a call that opens a face
  session_goes : (s : Fabric K) (gateway first : ℕ) → Within cmp matching exact lists (call_at s gateway (NewSession first)) → Go s.gateways (with_session gateway first s).gateways
  unfolding rows_shown
  session_goes s gateway first within n node at = go (nth gateway s.gateways) refl
    where
      go : (found : Option (Node K)) → nth gateway s.gateways ≡ found → NodeGoes cmp matching exact lists (On cmp matching exact lists) s.gateways n node
      go None none = all_stay cmp matching exact lists s.gateways n node (subst (λ nodes. nth n nodes ≡ Some node) (unchanged none) at)
        where
          unchanged : nth gateway s.gateways ≡ None → (with_session gateway first s).gateways ≡ s.gateways
          unchanged missing = at_nth_none gateway _ s.gateways missing
      go (Some x) some =
          let found : Option (CallAt K) = Some (record { gateway = gateway; rows = x.rows; call = NewSession first }) in
          let is : call_at s gateway (NewSession first) ≡ found = rw (some, call_at) refl in
          calls_on s s [] found refl (subst (Own s.gateways) is (own_at cmp matching exact lists s.gateways s refl gateway (NewSession first))) (subst (Within cmp matching exact lists) is within) n node at

  face_goes : (s : Fabric K) (found : Option (CallAt K)) → Own s.gateways found → Within cmp matching exact lists found → Go s.gateways (with_opening cmp matching found s).gateways
  face_goes s None own within = all_stay cmp matching exact lists s.gateways
  face_goes s (Some at) own within = calls_on s (with_place at.gateway s) [] (Some at) refl own within

  pub line_goes : (line : PlainLine K) (ms : List (Sent K)) (s : Fabric K) → LineWithin line s → GoesOrNew s.gateways (fabric_with cmp matching line ms s).gateways
  unfolding fabric_with call_of
  line_goes (Gateway mode zid regions south name timeout refused) ms s within n node at =
      gateway_goes s (record { rows = new_rows mode zid regions timeout refused; south = south; name = name }) refl n node at
  line_goes (Session gateway first) ms s within n node at =
      inl (session_goes s gateway first (within_call s (call_at s gateway (NewSession first)) within.tokens within.unheld within.opened within.held) n node at)
  line_goes (FaceLine gateway mode zid region bound first) ms s within n node at =
      let found = call_at s gateway (NewTransport zid mode region bound first) in
      inl (face_goes s found (own_line (FaceLine gateway mode zid region bound first) s) (within_call s found within.tokens within.unheld within.opened within.held) n node at)
  line_goes (LinkLine one two first back) ms s within n node at =
      let later = (with_openings cmp matching (link_ends s one two first back) (with_link s)).gateways in
      inl (nodes_weaker cmp matching exact lists s.gateways later (openings_go s (with_link s) one two first back refl within.opened) n node at)
  line_goes (Unlink link) ms s within n node at =
      let closed = with_closings cmp matching (both_ends cmp matching s link) s in
      inl (nodes_weaker cmp matching exact lists s.gateways closed.gateways (closed_go s link (nth link s.links) within.tokens) n node
      (subst (λ nodes. nth n nodes ≡ Some node) (unlinked closed link) at))
  line_goes (Step link back) ms s within n node at =
      let found = call_stepped s back (nth link s.links) in
      let is : call_of_step s back (nth link s.links) ≡ found = sym (stepped_is s back (nth link s.links)) in
      inl (calls_on s (with_stepped link back s) ms found (stepped s link back) (own_step s back (nth link s.links))
      (subst (Within cmp matching exact lists) is (within_call s (call_of_step s back (nth link s.links)) within.tokens within.unheld within.opened within.held)) n node at)
  line_goes (Speak call) ms s within n node at =
      let found = call_of_face s call (call_face call) in
      inl (calls_on s s ms found refl (own_line (Speak call) s) (within_call s found within.tokens within.unheld within.opened within.held) n node at)
  line_goes (Moment gateway now) ms s within n node at =
      let found = call_at s gateway (Expire now) in
      inl (calls_on s s ms found refl (own_line (Moment gateway now) s) (within_call s found within.tokens within.unheld within.opened within.held) n node at)
  line_goes (SetTreesAt gateway region table) ms s within n node at =
      let found = call_at s gateway (SetTrees region (table_at s gateway table)) in
      inl (calls_on s s ms found refl (own_line (SetTreesAt gateway region table) s) (within_call s found within.tokens within.unheld within.opened within.held) n node at)
