-- The interests that a call sends are those that are due.
use Rattle.std.proofs.Common.{◌≡◌, ℕ, ◌+◌, ◌≤◌, Bool, true, false, not, if◌then◌else◌, ◌==◌, List, [], ◌∷◌, ◌++◌, filter, Option, Some, None, refl, sym, ap, ◌∙◌, append-nil, arith, eqb-true, eq-eqb, ne_eqb}
use Rattle.std.specs.Cmp.{IsTotalOrder}
use Rattle.std.specs.declared.cmp.Ordering.{Ordering}
use Rattle.std.specs.declared.cmp.Ordering.TheVariants.{Equal}
use Rattle.zt_region.specs.declared.region.Bound.{Bound}
use Rattle.zt_region.specs.declared.region.Region.{Region}
use Rattle.zt_region.specs.declared.region.WhatAmI.{WhatAmI}
use Rattle.zt_region.specs.declared.region.Zid.{Zid}
use Rattle.zt_protocol.specs.Plain.{PlainCall, NewSession, NewTransport, DeclareToken, UndeclareToken, Interest, InterestFinal, DeclareFinal, CloseFace, Expire, SetTrees, SetEntities}
use Rattle.zt_protocol.specs.declared.interests.InterestMode.{InterestMode}
use Rattle.zt_protocol.specs.declared.messages.Message.{Message}
use Rattle.zt_protocol.specs.declared.messages.Message.TheVariants as message
use Rattle.zt_model.specs.Entities.{entities_for, numbered_by, with_numbers}
use Rattle.zt_model.specs.Hearing.{messages_for, rows_heard}
use Rattle.zt_model.specs.Lists.{first_where, has_id}
use Rattle.zt_model.specs.Promises.{interests_due, interests_in}
use Rattle.zt_model.specs.Refusals.{can_draw}
use Rattle.zt_model.specs.Routing.{face_opened, interests_from, is_target, leads_up, opened, opening_final, opening_interests, opening_tokens, route_to, sent_as, tokens_from}
use Rattle.zt_model.specs.Rows.{Face, InterestRow, Rows}
use Rattle.zt_model.specs.Says.{Alter, Part, Say, Sends, answered_expressions, answering, answers_of, asking, declaring, declaring_of, final_of, find_face, interesting_above, is_routed, is_told, parts_of, registers, row_of, said, said_by, tell_to, to_each, to_face}
use Rattle.zt_model.specs.Telling.{answer_to}
use Rattle.zt_model.specs.Transcript.{Each}
use Rattle.zt_model.specs.Trees.{pass_to, show_to, showing, source_of}
use Rattle.zt_laws.specs.Order.{RowsAreInOrder}
use Rattle.zt_laws.specs.Sound.{RiseFrom, opens_face}
use Rattle.zt_laws.proofs.CallsOrder.{transport_in_order}
use Rattle.zt_laws.proofs.Drawing.{said_undrawn}
use Rattle.zt_laws.proofs.Hearing.{each_ruled, each_ruled_one, messages_for-append, messages_for_each}
use Rattle.zt_laws.proofs.Lists.{by_test, each_always, each_append, each_both, each_filter, each_weaker, never, of_cond, rise_above}
use Rattle.zt_laws.proofs.PartsOrder.{each_message_for}
use Rattle.zt_laws.proofs.Silent.{silent_final}
use Rattle.zt_laws.proofs.ToldOrder.{DrawsNothing}
use Rattle.zt_theorem_soundness.proofs.Asking.{answers_make_none}
use Rattle.zt_theorem_soundness.proofs.CallsRun.{each_entity}
use Rattle.zt_theorem_soundness.proofs.Going.{IsQuietMessage, MakesNoPending, drawn_if_quiet, none_if_drawn}
use Rattle.zt_theorem_soundness.proofs.Opening.{speaks_one}
use Rattle.zt_theorem_soundness.proofs.Parts.{each_pass, each_show, makes_none_answer, quiet_opening_final}
use Rattle.zt_theorem_drawn_ids.proofs.Needs.{held_opened}

module _ {K : Type 0} where
  -- ---- interests among messages

  pub none_in : (ms : List (Message K)) → Each MakesNoPending ms → interests_in ms ≡ []
  none_in [] none_ = refl
  none_in (message.DeclareToken id e interest node ∷ ms) none_ = none_in ms none_.1
  none_in (message.UndeclareToken id e node ∷ ms) none_ = none_in ms none_.1
  none_in (message.DeclareFinal interest ∷ ms) none_ = none_in ms none_.1
  none_in (message.Interest id mode options e ∷ ms) none_ = absurd none_.0
  none_in (message.InterestFinal id ∷ ms) none_ = none_in ms none_.1
  none_in (message.DeclareSubscriber id e interest ∷ ms) none_ = none_in ms none_.1
  none_in (message.DeclareQueryable id e info interest ∷ ms) none_ = none_in ms none_.1

  pub in-append : (ms ns : List (Message K)) → interests_in (ms ++ ns) ≡ interests_in ms ++ interests_in ns
  in-append [] ns = refl
  in-append (message.DeclareToken id e interest node ∷ ms) ns = in-append ms ns
  in-append (message.UndeclareToken id e node ∷ ms) ns = in-append ms ns
  in-append (message.DeclareFinal interest ∷ ms) ns = in-append ms ns
  in-append (message.Interest id mode options e ∷ ms) ns = ap (λ (is : List (InterestRow K)). record { mode = mode; options = options; expr = e } ∷ is) (in-append ms ns)
  in-append (message.InterestFinal id ∷ ms) ns = in-append ms ns
  in-append (message.DeclareSubscriber id e interest ∷ ms) ns = in-append ms ns
  in-append (message.DeclareQueryable id e info interest ∷ ms) ns = in-append ms ns

  in_numbered : (next : ℕ) (is : List (InterestRow K)) → interests_in (interests_from next is) ≡ is
  unfolding interests_from
  in_numbered next [] = refl
  in_numbered next (i ∷ is) = ap (λ js. i ∷ js) (in_numbered (next + 1) is)

  tokens_send_none : (next : ℕ) (es : List K) → Each MakesNoPending (tokens_from next es)
  unfolding tokens_from
  tokens_send_none next [] = tt
  tokens_send_none next (e ∷ es) = (tt, tokens_send_none (next + 1) es)

  quiet_sends_none : (ss : Sends K) → Each (λ s. IsQuietMessage s.1) ss → Each (λ s. MakesNoPending s.1) ss
  quiet_sends_none ss quiet = each_weaker (λ s. IsQuietMessage s.1) (λ s. MakesNoPending s.1) (λ s one. none_if_drawn s.1 (drawn_if_quiet s.1 one)) ss quiet

  -- each face is the first of its number
  finds_itself : (low : ℕ) (fs : List (Face K)) → RiseFrom (λ f. f.number) low fs → Each (λ f. first_where (λ k. f.number == k.number) fs ≡ Some f) fs
  finds_itself low [] rises = tt
  finds_itself low (f ∷ fs) rises =
      let above = rise_above (λ k. k.number) (f.number + 1) fs rises.1 in
      let own : (f.number == f.number) ≡ true = eq-eqb f.number f.number refl in (
        rw own refl,
        each_both (λ k. f.number + 1 ≤ k.number) (λ k. first_where (λ x. k.number == x.number) fs ≡ Some k) (λ k. first_where (λ x. k.number == x.number) (f ∷ fs) ≡ Some k)
            (λ k up one. let apart : (k.number == f.number) ≡ false = ne_eqb k.number f.number (λ e. omega arith) in rw apart one) fs above (finds_itself (f.number + 1) fs rises.1),
      )

module _ {K : Type 0} (cmp : K → K → Ordering) (matching : K → K → Bool) where
  -- ---- parts that send no interest

  abbrev SendsNone : Part K → Type 0
  SendsNone (Alter change) = Unit {0}
  SendsNone (Say rule) = (g : Rows K) → Each (λ s. MakesNoPending s.1) (rule g)

  said_none : (parts : List (Part K)) (g : Rows K) → Each SendsNone parts → Each (λ s. MakesNoPending s.1) (said_by cmp matching parts g)
  unfolding said_by
  said_none [] g none_ = tt
  said_none (Alter change ∷ parts) g none_ = said_none parts (change g) none_.1
  said_none (Say rule ∷ parts) g none_ = each_append (λ s. MakesNoPending s.1) (rule g) (said_by cmp matching parts (rows_heard cmp (rule g) g)) (none_.0 g) (said_none parts (rows_heard cmp (rule g) g) none_.1)

  pub none_for : (n : ℕ) (ss : Sends K) → Each (λ s. MakesNoPending s.1) ss → interests_in (messages_for n ss) ≡ []
  none_for n ss none_ = none_in (messages_for n ss) (each_message_for cmp MakesNoPending n ss none_)

  tells_none : (g : Rows K) (source : Region) (e : K) (f : Face K) → Each MakesNoPending (tell_to cmp matching g source e f)
  unfolding tell_to
  tells_none g source e f = of_cond (Each MakesNoPending) (is_told cmp matching g source e f) (message.DeclareToken f.next e None 0 ∷ []) [] (λ _. (tt, tt)) (λ _. tt)

  telling_none : (source : Region) (e : K) → SendsNone (Say (λ g. to_each (tell_to cmp matching g source e) g.faces))
  telling_none source e = λ g. each_ruled MakesNoPending (tell_to cmp matching g source e) g.faces (tells_none g source e)

  showing_none : (source : Region) (e : K) → Each SendsNone (showing cmp source e)
  showing_none source e = ((λ g. quiet_sends_none (to_each (show_to cmp g source e) g.faces) (each_show cmp matching g source e)), (tt, tt))

  declaring_of_none : (n : ℕ) (source : Option Zid) (e : K) (f : Face K) → Each SendsNone (declaring_of cmp matching n source e f)
  declaring_of_none n None e f = tt
  declaring_of_none n (Some zid) e f = (
    tt,
    (
      (λ g.
          let all = to_each (pass_to cmp g f.region zid e) g.faces in
          quiet_sends_none (filter (λ s. not (n == s.0)) all) (each_filter (λ s. IsQuietMessage s.1) (λ s. not (n == s.0)) all (each_pass cmp matching g f.region zid e))),
      (telling_none f.region e, showing_none f.region e),
    ),
  )

  module _ (total : IsTotalOrder cmp) (equal_is_same : (a b : K) → cmp a b ≡ Equal → a ≡ b) where
    answering_none : (n : ℕ) (interest : Option ℕ) (e : K) (f : Face K) → Each SendsNone (answering cmp matching n interest e f)
    answering_none n None e f = tt
    answering_none n (Some i) e f =
        of_cond (Each SendsNone) (has_id i f.pendings) (Say (λ h. to_each (answer_to cmp matching n i e) h.faces) ∷ []) []
        (λ _. ((λ g. makes_none_answer cmp matching total equal_is_same n i e g), tt)) (λ _. tt)

    declaration_none : (n id node : ℕ) (e : K) (interest : Option ℕ) (g : Rows K) → Each SendsNone (parts_of cmp matching (DeclareToken n id e node interest) g)
    unfolding parts_of
    declaration_none n id node e interest g = cases (find_face n g)
      where
        plain : Face K → List (Part K)
        plain f = if registers f interest then declaring cmp matching n id e f ++ showing cmp f.region e else []

        cases : (o : Option (Face K)) → Each SendsNone (elim o [ None ↦ [] | Some f ↦ if is_routed g f then declaring_of cmp matching n (source_of g f node) e f else answering cmp matching n interest e f ++ (if registers f interest then declaring cmp matching n id e f ++ showing cmp f.region e else []) ])
        cases None = tt
        cases (Some f) =
            of_cond (Each SendsNone) (is_routed g f) (declaring_of cmp matching n (source_of g f node) e f) (answering cmp matching n interest e f ++ plain f)
            (λ _. declaring_of_none n (source_of g f node) e f)
            (λ _. each_append SendsNone (answering cmp matching n interest e f) (plain f) (answering_none n interest e f)
            (of_cond (Each SendsNone) (registers f interest) (declaring cmp matching n id e f ++ showing cmp f.region e) [] (λ _. (tt, (telling_none f.region e, showing_none f.region e))) (λ _. tt)))

    -- ---- an interest

    target_numbered : (es : List K) (g : Rows K) (asker : Region) (mode : InterestMode) (f : Face K) → is_target (with_numbers cmp es g) asker mode f ≡ is_target g asker mode f
    unfolding is_target
    target_numbered es g asker mode f = refl

    routes : (g : Rows K) (asker : Region) (interest : InterestRow K) (f : Face K) → interests_in (route_to g asker interest f) ≡ (if is_target g asker interest.mode f then interest ∷ [] else [])
    unfolding route_to
    routes g asker interest f = by_test (is_target g asker interest.mode f) (λ here. rw here refl) (λ here. rw here refl)

    interesting_none : (pendings : List (ℕ × ℕ)) (n id : ℕ) (interest : InterestRow K) → Each SendsNone (Say (λ h. to_face n (entities_for cmp matching h id interest) h) ∷ interesting_above cmp matching pendings n id interest)
    interesting_none pendings n id interest = (
      (λ h. each_ruled_one MakesNoPending n (entities_for cmp matching h id interest) h (each_entity cmp MakesNoPending (λ number e i. tt) (λ number e info i. tt) matching h id interest)),
      (
        tt,
        (
          (λ h. each_ruled_one MakesNoPending n (answers_of cmp matching h id interest) h (λ f. answers_make_none cmp matching f.next f.told interest.mode id (answered_expressions cmp matching h interest f))),
          ((λ h. each_ruled_one MakesNoPending n (final_of id) h (λ f. each_weaker DrawsNothing MakesNoPending none_if_drawn (final_of id f) (silent_final id f))), tt),
        ),
      ),
    )

    asking_sends : (n id : ℕ) (interest : InterestRow K) (asker : Region) (g : Rows K) → RowsAreInOrder cmp matching g
        → Each (λ f. interests_in (messages_for f.number (said_by cmp matching (asking cmp matching n id interest asker g) g)) ≡ (if is_target g asker interest.mode f then interest ∷ [] else [])) g.faces
    unfolding said_by
    asking_sends n id interest asker g ordered =
        let g1 = with_numbers cmp (numbered_by cmp interest) g in
        let ss = to_each (route_to g1 asker interest) g1.faces in
        let g2 = rows_heard cmp ss g1 in
        let rest = Say (λ h. to_face n (entities_for cmp matching h id interest) h) ∷ interesting_above cmp matching (sent_as g asker interest.mode) n id interest in
        let none_ = said_none rest g2 (interesting_none (sent_as g asker interest.mode) n id interest) in
        each_weaker (λ f. messages_for f.number ss ≡ route_to g1 asker interest f) (λ f. interests_in (messages_for f.number (ss ++ said_by cmp matching rest g2)) ≡ (if is_target g asker interest.mode f then interest ∷ [] else []))
        (λ f one.
        ap interests_in (messages_for-append f.number ss (said_by cmp matching rest g2))
        ∙ in-append (messages_for f.number ss) (messages_for f.number (said_by cmp matching rest g2))
        ∙ ap (λ is. interests_in (messages_for f.number ss) ++ is) (none_for f.number (said_by cmp matching rest g2) none_)
        ∙ append-nil (interests_in (messages_for f.number ss))
        ∙ ap interests_in one
        ∙ routes g1 asker interest f
        ∙ ap (λ b. if b then interest ∷ [] else []) (target_numbered (numbered_by cmp interest) g asker interest.mode f))
        g.faces (messages_for_each 1 (route_to g1 asker interest) g1.faces ordered.lists.faces_rise)

    -- ---- calls

    -- of two gateways it is this one
    pub due_here : (gateway : ℕ) (is : List (InterestRow K)) → (if not (gateway == gateway) then [] else is) ≡ is
    due_here gateway is = ap (λ b. if not b then [] else is) (eq-eqb gateway gateway refl)

    nothing_due : (gateway : ℕ) (c : PlainCall K) (g : Rows K) → Each (λ s. MakesNoPending s.1) (said cmp matching c g)
        → ((f : Face K) → interests_due cmp matching gateway f (record { gateway = gateway; rows = g; call = c }) ≡ [])
        → Each (λ f. interests_in (messages_for f.number (said cmp matching c g)) ≡ interests_due cmp matching gateway f (record { gateway = gateway; rows = g; call = c })) g.faces
    nothing_due gateway c g none_ due = each_always (λ f. interests_in (messages_for f.number (said cmp matching c g)) ≡ interests_due cmp matching gateway f (record { gateway = gateway; rows = g; call = c })) (λ f. none_for f.number (said cmp matching c g) none_ ∙ sym (due f)) g.faces

    pub undrawn_none : (c : PlainCall K) (g : Rows K) → can_draw cmp matching c ≡ false → Each (λ s. MakesNoPending s.1) (said cmp matching c g)
    undrawn_none c g draws = each_weaker (λ s. DrawsNothing s.1) (λ s. MakesNoPending s.1) (λ s one. none_if_drawn s.1 one) (said cmp matching c g) (said_undrawn cmp matching total c g draws)

    pub call_sends : (gateway : ℕ) (c : PlainCall K) (g : Rows K) → opens_face c ≡ false → RowsAreInOrder cmp matching g
        → Each (λ f. interests_in (messages_for f.number (said cmp matching c g)) ≡ interests_due cmp matching gateway f (record { gateway = gateway; rows = g; call = c })) g.faces
    unfolding parts_of said_by messages_for
    call_sends gateway (NewSession first) g still ordered = never refl still
    call_sends gateway (NewTransport zid whatami region bound first) g still ordered = never refl still
    call_sends gateway (DeclareToken n id e node interest) g still ordered = nothing_due gateway (DeclareToken n id e node interest) g (said_none (parts_of cmp matching (DeclareToken n id e node interest) g) g (declaration_none n id node e interest g)) (λ f. due_here gateway [])
    call_sends gateway (UndeclareToken n id given node) g still ordered = nothing_due gateway (UndeclareToken n id given node) g (undrawn_none (UndeclareToken n id given node) g refl) (λ f. due_here gateway [])
    call_sends gateway (InterestFinal n id) g still ordered = nothing_due gateway (InterestFinal n id) g (undrawn_none (InterestFinal n id) g refl) (λ f. due_here gateway [])
    call_sends gateway (DeclareFinal n id) g still ordered = nothing_due gateway (DeclareFinal n id) g (undrawn_none (DeclareFinal n id) g refl) (λ f. due_here gateway [])
    call_sends gateway (CloseFace n) g still ordered = nothing_due gateway (CloseFace n) g (undrawn_none (CloseFace n) g refl) (λ f. due_here gateway [])
    call_sends gateway (Expire now) g still ordered = nothing_due gateway (Expire now) g (undrawn_none (Expire now) g refl) (λ f. due_here gateway [])
    call_sends gateway (SetTrees region t) g still ordered = nothing_due gateway (SetTrees region t) g (undrawn_none (SetTrees region t) g refl) (λ f. due_here gateway [])
    call_sends gateway (SetEntities n subscribers queryables) g still ordered = nothing_due gateway (SetEntities n subscribers queryables) g (undrawn_none (SetEntities n subscribers queryables) g refl) (λ f. due_here gateway [])
    call_sends gateway (Interest n id mode options e) g still ordered = cases (find_face n g) refl
      where
        due : Option (Face K) → Option (Face K) → List (InterestRow K)
        due o p = elim o [ None ↦ [] | Some from ↦ elim p [ None ↦ [] | Some target ↦ if is_target g from.region mode target then row_of cmp matching from mode options e ∷ [] else [] ] ]

        cases : (o : Option (Face K)) → find_face n g ≡ o
            → Each (λ f. interests_in (messages_for f.number (said_by cmp matching (elim o [ None ↦ [] | Some f ↦ asking cmp matching n id (row_of cmp matching f mode options e) f.region g ]) g)) ≡ (if not (gateway == gateway) then [] else due o (find_face f.number g))) g.faces
        cases None found = each_always (λ f. [] ≡ (if not (gateway == gateway) then [] else [])) (λ f. sym (due_here gateway [])) g.faces
        cases (Some from) found =
            let interest = row_of cmp matching from mode options e in
            each_both (λ f. interests_in (messages_for f.number (said_by cmp matching (asking cmp matching n id interest from.region g) g)) ≡ (if is_target g from.region mode f then interest ∷ [] else [])) (λ f. find_face f.number g ≡ Some f)
            (λ f. interests_in (messages_for f.number (said_by cmp matching (asking cmp matching n id interest from.region g) g)) ≡ (if not (gateway == gateway) then [] else due (Some from) (find_face f.number g)))
            (λ f one itself. one ∙ ap (due (Some from)) (sym itself) ∙ sym (due_here gateway (due (Some from) (find_face f.number g))))
            g.faces (asking_sends n id interest from.region g ordered) (finds_itself 1 g.faces ordered.lists.faces_rise)

    pub opening_sends : (gateway : ℕ) (zid : Zid) (whatami : WhatAmI) (region : Region) (bound : Bound) (first : ℕ) (g : Rows K) → 1 ≤ first → RowsAreInOrder cmp matching g
        → Each (λ f. interests_in (messages_for f.number (said cmp matching (NewTransport zid whatami region bound first) g)) ≡ interests_due cmp matching gateway f (record { gateway = gateway; rows = g; call = NewTransport zid whatami region bound first })) (opened zid whatami region bound first g).faces
    unfolding parts_of said_by
    opening_sends gateway zid whatami region bound first g real ordered =
        let n = g.made + 1 in
        let one = opened zid whatami region bound first g in
        let o1 = transport_in_order cmp matching total zid whatami region bound first g real ordered in
        let rule = λ (f : Face K). interests_from f.next (opening_interests cmp matching one f) in
        let ss = to_face n rule one in
        let two = rows_heard cmp ss one in
        let rest : List (Part K) = Say (λ h. to_face n (λ f. tokens_from f.next (opening_tokens cmp matching h f)) h) ∷ Say (to_face n (opening_final cmp matching)) ∷ [] in
        let none_ = said_none rest two (
          (λ h. each_ruled_one MakesNoPending n (λ f. tokens_from f.next (opening_tokens cmp matching h f)) h (λ f. tokens_send_none f.next (opening_tokens cmp matching h f))),
          ((λ h. each_ruled_one MakesNoPending n (opening_final cmp matching) h (λ f. each_weaker IsQuietMessage MakesNoPending (λ m quiet. none_if_drawn m (drawn_if_quiet m quiet)) (opening_final cmp matching f) (quiet_opening_final cmp matching f))), tt),
        ) in
        each_weaker (λ f. messages_for f.number ss ≡ (if n == f.number then rule f else [])) (λ f. interests_in (messages_for f.number (ss ++ said_by cmp matching rest two)) ≡ interests_due cmp matching gateway f (record { gateway = gateway; rows = g; call = NewTransport zid whatami region bound first }))
        (λ f says.
        ap interests_in (messages_for-append f.number ss (said_by cmp matching rest two))
        ∙ in-append (messages_for f.number ss) (messages_for f.number (said_by cmp matching rest two))
        ∙ ap (λ is. interests_in (messages_for f.number ss) ++ is) (none_for f.number (said_by cmp matching rest two) none_)
        ∙ append-nil (interests_in (messages_for f.number ss))
        ∙ ap interests_in says
        ∙ new_one f
        ∙ sym (due_here gateway (if f.number == n then opening_interests cmp matching g f else [])))
        one.faces (speaks_one n rule one o1.lists.faces_rise)
      where
        new_one : (f : Face K)
            → (let one = opened zid whatami region bound first g in interests_in (if g.made + 1 == f.number then interests_from f.next (opening_interests cmp matching one f) else []) ≡ (if f.number == g.made + 1 then opening_interests cmp matching g f else []))
        new_one f =
            let one = opened zid whatami region bound first g in
            by_test (g.made + 1 == f.number)
            (λ here.
            let back : (f.number == g.made + 1) ≡ true = eq-eqb f.number (g.made + 1) (sym (eqb-true (g.made + 1) f.number here)) in
            rw (here, back)
            (in_numbered f.next (opening_interests cmp matching one f)
            ∙ ap (λ (is : List (InterestRow K)). if leads_up g.mode f then is else []) (held_opened cmp matching total (face_opened zid whatami region bound first g) g refl)))
            (λ here.
            let back : (f.number == g.made + 1) ≡ false = ne_eqb f.number (g.made + 1) (λ e. never (eq-eqb (g.made + 1) f.number (sym e)) here) in
            rw (here, back) refl)
