-- The fabric that a transcript shows after a line is what the machine keeps then, but for own rows.
use Rattle.std.proofs.Common.{◌≡◌, ℕ, ◌+◌, ◌-◌, Bool, true, false, ◌==◌, not, nat_lt, if◌then◌else◌, List, [], ◌∷◌, ◌++◌, map, filter, Option, Some, None, refl, sym, ap, ◌∙◌, subst}
use Rattle.std.proofs.lemmas.Bool.{and_parts}
use Rattle.std.specs.List.{flat_map}
use Rattle.std.specs.Cmp.{IsTotalOrder}
use Rattle.std.specs.declared.cmp.Ordering.{Ordering}
use Rattle.zt_region.specs.declared.region.Bound.{Bound}
use Rattle.zt_region.specs.declared.region.Region.{Region}
use Rattle.zt_region.specs.declared.region.WhatAmI.{WhatAmI}
use Rattle.zt_region.specs.declared.region.Zid.{Zid}
use Rattle.zt_region.specs.Region.{is_north}
use Rattle.zt_protocol.specs.Interest.{is_current, is_future}
use Rattle.zt_protocol.specs.Plain.{PlainCall, NewSession, NewTransport, DeclareToken as DeclareCall, UndeclareToken as UndeclareCall, Interest as InterestCall, InterestFinal as InterestFinalCall, DeclareFinal as DeclareFinalCall, CloseFace, Expire, SetTrees, SetEntities, PlainLine, Gateway, Session, Face as FaceLine, Link as LinkLine, Unlink, Step, Speak, Moment, SetTreesAt}
use Rattle.zt_protocol.specs.Refusal.{number_of}
use Rattle.zt_protocol.specs.declared.entries.Sent.{Sent}
use Rattle.zt_protocol.specs.declared.errors.Refusal.{Refusal}
use Rattle.zt_protocol.specs.declared.interests.InterestMode.{InterestMode}
use Rattle.zt_protocol.specs.declared.interests.InterestOptions.{InterestOptions}
use Rattle.zt_protocol.specs.declared.messages.Message.{Message}
use Rattle.zt_protocol.specs.declared.messages.Message.TheVariants.{DeclareToken, UndeclareToken, DeclareFinal, Interest, InterestFinal, DeclareSubscriber, DeclareQueryable}
use Rattle.zt_model.specs.Entities.{entities_for, numbered_by, with_numbers}
use Rattle.zt_model.specs.Fabric.{CallAt, Fabric, Node, Place, after_hearing, after_refusal, altered_at, altered_by_line, at_nth, both_ends, call_at, call_at_place, call_face, call_of, call_of_face, call_of_step, closed_ends, new_rows, closing_call, entries_from, entry_by, entry_of, fabric_after, gateways_after_hearing, line_causes, line_spends_ids, next_face, number_from, opened_at, opened_ends, opening_at, printed_for, printed_message, said_at, said_by_line, sorted_by_face, table_at, with_call_face, with_place, with_rows, rows_after_hearing, with_waiting, without_message}
use Rattle.zt_model.specs.Hearing.{messages_for, put_if, rows_heard}
use Rattle.zt_model.specs.Linking.{LinkEnd, call_of_message, end_call, end_region, link_ends, oldest, sending_end, speaking_end, with_link, with_taken, without_link}
use Rattle.zt_model.specs.Lists.{nth, without_id}
use Rattle.zt_model.specs.Places.{Link}
use Rattle.zt_model.specs.Promises.{Turn, turns_from}
use Rattle.zt_model.specs.Refusals.{first_cause, would_send}
use Rattle.zt_model.specs.Routing.{asked_as, is_asked, is_target, opened, route_to, sent_as}
use Rattle.zt_model.specs.Rows.{ById, Face, InterestRow, Rows}
use Rattle.zt_model.specs.Says.{altered, altered_by, answered_expressions, answers_from, answers_of, asking, final_of, find_face, opened_session, parts_of, row_of, said, said_by, to_each, to_face, told_id, with_face}
use Rattle.zt_model.specs.Shown.{interest_kept, rows_shown, with_interest, with_new_transport}
use Rattle.zt_model.specs.Transcript.{Each, current_ids, fabric_shown, fabric_with, with_call, with_closings, with_opening, with_openings}
use Rattle.zt_model.proofs.Hats.{asked_north}
use Rattle.zt_laws.specs.Order.{FabricIsInOrder, ListsAreInOrder}
use Rattle.zt_laws.specs.Shown.{as_shown, call_shown, node_shown, without_own}
use Rattle.zt_laws.specs.Sound.{HasFirstIds, is_placed}
use Rattle.zt_laws.proofs.AllLines.{in_order_after_line, without_message_is}
use Rattle.zt_laws.proofs.Ends.{by_end}
use Rattle.zt_laws.proofs.Gateways.{PrintsSends, prints_sorted}
use Rattle.zt_laws.proofs.Hearing.{each_ruled_one, messages_for-append, messages_for_each}
use Rattle.zt_laws.proofs.LinesOrder.{called_at, called_by_speaker, called_by_step, gateway_in_order}
use Rattle.zt_laws.proofs.Lists.{by_test, each_append, each_weaker, map-append}
use Rattle.zt_laws.proofs.PartsOrder.{each_message_for}
use Rattle.zt_laws.proofs.ShownRows.{call_shown_is, closed_shown, opened_is_made}
use Rattle.zt_laws.proofs.Silent.{silent_entities, silent_final}
use Rattle.zt_laws.proofs.ToldOrder.{DrawsNothing}
use Rattle.zt_laws.proofs.Unlinking.{closing_case}

-- ---- lists

nth_map : {A B : Type 0} (f : A → B) (n : ℕ) (xs : List A) → nth n (map f xs) ≡ (let y : Option B = elim (nth n xs) [ None ↦ None | Some x ↦ Some (f x) ] in y)
nth_map f n [] = refl
nth_map f n (x ∷ xs) = by_test (n == 1) (λ here. rw here refl) (λ here. rw here (nth_map f (n - 1) xs))

-- a member changed, before a map and after it
at_nth_map : {A B : Type 0} (f : A → B) (one : B → B) (two : A → A) (n : ℕ) (xs : List A) (x : A) → nth n xs ≡ Some x → one (f x) ≡ f (two x) → at_nth n one (map f xs) ≡ map f (at_nth n two xs)
at_nth_map f one two n [] x at_ same_ = refl
at_nth_map {B = B} f one two n (y ∷ ys) x at_ same_ =
    by_test (n == 1)
    (λ here.
    let e : Some y ≡ Some x = rw here at at_ in
    let is : y ≡ x = cc in
    rw here (ap (λ z. z ∷ map f ys) (ap (λ z. one (f z)) is ∙ same_ ∙ sym (ap (λ z. f (two z)) is))))
    (λ here. rw here (ap (λ (zs : List B). f y ∷ zs) (at_nth_map f one two (n - 1) ys x (rw here at at_) same_)))

flat_map_alike : {A B : Type 0} (f g : A → List B) (xs : List A) → Each (λ x. f x ≡ g x) xs → flat_map f xs ≡ flat_map g xs
flat_map_alike f g [] all = refl
flat_map_alike f g (x ∷ xs) all = let first : f x ≡ g x = all.0 in let rest = flat_map_alike f g xs all.1 in cc

-- ---- what an entry prints for the pendings of an ask

module _ {K : Type 0} where
  abbrev IsNoInterest : Message K → Type 0
  IsNoInterest (Interest id mode options e) = ⊥
  IsNoInterest _ = Unit {0}

  asks_nothing : (ms : List (Message K)) → Each IsNoInterest ms → current_ids ms ≡ []
  asks_nothing [] all = refl
  asks_nothing (DeclareToken id e interest node ∷ ms) all = asks_nothing ms all.1
  asks_nothing (UndeclareToken id e node ∷ ms) all = asks_nothing ms all.1
  asks_nothing (DeclareFinal interest ∷ ms) all = asks_nothing ms all.1
  asks_nothing (Interest id mode options e ∷ ms) all = absurd all.0
  asks_nothing (InterestFinal id ∷ ms) all = asks_nothing ms all.1
  asks_nothing (DeclareSubscriber id e interest ∷ ms) all = asks_nothing ms all.1
  asks_nothing (DeclareQueryable id e info interest ∷ ms) all = asks_nothing ms all.1

  current_ids-append : (ms ns : List (Message K)) → Each IsNoInterest ns → current_ids (ms ++ ns) ≡ current_ids ms
  current_ids-append [] ns none_ = asks_nothing ns none_
  current_ids-append (DeclareToken id e interest node ∷ ms) ns none_ = current_ids-append ms ns none_
  current_ids-append (UndeclareToken id e node ∷ ms) ns none_ = current_ids-append ms ns none_
  current_ids-append (DeclareFinal interest ∷ ms) ns none_ = current_ids-append ms ns none_
  current_ids-append (Interest id mode options e ∷ ms) ns none_ = by_test (is_current mode) (λ here. rw here (ap (λ (ids : List ℕ). id ∷ ids) (current_ids-append ms ns none_))) (λ here. rw here (current_ids-append ms ns none_))
  current_ids-append (InterestFinal id ∷ ms) ns none_ = current_ids-append ms ns none_
  current_ids-append (DeclareSubscriber id e interest ∷ ms) ns none_ = current_ids-append ms ns none_
  current_ids-append (DeclareQueryable id e info interest ∷ ms) ns none_ = current_ids-append ms ns none_

  drawn_no_interest : (m : Message K) → DrawsNothing m → IsNoInterest m
  drawn_no_interest (DeclareToken id e interest node) nothing = tt
  drawn_no_interest (UndeclareToken id e node) nothing = tt
  drawn_no_interest (DeclareFinal interest) nothing = tt
  drawn_no_interest (Interest id mode options e) nothing = nothing
  drawn_no_interest (InterestFinal id) nothing = tt
  drawn_no_interest (DeclareSubscriber id e interest) nothing = tt
  drawn_no_interest (DeclareQueryable id e info interest) nothing = tt

  drawn_none : (ms : List (Message K)) → Each DrawsNothing ms → Each IsNoInterest ms
  drawn_none ms nothing = each_weaker DrawsNothing IsNoInterest drawn_no_interest ms nothing

module _ {K : Type 0} (cmp : K → K → Ordering) (matching : K → K → Bool) where
  answers_ask_nothing : (next : ℕ) (told : ById K) (mode : InterestMode) (id : ℕ) (es : List K) → Each IsNoInterest (answers_from cmp matching next told mode id es)
  unfolding answers_from
  answers_ask_nothing next told mode id [] = tt
  answers_ask_nothing next told mode id (e ∷ es) =
      by_test (is_future mode)
      (λ future. rw future (cases (told_id cmp e told) (λ k. answers_ask_nothing k told mode id es)))
      (λ future. rw future (tt, answers_ask_nothing next told mode id es))
    where
      cases : (o : Option ℕ) → ((k : ℕ) → Each IsNoInterest (answers_from cmp matching k told mode id es))
          → Each IsNoInterest (elim o [ None ↦ DeclareToken next e (Some id) 0 ∷ answers_from cmp matching (next + 1) told mode id es | Some old ↦ DeclareToken old e (Some id) 0 ∷ answers_from cmp matching next told mode id es ])
      cases None rest = (tt, rest (next + 1))
      cases (Some old) rest = (tt, rest next)

  -- the pendings that a face is printed
  abbrev pendings_for : List (Message K) → Face K → List (ℕ × ℕ)
  pendings_for ms f = if is_north f.region then map (λ id. (f.number, id)) (current_ids ms) else []

  -- the rest of an interest's call asks nothing upstream
  interest_asks : (n id : ℕ) (interest : InterestRow K) (asker : Region) (g : Rows K) (j : ℕ)
      → (let h = with_numbers cmp (numbered_by cmp interest) g in current_ids (messages_for j (said_by cmp matching (asking cmp matching n id interest asker g) g)) ≡ current_ids (messages_for j (to_each (route_to h asker interest) h.faces)))
  unfolding said_by
  interest_asks n id interest asker g j =
      let g1 = with_numbers cmp (numbered_by cmp interest) g in
      let route = to_each (route_to g1 asker interest) g1.faces in
      let h1 = rows_heard cmp route g1 in
      let entities = to_face n (entities_for cmp matching h1 id interest) h1 in
      let h2 = with_face n (asked_as (sent_as g asker interest.mode) id interest) (rows_heard cmp entities h1) in
      let answers = to_face n (answers_of cmp matching h2 id interest) h2 in
      let h3 = rows_heard cmp answers h2 in
      let finals = to_face n (final_of id) h3 in
      ap current_ids (messages_for-append j route (entities ++ (answers ++ (finals ++ []))))
      ∙ current_ids-append (messages_for j route) (messages_for j (entities ++ (answers ++ (finals ++ []))))
      (each_message_for cmp IsNoInterest j (entities ++ (answers ++ (finals ++ [])))
      (each_append Silent entities (answers ++ (finals ++ [])) (each_ruled_one IsNoInterest n (entities_for cmp matching h1 id interest) h1 (λ f. drawn_none (entities_for cmp matching h1 id interest f) (silent_entities cmp matching h1 id interest f)))
      (each_append Silent answers (finals ++ []) (each_ruled_one IsNoInterest n (answers_of cmp matching h2 id interest) h2 (λ f. answers_ask_nothing f.next f.told interest.mode id (answered_expressions cmp matching h2 interest f)))
      (each_append Silent finals [] (each_ruled_one IsNoInterest n (final_of id) h3 (λ f. drawn_none (final_of id f) (silent_final id f))) tt))))
    where
      Silent : ℕ × Message K → Type 0
      Silent t = IsNoInterest t.1

  -- numbers of expressions change no target
  still_target : (es : List K) (asker : Region) (mode : InterestMode) (g : Rows K) (f : Face K) → is_target (with_numbers cmp es g) asker mode f ≡ is_target g asker mode f
  unfolding is_target
  still_target es asker mode g f = refl

  -- the pendings that the interest is printed with are those that it is sent as
  routed_pendings : (h : Rows K) (asker : Region) (interest : InterestRow K) (g : Rows K) (fs : List (Face K)) → is_current interest.mode ≡ true → ((f : Face K) → is_target h asker interest.mode f ≡ is_target g asker interest.mode f)
      → flat_map (λ f. pendings_for (route_to h asker interest f) f) fs ≡ map (λ f. (f.number, f.next)) (filter (is_target g asker interest.mode) fs)
  unfolding route_to
  routed_pendings h asker interest g [] current alike = refl
  routed_pendings h asker interest g (f ∷ fs) current alike =
      let rest = routed_pendings h asker interest g fs current alike in
      by_test (is_target g asker interest.mode f)
      (λ here.
      let there : is_target h asker interest.mode f ≡ true = alike f ∙ here in
      rw (there, here, current, north f here) (ap (λ (ps : List (ℕ × ℕ)). (f.number, f.next) ∷ ps) rest))
      (λ here.
      let there : is_target h asker interest.mode f ≡ false = alike f ∙ here in
      rw (there, here) (by_test (is_north f.region) (λ up. rw up rest) (λ up. rw up rest)))
    where
      north : (f : Face K) → is_target g asker interest.mode f ≡ true → is_north f.region ≡ true
      north f here = unfold is_target in asked_north g interest.mode f (and_parts (not (is_north asker)) (is_asked g interest.mode f) here).1

  abbrev printed_pendings : ℕ → List Place → List (Sent K) → List (Face K) → List (ℕ × ℕ)
  printed_pendings n places ms fs = flat_map (λ f. pendings_for (printed_for (number_from 1 n f.number places) ms) f) fs

  interest_pendings : (n : ℕ) (places : List Place) (ms : List (Sent K)) (k id : ℕ) (mode : InterestMode) (options : InterestOptions) (e : Option K) (g : Rows K) → is_current mode ≡ true
      → (let c : PlainCall K = InterestCall k id mode options e in PrintsSends places n (said cmp matching c g) ms → Each (λ f. is_placed n f.number places ≡ true) g.faces → ListsAreInOrder cmp matching g → printed_pendings n places ms g.faces ≡ would_send cmp matching c g)
  unfolding parts_of said_by messages_for
  interest_pendings n places ms k id mode options e g current prints placed lists = heard ∙ cases (find_face k g)
    where
      c : PlainCall K
      c = InterestCall k id mode options e

      heard : printed_pendings n places ms g.faces ≡ flat_map (λ f. pendings_for (messages_for f.number (said cmp matching c g)) f) g.faces
      heard =
          flat_map_alike (λ f. pendings_for (printed_for (number_from 1 n f.number places) ms) f) (λ f. pendings_for (messages_for f.number (said cmp matching c g)) f) g.faces
          (each_weaker (λ f. is_placed n f.number places ≡ true) (λ f. pendings_for (printed_for (number_from 1 n f.number places) ms) f ≡ pendings_for (messages_for f.number (said cmp matching c g)) f)
          (λ f there. ap (λ xs. pendings_for xs f) (prints.own f.number there)) g.faces placed)

      nothing : (fs : List (Face K)) → flat_map (λ f. pendings_for (messages_for f.number []) f) fs ≡ []
      nothing [] = refl
      nothing (f ∷ fs) = by_test (is_north f.region) (λ up. rw up (nothing fs)) (λ up. rw up (nothing fs))

      cases : (o : Option (Face K))
          → flat_map (λ f. pendings_for (messages_for f.number (said_by cmp matching (elim o [ None ↦ [] | Some from ↦ asking cmp matching k id (row_of cmp matching from mode options e) from.region g ]) g)) f) g.faces
          ≡ (let ps : List (ℕ × ℕ) = elim o [ None ↦ [] | Some from ↦ sent_as g from.region mode ] in ps)
      cases None = nothing g.faces
      cases (Some from) =
          let interest = row_of cmp matching from mode options e in
          let h = with_numbers cmp (numbered_by cmp interest) g in
          let ss = said_by cmp matching (asking cmp matching k id interest from.region g) g in
          flat_map_alike (λ f. pendings_for (messages_for f.number ss) f) (λ f. pendings_for (route_to h from.region interest f) f) g.faces
          (each_weaker (λ f. messages_for f.number (to_each (route_to h from.region interest) g.faces) ≡ route_to h from.region interest f) (λ f. pendings_for (messages_for f.number ss) f ≡ pendings_for (route_to h from.region interest f) f)
          (λ f own. ap (λ ids. if is_north f.region then map (λ i. (f.number, i)) ids else []) (interest_asks k id interest from.region g f.number ∙ ap current_ids own))
          g.faces (messages_for_each 1 (route_to h from.region interest) g.faces lists.faces_rise))
          ∙ (unfold sent_as in routed_pendings h from.region interest g g.faces current (λ f. still_target (numbered_by cmp interest) from.region mode g f))

  -- A call changes what a transcript shows by the pendings that are printed for it as by those that it is sent as.
  pendings_are : (n : ℕ) (places : List Place) (ms : List (Sent K)) (c : PlainCall K) (g h : Rows K) → PrintsSends places n (said cmp matching c g) ms → Each (λ f. is_placed n f.number places ≡ true) g.faces → ListsAreInOrder cmp matching g
      → rows_shown cmp (printed_pendings n places ms g.faces) c h ≡ rows_shown cmp (would_send cmp matching c g) c h
  unfolding rows_shown
  pendings_are n places ms (InterestCall k id mode options e) g h prints placed lists =
      by_test (is_current mode)
      (λ current. ap (λ ps. rows_shown cmp ps (InterestCall k id mode options e) h) (interest_pendings n places ms k id mode options e g current prints placed lists))
      (λ current. still (find_face k h) (printed_pendings n places ms g.faces) (would_send cmp matching (InterestCall k id mode options e) g) current)
    where
      unasked : (ps : List (ℕ × ℕ)) (interest : InterestRow K) → is_current interest.mode ≡ false → asked_as ps id interest ≡ (λ f. record f { held = put_if (is_future interest.mode) id interest f.held; asks = f.asks })
      unasked ps interest current = ap (λ b. λ (f : Face K). record f { held = put_if (is_future interest.mode) id interest f.held; asks = put_if b id (record { interest = interest; pendings = ps; answered = [] }) f.asks }) current

      still : (o : Option (Face K)) (ps qs : List (ℕ × ℕ)) → is_current mode ≡ false
          → (let a : Rows K = elim o [ None ↦ h | Some f ↦ with_interest cmp k id ps (interest_kept f mode options e) h ] in a) ≡ elim o [ None ↦ h | Some f ↦ with_interest cmp k id qs (interest_kept f mode options e) h ]
      still None ps qs current = refl
      still (Some f) ps qs current =
          let interest = interest_kept f mode options e in
          let g1 = with_numbers cmp (numbered_by cmp interest) h in
          ap (λ change. with_face k change g1) (unasked ps interest current ∙ sym (unasked qs interest current))
  pendings_are n places ms (NewSession first) g h prints placed lists = refl
  pendings_are n places ms (NewTransport zid whatami region bound first) g h prints placed lists = refl
  pendings_are n places ms (DeclareCall k id e node interest) g h prints placed lists = refl
  pendings_are n places ms (UndeclareCall k id e node) g h prints placed lists = refl
  pendings_are n places ms (InterestFinalCall k id) g h prints placed lists = refl
  pendings_are n places ms (DeclareFinalCall k id) g h prints placed lists = refl
  pendings_are n places ms (CloseFace k) g h prints placed lists = refl
  pendings_are n places ms (Expire now) g h prints placed lists = refl
  pendings_are n places ms (SetTrees region t) g h prints placed lists = refl
  pendings_are n places ms (SetEntities k subscribers queryables) g h prints placed lists = refl

-- ---- the calls of lines

module _ {K : Type 0} where
  call_at_shown : (s : Fabric K) (n : ℕ) (c : PlainCall K) → call_at (as_shown s) n c ≡ call_shown (call_at s n c)
  call_at_shown s n c = ap found (nth_map node_shown n s.gateways) ∙ by_node (nth n s.gateways)
    where
      found : Option (Node K) → Option (CallAt K)
      found o = elim o [ None ↦ None | Some node ↦ Some (record { gateway = n; rows = node.rows; call = c }) ]

      by_node : (o : Option (Node K)) → found (elim o [ None ↦ None | Some node ↦ Some (node_shown node) ]) ≡ call_shown (found o)
      by_node None = refl
      by_node (Some node) = refl

  call_at_place_shown : (s : Fabric K) (c : PlainCall K) (o : Option Place) → call_at_place (as_shown s) c o ≡ call_shown (call_at_place s c o)
  call_at_place_shown s c None = refl
  call_at_place_shown s c (Some p) = call_at_shown s p.gateway (with_call_face p.face c)

  call_of_face_shown : (s : Fabric K) (c : PlainCall K) (o : Option ℕ) → call_of_face (as_shown s) c o ≡ call_shown (call_of_face s c o)
  call_of_face_shown s c None = refl
  call_of_face_shown s c (Some face) = call_at_place_shown s c (nth face s.faces)

  call_of_step_shown : (s : Fabric K) (back : Bool) (o : Option Link) → call_of_step (as_shown s) back o ≡ call_shown (call_of_step s back o)
  call_of_step_shown s back None = refl
  call_of_step_shown s back (Some link) = by_oldest (oldest s link back)
    where
      by_call : (o : Option (PlainCall K)) (p : Option Place)
          → (let at : Option (CallAt K) = elim o [ None ↦ None | Some call ↦ call_at_place (as_shown s) call p ] in at) ≡ call_shown (elim o [ None ↦ None | Some call ↦ call_at_place s call p ])
      by_call None p = refl
      by_call (Some call) p = call_at_place_shown s call p

      by_oldest : (o : Option (Message K))
          → (let at : Option (CallAt K) = elim o [ None ↦ None | Some m ↦ elim (call_of_message 0 m) [ None ↦ None | Some call ↦ call_at_place (as_shown s) call (nth (speaking_end link back) s.faces) ] ] in at)
          ≡ call_shown (elim o [ None ↦ None | Some m ↦ elim (call_of_message 0 m) [ None ↦ None | Some call ↦ call_at_place s call (nth (speaking_end link back) s.faces) ] ])
      by_oldest None = refl
      by_oldest (Some m) = by_call (call_of_message 0 m) (nth (speaking_end link back) s.faces)

  next_face_shown : (s : Fabric K) (n : ℕ) → next_face (nth n (as_shown s).gateways) ≡ next_face (nth n s.gateways)
  next_face_shown s n = ap next_face (nth_map node_shown n s.gateways) ∙ by_node (nth n s.gateways)
    where
      by_node : (o : Option (Node K)) → next_face (elim o [ None ↦ None | Some node ↦ Some (node_shown node) ]) ≡ next_face o
      by_node None = refl
      by_node (Some node) = refl

  -- ---- one gateway changed

  rows_changed : (n : ℕ) (one two : Rows K → Rows K) (s : Fabric K) (node : Node K) → nth n s.gateways ≡ Some node → one (without_own node.rows) ≡ without_own (two node.rows)
      → with_rows n one (as_shown s) ≡ as_shown (with_rows n two s)
  rows_changed n one two s node at_ same_ =
      ap (λ (gs : List (Node K)). record s { gateways = gs })
      (at_nth_map node_shown (λ (x : Node K). record x { rows = one x.rows }) (λ (x : Node K). record x { rows = two x.rows }) n s.gateways node at_ (ap (λ (g : Rows K). record node { rows = g }) same_))

  rows_changed_all : (n : ℕ) (one two : Rows K → Rows K) (s : Fabric K) → ((g : Rows K) → one (without_own g) ≡ without_own (two g)) → with_rows n one (as_shown s) ≡ as_shown (with_rows n two s)
  rows_changed_all n one two s same_ = ap (λ (gs : List (Node K)). record s { gateways = gs }) (each n s.gateways)
    where
      each : (k : ℕ) (gs : List (Node K)) → at_nth k (λ (x : Node K). record x { rows = one x.rows }) (map node_shown gs) ≡ map node_shown (at_nth k (λ (x : Node K). record x { rows = two x.rows }) gs)
      each k [] = refl
      each k (x ∷ gs) =
          by_test (k == 1)
          (λ here. rw here (ap (λ (g : Rows K). record x { rows = g } ∷ map node_shown gs) (same_ x.rows)))
          (λ here. rw here (ap (λ (ys : List (Node K)). node_shown x ∷ ys) (each (k - 1) gs)))

  without_message_shown : (n : ℕ) (back : Bool) (s : Fabric K) → without_message n back (as_shown s) ≡ as_shown (without_message n back s)
  without_message_shown n back s = cases (nth n s.links)
    where
      cases : (o : Option Link) → (let t : Fabric K = elim o [ None ↦ as_shown s | Some link ↦ with_taken (sending_end link back) (as_shown s) ] in t) ≡ as_shown (elim o [ None ↦ s | Some link ↦ with_taken (sending_end link back) s ])
      cases None = refl
      cases (Some link) = refl

  without_link_shown : (n : ℕ) (s : Fabric K) → without_link n (as_shown s) ≡ as_shown (without_link n s)
  without_link_shown n s = cases (nth n s.links)
    where
      cases : (o : Option Link) → (let t : Fabric K = elim o [ None ↦ as_shown s | Some link ↦ record (as_shown s) { links = at_nth n (λ l. record l { is_open = false }) s.links; waiting = without_id link.one (without_id link.two s.waiting) } ] in t)
          ≡ as_shown (elim o [ None ↦ s | Some link ↦ record s { links = at_nth n (λ l. record l { is_open = false }) s.links; waiting = without_id link.one (without_id link.two s.waiting) } ])
      cases None = refl
      cases (Some link) = refl

  -- ---- the ends of a link

  end_shown : LinkEnd K → LinkEnd K
  end_shown end = record end { node = node_shown end.node; other = node_shown end.other }

  link_ends_shown : (s : Fabric K) (one two first back : ℕ) → link_ends (as_shown s) one two first back ≡ map end_shown (link_ends s one two first back)
  unfolding end_shown
  link_ends_shown s one two first back =
      ap (λ (o : Option (Node K)). ends o (nth two (map node_shown s.gateways))) (nth_map node_shown one s.gateways)
      ∙ ap (λ (o : Option (Node K)). ends (shown (nth one s.gateways)) o) (nth_map node_shown two s.gateways)
      ∙ cases (nth one s.gateways) (nth two s.gateways)
    where
      ends : Option (Node K) → Option (Node K) → List (LinkEnd K)
      ends a b = elim a [
        | None ↦ []
        | Some a ↦
            elim b [
              | None ↦ []
              | Some b ↦ record { gateway = one; node = a; beyond = two; other = b; first = first } ∷ record { gateway = two; node = b; beyond = one; other = a; first = back } ∷ []
            ]
      ]

      shown : Option (Node K) → Option (Node K)
      shown o = elim o [ None ↦ None | Some node ↦ Some (node_shown node) ]

      cases : (a b : Option (Node K)) → ends (shown a) (shown b) ≡ map end_shown (ends a b)
      cases None b = refl
      cases (Some a) None = refl
      cases (Some a) (Some b) = refl

module _ {K : Type 0} (cmp : K → K → Ordering) (matching : K → K → Bool) where
  opening_at_shown : (t : Fabric K) (end : LinkEnd K) → opening_at cmp matching (as_shown t) (end_shown end) ≡ call_shown (opening_at cmp matching t end)
  unfolding end_shown end_region
  opening_at_shown t end = cases (end_call end)
    where
      cases : (o : Option (PlainCall K)) → (let at : Option (CallAt K) = elim o [ None ↦ None | Some call ↦ call_at (as_shown t) end.gateway call ] in at) ≡ call_shown (elim o [ None ↦ None | Some call ↦ call_at t end.gateway call ])
      cases None = refl
      cases (Some call) = call_at_shown t end.gateway call

  -- a face that a call opens
  opened_shown : (n : ℕ) (zid : Zid) (whatami : WhatAmI) (region : Region) (bound : Bound) (first : ℕ) (t : Fabric K)
      → (let at : Option (CallAt K) = call_at t n (NewTransport zid whatami region bound first) in with_opening cmp matching (call_shown at) (as_shown t) ≡ as_shown (opened_at cmp matching at t))
  unfolding parts_of altered_by rows_shown
  opened_shown n zid whatami region bound first t =
      let c : PlainCall K = NewTransport zid whatami region bound first in
      called_at (λ at. with_opening cmp matching (call_shown at) (as_shown t) ≡ as_shown (opened_at cmp matching at t)) t n c refl
      (λ node at_.
      ap (λ k. with_rows n (with_new_transport zid whatami region bound first) (record (as_shown t) { faces = t.faces ++ record { gateway = n; face = k } ∷ [] })) (next_face_shown t n)
      ∙ rows_changed_all n (with_new_transport zid whatami region bound first) (opened zid whatami region bound first) (with_place n t) (λ g. sym (ap without_own (opened_is_made zid whatami region bound first g))))

  openings_shown : (ends : List (LinkEnd K)) (t : Fabric K) → with_openings cmp matching (map end_shown ends) (as_shown t) ≡ as_shown (opened_ends cmp matching ends t)
  unfolding with_openings opened_ends
  openings_shown [] t = refl
  openings_shown (end ∷ ends) t =
      ap (λ at. with_openings cmp matching (map end_shown ends) (with_opening cmp matching at (as_shown t))) (opening_at_shown t end)
      ∙ ap (with_openings cmp matching (map end_shown ends))
      (by_end cmp matching (λ o. (let at : Option (CallAt K) = elim o [ None ↦ None | Some call ↦ call_at t end.gateway call ] in with_opening cmp matching (call_shown at) (as_shown t) ≡ as_shown (opened_at cmp matching at t))) end refl
      (λ zid whatami region bound. opened_shown end.gateway zid whatami region bound end.first t))
      ∙ openings_shown ends (opened_at cmp matching (opening_at cmp matching t end) t)

  -- a face that a line closes
  closing_shown : (face : ℕ) (t : Fabric K) → with_call cmp matching [] (closing_call (as_shown t) face) (as_shown t) ≡ as_shown (altered_at cmp matching t (closing_call t face))
  unfolding rows_shown
  closing_shown face t =
      ap (λ at. with_call cmp matching [] at (as_shown t)) (call_at_place_shown t (CloseFace face) (nth face t.faces))
      ∙ closing_case cmp matching (λ at. with_call cmp matching [] (call_shown at) (as_shown t) ≡ as_shown (altered_at cmp matching t at)) t face refl
      (λ n k node at_. rows_changed n _ (altered cmp matching (CloseFace k)) t node at_ (sym (closed_shown cmp matching k [] node.rows)))

  closings_shown : (faces : List ℕ) (t : Fabric K) → with_closings cmp matching faces (as_shown t) ≡ as_shown (closed_ends cmp matching faces t)
  unfolding with_closings closed_ends
  closings_shown [] t = refl
  closings_shown (face ∷ faces) t = ap (with_closings cmp matching faces) (closing_shown face t) ∙ closings_shown faces (altered_at cmp matching t (closing_call t face))

  -- ---- lines

  module _ (total : IsTotalOrder cmp) where
    -- a call that is made at its gateway
    called_shown : (n : ℕ) (node : Node K) (c : PlainCall K) (s : Fabric K) (waiting : ById (List (Message K))) → nth n s.gateways ≡ Some node → FabricIsInOrder cmp matching s
        → (let at : Option (CallAt K) = Some (record { gateway = n; rows = node.rows; call = c }) in
        let t : Fabric K = record s { waiting = waiting } in
        with_call cmp matching (sorted_by_face (said_at cmp matching s at)) (call_shown at) (as_shown t) ≡ as_shown (altered_at cmp matching t at))
    called_shown n node c s waiting at_ fine =
        let gateway = gateway_in_order cmp matching s n node at_ fine in
        let lists = gateway.rows.lists in
        let ms = sorted_by_face (map (printed_message s n) (said cmp matching c node.rows)) in
        rows_changed n _ (altered cmp matching c) (record s { waiting = waiting }) node at_
        (pendings_are cmp matching n s.faces ms c node.rows (without_own node.rows) (prints_sorted s.faces n (said cmp matching c node.rows)) gateway.placed lists
        ∙ call_shown_is cmp matching total c node.rows lists)

    abbrev IsShown : Fabric K → Option (CallAt K) → Type 0
    IsShown s at = with_call cmp matching (sorted_by_face (said_at cmp matching s at)) (call_shown at) (as_shown s) ≡ as_shown (altered_at cmp matching s at)

    -- What an accepted line itself changes, with what the machine prints for it.
    pub line_is_shown : (line : PlainLine K) (s : Fabric K) → FabricIsInOrder cmp matching s → fabric_with cmp matching line (sorted_by_face (said_by_line cmp matching line s)) (as_shown s) ≡ as_shown (altered_by_line cmp matching line s)
    unfolding fabric_with altered_by_line said_by_line call_of
    line_is_shown (Gateway mode zid regions south name timeout refused) s fine =
        ap (λ (gs : List (Node K)). record s { gateways = gs }) (sym (map-append node_shown s.gateways (record { rows = new_rows mode zid regions timeout refused; south = south; name = name } ∷ [])))
    line_is_shown (Session n first) s fine =
        ap (λ k. record (with_rows n (opened_session first) (as_shown s)) { faces = s.faces ++ record { gateway = n; face = k } ∷ [] }) (next_face_shown s n)
        ∙ ap (λ (t : Fabric K). record t { faces = s.faces ++ record { gateway = n; face = next_face (nth n s.gateways) } ∷ [] }) (rows_changed_all n (opened_session first) (opened_session first) s (λ g. refl))
    line_is_shown (FaceLine n mode zid region bound first) s fine =
        ap (λ at. with_opening cmp matching at (as_shown s)) (call_at_shown s n (NewTransport zid mode region bound first)) ∙ opened_shown n zid mode region bound first s
    line_is_shown (LinkLine one two first back) s fine =
        ap (λ ends. with_openings cmp matching ends (with_link (as_shown s))) (link_ends_shown s one two first back) ∙ openings_shown (link_ends s one two first back) (with_link s)
    line_is_shown (Unlink link) s fine =
        ap (without_link link) (closings_shown (both_ends cmp matching s link) s) ∙ without_link_shown link (closed_ends cmp matching (both_ends cmp matching s link) s)
    line_is_shown (Step link back) s fine =
        let at = call_of_step s back (nth link s.links) in
        let ms = sorted_by_face (said_at cmp matching s at) in
        let taken = without_message_is cmp matching link back s in
        ap (λ o. with_call cmp matching ms o (without_message link back (as_shown s))) (call_of_step_shown s back (nth link s.links))
        ∙ ap (with_call cmp matching ms (call_shown at)) (without_message_shown link back s)
        ∙ subst (λ (t : Fabric K). with_call cmp matching ms (call_shown at) (as_shown t) ≡ as_shown (altered_at cmp matching t at)) (sym taken.1)
        (called_by_step (λ o. with_call cmp matching (sorted_by_face (said_at cmp matching s o)) (call_shown o) (as_shown (record s { waiting = taken.0 })) ≡ as_shown (altered_at cmp matching (record s { waiting = taken.0 }) o)) s back (nth link s.links) refl
        (λ n node c at_ still. called_shown n node c s taken.0 at_ fine))
    line_is_shown (Speak c) s fine =
        ap (λ o. with_call cmp matching (sorted_by_face (said_at cmp matching s (call_of_face s c (call_face c)))) o (as_shown s)) (call_of_face_shown s c (call_face c))
        ∙ called_by_speaker (IsShown s) s c refl (λ n node call at_ still. called_shown n node call s s.waiting at_ fine)
    line_is_shown (Moment n now) s fine =
        ap (λ o. with_call cmp matching (sorted_by_face (said_at cmp matching s (call_at s n (Expire now)))) o (as_shown s)) (call_at_shown s n (Expire now))
        ∙ called_at (IsShown s) s n (Expire now) refl (λ node at_. called_shown n node (Expire now) s s.waiting at_ fine)
    line_is_shown (SetTreesAt n region t) s fine =
        ap (λ o. with_call cmp matching (sorted_by_face (said_at cmp matching s (call_at s n (SetTrees region (table_at s n t))))) o (as_shown s)) (call_at_shown s n (SetTrees region (table_at s n t)))
        ∙ called_at (IsShown s) s n (SetTrees region (table_at s n t)) refl (λ node at_. called_shown n node (SetTrees region (table_at s n t)) s s.waiting at_ fine)

    hearing_shown : (ms : List (Sent K)) (s : Fabric K) → after_hearing cmp ms (as_shown s) ≡ as_shown (after_hearing cmp ms s)
    unfolding gateways_after_hearing
    hearing_shown ms s = ap (λ (gs : List (Node K)). record s { gateways = gs }) (each 1 s.gateways)
      where
        each : (k : ℕ) (gs : List (Node K)) → gateways_after_hearing cmp (as_shown s) ms k (map node_shown gs) ≡ map node_shown (gateways_after_hearing cmp s ms k gs)
        each k [] = refl
        each k (node ∷ gs) = ap (λ (xs : List (Node K)). node_shown (record node { rows = rows_after_hearing cmp s ms k node.rows }) ∷ xs) (each (k + 1) gs)

    refused_shown : (line : PlainLine K) (r : Refusal) (s : Fabric K) → after_refusal cmp matching line r (as_shown s) ≡ as_shown (after_refusal cmp matching line r s)
    refused_shown (Step link back) r s = by_test (nat_lt 3 (number_of r)) (λ here. rw here (without_message_shown link back s)) (λ here. rw here refl)
    refused_shown (Gateway mode zid regions south name timeout refused) r s = refl
    refused_shown (Session gateway first) r s = refl
    refused_shown (FaceLine gateway mode zid region bound first) r s = refl
    refused_shown (LinkLine one two first back) r s = refl
    refused_shown (Unlink link) r s = refl
    refused_shown (Speak call) r s = refl
    refused_shown (Moment gateway now) r s = refl
    refused_shown (SetTreesAt gateway region table) r s = refl

    -- The fabric that a transcript shows after the machine's entry is what the machine keeps then, but for own rows.
    pub fabric_is_shown : (line : PlainLine K) (s : Fabric K) → FabricIsInOrder cmp matching s
        → (let entry = entry_of cmp matching line s in fabric_shown cmp matching line entry (as_shown s) ≡ as_shown (fabric_after cmp matching line entry s))
    unfolding fabric_shown fabric_after entry_of
    fabric_is_shown line s fine = cases (first_cause (line_causes cmp matching (line_spends_ids cmp matching line s) line s))
      where
        ms : List (Sent K)
        ms = sorted_by_face (said_by_line cmp matching line s)

        cases : (o : Option Refusal) → (let entry = entry_by cmp matching o ms in fabric_shown cmp matching line entry (as_shown s) ≡ as_shown (fabric_after cmp matching line entry s))
        cases None = ap (λ t. with_waiting ms (after_hearing cmp ms t)) (line_is_shown line s fine) ∙ ap (with_waiting ms) (hearing_shown ms (altered_by_line cmp matching line s))
        cases (Some r) = refused_shown line r s

    -- What each line brings about in the machine, from fabrics where something holds on, each turn of the transcript has.
    pub turns_have : (P : Turn K → Type 0) (Holds : Fabric K → Type 0)
        → ((line : PlainLine K) (s : Fabric K) → HasFirstIds line → FabricIsInOrder cmp matching s → Holds s
        → (let entry = entry_of cmp matching line s in
        let after = fabric_after cmp matching line entry s in
        P (record { line = line; entry = entry; before = as_shown s; after = as_shown after }) × Holds after))
        → (lines : List (PlainLine K)) (s : Fabric K) → Each HasFirstIds lines → FabricIsInOrder cmp matching s → Holds s
        → Each P (turns_from cmp matching lines (entries_from cmp matching lines s) (as_shown s))
    unfolding turns_from entries_from
    turns_have P Holds each [] s real fine holds = tt
    turns_have P Holds each (line ∷ lines) s real fine holds =
        let entry = entry_of cmp matching line s in
        let next = fabric_after cmp matching line entry s in
        let both = each line s real.0 fine holds in
        let is = sym (fabric_is_shown line s fine) in (
          subst (λ (after : Fabric K). P (record { line = line; entry = entry; before = as_shown s; after = after })) is both.0,
          subst (λ (after : Fabric K). Each P (turns_from cmp matching lines (entries_from cmp matching lines next) after)) is
              (turns_have P Holds each lines next real.1 (in_order_after_line cmp matching total line s real.0 fine) both.1),
        )
