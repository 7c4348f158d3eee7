-- Tokens of routers, interests and openings draw what they need, and so does each call.
use Rattle.std.proofs.Common.{◌≡◌, ℕ, ◌+◌, ◌≤◌, Bool, true, false, not, if◌then◌else◌, ◌&&◌, ◌==◌, List, [], ◌∷◌, ◌++◌, length, map, filter, Option, Some, None, is_none, is_some, refl, sym, ap, ◌∙◌, subst, arith, eqb-true, ne_eqb, eq-eqb, append-nil}
use Rattle.std.proofs.Math.Bool.{or-false}
use Rattle.std.specs.Cmp.{IsTotalOrder}
use Rattle.std.specs.List.{flat_map}
use Rattle.std.specs.declared.cmp.Ordering.{Ordering}
use Rattle.zt_region.specs.declared.region.Bound.{Bound}
use Rattle.zt_region.specs.declared.region.Region.{Region}
use Rattle.zt_region.specs.declared.region.WhatAmI.{WhatAmI}
use Rattle.zt_region.specs.declared.region.Zid.{Zid}
use Rattle.zt_region.specs.Region.{is_north}
use Rattle.zt_protocol.specs.Interest.{is_current, is_future, has_tokens}
use Rattle.zt_protocol.specs.Plain.{PlainCall, NewSession, NewTransport, DeclareToken, UndeclareToken, Interest, InterestFinal, DeclareFinal, CloseFace, Expire, SetTrees, SetEntities}
use Rattle.zt_protocol.specs.declared.interests.InterestMode.{InterestMode}
use Rattle.zt_protocol.specs.declared.interests.InterestMode.TheVariants.{CurrentFuture}
use Rattle.zt_protocol.specs.declared.interests.InterestOptions.{InterestOptions}
use Rattle.zt_protocol.specs.declared.messages.Message.{Message}
use Rattle.zt_protocol.specs.declared.messages.Message.TheVariants as message
use Rattle.zt_model.specs.Entities.{entities_for, numbered_by, with_numbers}
use Rattle.zt_model.specs.Hat.{hat_of}
use Rattle.zt_model.specs.Hearing.{heard, heard_all, messages_for, rows_heard}
use Rattle.zt_model.specs.Lists.{in_key_order}
use Rattle.zt_model.specs.Refusals.{answers_nothing, call_causes, can_draw, faces_with, first_cause, ids_for_interest, ids_for_opening, is_unknown_ask, is_unknown_router, need}
use Rattle.zt_model.specs.Routing.{asked_as, face_opened, held_south, interest_order, is_greeted, final_of, is_target, interests_from, leads_up, opened, opening, opening_final, opening_interests, opening_tokens, route_to, sent_as, tokens_from}
use Rattle.zt_model.specs.Rows.{ById, Face, InterestRow, Rows}
use Rattle.zt_model.specs.Says.{Alter, Say, answered_expressions, answering, answers_of, asking, declaring, declaring_of, find_face, is_routed, is_told, parts_of, registers, row_of, tell_to, to_each, to_face, with_face}
use Rattle.zt_model.specs.Seen.{sees}
use Rattle.zt_model.specs.Transcript.{Each}
use Rattle.zt_model.specs.Trees.{pass_to, showing, source_of, with_routed}
use Rattle.zt_model.specs.Visible.{keeps, live_rows, shows, visible_expressions}
use Rattle.zt_model.specs.Wants.{is_about}
use Rattle.zt_laws.specs.Effects.{next_after_answers, not_named}
use Rattle.zt_laws.specs.Order.{RowsAreInOrder}
use Rattle.zt_laws.specs.Sound.{CallHasFirstIds, IsToldInOrder, rows_after_call}
use Rattle.zt_laws.proofs.Calls.{no_cause, not_on_face}
use Rattle.zt_laws.proofs.CallsOrder.{quiet_numbers, quiet_with_routed, transport_in_order}
use Rattle.zt_laws.proofs.Faces.{is_told_alike}
use Rattle.zt_laws.proofs.Hearing.{each_ruled, each_ruled_one, find_only, heard_all-held, heard_all-number, heard_all-region}
use Rattle.zt_laws.proofs.Interests.{heard_answers, heard_final}
use Rattle.zt_laws.proofs.Lists.{by_test, each_always, each_both, each_filter, each_map, each_weaker, filter_alike, map-map, never, of_cond}
use Rattle.zt_laws.proofs.PartsOrder.{each_message_for, each_of_map, heard_in_order, in_order_by, lists_heard, nothing_told, orderly_each, tolds, tolds_in_order}
use Rattle.zt_laws.proofs.Seen.{sees_is}
use Rattle.zt_laws.proofs.Silent.{silent_opening_final, silent_route}
use Rattle.zt_laws.proofs.ToldOrder.{DrawsNothing, TellsNothing, in_order_nothings, interests_tell_nothing}
use Rattle.zt_laws.specs.Kept.{told_of}
use Rattle.zt_theorem_soundness.specs.Ran.{ran}
use Rattle.zt_theorem_soundness.specs.Sound.{IsSound}
use Rattle.zt_theorem_soundness.proofs.Asking.{asked_face}
use Rattle.zt_theorem_soundness.proofs.CallsRun.{call_runs, each_entity, live_rows_heard}
use Rattle.zt_theorem_soundness.proofs.Ends.{with_face_same}
use Rattle.zt_theorem_soundness.proofs.Going.{IsQuietMessage, drawn_if_quiet, hears, ordered_altered, ordered_heard, silent_ordered, speaks_each}
use Rattle.zt_theorem_soundness.proofs.Interests.{face_hears_twice, with_face_faces}
use Rattle.zt_theorem_soundness.proofs.Opening.{flat_map-append, new_same, speaks_one}
use Rattle.zt_theorem_soundness.proofs.Parts.{each_pass, nobody}
use Rattle.zt_theorem_drawn_ids.proofs.Drawn.{drawn_alike, drawn_plain, drawn_telling, told_count, told_quiet, token_count}
use Rattle.zt_theorem_drawn_ids.proofs.Nexts.{HaveDrawn, drawn_by, drawn_silent, drawn_then, interests_next, next_silent, tokens_next}

-- the message neither tells nor untells
abbrev TellsNone : {K : Type 0} → Message K → Type 0
TellsNone (message.DeclareToken id e interest node) = ⊥
TellsNone (message.UndeclareToken id e node) = ⊥
TellsNone _ = Unit {0}

module _ {K : Type 0} (cmp : K → K → Ordering) where
  told_left : (now : ℕ) (ms : List (Message K)) (f : Face K) → Each TellsNone ms → (heard_all cmp now ms f).told ≡ f.told
  unfolding heard_all
  told_left now [] f none_ = refl
  told_left now (m ∷ ms) f none_ = told_left now ms (heard cmp now m f) none_.1 ∙ one m none_.0
    where
      one : (m : Message K) → TellsNone m → (heard cmp now m f).told ≡ f.told
      one (message.DeclareToken id e interest node) is = absurd is
      one (message.UndeclareToken id e node) is = absurd is
      one (message.DeclareFinal interest) is = refl
      one (message.Interest id mode options e) is = refl
      one (message.InterestFinal id) is = refl
      one (message.DeclareSubscriber id e interest) is = refl
      one (message.DeclareQueryable id e info interest) is = refl

  module _ (matching : K → K → Bool) where
    -- ---- rows that show the same

    pub visible_as : (g h : Rows K) (own : Region) → live_rows h ≡ live_rows g → visible_expressions cmp h own ≡ visible_expressions cmp g own
    unfolding visible_expressions
    visible_as g h own live_ =
        seen h
        ∙ ap (λ (rows : List (Region × K)). in_key_order cmp (map (λ row. row.1) (filter (λ row. sees own row.0) rows))) live_
        ∙ sym (seen g)
      where
        -- who sees a region goes by the region alone
        seen : (k : Rows K) → in_key_order cmp (map (λ row. row.1) (filter (λ row. shows k.mode own row.0) (live_rows k))) ≡ in_key_order cmp (map (λ row. row.1) (filter (λ row. sees own row.0) (live_rows k)))
        seen k =
            ap (λ (rows : List (Region × K)). in_key_order cmp (map (λ row. row.1) rows))
            (filter_alike (λ row. shows k.mode own row.0) (λ row. sees own row.0) (live_rows k)
            (each_always (λ row. shows k.mode own row.0 ≡ sees own row.0) (λ row. sym (sees_is k.mode own row.0)) (live_rows k)))

    answered_as : (g h : Rows K) (interest : InterestRow K) (f k : Face K) → live_rows h ≡ live_rows g → k.region ≡ f.region → answered_expressions cmp matching h interest k ≡ answered_expressions cmp matching g interest f
    unfolding answered_expressions
    answered_as g h interest f k live_ region_ =
        ap (λ es. if is_current interest.mode && has_tokens interest.options then filter (is_about matching interest.expr) es else [])
        (ap (visible_expressions cmp h) region_ ∙ visible_as g h f.region live_)

    -- the dictionary says nothing of targets
    target_numbered : (es : List K) (g : Rows K) (asker : Region) (mode : InterestMode) (f : Face K) → is_target (with_numbers cmp es g) asker mode f ≡ is_target g asker mode f
    unfolding is_target
    target_numbered es g asker mode f = refl

    route_next : (g : Rows K) (asker : Region) (interest : InterestRow K) (f : Face K) → (heard_all cmp g.moment (route_to g asker interest f) f).next ≡ f.next + (if is_target g asker interest.mode f then 1 else 0)
    unfolding route_to heard_all
    route_next g asker interest f = by_test (is_target g asker interest.mode f) (λ here. rw here (omega arith)) (λ here. rw here (omega arith))

    route_tells_none : (g : Rows K) (asker : Region) (interest : InterestRow K) (f : Face K) → Each TellsNone (route_to g asker interest f)
    unfolding route_to
    route_tells_none g asker interest f = of_cond (Each TellsNone) (is_target g asker interest.mode f) (message.Interest f.next interest.mode interest.options interest.expr ∷ []) [] (λ _. (tt, tt)) (λ _. tt)

    chosen_interests : (n : ℕ) (g : Rows K) (k : Face K) → (heard_all cmp g.moment (if n == k.number then interests_from k.next (opening_interests cmp matching g k) else []) k).next ≡ k.next + (if n == k.number then length (opening_interests cmp matching g k) else 0)
    unfolding heard_all
    chosen_interests n g k = by_test (n == k.number) (λ here. rw here (interests_next cmp matching g.moment k.next (opening_interests cmp matching g k) k refl)) (λ here. rw here (omega arith))

    chosen_tokens : (n : ℕ) (g : Rows K) (k : Face K) → (heard_all cmp g.moment (if n == k.number then tokens_from k.next (opening_tokens cmp matching g k) else []) k).next ≡ k.next + (if n == k.number then length (opening_tokens cmp matching g k) else 0)
    unfolding heard_all
    chosen_tokens n g k = by_test (n == k.number) (λ here. rw here (tokens_next cmp matching g.moment k.next (opening_tokens cmp matching g k) k refl)) (λ here. rw here (omega arith))

    module _ (total : IsTotalOrder cmp) where
      -- ---- tokens of routers

      drawn_routed : (n : ℕ) (source : Zid) (e : K) (region : Region) (g : Rows K) → RowsAreInOrder cmp matching g
          → HaveDrawn (told_count cmp matching total g region e) g (ran cmp (Alter (with_routed cmp region source e) ∷ Say (λ h. filter (λ s. not (n == s.0)) (to_each (pass_to cmp h region source e) h.faces)) ∷ Say (λ h. to_each (tell_to cmp matching h region e) h.faces) ∷ showing cmp region e) g)
      unfolding ran with_routed rows_heard
      drawn_routed n source e region g ordered =
          let h = with_routed cmp region source e g in
          let o1 = ordered_altered cmp matching (with_routed cmp region source e) g (quiet_with_routed cmp matching total region source e) ordered in
          let all = to_each (pass_to cmp h region source e) h.faces in
          let ss = filter (λ s. not (n == s.0)) all in
          let quiet = each_filter (λ s. IsQuietMessage s.1) (λ s. not (n == s.0)) all (each_pass cmp matching h region source e) in
          let silent = each_weaker (λ s. IsQuietMessage s.1) (λ s. DrawsNothing s.1) (λ s one. drawn_if_quiet s.1 one) ss quiet in
          let k = rows_heard cmp ss h in
          let o2 = silent_ordered cmp matching ss h silent o1 in
          drawn_then (λ f. 0) (told_count cmp matching total k region e) (told_count cmp matching total g region e) (hears cmp matching ss h) g k (ran cmp (Say (λ x. to_each (tell_to cmp matching x region e) x.faces) ∷ showing cmp region e) k) refl (drawn_telling cmp matching total region e k o2)
          (each_weaker (λ f. (hears cmp matching ss h f).next ≡ f.next) (λ f. (hears cmp matching ss h f).next + told_count cmp matching total k region e (hears cmp matching ss h f) ≡ f.next + told_count cmp matching total g region e f)
          (λ f next_.
          ap (λ j. j + told_count cmp matching total k region e (hears cmp matching ss h f)) next_
          ∙ ap (λ b. f.next + (if b then 1 else 0))
          (is_told_alike cmp matching g region e (hears cmp matching ss h f) f (heard_all-region cmp h.moment (messages_for f.number ss) f) (told_quiet cmp matching h.moment (messages_for f.number ss) f (each_message_for cmp IsQuietMessage f.number ss quiet)) (heard_all-held cmp h.moment (messages_for f.number ss) f)))
          h.faces (drawn_silent cmp matching ss h o1 silent))

      -- ---- interests

      -- what the face that asks draws for its answers
      asked_next : (pendings : List (ℕ × ℕ)) (id : ℕ) (interest : InterestRow K) (h : Rows K) (now : ℕ) (f : Face K) → IsToldInOrder cmp f.told f.next
          → (asked_face cmp matching pendings id interest h now f).next ≡ next_after_answers cmp matching interest.mode (answered_expressions cmp matching h interest (asked_as pendings id interest f)) f
      asked_next pendings id interest h now f told =
          let one = asked_as pendings id interest f in
          let two = heard_all cmp now (answers_of cmp matching h id interest one) one in
          (heard_final cmp matching now id two).1 ∙ (heard_answers cmp matching now interest.mode id (answered_expressions cmp matching h interest one) one told).1

      after_answers : (mode : InterestMode) (es : List K) (f : Face K) → next_after_answers cmp matching mode es f ≡ f.next + (if is_future mode then length (not_named cmp f.told es) else 0)
      after_answers mode es f = by_test (is_future mode) (λ here. rw here refl) (λ here. rw here (omega arith))

      pub drawn_asking : (n id : ℕ) (mode : InterestMode) (options : InterestOptions) (e : Option K) (from : Face K) (g : Rows K) → find_face n g ≡ Some from → RowsAreInOrder cmp matching g
          → HaveDrawn (λ f. ids_for_interest cmp matching n mode options e g f + (if is_target g from.region mode f then 1 else 0)) g (ran cmp (asking cmp matching n id (row_of cmp matching from mode options e) from.region g) g)
      unfolding ran rows_heard
      drawn_asking n id mode options e from g found ordered =
          let interest = row_of cmp matching from mode options e in
          let asker = from.region in
          let pendings = sent_as g asker mode in
          let g1 = with_numbers cmp (numbered_by cmp interest) g in
          let o1 = ordered_altered cmp matching (with_numbers cmp (numbered_by cmp interest)) g (quiet_numbers cmp matching total (numbered_by cmp interest)) ordered in
          let ss2 = to_each (route_to g1 asker interest) g1.faces in
          let g2 = rows_heard cmp ss2 g1 in
          let o2 = ordered_heard cmp matching (λ h. to_each (route_to h asker interest) h.faces) g1 (orderly_each cmp matching (λ h f. route_to h asker interest f) (λ h f told. in_order_nothings cmp (route_to h asker interest f) (told_of f) (silent_route h asker interest f) told)) o1 in
          let ss3 = to_face n (entities_for cmp matching g2 id interest) g2 in
          let quiet3 = each_ruled_one IsQuietMessage n (entities_for cmp matching g2 id interest) g2 (each_entity cmp IsQuietMessage (λ number k i. tt) (λ number k info i. tt) matching g2 id interest) in
          let silent3 = each_weaker (λ s. IsQuietMessage s.1) (λ s. DrawsNothing s.1) (λ s one. drawn_if_quiet s.1 one) ss3 quiet3 in
          let g3 = rows_heard cmp ss3 g2 in
          let o3 = silent_ordered cmp matching ss3 g2 silent3 o2 in
          let h1 = with_face n (asked_as pendings id interest) g3 in
          let three = asked_face cmp matching pendings id interest h1 g3.moment in
          let chosen = λ (f : Face K). if n == f.number then three f else f in
          let last = with_face n three g3 in
          let is : ran cmp (asking cmp matching n id interest asker g) g ≡ last = face_hears_twice cmp matching n (asked_as pendings id interest) (answers_of cmp matching h1 id interest) (final_of id) g3 o3 (λ f. refl) in
          let answers = ids_for_interest cmp matching n mode options e g in
          let target = λ (f : Face K). if is_target g asker mode f then 1 else 0 in
          let two = hears cmp matching ss2 g1 in
          let thr = hears cmp matching ss3 g2 in
          let live_h1 : live_rows h1 ≡ live_rows g = (with_face_same n (asked_as pendings id interest) g3 (λ f. refl) (λ f. refl)).live ∙ live_rows_heard cmp ss3 g2 ∙ live_rows_heard cmp ss2 g1 in
          let at_two = each_weaker (λ f. false ≡ false → messages_for f.number ss2 ≡ route_to g1 asker interest f) (λ f. ((two f).next ≡ f.next + target f) × ((two f).told ≡ f.told))
          (λ f says. (
            ap (λ ms. (heard_all cmp g1.moment ms f).next) (says refl) ∙ route_next g1 asker interest f ∙ ap (λ b. f.next + (if b then 1 else 0)) (target_numbered (numbered_by cmp interest) g asker mode f),
            told_left g1.moment (messages_for f.number ss2) f (each_message_for cmp TellsNone f.number ss2 (each_ruled TellsNone (route_to g1 asker interest) g1.faces (route_tells_none g1 asker interest))),
          ))
          g1.faces (speaks_each cmp matching nobody (route_to g1 asker interest) g1 o1) in
          let at_three = each_of_map (λ k. (thr k).next ≡ k.next) two g1.faces (drawn_silent cmp matching ss3 g2 o2 silent3) in
          let ordered_three = each_of_map (λ k. IsToldInOrder cmp (thr k).told (thr k).next) two g1.faces (each_of_map (λ k. IsToldInOrder cmp k.told k.next) thr (map two g1.faces) o3.told) in
          let facts = each_both (λ f. ((two f).next ≡ f.next + target f) × ((two f).told ≡ f.told)) (λ f. (thr (two f)).next ≡ (two f).next) (λ f. ((thr (two f)).next ≡ f.next + target f) × ((two f).told ≡ f.told)) (λ f a b. (b ∙ a.0, a.1)) g1.faces at_two at_three in
          let all = each_both (λ f. ((thr (two f)).next ≡ f.next + target f) × ((two f).told ≡ f.told)) (λ f. (n == f.number) ≡ true → f ≡ from) (λ f. ((thr (two f)).next ≡ f.next + target f) × ((two f).told ≡ f.told) × ((n == f.number) ≡ true → f ≡ from)) (λ f a b. (a.0, a.1, b)) g1.faces facts (find_only n 1 g.faces from ordered.lists.faces_rise found) in
          subst (HaveDrawn (λ f. answers f + target f) g) (sym is)
          (drawn_by (λ f. answers f + target f) (λ f. chosen (thr (two f))) g last
          (with_face_faces n three g3 ∙ map-map chosen thr (map two g1.faces) ∙ map-map (λ k. chosen (thr k)) two g1.faces)
          (each_both (λ f. ((thr (two f)).next ≡ f.next + target f) × ((two f).told ≡ f.told) × ((n == f.number) ≡ true → f ≡ from)) (λ f. IsToldInOrder cmp (thr (two f)).told (thr (two f)).next) (λ f. (chosen (thr (two f))).next ≡ f.next + (answers f + target f))
          (λ f known told.
          let k = thr (two f) in
          let number_ : k.number ≡ f.number = heard_all-number cmp g2.moment (messages_for (two f).number ss3) (two f) ∙ heard_all-number cmp g1.moment (messages_for f.number ss2) f in
          let region_ : k.region ≡ f.region = heard_all-region cmp g2.moment (messages_for (two f).number ss3) (two f) ∙ heard_all-region cmp g1.moment (messages_for f.number ss2) f in
          let told_ : k.told ≡ f.told = told_quiet cmp matching g2.moment (messages_for (two f).number ss3) (two f) (each_message_for cmp IsQuietMessage (two f).number ss3 quiet3) ∙ known.1 in
          by_test (n == f.number)
          (λ here.
          let there : (n == k.number) ≡ true = ap (λ j. n == j) number_ ∙ here in
          let es = answered_expressions cmp matching h1 interest (asked_as pendings id interest k) in
          let own = answered_expressions cmp matching g (row_of cmp matching f mode options e) f in
          let es_ : es ≡ own = answered_as g h1 interest f (asked_as pendings id interest k) live_h1 region_ ∙ ap (λ (x : Face K). answered_expressions cmp matching g (row_of cmp matching x mode options e) f) (sym (known.2 here)) in
          let count_ : (if is_future mode then length (not_named cmp k.told es) else 0) ≡ answers f =
          ap (λ rows. if is_future mode then length (not_named cmp rows es) else 0) told_ ∙ ap (λ xs. if is_future mode then length (not_named cmp f.told xs) else 0) es_ ∙ ap (λ b. if b && is_future mode then length (filter (λ x. not (keeps cmp f x)) own) else 0) (sym here) in
          let next_ : (three k).next ≡ k.next + (if is_future mode then length (not_named cmp k.told es) else 0) = asked_next pendings id interest h1 g3.moment k told ∙ after_answers mode es k in
          let grown : k.next ≡ f.next + target f = known.0 in
          rw there (omega arith))
          (λ here.
          let there : (n == k.number) ≡ false = ap (λ j. n == j) number_ ∙ here in
          let none_ : answers f ≡ 0 = ap (λ b. if b && is_future mode then length (filter (λ x. not (keeps cmp f x)) (answered_expressions cmp matching g (row_of cmp matching f mode options e) f)) else 0) here in
          let grown : k.next ≡ f.next + target f = known.0 in
          rw there (omega arith)))
          g.faces all ordered_three))

      -- ---- openings

      pub held_opened : (f : Face K) (g : Rows K) → f.held ≡ [] → held_south cmp matching (record g { made = g.made + 1; faces = g.faces ++ f ∷ [] }) ≡ held_south cmp matching g
      unfolding held_south
      held_opened f g none_ =
          let holds = λ (k : Face K). if is_north k.region then [] else map (λ row. record row.1 { mode = CurrentFuture }) k.held in
          let own : holds f ≡ [] = ap (λ (rows : ById (InterestRow K)). if is_north f.region then [] else map (λ row. record row.1 { mode = CurrentFuture }) rows) none_ ∙ of_cond (λ (is : List (InterestRow K)). is ≡ []) (is_north f.region) [] [] (λ _. refl) (λ _. refl) in
          ap (in_key_order (interest_order cmp matching))
          (flat_map-append holds g.faces (f ∷ []) ∙ ap (λ is. flat_map holds g.faces ++ (is ++ [])) own ∙ append-nil (flat_map holds g.faces))

      pub drawn_opening : (zid : Zid) (whatami : WhatAmI) (region : Region) (bound : Bound) (first : ℕ) (g : Rows K) → 1 ≤ first → RowsAreInOrder cmp matching g
          → map (λ f. f.next) (ran cmp (opening cmp matching zid whatami region bound first g) g).faces ≡ map (λ f. f.next + ids_for_opening cmp matching g f) (opened zid whatami region bound first g).faces
      unfolding ran rows_heard
      drawn_opening zid whatami region bound first g real ordered =
          let n = g.made + 1 in
          let f = face_opened zid whatami region bound first g in
          let one = opened zid whatami region bound first g in
          let o1 = transport_in_order cmp matching total zid whatami region bound first g real ordered in
          let interests = λ (k : Face K). interests_from k.next (opening_interests cmp matching one k) in
          let ss1 = to_face n interests one in
          let two = rows_heard cmp ss1 one in
          let o2 = in_order_by cmp matching two (lists_heard cmp matching ss1 one o1.lists)
          (heard_in_order cmp matching ss1 one (nothing_told cmp ss1 (tolds cmp one) (each_ruled_one TellsNothing n interests one (λ k. interests_tell_nothing cmp k.next (opening_interests cmp matching one k))) (tolds_in_order cmp matching one o1))) in
          let tokens = λ (k : Face K). tokens_from k.next (opening_tokens cmp matching two k) in
          let ss2 = to_face n tokens two in
          let three = rows_heard cmp ss2 two in
          let ss3 = to_face n (opening_final cmp matching) three in
          let four = rows_heard cmp ss3 three in
          let silent3 = each_ruled_one DrawsNothing n (opening_final cmp matching) three (silent_opening_final cmp matching) in
          let h1 = hears cmp matching ss1 one in
          let h2 = hears cmp matching ss2 two in
          let h3 = hears cmp matching ss3 three in
          let c1 = λ (k : Face K). if n == k.number then length (opening_interests cmp matching one k) else 0 in
          let c2 = λ (k : Face K). if n == k.number then length (opening_tokens cmp matching two k) else 0 in
          let at_one = each_weaker (λ k. messages_for k.number ss1 ≡ (if n == k.number then interests k else [])) (λ k. (h1 k).next ≡ k.next + c1 k)
          (λ k says. ap (λ ms. (heard_all cmp one.moment ms k).next) says ∙ chosen_interests n one k) one.faces (speaks_one n interests one o1.lists.faces_rise) in
          let at_two = each_weaker (λ k. messages_for k.number ss2 ≡ (if n == k.number then tokens k else [])) (λ k. (h2 k).next ≡ k.next + c2 k)
          (λ k says. ap (λ ms. (heard_all cmp two.moment ms k).next) says ∙ chosen_tokens n two k) two.faces (speaks_one n tokens two o2.lists.faces_rise) in
          let reals = each_map (λ k. 1 ≤ k.next) h2 two.faces
          (each_both (λ k. (h2 k).next ≡ k.next + c2 k) (λ k. IsToldInOrder cmp k.told k.next) (λ k. 1 ≤ (h2 k).next) (λ k is told. let up : 1 ≤ k.next = told.next_is_real in omega arith) two.faces at_two o2.told) in
          let at_three = each_weaker (λ k. 1 ≤ k.next) (λ k. (h3 k).next ≡ k.next + 0)
          (λ k up. let is = next_silent cmp matching three.moment (messages_for k.number ss3) k up (each_message_for cmp DrawsNothing k.number ss3 silent3) in omega arith) three.faces reals in
          let last : HaveDrawn (λ k. 0) three four = drawn_by (λ k. 0) h3 three four refl at_three in
          let later : HaveDrawn c2 two four = drawn_then (λ k. 0) (λ k. 0) c2 h2 two three four refl last (each_weaker (λ k. (h2 k).next ≡ k.next + c2 k) (λ k. (h2 k).next + 0 ≡ k.next + c2 k) (λ k is. omega arith) two.faces at_two) in
          let live_two : live_rows two ≡ live_rows g = live_rows_heard cmp ss1 one ∙ (new_same f g refl refl refl).live in
          drawn_then (λ k. 0) c2 (ids_for_opening cmp matching g) h1 one two four refl later
          (each_weaker (λ k. (h1 k).next ≡ k.next + c1 k) (λ k. (h1 k).next + c2 (h1 k) ≡ k.next + ids_for_opening cmp matching g k)
          (λ k is.
          let number_ = heard_all-number cmp one.moment (messages_for k.number ss1) k in
          let region_ = heard_all-region cmp one.moment (messages_for k.number ss1) k in
          by_test (n == k.number)
          (λ here.
          let there : (n == (h1 k).number) ≡ true = ap (λ j. n == j) number_ ∙ here in
          let back : (k.number == n) ≡ true = eq-eqb k.number n (sym (eqb-true n k.number here)) in
          let first_ : c1 k ≡ length (opening_interests cmp matching g k) = ap (λ b. if b then length (opening_interests cmp matching one k) else 0) here ∙ ap (λ is_. length (if leads_up g.mode k then is_ else [])) (held_opened f g refl) in
          let second_ : c2 (h1 k) ≡ length (opening_tokens cmp matching g k) =
          ap (λ b. if b then length (opening_tokens cmp matching two (h1 k)) else 0) there
          ∙ ap (λ (r : Region). length (if not (hat_of g.mode r).goes_by_trees && (hat_of g.mode r).is_told_unasked r then visible_expressions cmp two r else [])) region_
          ∙ ap (λ es. length (if is_greeted cmp matching g k then es else [])) (visible_as g two k.region live_two) in
          let sum : ids_for_opening cmp matching g k ≡ length (opening_interests cmp matching g k) + length (opening_tokens cmp matching g k) = ap (λ b. if b then length (opening_interests cmp matching g k) + length (opening_tokens cmp matching g k) else 0) back in
          omega arith)
          (λ here.
          let there : (n == (h1 k).number) ≡ false = ap (λ j. n == j) number_ ∙ here in
          let back : (k.number == n) ≡ false = ne_eqb k.number n (λ e. never (eq-eqb n k.number (sym e)) here) in
          let first_ : c1 k ≡ 0 = ap (λ b. if b then length (opening_interests cmp matching one k) else 0) here in
          let second_ : c2 (h1 k) ≡ 0 = ap (λ b. if b then length (opening_tokens cmp matching two (h1 k)) else 0) there in
          let sum : ids_for_opening cmp matching g k ≡ 0 = ap (λ b. if b then length (opening_interests cmp matching g k) + length (opening_tokens cmp matching g k) else 0) back in
          omega arith))
          one.faces at_one)

      -- ---- each call

      pub none_of : (interest : Option ℕ) → is_some interest ≡ false → interest ≡ None
      none_of None h = refl
      none_of (Some i) h = never refl h

      pub drawn_call : (spent : Bool) (c : PlainCall K) (g : Rows K) → CallHasFirstIds c → first_cause (call_causes cmp matching spent c g) ≡ None → can_draw cmp matching c ≡ true → IsSound cmp matching g
          → map (λ f. f.next) (rows_after_call cmp matching c g).faces ≡ map (λ f. f.next + need cmp matching c g f) (faces_with cmp matching c g)
      unfolding need call_causes parts_of ran
      drawn_call spent c g real accepted draws sound = ap (λ (h : Rows K). map (λ f. f.next) h.faces) (call_runs cmp matching c g) ∙ by_call c real accepted draws
        where
          routed_source : (n node : ℕ) (e : K) (f : Face K) (source : Option Zid) → is_none source ≡ false → HaveDrawn (told_count cmp matching total g f.region e) g (ran cmp (declaring_of cmp matching n source e f) g)
          routed_source n node e f None known = never refl known
          routed_source n node e f (Some source) known = drawn_routed n source e f.region g sound.ordered

          token : (n id : ℕ) (e : K) (node : ℕ) (interest : Option ℕ) (f : Face K) → find_face n g ≡ Some f → is_unknown_ask id interest g f ≡ false → is_unknown_router node g f ≡ false
              → HaveDrawn (token_count cmp matching total n interest e g f) g (ran cmp (if is_routed g f then declaring_of cmp matching n (source_of g f node) e f else answering cmp matching n interest e f ++ (if registers f interest then declaring cmp matching n id e f ++ showing cmp f.region e else [])) g)
          token n id e node interest f found known router =
              by_test (is_routed g f)
              (λ routed.
              let alone = none_of interest (ap (λ b. if b then is_some interest else answers_nothing id interest f) (sym routed) ∙ known) in
              let from_ = ap (λ b. b && is_none (source_of g f node)) (sym routed) ∙ router in
              subst (λ b. HaveDrawn (token_count cmp matching total n interest e g f) g (ran cmp (if b then declaring_of cmp matching n (source_of g f node) e f else answering cmp matching n interest e f ++ (if registers f interest then declaring cmp matching n id e f ++ showing cmp f.region e else [])) g)) (sym routed)
              (subst (λ o. HaveDrawn (token_count cmp matching total n o e g f) g (ran cmp (declaring_of cmp matching n (source_of g f node) e f) g)) (sym alone)
              (drawn_alike cmp matching (told_count cmp matching total g f.region e) (token_count cmp matching total n None e g f) g (ran cmp (declaring_of cmp matching n (source_of g f node) e f) g) (λ k. ap (λ b. if b then 1 else 0) (sym (or-false (is_told cmp matching g f.region e k))))
              (routed_source n node e f (source_of g f node) from_))))
              (λ plain.
              subst (λ b. HaveDrawn (token_count cmp matching total n interest e g f) g (ran cmp (if b then declaring_of cmp matching n (source_of g f node) e f else answering cmp matching n interest e f ++ (if registers f interest then declaring cmp matching n id e f ++ showing cmp f.region e else [])) g)) (sym plain)
              (drawn_plain cmp matching total n id e interest f g found sound.ordered sound.named))

          by_call : (c : PlainCall K) → CallHasFirstIds c → first_cause (call_causes cmp matching spent c g) ≡ None → can_draw cmp matching c ≡ true → map (λ f. f.next) (ran cmp (parts_of cmp matching c g) g).faces ≡ map (λ f. f.next + need cmp matching c g f) (faces_with cmp matching c g)
          by_call (NewTransport zid whatami region bound first) real accepted draws = drawn_opening zid whatami region bound first g real sound.ordered
          by_call (DeclareToken n id e node interest) real accepted draws =
              let one = no_cause _ _ _ accepted in
              let two = no_cause _ _ _ one.1 in
              let three = no_cause _ _ _ two.1 in
              let four = no_cause _ _ _ three.1 in
              elim (find_face n g) as (λ o. find_face n g ≡ o → is_none o ≡ false
              → map (λ f. f.next) (ran cmp (elim o [ None ↦ [] | Some f ↦ if is_routed g f then declaring_of cmp matching n (source_of g f node) e f else answering cmp matching n interest e f ++ (if registers f interest then declaring cmp matching n id e f ++ showing cmp f.region e else []) ]) g).faces
              ≡ map (λ k. k.next + elim o [ None ↦ 0 | Some f ↦ token_count cmp matching total n interest e g f k ]) g.faces) [
                | None ↦ λ found known. never refl known
                | Some f ↦ λ found known. token n id e node interest f found (not_on_face n g (is_unknown_ask id interest g) f found three.0) (not_on_face n g (is_unknown_router node g) f found four.0)
              ] refl one.0
          by_call (Interest n id mode options e) real accepted draws =
              let one = no_cause _ _ _ accepted in
              elim (find_face n g) as (λ o. find_face n g ≡ o → is_none o ≡ false
              → map (λ f. f.next) (ran cmp (elim o [ None ↦ [] | Some f ↦ asking cmp matching n id (row_of cmp matching f mode options e) f.region g ]) g).faces
              ≡ map (λ k. k.next + (ids_for_interest cmp matching n mode options e g k + elim o [ None ↦ 0 | Some f ↦ if is_target g f.region mode k then 1 else 0 ])) g.faces) [
                | None ↦ λ found known. never refl known
                | Some f ↦ λ found known. drawn_asking n id mode options e f g found sound.ordered
              ] refl one.0
          by_call (NewSession first) real accepted draws = never draws refl
          by_call (UndeclareToken n id given node) real accepted draws = never draws refl
          by_call (InterestFinal n id) real accepted draws = never draws refl
          by_call (DeclareFinal n id) real accepted draws = never draws refl
          by_call (CloseFace n) real accepted draws = never draws refl
          by_call (Expire now) real accepted draws = never draws refl
          by_call (SetTrees region t) real accepted draws = never draws refl
          by_call (SetEntities n subscribers queryables) real accepted draws = never draws refl
