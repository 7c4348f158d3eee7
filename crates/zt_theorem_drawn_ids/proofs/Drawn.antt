-- Each call that is carried out draws, for each face, as many ids as it needs for it.
use Rattle.std.proofs.Common.{◌≡◌, ℕ, ◌+◌, ◌≤◌, Bool, true, false, not, if◌then◌else◌, ◌&&◌, ◌||◌, ◌==◌, List, [], ◌∷◌, ◌++◌, map, filter, Option, Some, None, refl, sym, ap, ◌∙◌, subst, arith, eqb-true, ne_eqb, add_assoc}
use Rattle.std.proofs.Math.Bool.{or-false}
use Rattle.std.proofs.lemmas.Bool.{and_parts}
use Rattle.std.specs.Cmp.{IsTotalOrder}
use Rattle.std.specs.List.{flat_map, list_any}
use Rattle.std.specs.declared.cmp.Ordering.{Ordering}
use Rattle.zt_region.specs.declared.region.Region.{Region}
use Rattle.zt_region.specs.Admission.{admits}
use Rattle.zt_protocol.specs.Interest.{is_future}
use Rattle.zt_protocol.specs.declared.interests.InterestMode.{InterestMode}
use Rattle.zt_protocol.specs.declared.messages.Message.{Message}
use Rattle.zt_protocol.specs.declared.messages.Message.TheVariants as message
use Rattle.zt_model.specs.Hat.{hat_of}
use Rattle.zt_model.specs.Hearing.{heard, heard_all, messages_for, rows_heard, told_pair}
use Rattle.zt_model.specs.Lists.{at_id, has_id, same}
use Rattle.zt_model.specs.Refusals.{is_answered_anew}
use Rattle.zt_model.specs.Rows.{Ask, ById, Face, Pending, Rows}
use Rattle.zt_model.specs.Says.{Alter, Part, Say, Sends, answering, answers_from, declaring, find_face, is_routed, is_told, registered, registers, tell_to, to_each, told_id, with_face}
use Rattle.zt_model.specs.Telling.{answer_to, is_answered_by, was_sent_as}
use Rattle.zt_model.specs.Transcript.{Each}
use Rattle.zt_model.specs.Trees.{is_newly_shown, router_regions, show_to, showing}
use Rattle.zt_model.specs.Visible.{keeps, shows}
use Rattle.zt_model.specs.Wants.{seeks, wants}
use Rattle.zt_laws.specs.Order.{RowsAreInOrder}
use Rattle.zt_laws.specs.Sound.{IsToldInOrder}
use Rattle.zt_laws.proofs.CallsOrder.{orderly_telling}
use Rattle.zt_laws.proofs.Faces.{chosen_leaves}
use Rattle.zt_laws.proofs.Hearing.{find_each, find_passes, heard_all-append, heard_all-held, heard_all-region}
use Rattle.zt_laws.proofs.Lists.{any_member, any_none, any_weaker, by_test, each_always, each_both, each_weaker, map_alike, never, rise_above}
use Rattle.zt_laws.proofs.PartsOrder.{each_of_map, orderly_each, quiet_face}
use Rattle.zt_laws.proofs.Telling.{heard_tell, seeks_alike, told_anew}
use Rattle.zt_laws.proofs.Keys.{same_itself}
use Rattle.zt_laws.proofs.Told.{names, names-append, told_id_each}
use Rattle.zt_laws.proofs.ToldOrder.{DrawsNothing, in_order_answer}
use Rattle.zt_laws.proofs.Visible.{rise_put}
use Rattle.zt_theorem_soundness.specs.Ran.{ran}
use Rattle.zt_theorem_soundness.specs.Sound.{IsNamed, PendingIsKnown, PendingsAreKnown, PendingsOfAskAreKnown}
use Rattle.zt_theorem_soundness.proofs.Answered.{is_answered_later}
use Rattle.zt_theorem_soundness.proofs.ById.{at_each, at_has, at_none_has}
use Rattle.zt_theorem_soundness.proofs.CallsRun.{own_rows_leave}
use Rattle.zt_theorem_soundness.proofs.Going.{IsQuietMessage, drawn_if_quiet, hears, ordered_altered, ordered_heard, speaks_each}
use Rattle.zt_theorem_soundness.proofs.Parts.{each_show, nobody}
use Rattle.zt_theorem_drawn_ids.proofs.Nexts.{HaveDrawn, answer_next, drawn_by, drawn_silent, drawn_then}

-- an id for an answer and one for telling: together at most one, since what is answered is kept
counts : (r x k l s : Bool) → (if l && not k then 1 else 0) + (if not r && ((x && not (k || l)) && s) then 1 else 0) ≡ (if (not r && ((x && not k) && s)) || (not k && l) then 1 else 0)
counts true x true true s = refl
counts true x true false s = refl
counts false true true true s = refl
counts false true true false s = refl
counts false false true true s = refl
counts false false true false s = refl
counts true x false true s = refl
counts true x false false s = refl
counts false true false true true = refl
counts false true false true false = refl
counts false true false false true = refl
counts false true false false false = refl
counts false false false true s = refl
counts false false false false s = refl

module _ {K : Type 0} (cmp : K → K → Ordering) (matching : K → K → Bool) where
  pub drawn_alike : (one two : Face K → ℕ) (g h : Rows K) → ((f : Face K) → one f ≡ two f) → HaveDrawn one g h → HaveDrawn two g h
  drawn_alike one two g h alike drawn = drawn ∙ map_alike (λ f. f.next + one f) (λ f. f.next + two f) g.faces (each_always (λ f. f.next + one f ≡ f.next + two f) (λ f. ap (λ k. f.next + k) (alike f)) g.faces)

  -- ---- what asks that are answered keep

  told_names : (id : ℕ) (e : K) (rows : ById K) → IsTotalOrder cmp → 1 ≤ id → names cmp e (told_pair cmp id e rows) ≡ true
  told_names id e rows total real =
      let real_ : (id == 0) ≡ false = ne_eqb id 0 (λ is. omega arith) in
      by_test (list_any (λ row. (id == row.0) && same cmp e row.1) rows)
      (λ there. rw (real_, there) (any_weaker (λ row. (id == row.0) && same cmp e row.1) (λ row. same cmp e row.1) (λ row both. (and_parts (id == row.0) (same cmp e row.1) both).1) rows there))
      (λ there. rw (real_, there) (names-append cmp e rows id e ∙ ap (λ b. names cmp e rows || b) (same_itself cmp total e) ∙ or_true (names cmp e rows)))
    where
      or_true : (b : Bool) → (b || true) ≡ true
      or_true true = refl
      or_true false = refl

  one_kept : (total : IsTotalOrder cmp) (now next : ℕ) (told : ById K) (mode : InterestMode) (id : ℕ) (e : K) (h : Face K) → 1 ≤ next → Each (λ row. 1 ≤ row.0) told
      → keeps cmp (heard_all cmp now (answers_from cmp matching next told mode id (e ∷ [])) h) e ≡ (keeps cmp h e || is_future mode)
  unfolding answers_from heard_all
  one_kept total now next told mode id e h real above =
      by_test (is_future mode)
      (λ future. rw future (by_id (told_id cmp e told) refl))
      (λ future. rw future (sym (or-false (keeps cmp h e))))
    where
      or_true : (b : Bool) → (b || true) ≡ true
      or_true true = refl
      or_true false = refl

      Ends : List (Message K) → Type 0
      Ends ms = keeps cmp (heard_all cmp now ms h) e ≡ (keeps cmp h e || true)

      by_id : (o : Option ℕ) → told_id cmp e told ≡ o → Ends (elim o [ None ↦ message.DeclareToken next e (Some id) 0 ∷ [] | Some old ↦ message.DeclareToken old e (Some id) 0 ∷ [] ])
      by_id None is = told_names next e h.told total real ∙ sym (or_true (keeps cmp h e))
      by_id (Some old) is = told_names old e h.told total (told_id_each cmp (λ k. 1 ≤ k) e told old above is) ∙ sym (or_true (keeps cmp h e))

  asks_kept : (total : IsTotalOrder cmp) (now next n id : ℕ) (told : ById K) (e : K) (asks : ById (Ask K)) (h : Face K) → 1 ≤ next → Each (λ row. 1 ≤ row.0) told
      → (let ms = flat_map (λ row. if is_answered_by cmp matching n id e row.1 then answers_from cmp matching next told row.1.interest.mode row.0 (e ∷ []) else []) asks in
      keeps cmp (heard_all cmp now ms h) e ≡ (keeps cmp h e || list_any (is_answered_later cmp matching n id e) asks))
  unfolding heard_all
  asks_kept total now next n id told e [] h real above = sym (or-false (keeps cmp h e))
  asks_kept total now next n id told e (row ∷ rows) h real above =
      let ms = if is_answered_by cmp matching n id e row.1 then answers_from cmp matching next told row.1.interest.mode row.0 (e ∷ []) else [] in
      let rest = flat_map (λ row. if is_answered_by cmp matching n id e row.1 then answers_from cmp matching next told row.1.interest.mode row.0 (e ∷ []) else []) rows in
      let k = heard_all cmp now ms h in
      ap (λ (x : Face K). keeps cmp x e) (heard_all-append cmp now ms rest h)
      ∙ asks_kept total now next n id told e rows k real above
      ∙ ap (λ b. b || list_any (is_answered_later cmp matching n id e) rows) (first row h)
      ∙ grouped (keeps cmp h e) (is_answered_later cmp matching n id e row) (list_any (is_answered_later cmp matching n id e) rows)
    where
      grouped : (a b c : Bool) → ((a || b) || c) ≡ (a || (b || c))
      grouped true b c = refl
      grouped false b c = refl

      with_true : (a : Bool) → a ≡ (a && true)
      with_true true = refl
      with_true false = refl

      with_false : (a : Bool) → false ≡ (a && false)
      with_false true = refl
      with_false false = refl

      first : (row : ℕ × Ask K) (h : Face K)
          → (let ms = if is_answered_by cmp matching n id e row.1 then answers_from cmp matching next told row.1.interest.mode row.0 (e ∷ []) else [] in
          keeps cmp (heard_all cmp now ms h) e ≡ (keeps cmp h e || is_answered_later cmp matching n id e row))
      first row h =
          by_test (is_answered_by cmp matching n id e row.1)
          (λ here. rw here (one_kept total now next told row.1.interest.mode row.0 e h real above ∙ ap (λ b. keeps cmp h e || b) (with_true (is_future row.1.interest.mode))))
          (λ here. rw here (sym (or-false (keeps cmp h e)) ∙ ap (λ b. keeps cmp h e || b) (with_false (is_future row.1.interest.mode))))

  answer_kept : (total : IsTotalOrder cmp) (now n id : ℕ) (e : K) (f : Face K) → IsToldInOrder cmp f.told f.next → keeps cmp (heard_all cmp now (answer_to cmp matching n id e f) f) e ≡ (keeps cmp f e || list_any (is_answered_later cmp matching n id e) f.asks)
  unfolding answer_to
  answer_kept total now n id e f ordered = asks_kept total now f.next n id f.told e f.asks f ordered.next_is_real (rise_above (λ row. row.0) 1 f.told ordered.rises)

  pub told_quiet : (now : ℕ) (ms : List (Message K)) (f : Face K) → Each IsQuietMessage ms → (heard_all cmp now ms f).told ≡ f.told
  unfolding heard_all
  told_quiet now [] f quiet = refl
  told_quiet now (m ∷ ms) f quiet = told_quiet now ms (heard cmp now m f) quiet.1 ∙ one m quiet.0
    where
      one : (m : Message K) → IsQuietMessage m → (heard cmp now m f).told ≡ f.told
      one (message.DeclareToken id e interest node) none_ = ap (λ b. if b || list_any (λ row. (id == row.0) && same cmp e row.1) f.told then f.told else f.told ++ (id, e) ∷ []) (ap (λ k. k == 0) none_)
      one (message.UndeclareToken id e node) none_ = absurd none_
      one (message.DeclareFinal interest) none_ = refl
      one (message.Interest id mode options e) none_ = absurd none_
      one (message.InterestFinal id) none_ = refl
      one (message.DeclareSubscriber id e interest) none_ = refl
      one (message.DeclareQueryable id e info interest) none_ = refl

  module _ (total : IsTotalOrder cmp) where
    -- ---- telling and showing

    abbrev pub told_count : Rows K → Region → K → Face K → ℕ
    told_count g source e f = if is_told cmp matching g source e f then 1 else 0

    one_or_none : (b : Bool) (e : K) (f : Face K) → (if b then told_anew e f else f).next ≡ f.next + (if b then 1 else 0)
    one_or_none true e f = refl
    one_or_none false e f = omega arith

    abbrev declared_parts : ℕ → ℕ → Region → K → List (Part K)
    declared_parts n id source e = Alter (with_face n (registered id e)) ∷ Say (λ h. to_each (tell_to cmp matching h source e) h.faces) ∷ showing cmp source e

    -- the faces are told, and the router regions shown
    pub drawn_telling : (source : Region) (e : K) (g : Rows K) → RowsAreInOrder cmp matching g
        → HaveDrawn (told_count g source e) g (ran cmp (Say (λ h. to_each (tell_to cmp matching h source e) h.faces) ∷ showing cmp source e) g)
    unfolding ran rows_heard
    drawn_telling source e g ordered =
        let ss = to_each (tell_to cmp matching g source e) g.faces in
        let h = rows_heard cmp ss g in
        let o = ordered_heard cmp matching (λ k. to_each (tell_to cmp matching k source e) k.faces) g (orderly_telling cmp matching total source e) ordered in
        let ts = to_each (show_to cmp h source e) h.faces in
        let k = rows_heard cmp ts h in
        let silent = each_weaker (λ s. IsQuietMessage s.1) (λ s. DrawsNothing s.1) (λ s quiet. drawn_if_quiet s.1 quiet) ts (each_show cmp matching h source e) in
        let last : HaveDrawn (λ f. 0) h k = drawn_by (λ f. 0) (hears cmp matching ts h) h k refl (each_weaker (λ f. (hears cmp matching ts h f).next ≡ f.next) (λ f. (hears cmp matching ts h f).next ≡ f.next + 0) (λ f is. omega arith) h.faces (drawn_silent cmp matching ts h o silent)) in
        let both : HaveDrawn (told_count g source e) g k =
        drawn_then (told_count g source e) (λ f. 0) (told_count g source e) (hears cmp matching ss g) g h k refl last
        (each_both (λ f. false ≡ false → messages_for f.number ss ≡ tell_to cmp matching g source e f) (λ f. IsToldInOrder cmp f.told f.next) (λ f. (hears cmp matching ss g f).next + 0 ≡ f.next + told_count g source e f)
        (λ f says told.
        let is : (hears cmp matching ss g f).next ≡ f.next + told_count g source e f = ap (λ ms. (heard_all cmp g.moment ms f).next) (says refl) ∙ ap (λ (x : Face K). x.next) (heard_tell cmp matching g.moment g source e f told) ∙ one_or_none (is_told cmp matching g source e f) e f in
        omega arith)
        g.faces (speaks_each cmp matching nobody (tell_to cmp matching g source e) g ordered) ordered.told) in
        ap (map (λ (f : Face K). f.next)) (own_rows_leave cmp (λ (x : Rows K). x.faces) (λ x rows. refl) (filter (is_newly_shown cmp k source e) (router_regions k)) e k) ∙ both

    -- a token is registered, told and shown
    drawn_declared : (n id : ℕ) (source : Region) (e : K) (g : Rows K) → RowsAreInOrder cmp matching g
        → HaveDrawn (told_count g source e) g (ran cmp (Alter (with_face n (registered id e)) ∷ Say (λ h. to_each (tell_to cmp matching h source e) h.faces) ∷ showing cmp source e) g)
    unfolding ran with_face seeks wants
    drawn_declared n id source e g ordered =
        let h = with_face n (registered id e) g in
        let chosen = λ (f : Face K). if n == f.number then registered id e f else f in
        let o = ordered_altered cmp matching (with_face n (registered id e)) g (quiet_face cmp matching n (registered id e) (λ k. refl) (λ k rows. record { live = rise_put id e k.live rows.live; held = rows.held; locals = rows.locals; pendings = rows.pendings; asks = rows.asks })) ordered in
        drawn_then (λ f. 0) (told_count h source e) (told_count g source e) chosen g h (ran cmp (Say (λ k. to_each (tell_to cmp matching k source e) k.faces) ∷ showing cmp source e) h) refl (drawn_telling source e h o)
        (each_always (λ f. (chosen f).next + told_count h source e (chosen f) ≡ f.next + told_count g source e f)
        (λ f.
        let next_ : (chosen f).next ≡ f.next = chosen_leaves (λ k. k.next) (registered id e) (n == f.number) f refl in
        let told_ : is_told cmp matching h source e (chosen f) ≡ is_told cmp matching g source e f = chosen_leaves (is_told cmp matching h source e) (registered id e) (n == f.number) f refl in
        ap (λ k. k + told_count h source e (chosen f)) next_ ∙ ap (λ b. f.next + (if b then 1 else 0)) told_) g.faces)

    -- ---- answering

    -- an ask whose pending asks for what is there now alone does so too
    none_later : (n id : ℕ) (e : K) (from : Face K) (g : Rows K) (asks : ById (Ask K)) → find_face n g ≡ Some from → (pending : Pending) → at_id id from.pendings ≡ Some pending → is_future pending.mode ≡ false → Each (PendingsOfAskAreKnown g) asks
        → list_any (is_answered_later cmp matching n id e) asks ≡ false
    none_later n id e from g asks found pending at_ now known =
        any_none (is_answered_later cmp matching n id e) asks
        (each_weaker (PendingsOfAskAreKnown g) (λ row. is_answered_later cmp matching n id e row ≡ false) (λ row known_. one row known_) asks known)
      where
        one : (row : ℕ × Ask K) → PendingsOfAskAreKnown g row → is_answered_later cmp matching n id e row ≡ false
        one row known_ =
            by_test (is_answered_later cmp matching n id e row)
            (λ later.
            let future = and_parts (is_future row.1.interest.mode) (is_answered_by cmp matching n id e row.1) later in
            let sent = (and_parts (was_sent_as n id row.1) _ future.1).0 in
            any_member (λ (p : ℕ × ℕ). PendingIsKnown g (record { mode = row.1.interest.mode; face = p.0; id = p.1 })) (λ p. (n == p.0) && (id == p.1)) row.1.pendings
            (each_of_map (PendingIsKnown g) (λ (p : ℕ × ℕ). record { mode = row.1.interest.mode; face = p.0; id = p.1 }) row.1.pendings known_) sent
            (λ p is passes.
            let parts = and_parts (n == p.0) (id == p.1) passes in
            let face_ : n ≡ p.0 = eqb-true n p.0 parts.0 in
            let id_ : id ≡ p.1 = eqb-true id p.1 parts.1 in
            let hit : (n == from.number) ≡ true = find_passes (λ f. n == f.number) g.faces from found in
            let named = find_each (λ f. (p.0 == f.number) ≡ true → IsNamed row.1.interest.mode p.1 f) (λ f. n == f.number) g.faces from is.named found (ap (λ k. k == from.number) (sym face_) ∙ hit) in
            let mode_ : pending.mode ≡ row.1.interest.mode = at_each (λ (v : Pending). v.mode ≡ row.1.interest.mode) p.1 from.pendings pending named.of_mode (ap (λ k. at_id k from.pendings) (sym id_) ∙ at_) in
            never (ap is_future mode_ ∙ future.0) now))
            (λ none_. none_)

    pub heard_faces_are : (ss : Sends K) (g : Rows K) → (rows_heard cmp ss g).faces ≡ map (hears cmp matching ss g) g.faces
    unfolding rows_heard
    heard_faces_are ss g = refl

    -- what is answered isn't told again
    answered_joined : (n i : ℕ) (source : Region) (e : K) (g : Rows K) (ss : Sends K) (f : Face K)
        → (hears cmp matching ss g f).next ≡ f.next + (if list_any (is_answered_later cmp matching n i e) f.asks && not (keeps cmp f e) then 1 else 0)
        → keeps cmp (hears cmp matching ss g f) e ≡ (keeps cmp f e || list_any (is_answered_later cmp matching n i e) f.asks)
        → (hears cmp matching ss g f).next + told_count (rows_heard cmp ss g) source e (hears cmp matching ss g f)
        ≡ f.next + (if is_told cmp matching g source e f || (not (keeps cmp f e) && list_any (is_answered_later cmp matching n i e) f.asks) then 1 else 0)
    unfolding rows_heard
    answered_joined n i source e g ss f next_ kept_ =
        let h = hears cmp matching ss g f in
        let later = list_any (is_answered_later cmp matching n i e) f.asks in
        let x = λ (r : Region). admits g.refused source r && shows g.mode r source in
        let region_ = heard_all-region cmp g.moment (messages_for f.number ss) f in
        let told_ : is_told cmp matching g source e h ≡ (not (is_routed g f) && ((x f.region && not (keeps cmp f e || later)) && seeks matching g.mode f e)) =
        ap (λ (r : Region). not (hat_of g.mode r).goes_by_trees && ((x r && not (keeps cmp h e)) && seeks matching g.mode h e)) region_
        ∙ ap (λ b. not (is_routed g f) && ((x f.region && not b) && seeks matching g.mode h e)) kept_
        ∙ ap (λ b. not (is_routed g f) && ((x f.region && not (keeps cmp f e || later)) && b)) (seeks_alike matching g.mode h f e region_ (heard_all-held cmp g.moment (messages_for f.number ss) f)) in
        ap (λ k. k + told_count g source e h) next_
        ∙ ap (λ b. (f.next + (if later && not (keeps cmp f e) then 1 else 0)) + (if b then 1 else 0)) told_
        ∙ add_assoc f.next (if later && not (keeps cmp f e) then 1 else 0) (if not (is_routed g f) && ((x f.region && not (keeps cmp f e || later)) && seeks matching g.mode f e) then 1 else 0)
        ∙ ap (λ k. f.next + k) (counts (is_routed g f) (x f.region) (keeps cmp f e) later (seeks matching g.mode f e))

    -- the count at a face whose declaration is known to register, or not to
    abbrev pub token_count : ℕ → Option ℕ → K → Rows K → Face K → Face K → ℕ
    token_count n interest e g from f = if registers from interest && (is_told cmp matching g from.region e f || is_answered_anew cmp matching n interest e from f) then 1 else 0

    pub drawn_plain : (n id : ℕ) (e : K) (interest : Option ℕ) (from : Face K) (g : Rows K) → find_face n g ≡ Some from → RowsAreInOrder cmp matching g → PendingsAreKnown g
        → HaveDrawn (token_count n interest e g from) g (ran cmp (answering cmp matching n interest e from ++ (if registers from interest then declaring cmp matching n id e from ++ showing cmp from.region e else [])) g)
    unfolding ran
    drawn_plain n id e None from g found ordered known =
        drawn_alike (told_count g from.region e) (token_count n None e g from) g (ran cmp (declared_parts n id from.region e) g) (λ f. ap (λ b. if b then 1 else 0) (sym (or-false (is_told cmp matching g from.region e f)))) (drawn_declared n id from.region e g ordered)
    drawn_plain n id e (Some i) from g found ordered known = by_pending (at_id i from.pendings) refl
      where
        parts : Bool → Bool → List (Part K)
        parts a b = (if a then Say (λ h. to_each (answer_to cmp matching n i e) h.faces) ∷ [] else []) ++ (if b then declaring cmp matching n id e from ++ showing cmp from.region e else [])

        count : Bool → Bool → Face K → ℕ
        count a b f = if b && (is_told cmp matching g from.region e f || (a && (not (keeps cmp f e) && list_any (is_answered_later cmp matching n i e) f.asks))) then 1 else 0

        by_both : (a b : Bool) → has_id i from.pendings ≡ a → registers from (Some i) ≡ b → HaveDrawn (count a b) g (ran cmp (parts a b) g) → HaveDrawn (count (has_id i from.pendings) (registers from (Some i))) g (ran cmp (parts (has_id i from.pendings) (registers from (Some i))) g)
        by_both a b has_ registers_ there =
            subst (λ c. HaveDrawn (count c (registers from (Some i))) g (ran cmp (parts c (registers from (Some i))) g)) (sym has_) (subst (λ c. HaveDrawn (count a c) g (ran cmp (parts a c) g)) (sym registers_) there)

        registered_as : (o : Option Pending) → at_id i from.pendings ≡ o → registers from (Some i) ≡ elim o [ None ↦ true | Some pending ↦ is_future pending.mode ]
        registered_as o at_ = ap (λ (p : Option Pending). elim p [ None ↦ true | Some pending ↦ is_future pending.mode ]) at_

        answered : Sends K
        answered = to_each (answer_to cmp matching n i e) g.faces

        answered_next : Each (λ f. (hears cmp matching answered g f).next ≡ f.next + (if list_any (is_answered_later cmp matching n i e) f.asks && not (keeps cmp f e) then 1 else 0)) g.faces
        answered_next =
            each_both (λ f. false ≡ false → messages_for f.number answered ≡ answer_to cmp matching n i e f) (λ f. IsToldInOrder cmp f.told f.next) (λ f. (hears cmp matching answered g f).next ≡ f.next + (if list_any (is_answered_later cmp matching n i e) f.asks && not (keeps cmp f e) then 1 else 0))
            (λ f says told. ap (λ ms. (heard_all cmp g.moment ms f).next) (says refl) ∙ answer_next cmp matching g.moment n i e f told) g.faces (speaks_each cmp matching nobody (answer_to cmp matching n i e) g ordered) ordered.told

        answered_keep : Each (λ f. keeps cmp (hears cmp matching answered g f) e ≡ (keeps cmp f e || list_any (is_answered_later cmp matching n i e) f.asks)) g.faces
        answered_keep =
            each_both (λ f. false ≡ false → messages_for f.number answered ≡ answer_to cmp matching n i e f) (λ f. IsToldInOrder cmp f.told f.next) (λ f. keeps cmp (hears cmp matching answered g f) e ≡ (keeps cmp f e || list_any (is_answered_later cmp matching n i e) f.asks))
            (λ f says told. ap (λ ms. keeps cmp (heard_all cmp g.moment ms f) e) (says refl) ∙ answer_kept total g.moment n i e f told) g.faces (speaks_each cmp matching nobody (answer_to cmp matching n i e) g ordered) ordered.told

        by_pending : (o : Option Pending) → at_id i from.pendings ≡ o → HaveDrawn (count (has_id i from.pendings) (registers from (Some i))) g (ran cmp (parts (has_id i from.pendings) (registers from (Some i))) g)
        by_pending None at_ =
            by_both false true (at_none_has i from.pendings at_) (registered_as None at_)
            (drawn_alike (told_count g from.region e) (count false true) g (ran cmp (declared_parts n id from.region e) g) (λ f. ap (λ b. if b then 1 else 0) (sym (or-false (is_told cmp matching g from.region e f)))) (drawn_declared n id from.region e g ordered))
        by_pending (Some pending) at_ =
            by_test (is_future pending.mode)
            (λ later.
            let h = rows_heard cmp answered g in
            let o = ordered_heard cmp matching (λ k. to_each (answer_to cmp matching n i e) k.faces) g (orderly_each cmp matching (λ k f. answer_to cmp matching n i e f) (λ k f told. in_order_answer cmp total matching n i e f told)) ordered in
            by_both true true (at_has i from.pendings pending at_) (registered_as (Some pending) at_ ∙ later)
            (drawn_then (λ f. 0) (told_count h from.region e) (count true true) (hears cmp matching answered g) g h (ran cmp (declared_parts n id from.region e) h) (heard_faces_are answered g) (drawn_declared n id from.region e h o)
            (each_both (λ f. (hears cmp matching answered g f).next ≡ f.next + (if list_any (is_answered_later cmp matching n i e) f.asks && not (keeps cmp f e) then 1 else 0)) (λ f. keeps cmp (hears cmp matching answered g f) e ≡ (keeps cmp f e || list_any (is_answered_later cmp matching n i e) f.asks)) (λ f. (hears cmp matching answered g f).next + told_count h from.region e (hears cmp matching answered g f) ≡ f.next + count true true f)
            (λ f next_ kept_. answered_joined n i from.region e g answered f next_ kept_) g.faces answered_next answered_keep)))
            (λ now_.
            by_both true false (at_has i from.pendings pending at_) (registered_as (Some pending) at_ ∙ now_)
            (drawn_by (count true false) (hears cmp matching answered g) g (rows_heard cmp answered g) (heard_faces_are answered g)
            (each_both (λ f. (hears cmp matching answered g f).next ≡ f.next + (if list_any (is_answered_later cmp matching n i e) f.asks && not (keeps cmp f e) then 1 else 0)) (λ f. Each (PendingsOfAskAreKnown g) f.asks) (λ f. (hears cmp matching answered g f).next ≡ f.next + count true false f)
            (λ f next_ known_. next_ ∙ ap (λ b. f.next + (if b && not (keeps cmp f e) then 1 else 0)) (none_later n i e from g f.asks found pending at_ now_ known_)) g.faces answered_next known)))
