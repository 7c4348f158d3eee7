-- No call says a final that isn't that of an ask, but where it opens a mutual peer.
use Rattle.std.proofs.Common.{◌≡◌, ℕ, ◌+◌, Bool, true, false, not, if◌then◌else◌, ◌&&◌, ◌==◌, List, [], ◌∷◌, ◌++◌, filter, Option, Some, None, refl, sym, ap, ◌∙◌, subst, arith, eqb-true, eq-eqb}
use Rattle.std.specs.List.{flat_map, list_any}
use Rattle.std.specs.declared.cmp.Ordering.{Ordering}
use Rattle.zt_region.specs.declared.region.Region.{Region}
use Rattle.zt_protocol.specs.Interest.{is_current, is_future}
use Rattle.zt_protocol.specs.Plain.{PlainCall, NewSession, NewTransport, DeclareToken, UndeclareToken, Interest, InterestFinal, DeclareFinal, CloseFace, Expire, SetTrees, SetEntities}
use Rattle.zt_protocol.specs.declared.messages.Message.{Message}
use Rattle.zt_protocol.specs.declared.messages.Message.TheVariants as message
use Rattle.zt_model.specs.Closing.{closing, expiring, is_expired, leaving, without_face}
use Rattle.zt_model.specs.Entities.{entities_for, numbered_by, with_numbers}
use Rattle.zt_model.specs.Hearing.{heard_all, messages_for, put_if, rows_heard}
use Rattle.zt_model.specs.Lists.{at_id, first_where, has_id, is_some_and}
use Rattle.zt_model.specs.Parts.{unsaid_to}
use Rattle.zt_model.specs.Promises.{finals_in, is_final_of}
use Rattle.zt_model.specs.Routing.{asked_as, end_upstream_to, ended, ending, final_of, final_of_both, finalising, finish_to, finishing, initial_finalised, is_finished_by, route, route_to, sent_as, unheld, untell_to}
use Rattle.zt_model.specs.Rows.{Ask, ById, Face, InterestRow, Pending, Rows}
use Rattle.zt_model.specs.Says.{Alter, Part, Say, Sends, altered_by, answered_expressions, answers_of, asking, finalising_held, find_face, is_routed, parts_of, row_of, said_by, to_each, to_face, with_face}
use Rattle.zt_model.specs.Transcript.{Each}
use Rattle.zt_laws.specs.Order.{RowsAreInOrder}
use Rattle.zt_laws.specs.Sound.{RiseFrom, opens_face}
use Rattle.zt_laws.proofs.Hearing.{each_ruled, each_ruled_one, find_each, find_passes, heard_all-number, messages_for-append, messages_for_each}
use Rattle.zt_laws.proofs.Lists.{by_test, each_fails, each_map, each_weaker, never, of_cond, rise_filter, rise_map}
use Rattle.zt_laws.proofs.PartsOrder.{each_message_for}
use Rattle.zt_laws.proofs.ToldFrom.{found_by_number}
use Rattle.zt_theorem_soundness.specs.Ran.{ran}
use Rattle.zt_theorem_soundness.proofs.ById.{at_has, find_mapped}
use Rattle.zt_theorem_soundness.proofs.CallsRun.{each_entity}
use Rattle.zt_theorem_soundness.proofs.Closing.{spares_one}
use Rattle.zt_theorem_soundness.proofs.Parts.{Spares, nobody, only}
use Rattle.zt_theorem_soundness.proofs.Running.{ran-append, said_by-append}
use Rattle.zt_theorem_soundness.proofs.Tokens.{spares_nothing}
use Rattle.zt_theorem_visibility.proofs.Saying.{answers_say, route_says}
use Rattle.zt_theorem_finals.proofs.Asks.{LeavesAsks, NoFinal, finals-append, has_ask_heard, has_put, has_put_other, none_final}
use Rattle.zt_theorem_finals.proofs.Calls.{closing_asks, everywhere, expiring_keeps, finishing_keeps}
use Rattle.zt_theorem_finals.proofs.Closing.{find_filtered, leaving_splits, still_before, still_before_still}
use Rattle.zt_theorem_finals.proofs.Ending.{StillMessage, both_same, ended_beside, finals_none, leaves_face, no_final_if_still}
use Rattle.zt_theorem_finals.proofs.Initial.{to_face_none, to_face_own}
use Rattle.zt_theorem_finals.proofs.Still.{AsksAre, PartKeeps, StillPart, asks_altered, declaration_still, entities_still, finalising_keeps, keep_if_still, table_still, undeclaration_still, unheld_still, untell_still, upstream_still}

-- the k-th face is open, and has no ask under an id
pub record Absent {K : Type 0} (k i : ℕ) (g : Rows K) : Type 0 where
  pub face : Face K
  pub rises : RiseFrom (λ f. f.number) 1 g.faces
  pub found : find_face k g ≡ Some face
  pub none : has_id i face.asks ≡ false

module _ {K : Type 0} (cmp : K → K → Ordering) (matching : K → K → Bool) where
  absent_left : (but : ℕ → Bool) (k i : ℕ) (g h : Rows K) → but k ≡ false → LeavesAsks cmp but g h → Absent k i g → Absent k i h
  absent_left but k i g h apart leaves absent =
      let number_ : k ≡ absent.face.number = eqb-true k absent.face.number (find_passes (λ f. k == f.number) g.faces absent.face absent.found) in
      record {
        face = leaves.change absent.face;
        rises = subst (RiseFrom (λ (f : Face K). f.number) 1) (sym leaves.faces) (rise_map (λ f. f.number) 1 leaves.change g.faces leaves.number absent.rises);
        found = ap (λ (fs : List (Face K)). first_where (λ f. k == f.number) fs) leaves.faces ∙ find_mapped k leaves.change g.faces absent.face leaves.number absent.found;
        none = ap (has_id i) (leaves.asks absent.face (ap but (sym number_) ∙ apart)) ∙ absent.none;
      }

  absent_heard : (k i : ℕ) (ss : Sends K) (g : Rows K) → Absent k i g → Absent k i (rows_heard cmp ss g)
  unfolding rows_heard
  absent_heard k i ss g absent =
      let hears = λ (f : Face K). heard_all cmp g.moment (messages_for f.number ss) f in
      record {
        face = hears absent.face;
        rises = rise_map (λ f. f.number) 1 hears g.faces (λ f. heard_all-number cmp g.moment (messages_for f.number ss) f) absent.rises;
        found = find_mapped k hears g.faces absent.face (λ f. heard_all-number cmp g.moment (messages_for f.number ss) f) absent.found;
        none = has_ask_heard cmp i g.moment (messages_for absent.face.number ss) absent.face ∙ ap (λ b. b && not (list_any (is_final_of i) (messages_for absent.face.number ss))) absent.none;
      }

  -- parts that say no final of the id to the face, as long as it has no ask of it
  module _ (k i : ℕ) where
    abbrev pub Silent : List (Part K) → Type 0
    Silent parts = (g : Rows K) → Absent k i g → Absent k i (ran cmp parts g) × (finals_in i (messages_for k (said_by cmp matching parts g)) ≡ 0)

    silent_nothing : Silent []
    unfolding ran said_by messages_for
    silent_nothing g absent = (absent, refl)

    silent_alter : (change : Rows K → Rows K) (parts : List (Part K)) → ((g : Rows K) → Absent k i g → Absent k i (change g)) → Silent parts → Silent (Alter change ∷ parts)
    unfolding ran said_by
    silent_alter change parts one rest g absent = rest (change g) (one g absent)

    neither : (x y : ℕ) → x ≡ 0 → y ≡ 0 → x + y ≡ 0
    neither x y one two = omega (arith, one, two)

    silent_say : (rule : Rows K → Sends K) (parts : List (Part K)) → ((g : Rows K) → Absent k i g → finals_in i (messages_for k (rule g)) ≡ 0) → Silent parts → Silent (Say rule ∷ parts)
    unfolding ran said_by
    silent_say rule parts one rest g absent =
        let ss = rule g in
        let h = rows_heard cmp ss g in
        let after = rest h (absent_heard k i ss g absent) in (
          after.0,
          ap (finals_in i) (messages_for-append k ss (said_by cmp matching parts h)) ∙ finals-append i (messages_for k ss) (messages_for k (said_by cmp matching parts h)) ∙ neither (finals_in i (messages_for k ss)) (finals_in i (messages_for k (said_by cmp matching parts h))) (one g absent) after.1,
        )

    silent_append : (ps qs : List (Part K)) → Silent ps → Silent qs → Silent (ps ++ qs)
    silent_append ps qs first second g absent =
        let one = first g absent in
        let h = ran cmp ps g in
        let two = second h one.0 in (
          subst (Absent k i) (sym (ran-append cmp ps qs g)) two.0,
          ap (λ ss. finals_in i (messages_for k ss)) (said_by-append cmp matching ps qs g)
              ∙ ap (finals_in i) (messages_for-append k (said_by cmp matching ps g) (said_by cmp matching qs h))
              ∙ finals-append i (messages_for k (said_by cmp matching ps g)) (messages_for k (said_by cmp matching qs h))
              ∙ neither (finals_in i (messages_for k (said_by cmp matching ps g))) (finals_in i (messages_for k (said_by cmp matching qs h))) one.1 two.1,
        )

    silent_all : {A : Type 0} (parts : A → List (Part K)) (xs : List A) → ((x : A) → Silent (parts x)) → Silent (flat_map parts xs)
    silent_all parts [] one = silent_nothing
    silent_all parts (x ∷ xs) one = silent_append (parts x) (flat_map parts xs) (one x) (silent_all parts xs one)

    none_still : (ss : Sends K) → Each (λ s. StillMessage cmp matching s.1) ss → finals_in i (messages_for k ss) ≡ 0
    none_still ss still = none_final i (messages_for k ss) (each_message_for cmp NoFinal k ss (each_weaker (λ s. StillMessage cmp matching s.1) (λ s. NoFinal s.1) (λ s one. no_final_if_still cmp matching s.1 one) ss still))

    silent_still : (but : ℕ → Bool) → but k ≡ false → (parts : List (Part K)) → Each (StillPart cmp matching but) parts → Silent parts
    silent_still but apart [] still = silent_nothing
    silent_still but apart (Alter change ∷ parts) still = silent_alter change parts (λ g absent. absent_left but k i g (change g) apart (still.0 g).leaves absent) (silent_still but apart parts still.1)
    silent_still but apart (Say rule ∷ parts) still = silent_say rule parts (λ g absent. none_still (rule g) (still.0 g)) (silent_still but apart parts still.1)

    silent_ending : (but : ℕ → Bool) (spare : Sends K → Sends K) → Spares but spare → but k ≡ false → (n id : ℕ) → Silent (Alter (with_face n (ended id)) ∷ Say (λ g. spare (to_each (finish_to g n id) g.faces)) ∷ [])
    unfolding finish_to
    silent_ending but spare spares apart n id =
        silent_alter (with_face n (ended id)) (Say (λ g. spare (to_each (finish_to g n id) g.faces)) ∷ []) (λ g absent. absent_left but k i g (with_face n (ended id) g) apart (leaves_face cmp matching but n (ended id) g (ended_beside cmp matching but id)) absent)
        (silent_say (λ g. spare (to_each (finish_to g n id) g.faces)) []
        (λ g absent.
        let ss = to_each (finish_to g n id) g.faces in
        let number_ : k ≡ absent.face.number = eqb-true k absent.face.number (find_passes (λ f. k == f.number) g.faces absent.face absent.found) in
        ap (finals_in i) (spares.speaks k ss apart ∙ ap (λ j. messages_for j ss) number_ ∙ find_each (λ f. messages_for f.number ss ≡ finish_to g n id f) (λ f. k == f.number) g.faces absent.face (messages_for_each 1 (finish_to g n id) g.faces absent.rises) absent.found)
        ∙ finals_none i (λ row. is_finished_by g n id row.1) absent.face.asks (each_fails (λ row. i == row.0) absent.face.asks absent.none))
        silent_nothing)

    silent_end : (n id : ℕ) → Silent (ending n id)
    silent_end n id = silent_ending nobody (λ ss. ss) spares_nothing refl n id

    -- what one face is sent
    face_silent : (n : ℕ) (rule : Face K → List (Message K)) (g : Rows K) (absent : Absent k i g) → ((k == n) ≡ true → finals_in i (rule absent.face) ≡ 0) → finals_in i (messages_for k (to_face n rule g)) ≡ 0
    face_silent n rule g absent one =
        by_test (k == n)
        (λ own.
        let is : k ≡ n = eqb-true k n own in
        ap (λ j. finals_in i (messages_for j (to_face n rule g))) is ∙ ap (finals_in i) (to_face_own n rule g absent.face (subst (λ j. find_face j g ≡ Some absent.face) is absent.found)) ∙ one own)
        (λ other. ap (finals_in i) (to_face_none k n rule g other))

    other_final : (id : ℕ) → (i == id) ≡ false → finals_in i (let ms : List (Message K) = message.DeclareFinal id ∷ [] in ms) ≡ 0
    other_final id apart = rw apart refl

    -- ---- calls

    silent_finishing : (n id : ℕ) (f : Face K) → Silent (finishing n id f)
    silent_finishing n id f =
        silent_alter (with_face n (initial_finalised id)) (if has_id id f.pendings then ending n id else [])
        (λ g absent. absent_left nobody k i g (with_face n (initial_finalised id) g) refl (leaves_face cmp matching nobody n (initial_finalised id) g (record { number = λ x. refl; region = λ x. refl; asks = λ x apart. refl; none = λ x none_. none_ })) absent)
        (of_cond Silent (has_id id f.pendings) (ending n id) [] (λ _. silent_end n id) (λ _. silent_nothing))

    silent_expiring : (now : ℕ) (g : Rows K) → Silent (expiring now g)
    silent_expiring now g =
        let over = λ (f : Face K). flat_map (λ row. ending f.number row.0) (filter (is_expired now g.timeout) f.pendings) in
        silent_alter (λ h. record h { moment = now }) (flat_map over g.faces) (λ h absent. record { face = absent.face; rises = absent.rises; found = absent.found; none = absent.none })
        (silent_all over g.faces (λ f. silent_all (λ row. ending f.number row.0) (filter (is_expired now g.timeout) f.pendings) (λ row. silent_end f.number row.0)))

    silent_finalising : (n id : ℕ) (interest : InterestRow K) → Silent (finalising cmp matching n id interest)
    silent_finalising n id interest =
        silent_append (Alter (with_face n (unheld id)) ∷ Say (λ g. to_face n (untell_to cmp matching g) g) ∷ []) (Say (to_face n (final_of_both id interest)) ∷ Say (λ g. to_each (end_upstream_to cmp matching g interest) g.faces) ∷ [])
        (silent_still nobody refl (Alter (with_face n (unheld id)) ∷ Say (λ g. to_face n (untell_to cmp matching g) g) ∷ []) (unheld_still cmp matching nobody n id, (untell_still cmp matching nobody n, tt)))
        (silent_say (to_face n (final_of_both id interest)) (Say (λ g. to_each (end_upstream_to cmp matching g interest) g.faces) ∷ [])
        (λ g absent. face_silent n (final_of_both id interest) g absent (λ own. by_test (i == id) (λ same_. subst (λ j. finals_in i (final_of_both j interest absent.face) ≡ 0) (eqb-true i id same_) (by_row absent.face absent.none (at_id i absent.face.asks) refl)) (λ apart. apart_final absent.face apart)))
        (silent_still nobody refl (Say (λ g. to_each (end_upstream_to cmp matching g interest) g.faces) ∷ []) (upstream_still cmp matching nobody interest, tt)))
      where
        by_row : (f : Face K) → has_id i f.asks ≡ false → (o : Option (Ask K)) → at_id i f.asks ≡ o → finals_in i (final_of_both i interest f) ≡ 0
        by_row f none_ None at_ = rw at_ (by_test (is_current interest.mode) (λ b. rw b refl) (λ b. rw b refl))
        by_row f none_ (Some a) at_ = never (at_has i f.asks a at_) none_

        apart_final : (f : Face K) → (i == id) ≡ false → finals_in i (final_of_both id interest f) ≡ 0
        apart_final f apart = of_cond (λ (ms : List (Message K)). finals_in i ms ≡ 0) (is_current interest.mode && is_some_and (at_id id f.asks) (λ a. is_future a.interest.mode)) (message.DeclareFinal id ∷ []) [] (λ _. other_final id apart) (λ _. refl)

    pub silent_closing : (n : ℕ) (from : Face K) (g : Rows K) → (n == k) ≡ false → Silent (closing cmp matching n g from)
    unfolding unsaid_to
    silent_closing n from g apart =
        of_cond (λ (parts : List (Part K)). Silent (parts ++ Alter (without_face n) ∷ [])) (is_routed g from) [] (unsaid_to n (leaving cmp matching n from))
        (λ _. gone)
        (λ _. silent_append (unsaid_to n (leaving cmp matching n from)) (Alter (without_face n) ∷ []) left gone)
      where
        gone : Silent (Alter (without_face n) ∷ [])
        gone =
            silent_alter (without_face n) []
            (λ h absent. record { face = absent.face; rises = rise_filter (λ f. f.number) 1 (λ f. not (n == f.number)) h.faces absent.rises; found = find_filtered n k h.faces apart ∙ absent.found; none = absent.none }) silent_nothing

        over : (rows : ById Pending) → Silent (unsaid_to n (flat_map (λ row. ending n row.0) rows))
        over [] = silent_nothing
        over (row ∷ rows) =
            silent_append (unsaid_to n (ending n row.0)) (unsaid_to n (flat_map (λ r. ending n r.0) rows)) (silent_ending (only n) (λ ss. filter (λ s. not (n == s.0)) ss) (spares_one cmp matching n) apart n row.0) (over rows)

        left : Silent (unsaid_to n (leaving cmp matching n from))
        left =
            subst Silent (sym (leaving_splits cmp matching n from))
            (silent_append (still_before cmp matching n from) (unsaid_to n (flat_map (λ row. ending n row.0) from.pendings)) (silent_still (only n) apart (still_before cmp matching n from) (still_before_still cmp matching n from)) (over from.pendings))

    -- an interest, of another id or face than one that is to be asked
    silent_asking : (n id : ℕ) (interest : InterestRow K) (asker : Region) (g : Rows K) → ((k == n) ≡ true → is_current interest.mode ≡ true → (i == id) ≡ false) → Silent (asking cmp matching n id interest asker g)
    silent_asking n id interest asker g apart =
        silent_alter (with_numbers cmp (numbered_by cmp interest)) sending (λ h absent. absent_left nobody k i h (with_numbers cmp (numbered_by cmp interest) h) refl (both_same cmp matching nobody h (with_numbers cmp (numbered_by cmp interest) h) refl refl).leaves absent)
        (silent_say (route asker interest) entities (λ h absent. none_for (route asker interest h) (each_ruled NoFinal (route_to h asker interest) h.faces (route_says cmp matching NoFinal (λ j mode options e m. refl) h asker interest)))
        (silent_say (λ h. to_face n (entities_for cmp matching h id interest) h) asked (λ h absent. none_for (to_face n (entities_for cmp matching h id interest) h) (each_ruled_one NoFinal n (entities_for cmp matching h id interest) h (each_entity cmp NoFinal (λ number e j m. refl) (λ number e info j m. refl) matching h id interest)))
        (silent_alter (with_face n (asked_as pendings id interest)) answers (λ h absent. absent_asked h absent)
        (silent_say (λ h. to_face n (answers_of cmp matching h id interest) h) final (λ h absent. none_for (to_face n (answers_of cmp matching h id interest) h) (each_ruled_one NoFinal n (answers_of cmp matching h id interest) h (λ f. answers_say cmp matching NoFinal (λ j e m l. refl) f.next f.told interest.mode id (answered_expressions cmp matching h interest f))))
        (silent_say (to_face n (final_of id)) [] (λ h absent. face_silent n (final_of id) h absent (λ own. by_test (i == id) (λ same_. subst (λ j. finals_in i (final_of j absent.face) ≡ 0) (eqb-true i id same_) (by_row absent.face absent.none (at_id i absent.face.asks) refl)) (λ away. apart_row (at_id id absent.face.asks) away))) silent_nothing)))))
      where
        pendings : List (ℕ × ℕ)
        pendings = sent_as g asker interest.mode

        final : List (Part K)
        final = Say (to_face n (final_of id)) ∷ []

        answers : List (Part K)
        answers = Say (λ h. to_face n (answers_of cmp matching h id interest) h) ∷ final

        asked : List (Part K)
        asked = Alter (with_face n (asked_as pendings id interest)) ∷ answers

        entities : List (Part K)
        entities = Say (λ h. to_face n (entities_for cmp matching h id interest) h) ∷ asked

        sending : List (Part K)
        sending = Say (route asker interest) ∷ entities

        none_for : (ss : Sends K) → Each (λ s. NoFinal s.1) ss → finals_in i (messages_for k ss) ≡ 0
        none_for ss none_ = none_final i (messages_for k ss) (each_message_for cmp NoFinal k ss none_)

        by_row : (f : Face K) → has_id i f.asks ≡ false → (o : Option (Ask K)) → at_id i f.asks ≡ o → finals_in i (final_of i f) ≡ 0
        by_row f none_ None at_ = ap (λ (o : Option (Ask K)). finals_in i (let ms : List (Message K) = elim o [ None ↦ [] | Some x ↦ elim x.pendings [ [] ↦ message.DeclareFinal i ∷ [] | p ∷ more ↦ [] ] ] in ms)) at_
        by_row f none_ (Some a) at_ = never (at_has i f.asks a at_) none_

        by_list : (ps : List (ℕ × ℕ)) → (i == id) ≡ false → finals_in i (let ms : List (Message K) = elim ps [ [] ↦ message.DeclareFinal id ∷ [] | p ∷ more ↦ [] ] in ms) ≡ 0
        by_list [] away = other_final id away
        by_list (p ∷ ps) away = refl

        apart_row : (o : Option (Ask K)) → (i == id) ≡ false → finals_in i (let ms : List (Message K) = elim o [ None ↦ [] | Some x ↦ elim x.pendings [ [] ↦ message.DeclareFinal id ∷ [] | p ∷ more ↦ [] ] ] in ms) ≡ 0
        apart_row None away = refl
        apart_row (Some a) away = by_list a.pendings away

        absent_asked : (h : Rows K) → Absent k i h → Absent k i (with_face n (asked_as pendings id interest) h)
        absent_asked h absent = unfold with_face in record {
          face = change absent.face;
          rises = rise_map (λ f. f.number) 1 change h.faces number_ absent.rises;
          found = find_mapped k change h.faces absent.face number_ absent.found;
          none = of_cond (λ (f : Face K). has_id i f.asks ≡ false) (n == absent.face.number) (asked_as pendings id interest absent.face) absent.face (λ here. by_mode (is_current interest.mode) (apart (own here))) (λ _. absent.none);
        }
          where
            change : Face K → Face K
            change f = if n == f.number then asked_as pendings id interest f else f

            number_ : (f : Face K) → (change f).number ≡ f.number
            number_ f = of_cond (λ (x : Face K). x.number ≡ f.number) (n == f.number) (asked_as pendings id interest f) f (λ _. refl) (λ _. refl)

            own : (n == absent.face.number) ≡ true → (k == n) ≡ true
            own here = eq-eqb k n (eqb-true k absent.face.number (find_passes (λ f. k == f.number) h.faces absent.face absent.found) ∙ sym (eqb-true n absent.face.number here))

            by_mode : (b : Bool) → (b ≡ true → (i == id) ≡ false) → has_id i (put_if b id (let ask : Ask K = record { interest = interest; pendings = pendings; answered = [] } in ask) absent.face.asks) ≡ false
            by_mode true other = has_put_other i id (record { interest = interest; pendings = pendings; answered = [] }) absent.face.asks (other refl) ∙ absent.none
            by_mode false other = absent.none

  -- ---- what a call says

  -- no final that isn't an ask's, where the call opens no face
  abbrev pub Names : List (Part K) → Rows K → ℕ → ById (Ask K) → Type 0
  Names parts g k asks = (i : ℕ) → has_id i asks ≡ false → finals_in i (messages_for k (said_by cmp matching parts g)) ≡ 0

  each_absent : (g : Rows K) → RowsAreInOrder cmp matching g → Each (λ f. (i : ℕ) → has_id i f.asks ≡ false → Absent f.number i g) g.faces
  each_absent g ordered = each_weaker (λ f. find_face f.number g ≡ Some f) (λ f. (i : ℕ) → has_id i f.asks ≡ false → Absent f.number i g) (λ f found i none_. record { face = f; rises = ordered.lists.faces_rise; found = found; none = none_ }) g.faces (found_by_number 1 g.faces ordered.lists.faces_rise)

  names_if_silent : (but : ℕ → Bool) (parts : List (Part K)) (g : Rows K) → RowsAreInOrder cmp matching g → ((k i : ℕ) → but k ≡ false → Silent k i parts) → AsksAre cmp matching but (Names parts g) g
  names_if_silent but parts g ordered silent =
      each_weaker (λ f. (i : ℕ) → has_id i f.asks ≡ false → Absent f.number i g) (λ f. but f.number ≡ false → Names parts g f.number f.asks)
      (λ f absent apart i none_. (silent f.number i apart g (absent i none_)).1) g.faces (each_absent g ordered)

  abbrev pub NamedBy : List (Part K) → Rows K → Type 0
  NamedBy parts g = (let a = altered_by cmp matching parts g in Each (λ f. Names parts g f.number f.asks) a.faces)

  silent_names : (parts : List (Part K)) (g : Rows K) → RowsAreInOrder cmp matching g → Each (PartKeeps cmp matching nobody) parts → ((k i : ℕ) → Silent k i parts) → NamedBy parts g
  silent_names parts g ordered keep silent =
      everywhere cmp matching (Names parts g) (altered_by cmp matching parts g) (asks_altered cmp matching nobody (Names parts g) parts g keep (names_if_silent nobody parts g ordered (λ k i _. silent k i)))

  still_names : (parts : List (Part K)) (g : Rows K) → RowsAreInOrder cmp matching g → Each (StillPart cmp matching nobody) parts → NamedBy parts g
  still_names parts g ordered still = silent_names parts g ordered (keep_if_still cmp matching nobody parts still) (λ k i. silent_still k i nobody refl parts still)

  at_face : (n : ℕ) (g : Rows K) (parts : Face K → List (Part K)) → NamedBy [] g → ((f : Face K) → find_face n g ≡ Some f → NamedBy (parts f) g) → NamedBy (elim (find_face n g) [ None ↦ [] | Some f ↦ parts f ]) g
  at_face n g parts nothing one = cases (find_face n g) refl
    where
      cases : (o : Option (Face K)) → find_face n g ≡ o → NamedBy (elim o [ None ↦ [] | Some f ↦ parts f ]) g
      cases None found = nothing
      cases (Some f) found = one f found

  asking_names : (n id : ℕ) (interest : InterestRow K) (from : Face K) (g : Rows K) → RowsAreInOrder cmp matching g → NamedBy (asking cmp matching n id interest from.region g) g
  unfolding altered_by with_face
  asking_names n id interest from g ordered =
      each_map (λ f. Names parts g f.number f.asks) (λ f. if n == f.number then asked_as pendings id interest f else f) g.faces
      (each_weaker (λ f. (i : ℕ) → has_id i f.asks ≡ false → Absent f.number i g) (λ f. (let h = (if n == f.number then asked_as pendings id interest f else f) in Names parts g h.number h.asks))
      (λ f absent.
      of_cond (λ (h : Face K). Names parts g h.number h.asks) (n == f.number) (asked_as pendings id interest f) f
      (λ here i none_. by_mode f (is_current interest.mode) refl i none_ (λ gone apart. (silent_asking f.number i n id interest from.region g (λ _ current. apart current) g (absent i gone)).1))
      (λ away i none_. (silent_asking f.number i n id interest from.region g (λ own _. never (eq-eqb n f.number (sym (eqb-true f.number n own))) away) g (absent i none_)).1))
      g.faces (each_absent g ordered))
    where
      parts : List (Part K)
      parts = asking cmp matching n id interest from.region g

      pendings : List (ℕ × ℕ)
      pendings = sent_as g from.region interest.mode

      by_mode : (f : Face K) (b : Bool) → is_current interest.mode ≡ b → (i : ℕ) → has_id i (put_if b id (let ask : Ask K = record { interest = interest; pendings = pendings; answered = [] } in ask) f.asks) ≡ false
          → (has_id i f.asks ≡ false → (is_current interest.mode ≡ true → (i == id) ≡ false) → finals_in i (messages_for f.number (said_by cmp matching parts g)) ≡ 0) → finals_in i (messages_for f.number (said_by cmp matching parts g)) ≡ 0
      by_mode f true mode i none_ one =
          by_test (i == id)
          (λ same_. never (subst (λ j. has_id j (put_if true id (let ask : Ask K = record { interest = interest; pendings = pendings; answered = [] } in ask) f.asks) ≡ true) (sym (eqb-true i id same_)) (has_put id (record { interest = interest; pendings = pendings; answered = [] }) f.asks)) none_)
          (λ apart. one (sym (has_put_other i id (record { interest = interest; pendings = pendings; answered = [] }) f.asks apart) ∙ none_) (λ _. apart))
      by_mode f false mode i none_ one = one none_ (λ current. never current mode)

  pub call_names : (c : PlainCall K) (g : Rows K) → opens_face c ≡ false → RowsAreInOrder cmp matching g → NamedBy (parts_of cmp matching c g) g
  unfolding parts_of
  call_names (NewSession first) g still ordered = never refl still
  call_names (NewTransport zid whatami region bound first) g still ordered = never refl still
  call_names (DeclareToken n id e node interest) g still ordered = still_names (parts_of cmp matching (DeclareToken n id e node interest) g) g ordered (declaration_still cmp matching n id node e interest g)
  call_names (UndeclareToken n id given node) g still ordered = still_names (parts_of cmp matching (UndeclareToken n id given node) g) g ordered (undeclaration_still cmp matching n id node given g)
  call_names (Interest n id mode options e) g still ordered = at_face n g (λ f. asking cmp matching n id (row_of cmp matching f mode options e) f.region g) (still_names [] g ordered tt) (λ f found. asking_names n id (row_of cmp matching f mode options e) f g ordered)
  call_names (InterestFinal n id) g still ordered = at_face n g (finalising_held cmp matching n id) (still_names [] g ordered tt) (λ f found. by_held (at_id id f.held))
    where
      by_held : (o : Option (InterestRow K)) → NamedBy (elim o [ None ↦ [] | Some interest ↦ finalising cmp matching n id interest ]) g
      by_held None = still_names [] g ordered tt
      by_held (Some interest) = silent_names (finalising cmp matching n id interest) g ordered (finalising_keeps cmp matching nobody n id interest) (λ k i. silent_finalising k i n id interest)
  call_names (DeclareFinal n id) g still ordered = at_face n g (finishing n id) (still_names [] g ordered tt) (λ f found. silent_names (finishing n id f) g ordered (finishing_keeps cmp matching n id f) (λ k i. silent_finishing k i n id f))
  call_names (CloseFace n) g still ordered =
      at_face n g (closing cmp matching n g) (still_names [] g ordered tt)
      (λ f found. closing_asks cmp matching (Names (closing cmp matching n g f) g) n f g (names_if_silent (only n) (closing cmp matching n g f) g ordered (λ k i apart. silent_closing k i n f g apart)))
  call_names (Expire now) g still ordered = silent_names (expiring now g) g ordered (expiring_keeps cmp matching now g) (λ k i. silent_expiring k i now g)
  call_names (SetTrees region t) g still ordered = still_names (parts_of cmp matching (SetTrees region t) g) g ordered (table_still cmp matching region t g)
  call_names (SetEntities n subscribers queryables) g still ordered = still_names (parts_of cmp matching (SetEntities n subscribers queryables) g) g ordered (entities_still cmp matching n subscribers queryables g)
