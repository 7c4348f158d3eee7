-- Asks of an accepted turn get their finals exactly where those do that the turn may make, end or finish; and then none has ended.
use Rattle.std.proofs.Common.{◌≡◌, ◌⊎◌, inl, inr, ℕ, ◌+◌, ◌-◌, Bool, true, false, ◌&&◌, ◌||◌, ◌==◌, not, if◌then◌else◌, List, [], ◌∷◌, map, Option, None, Some, Ok, Err, refl, sym, ap, subst, ◌∙◌, arith, eqb-true, eq-eqb}
use Rattle.std.proofs.lemmas.Bool.{and_from, and_parts, false≢true}
use Rattle.std.specs.List.{list_all, list_any}
use Rattle.std.specs.Prelude.{nat_lt}
use Rattle.std.specs.declared.cmp.Ordering.{Ordering}
use Rattle.zt_protocol.specs.Interest.{is_future}
use Rattle.zt_protocol.specs.Plain.{PlainCall, NewSession, NewTransport, DeclareToken, UndeclareToken, Interest, InterestFinal, DeclareFinal, CloseFace, Expire, SetTrees, SetEntities, PlainLine, Gateway, Session, Face as FaceLine, Link as LinkLine, Unlink, Step, Speak, Moment, SetTreesAt}
use Rattle.zt_protocol.specs.Refusal.{number_of}
use Rattle.zt_protocol.specs.declared.entries.Sent.{Sent}
use Rattle.zt_protocol.specs.declared.errors.Refusal.{Refusal}
use Rattle.zt_protocol.specs.declared.messages.Message.{Message}
use Rattle.zt_protocol.specs.declared.messages.Message.TheVariants as message
use Rattle.zt_model.specs.Fabric.{CallAt, Fabric, Link, Node, call_of, number_of_place, printed_for, rows_after_hearing}
use Rattle.zt_model.specs.Hearing.{heard_all}
use Rattle.zt_model.specs.Linking.{sending_end, with_taken}
use Rattle.zt_model.specs.Lists.{is_some_and, nth}
use Rattle.zt_model.specs.Promises.{FinishesAsks, IsFinalOfSome, NothingFollowsFinals, SendsFinals, Turn, calls_in, ends_ask, finals_in, has_no_pending, is_finalising, is_open_face, printed_to}
use Rattle.zt_model.specs.Promises.{EachFace}
use Rattle.zt_model.specs.Routing.{stands}
use Rattle.zt_model.specs.Rows.{Ask, Face, Rows}
use Rattle.zt_model.specs.Transcript.{Each, fabric_shown, fabric_with}
use Rattle.zt_check_fabric.specs.Placed.{IsPlaced, has_one_place}
use Rattle.zt_check_fabric.proofs.Numbers.{number_is}
use Rattle.zt_check_keeping.proofs.Members.{Among, all_member, each_member, in_map, map_in, members_each}
use Rattle.zt_check_asks.specs.Answering.{is_that}
use Rattle.zt_check_finals.specs.Ending.{ended_by_line, finalised_at, finalised_by, touched_at, touched_by, unopened_by}
use Rattle.zt_check_finals.specs.Finishing.{Unended, are_finished_by, ended_are_finished, ends_ask as ends_so, finals_are_sent, finals_from, is_finished, is_of_some, is_of_some_ask, nothing_follows, stands_after, touched_is_finished}
use Rattle.zt_check_asks.proofs.Asked.{members_all}
use Rattle.zt_check_asks.proofs.Covered.{each_face, face_each, is_real}
use Rattle.zt_check_finals.proofs.Finished.{AllFinished, NoneEnded, all_finished, each_unended, none_ended, ended_told, printed_told, touched_told}
use Rattle.zt_check_finals.proofs.HeardAsks.{all_left, all_number, at_heard, heard_at, stands_heard}
use Rattle.zt_check_asks.proofs.LineCalls.{calls_any}
use Rattle.zt_check_finals.proofs.Lines.{line_on}
use Rattle.zt_check_finals.proofs.Printed.{follows_says, follows_told, of_some_is, open_at, open_there}

any_alike : {A : Type 0} (p q : A → Bool) (xs : List A) → ((x : A) → p x ≡ q x) → list_any p xs ≡ list_any q xs
any_alike p q [] alike = refl
any_alike p q (x ∷ xs) alike = ap (λ b. b || list_any p xs) (alike x) ∙ ap (λ b. q x || b) (any_alike p q xs alike)

-- no ask ends where each final is missing
ends_not : (b : Bool) (n : ℕ) → n ≡ 0 → n ≡ (if b then 1 else 0) → b ≡ false
ends_not true n none one = absurd (omega (arith, none, one))
ends_not false n none one = refl

not_ended : (a b : Bool) → (not a || b) ≡ false → a ≡ true
not_ended true b h = refl
not_ended false b h = absurd (false≢true (sym h))

module _ {K : Type 0} (cmp : K → K → Ordering) (matching : K → K → Bool) where
  finals_call : (gateway n id k : ℕ) (g : Rows K) (call : PlainCall K) → is_finalising cmp matching gateway n id (record { gateway = k; rows = g; call = call }) ≡ is_that (finalised_by k call) gateway n id
  finals_call gateway n id k g (InterestFinal face i) = refl
  finals_call gateway n id k g (Interest face i mode options e) = refl
  finals_call gateway n id k g (NewSession first) = refl
  finals_call gateway n id k g (NewTransport zid whatami region bound first) = refl
  finals_call gateway n id k g (DeclareToken face i e node interest) = refl
  finals_call gateway n id k g (UndeclareToken face i e node) = refl
  finals_call gateway n id k g (DeclareFinal face interest) = refl
  finals_call gateway n id k g (CloseFace face) = refl
  finals_call gateway n id k g (Expire now) = refl
  finals_call gateway n id k g (SetTrees region table) = refl
  finals_call gateway n id k g (SetEntities face subscribers queryables) = refl

  finals_found : (gateway n id : ℕ) (found : Option (CallAt K)) → is_some_and found (is_finalising cmp matching gateway n id) ≡ is_that (finalised_at found) gateway n id
  finals_found gateway n id None = refl
  finals_found gateway n id (Some at) = finals_call gateway n id at.gateway at.rows at.call

  -- an interest that ends is touched
  final_touches : (call : PlainCall K) (gateway n k id : ℕ) → is_that (finalised_by gateway call) n k id ≡ true → is_that (touched_by gateway call) n k id ≡ true
  final_touches (InterestFinal face i) gateway n k id h = h
  final_touches (Interest face i mode options e) gateway n k id h = absurd (false≢true h)
  final_touches (NewSession first) gateway n k id h = absurd (false≢true h)
  final_touches (NewTransport zid whatami region bound first) gateway n k id h = absurd (false≢true h)
  final_touches (DeclareToken face i e node interest) gateway n k id h = absurd (false≢true h)
  final_touches (UndeclareToken face i e node) gateway n k id h = absurd (false≢true h)
  final_touches (DeclareFinal face interest) gateway n k id h = absurd (false≢true h)
  final_touches (CloseFace face) gateway n k id h = absurd (false≢true h)
  final_touches (Expire now) gateway n k id h = absurd (false≢true h)
  final_touches (SetTrees region table) gateway n k id h = absurd (false≢true h)
  final_touches (SetEntities face subscribers queryables) gateway n k id h = absurd (false≢true h)

  found_touches : (found : Option (CallAt K)) (n k id : ℕ) → is_that (finalised_at found) n k id ≡ true → is_that (touched_at found) n k id ≡ true
  found_touches None n k id h = absurd (false≢true h)
  found_touches (Some at) n k id h = final_touches at.call at.gateway n k id h

module _ {K : Type 0} (cmp : K → K → Ordering) (matching : K → K → Bool) (line : PlainLine K) (ms : List (Sent K)) (s : Fabric K) where
  abbrev turn : Turn K
  turn = record { line = line; entry = Ok ms; before = s; after = fabric_shown cmp matching line (Ok ms) s }

  abbrev carried : Fabric K
  carried = fabric_with cmp matching line ms s

  abbrev finalised : Option (ℕ × ℕ × ℕ)
  finalised = finalised_at (call_of line s)

  -- ---- asks

  ends_is : (n : ℕ) (node : Node K) (f : Face K) (row : ℕ × Ask K) → nth n (fabric_with cmp matching line ms s).gateways ≡ Some node
      → ends_ask cmp matching (record { line = line; entry = Ok ms; before = s; after = fabric_shown cmp matching line (Ok ms) s }) n f row.0 row.1 ≡ ends_so (fabric_with cmp matching line ms s) (finalised_at (call_of line s)) ms n node.rows f row
  unfolding fabric_shown
  ends_is n node f row at =
      let index : 1 + n - 1 ≡ n = omega arith in
      let there = heard_at cmp carried ms 1 n carried.gateways node (is_real n carried.gateways node at) at in
      let none : has_no_pending cmp matching turn.after n row.1 ≡ not (list_any (stands_after carried ms n node.rows) row.1.pendings) =
      ap (λ found. is_some_and found (λ (x : Node K). not (list_any (stands x.rows) row.1.pendings))) there
      ∙ (ap (λ k. not (list_any (stands (rows_after_hearing cmp carried ms k node.rows)) row.1.pendings)) index
      ∙ ap not (any_alike (stands (rows_after_hearing cmp carried ms n node.rows)) (stands_after carried ms n node.rows) row.1.pendings (stands_heard cmp carried ms n node.rows))) in
      let ended : list_any (is_finalising cmp matching n f.number row.0) (calls_in cmp matching turn) ≡ is_that finalised n f.number row.0 =
      calls_any cmp matching (is_finalising cmp matching n f.number row.0) (record { opened = λ k g zid mode region bound first. refl; closed = λ k g face. refl }) line ms s turn.after
      ∙ finals_found cmp matching n f.number row.0 (call_of line s) in
      ap (λ b. b || (is_future row.1.interest.mode && list_any (is_finalising cmp matching n f.number row.0) (calls_in cmp matching turn))) none
      ∙ ap (λ b. not (list_any (stands_after carried ms n node.rows) row.1.pendings) || (is_future row.1.interest.mode && b)) ended

  abbrev IsFinished : ℕ → Face K → ℕ × Ask K → Type 0
  IsFinished n f row = finals_in row.0 (printed_to turn n f) ≡ (if ends_ask cmp matching turn n f row.0 row.1 then 1 else 0)

  asks_say : AllFinished (fabric_with cmp matching line ms s) (finalised_at (call_of line s)) ms → FinishesAsks cmp matching (record { line = line; entry = Ok ms; before = s; after = fabric_shown cmp matching line (Ok ms) s })
  unfolding fabric_shown
  asks_say all =
      face_each (λ n g f. Each (IsFinished n f) f.asks) carried
      (λ n node f at there.
      members_each (IsFinished n f) f.asks
      (λ row asked. eqb-true _ _ (all n node f row at there asked) ∙ ap (λ b. if b then 1 else 0) (sym (ends_is n node f row at))))

  asks_told : FinishesAsks cmp matching (record { line = line; entry = Ok ms; before = s; after = fabric_shown cmp matching line (Ok ms) s }) → AllFinished (fabric_with cmp matching line ms s) (finalised_at (call_of line s)) ms
  unfolding fabric_shown
  asks_told h n node f row at there asked =
      let one = each_member (IsFinished n f) row f.asks (each_face (λ k g x. Each (IsFinished k x) x.asks) carried n node f h at there) asked in
      eq-eqb _ _ (one ∙ ap (λ b. if b then 1 else 0) (ends_is n node f row at))

  -- ---- finals of no ask

  one_says : (m : Sent K) → Among m ms → (x : Message K) → m.message ≡ x → is_of_some carried (unopened_by s ms) m.face x ≡ true → IsFinalOfSome cmp matching turn m.face x
  one_says m at (message.DeclareFinal id) is h = sym (of_some_is s carried ms m id at is) ∙ h
  one_says m at (message.DeclareToken token e interest node) is h = tt
  one_says m at (message.UndeclareToken token e node) is h = tt
  one_says m at (message.Interest i mode options e) is h = tt
  one_says m at (message.InterestFinal i) is h = tt
  one_says m at (message.DeclareSubscriber i e interest) is h = tt
  one_says m at (message.DeclareQueryable i e info interest) is h = tt

  one_told : (m : Sent K) → Among m ms → (x : Message K) → m.message ≡ x → IsFinalOfSome cmp matching turn m.face x → is_of_some carried (unopened_by s ms) m.face x ≡ true
  one_told m at (message.DeclareFinal id) is h = of_some_is s carried ms m id at is ∙ h
  one_told m at (message.DeclareToken token e interest node) is h = refl
  one_told m at (message.UndeclareToken token e node) is h = refl
  one_told m at (message.Interest i mode options e) is h = refl
  one_told m at (message.InterestFinal i) is h = refl
  one_told m at (message.DeclareSubscriber i e interest) is h = refl
  one_told m at (message.DeclareQueryable i e info interest) is h = refl

  -- ---- what follows finals

  module _ (placed : IsPlaced (fabric_with cmp matching line ms s)) where
    one_place : (n : ℕ) (node : Node K) (f : Face K) → nth n carried.gateways ≡ Some node → Among f node.rows.faces → has_one_place n f.number carried.faces ≡ true
    one_place n node f at there = each_face (λ k g x. has_one_place k x.number carried.faces ≡ true) carried n node f placed.one at there

    abbrev Follows : ℕ → Face K → Type 0
    Follows n f = NothingFollowsFinals (printed_to turn n f)

    last_says : nothing_follows (fabric_with cmp matching line ms s) ms ≡ true → EachFace (λ n g f. NothingFollowsFinals (printed_to (record { line = line; entry = Ok ms; before = s; after = fabric_shown cmp matching line (Ok ms) s }) n f)) (fabric_shown cmp matching line (Ok ms) s)
    unfolding fabric_shown
    last_says h =
        face_each (λ n g f. Follows n f) turn.after
        (λ n node f at there.
        let old = at_heard cmp carried ms 1 n carried.gateways node (is_real n turn.after.gateways node at) at in
        of_face n node old.0 f old.1.0 old.1.1 there)
      where
        of_face : (n : ℕ) (node old : Node K) (f : Face K) → nth n carried.gateways ≡ Some old → node.rows ≡ rows_after_hearing cmp carried ms (1 + n - 1) old.rows → Among f node.rows.faces → Follows n f
        of_face n node old f at is there =
            let found = in_map (λ (x : Face K). heard_all cmp old.rows.moment (printed_for (number_of_place carried (1 + n - 1) x.number) ms) x) f old.rows.faces (subst (λ (g : Rows K). Among f g.faces) is there) in
            let o = found.0 in
            let number : f.number ≡ o.number = ap (λ (x : Face K). x.number) found.1.1 ∙ all_number cmp old.rows.moment (printed_for (number_of_place carried (1 + n - 1) o.number) ms) o in
            subst (λ k. NothingFollowsFinals (printed_for (number_of_place carried n k) ms)) (sym number)
            (follows_says carried (number_of_place carried n o.number) ms (open_there carried n old o at found.1.0 (one_place n old o at found.1.0)) h)

    last_told : EachFace (λ n g f. NothingFollowsFinals (printed_to (record { line = line; entry = Ok ms; before = s; after = fabric_shown cmp matching line (Ok ms) s }) n f)) (fabric_shown cmp matching line (Ok ms) s) → nothing_follows (fabric_with cmp matching line ms s) ms ≡ true
    unfolding fabric_shown
    last_told h = follows_told carried ms (λ k is_open. of_number k is_open)
      where
        of_number : (k : ℕ) → is_open_face carried k ≡ true → NothingFollowsFinals (printed_for k ms)
        of_number k is_open =
            let a = open_at carried k is_open in
            let node' : Node K = record a.node { rows = rows_after_hearing cmp carried ms (1 + a.n - 1) a.node.rows } in
            let at : nth a.n turn.after.gateways ≡ Some node' = heard_at cmp carried ms 1 a.n carried.gateways a.node (is_real a.n carried.gateways a.node a.at) a.at in
            let hears : Face K → Face K = λ x. heard_all cmp a.node.rows.moment (printed_for (number_of_place carried (1 + a.n - 1) x.number) ms) x in
            let listed : Among (hears a.face) node'.rows.faces = map_in hears a.face a.node.rows.faces a.there in
            let said : Follows a.n (hears a.face) = each_face (λ n g f. Follows n f) turn.after a.n node' (hears a.face) h at listed in
            let number : (hears a.face).number ≡ a.face.number = all_number cmp a.node.rows.moment (printed_for (number_of_place carried (1 + a.n - 1) a.face.number) ms) a.face in
            let is : number_of_place carried a.n a.face.number ≡ k = eqb-true _ k (number_is k a.n a.face.number carried.faces (one_place a.n a.node a.face a.at a.there) ∙ a.place) in
            subst (λ j. NothingFollowsFinals (printed_for j ms)) is (subst (λ j. NothingFollowsFinals (printed_for (number_of_place carried a.n j) ms)) number said)

    -- ---- all

    pub finals_say : Unended s → finals_are_sent (fabric_with cmp matching line ms s) (finalised_at (call_of line s)) ms (ended_by_line line (call_of line s) s) (touched_at (call_of line s)) (unopened_by s ms) ≡ true
        → SendsFinals cmp matching (record { line = line; entry = Ok ms; before = s; after = fabric_shown cmp matching line (Ok ms) s })
    finals_say unended checked =
        record {
          asks = asks_say (all_finished carried finalised ms cmp matching s (touched_at (call_of line s)) (ended_by_line line (call_of line s) s) placed (none_ended s unended)
              (line_on cmp matching (touched_at (call_of line s)) (ended_by_line line (call_of line s) s) line ms s refl refl) (found_touches cmp matching (call_of line s)) asks.0 asks.1 messages.0);
          no_others = members_each (λ (m : Sent K). IsFinalOfSome cmp matching turn m.face m.message) ms (λ m at. one_says m at m.message refl (all_member (is_of_some_ask carried (unopened_by s ms)) m ms messages.1 at));
          come_last = last_says others.1;
        }
      where
        asks : (list_all (ended_are_finished carried finalised ms) (ended_by_line line (call_of line s) s) ≡ true) × (touched_is_finished carried finalised ms (touched_at (call_of line s)) ≡ true)
        asks =
            and_parts (list_all (ended_are_finished carried finalised ms) (ended_by_line line (call_of line s) s)) (touched_is_finished carried finalised ms (touched_at (call_of line s)))
            (and_parts (list_all (ended_are_finished carried finalised ms) (ended_by_line line (call_of line s) s) && touched_is_finished carried finalised ms (touched_at (call_of line s)))
            ((list_all (are_finished_by carried finalised ms) ms && list_all (is_of_some_ask carried (unopened_by s ms)) ms) && nothing_follows carried ms) checked).0

        others : ((list_all (are_finished_by carried finalised ms) ms && list_all (is_of_some_ask carried (unopened_by s ms)) ms) ≡ true) × (nothing_follows carried ms ≡ true)
        others =
            and_parts (list_all (are_finished_by carried finalised ms) ms && list_all (is_of_some_ask carried (unopened_by s ms)) ms) (nothing_follows carried ms)
            (and_parts (list_all (ended_are_finished carried finalised ms) (ended_by_line line (call_of line s) s) && touched_is_finished carried finalised ms (touched_at (call_of line s)))
            ((list_all (are_finished_by carried finalised ms) ms && list_all (is_of_some_ask carried (unopened_by s ms)) ms) && nothing_follows carried ms) checked).1

        messages : (list_all (are_finished_by carried finalised ms) ms ≡ true) × (list_all (is_of_some_ask carried (unopened_by s ms)) ms ≡ true)
        messages =
            and_parts (list_all (are_finished_by carried finalised ms) ms) (list_all (is_of_some_ask carried (unopened_by s ms)) ms)
            (and_parts (list_all (are_finished_by carried finalised ms) ms && list_all (is_of_some_ask carried (unopened_by s ms)) ms) (nothing_follows carried ms)
            (and_parts (list_all (ended_are_finished carried finalised ms) (ended_by_line line (call_of line s) s) && touched_is_finished carried finalised ms (touched_at (call_of line s)))
            ((list_all (are_finished_by carried finalised ms) ms && list_all (is_of_some_ask carried (unopened_by s ms)) ms) && nothing_follows carried ms) checked).1).0

    pub finals_told : SendsFinals cmp matching (record { line = line; entry = Ok ms; before = s; after = fabric_shown cmp matching line (Ok ms) s })
        → finals_are_sent (fabric_with cmp matching line ms s) (finalised_at (call_of line s)) ms (ended_by_line line (call_of line s) s) (touched_at (call_of line s)) (unopened_by s ms) ≡ true
    finals_told h =
        let all = asks_told h.asks in
        and_from (list_all (ended_are_finished carried finalised ms) (ended_by_line line (call_of line s) s) && touched_is_finished carried finalised ms (touched_at (call_of line s)))
        ((list_all (are_finished_by carried finalised ms) ms && list_all (is_of_some_ask carried (unopened_by s ms)) ms) && nothing_follows carried ms)
        (and_from (list_all (ended_are_finished carried finalised ms) (ended_by_line line (call_of line s) s)) (touched_is_finished carried finalised ms (touched_at (call_of line s)))
        (ended_told carried finalised ms all (ended_by_line line (call_of line s) s)) (touched_told carried finalised ms all (touched_at (call_of line s))))
        (and_from (list_all (are_finished_by carried finalised ms) ms && list_all (is_of_some_ask carried (unopened_by s ms)) ms) (nothing_follows carried ms)
        (and_from (list_all (are_finished_by carried finalised ms) ms) (list_all (is_of_some_ask carried (unopened_by s ms)) ms)
        (printed_told carried finalised ms all)
        (members_all (is_of_some_ask carried (unopened_by s ms)) ms (λ m at. one_told m at m.message refl (each_member (λ (x : Sent K). IsFinalOfSome cmp matching turn x.face x.message) m ms h.no_others at))))
        (last_told h.come_last))

  -- ---- after it no ask has ended

  none_after : SendsFinals cmp matching (record { line = line; entry = Ok ms; before = s; after = fabric_shown cmp matching line (Ok ms) s }) → NoneEnded (fabric_shown cmp matching line (Ok ms) s)
  unfolding fabric_shown
  none_after h n node f row at there asked =
      let old = at_heard cmp carried ms 1 n carried.gateways node (is_real n turn.after.gateways node at) at in
      of_face old.0 old.1.0 (old.1.1 ∙ ap (λ k. rows_after_hearing cmp carried ms k old.0.rows) index)
    where
      index : 1 + n - 1 ≡ n
      index = omega arith

      of_face : (old : Node K) → nth n carried.gateways ≡ Some old → node.rows ≡ rows_after_hearing cmp carried ms n old.rows → list_any (stands node.rows) row.1.pendings ≡ true
      of_face old was is =
          let found = in_map (λ (x : Face K). heard_all cmp old.rows.moment (printed_for (number_of_place carried n x.number) ms) x) f old.rows.faces (subst (λ (g : Rows K). Among f g.faces) is there) in
          let o = found.0 in
          let left = all_left cmp old.rows.moment (printed_for (number_of_place carried n o.number) ms) o row (subst (λ (x : Face K). Among row x.asks) found.1.1 asked) in
          let one = each_member (IsFinished n o) left.old o.asks (each_face (λ k g x. Each (IsFinished k x) x.asks) carried n old o h.asks was found.1.0) left.there in
          let none : finals_in left.old.0 (printed_to turn n o) ≡ 0 = ap (λ k. finals_in k (printed_for (number_of_place carried n o.number) ms)) (sym left.id) ∙ left.none in
          let ends : ends_so carried finalised ms n old.rows o left.old ≡ false = sym (ends_is n old o left.old was) ∙ ends_not (ends_ask cmp matching turn n o left.old.0 left.old.1) (finals_in left.old.0 (printed_to turn n o)) none one in
          let stood : list_any (stands_after carried ms n old.rows) left.old.1.pendings ≡ true = not_ended (list_any (stands_after carried ms n old.rows) left.old.1.pendings) _ ends in
          subst (λ (g : Rows K). list_any (stands g) row.1.pendings ≡ true) (sym is)
          (any_alike (stands (rows_after_hearing cmp carried ms n old.rows)) (stands_after carried ms n old.rows) row.1.pendings (stands_heard cmp carried ms n old.rows)
          ∙ (ap (list_any (stands_after carried ms n old.rows)) left.pendings ∙ stood))

  pub unended_after : SendsFinals cmp matching (record { line = line; entry = Ok ms; before = s; after = fabric_shown cmp matching line (Ok ms) s }) → Unended (fabric_shown cmp matching line (Ok ms) s)
  unended_after h = each_unended (fabric_shown cmp matching line (Ok ms) s) (none_after h)

-- a refused line ends nothing
module _ {K : Type 0} (cmp : K → K → Ordering) (matching : K → K → Bool) (refusal : Refusal) (s : Fabric K) where
  gateways_stay : (line : PlainLine K) → (fabric_shown cmp matching line (Err refusal) s).gateways ≡ s.gateways
  unfolding fabric_shown
  gateways_stay (Gateway mode zid regions south name timeout refused) = refl
  gateways_stay (Session gateway first) = refl
  gateways_stay (FaceLine gateway mode zid region bound first) = refl
  gateways_stay (LinkLine one two first back) = refl
  gateways_stay (Unlink link) = refl
  gateways_stay (Step link back) = go (nat_lt 3 (number_of refusal))
    where
      taken : (found : Option Link) → (elim found as (λ _. Fabric K) [ None ↦ s | Some l ↦ with_taken (sending_end l back) s ]).gateways ≡ s.gateways
      taken None = refl
      taken (Some l) = refl

      go : (b : Bool) → (if b then (elim (nth link s.links) as (λ _. Fabric K) [ None ↦ s | Some l ↦ with_taken (sending_end l back) s ]) else s).gateways ≡ s.gateways
      go true = taken (nth link s.links)
      go false = refl
  gateways_stay (Speak call) = refl
  gateways_stay (Moment gateway now) = refl
  gateways_stay (SetTreesAt gateway region table) = refl

  pub refused_unended : (line : PlainLine K) → Unended s → Unended (fabric_shown cmp matching line (Err refusal) s)
  refused_unended line unended =
      each_unended (fabric_shown cmp matching line (Err refusal) s)
      (λ n node f row at there asked. none_ended s unended n node f row (subst (λ nodes. nth n nodes ≡ Some node) (gateways_stay line) at) there asked)

  nothing_in : (t : Turn K) → t.entry ≡ Err refusal → calls_in cmp matching t ≡ []
  unfolding calls_in
  nothing_in t is = rw is refl

  abbrev refused : PlainLine K → Turn K
  refused line = record { line = line; entry = Err refusal; before = s; after = fabric_shown cmp matching line (Err refusal) s }

  pub refused_finals : (line : PlainLine K) → Unended s → SendsFinals cmp matching (record { line = line; entry = Err refusal; before = s; after = fabric_shown cmp matching line (Err refusal) s })
  unfolding printed_for
  refused_finals line unended =
      let t : Turn K = record { line = line; entry = Err refusal; before = s; after = fabric_shown cmp matching line (Err refusal) s } in
      record {
        asks = face_each (λ n g f. Each (λ (row : ℕ × Ask K). finals_in row.0 (printed_to t n f) ≡ (if ends_ask cmp matching t n f row.0 row.1 then 1 else 0)) f.asks) s
            (λ n node f at there.
            members_each (λ (row : ℕ × Ask K). finals_in row.0 (printed_to t n f) ≡ (if ends_ask cmp matching t n f row.0 row.1 then 1 else 0)) f.asks
            (λ row asked. ap (λ b. if b then 1 else 0) (sym (goes_on n node f row at there asked))));
        no_others = tt;
        come_last = face_each (λ n g f. NothingFollowsFinals (printed_to t n f)) t.after (λ n node f at there. tt);
      }
    where
      and_false : (b c : Bool) → c ≡ false → (b && c) ≡ false
      and_false true c h = h
      and_false false c h = refl

      goes_on : (n : ℕ) (node : Node K) (f : Face K) (row : ℕ × Ask K) → nth n s.gateways ≡ Some node → Among f node.rows.faces → Among row f.asks → ends_ask cmp matching (record { line = line; entry = Err refusal; before = s; after = fabric_shown cmp matching line (Err refusal) s }) n f row.0 row.1 ≡ false
      goes_on n node f row at there asked =
          ap (λ found. is_some_and found (λ (x : Node K). not (list_any (stands x.rows) row.1.pendings)) || (is_future row.1.interest.mode && list_any (is_finalising cmp matching n f.number row.0) (calls_in cmp matching (refused line)))) (ap (nth n) (gateways_stay line) ∙ at)
          ∙ (ap (λ b. not b || (is_future row.1.interest.mode && list_any (is_finalising cmp matching n f.number row.0) (calls_in cmp matching (refused line)))) (none_ended s unended n node f row at there asked)
          ∙ and_false (is_future row.1.interest.mode) (list_any (is_finalising cmp matching n f.number row.0) (calls_in cmp matching (refused line))) (ap (list_any (is_finalising cmp matching n f.number row.0)) (nothing_in (refused line) refl)))
