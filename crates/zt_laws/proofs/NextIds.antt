-- Each id that a call draws is the next one of its face, or that under which the face keeps the expression.
use Rattle.std.proofs.Common.{◌≡◌, ⊎_elim, ℕ, ◌+◌, ◌≤◌, ◌<◌, Bool, true, false, if◌then◌else◌, ◌||◌, ◌==◌, List, [], ◌∷◌, ◌++◌, map, Option, Some, None, refl, sym, ap, ◌∙◌, subst, arith, eq-eqb, eqb-true, ne_eqb, not, filter}
use Rattle.std.proofs.lemmas.Bool.{or_left, or_right}
use Rattle.std.specs.Cmp.{IsTotalOrder}
use Rattle.std.specs.declared.cmp.Ordering.{Ordering}
use Rattle.zt_region.specs.declared.region.Region.{Region}
use Rattle.zt_protocol.specs.Interest.{is_future}
use Rattle.zt_protocol.specs.Plain.{PlainCall, NewSession, NewTransport, DeclareToken as DeclareCall, UndeclareToken as UndeclareCall, Interest as InterestCall, InterestFinal as InterestFinalCall, DeclareFinal as DeclareFinalCall, CloseFace, Expire, SetTrees, SetEntities}
use Rattle.zt_protocol.specs.declared.interests.InterestMode.{InterestMode}
use Rattle.zt_protocol.specs.declared.messages.Message.{Message}
use Rattle.zt_protocol.specs.declared.messages.Message.TheVariants.{DeclareToken, UndeclareToken, DeclareFinal, Interest, InterestFinal, DeclareSubscriber, DeclareQueryable}
use Rattle.zt_model.specs.Hearing.{heard, heard_all, messages_for, rows_heard, told_pair}
use Rattle.zt_model.specs.Lists.{has_id}
use Rattle.zt_model.specs.Promises.{HaveNextIds, has_next_id}
use Rattle.zt_model.specs.Routing.{interests_from, is_target, opened, opening, opening_final, opening_interests, opening_tokens, route_to, tokens_from}
use Rattle.zt_model.specs.Rows.{ById, Face, InterestRow, Rows}
use Rattle.zt_model.specs.Says.{Alter, Part, Say, Sends, altered, altered_by, answered_expressions, answers_from, answers_of, asking, declaring, declaring_of, find_face, final_of, is_routed, is_told, parts_of, registers, row_of, said, said_by, tell_to, to_each, to_face, told_id}
use Rattle.zt_region.specs.declared.region.Bound.{Bound}
use Rattle.zt_region.specs.declared.region.WhatAmI.{WhatAmI}
use Rattle.zt_region.specs.declared.region.Zid.{Zid}
use Rattle.zt_protocol.specs.declared.interests.InterestOptions.{InterestOptions}
use Rattle.zt_model.specs.Telling.{answer_to, answering}
use Rattle.zt_model.specs.Transcript.{Each}
use Rattle.zt_model.specs.Trees.{pass_to, show_to, showing, source_of}
use Rattle.zt_model.specs.Entities.{entities_for}
use Rattle.zt_laws.specs.Kept.{Told, has_pair, told_by, told_by_all, told_of}
use Rattle.zt_laws.specs.Order.{ListsAreInOrder, RowsAreInOrder}
use Rattle.zt_laws.specs.Sound.{CallHasFirstIds}
use Rattle.zt_model.specs.Refusals.{can_draw}
use Rattle.zt_laws.proofs.CallsOrder.{keeps_faces, orderly_call, transport_in_order}
use Rattle.zt_laws.proofs.Drawing.{said_undrawn}
use Rattle.zt_laws.proofs.Hearing.{each_ruled, each_ruled_one, find_only, messages_for-append, messages_for_each, messages_for_other, messages_for_own}
use Rattle.zt_laws.proofs.Keeping.{pair_told, told_alone}
use Rattle.zt_laws.proofs.Lists.{by_test, each_always, each_append, each_both, each_filter, each_map, each_weaker, never, of_cond}
use Rattle.zt_laws.proofs.PartsOrder.{AreInOrder, IsOrderlyPart, altered_in_order, each_message_for, each_of_map, heard_in_order, lists_heard, told_by_all-number, tolds, tolds_heard, tolds_in_order}
use Rattle.zt_laws.proofs.Silent.{silent_entities, silent_final, silent_opening_final, silent_pass, silent_show}
use Rattle.zt_laws.proofs.Told.{told_id_each, told_id_row}
use Rattle.zt_laws.proofs.ToldOrder.{CanTell, DrawsNothing, IsInOrder, TellsPair, answer_tells_pair, can_tell, id_for, pair_step, zero_told}

module _ {K : Type 0} (cmp : K → K → Ordering) where
  -- a token's real id is the next one or that of its pair, and an interest's is the next one
  abbrev next_id : Message K → Told K → Bool
  next_id (DeclareToken id e interest node) t = (id == 0) || ((id == t.next) || has_pair cmp id e t.rows)
  next_id (Interest id mode options e) t = id == t.next
  next_id _ t = true

  abbrev pub DrawNext : List (Message K) → Told K → Type 0
  DrawNext [] t = Unit {0}
  DrawNext (m ∷ ms) t = (next_id m t ≡ true) × DrawNext ms (told_by cmp m t)

  next_is_next : (matching : K → K → Bool) (m : Message K) (f : Face K) → next_id m (told_of f) ≡ true → has_next_id cmp matching m f ≡ true
  next_is_next matching (DeclareToken id e interest node) f h = h
  next_is_next matching (Interest id mode options e) f h = h
  next_is_next matching (UndeclareToken id e node) f h = refl
  next_is_next matching (DeclareFinal interest) f h = refl
  next_is_next matching (InterestFinal id) f h = refl
  next_is_next matching (DeclareSubscriber id e interest) f h = refl
  next_is_next matching (DeclareQueryable id e info interest) f h = refl

  pub have_next_ids : (matching : K → K → Bool) (ms : List (Message K)) (f : Face K) → DrawNext ms (told_of f) → HaveNextIds cmp matching ms f
  unfolding heard_all
  have_next_ids matching [] f draws = tt
  have_next_ids matching (m ∷ ms) f draws = (next_is_next matching m f draws.0, have_next_ids matching ms (heard cmp 0 m f) (subst (DrawNext ms) (sym (told_alone cmp 0 (m ∷ []) f)) draws.1))

  pub draw_append : (ms ns : List (Message K)) (t : Told K) → DrawNext ms t → DrawNext ns (told_by_all cmp ms t) → DrawNext (ms ++ ns) t
  draw_append [] ns t one two = two
  draw_append (m ∷ ms) ns t one two = (one.0, draw_append ms ns (told_by cmp m t) one.1 two)

  draw_nothing : (ms : List (Message K)) (t : Told K) → Each DrawsNothing ms → DrawNext ms t
  draw_nothing [] t nothing = tt
  draw_nothing (m ∷ ms) t nothing = (one m nothing.0, draw_nothing ms (told_by cmp m t) nothing.1)
    where
      one : (m : Message K) → DrawsNothing m → next_id m t ≡ true
      one (DeclareToken id e interest node) zero_ = or_left (id == 0) ((id == t.next) || has_pair cmp id e t.rows) (eq-eqb id 0 zero_)
      one (Interest id mode options e) nothing_ = absurd nothing_
      one (UndeclareToken id e node) nothing_ = refl
      one (DeclareFinal interest) nothing_ = refl
      one (InterestFinal id) nothing_ = refl
      one (DeclareSubscriber id e interest) nothing_ = refl
      one (DeclareQueryable id e info interest) nothing_ = refl

  next_token : (id : ℕ) (e : K) (t : Told K) → id ≡ t.next → ((id == 0) || ((id == t.next) || has_pair cmp id e t.rows)) ≡ true
  next_token id e t is = or_right (id == 0) ((id == t.next) || has_pair cmp id e t.rows) (or_left (id == t.next) (has_pair cmp id e t.rows) (eq-eqb id t.next is))

  kept_token : (id : ℕ) (e : K) (t : Told K) → has_pair cmp id e t.rows ≡ true → ((id == 0) || ((id == t.next) || has_pair cmp id e t.rows)) ≡ true
  kept_token id e t there = or_right (id == 0) ((id == t.next) || has_pair cmp id e t.rows) (or_right (id == t.next) (has_pair cmp id e t.rows) there)

  -- interests and tokens under the ids from the next one on
  draw_interests : (n : ℕ) (is : List (InterestRow K)) (t : Told K) → n ≡ t.next → DrawNext (interests_from n is) t
  unfolding interests_from
  draw_interests n [] t is_next = tt
  draw_interests n (i ∷ is) t is_next =
      let u = told_by cmp (Interest n i.mode i.options i.expr) t in
      let next_ : n + 1 ≡ u.next = omega arith in
      (eq-eqb n t.next is_next, draw_interests (n + 1) is u next_)

  draw_tokens : (n : ℕ) (es : List K) (t : Told K) → n ≡ t.next → DrawNext (tokens_from n es) t
  unfolding tokens_from
  draw_tokens n [] t is_next = tt
  draw_tokens n (e ∷ es) t is_next =
      let u = told_by cmp (DeclareToken n e None 0) t in
      let next_ : n + 1 ≡ u.next = omega arith in
      (next_token n e t is_next, draw_tokens (n + 1) es u next_)

  module _ (total : IsTotalOrder cmp) where
    -- messages that tell one pair, or nothing
    draw_pair : (k : ℕ) (e : K) (ms : List (Message K)) (t : Told K) → Each (TellsPair cmp k e) ms → CanTell cmp k e t → IsInOrder cmp t → DrawNext ms t
    draw_pair k e [] t pairs can ordered = tt
    draw_pair k e (m ∷ ms) t pairs can ordered = let both = pair_step cmp total k e t can ordered m pairs.0 in (one m pairs.0, draw_pair k e ms (told_by cmp m t) pairs.1 both.1 both.0)
      where
        own : next_id (DeclareToken k e None 0) t ≡ true
        own = ⊎_elim (λ new_. next_token k e t new_.0) (λ old. kept_token k e t old.0) can

        one : (m : Message K) → TellsPair cmp k e m → next_id m t ≡ true
        one (DeclareToken id x interest node) pair =
            ⊎_elim (λ zero_. or_left (id == 0) ((id == t.next) || has_pair cmp id x t.rows) (eq-eqb id 0 zero_))
            (λ is. ap (λ i. (i == 0) || ((i == t.next) || has_pair cmp i x t.rows)) is.0 ∙ ap (λ y. (k == 0) || ((k == t.next) || has_pair cmp k y t.rows)) is.1 ∙ own) pair
        one (UndeclareToken id x node) pair = absurd pair
        one (DeclareFinal interest) pair = absurd pair
        one (Interest id mode options x) pair = absurd pair
        one (InterestFinal id) pair = absurd pair
        one (DeclareSubscriber id x interest) pair = absurd pair
        one (DeclareQueryable id x info interest) pair = absurd pair

    -- what holds while answers from `n` on are heard, where the first of them saw `told`
    record CanAnswer (told : ById K) (n : ℕ) (t : Told K) : Type 0 where
      next_is : n ≡ t.next
      real : 1 ≤ n
      below : (e : K) (id : ℕ) → told_id cmp e told ≡ Some id → id < n
      there : (e : K) (id : ℕ) → told_id cmp e told ≡ Some id → has_pair cmp id e t.rows ≡ true

    still_there : (told : ById K) (n k : ℕ) (x : K) (t : Told K) → CanAnswer told n t → (e : K) (id : ℕ) → told_id cmp e told ≡ Some id → has_pair cmp id e (told_pair cmp k x t.rows) ≡ true
    still_there told n k x t can e id is = pair_told cmp total id k e x t.rows ∙ or_left (has_pair cmp id e t.rows) _ (can.there e id is)

    module _ (matching : K → K → Bool) where
      draw_answers : (mode : InterestMode) (id : ℕ) (told : ById K) (es : List K) (n : ℕ) (t : Told K) → CanAnswer told n t → DrawNext (answers_from cmp matching n told mode id es) t
      unfolding answers_from
      draw_answers mode id told [] n t can = tt
      draw_answers mode id told (e ∷ es) n t can =
          by_test (is_future mode)
          (λ future. rw future (cases (told_id cmp e told) refl (λ k u can_. draw_answers mode id told es k u can_)))
          (λ future.
          let real : 1 ≤ t.next = subst (λ k. 1 ≤ k) can.next_is can.real in
          rw future (refl, subst (DrawNext (answers_from cmp matching n told mode id es)) (sym (zero_told cmp 0 e (Some id) 0 t refl real)) (draw_answers mode id told es n t can)))
        where
          cases : (o : Option ℕ) → told_id cmp e told ≡ o → ((k : ℕ) (u : Told K) → CanAnswer told k u → DrawNext (answers_from cmp matching k told mode id es) u)
              → DrawNext (elim o [ None ↦ DeclareToken n e (Some id) 0 ∷ answers_from cmp matching (n + 1) told mode id es | Some old ↦ DeclareToken old e (Some id) 0 ∷ answers_from cmp matching n told mode id es ]) t
          cases None is rest =
              let n_is : n ≡ t.next = can.next_is in
              let real : 1 ≤ n = can.real in (
                next_token n e t n_is,
                rest (n + 1) (told_by cmp (DeclareToken n e (Some id) 0) t)
                    (record { next_is = omega arith; real = omega arith; below = λ x old is_. let less : old < n = can.below x old is_ in omega arith; there = still_there told n n e t can }),
              )
          cases (Some old) is rest =
              let n_is : n ≡ t.next = can.next_is in
              let less : old < n = can.below e old is in
              (kept_token old e t (can.there e old is), rest n (told_by cmp (DeclareToken old e (Some id) 0) t) (record { next_is = omega arith; real = can.real; below = can.below; there = still_there told n old e t can }))

      draw_answers_of : (g : Rows K) (id : ℕ) (interest : InterestRow K) (f : Face K) → IsInOrder cmp (told_of f) → DrawNext (answers_of cmp matching g id interest f) (told_of f)
      draw_answers_of g id interest f ordered =
          draw_answers interest.mode id f.told (answered_expressions cmp matching g interest f) f.next (told_of f)
          (record { next_is = refl; real = ordered.next_is_real; below = λ e old is. told_id_each cmp (λ k. k < f.next) e f.told old ordered.below is; there = λ e old is. told_id_row cmp e f.told old is })

      draw_tell : (g : Rows K) (source : Region) (e : K) (f : Face K) → DrawNext (tell_to cmp matching g source e f) (told_of f)
      unfolding tell_to
      draw_tell g source e f = by_test (is_told cmp matching g source e f) (λ tells. rw tells (next_token f.next e (told_of f) refl, tt)) (λ tells. rw tells tt)

      draw_route : (g : Rows K) (asker : Region) (interest : InterestRow K) (f : Face K) → DrawNext (route_to g asker interest f) (told_of f)
      unfolding route_to
      draw_route g asker interest f = by_test (is_target g asker interest.mode f) (λ sent. rw sent (eq-eqb f.next f.next refl, tt)) (λ sent. rw sent tt)

      draw_answer : (n id : ℕ) (e : K) (f : Face K) → IsInOrder cmp (told_of f) → DrawNext (answer_to cmp matching n id e f) (told_of f)
      draw_answer n id e f ordered = draw_pair (id_for cmp total e (told_of f)) e (answer_to cmp matching n id e f) (told_of f) (answer_tells_pair cmp total matching n id e f) (can_tell cmp total e (told_of f) ordered) ordered

      -- ---- parts

      -- the messages of each face draw its next ids
      abbrev pub Draws : Sends K → List (Told K) → Type 0
      Draws ss ts = Each (λ t. DrawNext (messages_for t.number ss) t) ts

      abbrev IsDrawing : Part K → Type 0
      IsDrawing (Alter change) = Unit {0}
      IsDrawing (Say rule) = (g : Rows K) → ListsAreInOrder cmp matching g → AreInOrder cmp (tolds cmp g) → Draws (rule g) (tolds cmp g)

      draws_silent : (ss : Sends K) (ts : List (Told K)) → Each (λ s. DrawsNothing s.1) ss → Draws ss ts
      draws_silent ss ts nothing = each_always (λ t. DrawNext (messages_for t.number ss) t) (λ t. draw_nothing (messages_for t.number ss) t (each_message_for cmp DrawsNothing t.number ss nothing)) ts

      drawing_each : (rule : Rows K → Face K → List (Message K)) → ((g : Rows K) (f : Face K) → IsInOrder cmp (told_of f) → DrawNext (rule g f) (told_of f)) → IsDrawing (Say (λ g. to_each (rule g) g.faces))
      drawing_each rule one = λ g lists ordered.
          each_map (λ t. DrawNext (messages_for t.number (to_each (rule g) g.faces)) t) told_of g.faces
          (each_both (λ f. messages_for f.number (to_each (rule g) g.faces) ≡ rule g f) (λ f. IsInOrder cmp (told_of f)) (λ f. DrawNext (messages_for f.number (to_each (rule g) g.faces)) (told_of f))
          (λ f is ordered_. subst (λ ms. DrawNext ms (told_of f)) (sym is) (one g f ordered_)) g.faces (messages_for_each 1 (rule g) g.faces lists.faces_rise) (each_of_map (IsInOrder cmp) told_of g.faces ordered))

      drawing_at : (n : ℕ) (rule : Face K → List (Message K)) (g : Rows K) → ListsAreInOrder cmp matching g → Each (λ f. DrawNext (rule f) (told_of f)) g.faces → Draws (to_face n rule g) (tolds cmp g)
      unfolding to_face messages_for
      drawing_at n rule g lists one = each_map (λ t. DrawNext (messages_for t.number (to_face n rule g)) t) told_of g.faces (cases (find_face n g) refl)
        where
          cases : (o : Option (Face K)) → find_face n g ≡ o → Each (λ f. DrawNext (messages_for f.number (elim o [ None ↦ [] | Some k ↦ map (λ m. (n, m)) (rule k) ])) (told_of f)) g.faces
          cases None found = each_always (λ f. Unit {0}) (λ f. tt) g.faces
          cases (Some k) found =
              each_both (λ f. (n == f.number) ≡ true → f ≡ k) (λ f. DrawNext (rule f) (told_of f)) (λ f. DrawNext (messages_for f.number (map (λ m. (n, m)) (rule k))) (told_of f))
              (λ f only own.
              by_test (n == f.number)
              (λ here.
              let number_ : f.number ≡ n = sym (eqb-true n f.number here) in
              subst (λ ms. DrawNext ms (told_of f)) (sym (ap (λ j. messages_for j (map (λ m. (n, m)) (rule k))) number_ ∙ messages_for_own n (rule k) ∙ ap rule (sym (only here)))) own)
              (λ here. subst (λ ms. DrawNext ms (told_of f)) (sym (messages_for_other f.number n (rule k) (ne_eqb f.number n (λ is. never (eq-eqb n f.number (sym is)) here)))) tt))
              g.faces (find_only n 1 g.faces k lists.faces_rise found) one

      draws_then : (ss rest : Sends K) (g : Rows K) → Draws ss (tolds cmp g) → Draws rest (tolds cmp (rows_heard cmp ss g)) → Draws (ss ++ rest) (tolds cmp g)
      draws_then ss rest g one two =
          each_both (λ t. DrawNext (messages_for t.number ss) t) (λ t. DrawNext (messages_for (told_by_all cmp (messages_for t.number ss) t).number rest) (told_by_all cmp (messages_for t.number ss) t)) (λ t. DrawNext (messages_for t.number (ss ++ rest)) t)
          (λ t a b.
          subst (λ ms. DrawNext ms t) (sym (messages_for-append t.number ss rest))
          (draw_append (messages_for t.number ss) (messages_for t.number rest) t a (subst (λ k. DrawNext (messages_for k rest) (told_by_all cmp (messages_for t.number ss) t)) (told_by_all-number cmp (messages_for t.number ss) t) b)))
          (tolds cmp g) one
          (each_of_map (λ t. DrawNext (messages_for t.number rest) t) (λ (t : Told K). told_by_all cmp (messages_for t.number ss) t) (tolds cmp g) (subst (Draws rest) (tolds_heard cmp ss g) two))

      said_draws : (parts : List (Part K)) (g : Rows K) → Each (IsOrderlyPart cmp matching) parts → Each IsDrawing parts → ListsAreInOrder cmp matching g → AreInOrder cmp (tolds cmp g) → Draws (said_by cmp matching parts g) (tolds cmp g)
      unfolding said_by messages_for
      said_draws [] g orderly drawing lists ordered = each_always (λ t. Unit {0}) (λ t. tt) (tolds cmp g)
      said_draws (Alter change ∷ parts) g orderly drawing lists ordered =
          let one = orderly.0 g lists in
          subst (Draws (said_by cmp matching parts (change g))) one.1 (said_draws parts (change g) orderly.1 drawing.1 one.0 (subst (AreInOrder cmp) (sym one.1) ordered))
      said_draws (Say rule ∷ parts) g orderly drawing lists ordered =
          let ss = rule g in
          let h = rows_heard cmp ss g in
          draws_then ss (said_by cmp matching parts h) g (drawing.0 g lists ordered) (said_draws parts h orderly.1 drawing.1 (lists_heard cmp matching ss g lists) (heard_in_order cmp matching ss g (orderly.0 g lists ordered)))

      -- ---- calls

      drawing_telling : (source : Region) (e : K) → IsDrawing (Say (λ g. to_each (tell_to cmp matching g source e) g.faces))
      drawing_telling source e = drawing_each (λ g f. tell_to cmp matching g source e f) (λ g f ordered. draw_tell g source e f)

      drawing_showing : (source : Region) (e : K) → Each IsDrawing (showing cmp source e)
      drawing_showing source e = ((λ g lists ordered. draws_silent (to_each (show_to cmp g source e) g.faces) (tolds cmp g) (each_ruled DrawsNothing (show_to cmp g source e) g.faces (silent_show cmp matching g source e))), (tt, tt))

      drawing_answering : (n : ℕ) (interest : Option ℕ) (e : K) (f : Face K) → Each IsDrawing (answering cmp matching n interest e f)
      drawing_answering n None e f = tt
      drawing_answering n (Some id) e f =
          of_cond (Each IsDrawing) (has_id id f.pendings) (Say (λ g. to_each (answer_to cmp matching n id e) g.faces) ∷ []) [] (λ _. (drawing_each (λ g f. answer_to cmp matching n id e f) (λ g f ordered. draw_answer n id e f ordered), tt)) (λ _. tt)

      drawing_routed : (n : ℕ) (source : Option Zid) (e : K) (f : Face K) → Each IsDrawing (declaring_of cmp matching n source e f)
      drawing_routed n None e f = tt
      drawing_routed n (Some source) e f = (
        tt,
        (
          λ g lists ordered.
              draws_silent (filter (λ s. not (n == s.0)) (to_each (pass_to cmp g f.region source e) g.faces)) (tolds cmp g)
              (each_filter (λ s. DrawsNothing s.1) (λ s. not (n == s.0)) (to_each (pass_to cmp g f.region source e) g.faces) (each_ruled DrawsNothing (pass_to cmp g f.region source e) g.faces (silent_pass cmp matching g f.region source e))),
          (drawing_telling f.region e, drawing_showing f.region e),
        ),
      )

      drawing_declare : (n id node : ℕ) (e : K) (interest : Option ℕ) (g : Rows K) → Each IsDrawing (parts_of cmp matching (DeclareCall n id e node interest) g)
      unfolding parts_of
      drawing_declare n id node e interest g = cases (find_face n g)
        where
          cases : (o : Option (Face K))
              → Each IsDrawing (elim o [ None ↦ [] | Some f ↦ if is_routed g f then declaring_of cmp matching n (source_of g f node) e f else answering cmp matching n interest e f ++ (if registers f interest then declaring cmp matching n id e f ++ showing cmp f.region e else []) ])
          cases None = tt
          cases (Some f) =
              of_cond (Each IsDrawing) (is_routed g f) (declaring_of cmp matching n (source_of g f node) e f) (answering cmp matching n interest e f ++ (if registers f interest then declaring cmp matching n id e f ++ showing cmp f.region e else []))
              (λ _. drawing_routed n (source_of g f node) e f)
              (λ _. each_append IsDrawing (answering cmp matching n interest e f) (if registers f interest then declaring cmp matching n id e f ++ showing cmp f.region e else []) (drawing_answering n interest e f)
              (of_cond (Each IsDrawing) (registers f interest) (declaring cmp matching n id e f ++ showing cmp f.region e) []
              (λ _. each_append IsDrawing (declaring cmp matching n id e f) (showing cmp f.region e) (tt, (drawing_telling f.region e, tt)) (drawing_showing f.region e)) (λ _. tt)))

      drawing_ask : (n id : ℕ) (mode : InterestMode) (options : InterestOptions) (e : Option K) (g : Rows K) → Each IsDrawing (parts_of cmp matching (InterestCall n id mode options e) g)
      unfolding parts_of
      drawing_ask n id mode options e g = cases (find_face n g)
        where
          asks : (interest : InterestRow K) (asker : Region) → Each IsDrawing (asking cmp matching n id interest asker g)
          asks interest asker = (
            tt,
            (
              drawing_each (λ h f. route_to h asker interest f) (λ h f ordered. draw_route h asker interest f),
              (
                (λ h lists ordered. draws_silent (to_face n (entities_for cmp matching h id interest) h) (tolds cmp h) (each_ruled_one DrawsNothing n (entities_for cmp matching h id interest) h (silent_entities cmp matching h id interest))),
                (
                  tt,
                  (
                    (λ h lists ordered. drawing_at n (answers_of cmp matching h id interest) h lists (each_weaker (λ f. IsInOrder cmp (told_of f)) (λ f. DrawNext (answers_of cmp matching h id interest f) (told_of f)) (λ f own. draw_answers_of h id interest f own) h.faces (each_of_map (IsInOrder cmp) told_of h.faces ordered))),
                    (
                      (λ h lists ordered. draws_silent (to_face n (final_of id) h) (tolds cmp h) (each_ruled_one DrawsNothing n (final_of id) h (silent_final id))),
                      tt,
                    ),
                  ),
                ),
              ),
            ),
          )

          cases : (o : Option (Face K)) → Each IsDrawing (elim o [ None ↦ [] | Some f ↦ asking cmp matching n id (row_of cmp matching f mode options e) f.region g ])
          cases None = tt
          cases (Some f) = asks (row_of cmp matching f mode options e) f.region

      opening_draws : (zid : Zid) (whatami : WhatAmI) (region : Region) (bound : Bound) (first : ℕ) (g : Rows K) → 1 ≤ first → RowsAreInOrder cmp matching g
          → Draws (said_by cmp matching (opening cmp matching zid whatami region bound first g) g) (tolds cmp (opened zid whatami region bound first g))
      unfolding said_by
      opening_draws zid whatami region bound first g real rows =
          let n = g.made + 1 in
          let one = opened zid whatami region bound first g in
          let lists = (transport_in_order cmp matching total zid whatami region bound first g real rows).lists in
          let interests = to_face n (λ f. interests_from f.next (opening_interests cmp matching one f)) one in
          let two = rows_heard cmp interests one in
          let two_lists = lists_heard cmp matching interests one lists in
          let tokens = to_face n (λ f. tokens_from f.next (opening_tokens cmp matching two f)) two in
          let three = rows_heard cmp tokens two in
          let finals = to_face n (opening_final cmp matching) three in
          draws_then interests (tokens ++ (finals ++ [])) one
          (drawing_at n (λ f. interests_from f.next (opening_interests cmp matching one f)) one lists (each_always (λ f. DrawNext (interests_from f.next (opening_interests cmp matching one f)) (told_of f)) (λ f. draw_interests f.next (opening_interests cmp matching one f) (told_of f) refl) one.faces))
          (draws_then tokens (finals ++ []) two
          (drawing_at n (λ f. tokens_from f.next (opening_tokens cmp matching two f)) two two_lists (each_always (λ f. DrawNext (tokens_from f.next (opening_tokens cmp matching two f)) (told_of f)) (λ f. draw_tokens f.next (opening_tokens cmp matching two f) (told_of f) refl) two.faces))
          (draws_silent (finals ++ []) (tolds cmp three) (each_append (λ s. DrawsNothing s.1) finals [] (each_ruled_one DrawsNothing n (opening_final cmp matching) three (silent_opening_final cmp matching)) tt)))

      faces_draw : (ss : Sends K) (g : Rows K) → Draws ss (tolds cmp g) → Each (λ f. HaveNextIds cmp matching (messages_for f.number ss) f) g.faces
      faces_draw ss g draws = each_weaker (λ f. DrawNext (messages_for f.number ss) (told_of f)) (λ f. HaveNextIds cmp matching (messages_for f.number ss) f) (λ f own. have_next_ids matching (messages_for f.number ss) f own) g.faces (each_of_map (λ t. DrawNext (messages_for t.number ss) t) told_of g.faces draws)

      kept_draws : (c : PlainCall K) (g : Rows K) → keeps_faces cmp matching total c ≡ true → Each IsDrawing (parts_of cmp matching c g) → RowsAreInOrder cmp matching g → Draws (said cmp matching c g) (tolds cmp (altered cmp matching c g))
      kept_draws c g keeps_ drawing rows =
          let orderly = orderly_call cmp matching total c g keeps_ in
          let alters = altered_in_order cmp matching (parts_of cmp matching c g) g orderly rows.lists in
          subst (Draws (said cmp matching c g)) (sym alters.1) (said_draws (parts_of cmp matching c g) g orderly drawing rows.lists (tolds_in_order cmp matching g rows))

      undrawn_draws : (c : PlainCall K) (g : Rows K) → can_draw cmp matching c ≡ false → Draws (said cmp matching c g) (tolds cmp (altered cmp matching c g))
      undrawn_draws c g draws = draws_silent (said cmp matching c g) (tolds cmp (altered cmp matching c g)) (said_undrawn cmp matching total c g draws)

      -- Each call draws the next ids of faces.
      pub call_draws : (c : PlainCall K) (g : Rows K) → CallHasFirstIds c → RowsAreInOrder cmp matching g → Draws (said cmp matching c g) (tolds cmp (altered cmp matching c g))
      unfolding parts_of altered_by
      call_draws (DeclareCall n id e node interest) g real rows = kept_draws (DeclareCall n id e node interest) g refl (drawing_declare n id node e interest g) rows
      call_draws (InterestCall n id mode options e) g real rows = kept_draws (InterestCall n id mode options e) g refl (drawing_ask n id mode options e g) rows
      call_draws (NewTransport zid whatami region bound first) g real rows = opening_draws zid whatami region bound first g real rows
      call_draws (NewSession first) g real rows = undrawn_draws (NewSession first) g refl
      call_draws (CloseFace n) g real rows = undrawn_draws (CloseFace n) g refl
      call_draws (UndeclareCall n id given node) g real rows = undrawn_draws (UndeclareCall n id given node) g refl
      call_draws (InterestFinalCall n id) g real rows = undrawn_draws (InterestFinalCall n id) g refl
      call_draws (DeclareFinalCall n id) g real rows = undrawn_draws (DeclareFinalCall n id) g refl
      call_draws (Expire now) g real rows = undrawn_draws (Expire now) g refl
      call_draws (SetTrees region t) g real rows = undrawn_draws (SetTrees region t) g refl
      call_draws (SetEntities n subscribers queryables) g real rows = undrawn_draws (SetEntities n subscribers queryables) g refl

      pub call_has_next_ids : (c : PlainCall K) (g : Rows K) → CallHasFirstIds c → RowsAreInOrder cmp matching g → Each (λ f. HaveNextIds cmp matching (messages_for f.number (said cmp matching c g)) f) (altered cmp matching c g).faces
      call_has_next_ids c g real rows = faces_draw (said cmp matching c g) (altered cmp matching c g) (call_draws c g real rows)
