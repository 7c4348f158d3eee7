-- A new ask: it is answered at once what is visible, and is sent no final where it was sent upward.
use Rattle.std.proofs.Common.{◌≡◌, inl, inr, ℕ, ◌≤◌, ◌+◌, Bool, true, false, if◌then◌else◌, ◌&&◌, ◌||◌, ◌==◌, not, cond, List, [], ◌∷◌, ◌++◌, length, map, filter, Option, Some, None, option_map, refl, sym, ap, ◌∙◌, subst, arith, eqb-true, eq-eqb, ⊎_elim}
use Rattle.std.proofs.lemmas.Bool.{or_cases, or_left, or_right}
use Rattle.std.specs.List.{list_any}
use Rattle.std.specs.declared.cmp.Ordering.{Ordering}
use Rattle.zt_region.specs.declared.region.WhatAmI.TheVariants.{Client}
use Rattle.zt_region.specs.Region.{is_north}
use Rattle.zt_protocol.specs.Interest.{is_current, is_future}
use Rattle.zt_protocol.specs.Plain.{PlainCall, Interest}
use Rattle.zt_protocol.specs.declared.interests.InterestMode.{InterestMode}
use Rattle.zt_protocol.specs.declared.interests.InterestOptions.{InterestOptions}
use Rattle.zt_protocol.specs.declared.messages.Message.{Message}
use Rattle.zt_protocol.specs.declared.messages.Message.TheVariants as message
use Rattle.zt_model.specs.Entities.{entities_for, numbered_by, with_numbers}
use Rattle.zt_model.specs.Hearing.{heard_all, messages_for, rows_heard, with_answer}
use Rattle.zt_model.specs.Lists.{at_id, first_where, is_among, same, without_id}
use Rattle.zt_model.specs.Parts.{Sends, find_face, said_by, to_each, to_face, told_id, with_face}
use Rattle.zt_model.specs.Promises.{answered_by, answers_in}
use Rattle.zt_model.specs.Routing.{asked_as, final_of, is_asked, is_target, route_to, sent_as}
use Rattle.zt_model.specs.Rows.{Ask, ById, Face, InterestRow, Rows}
use Rattle.zt_model.specs.Says.{answered_expressions, asking, parts_of, row_of, said}
use Rattle.zt_model.specs.Telling.{answers_from, answers_of}
use Rattle.zt_model.specs.Transcript.{Each}
use Rattle.zt_model.proofs.Hats.{asked_in, asked_is}
use Rattle.zt_laws.proofs.Hearing.{each_ruled, each_ruled_one, find_passes, messages_for-append, messages_for_other, messages_for_own}
use Rattle.zt_laws.proofs.Lists.{any-append, by_test, each_always, each_append, filter_alike, never, of_cond}
use Rattle.zt_laws.proofs.PartsOrder.{each_message_for}
use Rattle.zt_theorem_answers.proofs.AtOnce.{answered_at_once}
use Rattle.zt_theorem_soundness.proofs.ById.{at_put, at_without_other}
use Rattle.zt_theorem_soundness.proofs.CallsRun.{each_entity}
use Rattle.zt_theorem_tree_invariant.proofs.Saying.{TreeRows, all_asks, asks_after, find_heard_at}
use Rattle.zt_theorem_tree_invariant.proofs.Tracking.{find_with_face, sent_each}
use Rattle.zt_theorem_tree_all_that_stays.specs.Steady.{AnswersFirst, IsNoFinal, is_answer}
use Rattle.zt_theorem_tree_all_that_stays.proofs.Answers.{at_answered}

-- the one member that passes a test
pub filter_one : {A : Type 0} (p q : A → Bool) (xs : List A) (x : A) → length (filter q xs) ≤ 1 → first_where p xs ≡ Some x → q x ≡ true → filter q xs ≡ x ∷ []
filter_one p q [] x few found passes = cc
filter_one {A} p q (y ∷ xs) x few found passes =
    by_test (q y)
    (λ here.
    let none_ : length (filter q xs) ≤ 0 = (let few_ : length (cond (q y) (y ∷ filter q xs) (filter q xs)) ≤ 1 = few in let more : length (y ∷ filter q xs) ≤ 1 = rw here at few_ in omega arith) in
    let empty : filter q xs ≡ [] = no_length (filter q xs) none_ in
    let is : y ≡ x = by_test (p y)
    (λ own. let e : Some y ≡ Some x = rw own at found in cc)
    (λ own. absurd (absent xs (rw own at found) none_)) in
    rw here (ap (λ zs. y ∷ zs) empty ∙ ap (λ z. z ∷ []) is))
    (λ here.
    let few_ : length (filter q xs) ≤ 1 = rw here at few in
    let later : first_where p xs ≡ Some x = by_test (p y) (λ own. let e : Some y ≡ Some x = rw own at found in let is : y ≡ x = cc in never passes (ap q (sym is) ∙ here)) (λ own. rw own at found) in
    rw here (filter_one p q xs x few_ later passes))
  where
    no_length : (ys : List A) → length ys ≤ 0 → ys ≡ []
    no_length [] h = refl
    no_length (z ∷ zs) h = absurd (omega arith)

    absent : (ys : List A) → first_where p ys ≡ Some x → length (filter q ys) ≤ 0 → ⊥
    absent [] found_ h = cc
    absent (z ∷ zs) found_ h =
        by_test (q z)
        (λ here. let more : length (z ∷ filter q zs) ≤ 0 = rw here at h in omega arith)
        (λ here. by_test (p z) (λ own. let e : Some z ≡ Some x = rw own at found_ in let is : z ≡ x = cc in never passes (ap q (sym is) ∙ here)) (λ own. absent zs (rw own at found_) (rw here at h)))

module _ {K : Type 0} (cmp : K → K → Ordering) where
  -- an ask keeps what it was sent as
  pub pendings_stay : (id : ℕ) (ms : List (Message K)) (asks : ById (Ask K)) (ask : Ask K) → at_id id asks ≡ Some ask → Each (IsNoFinal id) ms → (later : Ask K) × (at_id id (asks_after cmp ms asks) ≡ Some later) × (later.pendings ≡ ask.pendings)
  pendings_stay id [] asks ask at_ none_ = (ask, at_, refl)
  pendings_stay id (message.DeclareToken k x None node ∷ ms) asks ask at_ none_ = pendings_stay id ms asks ask at_ none_.1
  pendings_stay id (message.DeclareToken k x (Some i) node ∷ ms) asks ask at_ none_ =
      let next = with_answer cmp i x (id, ask) in
      let at_next : at_id id (map (with_answer cmp i x) asks) ≡ Some next.1 = at_answered cmp id i x asks ∙ ap (option_map (λ a. (with_answer cmp i x (id, a)).1)) at_ in
      let same_ : next.1.pendings ≡ ask.pendings = of_cond (λ (r : ℕ × Ask K). r.1.pendings ≡ ask.pendings) ((i == id) && not (is_among cmp x ask.answered)) (id, record ask { answered = ask.answered ++ x ∷ [] }) (id, ask) (λ _. refl) (λ _. refl) in
      let more = pendings_stay id ms (map (with_answer cmp i x) asks) next.1 at_next none_.1 in
      (more.0, more.1, more.2 ∙ same_)
  pendings_stay id (message.DeclareFinal k ∷ ms) asks ask at_ none_ =
      let apart : (k == id) ≡ false = by_test (k == id) (λ is. never (eq-eqb id k (sym (eqb-true k id is))) none_.0) (λ h. h) in
      pendings_stay id ms (without_id k asks) ask (at_without_other id k asks apart ∙ at_) none_.1
  pendings_stay id (message.UndeclareToken k x node ∷ ms) asks ask at_ none_ = pendings_stay id ms asks ask at_ none_.1
  pendings_stay id (message.Interest k mode options x ∷ ms) asks ask at_ none_ = pendings_stay id ms asks ask at_ none_.1
  pendings_stay id (message.InterestFinal k ∷ ms) asks ask at_ none_ = pendings_stay id ms asks ask at_ none_.1
  pendings_stay id (message.DeclareSubscriber n x i ∷ ms) asks ask at_ none_ = pendings_stay id ms asks ask at_ none_.1
  pendings_stay id (message.DeclareQueryable n x info i ∷ ms) asks ask at_ none_ = pendings_stay id ms asks ask at_ none_.1

  -- ---- answers among messages

  answer_of : (id : ℕ) (e : K) (m : Message K) → list_any (same cmp e) (answered_by id m) ≡ is_answer cmp id e m
  answer_of id e (message.DeclareToken k x None node) = refl
  answer_of id e (message.DeclareToken k x (Some i) node) = by_test (id == i) (λ here. rw here (or_false (same cmp e x))) (λ here. rw here refl)
    where
      or_false : (b : Bool) → (b || false) ≡ b
      or_false true = refl
      or_false false = refl
  answer_of id e (message.UndeclareToken k x node) = refl
  answer_of id e (message.DeclareFinal k) = refl
  answer_of id e (message.Interest k mode options x) = refl
  answer_of id e (message.InterestFinal k) = refl
  answer_of id e (message.DeclareSubscriber n x i) = refl
  answer_of id e (message.DeclareQueryable n x info i) = refl

  pub answers_are_messages : (id : ℕ) (e : K) (ms : List (Message K)) → is_among cmp e (answers_in id ms) ≡ list_any (is_answer cmp id e) ms
  answers_are_messages id e [] = refl
  answers_are_messages id e (m ∷ ms) = any-append (same cmp e) (answered_by id m) (answers_in id ms) ∙ ap (λ b. b || is_among cmp e (answers_in id ms)) (answer_of id e m) ∙ ap (λ b. is_answer cmp id e m || b) (answers_are_messages id e ms)

  pub first_is_some : (id : ℕ) (e : K) (ms : List (Message K)) → AnswersFirst cmp id e ms → list_any (is_answer cmp id e) ms ≡ true
  first_is_some id e [] first = absurd first
  first_is_some id e (m ∷ ms) (inl here) = or_left (is_answer cmp id e m) (list_any (is_answer cmp id e) ms) here
  first_is_some id e (m ∷ ms) (inr later) = or_right (is_answer cmp id e m) (list_any (is_answer cmp id e) ms) (first_is_some id e ms later.1)

module _ {K : Type 0} (cmp : K → K → Ordering) (matching : K → K → Bool) (n id : ℕ) (mode : InterestMode) (options : InterestOptions) (x : Option K) (g : Rows K) (f : Face K) (rows : TreeRows cmp g) (found : find_face n g ≡ Some f) where
  abbrev pub asks_for : InterestRow K
  asks_for = row_of cmp matching f mode options x

  abbrev pub call : PlainCall K
  call = Interest n id mode options x

  -- ---- phase by phase

  abbrev numbered : Rows K
  numbered = with_numbers cmp (numbered_by cmp asks_for) g

  abbrev routes : Sends K
  routes = to_each (route_to numbered f.region asks_for) g.faces

  abbrev g1 : Rows K
  g1 = rows_heard cmp routes numbered

  abbrev entities : Sends K
  entities = to_face n (entities_for cmp matching g1 id asks_for) g1

  abbrev g2 : Rows K
  g2 = rows_heard cmp entities g1

  abbrev change : Face K → Face K
  change = asked_as (sent_as g f.region mode) id asks_for

  abbrev g3 : Rows K
  g3 = with_face n change g2

  abbrev answers : Sends K
  answers = to_face n (answers_of cmp matching g3 id asks_for) g3

  abbrev g4 : Rows K
  g4 = rows_heard cmp answers g3

  abbrev finals : Sends K
  finals = to_face n (final_of id) g4

  says : said cmp matching call g ≡ routes ++ (entities ++ (answers ++ (finals ++ [])))
  unfolding parts_of said_by
  says = by_said (find_face n g) found
    where
      by_said : (o : Option (Face K)) → o ≡ Some f → said_by cmp matching (elim o [ None ↦ [] | Some h ↦ asking cmp matching n id (row_of cmp matching h mode options x) h.region g ]) g ≡ routes ++ (entities ++ (answers ++ (finals ++ [])))
      by_said None is = cc
      by_said (Some h) is =
          let same_ : f ≡ h = cc in
          subst (λ (k : Face K). said_by cmp matching (asking cmp matching n id (row_of cmp matching k mode options x) k.region g) g ≡ routes ++ (entities ++ (answers ++ (finals ++ [])))) same_ refl

  abbrev for_ : Sends K → List (Message K)
  for_ ss = messages_for n ss

  said_is : messages_for n (said cmp matching call g) ≡ (for_ routes ++ (for_ entities ++ for_ answers)) ++ for_ finals
  unfolding messages_for
  said_is =
      ap (messages_for n) says
      ∙ messages_for-append n routes (entities ++ (answers ++ (finals ++ [])))
      ∙ ap (λ ms. for_ routes ++ ms) (messages_for-append n entities (answers ++ (finals ++ [])) ∙ ap (λ ms. for_ entities ++ ms) (messages_for-append n answers (finals ++ []) ∙ ap (λ ms. for_ answers ++ ms) (messages_for-append n finals [] ∙ no_more (for_ finals))))
      ∙ grouped (for_ routes) (for_ entities) (for_ answers) (for_ finals)
    where
      no_more : (ms : List (Message K)) → ms ++ [] ≡ ms
      no_more [] = refl
      no_more (m ∷ ms) = ap (λ ns. m ∷ ns) (no_more ms)

      joined : (ks bs cs : List (Message K)) → ks ++ (bs ++ cs) ≡ (ks ++ bs) ++ cs
      joined [] bs cs = refl
      joined (a ∷ ks) bs cs = ap (λ ms. a ∷ ms) (joined ks bs cs)

      grouped : (ks bs cs ds : List (Message K)) → ks ++ (bs ++ (cs ++ ds)) ≡ (ks ++ (bs ++ cs)) ++ ds
      grouped ks bs cs ds = ap (λ ms. ks ++ ms) (joined bs cs ds) ∙ joined ks (bs ++ cs) ds

  -- ---- no final comes before the last phase

  answers_plain : (next : ℕ) (told : ById K) (es : List K) → Each (IsNoFinal id) (answers_from cmp matching next told mode id es)
  unfolding answers_from
  answers_plain next told [] = tt
  answers_plain next told (y ∷ es) =
      of_cond (Each (IsNoFinal id)) (is_future mode) (elim (told_id cmp y told) [ None ↦ message.DeclareToken next y (Some id) 0 ∷ answers_from cmp matching (next + 1) told mode id es | Some old ↦ message.DeclareToken old y (Some id) 0 ∷ answers_from cmp matching next told mode id es ])
      (message.DeclareToken 0 y (Some id) 0 ∷ answers_from cmp matching next told mode id es)
      (λ _. cases (answers_plain (next + 1) told es) (answers_plain next told es) (told_id cmp y told)) (λ _. (tt, answers_plain next told es))
    where
      cases : Each (IsNoFinal id) (answers_from cmp matching (next + 1) told mode id es) → Each (IsNoFinal id) (answers_from cmp matching next told mode id es) → (o : Option ℕ)
          → Each (IsNoFinal id) (elim o [ None ↦ message.DeclareToken next y (Some id) 0 ∷ answers_from cmp matching (next + 1) told mode id es | Some old ↦ message.DeclareToken old y (Some id) 0 ∷ answers_from cmp matching next told mode id es ])
      cases more rest None = (tt, more)
      cases more rest (Some old) = (tt, rest)

  before : Each (IsNoFinal id) (for_ routes ++ (for_ entities ++ for_ answers))
  unfolding route_to
  before =
      each_append (IsNoFinal id) (for_ routes) (for_ entities ++ for_ answers)
      (each_message_for cmp (IsNoFinal id) n routes (each_ruled (IsNoFinal id) (route_to numbered f.region asks_for) g.faces (λ h. of_cond (Each (IsNoFinal id)) (is_target numbered f.region mode h) (message.Interest h.next mode asks_for.options x ∷ []) [] (λ _. (tt, tt)) (λ _. tt))))
      (each_append (IsNoFinal id) (for_ entities) (for_ answers)
      (each_message_for cmp (IsNoFinal id) n entities (each_ruled_one (IsNoFinal id) n (entities_for cmp matching g1 id asks_for) g1 (λ h. each_entity cmp (IsNoFinal id) (λ number y i. tt) (λ number y info i. tt) matching g1 id asks_for h)))
      (each_message_for cmp (IsNoFinal id) n answers (each_ruled_one (IsNoFinal id) n (answers_of cmp matching g3 id asks_for) g3 (λ h. answers_plain h.next h.told (answered_expressions cmp matching g3 asks_for h)))))

  IsNoAnswer : K → Message K → Type 0
  IsNoAnswer e m = is_answer cmp id e m ≡ false

  finals_answer_none : (e : K) → Each (IsNoAnswer e) (for_ finals)
  unfolding IsNoAnswer
  finals_answer_none e = each_message_for cmp (IsNoAnswer e) n finals (each_ruled_one (IsNoAnswer e) n (final_of id) g4 (λ h. by_ask (at_id id h.asks)))
    where
      by_pendings : (ps : List (ℕ × ℕ)) → (let ms : List (Message K) = elim ps [ [] ↦ message.DeclareFinal id ∷ [] | q ∷ qs ↦ [] ] in Each (IsNoAnswer e) ms)
      by_pendings [] = (refl, tt)
      by_pendings (q ∷ qs) = tt

      by_ask : (o : Option (Ask K)) → (let ms : List (Message K) = elim o [ None ↦ [] | Some ask ↦ elim ask.pendings [ [] ↦ message.DeclareFinal id ∷ [] | q ∷ qs ↦ [] ] ] in Each (IsNoAnswer e) ms)
      by_ask None = tt
      by_ask (Some ask) = by_pendings ask.pendings

  first_of_two : (e : K) (ms ns : List (Message K)) → Each (IsNoFinal id) ms → Each (IsNoAnswer e) ns → list_any (is_answer cmp id e) (ms ++ ns) ≡ true → AnswersFirst cmp id e (ms ++ ns)
  unfolding IsNoAnswer
  first_of_two e [] ns plain none_ some = absurd (nothing ns none_ some)
    where
      nothing : (ms : List (Message K)) → Each (λ m. is_answer cmp id e m ≡ false) ms → list_any (is_answer cmp id e) ms ≡ true → ⊥
      nothing [] all h = cc
      nothing (m ∷ ms) all h = ⊎_elim (λ here. never here all.0) (λ later. nothing ms all.1 later) (or_cases (is_answer cmp id e m) (list_any (is_answer cmp id e) ms) h)
  first_of_two e (m ∷ ms) ns plain none_ some = ⊎_elim (λ here. inl here) (λ later. inr (plain.0, first_of_two e ms ns plain.1 none_ later)) (or_cases (is_answer cmp id e m) (list_any (is_answer cmp id e) (ms ++ ns)) some)

  -- what is visible is answered at once, before any final
  pub visible_is_answered : (e : K) → is_among cmp e (answered_expressions cmp matching g asks_for f) ≡ true → AnswersFirst cmp id e (messages_for n (said cmp matching call g))
  visible_is_answered e seen =
      let some : list_any (is_answer cmp id e) (messages_for n (said cmp matching call g)) ≡ true = sym (answers_are_messages cmp id e (messages_for n (said cmp matching call g))) ∙ ap (is_among cmp e) (answered_at_once cmp matching n id mode options x f g found) ∙ seen in
      subst (AnswersFirst cmp id e) (sym said_is) (first_of_two e (for_ routes ++ (for_ entities ++ for_ answers)) (for_ finals) before (finals_answer_none e) (ap (list_any (is_answer cmp id e)) (sym said_is) ∙ some))

  -- ---- an ask that is sent upward isn't finished at once

  f1 : Face K
  f1 = heard_all cmp g.moment (messages_for n routes) f

  f2 : Face K
  f2 = heard_all cmp g1.moment (messages_for n entities) f1

  f4 : Face K
  f4 = heard_all cmp g3.moment (messages_for n answers) (change f2)

  found4 : find_face n g4 ≡ Some f4
  unfolding f1 f2 f4
  found4 =
      let found1 = find_heard_at cmp routes numbered n f found in
      let found2 = find_heard_at cmp entities g1 n f1 found1 in
      let found3 : find_face n g3 ≡ Some (change f2) = find_with_face cmp matching n n change g2 f2 (λ h. refl) found2 ∙ rw (eq-eqb n n refl) refl in
      find_heard_at cmp answers g3 n (change f2) found3

  finals_are : for_ finals ≡ final_of id f4
  unfolding to_face
  finals_are = by_found (find_face n g4) found4
    where
      by_found : (o : Option (Face K)) → o ≡ Some f4 → messages_for n (elim o [ None ↦ [] | Some h ↦ map (λ m. (n, m)) (final_of id h) ]) ≡ final_of id f4
      by_found None is = cc
      by_found (Some h) is = messages_for_own n (final_of id h) ∙ (let same_ : h ≡ f4 = cc in ap (final_of id) same_)

  new_ask : is_current mode ≡ true → at_id id (change f2).asks ≡ Some (record { interest = asks_for; pendings = sent_as g f.region mode; answered = [] })
  new_ask current = rw current (at_put id (record { interest = asks_for; pendings = sent_as g f.region mode; answered = [] }) f2.asks)

  pub sent_ask_stays : (a : ℕ × ℕ) → is_current mode ≡ true → sent_as g f.region mode ≡ a ∷ [] → Each (IsNoFinal id) (messages_for n (said cmp matching call g))
  unfolding f4
  sent_ask_stays a current sent =
      let plain : Each (IsNoFinal id) (for_ answers) = each_message_for cmp (IsNoFinal id) n answers (each_ruled_one (IsNoFinal id) n (answers_of cmp matching g3 id asks_for) g3 (λ h. answers_plain h.next h.told (answered_expressions cmp matching g3 asks_for h))) in
      let ask = pendings_stay cmp id (for_ answers) (change f2).asks (record { interest = asks_for; pendings = sent_as g f.region mode; answered = [] }) (new_ask current) plain in
      let at_ : at_id id f4.asks ≡ Some ask.0 = ap (at_id id) (all_asks cmp g3.moment (for_ answers) (change f2)) ∙ ask.1 in
      let pendings_ : ask.0.pendings ≡ a ∷ [] = ask.2 ∙ sent in
      let none_ : final_of id f4 ≡ [] = ap (λ (o : Option (Ask K)). (let ms : List (Message K) = elim o [ None ↦ [] | Some b ↦ elim b.pendings [ [] ↦ message.DeclareFinal id ∷ [] | q ∷ qs ↦ [] ] ] in ms)) at_ ∙ ap (λ (ps : List (ℕ × ℕ)). (let ms : List (Message K) = elim ps [ [] ↦ message.DeclareFinal id ∷ [] | q ∷ qs ↦ [] ] in ms)) pendings_ in
      subst (Each (IsNoFinal id)) (sym said_is) (each_append (IsNoFinal id) (for_ routes ++ (for_ entities ++ for_ answers)) (for_ finals) before (subst (Each (IsNoFinal id)) (sym (finals_are ∙ none_)) tt))

  -- ---- what is sent upward

  module _ (p : ℕ) (up : Face K) (at_p : find_face p g ≡ Some up) (north : is_north up.region ≡ true) (few : length (filter (λ h. is_north h.region) g.faces) ≤ 1) (client : g.mode ≡ Client) (down : is_north f.region ≡ false) where
    -- at a client gateway the interest of a face that leads down goes to each face that leads up
    target_is : (r : Rows K) → r.mode ≡ g.mode → (h : Face K) → is_target r f.region mode h ≡ is_north h.region
    unfolding is_target
    target_is r mode_ h = ap (λ b. not b && is_asked r mode h) down ∙ asked_is r mode h ∙ ap (λ m. asked_in m r mode h) (mode_ ∙ client)

    targets : (fs : List (Face K)) → filter (is_target g f.region mode) fs ≡ filter (λ h. is_north h.region) fs
    targets fs =
        filter_alike (is_target g f.region mode) (λ h. is_north h.region) fs
        (each_always (λ h. is_target g f.region mode h ≡ is_north h.region) (target_is g refl) fs)

    pub sent_up : sent_as g f.region mode ≡ (p, up.next) ∷ []
    unfolding sent_as
    sent_up =
        ap (map (λ h. (h.number, h.next))) (targets g.faces ∙ filter_one (λ h. p == h.number) (λ h. is_north h.region) g.faces up few at_p north)
        ∙ ap (λ k. (k, up.next) ∷ []) (sym (eqb-true p up.number (find_passes (λ h. p == h.number) g.faces up at_p)))

    routed_up : messages_for p routes ≡ message.Interest up.next mode asks_for.options x ∷ []
    unfolding route_to
    routed_up =
        sent_each cmp matching p (route_to numbered f.region asks_for) g up rows.rises at_p
        ∙ ap (λ b. (if b then message.Interest up.next mode asks_for.options x ∷ [] else [])) (target_is numbered refl up ∙ north)

    module _ (apart : (p == n) ≡ false) where
      none_of : (rule : Face K → List (Message K)) (h : Rows K) → messages_for p (to_face n rule h) ≡ []
      unfolding to_face messages_for
      none_of rule h = cases (find_face n h)
        where
          cases : (o : Option (Face K)) → messages_for p (elim o [ None ↦ [] | Some k ↦ map (λ m. (n, m)) (rule k) ]) ≡ []
          cases None = refl
          cases (Some k) = messages_for_other p n (rule k) apart

      -- the interest alone is sent there
      pub goes_up : messages_for p (said cmp matching call g) ≡ message.Interest up.next mode asks_for.options x ∷ []
      unfolding messages_for
      goes_up =
          ap (messages_for p) says
          ∙ messages_for-append p routes (entities ++ (answers ++ (finals ++ [])))
          ∙ ap (λ ms. ms ++ messages_for p (entities ++ (answers ++ (finals ++ [])))) routed_up
          ∙ ap (λ ms. (message.Interest up.next mode asks_for.options x ∷ []) ++ ms)
          (messages_for-append p entities (answers ++ (finals ++ []))
          ∙ ap (λ ms. ms ++ messages_for p (answers ++ (finals ++ []))) (none_of (entities_for cmp matching g1 id asks_for) g1)
          ∙ messages_for-append p answers (finals ++ [])
          ∙ ap (λ ms. ms ++ messages_for p (finals ++ [])) (none_of (answers_of cmp matching g3 id asks_for) g3)
          ∙ messages_for-append p finals []
          ∙ ap (λ ms. ms ++ []) (none_of (final_of id) g4))
