-- A token that answers is printed only for an ask of its id that asks for it.
use Rattle.std.proofs.Common.{◌≡◌, ℕ, ◌+◌, ◌≤◌, Bool, true, false, not, ◌&&◌, ◌==◌, if◌then◌else◌, List, [], ◌∷◌, ◌++◌, map, filter, Option, Some, None, refl, sym, ap, ◌∙◌, subst, append-nil, arith, eq-eqb, ne_eqb}
use Rattle.std.proofs.lemmas.Bool.{and_from, and_parts}
use Rattle.std.specs.List.{flat_map}
use Rattle.std.specs.declared.cmp.Ordering.{Ordering}
use Rattle.zt_region.specs.declared.region.Region.{Region}
use Rattle.zt_region.specs.declared.region.Zid.{Zid}
use Rattle.zt_protocol.specs.Interest.{is_current, is_future, has_tokens}
use Rattle.zt_protocol.specs.Plain.{PlainCall, NewSession, NewTransport, DeclareToken, UndeclareToken, Interest, InterestFinal, DeclareFinal, CloseFace, Expire, SetTrees, SetEntities}
use Rattle.zt_protocol.specs.declared.interests.InterestMode.{InterestMode}
use Rattle.zt_protocol.specs.declared.interests.InterestOptions.{InterestOptions}
use Rattle.zt_protocol.specs.declared.messages.Message.{Message}
use Rattle.zt_protocol.specs.declared.messages.Message.TheVariants as message
use Rattle.zt_model.specs.Entities.{entities_for, numbered_by, with_numbers}
use Rattle.zt_model.specs.Hearing.{put_if, rows_heard}
use Rattle.zt_model.specs.Lists.{at_id, first_where, has_id, is_among, is_some_and}
use Rattle.zt_model.specs.Routing.{asked_as, route_to, sent_as}
use Rattle.zt_model.specs.Rows.{Ask, ById, Face, InterestRow, Rows}
use Rattle.zt_model.specs.Says.{Alter, Part, Say, Sends, altered, altered_by, answered_expressions, answering, answers_from, answers_of, asking, declaring, declaring_of, final_of, find_face, is_routed, parts_of, registered, registers, row_of, said, said_by, to_each, to_face, told_id, with_face}
use Rattle.zt_model.specs.Telling.{answer_to, is_answered_by, was_sent_as}
use Rattle.zt_model.specs.Transcript.{Each}
use Rattle.zt_model.specs.Trees.{is_newly_shown, router_regions, showing, source_of, with_own_rows, with_routed}
use Rattle.zt_model.specs.Visible.{visible_expressions}
use Rattle.zt_model.specs.Wants.{asks_token, is_about}
use Rattle.zt_laws.specs.Order.{HasRowsInOrder, RowsAreInOrder}
use Rattle.zt_laws.specs.Sound.{RiseFrom, opens_face}
use Rattle.zt_laws.proofs.Hearing.{each_ruled, each_ruled_one, find_passes}
use Rattle.zt_laws.proofs.Lists.{by_test, each_append, each_both, each_map, each_passes, each_weaker, map-map, never, of_cond, rise_above}
use Rattle.zt_theorem_soundness.specs.Ran.{ran}
use Rattle.zt_theorem_soundness.proofs.ById.{at_put, each_at, find_mapped}
use Rattle.zt_theorem_soundness.proofs.CallsRun.{each_entity, own_rows_leave}
use Rattle.zt_theorem_soundness.proofs.Running.{said_by-append}
use Rattle.zt_theorem_visibility.proofs.Saying.{SaysEach, closing_says, declare_final_says, declaring_of_says, expiry_says, final_says, interest_final_says, route_says, said_each, showing_says, table_says, telling_says, undeclaration_says}

-- each face is the first of its number
pub finds_itself : {K : Type 0} (low : ℕ) (fs : List (Face K)) → RiseFrom (λ f. f.number) low fs → Each (λ f. first_where (λ k. f.number == k.number) fs ≡ Some f) fs
finds_itself low [] rises = tt
finds_itself low (f ∷ fs) rises =
    let above = rise_above (λ k. k.number) (f.number + 1) fs rises.1 in
    let own : (f.number == f.number) ≡ true = eq-eqb f.number f.number refl in (
      rw own refl,
      each_both (λ k. f.number + 1 ≤ k.number) (λ k. first_where (λ x. k.number == x.number) fs ≡ Some k) (λ k. first_where (λ x. k.number == x.number) (f ∷ fs) ≡ Some k)
          (λ k up one. let apart : (k.number == f.number) ≡ false = ne_eqb k.number f.number (λ e. omega arith) in rw apart one) fs above (finds_itself (f.number + 1) fs rises.1),
    )

module _ {K : Type 0} (cmp : K → K → Ordering) (matching : K → K → Bool) where
  -- the face has an ask of the id that asks for the expression's tokens
  abbrev pub asked : Rows K → ℕ → ℕ → K → Bool
  asked w n id e = is_some_and (find_face n w) (λ f. is_some_and (at_id id f.asks) (λ ask. asks_token matching ask.interest e))

  -- an answer is for an ask
  abbrev pub AnswersAsk : (ℕ → ℕ → K → Bool) → ℕ → Message K → Type 0
  AnswersAsk has n (message.DeclareToken id e (Some i) node) = has n i e ≡ true
  AnswersAsk has n m = Unit {0}

  abbrev pub AnswersNobody : Message K → Type 0
  AnswersNobody (message.DeclareToken id e (Some i) node) = ⊥
  AnswersNobody m = Unit {0}

  pub nobody_asked : (has : ℕ → ℕ → K → Bool) (n : ℕ) (m : Message K) → AnswersNobody m → AnswersAsk has n m
  nobody_asked has n (message.DeclareToken id e (Some i) node) none_ = absurd none_
  nobody_asked has n (message.DeclareToken id e None node) none_ = tt
  nobody_asked has n (message.UndeclareToken id e node) none_ = tt
  nobody_asked has n (message.DeclareFinal interest) none_ = tt
  nobody_asked has n (message.Interest id mode options e) none_ = tt
  nobody_asked has n (message.InterestFinal id) none_ = tt
  nobody_asked has n (message.DeclareSubscriber id e interest) none_ = tt
  nobody_asked has n (message.DeclareQueryable id e info interest) none_ = tt

  pub none_asked : (has : ℕ → ℕ → K → Bool) (ss : Sends K) → Each (λ s. AnswersNobody s.1) ss → Each (λ s. AnswersAsk has s.0 s.1) ss
  none_asked has ss none_ = each_weaker (λ s. AnswersNobody s.1) (λ s. AnswersAsk has s.0 s.1) (λ s one. nobody_asked has s.0 s.1 one) ss none_

  -- answers under an id, of expressions that are asked for
  answers_asked : (has : ℕ → ℕ → K → Bool) (n next : ℕ) (told : ById K) (mode : InterestMode) (id : ℕ) (es : List K) → Each (λ e. has n id e ≡ true) es → Each (AnswersAsk has n) (answers_from cmp matching next told mode id es)
  unfolding answers_from
  answers_asked has n next told mode id [] all = tt
  answers_asked has n next told mode id (e ∷ es) all =
      by_test (is_future mode)
      (λ future. rw future (by_id (told_id cmp e told) (answers_asked has n (next + 1) told mode id es all.1) (answers_asked has n next told mode id es all.1)))
      (λ future. rw future (all.0, answers_asked has n next told mode id es all.1))
    where
      by_id : (o : Option ℕ) → Each (AnswersAsk has n) (answers_from cmp matching (next + 1) told mode id es) → Each (AnswersAsk has n) (answers_from cmp matching next told mode id es)
          → Each (AnswersAsk has n) (elim o [ None ↦ message.DeclareToken next e (Some id) 0 ∷ answers_from cmp matching (next + 1) told mode id es | Some old ↦ message.DeclareToken old e (Some id) 0 ∷ answers_from cmp matching next told mode id es ])
      by_id None more same_ = (all.0, more)
      by_id (Some old) more same_ = (all.0, same_)

  -- what holds of each expression that an interest asks for holds of each that it is answered
  answered_all : (B : K → Type 0) (h : Rows K) (interest : InterestRow K) (f : Face K) → ((x : K) → is_current interest.mode ≡ true → has_tokens interest.options ≡ true → is_about matching interest.expr x ≡ true → B x) → Each B (answered_expressions cmp matching h interest f)
  unfolding answered_expressions
  answered_all B h interest f one =
      of_cond (Each B) (is_current interest.mode && has_tokens interest.options) (filter (is_about matching interest.expr) (visible_expressions cmp h f.region)) []
      (λ both.
      let parts = and_parts (is_current interest.mode) (has_tokens interest.options) both in
      each_weaker (λ x. is_about matching interest.expr x ≡ true) B (λ x about. one x parts.0 parts.1 about) (filter (is_about matching interest.expr) (visible_expressions cmp h f.region)) (each_passes (is_about matching interest.expr) (visible_expressions cmp h f.region)))
      (λ _. tt)

  -- ---- an interest

  interest_asked : (n id : ℕ) (mode : InterestMode) (options : InterestOptions) (e : Option K) (from : Face K) (g : Rows K) → find_face n g ≡ Some from
      → (let c : PlainCall K = Interest n id mode options e in Each (λ s. AnswersAsk (asked (altered cmp matching c g)) s.0 s.1) (said cmp matching c g))
  unfolding parts_of said_by altered_by with_face to_face rows_heard
  interest_asked n id mode options e from g found =
      subst (λ (o : Option (Face K)). (let parts : List (Part K) = elim o [ None ↦ [] | Some f ↦ asking cmp matching n id (row_of cmp matching f mode options e) f.region g ] in Each (λ s. AnswersAsk (asked (altered_by cmp matching parts g)) s.0 s.1) (said_by cmp matching parts g))) (sym found)
      (each_append Here ss1 (ss2 ++ (ss3 ++ (ss4 ++ []))) (none_asked (asked w) ss1 (each_ruled AnswersNobody (route_to g1 from.region interest) g1.faces (route_says cmp matching AnswersNobody (λ k m o x. tt) g1 from.region interest)))
      (each_append Here ss2 (ss3 ++ (ss4 ++ [])) (none_asked (asked w) ss2 (each_ruled_one AnswersNobody n (entities_for cmp matching g2 id interest) g2 (each_entity cmp AnswersNobody (λ number x j. tt) (λ number x info j. tt) matching g2 id interest)))
      (each_append Here ss3 (ss4 ++ []) (own (find_face n g4))
      (each_append Here ss4 [] (none_asked (asked w) ss4 (each_ruled_one AnswersNobody n (final_of id) g5 (final_says cmp matching AnswersNobody (λ k. tt) id))) tt))))
    where
      interest : InterestRow K
      interest = row_of cmp matching from mode options e

      asks : Face K → Face K
      asks = asked_as (sent_as g from.region mode) id interest

      g1 : Rows K
      g1 = with_numbers cmp (numbered_by cmp interest) g

      ss1 : Sends K
      ss1 = to_each (route_to g1 from.region interest) g1.faces

      g2 : Rows K
      g2 = rows_heard cmp ss1 g1

      ss2 : Sends K
      ss2 = to_face n (entities_for cmp matching g2 id interest) g2

      g4 : Rows K
      g4 = with_face n asks (rows_heard cmp ss2 g2)

      ss3 : Sends K
      ss3 = to_face n (answers_of cmp matching g4 id interest) g4

      g5 : Rows K
      g5 = rows_heard cmp ss3 g4

      ss4 : Sends K
      ss4 = to_face n (final_of id) g5

      w : Rows K
      w = with_face n asks g1

      Here : ℕ × Message K → Type 0
      Here s = AnswersAsk (asked w) s.0 s.1

      ask_there : (x : K) → is_current mode ≡ true → has_tokens interest.options ≡ true → is_about matching e x ≡ true → asked w n id x ≡ true
      ask_there x current tokens about =
          let chosen = λ (k : Face K). if n == k.number then asks k else k in
          let here : (n == from.number) ≡ true = find_passes (λ f. n == f.number) g.faces from found in
          let there : find_face n w ≡ Some (chosen from) = find_mapped n chosen g.faces from (λ k. of_cond (λ (y : Face K). y.number ≡ k.number) (n == k.number) (asks k) k (λ _. refl) (λ _. refl)) found in
          let is : chosen from ≡ asks from = ap (λ b. if b then asks from else from) here in
          let new_ : Ask K = record { interest = interest; pendings = sent_as g from.region mode; answered = [] } in
          let at_ask : at_id id (asks from).asks ≡ Some new_ = ap (λ b. at_id id (put_if b id new_ from.asks)) current ∙ at_put id new_ from.asks in
          ap (λ (o : Option (Face K)). is_some_and o (λ f. is_some_and (at_id id f.asks) (λ ask. asks_token matching ask.interest x))) (there ∙ ap (λ (k : Face K). Some k) is)
          ∙ ap (λ (o : Option (Ask K)). is_some_and o (λ ask. asks_token matching ask.interest x)) at_ask
          ∙ and_from (has_tokens interest.options) (is_about matching e x) tokens about

      own : (o : Option (Face K)) → (let ss : Sends K = elim o [ None ↦ [] | Some f ↦ map (λ m. (n, m)) (answers_of cmp matching g4 id interest f) ] in Each Here ss)
      own None = tt
      own (Some f) =
          each_map Here (λ m. (n, m)) (answers_of cmp matching g4 id interest f)
          (answers_asked (asked w) n f.next f.told mode id (answered_expressions cmp matching g4 interest f) (answered_all (λ x. asked w n id x ≡ true) g4 interest f ask_there))

  -- ---- a declaration

  -- faces keep their numbers and asks
  record LeavesAsks (g h : Rows K) : Type 0 where
    change : Face K → Face K
    faces : h.faces ≡ map change g.faces
    number : (f : Face K) → (change f).number ≡ f.number
    asks : (f : Face K) → (change f).asks ≡ f.asks

  leaves_itself : (g h : Rows K) → h.faces ≡ g.faces → LeavesAsks g h
  leaves_itself g h faces_ = record { change = λ f. f; faces = faces_ ∙ sym (map_itself g.faces); number = λ f. refl; asks = λ f. refl }
    where
      map_itself : (fs : List (Face K)) → map (λ (f : Face K). f) fs ≡ fs
      map_itself [] = refl
      map_itself (f ∷ fs) = ap (λ xs. f ∷ xs) (map_itself fs)

  leaves_then : (g h k : Rows K) → LeavesAsks g h → LeavesAsks h k → LeavesAsks g k
  leaves_then g h k one two = record {
    change = λ f. two.change (one.change f);
    faces = two.faces ∙ ap (map two.change) one.faces ∙ map-map two.change one.change g.faces;
    number = λ f. two.number (one.change f) ∙ one.number f;
    asks = λ f. two.asks (one.change f) ∙ one.asks f;
  }

  abbrev PartLeaves : Part K → Type 0
  PartLeaves (Alter change) = (g : Rows K) → LeavesAsks g (change g)
  PartLeaves (Say rule) = Unit {0}

  altered_leaves : (parts : List (Part K)) (g : Rows K) → Each PartLeaves parts → LeavesAsks g (altered_by cmp matching parts g)
  unfolding altered_by
  altered_leaves [] g leaves = leaves_itself g g refl
  altered_leaves (Alter change ∷ parts) g leaves = leaves_then g (change g) (altered_by cmp matching parts (change g)) (leaves.0 g) (altered_leaves parts (change g) leaves.1)
  altered_leaves (Say rule ∷ parts) g leaves = altered_leaves parts g leaves.1

  showing_leaves : (source : Region) (e : K) → Each PartLeaves (showing cmp source e)
  showing_leaves source e = (
    tt,
    (
      (λ g.
          let rs = filter (is_newly_shown cmp g source e) (router_regions g) in
          leaves_itself g (with_own_rows cmp rs e g) (own_rows_leave cmp (λ (k : Rows K). k.faces) (λ k rows. refl) rs e g)),
      tt,
    ),
  )

  registering_leaves : (n id : ℕ) (e : K) (g : Rows K) → LeavesAsks g (with_face n (registered id e) g)
  unfolding with_face
  registering_leaves n id e g = record {
    change = λ f. if n == f.number then registered id e f else f;
    faces = refl;
    number = λ f. of_cond (λ (k : Face K). k.number ≡ f.number) (n == f.number) (registered id e f) f (λ _. refl) (λ _. refl);
    asks = λ f. of_cond (λ (k : Face K). k.asks ≡ f.asks) (n == f.number) (registered id e f) f (λ _. refl) (λ _. refl);
  }

  routed_leaves : (n : ℕ) (source : Option Zid) (e : K) (f : Face K) → Each PartLeaves (declaring_of cmp matching n source e f)
  unfolding with_routed
  routed_leaves n None e f = tt
  routed_leaves n (Some zid) e f = ((λ g. leaves_itself g (with_routed cmp f.region zid e g) refl), (tt, (tt, showing_leaves f.region e)))

  answering_leaves : (n : ℕ) (interest : Option ℕ) (e : K) (f : Face K) → Each PartLeaves (answering cmp matching n interest e f)
  answering_leaves n None e f = tt
  answering_leaves n (Some i) e f = of_cond (Each PartLeaves) (has_id i f.pendings) (Say (λ h. to_each (answer_to cmp matching n i e) h.faces) ∷ []) [] (λ _. (tt, tt)) (λ _. tt)

  -- the ask of a face stands there still
  ask_stands : (g w : Rows K) (f : Face K) (row : ℕ × Ask K) (e : K) → LeavesAsks g w → find_face f.number g ≡ Some f → at_id row.0 f.asks ≡ Some row.1 → asks_token matching row.1.interest e ≡ true → asked w f.number row.0 e ≡ true
  ask_stands g w f row e leaves found at_ask token =
      let there : find_face f.number w ≡ Some (leaves.change f) = ap (λ (fs : List (Face K)). first_where (λ k. f.number == k.number) fs) leaves.faces ∙ find_mapped f.number leaves.change g.faces f leaves.number found in
      ap (λ (o : Option (Face K)). is_some_and o (λ k. is_some_and (at_id row.0 k.asks) (λ ask. asks_token matching ask.interest e))) there
      ∙ ap (λ (rows : ById (Ask K)). is_some_and (at_id row.0 rows) (λ ask. asks_token matching ask.interest e)) (leaves.asks f)
      ∙ ap (λ (o : Option (Ask K)). is_some_and o (λ ask. asks_token matching ask.interest e)) at_ask
      ∙ token

  -- each face is sent what its rule gives
  each_to_each : (B : ℕ × Message K → Type 0) (rule : Face K → List (Message K)) (fs : List (Face K)) → Each (λ f. Each (λ m. B (f.number, m)) (rule f)) fs → Each B (to_each rule fs)
  unfolding to_each
  each_to_each B rule [] all = tt
  each_to_each B rule (f ∷ fs) all = each_append B (map (λ m. (f.number, m)) (rule f)) (to_each rule fs) (each_map B (λ m. (f.number, m)) (rule f) all.0) (each_to_each B rule fs all.1)

  -- an answer goes to those that asked
  answer_asked : (n i : ℕ) (e : K) (g w : Rows K) → LeavesAsks g w → RowsAreInOrder cmp matching g → Each (λ s. AnswersAsk (asked w) s.0 s.1) (to_each (answer_to cmp matching n i e) g.faces)
  unfolding answer_to
  answer_asked n i e g w leaves ordered =
      each_to_each Here (answer_to cmp matching n i e) g.faces
      (each_both HasRowsInOrder (λ f. find_face f.number g ≡ Some f) (λ f. Each (AnswersAsk (asked w) f.number) (answer_to cmp matching n i e f)) (λ f rows found. own f (rows, found)) g.faces ordered.lists.rows (finds_itself 1 g.faces ordered.lists.faces_rise))
    where
      Found : Face K → Type 0
      Found f = HasRowsInOrder f × (find_face f.number g ≡ Some f)

      Here : ℕ × Message K → Type 0
      Here s = AnswersAsk (asked w) s.0 s.1

      own : (f : Face K) → Found f → Each (AnswersAsk (asked w) f.number) (answer_to cmp matching n i e f)
      own f has = each_of_rows f.asks (each_at 0 f.asks has.0.asks)
        where
          each_of_rows : (rows : ById (Ask K)) → Each (λ row. at_id row.0 f.asks ≡ Some row.1) rows → Each (AnswersAsk (asked w) f.number) (flat_map (λ row. if is_answered_by cmp matching n i e row.1 then answers_from cmp matching f.next f.told row.1.interest.mode row.0 (e ∷ []) else []) rows)
          each_of_rows [] all = tt
          each_of_rows (row ∷ rows) all =
              let one = if is_answered_by cmp matching n i e row.1 then answers_from cmp matching f.next f.told row.1.interest.mode row.0 (e ∷ []) else [] in
              each_append (AnswersAsk (asked w) f.number) one (flat_map (λ r. if is_answered_by cmp matching n i e r.1 then answers_from cmp matching f.next f.told r.1.interest.mode r.0 (e ∷ []) else []) rows)
              (of_cond (Each (AnswersAsk (asked w) f.number)) (is_answered_by cmp matching n i e row.1) (answers_from cmp matching f.next f.told row.1.interest.mode row.0 (e ∷ [])) []
              (λ answered.
              let parts = and_parts (was_sent_as n i row.1) (asks_token matching row.1.interest e && not (is_among cmp e row.1.answered)) answered in
              let token = (and_parts (asks_token matching row.1.interest e) (not (is_among cmp e row.1.answered)) parts.1).0 in
              answers_asked (asked w) f.number f.next f.told row.1.interest.mode row.0 (e ∷ []) (ask_stands g w f row e leaves has.1 all.0 token, tt)) (λ _. tt))
              (each_of_rows rows all.1)

  nothing_asked : (g : Rows K) → Each (λ s. AnswersAsk (asked (altered_by cmp matching [] g)) s.0 s.1) (said_by cmp matching [] g)
  unfolding said_by altered_by
  nothing_asked g = tt

  -- what answering says
  answered_first : (n : ℕ) (o : Option ℕ) (e : K) (f : Face K) (g w : Rows K) → LeavesAsks g w → RowsAreInOrder cmp matching g → Each (λ s. AnswersAsk (asked w) s.0 s.1) (said_by cmp matching (answering cmp matching n o e f) g)
  unfolding said_by
  answered_first n None e f g w leaves ordered = tt
  answered_first n (Some i) e f g w leaves ordered =
      of_cond (λ (parts : List (Part K)). Each (λ s. AnswersAsk (asked w) s.0 s.1) (said_by cmp matching parts g)) (has_id i f.pendings) (Say (λ h. to_each (answer_to cmp matching n i e) h.faces) ∷ []) []
      (λ _. subst (Each (λ s. AnswersAsk (asked w) s.0 s.1)) (sym (append-nil (to_each (answer_to cmp matching n i e) g.faces))) (answer_asked n i e g w leaves ordered)) (λ _. tt)

  declaration_asked : (n id node : ℕ) (e : K) (interest : Option ℕ) (g : Rows K) → RowsAreInOrder cmp matching g
      → (let c : PlainCall K = DeclareToken n id e node interest in Each (λ s. AnswersAsk (asked (altered cmp matching c g)) s.0 s.1) (said cmp matching c g))
  unfolding parts_of
  declaration_asked n id node e interest g ordered = cases (find_face n g)
    where
      plain : Face K → List (Part K)
      plain f = if registers f interest then declaring cmp matching n id e f ++ showing cmp f.region e else []

      Asks : List (Part K) → Type 0
      Asks parts = Each (λ s. AnswersAsk (asked (altered_by cmp matching parts g)) s.0 s.1) (said_by cmp matching parts g)

      by_route : (f : Face K) → Asks (declaring_of cmp matching n (source_of g f node) e f)
      by_route f =
          let parts = declaring_of cmp matching n (source_of g f node) e f in
          none_asked (asked (altered_by cmp matching parts g)) (said_by cmp matching parts g) (said_each cmp matching AnswersNobody parts g (declaring_of_says cmp matching AnswersNobody (λ k x. tt) (λ x k. tt) n (source_of g f node) e f))

      plain_none : (f : Face K) (h : Rows K) → Each (λ s. AnswersNobody s.1) (said_by cmp matching (plain f) h)
      plain_none f h =
          said_each cmp matching AnswersNobody (plain f) h
          (of_cond (Each (SaysEach cmp matching AnswersNobody)) (registers f interest) (declaring cmp matching n id e f ++ showing cmp f.region e) []
          (λ _. (tt, (telling_says cmp matching AnswersNobody (λ k x. tt) f.region e, showing_says cmp matching AnswersNobody (λ x k. tt) f.region e))) (λ _. tt))

      plain_leaves : (f : Face K) → Each PartLeaves (answering cmp matching n interest e f ++ plain f)
      plain_leaves f =
          each_append PartLeaves (answering cmp matching n interest e f) (plain f) (answering_leaves n interest e f)
          (of_cond (Each PartLeaves) (registers f interest) (declaring cmp matching n id e f ++ showing cmp f.region e) [] (λ _. ((λ h. registering_leaves n id e h), (tt, showing_leaves f.region e))) (λ _. tt))

      by_plain : (f : Face K) → Asks (answering cmp matching n interest e f ++ plain f)
      by_plain f =
          let parts = answering cmp matching n interest e f ++ plain f in
          let w = altered_by cmp matching parts g in
          let rest = said_by cmp matching (plain f) (ran cmp (answering cmp matching n interest e f) g) in
          subst (Each (λ s. AnswersAsk (asked w) s.0 s.1)) (sym (said_by-append cmp matching (answering cmp matching n interest e f) (plain f) g))
          (each_append (λ s. AnswersAsk (asked w) s.0 s.1) (said_by cmp matching (answering cmp matching n interest e f) g) rest (first interest w (altered_leaves parts g (plain_leaves f))) (none_asked (asked w) rest (plain_none f (ran cmp (answering cmp matching n interest e f) g))))
        where
          first : (o : Option ℕ) (w : Rows K) → LeavesAsks g w → Each (λ s. AnswersAsk (asked w) s.0 s.1) (said_by cmp matching (answering cmp matching n o e f) g)
          first o w leaves = answered_first n o e f g w leaves ordered

      cases : (o : Option (Face K)) → Asks (elim o [ None ↦ [] | Some f ↦ if is_routed g f then declaring_of cmp matching n (source_of g f node) e f else answering cmp matching n interest e f ++ (if registers f interest then declaring cmp matching n id e f ++ showing cmp f.region e else []) ])
      cases None = nothing_asked g
      cases (Some f) = of_cond Asks (is_routed g f) (declaring_of cmp matching n (source_of g f node) e f) (answering cmp matching n interest e f ++ plain f) (λ _. by_route f) (λ _. by_plain f)

  -- An answer is for an ask that stands, or that the call makes.
  pub call_asked : (spent : Bool) (c : PlainCall K) (g : Rows K) → opens_face c ≡ false → RowsAreInOrder cmp matching g → Each (λ s. AnswersAsk (asked (altered cmp matching c g)) s.0 s.1) (said cmp matching c g)
  unfolding parts_of said_by
  call_asked spent (NewSession first) g still ordered = never refl still
  call_asked spent (NewTransport zid whatami region bound first) g still ordered = never refl still
  call_asked spent (DeclareToken n id e node interest) g still ordered = declaration_asked n id node e interest g ordered
  call_asked spent (Interest n id mode options e) g still ordered = by_face (find_face n g) refl
    where
      c : PlainCall K
      c = Interest n id mode options e

      by_face : (o : Option (Face K)) → find_face n g ≡ o → Each (λ s. AnswersAsk (asked (altered cmp matching c g)) s.0 s.1) (said cmp matching c g)
      by_face None found = subst (λ (o : Option (Face K)). Each (λ s. AnswersAsk (asked (altered cmp matching c g)) s.0 s.1) (said_by cmp matching (elim o [ None ↦ [] | Some f ↦ asking cmp matching n id (row_of cmp matching f mode options e) f.region g ]) g)) (sym found) tt
      by_face (Some from) found = interest_asked n id mode options e from g found
  call_asked spent (UndeclareToken n id given node) g still ordered = let c : PlainCall K = UndeclareToken n id given node in none_asked (asked (altered cmp matching c g)) (said cmp matching c g) (undeclaration_says cmp matching AnswersNobody (λ k. tt) (λ e k. tt) n id node given g)
  call_asked spent (InterestFinal n id) g still ordered = let c : PlainCall K = InterestFinal n id in none_asked (asked (altered cmp matching c g)) (said cmp matching c g) (interest_final_says cmp matching AnswersNobody (λ k. tt) (λ k. tt) (λ k. tt) n id g)
  call_asked spent (DeclareFinal n id) g still ordered = let c : PlainCall K = DeclareFinal n id in none_asked (asked (altered cmp matching c g)) (said cmp matching c g) (declare_final_says cmp matching AnswersNobody (λ k. tt) n id g)
  call_asked spent (CloseFace n) g still ordered = let c : PlainCall K = CloseFace n in none_asked (asked (altered cmp matching c g)) (said cmp matching c g) (closing_says cmp matching AnswersNobody (λ k. tt) (λ e k. tt) (λ k. tt) (λ k. tt) n g)
  call_asked spent (Expire now) g still ordered = let c : PlainCall K = Expire now in none_asked (asked (altered cmp matching c g)) (said cmp matching c g) (expiry_says cmp matching AnswersNobody (λ k. tt) now g)
  call_asked spent (SetTrees region t) g still ordered = let c : PlainCall K = SetTrees region t in none_asked (asked (altered cmp matching c g)) (said cmp matching c g) (table_says cmp matching AnswersNobody (λ k. tt) (λ e k. tt) (λ e k. tt) region t g)
  call_asked spent (SetEntities n subscribers queryables) g still ordered = tt
