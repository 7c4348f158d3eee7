-- Each turn of a transcript answers the asks that stand in it, and those that its line makes.
use Rattle.std.proofs.Common.{◌≡◌, ◌≢◌, ℕ, ◌+◌, ◌≤◌, ◌<◌, Bool, true, false, not, if◌then◌else◌, ◌&&◌, ◌||◌, ◌==◌, List, [], ◌∷◌, ◌++◌, map, filter, Option, Some, None, is_some, refl, sym, ap, ◌∙◌, subst, append-nil, arith, eqb-true, eq-eqb, ne_eqb}
use Rattle.std.proofs.lemmas.Bool.{and_parts, or_right}
use Rattle.std.specs.Cmp.{IsTotalOrder}
use Rattle.std.specs.List.{list_any, flat_map}
use Rattle.std.specs.declared.cmp.Ordering.{Ordering}
use Rattle.std.specs.declared.cmp.Ordering.TheVariants.{Equal}
use Rattle.zt_region.specs.declared.region.Region.{Region}
use Rattle.zt_region.specs.declared.region.Zid.{Zid}
use Rattle.zt_protocol.specs.Interest.{is_current, is_future, has_tokens}
use Rattle.zt_protocol.specs.Plain.{PlainCall, NewSession, NewTransport, DeclareToken, UndeclareToken, Interest, InterestFinal, DeclareFinal, CloseFace, Expire, SetTrees, SetEntities}
use Rattle.zt_protocol.specs.declared.interests.InterestMode.{InterestMode}
use Rattle.zt_protocol.specs.declared.interests.InterestOptions.{InterestOptions}
use Rattle.zt_protocol.specs.declared.messages.Message.{Message}
use Rattle.zt_protocol.specs.declared.messages.Message.TheVariants as message
use Rattle.zt_model.specs.Fabric.{CallAt}
use Rattle.zt_model.specs.Entities.{entities_for, numbered_by, with_numbers}
use Rattle.zt_model.specs.Hearing.{messages_for, rows_heard}
use Rattle.zt_model.specs.Lists.{has_id, is_among, is_some_and, same}
use Rattle.zt_model.specs.Promises.{answered_by, answers_in, are_new, is_answering, is_asking}
use Rattle.zt_model.specs.Refusals.{answers_nothing, is_interest_id_in_use, is_unknown_ask}
use Rattle.zt_model.specs.Rows.{Ask, ById, Face, InterestRow, Rows}
use Rattle.zt_model.specs.Telling.{answer_to, is_answered_by, was_sent_as}
use Rattle.zt_model.specs.Trees.{is_newly_shown, router_regions, showing, source_of, with_routed}
use Rattle.zt_model.specs.Routing.{asked_as, route_to, sent_as, stands}
use Rattle.zt_model.specs.Says.{Alter, Part, Say, Sends, altered, altered_by, answered_expressions, answering, answers_from, declaring, declaring_of, is_routed, registered, registers, answers_of, asking, final_of, find_face, parts_of, row_of, said, said_by, to_each, to_face, told_id, with_face}
use Rattle.zt_model.specs.Transcript.{Each}
use Rattle.zt_model.specs.Visible.{is_visible, shows, visible_expressions}
use Rattle.zt_model.specs.Wants.{asks_token, is_about}
use Rattle.zt_laws.specs.Order.{HasRowsInOrder, KeysOnce, RowsAreInOrder}
use Rattle.zt_laws.specs.Shown.{without_own}
use Rattle.zt_laws.specs.Sound.{RiseFrom}
use Rattle.zt_theorem_soundness.specs.Ran.{ran}
use Rattle.zt_laws.proofs.Hearing.{each_ruled, each_ruled_one, find_only, messages_for-append, messages_for_each}
use Rattle.zt_laws.proofs.Keys.{among-filter, in_order_filter, once_in_order, same_back, same_is, same_itself}
use Rattle.zt_laws.proofs.PartsOrder.{each_message_for}
use Rattle.zt_laws.proofs.Lists.{any-append, any_none, by_test, each_always, each_append, each_both, each_fails, each_map, each_weaker, never, of_cond, rise_above}
use Rattle.zt_laws.proofs.Visible.{among-visible_expressions, visible_expressions_in_order}
use Rattle.zt_theorem_soundness.proofs.CallsRun.{each_entity, own_rows_leave}
use Rattle.zt_theorem_soundness.proofs.Ends.{with_face_same}
use Rattle.zt_theorem_soundness.proofs.Going.{each_put_if}
use Rattle.zt_theorem_soundness.proofs.Opening.{flat_map-append}
use Rattle.zt_theorem_soundness.proofs.Running.{said_by-append}
use Rattle.zt_theorem_visibility.proofs.Exact.{visible_shown}
use Rattle.zt_theorem_visibility.proofs.Saying.{Passes, SaysEach, Tells, declaring_of_says, said_each, showing_says, telling_says}
use Rattle.zt_theorem_answers.proofs.AtOnce.{AnswersNone, answered_at_once, answers_are, answers_none, final_none, route_none}

module _ {K : Type 0} (cmp : K → K → Ordering) (matching : K → K → Bool) where
  -- an ask is answered by what is printed for its face, as `IsAnswered` has it of a turn
  pub record Answered (calls : List (CallAt K)) (ms : List (Message K)) (gateway : ℕ) (g : Rows K) (f : Face K) (id : ℕ) (ask : Ask K) : Type 0 where
    pub at_once : list_any (is_asking cmp matching gateway f.number id) calls ≡ true → (e : K) → is_among cmp e (answers_in id ms) ≡ (is_about matching ask.interest.expr e && is_visible cmp g f.region e)
    pub only_declared : list_any (is_asking cmp matching gateway f.number id) calls ≡ false → (e : K) → is_among cmp e (answers_in id ms) ≡ true → list_any (is_answering cmp matching gateway ask e) calls ≡ true
    pub each_declared : (e : K) → is_about matching ask.interest.expr e ≡ true → list_any (is_answering cmp matching gateway ask e) calls ≡ true → is_among cmp e (ask.answered ++ answers_in id ms) ≡ true
    pub once : are_new cmp matching ask.answered (answers_in id ms) ≡ true

  -- where nothing is asked or answered
  nothing_answered : (calls : List (CallAt K)) (ms : List (Message K)) (gateway : ℕ) (g : Rows K) (f : Face K) (id : ℕ) (ask : Ask K) → list_any (is_asking cmp matching gateway f.number id) calls ≡ false
      → ((e : K) → list_any (is_answering cmp matching gateway ask e) calls ≡ false) → answers_in id ms ≡ [] → Answered calls ms gateway g f id ask
  nothing_answered calls ms gateway g f id ask unasked unanswered none_ = record {
    at_once = λ asks. never asks unasked;
    only_declared = λ _ e there. let gone : is_among cmp e (answers_in id ms) ≡ false = ap (is_among cmp e) none_ in never there gone;
    each_declared = λ e about answers. never answers (unanswered e);
    once = ap (are_new cmp matching ask.answered) none_;
  }

  -- a call that neither asks nor answers
  abbrev pub IsStill : PlainCall K → Type 0
  IsStill (DeclareToken n id e node interest) = ⊥
  IsStill (Interest n id mode options e) = ⊥
  IsStill _ = Unit {0}

  still_asks : (gateway n id : ℕ) (j : ℕ) (g : Rows K) (c : PlainCall K) → IsStill c → is_asking cmp matching gateway n id (record { gateway = j; rows = g; call = c }) ≡ false
  still_asks gateway n id j g (NewSession first) still = refl
  still_asks gateway n id j g (NewTransport zid whatami region bound first) still = refl
  still_asks gateway n id j g (DeclareToken k i e node interest) still = absurd still
  still_asks gateway n id j g (UndeclareToken k i given node) still = refl
  still_asks gateway n id j g (Interest k i mode options e) still = absurd still
  still_asks gateway n id j g (InterestFinal k i) still = refl
  still_asks gateway n id j g (DeclareFinal k i) still = refl
  still_asks gateway n id j g (CloseFace k) still = refl
  still_asks gateway n id j g (Expire now) still = refl
  still_asks gateway n id j g (SetTrees region t) still = refl
  still_asks gateway n id j g (SetEntities k subscribers queryables) still = refl

  still_answers : (gateway : ℕ) (ask : Ask K) (e : K) (j : ℕ) (g : Rows K) (c : PlainCall K) → IsStill c → is_answering cmp matching gateway ask e (record { gateway = j; rows = g; call = c }) ≡ false
  still_answers gateway ask e j g (NewSession first) still = refl
  still_answers gateway ask e j g (NewTransport zid whatami region bound first) still = refl
  still_answers gateway ask e j g (DeclareToken k i x node interest) still = absurd still
  still_answers gateway ask e j g (UndeclareToken k i given node) still = refl
  still_answers gateway ask e j g (Interest k i mode options x) still = absurd still
  still_answers gateway ask e j g (InterestFinal k i) still = refl
  still_answers gateway ask e j g (DeclareFinal k i) still = refl
  still_answers gateway ask e j g (CloseFace k) still = refl
  still_answers gateway ask e j g (Expire now) still = refl
  still_answers gateway ask e j g (SetTrees region t) still = refl
  still_answers gateway ask e j g (SetEntities k subscribers queryables) still = refl

  -- calls of other gateways
  elsewhere_asks : (gateway n id : ℕ) (at : CallAt K) → gateway ≢ at.gateway → is_asking cmp matching gateway n id at ≡ false
  elsewhere_asks gateway n id at apart = by_kind at.gateway at.rows at.call (ne_eqb gateway at.gateway apart)
    where
      by_kind : (j : ℕ) (g : Rows K) (c : PlainCall K) → (gateway == j) ≡ false → is_asking cmp matching gateway n id (record { gateway = j; rows = g; call = c }) ≡ false
      by_kind j g (Interest k i mode options e) miss = ap (λ b. b && ((n == k) && ((id == i) && is_current mode))) miss
      by_kind j g (NewSession first) miss = refl
      by_kind j g (NewTransport zid whatami region bound first) miss = refl
      by_kind j g (DeclareToken k i e node interest) miss = refl
      by_kind j g (UndeclareToken k i given node) miss = refl
      by_kind j g (InterestFinal k i) miss = refl
      by_kind j g (DeclareFinal k i) miss = refl
      by_kind j g (CloseFace k) miss = refl
      by_kind j g (Expire now) miss = refl
      by_kind j g (SetTrees region t) miss = refl
      by_kind j g (SetEntities k subscribers queryables) miss = refl

  elsewhere_answers : (gateway : ℕ) (ask : Ask K) (e : K) (at : CallAt K) → gateway ≢ at.gateway → is_answering cmp matching gateway ask e at ≡ false
  elsewhere_answers gateway ask e at apart = by_kind at.gateway at.rows at.call (ne_eqb gateway at.gateway apart)
    where
      by_kind : (j : ℕ) (g : Rows K) (c : PlainCall K) → (gateway == j) ≡ false → is_answering cmp matching gateway ask e (record { gateway = j; rows = g; call = c }) ≡ false
      by_kind j g (DeclareToken k i x node interest) miss = rw miss refl
      by_kind j g (Interest k i mode options x) miss = refl
      by_kind j g (NewSession first) miss = refl
      by_kind j g (NewTransport zid whatami region bound first) miss = refl
      by_kind j g (UndeclareToken k i given node) miss = refl
      by_kind j g (InterestFinal k i) miss = refl
      by_kind j g (DeclareFinal k i) miss = refl
      by_kind j g (CloseFace k) miss = refl
      by_kind j g (Expire now) miss = refl
      by_kind j g (SetTrees region t) miss = refl
      by_kind j g (SetEntities k subscribers queryables) miss = refl

  -- keys that stand once are new
  once_new : (total : IsTotalOrder cmp) (known es : List K) → KeysOnce cmp es → Each (λ x. is_among cmp x known ≡ false) es → are_new cmp matching known es ≡ true
  once_new total known [] once_ unknown = refl
  once_new total known (e ∷ es) once_ unknown =
      let first : is_among cmp e known ≡ false = unknown.0 in
      rw first (once_new total (e ∷ known) es once_.1
      (each_both (λ x. same cmp e x ≡ false) (λ x. is_among cmp x known ≡ false) (λ x. is_among cmp x (e ∷ known) ≡ false)
      (λ x apart none_. let miss : same cmp x e ≡ false = same_back cmp total x e ∙ apart in rw miss none_) es (each_fails (same cmp e) es once_.0) unknown.1))

  -- of a face's asks
  unfoldable pub AsksAnswered : List (CallAt K) → ℕ → Rows K → Face K → List (Message K) → Type 0
  AsksAnswered calls j g f ms = Each (λ row. has_tokens row.1.interest.options ≡ true → Answered calls ms j g f row.0 row.1) f.asks

  -- no message answers
  abbrev pub NoAnswers : List (Message K) → Type 0
  NoAnswers ms = Each (λ m. (id : ℕ) → AnswersNone id m) ms

  none_answered : (id : ℕ) (ms : List (Message K)) → NoAnswers ms → answers_in id ms ≡ []
  none_answered id ms all = answers_none id ms (each_weaker (λ m. (i : ℕ) → AnswersNone i m) (AnswersNone id) (λ m one. one id) ms all)

  pub still_answered : (calls : List (CallAt K)) (j : ℕ) (g : Rows K) (f : Face K) (ms : List (Message K)) → Each (λ at. IsStill at.call) calls → NoAnswers ms → AsksAnswered calls j g f ms
  unfolding AsksAnswered
  still_answered calls j g f ms still none_ =
      each_always (λ row. has_tokens row.1.interest.options ≡ true → Answered calls ms j g f row.0 row.1)
      (λ row _. nothing_answered calls ms j g f row.0 row.1
      (any_none (is_asking cmp matching j f.number row.0) calls (each_weaker (λ at. IsStill at.call) (λ at. is_asking cmp matching j f.number row.0 at ≡ false) (λ at one. still_asks j f.number row.0 at.gateway at.rows at.call one) calls still))
      (λ e. any_none (is_answering cmp matching j row.1 e) calls (each_weaker (λ at. IsStill at.call) (λ at. is_answering cmp matching j row.1 e at ≡ false) (λ at one. still_answers j row.1 e at.gateway at.rows at.call one) calls still))
      (none_answered row.0 ms none_)) f.asks

  pub elsewhere_answered : (at : CallAt K) (j : ℕ) (g : Rows K) (f : Face K) → j ≢ at.gateway → AsksAnswered (at ∷ []) j g f []
  unfolding AsksAnswered
  elsewhere_answered at j g f apart =
      each_always (λ row. has_tokens row.1.interest.options ≡ true → Answered (at ∷ []) [] j g f row.0 row.1)
      (λ row _. nothing_answered (at ∷ []) [] j g f row.0 row.1
      (any_none (is_asking cmp matching j f.number row.0) (at ∷ []) (elsewhere_asks j f.number row.0 at apart, tt))
      (λ e. any_none (is_answering cmp matching j row.1 e) (at ∷ []) (elsewhere_answers j row.1 e at apart, tt)) refl) f.asks

  -- ---- an interest

  -- one face alone is sent what a rule gives for it
  numbers_of_one : (n : ℕ) (rule : Face K → List (Message K)) (g : Rows K) → Each (λ s. s.0 ≡ n) (to_face n rule g)
  unfolding to_face
  numbers_of_one n rule g = cases (find_face n g)
    where
      cases : (o : Option (Face K)) → (let ss : Sends K = elim o [ None ↦ [] | Some f ↦ map (λ m. (n, m)) (rule f) ] in Each (λ s. s.0 ≡ n) ss)
      cases None = tt
      cases (Some f) = each_map (λ s. s.0 ≡ n) (λ m. (n, m)) (rule f) (each_always (λ m. n ≡ n) (λ m. refl) (rule f))

  -- answers to an interest of another id
  others_answer_none : (i next : ℕ) (told : ById K) (mode : InterestMode) (id : ℕ) (es : List K) → (i == id) ≡ false → Each (AnswersNone i) (answers_from cmp matching next told mode id es)
  unfolding answers_from
  others_answer_none i next told mode id [] apart = tt
  others_answer_none i next told mode id (e ∷ es) apart =
      by_test (is_future mode)
      (λ future. rw future (by_id (told_id cmp e told) (others_answer_none i (next + 1) told mode id es apart) (others_answer_none i next told mode id es apart)))
      (λ future. rw future (one 0, others_answer_none i next told mode id es apart))
    where
      one : (k : ℕ) → AnswersNone i (message.DeclareToken k e (Some id) 0)
      one k = ap (λ b. if b then e ∷ [] else []) apart

      by_id : (o : Option ℕ) → Each (AnswersNone i) (answers_from cmp matching (next + 1) told mode id es) → Each (AnswersNone i) (answers_from cmp matching next told mode id es)
          → Each (AnswersNone i) (elim o [ None ↦ message.DeclareToken next e (Some id) 0 ∷ answers_from cmp matching (next + 1) told mode id es | Some old ↦ message.DeclareToken old e (Some id) 0 ∷ answers_from cmp matching next told mode id es ])
      by_id None more same_ = (one next, more)
      by_id (Some old) more same_ = (one old, same_)

  each_message : (P : Message K → Type 0) (k : ℕ) (ss : Sends K) → Each (λ s. (k == s.0) ≡ true → P s.1) ss → Each P (messages_for k ss)
  unfolding messages_for
  each_message P k [] all = tt
  each_message P k (s ∷ ss) all = of_cond (Each P) (k == s.0) (s.1 ∷ messages_for k ss) (messages_for k ss) (λ here. (all.0 here, each_message P k ss all.1)) (λ _. each_message P k ss all.1)

  -- an interest answers nobody but its own face, under its own id
  asking_answers_none : (k i n id : ℕ) (interest : InterestRow K) (asker : Region) (g : Rows K) → ((n ≡ k) → (i == id) ≡ false) → answers_in i (messages_for k (said_by cmp matching (asking cmp matching n id interest asker g) g)) ≡ []
  unfolding said_by
  asking_answers_none k i n id interest asker g apart =
      let g1 = with_numbers cmp (numbered_by cmp interest) g in
      let ss1 = to_each (route_to g1 asker interest) g1.faces in
      let g2 = rows_heard cmp ss1 g1 in
      let ss2 = to_face n (entities_for cmp matching g2 id interest) g2 in
      let g3 = rows_heard cmp ss2 g2 in
      let g4 = with_face n (asked_as (sent_as g asker interest.mode) id interest) g3 in
      let rule = answers_of cmp matching g4 id interest in
      let ss3 = to_face n rule g4 in
      let g5 = rows_heard cmp ss3 g4 in
      let ss4 = to_face n (final_of id) g5 in
      answers_none i (messages_for k (ss1 ++ (ss2 ++ (ss3 ++ (ss4 ++ [])))))
      (each_message (AnswersNone i) k (ss1 ++ (ss2 ++ (ss3 ++ (ss4 ++ []))))
      (each_append Own ss1 (ss2 ++ (ss3 ++ (ss4 ++ []))) (any_face ss1 (each_ruled (AnswersNone i) (route_to g1 asker interest) g1.faces (route_none i g1 asker interest)))
      (each_append Own ss2 (ss3 ++ (ss4 ++ [])) (any_face ss2 (each_ruled_one (AnswersNone i) n (entities_for cmp matching g2 id interest) g2 (each_entity cmp (AnswersNone i) (λ number e j. refl) (λ number e info j. refl) matching g2 id interest)))
      (each_append Own ss3 (ss4 ++ [])
      (by_test (i == id)
      (λ own. each_weaker (λ s. s.0 ≡ n) Own (λ s is here. never own (apart (sym (eqb-true k s.0 here ∙ is)))) ss3 (numbers_of_one n rule g4))
      (λ other. any_face ss3 (each_ruled_one (AnswersNone i) n rule g4 (λ f. others_answer_none i f.next f.told interest.mode id (answered_expressions cmp matching g4 interest f) other))))
      (each_append Own ss4 [] (any_face ss4 (each_ruled_one (AnswersNone i) n (final_of id) g5 (final_none id i))) tt)))))
    where
      Own : ℕ × Message K → Type 0
      Own s = (k == s.0) ≡ true → AnswersNone i s.1

      any_face : (ss : Sends K) → Each (λ s. AnswersNone i s.1) ss → Each Own ss
      any_face ss all = each_weaker (λ s. AnswersNone i s.1) Own (λ s one _. one) ss all

  module _ (total : IsTotalOrder cmp) (equal_is_same : (a b : K) → cmp a b ≡ Equal → a ≡ b) where
    -- the expressions that an interest is answered
    among_answered : (g : Rows K) (interest : InterestRow K) (f : Face K) (x : K) → is_current interest.mode ≡ true → has_tokens interest.options ≡ true
        → is_among cmp x (answered_expressions cmp matching g interest f) ≡ (is_about matching interest.expr x && is_visible cmp g f.region x)
    unfolding answered_expressions
    among_answered g interest f x current tokens =
        rw (current, tokens)
        (among-filter cmp total equal_is_same (is_about matching interest.expr) x (visible_expressions cmp g f.region)
        ∙ ap (λ b. is_about matching interest.expr x && b) (among-visible_expressions cmp total g f.region x))

    answered_new : (g : Rows K) (interest : InterestRow K) (f : Face K) → are_new cmp matching [] (answered_expressions cmp matching g interest f) ≡ true
    unfolding answered_expressions
    answered_new g interest f =
        of_cond (λ es. are_new cmp matching [] es ≡ true) (is_current interest.mode && has_tokens interest.options) (filter (is_about matching interest.expr) (visible_expressions cmp g f.region)) []
        (λ _.
        let es = filter (is_about matching interest.expr) (visible_expressions cmp g f.region) in
        once_new total [] es (once_in_order cmp es (in_order_filter cmp (is_about matching interest.expr) (visible_expressions cmp g f.region) (visible_expressions_in_order cmp total g f.region))) (each_always (λ x. is_among cmp x [] ≡ false) (λ x. refl) es))
        (λ _. refl)

    module _ (j n id : ℕ) (mode : InterestMode) (options : InterestOptions) (e : Option K) (from : Face K) (g : Rows K) (found : find_face n g ≡ Some from) where
      abbrev call : PlainCall K
      call = Interest n id mode options e

      abbrev at : CallAt K
      at = record { gateway = j; rows = without_own g; call = call }

      abbrev interest : InterestRow K
      interest = row_of cmp matching from mode options e

      abbrev asks : Face K → Face K
      asks = asked_as (sent_as g from.region mode) id interest

      -- the rows with what the call itself changes
      abbrev asked_rows : Rows K
      asked_rows = with_face n asks (with_numbers cmp (numbered_by cmp interest) g)

      asks_altered : altered cmp matching call g ≡ asked_rows
      unfolding parts_of altered_by
      asks_altered = ap (λ (o : Option (Face K)). altered_by cmp matching (elim o [ None ↦ [] | Some f ↦ asking cmp matching n id (row_of cmp matching f mode options e) f.region g ]) g) found

      asks_said : said cmp matching call g ≡ said_by cmp matching (asking cmp matching n id interest from.region g) g
      unfolding parts_of
      asks_said = ap (λ (o : Option (Face K)). said_by cmp matching (elim o [ None ↦ [] | Some f ↦ asking cmp matching n id (row_of cmp matching f mode options e) f.region g ]) g) found

      answers_none_for : (k i : ℕ) → ((n ≡ k) → (i == id) ≡ false) → answers_in i (messages_for k (said cmp matching call g)) ≡ []
      answers_none_for k i apart = ap (λ ss. answers_in i (messages_for k ss)) asks_said ∙ asking_answers_none k i n id interest from.region g apart

      visible_asked : (own : Region) (x : K) → is_visible cmp (without_own asked_rows) own x ≡ is_visible cmp g own x
      unfolding is_visible with_face
      visible_asked own x = visible_shown cmp matching asked_rows own x ∙ ap (list_any (λ row. same cmp x row.1 && shows g.mode own row.0)) (with_face_same n asks (with_numbers cmp (numbered_by cmp interest) g) (λ f. refl) (λ f. refl)).live

      -- a row of an ask that isn't this one
      other_asked : (k : ℕ) (h : Face K) (row : ℕ × Ask K) → h.number ≡ k → ((n ≡ k) → is_current mode ≡ true → (row.0 == id) ≡ false) → Answered (at ∷ []) (messages_for k (said cmp matching call g)) j (without_own asked_rows) h row.0 row.1
      other_asked k h row number_ apart =
          nothing_answered (at ∷ []) (messages_for k (said cmp matching call g)) j (without_own asked_rows) h row.0 row.1
          (any_none (is_asking cmp matching j h.number row.0) (at ∷ []) (unasked, tt)) (λ x. refl) nothing
        where
          unasked : is_asking cmp matching j h.number row.0 at ≡ false
          unasked =
              by_test (h.number == n)
              (λ own.
              by_test (is_current mode)
              (λ current.
              let miss : (row.0 == id) ≡ false = apart (sym (eqb-true h.number n own) ∙ number_) current in
              rw (own, miss) (by_test (j == j) (λ b. rw b refl) (λ b. rw b refl)))
              (λ current. rw (own, current) (by_test (j == j) (λ b. rw b (by_test (row.0 == id) (λ c. rw c refl) (λ c. rw c refl))) (λ b. rw b refl))))
              (λ other. rw other (by_test (j == j) (λ b. rw b refl) (λ b. rw b refl)))

          unasked_expressions : is_current mode ≡ false → answered_expressions cmp matching g interest from ≡ []
          unasked_expressions current = unfold answered_expressions in rw current refl

          nothing : answers_in row.0 (messages_for k (said cmp matching call g)) ≡ []
          nothing =
              by_test (n == k)
              (λ own.
              let is : n ≡ k = eqb-true n k own in
              by_test (row.0 == id)
              (λ same_.
              by_test (is_current mode)
              (λ current. never same_ (apart is current))
              (λ current.
              subst (λ m. answers_in row.0 (messages_for m (said cmp matching call g)) ≡ []) is
              (subst (λ i. answers_in i (messages_for n (said cmp matching call g)) ≡ []) (sym (eqb-true row.0 id same_))
              (answered_at_once cmp matching n id mode options e from g found ∙ unasked_expressions current))))
              (λ apart_. answers_none_for k row.0 (λ _. apart_)))
              (λ other. answers_none_for k row.0 (λ is. never (eq-eqb n k is) other))

      -- the ask that the call makes
      own_asked : (h : Face K) → h.number ≡ n → h.region ≡ from.region → is_current mode ≡ true → has_tokens interest.options ≡ true
          → Answered (at ∷ []) (messages_for n (said cmp matching call g)) j (without_own asked_rows) h id (record { interest = interest; pendings = sent_as g from.region mode; answered = [] })
      own_asked h number_ region_ current tokens =
          let once_ = answered_at_once cmp matching n id mode options e from g found in
          let own : (h.number == n) ≡ true = eq-eqb h.number n number_ in
          let asks_ : list_any (is_asking cmp matching j h.number id) (at ∷ []) ≡ true = rw (own, eq-eqb j j refl, eq-eqb id id refl, current) refl in
          record {
            at_once = λ _ x.
                ap (is_among cmp x) once_
                ∙ among_answered g interest from x current tokens
                ∙ ap (λ b. is_about matching e x && b) (sym (visible_asked h.region x ∙ ap (λ r. is_visible cmp g r x) region_));
            only_declared = λ unasked. never asks_ unasked;
            each_declared = λ x about answers. cc;
            once = ap (are_new cmp matching []) once_ ∙ answered_new g interest from;
          }

      pub interest_answered : RowsAreInOrder cmp matching g → is_interest_id_in_use id mode from ≡ false
          → Each (λ f. AsksAnswered (at ∷ []) j (without_own (altered cmp matching call g)) f (messages_for f.number (said cmp matching call g))) (altered cmp matching call g).faces
      unfolding AsksAnswered with_face
      interest_answered ordered free =
          subst (λ (w : Rows K). Each (λ f. AsksAnswered (at ∷ []) j (without_own w) f (messages_for f.number (said cmp matching call g))) w.faces) (sym asks_altered)
          (each_map Here (λ f. if n == f.number then asks f else f) g.faces
          (each_weaker (λ f. (n == f.number) ≡ true → f ≡ from) (λ f. Here (if n == f.number then asks f else f))
          (λ f only.
          of_cond Here (n == f.number) (asks f) f
          (λ here.
          let is : n ≡ f.number = eqb-true n f.number here in
          each_put_if (One (asks f)) (is_current mode) id (record { interest = interest; pendings = sent_as g from.region mode; answered = [] }) f.asks
          (λ current tokens.
          subst (λ k. Answered (at ∷ []) (messages_for k (said cmp matching call g)) j (without_own asked_rows) (asks f) id (record { interest = interest; pendings = sent_as g from.region mode; answered = [] })) is
          (own_asked (asks f) (sym is) (ap (λ (k : Face K). k.region) (only here)) current tokens))
          (each_weaker (λ row. is_current mode ≡ true → (id == row.0) ≡ false) (One (asks f)) (λ row apart _. other_asked f.number (asks f) row refl (λ _ current. turn id row.0 (apart current))) f.asks (subst (λ (k : Face K). Each (λ row. is_current mode ≡ true → (id == row.0) ≡ false) k.asks) (sym (only here)) unused)))
          (λ other. each_always (One f) (λ row _. other_asked f.number f row refl (λ is. never (eq-eqb n f.number is) other)) f.asks))
          g.faces (find_only n 1 g.faces from ordered.lists.faces_rise found)))
        where
          One : Face K → ℕ × Ask K → Type 0
          One f row = has_tokens row.1.interest.options ≡ true → Answered (at ∷ []) (messages_for f.number (said cmp matching call g)) j (without_own asked_rows) f row.0 row.1

          Here : Face K → Type 0
          Here f = Each (One f) f.asks

          turn : (a b : ℕ) → (a == b) ≡ false → (b == a) ≡ false
          turn a b miss = by_test (b == a) (λ here. never (eq-eqb a b (sym (eqb-true b a here))) miss) (λ other. other)

          unused_ask : is_current mode ≡ true → has_id id from.asks ≡ false
          unused_ask current =
              by_test (has_id id from.asks)
              (λ there. let used : is_interest_id_in_use id mode from ≡ true = rw (current, there) (by_test (is_future mode && has_id id from.held) (λ b. rw b refl) (λ b. rw b refl)) in never used free)
              (λ none_. none_)

          unused : Each (λ row. is_current mode ≡ true → (id == row.0) ≡ false) from.asks
          unused =
              by_test (is_current mode)
              (λ current.
              let none_ : has_id id from.asks ≡ false = unused_ask current in
              each_weaker (λ row. (id == row.0) ≡ false) (λ row. is_current mode ≡ true → (id == row.0) ≡ false) (λ row miss _. miss) from.asks (each_fails (λ row. id == row.0) from.asks none_))
              (λ current. each_always (λ row. is_current mode ≡ true → (id == row.0) ≡ false) (λ row yes_. never yes_ current) from.asks)

    -- ---- a declaration

    -- what the asks of a face are answered
    abbrev answers_row : ℕ → ById K → ℕ → ℕ → K → ℕ × Ask K → List (Message K)
    answers_row next told n id e row = if is_answered_by cmp matching n id e row.1 then answers_from cmp matching next told row.1.interest.mode row.0 (e ∷ []) else []

    answered_row : (next : ℕ) (told : ById K) (n id : ℕ) (e : K) (i : ℕ) (row : ℕ × Ask K) → (i == row.0) ≡ false → answers_in i (answers_row next told n id e row) ≡ []
    answered_row next told n id e i row apart =
        of_cond (λ ms. answers_in i ms ≡ []) (is_answered_by cmp matching n id e row.1) (answers_from cmp matching next told row.1.interest.mode row.0 (e ∷ [])) []
        (λ _. answers_none i (answers_from cmp matching next told row.1.interest.mode row.0 (e ∷ [])) (others_answer_none i next told row.1.interest.mode row.0 (e ∷ []) apart)) (λ _. refl)

    own_row : (next : ℕ) (told : ById K) (n id : ℕ) (e : K) (row : ℕ × Ask K) → answers_in row.0 (answers_row next told n id e row) ≡ (if is_answered_by cmp matching n id e row.1 then e ∷ [] else [])
    own_row next told n id e row =
        by_test (is_answered_by cmp matching n id e row.1)
        (λ here. rw here (answers_are cmp matching next told row.1.interest.mode row.0 (e ∷ [])))
        (λ here. rw here refl)

    below_rows : (next : ℕ) (told : ById K) (n id : ℕ) (e : K) (i low : ℕ) (rows : ById (Ask K)) → i < low → RiseFrom (λ row. row.0) low rows → answers_in i (flat_map (answers_row next told n id e) rows) ≡ []
    below_rows next told n id e i low [] below rises = refl
    below_rows next told n id e i low (row ∷ rows) below rises =
        let low_ : low ≤ row.0 = rises.0 in
        flat_map-append (answered_by i) (answers_row next told n id e row) (flat_map (answers_row next told n id e) rows)
        ∙ ap (λ es. es ++ answers_in i (flat_map (answers_row next told n id e) rows)) (answered_row next told n id e i row (ne_eqb i row.0 (λ is. omega arith)))
        ∙ below_rows next told n id e i (row.0 + 1) rows (omega arith) rises.1

    rows_answered : (next : ℕ) (told : ById K) (n id : ℕ) (e : K) (low : ℕ) (rows : ById (Ask K)) → RiseFrom (λ row. row.0) low rows
        → Each (λ row. answers_in row.0 (flat_map (answers_row next told n id e) rows) ≡ (if is_answered_by cmp matching n id e row.1 then e ∷ [] else [])) rows
    rows_answered next told n id e low [] rises = tt
    rows_answered next told n id e low (row ∷ rows) rises = (
      flat_map-append (answered_by row.0) (answers_row next told n id e row) more
          ∙ ap (λ es. answers_in row.0 (answers_row next told n id e row) ++ es) (below_rows next told n id e row.0 (row.0 + 1) rows (omega arith) rises.1)
          ∙ append-nil (answers_in row.0 (answers_row next told n id e row))
          ∙ own_row next told n id e row,
      each_both (λ r. row.0 + 1 ≤ r.0) (λ r. answers_in r.0 more ≡ (if is_answered_by cmp matching n id e r.1 then e ∷ [] else [])) (λ r. answers_in r.0 (answers_row next told n id e row ++ more) ≡ (if is_answered_by cmp matching n id e r.1 then e ∷ [] else []))
          (λ r up one.
          flat_map-append (answered_by r.0) (answers_row next told n id e row) more
          ∙ ap (λ es. es ++ answers_in r.0 more) (answered_row next told n id e r.0 row (ne_eqb r.0 row.0 (λ is. omega arith)))
          ∙ one)
          rows (rise_above (λ r. r.0) (row.0 + 1) rows rises.1) (rows_answered next told n id e (row.0 + 1) rows rises.1),
    )
      where
        more : List (Message K)
        more = flat_map (answers_row next told n id e) rows

    -- parts that leave what faces ask
    abbrev LeavesEach : (Face K → Type 0) → Part K → Type 0
    LeavesEach B (Alter change) = (g : Rows K) → Each B g.faces → Each B (change g).faces
    LeavesEach B (Say rule) = Unit {0}

    parts_leave : (B : Face K → Type 0) (parts : List (Part K)) (g : Rows K) → Each (LeavesEach B) parts → Each B g.faces → Each B (altered_by cmp matching parts g).faces
    unfolding altered_by
    parts_leave B [] g leaves all = all
    parts_leave B (Alter change ∷ parts) g leaves all = parts_leave B parts (change g) leaves.1 (leaves.0 g all)
    parts_leave B (Say rule ∷ parts) g leaves all = parts_leave B parts g leaves.1 all

    module _ (B : ℕ → ById (Ask K) → Type 0) where
      abbrev Of : Face K → Type 0
      Of f = B f.number f.asks

      showing_leaves : (source : Region) (e : K) → Each (LeavesEach Of) (showing cmp source e)
      showing_leaves source e = (
        tt,
        (
          (λ g all.
              let rs = filter (is_newly_shown cmp g source e) (router_regions g) in
              subst (Each Of) (sym (own_rows_leave cmp (λ (k : Rows K). k.faces) (λ k rows. refl) rs e g)) all),
          tt,
        ),
      )

      registering_leaves : (n id : ℕ) (e : K) (g : Rows K) → Each Of g.faces → Each Of (with_face n (registered id e) g).faces
      unfolding with_face
      registering_leaves n id e g all = each_map Of (λ f. if n == f.number then registered id e f else f) g.faces (each_weaker Of (λ f. Of (if n == f.number then registered id e f else f)) (λ f own. of_cond Of (n == f.number) (registered id e f) f (λ _. own) (λ _. own)) g.faces all)

      routed_leaves : (n : ℕ) (source : Option Zid) (e : K) (f : Face K) → Each (LeavesEach Of) (declaring_of cmp matching n source e f)
      unfolding with_routed
      routed_leaves n None e f = tt
      routed_leaves n (Some zid) e f = ((λ g all. all), (tt, (tt, showing_leaves f.region e)))

      answering_leaves : (n : ℕ) (interest : Option ℕ) (e : K) (f : Face K) → Each (LeavesEach Of) (answering cmp matching n interest e f)
      answering_leaves n None e f = tt
      answering_leaves n (Some i) e f = of_cond (Each (LeavesEach Of)) (has_id i f.pendings) (Say (λ h. to_each (answer_to cmp matching n i e) h.faces) ∷ []) [] (λ _. (tt, tt)) (λ _. tt)

      declaration_leaves : (n id node : ℕ) (e : K) (interest : Option ℕ) (g : Rows K) → Each Of g.faces → Each Of (altered cmp matching (DeclareToken n id e node interest) g).faces
      unfolding parts_of altered_by
      declaration_leaves n id node e interest g all = cases (find_face n g)
        where
          plain : Face K → List (Part K)
          plain f = if registers f interest then declaring cmp matching n id e f ++ showing cmp f.region e else []

          cases : (o : Option (Face K)) → Each Of (altered_by cmp matching (elim o [ None ↦ [] | Some f ↦ if is_routed g f then declaring_of cmp matching n (source_of g f node) e f else answering cmp matching n interest e f ++ (if registers f interest then declaring cmp matching n id e f ++ showing cmp f.region e else []) ]) g).faces
          cases None = all
          cases (Some f) =
              parts_leave Of (if is_routed g f then declaring_of cmp matching n (source_of g f node) e f else answering cmp matching n interest e f ++ plain f) g
              (of_cond (Each (LeavesEach Of)) (is_routed g f) (declaring_of cmp matching n (source_of g f node) e f) (answering cmp matching n interest e f ++ plain f)
              (λ _. routed_leaves n (source_of g f node) e f)
              (λ _. each_append (LeavesEach Of) (answering cmp matching n interest e f) (plain f) (answering_leaves n interest e f)
              (of_cond (Each (LeavesEach Of)) (registers f interest) (declaring cmp matching n id e f ++ showing cmp f.region e) [] (λ _. ((λ h own. registering_leaves n id e h own), (tt, showing_leaves f.region e))) (λ _. tt))))
              all

    module _ (j n id node : ℕ) (e : K) (interest : Option ℕ) (from : Face K) (g : Rows K) (found : find_face n g ≡ Some from) where
      abbrev declares : PlainCall K
      declares = DeclareToken n id e node interest

      abbrev declared_at : CallAt K
      declared_at = record { gateway = j; rows = without_own g; call = declares }

      -- the declaration answers the ask
      abbrev is_answered : Ask K → Bool
      is_answered ask = elim interest [ None ↦ false | Some i ↦ has_id i from.pendings && is_answered_by cmp matching n i e ask ]

      -- what a row of asks is answered
      abbrev RowAnswered : ℕ → ℕ × Ask K → Type 0
      RowAnswered k row = answers_in row.0 (messages_for k (said cmp matching declares g)) ≡ (if is_answered row.1 then e ∷ [] else [])

      plain_parts : List (Part K)
      plain_parts = if registers from interest then declaring cmp matching n id e from ++ showing cmp from.region e else []

      declares_said : (parts : List (Part K)) → (if is_routed g from then declaring_of cmp matching n (source_of g from node) e from else answering cmp matching n interest e from ++ plain_parts) ≡ parts → said cmp matching declares g ≡ said_by cmp matching parts g
      unfolding parts_of plain_parts
      declares_said parts is =
          ap (λ (o : Option (Face K)). said_by cmp matching (elim o [ None ↦ [] | Some f ↦ if is_routed g f then declaring_of cmp matching n (source_of g f node) e f else answering cmp matching n interest e f ++ (if registers f interest then declaring cmp matching n id e f ++ showing cmp f.region e else []) ]) g) found
          ∙ ap (λ ps. said_by cmp matching ps g) is

      no_answers : (parts : List (Part K)) (h : Rows K) → Each (SaysEach cmp matching (λ m. (i : ℕ) → AnswersNone i m)) parts → (k i : ℕ) → answers_in i (messages_for k (said_by cmp matching parts h)) ≡ []
      no_answers parts h says k i = none_answered i (messages_for k (said_by cmp matching parts h)) (each_message_for cmp (λ m. (i : ℕ) → AnswersNone i m) k (said_by cmp matching parts h) (said_each cmp matching (λ m. (i : ℕ) → AnswersNone i m) parts h says))

      tells_none : Tells cmp matching (λ m. (i : ℕ) → AnswersNone i m)
      tells_none = λ k x i. refl

      passes_none : Passes cmp matching (λ m. (i : ℕ) → AnswersNone i m)
      passes_none = λ x k i. refl

      plain_none : (k i : ℕ) (h : Rows K) → answers_in i (messages_for k (said_by cmp matching plain_parts h)) ≡ []
      unfolding plain_parts
      plain_none k i h =
          no_answers plain_parts h
          (of_cond (Each (SaysEach cmp matching (λ m. (i : ℕ) → AnswersNone i m))) (registers from interest) (declaring cmp matching n id e from ++ showing cmp from.region e) []
          (λ _. (tt, (telling_says cmp matching (λ m. (i : ℕ) → AnswersNone i m) tells_none from.region e, showing_says cmp matching (λ m. (i : ℕ) → AnswersNone i m) passes_none from.region e))) (λ _. tt)) k i

      -- a declaration without answers
      none_answers : (k : ℕ) (row : ℕ × Ask K) → ((ask : Ask K) → is_answered ask ≡ false) → answers_in row.0 (messages_for k (said cmp matching declares g)) ≡ [] → RowAnswered k row
      none_answers k row un none_ = none_ ∙ sym (ap (λ b. if b then e ∷ [] else []) (un row.1))

      -- what the answers alone come to
      abbrev FirstAnswered : Option ℕ → ℕ → ℕ × Ask K → Type 0
      FirstAnswered o k row =
          answers_in row.0 (messages_for k (said_by cmp matching (answering cmp matching n o e from) g)) ≡ (if (let b : Bool = elim o [ None ↦ false | Some i ↦ has_id i from.pendings && is_answered_by cmp matching n i e row.1 ] in b) then e ∷ [] else [])

      first_answered : RowsAreInOrder cmp matching g → (o : Option ℕ) → Each (λ f. Each (FirstAnswered o f.number) f.asks) g.faces
      unfolding said_by answer_to messages_for
      first_answered ordered None = each_always (λ f. Each (FirstAnswered None f.number) f.asks) (λ f. each_always (FirstAnswered None f.number) (λ row. refl) f.asks) g.faces
      first_answered ordered (Some i) = by_named (has_id i from.pendings)
        where
          Named : Bool → Face K → Type 0
          Named b f = Each (λ row. answers_in row.0 (messages_for f.number (said_by cmp matching (if b then Say (λ h. to_each (answer_to cmp matching n i e) h.faces) ∷ [] else []) g)) ≡ (if b && is_answered_by cmp matching n i e row.1 then e ∷ [] else [])) f.asks

          by_named : (b : Bool) → Each (Named b) g.faces
          by_named true =
              each_both HasRowsInOrder (λ f. messages_for f.number (to_each (answer_to cmp matching n i e) g.faces) ≡ answer_to cmp matching n i e f) (Named true)
              (λ f rows own.
              each_weaker (λ row. answers_in row.0 (answer_to cmp matching n i e f) ≡ (if is_answered_by cmp matching n i e row.1 then e ∷ [] else [])) (λ row. answers_in row.0 (messages_for f.number (to_each (answer_to cmp matching n i e) g.faces ++ [])) ≡ (if is_answered_by cmp matching n i e row.1 then e ∷ [] else []))
              (λ row one. ap (λ ss. answers_in row.0 (messages_for f.number ss)) (append-nil (to_each (answer_to cmp matching n i e) g.faces)) ∙ ap (answers_in row.0) own ∙ one)
              f.asks (rows_answered f.next f.told n i e 0 f.asks rows.asks))
              g.faces ordered.lists.rows (messages_for_each 1 (answer_to cmp matching n i e) g.faces ordered.lists.faces_rise)
          by_named false = each_always (Named false) (λ f. each_always (λ row. answers_in row.0 (messages_for f.number []) ≡ []) (λ row. refl) f.asks) g.faces

      rows_are_answered : RowsAreInOrder cmp matching g → is_unknown_ask id interest g from ≡ false → Each (λ f. Each (RowAnswered f.number) f.asks) g.faces
      rows_are_answered ordered known = by_test (is_routed g from) routed plain
        where
          routed : is_routed g from ≡ true → Each (λ f. Each (RowAnswered f.number) f.asks) g.faces
          routed here =
              each_always (λ f. Each (RowAnswered f.number) f.asks)
              (λ f. each_always (RowAnswered f.number)
              (λ row.
              none_answers f.number row unnamed
              (ap (λ ss. answers_in row.0 (messages_for f.number ss)) (declares_said (declaring_of cmp matching n (source_of g from node) e from) (ap (λ b. if b then declaring_of cmp matching n (source_of g from node) e from else answering cmp matching n interest e from ++ plain_parts) here))
              ∙ no_answers (declaring_of cmp matching n (source_of g from node) e from) g (declaring_of_says cmp matching (λ m. (i : ℕ) → AnswersNone i m) tells_none passes_none n (source_of g from node) e from) f.number row.0)) f.asks) g.faces
            where
              by_interest : (o : Option ℕ) → is_some o ≡ false → (ask : Ask K) → (let b : Bool = elim o [ None ↦ false | Some i ↦ has_id i from.pendings && is_answered_by cmp matching n i e ask ] in b) ≡ false
              by_interest None none_ ask = refl
              by_interest (Some i) none_ ask = never refl none_

              unnamed : (ask : Ask K) → is_answered ask ≡ false
              unnamed = by_interest interest (sym (ap (λ b. if b then is_some interest else answers_nothing id interest from) here) ∙ known)

          plain : is_routed g from ≡ false → Each (λ f. Each (RowAnswered f.number) f.asks) g.faces
          plain here =
              each_weaker (λ f. Each (FirstAnswered interest f.number) f.asks) (λ f. Each (RowAnswered f.number) f.asks)
              (λ f all. each_weaker (FirstAnswered interest f.number) (RowAnswered f.number) (λ row one. answers_are_first f.number row.0 ∙ one) f.asks all) g.faces (first_answered ordered interest)
            where
              said_is : said cmp matching declares g ≡ said_by cmp matching (answering cmp matching n interest e from) g ++ said_by cmp matching plain_parts (ran cmp (answering cmp matching n interest e from) g)
              said_is =
                  declares_said (answering cmp matching n interest e from ++ plain_parts) (ap (λ b. if b then declaring_of cmp matching n (source_of g from node) e from else answering cmp matching n interest e from ++ plain_parts) here)
                  ∙ said_by-append cmp matching (answering cmp matching n interest e from) plain_parts g

              answers_are_first : (k i : ℕ) → answers_in i (messages_for k (said cmp matching declares g)) ≡ answers_in i (messages_for k (said_by cmp matching (answering cmp matching n interest e from) g))
              answers_are_first k i =
                  let ss = said_by cmp matching (answering cmp matching n interest e from) g in
                  let ts = said_by cmp matching plain_parts (ran cmp (answering cmp matching n interest e from) g) in
                  ap (λ xs. answers_in i (messages_for k xs)) said_is
                  ∙ ap (answers_in i) (messages_for-append k ss ts)
                  ∙ flat_map-append (answered_by i) (messages_for k ss) (messages_for k ts)
                  ∙ ap (λ es. answers_in i (messages_for k ss) ++ es) (plain_none k i (ran cmp (answering cmp matching n interest e from) g))
                  ∙ append-nil (answers_in i (messages_for k ss))

      -- where a row is answered so, its ask is
      row_answered : (k : ℕ) (w : Rows K) (f : Face K) (row : ℕ × Ask K) → RowAnswered k row → has_tokens row.1.interest.options ≡ true → Answered (declared_at ∷ []) (messages_for k (said cmp matching declares g)) j w f row.0 row.1
      row_answered k w f row answered_ tokens = by_interest interest answering_is answered_
        where
          ms : List (Message K)
          ms = messages_for k (said cmp matching declares g)

          ask : Ask K
          ask = row.1

          names : Option ℕ → Bool
          names o = is_some_and o (λ i. was_sent_as n i ask && has_id i from.pendings)

          gives : Option ℕ → Bool
          gives o = elim o [ None ↦ false | Some i ↦ has_id i from.pendings && is_answered_by cmp matching n i e ask ]

          -- the declaration names the ask, by the interest
          AnswersBy : Option ℕ → Type 0
          AnswersBy o = (x : K) → list_any (is_answering cmp matching j ask x) (declared_at ∷ []) ≡ (same cmp x e && names o)

          answering_is : AnswersBy interest
          answering_is x = rw (eq-eqb j j refl) (or_false (same cmp x e && is_some_and interest (λ i. was_sent_as n i ask && stands g (n, i))) ∙ ap (λ b. same cmp x e && b) (by_name interest))
            where
              or_false : (b : Bool) → (b || false) ≡ b
              or_false true = refl
              or_false false = refl

              by_name : (o : Option ℕ) → is_some_and o (λ i. was_sent_as n i ask && stands g (n, i)) ≡ is_some_and o (λ i. was_sent_as n i ask && has_id i from.pendings)
              by_name None = refl
              by_name (Some i) = ap (λ (o : Option (Face K)). was_sent_as n i ask && is_some_and o (λ f. has_id i f.pendings)) found

          nothing : (o : Option ℕ) → AnswersBy o → names o ≡ false → answers_in row.0 ms ≡ [] → Answered (declared_at ∷ []) ms j w f row.0 row.1
          nothing o by_ unnamed none_ =
              nothing_answered (declared_at ∷ []) ms j w f row.0 row.1 refl
              (λ x. by_ x ∙ ap (λ b. same cmp x e && b) unnamed ∙ by_test (same cmp x e) (λ b. rw b refl) (λ b. rw b refl)) none_

          by_interest : (o : Option ℕ) → AnswersBy o → answers_in row.0 ms ≡ (if gives o then e ∷ [] else []) → Answered (declared_at ∷ []) ms j w f row.0 row.1
          by_interest None by_ is = nothing None by_ refl is
          by_interest (Some i) by_ is = by_test (was_sent_as n i ask && has_id i from.pendings) named unnamed
            where
              unnamed : (was_sent_as n i ask && has_id i from.pendings) ≡ false → Answered (declared_at ∷ []) ms j w f row.0 row.1
              unnamed none_ = nothing (Some i) by_ none_ (is ∙ ap (λ b. if b then e ∷ [] else []) (never_both (has_id i from.pendings) (was_sent_as n i ask) (asks_token matching ask.interest e && not (is_among cmp e ask.answered)) none_))
                where
                  never_both : (a b c : Bool) → (b && a) ≡ false → (a && (b && c)) ≡ false
                  never_both true true c none_ = never refl none_
                  never_both true false c none_ = refl
                  never_both false b c none_ = refl

              named : (was_sent_as n i ask && has_id i from.pendings) ≡ true → Answered (declared_at ∷ []) ms j w f row.0 row.1
              named both = by_test (is_about matching ask.interest.expr e) (λ about. by_test (is_among cmp e ask.answered) (known about) (anew about)) unrelated
                where
                  parts : (was_sent_as n i ask ≡ true) × (has_id i from.pendings ≡ true)
                  parts = and_parts (was_sent_as n i ask) (has_id i from.pendings) both

                  declared_same : (x : K) → list_any (is_answering cmp matching j ask x) (declared_at ∷ []) ≡ true → x ≡ e
                  declared_same x answers = same_is cmp total equal_is_same x e (and_parts (same cmp x e) (was_sent_as n i ask && has_id i from.pendings) (sym (by_ x) ∙ answers)).0

                  gives_is : gives (Some i) ≡ (is_about matching ask.interest.expr e && not (is_among cmp e ask.answered))
                  gives_is = rw (parts.0, parts.1, tokens) refl

                  nothing_given : (is_about matching ask.interest.expr e && not (is_among cmp e ask.answered)) ≡ false → answers_in row.0 ms ≡ []
                  nothing_given none_ = is ∙ ap (λ b. if b then e ∷ [] else []) (gives_is ∙ none_)

                  unrelated : is_about matching ask.interest.expr e ≡ false → Answered (declared_at ∷ []) ms j w f row.0 row.1
                  unrelated apart =
                      let none_ = nothing_given (ap (λ b. b && not (is_among cmp e ask.answered)) apart) in
                      record {
                        at_once = λ asks. cc;
                        only_declared = λ _ x there. let gone : is_among cmp x (answers_in row.0 ms) ≡ false = ap (is_among cmp x) none_ in never there gone;
                        each_declared = λ x about answers. never (ap (is_about matching ask.interest.expr) (sym (declared_same x answers)) ∙ about) apart;
                        once = ap (are_new cmp matching ask.answered) none_;
                      }

                  known : is_about matching ask.interest.expr e ≡ true → is_among cmp e ask.answered ≡ true → Answered (declared_at ∷ []) ms j w f row.0 row.1
                  known about there =
                      let none_ = nothing_given (rw (about, there) refl) in
                      record {
                        at_once = λ asks. cc;
                        only_declared = λ _ x answered_x. let gone : is_among cmp x (answers_in row.0 ms) ≡ false = ap (is_among cmp x) none_ in never answered_x gone;
                        each_declared = λ x _ answers. ap (λ es. is_among cmp x (ask.answered ++ es)) none_ ∙ ap (is_among cmp x) (append-nil ask.answered) ∙ ap (λ y. is_among cmp y ask.answered) (declared_same x answers) ∙ there;
                        once = ap (are_new cmp matching ask.answered) none_;
                      }

                  anew : is_about matching ask.interest.expr e ≡ true → is_among cmp e ask.answered ≡ false → Answered (declared_at ∷ []) ms j w f row.0 row.1
                  anew about unknown =
                      let new_ : (is_about matching ask.interest.expr e && not (is_among cmp e ask.answered)) ≡ true = rw (about, unknown) refl in
                      let one : answers_in row.0 ms ≡ e ∷ [] = is ∙ ap (λ b. if b then e ∷ [] else []) (gives_is ∙ new_) in
                      record {
                        at_once = λ asks. cc;
                        only_declared = λ _ x there. by_ x ∙ ap (λ b. same cmp x e && b) both ∙ and_true (same cmp x e) ∙ only_one x (sym (ap (is_among cmp x) one) ∙ there);
                        each_declared = λ x _ answers. ap (λ es. is_among cmp x (ask.answered ++ es)) one ∙ any-append (same cmp x) ask.answered (e ∷ []) ∙ last_one x (declared_same x answers);
                        once = ap (are_new cmp matching ask.answered) one ∙ (rw unknown refl);
                      }
                    where
                      and_true : (b : Bool) → (b && true) ≡ b
                      and_true true = refl
                      and_true false = refl

                      only_one : (x : K) → is_among cmp x (e ∷ []) ≡ true → same cmp x e ≡ true
                      only_one x there = by_test (same cmp x e) (λ b. b) (λ b. let gone : is_among cmp x (e ∷ []) ≡ false = rw b refl in never there gone)

                      last_one : (x : K) → x ≡ e → (list_any (same cmp x) ask.answered || is_among cmp x (e ∷ [])) ≡ true
                      last_one x x_is = or_right (list_any (same cmp x) ask.answered) (is_among cmp x (e ∷ [])) (let there : same cmp x e ≡ true = ap (λ y. same cmp y e) x_is ∙ same_itself cmp total e in rw there refl)

      pub declaration_answered : RowsAreInOrder cmp matching g → is_unknown_ask id interest g from ≡ false
          → Each (λ f. AsksAnswered (declared_at ∷ []) j (without_own (altered cmp matching declares g)) f (messages_for f.number (said cmp matching declares g))) (altered cmp matching declares g).faces
      unfolding AsksAnswered
      declaration_answered ordered known =
          let w = altered cmp matching declares g in
          each_weaker (λ f. Each (RowAnswered f.number) f.asks) (λ f. Each (λ row. has_tokens row.1.interest.options ≡ true → Answered (declared_at ∷ []) (messages_for f.number (said cmp matching declares g)) j (without_own w) f row.0 row.1) f.asks)
          (λ f all. each_weaker (RowAnswered f.number) (λ row. has_tokens row.1.interest.options ≡ true → Answered (declared_at ∷ []) (messages_for f.number (said cmp matching declares g)) j (without_own w) f row.0 row.1) (λ row one tokens. row_answered f.number (without_own w) f row one tokens) f.asks all)
          w.faces (declaration_leaves (λ k asks. Each (RowAnswered k) asks) n id node e interest g (rows_are_answered ordered known))
