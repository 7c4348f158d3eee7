-- The kinds of messages that each call says: what holds of these kinds holds of all that it says.
use Rattle.std.proofs.Common.{ℕ, ◌+◌, Bool, not, ◌==◌, ◌&&◌, ◌||◌, if◌then◌else◌, List, [], ◌∷◌, ◌++◌, map, filter, Option, Some, None}
use Rattle.std.specs.List.{flat_map, list_any}
use Rattle.std.specs.declared.cmp.Ordering.{Ordering}
use Rattle.zt_region.specs.declared.region.Bound.{Bound}
use Rattle.zt_region.specs.declared.region.Region.{Region}
use Rattle.zt_region.specs.declared.region.WhatAmI.{WhatAmI}
use Rattle.zt_region.specs.declared.region.Zid.{Zid}
use Rattle.zt_region.specs.Region.{is_north, region_eq}
use Rattle.zt_protocol.specs.Interest.{is_current, is_future}
use Rattle.zt_protocol.specs.Plain.{PlainCall, NewTransport, DeclareToken, UndeclareToken, Interest, InterestFinal, DeclareFinal, CloseFace, Expire, SetTrees, Trees}
use Rattle.zt_protocol.specs.declared.entries.Sent.{Sent}
use Rattle.zt_protocol.specs.declared.interests.InterestMode.{InterestMode}
use Rattle.zt_protocol.specs.declared.interests.InterestOptions.{InterestOptions}
use Rattle.zt_protocol.specs.declared.messages.Message.{Message}
use Rattle.zt_protocol.specs.declared.messages.Message.TheVariants as message
use Rattle.zt_protocol.specs.declared.messages.QueryableInfo.{QueryableInfo}
use Rattle.zt_model.specs.Closing.{closing, expiring, is_expired, leaving, without_asks, without_face}
use Rattle.zt_model.specs.Entities.{entities_for}
use Rattle.zt_model.specs.Fabric.{CallAt, Fabric, after_closing, after_opening, call_at, closing_call, opened_at, opening_at, printed_for, said_at, said_closing, said_opening, sorted_by_face, with_place}
use Rattle.zt_model.specs.Hat.{hat_of_face}
use Rattle.zt_model.specs.Hearing.{rows_heard}
use Rattle.zt_model.specs.Linking.{LinkEnd}
use Rattle.zt_model.specs.Lists.{at_id, has_id, in_key_order, is_some_and}
use Rattle.zt_model.specs.Parts.{unsaid_to}
use Rattle.zt_model.specs.Routing.{asks_same, end_upstream_to, ending, final_of_both, finalising, finish_to, finishing, interests_from, is_finished_by, is_held_south, is_target, opening, opening_final, opening_interests, opening_tokens, route_to, tokens_from, untell_to}
use Rattle.zt_model.specs.Rows.{Ask, ById, Face, InterestRow, Rows}
use Rattle.zt_model.specs.Says.{Alter, Part, Say, answered_expressions, answering, answers_from, answers_of, asking, declaring, declaring_of, final_of, finalising_held, find_face, forget_to, forget_untold, hiding_undeclared, is_routed, is_told, parts_of, registers, row_of, said, said_by, tell_to, to_each, told_id, undeclared, undeclaring, undeclaring_of, unregistered, with_face}
use Rattle.zt_model.specs.Telling.{answer_to, is_answered_by}
use Rattle.zt_model.specs.Transcript.{Each}
use Rattle.zt_model.specs.Trees.{changing_table, counted_table, forgetting, greet_to, hide_to, hiding, is_child, is_hidden, is_newly_shown, left_out, node_of, pass_to, routed_expressions, routers_in_order, show_to, showing, source_of, table_of, unpass_to}
use Rattle.zt_model.specs.Visible.{is_visible, shows}
use Rattle.zt_model.specs.Wants.{wants}
use Rattle.zt_laws.proofs.Ends.{by_end}
use Rattle.zt_laws.proofs.Hearing.{each_ruled, each_ruled_one}
use Rattle.zt_laws.proofs.LinesOrder.{called_at}
use Rattle.zt_laws.proofs.Lists.{by_test, each_always, each_append, each_filter, each_map, of_cond}
use Rattle.zt_laws.proofs.PartsOrder.{each_flat_map}
use Rattle.zt_laws.proofs.Sorting.{printed, sorted_each}
use Rattle.zt_laws.proofs.Unlinking.{closing_case}
use Rattle.zt_theorem_soundness.proofs.CallsRun.{each_entity}

module _ {K : Type 0} (cmp : K → K → Ordering) (matching : K → K → Bool) (P : Message K → Type 0) where
  -- what a part says has the property, whatever rows it reads
  abbrev pub SaysEach : Part K → Type 0
  SaysEach (Alter change) = Unit {0}
  SaysEach (Say rule) = (g : Rows K) → Each (λ s. P s.1) (rule g)

  pub said_each : (parts : List (Part K)) (g : Rows K) → Each SaysEach parts → Each (λ s. P s.1) (said_by cmp matching parts g)
  unfolding said_by
  said_each [] g says = tt
  said_each (Alter change ∷ parts) g says = said_each parts (change g) says.1
  said_each (Say rule ∷ parts) g says = each_append (λ s. P s.1) (rule g) (said_by cmp matching parts (rows_heard cmp (rule g) g)) (says.0 g) (said_each parts (rows_heard cmp (rule g) g) says.1)

  pub unsaid_each : (n : ℕ) (parts : List (Part K)) → Each SaysEach parts → Each SaysEach (unsaid_to n parts)
  unfolding unsaid_to
  unsaid_each n [] says = tt
  unsaid_each n (Alter change ∷ parts) says = (tt, unsaid_each n parts says.1)
  unsaid_each n (Say rule ∷ parts) says = (λ g. each_filter (λ s. P s.1) (λ s. not (n == s.0)) (rule g) (says.0 g), unsaid_each n parts says.1)

  -- ---- kinds

  -- a token is told or answers
  abbrev pub Tells : Type 0
  Tells = (id : ℕ) (e : K) → P (message.DeclareToken id e None 0)

  abbrev pub Passes : Type 0
  Passes = (e : K) (node : ℕ) → P (message.DeclareToken 0 e None node)

  abbrev pub Answers : Type 0
  Answers = (id : ℕ) (e : K) (i : ℕ) → P (message.DeclareToken id e (Some i) 0)

  -- a token is gone
  abbrev pub Undeclares : Type 0
  Undeclares = (id : ℕ) → P (message.UndeclareToken id None 0)

  abbrev pub Forgets : Type 0
  Forgets = (e : K) (node : ℕ) → P (message.UndeclareToken 0 (Some e) node)

  -- interests and their ends
  abbrev pub Asks : Type 0
  Asks = (id : ℕ) (mode : InterestMode) (options : InterestOptions) (e : Option K) → P (message.Interest id mode options e)

  abbrev pub Finals : Type 0
  Finals = (id : ℕ) → P (message.DeclareFinal id)

  abbrev pub Ends : Type 0
  Ends = (id : ℕ) → P (message.InterestFinal id)

  abbrev pub Subscribers : Type 0
  Subscribers = (number : ℕ) (k : K) (id : ℕ) → P (message.DeclareSubscriber number k id)

  abbrev pub Queryables : Type 0
  Queryables = (number : ℕ) (k : K) (info : QueryableInfo) (id : ℕ) → P (message.DeclareQueryable number k info id)

  -- ---- rules

  pub tell_says : Tells → (g : Rows K) (source : Region) (e : K) (f : Face K) → Each P (tell_to cmp matching g source e f)
  unfolding tell_to
  tell_says tells g source e f = of_cond (Each P) (is_told cmp matching g source e f) (message.DeclareToken f.next e None 0 ∷ []) [] (λ _. (tells f.next e, tt)) (λ _. tt)

  pub pass_says : Passes → (g : Rows K) (region : Region) (source : Zid) (e : K) (f : Face K) → Each P (pass_to cmp g region source e f)
  unfolding pass_to
  pass_says passes g region source e f = of_cond (Each P) (region_eq f.region region && is_child g (table_of g region) source f) (message.DeclareToken 0 e None (node_of source (table_of g region)) ∷ []) [] (λ _. (passes e (node_of source (table_of g region)), tt)) (λ _. tt)

  pub unpass_says : Forgets → (g : Rows K) (region : Region) (source : Zid) (e : K) (f : Face K) → Each P (unpass_to cmp g region source e f)
  unfolding unpass_to
  unpass_says forgets g region source e f = of_cond (Each P) (region_eq f.region region && is_child g (table_of g region) source f) (message.UndeclareToken 0 (Some e) (node_of source (table_of g region)) ∷ []) [] (λ _. (forgets e (node_of source (table_of g region)), tt)) (λ _. tt)

  pub show_says : Passes → (g : Rows K) (source : Region) (e : K) (f : Face K) → Each P (show_to cmp g source e f)
  unfolding show_to
  show_says passes g source e f = of_cond (Each P) (is_newly_shown cmp g source e f.region) (pass_to cmp g f.region g.zid e f) [] (λ _. pass_says passes g f.region g.zid e f) (λ _. tt)

  pub hide_says : Forgets → (g : Rows K) (source : Region) (e : K) (f : Face K) → Each P (hide_to cmp g source e f)
  unfolding hide_to
  hide_says forgets g source e f = of_cond (Each P) (is_hidden cmp g source e f.region) (unpass_to cmp g f.region g.zid e f) [] (λ _. unpass_says forgets g f.region g.zid e f) (λ _. tt)

  pub answers_say : Answers → (next : ℕ) (told : ById K) (mode : InterestMode) (id : ℕ) (es : List K) → Each P (answers_from cmp matching next told mode id es)
  unfolding answers_from
  answers_say answers next told mode id [] = tt
  answers_say answers next told mode id (e ∷ es) =
      by_test (is_future mode)
      (λ future. rw future (by_id (told_id cmp e told) (answers_say answers (next + 1) told mode id es) (answers_say answers next told mode id es)))
      (λ future. rw future (answers 0 e id, answers_say answers next told mode id es))
    where
      by_id : (o : Option ℕ) → Each P (answers_from cmp matching (next + 1) told mode id es) → Each P (answers_from cmp matching next told mode id es)
          → Each P (elim o [ None ↦ message.DeclareToken next e (Some id) 0 ∷ answers_from cmp matching (next + 1) told mode id es | Some old ↦ message.DeclareToken old e (Some id) 0 ∷ answers_from cmp matching next told mode id es ])
      by_id None more same_ = (answers next e id, more)
      by_id (Some old) more same_ = (answers old e id, same_)

  pub answer_says : Answers → (n id : ℕ) (e : K) (f : Face K) → Each P (answer_to cmp matching n id e f)
  unfolding answer_to
  answer_says answers n id e f =
      each_flat_map P (λ row. if is_answered_by cmp matching n id e row.1 then answers_from cmp matching f.next f.told row.1.interest.mode row.0 (e ∷ []) else []) f.asks
      (λ row. of_cond (Each P) (is_answered_by cmp matching n id e row.1) (answers_from cmp matching f.next f.told row.1.interest.mode row.0 (e ∷ [])) [] (λ _. answers_say answers f.next f.told row.1.interest.mode row.0 (e ∷ [])) (λ _. tt))

  pub forget_says : Undeclares → Forgets → (g : Rows K) (source : Region) (e : K) (f : Face K) → Each P (forget_to cmp matching g source e f)
  unfolding forget_to
  forget_says undeclares forgets g source e f =
      by_test (is_routed g f || is_visible cmp g f.region e) (λ here. rw here tt) (λ here. rw here (cases (told_id cmp e f.told)))
    where
      cases : (o : Option ℕ) → (let ms : List (Message K) = elim o [ None ↦ forget_untold cmp matching g source e f | Some id ↦ message.UndeclareToken id None 0 ∷ [] ] in Each P ms)
      cases None = of_cond (Each P) (wants matching f e && (hat_of_face g f).undeclares_untold && shows g.mode f.region source) (message.UndeclareToken 0 (Some e) 0 ∷ []) [] (λ _. (forgets e 0, tt)) (λ _. tt)
      cases (Some id) = (undeclares id, tt)

  pub untell_says : Undeclares → (g : Rows K) (f : Face K) → Each P (untell_to cmp matching g f)
  unfolding untell_to
  untell_says undeclares g f =
      of_cond (Each P) ((hat_of_face g f).is_told_unasked f.region) []
      (flat_map (λ e. elim (told_id cmp e f.told) [ None ↦ [] | Some id ↦ message.UndeclareToken id None 0 ∷ [] ]) (filter (λ e. not (wants matching f e)) (in_key_order cmp (map (λ row. row.1) f.told))))
      (λ _. tt)
      (λ _. each_flat_map P (λ e. elim (told_id cmp e f.told) [ None ↦ [] | Some id ↦ message.UndeclareToken id None 0 ∷ [] ]) (filter (λ e. not (wants matching f e)) (in_key_order cmp (map (λ row. row.1) f.told))) (λ e. one (told_id cmp e f.told)))
    where
      one : (o : Option ℕ) → (let ms : List (Message K) = elim o [ None ↦ [] | Some id ↦ message.UndeclareToken id None 0 ∷ [] ] in Each P ms)
      one None = tt
      one (Some id) = (undeclares id, tt)

  pub end_upstream_says : Ends → (g : Rows K) (interest : InterestRow K) (f : Face K) → Each P (end_upstream_to cmp matching g interest f)
  unfolding end_upstream_to
  end_upstream_says ends g interest f =
      of_cond (Each P) (is_north f.region && not (is_held_south cmp matching g interest)) (map (λ row. message.InterestFinal row.0) (filter (λ row. asks_same cmp matching interest row.1) f.locals)) []
      (λ _. each_map P (λ row. message.InterestFinal row.0) (filter (λ row. asks_same cmp matching interest row.1) f.locals) (each_always (λ row. P (message.InterestFinal row.0)) (λ row. ends row.0) (filter (λ row. asks_same cmp matching interest row.1) f.locals))) (λ _. tt)

  pub final_says : Finals → (id : ℕ) (f : Face K) → Each P (final_of id f)
  final_says finals id f = cases (at_id id f.asks)
    where
      by_pendings : (ps : List (ℕ × ℕ)) → (let ms : List (Message K) = elim ps [ [] ↦ message.DeclareFinal id ∷ [] | pending ∷ pendings ↦ [] ] in Each P ms)
      by_pendings [] = (finals id, tt)
      by_pendings (p ∷ ps) = tt

      cases : (o : Option (Ask K)) → (let ms : List (Message K) = elim o [ None ↦ [] | Some ask ↦ elim ask.pendings [ [] ↦ message.DeclareFinal id ∷ [] | pending ∷ pendings ↦ [] ] ] in Each P ms)
      cases None = tt
      cases (Some ask) = by_pendings ask.pendings

  pub final_of_both_says : Finals → (id : ℕ) (interest : InterestRow K) (f : Face K) → Each P (final_of_both id interest f)
  final_of_both_says finals id interest f =
      of_cond (Each P) (is_current interest.mode && is_some_and (at_id id f.asks) (λ ask. is_future ask.interest.mode)) (message.DeclareFinal id ∷ []) [] (λ _. (finals id, tt)) (λ _. tt)

  pub finish_says : Finals → (g : Rows K) (n id : ℕ) (f : Face K) → Each P (finish_to g n id f)
  unfolding finish_to
  finish_says finals g n id f = each_map P (λ row. message.DeclareFinal row.0) (filter (λ row. is_finished_by g n id row.1) f.asks) (each_always (λ row. P (message.DeclareFinal row.0)) (λ row. finals row.0) (filter (λ row. is_finished_by g n id row.1) f.asks))

  pub route_says : Asks → (g : Rows K) (asker : Region) (interest : InterestRow K) (f : Face K) → Each P (route_to g asker interest f)
  unfolding route_to
  route_says asks g asker interest f = of_cond (Each P) (is_target g asker interest.mode f) (message.Interest f.next interest.mode interest.options interest.expr ∷ []) [] (λ _. (asks f.next interest.mode interest.options interest.expr, tt)) (λ _. tt)

  pub greet_says : Passes → (g : Rows K) (region : Region) (before : Trees) (f : Face K) → Each P (greet_to cmp g region before f)
  unfolding greet_to
  greet_says passes g region before f =
      let t = table_of g region in
      let greets = λ (r : ℕ × Zid). if region_eq f.region region && (is_child g t r.1 f && not (is_child g before r.1 f)) then map (λ e. message.DeclareToken 0 e None r.0) (routed_expressions cmp g region r.1) else [] in
      each_flat_map P greets (routers_in_order cmp t)
      (λ r. of_cond (Each P) (region_eq f.region region && (is_child g t r.1 f && not (is_child g before r.1 f))) (map (λ e. message.DeclareToken 0 e None r.0) (routed_expressions cmp g region r.1)) []
      (λ _. each_map P (λ e. message.DeclareToken 0 e None r.0) (routed_expressions cmp g region r.1) (each_always (λ e. P (message.DeclareToken 0 e None r.0)) (λ e. passes e r.0) (routed_expressions cmp g region r.1))) (λ _. tt))

  pub interests_say : Asks → (next : ℕ) (is : List (InterestRow K)) → Each P (interests_from next is)
  unfolding interests_from
  interests_say asks next [] = tt
  interests_say asks next (i ∷ is) = (asks next i.mode i.options i.expr, interests_say asks (next + 1) is)

  pub tokens_say : Tells → (next : ℕ) (es : List K) → Each P (tokens_from next es)
  unfolding tokens_from
  tokens_say tells next [] = tt
  tokens_say tells next (e ∷ es) = (tells next e, tokens_say tells (next + 1) es)

  pub opening_final_says : Finals → (f : Face K) → Each P (opening_final cmp matching f)
  opening_final_says finals f = cases f.initial
    where
      cases : (o : Option Bool) → (let ms : List (Message K) = elim o [ None ↦ [] | Some finalised ↦ message.DeclareFinal 0 ∷ [] ] in Each P ms)
      cases None = tt
      cases (Some finalised) = (finals 0, tt)

  -- ---- parts

  pub telling_says : Tells → (source : Region) (e : K) → SaysEach (Say (λ g. to_each (tell_to cmp matching g source e) g.faces))
  telling_says tells source e = λ g. each_ruled P (tell_to cmp matching g source e) g.faces (tell_says tells g source e)

  pub showing_says : Passes → (source : Region) (e : K) → Each SaysEach (showing cmp source e)
  showing_says passes source e = ((λ g. each_ruled P (show_to cmp g source e) g.faces (show_says passes g source e)), (tt, tt))

  pub hiding_says : Forgets → (source : Region) (e : K) → Each SaysEach (hiding cmp source e)
  hiding_says forgets source e = ((λ g. each_ruled P (hide_to cmp g source e) g.faces (hide_says forgets g source e)), (tt, tt))

  pub forgets_say : Undeclares → Forgets → (source : Region) (e : K) → SaysEach (Say (λ g. to_each (forget_to cmp matching g source e) g.faces))
  forgets_say undeclares forgets source e = λ g. each_ruled P (forget_to cmp matching g source e) g.faces (forget_says undeclares forgets g source e)

  pub declaring_of_says : Tells → Passes → (n : ℕ) (source : Option Zid) (e : K) (f : Face K) → Each SaysEach (declaring_of cmp matching n source e f)
  declaring_of_says tells passes n None e f = tt
  declaring_of_says tells passes n (Some zid) e f = (
    tt,
    (
      (λ g.
          let all = to_each (pass_to cmp g f.region zid e) g.faces in
          each_filter (λ s. P s.1) (λ s. not (n == s.0)) all (each_ruled P (pass_to cmp g f.region zid e) g.faces (pass_says passes g f.region zid e))),
      (telling_says tells f.region e, showing_says passes f.region e),
    ),
  )

  pub answering_says : Answers → (n : ℕ) (interest : Option ℕ) (e : K) (f : Face K) → Each SaysEach (answering cmp matching n interest e f)
  answering_says answers n None e f = tt
  answering_says answers n (Some i) e f =
      of_cond (Each SaysEach) (has_id i f.pendings) (Say (λ h. to_each (answer_to cmp matching n i e) h.faces) ∷ []) []
      (λ _. ((λ g. each_ruled P (answer_to cmp matching n i e) g.faces (answer_says answers n i e)), tt)) (λ _. tt)

  pub undeclaring_says : Undeclares → Forgets → (n id : ℕ) (given : Option K) (f : Face K) → Each SaysEach (undeclaring cmp matching n id given f)
  undeclaring_says undeclares forgets n id given f = cases (undeclared cmp matching id given f)
    where
      cases : (o : Option K) → Each SaysEach (elim o [ None ↦ [] | Some e ↦ Alter (with_face n (unregistered id)) ∷ Say (λ g. to_each (forget_to cmp matching g f.region e) g.faces) ∷ [] ])
      cases None = tt
      cases (Some e) = (tt, (forgets_say undeclares forgets f.region e, tt))

  pub hiding_undeclared_says : Forgets → (id : ℕ) (given : Option K) (f : Face K) → Each SaysEach (hiding_undeclared cmp matching id given f)
  hiding_undeclared_says forgets id given f = cases (undeclared cmp matching id given f)
    where
      cases : (o : Option K) → Each SaysEach (elim o [ None ↦ [] | Some e ↦ hiding cmp f.region e ])
      cases None = tt
      cases (Some e) = hiding_says forgets f.region e

  pub undeclaring_of_says : Undeclares → Forgets → (n : ℕ) (source : Option Zid) (given : Option K) (f : Face K) → Each SaysEach (undeclaring_of cmp matching n source given f)
  undeclaring_of_says undeclares forgets n None given f = tt
  undeclaring_of_says undeclares forgets n (Some zid) None f = tt
  undeclaring_of_says undeclares forgets n (Some zid) (Some e) f = (
    tt,
    (
      (λ g.
          let all = to_each (unpass_to cmp g f.region zid e) g.faces in
          each_filter (λ s. P s.1) (λ s. not (n == s.0)) all (each_ruled P (unpass_to cmp g f.region zid e) g.faces (unpass_says forgets g f.region zid e))),
      (forgets_say undeclares forgets f.region e, hiding_says forgets f.region e),
    ),
  )

  pub finalising_says : Undeclares → Finals → Ends → (n id : ℕ) (interest : InterestRow K) → Each SaysEach (finalising cmp matching n id interest)
  finalising_says undeclares finals ends n id interest = (
    tt,
    (
      (λ g. each_ruled_one P n (untell_to cmp matching g) g (untell_says undeclares g)),
      ((λ g. each_ruled_one P n (final_of_both id interest) g (final_of_both_says finals id interest)), ((λ g. each_ruled P (end_upstream_to cmp matching g interest) g.faces (end_upstream_says ends g interest)), tt)),
    ),
  )

  pub ending_says : Finals → (n id : ℕ) → Each SaysEach (ending n id)
  ending_says finals n id = (tt, ((λ g. each_ruled P (finish_to g n id) g.faces (finish_says finals g n id)), tt))

  pub each_part : {A : Type 0} (parts : A → List (Part K)) (xs : List A) → ((x : A) → Each SaysEach (parts x)) → Each SaysEach (flat_map parts xs)
  each_part parts xs one = each_flat_map SaysEach parts xs one

  pub leaving_says : Undeclares → Forgets → Finals → Ends → (n : ℕ) (f : Face K) → Each SaysEach (leaving cmp matching n f)
  leaving_says undeclares forgets finals ends n f =
      let gone = λ (row : ℕ × K). undeclaring cmp matching n row.0 None f ++ hiding cmp f.region row.1 in
      let finalises = λ (row : ℕ × InterestRow K). finalising cmp matching n row.0 row.1 in
      let over = flat_map (λ row. ending n row.0) f.pendings in
      each_append SaysEach (flat_map gone f.live ++ flat_map finalises f.held) (Alter (with_face n without_asks) ∷ over)
      (each_append SaysEach (flat_map gone f.live) (flat_map finalises f.held)
      (each_part gone f.live (λ row. each_append SaysEach (undeclaring cmp matching n row.0 None f) (hiding cmp f.region row.1) (undeclaring_says undeclares forgets n row.0 None f) (hiding_says forgets f.region row.1)))
      (each_part finalises f.held (λ row. finalising_says undeclares finals ends n row.0 row.1)))
      (tt, each_part (λ row. ending n row.0) f.pendings (λ row. ending_says finals n row.0))

  -- ---- calls

  -- the parts of a call at its face
  at_face : (n : ℕ) (g : Rows K) (parts : Face K → List (Part K)) → ((f : Face K) → Each SaysEach (parts f)) → Each (λ s. P s.1) (said_by cmp matching (elim (find_face n g) [ None ↦ [] | Some f ↦ parts f ]) g)
  unfolding said_by
  at_face n g parts one = cases (find_face n g)
    where
      cases : (o : Option (Face K)) → Each (λ s. P s.1) (said_by cmp matching (elim o [ None ↦ [] | Some f ↦ parts f ]) g)
      cases None = tt
      cases (Some f) = said_each (parts f) g (one f)

  pub declaration_says : Tells → Passes → Answers → (n id node : ℕ) (e : K) (interest : Option ℕ) (g : Rows K) → Each (λ s. P s.1) (said cmp matching (DeclareToken n id e node interest) g)
  unfolding parts_of
  declaration_says tells passes answers n id node e interest g =
      at_face n g (λ f. if is_routed g f then declaring_of cmp matching n (source_of g f node) e f else answering cmp matching n interest e f ++ plain f)
      (λ f.
      of_cond (Each SaysEach) (is_routed g f) (declaring_of cmp matching n (source_of g f node) e f) (answering cmp matching n interest e f ++ plain f)
      (λ _. declaring_of_says tells passes n (source_of g f node) e f)
      (λ _. each_append SaysEach (answering cmp matching n interest e f) (plain f) (answering_says answers n interest e f)
      (of_cond (Each SaysEach) (registers f interest) (declaring cmp matching n id e f ++ showing cmp f.region e) [] (λ _. (tt, (telling_says tells f.region e, showing_says passes f.region e))) (λ _. tt))))
    where
      plain : Face K → List (Part K)
      plain f = if registers f interest then declaring cmp matching n id e f ++ showing cmp f.region e else []

  pub undeclaration_says : Undeclares → Forgets → (n id node : ℕ) (given : Option K) (g : Rows K) → Each (λ s. P s.1) (said cmp matching (UndeclareToken n id given node) g)
  unfolding parts_of
  undeclaration_says undeclares forgets n id node given g =
      at_face n g (λ f. if is_routed g f then undeclaring_of cmp matching n (source_of g f node) given f else undeclaring cmp matching n id given f ++ hiding_undeclared cmp matching id given f)
      (λ f.
      of_cond (Each SaysEach) (is_routed g f) (undeclaring_of cmp matching n (source_of g f node) given f) (undeclaring cmp matching n id given f ++ hiding_undeclared cmp matching id given f)
      (λ _. undeclaring_of_says undeclares forgets n (source_of g f node) given f)
      (λ _. each_append SaysEach (undeclaring cmp matching n id given f) (hiding_undeclared cmp matching id given f) (undeclaring_says undeclares forgets n id given f) (hiding_undeclared_says forgets id given f)))

  pub interest_says : Asks → Subscribers → Queryables → Answers → Finals → (n id : ℕ) (mode : InterestMode) (options : InterestOptions) (e : Option K) (g : Rows K) → Each (λ s. P s.1) (said cmp matching (Interest n id mode options e) g)
  unfolding parts_of
  interest_says asks subscribers queryables answers finals n id mode options e g =
      at_face n g (λ f. asking cmp matching n id (row_of cmp matching f mode options e) f.region g)
      (λ f.
      let interest = row_of cmp matching f mode options e in (
        tt,
        (
          (λ h. each_ruled P (route_to h f.region interest) h.faces (route_says asks h f.region interest)),
          (
            (λ h. each_ruled_one P n (entities_for cmp matching h id interest) h (each_entity cmp P subscribers queryables matching h id interest)),
            (tt, ((λ h. each_ruled_one P n (answers_of cmp matching h id interest) h (λ k. answers_say answers k.next k.told interest.mode id (answered_expressions cmp matching h interest k))), ((λ h. each_ruled_one P n (final_of id) h (final_says finals id)), tt))),
          ),
        ),
      ))

  pub interest_final_says : Undeclares → Finals → Ends → (n id : ℕ) (g : Rows K) → Each (λ s. P s.1) (said cmp matching (InterestFinal n id) g)
  unfolding parts_of
  interest_final_says undeclares finals ends n id g = at_face n g (λ f. finalising_held cmp matching n id f) (λ f. held (at_id id f.held))
    where
      held : (o : Option (InterestRow K)) → Each SaysEach (elim o [ None ↦ [] | Some interest ↦ finalising cmp matching n id interest ])
      held None = tt
      held (Some interest) = finalising_says undeclares finals ends n id interest

  pub declare_final_says : Finals → (n id : ℕ) (g : Rows K) → Each (λ s. P s.1) (said cmp matching (DeclareFinal n id) g)
  unfolding parts_of
  declare_final_says finals n id g = at_face n g (finishing n id) (λ f. (tt, of_cond (Each SaysEach) (has_id id f.pendings) (ending n id) [] (λ _. ending_says finals n id) (λ _. tt)))

  pub closing_says : Undeclares → Forgets → Finals → Ends → (n : ℕ) (g : Rows K) → Each (λ s. P s.1) (said cmp matching (CloseFace n) g)
  unfolding parts_of
  closing_says undeclares forgets finals ends n g =
      at_face n g (closing cmp matching n g)
      (λ f.
      let parts : List (Part K) = if is_routed g f then [] else unsaid_to n (leaving cmp matching n f) in
      each_append SaysEach parts (Alter (without_face n) ∷ [])
      (of_cond (Each SaysEach) (is_routed g f) [] (unsaid_to n (leaving cmp matching n f)) (λ _. tt) (λ _. unsaid_each n (leaving cmp matching n f) (leaving_says undeclares forgets finals ends n f)))
      (tt, tt))

  pub expiry_says : Finals → (now : ℕ) (g : Rows K) → Each (λ s. P s.1) (said cmp matching (Expire now) g)
  unfolding parts_of
  expiry_says finals now g = said_each (expiring now g) g (tt, each_part (λ f. flat_map (λ row. ending f.number row.0) (filter (is_expired now g.timeout) f.pendings)) g.faces (λ f. each_part (λ row. ending f.number row.0) (filter (is_expired now g.timeout) f.pendings) (λ row. ending_says finals f.number row.0)))

  pub table_says : Undeclares → Forgets → Passes → (region : Region) (t : Trees) (g : Rows K) → Each (λ s. P s.1) (said cmp matching (SetTrees region t) g)
  unfolding parts_of
  table_says undeclares forgets passes region t g =
      let gone = left_out cmp region (counted_table t) g in
      said_each (changing_table cmp matching region t g) g (
        tt,
        each_append SaysEach (forgetting cmp matching region gone) _
            (each_part (λ e. Say (λ h. to_each (forget_to cmp matching h region e) h.faces) ∷ hiding cmp region e) gone (λ e. (forgets_say undeclares forgets region e, hiding_says forgets region e)))
            (tt, ((λ h. each_ruled P (greet_to cmp h region (table_of g region)) h.faces (greet_says passes h region (table_of g region))), tt)),
      )

  pub opening_says : Asks → Tells → Finals → (zid : Zid) (whatami : WhatAmI) (region : Region) (bound : Bound) (first : ℕ) (g : Rows K) → Each (λ s. P s.1) (said cmp matching (NewTransport zid whatami region bound first) g)
  unfolding parts_of
  opening_says asks tells finals zid whatami region bound first g =
      let n = g.made + 1 in
      said_each (opening cmp matching zid whatami region bound first g) g (
        tt,
        (
          (λ h. each_ruled_one P n (λ f. interests_from f.next (opening_interests cmp matching h f)) h (λ f. interests_say asks f.next (opening_interests cmp matching h f))),
          ((λ h. each_ruled_one P n (λ f. tokens_from f.next (opening_tokens cmp matching h f)) h (λ f. tokens_say tells f.next (opening_tokens cmp matching h f))), ((λ h. each_ruled_one P n (opening_final cmp matching) h (opening_final_says finals)), tt)),
        ),
      )

  -- ---- the two calls of a link

  pub closings_say : Undeclares → Forgets → Finals → Ends → (fs : List ℕ) (X : Fabric K) → Each (λ m. P m.message) (said_closing cmp matching fs X)
  unfolding said_closing
  closings_say undeclares forgets finals ends [] X = tt
  closings_say undeclares forgets finals ends (face ∷ fs) X =
      let at = closing_call X face in
      each_append (λ m. P m.message) (said_at cmp matching X at) (said_closing cmp matching fs (after_closing cmp matching face X))
      (closing_case cmp matching (λ o. Each (λ m. P m.message) (said_at cmp matching X o)) X face tt
      (λ n k node at_. each_map (λ m. P m.message) (printed X.faces n) (said cmp matching (CloseFace k) node.rows) (closing_says undeclares forgets finals ends k node.rows)))
      (closings_say undeclares forgets finals ends fs (after_closing cmp matching face X))

  pub openings_say : Asks → Tells → Finals → (ends : List (LinkEnd K)) (X : Fabric K) → Each (λ m. P m.message) (said_opening cmp matching ends X)
  unfolding said_opening
  openings_say asks tells finals [] X = tt
  openings_say asks tells finals (end ∷ ends) X =
      let at = opening_at cmp matching X end in
      each_append (λ m. P m.message) (said_at cmp matching (opened_at cmp matching at X) at) (said_opening cmp matching ends (after_opening cmp matching at X))
      (by_end cmp matching (λ c. (let o : Option (CallAt K) = elim c [ None ↦ None | Some call ↦ call_at X end.gateway call ] in Each (λ m. P m.message) (said_at cmp matching (opened_at cmp matching o X) o))) end tt
      (λ zid whatami region bound.
      let c : PlainCall K = NewTransport zid whatami region bound end.first in
      called_at (λ o. Each (λ m. P m.message) (said_at cmp matching (opened_at cmp matching o X) o)) X end.gateway c tt
      (λ node at_. each_map (λ m. P m.message) (printed (with_place end.gateway X).faces end.gateway) (said cmp matching c node.rows) (opening_says asks tells finals zid whatami region bound end.first node.rows))))
      (openings_say asks tells finals ends (after_opening cmp matching at X))

  -- ---- what is printed for a face

  pub printed_each : (k : ℕ) (ms : List (Sent K)) → Each (λ m. P m.message) ms → Each P (printed_for k ms)
  unfolding printed_for
  printed_each k [] all = tt
  printed_each k (m ∷ ms) all = of_cond (Each P) (k == m.face) (m.message ∷ printed_for k ms) (printed_for k ms) (λ _. (all.0, printed_each k ms all.1)) (λ _. printed_each k ms all.1)

  pub printed_sorted_each : (k : ℕ) (ms : List (Sent K)) → Each (λ m. P m.message) ms → Each P (printed_for k (sorted_by_face ms))
  printed_sorted_each k ms all = printed_each k (sorted_by_face ms) (sorted_each (λ m. P m.message) ms all)

  -- of what closings say, what is for faces that aren't closed
  pub unlinked_each : (k : ℕ) (fs : List ℕ) (ms : List (Sent K)) → Each (λ m. P m.message) ms → Each P (printed_for k (sorted_by_face (filter (λ m. not (list_any (λ face. face == m.face) fs)) ms)))
  unlinked_each k fs ms all = printed_sorted_each k (filter (λ m. not (list_any (λ face. face == m.face) fs)) ms) (each_filter (λ m. P m.message) (λ m. not (list_any (λ face. face == m.face) fs)) ms all)
