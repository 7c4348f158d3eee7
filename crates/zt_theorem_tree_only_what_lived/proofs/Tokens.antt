-- Where tokens come from: what a call declares to its faces is live at the gateway, or is the token of the call.
use Rattle.std.proofs.Common.{◌≡◌, ℕ, ◌+◌, Bool, true, false, if◌then◌else◌, ◌&&◌, ◌==◌, not, List, [], ◌∷◌, ◌++◌, map, filter, Option, Some, None, refl, sym, ap, ◌∙◌, subst}
use Rattle.std.specs.List.{flat_map}
use Rattle.std.specs.declared.cmp.Ordering.{Ordering}
use Rattle.std.specs.declared.cmp.Ordering.TheVariants.{Less, Equal, Greater}
use Rattle.std.specs.FinMap.Entries.{by_order}
use Rattle.zt_region.specs.declared.region.Region.{Region}
use Rattle.zt_region.specs.declared.region.Zid.{Zid}
use Rattle.zt_region.specs.Region.{region_eq, zid_eq}
use Rattle.zt_protocol.specs.Interest.{has_tokens, is_current, is_future}
use Rattle.zt_protocol.specs.declared.interests.InterestMode.{InterestMode}
use Rattle.zt_protocol.specs.Plain.{PlainCall, NewSession, NewTransport, DeclareToken, UndeclareToken, Interest, InterestFinal, DeclareFinal, CloseFace, Expire, SetTrees, SetEntities, Trees}
use Rattle.zt_protocol.specs.declared.messages.Message.{Message}
use Rattle.zt_protocol.specs.declared.messages.Message.TheVariants as message
use Rattle.zt_model.specs.Closing.{closing, is_expired, leaving, without_asks, without_face}
use Rattle.zt_model.specs.Entities.{entities_for, with_numbers}
use Rattle.zt_model.specs.Hearing.{heard_all, messages_for, rows_heard}
use Rattle.zt_model.specs.Lists.{at_id, has_id, with_key}
use Rattle.zt_model.specs.Parts.{Alter, Part, Say, altered_by, find_face, said_by, to_each, to_face, told_id, unsaid_to, with_face}
use Rattle.zt_model.specs.Routing.{asked_as, end_upstream_to, ended, ending, final_of, final_of_both, finalising, finish_to, finishing, initial_finalised, interests_from, opening_final, opening_interests, opening_tokens, route_to, sent_as, tokens_from, unheld, untell_to}
use Rattle.zt_model.specs.Rows.{Ask, ById, Face, InterestRow, Rows}
use Rattle.zt_model.specs.Says.{altered, answering, answers_from, answers_of, asking, declaring, declaring_of, finalising_held, forget_to, hiding_undeclared, is_routed, is_told, parts_of, registered, registers, row_of, said, tell_to, undeclared, undeclaring, undeclaring_of, unregistered}
use Rattle.zt_model.specs.Telling.{answer_to, answered_expressions, is_answered_by}
use Rattle.zt_model.specs.Transcript.{Each}
use Rattle.zt_model.specs.Trees.{counted_table, greet_to, hide_to, hiding, is_child, is_newly_shown, left_out, node_of, pass_to, routed_expressions, routed_order, router_regions, routers_in_order, row_at, show_to, showing, source_of, table_of, with_own_rows, with_routed, with_table, without_left_out, without_own_rows, without_routed, unpass_to}
use Rattle.zt_model.specs.Visible.{live_rows, rows_of_face, shows, visible_expressions}
use Rattle.zt_model.specs.Wants.{is_about}
use Rattle.zt_laws.specs.Sound.{rows_after_call}
use Rattle.zt_laws.proofs.Hearing.{each_ruled, each_ruled_one, heard_all-live, heard_all-region}
use Rattle.zt_laws.proofs.Lists.{by_test, each_append, each_both, each_filter, each_map, each_passes, each_weaker, never, of_cond}
use Rattle.zt_laws.proofs.PartsOrder.{each_flat_map}
use Rattle.zt_theorem_soundness.proofs.Going.{each_put}
use Rattle.zt_theorem_tree_invariant.proofs.Fresh.{each_in_order}
use Rattle.zt_theorem_tree_only_what_lived.specs.Tokens.{CallIn, IsIn, SaysIn, TokenIn}
use Rattle.zt_theorem_tree_only_what_lived.proofs.Rules.{IsOfOthers, quiet_unpass, quiet_end_upstream, quiet_entities, quiet_final, quiet_final_of_both, quiet_finish, quiet_forget, quiet_hide, quiet_interests, quiet_opening_final, quiet_route, quiet_untell}

each_key_put : {A : Type 0} (order : A → A → Ordering) (P : A → Type 0) (e : A) (ks : List A) → P e → Each P ks → Each P (with_key order e ks)
each_key_put order P e [] own all = (own, tt)
each_key_put order P e (k ∷ ks) own all =
    elim (order e k) as (λ o. Each P (by_order o (e ∷ k ∷ ks) (k ∷ ks) (k ∷ with_key order e ks))) [
      | Less ↦ (own, all)
      | Equal ↦ all
      | Greater ↦ (all.0, each_key_put order P e ks own all.1)
    ]

not_true : (b : Bool) → not b ≡ true → b ≡ false
not_true true h = cc
not_true false h = refl

each_member_flat : {A B : Type 0} (P : B → Type 0) (make : A → List B) (xs : List A) → Each (λ x. Each P (make x)) xs → Each P (flat_map make xs)
each_member_flat P make [] all = tt
each_member_flat P make (x ∷ xs) all = each_append P (make x) (flat_map make xs) all.0 (each_member_flat P make xs all.1)

module _ {K : Type 0} (cmp : K → K → Ordering) (matching : K → K → Bool) (Q : K → Type 0) where
  quiet : IsOfOthers (TokenIn Q)
  quiet = record { untoken = λ id e node. tt; final = λ id. tt; interest = λ id mode options e. tt; interest_final = λ id. tt; subscriber = λ number e i. tt; queryable = λ number e info i. tt }

  pub heard_in : (ss : List (ℕ × Message K)) (g : Rows K) → IsIn Q g → IsIn Q (rows_heard cmp ss g)
  unfolding rows_heard
  heard_in ss g in_ = record {
    live =
        each_map (λ (f : Face K). Each (λ row. Q row.1) f.live) (λ f. heard_all cmp g.moment (messages_for f.number ss) f) g.faces
        (each_weaker (λ f. Each (λ row. Q row.1) f.live) (λ f. Each (λ row. Q row.1) (heard_all cmp g.moment (messages_for f.number ss) f).live)
        (λ f all. subst (λ (rows : ById K). Each (λ row. Q row.1) rows) (sym (heard_all-live cmp g.moment (messages_for f.number ss) f)) all) g.faces in_.live);
    routed = in_.routed;
  }

  -- what is visible is of the kind
  visible_in : (g : Rows K) (own : Region) → IsIn Q g → Each Q (visible_expressions cmp g own)
  unfolding visible_expressions
  visible_in g own in_ =
      each_in_order cmp Q (map (λ row. row.1) (filter (λ row. shows g.mode own row.0) (live_rows g)))
      (each_map Q (λ (row : Region × K). row.1) (filter (λ row. shows g.mode own row.0) (live_rows g))
      (each_filter (λ (row : Region × K). Q row.1) (λ row. shows g.mode own row.0) (live_rows g)
      (each_append (λ (row : Region × K). Q row.1) (flat_map rows_of_face g.faces) _
      (each_member_flat (λ (row : Region × K). Q row.1) rows_of_face g.faces (each_weaker (λ f. Each (λ row. Q row.1) f.live) (λ f. Each (λ (row : Region × K). Q row.1) (rows_of_face f)) (λ f all. each_map (λ (row : Region × K). Q row.1) (λ row. (f.region, row.1)) f.live all) g.faces in_.live))
      (each_map (λ (row : Region × K). Q row.1) (λ row. (row.region, row.expr)) (filter (λ row. not (zid_eq row.source g.zid)) g.routed)
      (each_both (λ row. not (zid_eq row.source g.zid) ≡ true) (λ row. zid_eq row.source g.zid ≡ false → Q row.expr) (λ row. Q row.expr) (λ row other own. own (not_true (zid_eq row.source g.zid) other)) (filter (λ row. not (zid_eq row.source g.zid)) g.routed) (each_passes (λ row. not (zid_eq row.source g.zid)) g.routed) (each_filter (λ row. zid_eq row.source g.zid ≡ false → Q row.expr) (λ row. not (zid_eq row.source g.zid)) g.routed in_.routed))))))

  -- ---- parts

  abbrev PartIn : Part K → Type 0
  PartIn (Alter change) = (g : Rows K) → IsIn Q g → IsIn Q (change g)
  PartIn (Say rule) = (g : Rows K) → IsIn Q g → SaysIn Q (rule g)

  said_in : (parts : List (Part K)) (g : Rows K) → Each PartIn parts → IsIn Q g → SaysIn Q (said_by cmp matching parts g)
  unfolding said_by
  said_in [] g all in_ = tt
  said_in (Alter change ∷ parts) g all in_ = said_in parts (change g) all.1 (all.0 g in_)
  said_in (Say rule ∷ parts) g all in_ = each_append (λ s. TokenIn Q s.1) (rule g) (said_by cmp matching parts (rows_heard cmp (rule g) g)) (all.0 g in_) (said_in parts (rows_heard cmp (rule g) g) all.1 (heard_in (rule g) g in_))

  altered_in : (parts : List (Part K)) (g : Rows K) → Each PartIn parts → IsIn Q g → IsIn Q (altered_by cmp matching parts g)
  unfolding altered_by
  altered_in [] g all in_ = in_
  altered_in (Alter change ∷ parts) g all in_ = altered_in parts (change g) all.1 (all.0 g in_)
  altered_in (Say rule ∷ parts) g all in_ = altered_in parts g all.1 in_

  -- a face is changed
  face_in : (n : ℕ) (change : Face K → Face K) → ((f : Face K) → Each (λ row. Q row.1) f.live → Each (λ row. Q row.1) (change f).live) → PartIn (Alter (with_face n change))
  unfolding with_face
  face_in n change keeps = λ g in_. record {
    live =
        each_map (λ (f : Face K). Each (λ row. Q row.1) f.live) (λ f. if n == f.number then change f else f) g.faces
        (each_weaker (λ f. Each (λ row. Q row.1) f.live) (λ f. Each (λ row. Q row.1) (if n == f.number then change f else f).live) (λ f all. of_cond (λ (h : Face K). Each (λ row. Q row.1) h.live) (n == f.number) (change f) f (λ _. keeps f all) (λ _. all)) g.faces in_.live);
    routed = in_.routed;
  }

  each_said : (rule : Rows K → Face K → List (Message K)) → ((g : Rows K) (f : Face K) → IsIn Q g → Each (TokenIn Q) (rule g f)) → PartIn (Say (λ g. to_each (rule g) g.faces))
  each_said rule says = λ g in_. each_ruled (TokenIn Q) (rule g) g.faces (λ f. says g f in_)

  one_said : (n : ℕ) (rule : Rows K → Face K → List (Message K)) → ((g : Rows K) (f : Face K) → IsIn Q g → Each (TokenIn Q) (rule g f)) → PartIn (Say (λ g. to_face n (rule g) g))
  one_said n rule says = λ g in_. each_ruled_one (TokenIn Q) n (rule g) g (λ f. says g f in_)

  unsaid_in : (n : ℕ) (parts : List (Part K)) → Each PartIn parts → Each PartIn (unsaid_to n parts)
  unfolding unsaid_to
  unsaid_in n [] all = tt
  unsaid_in n (Alter change ∷ parts) all = (all.0, unsaid_in n parts all.1)
  unsaid_in n (Say rule ∷ parts) all = ((λ g in_. each_filter (λ s. TokenIn Q s.1) (λ s. not (n == s.0)) (rule g) (all.0 g in_)), unsaid_in n parts all.1)

  -- ---- rules that declare

  tell_in : (source : Region) (e : K) → Q e → PartIn (Say (λ g. to_each (tell_to cmp matching g source e) g.faces))
  unfolding tell_to
  tell_in source e own = each_said (λ g. tell_to cmp matching g source e) (λ g f in_. of_cond (Each (TokenIn Q)) (is_told cmp matching g source e f) (message.DeclareToken f.next e None 0 ∷ []) [] (λ _. (own, tt)) (λ _. tt))

  answers_in_ : (next : ℕ) (told : ById K) (mode : InterestMode) (id : ℕ) (es : List K) → Each Q es → Each (TokenIn Q) (answers_from cmp matching next told mode id es)
  unfolding answers_from
  answers_in_ next told mode id [] all = tt
  answers_in_ next told mode id (e ∷ es) all = by_test (is_future mode) (λ later. rw later (cases (λ k. answers_in_ k told mode id es all.1) (told_id cmp e told))) (λ now_. rw now_ (all.0, answers_in_ next told mode id es all.1))
    where
      cases : ((k : ℕ) → Each (TokenIn Q) (answers_from cmp matching k told mode id es)) → (o : Option ℕ)
          → (let ms : List (Message K) = elim o [ None ↦ message.DeclareToken next e (Some id) 0 ∷ answers_from cmp matching (next + 1) told mode id es | Some old ↦ message.DeclareToken old e (Some id) 0 ∷ answers_from cmp matching next told mode id es ] in Each (TokenIn Q) ms)
      cases more None = (all.0, more (next + 1))
      cases more (Some old) = (all.0, more next)

  answer_in : (n id : ℕ) (e : K) → Q e → PartIn (Say (λ g. to_each (answer_to cmp matching n id e) g.faces))
  unfolding answer_to
  answer_in n id e own =
      each_said (λ g. answer_to cmp matching n id e)
      (λ g f in_. each_flat_map (TokenIn Q) (λ (row : ℕ × Ask K). if is_answered_by cmp matching n id e row.1 then answers_from cmp matching f.next f.told row.1.interest.mode row.0 (e ∷ []) else []) f.asks
      (λ row. of_cond (Each (TokenIn Q)) (is_answered_by cmp matching n id e row.1) (answers_from cmp matching f.next f.told row.1.interest.mode row.0 (e ∷ [])) [] (λ _. answers_in_ f.next f.told row.1.interest.mode row.0 (e ∷ []) (own, tt)) (λ _. tt)))

  asked_in : (n id : ℕ) (interest : InterestRow K) → PartIn (Say (λ g. to_face n (answers_of cmp matching g id interest) g))
  unfolding answered_expressions
  asked_in n id interest =
      one_said n (λ g. answers_of cmp matching g id interest)
      (λ g f in_. answers_in_ f.next f.told interest.mode id _ (of_cond (Each Q) (is_current interest.mode && has_tokens interest.options) (filter (is_about matching interest.expr) (visible_expressions cmp g f.region)) [] (λ _. each_filter Q (is_about matching interest.expr) (visible_expressions cmp g f.region) (visible_in g f.region in_)) (λ _. tt)))

  tokens_in : (next : ℕ) (es : List K) → Each Q es → Each (TokenIn Q) (tokens_from next es)
  unfolding tokens_from
  tokens_in next [] all = tt
  tokens_in next (e ∷ es) all = (all.0, tokens_in (next + 1) es all.1)

  pass_in : (g : Rows K) (region : Region) (source : Zid) (e : K) (f : Face K) → Q e → Each (TokenIn Q) (pass_to cmp g region source e f)
  unfolding pass_to
  pass_in g region source e f own = of_cond (Each (TokenIn Q)) (region_eq f.region region && is_child g (table_of g region) source f) (message.DeclareToken 0 e None (node_of source (table_of g region)) ∷ []) [] (λ _. (own, tt)) (λ _. tt)

  own_rows_in : (rs : List Region) (e : K) (g : Rows K) → Q e → IsIn Q g → IsIn Q (with_own_rows cmp rs e g)
  unfolding with_own_rows with_routed
  own_rows_in [] e g own in_ = in_
  own_rows_in (r ∷ rs) e g own in_ = own_rows_in rs e (with_routed cmp r g.zid e g) own (record { live = in_.live; routed = each_key_put (routed_order cmp) (λ row. zid_eq row.source g.zid ≡ false → Q row.expr) (row_at cmp r g.zid e) g.routed (λ _. own) in_.routed })

  showing_in : (source : Region) (e : K) → Q e → Each PartIn (showing cmp source e)
  unfolding show_to
  showing_in source e own = (
    each_said (λ g. show_to cmp g source e) (λ g f in_. of_cond (Each (TokenIn Q)) (is_newly_shown cmp g source e f.region) (pass_to cmp g f.region g.zid e f) [] (λ _. pass_in g f.region g.zid e f own) (λ _. tt)),
    ((λ g in_. own_rows_in (filter (is_newly_shown cmp g source e) (router_regions g)) e g own in_), tt),
  )

  -- a table of a region without faces greets nobody
  greets_none : (region : Region) (before : Trees) (h : Rows K) → Each (λ f. region_eq f.region region ≡ false) h.faces → to_each (greet_to cmp h region before) h.faces ≡ []
  unfolding to_each greet_to
  greets_none region before h apart = go h.faces apart
    where
      nothing : (f : Face K) → region_eq f.region region ≡ false → (rs : List (ℕ × Zid)) → flat_map (λ r. if region_eq f.region region && (is_child h (table_of h region) r.1 f && not (is_child h before r.1 f)) then map (λ e. message.DeclareToken 0 e None r.0) (routed_expressions cmp h region r.1) else []) rs ≡ []
      nothing f apart_ [] = refl
      nothing f apart_ (r ∷ rs) = rw apart_ (nothing f apart_ rs)

      go : (fs : List (Face K)) → Each (λ f. region_eq f.region region ≡ false) fs → to_each (greet_to cmp h region before) fs ≡ []
      go [] all = refl
      go (f ∷ fs) all =
          ap (λ (ms : List (Message K)). map (λ m. (f.number, m)) ms ++ to_each (greet_to cmp h region before) fs) (nothing f all.0 (routers_in_order cmp (table_of h region))) ∙ go fs all.1

  apart_heard : (region : Region) (ss : List (ℕ × Message K)) (g : Rows K) → Each (λ f. region_eq f.region region ≡ false) g.faces → Each (λ f. region_eq f.region region ≡ false) (rows_heard cmp ss g).faces
  unfolding rows_heard
  apart_heard region ss g apart =
      each_map (λ (f : Face K). region_eq f.region region ≡ false) (λ f. heard_all cmp g.moment (messages_for f.number ss) f) g.faces
      (each_weaker (λ f. region_eq f.region region ≡ false) (λ f. region_eq (heard_all cmp g.moment (messages_for f.number ss) f).region region ≡ false) (λ f own. ap (λ r. region_eq r region) (heard_all-region cmp g.moment (messages_for f.number ss) f) ∙ own) g.faces apart)

  -- ---- groups of parts

  hiding_in : (source : Region) (e : K) → Each PartIn (hiding cmp source e)
  unfolding without_own_rows
  hiding_in source e = (each_said (λ g. hide_to cmp g source e) (λ g f in_. quiet_hide cmp matching (TokenIn Q) quiet g source e f), ((λ g in_. record { live = in_.live; routed = each_filter (λ row. zid_eq row.source g.zid ≡ false → Q row.expr) _ g.routed in_.routed }), tt))

  forget_in : (source : Region) (e : K) → PartIn (Say (λ g. to_each (forget_to cmp matching g source e) g.faces))
  forget_in source e = each_said (λ g. forget_to cmp matching g source e) (λ g f in_. quiet_forget cmp matching (TokenIn Q) quiet g source e f)

  undeclaring_in : (n id : ℕ) (given : Option K) (f : Face K) → Each PartIn (undeclaring cmp matching n id given f)
  undeclaring_in n id given f = cases (undeclared cmp matching id given f)
    where
      cases : (o : Option K) → Each PartIn (elim o [ None ↦ [] | Some e ↦ Alter (with_face n (unregistered id)) ∷ Say (λ g. to_each (forget_to cmp matching g f.region e) g.faces) ∷ [] ])
      cases None = tt
      cases (Some e) = (face_in n (unregistered id) (λ h all. each_filter (λ row. Q row.1) (λ row. not (id == row.0)) h.live all), (forget_in f.region e, tt))

  hiding_undeclared_in : (id : ℕ) (given : Option K) (f : Face K) → Each PartIn (hiding_undeclared cmp matching id given f)
  hiding_undeclared_in id given f = cases (undeclared cmp matching id given f)
    where
      cases : (o : Option K) → Each PartIn (elim o [ None ↦ [] | Some e ↦ hiding cmp f.region e ])
      cases None = tt
      cases (Some e) = hiding_in f.region e

  finalising_in : (n id : ℕ) (interest : InterestRow K) → Each PartIn (finalising cmp matching n id interest)
  finalising_in n id interest =
      (face_in n (unheld id) (λ f all. all), (one_said n (untell_to cmp matching) (λ g f in_. quiet_untell cmp matching (TokenIn Q) quiet g f), (one_said n (λ g. final_of_both id interest) (λ g f in_. quiet_final_of_both cmp matching (TokenIn Q) quiet id interest f), (each_said (λ g. end_upstream_to cmp matching g interest) (λ g f in_. quiet_end_upstream cmp matching (TokenIn Q) quiet g interest f), tt))))

  ending_in : (n id : ℕ) → Each PartIn (ending n id)
  ending_in n id = (face_in n (ended id) (λ f all. all), (each_said (λ g. finish_to g n id) (λ g f in_. quiet_finish cmp matching (TokenIn Q) quiet g n id f), tt))

  leaving_in : (n : ℕ) (f : Face K) → Each PartIn (leaving cmp matching n f)
  leaving_in n f =
      let undeclares = λ (row : ℕ × K). undeclaring cmp matching n row.0 None f ++ hiding cmp f.region row.1 in
      let finalises = λ (row : ℕ × InterestRow K). finalising cmp matching n row.0 row.1 in
      each_append PartIn (flat_map undeclares f.live ++ flat_map finalises f.held) _
      (each_append PartIn (flat_map undeclares f.live) (flat_map finalises f.held) (each_flat_map PartIn undeclares f.live (λ row. each_append PartIn (undeclaring cmp matching n row.0 None f) (hiding cmp f.region row.1) (undeclaring_in n row.0 None f) (hiding_in f.region row.1))) (each_flat_map PartIn finalises f.held (λ row. finalising_in n row.0 row.1)))
      (face_in n without_asks (λ h all. all), each_flat_map PartIn (λ row. ending n row.0) f.pendings (λ row. ending_in n row.0))

  closing_in : (n : ℕ) (g : Rows K) (f : Face K) → Each PartIn (closing cmp matching n g f)
  closing_in n g f =
      let parts : List (Part K) = if is_routed g f then [] else unsaid_to n (leaving cmp matching n f) in
      each_append PartIn parts (Alter (without_face n) ∷ []) (of_cond (Each PartIn) (is_routed g f) [] (unsaid_to n (leaving cmp matching n f)) (λ _. tt) (λ _. unsaid_in n (leaving cmp matching n f) (leaving_in n f)))
      ((λ h in_. record { live = each_filter (λ f. Each (λ row. Q row.1) f.live) (λ f. not (n == f.number)) h.faces in_.live; routed = in_.routed }), tt)

  declaring_in : (n id : ℕ) (e : K) (f : Face K) → Q e → Each PartIn (declaring cmp matching n id e f)
  declaring_in n id e f own = (face_in n (registered id e) (λ h all. each_put (λ row. Q row.1) id e h.live own all), (tell_in f.region e own, tt))

  -- ---- calls

  by_face : (n : ℕ) (g : Rows K) (parts : Face K → List (Part K)) → ((f : Face K) → Each PartIn (parts f)) → Each PartIn (elim (find_face n g) [ None ↦ [] | Some f ↦ parts f ])
  by_face n g parts found = cases (find_face n g)
    where
      cases : (o : Option (Face K)) → Each PartIn (elim o [ None ↦ [] | Some f ↦ parts f ])
      cases None = tt
      cases (Some f) = found f

  -- a table is set
  abbrev sets_tree : PlainCall K → Bool
  sets_tree (SetTrees region t) = true
  sets_tree _ = false

  parts_in : (c : PlainCall K) (g : Rows K) → sets_tree c ≡ false → CallIn Q g c → Each PartIn (parts_of cmp matching c g)
  unfolding parts_of with_routed without_routed
  parts_in (NewSession first) g no_tree own = ((λ h in_. record { live = each_append (λ (f : Face K). Each (λ row. Q row.1) f.live) h.faces _ in_.live (tt, tt); routed = in_.routed }), tt)
  parts_in (NewTransport zid whatami region bound first) g no_tree own = (
    (λ h in_. record { live = each_append (λ (f : Face K). Each (λ row. Q row.1) f.live) h.faces _ in_.live (tt, tt); routed = in_.routed }),
    (
      one_said (g.made + 1) (λ h f. interests_from f.next (opening_interests cmp matching h f)) (λ h f in_. quiet_interests cmp matching (TokenIn Q) quiet f.next (opening_interests cmp matching h f)),
      (
        one_said (g.made + 1) (λ h f. tokens_from f.next (opening_tokens cmp matching h f)) (λ h f in_. tokens_in f.next (opening_tokens cmp matching h f) (of_cond (Each Q) _ (visible_expressions cmp h f.region) [] (λ _. visible_in h f.region in_) (λ _. tt))),
        (one_said (g.made + 1) (λ h. opening_final cmp matching) (λ h f in_. quiet_opening_final cmp matching (TokenIn Q) quiet f), tt),
      ),
    ),
  )
  parts_in (DeclareToken n id e node interest) g no_tree own =
      by_face n g (λ f. if is_routed g f then declaring_of cmp matching n (source_of g f node) e f else answering cmp matching n interest e f ++ (if registers f interest then declaring cmp matching n id e f ++ showing cmp f.region e else []))
      (λ f.
      of_cond (Each PartIn) (is_routed g f) (declaring_of cmp matching n (source_of g f node) e f) (answering cmp matching n interest e f ++ (if registers f interest then declaring cmp matching n id e f ++ showing cmp f.region e else []))
      (λ _. routed f (source_of g f node))
      (λ _. each_append PartIn (answering cmp matching n interest e f) (if registers f interest then declaring cmp matching n id e f ++ showing cmp f.region e else []) (answers f interest)
      (of_cond (Each PartIn) (registers f interest) (declaring cmp matching n id e f ++ showing cmp f.region e) [] (λ _. each_append PartIn (declaring cmp matching n id e f) (showing cmp f.region e) (declaring_in n id e f own) (showing_in f.region e own)) (λ _. tt))))
    where
      routed : (f : Face K) (o : Option Zid) → Each PartIn (declaring_of cmp matching n o e f)
      routed f None = tt
      routed f (Some source) = (
        (λ h in_. record { live = in_.live; routed = each_key_put (routed_order cmp) (λ row. zid_eq row.source h.zid ≡ false → Q row.expr) (row_at cmp f.region source e) h.routed (λ _. own) in_.routed }),
        ((λ h in_. each_filter (λ s. TokenIn Q s.1) (λ s. not (n == s.0)) (to_each (pass_to cmp h f.region source e) h.faces) (each_ruled (TokenIn Q) (pass_to cmp h f.region source e) h.faces (λ k. pass_in h f.region source e k own))), (tell_in f.region e own, showing_in f.region e own)),
      )

      answers : (f : Face K) (i : Option ℕ) → Each PartIn (answering cmp matching n i e f)
      answers f None = tt
      answers f (Some i) = of_cond (Each PartIn) (has_id i f.pendings) (Say (λ h. to_each (answer_to cmp matching n i e) h.faces) ∷ []) [] (λ _. (answer_in n i e own, tt)) (λ _. tt)
  parts_in (UndeclareToken n id given node) g no_tree own =
      by_face n g (λ f. if is_routed g f then undeclaring_of cmp matching n (source_of g f node) given f else undeclaring cmp matching n id given f ++ hiding_undeclared cmp matching id given f)
      (λ f.
      of_cond (Each PartIn) (is_routed g f) (undeclaring_of cmp matching n (source_of g f node) given f) (undeclaring cmp matching n id given f ++ hiding_undeclared cmp matching id given f) (λ _. routed f (source_of g f node) given)
      (λ _. each_append PartIn (undeclaring cmp matching n id given f) (hiding_undeclared cmp matching id given f) (undeclaring_in n id given f) (hiding_undeclared_in id given f)))
    where
      routed : (f : Face K) (o : Option Zid) (e : Option K) → Each PartIn (undeclaring_of cmp matching n o e f)
      routed f None e = tt
      routed f (Some source) None = tt
      routed f (Some source) (Some e) = (
        (λ h in_. record { live = in_.live; routed = each_filter (λ row. zid_eq row.source h.zid ≡ false → Q row.expr) _ h.routed in_.routed }),
        ((λ h in_. each_filter (λ s. TokenIn Q s.1) (λ s. not (n == s.0)) (to_each (unpass_to cmp h f.region source e) h.faces) (each_ruled (TokenIn Q) (unpass_to cmp h f.region source e) h.faces (quiet_unpass cmp matching (TokenIn Q) quiet h f.region source e))), (forget_in f.region e, hiding_in f.region e)),
      )
  parts_in (Interest n id mode options e) g no_tree own =
      by_face n g (λ f. asking cmp matching n id (row_of cmp matching f mode options e) f.region g)
      (λ f.
      let i = row_of cmp matching f mode options e in (
        (λ h in_. record { live = in_.live; routed = in_.routed }),
        (
          each_said (λ h. route_to h f.region i) (λ h k in_. quiet_route cmp matching (TokenIn Q) quiet h f.region i k),
          (
            one_said n (λ h. entities_for cmp matching h id i) (λ h k in_. quiet_entities cmp matching (TokenIn Q) quiet h id i k),
            (face_in n (asked_as (sent_as g f.region mode) id i) (λ k all. all), (asked_in n id i, (one_said n (λ h. final_of id) (λ h k in_. quiet_final cmp matching (TokenIn Q) quiet id k), tt))),
          ),
        ),
      ))
  parts_in (InterestFinal n id) g no_tree own = by_face n g (λ f. finalising_held cmp matching n id f) (λ f. finals (at_id id f.held))
    where
      finals : (o : Option (InterestRow K)) → Each PartIn (elim o [ None ↦ [] | Some interest ↦ finalising cmp matching n id interest ])
      finals None = tt
      finals (Some interest) = finalising_in n id interest
  parts_in (DeclareFinal n id) g no_tree own = by_face n g (λ f. finishing n id f) (λ f. (face_in n (initial_finalised id) (λ k all. all), of_cond (Each PartIn) (has_id id f.pendings) (ending n id) [] (λ _. ending_in n id) (λ _. tt)))
  parts_in (CloseFace n) g no_tree own = by_face n g (λ f. closing cmp matching n g f) (λ f. closing_in n g f)
  parts_in (Expire now) g no_tree own =
      ((λ h in_. record { live = in_.live; routed = in_.routed }), each_flat_map PartIn (λ f. flat_map (λ row. ending f.number row.0) (filter (is_expired now g.timeout) f.pendings)) g.faces (λ f. each_flat_map PartIn (λ row. ending f.number row.0) (filter (is_expired now g.timeout) f.pendings) (λ row. ending_in f.number row.0)))
  parts_in (SetTrees region t) g no_tree own = never refl no_tree
  parts_in (SetEntities n subscribers queryables) g no_tree own = ((λ h in_. face_in n (λ f. record f { subscribers = subscribers; queryables = queryables }) (λ f all. all) (with_numbers cmp _ h) (record { live = in_.live; routed = in_.routed })), tt)

  -- what is forgotten for a table, and what is said then
  forgets_said : (region : Region) (es : List K) (last : List (Part K)) (g : Rows K) → ((h : Rows K) → Each (λ f. region_eq f.region region ≡ false) h.faces → IsIn Q h → SaysIn Q (said_by cmp matching last h)) → Each (λ f. region_eq f.region region ≡ false) g.faces → IsIn Q g
      → SaysIn Q (said_by cmp matching (flat_map (λ e. Say (λ h. to_each (forget_to cmp matching h region e) h.faces) ∷ hiding cmp region e) es ++ last) g)
  unfolding said_by without_own_rows
  forgets_said region [] last g says apart in_ = says g apart in_
  forgets_said region (e ∷ es) last g says apart in_ =
      let s1 = to_each (forget_to cmp matching g region e) g.faces in
      let g1 = rows_heard cmp s1 g in
      let in1 = heard_in s1 g in_ in
      let s2 = to_each (hide_to cmp g1 region e) g1.faces in
      let g2 = rows_heard cmp s2 g1 in
      let in2 = heard_in s2 g1 in1 in
      let g3 = without_own_rows cmp region e g2 in
      let in3 : IsIn Q g3 = record { live = in2.live; routed = each_filter (λ row. zid_eq row.source g2.zid ≡ false → Q row.expr) _ g2.routed in2.routed } in
      each_append (λ s. TokenIn Q s.1) s1 _ (forget_in region e g in_) (each_append (λ s. TokenIn Q s.1) s2 _ (each_ruled (TokenIn Q) (hide_to cmp g1 region e) g1.faces (λ f. quiet_hide cmp matching (TokenIn Q) quiet g1 region e f))
      (forgets_said region es last g3 says (apart_heard region s2 g1 (apart_heard region s1 g apart)) in3))

  tree_says_in : (region : Region) (t : Trees) (g : Rows K) → Each (λ f. region_eq f.region region ≡ false) g.faces → IsIn Q g → SaysIn Q (said cmp matching (SetTrees region t) g)
  unfolding parts_of said_by
  tree_says_in region t g apart in_ =
      forgets_said region (left_out cmp region (counted_table t) g) (Alter (with_table cmp region t) ∷ Say (λ h. to_each (greet_to cmp h region (table_of g region)) h.faces) ∷ []) (without_left_out cmp region (counted_table t) g)
      (λ h apart_ in_h. subst (λ ss. SaysIn Q (ss ++ [])) (sym (greets_none region (table_of g region) (with_table cmp region t h) apart_)) tt)
      apart (record { live = in_.live; routed = each_filter (λ row. zid_eq row.source g.zid ≡ false → Q row.expr) _ g.routed in_.routed })

  tree_alters_in : (region : Region) (t : Trees) (g : Rows K) → IsIn Q g → IsIn Q (altered cmp matching (SetTrees region t) g)
  unfolding parts_of altered_by
  tree_alters_in region t g in_ =
      forgets_then region (left_out cmp region (counted_table t) g) (without_left_out cmp region (counted_table t) g) (record { live = in_.live; routed = each_filter (λ row. zid_eq row.source g.zid ≡ false → Q row.expr) _ g.routed in_.routed })
    where
      forgets_then : (r : Region) (es : List K) (h : Rows K) → IsIn Q h → IsIn Q (altered_by cmp matching (flat_map (λ e. Say (λ k. to_each (forget_to cmp matching k r e) k.faces) ∷ hiding cmp r e) es ++ (Alter (with_table cmp region t) ∷ Say (λ k. to_each (greet_to cmp k region (table_of g region)) k.faces) ∷ [])) h)
      forgets_then r [] h in_h = record { live = in_h.live; routed = in_h.routed }
      forgets_then r (e ∷ es) h in_h = forgets_then r es (without_own_rows cmp r e h) (hidden r e h in_h)
        where
          hidden : (r : Region) (e : K) (h : Rows K) → IsIn Q h → IsIn Q (without_own_rows cmp r e h)
          hidden r e h in_h = (hiding_in r e).1.0 h in_h

  by_tree : (G : PlainCall K → Type 0) (c : PlainCall K) → ((region : Region) (t : Trees) → c ≡ SetTrees region t → G c) → (sets_tree c ≡ false → G c) → G c
  by_tree G (SetTrees region t) tree other = tree region t refl
  by_tree G (NewSession first) tree other = other refl
  by_tree G (NewTransport zid whatami region bound first) tree other = other refl
  by_tree G (DeclareToken n id e node interest) tree other = other refl
  by_tree G (UndeclareToken n id given node) tree other = other refl
  by_tree G (Interest n id mode options e) tree other = other refl
  by_tree G (InterestFinal n id) tree other = other refl
  by_tree G (DeclareFinal n id) tree other = other refl
  by_tree G (CloseFace n) tree other = other refl
  by_tree G (Expire now) tree other = other refl
  by_tree G (SetEntities n subscribers queryables) tree other = other refl

  -- A call says tokens of the kind alone, and leaves rows of the kind.
  pub call_says_in : (c : PlainCall K) (g : Rows K) → CallIn Q g c → IsIn Q g → SaysIn Q (said cmp matching c g)
  call_says_in c g own in_ =
      by_tree (λ d. CallIn Q g d → SaysIn Q (said cmp matching d g)) c
      (λ region t is. subst (λ d. CallIn Q g d → SaysIn Q (said cmp matching d g)) (sym is) (λ apart. tree_says_in region t g apart in_))
      (λ no_tree own_. said_in (parts_of cmp matching c g) g (parts_in c g no_tree own_) in_) own

  pub call_leaves_in : (c : PlainCall K) (g : Rows K) → CallIn Q g c → IsIn Q g → IsIn Q (rows_after_call cmp matching c g)
  call_leaves_in c g own in_ =
      heard_in (said cmp matching c g) (altered cmp matching c g)
      (by_tree (λ d. CallIn Q g d → IsIn Q (altered cmp matching d g)) c (λ region t is. subst (λ d. CallIn Q g d → IsIn Q (altered cmp matching d g)) (sym is) (λ apart. tree_alters_in region t g in_)) (λ no_tree own_. altered_in (parts_of cmp matching c g) g (parts_in c g no_tree own_) in_) own)
