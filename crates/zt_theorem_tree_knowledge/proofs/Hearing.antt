-- Messages that leave interests: a gateway of a tree stays one whoever hears them.
use Rattle.std.proofs.Common.{◌≡◌, ℕ, ◌+◌, ◌≤◌, ◌<◌, Bool, true, if◌then◌else◌, ◌&&◌, ◌||◌, not, List, [], ◌∷◌, map, filter, Option, Some, None, refl, sym, ◌∙◌, subst, arith}
use Rattle.std.specs.List.{flat_map, list_any}
use Rattle.std.specs.declared.cmp.Ordering.{Ordering}
use Rattle.zt_region.specs.declared.region.Region.{Region}
use Rattle.zt_region.specs.declared.region.Zid.{Zid}
use Rattle.zt_region.specs.Region.{region_eq}
use Rattle.zt_protocol.specs.Interest.{is_current, is_future}
use Rattle.zt_protocol.specs.declared.interests.InterestMode.{InterestMode}
use Rattle.zt_protocol.specs.Plain.{Trees}
use Rattle.zt_protocol.specs.declared.messages.Message.{Message}
use Rattle.zt_protocol.specs.declared.messages.Message.TheVariants as message
use Rattle.zt_model.specs.Entities.{entities_for}
use Rattle.zt_model.specs.Hat.{hat_of_face}
use Rattle.zt_model.specs.Hearing.{heard, heard_all, messages_for, rows_heard}
use Rattle.zt_model.specs.Lists.{at_id, in_key_order, is_some_and}
use Rattle.zt_model.specs.Parts.{Say, told_id, to_each, to_face}
use Rattle.zt_model.specs.Routing.{asks_same, final_of, final_of_both, finish_to, is_finished_by, untell_to}
use Rattle.zt_model.specs.Rows.{Ask, ById, Face, InterestRow, Rows}
use Rattle.zt_model.specs.Says.{answers_from, forget_to, forget_untold, is_routed, is_told, tell_to}
use Rattle.zt_model.specs.Telling.{answer_to, is_answered_by}
use Rattle.zt_model.specs.Transcript.{Each}
use Rattle.zt_model.specs.Trees.{greet_to, hide_to, is_child, is_hidden, is_newly_shown, node_of, pass_to, routed_expressions, routers_in_order, show_to, table_of, unpass_to}
use Rattle.zt_model.specs.Visible.{is_visible, shows}
use Rattle.zt_model.specs.Wants.{wants}
use Rattle.zt_laws.specs.Sound.{RiseFrom}
use Rattle.zt_laws.proofs.Hearing.{each_ruled, each_ruled_one, heard_all-held, heard_all-number, heard_all-region}
use Rattle.zt_laws.proofs.Lists.{by_test, each_always, each_map, each_weaker, of_cond}
use Rattle.zt_laws.proofs.PartsOrder.{each_flat_map, each_message_for}
use Rattle.zt_theorem_soundness.proofs.CallsRun.{each_entity}
use Rattle.zt_theorem_tree_invariant.proofs.Saying.{tree_face_heard_all}
use Rattle.zt_theorem_tree_knowledge.proofs.Inside.{Any, GoesOn, Held, Inside, KeepsPart, mapped_any}

-- ---- kinds of messages

-- neither an interest nor the end of one
abbrev pub LeavesLocals : {K : Type 0} → Message K → Type 0
LeavesLocals (message.Interest id mode options e) = ⊥
LeavesLocals (message.InterestFinal id) = ⊥
LeavesLocals _ = Unit {0}

module _ {K : Type 0} (cmp : K → K → Ordering) where
  locals_still : (now : ℕ) (m : Message K) (f : Face K) → LeavesLocals m → (heard cmp now m f).locals ≡ f.locals
  locals_still now (message.DeclareToken id e interest node) f leaves = refl
  locals_still now (message.UndeclareToken id e node) f leaves = refl
  locals_still now (message.DeclareFinal interest) f leaves = refl
  locals_still now (message.Interest id mode options e) f leaves = absurd leaves
  locals_still now (message.InterestFinal id) f leaves = absurd leaves
  locals_still now (message.DeclareSubscriber id e interest) f leaves = refl
  locals_still now (message.DeclareQueryable id e info interest) f leaves = refl

  next_grows : (now : ℕ) (m : Message K) (f : Face K) → f.next ≤ (heard cmp now m f).next
  next_grows now (message.DeclareToken id e interest node) f = omega arith
  next_grows now (message.UndeclareToken id e node) f = omega arith
  next_grows now (message.DeclareFinal interest) f = omega arith
  next_grows now (message.Interest id mode options e) f = omega arith
  next_grows now (message.InterestFinal id) f = omega arith
  next_grows now (message.DeclareSubscriber id e interest) f = omega arith
  next_grows now (message.DeclareQueryable id e info interest) f = omega arith

  pub all_locals_still : (now : ℕ) (ms : List (Message K)) (f : Face K) → Each LeavesLocals ms → (heard_all cmp now ms f).locals ≡ f.locals
  unfolding heard_all
  all_locals_still now [] f leaves = refl
  all_locals_still now (m ∷ ms) f leaves = all_locals_still now ms (heard cmp now m f) leaves.1 ∙ locals_still now m f leaves.0

  pub all_next_grows : (now : ℕ) (ms : List (Message K)) (f : Face K) → f.next ≤ (heard_all cmp now ms f).next
  unfolding heard_all
  all_next_grows now [] f = omega arith
  all_next_grows now (m ∷ ms) f =
      let one = next_grows now m f in
      let more = all_next_grows now ms (heard cmp now m f) in
      omega arith

module _ {K : Type 0} (cmp : K → K → Ordering) (matching : K → K → Bool) where
  -- ---- hearing

  pub goes_heard : (g : Rows K) (now : ℕ) (ms : List (Message K)) (f : Face K) → Each LeavesLocals ms → GoesOn cmp matching (Any cmp matching) g f (heard_all cmp now ms f)
  goes_heard g now ms f leaves =
      let h = heard_all cmp now ms f in
      let same_ : h.locals ≡ f.locals = all_locals_still cmp now ms f leaves in
      let more = all_next_grows cmp now ms f in
      record {
        number = heard_all-number cmp now ms f;
        region = heard_all-region cmp now ms f;
        face = λ face. tree_face_heard_all cmp g.mode now ms f face;
        rises = λ rises. subst (λ (rows : ById (InterestRow K)). RiseFrom (λ row. row.0) 0 rows) (sym same_) rises;
        drawn = λ drawn. subst (λ (rows : ById (InterestRow K)). Each (λ row. row.0 < h.next) rows) (sym same_) (each_weaker (λ row. row.0 < f.next) (λ row. row.0 < h.next) (λ row less. omega arith) f.locals drawn);
        held = λ _ all. subst (λ (rows : ById (InterestRow K)). Each (Held cmp matching (Any cmp matching) g) rows) (sym (heard_all-held cmp now ms f)) all;
        asks = λ i _ some. subst (λ (rows : ById (InterestRow K)). list_any (λ row. (is_current row.1.mode && is_future row.1.mode) && asks_same cmp matching i row.1) rows ≡ true) (sym same_) some;
      }

  pub hears_leaving : (ss : List (ℕ × Message K)) (g : Rows K) → Each (λ s. LeavesLocals s.1) ss → Inside cmp matching g → Inside cmp matching (rows_heard cmp ss g)
  unfolding rows_heard
  hears_leaving ss g leaves inside =
      mapped_any cmp matching g (λ f. heard_all cmp g.moment (messages_for f.number ss) f)
      (each_always (λ f. GoesOn cmp matching (Any cmp matching) g f (heard_all cmp g.moment (messages_for f.number ss) f)) (λ f. goes_heard g g.moment (messages_for f.number ss) f (each_message_for cmp LeavesLocals f.number ss leaves)) g.faces)
      inside

  -- what is said leaves interests
  pub says_leaving : (rule : Rows K → List (ℕ × Message K)) → ((g : Rows K) → Each (λ s. LeavesLocals s.1) (rule g)) → KeepsPart cmp matching (Say rule)
  says_leaving rule leaves = λ g inside. hears_leaving (rule g) g (leaves g) inside

  pub each_leaving : (rule : Rows K → Face K → List (Message K)) → ((g : Rows K) (f : Face K) → Each LeavesLocals (rule g f)) → KeepsPart cmp matching (Say (λ g. to_each (rule g) g.faces))
  each_leaving rule leaves = says_leaving (λ g. to_each (rule g) g.faces) (λ g. each_ruled LeavesLocals (rule g) g.faces (leaves g))

  pub one_leaving : (n : ℕ) (rule : Rows K → Face K → List (Message K)) → ((g : Rows K) (f : Face K) → Each LeavesLocals (rule g f)) → KeepsPart cmp matching (Say (λ g. to_face n (rule g) g))
  one_leaving n rule leaves = says_leaving (λ g. to_face n (rule g) g) (λ g. each_ruled_one LeavesLocals n (rule g) g (leaves g))

  -- ---- what gateways say

  abbrev Leaving : List (Message K) → Type 0
  Leaving ms = Each LeavesLocals ms

  each_alike : {A : Type 0} (say : A → Message K) (xs : List A) → ((x : A) → LeavesLocals (say x)) → Leaving (map say xs)
  each_alike say xs h = each_map LeavesLocals say xs (each_always (λ x. LeavesLocals (say x)) h xs)

  pub leaving_tell : (g : Rows K) (source : Region) (e : K) (f : Face K) → Leaving (tell_to cmp matching g source e f)
  unfolding tell_to
  leaving_tell g source e f = of_cond Leaving (is_told cmp matching g source e f) (message.DeclareToken f.next e None 0 ∷ []) [] (λ _. (tt, tt)) (λ _. tt)

  pub leaving_forget : (g : Rows K) (source : Region) (e : K) (f : Face K) → Leaving (forget_to cmp matching g source e f)
  unfolding forget_to
  leaving_forget g source e f = by_test (is_routed g f || is_visible cmp g f.region e) (λ here. rw here tt) (λ here. rw here (cases (told_id cmp e f.told)))
    where
      cases : (o : Option ℕ) → (let ms : List (Message K) = elim o [ None ↦ forget_untold cmp matching g source e f | Some id ↦ message.UndeclareToken id None 0 ∷ [] ] in Leaving ms)
      cases None = of_cond Leaving (wants matching f e && (hat_of_face g f).undeclares_untold && shows g.mode f.region source) (message.UndeclareToken 0 (Some e) 0 ∷ []) [] (λ _. (tt, tt)) (λ _. tt)
      cases (Some id) = (tt, tt)

  pub leaving_answers : (next : ℕ) (told : ById K) (mode : InterestMode) (id : ℕ) (es : List K) → Leaving (answers_from cmp matching next told mode id es)
  unfolding answers_from
  leaving_answers next told mode id [] = tt
  leaving_answers next told mode id (e ∷ es) = by_test (is_future mode) (λ later. rw later (cases (λ k. leaving_answers k told mode id es) (told_id cmp e told))) (λ now_. rw now_ (tt, leaving_answers next told mode id es))
    where
      cases : ((k : ℕ) → Leaving (answers_from cmp matching k told mode id es)) → (o : Option ℕ)
          → (let ms : List (Message K) = elim o [ None ↦ message.DeclareToken next e (Some id) 0 ∷ answers_from cmp matching (next + 1) told mode id es | Some old ↦ message.DeclareToken old e (Some id) 0 ∷ answers_from cmp matching next told mode id es ] in Leaving ms)
      cases more None = (tt, more (next + 1))
      cases more (Some old) = (tt, more next)

  pub leaving_answer : (n id : ℕ) (e : K) (f : Face K) → Leaving (answer_to cmp matching n id e f)
  unfolding answer_to
  leaving_answer n id e f =
      each_flat_map LeavesLocals (λ (row : ℕ × Ask K). if is_answered_by cmp matching n id e row.1 then answers_from cmp matching f.next f.told row.1.interest.mode row.0 (e ∷ []) else []) f.asks
      (λ row. of_cond Leaving (is_answered_by cmp matching n id e row.1) (answers_from cmp matching f.next f.told row.1.interest.mode row.0 (e ∷ [])) [] (λ _. leaving_answers f.next f.told row.1.interest.mode row.0 (e ∷ [])) (λ _. tt))

  pub leaving_untell : (g : Rows K) (f : Face K) → Leaving (untell_to cmp matching g f)
  unfolding untell_to
  leaving_untell g f =
      of_cond Leaving ((hat_of_face g f).is_told_unasked f.region) []
      (flat_map (λ e. elim (told_id cmp e f.told) [ None ↦ [] | Some id ↦ message.UndeclareToken id None 0 ∷ [] ]) (filter (λ e. not (wants matching f e)) (in_key_order cmp (map (λ row. row.1) f.told))))
      (λ _. tt)
      (λ _. each_flat_map LeavesLocals (λ e. elim (told_id cmp e f.told) [ None ↦ [] | Some id ↦ message.UndeclareToken id None 0 ∷ [] ]) (filter (λ e. not (wants matching f e)) (in_key_order cmp (map (λ row. row.1) f.told))) (λ e. one (told_id cmp e f.told)))
    where
      one : (o : Option ℕ) → (let ms : List (Message K) = elim o [ None ↦ [] | Some id ↦ message.UndeclareToken id None 0 ∷ [] ] in Leaving ms)
      one None = tt
      one (Some id) = (tt, tt)

  pub leaving_final : (id : ℕ) (f : Face K) → Leaving (final_of id f)
  leaving_final id f = cases (at_id id f.asks)
    where
      by_pendings : (ps : List (ℕ × ℕ)) → (let ms : List (Message K) = elim ps [ [] ↦ message.DeclareFinal id ∷ [] | pending ∷ pendings ↦ [] ] in Leaving ms)
      by_pendings [] = (tt, tt)
      by_pendings (p ∷ ps) = tt

      cases : (o : Option (Ask K)) → (let ms : List (Message K) = elim o [ None ↦ [] | Some ask ↦ elim ask.pendings [ [] ↦ message.DeclareFinal id ∷ [] | pending ∷ pendings ↦ [] ] ] in Leaving ms)
      cases None = tt
      cases (Some ask) = by_pendings ask.pendings

  pub leaving_final_of_both : (id : ℕ) (interest : InterestRow K) (f : Face K) → Leaving (final_of_both id interest f)
  leaving_final_of_both id interest f = of_cond Leaving (is_current interest.mode && is_some_and (at_id id f.asks) (λ ask. is_future ask.interest.mode)) (message.DeclareFinal id ∷ []) [] (λ _. (tt, tt)) (λ _. tt)

  pub leaving_finish : (g : Rows K) (n id : ℕ) (f : Face K) → Leaving (finish_to g n id f)
  unfolding finish_to
  leaving_finish g n id f = each_alike (λ row. message.DeclareFinal row.0) (filter (λ row. is_finished_by g n id row.1) f.asks) (λ row. tt)

  pub leaving_entities : (g : Rows K) (id : ℕ) (interest : InterestRow K) (f : Face K) → Leaving (entities_for cmp matching g id interest f)
  leaving_entities g id interest f = each_entity cmp LeavesLocals (λ number e i. tt) (λ number e info i. tt) matching g id interest f

  -- ---- trees

  leaving_pass : (g : Rows K) (region : Region) (source : Zid) (e : K) (f : Face K) → Leaving (pass_to cmp g region source e f)
  unfolding pass_to
  leaving_pass g region source e f = of_cond Leaving (region_eq f.region region && is_child g (table_of g region) source f) (message.DeclareToken 0 e None (node_of source (table_of g region)) ∷ []) [] (λ _. (tt, tt)) (λ _. tt)

  leaving_unpass : (g : Rows K) (region : Region) (source : Zid) (e : K) (f : Face K) → Leaving (unpass_to cmp g region source e f)
  unfolding unpass_to
  leaving_unpass g region source e f = of_cond Leaving (region_eq f.region region && is_child g (table_of g region) source f) (message.UndeclareToken 0 (Some e) (node_of source (table_of g region)) ∷ []) [] (λ _. (tt, tt)) (λ _. tt)

  pub leaving_show : (g : Rows K) (source : Region) (e : K) (f : Face K) → Leaving (show_to cmp g source e f)
  unfolding show_to
  leaving_show g source e f = of_cond Leaving (is_newly_shown cmp g source e f.region) (pass_to cmp g f.region g.zid e f) [] (λ _. leaving_pass g f.region g.zid e f) (λ _. tt)

  pub leaving_hide : (g : Rows K) (source : Region) (e : K) (f : Face K) → Leaving (hide_to cmp g source e f)
  unfolding hide_to
  leaving_hide g source e f = of_cond Leaving (is_hidden cmp g source e f.region) (unpass_to cmp g f.region g.zid e f) [] (λ _. leaving_unpass g f.region g.zid e f) (λ _. tt)

  pub leaving_greet : (g : Rows K) (region : Region) (before : Trees) (f : Face K) → Leaving (greet_to cmp g region before f)
  unfolding greet_to
  leaving_greet g region before f =
      let t = table_of g region in
      let greets = λ (r : ℕ × Zid). if region_eq f.region region && (is_child g t r.1 f && not (is_child g before r.1 f)) then map (λ e. message.DeclareToken 0 e None r.0) (routed_expressions cmp g region r.1) else [] in
      each_flat_map LeavesLocals greets (routers_in_order cmp t)
      (λ r. of_cond Leaving (region_eq f.region region && (is_child g t r.1 f && not (is_child g before r.1 f))) (map (λ e. message.DeclareToken 0 e None r.0) (routed_expressions cmp g region r.1)) []
      (λ _. each_alike (λ e. message.DeclareToken 0 e None r.0) (routed_expressions cmp g region r.1) (λ e. tt)) (λ _. tt))
