-- What each call leaves is what its parts run to.
use Rattle.std.proofs.Common.{◌≡◌, ℕ, ◌+◌, Bool, not, if◌then◌else◌, ◌&&◌, ◌==◌, List, [], ◌∷◌, ◌++◌, map, filter, Option, Some, None, refl, sym, ap, ◌∙◌}
use Rattle.std.specs.List.{flat_map, list_any}
use Rattle.std.specs.Option.{option_to_list}
use Rattle.std.specs.declared.cmp.Ordering.{Ordering}
use Rattle.zt_region.specs.declared.region.Region.{Region}
use Rattle.zt_region.specs.declared.region.Zid.{Zid}
use Rattle.zt_region.specs.Region.{region_eq, zid_eq}
use Rattle.zt_protocol.specs.Interest.{has_aggregate, has_queryables, has_subscribers, is_current, is_future}
use Rattle.zt_protocol.specs.Plain.{PlainCall, NewSession, NewTransport, DeclareToken, UndeclareToken, Interest, InterestFinal, DeclareFinal, CloseFace, Expire, SetTrees, SetEntities, Trees}
use Rattle.zt_protocol.specs.declared.messages.Message.{Message}
use Rattle.zt_protocol.specs.declared.messages.Message.TheVariants as message
use Rattle.zt_protocol.specs.declared.messages.QueryableInfo.{QueryableInfo}
use Rattle.zt_model.specs.Closing.{closing, is_expired, leaving, without_asks, without_face}
use Rattle.zt_model.specs.Entities.{aggregate_of, all_merged, entities_for, info_of, matching_queryables, matching_subscribers, number_of, numbered_by, queryable_of, queryables_for, subscriber_of, subscribers_for, with_entities, with_numbers}
use Rattle.zt_model.specs.Hat.{hat_of}
use Rattle.zt_model.specs.Hearing.{heard, heard_all, messages_for, rows_heard}
use Rattle.zt_model.specs.Lists.{at_id, first_of, has_id, in_key_order, same}
use Rattle.zt_model.specs.Parts.{unsaid_to}
use Rattle.zt_model.specs.Routing.{asked_as, end_upstream_to, ended, ending, final_of, final_of_both, finalising, finish_to, finishing, initial_finalised, interests_from, is_target, opened, opening_final, opening_interests, opening_tokens, route_to, sent_as, tokens_from, unheld, untell_to}
use Rattle.zt_model.specs.Rows.{Face, InterestRow, RoutedRow, Rows}
use Rattle.zt_model.specs.Says.{Alter, Part, Say, altered_by, answering, answers_of, asking, declaring, declaring_of, finalising_held, find_face, forget_to, hiding_undeclared, is_routed, opened_session, parts_of, registered, registers, row_of, said_by, tell_to, to_each, to_face, undeclared, undeclaring, undeclaring_of, unregistered, with_face}
use Rattle.zt_model.specs.Telling.{answer_to}
use Rattle.zt_model.specs.Transcript.{Each}
use Rattle.zt_model.specs.Trees.{changing_table, counted_table, greet_to, hide_to, hiding, is_hidden, is_newly_shown, left_out, pass_to, router_regions, show_to, showing, source_of, table_of, unpass_to, with_own_rows, with_routed, with_table, without_left_out, without_own_rows, without_routed}
use Rattle.zt_model.specs.Visible.{is_visible, live_rows, rows_of_face, shows}
use Rattle.zt_laws.specs.Sound.{rows_after_call}
use Rattle.zt_laws.proofs.Faces.{carried}
use Rattle.zt_laws.proofs.Hearing.{each_ruled, each_ruled_one, heard_all-live, heard_all-region, rows_heard_nothing}
use Rattle.zt_laws.proofs.Lists.{each_always, each_append, each_filter, each_map, filter_alike, of_cond}
use Rattle.zt_laws.proofs.PartsOrder.{each_flat_map}
use Rattle.zt_laws.proofs.Silent.{silent_end_upstream, silent_final_of_both, silent_finish, silent_forget, silent_greet, silent_hide, silent_unpass, silent_untell}
use Rattle.zt_laws.proofs.ToldOrder.{DrawsNothing}
use Rattle.zt_laws.proofs.Visible.{flat_map_map, live_rows_alike, rows_of_face_alike}
use Rattle.zt_theorem_soundness.specs.Ran.{ran}
use Rattle.zt_theorem_soundness.proofs.Running.{Exchanges, IsExchanged, carried_is_ran, carried_then_says, exchange_face, exchange_filter, exchange_routed, said_is_ran}

module _ {K : Type 0} (cmp : K → K → Ordering) where
  -- hearing leaves the live rows
  pub live_rows_heard : (ss : List (ℕ × Message K)) (g : Rows K) → live_rows (rows_heard cmp ss g) ≡ live_rows g
  unfolding rows_heard
  live_rows_heard ss g =
      let hears = λ (f : Face K). heard_all cmp g.moment (messages_for f.number ss) f in
      live_rows_alike g (map hears g.faces)
      (flat_map_map rows_of_face hears g.faces
      (each_always (λ f. rows_of_face (hears f) ≡ rows_of_face f)
      (λ f. rows_of_face_alike (hears f) f (heard_all-region cmp g.moment (messages_for f.number ss) f) (heard_all-live cmp g.moment (messages_for f.number ss) f)) g.faces))

  -- ---- kinds of messages

  -- any message
  abbrev Any : Message K → Type 0
  Any m = Unit {0}

  -- the message changes no ask
  abbrev pub LeavesAsks : Message K → Type 0
  LeavesAsks (message.DeclareToken id e None node) = Unit {0}
  LeavesAsks (message.DeclareToken id e (Some interest) node) = ⊥
  LeavesAsks (message.DeclareFinal interest) = ⊥
  LeavesAsks _ = Unit {0}

  -- a change of one face that looks at live rows alone, and so on: what hearing leaves may be changed before or after it
  pub registered_exchanged : (P : Message K → Type 0) (n id : ℕ) (e : K) → Exchanges cmp P (with_face n (registered id e))
  registered_exchanged P n id e = exchange_face cmp P n (registered id e) (λ f. refl) (λ now m f _. one now m f)
    where
      one : (now : ℕ) (m : Message K) (f : Face K) → heard cmp now m (registered id e f) ≡ registered id e (heard cmp now m f)
      one now (message.DeclareToken token k interest node) f = refl
      one now (message.UndeclareToken token k node) f = refl
      one now (message.DeclareFinal interest) f = refl
      one now (message.Interest i mode options k) f = refl
      one now (message.InterestFinal i) f = refl
      one now (message.DeclareSubscriber i k interest) f = refl
      one now (message.DeclareQueryable i k info interest) f = refl

  pub unregistered_exchanged : (P : Message K → Type 0) (n id : ℕ) → Exchanges cmp P (with_face n (unregistered id))
  unregistered_exchanged P n id = exchange_face cmp P n (unregistered id) (λ f. refl) (λ now m f _. one now m f)
    where
      one : (now : ℕ) (m : Message K) (f : Face K) → heard cmp now m (unregistered id f) ≡ unregistered id (heard cmp now m f)
      one now (message.DeclareToken token k interest node) f = refl
      one now (message.UndeclareToken token k node) f = refl
      one now (message.DeclareFinal interest) f = refl
      one now (message.Interest i mode options k) f = refl
      one now (message.InterestFinal i) f = refl
      one now (message.DeclareSubscriber i k interest) f = refl
      one now (message.DeclareQueryable i k info interest) f = refl

  unheld_exchanged : (P : Message K → Type 0) (n id : ℕ) → Exchanges cmp P (with_face n (unheld id))
  unheld_exchanged P n id = exchange_face cmp P n (unheld id) (λ f. refl) (λ now m f _. one now m f)
    where
      one : (now : ℕ) (m : Message K) (f : Face K) → heard cmp now m (unheld id f) ≡ unheld id (heard cmp now m f)
      one now (message.DeclareToken token k interest node) f = refl
      one now (message.UndeclareToken token k node) f = refl
      one now (message.DeclareFinal interest) f = refl
      one now (message.Interest i mode options k) f = refl
      one now (message.InterestFinal i) f = refl
      one now (message.DeclareSubscriber i k interest) f = refl
      one now (message.DeclareQueryable i k info interest) f = refl

  ended_exchanged : (n id : ℕ) → Exchanges cmp DrawsNothing (with_face n (ended id))
  ended_exchanged n id = exchange_face cmp DrawsNothing n (ended id) (λ f. refl) (λ now m f nothing. one now m f nothing)
    where
      one : (now : ℕ) (m : Message K) (f : Face K) → DrawsNothing m → heard cmp now m (ended id f) ≡ ended id (heard cmp now m f)
      one now (message.DeclareToken token k interest node) f nothing = refl
      one now (message.UndeclareToken token k node) f nothing = refl
      one now (message.DeclareFinal interest) f nothing = refl
      one now (message.Interest i mode options k) f nothing = absurd nothing
      one now (message.InterestFinal i) f nothing = refl
      one now (message.DeclareSubscriber i k interest) f nothing = refl
      one now (message.DeclareQueryable i k info interest) f nothing = refl

  asks_dropped_exchanged : (n : ℕ) → Exchanges cmp DrawsNothing (with_face n without_asks)
  asks_dropped_exchanged n = exchange_face cmp DrawsNothing n without_asks (λ f. refl) (λ now m f nothing. one now m f nothing)
    where
      one : (now : ℕ) (m : Message K) (f : Face K) → DrawsNothing m → heard cmp now m (without_asks f) ≡ without_asks (heard cmp now m f)
      one now (message.DeclareToken token k None node) f nothing = refl
      one now (message.DeclareToken token k (Some interest) node) f nothing = refl
      one now (message.UndeclareToken token k node) f nothing = refl
      one now (message.DeclareFinal interest) f nothing = refl
      one now (message.Interest i mode options k) f nothing = absurd nothing
      one now (message.InterestFinal i) f nothing = refl
      one now (message.DeclareSubscriber i k interest) f nothing = refl
      one now (message.DeclareQueryable i k info interest) f nothing = refl

  asked_exchanged : (pendings : List (ℕ × ℕ)) (n id : ℕ) (interest : InterestRow K) → Exchanges cmp LeavesAsks (with_face n (asked_as pendings id interest))
  asked_exchanged pendings n id interest = exchange_face cmp LeavesAsks n (asked_as pendings id interest) (λ f. refl) (λ now m f leaves. one now m f leaves)
    where
      one : (now : ℕ) (m : Message K) (f : Face K) → LeavesAsks m → heard cmp now m (asked_as pendings id interest f) ≡ asked_as pendings id interest (heard cmp now m f)
      one now (message.DeclareToken token k None node) f leaves = refl
      one now (message.DeclareToken token k (Some i) node) f leaves = absurd leaves
      one now (message.UndeclareToken token k node) f leaves = refl
      one now (message.DeclareFinal i) f leaves = absurd leaves
      one now (message.Interest i mode options k) f leaves = refl
      one now (message.InterestFinal i) f leaves = refl
      one now (message.DeclareSubscriber i k j) f leaves = refl
      one now (message.DeclareQueryable i k info j) f leaves = refl

  -- ---- the gateway's own lists

  with_routed_exchanged : (P : Message K → Type 0) (region : Region) (source : Zid) (e : K) → Exchanges cmp P (with_routed cmp region source e)
  unfolding with_routed rows_heard
  with_routed_exchanged P region source e = λ ss g all. refl

  without_routed_exchanged : (P : Message K → Type 0) (region : Region) (source : Zid) (e : K) → Exchanges cmp P (without_routed cmp region source e)
  unfolding without_routed rows_heard
  without_routed_exchanged P region source e = λ ss g all. refl

  left_out_exchanged : (P : Message K → Type 0) (region : Region) (t : Trees) → Exchanges cmp P (without_left_out cmp region t)
  unfolding rows_heard
  left_out_exchanged P region t = λ ss g all. refl

  table_exchanged : (P : Message K → Type 0) (region : Region) (t : Trees) → Exchanges cmp P (with_table cmp region t)
  unfolding rows_heard
  table_exchanged P region t = λ ss g all. refl

  numbers_exchanged : (P : Message K → Type 0) (es : List K) → Exchanges cmp P (with_numbers cmp es)
  unfolding rows_heard
  numbers_exchanged P es = λ ss g all. refl

  without_face_exchanged : (P : Message K → Type 0) (n : ℕ) → Exchanges cmp P (without_face n)
  without_face_exchanged P n = exchange_filter cmp P (λ k. not (n == k))

  own_rows_alike : (rs : List Region) (e : K) (g : Rows K) (fs : List (Face K)) → with_own_rows cmp rs e (record g { faces = fs }) ≡ record (with_own_rows cmp rs e g) { faces = fs }
  unfolding with_own_rows with_routed
  own_rows_alike [] e g fs = refl
  own_rows_alike (r ∷ rs) e g fs = own_rows_alike rs e (with_routed cmp r g.zid e g) fs

  pub own_rows_leave : {A : Type 0} (part : Rows K → A) → ((g : Rows K) (rows : List (RoutedRow K)) → part (record g { routed = rows }) ≡ part g) → (rs : List Region) (e : K) (g : Rows K) → part (with_own_rows cmp rs e g) ≡ part g
  unfolding with_own_rows with_routed
  own_rows_leave part one [] e g = refl
  own_rows_leave part one (r ∷ rs) e g = own_rows_leave part one rs e (with_routed cmp r g.zid e g) ∙ one g (with_routed cmp r g.zid e g).routed

  showing_exchanged : (P : Message K → Type 0) (source : Region) (e : K) → Exchanges cmp P (λ g. with_own_rows cmp (filter (is_newly_shown cmp g source e) (router_regions g)) e g)
  unfolding rows_heard is_newly_shown
  showing_exchanged P source e = λ ss g all.
      let rs = filter (is_newly_shown cmp g source e) (router_regions g) in
      let h = with_own_rows cmp rs e g in
      let faces_ : h.faces ≡ g.faces = own_rows_leave (λ (k : Rows K). k.faces) (λ k rows. refl) rs e g in
      let moment_ : h.moment ≡ g.moment = own_rows_leave (λ (k : Rows K). k.moment) (λ k rows. refl) rs e g in
      ap (λ (fs : List (Face K)). record h { faces = map (λ f. heard_all cmp h.moment (messages_for f.number ss) f) fs }) faces_
      ∙ ap (λ now. record h { faces = map (λ f. heard_all cmp now (messages_for f.number ss) f) g.faces }) moment_
      ∙ sym (own_rows_alike rs e g (map (λ f. heard_all cmp g.moment (messages_for f.number ss) f) g.faces))

  pub visible_heard : (ss : List (ℕ × Message K)) (g : Rows K) (own : Region) (x : K) → is_visible cmp (rows_heard cmp ss g) own x ≡ is_visible cmp g own x
  unfolding is_visible rows_heard
  visible_heard ss g own x = ap (list_any (λ row. same cmp x row.1 && shows g.mode own row.0)) (live_rows_heard ss g)

  hiding_exchanged : (P : Message K → Type 0) (source : Region) (e : K) → Exchanges cmp P (without_own_rows cmp source e)
  unfolding without_own_rows is_hidden rows_heard
  hiding_exchanged P source e = exchange_routed cmp P (λ g. (without_own_rows cmp source e g).routed) same_
    where
      same_ : (ss : List (ℕ × Message K)) (g : Rows K) → (without_own_rows cmp source e (rows_heard cmp ss g)).routed ≡ (without_own_rows cmp source e g).routed
      same_ ss g =
          filter_alike (λ row. not (zid_eq row.source g.zid && (same cmp e row.expr && is_hidden cmp (rows_heard cmp ss g) source e row.region))) (λ row. not (zid_eq row.source g.zid && (same cmp e row.expr && is_hidden cmp g source e row.region))) g.routed
          (each_always (λ row. not (zid_eq row.source g.zid && (same cmp e row.expr && is_hidden cmp (rows_heard cmp ss g) source e row.region)) ≡ not (zid_eq row.source g.zid && (same cmp e row.expr && is_hidden cmp g source e row.region)))
          (λ row. ap (λ b. not (zid_eq row.source g.zid && (same cmp e row.expr && ((hat_of g.mode row.region).goes_by_trees && (not (region_eq row.region source) && not b))))) (visible_heard ss g row.region e)) g.routed)

  -- ---- what entities are answered with

  module _ (P : Message K → Type 0) (subscribers_ : (number : ℕ) (k : K) (id : ℕ) → P (message.DeclareSubscriber number k id)) (queryables_ : (number : ℕ) (k : K) (info : QueryableInfo) (id : ℕ) → P (message.DeclareQueryable number k info id)) where
    each_made : {A : Type 0} (make : A → Message K) (xs : List A) → ((x : A) → P (make x)) → Each P (map make xs)
    each_made make xs h = each_map P make xs (each_always (λ x. P (make x)) h xs)

    each_aggregate : {A : Type 0} (expr : Option K) (found : Option A) (declare : K → A → Message K) → ((k : K) (x : A) → P (declare k x)) → Each P (aggregate_of cmp expr found declare)
    each_aggregate None found declare h = tt
    each_aggregate (Some k) None declare h = tt
    each_aggregate (Some k) (Some x) declare h = (h k x, tt)

    module _ (matching : K → K → Bool) where
      each_subscriber : (g : Rows K) (id : ℕ) (interest : InterestRow K) (f : Face K) → Each P (subscribers_for cmp matching g id interest f)
      unfolding subscribers_for
      each_subscriber g id interest f =
          let found = matching_subscribers cmp matching g interest f in
          of_cond (Each P) (has_aggregate interest.options) (aggregate_of cmp interest.expr (first_of found) (λ k e. subscriber_of cmp g id k)) (map (subscriber_of cmp g id) (in_key_order cmp found))
          (λ _. each_aggregate interest.expr (first_of found) (λ k e. subscriber_of cmp g id k) (λ k e. subscribers_ (number_of cmp g k) k id))
          (λ _. each_made (subscriber_of cmp g id) (in_key_order cmp found) (λ e. subscribers_ (number_of cmp g e) e id))

      each_queryable : (g : Rows K) (id : ℕ) (interest : InterestRow K) (f : Face K) → Each P (queryables_for cmp matching g id interest f)
      unfolding queryables_for
      each_queryable g id interest f =
          let found = matching_queryables cmp matching g interest f in
          let each_info = λ (e : K). map (queryable_of cmp g id e) (option_to_list (info_of cmp e found)) in
          of_cond (Each P) (has_aggregate interest.options) (aggregate_of cmp interest.expr (all_merged (map (λ q. q.1) found)) (queryable_of cmp g id)) (flat_map each_info (in_key_order cmp (map (λ q. q.0) found)))
          (λ _. each_aggregate interest.expr (all_merged (map (λ q. q.1) found)) (queryable_of cmp g id) (λ k x. queryables_ (number_of cmp g k) k x id))
          (λ _. each_flat_map P each_info (in_key_order cmp (map (λ q. q.0) found)) (λ e. each_made (queryable_of cmp g id e) (option_to_list (info_of cmp e found)) (λ x. queryables_ (number_of cmp g e) e x id)))

      pub each_entity : (g : Rows K) (id : ℕ) (interest : InterestRow K) (f : Face K) → Each P (entities_for cmp matching g id interest f)
      unfolding entities_for
      each_entity g id interest f =
          let subscribers = if has_subscribers interest.options then subscribers_for cmp matching g id interest f else [] in
          let queryables = if has_queryables interest.options then queryables_for cmp matching g id interest f else [] in
          of_cond (Each P) (is_current interest.mode && is_future interest.mode) (subscribers ++ queryables) []
          (λ _. each_append P subscribers queryables
          (of_cond (Each P) (has_subscribers interest.options) (subscribers_for cmp matching g id interest f) [] (λ _. each_subscriber g id interest f) (λ _. tt))
          (of_cond (Each P) (has_queryables interest.options) (queryables_for cmp matching g id interest f) [] (λ _. each_queryable g id interest f) (λ _. tt)))
          (λ _. tt)

  -- ---- the parts of calls

  module _ (matching : K → K → Bool) where
    abbrev Silent : Part K → Type 0
    Silent = IsExchanged cmp DrawsNothing

    hiding_runs : (source : Region) (e : K) → Each Silent (hiding cmp source e)
    hiding_runs source e = (λ g. each_ruled DrawsNothing (hide_to cmp g source e) g.faces (silent_hide cmp matching g source e), (hiding_exchanged DrawsNothing source e, tt))

    forget_runs : (source : Region) (e : K) → Silent (Say (λ g. to_each (forget_to cmp matching g source e) g.faces))
    forget_runs source e = λ g. each_ruled DrawsNothing (forget_to cmp matching g source e) g.faces (silent_forget cmp matching g source e)

    undeclaring_runs : (n id : ℕ) (given : Option K) (f : Face K) → Each Silent (undeclaring cmp matching n id given f)
    undeclaring_runs n id given f = cases (undeclared cmp matching id given f)
      where
        cases : (o : Option K) → Each Silent (elim o [ None ↦ [] | Some e ↦ Alter (with_face n (unregistered id)) ∷ Say (λ g. to_each (forget_to cmp matching g f.region e) g.faces) ∷ [] ])
        cases None = tt
        cases (Some e) = (unregistered_exchanged DrawsNothing n id, (forget_runs f.region e, tt))

    hiding_undeclared_runs : (id : ℕ) (given : Option K) (f : Face K) → Each Silent (hiding_undeclared cmp matching id given f)
    hiding_undeclared_runs id given f = cases (undeclared cmp matching id given f)
      where
        cases : (o : Option K) → Each Silent (elim o [ None ↦ [] | Some e ↦ hiding cmp f.region e ])
        cases None = tt
        cases (Some e) = hiding_runs f.region e

    finalising_runs : (n id : ℕ) (interest : InterestRow K) → Each Silent (finalising cmp matching n id interest)
    finalising_runs n id interest = (unheld_exchanged DrawsNothing n id, (λ g. each_ruled_one DrawsNothing n (untell_to cmp matching g) g (silent_untell cmp matching g), (λ g. each_ruled_one DrawsNothing n (final_of_both id interest) g (silent_final_of_both id interest), (λ g. each_ruled DrawsNothing (end_upstream_to cmp matching g interest) g.faces (silent_end_upstream cmp matching g interest), tt))))

    ending_runs : (n id : ℕ) → Each Silent (ending n id)
    ending_runs n id = (ended_exchanged n id, (λ g. each_ruled DrawsNothing (finish_to g n id) g.faces (silent_finish g n id), tt))

    unsaid_runs : (n : ℕ) (parts : List (Part K)) → Each Silent parts → Each Silent (unsaid_to n parts)
    unfolding unsaid_to
    unsaid_runs n [] silent = tt
    unsaid_runs n (Alter change ∷ parts) silent = (silent.0, unsaid_runs n parts silent.1)
    unsaid_runs n (Say rule ∷ parts) silent = (λ g. each_filter (λ s. DrawsNothing s.1) (λ s. not (n == s.0)) (rule g) (silent.0 g), unsaid_runs n parts silent.1)

    leaving_runs : (n : ℕ) (f : Face K) → Each Silent (leaving cmp matching n f)
    leaving_runs n f =
        let undeclares = λ (row : ℕ × K). undeclaring cmp matching n row.0 None f ++ hiding cmp f.region row.1 in
        let finalises = λ (row : ℕ × InterestRow K). finalising cmp matching n row.0 row.1 in
        let ends = flat_map (λ row. ending n row.0) f.pendings in
        each_append Silent (flat_map undeclares f.live ++ flat_map finalises f.held) (Alter (with_face n without_asks) ∷ ends)
        (each_append Silent (flat_map undeclares f.live) (flat_map finalises f.held)
        (each_flat_map Silent undeclares f.live (λ row. each_append Silent (undeclaring cmp matching n row.0 None f) (hiding cmp f.region row.1) (undeclaring_runs n row.0 None f) (hiding_runs f.region row.1)))
        (each_flat_map Silent finalises f.held (λ row. finalising_runs n row.0 row.1)))
        (asks_dropped_exchanged n, each_flat_map Silent (λ row. ending n row.0) f.pendings (λ row. ending_runs n row.0))

    closing_runs : (n : ℕ) (g : Rows K) (f : Face K) → Each Silent (closing cmp matching n g f)
    closing_runs n g f =
        let parts : List (Part K) = if is_routed g f then [] else unsaid_to n (leaving cmp matching n f) in
        each_append Silent parts (Alter (without_face n) ∷ [])
        (of_cond (Each Silent) (is_routed g f) [] (unsaid_to n (leaving cmp matching n f)) (λ _. tt) (λ _. unsaid_runs n (leaving cmp matching n f) (leaving_runs n f)))
        (without_face_exchanged DrawsNothing n, tt)

    undeclaring_of_runs : (n : ℕ) (source : Option Zid) (given : Option K) (f : Face K) → Each Silent (undeclaring_of cmp matching n source given f)
    undeclaring_of_runs n None given f = tt
    undeclaring_of_runs n (Some source) None f = tt
    undeclaring_of_runs n (Some source) (Some e) f =
        (without_routed_exchanged DrawsNothing f.region source e, (λ g. each_filter (λ s. DrawsNothing s.1) (λ s. not (n == s.0)) (to_each (unpass_to cmp g f.region source e) g.faces) (each_ruled DrawsNothing (unpass_to cmp g f.region source e) g.faces (silent_unpass cmp matching g f.region source e)), (forget_runs f.region e, hiding_runs f.region e)))

    changing_runs : (region : Region) (t : Trees) (g : Rows K) → Each Silent (changing_table cmp matching region t g)
    changing_runs region t g =
        let counted = counted_table t in
        let forgets = λ (e : K). Say (λ h. to_each (forget_to cmp matching h region e) h.faces) ∷ hiding cmp region e in (
          left_out_exchanged DrawsNothing region counted,
          each_append Silent (flat_map forgets (left_out cmp region counted g)) _
              (each_flat_map Silent forgets (left_out cmp region counted g) (λ e. (forget_runs region e, hiding_runs region e)))
              (table_exchanged DrawsNothing region t, (λ h. each_ruled DrawsNothing (greet_to cmp h region (table_of g region)) h.faces (silent_greet cmp matching h region (table_of g region)), tt)),
        )

    -- ---- parts that tell

    abbrev Anything : Part K → Type 0
    Anything = IsExchanged cmp Any

    any_said : (rule : Rows K → List (ℕ × Message K)) → Anything (Say rule)
    any_said rule = λ g. each_always (λ s. Any s.1) (λ s. tt) (rule g)

    showing_runs : (source : Region) (e : K) → Each Anything (showing cmp source e)
    showing_runs source e = (any_said (λ g. to_each (show_to cmp g source e) g.faces), (showing_exchanged Any source e, tt))

    declaring_of_runs : (n : ℕ) (source : Option Zid) (e : K) (f : Face K) → Each Anything (declaring_of cmp matching n source e f)
    declaring_of_runs n None e f = tt
    declaring_of_runs n (Some source) e f =
        (with_routed_exchanged Any f.region source e, (any_said (λ g. filter (λ s. not (n == s.0)) (to_each (pass_to cmp g f.region source e) g.faces)), (any_said (λ g. to_each (tell_to cmp matching g f.region e) g.faces), showing_runs f.region e)))

    answering_runs : (n : ℕ) (interest : Option ℕ) (e : K) (f : Face K) → Each Anything (answering cmp matching n interest e f)
    answering_runs n None e f = tt
    answering_runs n (Some id) e f = of_cond (Each Anything) (has_id id f.pendings) (Say (λ g. to_each (answer_to cmp matching n id e) g.faces) ∷ []) [] (λ _. (any_said (λ g. to_each (answer_to cmp matching n id e) g.faces), tt)) (λ _. tt)

    declaring_runs : (n id : ℕ) (e : K) (f : Face K) → Each Anything (declaring cmp matching n id e f)
    declaring_runs n id e f = (registered_exchanged Any n id e, (any_said (λ g. to_each (tell_to cmp matching g f.region e) g.faces), tt))

    declared_runs : (n id : ℕ) (e : K) (node : ℕ) (interest : Option ℕ) (g : Rows K) (f : Face K) → Each Anything (if is_routed g f then declaring_of cmp matching n (source_of g f node) e f else answering cmp matching n interest e f ++ (if registers f interest then declaring cmp matching n id e f ++ showing cmp f.region e else []))
    declared_runs n id e node interest g f =
        of_cond (Each Anything) (is_routed g f) (declaring_of cmp matching n (source_of g f node) e f) (answering cmp matching n interest e f ++ (if registers f interest then declaring cmp matching n id e f ++ showing cmp f.region e else []))
        (λ _. declaring_of_runs n (source_of g f node) e f)
        (λ _. each_append Anything (answering cmp matching n interest e f) (if registers f interest then declaring cmp matching n id e f ++ showing cmp f.region e else []) (answering_runs n interest e f)
        (of_cond (Each Anything) (registers f interest) (declaring cmp matching n id e f ++ showing cmp f.region e) []
        (λ _. each_append Anything (declaring cmp matching n id e f) (showing cmp f.region e) (declaring_runs n id e f) (showing_runs f.region e)) (λ _. tt)))

    -- ---- interests

    pub route_leaves : (g : Rows K) (asker : Region) (interest : InterestRow K) (f : Face K) → Each LeavesAsks (route_to g asker interest f)
    unfolding route_to
    route_leaves g asker interest f = of_cond (Each LeavesAsks) (is_target g asker interest.mode f) (message.Interest f.next interest.mode interest.options interest.expr ∷ []) [] (λ _. (tt, tt)) (λ _. tt)

    asking_runs : (n id : ℕ) (interest : InterestRow K) (asker : Region) (g h : Rows K) → carried cmp matching (asking cmp matching n id interest asker g) h ≡ ran cmp (asking cmp matching n id interest asker g) h
    asking_runs n id interest asker g h =
        carried_then_says cmp matching LeavesAsks
        (Alter (with_numbers cmp (numbered_by cmp interest)) ∷ Say (λ k. to_each (route_to k asker interest) k.faces) ∷ Say (λ k. to_face n (entities_for cmp matching k id interest) k) ∷ Alter (with_face n (asked_as (sent_as g asker interest.mode) id interest)) ∷ [])
        (Say (λ k. to_face n (answers_of cmp matching k id interest) k) ∷ Say (to_face n (final_of id)) ∷ [])
        h (
          numbers_exchanged LeavesAsks (numbered_by cmp interest),
          (
            λ k. each_ruled LeavesAsks (route_to k asker interest) k.faces (route_leaves k asker interest),
            (
              λ k. each_ruled_one LeavesAsks n (entities_for cmp matching k id interest) k (each_entity LeavesAsks (λ number e i. tt) (λ number e info i. tt) matching k id interest),
              (asked_exchanged (sent_as g asker interest.mode) n id interest, tt),
            ),
          ),
        )
        (tt, (tt, tt))

    -- ---- calls

    -- the face that a call names
    by_face : (G : List (Part K) → Type 0) (n : ℕ) (g : Rows K) (parts : Face K → List (Part K)) → G [] → ((f : Face K) → G (parts f)) → G (elim (find_face n g) [ None ↦ [] | Some f ↦ parts f ])
    by_face G n g parts nothing found = cases (find_face n g)
      where
        cases : (o : Option (Face K)) → G (elim o [ None ↦ [] | Some f ↦ parts f ])
        cases None = nothing
        cases (Some f) = found f

    abbrev Runs : Rows K → List (Part K) → Type 0
    Runs g parts = carried cmp matching parts g ≡ ran cmp parts g

    silent_runs : (g : Rows K) (parts : List (Part K)) → Each Silent parts → Runs g parts
    silent_runs g parts silent = carried_is_ran cmp matching DrawsNothing parts g silent

    -- What a call leaves is what its parts run to.
    pub call_runs : (c : PlainCall K) (g : Rows K) → rows_after_call cmp matching c g ≡ ran cmp (parts_of cmp matching c g) g
    unfolding parts_of said_by altered_by ran
    call_runs (NewSession first) g = rows_heard_nothing cmp (opened_session first g)
    call_runs (NewTransport zid whatami region bound first) g =
        said_is_ran cmp matching (Say (λ h. to_face (g.made + 1) (λ f. interests_from f.next (opening_interests cmp matching h f)) h) ∷ Say (λ h. to_face (g.made + 1) (λ f. tokens_from f.next (opening_tokens cmp matching h f)) h) ∷ Say (to_face (g.made + 1) (opening_final cmp matching)) ∷ [])
        (opened zid whatami region bound first g) (tt, (tt, (tt, tt)))
    call_runs (DeclareToken n id e node interest) g =
        by_face (Runs g) n g (λ f. if is_routed g f then declaring_of cmp matching n (source_of g f node) e f else answering cmp matching n interest e f ++ (if registers f interest then declaring cmp matching n id e f ++ showing cmp f.region e else []))
        (rows_heard_nothing cmp g) (λ f. carried_is_ran cmp matching Any _ g (declared_runs n id e node interest g f))
    call_runs (UndeclareToken n id given node) g =
        by_face (Runs g) n g (λ f. if is_routed g f then undeclaring_of cmp matching n (source_of g f node) given f else undeclaring cmp matching n id given f ++ hiding_undeclared cmp matching id given f)
        (rows_heard_nothing cmp g)
        (λ f. silent_runs g _
        (of_cond (Each Silent) (is_routed g f) (undeclaring_of cmp matching n (source_of g f node) given f) (undeclaring cmp matching n id given f ++ hiding_undeclared cmp matching id given f)
        (λ _. undeclaring_of_runs n (source_of g f node) given f)
        (λ _. each_append Silent (undeclaring cmp matching n id given f) (hiding_undeclared cmp matching id given f) (undeclaring_runs n id given f) (hiding_undeclared_runs id given f))))
    call_runs (Interest n id mode options e) g = by_face (Runs g) n g (λ f. asking cmp matching n id (row_of cmp matching f mode options e) f.region g) (rows_heard_nothing cmp g) (λ f. asking_runs n id (row_of cmp matching f mode options e) f.region g g)
    call_runs (InterestFinal n id) g = by_face (Runs g) n g (λ f. finalising_held cmp matching n id f) (rows_heard_nothing cmp g) (λ f. silent_runs g _ (finals (at_id id f.held)))
      where
        finals : (o : Option (InterestRow K)) → Each Silent (elim o [ None ↦ [] | Some interest ↦ finalising cmp matching n id interest ])
        finals None = tt
        finals (Some interest) = finalising_runs n id interest
    call_runs (DeclareFinal n id) g = by_face (Runs g) n g (λ f. finishing n id f) (rows_heard_nothing cmp g) (λ f. finishing_runs f)
      where
        finishing_runs : (f : Face K) → carried cmp matching (finishing n id f) g ≡ ran cmp (finishing n id f) g
        finishing_runs f =
            let h = with_face n (initial_finalised id) g in
            let parts : List (Part K) = if has_id id f.pendings then ending n id else [] in
            silent_runs h parts (of_cond (Each Silent) (has_id id f.pendings) (ending n id) [] (λ _. ending_runs n id) (λ _. tt))
    call_runs (CloseFace n) g = by_face (Runs g) n g (λ f. closing cmp matching n g f) (rows_heard_nothing cmp g) (λ f. silent_runs g _ (closing_runs n g f))
    call_runs (Expire now) g =
        let ends : List (Part K) = flat_map (λ f. flat_map (λ row. ending f.number row.0) (filter (is_expired now g.timeout) f.pendings)) g.faces in
        silent_runs (record g { moment = now }) ends
        (each_flat_map Silent (λ f. flat_map (λ row. ending f.number row.0) (filter (is_expired now g.timeout) f.pendings)) g.faces
        (λ f. each_flat_map Silent (λ row. ending f.number row.0) (filter (is_expired now g.timeout) f.pendings) (λ row. ending_runs f.number row.0)))
    call_runs (SetTrees region t) g = silent_runs g (changing_table cmp matching region t g) (changing_runs region t g)
    call_runs (SetEntities n subscribers queryables) g = rows_heard_nothing cmp (with_entities cmp n subscribers queryables g)
