-- What gateways say without drawing an id: all but telling, answering and sending interests on.
use Rattle.std.proofs.Common.{ℕ, Bool, not, if◌then◌else◌, ◌&&◌, ◌||◌, List, [], ◌∷◌, ◌++◌, map, filter, Option, Some, None, refl}
use Rattle.std.specs.List.{flat_map}
use Rattle.std.specs.Option.{option_to_list}
use Rattle.std.specs.declared.cmp.Ordering.{Ordering}
use Rattle.zt_region.specs.declared.region.Region.{Region}
use Rattle.zt_region.specs.declared.region.Zid.{Zid}
use Rattle.zt_region.specs.Region.{is_north, region_eq}
use Rattle.zt_protocol.specs.Interest.{has_aggregate, has_queryables, has_subscribers, is_current, is_future}
use Rattle.zt_protocol.specs.Plain.{Trees}
use Rattle.zt_protocol.specs.declared.messages.Message.{Message}
use Rattle.zt_protocol.specs.declared.messages.Message.TheVariants.{DeclareToken, UndeclareToken, DeclareFinal, Interest, InterestFinal}
use Rattle.zt_model.specs.Entities.{aggregate_of, all_merged, entities_for, info_of, matching_queryables, matching_subscribers, queryable_of, queryables_for, subscriber_of, subscribers_for}
use Rattle.zt_model.specs.Hat.{hat_of_face}
use Rattle.zt_model.specs.Lists.{at_id, first_of, in_key_order, is_some_and}
use Rattle.zt_model.specs.Routing.{asks_same, end_upstream_to, final_of, final_of_both, finish_to, is_finished_by, is_held_south, is_target, opening_final, route_to, untell_to}
use Rattle.zt_model.specs.Rows.{Ask, Face, InterestRow, Rows}
use Rattle.zt_model.specs.Says.{forget_to, forget_untold, is_routed, told_id}
use Rattle.zt_model.specs.Transcript.{Each}
use Rattle.zt_model.specs.Trees.{greet_to, hide_to, is_child, is_hidden, is_newly_shown, node_of, pass_to, routed_expressions, routers_in_order, show_to, table_of, unpass_to}
use Rattle.zt_model.specs.Visible.{is_visible, shows}
use Rattle.zt_model.specs.Wants.{wants}
use Rattle.zt_laws.proofs.Lists.{by_test, each_always, each_append, each_map, of_cond}
use Rattle.zt_laws.proofs.PartsOrder.{each_flat_map}
use Rattle.zt_laws.proofs.ToldOrder.{DrawsNothing, TellsNothing}

module _ {K : Type 0} where
  abbrev pub DrawNothing : List (Message K) → Type 0
  DrawNothing ms = Each DrawsNothing ms

  each_alike : {A : Type 0} (message : A → Message K) (xs : List A) → ((x : A) → DrawsNothing (message x)) → DrawNothing (map message xs)
  each_alike message xs h = each_map DrawsNothing message xs (each_always (λ x. DrawsNothing (message x)) h xs)

  pub silent_final : (id : ℕ) (f : Face K) → DrawNothing (final_of id f)
  silent_final id f = cases (at_id id f.asks)
    where
      by_pendings : (ps : List (ℕ × ℕ)) → (let ms : List (Message K) = elim ps [ [] ↦ DeclareFinal id ∷ [] | pending ∷ pendings ↦ [] ] in DrawNothing ms)
      by_pendings [] = (tt, tt)
      by_pendings (p ∷ ps) = tt

      cases : (o : Option (Ask K)) → (let ms : List (Message K) = elim o [ None ↦ [] | Some ask ↦ elim ask.pendings [ [] ↦ DeclareFinal id ∷ [] | pending ∷ pendings ↦ [] ] ] in DrawNothing ms)
      cases None = tt
      cases (Some ask) = by_pendings ask.pendings

  pub silent_final_of_both : (id : ℕ) (interest : InterestRow K) (f : Face K) → DrawNothing (final_of_both id interest f)
  silent_final_of_both id interest f =
      of_cond DrawNothing (is_current interest.mode && is_some_and (at_id id f.asks) (λ ask. is_future ask.interest.mode)) (DeclareFinal id ∷ []) [] (λ _. (tt, tt)) (λ _. tt)

  pub silent_route : (g : Rows K) (asker : Region) (interest : InterestRow K) (f : Face K) → Each TellsNothing (route_to g asker interest f)
  unfolding route_to
  silent_route g asker interest f = of_cond (Each TellsNothing) (is_target g asker interest.mode f) (Interest f.next interest.mode interest.options interest.expr ∷ []) [] (λ _. (tt, tt)) (λ _. tt)

  pub silent_finish : (g : Rows K) (n id : ℕ) (f : Face K) → DrawNothing (finish_to g n id f)
  unfolding finish_to
  silent_finish g n id f = each_alike (λ row. DeclareFinal row.0) (filter (λ row. is_finished_by g n id row.1) f.asks) (λ row. tt)

module _ {K : Type 0} (cmp : K → K → Ordering) (matching : K → K → Bool) where
  silent_untold : (g : Rows K) (source : Region) (e : K) (f : Face K) → DrawNothing (forget_untold cmp matching g source e f)
  silent_untold g source e f =
      of_cond DrawNothing (wants matching f e && (hat_of_face g f).undeclares_untold && shows g.mode f.region source) (UndeclareToken 0 (Some e) 0 ∷ []) [] (λ _. (tt, tt)) (λ _. tt)

  pub silent_forget : (g : Rows K) (source : Region) (e : K) (f : Face K) → DrawNothing (forget_to cmp matching g source e f)
  unfolding forget_to
  silent_forget g source e f =
      by_test (is_routed g f || is_visible cmp g f.region e) (λ here. rw here tt) (λ here. rw here (cases (told_id cmp e f.told)))
    where
      cases : (o : Option ℕ) → (let ms : List (Message K) = elim o [ None ↦ forget_untold cmp matching g source e f | Some id ↦ UndeclareToken id None 0 ∷ [] ] in DrawNothing ms)
      cases None = silent_untold g source e f
      cases (Some id) = (tt, tt)

  pub silent_untell : (g : Rows K) (f : Face K) → DrawNothing (untell_to cmp matching g f)
  unfolding untell_to
  silent_untell g f =
      of_cond DrawNothing ((hat_of_face g f).is_told_unasked f.region) []
      (flat_map (λ e. elim (told_id cmp e f.told) [ None ↦ [] | Some id ↦ UndeclareToken id None 0 ∷ [] ]) (filter (λ e. not (wants matching f e)) (in_key_order cmp (map (λ row. row.1) f.told))))
      (λ _. tt)
      (λ _. each_flat_map DrawsNothing (λ e. elim (told_id cmp e f.told) [ None ↦ [] | Some id ↦ UndeclareToken id None 0 ∷ [] ]) (filter (λ e. not (wants matching f e)) (in_key_order cmp (map (λ row. row.1) f.told))) (λ e. one (told_id cmp e f.told)))
    where
      one : (o : Option ℕ) → (let ms : List (Message K) = elim o [ None ↦ [] | Some id ↦ UndeclareToken id None 0 ∷ [] ] in DrawNothing ms)
      one None = tt
      one (Some id) = (tt, tt)

  pub silent_end_upstream : (g : Rows K) (interest : InterestRow K) (f : Face K) → DrawNothing (end_upstream_to cmp matching g interest f)
  unfolding end_upstream_to
  silent_end_upstream g interest f =
      of_cond DrawNothing (is_north f.region && not (is_held_south cmp matching g interest)) (map (λ row. InterestFinal row.0) (filter (λ row. asks_same cmp matching interest row.1) f.locals)) []
      (λ _. each_alike (λ row. InterestFinal row.0) (filter (λ row. asks_same cmp matching interest row.1) f.locals) (λ row. tt)) (λ _. tt)

  pub silent_opening_final : (f : Face K) → DrawNothing (opening_final cmp matching f)
  silent_opening_final f = cases f.initial
    where
      cases : (o : Option Bool) → (let ms : List (Message K) = elim o [ None ↦ [] | Some finalised ↦ DeclareFinal 0 ∷ [] ] in DrawNothing ms)
      cases None = tt
      cases (Some finalised) = (tt, tt)

  -- ---- entities

  silent_aggregate : {A : Type 0} (expr : Option K) (found : Option A) (declare : K → A → Message K) → ((k : K) (x : A) → DrawsNothing (declare k x)) → DrawNothing (aggregate_of cmp expr found declare)
  silent_aggregate None found declare h = tt
  silent_aggregate (Some k) None declare h = tt
  silent_aggregate (Some k) (Some x) declare h = (h k x, tt)

  silent_subscribers : (g : Rows K) (id : ℕ) (interest : InterestRow K) (f : Face K) → DrawNothing (subscribers_for cmp matching g id interest f)
  unfolding subscribers_for
  silent_subscribers g id interest f =
      let found = matching_subscribers cmp matching g interest f in
      of_cond DrawNothing (has_aggregate interest.options) (aggregate_of cmp interest.expr (first_of found) (λ k e. subscriber_of cmp g id k)) (map (subscriber_of cmp g id) (in_key_order cmp found))
      (λ _. silent_aggregate interest.expr (first_of found) (λ k e. subscriber_of cmp g id k) (λ k e. tt))
      (λ _. each_alike (subscriber_of cmp g id) (in_key_order cmp found) (λ e. tt))

  silent_queryables : (g : Rows K) (id : ℕ) (interest : InterestRow K) (f : Face K) → DrawNothing (queryables_for cmp matching g id interest f)
  unfolding queryables_for
  silent_queryables g id interest f =
      let found = matching_queryables cmp matching g interest f in
      let each_info = λ (e : K). map (queryable_of cmp g id e) (option_to_list (info_of cmp e found)) in
      of_cond DrawNothing (has_aggregate interest.options) (aggregate_of cmp interest.expr (all_merged (map (λ q. q.1) found)) (queryable_of cmp g id)) (flat_map each_info (in_key_order cmp (map (λ q. q.0) found)))
      (λ _. silent_aggregate interest.expr (all_merged (map (λ q. q.1) found)) (queryable_of cmp g id) (λ k x. tt))
      (λ _. each_flat_map DrawsNothing each_info (in_key_order cmp (map (λ q. q.0) found)) (λ e. each_alike (queryable_of cmp g id e) (option_to_list (info_of cmp e found)) (λ x. tt)))

  pub silent_entities : (g : Rows K) (id : ℕ) (interest : InterestRow K) (f : Face K) → DrawNothing (entities_for cmp matching g id interest f)
  unfolding entities_for
  silent_entities g id interest f =
      let subscribers = if has_subscribers interest.options then subscribers_for cmp matching g id interest f else [] in
      let queryables = if has_queryables interest.options then queryables_for cmp matching g id interest f else [] in
      of_cond DrawNothing (is_current interest.mode && is_future interest.mode) (subscribers ++ queryables) []
      (λ _. each_append DrawsNothing subscribers queryables
      (of_cond DrawNothing (has_subscribers interest.options) (subscribers_for cmp matching g id interest f) [] (λ _. silent_subscribers g id interest f) (λ _. tt))
      (of_cond DrawNothing (has_queryables interest.options) (queryables_for cmp matching g id interest f) [] (λ _. silent_queryables g id interest f) (λ _. tt)))
      (λ _. tt)

  -- ---- trees

  pub silent_pass : (g : Rows K) (region : Region) (source : Zid) (e : K) (f : Face K) → DrawNothing (pass_to cmp g region source e f)
  unfolding pass_to
  silent_pass g region source e f =
      of_cond DrawNothing (region_eq f.region region && is_child g (table_of g region) source f) (DeclareToken 0 e None (node_of source (table_of g region)) ∷ []) [] (λ _. (refl, tt)) (λ _. tt)

  pub silent_unpass : (g : Rows K) (region : Region) (source : Zid) (e : K) (f : Face K) → DrawNothing (unpass_to cmp g region source e f)
  unfolding unpass_to
  silent_unpass g region source e f =
      of_cond DrawNothing (region_eq f.region region && is_child g (table_of g region) source f) (UndeclareToken 0 (Some e) (node_of source (table_of g region)) ∷ []) [] (λ _. (tt, tt)) (λ _. tt)

  pub silent_show : (g : Rows K) (source : Region) (e : K) (f : Face K) → DrawNothing (show_to cmp g source e f)
  unfolding show_to
  silent_show g source e f = of_cond DrawNothing (is_newly_shown cmp g source e f.region) (pass_to cmp g f.region g.zid e f) [] (λ _. silent_pass g f.region g.zid e f) (λ _. tt)

  pub silent_hide : (g : Rows K) (source : Region) (e : K) (f : Face K) → DrawNothing (hide_to cmp g source e f)
  unfolding hide_to
  silent_hide g source e f = of_cond DrawNothing (is_hidden cmp g source e f.region) (unpass_to cmp g f.region g.zid e f) [] (λ _. silent_unpass g f.region g.zid e f) (λ _. tt)

  pub silent_greet : (g : Rows K) (region : Region) (before : Trees) (f : Face K) → DrawNothing (greet_to cmp g region before f)
  unfolding greet_to
  silent_greet g region before f =
      let t = table_of g region in
      let greets = λ (r : ℕ × Zid). if region_eq f.region region && (is_child g t r.1 f && not (is_child g before r.1 f)) then map (λ e. DeclareToken 0 e None r.0) (routed_expressions cmp g region r.1) else [] in
      each_flat_map DrawsNothing greets (routers_in_order cmp t)
      (λ r. of_cond DrawNothing (region_eq f.region region && (is_child g t r.1 f && not (is_child g before r.1 f))) (map (λ e. DeclareToken 0 e None r.0) (routed_expressions cmp g region r.1)) []
      (λ _. each_alike (λ e. DeclareToken 0 e None r.0) (routed_expressions cmp g region r.1) (λ e. refl)) (λ _. tt))
