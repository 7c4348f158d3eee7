-- What gateways say that declares no token: any fact of other messages is one of all that these rules say.
use Rattle.std.proofs.Common.{ℕ, ◌+◌, Bool, ◌&&◌, ◌||◌, not, List, [], ◌∷◌, map, filter, Option, Some, None}
use Rattle.std.specs.List.{flat_map}
use Rattle.std.specs.declared.cmp.Ordering.{Ordering}
use Rattle.zt_region.specs.declared.region.Region.{Region}
use Rattle.zt_region.specs.declared.region.Zid.{Zid}
use Rattle.zt_region.specs.Region.{is_north, region_eq}
use Rattle.zt_protocol.specs.Interest.{is_current}
use Rattle.zt_protocol.specs.declared.interests.InterestMode.{InterestMode}
use Rattle.zt_protocol.specs.declared.interests.InterestOptions.{InterestOptions}
use Rattle.zt_protocol.specs.declared.messages.Message.{Message}
use Rattle.zt_protocol.specs.declared.messages.Message.TheVariants as message
use Rattle.zt_protocol.specs.declared.messages.QueryableInfo.{QueryableInfo}
use Rattle.zt_protocol.specs.Interest.{is_future}
use Rattle.zt_model.specs.Entities.{entities_for}
use Rattle.zt_model.specs.Hat.{hat_of_face}
use Rattle.zt_model.specs.Lists.{at_id, in_key_order, is_some_and}
use Rattle.zt_model.specs.Parts.{told_id}
use Rattle.zt_model.specs.Routing.{asks_same, end_upstream_to, final_of, final_of_both, finish_to, interests_from, is_finished_by, is_held_south, is_target, opening_final, route_to, untell_to}
use Rattle.zt_model.specs.Rows.{Ask, Face, InterestRow, Rows}
use Rattle.zt_model.specs.Says.{forget_to, forget_untold, is_routed}
use Rattle.zt_model.specs.Transcript.{Each}
use Rattle.zt_model.specs.Trees.{hide_to, is_child, is_hidden, node_of, table_of, unpass_to}
use Rattle.zt_model.specs.Visible.{is_visible, shows}
use Rattle.zt_model.specs.Wants.{wants}
use Rattle.zt_laws.proofs.Lists.{by_test, each_always, each_map, of_cond}
use Rattle.zt_laws.proofs.PartsOrder.{each_flat_map}
use Rattle.zt_theorem_soundness.proofs.CallsRun.{each_entity}

-- a fact of every message but declarations of tokens
pub record IsOfOthers {K : Type 0} (N : Message K → Type 0) : Type 0 where
  pub untoken : (id : ℕ) (e : Option K) (node : ℕ) → N (message.UndeclareToken id e node)
  pub final : (id : ℕ) → N (message.DeclareFinal id)
  pub interest : (id : ℕ) (mode : InterestMode) (options : InterestOptions) (e : Option K) → N (message.Interest id mode options e)
  pub interest_final : (id : ℕ) → N (message.InterestFinal id)
  pub subscriber : (number : ℕ) (e : K) (i : ℕ) → N (message.DeclareSubscriber number e i)
  pub queryable : (number : ℕ) (e : K) (info : QueryableInfo) (i : ℕ) → N (message.DeclareQueryable number e info i)

module _ {K : Type 0} (cmp : K → K → Ordering) (matching : K → K → Bool) (N : Message K → Type 0) (others : IsOfOthers N) where
  abbrev Quiet : List (Message K) → Type 0
  Quiet ms = Each N ms

  each_alike : {A : Type 0} (say : A → Message K) (xs : List A) → ((x : A) → N (say x)) → Quiet (map say xs)
  each_alike say xs h = each_map N say xs (each_always (λ x. N (say x)) h xs)

  pub quiet_forget : (g : Rows K) (source : Region) (e : K) (f : Face K) → Quiet (forget_to cmp matching g source e f)
  unfolding forget_to
  quiet_forget g source e f = by_test (is_routed g f || is_visible cmp g f.region e) (λ here. rw here tt) (λ here. rw here (cases (told_id cmp e f.told)))
    where
      cases : (o : Option ℕ) → (let ms : List (Message K) = elim o [ None ↦ forget_untold cmp matching g source e f | Some id ↦ message.UndeclareToken id None 0 ∷ [] ] in Quiet ms)
      cases None = of_cond Quiet (wants matching f e && (hat_of_face g f).undeclares_untold && shows g.mode f.region source) (message.UndeclareToken 0 (Some e) 0 ∷ []) [] (λ _. (others.untoken 0 (Some e) 0, tt)) (λ _. tt)
      cases (Some id) = (others.untoken id None 0, tt)

  pub quiet_untell : (g : Rows K) (f : Face K) → Quiet (untell_to cmp matching g f)
  unfolding untell_to
  quiet_untell g f =
      of_cond Quiet ((hat_of_face g f).is_told_unasked f.region) []
      (flat_map (λ e. elim (told_id cmp e f.told) [ None ↦ [] | Some id ↦ message.UndeclareToken id None 0 ∷ [] ]) (filter (λ e. not (wants matching f e)) (in_key_order cmp (map (λ row. row.1) f.told))))
      (λ _. tt)
      (λ _. each_flat_map N (λ e. elim (told_id cmp e f.told) [ None ↦ [] | Some id ↦ message.UndeclareToken id None 0 ∷ [] ]) (filter (λ e. not (wants matching f e)) (in_key_order cmp (map (λ row. row.1) f.told))) (λ e. one (told_id cmp e f.told)))
    where
      one : (o : Option ℕ) → (let ms : List (Message K) = elim o [ None ↦ [] | Some id ↦ message.UndeclareToken id None 0 ∷ [] ] in Quiet ms)
      one None = tt
      one (Some id) = (others.untoken id None 0, tt)

  pub quiet_final : (id : ℕ) (f : Face K) → Quiet (final_of id f)
  quiet_final id f = cases (at_id id f.asks)
    where
      by_pendings : (ps : List (ℕ × ℕ)) → (let ms : List (Message K) = elim ps [ [] ↦ message.DeclareFinal id ∷ [] | pending ∷ pendings ↦ [] ] in Quiet ms)
      by_pendings [] = (others.final id, tt)
      by_pendings (p ∷ ps) = tt

      cases : (o : Option (Ask K)) → (let ms : List (Message K) = elim o [ None ↦ [] | Some ask ↦ elim ask.pendings [ [] ↦ message.DeclareFinal id ∷ [] | pending ∷ pendings ↦ [] ] ] in Quiet ms)
      cases None = tt
      cases (Some ask) = by_pendings ask.pendings

  pub quiet_final_of_both : (id : ℕ) (interest : InterestRow K) (f : Face K) → Quiet (final_of_both id interest f)
  quiet_final_of_both id interest f = of_cond Quiet (is_current interest.mode && is_some_and (at_id id f.asks) (λ ask. is_future ask.interest.mode)) (message.DeclareFinal id ∷ []) [] (λ _. (others.final id, tt)) (λ _. tt)

  pub quiet_finish : (g : Rows K) (n id : ℕ) (f : Face K) → Quiet (finish_to g n id f)
  unfolding finish_to
  quiet_finish g n id f = each_alike (λ row. message.DeclareFinal row.0) (filter (λ row. is_finished_by g n id row.1) f.asks) (λ row. others.final row.0)

  pub quiet_end_upstream : (g : Rows K) (interest : InterestRow K) (f : Face K) → Quiet (end_upstream_to cmp matching g interest f)
  unfolding end_upstream_to
  quiet_end_upstream g interest f =
      of_cond Quiet (is_north f.region && not (is_held_south cmp matching g interest)) (map (λ row. message.InterestFinal row.0) (filter (λ row. asks_same cmp matching interest row.1) f.locals)) []
      (λ _. each_alike (λ row. message.InterestFinal row.0) (filter (λ row. asks_same cmp matching interest row.1) f.locals) (λ row. others.interest_final row.0)) (λ _. tt)

  pub quiet_route : (g : Rows K) (asker : Region) (interest : InterestRow K) (f : Face K) → Quiet (route_to g asker interest f)
  unfolding route_to
  quiet_route g asker interest f = of_cond Quiet (is_target g asker interest.mode f) (message.Interest f.next interest.mode interest.options interest.expr ∷ []) [] (λ _. (others.interest f.next interest.mode interest.options interest.expr, tt)) (λ _. tt)

  pub quiet_interests : (next : ℕ) (is : List (InterestRow K)) → Quiet (interests_from next is)
  unfolding interests_from
  quiet_interests next [] = tt
  quiet_interests next (i ∷ is) = (others.interest next i.mode i.options i.expr, quiet_interests (next + 1) is)

  pub quiet_opening_final : (f : Face K) → Quiet (opening_final cmp matching f)
  quiet_opening_final f = cases f.initial
    where
      cases : (o : Option Bool) → (let ms : List (Message K) = elim o [ None ↦ [] | Some finalised ↦ message.DeclareFinal 0 ∷ [] ] in Quiet ms)
      cases None = tt
      cases (Some finalised) = (others.final 0, tt)

  pub quiet_entities : (g : Rows K) (id : ℕ) (interest : InterestRow K) (f : Face K) → Quiet (entities_for cmp matching g id interest f)
  quiet_entities g id interest f = each_entity cmp N others.subscriber others.queryable matching g id interest f

  pub quiet_unpass : (g : Rows K) (region : Region) (source : Zid) (e : K) (f : Face K) → Quiet (unpass_to cmp g region source e f)
  unfolding unpass_to
  quiet_unpass g region source e f = of_cond Quiet (region_eq f.region region && is_child g (table_of g region) source f) (message.UndeclareToken 0 (Some e) (node_of source (table_of g region)) ∷ []) [] (λ _. (others.untoken 0 (Some e) (node_of source (table_of g region)), tt)) (λ _. tt)

  pub quiet_hide : (g : Rows K) (source : Region) (e : K) (f : Face K) → Quiet (hide_to cmp g source e f)
  unfolding hide_to
  quiet_hide g source e f = of_cond Quiet (is_hidden cmp g source e f.region) (unpass_to cmp g f.region g.zid e f) [] (λ _. quiet_unpass g f.region g.zid e f) (λ _. tt)
