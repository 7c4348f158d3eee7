-- The two ways in which an interest in queryables is answered.
use Rattle.std.proofs.Common.{◌≡◌, ℕ, Bool, true, false, List, ap, map}
use Rattle.std.specs.List.{flat_map}
use Rattle.std.specs.Option.{option_to_list}
use Rattle.std.specs.declared.cmp.Ordering.{Ordering}
use Rattle.zt_protocol.specs.Interest.{has_aggregate}
use Rattle.zt_protocol.specs.declared.messages.QueryableInfo.{QueryableInfo}
use Rattle.zt_model.specs.Entities.{aggregate_of, all_merged, info_of, matching_queryables, queryable_of, queryables_for}
use Rattle.zt_model.specs.Lists.{in_key_order}
use Rattle.zt_model.specs.Rows.{Face, InterestRow, Rows}

module _ {K : Type 0} (cmp : K → K → Ordering) (matching : K → K → Bool) (g : Rows K) (id : ℕ) (interest : InterestRow K) (f : Face K) where
  pub answered_together : (found : List (K × QueryableInfo)) → found ≡ matching_queryables cmp matching g interest f → has_aggregate interest.options ≡ true
      → aggregate_of cmp interest.expr (all_merged (map (λ q. q.1) found)) (queryable_of cmp g id) ≡ queryables_for cmp matching g id interest f
  unfolding queryables_for
  answered_together found same so =
      rw so (ap (λ qs. aggregate_of cmp interest.expr (all_merged (map (λ q. q.1) qs)) (queryable_of cmp g id)) same)

  pub answered_each : (found : List (K × QueryableInfo)) → found ≡ matching_queryables cmp matching g interest f → has_aggregate interest.options ≡ false
      → flat_map (λ e. map (queryable_of cmp g id e) (option_to_list (info_of cmp e found))) (in_key_order cmp (map (λ q. q.0) found)) ≡ queryables_for cmp matching g id interest f
  unfolding queryables_for
  answered_each found same not_so =
      rw not_so (ap (λ qs. flat_map (λ e. map (queryable_of cmp g id e) (option_to_list (info_of cmp e qs))) (in_key_order cmp (map (λ q. q.0) qs))) same)
