-- What is known of queryables, by expression.
--     AreKnown cmp found entries     each expression of those found, in key order, with what is known together of its own
use Rattle.std.specs.Prelude.{◌≡◌, List, map}
use Rattle.std.specs.BTreeMap.{is_at}
use Rattle.std.specs.Map.{keys_of, lookup}
use Rattle.std.specs.declared.cmp.Ordering.{Ordering}
use Rattle.zt_protocol.specs.declared.messages.QueryableInfo.{QueryableInfo}
use Rattle.zt_model.specs.Entities.{info_of}
use Rattle.zt_model.specs.Lists.{in_key_order}

pub record AreKnown {K : Type 0} (cmp : K → K → Ordering) (found entries : List (K × QueryableInfo)) : Type 0 where
  pub keys : keys_of entries ≡ in_key_order cmp (map (λ q. q.0) found)
  pub at : (e : K) → lookup (is_at (cmp e)) entries ≡ info_of cmp e found
