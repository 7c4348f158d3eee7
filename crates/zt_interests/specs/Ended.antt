-- Where an interest ends upstream.
--     ended_at i f     what a face to the north is sent that was sent the interest
use Rattle.std.specs.Prelude.{Bool, if◌then◌else◌, List, [], filter, map}
use Rattle.std.specs.declared.cmp.Ordering.{Ordering}
use Rattle.zt_region.specs.Region.{is_north}
use Rattle.zt_protocol.specs.declared.messages.Message.{Message}
use Rattle.zt_protocol.specs.declared.messages.Message.TheVariants as message
use Rattle.zt_model.specs.Routing.{asks_same}
use Rattle.zt_model.specs.Rows.{Face, InterestRow}

module _ {K : Type 0} (cmp : K → K → Ordering) (matching : K → K → Bool) where
  abbrev pub ended_at : InterestRow K → Face K → List (Message K)
  ended_at i f = if is_north f.region then map (λ row. message.InterestFinal row.0) (filter (λ row. asks_same cmp matching i row.1) f.locals) else []
