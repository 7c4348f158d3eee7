-- The hash of a node's number.
use Rattle.std.specs.Prelude.{ℕ}
use Rattle.std.specs.List.{fold}
use Rattle.std.specs.Hash.DefaultHasher as sip
use Rattle.std.specs.Hash as fed

-- SipHash of the number's bytes
unfoldable pub zid_hash : ℕ → ℕ
zid_hash zid = sip.finish (fold sip.write sip.initial (fed.u128 zid))
