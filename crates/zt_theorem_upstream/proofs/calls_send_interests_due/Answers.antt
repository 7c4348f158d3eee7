use Rattle.zt_theorem_upstream.proofs.Sending.{call_sends, opening_sends}
use Rattle.zt_theorem_upstream.proofs.calls_send_interests_due.Goals as goal

pub returns : goal.returns
returns g c = record {
  each = λ gateway call rows still ordered. call_sends g.K.Ord.cmp g.K.Key.matching g.met.K.Ord.total g.met.K.Key.laws.equal_is_same gateway call rows still ordered;
  opening = λ gateway zid whatami region bound first rows real ordered. opening_sends g.K.Ord.cmp g.K.Key.matching g.met.K.Ord.total g.met.K.Key.laws.equal_is_same gateway zid whatami region bound first rows real ordered;
}
