use Rattle.zt_theorem_tree_rest.proofs.Away.{from_above, from_below}
use Rattle.zt_theorem_tree_rest.proofs.messages_go_on_away.Goals as goal

pub returns : goal.returns
returns g c = record {
  above = λ rows n f call sound tree found north comes. from_above g.K.Ord.cmp g.K.Key.matching g.met.K.Ord.total g.met.K.Key.laws.equal_is_same rows sound tree n f call found north comes;
  below = λ rows n f call sound tree found south comes. from_below g.K.Ord.cmp g.K.Key.matching g.met.K.Ord.total g.met.K.Key.laws.equal_is_same rows sound tree n f call found south comes;
}
