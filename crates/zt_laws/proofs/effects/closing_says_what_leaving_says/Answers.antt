use Rattle.zt_laws.proofs.Registering.{closing_routed, closing_says, closing_spares, messages_but_for}
use Rattle.zt_laws.proofs.effects.closing_says_what_leaving_says.Goals as goal

pub returns : goal.returns
returns g c = record {
  leaves = λ n f rows found plain. closing_says g.K.Ord.cmp g.K.Key.matching n f rows found plain;
  others = λ n k ss. messages_but_for g.K.Ord.cmp g.K.Key.matching n k ss;
  routed = λ n f rows found routed_. closing_routed g.K.Ord.cmp g.K.Key.matching n f rows found routed_;
  itself = λ n rows. closing_spares g.K.Ord.cmp g.K.Key.matching n rows;
}
