use Rattle.zt_laws.proofs.ToldFrom.{told_by_call, told_by_opening}
use Rattle.zt_laws.proofs.messages.calls_tell_by_messages_alone.Goals as goal

pub returns : goal.returns
returns g c = record {
  standing = λ call rows n before after ordered was is. told_by_call g.K.Ord.cmp g.K.Key.matching g.met.K.Ord.total call rows n before after ordered was is;
  opened = λ call rows n id e after ordered was is. told_by_opening g.K.Ord.cmp g.K.Key.matching g.met.K.Ord.total call rows n id e after ordered was is;
}
