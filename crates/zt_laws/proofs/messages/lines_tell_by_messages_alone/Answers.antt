use Rattle.zt_model.specs.Fabric.{entry_of}
use Rattle.zt_laws.proofs.AllLines.{in_order_after_line}
use Rattle.zt_laws.proofs.LinesTell.{told_by_line, told_by_making}
use Rattle.zt_laws.proofs.messages.lines_tell_by_messages_alone.Goals as goal

pub returns : goal.returns
returns g c = record {
  standing = λ line s n before after real fine was is.
      told_by_line g.K.Ord.cmp g.K.Key.matching g.met.K.Ord.total line (entry_of g.K.Ord.cmp g.K.Key.matching line s) s n before after real fine (in_order_after_line g.K.Ord.cmp g.K.Key.matching g.met.K.Ord.total line s real fine) was is;
  opened = λ line s n id e after real fine was is.
      told_by_making g.K.Ord.cmp g.K.Key.matching g.met.K.Ord.total line (entry_of g.K.Ord.cmp g.K.Key.matching line s) s n id e after real fine (in_order_after_line g.K.Ord.cmp g.K.Key.matching g.met.K.Ord.total line s real fine) was is;
}
