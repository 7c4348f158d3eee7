use Rattle.std.proofs.Common.{◌∙◌}
use Rattle.zt_lookups.proofs.Numbers.{inserted}
use Rattle.zt_lookups.proofs.dictionary.Dictionary.number.Goals as goal

pub returns : goal.returns
returns g c =
    rw (← c.self.view_is, ← c.in_ok-copy.ensures)
    (c.in_ok-insert.ensures.keys ∙ inserted g.K.Ord.cmp g.met.K.Ord.matches_eq c.in_ok-copy.field-0 c.self.inside.exprs.keys)
