use Rattle.std.proofs.Common.{◌∙◌}
use Rattle.zt_lookups.proofs.Numbers.{copied}
use Rattle.zt_lookups.proofs.dictionary.Dictionary.copy.Goals as goal

pub returns : goal.returns
returns g c =
    rw (← c.self.view_is, ← c.as_slice.ensures.keys)
    (c.in_ok-number_all.ensures ∙ rw (c.new-copy.ensures, c.as_slice.ensures.keys) (copied g.K.Ord.cmp g.met.K.Ord.matches_eq g.met.K.Eq.laws c.self.inside.exprs.keys c.as_slice.ensures.unique))
