use Rattle.std.proofs.Common.{sym}
use Rattle.zt_check_keeping.proofs.Beside.{equal-from, kept-beside}
use Rattle.zt_check_keeping.proofs.keeping.heard_is_kept_beside.Goals as goal

pub returns-then-is_among_changed : goal.returns-then-is_among_changed
returns-then-is_among_changed g c =
    sym (kept-beside g.K.Ord.cmp g.K.Key.matching (λ a b t. g.met.K.Key.laws.equal_is_same a b (equal-from _ t)) c.args.bound c.args.fabric.now c.args.token.now c.args.changed.now c.requires
    (c.is_among_changed.ensures c.if-is_among_changed.true))
