use Rattle.std.proofs.Common.{◌≡◌, drop}
use Rattle.std.specs.List.{list_all}
use Rattle.zt_check_keeping.specs.Keeping.{heard_is_kept}
use Rattle.zt_check_keeping.proofs.keeping.heard_are_kept.Given as goal

-- all so far do
abbrev pub invariant-loop-token : goal.invariant-loop-token
invariant-loop-token g l =
    list_all (heard_is_kept g.K.Ord.cmp g.K.Key.matching l.bound l.fabric) (drop l.token-index l.tokens)
    ≡ list_all (heard_is_kept g.K.Ord.cmp g.K.Key.matching l.bound l.fabric) l.tokens
