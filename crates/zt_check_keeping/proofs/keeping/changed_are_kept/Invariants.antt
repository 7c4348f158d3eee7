use Rattle.std.proofs.Common.{◌≡◌, drop}
use Rattle.std.specs.List.{list_all}
use Rattle.zt_check_keeping.specs.Keeping.{at_gateway, faces_keep_rightly}
use Rattle.zt_check_keeping.proofs.keeping.changed_are_kept.Given as goal

-- all so far do
abbrev pub invariant-loop-token : goal.invariant-loop-token
invariant-loop-token g l =
    list_all (λ t. at_gateway l.fabric t.0 (λ rows. faces_keep_rightly g.K.Ord.cmp g.K.Key.matching l.bound rows t.1)) (drop l.token-index l.tokens)
    ≡ list_all (λ t. at_gateway l.fabric t.0 (λ rows. faces_keep_rightly g.K.Ord.cmp g.K.Key.matching l.bound rows t.1)) l.tokens
