use Rattle.zt_check.proofs.VerdictLemmas.{judged_once}
use Rattle.zt_check.proofs.laws.a_claim_has_one_verdict.Goals as goal

pub returns : goal.returns
returns g c asked lines claimed one other small h k =
    judged_once g.K.Ord.cmp g.K.Key.matching g.K.Key.reading g.K.Key.printed g.K.Key.anchored g.met.K.Key.laws asked lines claimed small one other h k
