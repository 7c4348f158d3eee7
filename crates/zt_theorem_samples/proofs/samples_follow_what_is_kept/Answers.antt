use Rattle.zt_theorem_samples.proofs.Seen.{seen_after, started_seen}
use Rattle.zt_theorem_samples.proofs.Told.{twice_heard}
use Rattle.zt_theorem_samples.proofs.samples_follow_what_is_kept.Goals as goal

pub returns : goal.returns
returns g c =
    let cmp = g.K.Ord.cmp in
    let matching = g.K.Key.matching in
    let total = g.met.K.Ord.total in
    let one = g.met.K.Key.laws.equal_is_same in
    record {
      message = λ s ss n m told e only history once. seen_after cmp matching total one s ss n m told e only history once;
      once = λ n m told once. twice_heard cmp total one n m told once;
      start = λ n id k e told once. started_seen cmp matching total one n id k e told once;
    }
