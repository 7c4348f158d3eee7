use Rattle.std.proofs.Common.{◌<◌, ltb, refl, arith}
use Rattle.std.proofs.lemmas.Bool.{ltb-true, ltb-false}
use Rattle.zt_keys.specs.Test.{by_test}
use Rattle.zt_keys.proofs.Folds.{ends-start, ends-slash}
use Rattle.zt_keys.proofs.numbers.last_chunk.Goals as goal

pub returns : goal.returns
returns c =
    let text = c.args.text.now in
    let start = c.last_start.result in
    let found = c.last_start.ensures in
    by_test (ltb 0 start)
    (λ e. let l : 0 < start = ltb-true 0 start e in ends-slash text start l found.within (rw (found.slash l) refl) found.slashless)
    (λ e. ends-start text start (ltb-false 0 start e) found.slashless)
