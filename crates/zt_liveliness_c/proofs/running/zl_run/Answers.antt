use Rattle.std.proofs.Common.{ℕ, List, [], length, Some, refl, sym, ap, ◌∙◌}
use Rattle.zt_fabric.specs.Transcripts.{streams}
use Rattle.zt_liveliness_c.proofs.RunLemmas.{runs_in_memory}
use Rattle.zt_liveliness_c.proofs.running.zl_run.Goals as goal

pub returns : goal.returns
returns c =
    let script = c.args.script.now in
    let text = c.as_slice-text.result.now in
    let run = c.run-answer in
    let left = Some run.new.source in
    let faults = run.new.sink.faults in
    let made = c.new-sink.result in
    let before = streams (Some c.new-source.result) 0 (Some made.text.items) made.faults in
    let after = streams left 0 (Some run.new.sink.text.items) faults in
    let from = ap (λ (l : List ℕ). streams (Some l) 0 (Some made.text.items) made.faults) c.new-source.ensures
    ∙ (ap (λ (t : List ℕ). streams (Some script) 0 (Some t) made.faults) c.new-sink.ensures.text
    ∙ ap (λ (n : ℕ). streams (Some script) 0 (Some []) n) c.new-sink.ensures.faults) in
    let to = ap (λ (t : List ℕ). streams left 0 (Some t) faults) (sym c.as_slice-text.ensures.value) in
    runs_in_memory _ _ _ _ script c.args.out.now c.copy_front.new.to text run.result left before after faults c.copy_front.result (length text) c.status.result
    from to run.ensures.answers run.ensures.faults run.ensures.complete c.copy_front.ensures.count c.copy_front.ensures.copied refl c.status.ensures
