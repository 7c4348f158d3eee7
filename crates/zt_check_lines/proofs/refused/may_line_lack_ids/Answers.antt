use Rattle.std.proofs.Common.{◌≡◌, [], ap, ap₂, ◌∙◌}
use Rattle.std.specs.List.{list_any}
use Rattle.zt_protocol.specs.Plain.{plain_line}
use Rattle.zt_model.specs.Transcript.{fabric_with}
use Rattle.zt_check_lines.specs.Lines.{has_face_that_may_lack}
use Rattle.zt_check_lines.proofs.Causes.{told_same}
use Rattle.zt_check_lines.proofs.refused.may_line_lack_ids.Goals as goal

pub returns : goal.returns
returns g c =
    let cmp = g.K.Ord.cmp in
    let matching = g.K.Key.matching in
    let line = plain_line c.args.line.now in
    let none : c.deref.result.now ≡ [] = c.deref.ensures.value ∙ c.new-unprinted.ensures.items in
    let after = c.in_ok-carry_out.ensures ∙ ap₂ (λ ms s. fabric_with cmp matching line ms s) none c.in_ok-after.ensures in
    told_same c.may_any_lack.result _ _ c.may_any_lack.ensures (ap (λ nodes. list_any (has_face_that_may_lack cmp matching) nodes) (c.gateways.ensures ∙ ap (λ s. s.gateways) after))
