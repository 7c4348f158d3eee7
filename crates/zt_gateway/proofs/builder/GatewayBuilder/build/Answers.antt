use Rattle.std.proofs.Common.{ap, option_map, sym, ◌∙◌}
use Rattle.zt_protocol.specs.declared.errors.CallError.TheVariants.{Refused}
use Rattle.zt_model.specs.Refusals.{first_cause}
use Rattle.zt_refusals.specs.Making.{making_causes}
use Rattle.zt_gateway.proofs.Making.{causes_alone}
use Rattle.zt_gateway.specs.Settings.{Settings}
use Rattle.zt_gateway.proofs.builder.GatewayBuilder.build.Goals as goal

pub returns-in-Some-clause-refused : goal.returns-in-Some-clause-refused
returns-in-Some-clause-refused g c =
    let told = rw (c.as_slice.ensures.value, c.as_slice-2.ensures.value) at c.cause_of_making.ensures in
    ap (option_map Refused)
    (sym (causes_alone g.K.Ord.cmp g.K.Key.matching c.args.self)
    ∙ ap (λ (s : Settings). first_cause (making_causes s.mode s.regions s.refused)) (sym c.self.view_is)
    ∙ sym told
    ∙ c.in-Some.is)

pub returns-in-None-clause-accepted : goal.returns-in-None-clause-accepted
returns-in-None-clause-accepted g c =
    let told = rw (c.as_slice.ensures.value, c.as_slice-2.ensures.value) at c.cause_of_making.ensures in
    sym (causes_alone g.K.Ord.cmp g.K.Key.matching c.args.self)
    ∙ ap (λ (s : Settings). first_cause (making_causes s.mode s.regions s.refused)) (sym c.self.view_is)
    ∙ sym told
    ∙ c.in-None.is
