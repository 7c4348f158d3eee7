use Rattle.std.proofs.Common.{ap, ◌∙◌}
use Rattle.zt_breaks.specs.Sentences.{breaks_text}
use Rattle.zt_explaining.proofs.explaining.explained.Goals as goal

pub returns-clause-told : goal.returns-clause-told
returns-clause-told g c =
    (c.in-Ok.explanation.breaks.items, c.in-Ok.ensures.led, c.in-Ok-print_breaks.ensures ∙ ap (breaks_text g.K.Key.printed) c.deref.ensures.value)
