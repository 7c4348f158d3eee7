use Rattle.zt_fields.proofs.fields.first_part.Goals as goal
use Rattle.zt_fields.proofs.FieldLemmas.{part_at_separator, one_part}

pub returns-in-Some : goal.returns-in-Some
returns-in-Some c = part_at_separator c.args.separator c.args.text.now c.in-Some.before.now c.in-Some.after.now (c.in-Some.ensures.byte c.requires (λ w o f. f))

pub returns-in-None : goal.returns-in-None
returns-in-None c = one_part c.args.separator c.args.text.now (c.in-None.ensures.byte c.requires (λ w o f. f))
