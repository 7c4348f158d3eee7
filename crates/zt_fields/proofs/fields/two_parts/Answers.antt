use Rattle.std.proofs.Common.{sym}
use Rattle.zt_fields.proofs.fields.two_parts.Goals as goal
use Rattle.zt_fields.proofs.FieldLemmas.{two_of_more}

pub returns-in-Some : goal.returns-in-Some
returns-in-Some c =
    rw (c.first_part.ensures, c.in_ok-rest.was, c.first_part-2.ensures, c.in-Some.is)
    (sym (two_of_more c.first_part.result.0.now c.first_part-2.result.0.now c.args.separator c.in-Some.field-0.now))
