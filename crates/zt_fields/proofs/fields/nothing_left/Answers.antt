use Rattle.std.proofs.Common.{sym}
use Rattle.zt_fields.proofs.fields.nothing_left.Goals as goal
use Rattle.zt_fields.proofs.FieldLemmas.{end_of_text}

pub returns-in-Some : goal.returns-in-Some
returns-in-Some g c = rw c.in-Some.is (sym (end_of_text g.separator c.in-Some.field-0.now))
