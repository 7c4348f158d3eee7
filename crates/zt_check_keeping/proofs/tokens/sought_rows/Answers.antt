use Rattle.zt_check_keeping.proofs.Sought.{expressions_of_part}
use Rattle.zt_check_keeping.proofs.tokens.sought_rows.Goals as goal

pub returns-in-Some : goal.returns-in-Some
returns-in-Some g c = λ gateway. rw c.in-Some.is (expressions_of_part gateway c.in-Some.id c.live_of.result.now c.args.face.now.live c.live_of.ensures)
