use Rattle.zt_check_keeping.proofs.Sought.{concerned_of_part}
use Rattle.zt_check_keeping.proofs.owing.asking_rows.Goals as goal

pub returns-in-Some : goal.returns-in-Some
returns-in-Some g c = λ e. rw c.in-Some.is (concerned_of_part g.K.Ord.cmp g.K.Key.matching c.in-Some.id e c.held_of.result.now c.args.face.now.held c.held_of.ensures)
