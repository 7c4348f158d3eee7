use Rattle.zt_faces.proofs.Times.{put-kept}
use Rattle.zt_faces.proofs.by_time.note_in.Goals as goal

pub returns-clause-kept : goal.returns-clause-kept
returns-clause-kept c = put-kept c.args.timed c.args.rows.now.keys c.insert.new.self.keys c.in_ok-insert.ensures.updates.0
