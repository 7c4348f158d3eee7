use Rattle.zt_theorem_transcript.proofs.Naming.{turns_name_open}
use Rattle.zt_theorem_transcript.proofs.messages_name_open_faces.Goals as goal

pub returns : goal.returns
returns g c = λ lines s real fine. turns_name_open g.K.Ord.cmp g.K.Key.matching g.met.K.Ord.total lines s real fine
