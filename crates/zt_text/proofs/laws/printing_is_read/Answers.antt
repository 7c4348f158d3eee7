use Rattle.zt_text.proofs.SentLaws.{read_complete, read_sound}
use Rattle.zt_text.proofs.laws.printing_is_read.Goals as goal

pub returns-clause-printed : goal.returns-clause-printed
returns-clause-printed g c = λ bytes sent fits line. read_complete g.K.Ord.cmp g.K.Key.matching g.K.Key.reading g.K.Key.printed g.K.Key.anchored g.met.K.Key.laws bytes sent fits line

pub returns-clause-read : goal.returns-clause-read
returns-clause-read g c = λ spelling bytes sent h. read_sound g.K.Key.reading g.K.Key.printed spelling bytes sent h
