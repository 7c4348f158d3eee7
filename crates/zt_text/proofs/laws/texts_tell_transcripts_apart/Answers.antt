use Rattle.zt_text.proofs.TranscriptLaws.{transcripts_apart, fronts_apart}
use Rattle.zt_text.proofs.laws.texts_tell_transcripts_apart.Goals as goal

pub returns-clause-whole : goal.returns-clause-whole
returns-clause-whole g c = λ es fs one two p q h. transcripts_apart g.K.Ord.cmp g.K.Key.matching g.K.Key.reading g.K.Key.printed g.K.Key.anchored g.met.K.Key.laws es fs one two p q h

pub returns-clause-front : goal.returns-clause-front
returns-clause-front g c = λ es fs number p q h. fronts_apart g.K.Ord.cmp g.K.Key.matching g.K.Key.reading g.K.Key.printed g.K.Key.anchored g.met.K.Key.laws es fs number p q h
