use Rattle.zt_text.proofs.TranscriptLaws.{numbered_transcripts_apart}
use Rattle.zt_text.proofs.laws.numbered_texts_tell_entries_apart.Goals as goal

pub returns : goal.returns
returns g c = λ es fs one two u v p q h. numbered_transcripts_apart g.K.Ord.cmp g.K.Key.matching g.K.Key.reading g.K.Key.printed g.K.Key.anchored g.met.K.Key.laws es fs one two u v p q h
