use Rattle.zt_lines.proofs.grammar.grammar_is_read.Goals as goal
use Rattle.zt_lines.proofs.ReadingLaw.{read_exactly, not_utf8_exactly, not_in_grammar_exactly, never_memory}

pub returns-clause-read : goal.returns-clause-read
returns-clause-read g c = λ bytes line. read_exactly g.K.Key.reading bytes line

pub returns-clause-not_utf8 : goal.returns-clause-not_utf8
returns-clause-not_utf8 g c = λ bytes. not_utf8_exactly g.K.Key.reading bytes

pub returns-clause-not_in_grammar : goal.returns-clause-not_in_grammar
returns-clause-not_in_grammar g c = λ bytes. not_in_grammar_exactly g.K.Key.reading bytes

pub returns-clause-memory : goal.returns-clause-memory
returns-clause-memory g c = λ bytes. never_memory g.K.Key.reading bytes
