use Rattle.zt_token_index.proofs.hearing.hear_message.Goals as goal

pub returns-in-Some-clause-retold : goal.returns-in-Some-clause-retold
returns-in-Some-clause-retold g c moment = rw (c.in-UndeclareToken.is, c.in-Some.is) (c.untell_expression.ensures.retold 0)
