use Rattle.zt_engine.proofs.ReadBack.{read_back, received, same_message}
use Rattle.zt_engine.proofs.laws.messages_are_read_back.Goals as goal

pub returns-clause-same : goal.returns-clause-same
returns-clause-same c = same_message

pub returns-clause-read : goal.returns-clause-read
returns-clause-read c = read_back

pub returns-clause-received : goal.returns-clause-received
returns-clause-received c = received _ _
