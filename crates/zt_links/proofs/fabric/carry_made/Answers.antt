use Rattle.std.proofs.Common.{sym, ◌∙◌}
use Rattle.zt_protocol.specs.Plain.{plain_line}
use Rattle.zt_links.proofs.Accepted.{accepted_entry, refused_entry, refused_fabric}
use Rattle.zt_links.proofs.fabric.carry_made.Goals as goal

pub accept-requires-clause-accepted : goal.accept-requires-clause-accepted
accept-requires-clause-accepted g c = sym c.in_ok-refusal.ensures ∙ c.in-None.is

pub returns-in-Some-clause-entry : goal.returns-in-Some-clause-entry
returns-in-Some-clause-entry g c = refused_entry g.K.Ord.cmp g.K.Key.matching (plain_line c.args.line.now) c.args.s.now c.in-Some.refusal (sym c.in_ok-refusal.ensures ∙ c.in-Some.is)

pub returns-in-Some-clause-ok : goal.returns-in-Some-clause-ok
returns-in-Some-clause-ok g c = c.refuse.ensures ∙ refused_fabric g.K.Ord.cmp g.K.Key.matching (plain_line c.args.line.now) c.args.s.now c.in-Some.refusal

pub returns-in_ok-sent-in-None-clause-entry : goal.returns-in_ok-sent-in-None-clause-entry
returns-in_ok-sent-in-None-clause-entry g c =
    accepted_entry g.K.Ord.cmp g.K.Key.matching (plain_line c.args.line.now) c.args.s.now c.in_ok-sent-in-None.sent.items (sym c.in_ok-refusal.ensures ∙ c.in-None.is) c.in_ok-sent-in-None.ensures.says
