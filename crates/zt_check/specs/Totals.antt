-- The totals of entries, counted one by one.
use Rattle.std.specs.Prelude.{◌+◌, ◌*◌, ◌≤◌}
use Rattle.zt_protocol.specs.Plain.{PlainEntry}
use Rattle.zt_protocol.specs.declared.entries.Report.{Report}
use Rattle.zt_model.specs.Transcript.{messages_in, refusals_in}

-- the totals with one more entry
abbrev pub with_entry : {K : Type 0} → PlainEntry K → Report → Report
with_entry entry r = record { lines = r.lines + 1; messages = r.messages + messages_in entry; refusals = r.refusals + refusals_in entry }

-- no total is more than so many lines can give
pub record IsInRange (r : Report) : Type 0 where
  pub messages_fit : r.messages ≤ r.lines * 18446744073709551615
  pub refusals_fit : r.refusals ≤ r.lines
