use Rattle.std.proofs.Common.{refl}
use Rattle.zt_model.specs.Journal.{rows_replayed}
use Rattle.zt_shared.proofs.journaled.Journaled.new.Goals as goal

pub invariant_of-result : goal.invariant_of-result
unfolding rows_replayed
invariant_of-result g c = record {
  replay = rw c.new.ensures.items tt;
  rows = rw (c.new.ensures.items, c.in_ok-opening.ensures) refl;
  opened_quiet = rw c.in_ok-opening.ensures c.requires;
  quiet = c.requires;
}
