use Rattle.std.proofs.Common.{◌≡◌, [], drop, map}
use Rattle.zt_protocol.specs.Plain.{plain_entry, plain_line}
use Rattle.zt_laws.specs.Sound.{HasFirstIds}
use Rattle.zt_model.specs.Transcript.{Each}
use Rattle.zt_workers.proofs.MadeLemmas.{MadeSoFar}
use Rattle.zt_workers.proofs.making.make_faces.Given as goal

-- the lines so far have come to the entries
abbrev pub invariant-loop-line : goal.invariant-loop-line
invariant-loop-line g l = record {
  so_far : MadeSoFar g.K.Ord.cmp g.K.Key.matching (map plain_line l.lines) (map plain_line (drop l.line-index l.lines)) l.fn.gateway.rows l.gateway.rows (map plain_entry l.entries.items);
  first : Each HasFirstIds (map plain_line (drop l.line-index l.lines));
  quiet : l.gateway.waiting ≡ [];
}
