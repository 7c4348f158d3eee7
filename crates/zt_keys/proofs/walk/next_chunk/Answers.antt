use Rattle.std.proofs.Common.{ap, map}
use Rattle.zt_keys.specs.Parts.{part_of}
use Rattle.zt_keys.proofs.Pieces.{pieces-at, pieces-last}
use Rattle.zt_keys.proofs.walk.next_chunk.Goals as goal

pub returns-in-Some-clause-chunk : goal.returns-in-Some-clause-chunk
returns-in-Some-clause-chunk c = ap (map part_of) (pieces-at c.args.rest.now c.in-Some.end c.in-Some.ensures)

pub returns-in-None-clause-chunk : goal.returns-in-None-clause-chunk
returns-in-None-clause-chunk c = ap (map part_of) (pieces-last c.args.rest.now c.in-None.ensures c.requires)
