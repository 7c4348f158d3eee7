use Rattle.std.proofs.Common.{◌≡◌, map, take}
use Rattle.std.specs.List.{flat_map}
use Rattle.zt_streams.specs.Lines.{whole_lines, rest_of}
use Rattle.zt_streams.proofs.pieces.lines_in_pieces.Given as goal

-- the whole lines of the pieces so far were taken, and their rest is kept
abbrev pub invariant-loop-piece : goal.invariant-loop-piece
invariant-loop-piece l =
    let so_far = flat_map (λ piece. piece.items) (take l.piece-index l.pieces) in
    record {
      lines : map (λ line. line.items) l.lines.items ≡ whole_lines so_far;
      kept : l.feeder ≡ rest_of so_far;
    }
