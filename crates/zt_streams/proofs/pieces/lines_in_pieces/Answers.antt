use Rattle.std.proofs.Common.{Vec, Global, ℕ, ◌+◌, List, ◌++◌, take, sym, ap, ◌∙◌}
use Rattle.std.specs.List.{flat_map}
use Rattle.std.proofs.lemmas.List.{take_all}
use Rattle.zt_streams.proofs.LineLemmas.{lines-fed, lines-finished, whole_lines-rest_of, flat_map-next}
use Rattle.zt_streams.specs.Lines.{whole_lines, lines_of}
use Rattle.zt_streams.proofs.pieces.lines_in_pieces.Goals as goal

abbrev text_of : Vec ℕ Global → List ℕ
text_of v = v.items

pub loop-piece-preserved : goal.loop-piece-preserved
loop-piece-preserved c =
    let pieces = c.args.pieces.now in
    let before = flat_map text_of (take c.loop-piece.piece-index pieces) in
    let after = flat_map text_of (take (c.loop-piece.piece-index + 1) pieces) in
    let more = flat_map-next text_of pieces c.loop-piece.piece-index c.piece-item.result c.loop-piece-test.true c.piece-item.is ∙ ap (λ piece. before ++ piece) (sym c.deref.ensures.value) in
    let both = lines-fed text_of c.loop-piece.lines.items c.take_lines.new.lines.items before c.deref.result.now after c.loop-piece.feeder c.feed.new.self c.take_lines.new.feeder
    c.loop-piece.invariant.lines c.loop-piece.invariant.kept c.in_ok-feed.ensures.ok more c.in_ok-take_lines.ensures.taken c.in_ok-take_lines.ensures.rest in
    record { lines = both.0; kept = both.1 }

pub take_rest-requires : goal.take_rest-requires
take_rest-requires c = ap whole_lines c.loop-piece.invariant.kept ∙ whole_lines-rest_of (flat_map text_of (take c.loop-piece.piece-index c.args.pieces.now))

pub returns : goal.returns
returns c =
    let pieces = c.args.pieces.now in
    lines-finished _ _ (flat_map text_of (take c.loop-piece.piece-index pieces)) c.loop-piece.feeder c.loop-piece.invariant.lines c.loop-piece.invariant.kept c.in_ok-take_rest.ensures
    ∙ ap (λ taken. lines_of (flat_map text_of taken)) (take_all c.loop-piece.piece-index pieces c.loop-piece-test.false)
