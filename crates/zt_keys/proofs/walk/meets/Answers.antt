use Rattle.std.proofs.Common.{sym, ap, ◌∙◌, not}
use Rattle.zt_keys.specs.Parts.{part_of}
use Rattle.zt_keys.specs.Meet.{meets-sym}
use Rattle.zt_keys.proofs.Pieces.{meets-single, meets-named}
use Rattle.zt_keys.proofs.walk.meets.Goals as goal

pub returns-then-is_single : goal.returns-then-is_single
returns-then-is_single c =
    ap not c.is_marked.ensures ∙ meets-single c.args.a.now c.args.b.now c.requires.second c.requires.first (sym c.is_single.ensures ∙ c.if-is_single.true)

pub returns-then-is_single-2 : goal.returns-then-is_single-2
returns-then-is_single-2 c =
    ap not c.is_marked-then-is_single-2.ensures ∙ meets-single c.args.b.now c.args.a.now c.requires.first c.requires.second (sym c.is_single-2.ensures ∙ c.if-is_single-2.true) ∙ meets-sym (part_of c.args.b.now) (part_of c.args.a.now)

pub returns : goal.returns
returns c =
    c.eq.ensures ∙ meets-named c.args.a.now c.args.b.now c.requires.first c.requires.second (sym c.is_single.ensures ∙ c.if-is_single.false) (sym c.is_single-2.ensures ∙ c.if-is_single-2.false)
