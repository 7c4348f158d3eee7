use Rattle.std.proofs.Common.{sym, ap, ◌∙◌, arith}
use Rattle.std.specs.Option.{option_map, option_or}
use Rattle.zt_keys.specs.Walking.{walked_one}
use Rattle.zt_keys.proofs.Pieces.{last-marked, last-double, last-other}
use Rattle.zt_keys.proofs.walk.after_last_double.Goals as goal

pub returns-then-is_marked-clause-last : goal.returns-then-is_marked-clause-last
returns-then-is_marked-clause-last c =
    let none = last-marked _ _ _ c.next_chunk.ensures.chunk (sym c.is_marked.ensures ∙ c.if-is_marked.true) in
    ap (λ o. option_or o (option_map walked_one c.loop-rest.last)) (sym none) ∙ c.loop-rest.invariant.last

pub loop-rest-preserved-then-is_double : goal.loop-rest-preserved-then-is_double
loop-rest-preserved-then-is_double c =
    record {
      last = last-double _ _ _ (option_map walked_one c.loop-rest.last) c.next_chunk.ensures.chunk (sym c.is_marked.ensures ∙ c.if-is_marked.false) (sym c.is_double.ensures ∙ c.if-is_double.true) ∙ c.loop-rest.invariant.last;
      rest = omega arith;
      shorter = omega arith;
    }

pub loop-rest-preserved : goal.loop-rest-preserved
loop-rest-preserved c =
    record {
      last = last-other _ _ _ (option_map walked_one c.loop-rest.last) c.next_chunk.ensures.chunk (sym c.is_marked.ensures ∙ c.if-is_marked.false) (sym c.is_double.ensures ∙ c.if-is_double.false) ∙ c.loop-rest.invariant.last;
      rest = omega arith;
      shorter = c.loop-rest.invariant.shorter;
    }
