use Rattle.std.proofs.Common.{refl, sym, ap, ◌∙◌, arith}
use Rattle.std.specs.Option.{option_map}
use Rattle.zt_keys.specs.Walking.{walked_one}
use Rattle.zt_keys.proofs.Turns.{behind-both, behind-place, behind-short, behind-last, behind-rest}
use Rattle.std.proofs.lemmas.Bool.{eqb-true}
use Rattle.zt_keys.proofs.Pieces.{walked-nothing}
use Rattle.zt_keys.proofs.walk.pass_double.Goals as goal

pub returns-in-Some-clause-rest : goal.returns-in-Some-clause-rest
returns-in-Some-clause-rest c =
    behind-both _ _ _ _ _ c.after_last_double-first_last.result c.args.first c.unwrap_or.result refl c.after_last_double-first_last.ensures.last c.unwrap_or.ensures c.in-Some.ensures.last c.align.ensures.first c.align.ensures.second

pub returns-then-is_some-clause-rest : goal.returns-then-is_some-clause-rest
returns-then-is_some-clause-rest c =
    behind-place _ _ c.after_last_double-first_last.result c.find_place.result c.after_last_double-first_last.ensures.last (sym c.is_some.ensures ∙ c.if-is_some.true) (ap (option_map walked_one) (sym c.in_default.is) ∙ c.after_last_double.ensures.last) c.find_place.ensures.rest

pub returns-then-first_len-second_len-clause-rest : goal.returns-then-first_len-second_len-clause-rest
returns-then-first_len-second_len-clause-rest c =
    behind-short _ _ c.after_last_double-first_last.result c.after_last_double-first_last.ensures.last (sym c.is_some.ensures ∙ c.if-is_some.false) (ap (option_map walked_one) (sym c.in_default.is) ∙ c.after_last_double.ensures.last) (omega arith)

pub returns-clause-rest : goal.returns-clause-rest
returns-clause-rest c =
    behind-last _ _ _ c.after_last_double-first_last.result c.after_last_double-first_last.ensures.last (sym c.is_some.ensures ∙ c.if-is_some.false) (ap (option_map walked_one) (sym c.in_default.is) ∙ c.after_last_double.ensures.last) (omega arith)
    (rw (← c.segment_len-first_len.ensures, ← c.segment_len-second_len.ensures) c.skip_chunks.ensures.rest)

pub returns-then-is_empty-clause-rest : goal.returns-then-is_empty-clause-rest
returns-then-is_empty-clause-rest c = behind-rest _ _ _ (walked-nothing c.args.first.now (eqb-true _ _ (sym c.is_empty.ensures ∙ c.if-is_empty.true))) c.after_segment.ensures.rest
