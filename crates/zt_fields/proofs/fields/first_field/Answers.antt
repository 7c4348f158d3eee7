use Rattle.std.proofs.Common.{◌≡◌, ℕ, ◌+◌, ◌-◌, Some, None, take, drop, ap, ◌∙◌, arith}
use Rattle.std.proofs.lemmas.Str.{IsCharBoundary-before_ascii, IsCharBoundary-after_ascii}
use Rattle.std.specs.List.{position, position_or_len}
use Rattle.zt_fields.specs.Fields.{is_byte}
use Rattle.zt_fields.proofs.FieldLemmas.{space_at, no_space, part_at_separator, one_part}
use Rattle.zt_fields.proofs.fields.first_field.Goals as goal

pub range-requires-clause-end_boundary : goal.range-requires-clause-end_boundary
range-requires-clause-end_boundary c =
    let found : position (is_byte 32) c.args.text.now ≡ Some c.in-Some.end = cc in
    let s = space_at c.args.text.now c.in-Some.end found in
    IsCharBoundary-before_ascii c.args.text.now c.in-Some.end s.1 (omega (arith, s.2))

pub range_from-requires : goal.range_from-requires
range_from-requires c =
    let found : position (is_byte 32) c.args.text.now ≡ Some c.in-Some.end = cc in
    let s = space_at c.args.text.now c.in-Some.end found in
    λ some. IsCharBoundary-after_ascii c.args.text.now c.in-Some.end c.utf8.text s.1 (omega (arith, s.2))

pub returns-in-Some : goal.returns-in-Some
returns-in-Some c =
    let text = c.args.text.now in
    let found : position (is_byte 32) text ≡ Some c.in-Some.end = cc in
    let s = space_at text c.in-Some.end found in
    let from_start : c.in-Some.end - 0 ≡ position_or_len (is_byte 32) text = omega (arith, s.0) in
    part_at_separator 32 text c.range.result.now c.range_from.result.now (
      c.range.ensures.value ∙ ap (λ (i : ℕ). take i text) from_start,
      c.range_from.ensures.value ∙ ap (λ (i : ℕ). drop (i + 1) text) s.0,
      omega (arith, s.0, s.1),
    )

pub returns-in-None : goal.returns-in-None
returns-in-None c =
    let none : position (is_byte 32) c.args.text.now ≡ None = cc in
    one_part 32 c.args.text.now (no_space c.args.text.now none)
