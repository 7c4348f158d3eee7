use Rattle.std.proofs.Common.{refl, sym, ap, ◌∙◌}
use Rattle.std.specs.Option.{option_map}
use Rattle.zt_keys.specs.Walking.{walked, walked_two}
use Rattle.zt_keys.proofs.Alone.{first_alone, second_alone}
use Rattle.zt_keys.proofs.Turns.{front-none, front-some}
use Rattle.zt_keys.proofs.walk.texts_match.Goals as goal

pub returns-then-is_double : goal.returns-then-is_double
returns-then-is_double c = first_alone c.args.first.now c.args.second.now _ (sym c.is_double.ensures ∙ c.if-is_double.true) c.is_free.ensures

pub returns-then-is_double-2 : goal.returns-then-is_double-2
returns-then-is_double-2 c = second_alone c.args.first.now c.args.second.now _ (sym c.is_double-2.ensures ∙ c.if-is_double-2.true) c.is_free-then-is_double-2.ensures

pub returns-in_default : goal.returns-in_default
returns-in_default c = front-none (walked c.args.first.now) (walked c.args.second.now) _ refl (ap (option_map walked_two) (sym c.in_default.is) ∙ c.walk.ensures.rest)

pub returns-then-do_ends_meet : goal.returns-then-do_ends_meet
returns-then-do_ends_meet c = c.walk_all.ensures ∙ sym (front-some (walked c.args.first.now) (walked c.args.second.now) _ c.in-Some.ensures.rest)

pub returns-else-do_ends_meet : goal.returns-else-do_ends_meet
returns-else-do_ends_meet c =
    c.if-do_ends_meet.false ∙ sym (c.do_ends_meet.ensures c.if-do_ends_meet.false) ∙ sym (front-some (walked c.args.first.now) (walked c.args.second.now) _ c.in-Some.ensures.rest)
