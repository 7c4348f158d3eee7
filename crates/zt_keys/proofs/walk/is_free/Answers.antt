use Rattle.std.proofs.Common.{sym, ◌∙◌}
use Rattle.zt_keys.specs.Walking.{walked}
use Rattle.zt_keys.proofs.Alone.{alone, none_left}
use Rattle.zt_keys.proofs.walk.is_free.Goals as goal

pub returns : goal.returns
returns c = c.is_empty.ensures ∙ none_left c.after_segment.result.now ∙ sym (alone (walked c.args.text.now) (walked c.after_segment.result.now) c.after_segment.ensures.rest)
