use Rattle.std.proofs.Common.{sym, ◌∙◌}
use Rattle.zt_interest_index.proofs.Rising.{rising-more}
use Rattle.zt_ordered.specs.Test.{is_lt-Less}
use Rattle.zt_interest_index.proofs.holdings.stay_rising.Goals as goal

pub returns-then-are_rising : goal.returns-then-are_rising
returns-then-are_rising g c about t =
    let less = sym c.cmp.ensures ∙ is_lt-Less _ (sym c.is_lt.ensures ∙ t) in
    rising-more c.args.rows.now c.in-Some.last.now ((c.args.face, c.args.id), about) (sym c.in-Some.ensures.value) less (c.requires c.if-are_rising.true)
