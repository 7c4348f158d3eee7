use Rattle.std.proofs.Common.{◌<◌, ◌/◌, length, nat_lt, rules, arith, sym, ◌∙◌}
use Rattle.std.proofs.lemmas.Fn.{always_returns_same}
use Rattle.zt_model.specs.Places.{Link}
use Rattle.zt_link_queues.proofs.Ends.{are_parted, cut_at, cut_of}
use Rattle.zt_link_queues.proofs.links.count_before.Goals as goal

pub returns : goal.returns
returns c =
    let face = c.args.face in
    cut_of face c.args.links.now c.partition_point.result
    (c.partition_point.ensures.partitioned (λ (l : Link). nat_lt l.two face) (always_returns_same _ _ _ (λ a r h called. (search rules, search rules))) (are_parted face c.args.links.now c.requires))

pub returns-then-is_end : goal.returns-then-is_end
returns-then-is_end c =
    let guess = c.saturating_sub.result / 2 in
    let within : guess < length c.args.links.now = omega arith in
    cut_at c.args.face c.args.links.now guess c.index-links-guess.result c.requires within c.index-links-guess.is (sym c.is_end.ensures ∙ c.if-is_end.true)
