use Rattle.std.proofs.Common.{ap, sym, ◌∙◌}
use Rattle.zt_model.specs.Lists.{at_id}
use Rattle.zt_model.specs.Routing.{asks_same}
use Rattle.zt_interests.proofs.HeldSouth.{under-none, under-some}
use Rattle.zt_interests.proofs.upstream.holds_as.Goals as goal

pub returns-in-None : goal.returns-in-None
returns-in-None g c =
    sym (under-none c.args.id (asks_same g.K.Ord.cmp g.K.Key.matching c.args.interest.now) c.args.f.now.held (sym (c.in-None.ensures.row ∙ ap (at_id c.args.id) c.held.ensures)))

pub returns-in-Some : goal.returns-in-Some
returns-in-Some g c =
    let sorted = rw c.held.ensures at c.in-Some.ensures.ordered in
    c.asks_same.ensures
    ∙ sym (under-some c.args.id (asks_same g.K.Ord.cmp g.K.Key.matching c.args.interest.now) c.args.f.now.held _ sorted (sym (c.in-Some.ensures.row ∙ ap (at_id c.args.id) c.held.ensures)))
