use Rattle.std.proofs.Common.{ap, subst, ◌∙◌}
use Rattle.std.specs.BTreeMap.{is_at}
use Rattle.std.specs.Map.{lookup}
use Rattle.zt_indexes.specs.Live.{HasOneMore}
use Rattle.zt_indexes.proofs.Ordered.{ordered-more}
use Rattle.zt_indexes.proofs.live.LiveCounts.add.Goals as goal

pub returns-then-branch-clause-ok : goal.returns-then-branch-clause-ok
returns-then-branch-clause-ok g c =
    rw (← c.self.view_is)
    (ordered-more g.K.Ord.cmp g.met.K.Ord.total c.args.region c.args.expr.now c.self.inside.keys.entries c.add_to.new.keys.entries (c.in_ok-add_to.ensures.more c.if-branch.true))

-- the expression wasn't there
pub returns-clause-ok : goal.returns-clause-ok
returns-clause-ok g c =
    let cmp = g.K.Ord.cmp in
    let region = c.args.region in
    let expr = c.args.expr.now in
    let new = c.put_first.new.keys.entries in
    let same = c.in_ok-add_to.ensures.none c.if-branch.false in
    let more = c.in_ok-put_first.ensures.more (ap (lookup (is_at (cmp expr))) same ∙ c.in_ok-add_to.ensures.absent c.if-branch.false) in
    rw (← c.self.view_is)
    (ordered-more cmp g.met.K.Ord.total region expr c.self.inside.keys.entries new (subst (λ old. HasOneMore cmp region expr old new) same more))
