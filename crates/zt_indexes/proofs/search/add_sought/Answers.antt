use Rattle.std.proofs.Common.{◌&&◌, ap, if◌then◌else◌, true, ◌∙◌}
use Rattle.std.proofs.lemmas.Result.{on_ok_weaker}
use Rattle.std.specs.BTreeMap.{is_at}
use Rattle.zt_indexes.specs.Grouped.{is_in}
use Rattle.zt_indexes.proofs.Sets.{in-added}
use Rattle.zt_indexes.proofs.search.add_sought.Goals as goal

pub returns : goal.returns
returns g c =
    let cmp = g.K.Ord.cmp in
    let expr = c.args.expr.now in
    let before = c.args.found.now.items in
    on_ok_weaker c.add_if.result
    (λ added q.
    ap (is_in cmp q) added ∙ in-added cmp g.met.K.Ord.total c.is_sought_at.result q expr before
    ∙ ap (λ sought. if is_at (cmp expr) q && sought then true else is_in cmp q before) c.is_sought_at.ensures)
    c.add_if.ensures
