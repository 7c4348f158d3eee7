use Rattle.std.proofs.Common.{◌≡◌, ◌==◌, ◌&&◌, None, Some, if◌then◌else◌, option_map, subst, sym, ◌∙◌}
use Rattle.zt_region.specs.declared.region.Zid.{Zid}
use Rattle.zt_region.specs.Region.{region_eq, zid_eq}
use Rattle.zt_model.specs.Lists.{first_where}
use Rattle.zt_model.specs.Trees.{counted_table}
use Rattle.zt_check_rows.proofs.Meant.{meant_other}
use Rattle.zt_check_rows.proofs.rows.ShownRows.router_meant.Goals as goal

pub returns : goal.returns
returns g c =
    let there : option_map (λ t. t.1) (first_where (λ t. region_eq c.args.face.now.region t.0) c.args.self.now.trees) ≡ Some c.in-Some.table.now = sym (rw (c.in-Some.is, c.region.ensures) at c.table_of.ensures) in
    let linked : option_map (λ l. l.2) (first_where (λ l. (l.0 == c.args.face.now.number) && (l.1 == c.args.node)) (counted_table c.in-Some.table.now).links) ≡ c.router_behind.result = sym (rw c.number.ensures at c.router_behind.ensures) in
    let other : c.other_than.result ≡ elim c.router_behind.result [ None ↦ None | Some source ↦ if zid_eq source c.args.self.now.zid then None else Some source ] =
    subst (λ (own : Zid). c.other_than.result ≡ elim c.router_behind.result [ None ↦ None | Some source ↦ if zid_eq source own then None else Some source ]) c.zid.ensures c.other_than.ensures in
    other ∙ meant_other c.args.self.now c.args.face.now c.args.node c.in-Some.table.now c.router_behind.result there linked
