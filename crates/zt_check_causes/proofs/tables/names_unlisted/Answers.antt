use Rattle.std.proofs.Common.{◌≡◌, ℕ, ◌||◌, true, false, not, ap, rules, sym, ◌∙◌}
use Rattle.std.specs.List.{list_any}
use Rattle.zt_region.specs.declared.region.Zid.{Zid}
use Rattle.zt_model.specs.Trees.{counted_table, is_listed}
use Rattle.zt_check_causes.proofs.Listed.{children_decide}
use Rattle.zt_check_causes.proofs.tables.names_unlisted.Goals as goal

pub returns : goal.returns
returns g c =
    let t = counted_table c.args.table.now in
    let is_true : c.is_listed.result ≡ true = search rules in
    let listed = sym (c.is_listed.ensures ∙ ap (λ z. is_listed z t) c.zid.ensures) ∙ is_true in
    let linked = sym (c.links_unlisted.ensures ∙ ap (list_any (λ (l : ℕ × ℕ × Zid). not (is_listed l.2 t))) c.counted_links.ensures) ∙ c.if-links_unlisted.false in
    c.children_unlisted.ensures
    ∙ ap (list_any (λ (r : Zid × Zid). not (is_listed r.0 t) || not (is_listed r.1 t))) c.children.ensures
    ∙ children_decide c.args.table.now c.args.rows.now listed linked
