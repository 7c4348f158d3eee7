use Rattle.std.proofs.Common.{◌≡◌, [], ap, ap₂, false, rules, subst, sym, ◌∙◌}
use Rattle.zt_model.specs.Trees.{counted_beside, counted_table, is_same_link, is_same_router}
use Rattle.zt_protocol.specs.Plain.{trees_of}
use Rattle.zt_link_state.specs.Listed.{AreListed}
use Rattle.zt_refusals.specs.Unlisted.{names_others}
use Rattle.zt_refusals.proofs.Listing.{names_listed, others_counted}
use Rattle.zt_refusals.proofs.tables.names_unlisted.Goals as goal

pub returns-then-not-names_others : goal.returns-then-not-names_others
unfolding counted_table
returns-then-not-names_others g c =
    let table = trees_of c.args.table.now in
    let nodes = c.in_ok-listed.listed.nodes.entries in
    let zid = c.args.g.now.zid in
    let listed = subst (λ routers. AreListed nodes (counted_beside is_same_router [] routers)) c.deref.ensures.value c.in_ok-listed.ensures.listed in
    let is_false : c.names_others.result ≡ false = search rules in
    let none : names_others table.links table.children nodes zid ≡ false =
    sym (ap₂ (λ links children. names_others links children nodes zid) c.deref-2.ensures.value c.deref-3.ensures.value) ∙ sym c.names_others.ensures ∙ is_false in
    sym (others_counted table.links table.children nodes zid none) ∙ names_listed (counted_table table) nodes c.args.g.now listed

pub returns : goal.returns
unfolding counted_table
returns g c =
    let table = trees_of c.args.table.now in
    let nodes = c.in_ok-listed.listed.nodes.entries in
    let zid = c.args.g.now.zid in
    let listed = subst (λ routers. AreListed nodes (counted_beside is_same_router [] routers)) c.deref.ensures.value c.in_ok-listed.ensures.listed in
    let links : c.deref-5.result.now ≡ counted_beside is_same_link [] table.links =
    c.deref-5.ensures.value ∙ c.in_ok-counted.ensures.links ∙ ap (counted_beside is_same_link []) c.deref-4.ensures.value in
    c.names_others-2.ensures ∙ ap₂ (λ ls children. names_others ls children nodes zid) links c.deref-6.ensures.value ∙ names_listed (counted_table table) nodes c.args.g.now listed
