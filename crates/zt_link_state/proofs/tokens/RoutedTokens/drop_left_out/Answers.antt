use Rattle.std.proofs.Common.{ap, filter, not, refl, ◌∙◌}
use Rattle.zt_model.specs.Rows.{RoutedRow}
use Rattle.zt_model.specs.Trees.{counted_table, routed_order}
use Rattle.zt_model.specs.Trees as model
use Rattle.zt_link_state.specs.Routed.{is_left_out, keys_in, origin_cmp, row_of, rows_in}
use Rattle.zt_link_state.specs.declared.origin.Origin.{Origin}
use Rattle.zt_link_state.proofs.Flat.{tested-flat}
use Rattle.zt_link_state.proofs.Origins.{rows-agree}
use Rattle.zt_link_state.proofs.tokens.RoutedTokens.drop_left_out.Goals as goal

pub returns : goal.returns
returns g c =
    let cmp = g.K.Ord.cmp in
    let t = counted_table c.args.table.now in
    ap rows_in c.drop_left_out_in.ensures.entries
    ∙ tested-flat origin_cmp cmp (routed_order cmp) row_of keys_in (rows-agree cmp) (λ (o : Origin). not (is_left_out c.args.region t o)) (λ (row : RoutedRow g.row.K.Denot). not (model.is_left_out cmp c.args.region t row)) (λ o e. refl) c.self.inside.sources.entries
    ∙ ap (filter (λ (row : RoutedRow g.row.K.Denot). not (model.is_left_out cmp c.args.region t row))) c.self.view_is
