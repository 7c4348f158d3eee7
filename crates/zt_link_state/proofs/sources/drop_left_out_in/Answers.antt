use Rattle.std.proofs.Common.{not, rules, tests}
use Rattle.std.proofs.lemmas.Map.Made.{filter_same_pairs}
use Rattle.zt_model.specs.Trees.{counted_table}
use Rattle.zt_link_state.specs.Routed.{is_left_out}
use Rattle.zt_link_state.proofs.Entries.{order-filtered}
use Rattle.zt_link_state.proofs.sources.drop_left_out_in.Goals as goal

pub returns-clause-entries : goal.returns-clause-entries
returns-clause-entries g c =
    filter_same_pairs _ (λ entry. not (is_left_out c.args.region (counted_table c.args.table.now) entry.0)) _ (λ k v b w f h. (search (rules, tests), search (rules, tests), search (rules, tests))) _ _ c.retain.ensures.filtered

pub returns-clause-in_order : goal.returns-clause-in_order
returns-clause-in_order g c =
    order-filtered g.K.Ord.cmp (λ entry. not (is_left_out c.args.region (counted_table c.args.table.now) entry.0)) c.args.sources.now.entries c.retain.new.self.entries c.requires (returns-clause-entries g c) c.retain.ensures.ordered
