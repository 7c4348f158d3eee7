use Rattle.std.proofs.Common.{rules, tests, not, ◌==◌, ◌&&◌}
use Rattle.std.proofs.lemmas.Fn.{filter_same}
use Rattle.zt_liveliness.proofs.books.end_query.Goals as goal

pub returns : goal.returns
returns c = filter_same _ (λ query. not ((c.args.session == query.session) && (c.args.id == query.id))) _ (λ x b f h. (search (rules, tests), search (rules, tests))) _ _ c.retain.ensures.filtered
