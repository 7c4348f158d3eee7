use Rattle.std.proofs.Common.{rules, tests, not, ◌==◌, ◌&&◌}
use Rattle.std.proofs.lemmas.Fn.{filter_same}
use Rattle.zt_liveliness.proofs.books.drop_subscriber.Goals as goal

pub returns : goal.returns
returns g c = filter_same _ (λ s. not ((c.args.session == s.session) && (c.args.id == s.id))) _ (λ x b f h. (search (rules, tests), search (rules, tests))) _ _ c.retain.ensures.filtered
