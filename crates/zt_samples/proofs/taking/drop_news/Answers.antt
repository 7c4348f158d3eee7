use Rattle.std.proofs.Common.{rules, tests, not, ◌==◌, ◌&&◌}
use Rattle.std.proofs.lemmas.Fn.{filter_same}
use Rattle.zt_samples.proofs.taking.drop_news.Goals as goal

pub returns : goal.returns
returns g c = filter_same _ (λ one. not ((c.args.session == one.session) && (c.args.subscriber == one.subscriber))) _ (λ x b f h. (search (rules, tests), search (rules, tests))) _ _ c.retain.ensures.filtered
