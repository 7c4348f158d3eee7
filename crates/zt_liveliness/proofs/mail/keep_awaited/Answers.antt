use Rattle.std.proofs.Common.{rules, tests}
use Rattle.std.proofs.lemmas.Fn.{filter_same}
use Rattle.zt_liveliness.specs.Mail.{is_awaited}
use Rattle.zt_liveliness.proofs.mail.keep_awaited.Goals as goal

pub returns : goal.returns
returns g c = filter_same _ (λ s. is_awaited c.args.books.now.sessions.items c.args.books.now.queries.items s) _ (λ x b f h. (search (rules, tests), search (rules, tests))) _ _ c.retain.ensures.filtered
