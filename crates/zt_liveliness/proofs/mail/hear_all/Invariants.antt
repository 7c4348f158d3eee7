use Rattle.std.proofs.Common.{◌≡◌, ◌++◌, drop}
use Rattle.zt_liveliness.specs.Mail.{news_in_all, told_after_all}
use Rattle.zt_liveliness.proofs.mail.hear_all.Given as goal

-- what the messages so far and those that are left come to is what all come to
abbrev pub invariant-loop-message : goal.invariant-loop-message
invariant-loop-message g l = record {
  told : told_after_all g.K.Ord.cmp l.books.sessions.items (drop l.message-index l.sent) l.told.items ≡ told_after_all g.K.Ord.cmp l.books.sessions.items l.sent l.initial.told.items;
  news : l.news.items ++ news_in_all g.K.Ord.cmp g.K.Key.matching l.books.sessions.items l.books.subscribers.items (drop l.message-index l.sent) l.told.items
      ≡ l.initial.news.items ++ news_in_all g.K.Ord.cmp g.K.Key.matching l.books.sessions.items l.books.subscribers.items l.sent l.initial.told.items;
}
