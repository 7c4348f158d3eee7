use Rattle.std.proofs.Common.{◌≡◌, true, None, ap, sym, ◌∙◌}
use Rattle.zt_model.specs.Says.{Sends}
use Rattle.zt_liveliness.specs.Lively.{Lively, is_asking, left_by, reply_of}
use Rattle.zt_liveliness.specs.Queues.{oldest_answer}
use Rattle.zt_liveliness.proofs.Walks.{unanswered_all, unanswered_left}
use Rattle.zt_liveliness.proofs.liveliness.Liveliness.reply.Goals as goal

pub returns-in-None-clause-left : goal.returns-in-None-clause-left
returns-in-None-clause-left g c =
    let inside = c.self.inside in
    let before : Lively g.row.K.Denot = record {
      rows = inside.gateway.rows;
      waiting = inside.mail.waiting.items;
      sessions = inside.books.sessions.items;
      uplinks = inside.books.uplinks.items;
      queries = inside.books.queries.items;
      subscribers = inside.books.subscribers.items;
      told = inside.mail.told.items;
      news = inside.mail.news.items;
    }
    in
    let behind : Sends g.row.K.Denot → Lively g.row.K.Denot = λ ws. record before { waiting = ws } in
    let none : oldest_answer c.args.session c.args.get before.waiting ≡ None = sym c.take_answer.ensures.answer ∙ c.in-None.is in
    let asking : is_asking c.args.session c.args.get before ≡ true = ap (is_asking c.args.session c.args.get) c.self.view_is ∙ sym c.is_asking.ensures ∙ c.if-not-is_asking.false in
    ap behind (c.take_answer.ensures.left ∙ unanswered_all c.args.session c.args.get before.waiting none)
    ∙ sym (unanswered_left c.args.session c.args.get before asking none)
    ∙ ap (λ (l : Lively g.row.K.Denot). left_by c.args.session c.args.get (reply_of c.args.session c.args.get l) l) c.self.view_is
