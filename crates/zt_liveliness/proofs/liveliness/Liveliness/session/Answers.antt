use Rattle.std.proofs.Common.{◌≡◌, ◌+◌, ◌++◌, ℕ, List, [], ◌∷◌, filter, ap, refl, ◌∙◌}
use Rattle.zt_protocol.specs.Plain.{NewSession}
use Rattle.zt_gateway.specs.Running.{by_face, without_closed}
use Rattle.zt_model.specs.Says.{Sends, said}
use Rattle.zt_liveliness.specs.Lively.{Lively, OpenSession, done_by}
use Rattle.zt_liveliness.specs.Mail.{is_awaited, news_in_all, told_after_all}
use Rattle.zt_liveliness.specs.declared.books.Session.{Session}
use Rattle.zt_liveliness.proofs.Alike.{alike}
use Rattle.zt_liveliness.proofs.Opened.{opened_number, opened_some}
use Rattle.zt_liveliness.proofs.liveliness.Liveliness.session.Goals as goal

pub returns-in-Ok-Some-clause-made : goal.returns-in-Ok-Some-clause-made
returns-in-Ok-Some-clause-made g c =
    let rows = c.self.inside.gateway.rows in
    opened_number g.K.Ord.cmp g.K.Key.matching (NewSession 1) rows c.in-Ok-Some.field-0 c.in-Ok-Some.number c.in-Ok-Some.ensures.accepted refl c.in-Ok-Some.ensures.made c.in-Ok-Some.field-0-is
    ∙ ap (λ (l : Lively g.row.K.Denot). l.rows.made + 1) c.self.view_is

pub unreachable-requires : goal.unreachable-requires
unreachable-requires g c =
    opened_some g.K.Ord.cmp g.K.Key.matching (NewSession 1) c.self.inside.gateway.rows c.in-Ok-None.field-0 c.in-Ok-None.ensures.accepted refl c.in-Ok-None.ensures.made c.in-Ok-None.field-0-is

pub returns-in-Ok-Some-clause-done : goal.returns-in-Ok-Some-clause-done
returns-in-Ok-Some-clause-done g c =
    let K = g.row.K.Denot in
    let cmp = g.K.Ord.cmp in
    let matching = g.K.Key.matching in
    let inside = c.self.inside in
    let before : Lively K = record {
      rows = inside.gateway.rows;
      waiting = inside.mail.waiting.items;
      sessions = inside.books.sessions.items;
      uplinks = inside.books.uplinks.items;
      queries = inside.books.queries.items;
      subscribers = inside.books.subscribers.items;
      told = inside.mail.told.items;
      news = inside.mail.news.items;
    }
    in
    let sent : Sends K = by_face (said cmp matching (NewSession 1) before.rows) in
    let number : c.in-Ok-Some.number ≡ inside.gateway.rows.made + 1 =
    opened_number cmp matching (NewSession 1) inside.gateway.rows c.in-Ok-Some.field-0 c.in-Ok-Some.number c.in-Ok-Some.ensures.accepted refl c.in-Ok-Some.ensures.made c.in-Ok-Some.field-0-is
    in
    let opened : ℕ → Session = λ n. record { number = n; tokens = 0; interests = 0 } in
    alike _ (done_by cmp matching OpenSession before) c.in-Ok-Some.ensures.rows
    (c.in-Ok-Some.ensures.waiting ∙ ap (λ (ss : List Session). before.waiting ++ filter (is_awaited ss before.queries) sent) c.in-Ok.ensures.items)
    (c.push_within.ensures
    ∙ ap (λ (ss : List Session). ss ++ opened c.in-Ok-Some.number ∷ []) c.in-Ok.ensures.items
    ∙ ap (λ (n : ℕ). before.sessions ++ opened n ∷ []) number)
    refl refl refl
    (c.in-Ok-Some.ensures.told ∙ ap (λ (ss : List Session). told_after_all cmp ss sent before.told) c.in-Ok.ensures.items)
    (c.in-Ok-Some.ensures.news ∙ ap (λ (ss : List Session). before.news ++ news_in_all cmp matching ss before.subscribers sent before.told) c.in-Ok.ensures.items)
    ∙ ap (done_by cmp matching OpenSession) c.self.view_is
