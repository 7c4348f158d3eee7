use Rattle.std.proofs.Common.{◌≡◌, ◌+◌, ◌++◌, ℕ, List, [], ◌∷◌, ap, refl, ◌∙◌}
use Rattle.zt_region.specs.declared.region.Region.TheVariants.{North}
use Rattle.zt_protocol.specs.Plain.{PlainCall, NewTransport}
use Rattle.zt_liveliness.specs.Lively.{Lively, OpenUplink, done_by}
use Rattle.zt_liveliness.proofs.Alike.{alike}
use Rattle.zt_liveliness.proofs.Opened.{opened_number, opened_some}
use Rattle.zt_liveliness.proofs.liveliness.Liveliness.uplink.Goals as goal

pub returns-in-Ok-Some-clause-made : goal.returns-in-Ok-Some-clause-made
returns-in-Ok-Some-clause-made g c =
    let rows = c.self.inside.gateway.rows in
    opened_number g.K.Ord.cmp g.K.Key.matching (NewTransport c.args.zid c.args.whatami North c.args.remote_bound 1) rows c.in-Ok-Some.field-0 c.in-Ok-Some.number c.in-Ok-Some.ensures.accepted refl c.in-Ok-Some.ensures.made c.in-Ok-Some.field-0-is
    ∙ ap (λ (l : Lively g.row.K.Denot). l.rows.made + 1) c.self.view_is

pub unreachable-requires : goal.unreachable-requires
unreachable-requires g c =
    opened_some g.K.Ord.cmp g.K.Key.matching (NewTransport c.args.zid c.args.whatami North c.args.remote_bound 1) c.self.inside.gateway.rows c.in-Ok-None.field-0 c.in-Ok-None.ensures.accepted refl c.in-Ok-None.ensures.made c.in-Ok-None.field-0-is

pub returns-in-Ok-Some-clause-done : goal.returns-in-Ok-Some-clause-done
returns-in-Ok-Some-clause-done g c =
    let K = g.row.K.Denot in
    let cmp = g.K.Ord.cmp in
    let matching = g.K.Key.matching in
    let inside = c.self.inside in
    let before : Lively K = record {
      rows = inside.gateway.rows;
      waiting = inside.mail.waiting.items;
      sessions = inside.books.sessions.items;
      uplinks = inside.books.uplinks.items;
      queries = inside.books.queries.items;
      subscribers = inside.books.subscribers.items;
      told = inside.mail.told.items;
      news = inside.mail.news.items;
    }
    in
    let call : PlainCall K = NewTransport c.args.zid c.args.whatami North c.args.remote_bound 1 in
    let number : c.in-Ok-Some.number ≡ inside.gateway.rows.made + 1 =
    opened_number cmp matching call inside.gateway.rows c.in-Ok-Some.field-0 c.in-Ok-Some.number c.in-Ok-Some.ensures.accepted refl c.in-Ok-Some.ensures.made c.in-Ok-Some.field-0-is
    in
    alike _ (done_by cmp matching (OpenUplink c.args.zid c.args.whatami c.args.remote_bound) before) c.in-Ok-Some.ensures.rows c.in-Ok-Some.ensures.waiting refl
    (c.push_within.ensures
    ∙ ap (λ (us : List ℕ). us ++ c.in-Ok-Some.number ∷ []) c.in-Ok.ensures.items
    ∙ ap (λ (n : ℕ). before.uplinks ++ n ∷ []) number)
    refl refl c.in-Ok-Some.ensures.told c.in-Ok-Some.ensures.news
    ∙ ap (done_by cmp matching (OpenUplink c.args.zid c.args.whatami c.args.remote_bound)) c.self.view_is
