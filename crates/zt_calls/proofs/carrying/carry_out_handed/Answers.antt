use Rattle.std.proofs.Common.{OnOk, ap, subst, sym, ◌∙◌}
use Rattle.zt_calls.specs.Does.{Does}
use Rattle.std.proofs.lemmas.Result.{on_ok_weaker}
use Rattle.zt_calls.proofs.Doing.{does-alter}
use Rattle.zt_model.specs.Entities.{with_entities}
use Rattle.zt_model.specs.Says.{opened_session, parts_of}
use Rattle.zt_protocol.specs.Plain.{plain_call}
use Rattle.zt_protocol.specs.declared.calls.Call.{Call}
use Rattle.zt_calls.proofs.carrying.carry_out_handed.Goals as goal

pub returns-in-NewSession : goal.returns-in-NewSession
unfolding parts_of
returns-in-NewSession g c =
    let cmp = g.K.Ord.cmp in
    let matching = g.K.Key.matching in
    let s = c.args.speech.now in
    subst (λ (call : Call g.row.K.Denot). OnOk c.open_session.result (Does cmp matching (parts_of cmp matching (plain_call call) c.args.g.now) c.args.g.now c.open_session.new.self s s)) (sym c.in-NewSession.is)
    (on_ok_weaker c.open_session.result (λ is. does-alter (opened_session c.in-NewSession.first) is) c.open_session.ensures)

pub returns-in-NewTransport : goal.returns-in-NewTransport
unfolding parts_of
returns-in-NewTransport g c =
    let cmp = g.K.Ord.cmp in
    let matching = g.K.Key.matching in
    subst (λ (call : Call g.row.K.Denot). OnOk c.open.result (Does cmp matching (parts_of cmp matching (plain_call call) c.args.g.now) c.args.g.now c.open.new.g c.args.speech.now c.open.new.speech)) (sym c.in-NewTransport.is)
    c.open.ensures

pub returns-in-Expire : goal.returns-in-Expire
unfolding parts_of
returns-in-Expire g c =
    let cmp = g.K.Ord.cmp in
    let matching = g.K.Key.matching in
    subst (λ (call : Call g.row.K.Denot). OnOk c.expire.result (Does cmp matching (parts_of cmp matching (plain_call call) c.args.g.now) c.args.g.now c.expire.new.g c.args.speech.now c.expire.new.speech)) (sym c.in-Expire.is)
    c.expire.ensures

pub returns-in-SetTrees : goal.returns-in-SetTrees
unfolding parts_of
returns-in-SetTrees g c =
    let cmp = g.K.Ord.cmp in
    let matching = g.K.Key.matching in
    subst (λ (call : Call g.row.K.Denot). OnOk c.change_table.result (Does cmp matching (parts_of cmp matching (plain_call call) c.args.g.now) c.args.g.now c.change_table.new.g c.args.speech.now c.change_table.new.speech)) (sym c.in-SetTrees.is)
    c.change_table.ensures

pub returns-in-SetEntities : goal.returns-in-SetEntities
unfolding parts_of
returns-in-SetEntities g c =
    let cmp = g.K.Ord.cmp in
    let matching = g.K.Key.matching in
    let s = c.args.speech.now in
    let n = c.in-SetEntities.face in
    let rows = c.args.g.now in
    let subscribers = c.in-SetEntities.subscribers.items in
    let queryables = c.in-SetEntities.queryables.items in
    let handed = ap (λ xs. with_entities cmp n xs c.deref-in-SetEntities.result.now rows) c.deref.ensures.value ∙ ap (λ qs. with_entities cmp n subscribers qs rows) c.deref-in-SetEntities.ensures.value in
    subst (λ (call : Call g.row.K.Denot). OnOk c.set_entities.result (Does cmp matching (parts_of cmp matching (plain_call call) rows) rows c.set_entities.new.self s s)) (sym c.in-SetEntities.is)
    (on_ok_weaker c.set_entities.result (λ is. does-alter (with_entities cmp n subscribers queryables) (is ∙ handed)) c.set_entities.ensures)
