use Rattle.std.proofs.Common.{◌≡◌, ap, sym, subst, ◌∙◌}
use Rattle.zt_presence.specs.Presence.{IsTable, Presence, beyond}
use Rattle.zt_presence.proofs.PollLemmas.{read_table, read_visible}
use Rattle.zt_theorem_journal.specs.Asked.{answers_to}
use Rattle.zt_presence.proofs.monitor.Monitor.find.Goals as goal

pub change_of-requires-clause-new : goal.change_of-requires-clause-new
change_of-requires-clause-new g c =
    let m = c.args.self.now in
    let sent = c.in_ok-sent.sent.items in
    let table = c.in_ok-table.table.items in
    let are : table ≡ answers_to m.face m.polls sent = c.in_ok-table.ensures ∙ ap (λ (v : Presence g.row.K.Denot). answers_to v.face v.polls sent) c.self.view_is in
    subst (IsTable g.K.Ord.cmp) (sym c.as_slice-2.ensures.value)
    (read_table g.K.Ord.cmp g.K.Key.matching m.face m.polls m.expr c.args.place c.args.pass.now c.read_sent.new.pass g.met.K.Ord.total c.requires.asked c.in_ok-sent.ensures.read sent c.in_ok-sent.ensures.sent table are)

pub invariant_of-self : goal.invariant_of-self
invariant_of-self g c =
    let m = c.args.self.now in
    let sent = c.in_ok-sent.sent.items in
    let table = c.in_ok-table.table.items in
    let are : table ≡ answers_to m.face m.polls sent = c.in_ok-table.ensures ∙ ap (λ (v : Presence g.row.K.Denot). answers_to v.face v.polls sent) c.self.view_is in
    read_table g.K.Ord.cmp g.K.Key.matching m.face m.polls m.expr c.args.place c.args.pass.now c.read_sent.new.pass g.met.K.Ord.total c.requires.asked c.in_ok-sent.ensures.read sent c.in_ok-sent.ensures.sent table are

pub returns-clause-ok : goal.returns-clause-ok
returns-clause-ok g c =
    let m = c.args.self.now in
    let sent = c.in_ok-sent.sent.items in
    let table = c.in_ok-table.table.items in
    let are : table ≡ answers_to m.face m.polls sent = c.in_ok-table.ensures ∙ ap (λ (v : Presence g.row.K.Denot). answers_to v.face v.polls sent) c.self.view_is in
    let old : c.as_slice.result.now ≡ m.table = c.as_slice.ensures.value ∙ ap (λ (v : Presence g.row.K.Denot). v.table) c.self.view_is in
    record {
      place_is = c.in_ok-change.ensures.place;
      visible = read_visible g.K.Ord.cmp g.K.Key.matching m.face m.polls m.expr c.args.place c.args.pass.now c.read_sent.new.pass c.requires.asked c.in_ok-sent.ensures.read sent c.in_ok-sent.ensures.sent table are;
      ordered = read_table g.K.Ord.cmp g.K.Key.matching m.face m.polls m.expr c.args.place c.args.pass.now c.read_sent.new.pass g.met.K.Ord.total c.requires.asked c.in_ok-sent.ensures.read sent c.in_ok-sent.ensures.sent table are;
      is = ap (λ (v : Presence g.row.K.Denot). record v { table = table }) c.self.view_is;
      joined = c.in_ok-change.ensures.joined ∙ ap (λ xs. beyond g.K.Ord.cmp xs c.as_slice-2.result.now) old ∙ ap (beyond g.K.Ord.cmp m.table) c.as_slice-2.ensures.value;
      left = c.in_ok-change.ensures.left ∙ ap (λ xs. beyond g.K.Ord.cmp c.as_slice-2.result.now xs) old ∙ ap (λ xs. beyond g.K.Ord.cmp xs m.table) c.as_slice-2.ensures.value;
    }
