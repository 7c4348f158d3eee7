use Rattle.std.proofs.Common.{◌≡◌, List, ap, subst, sym, ◌∙◌}
use Rattle.std.proofs.lemmas.Result.{IfOk-weaker}
use Rattle.zt_region.specs.declared.region.Zid.{Zid}
use Rattle.zt_protocol.specs.Plain.{Trees}
use Rattle.zt_model.specs.Trees.{counted_table, greet_to}
use Rattle.zt_routers.specs.Greeting.{greeted_by}
use Rattle.zt_routers.specs.Reached.{Notes, are_at_new_children}
use Rattle.zt_routers.proofs.Greetings.{greeted_all, greets_none, to_each_alike}
use Rattle.zt_routers.proofs.Noted.{counted_children, greets_nobody}
use Rattle.zt_routers.proofs.greeting.greet.Goals as goal

pub returns-in_default : goal.returns-in_default
returns-in_default g c =
    c.new.ensures.items
    ∙ sym (greets_none g.K.Ord.cmp c.args.g.now c.args.region (counted_table c.args.before.now) c.in_default.ensures.none c.args.g.now.faces)

pub say_among-requires : goal.say_among-requires
say_among-requires g c =
    let before = counted_table c.args.before.now in
    let t = counted_table c.in-Some.table.now in
    let listed : c.deref.result.now ≡ t.children = c.deref.ensures.value ∙ ap (λ (u : Trees). u.children) c.table.ensures ∙ counted_children c.in-Some.table.now in
    let notes = subst (λ (cs : List (Zid × Zid)). Notes (are_at_new_children c.args.g.now c.args.region before cs) c.new-numbers.result.items c.note_new_children.new.numbers.items) listed c.in_ok-note_new_children.ensures in
    greets_nobody c.args.g.now c.args.region before g.K.Ord.cmp t c.new-numbers.result.items c.note_new_children.new.numbers.items notes

pub returns : goal.returns
returns g c =
    let cmp = g.K.Ord.cmp in
    let rows = c.args.g.now in
    let before = counted_table c.args.before.now in
    let t = counted_table c.in-Some.table.now in
    let rule = greeted_by cmp rows c.args.region t before in
    IfOk-weaker c.say_among.result _ _
    (λ sends given. given ∙ to_each_alike rule (greet_to cmp rows c.args.region before) (greeted_all cmp rows c.args.region before t c.in-Some.ensures.some) rows.faces)
    c.say_among.ensures
