use Rattle.std.proofs.Common.{◌≡◌, ◌+◌, ◌++◌, None, false, List, ap, sym, subst, ◌∙◌, map}
use Rattle.zt_model.specs.Fabric.{Fabric, after_closing, at_nth, closing_call, said_at, sorted_by_face}
use Rattle.zt_model.specs.Lists.{without_id}
use Rattle.zt_model.specs.Places.{Link}
use Rattle.zt_laws.specs.Order.{FabricIsInOrder}
use Rattle.zt_laws.proofs.Unlinking.{closing_in_order}
use Rattle.zt_link_queues.specs.Waiting.{with_printed}
use Rattle.zt_fabric_state.specs.Changes.{row_after}
use Rattle.zt_links.specs.Lines.{for_others, parted}
use Rattle.zt_links.proofs.Closings.{closing_links, closing_waits, unlink_does, unlink_says}
use Rattle.zt_fabric_state.proofs.Members.{some_member}
use Rattle.zt_links.proofs.Turned.{parted_waits}
use Rattle.zt_links.proofs.unlinking.close_both.Goals as goal

pub close_other-requires-clause-within : goal.close_other-requires-clause-within
close_other-requires-clause-within g c =
    let links : c.close_face.new.s.links ≡ c.args.s.now.links =
    ap (λ (t : Fabric _). t.links) c.in_ok-turned.ensures.does ∙ closing_links g.K.Ord.cmp g.K.Key.matching g.met.K.Ord.total c.args.one c.args.s.now in
    rw links c.requires.within

pub close_other-requires-clause-order : goal.close_other-requires-clause-order
close_other-requires-clause-order g c =
    subst (FabricIsInOrder g.K.Ord.cmp g.K.Key.matching) (sym c.in_ok-turned.ensures.does) (closing_in_order g.K.Ord.cmp g.K.Key.matching g.met.K.Ord.total c.args.one c.args.s.now c.requires.order)

pub returns-clause-says : goal.returns-clause-says
returns-clause-says g c =
    let cmp = g.K.Ord.cmp in
    let matching = g.K.Key.matching in
    let s = c.args.s.now in
    let one = c.args.one in
    let two = c.args.two in
    c.in_ok-sent.ensures.says
    ∙ ap (λ xs. sorted_by_face (for_others one two xs ++ for_others one two (said_at cmp matching c.close_face.new.s (closing_call c.close_face.new.s two)))) c.in_ok-turned.ensures.says
    ∙ ap (λ (t : Fabric _). sorted_by_face (for_others one two (said_at cmp matching s (closing_call s one)) ++ for_others one two (said_at cmp matching t (closing_call t two)))) c.in_ok-turned.ensures.does
    ∙ unlink_says cmp matching g.met.K.Ord.total c.args.link one two s c.requires.ends

pub returns-clause-does : goal.returns-clause-does
returns-clause-does g c =
    let cmp = g.K.Ord.cmp in
    let matching = g.K.Key.matching in
    let total = g.met.K.Ord.total in
    let s = c.args.s.now in
    let one = c.args.one in
    let two = c.args.two in
    let n = c.args.link in
    let ms = c.in_ok-sent.sent.items in
    let t = after_closing cmp matching one s in
    let u = after_closing cmp matching two t in
    let member = some_member n c.args.at s.links c.requires.counted c.requires.within in
    let links : u.links ≡ s.links = closing_links cmp matching total two t ∙ closing_links cmp matching total one s in
    let waits : u.waiting ≡ s.waiting = closing_waits cmp matching total two t ∙ closing_waits cmp matching total one s in
    c.in_ok-sent.ensures.does
    ∙ ap (λ (x : Fabric _). parted c.args.at one two ms (after_closing cmp matching two x)) c.in_ok-turned.ensures.does
    ∙ ap (λ (ls : List Link). record u { links = at_nth (c.args.at + 1) (λ l. record l { is_open = false }) ls; waiting = without_id one (without_id two (with_printed ms u.waiting)) }) links
    ∙ ap (λ k. record u { links = at_nth k (λ l. record l { is_open = false }) s.links; waiting = without_id one (without_id two (with_printed ms u.waiting)) }) (sym c.requires.counted)
    ∙ ap (λ ws. record u { links = at_nth n (λ l. record l { is_open = false }) s.links; waiting = ws }) (parted_waits one two ms u.waiting ∙ ap (λ ws. map (row_after None ms) (without_id one (without_id two ws))) waits)
    ∙ unlink_does cmp matching total n one two s member.0 ms member.1 c.requires.ends c.requires.order (returns-clause-says g c)

pub close_other-requires-clause-after : goal.close_other-requires-clause-after
close_other-requires-clause-after g c = c.in_ok-turned.ensures.after
