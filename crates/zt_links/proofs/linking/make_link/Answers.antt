use Rattle.std.proofs.Common.{◌≡◌, ◌+◌, ◌++◌, [], ◌∷◌, length, ap, arith, sym, subst, ◌∙◌}
use Rattle.zt_protocol.specs.Plain.{plain_call}
use Rattle.zt_model.specs.Fabric.{Fabric, call_at, sorted_by_face}
use Rattle.zt_model.specs.Lists.{nth}
use Rattle.zt_laws.specs.Order.{FabricIsInOrder}
use Rattle.zt_link_queues.specs.Found.{AreBelow}
use Rattle.zt_fabric_state.specs.Changes.{undone, without_last_place}
use Rattle.zt_links.specs.Lines.{joined, opened_by_call, opened_end, said_by_opening}
use Rattle.zt_links.proofs.Linked.{opening_links}
use Rattle.zt_fabric_state.proofs.PutBack.{after_alike}
use Rattle.zt_links.proofs.Turned.{known_after, link_joined, opened_apart, opening_faces, opening_waits_does, opening_waits_says, order_waits, some_known}
use Rattle.zt_links.proofs.linking.make_link.Goals as goal

pub open_other-requires-clause-there : goal.open_other-requires-clause-there
open_other-requires-clause-there g c =
    let member = some_known c.args.one c.args.s.now c.requires.there_one in
    known_after g.K.Ord.cmp g.K.Key.matching g.met.K.Ord.total c.args.two c.args.one member.0 (plain_call c.args.forth.now) c.args.s.now c.open_end.new.s member.1 c.requires.opens_forth c.requires.order c.in_ok-turned.ensures.does c.requires.there_two

pub open_other-requires-clause-order : goal.open_other-requires-clause-order
open_other-requires-clause-order g c =
    subst (FabricIsInOrder g.K.Ord.cmp g.K.Key.matching) (sym c.in_ok-turned.ensures.does)
    (order_waits g.K.Ord.cmp g.K.Key.matching _ (opened_by_call g.K.Ord.cmp g.K.Key.matching c.args.one (plain_call c.args.forth.now) c.args.s.now) c.requires.order_between)

pub open_other-requires-clause-below : goal.open_other-requires-clause-below
open_other-requires-clause-below g c =
    let face_is : c.in_ok-face.face ≡ length c.args.s.now.faces + 1 = c.in_ok-face.ensures ∙ ap (λ n. n + 1) (c.len.ensures ∙ ap length c.places.ensures) in
    subst (λ n. AreBelow n c.open_end.new.s.links) (c.in_ok-turned.ensures.faces ∙ sym face_is) c.in_ok-turned.ensures.free

pub open_other-requires-clause-rising : goal.open_other-requires-clause-rising
open_other-requires-clause-rising g c = omega (arith, c.in_ok-other.ensures)

pub open_other-requires-clause-placed : goal.open_other-requires-clause-placed
open_other-requires-clause-placed g c =
    let face_is : c.in_ok-face.face ≡ length c.args.s.now.faces + 1 = c.in_ok-face.ensures ∙ ap (λ n. n + 1) (c.len.ensures ∙ ap length c.places.ensures) in
    omega (arith, c.in_ok-turned.ensures.faces, face_is, c.in_ok-other.ensures)

pub undo_opening-requires : goal.undo_opening-requires
undo_opening-requires g c = subst (λ (t : Fabric _). AreBelow (length t.faces) t.links) (sym c.in-Err.ensures.err) c.in_ok-turned.ensures.free

pub returns-in-Ok-clause-says : goal.returns-in-Ok-clause-says
returns-in-Ok-clause-says g c =
    let cmp = g.K.Ord.cmp in
    let matching = g.K.Key.matching in
    let s = c.args.s.now in
    let forth = plain_call c.args.forth.now in
    let back = plain_call c.args.back.now in
    let t = opened_by_call cmp matching c.args.one forth s in
    c.in-Ok.ensures.says
    ∙ ap (λ xs. sorted_by_face (xs ++ said_by_opening cmp matching c.args.two back c.open_end.new.s)) c.in_ok-turned.ensures.says
    ∙ ap (λ xs. sorted_by_face (said_by_opening cmp matching c.args.one forth s ++ xs))
    (ap (said_by_opening cmp matching c.args.two back) c.in_ok-turned.ensures.does ∙ opening_waits_says cmp matching c.args.two back (s.waiting ++ (length s.faces + 1, []) ∷ []) t)

pub returns-in-Ok-clause-does : goal.returns-in-Ok-clause-does
returns-in-Ok-clause-does g c =
    let cmp = g.K.Ord.cmp in
    let matching = g.K.Key.matching in
    let total = g.met.K.Ord.total in
    let s = c.args.s.now in
    let one = c.args.one in
    let two = c.args.two in
    let forth = plain_call c.args.forth.now in
    let back = plain_call c.args.back.now in
    let t = opened_by_call cmp matching one forth s in
    let u = opened_by_call cmp matching two back t in
    let ms = c.in-Ok.sent.items in
    let face = c.in_ok-face.face in
    let other = c.in_ok-other.other in
    let ends = s.waiting ++ (length s.faces + 1, []) ∷ [] in
    let member = some_known one s c.requires.there_one in
    let links : u.links ≡ s.links = opening_links cmp matching total (call_at t two back) t ∙ opening_links cmp matching total (call_at s one forth) s in
    let face_is : face ≡ length s.faces + 1 = c.in_ok-face.ensures ∙ ap (λ n. n + 1) (c.len.ensures ∙ ap length c.places.ensures) in
    c.settle_apart.ensures
    ∙ c.in-Ok.ensures.does
    ∙ ap (λ (x : Fabric _). joined face other ms (opened_end cmp matching two back x)) c.in_ok-turned.ensures.does
    ∙ ap (λ (x : Fabric _). joined face other ms (record x { waiting = ends ++ (length t.faces + 1, []) ∷ [] })) (opening_waits_does cmp matching two back ends t)
    ∙ link_joined s u face other (length t.faces) ms links face_is c.in_ok-other.ensures (opening_faces cmp matching one forth member.0 s member.1)

pub returns-in-Err-clause-err : goal.returns-in-Err-clause-err
returns-in-Err-clause-err g c =
    c.undo_opening.ensures ∙ ap (λ t. without_last_place (undone c.in_ok-turned.turned.former c.in_ok-turned.turned.gateway t)) c.in-Err.ensures.err ∙ c.in_ok-turned.ensures.back

pub settle_apart-requires : goal.settle_apart-requires
settle_apart-requires g c = λ apart.
    let cmp = g.K.Ord.cmp in
    let matching = g.K.Key.matching in
    let total = g.met.K.Ord.total in
    let s = c.args.s.now in
    let t = c.open_end.new.s in
    let one = c.args.one in
    let two = c.args.two in
    let forth = plain_call c.args.forth.now in
    let turned = c.in_ok-turned.turned in
    let first = some_known one s c.requires.there_one in
    let known = known_after cmp matching total two one first.0 forth s t first.1 c.requires.opens_forth c.requires.order c.in_ok-turned.ensures.does c.requires.there_two in
    let second = some_known two t known in
    let order : FabricIsInOrder cmp matching t =
    subst (FabricIsInOrder cmp matching) (sym c.in_ok-turned.ensures.does) (order_waits cmp matching _ (opened_by_call cmp matching one forth s) c.requires.order_between) in
    after_alike cmp matching turned.former turned.gateway t c.open_other.new.s
    (ap (λ (x : Fabric _). nth turned.gateway x.gateways) c.in-Ok.ensures.does
    ∙ opened_apart cmp matching total two turned.gateway second.0 (plain_call c.args.back.now) t second.1 c.requires.opens_back order apart)
    c.in_ok-turned.ensures.after
