use Rattle.std.proofs.Common.{◌≡◌, false, arith, refl, rules, sym, ◌∙◌}
use Rattle.std.specs.List.{flat_map}
use Rattle.zt_check_fabric.specs.Made.{pendings_at, pendings_for}
use Rattle.zt_check_fabric.proofs.Gathered.{face_added, gather_all, gather_more, none_pending, pendings_first}
use Rattle.zt_check_fabric.proofs.fabric.ShownFabric.pendings_at.Goals as goal

pub loop-face-preserved : goal.loop-face-preserved
loop-face-preserved g c =
    let x = c.args in
    gather_more (flat_map (pendings_for x.self.now x.sents.now x.gateway)) (pendings_first x.self.now x.sents.now x.gateway) c.faces-face-items.result.now c.loop-face.face-index c.face-item.result c.loop-face.pendings.items c.add_for_face.new.pendings.items
    (pendings_at x.self.now x.sents.now x.gateway x.rows.now) (omega arith) c.face-item.is c.loop-face.invariant
    (face_added x.self.now x.sents.now x.gateway c.face-item.result c.loop-face.pendings.items c.add_for_face.new.pendings.items c.in_ok-add_for_face.ensures)

pub returns : goal.returns
returns g c =
    let x = c.args in
    gather_all (flat_map (pendings_for x.self.now x.sents.now x.gateway)) refl c.faces-face-items.result.now c.loop-face.face-index c.loop-face.pendings.items
    (pendings_at x.self.now x.sents.now x.gateway x.rows.now) (omega arith) c.loop-face.invariant

pub returns-then-not-has_current_interest : goal.returns-then-not-has_current_interest
returns-then-not-has_current_interest g c =
    let x = c.args in
    let none : c.has_current_interest.result ≡ false = search (rules, c.if-not-has_current_interest.true) in
    c.new-pendings.ensures.items ∙ none_pending x.self.now x.sents.now x.gateway x.rows.now.faces (sym c.has_current_interest.ensures ∙ none)
