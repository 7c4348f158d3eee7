use Rattle.std.proofs.Common.{◌++◌, length, ap, arith, subst, sym, ◌∙◌}
use Rattle.zt_model.specs.Fabric.{Fabric, sorted_by_face}
use Rattle.zt_model.specs.Lists.{nth}
use Rattle.zt_link_queues.specs.Found.{AreBelow}
use Rattle.zt_fabric_state.specs.Changes.{undone, without_last_place}
use Rattle.zt_fabric_state.proofs.PutBack.{after_alike}
use Rattle.zt_links.specs.Lines.{joined}
use Rattle.zt_links.proofs.linking.open_other.Goals as goal

pub join-requires-clause-below : goal.join-requires-clause-below
join-requires-clause-below g c = subst (AreBelow c.args.face) (sym c.in_ok-turned.ensures.links) c.requires.below

pub join-requires-clause-placed : goal.join-requires-clause-placed
join-requires-clause-placed g c = omega (arith, c.in_ok-turned.ensures.faces, c.requires.placed)

pub undo_opening-requires : goal.undo_opening-requires
undo_opening-requires g c = subst (λ (t : Fabric _). AreBelow (length t.faces) t.links) (sym c.in-Err.ensures.err) c.in_ok-turned.ensures.free

pub returns-in-Ok-clause-says : goal.returns-in-Ok-clause-says
returns-in-Ok-clause-says g c = c.in-Ok.ensures.says ∙ ap (λ xs. sorted_by_face (c.args.first.items ++ xs)) c.in_ok-turned.ensures.says

pub returns-in-Ok-clause-does : goal.returns-in-Ok-clause-does
returns-in-Ok-clause-does g c = c.settle.ensures ∙ c.in-Ok.ensures.does ∙ ap (joined c.args.face c.args.other c.in-Ok.sent.items) c.in_ok-turned.ensures.does

pub returns-in-Err-clause-err : goal.returns-in-Err-clause-err
returns-in-Err-clause-err g c =
    c.undo_opening.ensures ∙ ap (λ t. without_last_place (undone c.in_ok-turned.turned.former c.in_ok-turned.turned.gateway t)) c.in-Err.ensures.err ∙ c.in_ok-turned.ensures.back

pub settle-requires : goal.settle-requires
settle-requires g c =
    let turned = c.in_ok-turned.turned in
    after_alike g.K.Ord.cmp g.K.Key.matching turned.former turned.gateway c.open_end.new.s c.join.new.s
    (ap (λ (x : Fabric _). nth turned.gateway x.gateways) c.in-Ok.ensures.does) c.in_ok-turned.ensures.after
