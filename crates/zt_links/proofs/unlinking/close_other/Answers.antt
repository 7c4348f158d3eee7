use Rattle.std.proofs.Common.{◌≡◌, ap, ◌∙◌}
use Rattle.zt_model.specs.Fabric.{Fabric}
use Rattle.zt_model.specs.Lists.{nth}
use Rattle.zt_fabric_state.specs.Changes.{undone}
use Rattle.zt_fabric_state.proofs.PutBack.{after_alike}
use Rattle.zt_links.proofs.Closings.{closing_links}
use Rattle.zt_links.proofs.unlinking.close_other.Goals as goal

pub part-requires : goal.part-requires
part-requires g c =
    let links : c.close_face.new.s.links ≡ c.args.s.now.links =
    ap (λ (t : Fabric _). t.links) c.in-Ok.ensures.does ∙ closing_links g.K.Ord.cmp g.K.Key.matching g.met.K.Ord.total c.args.two c.args.s.now in
    rw links c.requires.within

pub settle-requires : goal.settle-requires
settle-requires g c =
    let second = c.in-Ok.second in
    after_alike g.K.Ord.cmp g.K.Key.matching second.former second.gateway c.close_face.new.s c.part.new.s
    (ap (λ (x : Fabric _). nth second.gateway x.gateways) c.in-Ok-part.ensures.does) c.in-Ok.ensures.after

pub settle_apart-requires : goal.settle_apart-requires
settle_apart-requires g c = λ apart.
    let first = c.args.first in
    after_alike g.K.Ord.cmp g.K.Key.matching first.former first.gateway c.args.s.now c.settle.new.s
    (ap (λ (x : Fabric _). nth first.gateway x.gateways) (c.settle.ensures ∙ c.in-Ok-part.ensures.does) ∙ c.in-Ok.ensures.others first.gateway apart)
    c.requires.after

pub returns-in-Err-clause-err : goal.returns-in-Err-clause-err
returns-in-Err-clause-err g c = c.undo.ensures ∙ ap (undone c.args.first.former c.args.first.gateway) c.in-Err.ensures.err
