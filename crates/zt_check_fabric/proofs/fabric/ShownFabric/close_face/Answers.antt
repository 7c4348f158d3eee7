use Rattle.std.proofs.Common.{◌≡◌, List, [], ap, ◌∙◌}
use Rattle.std.proofs.lemmas.Result.{on_ok_weaker}
use Rattle.zt_protocol.specs.declared.entries.Sent.{Sent}
use Rattle.zt_model.specs.Transcript.{with_call}
use Rattle.zt_check_fabric.specs.Made.{made_at}
use Rattle.zt_check_fabric.proofs.fabric.ShownFabric.close_face.Goals as goal

pub returns : goal.returns
returns g c =
    let s = c.args.self.now in
    let none : c.as_slice.result.now ≡ [] = search in
    on_ok_weaker c.carry.result
    (λ done.
    done
    ∙ ap (λ (sents : List (Sent _)). with_call g.K.Ord.cmp g.K.Key.matching sents (made_at s c.in_ok-made.made) s) none
    ∙ ap (λ at. with_call g.K.Ord.cmp g.K.Key.matching [] at s) c.in_ok-made.ensures)
    c.carry.ensures
