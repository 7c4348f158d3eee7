use Rattle.std.proofs.Common.{[], ◌∷◌, ◌++◌, ap, sym, take, ◌∙◌}
use Rattle.std.proofs.lemmas.List.{take_more}
use Rattle.zt_check_open_faces.proofs.faces.copy_faces.Goals as goal

pub loop-face-preserved : goal.loop-face-preserved
loop-face-preserved g c =
    let faces = c.args.faces.now in
    let place = c.loop-face.face-index in
    c.in_ok-push.ensures.items
    ∙ (ap (λ xs. xs ++ c.in_ok-copy.copy ∷ []) c.loop-face.invariant
    ∙ (ap (λ x. take place faces ++ x ∷ []) (c.in_ok-copy.ensures ∙ c.face-item.is)
    ∙ sym (take_more faces place c.face-item.result c.loop-face-test.true)))
