use Rattle.std.proofs.Common.{◌≡◌, ◌∷◌, ◌++◌, append-nil, ap, sym, ◌∙◌}
use Rattle.indexmap.specs.IndexSet.{insert_key}
use Rattle.zt_face.proofs.Answered.{put-behind}
use Rattle.zt_face.proofs.copying.copy_key_set.Goals as goal

pub loop-key-init : goal.loop-key-init
loop-key-init g c = ap (λ ks. ks ++ c.into_iter-key-iterator.result) c.new-copies.ensures.empty ∙ c.into_iter-key-iterator.ensures.into_iter_gives.0

pub loop-key-preserved : goal.loop-key-preserved
loop-key-preserved g c =
    let eq = g.K.PartialEq.eq in
    let done = c.loop-key.copies.keys in
    let rest = c.next.new.self in
    let key = c.in-Some.key.now in
    let is : done ++ key ∷ rest ≡ c.args.keys.now.keys = rw c.in-Some.ensures.steps at c.loop-key.invariant in
    ap (λ ks. ks ++ rest) (c.in_ok-insert.ensures.keys ∙ ap (insert_key eq done) c.in_ok-copy.ensures)
    ∙ put-behind g.met.K.Eq.laws done rest c.args.keys.now.keys key is c.into_iter-key-iterator.ensures.into_iter_gives.3

pub returns : goal.returns
returns g c = sym (append-nil c.loop-key.copies.keys) ∙ rw c.in-None.ensures.steps.0 at c.loop-key.invariant
