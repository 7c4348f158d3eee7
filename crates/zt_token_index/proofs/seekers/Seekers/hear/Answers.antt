use Rattle.std.proofs.Common.{Err, IfOk, Ok, Result, refl}
use Rattle.std.proofs.lemmas.Result.{on_ok_weaker}
use Rattle.zt_model.specs.Hearing.{heard}
use Rattle.zt_token_index.proofs.SeekersChanged.{seekers-known, seekers-retold}
use Rattle.zt_token_index.proofs.Heard.{heard-place}
use Rattle.zt_token_index.proofs.seekers.Seekers.hear.Goals as goal

both-ok : {T E : Type 0} (r : Result T E) (P Q R : T → Type 0) → ((x : T) → P x → Q x → R x) → IfOk r P → IfOk r Q → IfOk r R
both-ok (Ok x) P Q R both p q = both x p q
both-ok (Err e) P Q R both p q = q

pub returns-clause-seeks : goal.returns-clause-seeks
returns-clause-seeks g c =
    let cmp = g.K.Ord.cmp in
    let m = c.args.message.now in
    on_ok_weaker c.hear_message.result
    (λ retold moment.
    rw (← c.self.view_is)
    (seekers-retold cmp g.K.Key.anchored c.args.f.now (heard cmp moment m) (λ x. (heard-place cmp moment m x).number) (λ x. (heard-place cmp moment m x).region) (λ x. (heard-place cmp moment m x).held) _ _ refl refl refl (retold moment)))
    c.hear_message.ensures.retold

pub returns-clause-known : goal.returns-clause-known
returns-clause-known g c =
    rw (← c.self.view_is)
    (both-ok c.hear_message.result _ _ _
    (λ known is ordered. seekers-known g.K.Ord.cmp g.K.Key.anchored g.met.K.Ord.total g.met.K.Key.laws.equal_is_same c.args.f.now c.args.message.now known _ is ordered)
    c.hear_message.ensures.known c.hear_message.ensures.ordered)
