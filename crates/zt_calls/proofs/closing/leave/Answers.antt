use Rattle.std.proofs.Common.{◌≡◌, List, OnOk, ℕ, subst}
use Rattle.std.proofs.lemmas.Result.{on_ok_weaker}
use Rattle.std.specs.List.{flat_map}
use Rattle.zt_calls.proofs.Doing.{does-alter, does-both}
use Rattle.zt_calls.specs.Does.{Does}
use Rattle.zt_calls.specs.Leaving.{leaving_interest, leaving_pending}
use Rattle.zt_model.specs.Closing.{without_asks}
use Rattle.zt_model.specs.Parts.{with_face}
use Rattle.zt_model.specs.Rows.{InterestRow, Pending}
use Rattle.zt_calls.proofs.closing.leave.Goals as goal

pub returns : goal.returns
returns g c =
    let cmp = g.K.Ord.cmp in
    let matching = g.K.Key.matching in
    let f = c.args.f.now in
    let n = f.number in
    let r = c.leave_pendings.result in
    let held =
    subst (λ (rows : List (ℕ × InterestRow g.row.K.Denot)). Does cmp matching (flat_map (leaving_interest cmp matching n) rows) c.leave_tokens.new.g c.leave_interests.new.g c.leave_tokens.new.speech c.leave_interests.new.speech) c.held.ensures
    (subst (λ (k : ℕ). Does cmp matching (flat_map (leaving_interest cmp matching k) c.held.result.now) c.leave_tokens.new.g c.leave_interests.new.g c.leave_tokens.new.speech c.leave_interests.new.speech) c.number.ensures c.in_ok-leave_interests.ensures) in
    let asks = subst (λ (k : ℕ). c.drop_asks.new.self ≡ with_face k without_asks c.leave_interests.new.g) c.number-2.ensures c.drop_asks.ensures in
    let waiting =
    subst (λ (rows : List (ℕ × Pending)). OnOk r (Does cmp matching (flat_map (leaving_pending n) rows) c.drop_asks.new.self c.leave_pendings.new.g c.leave_interests.new.speech c.leave_pendings.new.speech)) c.pendings.ensures
    (subst (λ (k : ℕ). OnOk r (Does cmp matching (flat_map (leaving_pending k) c.pendings.result.now) c.drop_asks.new.self c.leave_pendings.new.g c.leave_interests.new.speech c.leave_pendings.new.speech)) c.number-3.ensures c.leave_pendings.ensures) in
    on_ok_weaker r (λ done. does-both (does-both c.in_ok-leave_tokens.ensures held) (does-both (does-alter (with_face n without_asks) asks) done)) waiting
