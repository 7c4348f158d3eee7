use Rattle.std.proofs.Common.{◌∷◌, List, ℕ, OnOk, ap, subst, sym, ◌∙◌}
use Rattle.std.proofs.lemmas.Result.{on_ok_weaker}
use Rattle.std.specs.List.{flat_map}
use Rattle.zt_calls.proofs.Doing.{does-alter, does-both}
use Rattle.zt_calls.proofs.Expiry.{expiring-pendings}
use Rattle.zt_calls.specs.Does.{Does}
use Rattle.zt_calls.specs.Expired.{ending_each}
use Rattle.zt_model.specs.Parts.{Alter, Part}
use Rattle.zt_model.specs.Rows.{Rows}
use Rattle.zt_calls.proofs.expiring.expire.Goals as goal

pub returns : goal.returns
returns g c =
    let cmp = g.K.Ord.cmp in
    let matching = g.K.Key.matching in
    let rows = c.args.g.now in
    let s = c.args.speech.now in
    let r = c.end_pendings.result in
    let change : Rows g.row.K.Denot → Rows g.row.K.Denot = λ h. record h { moment = c.args.now } in
    let ends =
    subst (λ (ended : List (ℕ × ℕ)). OnOk r (Does cmp matching (flat_map ending_each ended) c.set_moment.new.self c.end_pendings.new.g s c.end_pendings.new.speech))
    (c.deref.ensures.value ∙ c.in_ok-ended.ensures.expired) c.end_pendings.ensures in
    subst (λ (parts : List (Part g.row.K.Denot)). OnOk r (Does cmp matching (Alter change ∷ parts) rows c.end_pendings.new.g s c.end_pendings.new.speech)) (sym (expiring-pendings c.args.now rows))
    (on_ok_weaker r (λ done. does-both (does-alter change (c.set_moment.ensures ∙ ap change c.in_ok-ended.ensures.kept)) done) ends)
