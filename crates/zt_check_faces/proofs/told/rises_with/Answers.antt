use Rattle.std.proofs.Common.{◌≡◌, true, rules, sym}
use Rattle.std.proofs.lemmas.Bool.{ltb-true}
use Rattle.zt_check_faces.proofs.Risen.{rise_push}
use Rattle.zt_check_faces.proofs.told.rises_with.Goals as goal

pub returns-in-Some : goal.returns-in-Some
returns-in-Some g c = λ above e.
    let known : c.args.rises ≡ true = search rules in
    rise_push c.args.rows.now c.in-Some.last.now (c.args.id, e) (c.requires known) (sym c.in-Some.ensures.value) (ltb-true _ _ above)
