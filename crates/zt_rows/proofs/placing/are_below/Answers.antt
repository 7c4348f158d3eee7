use Rattle.std.proofs.Common.{Some, ◌<◌, subst, sym}
use Rattle.std.proofs.lemmas.Bool.{ltb-true}
use Rattle.zt_rows.proofs.Places.{behind-last, pushed-rising}
use Rattle.zt_rows.proofs.placing.are_below.Goals as goal

pub returns-in-Some : goal.returns-in-Some
returns-in-Some g c = λ above row.
    let places = c.args.places.now in
    pushed-rising c.args.id (Some row) places c.requires (behind-last c.args.id places c.in-Some.last.now c.requires (sym c.in-Some.ensures.value) (subst (λ n. n < c.args.id) c.id.ensures (ltb-true _ _ above)))
