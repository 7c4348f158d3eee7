use Rattle.std.proofs.Common.{◌≡◌, ◌∷◌, [], None, Option, Some, ap, subst, sym, ◌∙◌}
use Rattle.std.specs.Option.{option_copied}
use Rattle.zt_calls.proofs.Doing.{does-nothing}
use Rattle.zt_calls.specs.Does.{Does}
use Rattle.zt_model.specs.Parts.{Alter, Say, with_face}
use Rattle.zt_model.specs.Telling.{forget, undeclared, unregistered}
use Rattle.zt_calls.proofs.tokens.undeclare_found.Goals as goal

pub returns-in-None : goal.returns-in-None
returns-in-None g c =
    let cmp = g.K.Ord.cmp in
    let matching = g.K.Key.matching in
    let f = c.args.f.now in
    let n = f.number in
    let id = c.args.id in
    let none : None ≡ undeclared cmp matching id c.args.given.now f = sym (ap option_copied c.in-None.is) ∙ c.undeclared.ensures in
    subst (λ (o : Option g.row.K.Denot). Does cmp matching (elim o [ None ↦ [] | Some e ↦ Alter (with_face n (unregistered id)) ∷ Say (forget cmp matching f.region e) ∷ [] ]) c.args.g.now c.args.g.now c.args.speech.now c.args.speech.now) none
    (does-nothing cmp matching c.args.g.now c.args.speech.now)
