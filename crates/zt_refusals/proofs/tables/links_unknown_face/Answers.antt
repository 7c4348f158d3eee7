use Rattle.std.proofs.Common.{rules, tests, ◌∙◌}
use Rattle.std.proofs.lemmas.Iterator.{YieldsList-from_slice}
use Rattle.std.proofs.lemmas.Iterator.Search.{any_from_yields_List}
use Rattle.zt_model.specs.Refusals.{is_unknown_face}
use Rattle.zt_refusals.proofs.Listing.{face_counted}
use Rattle.zt_refusals.proofs.tables.links_unknown_face.Goals as goal

pub returns : goal.returns
returns g c =
    any_from_yields_List (λ l. is_unknown_face l.0 c.args.g.now) _ _ _ c.any.ensures.ran
    (YieldsList-from_slice c.args.links.now cc) (λ x b q k. search (rules, tests))
    ∙ face_counted (λ n. is_unknown_face n c.args.g.now) c.args.links.now
