use Rattle.std.proofs.Common.{◌++◌, ap, flat_map, sym, ◌∙◌}
use Rattle.std.proofs.lemmas.List.{append-nil, drop_all}
use Rattle.zt_region.specs.Region.{is_north}
use Rattle.zt_model.specs.Routing.{is_target, sent_as}
use Rattle.zt_model.specs.Rows.{Face}
use Rattle.zt_interests.specs.Chosen.{chosen}
use Rattle.zt_tokens.specs.Walks.{given_at}
use Rattle.zt_tokens.proofs.Chosen.{chosen_numbers}
use Rattle.zt_interests.proofs.North.{chosen-all, south-unchosen}
use Rattle.zt_interests.proofs.routing.sent_as.Goals as goal

pub returns : goal.returns
unfolding sent_as
returns g c =
    let rows = c.args.g.now in
    let asked = is_target rows c.args.asker c.args.mode in
    let give = chosen asked (λ (f : Face g.row.K.Denot). (f.number, f.next)) in
    let given = given_at give rows.faces in
    let items = c.north-number-items.result.now in
    sym (append-nil c.loop-number.targets.items)
    ∙ ap (λ ns. c.loop-number.targets.items ++ flat_map given ns) (sym (drop_all c.loop-number.number-index items c.loop-number-test.false))
    ∙ c.loop-number.invariant
    ∙ ap (flat_map given) c.north-number-items.ensures.north
    ∙ chosen_numbers give rows.faces (λ f. is_north f.region) c.north-number-items.ensures.rising (south-unchosen (λ f. (f.number, f.next)) rows c.args.asker c.args.mode)
    ∙ chosen-all asked (λ f. (f.number, f.next)) rows.faces
