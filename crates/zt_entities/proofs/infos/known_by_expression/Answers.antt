use Rattle.std.proofs.Common.{◌≡◌, ◌<◌, ◌+◌, ◌-◌, ◌∷◌, [], arith, drop, length, subst, sym, ◌∙◌, ap}
use Rattle.std.proofs.lemmas.List.{drop_all}
use Rattle.zt_state.proofs.Walks.{drop_item}
use Rattle.zt_entities.specs.Known.{AreKnown}
use Rattle.zt_entities.proofs.Knowing.{known-none}
use Rattle.zt_entities.proofs.infos.known_by_expression.Goals as goal

pub loop-place-init : goal.loop-place-init
loop-place-init g c =
    let rows = c.args.found.now in
    subst (λ qs. AreKnown g.K.Ord.cmp qs c.new-known.result.entries) (sym (drop_all (length rows) rows (omega arith)))
    (subst (λ es. AreKnown g.K.Ord.cmp [] es) (sym c.new-known.ensures.empty) (known-none g.K.Ord.cmp))

pub loop-place-preserved : goal.loop-place-preserved
loop-place-preserved g c =
    let rows = c.args.found.now in
    let past = c.loop-place.place in
    let within : past - 1 < length rows = omega (arith, c.loop-place.auto.place, c.loop-place-test.true) in
    let next : past - 1 + 1 ≡ past = omega (arith, c.loop-place-test.true) in
    let split = drop_item rows (past - 1) c.index-found-place.result within c.index-found-place.is in
    let added = c.in_ok-add_known.ensures (drop past rows) c.loop-place.invariant in
    subst (λ qs. AreKnown g.K.Ord.cmp qs c.add_known.new.known.entries) (sym (split ∙ ap (λ n. c.index-found-place.result ∷ drop n rows) next)) added
