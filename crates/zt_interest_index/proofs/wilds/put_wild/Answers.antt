use Rattle.std.proofs.Common.{ap, sym, ◌∙◌}
use Rattle.std.proofs.lemmas.Result.{on_ok_weaker}
use Rattle.std.specs.List.{list_any}
use Rattle.zt_indexes.specs.Grouped.{own-put}
use Rattle.zt_interest_index.proofs.Kept.{covered-placed, covered-plain, placed-among}
use Rattle.zt_interest_index.proofs.wilds.put_wild.Goals as goal

pub returns-then-is_plain-clause-covered : goal.returns-then-is_plain-clause-covered
returns-then-is_plain-clause-covered g c =
    covered-plain g.K.Ord.cmp g.K.Key.anchored g.K.Key.numbered c.args.key.now c.args.wilds.now (sym c.is_plain.ensures ∙ c.if-is_plain.true)

pub returns-clause-covered : goal.returns-clause-covered
returns-clause-covered g c =
    let cmp = g.K.Ord.cmp in
    let key = c.args.key.now in
    let place = c.place_of-place.result in
    on_ok_weaker c.put_at.result
    (λ changed.
    covered-placed cmp g.K.Key.anchored g.K.Key.numbered key c.put_at.new.self place
    (placed-among place c.deref.result.now (g.K.Key.numbered key) (λ test. ap (list_any test) c.deref.ensures.value ∙ c.in_ok-numbers.ensures test) c.place_of-place.ensures)
    (own-put cmp g.met.K.Ord.total place key c.args.wilds.now c.put_at.new.self changed))
    c.put_at.ensures.ok
