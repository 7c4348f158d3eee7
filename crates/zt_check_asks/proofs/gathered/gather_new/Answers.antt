use Rattle.std.proofs.Common.{◌++◌, take, refl, ap, sym, ◌∙◌, arith}
use Rattle.std.proofs.lemmas.Bool.{false≢true, or_left, or_right}
use Rattle.std.proofs.lemmas.List.{drop_all, take_all}
use Rattle.std.specs.Cmp.{tied_itself}
use Rattle.std.specs.Ordering.{is_eq}
use Rattle.zt_model.specs.Lists.{is_among}
use Rattle.zt_model.specs.Promises.{are_new}
use Rattle.zt_check_keeping.proofs.Beside.{equal-from}
use Rattle.zt_check_asks.proofs.Found.{found_by, found_more, not_new}
use Rattle.zt_check_asks.proofs.Walked.{new_more}
use Rattle.zt_check_asks.proofs.gathered.gather_new.Goals as goal

pub loop-place-init : goal.loop-place-init
loop-place-init g c = record { fresh = refl; gathered = λ q. ap (is_among g.K.Ord.cmp q) c.requires }

-- one that was known isn't new
pub returns-then-is_among-clause-new : goal.returns-then-is_among-clause-new
returns-then-is_among-clause-new g c =
    let x = c.args in
    not_new g.K.Ord.cmp g.K.Key.matching x.known.now x.exprs.now c.loop-place.place c.index-exprs-place.result (omega arith) c.index-exprs-place.is
    (or_right _ _ (sym c.is_among.ensures ∙ c.if-is_among.true)) c.loop-place.invariant.fresh

pub returns-then-is_among-clause-found : goal.returns-then-is_among-clause-found
returns-then-is_among-clause-found g c = λ h. absurd (false≢true h)

-- nor is one that is among those so far
pub returns-then-contains-clause-new : goal.returns-then-contains-clause-new
returns-then-contains-clause-new g c =
    let x = c.args in
    let cmp = g.K.Ord.cmp in
    let expr = c.index-exprs-place.result in
    not_new cmp g.K.Key.matching x.known.now x.exprs.now c.loop-place.place expr (omega arith) c.index-exprs-place.is
    (or_left _ _ (sym (c.loop-place.invariant.gathered expr) ∙ (sym (found_by cmp g.met.K.Ord.matches_eq expr c.loop-place.found.keys) ∙ (sym c.contains.ensures ∙ c.if-contains.true))))
    c.loop-place.invariant.fresh

pub returns-then-contains-clause-found : goal.returns-then-contains-clause-found
returns-then-contains-clause-found g c = λ h. absurd (false≢true h)

-- the one expression more is new beside those so far, and gathered with them
pub loop-place-preserved : goal.loop-place-preserved
loop-place-preserved g c =
    let x = c.args in
    let cmp = g.K.Ord.cmp in
    let expr = c.index-exprs-place.result in
    let old = c.loop-place.found.keys in
    record {
      fresh = new_more cmp g.K.Key.matching x.known.now x.exprs.now c.loop-place.place expr (omega arith) c.index-exprs-place.is
          (sym c.is_among.ensures ∙ c.if-is_among.false)
          (sym (c.loop-place.invariant.gathered expr) ∙ (sym (found_by cmp g.met.K.Ord.matches_eq expr old) ∙ (sym c.contains.ensures ∙ c.if-contains.false))) c.loop-place.invariant.fresh;
      gathered = found_more cmp (λ e. ap is_eq (tied_itself g.met.K.Ord.total e)) (λ a b t. g.met.K.Key.laws.equal_is_same a b (equal-from _ t)) x.exprs.now c.loop-place.place expr old c.add_found.new.found.keys (omega arith) c.index-exprs-place.is
          (rw c.in_ok-copy.ensures at c.in_ok-add_found.ensures) c.loop-place.invariant.gathered;
    }

pub returns-clause-new : goal.returns-clause-new
returns-clause-new g c =
    let x = c.args in
    let cmp = g.K.Ord.cmp in
    let matching = g.K.Key.matching in
    let place = c.loop-place.place in
    sym (ap (are_new cmp matching (take place x.exprs.now ++ x.known.now)) (drop_all place x.exprs.now (omega arith))) ∙ c.loop-place.invariant.fresh

pub returns-clause-found : goal.returns-clause-found
returns-clause-found g c =
    let x = c.args in
    λ h q. c.loop-place.invariant.gathered q ∙ ap (is_among g.K.Ord.cmp q) (take_all c.loop-place.place x.exprs.now (omega arith))
