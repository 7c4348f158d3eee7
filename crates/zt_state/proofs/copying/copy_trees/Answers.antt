use Rattle.std.proofs.Common.{◌++◌, [], ◌∷◌, ap, append_assoc, refl, subst, sym, ◌∙◌}
use Rattle.std.proofs.lemmas.List.{append-nil}
use Rattle.std.specs.List.Sorted.{IsStrictlySortedBy}
use Rattle.std.specs.Map.{keys_of}
use Rattle.zt_region.specs.contracts.region.RegionOrd.TheImpl.{ghosts}
use Rattle.zt_region.specs.contracts.region.RegionOrd.TheImpl.Laws.{total-law}
use Rattle.zt_region.specs.declared.region.Region.{Region}
use Rattle.zt_protocol.specs.Plain.{Trees}
use Rattle.zt_link_state.proofs.Entries.{insert-last-entry}
use Rattle.zt_state.proofs.copying.copy_trees.Goals as goal

pub loop-region-init : goal.loop-region-init
loop-region-init c = rw (c.new-copies.ensures.empty, c.into_iter-region-iterator.ensures.into_iter_gives.0) refl

pub loop-region-preserved-in_ok-insert : goal.loop-region-preserved-in_ok-insert
loop-region-preserved-in_ok-insert c =
    let xs = c.loop-region.copies.entries in
    let x : Region × Trees = (c.in-Some.region.now, c.in-Some.table.now) in
    let ys = c.next.new.self in
    let whole = ap (λ l. xs ++ l) (sym c.in-Some.ensures.steps) ∙ c.loop-region.invariant in
    let rise = c.into_iter-region-iterator.ensures.into_iter_gives.5 in
    ap (λ l. l ++ ys)
    (rw c.in_ok-copy.ensures at c.in_ok-insert.ensures.entries
    ∙ insert-last-entry ghosts.cmp total-law xs x ys (subst (λ es. IsStrictlySortedBy ghosts.cmp (keys_of es)) (sym whole) rise))
    ∙ append_assoc xs (x ∷ []) ys
    ∙ whole

pub loop-region-preserved : goal.loop-region-preserved
loop-region-preserved c =
    let xs = c.loop-region.copies.entries in
    let x : Region × Trees = (c.in-Some.region.now, c.in-Some.table.now) in
    let ys = c.next.new.self in
    let whole = ap (λ l. xs ++ l) (sym c.in-Some.ensures.steps) ∙ c.loop-region.invariant in
    let rise = c.into_iter-region-iterator.ensures.into_iter_gives.5 in
    ap (λ l. l ++ ys)
    (rw c.in_ok-copy.ensures at c.in_ok-insert.ensures.entries
    ∙ insert-last-entry ghosts.cmp total-law xs x ys (subst (λ es. IsStrictlySortedBy ghosts.cmp (keys_of es)) (sym whole) rise))
    ∙ append_assoc xs (x ∷ []) ys
    ∙ whole

pub returns : goal.returns
returns c =
    let xs = c.loop-region.copies.entries in
    sym (append-nil xs) ∙ ap (λ l. xs ++ l) (sym c.in-None.ensures.steps.0) ∙ c.loop-region.invariant
