use Rattle.std.proofs.Common.{◌≡◌, ◌++◌, [], ◌∷◌, ap, append_assoc, subst, sym, ◌∙◌}
use Rattle.std.proofs.lemmas.List.{append-nil}
use Rattle.std.specs.BTreeSet.{BTreeSet}
use Rattle.std.specs.List.{AllByRecursion}
use Rattle.std.specs.List.Sorted.{IsStrictlySortedBy}
use Rattle.std.specs.Map.{keys_of}
use Rattle.zt_link_state.specs.Routed.{keys_in, origin_cmp}
use Rattle.zt_link_state.specs.declared.origin.Origin.{Origin}
use Rattle.zt_link_state.proofs.Origins.{origin-total}
use Rattle.zt_link_state.proofs.Entries.{all-at, insert-last-entry}
use Rattle.zt_link_state.proofs.sources.copy_sources.Goals as goal

pub copy_source-requires : goal.copy_source-requires
copy_source-requires g c =
    let xs = c.loop-origin.copy.entries in
    let x : Origin × BTreeSet g.row.K.Denot = (c.in-Some.origin.now, c.in-Some.keys.now) in
    let whole = ap (λ l. xs ++ l) (sym c.in-Some.ensures.steps) ∙ c.loop-origin.invariant in
    all-at (λ (s : BTreeSet g.row.K.Denot). IsStrictlySortedBy g.K.Ord.cmp (keys_in s)) xs x c.next.new.self
    (subst (AllByRecursion (λ (entry : Origin × BTreeSet g.row.K.Denot). IsStrictlySortedBy g.K.Ord.cmp (keys_in entry.1))) (sym whole) c.requires.keys)

pub loop-origin-preserved : goal.loop-origin-preserved
loop-origin-preserved g c =
    let xs = c.loop-origin.copy.entries in
    let x : Origin × BTreeSet g.row.K.Denot = (c.in-Some.origin.now, c.in-Some.keys.now) in
    let ys = c.next.new.self in
    let whole = ap (λ l. xs ++ l) (sym c.in-Some.ensures.steps) ∙ c.loop-origin.invariant in
    ap (λ l. l ++ ys)
    (c.in_ok-copy_source.ensures
    ∙ insert-last-entry origin_cmp origin-total xs x ys (subst (λ es. IsStrictlySortedBy origin_cmp (keys_of es)) (sym whole) c.requires.origins))
    ∙ append_assoc xs (x ∷ []) ys
    ∙ whole

pub returns : goal.returns
returns g c =
    let xs = c.loop-origin.copy.entries in
    sym (append-nil xs) ∙ ap (λ l. xs ++ l) (sym c.in-None.ensures.steps.0) ∙ c.loop-origin.invariant
