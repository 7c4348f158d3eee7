use Rattle.std.proofs.Common.{◌≡◌, ◌++◌, [], ◌∷◌, ap, append_assoc, subst, sym, ◌∙◌}
use Rattle.std.proofs.lemmas.List.{append-nil}
use Rattle.std.specs.List.Sorted.{IsStrictlySortedBy}
use Rattle.zt_link_state.proofs.Entries.{insert-last}
use Rattle.zt_link_state.proofs.sources.copy_set.Goals as goal

pub loop-key-preserved : goal.loop-key-preserved
loop-key-preserved g c =
    let xs = c.loop-key.copy.keys in
    let k = c.in-Some.key.now in
    let ys = c.next.new.self in
    let whole = ap (λ l. xs ++ l) (sym c.in-Some.ensures.steps) ∙ c.loop-key.invariant in
    ap (λ ks. ks ++ ys) (c.in_ok-copy_key.ensures ∙ insert-last g.K.Ord.cmp g.met.K.Ord.total xs k ys (subst (IsStrictlySortedBy g.K.Ord.cmp) (sym whole) c.requires))
    ∙ append_assoc xs (k ∷ []) ys
    ∙ whole

pub returns : goal.returns
returns g c =
    let xs = c.loop-key.copy.keys in
    let whole : xs ≡ c.args.keys.now.keys = sym (append-nil xs) ∙ ap (λ l. xs ++ l) (sym c.in-None.ensures.steps.0) ∙ c.loop-key.invariant in
    λ i. record { keys = whole i }
