use Rattle.std.proofs.Common.{◌≡◌, ℕ, ◌==◌, List, [], ◌∷◌, ◌++◌, ap, sym, ◌∙◌, filter, length, not, append_assoc, refl, arith}
use Rattle.std.proofs.lemmas.List.{append-nil}
use Rattle.std.specs.List.{list_any}
use Rattle.std.specs.Vec.Iter.{into_iter_items, into_iter_len}
use Rattle.zt_protocol.specs.declared.entries.Sent.{Sent}
use Rattle.zt_links.proofs.Walks.{filter_first}
use Rattle.zt_links.proofs.unlinking.add_others.Goals as goal

abbrev others : {K : Type 0} → ℕ → ℕ → List (Sent K) → List (Sent K)
others one two ms = filter (λ m. not (list_any (λ face. face == m.face) (one ∷ two ∷ []))) ms

pub loop-message-init : goal.loop-message-init
loop-message-init g c = ap (λ ms. c.args.kept.now.items ++ others c.args.one c.args.two ms) c.into_iter-rest.ensures.rest

pub loop-message-preserved : goal.loop-message-preserved
loop-message-preserved g c =
    let rest = into_iter_items c.next.new.self in
    ap (λ ms. ms ++ others c.args.one c.args.two rest) c.in_ok-add_if_other.ensures
    ∙ append_assoc c.loop-message.kept.items (others c.args.one c.args.two (c.in-Some.message ∷ [])) (others c.args.one c.args.two rest)
    ∙ ap (λ ms. c.loop-message.kept.items ++ ms) (sym (filter_first (λ m. not (list_any (λ face. face == m.face) (c.args.one ∷ c.args.two ∷ []))) c.in-Some.message rest))
    ∙ ap (λ ms. c.loop-message.kept.items ++ others c.args.one c.args.two ms) (sym c.in-Some.ensures.items)
    ∙ c.loop-message.invariant

no-items : {A : Type 0} (items : List A) (len : ℕ) → length items ≡ len → len ≡ 0 → items ≡ []
no-items [] len is none = refl
no-items (x ∷ xs) len is none = absurd (omega (arith, is, none))

pub returns : goal.returns
returns g c =
    let items : into_iter_items c.loop-message.rest ≡ [] = no-items (into_iter_items c.loop-message.rest) (into_iter_len c.loop-message.rest) (sym c.loop-message.rest.rest.ok.0) c.in_default.ensures.cases.0 in
    sym (append-nil c.loop-message.kept.items) ∙ ap (λ ms. c.loop-message.kept.items ++ others c.args.one c.args.two ms) (sym items) ∙ c.loop-message.invariant
