use Rattle.std.proofs.Common.{◌≡◌, true, false, ◌||◌, ◌++◌, ◌∷◌, [], ap, refl, sym, ◌∙◌}
use Rattle.zt_model.specs.Lists.{is_among}
use Rattle.zt_check_causes.proofs.Numbered.{added_beside, kept_beside}
use Rattle.zt_check_causes.proofs.dictionary.add_new.Goals as goal

pub returns-then-is_among : goal.returns-then-is_among
returns-then-is_among g c =
    let e = c.args.expr.now in
    let known = c.args.known.now in
    let added = c.args.added.now.items in
    let there : is_among g.K.Ord.cmp e known ≡ true = sym c.is_among.ensures ∙ c.if-is_among.true in
    kept_beside g.K.Ord.cmp e known added (ap (λ b. b || is_among g.K.Ord.cmp e added) there)

pub returns-then-is_among-2 : goal.returns-then-is_among-2
returns-then-is_among-2 g c =
    let e = c.args.expr.now in
    let known = c.args.known.now in
    let added = c.args.added.now.items in
    let unknown : is_among g.K.Ord.cmp e known ≡ false = sym c.is_among.ensures ∙ c.if-is_among.false in
    let there : is_among g.K.Ord.cmp e added ≡ true = rw c.as_slice.ensures.value at (sym c.is_among-2.ensures ∙ c.if-is_among-2.true) in
    kept_beside g.K.Ord.cmp e known added (ap (λ b. b || is_among g.K.Ord.cmp e added) unknown ∙ there)

pub returns : goal.returns
returns g c =
    let e = c.args.expr.now in
    let known = c.args.known.now in
    let added = c.args.added.now.items in
    let unknown : is_among g.K.Ord.cmp e known ≡ false = sym c.is_among.ensures ∙ c.if-is_among.false in
    let new : is_among g.K.Ord.cmp e added ≡ false = rw c.as_slice.ensures.value at (sym c.is_among-2.ensures ∙ c.if-is_among-2.false) in
    ap (λ items. known ++ items) (c.in_ok-push.ensures.items ∙ ap (λ (x : g.row.K.Denot). added ++ x ∷ []) c.in_ok-copy.ensures)
    ∙ added_beside g.K.Ord.cmp e known added (ap (λ b. b || is_among g.K.Ord.cmp e added) unknown ∙ new)
