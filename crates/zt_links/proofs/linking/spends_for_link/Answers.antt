use Rattle.std.proofs.Common.{◌≡◌, ◌||◌, ◌==◌, false, ap, sym, ◌∙◌, arith, ne_eqb}
use Rattle.std.proofs.lemmas.Result.{IfOk-weaker}
use Rattle.zt_protocol.specs.Plain.{plain_call}
use Rattle.zt_model.specs.Fabric.{call_at}
use Rattle.zt_model.specs.Lists.{is_some_and}
use Rattle.zt_model.specs.Refusals.{spends_ids}
use Rattle.zt_links.specs.Lines.{opened_by_call}
use Rattle.zt_links.proofs.Turned.{spends_apart, spends_same}
use Rattle.zt_links.proofs.linking.spends_for_link.Goals as goal

pub returns-then-one-two : goal.returns-then-one-two
returns-then-one-two g c =
    let cmp = g.K.Ord.cmp in
    let matching = g.K.Key.matching in
    let s = c.args.s.now in
    let forth = plain_call c.args.forth.now in
    let back = plain_call c.args.back.now in
    let first : is_some_and (call_at s c.args.one forth) (λ at. spends_ids cmp matching at.call at.rows) ≡ false = sym c.in_ok-spends_at.ensures ∙ c.if-branch.false in
    IfOk-weaker c.spends_behind.result _ _
    (λ spends is.
    is
    ∙ spends_same cmp matching g.met.K.Ord.total c.args.one c.args.two forth back s c.if-one-two.true c.requires.opens c.requires.order
    ∙ ap (λ b. b || is_some_and (call_at (opened_by_call cmp matching c.args.one forth s) c.args.two back) (λ at. spends_ids cmp matching at.call at.rows)) (sym first))
    c.spends_behind.ensures

pub returns : goal.returns
returns g c =
    let cmp = g.K.Ord.cmp in
    let matching = g.K.Key.matching in
    let s = c.args.s.now in
    let forth = plain_call c.args.forth.now in
    let back = plain_call c.args.back.now in
    let first : is_some_and (call_at s c.args.one forth) (λ at. spends_ids cmp matching at.call at.rows) ≡ false = sym c.in_ok-spends_at.ensures ∙ c.if-branch.false in
    let apart : (c.args.two == c.args.one) ≡ false = ne_eqb c.args.two c.args.one (omega arith) in
    IfOk-weaker c.spends_at-2.result _ _
    (λ spends is.
    is
    ∙ spends_apart cmp matching g.met.K.Ord.total c.args.one c.args.two forth back s apart c.requires.opens c.requires.order
    ∙ ap (λ b. b || is_some_and (call_at (opened_by_call cmp matching c.args.one forth s) c.args.two back) (λ at. spends_ids cmp matching at.call at.rows)) (sym first))
    c.spends_at-2.ensures
