use Rattle.std.proofs.Common.{◌≡◌, ◌+◌, true, false, not, drop, sym, ap, ◌∙◌, arith}
use Rattle.zt_check_finals.specs.Finishing.{is_followed_by_none}
use Rattle.zt_check_finals.proofs.Steps.{none_more, not_no, not_yes, rest_is, some_more}
use Rattle.zt_check_finals.proofs.finals.nothing_follows_finals.Goals as goal

pub loop-place-preserved : goal.loop-place-preserved
loop-place-preserved g c =
    let s = c.args.fabric.now in
    let m = c.index-sents-place.result in
    let ms = c.args.sents.now in
    let i = c.loop-place.place in
    let said : not (is_followed_by_none s m.face m.message (drop (i + 1) ms)) ≡ false =
    ap (λ later. not (is_followed_by_none s m.face m.message later)) (sym (rest_is (i + 1) ms)) ∙ (sym c.is_followed.ensures ∙ c.if-is_followed.false) in
    none_more s ms i m (omega arith) c.index-sents-place.is c.loop-place.invariant (not_no (is_followed_by_none s m.face m.message (drop (i + 1) ms)) said)

pub returns-then-is_followed : goal.returns-then-is_followed
returns-then-is_followed g c =
    let s = c.args.fabric.now in
    let m = c.index-sents-place.result in
    let ms = c.args.sents.now in
    let i = c.loop-place.place in
    let said : not (is_followed_by_none s m.face m.message (drop (i + 1) ms)) ≡ true =
    ap (λ later. not (is_followed_by_none s m.face m.message later)) (sym (rest_is (i + 1) ms)) ∙ (sym c.is_followed.ensures ∙ c.if-is_followed.true) in
    some_more s ms i m (omega arith) c.index-sents-place.is c.loop-place.invariant (not_yes (is_followed_by_none s m.face m.message (drop (i + 1) ms)) said)
