use Rattle.std.proofs.Common.{◌≡◌, ap, refl, sym, ◌∙◌}
use Rattle.std.proofs.lemmas.Result.{on_ok_weaker}
use Rattle.zt_calls.proofs.Doing.{does-say, heard_of}
use Rattle.zt_model.specs.Hearing.{rows_heard}
use Rattle.zt_model.specs.Trees.{but_for}
use Rattle.zt_calls.proofs.speech.say.Goals.{in-Some, in_default}
use Rattle.zt_calls.proofs.speech.say.Goals as goal

pub returns : goal.returns
returns g c =
    on_ok_weaker c.add.result
    (λ added rule is.
    let cmp = g.K.Ord.cmp in
    let s = c.args.speech.now in
    let heard : c.match-speech.sends.items ≡ heard_of s.spared (rule c.args.g.now) =
    elim c.match-speech.branch [
      | in-Some w ↦ ap (λ v. v.items) w.sends-is ∙ w.spare.ensures ∙ ap (but_for cmp w.in-Some.face) is ∙ ap (λ spared. heard_of spared (rule c.args.g.now)) (sym w.in-Some.is)
      | in_default w ↦ ap (λ v. v.items) w.sends-is ∙ is ∙ ap (λ spared. heard_of spared (rule c.args.g.now)) (sym w.in_default.is)
    ] in
    does-say cmp g.K.Key.matching rule c.args.g.now c.hear_all.new.self s _ c.match-speech.sends.items heard refl
    (c.in_ok-hear_all.ensures ∙ ap (λ sends. rows_heard cmp sends c.args.g.now) c.as_slice.ensures.value)
    added)
    c.add.ensures
