use Rattle.std.proofs.Common.{◌≡◌, ◌++◌}
use Rattle.zt_model.specs.Parts.{to_each}
use Rattle.zt_tokens.proofs.walking.say_each.Given as goal

-- what is sent so far, and to the faces left, is all
abbrev pub invariant-loop-f : goal.invariant-loop-f
invariant-loop-f g l =
    let rule = g.R.FaceRule.given l.rule l.g in
    l.sends.items ++ to_each rule l.f-iterator ≡ to_each rule l.g.faces
