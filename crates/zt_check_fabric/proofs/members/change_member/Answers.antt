use Rattle.std.proofs.Common.{sym}
use Rattle.std.proofs.lemmas.Result.{on_ok_weaker}
use Rattle.zt_check_fabric.proofs.Numbered.{at_nth_none, changed_there}
use Rattle.zt_check_fabric.proofs.members.change_member.Goals as goal

pub returns-in_default : goal.returns-in_default
returns-in_default g c =
    let none = rw c.as_slice.ensures.value at c.in_default.ensures.none in
    sym (at_nth_none c.args.number (g.C.Change.changed c.args.change.now) c.args.members.now.items none)

pub returns : goal.returns
returns g c =
    on_ok_weaker c.change.result
    (λ changed.
    changed_there c.args.number c.in-Some.place (g.C.Change.changed c.args.change.now) c.args.members.now.items c.as_slice.result.now c.index_mut.result.now c.change.new.member
    c.in-Some.ensures.counted c.as_slice.ensures.value c.in-Some.ensures.within c.index_mut.ensures.value changed)
    c.change.ensures
