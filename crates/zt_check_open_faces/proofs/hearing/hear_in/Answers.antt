use Rattle.std.proofs.Common.{subst, sym}
use Rattle.zt_model.specs.Hearing.{heard}
use Rattle.zt_check_faces.specs.Faces.{if_number}
use Rattle.zt_check_open_faces.specs.Found.{AreTold}
use Rattle.zt_check_open_faces.specs.Open.{NumbersRise}
use Rattle.zt_check_open_faces.proofs.Rising.{rise_changed}
use Rattle.zt_check_open_faces.proofs.Telling.{number_heard, told_heard}
use Rattle.zt_check_open_faces.proofs.hearing.hear_in.Goals as goal

pub forget_gone-requires-clause-rise : goal.forget_gone-requires-clause-rise
forget_gone-requires-clause-rise g c =
    let change = if_number c.args.number (heard g.K.Ord.cmp c.args.moment c.args.message.now) in
    subst (NumbersRise 0) (sym c.as_slice-2.ensures.value)
    (subst (NumbersRise 0) (sym c.in_ok-change_in.ensures)
    (rise_changed change (number_heard g.K.Ord.cmp c.args.number c.args.moment c.args.message.now) 0 c.args.faces.now.items c.requires.rise))

pub forget_gone-requires-clause-told : goal.forget_gone-requires-clause-told
forget_gone-requires-clause-told g c =
    subst (AreTold g.K.Ord.cmp c.add_told.new.told) (sym c.as_slice-2.ensures.value)
    (told_heard g.K.Ord.cmp c.args.number c.args.moment c.args.message.now c.args.told.now c.add_told.new.told c.args.faces.now.items c.change_in.new.faces.items c.in_ok-add_told.ensures.kept c.in_ok-add_told.ensures.telling c.in_ok-change_in.ensures c.requires.told)
