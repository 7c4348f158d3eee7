use Rattle.std.proofs.Common.{false, sym}
use Rattle.zt_model.specs.Places.{Link}
use Rattle.zt_check_fabric.proofs.Numbered.{at_nth_none, changed_there}
use Rattle.zt_check_fabric.proofs.places.close_link.Goals as goal

abbrev closed : Link → Link
closed l = record l { is_open = false }

pub returns-in_default : goal.returns-in_default
returns-in_default c =
    let none = rw c.as_slice.ensures.value at c.in_default.ensures.none in
    sym (at_nth_none c.args.number closed c.args.links.now.items none)

pub returns : goal.returns
returns c =
    changed_there c.args.number c.in-Some.place closed c.args.links.now.items c.as_slice.result.now c.index_mut.result.now c.close.new.self
    c.in-Some.ensures.counted c.as_slice.ensures.value c.in-Some.ensures.within c.index_mut.ensures.value c.close.ensures
