use Rattle.zt_face.proofs.Found.{none_rise}
use Rattle.zt_face.proofs.ids.ids_of.Goals as goal

pub returns-in-None-clause-rising : goal.returns-in-None-clause-rising
returns-in-None-clause-rising g c = none_rise _ c.in-None.ensures.value
