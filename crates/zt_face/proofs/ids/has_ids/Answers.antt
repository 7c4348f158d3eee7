use Rattle.zt_face.proofs.Found.{none_rise}
use Rattle.zt_face.proofs.ids.has_ids.Goals as goal

pub returns-in-None-clause-rising : goal.returns-in-None-clause-rising
returns-in-None-clause-rising g c = none_rise _ c.in-None.ensures.value
