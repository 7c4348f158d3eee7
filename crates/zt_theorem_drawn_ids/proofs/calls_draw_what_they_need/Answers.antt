use Rattle.zt_theorem_drawn_ids.proofs.Needs.{drawn_call}
use Rattle.zt_theorem_drawn_ids.proofs.calls_draw_what_they_need.Goals as goal

pub returns : goal.returns
returns g c = λ spent call rows real accepted draws sound. drawn_call g.K.Ord.cmp g.K.Key.matching g.met.K.Ord.total spent call rows real accepted draws sound
