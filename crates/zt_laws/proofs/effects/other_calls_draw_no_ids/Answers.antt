use Rattle.zt_laws.proofs.Drawing.{others_draw_nothing}
use Rattle.zt_laws.proofs.effects.other_calls_draw_no_ids.Goals as goal

pub returns : goal.returns
returns g c = λ call rows draws real ordered. others_draw_nothing g.K.Ord.cmp g.K.Key.matching g.met.K.Ord.total call rows draws real ordered
