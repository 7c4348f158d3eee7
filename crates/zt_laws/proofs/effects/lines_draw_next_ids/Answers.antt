use Rattle.zt_laws.proofs.LinesDraw.{turn_draws}
use Rattle.zt_laws.proofs.effects.lines_draw_next_ids.Goals as goal

pub returns : goal.returns
returns g c = λ line s real fine. turn_draws g.K.Ord.cmp g.K.Key.matching g.met.K.Ord.total line s real fine
