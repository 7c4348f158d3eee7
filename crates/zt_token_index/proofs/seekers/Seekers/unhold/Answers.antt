use Rattle.std.proofs.Common.{refl}
use Rattle.zt_token_index.proofs.SeekersChanged.{seekers-unheld}
use Rattle.zt_token_index.proofs.seekers.Seekers.unhold.Goals as goal

pub returns : goal.returns
returns g c = rw (← c.self.view_is) (seekers-unheld g.K.Ord.cmp g.K.Key.anchored c.args.f.now c.args.id _ _ refl refl c.drop_held.ensures.tokens c.drop_held.ensures.others)
