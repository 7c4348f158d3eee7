use Rattle.zt_token_index.proofs.SeekersChanged.{seekers-closed}
use Rattle.zt_token_index.proofs.seekers.Seekers.close.Goals as goal

pub returns : goal.returns
returns g c = rw (← c.self.view_is) (seekers-closed g.K.Ord.cmp g.K.Key.anchored c.args.f.now _ _ (rw c.number.ensures at c.drop_number.ensures) c.untell_all.ensures c.drop_all.ensures.tokens c.drop_all.ensures.others)
