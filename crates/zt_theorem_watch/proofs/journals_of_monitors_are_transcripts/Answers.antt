use Rattle.zt_theorem_watch.proofs.Polled.{are_watched}
use Rattle.zt_theorem_watch.proofs.journals_of_monitors_are_transcripts.Goals as goal

pub returns : goal.returns
returns g c = λ mode zid regions south name timeout refused makings workers calls monitor journal dealt may accepted making real replay count expr polls.
    are_watched g.K.Ord.cmp g.K.Key.matching g.met.K.Ord.total mode zid regions south name timeout refused makings workers calls monitor journal dealt may accepted making real replay count expr polls
