use Rattle.std.proofs.Common.{refl}
use Rattle.zt_laws.proofs.Seen.{admitted_is, hears_is, interested_is, owed_is, seen_is, sees_is}
use Rattle.zt_laws.proofs.shown.words_of_promises_are_kept_to.Goals as goal

pub returns : goal.returns
returns g c =
    let cmp = g.K.Ord.cmp in
    let matching = g.K.Key.matching in
    record {
      declared = λ f interest. refl;
      interested = interested_is matching;
      hears = hears_is matching;
      owed = owed_is matching;
      regions = sees_is;
      seen = seen_is cmp;
      admitted = admitted_is cmp;
    }
