use Rattle.std.proofs.Common.{refl}
use Rattle.zt_laws.proofs.ShownLines.{fabric_is_shown, line_is_shown}
use Rattle.zt_laws.proofs.ShownRows.{call_shown_is}
use Rattle.zt_laws.proofs.shown.transcripts_show_what_is_kept.Goals as goal

pub returns : goal.returns
returns g c =
    let cmp = g.K.Ord.cmp in
    let matching = g.K.Key.matching in
    let total = g.met.K.Ord.total in
    record {
      call = λ c g rows. call_shown_is cmp matching total c g rows.lists;
      start = refl;
      line = λ line s fine. line_is_shown cmp matching total line s fine;
      entry = λ line s fine. fabric_is_shown cmp matching total line s fine;
    }
