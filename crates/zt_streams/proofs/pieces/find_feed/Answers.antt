use Rattle.std.proofs.Common.{None, Some}
use Rattle.zt_streams.proofs.FeedLemmas.{FindsFeed-from_search}
use Rattle.zt_streams.proofs.pieces.find_feed.Goals as goal

pub returns-in_err-place : goal.returns-in_err-place
returns-in_err-place c = rw c.from_residual.ensures (FindsFeed-from_search c.args.bytes.now c.args.from None c.requires c.in_err-place.ensures)

pub returns : goal.returns
returns c = FindsFeed-from_search c.args.bytes.now c.args.from (Some c.in_ok-place.place) c.requires c.in_ok-place.ensures
