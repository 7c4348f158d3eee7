use Rattle.std.proofs.Common.{◌≡◌, None}
use Rattle.zt_model.specs.Lists.{nth}
use Rattle.zt_links.proofs.Closings.{unlink_nothing_does, unlink_nothing_says}
use Rattle.zt_links.proofs.unlinking.unlink.Goals as goal

pub returns-in-None-clause-says : goal.returns-in-None-clause-says
returns-in-None-clause-says g c =
    let none : nth c.args.link c.args.s.now.links ≡ None = rw c.links.ensures at c.in-None.ensures.none in
    rw c.new.ensures.items (unlink_nothing_says g.K.Ord.cmp g.K.Key.matching g.met.K.Ord.total c.args.link c.args.s.now none)

pub returns-in-None-clause-does : goal.returns-in-None-clause-does
returns-in-None-clause-does g c =
    let none : nth c.args.link c.args.s.now.links ≡ None = rw c.links.ensures at c.in-None.ensures.none in
    rw c.new.ensures.items (unlink_nothing_does g.K.Ord.cmp g.K.Key.matching g.met.K.Ord.total c.args.link c.args.s.now none)
