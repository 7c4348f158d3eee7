use Rattle.std.proofs.Common.{sym, ◌∙◌}
use Rattle.zt_region.specs.declared.region.Region.TheVariants.{North}
use Rattle.zt_indexes.proofs.OneEach.{count-first, count-none}
use Rattle.zt_indexes.proofs.regions.count_among.Goals as goal

pub returns-in-Some : goal.returns-in-Some
returns-in-Some c = count-first c.args.region c.args.rows.now c.in-Some.place (North, 0) (sym c.own_place.ensures ∙ c.in-Some.is)

pub returns-in-None : goal.returns-in-None
returns-in-None c each = count-none c.args.region c.args.rows.now (sym c.own_place.ensures ∙ c.in-None.is)
