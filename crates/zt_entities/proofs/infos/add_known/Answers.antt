use Rattle.std.proofs.Common.{ap, ◌∙◌}
use Rattle.zt_entities.proofs.Knowing.{known-more}
use Rattle.zt_entities.specs.Merging.{merged_with}
use Rattle.zt_entities.proofs.infos.add_known.Goals as goal

pub returns : goal.returns
returns g c found known =
    known-more g.K.Ord.cmp g.met.K.Ord.total g.met.K.Key.laws.equal_is_same c.args.queryable.now c.merged_with-info.result found c.args.known.now.entries c.insert.new.self.entries
    (c.merged_with-info.ensures ∙ ap (merged_with c.args.queryable.now.1) (c.copied.ensures ∙ c.get.ensures.value))
    (rw c.in_ok-copy.ensures at c.in_ok-insert.ensures.entries)
    (rw c.in_ok-copy.ensures at c.in_ok-insert.ensures.updates.0)
    known
