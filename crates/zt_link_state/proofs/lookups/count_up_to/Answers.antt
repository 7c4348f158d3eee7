use Rattle.std.proofs.Common.{nat_le, rules}
use Rattle.std.proofs.lemmas.List.Sorted.{IsPartitionPoint-from_clause, IsPartitionedBy-leb}
use Rattle.zt_link_state.specs.Lookups.{number_of_source}
use Rattle.zt_link_state.proofs.lookups.count_up_to.Goals as goal

pub returns-clause-parted : goal.returns-clause-parted
returns-clause-parted c =
    let pairs = c.args.pairs.now in
    IsPartitionPoint-from_clause (λ p. nat_le (number_of_source p) c.args.source.0) pairs c.partition_point.result c.partition_point.ensures.partitioned
    (IsPartitionedBy-leb number_of_source pairs c.args.source.0 c.requires) (λ a r f called. (search rules, search rules))
