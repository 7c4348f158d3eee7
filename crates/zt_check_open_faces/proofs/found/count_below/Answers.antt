use Rattle.std.proofs.Common.{nat_lt, rules}
use Rattle.std.proofs.lemmas.Fn.{always_returns_same}
use Rattle.zt_model.specs.Rows.{Face}
use Rattle.zt_check_open_faces.proofs.Rising.{are_parted, cut_of}
use Rattle.zt_check_open_faces.proofs.found.count_below.Goals as goal

pub returns : goal.returns
returns g c =
    let n = c.args.number in
    cut_of n c.args.faces.now c.partition_point.result c.partition_point.ensures.bound
    (c.partition_point.ensures.partitioned (λ f. nat_lt f.number n) (always_returns_same _ _ _ (λ a r h called. (search rules, search rules))) (are_parted n c.args.faces.now c.requires))
