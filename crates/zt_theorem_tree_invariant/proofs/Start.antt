-- Before the first line.
use Rattle.std.proofs.Common.{Bool, arith}
use Rattle.std.specs.declared.cmp.Ordering.{Ordering}
use Rattle.zt_model.specs.Fabric.{empty_fabric}
use Rattle.zt_theorem_tree_invariant.specs.Facts.{TreesAgree}

pub agree_at_first : {K : Type 0} (cmp : K → K → Ordering) (matching : K → K → Bool) → TreesAgree cmp matching empty_fabric
agree_at_first cmp matching = record {
  gateways = tt;
  joints = λ a b x y joined. cc;
  links = record { meet = λ a b joined. cc; once = λ a b c joined. cc; stay = λ a x found some. cc; wait = λ a b joined. cc; made = tt; rise = tt; rows = tt };
  forest = record { rank = λ n. 0; within = λ n. omega arith; falls = λ a b x y joined. cc };
}
