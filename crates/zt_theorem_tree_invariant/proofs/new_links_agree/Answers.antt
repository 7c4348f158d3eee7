use Rattle.zt_theorem_tree_invariant.proofs.Fresh.{opened_link_agrees, rows_of_tree}
use Rattle.zt_theorem_tree_invariant.proofs.new_links_agree.Goals as goal

pub returns : goal.returns
returns g c = λ zid whatami bound first rows lower upper tree ordered.
    opened_link_agrees g.K.Ord.cmp g.K.Key.matching g.met.K.Ord.total zid whatami bound first rows lower upper (rows_of_tree g.K.Ord.cmp g.K.Key.matching g.met.K.Ord.total rows tree ordered) ordered
