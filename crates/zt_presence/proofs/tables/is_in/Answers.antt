use Rattle.std.proofs.Common.{◌∙◌}
use Rattle.zt_presence.proofs.TableLemmas.{key_found}
use Rattle.zt_presence.proofs.tables.is_in.Goals as goal

pub returns : goal.returns
returns g c =
    c.is_ok.ensures.value ∙ key_found g.K.Ord.cmp g.met.K.Ord.total c.args.key.now c.args.table.now c.binary_search.result c.requires c.binary_search.ensures.bound c.binary_search.ensures.position
