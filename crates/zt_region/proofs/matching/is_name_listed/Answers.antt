use Rattle.std.proofs.Common.{rules, tests, string_bytes}
use Rattle.std.specs.Str.{bytes_eq}
use Rattle.std.proofs.lemmas.Iterator.{YieldsList-from_slice}
use Rattle.std.proofs.lemmas.Iterator.Search.{any_from_yields_List}
use Rattle.zt_region.proofs.Lists.{list_any-map}
use Rattle.zt_region.proofs.matching.is_name_listed.Goals as goal

pub returns : goal.returns
returns c =
    rw list_any-map (any_from_yields_List (λ s. bytes_eq c.args.name.now (string_bytes s)) _ _ _ c.any.ensures.ran
    (YieldsList-from_slice c.args.listed.now cc) (λ x b q k. search (rules, tests)))
