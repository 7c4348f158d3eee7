use Rattle.std.proofs.Common.{rules, tests, map, string_bytes}
use Rattle.std.proofs.lemmas.Iterator.{YieldsList-from_slice}
use Rattle.std.proofs.lemmas.Iterator.Search.{all_from_yields_List}
use Rattle.std.proofs.lemmas.List.Folds.{list_all-map}
use Rattle.zt_region.specs.South.{is_text_listed}
use Rattle.zt_region.proofs.matching.are_names_listed.Goals as goal

pub returns : goal.returns
returns c =
    rw list_all-map (all_from_yields_List (λ s. is_text_listed (map string_bytes c.args.listed.now) (string_bytes s)) _ _ _ c.all.ensures.ran
    (YieldsList-from_slice c.args.names.now cc) (λ x b q k. search (rules, tests)))
