use Rattle.std.proofs.Common.{◌≡◌, ◌∙◌, Bor, Option, None, Some, ap, is_some, refl}
use Rattle.std.specs.Option.{option_copied}
use Rattle.zt_rows.proofs.ById.{has_is}
use Rattle.zt_rows.proofs.rows.RowsById.has.Goals as goal

pub returns : goal.returns
returns g c = c.is_some.ensures ∙ some-copied c.at.result ∙ ap is_some c.at.ensures.row ∙ has_is c.args.id c.args.self.now
  where
    some-copied : {A : Type 0} (o : Option (Bor A)) → is_some o ≡ is_some (option_copied o)
    some-copied None = refl
    some-copied (Some x) = refl
