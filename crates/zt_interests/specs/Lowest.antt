-- The one face that some interests go to, and an interest on its way.
--     lowest_up g                     the lowest face that leads to a gateway above
--     IsLowestAsked g mode lowest     it is that one, where an interest of this mode goes to one alone
--     interest_to i target            the interest as it is sent to a face under an id
use Rattle.std.specs.Prelude.{◌≡◌, ◌||◌, not, ℕ, false, Option, option_map}
use Rattle.zt_protocol.specs.Interest.{is_future}
use Rattle.zt_protocol.specs.declared.interests.InterestMode.{InterestMode}
use Rattle.zt_protocol.specs.declared.messages.Message.{Message}
use Rattle.zt_protocol.specs.declared.messages.Message.TheVariants as message
use Rattle.zt_model.specs.Hat.{north_hat}
use Rattle.zt_model.specs.Lists.{first_where}
use Rattle.zt_model.specs.Routing.{leads_up}
use Rattle.zt_model.specs.Rows.{InterestRow, Rows}

module _ {K : Type 0} where
  abbrev pub lowest_up : Rows K → Option ℕ
  lowest_up g = option_map (λ f. f.number) (first_where (leads_up g.mode) g.faces)

  abbrev pub IsLowestAsked : Rows K → InterestMode → Option ℕ → Type 0
  IsLowestAsked g mode lowest = (is_future mode || not (north_hat g.mode).asks_one) ≡ false → lowest ≡ lowest_up g

  abbrev pub interest_to : InterestRow K → ℕ × ℕ → ℕ × Message K
  interest_to i target = (target.0, message.Interest target.1 i.mode i.options i.expr)
