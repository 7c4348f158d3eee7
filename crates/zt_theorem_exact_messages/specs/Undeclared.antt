-- What is promised of undeclarations by expression beside `Promises`: they have the id 0, and outside router regions one is
-- printed only for a face that wants the expression and doesn't keep it.
use Rattle.std.specs.Prelude.{◌≡◌, Bool, true, ◌==◌, ◌&&◌, ◌||◌, not, List, [], ◌∷◌, Some}
use Rattle.std.specs.declared.cmp.Ordering.{Ordering}
use Rattle.zt_protocol.specs.declared.messages.Message.{Message}
use Rattle.zt_protocol.specs.declared.messages.Message.TheVariants as message
use Rattle.zt_model.specs.Hearing.{heard}
use Rattle.zt_model.specs.Parts.{is_routed}
use Rattle.zt_model.specs.Promises.{EachFace, Turn, printed_to, with_line}
use Rattle.zt_model.specs.Rows.{Face, Rows}
use Rattle.zt_model.specs.Seen.{is_interested}
use Rattle.zt_model.specs.Visible.{keeps}

module _ {K : Type 0} (cmp : K → K → Ordering) (matching : K → K → Bool) where
  -- a face that keeps the expression is told by its id; among routers none is kept, and there it's always by expression
  abbrev pub is_for_who_wants : Rows K → Message K → Face K → Bool
  is_for_who_wants g (message.UndeclareToken id (Some e) node) f =
      (id == 0) && (is_routed g f || (is_interested matching f e && not (keeps cmp f e)))
  is_for_who_wants g _ f = true

  -- each message is, as the face is when it comes to it
  abbrev pub AreForWhoWants : Rows K → List (Message K) → Face K → Type 0
  AreForWhoWants g [] f = Unit {0}
  AreForWhoWants g (m ∷ ms) f = (is_for_who_wants g m f ≡ true) × AreForWhoWants g ms (heard cmp 0 m f)

  -- what a turn prints for its faces is
  abbrev pub UndeclaresToWhoWants : Turn K → Type 0
  UndeclaresToWhoWants t = EachFace (λ n g f. AreForWhoWants g (printed_to t n f) f) (with_line cmp matching t)
