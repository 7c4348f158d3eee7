-- What is promised of tokens beside `Promises`: one that answers nobody is printed only for a face that doesn't keep it yet.
use Rattle.std.specs.Prelude.{◌≡◌, Bool, true, ◌==◌, ◌||◌, not, List, [], ◌∷◌, None}
use Rattle.std.specs.declared.cmp.Ordering.{Ordering}
use Rattle.zt_protocol.specs.declared.messages.Message.{Message}
use Rattle.zt_protocol.specs.declared.messages.Message.TheVariants as message
use Rattle.zt_model.specs.Hearing.{heard}
use Rattle.zt_model.specs.Promises.{EachFace, Turn, printed_to, with_line}
use Rattle.zt_model.specs.Rows.{Face}
use Rattle.zt_model.specs.Visible.{keeps}

module _ {K : Type 0} (cmp : K → K → Ordering) (matching : K → K → Bool) where
  -- among routers tokens have the id 0, and no face keeps any
  abbrev pub is_news : Message K → Face K → Bool
  is_news (message.DeclareToken id e None node) f = (id == 0) || not (keeps cmp f e)
  is_news _ f = true

  -- each message is, as the face is when it comes to it
  abbrev pub AreNews : List (Message K) → Face K → Type 0
  AreNews [] f = Unit {0}
  AreNews (m ∷ ms) f = (is_news m f ≡ true) × AreNews ms (heard cmp 0 m f)

  -- what a turn prints for its faces is
  abbrev pub TellsWhatIsNew : Turn K → Type 0
  TellsWhatIsNew t = EachFace (λ n g f. AreNews (printed_to t n f) f) (with_line cmp matching t)
