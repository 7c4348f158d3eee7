-- The words that lines begin with.
use Rattle.std.specs.Prelude.{ℕ, List, codes, Option, Some, None, if◌then◌else◌}
use Rattle.std.specs.Str.{bytes_eq}
use Rattle.zt_lines.specs.declared.words.Word.{Word}
use Rattle.zt_lines.specs.declared.words.Word.TheVariants.{Gateway, Session, Face, Link, Unlink, Step, Declare, Undeclare, Interest, InterestFinal, DeclareFinal, Close, Moment, Trees, Entities}

-- how a word is spelled
abbrev pub spelled : Word → List ℕ
spelled Gateway = codes "gateway"
spelled Session = codes "session"
spelled Face = codes "face"
spelled Link = codes "link"
spelled Unlink = codes "unlink"
spelled Step = codes "step"
spelled Declare = codes "declare"
spelled Undeclare = codes "undeclare"
spelled Interest = codes "interest"
spelled InterestFinal = codes "interest-final"
spelled DeclareFinal = codes "declare-final"
spelled Close = codes "close"
spelled Moment = codes "moment"
spelled Trees = codes "trees"
spelled Entities = codes "entities"

-- the word that a text spells
unfoldable pub word_of : List ℕ → Option Word
word_of text =
    if bytes_eq text (codes "declare") then Some Declare
    else if bytes_eq text (codes "undeclare") then Some Undeclare
    else if bytes_eq text (codes "step") then Some Step
    else if bytes_eq text (codes "interest") then Some Interest
    else if bytes_eq text (codes "session") then Some Session
    else if bytes_eq text (codes "close") then Some Close
    else if bytes_eq text (codes "face") then Some Face
    else if bytes_eq text (codes "link") then Some Link
    else if bytes_eq text (codes "moment") then Some Moment
    else if bytes_eq text (codes "interest-final") then Some InterestFinal
    else if bytes_eq text (codes "declare-final") then Some DeclareFinal
    else if bytes_eq text (codes "unlink") then Some Unlink
    else if bytes_eq text (codes "gateway") then Some Gateway
    else if bytes_eq text (codes "trees") then Some Trees
    else if bytes_eq text (codes "entities") then Some Entities
    else None
