-- A list with one more.
--     HasOneMore x old new        x stands at one place of `new`, and the others are `old`
--     IsMoreBy is_more x old new  that, where it is more, and else nothing has changed
use Rattle.std.specs.Prelude.{◌≡◌, Bool, true, false, List, ◌∷◌, ◌++◌}

module _ {A : Type 0} where
  pub record HasOneMore (x : A) (old new : List A) : Type 0 where
    pub front : List A
    pub back : List A
    pub others : old ≡ front ++ back
    pub whole : new ≡ front ++ x ∷ back

  abbrev pub IsMoreBy : Bool → A → List A → List A → Type 0
  IsMoreBy true x old new = HasOneMore x old new
  IsMoreBy false x old new = new ≡ old
