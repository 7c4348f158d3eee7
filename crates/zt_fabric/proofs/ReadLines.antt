-- A line that is read names first ids of at least 1, and an interest's named options alone.
use Rattle.std.proofs.Common.{◌≡◌, ℕ, ◌≤◌, ◌<◌, List, [], ◌∷◌, map, codes, Option, Some, None, Result, Ok, unwrap_or, sym, subst, arith}
use Rattle.zt_keys.specs.declared.error.KeyError.{KeyError}
use Rattle.zt_protocol.specs.Plain.{NewSession, NewTransport, DeclareToken, UndeclareToken, Interest, InterestFinal, DeclareFinal, CloseFace, Expire, SetTrees, SetEntities, PlainLine, Gateway, Session, Face, Link, Unlink, Step, Speak, Moment, SetTreesAt}
use Rattle.zt_lines.specs.Fields.{Fields, fields_of}
use Rattle.zt_lines.specs.Spellings.{IsFirst, MayStand, StandsOr}
use Rattle.zt_lines.specs.Grammar.{IsLine}
use Rattle.zt_lines.specs.Reading.{line_read}
use Rattle.zt_lines.proofs.ReadingLaw.{read_exactly}
use Rattle.zt_laws.specs.Sound.{HasFirstIds}
use Rattle.zt_theorem_transcript.specs.Named.{HasNamedOptions}
use Rattle.zt_model.specs.Transcript.{Each}

first_is_real : (word : List ℕ) (fields : Fields) (n : ℕ) (given : Option ℕ) → MayStand word IsFirst fields given → n ≡ unwrap_or given 1 → 1 ≤ n
first_is_real word fields n None stands is = subst (λ k. 1 ≤ k) (sym is) (omega arith)
first_is_real word fields n (Some value) stands is = let positive : 0 < value = stands.2.1 in subst (λ k. 1 ≤ k) (sym is) (omega (arith, positive))

real_first : (word : List ℕ) (fields : Fields) (n : ℕ) → StandsOr word IsFirst 1 fields n → 1 ≤ n
real_first word fields n stands = first_is_real word fields n stands.0 stands.1 stands.2

module _ {K : Type 0} (reading : List ℕ → Result K KeyError) where
  first_ids_in : (fields : Fields) (line : PlainLine K) → IsLine reading fields line → HasFirstIds line
  first_ids_in fields (Gateway mode zid regions south name timeout refused) is = tt
  first_ids_in fields (Session gateway first) is = real_first (codes "first=") is.1 first is.4
  first_ids_in fields (Face gateway mode zid region bound first) is = real_first (codes "first=") is.5 first is.12
  first_ids_in fields (Link one two first back) is = (real_first (codes "first=") is.2 first is.7, real_first (codes "back=") is.3 back is.8)
  first_ids_in fields (Unlink link) is = tt
  first_ids_in fields (Step link back) is = tt
  first_ids_in fields (Speak call) is = tt
  first_ids_in fields (Moment gateway now) is = tt
  first_ids_in fields (SetTreesAt gateway region table) is = tt

  -- a line that is read has them
  pub first_ids_read : (bytes : List ℕ) (line : PlainLine K) → line_read reading bytes ≡ Ok line → HasFirstIds line
  first_ids_read bytes line h = first_ids_in (fields_of bytes) line ((read_exactly reading bytes line).0 h).1

  -- and so have lines that are read from texts
  pub first_ids_of : (texts : List (List ℕ)) (lines : List (PlainLine K)) → map (line_read reading) texts ≡ map (λ line. Ok line) lines → Each HasFirstIds lines
  first_ids_of texts [] h = tt
  first_ids_of [] (line ∷ lines) h = absurd (cc)
  first_ids_of (bytes ∷ texts) (line ∷ lines) h =
      let head : line_read reading bytes ≡ Ok line = cc in
      let others : map (line_read reading) texts ≡ map (λ line. Ok line) lines = cc in
      (first_ids_read bytes line head, first_ids_of texts lines others)

  -- ---- options

  named_options_in : (fields : Fields) (line : PlainLine K) → IsLine reading fields line → HasNamedOptions line
  named_options_in fields (Speak (Interest face id mode options expr)) is = is.9.known
  named_options_in fields (Speak (NewSession first)) is = tt
  named_options_in fields (Speak (NewTransport zid mode region bound first)) is = tt
  named_options_in fields (Speak (DeclareToken face id expr node interest)) is = tt
  named_options_in fields (Speak (UndeclareToken face id expr node)) is = tt
  named_options_in fields (Speak (InterestFinal face id)) is = tt
  named_options_in fields (Speak (DeclareFinal face interest)) is = tt
  named_options_in fields (Speak (CloseFace face)) is = tt
  named_options_in fields (Speak (Expire now)) is = tt
  named_options_in fields (Speak (SetTrees region table)) is = tt
  named_options_in fields (Speak (SetEntities face subscribers queryables)) is = tt
  named_options_in fields (Gateway mode zid regions south name timeout refused) is = tt
  named_options_in fields (Session gateway first) is = tt
  named_options_in fields (Face gateway mode zid region bound first) is = tt
  named_options_in fields (Link one two first back) is = tt
  named_options_in fields (Unlink link) is = tt
  named_options_in fields (Step link back) is = tt
  named_options_in fields (Moment gateway now) is = tt
  named_options_in fields (SetTreesAt gateway region table) is = tt

  named_options_read : (bytes : List ℕ) (line : PlainLine K) → line_read reading bytes ≡ Ok line → HasNamedOptions line
  named_options_read bytes line h = named_options_in (fields_of bytes) line ((read_exactly reading bytes line).0 h).1

  pub named_options_of : (texts : List (List ℕ)) (lines : List (PlainLine K)) → map (line_read reading) texts ≡ map (λ line. Ok line) lines → Each HasNamedOptions lines
  named_options_of texts [] h = tt
  named_options_of [] (line ∷ lines) h = absurd (cc)
  named_options_of (bytes ∷ texts) (line ∷ lines) h =
      let head : line_read reading bytes ≡ Ok line = cc in
      let others : map (line_read reading) texts ≡ map (λ line. Ok line) lines = cc in
      (named_options_read bytes line head, named_options_of texts lines others)
