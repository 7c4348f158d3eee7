-- The gateway that workers call at first.
use Rattle.std.proofs.Common.{◌≡◌, ℕ, ◌+◌, ◌≤◌, Bool, true, false, not, List, [], ◌∷◌, ◌++◌, length, map, filter, take, None, refl, sym, ap, ◌∙◌, subst, arith, append-nil}
use Rattle.std.specs.Cmp.{IsTotalOrder}
use Rattle.std.proofs.lemmas.List.{length-map, take_all}
use Rattle.std.specs.declared.cmp.Ordering.{Ordering}
use Rattle.zt_protocol.specs.Plain.{PlainCall, PlainLine, Gateway, Session, Face as FaceLine, Link, Unlink, Step, Speak, Moment, SetTreesAt}
use Rattle.zt_model.specs.Fabric.{Fabric, empty_fabric, line_causes}
use Rattle.zt_model.specs.Journal.{is_making, is_speaking, rows_replayed}
use Rattle.zt_model.specs.Refusals.{first_cause}
use Rattle.zt_model.specs.Rows.{Rows}
use Rattle.zt_model.specs.Transcript.{Each}
use Rattle.zt_laws.specs.Sound.{HasFirstIds}
use Rattle.zt_laws.proofs.Lists.{never}
use Rattle.zt_gateway.specs.Settings.{Settings, line_of, new_gateway}
use Rattle.zt_theorem_journal.specs.Alone.{IsAlone, rows_made}
use Rattle.zt_theorem_journal.specs.Dealt.{numbered_from, script_of}
use Rattle.zt_theorem_watch.specs.Beside.{order_beside}
use Rattle.zt_theorem_watch.specs.Watched.{fabric_of}
use Rattle.zt_theorem_watch.proofs.Beside.{order_is_of}
use Rattle.zt_theorem_watch.proofs.Lists.{numbered_long}
use Rattle.zt_theorem_watch.proofs.Machine.{alone_before}

module _ {K : Type 0} where
  abbrev is_silent : PlainLine K → Bool
  is_silent line = not (is_speaking line)

  silent : (line : PlainLine K) → is_making line ≡ true → is_silent line ≡ true
  silent (Gateway mode zid regions south name timeout refused) making = refl
  silent (Session gateway first) making = refl
  silent (FaceLine gateway mode zid region bound first) making = refl
  silent (Link one two first back) making = refl
  silent (Unlink link) making = refl
  silent (Step link back) making = refl
  silent (Speak call) making = never making refl
  silent (Moment gateway now) making = refl
  silent (SetTreesAt gateway region table) making = refl

  none_silent : (calls : List (PlainCall K)) → filter is_silent (map (λ c. Speak c) calls) ≡ []
  none_silent [] = refl
  none_silent (c ∷ calls) = none_silent calls

  first_silent : (makings : List (PlainLine K)) (calls : List (PlainCall K)) → Each (λ m. is_making m ≡ true) makings → filter is_silent (makings ++ map (λ c. Speak c) calls) ≡ makings
  first_silent [] calls making = none_silent calls
  first_silent (m ∷ makings) calls making = rw (silent m making.0) (ap (λ ms. m ∷ ms) (first_silent makings calls making.1))

module _ {K : Type 0} (cmp : K → K → Ordering) (matching : K → K → Bool) (total : IsTotalOrder cmp) (s : Settings) (makings : List (PlainLine K)) (calls : List (PlainCall K)) where
  -- it has the rows that the lines leave which don't speak
  pub starts_alone : first_cause (line_causes cmp matching false (line_of {K = K} s) empty_fabric) ≡ None → Each (λ m. is_making m ≡ true) makings → Each HasFirstIds makings
      → IsAlone cmp matching (rows_made cmp matching makings (new_gateway {K = K} s).rows) (fabric_of cmp matching (filter is_silent (script_of (line_of s) makings calls)) empty_fabric)
  unfolding rows_replayed
  starts_alone accepted making real =
      subst (λ ls. IsAlone cmp matching (rows_made cmp matching makings (new_gateway {K = K} s).rows) (fabric_of cmp matching ls empty_fabric)) lines_are
      (alone_before cmp matching total s.mode s.zid s.regions s.south s.name s.timeout s.refused makings accepted making real [] tt 0)
    where
      count : ℕ
      count = (1 + length makings) + 0

      order : List (ℕ × PlainLine K)
      order = order_beside (line_of s) makings []

      short : length order ≤ count
      short = let long = numbered_long 2 makings in let same : length (numbered_from 2 makings ++ []) ≡ length (numbered_from 2 makings) = ap length (append-nil (numbered_from 2 makings)) in omega arith

      lines_are : map (λ x. x.1) (take count order) ≡ filter is_silent (script_of (line_of s) makings calls)
      lines_are =
          ap (map (λ (x : ℕ × PlainLine K). x.1)) (take_all count order short) ∙ order_is_of (line_of s) makings []
          ∙ ap (λ ms. line_of s ∷ ms) (append-nil makings ∙ sym (first_silent makings calls making))
