-- What hearing leaves of a face's told rows, phase by phase.
use Rattle.std.specs.Prelude.{ℕ, Bool, ◌+◌, not, if◌then◌else◌, List, [], ◌∷◌, ◌++◌, length, filter}
use Rattle.std.specs.List.{list_any}
use Rattle.std.specs.declared.cmp.Ordering.{Ordering}
use Rattle.zt_protocol.specs.Interest.{is_future}
use Rattle.zt_protocol.specs.declared.interests.InterestMode.{InterestMode}
use Rattle.zt_model.specs.Hearing.{put_if}
use Rattle.zt_model.specs.Lists.{same}
use Rattle.zt_model.specs.Rows.{ById, Face, InterestRow}

-- the face after it was told an expression under its next id
abbrev pub told_anew : {K : Type 0} → K → Face K → Face K
told_anew e f = record f { next = f.next + 1; told = f.told ++ (f.next, e) ∷ [] }

-- expressions under the ids from a number on
abbrev pub numbered : {K : Type 0} → ℕ → List K → ById K
numbered n [] = []
numbered n (e ∷ es) = (n, e) ∷ numbered (n + 1) es

module _ {K : Type 0} (cmp : K → K → Ordering) where
  -- whether an expression stands in rows
  abbrev pub names : K → ById K → Bool
  names e told = list_any (λ row. same cmp e row.1) told

  -- the expressions that stand in no row
  abbrev pub not_named : ById K → List K → List K
  not_named told es = filter (λ e. not (names e told)) es

  -- the rows but those of an expression
  abbrev pub without_key : K → ById K → ById K
  without_key e told = filter (λ row. not (same cmp e row.1)) told

  -- the face without its rows of an expression
  abbrev pub forgotten : K → Face K → Face K
  forgotten e f = record f { told = without_key e f.told }

module _ {K : Type 0} (cmp : K → K → Ordering) (matching : K → K → Bool) where
  -- what an interest's answers leave of told rows: new rows under the next ids, where it asks for what comes later
  abbrev pub told_after_answers : InterestMode → List K → Face K → ById K
  told_after_answers mode es f = if is_future mode then f.told ++ numbered f.next (not_named cmp f.told es) else f.told

  abbrev pub next_after_answers : InterestMode → List K → Face K → ℕ
  next_after_answers mode es f = if is_future mode then f.next + length (not_named cmp f.told es) else f.next

  -- The face after an interest in what is there now: it holds the interest where it asks for what comes later
  -- too, its told rows and next id are those that the answers leave, and no ask is left.
  abbrev pub answered_now : ℕ → InterestRow K → List K → Face K → Face K
  answered_now id interest es f =
      record f { held = put_if (is_future interest.mode) id interest f.held; next = next_after_answers interest.mode es f; told = told_after_answers interest.mode es f; asks = [] }
