-- What a piece of work on a gateway comes to, by the parts of a call that it carries out.
use Rattle.std.specs.Prelude.{◌≡◌, ℕ, Bool, List, ◌++◌, Option, Some, None}
use Rattle.std.specs.declared.cmp.Ordering.{Ordering}
use Rattle.zt_theorem_soundness.specs.Ran.{ran}
use Rattle.zt_model.specs.Parts.{Part, said_by, unsaid_to}
use Rattle.zt_model.specs.Rows.{Rows}
use Rattle.zt_calls.specs.declared.speech.Speech.{Speech}

-- the parts, but what they say to the face that is spared
abbrev pub spoken : {K : Type 0} → Option ℕ → List (Part K) → List (Part K)
spoken None parts = parts
spoken (Some n) parts = unsaid_to n parts

module _ {K : Type 0} (cmp : K → K → Ordering) (matching : K → K → Bool) where
  -- The rows after are what the parts run to, and what the parts say was said behind what was said before.
  pub record Does (parts : List (Part K)) (g h : Rows K) (s t : Speech K) : Type 0 where
    pub spared : t.spared ≡ s.spared
    pub rows : h ≡ ran cmp (spoken s.spared parts) g
    pub said : t.said.items ≡ s.said.items ++ said_by cmp matching (spoken s.spared parts) g
