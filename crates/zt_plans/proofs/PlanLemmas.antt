-- Lines added behind the others of a script.
use Rattle.std.proofs.Common.{◌≡◌, ℕ, ◌+◌, Bool, true, false, ◌&&◌, ◌||◌, List, [], ◌∷◌, ◌++◌, length, map, Option, Some, None, refl, sym, ap, ◌∙◌, append_assoc, length-append, arith}
use Rattle.std.proofs.lemmas.List.{length-map}
use Rattle.std.specs.List.{list_all}
use Rattle.zt_protocol.specs.Plain.{PlainCall, PlainLine, Gateway, Session, Face as FaceLine, Link, Unlink, Step, Speak, Moment, SetTreesAt, plain_line}
use Rattle.zt_region.specs.declared.region.Bound.{Bound}
use Rattle.zt_region.specs.declared.region.Region.{Region}
use Rattle.zt_region.specs.declared.region.WhatAmI.{WhatAmI}
use Rattle.zt_region.specs.declared.region.Zid.{Zid}
use Rattle.zt_protocol.specs.declared.calls.Call.{Call}
use Rattle.zt_protocol.specs.declared.lines.Line.{Line}
use Rattle.zt_protocol.specs.declared.lines.Line.TheVariants as line
use Rattle.zt_model.specs.Journal.{are_makings_first, is_driven, is_making, is_speaking}
use Rattle.zt_model.specs.Transcript.{Each}
use Rattle.zt_laws.proofs.Lists.{map-append}
use Rattle.zt_gateway.specs.Settings.{Settings, line_of}
use Rattle.zt_theorem_journal.specs.Dealt.{numbered_from, script_of}
use Rattle.zt_theorem_journal.proofs.Order.{numbered_append}
use Rattle.zt_plans.specs.Plans.{AreInForm, HasNoPlace, IsPlan, call_of, numbered, plan_lines, script_lines}
use Rattle.zt_plans.specs.declared.plan.Numbered.{Numbered}
use Rattle.zt_plans.specs.declared.plan.Plan.{Plan}

or_none : (b : Bool) → (b || false) ≡ b
or_none true = refl
or_none false = refl

module _ {K : Type 0} where
  making_is_silent : (l : PlainLine K) → is_making l ≡ true → is_speaking l ≡ false
  making_is_silent (Gateway mode zid regions south name timeout refused) h = refl
  making_is_silent (Session gateway first) h = refl
  making_is_silent (FaceLine gateway mode zid region bound first) h = refl
  making_is_silent (Link one two first back) h = refl
  making_is_silent (Unlink link) h = refl
  making_is_silent (Step link back) h = refl
  making_is_silent (Speak call) h = cc
  making_is_silent (Moment gateway now) h = refl
  making_is_silent (SetTreesAt gateway region table) h = refl

  -- what comes behind lines that open faces
  after_makings : (ms more : List (PlainLine K)) → Each (λ m. is_making m ≡ true) ms → are_makings_first (ms ++ more) ≡ are_makings_first more
  after_makings [] more making = refl
  after_makings (m ∷ ms) more making =
      let silent = making_is_silent m making.0 in
      let rest = ms ++ more in
      ap (λ b. (b && are_makings_first rest) || (is_speaking m && list_all is_speaking rest)) making.0
      ∙ ap (λ b. are_makings_first rest || (b && list_all is_speaking rest)) silent
      ∙ or_none (are_makings_first rest) ∙ after_makings ms more making.1

  all_speaking : (cs : List (PlainCall K)) → list_all is_speaking (map (λ c. Speak c) cs) ≡ true
  all_speaking [] = refl
  all_speaking (c ∷ cs) = all_speaking cs

  speaking_first : (cs : List (PlainCall K)) → are_makings_first (map (λ c. Speak c) cs) ≡ true
  speaking_first [] = refl
  speaking_first (c ∷ cs) = all_speaking cs

  -- a silent line behind one that speaks
  not_all_speaking : (cs : List (PlainCall K)) (l : PlainLine K) → is_speaking l ≡ false → list_all is_speaking (map (λ c. Speak c) cs ++ l ∷ []) ≡ false
  not_all_speaking [] l silent = ap (λ b. b && true) silent
  not_all_speaking (c ∷ cs) l silent = not_all_speaking cs l silent

  other_first : (cs : List (PlainCall K)) (l : PlainLine K) → is_making l ≡ false → is_speaking l ≡ false → are_makings_first (map (λ c. Speak c) cs ++ l ∷ []) ≡ false
  other_first [] l other silent = ap (λ b. (b && true) || (is_speaking l && true)) other ∙ ap (λ b. b && true) silent
  other_first (c ∷ cs) l other silent = not_all_speaking cs l silent

  -- ---- scripts

  pub script_driven : (s : Settings) (ms : List (PlainLine K)) (cs : List (PlainCall K)) → Each (λ m. is_making m ≡ true) ms → is_driven (script_of (line_of s) ms cs) ≡ true
  script_driven s ms cs making = after_makings ms (map (λ c. Speak c) cs) making ∙ speaking_first cs

  behind : (s : Settings) (ms : List (PlainLine K)) (cs : List (PlainCall K)) (l : PlainLine K) → Each (λ m. is_making m ≡ true) ms
      → is_driven (script_of (line_of s) ms cs ++ l ∷ []) ≡ are_makings_first (map (λ c. Speak c) cs ++ l ∷ [])
  behind s ms cs l making = ap are_makings_first (append_assoc ms (map (λ c. Speak c) cs) (l ∷ [])) ∙ after_makings ms (map (λ c. Speak c) cs ++ l ∷ []) making

  -- a line that neither opens a face nor speaks
  pub script_ended : (s : Settings) (ms : List (PlainLine K)) (cs : List (PlainCall K)) (l : PlainLine K) → Each (λ m. is_making m ≡ true) ms → is_making l ≡ false → is_speaking l ≡ false
      → HasNoPlace (script_of (line_of s) ms cs) l
  script_ended s ms cs l making other silent = behind s ms cs l making ∙ other_first cs l other silent

  -- a line that doesn't speak, behind one that does
  pub script_speaks : (s : Settings) (ms : List (PlainLine K)) (cs : List (PlainCall K)) (l : PlainLine K) → Each (λ m. is_making m ≡ true) ms → (cs ≡ [] → ⊥) → is_speaking l ≡ false
      → HasNoPlace (script_of (line_of s) ms cs) l
  script_speaks s ms [] l making some silent = absurd (some refl)
  script_speaks s ms (c ∷ cs) l making some silent = behind s ms (c ∷ cs) l making ∙ not_all_speaking cs l silent

  -- ---- plans

  -- a call more, with the number of its line
  pub numbers_more : (gateway : PlainLine K) (ms : List (PlainLine K)) (old : List (Numbered K)) (one : Numbered K)
      → map numbered old ≡ numbered_from (2 + length ms) (map call_of old) → one.line ≡ length (script_of gateway ms (map call_of old)) + 1
      → map numbered (old ++ one ∷ []) ≡ numbered_from (2 + length ms) (map call_of (old ++ one ∷ []))
  numbers_more gateway ms old one numbers counted =
      let calls = map call_of old in
      let number : one.line ≡ 2 + length ms + length calls =
      omega (arith, counted, length-append ms (map (λ c. Speak c) calls), length-map calls (λ (c : PlainCall K). Speak c)) in
      map-append numbered old (one ∷ [])
      ∙ ap (λ xs. xs ++ numbered one ∷ []) numbers
      ∙ ap (λ n. numbered_from (2 + length ms) calls ++ (n, call_of one) ∷ []) number
      ∙ sym (numbered_append (2 + length ms) calls (call_of one ∷ []))
      ∙ ap (numbered_from (2 + length ms)) (sym (map-append call_of old (one ∷ [])))

  -- a line that is none of the three kinds with a place
  pub other_kind : (l : Line K) → ((gateway first : ℕ) → l ≡ line.Session gateway first → ⊥)
      → ((gateway : ℕ) (mode : WhatAmI) (zid : Zid) (region : Region) (bound : Bound) (first : ℕ) → l ≡ line.Face gateway mode zid region bound first → ⊥)
      → ((call : Call K) → l ≡ line.Speak call → ⊥) → (is_making (plain_line l) ≡ false) × (is_speaking (plain_line l) ≡ false)
  other_kind (line.Gateway mode zid regions south name timeout refuse) session face speak = (refl, refl)
  other_kind (line.Session gateway first) session face speak = absurd (session gateway first refl)
  other_kind (line.Face gateway mode zid region bound first) session face speak = absurd (face gateway mode zid region bound first refl)
  other_kind (line.Link one two first back) session face speak = (refl, refl)
  other_kind (line.Unlink link) session face speak = (refl, refl)
  other_kind (line.Step link back) session face speak = (refl, refl)
  other_kind (line.Speak call) session face speak = absurd (speak call refl)
  other_kind (line.Moment gateway now) session face speak = (refl, refl)
  other_kind (line.Trees gateway region table) session face speak = (refl, refl)

  plan_driven : (plan : Plan K) → IsPlan plan → is_driven (plan_lines plan) ≡ true
  plan_driven plan is = script_driven plan.gateway (map plain_line plan.makings.items) (map call_of plan.calls.items) is.making

  pub lines_driven : (plan : Option (Plan K)) → AreInForm plan → is_driven (script_lines plan) ≡ true
  lines_driven None is = refl
  lines_driven (Some plan) is = plan_driven plan is
