-- The machine on the lines of a gateway's callers and of a monitor: the one gateway has the rows
-- that the entries before a place leave.
use Rattle.std.proofs.Common.{◌≡◌, ℕ, zero, suc, ◌+◌, Bool, true, false, List, [], ◌∷◌, ◌++◌, length, map, take, Option, Some, None, Ok, refl, sym, ap, ◌∙◌, subst, arith}
use Rattle.std.specs.Cmp.{IsTotalOrder}
use Rattle.std.specs.declared.cmp.Ordering.{Ordering}
use Rattle.zt_region.specs.declared.region.Region.{Region}
use Rattle.zt_region.specs.declared.region.WhatAmI.{WhatAmI}
use Rattle.zt_region.specs.declared.region.Zid.{Zid}
use Rattle.zt_region.specs.South.{PlainSouth}
use Rattle.zt_protocol.specs.Plain.{PlainCall, NewSession, NewTransport, DeclareToken, UndeclareToken, Interest, InterestFinal, DeclareFinal, CloseFace, Expire, SetTrees, SetEntities, PlainLine, Gateway}
use Rattle.zt_model.specs.Fabric.{Fabric, line_causes, empty_fabric, new_rows}
use Rattle.zt_model.specs.Journal.{Journalled, is_making, outcome_of, rows_after, rows_replayed}
use Rattle.zt_model.specs.Refusals.{first_cause}
use Rattle.zt_model.specs.Rows.{Rows}
use Rattle.zt_model.specs.Transcript.{Each}
use Rattle.zt_laws.specs.Sound.{HasFirstIds}
use Rattle.zt_laws.proofs.Lists.{map-map}
use Rattle.zt_theorem_journal.specs.Alone.{ComesTo, IsAlone, SpeaksOrOpens, line_of_call, made_rows, rows_made}
use Rattle.zt_theorem_journal.specs.Asked.{rows_before}
use Rattle.zt_theorem_journal.specs.Dealt.{numbered_from}
use Rattle.zt_theorem_journal.proofs.Speaking.{line_speaks}
use Rattle.zt_theorem_journal.proofs.Opening.{gateway_made, line_makes, session_opens}
use Rattle.zt_theorem_journal.proofs.Order.{map_second}
use Rattle.zt_theorem_watch.specs.Beside.{order_beside}
use Rattle.zt_theorem_watch.specs.Watched.{fabric_at, fabric_of}
use Rattle.zt_theorem_watch.proofs.Lists.{numbered_long, take_map, take_past}
use Rattle.zt_theorem_watch.proofs.Beside.{order_is_of, with_line}

module _ {K : Type 0} (cmp : K → K → Ordering) (matching : K → K → Bool) (total : IsTotalOrder cmp) where
  -- a line that speaks, or opens a session, comes to the outcome of its call
  line_comes : (c : PlainCall K) (g : Rows K) (s : Fabric K) → SpeaksOrOpens c → IsAlone cmp matching g s → ComesTo cmp matching (line_of_call c) s (outcome_of cmp matching c g) (rows_after cmp matching c g)
  line_comes (NewSession first) g s may alone = session_opens cmp matching total first g s may alone
  line_comes (NewTransport zid whatami region bound first) g s may alone = line_speaks cmp matching total (NewTransport zid whatami region bound first) g s may alone
  line_comes (DeclareToken face id expr node interest) g s may alone = line_speaks cmp matching total (DeclareToken face id expr node interest) g s may alone
  line_comes (UndeclareToken face id expr node) g s may alone = line_speaks cmp matching total (UndeclareToken face id expr node) g s may alone
  line_comes (Interest face id mode options expr) g s may alone = line_speaks cmp matching total (Interest face id mode options expr) g s may alone
  line_comes (InterestFinal face id) g s may alone = line_speaks cmp matching total (InterestFinal face id) g s may alone
  line_comes (DeclareFinal face interest) g s may alone = line_speaks cmp matching total (DeclareFinal face interest) g s may alone
  line_comes (CloseFace face) g s may alone = line_speaks cmp matching total (CloseFace face) g s may alone
  line_comes (Expire now) g s may alone = line_speaks cmp matching total (Expire now) g s may alone
  line_comes (SetTrees region table) g s may alone = line_speaks cmp matching total (SetTrees region table) g s may alone
  line_comes (SetEntities face subscribers queryables) g s may alone = line_speaks cmp matching total (SetEntities face subscribers queryables) g s may alone

  alone_made : (lines more : List (PlainLine K)) (g h : Rows K) (s : Fabric K) → Each (λ line. is_making line ≡ true) lines → Each HasFirstIds lines → IsAlone cmp matching g s
      → ((t : Fabric K) → IsAlone cmp matching (rows_made cmp matching lines g) t → IsAlone cmp matching h (fabric_of cmp matching more t)) → IsAlone cmp matching h (fabric_of cmp matching (lines ++ more) s)
  unfolding rows_made
  alone_made [] more g h s making real alone then_ = then_ s alone
  alone_made (line ∷ lines) more g h s making real alone then_ =
      alone_made lines more (made_rows cmp matching line g) h _ making.1 real.1 (line_makes cmp matching total line g s making.0 real.0 alone).after then_

  alone_spoken : (entries : List (Journalled K)) (g : Rows K) (s : Fabric K) → Each (λ e. SpeaksOrOpens e.call) entries → IsAlone cmp matching g s
      → IsAlone cmp matching (rows_replayed cmp matching entries g) (fabric_of cmp matching (map (λ e. line_of_call e.call) entries) s)
  unfolding rows_replayed
  alone_spoken [] g s may alone = alone
  alone_spoken (entry ∷ entries) g s may alone = alone_spoken entries (rows_after cmp matching entry.call g) _ may.1 (line_comes entry.call g s may.0 alone).after

  each_taken : (P : Journalled K → Type 0) (n : ℕ) (es : List (Journalled K)) → Each P es → Each P (take n es)
  each_taken P zero [] all = tt
  each_taken P (suc n) [] all = tt
  each_taken P zero (e ∷ es) all = tt
  each_taken P (suc n) (e ∷ es) all = (all.0, each_taken P n es all.1)

  module _ (mode : WhatAmI) (zid : Zid) (regions : List Region) (south : PlainSouth) (name : Option (List ℕ)) (timeout : ℕ) (refused : List (Region × Region)) (makings : List (PlainLine K)) where
    abbrev pub line : PlainLine K
    line = Gateway mode zid regions south name timeout refused

    abbrev pub rows : Rows K
    rows = rows_made cmp matching makings (new_rows mode zid regions timeout refused)

    alone_behind : first_cause (line_causes cmp matching false line empty_fabric) ≡ None → Each (λ line. is_making line ≡ true) makings → Each HasFirstIds makings → (entries : List (Journalled K)) → Each (λ e. SpeaksOrOpens e.call) entries
        → IsAlone cmp matching (rows_replayed cmp matching entries rows) (fabric_of cmp matching (line ∷ (makings ++ map (λ e. line_of_call e.call) entries)) empty_fabric)
    alone_behind accepted making real entries may =
        alone_made makings (map (λ e. line_of_call e.call) entries) (new_rows mode zid regions timeout refused) (rows_replayed cmp matching entries rows) _ making real
        (gateway_made cmp matching total mode zid regions south name timeout refused accepted).after
        (λ t alone. alone_spoken entries rows t may alone)

    -- The lines before a place leave the rows that the entries before it do.
    pub alone_before : first_cause (line_causes cmp matching false line empty_fabric) ≡ None → Each (λ line. is_making line ≡ true) makings → Each HasFirstIds makings
        → (journal : List (ℕ × Journalled K)) → Each (λ e. SpeaksOrOpens e.call) (map (λ x. x.1) journal) → (place : ℕ)
        → IsAlone cmp matching (rows_before cmp matching place (map (λ x. x.1) journal) rows) (fabric_at cmp matching ((1 + length makings) + place) (order_beside line makings journal))
    alone_before accepted making real journal may place =
        subst (λ ls. IsAlone cmp matching (rows_before cmp matching place (map (λ x. x.1) journal) rows) (fabric_of cmp matching ls empty_fabric)) (sym lines_are)
        (alone_behind accepted making real (take place (map (λ x. x.1) journal)) (each_taken (λ e. SpeaksOrOpens e.call) place (map (λ x. x.1) journal) may))
      where
        order : List (ℕ × PlainLine K)
        order = order_beside line makings journal

        taken : take ((1 + length makings) + place) order ≡ order_beside line makings (take place journal)
        taken =
            take_past ((1, line) ∷ numbered_from 2 makings) (map with_line journal) ((1 + length makings) + place) place (let long = numbered_long 2 makings in omega arith)
            ∙ ap (λ xs. ((1, line) ∷ numbered_from 2 makings) ++ xs) (take_map with_line journal place)

        lines_are : map (λ x. x.1) (take ((1 + length makings) + place) order) ≡ line ∷ (makings ++ map (λ (e : Journalled K). line_of_call e.call) (take place (map (λ x. x.1) journal)))
        lines_are =
            ap (map (λ (x : ℕ × PlainLine K). x.1)) taken ∙ order_is_of line makings (take place journal)
            ∙ ap (λ es. line ∷ (makings ++ map (λ (e : Journalled K). line_of_call e.call) es)) (sym (take_map (λ (x : ℕ × Journalled K). x.1) journal place))
