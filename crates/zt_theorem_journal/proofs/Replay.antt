-- A script of one gateway: its transcript is what the gateway's calls come to.
use Rattle.std.proofs.Common.{◌≡◌, ℕ, Bool, true, false, List, [], ◌∷◌, ◌++◌, map, Option, Some, None, Ok, Err, refl, sym, ap, ◌∙◌}
use Rattle.std.specs.Cmp.{IsTotalOrder}
use Rattle.std.specs.declared.cmp.Ordering.{Ordering}
use Rattle.zt_region.specs.declared.region.Region.{Region}
use Rattle.zt_region.specs.declared.region.WhatAmI.{WhatAmI}
use Rattle.zt_region.specs.declared.region.Zid.{Zid}
use Rattle.zt_region.specs.South.{PlainSouth}
use Rattle.zt_protocol.specs.Plain.{PlainCall, NewSession, NewTransport, DeclareToken, UndeclareToken, Interest, InterestFinal, DeclareFinal, CloseFace, Expire, SetTrees, SetEntities, PlainEntry, PlainLine, Gateway, Session, Face as FaceLine, Link, Unlink, Step, Speak, Moment, SetTreesAt}
use Rattle.zt_protocol.specs.declared.errors.Refusal.{Refusal}
use Rattle.zt_protocol.specs.declared.errors.Refusal.TheVariants as refusal
use Rattle.zt_model.specs.Fabric.{Fabric, after_refusal, line_causes, empty_fabric, entries_from, entry_by, entry_of, fabric_after, new_rows, said_by_line, sorted_by_face}
use Rattle.zt_model.specs.Journal.{IsReplay, Journalled, is_making, outcome_of, rows_after}
use Rattle.zt_model.specs.Refusals.{first_cause}
use Rattle.zt_model.specs.Rows.{Rows}
use Rattle.zt_model.specs.Transcript.{Each}
use Rattle.zt_laws.specs.Sound.{HasFirstIds}
use Rattle.zt_laws.proofs.Lists.{never}
use Rattle.zt_theorem_journal.specs.Alone.{ComesTo, IsAlone, Speaks, SpeaksOrOpens, line_of_call, made_entries, made_entry, made_rows, rows_made}
use Rattle.zt_theorem_journal.proofs.Speaking.{cause_in, line_speaks, nowhere_cause, spoken_at}
use Rattle.zt_theorem_journal.proofs.Opening.{face_nowhere, first_line_cause, gateway_made, line_makes, session_nowhere, session_opens}

module _ {K : Type 0} (cmp : K → K → Ordering) (matching : K → K → Bool) (total : IsTotalOrder cmp) where
  abbrev from : List (PlainLine K) → Fabric K → List (PlainEntry K)
  from lines s = entries_from cmp matching lines s

  -- lines that speak come to the outcomes of a replay
  pub calls_come : (entries : List (Journalled K)) (g : Rows K) (s : Fabric K) → Each (λ e. Speaks e.call) entries → IsReplay cmp matching entries g → IsAlone cmp matching g s
      → from (map (λ e. Speak e.call) entries) s ≡ map (λ e. e.outcome) entries
  unfolding entries_from
  calls_come [] g s speak replay alone = refl
  calls_come (entry ∷ entries) g s speak replay alone =
      let here = line_speaks cmp matching total entry.call g s speak.0 alone in
      let after = fabric_after cmp matching (Speak entry.call) (entry_of cmp matching (Speak entry.call) s) s in
      ap (λ e. e ∷ from (map (λ e. Speak e.call) entries) after) (here.entry_is ∙ sym replay.1)
      ∙ ap (λ es. entry.outcome ∷ es) (calls_come entries _ after speak.1 replay.2 here.after)

  -- a line that speaks, or opens a session, comes to the outcome of its call
  line_comes : (c : PlainCall K) (g : Rows K) (s : Fabric K) → SpeaksOrOpens c → IsAlone cmp matching g s → ComesTo cmp matching (line_of_call c) s (outcome_of cmp matching c g) (rows_after cmp matching c g)
  line_comes (NewSession first) g s may alone = session_opens cmp matching total first g s may alone
  line_comes (NewTransport zid whatami region bound first) g s may alone = line_speaks cmp matching total (NewTransport zid whatami region bound first) g s may alone
  line_comes (DeclareToken face id expr node interest) g s may alone = line_speaks cmp matching total (DeclareToken face id expr node interest) g s may alone
  line_comes (UndeclareToken face id expr node) g s may alone = line_speaks cmp matching total (UndeclareToken face id expr node) g s may alone
  line_comes (Interest face id mode options expr) g s may alone = line_speaks cmp matching total (Interest face id mode options expr) g s may alone
  line_comes (InterestFinal face id) g s may alone = line_speaks cmp matching total (InterestFinal face id) g s may alone
  line_comes (DeclareFinal face interest) g s may alone = line_speaks cmp matching total (DeclareFinal face interest) g s may alone
  line_comes (CloseFace face) g s may alone = line_speaks cmp matching total (CloseFace face) g s may alone
  line_comes (Expire now) g s may alone = line_speaks cmp matching total (Expire now) g s may alone
  line_comes (SetTrees region table) g s may alone = line_speaks cmp matching total (SetTrees region table) g s may alone
  line_comes (SetEntities face subscribers queryables) g s may alone = line_speaks cmp matching total (SetEntities face subscribers queryables) g s may alone

  -- such lines come to the outcomes of a replay
  pub journal_comes : (entries : List (Journalled K)) (g : Rows K) (s : Fabric K) → Each (λ e. SpeaksOrOpens e.call) entries → IsReplay cmp matching entries g → IsAlone cmp matching g s
      → from (map (λ e. line_of_call e.call) entries) s ≡ map (λ e. e.outcome) entries
  unfolding entries_from
  journal_comes [] g s may replay alone = refl
  journal_comes (entry ∷ entries) g s may replay alone =
      let line = line_of_call entry.call in
      let here = line_comes entry.call g s may.0 alone in
      let after = fabric_after cmp matching line (entry_of cmp matching line s) s in
      ap (λ e. e ∷ from (map (λ e. line_of_call e.call) entries) after) (here.entry_is ∙ sym replay.1)
      ∙ ap (λ es. entry.outcome ∷ es) (journal_comes entries _ after may.1 replay.2 here.after)

  -- lines that open faces come to what they come to by the rows of the gateway
  makings_come : (lines : List (PlainLine K)) (g : Rows K) (s : Fabric K) (more : List (PlainLine K)) (rest : List (PlainEntry K)) → Each (λ line. is_making line ≡ true) lines → Each HasFirstIds lines → IsAlone cmp matching g s
      → ((t : Fabric K) → IsAlone cmp matching (rows_made cmp matching lines g) t → from more t ≡ rest) → from (lines ++ more) s ≡ made_entries cmp matching lines g ++ rest
  unfolding entries_from made_entries rows_made
  makings_come [] g s more rest making real alone then_ = then_ s alone
  makings_come (line ∷ lines) g s more rest making real alone then_ =
      let here = line_makes cmp matching total line g s making.0 real.0 alone in
      let after = fabric_after cmp matching line (entry_of cmp matching line s) s in
      ap (λ e. e ∷ from (lines ++ more) after) here.entry_is
      ∙ ap (λ es. made_entry cmp matching line g ∷ es) (makings_come lines (made_rows cmp matching line g) after more rest making.1 real.1 here.after then_)

  -- The transcript of a script whose gateway is made: its faces are opened, and then come more lines.
  pub script_begins : (mode : WhatAmI) (zid : Zid) (regions : List Region) (south : PlainSouth) (name : Option (List ℕ)) (timeout : ℕ) (refused : List (Region × Region)) (makings more : List (PlainLine K)) (rest : List (PlainEntry K))
      → (let line : PlainLine K = Gateway mode zid regions south name timeout refused in let rows = new_rows mode zid regions timeout refused in
      first_cause (line_causes cmp matching false line empty_fabric) ≡ None → Each (λ line. is_making line ≡ true) makings → Each HasFirstIds makings
      → ((t : Fabric K) → IsAlone cmp matching (rows_made cmp matching makings rows) t → from more t ≡ rest)
      → from (line ∷ (makings ++ more)) empty_fabric ≡ Ok [] ∷ (made_entries cmp matching makings rows ++ rest))
  unfolding entries_from
  script_begins mode zid regions south name timeout refused makings more rest accepted making real then_ =
      let line : PlainLine K = Gateway mode zid regions south name timeout refused in
      let rows = new_rows mode zid regions timeout refused in
      let here = gateway_made cmp matching total mode zid regions south name timeout refused accepted in
      let after = fabric_after cmp matching line (entry_of cmp matching line empty_fabric) empty_fabric in
      ap (λ e. e ∷ from (makings ++ more) after) here.entry_is
      ∙ ap (λ (es : List (PlainEntry K)). Ok [] ∷ es) (makings_come makings rows after more rest making real here.after then_)

  -- Then come the lines of a journal, which speak.
  pub script_comes : (mode : WhatAmI) (zid : Zid) (regions : List Region) (south : PlainSouth) (name : Option (List ℕ)) (timeout : ℕ) (refused : List (Region × Region)) (makings : List (PlainLine K)) (entries : List (Journalled K))
      → (let line : PlainLine K = Gateway mode zid regions south name timeout refused in let rows = new_rows mode zid regions timeout refused in
      first_cause (line_causes cmp matching false line empty_fabric) ≡ None → Each (λ line. is_making line ≡ true) makings → Each HasFirstIds makings → Each (λ e. Speaks e.call) entries
      → IsReplay cmp matching entries (rows_made cmp matching makings rows)
      → from (line ∷ (makings ++ map (λ e. Speak e.call) entries)) empty_fabric ≡ Ok [] ∷ (made_entries cmp matching makings rows ++ map (λ e. e.outcome) entries))
  script_comes mode zid regions south name timeout refused makings entries accepted making real speak replay =
      script_begins mode zid regions south name timeout refused makings (map (λ e. Speak e.call) entries) (map (λ e. e.outcome) entries) accepted making real
      (λ t alone. calls_come entries (rows_made cmp matching makings (new_rows mode zid regions timeout refused)) t speak replay alone)

  -- Then come the lines of a journal, which speak or open sessions.
  pub script_comes_with_sessions : (mode : WhatAmI) (zid : Zid) (regions : List Region) (south : PlainSouth) (name : Option (List ℕ)) (timeout : ℕ) (refused : List (Region × Region)) (makings : List (PlainLine K)) (entries : List (Journalled K))
      → (let line : PlainLine K = Gateway mode zid regions south name timeout refused in let rows = new_rows mode zid regions timeout refused in
      first_cause (line_causes cmp matching false line empty_fabric) ≡ None → Each (λ line. is_making line ≡ true) makings → Each HasFirstIds makings → Each (λ e. SpeaksOrOpens e.call) entries
      → IsReplay cmp matching entries (rows_made cmp matching makings rows)
      → from (line ∷ (makings ++ map (λ e. line_of_call e.call) entries)) empty_fabric ≡ Ok [] ∷ (made_entries cmp matching makings rows ++ map (λ e. e.outcome) entries))
  script_comes_with_sessions mode zid regions south name timeout refused makings entries accepted making real may replay =
      script_begins mode zid regions south name timeout refused makings (map (λ e. line_of_call e.call) entries) (map (λ e. e.outcome) entries) accepted making real
      (λ t alone. journal_comes entries (rows_made cmp matching makings (new_rows mode zid regions timeout refused)) t may replay alone)

  -- ---- a gateway that is refused

  refused_first : (line : PlainLine K) (r : Refusal) (more : List (PlainLine K)) → cause_in cmp matching line empty_fabric ≡ Some r → after_refusal cmp matching line r empty_fabric ≡ empty_fabric → from (line ∷ more) empty_fabric ≡ Err r ∷ from more empty_fabric
  unfolding entries_from entry_of fabric_after
  refused_first line r more caused stays =
      let ms = sorted_by_face (said_by_line cmp matching line empty_fabric) in
      ap (λ e. e ∷ from more (fabric_after cmp matching line e empty_fabric)) (ap (λ o. entry_by cmp matching o ms) caused)
      ∙ ap (λ s. Err r ∷ from more s) stays

  calls_refused : (calls : List (PlainCall K)) → Each Speaks calls → from (map (λ c. Speak c) calls) empty_fabric ≡ map (λ c. Err refusal.UnknownFace) calls
  unfolding entries_from
  calls_refused [] speak = refl
  calls_refused (c ∷ calls) speak =
      refused_first (Speak c) refusal.UnknownFace (map (λ c. Speak c) calls) (nowhere_cause cmp matching c empty_fabric (spoken_at empty_fabric c speak.0.0 None speak.0.1 refl) refl) refl
      ∙ ap (λ (es : List (PlainEntry K)). Err refusal.UnknownFace ∷ es) (calls_refused calls speak.1)

  making_refused : (line : PlainLine K) → is_making line ≡ true → (cause_in cmp matching line empty_fabric ≡ Some refusal.UnknownGateway) × (after_refusal cmp matching line refusal.UnknownGateway empty_fabric ≡ empty_fabric)
  making_refused (Session n first) making = (session_nowhere cmp matching total n first empty_fabric refl, refl)
  making_refused (FaceLine n mode zid region bound first) making = (face_nowhere cmp matching total n mode zid region bound first empty_fabric refl, refl)
  making_refused (Gateway mode zid regions south name timeout refused) making = never making refl
  making_refused (Link one two first back) making = never making refl
  making_refused (Unlink link) making = never making refl
  making_refused (Step link back) making = never making refl
  making_refused (Speak call) making = never making refl
  making_refused (Moment gateway now) making = never making refl
  making_refused (SetTreesAt gateway region table) making = never making refl

  makings_refused : (lines more : List (PlainLine K)) → Each (λ line. is_making line ≡ true) lines → from (lines ++ more) empty_fabric ≡ map (λ line. Err refusal.UnknownGateway) lines ++ from more empty_fabric
  makings_refused [] more making = refl
  makings_refused (line ∷ lines) more making =
      let here = making_refused line making.0 in
      refused_first line refusal.UnknownGateway (lines ++ more) here.0 here.1 ∙ ap (λ (es : List (PlainEntry K)). Err refusal.UnknownGateway ∷ es) (makings_refused lines more making.1)

  -- The transcript of a script whose gateway is refused.
  pub script_refused : (mode : WhatAmI) (zid : Zid) (regions : List Region) (south : PlainSouth) (name : Option (List ℕ)) (timeout : ℕ) (refused : List (Region × Region)) (r : Refusal) (makings : List (PlainLine K)) (calls : List (PlainCall K))
      → (let line : PlainLine K = Gateway mode zid regions south name timeout refused in
      first_cause (line_causes cmp matching false line empty_fabric) ≡ Some r → Each (λ line. is_making line ≡ true) makings → Each Speaks calls
      → from (line ∷ (makings ++ map (λ c. Speak c) calls)) empty_fabric ≡ Err r ∷ (map (λ line. Err refusal.UnknownGateway) makings ++ map (λ c. Err refusal.UnknownFace) calls))
  script_refused mode zid regions south name timeout refused r makings calls caused making speak =
      let line : PlainLine K = Gateway mode zid regions south name timeout refused in
      refused_first line r (makings ++ map (λ c. Speak c) calls) (first_line_cause cmp matching total mode zid regions south name timeout refused ∙ caused) refl
      ∙ ap (λ (es : List (PlainEntry K)). Err r ∷ es)
      (makings_refused makings (map (λ c. Speak c) calls) making ∙ ap (λ (es : List (PlainEntry K)). map (λ line. Err refusal.UnknownGateway) makings ++ es) (calls_refused calls speak))
