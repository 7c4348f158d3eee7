-- Finals, closings, interests and openings leave upstream what south-bound faces hold.
use Rattle.std.proofs.Common.{◌≡◌, ℕ, ◌+◌, Bool, true, false, not, ◌&&◌, ◌||◌, ◌==◌, if◌then◌else◌, List, [], ◌∷◌, ◌++◌, filter, Option, Some, None, refl, sym, ap, ◌∙◌, subst, arith, eq-eqb}
use Rattle.std.specs.Cmp.{IsTotalOrder}
use Rattle.std.specs.List.{flat_map, list_any}
use Rattle.std.specs.declared.cmp.Ordering.{Ordering}
use Rattle.zt_region.specs.declared.region.WhatAmI.TheVariants.{Router}
use Rattle.zt_region.specs.Region.{is_north}
use Rattle.zt_protocol.specs.Plain.{InterestFinal, CloseFace}
use Rattle.zt_model.specs.Closing.{closing, leaving, without_asks, without_face}
use Rattle.zt_model.specs.Hearing.{heard_all, messages_for, rows_heard}
use Rattle.zt_model.specs.Lists.{at_id, first_where, without_id}
use Rattle.zt_model.specs.Parts.{unsaid_to}
use Rattle.zt_model.specs.Promises.{is_sent_all}
use Rattle.zt_model.specs.Routing.{asks_same, ending, end_upstream_to, final_of_both, finalising, is_held_south, unheld, untell_to}
use Rattle.zt_model.specs.Rows.{ById, Face, InterestRow, Rows}
use Rattle.zt_model.specs.Says.{Alter, Part, Say, Sends, finalising_held, find_face, is_routed, parts_of, to_each, to_face, undeclaring, with_face}
use Rattle.zt_model.specs.Transcript.{Each}
use Rattle.zt_model.specs.Trees.{hiding}
use Rattle.zt_laws.specs.Order.{HasRowsInOrder}
use Rattle.zt_laws.specs.Sound.{RiseFrom}
use Rattle.zt_laws.proofs.Hearing.{find_each, find_only, find_passes, heard_all-held, heard_all-number}
use Rattle.zt_laws.proofs.Lists.{by_test, each_append, each_both, each_filter, each_weaker, each_passes, never, of_cond, rise_filter, rise_lower}
use Rattle.zt_laws.proofs.PartsOrder.{each_flat_map}
use Rattle.zt_theorem_soundness.specs.Ran.{ran}
use Rattle.zt_theorem_soundness.proofs.ById.{find_mapped, without_first}
use Rattle.zt_theorem_soundness.proofs.CallsRun.{call_runs}
use Rattle.zt_theorem_soundness.proofs.Closing.{spares_one}
use Rattle.zt_theorem_soundness.proofs.Parts.{nobody, only}
use Rattle.zt_theorem_soundness.proofs.Running.{ran-append}
use Rattle.zt_theorem_soundness.proofs.Tokens.{spares_nothing}
use Rattle.zt_theorem_upstream.proofs.Calls.{PartQuiet, Stays, asks_beside, ending_quiet, hiding_quiet, leaves_face, ran_quiet, undeclaring_quiet, unsaid_quiet}
use Rattle.zt_theorem_upstream.proofs.Ending.{finalising_stands}
use Rattle.zt_theorem_upstream.proofs.Locals.{IsUpstream, Leaves, LocalsBelow, local_any, south_any, stands_alike}

-- a test that holds of none that a filter drops
any_filtered : {A : Type 0} (q p : A → Bool) (xs : List A) → Each (λ x. p x ≡ false → q x ≡ false) xs → list_any q (filter p xs) ≡ list_any q xs
any_filtered q p [] all = refl
any_filtered q p (x ∷ xs) all =
    by_test (p x)
    (λ here. rw here (ap (λ b. q x || b) (any_filtered q p xs all.1)))
    (λ here. let none_ : q x ≡ false = all.0 here in rw (here, none_) (any_filtered q p xs all.1))

module _ {K : Type 0} (cmp : K → K → Ordering) (matching : K → K → Bool) where
  -- what the face of the number holds
  record Holds (n : ℕ) (rows : ById (InterestRow K)) (g : Rows K) : Type 0 where
    face : Face K
    found : find_face n g ≡ Some face
    held : face.held ≡ rows

  holds_leaves : (n : ℕ) (rows : ById (InterestRow K)) (g h : Rows K) → Leaves cmp matching g h → Holds n rows g → Holds n rows h
  holds_leaves n rows g h leaves holds = record {
    face = leaves.change holds.face;
    found = ap (λ (fs : List (Face K)). first_where (λ f. n == f.number) fs) leaves.faces ∙ find_mapped n leaves.change g.faces holds.face leaves.number holds.found;
    held = leaves.held holds.face ∙ holds.held;
  }

  holds_heard : (n : ℕ) (rows : ById (InterestRow K)) (ss : Sends K) (g : Rows K) → Holds n rows g → Holds n rows (rows_heard cmp ss g)
  unfolding rows_heard
  holds_heard n rows ss g holds = record {
    face = heard_all cmp g.moment (messages_for holds.face.number ss) holds.face;
    found = find_mapped n (λ f. heard_all cmp g.moment (messages_for f.number ss) f) g.faces holds.face (λ f. heard_all-number cmp g.moment (messages_for f.number ss) f) holds.found;
    held = heard_all-held cmp g.moment (messages_for holds.face.number ss) holds.face ∙ holds.held;
  }

  holds_quiet : (n : ℕ) (rows : ById (InterestRow K)) (parts : List (Part K)) (g : Rows K) → Each (PartQuiet cmp matching) parts → Holds n rows g → Holds n rows (ran cmp parts g)
  unfolding ran
  holds_quiet n rows [] g quiet holds = holds
  holds_quiet n rows (Alter change ∷ parts) g quiet holds = holds_quiet n rows parts (change g) quiet.1 (holds_leaves n rows g (change g) (quiet.0 g) holds)
  holds_quiet n rows (Say rule ∷ parts) g quiet holds = holds_quiet n rows parts (rows_heard cmp (rule g) g) quiet.1 (holds_heard n rows (rule g) g holds)

  holds_unheld : (n : ℕ) (row : ℕ × InterestRow K) (rows : ById (InterestRow K)) (g : Rows K) → RiseFrom (λ r. r.0) 0 (row ∷ rows) → Holds n (row ∷ rows) g → Holds n rows (with_face n (unheld row.0) g)
  unfolding with_face
  holds_unheld n row rows g rises holds =
      let chosen = λ (f : Face K). if n == f.number then unheld row.0 f else f in
      let here : (n == holds.face.number) ≡ true = find_passes (λ f. n == f.number) g.faces holds.face holds.found in
      record {
        face = chosen holds.face;
        found = find_mapped n chosen g.faces holds.face (λ f. of_cond (λ (k : Face K). k.number ≡ f.number) (n == f.number) (unheld row.0 f) f (λ _. refl) (λ _. refl)) holds.found;
        held = ap (λ b. (let k : Face K = if b then unheld row.0 holds.face else holds.face in k.held)) here ∙ ap (without_id row.0) holds.held ∙ without_first row rows rises.1;
      }

  module _ (total : IsTotalOrder cmp) where
    pub interest_final_stays : (n id : ℕ) (g : Rows K) → Stays cmp matching (InterestFinal n id) g
    unfolding parts_of ran
    interest_final_stays n id g up = subst (IsUpstream cmp matching nobody) (sym (call_runs cmp matching (InterestFinal n id) g)) (by_face (find_face n g) refl)
      where
        by_held : (from : Face K) → find_face n g ≡ Some from → (o : Option (InterestRow K)) → at_id id from.held ≡ o → IsUpstream cmp matching nobody (ran cmp (elim o [ None ↦ [] | Some interest ↦ finalising cmp matching n id interest ]) g)
        by_held from found None held = up
        by_held from found (Some interest) held = finalising_stands cmp matching total nobody (λ ss. ss) n id interest from g spares_nothing found held up

        by_face : (o : Option (Face K)) → find_face n g ≡ o → IsUpstream cmp matching nobody (ran cmp (elim o [ None ↦ [] | Some f ↦ finalising_held cmp matching n id f ]) g)
        by_face None found = up
        by_face (Some from) found = by_held from found (at_id id from.held) refl

    -- ---- closing

    unsaid-append : (n : ℕ) (ps qs : List (Part K)) → unsaid_to n (ps ++ qs) ≡ unsaid_to n ps ++ unsaid_to n qs
    unfolding unsaid_to
    unsaid-append n [] qs = refl
    unsaid-append n (Alter change ∷ ps) qs = ap (λ (parts : List (Part K)). Alter change ∷ parts) (unsaid-append n ps qs)
    unsaid-append n (Say rule ∷ ps) qs = ap (λ (parts : List (Part K)). Say (λ g. filter (λ s. not (n == s.0)) (rule g)) ∷ parts) (unsaid-append n ps qs)

    -- what is held is finalised, one row after another
    all_finalised : (n : ℕ) (rows : ById (InterestRow K)) (g : Rows K) → RiseFrom (λ r. r.0) 0 rows → Holds n rows g → IsUpstream cmp matching (only n) g
        → (let h = ran cmp (unsaid_to n (flat_map (λ row. finalising cmp matching n row.0 row.1) rows)) g in IsUpstream cmp matching (only n) h × Holds n [] h)
    unfolding ran unsaid_to
    all_finalised n [] g rises holds up = (up, holds)
    all_finalised n (row ∷ rows) g rises holds up =
        let spare = λ (ss : Sends K). filter (λ s. not (n == s.0)) ss in
        let g1 = with_face n (unheld row.0) g in
        let ss2 = spare (to_face n (untell_to cmp matching g1) g1) in
        let g2 = rows_heard cmp ss2 g1 in
        let ss3 = spare (to_face n (final_of_both row.0 row.1) g2) in
        let g3 = rows_heard cmp ss3 g2 in
        let ss4 = spare (to_each (end_upstream_to cmp matching g3 row.1) g3.faces) in
        let g4 = rows_heard cmp ss4 g3 in
        let own : (row.0 == row.0) ≡ true = eq-eqb row.0 row.0 refl in
        let at_row : at_id row.0 (row ∷ rows) ≡ Some row.1 = rw own refl in
        let one = finalising_stands cmp matching total (only n) spare n row.0 row.1 holds.face g (spares_one cmp matching n) holds.found (ap (at_id row.0) holds.held ∙ at_row) up in
        let still = holds_heard n rows ss4 g3 (holds_heard n rows ss3 g2 (holds_heard n rows ss2 g1 (holds_unheld n row rows g rises holds))) in
        all_finalised n rows g4 (rise_lower (λ r. r.0) 0 (row.0 + 1) rows (omega arith) rises.1) still one

    -- the face goes, which holds nothing any more
    face_gone : (n : ℕ) (g : Rows K) → Holds n [] g → IsUpstream cmp matching (only n) g → IsUpstream cmp matching nobody (without_face n g)
    unfolding is_held_south
    face_gone n g holds up =
        let p = λ (f : Face K). not (n == f.number) in
        let same_ : (i : InterestRow K) → is_held_south cmp matching g i ≡ is_held_south cmp matching (without_face n g) i = λ i.
        sym (any_filtered (λ f. south_any cmp matching f i) p g.faces
        (each_weaker (λ f. (n == f.number) ≡ true → f ≡ holds.face) (λ f. p f ≡ false → south_any cmp matching f i ≡ false)
        (λ f only_ drops.
        let here : (n == f.number) ≡ true = by_test (n == f.number) (λ b. b) (λ b. let kept : p f ≡ true = rw b refl in never kept drops) in
        ap (λ (rows : ById (InterestRow K)). not (is_north f.region) && list_any (λ row. asks_same cmp matching i row.1) rows) (ap (λ (k : Face K). k.held) (only_ here) ∙ holds.held) ∙ by_test (is_north f.region) (λ b. rw b refl) (λ b. rw b refl))
        g.faces (find_only n 1 g.faces holds.face up.rises holds.found))) in
        stands_alike cmp matching nobody (is_held_south cmp matching g) (is_held_south cmp matching (without_face n g)) (without_face n g) same_
        (record {
          rises = rise_filter (λ f. f.number) 1 p g.faces up.rises;
          rows = each_filter HasRowsInOrder p g.faces up.rows;
          below = each_filter (LocalsBelow cmp matching) p g.faces up.below;
          locals =
              each_both (λ f. p f ≡ true) (λ f. only n f.number ≡ false → is_sent_all cmp matching g.mode f ≡ true → (i : InterestRow K) → local_any cmp matching f i ≡ is_held_south cmp matching g i) (λ f. nobody f.number ≡ false → is_sent_all cmp matching g.mode f ≡ true → (i : InterestRow K) → local_any cmp matching f i ≡ is_held_south cmp matching g i)
              (λ f kept own _ sent i. own (by_test (n == f.number) (λ b. let drops : p f ≡ false = rw b refl in never kept drops) (λ b. b)) sent i) (filter p g.faces) (each_passes p g.faces)
              (each_filter (λ f. only n f.number ≡ false → is_sent_all cmp matching g.mode f ≡ true → (i : InterestRow K) → local_any cmp matching f i ≡ is_held_south cmp matching g i) p g.faces up.locals);
          routed = each_filter (λ f. is_routed g f ≡ true → (f.mode ≡ Router) × (f.held ≡ [])) p g.faces up.routed;
        })

    -- the others' part of what is so
    upstream_but : (but : ℕ → Bool) (g : Rows K) → IsUpstream cmp matching nobody g → IsUpstream cmp matching but g
    upstream_but but g up = record {
      rises = up.rises;
      rows = up.rows;
      below = up.below;
      locals = each_weaker (λ f. nobody f.number ≡ false → is_sent_all cmp matching g.mode f ≡ true → (i : InterestRow K) → local_any cmp matching f i ≡ is_held_south cmp matching g i) (λ f. but f.number ≡ false → is_sent_all cmp matching g.mode f ≡ true → (i : InterestRow K) → local_any cmp matching f i ≡ is_held_south cmp matching g i) (λ f own _ sent i. own refl sent i) g.faces up.locals;
      routed = up.routed;
    }

    closed_stays : (n : ℕ) (from : Face K) (g : Rows K) → find_face n g ≡ Some from → IsUpstream cmp matching nobody g → IsUpstream cmp matching nobody (ran cmp (closing cmp matching n g from) g)
    unfolding ran
    closed_stays n from g found up = by_test (is_routed g from) routed plain
      where
        routed : is_routed g from ≡ true → IsUpstream cmp matching nobody (ran cmp (closing cmp matching n g from) g)
        routed here =
            rw here (face_gone n g (record { face = from; found = found; held = (find_each (λ f. is_routed g f ≡ true → (f.mode ≡ Router) × (f.held ≡ [])) (λ f. n == f.number) g.faces from up.routed found here).1 }) (upstream_but (only n) g up))

        gone : List (Part K)
        gone = flat_map (λ row. undeclaring cmp matching n row.0 None from ++ hiding cmp from.region row.1) from.live

        finals : List (Part K)
        finals = flat_map (λ row. finalising cmp matching n row.0 row.1) from.held

        over : List (Part K)
        over = Alter (with_face n without_asks) ∷ flat_map (λ row. ending n row.0) from.pendings

        gone_quiet : Each (PartQuiet cmp matching) (unsaid_to n gone)
        gone_quiet = unsaid_quiet cmp matching n gone (each_flat_map (PartQuiet cmp matching) (λ row. undeclaring cmp matching n row.0 None from ++ hiding cmp from.region row.1) from.live (λ row. each_append (PartQuiet cmp matching) (undeclaring cmp matching n row.0 None from) (hiding cmp from.region row.1) (undeclaring_quiet cmp matching n row.0 None from) (hiding_quiet cmp matching from.region row.1)))

        over_quiet : Each (PartQuiet cmp matching) (unsaid_to n over)
        over_quiet = unsaid_quiet cmp matching n over ((λ h. leaves_face cmp matching n without_asks h (asks_beside cmp matching)), each_flat_map (PartQuiet cmp matching) (λ row. ending n row.0) from.pendings (λ row. ending_quiet cmp matching n row.0))

        plain : is_routed g from ≡ false → IsUpstream cmp matching nobody (ran cmp (closing cmp matching n g from) g)
        plain here =
            let g1 = ran cmp (unsaid_to n gone) g in
            let h1 = holds_quiet n from.held (unsaid_to n gone) g gone_quiet (record { face = from; found = found; held = refl }) in
            let u1 = ran_quiet cmp matching (only n) (unsaid_to n gone) g gone_quiet (upstream_but (only n) g up) in
            let rises = (find_each HasRowsInOrder (λ f. n == f.number) g.faces from up.rows found).held in
            let g2 = ran cmp (unsaid_to n finals) g1 in
            let both = all_finalised n from.held g1 rises h1 u1 in
            let g3 = ran cmp (unsaid_to n over) g2 in
            let h3 = holds_quiet n [] (unsaid_to n over) g2 over_quiet both.1 in
            let u3 = ran_quiet cmp matching (only n) (unsaid_to n over) g2 over_quiet both.0 in
            let parts_are : unsaid_to n ((gone ++ finals) ++ over) ≡ (unsaid_to n gone ++ unsaid_to n finals) ++ unsaid_to n over = unsaid-append n (gone ++ finals) over ∙ ap (λ ps. ps ++ unsaid_to n over) (unsaid-append n gone finals) in
            let runs : ran cmp (unsaid_to n ((gone ++ finals) ++ over)) g ≡ g3 = ap (λ ps. ran cmp ps g) parts_are ∙ ran-append cmp (unsaid_to n gone ++ unsaid_to n finals) (unsaid_to n over) g ∙ ap (ran cmp (unsaid_to n over)) (ran-append cmp (unsaid_to n gone) (unsaid_to n finals) g) in
            rw here
            (subst (IsUpstream cmp matching nobody) (sym (ran-append cmp (unsaid_to n (leaving cmp matching n from)) (Alter (without_face n) ∷ []) g))
            (subst (λ (h : Rows K). IsUpstream cmp matching nobody (without_face n h)) (sym runs) (face_gone n g3 h3 u3)))

    pub closing_stays : (n : ℕ) (g : Rows K) → Stays cmp matching (CloseFace n) g
    unfolding parts_of ran
    closing_stays n g up = subst (IsUpstream cmp matching nobody) (sym (call_runs cmp matching (CloseFace n) g)) (by_face (find_face n g) refl)
      where
        by_face : (o : Option (Face K)) → find_face n g ≡ o → IsUpstream cmp matching nobody (ran cmp (elim o [ None ↦ [] | Some f ↦ closing cmp matching n g f ]) g)
        by_face None found = up
        by_face (Some from) found = closed_stays n from g found up
