-- The lines of workers in the order of a journal that has a monitor's between them.
use Rattle.std.proofs.Common.{◌≡◌, ◌≢◌, ℕ, zero, suc, ◌+◌, ◌≤◌, ◌<◌, Bool, true, false, not, ◌==◌, List, [], ◌∷◌, ◌++◌, length, map, filter, Option, Some, None, refl, sym, ap, ◌∙◌, subst, arith, eqb-true, eq-eqb, ne_eqb}
use Rattle.std.proofs.lemmas.Bool.{eqb-false}
use Rattle.std.proofs.lemmas.List.Elements.{filter-append}
use Rattle.std.specs.declared.cmp.Ordering.{Ordering}
use Rattle.zt_protocol.specs.Plain.{PlainCall, NewSession, NewTransport, DeclareToken, UndeclareToken, Interest, InterestFinal, DeclareFinal, CloseFace, Expire, SetTrees, SetEntities, PlainLine, Speak}
use Rattle.zt_model.specs.Journal.{IsReordered, Journalled, are_makings_first, is_driven, is_making, starts_none}
use Rattle.zt_model.specs.Transcript.{Each}
use Rattle.zt_laws.proofs.Lists.{by_test, each_append, each_both, each_filter, each_map, each_passes, each_weaker, filter_alike, filter_all, map-append, map-map, map_alike}
use Rattle.zt_theorem_journal.specs.Alone.{Speaks, SpeaksOrOpens, line_of_call}
use Rattle.zt_theorem_journal.specs.Asked.{token_ask}
use Rattle.zt_theorem_journal.specs.Dealt.{IsDealt, numbered_from, order_of, script_of, worker_of}
use Rattle.zt_theorem_journal.proofs.Order.{each_numbered, each_of_map, each_part, entries_speak, is_reordered, map_second}
use Rattle.zt_theorem_watch.specs.Beside.{IsDealtBeside, order_beside}
use Rattle.zt_theorem_watch.specs.Watched.{asks_from, of_monitor, of_script}
use Rattle.zt_theorem_watch.proofs.Lists.{filter_map, filter_none, filter_within, numbered_above}

module _ {K : Type 0} where
  pub speaking_line : (c : PlainCall K) → Speaks c → line_of_call c ≡ Speak c
  speaking_line (NewSession first) speaks = let none : None ≡ Some speaks.0 = speaks.1 in cc
  speaking_line (NewTransport zid whatami region bound first) speaks = refl
  speaking_line (DeclareToken face id expr node interest) speaks = refl
  speaking_line (UndeclareToken face id expr node) speaks = refl
  speaking_line (Interest face id mode options expr) speaks = refl
  speaking_line (InterestFinal face id) speaks = refl
  speaking_line (DeclareFinal face interest) speaks = refl
  speaking_line (CloseFace face) speaks = refl
  speaking_line (Expire now) speaks = refl
  speaking_line (SetTrees region table) speaks = refl
  speaking_line (SetEntities face subscribers queryables) speaks = refl

  pub may_speak : (c : PlainCall K) → Speaks c → SpeaksOrOpens c
  may_speak (NewSession first) speaks = let none : None ≡ Some speaks.0 = speaks.1 in cc
  may_speak (NewTransport zid whatami region bound first) speaks = speaks
  may_speak (DeclareToken face id expr node interest) speaks = speaks
  may_speak (UndeclareToken face id expr node) speaks = speaks
  may_speak (Interest face id mode options expr) speaks = speaks
  may_speak (InterestFinal face id) speaks = speaks
  may_speak (DeclareFinal face interest) speaks = speaks
  may_speak (CloseFace face) speaks = speaks
  may_speak (Expire now) speaks = speaks
  may_speak (SetTrees region table) speaks = speaks
  may_speak (SetEntities face subscribers queryables) speaks = speaks

  abbrev pub with_call : ℕ × Journalled K → ℕ × PlainCall K
  with_call x = (x.0, x.1.call)

  abbrev pub with_line : ℕ × Journalled K → ℕ × PlainLine K
  with_line x = (x.0, line_of_call x.1.call)

-- the lines in their order
pub order_is_of : {K : Type 0} (line : PlainLine K) (makings : List (PlainLine K)) (journal : List (ℕ × Journalled K)) → map (λ x. x.1) (order_beside line makings journal) ≡ line ∷ (makings ++ map (λ (e : Journalled K). line_of_call e.call) (map (λ x. x.1) journal))
order_is_of {K = K} line makings journal =
    ap (λ xs. line ∷ xs)
    (map-append (λ (x : ℕ × PlainLine K). x.1) (numbered_from 2 makings) (map with_line journal)
    ∙ ap (λ xs. xs ++ map (λ (x : ℕ × PlainLine K). x.1) (map with_line journal)) (map_second 2 makings)
    ∙ ap (λ xs. makings ++ xs) (map-map (λ (x : ℕ × PlainLine K). x.1) with_line journal ∙ sym (map-map (λ (e : Journalled K). line_of_call e.call) (λ (x : ℕ × Journalled K). x.1) journal)))

module _ {K : Type 0} (workers first : ℕ) (calls monitor : List (PlainCall K)) (journal : List (ℕ × Journalled K)) (dealt : IsDealtBeside workers first calls monitor journal) where
  -- what holds of each call holds of the entries' calls
  pub each_call : (P : ℕ → PlainCall K → Type 0) → ((n : ℕ) → Each (P n) calls) → Each (P 0) monitor → Each (λ x. P x.0 x.1.call) journal
  each_call P theirs own =
      each_part (λ p x. P x.0 x.1.call) (λ x. x.1.pass) (workers + 1) journal dealt.passes
      (λ p less. by_test (p == workers)
      (λ is. let last : p ≡ workers = eqb-true p workers is in subst (λ n. Each (λ x. P x.0 x.1.call) (filter (λ x. x.1.pass == n) journal)) (sym last) ours)
      (λ other. let apart : p ≢ workers = eqb-false p workers other in of_worker p (omega arith)))
    where
      numbered_each : (n : ℕ) (cs : List (PlainCall K)) → ((k : ℕ) → Each (P k) cs) → Each (λ x. P x.0 x.1) (numbered_from n cs)
      numbered_each n [] all = tt
      numbered_each n (c ∷ cs) all = ((all n).0, numbered_each (n + 1) cs (λ k. (all k).1))

      of_worker : (p : ℕ) → p < workers → Each (λ x. P x.0 x.1.call) (filter (λ x. x.1.pass == p) journal)
      of_worker p less =
          each_of_map (λ (x : ℕ × PlainCall K). P x.0 x.1) with_call (filter (λ x. x.1.pass == p) journal)
          (subst (Each (λ (x : ℕ × PlainCall K). P x.0 x.1)) (sym (dealt.parts p less))
          (each_filter (λ (x : ℕ × PlainCall K). P x.0 x.1) (λ x. worker_of workers x.1 == p) (numbered_from first calls) (numbered_each first calls theirs)))

      ours : Each (λ x. P x.0 x.1.call) (filter (λ x. x.1.pass == workers) journal)
      ours =
          each_of_map (λ (x : ℕ × PlainCall K). P x.0 x.1) with_call (filter (λ x. x.1.pass == workers) journal)
          (subst (Each (λ (x : ℕ × PlainCall K). P x.0 x.1)) (sym dealt.own) (each_map (λ (x : ℕ × PlainCall K). P x.0 x.1) (λ (c : PlainCall K). (0, c)) monitor own))

  -- the monitor's entries are those that have the number 0
  pub zero_own : 1 ≤ first → Each (λ x. (x.0 == 0) ≡ (x.1.pass == workers)) journal
  zero_own real =
      each_part (λ p x. (x.0 == 0) ≡ (p == workers)) (λ x. x.1.pass) (workers + 1) journal dealt.passes
      (λ p less. by_test (p == workers)
      (λ is.
      let last : p ≡ workers = eqb-true p workers is in
      subst (λ n. Each (λ x. (x.0 == 0) ≡ (n == workers)) (filter (λ x. x.1.pass == n) journal)) (sym last)
      (each_weaker (λ x. x.0 ≡ 0) (λ x. (x.0 == 0) ≡ (workers == workers)) (λ x h. eq-eqb x.0 0 h ∙ sym (eq-eqb workers workers refl)) (filter (λ x. x.1.pass == workers) journal) ours))
      (λ other.
      let apart : p ≢ workers = eqb-false p workers other in
      each_weaker (λ x. first ≤ x.0) (λ x. (x.0 == 0) ≡ (p == workers)) (λ x h. ne_eqb x.0 0 (omega arith) ∙ sym other) (filter (λ x. x.1.pass == p) journal) (of_worker p (omega arith))))
    where
      of_worker : (p : ℕ) → p < workers → Each (λ x. first ≤ x.0) (filter (λ x. x.1.pass == p) journal)
      of_worker p less =
          each_of_map (λ (x : ℕ × PlainCall K). first ≤ x.0) with_call (filter (λ x. x.1.pass == p) journal)
          (subst (Each (λ (x : ℕ × PlainCall K). first ≤ x.0)) (sym (dealt.parts p less))
          (each_filter (λ (x : ℕ × PlainCall K). first ≤ x.0) (λ x. worker_of workers x.1 == p) (numbered_from first calls) (numbered_above first first calls (omega arith))))

      zeros : (cs : List (PlainCall K)) → Each (λ (x : ℕ × PlainCall K). x.0 ≡ 0) (map (λ c. (0, c)) cs)
      zeros [] = tt
      zeros (c ∷ cs) = (refl, zeros cs)

      ours : Each (λ x. x.0 ≡ 0) (filter (λ x. x.1.pass == workers) journal)
      ours =
          each_of_map (λ (x : ℕ × PlainCall K). x.0 ≡ 0) with_call (filter (λ x. x.1.pass == workers) journal)
          (subst (Each (λ (x : ℕ × PlainCall K). x.0 ≡ 0)) (sym dealt.own) (zeros monitor))

  -- The other entries are dealt to the workers.
  pub others_dealt : 1 ≤ first → IsDealt workers first calls (of_script journal)
  others_dealt real = record {
    some = dealt.some;
    speak = dealt.speak;
    passes =
        each_both (λ x. not (x.0 == 0) ≡ true) (λ x. ((x.0 == 0) ≡ (x.1.pass == workers)) × (x.1.pass < workers + 1)) (λ x. x.1.pass < workers)
        (λ x here there. below x.0 x.1.pass (x.0 == 0) there.0 here there.1) (of_script journal)
        (each_passes (λ x. not (x.0 == 0)) journal)
        (each_filter (λ x. ((x.0 == 0) ≡ (x.1.pass == workers)) × (x.1.pass < workers + 1)) (λ x. not (x.0 == 0)) journal
        (each_both (λ x. (x.0 == 0) ≡ (x.1.pass == workers)) (λ x. x.1.pass < workers + 1) (λ x. ((x.0 == 0) ≡ (x.1.pass == workers)) × (x.1.pass < workers + 1)) (λ x one two. (one, two)) journal (zero_own real) dealt.passes));
    parts = λ p less. ap (map with_call) (filter_within (λ x. x.1.pass == p) (λ x. not (x.0 == 0)) journal (theirs p less)) ∙ dealt.parts p less;
  }
    where
      below : (n p : ℕ) (b : Bool) → b ≡ (p == workers) → not b ≡ true → p < workers + 1 → p < workers
      below n p true is other less = cc
      below n p false is other less = let apart : p ≢ workers = eqb-false p workers (sym is) in omega arith

      theirs : (p : ℕ) → p < workers → Each (λ x. (x.1.pass == p) ≡ true → not (x.0 == 0) ≡ true) journal
      theirs p less =
          each_weaker (λ x. (x.0 == 0) ≡ (x.1.pass == workers)) (λ x. (x.1.pass == p) ≡ true → not (x.0 == 0) ≡ true)
          (λ x is own. let at_ : x.1.pass ≡ p = eqb-true x.1.pass p own in ap not (is ∙ ne_eqb x.1.pass workers (omega arith))) journal (zero_own real)

  -- the monitor's lines among them
  pub monitor_lines : 1 ≤ first → of_monitor (map with_line journal) ≡ map (λ c. (0, line_of_call c)) monitor
  monitor_lines real =
      filter_map (λ x. x.0 == 0) with_line journal
      ∙ ap (map with_line) (filter_alike (λ x. x.0 == 0) (λ x. x.1.pass == workers) journal (zero_own real))
      ∙ sym (map-map (λ (x : ℕ × PlainCall K). let y : ℕ × PlainLine K = (x.0, line_of_call x.1) in y) with_call (filter (λ x. x.1.pass == workers) journal))
      ∙ ap (map (λ (x : ℕ × PlainCall K). (x.0, line_of_call x.1))) dealt.own
      ∙ map-map (λ (x : ℕ × PlainCall K). let y : ℕ × PlainLine K = (x.0, line_of_call x.1) in y) (λ (c : PlainCall K). (0, c)) monitor

  module _ (line : PlainLine K) (makings : List (PlainLine K)) where
    abbrev order : List (ℕ × PlainLine K)
    order = order_beside line makings journal

    apart_from_zero : Each (λ x. (x.0 == 0) ≡ false) (numbered_from 2 makings)
    apart_from_zero = each_weaker (λ x. 2 ≤ x.0) (λ x. (x.0 == 0) ≡ false) (λ x h. ne_eqb x.0 0 (omega arith)) (numbered_from 2 makings) (numbered_above 2 2 makings (omega arith))

    pub order_monitor : 1 ≤ first → of_monitor order ≡ map (λ c. (0, line_of_call c)) monitor
    order_monitor real =
        filter-append (λ x. x.0 == 0) (numbered_from 2 makings) (map with_line journal)
        ∙ ap (λ xs. xs ++ of_monitor (map with_line journal)) (filter_none (λ x. x.0 == 0) (numbered_from 2 makings) apart_from_zero)
        ∙ monitor_lines real

    pub order_script : 1 ≤ first → of_script order ≡ order_of line makings (of_script journal)
    order_script real =
        ap (λ xs. (1, line) ∷ xs)
        (filter-append (λ x. not (x.0 == 0)) (numbered_from 2 makings) (map with_line journal)
        ∙ ap (λ xs. xs ++ of_script (map with_line journal)) (filter_all (λ x. not (x.0 == 0)) (numbered_from 2 makings) (each_weaker (λ x. (x.0 == 0) ≡ false) (λ x. not (x.0 == 0) ≡ true) (λ x h. ap not h) (numbered_from 2 makings) apart_from_zero))
        ∙ ap (λ xs. numbered_from 2 makings ++ xs)
        (filter_map (λ x. not (x.0 == 0)) with_line journal
        ∙ map_alike with_line (λ x. (x.0, Speak x.1.call)) (of_script journal)
        (each_weaker (λ x. Speaks x.1.call) (λ x. with_line x ≡ (x.0, Speak x.1.call)) (λ x speaks. ap (λ l. (x.0, l)) (speaking_line x.1.call speaks)) (of_script journal)
        (entries_speak workers first calls (of_script journal) (others_dealt real)))))

    -- The script's lines are reordered.
    pub script_reordered : (cmp : K → K → Ordering) (matching : K → K → Bool) → first ≡ 2 + length makings → ((more : List (PlainLine K)) → is_driven (line ∷ more) ≡ are_makings_first more) → Each (λ m. is_making m ≡ true) makings
        → starts_none cmp matching (numbered_from 1 (script_of line makings calls)) ≡ false → IsReordered cmp matching (numbered_from 1 (script_of line makings calls)) (of_script order)
    script_reordered cmp matching at_ begins making starts =
        subst (IsReordered cmp matching (numbered_from 1 (script_of line makings calls))) (sym (order_script (omega arith)))
        (is_reordered workers first calls (of_script journal) (others_dealt (omega arith)) cmp matching line makings at_ begins making starts)

    -- what holds of each line
    pub each_line : (P : PlainLine K → Type 0) → P line → Each P makings → Each (λ c. P (line_of_call c)) calls → Each (λ c. P (line_of_call c)) monitor → Each P (map (λ x. x.1) order)
    each_line P one makers theirs own =
        subst (Each P) (sym (order_is_of line makings journal)) (
          one,
          each_append P makings (map (λ (e : Journalled K). line_of_call e.call) (map (λ x. x.1) journal)) makers
              (each_map P (λ (e : Journalled K). line_of_call e.call) (map (λ x. x.1) journal)
              (each_map (λ (e : Journalled K). P (line_of_call e.call)) (λ (x : ℕ × Journalled K). x.1) journal (each_call (λ n c. P (line_of_call c)) (λ n. theirs) own))),
        )

-- the lines of a monitor's asks
pub ask_lines : {K : Type 0} (face id count : ℕ) (expr : Option K) → map (λ (c : PlainCall K). let x : ℕ × PlainLine K = (0, line_of_call c) in x) (asks_from face id count expr) ≡ map (λ c. (0, Speak c)) (asks_from face id count expr)
ask_lines face id zero expr = refl
ask_lines face id (suc count) expr = ap (λ xs. (0, Speak (token_ask face id expr)) ∷ xs) (ask_lines face (id + 1) count expr)

pub asks_speak : {K : Type 0} (face id count : ℕ) (expr : Option K) → Each Speaks (asks_from face id count expr)
asks_speak face id zero expr = tt
asks_speak face id (suc count) expr = ((face, refl), asks_speak face (id + 1) count expr)
