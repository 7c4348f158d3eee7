-- Where no step follows any more nothing waits, and all plain faces know their trees.
use Rattle.std.proofs.Common.{◌≡◌, ◌≢◌, ◌⊎◌, ℕ, ◌+◌, ◌-◌, ◌≤◌, Bool, true, false, not, ◌&&◌, ◌||◌, ◌==◌, nat_lt, List, [], ◌∷◌, length, Option, Some, None, Err, is_some, refl, sym, ap, ◌∙◌, subst, arith, eq-eqb, eqb-true, ne_eqb, ⊎_elim}
use Rattle.std.proofs.lemmas.Bool.{and_from, and_parts, or_cases}
use Rattle.std.specs.Cmp.{IsTotalOrder}
use Rattle.std.specs.List.{list_all, list_any}
use Rattle.std.specs.declared.cmp.Ordering.{Ordering}
use Rattle.std.specs.declared.cmp.Ordering.TheVariants.{Equal}
use Rattle.zt_region.specs.declared.region.WhatAmI.TheVariants.{Client}
use Rattle.zt_region.specs.declared.region.Region.{Region}
use Rattle.zt_region.specs.Region.{is_north, region_eq, whatami_eq}
use Rattle.zt_protocol.specs.Plain.{PlainCall, NewSession, NewTransport, DeclareToken, UndeclareToken, Interest, InterestFinal, DeclareFinal, CloseFace, Expire, SetTrees, SetEntities, PlainLine, Step}
use Rattle.zt_protocol.specs.Refusal.{number_of}
use Rattle.zt_protocol.specs.declared.errors.Refusal.{Refusal}
use Rattle.zt_protocol.specs.declared.errors.Refusal.TheVariants as refusal
use Rattle.zt_protocol.specs.declared.messages.Message.{Message}
use Rattle.zt_model.specs.Fabric.{CallAt, Fabric, Link, Node, line_causes, call_of, causes_of_call, empty_fabric, entries_from, entry_by, entry_of, fabric_after, is_linked_face, is_open_link, line_causes, line_spends_ids, number_of_place, said_by_line, sorted_by_face}
use Rattle.zt_model.specs.Linking.{is_end_of, oldest, sending_end, waiting_of}
use Rattle.zt_model.specs.Lists.{at_id, first_of, is_some_and, nth}
use Rattle.zt_model.specs.Promises.{turns_from}
use Rattle.zt_model.specs.Refusals.{Causes, call_causes, first_cause}
use Rattle.zt_model.specs.Rows.{ById, Rows}
use Rattle.zt_model.specs.Transcript.{Each}
use Rattle.zt_model.specs.TreePromises.{LeadsUpByLink, are_links_empty, is_client_region}
use Rattle.zt_laws.specs.Shown.{as_shown}
use Rattle.zt_laws.specs.Sound.{HasFirstIds, RiseFrom}
use Rattle.zt_laws.proofs.Lists.{any-map, by_test, each_map, each_weaker, never, rise_above}
use Rattle.zt_laws.proofs.Numbered.{nth_real}
use Rattle.zt_laws.proofs.PartsOrder.{each_of_map}
use Rattle.zt_laws.proofs.ShownLines.{fabric_is_shown}
use Rattle.zt_theorem_soundness.proofs.Sound.{sound_after_line, sound_gateways_keep, sound_start}
use Rattle.zt_theorem_tree_invariant.specs.Trees.{FacesFormTrees, IsOfClients, LeavesTrees, RefusesNoFaces, has_face_in, have_both_faces}
use Rattle.zt_theorem_tree_invariant.proofs.Knowledge.{plain_face_knows}
use Rattle.zt_theorem_tree_invariant.proofs.Members.{each_gateway_nth}
use Rattle.zt_theorem_tree_invariant.proofs.Start.{agree_at_first}
use Rattle.zt_theorem_tree_knowledge.proofs.Lines.{trees_after_each}
use Rattle.zt_theorem_tree_knowledge.proofs.Turns.{each_gateway_from, not_spent, tree_unshown}
use Rattle.zt_theorem_tree_rest.specs.Rest.{AllKnowTheirTrees, IsAtRest, NoneFollows, StepsFollow, TreesStand, fabric_after_all}
use Rattle.zt_theorem_tree_rest.specs.Steps.{QueuesStand, messages_waiting, most_steps, takes_message, tokens_of}
use Rattle.zt_theorem_tree_rest.proofs.Frames.{Frame, Outline, frame_of, outline}
use Rattle.zt_theorem_tree_rest.proofs.Queues.{queues_after}
use Rattle.zt_theorem_tree_rest.proofs.Rest.{since_start, steps_end, steps_lessen}
use Rattle.zt_theorem_tree_rest.proofs.Since.{Since, node_was}
use Rattle.zt_theorem_tree_rest.proofs.Sums.{total, total_is}

-- ---- members by their numbers

some_nth : {A : Type 0} (p : A → Bool) (xs : List A) → list_any p xs ≡ true → (n : ℕ) × (x : A) × (nth n xs ≡ Some x) × (p x ≡ true)
some_nth p [] some = cc
some_nth p (x ∷ xs) some =
    by_test (p x) (λ here. (1, x, refl, here))
    (λ here.
    let rest = some_nth p xs (rw here at some) in
    let real = nth_real rest.0 xs rest.1 rest.2 in
    let apart : (rest.0 + 1 == 1) ≡ false = ne_eqb (rest.0 + 1) 1 (λ e. omega arith) in
    let down : rest.0 + 1 - 1 ≡ rest.0 = omega arith in
    (rest.0 + 1, rest.1, rw apart (ap (λ k. nth k xs) down ∙ rest.2), rest.3))

-- ---- causes of calls

far_cause : (causes : Causes) (r : Refusal) → Each (λ c. nat_lt 3 (number_of c.1) ≡ true) causes → first_cause causes ≡ Some r → nat_lt 3 (number_of r) ≡ true
unfolding first_cause
far_cause [] r all is = cc
far_cause (c ∷ causes) r all is = by_test c.0 (λ here. let first : Some c.1 ≡ Some r = rw here at is in let same_ : c.1 ≡ r = cc in ap (λ x. nat_lt 3 (number_of x)) (sym same_) ∙ all.0) (λ here. far_cause causes r all.1 (rw here at is))

module _ {K : Type 0} (cmp : K → K → Ordering) (matching : K → K → Bool) where
  far_causes : (spent : Bool) (c : PlainCall K) (g : Rows K) → Each (λ c. nat_lt 3 (number_of c.1) ≡ true) (call_causes cmp matching spent c g)
  unfolding call_causes
  far_causes spent (NewSession first) g = (refl, tt)
  far_causes spent (NewTransport zid whatami region bound first) g = (refl, (refl, (refl, (refl, (refl, tt)))))
  far_causes spent (DeclareToken n id e node interest) g = (refl, (refl, (refl, (refl, (refl, (refl, (refl, tt)))))))
  far_causes spent (UndeclareToken n id given node) g = (refl, (refl, (refl, tt)))
  far_causes spent (Interest n id mode options e) g = (refl, (refl, (refl, (refl, (refl, (refl, (refl, tt)))))))
  far_causes spent (InterestFinal n id) g = (refl, (refl, tt))
  far_causes spent (DeclareFinal n id) g = (refl, (refl, (refl, tt)))
  far_causes spent (CloseFace n) g = (refl, tt)
  far_causes spent (Expire now) g = (refl, tt)
  far_causes spent (SetTrees region t) g = (refl, (refl, (refl, tt)))
  far_causes spent (SetEntities n subscribers queryables) g = (refl, (refl, tt))

  far_of_call : (spent : Bool) (o : Option (CallAt K)) (r : Refusal) → first_cause (causes_of_call cmp matching spent o) ≡ Some r → nat_lt 3 (number_of r) ≡ true
  unfolding first_cause
  far_of_call spent None r is = cc
  far_of_call spent (Some at) r is = far_cause (call_causes cmp matching spent at.call at.rows) r (far_causes spent at.call at.rows) is

  -- a step of an open link on which something waits takes a message
  step_takes : (n : ℕ) (back : Bool) (s : Fabric K) → is_open_link s n ≡ true → is_some_and (nth n s.links) (λ l. is_some (oldest s l back)) ≡ true → takes_message (entry_of cmp matching (Step n back) s) ≡ true
  unfolding entry_of line_causes first_cause
  step_takes n back s opens there =
      let spent = line_spends_ids cmp matching (Step n back) s in
      let causes = causes_of_call cmp matching spent (call_of (Step n back) s) in
      rw (opens, there) (cases (first_cause causes) refl)
    where
      cases : (o : Option Refusal) → first_cause (causes_of_call cmp matching (line_spends_ids cmp matching (Step n back) s) (call_of (Step n back) s)) ≡ o → takes_message (entry_by cmp matching o (sorted_by_face (said_by_line cmp matching (Step n back) s))) ≡ true
      cases None is = refl
      cases (Some r) is = far_of_call (line_spends_ids cmp matching (Step n back) s) (call_of (Step n back) s) r is

  -- ---- where something waits a step follows

  -- a queue that isn't empty
  record SomeWaits (w : ById (List (Message K))) (P : ℕ → Type 0) : Type 0 where
    face : ℕ
    oldest_one : Message K
    others : List (Message K)
    is : at_id face w ≡ Some (oldest_one ∷ others)
    own : P face

  some_waits : (P : ℕ → Type 0) (low : ℕ) (w : ById (List (Message K))) → RiseFrom (λ row. row.0) low w → Each (λ row. P row.0) w → list_all (λ row. elim row.1 [ [] ↦ true | m ∷ ms ↦ false ]) w ≡ false → SomeWaits w P
  some_waits P low [] rises all some = cc
  some_waits P low (row ∷ w) rises all some = by_queue row.1 refl (λ rest. some_waits P (row.0 + 1) w rises.1 all.1 rest)
    where
      by_queue : (ms : List (Message K)) → row.1 ≡ ms → (list_all (λ row. elim row.1 [ [] ↦ true | m ∷ ms ↦ false ]) w ≡ false → SomeWaits w P) → SomeWaits (row ∷ w) P
      by_queue [] is more =
          let later : list_all (λ row. elim row.1 [ [] ↦ true | m ∷ ms ↦ false ]) w ≡ false = sym (ap (λ (ms : List (Message K)). (let b : Bool = elim ms [ [] ↦ true | m ∷ ms ↦ false ] in b) && list_all (λ row. elim row.1 [ [] ↦ true | m ∷ ms ↦ false ]) w) is) ∙ some in
          let found = more later in
          let above = found_above found.face w (record_of found.is) rises.1 in
          let apart : (found.face == row.0) ≡ false = ne_eqb found.face row.0 (λ e. omega arith) in
          record { face = found.face; oldest_one = found.oldest_one; others = found.others; is = rw apart found.is; own = found.own }
        where
          record_of : {o : Option (List (Message K))} {x : List (Message K)} → o ≡ Some x → is_some o ≡ true
          record_of {o} {x} e = ap is_some e

          found_above : (k : ℕ) (rows : ById (List (Message K))) → is_some (at_id k rows) ≡ true → RiseFrom (λ row. row.0) (row.0 + 1) rows → row.0 + 1 ≤ k
          found_above k rows there rises_ = go rows (rise_above (λ (r : ℕ × List (Message K)). r.0) (row.0 + 1) rows rises_) there
            where
              go : (rows : ById (List (Message K))) → Each (λ r. row.0 + 1 ≤ r.0) rows → is_some (at_id k rows) ≡ true → row.0 + 1 ≤ k
              go [] above there = cc
              go (r ∷ rows) above there = by_test (k == r.0) (λ here. let is : k ≡ r.0 = eqb-true k r.0 here in let le = above.0 in omega arith) (λ here. go rows above.1 (rw here at there))
      by_queue (m ∷ ms) is more = record { face = row.0; oldest_one = m; others = ms; is = rw (eq-eqb row.0 row.0 refl) (ap Some is); own = all.0 }

  pub goes_on : (s : Fabric K) → QueuesStand s → are_links_empty s ≡ false → (link : ℕ) × (back : Bool) × (takes_message (entry_of cmp matching (Step link back) s) ≡ true)
  goes_on s stand some =
      let found = some_waits (λ k. is_linked_face s (Some k) ≡ true) 0 s.waiting stand.rise stand.ends some in
      let k = found.face in
      let at_ = some_nth (λ (link : Link). link.is_open && (k == link.one || k == link.two)) s.links found.own in
      let n = at_.0 in
      let link = at_.1 in
      let parts = and_parts link.is_open (k == link.one || k == link.two) at_.3 in
      let opens : is_open_link s n ≡ true = ap (λ (o : Option Link). is_some_and o (λ l. l.is_open)) at_.2 ∙ parts.0 in
      let waits : waiting_of s k ≡ found.oldest_one ∷ found.others = ap (λ (o : Option (List (Message K))). (let ms : List (Message K) = elim o [ None ↦ [] | Some ms ↦ ms ] in ms)) found.is in
      let oldest_ : is_some (first_of (waiting_of s k)) ≡ true = ap (λ (ms : List (Message K)). is_some (first_of ms)) waits in
      let takes = λ (back : Bool) (end_ : sending_end link back ≡ k).
      step_takes n back s opens (ap (λ (o : Option Link). is_some_and o (λ l. is_some (oldest s l back))) at_.2 ∙ ap (λ q. is_some (first_of (waiting_of s q))) end_ ∙ oldest_) in
      ⊎_elim (λ one. (n, false, takes false (sym (eqb-true k link.one one)))) (λ two. (n, true, takes true (sym (eqb-true k link.two two)))) (or_cases (k == link.one) (k == link.two) parts.1)

  -- ---- rest

  nothing_left : (w : ById (List (Message K))) → total (λ row. length row.1) w ≡ 0 → list_all (λ row. elim row.1 [ [] ↦ true | m ∷ ms ↦ false ]) w ≡ true
  nothing_left [] none_ = refl
  nothing_left (row ∷ w) none_ = and_from (let b : Bool = elim row.1 [ [] ↦ true | m ∷ ms ↦ false ] in b) _ (by_queue row.1 (omega arith)) (nothing_left w (omega arith))
    where
      by_queue : (ms : List (Message K)) → length ms ≡ 0 → (let b : Bool = elim ms [ [] ↦ true | m ∷ ms ↦ false ] in b) ≡ true
      by_queue [] zero_ = refl
      by_queue (m ∷ ms) zero_ = absurd (omega arith)

  pub empty_where_none : (s : Fabric K) → messages_waiting s ≡ 0 → are_links_empty s ≡ true
  empty_where_none s none_ = nothing_left s.waiting (sym (total_is (λ row. length row.1) s.waiting) ∙ none_)

  pub empty_where_none_follows : (s : Fabric K) → QueuesStand s → NoneFollows cmp matching s → are_links_empty s ≡ true
  empty_where_none_follows s stand none_ =
      by_test (are_links_empty s) (λ here. here) (λ some. let next = goes_on s stand some in never next.2 (none_ next.0 next.1))

  -- ---- steps keep fabrics of trees

  tree_then : (tokens : List K) (s now : Fabric K) → Since cmp matching tokens s now → FacesFormTrees s → FacesFormTrees now
  tree_then tokens s now since trees = record {
    north =
        each_gateway_from (λ n (node : Node K). Each (LeadsUpByLink now n node.rows) node.rows.faces) 1 now.gateways
        (λ m node at_.
        let n_is : m + 1 ≡ 1 + m = omega arith in
        subst (λ n. Each (LeadsUpByLink now n node.rows) node.rows.faces) n_is
        (let n = m + 1 in
        let was = node_was cmp matching tokens s now since.framed n node at_ in
        let all : Each (LeadsUpByLink s n was.0.rows) was.0.rows.faces = each_gateway_nth (λ i (x : Node K). Each (LeadsUpByLink s i x.rows) x.rows.faces) 1 n n s.gateways was.0 (omega arith) trees.north was.1 in
        let Leads = λ (f : Frame K) (o : Outline K). is_north o.region ≡ true → (whatami_eq f.mode Client ≡ true) × (not (not (list_any (is_end_of (number_of_place s n o.number)) s.links)) ≡ true) in
        let then_ : Each (Leads (frame_of was.0.rows)) (frame_of was.0.rows).outlines = each_map (Leads (frame_of was.0.rows)) outline was.0.rows.faces (each_weaker (LeadsUpByLink s n was.0.rows) (λ f. Leads (frame_of was.0.rows) (outline f)) (λ f own up. let both = own up in (both.0, ap not both.1)) was.0.rows.faces all) in
        let now_ : Each (Leads (frame_of node.rows)) (frame_of node.rows).outlines = subst (λ (f : Frame K). Each (Leads f) f.outlines) (sym was.2) then_ in
        each_weaker (λ f. Leads (frame_of node.rows) (outline f)) (LeadsUpByLink now n node.rows)
        (λ f own up.
        let both = own up in
        let plain_ : not (list_any (is_end_of (number_of_place s n f.number)) s.links) ≡ false = not_true (not (list_any (is_end_of (number_of_place s n f.number)) s.links)) both.1 in
        (both.0, ap (λ ls. not (list_any (is_end_of (number_of_place now n f.number)) ls)) since.links ∙ ap (λ ps. not (list_any (is_end_of (number_of_place (record s { faces = ps }) n f.number)) s.links)) since.places ∙ plain_))
        node.rows.faces (each_of_map (Leads (frame_of node.rows)) outline node.rows.faces now_)));
    south =
        each_gateway_from (λ n (node : Node K). Each IsOfClients node.rows.faces) 1 now.gateways
        (λ m node at_.
        let was = node_was cmp matching tokens s now since.framed (m + 1) node at_ in
        let all : Each IsOfClients was.0.rows.faces = each_gateway_nth (λ i (x : Node K). Each IsOfClients x.rows.faces) 1 (m + 1) (m + 1) s.gateways was.0 (omega arith) trees.south was.1 in
        let Stands = λ (o : Outline K). is_client_region o.region ≡ true in
        each_of_map Stands outline node.rows.faces (subst (λ (f : Frame K). Each Stands f.outlines) (sym was.2) (each_map Stands outline was.0.rows.faces all)));
    admitted =
        each_gateway_from RefusesNoFaces 1 now.gateways
        (λ m node at_.
        let was = node_was cmp matching tokens s now since.framed (m + 1) node at_ in
        let admits_ : RefusesNoFaces (m + 1) was.0 = each_gateway_nth RefusesNoFaces 1 (m + 1) (m + 1) s.gateways was.0 (omega arith) trees.admitted was.1 in
        let there = λ (f : Frame K) (r : Region). list_any (λ (o : Outline K). region_eq o.region r) f.outlines in
        let Refuses = λ (f : Frame K). Each (λ (pair : Region × Region). (there f pair.0 && there f pair.1) ≡ false) f.refused in
        let same_ = λ (g : Rows K) (pair : Region × Region).
        ap (λ b. b && there (frame_of g) pair.1) (any-map (λ (o : Outline K). region_eq o.region pair.0) outline g.faces)
        ∙ ap (λ b. has_face_in g pair.0 && b) (any-map (λ (o : Outline K). region_eq o.region pair.1) outline g.faces) in
        let then_ : Refuses (frame_of was.0.rows) = each_weaker (λ pair. have_both_faces was.0.rows pair ≡ false) (λ pair. (there (frame_of was.0.rows) pair.0 && there (frame_of was.0.rows) pair.1) ≡ false) (λ pair none_. same_ was.0.rows pair ∙ none_) was.0.rows.refused admits_ in
        let now_ : Refuses (frame_of node.rows) = subst Refuses (sym was.2) then_ in
        each_weaker (λ pair. (there (frame_of node.rows) pair.0 && there (frame_of node.rows) pair.1) ≡ false) (λ pair. have_both_faces node.rows pair ≡ false) (λ pair none_. sym (same_ node.rows pair) ∙ none_) node.rows.refused now_);
  }
    where
      not_true : (b : Bool) → not b ≡ true → b ≡ false
      not_true true h = cc
      not_true false h = refl

  module _ (total_order : IsTotalOrder cmp) (equal_is_same : (a b : K) → cmp a b ≡ Equal → a ≡ b) where
    pub all_know : (s : Fabric K) → TreesStand cmp matching s → FacesFormTrees s → are_links_empty s ≡ true → AllKnowTheirTrees cmp matching s
    all_know s stand trees quiet = λ n x found plain. plain_face_knows cmp matching s stand.sound.order stand.agree trees (sound_gateways_keep cmp matching s stand.sound) quiet equal_is_same n x found plain

    stand_then : (tokens : List K) (s now : Fabric K) → Since cmp matching tokens s now → TreesStand cmp matching now
    stand_then tokens s now since = record { sound = since.sound; agree = since.agree; queues = since.queued }

    -- Where no step follows any more, or so many have followed, all is at rest.
    pub at_rest : (lines : List (PlainLine K)) (s : Fabric K) → TreesStand cmp matching s → FacesFormTrees s → StepsFollow cmp matching lines s
        → (NoneFollows cmp matching (fabric_after_all cmp matching lines s) ⊎ (most_steps cmp s ≤ length lines)) → IsAtRest cmp matching (fabric_after_all cmp matching lines s)
    at_rest lines s stand trees follow ends =
        let tokens = tokens_of cmp s in
        let after = fabric_after_all cmp matching lines s in
        let lessen = steps_lessen cmp matching total_order equal_is_same s stand tokens lines s (since_start cmp matching total_order equal_is_same s stand) follow in
        let now_ = stand_then tokens s after lessen.1 in
        let most = steps_end cmp matching total_order equal_is_same lines s stand follow in
        let quiet : are_links_empty after ≡ true = ⊎_elim (λ none_. empty_where_none_follows after now_.queues none_) (λ many. empty_where_none after (omega arith)) ends in
        record { empty_links = quiet; know = all_know after now_ (tree_then tokens s after lessen.1 trees) quiet }

    -- ---- scripts

    pub stand_start : TreesStand cmp matching empty_fabric
    stand_start = record { sound = sound_start cmp matching; agree = agree_at_first cmp matching; queues = record { rise = tt; ends = tt } }

    pub stand_after_line : (line : PlainLine K) (s : Fabric K) → HasFirstIds line → TreesStand cmp matching s → (let entry = entry_of cmp matching line s in entry ≢ Err refusal.IdsSpent → FacesFormTrees (fabric_after cmp matching line entry s) → TreesStand cmp matching (fabric_after cmp matching line entry s))
    stand_after_line line s real stand = λ other trees. record {
      sound = sound_after_line cmp matching total_order equal_is_same line s real stand.sound;
      agree = trees_after_each cmp matching total_order equal_is_same s stand.sound.order stand.agree line real other trees;
      queues = queues_after cmp matching line (entry_of cmp matching line s) s stand.agree.links.rows stand.queues;
    }

    -- what stands after the lines of a transcript of trees
    pub stand_after_all : (lines : List (PlainLine K)) (s : Fabric K) → Each HasFirstIds lines → TreesStand cmp matching s → FacesFormTrees s
        → (let turns = turns_from cmp matching lines (entries_from cmp matching lines s) (as_shown s) in Each (LeavesTrees cmp matching) turns → TreesStand cmp matching (fabric_after_all cmp matching lines s) × FacesFormTrees (fabric_after_all cmp matching lines s))
    unfolding turns_from entries_from
    stand_after_all [] s real stand trees = λ turns. (stand, trees)
    stand_after_all (line ∷ lines) s real stand trees =
        let entry = entry_of cmp matching line s in
        let next = fabric_after cmp matching line entry s in
        let is = fabric_is_shown cmp matching total_order line s stand.sound.order in
        λ turns.
        let here : FacesFormTrees next = tree_unshown cmp matching next (subst FacesFormTrees is turns.0.0) in
        let now_ = stand_after_line line s real.0 stand (not_spent cmp matching total_order equal_is_same entry turns.0.1) here in
        subst (λ (after : Fabric K). (let more = turns_from cmp matching lines (entries_from cmp matching lines next) after in Each (LeavesTrees cmp matching) more → TreesStand cmp matching (fabric_after_all cmp matching lines next) × FacesFormTrees (fabric_after_all cmp matching lines next))) (sym is) (stand_after_all lines next real.1 now_ here) turns.1

  -- a step that takes no message changes nothing
  pub takes_nothing : (link : ℕ) (back : Bool) (s : Fabric K) → (let entry = entry_of cmp matching (Step link back) s in takes_message entry ≡ false → fabric_after cmp matching (Step link back) entry s ≡ s)
  unfolding entry_of fabric_after
  takes_nothing link back s = cases (first_cause (line_causes cmp matching (line_spends_ids cmp matching (Step link back) s) (Step link back) s))
    where
      cases : (o : Option Refusal) → (let entry = entry_by cmp matching o (sorted_by_face (said_by_line cmp matching (Step link back) s)) in takes_message entry ≡ false → fabric_after cmp matching (Step link back) entry s ≡ s)
      cases None = λ none_. never refl none_
      cases (Some r) = λ none_. rw none_ refl
