-- Steps that follow one another come to an end, and then nothing waits.
use Rattle.std.proofs.Common.{◌≡◌, ◌≢◌, ℕ, ◌+◌, ◌*◌, ◌≤◌, Bool, true, false, if◌then◌else◌, ◌&&◌, ◌||◌, ◌==◌, List, [], ◌∷◌, ◌++◌, length, map, Option, Some, None, Err, refl, ap, ◌∙◌, subst, arith, add-mul}
use Rattle.std.proofs.lemmas.Bool.{and_from, and_parts, or_left, or_right}
use Rattle.std.specs.Cmp.{IsTotalOrder}
use Rattle.std.specs.List.{flat_map, list_all, list_any}
use Rattle.std.specs.declared.cmp.Ordering.{Ordering}
use Rattle.std.specs.declared.cmp.Ordering.TheVariants.{Equal}
use Rattle.zt_region.specs.Region.{is_north, zid_eq}
use Rattle.zt_protocol.specs.Plain.{PlainLine, Gateway, Session, Face as FaceLine, Link as LinkLine, Unlink, Step, Speak, Moment, SetTreesAt}
use Rattle.zt_protocol.specs.declared.errors.Refusal.TheVariants as refusal
use Rattle.zt_protocol.specs.declared.messages.Message.{Message}
use Rattle.zt_protocol.specs.declared.messages.Message.TheVariants as message
use Rattle.zt_model.specs.Fabric.{Fabric, Link, Node, entries_from, entry_of, fabric_after, is_linked_face, number_of_place}
use Rattle.zt_model.specs.Lists.{is_among, nth, same}
use Rattle.zt_model.specs.Rows.{ById, Face, RoutedRow}
use Rattle.zt_model.specs.Transcript.{Each, FaceAt}
use Rattle.zt_laws.specs.Order.{FabricIsInOrder}
use Rattle.zt_laws.proofs.Entries.{found_where}
use Rattle.zt_laws.proofs.Hearing.{find_passes}
use Rattle.zt_laws.proofs.Keys.{among-in_key_order, same_itself}
use Rattle.zt_laws.proofs.Lists.{any-append, by_test, each_both, each_weaker, never}
use Rattle.zt_theorem_tree_invariant.specs.Facts.{IsTreeGateway, TreesAgree}
use Rattle.zt_theorem_tree_invariant.specs.Joints.{are_joined, joins}
use Rattle.zt_theorem_tree_invariant.proofs.Climbing.{any_found}
use Rattle.zt_theorem_tree_invariant.proofs.Members.{is_there}
use Rattle.zt_theorem_tree_only_what_lived.specs.Tokens.{IsIn, TokenIn}
use Rattle.zt_theorem_tree_only_what_lived.proofs.Everywhere.{Everywhere}
use Rattle.zt_theorem_tree_rest.specs.Rest.{StepsFollow, TreesStand, fabric_after_all}
use Rattle.zt_theorem_tree_rest.specs.Steps.{declared, steps_to_end, entities_at, steps_down_from, is_step, messages_waiting, most_steps, steps_beyond, steps_up_from, steps_left, steps_of, takes_message, tokens_of}
use Rattle.zt_theorem_tree_rest.proofs.Answering.{each_part}
use Rattle.zt_theorem_tree_rest.proofs.Frames.{Outline, outline}
use Rattle.zt_theorem_tree_rest.proofs.Since.{Since, left_is}
use Rattle.zt_theorem_tree_rest.proofs.Stepped.{since_step, step_lessens}
use Rattle.zt_theorem_tree_rest.proofs.Sums.{total, total_is}
use Rattle.zt_theorem_tree_rest.proofs.Waiting.{queues}
use Rattle.zt_theorem_tree_rest.proofs.Weights.{falls_by_faces, falls_to, joins_other, rises_by_faces, rises_to}

module _ {K : Type 0} (cmp : K → K → Ordering) (matching : K → K → Bool) (total_order : IsTotalOrder cmp) (equal_is_same : (a b : K) → cmp a b ≡ Equal → a ≡ b) where
  -- ---- the tokens that are there at the start

  module _ (s : Fabric K) where
    abbrev live_at : Node K → List K
    live_at node = flat_map (λ f. map (λ row. row.1) f.live) node.rows.faces

    abbrev all_live : List K
    all_live = flat_map live_at s.gateways

    abbrev all_waiting : List K
    all_waiting = flat_map (λ row. declared row.1) s.waiting

    abbrev IsToken : K → Type 0
    IsToken e = is_among cmp e (tokens_of cmp s) ≡ true

    is_token : (e : K) → is_among cmp e (all_live ++ all_waiting) ≡ true → IsToken e
    is_token e there = among-in_key_order cmp total_order e (all_live ++ all_waiting) ∙ there

    each_row : (rows : ById K) → Each (λ row. is_among cmp row.1 (map (λ r. r.1) rows) ≡ true) rows
    each_row [] = tt
    each_row (row ∷ rows) = (or_left (same cmp row.1 row.1) _ (same_itself cmp total_order row.1), each_weaker (λ (r : ℕ × K). is_among cmp r.1 (map (λ r. r.1) rows) ≡ true) (λ r. is_among cmp r.1 (map (λ r. r.1) (row ∷ rows)) ≡ true) (λ r there. or_right (same cmp r.1 row.1) _ there) rows (each_row rows))

    live_tokens : (node : Node K) → ((test : K → Bool) → list_any test (live_at node) ≡ true → list_any test all_live ≡ true) → Each (λ (f : Face K). Each (λ row. IsToken row.1) f.live) node.rows.faces
    live_tokens node part =
        each_weaker (λ (f : Face K). (test : K → Bool) → list_any test (map (λ row. row.1) f.live) ≡ true → list_any test (live_at node) ≡ true) (λ (f : Face K). Each (λ row. IsToken row.1) f.live)
        (λ f own.
        each_weaker (λ (row : ℕ × K). is_among cmp row.1 (map (λ r. r.1) f.live) ≡ true) (λ row. IsToken row.1)
        (λ row there. is_token row.1 (any-append (same cmp row.1) all_live all_waiting ∙ or_left (is_among cmp row.1 all_live) (is_among cmp row.1 all_waiting) (part (same cmp row.1) (own (same cmp row.1) there)))) f.live (each_row f.live))
        node.rows.faces (each_part (λ (f : Face K). map (λ (row : ℕ × K). row.1) f.live) node.rows.faces)

    -- own rows alone stand in router regions
    no_routed : (node : Node K) → IsTreeGateway cmp matching node.rows → Each (λ (row : RoutedRow K). zid_eq row.source node.rows.zid ≡ false → IsToken row.expr) node.rows.routed
    no_routed node tree = each_weaker (λ (row : RoutedRow K). zid_eq row.source node.rows.zid ≡ true) (λ row. zid_eq row.source node.rows.zid ≡ false → IsToken row.expr) (λ row own other. never own other) node.rows.routed tree.own_rows

    in_queue : (ms : List (Message K)) → ((test : K → Bool) → list_any test (declared ms) ≡ true → list_any test all_waiting ≡ true) → Each (TokenIn IsToken) ms
    in_queue [] part = tt
    in_queue (message.DeclareToken id e i n ∷ ms) part = (
      is_token e (any-append (same cmp e) all_live all_waiting ∙ or_right (is_among cmp e all_live) (is_among cmp e all_waiting) (part (same cmp e) (or_left (same cmp e e) _ (same_itself cmp total_order e)))),
      in_queue ms (λ test some. part test (or_right (test e) (list_any test (declared ms)) some)),
    )
    in_queue (message.UndeclareToken id e n ∷ ms) part = (tt, in_queue ms part)
    in_queue (message.DeclareFinal id ∷ ms) part = (tt, in_queue ms part)
    in_queue (message.Interest id mode options e ∷ ms) part = (tt, in_queue ms part)
    in_queue (message.InterestFinal id ∷ ms) part = (tt, in_queue ms part)
    in_queue (message.DeclareSubscriber id e i ∷ ms) part = (tt, in_queue ms part)
    in_queue (message.DeclareQueryable id e info i ∷ ms) part = (tt, in_queue ms part)

    tokens_everywhere : Each (λ (node : Node K). IsTreeGateway cmp matching node.rows) s.gateways → Everywhere IsToken s
    tokens_everywhere trees = record {
      gateways =
          each_both (λ (node : Node K). IsTreeGateway cmp matching node.rows) (λ (node : Node K). (test : K → Bool) → list_any test (live_at node) ≡ true → list_any test all_live ≡ true) (λ (node : Node K). IsIn IsToken node.rows)
          (λ node tree part. record { live = live_tokens node part; routed = no_routed node tree }) s.gateways trees (each_part live_at s.gateways);
      waiting =
          each_weaker (λ (row : ℕ × List (Message K)). (test : K → Bool) → list_any test (declared row.1) ≡ true → list_any test all_waiting ≡ true) (λ row. Each (TokenIn IsToken) row.1) (λ row part. in_queue row.1 part) s.waiting
          (each_part (λ (row : ℕ × List (Message K)). declared row.1) s.waiting);
    }

    pub since_start : TreesStand cmp matching s → Since cmp matching (tokens_of cmp s) s s
    since_start stand = record { links = refl; places = refl; framed = refl; sound = stand.sound; agree = stand.agree; everywhere = tokens_everywhere stand.agree.gateways; queued = stand.queues }

    -- ---- each message weighs something

    module _ (stand : TreesStand cmp matching s) (tokens : List K) where
      abbrev fine : FabricIsInOrder cmp matching s
      fine = stand.sound.order

      abbrev agree : TreesAgree cmp matching s
      agree = stand.agree

      falls_real : (n : ℕ) (node : Node K) → nth n s.gateways ≡ Some node → 1 ≤ steps_down_from s n
      falls_real n node at_ = let is = falls_by_faces cmp matching s fine agree 0 n node at_ in omega arith

      two_times : (a f u : ℕ) → 1 ≤ f → 1 ≤ (a + 2) * f + u
      two_times a f u real = let is = add-mul a 2 f in omega arith

      rises_real : (n : ℕ) (node : Node K) → nth n s.gateways ≡ Some node → 1 ≤ steps_up_from (length tokens) s n
      rises_real n node at_ =
          let is = rises_by_faces cmp matching s fine agree (length tokens) n node at_ in
          let real = falls_real n node at_ in
          let more = two_times (3 * length tokens + entities_at s n) (steps_down_from s n) (total (λ (o : Outline K). if is_north o.region then steps_beyond (length tokens) s (number_of_place s n o.number) else 0) (map outline node.rows.faces)) real in
          omega arith

      -- an end of an open link is joined to another face
      joined_end : (k : ℕ) → is_linked_face s (Some k) ≡ true → (other : ℕ) × (are_joined s k other ≡ true)
      joined_end k linked =
          let test = λ (link : Link). link.is_open && (k == link.one || k == link.two) in
          let found = found_where test s.links linked in
          let link = found.0 in
          let parts = and_parts link.is_open (k == link.one || k == link.two) (find_passes test s.links link found.1) in
          let other : ℕ = if k == link.one then link.two else link.one in
          (other, any_found test (λ l. l.is_open && joins k other l) s.links link found.1 (and_from link.is_open (joins k other link) parts.0 (joins_other cmp matching s fine agree k link parts.1)))

      pub end_weighs : (k : ℕ) → is_linked_face s (Some k) ≡ true → (m : Message K) → 1 ≤ steps_of (length tokens) s k m
      end_weighs k linked = by_message
        where
          end_ : (other : ℕ) × (are_joined s k other ≡ true)
          end_ = joined_end k linked

          passes : 1 ≤ steps_beyond (length tokens) s k
          passes =
              let ends = agree.links.meet k end_.0 end_.1 in
              let at_ = is_there s end_.0 ends.two ends.two_is in
              by_test (is_north ends.one.face.region)
              (λ north. let is = rises_to cmp matching s fine agree (length tokens) k end_.0 ends.one ends.two end_.1 ends.one_is ends.two_is north in let real = rises_real ends.two.gateway at_.node at_.node_is in omega arith)
              (λ south. let is = falls_to cmp matching s fine agree (length tokens) k end_.0 ends.one ends.two end_.1 ends.one_is ends.two_is south in let real = falls_real ends.two.gateway at_.node at_.node_is in omega arith)

          by_message : (m : Message K) → 1 ≤ steps_of (length tokens) s k m
          by_message (message.DeclareToken id e interest n) = passes
          by_message (message.UndeclareToken id e n) = passes
          by_message (message.DeclareFinal id) = passes
          by_message (message.Interest id mode options e) = passes
          by_message (message.DeclareSubscriber id e interest) = passes
          by_message (message.DeclareQueryable id e info interest) = passes
          by_message (message.InterestFinal id) =
              let ends = agree.links.meet k end_.0 end_.1 in
              let is : steps_of (length tokens) s k (message.InterestFinal id) ≡ steps_to_end (length tokens) s ends.one.gateway = ap (λ (o : Option (FaceAt K)). (let n : ℕ = elim o [ None ↦ 0 | Some x ↦ steps_to_end (length tokens) s x.gateway ] in n)) ends.one_is in
              omega arith

      -- so no more wait than there are steps left
      queue_weighs : (k : ℕ) → is_linked_face s (Some k) ≡ true → (ms : List (Message K)) → length ms ≤ total (steps_of (length tokens) s k) ms
      queue_weighs k linked [] = omega arith
      queue_weighs k linked (m ∷ ms) = let one = end_weighs k linked m in let rest = queue_weighs k linked ms in omega arith

      waiting_weighs : (w : ById (List (Message K))) → Each (λ row. is_linked_face s (Some row.0) ≡ true) w → total (λ row. length row.1) w ≤ queues (steps_of (length tokens) s) w
      waiting_weighs [] all = omega arith
      waiting_weighs (row ∷ w) all = let one = queue_weighs row.0 all.0 row.1 in let rest = waiting_weighs w all.1 in omega arith

      pub few_wait : (now : Fabric K) → Since cmp matching tokens s now → messages_waiting now ≤ steps_left cmp tokens s now
      few_wait now since =
          let is = left_is cmp matching tokens s now in
          let count = total_is (λ (row : ℕ × List (Message K)). length row.1) now.waiting in
          let ends : Each (λ (row : ℕ × List (Message K)). is_linked_face s (Some row.0) ≡ true) now.waiting = subst (λ ls. Each (λ (row : ℕ × List (Message K)). is_linked_face (record s { links = ls }) (Some row.0) ≡ true) now.waiting) since.links since.queued.ends in
          let less = waiting_weighs now.waiting ends in
          omega arith

      -- ---- steps that follow one another

      first_step : (line : PlainLine K) → is_step line ≡ true → (P : PlainLine K → Type 0) → ((n : ℕ) (back : Bool) → P (Step n back)) → P line
      first_step (Step n back) is P h = h n back
      first_step (Gateway mode zid regions south name timeout refused) is P h = never is refl
      first_step (Session gateway first) is P h = never is refl
      first_step (FaceLine gateway mode zid region bound first) is P h = never is refl
      first_step (LinkLine one two first back) is P h = never is refl
      first_step (Unlink link) is P h = never is refl
      first_step (Speak call) is P h = never is refl
      first_step (Moment gateway now) is P h = never is refl
      first_step (SetTreesAt gateway region table) is P h = never is refl

      pub steps_lessen : (lines : List (PlainLine K)) (now : Fabric K) → Since cmp matching tokens s now → StepsFollow cmp matching lines now
          → (steps_left cmp tokens s (fabric_after_all cmp matching lines now) + length lines ≤ steps_left cmp tokens s now) × Since cmp matching tokens s (fabric_after_all cmp matching lines now)
      unfolding entries_from
      steps_lessen [] now since follow = (omega arith, since)
      steps_lessen (line ∷ lines) now since follow =
          let steps = and_parts (is_step line) (list_all is_step lines) follow.steps in
          let entry = entry_of cmp matching line now in
          let next = fabric_after cmp matching line entry now in
          let taken = and_parts (takes_message entry) (list_all takes_message (entries_from cmp matching lines next)) follow.taken in
          let one = first_step line steps.0 (λ l. takes_message (entry_of cmp matching l now) ≡ true → entry_of cmp matching l now ≢ Err refusal.IdsSpent → (steps_left cmp tokens s (fabric_after cmp matching l (entry_of cmp matching l now) now) + 1 ≤ steps_left cmp tokens s now) × Since cmp matching tokens s (fabric_after cmp matching l (entry_of cmp matching l now) now))
          (λ n back takes other. ((step_lessens cmp matching total_order equal_is_same tokens s fine agree now since n back takes).fewer, since_step cmp matching total_order equal_is_same tokens s fine agree now since n back takes other))
          taken.0 follow.ids.0 in
          let rest = steps_lessen lines next one.1 (record { steps = steps.1; taken = taken.1; ids = follow.ids.1 }) in
          let less = one.0 in
          let more = rest.0 in
          (omega arith, rest.1)

  -- Steps that follow one another are at most so many, and as many fewer as still wait.
  pub steps_end : (lines : List (PlainLine K)) (s : Fabric K) → TreesStand cmp matching s → StepsFollow cmp matching lines s → messages_waiting (fabric_after_all cmp matching lines s) + length lines ≤ most_steps cmp s
  steps_end lines s stand follow =
      let tokens = tokens_of cmp s in
      let end_ = steps_lessen s stand tokens lines s (since_start s stand) follow in
      let few = few_wait s stand tokens (fabric_after_all cmp matching lines s) end_.1 in
      let less = end_.0 in
      omega arith
