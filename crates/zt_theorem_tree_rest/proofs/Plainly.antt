-- The steps that are left, in plain numbers of messages, interests, asks, tokens, entities and gateways.
use Rattle.std.proofs.Common.{◌≡◌, ℕ, zero, suc, ◌+◌, ◌*◌, ◌-◌, ◌≤◌, Bool, not, if◌then◌else◌, ◌==◌, List, [], ◌∷◌, length, filter, Option, Some, None, refl, sym, ap, ◌∙◌, arith, le_refl, add-mul, mul-add, mul_comm, mul-le-mul}
use Rattle.std.proofs.Common.{mul-one, one-mul, suc-mul}
use Rattle.std.proofs.lemmas.List.Sums.{sum_by-cons}
use Rattle.std.specs.List.{sum_by}
use Rattle.std.specs.Option.{option_to_list}
use Rattle.std.specs.declared.cmp.Ordering.{Ordering}
use Rattle.zt_region.specs.Region.{is_north}
use Rattle.zt_protocol.specs.declared.messages.Message.{Message}
use Rattle.zt_protocol.specs.declared.messages.Message.TheVariants as message
use Rattle.zt_model.specs.Fabric.{Fabric, Node, number_of_place}
use Rattle.zt_model.specs.Linking.{gateway_beyond}
use Rattle.zt_model.specs.Lists.{is_among, nth}
use Rattle.zt_model.specs.Rows.{Ask, ById, Face}
use Rattle.zt_model.specs.Transcript.{Each, FaceAt, face_numbered}
use Rattle.zt_laws.specs.Order.{FabricIsInOrder}
use Rattle.zt_laws.proofs.Lists.{by_test, each_always}
use Rattle.zt_laws.proofs.Numbered.{nth_real, nth_within}
use Rattle.zt_theorem_tree_invariant.specs.Facts.{IsTreeGateway, TreesAgree}
use Rattle.zt_theorem_tree_invariant.proofs.Members.{each_nth, is_there}
use Rattle.zt_theorem_tree_rest.specs.Steps.{all_entities, asks_standing, beyond, steps_to_end, entities_at, faces_of, steps_down, steps_down_from, interests_sent, messages_waiting, most_answers, most_of_one, most_steps, steps_beyond, plain_most, steps_up, steps_up_from, steps_due, steps_due_from, steps_of, steps_of_queue, tokens_of, unanswered}
use Rattle.zt_theorem_tree_rest.proofs.AtGateway.{times_few}
use Rattle.zt_theorem_tree_rest.proofs.Below.{falls_within}
use Rattle.zt_theorem_tree_rest.proofs.Sums.{times, times_is, total, total_filter, total_is}

-- ---- sums

-- where each is within so much
within_each : {A : Type 0} (w count : A → ℕ) (most : ℕ) (xs : List A) → Each (λ x. w x ≤ count x * most) xs → total w xs ≤ total count xs * most
within_each w count most [] all = omega arith
within_each w count most (x ∷ xs) all =
    let first : w x ≤ count x * most = all.0 in
    let rest = within_each w count most xs all.1 in
    let sum = add-mul (count x) (total count xs) most in
    omega arith

-- a member counts no more than all
member_counts : {A : Type 0} (w : A → ℕ) (n : ℕ) (xs : List A) (x : A) → nth n xs ≡ Some x → w x ≤ total w xs
member_counts w n [] x at_ = cc
member_counts w n (y ∷ xs) x at_ =
    by_test (n == 1)
    (λ here. let first : Some y ≡ Some x = rw here at at_ in let is : y ≡ x = cc in let own : w y ≡ w x = ap w is in omega arith)
    (λ here. let rest = member_counts w (n - 1) xs x (rw here at at_) in omega arith)

times_one : {A : Type 0} (xs : List A) → times 1 xs ≡ length xs
times_one [] = refl
times_one (x ∷ xs) = let rest = times_one xs in omega arith

module _ {K : Type 0} (cmp : K → K → Ordering) (matching : K → K → Bool) (s : Fabric K) (fine : FabricIsInOrder cmp matching s) (agree : TreesAgree cmp matching s) where
  abbrev T : ℕ
  T = length (tokens_of cmp s)

  abbrev E : ℕ
  E = all_entities s

  abbrev G : ℕ
  G = length s.gateways

  abbrev A : ℕ
  A = 3 * T + E + 2

  abbrev P : ℕ
  P = most_of_one cmp s

  -- ---- at a gateway

  falls_small : 1 ≤ G → (n : ℕ) → steps_down_from s n ≤ G
  unfolding steps_down
  falls_small real n = by_node (nth n s.gateways) refl
    where
      at_levels : (l : ℕ) → nth n s.gateways ≡ None → steps_down l s n ≡ 1
      at_levels zero none_ = refl
      at_levels (suc l) none_ = ap (λ (o : Option (Node K)). (let fs : List (Face K) = elim o [ None ↦ [] | Some node ↦ node.rows.faces ] in 1 + sum_by (λ f. if is_north f.region then 0 else sum_by (steps_down l s) (beyond s (number_of_place s n f.number))) fs)) none_

      by_node : (o : Option (Node K)) → nth n s.gateways ≡ o → steps_down_from s n ≤ G
      by_node None none_ = let is = at_levels G none_ in omega arith
      by_node (Some node) at_ = falls_within cmp matching s fine agree n node at_

  entities_small : (n : ℕ) → entities_at s n ≤ E
  entities_small n = by_node (nth n s.gateways) refl
    where
      count : Node K → ℕ
      count node = sum_by (λ (f : Face K). length f.subscribers + length f.queryables) node.rows.faces

      by_node : (o : Option (Node K)) → nth n s.gateways ≡ o → (let fs : List (Face K) = elim o [ None ↦ [] | Some node ↦ node.rows.faces ] in sum_by (λ f. length f.subscribers + length f.queryables) fs) ≤ E
      by_node None at_ = omega arith
      by_node (Some node) at_ =
          let all : E ≡ total (λ (x : Node K). sum_by (λ (f : Face K). length f.subscribers + length f.queryables) x.rows.faces) s.gateways = total_is (λ (x : Node K). sum_by (λ (f : Face K). length f.subscribers + length f.queryables) x.rows.faces) s.gateways in
          let own = member_counts (λ (x : Node K). sum_by (λ (f : Face K). length f.subscribers + length f.queryables) x.rows.faces) n s.gateways node at_ in
          omega arith

  answers_small : 1 ≤ G → (n : ℕ) → most_answers T s n * steps_down_from s n ≤ A * G
  answers_small real n = let fewer = entities_small n in let less : most_answers T s n ≤ A = omega arith in mul-le-mul less (falls_small real n)

  -- ---- rising

  few_up : (n most : ℕ) (w : Face K → ℕ) → ((f : Face K) → w f ≤ most) → sum_by (λ f. if is_north f.region then w f else 0) (faces_of s n) ≤ most
  few_up n most w h = by_node (nth n s.gateways) refl
    where
      norths : (fs : List (Face K)) → total (λ f. if is_north f.region then w f else 0) fs ≤ times most (filter (λ f. is_north f.region) fs)
      norths [] = omega arith
      norths (f ∷ fs) =
          let rest = norths fs in
          let own : w f ≤ most = h f in
          by_test (is_north f.region) (λ here. rw here (omega arith)) (λ here. rw here (omega arith))

      by_node : (o : Option (Node K)) → nth n s.gateways ≡ o → (let fs : List (Face K) = elim o [ None ↦ [] | Some node ↦ node.rows.faces ] in sum_by (λ f. if is_north f.region then w f else 0) fs) ≤ most
      by_node None at_ = omega arith
      by_node (Some node) at_ =
          let tree = each_nth (λ (x : Node K). IsTreeGateway cmp matching x.rows) n s.gateways node agree.gateways at_ in
          let is = total_is (λ (f : Face K). if is_north f.region then w f else 0) node.rows.faces in
          let less = norths node.rows.faces in
          let few = times_few most (filter (λ (f : Face K). is_north f.region) node.rows.faces) tree.one_north in
          omega arith

  one_beyond : (w : ℕ → ℕ) (most k : ℕ) → ((n : ℕ) → w n ≤ most) → sum_by w (beyond s k) ≤ most
  one_beyond w most k h = by_gateway (gateway_beyond s k)
    where
      by_gateway : (o : Option ℕ) → sum_by w (option_to_list o) ≤ most
      by_gateway None = omega arith
      by_gateway (Some n) = let own : w n ≤ most = h n in omega arith

  rises_small : 1 ≤ G → (levels n : ℕ) → steps_up levels T s n ≤ levels * (A * G)
  unfolding steps_up
  rises_small real zero n = omega arith
  rises_small real (suc levels) n =
      let here = answers_small real n in
      let above = few_up n (levels * (A * G)) (λ f. sum_by (steps_up levels T s) (beyond s (number_of_place s n f.number))) (λ f. one_beyond (steps_up levels T s) (levels * (A * G)) (number_of_place s n f.number) (rises_small real levels)) in
      let sum : suc levels * (A * G) ≡ levels * (A * G) + A * G = suc-mul levels (A * G) in
      omega arith

  -- ---- one message

  whole : (x : ℕ) → x ≤ A * G → x ≤ P
  whole x less =
      let sum : A * G * (G + 1) ≡ A * G * G + A * G = mul-add (A * G) G 1 ∙ ap (λ k. A * G * G + k) (mul-one (A * G)) in
      omega arith

  falls_in_all : 1 ≤ G → (n : ℕ) → steps_down_from s n ≤ P
  falls_in_all real n =
      let few = falls_small real n in
      let sum : A * G ≡ (3 * T + E + 1) * G + 1 * G = ap (λ k. k * G) (omega arith) ∙ add-mul (3 * T + E + 1) 1 G in
      let one : 1 * G ≡ G = omega arith in
      whole (steps_down_from s n) (omega arith)

  rises_in_all : 1 ≤ G → (n : ℕ) → steps_up_from T s n ≤ P
  rises_in_all real n =
      let few = rises_small real (suc G) n in
      let turn : suc G * (A * G) ≡ A * G * (G + 1) = mul_comm (suc G) (A * G) ∙ ap (λ k. A * G * k) (omega arith) in
      omega arith

  ends_in_all : 1 ≤ G → (n : ℕ) → steps_to_end T s n ≤ P
  ends_in_all real n =
      let few : T * steps_down_from s n ≤ T * G = mul-le-mul (le_refl T) (falls_small real n) in
      let sum : A * G ≡ (T + (2 * T + E + 2)) * G = ap (λ k. k * G) (omega arith) in
      let parts = add-mul T (2 * T + E + 2) G in
      let two : 1 ≤ 2 * T + E + 2 = omega arith in
      let more : 1 * 1 ≤ (2 * T + E + 2) * G = mul-le-mul two real in
      whole (steps_to_end T s n) (omega arith)

  passes_in_all : (k : ℕ) → steps_beyond T s k ≤ P
  passes_in_all k = by_face (face_numbered s k) refl
    where
      by_face : (o : Option (FaceAt K)) → face_numbered s k ≡ o → (let n : ℕ = elim o [ None ↦ 0 | Some x ↦ sum_by (λ n. if is_north x.face.region then steps_up_from T s n else steps_down_from s n) (beyond s k) ] in n) ≤ P
      by_face None is = omega arith
      by_face (Some x) is =
          let at_ = is_there s k x is in
          let real : 1 ≤ G = (let one = nth_real x.gateway s.gateways at_.node at_.node_is in let two = nth_within x.gateway s.gateways at_.node at_.node_is in omega arith) in
          one_beyond (λ n. if is_north x.face.region then steps_up_from T s n else steps_down_from s n) P k
          (λ n. by_test (is_north x.face.region) (λ up. rw up (rises_in_all real n)) (λ down. rw down (falls_in_all real n)))

  steps_in_all : (k : ℕ) (m : Message K) → steps_of T s k m ≤ P
  steps_in_all k (message.DeclareToken id e interest n) = passes_in_all k
  steps_in_all k (message.UndeclareToken id e n) = passes_in_all k
  steps_in_all k (message.DeclareFinal id) = passes_in_all k
  steps_in_all k (message.Interest id mode options e) = passes_in_all k
  steps_in_all k (message.DeclareSubscriber id e interest) = passes_in_all k
  steps_in_all k (message.DeclareQueryable id e info interest) = passes_in_all k
  steps_in_all k (message.InterestFinal id) = by_face (face_numbered s k) refl
    where
      by_face : (o : Option (FaceAt K)) → face_numbered s k ≡ o → (let n : ℕ = elim o [ None ↦ 0 | Some x ↦ steps_to_end T s x.gateway ] in n) ≤ P
      by_face None is = omega arith
      by_face (Some x) is =
          let at_ = is_there s k x is in
          let real : 1 ≤ G = (let one = nth_real x.gateway s.gateways at_.node at_.node_is in let two = nth_within x.gateway s.gateways at_.node at_.node_is in omega arith) in
          ends_in_all real x.gateway

  -- ---- all of them

  queue_in_all : (row : ℕ × List (Message K)) → steps_of_queue T s row ≤ length row.1 * P
  queue_in_all row =
      let is = total_is (steps_of T s row.0) row.1 in
      let less = within_each (steps_of T s row.0) (λ m. 1) P row.1 (each_always (λ (m : Message K). steps_of T s row.0 m ≤ 1 * P) (λ m. let own = steps_in_all row.0 m in let one : 1 * P ≡ P = one-mul P in omega arith) row.1) in
      let count : total (λ (m : Message K). 1) row.1 * P ≡ length row.1 * P = ap (λ k. k * P) (times_one row.1) in
      omega arith

  queues_in_all : (w : ById (List (Message K))) → sum_by (steps_of_queue T s) w ≤ sum_by (λ row. length row.1) w * P
  queues_in_all w =
      let one = total_is (steps_of_queue T s) w in
      let two : sum_by (λ (row : ℕ × List (Message K)). length row.1) w * P ≡ total (λ (row : ℕ × List (Message K)). length row.1) w * P = ap (λ k. k * P) (total_is (λ (row : ℕ × List (Message K)). length row.1) w) in
      let less = within_each (steps_of_queue T s) (λ row. length row.1) P w (each_always (λ (row : ℕ × List (Message K)). steps_of_queue T s row ≤ length row.1 * P) queue_in_all w) in
      omega arith

  few_unanswered : (ask : Ask K) → unanswered cmp (tokens_of cmp s) ask ≤ T
  few_unanswered ask =
      let one = times_one (filter (λ e. not (is_among cmp e ask.answered)) (tokens_of cmp s)) in
      let two = times_one (tokens_of cmp s) in
      let less = total_filter (λ (e : K). 1) (λ e. not (is_among cmp e ask.answered)) (tokens_of cmp s) in
      omega arith

  due_in_all : 1 ≤ G → (n : ℕ) (f : Face K) → steps_due cmp (tokens_of cmp s) s n f ≤ (length f.locals + (T + 1) * length f.asks) * P
  due_in_all real n f =
      let ended : length f.locals * steps_to_end T s n ≤ length f.locals * P = mul-le-mul (le_refl (length f.locals)) (ends_in_all real n) in
      let price = steps_beyond T s (number_of_place s n f.number) in
      let is = total_is (λ (row : ℕ × Ask K). (1 + unanswered cmp (tokens_of cmp s) row.1) * price) f.asks in
      let less = within_each (λ (row : ℕ × Ask K). (1 + unanswered cmp (tokens_of cmp s) row.1) * price) (λ row. T + 1) P f.asks
      (each_always (λ (row : ℕ × Ask K). (1 + unanswered cmp (tokens_of cmp s) row.1) * price ≤ (T + 1) * P) (λ row. let few = few_unanswered row.1 in let less_ : 1 + unanswered cmp (tokens_of cmp s) row.1 ≤ T + 1 = omega arith in mul-le-mul less_ (passes_in_all (number_of_place s n f.number))) f.asks) in
      let count : total (λ (row : ℕ × Ask K). T + 1) f.asks * P ≡ ((T + 1) * length f.asks) * P = ap (λ k. k * P) (sym (times_is (T + 1) f.asks) ∙ mul_comm (length f.asks) (T + 1)) in
      let sum = add-mul (length f.locals) ((T + 1) * length f.asks) P in
      omega arith

  dues_in_all : 1 ≤ G → (i : ℕ) (nodes : List (Node K)) → steps_due_from cmp (tokens_of cmp s) s i nodes
      ≤ (sum_by (λ (node : Node K). sum_by (λ f. length f.locals) node.rows.faces) nodes + (T + 1) * sum_by (λ (node : Node K). sum_by (λ f. length f.asks) node.rows.faces) nodes) * P
  dues_in_all real i [] = omega arith
  dues_in_all real i (node ∷ nodes) =
      let fs = node.rows.faces in
      let rest = dues_in_all real (i + 1) nodes in
      let is = total_is (steps_due cmp (tokens_of cmp s) s i) fs in
      let less = within_each (steps_due cmp (tokens_of cmp s) s i) (λ f. length f.locals + (T + 1) * length f.asks) P fs (each_always (λ (f : Face K). steps_due cmp (tokens_of cmp s) s i f ≤ (length f.locals + (T + 1) * length f.asks) * P) (due_in_all real i) fs) in
      let L = λ (x : Node K). sum_by (λ (f : Face K). length f.locals) x.rows.faces in
      let Q = λ (x : Node K). sum_by (λ (f : Face K). length f.asks) x.rows.faces in
      let own : total (λ (f : Face K). length f.locals + (T + 1) * length f.asks) fs * P ≡ (L node + (T + 1) * Q node) * P = ap (λ k. k * P) (split fs ∙ ap (λ a. a + (T + 1) * total (λ (f : Face K). length f.asks) fs) (sym (total_is (λ (f : Face K). length f.locals) fs)) ∙ ap (λ b. L node + (T + 1) * b) (sym (total_is (λ (f : Face K). length f.asks) fs))) in
      let locals_ = sum_by-cons L node nodes in
      let asks_ = sum_by-cons Q node nodes in
      let asks_all : (T + 1) * sum_by Q (node ∷ nodes) ≡ (T + 1) * Q node + (T + 1) * sum_by Q nodes = ap (λ k. (T + 1) * k) asks_ ∙ mul-add (T + 1) (Q node) (sum_by Q nodes) in
      let sum : (sum_by L (node ∷ nodes) + (T + 1) * sum_by Q (node ∷ nodes)) * P ≡ (L node + (T + 1) * Q node) * P + (sum_by L nodes + (T + 1) * sum_by Q nodes) * P =
      ap (λ k. k * P) (omega arith) ∙ add-mul (L node + (T + 1) * Q node) (sum_by L nodes + (T + 1) * sum_by Q nodes) P in
      omega arith
    where
      split : (fs : List (Face K)) → total (λ f. length f.locals + (T + 1) * length f.asks) fs ≡ total (λ f. length f.locals) fs + (T + 1) * total (λ f. length f.asks) fs
      split [] = omega arith
      split (f ∷ fs) = let rest = split fs in let more = mul-add (T + 1) (length f.asks) (total (λ (f : Face K). length f.asks) fs) in omega arith

  -- The steps that are left are at most so many.
  pub plainly : most_steps cmp s ≤ plain_most cmp s
  plainly =
      let one = queues_in_all s.waiting in
      let two = by_gateways s.gateways refl in
      let sum = add-mul (messages_waiting s) (interests_sent s + (T + 1) * asks_standing s) P in
      let regroup : plain_most cmp s ≡ (messages_waiting s + (interests_sent s + (T + 1) * asks_standing s)) * P = ap (λ k. k * P) (omega arith) in
      omega arith
    where
      by_gateways : (gs : List (Node K)) → s.gateways ≡ gs → steps_due_from cmp (tokens_of cmp s) s 1 s.gateways ≤ (interests_sent s + (T + 1) * asks_standing s) * P
      by_gateways [] is = let none_ : steps_due_from cmp (tokens_of cmp s) s 1 s.gateways ≡ 0 = ap (steps_due_from cmp (tokens_of cmp s) s 1) is in omega arith
      by_gateways (x ∷ gs) is = let count : G ≡ suc (length gs) = ap length is in dues_in_all (omega arith) 1 s.gateways
