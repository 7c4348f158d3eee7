-- Tokens of a kind, in all rows of a fabric and in all that waits.
use Rattle.std.proofs.Common.{◌≡◌, ℕ, Bool, false, if◌then◌else◌, ◌==◌, List, [], ◌∷◌, ◌++◌, map, Some, None, sym, subst}
use Rattle.std.specs.declared.cmp.Ordering.{Ordering}
use Rattle.zt_region.specs.Region.{zid_eq}
use Rattle.zt_protocol.specs.declared.entries.Sent.{Sent}
use Rattle.zt_protocol.specs.declared.messages.Message.{Message}
use Rattle.zt_protocol.specs.declared.messages.Message.TheVariants as message
use Rattle.zt_protocol.specs.Plain.{PlainCall}
use Rattle.zt_model.specs.Fabric.{Fabric, Node, at_nth, printed_for, sorted_by_face}
use Rattle.zt_model.specs.Linking.{waiting_of}
use Rattle.zt_model.specs.Lists.{at_id, nth, rest_of}
use Rattle.zt_model.specs.Rows.{ById}
use Rattle.zt_model.specs.Says.{said}
use Rattle.zt_model.specs.Transcript.{Each}
use Rattle.zt_laws.specs.Sound.{rows_after_call}
use Rattle.zt_laws.proofs.Lists.{by_test, each_append, each_map, each_weaker, of_cond}
use Rattle.zt_laws.proofs.Sorting.{sorted_each}
use Rattle.zt_theorem_tree_invariant.proofs.Stepping.{taken}
use Rattle.zt_theorem_tree_invariant.proofs.Members.{each_nth}
use Rattle.zt_theorem_tree_knowledge.proofs.LineCalls.{each_at_nth}
use Rattle.zt_theorem_tree_knowledge.proofs.Queues.{added}
use Rattle.zt_theorem_tree_only_what_lived.specs.Tokens.{CallIn, IsIn, SaysIn, TokenIn}
use Rattle.zt_theorem_tree_only_what_lived.proofs.Tokens.{call_leaves_in, call_says_in}

module _ {K : Type 0} where
  token_weaker : (Q R : K → Type 0) → ((e : K) → Q e → R e) → (m : Message K) → TokenIn Q m → TokenIn R m
  token_weaker Q R h (message.DeclareToken id e interest node) own = h e own
  token_weaker Q R h (message.UndeclareToken id e node) own = tt
  token_weaker Q R h (message.DeclareFinal id) own = tt
  token_weaker Q R h (message.Interest id mode options e) own = tt
  token_weaker Q R h (message.InterestFinal id) own = tt
  token_weaker Q R h (message.DeclareSubscriber id e i) own = tt
  token_weaker Q R h (message.DeclareQueryable id e info i) own = tt

  pub in_weaker : (Q R : K → Type 0) → ((e : K) → Q e → R e) → (node : Node K) → IsIn Q node.rows → IsIn R node.rows
  in_weaker Q R h node in_ = record {
    live = each_weaker (λ f. Each (λ row. Q row.1) f.live) (λ f. Each (λ row. R row.1) f.live) (λ f all. each_weaker (λ row. Q row.1) (λ row. R row.1) (λ row own. h row.1 own) f.live all) node.rows.faces in_.live;
    routed = each_weaker (λ row. zid_eq row.source node.rows.zid ≡ false → Q row.expr) (λ row. zid_eq row.source node.rows.zid ≡ false → R row.expr) (λ row own other. h row.expr (own other)) node.rows.routed in_.routed;
  }

  abbrev pub Queues : (K → Type 0) → ById (List (Message K)) → Type 0
  Queues Q w = Each (λ row. Each (TokenIn Q) row.1) w

  -- everywhere in a fabric
  pub record Everywhere (Q : K → Type 0) (s : Fabric K) : Type 0 where
    pub gateways : Each (λ (node : Node K). IsIn Q node.rows) s.gateways
    pub waiting : Queues Q s.waiting

  pub everywhere_weaker : (Q R : K → Type 0) → ((e : K) → Q e → R e) → (s : Fabric K) → Everywhere Q s → Everywhere R s
  everywhere_weaker Q R h s all = record {
    gateways = each_weaker (λ (node : Node K). IsIn Q node.rows) (λ node. IsIn R node.rows) (in_weaker Q R h) s.gateways all.gateways;
    waiting = each_weaker (λ row. Each (TokenIn Q) row.1) (λ row. Each (TokenIn R) row.1) (λ row ms. each_weaker (TokenIn Q) (TokenIn R) (token_weaker Q R h) row.1 ms) s.waiting all.waiting;
  }

  -- what is printed is of the kind
  abbrev pub PrintsIn : (K → Type 0) → List (Sent K) → Type 0
  PrintsIn Q ms = Each (λ m. TokenIn Q m.message) ms

  pub printed_in : (Q : K → Type 0) (k : ℕ) (ms : List (Sent K)) → PrintsIn Q ms → Each (TokenIn Q) (printed_for k ms)
  unfolding printed_for
  printed_in Q k [] all = tt
  printed_in Q k (m ∷ ms) all = of_cond (Each (TokenIn Q)) (k == m.face) (m.message ∷ printed_for k ms) (printed_for k ms) (λ _. (all.0, printed_in Q k ms all.1)) (λ _. printed_in Q k ms all.1)

  pub sorted_in : (Q : K → Type 0) (ms : List (Sent K)) → PrintsIn Q ms → PrintsIn Q (sorted_by_face ms)
  sorted_in Q ms all = sorted_each (λ m. TokenIn Q m.message) ms all

  pub sends_in : (Q : K → Type 0) (make : ℕ × Message K → Sent K) → ((t : ℕ × Message K) → (make t).message ≡ t.1) → (ss : List (ℕ × Message K)) → SaysIn Q ss → PrintsIn Q (map make ss)
  sends_in Q make is ss all = each_map (λ m. TokenIn Q m.message) make ss (each_weaker (λ t. TokenIn Q t.1) (λ t. TokenIn Q (make t).message) (λ t own. subst (TokenIn Q) (sym (is t)) own) ss all)

  pub added_in : (Q : K → Type 0) (ms : List (Sent K)) (w : ById (List (Message K))) → PrintsIn Q ms → Queues Q w → Queues Q (added ms w)
  added_in Q ms w prints all = each_map (λ row. Each (TokenIn Q) row.1) (λ row. (row.0, row.1 ++ printed_for row.0 ms)) w (each_weaker (λ row. Each (TokenIn Q) row.1) (λ row. Each (TokenIn Q) (row.1 ++ printed_for row.0 ms)) (λ row own. each_append (TokenIn Q) row.1 (printed_for row.0 ms) own (printed_in Q row.0 ms prints)) w all)

  pub taken_in : (Q : K → Type 0) (q : ℕ) (w : ById (List (Message K))) → Queues Q w → Queues Q (taken q w)
  taken_in Q q w all =
      each_map (λ row. Each (TokenIn Q) row.1) (λ row. if q == row.0 then (row.0, rest_of row.1) else row) w
      (each_weaker (λ row. Each (TokenIn Q) row.1) (λ row. Each (TokenIn Q) (if q == row.0 then (row.0, rest_of row.1) else row).1) (λ row own. of_cond (λ (r : ℕ × List (Message K)). Each (TokenIn Q) r.1) (q == row.0) (row.0, rest_of row.1) row (λ _. rest row.1 own) (λ _. own)) w all)
    where
      rest : (ms : List (Message K)) → Each (TokenIn Q) ms → Each (TokenIn Q) (rest_of ms)
      rest [] own = tt
      rest (m ∷ ms) own = own.1

  -- the oldest message of a queue
  pub oldest_in : (Q : K → Type 0) (s : Fabric K) (q : ℕ) (m : Message K) (rest : List (Message K)) → Queues Q s.waiting → waiting_of s q ≡ m ∷ rest → TokenIn Q m
  oldest_in Q s q m rest all is = go s.waiting all is
    where
      go : (w : ById (List (Message K))) → Queues Q w → (let ms : List (Message K) = elim (at_id q w) [ None ↦ [] | Some ms ↦ ms ] in ms) ≡ m ∷ rest → TokenIn Q m
      go [] all_ is_ = cc
      go (row ∷ w) all_ is_ =
          by_test (q == row.0)
          (λ here. let ms_is : row.1 ≡ m ∷ rest = rw here at is_ in (subst (Each (TokenIn Q)) ms_is all_.0).0)
          (λ here. go w all_.1 (rw here at is_))

module _ {K : Type 0} (cmp : K → K → Ordering) (matching : K → K → Bool) where
  -- a call at a gateway
  pub turned_in : (Q : K → Type 0) (j : ℕ) (node : Node K) (c : PlainCall K) (s : Fabric K) → nth j s.gateways ≡ Some node → CallIn Q node.rows c → Everywhere Q s → Each (λ (x : Node K). IsIn Q x.rows) (at_nth j (λ (x : Node K). record x { rows = rows_after_call cmp matching c x.rows }) s.gateways)
  turned_in Q j node c s at_j own all =
      each_at_nth (λ (x : Node K). IsIn Q x.rows) j (λ x. record x { rows = rows_after_call cmp matching c x.rows }) s.gateways node at_j
      (call_leaves_in cmp matching Q c node.rows own (each_nth (λ (x : Node K). IsIn Q x.rows) j s.gateways node all.gateways at_j)) all.gateways

  pub says_in : (Q : K → Type 0) (j : ℕ) (node : Node K) (c : PlainCall K) (s : Fabric K) → nth j s.gateways ≡ Some node → CallIn Q node.rows c → Everywhere Q s → SaysIn Q (said cmp matching c node.rows)
  says_in Q j node c s at_j own all = call_says_in cmp matching Q c node.rows own (each_nth (λ (x : Node K). IsIn Q x.rows) j s.gateways node all.gateways at_j)
