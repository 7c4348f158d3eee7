-- An accepted link: the calls at its ends, and what they do and say.
use Rattle.std.proofs.Common.{◌≡◌, ℕ, ◌≤◌, Bool, true, false, ◌||◌, not, is_none, List, [], ◌∷◌, ◌++◌, map, Option, Some, None, Ok, Err, refl, sym, ap, subst, ◌∙◌}
use Rattle.std.proofs.lemmas.List.{append-nil}
use Rattle.std.specs.Cmp.{IsTotalOrder}
use Rattle.std.specs.List.{list_any}
use Rattle.std.specs.declared.cmp.Ordering.{Ordering}
use Rattle.zt_region.specs.Tables.{RegionAnswer}
use Rattle.zt_protocol.specs.Plain.{NewTransport, PlainCall, Link as LinkLine}
use Rattle.zt_protocol.specs.declared.entries.Sent.{Sent}
use Rattle.zt_protocol.specs.declared.errors.Refusal.{Refusal}
use Rattle.zt_protocol.specs.declared.errors.Refusal.TheVariants as refusal
use Rattle.zt_model.specs.Fabric.{CallAt, Fabric, Node, after_opening, call_at, fabric_after, is_unknown_gateway, opened_at, opening_at, said_at, said_by_line, said_opening, sorted_by_face}
use Rattle.zt_model.specs.Hat.{hat_of}
use Rattle.zt_model.specs.Linking.{LinkEnd, end_call, end_region, is_end, is_refused_end, link_ends, with_link}
use Rattle.zt_model.specs.Lists.{nth}
use Rattle.zt_model.specs.Transcript.{Each}
use Rattle.zt_laws.specs.Order.{FabricIsInOrder}
use Rattle.zt_laws.specs.Sound.{opens_face}
use Rattle.zt_laws.proofs.Ends.{end_in_order}
use Rattle.zt_fabric_state.specs.Changes.{row_after}
use Rattle.zt_links.specs.Lines.{cause_if, cause_of_line, opened_by_call, opening_call, or_cause, said_by_opening}
use Rattle.zt_links.proofs.Linked.{link_does, openings}
use Rattle.zt_links.proofs.Refusing.{link_cause}

-- ---- no cause of an accepted line holds

holds_not : (b : Bool) (r : Refusal) (later : Option Refusal) → or_cause (cause_if b r) later ≡ None → b ≡ false
holds_not true r later none = cc
holds_not false r later none = refl

nor_later : (b : Bool) (r : Refusal) (later : Option Refusal) → or_cause (cause_if b r) later ≡ None → later ≡ None
nor_later true r later none = cc
nor_later false r later none = none

or_left : (b c : Bool) → (b || c) ≡ false → b ≡ false
or_left true c neither = cc
or_left false c neither = refl

or_right : (b c : Bool) → (b || c) ≡ false → c ≡ false
or_right true c neither = cc
or_right false c neither = neither

module _ {K : Type 0} where
  -- ---- the calls at the ends

  abbrev end_of : ℕ → Node K → ℕ → Node K → ℕ → LinkEnd K
  end_of gateway node beyond other first = record { gateway = gateway; node = node; beyond = beyond; other = other; first = first }

  abbrev ends_of : Option (Node K) → Option (Node K) → ℕ → ℕ → ℕ → ℕ → List (LinkEnd K)
  ends_of x y one two first back =
      elim x [ None ↦ [] | Some a ↦ elim y [ None ↦ [] | Some b ↦ end_of one a two b first ∷ end_of two b one a back ∷ [] ] ]

  -- where both calls are there, so are both ends
  two_ends : (P : List (LinkEnd K) → Type 0) (one two first back : ℕ) (s : Fabric K) (forth answer : PlainCall K)
      → opening_call (nth one s.gateways) (nth two s.gateways) first ≡ Some forth → opening_call (nth two s.gateways) (nth one s.gateways) back ≡ Some answer
      → ((a b : Node K) → end_call (end_of one a two b first) ≡ Some forth → end_call (end_of two b one a back) ≡ Some answer → P (end_of one a two b first ∷ end_of two b one a back ∷ []))
      → P (link_ends s one two first back)
  two_ends P one two first back s forth answer goes comes both = cases (nth one s.gateways) (nth two s.gateways) goes comes
    where
      cases : (x y : Option (Node K)) → opening_call x y first ≡ Some forth → opening_call y x back ≡ Some answer → P (ends_of x y one two first back)
      cases None y goes comes = cc
      cases (Some a) None goes comes = cc
      cases (Some a) (Some b) goes comes = both a b goes comes

  pub opens_by : (x y : Option (Node K)) (first : ℕ) (call : PlainCall K) → opening_call x y first ≡ Some call → opens_face call ≡ true
  opens_by None y first call is = cc
  opens_by (Some a) None first call is = cc
  opens_by (Some a) (Some b) first call is = cases (end_region a b) is
    where
      cases : (o : RegionAnswer) → elim o [ Ok given ↦ Some (NewTransport b.rows.zid b.rows.mode given.0 given.1 first) | Err e ↦ None ] ≡ Some call → opens_face call ≡ true
      cases (Ok given) is = ap (λ (o : Option (PlainCall K)). elim o [ None ↦ true | Some c ↦ opens_face c ]) (sym is)
      cases (Err e) is = cc

  -- both gateways are there
  pub known_by : (x y : Option (Node K)) (first : ℕ) (call : PlainCall K) → opening_call x y first ≡ Some call → (is_none x ≡ false) × (is_none y ≡ false)
  known_by None y first call is = cc
  known_by (Some a) None first call is = cc
  known_by (Some a) (Some b) first call is = (refl, refl)

  called : (o : RegionAnswer) (b : Node K) (first : ℕ) → elim o [ Ok given ↦ false | Err e ↦ true ] ≡ false
      → ◌≡◌ {A = Option (PlainCall K)} (elim o [ Ok given ↦ Some (NewTransport b.rows.zid b.rows.mode given.0 given.1 first) | Err e ↦ None ]) None → ⊥
  called (Ok given) b first given_ none = cc
  called (Err e) b first given_ none = cc

  module _ (cmp : K → K → Ordering) (matching : K → K → Bool) where
    -- the ends of an accepted link have their calls
    pub accepted_calls : (one two first back : ℕ) (s : Fabric K) → cause_of_line cmp matching (LinkLine one two first back) s ≡ None
        → (opening_call (nth one s.gateways) (nth two s.gateways) first ≡ None → ⊥) × (opening_call (nth two s.gateways) (nth one s.gateways) back ≡ None → ⊥)
    accepted_calls one two first back s accepted =
        let ends = link_ends s one two first back in
        let misfit = list_any (is_end (λ end region bound. not ((hat_of end.node.rows.mode region).fits region end.other.rows.mode bound))) ends in
        let all = sym (link_cause cmp matching one two first back s) ∙ accepted in
        let regions = nor_later (is_unknown_gateway s one || is_unknown_gateway s two) refusal.UnknownGateway _ all in
        let conflicts = nor_later _ refusal.NoSuchRegion _ regions in
        let known : (is_unknown_gateway s one || is_unknown_gateway s two) ≡ false = holds_not _ refusal.UnknownGateway _ all in
        let found : (list_any is_refused_end ends || misfit) ≡ false = holds_not _ refusal.RegionConflict _ conflicts in
        cases (nth one s.gateways) (nth two s.gateways) known (or_left (list_any is_refused_end ends) misfit found)
      where
        cases : (x y : Option (Node K)) → (is_none x || is_none y) ≡ false → list_any is_refused_end (ends_of x y one two first back) ≡ false
            → (opening_call x y first ≡ None → ⊥) × (opening_call y x back ≡ None → ⊥)
        cases None y known found = cc
        cases (Some a) None known found = cc
        cases (Some a) (Some b) known found =
            let one_ = end_of one a two b first in
            let two_ = end_of two b one a back in (
              called (end_region a b) b first (or_left (is_refused_end one_) (is_refused_end two_ || false) found),
              called (end_region b a) a back (or_left (is_refused_end two_) false (or_right (is_refused_end one_) (is_refused_end two_ || false) found)),
            )

    module _ (total : IsTotalOrder cmp) (one two first back : ℕ) (s : Fabric K) (forth answer : PlainCall K)
        (goes : opening_call (nth one s.gateways) (nth two s.gateways) first ≡ Some forth)
        (comes : opening_call (nth two s.gateways) (nth one s.gateways) back ≡ Some answer) where
      abbrev T : Fabric K
      T = opened_by_call cmp matching one forth s

      pub between_in_order : 1 ≤ first → FabricIsInOrder cmp matching s → FabricIsInOrder cmp matching T
      between_in_order real fine =
          two_ends (λ _. FabricIsInOrder cmp matching T) one two first back s forth answer goes comes
          (λ a b forth_ answer_.
          subst (λ (o : Option (PlainCall K)). FabricIsInOrder cmp matching (after_opening cmp matching (elim o [ None ↦ None | Some call ↦ call_at s one call ]) s)) forth_
          (end_in_order cmp matching total (end_of one a two b first) s real fine))

      says : said_opening cmp matching (link_ends s one two first back) s ≡ said_by_opening cmp matching one forth s ++ said_by_opening cmp matching two answer T
      unfolding said_opening
      says =
          two_ends (λ ends. said_opening cmp matching ends s ≡ said_by_opening cmp matching one forth s ++ said_by_opening cmp matching two answer T) one two first back s forth answer goes comes
          (λ a b forth_ answer_.
          let end = end_of two b one a back in
          let speaks = λ (at : Option (CallAt K)) (t : Fabric K). said_at cmp matching (opened_at cmp matching at t) at in
          let next = λ (at : Option (CallAt K)). after_opening cmp matching at s in
          ap (λ (o : Option (PlainCall K)).
          let at : Option (CallAt K) = elim o [ None ↦ None | Some call ↦ call_at s one call ] in
          speaks at s ++ (speaks (opening_at cmp matching (next at) end) (next at) ++ [])) forth_
          ∙ ap (λ (o : Option (PlainCall K)). speaks (call_at s one forth) s ++ (speaks (elim o [ None ↦ None | Some call ↦ call_at T two call ]) T ++ [])) answer_
          ∙ ap (λ ms. speaks (call_at s one forth) s ++ ms) (append-nil (speaks (call_at T two answer) T)))

      does : openings cmp matching (link_ends s one two first back) s ≡ opened_by_call cmp matching two answer T
      does =
          two_ends (λ ends. openings cmp matching ends s ≡ opened_by_call cmp matching two answer T) one two first back s forth answer goes comes
          (λ a b forth_ answer_.
          let end = end_of two b one a back in
          let next = λ (at : Option (CallAt K)). after_opening cmp matching at s in
          ap (λ (o : Option (PlainCall K)).
          let t = next (elim o [ None ↦ None | Some call ↦ call_at s one call ]) in
          after_opening cmp matching (opening_at cmp matching t end) t) forth_
          ∙ ap (λ (o : Option (PlainCall K)). after_opening cmp matching (elim o [ None ↦ None | Some call ↦ call_at T two call ]) T) answer_)

      pub joined_says : sorted_by_face (said_by_opening cmp matching one forth s ++ said_by_opening cmp matching two answer T) ≡ sorted_by_face (said_by_line cmp matching (LinkLine one two first back) s)
      unfolding said_by_line
      joined_says = ap sorted_by_face (sym says)

      pub joined_does : (ms : List (Sent K)) → 1 ≤ first → 1 ≤ back → FabricIsInOrder cmp matching s → ms ≡ sorted_by_face (said_by_line cmp matching (LinkLine one two first back) s)
          → record (opened_by_call cmp matching two answer T) { links = (with_link s).links; waiting = map (row_after None ms) (with_link s).waiting } ≡ fabric_after cmp matching (LinkLine one two first back) (Ok ms) s
      joined_does ms real real_ fine says_ =
          let starts = two_ends (λ ends. Each (λ end. 1 ≤ end.first) ends) one two first back s forth answer goes comes (λ a b forth_ answer_. (real, (real_, tt))) in
          ap (λ (t : Fabric K). record t { links = (with_link s).links; waiting = map (row_after None ms) (with_link s).waiting }) (sym does)
          ∙ link_does cmp matching total one two first back s ms starts fine says_
