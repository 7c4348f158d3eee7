-- A link between two gateways: its faces are opened one after the other, and what is said then is heard and waits.
use Rattle.std.proofs.Common.{◌≡◌, ℕ, ◌+◌, ◌≤◌, Bool, true, List, [], ◌∷◌, ◌++◌, map, length, Option, Some, None, Ok, refl, sym, ap, ◌∙◌}
use Rattle.std.specs.Cmp.{IsTotalOrder}
use Rattle.std.specs.declared.cmp.Ordering.{Ordering}
use Rattle.zt_protocol.specs.Plain.{Link as LinkLine}
use Rattle.zt_protocol.specs.declared.entries.Sent.{Sent}
use Rattle.zt_protocol.specs.declared.messages.Message.{Message}
use Rattle.zt_model.specs.Fabric.{CallAt, Fabric, after_hearing, after_opening, altered_by_line, fabric_after, gateways_after_hearing, opened_at, opened_ends, opening_at, said_at, said_by_line, said_opening, sorted_by_face, with_waiting}
use Rattle.zt_model.specs.Linking.{LinkEnd, link_ends, with_link}
use Rattle.zt_model.specs.Places.{Link}
use Rattle.zt_model.specs.Rows.{ById}
use Rattle.zt_model.specs.Transcript.{Each}
use Rattle.zt_laws.specs.Order.{FabricIsInOrder}
use Rattle.zt_laws.proofs.Ends.{after_hearing-append, end_alone, end_in_order, ends_commute, opened_elsewhere, said_within}
use Rattle.zt_laws.proofs.Gateways.{after_hearing_nothing}
use Rattle.zt_laws.proofs.Interleaving.{hearing_alike}
use Rattle.zt_laws.proofs.Sorting.{printed_sorted}
use Rattle.zt_fabric_state.specs.Changes.{row_after}

-- faces are opened one after another, and each hears what is said then
abbrev pub openings : {K : Type 0} → (K → K → Ordering) → (K → K → Bool) → List (LinkEnd K) → Fabric K → Fabric K
openings cmp matching [] s = s
openings cmp matching (end ∷ ends) s = openings cmp matching ends (after_opening cmp matching (opening_at cmp matching s end) s)

module _ {K : Type 0} (cmp : K → K → Ordering) (matching : K → K → Bool) (total : IsTotalOrder cmp) where
  pub all_opened : (ends : List (LinkEnd K)) (X : Fabric K) → Each (λ end. 1 ≤ end.first) ends → FabricIsInOrder cmp matching X → after_hearing cmp (said_opening cmp matching ends X) (opened_ends cmp matching ends X) ≡ openings cmp matching ends X
  unfolding opened_ends said_opening
  all_opened [] X real fine = after_hearing_nothing cmp X
  all_opened (end ∷ ends) X real fine =
      let at = opening_at cmp matching X end in
      let Y = opened_at cmp matching at X in
      let ms = said_at cmp matching Y at in
      let H = after_hearing cmp ms Y in
      let alone = end_alone cmp matching total end X real.0 fine in
      after_hearing-append cmp ms (said_opening cmp matching ends H) (opened_ends cmp matching ends Y)
      ∙ ap (after_hearing cmp (said_opening cmp matching ends H)) (ends_commute cmp matching total ends ms Y real.1 alone.0 (said_within cmp matching total end X))
      ∙ all_opened ends H real.1 (end_in_order cmp matching total end X real.0 fine)

  heard_elsewhere : (ms : List (Sent K)) (links : List Link) (waiting : ById (List (Message K))) (s : Fabric K) → after_hearing cmp ms (record s { links = links; waiting = waiting }) ≡ record (after_hearing cmp ms s) { links = links; waiting = waiting }
  unfolding gateways_after_hearing
  heard_elsewhere ms links waiting s = refl

  -- the fabric after a link is made
  pub link_does : (one two first back : ℕ) (s : Fabric K) (ms : List (Sent K)) → Each (λ end. 1 ≤ end.first) (link_ends s one two first back) → FabricIsInOrder cmp matching s
      → ms ≡ sorted_by_face (said_by_line cmp matching (LinkLine one two first back) s)
      → (let linked = with_link s in
      let u = openings cmp matching (link_ends s one two first back) s in
      record u { links = linked.links; waiting = map (row_after None ms) linked.waiting } ≡ fabric_after cmp matching (LinkLine one two first back) (Ok ms) s)
  unfolding said_by_line fabric_after altered_by_line
  link_does one two first back s ms real fine says =
      let ends = link_ends s one two first back in
      let linked = with_link s in
      let X = opened_ends cmp matching ends s in
      let ns = said_opening cmp matching ends s in
      let heard : after_hearing cmp ms X ≡ openings cmp matching ends s =
      ap (λ xs. after_hearing cmp xs X) says ∙ hearing_alike cmp (sorted_by_face ns) ns X (λ n. printed_sorted n ns) ∙ all_opened ends s real fine in
      ap (λ (t : Fabric K). with_waiting ms (record t { links = linked.links; waiting = linked.waiting })) (sym heard)
      ∙ ap (with_waiting ms) (sym (heard_elsewhere ms linked.links linked.waiting X))
      ∙ ap (λ t. with_waiting ms (after_hearing cmp ms t)) (sym (opened_elsewhere cmp matching total ends linked.links linked.waiting s))

  -- ---- opening changes no link, and nothing that waits

  pub opening_links : (at : Option (CallAt K)) (s : Fabric K) → (after_opening cmp matching at s).links ≡ s.links
  opening_links None s = refl
  opening_links (Some at) s = refl

  pub opening_waits : (at : Option (CallAt K)) (s : Fabric K) → (after_opening cmp matching at s).waiting ≡ s.waiting
  opening_waits None s = refl
  opening_waits (Some at) s = refl

  pub link_put : (s u : Fabric K) (face other : ℕ) → u.links ≡ s.links → u.waiting ≡ s.waiting → face ≡ length s.faces + 1 → other ≡ face + 1
      → record u { links = u.links ++ record { one = face; two = other; is_open = true } ∷ []; waiting = u.waiting ++ (face, []) ∷ (other, []) ∷ [] }
      ≡ record u { links = (with_link s).links; waiting = (with_link s).waiting }
  link_put s u face other links waits face_is other_is =
      ap (λ (ls : List Link). record u { links = ls ++ record { one = face; two = other; is_open = true } ∷ []; waiting = u.waiting ++ (face, []) ∷ (other, []) ∷ [] }) links
      ∙ ap (λ (ws : ById (List (Message K))). record u { links = s.links ++ record { one = face; two = other; is_open = true } ∷ []; waiting = ws ++ (face, []) ∷ (other, []) ∷ [] }) waits
      ∙ ap (λ k. record u { links = s.links ++ record { one = face; two = k; is_open = true } ∷ []; waiting = s.waiting ++ (face, []) ∷ (k, []) ∷ [] }) other_is
      ∙ ap (λ k. record u { links = s.links ++ record { one = k; two = k + 1; is_open = true } ∷ []; waiting = s.waiting ++ (k, []) ∷ (k + 1, []) ∷ [] }) face_is
