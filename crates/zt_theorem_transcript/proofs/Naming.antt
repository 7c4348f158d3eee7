-- Each message of a turn names an open face and its gateway.
use Rattle.std.proofs.Common.{◌≡◌, ℕ, Bool, true, false, not, ◌==◌, List, map, filter, refl, ◌∙◌}
use Rattle.std.proofs.lemmas.Bool.{not-true}
use Rattle.std.specs.Cmp.{IsTotalOrder}
use Rattle.std.specs.List.{list_any}
use Rattle.std.specs.declared.cmp.Ordering.{Ordering}
use Rattle.zt_protocol.specs.Plain.{PlainCall, NewTransport, PlainLine}
use Rattle.zt_protocol.specs.declared.entries.Sent.{Sent}
use Rattle.zt_model.specs.Fabric.{CallAt, Fabric, Node, Place, after_hearing, both_ends, closed_ends, entries_from, opened_ends, said_closing, said_opening, sorted_by_face, with_place, with_rows}
use Rattle.zt_model.specs.Linking.{link_ends}
use Rattle.zt_model.specs.Promises.{Turn, printed, turns_from}
use Rattle.zt_model.specs.Rows.{Rows}
use Rattle.zt_model.specs.Says.{altered, said}
use Rattle.zt_model.specs.Transcript.{Each, NamesOpenFace, NamesOpenFaces, messages_of}
use Rattle.zt_laws.specs.Order.{FabricIsInOrder}
use Rattle.zt_laws.specs.Shown.{as_shown}
use Rattle.zt_laws.specs.Sound.{HasFirstIds, rows_after_call}
use Rattle.zt_laws.proofs.AllLines.{starts_real}
use Rattle.zt_laws.proofs.Entries.{has_number}
use Rattle.zt_laws.proofs.Lists.{each_both, each_filter, each_passes, each_weaker}
use Rattle.zt_laws.proofs.Sorting.{printed as printed_at, sorted_each}
use Rattle.zt_theorem_visibility.proofs.Calls.{IsOfCalls, IsShownTurn, turns_show}
use Rattle.zt_theorem_transcript.proofs.Open.{IsOpen, call_said_open, closings_said_open, ends_said_open, keep_heard, names_open, open_kept, opening_said_open}
use Rattle.zt_theorem_transcript.proofs.Said.{same_heard}

module _ {K : Type 0} (cmp : K → K → Ordering) (matching : K → K → Bool) (total : IsTotalOrder cmp) where
  abbrev pub AllOpen : Fabric K → List (CallAt K) → List (Sent K) → List Place → List (Node K) → List (Node K) → Type 0
  AllOpen s calls ms places gs hs = Each (IsOpen places hs) ms

  -- once its messages are heard too
  open_when_heard : (X : Fabric K) (ms ns : List (Sent K)) → Each (IsOpen X.faces X.gateways) ns → Each (IsOpen X.faces (after_hearing cmp ms X).gateways) (sorted_by_face ns)
  open_when_heard X ms ns all =
      sorted_each (IsOpen X.faces (after_hearing cmp ms X).gateways) ns
      (each_weaker (IsOpen X.faces X.gateways) (IsOpen X.faces (after_hearing cmp ms X).gateways) (λ m is. open_kept X.faces X.gateways (after_hearing cmp ms X).gateways m (keep_heard cmp matching X ms 1 X.gateways) is) ns all)

  goes_on : (c : PlainCall K) (g : Rows K) (k : ℕ) → has_number k (rows_after_call cmp matching c g).faces ≡ has_number k (altered cmp matching c g).faces
  goes_on c g k = same_heard cmp matching (said cmp matching c g) (altered cmp matching c g) k

  named_of_calls : IsOfCalls cmp matching (λ s. Unit {0}) AllOpen
  named_of_calls = record {
    nothing = λ s fine _. tt;
    gateway = λ mode zid regions timeout refused node s is fine _. tt;
    call = λ spent n node c s at_ still accepted fine _.
        let ns = map (printed_at s.faces n) (said cmp matching c node.rows) in
        sorted_each (IsOpen s.faces (with_rows n (rows_after_call cmp matching c) s).gateways) ns
        (call_said_open cmp matching total n node c (rows_after_call cmp matching c) s at_ still fine (λ k there. goes_on c node.rows k ∙ there));
    session = λ n first node s at_ real fine _. tt;
    transport = λ spent n node zid whatami region bound first s at_ real accepted fine _.
        let c : PlainCall K = NewTransport zid whatami region bound first in
        let ns = map (printed_at (with_place n s).faces n) (said cmp matching c node.rows) in
        sorted_each (IsOpen (with_place n s).faces (with_rows n (rows_after_call cmp matching c) s).gateways) ns
        (opening_said_open cmp matching total n node c (rows_after_call cmp matching c) s at_ refl fine (λ k there. goes_on c node.rows k ∙ there));
    link = λ spent one two first back s real real_back accepted fine _.
        let ends = link_ends s one two first back in
        let X = opened_ends cmp matching ends s in
        let ns = said_opening cmp matching ends s in
        open_when_heard X (sorted_by_face ns) ns (ends_said_open cmp matching total ends s (starts_real cmp matching s one two first back real real_back) fine);
    unlink = λ n s fine _.
        let fs = both_ends cmp matching s n in
        let X = closed_ends cmp matching fs s in
        let ns = said_closing cmp matching fs s in
        let away = λ (m : Sent K). list_any (λ face. face == m.face) fs in
        let kept = filter (λ m. not (away m)) ns in
        open_when_heard X (sorted_by_face kept) kept
        (each_both (λ m. not (away m) ≡ true) (λ m. away m ≡ false → IsOpen X.faces X.gateways m) (IsOpen X.faces X.gateways) (λ m passes is. is (not-true (away m) passes)) kept
        (each_passes (λ m. not (away m)) ns)
        (each_filter (λ m. away m ≡ false → IsOpen X.faces X.gateways m) (λ m. not (away m)) ns (closings_said_open cmp matching total fs s fine)));
  }

  names_shown : (s : Fabric K) (t : Turn K) → FabricIsInOrder cmp matching s → Unit {0} → IsShownTurn cmp matching total (λ s. Unit {0}) AllOpen named_of_calls s t → NamesOpenFaces t.entry t.after
  names_shown s t fine _ is =
      let X = is.changed in
      let hs = (after_hearing cmp (printed t) X).gateways in
      each_weaker (IsOpen X.faces hs) (NamesOpenFace t.after) (λ m open_. names_open X.faces hs t.after m is.after_places is.after_gateways open_) (messages_of t.entry) is.comes

  -- Each message of a turn names an open face and its gateway.
  pub turns_name_open : (lines : List (PlainLine K)) (s : Fabric K) → Each HasFirstIds lines → FabricIsInOrder cmp matching s
      → Each (λ t. NamesOpenFaces t.entry t.after) (turns_from cmp matching lines (entries_from cmp matching lines s) (as_shown s))
  turns_name_open lines s real fine =
      turns_show cmp matching total (λ s. Unit {0}) AllOpen named_of_calls (λ t. NamesOpenFaces t.entry t.after) names_shown (λ line x first ordered _. tt) lines s real fine tt
