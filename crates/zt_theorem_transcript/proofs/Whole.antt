-- Every transcript of the machine is faithful and strict.
use Rattle.std.proofs.Common.{◌≡◌, Bool, List, [], ◌∷◌, sym, subst}
use Rattle.std.specs.Cmp.{IsTotalOrder}
use Rattle.std.specs.declared.cmp.Ordering.{Ordering}
use Rattle.std.specs.declared.cmp.Ordering.TheVariants.{Equal}
use Rattle.zt_protocol.specs.Plain.{PlainLine}
use Rattle.zt_model.specs.Fabric.{Fabric, entries_from, entry_of, fabric_after}
use Rattle.zt_model.specs.Promises.{turns_from}
use Rattle.zt_model.specs.Transcript.{AllKeepWhatTheyShould, Each, IsEntry, IsFaithfulFrom, IsRefusedByCause, IsStrictFrom, LacksIdsByCall, NamesOpenFaces, fabric_shown}
use Rattle.zt_laws.specs.Order.{FabricIsInOrder}
use Rattle.zt_laws.specs.Shown.{as_shown}
use Rattle.zt_laws.specs.Sound.{HasFirstIds}
use Rattle.zt_laws.proofs.AllLines.{in_order_after_line}
use Rattle.zt_laws.proofs.ShownLines.{fabric_is_shown}
use Rattle.zt_theorem_soundness.specs.Lines.{EachGatewayIs}
use Rattle.zt_theorem_soundness.specs.Sound.{IsSound}
use Rattle.zt_theorem_visibility.proofs.Exact.{turns_keep}
use Rattle.zt_theorem_transcript.specs.Named.{FabricHasNamedOptions, HasNamedOptions}
use Rattle.zt_theorem_transcript.proofs.Lacking.{turns_lack_by_call, turns_refused_by_cause}
use Rattle.zt_theorem_transcript.proofs.NamedLines.{fine_after_line, is_entry}
use Rattle.zt_theorem_transcript.proofs.Naming.{turns_name_open}

module _ {K : Type 0} (cmp : K → K → Ordering) (matching : K → K → Bool) where
  -- what is printed at each turn is an entry
  pub turns_are_entries : IsTotalOrder cmp → (lines : List (PlainLine K)) (s : Fabric K) → Each HasFirstIds lines → Each HasNamedOptions lines → FabricIsInOrder cmp matching s → FabricHasNamedOptions s
      → Each (λ t. IsEntry t.entry) (turns_from cmp matching lines (entries_from cmp matching lines s) (as_shown s))
  unfolding turns_from entries_from
  turns_are_entries total [] s real named fine all = tt
  turns_are_entries total (line ∷ lines) s real named fine all =
      let next = fabric_after cmp matching line (entry_of cmp matching line s) s in (
        is_entry cmp matching total line s named.0 all,
        subst (λ (after : Fabric K). Each (λ t. IsEntry t.entry) (turns_from cmp matching lines (entries_from cmp matching lines next) after)) (sym (fabric_is_shown cmp matching total line s fine))
            (turns_are_entries total lines next real.1 named.1 (in_order_after_line cmp matching total line s real.0 fine) (fine_after_line cmp matching total line s named.0 fine all)),
      )

  -- A transcript is faithful whose turns are.
  faithful_by_turns : (lines : List (PlainLine K)) (s A : Fabric K)
      → (let ts = turns_from cmp matching lines (entries_from cmp matching lines s) A in
      Each (λ t. IsRefusedByCause cmp matching t.line t.entry t.before) ts → Each (λ t. IsEntry t.entry) ts → Each (λ t. AllKeepWhatTheyShould cmp matching t.after) ts
      → IsFaithfulFrom cmp matching lines (entries_from cmp matching lines s) A)
  unfolding turns_from entries_from
  faithful_by_turns [] s A causes entries keep = tt
  faithful_by_turns (line ∷ lines) s A causes entries keep =
      let entry = entry_of cmp matching line s in
      (causes.0, entries.0, keep.0, faithful_by_turns lines (fabric_after cmp matching line entry s) (fabric_shown cmp matching line entry A) causes.1 entries.1 keep.1)

  -- And it is strict whose turns are.
  strict_by_turns : (lines : List (PlainLine K)) (s A : Fabric K)
      → (let ts = turns_from cmp matching lines (entries_from cmp matching lines s) A in
      Each (λ t. LacksIdsByCall cmp matching t.line t.entry t.before) ts → Each (λ t. NamesOpenFaces t.entry t.after) ts
      → IsStrictFrom cmp matching lines (entries_from cmp matching lines s) A)
  unfolding turns_from entries_from
  strict_by_turns [] s A ids faces = tt
  strict_by_turns (line ∷ lines) s A ids faces =
      let entry = entry_of cmp matching line s in
      (ids.0, faces.0, strict_by_turns lines (fabric_after cmp matching line entry s) (fabric_shown cmp matching line entry A) ids.1 faces.1)

  module _ (total : IsTotalOrder cmp) (equal_is_same : (a b : K) → cmp a b ≡ Equal → a ≡ b) where
    pub faithful_from : (lines : List (PlainLine K)) (s : Fabric K) → Each HasFirstIds lines → Each HasNamedOptions lines → EachGatewayIs cmp matching (IsSound cmp matching) s → FabricHasNamedOptions s
        → IsFaithfulFrom cmp matching lines (entries_from cmp matching lines s) (as_shown s)
    faithful_from lines s real named sound all =
        faithful_by_turns lines s (as_shown s) (turns_refused_by_cause cmp matching total equal_is_same lines s real sound) (turns_are_entries total lines s real named sound.order all) (turns_keep cmp matching total equal_is_same lines s real sound)

    pub strict_from : (lines : List (PlainLine K)) (s : Fabric K) → Each HasFirstIds lines → EachGatewayIs cmp matching (IsSound cmp matching) s
        → IsStrictFrom cmp matching lines (entries_from cmp matching lines s) (as_shown s)
    strict_from lines s real sound =
        strict_by_turns lines s (as_shown s) (turns_lack_by_call cmp matching total equal_is_same lines s real sound) (turns_name_open cmp matching total lines s real sound.order)
