-- Entries that are printed: no others have their text.
use Rattle.std.proofs.Common.{◌≡◌, Bool, true, List, [], ◌∷◌, Ok, Err}
use Rattle.std.specs.List.{AllByRecursion, list_all}
use Rattle.std.specs.declared.cmp.Ordering.{Ordering}
use Rattle.std.proofs.lemmas.Bool.{and_parts, ltb-true}
use Rattle.zt_protocol.specs.Plain.{PlainEntry, PlainLine}
use Rattle.zt_protocol.specs.declared.entries.Sent.{Sent}
use Rattle.zt_protocol.specs.declared.messages.Message.{Message}
use Rattle.zt_protocol.specs.declared.messages.Message.TheVariants.{DeclareToken, UndeclareToken, DeclareFinal, Interest, InterestFinal, DeclareSubscriber, DeclareQueryable}
use Rattle.zt_text.specs.Sent.{ArePrinted, EntryFits, IsMessage, IsPrinted, IsSent, NumbersFit, SentFits}
use Rattle.zt_model.specs.Fabric.{Fabric}
use Rattle.zt_model.specs.Transcript.{Each, IsEntry, IsFaithfulFrom, fabric_shown, has_named_options}

module _ {K : Type 0} where
  message_printed : (m : Message K) → NumbersFit m → has_named_options m ≡ true → IsMessage m
  message_printed (DeclareToken id e interest node) fits named = fits
  message_printed (UndeclareToken id e node) fits named = fits
  message_printed (DeclareFinal interest) fits named = fits
  message_printed (Interest id mode options e) fits named = (fits, ltb-true options.0 32 named)
  message_printed (InterestFinal id) fits named = fits
  message_printed (DeclareSubscriber id e interest) fits named = fits
  message_printed (DeclareQueryable id e info interest) fits named = fits

  sents_printed : (sents : List (Sent K)) → AllByRecursion SentFits sents → list_all (λ m. has_named_options m.message) sents ≡ true → AllByRecursion IsSent sents
  sents_printed [] fits named = tt
  sents_printed (m ∷ ms) fits named =
      let both = and_parts _ _ named in
      (record { gateway = fits.0.gateway; face = fits.0.face; message = message_printed m.message fits.0.message both.0 }, sents_printed ms fits.1 both.1)

  entry_printed : (entry : PlainEntry K) → EntryFits entry → IsEntry entry → IsPrinted entry
  entry_printed (Ok sents) fits is = sents_printed sents fits is.named_options
  entry_printed (Err refusal) fits is = tt

module _ {K : Type 0} (cmp : K → K → Ordering) (matching : K → K → Bool) where
  -- faithful entries whose numbers are within their types
  pub entries_printed : (lines : List (PlainLine K)) (entries : List (PlainEntry K)) (s : Fabric K)
      → IsFaithfulFrom cmp matching lines entries s → Each EntryFits entries → ArePrinted entries
  entries_printed [] [] s faithful fits = tt
  entries_printed [] (e ∷ es) s faithful fits = absurd faithful
  entries_printed (l ∷ ls) [] s faithful fits = absurd faithful
  entries_printed (l ∷ ls) (e ∷ es) s faithful fits =
      (entry_printed e fits.0 faithful.1, entries_printed ls es (fabric_shown cmp matching l e s) faithful.3 fits.1)
