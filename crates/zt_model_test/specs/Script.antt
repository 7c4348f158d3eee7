-- What it says of a script that the definitions give it its transcript.
use Rattle.std.specs.Prelude.{◌≡◌, ℕ, Bool, ◌==◌, ◌&&◌, ◌||◌, List, Option, option_map}
use Rattle.std.specs.List.{list_any}
use Rattle.std.specs.Ordering.{nat_cmp}
use Rattle.zt_region.specs.declared.region.Zid.{Zid}
use Rattle.zt_protocol.specs.Plain.{PlainEntry, PlainLine}
use Rattle.zt_protocol.specs.declared.entries.Report.{Report}
use Rattle.zt_protocol.specs.declared.entries.Sent.{Sent}
use Rattle.zt_protocol.specs.declared.interests.InterestOptions.{InterestOptions}
use Rattle.zt_protocol.specs.declared.messages.Message.{Message}
use Rattle.zt_model.specs.Fabric.{empty_fabric, entries_from}
use Rattle.zt_model.specs.Transcript.{report_of}

-- A script with its transcript. Keys stand as numbers in the order of their bytes, and `matches` lists which two of
-- them, being different, match. There are no totals where the script ends in a bad line; its lines are those before.
pub record Script : Type 0 where
  pub matches : List (ℕ × ℕ)
  pub lines : List (PlainLine ℕ)
  pub entries : List (PlainEntry ℕ)
  pub totals : Option Report

abbrev pub matching_in : Script → ℕ → ℕ → Bool
matching_in s a b = a == b || list_any (λ pair. (a == pair.0) && (b == pair.1)) s.matches

-- The totals are those of the entries, where they were printed.
abbrev pub HasTotals : Script → Type 0
HasTotals s = option_map (λ _. report_of s.entries) s.totals ≡ s.totals

-- The lines come to the entries, and they to the totals.
abbrev pub ComesOut : Script → Type 0
ComesOut s = (entries_from nat_cmp (matching_in s) s.lines empty_fabric ≡ s.entries) × HasTotals s

-- ---- short words for terms

abbrev pub zid : ℕ → Zid
zid n = record { 0 = n }

abbrev pub options : ℕ → InterestOptions
options bits = record { 0 = bits }

abbrev pub sent : ℕ → ℕ → Message ℕ → Sent ℕ
sent gateway face message = record { gateway = gateway; face = face; message = message }
