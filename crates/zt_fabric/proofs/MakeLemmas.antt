-- The script that `make` runs.
use Rattle.std.proofs.Common.{◌≡◌, ℕ, suc, ◌+◌, Bool, true, List, [], ◌∷◌, ◌++◌, Some, Result, Ok, Err, IfOk, refl, sym, subst, arith, ap, ◌∙◌, append_assoc}
use Rattle.std.proofs.lemmas.Grind.{flat_map-append}
use Rattle.std.specs.declared.cmp.Ordering.{Ordering}
use Rattle.zt_keys.specs.declared.error.KeyError.{KeyError}
use Rattle.zt_streams.specs.Lines.{lines_of, with_feed}
use Rattle.zt_streams.specs.Streams.{HasRisen}
use Rattle.zt_protocol.specs.declared.entries.Report.{Report}
use Rattle.zt_protocol.specs.declared.errors.RunError.{RunError}
use Rattle.zt_fabric.specs.Making.{IsReportOf, coming_lines, first_lines, going_lines, lines_up_to, made_script, number_to_make, text_of}
use Rattle.zt_fabric.specs.Transcripts.{Answers, IsTranscript, Streams, ask_to_run}
use Rattle.zt_fabric.proofs.CompleteLemmas.{read_whole}

-- with the lines of one number more
pub text-next : (lines : ℕ → List (List ℕ)) (n : ℕ) (before out text : List ℕ) → out ≡ before ++ text_of (lines_up_to lines n)
    → text ≡ out ++ text_of (lines (n + 1)) → text ≡ before ++ text_of (lines_up_to lines (n + 1))
text-next lines n before out text is more =
    let next : suc n ≡ n + 1 = omega arith in
    let grown : lines_up_to lines n ++ lines (n + 1) ≡ lines_up_to lines (n + 1) = subst (λ m. lines_up_to lines n ++ lines m ≡ lines_up_to lines m) next refl in
    more ∙ ap (λ t. t ++ text_of (lines (n + 1))) is ∙ append_assoc before (text_of (lines_up_to lines n)) (text_of (lines (n + 1)))
    ∙ ap (λ t. before ++ t) (sym (flat_map-append with_feed (lines_up_to lines n) (lines (n + 1))) ∙ ap text_of grown)

-- the text of all lines, put together in three parts
pub text-made : (n : ℕ) (none first coming all : List ℕ) → none ≡ [] → first ≡ none ++ text_of first_lines → coming ≡ first ++ text_of (lines_up_to coming_lines n)
    → all ≡ coming ++ text_of (lines_up_to going_lines n) → all ≡ made_script n
unfolding made_script
text-made n none first coming all new begun come gone =
    let f = text_of first_lines in
    let a = text_of (lines_up_to coming_lines n) in
    let b = text_of (lines_up_to going_lines n) in
    gone ∙ ap (λ t. t ++ b) (come ∙ ap (λ t. t ++ a) (begun ∙ ap (λ t. t ++ f) new)) ∙ append_assoc f a b
    ∙ ap (λ t. f ++ t) (sym (flat_map-append with_feed (lines_up_to coming_lines n) (lines_up_to going_lines n)))
    ∙ sym (flat_map-append with_feed first_lines (lines_up_to coming_lines n ++ lines_up_to going_lines n))

-- words that ask to run give no number
pub no_number : (words : List (List ℕ)) (n : ℕ) → ask_to_run words ≡ true → number_to_make words ≡ Some n → ⊥
unfolding number_to_make
no_number [] n asks is = cc
no_number (word ∷ []) n asks is = cc
no_number (word ∷ number ∷ []) n asks is = cc
no_number (word ∷ number ∷ other ∷ words) n asks is = cc

-- ---- the run

pub none_has_risen : ¬ HasRisen 0 0
none_has_risen risen = omega (arith, risen (omega arith))

module _ {K : Type 0} (cmp : K → K → Ordering) (matching : K → K → Bool) (reading : List ℕ → Result K KeyError) (printed : K → List ℕ) where
  -- a run that comes to its end answers the report of all lines
  pub reported : (old new : Streams) (script : List ℕ) (texts : List (List ℕ)) (result : Result Report RunError) → Answers cmp matching reading printed old new result
      → old.left ≡ Some script → lines_of script ≡ texts → IfOk result (λ report. IsReportOf cmp matching reading texts report)
  reported old new script texts (Ok report) p given are =
      let whole = read_whole old.left new.left script p.read given p.taken p.at_end in
      record {
        entries = p.entries;
        transcript = subst (λ (ts : List (List ℕ)). IsTranscript cmp matching reading ts p.entries) (ap lines_of whole ∙ are) p.transcript;
        totals = p.totals;
      }
  reported old new script texts (Err error) p given are = tt
