-- What is said of an input where there is no explanation.
use Rattle.std.proofs.Common.{◌≡◌, ℕ, Bool, List, Result, Err}
use Rattle.std.specs.Prelude.{Option}
use Rattle.std.specs.declared.cmp.Ordering.{Ordering}
use Rattle.zt_keys.specs.declared.error.KeyError.{KeyError}
use Rattle.zt_check.proofs.CheckingLemmas.{answers_error}
use Rattle.zt_check.specs.Checking.{IsWholeInput}
use Rattle.zt_check.specs.Judging.{JudgesInput}
use Rattle.zt_check.specs.declared.verdict.CheckError.{CheckError}
use Rattle.zt_check.specs.declared.verdict.CheckError.TheVariants as errors
use Rattle.zt_explaining.specs.Explaining.{AnswersExplaining}

module _ {K : Type 0} (cmp : K → K → Ordering) (matching : K → K → Bool) (reading : List ℕ → Result K KeyError) (printed : K → List ℕ) where
  pub explaining_error : (left left' written : Option (List ℕ)) (bytes shown : List ℕ) (error : CheckError) → IsWholeInput left left' bytes → shown ≡ bytes → JudgesInput cmp matching reading printed shown (Err error)
      → AnswersExplaining cmp matching reading printed left left' written written (Err error)
  explaining_error left left' written bytes shown errors.TooLong whole is h = answers_error cmp matching reading printed left left' written bytes shown errors.TooLong whole is h
  explaining_error left left' written bytes shown errors.NoTrace whole is h = answers_error cmp matching reading printed left left' written bytes shown errors.NoTrace whole is h
  explaining_error left left' written bytes shown (errors.BadScript number) whole is h = answers_error cmp matching reading printed left left' written bytes shown (errors.BadScript number) whole is h
  explaining_error left left' written bytes shown errors.Alloc whole is h = tt
  explaining_error left left' written bytes shown errors.ReadFault whole is h = absurd h
  explaining_error left left' written bytes shown errors.WriteFault whole is h = absurd h
