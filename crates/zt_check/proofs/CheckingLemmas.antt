-- Lemmas on a whole check: what was read, and what was written.
use Rattle.std.proofs.Common.{◌≡◌, inr, ℕ, ◌<◌, ◌≤◌, Bool, true, false, List, length, Result, Ok, Err, is_err, sym, subst, ◌∙◌, OnOk, OnErr, arith}
use Rattle.std.proofs.lemmas.Bool.{false≢true}
use Rattle.std.proofs.lemmas.Bool.Decides.{nat_tests}
use Rattle.std.proofs.lemmas.List.{take_all}
use Rattle.std.specs.Prelude.{Option, nat_lt}
use Rattle.std.specs.declared.cmp.Ordering.{Ordering}
use Rattle.std.specs.Io.KnownBytes.{Consumes, IsAtEnd}
use Rattle.zt_keys.specs.declared.error.KeyError.{KeyError}
use Rattle.zt_streams.proofs.LineLemmas.{by_test}
use Rattle.zt_streams.specs.Streams.{TakesFront}
use Rattle.zt_check.specs.Checking.{Answers, IsWholeInput}
use Rattle.zt_check.specs.Judging.{JudgesInput}
use Rattle.zt_check.specs.declared.verdict.CheckError.{CheckError}
use Rattle.zt_check.specs.declared.verdict.CheckError.TheVariants as errors

pub on_err : {T E : Type 0} (r : Result T E) (P : Type 0) → true ≡ is_err r → OnErr r P → P
on_err (Ok x) P h p = absurd (false≢true (sym h))
on_err (Err e) P h p = p

pub on_ok : {T E : Type 0} (r : Result T E) (P : Type 0) → false ≡ is_err r → OnOk r P → P
on_ok (Ok x) P h p = p
on_ok (Err e) P h p = absurd (false≢true h)

pub whole_input : (left left' : Option (List ℕ)) (bytes : List ℕ) (longer : Bool) → TakesFront 16777216 left left' bytes longer → longer ≡ false → IsAtEnd left' → IsWholeInput left left' bytes
whole_input left left' bytes longer front whole end =
    record {
      taken = subst (λ (b : List ℕ). Consumes left left' b) (sym same) front.taken;
      at_end = end;
      fits = subst (λ (b : List ℕ). length b ≤ 16777216) (sym same) short;
    }
  where
    short : length front.read ≤ 16777216
    short =
        by_test (nat_lt 16777216 (length front.read))
        (λ e. let more : 16777216 < length front.read = grind (arith, nat_tests, e) in absurd (false≢true (sym whole ∙ front.longer_is.1 more)))
        (λ e. grind (arith, nat_tests, e))

    same : bytes ≡ front.read
    same = front.front ∙ take_all 16777216 front.read short

module _ {K : Type 0} (cmp : K → K → Ordering) (matching : K → K → Bool) (reading : List ℕ → Result K KeyError) (printed : K → List ℕ) where
  pub answers_error : (left left' written : Option (List ℕ)) (bytes shown : List ℕ) (error : CheckError) → IsWholeInput left left' bytes → shown ≡ bytes → JudgesInput cmp matching reading printed shown (Err error)
      → Answers cmp matching reading printed left left' written written (Err error)
  answers_error left left' written bytes shown errors.TooLong whole is h = inr (bytes, whole, subst (λ (b : List ℕ). JudgesInput cmp matching reading printed b (Err errors.TooLong)) is h)
  answers_error left left' written bytes shown errors.NoTrace whole is h = (bytes, whole, subst (λ (b : List ℕ). JudgesInput cmp matching reading printed b (Err errors.NoTrace)) is h)
  answers_error left left' written bytes shown (errors.BadScript number) whole is h = (bytes, whole, subst (λ (b : List ℕ). JudgesInput cmp matching reading printed b (Err (errors.BadScript number))) is h)
  answers_error left left' written bytes shown errors.Alloc whole is h = tt
  answers_error left left' written bytes shown errors.ReadFault whole is h = absurd h
  answers_error left left' written bytes shown errors.WriteFault whole is h = absurd h
