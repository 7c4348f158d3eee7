-- The text and the totals of answers, with one more.
use Rattle.std.proofs.Common.{◌≡◌, ℕ, suc, ◌+◌, ◌<◌, ◌^◌, List, [], ◌∷◌, ◌++◌, length, map, refl, sym, ap, ◌∙◌, subst, arith, append_assoc, append-nil, length-append}
use Rattle.std.proofs.lemmas.Grind.{flat_map-append}
use Rattle.std.specs.List.{flat_map, fold, sum_by}
use Rattle.zt_protocol.specs.Plain.{PlainEntry}
use Rattle.zt_protocol.specs.declared.entries.Report.{Report}
use Rattle.zt_text.specs.Text.{entry_text, report_text}
use Rattle.zt_text.specs.Sent.{EntryFits}
use Rattle.zt_model.specs.Transcript.{Each, messages_in, refusals_in, report_of}
use Rattle.zt_laws.proofs.Lists.{each_append, map-append}
use Rattle.zt_fabric.specs.Carrying.{IsInRange, no_totals, with_entry}
use Rattle.zt_workers.specs.Answers.{AnswersFit, answers_text, totals_of}

fold_more : {A : Type 0} (f : ℕ → A → ℕ) (a : ℕ) (xs : List A) (x : A) → fold f a (xs ++ x ∷ []) ≡ f (fold f a xs) x
fold_more f a [] x = refl
fold_more f a (y ∷ xs) x = fold_more f (f a y) xs x

same_report : {l m r l' m' r' : ℕ} → l ≡ l' → m ≡ m' → r ≡ r' → (let a : Report = record { lines = l; messages = m; refusals = r } in let b : Report = record { lines = l'; messages = m'; refusals = r' } in a ≡ b)
same_report e f g = cc

pub in_range_none : IsInRange no_totals
in_range_none = record { messages_fit = omega arith; refusals_fit = omega arith }

module _ {K : Type 0} where
  pub totals_none : (xs : List (ℕ × PlainEntry K)) → xs ≡ [] → no_totals ≡ totals_of xs
  unfolding report_of
  totals_none xs none = sym (ap totals_of none)

  pub totals_more : (xs : List (ℕ × PlainEntry K)) (x : ℕ × PlainEntry K) → totals_of (xs ++ x ∷ []) ≡ with_entry x.1 (totals_of xs)
  unfolding report_of
  totals_more xs x =
      ap report_of (map-append (λ (y : ℕ × PlainEntry K). y.1) xs (x ∷ []))
      ∙ same_report (length-append (map (λ y. y.1) xs) (x.1 ∷ [])) (fold_more (λ a e. a + messages_in e) 0 (map (λ y. y.1) xs) x.1) (fold_more (λ a e. a + refusals_in e) 0 (map (λ y. y.1) xs) x.1)

  pub fit_more : (xs : List (ℕ × PlainEntry K)) (x : ℕ × PlainEntry K) → AnswersFit xs → EntryFits x.1 → x.0 < 2 ^ 64 → AnswersFit (xs ++ x ∷ [])
  fit_more xs x fit last small = record {
    entries = subst (Each EntryFits) (sym (map-append (λ (y : ℕ × PlainEntry K). y.1) xs (x ∷ []))) (each_append EntryFits (map (λ (y : ℕ × PlainEntry K). y.1) xs) (x.1 ∷ []) fit.entries (last, tt));
    numbers = each_append (λ (y : ℕ × PlainEntry K). y.0 < 2 ^ 64) xs (x ∷ []) fit.numbers (small, tt);
  }

  pub text_more : (printed : K → List ℕ) (xs : List (ℕ × PlainEntry K)) (x : ℕ × PlainEntry K) → answers_text printed (xs ++ x ∷ []) ≡ answers_text printed xs ++ entry_text printed x.0 x.1
  text_more printed xs x =
      flat_map-append (λ (y : ℕ × PlainEntry K). entry_text printed y.0 y.1) xs (x ∷ []) ∙ ap (λ t. answers_text printed xs ++ t) (append-nil (entry_text printed x.0 x.1))
