-- What is gathered from a part that has all of a number is what is gathered from the whole, where others give nothing.
use Rattle.std.proofs.Common.{◌≡◌, ℕ, Bool, true, false, ◌==◌, ◌&&◌, ◌||◌, not, List, [], ◌∷◌, ◌++◌, Option, Some, None, refl, ap, sym, ◌∙◌}
use Rattle.std.proofs.lemmas.Bool.{eqb-false, ne_eqb}
use Rattle.std.specs.List.{list_all, list_any}
use Rattle.std.specs.declared.cmp.Ordering.{Ordering}
use Rattle.zt_keys.specs.Test.{by_test}
use Rattle.zt_protocol.specs.declared.messages.Message.{Message}
use Rattle.zt_protocol.specs.Interest.{is_current}
use Rattle.zt_model.specs.Lists.{has_id}
use Rattle.zt_model.specs.Parts.{is_routed}
use Rattle.zt_model.specs.Rows.{ById, Face, InterestRow, Rows}
use Rattle.zt_model.specs.Seen.{concerns}
use Rattle.zt_check_faces.specs.Parts.{HasThoseOf, those_of}
use Rattle.zt_check_faces.proofs.Parts.{all-of_part, any-of_part}
use Rattle.zt_check_keeping.specs.Changed.{declared, expressions, is_holding}
use Rattle.zt_check_keeping.specs.Heard.{heard_among, told_under}
use Rattle.zt_check_keeping.specs.Keeping.{at_face}
use Rattle.zt_check_keeping.specs.Owing.{is_concerned}
use Rattle.zt_check_keeping.proofs.Gathering.{declared_first, expressions_first, heard_first, told_first}

module _ {X B : Type 0} (number : X → ℕ) (n : ℕ) (gives : List X → List B) (law : (x : X) (xs : List X) → gives (x ∷ xs) ≡ gives (x ∷ []) ++ gives xs)
    (others : (x : X) → (n == number x) ≡ false → gives (x ∷ []) ≡ []) where
  kept : (x : X) (xs : List X) → (n == number x) ≡ true → x ∷ those_of number n xs ≡ those_of number n (x ∷ xs)
  kept x xs own = rw own refl

  gone : (x : X) (xs : List X) → (n == number x) ≡ false → those_of number n xs ≡ those_of number n (x ∷ xs)
  gone x xs other = rw other refl

  of_those : (xs : List X) → gives xs ≡ gives (those_of number n xs)
  of_those [] = refl
  of_those (x ∷ xs) =
      by_test (n == number x)
      (λ own. law x xs ∙ (ap (λ (b : List B). gives (x ∷ []) ++ b) (of_those xs) ∙ (sym (law x (those_of number n xs)) ∙ ap gives (kept x xs own))))
      (λ other. law x xs ∙ (ap (λ (b : List B). b ++ gives xs) (others x other) ∙ (of_those xs ∙ ap gives (gone x xs other))))

  of_part : (part xs : List X) → HasThoseOf number n part xs → gives part ≡ gives xs
  of_part part xs has = of_those part ∙ (ap gives has ∙ sym (of_those xs))

pub has_id_of_part : {A : Type 0} (id : ℕ) (part rows : ById A) → HasThoseOf (λ (row : ℕ × A). row.0) id part rows → has_id id part ≡ has_id id rows
has_id_of_part {A} id part rows = any-of_part (λ (row : ℕ × A). row.0) id (λ row. id == row.0) part rows (λ row other. other)

module _ {K : Type 0} where
  pub told_of_part : (gateway n id : ℕ) (part rows : ById K) → HasThoseOf (λ (row : ℕ × K). row.0) id part rows → told_under gateway n id part ≡ told_under gateway n id rows
  told_of_part gateway n id = of_part (λ (row : ℕ × K). row.0) id (told_under gateway n id) (told_first gateway n id) (λ row other. rw other refl)

  pub heard_of_part : (gateway n : ℕ) (m : Message K) (part fs : List (Face K)) → HasThoseOf (λ (f : Face K). f.number) n part fs → heard_among gateway n m part ≡ heard_among gateway n m fs
  heard_of_part gateway n m = of_part (λ (f : Face K). f.number) n (heard_among gateway n m) (heard_first gateway n m) (λ f other. rw other refl)

  pub expressions_of_part : (gateway id : ℕ) (part rows : ById K) → HasThoseOf (λ (row : ℕ × K). row.0) id part rows → expressions gateway (Some id) part ≡ expressions gateway (Some id) rows
  expressions_of_part gateway id = of_part (λ (row : ℕ × K). row.0) id (expressions gateway (Some id)) (expressions_first gateway (Some id)) (λ row other. rw other refl)

  pub declared_of_part : (gateway n : ℕ) (sought : Option ℕ) (part fs : List (Face K)) → HasThoseOf (λ (f : Face K). f.number) n part fs
      → declared gateway n sought part ≡ declared gateway n sought fs
  declared_of_part gateway n sought = of_part (λ (f : Face K). f.number) n (declared gateway n sought) (declared_first gateway n sought) (λ f other. rw other refl)

  pub holding_of_part : (n id : ℕ) (part fs : List (Face K)) → HasThoseOf (λ (f : Face K). f.number) n part fs → is_holding n id part ≡ is_holding n id fs
  holding_of_part n id part fs = any-of_part (λ (f : Face K). f.number) n (λ f. (n == f.number) && has_id id f.held) part fs (λ f other. rw other refl)

  pub concerned_of_part : (cmp : K → K → Ordering) (matching : K → K → Bool) (id : ℕ) (e : K) (part held : ById (InterestRow K)) → HasThoseOf (λ (row : ℕ × InterestRow K). row.0) id part held
      → is_concerned cmp matching part id e ≡ is_concerned cmp matching held id e
  concerned_of_part cmp matching id e part held =
      any-of_part (λ (row : ℕ × InterestRow K). row.0) id (λ row. (row.0 == id) && (concerns matching row.1 e && is_current row.1.mode)) part held (λ row other. rw (ne_eqb row.0 id (λ same. eqb-false id row.0 other (sym same))) refl)

  -- a test of each face of a number
  pub tested_of_part : (n : ℕ) (test : Rows K → Face K → Bool) (g : Rows K) (part : List (Face K)) → HasThoseOf (λ (f : Face K). f.number) n part g.faces
      → list_all (λ f. (not (n == f.number) || is_routed g f) || test g f) part ≡ at_face n test g
  tested_of_part n test g part = all-of_part (λ (f : Face K). f.number) n (λ f. (not (n == f.number) || is_routed g f) || test g f) part g.faces (λ f other. rw other refl)
