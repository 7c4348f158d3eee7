-- What is gathered from lists is what is gathered from their first member, and then from the rest.
use Rattle.std.proofs.Common.{◌≡◌, ℕ, ◌==◌, if◌then◌else◌, List, [], ◌∷◌, ◌++◌, Option, refl, sym, ap, ◌∙◌}
use Rattle.zt_keys.specs.Test.{by_test}
use Rattle.zt_region.specs.declared.region.Region.{Region}
use Rattle.zt_protocol.specs.Plain.{Trees}
use Rattle.zt_protocol.specs.declared.entries.Sent.{Sent}
use Rattle.zt_protocol.specs.declared.messages.Message.{Message}
use Rattle.zt_model.specs.Fabric.{Fabric}
use Rattle.zt_model.specs.Lists.{nth}
use Rattle.zt_model.specs.Rows.{ById, Face, RoutedRow}
use Rattle.zt_check_fabric.proofs.Gathered.{append_none}
use Rattle.zt_check_keeping.specs.Changed.{declared, expressions, is_sought, is_unlisted, unlisted}
use Rattle.zt_check_keeping.specs.Heard.{heard_among, heard_by, heard_of, heard_there, told_under}

module _ {K : Type 0} where
  pub expressions_first : (gateway : ℕ) (sought : Option ℕ) (row : ℕ × K) (rows : ById K) → expressions gateway sought (row ∷ rows) ≡ expressions gateway sought (row ∷ []) ++ expressions gateway sought rows
  expressions_first gateway sought row rows = by_test (is_sought sought row.0) (λ here. rw here refl) (λ here. rw here refl)

  pub declared_first : (gateway n : ℕ) (sought : Option ℕ) (f : Face K) (fs : List (Face K)) → declared gateway n sought (f ∷ fs) ≡ declared gateway n sought (f ∷ []) ++ declared gateway n sought fs
  declared_first gateway n sought f fs =
      by_test (n == f.number)
      (λ here. rw here (ap (λ (xs : List (ℕ × K)). xs ++ declared gateway n sought fs) (sym (append_none (expressions gateway sought f.live)))))
      (λ here. rw here refl)

  pub unlisted_first : (gateway : ℕ) (region : Region) (table : Trees) (row : RoutedRow K) (rows : List (RoutedRow K)) → unlisted gateway region table (row ∷ rows) ≡ unlisted gateway region table (row ∷ []) ++ unlisted gateway region table rows
  unlisted_first gateway region table row rows = by_test (is_unlisted region table row) (λ here. rw here refl) (λ here. rw here refl)

  pub told_first : (gateway n id : ℕ) (row : ℕ × K) (rows : ById K) → told_under gateway n id (row ∷ rows) ≡ told_under gateway n id (row ∷ []) ++ told_under gateway n id rows
  told_first gateway n id row rows = by_test (id == row.0) (λ here. rw here refl) (λ here. rw here refl)

  pub heard_first : (gateway n : ℕ) (m : Message K) (f : Face K) (fs : List (Face K)) → heard_among gateway n m (f ∷ fs) ≡ heard_among gateway n m (f ∷ []) ++ heard_among gateway n m fs
  heard_first gateway n m f fs =
      by_test (n == f.number)
      (λ here. rw here (ap (λ (xs : List (ℕ × ℕ × K)). xs ++ heard_among gateway n m fs) (sym (append_none (heard_of gateway n f.told m)))))
      (λ here. rw here refl)

  pub sent_first : (s : Fabric K) (m : Sent K) (ms : List (Sent K)) → heard_by s (m ∷ ms) ≡ heard_by s (m ∷ []) ++ heard_by s ms
  sent_first s m ms = ap (λ (xs : List (ℕ × ℕ × K)). xs ++ heard_by s ms) (sym (append_none (heard_there s m.message (nth m.face s.faces))))

  pub sent_one : (s : Fabric K) (m : Sent K) (before after : List (ℕ × ℕ × K)) → after ≡ before ++ heard_there s m.message (nth m.face s.faces) → after ≡ before ++ heard_by s (m ∷ [])
  sent_one s m before after is = is ∙ ap (λ (xs : List (ℕ × ℕ × K)). before ++ xs) (sym (append_none (heard_there s m.message (nth m.face s.faces))))
