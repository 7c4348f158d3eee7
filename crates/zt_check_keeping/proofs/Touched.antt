-- What is in the lists of what a line may change.
use Rattle.std.proofs.Common.{◌≡◌, ◌⊎◌, inl, inr, ℕ, Bool, true, false, ◌&&◌, ◌==◌, if◌then◌else◌, List, [], ◌∷◌, ◌++◌, Option, None, Some, refl, sym, ap, subst, ◌∙◌, ⊎_elim, eqb-true, eq-eqb}
use Rattle.std.proofs.lemmas.Bool.{and_from}
use Rattle.std.specs.declared.cmp.Ordering.{Ordering}
use Rattle.zt_keys.specs.Test.{by_test}
use Rattle.zt_region.specs.declared.region.Region.{Region}
use Rattle.zt_protocol.specs.Plain.{PlainCall, Trees}
use Rattle.zt_model.specs.Hearing.{put_if}
use Rattle.zt_model.specs.Lists.{has_id}
use Rattle.zt_model.specs.Rows.{ById, Face, InterestRow, RoutedRow, Rows}
use Rattle.zt_check_keeping.specs.Changed.{declared, expressions, held_of, is_holding, is_sought, is_unlisted, opened_of, tokens_of, unheld_of, unlisted}
use Rattle.zt_check_keeping.proofs.Members.{Among, append_left, append_right, in_put, member_any, put_keeps}

module _ {K : Type 0} (gateway : ℕ) where
  expressions_in : (sought : Option ℕ) (i : ℕ) (e : K) (rows : ById K) → Among (i, e) rows → is_sought sought i ≡ true → Among (gateway, e) (expressions gateway sought rows)
  expressions_in sought i e [] at is = absurd at
  expressions_in sought i e (row ∷ rows) (inl same) is =
      let here : is_sought sought row.0 ≡ true = ap (λ (r : ℕ × K). is_sought sought r.0) (sym same) ∙ is in
      rw here (inl (ap (λ (r : ℕ × K). (gateway, r.1)) same))
  expressions_in sought i e (row ∷ rows) (inr at) is =
      by_test (is_sought sought row.0)
      (λ here. rw here (inr (expressions_in sought i e rows at is)))
      (λ here. rw here (expressions_in sought i e rows at is))

  pub declared_in : (n : ℕ) (sought : Option ℕ) (i : ℕ) (e : K) (o : Face K) (fs : List (Face K)) → Among o fs → n ≡ o.number → Among (i, e) o.live → is_sought sought i ≡ true → Among (gateway, e) (declared gateway n sought fs)
  declared_in n sought i e o [] at own row is = absurd at
  declared_in n sought i e o (f ∷ fs) (inl same) own row is =
      let here : (n == f.number) ≡ true = eq-eqb n f.number (own ∙ ap (λ (x : Face K). x.number) same) in
      rw here (append_left (gateway, e) (expressions gateway sought f.live) (declared gateway n sought fs) (expressions_in sought i e f.live (subst (λ (x : Face K). Among (i, e) x.live) same row) is))
  declared_in n sought i e o (f ∷ fs) (inr at) own row is =
      by_test (n == f.number)
      (λ here. rw here (append_right (gateway, e) (expressions gateway sought f.live) (declared gateway n sought fs) (declared_in n sought i e o fs at own row is)))
      (λ here. rw here (declared_in n sought i e o fs at own row is))

  pub unlisted_there : (region : Region) (table : Trees) (row : RoutedRow K) (rows : List (RoutedRow K)) → Among row rows → is_unlisted region table row ≡ true → Among (gateway, row.expr) (unlisted gateway region table rows)
  unlisted_there region table row [] at is = absurd at
  unlisted_there region table row (first ∷ rows) (inl same) is =
      let here : is_unlisted region table first ≡ true = ap (λ (r : RoutedRow K). is_unlisted region table r) (sym same) ∙ is in
      rw here (inl (ap (λ (r : RoutedRow K). (gateway, r.expr)) same))
  unlisted_there region table row (first ∷ rows) (inr at) is =
      by_test (is_unlisted region table first)
      (λ here. rw here (inr (unlisted_there region table row rows at is)))
      (λ here. rw here (unlisted_there region table row rows at is))

  pub holding : (n id : ℕ) (row : ℕ × InterestRow K) (o : Face K) (fs : List (Face K)) → Among o fs → n ≡ o.number → Among row o.held → id ≡ row.0 → is_holding n id fs ≡ true
  holding n id row o fs at own there is =
      member_any (λ (f : Face K). (n == f.number) && has_id id f.held) o fs at
      (and_from (n == o.number) (has_id id o.held) (eq-eqb n o.number own) (member_any (λ (r : ℕ × InterestRow K). id == r.0) row o.held there (eq-eqb id row.0 is)))

-- rows that are put only where a test says so
pub put_if_keeps : {A : Type 0} (b : Bool) (id : ℕ) (value : A) (row : ℕ × A) (rows : ById A) → Among row rows → Among row (put_if b id value rows) ⊎ ((b ≡ true) × (id ≡ row.0))
put_if_keeps true id value row rows at = ⊎_elim (λ kept. inl kept) (λ same. inr (refl, same)) (put_keeps id value row rows at)
put_if_keeps false id value row rows at = inl at

pub in_put_if : {A : Type 0} (b : Bool) (id : ℕ) (value : A) (row : ℕ × A) (rows : ById A) → Among row (put_if b id value rows) → ((b ≡ true) × (row ≡ (id, value))) ⊎ Among row rows
in_put_if true id value row rows at = ⊎_elim (λ new. inl (refl, new)) (λ old. inr old) (in_put id value row rows at)
in_put_if false id value row rows at = inr at

-- the lists of a call are within what is said to be touched at its gateway
module _ {K : Type 0} (T : K → Type 0) (U O : ℕ → Type 0) (D : ℕ → ℕ → Type 0) (gateway : ℕ) where
  pub record Covers (g : Rows K) (call : PlainCall K) : Type 0 where
    pub tokens : (e : K) → Among (gateway, e) (tokens_of gateway g call) → T e
    pub unheld : (n : ℕ) → Among (gateway, n) (unheld_of gateway g call) → U n
    pub opened : (n : ℕ) → Among (gateway, n) (opened_of gateway g call) → O n
    pub held : (n id : ℕ) → Among (gateway, n, id) (held_of gateway call) → D n id
