-- The same of fields, and of fields that may be absent.
use Rattle.std.proofs.Common.{◌≡◌, ℕ, List, [], ◌∷◌, ◌++◌, Option, Some, None, Result, Ok, refl, sym, ap, subst, ◌∙◌}
use Rattle.std.proofs.lemmas.List.{append-nil}
use Rattle.zt_protocol.specs.declared.errors.LineError.{LineError}
use Rattle.zt_fields.specs.Fields.{Fields, behind, end_at, optional_at, optional_by, optional_value, value_at, optional_value_at}
use Rattle.zt_fields.specs.Spellings.{MayStand}
use Rattle.zt_fields.proofs.FieldLemmas.{behind_of, behind_is}
use Rattle.zt_fields.proofs.ResultLemmas.{bind_ok, ok_is}
use Rattle.zt_fields.proofs.Exact.{Exact}

pub value_sound : {A : Type 0} (read : List ℕ → Result A LineError) (Is : List ℕ → A → Type 0) → Exact read Is → (fields : Fields) (x : A × Fields) → value_at read fields ≡ Ok x
    → (text : List ℕ) × (fields ≡ text ∷ x.1) × Is text x.0
unfolding value_at
value_sound read Is exact [] x h = absurd cc
value_sound {A} read Is exact (field ∷ rest) x h =
    let b = bind_ok (read field) _ x h in
    let same = ok_is (b.0, rest) x b.2 in
    (field, ap (λ (y : A × Fields). field ∷ y.1) same, subst (λ (y : A × Fields). Is field y.0) same (exact.sound field b.0 b.1))

pub value_complete : {A : Type 0} (read : List ℕ → Result A LineError) (Is : List ℕ → A → Type 0) → Exact read Is → (text : List ℕ) (rest : Fields) (value : A) → Is text value → value_at read (text ∷ rest) ≡ Ok (value, rest)
unfolding value_at
value_complete read Is exact text rest value h = rw (exact.complete text value h) refl

-- a word that doesn't begin the next field
abbrev pub Absent : List ℕ → Fields → Type 0
Absent word rest = optional_at word rest ≡ (None, rest)

abbrev nothing : {A : Type 0} → Fields → Option A × Fields
nothing rest = (None, rest)

pub optional_sound : {A : Type 0} (read : List ℕ → Result A LineError) (Is : List ℕ → A → Type 0) → Exact read Is → (word : List ℕ) (fields : Fields) (x : Option A × Fields) → optional_value_at read word fields ≡ Ok x
    → (front : Fields) × (fields ≡ front ++ x.1) × MayStand word Is front x.0
unfolding optional_value_at
optional_sound {A} read Is exact word [] x h =
    let same = ok_is (nothing []) x h in
    ([], ap (λ (y : Option A × Fields). y.1) same, subst (λ (y : Option A × Fields). MayStand word Is [] y.0) same refl)
optional_sound {A} read Is exact word (field ∷ rest) x h =
    elim (behind word field) as (λ v. behind word field ≡ v → optional_value read (optional_by word field rest v) ≡ Ok x → (front : Fields) × (field ∷ rest ≡ front ++ x.1) × MayStand word Is front x.0) [
      | None ↦ λ is g.
          let same = ok_is (nothing (field ∷ rest)) x g in
          ([], ap (λ (y : Option A × Fields). y.1) same, subst (λ (y : Option A × Fields). MayStand word Is [] y.0) same refl)
      | Some text ↦ λ is g.
          let b = bind_ok (read text) _ x g in
          let same = ok_is (Some b.0, rest) x b.2 in
          let stands : MayStand word Is (field ∷ []) (Some b.0) = (text, ap (λ (f : List ℕ). f ∷ []) (behind_is word field text is), exact.sound text b.0 b.1) in
          (field ∷ [], ap (λ (y : Option A × Fields). field ∷ y.1) same, subst (λ (y : Option A × Fields). MayStand word Is (field ∷ []) y.0) same stands)
    ] refl h

pub optional_complete : {A : Type 0} (read : List ℕ → Result A LineError) (Is : List ℕ → A → Type 0) → Exact read Is → (word : List ℕ) (front : Fields) (given : Option A) (rest : Fields)
    → MayStand word Is front given → Absent word rest → optional_value_at read word (front ++ rest) ≡ Ok (given, rest)
unfolding optional_value_at
optional_complete read Is exact word front None rest h absent = ap (λ (f : Fields). optional_value read (optional_at word (f ++ rest))) h ∙ ap (optional_value read) absent
optional_complete read Is exact word front (Some value) rest h absent =
    let stands : optional_at word ((word ++ h.0) ∷ rest) ≡ (Some h.0, rest) = ap (optional_by word (word ++ h.0) rest) (behind_of word h.0) in
    ap (λ (f : Fields). optional_value read (optional_at word (f ++ rest))) h.1 ∙ (ap (optional_value read) stands ∙ rw (exact.complete h.0 value h.2) refl)

pub optional_last : {A : Type 0} (read : List ℕ → Result A LineError) (Is : List ℕ → A → Type 0) → Exact read Is → (word : List ℕ) (front : Fields) (given : Option A)
    → MayStand word Is front given → optional_value_at read word front ≡ Ok (given, [])
optional_last read Is exact word front given h = ap (optional_value_at read word) (sym (append-nil front)) ∙ optional_complete read Is exact word front given [] h refl

-- another word's field, or none, doesn't begin with the word
pub absent_before : {A : Type 0} (Is : List ℕ → A → Type 0) (word other : List ℕ) → ((text : List ℕ) → behind word (other ++ text) ≡ None) → (front : Fields) (given : Option A) (rest : Fields)
    → MayStand other Is front given → Absent word rest → Absent word (front ++ rest)
absent_before Is word other differs front None rest h absent = subst (λ (f : Fields). Absent word (f ++ rest)) (sym h) absent
absent_before Is word other differs front (Some value) rest h absent =
    subst (λ (f : Fields). Absent word (f ++ rest)) (sym h.1) (ap (optional_by word (other ++ h.0) rest) (differs h.0))

pub absent_last : {A : Type 0} (Is : List ℕ → A → Type 0) (word other : List ℕ) → ((text : List ℕ) → behind word (other ++ text) ≡ None) → (front : Fields) (given : Option A)
    → MayStand other Is front given → Absent word front
absent_last Is word other differs front given h = subst (Absent word) (append-nil front) (absent_before Is word other differs front given [] h refl)

pub end_sound : (fields : Fields) (x : Unit {0}) → end_at fields ≡ Ok x → fields ≡ []
end_sound [] x h = refl
end_sound (field ∷ fields) x h = absurd cc

-- what is left behind the last field
pub ended : (fields front rest : Fields) → fields ≡ front ++ rest → rest ≡ [] → fields ≡ front
ended fields front rest h none = h ∙ (ap (λ (r : Fields). front ++ r) none ∙ append-nil front)
