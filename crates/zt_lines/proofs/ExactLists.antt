-- The same of lists, pairs and triples.
use Rattle.std.proofs.Common.{◌≡◌, inl, inr, ℕ, true, List, [], ◌∷◌, Option, Some, None, Result, Ok, Err, refl, ap, subst, ◌∙◌}
use Rattle.std.proofs.lemmas.Bool.{cond-true}
use Rattle.std.specs.Prelude.{option_and_then, option_map}
use Rattle.std.specs.List.{list_all, AllByRecursion}
use Rattle.zt_region.specs.declared.region.Region.{Region}
use Rattle.zt_region.specs.declared.region.Region.TheVariants.{North, Local, South}
use Rattle.zt_protocol.specs.declared.errors.LineError.{LineError}
use Rattle.zt_protocol.specs.declared.errors.LineError.TheVariants as errors
use Rattle.zt_fields.specs.Fields.{or_bad, spelled_by, parts_of, two_of, three_of}
use Rattle.zt_fields.specs.Values.{region_of, pair_by, pair_of, triple_by, triple_of}
use Rattle.zt_lines.specs.Lists.{each_read, list_read, is_south, south_regions_read}
use Rattle.zt_lines.specs.Grammar.{EachIs, IsList, IsSouth, AreSouthRegions}
use Rattle.zt_fields.specs.Spellings.{IsPair, IsTriple, IsRegion}
use Rattle.zt_fields.proofs.ResultLemmas.{bind_ok, ok_is}
use Rattle.zt_fields.proofs.Exact.{Exact, some, some_is, or_bad_ok, by_option, chosen}
use Rattle.zt_fields.proofs.ExactParts.{mapped, then_some, two_is, exact_region}

each_sound : {A : Type 0} (read : List ℕ → Result A LineError) (Is : List ℕ → A → Type 0) → Exact read Is → (parts : List (List ℕ)) (xs : List A) → each_read read parts ≡ Ok xs → EachIs Is parts xs
each_sound read Is exact [] xs h = subst (EachIs Is []) (ok_is [] xs h) tt
each_sound {A} read Is exact (part ∷ parts) xs h =
    let a = bind_ok (read part) _ xs h in
    let b = bind_ok (each_read read parts) _ xs a.2 in
    subst (EachIs Is (part ∷ parts)) (ok_is (a.0 ∷ b.0) xs b.2) (exact.sound part a.0 a.1, each_sound read Is exact parts b.0 b.1)

each_complete : {A : Type 0} (read : List ℕ → Result A LineError) (Is : List ℕ → A → Type 0) → Exact read Is → (parts : List (List ℕ)) (xs : List A) → EachIs Is parts xs → each_read read parts ≡ Ok xs
each_complete read Is exact [] [] h = refl
each_complete read Is exact [] (x ∷ xs) h = absurd h
each_complete read Is exact (part ∷ parts) [] h = absurd h
each_complete read Is exact (part ∷ parts) (x ∷ xs) h = rw (exact.complete part x h.0, each_complete read Is exact parts xs h.1) refl

pub exact_list : {A : Type 0} (read : List ℕ → Result A LineError) (Is : List ℕ → A → Type 0) → Exact read Is → (separator : ℕ) → Exact (list_read read separator) (IsList Is separator)
unfolding list_read
exact_list read Is exact separator = record {
  sound = λ text xs h. each_sound read Is exact (parts_of separator text) xs h;
  complete = λ text xs h. each_complete read Is exact (parts_of separator text) xs h;
}

-- ---- pairs and triples

pair_are : {A B : Type 0} (one : List ℕ → Option A) (two : List ℕ → Option B) (o : Option (List ℕ × List ℕ)) (x : A × B) → pair_by one two o ≡ Some x
    → (a b : List ℕ) × (o ≡ Some (a, b)) × (one a ≡ Some x.0) × (two b ≡ Some x.1)
pair_are one two None x h = absurd cc
pair_are {A} {B} one two (Some (a, b)) x h =
    let t = then_some (λ v. option_map (λ w. (v, w)) (two b)) (one a) x h in
    let m = mapped (λ w. (t.0, w)) (two b) x t.2 in
    (a, b, refl, t.1 ∙ ap (λ (p : A × B). some p.0) m.2, m.1 ∙ ap (λ (p : A × B). some p.1) m.2)

pub exact_pair : {A B : Type 0} (one : List ℕ → Option A) (two : List ℕ → Option B) (One : List ℕ → A → Type 0) (Two : List ℕ → B → Type 0) → Exact (spelled_by one) One → Exact (spelled_by two) Two → Exact (spelled_by (pair_of one two)) (IsPair One Two)
exact_pair {A} {B} one two One Two first second = by_option (pair_of one two) (IsPair One Two)
    (λ text x h.
    let p = pair_are one two (two_of (parts_of 58 text)) x h in
    (p.0, p.1, two_is (parts_of 58 text) (p.0, p.1) p.2, first.sound p.0 x.0 (ap or_bad p.3), second.sound p.1 x.1 (ap or_bad p.4)))
    (λ text x h.
    let a = or_bad_ok (one h.0) x.0 (first.complete h.0 x.0 h.3) in
    let b = or_bad_ok (two h.1) x.1 (second.complete h.1 x.1 h.4) in
    let read : pair_by one two (Some (h.0, h.1)) ≡ Some x = rw (a, b) refl in
    ap (λ (parts : List (List ℕ)). pair_by one two (two_of parts)) h.2 ∙ read)

three_is : (parts : List (List ℕ)) (x : List ℕ × List ℕ × List ℕ) → three_of parts ≡ Some x → parts ≡ x.0 ∷ x.1 ∷ x.2 ∷ []
three_is [] x h = absurd cc
three_is (a ∷ []) x h = absurd cc
three_is (a ∷ b ∷ []) x h = absurd cc
three_is (a ∷ b ∷ c ∷ []) x h = let e = some_is (a, b, c) x h in ap (λ (p : List ℕ × List ℕ × List ℕ). p.0 ∷ p.1 ∷ p.2 ∷ []) e
three_is (a ∷ b ∷ c ∷ d ∷ parts) x h = absurd cc

triple_are : {A B C : Type 0} (one : List ℕ → Option A) (two : List ℕ → Option B) (three : List ℕ → Option C) (o : Option (List ℕ × List ℕ × List ℕ)) (x : A × B × C) → triple_by one two three o ≡ Some x
    → (a b c : List ℕ) × (o ≡ Some (a, b, c)) × (one a ≡ Some x.0) × (two b ≡ Some x.1) × (three c ≡ Some x.2)
triple_are one two three None x h = absurd cc
triple_are {A} {B} {C} one two three (Some (a, b, c)) x h =
    let t = then_some (λ u. option_and_then (λ v. option_map (λ w. (u, v, w)) (three c)) (two b)) (one a) x h in
    let s = then_some (λ v. option_map (λ w. (t.0, v, w)) (three c)) (two b) x t.2 in
    let m = mapped (λ w. (t.0, s.0, w)) (three c) x s.2 in
    (a, b, c, refl, t.1 ∙ ap (λ (p : A × B × C). some p.0) m.2, s.1 ∙ ap (λ (p : A × B × C). some p.1) m.2, m.1 ∙ ap (λ (p : A × B × C). some p.2) m.2)

pub exact_triple : {A B C : Type 0} (one : List ℕ → Option A) (two : List ℕ → Option B) (three : List ℕ → Option C) (One : List ℕ → A → Type 0) (Two : List ℕ → B → Type 0) (Three : List ℕ → C → Type 0)
    → Exact (spelled_by one) One → Exact (spelled_by two) Two → Exact (spelled_by three) Three → Exact (spelled_by (triple_of one two three)) (IsTriple One Two Three)
exact_triple one two three One Two Three first second third = by_option (triple_of one two three) (IsTriple One Two Three)
    (λ text x h.
    let p = triple_are one two three (three_of (parts_of 58 text)) x h in
    (p.0, p.1, p.2, three_is (parts_of 58 text) (p.0, p.1, p.2) p.3, first.sound p.0 x.0 (ap or_bad p.4), second.sound p.1 x.1 (ap or_bad p.5), third.sound p.2 x.2 (ap or_bad p.6)))
    (λ text x h.
    let a = or_bad_ok (one h.0) x.0 (first.complete h.0 x.0 h.4) in
    let b = or_bad_ok (two h.1) x.1 (second.complete h.1 x.1 h.5) in
    let c = or_bad_ok (three h.2) x.2 (third.complete h.2 x.2 h.6) in
    let read : triple_by one two three (Some (h.0, h.1, h.2)) ≡ Some x = rw (a, b, c) refl in
    ap (λ (parts : List (List ℕ)). triple_by one two three (three_of parts)) h.3 ∙ read)

-- ---- south regions

south_are : (regions : List Region) → list_all is_south regions ≡ true → AllByRecursion IsSouth regions
south_are [] h = tt
south_are (North ∷ regions) h = absurd cc
south_are (Local ∷ regions) h = absurd cc
south_are (South id mode ∷ regions) h = (tt, south_are regions h)

all_south : (regions : List Region) → AllByRecursion IsSouth regions → list_all is_south regions ≡ true
all_south [] h = refl
all_south (North ∷ regions) h = absurd h.0
all_south (Local ∷ regions) h = absurd h.0
all_south (South id mode ∷ regions) h = all_south regions h.1

regions_sound : (text : List ℕ) (regions : List Region) → south_regions_read text ≡ Ok regions → AreSouthRegions text regions
unfolding south_regions_read
regions_sound text regions h =
    let a = bind_ok (list_read (spelled_by region_of) 44 text) _ regions h in
    elim (chosen (list_all is_south a.0) (Ok a.0) (Err errors.NotInGrammar) (Ok regions) a.2) [
      | inl g ↦ subst (AreSouthRegions text) (ok_is a.0 regions g.1) ((exact_list (spelled_by region_of) IsRegion exact_region 44).sound text a.0 a.1, south_are a.0 g.0)
      | inr g ↦ absurd cc
    ]

regions_complete : (text : List ℕ) (regions : List Region) → AreSouthRegions text regions → south_regions_read text ≡ Ok regions
unfolding south_regions_read
regions_complete text regions h =
    rw ((exact_list (spelled_by region_of) IsRegion exact_region 44).complete text regions h.0) (cond-true _ _ _ (all_south regions h.1))

pub exact_south_regions : Exact south_regions_read AreSouthRegions
exact_south_regions = record { sound = regions_sound; complete = regions_complete }
