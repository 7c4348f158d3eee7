-- Links whose faces rise: one more, one less, one closed, and the one that a face ends.
use Rattle.std.proofs.Common.{◌≡◌, ℕ, zero, suc, ◌+◌, ◌-◌, ◌<◌, ◌≤◌, ◌==◌, ◌&&◌, Bool, true, false, List, [], ◌∷◌, ◌++◌, length, get_or, take, nat_lt, Some, None, refl, sym, ap, subst, ◌∙◌, arith, eqb-true, ne_eqb}
use Rattle.std.proofs.lemmas.Bool.Decides.{nat_tests}
use Rattle.std.proofs.lemmas.List.{get_or_default}
use Rattle.std.proofs.lemmas.List.Sorted.{IsPartitionedBy-ltb}
use Rattle.std.specs.List.Sorted.{IsPartitionPoint, IsPartitionedBy}
use Rattle.zt_keys.specs.Test.{by_test}
use Rattle.zt_model.specs.Linking.{is_end_of}
use Rattle.zt_model.specs.Lists.{first_where}
use Rattle.zt_model.specs.Places.{Link, at_nth}
use Rattle.zt_link_queues.specs.Found.{AreBelow, FacesRise, IsCut}

pub rise_pushed : (n one two : ℕ) (ls : List Link) → FacesRise n ls → n ≤ one → AreBelow one ls → one < two → FacesRise n (ls ++ record { one = one; two = two; is_open = true } ∷ [])
rise_pushed n one two [] rise le below lt = (le, (lt, tt))
rise_pushed n one two (l ∷ ls) rise le below lt =
    let first : l.two < one = below.0 in
    (rise.0, (rise.1.0, rise_pushed (l.two + 1) one two ls rise.1.1 (omega arith) below.1 lt))

pub rise_taken : (k n : ℕ) (ls : List Link) → FacesRise n ls → FacesRise n (take k ls)
rise_taken zero n ls rise = tt
rise_taken (suc k) n [] rise = tt
rise_taken (suc k) n (l ∷ ls) rise = (rise.0, (rise.1.0, rise_taken k (l.two + 1) ls rise.1.1))

pub rise_shut : (k n : ℕ) (ls : List Link) → FacesRise n ls → FacesRise n (at_nth k (λ l. record l { is_open = false }) ls)
rise_shut k n [] rise = tt
rise_shut k n (l ∷ ls) rise =
    by_test (k == 1)
    (λ here. rw here rise)
    (λ past. rw past (rise.0, (rise.1.0, rise_shut (k - 1) (l.two + 1) ls rise.1.1)))

-- ---- the later faces rise

above : (n : ℕ) (ls : List Link) (i : ℕ) (d : Link) → FacesRise n ls → i < length ls → n ≤ (get_or ls i d).two
above n [] i d rise lt = absurd (omega arith)
above n (l ∷ ls) zero d rise lt = let one = rise.0 in let two = rise.1.0 in omega (arith, one, two)
above n (l ∷ ls) (suc i) d rise lt =
    let one = rise.0 in
    let two = rise.1.0 in
    let rest = above (l.two + 1) ls i d rise.1.1 (omega arith) in
    omega (arith, one, two, rest)

pub later_rise : (n : ℕ) (ls : List Link) → FacesRise n ls → (i j : ℕ) (d : Link) → i ≤ j → j < length ls → (get_or ls i d).two ≤ (get_or ls j d).two
later_rise n [] rise i j d le lt = absurd (omega arith)
later_rise n (l ∷ ls) rise zero zero d le lt = omega arith
later_rise n (l ∷ ls) rise zero (suc j) d le lt = let rest = above (l.two + 1) ls j d rise.1.1 (omega arith) in omega (arith, rest)
later_rise n (l ∷ ls) rise (suc i) zero d le lt = absurd (omega arith)
later_rise n (l ∷ ls) rise (suc i) (suc j) d le lt = later_rise (l.two + 1) ls rise.1.1 i j d (omega arith) (omega arith)

-- ---- a search by halves

is_below : (a b : ℕ) → nat_lt a b ≡ true → a < b
is_below a b h = grind (arith, nat_tests)

not_below : (a b : ℕ) → nat_lt a b ≡ false → b ≤ a
not_below a b h = grind (arith, nat_tests)

pub are_parted : (face : ℕ) (ls : List Link) → FacesRise 0 ls → IsPartitionedBy (λ (l : Link). nat_lt l.two face) ls
are_parted face ls rise = IsPartitionedBy-ltb (λ (l : Link). l.two) ls face (later_rise 0 ls rise)

pub cut_of : (face : ℕ) (ls : List Link) (at : ℕ) → IsPartitionPoint (λ (l : Link). nat_lt l.two face ≡ true) (λ (l : Link). nat_lt l.two face ≡ false) ls at → IsCut face ls at
cut_of face ls at parted = record {
  before = λ i d lt within. is_below (get_or ls i d).two face (parted.0 i d (omega arith) lt);
  there = λ d lt. not_below (get_or ls at d).two face (parted.1 at d (omega arith) lt);
}

-- ---- the place of the link that a face ends

-- a link's faces rise, from n on
joins : (n : ℕ) (ls : List Link) (i : ℕ) (d : Link) → FacesRise n ls → i < length ls → (n ≤ (get_or ls i d).one) × ((get_or ls i d).one < (get_or ls i d).two)
joins n [] i d rise lt = absurd (omega arith)
joins n (l ∷ ls) zero d rise lt = (rise.0, rise.1.0)
joins n (l ∷ ls) (suc i) d rise lt =
    let one = rise.0 in
    let two = rise.1.0 in
    let rest = joins (l.two + 1) ls i d rise.1.1 (omega arith) in
    let low = rest.0 in
    (omega (arith, one, two, low), rest.1)

-- the faces before a link are below its own
apart : (n : ℕ) (ls : List Link) (i at : ℕ) (d : Link) → FacesRise n ls → i < at → at < length ls → (get_or ls i d).two < (get_or ls at d).one
apart n [] i at d rise earlier lt = absurd (omega arith)
apart n (l ∷ ls) i zero d rise earlier lt = absurd (omega arith)
apart n (l ∷ ls) zero (suc at) d rise earlier lt = let next = (joins (l.two + 1) ls at d rise.1.1 (omega arith)).0 in omega (arith, next)
apart n (l ∷ ls) (suc i) (suc at) d rise earlier lt = apart (l.two + 1) ls i at d rise.1.1 (omega arith) (omega arith)

-- a face that a link joins is one of its two
ends_within : (face : ℕ) (l : Link) → l.one < l.two → is_end_of face l ≡ true → (l.one ≤ face) × (face ≤ l.two)
ends_within face l rising ends =
    by_test (face == l.one)
    (λ here. let is : face ≡ l.one = eqb-true face l.one here in (omega arith, omega arith))
    (λ past.
    let later : (face == l.two) ≡ true = rw past at ends in
    let is : face ≡ l.two = eqb-true face l.two later in
    (omega arith, omega arith))

-- links are cut at the one that a face ends
pub cut_at : (face : ℕ) (ls : List Link) (at : ℕ) (x : Link) → FacesRise 0 ls → at < length ls → x ≡ get_or ls at x → is_end_of face x ≡ true → IsCut face ls at
cut_at face ls at x rise lt item ends =
    let rising : x.one < x.two = subst (λ (l : Link). l.one < l.two) (sym item) (joins 0 ls at x rise lt).1 in
    let within = ends_within face x rising ends in
    let low = within.0 in
    let high = within.1 in
    record {
      before = λ i d earlier behind.
          let below : (get_or ls i d).two < (get_or ls at d).one = apart 0 ls i at d rise earlier lt in
          let one : (get_or ls at d).one ≡ x.one = ap (λ (l : Link). l.one) (get_or_default ls at d x lt ∙ sym item) in
          omega (arith, below, one, low);
      there = λ d behind.
          let two : (get_or ls at d).two ≡ x.two = ap (λ (l : Link). l.two) (get_or_default ls at d x lt ∙ sym item) in
          omega (arith, two, high);
    }

-- ---- the link that a face ends

and_false : (b : Bool) → (b && false) ≡ false
and_false true = refl
and_false false = refl

-- a face that a link doesn't join
no_end : (face : ℕ) (l : Link) → (face == l.one) ≡ false → (face == l.two) ≡ false → (l.is_open && is_end_of face l) ≡ false
no_end face l one two = rw (one, two) (and_false l.is_open)

-- the links behind one that reaches up to the face join other faces
none_behind : (n face : ℕ) (ls : List Link) → FacesRise n ls → face < n → first_where (λ link. link.is_open && is_end_of face link) ls ≡ None
none_behind n face [] rise lt = refl
none_behind n face (l ∷ ls) rise lt =
    let one = rise.0 in
    let two = rise.1.0 in
    rw (no_end face l (ne_eqb face l.one (omega (arith, one))) (ne_eqb face l.two (omega (arith, one, two)))) (none_behind (l.two + 1) face ls rise.1.1 (omega (arith, one, two)))

-- and so do those before it
past_first : (face : ℕ) (l : Link) → l.one < l.two → l.two < face → (l.is_open && is_end_of face l) ≡ false
past_first face l two lt = no_end face l (ne_eqb face l.one (omega arith)) (ne_eqb face l.two (omega arith))

cut_rest : (face : ℕ) (l : Link) (ls : List Link) (at : ℕ) → IsCut face (l ∷ ls) (suc at) → IsCut face ls at
cut_rest face l ls at cut = record {
  before = λ i d lt within. cut.before (suc i) d (omega arith) (omega arith);
  there = λ d within. cut.there d (omega arith);
}

pub found_there : (n face : ℕ) (ls : List Link) (at : ℕ) (d : Link) → FacesRise n ls → IsCut face ls at → at < length ls → ((get_or ls at d).is_open && is_end_of face (get_or ls at d)) ≡ true
    → first_where (λ link. link.is_open && is_end_of face link) ls ≡ Some (get_or ls at d)
found_there n face [] at d rise cut lt ends = absurd (omega arith)
found_there n face (l ∷ ls) zero d rise cut lt ends = rw ends refl
found_there n face (l ∷ ls) (suc at) d rise cut lt ends =
    rw (past_first face l rise.1.0 (cut.before 0 d (omega arith) (omega arith))) (found_there (l.two + 1) face ls at d rise.1.1 (cut_rest face l ls at cut) (omega arith) ends)

pub found_none : (n face : ℕ) (ls : List Link) (at : ℕ) (d : Link) → FacesRise n ls → IsCut face ls at → at < length ls → ((get_or ls at d).is_open && is_end_of face (get_or ls at d)) ≡ false
    → first_where (λ link. link.is_open && is_end_of face link) ls ≡ None
found_none n face [] at d rise cut lt misses = absurd (omega arith)
found_none n face (l ∷ ls) zero d rise cut lt misses =
    let reach : face ≤ l.two = cut.there d (omega arith) in
    rw misses (none_behind (l.two + 1) face ls rise.1.1 (omega arith))
found_none n face (l ∷ ls) (suc at) d rise cut lt misses =
    rw (past_first face l rise.1.0 (cut.before 0 d (omega arith) (omega arith))) (found_none (l.two + 1) face ls at d rise.1.1 (cut_rest face l ls at cut) (omega arith) misses)

pub found_beyond : (n face : ℕ) (ls : List Link) (at : ℕ) → FacesRise n ls → IsCut face ls at → length ls ≤ at → first_where (λ link. link.is_open && is_end_of face link) ls ≡ None
found_beyond n face [] at rise cut le = refl
found_beyond n face (l ∷ ls) zero rise cut le = absurd (omega arith)
found_beyond n face (l ∷ ls) (suc at) rise cut le =
    rw (past_first face l rise.1.0 (cut.before 0 l (omega arith) (omega arith))) (found_beyond (l.two + 1) face ls at rise.1.1 (cut_rest face l ls at cut) (omega arith))
