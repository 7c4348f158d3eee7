-- Numbers of faces, where a place is put behind the others or taken away again.
use Rattle.std.proofs.Common.{◌≡◌, ℕ, zero, suc, ◌+◌, ◌-◌, ◌<◌, ◌≤◌, ◌==◌, ◌&&◌, true, false, not, cond, if◌then◌else◌, List, [], ◌∷◌, ◌++◌, length, set, take, Option, Some, None, is_some, unwrap_or, refl, sym, ap, ◌∙◌, arith, eq-eqb, eqb-true, ne_eqb}
use Rattle.std.proofs.lemmas.Bool.{eqb-false}
use Rattle.std.proofs.lemmas.Bool.Decides.{nat_tests}
use Rattle.std.proofs.lemmas.List.{get_or-set_other, get_or-set_same}
use Rattle.std.specs.Cmp.{alike_right, nat_cmp_total, unsigned_tied}
use Rattle.std.specs.FinMap.Entries.{find, find-put, find-where_key}
use Rattle.std.specs.Ordering.{is_eq, nat_cmp}
use Rattle.zt_keys.specs.Test.{by_test}
use Rattle.zt_model.specs.Places.{Place, number_from}
use Rattle.zt_ordered.specs.Rows.{same}
use Rattle.zt_link_queues.specs.Found.{AreNumbers, HasNumber, LacksNumber, faces_at, number_at, number_in, numbered, or_number, other_than, with_number, without_number}

abbrev Numbers : Type 0
Numbers = List (List (ℕ × ℕ))

turned : (a b : ℕ) → (a == b) ≡ (b == a)
turned a b = grind (arith, nat_tests)

-- ---- numbers, or none

or_none : (o : Option ℕ) → or_number o None ≡ o
or_none None = refl
or_none (Some n) = refl

or_there : (o other : Option ℕ) → is_some o ≡ true → or_number o other ≡ o
or_there None other there = cc
or_there (Some n) other there = refl

or_absent : (o other : Option ℕ) → is_some o ≡ false → or_number o other ≡ other
or_absent None other absent = refl
or_absent (Some n) other absent = cc

some_number : (n : ℕ) → 1 ≤ n → numbered n ≡ Some n
some_number n le = rw (ne_eqb n 0 (omega arith)) refl

taken_back : (n number : ℕ) → n < number → other_than number (or_number (numbered n) (Some number)) ≡ numbered n
taken_back n number lt =
    by_test (n == 0)
    (λ none. rw none (rw (eq-eqb number number refl) refl))
    (λ some. rw some (rw (ne_eqb n number (omega arith)) refl))

none_other : (o : Option ℕ) (number : ℕ) → (unwrap_or o 0 == number) ≡ true → other_than number o ≡ None
none_other None number this = refl
none_other (Some n) number this = rw this refl

still_other : (o : Option ℕ) (number : ℕ) → (unwrap_or o 0 == number) ≡ false → other_than number o ≡ o
still_other None number other = refl
still_other (Some n) number other = rw other refl

-- ---- one gateway's faces

find_with : (face number f : ℕ) (pairs : List (ℕ × ℕ)) → find nat_cmp f (with_number face number pairs) ≡ or_number (find nat_cmp f pairs) (if f == face then Some number else None)
find_with face number f pairs =
    by_test (is_some (find nat_cmp face pairs))
    (λ there.
    rw there (by_test (f == face)
    (λ here. rw here (sym (or_there (find nat_cmp f pairs) (Some number) (ap (λ k. is_some (find nat_cmp k pairs)) (eqb-true f face here) ∙ there))))
    (λ past. rw past (sym (or_none (find nat_cmp f pairs))))))
    (λ absent.
    let put : find nat_cmp f (with_number face number pairs) ≡ (if f == face then Some number else find nat_cmp f pairs) =
    rw absent (find-put nat_cmp nat_cmp_total f face number pairs ∙ ap (λ b. cond b (Some number) (find nat_cmp f pairs)) (unsigned_tied f face))
    in
    put
    ∙ by_test (f == face)
    (λ here. rw here (sym (or_absent (find nat_cmp f pairs) (Some number) (ap (λ k. is_some (find nat_cmp k pairs)) (eqb-true f face here) ∙ absent))))
    (λ past. rw past (sym (or_none (find nat_cmp f pairs)))))

find_without : (face number f : ℕ) (pairs : List (ℕ × ℕ)) → find nat_cmp f (without_number face number pairs) ≡ (if f == face then other_than number (find nat_cmp f pairs) else find nat_cmp f pairs)
find_without face number f pairs =
    by_test (number_in face pairs == number)
    (λ this.
    let less : find nat_cmp f (without_number face number pairs) ≡ cond (not (f == face)) (find nat_cmp f pairs) None =
    rw this (find-where_key nat_cmp (λ k. not (same nat_cmp face k)) f (λ x tied. ap (λ o. not (is_eq o)) (sym (alike_right nat_cmp_total f x face tied))) pairs
    ∙ ap (λ b. cond (not b) (find nat_cmp f pairs) None) (unsigned_tied face f ∙ turned face f))
    in
    less
    ∙ by_test (f == face)
    (λ here. rw here (sym (none_other (find nat_cmp f pairs) number (ap (λ k. number_in k pairs == number) (eqb-true f face here) ∙ this))))
    (λ past. rw past refl))
    (λ other.
    rw other (by_test (f == face)
    (λ here. rw here (sym (still_other (find nat_cmp f pairs) number (ap (λ k. number_in k pairs == number) (eqb-true f face here) ∙ other))))
    (λ past. rw past refl)))

-- ---- what is written at a gateway's number

-- there may be more gateways without faces
pub faces_more : (old : Numbers) (g : ℕ) → faces_at g (old ++ [] ∷ []) ≡ faces_at g old
faces_more [] zero = refl
faces_more [] (suc g) = refl
faces_more (x ∷ xs) zero = refl
faces_more (x ∷ xs) (suc g) = faces_more xs g

pub faces_set : (gateway : ℕ) (pairs : List (ℕ × ℕ)) (old : Numbers) → gateway < length old → (g : ℕ) → faces_at g (set old gateway pairs) ≡ (if g == gateway then pairs else faces_at g old)
faces_set gateway pairs old lt g =
    by_test (g == gateway)
    (λ here. rw here (ap (λ k. faces_at k (set old gateway pairs)) (eqb-true g gateway here) ∙ get_or-set_same old gateway pairs [] lt))
    (λ past. rw past (get_or-set_other old gateway g pairs [] (eqb-false g gateway past)))

pub numbers_alike : (old new : Numbers) (ps : List Place) → ((g : ℕ) → faces_at g new ≡ faces_at g old) → AreNumbers old ps → AreNumbers new ps
numbers_alike old new ps alike are = record { at = λ g f. ap (find nat_cmp f) (alike g) ∙ are.at g f }

pub number_put : (gateway face number : ℕ) (pairs : List (ℕ × ℕ)) (old new : Numbers) → pairs ≡ with_number face number (faces_at gateway old)
    → ((g : ℕ) → faces_at g new ≡ (if g == gateway then pairs else faces_at g old)) → HasNumber gateway face number old new
number_put gateway face number pairs old new is puts = record {
  at = λ g f.
      let now = ap (find nat_cmp f) (puts g) in
      by_test (g == gateway)
      (λ here.
      let same : faces_at gateway old ≡ faces_at g old = ap (λ k. faces_at k old) (sym (eqb-true g gateway here)) in
      rw here (rw here at now ∙ ap (find nat_cmp f) (is ∙ ap (with_number face number) same) ∙ find_with face number f (faces_at g old)))
      (λ past. rw past (rw past at now ∙ sym (or_none (number_at g f old))));
}

pub number_dropped : (gateway face number : ℕ) (pairs : List (ℕ × ℕ)) (old new : Numbers) → pairs ≡ without_number face number (faces_at gateway old)
    → ((g : ℕ) → faces_at g new ≡ (if g == gateway then pairs else faces_at g old)) → LacksNumber gateway face number old new
number_dropped gateway face number pairs old new is puts = record {
  at = λ g f.
      let now = ap (find nat_cmp f) (puts g) in
      by_test (g == gateway)
      (λ here.
      let same : faces_at gateway old ≡ faces_at g old = ap (λ k. faces_at k old) (sym (eqb-true g gateway here)) in
      rw here (rw here at now ∙ ap (find nat_cmp f) (is ∙ ap (without_number face number) same) ∙ find_without face number f (faces_at g old)))
      (λ past. rw past (rw past at now));
}

-- ---- a place more, and one less

pub numbers_none : AreNumbers [] []
unfolding number_from
numbers_none = record { at = λ g f. refl }

-- a number is that of a place
number_within : (i g f : ℕ) (ps : List Place) → 1 ≤ i → number_from i g f ps < i + length ps
unfolding number_from
number_within i g f [] le = omega arith
number_within i g f (p ∷ ps) le =
    by_test ((g == p.gateway) && (f == p.face))
    (λ here. rw here (omega arith))
    (λ past. let rest : number_from (i + 1) g f ps < (i + 1) + length ps = number_within (i + 1) g f ps (omega arith) in rw past (omega arith))

number_more : (i g f : ℕ) (ps : List Place) (p : Place) → 1 ≤ i
    → numbered (number_from i g f (ps ++ p ∷ [])) ≡ or_number (numbered (number_from i g f ps)) (if (g == p.gateway) && (f == p.face) then Some (i + length ps) else None)
unfolding number_from
number_more i g f [] p le =
    let count : i ≡ i + length {A = Place} [] = omega arith in
    by_test ((g == p.gateway) && (f == p.face))
    (λ here. rw here (some_number i le ∙ ap (λ k. Some k) count))
    (λ past. rw past refl)
number_more i g f (q ∷ ps) p le =
    by_test ((g == q.gateway) && (f == q.face))
    (λ here. rw here (let some = some_number i le in rw some refl))
    (λ past.
    let count : (i + 1) + length ps ≡ i + length (q ∷ ps) = omega arith in
    rw past
    (number_more (i + 1) g f ps p (omega arith)
    ∙ ap (λ k. or_number (numbered (number_from (i + 1) g f ps)) (if (g == p.gateway) && (f == p.face) then Some k else None)) count))

pub numbers_pushed : (old new : Numbers) (ps : List Place) (p : Place) (number : ℕ) → AreNumbers old ps → HasNumber p.gateway p.face number old new → number ≡ length ps + 1 → AreNumbers new (ps ++ p ∷ [])
numbers_pushed old new ps p number are has is = record {
  at = λ g f.
      let count : number ≡ 1 + length ps = omega arith in
      has.at g f
      ∙ ap (λ o. or_number o (if (g == p.gateway) && (f == p.face) then Some number else None)) (are.at g f)
      ∙ ap (λ k. or_number (numbered (number_from 1 g f ps)) (if (g == p.gateway) && (f == p.face) then Some k else None)) count
      ∙ sym (number_more 1 g f ps p (omega arith));
}

pub numbers_popped : (old new : Numbers) (ps : List Place) (p : Place) (number : ℕ) → AreNumbers old (ps ++ p ∷ []) → LacksNumber p.gateway p.face number old new → number ≡ length ps + 1 → AreNumbers new ps
numbers_popped old new ps p number are lacks is = record {
  at = λ g f.
      let n = number_from 1 g f ps in
      let below : n < number = let within = number_within 1 g f ps (omega arith) in omega (arith, within, is) in
      let count : 1 + length ps ≡ number = omega arith in
      let was : number_at g f old ≡ or_number (numbered n) (if (g == p.gateway) && (f == p.face) then Some number else None) =
      are.at g f
      ∙ number_more 1 g f ps p (omega arith)
      ∙ ap (λ k. or_number (numbered n) (if (g == p.gateway) && (f == p.face) then Some k else None)) count
      in
      by_test ((g == p.gateway) && (f == p.face))
      (λ here. rw here at (lacks.at g f) ∙ ap (other_than number) (rw here at was) ∙ taken_back n number below)
      (λ past. rw past at (lacks.at g f) ∙ rw past at was ∙ or_none (numbered n));
}

-- a place that was put behind others is taken away again
pub taken_again : (n : ℕ) (ps : List Place) (p : Place) → n ≡ length ps + 1 → take (n - 1) (ps ++ p ∷ []) ≡ ps
taken_again n ps p count =
    let most : n - 1 ≡ length ps = omega arith in
    rw most (whole ps p)
  where
    whole : (qs : List Place) (q : Place) → take (length qs) (qs ++ q ∷ []) ≡ qs
    whole [] q = refl
    whole (x ∷ qs) q = ap (λ rest. x ∷ rest) (whole qs q)
