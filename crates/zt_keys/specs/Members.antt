-- Two key expressions match exactly if some plain list of chunks is a member of both.
use Rattle.std.specs.Prelude.{◌≡◌, ℕ, Bool, true, false, ◌&&◌, ◌||◌, not, List, [], ◌∷◌, ◌++◌, map, length, refl, ◌↔◌, IsTrue}
use Rattle.std.specs.List.{list_any, list_all}
use Rattle.std.specs.Cmp.Lexicographic.{same_text, nat_list_eq_equiv}
use Rattle.std.proofs.Common.{sym, ap, ◌∙◌, arith}
use Rattle.std.proofs.lemmas.Bool.{false≢true}
use Rattle.zt_keys.specs.Test.{by_test}
use Rattle.zt_keys.specs.Chunks.{is_double, is_single, is_star, is_good_chunk, is_forbidden, is_empty, is_wild, chunks}
use Rattle.zt_keys.specs.Expression.{Expression}
use Rattle.zt_keys.specs.Laws.{good_chunks}
use Rattle.zt_keys.specs.Parts.{Part, many, one, marked, plain, part_of, is_marked, is_free, meets, parts_match}
use Rattle.zt_keys.specs.Matching.{AreFree, IsMember, is_plain_chunk, ArePlain, Intersect, matching}
use Rattle.zt_keys.specs.Meet.{Meet, ends, left_none, left_takes, right_none, right_takes, both, match-to, match-from}

-- membership chunk by chunk
data Member : List (List ℕ) → List Part → Type 0 where
  nothing : Member [] []
  many_none : {p : List (List ℕ)} {xs : List Part} → Member p xs → Member p (many ∷ xs)
  many_takes : {p : List (List ℕ)} {xs : List Part} {c : List ℕ} → is_marked c ≡ false → Member p (many ∷ xs) → Member (c ∷ p) (many ∷ xs)
  one_takes : {p : List (List ℕ)} {xs : List Part} {c : List ℕ} → is_marked c ≡ false → Member p xs → Member (c ∷ p) (one ∷ xs)
  marked_takes : {p : List (List ℕ)} {xs : List Part} {c : List ℕ} → is_marked c ≡ true → Member p xs → Member (c ∷ p) (marked c ∷ xs)
  plain_takes : {p : List (List ℕ)} {xs : List Part} {c : List ℕ} → is_marked c ≡ false → Member p xs → Member (c ∷ p) (plain c ∷ xs)

clash : {G : Type 0} (c : List ℕ) → is_marked c ≡ false → is_marked c ≡ true → G
clash c f g = absurd (false≢true (sym f ∙ g))

meet_of : {p : List (List ℕ)} {xs ys : List Part} → Member p xs → Member p ys → Meet xs ys
meet_of nothing nothing = ends
meet_of nothing (many_none n) = right_none (meet_of nothing n)
meet_of (many_none m) n = left_none (meet_of m n)
meet_of (many_takes f m) (many_none n) = right_none (meet_of (many_takes f m) n)
meet_of (many_takes f m) (many_takes g n) = meet_of m n
meet_of (many_takes f m) (one_takes g n) = left_takes refl (meet_of m n)
meet_of (many_takes {c = c} f m) (marked_takes g n) = clash c f g
meet_of (many_takes f m) (plain_takes g n) = left_takes refl (meet_of m n)
meet_of (one_takes f m) (many_none n) = right_none (meet_of (one_takes f m) n)
meet_of (one_takes f m) (many_takes g n) = right_takes refl (meet_of m n)
meet_of (one_takes f m) (one_takes g n) = both refl (meet_of m n)
meet_of (one_takes {c = c} f m) (marked_takes g n) = clash c f g
meet_of (one_takes f m) (plain_takes g n) = both refl (meet_of m n)
meet_of (marked_takes f m) (many_none n) = right_none (meet_of (marked_takes f m) n)
meet_of (marked_takes {c = c} f m) (many_takes g n) = clash c g f
meet_of (marked_takes {c = c} f m) (one_takes g n) = clash c g f
meet_of (marked_takes {c = c} f m) (marked_takes g n) = both (nat_list_eq_equiv.refl c) (meet_of m n)
meet_of (marked_takes {c = c} f m) (plain_takes g n) = clash c g f
meet_of (plain_takes f m) (many_none n) = right_none (meet_of (plain_takes f m) n)
meet_of (plain_takes f m) (many_takes g n) = right_takes refl (meet_of m n)
meet_of (plain_takes f m) (one_takes g n) = both refl (meet_of m n)
meet_of (plain_takes {c = c} f m) (marked_takes g n) = clash c f g
meet_of (plain_takes {c = c} f m) (plain_takes g n) = both (nat_list_eq_equiv.refl c) (meet_of m n)

-- the other way: what meets has a plain member

-- the part stands for a chunk as `part_of` gives it, which is plain if it is no wildcard
abbrev sound : Part → Bool
sound many = true
sound one = true
sound (marked c) = is_marked c && is_plain_chunk c
sound (plain c) = not (is_marked c) && is_plain_chunk c

record Witness (xs ys : List Part) : Type 0 where
  list : List (List ℕ)
  are_plain : ArePlain list
  left : Member list xs
  right : Member list ys

swap : {xs ys : List Part} → Witness xs ys → Witness ys xs
swap w = record { list = w.list; are_plain = w.are_plain; left = w.right; right = w.left }

-- the chunk `a`
abbrev letter : List ℕ
letter = 97 ∷ []

letter-plain : is_plain_chunk letter ≡ true
unfolding is_forbidden
letter-plain = refl

and-true : (a b : Bool) → (a && b) ≡ true → (a ≡ true) × (b ≡ true)
and-true true b h = (refl, h)
and-true false b h = absurd (false≢true h)

and-both : (a b : Bool) → a ≡ true → b ≡ true → (a && b) ≡ true
and-both a b h g = rw (h, g) refl

not-true : (a : Bool) → not a ≡ true → a ≡ false
not-true true h = absurd (false≢true h)
not-true false h = refl

plain-cons : (c : List ℕ) (p : List (List ℕ)) → is_plain_chunk c ≡ true → ArePlain p → ArePlain (c ∷ p)
plain-cons c p h g = rw (h, g) refl

one_more : (xs ys : List Part) (y : Part) → is_free y ≡ true → sound y ≡ true → Witness (many ∷ xs) ys → Witness (many ∷ xs) (y ∷ ys)
one_more xs ys many f s w = record { list = w.list; are_plain = w.are_plain; left = w.left; right = many_none w.right }
one_more xs ys one f s w = record { list = letter ∷ w.list; are_plain = plain-cons letter w.list letter-plain w.are_plain; left = many_takes refl w.left; right = one_takes refl w.right }
one_more xs ys (marked c) f s w = absurd (false≢true f)
one_more xs ys (plain c) f s w =
    let t = and-true (not (is_marked c)) (is_plain_chunk c) s in
    let unmarked = not-true (is_marked c) t.0 in
    record { list = c ∷ w.list; are_plain = plain-cons c w.list t.1 w.are_plain; left = many_takes unmarked w.left; right = plain_takes unmarked w.right }

one_each : (xs ys : List Part) (x y : Part) → meets x y ≡ true → sound x ≡ true → sound y ≡ true → Witness xs ys → Witness (x ∷ xs) (y ∷ ys)
one_each xs ys many y e s t w = absurd (false≢true e)
one_each xs ys one many e s t w = absurd (false≢true e)
one_each xs ys one one e s t w = record { list = letter ∷ w.list; are_plain = plain-cons letter w.list letter-plain w.are_plain; left = one_takes refl w.left; right = one_takes refl w.right }
one_each xs ys one (marked d) e s t w = absurd (false≢true e)
one_each xs ys one (plain d) e s t w =
    let h = and-true (not (is_marked d)) (is_plain_chunk d) t in
    let unmarked = not-true (is_marked d) h.0 in
    record { list = d ∷ w.list; are_plain = plain-cons d w.list h.1 w.are_plain; left = one_takes unmarked w.left; right = plain_takes unmarked w.right }
one_each xs ys (marked c) many e s t w = absurd (false≢true e)
one_each xs ys (marked c) one e s t w = absurd (false≢true e)
one_each xs ys (marked c) (marked d) e s t w =
    let h = and-true (is_marked c) (is_plain_chunk c) s in
    rw (← same_text c d (sym e)) (record { list = c ∷ w.list; are_plain = plain-cons c w.list h.1 w.are_plain; left = marked_takes h.0 w.left; right = marked_takes h.0 w.right })
one_each xs ys (marked c) (plain d) e s t w = absurd (false≢true e)
one_each xs ys (plain c) many e s t w = absurd (false≢true e)
one_each xs ys (plain c) one e s t w =
    let h = and-true (not (is_marked c)) (is_plain_chunk c) s in
    let unmarked = not-true (is_marked c) h.0 in
    record { list = c ∷ w.list; are_plain = plain-cons c w.list h.1 w.are_plain; left = plain_takes unmarked w.left; right = one_takes unmarked w.right }
one_each xs ys (plain c) (marked d) e s t w = absurd (false≢true e)
one_each xs ys (plain c) (plain d) e s t w =
    let h = and-true (not (is_marked c)) (is_plain_chunk c) s in
    let unmarked = not-true (is_marked c) h.0 in
    rw (← same_text c d (sym e)) (record { list = c ∷ w.list; are_plain = plain-cons c w.list h.1 w.are_plain; left = plain_takes unmarked w.left; right = plain_takes unmarked w.right })

abbrev Sound : List Part → Type 0
Sound xs = list_all sound xs ≡ true

witness : {xs ys : List Part} → Meet xs ys → Sound xs → Sound ys → Witness xs ys
witness ends s t = record { list = []; are_plain = refl; left = nothing; right = nothing }
witness (left_none m) s t = let w = witness m s t in record { list = w.list; are_plain = w.are_plain; left = many_none w.left; right = w.right }
witness (left_takes {xs = xs} {ys = ys} {y = y} f m) s t = let h = and-true (sound y) (list_all sound ys) t in one_more xs ys y f h.0 (witness m s h.1)
witness (right_none m) s t = let w = witness m s t in record { list = w.list; are_plain = w.are_plain; left = w.left; right = many_none w.right }
witness (right_takes {xs = xs} {ys = ys} {x = x} f m) s t = let h = and-true (sound x) (list_all sound xs) s in swap (one_more ys xs x f h.0 (swap (witness m h.1 t)))
witness (both {xs = xs} {ys = ys} {x = x} {y = y} e m) s t =
    let h = and-true (sound x) (list_all sound xs) s in
    let g = and-true (sound y) (list_all sound ys) t in
    one_each xs ys x y e h.0 g.0 (witness m h.1 g.1)

-- membership in the words of the contract

to-many : {xs : List Part} (taken left : List (List ℕ)) → AreFree taken → Member left xs → Member (taken ++ left) (many ∷ xs)
to-many [] left f m = many_none m
to-many (c ∷ taken) left f m = by_test (is_marked c) (λ e. absurd (false≢true (sym (rw e at f)))) (λ e. many_takes e (to-many taken left (rw e at f) m))

to-one : {xs : List Part} (taken left : List (List ℕ)) → AreFree taken → length taken ≡ 1 → Member left xs → Member (taken ++ left) (one ∷ xs)
to-one [] left f l m = absurd (omega arith)
to-one (c ∷ []) left f l m = one_takes (by_test (is_marked c) (λ e. absurd (false≢true (sym (rw e at f)))) (λ e. e)) m
to-one (c ∷ d ∷ taken) left f l m = absurd (omega arith)

to-member : (es p : List (List ℕ)) → IsMember p es → Member p (map part_of es)
unfolding part_of
to-member [] p h = rw h nothing
to-member (e ∷ es) p h =
    let ih = to-member es h.1 h.4 in
    rw (h.2)
    (by_test (is_double e)
    (λ d. rw d (to-many h.0 h.1 (rw d at h.3) ih))
    (λ d. by_test (is_single e)
    (λ s. let t : AreFree h.0 × (length h.0 ≡ 1) = rw (d, s) at h.3 in rw (d, s) (to-one h.0 h.1 t.0 t.1 ih))
    (λ s. let t : h.0 ≡ e ∷ [] = rw (d, s) at h.3 in
    rw t (by_test (is_marked e) (λ m. rw (d, s, m) (marked_takes m ih)) (λ m. rw (d, s, m) (plain_takes m ih))))))

record Split (p : List (List ℕ)) (xs : List Part) : Type 0 where
  taken : List (List ℕ)
  left : List (List ℕ)
  joined : p ≡ taken ++ left
  free : AreFree taken
  rest : Member left xs

split : {p : List (List ℕ)} {xs : List Part} → Member p (many ∷ xs) → Split p xs
split (many_none {p = p} m) = record { taken = []; left = p; joined = refl; free = refl; rest = m }
split (many_takes {c = c} f m) = let s = split m in record { taken = c ∷ s.taken; left = s.left; joined = ap (λ q. c ∷ q) s.joined; free = rw f s.free; rest = s.rest }

single-split : {p : List (List ℕ)} {xs : List Part} → Member p (one ∷ xs) → (c : List ℕ) × (left : List (List ℕ)) × (p ≡ c ∷ left) × (is_marked c ≡ false) × Member left xs
single-split (one_takes {p = p} {c = c} f m) = (c, p, refl, f, m)

marked-split : {p : List (List ℕ)} {xs : List Part} {e : List ℕ} → Member p (marked e ∷ xs) → (left : List (List ℕ)) × (p ≡ e ∷ left) × Member left xs
marked-split (marked_takes {p = p} f m) = (p, refl, m)

plain-split : {p : List (List ℕ)} {xs : List Part} {e : List ℕ} → Member p (plain e ∷ xs) → (left : List (List ℕ)) × (p ≡ e ∷ left) × Member left xs
plain-split (plain_takes {p = p} f m) = (p, refl, m)

none-left : {p : List (List ℕ)} → Member p [] → p ≡ []
none-left nothing = refl

from-double : (e : List ℕ) (es p taken left : List (List ℕ)) → is_double e ≡ true → p ≡ taken ++ left → AreFree taken → IsMember left es → IsMember p (e ∷ es)
from-double e es p taken left d j f m = (taken, left, j, rw d f, m)

from-single : (e : List ℕ) (es p : List (List ℕ)) (c : List ℕ) (left : List (List ℕ)) → is_double e ≡ false → is_single e ≡ true → p ≡ c ∷ left → is_marked c ≡ false → IsMember left es → IsMember p (e ∷ es)
from-single e es p c left d s j f m = (c ∷ [], left, j, rw (d, s) (rw f refl, refl), m)

from-other : (e : List ℕ) (es p left : List (List ℕ)) → is_double e ≡ false → is_single e ≡ false → p ≡ e ∷ left → IsMember left es → IsMember p (e ∷ es)
from-other e es p left d s j m = (e ∷ [], left, j, rw (d, s) refl, m)

from-member : (es p : List (List ℕ)) → Member p (map part_of es) → IsMember p es
unfolding part_of
from-member [] p m = none-left m
from-member (e ∷ es) p m =
    by_test (is_double e)
    (λ d. let s : Split p (map part_of es) = split (rw d at m) in from-double e es p s.taken s.left d s.joined s.free (from-member es s.left s.rest))
    (λ d. by_test (is_single e)
    (λ s. let w = single-split (rw (d, s) at m) in from-single e es p w.0 w.1 d s w.2 w.3 (from-member es w.1 w.4))
    (λ s. by_test (is_marked e)
    (λ k. let w = marked-split (rw (d, s, k) at m) in from-other e es p w.0 d s w.1 (from-member es w.0 w.2))
    (λ k. let w = plain-split (rw (d, s, k) at m) in from-other e es p w.0 d s w.1 (from-member es w.0 w.2))))

-- the chunks of a key expression stand for sound parts

good-plain : (c : List ℕ) → is_good_chunk c ≡ true → is_double c ≡ false → is_single c ≡ false → is_plain_chunk c ≡ true
good-plain c h d s =
    by_test (list_any is_star c)
    (λ e.
    let w = and-true (not (is_empty c) && not (list_any is_forbidden c)) (not (list_any is_star c) || is_wild c) h in
    absurd (false≢true (rw (e, s, d) at w.1)))
    (λ e. and-both (is_good_chunk c) (not (list_any is_star c)) h (rw e refl))

sound-part : (c : List ℕ) → is_good_chunk c ≡ true → sound (part_of c) ≡ true
unfolding part_of
sound-part c h =
    by_test (is_double c)
    (λ d. rw d refl)
    (λ d. by_test (is_single c)
    (λ s. rw (d, s) refl)
    (λ s. by_test (is_marked c)
    (λ k. rw (d, s, k) (rw k (good-plain c h d s)))
    (λ k. rw (d, s, k) (rw k (good-plain c h d s)))))

sound-parts : (es : List (List ℕ)) → list_all is_good_chunk es ≡ true → Sound (map part_of es)
sound-parts [] h = refl
sound-parts (e ∷ es) h = let w = and-true (is_good_chunk e) (list_all is_good_chunk es) h in rw (sound-part e w.0) (sound-parts es w.1)

pub intersect-from : (es fs : List (List ℕ)) → list_all is_good_chunk es ≡ true → list_all is_good_chunk fs ≡ true → parts_match (map part_of es) (map part_of fs) ≡ true → Intersect es fs
intersect-from es fs ga gb h =
    let w = witness (match-to (map part_of es) (map part_of fs) h) (sound-parts es ga) (sound-parts fs gb) in
    (w.list, w.are_plain, from-member es w.list w.left, from-member fs w.list w.right)

pub intersect-to : (es fs : List (List ℕ)) → Intersect es fs → parts_match (map part_of es) (map part_of fs) ≡ true
intersect-to es fs h = match-from (meet_of (to-member es h.0 h.2) (to-member fs h.0 h.3))

-- key expressions match exactly if they intersect
pub matching-intersect : (a b : Expression) → IsTrue (matching a b) ↔ Intersect (chunks a.bytes) (chunks b.bytes)
unfolding matching
matching-intersect a b =
    (intersect-from (chunks a.bytes) (chunks b.bytes) (good_chunks a.bytes a.valid) (good_chunks b.bytes b.valid), intersect-to (chunks a.bytes) (chunks b.bytes))
