-- Key expressions that match and both have a number at an anchor have the same one there.
use Rattle.std.specs.Prelude.{◌≡◌, ℕ, Bool, true, false, ◌||◌, ◌==◌, List, [], ◌∷◌, ◌++◌, map, Option, Some, None, refl}
use Rattle.std.specs.List.{list_any, onto_first, join_with_byte}
use Rattle.std.specs.Cmp.Lexicographic.{same_text}
use Rattle.std.proofs.Common.{ap, sym, ◌∙◌, eqb}
use Rattle.std.proofs.lemmas.Bool.{false≢true, eqb-true}
use Rattle.std.proofs.lemmas.List.Folds.{list_any-append}
use Rattle.std.proofs.lemmas.List.Splits.{slice_split-cons_yes, slice_split-cons_no, join_with_byte-slice_split}
use Rattle.zt_keys.specs.declared.anchor.Anchor.{Anchor}
use Rattle.zt_keys.specs.declared.anchor.Anchor.TheVariants.{Whole, First, FirstTwo, Last}
use Rattle.zt_keys.specs.Test.{by_test}
use Rattle.zt_keys.specs.Chunks.{chunks, is_star, is_double, is_single}
use Rattle.zt_keys.specs.Expression.{Expression, same_expression}
use Rattle.zt_keys.specs.Parts.{Part, many, one, marked, plain, part_of, is_marked, meets}
use Rattle.zt_keys.specs.Matching.{matching, parts}
use Rattle.zt_keys.specs.Meet.{Meet, left_none, left_takes, right_none, right_takes, both, flip, match-to}
use Rattle.zt_keys.specs.Anchors.{anchored, number_of, first_chunk, first_two, last_chunk, last_from}

abbrev is_slash : ℕ → Bool
is_slash b = b == 47

any-onto_first : (p : ℕ → Bool) (b : ℕ) (parts : List (List ℕ)) → list_any (list_any p) (onto_first b parts) ≡ (p b || list_any (list_any p) parts)
any-onto_first p b [] = by_test (p b) (λ e. rw e refl) (λ e. rw e refl)
any-onto_first p b (part ∷ parts) = by_test (p b) (λ e. rw e refl) (λ e. rw e refl)

-- some byte of the chunks passes a test that `/` fails exactly if one of the text does
pub any-chunks : (p : ℕ → Bool) → p 47 ≡ false → (text : List ℕ) → list_any (list_any p) (chunks text) ≡ list_any p text
any-chunks p h [] = refl
any-chunks p h (b ∷ text) =
    by_test (eqb b 47)
    (λ e. let f : p b ≡ false = rw (eqb-true b 47 e) h in rw (slice_split-cons_yes is_slash b text e, f) (any-chunks p h text))
    (λ e. rw (slice_split-cons_no is_slash b text e, any-onto_first p b (chunks text)) (ap (λ t. p b || t) (any-chunks p h text)))

-- a text that has a number has no `*`

pub starless : (text : List ℕ) (m : ℕ) → number_of text ≡ Some m → list_any is_star text ≡ false
starless text m e = by_test (list_any is_star text) (λ s. let f : None ≡ Some m = rw s at e in cc) (λ s. s)

-- what a part without wildcards stands for
abbrev text_of : Part → Option (List ℕ)
text_of many = None
text_of one = None
text_of (marked chunk) = Some chunk
text_of (plain chunk) = Some chunk

pub starless-single : (c : List ℕ) → list_any is_star c ≡ false → is_single c ≡ false
starless-single [] h = refl
starless-single (a ∷ []) h = by_test (is_star a) (λ e. absurd (false≢true (sym (rw e at h)))) (λ e. e)
starless-single (a ∷ b ∷ c) h = refl

pub starless-double : (c : List ℕ) → list_any is_star c ≡ false → is_double c ≡ false
starless-double [] h = refl
starless-double (a ∷ []) h = refl
starless-double (a ∷ b ∷ []) h = by_test (is_star a) (λ e. absurd (false≢true (sym (rw e at h)))) (λ e. rw e refl)
starless-double (a ∷ b ∷ c ∷ d) h = refl

text_of-part : (c : List ℕ) → list_any is_star c ≡ false → text_of (part_of c) ≡ Some c
unfolding part_of
text_of-part c h = rw (starless-double c h, starless-single c h) (by_test (is_marked c) (λ e. rw e refl) (λ e. rw e refl))

meets-text : (x y : Part) (c d : List ℕ) → meets x y ≡ true → text_of x ≡ Some c → text_of y ≡ Some d → c ≡ d
meets-text many y c d h e f = cc
meets-text one y c d h e f = cc
meets-text (marked x) many c d h e f = cc
meets-text (marked x) one c d h e f = cc
meets-text (marked x) (marked y) c d h e f = let g = same_text x y (sym h) in cc
meets-text (marked x) (plain y) c d h e f = absurd (false≢true h)
meets-text (plain x) many c d h e f = cc
meets-text (plain x) one c d h e f = cc
meets-text (plain x) (marked y) c d h e f = absurd (false≢true h)
meets-text (plain x) (plain y) c d h e f = let g = same_text x y (sym h) in cc

-- parts at the front of what meets

meet-next : {xs ys : List Part} {x y : Part} (c d : List ℕ) → Meet (x ∷ xs) (y ∷ ys) → text_of x ≡ Some c → text_of y ≡ Some d → (c ≡ d) × Meet xs ys
meet-next c d (left_none m) e f = cc
meet-next c d (left_takes g m) e f = cc
meet-next c d (right_none m) e f = cc
meet-next c d (right_takes g m) e f = cc
meet-next c d (both {x = x} {y = y} g m) e f = (meets-text x y c d g e f, m)

-- nothing meets only `**`
meet-nothing : {xs : List Part} {x : Part} (c : List ℕ) → Meet (x ∷ xs) [] → text_of x ≡ Some c → ⊥
meet-nothing c (left_none m) e = cc

-- parts at the end of what meets

abbrev last_text_from : Part → List Part → Option (List ℕ)
last_text_from x [] = text_of x
last_text_from x (y ∷ ys) = last_text_from y ys

meet-nothing-last : (x : Part) (xs : List Part) (c : List ℕ) → Meet (x ∷ xs) [] → last_text_from x xs ≡ Some c → ⊥
meet-nothing-last x [] c m e = meet-nothing c m e
meet-nothing-last x (y ∷ ys) c (left_none m) e = meet-nothing-last y ys c m e

meet-last : {xs ys : List Part} {x y : Part} (c d : List ℕ) → Meet (x ∷ xs) (y ∷ ys) → last_text_from x xs ≡ Some c → last_text_from y ys ≡ Some d → c ≡ d
meet-last c d (left_none {xs = []} m) e f = cc
meet-last c d (left_none {xs = x ∷ xs} m) e f = meet-last c d m e f
meet-last c d (left_takes {xs = xs} {ys = []} g m) e f = absurd (meet-nothing-last many xs c m e)
meet-last c d (left_takes {ys = y ∷ ys} g m) e f = meet-last c d m e f
meet-last c d (right_none {ys = []} m) e f = cc
meet-last c d (right_none {ys = y ∷ ys} m) e f = meet-last c d m e f
meet-last c d (right_takes {xs = []} {ys = ys} g m) e f = absurd (meet-nothing-last many ys d (flip m) f)
meet-last c d (right_takes {xs = x ∷ xs} g m) e f = meet-last c d m e f
meet-last c d (both {xs = []} {ys = []} {x = x} {y = y} g m) e f = meets-text x y c d g e f
meet-last c d (both {xs = []} {ys = y ∷ ys} g m) e f = absurd (meet-nothing-last y ys d (flip m) f)
meet-last c d (both {xs = x ∷ xs} {ys = []} g m) e f = absurd (meet-nothing-last x xs c m e)
meet-last c d (both {xs = x ∷ xs} {ys = y ∷ ys} g m) e f = meet-last c d m e f

-- the same of chunks

abbrev pub Starless : List (List ℕ) → Type 0
Starless es = list_any (list_any is_star) es ≡ false

pub or-false : (a b : Bool) → (a || b) ≡ false → (a ≡ false) × (b ≡ false)
or-false true b h = absurd (false≢true (sym h))
or-false false b h = (refl, h)

meet-whole : (es fs : List (List ℕ)) → Starless es → Starless fs → Meet (map part_of es) (map part_of fs) → es ≡ fs
meet-whole [] [] s t m = refl
meet-whole [] (f ∷ fs) s t m =
    let v = or-false (list_any is_star f) (list_any (list_any is_star) fs) t in
    absurd (meet-nothing f (flip m) (text_of-part f v.0))
meet-whole (e ∷ es) [] s t m =
    let u = or-false (list_any is_star e) (list_any (list_any is_star) es) s in
    absurd (meet-nothing e m (text_of-part e u.0))
meet-whole (e ∷ es) (f ∷ fs) s t m =
    let u = or-false (list_any is_star e) (list_any (list_any is_star) es) s in
    let v = or-false (list_any is_star f) (list_any (list_any is_star) fs) t in
    let w = meet-next e f m (text_of-part e u.0) (text_of-part f v.0) in
    let same = meet-whole es fs u.1 v.1 w.1 in
    let head : e ≡ f = w.0 in
    cc

meet-first : (es fs : List (List ℕ)) → list_any is_star (first_chunk es) ≡ false → list_any is_star (first_chunk fs) ≡ false → Meet (map part_of es) (map part_of fs) → first_chunk es ≡ first_chunk fs
meet-first [] [] s t m = refl
meet-first [] (f ∷ fs) s t m = absurd (meet-nothing f (flip m) (text_of-part f t))
meet-first (e ∷ es) [] s t m = absurd (meet-nothing e m (text_of-part e s))
meet-first (e ∷ es) (f ∷ fs) s t m = (meet-next e f m (text_of-part e s) (text_of-part f t)).0

second-starless : (e d : List ℕ) → list_any is_star (e ++ 47 ∷ d) ≡ false → (list_any is_star e ≡ false) × (list_any is_star d ≡ false)
second-starless e d h = or-false (list_any is_star e) (list_any is_star d) (sym (list_any-append is_star e (47 ∷ d)) ∙ h)

first-starless : (e : List ℕ) (es : List (List ℕ)) → list_any is_star (first_two (e ∷ es)) ≡ false → list_any is_star e ≡ false
first-starless e [] h = h
first-starless e (d ∷ es) h = (second-starless e d h).0

-- where one list ends after its first chunk and the other goes on with a plain one, they don't meet
meet-first_two : (es fs : List (List ℕ)) → list_any is_star (first_two es) ≡ false → list_any is_star (first_two fs) ≡ false → Meet (map part_of es) (map part_of fs) → first_two es ≡ first_two fs
meet-first_two [] [] s t m = refl
meet-first_two [] (f ∷ fs) s t m = absurd (meet-nothing f (flip m) (text_of-part f (first-starless f fs t)))
meet-first_two (e ∷ es) [] s t m = absurd (meet-nothing e m (text_of-part e (first-starless e es s)))
meet-first_two (e ∷ []) (f ∷ []) s t m = (meet-next e f m (text_of-part e s) (text_of-part f t)).0
meet-first_two (e ∷ []) (f ∷ g ∷ fs) s t m =
    let v = second-starless f g t in
    let rest = (meet-next e f m (text_of-part e s) (text_of-part f v.0)).1 in
    absurd (meet-nothing g (flip rest) (text_of-part g v.1))
meet-first_two (e ∷ d ∷ es) (f ∷ []) s t m =
    let u = second-starless e d s in
    let rest = (meet-next e f m (text_of-part e u.0) (text_of-part f t)).1 in
    absurd (meet-nothing d rest (text_of-part d u.1))
meet-first_two (e ∷ d ∷ es) (f ∷ g ∷ fs) s t m =
    let u = second-starless e d s in
    let v = second-starless f g t in
    let first = meet-next e f m (text_of-part e u.0) (text_of-part f v.0) in
    let second = meet-next d g first.1 (text_of-part d u.1) (text_of-part g v.1) in
    let head : e ≡ f = first.0 in
    let next : d ≡ g = second.0 in
    cc

last_text_from-parts : (e : List ℕ) (es : List (List ℕ)) → list_any is_star (last_from e es) ≡ false → last_text_from (part_of e) (map part_of es) ≡ Some (last_from e es)
last_text_from-parts e [] h = text_of-part e h
last_text_from-parts e (d ∷ es) h = last_text_from-parts d es h

meet-last_chunk : (es fs : List (List ℕ)) → list_any is_star (last_chunk es) ≡ false → list_any is_star (last_chunk fs) ≡ false → Meet (map part_of es) (map part_of fs) → last_chunk es ≡ last_chunk fs
meet-last_chunk [] [] s t m = refl
meet-last_chunk [] (f ∷ fs) s t m = absurd (meet-nothing-last _ _ _ (flip m) (last_text_from-parts f fs t))
meet-last_chunk (e ∷ es) [] s t m = absurd (meet-nothing-last _ _ _ m (last_text_from-parts e es s))
meet-last_chunk (e ∷ es) (f ∷ fs) s t m = meet-last _ _ m (last_text_from-parts e es s) (last_text_from-parts f fs t)

same_number : (s t : List ℕ) (m n : ℕ) → number_of s ≡ Some m → number_of t ≡ Some n → s ≡ t → m ≡ n
same_number s t m n e f g =
    let h = ap number_of g in
    let k : Some m ≡ Some n = sym e ∙ h ∙ f in
    cc

pub is_star-slash : is_star 47 ≡ false
is_star-slash = refl

same_chunks : (s t : List ℕ) → chunks s ≡ chunks t → s ≡ t
same_chunks s t e = sym (join_with_byte-slice_split 47 s) ∙ ap (join_with_byte 47) e ∙ join_with_byte-slice_split 47 t

same-whole : (s t : List ℕ) (m n : ℕ) → Meet (parts s) (parts t) → number_of s ≡ Some m → number_of t ≡ Some n → s ≡ t
same-whole s t m n h e f =
    let u : Starless (chunks s) = any-chunks is_star is_star-slash s ∙ starless s m e in
    let v : Starless (chunks t) = any-chunks is_star is_star-slash t ∙ starless t n f in
    same_chunks s t (meet-whole (chunks s) (chunks t) u v h)

agree-whole : (s t : List ℕ) (m n : ℕ) → Meet (parts s) (parts t) → number_of s ≡ Some m → number_of t ≡ Some n → m ≡ n
agree-whole s t m n h e f = same_number s t m n e f (same-whole s t m n h e f)

agree-first : (s t : List ℕ) (m n : ℕ) → Meet (parts s) (parts t) → number_of (first_chunk (chunks s)) ≡ Some m → number_of (first_chunk (chunks t)) ≡ Some n → m ≡ n
agree-first s t m n h e f =
    same_number (first_chunk (chunks s)) (first_chunk (chunks t)) m n e f
    (meet-first (chunks s) (chunks t) (starless (first_chunk (chunks s)) m e) (starless (first_chunk (chunks t)) n f) h)

agree-first_two : (s t : List ℕ) (m n : ℕ) → Meet (parts s) (parts t) → number_of (first_two (chunks s)) ≡ Some m → number_of (first_two (chunks t)) ≡ Some n → m ≡ n
agree-first_two s t m n h e f =
    same_number (first_two (chunks s)) (first_two (chunks t)) m n e f
    (meet-first_two (chunks s) (chunks t) (starless (first_two (chunks s)) m e) (starless (first_two (chunks t)) n f) h)

agree-last : (s t : List ℕ) (m n : ℕ) → Meet (parts s) (parts t) → number_of (last_chunk (chunks s)) ≡ Some m → number_of (last_chunk (chunks t)) ≡ Some n → m ≡ n
agree-last s t m n h e f =
    same_number (last_chunk (chunks s)) (last_chunk (chunks t)) m n e f
    (meet-last_chunk (chunks s) (chunks t) (starless (last_chunk (chunks s)) m e) (starless (last_chunk (chunks t)) n f) h)

-- key expressions that match have the same number at an anchor where both have one
pub anchors_agree : (at : Anchor) (a b : Expression) (m n : ℕ) → matching a b ≡ true → anchored at a ≡ Some m → anchored at b ≡ Some n → m ≡ n
unfolding matching anchored
anchors_agree Whole a b m n h e f = agree-whole a.bytes b.bytes m n (match-to (parts a.bytes) (parts b.bytes) h) e f
anchors_agree First a b m n h e f = agree-first a.bytes b.bytes m n (match-to (parts a.bytes) (parts b.bytes) h) e f
anchors_agree FirstTwo a b m n h e f = agree-first_two a.bytes b.bytes m n (match-to (parts a.bytes) (parts b.bytes) h) e f
anchors_agree Last a b m n h e f = agree-last a.bytes b.bytes m n (match-to (parts a.bytes) (parts b.bytes) h) e f

-- key expressions that match and have no wildcard are the same
pub plain_is_same : (a b : Expression) (m n : ℕ) → matching a b ≡ true → anchored Whole a ≡ Some m → anchored Whole b ≡ Some n → a ≡ b
unfolding matching anchored
plain_is_same a b m n h e f = same_expression a b (same-whole a.bytes b.bytes m n (match-to (parts a.bytes) (parts b.bytes) h) e f)
