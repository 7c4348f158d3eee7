-- Two expressions meet: a relation that `parts_match` tests.
use Rattle.std.specs.Prelude.{◌≡◌, true, false, List, [], ◌∷◌, refl}
use Rattle.std.specs.Cmp.Lexicographic.{nat_list_eq_equiv}
use Rattle.std.proofs.Common.{sym, ◌∙◌}
use Rattle.std.proofs.lemmas.Bool.{false≢true}
use Rattle.zt_keys.specs.Test.{by_test}
use Rattle.zt_keys.specs.Parts.{Part, many, one, marked, plain, is_many, is_free, meets, parts_match, behind_many, behind_single}

-- a part at a time: `**` takes nothing, or takes what stands against it; other parts meet one by one
pub data Meet : List Part → List Part → Type 0 where
  ends : Meet [] []
  left_none : {xs ys : List Part} → Meet xs ys → Meet (many ∷ xs) ys
  left_takes : {xs ys : List Part} {y : Part} → is_free y ≡ true → Meet (many ∷ xs) ys → Meet (many ∷ xs) (y ∷ ys)
  right_none : {xs ys : List Part} → Meet xs ys → Meet xs (many ∷ ys)
  right_takes : {xs ys : List Part} {x : Part} → is_free x ≡ true → Meet xs (many ∷ ys) → Meet (x ∷ xs) (many ∷ ys)
  both : {xs ys : List Part} {x y : Part} → meets x y ≡ true → Meet xs ys → Meet (x ∷ xs) (y ∷ ys)

pub meets-sym : (x y : Part) → meets x y ≡ meets y x
meets-sym many many = refl
meets-sym many one = refl
meets-sym many (marked d) = refl
meets-sym many (plain d) = refl
meets-sym one many = refl
meets-sym one one = refl
meets-sym one (marked d) = refl
meets-sym one (plain d) = refl
meets-sym (marked c) many = refl
meets-sym (marked c) one = refl
meets-sym (marked c) (marked d) = nat_list_eq_equiv.symm c d
meets-sym (marked c) (plain d) = refl
meets-sym (plain c) many = refl
meets-sym (plain c) one = refl
meets-sym (plain c) (marked d) = refl
meets-sym (plain c) (plain d) = nat_list_eq_equiv.symm c d

-- parts that meet are both free or neither
pub meets-free : (x y : Part) → meets x y ≡ true → is_free x ≡ is_free y
meets-free many y e = absurd (false≢true e)
meets-free one many e = refl
meets-free one one e = refl
meets-free one (marked d) e = absurd (false≢true e)
meets-free one (plain d) e = refl
meets-free (marked c) many e = absurd (false≢true e)
meets-free (marked c) one e = absurd (false≢true e)
meets-free (marked c) (marked d) e = refl
meets-free (marked c) (plain d) e = absurd (false≢true e)
meets-free (plain c) many e = absurd (false≢true e)
meets-free (plain c) one e = refl
meets-free (plain c) (marked d) e = absurd (false≢true e)
meets-free (plain c) (plain d) e = refl

pub flip : {xs ys : List Part} → Meet xs ys → Meet ys xs
flip ends = ends
flip (left_none m) = right_none (flip m)
flip (left_takes f m) = right_takes f (flip m)
flip (right_none m) = left_none (flip m)
flip (right_takes f m) = left_takes f (flip m)
flip (both {x = x} {y = y} e m) = both (meets-sym y x ∙ e) (flip m)

-- `parts_match` tests `Meet`

match-left_none : (xs ys : List Part) → parts_match xs ys ≡ true → parts_match (many ∷ xs) ys ≡ true
unfolding parts_match
match-left_none xs [] h = h
match-left_none xs (y ∷ ys) h = rw h refl

match-left_takes : (xs ys : List Part) (y : Part) → is_free y ≡ true → parts_match (many ∷ xs) ys ≡ true → parts_match (many ∷ xs) (y ∷ ys) ≡ true
unfolding parts_match
match-left_takes xs ys y f h = by_test (parts_match xs (y ∷ ys)) (λ e. rw e refl) (λ e. rw (e, f) h)

match-right_none : (xs ys : List Part) → parts_match xs ys ≡ true → parts_match xs (many ∷ ys) ≡ true
unfolding parts_match
match-right_none [] ys h = h
match-right_none (x ∷ xs) ys h =
    by_test (is_many x)
    (λ e. rw e (by_test (parts_match xs (many ∷ ys)) (λ f. rw f refl) (λ f. rw f (rw e at h))))
    (λ e. rw e (rw (rw e at h) refl))

match-right_takes : (xs ys : List Part) (x : Part) → is_free x ≡ true → parts_match xs (many ∷ ys) ≡ true → parts_match (x ∷ xs) (many ∷ ys) ≡ true
unfolding parts_match
match-right_takes xs ys x f h =
    by_test (is_many x)
    (λ e. rw (e, h) refl)
    (λ e. rw e (by_test (behind_single (parts_match xs) x ys) (λ g. rw g refl) (λ g. rw (g, f) h)))

meets-single : (x y : Part) → meets x y ≡ true → is_many x ≡ false
meets-single many y e = absurd (false≢true e)
meets-single one y e = refl
meets-single (marked c) y e = refl
meets-single (plain c) y e = refl

match-both : (xs ys : List Part) (x y : Part) → meets x y ≡ true → parts_match xs ys ≡ true → parts_match (x ∷ xs) (y ∷ ys) ≡ true
unfolding parts_match
match-both xs ys x y e h = rw (meets-single x y e, meets-single y x (meets-sym y x ∙ e), e) h

match-ends : parts_match [] [] ≡ true
unfolding parts_match
match-ends = refl

pub match-from : {xs ys : List Part} → Meet xs ys → parts_match xs ys ≡ true
match-from ends = match-ends
match-from (left_none m) = match-left_none _ _ (match-from m)
match-from (left_takes f m) = match-left_takes _ _ _ f (match-from m)
match-from (right_none m) = match-right_none _ _ (match-from m)
match-from (right_takes f m) = match-right_takes _ _ _ f (match-from m)
match-from (both e m) = match-both _ _ _ _ e (match-from m)

to-behind_many : (xs : List Part) → ((ys : List Part) → parts_match xs ys ≡ true → Meet xs ys) → (ys : List Part) → behind_many (parts_match xs) ys ≡ true → Meet (many ∷ xs) ys
to-behind_many xs to [] h = left_none (to [] h)
to-behind_many xs to (y ∷ ys) h =
    by_test (parts_match xs (y ∷ ys)) (λ e. left_none (to (y ∷ ys) e))
    (λ e. by_test (is_free y) (λ f. left_takes f (to-behind_many xs to ys (rw (e, f) at h))) (λ f. absurd (false≢true (rw (e, f) at h))))

pub is_many-true : (x : Part) → is_many x ≡ true → x ≡ many
is_many-true many e = refl
is_many-true one e = absurd (false≢true e)
is_many-true (marked c) e = absurd (false≢true e)
is_many-true (plain c) e = absurd (false≢true e)

to-behind_single : (xs : List Part) → ((ys : List Part) → parts_match xs ys ≡ true → Meet xs ys) → (x : Part) (ys : List Part) → behind_single (parts_match xs) x ys ≡ true → Meet (x ∷ xs) ys
to-behind_single xs to x [] h = absurd (false≢true h)
to-behind_single xs to x (y ∷ ys) h =
    by_test (is_many y)
    (λ e. rw (is_many-true y e)
    (by_test (behind_single (parts_match xs) x ys) (λ f. right_none (to-behind_single xs to x ys f))
    (λ f. by_test (is_free x) (λ g. right_takes g (to (many ∷ ys) (rw (is_many-true y e) at (rw (e, f, g) at h)))) (λ g. absurd (false≢true (rw (e, f, g) at h))))))
    (λ e. by_test (meets x y) (λ f. both f (to ys (rw (e, f) at h))) (λ f. absurd (false≢true (rw (e, f) at h))))

pub match-to : (xs ys : List Part) → parts_match xs ys ≡ true → Meet xs ys
unfolding parts_match
match-to [] [] h = ends
match-to [] (y ∷ ys) h =
    by_test (is_many y) (λ e. rw (is_many-true y e) (right_none (match-to [] ys (rw e at h)))) (λ e. absurd (false≢true (rw e at h)))
match-to (x ∷ xs) ys h =
    by_test (is_many x) (λ e. rw (is_many-true x e) (to-behind_many xs (match-to xs) ys (rw e at h))) (λ e. to-behind_single xs (match-to xs) x ys (rw e at h))

pub same_match : {xs ys us vs : List Part} → (Meet xs ys → Meet us vs) → (Meet us vs → Meet xs ys) → parts_match xs ys ≡ parts_match us vs
same_match {xs} {ys} {us} {vs} there back =
    by_test (parts_match xs ys)
    (λ e. e ∙ sym (match-from (there (match-to xs ys e))))
    (λ e. by_test (parts_match us vs) (λ f. absurd (false≢true (sym e ∙ match-from (back (match-to us vs f))))) (λ f. e ∙ sym f))

pub no_match : {xs ys : List Part} → (Meet xs ys → ⊥) → parts_match xs ys ≡ false
no_match {xs} {ys} never = by_test (parts_match xs ys) (λ e. absurd (never (match-to xs ys e))) (λ e. e)

pub parts_match-sym : (xs ys : List Part) → parts_match xs ys ≡ parts_match ys xs
parts_match-sym xs ys = same_match flip flip

pub meets-itself : (x : Part) → is_many x ≡ false → meets x x ≡ true
meets-itself many h = absurd (false≢true (sym h))
meets-itself one h = refl
meets-itself (marked c) h = nat_list_eq_equiv.refl c
meets-itself (plain c) h = nat_list_eq_equiv.refl c

meet-itself : (xs : List Part) → Meet xs xs
meet-itself [] = ends
meet-itself (x ∷ xs) = by_test (is_many x) (λ h. rw (is_many-true x h) (left_none (right_none (meet-itself xs)))) (λ h. both (meets-itself x h) (meet-itself xs))

pub parts_match-itself : (xs : List Part) → parts_match xs xs ≡ true
parts_match-itself xs = match-from (meet-itself xs)
