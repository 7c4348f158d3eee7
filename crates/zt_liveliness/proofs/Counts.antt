-- What is written down of sessions, as calls change it.
use Rattle.std.proofs.Common.{◌≡◌, ℕ, ◌+◌, ◌≤◌, ◌==◌, ◌||◌, Bool, true, false, not, if◌then◌else◌, Option, Some, None, option_map, List, [], ◌∷◌, ◌++◌, filter, refl, sym, ap, subst, ◌∙◌, arith, eqb-true, eq-eqb}
use Rattle.std.specs.Option.{is_some}
use Rattle.zt_laws.proofs.Lists.{by_test, never}
use Rattle.zt_liveliness.specs.Books.{find_session, with_interest_made, with_session, with_token_made, without_session}
use Rattle.zt_liveliness.specs.declared.books.Session.{Session}

abbrev pub interests_of : Option Session → ℕ
interests_of o = elim o [ None ↦ 0 | Some s ↦ s.interests ]

-- how many interests were made on a session
abbrev pub made_on : ℕ → List Session → ℕ
made_on n sessions = interests_of (find_session n sessions)

-- ---- one more session

pub found_appended : (n : ℕ) (x : Session) (ss : List Session) → is_some (find_session n (ss ++ x ∷ [])) ≡ (is_some (find_session n ss) || (n == x.number))
found_appended n x [] = by_test (n == x.number) (λ own. rw own refl) (λ own. rw own refl)
found_appended n x (s ∷ ss) = by_test (n == s.number) (λ own. rw own refl) (λ own. rw own (found_appended n x ss))

pub made_appended : (n : ℕ) (x : Session) (ss : List Session) → x.interests ≡ 0 → made_on n (ss ++ x ∷ []) ≡ made_on n ss
made_appended n x [] none = alone (n == x.number)
  where
    alone : (b : Bool) → interests_of (if b then Some x else None) ≡ 0
    alone true = none
    alone false = refl
made_appended n x (s ∷ ss) none = behind (made_appended n x ss none) (n == s.number)
  where
    behind : made_on n (ss ++ x ∷ []) ≡ made_on n ss → (b : Bool) → interests_of (if b then Some s else find_session n (ss ++ x ∷ [])) ≡ interests_of (if b then Some s else find_session n ss)
    behind later true = refl
    behind later false = later

-- ---- one session changes

pub found_changed : (n k : ℕ) (change : Session → Session) (ss : List Session) → ((s : Session) → (change s).number ≡ s.number)
    → find_session n (with_session k change ss) ≡ (if n == k then option_map change (find_session n ss) else find_session n ss)
found_changed n k change [] keeps = by_test (n == k) (λ own. rw own refl) (λ own. rw own refl)
found_changed n k change (s ∷ ss) keeps =
    by_test (k == s.number)
    (λ here. by_test (n == k)
    (λ own.
    let mine : (n == s.number) ≡ true = eq-eqb n s.number (eqb-true n k own ∙ eqb-true k s.number here) in
    let still : (n == (change s).number) ≡ true = ap (λ m. n == m) (keeps s) ∙ mine in
    rw (here, own, mine, still) refl)
    (λ own.
    let other : (n == s.number) ≡ false = by_test (n == s.number) (λ there. never (eq-eqb n k (eqb-true n s.number there ∙ sym (eqb-true k s.number here))) own) (λ there. there) in
    let still : (n == (change s).number) ≡ false = ap (λ m. n == m) (keeps s) ∙ other in
    rw (here, own, other, still) refl))
    (λ here. by_test (n == s.number)
    (λ mine.
    let other : (n == k) ≡ false = by_test (n == k) (λ there. never (eq-eqb k s.number (sym (eqb-true n k there) ∙ eqb-true n s.number mine)) here) (λ there. there) in
    rw (here, mine, other) refl)
    (λ mine. rw (here, mine) (found_changed n k change ss keeps)))

some_map : {A B : Type 0} (f : A → B) (o : Option A) → is_some (option_map f o) ≡ is_some o
some_map f None = refl
some_map f (Some x) = refl

pub there_changed : (n k : ℕ) (change : Session → Session) (ss : List Session) → ((s : Session) → (change s).number ≡ s.number)
    → is_some (find_session n (with_session k change ss)) ≡ is_some (find_session n ss)
there_changed n k change ss keeps =
    ap is_some (found_changed n k change ss keeps) ∙ by_test (n == k) (λ own. rw own (some_map change (find_session n ss))) (λ own. rw own refl)

-- a token more
pub made_with_token : (n k : ℕ) (ss : List Session) → made_on n (with_session k with_token_made ss) ≡ made_on n ss
made_with_token n k ss = ap interests_of (found_changed n k with_token_made ss (λ s. refl)) ∙ either (n == k)
  where
    one : (o : Option Session) → interests_of (option_map with_token_made o) ≡ interests_of o
    one None = refl
    one (Some s) = refl

    either : (b : Bool) → interests_of (if b then option_map with_token_made (find_session n ss) else find_session n ss) ≡ made_on n ss
    either true = one (find_session n ss)
    either false = refl

-- an interest more
pub made_with_interest : (n k : ℕ) (ss : List Session) → made_on n ss ≤ made_on n (with_session k with_interest_made ss)
made_with_interest n k ss = subst (λ (o : Option Session). made_on n ss ≤ interests_of o) (sym (found_changed n k with_interest_made ss (λ s. refl))) (either (n == k))
  where
    one : (o : Option Session) → interests_of o ≤ interests_of (option_map with_interest_made o)
    one None = omega arith
    one (Some s) = omega arith

    either : (b : Bool) → made_on n ss ≤ interests_of (if b then option_map with_interest_made (find_session n ss) else find_session n ss)
    either true = one (find_session n ss)
    either false = omega arith

pub made_one_more : (k : ℕ) (ss : List Session) → is_some (find_session k ss) ≡ true → made_on k (with_session k with_interest_made ss) ≡ made_on k ss + 1
made_one_more k ss there = ap interests_of (found_changed k k with_interest_made ss (λ s. refl)) ∙ rw (eq-eqb k k refl) (one (find_session k ss) there)
  where
    one : (o : Option Session) → is_some o ≡ true → interests_of (option_map with_interest_made o) ≡ interests_of o + 1
    one None some = never some refl
    one (Some s) some = refl

-- ---- a session closes

pub found_without : (n k : ℕ) (ss : List Session) → (k == n) ≡ false → find_session n (without_session k ss) ≡ find_session n ss
found_without n k [] other = refl
found_without n k (s ∷ ss) other =
    by_test (n == s.number)
    (λ own.
    let apart : (k == s.number) ≡ false = by_test (k == s.number) (λ there. never (eq-eqb k n (eqb-true k s.number there ∙ sym (eqb-true n s.number own))) other) (λ there. there) in
    rw (apart, own) refl)
    (λ own. by_test (k == s.number) (λ gone. rw (gone, own) (found_without n k ss other)) (λ gone. rw (gone, own) (found_without n k ss other)))

gone_without : (k : ℕ) (ss : List Session) → find_session k (without_session k ss) ≡ None
gone_without k [] = refl
gone_without k (s ∷ ss) = by_test (k == s.number) (λ gone. rw gone (gone_without k ss)) (λ gone. rw (gone, gone) (gone_without k ss))

-- one that is left is another
pub left_without : (n k : ℕ) (ss : List Session) → is_some (find_session n (without_session k ss)) ≡ true → (k == n) ≡ false
left_without n k ss there =
    by_test (k == n)
    (λ same_. never there (subst (λ (m : ℕ). is_some (find_session m (without_session k ss)) ≡ false) (eqb-true k n same_) (rw (gone_without k ss) refl)))
    (λ same_. same_)
