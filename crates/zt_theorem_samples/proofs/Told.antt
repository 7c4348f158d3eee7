-- What sessions were told, as messages change it.
use Rattle.std.proofs.Common.{◌≡◌, ℕ, Bool, true, false, not, ◌==◌, ◌&&◌, ◌||◌, Some, None, List, [], ◌∷◌, ◌++◌, filter, refl, sym, ap, ◌∙◌, eq-eqb, eqb-true}
use Rattle.std.proofs.Math.Bool.{or-false}
use Rattle.std.proofs.lemmas.Bool.{and_parts, or_parts}
use Rattle.std.specs.Cmp.{IsTotalOrder}
use Rattle.std.specs.List.{list_any}
use Rattle.std.specs.declared.cmp.Ordering.{Ordering}
use Rattle.std.specs.declared.cmp.Ordering.TheVariants.{Equal}
use Rattle.zt_model.specs.Lists.{same}
use Rattle.zt_protocol.specs.declared.messages.Message.{Message}
use Rattle.zt_protocol.specs.declared.messages.Message.TheVariants as message
use Rattle.zt_laws.proofs.Keys.{any_and, and_back, same_back, same_is, same_left}
use Rattle.zt_laws.proofs.Lists.{any-append, any-filter, any_alike, any_from_filter, any_weaker, by_test, fails_with, never}
use Rattle.zt_samples.specs.Samples.{has_told, keeps_beside, keeps_told, told_by, told_to, with_told, without_told_expr, without_told_id}
use Rattle.zt_samples.specs.declared.samples.Told.{Told}
use Rattle.zt_theorem_samples.specs.Replayed.{NoPairTwice}

-- ---- tests

pub or_true : (b : Bool) → (b || true) ≡ true
or_true true = refl
or_true false = refl

pub and_true : (b : Bool) → (b && true) ≡ b
and_true true = refl
and_true false = refl

pub and_none : (b : Bool) → (b && false) ≡ false
and_none true = refl
and_none false = refl

or_four : (a b c d : Bool) → ((a || b) || (c || d)) ≡ ((a || c) || (b || d))
or_four true b c d = refl
or_four false true true d = refl
or_four false true false d = refl
or_four false false c d = refl

any_or : {A : Type 0} (p q : A → Bool) (xs : List A) → list_any (λ x. p x || q x) xs ≡ (list_any p xs || list_any q xs)
any_or p q [] = refl
any_or p q (x ∷ xs) = ap (λ b. (p x || q x) || b) (any_or p q xs) ∙ or_four (p x) (q x) (list_any p xs) (list_any q xs)

-- a row of a session passes by its id or by another
split : (a b c : Bool) → (a && c) ≡ ((a && (not b && c)) || (a && (b && c)))
split true true c = refl
split true false true = refl
split true false false = refl
split false b c = refl

-- a row that another id isn't taken away with
beside : (a b c : Bool) → (not (a && b) && (a && c)) ≡ (a && (not b && c))
beside true true c = refl
beside true false c = refl
beside false b c = refl

-- rows of another session
apart : (a b c d : Bool) → (a && b) ≡ false → (not (a && c) && (b && d)) ≡ (b && d)
apart true true c d is = cc
apart true false c d is = and_none (not c)
apart false b c d is = refl

pub neither : (a b c : Bool) → (a && b) ≡ false → (a && (b && c)) ≡ false
neither true true c is = cc
neither true false c is = refl
neither false b c is = refl

pub or_left_none : (a b : Bool) → a ≡ false → (a || b) ≡ b
or_left_none true b is = cc
or_left_none false b is = refl

-- one row, by what it is of
shuffled : (a b c : Bool) → (not (a && b) && (a && c)) ≡ (not b && (a && c))
shuffled true b c = refl
shuffled false b c = sym (and_none (not b))

nothing : (a b c : Bool) → (b && (a && false)) ≡ (c && (a && false))
nothing true b c = and_none b ∙ sym (and_none c)
nothing false b c = and_none b ∙ sym (and_none c)

-- two numbers are not both one
not_both : (n k s : ℕ) → (n == k) ≡ false → ((k == s) && (n == s)) ≡ false
not_both n k s other =
    by_test (k == s)
    (λ one. by_test (n == s) (λ two. never (eq-eqb n k (eqb-true n s two ∙ sym (eqb-true k s one))) other) (λ two. rw (one, two) refl))
    (λ one. rw one refl)

module _ {K : Type 0} (cmp : K → K → Ordering) where
  -- what a session keeps, it keeps by an id or by another
  pub keeps_split : (n id : ℕ) (e : K) (ts : List (Told K)) → keeps_told cmp n e ts ≡ (keeps_beside cmp n id e ts || has_told cmp n id e ts)
  keeps_split n id e ts =
      any_alike (λ t. (n == t.session) && same cmp e t.expr) (λ t. ((n == t.session) && (not (id == t.id) && same cmp e t.expr)) || ((n == t.session) && ((id == t.id) && same cmp e t.expr)))
      (λ t. split (n == t.session) (id == t.id) (same cmp e t.expr)) ts
      ∙ any_or (λ t. (n == t.session) && (not (id == t.id) && same cmp e t.expr)) (λ t. (n == t.session) && ((id == t.id) && same cmp e t.expr)) ts

  -- what is left where an id's pairs are gone
  pub keeps_without_id : (n id : ℕ) (e : K) (ts : List (Told K)) → keeps_told cmp n e (without_told_id n id ts) ≡ keeps_beside cmp n id e ts
  keeps_without_id n id e ts =
      any-filter (λ t. (n == t.session) && same cmp e t.expr) (λ t. not ((n == t.session) && (id == t.id))) ts
      ∙ any_alike (λ t. not ((n == t.session) && (id == t.id)) && ((n == t.session) && same cmp e t.expr)) (λ t. (n == t.session) && (not (id == t.id) && same cmp e t.expr))
      (λ t. beside (n == t.session) (id == t.id) (same cmp e t.expr)) ts

  -- another session is told something
  keeps_filter_other : (n k : ℕ) (e : K) (c : Told K → Bool) (ts : List (Told K)) → (n == k) ≡ false → keeps_told cmp n e (filter (λ t. not ((k == t.session) && c t)) ts) ≡ keeps_told cmp n e ts
  keeps_filter_other n k e c ts other =
      any-filter (λ t. (n == t.session) && same cmp e t.expr) (λ t. not ((k == t.session) && c t)) ts
      ∙ any_alike (λ t. not ((k == t.session) && c t) && ((n == t.session) && same cmp e t.expr)) (λ t. (n == t.session) && same cmp e t.expr)
      (λ t. apart (k == t.session) (n == t.session) (c t) (same cmp e t.expr) (not_both n k t.session other)) ts

  keeps_push : (n : ℕ) (e : K) (t : Told K) (ts : List (Told K)) → keeps_told cmp n e (ts ++ t ∷ []) ≡ (keeps_told cmp n e ts || ((n == t.session) && same cmp e t.expr))
  keeps_push n e t ts = any-append (λ t. (n == t.session) && same cmp e t.expr) ts (t ∷ []) ∙ ap (λ b. keeps_told cmp n e ts || b) (or-false ((n == t.session) && same cmp e t.expr))

  pub keeps_other : (n k : ℕ) (m : Message K) (e : K) (ts : List (Told K)) → (n == k) ≡ false → keeps_told cmp n e (told_by cmp k m ts) ≡ keeps_told cmp n e ts
  keeps_other n k (message.DeclareToken id x interest node) e ts other =
      by_test (id == 0 || has_told cmp k id x ts)
      (λ there. rw there refl)
      (λ there. rw there (keeps_push n e (record { session = k; id = id; expr = x }) ts ∙ rw other (or-false (keeps_told cmp n e ts))))
  keeps_other n k (message.UndeclareToken id None node) e ts other = keeps_filter_other n k e (λ t. id == t.id) ts other
  keeps_other n k (message.UndeclareToken id (Some x) node) e ts other = keeps_filter_other n k e (λ t. same cmp x t.expr) ts other
  keeps_other n k (message.DeclareFinal interest) e ts other = refl
  keeps_other n k (message.Interest i mode options x) e ts other = refl
  keeps_other n k (message.InterestFinal i) e ts other = refl
  keeps_other n k (message.DeclareSubscriber i x interest) e ts other = refl
  keeps_other n k (message.DeclareQueryable i x info interest) e ts other = refl

  -- a pair that was told is kept
  pub told_keeps : (n id : ℕ) (e : K) (ts : List (Told K)) → has_told cmp n id e ts ≡ true → keeps_told cmp n e ts ≡ true
  told_keeps n id e ts told = any_weaker (λ t. (n == t.session) && ((id == t.id) && same cmp e t.expr)) (λ t. (n == t.session) && same cmp e t.expr) (λ t here. weaker (n == t.session) (id == t.id) (same cmp e t.expr) here) ts told
    where
      weaker : (a b c : Bool) → (a && (b && c)) ≡ true → (a && c) ≡ true
      weaker true true c here = here
      weaker true false c here = cc
      weaker false b c here = here

  -- what is kept is what is told to the session
  pub keeps_told_to : (n : ℕ) (e : K) (ts : List (Told K)) → keeps_told cmp n e ts ≡ list_any (λ row. same cmp e row.1) (told_to n ts)
  keeps_told_to n e [] = refl
  keeps_told_to n e (t ∷ ts) =
      by_test (n == t.session) (λ own. rw own (ap (λ b. same cmp e t.expr || b) (keeps_told_to n e ts))) (λ own. rw own (keeps_told_to n e ts))

  -- ---- no pair twice

  pub twice_filter : (p : Told K → Bool) (ts : List (Told K)) → NoPairTwice cmp ts → NoPairTwice cmp (filter p ts)
  twice_filter p [] once = tt
  twice_filter p (t ∷ ts) once =
      by_test (p t)
      (λ here. rw here (
        fails_with (has_told cmp t.session t.id t.expr (filter p ts)) (has_told cmp t.session t.id t.expr ts)
            (any_from_filter (λ x. (t.session == x.session) && ((t.id == x.id) && same cmp t.expr x.expr)) p ts) once.0,
        twice_filter p ts once.1,
      ))
      (λ here. rw here (twice_filter p ts once.1))

  module _ (total : IsTotalOrder cmp) (equal_is_same : (a b : K) → cmp a b ≡ Equal → a ≡ b) where
    -- a pair that isn't there is told
    twice_push : (x : Told K) (ts : List (Told K)) → NoPairTwice cmp ts → has_told cmp x.session x.id x.expr ts ≡ false → NoPairTwice cmp (ts ++ x ∷ [])
    twice_push x [] once new = (refl, tt)
    twice_push x (t ∷ ts) once new =
        let parts = or_parts ((x.session == t.session) && ((x.id == t.id) && same cmp x.expr t.expr)) (has_told cmp x.session x.id x.expr ts) new in (
          any-append (λ y. (t.session == y.session) && ((t.id == y.id) && same cmp t.expr y.expr)) ts (x ∷ [])
              ∙ ap (λ b. b || has_told cmp t.session t.id t.expr (x ∷ [])) once.0
              ∙ or-false ((t.session == x.session) && ((t.id == x.id) && same cmp t.expr x.expr))
              ∙ fails_with ((t.session == x.session) && ((t.id == x.id) && same cmp t.expr x.expr)) ((x.session == t.session) && ((x.id == t.id) && same cmp x.expr t.expr)) (back x t) parts.0,
          twice_push x ts once.1 parts.1,
        )
      where
        back : (x t : Told K) → ((t.session == x.session) && ((t.id == x.id) && same cmp t.expr x.expr)) ≡ true → ((x.session == t.session) && ((x.id == t.id) && same cmp x.expr t.expr)) ≡ true
        back x t is =
            let one = and_parts (t.session == x.session) ((t.id == x.id) && same cmp t.expr x.expr) is in
            let two = and_parts (t.id == x.id) (same cmp t.expr x.expr) one.1 in
            rw (eq-eqb x.session t.session (sym (eqb-true t.session x.session one.0)), eq-eqb x.id t.id (sym (eqb-true t.id x.id two.0))) (same_back cmp total x.expr t.expr ∙ two.1)

    pub twice_heard : (n : ℕ) (m : Message K) (ts : List (Told K)) → NoPairTwice cmp ts → NoPairTwice cmp (told_by cmp n m ts)
    twice_heard n (message.DeclareToken id e interest node) ts once =
        by_test (id == 0)
        (λ zero_. rw zero_ once)
        (λ zero_. by_test (has_told cmp n id e ts) (λ there. rw (zero_, there) once) (λ there. rw (zero_, there) (twice_push (record { session = n; id = id; expr = e }) ts once there)))
    twice_heard n (message.UndeclareToken id None node) ts once = twice_filter (λ t. not ((n == t.session) && (id == t.id))) ts once
    twice_heard n (message.UndeclareToken id (Some e) node) ts once = twice_filter (λ t. not ((n == t.session) && same cmp e t.expr)) ts once
    twice_heard n (message.DeclareFinal interest) ts once = once
    twice_heard n (message.Interest i mode options e) ts once = once
    twice_heard n (message.InterestFinal i) ts once = once
    twice_heard n (message.DeclareSubscriber i e interest) ts once = once
    twice_heard n (message.DeclareQueryable i e info interest) ts once = once

    -- ---- what a session keeps after a message

    -- a declaration of what is kept, or of the id 0
    pub keeps_again : (n id : ℕ) (k e : K) (ts : List (Told K)) → (not (id == 0) && not (keeps_told cmp n k ts)) ≡ false → keeps_told cmp n e (with_told cmp n id k ts) ≡ keeps_told cmp n e ts
    keeps_again n id k e ts again =
        by_test (id == 0)
        (λ zero_. rw zero_ refl)
        (λ zero_. by_test (has_told cmp n id k ts) (λ there. rw (zero_, there) refl) (λ there. rw (zero_, there) (keeps_push n e (record { session = n; id = id; expr = k }) ts ∙ more zero_)))
      where
        kept : (id == 0) ≡ false → keeps_told cmp n k ts ≡ true
        kept zero_ = by_test (keeps_told cmp n k ts) (λ h. h) (λ h. let bad : true ≡ false = rw (zero_, h) at again in cc)

        more : (id == 0) ≡ false → (keeps_told cmp n e ts || ((n == n) && same cmp e k)) ≡ keeps_told cmp n e ts
        more zero_ =
            by_test (same cmp e k)
            (λ one. let there : keeps_told cmp n e ts ≡ true = ap (λ x. keeps_told cmp n x ts) (same_is cmp total equal_is_same e k one) ∙ kept zero_ in rw there refl)
            (λ one. rw (eq-eqb n n refl, one) (or-false (keeps_told cmp n e ts)))

    -- and of what isn't
    pub keeps_more : (n id : ℕ) (k e : K) (ts : List (Told K)) → (id == 0) ≡ false → keeps_told cmp n k ts ≡ false → keeps_told cmp n e (with_told cmp n id k ts) ≡ (keeps_told cmp n e ts || same cmp e k)
    keeps_more n id k e ts real new =
        let untold : has_told cmp n id k ts ≡ false = fails_with (has_told cmp n id k ts) (keeps_told cmp n k ts) (told_keeps n id k ts) new in
        rw (real, untold) (keeps_push n e (record { session = n; id = id; expr = k }) ts ∙ ap (λ b. keeps_told cmp n e ts || (b && same cmp e k)) (eq-eqb n n refl))

    -- an undeclaration of an expression
    pub keeps_less : (n : ℕ) (k e : K) (ts : List (Told K)) → keeps_told cmp n e (without_told_expr cmp n k ts) ≡ (keeps_told cmp n e ts && not (same cmp e k))
    keeps_less n k e ts =
        any-filter (λ t. (n == t.session) && same cmp e t.expr) (λ t. not ((n == t.session) && same cmp k t.expr)) ts
        ∙ any_alike (λ t. not ((n == t.session) && same cmp k t.expr) && ((n == t.session) && same cmp e t.expr)) (λ t. not (same cmp e k) && ((n == t.session) && same cmp e t.expr)) each ts
        ∙ any_and (not (same cmp e k)) (λ t. (n == t.session) && same cmp e t.expr) ts
        ∙ and_back (not (same cmp e k)) (keeps_told cmp n e ts)
      where
        each : (t : Told K) → (not ((n == t.session) && same cmp k t.expr) && ((n == t.session) && same cmp e t.expr)) ≡ (not (same cmp e k) && ((n == t.session) && same cmp e t.expr))
        each t =
            by_test (same cmp e t.expr)
            (λ here. rw (same_left cmp total e t.expr k here, same_back cmp total k t.expr) (shuffled (n == t.session) (same cmp t.expr k) (same cmp e t.expr)))
            (λ here. rw here (nothing (n == t.session) (not ((n == t.session) && same cmp k t.expr)) (not (same cmp e k))))
