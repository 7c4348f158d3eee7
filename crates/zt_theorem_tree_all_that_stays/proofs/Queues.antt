-- What waits on a joint: interests rise in order, and one that stands sent up and above isn't ended by what rises.
use Rattle.std.proofs.Common.{◌≡◌, ◌⊎◌, inl, inr, ℕ, ◌≤◌, ◌<◌, ◌+◌, Bool, true, false, ◌&&◌, ◌==◌, List, [], ◌∷◌, ◌++◌, Option, Some, None, refl, sym, ap, ◌∙◌, arith, eqb-true, ne_eqb, ⊎_elim}
use Rattle.zt_protocol.specs.Interest.{is_future, has_tokens}
use Rattle.zt_protocol.specs.declared.interests.InterestMode.{InterestMode}
use Rattle.zt_protocol.specs.declared.interests.InterestOptions.{InterestOptions}
use Rattle.zt_protocol.specs.declared.messages.Message.{Message}
use Rattle.zt_protocol.specs.declared.messages.Message.TheVariants as message
use Rattle.zt_model.specs.Hearing.{put_if}
use Rattle.zt_model.specs.Lists.{at_id, without_id}
use Rattle.zt_model.specs.Rows.{ById, InterestRow}
use Rattle.zt_model.specs.TreePromises.{Here, IsMember, There}
use Rattle.zt_laws.proofs.Lists.{by_test}
use Rattle.zt_theorem_soundness.proofs.ById.{at_put_other, at_without_other}
use Rattle.zt_theorem_tree_invariant.specs.Facts.{InterestsRise, interests_after, token_interests, top_of}

-- ---- members

pub member_front : {A : Type 0} (x : A) (xs ys : List A) → IsMember x xs → IsMember x (xs ++ ys)
member_front x [] ys is = elim is [ ]
member_front x (x2 ∷ xs) ys (Here zs) = Here (xs ++ ys)
member_front x (y ∷ xs) ys (There y2 zs more) = There y (xs ++ ys) (member_front x xs ys more)

pub member_back : {A : Type 0} (x : A) (xs ys : List A) → IsMember x ys → IsMember x (xs ++ ys)
member_back x [] ys is = is
member_back x (y ∷ xs) ys is = There y (xs ++ ys) (member_back x xs ys is)

pub member_cases : {A : Type 0} (x y : A) (xs : List A) → IsMember x (y ∷ xs) → (x ≡ y) ⊎ IsMember x xs
member_cases x y xs (Here zs) = inl refl
member_cases x y xs (There z zs more) = inr more

-- ---- rows by id

at_without_own : {A : Type 0} (id : ℕ) (rows : ById A) → at_id id (without_id id rows) ≡ None
at_without_own id [] = refl
at_without_own id (row ∷ rows) = by_test (id == row.0) (λ here. rw here (at_without_own id rows)) (λ here. rw here (rw here (at_without_own id rows)))

pub top_above : {A : Type 0} (id : ℕ) (v : A) (rows : ById A) → at_id id rows ≡ Some v → id < top_of rows
top_above id v [] at_ = cc
top_above id v (row ∷ rows) at_ =
    by_test (id == row.0)
    (λ here. let is : id ≡ row.0 = eqb-true id row.0 here in omega arith)
    (λ here. let more = top_above id v rows (rw here at at_) in omega arith)

-- ---- interests rise

module _ {K : Type 0} where
  pub member_rises : (low id : ℕ) (mode : InterestMode) (options : InterestOptions) (e : Option K) (ms : List (Message K)) (high : ℕ) → InterestsRise low ms high → IsMember (message.Interest id mode options e) ms → low ≤ id
  member_rises low id mode options e [] high rises is = elim is [ ]
  member_rises low id mode options e (message.Interest k mode2 options2 e2 ∷ ms) high rises is =
      let up : low ≤ k = rises.0 in
      ⊎_elim
      (λ here. let same_ : message.Interest id mode options e ≡ message.Interest k mode2 options2 e2 = here in let id_is : id ≡ k = cc in omega arith)
      (λ later. let more : k + 1 ≤ id = member_rises (k + 1) id mode options e ms high rises.1 later in omega arith)
      (member_cases (message.Interest id mode options e) (message.Interest k mode2 options2 e2) ms is)
  member_rises low id mode options e (message.DeclareToken k x i node ∷ ms) high rises is = ⊎_elim (λ here. cc) (λ later. member_rises low id mode options e ms high rises later) (member_cases (message.Interest id mode options e) (message.DeclareToken k x i node) ms is)
  member_rises low id mode options e (message.UndeclareToken k x node ∷ ms) high rises is = ⊎_elim (λ here. cc) (λ later. member_rises low id mode options e ms high rises later) (member_cases (message.Interest id mode options e) (message.UndeclareToken k x node) ms is)
  member_rises low id mode options e (message.DeclareFinal k ∷ ms) high rises is = ⊎_elim (λ here. cc) (λ later. member_rises low id mode options e ms high rises later) (member_cases (message.Interest id mode options e) (message.DeclareFinal k) ms is)
  member_rises low id mode options e (message.InterestFinal k ∷ ms) high rises is = ⊎_elim (λ here. cc) (λ later. member_rises low id mode options e ms high rises later) (member_cases (message.Interest id mode options e) (message.InterestFinal k) ms is)
  member_rises low id mode options e (message.DeclareSubscriber n x i ∷ ms) high rises is = ⊎_elim (λ here. cc) (λ later. member_rises low id mode options e ms high rises later) (member_cases (message.Interest id mode options e) (message.DeclareSubscriber n x i) ms is)
  member_rises low id mode options e (message.DeclareQueryable n x info i ∷ ms) high rises is = ⊎_elim (λ here. cc) (λ later. member_rises low id mode options e ms high rises later) (member_cases (message.Interest id mode options e) (message.DeclareQueryable n x info i) ms is)

  -- ---- an interest that stands sent up

  pub at_tokens : (id : ℕ) (i : InterestRow K) (rows : ById (InterestRow K)) → has_tokens i.options ≡ true → at_id id rows ≡ Some i → at_id id (token_interests rows) ≡ Some i
  at_tokens id i [] tokens at_ = cc
  at_tokens id i (row ∷ rows) tokens at_ =
      by_test (id == row.0)
      (λ here.
      let e : Some row.1 ≡ Some i = rw here at at_ in
      let is : row.1 ≡ i = cc in
      let kept : has_tokens row.1.options ≡ true = ap (λ (r : InterestRow K). has_tokens r.options) is ∙ tokens in
      rw kept (rw here (ap Some is)))
      (λ here.
      let rest = at_tokens id i rows tokens (rw here at at_) in
      by_test (has_tokens row.1.options) (λ kept. rw kept (rw here rest)) (λ left. rw left rest))

  -- what rises later doesn't bring it back
  pub not_again : (id low high : ℕ) (ms : List (Message K)) (rows : ById (InterestRow K)) → id < low → InterestsRise low ms high → at_id id rows ≡ None → at_id id (interests_after ms rows) ≡ None
  not_again id low high [] rows less rises none_ = none_
  not_again id low high (message.Interest k mode options e ∷ ms) rows less rises none_ =
      let up : low ≤ k = rises.0 in
      not_again id (k + 1) high ms (put_if (is_future mode && has_tokens options) k (record { mode = mode; options = options; expr = e }) rows) (omega arith) rises.1
      (put_none (is_future mode && has_tokens options) (ne_eqb id k (λ is. omega arith)))
    where
      put_none : (b : Bool) → (id == k) ≡ false → at_id id (put_if b k (record { mode = mode; options = options; expr = e }) rows) ≡ None
      put_none true apart = at_put_other id k (record { mode = mode; options = options; expr = e }) rows apart ∙ none_
      put_none false apart = none_
  not_again id low high (message.InterestFinal k ∷ ms) rows less rises none_ =
      not_again id low high ms (without_id k rows) less rises (by_test (k == id) (λ is. ap (λ n. at_id id (without_id n rows)) (eqb-true k id is) ∙ at_without_own id rows) (λ apart. at_without_other id k rows apart ∙ none_))
  not_again id low high (message.DeclareToken k x i node ∷ ms) rows less rises none_ = not_again id low high ms rows less rises none_
  not_again id low high (message.UndeclareToken k x node ∷ ms) rows less rises none_ = not_again id low high ms rows less rises none_
  not_again id low high (message.DeclareFinal k ∷ ms) rows less rises none_ = not_again id low high ms rows less rises none_
  not_again id low high (message.DeclareSubscriber n x i ∷ ms) rows less rises none_ = not_again id low high ms rows less rises none_
  not_again id low high (message.DeclareQueryable n x info i ∷ ms) rows less rises none_ = not_again id low high ms rows less rises none_

  -- what stands above and stands sent up isn't ended
  pub not_ended : (id low high : ℕ) (i : InterestRow K) (ms : List (Message K)) (held locals : ById (InterestRow K)) → id < low → InterestsRise low (message.InterestFinal id ∷ ms) high → interests_after (message.InterestFinal id ∷ ms) held ≡ token_interests locals → has_tokens i.options ≡ true → at_id id locals ≡ Some i → ⊥
  not_ended id low high i ms held locals less rises is tokens at_ =
      let there : at_id id (token_interests locals) ≡ Some i = at_tokens id i locals tokens at_ in
      let gone : at_id id (interests_after ms (without_id id held)) ≡ None = not_again id low high ms (without_id id held) less rises (at_without_own id held) in
      let bad : None ≡ Some i = sym gone ∙ ap (at_id id) is ∙ there in
      cc
