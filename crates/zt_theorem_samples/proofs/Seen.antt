-- What a subscriber with history sees, by its samples.
use Rattle.std.proofs.Common.{◌≡◌, ℕ, Bool, true, false, not, ◌==◌, ◌&&◌, ◌||◌, if◌then◌else◌, Some, None, List, [], ◌∷◌, ◌++◌, refl, sym, ap, subst, ◌∙◌, eq-eqb, eqb-true}
use Rattle.std.proofs.Math.Bool.{or-false}
use Rattle.std.proofs.lemmas.Bool.{and_parts}
use Rattle.std.specs.Cmp.{IsTotalOrder}
use Rattle.std.specs.List.{list_any}
use Rattle.std.specs.declared.cmp.Ordering.{Ordering}
use Rattle.std.specs.declared.cmp.Ordering.TheVariants.{Equal}
use Rattle.zt_protocol.specs.declared.messages.Message.{Message}
use Rattle.zt_protocol.specs.declared.messages.Message.TheVariants as message
use Rattle.zt_model.specs.Lists.{same}
use Rattle.zt_laws.specs.Sound.{NamesOnce}
use Rattle.zt_laws.proofs.Keys.{same_is}
use Rattle.zt_laws.proofs.Lists.{by_test}
use Rattle.zt_samples.specs.Samples.{gone_news, has_told, keeps_beside, keeps_told, news_by, news_of, sample_of, samples_for, started, told_by, told_to, with_told, without_told_expr}
use Rattle.zt_samples.specs.declared.samples.Sample.{Sample}
use Rattle.zt_samples.specs.declared.samples.Sample.TheVariants.{Put, Delete}
use Rattle.zt_samples.specs.declared.samples.Subscriber.{Subscriber}
use Rattle.zt_samples.specs.declared.samples.Told.{Told}
use Rattle.zt_theorem_samples.specs.Replayed.{IsOnly, NoPairTwice, replayed, sees}
use Rattle.zt_theorem_samples.proofs.Samples.{given_one, gives_history, nothing_for_others, samples_for-append}
use Rattle.zt_theorem_samples.proofs.Told.{and_none, and_true, keeps_again, keeps_less, keeps_more, keeps_other, keeps_split, keeps_told_to, keeps_without_id, neither, or_left_none}

module _ {K : Type 0} (cmp : K → K → Ordering) where
  -- samples behind others
  pub replayed_behind : (e : K) (xs ys : List (Sample K)) (was now : Bool) → replayed cmp e xs was ≡ Some now → replayed cmp e (xs ++ ys) was ≡ replayed cmp e ys now
  replayed_behind e [] ys was now is = let same_ : was ≡ now = cc in ap (replayed cmp e ys) same_
  replayed_behind e (Put k ∷ xs) ys true now is =
      by_test (same cmp e k) (λ here. let bad : None ≡ Some now = rw here at is in cc) (λ here. rw here (replayed_behind e xs ys true now (rw here at is)))
  replayed_behind e (Put k ∷ xs) ys false now is =
      by_test (same cmp e k) (λ here. rw here (replayed_behind e xs ys true now (rw here at is))) (λ here. rw here (replayed_behind e xs ys false now (rw here at is)))
  replayed_behind e (Delete k ∷ xs) ys true now is =
      by_test (same cmp e k) (λ here. rw here (replayed_behind e xs ys false now (rw here at is))) (λ here. rw here (replayed_behind e xs ys true now (rw here at is)))
  replayed_behind e (Delete k ∷ xs) ys false now is =
      by_test (same cmp e k) (λ here. let bad : None ≡ Some now = rw here at is in cc) (λ here. rw here (replayed_behind e xs ys false now (rw here at is)))

  -- ---- one Put: `mk` and `me` say whether its key and the expression match

  put_own : (e k : K) (me : Bool) → same cmp e k ≡ true → replayed cmp e (if me then Put k ∷ [] else []) (me && false) ≡ Some (me && (false || true))
  put_own e k true here = rw here refl
  put_own e k false here = refl

  put_other : (e k : K) (mk : Bool) (was now : Bool) → same cmp e k ≡ false → was ≡ now → replayed cmp e (if mk then Put k ∷ [] else []) was ≡ Some now
  put_other e k true was now here is = rw here (ap (λ b. Some b) is)
  put_other e k false was now here is = ap (λ b. Some b) is

  -- of an expression that isn't kept
  put_seen : (e k : K) (mk me was : Bool) → (same cmp e k ≡ true → mk ≡ me) → (same cmp e k ≡ true → was ≡ false)
      → replayed cmp e (if mk then Put k ∷ [] else []) (me && was) ≡ Some (me && (was || same cmp e k))
  put_seen e k mk me was alike unseen =
      by_test (same cmp e k)
      (λ here. subst (λ (b : Bool). replayed cmp e (if b then Put k ∷ [] else []) (me && was) ≡ Some (me && (was || same cmp e k))) (sym (alike here))
      (subst (λ (b : Bool). replayed cmp e (if me then Put k ∷ [] else []) (me && b) ≡ Some (me && (b || same cmp e k))) (sym (unseen here))
      (put_own e k me here ∙ ap (λ b. Some (me && (false || b))) (sym here))))
      (λ here. put_other e k mk (me && was) (me && (was || same cmp e k)) here (ap (λ b. me && b) (sym (or-false was)) ∙ ap (λ b. me && (was || b)) (sym here)))

  -- ---- one Delete

  delete_own : (e k : K) (me w : Bool) → same cmp e k ≡ true → replayed cmp e (if me && w then Delete k ∷ [] else []) (me && w) ≡ Some (me && (w && not true))
  delete_own e k true true here = rw here refl
  delete_own e k true false here = refl
  delete_own e k false w here = refl

  delete_other : (e k : K) (given was now : Bool) → same cmp e k ≡ false → was ≡ now → replayed cmp e (if given then Delete k ∷ [] else []) was ≡ Some now
  delete_other e k true was now here is = rw here (ap (λ b. Some b) is)
  delete_other e k false was now here is = ap (λ b. Some b) is

  -- of all that is kept of an expression
  delete_seen : (e k : K) (mk me was w : Bool) → (same cmp e k ≡ true → mk ≡ me) → (same cmp e k ≡ true → w ≡ was)
      → replayed cmp e (if mk && w then Delete k ∷ [] else []) (me && was) ≡ Some (me && (was && not (same cmp e k)))
  delete_seen e k mk me was w alike kept =
      by_test (same cmp e k)
      (λ here. subst (λ (b : Bool). replayed cmp e (if b && w then Delete k ∷ [] else []) (me && was) ≡ Some (me && (was && not (same cmp e k)))) (sym (alike here))
      (subst (λ (b : Bool). replayed cmp e (if me && b then Delete k ∷ [] else []) (me && was) ≡ Some (me && (was && not (same cmp e k)))) (sym (kept here))
      (delete_own e k me was here ∙ ap (λ b. Some (me && (was && not b))) (sym here))))
      (λ here. delete_other e k (mk && w) (me && was) (me && (was && not (same cmp e k))) here (ap (λ b. me && b) (sym (and_true was)) ∙ ap (λ b. me && (was && not b)) (sym here)))

  gone_own : (e k : K) (me beside : Bool) → same cmp e k ≡ true → replayed cmp e (if me && not beside then Delete k ∷ [] else []) (me && (beside || (true || false))) ≡ Some (me && (beside || false))
  gone_own e k true true here = refl
  gone_own e k true false here = rw here refl
  gone_own e k false beside here = refl

  -- of one pair, where the expression may be kept by another id, and by pairs of the id that are still to go
  gone_seen : (e k : K) (mk me bk beside left : Bool) → (same cmp e k ≡ true → mk ≡ me) → (same cmp e k ≡ true → bk ≡ beside) → (same cmp e k ≡ true → left ≡ false)
      → replayed cmp e (if mk && not bk then Delete k ∷ [] else []) (me && (beside || (same cmp e k || left))) ≡ Some (me && (beside || left))
  gone_seen e k mk me bk beside left alike besides last =
      by_test (same cmp e k)
      (λ here. subst (λ (b : Bool). replayed cmp e (if b && not bk then Delete k ∷ [] else []) (me && (beside || (same cmp e k || left))) ≡ Some (me && (beside || left))) (sym (alike here))
      (subst (λ (b : Bool). replayed cmp e (if me && not b then Delete k ∷ [] else []) (me && (beside || (same cmp e k || left))) ≡ Some (me && (beside || left))) (sym (besides here))
      (subst (λ (b : Bool). replayed cmp e (if me && not beside then Delete k ∷ [] else []) (me && (beside || (same cmp e k || b))) ≡ Some (me && (beside || b))) (sym (last here))
      (ap (λ b. replayed cmp e (if me && not beside then Delete k ∷ [] else []) (me && (beside || (b || false)))) here ∙ gone_own e k me beside here))))
      (λ here. delete_other e k (mk && not bk) (me && (beside || (same cmp e k || left))) (me && (beside || left)) here (ap (λ b. me && (beside || (b || left))) here))

module _ {K : Type 0} (cmp : K → K → Ordering) (matching : K → K → Bool) (total : IsTotalOrder cmp) (equal_is_same : (a b : K) → cmp a b ≡ Equal → a ≡ b) where
  one_key : (e k : K) → same cmp e k ≡ true → e ≡ k
  one_key e k here = same_is cmp total equal_is_same e k here

  -- ---- a message to the subscriber's session

  given_history : (s : Subscriber K) (ss : List (Subscriber K)) (is_put : Bool) (k : K) (alters : Bool) → IsOnly s ss → s.history ≡ true
      → samples_for s.session s.id (news_of matching s.session is_put k alters ss) ≡ (if matching s.expr k && alters then sample_of is_put k ∷ [] else [])
  given_history s ss is_put k alters only history =
      given_one matching s ss is_put k alters only ∙ ap (λ b. if b then sample_of is_put k ∷ [] else []) (gives_history matching s k alters history)

  seen_token : (s : Subscriber K) (ss : List (Subscriber K)) (id : ℕ) (k e : K) (told : List (Told K)) → IsOnly s ss → s.history ≡ true → (id == 0) ≡ false → keeps_told cmp s.session k told ≡ false
      → replayed cmp e (samples_for s.session s.id (news_of matching s.session true k true ss)) (sees cmp matching s e told) ≡ Some (sees cmp matching s e (with_told cmp s.session id k told))
  seen_token s ss id k e told only history real new =
      ap (λ xs. replayed cmp e xs (sees cmp matching s e told)) (given_history s ss true k true only history ∙ ap (λ b. if b then Put k ∷ [] else []) (and_true (matching s.expr k)))
      ∙ put_seen cmp e k (matching s.expr k) (matching s.expr e) (keeps_told cmp s.session e told)
      (λ here. ap (matching s.expr) (sym (one_key e k here)))
      (λ here. ap (λ x. keeps_told cmp s.session x told) (one_key e k here) ∙ new)
      ∙ ap (λ b. Some (matching s.expr e && b)) (sym (keeps_more cmp total equal_is_same s.session id k e told real new))

  seen_gone_expr : (s : Subscriber K) (ss : List (Subscriber K)) (k e : K) (told : List (Told K)) → IsOnly s ss → s.history ≡ true
      → replayed cmp e (samples_for s.session s.id (news_of matching s.session false k (keeps_told cmp s.session k told) ss)) (sees cmp matching s e told) ≡ Some (sees cmp matching s e (without_told_expr cmp s.session k told))
  seen_gone_expr s ss k e told only history =
      ap (λ xs. replayed cmp e xs (sees cmp matching s e told)) (given_history s ss false k (keeps_told cmp s.session k told) only history)
      ∙ delete_seen cmp e k (matching s.expr k) (matching s.expr e) (keeps_told cmp s.session e told) (keeps_told cmp s.session k told)
      (λ here. ap (matching s.expr) (sym (one_key e k here)))
      (λ here. ap (λ x. keeps_told cmp s.session x told) (sym (one_key e k here)))
      ∙ ap (λ b. Some (matching s.expr e && b)) (sym (keeps_less cmp total equal_is_same s.session k e told))

  -- the pairs of an id, of all that was told
  seen_gone : (s : Subscriber K) (ss : List (Subscriber K)) (id : ℕ) (e : K) (all ts : List (Told K)) → IsOnly s ss → s.history ≡ true → NoPairTwice cmp ts
      → replayed cmp e (samples_for s.session s.id (gone_news cmp matching s.session id ss all ts)) (matching s.expr e && (keeps_beside cmp s.session id e all || has_told cmp s.session id e ts))
      ≡ Some (matching s.expr e && keeps_beside cmp s.session id e all)
  seen_gone s ss id e all [] only history once = ap (λ b. Some (matching s.expr e && b)) (or-false (keeps_beside cmp s.session id e all))
  seen_gone s ss id e all (t ∷ ts) only history once =
      by_test ((s.session == t.session) && (id == t.id))
      (λ own. own_pair own (seen_gone s ss id e all ts only history once.1))
      (λ own. rw own (
      ap (λ b. replayed cmp e (samples_for s.session s.id (gone_news cmp matching s.session id ss all ts)) (matching s.expr e && (keeps_beside cmp s.session id e all || b)))
      (or_left_none ((s.session == t.session) && ((id == t.id) && same cmp e t.expr)) (has_told cmp s.session id e ts) (neither (s.session == t.session) (id == t.id) (same cmp e t.expr) own))
      ∙ seen_gone s ss id e all ts only history once.1
      ))
    where
      given : List (Sample K)
      given = if matching s.expr t.expr && not (keeps_beside cmp s.session id t.expr all) then Delete t.expr ∷ [] else []

      later : List (Sample K)
      later = samples_for s.session s.id (gone_news cmp matching s.session id ss all ts)

      last : (s.session == t.session) ≡ true → (id == t.id) ≡ true → same cmp e t.expr ≡ true → has_told cmp s.session id e ts ≡ false
      last one two here =
          ap (λ (n : ℕ). has_told cmp n id e ts) (eqb-true s.session t.session one)
          ∙ ap (λ (i : ℕ). has_told cmp t.session i e ts) (eqb-true id t.id two)
          ∙ ap (λ x. has_told cmp t.session t.id x ts) (one_key e t.expr here)
          ∙ once.0

      own_pair : ((s.session == t.session) && (id == t.id)) ≡ true
          → replayed cmp e later (matching s.expr e && (keeps_beside cmp s.session id e all || has_told cmp s.session id e ts)) ≡ Some (matching s.expr e && keeps_beside cmp s.session id e all)
          → replayed cmp e (samples_for s.session s.id (gone_news cmp matching s.session id ss all (t ∷ ts))) (matching s.expr e && (keeps_beside cmp s.session id e all || has_told cmp s.session id e (t ∷ ts)))
          ≡ Some (matching s.expr e && keeps_beside cmp s.session id e all)
      own_pair own rest =
          let parts = and_parts (s.session == t.session) (id == t.id) own in
          let first = news_of matching s.session false t.expr (not (keeps_beside cmp s.session id t.expr all)) ss in
          let before : Bool = matching s.expr e && (keeps_beside cmp s.session id e all || (same cmp e t.expr || has_told cmp s.session id e ts)) in
          rw (own, parts.0, parts.1) (
          ap (λ xs. replayed cmp e xs before)
          (samples_for-append s.session s.id first (gone_news cmp matching s.session id ss all ts)
          ∙ ap (λ xs. xs ++ later) (given_history s ss false t.expr (not (keeps_beside cmp s.session id t.expr all)) only history))
          ∙ replayed_behind cmp e given later before (matching s.expr e && (keeps_beside cmp s.session id e all || has_told cmp s.session id e ts))
          (gone_seen cmp e t.expr (matching s.expr t.expr) (matching s.expr e) (keeps_beside cmp s.session id t.expr all) (keeps_beside cmp s.session id e all) (has_told cmp s.session id e ts)
          (λ here. ap (matching s.expr) (sym (one_key e t.expr here)))
          (λ here. ap (λ x. keeps_beside cmp s.session id x all) (sym (one_key e t.expr here)))
          (last parts.0 parts.1))
          ∙ rest
          )

  seen_own : (s : Subscriber K) (ss : List (Subscriber K)) (m : Message K) (told : List (Told K)) (e : K) → IsOnly s ss → s.history ≡ true → NoPairTwice cmp told
      → replayed cmp e (samples_for s.session s.id (news_by cmp matching ss s.session m told)) (sees cmp matching s e told) ≡ Some (sees cmp matching s e (told_by cmp s.session m told))
  seen_own s ss (message.DeclareToken id k interest node) told e only history once =
      by_test (not (id == 0) && not (keeps_told cmp s.session k told))
      (λ new. rw new (seen_token s ss id k e told only history (not_true (id == 0) (and_parts (not (id == 0)) (not (keeps_told cmp s.session k told)) new).0) (not_true (keeps_told cmp s.session k told) (and_parts (not (id == 0)) (not (keeps_told cmp s.session k told)) new).1)))
      (λ new. rw new (ap (λ b. Some (matching s.expr e && b)) (sym (keeps_again cmp total equal_is_same s.session id k e told new))))
    where
      not_true : (b : Bool) → not b ≡ true → b ≡ false
      not_true true is = cc
      not_true false is = refl
  seen_own s ss (message.UndeclareToken id (Some k) node) told e only history once = seen_gone_expr s ss k e told only history
  seen_own s ss (message.UndeclareToken id None node) told e only history once =
      ap (λ b. replayed cmp e (samples_for s.session s.id (gone_news cmp matching s.session id ss told told)) (matching s.expr e && b)) (keeps_split cmp s.session id e told)
      ∙ seen_gone s ss id e told told only history once
      ∙ ap (λ b. Some (matching s.expr e && b)) (sym (keeps_without_id cmp s.session id e told))
  seen_own s ss (message.DeclareFinal interest) told e only history once = refl
  seen_own s ss (message.Interest i mode options k) told e only history once = refl
  seen_own s ss (message.InterestFinal i) told e only history once = refl
  seen_own s ss (message.DeclareSubscriber i k interest) told e only history once = refl
  seen_own s ss (message.DeclareQueryable i k info interest) told e only history once = refl

  -- ---- any message

  pub seen_after : (s : Subscriber K) (ss : List (Subscriber K)) (n : ℕ) (m : Message K) (told : List (Told K)) (e : K) → IsOnly s ss → s.history ≡ true → NoPairTwice cmp told
      → replayed cmp e (samples_for s.session s.id (news_by cmp matching ss n m told)) (sees cmp matching s e told) ≡ Some (sees cmp matching s e (told_by cmp n m told))
  seen_after s ss n m told e only history once =
      by_test (s.session == n)
      (λ own. subst (λ (k : ℕ). replayed cmp e (samples_for s.session s.id (news_by cmp matching ss k m told)) (sees cmp matching s e told) ≡ Some (sees cmp matching s e (told_by cmp k m told))) (eqb-true s.session n own)
      (seen_own s ss m told e only history once))
      (λ own. ap (λ xs. replayed cmp e xs (sees cmp matching s e told)) (nothing_for_others cmp matching s.session n s.id m ss told own)
      ∙ ap (λ b. Some (matching s.expr e && b)) (sym (keeps_other cmp s.session n m e told own)))

  -- ---- the beginning

  -- one row more, by what the others lead to
  started_more : (n id : ℕ) (k e : K) (t : Told K) (ts : List (Told K)) (was : Bool)
      → ((b : Bool) → (b ≡ true → keeps_told cmp n e ts ≡ false) → replayed cmp e (samples_for n id (started matching n id k true ts)) b ≡ Some (b || (matching k e && keeps_told cmp n e ts)))
      → (n == t.session) ≡ true → list_any (λ row. same cmp t.expr row.1) (told_to n ts) ≡ false → (was ≡ true → keeps_told cmp n e (t ∷ ts) ≡ false)
      → replayed cmp e (samples_for n id (started matching n id k true (t ∷ ts))) was ≡ Some (was || (matching k e && keeps_told cmp n e (t ∷ ts)))
  started_more n id k e t ts was others own apart new =
      by_test (matching k t.expr)
      (λ matches. by_test (same cmp e t.expr)
      (λ here.
      let seen : matching k e ≡ true = ap (matching k) (one_key e t.expr here) ∙ matches in
      rw (own, matches, eq-eqb n n refl, eq-eqb id id refl, here, unseen here, seen) (others true (λ _. alone here)))
      (λ here. rw (own, matches, eq-eqb n n refl, eq-eqb id id refl, here) (others was (λ seen. rw (own, here) at (new seen)))))
      (λ matches. by_test (same cmp e t.expr)
      (λ here.
      let unmatched : matching k e ≡ false = ap (matching k) (one_key e t.expr here) ∙ matches in
      rw (own, matches, unmatched) (others was (λ _. alone here) ∙ ap (λ b. Some (was || (b && keeps_told cmp n e ts))) unmatched))
      (λ here. rw (own, matches, here) (others was (λ seen. rw (own, here) at (new seen)))))
    where
      -- the expression comes once
      alone : same cmp e t.expr ≡ true → keeps_told cmp n e ts ≡ false
      alone here = keeps_told_to cmp n e ts ∙ ap (λ x. list_any (λ row. same cmp x row.1) (told_to n ts)) (one_key e t.expr here) ∙ apart

      -- so it wasn't seen
      unseen : same cmp e t.expr ≡ true → was ≡ false
      unseen here = by_test was (λ seen. let bad : true ≡ false = rw (own, here) at (new seen) in cc) (λ seen. seen)

  started_from : (n id : ℕ) (k e : K) (ts : List (Told K)) (was : Bool) → NamesOnce cmp (told_to n ts) → (was ≡ true → keeps_told cmp n e ts ≡ false)
      → replayed cmp e (samples_for n id (started matching n id k true ts)) was ≡ Some (was || (matching k e && keeps_told cmp n e ts))
  started_from n id k e [] was once new = ap (λ b. Some b) (sym (or-false was) ∙ ap (λ b. was || b) (sym (and_none (matching k e))))
  started_from n id k e (t ∷ ts) was once new =
      by_test (n == t.session)
      (λ own.
      let parts : (list_any (λ row. same cmp t.expr row.1) (told_to n ts) ≡ false) × NamesOnce cmp (told_to n ts) = rw own at once in
      started_more n id k e t ts was (λ b fresh. started_from n id k e ts b parts.1 fresh) own parts.0 new)
      (λ own. rw own (started_from n id k e ts was (rw own at once) (rw own at new)))

  pub started_seen : (n id : ℕ) (k e : K) (ts : List (Told K)) → NamesOnce cmp (told_to n ts)
      → replayed cmp e (samples_for n id (started matching n id k true ts)) false ≡ Some (matching k e && keeps_told cmp n e ts)
  started_seen n id k e ts once = started_from n id k e ts false once (λ wrong. absurd_of wrong)
    where
      absurd_of : false ≡ true → keeps_told cmp n e ts ≡ false
      absurd_of wrong = cc
