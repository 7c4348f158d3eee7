-- The samples of a subscriber among those that messages give.
use Rattle.std.proofs.Common.{◌≡◌, ℕ, Bool, true, false, not, ◌==◌, ◌&&◌, ◌||◌, if◌then◌else◌, Some, None, List, [], ◌∷◌, ◌++◌, filter, refl, ap, ◌∙◌, eq-eqb}
use Rattle.std.proofs.lemmas.Bool.{and_parts}
use Rattle.std.specs.declared.cmp.Ordering.{Ordering}
use Rattle.zt_protocol.specs.declared.messages.Message.{Message}
use Rattle.zt_protocol.specs.declared.messages.Message.TheVariants as message
use Rattle.zt_laws.proofs.Lists.{by_test}
use Rattle.zt_samples.specs.Samples.{gives, gone_news, is_for, keeps_beside, keeps_told, news_by, news_of, sample_of, samples_for}
use Rattle.zt_samples.specs.declared.samples.News.{News}
use Rattle.zt_samples.specs.declared.samples.Sample.{Sample}
use Rattle.zt_samples.specs.declared.samples.Subscriber.{Subscriber}
use Rattle.zt_samples.specs.declared.samples.Told.{Told}
use Rattle.zt_theorem_samples.specs.Replayed.{IsOnly}

module _ {K : Type 0} where
  pub samples_for-append : (n id : ℕ) (xs ys : List (News K)) → samples_for n id (xs ++ ys) ≡ samples_for n id xs ++ samples_for n id ys
  samples_for-append n id [] ys = refl
  samples_for-append n id (x ∷ xs) ys =
      by_test (is_for n id x) (λ here. rw here (ap (λ rest. x.sample ∷ rest) (samples_for-append n id xs ys))) (λ here. rw here (samples_for-append n id xs ys))

module _ {K : Type 0} (matching : K → K → Bool) where
  -- what these subscribers are given
  abbrev of_those : ℕ → Bool → K → Bool → List (Subscriber K) → List (Sample K)
  of_those n is_put e alters [] = []
  of_those n is_put e alters (s ∷ ss) = if gives matching n e alters s then sample_of is_put e ∷ of_those n is_put e alters ss else of_those n is_put e alters ss

  those_named : (n id : ℕ) (is_put : Bool) (e : K) (alters : Bool) (ss : List (Subscriber K))
      → samples_for n id (news_of matching n is_put e alters ss) ≡ of_those n is_put e alters (filter (λ x. (n == x.session) && (id == x.id)) ss)
  those_named n id is_put e alters [] = refl
  those_named n id is_put e alters (s ∷ ss) =
      by_test (gives matching n e alters s)
      (λ given. by_test ((n == s.session) && (id == s.id))
      (λ named. let mine : (id == s.id) ≡ true = (and_parts (n == s.session) (id == s.id) named).1 in
      rw (given, named, given, eq-eqb n n refl, mine) (ap (λ rest. sample_of is_put e ∷ rest) (those_named n id is_put e alters ss)))
      (λ named. let other : (id == s.id) ≡ false = rw (and_parts (n == s.session) (matching s.expr e && (not s.history || alters)) given).0 at named in
      rw (given, named, eq-eqb n n refl, other) (those_named n id is_put e alters ss)))
      (λ given. by_test ((n == s.session) && (id == s.id))
      (λ named. rw (given, named, given) (those_named n id is_put e alters ss))
      (λ named. rw (given, named) (those_named n id is_put e alters ss)))

  -- what the one subscriber of an id is given
  pub given_one : (s : Subscriber K) (ss : List (Subscriber K)) (is_put : Bool) (e : K) (alters : Bool) → IsOnly s ss
      → samples_for s.session s.id (news_of matching s.session is_put e alters ss) ≡ (if gives matching s.session e alters s then sample_of is_put e ∷ [] else [])
  given_one s ss is_put e alters only = those_named s.session s.id is_put e alters ss ∙ ap (of_those s.session is_put e alters) only

  -- a subscriber with history is given what matches and alters
  pub gives_history : (s : Subscriber K) (e : K) (alters : Bool) → s.history ≡ true → gives matching s.session e alters s ≡ (matching s.expr e && alters)
  gives_history s e alters history = rw (eq-eqb s.session s.session refl, history) refl

  -- what is said to another session isn't for it
  given_none : (n k id : ℕ) (is_put : Bool) (e : K) (alters : Bool) (ss : List (Subscriber K)) → (n == k) ≡ false → samples_for n id (news_of matching k is_put e alters ss) ≡ []
  given_none n k id is_put e alters [] other = refl
  given_none n k id is_put e alters (s ∷ ss) other =
      by_test (gives matching k e alters s) (λ given. rw (given, other) (given_none n k id is_put e alters ss other)) (λ given. rw given (given_none n k id is_put e alters ss other))

module _ {K : Type 0} (cmp : K → K → Ordering) (matching : K → K → Bool) where
  gone_none : (n k id token : ℕ) (ss : List (Subscriber K)) (all ts : List (Told K)) → (n == k) ≡ false → samples_for n id (gone_news cmp matching k token ss all ts) ≡ []
  gone_none n k id token ss all [] other = refl
  gone_none n k id token ss all (t ∷ ts) other =
      by_test ((k == t.session) && (token == t.id))
      (λ own. rw own (
      samples_for-append n id (news_of matching k false t.expr (not (keeps_beside cmp k token t.expr all)) ss) (gone_news cmp matching k token ss all ts)
      ∙ ap (λ xs. xs ++ samples_for n id (gone_news cmp matching k token ss all ts)) (given_none matching n k id false t.expr (not (keeps_beside cmp k token t.expr all)) ss other)
      ∙ gone_none n k id token ss all ts other
      ))
      (λ own. rw own (gone_none n k id token ss all ts other))

  -- a message to another session gives nothing
  pub nothing_for_others : (n k id : ℕ) (m : Message K) (ss : List (Subscriber K)) (told : List (Told K)) → (n == k) ≡ false → samples_for n id (news_by cmp matching ss k m told) ≡ []
  nothing_for_others n k id (message.DeclareToken token e interest node) ss told other =
      by_test (not (token == 0) && not (keeps_told cmp k e told)) (λ new. rw new (given_none matching n k id true e true ss other)) (λ new. rw new refl)
  nothing_for_others n k id (message.UndeclareToken token (Some e) node) ss told other = given_none matching n k id false e (keeps_told cmp k e told) ss other
  nothing_for_others n k id (message.UndeclareToken token None node) ss told other = gone_none n k id token ss told told other
  nothing_for_others n k id (message.DeclareFinal interest) ss told other = refl
  nothing_for_others n k id (message.Interest i mode options e) ss told other = refl
  nothing_for_others n k id (message.InterestFinal i) ss told other = refl
  nothing_for_others n k id (message.DeclareSubscriber i e interest) ss told other = refl
  nothing_for_others n k id (message.DeclareQueryable i e info interest) ss told other = refl
