-- For whom samples are: subscribers that were there.
use Rattle.std.proofs.Common.{◌≡◌, ℕ, ◌+◌, ◌≤◌, ◌==◌, ◌&&◌, Bool, true, false, not, Some, None, List, [], ◌∷◌, ◌++◌, filter, refl, sym, subst, ◌∙◌, arith, eqb-true, eq-eqb, ne_eqb}
use Rattle.std.proofs.lemmas.Bool.{and_parts}
use Rattle.std.specs.declared.cmp.Ordering.{Ordering}
use Rattle.zt_protocol.specs.declared.messages.Message.{Message}
use Rattle.zt_protocol.specs.declared.messages.Message.TheVariants as message
use Rattle.zt_model.specs.Says.{Sends}
use Rattle.zt_model.specs.Transcript.{Each}
use Rattle.zt_laws.proofs.Lists.{by_test, each_append}
use Rattle.zt_samples.specs.Samples.{gives, gone_news, is_for, keeps_beside, keeps_told, news_by, news_of, samples_for, started, without_sample}
use Rattle.zt_samples.specs.declared.samples.News.{News}
use Rattle.zt_samples.specs.declared.samples.Subscriber.{Subscriber}
use Rattle.zt_samples.specs.declared.samples.Told.{Told}
use Rattle.zt_liveliness.specs.Mail.{is_to_session, news_in, news_in_all, told_after}
use Rattle.zt_liveliness.specs.declared.books.Session.{Session}
use Rattle.zt_liveliness.proofs.Counts.{made_on}

-- what holds of the session and the id of each subscriber holds of each sample
abbrev pub OfSubscribers : {K : Type 0} → (ℕ → ℕ → Type 0) → List (Subscriber K) → Type 0
OfSubscribers P ss = Each (λ s. P s.session s.id) ss

abbrev pub OfNews : {K : Type 0} → (ℕ → ℕ → Type 0) → List (News K) → Type 0
OfNews P news = Each (λ one. P one.session one.subscriber) news

module _ {K : Type 0} (cmp : K → K → Ordering) (matching : K → K → Bool) (P : ℕ → ℕ → Type 0) where
  each_of : (n : ℕ) (is_put : Bool) (e : K) (alters : Bool) (ss : List (Subscriber K)) → OfSubscribers P ss → OfNews P (news_of matching n is_put e alters ss)
  each_of n is_put e alters [] all = tt
  each_of n is_put e alters (s ∷ ss) all =
      by_test (gives matching n e alters s)
      (λ given.
      let own : s.session ≡ n = sym (eqb-true n s.session (and_parts (n == s.session) _ given).0) in
      rw given (subst (λ (k : ℕ). P k s.id) own all.0, each_of n is_put e alters ss all.1))
      (λ given. rw given (each_of n is_put e alters ss all.1))

  each_gone : (n id : ℕ) (ss : List (Subscriber K)) (told ts : List (Told K)) → OfSubscribers P ss → OfNews P (gone_news cmp matching n id ss told ts)
  each_gone n id ss told [] all = tt
  each_gone n id ss told (t ∷ ts) all =
      by_test ((n == t.session) && (id == t.id))
      (λ own. rw own (each_append (λ one. P one.session one.subscriber) (news_of matching n false t.expr (not (keeps_beside cmp n id t.expr told)) ss) (gone_news cmp matching n id ss told ts) (each_of n false t.expr _ ss all) (each_gone n id ss told ts all)))
      (λ own. rw own (each_gone n id ss told ts all))

  each_by : (ss : List (Subscriber K)) (n : ℕ) (m : Message K) (told : List (Told K)) → OfSubscribers P ss → OfNews P (news_by cmp matching ss n m told)
  each_by ss n (message.DeclareToken id e interest node) told all =
      by_test (not (id == 0) && not (keeps_told cmp n e told)) (λ new. rw new (each_of n true e true ss all)) (λ new. rw new tt)
  each_by ss n (message.UndeclareToken id None node) told all = each_gone n id ss told told all
  each_by ss n (message.UndeclareToken id (Some e) node) told all = each_of n false e (keeps_told cmp n e told) ss all
  each_by ss n (message.DeclareFinal interest) told all = tt
  each_by ss n (message.Interest i mode options e) told all = tt
  each_by ss n (message.InterestFinal i) told all = tt
  each_by ss n (message.DeclareSubscriber i e interest) told all = tt
  each_by ss n (message.DeclareQueryable i e info interest) told all = tt

  each_in : (sessions : List Session) (ss : List (Subscriber K)) (m : ℕ × Message K) (told : List (Told K)) → OfSubscribers P ss → OfNews P (news_in cmp matching sessions ss m told)
  each_in sessions ss m told all = by_test (is_to_session sessions m) (λ to. rw to (each_by ss m.0 m.1 told all)) (λ to. rw to tt)

  pub news_of_subscribers : (sessions : List Session) (ss : List (Subscriber K)) (ms : Sends K) (told : List (Told K)) → OfSubscribers P ss → OfNews P (news_in_all cmp matching sessions ss ms told)
  news_of_subscribers sessions ss [] told all = tt
  news_of_subscribers sessions ss (m ∷ ms) told all =
      each_append (λ one. P one.session one.subscriber) (news_in cmp matching sessions ss m told) (news_in_all cmp matching sessions ss ms (told_after cmp sessions m told))
      (each_in sessions ss m told all) (news_of_subscribers sessions ss ms (told_after cmp sessions m told) all)

  -- what a subscriber begins with is for it
  pub started_for : (n id : ℕ) (e : K) (history : Bool) (ts : List (Told K)) → P n id → OfNews P (started matching n id e history ts)
  started_for n id e history [] mine = tt
  started_for n id e history (t ∷ ts) mine =
      by_test ((n == t.session) && (history && matching e t.expr)) (λ here. rw here (mine, started_for n id e history ts mine)) (λ here. rw here (started_for n id e history ts mine))

module _ {K : Type 0} where
  -- one is taken
  pub taken_leaves : (P : ℕ → ℕ → Type 0) (n id : ℕ) (news : List (News K)) → OfNews P news → OfNews P (without_sample n id news)
  taken_leaves P n id [] all = tt
  taken_leaves P n id (one ∷ news) all = by_test (is_for n id one) (λ here. rw here all.1) (λ here. rw here (all.0, taken_leaves P n id news all.1))

  -- samples of others
  pub none_for : (n id : ℕ) (news : List (News K)) → OfNews (λ k i. ((n == k) && (id == i)) ≡ false) news → samples_for n id news ≡ []
  none_for n id [] all = refl
  none_for n id (one ∷ news) all = rw all.0 (none_for n id news all.1)

-- an id that wasn't given is no subscriber's
pub id_is_new : (sessions : List Session) (n k i : ℕ) → i ≤ made_on k sessions → ((n == k) && (made_on n sessions + 1 == i)) ≡ false
id_is_new sessions n k i up =
    by_test (n == k)
    (λ own.
    let within : i ≤ made_on n sessions = subst (λ (m : ℕ). i ≤ made_on m sessions) (sym (eqb-true n k own)) up in
    rw (own, ne_eqb (made_on n sessions + 1) i (λ e. omega (arith, e, within))) refl)
    (λ own. rw own refl)
