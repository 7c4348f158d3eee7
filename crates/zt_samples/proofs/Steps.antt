-- Steps of loops over subscribers, over what was told, and over what waits.
use Rattle.std.proofs.Common.{◌≡◌, ℕ, ◌+◌, ◌<◌, ◌==◌, ◌&&◌, ◌++◌, not, Bool, true, false, Some, List, [], ◌∷◌, add-one, ap, append_assoc, drop, drop-cons, eq-eqb, get_or, length, refl, suc, sym, take, ◌∙◌}
use Rattle.std.proofs.Math.Seq.{take-suc}
use Rattle.std.specs.declared.cmp.Ordering.{Ordering}
use Rattle.zt_samples.specs.Samples.{gives, gone_news, is_for, keeps_beside, news_of, oldest_sample, sample_of, started, without_sample}
use Rattle.zt_samples.specs.declared.samples.News.{News}
use Rattle.zt_samples.specs.declared.samples.Sample.TheVariants.{Put}
use Rattle.zt_samples.specs.declared.samples.Subscriber.{Subscriber}
use Rattle.zt_samples.specs.declared.samples.Told.{Told}

pub drop_item : {A : Type 0} (xs : List A) (i : ℕ) (x : A) → i < length xs → x ≡ get_or xs i x → drop i xs ≡ x ∷ drop (i + 1) xs
drop_item xs i x within is = rw add-one (drop-cons xs i x within ∙ ap (λ y. y ∷ drop (suc i) xs) (sym is))

-- one item more is passed over
pub passed_over : {A : Type 0} (xs rest : List A) (i : ℕ) (x : A) → i < length xs → x ≡ get_or xs i x → take i xs ++ (x ∷ rest) ≡ take (i + 1) xs ++ rest
passed_over xs rest i x within is =
    rw add-one (ap (λ front. take i xs ++ front) (ap (λ y. y ∷ rest) is) ∙ sym (ap (λ front. front ++ rest) (take-suc xs i x within) ∙ append_assoc (take i xs) (get_or xs i x ∷ []) rest))

-- one item more is passed on
pub passed_on : {A : Type 0} (before rest all : List A) (x : A) → before ++ (x ∷ rest) ≡ all → (before ++ x ∷ []) ++ rest ≡ all
passed_on before rest all x is = append_assoc before (x ∷ []) rest ∙ is

-- and several
pub passed_on_all : {A : Type 0} (before some rest all : List A) → before ++ (some ++ rest) ≡ all → (before ++ some) ++ rest ≡ all
passed_on_all before some rest all is = append_assoc before some rest ∙ is

module _ {K : Type 0} where
  pub is_for_both : (n id : ℕ) (one : News K) → n ≡ one.session → id ≡ one.subscriber → is_for n id one ≡ true
  is_for_both n id one own mine = rw (eq-eqb n one.session own, eq-eqb id one.subscriber mine) refl

  pub sample_behind : (n id : ℕ) (news : List (News K)) (i : ℕ) (one : News K) → i < length news → one ≡ get_or news i one → is_for n id one ≡ false
      → oldest_sample n id (drop i news) ≡ oldest_sample n id (drop (i + 1) news)
  sample_behind n id news i one within is other = rw (drop_item news i one within is, other) refl

  pub left_behind : (n id : ℕ) (news : List (News K)) (i : ℕ) (one : News K) → i < length news → one ≡ get_or news i one → is_for n id one ≡ false
      → take i news ++ without_sample n id (drop i news) ≡ take (i + 1) news ++ without_sample n id (drop (i + 1) news)
  left_behind n id news i one within is other = rw (drop_item news i one within is, other) (passed_over news (without_sample n id (drop (i + 1) news)) i one within is)

  pub left_here : (n id : ℕ) (news : List (News K)) (i : ℕ) (one : News K) → i < length news → one ≡ get_or news i one → is_for n id one ≡ true
      → without_sample n id (drop i news) ≡ drop (suc i) news
  left_here n id news i one within is own = rw (drop_item news i one within is, own, add-one) refl

  pub sample_here : (n id : ℕ) (news : List (News K)) (i : ℕ) (one other : News K) → i < length news → one ≡ get_or news i one → is_for n id one ≡ true
      → oldest_sample n id (drop i news) ≡ Some one.sample
  sample_here n id news i one other within is own = rw (drop_item news i one within is, own) refl

module _ {K : Type 0} (matching : K → K → Bool) where
  pub given : (n : ℕ) (is_put : Bool) (e : K) (alters : Bool) (ss : List (Subscriber K)) (i : ℕ) (s : Subscriber K) → i < length ss → s ≡ get_or ss i s → gives matching n e alters s ≡ true
      → news_of matching n is_put e alters (drop i ss) ≡ record { session = n; subscriber = s.id; sample = sample_of is_put e } ∷ news_of matching n is_put e alters (drop (i + 1) ss)
  given n is_put e alters ss i s within is own = rw (drop_item ss i s within is, own) refl

  pub not_given : (n : ℕ) (is_put : Bool) (e : K) (alters : Bool) (ss : List (Subscriber K)) (i : ℕ) (s : Subscriber K) → i < length ss → s ≡ get_or ss i s → gives matching n e alters s ≡ false
      → news_of matching n is_put e alters (drop i ss) ≡ news_of matching n is_put e alters (drop (i + 1) ss)
  not_given n is_put e alters ss i s within is other = rw (drop_item ss i s within is, other) refl

  pub started_with : (n id : ℕ) (e : K) (history : Bool) (ts : List (Told K)) (i : ℕ) (t : Told K) → i < length ts → t ≡ get_or ts i t → ((n == t.session) && (history && matching e t.expr)) ≡ true
      → started matching n id e history (drop i ts) ≡ record { session = n; subscriber = id; sample = Put t.expr } ∷ started matching n id e history (drop (i + 1) ts)
  started_with n id e history ts i t within is own = rw (drop_item ts i t within is, own) refl

  pub not_started : (n id : ℕ) (e : K) (history : Bool) (ts : List (Told K)) (i : ℕ) (t : Told K) → i < length ts → t ≡ get_or ts i t → ((n == t.session) && (history && matching e t.expr)) ≡ false
      → started matching n id e history (drop i ts) ≡ started matching n id e history (drop (i + 1) ts)
  not_started n id e history ts i t within is other = rw (drop_item ts i t within is, other) refl

module _ {K : Type 0} (cmp : K → K → Ordering) (matching : K → K → Bool) where
  pub gone : (n id : ℕ) (ss : List (Subscriber K)) (all ts : List (Told K)) (i : ℕ) (t : Told K) → i < length ts → t ≡ get_or ts i t → ((n == t.session) && (id == t.id)) ≡ true
      → gone_news cmp matching n id ss all (drop i ts) ≡ news_of matching n false t.expr (not (keeps_beside cmp n id t.expr all)) ss ++ gone_news cmp matching n id ss all (drop (i + 1) ts)
  gone n id ss all ts i t within is own = rw (drop_item ts i t within is, own) refl

  pub not_gone : (n id : ℕ) (ss : List (Subscriber K)) (all ts : List (Told K)) (i : ℕ) (t : Told K) → i < length ts → t ≡ get_or ts i t → ((n == t.session) && (id == t.id)) ≡ false
      → gone_news cmp matching n id ss all (drop i ts) ≡ gone_news cmp matching n id ss all (drop (i + 1) ts)
  not_gone n id ss all ts i t within is other = rw (drop_item ts i t within is, other) refl
