-- What is looked for from the front of a list.
use Rattle.std.proofs.Common.{◌≡◌, ◌≢◌, ℕ, ◌+◌, ◌<◌, zero, suc, arith, set, Bool, true, false, None, Some, Option, List, [], ◌∷◌, ◌++◌, add-one, ap, append_assoc, drop, drop-cons, eq-eqb, get_or, length, ne_eqb, refl, slice_get, subst, sym, take, ◌∙◌}
use Rattle.std.proofs.Math.Seq.{take-suc}
use Rattle.std.specs.Option.{is_some}
use Rattle.zt_protocol.specs.declared.messages.Message.{Message}
use Rattle.zt_model.specs.Says.{Sends}
use Rattle.zt_gateway.specs.Running.{oldest_for, without_oldest}
use Rattle.zt_liveliness.specs.Books.{find_session, with_session}
use Rattle.zt_liveliness.specs.Lively.{Lively, is_asking, left_by, live_in, reply_by, reply_of}
use Rattle.zt_liveliness.specs.Queues.{answer_for, oldest_answer, reply_in, without_answer}
use Rattle.zt_liveliness.specs.declared.books.Session.{Session}

pub drop_item : {A : Type 0} (xs : List A) (i : ℕ) (x : A) → i < length xs → x ≡ get_or xs i x → drop i xs ≡ x ∷ drop (i + 1) xs
drop_item xs i x within is = rw add-one (drop-cons xs i x within ∙ ap (λ y. y ∷ drop (suc i) xs) (sym is))

pub take_item : {A : Type 0} (xs : List A) (i : ℕ) (x : A) → i < length xs → x ≡ get_or xs i x → take (i + 1) xs ≡ take i xs ++ (x ∷ [])
take_item xs i x within is = rw add-one (take-suc xs i x within ∙ ap (λ y. take i xs ++ (y ∷ [])) (sym is))

-- the items so far, with one more
pub take_more : {A : Type 0} (xs : List A) (i : ℕ) (x : A) → Some x ≡ slice_get xs i → take (i + 1) xs ≡ take i xs ++ x ∷ []
take_more [] i x is = cc
take_more (y ∷ ys) zero x is = cc
take_more (y ∷ ys) (suc i) x is =
    let more : suc i + 1 ≡ suc (i + 1) = omega arith in
    rw more (ap (λ rest. y ∷ rest) (take_more ys i x is))

-- one item more is passed over
pub passed_over : {A : Type 0} (xs rest : List A) (i : ℕ) (x : A) → i < length xs → x ≡ get_or xs i x → take i xs ++ (x ∷ rest) ≡ take (i + 1) xs ++ rest
passed_over xs rest i x within is = rw (take_item xs i x within is) (sym (append_assoc (take i xs) (x ∷ []) rest))

-- ---- sessions

pub found_behind : (n : ℕ) (ss : List Session) (i : ℕ) (s : Session) → i < length ss → s ≡ get_or ss i s → n ≢ s.number
    → find_session n (drop i ss) ≡ find_session n (drop (i + 1) ss)
found_behind n ss i s within is other = rw (drop_item ss i s within is, ne_eqb n s.number other) refl

pub changed_behind : (n : ℕ) (change : Session → Session) (ss : List Session) (i : ℕ) (s : Session) → i < length ss → s ≡ get_or ss i s → n ≢ s.number
    → take i ss ++ with_session n change (drop i ss) ≡ take (i + 1) ss ++ with_session n change (drop (i + 1) ss)
changed_behind n change ss i s within is other =
    rw (drop_item ss i s within is, ne_eqb n s.number other) (passed_over ss (with_session n change (drop (i + 1) ss)) i s within is)

-- the session is here, and changed
pub changed_here : (n : ℕ) (change : Session → Session) (ss : List Session) (i : ℕ) (one other : Session) → i < length ss → n ≡ (get_or ss i one).number
    → take i ss ++ with_session n change (drop i ss) ≡ set ss i (change (get_or ss i other))
changed_here n change [] i one other within own = absurd (omega (arith, within))
changed_here n change (s ∷ ss) zero one other within own = rw (eq-eqb n s.number own) refl
changed_here n change (s ∷ ss) (suc i) one other within own = ap (λ rest. s ∷ rest) (changed_here n change ss i one other (omega (arith, within)) own)

module _ {K : Type 0} where
  -- ---- messages for an uplink

  pub oldest_behind : (face : ℕ) (ss : Sends K) (i : ℕ) (s : ℕ × Message K) → i < length ss → s ≡ get_or ss i s → face ≢ s.0
      → oldest_for face (drop i ss) ≡ oldest_for face (drop (i + 1) ss)
  oldest_behind face ss i s within is other = rw (drop_item ss i s within is, ne_eqb face s.0 other) refl

  pub left_behind : (face : ℕ) (ss : Sends K) (i : ℕ) (s : ℕ × Message K) → i < length ss → s ≡ get_or ss i s → face ≢ s.0
      → take i ss ++ without_oldest face (drop i ss) ≡ take (i + 1) ss ++ without_oldest face (drop (i + 1) ss)
  left_behind face ss i s within is other =
      rw (drop_item ss i s within is, ne_eqb face s.0 other) (passed_over ss (without_oldest face (drop (i + 1) ss)) i s within is)

  pub left_here : (face : ℕ) (ss : Sends K) (i : ℕ) (s : ℕ × Message K) → i < length ss → s ≡ get_or ss i s → face ≡ s.0
      → without_oldest face (drop i ss) ≡ drop (suc i) ss
  left_here face ss i s within is own = rw (drop_item ss i s within is, eq-eqb face s.0 own, add-one) refl

  -- ---- answers

  pub answer_behind : (session id : ℕ) (ss : Sends K) (i : ℕ) (s : ℕ × Message K) → i < length ss → s ≡ get_or ss i s → is_some (answer_for session id s) ≡ false
      → oldest_answer session id (drop i ss) ≡ oldest_answer session id (drop (i + 1) ss)
  answer_behind session id ss i s within is other = rw (drop_item ss i s within is, other) refl

  pub answer_here : (session id : ℕ) (ss : Sends K) (i : ℕ) (s : ℕ × Message K) → i < length ss → s ≡ get_or ss i s → is_some (answer_for session id s) ≡ true
      → oldest_answer session id (drop i ss) ≡ answer_for session id s
  answer_here session id ss i s within is own = rw (drop_item ss i s within is, own) refl

  pub unanswered_behind : (session id : ℕ) (ss : Sends K) (i : ℕ) (s : ℕ × Message K) → i < length ss → s ≡ get_or ss i s → is_some (answer_for session id s) ≡ false
      → take i ss ++ without_answer session id (drop i ss) ≡ take (i + 1) ss ++ without_answer session id (drop (i + 1) ss)
  unanswered_behind session id ss i s within is other =
      rw (drop_item ss i s within is, other) (passed_over ss (without_answer session id (drop (i + 1) ss)) i s within is)

  pub unanswered_here : (session id : ℕ) (ss : Sends K) (i : ℕ) (s : ℕ × Message K) → i < length ss → s ≡ get_or ss i s → is_some (answer_for session id s) ≡ true
      → without_answer session id (drop i ss) ≡ drop (suc i) ss
  unanswered_here session id ss i s within is own = rw (drop_item ss i s within is, own, add-one) refl

  -- the expression of what a query that is open is given next
  pub live_by : (oldest : Option (Option K)) → live_in (reply_by true oldest) ≡ reply_in oldest
  live_by None = refl
  live_by (Some None) = refl
  live_by (Some (Some e)) = refl

  -- where nothing answers, nothing is taken
  pub unanswered_all : (session id : ℕ) (ss : Sends K) → oldest_answer session id ss ≡ None → without_answer session id ss ≡ ss
  unanswered_all session id [] none = refl
  unanswered_all session id (s ∷ ss) none = cases (unanswered_all session id ss) (answer_for session id s) refl
    where
      cases : (oldest_answer session id ss ≡ None → without_answer session id ss ≡ ss) → (o : Option (Option K)) → answer_for session id s ≡ o → without_answer session id (s ∷ ss) ≡ s ∷ ss
      cases later None is = rw is (ap (λ rest. s ∷ rest) (later (rw is at none)))
      cases later (Some answer) is = let wrong = rw is at none in cc

  -- where no answer waits, a query that is open is left as it was
  pub unanswered_left : (session id : ℕ) (l : Lively K) → is_asking session id l ≡ true → oldest_answer session id l.waiting ≡ None → left_by session id (reply_of session id l) l ≡ l
  unanswered_left session id l asking none =
      let oldest = oldest_answer session id l.waiting in
      subst (λ (b : Bool). left_by session id (reply_by b oldest) l ≡ l) (sym asking)
      (subst (λ (o : Option (Option K)). left_by session id (reply_by true o) l ≡ l) (sym none) refl)
