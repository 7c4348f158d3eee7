-- What a face owes, and what it costs to send it messages.
use Rattle.std.proofs.Common.{◌≡◌, ℕ, ◌+◌, ◌≤◌, Bool, true, false, not, ◌&&◌, ◌==◌, List, [], ◌∷◌, ◌++◌, filter, Option, Some, None, refl, sym, ◌∙◌, arith, le_trans}
use Rattle.std.specs.Ordering.{nat_cmp}
use Rattle.std.specs.declared.cmp.Ordering.{Ordering}
use Rattle.std.specs.declared.cmp.Ordering.TheVariants.{Less, Equal, Greater}
use Rattle.std.specs.FinMap.Entries.{by_order, put}
use Rattle.zt_protocol.specs.declared.messages.Message.{Message}
use Rattle.zt_protocol.specs.declared.messages.Message.TheVariants as message
use Rattle.zt_model.specs.Hearing.{asks_answered, heard, heard_all, put_if, with_answer}
use Rattle.zt_model.specs.Lists.{is_among}
use Rattle.zt_model.specs.Rows.{Ask, ById, Face}
use Rattle.zt_model.specs.Transcript.{Each}
use Rattle.zt_laws.proofs.Lists.{by_test, each_always, any-append, of_cond}
use Rattle.zt_theorem_tree_rest.proofs.Sums.{times, total, total-map, total_filter, total_less}

-- what is put under an id costs no more than what stood and it
pub total_put : {A : Type 0} (w : A → ℕ) (id : ℕ) (x : A) (rows : ById A) → total (λ row. w row.1) (put nat_cmp id x rows) ≤ total (λ row. w row.1) rows + w x
total_put w id x [] = omega arith
total_put w id x (row ∷ rows) =
    let rest = total_put w id x rows in
    elim (nat_cmp id row.0) as (λ o. total (λ row. w row.1) (by_order o ((id, x) ∷ row ∷ rows) ((row.0, x) ∷ rows) (row ∷ put nat_cmp id x rows)) ≤ total (λ row. w row.1) (row ∷ rows) + w x) [
      | Less ↦ omega arith
      | Equal ↦ omega arith
      | Greater ↦ omega arith
    ]

pub total_put_if : {A : Type 0} (w : A → ℕ) (b : Bool) (id : ℕ) (x : A) (rows : ById A) → total (λ row. w row.1) (put_if b id x rows) ≤ total (λ row. w row.1) rows + w x
total_put_if w true id x rows = total_put w id x rows
total_put_if w false id x rows = omega arith

-- messages that leave what a face was sent up, and end no interest
abbrev pub IsMild : {K : Type 0} → Message K → Type 0
IsMild (message.Interest id mode options e) = ⊥
IsMild (message.InterestFinal id) = ⊥
IsMild _ = Unit {0}

-- `tokens` are all that can be answered, `price` is what a message to a face of this number comes to, and `end_price`
-- what the end of an interest does.
module _ {K : Type 0} (cmp : K → K → Ordering) (tokens : List K) (price : ℕ → ℕ) (end_price : ℕ) where
  abbrev pub message_price : ℕ → Message K → ℕ
  message_price n (message.InterestFinal id) = end_price
  message_price n _ = price n

  -- what an ask can still be answered, with its final
  abbrev pub left : ℕ → Ask K → ℕ
  left n ask = price n + times (price n) (filter (λ e. not (is_among cmp e ask.answered)) tokens)

  abbrev pub owed : Face K → ℕ
  owed f = times end_price f.locals + total (λ row. left f.number row.1) f.asks

  -- ---- what is answered is owed no more

  fewer : (n : ℕ) (p q : K → Bool) → ((e : K) → q e ≡ true → p e ≡ true) → (es : List K) → times n (filter (λ e. not (p e)) es) ≤ times n (filter (λ e. not (q e)) es)
  fewer n p q h [] = omega arith
  fewer n p q h (e ∷ es) =
      let rest = fewer n p q h es in
      by_test (p e)
      (λ here. rw here (of_cond (λ (xs : List K). times n (filter (λ e. not (p e)) es) ≤ times n xs) (not (q e)) (e ∷ filter (λ e. not (q e)) es) (filter (λ e. not (q e)) es) (λ _. omega arith) (λ _. rest)))
      (λ here.
      by_test (q e)
      (λ there. let bad : true ≡ false = sym (h e there) ∙ here in cc)
      (λ there. rw (here, there) (omega arith)))

  among_more : (e x : K) (es : List K) → is_among cmp e es ≡ true → is_among cmp e (es ++ x ∷ []) ≡ true
  among_more e x es there = any-append (λ y. _) es (x ∷ []) ∙ rw there refl

  pub answered_owes_less : (n id : ℕ) (e : K) (row : ℕ × Ask K) → left n (with_answer cmp id e row).1 ≤ left n row.1
  answered_owes_less n id e row =
      of_cond (λ (r : ℕ × Ask K). left n r.1 ≤ left n row.1) ((id == row.0) && not (is_among cmp e row.1.answered)) (row.0, record row.1 { answered = row.1.answered ++ e ∷ [] }) row
      (λ _. let less = fewer (price n) (λ x. is_among cmp x (row.1.answered ++ e ∷ [])) (λ x. is_among cmp x row.1.answered) (λ x there. among_more x e row.1.answered there) tokens in omega arith)
      (λ _. omega arith)

  asks_owe_less : (n : ℕ) (interest : Option ℕ) (e : K) (asks : ById (Ask K)) → total (λ row. left n row.1) (asks_answered cmp interest e asks) ≤ total (λ row. left n row.1) asks
  asks_owe_less n None e asks = omega arith
  asks_owe_less n (Some id) e asks =
      let is = total-map (λ (row : ℕ × Ask K). left n row.1) (with_answer cmp id e) asks in
      let less = total_less (λ (row : ℕ × Ask K). left n (with_answer cmp id e row).1) (λ row. left n row.1) asks (each_always (λ (row : ℕ × Ask K). left n (with_answer cmp id e row).1 ≤ left n row.1) (λ row. answered_owes_less n id e row) asks) in
      omega arith

  -- ---- mild messages

  mild_owes_less : (now : ℕ) (m : Message K) (f : Face K) → IsMild m → owed (heard cmp now m f) ≤ owed f
  mild_owes_less now (message.DeclareToken id e interest node) f mild = let less = asks_owe_less f.number interest e f.asks in omega arith
  mild_owes_less now (message.UndeclareToken id e node) f mild = omega arith
  mild_owes_less now (message.DeclareFinal id) f mild = let less = total_filter (λ (row : ℕ × Ask K). left f.number row.1) (λ row. not (id == row.0)) f.asks in omega arith
  mild_owes_less now (message.Interest id mode options e) f mild = absurd mild
  mild_owes_less now (message.InterestFinal id) f mild = absurd mild
  mild_owes_less now (message.DeclareSubscriber id e interest) f mild = omega arith
  mild_owes_less now (message.DeclareQueryable id e info interest) f mild = omega arith

  pub mild_owe_less : (now : ℕ) (ms : List (Message K)) (f : Face K) → Each IsMild ms → owed (heard_all cmp now ms f) ≤ owed f
  unfolding heard_all
  mild_owe_less now [] f mild = omega arith
  mild_owe_less now (m ∷ ms) f mild = le_trans (mild_owe_less now ms (heard cmp now m f) mild.1) (mild_owes_less now m f mild.0)

  mild_price : (n : ℕ) (m : Message K) → IsMild m → message_price n m ≡ price n
  mild_price n (message.DeclareToken id e interest node) mild = refl
  mild_price n (message.UndeclareToken id e node) mild = refl
  mild_price n (message.DeclareFinal id) mild = refl
  mild_price n (message.Interest id mode options e) mild = absurd mild
  mild_price n (message.InterestFinal id) mild = absurd mild
  mild_price n (message.DeclareSubscriber id e interest) mild = refl
  mild_price n (message.DeclareQueryable id e info interest) mild = refl

  pub mild_prices : (n : ℕ) (ms : List (Message K)) → Each IsMild ms → total (message_price n) ms ≡ times (price n) ms
  mild_prices n [] mild = refl
  mild_prices n (m ∷ ms) mild = let one = mild_price n m mild.0 in let rest = mild_prices n ms mild.1 in omega arith

  -- a face is sent so much, and what it owes then
  abbrev pub Pays : ℕ → Face K → ℕ → List (Message K) → Type 0
  Pays now f most ms = total (message_price f.number) ms + owed (heard_all cmp now ms f) ≤ owed f + most

  pub mild_pay : (now : ℕ) (f : Face K) (ms : List (Message K)) → Each IsMild ms → Pays now f (times (price f.number) ms) ms
  mild_pay now f ms mild = let one = mild_prices f.number ms mild in let two = mild_owe_less now ms f mild in omega arith
