-- The messages for a face among those that wait, as calls change these.
use Rattle.std.proofs.Common.{◌≡◌, ℕ, ◌==◌, true, false, not, nat_le, filter, [], ◌∷◌, refl, sym, ap, ◌∙◌, eqb-true, eq-eqb, leb-false, arith}
use Rattle.zt_protocol.specs.declared.messages.Message.{Message}
use Rattle.zt_model.specs.Hearing.{messages_for}
use Rattle.zt_model.specs.Says.{Sends}
use Rattle.zt_laws.proofs.Lists.{by_test, never}
use Rattle.zt_gateway.specs.Running.{by_face, with_send, without_oldest}

module _ {K : Type 0} where
  -- a message stands before others of its face
  messages_for-with_send : (n : ℕ) (m : ℕ × Message K) (ss : Sends K) → messages_for n (with_send m ss) ≡ messages_for n (m ∷ ss)
  unfolding messages_for
  messages_for-with_send n m [] = refl
  messages_for-with_send n m (s ∷ ss) = by_test (nat_le m.0 s.0) (λ here. rw here refl) (λ here. rw here (apart (messages_for-with_send n m ss) here))
    where
      -- s is for a lower face
      apart : messages_for n (with_send m ss) ≡ messages_for n (m ∷ ss) → nat_le m.0 s.0 ≡ false → messages_for n (s ∷ with_send m ss) ≡ messages_for n (m ∷ s ∷ ss)
      apart later here =
          by_test (n == s.0)
          (λ one. by_test (n == m.0)
          (λ two. absurd (both one two here))
          (λ two. rw (one, two) (ap (λ rest. s.1 ∷ rest) (later ∙ rw two refl))))
          (λ one. rw one later)
        where
          both : (n == s.0) ≡ true → (n == m.0) ≡ true → nat_le m.0 s.0 ≡ false → ⊥
          both one two above =
              let same_ : m.0 ≡ s.0 = sym (eqb-true n m.0 two) ∙ eqb-true n s.0 one in
              let above_ = leb-false m.0 s.0 above in
              omega (arith, same_, above_)

  -- the order by face leaves the order of each face's messages
  pub messages_for-by_face : (n : ℕ) (ss : Sends K) → messages_for n (by_face ss) ≡ messages_for n ss
  unfolding messages_for
  messages_for-by_face n [] = refl
  messages_for-by_face n (s ∷ ss) =
      messages_for-with_send n s (by_face ss)
      ∙ by_test (n == s.0) (λ here. rw here (ap (λ rest. s.1 ∷ rest) (messages_for-by_face n ss))) (λ here. rw here (messages_for-by_face n ss))

  -- another face closes
  pub messages_for-other_closed : (n k : ℕ) (ss : Sends K) → (k == n) ≡ false → messages_for n (filter (λ s. not (k == s.0)) ss) ≡ messages_for n ss
  unfolding messages_for
  messages_for-other_closed n k [] other = refl
  messages_for-other_closed n k (s ∷ ss) other =
      by_test (k == s.0)
      (λ closed. by_test (n == s.0)
      (λ own. never (both closed own) other)
      (λ own. rw (closed, own) (messages_for-other_closed n k ss other)))
      (λ closed. by_test (n == s.0)
      (λ own. rw (closed, own) (ap (λ rest. s.1 ∷ rest) (messages_for-other_closed n k ss other)))
      (λ own. rw (closed, own) (messages_for-other_closed n k ss other)))
    where
      both : (k == s.0) ≡ true → (n == s.0) ≡ true → (k == n) ≡ true
      both closed own = eq-eqb k n (eqb-true k s.0 closed ∙ sym (eqb-true n s.0 own))

  -- a message for another face is taken
  pub messages_for-other_taken : (n k : ℕ) (ss : Sends K) → (k == n) ≡ false → messages_for n (without_oldest k ss) ≡ messages_for n ss
  unfolding messages_for
  messages_for-other_taken n k [] other = refl
  messages_for-other_taken n k (s ∷ ss) other =
      by_test (k == s.0)
      (λ taken. by_test (n == s.0)
      (λ own. never (both taken own) other)
      (λ own. rw (taken, own) refl))
      (λ taken. by_test (n == s.0)
      (λ own. rw (taken, own) (ap (λ rest. s.1 ∷ rest) (messages_for-other_taken n k ss other)))
      (λ own. rw (taken, own) (messages_for-other_taken n k ss other)))
    where
      both : (k == s.0) ≡ true → (n == s.0) ≡ true → (k == n) ≡ true
      both taken own = eq-eqb k n (eqb-true k s.0 taken ∙ sym (eqb-true n s.0 own))
