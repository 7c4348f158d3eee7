-- What a session was told is what a face is told by the same messages.
use Rattle.std.proofs.Common.{◌≡◌, ℕ, ◌==◌, ◌&&◌, ◌||◌, Bool, true, false, not, Option, Some, None, List, [], ◌∷◌, ◌++◌, filter, refl, sym, ap, subst, ◌∙◌, append-nil, eqb-true, eq-eqb}
use Rattle.std.specs.List.{list_any}
use Rattle.std.specs.Option.{is_some}
use Rattle.std.specs.declared.cmp.Ordering.{Ordering}
use Rattle.zt_protocol.specs.declared.messages.Message.{Message}
use Rattle.zt_protocol.specs.declared.messages.Message.TheVariants as message
use Rattle.zt_model.specs.Hearing.{messages_for, told_pair}
use Rattle.zt_model.specs.Lists.{same}
use Rattle.zt_model.specs.Says.{Sends}
use Rattle.zt_model.specs.Transcript.{Each}
use Rattle.zt_laws.specs.Kept as kept
use Rattle.zt_laws.proofs.Lists.{by_test, each_append, each_filter, never}
use Rattle.zt_samples.specs.Samples.{has_told, told_by, told_to, with_told}
use Rattle.zt_samples.specs.declared.samples.Told.{Told}
use Rattle.zt_liveliness.specs.Books.{find_session}
use Rattle.zt_liveliness.specs.Mail.{is_to_session, told_after, told_after_all}
use Rattle.zt_liveliness.specs.declared.books.Session.{Session}

module _ {K : Type 0} where
  told_to-append : (n : ℕ) (xs ys : List (Told K)) → told_to n (xs ++ ys) ≡ told_to n xs ++ told_to n ys
  told_to-append n [] ys = refl
  told_to-append n (x ∷ xs) ys =
      by_test (n == x.session) (λ own. rw own (ap (λ rest. (x.id, x.expr) ∷ rest) (told_to-append n xs ys))) (λ own. rw own (told_to-append n xs ys))

  -- rows of a session are taken away
  told_to-own : (n : ℕ) (p : ℕ × K → Bool) (ts : List (Told K)) → told_to n (filter (λ t. not ((n == t.session) && p (t.id, t.expr))) ts) ≡ filter (λ row. not (p row)) (told_to n ts)
  told_to-own n p [] = refl
  told_to-own n p (t ∷ ts) =
      by_test (n == t.session)
      (λ own. by_test (p (t.id, t.expr))
      (λ gone. rw (own, gone) (told_to-own n p ts))
      (λ gone. rw (own, gone, own) (ap (λ rest. (t.id, t.expr) ∷ rest) (told_to-own n p ts))))
      (λ own. rw (own, own) (told_to-own n p ts))

  -- and those of another
  told_to-other : (n k : ℕ) (p : Told K → Bool) (ts : List (Told K)) → (n == k) ≡ false → told_to n (filter (λ t. not ((k == t.session) && p t)) ts) ≡ told_to n ts
  told_to-other n k p [] other = refl
  told_to-other n k p (t ∷ ts) other =
      by_test (n == t.session)
      (λ own.
      let apart : (k == t.session) ≡ false = by_test (k == t.session) (λ there. never (eq-eqb n k (eqb-true n t.session own ∙ sym (eqb-true k t.session there))) other) (λ there. there) in
      rw (apart, own) (ap (λ rest. (t.id, t.expr) ∷ rest) (told_to-other n k p ts other)))
      (λ own. by_test ((k == t.session) && p t)
      (λ gone. rw (gone, own) (told_to-other n k p ts other))
      (λ gone. rw (gone, own) (told_to-other n k p ts other)))

  -- the rows of all but a session
  pub told_to-closed : (n k : ℕ) (ts : List (Told K)) → (n == k) ≡ false → told_to n (filter (λ t. not (k == t.session)) ts) ≡ told_to n ts
  told_to-closed n k [] other = refl
  told_to-closed n k (t ∷ ts) other =
      by_test (n == t.session)
      (λ own.
      let apart : (k == t.session) ≡ false = by_test (k == t.session) (λ there. never (eq-eqb n k (eqb-true n t.session own ∙ sym (eqb-true k t.session there))) other) (λ there. there) in
      rw (apart, own) (ap (λ rest. (t.id, t.expr) ∷ rest) (told_to-closed n k ts other)))
      (λ own. by_test (k == t.session)
      (λ gone. rw (gone, own) (told_to-closed n k ts other))
      (λ gone. rw (gone, own) (told_to-closed n k ts other)))

  -- nothing was told to a session that no row is of
  pub told_to-none : (n : ℕ) (ts : List (Told K)) → Each (λ t. (n == t.session) ≡ false) ts → told_to n ts ≡ []
  told_to-none n [] none = refl
  told_to-none n (t ∷ ts) none = rw none.0 (told_to-none n ts none.1)

module _ {K : Type 0} (cmp : K → K → Ordering) where
  has_told_is : (n id : ℕ) (e : K) (ts : List (Told K)) → has_told cmp n id e ts ≡ list_any (λ row. (id == row.0) && same cmp e row.1) (told_to n ts)
  has_told_is n id e [] = refl
  has_told_is n id e (t ∷ ts) =
      by_test (n == t.session) (λ own. rw own (ap (λ b. ((id == t.id) && same cmp e t.expr) || b) (has_told_is n id e ts))) (λ own. rw own (has_told_is n id e ts))

  pair_own : (n id : ℕ) (e : K) (ts : List (Told K)) → told_to n (with_told cmp n id e ts) ≡ told_pair cmp id e (told_to n ts)
  pair_own n id e ts =
      let any : Bool = list_any (λ row. (id == row.0) && same cmp e row.1) (told_to n ts) in
      let one : (id == 0 || has_told cmp n id e ts) ≡ (id == 0 || any) = ap (λ b. id == 0 || b) (has_told_is n id e ts) in
      by_test (id == 0 || has_told cmp n id e ts)
      (λ there. let also : (id == 0 || any) ≡ true = sym one ∙ there in rw (there, also) refl)
      (λ there. let also : (id == 0 || any) ≡ false = sym one ∙ there in rw (there, also) (told_to-append n ts (record { session = n; id = id; expr = e } ∷ []) ∙ rw (eq-eqb n n refl) refl))

  pair_other : (n k id : ℕ) (e : K) (ts : List (Told K)) → (n == k) ≡ false → told_to n (with_told cmp k id e ts) ≡ told_to n ts
  pair_other n k id e ts other =
      by_test (id == 0 || has_told cmp k id e ts)
      (λ there. rw there refl)
      (λ there. rw there (told_to-append n ts (record { session = k; id = id; expr = e } ∷ []) ∙ rw other (append-nil (told_to n ts))))

  -- a message to the session
  heard_own : (n : ℕ) (m : Message K) (ts : List (Told K)) (t : kept.Told K) → t.rows ≡ told_to n ts → (kept.told_by cmp m t).rows ≡ told_to n (told_by cmp n m ts)
  heard_own n (message.DeclareToken id e interest node) ts t is = ap (told_pair cmp id e) is ∙ sym (pair_own n id e ts)
  heard_own n (message.UndeclareToken id None node) ts t is = ap (filter (λ row. not (id == row.0))) is ∙ sym (told_to-own n (λ row. id == row.0) ts)
  heard_own n (message.UndeclareToken id (Some e) node) ts t is = ap (filter (λ row. not (same cmp e row.1))) is ∙ sym (told_to-own n (λ row. same cmp e row.1) ts)
  heard_own n (message.DeclareFinal interest) ts t is = is
  heard_own n (message.Interest i mode options e) ts t is = is
  heard_own n (message.InterestFinal i) ts t is = is
  heard_own n (message.DeclareSubscriber i e interest) ts t is = is
  heard_own n (message.DeclareQueryable i e info interest) ts t is = is

  -- a message to another
  heard_other : (n k : ℕ) (m : Message K) (ts : List (Told K)) → (n == k) ≡ false → told_to n (told_by cmp k m ts) ≡ told_to n ts
  heard_other n k (message.DeclareToken id e interest node) ts other = pair_other n k id e ts other
  heard_other n k (message.UndeclareToken id None node) ts other = told_to-other n k (λ t. id == t.id) ts other
  heard_other n k (message.UndeclareToken id (Some e) node) ts other = told_to-other n k (λ t. same cmp e t.expr) ts other
  heard_other n k (message.DeclareFinal interest) ts other = refl
  heard_other n k (message.Interest i mode options e) ts other = refl
  heard_other n k (message.InterestFinal i) ts other = refl
  heard_other n k (message.DeclareSubscriber i e interest) ts other = refl
  heard_other n k (message.DeclareQueryable i e info interest) ts other = refl

  -- messages to faces, the oldest first
  pub heard_after_all : (sessions : List Session) (n : ℕ) (ss : Sends K) (ts : List (Told K)) (t : kept.Told K) → is_some (find_session n sessions) ≡ true → t.rows ≡ told_to n ts
      → (kept.told_by_all cmp (messages_for n ss) t).rows ≡ told_to n (told_after_all cmp sessions ss ts)
  unfolding messages_for
  heard_after_all sessions n [] ts t open_ is = is
  heard_after_all sessions n (s ∷ ss) ts t open_ is =
      by_test (n == s.0)
      (λ own. rw own (heard_after_all sessions n ss (told_after cmp sessions s ts) (kept.told_by cmp s.1 t) open_ (to_own own)))
      (λ own. rw own (heard_after_all sessions n ss (told_after cmp sessions s ts) t open_ (is ∙ sym (to_other own))))
    where
      to_own : (n == s.0) ≡ true → (kept.told_by cmp s.1 t).rows ≡ told_to n (told_after cmp sessions s ts)
      to_own own =
          let one : n ≡ s.0 = eqb-true n s.0 own in
          let to : is_to_session sessions s ≡ true = subst (λ (k : ℕ). is_some (find_session k sessions) ≡ true) one open_ in
          rw to (heard_own n s.1 ts t is ∙ ap (λ (k : ℕ). told_to n (told_by cmp k s.1 ts)) one)

      to_other : (n == s.0) ≡ false → told_to n (told_after cmp sessions s ts) ≡ told_to n ts
      to_other other = by_test (is_to_session sessions s) (λ to. rw to (heard_other n s.0 s.1 ts other)) (λ to. rw to refl)

  -- ---- whose rows there are

  rows_heard_of : (P : ℕ → Type 0) (k : ℕ) (m : Message K) (ts : List (Told K)) → P k → Each (λ t. P t.session) ts → Each (λ t. P t.session) (told_by cmp k m ts)
  rows_heard_of P k (message.DeclareToken id e interest node) ts here all =
      by_test (id == 0 || has_told cmp k id e ts) (λ there. rw there all) (λ there. rw there (each_append (λ t. P t.session) ts (record { session = k; id = id; expr = e } ∷ []) all (here, tt)))
  rows_heard_of P k (message.UndeclareToken id None node) ts here all = each_filter (λ t. P t.session) (λ t. not ((k == t.session) && (id == t.id))) ts all
  rows_heard_of P k (message.UndeclareToken id (Some e) node) ts here all = each_filter (λ t. P t.session) (λ t. not ((k == t.session) && same cmp e t.expr)) ts all
  rows_heard_of P k (message.DeclareFinal interest) ts here all = all
  rows_heard_of P k (message.Interest i mode options e) ts here all = all
  rows_heard_of P k (message.InterestFinal i) ts here all = all
  rows_heard_of P k (message.DeclareSubscriber i e interest) ts here all = all
  rows_heard_of P k (message.DeclareQueryable i e info interest) ts here all = all

  -- they are of sessions
  pub rows_of_sessions : (sessions : List Session) (ss : Sends K) (ts : List (Told K)) → Each (λ t. is_some (find_session t.session sessions) ≡ true) ts
      → Each (λ t. is_some (find_session t.session sessions) ≡ true) (told_after_all cmp sessions ss ts)
  rows_of_sessions sessions [] ts all = all
  rows_of_sessions sessions (s ∷ ss) ts all = rows_of_sessions sessions ss (told_after cmp sessions s ts) here
    where
      here : Each (λ t. is_some (find_session t.session sessions) ≡ true) (told_after cmp sessions s ts)
      here = by_test (is_to_session sessions s) (λ to. rw to (rows_heard_of (λ n. is_some (find_session n sessions) ≡ true) s.0 s.1 ts to all)) (λ to. rw to all)
