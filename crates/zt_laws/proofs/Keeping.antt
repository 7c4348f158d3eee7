-- What a face keeps after messages is what they say, one by one.
use Rattle.std.proofs.Common.{◌≡◌, ℕ, max, Bool, true, false, cond, not, ◌&&◌, ◌||◌, ◌==◌, List, [], ◌∷◌, ◌++◌, filter, Some, None, refl, sym, ap, ◌∙◌, arith, eqb-true}
use Rattle.std.proofs.Math.Bool.{or-false}
use Rattle.std.proofs.lemmas.Bool.{and_parts, or_left}
use Rattle.std.specs.Cmp.{IsTotalOrder}
use Rattle.std.specs.declared.cmp.Ordering.{Ordering}
use Rattle.zt_protocol.specs.declared.messages.Message.{Message}
use Rattle.zt_protocol.specs.declared.messages.Message.TheVariants.{DeclareToken, UndeclareToken, DeclareFinal, Interest, InterestFinal, DeclareSubscriber, DeclareQueryable}
use Rattle.zt_model.specs.Hearing.{heard, heard_all, told_pair}
use Rattle.zt_model.specs.Lists.{same}
use Rattle.zt_model.specs.Rows.{Ask, ById, Face, InterestRow, Pending}
use Rattle.zt_laws.specs.Kept.{has_pair, is_kept, is_kept_by, next_sent, next_sent_by, told_by, told_by_all, told_of}
use Rattle.zt_laws.proofs.Keys.{and_back, any_and, same_back, same_left}
use Rattle.zt_laws.proofs.Lists.{any-append, any-filter, any_alike, by_test}

module _ {K : Type 0} (cmp : K → K → Ordering) where
  heard_told : (now : ℕ) (m : Message K) (f : Face K) → told_of (heard cmp now m f) ≡ told_by cmp m (told_of f)
  heard_told now (DeclareToken id e interest node) f = refl
  heard_told now (UndeclareToken id e node) f = refl
  heard_told now (DeclareFinal interest) f = refl
  heard_told now (Interest id mode options e) f = refl
  heard_told now (InterestFinal id) f = refl
  heard_told now (DeclareSubscriber id e interest) f = refl
  heard_told now (DeclareQueryable id e info interest) f = refl

  -- what a face is told depends on what it was told alone
  pub told_alone : (now : ℕ) (ms : List (Message K)) (f : Face K) → told_of (heard_all cmp now ms f) ≡ told_by_all cmp ms (told_of f)
  unfolding heard_all
  told_alone now [] f = refl
  told_alone now (m ∷ ms) f = told_alone now ms (heard cmp now m f) ∙ ap (told_by_all cmp ms) (heard_told now m f)

  next_by : (now : ℕ) (m : Message K) (f : Face K) → (heard cmp now m f).next ≡ max f.next (next_sent_by m)
  next_by now (DeclareToken id e interest node) f = refl
  next_by now (UndeclareToken id e node) f = omega arith
  next_by now (DeclareFinal interest) f = omega arith
  next_by now (Interest id mode options e) f = refl
  next_by now (InterestFinal id) f = omega arith
  next_by now (DeclareSubscriber id e interest) f = omega arith
  next_by now (DeclareQueryable id e info interest) f = omega arith

  -- the next id is one more than the greatest
  pub next_is_sent : (now : ℕ) (ms : List (Message K)) (f : Face K) → (heard_all cmp now ms f).next ≡ max f.next (next_sent ms)
  unfolding heard_all
  next_is_sent now [] f = omega arith
  next_is_sent now (m ∷ ms) f =
      let rest = next_is_sent now ms (heard cmp now m f) in
      let one = next_by now m f in
      omega arith

  -- hearing changes told rows and ids, and the rows of upstream interests and asks
  abbrev with_heard : Face K → ℕ → ById K → ById (InterestRow K) → ById Pending → ById (Ask K) → Face K
  with_heard f next told locals pendings asks = record f { told = told; next = next; locals = locals; pendings = pendings; asks = asks }

  heard_leaves : (now : ℕ) (m : Message K) (f : Face K) → (let h = heard cmp now m f in h ≡ with_heard f h.next h.told h.locals h.pendings h.asks)
  heard_leaves now (DeclareToken id e interest node) f = refl
  heard_leaves now (UndeclareToken id e node) f = refl
  heard_leaves now (DeclareFinal interest) f = refl
  heard_leaves now (Interest id mode options e) f = refl
  heard_leaves now (InterestFinal id) f = refl
  heard_leaves now (DeclareSubscriber id e interest) f = refl
  heard_leaves now (DeclareQueryable id e info interest) f = refl

  pub heard_leaves_rest : (now : ℕ) (ms : List (Message K)) (f : Face K) → (let h = heard_all cmp now ms f in h ≡ record f { told = h.told; next = h.next; locals = h.locals; pendings = h.pendings; asks = h.asks })
  unfolding heard_all
  heard_leaves_rest now [] f = refl
  heard_leaves_rest now (m ∷ ms) f =
      let h = heard_all cmp now ms (heard cmp now m f) in
      heard_leaves_rest now ms (heard cmp now m f) ∙ ap (λ k. with_heard k h.next h.told h.locals h.pendings h.asks) (heard_leaves now m f)

  module _ (total : IsTotalOrder cmp) where
    -- two rows that are the same pair stand for the same pairs
    has_pair_back : (i k : ℕ) (e x : K) (rows : ById K) → (i == k) ≡ true → same cmp e x ≡ true → has_pair cmp i e rows ≡ has_pair cmp k x rows
    has_pair_back i k e x rows ids keys =
        any_alike (λ row. (i == row.0) && same cmp e row.1) (λ row. (k == row.0) && same cmp x row.1)
        (λ row. ap (λ j. (j == row.0) && same cmp e row.1) (eqb-true i k ids) ∙ ap (λ b. (k == row.0) && b) (same_left cmp total e x row.1 keys)) rows

    pub pair_told : (id token : ℕ) (e k : K) (rows : ById K) → has_pair cmp id e (told_pair cmp token k rows) ≡ (has_pair cmp id e rows || (not (token == 0) && ((id == token) && same cmp e k)))
    pair_told id token e k rows = by_test (token == 0) (λ none_. rw none_ (sym (or-false (has_pair cmp id e rows)))) (λ real. rw real (by_test (has_pair cmp token k rows) there new_))
      where
        there : has_pair cmp token k rows ≡ true → has_pair cmp id e (cond (has_pair cmp token k rows) rows (rows ++ (token, k) ∷ [])) ≡ (has_pair cmp id e rows || ((id == token) && same cmp e k))
        there h =
            ap (λ b. has_pair cmp id e (cond b rows (rows ++ (token, k) ∷ []))) h
            ∙ by_test ((id == token) && same cmp e k)
            (λ here.
            let parts = and_parts (id == token) (same cmp e k) here in
            let own : has_pair cmp id e rows ≡ true = has_pair_back id token e k rows parts.0 parts.1 ∙ h in
            own ∙ sym (or_left (has_pair cmp id e rows) ((id == token) && same cmp e k) own))
            (λ here. sym (or-false (has_pair cmp id e rows)) ∙ ap (λ b. has_pair cmp id e rows || b) (sym here))

        new_ : has_pair cmp token k rows ≡ false → has_pair cmp id e (cond (has_pair cmp token k rows) rows (rows ++ (token, k) ∷ [])) ≡ (has_pair cmp id e rows || ((id == token) && same cmp e k))
        new_ h =
            ap (λ b. has_pair cmp id e (cond b rows (rows ++ (token, k) ∷ []))) h
            ∙ any-append (λ row. (id == row.0) && same cmp e row.1) rows ((token, k) ∷ [])
            ∙ ap (λ b. has_pair cmp id e rows || b) (or-false ((id == token) && same cmp e k))

    -- rows that a test takes away, where it answers the same at each row of the pair
    pair_filtered : (id : ℕ) (e : K) (p : ℕ × K → Bool) (b : Bool) (rows : ById K) → ((row : ℕ × K) → ((id == row.0) && same cmp e row.1) ≡ true → p row ≡ b) → has_pair cmp id e (filter p rows) ≡ (has_pair cmp id e rows && b)
    pair_filtered id e p b rows h =
        any-filter (λ row. (id == row.0) && same cmp e row.1) p rows
        ∙ any_alike (λ row. p row && ((id == row.0) && same cmp e row.1)) (λ row. b && ((id == row.0) && same cmp e row.1))
        (λ row. by_test ((id == row.0) && same cmp e row.1)
        (λ here. ap (λ c. c && ((id == row.0) && same cmp e row.1)) (h row here))
        (λ here. rw here (and_none (p row) ∙ sym (and_none b))))
        rows
        ∙ any_and b (λ row. (id == row.0) && same cmp e row.1) rows
        ∙ and_back b (has_pair cmp id e rows)
      where
        and_none : (a : Bool) → (a && false) ≡ false
        and_none true = refl
        and_none false = refl

    pair_heard : (now id : ℕ) (e : K) (m : Message K) (f : Face K) → has_pair cmp id e (heard cmp now m f).told ≡ is_kept_by cmp id e m (has_pair cmp id e f.told)
    pair_heard now id e (DeclareToken token k interest node) f = pair_told id token e k f.told
    pair_heard now id e (UndeclareToken token None node) f =
        pair_filtered id e (λ row. not (token == row.0)) (not (token == id)) f.told (λ row here. ap (λ j. not (token == j)) (sym (eqb-true id row.0 (and_parts (id == row.0) (same cmp e row.1) here).0)))
    pair_heard now id e (UndeclareToken token (Some k) node) f =
        pair_filtered id e (λ row. not (same cmp k row.1)) (not (same cmp k e)) f.told
        (λ row here. ap not (same_back cmp total k row.1 ∙ sym (same_left cmp total e row.1 k (and_parts (id == row.0) (same cmp e row.1) here).1) ∙ same_back cmp total e k))
    pair_heard now id e (DeclareFinal interest) f = refl
    pair_heard now id e (Interest token mode options k) f = refl
    pair_heard now id e (InterestFinal token) f = refl
    pair_heard now id e (DeclareSubscriber token k interest) f = refl
    pair_heard now id e (DeclareQueryable token k info interest) f = refl

    -- a face has the pairs that its messages leave
    pub kept_pairs : (now id : ℕ) (e : K) (ms : List (Message K)) (f : Face K) → has_pair cmp id e (heard_all cmp now ms f).told ≡ is_kept cmp id e ms (has_pair cmp id e f.told)
    unfolding heard_all
    kept_pairs now id e [] f = refl
    kept_pairs now id e (m ∷ ms) f = kept_pairs now id e ms (heard cmp now m f) ∙ ap (is_kept cmp id e ms) (pair_heard now id e m f)
