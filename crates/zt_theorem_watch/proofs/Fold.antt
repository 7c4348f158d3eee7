-- A table follows from the one before by the keys that joined and those that left.
use Rattle.std.proofs.Common.{◌≡◌, Bool, true, false, not, ◌&&◌, ◌||◌, List, [], ◌∷◌, Result, Ok, Err, filter, refl, sym, ap, ◌∙◌, subst}
use Rattle.std.specs.Cmp.{IsTotalOrder}
use Rattle.std.specs.Ordering.{is_eq, ordering_reverse}
use Rattle.std.specs.declared.cmp.Ordering.{Ordering}
use Rattle.std.specs.declared.cmp.Ordering.TheVariants.{Less, Equal, Greater}
use Rattle.std.specs.FinMap.Entries.{by_order}
use Rattle.std.proofs.lemmas.Cmp.{alike_right}
use Rattle.zt_model.specs.Lists.{is_among, same, with_key}
use Rattle.zt_model.specs.Transcript.{Each}
use Rattle.zt_laws.specs.Order.{InKeyOrder}
use Rattle.zt_laws.proofs.Keys.{among-filter, in_order_filter, in_order_with_key, same_back, same_is, same_itself}
use Rattle.zt_laws.proofs.Lists.{any_none, by_test, each_weaker, never}
use Rattle.zt_protocol.specs.declared.errors.Refusal.{Refusal}
use Rattle.zt_theorem_watch.specs.Tables.{PlainPoll, lacked_by, table_after, tables_after, with_joined, without_left}

or_across : (a b c : Bool) → (a || (b || c)) ≡ ((b || a) || c)
or_across true true c = refl
or_across true false c = refl
or_across false true c = refl
or_across false false c = refl

or_swap : (a b c : Bool) → (a || (b || c)) ≡ (b || (a || c))
or_swap true true c = refl
or_swap true false c = refl
or_swap false b c = refl

or_twice : (a c : Bool) → (a || c) ≡ (a || (a || c))
or_twice true c = refl
or_twice false c = refl

not_across : (a s t : Bool) → (not a && (not s && t)) ≡ (not (s || a) && t)
not_across true true t = refl
not_across true false t = refl
not_across false true t = refl
not_across false false t = refl

-- what joined and what left make one of the other
back_again : (new old : Bool) → (not (not new && old) && ((not old && new) || old)) ≡ new
back_again true true = refl
back_again true false = refl
back_again false true = refl
back_again false false = refl

module _ {K : Type 0} (cmp : K → K → Ordering) (total : IsTotalOrder cmp) where
  among-with_key : (x e : K) (ks : List K) → is_among cmp x (with_key cmp e ks) ≡ (same cmp x e || is_among cmp x ks)
  among-with_key x e [] = refl
  among-with_key x e (k ∷ ks) =
      elim (cmp e k) as (λ o. cmp e k ≡ o → is_among cmp x (by_order o (e ∷ k ∷ ks) (k ∷ ks) (k ∷ with_key cmp e ks)) ≡ (same cmp x e || is_among cmp x (k ∷ ks))) [
        | Less ↦ λ h. refl
        | Equal ↦ λ h. or_twice (same cmp x k) (is_among cmp x ks) ∙ ap (λ o. is_eq o || is_among cmp x (k ∷ ks)) (sym (alike_right total e k x h))
        | Greater ↦ λ h. ap (λ b. same cmp x k || b) (among-with_key x e ks) ∙ or_swap (same cmp x k) (same cmp x e) (is_among cmp x ks)
      ] refl

  -- a key is among others and itself
  among_first : (x : K) (xs : List K) → is_among cmp x (x ∷ xs) ≡ true
  among_first x xs = ap (λ b. b || is_among cmp x xs) (same_itself cmp total x)

  -- a key below others isn't among these
  not_above : (x : K) (ks : List K) → Each (λ k. cmp x k ≡ Less) ks → is_among cmp x ks ≡ false
  not_above x ks all = any_none (same cmp x) ks (each_weaker (λ k. cmp x k ≡ Less) (λ k. same cmp x k ≡ false) (λ k h. ap is_eq h) ks all)

  lower : (x y : K) (ys : List K) → cmp x y ≡ Less → Each (λ k. cmp y k ≡ Less) ys → is_among cmp x (y ∷ ys) ≡ false
  lower x y ys h all = not_above x (y ∷ ys) (h, each_weaker (λ k. cmp y k ≡ Less) (λ k. cmp x k ≡ Less) (λ k more. total.trans x y k h more) ys all)

  -- ---- keys that join

  among_joined : (x : K) (keys table : List K) → is_among cmp x (with_joined cmp keys table) ≡ (is_among cmp x keys || is_among cmp x table)
  among_joined x [] table = refl
  among_joined x (k ∷ keys) table =
      among_joined x keys (with_key cmp k table)
      ∙ ap (λ b. is_among cmp x keys || b) (among-with_key x k table)
      ∙ or_across (is_among cmp x keys) (same cmp x k) (is_among cmp x table)

  ordered_joined : (keys table : List K) → InKeyOrder cmp table → InKeyOrder cmp (with_joined cmp keys table)
  ordered_joined [] table ordered = ordered
  ordered_joined (k ∷ keys) table ordered = ordered_joined keys (with_key cmp k table) (in_order_with_key cmp total k table ordered)

  ordered_left : (keys table : List K) → InKeyOrder cmp table → InKeyOrder cmp (without_left cmp keys table)
  ordered_left [] table ordered = ordered
  ordered_left (k ∷ keys) table ordered = ordered_left keys (filter (λ e. not (same cmp k e)) table) (in_order_filter cmp (λ e. not (same cmp k e)) table ordered)

  pub ordered_after : (poll : PlainPoll K) (table : List K) → InKeyOrder cmp table → InKeyOrder cmp (table_after cmp poll table)
  ordered_after poll table ordered = cases poll.outcome
    where
      cases : (outcome : Result (List K × List K) Refusal) → InKeyOrder cmp (elim outcome [ Ok keys ↦ without_left cmp keys.1 (with_joined cmp keys.0 table) | Err refusal ↦ table ])
      cases (Ok keys) = ordered_left keys.1 (with_joined cmp keys.0 table) (ordered_joined keys.0 table ordered)
      cases (Err refusal) = ordered

  -- the table after polls stands in order
  pub all_ordered : (polls : List (PlainPoll K)) (table : List K) → InKeyOrder cmp table → InKeyOrder cmp (tables_after cmp polls table)
  all_ordered [] table ordered = ordered
  all_ordered (poll ∷ polls) table ordered = all_ordered polls (table_after cmp poll table) (ordered_after poll table ordered)

  module _ (equal_is_same : (a b : K) → cmp a b ≡ Equal → a ≡ b) where
    -- keys in order that have the same members are the same
    pub same_tables : (xs ys : List K) → InKeyOrder cmp xs → InKeyOrder cmp ys → ((k : K) → is_among cmp k xs ≡ is_among cmp k ys) → xs ≡ ys
    same_tables [] [] one other alike = refl
    same_tables [] (y ∷ ys) one other alike = never (among_first y ys) (sym (alike y))
    same_tables (x ∷ xs) [] one other alike = never (among_first x xs) (alike x)
    same_tables (x ∷ xs) (y ∷ ys) one other alike =
        elim (cmp x y) as (λ o. cmp x y ≡ o → x ∷ xs ≡ y ∷ ys) [
          | Less ↦ λ h. never (among_first x xs) (alike x ∙ lower x y ys h other.0)
          | Equal ↦ λ h.
              let is : x ≡ y = equal_is_same x y h in
              ap (λ k. k ∷ xs) is ∙ ap (λ ks. y ∷ ks) (same_tables xs ys one.1 other.1 (rest is))
          | Greater ↦ λ h. never (among_first y ys) (sym (alike y) ∙ lower y x xs (total.antisymm y x ∙ ap ordering_reverse h) one.0)
        ] refl
      where
        rest : x ≡ y → (k : K) → is_among cmp k xs ≡ is_among cmp k ys
        rest is k =
            by_test (same cmp k x)
            (λ own.
            let there : k ≡ x = same_is cmp total equal_is_same k x own in
            let here : is_among cmp x xs ≡ false = not_above x xs one.0 in
            let here_ : is_among cmp x ys ≡ false = subst (λ j. is_among cmp j ys ≡ false) (sym is) (not_above y ys other.0) in
            subst (λ j. is_among cmp j xs ≡ is_among cmp j ys) (sym there) (here ∙ sym here_))
            (λ apart.
            let apart_ : same cmp k y ≡ false = subst (λ j. same cmp k j ≡ false) is apart in
            sym (ap (λ b. b || is_among cmp k xs) apart) ∙ alike k ∙ ap (λ b. b || is_among cmp k ys) apart_)

    among_left : (x : K) (keys table : List K) → is_among cmp x (without_left cmp keys table) ≡ (not (is_among cmp x keys) && is_among cmp x table)
    among_left x [] table = refl
    among_left x (k ∷ keys) table =
        among_left x keys (filter (λ e. not (same cmp k e)) table)
        ∙ ap (λ b. not (is_among cmp x keys) && b) (among-filter cmp total equal_is_same (λ e. not (same cmp k e)) x table ∙ ap (λ b. not b && is_among cmp x table) (same_back cmp total k x))
        ∙ not_across (is_among cmp x keys) (same cmp x k) (is_among cmp x table)

    -- The new table follows from the old one.
    pub follows : (old new : List K) → InKeyOrder cmp old → InKeyOrder cmp new → without_left cmp (lacked_by cmp new old) (with_joined cmp (lacked_by cmp old new) old) ≡ new
    follows old new before after =
        let joined = lacked_by cmp old new in
        let left = lacked_by cmp new old in
        same_tables (without_left cmp left (with_joined cmp joined old)) new (ordered_left left (with_joined cmp joined old) (ordered_joined joined old before)) after
        (λ k.
        let o = is_among cmp k old in
        let n = is_among cmp k new in
        among_left k left (with_joined cmp joined old)
        ∙ ap (λ b. not b && is_among cmp k (with_joined cmp joined old)) (among-filter cmp total equal_is_same (λ e. not (is_among cmp e new)) k old)
        ∙ ap (λ b. not (not n && o) && b) (among_joined k joined old ∙ ap (λ b. b || o) (among-filter cmp total equal_is_same (λ e. not (is_among cmp e old)) k new))
        ∙ back_again n o)
