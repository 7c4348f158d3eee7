-- What a face was told: rows under ids that rise, one for an expression.
use Rattle.std.proofs.Common.{◌≡◌, ℕ, ◌+◌, ◌≤◌, ◌<◌, Bool, true, false, cond, not, ◌&&◌, ◌||◌, ◌==◌, List, [], ◌∷◌, ◌++◌, filter, length, Some, None, refl, sym, ap, ◌∙◌, subst, arith, ne_eqb, eq-eqb, append-nil, append_assoc}
use Rattle.std.proofs.Math.Bool.{or-false}
use Rattle.std.proofs.lemmas.Bool.{and_left, and_from, or_left, or_right, or_from, not_from_false}
use Rattle.std.specs.Cmp.{IsTotalOrder}
use Rattle.std.specs.List.{list_any}
use Rattle.std.specs.declared.cmp.Ordering.{Ordering}
use Rattle.zt_model.specs.Hearing.{told_pair}
use Rattle.zt_model.specs.Lists.{same, is_among, without_id}
use Rattle.zt_model.specs.Rows.{ById}
use Rattle.zt_model.specs.Says.{told_id}
use Rattle.zt_model.specs.Transcript.{Each}
use Rattle.zt_laws.specs.Sound.{IsToldInOrder, NamesOnce, RiseFrom}
use Rattle.zt_laws.proofs.Keys.{KeysOnce, same_back, same_left}
pub use Rattle.zt_laws.specs.Effects.{names, numbered}
use Rattle.zt_laws.proofs.Lists.{by_test, each_weaker, each_both, each_append, each_filter, each_fails, any_none, any-append, filter_all, rise_above, rise_push, rise_filter}

module _ {K : Type 0} (cmp : K → K → Ordering) where
  names_once_filter : (p : ℕ × K → Bool) (told : ById K) → NamesOnce cmp told → NamesOnce cmp (filter p told)
  names_once_filter p [] once = tt
  names_once_filter p (row ∷ rows) once =
      by_test (p row)
      (λ here. rw here (
        any_none (λ other. same cmp row.1 other.1) (filter p rows) (each_filter (λ other. same cmp row.1 other.1 ≡ false) p rows (each_fails (λ other. same cmp row.1 other.1) rows once.0)),
        names_once_filter p rows once.1,
      ))
      (λ here. rw here (names_once_filter p rows once.1))

  -- rows taken away leave the rest in order
  pub in_order_filter : (p : ℕ × K → Bool) (told : ById K) (next : ℕ) → IsToldInOrder cmp told next → IsToldInOrder cmp (filter p told) next
  in_order_filter p told next ordered = record {
    next_is_real = ordered.next_is_real;
    rises = rise_filter (λ row. row.0) 1 p told ordered.rises;
    below = each_filter (λ row. row.0 < next) p told ordered.below;
    once = names_once_filter p told ordered.once;
  }

  -- ---- the id of an expression

  pub told_id_none : (e : K) (told : ById K) → told_id cmp e told ≡ None → names cmp e told ≡ false
  unfolding told_id
  told_id_none e [] h = refl
  told_id_none e (row ∷ rows) h =
      by_test (same cmp e row.1) (λ here. let bad : Some row.0 ≡ None = rw here at h in cc) (λ here. rw here (told_id_none e rows (rw here at h)))

  -- the row that a told id comes from
  pub told_id_row : (e : K) (told : ById K) (id : ℕ) → told_id cmp e told ≡ Some id → list_any (λ row. (id == row.0) && same cmp e row.1) told ≡ true
  unfolding told_id
  told_id_row e [] id h = cc
  told_id_row e (row ∷ rows) id h =
      by_test (same cmp e row.1)
      (λ here.
      let found : Some row.0 ≡ Some id = rw here at h in
      let is : id ≡ row.0 = cc in
      or_left _ _ (and_from (id == row.0) (same cmp e row.1) (eq-eqb id row.0 is) here))
      (λ here. or_right ((id == row.0) && same cmp e row.1) _ (told_id_row e rows id (rw here at h)))

  pub told_id_names : (e : K) (told : ById K) (id : ℕ) → told_id cmp e told ≡ Some id → names cmp e told ≡ true
  unfolding told_id
  told_id_names e [] id h = cc
  told_id_names e (row ∷ rows) id h =
      by_test (same cmp e row.1) (λ here. or_left _ _ here) (λ here. or_right (same cmp e row.1) _ (told_id_names e rows id (rw here at h)))

  -- what holds of each row's id holds of a told id
  pub told_id_each : (P : ℕ → Type 0) (e : K) (told : ById K) (id : ℕ) → Each (λ row. P row.0) told → told_id cmp e told ≡ Some id → P id
  unfolding told_id
  told_id_each P e [] id all h = cc
  told_id_each P e (row ∷ rows) id all h =
      by_test (same cmp e row.1)
      (λ here. let found : Some row.0 ≡ Some id = rw here at h in let is : row.0 ≡ id = cc in subst P is all.0)
      (λ here. told_id_each P e rows id all.1 (rw here at h))

  -- ---- telling

  -- a pair with a new id is added
  pub told_pair_new : (id : ℕ) (e : K) (told : ById K) → 1 ≤ id → Each (λ row. row.0 < id) told → told_pair cmp id e told ≡ told ++ (id, e) ∷ []
  told_pair_new id e told real below =
      let real_ : (id == 0) ≡ false = ne_eqb id 0 (λ h. omega arith) in
      let new_ : list_any (λ row. (id == row.0) && same cmp e row.1) told ≡ false =
      any_none (λ row. (id == row.0) && same cmp e row.1) told (each_weaker (λ row. row.0 < id) (λ row. ((id == row.0) && same cmp e row.1) ≡ false) (λ row h. and_left (id == row.0) (same cmp e row.1) (ne_eqb id row.0 (λ same_. omega arith))) told below) in
      ap (λ b. cond b told (told ++ (id, e) ∷ [])) (or_from (id == 0) (list_any (λ row. (id == row.0) && same cmp e row.1) told) real_ new_)

  -- a pair that is there already is not
  pub told_pair_old : (id : ℕ) (e : K) (told : ById K) → list_any (λ row. (id == row.0) && same cmp e row.1) told ≡ true → told_pair cmp id e told ≡ told
  told_pair_old id e told here = ap (λ b. cond b told (told ++ (id, e) ∷ [])) (or_right (id == 0) (list_any (λ row. (id == row.0) && same cmp e row.1) told) here)

  pub names-append : (x : K) (told : ById K) (id : ℕ) (e : K) → names cmp x (told ++ (id, e) ∷ []) ≡ (names cmp x told || same cmp x e)
  names-append x told id e = any-append (λ row. same cmp x row.1) told ((id, e) ∷ []) ∙ ap (λ b. names cmp x told || b) (or-false (same cmp x e))

  pub names-numbered : (x : K) (n : ℕ) (es : List K) → names cmp x (numbered n es) ≡ is_among cmp x es
  names-numbered x n [] = refl
  names-numbered x n (e ∷ es) = ap (λ b. same cmp x e || b) (names-numbered x (n + 1) es)

  module _ (total : IsTotalOrder cmp) where
    -- without its id, an expression is gone, and nothing else
    pub without_told : (e : K) (low : ℕ) (told : ById K) (id : ℕ) → RiseFrom (λ row. row.0) low told → NamesOnce cmp told → told_id cmp e told ≡ Some id → without_id id told ≡ filter (λ row. not (same cmp e row.1)) told
    unfolding told_id
    without_told e low [] id rises once h = refl
    without_told e low (row ∷ rows) id rises once h =
        let above = rise_above (λ row. row.0) (row.0 + 1) rows rises.1 in
        by_test (same cmp e row.1)
        (λ here.
        let found : Some row.0 ≡ Some id = rw here at h in
        let is : id ≡ row.0 = cc in
        let hit : (id == row.0) ≡ true = eq-eqb id row.0 is in
        rw (here, hit)
        (filter_all (λ other. not (id == other.0)) rows (each_weaker (λ other. row.0 + 1 ≤ other.0) (λ other. not (id == other.0) ≡ true) (λ other up. not_from_false (id == other.0) (ne_eqb id other.0 (λ same_. omega arith))) rows above)
        ∙ sym (filter_all (λ other. not (same cmp e other.1)) rows (each_weaker (λ other. same cmp row.1 other.1 ≡ false) (λ other. not (same cmp e other.1) ≡ true) (λ other apart. not_from_false (same cmp e other.1) (same_left cmp total e row.1 other.1 here ∙ apart)) rows (each_fails (λ other. same cmp row.1 other.1) rows once.0)))))
        (λ here.
        let later : told_id cmp e rows ≡ Some id = rw here at h in
        let up : row.0 + 1 ≤ id = told_id_each (λ k. row.0 + 1 ≤ k) e rows id above later in
        let miss : (id == row.0) ≡ false = ne_eqb id row.0 (λ same_. omega arith) in
        rw (here, miss) (ap (λ rest. row ∷ rest) (without_told e (row.0 + 1) rows id rises.1 once.1 later)))

    names_once_push : (e : K) (id : ℕ) (told : ById K) → names cmp e told ≡ false → NamesOnce cmp told → NamesOnce cmp (told ++ (id, e) ∷ [])
    names_once_push e id [] new_ once = (refl, tt)
    names_once_push e id (row ∷ rows) new_ once =
        let fails = each_fails (λ other. same cmp e other.1) (row ∷ rows) new_ in (
          names-append row.1 rows id e ∙ or_from (names cmp row.1 rows) (same cmp row.1 e) once.0 (same_back cmp total row.1 e ∙ fails.0),
          names_once_push e id rows (any_none (λ other. same cmp e other.1) rows fails.1) once.1,
        )

    -- an expression that wasn't told yet, under the next id
    pub in_order_push : (e : K) (told : ById K) (next : ℕ) → names cmp e told ≡ false → IsToldInOrder cmp told next → IsToldInOrder cmp (told ++ (next, e) ∷ []) (next + 1)
    in_order_push e told next new_ ordered =
        let real : 1 ≤ next = ordered.next_is_real in
        record {
          next_is_real = omega arith;
          rises = rise_push (λ row. row.0) 1 told (next, e) real ordered.below ordered.rises;
          below = each_append (λ row. row.0 < next + 1) told ((next, e) ∷ []) (each_weaker (λ row. row.0 < next) (λ row. row.0 < next + 1) (λ row h. omega arith) told ordered.below) (omega arith, tt);
          once = names_once_push e next told new_ ordered.once;
        }

    -- expressions that weren't told yet, under the next ids
    pub in_order_numbered : (es : List K) (told : ById K) (next : ℕ) → KeysOnce cmp es → Each (λ e. names cmp e told ≡ false) es → IsToldInOrder cmp told next → IsToldInOrder cmp (told ++ numbered next es) (next + length es)
    in_order_numbered [] told next once new_ ordered =
        let real : next ≡ next + 0 = omega arith in
        subst (λ rows. IsToldInOrder cmp rows (next + 0)) (sym (append-nil told)) (subst (λ n. IsToldInOrder cmp told n) real ordered)
    in_order_numbered (e ∷ es) told next once new_ ordered =
        let one : IsToldInOrder cmp (told ++ (next, e) ∷ []) (next + 1) = in_order_push e told next new_.0 ordered in
        let apart = each_fails (same cmp e) es once.0 in
        let still : Each (λ x. names cmp x (told ++ (next, e) ∷ []) ≡ false) es =
        each_both (λ x. same cmp e x ≡ false) (λ x. names cmp x told ≡ false) (λ x. names cmp x (told ++ (next, e) ∷ []) ≡ false)
        (λ x a b. names-append x told next e ∙ or_from (names cmp x told) (same cmp x e) b (same_back cmp total x e ∙ a)) es apart new_.1 in
        let more = in_order_numbered es (told ++ (next, e) ∷ []) (next + 1) once.1 still one in
        let count : (next + 1) + length es ≡ next + length (e ∷ es) = omega arith in
        subst (λ n. IsToldInOrder cmp (told ++ (next, e) ∷ numbered (next + 1) es) n) count
        (subst (λ rows. IsToldInOrder cmp rows ((next + 1) + length es)) (append_assoc told ((next, e) ∷ []) (numbered (next + 1) es)) more)
