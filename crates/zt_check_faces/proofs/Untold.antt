-- Lemmas on rows that go by their expression, one id after another.
use Rattle.std.proofs.Common.{◌≡◌, ℕ, ◌+◌, ◌<◌, ◌≤◌, Bool, true, false, ◌==◌, ◌&&◌, ◌||◌, not, List, [], ◌∷◌, filter, length, take, drop, get_or, refl, sym, ap, ◌∙◌}
use Rattle.std.proofs.lemmas.Bool.{false≢true}
use Rattle.std.proofs.lemmas.List.{take_all}
use Rattle.std.proofs.lemmas.List.Folds.{list_any_more}
use Rattle.std.specs.List.{list_any, remove}
use Rattle.std.specs.Ordering.{nat_cmp}
use Rattle.std.specs.declared.cmp.Ordering.{Ordering}
use Rattle.zt_keys.specs.Test.{by_test}
use Rattle.zt_model.specs.Lists.{same}
use Rattle.zt_model.specs.Rows.{ById}
use Rattle.zt_check_hints.specs.Hinted.{hints_at}
use Rattle.zt_check_faces.specs.Hinted.{AreHinted, is_under}
use Rattle.zt_check_faces.specs.Placed.{BeginsEqual, BeginsLess, IsBehind}
use Rattle.zt_check_faces.specs.Rising.{AreNamed, Rise}
use Rattle.zt_check_faces.proofs.Hinting.{or_left, or_right}
use Rattle.zt_check_faces.proofs.Risen.{filter_kept, filter_none, filter_taken, one, row_tied}

-- ids are among others
outside : (xs ids : List ℕ) → ((n : ℕ) → list_any (λ id. id == n) xs ≡ true → list_any (λ id. id == n) ids ≡ true) → list_any (λ n. not (list_any (λ id. id == n) ids)) xs ≡ false
outside [] ids among = refl
outside (x ∷ xs) ids among =
    rw (among x (or_left (x == x) _ (one x x refl)))
    (outside xs ids (λ n h. among n (or_right (x == n) _ h)))

pub all_pass : {X : Type 0} (xs : List X) → xs ≡ filter (λ x. true) xs
all_pass [] = refl
all_pass (x ∷ xs) = ap (λ (rest : List _). x ∷ rest) (all_pass xs)

module _ {K : Type 0} (cmp : K → K → Ordering) where
  -- the rows of an expression stand under the ids hinted for it
  pub named_hints : (hints : List (K × List ℕ)) (rows : ById K) (e : K) → AreHinted cmp hints rows → AreNamed cmp (hints_at cmp e hints) e rows
  named_hints hints rows e are =
      let ids = hints_at cmp e hints in
      by_test (is_under cmp (λ n. not (list_any (λ id. id == n) ids)) e rows)
      (λ t. absurd (false≢true (sym (outside ids ids (λ n h. h)) ∙ are.at (λ n. not (list_any (λ id. id == n) ids)) e t)))
      (λ t. t)

  -- ---- the pair of an id and the expression goes

  pub pair_gone : (id : ℕ) (e : K) (rows : ById K) (i : ℕ) (row : ℕ × K) → Rise rows → IsBehind (λ (r : ℕ × K). nat_cmp id r.0) rows i × BeginsEqual (λ (r : ℕ × K). nat_cmp id r.0) (drop i rows)
      → row ≡ get_or rows i row → same cmp e row.1 ≡ true → remove rows i ≡ filter (λ r. not (id == r.0 && same cmp e r.1)) rows
  pair_gone id e rows i row rise found is named =
      filter_taken id (λ r. not (id == r.0 && same cmp e r.1)) rows i row rise found.0.behind found.1 is (λ r t. rw t refl)
      (rw (row_tied id rows i row found.1 is, named) refl)

  pub pair_stays : (id : ℕ) (e : K) (rows : ById K) (i : ℕ) (row : ℕ × K) → Rise rows → IsBehind (λ (r : ℕ × K). nat_cmp id r.0) rows i × BeginsEqual (λ (r : ℕ × K). nat_cmp id r.0) (drop i rows)
      → row ≡ get_or rows i row → same cmp e row.1 ≡ false → rows ≡ filter (λ r. not (id == r.0 && same cmp e r.1)) rows
  pair_stays id e rows i row rise found is unnamed =
      filter_kept id (λ r. not (id == r.0 && same cmp e r.1)) rows i row rise found.0.behind found.1 is (λ r t. rw t refl)
      (rw (row_tied id rows i row found.1 is, unnamed) refl)

  pub pair_none : (id : ℕ) (e : K) (rows : ById K) (i : ℕ) → Rise rows → IsBehind (λ (r : ℕ × K). nat_cmp id r.0) rows i × BeginsLess (λ (r : ℕ × K). nat_cmp id r.0) (drop i rows)
      → rows ≡ filter (λ r. not (id == r.0 && same cmp e r.1)) rows
  pair_none id e rows i rise found =
      filter_none id (λ r. not (id == r.0 && same cmp e r.1)) rows i found.0.within rise found.0.behind found.1 (λ r t. rw t refl)

  -- ---- the pairs of one id after another

  -- what is left without the pairs of the expression and these ids
  abbrev pub without_pairs : List ℕ → K → ById K → ById K
  without_pairs ids e rows = filter (λ row. not (list_any (λ id. id == row.0) ids && same cmp e row.1)) rows

  both : (before now named : Bool) (keep : not (before && named) ≡ true) → not (now && named) ≡ not ((before || now) && named)
  both true now true keep = cc
  both true true false keep = refl
  both true false false keep = refl
  both false now named keep = refl

  gone : (before now named : Bool) → not (before && named) ≡ false → not ((before || now) && named) ≡ false
  gone true now named h = h
  gone false now named h = cc

  twice : (before : ℕ → Bool) (now : ℕ → Bool) (e : K) (rows : ById K)
      → filter (λ row. not (now row.0 && same cmp e row.1)) (filter (λ row. not (before row.0 && same cmp e row.1)) rows) ≡ filter (λ row. not ((before row.0 || now row.0) && same cmp e row.1)) rows
  twice before now e [] = refl
  twice before now e (row ∷ rows) =
      by_test (not (before row.0 && same cmp e row.1))
      (λ t.
      let as_one = both (before row.0) (now row.0) (same cmp e row.1) t in
      by_test (not (now row.0 && same cmp e row.1))
      (λ u. let v : not ((before row.0 || now row.0) && same cmp e row.1) ≡ true = sym as_one ∙ u in rw (t, u, v) (ap (λ (rest : ById K). row ∷ rest) (twice before now e rows)))
      (λ u. let v : not ((before row.0 || now row.0) && same cmp e row.1) ≡ false = sym as_one ∙ u in rw (t, u, v) (twice before now e rows)))
      (λ t. rw (t, gone (before row.0) (now row.0) (same cmp e row.1) t) (twice before now e rows))

  more_ids : (ids : List ℕ) (i id : ℕ) (n : ℕ) → i < length ids → id ≡ get_or ids i id → (list_any (λ m. m == n) (take i ids) || id == n) ≡ list_any (λ m. m == n) (take (i + 1) ids)
  more_ids ids i id n within is =
      ap (λ m. list_any (λ m. m == n) (take i ids) || m == n) is ∙ sym (list_any_more (λ m. m == n) ids i id within)

  alike : (p q : ℕ → Bool) (e : K) (rows : ById K) → ((n : ℕ) → p n ≡ q n) → filter (λ row. not (p row.0 && same cmp e row.1)) rows ≡ filter (λ row. not (q row.0 && same cmp e row.1)) rows
  alike p q e [] as_one = refl
  alike p q e (row ∷ rows) as_one =
      let here : not (p row.0 && same cmp e row.1) ≡ not (q row.0 && same cmp e row.1) = ap (λ b. not (b && same cmp e row.1)) (as_one row.0) in
      by_test (not (q row.0 && same cmp e row.1))
      (λ t. let u : not (p row.0 && same cmp e row.1) ≡ true = here ∙ t in rw (t, u) (ap (λ (rest : ById K). row ∷ rest) (alike p q e rows as_one)))
      (λ t. let u : not (p row.0 && same cmp e row.1) ≡ false = here ∙ t in rw (t, u) (alike p q e rows as_one))

  pub pairs_more : (ids : List ℕ) (i id : ℕ) (e : K) (rows left next : ById K) → i < length ids → id ≡ get_or ids i id → left ≡ without_pairs (take i ids) e rows
      → next ≡ filter (λ row. not (id == row.0 && same cmp e row.1)) left → next ≡ without_pairs (take (i + 1) ids) e rows
  pairs_more ids i id e rows left next within is before now =
      now
      ∙ (ap (filter (λ row. not (id == row.0 && same cmp e row.1))) before
      ∙ (twice (λ n. list_any (λ m. m == n) (take i ids)) (λ n. id == n) e rows
      ∙ alike (λ n. list_any (λ m. m == n) (take i ids) || id == n) (λ n. list_any (λ m. m == n) (take (i + 1) ids)) e rows (λ n. more_ids ids i id n within is)))

  named_away : (ids : List ℕ) (e : K) (rows : ById K) → AreNamed cmp ids e rows → without_pairs ids e rows ≡ filter (λ row. not (same cmp e row.1)) rows
  named_away ids e [] named = refl
  named_away ids e (row ∷ rows) named =
      by_test (same cmp e row.1)
      (λ t.
      by_test (list_any (λ id. id == row.0) ids)
      (λ u. rw (t, u) (named_away ids e rows (rw (t, u) at named)))
      (λ u. absurd (false≢true (sym named ∙ (rw (u, t) refl)))))
      (λ t.
      by_test (list_any (λ id. id == row.0) ids)
      (λ u. rw (t, u) (ap (λ (rest : ById K). row ∷ rest) (named_away ids e rows (rw (t, u) at named))))
      (λ u. rw (t, u) (ap (λ (rest : ById K). row ∷ rest) (named_away ids e rows (rw (t, u) at named)))))

  pub pairs_all : (ids : List ℕ) (i : ℕ) (e : K) (rows left : ById K) → length ids ≤ i → AreNamed cmp ids e rows → left ≡ without_pairs (take i ids) e rows → left ≡ filter (λ row. not (same cmp e row.1)) rows
  pairs_all ids i e rows left past named is = is ∙ (ap (λ (ns : List ℕ). without_pairs ns e rows) (take_all i ids past) ∙ named_away ids e rows named)
