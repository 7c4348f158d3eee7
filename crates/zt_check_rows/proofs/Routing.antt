-- What tokens of router regions are hinted by, as they change.
use Rattle.std.proofs.Common.{◌≡◌, ℕ, ◌+◌, ◌<◌, ◌≤◌, Bool, true, false, ◌&&◌, ◌||◌, not, if◌then◌else◌, List, [], ◌∷◌, ◌++◌, filter, insert, length, take, get_or, zero, suc, refl, sym, ap, subst, ◌∙◌, arith}
use Rattle.std.proofs.lemmas.Bool.{false≢true}
use Rattle.std.proofs.lemmas.List.Folds.{list_any_more}
use Rattle.std.proofs.lemmas.Cmp.{nat_cmp_total}
use Rattle.std.specs.BTreeMap.{is_at}
use Rattle.std.specs.Cmp.{tied_itself}
use Rattle.std.specs.List.{list_any}
use Rattle.std.specs.Ordering.{is_eq, nat_cmp, ordering_then}
use Rattle.std.specs.declared.cmp.Ordering.{Ordering}
use Rattle.std.specs.declared.cmp.Ordering.TheVariants.{Less, Equal, Greater}
use Rattle.zt_region.specs.declared.region.Region.{Region}
use Rattle.zt_region.specs.declared.region.Zid.{Zid}
use Rattle.zt_region.specs.Region.{region_eq, region_eq-refl, region_eq-same, zid_eq, zid_eq-refl, zid_eq-same}
use Rattle.zt_keys.specs.Test.{by_test}
use Rattle.zt_protocol.specs.Plain.{Trees}
use Rattle.zt_model.specs.Lists.{same}
use Rattle.zt_model.specs.Rows.{RoutedRow}
use Rattle.zt_model.specs.Trees.{is_left_out, is_listed, is_routed_row, region_order, region_rank, routed_order, south_id, south_mode}
use Rattle.zt_check_hints.specs.Hinted.{IsHinted, Keeps, KeepsBut, hints_at, is_hinted}
use Rattle.zt_check_faces.proofs.Hinting.{and_both, and_left, and_right, any-weaker, equal-from, or_left, or_right, or_split}
use Rattle.zt_check_open_faces.proofs.Declaring.{any-of_any, any-reaches, both-ways}
use Rattle.zt_check_rows.specs.declared.routers.RouterPlace.{RouterPlace}
use Rattle.zt_check_rows.specs.Routed.{AreRouted, is_routed_at, is_under}

abbrev place : {K : Type 0} → RoutedRow K → RouterPlace
place row = record { region = row.region; source = row.source }

module _ {K : Type 0} (cmp : K → K → Ordering) where
  pub routed_none : (hints : List (K × List RouterPlace)) → AreRouted cmp hints []
  routed_none hints = record { at = λ test e h. absurd (false≢true h) }

  pub routed_kept : (old new : List (K × List RouterPlace)) (rows : List (RoutedRow K)) → Keeps cmp old new → AreRouted cmp old rows → AreRouted cmp new rows
  routed_kept old new rows keeps are = record { at = λ test e h. keeps.at test e (are.at test e h) }

  -- ---- rows that go

  -- hints go of places that pass a test, and all rows that stand there; others may stay
  left_under : (gone : RoutedRow K → Bool) (lost : RouterPlace → Bool) (test : RouterPlace → Bool) (e : K) (rows : List (RoutedRow K)) → ((row : RoutedRow K) → same cmp e row.expr ≡ true → lost (place row) ≡ true → gone row ≡ true)
      → is_under cmp test e (filter (λ row. not (gone row)) rows) ≡ true → is_under cmp (λ p. not (lost p) && test p) e rows ≡ true
  left_under gone lost test e [] goes h = h
  left_under gone lost test e (row ∷ rows) goes h =
      by_test (gone row)
      (λ t. or_right ((not (lost (place row)) && test (place row)) && same cmp e row.expr) _ (left_under gone lost test e rows goes (rw t at h)))
      (λ t.
      or_split (test (place row) && same cmp e row.expr) (is_under cmp test e (filter (λ r. not (gone r)) rows)) (rw t at h)
      (λ u.
      let named = and_right (test (place row)) _ u in
      or_left ((not (lost (place row)) && test (place row)) && same cmp e row.expr) _
      (by_test (lost (place row))
      (λ v. absurd (false≢true (sym t ∙ goes row named v)))
      (λ v. rw v u)))
      (λ u. or_right ((not (lost (place row)) && test (place row)) && same cmp e row.expr) _ (left_under gone lost test e rows goes u)))

  still_hinted : (lost : RouterPlace → Bool) (old new : List (K × List RouterPlace)) (test : RouterPlace → Bool) (e : K) → KeepsBut cmp lost old new → is_hinted cmp (λ p. not (lost p) && test p) e old ≡ true → is_hinted cmp test e new ≡ true
  still_hinted lost old new test e keeps h =
      any-weaker (λ p. not (lost p) && test p) test (hints_at cmp e new) (λ p t. and_right (not (lost p)) (test p) t)
      (keeps.at (λ p. not (lost p) && test p) (λ p gone. rw gone refl) e h)

  pub routed_left : (region : Region) (t : Trees) (old new : List (K × List RouterPlace)) (rows rest : List (RoutedRow K)) → KeepsBut cmp (λ p. region_eq region p.region && not (is_listed p.source t)) old new
      → rest ≡ filter (λ row. not (is_left_out cmp region t row)) rows → AreRouted cmp old rows → AreRouted cmp new rest
  routed_left region t old new rows rest keeps is are =
      subst (AreRouted cmp new) (sym is)
      (record {
        at = λ test e h.
            still_hinted (λ p. region_eq region p.region && not (is_listed p.source t)) old new test e keeps
            (are.at (λ p. not (region_eq region p.region && not (is_listed p.source t)) && test p) e
            (left_under (is_left_out cmp region t) (λ p. region_eq region p.region && not (is_listed p.source t)) test e rows (λ row named lost. lost) h));
      })

  -- ---- a row more
  module _ (one : (a b : K) → cmp a b ≡ Equal → a ≡ b) where
    own : (p : RouterPlace) (x : K) (hints : List (K × List RouterPlace)) → IsHinted cmp x p hints → (test : RouterPlace → Bool) (q : K) → (test p && same cmp q x) ≡ true → is_hinted cmp test q hints ≡ true
    own p x hints hinted test q h =
        let tied : q ≡ x = one q x (equal-from _ (and_right (test p) _ h)) in
        subst (λ k. is_hinted cmp test k hints ≡ true) (sym tied) (hinted.at test (and_left (test p) _ h))

    inserted_under : (test : RouterPlace → Bool) (e : K) (row : RoutedRow K) (rows : List (RoutedRow K)) (at : ℕ) → is_under cmp test e (insert rows at row) ≡ true → ((test (place row) && same cmp e row.expr) || is_under cmp test e rows) ≡ true
    inserted_under test e row [] zero h = h
    inserted_under test e row [] (suc at) h = h
    inserted_under test e row (r ∷ rows) zero h = h
    inserted_under test e row (r ∷ rows) (suc at) h =
        or_split (test (place r) && same cmp e r.expr) (is_under cmp test e (insert rows at row)) h
        (λ t. or_right (test (place row) && same cmp e row.expr) _ (or_left (test (place r) && same cmp e r.expr) _ t))
        (λ t.
        or_split (test (place row) && same cmp e row.expr) (is_under cmp test e rows) (inserted_under test e row rows at t)
        (λ u. or_left (test (place row) && same cmp e row.expr) _ u)
        (λ u. or_right (test (place row) && same cmp e row.expr) _ (or_right (test (place r) && same cmp e r.expr) _ u)))

    pub routed_inserted : (row : RoutedRow K) (p : RouterPlace) (at : ℕ) (old new : List (K × List RouterPlace)) (rows more : List (RoutedRow K)) → p ≡ place row → Keeps cmp old new → IsHinted cmp row.expr p new
        → more ≡ insert rows at row → AreRouted cmp old rows → AreRouted cmp new more
    routed_inserted row p at old new rows more there keeps hinted is are =
        let hinted_there : IsHinted cmp row.expr (place row) new = subst (λ q. IsHinted cmp row.expr q new) there hinted in
        subst (AreRouted cmp new) (sym is)
        (record {
          at = λ test e h.
              or_split (test (place row) && same cmp e row.expr) (is_under cmp test e rows) (inserted_under test e row rows at h)
              (λ t. own (place row) row.expr new hinted_there test e t)
              (λ t. keeps.at test e (are.at test e t));
        })

    pub routed_more : (p : RouterPlace) (x : K) (mid new : List (K × List RouterPlace)) (rows : List (RoutedRow K)) (at : ℕ) (row : RoutedRow K) → at < length rows → row ≡ get_or rows at row → p ≡ place row → x ≡ row.expr
        → Keeps cmp mid new → IsHinted cmp x p new → AreRouted cmp mid (take at rows) → AreRouted cmp new (take (at + 1) rows)
    routed_more p x mid new rows at row within is there named keeps hinted are = record {
      at = λ test e h.
          let hinted_there : IsHinted cmp row.expr (place row) new = subst (λ q. IsHinted cmp row.expr q new) there (subst (λ y. IsHinted cmp y p new) named hinted) in
          let split = sym (list_any_more (λ (r : RoutedRow K). test (place r) && same cmp e r.expr) rows at row within) ∙ h in
          or_split (is_under cmp test e (take at rows)) (test (place (get_or rows at row)) && same cmp e (get_or rows at row).expr) split
          (λ t. keeps.at test e (are.at test e t))
          (λ t. own (place row) row.expr new hinted_there test e (ap (λ (r : RoutedRow K). test (place r) && same cmp e r.expr) is ∙ t));
    }

    -- ---- one row goes, and its hint at its expression
    nat_tied : (n : ℕ) → nat_cmp n n ≡ Equal
    nat_tied n = tied_itself nat_cmp_total n

    region_tied : (r : Region) → region_order r r ≡ Equal
    region_tied r = rw (nat_tied (region_rank r), nat_tied (south_id r), nat_tied (south_mode r)) refl

    same_row : (a b : RoutedRow K) → region_eq a.region b.region ≡ true → zid_eq a.source b.source ≡ true → cmp a.expr b.expr ≡ Equal → is_routed_row cmp a b ≡ true
    same_row a b regions sources named =
        let region : region_order a.region b.region ≡ Equal = subst (λ r. region_order a.region r ≡ Equal) (region_eq-same a.region b.region regions) (region_tied a.region) in
        let source : nat_cmp a.source.0 b.source.0 ≡ Equal = subst (λ (s : Zid). nat_cmp a.source.0 s.0 ≡ Equal) (zid_eq-same a.source b.source sources) (nat_tied a.source.0) in
        rw (region, source, named) refl

    pub routed_dropped : (gone : RoutedRow K) (p : RouterPlace) (x : K) (old new : List (K × List RouterPlace)) (rows rest : List (RoutedRow K)) → p ≡ place gone → x ≡ gone.expr
        → KeepsBut cmp (λ q. region_eq p.region q.region && zid_eq p.source q.source) old new → ((q : K) → is_at (cmp x) q ≡ false → hints_at cmp q new ≡ hints_at cmp q old)
        → rest ≡ filter (λ row. not (is_routed_row cmp gone row)) rows → AreRouted cmp old rows → AreRouted cmp new rest
    routed_dropped gone p x old new rows rest there named keeps others is are =
        subst (AreRouted cmp new) (sym is)
        (record {
          at = λ test e h.
              by_test (is_at (cmp gone.expr) e)
              (λ t.
              still_hinted lost old new test e keeps_there
              (are.at (λ q. not (lost q) && test q) e
              (left_under (is_routed_row cmp gone) lost test e rows
              (λ row tied l.
              same_row gone row (and_left (region_eq gone.region row.region) _ l) (and_right (region_eq gone.region row.region) _ l)
              (subst (λ k. cmp gone.expr k ≡ Equal) (one e row.expr (equal-from _ tied)) (equal-from _ t)))
              h)))
              (λ t.
              ap (list_any test) (others e (subst (λ k. is_at (cmp k) e ≡ false) (sym named) t))
              ∙ are.at test e (left_under (is_routed_row cmp gone) (λ q. false) test e rows (λ row tied l. absurd (false≢true l)) h));
        })
      where
        lost : RouterPlace → Bool
        lost q = region_eq gone.region q.region && zid_eq gone.source q.source

        keeps_there : KeepsBut cmp lost old new
        keeps_there = subst (λ (r : RouterPlace). KeepsBut cmp (λ q. region_eq r.region q.region && zid_eq r.source q.source) old new) there keeps

-- ---- what hints say

module _ {K : Type 0} (cmp : K → K → Ordering) (regions : Region → Bool) (zid : Zid) (e : K) where
  abbrev stands : RoutedRow K → Bool
  stands row = (regions row.region && same cmp e row.expr) && not (zid_eq row.source zid)

  abbrev is_of : RouterPlace → RoutedRow K → Bool
  is_of p row = region_eq p.region row.region && (zid_eq p.source row.source && same cmp e row.expr)

  abbrev stands_at : RouterPlace → RoutedRow K → Bool
  stands_at p row = (regions p.region && not (zid_eq p.source zid)) && is_of p row

  and_any : (b : Bool) (p : RoutedRow K → Bool) (rows : List (RoutedRow K)) → (b && list_any p rows) ≡ true → list_any (λ row. b && p row) rows ≡ true
  and_any true p rows h = h
  and_any false p rows h = absurd (false≢true h)

  to_stands : (p : RouterPlace) (row : RoutedRow K) → stands_at p row ≡ true → stands row ≡ true
  to_stands p row h =
      let shown = and_left (regions p.region && not (zid_eq p.source zid)) _ h in
      let of = and_right (regions p.region && not (zid_eq p.source zid)) _ h in
      let rest = and_right (region_eq p.region row.region) _ of in
      let region : p.region ≡ row.region = region_eq-same p.region row.region (and_left (region_eq p.region row.region) _ of) in
      let source : p.source ≡ row.source = zid_eq-same p.source row.source (and_left (zid_eq p.source row.source) _ rest) in
      and_both (regions row.region && same cmp e row.expr) (not (zid_eq row.source zid))
      (and_both (regions row.region) _ (subst (λ r. regions r ≡ true) region (and_left (regions p.region) _ shown)) (and_right (zid_eq p.source row.source) _ rest))
      (subst (λ s. not (zid_eq s zid) ≡ true) source (and_right (regions p.region) _ shown))

  reached : (rows : List (RoutedRow K)) → list_any stands rows ≡ true → is_under cmp (is_routed_at cmp regions zid e rows) e rows ≡ true
  reached rows h =
      any-reaches rows stands (λ row. is_routed_at cmp regions zid e rows (place row) && same cmp e row.expr)
      (λ row stands_ within.
      let first = and_left (regions row.region && same cmp e row.expr) _ stands_ in
      let named = and_right (regions row.region) _ first in
      and_both (is_routed_at cmp regions zid e rows (place row)) (same cmp e row.expr)
      (and_both (regions row.region && not (zid_eq row.source zid)) _
      (and_both (regions row.region) _ (and_left (regions row.region) _ first) (and_right (regions row.region && same cmp e row.expr) _ stands_))
      (within (is_of (place row)) (and_both (region_eq row.region row.region) _ (region_eq-refl row.region) (and_both (zid_eq row.source row.source) _ (zid_eq-refl row.source) named))))
      named)
      h

  at_place : (p : RouterPlace) (rows : List (RoutedRow K)) → is_routed_at cmp regions zid e rows p ≡ true → list_any (stands_at p) rows ≡ true
  at_place p rows h = and_any (regions p.region && not (zid_eq p.source zid)) (is_of p) rows h

  -- hints of an expression tell whether another router has it in regions
  pub routed_by_hints : (hints : List (K × List RouterPlace)) (rows : List (RoutedRow K)) → AreRouted cmp hints rows → list_any (is_routed_at cmp regions zid e rows) (hints_at cmp e hints) ≡ list_any stands rows
  routed_by_hints hints rows are =
      both-ways (list_any (is_routed_at cmp regions zid e rows) (hints_at cmp e hints)) (list_any stands rows)
      (λ h. any-of_any stands_at stands (hints_at cmp e hints) rows to_stands (any-weaker (is_routed_at cmp regions zid e rows) (λ p. list_any (stands_at p) rows) (hints_at cmp e hints) (λ p t. at_place p rows t) h))
      (λ h. are.at (is_routed_at cmp regions zid e rows) e (reached rows h))
