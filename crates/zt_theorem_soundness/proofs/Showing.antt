-- Which live rows a gateway shows, after its rows change.
use Rattle.std.proofs.Common.{◌≡◌, ℕ, Bool, true, false, not, ◌&&◌, ◌||◌, ◌==◌, List, [], ◌∷◌, ◌++◌, filter, map, Some, refl, sym, ap, ◌∙◌, ⊎_elim, arith, eq-eqb}
use Rattle.std.proofs.Math.Bool.{or-false}
use Rattle.std.proofs.lemmas.Bool.{and_parts, or_left, or_right, or_cases, not-false}
use Rattle.std.proofs.lemmas.Cmp.{ranked}
use Rattle.std.specs.Cmp.{IsTotalOrder}
use Rattle.std.specs.FinMap.Entries.{by_order}
use Rattle.std.specs.List.{flat_map, list_any}
use Rattle.std.specs.Ordering.{nat_cmp, ordering_then}
use Rattle.std.specs.declared.cmp.Ordering.{Ordering}
use Rattle.std.specs.declared.cmp.Ordering.TheVariants.{Less, Equal, Greater}
use Rattle.zt_region.specs.declared.region.Region.{Region}
use Rattle.zt_region.specs.declared.region.Region.TheVariants.{North, Local, South}
use Rattle.zt_region.specs.declared.region.WhatAmI.{WhatAmI}
use Rattle.zt_region.specs.declared.region.WhatAmI.TheVariants.{Router, Peer, Client}
use Rattle.zt_region.specs.declared.region.Zid.{Zid}
use Rattle.zt_region.specs.Region.{region_eq, region_eq-same, zid_eq}
use Rattle.zt_protocol.specs.Plain.{Trees}
use Rattle.zt_model.specs.Lists.{in_key_order, same, with_key}
use Rattle.zt_model.specs.Refusals.{is_token_id_in_use}
use Rattle.zt_model.specs.Rows.{Face, RoutedRow, Rows}
use Rattle.zt_model.specs.Says.{find_face, registered, unregistered, with_face}
use Rattle.zt_model.specs.Transcript.{Each}
use Rattle.zt_model.specs.Trees.{is_hidden, is_left_out, is_listed, is_routed_row, left_out, mode_rank, region_order, region_rank, routed_order, row_at, south_id, south_mode, with_own_rows, with_routed, without_left_out, without_own_rows, without_routed}
use Rattle.zt_model.specs.Visible.{live_rows, routed_rows, rows_of_face}
use Rattle.zt_laws.specs.Sound.{RiseFrom}
use Rattle.zt_laws.proofs.Keys.{is_equal}
use Rattle.zt_laws.proofs.Lists.{any-append, any-filter, any-map, any_from_filter, by_test, never}
use Rattle.zt_laws.proofs.Visible.{any_registered, any_still, any_unregistered}
use Rattle.zt_theorem_soundness.proofs.Keeping.{ShowSame, ShowsLess, ShowsMore}

-- ---- orders that are equal

then_equal : (a b : Ordering) → ordering_then a b ≡ Equal → (a ≡ Equal) × (b ≡ Equal)
then_equal Less b h = absurd (cc)
then_equal Equal b h = (refl, h)
then_equal Greater b h = absurd (cc)

nats_equal : (a b : ℕ) → nat_cmp a b ≡ Equal → a ≡ b
nats_equal a b h = ranked a b Equal (sym h)

modes_equal : (a b : WhatAmI) → mode_rank a ≡ mode_rank b → a ≡ b
modes_equal Router Router h = refl
modes_equal Peer Peer h = refl
modes_equal Client Client h = refl
modes_equal Router Peer h = absurd (omega arith)
modes_equal Router Client h = absurd (omega arith)
modes_equal Peer Router h = absurd (omega arith)
modes_equal Peer Client h = absurd (omega arith)
modes_equal Client Router h = absurd (omega arith)
modes_equal Client Peer h = absurd (omega arith)

regions_equal : (a b : Region) → region_order a b ≡ Equal → a ≡ b
regions_equal a b h = by_case a b (nats_equal (region_rank a) (region_rank b) one.0) (nats_equal (south_id a) (south_id b) two.0) (nats_equal (south_mode a) (south_mode b) two.1)
  where
    one : (nat_cmp (region_rank a) (region_rank b) ≡ Equal) × (ordering_then (nat_cmp (south_id a) (south_id b)) (nat_cmp (south_mode a) (south_mode b)) ≡ Equal)
    one = then_equal (nat_cmp (region_rank a) (region_rank b)) (ordering_then (nat_cmp (south_id a) (south_id b)) (nat_cmp (south_mode a) (south_mode b))) h

    two : (nat_cmp (south_id a) (south_id b) ≡ Equal) × (nat_cmp (south_mode a) (south_mode b) ≡ Equal)
    two = then_equal (nat_cmp (south_id a) (south_id b)) (nat_cmp (south_mode a) (south_mode b)) one.1

    by_case : (c d : Region) → region_rank c ≡ region_rank d → south_id c ≡ south_id d → south_mode c ≡ south_mode d → c ≡ d
    by_case North North ranks ids modes = refl
    by_case Local Local ranks ids modes = refl
    by_case (South i m) (South j k) ranks ids modes = let mode_ : m ≡ k = modes_equal m k modes in cc
    by_case North Local ranks ids modes = absurd (omega arith)
    by_case North (South j k) ranks ids modes = absurd (omega arith)
    by_case Local North ranks ids modes = absurd (omega arith)
    by_case Local (South j k) ranks ids modes = absurd (omega arith)
    by_case (South i m) North ranks ids modes = absurd (omega arith)
    by_case (South i m) Local ranks ids modes = absurd (omega arith)

or_swap : (a b c : Bool) → (a || (b || c)) ≡ (b || (a || c))
or_swap true true c = refl
or_swap true false c = refl
or_swap false b c = refl

or_twice : (a c : Bool) → (a || c) ≡ (a || (a || c))
or_twice true c = refl
or_twice false c = refl

or_turned : (a b : Bool) → (a || b) ≡ (b || a)
or_turned true true = refl
or_turned true false = refl
or_turned false true = refl
or_turned false false = refl

or_grouped : (a b c : Bool) → ((a || b) || c) ≡ (a || (b || c))
or_grouped true b c = refl
or_grouped false b c = refl

-- whether some row passes, once another is put among rows in order
any_with_key : {A : Type 0} (order : A → A → Ordering) (p : A → Bool) (x : A) (xs : List A) → ((y : A) → order x y ≡ Equal → p x ≡ p y) → list_any p (with_key order x xs) ≡ (p x || list_any p xs)
any_with_key order p x [] alike = refl
any_with_key order p x (k ∷ ks) alike =
    elim (order x k) as (λ o. order x k ≡ o → list_any p (by_order o (x ∷ k ∷ ks) (k ∷ ks) (k ∷ with_key order x ks)) ≡ (p x || list_any p (k ∷ ks))) [
      | Less ↦ λ is. refl
      | Equal ↦ λ is. or_twice (p k) (list_any p ks) ∙ ap (λ b. b || list_any p (k ∷ ks)) (sym (alike k is))
      | Greater ↦ λ is. ap (λ b. p k || b) (any_with_key order p x ks alike) ∙ or_swap (p k) (p x) (list_any p ks)
    ] refl

any_dropped : {A : Type 0} (test kept : A → Bool) (t : Bool) (xs : List A) → ((x : A) → kept x ≡ false → test x ≡ true → t ≡ true) → list_any test xs ≡ true → (list_any test (filter kept xs) || t) ≡ true
any_dropped test kept t [] all some = never some refl
any_dropped test kept t (x ∷ xs) all some =
    by_test (kept x)
    (λ here. rw here
    (⊎_elim (λ passes. or_left (test x || list_any test (filter kept xs)) t (or_left (test x) (list_any test (filter kept xs)) passes))
    (λ later. or_grouped (test x) (list_any test (filter kept xs)) t ∙ or_right (test x) (list_any test (filter kept xs) || t) (any_dropped test kept t xs all later))
    (or_cases (test x) (list_any test xs) some)))
    (λ here. rw here
    (⊎_elim (λ passes. or_right (list_any test (filter kept xs)) t (all x here passes))
    (λ later. any_dropped test kept t xs all later)
    (or_cases (test x) (list_any test xs) some)))

-- what passes is left by a filter, or stands among those that it takes
any_split : {A B : Type 0} (q : A → Bool) (p : B → Bool) (f : A → B) (left : A → Bool) (xs : List A) → ((x : A) → left x ≡ true → q x ≡ true → p (f x) ≡ true) → list_any q xs ≡ true → (list_any q (filter (λ x. not (left x)) xs) || list_any p (map f (filter left xs))) ≡ true
any_split q p f left [] spoken some = never some refl
any_split q p f left (x ∷ xs) spoken some =
    let kept = list_any q (filter (λ x. not (left x)) xs) in
    let gone = list_any p (map f (filter left xs)) in
    by_test (left x)
    (λ here. rw here
    (⊎_elim (λ passes. or_right kept (p (f x) || gone) (or_left (p (f x)) gone (spoken x here passes)))
    (λ later. or_swap kept (p (f x)) gone ∙ or_right (p (f x)) (kept || gone) (any_split q p f left xs spoken later))
    (or_cases (q x) (list_any q xs) some)))
    (λ here. rw here
    (⊎_elim (λ passes. or_left (q x || kept) gone (or_left (q x) kept passes))
    (λ later. or_grouped (q x) kept gone ∙ or_right (q x) (kept || gone) (any_split q p f left xs spoken later))
    (or_cases (q x) (list_any q xs) some)))

module _ {K : Type 0} (cmp : K → K → Ordering) where
  -- ---- rows of routers

  -- a test of routed rows that aren't the gateway's own
  abbrev routed_test : (Region × K → Bool) → Rows K → RoutedRow K → Bool
  routed_test test g row = not (zid_eq row.source g.zid) && test (row.region, row.expr)

  any_routed_rows : (test : Region × K → Bool) (g : Rows K) → list_any test (routed_rows g) ≡ list_any (routed_test test g) g.routed
  any_routed_rows test g = any-map test (λ (row : RoutedRow K). (row.region, row.expr)) (filter (λ row. not (zid_eq row.source g.zid)) g.routed) ∙ any-filter (λ (row : RoutedRow K). test (row.region, row.expr)) (λ row. not (zid_eq row.source g.zid)) g.routed

  any_live : (test : Region × K → Bool) (g : Rows K) → list_any test (live_rows g) ≡ (list_any test (flat_map rows_of_face g.faces) || list_any (routed_test test g) g.routed)
  any_live test g = any-append test (flat_map rows_of_face g.faces) (routed_rows g) ∙ ap (λ b. list_any test (flat_map rows_of_face g.faces) || b) (any_routed_rows test g)

  -- ---- own rows aren't live

  own_key : (zid : Zid) (x : RoutedRow K) (xs : List (RoutedRow K)) → zid_eq x.source zid ≡ true → filter (λ row. not (zid_eq row.source zid)) (with_key (routed_order cmp) x xs) ≡ filter (λ row. not (zid_eq row.source zid)) xs
  own_key zid x [] own = rw own refl
  own_key zid x (k ∷ ks) own =
      elim (routed_order cmp x k) as (λ o. filter (λ row. not (zid_eq row.source zid)) (by_order o (x ∷ k ∷ ks) (k ∷ ks) (k ∷ with_key (routed_order cmp) x ks)) ≡ filter (λ row. not (zid_eq row.source zid)) (k ∷ ks)) [
        | Less ↦ rw own refl
        | Equal ↦ refl
        | Greater ↦ by_test (zid_eq k.source zid) (λ here. rw here (own_key zid x ks own)) (λ here. rw here (ap (λ rows. k ∷ rows) (own_key zid x ks own)))
      ]

  own_row_same : (region : Region) (e : K) (g : Rows K) → ShowSame g (with_routed cmp region g.zid e g)
  unfolding with_routed
  own_row_same region e g = record {
    live = ap (λ (rows : List (RoutedRow K)). flat_map rows_of_face g.faces ++ map (λ row. (row.region, row.expr)) rows) (own_key g.zid (row_at cmp region g.zid e) g.routed (eq-eqb g.zid.0 g.zid.0 refl));
    refused = refl;
  }

  show_same_then : (g h k : Rows K) → ShowSame g h → ShowSame h k → ShowSame g k
  show_same_then g h k one two = record { live = two.live ∙ one.live; refused = two.refused ∙ one.refused }

  pub own_rows_same : (rs : List Region) (e : K) (g : Rows K) → ShowSame g (with_own_rows cmp rs e g)
  unfolding with_own_rows
  own_rows_same [] e g = record { live = refl; refused = refl }
  own_rows_same (r ∷ rs) e g = show_same_then g (with_routed cmp r g.zid e g) (with_own_rows cmp rs e (with_routed cmp r g.zid e g)) (own_row_same r e g) (own_rows_same rs e (with_routed cmp r g.zid e g))

  fewer_own : (p : RoutedRow K → Bool) (zid : Zid) (xs : List (RoutedRow K)) → filter (λ row. not (zid_eq row.source zid)) (filter (λ row. not (zid_eq row.source zid && p row)) xs) ≡ filter (λ row. not (zid_eq row.source zid)) xs
  fewer_own p zid [] = refl
  fewer_own p zid (x ∷ xs) =
      by_test (zid_eq x.source zid)
      (λ own. rw own (by_test (p x) (λ here. rw here (fewer_own p zid xs)) (λ here. rw here (rw own (fewer_own p zid xs)))))
      (λ own. rw own (rw own (ap (λ rows. x ∷ rows) (fewer_own p zid xs))))

  pub hidden_same : (source : Region) (e : K) (g : Rows K) → ShowSame g (without_own_rows cmp source e g)
  unfolding without_own_rows
  hidden_same source e g = record {
    live = ap (λ (rows : List (RoutedRow K)). flat_map rows_of_face g.faces ++ map (λ row. (row.region, row.expr)) rows) (fewer_own (λ row. same cmp e row.expr && is_hidden cmp g source e row.region) g.zid g.routed);
    refused = refl;
  }

  -- ---- live rows come

  pub registered_more : (total : IsTotalOrder cmp) (equal_is_same : (a b : K) → cmp a b ≡ Equal → a ≡ b) (n id : ℕ) (e : K) (f : Face K) (g : Rows K) → RiseFrom (λ f. f.number) 1 g.faces → find_face n g ≡ Some f → is_token_id_in_use cmp id e f ≡ false → ShowsMore f.region e g (with_face n (registered id e) g)
  unfolding with_face
  registered_more total equal_is_same n id e f g rises found free = record { rows = λ test. any_registered cmp total equal_is_same test n id e f g rises found free; refused = refl }

  module _ (equal_is_same : (a b : K) → cmp a b ≡ Equal → a ≡ b) where
    rows_equal : (a b : RoutedRow K) → routed_order cmp a b ≡ Equal → a ≡ b
    rows_equal a b h =
        let one = then_equal (region_order a.region b.region) (ordering_then (nat_cmp a.source.0 b.source.0) (cmp a.expr b.expr)) h in
        let two = then_equal (nat_cmp a.source.0 b.source.0) (cmp a.expr b.expr) one.1 in
        let region_ : a.region ≡ b.region = regions_equal a.region b.region one.0 in
        let source_ : a.source.0 ≡ b.source.0 = nats_equal a.source.0 b.source.0 two.0 in
        let expr_ : a.expr ≡ b.expr = equal_is_same a.expr b.expr two.1 in
        ap (λ (r : Region). record a { region = r }) region_
        ∙ ap (λ (n : ℕ). record b { source = record a.source { 0 = n }; expr = a.expr }) source_
        ∙ ap (λ (e : K). record b { expr = e }) expr_

    pub routed_more : (region : Region) (source : Zid) (e : K) (g : Rows K) → zid_eq source g.zid ≡ false → ShowsMore region e g (with_routed cmp region source e g)
    unfolding with_routed
    routed_more region source e g other = record {
      rows = λ test.
          let p = routed_test test g in
          let row = row_at cmp region source e in
          let faces = list_any test (flat_map rows_of_face g.faces) in
          any_live test (with_routed cmp region source e g)
          ∙ ap (λ b. faces || b) (any_with_key (routed_order cmp) p row g.routed (λ y is. ap p (rows_equal row y is)) ∙ ap (λ b. (not b && test (region, e)) || list_any p g.routed) other)
          ∙ ap (λ b. faces || b) (or_turned (test (region, e)) (list_any p g.routed))
          ∙ sym (or_grouped faces (list_any p g.routed) (test (region, e)))
          ∙ ap (λ b. b || test (region, e)) (sym (any_live test g));
      refused = refl;
    }

    -- ---- live rows go

    -- a filter of routed rows leaves no other rows
    fewer_still : (kept : RoutedRow K → Bool) (g : Rows K) (test : Region × K → Bool) → list_any test (live_rows (record g { routed = filter kept g.routed })) ≡ true → list_any test (live_rows g) ≡ true
    fewer_still kept g test some =
        let faces = list_any test (flat_map rows_of_face g.faces) in
        any_live test g
        ∙ ⊎_elim (λ here. or_left faces (list_any (routed_test test g) g.routed) here)
        (λ there. or_right faces (list_any (routed_test test g) g.routed) (any_from_filter (routed_test test g) kept g.routed there))
        (or_cases faces (list_any (routed_test test g) (filter kept g.routed)) (sym (any_live test (record g { routed = filter kept g.routed })) ∙ some))

    -- where what it takes is spoken for
    fewer_but : (kept : RoutedRow K → Bool) (g : Rows K) (test : Region × K → Bool) (t : Bool)
        → (list_any (routed_test test g) g.routed ≡ true → (list_any (routed_test test g) (filter kept g.routed) || t) ≡ true)
        → list_any test (live_rows g) ≡ true → (list_any test (live_rows (record g { routed = filter kept g.routed })) || t) ≡ true
    fewer_but kept g test t spoken some =
        let faces = list_any test (flat_map rows_of_face g.faces) in
        ap (λ b. b || t) (any_live test (record g { routed = filter kept g.routed }))
        ∙ or_grouped faces (list_any (routed_test test g) (filter kept g.routed)) t
        ∙ ⊎_elim (λ here. or_left faces (list_any (routed_test test g) (filter kept g.routed) || t) here)
        (λ there. or_right faces (list_any (routed_test test g) (filter kept g.routed) || t) (spoken there))
        (or_cases faces (list_any (routed_test test g) g.routed) (sym (any_live test g) ∙ some))

    pub routed_gone : (region : Region) (source : Zid) (e : K) (g : Rows K) → ShowsLess region (e ∷ []) g (without_routed cmp region source e g)
    unfolding without_routed
    routed_gone region source e g =
        let kept = λ (row : RoutedRow K). not (is_routed_row cmp (row_at cmp region source e) row) in
        record {
          still = λ test some. fewer_still kept g test some;
          all_but = λ test some.
              fewer_but kept g test (test (region, e) || false)
              (λ there. any_dropped (routed_test test g) kept (test (region, e) || false) g.routed
              (λ row dropped passes.
              let is : row_at cmp region source e ≡ row = rows_equal (row_at cmp region source e) row (is_equal (routed_order cmp (row_at cmp region source e) row) (not-false (is_routed_row cmp (row_at cmp region source e) row) dropped)) in
              or-false (test (region, e)) ∙ ap (λ (x : RoutedRow K). test (x.region, x.expr)) is ∙ (and_parts (not (zid_eq row.source g.zid)) (test (row.region, row.expr)) passes).1)
              there)
              some;
          refused = refl;
        }

    any_in_key_order : (p : K → Bool) (xs : List K) → list_any p (in_key_order cmp xs) ≡ list_any p xs
    any_in_key_order p [] = refl
    any_in_key_order p (x ∷ xs) = any_with_key cmp p x (in_key_order cmp xs) (λ y is. ap p (equal_is_same x y is)) ∙ ap (λ b. p x || b) (any_in_key_order p xs)

    pub left_out_gone : (region : Region) (t : Trees) (g : Rows K) → ShowsLess region (left_out cmp region t g) g (without_left_out cmp region t g)
    left_out_gone region t g =
        let left = λ (row : RoutedRow K). is_left_out cmp region t row in
        let kept = λ (row : RoutedRow K). not (left row) in
        record {
          still = λ test some. fewer_still kept g test some;
          all_but = λ test some.
              let p = λ (e : K). test (region, e) in
              fewer_but kept g test (list_any p (left_out cmp region t g))
              (λ there.
              ap (λ b. list_any (routed_test test g) (filter kept g.routed) || b) (any_in_key_order p (map (λ row. row.expr) (filter left g.routed)))
              ∙ any_split (routed_test test g) p (λ (row : RoutedRow K). row.expr) left g.routed
              (λ row out passes.
              let is : region ≡ row.region = region_eq-same region row.region (and_parts (region_eq region row.region) (not (is_listed row.source t)) out).0 in
              ap (λ r. test (r, row.expr)) is ∙ (and_parts (not (zid_eq row.source g.zid)) (test (row.region, row.expr)) passes).1)
              there)
              some;
          refused = refl;
        }

  pub unregistered_less : (n id : ℕ) (e : K) (f : Face K) (g : Rows K) → RiseFrom (λ f. f.number) 1 g.faces → find_face n g ≡ Some f → Each (λ row. (id == row.0) ≡ true → row.1 ≡ e) f.live → ShowsLess f.region (e ∷ []) g (with_face n (unregistered id) g)
  unfolding with_face
  unregistered_less n id e f g rises found only = record {
    still = λ test some. any_still test n id g some;
    all_but = λ test some. ap (λ b. list_any test (live_rows (with_face n (unregistered id) g)) || b) (or-false (test (f.region, e))) ∙ any_unregistered test n id e f g rises found only some;
    refused = refl;
  }
