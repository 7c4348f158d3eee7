-- Tables of router regions: a router is listed once in a table that counts, and a new table leaves those of other regions.
use Rattle.std.proofs.Common.{◌≡◌, ℕ, Bool, true, false, not, ◌==◌, ◌&&◌, ◌||◌, List, [], ◌∷◌, ◌++◌, map, filter, Option, Some, None, refl, sym, ap, ◌∙◌, arith}
use Rattle.std.proofs.lemmas.Cmp.{ranked}
use Rattle.std.proofs.lemmas.Bool.{and_parts, or_left, or_right}
use Rattle.std.specs.Cmp.{IsTotalOrder}
use Rattle.std.specs.FinMap.Entries.{by_order, put}
use Rattle.std.specs.List.{list_any}
use Rattle.std.specs.Ordering.{is_eq, nat_cmp, ordering_then}
use Rattle.std.specs.declared.cmp.Ordering.{Ordering}
use Rattle.std.specs.declared.cmp.Ordering.TheVariants.{Less, Equal, Greater}
use Rattle.zt_region.specs.declared.region.Region.{Region}
use Rattle.zt_region.specs.declared.region.Region.TheVariants.{North, Local, South}
use Rattle.zt_region.specs.declared.region.WhatAmI.{WhatAmI}
use Rattle.zt_region.specs.declared.region.WhatAmI.TheVariants.{Router, Peer, Client}
use Rattle.zt_region.specs.declared.region.Zid.{Zid}
use Rattle.zt_region.specs.Region.{region_eq, region_eq-same, zid_eq, zid_eq-refl, zid_eq-same}
use Rattle.zt_protocol.specs.Plain.{Trees}
use Rattle.zt_model.specs.Lists.{first_where, in_key_order, is_among, with_key}
use Rattle.zt_model.specs.Rows.{RoutedRow, Rows}
use Rattle.zt_model.specs.Transcript.{Each}
use Rattle.zt_model.specs.Trees.{counted_beside, counted_table, is_same_router, mode_rank, region_order, region_rank, routed_expressions, routed_order, row_at, routers_in_order, south_id, south_mode, table_of, with_own_rows, with_routed}
use Rattle.zt_laws.specs.Shown.{is_from_other, without_own}
use Rattle.zt_laws.proofs.CallsOrder.{routed_total}
use Rattle.zt_laws.proofs.Keys.{same_itself}
use Rattle.zt_laws.proofs.Lists.{by_test, each_always, each_append, each_fails, each_weaker, never}
use Rattle.zt_laws.proofs.ShownRows.{filter_new_out}
use Rattle.zt_theorem_exact_messages.specs.Nodes.{number_listed}

-- ---- regions that come to one in order are one

then_equal : (a b : Ordering) → ordering_then a b ≡ Equal → (a ≡ Equal) × (b ≡ Equal)
then_equal Less b h = cc
then_equal Equal b h = (refl, h)
then_equal Greater b h = cc

nats_equal : (a b : ℕ) → nat_cmp a b ≡ Equal → a ≡ b
nats_equal a b h = ranked a b Equal (sym h)

modes_equal : (a b : WhatAmI) → mode_rank a ≡ mode_rank b → a ≡ b
modes_equal Router Router h = refl
modes_equal Peer Peer h = refl
modes_equal Client Client h = refl
modes_equal Router Peer h = absurd (omega arith)
modes_equal Router Client h = absurd (omega arith)
modes_equal Peer Router h = absurd (omega arith)
modes_equal Peer Client h = absurd (omega arith)
modes_equal Client Router h = absurd (omega arith)
modes_equal Client Peer h = absurd (omega arith)

regions_equal : (a b : Region) → region_order a b ≡ Equal → a ≡ b
regions_equal a b h = by_case a b (nats_equal (region_rank a) (region_rank b) one.0) (nats_equal (south_id a) (south_id b) two.0) (nats_equal (south_mode a) (south_mode b) two.1)
  where
    one : (nat_cmp (region_rank a) (region_rank b) ≡ Equal) × (ordering_then (nat_cmp (south_id a) (south_id b)) (nat_cmp (south_mode a) (south_mode b)) ≡ Equal)
    one = then_equal (nat_cmp (region_rank a) (region_rank b)) (ordering_then (nat_cmp (south_id a) (south_id b)) (nat_cmp (south_mode a) (south_mode b))) h

    two : (nat_cmp (south_id a) (south_id b) ≡ Equal) × (nat_cmp (south_mode a) (south_mode b) ≡ Equal)
    two = then_equal (nat_cmp (south_id a) (south_id b)) (nat_cmp (south_mode a) (south_mode b)) one.1

    by_case : (c d : Region) → region_rank c ≡ region_rank d → south_id c ≡ south_id d → south_mode c ≡ south_mode d → c ≡ d
    by_case North North ranks ids modes = refl
    by_case Local Local ranks ids modes = refl
    by_case (South i m) (South j k) ranks ids modes = let mode_ : m ≡ k = modes_equal m k modes in cc
    by_case North Local ranks ids modes = absurd (omega arith)
    by_case North (South j k) ranks ids modes = absurd (omega arith)
    by_case Local North ranks ids modes = absurd (omega arith)
    by_case Local (South j k) ranks ids modes = absurd (omega arith)
    by_case (South i m) North ranks ids modes = absurd (omega arith)
    by_case (South i m) Local ranks ids modes = absurd (omega arith)

-- a table that is put leaves those of other regions
pub put_other : (region own : Region) (t : Trees) (rows : List (Region × Trees)) → region_eq region own ≡ false → first_where (λ row. region_eq region row.0) (put region_order own t rows) ≡ first_where (λ row. region_eq region row.0) rows
put_other region own t [] apart = rw apart refl
put_other region own t (row ∷ rows) apart =
    elim (region_order own row.0) as (λ o. region_order own row.0 ≡ o → first_where (λ x. region_eq region x.0) (by_order o ((own, t) ∷ row ∷ rows) ((row.0, t) ∷ rows) (row ∷ put region_order own t rows)) ≡ first_where (λ x. region_eq region x.0) (row ∷ rows)) [
      | Less ↦ λ is. rw apart refl
      | Equal ↦ λ is. let miss : region_eq region row.0 ≡ false = ap (region_eq region) (sym (regions_equal own row.0 is)) ∙ apart in rw miss refl
      | Greater ↦ λ is. by_test (region_eq region row.0) (λ here. rw here refl) (λ here. rw here (put_other region own t rows apart))
    ] refl

-- ---- each router is listed once

found_still : {A : Type 0} (p : A → Bool) (xs ys : List A) (x : A) → first_where p xs ≡ Some x → first_where p (xs ++ ys) ≡ Some x
found_still p [] ys x found = cc
found_still p (y ∷ xs) ys x found = by_test (p y) (λ here. rw here (rw here at found)) (λ here. rw here (found_still p xs ys x (rw here at found)))

found_last : {A : Type 0} (p : A → Bool) (xs : List A) (x : A) → Each (λ y. p y ≡ false) xs → p x ≡ true → first_where p (xs ++ x ∷ []) ≡ Some x
found_last p [] x none_ passes = rw passes refl
found_last p (y ∷ xs) x none_ passes = let miss : p y ≡ false = none_.0 in rw miss (found_last p xs x none_.1 passes)

-- a router is found by its zid
abbrev AreListed : List (ℕ × Zid) → List (ℕ × Zid) → Type 0
AreListed all xs = Each (λ r. first_where (λ router. zid_eq r.1 router.1) all ≡ Some r) xs

or_fails : (a b : Bool) → (a || b) ≡ false → b ≡ false
or_fails true b h = never refl h
or_fails false b h = h

listed_beside : (counted xs : List (ℕ × Zid)) → AreListed counted counted → (let all = counted_beside is_same_router counted xs in AreListed all all)
listed_beside counted [] listed = listed
listed_beside counted (x ∷ xs) listed =
    by_test (list_any (is_same_router x) counted)
    (λ clash. rw clash (listed_beside counted xs listed))
    (λ apart.
    rw apart
    (listed_beside (counted ++ x ∷ []) xs
    (each_append (λ r. first_where (λ router. zid_eq r.1 router.1) (counted ++ x ∷ []) ≡ Some r) counted (x ∷ [])
    (each_weaker (λ r. first_where (λ router. zid_eq r.1 router.1) counted ≡ Some r) (λ r. first_where (λ router. zid_eq r.1 router.1) (counted ++ x ∷ []) ≡ Some r) (λ r found. found_still (λ router. zid_eq r.1 router.1) counted (x ∷ []) r found) counted listed)
    (found_last (λ router. zid_eq x.1 router.1) counted x (each_weaker (λ a. is_same_router x a ≡ false) (λ a. zid_eq x.1 a.1 ≡ false) (λ a miss. or_fails (x.0 == a.0) (zid_eq x.1 a.1) miss) counted (each_fails (is_same_router x) counted apart)) (zid_eq-refl x.1), tt))))

-- keys in order are keys of the list
each_put : {A : Type 0} (order : A → A → Ordering) (P : A → Type 0) (x : A) (xs : List A) → P x → Each P xs → Each P (with_key order x xs)
each_put order P x [] own all = (own, tt)
each_put order P x (y ∷ xs) own all =
    elim (order x y) as (λ o. Each P (by_order o (x ∷ y ∷ xs) (y ∷ xs) (y ∷ with_key order x xs))) [
      | Less ↦ (own, all)
      | Equal ↦ all
      | Greater ↦ (all.0, each_put order P x xs own all.1)
    ]

pub each_ordered : {A : Type 0} (order : A → A → Ordering) (P : A → Type 0) (xs : List A) → Each P xs → Each P (in_key_order order xs)
each_ordered order P [] all = tt
each_ordered order P (x ∷ xs) all = each_put order P x (in_key_order order xs) all.0 (each_ordered order P xs all.1)

module _ {K : Type 0} (cmp : K → K → Ordering) where
  -- the number of each router of a region's table is the one that it's listed under
  pub routers_listed : (g : Rows K) (region : Region) → (let t = table_of g region in Each (λ r. r.0 ≡ number_listed r.1 t) (routers_in_order cmp t))
  unfolding table_of counted_table
  routers_listed g region = cases (first_where (λ t. region_eq region t.0) g.trees)
    where
      In : Trees → Type 0
      In t = Each (λ r. r.0 ≡ number_listed r.1 t) (routers_in_order cmp t)

      listed : (t : Trees) → AreListed t.routers t.routers → In t
      listed t all =
          each_ordered (λ a b. nat_cmp a.0 b.0) (λ r. r.0 ≡ number_listed r.1 t) t.routers
          (each_weaker (λ r. first_where (λ router. zid_eq r.1 router.1) t.routers ≡ Some r) (λ r. r.0 ≡ number_listed r.1 t)
          (λ r found. sym (ap (λ (o : Option (ℕ × Zid)). elim o [ None ↦ 0 | Some router ↦ router.0 ]) found)) t.routers all)

      cases : (o : Option (Region × Trees)) → In (elim o [ None ↦ record { routers = []; links = []; children = [] } | Some t ↦ counted_table t.1 ])
      cases None = tt
      cases (Some t) = listed (counted_table t.1) (listed_beside [] t.1.routers tt)

-- ---- rows that are added

-- a row that is put stands among those that pass
among_put : {A : Type 0} (order : A → A → Ordering) (q : A → Bool) (x : A) (xs : List A) → is_eq (order x x) ≡ true → q x ≡ true → ((y : A) → order x y ≡ Equal → q y ≡ true) → is_among order x (filter q (with_key order x xs)) ≡ true
among_put order q x [] own passes alike = rw (passes, own) refl
among_put order q x (y ∷ xs) own passes alike =
    elim (order x y) as (λ o. order x y ≡ o → is_among order x (filter q (by_order o (x ∷ y ∷ xs) (y ∷ xs) (y ∷ with_key order x xs))) ≡ true) [
      | Less ↦ λ is. rw (passes, own) refl
      | Equal ↦ λ is. let there : q y ≡ true = alike y is in rw there (or_left (is_eq (order x y)) (is_among order x (filter q xs)) (ap is_eq is))
      | Greater ↦ λ is.
          by_test (q y)
          (λ here. rw here (or_right (is_eq (order x y)) (is_among order x (filter q (with_key order x xs))) (among_put order q x xs own passes alike)))
          (λ here. rw here (among_put order q x xs own passes alike))
    ] refl

module _ {K : Type 0} (cmp : K → K → Ordering) where
  own_added : (rs : List Region) (e : K) (g : Rows K) → without_own (with_own_rows cmp rs e g) ≡ without_own g
  unfolding with_own_rows with_routed
  own_added [] e g = refl
  own_added (r ∷ rs) e g =
      own_added rs e (with_routed cmp r g.zid e g)
      ∙ ap (λ (rows : List (RoutedRow K)). record g { routed = rows }) (filter_new_out (routed_order cmp) (is_from_other g.zid) (row_at cmp r g.zid e) g.routed (ap not (zid_eq-refl g.zid)))

  module _ (matching : K → K → Bool) (total : IsTotalOrder cmp) where
    -- the row of a router stands, once it was added, and own rows after it
    pub added_stands : (rs : List Region) (region : Region) (zid : Zid) (e : K) (g : Rows K)
        → (let k = with_own_rows cmp rs e (with_routed cmp region zid e g) in (zid_eq zid k.zid || is_among (routed_order cmp) (row_at cmp region zid e) (filter (is_from_other k.zid) k.routed)) ≡ true)
    unfolding with_routed
    added_stands rs region zid e g = ap In (own_added rs e (with_routed cmp region zid e g)) ∙ added
      where
        In : Rows K → Bool
        In m = zid_eq zid m.zid || is_among (routed_order cmp) (row_at cmp region zid e) m.routed

        added : In (without_own (with_routed cmp region zid e g)) ≡ true
        added =
            by_test (zid_eq zid g.zid)
            (λ own. or_left (zid_eq zid g.zid) _ own)
            (λ other. or_right (zid_eq zid g.zid) _
            (among_put (routed_order cmp) (is_from_other g.zid) (row_at cmp region zid e) g.routed (same_itself (routed_order cmp) (routed_total cmp matching total) (row_at cmp region zid e)) (ap not other)
            (λ y tie.
            let later = (then_equal (region_order region y.region) (ordering_then (nat_cmp zid.0 y.source.0) (cmp e y.expr)) tie).1 in
            let same_ : zid.0 ≡ y.source.0 = nats_equal zid.0 y.source.0 (then_equal (nat_cmp zid.0 y.source.0) (cmp e y.expr) later).0 in
            ap (λ k. not (k == g.zid.0)) (sym same_) ∙ ap not other)))

    -- and so does each of those that a router has
    pub expressions_stand : (g : Rows K) (region : Region) (zid : Zid) → Each (λ e. (zid_eq zid g.zid || is_among (routed_order cmp) (row_at cmp region zid e) (filter (is_from_other g.zid) g.routed)) ≡ true) (routed_expressions cmp g region zid)
    expressions_stand g region zid =
        each_ordered cmp In (map (λ row. row.expr) (filter (λ row. region_eq region row.region && zid_eq zid row.source) g.routed))
        (by_test (zid_eq zid g.zid)
        (λ own. each_always In (λ e. or_left (zid_eq zid g.zid) _ own) (map (λ row. row.expr) (filter (λ row. region_eq region row.region && zid_eq zid row.source) g.routed)))
        (λ other. each_weaker (Amid g.routed) In (λ e there. or_right (zid_eq zid g.zid) _ there) (map (λ row. row.expr) (filter (λ row. region_eq region row.region && zid_eq zid row.source) g.routed)) (rows other g.routed)))
      where
        Amid : List (RoutedRow K) → K → Type 0
        Amid ys e = is_among (routed_order cmp) (row_at cmp region zid e) (filter (is_from_other g.zid) ys) ≡ true

        In : K → Type 0
        In e = (zid_eq zid g.zid || is_among (routed_order cmp) (row_at cmp region zid e) (filter (is_from_other g.zid) g.routed)) ≡ true

        further : (row : RoutedRow K) (ys : List (RoutedRow K)) (e : K) → Amid ys e → Amid (row ∷ ys) e
        further row ys e there =
            by_test (is_from_other g.zid row)
            (λ here. rw here (or_right (is_eq (routed_order cmp (row_at cmp region zid e) row)) (is_among (routed_order cmp) (row_at cmp region zid e) (filter (is_from_other g.zid) ys)) there))
            (λ here. rw here there)

        first_row : (row : RoutedRow K) (ys : List (RoutedRow K)) → zid_eq zid g.zid ≡ false → region ≡ row.region → zid ≡ row.source → Amid (row ∷ ys) row.expr
        first_row row ys other region_ zid_ =
            let foreign : is_from_other g.zid row ≡ true = ap (λ z. not (zid_eq z g.zid)) (sym zid_) ∙ ap not other in
            let tie : is_eq (routed_order cmp (row_at cmp region zid row.expr) row) ≡ true =
            ap (λ r. is_eq (routed_order cmp (row_at cmp r zid row.expr) row)) region_
            ∙ ap (λ z. is_eq (routed_order cmp (row_at cmp row.region z row.expr) row)) zid_
            ∙ same_itself (routed_order cmp) (routed_total cmp matching total) row in
            rw foreign (or_left (is_eq (routed_order cmp (row_at cmp region zid row.expr) row)) (is_among (routed_order cmp) (row_at cmp region zid row.expr) (filter (is_from_other g.zid) ys)) tie)

        rows : zid_eq zid g.zid ≡ false → (ys : List (RoutedRow K)) → Each (Amid ys) (map (λ row. row.expr) (filter (λ row. region_eq region row.region && zid_eq zid row.source) ys))
        rows other [] = tt
        rows other (row ∷ ys) =
            let test = λ (x : RoutedRow K). region_eq region x.region && zid_eq zid x.source in
            let later = each_weaker (Amid ys) (Amid (row ∷ ys)) (λ e there. further row ys e there) (map (λ x. x.expr) (filter test ys)) (rows other ys) in
            by_test (region_eq region row.region && zid_eq zid row.source)
            (λ here.
            let parts = and_parts (region_eq region row.region) (zid_eq zid row.source) here in
            rw here (first_row row ys other (region_eq-same region row.region parts.0) (zid_eq-same zid row.source parts.1), later))
            (λ here. rw here later)
