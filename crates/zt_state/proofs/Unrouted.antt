-- Rows of routers that come and go, with what is counted of them.
use Rattle.std.proofs.Common.{◌≡◌, ℕ, Bool, true, false, ◌&&◌, ◌||◌, not, List, [], ◌∷◌, ◌++◌, ap, ap₂, arith, count_by, drop, filter, get_or, length, map, refl, subst, sym, ◌∙◌, ◌+◌, ◌<◌}
use Rattle.std.proofs.lemmas.List.{drop_more}
use Rattle.std.proofs.lemmas.List.Elements.{filter-append}
use Rattle.std.specs.BTreeSet.{BTreeSet}
use Rattle.std.specs.List.{list_any}
use Rattle.std.specs.declared.cmp.Ordering.{Ordering}
use Rattle.zt_region.specs.declared.region.Region.{Region}
use Rattle.zt_region.specs.declared.region.Zid.{Zid}
use Rattle.zt_region.specs.Region.{region_eq, region_eq-iff, zid_eq, zid_eq-iff}
use Rattle.zt_protocol.specs.Plain.{Trees}
use Rattle.zt_keys.specs.Test.{by_test}
use Rattle.zt_indexes.specs.Recounts.{Recounts, SameRows, count-both, recounts-beside, recounts-both, recounts-none, recounts-same, same-sym}
use Rattle.zt_indexes.specs.Rows as counted
use Rattle.zt_model.specs.Lists.{same}
use Rattle.zt_model.specs.Rows.{RoutedRow, Rows}
use Rattle.zt_model.specs.Trees.{is_left_out, is_routed_row, row_at, without_routed}
use Rattle.zt_link_state.specs.More.{HasOneMore, IsMoreBy}
use Rattle.zt_link_state.specs.Routed.{row_of, rows_in, rows_of}
use Rattle.zt_link_state.specs.Routed as routed
use Rattle.zt_link_state.specs.declared.origin.Origin.{Origin}
use Rattle.zt_link_state.proofs.Origins.{is_row_at}
use Rattle.zt_state.specs.Indexed.{routed_live}
use Rattle.zt_state.specs.OwnRows.{is_own_in, listed_rows, without_own_in}
use Rattle.zt_state.proofs.Recounted.{routed-both, same-refl}

-- ---- one row more or less
module _ {K : Type 0} (cmp : K → K → Ordering) (zid : Zid) (row : RoutedRow K) where
  -- the row stands at some place among the others
  one-beside : (less more : List (RoutedRow K)) → HasOneMore row less more → SameRows cmp (routed_live zid more) (routed_live zid (row ∷ []) ++ routed_live zid less)
  one-beside less more has = record {
    at = λ e region.
        let front = has.front in
        let back = has.back in
        let one = routed_live zid (row ∷ []) in
        let split = ap (routed_live zid) has.others ∙ routed-both zid front back in
        let whole = ap (routed_live zid) has.whole ∙ routed-both zid front (row ∷ back) in
        let next = routed-both zid (row ∷ []) back in
        let a = count-both cmp e region (routed_live zid front) (routed_live zid (row ∷ back)) in
        let b = count-both cmp e region one (routed_live zid back) in
        let c = count-both cmp e region one (routed_live zid less) in
        let d = count-both cmp e region (routed_live zid front) (routed_live zid back) in
        let all = ap (count_by (counted.is_row_at cmp e region)) whole in
        let then = ap (count_by (counted.is_row_at cmp e region)) next in
        let was = ap (count_by (counted.is_row_at cmp e region)) split in
        omega (arith, a, b, c, d, all, then, was);
  }

  pub more-counted : (less more : List (RoutedRow K)) (old new : List (K × List (Region × ℕ))) → HasOneMore row less more → Recounts cmp [] (routed_live zid (row ∷ [])) old new
      → Recounts cmp (routed_live zid less) (routed_live zid more) old new
  more-counted less more old new has one =
      let rest = routed_live zid less in
      let first = routed_live zid (row ∷ []) in
      recounts-same cmp rest (first ++ rest) rest (routed_live zid more) old new (same-refl cmp rest)
      (same-sym cmp (routed_live zid more) (first ++ rest) (one-beside less more has))
      (recounts-beside cmp [] first rest old new one)

  pub less-counted : (less more : List (RoutedRow K)) (old new : List (K × List (Region × ℕ))) → HasOneMore row less more → Recounts cmp (routed_live zid (row ∷ [])) [] old new
      → Recounts cmp (routed_live zid more) (routed_live zid less) old new
  less-counted less more old new has one =
      let rest = routed_live zid less in
      let first = routed_live zid (row ∷ []) in
      recounts-same cmp (first ++ rest) rest (routed_live zid more) rest old new (one-beside less more has) (same-refl cmp rest)
      (recounts-beside cmp first [] rest old new one)

  -- nothing is more or less
  pub none-counted : (xs ys : List (RoutedRow K)) (counts : List (K × List (Region × ℕ))) → ys ≡ xs → Recounts cmp (routed_live zid xs) (routed_live zid ys) counts counts
  none-counted xs ys counts still = subst (λ rows. Recounts cmp (routed_live zid xs) (routed_live zid rows) counts counts) (sym still) (recounts-none cmp (routed_live zid xs) counts)

  pub yes-more : (is_more : Bool) (xs ys : List (RoutedRow K)) → IsMoreBy is_more row xs ys → is_more ≡ true → HasOneMore row xs ys
  yes-more true xs ys more is = more
  yes-more false xs ys more is = cc

  pub no-more : (is_more : Bool) (xs ys : List (RoutedRow K)) → IsMoreBy is_more row xs ys → is_more ≡ false → ys ≡ xs
  no-more true xs ys more is = cc
  no-more false xs ys more is = more

-- ---- rows that go one after another
module _ {K : Type 0} (cmp : K → K → Ordering) where
  -- whatever counts the rows to come in place of those left does it for all
  abbrev pub Leads : (all after left later : List (Region × K)) (old now : List (K × List (Region × ℕ))) → Type 0
  Leads all after left later old now = (last : List (K × List (Region × ℕ))) → Recounts cmp left later now last → Recounts cmp all after old last

  pub leads-all : (all after left later : List (Region × K)) (old : List (K × List (Region × ℕ))) → left ≡ all → later ≡ after → Leads all after left later old old
  leads-all all after left later old whole rest last rows = subst (λ xs. Recounts cmp xs after old last) whole (subst (λ ys. Recounts cmp left ys old last) rest rows)

  pub leads-on : (all after left later one one_after left_on later_on : List (Region × K)) (old now new : List (K × List (Region × ℕ))) → left ≡ one ++ left_on → later ≡ one_after ++ later_on
      → Leads all after left later old now → Recounts cmp one one_after now new → Leads all after left_on later_on old new
  leads-on all after left later one one_after left_on later_on old now new whole rest leads step last rows =
      leads last
      (subst (λ xs. Recounts cmp xs later now last) (sym whole)
      (subst (λ ys. Recounts cmp (one ++ left_on) ys now last) (sym rest) (recounts-both cmp one one_after left_on later_on now new last step rows)))

  pub leads-end : (all after left later : List (Region × K)) (old now : List (K × List (Region × ℕ))) → left ≡ [] → later ≡ [] → Leads all after left later old now → Recounts cmp all after old now
  leads-end all after left later old now none nothing leads =
      leads now (subst (λ xs. Recounts cmp xs later now now) (sym none) (subst (λ ys. Recounts cmp [] ys now now) (sym nothing) (recounts-none cmp [] now)))

  -- ---- the rows of one origin
  module _ (zid : Zid) (o : Origin) where
    pub other-rows : zid_eq o.source zid ≡ false → (ks : List K) → routed_live zid (map (row_of o) ks) ≡ map (λ e. (o.region, e)) ks
    other-rows other [] = refl
    other-rows other (k ∷ ks) = rw other (ap (λ rows. (o.region, k) ∷ rows) (other-rows other ks))

    pub own-rows : zid_eq o.source zid ≡ true → (ks : List K) → routed_live zid (map (row_of o) ks) ≡ []
    own-rows own [] = refl
    own-rows own (k ∷ ks) = rw own (own-rows own ks)

  pub all-listed : (region : Region) (t : Trees) (o : Origin) → routed.is_left_out region t o ≡ false → (ks : List K) → listed_rows cmp region t (map (row_of o) ks) ≡ map (row_of o) ks
  all-listed region t o left [] = refl
  all-listed region t o left (k ∷ ks) = rw left (ap (λ rows. row_of o k ∷ rows) (all-listed region t o left ks))

  pub none-listed : (region : Region) (t : Trees) (o : Origin) → routed.is_left_out region t o ≡ true → (ks : List K) → listed_rows cmp region t (map (row_of o) ks) ≡ []
  none-listed region t o left [] = refl
  none-listed region t o left (k ∷ ks) = rw left (none-listed region t o left ks)

  -- the rows of an origin, and of those behind it
  pub origin-split : (zid : Zid) (x : Origin × BTreeSet K) (xs : List (Origin × BTreeSet K)) → routed_live zid (rows_in (x ∷ xs)) ≡ routed_live zid (rows_of x) ++ routed_live zid (rows_in xs)
  origin-split zid x xs = routed-both zid (rows_of x) (rows_in xs)

  pub listed-split : (zid : Zid) (region : Region) (t : Trees) (x : Origin × BTreeSet K) (xs : List (Origin × BTreeSet K))
      → routed_live zid (listed_rows cmp region t (rows_in (x ∷ xs))) ≡ routed_live zid (listed_rows cmp region t (rows_of x)) ++ routed_live zid (listed_rows cmp region t (rows_in xs))
  listed-split zid region t x xs =
      ap (routed_live zid) (filter-append (λ row. not (is_left_out cmp region t row)) (rows_of x) (rows_in xs))
      ∙ routed-both zid (listed_rows cmp region t (rows_of x)) (listed_rows cmp region t (rows_in xs))

-- ---- own rows, one region after another
both_ways : (a b : Bool) → (a ≡ true → b ≡ true) → (b ≡ true → a ≡ true) → a ≡ b
both_ways true b to from = sym (to refl)
both_ways false true to from = from refl
both_ways false false to from = refl

region_eq-turned : (a b : Region) → region_eq a b ≡ region_eq b a
region_eq-turned a b =
    both_ways (region_eq a b) (region_eq b a)
    (λ t. (region_eq-iff b a).1 (sym ((region_eq-iff a b).0 t))) (λ t. (region_eq-iff a b).1 (sym ((region_eq-iff b a).0 t)))

zid_eq-turned : (a b : Zid) → zid_eq a b ≡ zid_eq b a
zid_eq-turned a b =
    both_ways (zid_eq a b) (zid_eq b a)
    (λ t. (zid_eq-iff b a).1 (sym ((zid_eq-iff a b).0 t))) (λ t. (zid_eq-iff a b).1 (sym ((zid_eq-iff b a).0 t)))

module _ {K : Type 0} (cmp : K → K → Ordering) where
  -- the row of one region, and those of the others
  own-parts : (zid : Zid) (r : Region) (rs : List Region) (e : K) (row : RoutedRow K) → is_own_in cmp zid (r ∷ rs) e row ≡ (is_routed_row cmp (row_at cmp r zid e) row || is_own_in cmp zid rs e row)
  own-parts zid r rs e row =
      let here = is_row_at cmp r zid e row ∙ ap₂ (λ a b. a && (b && same cmp e row.expr)) (region_eq-turned r row.region) (zid_eq-turned zid row.source) in
      distributed (zid_eq row.source zid) (same cmp e row.expr) (region_eq row.region r) (list_any (region_eq row.region) rs) ∙ ap (λ b. b || is_own_in cmp zid rs e row) (sym here)
    where
      distributed : (a s r others : Bool) → (a && (s && (r || others))) ≡ ((r && (a && s)) || (a && (s && others)))
      distributed false s true others = refl
      distributed false s false others = refl
      distributed true false true others = refl
      distributed true false false others = refl
      distributed true true true others = refl
      distributed true true false others = refl

  filter-twice : (p q r : RoutedRow K → Bool) → ((row : RoutedRow K) → r row ≡ (p row || q row)) → (rows : List (RoutedRow K)) → filter (λ row. not (q row)) (filter (λ row. not (p row)) rows) ≡ filter (λ row. not (r row)) rows
  filter-twice p q r parts [] = refl
  filter-twice p q r parts (row ∷ rows) =
      by_test (p row)
      (λ t. let is : r row ≡ true = parts row ∙ ap (λ b. b || q row) t in rw (t, is) (filter-twice p q r parts rows))
      (λ t.
      let is : r row ≡ q row = parts row ∙ ap (λ b. b || q row) t in
      by_test (q row)
      (λ u. let still : r row ≡ true = is ∙ u in rw (t, u, still) (filter-twice p q r parts rows))
      (λ u. let still : r row ≡ false = is ∙ u in rw (t, u, still) (ap (λ rest. row ∷ rest) (filter-twice p q r parts rows))))

  pub own-first : (r : Region) (rs : List Region) (e : K) (g : Rows K) → without_own_in cmp rs e (without_routed cmp r g.zid e g) ≡ without_own_in cmp (r ∷ rs) e g
  unfolding without_routed
  own-first r rs e g =
      ap (λ (rows : List (RoutedRow K)). record g { routed = rows })
      (filter-twice (is_routed_row cmp (row_at cmp r g.zid e)) (is_own_in cmp g.zid rs e) (is_own_in cmp g.zid (r ∷ rs) e) (own-parts g.zid r rs e) g.routed)

  pub own-none : (e : K) (g : Rows K) → without_own_in cmp [] e g ≡ g
  own-none e g = ap (λ (rows : List (RoutedRow K)). record g { routed = rows }) (all_stay g.routed)
    where
      nowhere : (a s : Bool) → (a && (s && false)) ≡ false
      nowhere true true = refl
      nowhere true false = refl
      nowhere false s = refl

      all_stay : (rows : List (RoutedRow K)) → filter (λ row. not (is_own_in cmp g.zid [] e row)) rows ≡ rows
      all_stay [] = refl
      all_stay (row ∷ rows) = let is = nowhere (zid_eq row.source g.zid) (same cmp e row.expr) in rw is (ap (λ rest. row ∷ rest) (all_stay rows))

  -- the rows of one region more go
  pub own-next : (regions : List Region) (i : ℕ) (d : Region) (e : K) (g new : Rows K) (zid : Zid) → i < length regions → zid ≡ g.zid → new ≡ without_routed cmp (get_or regions i d) zid e g
      → without_own_in cmp (drop (i + 1) regions) e new ≡ without_own_in cmp (drop i regions) e g
  own-next regions i d e g new zid within own is =
      ap (λ h. without_own_in cmp (drop (i + 1) regions) e h) (is ∙ ap (λ z. without_routed cmp (get_or regions i d) z e g) own)
      ∙ own-first (get_or regions i d) (drop (i + 1) regions) e g
      ∙ ap (λ rs. without_own_in cmp rs e g) (sym (drop_more regions i d within))

-- a test that is turned
pub turned-false : (b turned : Bool) → turned ≡ not b → turned ≡ true → b ≡ false
turned-false true turned is holds = cc
turned-false false turned is holds = refl

pub turned-true : (b turned : Bool) → turned ≡ not b → turned ≡ false → b ≡ true
turned-true true turned is holds = refl
turned-true false turned is holds = cc
