-- The rows of one origin: its own ones that are hidden, and those that a table leaves out.
use Rattle.std.proofs.Common.{◌≡◌, Bool, true, false, ◌&&◌, if◌then◌else◌, List, [], ◌∷◌, ◌++◌, ap, ap₂, append_assoc, filter, map, refl, sym, ◌∙◌}
use Rattle.std.proofs.lemmas.List.{append-nil, map-append}
use Rattle.std.proofs.lemmas.List.Elements.{filter-append}
use Rattle.std.specs.BTreeSet.{BTreeSet}
use Rattle.std.specs.Cmp.{IsTotalOrder}
use Rattle.std.specs.List.{AllByRecursion}
use Rattle.std.specs.List.Sorted.{IsStrictlySortedBy}
use Rattle.std.specs.Ordering.{is_eq}
use Rattle.std.specs.declared.cmp.Ordering.{Ordering}
use Rattle.std.specs.declared.cmp.Ordering.TheVariants.{Less, Equal, Greater}
use Rattle.zt_keys.specs.Test.{by_test}
use Rattle.zt_region.specs.declared.region.Region.{Region}
use Rattle.zt_region.specs.Region.{zid_eq}
use Rattle.zt_protocol.specs.Plain.{Trees}
use Rattle.zt_model.specs.Lists.{is_among, same, with_key}
use Rattle.zt_model.specs.Rows.{RoutedRow, Rows}
use Rattle.zt_model.specs.Trees.{is_hidden}
use Rattle.zt_model.specs.Trees as model
use Rattle.zt_link_state.specs.Routed.{is_left_out, row_of, rows_in, rows_of}
use Rattle.zt_link_state.specs.declared.origin.Origin.{Origin}
use Rattle.zt_routers.specs.Hiding.{hidden_among, is_own_of}
use Rattle.zt_routers.specs.LeftOut.{exprs_left_out}
use Rattle.zt_tokens.specs.Gathered.{with_keys}
use Rattle.zt_tokens.proofs.Gathering.{with_keys-append}

equal-from : (r : Ordering) → is_eq r ≡ true → r ≡ Equal
equal-from Less h = cc
equal-from Equal h = refl
equal-from Greater h = cc

module _ {K : Type 0} (cmp : K → K → Ordering) (total : IsTotalOrder cmp) (g : Rows K) (source : Region) (e : K) where
  -- whether the gateway's own rows of an origin are hidden
  abbrev pub is_hidden_at : Origin → List K → Bool
  is_hidden_at o ks = zid_eq o.source g.zid && (is_among cmp e ks && is_hidden cmp g source e o.region)

  off-own : (o : Origin) → zid_eq o.source g.zid ≡ false → (ks : List K) → hidden_among cmp g source e (map (row_of o) ks) ≡ []
  off-own o off [] = refl
  off-own o off (k ∷ ks) = rw off (off-own o off ks)

  off-hidden : (o : Origin) → zid_eq o.source g.zid ≡ true → is_hidden cmp g source e o.region ≡ false → (ks : List K) → hidden_among cmp g source e (map (row_of o) ks) ≡ []
  off-hidden o own off [] = refl
  off-hidden o own off (k ∷ ks) =
      let rest = off-hidden o own off ks in
      by_test (same cmp e k) (λ t. rw (own, t, off) rest) (λ t. rw (own, t) rest)

  off-apart : (o : Origin) (ks : List K) → AllByRecursion (λ k. same cmp e k ≡ false) ks → zid_eq o.source g.zid ≡ true → hidden_among cmp g source e (map (row_of o) ks) ≡ []
  off-apart o [] all own = refl
  off-apart o (k ∷ ks) all own = let is = all.0 in rw (own, is) (off-apart o ks all.1 own)

  past-apart : (k : K) (ks : List K) → cmp e k ≡ Equal → AllByRecursion (λ l. cmp k l ≡ Less) ks → AllByRecursion (λ l. same cmp e l ≡ false) ks
  past-apart k [] tied all = tt
  past-apart k (l ∷ ks) tied all = (ap is_eq (total.congr e k l tied ∙ all.0), past-apart k ks tied all.1)

  on-own : (o : Origin) (ks : List K) → zid_eq o.source g.zid ≡ true → is_hidden cmp g source e o.region ≡ true → IsStrictlySortedBy cmp ks
      → hidden_among cmp g source e (map (row_of o) ks) ≡ (if is_among cmp e ks then o.region ∷ [] else [])
  unfolding IsStrictlySortedBy
  on-own o [] own hidden sorted = refl
  on-own o (k ∷ ks) own hidden sorted =
      by_test (same cmp e k)
      (λ t. let none = off-apart o ks (past-apart k ks (equal-from (cmp e k) t) sorted.0) own in rw (own, t, hidden) (ap (λ rs. o.region ∷ rs) none))
      (λ t. rw (own, t) (on-own o ks own hidden sorted.1))

  and_false : (b : Bool) → (b && false) ≡ false
  and_false true = refl
  and_false false = refl

  and_true : (b : Bool) → (b && true) ≡ b
  and_true true = refl
  and_true false = refl

  -- an origin has at most one row of the expression
  pub hidden-one : (o : Origin) (ks : List K) → IsStrictlySortedBy cmp ks → hidden_among cmp g source e (map (row_of o) ks) ≡ (if is_hidden_at o ks then o.region ∷ [] else [])
  hidden-one o ks sorted =
      by_test (zid_eq o.source g.zid)
      (λ own.
      by_test (is_hidden cmp g source e o.region)
      (λ hidden. on-own o ks own hidden sorted ∙ ap (λ b. if b then o.region ∷ [] else []) (sym (ap₂ (λ a h. a && (is_among cmp e ks && h)) own hidden ∙ and_true (is_among cmp e ks))))
      (λ off. off-hidden o own off ks ∙ ap (λ b. if b then o.region ∷ [] else []) (sym (ap₂ (λ a h. a && (is_among cmp e ks && h)) own off ∙ and_false (is_among cmp e ks)))))
      (λ off. off-own o off ks ∙ ap (λ b. if b then o.region ∷ [] else []) (sym (ap (λ a. a && (is_among cmp e ks && is_hidden cmp g source e o.region)) off)))

  pub hidden-yes : (o : Origin) (ks : List K) → IsStrictlySortedBy cmp ks → is_hidden_at o ks ≡ true → hidden_among cmp g source e (map (row_of o) ks) ≡ o.region ∷ []
  hidden-yes o ks sorted is = hidden-one o ks sorted ∙ ap (λ b. if b then o.region ∷ [] else []) is

  pub hidden-no : (o : Origin) (ks : List K) → IsStrictlySortedBy cmp ks → is_hidden_at o ks ≡ false → hidden_among cmp g source e (map (row_of o) ks) ≡ []
  hidden-no o ks sorted is = hidden-one o ks sorted ∙ ap (λ b. if b then o.region ∷ [] else []) is

  -- what is hidden of an origin, and of those behind it
  pub hidden-split : (x : Origin × BTreeSet K) (xs : List (Origin × BTreeSet K)) → hidden_among cmp g source e (rows_in (x ∷ xs)) ≡ hidden_among cmp g source e (rows_of x) ++ hidden_among cmp g source e (rows_in xs)
  hidden-split x xs =
      let test : RoutedRow K → Bool = λ row. is_own_of cmp g.zid e row && is_hidden cmp g source e row.region in
      ap (map (λ row. row.region)) (filter-append test (rows_of x) (rows_in xs)) ∙ map-append (λ row. row.region) (filter test (rows_of x)) (filter test (rows_in xs))

module _ {K : Type 0} (cmp : K → K → Ordering) (region : Region) (t : Trees) where
  pub all-left-out : (o : Origin) → is_left_out region t o ≡ true → (ks : List K) → exprs_left_out cmp region t (map (row_of o) ks) ≡ ks
  all-left-out o is [] = refl
  all-left-out o is (k ∷ ks) = rw is (ap (λ es. k ∷ es) (all-left-out o is ks))

  pub none-left-out : (o : Origin) → is_left_out region t o ≡ false → (ks : List K) → exprs_left_out cmp region t (map (row_of o) ks) ≡ []
  none-left-out o is [] = refl
  none-left-out o is (k ∷ ks) = rw is (none-left-out o is ks)

  left_out-both : (xs ys : List (RoutedRow K)) → exprs_left_out cmp region t (xs ++ ys) ≡ exprs_left_out cmp region t xs ++ exprs_left_out cmp region t ys
  left_out-both xs ys =
      ap (map (λ (row : RoutedRow K). row.expr)) (filter-append (model.is_left_out cmp region t) xs ys)
      ∙ map-append (λ (row : RoutedRow K). row.expr) (filter (model.is_left_out cmp region t) xs) (filter (model.is_left_out cmp region t) ys)

  rows-both : (xs ys : List (Origin × BTreeSet K)) → rows_in (xs ++ ys) ≡ rows_in xs ++ rows_in ys
  rows-both [] ys = refl
  rows-both (x ∷ xs) ys = ap (λ rs. rows_of x ++ rs) (rows-both xs ys) ∙ sym (append_assoc (rows_of x) (rows_in xs) (rows_in ys))

  -- the keys of the last origin are put first
  pub left_out-last : (rest left : List (Origin × BTreeSet K)) (x : Origin × BTreeSet K) (exprs : List K) → rest ≡ left ++ x ∷ []
      → with_keys cmp (exprs_left_out cmp region t (rows_in left)) (with_keys cmp (exprs_left_out cmp region t (rows_of x)) exprs) ≡ with_keys cmp (exprs_left_out cmp region t (rows_in rest)) exprs
  left_out-last rest left x exprs last =
      sym (with_keys-append cmp (exprs_left_out cmp region t (rows_in left)) (exprs_left_out cmp region t (rows_of x)) exprs)
      ∙ ap (λ es. with_keys cmp es exprs)
      (sym (left_out-both (rows_in left) (rows_of x))
      ∙ ap (λ rs. exprs_left_out cmp region t (rows_in left ++ rs)) (sym (append-nil (rows_of x)))
      ∙ ap (exprs_left_out cmp region t) (sym (rows-both left (x ∷ [])) ∙ ap rows_in (sym last)))

-- the last key is put first
pub keys-last : {K : Type 0} (cmp : K → K → Ordering) (rest left : List K) (x : K) (keys : List K) → rest ≡ left ++ x ∷ [] → with_keys cmp left (with_key cmp x keys) ≡ with_keys cmp rest keys
keys-last cmp rest left x keys last = sym (with_keys-append cmp left (x ∷ []) keys) ∙ ap (λ es. with_keys cmp es keys) (sym last)
