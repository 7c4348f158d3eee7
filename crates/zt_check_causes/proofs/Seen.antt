-- What faces of a region see, collected from the last row to the first.
use Rattle.std.proofs.Common.{◌≡◌, ℕ, ◌+◌, ◌-◌, ◌<◌, Bool, true, false, not, ◌&&◌, if◌then◌else◌, List, [], ◌∷◌, ◌++◌, length, map, filter, drop, get_or, refl, ap, sym, ◌∙◌, arith}
use Rattle.std.proofs.lemmas.List.{drop_more}
use Rattle.std.specs.List.{flat_map}
use Rattle.std.specs.declared.cmp.Ordering.{Ordering}
use Rattle.zt_keys.specs.Test.{by_test}
use Rattle.zt_region.specs.declared.region.Region.{Region}
use Rattle.zt_region.specs.declared.region.WhatAmI.{WhatAmI}
use Rattle.zt_region.specs.declared.region.Zid.{Zid}
use Rattle.zt_region.specs.Region.{zid_eq}
use Rattle.zt_model.specs.Lists.{in_key_order, with_key}
use Rattle.zt_model.specs.Rows.{Face, RoutedRow, Rows}
use Rattle.zt_model.specs.Visible.{live_rows, routed_rows, rows_of_face, shows, visible_expressions}
use Rattle.zt_check_causes.specs.Keys.{with_keys}

-- the last but so many, and those behind it
from_back : {A : Type 0} (xs : List A) (done : ℕ) (x : A) → done < length xs → x ≡ get_or xs (length xs - 1 - done) x
    → drop (length xs - (done + 1)) xs ≡ x ∷ drop (length xs - done) xs
from_back xs done x within is =
    let place : length xs - (done + 1) ≡ length xs - 1 - done = omega (arith, within) in
    let next : length xs - 1 - done + 1 ≡ length xs - done = omega (arith, within) in
    let inside : length xs - 1 - done < length xs = omega (arith, within) in
    rw place (drop_more xs (length xs - 1 - done) x inside ∙ rw next (ap (λ (y : _). y ∷ drop (length xs - done) xs) (sym is)))

module _ {K : Type 0} (cmp : K → K → Ordering) where
  -- keys in order are those put in their places among none
  in_order_is : (es : List K) → in_key_order cmp es ≡ with_keys cmp es []
  in_order_is [] = refl
  in_order_is (e ∷ es) = ap (with_key cmp e) (in_order_is es)

  keys_append : (one two known : List K) → with_keys cmp (one ++ two) known ≡ with_keys cmp one (with_keys cmp two known)
  keys_append [] two known = refl
  keys_append (e ∷ one) two known = ap (with_key cmp e) (keys_append one two known)

  -- ---- tokens of a face

  -- one more of the tokens
  pub live_more : (live : List (ℕ × K)) (done : ℕ) (row : ℕ × K) (known before after : List K)
      → done < length live → row ≡ get_or live (length live - 1 - done) row
      → before ≡ with_keys cmp (map (λ r. r.1) (drop (length live - done) live)) known
      → after ≡ with_key cmp row.1 before
      → after ≡ with_keys cmp (map (λ r. r.1) (drop (length live - (done + 1)) live)) known
  live_more live done row known before after within is so_far put =
      put ∙ ap (with_key cmp row.1) so_far
      ∙ sym (ap (λ rows. with_keys cmp (map (λ r. r.1) rows) known) (from_back live done row within is))

module _ {K : Type 0} where
  -- the expressions of rows
  abbrev pub seen_exprs : List (Region × K) → List K
  seen_exprs rows = map (λ (row : Region × K). row.1) rows

  seen_append : (p : Region × K → Bool) (one two : List (Region × K)) → seen_exprs (filter p (one ++ two)) ≡ seen_exprs (filter p one) ++ seen_exprs (filter p two)
  seen_append p [] two = refl
  seen_append p (x ∷ one) two =
      by_test (p x)
      (λ t. rw t (ap (λ es. x.1 ∷ es) (seen_append p one two)))
      (λ f. rw f (seen_append p one two))

  -- of a face all rows are seen, or none
  live_seen : (p : Region → Bool) (region : Region) (live : List (ℕ × K)) → p region ≡ true
      → map (λ (row : ℕ × K). row.1) live ≡ seen_exprs (filter (λ (row : Region × K). p row.0) (map (λ (row : ℕ × K). (region, row.1)) live))
  live_seen p region [] yes_ = refl
  live_seen p region (row ∷ live) yes_ = rw yes_ (ap (λ es. row.1 ∷ es) (live_seen p region live yes_))

  live_unseen : (p : Region → Bool) (region : Region) (live : List (ℕ × K)) → p region ≡ false
      → [] ≡ seen_exprs (filter (λ (row : Region × K). p row.0) (map (λ (row : ℕ × K). (region, row.1)) live))
  live_unseen p region [] no_ = refl
  live_unseen p region (row ∷ live) no_ = rw no_ (live_unseen p region live no_)

  pub face_seen : (mode : WhatAmI) (own : Region) (f : Face K) → shows mode own f.region ≡ true
      → map (λ (row : ℕ × K). row.1) f.live ≡ seen_exprs (filter (λ (row : Region × K). shows mode own row.0) (rows_of_face f))
  face_seen mode own f yes_ = live_seen (shows mode own) f.region f.live yes_

  pub face_unseen : (mode : WhatAmI) (own : Region) (f : Face K) → shows mode own f.region ≡ false
      → [] ≡ seen_exprs (filter (λ (row : Region × K). shows mode own row.0) (rows_of_face f))
  face_unseen mode own f no_ = live_unseen (shows mode own) f.region f.live no_

  -- the expressions of faces' rows that are seen
  abbrev pub seen_of : WhatAmI → Region → List (Face K) → List K
  seen_of mode own fs = seen_exprs (filter (λ (row : Region × K). shows mode own row.0) (flat_map rows_of_face fs))

  -- and of other routers' rows
  abbrev pub routed_seen : WhatAmI → Region → Zid → List (RoutedRow K) → List K
  routed_seen mode own zid rows =
      seen_exprs (filter (λ (row : Region × K). shows mode own row.0) (map (λ (row : RoutedRow K). (row.region, row.expr)) (filter (λ (row : RoutedRow K). not (zid_eq row.source zid)) rows)))

module _ {K : Type 0} (cmp : K → K → Ordering) where
  pub faces_more : (mode : WhatAmI) (own : Region) (fs : List (Face K)) (done : ℕ) (f : Face K) (known before after : List K)
      → done < length fs → f ≡ get_or fs (length fs - 1 - done) f
      → before ≡ with_keys cmp (seen_of mode own (drop (length fs - done) fs)) known
      → after ≡ with_keys cmp (seen_exprs (filter (λ (row : Region × K). shows mode own row.0) (rows_of_face f))) before
      → after ≡ with_keys cmp (seen_of mode own (drop (length fs - (done + 1)) fs)) known
  faces_more mode own fs done f known before after within is so_far put =
      let p = λ (row : Region × K). shows mode own row.0 in
      let others = drop (length fs - done) fs in
      put ∙ ap (with_keys cmp (seen_exprs (filter p (rows_of_face f)))) so_far
      ∙ sym (keys_append cmp (seen_exprs (filter p (rows_of_face f))) (seen_of mode own others) known)
      ∙ sym (ap (λ es. with_keys cmp es known) (seen_append p (rows_of_face f) (flat_map rows_of_face others)))
      ∙ sym (ap (λ rest. with_keys cmp (seen_of mode own rest) known) (from_back fs done f within is))

  routed_first : (mode : WhatAmI) (own : Region) (zid : Zid) (row : RoutedRow K) (rest : List (RoutedRow K)) (known : List K)
      → with_keys cmp (routed_seen mode own zid (row ∷ rest)) known
      ≡ (if not (zid_eq row.source zid) && shows mode own row.region then with_key cmp row.expr (with_keys cmp (routed_seen mode own zid rest) known) else with_keys cmp (routed_seen mode own zid rest) known)
  routed_first mode own zid row rest known =
      by_test (zid_eq row.source zid)
      (λ same_. rw same_ refl)
      (λ other. by_test (shows mode own row.region) (λ yes_. rw (other, yes_) refl) (λ no_. rw (other, no_) refl))

  pub routed_more : (mode : WhatAmI) (own : Region) (zid : Zid) (rows : List (RoutedRow K)) (done : ℕ) (row : RoutedRow K) (known before after : List K)
      → done < length rows → row ≡ get_or rows (length rows - 1 - done) row
      → before ≡ with_keys cmp (routed_seen mode own zid (drop (length rows - done) rows)) known
      → after ≡ (if not (zid_eq row.source zid) && shows mode own row.region then with_key cmp row.expr before else before)
      → after ≡ with_keys cmp (routed_seen mode own zid (drop (length rows - (done + 1)) rows)) known
  routed_more mode own zid rows done row known before after within is so_far put =
      put ∙ ap (λ (b : List K). if not (zid_eq row.source zid) && shows mode own row.region then with_key cmp row.expr b else b) so_far
      ∙ sym (routed_first mode own zid row (drop (length rows - done) rows) known)
      ∙ sym (ap (λ rest. with_keys cmp (routed_seen mode own zid rest) known) (from_back rows done row within is))

  -- those of all faces, and before them those of other routers
  pub visible_is : (g : Rows K) (own : Region) (routed all : List K)
      → routed ≡ with_keys cmp (routed_seen g.mode own g.zid g.routed) []
      → all ≡ with_keys cmp (seen_of g.mode own g.faces) routed
      → all ≡ visible_expressions cmp g own
  unfolding visible_expressions
  visible_is g own routed all first then_ =
      let p = λ (row : Region × K). shows g.mode own row.0 in
      then_ ∙ ap (with_keys cmp (seen_of g.mode own g.faces)) first
      ∙ sym (keys_append cmp (seen_of g.mode own g.faces) (seen_exprs (filter p (routed_rows g))) [])
      ∙ sym (ap (λ es. with_keys cmp es []) (seen_append p (flat_map rows_of_face g.faces) (routed_rows g)))
      ∙ sym (in_order_is cmp (map (λ row. row.1) (filter p (live_rows g))))
