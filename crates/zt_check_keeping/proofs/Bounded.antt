-- Where each face keeps what it should, so does each that a test looks at.
use Rattle.std.proofs.Common.{◌≡◌, ◌⊎◌, inl, inr, ℕ, Bool, true, false, ◌&&◌, ◌||◌, ◌==◌, not, List, [], ◌∷◌, Option, None, Some, refl, sym, ap, subst, ◌∙◌, eqb-true}
use Rattle.std.proofs.lemmas.Bool.{and_from, or_left, or_right}
use Rattle.std.specs.List.{list_all}
use Rattle.std.specs.declared.cmp.Ordering.{Ordering}
use Rattle.zt_keys.specs.Test.{by_test}
use Rattle.zt_region.specs.declared.region.Region.{Region}
use Rattle.zt_region.specs.Admission.{admits}
use Rattle.zt_region.specs.Region.{zid_eq}
use Rattle.zt_model.specs.Fabric.{Fabric, Node}
use Rattle.zt_model.specs.Lists.{nth, same}
use Rattle.zt_model.specs.Parts.{is_routed}
use Rattle.zt_model.specs.Rows.{ById, Face, RoutedRow, Rows}
use Rattle.zt_model.specs.Seen.{is_owed, is_seen, is_seen_and_admitted, may_hear, sees}
use Rattle.zt_model.specs.Transcript.{Each}
use Rattle.zt_model.specs.Visible.{keeps}
use Rattle.zt_check_keeping.specs.Bounds.{EachPlainFace, KeepsNoLess, KeepsNoMore}
use Rattle.zt_check_keeping.specs.Keeping.{are_no_less, are_no_more, at_face, at_gateway, changed_are_kept, faces_keep_rightly, heard_are_kept, heard_is_kept, holder_keeps, keeps_bound, keeps_no_less_of, keeps_no_more_of, keeps_rightly, may_hear_all, opened_keeps_all, unheld_may_hear}
use Rattle.zt_check_keeping.specs.Owing.{is_asked, is_shown_and_admitted, keeps_all, keeps_concerned, keeps_declared, keeps_of_faces, keeps_routed}
use Rattle.zt_check_keeping.specs.declared.keeping.Bound.{Bound}
use Rattle.zt_check_keeping.specs.declared.keeping.Bound.TheVariants.{Upper, Lower}
use Rattle.zt_check_keeping.proofs.Kept.{each_nth}
use Rattle.zt_check_keeping.proofs.Members.{Among, each_member}
use Rattle.zt_check_keeping.proofs.Standing.{IsRoutedIn, Stands, StandsAt, any_has, stands_admitted}

members_all : {A : Type 0} (p : A → Bool) (xs : List A) → ((x : A) → Among x xs → p x ≡ true) → list_all p xs ≡ true
members_all p [] h = refl
members_all p (x ∷ xs) h = and_from (p x) (list_all p xs) (h x (inl refl)) (members_all p xs (λ y at. h y (inr at)))

unless : (a b : Bool) → (a ≡ true → b ≡ true) → (not a || b) ≡ true
unless true b h = h refl
unless false b h = refl

module _ {K : Type 0} (cmp : K → K → Ordering) (matching : K → K → Bool) (itself : (e : K) → same cmp e e ≡ true) (exact : (a b : K) → same cmp a b ≡ true → a ≡ b) where
  -- ---- one face

  more_bound : (g : Rows K) (f : Face K) (e : K) → KeepsNoMore cmp matching g f → keeps_no_more_of cmp matching g f e ≡ true
  more_bound g f e h =
      by_test (keeps cmp f e)
      (λ kept. or_left (may_hear matching f e && is_seen cmp g f.region e) (not (keeps cmp f e)) (and_from (may_hear matching f e) (is_seen cmp g f.region e) (h.is_sought e kept) (h.is_visible e kept)))
      (λ lost. or_right (may_hear matching f e && is_seen cmp g f.region e) (not (keeps cmp f e)) (ap not lost))

  less_bound : (g : Rows K) (f : Face K) (e : K) → KeepsNoLess cmp matching g f → keeps_no_less_of cmp matching g f e ≡ true
  less_bound g f e h =
      by_test (is_owed matching f e)
      (λ owed. by_test (is_seen_and_admitted cmp g f.region e)
      (λ seen. or_right (not (is_owed matching f e) || not (is_seen_and_admitted cmp g f.region e)) (keeps cmp f e) (h e seen owed))
      (λ unseen. or_left (not (is_owed matching f e) || not (is_seen_and_admitted cmp g f.region e)) (keeps cmp f e) (or_right (not (is_owed matching f e)) (not (is_seen_and_admitted cmp g f.region e)) (ap not unseen))))
      (λ free. or_left (not (is_owed matching f e) || not (is_seen_and_admitted cmp g f.region e)) (keeps cmp f e) (or_left (not (is_owed matching f e)) (not (is_seen_and_admitted cmp g f.region e)) (ap not free)))

  hear_bound : (g : Rows K) (f : Face K) → KeepsNoMore cmp matching g f → may_hear_all cmp matching f ≡ true
  hear_bound g f h = members_all (λ (row : ℕ × K). may_hear matching f row.1) f.told (λ row at. h.is_sought row.1 (any_has cmp itself exact row.1 f.told (row.0, at)))

  concerned_bound : (f : Face K) (id : Option ℕ) (e : K) → (is_owed matching f e ≡ true → keeps cmp f e ≡ true) → keeps_concerned cmp matching f id e ≡ true
  concerned_bound f id e h =
      by_test (is_owed matching f e)
      (λ owed. or_right (not (is_asked cmp matching f id e) || not (is_owed matching f e)) (keeps cmp f e) (h owed))
      (λ free. or_left (not (is_asked cmp matching f id e) || not (is_owed matching f e)) (keeps cmp f e) (or_right (not (is_asked cmp matching f id e)) (not (is_owed matching f e)) (ap not free)))

  abbrev regions : Rows K → Face K → Region → Bool
  regions g f source = sees f.region source && admits g.refused source f.region

  all_bound : (g : Rows K) (f : Face K) (id : Option ℕ) → KeepsNoLess cmp matching g f → keeps_all cmp matching g f id ≡ true
  all_bound g f id h =
      and_from (keeps_of_faces cmp matching g.refused f id g.faces) (list_all (keeps_routed cmp matching g f id) g.routed)
      (members_all (λ (x : Face K). not (is_shown_and_admitted g.refused f.region x.region) || keeps_declared cmp matching f id x.live) g.faces
      (λ source at. unless (is_shown_and_admitted g.refused f.region source.region) (keeps_declared cmp matching f id source.live)
      (λ shown. members_all (λ (row : ℕ × K). keeps_concerned cmp matching f id row.1) source.live
      (λ row at_row. concerned_bound f id row.1
      (λ owed. h row.1 (stands_admitted cmp itself exact g f.region row.1 (inl (record { face = source; there = at; region = shown; has = (row.0, at_row) }))) owed)))))
      (members_all (keeps_routed cmp matching g f id) g.routed (λ row at. routed_bound row at (zid_eq row.source g.zid) refl (is_shown_and_admitted g.refused f.region row.region) refl))
    where
      routed_bound : (row : RoutedRow K) → Among row g.routed → (own : Bool) → zid_eq row.source g.zid ≡ own → (shown : Bool) → is_shown_and_admitted g.refused f.region row.region ≡ shown
          → ((own || not shown) || keeps_concerned cmp matching f id row.expr) ≡ true
      routed_bound row at true is shown shown_is = refl
      routed_bound row at false is false shown_is = refl
      routed_bound row at false is true shown_is =
          concerned_bound f id row.expr
          (λ owed. h row.expr (stands_admitted cmp itself exact g f.region row.expr (inr (record { row = row; there = at; region = shown_is; expr = refl; other = is }))) owed)

  -- ---- all faces

  module _ (P : Rows K → Face K → Type 0) (s : Fabric K) (each : EachPlainFace P s) where
    gateway_bound : (n : ℕ) (test : Rows K → Bool) → ((node : Node K) → nth n s.gateways ≡ Some node → test node.rows ≡ true) → at_gateway s n test ≡ true
    gateway_bound n test h = go (nth n s.gateways) refl
      where
        go : (found : Option (Node K)) → nth n s.gateways ≡ found → (elim found as (λ _. Bool) [ None ↦ true | Some node ↦ test node.rows ]) ≡ true
        go None none = refl
        go (Some node) some = h node some

    face_bound : (n k : ℕ) (test : Rows K → Face K → Bool) → ((g : Rows K) (f : Face K) → P g f → test g f ≡ true) → at_gateway s n (at_face k test) ≡ true
    face_bound n k test h =
        gateway_bound n (at_face k test) (λ node there.
        members_all (λ f. (not (k == f.number) || is_routed node.rows f) || test node.rows f) node.rows.faces
        (λ f at. by_test (is_routed node.rows f)
        (λ routed. or_left (not (k == f.number) || is_routed node.rows f) (test node.rows f) (or_right (not (k == f.number)) (is_routed node.rows f) routed))
        (λ plain. or_right (not (k == f.number) || is_routed node.rows f) (test node.rows f)
        (h node.rows f
        (each_member (λ x. is_routed node.rows x ≡ false → P node.rows x) f node.rows.faces
        (each_nth (λ (y : Node K). Each (λ x. is_routed y.rows x ≡ false → P y.rows x) y.rows.faces) n s.gateways node each there) at plain)))))

    faces_bound : (n : ℕ) (bound : Bound) (e : K) → ((g : Rows K) (f : Face K) → P g f → keeps_bound cmp matching bound g f e ≡ true) → at_gateway s n (λ g. faces_keep_rightly cmp matching bound g e) ≡ true
    faces_bound n bound e h =
        gateway_bound n (λ g. faces_keep_rightly cmp matching bound g e) (λ node there.
        members_all (λ f. keeps_rightly cmp matching bound node.rows f e) node.rows.faces
        (λ f at. by_test (is_routed node.rows f)
        (λ routed. or_left (is_routed node.rows f) (keeps_bound cmp matching bound node.rows f e) routed)
        (λ plain. or_right (is_routed node.rows f) (keeps_bound cmp matching bound node.rows f e)
        (h node.rows f
        (each_member (λ x. is_routed node.rows x ≡ false → P node.rows x) f node.rows.faces
        (each_nth (λ (y : Node K). Each (λ x. is_routed y.rows x ≡ false → P y.rows x) y.rows.faces) n s.gateways node each there) at plain)))))

  pub more_passes : (s : Fabric K) (tokens : List (ℕ × K)) (heard : List (ℕ × ℕ × K)) (unheld : List (ℕ × ℕ)) → EachPlainFace (KeepsNoMore cmp matching) s → are_no_more cmp matching s tokens heard unheld ≡ true
  more_passes s tokens heard unheld each =
      and_from (changed_are_kept cmp matching Upper s tokens && heard_are_kept cmp matching Upper s heard) (list_all (unheld_may_hear cmp matching s) unheld)
      (and_from (changed_are_kept cmp matching Upper s tokens) (heard_are_kept cmp matching Upper s heard)
      (members_all (λ (t : ℕ × K). at_gateway s t.0 (λ g. faces_keep_rightly cmp matching Upper g t.1)) tokens
      (λ t at. faces_bound (KeepsNoMore cmp matching) s each t.0 Upper t.1 (λ g f h. more_bound g f t.1 h)))
      (members_all (heard_is_kept cmp matching Upper s) heard
      (λ t at. face_bound (KeepsNoMore cmp matching) s each t.0 t.1 (λ g f. keeps_bound cmp matching Upper g f t.2) (λ g f h. more_bound g f t.2 h))))
      (members_all (unheld_may_hear cmp matching s) unheld (λ at there. face_bound (KeepsNoMore cmp matching) s each at.0 at.1 (λ g f. may_hear_all cmp matching f) (λ g f h. hear_bound g f h)))

  pub less_passes : (s : Fabric K) (tokens : List (ℕ × K)) (heard : List (ℕ × ℕ × K)) (opened : List (ℕ × ℕ)) (held : List (ℕ × ℕ × ℕ)) → EachPlainFace (KeepsNoLess cmp matching) s → are_no_less cmp matching s tokens heard opened held ≡ true
  less_passes s tokens heard opened held each =
      and_from (changed_are_kept cmp matching Lower s tokens && heard_are_kept cmp matching Lower s heard) (list_all (opened_keeps_all cmp matching s) opened && list_all (holder_keeps cmp matching s) held)
      (and_from (changed_are_kept cmp matching Lower s tokens) (heard_are_kept cmp matching Lower s heard)
      (members_all (λ (t : ℕ × K). at_gateway s t.0 (λ g. faces_keep_rightly cmp matching Lower g t.1)) tokens
      (λ t at. faces_bound (KeepsNoLess cmp matching) s each t.0 Lower t.1 (λ g f h. less_bound g f t.1 h)))
      (members_all (heard_is_kept cmp matching Lower s) heard
      (λ t at. face_bound (KeepsNoLess cmp matching) s each t.0 t.1 (λ g f. keeps_bound cmp matching Lower g f t.2) (λ g f h. less_bound g f t.2 h))))
      (and_from (list_all (opened_keeps_all cmp matching s) opened) (list_all (holder_keeps cmp matching s) held)
      (members_all (opened_keeps_all cmp matching s) opened (λ at there. face_bound (KeepsNoLess cmp matching) s each at.0 at.1 (λ g f. keeps_all cmp matching g f None) (λ g f h. all_bound g f None h)))
      (members_all (holder_keeps cmp matching s) held (λ at there. face_bound (KeepsNoLess cmp matching) s each at.0 at.1 (λ g f. keeps_all cmp matching g f (Some at.2)) (λ g f h. all_bound g f (Some at.2) h))))
