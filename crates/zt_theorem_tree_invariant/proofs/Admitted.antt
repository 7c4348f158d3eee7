-- Where an admission table refuses no pair of regions that both have faces, all that faces are shown is admitted.
use Rattle.std.proofs.Common.{◌≡◌, Bool, true, false, ◌&&◌, not, List, [], ◌∷◌, refl, ap, ◌∙◌}
use Rattle.std.proofs.lemmas.Bool.{and_from, and_parts, or_left, or_right}
use Rattle.std.specs.List.{list_any}
use Rattle.std.specs.declared.cmp.Ordering.{Ordering}
use Rattle.zt_region.specs.Admission.{admits, is_pair}
use Rattle.zt_region.specs.declared.region.Region.{Region}
use Rattle.zt_region.specs.Region.{region_eq, region_eq-refl, region_eq-same}
use Rattle.zt_model.specs.Lists.{same}
use Rattle.zt_model.specs.Rows.{Face, Rows}
use Rattle.zt_model.specs.Transcript.{Each}
use Rattle.zt_model.specs.Visible.{is_admitted, routed_rows, rows_of_face, shows}
use Rattle.zt_laws.proofs.Lists.{any-map, by_test, each_weaker, never}
use Rattle.zt_laws.proofs.Visible.{any_live_rows}
use Rattle.zt_theorem_tree_invariant.specs.Trees.{has_face_in, have_both_faces}
use Rattle.zt_theorem_tree_invariant.proofs.Quiet.{any_and_last, is_live, is_shown_by}

-- each face's region has a face
regions_have_faces : {K : Type 0} (fs : List (Face K)) → Each (λ f. list_any (λ h. region_eq h.region f.region) fs ≡ true) fs
regions_have_faces [] = tt
regions_have_faces (f ∷ fs) = (
  or_left (region_eq f.region f.region) _ (region_eq-refl f.region),
  each_weaker (λ h. list_any (λ x. region_eq x.region h.region) fs ≡ true) (λ h. list_any (λ x. region_eq x.region h.region) (f ∷ fs) ≡ true) (λ h there. or_right (region_eq f.region h.region) _ there) fs (regions_have_faces fs),
)

-- two regions that have faces are no refused pair
admits_both : {K : Type 0} (g : Rows K) (source own : Region) (refused : List (Region × Region)) → Each (λ pair. have_both_faces g pair ≡ false) refused → has_face_in g source ≡ true → has_face_in g own ≡ true → list_any (is_pair source own) refused ≡ false
admits_both g source own [] all from to = refl
admits_both g source own (pair ∷ refused) all from to =
    by_test (is_pair source own pair)
    (λ here.
    let both = and_parts (region_eq pair.0 source) (region_eq pair.1 own) here in
    let one = ap (has_face_in g) (region_eq-same pair.0 source both.0) ∙ from in
    let two = ap (has_face_in g) (region_eq-same pair.1 own both.1) ∙ to in
    never (and_from (has_face_in g pair.0) (has_face_in g pair.1) one two) all.0)
    (λ here. rw here (admits_both g source own refused all.1 from to))

not_from : (b : Bool) → b ≡ false → not b ≡ true
not_from b h = ap not h

module _ {K : Type 0} (cmp : K → K → Ordering) where
  -- what some face shows is admitted to a region that has a face
  pub admitted_if_shown : (g : Rows K) (own : Region) (e : K) → Each (λ pair. have_both_faces g pair ≡ false) g.refused → has_face_in g own ≡ true → list_any (is_shown_by cmp g.mode own e) g.faces ≡ true → is_admitted cmp g own e ≡ true
  unfolding is_admitted
  admitted_if_shown g own e all to some =
      let test = λ (row : Region × K). same cmp e row.1 && (shows g.mode own row.0 && admits g.refused row.0 own) in
      any_live_rows test g g.faces ∙ or_left (list_any (λ f. list_any test (rows_of_face f)) g.faces) (list_any test (routed_rows g)) (go g.faces (regions_have_faces g.faces) some)
    where
      of_face : (f : Face K) → has_face_in g f.region ≡ true → is_shown_by cmp g.mode own e f ≡ true → list_any (λ row. same cmp e row.1 && (shows g.mode own row.0 && admits g.refused row.0 own)) (rows_of_face f) ≡ true
      of_face f from shown =
          let test = λ (row : Region × K). same cmp e row.1 && (shows g.mode own row.0 && admits g.refused row.0 own) in
          let parts = and_parts (is_live cmp e f) (shows g.mode own f.region) shown in
          let admitted = not_from _ (admits_both g f.region own g.refused all from to) in
          any-map test (λ row. (f.region, row.1)) f.live
          ∙ any_and_last (λ row. same cmp e row.1) (shows g.mode own f.region && admits g.refused f.region own) f.live
          ∙ and_from (is_live cmp e f) (shows g.mode own f.region && admits g.refused f.region own) parts.0 (and_from (shows g.mode own f.region) (admits g.refused f.region own) parts.1 admitted)

      go : (fs : List (Face K)) → Each (λ f. has_face_in g f.region ≡ true) fs → list_any (is_shown_by cmp g.mode own e) fs ≡ true → list_any (λ f. list_any (λ row. same cmp e row.1 && (shows g.mode own row.0 && admits g.refused row.0 own)) (rows_of_face f)) fs ≡ true
      go [] from some_ = never some_ refl
      go (f ∷ fs) from some_ =
          by_test (is_shown_by cmp g.mode own e f)
          (λ here. or_left _ _ (of_face f from.0 here))
          (λ here. or_right (list_any (λ row. same cmp e row.1 && (shows g.mode own row.0 && admits g.refused row.0 own)) (rows_of_face f)) _ (go fs from.1 (rw here at some_)))
