-- The clauses of all turns, and what is promised of a transcript.
use Rattle.std.proofs.Common.{◌≡◌, Bool, false, List, [], ◌∷◌, length, arith}
use Rattle.std.specs.declared.cmp.Ordering.{Ordering}
use Rattle.zt_protocol.specs.Plain.{PlainEntry, PlainLine}
use Rattle.zt_model.specs.Fabric.{Fabric, Node}
use Rattle.zt_model.specs.Parts.{is_routed}
use Rattle.zt_model.specs.Promises.{turns_from}
use Rattle.zt_model.specs.Rows.{Face, Rows}
use Rattle.zt_model.specs.Transcript.{Each, FacesKeepWhatTheyShould, KeepsWhatItShould, fabric_shown}
use Rattle.zt_check_keeping.specs.Bounds.{KeepsNoLess, KeepsNoMore}
use Rattle.zt_check.specs.Laws.{IsFaithfulAndAnswers, MeetsEveryClause}

module _ {K : Type 0} (cmp : K → K → Ordering) (matching : K → K → Bool) where
  abbrev OfFaces : (Rows K → Face K → Type 0) → Rows K → List (Face K) → Type 0
  OfFaces P g fs = Each (λ f. is_routed g f ≡ false → P g f) fs

  faces_keep : (g : Rows K) (fs : List (Face K)) → OfFaces (KeepsNoMore cmp matching) g fs → OfFaces (KeepsNoLess cmp matching) g fs
      → Each (λ f. is_routed g f ≡ false → KeepsWhatItShould cmp matching g f) fs
  faces_keep g [] more less = tt
  faces_keep g (f ∷ fs) more less = (
    λ plain. record { kept_is_visible = (more.0 plain).is_visible; kept_is_sought = (more.0 plain).is_sought; admitted_is_kept = less.0 plain },
    faces_keep g fs more.1 less.1,
  )

  all_keep : (nodes : List (Node K)) → Each (λ (node : Node K). OfFaces (KeepsNoMore cmp matching) node.rows node.rows.faces) nodes
      → Each (λ (node : Node K). OfFaces (KeepsNoLess cmp matching) node.rows node.rows.faces) nodes → Each (λ (node : Node K). FacesKeepWhatTheyShould cmp matching node.rows) nodes
  all_keep [] more less = tt
  all_keep (node ∷ nodes) more less = (faces_keep node.rows node.rows.faces more.0 less.0, all_keep nodes more.1 less.1)

  keep_no_more : (g : Rows K) (fs : List (Face K)) → Each (λ f. is_routed g f ≡ false → KeepsWhatItShould cmp matching g f) fs → OfFaces (KeepsNoMore cmp matching) g fs
  keep_no_more g [] h = tt
  keep_no_more g (f ∷ fs) h = (λ plain. record { is_visible = (h.0 plain).kept_is_visible; is_sought = (h.0 plain).kept_is_sought }, keep_no_more g fs h.1)

  keep_no_less : (g : Rows K) (fs : List (Face K)) → Each (λ f. is_routed g f ≡ false → KeepsWhatItShould cmp matching g f) fs → OfFaces (KeepsNoLess cmp matching) g fs
  keep_no_less g [] h = tt
  keep_no_less g (f ∷ fs) h = (λ plain. (h.0 plain).admitted_is_kept, keep_no_less g fs h.1)

  all_keep_no_more : (nodes : List (Node K)) → Each (λ (node : Node K). FacesKeepWhatTheyShould cmp matching node.rows) nodes → Each (λ (node : Node K). OfFaces (KeepsNoMore cmp matching) node.rows node.rows.faces) nodes
  all_keep_no_more [] h = tt
  all_keep_no_more (node ∷ nodes) h = (keep_no_more node.rows node.rows.faces h.0, all_keep_no_more nodes h.1)

  all_keep_no_less : (nodes : List (Node K)) → Each (λ (node : Node K). FacesKeepWhatTheyShould cmp matching node.rows) nodes → Each (λ (node : Node K). OfFaces (KeepsNoLess cmp matching) node.rows node.rows.faces) nodes
  all_keep_no_less [] h = tt
  all_keep_no_less (node ∷ nodes) h = (keep_no_less node.rows node.rows.faces h.0, all_keep_no_less nodes h.1)

  pub enough : (lines : List (PlainLine K)) (entries : List (PlainEntry K)) (s : Fabric K) → length entries ≡ length lines → MeetsEveryClause cmp matching lines entries s → IsFaithfulAndAnswers cmp matching lines entries s
  unfolding turns_from
  enough [] [] s whole h = (tt, tt)
  enough [] (entry ∷ entries) s whole h = absurd (omega (arith, whole))
  enough (line ∷ lines) [] s whole h = absurd (omega (arith, whole))
  enough (line ∷ lines) (entry ∷ entries) s whole h =
      let after = fabric_shown cmp matching line entry s in
      let text = h.0.0 in
      let cause = h.0.1.0 in
      let more = h.0.1.1.0 in
      let less = h.0.1.1.1.0 in
      let answers = h.0.1.1.1.1.0 in
      let finals = h.0.1.1.1.1.1.0 in
      let others = enough lines entries after (omega (arith, whole)) h.1 in
      ((cause, text, all_keep after.gateways more less, others.0), ((answers, finals), others.1))

  pub no_more : (lines : List (PlainLine K)) (entries : List (PlainEntry K)) (s : Fabric K) → IsFaithfulAndAnswers cmp matching lines entries s → MeetsEveryClause cmp matching lines entries s
  unfolding turns_from
  no_more [] entries s h = tt
  no_more (line ∷ lines) [] s h = absurd h.0
  no_more (line ∷ lines) (entry ∷ entries) s h =
      let after = fabric_shown cmp matching line entry s in
      let cause = h.0.0 in
      let text = h.0.1 in
      let keep = h.0.2 in (
        (text, (cause, (all_keep_no_more after.gateways keep, (all_keep_no_less after.gateways keep, (h.1.0.0, (h.1.0.1, tt)))))),
        no_more lines entries after (h.0.3, h.1.1),
      )
