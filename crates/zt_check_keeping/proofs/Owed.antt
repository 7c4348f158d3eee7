-- Where no interest asks for what is there now nothing is asked about, or owed to a face to the south: so it keeps all that is.
use Rattle.std.proofs.Common.{◌≡◌, ⊎_elim, ℕ, Bool, true, false, ◌==◌, ◌&&◌, ◌||◌, not, List, [], ◌∷◌, Option, None, Some, refl, sym, ◌∙◌}
use Rattle.std.proofs.lemmas.Bool.{and_cases, and_from, and_left, and_right, not_from_false, or_from, or_left, or_parts, or_right, true≢false}
use Rattle.std.specs.List.{list_all, list_any}
use Rattle.std.specs.declared.cmp.Ordering.{Ordering}
use Rattle.zt_region.specs.declared.region.Region.{Region}
use Rattle.zt_region.specs.declared.region.Region.TheVariants.{Local}
use Rattle.zt_region.specs.Admission.{admits}
use Rattle.zt_region.specs.Region.{is_north, zid_eq}
use Rattle.zt_protocol.specs.Interest.{has_tokens, is_current}
use Rattle.zt_model.specs.Lists.{same}
use Rattle.zt_model.specs.Parts.{is_routed}
use Rattle.zt_model.specs.Rows.{ById, Face, InterestRow, RoutedRow, Rows}
use Rattle.zt_model.specs.Seen.{concerns, is_owed, is_seen, is_seen_and_admitted, sees, stands_in}
use Rattle.zt_model.specs.Visible.{keeps}
use Rattle.zt_check_keeping.specs.Keeping.{keeps_no_less_of, keeps_rightly}
use Rattle.zt_check_keeping.specs.declared.keeping.Bound.TheVariants.{Lower}
use Rattle.zt_check_keeping.specs.Owing.{AreAsking, asks_for_tokens, holds_current, is_asked, is_concerned, is_shown_and_admitted, keeps_all, keeps_concerned, keeps_declared, keeps_of_faces, keeps_routed, may_be_owed}
use Rattle.zt_check_keeping.proofs.Asked.{owes}

pub all_true : {A : Type 0} (p : A → Bool) → ((x : A) → p x ≡ true) → (xs : List A) → list_all p xs ≡ true
all_true p is [] = refl
all_true p is (x ∷ xs) = and_from (p x) (list_all p xs) (is x) (all_true p is xs)

any_less : {A : Type 0} (p q : A → Bool) → ((x : A) → p x ≡ false → q x ≡ false) → (xs : List A) → list_any p xs ≡ false → list_any q xs ≡ false
any_less p q less [] unowed = refl
any_less p q less (x ∷ xs) unowed =
    let parts = or_parts (p x) (list_any p xs) unowed in
    or_from (q x) (list_any q xs) (less x parts.0) (any_less p q less xs parts.1)

module _ {K : Type 0} (cmp : K → K → Ordering) (matching : K → K → Bool) where
  none_asks : (e : K) (held : ById (InterestRow K)) → holds_current held ≡ false → list_any (λ row. concerns matching row.1 e && is_current row.1.mode) held ≡ false
  none_asks e held later = any_less (λ (row : ℕ × InterestRow K). asks_for_tokens row.1) (λ (row : ℕ × InterestRow K). concerns matching row.1 e && is_current row.1.mode) (λ row none. asks_not row.1 e none) held later
    where
      table : (current tokens about : Bool) → (current && tokens) ≡ false → ((tokens && about) && current) ≡ false
      table true true about h = absurd (true≢false h)
      table true false about h = refl
      table false true true h = refl
      table false true false h = refl
      table false false about h = refl

      asks_not : (interest : InterestRow K) (e : K) → asks_for_tokens interest ≡ false → (concerns matching interest e && is_current interest.mode) ≡ false
      asks_not interest e none = table (is_current interest.mode) (has_tokens interest.options) (elim interest.expr as (λ _. Bool) [ None ↦ true | Some k ↦ matching k e ]) none

  not_owed : (f : Face K) (e : K) → (is_north f.region || holds_current f.held) ≡ false → is_owed matching f e ≡ false
  not_owed f e unowed =
      let parts = or_parts (is_north f.region) (holds_current f.held) unowed in
      sym (owes matching f e) ∙ or_from (is_north f.region) (list_any (λ row. concerns matching row.1 e && is_current row.1.mode) f.held) parts.0 (none_asks e f.held parts.1)

  not_concerned : (asking : ById (InterestRow K)) (id : ℕ) (e : K) → holds_current asking ≡ false → is_concerned cmp matching asking id e ≡ false
  not_concerned asking id e later =
      any_less (λ (row : ℕ × InterestRow K). concerns matching row.1 e && is_current row.1.mode) (λ (row : ℕ × InterestRow K). (row.0 == id) && (concerns matching row.1 e && is_current row.1.mode))
      (λ row none. and_right (row.0 == id) (concerns matching row.1 e && is_current row.1.mode) none) asking (none_asks e asking later)

  concerned_kept : (f : Face K) (asking : ById (InterestRow K)) (id : Option ℕ) (e : K) → AreAsking cmp matching f id asking → may_be_owed f asking id ≡ false → keeps_concerned cmp matching f id e ≡ true
  concerned_kept f asking None e are unowed =
      or_left (not (is_asked cmp matching f None e) || not (is_owed matching f e)) (keeps cmp f e)
      (or_right (not (is_asked cmp matching f None e)) (not (is_owed matching f e)) (not_from_false (is_owed matching f e) (not_owed f e unowed)))
  concerned_kept f asking (Some id) e are unowed =
      or_left (not (is_asked cmp matching f (Some id) e) || not (is_owed matching f e)) (keeps cmp f e)
      (or_left (not (is_asked cmp matching f (Some id) e)) (not (is_owed matching f e))
      (not_from_false (is_asked cmp matching f (Some id) e) (sym (are e) ∙ not_concerned asking id e unowed)))

  pub all_kept : (g : Rows K) (f : Face K) (asking : ById (InterestRow K)) (id : Option ℕ) → AreAsking cmp matching f id asking → may_be_owed f asking id ≡ false → keeps_all cmp matching g f id ≡ true
  all_kept g f asking id are unowed =
      and_from (keeps_of_faces cmp matching g.refused f id g.faces) (list_all (keeps_routed cmp matching g f id) g.routed)
      (all_true (λ (source : Face K). not (is_shown_and_admitted g.refused f.region source.region) || keeps_declared cmp matching f id source.live)
      (λ source. or_right (not (is_shown_and_admitted g.refused f.region source.region)) (keeps_declared cmp matching f id source.live) (all_true (λ (row : ℕ × K). keeps_concerned cmp matching f id row.1) (λ row. concerned_kept f asking id row.1 are unowed) source.live)) g.faces)
      (all_true (keeps_routed cmp matching g f id)
      (λ row. or_right (zid_eq row.source g.zid || not (is_shown_and_admitted g.refused f.region row.region)) (keeps_concerned cmp matching f id row.expr) (concerned_kept f asking id row.expr are unowed)) g.routed)

-- ---- an expression of which no token is there

module _ {K : Type 0} (cmp : K → K → Ordering) (matching : K → K → Bool) where
  -- it stands in unowed region
  stands_nowhere : (g : Rows K) (e : K) → stands_in cmp (λ source. true) g e ≡ false → (regions : Region → Bool) → stands_in cmp regions g e ≡ false
  stands_nowhere g e unowed regions =
      let parts = or_parts (list_any (λ f. list_any (λ row. same cmp e row.1) f.live) g.faces) (list_any (λ row. same cmp e row.expr && not (zid_eq row.source g.zid)) g.routed) unowed in
      or_from (list_any (λ f. regions f.region && list_any (λ row. same cmp e row.1) f.live) g.faces)
      (list_any (λ row. (regions row.region && same cmp e row.expr) && not (zid_eq row.source g.zid)) g.routed)
      (any_less (λ (f : Face K). list_any (λ row. same cmp e row.1) f.live) (λ (f : Face K). regions f.region && list_any (λ row. same cmp e row.1) f.live)
      (λ f none. and_right (regions f.region) (list_any (λ row. same cmp e row.1) f.live) none) g.faces parts.0)
      (any_less (λ (row : RoutedRow K). same cmp e row.expr && not (zid_eq row.source g.zid)) (λ (row : RoutedRow K). (regions row.region && same cmp e row.expr) && not (zid_eq row.source g.zid))
      (λ row none. ⊎_elim (λ other. and_left (regions row.region && same cmp e row.expr) (not (zid_eq row.source g.zid)) (and_right (regions row.region) (same cmp e row.expr) other))
      (λ own. and_right (regions row.region && same cmp e row.expr) (not (zid_eq row.source g.zid)) own)
      (and_cases (same cmp e row.expr) (not (zid_eq row.source g.zid)) none)) g.routed parts.1)

  not_admitted : (g : Rows K) (e : K) → is_seen cmp g Local e ≡ false → (own : Region) → is_seen_and_admitted cmp g own e ≡ false
  unfolding is_seen is_seen_and_admitted
  not_admitted g e unowed own = stands_nowhere g e unowed (λ source. sees own source && admits g.refused source own)

  pub kept_unseen : (g : Rows K) (e : K) → is_seen cmp g Local e ≡ false → (f : Face K) → keeps_rightly cmp matching Lower g f e ≡ true
  kept_unseen g e unowed f =
      or_right (is_routed g f) (keeps_no_less_of cmp matching g f e)
      (or_left (not (is_owed matching f e) || not (is_seen_and_admitted cmp g f.region e)) (keeps cmp f e)
      (or_right (not (is_owed matching f e)) (not (is_seen_and_admitted cmp g f.region e)) (not_from_false (is_seen_and_admitted cmp g f.region e) (not_admitted g e unowed f.region))))
