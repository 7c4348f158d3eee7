-- Each kind of line is read exactly where the grammar has it.
use Rattle.std.proofs.Common.{◌≡◌, ℕ, Bool, List, [], ◌∷◌, ◌++◌, Option, Some, None, Result, Ok, refl, sym, ap, subst, ◌∙◌}
use Rattle.std.specs.Prelude.{codes, unwrap_or}
use Rattle.zt_keys.specs.declared.error.KeyError.{KeyError}
use Rattle.zt_region.specs.declared.region.WhatAmI.{WhatAmI}
use Rattle.zt_region.specs.declared.region.Bound.{Bound}
use Rattle.zt_region.specs.declared.region.Region.{Region}
use Rattle.zt_region.specs.declared.region.Zid.{Zid}
use Rattle.zt_region.specs.South.{PlainSouth}
use Rattle.zt_protocol.specs.declared.interests.InterestMode.{InterestMode}
use Rattle.zt_protocol.specs.declared.interests.InterestOptions.{InterestOptions}
use Rattle.zt_protocol.specs.declared.messages.QueryableInfo.{QueryableInfo}
use Rattle.zt_protocol.specs.Plain.{PlainLine, Gateway, Session, Face, Link, Unlink, Step, Speak, Moment, SetTreesAt, DeclareToken, UndeclareToken, Interest, InterestFinal, DeclareFinal, CloseFace, SetEntities, Trees}
use Rattle.zt_fields.specs.Numbers.{u16_of, u32_of, u64_of}
use Rattle.zt_lines.specs.Words.{word_of}
use Rattle.zt_fields.specs.Fields.{or_bad, spelled_by, Fields, end_at, value_at, optional_value_at}
use Rattle.zt_fields.specs.Values.{mode_of, bound_of, zid_of, direction_of, interest_mode_of, options_of, first_of, key_read, region_of, pair_of, triple_of}
use Rattle.zt_lines.specs.Lists.{name_of, list_read, south_read, south_regions_read}
use Rattle.zt_lines.specs.Items.{entities_read}
use Rattle.zt_lines.specs.Reading.{gateway_at, session_at, face_at, trees_at, entities_at, link_at, unlink_at, step_at, moment_at, declare_at, undeclare_at, interest_at, interest_final_at, declare_final_at, close_at, kind_at, line_at}
use Rattle.zt_fields.specs.Spellings.{IsU16, IsU32, IsU64, IsFirst, IsMode, IsBound, IsDirection, IsInterestMode, IsOptions, IsZid, IsRegion, IsKey, IsPair, IsTriple, MayStand}
use Rattle.zt_lines.specs.Grammar.{IsName, IsList, AreSouthRegions, IsSouthConf, IsLine}
use Rattle.zt_fields.proofs.ResultLemmas.{bind_ok, ok_is}
use Rattle.zt_fields.proofs.Exact.{Exact, or_bad_ok, exact_mode, exact_bound, exact_direction, exact_interest_mode, exact_u16, exact_u32, exact_u64}
use Rattle.zt_fields.proofs.ExactParts.{exact_zid, exact_first, exact_key, exact_region, exact_options}
use Rattle.zt_lines.proofs.ExactNames.{exact_name}
use Rattle.zt_lines.proofs.ExactLists.{exact_list, exact_pair, exact_triple, exact_south_regions}
use Rattle.zt_fields.proofs.ExactFields.{value_sound, value_complete, optional_sound, optional_complete, optional_last, absent_before, absent_last, end_sound, ended}
use Rattle.zt_lines.proofs.ExactSouth.{exact_south, entities_sound, entities_complete}

abbrev refused_exact : Exact (list_read (spelled_by (pair_of region_of region_of)) 44) (IsList (IsPair IsRegion IsRegion) 44)
refused_exact = exact_list (spelled_by (pair_of region_of region_of)) (IsPair IsRegion IsRegion) (exact_pair region_of region_of IsRegion IsRegion exact_region exact_region) 44

pub session_sound : {K : Type 0} (reading : List ℕ → Result K KeyError) (fields : Fields) (line : PlainLine K) → session_at fields ≡ Ok line → IsLine reading (codes "session" ∷ fields) line
unfolding session_at
session_sound {K} reading fields line h =
    let a = bind_ok (value_at (spelled_by u32_of) fields) _ line h in
    let b = bind_ok (optional_value_at (spelled_by first_of) (codes "first=") a.0.1) _ line a.2 in
    let z = bind_ok (end_at b.0.1) _ line b.2 in
    let made : PlainLine K = Session a.0.0 (unwrap_or b.0.0 1) in
    let aa = value_sound (spelled_by u32_of) IsU32 exact_u32 fields a.0 a.1 in
    let bb = optional_sound (spelled_by first_of) IsFirst exact_first (codes "first=") a.0.1 b.0 b.1 in
    let same = ap (λ (t : Fields). codes "session" ∷ t) (aa.1 ∙ ap (λ (t : Fields). aa.0 ∷ t) (ended a.0.1 bb.0 b.0.1 bb.1 (end_sound b.0.1 z.0 z.1))) in
    let found : IsLine reading (codes "session" ∷ fields) made = (aa.0, bb.0, same, aa.2, (b.0.0, bb.2, refl)) in
    subst (IsLine reading (codes "session" ∷ fields)) (ok_is made line z.2) found

pub session_complete : {K : Type 0} (reading : List ℕ → Result K KeyError) (fields : Fields) (gateway : ℕ) (first : ℕ) → IsLine reading fields (Session gateway first) → line_at reading fields ≡ Ok (Session gateway first)
unfolding line_at kind_at word_of session_at
session_complete reading fields gateway first h =
    ap (line_at reading) h.2 ∙ rw (
      value_complete (spelled_by u32_of) IsU32 exact_u32 h.0 h.1 gateway h.3,
      optional_last (spelled_by first_of) IsFirst exact_first (codes "first=") h.1 h.4.0 h.4.1,
      h.4.2,
    ) refl

pub face_sound : {K : Type 0} (reading : List ℕ → Result K KeyError) (fields : Fields) (line : PlainLine K) → face_at fields ≡ Ok line → IsLine reading (codes "face" ∷ fields) line
unfolding face_at
face_sound {K} reading fields line h =
    let a = bind_ok (value_at (spelled_by u32_of) fields) _ line h in
    let b = bind_ok (value_at (spelled_by mode_of) a.0.1) _ line a.2 in
    let c = bind_ok (value_at (spelled_by zid_of) b.0.1) _ line b.2 in
    let d = bind_ok (value_at (spelled_by region_of) c.0.1) _ line c.2 in
    let e = bind_ok (value_at (spelled_by bound_of) d.0.1) _ line d.2 in
    let f = bind_ok (optional_value_at (spelled_by first_of) (codes "first=") e.0.1) _ line e.2 in
    let z = bind_ok (end_at f.0.1) _ line f.2 in
    let made : PlainLine K = Face a.0.0 b.0.0 c.0.0 d.0.0 e.0.0 (unwrap_or f.0.0 1) in
    let aa = value_sound (spelled_by u32_of) IsU32 exact_u32 fields a.0 a.1 in
    let bb = value_sound (spelled_by mode_of) IsMode exact_mode a.0.1 b.0 b.1 in
    let cc = value_sound (spelled_by zid_of) IsZid exact_zid b.0.1 c.0 c.1 in
    let dd = value_sound (spelled_by region_of) IsRegion exact_region c.0.1 d.0 d.1 in
    let ee = value_sound (spelled_by bound_of) IsBound exact_bound d.0.1 e.0 e.1 in
    let ff = optional_sound (spelled_by first_of) IsFirst exact_first (codes "first=") e.0.1 f.0 f.1 in
    let same = ap (λ (t : Fields). codes "face" ∷ t) (aa.1 ∙ ap (λ (t : Fields). aa.0 ∷ t) (bb.1 ∙ ap (λ (t : Fields). bb.0 ∷ t) (cc.1 ∙ ap (λ (t : Fields). cc.0 ∷ t) (dd.1 ∙ ap (λ (t : Fields). dd.0 ∷ t) (ee.1 ∙ ap (λ (t : Fields). ee.0 ∷ t) (ended e.0.1 ff.0 f.0.1 ff.1 (end_sound f.0.1 z.0 z.1))))))) in
    let found : IsLine reading (codes "face" ∷ fields) made = (aa.0, bb.0, cc.0, dd.0, ee.0, ff.0, same, aa.2, bb.2, cc.2, dd.2, ee.2, (f.0.0, ff.2, refl)) in
    subst (IsLine reading (codes "face" ∷ fields)) (ok_is made line z.2) found

pub face_complete : {K : Type 0} (reading : List ℕ → Result K KeyError) (fields : Fields) (gateway : ℕ) (mode : WhatAmI) (zid : Zid) (region : Region) (bound : Bound) (first : ℕ) → IsLine reading fields (Face gateway mode zid region bound first) → line_at reading fields ≡ Ok (Face gateway mode zid region bound first)
unfolding line_at kind_at word_of face_at
face_complete reading fields gateway mode zid region bound first h =
    ap (line_at reading) h.6 ∙ rw (
      value_complete (spelled_by u32_of) IsU32 exact_u32 h.0 (h.1 ∷ (h.2 ∷ (h.3 ∷ (h.4 ∷ h.5)))) gateway h.7,
      value_complete (spelled_by mode_of) IsMode exact_mode h.1 (h.2 ∷ (h.3 ∷ (h.4 ∷ h.5))) mode h.8,
      value_complete (spelled_by zid_of) IsZid exact_zid h.2 (h.3 ∷ (h.4 ∷ h.5)) zid h.9,
      value_complete (spelled_by region_of) IsRegion exact_region h.3 (h.4 ∷ h.5) region h.10,
      value_complete (spelled_by bound_of) IsBound exact_bound h.4 h.5 bound h.11,
      optional_last (spelled_by first_of) IsFirst exact_first (codes "first=") h.5 h.12.0 h.12.1,
      h.12.2,
    ) refl

pub link_sound : {K : Type 0} (reading : List ℕ → Result K KeyError) (fields : Fields) (line : PlainLine K) → link_at fields ≡ Ok line → IsLine reading (codes "link" ∷ fields) line
unfolding link_at
link_sound {K} reading fields line h =
    let a = bind_ok (value_at (spelled_by u32_of) fields) _ line h in
    let b = bind_ok (value_at (spelled_by u32_of) a.0.1) _ line a.2 in
    let c = bind_ok (optional_value_at (spelled_by first_of) (codes "first=") b.0.1) _ line b.2 in
    let d = bind_ok (optional_value_at (spelled_by first_of) (codes "back=") c.0.1) _ line c.2 in
    let z = bind_ok (end_at d.0.1) _ line d.2 in
    let made : PlainLine K = Link a.0.0 b.0.0 (unwrap_or c.0.0 1) (unwrap_or d.0.0 1) in
    let aa = value_sound (spelled_by u32_of) IsU32 exact_u32 fields a.0 a.1 in
    let bb = value_sound (spelled_by u32_of) IsU32 exact_u32 a.0.1 b.0 b.1 in
    let cc = optional_sound (spelled_by first_of) IsFirst exact_first (codes "first=") b.0.1 c.0 c.1 in
    let dd = optional_sound (spelled_by first_of) IsFirst exact_first (codes "back=") c.0.1 d.0 d.1 in
    let same = ap (λ (t : Fields). codes "link" ∷ t) (aa.1 ∙ ap (λ (t : Fields). aa.0 ∷ t) (bb.1 ∙ ap (λ (t : Fields). bb.0 ∷ t) (cc.1 ∙ ap (λ (t : Fields). cc.0 ++ t) (ended c.0.1 dd.0 d.0.1 dd.1 (end_sound d.0.1 z.0 z.1))))) in
    let found : IsLine reading (codes "link" ∷ fields) made = (aa.0, bb.0, cc.0, dd.0, same, aa.2, bb.2, (c.0.0, cc.2, refl), (d.0.0, dd.2, refl)) in
    subst (IsLine reading (codes "link" ∷ fields)) (ok_is made line z.2) found

pub link_complete : {K : Type 0} (reading : List ℕ → Result K KeyError) (fields : Fields) (one : ℕ) (two : ℕ) (first : ℕ) (back : ℕ) → IsLine reading fields (Link one two first back) → line_at reading fields ≡ Ok (Link one two first back)
unfolding line_at kind_at word_of link_at
link_complete reading fields one two first back h =
    ap (line_at reading) h.4 ∙ rw (
      value_complete (spelled_by u32_of) IsU32 exact_u32 h.0 (h.1 ∷ (h.2 ++ h.3)) one h.5,
      value_complete (spelled_by u32_of) IsU32 exact_u32 h.1 (h.2 ++ h.3) two h.6,
      optional_complete (spelled_by first_of) IsFirst exact_first (codes "first=") h.2 h.7.0 h.3 h.7.1 (absent_last IsFirst (codes "first=") (codes "back=") (λ t. refl) h.3 h.8.0 h.8.1),
      optional_last (spelled_by first_of) IsFirst exact_first (codes "back=") h.3 h.8.0 h.8.1,
      h.7.2,
      h.8.2,
    ) refl

pub unlink_sound : {K : Type 0} (reading : List ℕ → Result K KeyError) (fields : Fields) (line : PlainLine K) → unlink_at fields ≡ Ok line → IsLine reading (codes "unlink" ∷ fields) line
unfolding unlink_at
unlink_sound {K} reading fields line h =
    let a = bind_ok (value_at (spelled_by u32_of) fields) _ line h in
    let z = bind_ok (end_at a.0.1) _ line a.2 in
    let made : PlainLine K = Unlink a.0.0 in
    let aa = value_sound (spelled_by u32_of) IsU32 exact_u32 fields a.0 a.1 in
    let same = ap (λ (t : Fields). codes "unlink" ∷ t) (aa.1 ∙ ap (λ (t : Fields). aa.0 ∷ t) (end_sound a.0.1 z.0 z.1)) in
    let found : IsLine reading (codes "unlink" ∷ fields) made = (aa.0, same, aa.2) in
    subst (IsLine reading (codes "unlink" ∷ fields)) (ok_is made line z.2) found

pub unlink_complete : {K : Type 0} (reading : List ℕ → Result K KeyError) (fields : Fields) (link : ℕ) → IsLine reading fields (Unlink link) → line_at reading fields ≡ Ok (Unlink link)
unfolding line_at kind_at word_of unlink_at
unlink_complete reading fields link h =
    ap (line_at reading) h.1 ∙ rw (value_complete (spelled_by u32_of) IsU32 exact_u32 h.0 [] link h.2) refl

pub step_sound : {K : Type 0} (reading : List ℕ → Result K KeyError) (fields : Fields) (line : PlainLine K) → step_at fields ≡ Ok line → IsLine reading (codes "step" ∷ fields) line
unfolding step_at
step_sound {K} reading fields line h =
    let a = bind_ok (value_at (spelled_by u32_of) fields) _ line h in
    let b = bind_ok (value_at (spelled_by direction_of) a.0.1) _ line a.2 in
    let z = bind_ok (end_at b.0.1) _ line b.2 in
    let made : PlainLine K = Step a.0.0 b.0.0 in
    let aa = value_sound (spelled_by u32_of) IsU32 exact_u32 fields a.0 a.1 in
    let bb = value_sound (spelled_by direction_of) IsDirection exact_direction a.0.1 b.0 b.1 in
    let same = ap (λ (t : Fields). codes "step" ∷ t) (aa.1 ∙ ap (λ (t : Fields). aa.0 ∷ t) (bb.1 ∙ ap (λ (t : Fields). bb.0 ∷ t) (end_sound b.0.1 z.0 z.1))) in
    let found : IsLine reading (codes "step" ∷ fields) made = (aa.0, bb.0, same, aa.2, bb.2) in
    subst (IsLine reading (codes "step" ∷ fields)) (ok_is made line z.2) found

pub step_complete : {K : Type 0} (reading : List ℕ → Result K KeyError) (fields : Fields) (link : ℕ) (back : Bool) → IsLine reading fields (Step link back) → line_at reading fields ≡ Ok (Step link back)
unfolding line_at kind_at word_of step_at
step_complete reading fields link back h =
    ap (line_at reading) h.2 ∙ rw (
      value_complete (spelled_by u32_of) IsU32 exact_u32 h.0 (h.1 ∷ []) link h.3,
      value_complete (spelled_by direction_of) IsDirection exact_direction h.1 [] back h.4,
    ) refl

pub moment_sound : {K : Type 0} (reading : List ℕ → Result K KeyError) (fields : Fields) (line : PlainLine K) → moment_at fields ≡ Ok line → IsLine reading (codes "moment" ∷ fields) line
unfolding moment_at
moment_sound {K} reading fields line h =
    let a = bind_ok (value_at (spelled_by u32_of) fields) _ line h in
    let b = bind_ok (value_at (spelled_by u64_of) a.0.1) _ line a.2 in
    let z = bind_ok (end_at b.0.1) _ line b.2 in
    let made : PlainLine K = Moment a.0.0 b.0.0 in
    let aa = value_sound (spelled_by u32_of) IsU32 exact_u32 fields a.0 a.1 in
    let bb = value_sound (spelled_by u64_of) IsU64 exact_u64 a.0.1 b.0 b.1 in
    let same = ap (λ (t : Fields). codes "moment" ∷ t) (aa.1 ∙ ap (λ (t : Fields). aa.0 ∷ t) (bb.1 ∙ ap (λ (t : Fields). bb.0 ∷ t) (end_sound b.0.1 z.0 z.1))) in
    let found : IsLine reading (codes "moment" ∷ fields) made = (aa.0, bb.0, same, aa.2, bb.2) in
    subst (IsLine reading (codes "moment" ∷ fields)) (ok_is made line z.2) found

pub moment_complete : {K : Type 0} (reading : List ℕ → Result K KeyError) (fields : Fields) (gateway : ℕ) (now : ℕ) → IsLine reading fields (Moment gateway now) → line_at reading fields ≡ Ok (Moment gateway now)
unfolding line_at kind_at word_of moment_at
moment_complete reading fields gateway now h =
    ap (line_at reading) h.2 ∙ rw (
      value_complete (spelled_by u32_of) IsU32 exact_u32 h.0 (h.1 ∷ []) gateway h.3,
      value_complete (spelled_by u64_of) IsU64 exact_u64 h.1 [] now h.4,
    ) refl

pub declare_sound : {K : Type 0} (reading : List ℕ → Result K KeyError) (fields : Fields) (line : PlainLine K) → declare_at reading fields ≡ Ok line → IsLine reading (codes "declare" ∷ fields) line
unfolding declare_at
declare_sound {K} reading fields line h =
    let a = bind_ok (value_at (spelled_by u32_of) fields) _ line h in
    let b = bind_ok (value_at (spelled_by u32_of) a.0.1) _ line a.2 in
    let c = bind_ok (value_at (key_read reading) b.0.1) _ line b.2 in
    let d = bind_ok (optional_value_at (spelled_by u32_of) (codes "interest=") c.0.1) _ line c.2 in
    let e = bind_ok (optional_value_at (spelled_by u16_of) (codes "node=") d.0.1) _ line d.2 in
    let z = bind_ok (end_at e.0.1) _ line e.2 in
    let made : PlainLine K = Speak (DeclareToken a.0.0 b.0.0 c.0.0 (unwrap_or e.0.0 0) d.0.0) in
    let aa = value_sound (spelled_by u32_of) IsU32 exact_u32 fields a.0 a.1 in
    let bb = value_sound (spelled_by u32_of) IsU32 exact_u32 a.0.1 b.0 b.1 in
    let cc = value_sound (key_read reading) (IsKey reading) (exact_key reading) b.0.1 c.0 c.1 in
    let dd = optional_sound (spelled_by u32_of) IsU32 exact_u32 (codes "interest=") c.0.1 d.0 d.1 in
    let ee = optional_sound (spelled_by u16_of) IsU16 exact_u16 (codes "node=") d.0.1 e.0 e.1 in
    let same = ap (λ (t : Fields). codes "declare" ∷ t) (aa.1 ∙ ap (λ (t : Fields). aa.0 ∷ t) (bb.1 ∙ ap (λ (t : Fields). bb.0 ∷ t) (cc.1 ∙ ap (λ (t : Fields). cc.0 ∷ t) (dd.1 ∙ ap (λ (t : Fields). dd.0 ++ t) (ended d.0.1 ee.0 e.0.1 ee.1 (end_sound e.0.1 z.0 z.1)))))) in
    let found : IsLine reading (codes "declare" ∷ fields) made = (aa.0, bb.0, cc.0, dd.0, ee.0, same, aa.2, bb.2, cc.2, dd.2, (e.0.0, ee.2, refl)) in
    subst (IsLine reading (codes "declare" ∷ fields)) (ok_is made line z.2) found

pub declare_complete : {K : Type 0} (reading : List ℕ → Result K KeyError) (fields : Fields) (face : ℕ) (id : ℕ) (expr : K) (node : ℕ) (interest : Option ℕ) → IsLine reading fields (Speak (DeclareToken face id expr node interest)) → line_at reading fields ≡ Ok (Speak (DeclareToken face id expr node interest))
unfolding line_at kind_at word_of declare_at
declare_complete reading fields face id expr node interest h =
    ap (line_at reading) h.5 ∙ rw (
      value_complete (spelled_by u32_of) IsU32 exact_u32 h.0 (h.1 ∷ (h.2 ∷ (h.3 ++ h.4))) face h.6,
      value_complete (spelled_by u32_of) IsU32 exact_u32 h.1 (h.2 ∷ (h.3 ++ h.4)) id h.7,
      value_complete (key_read reading) (IsKey reading) (exact_key reading) h.2 (h.3 ++ h.4) expr h.8,
      optional_complete (spelled_by u32_of) IsU32 exact_u32 (codes "interest=") h.3 interest h.4 h.9 (absent_last IsU16 (codes "interest=") (codes "node=") (λ t. refl) h.4 h.10.0 h.10.1),
      optional_last (spelled_by u16_of) IsU16 exact_u16 (codes "node=") h.4 h.10.0 h.10.1,
      h.10.2,
    ) refl

pub undeclare_sound : {K : Type 0} (reading : List ℕ → Result K KeyError) (fields : Fields) (line : PlainLine K) → undeclare_at reading fields ≡ Ok line → IsLine reading (codes "undeclare" ∷ fields) line
unfolding undeclare_at
undeclare_sound {K} reading fields line h =
    let a = bind_ok (value_at (spelled_by u32_of) fields) _ line h in
    let b = bind_ok (value_at (spelled_by u32_of) a.0.1) _ line a.2 in
    let c = bind_ok (optional_value_at (key_read reading) (codes "expr=") b.0.1) _ line b.2 in
    let d = bind_ok (optional_value_at (spelled_by u16_of) (codes "node=") c.0.1) _ line c.2 in
    let z = bind_ok (end_at d.0.1) _ line d.2 in
    let made : PlainLine K = Speak (UndeclareToken a.0.0 b.0.0 c.0.0 (unwrap_or d.0.0 0)) in
    let aa = value_sound (spelled_by u32_of) IsU32 exact_u32 fields a.0 a.1 in
    let bb = value_sound (spelled_by u32_of) IsU32 exact_u32 a.0.1 b.0 b.1 in
    let cc = optional_sound (key_read reading) (IsKey reading) (exact_key reading) (codes "expr=") b.0.1 c.0 c.1 in
    let dd = optional_sound (spelled_by u16_of) IsU16 exact_u16 (codes "node=") c.0.1 d.0 d.1 in
    let same = ap (λ (t : Fields). codes "undeclare" ∷ t) (aa.1 ∙ ap (λ (t : Fields). aa.0 ∷ t) (bb.1 ∙ ap (λ (t : Fields). bb.0 ∷ t) (cc.1 ∙ ap (λ (t : Fields). cc.0 ++ t) (ended c.0.1 dd.0 d.0.1 dd.1 (end_sound d.0.1 z.0 z.1))))) in
    let found : IsLine reading (codes "undeclare" ∷ fields) made = (aa.0, bb.0, cc.0, dd.0, same, aa.2, bb.2, cc.2, (d.0.0, dd.2, refl)) in
    subst (IsLine reading (codes "undeclare" ∷ fields)) (ok_is made line z.2) found

pub undeclare_complete : {K : Type 0} (reading : List ℕ → Result K KeyError) (fields : Fields) (face : ℕ) (id : ℕ) (expr : Option K) (node : ℕ) → IsLine reading fields (Speak (UndeclareToken face id expr node)) → line_at reading fields ≡ Ok (Speak (UndeclareToken face id expr node))
unfolding line_at kind_at word_of undeclare_at
undeclare_complete reading fields face id expr node h =
    ap (line_at reading) h.4 ∙ rw (
      value_complete (spelled_by u32_of) IsU32 exact_u32 h.0 (h.1 ∷ (h.2 ++ h.3)) face h.5,
      value_complete (spelled_by u32_of) IsU32 exact_u32 h.1 (h.2 ++ h.3) id h.6,
      optional_complete (key_read reading) (IsKey reading) (exact_key reading) (codes "expr=") h.2 expr h.3 h.7 (absent_last IsU16 (codes "expr=") (codes "node=") (λ t. refl) h.3 h.8.0 h.8.1),
      optional_last (spelled_by u16_of) IsU16 exact_u16 (codes "node=") h.3 h.8.0 h.8.1,
      h.8.2,
    ) refl

pub interest_sound : {K : Type 0} (reading : List ℕ → Result K KeyError) (fields : Fields) (line : PlainLine K) → interest_at reading fields ≡ Ok line → IsLine reading (codes "interest" ∷ fields) line
unfolding interest_at
interest_sound {K} reading fields line h =
    let a = bind_ok (value_at (spelled_by u32_of) fields) _ line h in
    let b = bind_ok (value_at (spelled_by u32_of) a.0.1) _ line a.2 in
    let c = bind_ok (value_at (spelled_by interest_mode_of) b.0.1) _ line b.2 in
    let d = bind_ok (value_at (spelled_by options_of) c.0.1) _ line c.2 in
    let e = bind_ok (optional_value_at (key_read reading) (codes "expr=") d.0.1) _ line d.2 in
    let z = bind_ok (end_at e.0.1) _ line e.2 in
    let made : PlainLine K = Speak (Interest a.0.0 b.0.0 c.0.0 d.0.0 e.0.0) in
    let aa = value_sound (spelled_by u32_of) IsU32 exact_u32 fields a.0 a.1 in
    let bb = value_sound (spelled_by u32_of) IsU32 exact_u32 a.0.1 b.0 b.1 in
    let cc = value_sound (spelled_by interest_mode_of) IsInterestMode exact_interest_mode b.0.1 c.0 c.1 in
    let dd = value_sound (spelled_by options_of) IsOptions exact_options c.0.1 d.0 d.1 in
    let ee = optional_sound (key_read reading) (IsKey reading) (exact_key reading) (codes "expr=") d.0.1 e.0 e.1 in
    let same = ap (λ (t : Fields). codes "interest" ∷ t) (aa.1 ∙ ap (λ (t : Fields). aa.0 ∷ t) (bb.1 ∙ ap (λ (t : Fields). bb.0 ∷ t) (cc.1 ∙ ap (λ (t : Fields). cc.0 ∷ t) (dd.1 ∙ ap (λ (t : Fields). dd.0 ∷ t) (ended d.0.1 ee.0 e.0.1 ee.1 (end_sound e.0.1 z.0 z.1)))))) in
    let found : IsLine reading (codes "interest" ∷ fields) made = (aa.0, bb.0, cc.0, dd.0, ee.0, same, aa.2, bb.2, cc.2, dd.2, ee.2) in
    subst (IsLine reading (codes "interest" ∷ fields)) (ok_is made line z.2) found

pub interest_complete : {K : Type 0} (reading : List ℕ → Result K KeyError) (fields : Fields) (face : ℕ) (id : ℕ) (mode : InterestMode) (options : InterestOptions) (expr : Option K) → IsLine reading fields (Speak (Interest face id mode options expr)) → line_at reading fields ≡ Ok (Speak (Interest face id mode options expr))
unfolding line_at kind_at word_of interest_at
interest_complete reading fields face id mode options expr h =
    ap (line_at reading) h.5 ∙ rw (
      value_complete (spelled_by u32_of) IsU32 exact_u32 h.0 (h.1 ∷ (h.2 ∷ (h.3 ∷ h.4))) face h.6,
      value_complete (spelled_by u32_of) IsU32 exact_u32 h.1 (h.2 ∷ (h.3 ∷ h.4)) id h.7,
      value_complete (spelled_by interest_mode_of) IsInterestMode exact_interest_mode h.2 (h.3 ∷ h.4) mode h.8,
      value_complete (spelled_by options_of) IsOptions exact_options h.3 h.4 options h.9,
      optional_last (key_read reading) (IsKey reading) (exact_key reading) (codes "expr=") h.4 expr h.10,
    ) refl

pub interest_final_sound : {K : Type 0} (reading : List ℕ → Result K KeyError) (fields : Fields) (line : PlainLine K) → interest_final_at fields ≡ Ok line → IsLine reading (codes "interest-final" ∷ fields) line
unfolding interest_final_at
interest_final_sound {K} reading fields line h =
    let a = bind_ok (value_at (spelled_by u32_of) fields) _ line h in
    let b = bind_ok (value_at (spelled_by u32_of) a.0.1) _ line a.2 in
    let z = bind_ok (end_at b.0.1) _ line b.2 in
    let made : PlainLine K = Speak (InterestFinal a.0.0 b.0.0) in
    let aa = value_sound (spelled_by u32_of) IsU32 exact_u32 fields a.0 a.1 in
    let bb = value_sound (spelled_by u32_of) IsU32 exact_u32 a.0.1 b.0 b.1 in
    let same = ap (λ (t : Fields). codes "interest-final" ∷ t) (aa.1 ∙ ap (λ (t : Fields). aa.0 ∷ t) (bb.1 ∙ ap (λ (t : Fields). bb.0 ∷ t) (end_sound b.0.1 z.0 z.1))) in
    let found : IsLine reading (codes "interest-final" ∷ fields) made = (aa.0, bb.0, same, aa.2, bb.2) in
    subst (IsLine reading (codes "interest-final" ∷ fields)) (ok_is made line z.2) found

pub interest_final_complete : {K : Type 0} (reading : List ℕ → Result K KeyError) (fields : Fields) (face : ℕ) (id : ℕ) → IsLine reading fields (Speak (InterestFinal face id)) → line_at reading fields ≡ Ok (Speak (InterestFinal face id))
unfolding line_at kind_at word_of interest_final_at
interest_final_complete reading fields face id h =
    ap (line_at reading) h.2 ∙ rw (
      value_complete (spelled_by u32_of) IsU32 exact_u32 h.0 (h.1 ∷ []) face h.3,
      value_complete (spelled_by u32_of) IsU32 exact_u32 h.1 [] id h.4,
    ) refl

pub declare_final_sound : {K : Type 0} (reading : List ℕ → Result K KeyError) (fields : Fields) (line : PlainLine K) → declare_final_at fields ≡ Ok line → IsLine reading (codes "declare-final" ∷ fields) line
unfolding declare_final_at
declare_final_sound {K} reading fields line h =
    let a = bind_ok (value_at (spelled_by u32_of) fields) _ line h in
    let b = bind_ok (value_at (spelled_by u32_of) a.0.1) _ line a.2 in
    let z = bind_ok (end_at b.0.1) _ line b.2 in
    let made : PlainLine K = Speak (DeclareFinal a.0.0 b.0.0) in
    let aa = value_sound (spelled_by u32_of) IsU32 exact_u32 fields a.0 a.1 in
    let bb = value_sound (spelled_by u32_of) IsU32 exact_u32 a.0.1 b.0 b.1 in
    let same = ap (λ (t : Fields). codes "declare-final" ∷ t) (aa.1 ∙ ap (λ (t : Fields). aa.0 ∷ t) (bb.1 ∙ ap (λ (t : Fields). bb.0 ∷ t) (end_sound b.0.1 z.0 z.1))) in
    let found : IsLine reading (codes "declare-final" ∷ fields) made = (aa.0, bb.0, same, aa.2, bb.2) in
    subst (IsLine reading (codes "declare-final" ∷ fields)) (ok_is made line z.2) found

pub declare_final_complete : {K : Type 0} (reading : List ℕ → Result K KeyError) (fields : Fields) (face : ℕ) (interest : ℕ) → IsLine reading fields (Speak (DeclareFinal face interest)) → line_at reading fields ≡ Ok (Speak (DeclareFinal face interest))
unfolding line_at kind_at word_of declare_final_at
declare_final_complete reading fields face interest h =
    ap (line_at reading) h.2 ∙ rw (
      value_complete (spelled_by u32_of) IsU32 exact_u32 h.0 (h.1 ∷ []) face h.3,
      value_complete (spelled_by u32_of) IsU32 exact_u32 h.1 [] interest h.4,
    ) refl

pub close_sound : {K : Type 0} (reading : List ℕ → Result K KeyError) (fields : Fields) (line : PlainLine K) → close_at fields ≡ Ok line → IsLine reading (codes "close" ∷ fields) line
unfolding close_at
close_sound {K} reading fields line h =
    let a = bind_ok (value_at (spelled_by u32_of) fields) _ line h in
    let z = bind_ok (end_at a.0.1) _ line a.2 in
    let made : PlainLine K = Speak (CloseFace a.0.0) in
    let aa = value_sound (spelled_by u32_of) IsU32 exact_u32 fields a.0 a.1 in
    let same = ap (λ (t : Fields). codes "close" ∷ t) (aa.1 ∙ ap (λ (t : Fields). aa.0 ∷ t) (end_sound a.0.1 z.0 z.1)) in
    let found : IsLine reading (codes "close" ∷ fields) made = (aa.0, same, aa.2) in
    subst (IsLine reading (codes "close" ∷ fields)) (ok_is made line z.2) found

pub close_complete : {K : Type 0} (reading : List ℕ → Result K KeyError) (fields : Fields) (face : ℕ) → IsLine reading fields (Speak (CloseFace face)) → line_at reading fields ≡ Ok (Speak (CloseFace face))
unfolding line_at kind_at word_of close_at
close_complete reading fields face h =
    ap (line_at reading) h.1 ∙ rw (value_complete (spelled_by u32_of) IsU32 exact_u32 h.0 [] face h.2) refl

pub gateway_sound : {K : Type 0} (reading : List ℕ → Result K KeyError) (fields : Fields) (line : PlainLine K) → gateway_at fields ≡ Ok line → IsLine reading (codes "gateway" ∷ fields) line
unfolding gateway_at
gateway_sound {K} reading fields line h =
    let a = bind_ok (value_at (spelled_by mode_of) fields) _ line h in
    let b = bind_ok (value_at (spelled_by zid_of) a.0.1) _ line a.2 in
    let c = bind_ok (optional_value_at south_regions_read (codes "regions=") b.0.1) _ line b.2 in
    let d = bind_ok (optional_value_at south_read (codes "south=") c.0.1) _ line c.2 in
    let e = bind_ok (optional_value_at (spelled_by name_of) (codes "name=") d.0.1) _ line d.2 in
    let f = bind_ok (optional_value_at (spelled_by u64_of) (codes "timeout=") e.0.1) _ line e.2 in
    let g = bind_ok (optional_value_at (list_read (spelled_by (pair_of region_of region_of)) 44) (codes "refuse=") f.0.1) _ line f.2 in
    let z = bind_ok (end_at g.0.1) _ line g.2 in
    let made : PlainLine K = Gateway a.0.0 b.0.0 (unwrap_or c.0.0 []) (unwrap_or d.0.0 None) e.0.0 (unwrap_or f.0.0 10000) (unwrap_or g.0.0 []) in
    let aa = value_sound (spelled_by mode_of) IsMode exact_mode fields a.0 a.1 in
    let bb = value_sound (spelled_by zid_of) IsZid exact_zid a.0.1 b.0 b.1 in
    let cc = optional_sound south_regions_read AreSouthRegions exact_south_regions (codes "regions=") b.0.1 c.0 c.1 in
    let dd = optional_sound south_read IsSouthConf exact_south (codes "south=") c.0.1 d.0 d.1 in
    let ee = optional_sound (spelled_by name_of) IsName exact_name (codes "name=") d.0.1 e.0 e.1 in
    let ff = optional_sound (spelled_by u64_of) IsU64 exact_u64 (codes "timeout=") e.0.1 f.0 f.1 in
    let gg = optional_sound (list_read (spelled_by (pair_of region_of region_of)) 44) (IsList (IsPair IsRegion IsRegion) 44) refused_exact (codes "refuse=") f.0.1 g.0 g.1 in
    let same = ap (λ (t : Fields). codes "gateway" ∷ t) (aa.1 ∙ ap (λ (t : Fields). aa.0 ∷ t) (bb.1 ∙ ap (λ (t : Fields). bb.0 ∷ t) (cc.1 ∙ ap (λ (t : Fields). cc.0 ++ t) (dd.1 ∙ ap (λ (t : Fields). dd.0 ++ t) (ee.1 ∙ ap (λ (t : Fields). ee.0 ++ t) (ff.1 ∙ ap (λ (t : Fields). ff.0 ++ t) (ended f.0.1 gg.0 g.0.1 gg.1 (end_sound g.0.1 z.0 z.1)))))))) in
    let found : IsLine reading (codes "gateway" ∷ fields) made = (aa.0, bb.0, cc.0, dd.0, ee.0, ff.0, gg.0, same, aa.2, bb.2, (c.0.0, cc.2, refl), (d.0.0, dd.2, refl), ee.2, (f.0.0, ff.2, refl), (g.0.0, gg.2, refl)) in
    subst (IsLine reading (codes "gateway" ∷ fields)) (ok_is made line z.2) found

pub gateway_complete : {K : Type 0} (reading : List ℕ → Result K KeyError) (fields : Fields) (mode : WhatAmI) (zid : Zid) (regions : List Region) (south : PlainSouth) (name : Option (List ℕ)) (timeout : ℕ) (refused : List (Region × Region)) → IsLine reading fields (Gateway mode zid regions south name timeout refused) → line_at reading fields ≡ Ok (Gateway mode zid regions south name timeout refused)
unfolding line_at kind_at word_of gateway_at
gateway_complete reading fields mode zid regions south name timeout refused h =
    ap (line_at reading) h.7 ∙ rw (
      value_complete (spelled_by mode_of) IsMode exact_mode h.0 (h.1 ∷ (h.2 ++ (h.3 ++ (h.4 ++ (h.5 ++ h.6))))) mode h.8,
      value_complete (spelled_by zid_of) IsZid exact_zid h.1 (h.2 ++ (h.3 ++ (h.4 ++ (h.5 ++ h.6)))) zid h.9,
      optional_complete south_regions_read AreSouthRegions exact_south_regions (codes "regions=") h.2 h.10.0 (h.3 ++ (h.4 ++ (h.5 ++ h.6))) h.10.1 (absent_before IsSouthConf (codes "regions=") (codes "south=") (λ t. refl) h.3 h.11.0 (h.4 ++ (h.5 ++ h.6)) h.11.1 (absent_before IsName (codes "regions=") (codes "name=") (λ t. refl) h.4 name (h.5 ++ h.6) h.12 (absent_before IsU64 (codes "regions=") (codes "timeout=") (λ t. refl) h.5 h.13.0 h.6 h.13.1 (absent_last (IsList (IsPair IsRegion IsRegion) 44) (codes "regions=") (codes "refuse=") (λ t. refl) h.6 h.14.0 h.14.1)))),
      optional_complete south_read IsSouthConf exact_south (codes "south=") h.3 h.11.0 (h.4 ++ (h.5 ++ h.6)) h.11.1 (absent_before IsName (codes "south=") (codes "name=") (λ t. refl) h.4 name (h.5 ++ h.6) h.12 (absent_before IsU64 (codes "south=") (codes "timeout=") (λ t. refl) h.5 h.13.0 h.6 h.13.1 (absent_last (IsList (IsPair IsRegion IsRegion) 44) (codes "south=") (codes "refuse=") (λ t. refl) h.6 h.14.0 h.14.1))),
      optional_complete (spelled_by name_of) IsName exact_name (codes "name=") h.4 name (h.5 ++ h.6) h.12 (absent_before IsU64 (codes "name=") (codes "timeout=") (λ t. refl) h.5 h.13.0 h.6 h.13.1 (absent_last (IsList (IsPair IsRegion IsRegion) 44) (codes "name=") (codes "refuse=") (λ t. refl) h.6 h.14.0 h.14.1)),
      optional_complete (spelled_by u64_of) IsU64 exact_u64 (codes "timeout=") h.5 h.13.0 h.6 h.13.1 (absent_last (IsList (IsPair IsRegion IsRegion) 44) (codes "timeout=") (codes "refuse=") (λ t. refl) h.6 h.14.0 h.14.1),
      optional_last (list_read (spelled_by (pair_of region_of region_of)) 44) (IsList (IsPair IsRegion IsRegion) 44) refused_exact (codes "refuse=") h.6 h.14.0 h.14.1,
      h.10.2,
      h.11.2,
      h.13.2,
      h.14.2,
    ) refl

abbrev routers_exact : Exact (list_read (spelled_by (pair_of u16_of zid_of)) 44) (IsList (IsPair IsU16 IsZid) 44)
routers_exact = exact_list (spelled_by (pair_of u16_of zid_of)) (IsPair IsU16 IsZid) (exact_pair u16_of zid_of IsU16 IsZid exact_u16 exact_zid) 44

abbrev links_exact : Exact (list_read (spelled_by (triple_of u32_of u16_of zid_of)) 44) (IsList (IsTriple IsU32 IsU16 IsZid) 44)
links_exact = exact_list (spelled_by (triple_of u32_of u16_of zid_of)) (IsTriple IsU32 IsU16 IsZid) (exact_triple u32_of u16_of zid_of IsU32 IsU16 IsZid exact_u32 exact_u16 exact_zid) 44

abbrev children_exact : Exact (list_read (spelled_by (pair_of zid_of zid_of)) 44) (IsList (IsPair IsZid IsZid) 44)
children_exact = exact_list (spelled_by (pair_of zid_of zid_of)) (IsPair IsZid IsZid) (exact_pair zid_of zid_of IsZid IsZid exact_zid exact_zid) 44

pub trees_sound : {K : Type 0} (reading : List ℕ → Result K KeyError) (fields : Fields) (line : PlainLine K) → trees_at fields ≡ Ok line → IsLine reading (codes "trees" ∷ fields) line
unfolding trees_at
trees_sound {K} reading fields line h =
    let a = bind_ok (value_at (spelled_by u32_of) fields) _ line h in
    let b = bind_ok (value_at (spelled_by region_of) a.0.1) _ line a.2 in
    let c = bind_ok (optional_value_at (list_read (spelled_by (pair_of u16_of zid_of)) 44) (codes "routers=") b.0.1) _ line b.2 in
    let d = bind_ok (or_bad c.0.0) _ line c.2 in
    let e = bind_ok (optional_value_at (list_read (spelled_by (triple_of u32_of u16_of zid_of)) 44) (codes "links=") c.0.1) _ line d.2 in
    let f = bind_ok (optional_value_at (list_read (spelled_by (pair_of zid_of zid_of)) 44) (codes "children=") e.0.1) _ line e.2 in
    let z = bind_ok (end_at f.0.1) _ line f.2 in
    let made : PlainLine K = SetTreesAt a.0.0 b.0.0 (record { routers = d.0; links = unwrap_or e.0.0 []; children = unwrap_or f.0.0 [] }) in
    let aa = value_sound (spelled_by u32_of) IsU32 exact_u32 fields a.0 a.1 in
    let bb = value_sound (spelled_by region_of) IsRegion exact_region a.0.1 b.0 b.1 in
    let c1 = optional_sound (list_read (spelled_by (pair_of u16_of zid_of)) 44) (IsList (IsPair IsU16 IsZid) 44) routers_exact (codes "routers=") b.0.1 c.0 c.1 in
    let cc1 : MayStand (codes "routers=") (IsList (IsPair IsU16 IsZid) 44) c1.0 (Some d.0) = subst (MayStand (codes "routers=") (IsList (IsPair IsU16 IsZid) 44) c1.0) (or_bad_ok c.0.0 d.0 d.1) c1.2 in
    let ee = optional_sound (list_read (spelled_by (triple_of u32_of u16_of zid_of)) 44) (IsList (IsTriple IsU32 IsU16 IsZid) 44) links_exact (codes "links=") c.0.1 e.0 e.1 in
    let ff = optional_sound (list_read (spelled_by (pair_of zid_of zid_of)) 44) (IsList (IsPair IsZid IsZid) 44) children_exact (codes "children=") e.0.1 f.0 f.1 in
    let behind_routers : c.0.1 ≡ ee.0 ++ ff.0 = ee.1 ∙ ap (λ (t : Fields). ee.0 ++ t) (ended e.0.1 ff.0 f.0.1 ff.1 (end_sound f.0.1 z.0 z.1)) in
    let with_routers : b.0.1 ≡ (codes "routers=" ++ cc1.0) ∷ (ee.0 ++ ff.0) = c1.1 ∙ (ap (λ (t : Fields). t ++ c.0.1) cc1.1 ∙ ap (λ (t : Fields). (codes "routers=" ++ cc1.0) ∷ t) behind_routers) in
    let same = ap (λ (t : Fields). codes "trees" ∷ t) (aa.1 ∙ ap (λ (t : Fields). aa.0 ∷ t) (bb.1 ∙ ap (λ (t : Fields). bb.0 ∷ t) with_routers)) in
    let found : IsLine reading (codes "trees" ∷ fields) made = (aa.0, bb.0, cc1.0, ee.0, ff.0, same, aa.2, bb.2, cc1.2, (e.0.0, ee.2, refl), (f.0.0, ff.2, refl)) in
    subst (IsLine reading (codes "trees" ∷ fields)) (ok_is made line z.2) found

pub trees_complete : {K : Type 0} (reading : List ℕ → Result K KeyError) (fields : Fields) (gateway : ℕ) (region : Region) (table : Trees) → IsLine reading fields (SetTreesAt gateway region table) → line_at reading fields ≡ Ok (SetTreesAt gateway region table)
unfolding line_at kind_at word_of trees_at
trees_complete {K} reading fields gateway region table h =
    let children_absent = absent_last (IsList (IsPair IsZid IsZid) 44) (codes "routers=") (codes "children=") (λ t. refl) h.4 h.10.0 h.10.1 in
    let absent = absent_before (IsList (IsTriple IsU32 IsU16 IsZid) 44) (codes "routers=") (codes "links=") (λ t. refl) h.3 h.9.0 h.4 h.9.1 children_absent in
    let made : Trees = record { routers = table.routers; links = unwrap_or h.9.0 []; children = unwrap_or h.10.0 [] } in
    let same : made ≡ table = λ i. record { routers = table.routers; links = (sym h.9.2) i; children = (sym h.10.2) i } in
    ap (line_at reading) h.5 ∙ rw (
      value_complete (spelled_by u32_of) IsU32 exact_u32 h.0 (h.1 ∷ (codes "routers=" ++ h.2) ∷ (h.3 ++ h.4)) gateway h.6,
      value_complete (spelled_by region_of) IsRegion exact_region h.1 ((codes "routers=" ++ h.2) ∷ (h.3 ++ h.4)) region h.7,
      optional_complete (list_read (spelled_by (pair_of u16_of zid_of)) 44) (IsList (IsPair IsU16 IsZid) 44) routers_exact (codes "routers=") ((codes "routers=" ++ h.2) ∷ []) (Some table.routers) (h.3 ++ h.4) (h.2, refl, h.8) absent,
      optional_complete (list_read (spelled_by (triple_of u32_of u16_of zid_of)) 44) (IsList (IsTriple IsU32 IsU16 IsZid) 44) links_exact (codes "links=") h.3 h.9.0 h.4 h.9.1
          (absent_last (IsList (IsPair IsZid IsZid) 44) (codes "links=") (codes "children=") (λ t. refl) h.4 h.10.0 h.10.1),
      optional_last (list_read (spelled_by (pair_of zid_of zid_of)) 44) (IsList (IsPair IsZid IsZid) 44) children_exact (codes "children=") h.4 h.10.0 h.10.1,
    )
    (ap (λ (t : Trees). Ok (SetTreesAt gateway region t)) same)

pub entities_line_sound : {K : Type 0} (reading : List ℕ → Result K KeyError) (fields : Fields) (line : PlainLine K) → entities_at reading fields ≡ Ok line → IsLine reading (codes "entities" ∷ fields) line
unfolding entities_at
entities_line_sound {K} reading fields line h =
    let a = bind_ok (value_at (spelled_by u32_of) fields) _ line h in
    let b = bind_ok (entities_read reading a.0.1) _ line a.2 in
    let made : PlainLine K = Speak (SetEntities a.0.0 b.0.0 b.0.1) in
    let aa = value_sound (spelled_by u32_of) IsU32 exact_u32 fields a.0 a.1 in
    let found : IsLine reading (codes "entities" ∷ fields) made = (aa.0, a.0.1, ap (λ (t : Fields). codes "entities" ∷ t) aa.1, aa.2, entities_sound reading a.0.1 b.0 b.1) in
    subst (IsLine reading (codes "entities" ∷ fields)) (ok_is made line b.2) found

pub entities_line_complete : {K : Type 0} (reading : List ℕ → Result K KeyError) (fields : Fields) (face : ℕ) (subscribers : List K) (queryables : List (K × QueryableInfo)) → IsLine reading fields (Speak (SetEntities face subscribers queryables)) → line_at reading fields ≡ Ok (Speak (SetEntities face subscribers queryables))
unfolding line_at kind_at word_of entities_at
entities_line_complete reading fields face subscribers queryables h =
    ap (line_at reading) h.2 ∙ rw (
      value_complete (spelled_by u32_of) IsU32 exact_u32 h.0 h.1 face h.3,
      entities_complete reading h.1 subscribers queryables h.4,
    ) refl
