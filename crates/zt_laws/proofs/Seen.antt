-- The words by which promises read who wants a token and who sees it come to those that the machine goes by.
use Rattle.std.proofs.Common.{◌≡◌, ℕ, Bool, true, false, ◌&&◌, ◌||◌, not, List, filter, flat_map, Option, Some, None, refl, sym, ap, ◌∙◌, subst}
use Rattle.std.specs.List.{list_any}
use Rattle.std.specs.declared.cmp.Ordering.{Ordering}
use Rattle.zt_region.specs.declared.region.Region.{Region}
use Rattle.zt_region.specs.declared.region.Region.TheVariants.{North, Local, South}
use Rattle.zt_region.specs.declared.region.WhatAmI.{WhatAmI}
use Rattle.zt_region.specs.declared.region.WhatAmI.TheVariants.{Router, Peer, Client}
use Rattle.zt_region.specs.Admission.{admits}
use Rattle.zt_region.specs.Region.{is_north, region_eq, region_eq-refl, region_eq-same, zid_eq}
use Rattle.zt_protocol.specs.Interest.{is_current, has_tokens}
use Rattle.zt_model.specs.Fabric.{Fabric, Node}
use Rattle.zt_model.specs.Lists.{at_id, is_some_and, same}
use Rattle.zt_model.specs.Parts.{is_routed}
use Rattle.zt_model.specs.Promises.{Turn, is_asked_for, with_line}
use Rattle.zt_model.specs.Rows.{Ask, Face, InterestRow, Rows}
use Rattle.zt_model.specs.Seen.{concerns, is_interested, is_owed, is_seen, is_seen_and_admitted, may_hear, sees, stands_in}
use Rattle.zt_model.specs.Transcript.{AllKeepWhatTheyShould, FaceAt, FacesKeepWhatTheyShould, KeepsWhatItShould, face_numbered}
use Rattle.zt_model.specs.Visible.{is_admitted, is_visible, live_rows, routed_rows, rows_of_face, shows}
use Rattle.zt_model.specs.Wants.{asks_token, covers, is_about, seeks, wants}
use Rattle.zt_model.proofs.Hats.{covers_is, seeks_is}
use Rattle.zt_laws.specs.Keeping.{AllKeepRight, FacesKeepRight, KeepsRight}
use Rattle.zt_laws.proofs.Lists.{any-append, any-filter, any-map, any_alike, any_none, each_always, each_weaker, same_tests}
use Rattle.zt_laws.proofs.Visible.{any-flat_map}

-- ---- regions

region_turned : (a b : Region) → region_eq a b ≡ region_eq b a
region_turned a b =
    same_tests (region_eq a b) (region_eq b a)
    (λ h. subst (λ c. region_eq c a ≡ true) (region_eq-same a b h) (region_eq-refl a))
    (λ h. subst (λ c. region_eq c b ≡ true) (region_eq-same b a h) (region_eq-refl b))

pub sees_is : (mode : WhatAmI) (own source : Region) → sees own source ≡ shows mode own source
sees_is Router North source = ap not (region_turned North source)
sees_is Peer North source = ap not (region_turned North source)
sees_is Client North source = ap not (region_turned North source)
sees_is mode Local source = refl
sees_is mode (South id Client) source = refl
sees_is mode (South id Router) source = ap not (region_turned (South id Router) source)
sees_is mode (South id Peer) source = ap not (region_turned (South id Peer) source)

-- ---- tests

and_turned : (a b : Bool) → (a && b) ≡ (b && a)
and_turned true true = refl
and_turned true false = refl
and_turned false true = refl
and_turned false false = refl

and_last : (a b c : Bool) → (c && (b && a)) ≡ ((a && b) && c)
and_last a b c = and_turned c (b && a) ∙ ap (λ x. x && c) (and_turned b a)

any_and : {A : Type 0} (p : A → Bool) (b : Bool) (xs : List A) → list_any (λ x. p x && b) xs ≡ (b && list_any p xs)
any_and p true xs = any_alike (λ x. p x && true) p (λ x. and_turned (p x) true) xs
any_and p false xs = any_none (λ x. p x && false) xs (each_always (λ x. (p x && false) ≡ false) (λ x. and_turned (p x) false) xs)

module _ {K : Type 0} (matching : K → K → Bool) where
  -- ---- wanting

  pub concerns_is : (interest : InterestRow K) (e : K) → concerns matching interest e ≡ asks_token matching interest e
  concerns_is interest e = ap (λ b. has_tokens interest.options && b) (by_expr interest.expr)
    where
      by_expr : (o : Option K) → (let b : Bool = elim o [ None ↦ true | Some k ↦ matching k e ] in b) ≡ is_about matching o e
      by_expr None = refl
      by_expr (Some k) = refl

  pub interested_is : (f : Face K) (e : K) → is_interested matching f e ≡ wants matching f e
  unfolding is_interested wants
  interested_is f e =
      any-map (λ interest. concerns matching interest e) (λ row. row.1) f.held
      ∙ any_alike (λ row. concerns matching row.1 e) (λ row. asks_token matching row.1 e) (λ row. concerns_is row.1 e) f.held

  pub hears_is : (mode : WhatAmI) (f : Face K) (e : K) → may_hear matching f e ≡ seeks matching mode f e
  unfolding may_hear
  hears_is mode f e = ap (λ b. is_north f.region || b) (interested_is f e) ∙ sym (seeks_is matching mode f e)

  pub owed_is : (mode : WhatAmI) (f : Face K) (e : K) → is_owed matching f e ≡ covers matching mode f e
  unfolding is_owed
  owed_is mode f e =
      ap (λ b. is_north f.region || b)
      (any-map (λ interest. concerns matching interest e && is_current interest.mode) (λ row. row.1) f.held
      ∙ any_alike (λ row. concerns matching row.1 e && is_current row.1.mode) (λ row. is_current row.1.mode && asks_token matching row.1 e)
      (λ row. and_turned (concerns matching row.1 e) (is_current row.1.mode) ∙ ap (λ b. is_current row.1.mode && b) (concerns_is row.1 e)) f.held)
      ∙ sym (covers_is matching mode f e)

module _ {K : Type 0} (cmp : K → K → Ordering) where
  -- ---- seeing

  abbrev row_stands : (Region → Bool) → K → Region × K → Bool
  row_stands regions e row = same cmp e row.1 && regions row.0

  by_faces : (regions : Region → Bool) (g : Rows K) (e : K) → list_any (row_stands regions e) (flat_map rows_of_face g.faces) ≡ list_any (λ f. regions f.region && list_any (λ row. same cmp e row.1) f.live) g.faces
  by_faces regions g e =
      any-flat_map (row_stands regions e) rows_of_face g.faces
      ∙ any_alike (λ f. list_any (row_stands regions e) (rows_of_face f)) (λ f. regions f.region && list_any (λ row. same cmp e row.1) f.live)
      (λ f. any-map (row_stands regions e) (λ row. (f.region, row.1)) f.live ∙ any_and (λ row. same cmp e row.1) (regions f.region) f.live) g.faces

  by_routers : (regions : Region → Bool) (g : Rows K) (e : K) → list_any (row_stands regions e) (routed_rows g) ≡ list_any (λ row. (regions row.region && same cmp e row.expr) && not (zid_eq row.source g.zid)) g.routed
  by_routers regions g e =
      any-map (row_stands regions e) (λ row. (row.region, row.expr)) (filter (λ row. not (zid_eq row.source g.zid)) g.routed)
      ∙ any-filter (λ row. same cmp e row.expr && regions row.region) (λ row. not (zid_eq row.source g.zid)) g.routed
      ∙ any_alike (λ row. not (zid_eq row.source g.zid) && (same cmp e row.expr && regions row.region)) (λ row. (regions row.region && same cmp e row.expr) && not (zid_eq row.source g.zid))
      (λ row. and_last (regions row.region) (same cmp e row.expr) (not (zid_eq row.source g.zid))) g.routed

  stands_is : (regions : Region → Bool) (g : Rows K) (e : K) → stands_in cmp regions g e ≡ list_any (row_stands regions e) (live_rows g)
  stands_is regions g e =
      sym
      (any-append (row_stands regions e) (flat_map rows_of_face g.faces) (routed_rows g)
      ∙ ap (λ b. b || list_any (row_stands regions e) (routed_rows g)) (by_faces regions g e)
      ∙ ap (λ b. list_any (λ f. regions f.region && list_any (λ row. same cmp e row.1) f.live) g.faces || b) (by_routers regions g e))

  pub seen_is : (g : Rows K) (own : Region) (e : K) → is_seen cmp g own e ≡ is_visible cmp g own e
  unfolding is_seen is_visible
  seen_is g own e =
      stands_is (sees own) g e
      ∙ any_alike (λ row. same cmp e row.1 && sees own row.0) (λ row. same cmp e row.1 && shows g.mode own row.0) (λ row. ap (λ b. same cmp e row.1 && b) (sees_is g.mode own row.0)) (live_rows g)

  pub admitted_is : (g : Rows K) (own : Region) (e : K) → is_seen_and_admitted cmp g own e ≡ is_admitted cmp g own e
  unfolding is_seen_and_admitted is_admitted
  admitted_is g own e =
      stands_is (λ source. sees own source && admits g.refused source own) g e
      ∙ any_alike (λ row. same cmp e row.1 && (sees own row.0 && admits g.refused row.0 own)) (λ row. same cmp e row.1 && (shows g.mode own row.0 && admits g.refused row.0 own))
      (λ row. ap (λ b. same cmp e row.1 && (b && admits g.refused row.0 own)) (sees_is g.mode own row.0)) (live_rows g)

module _ {K : Type 0} (cmp : K → K → Ordering) (matching : K → K → Bool) where
  -- ---- what faces should keep

  pub keeps_as_promised : (g : Rows K) (f : Face K) → KeepsRight cmp matching g f → KeepsWhatItShould cmp matching g f
  keeps_as_promised g f right = record {
    kept_is_visible = λ e kept. seen_is cmp g f.region e ∙ right.kept_is_visible e kept;
    kept_is_sought = λ e kept. hears_is matching g.mode f e ∙ right.kept_is_sought e kept;
    admitted_is_kept = λ e admitted owed. right.admitted_is_kept e (sym (admitted_is cmp g f.region e) ∙ admitted) (sym (owed_is matching g.mode f e) ∙ owed);
  }

  pub keeps_as_the_machine : (g : Rows K) (f : Face K) → KeepsWhatItShould cmp matching g f → KeepsRight cmp matching g f
  keeps_as_the_machine g f should = record {
    kept_is_visible = λ e kept. sym (seen_is cmp g f.region e) ∙ should.kept_is_visible e kept;
    kept_is_sought = λ e kept. sym (hears_is matching g.mode f e) ∙ should.kept_is_sought e kept;
    admitted_is_kept = λ e admitted covered. should.admitted_is_kept e (admitted_is cmp g f.region e ∙ admitted) (owed_is matching g.mode f e ∙ covered);
  }

  pub faces_as_promised : (g : Rows K) → FacesKeepRight cmp matching g → FacesKeepWhatTheyShould cmp matching g
  faces_as_promised g all =
      each_weaker (λ f. is_routed g f ≡ false → KeepsRight cmp matching g f) (λ f. is_routed g f ≡ false → KeepsWhatItShould cmp matching g f)
      (λ f one plain. keeps_as_promised g f (one plain)) g.faces all

  faces_as_the_machine : (g : Rows K) → FacesKeepWhatTheyShould cmp matching g → FacesKeepRight cmp matching g
  faces_as_the_machine g all =
      each_weaker (λ f. is_routed g f ≡ false → KeepsWhatItShould cmp matching g f) (λ f. is_routed g f ≡ false → KeepsRight cmp matching g f)
      (λ f one plain. keeps_as_the_machine g f (one plain)) g.faces all

  pub all_as_promised : (s : Fabric K) → AllKeepRight cmp matching s → AllKeepWhatTheyShould cmp matching s
  all_as_promised s all =
      each_weaker (λ (node : Node K). FacesKeepRight cmp matching node.rows) (λ (node : Node K). FacesKeepWhatTheyShould cmp matching node.rows)
      (λ node one. faces_as_promised node.rows one) s.gateways all

  pub all_as_the_machine : (s : Fabric K) → AllKeepWhatTheyShould cmp matching s → AllKeepRight cmp matching s
  all_as_the_machine s all =
      each_weaker (λ (node : Node K). FacesKeepWhatTheyShould cmp matching node.rows) (λ (node : Node K). FacesKeepRight cmp matching node.rows)
      (λ node one. faces_as_the_machine node.rows one) s.gateways all

some_alike : {A : Type 0} (p q : A → Bool) → ((x : A) → p x ≡ q x) → (o : Option A) → is_some_and o p ≡ is_some_and o q
some_alike p q alike None = refl
some_alike p q alike (Some x) = alike x

module _ {K : Type 0} (cmp : K → K → Ordering) (matching : K → K → Bool) where
  -- an ask of a face that asks for the expression, as the machine has it
  pub asked_for_is : (t : Turn K) (n id : ℕ) (e : K) → is_asked_for cmp matching t n id e ≡ is_some_and (face_numbered (with_line cmp matching t) n) (λ x. is_some_and (at_id id x.face.asks) (λ ask. asks_token matching ask.interest e))
  asked_for_is t n id e =
      some_alike (λ (x : FaceAt K). is_some_and (at_id id x.face.asks) (λ ask. concerns matching ask.interest e)) (λ (x : FaceAt K). is_some_and (at_id id x.face.asks) (λ ask. asks_token matching ask.interest e))
      (λ x. some_alike (λ (ask : Ask K). concerns matching ask.interest e) (λ (ask : Ask K). asks_token matching ask.interest e) (λ ask. concerns_is matching ask.interest e) (at_id id x.face.asks))
      (face_numbered (with_line cmp matching t) n)
