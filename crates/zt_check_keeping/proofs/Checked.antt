-- What the tests of faces say, where they pass.
use Rattle.std.proofs.Common.{◌≡◌, ◌⊎◌, inl, inr, ℕ, Bool, true, false, ◌&&◌, ◌||◌, ◌==◌, not, List, [], ◌∷◌, Option, None, Some, refl, sym, ap, subst, ◌∙◌, ⊎_elim, eq-eqb}
use Rattle.std.proofs.lemmas.Bool.{and_parts, or_cases}
use Rattle.std.specs.List.{list_all}
use Rattle.std.specs.declared.cmp.Ordering.{Ordering}
use Rattle.zt_region.specs.declared.region.Region.{Region}
use Rattle.zt_region.specs.Admission.{admits}
use Rattle.zt_region.specs.Region.{zid_eq}
use Rattle.zt_model.specs.Fabric.{Fabric, Node}
use Rattle.zt_model.specs.Lists.{nth, same}
use Rattle.zt_model.specs.Parts.{is_routed}
use Rattle.zt_model.specs.Rows.{Face, RoutedRow, Rows}
use Rattle.zt_model.specs.Seen.{is_owed, is_seen, is_seen_and_admitted, may_hear, sees}
use Rattle.zt_model.specs.Visible.{keeps}
use Rattle.zt_check_keeping.specs.Keeping.{at_face, at_gateway, changed_are_kept, faces_keep_rightly, heard_are_kept, heard_is_kept, holder_keeps, keeps_bound, keeps_no_less_of, keeps_no_more_of, keeps_rightly, may_hear_all, opened_keeps_all, unheld_may_hear}
use Rattle.zt_check_keeping.specs.Owing.{is_asked, is_shown_and_admitted, keeps_all, keeps_concerned, keeps_declared, keeps_of_faces, keeps_routed}
use Rattle.zt_check_keeping.specs.declared.keeping.Bound.{Bound}
use Rattle.zt_check_keeping.specs.declared.keeping.Bound.TheVariants.{Upper, Lower}
use Rattle.zt_check_keeping.proofs.Members.{Among, all_member, never}
use Rattle.zt_check_keeping.proofs.Standing.{Has, IsRoutedIn, Stands, StandsAt, shown}

other_passes : (a b : Bool) → (a || b) ≡ true → a ≡ false → b ≡ true
other_passes true b h fails = never refl fails
other_passes false b h fails = h

apart : (a b : Bool) → a ≡ false → b ≡ false → (a || b) ≡ false
apart true b p q = p
apart false b p q = q

module _ {K : Type 0} where
  -- a test of a gateway, and of one of its faces
  pub gateway_passes : (s : Fabric K) (n : ℕ) (node : Node K) (test : Rows K → Bool) → nth n s.gateways ≡ Some node → at_gateway s n test ≡ true → test node.rows ≡ true
  gateway_passes s n node test there passes = sym (ap (λ (found : Option (Node K)). elim found as (λ _. Bool) [ None ↦ true | Some x ↦ test x.rows ]) there) ∙ passes

  pub face_passes : (g : Rows K) (f : Face K) (n : ℕ) (test : Rows K → Face K → Bool) → Among f g.faces → n ≡ f.number → is_routed g f ≡ false → at_face n test g ≡ true → test g f ≡ true
  face_passes g f n test at own plain passes =
      other_passes (not (n == f.number) || is_routed g f) (test g f) (all_member (λ x. (not (n == x.number) || is_routed g x) || test g x) f g.faces passes at)
      (apart (not (n == f.number)) (is_routed g f) (ap not (eq-eqb n f.number own)) plain)

module _ {K : Type 0} (cmp : K → K → Ordering) (matching : K → K → Bool) (itself : (e : K) → same cmp e e ≡ true) (exact : (a b : K) → same cmp a b ≡ true → a ≡ b) where
  -- ---- no more

  pub upper_says : (g : Rows K) (f : Face K) (e : K) → keeps_no_more_of cmp matching g f e ≡ true → keeps cmp f e ≡ true → (may_hear matching f e ≡ true) × (is_seen cmp g f.region e ≡ true)
  upper_says g f e passes kept =
      and_parts (may_hear matching f e) (is_seen cmp g f.region e)
      (⊎_elim (λ h. h) (λ h. never h (ap not kept)) (or_cases (may_hear matching f e && is_seen cmp g f.region e) (not (keeps cmp f e)) passes))

  pub lower_says : (g : Rows K) (f : Face K) (e : K) → keeps_no_less_of cmp matching g f e ≡ true → is_seen_and_admitted cmp g f.region e ≡ true → is_owed matching f e ≡ true → keeps cmp f e ≡ true
  lower_says g f e passes seen owed =
      other_passes (not (is_owed matching f e) || not (is_seen_and_admitted cmp g f.region e)) (keeps cmp f e) passes
      (apart (not (is_owed matching f e)) (not (is_seen_and_admitted cmp g f.region e)) (ap not owed) (ap not seen))

  pub changed_says : (bound : Bound) (s : Fabric K) (tokens : List (ℕ × K)) (n : ℕ) (node : Node K) (f : Face K) (e : K) → changed_are_kept cmp matching bound s tokens ≡ true → Among (n, e) tokens
      → nth n s.gateways ≡ Some node → Among f node.rows.faces → is_routed node.rows f ≡ false → keeps_bound cmp matching bound node.rows f e ≡ true
  changed_says bound s tokens n node f e passes at there at_f plain =
      let here = gateway_passes s n node (λ g. faces_keep_rightly cmp matching bound g e) there (all_member (λ (t : ℕ × K). at_gateway s t.0 (λ g. faces_keep_rightly cmp matching bound g t.1)) (n, e) tokens passes at) in
      other_passes (is_routed node.rows f) (keeps_bound cmp matching bound node.rows f e) (all_member (λ x. keeps_rightly cmp matching bound node.rows x e) f node.rows.faces here at_f) plain

  pub heard_says : (bound : Bound) (s : Fabric K) (tokens : List (ℕ × ℕ × K)) (n : ℕ) (node : Node K) (f : Face K) (e : K) → heard_are_kept cmp matching bound s tokens ≡ true → Among (n, f.number, e) tokens
      → nth n s.gateways ≡ Some node → Among f node.rows.faces → is_routed node.rows f ≡ false → keeps_bound cmp matching bound node.rows f e ≡ true
  heard_says bound s tokens n node f e passes at there at_f plain =
      face_passes node.rows f f.number (λ g x. keeps_bound cmp matching bound g x e) at_f refl plain
      (gateway_passes s n node (at_face f.number (λ g x. keeps_bound cmp matching bound g x e)) there (all_member (heard_is_kept cmp matching bound s) (n, f.number, e) tokens passes at))

  pub unheld_says : (s : Fabric K) (unheld : List (ℕ × ℕ)) (n : ℕ) (node : Node K) (f : Face K) (e : K) → list_all (unheld_may_hear cmp matching s) unheld ≡ true → Among (n, f.number) unheld
      → nth n s.gateways ≡ Some node → Among f node.rows.faces → is_routed node.rows f ≡ false → Has e f.told → may_hear matching f e ≡ true
  unheld_says s unheld n node f e passes at there at_f plain has =
      all_member (λ (row : ℕ × K). may_hear matching f row.1) (has.0, e) f.told
      (face_passes node.rows f f.number (λ g x. may_hear_all cmp matching x) at_f refl plain
      (gateway_passes s n node (at_face f.number (λ g x. may_hear_all cmp matching x)) there (all_member (unheld_may_hear cmp matching s) (n, f.number) unheld passes at)))
      has.1

  -- ---- no less

  concerned_says : (f : Face K) (id : Option ℕ) (e : K) → keeps_concerned cmp matching f id e ≡ true → is_asked cmp matching f id e ≡ true → is_owed matching f e ≡ true → keeps cmp f e ≡ true
  concerned_says f id e passes asked owed =
      other_passes (not (is_asked cmp matching f id e) || not (is_owed matching f e)) (keeps cmp f e) passes
      (apart (not (is_asked cmp matching f id e)) (not (is_owed matching f e)) (ap not asked) (ap not owed))

  pub all_says : (g : Rows K) (f : Face K) (id : Option ℕ) (e : K) → keeps_all cmp matching g f id ≡ true → Stands (λ source. sees f.region source && admits g.refused source f.region) g e
      → is_asked cmp matching f id e ≡ true → is_owed matching f e ≡ true → keeps cmp f e ≡ true
  all_says g f id e passes stands asked owed = go stands
    where
      both : (keeps_of_faces cmp matching g.refused f id g.faces ≡ true) × (list_all (keeps_routed cmp matching g f id) g.routed ≡ true)
      both = and_parts (keeps_of_faces cmp matching g.refused f id g.faces) (list_all (keeps_routed cmp matching g f id) g.routed) passes

      go : Stands (λ source. sees f.region source && admits g.refused source f.region) g e → keeps cmp f e ≡ true
      go (inl s) =
          let source = all_member (λ (x : Face K). not (is_shown_and_admitted g.refused f.region x.region) || keeps_declared cmp matching f id x.live) s.face g.faces
          (and_parts (keeps_of_faces cmp matching g.refused f id g.faces) (list_all (keeps_routed cmp matching g f id) g.routed) passes).0 s.there in
          let all = other_passes (not (is_shown_and_admitted g.refused f.region s.face.region)) (keeps_declared cmp matching f id s.face.live) source (ap not s.region) in
          concerned_says f id e (all_member (λ (row : ℕ × K). keeps_concerned cmp matching f id row.1) (s.has.0, e) s.face.live all s.has.1) asked owed
      go (inr r) =
          let row = all_member (keeps_routed cmp matching g f id) r.row g.routed
          (and_parts (keeps_of_faces cmp matching g.refused f id g.faces) (list_all (keeps_routed cmp matching g f id) g.routed) passes).1 r.there in
          let here = other_passes (zid_eq r.row.source g.zid || not (is_shown_and_admitted g.refused f.region r.row.region)) (keeps_concerned cmp matching f id r.row.expr) row
          (apart (zid_eq r.row.source g.zid) (not (is_shown_and_admitted g.refused f.region r.row.region)) r.other (ap not r.region)) in
          concerned_says f id e (subst (λ (k : K). keeps_concerned cmp matching f id k ≡ true) (sym r.expr) here) asked owed

  pub opened_says : (s : Fabric K) (opened : List (ℕ × ℕ)) (n : ℕ) (node : Node K) (f : Face K) → list_all (opened_keeps_all cmp matching s) opened ≡ true → Among (n, f.number) opened
      → nth n s.gateways ≡ Some node → Among f node.rows.faces → is_routed node.rows f ≡ false → keeps_all cmp matching node.rows f None ≡ true
  opened_says s opened n node f passes at there at_f plain =
      face_passes node.rows f f.number (λ g x. keeps_all cmp matching g x None) at_f refl plain
      (gateway_passes s n node (at_face f.number (λ g x. keeps_all cmp matching g x None)) there (all_member (opened_keeps_all cmp matching s) (n, f.number) opened passes at))

  pub holder_says : (s : Fabric K) (held : List (ℕ × ℕ × ℕ)) (n id : ℕ) (node : Node K) (f : Face K) → list_all (holder_keeps cmp matching s) held ≡ true → Among (n, f.number, id) held
      → nth n s.gateways ≡ Some node → Among f node.rows.faces → is_routed node.rows f ≡ false → keeps_all cmp matching node.rows f (Some id) ≡ true
  holder_says s held n id node f passes at there at_f plain =
      face_passes node.rows f f.number (λ g x. keeps_all cmp matching g x (Some id)) at_f refl plain
      (gateway_passes s n node (at_face f.number (λ g x. keeps_all cmp matching g x (Some id))) there (all_member (holder_keeps cmp matching s) (n, f.number, id) held passes at))
