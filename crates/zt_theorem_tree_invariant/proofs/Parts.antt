-- The parts of calls at a gateway of a tree, as one of its faces sees them.
use Rattle.std.proofs.Common.{◌≡◌, ℕ, Bool, true, false, if◌then◌else◌, ◌==◌, not, List, [], ◌∷◌, filter, Option, Some, None, refl, sym, ap, ◌∙◌, subst, eqb-true}
use Rattle.std.specs.declared.cmp.Ordering.{Ordering}
use Rattle.zt_region.specs.declared.region.Region.{Region}
use Rattle.zt_region.specs.declared.region.WhatAmI.{WhatAmI}
use Rattle.zt_region.specs.declared.region.WhatAmI.TheVariants.{Client}
use Rattle.zt_region.specs.Region.{is_north}
use Rattle.zt_protocol.specs.declared.messages.Message.{Message}
use Rattle.zt_model.specs.Entities.{with_numbers}
use Rattle.zt_model.specs.Hat.{hat_of}
use Rattle.zt_model.specs.Hearing.{rows_heard}
use Rattle.zt_model.specs.Lists.{first_where, without_id}
use Rattle.zt_model.specs.Parts.{Alter, Part, Say, Sends, to_each, with_face}
use Rattle.zt_model.specs.Routing.{ended, end_upstream_to, ending, final_of_both, finalising, finish_to, initial_finalised, unheld, untell_to}
use Rattle.zt_model.specs.Rows.{Face, InterestRow, Rows}
use Rattle.zt_model.specs.Says.{forget_to, tell_to, hiding_undeclared}
use Rattle.zt_model.specs.Telling.{answer_to, registered, undeclared, undeclaring, unregistered}
use Rattle.zt_model.specs.Transcript.{Each}
use Rattle.zt_model.specs.Trees.{hide_to, hiding, is_newly_shown, router_regions, show_to, showing, with_own_rows, with_routed, without_own_rows}
use Rattle.zt_model.specs.Wants.{kept_options}
use Rattle.zt_laws.specs.Sound.{RiseFrom}
use Rattle.zt_laws.proofs.Lists.{each_always, each_filter, of_cond}
use Rattle.zt_theorem_tree_invariant.specs.Facts.{IsTreeFace}
use Rattle.zt_theorem_tree_invariant.proofs.Rules.{answer_well, end_upstream_well, final_of_both_well, finish_well, forget_well, hide_well, show_well, tell_well, untell_well}
use Rattle.zt_theorem_tree_invariant.proofs.Saying.{IsReal, SaidWell, TreeRows, tree_rows_heard}
use Rattle.zt_theorem_tree_invariant.proofs.Tracking.{IsGood, SameEar, find_with_face, good_each, good_one, with_face_rows}

-- a change that leaves of a face its region, bound and mode, and holds and asks no more than before, leaves it one of a tree
pub tree_face_less : {K : Type 0} (mode : WhatAmI) (f h : Face K) → h.region ≡ f.region → h.bound ≡ f.bound → h.mode ≡ f.mode → (f.held ≡ [] → h.held ≡ []) → (Each (λ row. kept_options Client row.1.options ≡ row.1.options) f.held → Each (λ row. kept_options Client row.1.options ≡ row.1.options) h.held) → (f.asks ≡ [] → h.asks ≡ []) → IsTreeFace mode f → IsTreeFace mode h
tree_face_less mode f h region_ bound_ mode_ held_ kept_ asks_ face = record {
  up = λ up. let leads = face.up (ap is_north (sym region_) ∙ up) in record { own = leads.own; bound = bound_ ∙ leads.bound; held = held_ leads.held; asks = asks_ leads.asks };
  down = λ down. let leads = face.down (ap is_north (sym region_) ∙ down) in record { shares = ap (λ r. (hat_of mode r).shares_tokens) region_ ∙ leads.shares; mode = mode_ ∙ leads.mode; held = kept_ leads.held };
}

module _ {K : Type 0} (cmp : K → K → Ordering) (matching : K → K → Bool) (p n : ℕ) (up : Bool) (R : Face K → Face K → Type 0) (itself : (f : Face K) → R f f) (trans : (f h k : Face K) → R f h → R h k → R f k) (ear : (f h : Face K) → R f h → SameEar f h)
    (own : n ≡ p → (f h : Face K) → SameEar f h → R f h) (ends : (id : ℕ) (f : Face K) → R f (ended id f)) (mode : WhatAmI) where
  -- the rows are those of a tree, at a gateway of the mode
  abbrev pub Inside : Rows K → Type 0
  Inside g = TreeRows cmp g × (g.mode ≡ mode)

  pub still_inside : (ss : Sends K) (g : Rows K) → Inside g → Inside (rows_heard cmp ss g)
  unfolding rows_heard
  still_inside ss g inside = (tree_rows_heard cmp ss g inside.0, inside.1)

  abbrev pub Good : Part K → Type 0
  Good part = IsGood cmp matching p up Inside (λ g inside. inside.0) still_inside R itself trans ear part

  -- ---- the face that a call names

  changed : (change : Face K → Face K) → ((f : Face K) → (change f).number ≡ f.number) → ((mode : WhatAmI) (f : Face K) → IsTreeFace mode f → IsTreeFace mode (change f)) → ((f : Face K) → IsReal cmp f → IsReal cmp (change f)) → ((f : Face K) → SameEar f (change f)) → Good (Alter (with_face n change))
  unfolding with_face
  changed change still tree real same_ = λ g f inside found. (
    (with_face_rows cmp matching n change g still (each_always (λ f. (n == f.number) ≡ true → IsTreeFace g.mode f → IsTreeFace g.mode (change f)) (λ f _ face. tree g.mode f face) g.faces) real inside.0, inside.1),
    (
      (if n == p then change f else f),
      find_with_face cmp matching p n change g f still found,
      of_cond (R f) (n == p) (change f) f (λ is. own (eqb-true n p is) f (change f) (same_ f)) (λ _. itself f),
    ),
  )

  pub good_registered : (id : ℕ) (e : K) → Good (Alter (with_face n (registered id e)))
  good_registered id e =
      changed (registered id e) (λ f. refl) (λ mode f face. tree_face_less mode f (registered id e f) refl refl refl (λ h. h) (λ h. h) (λ h. h) face)
      (λ f r. record { next = r.next; told = r.told }) (λ f. record { region = refl; told = refl; asks = refl })

  pub good_unregistered : (id : ℕ) → Good (Alter (with_face n (unregistered id)))
  good_unregistered id =
      changed (unregistered id) (λ f. refl) (λ mode f face. tree_face_less mode f (unregistered id f) refl refl refl (λ h. h) (λ h. h) (λ h. h) face)
      (λ f r. record { next = r.next; told = r.told }) (λ f. record { region = refl; told = refl; asks = refl })

  pub good_unheld : (id : ℕ) → Good (Alter (with_face n (unheld id)))
  good_unheld id =
      changed (unheld id) (λ f. refl)
      (λ mode f face. tree_face_less mode f (unheld id f) refl refl refl (λ h. ap (without_id id) h) (λ h. each_filter (λ (row : ℕ × InterestRow K). kept_options Client row.1.options ≡ row.1.options) (λ row. not (id == row.0)) f.held h) (λ h. h) face)
      (λ f r. record { next = r.next; told = r.told }) (λ f. record { region = refl; told = refl; asks = refl })

  pub good_initial : (id : ℕ) → Good (Alter (with_face n (initial_finalised id)))
  good_initial id =
      changed (initial_finalised id) (λ f. refl) (λ mode f face. tree_face_less mode f (initial_finalised id f) refl refl refl (λ h. h) (λ h. h) (λ h. h) face)
      (λ f r. record { next = r.next; told = r.told }) (λ f. record { region = refl; told = refl; asks = refl })

  -- pendings end, at any face
  pub good_ended : (k id : ℕ) → Good (Alter (with_face k (ended id)))
  unfolding with_face
  good_ended k id = λ g f inside found. (
    (
      with_face_rows cmp matching k (ended id) g (λ f. refl) (each_always (λ f. (k == f.number) ≡ true → IsTreeFace g.mode f → IsTreeFace g.mode (ended id f)) (λ f _ face. tree_face_less g.mode f (ended id f) refl refl refl (λ h. h) (λ h. h) (λ h. h) face) g.faces)
          (λ f r. record { next = r.next; told = r.told }) inside.0,
      inside.1,
    ),
    ((if k == p then ended id f else f), find_with_face cmp matching p k (ended id) g f (λ f. refl) found, of_cond (R f) (k == p) (ended id f) f (λ _. ends id f) (λ _. itself f)),
  )

  pub good_ending : (k id : ℕ) → Each Good (ending k id)
  good_ending k id = (
    good_ended k id,
    (
      good_each cmp matching p up Inside (λ g inside. inside.0) still_inside R itself trans ear (λ g f. finish_to g k id f) (λ g f face real side_. subst (λ b. SaidWell cmp b (finish_to g k id f) f.told f.asks) side_ (finish_well cmp matching g k id f face)),
      tt,
    ),
  )

  -- ---- what each face hears

  each_good : (rule : Rows K → Face K → List (Message K)) → ((g : Rows K) (f : Face K) → IsTreeFace g.mode f → IsReal cmp f → SaidWell cmp (is_north f.region) (rule g f) f.told f.asks) → Good (Say (λ g. to_each (rule g) g.faces))
  each_good rule well = good_each cmp matching p up Inside (λ g inside. inside.0) still_inside R itself trans ear rule (λ g f face real side_. subst (λ b. SaidWell cmp b (rule g f) f.told f.asks) side_ (well g f face real))

  pub good_tell : (source : Region) (e : K) → Good (Say (λ g. to_each (tell_to cmp matching g source e) g.faces))
  good_tell source e = each_good (λ g f. tell_to cmp matching g source e f) (λ g f face real. tell_well cmp matching g source e f (is_north f.region))

  pub good_forget : (source : Region) (e : K) → Good (Say (λ g. to_each (forget_to cmp matching g source e) g.faces))
  good_forget source e = each_good (λ g f. forget_to cmp matching g source e f) (λ g f face real. forget_well cmp matching g source e f face)

  pub good_answer : (k id : ℕ) (e : K) → Good (Say (λ g. to_each (answer_to cmp matching k id e) g.faces))
  good_answer k id e = each_good (λ g f. answer_to cmp matching k id e f) (λ g f face real. answer_well cmp matching k id e g.mode f face real)

  good_end_upstream : (interest : InterestRow K) → Good (Say (λ g. to_each (end_upstream_to cmp matching g interest) g.faces))
  good_end_upstream interest = each_good (λ g f. end_upstream_to cmp matching g interest f) (λ g f face real. end_upstream_well cmp matching g interest f)

  good_show : (source : Region) (e : K) → Good (Say (λ g. to_each (show_to cmp g source e) g.faces))
  good_show source e = each_good (λ g f. show_to cmp g source e f) (λ g f face real. show_well cmp matching g source e f (is_north f.region) face)

  good_hide : (source : Region) (e : K) → Good (Say (λ g. to_each (hide_to cmp g source e) g.faces))
  good_hide source e = each_good (λ g f. hide_to cmp g source e f) (λ g f face real. hide_well cmp matching g source e f (is_north f.region) face)

  -- ---- rows that are no face's

  -- only routed rows, tables, the dictionary or the moment change
  beside : (change : Rows K → Rows K) → ((g : Rows K) → (change g).faces ≡ g.faces) → ((g : Rows K) → (change g).mode ≡ g.mode) → Good (Alter change)
  beside change faces_ mode_ = λ g f inside found. (
    (
      record {
        rises = subst (RiseFrom (λ (f : Face K). f.number) 1) (sym (faces_ g)) inside.0.rises;
        faces = subst (λ (fs : List (Face K)). Each (IsTreeFace (change g).mode) fs) (sym (faces_ g)) (subst (λ m. Each (IsTreeFace m) g.faces) (sym (mode_ g)) inside.0.faces);
        real = subst (Each (IsReal cmp)) (sym (faces_ g)) inside.0.real;
      },
      mode_ g ∙ inside.1,
    ),
    (f, ap (first_where (λ (h : Face K). p == h.number)) (faces_ g) ∙ found, itself f),
  )

  own_rows_faces : (rs : List Region) (e : K) (g : Rows K) → (with_own_rows cmp rs e g).faces ≡ g.faces
  unfolding with_own_rows with_routed
  own_rows_faces [] e g = refl
  own_rows_faces (r ∷ rs) e g = own_rows_faces rs e (with_routed cmp r g.zid e g)

  own_rows_mode : (rs : List Region) (e : K) (g : Rows K) → (with_own_rows cmp rs e g).mode ≡ g.mode
  unfolding with_own_rows with_routed
  own_rows_mode [] e g = refl
  own_rows_mode (r ∷ rs) e g = own_rows_mode rs e (with_routed cmp r g.zid e g)

  pub good_showing : (source : Region) (e : K) → Each Good (showing cmp source e)
  good_showing source e = (
    good_show source e,
    (
      beside (λ g. with_own_rows cmp (filter (is_newly_shown cmp g source e) (router_regions g)) e g) (λ g. own_rows_faces (filter (is_newly_shown cmp g source e) (router_regions g)) e g) (λ g. own_rows_mode (filter (is_newly_shown cmp g source e) (router_regions g)) e g),
      tt,
    ),
  )

  good_without_own : (source : Region) (e : K) → Good (Alter (without_own_rows cmp source e))
  unfolding without_own_rows
  good_without_own source e = beside (without_own_rows cmp source e) (λ g. refl) (λ g. refl)

  pub good_hiding : (source : Region) (e : K) → Each Good (hiding cmp source e)
  good_hiding source e = (good_hide source e, (good_without_own source e, tt))

  pub good_numbers : (es : List K) → Good (Alter (with_numbers cmp es))
  good_numbers es = beside (with_numbers cmp es) (λ g. refl) (λ g. refl)

  pub good_moment : (now : ℕ) → Good (Alter (λ h. record h { moment = now }))
  good_moment now = beside (λ h. record h { moment = now }) (λ g. refl) (λ g. refl)

  -- ---- groups of parts

  pub good_undeclaring : (id : ℕ) (given : Option K) (f : Face K) → Each Good (undeclaring cmp matching n id given f)
  good_undeclaring id given f = cases (undeclared cmp matching id given f)
    where
      cases : (o : Option K) → Each Good (elim o [ None ↦ [] | Some e ↦ Alter (with_face n (unregistered id)) ∷ Say (λ g. to_each (forget_to cmp matching g f.region e) g.faces) ∷ [] ])
      cases None = tt
      cases (Some e) = (good_unregistered id, (good_forget f.region e, tt))

  pub good_hiding_undeclared : (id : ℕ) (given : Option K) (f : Face K) → Each Good (hiding_undeclared cmp matching id given f)
  good_hiding_undeclared id given f = cases (undeclared cmp matching id given f)
    where
      cases : (o : Option K) → Each Good (elim o [ None ↦ [] | Some e ↦ hiding cmp f.region e ])
      cases None = tt
      cases (Some e) = good_hiding f.region e

  -- the face that ends an interest leads down, or it is another
  pub good_finalising : (n ≡ p → up ≡ false) → (id : ℕ) (interest : InterestRow K) → Each Good (finalising cmp matching n id interest)
  good_finalising down id interest = (
    good_unheld id,
    (
      good_one cmp matching p up Inside (λ g inside. inside.0) still_inside R itself trans ear n (λ g f. untell_to cmp matching g f) (λ is g f face real side. untell_well cmp matching g f up),
      (
        good_one cmp matching p up Inside (λ g inside. inside.0) still_inside R itself trans ear n (λ g f. final_of_both id interest f) (λ is g f face real side. subst (λ b. SaidWell cmp b (final_of_both id interest f) f.told f.asks) (sym (down is)) (final_of_both_well cmp matching id interest f)),
        (good_end_upstream interest, tt),
      ),
    ),
  )
