-- Every call leaves a gateway sound.
use Rattle.std.proofs.Common.{◌≡◌, ℕ, Bool, true, false, not, if◌then◌else◌, ◌&&◌, List, [], ◌++◌, Option, Some, None, is_some, refl, sym, ap, ◌∙◌, subst}
use Rattle.std.proofs.lemmas.Bool.{not-false}
use Rattle.std.specs.Cmp.{IsTotalOrder}
use Rattle.std.specs.declared.cmp.Ordering.{Ordering}
use Rattle.std.specs.declared.cmp.Ordering.TheVariants.{Equal}
use Rattle.zt_region.specs.declared.region.Region.{Region}
use Rattle.zt_region.specs.Admission.{admits}
use Rattle.zt_region.specs.Region.{is_north}
use Rattle.zt_protocol.specs.Plain.{PlainCall, NewSession, NewTransport, DeclareToken, UndeclareToken, Interest, InterestFinal, DeclareFinal, CloseFace, Expire, SetTrees, SetEntities}
use Rattle.zt_protocol.specs.declared.errors.Refusal.{Refusal}
use Rattle.zt_model.specs.Journal.{cause_of, rows_after}
use Rattle.zt_model.specs.Lists.{at_id, same}
use Rattle.zt_model.specs.Refusals.{adds_row, call_causes, first_cause, is_interest_id_in_use, is_token_id_in_use, spends_ids}
use Rattle.zt_model.specs.Rows.{Face, Rows}
use Rattle.zt_model.specs.Says.{Part, answering, declaring, declaring_of, find_face, hiding_undeclared, is_routed, parts_of, registers, row_of, undeclaring, undeclaring_of}
use Rattle.zt_model.specs.Routing.{finalising}
use Rattle.zt_model.specs.Trees.{showing, source_of}
use Rattle.zt_model.specs.Visible.{is_admitted, is_visible, keeps, live_rows, shows}
use Rattle.zt_model.specs.Wants.{covers}
use Rattle.zt_laws.specs.Keeping.{KeepsRight}
use Rattle.zt_laws.specs.Sound.{CallHasFirstIds, opens_face, rows_after_call}
use Rattle.zt_laws.proofs.Calls.{no_cause, not_on_face}
use Rattle.zt_laws.proofs.Lists.{any_alike, each_weaker, never, of_cond, same_tests}
use Rattle.zt_theorem_soundness.specs.Ran.{ran}
use Rattle.zt_theorem_soundness.specs.Sound.{IsSound, KeepsBut, nothing_left}
use Rattle.zt_theorem_soundness.proofs.Answered.{should_keep, with_nothing_left}
use Rattle.zt_theorem_soundness.proofs.Asking.{sound_asking}
use Rattle.zt_theorem_soundness.proofs.CallsRun.{call_runs}
use Rattle.zt_theorem_soundness.proofs.Closing.{sound_closing}
use Rattle.zt_theorem_soundness.proofs.Ends.{sound_entities, sound_expiring, sound_finishing}
use Rattle.zt_theorem_soundness.proofs.Interests.{sound_finalised}
use Rattle.zt_theorem_soundness.proofs.Opening.{sound_opening, sound_session}
use Rattle.zt_theorem_soundness.proofs.Tokens.{Sound, sound_declared_routed, sound_plain, sound_table, sound_undeclared, sound_undeclared_routed, source_is_other}

module _ {K : Type 0} (cmp : K → K → Ordering) (matching : K → K → Bool) (total : IsTotalOrder cmp) (equal_is_same : (a b : K) → cmp a b ≡ Equal → a ≡ b) where
  abbrev Fine : Rows K → Type 0
  Fine = Sound cmp matching total equal_is_same

  pub to_parts : (g : Rows K) → IsSound cmp matching g → Fine g
  to_parts g sound = record {
    ordered = sound.ordered;
    keeps = each_weaker (λ f. is_routed g f ≡ false → KeepsRight cmp matching g f) (λ f. is_routed g f ≡ false → false ≡ false → KeepsBut cmp matching nothing_left nothing_left g f) (λ f one plain _. with_nothing_left cmp matching g f (one plain)) g.faces sound.keeps;
    held = sound.held;
    named = sound.named;
    routed = sound.routed;
  }

  pub from_parts : (g : Rows K) → Fine g → IsSound cmp matching g
  from_parts g sound = record {
    ordered = sound.ordered;
    keeps = each_weaker (λ f. is_routed g f ≡ false → false ≡ false → KeepsBut cmp matching nothing_left nothing_left g f) (λ f. is_routed g f ≡ false → KeepsRight cmp matching g f) (λ f one plain. should_keep cmp matching g f (one plain refl)) g.faces sound.keeps;
    held = sound.held;
    named = sound.named;
    routed = sound.routed;
  }

  -- the parts of a call at the face that it names
  at_face : (n : ℕ) (g : Rows K) (parts : Face K → List (Part K)) → Fine g → ((f : Face K) → find_face n g ≡ Some f → Fine (ran cmp (parts f) g)) → Fine (ran cmp (elim (find_face n g) [ None ↦ [] | Some f ↦ parts f ]) g)
  unfolding ran
  at_face n g parts sound found = cases (find_face n g) refl
    where
      cases : (o : Option (Face K)) → find_face n g ≡ o → Fine (ran cmp (elim o [ None ↦ [] | Some f ↦ parts f ]) g)
      cases None is = sound
      cases (Some f) is = found f is

  not_in_use : (a b c : Bool) → ((not a && b) && c) ≡ false → a ≡ false → b ≡ true → c ≡ false
  not_in_use a b c h plain registers_ = sym (ap (λ x. (not x && b) && c) plain ∙ ap (λ x. (true && x) && c) registers_) ∙ h

  from_north : (i : ℕ) (interest : Option ℕ) (north : Bool) → (is_some interest && not north) ≡ false → interest ≡ Some i → north ≡ true
  from_north i interest north h is = not-false north (sym (ap (λ (o : Option ℕ). is_some o && not north) is) ∙ h)

  ran_call : (spent : Bool) (c : PlainCall K) (g : Rows K) → CallHasFirstIds c → first_cause (call_causes cmp matching spent c g) ≡ None → Fine g → Fine (ran cmp (parts_of cmp matching c g) g)
  unfolding parts_of call_causes ran
  ran_call spent (NewSession first) g real accepted sound = sound_session cmp matching total equal_is_same first g real sound
  ran_call spent (NewTransport zid whatami region bound first) g real accepted sound = sound_opening cmp matching total equal_is_same zid whatami region bound first g real sound
  ran_call spent (DeclareToken n id e node interest) g real accepted sound =
      let one = no_cause _ _ _ accepted in
      let two = no_cause _ _ _ one.1 in
      let three = no_cause _ _ _ two.1 in
      let four = no_cause _ _ _ three.1 in
      let five = no_cause _ _ _ four.1 in
      let six = no_cause _ _ _ five.1 in
      at_face n g _ sound
      (λ f found.
      of_cond (λ (parts : List (Part K)). Fine (ran cmp parts g)) (is_routed g f) (declaring_of cmp matching n (source_of g f node) e f)
      (answering cmp matching n interest e f ++ (if registers f interest then declaring cmp matching n id e f ++ showing cmp f.region e else []))
      (λ routed. sound_declared_routed cmp matching total equal_is_same n (source_of g f node) e f g (λ zid is. source_is_other g f node zid is) sound)
      (λ plain. sound_plain cmp matching total equal_is_same n id e interest f g found plain
      (λ registers_. not_in_use (is_routed g f) (registers f interest) (is_token_id_in_use cmp id e f) (not_on_face n g (λ k. adds_row interest g k && is_token_id_in_use cmp id e k) f found six.0) plain registers_)
      (λ i is. from_north i interest (is_north f.region) (not_on_face n g (λ k. is_some interest && not (is_north k.region)) f found two.0) is)
      sound))
  ran_call spent (UndeclareToken n id given node) g real accepted sound =
      at_face n g _ sound
      (λ f found.
      of_cond (λ (parts : List (Part K)). Fine (ran cmp parts g)) (is_routed g f) (undeclaring_of cmp matching n (source_of g f node) given f) (undeclaring cmp matching n id given f ++ hiding_undeclared cmp matching id given f)
      (λ routed. sound_undeclared_routed cmp matching total equal_is_same n (source_of g f node) given f g routed sound)
      (λ plain. sound_undeclared cmp matching total equal_is_same n id given f g found sound))
  ran_call spent (Interest n id mode options e) g real accepted sound =
      let one = no_cause _ _ _ accepted in
      let two = no_cause _ _ _ one.1 in
      let three = no_cause _ _ _ two.1 in
      let four = no_cause _ _ _ three.1 in
      let five = no_cause _ _ _ four.1 in
      at_face n g _ sound (λ f found. sound_asking cmp matching total equal_is_same n id (row_of cmp matching f mode options e) f g found (not_on_face n g (is_interest_id_in_use id mode) f found five.0) sound)
  ran_call spent (InterestFinal n id) g real accepted sound =
      at_face n g _ sound
      (λ f found.
      elim (at_id id f.held) as (λ o. at_id id f.held ≡ o → Fine (ran cmp (elim o [ None ↦ [] | Some interest ↦ finalising cmp matching n id interest ]) g)) [
        | None ↦ λ is. sound
        | Some interest ↦ λ is. sound_finalised cmp matching total equal_is_same n id interest f g found is sound
      ] refl)
  ran_call spent (DeclareFinal n id) g real accepted sound = at_face n g _ sound (λ f found. sound_finishing cmp matching total equal_is_same n id f g sound)
  ran_call spent (CloseFace n) g real accepted sound = at_face n g _ sound (λ f found. sound_closing cmp matching total equal_is_same n f g found sound)
  ran_call spent (Expire now) g real accepted sound = sound_expiring cmp matching total equal_is_same now g sound
  ran_call spent (SetTrees region t) g real accepted sound = sound_table cmp matching total equal_is_same region t g sound
  ran_call spent (SetEntities n subscribers queryables) g real accepted sound = sound_entities cmp matching total equal_is_same n subscribers queryables g sound

  -- an opening or a closing does so whether or not a cause holds
  pub opened_sound : (c : PlainCall K) (g : Rows K) → opens_face c ≡ true → CallHasFirstIds c → IsSound cmp matching g → IsSound cmp matching (rows_after_call cmp matching c g)
  unfolding parts_of ran
  opened_sound c g opens real sound = subst (IsSound cmp matching) (sym (call_runs cmp matching c g)) (from_parts (ran cmp (parts_of cmp matching c g) g) (one c opens real))
    where
      one : (c : PlainCall K) → opens_face c ≡ true → CallHasFirstIds c → Fine (ran cmp (parts_of cmp matching c g) g)
      one (NewSession first) opens real = sound_session cmp matching total equal_is_same first g real (to_parts g sound)
      one (NewTransport zid whatami region bound first) opens real = sound_opening cmp matching total equal_is_same zid whatami region bound first g real (to_parts g sound)
      one (DeclareToken n id e node interest) opens real = never opens refl
      one (UndeclareToken n id given node) opens real = never opens refl
      one (Interest n id mode options e) opens real = never opens refl
      one (InterestFinal n id) opens real = never opens refl
      one (DeclareFinal n id) opens real = never opens refl
      one (CloseFace n) opens real = never opens refl
      one (Expire now) opens real = never opens refl
      one (SetTrees region t) opens real = never opens refl
      one (SetEntities n subscribers queryables) opens real = never opens refl

  pub closed_sound : (n : ℕ) (g : Rows K) → IsSound cmp matching g → IsSound cmp matching (rows_after_call cmp matching (CloseFace n) g)
  unfolding parts_of
  closed_sound n g sound = subst (IsSound cmp matching) (sym (call_runs cmp matching (CloseFace n) g)) (from_parts (ran cmp (parts_of cmp matching (CloseFace n) g) g) (at_face n g _ (to_parts g sound) (λ f found. sound_closing cmp matching total equal_is_same n f g found (to_parts g sound))))

  -- An accepted call leaves a gateway sound.
  pub sound_after_call : (spent : Bool) (c : PlainCall K) (g : Rows K) → CallHasFirstIds c → first_cause (call_causes cmp matching spent c g) ≡ None → IsSound cmp matching g → IsSound cmp matching (rows_after_call cmp matching c g)
  sound_after_call spent c g real accepted sound = subst (IsSound cmp matching) (sym (call_runs cmp matching c g)) (from_parts (ran cmp (parts_of cmp matching c g) g) (ran_call spent c g real accepted (to_parts g sound)))

  pub sound_after_any : (c : PlainCall K) (g : Rows K) → CallHasFirstIds c → IsSound cmp matching g → IsSound cmp matching (rows_after cmp matching c g)
  unfolding rows_after cause_of
  sound_after_any c g real sound = cases (cause_of cmp matching c g) refl
    where
      cases : (o : Option Refusal) → cause_of cmp matching c g ≡ o → IsSound cmp matching (elim o [ None ↦ rows_after_call cmp matching c g | Some refusal ↦ g ])
      cases None accepted = sound_after_call (spends_ids cmp matching c g) c g real accepted sound
      cases (Some refusal) refused = sound

  -- ---- equality

  -- where nothing is refused admission, all that is visible is admitted
  none_refused : (g : Rows K) (own : Region) (x : K) → g.refused ≡ [] → is_admitted cmp g own x ≡ is_visible cmp g own x
  unfolding is_admitted is_visible
  none_refused g own x none_ =
      any_alike (λ (row : Region × K). same cmp x row.1 && (shows g.mode own row.0 && admits g.refused row.0 own)) (λ row. same cmp x row.1 && shows g.mode own row.0)
      (λ row. ap (λ (pairs : List (Region × Region)). same cmp x row.1 && (shows g.mode own row.0 && admits pairs row.0 own)) none_ ∙ ap (λ b. same cmp x row.1 && b) (and_true (shows g.mode own row.0))) (live_rows g)
    where
      and_true : (b : Bool) → (b && true) ≡ b
      and_true true = refl
      and_true false = refl

  pub keeps_exactly : (g : Rows K) (f : Face K) (e : K) → KeepsRight cmp matching g f → g.refused ≡ [] → covers matching g.mode f e ≡ true → keeps cmp f e ≡ is_visible cmp g f.region e
  keeps_exactly g f e right none_ covered =
      same_tests (keeps cmp f e) (is_visible cmp g f.region e) (λ kept. right.kept_is_visible e kept) (λ sees. right.admitted_is_kept e (none_refused g f.region e none_ ∙ sees) covered)
