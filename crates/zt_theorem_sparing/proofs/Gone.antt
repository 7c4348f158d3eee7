-- A face hears by expression that a token is gone only where it can't see it.
use Rattle.std.proofs.Common.{◌≡◌, ℕ, Bool, true, false, not, ◌&&◌, ◌||◌, ◌==◌, if◌then◌else◌, List, [], ◌∷◌, ◌++◌, map, filter, Option, Some, None, refl, sym, ap, ◌∙◌, subst, ⊎_elim, eq-eqb, eqb-true}
use Rattle.std.proofs.lemmas.Bool.{and_from, and_parts, or_cases, or_left, or_right}
use Rattle.std.specs.List.{flat_map, list_any}
use Rattle.std.specs.declared.cmp.Ordering.{Ordering}
use Rattle.std.specs.declared.cmp.Ordering.TheVariants.{Equal}
use Rattle.zt_region.specs.declared.region.Region.{Region}
use Rattle.zt_region.specs.declared.region.WhatAmI.{WhatAmI}
use Rattle.zt_region.specs.declared.region.Zid.{Zid}
use Rattle.zt_region.specs.Region.{region_eq, region_eq-refl, region_eq-same}
use Rattle.zt_protocol.specs.Plain.{PlainCall, NewSession, NewTransport, DeclareToken, UndeclareToken, Interest, InterestFinal, DeclareFinal, CloseFace, Expire, SetTrees, SetEntities, Trees}
use Rattle.zt_protocol.specs.declared.messages.Message.{Message}
use Rattle.zt_protocol.specs.declared.messages.Message.TheVariants as message
use Rattle.zt_model.specs.Closing.{closing, leaving, without_asks, without_face}
use Rattle.zt_model.specs.Hat.{hat_of, hat_of_face}
use Rattle.zt_model.specs.Hearing.{heard_all, messages_for, rows_heard}
use Rattle.zt_model.specs.Lists.{same}
use Rattle.zt_model.specs.Parts.{unsaid_to}
use Rattle.zt_model.specs.Routing.{ended, ending, finalising, unheld}
use Rattle.zt_model.specs.Rows.{Face, InterestRow, RoutedRow, Rows}
use Rattle.zt_model.specs.Says.{Alter, Part, Say, Sends, find_face, forget_to, forget_untold, hiding_undeclared, is_routed, parts_of, said, said_by, to_each, told_id, undeclared, undeclaring, undeclaring_of, unregistered, with_face}
use Rattle.zt_model.specs.Transcript.{Each}
use Rattle.zt_model.specs.Trees.{changing_table, counted_table, forgetting, greet_to, hide_to, hiding, is_hidden, left_out, source_of, table_of, unpass_to, without_own_rows, without_routed}
use Rattle.zt_model.specs.Visible.{is_visible, rows_of_face, routed_rows, shows}
use Rattle.zt_model.specs.Wants.{wants}
use Rattle.zt_laws.specs.Sound.{RiseFrom, rows_after_call}
use Rattle.zt_laws.proofs.Hearing.{each_ruled, heard_all-number, heard_all-region, messages_for-append, messages_for_each}
use Rattle.zt_laws.proofs.Lists.{any_from_filter, any_member, by_test, each_always, each_append, each_both, each_filter, each_map, each_weaker, never, of_cond, rise_filter, rise_map}
use Rattle.zt_laws.proofs.PartsOrder.{each_flat_map, each_message_for}
use Rattle.zt_laws.proofs.Visible.{any_live_rows, visible_still}
use Rattle.zt_theorem_soundness.specs.Ran.{ran}
use Rattle.zt_theorem_soundness.proofs.CallsRun.{call_runs, visible_heard}
use Rattle.zt_theorem_soundness.proofs.Ends.{with_face_same}
use Rattle.zt_theorem_soundness.proofs.Parts.{unpasses_routed}
use Rattle.zt_theorem_soundness.proofs.Showing.{hidden_same, left_out_gone, routed_gone}
use Rattle.zt_theorem_visibility.proofs.Saying.{SaysEach, declaration_says, declare_final_says, ending_says, expiry_says, finalising_says, greet_says, interest_final_says, interest_says, opening_says}

module _ {K : Type 0} (cmp : K → K → Ordering) (matching : K → K → Bool) where
  abbrev pub Rises : Rows K → Type 0
  Rises g = RiseFrom (λ f. f.number) 1 g.faces

  -- what a face of this region hears is gone, it can't see
  abbrev pub GoneFor : Rows K → Region → Message K → Type 0
  GoneFor g own (message.UndeclareToken id (Some e) node) = (hat_of g.mode own).goes_by_trees ≡ false → is_visible cmp g own e ≡ false
  GoneFor g own m = Unit {0}

  -- a face of the number stands there in the region
  abbrev pub stands_in : List (Face K) → ℕ → Region → Bool
  stands_in fs n own = list_any (λ x. (n == x.number) && region_eq own x.region) fs

  -- the second rows show no more, and their faces are among those of the first
  pub record Fades (g h : Rows K) : Type 0 where
    pub mode : h.mode ≡ g.mode
    pub visible : (own : Region) (e : K) → is_visible cmp h own e ≡ true → is_visible cmp g own e ≡ true
    pub from : Each (λ f. stands_in g.faces f.number f.region ≡ true) h.faces
    pub rises : Rises g → Rises h

  -- a fact of the faces goes over
  goes_over : (B : ℕ → Region → Type 0) (fs hs : List (Face K)) → Each (λ f. stands_in fs f.number f.region ≡ true) hs → Each (λ f. B f.number f.region) fs → Each (λ f. B f.number f.region) hs
  goes_over B fs hs from_ all =
      each_weaker (λ f. stands_in fs f.number f.region ≡ true) (λ f. B f.number f.region)
      (λ f there.
      any_member (λ x. B x.number x.region) (λ x. (f.number == x.number) && region_eq f.region x.region) fs all there
      (λ x own passes.
      let parts = and_parts (f.number == x.number) (region_eq f.region x.region) passes in
      subst (λ k. B k f.region) (sym (eqb-true f.number x.number parts.0)) (subst (B x.number) (sym (region_eq-same f.region x.region parts.1)) own))) hs from_

  each_stands : (fs : List (Face K)) → Each (λ f. stands_in fs f.number f.region ≡ true) fs
  each_stands [] = tt
  each_stands (f ∷ fs) =
      let own : ((f.number == f.number) && region_eq f.region f.region) ≡ true = and_from (f.number == f.number) (region_eq f.region f.region) (eq-eqb f.number f.number refl) (region_eq-refl f.region) in (
        or_left ((f.number == f.number) && region_eq f.region f.region) (stands_in fs f.number f.region) own,
        each_weaker (λ h. stands_in fs h.number h.region ≡ true) (λ h. stands_in (f ∷ fs) h.number h.region ≡ true) (λ h there. or_right ((h.number == f.number) && region_eq h.region f.region) (stands_in fs h.number h.region) there) fs (each_stands fs),
      )

  fades_itself : (g : Rows K) → Fades g g
  fades_itself g = record { mode = refl; visible = λ own e there. there; from = each_stands g.faces; rises = λ up. up }

  fades_then : (g h k : Rows K) → Fades g h → Fades h k → Fades g k
  fades_then g h k one two = record {
    mode = two.mode ∙ one.mode;
    visible = λ own e there. one.visible own e (two.visible own e there);
    from = goes_over (λ n own. stands_in g.faces n own ≡ true) h.faces k.faces two.from one.from;
    rises = λ up. two.rises (one.rises up);
  }

  gone_still : (g h : Rows K) (own : Region) (m : Message K) → Fades g h → GoneFor g own m → GoneFor h own m
  gone_still g h own (message.UndeclareToken id (Some e) node) fades gone =
      λ plain. by_test (is_visible cmp h own e) (λ there. never (fades.visible own e there) (gone (ap (λ (w : WhatAmI). (hat_of w own).goes_by_trees) (sym fades.mode) ∙ plain))) (λ none_. none_)
  gone_still g h own (message.UndeclareToken id None node) fades gone = tt
  gone_still g h own (message.DeclareToken id e interest node) fades gone = tt
  gone_still g h own (message.DeclareFinal interest) fades gone = tt
  gone_still g h own (message.Interest id mode options e) fades gone = tt
  gone_still g h own (message.InterestFinal id) fades gone = tt
  gone_still g h own (message.DeclareSubscriber id e interest) fades gone = tt
  gone_still g h own (message.DeclareQueryable id e info interest) fades gone = tt

  -- what each face hears, in rows that show no more
  pub each_gone_still : (g h : Rows K) (msgs : ℕ → List (Message K)) → Fades g h → Each (λ f. Each (GoneFor g f.region) (msgs f.number)) g.faces → Each (λ f. Each (GoneFor h f.region) (msgs f.number)) h.faces
  each_gone_still g h msgs fades all =
      each_weaker (λ f. Each (GoneFor g f.region) (msgs f.number)) (λ f. Each (GoneFor h f.region) (msgs f.number)) (λ f own. each_weaker (GoneFor g f.region) (GoneFor h f.region) (λ m one. gone_still g h f.region m fades one) (msgs f.number) own) h.faces
      (goes_over (λ k r. Each (GoneFor g r) (msgs k)) g.faces h.faces fades.from all)

  -- ---- changes by which rows fade

  mapped_stand : (change : Face K → Face K) (fs : List (Face K)) → ((f : Face K) → (change f).number ≡ f.number) → ((f : Face K) → (change f).region ≡ f.region) → Each (λ f. stands_in fs f.number f.region ≡ true) (map change fs)
  mapped_stand change fs number_ region_ =
      each_map (λ f. stands_in fs f.number f.region ≡ true) change fs
      (each_weaker (λ f. stands_in fs f.number f.region ≡ true) (λ f. stands_in fs (change f).number (change f).region ≡ true) (λ f own. ap (λ k. stands_in fs k (change f).region) (number_ f) ∙ ap (stands_in fs f.number) (region_ f) ∙ own) fs (each_stands fs))

  fades_heard : (ss : Sends K) (g : Rows K) → Fades g (rows_heard cmp ss g)
  unfolding rows_heard
  fades_heard ss g =
      let hears = λ (f : Face K). heard_all cmp g.moment (messages_for f.number ss) f in
      record {
        mode = refl;
        visible = λ own e there. sym (visible_heard cmp ss g own e) ∙ there;
        from = mapped_stand hears g.faces (λ f. heard_all-number cmp g.moment (messages_for f.number ss) f) (λ f. heard_all-region cmp g.moment (messages_for f.number ss) f);
        rises = λ up. rise_map (λ f. f.number) 1 hears g.faces (λ f. heard_all-number cmp g.moment (messages_for f.number ss) f) up;
      }

  -- one face is changed, but not where it stands
  fades_with_face : (n : ℕ) (change : Face K → Face K) (g : Rows K) → ((f : Face K) → (change f).number ≡ f.number) → ((f : Face K) → (change f).region ≡ f.region)
      → ((own : Region) (e : K) → is_visible cmp (with_face n change g) own e ≡ true → is_visible cmp g own e ≡ true) → Fades g (with_face n change g)
  unfolding with_face
  fades_with_face n change g number_ region_ visible_ =
      let chosen = λ (f : Face K). if n == f.number then change f else f in
      let chosen_number : (f : Face K) → (chosen f).number ≡ f.number = λ f. of_cond (λ (k : Face K). k.number ≡ f.number) (n == f.number) (change f) f (λ _. number_ f) (λ _. refl) in
      let chosen_region : (f : Face K) → (chosen f).region ≡ f.region = λ f. of_cond (λ (k : Face K). k.region ≡ f.region) (n == f.number) (change f) f (λ _. region_ f) (λ _. refl) in
      record {
        mode = refl;
        visible = visible_;
        from = mapped_stand chosen g.faces chosen_number chosen_region;
        rises = λ up. rise_map (λ f. f.number) 1 chosen g.faces chosen_number up;
      }

  fades_unregistered : (n id : ℕ) (g : Rows K) → Fades g (with_face n (unregistered id) g)
  fades_unregistered n id g = fades_with_face n (unregistered id) g (λ f. refl) (λ f. refl) (λ own e there. visible_still cmp own e n id g there)

  fades_beside : (n : ℕ) (change : Face K → Face K) (g : Rows K) → ((f : Face K) → (change f).number ≡ f.number) → ((f : Face K) → (change f).region ≡ f.region) → ((f : Face K) → (change f).live ≡ f.live) → Fades g (with_face n change g)
  unfolding is_visible with_face
  fades_beside n change g number_ region_ live_ =
      fades_with_face n change g number_ region_ (λ own e there. ap (list_any (λ row. same cmp e row.1 && shows g.mode own row.0)) (sym (with_face_same n change g region_ live_).live) ∙ there)

  -- routed rows change alone
  fades_routed : (g : Rows K) (rows : List (RoutedRow K)) → ((own : Region) (e : K) → is_visible cmp (record g { routed = rows }) own e ≡ true → is_visible cmp g own e ≡ true) → Fades g (record g { routed = rows })
  fades_routed g rows visible_ = record { mode = refl; visible = visible_; from = each_stands g.faces; rises = λ up. up }

  fades_without_face : (n : ℕ) (g : Rows K) → Fades g (without_face n g)
  unfolding is_visible
  fades_without_face n g =
      record {
        mode = refl;
        visible = λ own e there.
            let test = λ (row : Region × K). same cmp e row.1 && shows g.mode own row.0 in
            any_live_rows test g g.faces
            ∙ fewer test g.faces (sym (any_live_rows test g (filter (λ f. not (n == f.number)) g.faces)) ∙ there);
        from = each_filter (λ f. stands_in g.faces f.number f.region ≡ true) (λ f. not (n == f.number)) g.faces (each_stands g.faces);
        rises = λ up. rise_filter (λ f. f.number) 1 (λ f. not (n == f.number)) g.faces up;
      }
    where
      fewer : (test : Region × K → Bool) (fs : List (Face K)) → (list_any (λ f. list_any test (rows_of_face f)) (filter (λ f. not (n == f.number)) fs) || list_any test (routed_rows g)) ≡ true → (list_any (λ f. list_any test (rows_of_face f)) fs || list_any test (routed_rows g)) ≡ true
      fewer test fs there =
          let p = λ (f : Face K). list_any test (rows_of_face f) in
          ⊎_elim (λ here. or_left (list_any p fs) (list_any test (routed_rows g)) (any_from_filter p (λ f. not (n == f.number)) fs here)) (λ here. or_right (list_any p fs) (list_any test (routed_rows g)) here)
          (or_cases (list_any p (filter (λ f. not (n == f.number)) fs)) (list_any test (routed_rows g)) there)

  -- ---- parts

  -- A part by which rows fade, in a gateway of this mode: what it says to a face is gone, the face can't see.
  abbrev PartFades : WhatAmI → Part K → Type 0
  PartFades w (Alter change) = (g : Rows K) → Fades g (change g)
  PartFades w (Say rule) = (g : Rows K) → g.mode ≡ w → Rises g → Each (λ f. Each (GoneFor g f.region) (messages_for f.number (rule g))) g.faces

  ran_fades : (w : WhatAmI) (parts : List (Part K)) (g : Rows K) → Each (PartFades w) parts → Fades g (ran cmp parts g)
  unfolding ran
  ran_fades w [] g fades = fades_itself g
  ran_fades w (Alter change ∷ parts) g fades = fades_then g (change g) (ran cmp parts (change g)) (fades.0 g) (ran_fades w parts (change g) fades.1)
  ran_fades w (Say rule ∷ parts) g fades = let h = rows_heard cmp (rule g) g in fades_then g h (ran cmp parts h) (fades_heard (rule g) g) (ran_fades w parts h fades.1)

  -- what parts say is gone, a face can't see once all of them are done
  said_gone : (w : WhatAmI) (parts : List (Part K)) (g : Rows K) → Each (PartFades w) parts → g.mode ≡ w → Rises g
      → (let h = ran cmp parts g in Each (λ f. Each (GoneFor h f.region) (messages_for f.number (said_by cmp matching parts g))) h.faces)
  unfolding ran said_by messages_for
  said_gone w [] g fades mode_ up = each_always (λ f. Unit {0}) (λ f. tt) g.faces
  said_gone w (Alter change ∷ parts) g fades mode_ up = let one = fades.0 g in said_gone w parts (change g) fades.1 (one.mode ∙ mode_) (one.rises up)
  said_gone w (Say rule ∷ parts) g fades mode_ up =
      let h = rows_heard cmp (rule g) g in
      let k = ran cmp parts h in
      let hears = fades_heard (rule g) g in
      let first = each_gone_still g k (λ n. messages_for n (rule g)) (fades_then g h k hears (ran_fades w parts h fades.1)) (fades.0 g mode_ up) in
      let rest = said_gone w parts h fades.1 (hears.mode ∙ mode_) (hears.rises up) in
      each_both (λ f. Each (GoneFor k f.region) (messages_for f.number (rule g))) (λ f. Each (GoneFor k f.region) (messages_for f.number (said_by cmp matching parts h))) (λ f. Each (GoneFor k f.region) (messages_for f.number (rule g ++ said_by cmp matching parts h)))
      (λ f one two. subst (Each (GoneFor k f.region)) (sym (messages_for-append f.number (rule g) (said_by cmp matching parts h))) (each_append (GoneFor k f.region) (messages_for f.number (rule g)) (messages_for f.number (said_by cmp matching parts h)) one two)) k.faces first rest

  -- ---- rules

  -- no expression is said to be gone
  abbrev pub TellsNoneGone : Message K → Type 0
  TellsNoneGone (message.UndeclareToken id (Some e) node) = ⊥
  TellsNoneGone m = Unit {0}

  pub none_gone : (g : Rows K) (own : Region) (m : Message K) → TellsNoneGone m → GoneFor g own m
  none_gone g own (message.UndeclareToken id (Some e) node) none_ = absurd none_
  none_gone g own (message.UndeclareToken id None node) none_ = tt
  none_gone g own (message.DeclareToken id e interest node) none_ = tt
  none_gone g own (message.DeclareFinal interest) none_ = tt
  none_gone g own (message.Interest id mode options e) none_ = tt
  none_gone g own (message.InterestFinal id) none_ = tt
  none_gone g own (message.DeclareSubscriber id e interest) none_ = tt
  none_gone g own (message.DeclareQueryable id e info interest) none_ = tt

  says_none_gone : (w : WhatAmI) (rule : Rows K → Sends K) → ((g : Rows K) → Each (λ s. TellsNoneGone s.1) (rule g)) → PartFades w (Say rule)
  says_none_gone w rule none_ =
      λ g mode_ up.
      each_always (λ f. Each (GoneFor g f.region) (messages_for f.number (rule g))) (λ f. each_weaker TellsNoneGone (GoneFor g f.region) (λ m one. none_gone g f.region m one) (messages_for f.number (rule g)) (each_message_for cmp TellsNoneGone f.number (rule g) (none_ g))) g.faces

  abbrev AltersFade : Part K → Type 0
  AltersFade (Alter change) = (g : Rows K) → Fades g (change g)
  AltersFade (Say rule) = Unit {0}

  quiet_parts : (w : WhatAmI) (parts : List (Part K)) → Each (SaysEach cmp matching TellsNoneGone) parts → Each (λ p. AltersFade p) parts → Each (PartFades w) parts
  quiet_parts w [] says alters = tt
  quiet_parts w (Alter change ∷ parts) says alters = (alters.0, quiet_parts w parts says.1 alters.1)
  quiet_parts w (Say rule ∷ parts) says alters = (says_none_gone w rule says.0, quiet_parts w parts says.1 alters.1)

  -- a rule for each face
  each_rule : (w : WhatAmI) (rule : Rows K → Face K → List (Message K)) → ((g : Rows K) (f : Face K) → g.mode ≡ w → Each (GoneFor g f.region) (rule g f)) → PartFades w (Say (λ g. to_each (rule g) g.faces))
  each_rule w rule one =
      λ g mode_ up.
      each_weaker (λ f. messages_for f.number (to_each (rule g) g.faces) ≡ rule g f) (λ f. Each (GoneFor g f.region) (messages_for f.number (to_each (rule g) g.faces)))
      (λ f is. subst (Each (GoneFor g f.region)) (sym is) (one g f mode_)) g.faces (messages_for_each 1 (rule g) g.faces up)

  forget_gone : (g : Rows K) (source : Region) (e : K) (f : Face K) → Each (GoneFor g f.region) (forget_to cmp matching g source e f)
  unfolding forget_to
  forget_gone g source e f =
      by_test (is_routed g f || is_visible cmp g f.region e)
      (λ here. rw here tt)
      (λ here. rw here (cases (told_id cmp e f.told) (or_none (is_routed g f) (is_visible cmp g f.region e) here)))
    where
      or_none : (a b : Bool) → (a || b) ≡ false → b ≡ false
      or_none true b none_ = never refl none_
      or_none false b none_ = none_

      cases : (o : Option ℕ) → is_visible cmp g f.region e ≡ false → (let ms : List (Message K) = elim o [ None ↦ forget_untold cmp matching g source e f | Some id ↦ message.UndeclareToken id None 0 ∷ [] ] in Each (GoneFor g f.region) ms)
      cases None gone = of_cond (Each (GoneFor g f.region)) (wants matching f e && (hat_of_face g f).undeclares_untold && shows g.mode f.region source) (message.UndeclareToken 0 (Some e) 0 ∷ []) [] (λ _. ((λ _. gone), tt)) (λ _. tt)
      cases (Some id) gone = (tt, tt)

  -- faces outside router regions aren't told by trees
  routed_gone_for : (g : Rows K) (f : Face K) (ms : List (Message K)) → (is_routed g f ≡ false → ms ≡ []) → Each (GoneFor g f.region) ms
  routed_gone_for g f ms none_ =
      by_test (is_routed g f)
      (λ routed. each_always (GoneFor g f.region) (λ m. routed_any m routed) ms)
      (λ plain. subst (Each (GoneFor g f.region)) (sym (none_ plain)) tt)
    where
      routed_any : (m : Message K) → is_routed g f ≡ true → GoneFor g f.region m
      routed_any (message.UndeclareToken id (Some e) node) routed = λ plain. never routed plain
      routed_any (message.UndeclareToken id None node) routed = tt
      routed_any (message.DeclareToken id e interest node) routed = tt
      routed_any (message.DeclareFinal interest) routed = tt
      routed_any (message.Interest id mode options e) routed = tt
      routed_any (message.InterestFinal id) routed = tt
      routed_any (message.DeclareSubscriber id e interest) routed = tt
      routed_any (message.DeclareQueryable id e info interest) routed = tt

  hides_routed : (g : Rows K) (source : Region) (e : K) (f : Face K) → is_routed g f ≡ false → hide_to cmp g source e f ≡ []
  unfolding hide_to is_hidden
  hides_routed g source e f plain = ap (λ b. if b && (not (region_eq f.region source) && not (is_visible cmp g f.region e)) then unpass_to cmp g f.region g.zid e f else []) plain

  -- ---- parts

  fades_without_own : (source : Region) (e : K) (g : Rows K) → Fades g (without_own_rows cmp source e g)
  unfolding is_visible without_own_rows
  fades_without_own source e g =
      record { mode = refl; visible = λ own x there. ap (list_any (λ row. same cmp x row.1 && shows g.mode own row.0)) (sym (hidden_same cmp source e g).live) ∙ there; from = each_stands g.faces; rises = λ up. up }

  hiding_fades : (w : WhatAmI) (source : Region) (e : K) → Each (PartFades w) (hiding cmp source e)
  hiding_fades w source e = (
    each_rule w (λ g. hide_to cmp g source e) (λ g f mode_. routed_gone_for g f (hide_to cmp g source e f) (λ plain. hides_routed g source e f plain)),
    ((λ g. fades_without_own source e g), tt),
  )

  forgetting_fades : (w : WhatAmI) (source : Region) (e : K) → PartFades w (Say (λ g. to_each (forget_to cmp matching g source e) g.faces))
  forgetting_fades w source e = each_rule w (λ g. forget_to cmp matching g source e) (λ g f mode_. forget_gone g source e f)

  undeclaring_fades : (w : WhatAmI) (n id : ℕ) (given : Option K) (f : Face K) → Each (PartFades w) (undeclaring cmp matching n id given f)
  undeclaring_fades w n id given f = cases (undeclared cmp matching id given f)
    where
      cases : (o : Option K) → Each (PartFades w) (elim o [ None ↦ [] | Some e ↦ Alter (with_face n (unregistered id)) ∷ Say (λ g. to_each (forget_to cmp matching g f.region e) g.faces) ∷ [] ])
      cases None = tt
      cases (Some e) = ((λ g. fades_unregistered n id g), (forgetting_fades w f.region e, tt))

  hiding_undeclared_fades : (w : WhatAmI) (id : ℕ) (given : Option K) (f : Face K) → Each (PartFades w) (hiding_undeclared cmp matching id given f)
  hiding_undeclared_fades w id given f = cases (undeclared cmp matching id given f)
    where
      cases : (o : Option K) → Each (PartFades w) (elim o [ None ↦ [] | Some e ↦ hiding cmp f.region e ])
      cases None = tt
      cases (Some e) = hiding_fades w f.region e

  -- but for one face
  pub each_but : (P : Message K → Type 0) (n k : ℕ) (ss : Sends K) → Each P (messages_for k ss) → Each P (messages_for k (filter (λ s. not (n == s.0)) ss))
  unfolding messages_for
  each_but P n k [] all = tt
  each_but P n k (s ∷ ss) all =
      by_test (k == s.0)
      (λ own.
      let both : Each P (s.1 ∷ messages_for k ss) = rw own at all in
      by_test (n == s.0)
      (λ gone. rw gone (each_but P n k ss both.1))
      (λ kept. rw (kept, own) (both.0, each_but P n k ss both.1)))
      (λ other.
      let rest : Each P (messages_for k ss) = rw other at all in
      by_test (n == s.0)
      (λ gone. rw gone (each_but P n k ss rest))
      (λ kept. rw (kept, other) (each_but P n k ss rest)))

  fades_but : (w : WhatAmI) (n : ℕ) (rule : Rows K → Sends K) → PartFades w (Say rule) → PartFades w (Say (λ g. filter (λ s. not (n == s.0)) (rule g)))
  fades_but w n rule one =
      λ g mode_ up.
      each_weaker (λ f. Each (GoneFor g f.region) (messages_for f.number (rule g))) (λ f. Each (GoneFor g f.region) (messages_for f.number (filter (λ s. not (n == s.0)) (rule g))))
      (λ f own. each_but (GoneFor g f.region) n f.number (rule g) own) g.faces (one g mode_ up)

  unsaid_fades : (w : WhatAmI) (n : ℕ) (parts : List (Part K)) → Each (PartFades w) parts → Each (PartFades w) (unsaid_to n parts)
  unfolding unsaid_to
  unsaid_fades w n [] fades = tt
  unsaid_fades w n (Alter change ∷ parts) fades = (fades.0, unsaid_fades w n parts fades.1)
  unsaid_fades w n (Say rule ∷ parts) fades = (fades_but w n rule fades.0, unsaid_fades w n parts fades.1)

  undeclaring_of_fades : ((a b : K) → cmp a b ≡ Equal → a ≡ b) → (w : WhatAmI) (n : ℕ) (source : Option Zid) (given : Option K) (f : Face K) → (hat_of w f.region).goes_by_trees ≡ true → Each (PartFades w) (undeclaring_of cmp matching n source given f)
  unfolding is_visible without_routed
  undeclaring_of_fades equal_is_same w n None given f routed = tt
  undeclaring_of_fades equal_is_same w n (Some zid) None f routed = tt
  undeclaring_of_fades equal_is_same w n (Some zid) (Some e) f routed = (
    λ g. record { mode = refl; visible = λ own x there. (routed_gone cmp equal_is_same f.region zid e g).still (λ row. same cmp x row.1 && shows g.mode own row.0) there; from = each_stands g.faces; rises = λ up. up },
    (
      fades_but w n (λ g. to_each (unpass_to cmp g f.region zid e) g.faces)
          (each_rule w (λ g. unpass_to cmp g f.region zid e)
          (λ g h mode_. routed_gone_for g h (unpass_to cmp g f.region zid e h) (λ plain. unpasses_routed cmp matching g f.region zid e h (ap (λ (v : WhatAmI). (hat_of v f.region).goes_by_trees) mode_ ∙ routed) plain))),
      (forgetting_fades w f.region e, hiding_fades w f.region e),
    ),
  )

  finalising_fades : (w : WhatAmI) (n id : ℕ) (interest : InterestRow K) → Each (PartFades w) (finalising cmp matching n id interest)
  finalising_fades w n id interest =
      quiet_parts w (finalising cmp matching n id interest) (finalising_says cmp matching TellsNoneGone (λ k. tt) (λ k. tt) (λ k. tt) n id interest) ((λ g. fades_beside n (unheld id) g (λ f. refl) (λ f. refl) (λ f. refl)), (tt, (tt, (tt, tt))))

  ending_fades : (w : WhatAmI) (n id : ℕ) → Each (PartFades w) (ending n id)
  ending_fades w n id = quiet_parts w (ending n id) (ending_says cmp matching TellsNoneGone (λ k. tt) n id) ((λ g. fades_beside n (ended id) g (λ f. refl) (λ f. refl) (λ f. refl)), (tt, tt))

  leaving_fades : (w : WhatAmI) (n : ℕ) (f : Face K) → Each (PartFades w) (leaving cmp matching n f)
  leaving_fades w n f =
      let gone = λ (row : ℕ × K). undeclaring cmp matching n row.0 None f ++ hiding cmp f.region row.1 in
      let finalises = λ (row : ℕ × InterestRow K). finalising cmp matching n row.0 row.1 in
      let over = flat_map (λ row. ending n row.0) f.pendings in
      each_append (PartFades w) (flat_map gone f.live ++ flat_map finalises f.held) (Alter (with_face n without_asks) ∷ over)
      (each_append (PartFades w) (flat_map gone f.live) (flat_map finalises f.held)
      (each_flat_map (PartFades w) gone f.live (λ row. each_append (PartFades w) (undeclaring cmp matching n row.0 None f) (hiding cmp f.region row.1) (undeclaring_fades w n row.0 None f) (hiding_fades w f.region row.1)))
      (each_flat_map (PartFades w) finalises f.held (λ row. finalising_fades w n row.0 row.1)))
      ((λ g. fades_beside n without_asks g (λ k. refl) (λ k. refl) (λ k. refl)), each_flat_map (PartFades w) (λ row. ending n row.0) f.pendings (λ row. ending_fades w n row.0))

  closing_fades : (w : WhatAmI) (n : ℕ) (g : Rows K) (f : Face K) → Each (PartFades w) (closing cmp matching n g f)
  closing_fades w n g f =
      let parts : List (Part K) = if is_routed g f then [] else unsaid_to n (leaving cmp matching n f) in
      each_append (PartFades w) parts (Alter (without_face n) ∷ [])
      (of_cond (Each (PartFades w)) (is_routed g f) [] (unsaid_to n (leaving cmp matching n f)) (λ _. tt) (λ _. unsaid_fades w n (leaving cmp matching n f) (leaving_fades w n f)))
      ((λ h. fades_without_face n h), tt)

  table_fades : ((a b : K) → cmp a b ≡ Equal → a ≡ b) → (w : WhatAmI) (region : Region) (t : Trees) (g : Rows K) → Each (PartFades w) (changing_table cmp matching region t g)
  unfolding is_visible
  table_fades equal_is_same w region t g =
      let counted = counted_table t in
      let es = left_out cmp region counted g in (
        (λ h. record { mode = refl; visible = λ own x there. (left_out_gone cmp equal_is_same region counted h).still (λ row. same cmp x row.1 && shows h.mode own row.0) there; from = each_stands h.faces; rises = λ up. up }),
        each_append (PartFades w) (forgetting cmp matching region es) _
            (each_flat_map (PartFades w) (λ e. Say (λ h. to_each (forget_to cmp matching h region e) h.faces) ∷ hiding cmp region e) es (λ e. (forgetting_fades w region e, hiding_fades w region e))) (
              (λ h. record { mode = refl; visible = λ own x there. there; from = each_stands h.faces; rises = λ up. up }),
              (says_none_gone w (λ h. to_each (greet_to cmp h region (table_of g region)) h.faces) (λ h. each_ruled TellsNoneGone (greet_to cmp h region (table_of g region)) h.faces (greet_says cmp matching TellsNoneGone (λ e k. tt) h region (table_of g region))), tt),
            ),
      )

  -- ---- calls

  -- what a call says is gone, a face can't see after it
  abbrev pub CallGone : PlainCall K → Rows K → Type 0
  CallGone c g = (let h = rows_after_call cmp matching c g in Each (λ f. Each (GoneFor h f.region) (messages_for f.number (said cmp matching c g))) h.faces)

  faded : (c : PlainCall K) (g : Rows K) → Each (PartFades g.mode) (parts_of cmp matching c g) → Rises g → CallGone c g
  faded c g fades up = subst (λ (h : Rows K). Each (λ f. Each (GoneFor h f.region) (messages_for f.number (said cmp matching c g))) h.faces) (sym (call_runs cmp matching c g)) (said_gone g.mode (parts_of cmp matching c g) g fades refl up)

  none_said : (c : PlainCall K) (g : Rows K) → Each (λ s. TellsNoneGone s.1) (said cmp matching c g) → CallGone c g
  none_said c g none_ =
      let h = rows_after_call cmp matching c g in
      each_always (λ f. Each (GoneFor h f.region) (messages_for f.number (said cmp matching c g))) (λ f. each_weaker TellsNoneGone (GoneFor h f.region) (λ m one. none_gone h f.region m one) (messages_for f.number (said cmp matching c g)) (each_message_for cmp TellsNoneGone f.number (said cmp matching c g) none_)) h.faces

  -- a closing says of a face that isn't there nothing
  closed_fades : (n : ℕ) (g : Rows K) → Each (PartFades g.mode) (parts_of cmp matching (CloseFace n) g)
  unfolding parts_of
  closed_fades n g = cases (find_face n g)
    where
      cases : (o : Option (Face K)) → Each (PartFades g.mode) (elim o [ None ↦ [] | Some f ↦ closing cmp matching n g f ])
      cases None = tt
      cases (Some f) = closing_fades g.mode n g f

  pub call_gone : ((a b : K) → cmp a b ≡ Equal → a ≡ b) → (c : PlainCall K) (g : Rows K) → Rises g → CallGone c g
  unfolding parts_of said_by
  call_gone equal_is_same (NewSession first) g up = none_said (NewSession first) g tt
  call_gone equal_is_same (NewTransport zid whatami region bound first) g up = none_said (NewTransport zid whatami region bound first) g (opening_says cmp matching TellsNoneGone (λ k mode options e. tt) (λ k e. tt) (λ k. tt) zid whatami region bound first g)
  call_gone equal_is_same (DeclareToken n id e node interest) g up = none_said (DeclareToken n id e node interest) g (declaration_says cmp matching TellsNoneGone (λ k x. tt) (λ x k. tt) (λ k x i. tt) n id node e interest g)
  call_gone equal_is_same (UndeclareToken n id given node) g up = faded (UndeclareToken n id given node) g (cases (find_face n g)) up
    where
      cases : (o : Option (Face K)) → Each (PartFades g.mode) (elim o [ None ↦ [] | Some f ↦ if is_routed g f then undeclaring_of cmp matching n (source_of g f node) given f else undeclaring cmp matching n id given f ++ hiding_undeclared cmp matching id given f ])
      cases None = tt
      cases (Some f) =
          of_cond (Each (PartFades g.mode)) (is_routed g f) (undeclaring_of cmp matching n (source_of g f node) given f) (undeclaring cmp matching n id given f ++ hiding_undeclared cmp matching id given f)
          (λ routed. undeclaring_of_fades equal_is_same g.mode n (source_of g f node) given f routed)
          (λ _. each_append (PartFades g.mode) (undeclaring cmp matching n id given f) (hiding_undeclared cmp matching id given f) (undeclaring_fades g.mode n id given f) (hiding_undeclared_fades g.mode id given f))
  call_gone equal_is_same (Interest n id mode options e) g up = none_said (Interest n id mode options e) g (interest_says cmp matching TellsNoneGone (λ k m o x. tt) (λ k x i. tt) (λ k x info i. tt) (λ k x i. tt) (λ k. tt) n id mode options e g)
  call_gone equal_is_same (InterestFinal n id) g up = none_said (InterestFinal n id) g (interest_final_says cmp matching TellsNoneGone (λ k. tt) (λ k. tt) (λ k. tt) n id g)
  call_gone equal_is_same (DeclareFinal n id) g up = none_said (DeclareFinal n id) g (declare_final_says cmp matching TellsNoneGone (λ k. tt) n id g)
  call_gone equal_is_same (CloseFace n) g up = faded (CloseFace n) g (closed_fades n g) up
  call_gone equal_is_same (Expire now) g up = none_said (Expire now) g (expiry_says cmp matching TellsNoneGone (λ k. tt) now g)
  call_gone equal_is_same (SetTrees region t) g up = faded (SetTrees region t) g (table_fades equal_is_same g.mode region t g) up
  call_gone equal_is_same (SetEntities n subscribers queryables) g up = none_said (SetEntities n subscribers queryables) g tt

  -- what a closing leaves shows no more than was there
  pub closing_fades_all : (n : ℕ) (g : Rows K) → Fades g (rows_after_call cmp matching (CloseFace n) g)
  closing_fades_all n g = subst (Fades g) (sym (call_runs cmp matching (CloseFace n) g)) (ran_fades g.mode (parts_of cmp matching (CloseFace n) g) g (closed_fades n g))
