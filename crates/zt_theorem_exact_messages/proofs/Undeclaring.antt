-- What each call tells by expression is right: the id is 0, and outside router regions the face wants the expression and
-- doesn't keep it.
use Rattle.std.proofs.Common.{◌≡◌, ℕ, Bool, true, false, not, ◌==◌, ◌&&◌, ◌||◌, if◌then◌else◌, List, [], ◌∷◌, ◌++◌, map, filter, Option, Some, None, refl, sym, ap, ◌∙◌, subst}
use Rattle.std.proofs.lemmas.Bool.{and_parts}
use Rattle.std.specs.Cmp.{IsTotalOrder}
use Rattle.std.specs.List.{flat_map}
use Rattle.std.specs.declared.cmp.Ordering.{Ordering}
use Rattle.zt_region.specs.declared.region.Region.{Region}
use Rattle.zt_region.specs.declared.region.WhatAmI.{WhatAmI}
use Rattle.zt_region.specs.declared.region.Zid.{Zid}
use Rattle.zt_region.specs.Region.{region_eq}
use Rattle.zt_protocol.specs.Plain.{PlainCall, NewSession, NewTransport, DeclareToken, UndeclareToken, Interest, InterestFinal, DeclareFinal, CloseFace, Expire, SetTrees, SetEntities, Trees}
use Rattle.zt_protocol.specs.declared.messages.Message.{Message}
use Rattle.zt_protocol.specs.declared.messages.Message.TheVariants as message
use Rattle.zt_model.specs.Closing.{closing, leaving, without_asks, without_face}
use Rattle.zt_model.specs.Hat.{hat_of, hat_of_face}
use Rattle.zt_model.specs.Hearing.{messages_for, rows_heard}
use Rattle.zt_model.specs.Parts.{unsaid_to}
use Rattle.zt_model.specs.Routing.{ended, ending, finalising, unheld}
use Rattle.zt_model.specs.Rows.{Face, InterestRow, Rows}
use Rattle.zt_model.specs.Says.{Alter, Part, Say, Sends, altered, altered_by, find_face, forget_to, forget_untold, hiding_undeclared, is_routed, parts_of, said, said_by, to_each, told_id, undeclared, undeclaring, undeclaring_of, unregistered, with_face}
use Rattle.zt_model.specs.Transcript.{Each}
use Rattle.zt_model.specs.Trees.{changing_table, counted_table, forgetting, greet_to, hide_to, hiding, is_hidden, left_out, source_of, table_of, unpass_to, without_own_rows, without_routed}
use Rattle.zt_model.specs.Visible.{is_visible, shows}
use Rattle.zt_model.specs.Wants.{wants}
use Rattle.zt_laws.specs.Order.{ListsAreInOrder, RowsAreInOrder}
use Rattle.zt_laws.proofs.CallsOrder.{closing_orderly, orderly_call}
use Rattle.zt_laws.proofs.Faces.{chosen_leaves}
use Rattle.zt_laws.proofs.Hearing.{each_ruled, messages_for_each}
use Rattle.zt_laws.proofs.Lists.{by_test, each_always, each_append, each_filter, each_map, each_weaker, filter_all, map-map, map_alike, never, of_cond}
use Rattle.zt_laws.proofs.PartsOrder.{AreInOrder, IsOrderlyPart, altered_by_last, each_flat_map, each_of_map, heard_in_order, lists_heard, said_by_last, tolds, tolds_in_order}
use Rattle.zt_laws.proofs.Registering.{messages_but_for}
use Rattle.zt_laws.proofs.Told.{told_id_none}
use Rattle.zt_theorem_soundness.proofs.Parts.{unpasses_routed}
use Rattle.zt_theorem_visibility.proofs.Saying.{SaysEach, declaration_says, declare_final_says, ending_says, expiry_says, finalising_says, greet_says, hide_says, interest_final_says, interest_says, opening_says, unpass_says}
use Rattle.zt_theorem_exact_messages.proofs.Hearers.{AllRight, HasNoId, Hearer, NamesNone, Right, all_right_if_none, all_right_then, filter_map, hearer_of, hearers, right_if_routed, right_to_who_wants}

module _ {K : Type 0} (cmp : K → K → Ordering) (matching : K → K → Bool) where
  -- ---- what a rule gives for a face

  forget_right : (g : Rows K) (source : Region) (e : K) (f : Face K) → Right cmp matching (forget_to cmp matching g source e f) (hearer_of g f)
  unfolding forget_to wants
  forget_right g source e f =
      of_cond (λ ms. Right cmp matching ms (hearer_of g f)) (is_routed g f || is_visible cmp g f.region e) [] (elim (told_id cmp e f.told) [ None ↦ forget_untold cmp matching g source e f | Some id ↦ message.UndeclareToken id None 0 ∷ [] ]) (λ _. tt)
      (λ _. cases (told_id cmp e f.told) refl)
    where
      cases : (o : Option ℕ) → told_id cmp e f.told ≡ o → (let ms : List (Message K) = elim o [ None ↦ forget_untold cmp matching g source e f | Some id ↦ message.UndeclareToken id None 0 ∷ [] ] in Right cmp matching ms (hearer_of g f))
      cases None found =
          of_cond (λ ms. Right cmp matching ms (hearer_of g f)) (wants matching f e && (hat_of_face g f).undeclares_untold && shows g.mode f.region source) (message.UndeclareToken 0 (Some e) 0 ∷ []) []
          (λ all.
          let both = (and_parts (wants matching f e && (hat_of_face g f).undeclares_untold) (shows g.mode f.region source) all).0 in
          right_to_who_wants cmp matching e 0 (hearer_of g f) (and_parts (wants matching f e) (hat_of_face g f).undeclares_untold both).0 (told_id_none cmp e f.told found)) (λ _. tt)
      cases (Some id) found = (refl, tt)

  -- by trees
  routed_right : (g : Rows K) (f : Face K) (ms : List (Message K)) → (is_routed g f ≡ false → ms ≡ []) → Each (HasNoId cmp matching) ms → Right cmp matching ms (hearer_of g f)
  routed_right g f ms none_ all =
      by_test (is_routed g f)
      (λ routed. right_if_routed cmp matching ms (hearer_of g f) routed all)
      (λ plain. subst (λ xs. Right cmp matching xs (hearer_of g f)) (sym (none_ plain)) tt)

  hides_plainly : (g : Rows K) (source : Region) (e : K) (f : Face K) → is_routed g f ≡ false → hide_to cmp g source e f ≡ []
  unfolding hide_to is_hidden
  hides_plainly g source e f plain = ap (λ b. if b && (not (region_eq f.region source) && not (is_visible cmp g f.region e)) then unpass_to cmp g f.region g.zid e f else []) plain

  -- ---- parts

  -- A part of a call on a gateway of this mode says what is right, and leaves the hearers whose numbers pass a test.
  abbrev pub PartRight : WhatAmI → (ℕ → Bool) → Part K → Type 0
  PartRight w p (Alter change) = (g : Rows K) → ((change g).mode ≡ g.mode) × (hearers p (change g) ≡ hearers p g)
  PartRight w p (Say rule) = (g : Rows K) → g.mode ≡ w → ListsAreInOrder cmp matching g → AllRight cmp matching (rule g) (hearers p g)

  -- of parts that say nothing by expression, what they change
  abbrev Alters : WhatAmI → (ℕ → Bool) → Part K → Type 0
  Alters w p (Alter change) = PartRight w p (Alter change)
  Alters w p (Say rule) = Unit {0}

  heard_mode : (ss : Sends K) (g : Rows K) → (rows_heard cmp ss g).mode ≡ g.mode
  unfolding rows_heard
  heard_mode ss g = refl

  said_right : (w : WhatAmI) (p : ℕ → Bool) (parts : List (Part K)) (g : Rows K) → Each (IsOrderlyPart cmp matching) parts → Each (PartRight w p) parts → g.mode ≡ w → ListsAreInOrder cmp matching g → AreInOrder cmp (tolds cmp g)
      → AllRight cmp matching (said_by cmp matching parts g) (hearers p g)
  unfolding said_by messages_for
  said_right w p [] g orderly right mode_ lists ordered = each_always (λ v. Unit {0}) (λ v. tt) (hearers p g)
  said_right w p (Alter change ∷ parts) g orderly right mode_ lists ordered =
      let one = orderly.0 g lists in
      let own = right.0 g in
      subst (AllRight cmp matching (said_by cmp matching parts (change g))) own.1 (said_right w p parts (change g) orderly.1 right.1 (own.0 ∙ mode_) one.0 (subst (AreInOrder cmp) (sym one.1) ordered))
  said_right w p (Say rule ∷ parts) g orderly right mode_ lists ordered =
      let ss = rule g in
      let h = rows_heard cmp ss g in
      all_right_then cmp matching p ss (said_by cmp matching parts h) g (right.0 g mode_ lists) (said_right w p parts h orderly.1 right.1 (heard_mode ss g ∙ mode_) (lists_heard cmp matching ss g lists) (heard_in_order cmp matching ss g (orderly.0 g lists ordered)))

  altered_right : (w : WhatAmI) (p : ℕ → Bool) (parts : List (Part K)) (g : Rows K) → Each (PartRight w p) parts → ((altered_by cmp matching parts g).mode ≡ g.mode) × (hearers p (altered_by cmp matching parts g) ≡ hearers p g)
  unfolding altered_by
  altered_right w p [] g right = (refl, refl)
  altered_right w p (Alter change ∷ parts) g right = let own = right.0 g in let rest = altered_right w p parts (change g) right.1 in (rest.0 ∙ own.0, rest.1 ∙ own.1)
  altered_right w p (Say rule ∷ parts) g right = altered_right w p parts g right.1

  -- a change of one face
  at_face : (w : WhatAmI) (p : ℕ → Bool) (n : ℕ) (change : Face K → Face K) → ((g : Rows K) (f : Face K) → p f.number ≡ true → (n == f.number) ≡ true → hearer_of g (change f) ≡ hearer_of g f) → ((f : Face K) → (change f).number ≡ f.number)
      → PartRight w p (Alter (with_face n change))
  unfolding with_face
  at_face w p n change same_ number_ = λ g.
      let chosen = λ (f : Face K). if n == f.number then change f else f in
      let kept = filter (λ (f : Face K). p f.number) g.faces in (
        refl,
        ap (map (hearer_of g)) (filter_map (λ (f : Face K). p f.number) (λ (f : Face K). p f.number) chosen g.faces (λ f. ap p (chosen_leaves (λ k. k.number) change (n == f.number) f (number_ f))))
            ∙ map-map (hearer_of g) chosen kept
            ∙ map_alike (λ f. hearer_of g (chosen f)) (hearer_of g) kept
            (each_weaker (λ f. p f.number ≡ true) (λ f. hearer_of g (chosen f) ≡ hearer_of g f)
            (λ f passes. by_test (n == f.number) (λ here. ap (λ b. hearer_of g (if b then change f else f)) here ∙ same_ g f passes here) (λ here. ap (λ b. hearer_of g (if b then change f else f)) here)) kept (passing g.faces)),
      )
    where
      passing : (fs : List (Face K)) → Each (λ f. p f.number ≡ true) (filter (λ (f : Face K). p f.number) fs)
      passing [] = tt
      passing (f ∷ fs) = by_test (p f.number) (λ here. rw here (here, passing fs)) (λ here. rw here (passing fs))

  -- a change of the face that a test leaves out
  aside : (w : WhatAmI) (n : ℕ) (change : Face K → Face K) → ((f : Face K) → (change f).number ≡ f.number) → PartRight w (λ k. not (n == k)) (Alter (with_face n change))
  aside w n change number_ = at_face w (λ k. not (n == k)) n change (λ g f passes here. never passes (ap not here)) number_

  -- a change that leaves hearers, at whatever face
  beside : (w : WhatAmI) (p : ℕ → Bool) (n : ℕ) (change : Face K → Face K) → ((g : Rows K) (f : Face K) → hearer_of g (change f) ≡ hearer_of g f) → ((f : Face K) → (change f).number ≡ f.number) → PartRight w p (Alter (with_face n change))
  beside w p n change same_ number_ = at_face w p n change (λ g f _ _. same_ g f) number_

  -- ---- what is said

  says_each : (w : WhatAmI) (p : ℕ → Bool) (rule : Rows K → Face K → List (Message K)) → ((g : Rows K) (f : Face K) → g.mode ≡ w → Right cmp matching (rule g f) (hearer_of g f)) → PartRight w p (Say (λ g. to_each (rule g) g.faces))
  says_each w p rule one = λ g mode_ lists.
      each_map (λ v. Right cmp matching (messages_for v.number (to_each (rule g) g.faces)) v) (hearer_of g) (filter (λ f. p f.number) g.faces)
      (each_filter (λ f. Right cmp matching (messages_for f.number (to_each (rule g) g.faces)) (hearer_of g f)) (λ f. p f.number) g.faces
      (each_weaker (λ f. messages_for f.number (to_each (rule g) g.faces) ≡ rule g f) (λ f. Right cmp matching (messages_for f.number (to_each (rule g) g.faces)) (hearer_of g f))
      (λ f is. subst (λ ms. Right cmp matching ms (hearer_of g f)) (sym is) (one g f mode_)) g.faces (messages_for_each 1 (rule g) g.faces lists.faces_rise)))

  says_none : (w : WhatAmI) (p : ℕ → Bool) (rule : Rows K → Sends K) → ((g : Rows K) → Each (λ s. NamesNone cmp matching s.1) (rule g)) → PartRight w p (Say rule)
  says_none w p rule none_ = λ g mode_ lists. all_right_if_none cmp matching (rule g) (hearers p g) (none_ g)

  -- but for one face
  said_but : (w : WhatAmI) (p : ℕ → Bool) (n : ℕ) (rule : Rows K → Sends K) → PartRight w p (Say rule) → PartRight w p (Say (λ g. filter (λ s. not (n == s.0)) (rule g)))
  unfolding messages_for
  said_but w p n rule right = λ g mode_ lists.
      each_weaker (λ v. Right cmp matching (messages_for v.number (rule g)) v) (λ v. Right cmp matching (messages_for v.number (filter (λ s. not (n == s.0)) (rule g))) v)
      (λ v own. subst (λ ms. Right cmp matching ms v) (sym (messages_but_for cmp matching n v.number (rule g))) (of_cond (λ ms. Right cmp matching ms v) (n == v.number) [] (messages_for v.number (rule g)) (λ _. tt) (λ _. own))) (hearers p g) (right g mode_ lists)

  unsaid_right : (w : WhatAmI) (p : ℕ → Bool) (n : ℕ) (parts : List (Part K)) → Each (PartRight w p) parts → Each (PartRight w p) (unsaid_to n parts)
  unfolding unsaid_to
  unsaid_right w p n [] right = tt
  unsaid_right w p n (Alter change ∷ parts) right = (right.0, unsaid_right w p n parts right.1)
  unsaid_right w p n (Say rule ∷ parts) right = (said_but w p n rule right.0, unsaid_right w p n parts right.1)

  -- parts that tell nothing by expression
  quiet_parts : (w : WhatAmI) (p : ℕ → Bool) (parts : List (Part K)) → Each (SaysEach cmp matching (NamesNone cmp matching)) parts → Each (Alters w p) parts → Each (PartRight w p) parts
  quiet_parts w p [] says alters = tt
  quiet_parts w p (Alter change ∷ parts) says alters = (alters.0, quiet_parts w p parts says.1 alters.1)
  quiet_parts w p (Say rule ∷ parts) says alters = (says_none w p rule says.0, quiet_parts w p parts says.1 alters.1)

  -- ---- what tokens bring about

  forgetting_right : (w : WhatAmI) (p : ℕ → Bool) (source : Region) (e : K) → PartRight w p (Say (λ g. to_each (forget_to cmp matching g source e) g.faces))
  forgetting_right w p source e = says_each w p (λ g. forget_to cmp matching g source e) (λ g f mode_. forget_right g source e f)

  hiding_right : (w : WhatAmI) (p : ℕ → Bool) (source : Region) (e : K) → Each (PartRight w p) (hiding cmp source e)
  unfolding without_own_rows
  hiding_right w p source e = (
    says_each w p (λ g. hide_to cmp g source e) (λ g f mode_. routed_right g f (hide_to cmp g source e f) (λ plain. hides_plainly g source e f plain) (hide_says cmp matching (HasNoId cmp matching) (λ x k. refl) g source e f)),
    ((λ g. (refl, refl)), tt),
  )

  undeclaring_right : (w : WhatAmI) (p : ℕ → Bool) (n id : ℕ) (given : Option K) (f : Face K) → Each (PartRight w p) (undeclaring cmp matching n id given f)
  undeclaring_right w p n id given f = cases (undeclared cmp matching id given f)
    where
      cases : (o : Option K) → Each (PartRight w p) (elim o [ None ↦ [] | Some e ↦ Alter (with_face n (unregistered id)) ∷ Say (λ g. to_each (forget_to cmp matching g f.region e) g.faces) ∷ [] ])
      cases None = tt
      cases (Some e) = (beside w p n (unregistered id) (λ g k. refl) (λ k. refl), (forgetting_right w p f.region e, tt))

  hiding_undeclared_right : (w : WhatAmI) (p : ℕ → Bool) (id : ℕ) (given : Option K) (f : Face K) → Each (PartRight w p) (hiding_undeclared cmp matching id given f)
  hiding_undeclared_right w p id given f = cases (undeclared cmp matching id given f)
    where
      cases : (o : Option K) → Each (PartRight w p) (elim o [ None ↦ [] | Some e ↦ hiding cmp f.region e ])
      cases None = tt
      cases (Some e) = hiding_right w p f.region e

  undeclaring_of_right : (w : WhatAmI) (p : ℕ → Bool) (n : ℕ) (source : Option Zid) (given : Option K) (f : Face K) → (hat_of w f.region).goes_by_trees ≡ true → Each (PartRight w p) (undeclaring_of cmp matching n source given f)
  unfolding without_routed
  undeclaring_of_right w p n None given f routed = tt
  undeclaring_of_right w p n (Some zid) None f routed = tt
  undeclaring_of_right w p n (Some zid) (Some e) f routed = (
    λ g. (refl, refl),
    (
      said_but w p n (λ g. to_each (unpass_to cmp g f.region zid e) g.faces)
          (says_each w p (λ g. unpass_to cmp g f.region zid e)
          (λ g h mode_.
          routed_right g h (unpass_to cmp g f.region zid e h) (λ plain. unpasses_routed cmp matching g f.region zid e h (ap (λ (v : WhatAmI). (hat_of v f.region).goes_by_trees) mode_ ∙ routed) plain)
          (unpass_says cmp matching (HasNoId cmp matching) (λ x k. refl) g f.region zid e h))),
      (forgetting_right w p f.region e, hiding_right w p f.region e),
    ),
  )

  -- ---- a face that leaves

  finalising_aside : (w : WhatAmI) (n id : ℕ) (interest : InterestRow K) → Each (PartRight w (λ k. not (n == k))) (finalising cmp matching n id interest)
  finalising_aside w n id interest =
      quiet_parts w (λ k. not (n == k)) (finalising cmp matching n id interest) (finalising_says cmp matching (NamesNone cmp matching) (λ k. tt) (λ k. tt) (λ k. tt) n id interest) (aside w n (unheld id) (λ k. refl), (tt, (tt, (tt, tt))))

  ending_aside : (w : WhatAmI) (n id : ℕ) → Each (PartRight w (λ k. not (n == k))) (ending n id)
  ending_aside w n id = quiet_parts w (λ k. not (n == k)) (ending n id) (ending_says cmp matching (NamesNone cmp matching) (λ k. tt) n id) (aside w n (ended id) (λ k. refl), (tt, tt))

  leaving_aside : (w : WhatAmI) (n : ℕ) (f : Face K) → Each (PartRight w (λ k. not (n == k))) (leaving cmp matching n f)
  leaving_aside w n f =
      let p = λ (k : ℕ). not (n == k) in
      let gone = λ (row : ℕ × K). undeclaring cmp matching n row.0 None f ++ hiding cmp f.region row.1 in
      let finalises = λ (row : ℕ × InterestRow K). finalising cmp matching n row.0 row.1 in
      let over = flat_map (λ row. ending n row.0) f.pendings in
      each_append (PartRight w p) (flat_map gone f.live ++ flat_map finalises f.held) (Alter (with_face n without_asks) ∷ over)
      (each_append (PartRight w p) (flat_map gone f.live) (flat_map finalises f.held)
      (each_flat_map (PartRight w p) gone f.live (λ row. each_append (PartRight w p) (undeclaring cmp matching n row.0 None f) (hiding cmp f.region row.1) (undeclaring_right w p n row.0 None f) (hiding_right w p f.region row.1)))
      (each_flat_map (PartRight w p) finalises f.held (λ row. finalising_aside w n row.0 row.1)))
      (aside w n without_asks (λ k. refl), each_flat_map (PartRight w p) (λ row. ending n row.0) f.pendings (λ row. ending_aside w n row.0))

  table_right : (w : WhatAmI) (p : ℕ → Bool) (region : Region) (t : Trees) (g : Rows K) → Each (PartRight w p) (changing_table cmp matching region t g)
  table_right w p region t g =
      let es = left_out cmp region (counted_table t) g in (
        (λ h. (refl, refl)),
        each_append (PartRight w p) (forgetting cmp matching region es) _
            (each_flat_map (PartRight w p) (λ e. Say (λ h. to_each (forget_to cmp matching h region e) h.faces) ∷ hiding cmp region e) es (λ e. (forgetting_right w p region e, hiding_right w p region e)))
            ((λ h. (refl, refl)), (says_none w p (λ h. to_each (greet_to cmp h region (table_of g region)) h.faces) (λ h. each_ruled (NamesNone cmp matching) (greet_to cmp h region (table_of g region)) h.faces (greet_says cmp matching (NamesNone cmp matching) (λ e k. tt) h region (table_of g region))), tt)),
      )

  -- ---- calls

  -- what a call says to the faces that it leaves is right
  abbrev pub CallRight : PlainCall K → Rows K → Type 0
  CallRight c g = Each (λ f. Right cmp matching (messages_for f.number (said cmp matching c g)) (hearer_of (altered cmp matching c g) f)) (altered cmp matching c g).faces

  none_said : (c : PlainCall K) (g : Rows K) → Each (λ s. NamesNone cmp matching s.1) (said cmp matching c g) → CallRight c g
  none_said c g none_ =
      each_of_map (λ v. Right cmp matching (messages_for v.number (said cmp matching c g)) v) (hearer_of (altered cmp matching c g)) (altered cmp matching c g).faces
      (all_right_if_none cmp matching (said cmp matching c g) (map (hearer_of (altered cmp matching c g)) (altered cmp matching c g).faces) none_)

  -- a call that opens and closes no face
  all_hear : (g : Rows K) → hearers (λ k. true) g ≡ map (hearer_of g) g.faces
  all_hear g = ap (map (hearer_of g)) (filter_all (λ (f : Face K). true) g.faces (each_always (λ f. true ≡ true) (λ f. refl) g.faces))

  kept_right : (c : PlainCall K) (g : Rows K) → Each (IsOrderlyPart cmp matching) (parts_of cmp matching c g) → Each (PartRight g.mode (λ k. true)) (parts_of cmp matching c g) → RowsAreInOrder cmp matching g → CallRight c g
  kept_right c g orderly right rows =
      let parts = parts_of cmp matching c g in
      let h = altered cmp matching c g in
      let ss = said cmp matching c g in
      each_of_map (λ v. Right cmp matching (messages_for v.number ss) v) (hearer_of h) h.faces
      (subst (AllRight cmp matching ss) (sym (altered_right g.mode (λ k. true) parts g right).1 ∙ all_hear h) (said_right g.mode (λ k. true) parts g orderly right refl rows.lists (tolds_in_order cmp matching g rows)))

  closing_parts : (n : ℕ) (f : Face K) (g : Rows K) → (let parts : List (Part K) = if is_routed g f then [] else unsaid_to n (leaving cmp matching n f) in Each (PartRight g.mode (λ k. not (n == k))) parts)
  closing_parts n f g = of_cond (Each (PartRight g.mode (λ k. not (n == k)))) (is_routed g f) [] (unsaid_to n (leaving cmp matching n f)) (λ _. tt) (λ _. unsaid_right g.mode (λ k. not (n == k)) n (leaving cmp matching n f) (leaving_aside g.mode n f))

  -- what holds of the hearers that stay holds of those after a closing
  closed_hear : (n : ℕ) (f : Face K) (g : Rows K) → (let h = altered_by cmp matching (closing cmp matching n g f) g in map (hearer_of h) h.faces ≡ hearers (λ k. not (n == k)) g)
  closed_hear n f g =
      let parts : List (Part K) = if is_routed g f then [] else unsaid_to n (leaving cmp matching n f) in
      let before = altered_by cmp matching parts g in
      ap (λ (h : Rows K). map (hearer_of h) h.faces) (altered_by_last cmp matching parts (without_face n) g) ∙ (altered_right g.mode (λ k. not (n == k)) parts g (closing_parts n f g)).1

  filter_hear : (P : Hearer K → Type 0) (p : ℕ → Bool) (g : Rows K) → Each (λ k. P (hearer_of g k)) g.faces → Each P (hearers p g)
  filter_hear P p g all = each_map P (hearer_of g) (filter (λ f. p f.number) g.faces) (each_filter (λ f. P (hearer_of g f)) (λ f. p f.number) g.faces all)

  -- what holds of all hearers holds of those after a closing
  pub closing_hears : (P : Hearer K → Type 0) (n : ℕ) (g : Rows K) → Each (λ k. P (hearer_of g k)) g.faces → (let h = altered cmp matching (CloseFace n) g in Each (λ k. P (hearer_of h k)) h.faces)
  unfolding parts_of altered_by
  closing_hears P n g all = cases (find_face n g)
    where
      cases : (o : Option (Face K)) → (let parts : List (Part K) = elim o [ None ↦ [] | Some f ↦ closing cmp matching n g f ] in let h = altered_by cmp matching parts g in Each (λ k. P (hearer_of h k)) h.faces)
      cases None = all
      cases (Some f) =
          let h = altered_by cmp matching (closing cmp matching n g f) g in
          each_of_map P (hearer_of h) h.faces (subst (Each P) (sym (closed_hear n f g)) (filter_hear P (λ k. not (n == k)) g all))

  module _ (total : IsTotalOrder cmp) where
    closing_right : (n : ℕ) (g : Rows K) → RowsAreInOrder cmp matching g → CallRight (CloseFace n) g
    unfolding parts_of said_by altered_by messages_for
    closing_right n g rows = cases (find_face n g)
      where
        cases : (o : Option (Face K))
            → (let parts : List (Part K) = elim o [ None ↦ [] | Some f ↦ closing cmp matching n g f ] in
            let h = altered_by cmp matching parts g in
            Each (λ f. Right cmp matching (messages_for f.number (said_by cmp matching parts g)) (hearer_of h f)) h.faces)
        cases None = each_always (λ f. Unit {0}) (λ f. tt) g.faces
        cases (Some f) =
            let parts : List (Part K) = if is_routed g f then [] else unsaid_to n (leaving cmp matching n f) in
            let ss = said_by cmp matching parts g in
            let h = altered_by cmp matching (closing cmp matching n g f) g in
            let one = said_right g.mode (λ k. not (n == k)) parts g (closing_orderly cmp matching total n f g) (closing_parts n f g) refl rows.lists (tolds_in_order cmp matching g rows) in
            subst (λ ts. Each (λ k. Right cmp matching (messages_for k.number ts) (hearer_of h k)) h.faces) (sym (said_by_last cmp matching parts (without_face n) g))
            (each_of_map (λ v. Right cmp matching (messages_for v.number ss) v) (hearer_of h) h.faces (subst (AllRight cmp matching ss) (sym (closed_hear n f g)) one))

    undeclaration_right : (n id node : ℕ) (given : Option K) (g : Rows K) → Each (PartRight g.mode (λ k. true)) (parts_of cmp matching (UndeclareToken n id given node) g)
    unfolding parts_of
    undeclaration_right n id node given g = cases (find_face n g)
      where
        p : ℕ → Bool
        p k = true

        cases : (o : Option (Face K)) → Each (PartRight g.mode p) (elim o [ None ↦ [] | Some f ↦ if is_routed g f then undeclaring_of cmp matching n (source_of g f node) given f else undeclaring cmp matching n id given f ++ hiding_undeclared cmp matching id given f ])
        cases None = tt
        cases (Some f) =
            of_cond (Each (PartRight g.mode p)) (is_routed g f) (undeclaring_of cmp matching n (source_of g f node) given f) (undeclaring cmp matching n id given f ++ hiding_undeclared cmp matching id given f)
            (λ routed. undeclaring_of_right g.mode p n (source_of g f node) given f routed)
            (λ _. each_append (PartRight g.mode p) (undeclaring cmp matching n id given f) (hiding_undeclared cmp matching id given f) (undeclaring_right g.mode p n id given f) (hiding_undeclared_right g.mode p id given f))

    -- What each call tells by expression is right.
    pub call_right : (c : PlainCall K) (g : Rows K) → RowsAreInOrder cmp matching g → CallRight c g
    unfolding parts_of said_by
    call_right (NewSession first) g rows = none_said (NewSession first) g tt
    call_right (NewTransport zid whatami region bound first) g rows = none_said (NewTransport zid whatami region bound first) g (opening_says cmp matching (NamesNone cmp matching) (λ k mode options e. tt) (λ k e. tt) (λ k. tt) zid whatami region bound first g)
    call_right (DeclareToken n id e node interest) g rows = none_said (DeclareToken n id e node interest) g (declaration_says cmp matching (NamesNone cmp matching) (λ k x. tt) (λ x k. tt) (λ k x i. tt) n id node e interest g)
    call_right (UndeclareToken n id given node) g rows = kept_right (UndeclareToken n id given node) g (orderly_call cmp matching total (UndeclareToken n id given node) g refl) (undeclaration_right n id node given g) rows
    call_right (Interest n id mode options e) g rows = none_said (Interest n id mode options e) g (interest_says cmp matching (NamesNone cmp matching) (λ k m o x. tt) (λ k x i. tt) (λ k x info i. tt) (λ k x i. tt) (λ k. tt) n id mode options e g)
    call_right (InterestFinal n id) g rows = none_said (InterestFinal n id) g (interest_final_says cmp matching (NamesNone cmp matching) (λ k. tt) (λ k. tt) (λ k. tt) n id g)
    call_right (DeclareFinal n id) g rows = none_said (DeclareFinal n id) g (declare_final_says cmp matching (NamesNone cmp matching) (λ k. tt) n id g)
    call_right (CloseFace n) g rows = closing_right n g rows
    call_right (Expire now) g rows = none_said (Expire now) g (expiry_says cmp matching (NamesNone cmp matching) (λ k. tt) now g)
    call_right (SetTrees region t) g rows = kept_right (SetTrees region t) g (orderly_call cmp matching total (SetTrees region t) g refl) (table_right g.mode (λ k. true) region t g) rows
    call_right (SetEntities n subscribers queryables) g rows = none_said (SetEntities n subscribers queryables) g tt
