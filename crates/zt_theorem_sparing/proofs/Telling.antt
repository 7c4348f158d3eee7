-- A face is told a token that answers nobody only under a real id, and only if it seeks the token.
use Rattle.std.proofs.Common.{◌≡◌, ℕ, ◌+◌, ◌≤◌, Bool, true, false, not, max, nat_lt, ◌&&◌, ◌||◌, ◌==◌, if◌then◌else◌, List, [], ◌∷◌, ◌++◌, map, filter, Option, Some, None, refl, sym, ap, ◌∙◌, subst, arith, lt-ltb}
use Rattle.std.proofs.lemmas.Bool.{and_parts, or_left}
use Rattle.std.specs.Cmp.{IsTotalOrder}
use Rattle.std.specs.List.{flat_map}
use Rattle.std.specs.declared.cmp.Ordering.{Ordering}
use Rattle.zt_region.specs.declared.region.Bound.{Bound}
use Rattle.zt_region.specs.declared.region.Region.{Region}
use Rattle.zt_region.specs.declared.region.WhatAmI.{WhatAmI}
use Rattle.zt_region.specs.declared.region.Zid.{Zid}
use Rattle.zt_region.specs.Admission.{admits}
use Rattle.zt_region.specs.Region.{region_eq, region_eq-same}
use Rattle.zt_protocol.specs.Plain.{PlainCall, NewSession, NewTransport, DeclareToken, UndeclareToken, Interest, InterestFinal, DeclareFinal, CloseFace, Expire, SetTrees, SetEntities, Trees}
use Rattle.zt_protocol.specs.declared.messages.Message.{Message}
use Rattle.zt_protocol.specs.declared.messages.Message.TheVariants as message
use Rattle.zt_model.specs.Hat.{hat_of, hat_of_face}
use Rattle.zt_model.specs.Hearing.{heard_all, messages_for, rows_heard}
use Rattle.zt_model.specs.Lists.{has_id}
use Rattle.zt_model.specs.Refusals.{call_causes, first_cause}
use Rattle.zt_model.specs.Routing.{interests_from, is_greeted, opened, opening_final, opening_interests, opening_tokens, tokens_from}
use Rattle.zt_model.specs.Rows.{Face, Rows}
use Rattle.zt_model.specs.Says.{Alter, Part, Say, Sends, answering, declaring, declaring_of, find_face, forget_to, is_routed, is_told, parts_of, registered, registers, said, said_by, tell_to, to_each, to_face, with_face}
use Rattle.zt_model.specs.Strategy.{is_region_of}
use Rattle.zt_model.specs.Telling.{answer_to}
use Rattle.zt_model.specs.Transcript.{Each}
use Rattle.zt_model.specs.Trees.{counted_table, forgetting, greet_to, hide_to, hiding, is_newly_shown, left_out, pass_to, router_regions, routers_in_order, show_to, showing, source_of, table_of, with_own_rows, with_routed, with_table, without_left_out, without_own_rows}
use Rattle.zt_model.specs.Visible.{keeps, shows, visible_expressions}
use Rattle.zt_model.specs.Wants.{seeks, wants}
use Rattle.zt_laws.specs.Kept.{next_sent}
use Rattle.zt_laws.specs.Order.{RowsAreInOrder}
use Rattle.zt_laws.specs.Sound.{IsToldInOrder, RiseFrom, opens_face, rows_after_call}
use Rattle.zt_laws.proofs.Calls.{no_cause}
use Rattle.zt_laws.proofs.Hearing.{each_ruled_one, heard_all-held, heard_all-number, heard_all-region, messages_for-append, messages_for_each}
use Rattle.zt_laws.proofs.CallsOrder.{transport_in_order}
use Rattle.zt_laws.proofs.Keeping.{next_is_sent}
use Rattle.zt_theorem_soundness.proofs.Opening.{speaks_one}
use Rattle.zt_laws.proofs.Lists.{by_test, each_always, each_append, each_both, each_map, each_weaker, map-map, never, of_cond, rise_map}
use Rattle.zt_laws.proofs.PartsOrder.{each_flat_map, each_message_for}
use Rattle.zt_laws.proofs.Telling.{seeks_alike}
use Rattle.zt_theorem_soundness.specs.Ran.{ran}
use Rattle.zt_theorem_soundness.proofs.CallsRun.{call_runs, own_rows_leave}
use Rattle.zt_theorem_sparing.proofs.Gone.{each_but}
use Rattle.zt_theorem_visibility.proofs.Saying.{SaysEach, answering_says, closing_says, declare_final_says, expiry_says, forgets_say, hiding_says, interest_final_says, interest_says, interests_say, opening_final_says, undeclaration_says}

module _ {K : Type 0} (cmp : K → K → Ordering) (matching : K → K → Bool) where
  -- a token that answers nobody is told a face outside router regions that seeks it, with a real id
  abbrev pub TellsRight : Rows K → Face K → Message K → Type 0
  TellsRight g f (message.DeclareToken id e None node) = is_routed g f ≡ false → (nat_lt 0 id ≡ true) × (seeks matching g.mode f e ≡ true)
  TellsRight g f m = Unit {0}

  -- faces stay where they are, and hold what they held
  pub record Abides (g h : Rows K) : Type 0 where
    pub mode : h.mode ≡ g.mode
    pub change : Face K → Face K
    pub faces : h.faces ≡ map change g.faces
    pub number : (f : Face K) → (change f).number ≡ f.number
    pub region : (f : Face K) → (change f).region ≡ f.region
    pub held : (f : Face K) → (change f).held ≡ f.held
    pub next : (f : Face K) → 1 ≤ f.next → 1 ≤ (change f).next

  abides_itself : (g h : Rows K) → h.mode ≡ g.mode → h.faces ≡ g.faces → Abides g h
  abides_itself g h mode_ faces_ = record { mode = mode_; change = λ f. f; faces = faces_ ∙ sym (map_itself g.faces); number = λ f. refl; region = λ f. refl; held = λ f. refl; next = λ f real. real }
    where
      map_itself : (fs : List (Face K)) → map (λ (f : Face K). f) fs ≡ fs
      map_itself [] = refl
      map_itself (f ∷ fs) = ap (λ xs. f ∷ xs) (map_itself fs)

  abides_then : (g h k : Rows K) → Abides g h → Abides h k → Abides g k
  abides_then g h k one two = record {
    mode = two.mode ∙ one.mode;
    change = λ f. two.change (one.change f);
    faces = two.faces ∙ ap (map two.change) one.faces ∙ map-map two.change one.change g.faces;
    number = λ f. two.number (one.change f) ∙ one.number f;
    region = λ f. two.region (one.change f) ∙ one.region f;
    held = λ f. two.held (one.change f) ∙ one.held f;
    next = λ f real. two.next (one.change f) (one.next f real);
  }

  pub abides_heard : (ss : Sends K) (g : Rows K) → Abides g (rows_heard cmp ss g)
  unfolding rows_heard
  abides_heard ss g = record {
    mode = refl;
    change = λ f. heard_all cmp g.moment (messages_for f.number ss) f;
    faces = refl;
    number = λ f. heard_all-number cmp g.moment (messages_for f.number ss) f;
    region = λ f. heard_all-region cmp g.moment (messages_for f.number ss) f;
    held = λ f. heard_all-held cmp g.moment (messages_for f.number ss) f;
    next = λ f real. subst (λ n. 1 ≤ n) (sym (next_is_sent cmp g.moment (messages_for f.number ss) f)) (at_least f.next (next_sent (messages_for f.number ss)) real);
  }
    where
      at_least : (a b : ℕ) → 1 ≤ a → 1 ≤ max a b
      at_least a b real = omega arith

  right_same : (g h : Rows K) (f k : Face K) (m : Message K) → h.mode ≡ g.mode → k.region ≡ f.region → k.held ≡ f.held → TellsRight g f m → TellsRight h k m
  right_same g h f k (message.DeclareToken id e None node) mode_ region_ held_ right =
      λ plain.
      let both = right (ap (λ (w : WhatAmI). (hat_of w f.region).goes_by_trees) (sym mode_) ∙ ap (λ (r : Region). (hat_of h.mode r).goes_by_trees) (sym region_) ∙ plain) in
      (both.0, seeks_alike matching h.mode k f e region_ held_ ∙ ap (λ (w : WhatAmI). seeks matching w f e) mode_ ∙ both.1)
  right_same g h f k (message.DeclareToken id e (Some i) node) mode_ region_ held_ right = tt
  right_same g h f k (message.UndeclareToken id e node) mode_ region_ held_ right = tt
  right_same g h f k (message.DeclareFinal interest) mode_ region_ held_ right = tt
  right_same g h f k (message.Interest id mode options e) mode_ region_ held_ right = tt
  right_same g h f k (message.InterestFinal id) mode_ region_ held_ right = tt
  right_same g h f k (message.DeclareSubscriber id e interest) mode_ region_ held_ right = tt
  right_same g h f k (message.DeclareQueryable id e info interest) mode_ region_ held_ right = tt

  pub each_right_still : (g h : Rows K) (msgs : ℕ → List (Message K)) → Abides g h → Each (λ f. Each (TellsRight g f) (msgs f.number)) g.faces → Each (λ f. Each (TellsRight h f) (msgs f.number)) h.faces
  each_right_still g h msgs abides all =
      subst (Each (λ f. Each (TellsRight h f) (msgs f.number))) (sym abides.faces)
      (each_map (λ f. Each (TellsRight h f) (msgs f.number)) abides.change g.faces
      (each_weaker (λ f. Each (TellsRight g f) (msgs f.number)) (λ f. Each (TellsRight h (abides.change f)) (msgs (abides.change f).number))
      (λ f own. subst (λ n. Each (TellsRight h (abides.change f)) (msgs n)) (sym (abides.number f)) (each_weaker (TellsRight g f) (TellsRight h (abides.change f)) (λ m one. right_same g h f (abides.change f) m abides.mode (abides.region f) (abides.held f) one) (msgs f.number) own)) g.faces all))

  -- ---- parts

  abbrev Reals : Rows K → Type 0
  Reals g = Each (λ f. 1 ≤ f.next) g.faces

  abbrev PartTells : WhatAmI → Part K → Type 0
  PartTells w (Alter change) = (g : Rows K) → Abides g (change g)
  PartTells w (Say rule) = (g : Rows K) → g.mode ≡ w → RiseFrom (λ f. f.number) 1 g.faces → Reals g → Each (λ f. Each (TellsRight g f) (messages_for f.number (rule g))) g.faces

  abides_rises : (g h : Rows K) → Abides g h → RiseFrom (λ f. f.number) 1 g.faces → RiseFrom (λ f. f.number) 1 h.faces
  abides_rises g h abides up = subst (RiseFrom (λ f. f.number) 1) (sym abides.faces) (rise_map (λ f. f.number) 1 abides.change g.faces abides.number up)

  abides_reals : (g h : Rows K) → Abides g h → Reals g → Reals h
  abides_reals g h abides all = subst (Each (λ f. 1 ≤ f.next)) (sym abides.faces) (each_map (λ f. 1 ≤ f.next) abides.change g.faces (each_weaker (λ f. 1 ≤ f.next) (λ f. 1 ≤ (abides.change f).next) abides.next g.faces all))

  ran_abides : (w : WhatAmI) (parts : List (Part K)) (g : Rows K) → Each (PartTells w) parts → Abides g (ran cmp parts g)
  unfolding ran
  ran_abides w [] g tells = abides_itself g g refl refl
  ran_abides w (Alter change ∷ parts) g tells = abides_then g (change g) (ran cmp parts (change g)) (tells.0 g) (ran_abides w parts (change g) tells.1)
  ran_abides w (Say rule ∷ parts) g tells = let h = rows_heard cmp (rule g) g in abides_then g h (ran cmp parts h) (abides_heard (rule g) g) (ran_abides w parts h tells.1)

  said_right : (w : WhatAmI) (parts : List (Part K)) (g : Rows K) → Each (PartTells w) parts → g.mode ≡ w → RiseFrom (λ f. f.number) 1 g.faces → Reals g
      → (let h = ran cmp parts g in Each (λ f. Each (TellsRight h f) (messages_for f.number (said_by cmp matching parts g))) h.faces)
  unfolding ran said_by messages_for
  said_right w [] g tells mode_ up real = each_always (λ f. Unit {0}) (λ f. tt) g.faces
  said_right w (Alter change ∷ parts) g tells mode_ up real = let one = tells.0 g in said_right w parts (change g) tells.1 (one.mode ∙ mode_) (abides_rises g (change g) one up) (abides_reals g (change g) one real)
  said_right w (Say rule ∷ parts) g tells mode_ up real =
      let h = rows_heard cmp (rule g) g in
      let k = ran cmp parts h in
      let hears = abides_heard (rule g) g in
      let first = each_right_still g k (λ n. messages_for n (rule g)) (abides_then g h k hears (ran_abides w parts h tells.1)) (tells.0 g mode_ up real) in
      let rest = said_right w parts h tells.1 (hears.mode ∙ mode_) (abides_rises g h hears up) (abides_reals g h hears real) in
      each_both (λ f. Each (TellsRight k f) (messages_for f.number (rule g))) (λ f. Each (TellsRight k f) (messages_for f.number (said_by cmp matching parts h))) (λ f. Each (TellsRight k f) (messages_for f.number (rule g ++ said_by cmp matching parts h)))
      (λ f one two. subst (Each (TellsRight k f)) (sym (messages_for-append f.number (rule g) (said_by cmp matching parts h))) (each_append (TellsRight k f) (messages_for f.number (rule g)) (messages_for f.number (said_by cmp matching parts h)) one two)) k.faces first rest

  -- ---- rules

  abbrev pub TellsNobody : Message K → Type 0
  TellsNobody (message.DeclareToken id e None node) = ⊥
  TellsNobody m = Unit {0}

  pub nobody_right : (g : Rows K) (f : Face K) (m : Message K) → TellsNobody m → TellsRight g f m
  nobody_right g f (message.DeclareToken id e None node) none_ = absurd none_
  nobody_right g f (message.DeclareToken id e (Some i) node) none_ = tt
  nobody_right g f (message.UndeclareToken id e node) none_ = tt
  nobody_right g f (message.DeclareFinal interest) none_ = tt
  nobody_right g f (message.Interest id mode options e) none_ = tt
  nobody_right g f (message.InterestFinal id) none_ = tt
  nobody_right g f (message.DeclareSubscriber id e interest) none_ = tt
  nobody_right g f (message.DeclareQueryable id e info interest) none_ = tt

  says_nobody : (w : WhatAmI) (rule : Rows K → Sends K) → ((g : Rows K) → Each (λ s. TellsNobody s.1) (rule g)) → PartTells w (Say rule)
  says_nobody w rule none_ =
      λ g mode_ up real.
      each_always (λ f. Each (TellsRight g f) (messages_for f.number (rule g))) (λ f. each_weaker TellsNobody (TellsRight g f) (λ m one. nobody_right g f m one) (messages_for f.number (rule g)) (each_message_for cmp TellsNobody f.number (rule g) (none_ g))) g.faces

  each_rule : (w : WhatAmI) (rule : Rows K → Face K → List (Message K)) → ((g : Rows K) (f : Face K) → g.mode ≡ w → 1 ≤ f.next → Each (TellsRight g f) (rule g f)) → PartTells w (Say (λ g. to_each (rule g) g.faces))
  each_rule w rule one =
      λ g mode_ up real.
      each_both (λ f. messages_for f.number (to_each (rule g) g.faces) ≡ rule g f) (λ f. 1 ≤ f.next) (λ f. Each (TellsRight g f) (messages_for f.number (to_each (rule g) g.faces)))
      (λ f is next_. subst (Each (TellsRight g f)) (sym is) (one g f mode_ next_)) g.faces (messages_for_each 1 (rule g) g.faces up) real

  -- faces of router regions are told by trees
  routed_right : (g : Rows K) (f : Face K) (ms : List (Message K)) → (is_routed g f ≡ false → ms ≡ []) → Each (TellsRight g f) ms
  routed_right g f ms none_ =
      by_test (is_routed g f) (λ routed. each_always (TellsRight g f) (λ m. routed_any m routed) ms) (λ plain. subst (Each (TellsRight g f)) (sym (none_ plain)) tt)
    where
      routed_any : (m : Message K) → is_routed g f ≡ true → TellsRight g f m
      routed_any (message.DeclareToken id e None node) routed = λ plain. never routed plain
      routed_any (message.DeclareToken id e (Some i) node) routed = tt
      routed_any (message.UndeclareToken id e node) routed = tt
      routed_any (message.DeclareFinal interest) routed = tt
      routed_any (message.Interest id mode options e) routed = tt
      routed_any (message.InterestFinal id) routed = tt
      routed_any (message.DeclareSubscriber id e interest) routed = tt
      routed_any (message.DeclareQueryable id e info interest) routed = tt

  told_right : (g : Rows K) (source : Region) (e : K) (f : Face K) → 1 ≤ f.next → Each (TellsRight g f) (tell_to cmp matching g source e f)
  unfolding tell_to
  told_right g source e f real =
      of_cond (Each (TellsRight g f)) (is_told cmp matching g source e f) (message.DeclareToken f.next e None 0 ∷ []) []
      (λ told.
      let one = and_parts (not (is_routed g f)) (admits g.refused source f.region && shows g.mode f.region source && not (keeps cmp f e) && seeks matching g.mode f e) told in
      let two = and_parts (admits g.refused source f.region && shows g.mode f.region source && not (keeps cmp f e)) (seeks matching g.mode f e) one.1 in
      ((λ plain. (lt-ltb 0 f.next real, two.1)), tt))
      (λ _. tt)

  -- ---- calls

  shows_routed : (g : Rows K) (source : Region) (e : K) (f : Face K) → is_routed g f ≡ false → show_to cmp g source e f ≡ []
  unfolding show_to is_newly_shown
  shows_routed g source e f plain = rw plain refl

  passes_routed : (g : Rows K) (region : Region) (source : Zid) (e : K) (f : Face K) → (hat_of g.mode region).goes_by_trees ≡ true → is_routed g f ≡ false → pass_to cmp g region source e f ≡ []
  unfolding pass_to
  passes_routed g region source e f routed plain =
      by_test (region_eq f.region region)
      (λ here. never (ap (λ (r : Region). (hat_of g.mode r).goes_by_trees) (region_eq-same f.region region here) ∙ routed) plain)
      (λ here. rw here refl)

  greets_routed : (g : Rows K) (region : Region) (before : Trees) (f : Face K) → (hat_of g.mode region).goes_by_trees ≡ true → is_routed g f ≡ false → greet_to cmp g region before f ≡ []
  unfolding greet_to
  greets_routed g region before f routed plain =
      by_test (region_eq f.region region)
      (λ here. never (ap (λ (r : Region). (hat_of g.mode r).goes_by_trees) (region_eq-same f.region region here) ∙ routed) plain)
      (λ here. rw here (nothing (routers_in_order cmp (table_of g region))))
    where
      nothing : (rs : List (ℕ × Zid)) → flat_map (λ (r : ℕ × Zid). (let none : List (Message K) = [] in none)) rs ≡ []
      nothing [] = refl
      nothing (r ∷ rs) = nothing rs

  showing_tells : (w : WhatAmI) (source : Region) (e : K) → Each (PartTells w) (showing cmp source e)
  showing_tells w source e = (
    each_rule w (λ g. show_to cmp g source e) (λ g f mode_ real. routed_right g f (show_to cmp g source e f) (λ plain. shows_routed g source e f plain)),
    (
      (λ g.
          let rs = filter (is_newly_shown cmp g source e) (router_regions g) in
          abides_itself g (with_own_rows cmp rs e g) (own_rows_leave cmp (λ (k : Rows K). k.mode) (λ k rows. refl) rs e g) (own_rows_leave cmp (λ (k : Rows K). k.faces) (λ k rows. refl) rs e g)),
      tt,
    ),
  )

  telling_tells : (w : WhatAmI) (source : Region) (e : K) → PartTells w (Say (λ g. to_each (tell_to cmp matching g source e) g.faces))
  telling_tells w source e = each_rule w (λ g. tell_to cmp matching g source e) (λ g f mode_ real. told_right g source e f real)

  registering_abides : (n id : ℕ) (e : K) (g : Rows K) → Abides g (with_face n (registered id e) g)
  unfolding with_face
  registering_abides n id e g = record {
    mode = refl;
    change = λ f. if n == f.number then registered id e f else f;
    faces = refl;
    number = λ f. of_cond (λ (k : Face K). k.number ≡ f.number) (n == f.number) (registered id e f) f (λ _. refl) (λ _. refl);
    region = λ f. of_cond (λ (k : Face K). k.region ≡ f.region) (n == f.number) (registered id e f) f (λ _. refl) (λ _. refl);
    held = λ f. of_cond (λ (k : Face K). k.held ≡ f.held) (n == f.number) (registered id e f) f (λ _. refl) (λ _. refl);
    next = λ f real. of_cond (λ (k : Face K). 1 ≤ k.next) (n == f.number) (registered id e f) f (λ _. real) (λ _. real);
  }

  but_for_tells : (w : WhatAmI) (n : ℕ) (rule : Rows K → Sends K) → PartTells w (Say rule) → PartTells w (Say (λ g. filter (λ s. not (n == s.0)) (rule g)))
  but_for_tells w n rule one =
      λ g mode_ up real.
      each_weaker (λ f. Each (TellsRight g f) (messages_for f.number (rule g))) (λ f. Each (TellsRight g f) (messages_for f.number (filter (λ s. not (n == s.0)) (rule g))))
      (λ f own. each_but cmp matching (TellsRight g f) n f.number (rule g) own) g.faces (one g mode_ up real)

  declaring_of_tells : (w : WhatAmI) (n : ℕ) (source : Option Zid) (e : K) (f : Face K) → (hat_of w f.region).goes_by_trees ≡ true → Each (PartTells w) (declaring_of cmp matching n source e f)
  unfolding with_routed
  declaring_of_tells w n None e f routed = tt
  declaring_of_tells w n (Some zid) e f routed = (
    λ g. abides_itself g (with_routed cmp f.region zid e g) refl refl,
    (
      but_for_tells w n (λ g. to_each (pass_to cmp g f.region zid e) g.faces)
          (each_rule w (λ g. pass_to cmp g f.region zid e)
          (λ g h mode_ real. routed_right g h (pass_to cmp g f.region zid e h) (λ plain. passes_routed g f.region zid e h (ap (λ (v : WhatAmI). (hat_of v f.region).goes_by_trees) mode_ ∙ routed) plain))),
      (telling_tells w f.region e, showing_tells w f.region e),
    ),
  )

  answering_tells : (w : WhatAmI) (n : ℕ) (interest : Option ℕ) (e : K) (f : Face K) → Each (PartTells w) (answering cmp matching n interest e f)
  answering_tells w n interest e f = quiet (answering cmp matching n interest e f) (answering_says cmp matching TellsNobody (λ k x i. tt) n interest e f) (only_says interest)
    where
      OnlySays : Part K → Type 0
      OnlySays (Alter change) = ⊥
      OnlySays (Say rule) = Unit {0}

      only_says : (o : Option ℕ) → Each OnlySays (answering cmp matching n o e f)
      only_says None = tt
      only_says (Some i) = of_cond (Each OnlySays) (has_id i f.pendings) (Say (λ h. to_each (answer_to cmp matching n i e) h.faces) ∷ []) [] (λ _. (tt, tt)) (λ _. tt)

      quiet : (parts : List (Part K)) → Each (SaysEach cmp matching TellsNobody) parts → Each OnlySays parts → Each (PartTells w) parts
      quiet [] says only = tt
      quiet (Alter change ∷ parts) says only = absurd only.0
      quiet (Say rule ∷ parts) says only = (says_nobody w rule says.0, quiet parts says.1 only.1)

  -- what a call tells faces, once it is done
  abbrev pub CallTells : PlainCall K → Rows K → Type 0
  CallTells c g = (let h = rows_after_call cmp matching c g in Each (λ f. Each (TellsRight h f) (messages_for f.number (said cmp matching c g))) h.faces)

  by_parts : (c : PlainCall K) (g : Rows K) → Each (PartTells g.mode) (parts_of cmp matching c g) → RowsAreInOrder cmp matching g → CallTells c g
  by_parts c g tells ordered =
      subst (λ (h : Rows K). Each (λ f. Each (TellsRight h f) (messages_for f.number (said cmp matching c g))) h.faces) (sym (call_runs cmp matching c g))
      (said_right g.mode (parts_of cmp matching c g) g tells refl ordered.lists.faces_rise (each_weaker (λ f. IsToldInOrder cmp f.told f.next) (λ f. 1 ≤ f.next) (λ f told. told.next_is_real) g.faces ordered.told))

  none_told : (c : PlainCall K) (g : Rows K) → Each (λ s. TellsNobody s.1) (said cmp matching c g) → CallTells c g
  none_told c g none_ =
      let h = rows_after_call cmp matching c g in
      each_always (λ f. Each (TellsRight h f) (messages_for f.number (said cmp matching c g))) (λ f. each_weaker TellsNobody (TellsRight h f) (λ m one. nobody_right h f m one) (messages_for f.number (said cmp matching c g)) (each_message_for cmp TellsNobody f.number (said cmp matching c g) none_)) h.faces

  hidden_abides : (source : Region) (e : K) (g : Rows K) → Abides g (without_own_rows cmp source e g)
  unfolding without_own_rows
  hidden_abides source e g = abides_itself g (without_own_rows cmp source e g) refl refl

  forgetting_tells : (w : WhatAmI) (region : Region) (es : List K) → Each (PartTells w) (forgetting cmp matching region es)
  forgetting_tells w region es =
      each_flat_map (PartTells w) (λ e. Say (λ h. to_each (forget_to cmp matching h region e) h.faces) ∷ hiding cmp region e) es
      (λ e.
      let hides = hiding_says cmp matching TellsNobody (λ k x. tt) region e in (
        says_nobody w (λ h. to_each (forget_to cmp matching h region e) h.faces) (forgets_say cmp matching TellsNobody (λ k. tt) (λ x k. tt) region e),
        (says_nobody w (λ h. to_each (hide_to cmp h region e) h.faces) hides.0, ((λ g. hidden_abides region e g), tt)),
      ))

  pub call_tells : (spent : Bool) (c : PlainCall K) (g : Rows K) → opens_face c ≡ false → first_cause (call_causes cmp matching spent c g) ≡ None → RowsAreInOrder cmp matching g → CallTells c g
  unfolding parts_of said_by call_causes
  call_tells spent (NewSession first) g still accepted ordered = never refl still
  call_tells spent (NewTransport zid whatami region bound first) g still accepted ordered = never refl still
  call_tells spent (DeclareToken n id e node interest) g still accepted ordered = by_parts (DeclareToken n id e node interest) g (cases (find_face n g)) ordered
    where
      plain : Face K → List (Part K)
      plain f = if registers f interest then declaring cmp matching n id e f ++ showing cmp f.region e else []

      cases : (o : Option (Face K)) → Each (PartTells g.mode) (elim o [ None ↦ [] | Some f ↦ if is_routed g f then declaring_of cmp matching n (source_of g f node) e f else answering cmp matching n interest e f ++ (if registers f interest then declaring cmp matching n id e f ++ showing cmp f.region e else []) ])
      cases None = tt
      cases (Some f) =
          of_cond (Each (PartTells g.mode)) (is_routed g f) (declaring_of cmp matching n (source_of g f node) e f) (answering cmp matching n interest e f ++ plain f)
          (λ routed. declaring_of_tells g.mode n (source_of g f node) e f routed)
          (λ _. each_append (PartTells g.mode) (answering cmp matching n interest e f) (plain f) (answering_tells g.mode n interest e f)
          (of_cond (Each (PartTells g.mode)) (registers f interest) (declaring cmp matching n id e f ++ showing cmp f.region e) [] (λ _. ((λ h. registering_abides n id e h), (telling_tells g.mode f.region e, showing_tells g.mode f.region e))) (λ _. tt)))
  call_tells spent (UndeclareToken n id given node) g still accepted ordered = none_told (UndeclareToken n id given node) g (undeclaration_says cmp matching TellsNobody (λ k. tt) (λ e k. tt) n id node given g)
  call_tells spent (Interest n id mode options e) g still accepted ordered = none_told (Interest n id mode options e) g (interest_says cmp matching TellsNobody (λ k m o x. tt) (λ k x i. tt) (λ k x info i. tt) (λ k x i. tt) (λ k. tt) n id mode options e g)
  call_tells spent (InterestFinal n id) g still accepted ordered = none_told (InterestFinal n id) g (interest_final_says cmp matching TellsNobody (λ k. tt) (λ k. tt) (λ k. tt) n id g)
  call_tells spent (DeclareFinal n id) g still accepted ordered = none_told (DeclareFinal n id) g (declare_final_says cmp matching TellsNobody (λ k. tt) n id g)
  call_tells spent (CloseFace n) g still accepted ordered = none_told (CloseFace n) g (closing_says cmp matching TellsNobody (λ k. tt) (λ e k. tt) (λ k. tt) (λ k. tt) n g)
  call_tells spent (Expire now) g still accepted ordered = none_told (Expire now) g (expiry_says cmp matching TellsNobody (λ k. tt) now g)
  call_tells spent (SetTrees region t) g still accepted ordered =
      let one = no_cause _ _ _ accepted in
      let two = no_cause _ _ _ one.1 in
      let routed : (hat_of g.mode region).goes_by_trees ≡ true = router_of (not (is_region_of g.regions region)) ((hat_of g.mode region).goes_by_trees) two.0 in
      by_parts (SetTrees region t) g (
        (λ h. abides_itself h (without_left_out cmp region (counted_table t) h) refl refl),
        each_append (PartTells g.mode) (forgetting cmp matching region (left_out cmp region (counted_table t) g)) _ (forgetting_tells g.mode region (left_out cmp region (counted_table t) g)) (
          (λ h. abides_itself h (with_table cmp region t h) refl refl),
          (each_rule g.mode (λ h. greet_to cmp h region (table_of g region)) (λ h f mode_ real. routed_right h f (greet_to cmp h region (table_of g region) f) (λ plain. greets_routed h region (table_of g region) f (ap (λ (v : WhatAmI). (hat_of v region).goes_by_trees) mode_ ∙ routed) plain)), tt),
        ),
      )
      ordered
    where
      router_of : (a b : Bool) → (a || not b) ≡ false → b ≡ true
      router_of true b none_ = never refl none_
      router_of false true none_ = refl
      router_of false false none_ = never refl none_
  call_tells spent (SetEntities n subscribers queryables) g still accepted ordered = none_told (SetEntities n subscribers queryables) g tt

  -- ---- a transport's face

  -- tokens of a face that is greeted
  greeted_right : (g : Rows K) (f : Face K) (next : ℕ) (es : List K) → 1 ≤ next → (hat_of_face g f).is_told_unasked f.region ≡ true → Each (TellsRight g f) (tokens_from next es)
  unfolding tokens_from seeks
  greeted_right g f next [] real up = tt
  greeted_right g f next (e ∷ es) real up = ((λ plain. (lt-ltb 0 next real, or_left ((hat_of_face g f).is_told_unasked f.region) (wants matching f e) up)), greeted_right g f (next + 1) es (omega arith) up)

  opening_right : (w : WhatAmI) (n : ℕ) → PartTells w (Say (λ h. to_face n (λ f. tokens_from f.next (opening_tokens cmp matching h f)) h))
  unfolding tokens_from
  opening_right w n =
      λ g mode_ up real.
      let rule = λ (f : Face K). tokens_from f.next (opening_tokens cmp matching g f) in
      each_both (λ f. messages_for f.number (to_face n rule g) ≡ (if n == f.number then rule f else [])) (λ f. 1 ≤ f.next) (λ f. Each (TellsRight g f) (messages_for f.number (to_face n rule g)))
      (λ f is next_.
      subst (Each (TellsRight g f)) (sym is)
      (of_cond (Each (TellsRight g f)) (n == f.number) (rule f) []
      (λ _.
      of_cond (λ es. Each (TellsRight g f) (tokens_from f.next es)) (is_greeted cmp matching g f) (visible_expressions cmp g f.region) []
      (λ greeted. greeted_right g f f.next (visible_expressions cmp g f.region) next_ (and_parts (not (is_routed g f)) ((hat_of_face g f).is_told_unasked f.region) greeted).1) (λ _. tt))
      (λ _. tt)))
      g.faces (speaks_one n rule g up) real

  pub opening_tells : (total : IsTotalOrder cmp) (zid : Zid) (whatami : WhatAmI) (region : Region) (bound : Bound) (first : ℕ) (g : Rows K) → 1 ≤ first → RowsAreInOrder cmp matching g → CallTells (NewTransport zid whatami region bound first) g
  unfolding parts_of ran said_by
  opening_tells total zid whatami region bound first g real ordered =
      let c : PlainCall K = NewTransport zid whatami region bound first in
      let one = opened zid whatami region bound first g in
      let n = g.made + 1 in
      let o1 = transport_in_order cmp matching total zid whatami region bound first g real ordered in
      let rest : List (Part K) = Say (λ h. to_face n (λ f. interests_from f.next (opening_interests cmp matching h f)) h) ∷ Say (λ h. to_face n (λ f. tokens_from f.next (opening_tokens cmp matching h f)) h) ∷ Say (to_face n (opening_final cmp matching)) ∷ [] in
      subst (λ (h : Rows K). Each (λ f. Each (TellsRight h f) (messages_for f.number (said cmp matching c g))) h.faces) (sym (call_runs cmp matching c g))
      (said_right one.mode rest one (
        says_nobody one.mode (λ h. to_face n (λ f. interests_from f.next (opening_interests cmp matching h f)) h) (λ h. each_ruled_one TellsNobody n (λ f. interests_from f.next (opening_interests cmp matching h f)) h (λ f. interests_say cmp matching TellsNobody (λ k m o x. tt) f.next (opening_interests cmp matching h f))),
        (opening_right one.mode n, (says_nobody one.mode (to_face n (opening_final cmp matching)) (λ h. each_ruled_one TellsNobody n (opening_final cmp matching) h (opening_final_says cmp matching TellsNobody (λ k. tt))), tt)),
      )
      refl o1.lists.faces_rise (each_weaker (λ f. IsToldInOrder cmp f.told f.next) (λ f. 1 ≤ f.next) (λ f told. told.next_is_real) one.faces o1.told))
