-- What each part of a call says has node ids that tables give.
use Rattle.std.proofs.Common.{◌≡◌, ℕ, ◌+◌, Bool, true, false, not, ◌==◌, if◌then◌else◌, List, [], ◌∷◌, ◌++◌, map, filter, Option, Some, None, refl, sym, ap, ◌∙◌, subst}
use Rattle.std.specs.List.{flat_map}
use Rattle.std.specs.declared.cmp.Ordering.{Ordering}
use Rattle.zt_region.specs.declared.region.Region.{Region}
use Rattle.zt_region.specs.declared.region.WhatAmI.{WhatAmI}
use Rattle.zt_region.specs.declared.region.Zid.{Zid}
use Rattle.zt_region.specs.Region.{region_eq}
use Rattle.zt_protocol.specs.Plain.{Trees}
use Rattle.zt_protocol.specs.declared.messages.Message.{Message}
use Rattle.zt_protocol.specs.declared.messages.Message.TheVariants as message
use Rattle.zt_model.specs.Closing.{leaving, without_asks}
use Rattle.zt_model.specs.Hat.{hat_of}
use Rattle.zt_model.specs.Hearing.{heard, heard_all, messages_for, rows_heard}
use Rattle.zt_model.specs.Lists.{has_id}
use Rattle.zt_model.specs.Parts.{unsaid_to}
use Rattle.zt_model.specs.Routing.{ended, ending, finalising, unheld}
use Rattle.zt_model.specs.Rows.{Face, InterestRow, Rows}
use Rattle.zt_model.specs.Says.{Alter, Part, Say, Sends, altered_by, answering, declaring, declaring_of, forget_to, hiding_undeclared, registered, said_by, tell_to, to_each, to_face, undeclared, undeclaring, undeclaring_of, unregistered, with_face}
use Rattle.zt_model.specs.Telling.{answer_to}
use Rattle.zt_model.specs.Transcript.{Each}
use Rattle.zt_model.specs.Trees.{hide_to, hiding, is_newly_shown, pass_to, router_regions, show_to, showing, table_of, unpass_to, with_routed, without_own_rows, without_routed}
use Rattle.zt_laws.specs.Sound.{RiseFrom}
use Rattle.zt_laws.proofs.Faces.{chosen_leaves}
use Rattle.zt_laws.proofs.Hearing.{heard_all_leaves, messages_for-append, messages_for_each}
use Rattle.zt_laws.proofs.Lists.{by_test, each_always, each_append, each_both, each_map, each_weaker, map-map, map_alike, of_cond}
use Rattle.zt_laws.proofs.PartsOrder.{each_flat_map, each_message_for}
use Rattle.zt_theorem_soundness.specs.Ran.{ran}
use Rattle.zt_theorem_soundness.proofs.CallsRun.{own_rows_leave}
use Rattle.zt_theorem_soundness.proofs.Opening.{speaks_one}
use Rattle.zt_laws.proofs.Registering.{messages_but_for}
use Rattle.zt_theorem_visibility.proofs.Saying.{SaysEach, answering_says, ending_says, finalising_says}
use Rattle.zt_theorem_exact_messages.proofs.Given.{Given, IsForAny, forget_given, given_any, hide_given, pass_given, show_given, table_in, tell_given, unpass_given}

-- where a face is, and whose it is
pub record Who : Type 0 where
  pub number : ℕ
  pub region : Region
  pub zid : Zid

abbrev pub who_of : {K : Type 0} → Face K → Who
who_of f = record { number = f.number; region = f.region; zid = f.zid }

-- what node ids go by
pub record View : Type 0 where
  pub mode : WhatAmI
  pub zid : Zid
  pub trees : List (Region × Trees)
  pub who : List Who

abbrev pub view : {K : Type 0} → Rows K → View
view g = record { mode = g.mode; zid = g.zid; trees = g.trees; who = map who_of g.faces }

pub rise_of_map : {K : Type 0} (low : ℕ) (fs : List (Face K)) → RiseFrom (λ u. u.number) low (map who_of fs) → RiseFrom (λ f. f.number) low fs
rise_of_map low [] rises = tt
rise_of_map low (f ∷ fs) rises = (rises.0, rise_of_map (f.number + 1) fs rises.1)

pub rise_to_map : {K : Type 0} (low : ℕ) (fs : List (Face K)) → RiseFrom (λ f. f.number) low fs → RiseFrom (λ u. u.number) low (map who_of fs)
rise_to_map low [] rises = tt
rise_to_map low (f ∷ fs) rises = (rises.0, rise_to_map (f.number + 1) fs rises.1)

module _ {K : Type 0} (cmp : K → K → Ordering) (matching : K → K → Bool) where
  heard_who : (now : ℕ) (m : Message K) (f : Face K) → who_of (heard cmp now m f) ≡ who_of f
  heard_who now (message.DeclareToken id e interest node) f = refl
  heard_who now (message.UndeclareToken id e node) f = refl
  heard_who now (message.DeclareFinal interest) f = refl
  heard_who now (message.Interest id mode options e) f = refl
  heard_who now (message.InterestFinal id) f = refl
  heard_who now (message.DeclareSubscriber id e interest) f = refl
  heard_who now (message.DeclareQueryable id e info interest) f = refl

  pub who_heard : (now : ℕ) (ms : List (Message K)) (f : Face K) → who_of (heard_all cmp now ms f) ≡ who_of f
  who_heard now ms f = heard_all_leaves cmp who_of heard_who now ms f

  with_who : Rows K → List Who → View
  with_who g us = record { mode = g.mode; zid = g.zid; trees = g.trees; who = us }

  mapped_who : (change : Face K → Face K) (fs : List (Face K)) → ((f : Face K) → who_of (change f) ≡ who_of f) → map who_of (map change fs) ≡ map who_of fs
  mapped_who change fs same_ = map-map who_of change fs ∙ map_alike (λ f. who_of (change f)) who_of fs (each_always (λ f. who_of (change f) ≡ who_of f) same_ fs)

  pub view_heard : (ss : Sends K) (g : Rows K) → view (rows_heard cmp ss g) ≡ view g
  unfolding rows_heard with_who
  view_heard ss g = ap (with_who g) (mapped_who (λ f. heard_all cmp g.moment (messages_for f.number ss) f) g.faces (λ f. who_heard g.moment (messages_for f.number ss) f))

  pub view_with_face : (n : ℕ) (change : Face K → Face K) (g : Rows K) → ((f : Face K) → who_of (change f) ≡ who_of f) → view (with_face n change g) ≡ view g
  unfolding with_face with_who
  view_with_face n change g same_ =
      ap (with_who g) (mapped_who (λ f. if n == f.number then change f else f) g.faces (λ f. chosen_leaves who_of change (n == f.number) f (same_ f)))

  -- ---- parts, in a gateway that looks so; node ids are read by these tables

  module _ (V : View) (trees : List (Region × Trees)) (of : Region → K → Zid → Bool) where
    abbrev pub AllGiven : Sends K → Type 0
    AllGiven ss = Each (λ u. Each (Given cmp matching V.mode trees of u.region u.zid) (messages_for u.number ss)) V.who

    abbrev pub PartGives : Part K → Type 0
    PartGives (Alter change) = (g : Rows K) → view (change g) ≡ view g
    PartGives (Say rule) = (g : Rows K) → view g ≡ V → AllGiven (rule g)

    pub said_gives : (parts : List (Part K)) (g : Rows K) → Each PartGives parts → view g ≡ V → AllGiven (said_by cmp matching parts g)
    unfolding said_by messages_for
    said_gives [] g gives is = each_always (λ u. Unit {0}) (λ u. tt) V.who
    said_gives (Alter change ∷ parts) g gives is = said_gives parts (change g) gives.1 (gives.0 g ∙ is)
    said_gives (Say rule ∷ parts) g gives is =
        let ss = rule g in
        let rest = said_by cmp matching parts (rows_heard cmp ss g) in
        each_both (λ u. Each (Given cmp matching V.mode trees of u.region u.zid) (messages_for u.number ss)) (λ u. Each (Given cmp matching V.mode trees of u.region u.zid) (messages_for u.number rest)) (λ u. Each (Given cmp matching V.mode trees of u.region u.zid) (messages_for u.number (ss ++ rest)))
        (λ u one two.
        subst (Each (Given cmp matching V.mode trees of u.region u.zid)) (sym (messages_for-append u.number ss rest))
        (each_append (Given cmp matching V.mode trees of u.region u.zid) (messages_for u.number ss) (messages_for u.number rest) one two))
        V.who (gives.0 g is) (said_gives parts (rows_heard cmp ss g) gives.1 (view_heard ss g ∙ is))

    pub altered_gives : (parts : List (Part K)) (g : Rows K) → Each PartGives parts → view (altered_by cmp matching parts g) ≡ view g
    unfolding altered_by
    altered_gives [] g gives = refl
    altered_gives (Alter change ∷ parts) g gives = altered_gives parts (change g) gives.1 ∙ gives.0 g
    altered_gives (Say rule ∷ parts) g gives = altered_gives parts g gives.1

    pub ran_gives : (parts : List (Part K)) (g : Rows K) → Each PartGives parts → view (ran cmp parts g) ≡ view g
    unfolding ran
    ran_gives [] g gives = refl
    ran_gives (Alter change ∷ parts) g gives = ran_gives parts (change g) gives.1 ∙ gives.0 g
    ran_gives (Say rule ∷ parts) g gives = ran_gives parts (rows_heard cmp (rule g) g) gives.1 ∙ view_heard (rule g) g

    -- what a gateway's faces are given, in this view
    by_view : (ss : Sends K) (g : Rows K) → view g ≡ V → Each (λ f. Each (Given cmp matching V.mode trees of f.region f.zid) (messages_for f.number ss)) g.faces → AllGiven ss
    by_view ss g is all =
        subst (λ us. Each (λ u. Each (Given cmp matching V.mode trees of u.region u.zid) (messages_for u.number ss)) us) (ap (λ (v : View). v.who) is)
        (each_map (λ u. Each (Given cmp matching V.mode trees of u.region u.zid) (messages_for u.number ss)) who_of g.faces all)

    any_gives : (rule : Rows K → Sends K) → ((g : Rows K) → Each (λ s. IsForAny cmp matching s.1) (rule g)) → PartGives (Say rule)
    any_gives rule any = λ g is.
        each_always (λ u. Each (Given cmp matching V.mode trees of u.region u.zid) (messages_for u.number (rule g)))
        (λ u. each_weaker (IsForAny cmp matching) (Given cmp matching V.mode trees of u.region u.zid) (λ m one. given_any cmp matching V.mode trees of u.region u.zid m one) (messages_for u.number (rule g)) (each_message_for cmp (IsForAny cmp matching) u.number (rule g) (any g))) V.who

    -- a change at one face
    beside : (n : ℕ) (change : Face K → Face K) → ((f : Face K) → who_of (change f) ≡ who_of f) → PartGives (Alter (with_face n change))
    beside n change same_ = λ g. view_with_face n change g same_

    -- of parts that say what is for any, what they change
    abbrev Alters : Part K → Type 0
    Alters (Alter change) = PartGives (Alter change)
    Alters (Say rule) = Unit {0}

    pub quiet_parts : (parts : List (Part K)) → Each (SaysEach cmp matching (IsForAny cmp matching)) parts → Each Alters parts → Each PartGives parts
    quiet_parts [] says alters = tt
    quiet_parts (Alter change ∷ parts) says alters = (alters.0, quiet_parts parts says.1 alters.1)
    quiet_parts (Say rule ∷ parts) says alters = (any_gives rule says.0, quiet_parts parts says.1 alters.1)

    said_but : (n : ℕ) (rule : Rows K → Sends K) → PartGives (Say rule) → PartGives (Say (λ g. filter (λ s. not (n == s.0)) (rule g)))
    said_but n rule gives = λ g is.
        each_weaker (λ u. Each (Given cmp matching V.mode trees of u.region u.zid) (messages_for u.number (rule g))) (λ u. Each (Given cmp matching V.mode trees of u.region u.zid) (messages_for u.number (filter (λ s. not (n == s.0)) (rule g))))
        (λ u own.
        subst (Each (Given cmp matching V.mode trees of u.region u.zid)) (sym (messages_but_for cmp matching n u.number (rule g)))
        (of_cond (Each (Given cmp matching V.mode trees of u.region u.zid)) (n == u.number) [] (messages_for u.number (rule g)) (λ _. tt) (λ _. own))) V.who (gives g is)

    pub unsaid_gives : (n : ℕ) (parts : List (Part K)) → Each PartGives parts → Each PartGives (unsaid_to n parts)
    unfolding unsaid_to
    unsaid_gives n [] gives = tt
    unsaid_gives n (Alter change ∷ parts) gives = (gives.0, unsaid_gives n parts gives.1)
    unsaid_gives n (Say rule ∷ parts) gives = (said_but n rule gives.0, unsaid_gives n parts gives.1)

    module _ (rises : RiseFrom (λ u. u.number) 1 V.who) where
      rises_of : (g : Rows K) → view g ≡ V → RiseFrom (λ f. f.number) 1 g.faces
      rises_of g is = rise_of_map 1 g.faces (subst (λ us. RiseFrom (λ u. u.number) 1 us) (sym (ap (λ (v : View). v.who) is)) rises)

      pub says_each : (rule : Rows K → Face K → List (Message K)) → ((g : Rows K) (f : Face K) → view g ≡ V → Each (Given cmp matching V.mode trees of f.region f.zid) (rule g f)) → PartGives (Say (λ g. to_each (rule g) g.faces))
      says_each rule one = λ g is.
          by_view (to_each (rule g) g.faces) g is
          (each_weaker (λ f. messages_for f.number (to_each (rule g) g.faces) ≡ rule g f) (λ f. Each (Given cmp matching V.mode trees of f.region f.zid) (messages_for f.number (to_each (rule g) g.faces)))
          (λ f says. subst (Each (Given cmp matching V.mode trees of f.region f.zid)) (sym says) (one g f is)) g.faces (messages_for_each 1 (rule g) g.faces (rises_of g is)))

      pub says_one : (n : ℕ) (rule : Rows K → Face K → List (Message K)) → ((g : Rows K) (f : Face K) → view g ≡ V → Each (Given cmp matching V.mode trees of f.region f.zid) (rule g f)) → PartGives (Say (λ g. to_face n (rule g) g))
      says_one n rule one = λ g is.
          by_view (to_face n (rule g) g) g is
          (each_weaker (λ f. messages_for f.number (to_face n (rule g) g) ≡ (if n == f.number then rule g f else [])) (λ f. Each (Given cmp matching V.mode trees of f.region f.zid) (messages_for f.number (to_face n (rule g) g)))
          (λ f says.
          subst (Each (Given cmp matching V.mode trees of f.region f.zid)) (sym says)
          (of_cond (Each (Given cmp matching V.mode trees of f.region f.zid)) (n == f.number) (rule g f) [] (λ _. one g f is) (λ _. tt))) g.faces (speaks_one n (rule g) g (rises_of g is)))

      mode_of : (g : Rows K) → view g ≡ V → g.mode ≡ V.mode
      mode_of g is = ap (λ (v : View). v.mode) is

      table_is : (g : Rows K) (region : Region) → view g ≡ V → table_of g region ≡ table_in V.trees region
      unfolding table_of
      table_is g region is = ap (λ (v : View). table_in v.trees region) is

      -- ---- tokens

      telling_gives : (source : Region) (e : K) → PartGives (Say (λ g. to_each (tell_to cmp matching g source e) g.faces))
      telling_gives source e = says_each (λ g. tell_to cmp matching g source e) (λ g f is. tell_given cmp matching V.mode trees of g source e f (mode_of g is))

      pub forgetting_gives : (source : Region) (e : K) → PartGives (Say (λ g. to_each (forget_to cmp matching g source e) g.faces))
      forgetting_gives source e = says_each (λ g. forget_to cmp matching g source e) (λ g f is. forget_given cmp matching V.mode trees of g source e f (mode_of g is))

      pub hiding_gives : (source : Region) (e : K) → ((region : Region) → region_eq region source ≡ false → table_in V.trees region ≡ table_in trees region) → Each PartGives (hiding cmp source e)
      unfolding without_own_rows
      hiding_gives source e alike = (
        says_each (λ g. hide_to cmp g source e) (λ g f is. hide_given cmp matching V.mode trees of g source e f (mode_of g is) (λ apart. table_is g f.region is ∙ alike f.region apart)),
        ((λ g. refl), tt),
      )

      module _ (alike : (region : Region) → table_in V.trees region ≡ table_in trees region) where
        pub undeclaring_gives : (n id : ℕ) (given_ : Option K) (f : Face K) → Each PartGives (undeclaring cmp matching n id given_ f)
        undeclaring_gives n id given_ f = cases (undeclared cmp matching id given_ f)
          where
            cases : (o : Option K) → Each PartGives (elim o [ None ↦ [] | Some e ↦ Alter (with_face n (unregistered id)) ∷ Say (λ g. to_each (forget_to cmp matching g f.region e) g.faces) ∷ [] ])
            cases None = tt
            cases (Some e) = (beside n (unregistered id) (λ k. refl), (forgetting_gives f.region e, tt))

        pub hiding_undeclared_gives : (id : ℕ) (given_ : Option K) (f : Face K) → Each PartGives (hiding_undeclared cmp matching id given_ f)
        hiding_undeclared_gives id given_ f = cases (undeclared cmp matching id given_ f)
          where
            cases : (o : Option K) → Each PartGives (elim o [ None ↦ [] | Some e ↦ hiding cmp f.region e ])
            cases None = tt
            cases (Some e) = hiding_gives f.region e (λ r _. alike r)

        pub undeclaring_of_gives : (n : ℕ) (source : Option Zid) (given_ : Option K) (f : Face K) → (hat_of V.mode f.region).goes_by_trees ≡ true → Each PartGives (undeclaring_of cmp matching n source given_ f)
        unfolding without_routed
        undeclaring_of_gives n None given_ f routed = tt
        undeclaring_of_gives n (Some zid) None f routed = tt
        undeclaring_of_gives n (Some zid) (Some e) f routed = (
          λ g. refl,
          (
            said_but n (λ g. to_each (unpass_to cmp g f.region zid e) g.faces) (says_each (λ g. unpass_to cmp g f.region zid e) (λ g h is. unpass_given cmp matching V.mode trees of g f.region zid e h routed (table_is g f.region is ∙ alike f.region))),
            (forgetting_gives f.region e, hiding_gives f.region e (λ r _. alike r)),
          ),
        )

        finalising_gives : (n id : ℕ) (interest : InterestRow K) → Each PartGives (finalising cmp matching n id interest)
        finalising_gives n id interest = quiet_parts (finalising cmp matching n id interest) (finalising_says cmp matching (IsForAny cmp matching) (λ k. refl) (λ k. tt) (λ k. tt) n id interest) (beside n (unheld id) (λ k. refl), (tt, (tt, (tt, tt))))

        ending_gives : (n id : ℕ) → Each PartGives (ending n id)
        ending_gives n id = quiet_parts (ending n id) (ending_says cmp matching (IsForAny cmp matching) (λ k. tt) n id) (beside n (ended id) (λ k. refl), (tt, tt))

        pub leaving_gives : (n : ℕ) (f : Face K) → Each PartGives (leaving cmp matching n f)
        leaving_gives n f =
            let gone = λ (row : ℕ × K). undeclaring cmp matching n row.0 None f ++ hiding cmp f.region row.1 in
            let finalises = λ (row : ℕ × InterestRow K). finalising cmp matching n row.0 row.1 in
            let over = flat_map (λ row. ending n row.0) f.pendings in
            each_append PartGives (flat_map gone f.live ++ flat_map finalises f.held) (Alter (with_face n without_asks) ∷ over)
            (each_append PartGives (flat_map gone f.live) (flat_map finalises f.held)
            (each_flat_map PartGives gone f.live (λ row. each_append PartGives (undeclaring cmp matching n row.0 None f) (hiding cmp f.region row.1) (undeclaring_gives n row.0 None f) (hiding_gives f.region row.1 (λ r _. alike r))))
            (each_flat_map PartGives finalises f.held (λ row. finalising_gives n row.0 row.1)))
            (beside n without_asks (λ k. refl), each_flat_map PartGives (λ row. ending n row.0) f.pendings (λ row. ending_gives n row.0))

        module _ (own : (region : Region) (e : K) → of region e V.zid ≡ true) where
          showing_gives : (source : Region) (e : K) → Each PartGives (showing cmp source e)
          showing_gives source e = (
            says_each (λ g. show_to cmp g source e)
                (λ g f is. show_given cmp matching V.mode trees of g source e f (mode_of g is) (table_is g f.region is ∙ alike f.region) (ap (λ (v : View). of f.region e v.zid) is ∙ own f.region e)),
            ((λ g. own_rows_leave cmp view (λ k rows. refl) (filter (is_newly_shown cmp g source e) (router_regions g)) e g), tt),
          )

          pub declaring_gives : (n id : ℕ) (e : K) (f : Face K) → Each PartGives (declaring cmp matching n id e f ++ showing cmp f.region e)
          declaring_gives n id e f = (beside n (registered id e) (λ k. refl), (telling_gives f.region e, showing_gives f.region e))

          pub answering_gives : (n : ℕ) (interest : Option ℕ) (e : K) (f : Face K) → Each PartGives (answering cmp matching n interest e f)
          answering_gives n None e f = tt
          answering_gives n (Some i) e f =
              by_test (has_id i f.pendings)
              (λ here. let says : Each (SaysEach cmp matching (IsForAny cmp matching)) (answering cmp matching n (Some i) e f) = answering_says cmp matching (IsForAny cmp matching) (λ k x j. refl) n (Some i) e f in rw here (any_gives (λ h. to_each (answer_to cmp matching n i e) h.faces) (rw here at says).0, tt))
              (λ here. rw here tt)

          pub declaring_of_gives : (n : ℕ) (zid : Zid) (e : K) (f : Face K) → (hat_of V.mode f.region).goes_by_trees ≡ true → of f.region e zid ≡ true → Each PartGives (declaring_of cmp matching n (Some zid) e f)
          unfolding with_routed
          declaring_of_gives n zid e f routed has = (
            λ g. refl,
            (
              said_but n (λ g. to_each (pass_to cmp g f.region zid e) g.faces) (says_each (λ g. pass_to cmp g f.region zid e) (λ g h is. pass_given cmp matching V.mode trees of g f.region zid e h routed (table_is g f.region is ∙ alike f.region) has)),
              (telling_gives f.region e, showing_gives f.region e),
            ),
          )
