-- The node ids of each call are given by the tables that it leaves.
use Rattle.std.proofs.Common.{◌≡◌, ℕ, ◌+◌, Bool, true, false, not, ◌==◌, ◌&&◌, ◌||◌, if◌then◌else◌, List, [], ◌∷◌, ◌++◌, map, filter, Option, Some, None, refl, sym, ap, ◌∙◌, subst, append-nil}
use Rattle.std.proofs.lemmas.Bool.{and_parts, or_left}
use Rattle.std.specs.Cmp.{IsTotalOrder}
use Rattle.std.specs.List.{flat_map}
use Rattle.std.specs.declared.cmp.Ordering.{Ordering}
use Rattle.zt_region.specs.declared.region.Bound.{Bound}
use Rattle.zt_region.specs.declared.region.Region.{Region}
use Rattle.zt_region.specs.declared.region.WhatAmI.{WhatAmI}
use Rattle.zt_region.specs.declared.region.Zid.{Zid}
use Rattle.zt_region.specs.Region.{region_eq, region_eq-same, zid_eq, zid_eq-refl}
use Rattle.zt_protocol.specs.Plain.{PlainCall, NewSession, NewTransport, DeclareToken, UndeclareToken, Interest, InterestFinal, DeclareFinal, CloseFace, Expire, SetTrees, SetEntities, Trees}
use Rattle.zt_protocol.specs.declared.messages.Message.{Message}
use Rattle.zt_protocol.specs.declared.messages.Message.TheVariants as message
use Rattle.zt_model.specs.Closing.{closing, leaving, without_face}
use Rattle.zt_model.specs.Hat.{hat_of, hat_of_face}
use Rattle.zt_model.specs.Hearing.{messages_for, rows_heard}
use Rattle.zt_model.specs.Lists.{is_among}
use Rattle.zt_model.specs.Parts.{unsaid_to}
use Rattle.zt_model.specs.Refusals.{call_causes, first_cause}
use Rattle.zt_model.specs.Routing.{face_opened, interests_from, opened, opening_final, opening_interests, opening_tokens, tokens_from}
use Rattle.zt_model.specs.Rows.{Face, RoutedRow, Rows}
use Rattle.zt_model.specs.Says.{Alter, Part, Say, Sends, altered, altered_by, answering, declaring, declaring_of, find_face, forget_to, hiding_undeclared, is_routed, parts_of, registers, said, said_by, to_each, to_face, undeclaring, undeclaring_of}
use Rattle.zt_model.specs.Strategy.{is_region_of}
use Rattle.zt_model.specs.Transcript.{Each}
use Rattle.zt_model.specs.Trees.{counted_table, forgetting, greet_to, hiding, is_child, is_face_of_router, is_newly_shown, left_out, routed_expressions, routed_order, router_regions, row_at, routers_in_order, showing, source_of, table_of, with_routed, with_table, without_left_out}
use Rattle.zt_model.specs.Visible.{visible_expressions}
use Rattle.zt_laws.specs.Shown.{is_from_other}
use Rattle.zt_laws.specs.Sound.{RiseFrom, opens_face, rows_after_call}
use Rattle.zt_laws.proofs.Calls.{no_cause}
use Rattle.zt_laws.proofs.Lists.{each_always, each_append, each_both, each_filter, each_map, each_weaker, never, of_cond}
use Rattle.zt_laws.proofs.Hearing.{messages_for-append, messages_for_each}
use Rattle.zt_laws.proofs.PartsOrder.{altered_by_last, each_flat_map, each_message_for, each_of_map, said_by_last}
use Rattle.zt_theorem_soundness.specs.Ran.{ran}
use Rattle.zt_theorem_soundness.proofs.CallsRun.{call_runs}
use Rattle.zt_theorem_soundness.proofs.Running.{ran-append, said_by-append}
use Rattle.zt_theorem_visibility.proofs.Saying.{declare_final_says, expiry_says, interest_final_says, interest_says, interests_say, opening_final_says, tokens_say}
use Rattle.zt_theorem_exact_messages.specs.Nodes.{is_child_of, number_listed}
use Rattle.zt_theorem_exact_messages.proofs.Given.{Given, HasNoNode, IsForAny, child_given, given_any, given_unrouted, stands, table_in}
use Rattle.zt_theorem_exact_messages.proofs.NodeParts.{AllGiven, PartGives, View, Who, altered_gives, answering_gives, declaring_gives, declaring_of_gives, forgetting_gives, hiding_gives, hiding_undeclared_gives, leaving_gives, ran_gives, rise_of_map, rise_to_map, said_gives, says_one, undeclaring_gives, undeclaring_of_gives, unsaid_gives, view, view_heard, who_of}
use Rattle.zt_theorem_exact_messages.proofs.Tables.{added_stands, expressions_stand, put_other, routers_listed}

module _ {K : Type 0} (cmp : K → K → Ordering) (matching : K → K → Bool) where
  abbrev Test : Type 0
  Test = Region → K → Zid → Bool

  -- what is said to the faces of a gateway is given by its tables
  abbrev pub FacesGiven : (Rows K → Test) → Sends K → Rows K → Type 0
  FacesGiven of ss h = Each (λ f. Each (Given cmp matching h.mode h.trees (of h) f.region f.zid) (messages_for f.number ss)) h.faces

  -- what parts say, by what they leave
  abbrev pub PartsGiven : (Rows K → Test) → List (Part K) → Rows K → Type 0
  PartsGiven of ps g = FacesGiven of (said_by cmp matching ps g) (rows_heard cmp (said_by cmp matching ps g) (altered_by cmp matching ps g))

  abbrev pub CallGiven : (Rows K → Test) → PlainCall K → Rows K → Type 0
  CallGiven of c g = FacesGiven of (said cmp matching c g) (rows_after_call cmp matching c g)

  -- from a view of the rows that are left
  of_view : (of : Rows K → Test) (ss : Sends K) (h : Rows K) (V : View) → view h ≡ V → AllGiven cmp matching V V.trees (of h) ss → FacesGiven of ss h
  of_view of ss h V is all =
      each_of_map (λ u. Each (Given cmp matching h.mode h.trees (of h) u.region u.zid) (messages_for u.number ss)) who_of h.faces
      (subst (λ (v : View). Each (λ u. Each (Given cmp matching v.mode v.trees (of h) u.region u.zid) (messages_for u.number ss)) v.who) (sym is) all)

  abbrev Rises : Rows K → Type 0
  Rises g = RiseFrom (λ f. f.number) 1 g.faces

  -- parts that leave the view
  given_if : (of : Rows K → Test) (ps : List (Part K)) (g : Rows K) → view (altered_by cmp matching ps g) ≡ view g
      → (let h = rows_heard cmp (said_by cmp matching ps g) (altered_by cmp matching ps g) in Each (PartGives cmp matching (view g) g.trees (of h)) ps) → PartsGiven of ps g
  given_if of ps g still gives =
      let ss = said_by cmp matching ps g in
      let h = rows_heard cmp ss (altered_by cmp matching ps g) in
      of_view of ss h (view g) (view_heard cmp matching ss (altered_by cmp matching ps g) ∙ still) (said_gives cmp matching (view g) g.trees (of h) ps g gives refl)

  -- whatever rows the test reads
  given_anyhow : (of : Rows K → Test) (ps : List (Part K)) (g : Rows K) → ((test : Test) → Each (PartGives cmp matching (view g) g.trees test) ps) → PartsGiven of ps g
  given_anyhow of ps g gives = given_if of ps g (altered_gives cmp matching (view g) g.trees (λ r e z. true) ps g (gives (λ r e z. true))) (gives (of (rows_heard cmp (said_by cmp matching ps g) (altered_by cmp matching ps g))))

  nothing_given : (of : Rows K → Test) (g : Rows K) → PartsGiven of [] g
  nothing_given of g = given_anyhow of [] g (λ test. tt)

  -- where only what is for any face is said
  any_said : (of : Rows K → Test) (c : PlainCall K) (g : Rows K) → Each (λ s. IsForAny cmp matching s.1) (said cmp matching c g) → CallGiven of c g
  any_said of c g any =
      let ss = said cmp matching c g in
      let h = rows_after_call cmp matching c g in
      each_always (λ f. Each (Given cmp matching h.mode h.trees (of h) f.region f.zid) (messages_for f.number ss))
      (λ f. each_weaker (IsForAny cmp matching) (Given cmp matching h.mode h.trees (of h) f.region f.zid) (λ m one. given_any cmp matching h.mode h.trees (of h) f.region f.zid m one) (messages_for f.number ss) (each_message_for cmp (IsForAny cmp matching) f.number ss any)) h.faces

  heard_zid : (ss : Sends K) (g : Rows K) → (rows_heard cmp ss g).zid ≡ g.zid
  unfolding rows_heard
  heard_zid ss g = refl

  heard_routed : (ss : Sends K) (g : Rows K) → (rows_heard cmp ss g).routed ≡ g.routed
  unfolding rows_heard
  heard_routed ss g = refl

  no_tokens_of : (next : ℕ) (es : List K) → es ≡ [] → tokens_from next es ≡ []
  unfolding tokens_from
  no_tokens_of next es none_ = ap (tokens_from next) none_

  -- ---- a declaration

  own_stands : (h : Rows K) (zid : Zid) (region : Region) (e : K) → h.zid ≡ zid → stands cmp matching h region e zid ≡ true
  own_stands h zid region e is = or_left (zid_eq zid h.zid) _ (ap (zid_eq zid) is ∙ zid_eq-refl zid)

  module _ (total : IsTotalOrder cmp) where
    added : (ss : Sends K) (n : ℕ) (zid : Zid) (e : K) (f : Face K) (g : Rows K) → stands cmp matching (rows_heard cmp ss (altered_by cmp matching (declaring_of cmp matching n (Some zid) e f) g)) f.region e zid ≡ true
    unfolding rows_heard altered_by
    added ss n zid e f g =
        let k = with_routed cmp f.region zid e g in
        added_stands cmp matching total (filter (is_newly_shown cmp k f.region e) (router_regions k)) f.region zid e g

    -- parts of a declaration, by a test that the gateway's own rows pass
    declared_given : (ps : List (Part K)) (g : Rows K) → ((test : Test) → ((region : Region) (e : K) → test region e g.zid ≡ true) → (let h = rows_heard cmp (said_by cmp matching ps g) (altered_by cmp matching ps g) in ((region : Region) (e : K) (zid : Zid) → stands cmp matching h region e zid ≡ true → test region e zid ≡ true)) → Each (PartGives cmp matching (view g) g.trees test) ps) → PartsGiven (stands cmp matching) ps g
    declared_given ps g gives =
        let h = rows_heard cmp (said_by cmp matching ps g) (altered_by cmp matching ps g) in
        let still = altered_gives cmp matching (view g) g.trees (λ r e z. true) ps g (gives (λ r e z. true) (λ r e. refl) (λ r e z _. refl)) in
        let is : view h ≡ view g = view_heard cmp matching (said_by cmp matching ps g) (altered_by cmp matching ps g) ∙ still in
        given_if (stands cmp matching) ps g still (gives (stands cmp matching h) (λ r e. own_stands h g.zid r e (ap (λ (v : View). v.zid) is)) (λ r e z there. there))

    declaration_given : (n id node : ℕ) (e : K) (interest : Option ℕ) (g : Rows K) → Rises g → PartsGiven (stands cmp matching) (parts_of cmp matching (DeclareToken n id e node interest) g) g
    unfolding parts_of
    declaration_given n id node e interest g rises = cases (find_face n g)
      where
        up : RiseFrom (λ u. u.number) 1 (view g).who
        up = rise_to_map 1 g.faces rises

        plain : Face K → List (Part K)
        plain f = if registers f interest then declaring cmp matching n id e f ++ showing cmp f.region e else []

        by_source : (f : Face K) → is_routed g f ≡ true → (o : Option Zid) → PartsGiven (stands cmp matching) (declaring_of cmp matching n o e f) g
        by_source f routed None = nothing_given (stands cmp matching) g
        by_source f routed (Some zid) =
            let ps = declaring_of cmp matching n (Some zid) e f in
            declared_given ps g
            (λ test own kept. declaring_of_gives cmp matching (view g) g.trees test up (λ r. refl) own n zid e f routed (kept f.region e zid (added (said_by cmp matching ps g) n zid e f g)))

        cases : (o : Option (Face K)) → PartsGiven (stands cmp matching) (elim o [ None ↦ [] | Some f ↦ if is_routed g f then declaring_of cmp matching n (source_of g f node) e f else answering cmp matching n interest e f ++ (if registers f interest then declaring cmp matching n id e f ++ showing cmp f.region e else []) ]) g
        cases None = nothing_given (stands cmp matching) g
        cases (Some f) =
            of_cond (λ ps. PartsGiven (stands cmp matching) ps g) (is_routed g f) (declaring_of cmp matching n (source_of g f node) e f) (answering cmp matching n interest e f ++ plain f)
            (λ routed. by_source f routed (source_of g f node))
            (λ _. declared_given (answering cmp matching n interest e f ++ plain f) g
            (λ test own kept. each_append (PartGives cmp matching (view g) g.trees test) (answering cmp matching n interest e f) (plain f)
            (answering_gives cmp matching (view g) g.trees test up (λ r. refl) own n interest e f)
            (of_cond (Each (PartGives cmp matching (view g) g.trees test)) (registers f interest) (declaring cmp matching n id e f ++ showing cmp f.region e) []
            (λ _. declaring_gives cmp matching (view g) g.trees test up (λ r. refl) own n id e f) (λ _. tt))))

    -- ---- a table

    table_opened : (g : Rows K) (region : Region) → table_of g region ≡ table_in g.trees region
    unfolding table_of
    table_opened g region = refl

    stands_alike : (g h : Rows K) (region : Region) (e : K) (zid : Zid) → h.zid ≡ g.zid → h.routed ≡ g.routed → stands cmp matching h region e zid ≡ stands cmp matching g region e zid
    stands_alike g h region e zid zid_ routed_ =
        ap (λ z. by_rows z h.routed) zid_ ∙ ap (λ rows. by_rows g.zid rows) routed_
      where
        by_rows : Zid → List (RoutedRow K) → Bool
        by_rows own rows = zid_eq zid own || is_among (routed_order cmp) (row_at cmp region zid e) (filter (is_from_other own) rows)

    -- a face that is new among a source's children is told with the source's number
    greeting_given : (g h : Rows K) (region : Region) (before : Trees) (f : Face K) → h.zid ≡ g.zid → h.routed ≡ g.routed → (hat_of g.mode region).goes_by_trees ≡ true
        → Each (Given cmp matching g.mode g.trees (stands cmp matching h) f.region f.zid) (greet_to cmp g region before f)
    unfolding greet_to is_child
    greeting_given g h region before f zid_ routed_ routed =
        each_flat (λ r. if region_eq f.region region && (is_child g t r.1 f && not (is_child g before r.1 f)) then map (λ e. message.DeclareToken 0 e None r.0) (routed_expressions cmp g region r.1) else []) (routers_in_order cmp t) (routers_listed cmp g region) one
      where
        t : Trees
        t = table_of g region

        In : Message K → Type 0
        In m = Given cmp matching g.mode g.trees (stands cmp matching h) f.region f.zid m

        each_flat : (ms : ℕ × Zid → List (Message K)) (rs : List (ℕ × Zid)) → Each (λ r. r.0 ≡ number_listed r.1 t) rs → ((r : ℕ × Zid) → r.0 ≡ number_listed r.1 t → Each In (ms r)) → Each In (flat_map ms rs)
        each_flat ms [] listed all = tt
        each_flat ms (r ∷ rs) listed all = each_append In (ms r) (flat_map ms rs) (all r listed.0) (each_flat ms rs listed.1 all)

        table_ : t ≡ table_in g.trees region
        table_ = table_opened g region

        one : (r : ℕ × Zid) → r.0 ≡ number_listed r.1 t → Each In (if region_eq f.region region && (is_child g t r.1 f && not (is_child g before r.1 f)) then map (λ e. message.DeclareToken 0 e None r.0) (routed_expressions cmp g region r.1) else [])
        one r number_ =
            of_cond (Each In) (region_eq f.region region && (is_child g t r.1 f && not (is_child g before r.1 f))) (map (λ e. message.DeclareToken 0 e None r.0) (routed_expressions cmp g region r.1)) []
            (λ both.
            let parts = and_parts (region_eq f.region region) (is_child g t r.1 f && not (is_child g before r.1 f)) both in
            let child = (and_parts _ (is_face_of_router g f) (and_parts (is_child g t r.1 f) (not (is_child g before r.1 f)) parts.1).0).0 in
            each_map In (λ e. message.DeclareToken 0 e None r.0) (routed_expressions cmp g region r.1)
            (each_weaker (λ e. stands cmp matching g region e r.1 ≡ true) (λ e. In (message.DeclareToken 0 e None r.0))
            (λ e there.
            let has : stands cmp matching h region e r.1 ≡ true = stands_alike g h region e r.1 zid_ routed_ ∙ there in
            let at_region : Given cmp matching g.mode g.trees (stands cmp matching h) region f.zid (message.DeclareToken 0 e None r.0) =
            ap (λ b. if b then is_child_of (table_in g.trees region) f.zid r.0 (stands cmp matching h region e) else r.0 == 0) routed
            ∙ ap (λ (x : Trees). is_child_of x f.zid r.0 (stands cmp matching h region e)) (sym table_)
            ∙ child_given t (stands cmp matching h region e) r.1 f.zid r.0 child number_ has in
            subst (λ q. Given cmp matching g.mode g.trees (stands cmp matching h) q f.zid (message.DeclareToken 0 e None r.0)) (sym (region_eq-same f.region region parts.0)) at_region)
            (routed_expressions cmp g region r.1) (expressions_stand cmp matching total g region r.1)))
            (λ _. tt)

    -- what a new table makes known: what is gone by the old tables of other regions, and what is new by the new one
    table_given : (region : Region) (t : Trees) (g : Rows K) → Rises g → (hat_of g.mode region).goes_by_trees ≡ true → CallGiven (stands cmp matching) (SetTrees region t) g
    unfolding parts_of ran said_by
    table_given region t g rises routed =
        subst (FacesGiven (stands cmp matching) (said cmp matching (SetTrees region t) g)) (sym (call_runs cmp matching (SetTrees region t) g ∙ ran-append cmp gone new g))
        (subst (λ ss. FacesGiven (stands cmp matching) ss h) (sym (said_by-append cmp matching gone new g))
        (of_view (stands cmp matching) (ss1 ++ (ss2 ++ [])) h V (view_heard cmp matching ss2 k2)
        (each_both (λ u. Each (Given cmp matching g.mode k2.trees (stands cmp matching h) u.region u.zid) (messages_for u.number ss1)) (λ u. Each (Given cmp matching k2.mode k2.trees (stands cmp matching h) u.region u.zid) (messages_for u.number (ss2 ++ []))) (λ u. Each (Given cmp matching k2.mode k2.trees (stands cmp matching h) u.region u.zid) (messages_for u.number (ss1 ++ (ss2 ++ []))))
        (λ u one two.
        subst (Each (Given cmp matching k2.mode k2.trees (stands cmp matching h) u.region u.zid)) (sym (messages_for-append u.number ss1 (ss2 ++ [])))
        (each_append (Given cmp matching k2.mode k2.trees (stands cmp matching h) u.region u.zid) (messages_for u.number ss1) (messages_for u.number (ss2 ++ []))
        (subst (λ w. Each (Given cmp matching w k2.trees (stands cmp matching h) u.region u.zid) (messages_for u.number ss1)) (sym mode_) one) two))
        V.who (subst (λ us. Each (λ u. Each (Given cmp matching g.mode k2.trees (stands cmp matching h) u.region u.zid) (messages_for u.number ss1)) us) (sym who_) gone_all) new_all)))
      where
        counted : Trees
        counted = counted_table t

        gone : List (Part K)
        gone = Alter (without_left_out cmp region counted) ∷ forgetting cmp matching region (left_out cmp region counted g)

        greets : Rows K → Sends K
        greets x = to_each (greet_to cmp x region (table_of g region)) x.faces

        new : List (Part K)
        new = Alter (with_table cmp region t) ∷ Say greets ∷ []

        ss1 : Sends K
        ss1 = said_by cmp matching gone g

        k : Rows K
        k = ran cmp gone g

        k2 : Rows K
        k2 = with_table cmp region t k

        ss2 : Sends K
        ss2 = greets k2

        h : Rows K
        h = rows_heard cmp ss2 k2

        V : View
        V = view k2

        up : RiseFrom (λ u. u.number) 1 (view g).who
        up = rise_to_map 1 g.faces rises

        gone_gives : (trees : List (Region × Trees)) (test : Test) → ((r : Region) → region_eq r region ≡ false → table_in g.trees r ≡ table_in trees r) → Each (PartGives cmp matching (view g) trees test) gone
        gone_gives trees test alike = (
          (λ x. refl),
          each_flat_map (PartGives cmp matching (view g) trees test) (λ e. Say (λ x. to_each (forget_to cmp matching x region e) x.faces) ∷ hiding cmp region e) (left_out cmp region counted g)
              (λ e. (forgetting_gives cmp matching (view g) trees test up region e, hiding_gives cmp matching (view g) trees test up region e alike)),
        )

        k_is : view k ≡ view g
        k_is = ran_gives cmp matching (view g) g.trees (λ r e z. true) gone g (gone_gives g.trees (λ r e z. true) (λ r _. refl))

        mode_ : k2.mode ≡ g.mode
        mode_ = ap (λ (v : View). v.mode) k_is

        who_ : V.who ≡ (view g).who
        who_ = ap (λ (v : View). v.who) k_is

        other_tables : (r : Region) → region_eq r region ≡ false → table_in g.trees r ≡ table_in k2.trees r
        other_tables r apart =
            ap (λ (v : View). table_in v.trees r) (sym k_is)
            ∙ ap (λ (o : Option (Region × Trees)). elim o [ None ↦ record { routers = []; links = []; children = [] } | Some x ↦ counted_table x.1 ]) (sym (put_other r region t k.trees apart))

        gone_all : AllGiven cmp matching (view g) k2.trees (stands cmp matching h) ss1
        gone_all = said_gives cmp matching (view g) k2.trees (stands cmp matching h) gone g (gone_gives k2.trees (stands cmp matching h) other_tables) refl

        -- what a rule gives for the faces of a gateway
        each_to : (x : Rows K) → RiseFrom (λ u. u.number) 1 (view x).who → ((f : Face K) → Each (Given cmp matching k2.mode k2.trees (stands cmp matching h) f.region f.zid) (greet_to cmp x region (table_of g region) f))
            → Each (λ u. Each (Given cmp matching k2.mode k2.trees (stands cmp matching h) u.region u.zid) (messages_for u.number (greets x))) (view x).who
        each_to x rises_ one =
            each_map (λ u. Each (Given cmp matching k2.mode k2.trees (stands cmp matching h) u.region u.zid) (messages_for u.number (greets x))) who_of x.faces
            (each_weaker (λ f. messages_for f.number (greets x) ≡ greet_to cmp x region (table_of g region) f) (λ f. Each (Given cmp matching k2.mode k2.trees (stands cmp matching h) f.region f.zid) (messages_for f.number (greets x)))
            (λ f says. subst (Each (Given cmp matching k2.mode k2.trees (stands cmp matching h) f.region f.zid)) (sym says) (one f)) x.faces (messages_for_each 1 (greet_to cmp x region (table_of g region)) x.faces (rise_of_map 1 x.faces rises_)))

        new_all : AllGiven cmp matching V k2.trees (stands cmp matching h) (ss2 ++ [])
        new_all =
            each_weaker (λ u. Each (Given cmp matching k2.mode k2.trees (stands cmp matching h) u.region u.zid) (messages_for u.number ss2)) (λ u. Each (Given cmp matching k2.mode k2.trees (stands cmp matching h) u.region u.zid) (messages_for u.number (ss2 ++ [])))
            (λ u one. subst (λ ss. Each (Given cmp matching k2.mode k2.trees (stands cmp matching h) u.region u.zid) (messages_for u.number ss)) (sym (append-nil ss2)) one) V.who
            (each_to k2 (subst (λ us. RiseFrom (λ u. u.number) 1 us) (sym who_) up)
            (λ f. greeting_given k2 h region (table_of g region) f (heard_zid ss2 k2) (heard_routed ss2 k2) (ap (λ w. (hat_of w region).goes_by_trees) mode_ ∙ routed)))

    -- ---- other calls

    undeclaration_given : (of : Rows K → Test) (n id node : ℕ) (given_ : Option K) (g : Rows K) → Rises g → PartsGiven of (parts_of cmp matching (UndeclareToken n id given_ node) g) g
    unfolding parts_of
    undeclaration_given of n id node given_ g rises = cases (find_face n g)
      where
        up : RiseFrom (λ u. u.number) 1 (view g).who
        up = rise_to_map 1 g.faces rises

        cases : (o : Option (Face K)) → PartsGiven of (elim o [ None ↦ [] | Some f ↦ if is_routed g f then undeclaring_of cmp matching n (source_of g f node) given_ f else undeclaring cmp matching n id given_ f ++ hiding_undeclared cmp matching id given_ f ]) g
        cases None = nothing_given of g
        cases (Some f) =
            of_cond (λ ps. PartsGiven of ps g) (is_routed g f) (undeclaring_of cmp matching n (source_of g f node) given_ f) (undeclaring cmp matching n id given_ f ++ hiding_undeclared cmp matching id given_ f)
            (λ routed. given_anyhow of (undeclaring_of cmp matching n (source_of g f node) given_ f) g (λ test. undeclaring_of_gives cmp matching (view g) g.trees test up (λ r. refl) n (source_of g f node) given_ f routed))
            (λ _. given_anyhow of (undeclaring cmp matching n id given_ f ++ hiding_undeclared cmp matching id given_ f) g
            (λ test. each_append (PartGives cmp matching (view g) g.trees test) (undeclaring cmp matching n id given_ f) (hiding_undeclared cmp matching id given_ f)
            (undeclaring_gives cmp matching (view g) g.trees test up (λ r. refl) n id given_ f) (hiding_undeclared_gives cmp matching (view g) g.trees test up (λ r. refl) id given_ f)))

    -- a face that is opened is told nothing by trees
    pub opening_given : (of : Rows K → Test) (zid : Zid) (whatami : WhatAmI) (region : Region) (bound : Bound) (first : ℕ) (g : Rows K) → Rises (opened zid whatami region bound first g) → CallGiven of (NewTransport zid whatami region bound first) g
    unfolding parts_of said_by altered_by
    opening_given of zid whatami region bound first g rises =
        given_anyhow of (Say (λ x. to_face n (λ f. interests_from f.next (opening_interests cmp matching x f)) x) ∷ Say (λ x. to_face n (λ f. tokens_from f.next (opening_tokens cmp matching x f)) x) ∷ Say (to_face n (opening_final cmp matching)) ∷ []) one
        (λ test. (
          says_one cmp matching (view one) one.trees test up n (λ x f. interests_from f.next (opening_interests cmp matching x f))
              (λ x f is. each_any test f (interests_from f.next (opening_interests cmp matching x f)) (interests_say cmp matching (IsForAny cmp matching) (λ i m o e. tt) f.next (opening_interests cmp matching x f))),
          (
            says_one cmp matching (view one) one.trees test up n (λ x f. tokens_from f.next (opening_tokens cmp matching x f))
                (λ x f is. given_unrouted cmp matching one.mode one.trees test x f (tokens_from f.next (opening_tokens cmp matching x f)) (ap (λ (v : View). v.mode) is) (λ routed. no_tokens x f routed) (tokens_say cmp matching (HasNoNode cmp matching) (λ i e. refl) f.next (opening_tokens cmp matching x f))),
            (
              says_one cmp matching (view one) one.trees test up n (λ x f. opening_final cmp matching f) (λ x f is. each_any test f (opening_final cmp matching f) (opening_final_says cmp matching (IsForAny cmp matching) (λ i. tt) f)),
              tt,
            ),
          ),
        ))
      where
        n : ℕ
        n = g.made + 1

        one : Rows K
        one = opened zid whatami region bound first g

        up : RiseFrom (λ u. u.number) 1 (view one).who
        up = rise_to_map 1 one.faces rises

        each_any : (test : Test) (f : Face K) (ms : List (Message K)) → Each (IsForAny cmp matching) ms → Each (Given cmp matching one.mode one.trees test f.region f.zid) ms
        each_any test f ms any = each_weaker (IsForAny cmp matching) (Given cmp matching one.mode one.trees test f.region f.zid) (λ m here. given_any cmp matching one.mode one.trees test f.region f.zid m here) ms any

        no_tokens : (x : Rows K) (f : Face K) → is_routed x f ≡ true → tokens_from f.next (opening_tokens cmp matching x f) ≡ []
        no_tokens x f routed = no_tokens_of f.next (opening_tokens cmp matching x f) (ap (λ b. if not b && (hat_of_face x f).is_told_unasked f.region then visible_expressions cmp x f.region else []) routed)

    -- a face that is closed: what the others are told, and how they stay
    closed_gives : (test : Test) (n : ℕ) (f : Face K) (g : Rows K) → Rises g → (let parts : List (Part K) = if is_routed g f then [] else unsaid_to n (leaving cmp matching n f) in Each (PartGives cmp matching (view g) g.trees test) parts)
    closed_gives test n f g rises =
        of_cond (Each (PartGives cmp matching (view g) g.trees test)) (is_routed g f) [] (unsaid_to n (leaving cmp matching n f)) (λ _. tt)
        (λ _. unsaid_gives cmp matching (view g) g.trees test n (leaving cmp matching n f) (leaving_gives cmp matching (view g) g.trees test (rise_to_map 1 g.faces rises) (λ r. refl) n f))

    -- what holds of where each face is holds after a closing too
    abbrev Holds : (WhatAmI → List (Region × Trees) → Who → Type 0) → Rows K → Type 0
    Holds P g = Each (λ f. P g.mode g.trees (who_of f)) g.faces

    holds_by_view : (P : WhatAmI → List (Region × Trees) → Who → Type 0) (g h : Rows K) → view h ≡ view g → Holds P g → Holds P h
    holds_by_view P g h is all =
        each_of_map (λ u. P h.mode h.trees u) who_of h.faces
        (subst (λ (v : View). Each (λ u. P v.mode v.trees u) v.who) (sym is) (each_map (λ u. P g.mode g.trees u) who_of g.faces all))

    pub closing_holds : (P : WhatAmI → List (Region × Trees) → Who → Type 0) (n : ℕ) (g : Rows K) → Rises g → Holds P g → Holds P (rows_after_call cmp matching (CloseFace n) g)
    unfolding parts_of altered_by
    closing_holds P n g rises all =
        let k = altered cmp matching (CloseFace n) g in
        holds_by_view P k (rows_after_call cmp matching (CloseFace n) g) (view_heard cmp matching (said cmp matching (CloseFace n) g) k) (cases (find_face n g))
      where
        cases : (o : Option (Face K)) → Holds P (altered_by cmp matching (elim o [ None ↦ [] | Some f ↦ closing cmp matching n g f ]) g)
        cases None = all
        cases (Some f) =
            let parts : List (Part K) = if is_routed g f then [] else unsaid_to n (leaving cmp matching n f) in
            let before = altered_by cmp matching parts g in
            subst (Holds P) (sym (altered_by_last cmp matching parts (without_face n) g))
            (each_filter (λ x. P before.mode before.trees (who_of x)) (λ x. not (n == x.number)) before.faces
            (holds_by_view P g before (altered_gives cmp matching (view g) g.trees (λ r e z. true) parts g (closed_gives (λ r e z. true) n f g rises)) all))

    pub opening_holds : (P : WhatAmI → List (Region × Trees) → Who → Type 0) (zid : Zid) (whatami : WhatAmI) (region : Region) (bound : Bound) (first : ℕ) (g : Rows K) → Holds P g → P g.mode g.trees (record { number = g.made + 1; region = region; zid = zid }) → Holds P (rows_after_call cmp matching (NewTransport zid whatami region bound first) g)
    unfolding parts_of altered_by
    opening_holds P zid whatami region bound first g all own =
        let c : PlainCall K = NewTransport zid whatami region bound first in
        let k = altered cmp matching c g in
        holds_by_view P k (rows_after_call cmp matching c g) (view_heard cmp matching (said cmp matching c g) k)
        (each_append (λ f. P g.mode g.trees (who_of f)) g.faces (face_opened zid whatami region bound first g ∷ []) all (own, tt))

    closing_says : (test : Test) (n : ℕ) (g : Rows K) → Rises g → Each (λ f. Each (Given cmp matching g.mode g.trees test f.region f.zid) (messages_for f.number (said cmp matching (CloseFace n) g))) g.faces
    unfolding parts_of said_by messages_for
    closing_says test n g rises = cases (find_face n g)
      where
        cases : (o : Option (Face K)) → Each (λ f. Each (Given cmp matching g.mode g.trees test f.region f.zid) (messages_for f.number (said_by cmp matching (elim o [ None ↦ [] | Some f ↦ closing cmp matching n g f ]) g))) g.faces
        cases None = each_always (λ f. Unit {0}) (λ f. tt) g.faces
        cases (Some f) =
            let parts : List (Part K) = if is_routed g f then [] else unsaid_to n (leaving cmp matching n f) in
            subst (λ ss. Each (λ x. Each (Given cmp matching g.mode g.trees test x.region x.zid) (messages_for x.number ss)) g.faces) (sym (said_by_last cmp matching parts (without_face n) g))
            (each_of_map (λ u. Each (Given cmp matching g.mode g.trees test u.region u.zid) (messages_for u.number (said_by cmp matching parts g))) who_of g.faces
            (said_gives cmp matching (view g) g.trees test parts g (closed_gives test n f g rises) refl))

    pub closing_given : (test : Test) (n : ℕ) (g : Rows K) → Rises g → CallGiven (λ h. test) (CloseFace n) g
    closing_given test n g rises = closing_holds (λ w trees u. Each (Given cmp matching w trees test u.region u.zid) (messages_for u.number (said cmp matching (CloseFace n) g))) n g rises (closing_says test n g rises)

    -- a table is set in a router region alone
    sets_by_trees : (spent : Bool) (region : Region) (t : Trees) (g : Rows K) → first_cause (call_causes cmp matching spent (SetTrees region t) g) ≡ None → (hat_of g.mode region).goes_by_trees ≡ true
    unfolding call_causes
    sets_by_trees spent region t g accepted =
        let one = no_cause _ _ _ accepted in
        let two = no_cause _ _ _ one.1 in
        by_trees ((hat_of g.mode region).goes_by_trees) (not (is_region_of g.regions region)) two.0
      where
        by_trees : (b a : Bool) → (a || not b) ≡ false → b ≡ true
        by_trees true a none_ = refl
        by_trees false true none_ = never refl none_
        by_trees false false none_ = never refl none_

    -- Node ids of what a call says are given by the tables that it leaves.
    pub call_given : (spent : Bool) (c : PlainCall K) (g : Rows K) → opens_face c ≡ false → first_cause (call_causes cmp matching spent c g) ≡ None → Rises g → CallGiven (stands cmp matching) c g
    unfolding parts_of said_by
    call_given spent (NewSession first) g still accepted rises = never refl still
    call_given spent (NewTransport zid whatami region bound first) g still accepted rises = never refl still
    call_given spent (DeclareToken n id e node interest) g still accepted rises = declaration_given n id node e interest g rises
    call_given spent (UndeclareToken n id given_ node) g still accepted rises = undeclaration_given (stands cmp matching) n id node given_ g rises
    call_given spent (Interest n id mode options e) g still accepted rises = any_said (stands cmp matching) (Interest n id mode options e) g (interest_says cmp matching (IsForAny cmp matching) (λ k m o x. tt) (λ k x i. tt) (λ k x info i. tt) (λ k x i. refl) (λ k. tt) n id mode options e g)
    call_given spent (InterestFinal n id) g still accepted rises = any_said (stands cmp matching) (InterestFinal n id) g (interest_final_says cmp matching (IsForAny cmp matching) (λ k. refl) (λ k. tt) (λ k. tt) n id g)
    call_given spent (DeclareFinal n id) g still accepted rises = any_said (stands cmp matching) (DeclareFinal n id) g (declare_final_says cmp matching (IsForAny cmp matching) (λ k. tt) n id g)
    call_given spent (CloseFace n) g still accepted rises = closing_given (stands cmp matching (rows_after_call cmp matching (CloseFace n) g)) n g rises
    call_given spent (Expire now) g still accepted rises = any_said (stands cmp matching) (Expire now) g (expiry_says cmp matching (IsForAny cmp matching) (λ k. tt) now g)
    call_given spent (SetTrees region t) g still accepted rises = table_given region t g rises (sets_by_trees spent region t g accepted)
    call_given spent (SetEntities n subscribers queryables) g still accepted rises = any_said (stands cmp matching) (SetEntities n subscribers queryables) g tt
