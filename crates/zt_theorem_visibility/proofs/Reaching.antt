-- A declaration reaches each face that wants the expression.
use Rattle.std.proofs.Common.{◌≡◌, ℕ, Bool, true, false, not, if◌then◌else◌, ◌&&◌, ◌==◌, List, [], ◌∷◌, ◌++◌, filter, Option, Some, None, is_none, refl, sym, ap, ◌∙◌, subst}
use Rattle.std.proofs.lemmas.Bool.{or_right}
use Rattle.std.specs.Cmp.{IsTotalOrder}
use Rattle.std.specs.declared.cmp.Ordering.{Ordering}
use Rattle.zt_region.specs.declared.region.Region.{Region}
use Rattle.zt_region.specs.declared.region.WhatAmI.{WhatAmI}
use Rattle.zt_region.specs.declared.region.Zid.{Zid}
use Rattle.zt_region.specs.Admission.{admits}
use Rattle.zt_protocol.specs.Plain.{DeclareToken}
use Rattle.zt_model.specs.Hat.{hat_of}
use Rattle.zt_model.specs.Hearing.{heard_all, messages_for, rows_heard}
use Rattle.zt_model.specs.Lists.{has_id, same}
use Rattle.zt_model.specs.Promises.{TellsWhoWants}
use Rattle.zt_model.specs.Refusals.{call_causes, first_cause, is_unknown_router}
use Rattle.zt_model.specs.Rows.{Face, Rows}
use Rattle.zt_model.specs.Says.{Part, Say, Sends, answering, declaring, declaring_of, find_face, is_routed, is_told, parts_of, registered, registers, tell_to, to_each, with_face}
use Rattle.zt_model.specs.Seen.{is_interested, sees}
use Rattle.zt_model.specs.Telling.{answer_to}
use Rattle.zt_model.specs.Transcript.{Each}
use Rattle.zt_model.specs.Trees.{is_newly_shown, pass_to, router_regions, show_to, showing, source_of, with_own_rows, with_routed}
use Rattle.zt_model.specs.Visible.{keeps, shows}
use Rattle.zt_model.specs.Wants.{seeks, wants}
use Rattle.zt_laws.specs.Effects.{told_anew}
use Rattle.zt_laws.specs.Order.{RowsAreInOrder}
use Rattle.zt_laws.specs.Sound.{IsToldInOrder, rows_after_call}
use Rattle.zt_laws.proofs.Calls.{no_cause, not_on_face}
use Rattle.zt_laws.proofs.CallsOrder.{orderly_telling, quiet_with_routed}
use Rattle.zt_laws.proofs.Hearing.{heard_all-region}
use Rattle.zt_laws.proofs.Keys.{same_itself}
use Rattle.zt_laws.proofs.Lists.{by_test, each_both, each_filter, each_map, each_weaker, never, of_cond}
use Rattle.zt_laws.proofs.PartsOrder.{orderly_each, quiet_face}
use Rattle.zt_laws.proofs.Seen.{interested_is, sees_is}
use Rattle.zt_laws.proofs.Telling.{heard_tell}
use Rattle.zt_laws.proofs.Told.{names-append}
use Rattle.zt_laws.proofs.ToldOrder.{DrawsNothing, in_order_answer}
use Rattle.zt_laws.proofs.Visible.{rise_put}
use Rattle.zt_theorem_soundness.specs.Ran.{ran}
use Rattle.zt_theorem_soundness.proofs.CallsRun.{call_runs, own_rows_leave}
use Rattle.zt_theorem_soundness.proofs.Going.{IsQuietMessage, drawn_if_quiet, ordered_altered, ordered_heard, silent_ordered, speaks_each}
use Rattle.zt_theorem_soundness.proofs.Parts.{each_pass, nobody}
use Rattle.zt_theorem_soundness.proofs.Running.{ran-append}

module _ {K : Type 0} (cmp : K → K → Ordering) (matching : K → K → Bool) where
  -- the face keeps the expression, if it wants it and may be told
  abbrev Reached : Region → K → WhatAmI → List (Region × Region) → Face K → Type 0
  Reached source e mode refused f = (hat_of mode f.region).goes_by_trees ≡ false → wants matching f e ≡ true → admits refused source f.region ≡ true → sees f.region source ≡ true → keeps cmp f e ≡ true

  -- each face of a gateway does
  abbrev Reaches : Region → K → Rows K → Type 0
  Reaches source e g = Each (Reached source e g.mode g.refused) g.faces

  -- as promises read it
  as_promised : (source : Region) (e : K) (g : Rows K) → Reaches source e g → TellsWhoWants cmp matching source e g
  as_promised source e g all =
      each_weaker (Reached source e g.mode g.refused)
      (λ f. is_routed g f ≡ false → is_interested matching f e ≡ true → admits g.refused source f.region ≡ true → sees f.region source ≡ true → keeps cmp f e ≡ true)
      (λ f one plain interested admitted seen. one plain (sym (interested_is matching f e) ∙ interested) admitted seen) g.faces all

  -- a change that leaves faces alone
  reached_rows : (source : Region) (e : K) (g h : Rows K) → h.faces ≡ g.faces → h.mode ≡ g.mode → h.refused ≡ g.refused → Reaches source e g → Reaches source e h
  reached_rows source e g h faces_ mode_ refused_ all =
      subst (λ (fs : List (Face K)). Each (Reached source e h.mode h.refused) fs) (sym faces_)
      (subst (λ (mode : WhatAmI). Each (Reached source e mode h.refused) g.faces) (sym mode_)
      (subst (λ (refused : List (Region × Region)). Each (Reached source e g.mode refused) g.faces) (sym refused_) all))

  -- what faces outside router regions don't hear
  reached_heard : (source : Region) (e : K) (ss : Sends K) (g : Rows K) → Each (λ f. is_routed g f ≡ false → messages_for f.number ss ≡ []) g.faces → Reaches source e g → Reaches source e (rows_heard cmp ss g)
  unfolding rows_heard heard_all
  reached_heard source e ss g none_ all =
      let hears = λ (f : Face K). heard_all cmp g.moment (messages_for f.number ss) f in
      each_map (Reached source e g.mode g.refused) hears g.faces
      (each_both (λ f. is_routed g f ≡ false → messages_for f.number ss ≡ []) (Reached source e g.mode g.refused) (λ f. Reached source e g.mode g.refused (hears f))
      (λ f none reached plain.
      let plain_ : is_routed g f ≡ false = ap (λ (r : Region). (hat_of g.mode r).goes_by_trees) (sym (heard_all-region cmp g.moment (messages_for f.number ss) f)) ∙ plain in
      let same_ : hears f ≡ f = ap (λ ms. heard_all cmp g.moment ms f) (none plain_) in
      subst (Reached source e g.mode g.refused) (sym same_) reached plain)
      g.faces none_ all)

  -- a telling reaches all
  reached_told : (source : Region) (e : K) (g : Rows K) → IsTotalOrder cmp → RowsAreInOrder cmp matching g → Reaches source e (rows_heard cmp (to_each (tell_to cmp matching g source e) g.faces) g)
  unfolding rows_heard seeks
  reached_told source e g total ordered =
      let ss = to_each (tell_to cmp matching g source e) g.faces in
      let hears = λ (f : Face K). heard_all cmp g.moment (messages_for f.number ss) f in
      each_map (Reached source e g.mode g.refused) hears g.faces
      (each_both (λ f. false ≡ false → messages_for f.number ss ≡ tell_to cmp matching g source e f) (λ f. IsToldInOrder cmp f.told f.next) (λ f. Reached source e g.mode g.refused (hears f))
      (λ f one told.
      subst (Reached source e g.mode g.refused) (sym (ap (λ ms. heard_all cmp g.moment ms f) (one refl) ∙ heard_tell cmp matching g.moment g source e f told))
      (of_cond (Reached source e g.mode g.refused) (is_told cmp matching g source e f) (told_anew e f) f
      (λ tells plain wants_ admits_ shows_. names-append cmp e f.told f.next e ∙ or_right (keeps cmp f e) (same cmp e e) (same_itself cmp total e))
      (λ tells_not plain wants_ admits_ shows_.
      by_test (keeps cmp f e) (λ kept. kept)
      (λ unkept.
      let sought : seeks matching g.mode f e ≡ true = or_right ((hat_of g.mode f.region).is_told_unasked f.region) (wants matching f e) wants_ in
      never (tells f plain admits_ (sym (sees_is g.mode f.region source) ∙ shows_) unkept sought) tells_not))))
      g.faces (speaks_each cmp matching nobody (tell_to cmp matching g source e) g ordered) ordered.told)
    where
      tells : (f : Face K) → is_routed g f ≡ false → admits g.refused source f.region ≡ true → shows g.mode f.region source ≡ true → keeps cmp f e ≡ false → seeks matching g.mode f e ≡ true → is_told cmp matching g source e f ≡ true
      tells f plain admits_ shows_ unkept sought =
          ap (λ a. not a && (admits g.refused source f.region && shows g.mode f.region source && not (keeps cmp f e) && seeks matching g.mode f e)) plain
          ∙ ap (λ a. a && shows g.mode f.region source && not (keeps cmp f e) && seeks matching g.mode f e) admits_
          ∙ ap (λ a. true && a && not (keeps cmp f e) && seeks matching g.mode f e) shows_
          ∙ ap (λ a. true && true && not a && seeks matching g.mode f e) unkept
          ∙ ap (λ a. true && true && not false && a) sought

  -- outside router regions nothing is shown
  shows_routed : (region : Region) (x : K) (g : Rows K) (f : Face K) → is_routed g f ≡ false → show_to cmp g region x f ≡ []
  unfolding show_to is_newly_shown
  shows_routed region x g f plain = rw plain refl

  -- what router regions are shown, faces outside of them don't hear
  reached_shown : (source region : Region) (e x : K) (g : Rows K) → RowsAreInOrder cmp matching g → Reaches source e g → Reaches source e (ran cmp (showing cmp region x) g)
  unfolding ran
  reached_shown source region e x g ordered all =
      let h = rows_heard cmp (to_each (show_to cmp g region x) g.faces) g in
      let rs = filter (is_newly_shown cmp h region x) (router_regions h) in
      reached_rows source e h (with_own_rows cmp rs x h)
      (own_rows_leave cmp (λ (k : Rows K). k.faces) (λ k rows. refl) rs x h) (own_rows_leave cmp (λ (k : Rows K). k.mode) (λ k rows. refl) rs x h) (own_rows_leave cmp (λ (k : Rows K). k.refused) (λ k rows. refl) rs x h)
      (reached_heard source e (to_each (show_to cmp g region x) g.faces) g
      (each_weaker (λ f. false ≡ false → messages_for f.number (to_each (show_to cmp g region x) g.faces) ≡ show_to cmp g region x f) (λ f. is_routed g f ≡ false → messages_for f.number (to_each (show_to cmp g region x) g.faces) ≡ [])
      (λ f one plain. one refl ∙ shows_routed region x g f plain) g.faces (speaks_each cmp matching nobody (show_to cmp g region x) g ordered)) all)

  module _ (total : IsTotalOrder cmp) where
    -- the telling, and what comes after it
    reached_telling : (source : Region) (e : K) (g : Rows K) → RowsAreInOrder cmp matching g → Reaches source e (ran cmp (Say (λ h. to_each (tell_to cmp matching h source e) h.faces) ∷ showing cmp source e) g)
    unfolding ran
    reached_telling source e g ordered =
        let k = rows_heard cmp (to_each (tell_to cmp matching g source e) g.faces) g in
        reached_shown source source e e k (ordered_heard cmp matching (λ h. to_each (tell_to cmp matching h source e) h.faces) g (orderly_telling cmp matching total source e) ordered)
        (reached_told source e g total ordered)

    ordered_registered : (n id : ℕ) (e : K) (g : Rows K) → RowsAreInOrder cmp matching g → RowsAreInOrder cmp matching (with_face n (registered id e) g)
    ordered_registered n id e g ordered =
        ordered_altered cmp matching (with_face n (registered id e)) g
        (quiet_face cmp matching n (registered id e) (λ k. refl) (λ k rows. record { live = rise_put id e k.live rows.live; held = rows.held; locals = rows.locals; pendings = rows.pendings; asks = rows.asks })) ordered

    ordered_answering : (n : ℕ) (interest : Option ℕ) (e : K) (from : Face K) (g : Rows K) → RowsAreInOrder cmp matching g → RowsAreInOrder cmp matching (ran cmp (answering cmp matching n interest e from) g)
    unfolding ran
    ordered_answering n None e from g ordered = ordered
    ordered_answering n (Some i) e from g ordered =
        of_cond (λ (parts : List (Part K)). RowsAreInOrder cmp matching (ran cmp parts g)) (has_id i from.pendings) (Say (λ h. to_each (answer_to cmp matching n i e) h.faces) ∷ []) []
        (λ _. ordered_heard cmp matching (λ h. to_each (answer_to cmp matching n i e) h.faces) g (orderly_each cmp matching (λ h f. answer_to cmp matching n i e f) (λ h f told. in_order_answer cmp total matching n i e f told)) ordered)
        (λ _. ordered)

    reached_plain : (n id : ℕ) (e : K) (interest : Option ℕ) (from : Face K) (g : Rows K) → registers from interest ≡ true → RowsAreInOrder cmp matching g
        → Reaches from.region e (ran cmp (answering cmp matching n interest e from ++ (if registers from interest then declaring cmp matching n id e from ++ showing cmp from.region e else [])) g)
    unfolding ran
    reached_plain n id e interest from g registers_ ordered =
        let parts = declaring cmp matching n id e from ++ showing cmp from.region e in
        let h = ran cmp (answering cmp matching n interest e from) g in
        let here : Reaches from.region e (ran cmp parts h) = reached_telling from.region e (with_face n (registered id e) h) (ordered_registered n id e h (ordered_answering n interest e from g ordered)) in
        subst (Reaches from.region e) (sym (ran-append cmp (answering cmp matching n interest e from) (if registers from interest then parts else []) g))
        (subst (λ b. Reaches from.region e (ran cmp (if b then parts else []) h)) (sym registers_) here)

    reached_routed : (n : ℕ) (source : Option Zid) (e : K) (from : Face K) (g : Rows K) → is_none source ≡ false → RowsAreInOrder cmp matching g
        → Reaches from.region e (ran cmp (declaring_of cmp matching n source e from) g)
    unfolding ran
    reached_routed n None e from g known ordered = never refl known
    reached_routed n (Some zid) e from g known ordered =
        let region = from.region in
        let h = with_routed cmp region zid e g in
        let all = to_each (pass_to cmp h region zid e) h.faces in
        let ss = filter (λ s. not (n == s.0)) all in
        let quiet = each_filter (λ s. IsQuietMessage s.1) (λ s. not (n == s.0)) all (each_pass cmp matching h region zid e) in
        reached_telling region e (rows_heard cmp ss h)
        (silent_ordered cmp matching ss h (each_weaker (λ s. IsQuietMessage s.1) (λ s. DrawsNothing s.1) (λ s one. drawn_if_quiet s.1 one) ss quiet)
        (ordered_altered cmp matching (with_routed cmp region zid e) g (quiet_with_routed cmp matching total region zid e) ordered))

    plain_reaches : (n id node : ℕ) (e : K) (interest : Option ℕ) (f : Face K) (g : Rows K) → RowsAreInOrder cmp matching g → find_face n g ≡ Some f → is_routed g f ≡ false → registers f interest ≡ true
        → Reaches f.region e (rows_after_call cmp matching (DeclareToken n id e node interest) g)
    unfolding parts_of
    plain_reaches n id node e interest f g ordered found plain registers_ =
        subst (Reaches f.region e) (sym (call_runs cmp matching (DeclareToken n id e node interest) g ∙ ap (λ ps. ran cmp ps g) (parts_at found)))
        (subst (λ b. Reaches f.region e (ran cmp (if b then declaring_of cmp matching n (source_of g f node) e f else answering cmp matching n interest e f ++ (if registers f interest then declaring cmp matching n id e f ++ showing cmp f.region e else [])) g)) (sym plain)
        (reached_plain n id e interest f g registers_ ordered))
      where
        parts_at : find_face n g ≡ Some f → parts_of cmp matching (DeclareToken n id e node interest) g ≡ (if is_routed g f then declaring_of cmp matching n (source_of g f node) e f else answering cmp matching n interest e f ++ (if registers f interest then declaring cmp matching n id e f ++ showing cmp f.region e else []))
        parts_at is = ap (λ (o : Option (Face K)). elim o [ None ↦ [] | Some k ↦ if is_routed g k then declaring_of cmp matching n (source_of g k node) e k else answering cmp matching n interest e k ++ (if registers k interest then declaring cmp matching n id e k ++ showing cmp k.region e else []) ]) is

    routed_reaches : (spent : Bool) (n id node : ℕ) (e : K) (interest : Option ℕ) (f : Face K) (g : Rows K) → RowsAreInOrder cmp matching g
        → first_cause (call_causes cmp matching spent (DeclareToken n id e node interest) g) ≡ None → find_face n g ≡ Some f → is_routed g f ≡ true
        → Reaches f.region e (rows_after_call cmp matching (DeclareToken n id e node interest) g)
    unfolding parts_of call_causes
    routed_reaches spent n id node e interest f g ordered accepted found routed =
        let one = no_cause _ _ _ accepted in
        let two = no_cause _ _ _ one.1 in
        let three = no_cause _ _ _ two.1 in
        let four = no_cause _ _ _ three.1 in
        let unknown : is_unknown_router node g f ≡ false = not_on_face n g (is_unknown_router node g) f found four.0 in
        let known : is_none (source_of g f node) ≡ false = ap (λ b. b && is_none (source_of g f node)) (sym routed) ∙ unknown in
        subst (Reaches f.region e) (sym (call_runs cmp matching (DeclareToken n id e node interest) g ∙ ap (λ ps. ran cmp ps g) (parts_at found)))
        (subst (λ b. Reaches f.region e (ran cmp (if b then declaring_of cmp matching n (source_of g f node) e f else answering cmp matching n interest e f ++ (if registers f interest then declaring cmp matching n id e f ++ showing cmp f.region e else [])) g)) (sym routed)
        (reached_routed n (source_of g f node) e f g known ordered))
      where
        parts_at : find_face n g ≡ Some f → parts_of cmp matching (DeclareToken n id e node interest) g ≡ (if is_routed g f then declaring_of cmp matching n (source_of g f node) e f else answering cmp matching n interest e f ++ (if registers f interest then declaring cmp matching n id e f ++ showing cmp f.region e else []))
        parts_at is = ap (λ (o : Option (Face K)). elim o [ None ↦ [] | Some k ↦ if is_routed g k then declaring_of cmp matching n (source_of g k node) e k else answering cmp matching n interest e k ++ (if registers k interest then declaring cmp matching n id e k ++ showing cmp k.region e else []) ]) is

    pub plain_reach : (n id node : ℕ) (e : K) (interest : Option ℕ) (f : Face K) (g : Rows K) → RowsAreInOrder cmp matching g → find_face n g ≡ Some f → is_routed g f ≡ false → registers f interest ≡ true
        → TellsWhoWants cmp matching f.region e (rows_after_call cmp matching (DeclareToken n id e node interest) g)
    plain_reach n id node e interest f g ordered found plain registers_ =
        as_promised f.region e (rows_after_call cmp matching (DeclareToken n id e node interest) g) (plain_reaches n id node e interest f g ordered found plain registers_)

    pub routed_reach : (spent : Bool) (n id node : ℕ) (e : K) (interest : Option ℕ) (f : Face K) (g : Rows K) → RowsAreInOrder cmp matching g
        → first_cause (call_causes cmp matching spent (DeclareToken n id e node interest) g) ≡ None → find_face n g ≡ Some f → is_routed g f ≡ true
        → TellsWhoWants cmp matching f.region e (rows_after_call cmp matching (DeclareToken n id e node interest) g)
    routed_reach spent n id node e interest f g ordered accepted found routed =
        as_promised f.region e (rows_after_call cmp matching (DeclareToken n id e node interest) g) (routed_reaches spent n id node e interest f g ordered accepted found routed)
