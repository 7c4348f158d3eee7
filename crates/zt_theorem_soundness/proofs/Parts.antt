-- Each part of a call leaves a gateway sound, but for what is left to be done.
use Rattle.std.proofs.Common.{◌≡◌, ℕ, Bool, true, false, not, if◌then◌else◌, ◌&&◌, ◌||◌, ◌==◌, List, [], ◌∷◌, filter, map, Option, Some, None, refl, sym, ap, ◌∙◌, subst}
use Rattle.std.proofs.lemmas.Bool.{or_right, and_from}
use Rattle.std.specs.Cmp.{IsTotalOrder}
use Rattle.std.specs.declared.cmp.Ordering.{Ordering}
use Rattle.std.specs.declared.cmp.Ordering.TheVariants.{Equal}
use Rattle.zt_region.specs.declared.region.Region.{Region}
use Rattle.zt_region.specs.declared.region.Region.TheVariants.{North}
use Rattle.zt_region.specs.declared.region.Zid.{Zid}
use Rattle.zt_region.specs.Region.{is_north, region_eq, region_eq-same}
use Rattle.zt_protocol.specs.Plain.{Trees}
use Rattle.zt_protocol.specs.declared.interests.InterestMode.{InterestMode}
use Rattle.zt_protocol.specs.declared.messages.Message.{Message}
use Rattle.zt_protocol.specs.declared.messages.Message.TheVariants as message
use Rattle.zt_model.specs.Hat.{hat_of}
use Rattle.zt_model.specs.Hearing.{heard_all, messages_for, rows_heard}
use Rattle.zt_model.specs.Lists.{same, without_id}
use Rattle.zt_laws.specs.Kept.{told_of}
use Rattle.zt_model.specs.Refusals.{is_token_id_in_use}
use Rattle.zt_model.specs.Routing.{asks_same, end_upstream_to, finish_to, is_finished_by, is_held_south, opening_final}
use Rattle.zt_model.specs.Rows.{Face, InterestRow, Rows}
use Rattle.zt_model.specs.Says.{Sends, find_face, forget_to, is_routed, is_told, registered, tell_to, to_each, unregistered, with_face}
use Rattle.zt_model.specs.Seen.{sees}
use Rattle.zt_model.specs.Telling.{answer_to}
use Rattle.zt_model.specs.Transcript.{Each}
use Rattle.zt_model.specs.Trees.{greet_to, hide_to, is_child, is_hidden, is_newly_shown, node_of, pass_to, routed_expressions, router_regions, routers_in_order, show_to, table_of, unpass_to, with_own_rows, without_own_rows}
use Rattle.zt_model.specs.Visible.{is_visible}
use Rattle.zt_laws.specs.Order.{RowsAreInOrder}
use Rattle.zt_laws.specs.Sound.{IsToldInOrder}
use Rattle.zt_laws.proofs.CallsOrder.{orderly_telling, quiet_own_rows, quiet_without_own_rows}
use Rattle.zt_laws.proofs.Forgetting.{forgotten, heard_forget}
use Rattle.zt_laws.proofs.Hearing.{each_ruled, find_only}
use Rattle.zt_laws.proofs.Keys.{same_itself}
use Rattle.zt_laws.proofs.Lists.{by_test, each_always, each_both, each_map, each_weaker, never, of_cond}
use Rattle.zt_laws.proofs.PartsOrder.{each_flat_map, each_message_for, orderly_each, quiet_face, rise_without_id}
use Rattle.zt_laws.proofs.Silent.{silent_forget, silent_hide}
use Rattle.zt_laws.proofs.Telling.{heard_tell}
use Rattle.zt_laws.proofs.ToldOrder.{DrawsNothing, TellsPair, answer_tells_pair, id_for, in_order_answer}
use Rattle.zt_laws.proofs.Visible.{rise_put}
use Rattle.zt_theorem_soundness.specs.Sound.{AskIsHeld, IsNamed, IsSoundBut, KeepsBut, any_of, nothing_left, shown_from, told_from}
use Rattle.zt_theorem_soundness.proofs.Answered.{keeps_answered}
use Rattle.zt_theorem_soundness.proofs.CallsRun.{own_rows_leave}
use Rattle.zt_theorem_soundness.proofs.Going.{FaceGoesOn, IsQuietMessage, MakesNoPending, Speaks, hears, named_heard, ordered_altered, ordered_heard, silent_named, silent_ordered, sound_face, sound_heard, sound_quiet, sound_routed, sound_rows_same, speaks_each}
use Rattle.zt_theorem_soundness.proofs.Keeping.{IsShown, keeps_forgotten, keeps_less, keeps_more, keeps_told, visible_more}
use Rattle.zt_theorem_soundness.proofs.Showing.{hidden_same, own_rows_same, registered_more, unregistered_less}

-- no face is left aside
abbrev pub nobody : ℕ → Bool
nobody n = false

-- one face is
abbrev pub only : ℕ → ℕ → Bool
only n k = n == k

module _ {K : Type 0} where
  -- What is said is spared some faces: all that is said to the others is said.
  pub record Spares (but : ℕ → Bool) (spare : Sends K → Sends K) : Type 0 where
    pub quiet : (ss : Sends K) → Each (λ s. IsQuietMessage s.1) ss → Each (λ s. IsQuietMessage s.1) (spare ss)
    pub silent : (ss : Sends K) → Each (λ s. DrawsNothing s.1) ss → Each (λ s. DrawsNothing s.1) (spare ss)
    pub speaks : (n : ℕ) (ss : Sends K) → but n ≡ false → messages_for n (spare ss) ≡ messages_for n ss

  -- ---- kinds of messages

  pub quiet_finish : (g : Rows K) (n id : ℕ) (f : Face K) → Each IsQuietMessage (finish_to g n id f)
  unfolding finish_to
  quiet_finish g n id f = each_map IsQuietMessage (λ row. message.DeclareFinal row.0) (filter (λ row. is_finished_by g n id row.1) f.asks) (each_always (λ row. IsQuietMessage {K = K} (message.DeclareFinal row.0)) (λ row. tt) (filter (λ row. is_finished_by g n id row.1) f.asks))

  pub quiet_opening_final : (cmp : K → K → Ordering) (matching : K → K → Bool) (f : Face K) → Each IsQuietMessage (opening_final cmp matching f)
  quiet_opening_final cmp matching f = cases f.initial
    where
      cases : (o : Option Bool) → (let ms : List (Message K) = elim o [ None ↦ [] | Some finalised ↦ message.DeclareFinal 0 ∷ [] ] in Each IsQuietMessage ms)
      cases None = tt
      cases (Some finalised) = (tt, tt)

  module _ (cmp : K → K → Ordering) (matching : K → K → Bool) where
    quiet_end_upstream : (g : Rows K) (interest : InterestRow K) (f : Face K) → Each IsQuietMessage (end_upstream_to cmp matching g interest f)
    unfolding end_upstream_to
    quiet_end_upstream g interest f =
        of_cond (Each IsQuietMessage) (is_north f.region && not (is_held_south cmp matching g interest)) (map (λ row. message.InterestFinal row.0) (filter (λ row. asks_same cmp matching interest row.1) f.locals)) []
        (λ _. each_map IsQuietMessage (λ row. message.InterestFinal row.0) (filter (λ row. asks_same cmp matching interest row.1) f.locals) (each_always (λ row. IsQuietMessage {K = K} (message.InterestFinal row.0)) (λ row. tt) (filter (λ row. asks_same cmp matching interest row.1) f.locals))) (λ _. tt)

    pub each_end_upstream : (g : Rows K) (interest : InterestRow K) → Each (λ s. IsQuietMessage s.1) (to_each (end_upstream_to cmp matching g interest) g.faces)
    each_end_upstream g interest = each_ruled IsQuietMessage (end_upstream_to cmp matching g interest) g.faces (quiet_end_upstream g interest)

    quiet_pass : (g : Rows K) (region : Region) (source : Zid) (e : K) (f : Face K) → Each IsQuietMessage (pass_to cmp g region source e f)
    unfolding pass_to
    quiet_pass g region source e f = of_cond (Each IsQuietMessage) (region_eq f.region region && is_child g (table_of g region) source f) (message.DeclareToken 0 e None (node_of source (table_of g region)) ∷ []) [] (λ _. (refl, tt)) (λ _. tt)

    pub each_pass : (g : Rows K) (region : Region) (source : Zid) (e : K) → Each (λ s. IsQuietMessage s.1) (to_each (pass_to cmp g region source e) g.faces)
    each_pass g region source e = each_ruled IsQuietMessage (pass_to cmp g region source e) g.faces (quiet_pass g region source e)

    pub each_show : (g : Rows K) (source : Region) (e : K) → Each (λ s. IsQuietMessage s.1) (to_each (show_to cmp g source e) g.faces)
    unfolding show_to
    each_show g source e = each_ruled IsQuietMessage (show_to cmp g source e) g.faces (λ f. of_cond (Each IsQuietMessage) (is_newly_shown cmp g source e f.region) (pass_to cmp g f.region g.zid e f) [] (λ _. quiet_pass g f.region g.zid e f) (λ _. tt))

    pub each_greet : (g : Rows K) (region : Region) (before : Trees) → Each (λ s. IsQuietMessage s.1) (to_each (greet_to cmp g region before) g.faces)
    unfolding greet_to
    each_greet g region before = each_ruled IsQuietMessage (greet_to cmp g region before) g.faces (λ f. one f)
      where
        one : (f : Face K) → Each IsQuietMessage (greet_to cmp g region before f)
        one f =
            let t = table_of g region in
            let greets = λ (r : ℕ × Zid). if region_eq f.region region && (is_child g t r.1 f && not (is_child g before r.1 f)) then map (λ e. message.DeclareToken 0 e None r.0) (routed_expressions cmp g region r.1) else [] in
            each_flat_map IsQuietMessage greets (routers_in_order cmp t)
            (λ r. of_cond (Each IsQuietMessage) (region_eq f.region region && (is_child g t r.1 f && not (is_child g before r.1 f))) (map (λ e. message.DeclareToken 0 e None r.0) (routed_expressions cmp g region r.1)) []
            (λ _. each_map IsQuietMessage (λ e. message.DeclareToken 0 e None r.0) (routed_expressions cmp g region r.1) (each_always (λ e. IsQuietMessage {K = K} (message.DeclareToken 0 e None r.0)) (λ e. refl) (routed_expressions cmp g region r.1))) (λ _. tt))

    tells_make_none : (g : Rows K) (source : Region) (e : K) (f : Face K) → Each MakesNoPending (tell_to cmp matching g source e f)
    unfolding tell_to
    tells_make_none g source e f = of_cond (Each MakesNoPending) (is_told cmp matching g source e f) (message.DeclareToken f.next e None 0 ∷ []) [] (λ _. (tt, tt)) (λ _. tt)

    none_if_pair : (k : ℕ) (e : K) (m : Message K) → TellsPair cmp k e m → MakesNoPending m
    none_if_pair k e (message.DeclareToken id x interest node) tells = tt
    none_if_pair k e (message.UndeclareToken id x node) tells = absurd tells
    none_if_pair k e (message.DeclareFinal interest) tells = absurd tells
    none_if_pair k e (message.Interest id mode options x) tells = absurd tells
    none_if_pair k e (message.InterestFinal id) tells = absurd tells
    none_if_pair k e (message.DeclareSubscriber id x interest) tells = absurd tells
    none_if_pair k e (message.DeclareQueryable id x info interest) tells = absurd tells

    -- outside router regions nothing is hidden or passed on
    hides_routed : (g : Rows K) (source : Region) (e : K) (f : Face K) → is_routed g f ≡ false → hide_to cmp g source e f ≡ []
    unfolding hide_to is_hidden
    hides_routed g source e f plain = ap (λ b. if b && (not (region_eq f.region source) && not (is_visible cmp g f.region e)) then unpass_to cmp g f.region g.zid e f else []) plain

    pub unpasses_routed : (g : Rows K) (region : Region) (source : Zid) (e : K) (f : Face K) → (hat_of g.mode region).goes_by_trees ≡ true → is_routed g f ≡ false → unpass_to cmp g region source e f ≡ []
    unfolding unpass_to
    unpasses_routed g region source e f routed plain =
        by_test (region_eq f.region region)
        (λ here. never (ap (λ (r : Region). (hat_of g.mode r).goes_by_trees) (region_eq-same f.region region here) ∙ routed) plain)
        (λ here. ap (λ b. if b && is_child g (table_of g region) source f then message.UndeclareToken 0 (Some e) (node_of source (table_of g region)) ∷ [] else []) here)

module _ {K : Type 0} (cmp : K → K → Ordering) (matching : K → K → Bool) where
  pub all_named : (ss : Sends K) (g : Rows K) → Each (λ s. MakesNoPending s.1) ss → Each (λ f. (mode : InterestMode) (id : ℕ) → IsNamed mode id f → IsNamed mode id (hears cmp matching ss g f)) g.faces
  all_named ss g none_ =
      each_always (λ f. (mode : InterestMode) (id : ℕ) → IsNamed mode id f → IsNamed mode id (hears cmp matching ss g f))
      (λ f mode id is. named_heard cmp mode id g.moment (messages_for f.number ss) f (each_message_for cmp MakesNoPending f.number ss none_) is) g.faces

  -- the faces that count are sent what a rule gives for them, but for what is spared
  pub speaks_spared : (but : ℕ → Bool) (spare : Sends K → Sends K) (rule : Face K → List (Message K)) (g : Rows K) → Spares but spare → RowsAreInOrder cmp matching g → Speaks cmp matching but rule (spare (to_each rule g.faces)) g
  speaks_spared but spare rule g spares ordered =
      each_weaker (λ f. but f.number ≡ false → messages_for f.number (to_each rule g.faces) ≡ rule f) (λ f. but f.number ≡ false → messages_for f.number (spare (to_each rule g.faces)) ≡ rule f)
      (λ f one apart. spares.speaks f.number (to_each rule g.faces) apart ∙ one apart) g.faces (speaks_each cmp matching but rule g ordered)

  module _ (total : IsTotalOrder cmp) (equal_is_same : (a b : K) → cmp a b ≡ Equal → a ≡ b) where
    -- ---- telling

    pub sound_tell : (source : Region) (e : K) (g : Rows K) → IsShown cmp matching total equal_is_same source e g → IsSoundBut cmp matching nobody nothing_left (told_from cmp g source e) g
        → IsSoundBut cmp matching nobody nothing_left nothing_left (rows_heard cmp (to_each (tell_to cmp matching g source e) g.faces) g)
    sound_tell source e g shown sound =
        let ss = to_each (tell_to cmp matching g source e) g.faces in
        sound_heard cmp matching nobody nothing_left (told_from cmp g source e) nothing_left nothing_left ss g
        (ordered_heard cmp matching (λ h. to_each (tell_to cmp matching h source e) h.faces) g (orderly_telling cmp matching total source e) sound.ordered)
        (all_named ss g (each_ruled MakesNoPending (tell_to cmp matching g source e) g.faces (tells_make_none cmp matching g source e)))
        (each_both (λ f. false ≡ false → messages_for f.number ss ≡ tell_to cmp matching g source e f) (λ f. IsToldInOrder cmp f.told f.next) (λ f. is_routed g f ≡ false → false ≡ false → KeepsBut cmp matching nothing_left (told_from cmp g source e) g f → KeepsBut cmp matching nothing_left nothing_left g (hears cmp matching ss g f))
        (λ f one told plain _ right.
        subst (KeepsBut cmp matching nothing_left nothing_left g) (sym (ap (λ ms. heard_all cmp g.moment ms f) (one refl) ∙ heard_tell cmp matching g.moment g source e f told))
        (keeps_told cmp matching total equal_is_same source e g f shown plain right))
        g.faces (speaks_each cmp matching nobody (tell_to cmp matching g source e) g sound.ordered) sound.ordered.told)
        sound

    -- ---- answering

    pub sound_answered : (n id : ℕ) (e : K) (g : Rows K) → IsSoundBut cmp matching nobody nothing_left nothing_left g
        → IsSoundBut cmp matching nobody (shown_from cmp North e) nothing_left (rows_heard cmp (to_each (answer_to cmp matching n id e) g.faces) g)
    sound_answered n id e g sound =
        let ss = to_each (answer_to cmp matching n id e) g.faces in
        sound_heard cmp matching nobody nothing_left nothing_left (shown_from cmp North e) nothing_left ss g
        (ordered_heard cmp matching (λ h. to_each (answer_to cmp matching n id e) h.faces) g (orderly_each cmp matching (λ h f. answer_to cmp matching n id e f) (λ h f ordered. in_order_answer cmp total matching n id e f ordered)) sound.ordered)
        (all_named ss g (each_ruled MakesNoPending (answer_to cmp matching n id e) g.faces (λ f. each_weaker (TellsPair cmp (id_for cmp total e (told_of f)) e) MakesNoPending (none_if_pair cmp matching (id_for cmp total e (told_of f)) e) (answer_to cmp matching n id e f) (answer_tells_pair cmp total matching n id e f))))
        (each_both (λ f. false ≡ false → messages_for f.number ss ≡ answer_to cmp matching n id e f) (λ f. false ≡ false → Each (AskIsHeld f) f.asks) (λ f. is_routed g f ≡ false → false ≡ false → KeepsBut cmp matching nothing_left nothing_left g f → KeepsBut cmp matching (shown_from cmp North e) nothing_left g (hears cmp matching ss g f))
        (λ f one held plain _ right.
        subst (λ ms. KeepsBut cmp matching (shown_from cmp North e) nothing_left g (heard_all cmp g.moment ms f)) (sym (one refl)) (keeps_answered cmp matching total equal_is_same g.moment n id e g f (held refl) right))
        g.faces (speaks_each cmp matching nobody (answer_to cmp matching n id e) g sound.ordered) sound.held)
        sound

    pub makes_none_answer : (n id : ℕ) (e : K) (g : Rows K) → Each (λ s. MakesNoPending s.1) (to_each (answer_to cmp matching n id e) g.faces)
    makes_none_answer n id e g =
        each_ruled MakesNoPending (answer_to cmp matching n id e) g.faces
        (λ f. each_weaker (TellsPair cmp (id_for cmp total e (told_of f)) e) MakesNoPending (none_if_pair cmp matching (id_for cmp total e (told_of f)) e) (answer_to cmp matching n id e f) (answer_tells_pair cmp total matching n id e f))

    -- ---- registering

    pub sound_registered : (unseen : Region → K → Bool) (n id : ℕ) (e : K) (from : Face K) (g : Rows K) → find_face n g ≡ Some from → is_routed g from ≡ false → is_token_id_in_use cmp id e from ≡ false
        → ((own : Region) (x : K) → unseen own x ≡ true → shown_from cmp from.region e own x ≡ true)
        → IsSoundBut cmp matching nobody unseen nothing_left g
        → (let h = with_face n (registered id e) g in IsSoundBut cmp matching nobody nothing_left (told_from cmp h from.region e) h × IsShown cmp matching total equal_is_same from.region e h)
    sound_registered unseen n id e from g found plain free covered_by sound =
        let h = with_face n (registered id e) g in
        let more = registered_more cmp total equal_is_same n id e from g sound.ordered.lists.faces_rise found free in (
          sound_face cmp matching nobody unseen nothing_left nothing_left (told_from cmp h from.region e) n (registered id e) g
              (quiet_face cmp matching n (registered id e) (λ k. refl) (λ k rows. record { live = rise_put id e k.live rows.live; held = rows.held; locals = rows.locals; pendings = rows.pendings; asks = rows.asks }))
              (each_weaker (λ f. (n == f.number) ≡ true → f ≡ from) (λ f. (n == f.number) ≡ true → FaceGoesOn nobody g f (registered id e f))
              (λ f one here. record {
                number = refl;
                region = refl;
                named = λ mode k is. record { below = is.below; of_mode = is.of_mode };
                held = λ _ all. each_weaker (AskIsHeld f) (AskIsHeld (registered id e f)) (λ row own. record { current = own.current; held = own.held; from_south = own.from_south }) f.asks all;
                pendings = λ all. all;
                live = λ routed _. never routed (ap (is_routed g) (one here) ∙ plain);
              })
              g.faces (find_only n 1 g.faces from sound.ordered.lists.faces_rise found))
              (λ f k stays right. keeps_more cmp matching from.region e unseen g h f k more stays covered_by right)
              (λ f. record { region = refl; told = refl; held = refl })
              sound,
          λ own shows_. visible_more cmp from.region e g h own e more ∙ or_right (is_visible cmp g own e) (shown_from cmp from.region e own e) (and_from (same cmp e e) (sees own from.region) (same_itself cmp total e) shows_),
        )

    -- ---- taking a token away

    pub sound_unregistered : (but : ℕ → Bool) (n id : ℕ) (e : K) (from : Face K) (g : Rows K) → find_face n g ≡ Some from → Each (λ row. (id == row.0) ≡ true → row.1 ≡ e) from.live
        → IsSoundBut cmp matching but nothing_left nothing_left g → IsSoundBut cmp matching but (any_of cmp (e ∷ [])) nothing_left (with_face n (unregistered id) g)
    sound_unregistered but n id e from g found only_ sound =
        sound_face cmp matching but nothing_left nothing_left (any_of cmp (e ∷ [])) nothing_left n (unregistered id) g
        (quiet_face cmp matching n (unregistered id) (λ k. refl) (λ k rows. record { live = rise_without_id id k.live rows.live; held = rows.held; locals = rows.locals; pendings = rows.pendings; asks = rows.asks }))
        (each_always (λ f. (n == f.number) ≡ true → FaceGoesOn but g f (unregistered id f))
        (λ f here. record {
          number = refl;
          region = refl;
          named = λ mode k is. record { below = is.below; of_mode = is.of_mode };
          held = λ _ all. each_weaker (AskIsHeld f) (AskIsHeld (unregistered id f)) (λ row own. record { current = own.current; held = own.held; from_south = own.from_south }) f.asks all;
          pendings = λ all. all;
          live = λ _ none_. ap (without_id id) none_;
        })
        g.faces)
        (λ f k stays right. keeps_less cmp matching from.region (e ∷ []) g (with_face n (unregistered id) g) f k (unregistered_less cmp n id e from g sound.ordered.lists.faces_rise found only_) stays right)
        (λ f. record { region = refl; told = refl; held = refl })
        sound

    -- ---- forgetting

    pub sound_forgot : (but : ℕ → Bool) (spare : Sends K → Sends K) (source : Region) (e : K) (es : List K) (g : Rows K) → Spares but spare
        → IsSoundBut cmp matching but (any_of cmp (e ∷ es)) nothing_left g
        → IsSoundBut cmp matching but (any_of cmp es) nothing_left (rows_heard cmp (spare (to_each (forget_to cmp matching g source e) g.faces)) g)
    sound_forgot but spare source e es g spares sound =
        let ss = spare (to_each (forget_to cmp matching g source e) g.faces) in
        let silent = spares.silent (to_each (forget_to cmp matching g source e) g.faces) (each_ruled DrawsNothing (forget_to cmp matching g source e) g.faces (silent_forget cmp matching g source e)) in
        sound_heard cmp matching but (any_of cmp (e ∷ es)) nothing_left (any_of cmp es) nothing_left ss g (silent_ordered cmp matching ss g silent sound.ordered) (silent_named cmp matching ss g silent)
        (each_both (λ f. but f.number ≡ false → messages_for f.number ss ≡ forget_to cmp matching g source e f) (λ f. IsToldInOrder cmp f.told f.next) (λ f. is_routed g f ≡ false → but f.number ≡ false → KeepsBut cmp matching (any_of cmp (e ∷ es)) nothing_left g f → KeepsBut cmp matching (any_of cmp es) nothing_left g (hears cmp matching ss g f))
        (λ f one told plain apart right.
        subst (KeepsBut cmp matching (any_of cmp es) nothing_left g)
        (sym (ap (λ ms. heard_all cmp g.moment ms f) (one apart) ∙ heard_forget cmp total matching g.moment g source e f told ∙ ap (λ b. if b || is_visible cmp g f.region e then f else forgotten cmp e f) plain))
        (keeps_forgotten cmp matching total equal_is_same e es g f right))
        g.faces (speaks_spared but spare (forget_to cmp matching g source e) g spares sound.ordered) sound.ordered.told)
        sound

    -- ---- own rows of router regions

    pub sound_shown : (source : Region) (e : K) (g : Rows K) → IsSoundBut cmp matching nobody nothing_left nothing_left g
        → (let h = rows_heard cmp (to_each (show_to cmp g source e) g.faces) g in IsSoundBut cmp matching nobody nothing_left nothing_left (with_own_rows cmp (filter (is_newly_shown cmp h source e) (router_regions h)) e h))
    sound_shown source e g sound =
        let h = rows_heard cmp (to_each (show_to cmp g source e) g.faces) g in
        let rs = filter (is_newly_shown cmp h source e) (router_regions h) in
        let one = sound_quiet cmp matching nobody nothing_left nothing_left (to_each (show_to cmp g source e) g.faces) g (each_show cmp matching g source e) sound in
        sound_rows_same cmp matching nobody nothing_left nothing_left h (with_own_rows cmp rs e h)
        (own_rows_leave cmp (λ (k : Rows K). k.faces) (λ k rows. refl) rs e h) (own_rows_leave cmp (λ (k : Rows K). k.made) (λ k rows. refl) rs e h) (own_rows_leave cmp (λ (k : Rows K). k.mode) (λ k rows. refl) rs e h)
        (ordered_altered cmp matching (with_own_rows cmp rs e) h (quiet_own_rows cmp matching total rs e) one.ordered) (own_rows_same cmp rs e h) one

    pub sound_hid : (but : ℕ → Bool) (unseen : Region → K → Bool) (spare : Sends K → Sends K) (source : Region) (e : K) (g : Rows K) → Spares but spare → IsSoundBut cmp matching but unseen nothing_left g
        → IsSoundBut cmp matching but unseen nothing_left (without_own_rows cmp source e (rows_heard cmp (spare (to_each (hide_to cmp g source e) g.faces)) g))
    unfolding without_own_rows
    sound_hid but unseen spare source e g spares sound =
        let ss = spare (to_each (hide_to cmp g source e) g.faces) in
        let h = rows_heard cmp ss g in
        let one = sound_routed cmp matching but unseen nothing_left (hide_to cmp g source e) ss g
        (spares.silent (to_each (hide_to cmp g source e) g.faces) (each_ruled DrawsNothing (hide_to cmp g source e) g.faces (silent_hide cmp matching g source e)))
        (speaks_spared but spare (hide_to cmp g source e) g spares sound.ordered) (hides_routed cmp matching g source e) sound in
        sound_rows_same cmp matching but unseen nothing_left h (without_own_rows cmp source e h) refl refl refl
        (ordered_altered cmp matching (without_own_rows cmp source e) h (quiet_without_own_rows cmp matching source e) one.ordered) (hidden_same cmp source e h) one
