-- An interest leaves a gateway sound: it is sent on, held and answered.
use Rattle.std.proofs.Common.{◌≡◌, ℕ, ◌+◌, ◌≤◌, Bool, true, false, not, if◌then◌else◌, ◌&&◌, ◌||◌, ◌==◌, List, [], ◌∷◌, filter, map, Option, Some, None, refl, sym, ap, ◌∙◌, subst, arith, eqb-true}
use Rattle.std.proofs.lemmas.Bool.{or_parts}
use Rattle.std.specs.Cmp.{IsTotalOrder}
use Rattle.std.specs.Ordering.{nat_cmp}
use Rattle.std.specs.FinMap.Entries.{put}
use Rattle.std.specs.declared.cmp.Ordering.{Ordering}
use Rattle.std.specs.declared.cmp.Ordering.TheVariants.{Equal}
use Rattle.zt_region.specs.declared.region.Region.{Region}
use Rattle.zt_region.specs.Region.{is_north}
use Rattle.zt_protocol.specs.Interest.{is_current, is_future}
use Rattle.zt_protocol.specs.declared.interests.InterestMode.{InterestMode}
use Rattle.zt_protocol.specs.declared.interests.InterestOptions.{InterestOptions}
use Rattle.zt_protocol.specs.declared.messages.Message.{Message}
use Rattle.zt_protocol.specs.declared.messages.Message.TheVariants as message
use Rattle.zt_model.specs.Entities.{entities_for, numbered_by, with_numbers}
use Rattle.zt_model.specs.Hearing.{heard, heard_all, messages_for, put_if, rows_heard}
use Rattle.zt_model.specs.Lists.{at_id, first_where, has_id}
use Rattle.zt_model.specs.Refusals.{is_interest_id_in_use}
use Rattle.zt_model.specs.Routing.{asked_as, final_of, is_asked, is_target, route_to, sent_as}
use Rattle.zt_model.specs.Rows.{Ask, ById, Face, InterestRow, Pending, Rows}
use Rattle.zt_model.specs.Says.{Alter, Say, answered_expressions, answers_from, answers_of, asking, find_face, is_routed, to_each, to_face, told_id, with_face}
use Rattle.zt_model.specs.Transcript.{Each}
use Rattle.zt_laws.specs.Kept.{told_of}
use Rattle.zt_laws.specs.Order.{HasRowsInOrder, RowsAreInOrder}
use Rattle.zt_laws.specs.Sound.{IsToldInOrder}
use Rattle.zt_laws.proofs.Hearing.{each_ruled, each_ruled_one, find_only, heard_all-held, heard_all-live, heard_all-number, heard_all-region, messages_for_each}
use Rattle.zt_laws.proofs.Interests.{answered_in_order}
use Rattle.zt_laws.proofs.Lists.{by_test, each_both, each_map, each_weaker, never, of_cond}
use Rattle.zt_laws.proofs.PartsOrder.{each_message_for, orderly_each, orderly_one, quiet_face, rise_put_if}
use Rattle.zt_laws.proofs.Silent.{silent_final, silent_route}
use Rattle.zt_laws.proofs.ToldFrom.{found_by_number}
use Rattle.zt_laws.proofs.ToldOrder.{DrawsNothing, in_order_answers, in_order_nothings}
use Rattle.zt_laws.proofs.Visible.{at_only, rise_put}
use Rattle.zt_theorem_soundness.specs.Ran.{ran}
use Rattle.zt_theorem_soundness.specs.Sound.{AskIsHeld, IsNamed, KeepsBut, PendingIsKnown, PendingsOfAskAreKnown, nothing_left}
use Rattle.zt_theorem_soundness.proofs.Answered.{keeps_asked}
use Rattle.zt_theorem_soundness.proofs.ById.{at_has, at_put, at_put_other, find_mapped}
use Rattle.zt_theorem_soundness.proofs.CallsRun.{LeavesAsks, each_entity, route_leaves}
use Rattle.zt_theorem_soundness.proofs.Ends.{sound_numbers, with_face_same}
use Rattle.zt_theorem_soundness.proofs.Going.{FaceGoesOn, IsQuietMessage, MakesNoPending, asks_heard, drawn_if_quiet, each_put_if, goes_on_heard, goes_on_itself, hears, known_goes_on, named_heard, named_sent, none_if_drawn, ordered_altered, ordered_heard, silent_ordered, sound_goes_on, sound_heard, sound_quiet, speaks_each}
use Rattle.zt_theorem_soundness.proofs.Interests.{face_hears_twice, with_face_faces, with_face_made, with_face_mode}
use Rattle.zt_theorem_soundness.proofs.Keeping.{ShowSame, keeps_stays, stays_itself}
use Rattle.zt_theorem_soundness.proofs.Parts.{all_named, nobody}
use Rattle.zt_theorem_soundness.proofs.Tokens.{Sound}

pub each_filtered : {A : Type 0} (P : A → Type 0) (p : A → Bool) (xs : List A) → Each (λ x. p x ≡ true → P x) xs → Each P (filter p xs)
each_filtered P p [] all = tt
each_filtered P p (x ∷ xs) all = of_cond (Each P) (p x) (x ∷ filter p xs) (filter p xs) (λ here. (all.0 here, each_filtered P p xs all.1)) (λ _. each_filtered P p xs all.1)

pub filter_none : {A : Type 0} (p : A → Bool) (xs : List A) → ((x : A) → p x ≡ false) → filter p xs ≡ []
filter_none p [] none_ = refl
filter_none p (x ∷ xs) none_ = rw (none_ x) (filter_none p xs none_)

module _ {K : Type 0} where
  -- an interest of a face to the north goes to nobody
  pub none_sent_north : (g : Rows K) (asker : Region) (mode : InterestMode) → is_north asker ≡ true → sent_as g asker mode ≡ []
  unfolding sent_as is_target
  none_sent_north g asker mode north = ap (map (λ (f : Face K). (f.number, f.next))) (filter_none (is_target g asker mode) g.faces (λ f. ap (λ b. not b && is_asked g mode f) north))

module _ {K : Type 0} (cmp : K → K → Ordering) where
  -- an interest's own id is named rightly where it was sent
  named_new : (now : ℕ) (mode : InterestMode) (options : InterestOptions) (e : Option K) (f : Face K) → is_current mode ≡ true → HasRowsInOrder f → IsNamed mode f.next (heard cmp now (message.Interest f.next mode options e) f)
  named_new now mode options e f current rows =
      let pending : Pending = record { mode = mode; since = now } in
      record {
        below = omega arith;
        of_mode = subst (λ b. Each (λ row. (f.next == row.0) ≡ true → row.1.mode ≡ mode) (put_if b f.next pending f.pendings)) (sym current)
            (each_weaker (λ row. (f.next == row.0) ≡ true → row.1 ≡ pending) (λ row. (f.next == row.0) ≡ true → row.1.mode ≡ mode) (λ row is hit. ap (λ (p : Pending). p.mode) (is hit))
            (put nat_cmp f.next pending f.pendings) (at_only f.next 0 (put nat_cmp f.next pending f.pendings) pending (rise_put f.next pending f.pendings rows.pendings) (at_put f.next pending f.pendings)));
      }

  -- asks that no message is about stay
  asks_left : (now : ℕ) (ms : List (Message K)) (f : Face K) → Each (LeavesAsks cmp) ms → (heard_all cmp now ms f).asks ≡ f.asks
  unfolding heard_all
  asks_left now [] f leaves = refl
  asks_left now (m ∷ ms) f leaves = asks_left now ms (heard cmp now m f) leaves.1 ∙ one m leaves.0
    where
      one : (m : Message K) → LeavesAsks cmp m → (heard cmp now m f).asks ≡ f.asks
      one (message.DeclareToken id e None node) is = refl
      one (message.DeclareToken id e (Some interest) node) is = absurd is
      one (message.UndeclareToken id e node) is = refl
      one (message.DeclareFinal interest) is = absurd is
      one (message.Interest id mode options e) is = refl
      one (message.InterestFinal id) is = refl
      one (message.DeclareSubscriber id e interest) is = refl
      one (message.DeclareQueryable id e info interest) is = refl

  module _ (matching : K → K → Bool) where
    pub answers_make_none : (next : ℕ) (told : ById K) (mode : InterestMode) (id : ℕ) (es : List K) → Each MakesNoPending (answers_from cmp matching next told mode id es)
    unfolding answers_from
    answers_make_none next told mode id [] = tt
    answers_make_none next told mode id (e ∷ es) =
        let old = answers_make_none next told mode id es in
        let new_ = answers_make_none (next + 1) told mode id es in
        by_test (is_future mode)
        (λ future. rw future (elim (told_id cmp e told) as (λ o. Each MakesNoPending (elim o [ None ↦ message.DeclareToken next e (Some id) 0 ∷ answers_from cmp matching (next + 1) told mode id es | Some j ↦ message.DeclareToken j e (Some id) 0 ∷ answers_from cmp matching next told mode id es ])) [ None ↦ (tt, new_) | Some j ↦ (tt, old) ]))
        (λ future. rw future (tt, old))

    -- ---- sending on

    route_named : (g : Rows K) (asker : Region) (interest : InterestRow K) (f : Face K) (mode : InterestMode) (id : ℕ) → IsNamed mode id f → IsNamed mode id (heard_all cmp g.moment (route_to g asker interest f) f)
    unfolding route_to heard_all
    route_named g asker interest f mode id is =
        of_cond (λ (ms : List (Message K)). IsNamed mode id (heard_all cmp g.moment ms f)) (is_target g asker interest.mode f) (message.Interest f.next interest.mode interest.options interest.expr ∷ []) []
        (λ _. named_sent cmp mode id g.moment interest.mode interest.options interest.expr f is) (λ _. is)

    route_told : (g : Rows K) (asker : Region) (interest : InterestRow K) (f : Face K) → (heard_all cmp g.moment (route_to g asker interest f) f).told ≡ f.told
    unfolding route_to heard_all
    route_told g asker interest f =
        of_cond (λ (ms : List (Message K)). (heard_all cmp g.moment ms f).told ≡ f.told) (is_target g asker interest.mode f) (message.Interest f.next interest.mode interest.options interest.expr ∷ []) [] (λ _. refl) (λ _. refl)

    sent_new : (g : Rows K) (asker : Region) (interest : InterestRow K) (f : Face K) → is_current interest.mode ≡ true → is_target g asker interest.mode f ≡ true → HasRowsInOrder f → IsNamed interest.mode f.next (heard_all cmp g.moment (route_to g asker interest f) f)
    unfolding route_to heard_all
    sent_new g asker interest f current target rows = rw target (named_new g.moment interest.mode interest.options interest.expr f current rows)

    -- the dictionary says nothing of targets
    sent_numbered : (es : List K) (g : Rows K) (asker : Region) (mode : InterestMode) → sent_as (with_numbers cmp es g) asker mode ≡ sent_as g asker mode
    unfolding sent_as is_target
    sent_numbered es g asker mode = refl

    -- what is sent is known then: the ids and mode of an interest, where it goes
    sent_known : (asker : Region) (interest : InterestRow K) (g : Rows K) → is_current interest.mode ≡ true → RowsAreInOrder cmp matching g
        → (let h = rows_heard cmp (to_each (route_to g asker interest) g.faces) g in Each (λ p. PendingIsKnown h (record { mode = interest.mode; face = p.0; id = p.1 })) (sent_as g asker interest.mode))
    unfolding sent_as rows_heard
    sent_known asker interest g current ordered =
        let ss = to_each (route_to g asker interest) g.faces in
        let h = rows_heard cmp ss g in
        let Known = λ (f : Face K). PendingIsKnown h (record { mode = interest.mode; face = f.number; id = f.next }) in
        each_map (λ p. PendingIsKnown h (record { mode = interest.mode; face = p.0; id = p.1 })) (λ (f : Face K). (f.number, f.next)) (filter (is_target g asker interest.mode) g.faces)
        (each_filtered Known (is_target g asker interest.mode) g.faces
        (each_both (λ f. f.number ≤ g.made) (λ f. first_where (λ k. f.number == k.number) g.faces ≡ Some f) (λ f. is_target g asker interest.mode f ≡ true → Known f)
        (λ f made found target. record {
          made = made;
          named =
              each_map (λ k. (f.number == k.number) ≡ true → IsNamed interest.mode f.next k) (hears cmp matching ss g) g.faces
              (each_both (λ k. (f.number == k.number) ≡ true → k ≡ f) (λ k. HasRowsInOrder k × (messages_for k.number ss ≡ route_to g asker interest k)) (λ k. (f.number == (hears cmp matching ss g k).number) ≡ true → IsNamed interest.mode f.next (hears cmp matching ss g k))
              (λ k only_ both hit.
              let is : k ≡ f = only_ (ap (λ j. f.number == j) (sym (heard_all-number cmp g.moment (messages_for k.number ss) k)) ∙ hit) in
              subst (λ (x : ℕ). IsNamed interest.mode x (hears cmp matching ss g k)) (ap (λ (x : Face K). x.next) is)
              (subst (λ ms. IsNamed interest.mode k.next (heard_all cmp g.moment ms k)) (sym both.1) (sent_new g asker interest k current (ap (is_target g asker interest.mode) is ∙ target) both.0)))
              g.faces (find_only f.number 1 g.faces f ordered.lists.faces_rise found)
              (each_both HasRowsInOrder (λ k. messages_for k.number ss ≡ route_to g asker interest k) (λ k. HasRowsInOrder k × (messages_for k.number ss ≡ route_to g asker interest k)) (λ k a b. (a, b)) g.faces ordered.lists.rows (messages_for_each 1 (route_to g asker interest) g.faces ordered.lists.faces_rise)));
        })
        g.faces ordered.lists.faces_made (found_by_number 1 g.faces ordered.lists.faces_rise)))

    sound_routed_on : (asker : Region) (interest : InterestRow K) (total : IsTotalOrder cmp) (equal_is_same : (a b : K) → cmp a b ≡ Equal → a ≡ b) (g : Rows K) → Sound cmp matching total equal_is_same g → Sound cmp matching total equal_is_same (rows_heard cmp (to_each (route_to g asker interest) g.faces) g)
    sound_routed_on asker interest total equal_is_same g sound =
        let ss = to_each (route_to g asker interest) g.faces in
        sound_heard cmp matching nobody nothing_left nothing_left nothing_left nothing_left ss g
        (ordered_heard cmp matching (λ h. to_each (route_to h asker interest) h.faces) g (orderly_each cmp matching (λ h f. route_to h asker interest f) (λ h f ordered. in_order_nothings cmp (route_to h asker interest f) (told_of f) (silent_route h asker interest f) ordered)) sound.ordered)
        (each_weaker (λ f. false ≡ false → messages_for f.number ss ≡ route_to g asker interest f) (λ f. (mode : InterestMode) (id : ℕ) → IsNamed mode id f → IsNamed mode id (hears cmp matching ss g f)) (λ f one mode id is. subst (λ ms. IsNamed mode id (heard_all cmp g.moment ms f)) (sym (one refl)) (route_named g asker interest f mode id is)) g.faces (speaks_each cmp matching nobody (route_to g asker interest) g sound.ordered))
        (each_weaker (λ f. false ≡ false → messages_for f.number ss ≡ route_to g asker interest f) (λ f. is_routed g f ≡ false → false ≡ false → KeepsBut cmp matching nothing_left nothing_left g f → KeepsBut cmp matching nothing_left nothing_left g (hears cmp matching ss g f))
        (λ f one _ _ right.
        keeps_stays cmp matching nothing_left nothing_left g g f (hears cmp matching ss g f) (record { live = refl; refused = refl })
        (record { region = heard_all-region cmp g.moment (messages_for f.number ss) f; told = ap (λ ms. (heard_all cmp g.moment ms f).told) (one refl) ∙ route_told g asker interest f; held = heard_all-held cmp g.moment (messages_for f.number ss) f }) right)
        g.faces (speaks_each cmp matching nobody (route_to g asker interest) g sound.ordered))
        sound

    -- ---- holding and answering

    module _ (pendings : List (ℕ × ℕ)) (id : ℕ) (interest : InterestRow K) (after : Rows K) (now : ℕ) (f : Face K) where
      abbrev held_face : Face K
      held_face = asked_as pendings id interest f

      abbrev answered_face : Face K
      answered_face = heard_all cmp now (answers_of cmp matching after id interest held_face) held_face

      abbrev pub asked_face : Face K
      asked_face = heard_all cmp now (final_of id answered_face) answered_face

      asked_region : asked_face.region ≡ f.region
      asked_region = heard_all-region cmp now (final_of id answered_face) answered_face ∙ heard_all-region cmp now (answers_of cmp matching after id interest held_face) held_face

      asked_live : asked_face.live ≡ f.live
      asked_live = heard_all-live cmp now (final_of id answered_face) answered_face ∙ heard_all-live cmp now (answers_of cmp matching after id interest held_face) held_face

      asked_held : asked_face.held ≡ put_if (is_future interest.mode) id interest f.held
      asked_held = heard_all-held cmp now (final_of id answered_face) answered_face ∙ heard_all-held cmp now (answers_of cmp matching after id interest held_face) held_face

      -- another id's held interest stays where it is
      held_other : (k : ℕ) (b : Bool) (v : InterestRow K) → (b ≡ true → has_id id f.held ≡ false) → at_id k f.held ≡ Some v → at_id k (put_if b id interest f.held) ≡ Some v
      held_other k true v new_ at_ = at_put_other k id interest f.held (by_test (k == id) (λ here. never (at_has id f.held v (ap (λ j. at_id j f.held) (sym (eqb-true k id here)) ∙ at_)) (new_ refl)) (λ here. here)) ∙ at_
      held_other k false v new_ at_ = at_

      asks_held : is_interest_id_in_use id interest.mode f ≡ false → (is_north f.region ≡ true → pendings ≡ []) → Each (AskIsHeld f) f.asks → Each (AskIsHeld asked_face) asked_face.asks
      asks_held unused from_south all =
          let in_use = or_parts (is_future interest.mode && has_id id f.held) (is_current interest.mode && has_id id f.asks) unused in
          let new_ : is_future interest.mode ≡ true → has_id id f.held ≡ false = λ future. ap (λ b. b && has_id id f.held) (sym future) ∙ in_use.0 in
          let ask : Ask K = record { interest = interest; pendings = pendings; answered = [] } in
          let one : Each (AskIsHeld held_face) held_face.asks =
          each_put_if (AskIsHeld held_face) (is_current interest.mode) id ask f.asks
          (λ current. record { current = current; held = λ future. ap (λ b. at_id id (put_if b id interest f.held)) future ∙ at_put id interest f.held; from_south = from_south })
          (each_weaker (AskIsHeld f) (AskIsHeld held_face) (λ row own. record { current = own.current; held = λ future. held_other row.0 (is_future interest.mode) row.1.interest new_ (own.held future); from_south = own.from_south }) f.asks all) in
          let three = asks_heard cmp (AskIsHeld held_face) (λ row es own. record { current = own.current; held = own.held; from_south = own.from_south }) now (final_of id answered_face) answered_face
          (asks_heard cmp (AskIsHeld held_face) (λ row es own. record { current = own.current; held = own.held; from_south = own.from_south }) now (answers_of cmp matching after id interest held_face) held_face one) in
          each_weaker (AskIsHeld held_face) (AskIsHeld asked_face)
          (λ row own. record {
            current = own.current;
            held = λ future. ap (λ (rows : ById (InterestRow K)). at_id row.0 rows) asked_held ∙ own.held future;
            from_south = λ north. own.from_south (ap is_north (sym asked_region) ∙ north);
          }) asked_face.asks three

      pub asked_goes_on : (g : Rows K) → is_interest_id_in_use id interest.mode f ≡ false → (is_north f.region ≡ true → pendings ≡ []) → (is_current interest.mode ≡ true → Each (λ p. PendingIsKnown g (record { mode = interest.mode; face = p.0; id = p.1 })) pendings) → FaceGoesOn nobody g f asked_face
      asked_goes_on g unused from_south known =
          let answers = answers_of cmp matching after id interest held_face in
          let finals = final_of id answered_face in
          let ask : Ask K = record { interest = interest; pendings = pendings; answered = [] } in
          record {
            number = heard_all-number cmp now finals answered_face ∙ heard_all-number cmp now answers held_face;
            region = asked_region;
            named = λ mode k is.
                named_heard cmp mode k now finals answered_face (each_weaker DrawsNothing MakesNoPending none_if_drawn finals (silent_final id answered_face))
                (named_heard cmp mode k now answers held_face (answers_make_none held_face.next held_face.told interest.mode id (answered_expressions cmp matching after interest held_face)) (record { below = is.below; of_mode = is.of_mode }));
            held = λ _ all. asks_held unused from_south all;
            pendings = λ all.
                asks_heard cmp (PendingsOfAskAreKnown g) (λ row es one. one) now finals answered_face
                (asks_heard cmp (PendingsOfAskAreKnown g) (λ row es one. one) now answers held_face
                (each_put_if (PendingsOfAskAreKnown g) (is_current interest.mode) id ask f.asks
                (λ current. each_map (PendingIsKnown g) (λ (p : ℕ × ℕ). record { mode = interest.mode; face = p.0; id = p.1 }) pendings (known current)) all));
            live = λ _ none_. asked_live ∙ none_;
          }

    module _ (total : IsTotalOrder cmp) (equal_is_same : (a b : K) → cmp a b ≡ Equal → a ≡ b) where
      abbrev Fine : Rows K → Type 0
      Fine = Sound cmp matching total equal_is_same

      -- the face that asked holds its interest, is answered, and has its final where it was sent to nobody
      sound_held : (pendings : List (ℕ × ℕ)) (n id : ℕ) (interest : InterestRow K) (from : Face K) (g : Rows K) → find_face n g ≡ Some from → is_interest_id_in_use id interest.mode from ≡ false → (is_north from.region ≡ true → pendings ≡ [])
          → (is_current interest.mode ≡ true → Each (λ p. PendingIsKnown g (record { mode = interest.mode; face = p.0; id = p.1 })) pendings) → Fine g
          → Fine (ran cmp (Alter (with_face n (asked_as pendings id interest)) ∷ Say (λ k. to_face n (answers_of cmp matching k id interest) k) ∷ Say (to_face n (final_of id)) ∷ []) g)
      unfolding ran
      sound_held pendings n id interest from g found unused from_south known sound =
          let h1 = with_face n (asked_as pendings id interest) g in
          let h2 = rows_heard cmp (to_face n (answers_of cmp matching h1 id interest) h1) h1 in
          let h3 = rows_heard cmp (to_face n (final_of id) h2) h2 in
          let o1 = ordered_altered cmp matching (with_face n (asked_as pendings id interest)) g (quiet_face cmp matching n (asked_as pendings id interest) (λ k. refl) (λ k rows. record { live = rows.live; held = rise_put_if (is_future interest.mode) id _ k.held rows.held; locals = rows.locals; pendings = rows.pendings; asks = rise_put_if (is_current interest.mode) id _ k.asks rows.asks })) sound.ordered in
          let o2 = ordered_heard cmp matching (λ k. to_face n (answers_of cmp matching k id interest) k) h1 (orderly_one cmp matching n (λ k f. answers_of cmp matching k id interest f) (λ k f ordered. in_order_answers cmp total matching k.moment interest.mode id (answered_expressions cmp matching k interest f) f (answered_in_order cmp matching total k interest f) ordered)) o1 in
          let o3 = silent_ordered cmp matching (to_face n (final_of id) h2) h2 (each_ruled_one DrawsNothing n (final_of id) h2 (silent_final id)) o2 in
          let is : h3 ≡ with_face n (asked_face pendings id interest h1 g.moment) g = face_hears_twice cmp matching n (asked_as pendings id interest) (answers_of cmp matching h1 id interest) (final_of id) g sound.ordered (λ f. refl) in
          subst Fine (sym is) (composite (subst (RowsAreInOrder cmp matching) is o3))
        where
          composite : (let h1 = with_face n (asked_as pendings id interest) g in RowsAreInOrder cmp matching (with_face n (asked_face pendings id interest h1 g.moment) g) → Fine (with_face n (asked_face pendings id interest h1 g.moment) g))
          composite ordered =
              let h1 = with_face n (asked_as pendings id interest) g in
              let three = asked_face pendings id interest h1 g.moment in
              let chosen = λ (f : Face K). if n == f.number then three f else f in
              let h = with_face n three g in
              let here_ = find_only n 1 g.faces from sound.ordered.lists.faces_rise found in
              let one_same : ShowSame g h1 = with_face_same n (asked_as pendings id interest) g (λ f. refl) (λ f. refl) in
              let shows_same : ShowSame g h = with_face_same n three g (asked_region pendings id interest h1 g.moment) (asked_live pendings id interest h1 g.moment) in
              let last_same : ShowSame h1 h = record { live = shows_same.live ∙ sym one_same.live; refused = shows_same.refused ∙ sym one_same.refused } in
              sound_goes_on cmp matching nobody nothing_left nothing_left nothing_left nothing_left g h chosen
              (record {
                faces = with_face_faces n three g;
                made = with_face_made n three g;
                mode = with_face_mode n three g;
                each = each_weaker (λ f. (n == f.number) ≡ true → f ≡ from) (λ f. FaceGoesOn nobody g f (chosen f))
                    (λ f one. of_cond (FaceGoesOn nobody g f) (n == f.number) (three f) f
                    (λ hit. asked_goes_on pendings id interest h1 g.moment f g (ap (is_interest_id_in_use id interest.mode) (one hit) ∙ unused) (λ north. from_south (ap (λ (k : Face K). is_north k.region) (sym (one hit)) ∙ north)) known) (λ _. goes_on_itself nobody g f)) g.faces here_;
              })
              ordered
              (each_both (λ f. (n == f.number) ≡ true → f ≡ from) (λ f. IsToldInOrder cmp f.told f.next) (λ f. is_routed g f ≡ false → false ≡ false → KeepsBut cmp matching nothing_left nothing_left g f → KeepsBut cmp matching nothing_left nothing_left h (chosen f))
              (λ f one told _ _ right.
              of_cond (KeepsBut cmp matching nothing_left nothing_left h) (n == f.number) (three f) f
              (λ hit. keeps_stays cmp matching nothing_left nothing_left h1 h (three f) (three f) last_same (stays_itself (three f))
              (keeps_asked cmp matching total equal_is_same g.moment id pendings interest h1 f (ap (is_interest_id_in_use id interest.mode) (one hit) ∙ unused) told (keeps_stays cmp matching nothing_left nothing_left g h1 f f one_same (stays_itself f) right)))
              (λ _. keeps_stays cmp matching nothing_left nothing_left g h f f shows_same (stays_itself f) right)) g.faces here_ sound.ordered.told)
              sound

      pub sound_asking : (n id : ℕ) (interest : InterestRow K) (from : Face K) (g : Rows K) → find_face n g ≡ Some from → is_interest_id_in_use id interest.mode from ≡ false → Fine g → Fine (ran cmp (asking cmp matching n id interest from.region g) g)
      unfolding ran rows_heard
      sound_asking n id interest from g found unused sound =
          let asker = from.region in
          let g1 = with_numbers cmp (numbered_by cmp interest) g in
          let s1 = sound_numbers cmp matching total equal_is_same (numbered_by cmp interest) g sound in
          let ss2 = to_each (route_to g1 asker interest) g1.faces in
          let g2 = rows_heard cmp ss2 g1 in
          let s2 = sound_routed_on asker interest total equal_is_same g1 s1 in
          let ss3 = to_face n (entities_for cmp matching g2 id interest) g2 in
          let g3 = rows_heard cmp ss3 g2 in
          let quiet3 = each_ruled_one IsQuietMessage n (entities_for cmp matching g2 id interest) g2 (each_entity cmp IsQuietMessage (λ number e i. tt) (λ number e info i. tt) matching g2 id interest) in
          let s3 = sound_quiet cmp matching nobody nothing_left nothing_left ss3 g2 quiet3 s2 in
          let from2 = hears cmp matching ss2 g1 from in
          let from3 = hears cmp matching ss3 g2 from2 in
          let found3 : find_face n g3 ≡ Some from3 = find_mapped n (hears cmp matching ss3 g2) g2.faces from2 (λ f. heard_all-number cmp g2.moment (messages_for f.number ss3) f) (find_mapped n (hears cmp matching ss2 g1) g1.faces from (λ f. heard_all-number cmp g1.moment (messages_for f.number ss2) f) found) in
          let leaves2 = each_message_for cmp (LeavesAsks cmp) from.number ss2 (each_ruled (LeavesAsks cmp) (route_to g1 asker interest) g1.faces (route_leaves cmp matching g1 asker interest)) in
          let leaves3 = each_message_for cmp (LeavesAsks cmp) from2.number ss3 (each_ruled_one (LeavesAsks cmp) n (entities_for cmp matching g2 id interest) g2 (each_entity cmp (LeavesAsks cmp) (λ number e i. tt) (λ number e info i. tt) matching g2 id interest)) in
          let asks_ : from3.asks ≡ from.asks = asks_left g2.moment (messages_for from2.number ss3) from2 leaves3 ∙ asks_left g1.moment (messages_for from.number ss2) from leaves2 in
          let held_ : from3.held ≡ from.held = heard_all-held cmp g2.moment (messages_for from2.number ss3) from2 ∙ heard_all-held cmp g1.moment (messages_for from.number ss2) from in
          let region_ : from3.region ≡ from.region = heard_all-region cmp g2.moment (messages_for from2.number ss3) from2 ∙ heard_all-region cmp g1.moment (messages_for from.number ss2) from in
          let unused_ : is_interest_id_in_use id interest.mode from3 ≡ false =
          ap (λ (rows : ById (InterestRow K)). (is_future interest.mode && has_id id rows) || (is_current interest.mode && has_id id from3.asks)) held_
          ∙ ap (λ (rows : ById (Ask K)). (is_future interest.mode && has_id id from.held) || (is_current interest.mode && has_id id rows)) asks_ ∙ unused in
          sound_held (sent_as g asker interest.mode) n id interest from3 g3 found3 unused_ (λ north. none_sent_north g asker interest.mode (ap is_north (sym region_) ∙ north))
          (λ current.
          each_weaker (λ p. PendingIsKnown g2 (record { mode = interest.mode; face = p.0; id = p.1 })) (λ p. PendingIsKnown g3 (record { mode = interest.mode; face = p.0; id = p.1 }))
          (λ p known. known_goes_on nobody g2 g3 (hears cmp matching ss3 g2) (goes_on_heard cmp matching nobody ss3 g2 (all_named cmp matching ss3 g2 (each_weaker (λ s. IsQuietMessage s.1) (λ s. MakesNoPending s.1) (λ s quiet. none_if_drawn s.1 (drawn_if_quiet s.1 quiet)) ss3 quiet3))) (record { mode = interest.mode; face = p.0; id = p.1 }) known)
          (sent_as g asker interest.mode)
          (subst (Each (λ p. PendingIsKnown g2 (record { mode = interest.mode; face = p.0; id = p.1 }))) (sent_numbered (numbered_by cmp interest) g asker interest.mode) (sent_known asker interest g1 current s1.ordered)))
          s3
