-- Interests and their ends leave a gateway sound.
use Rattle.std.proofs.Common.{◌≡◌, ℕ, ◌≤◌, Bool, true, false, not, if◌then◌else◌, ◌&&◌, ◌==◌, List, map, Option, Some, refl, sym, ap, ◌∙◌, subst, arith, eqb-true}
use Rattle.std.proofs.lemmas.Bool.{and_from}
use Rattle.std.specs.Cmp.{IsTotalOrder}
use Rattle.std.specs.declared.cmp.Ordering.{Ordering}
use Rattle.std.specs.declared.cmp.Ordering.TheVariants.{Equal}
use Rattle.zt_region.specs.Region.{is_north}
use Rattle.zt_protocol.specs.Interest.{is_current, is_future}
use Rattle.zt_protocol.specs.declared.messages.Message.{Message}
use Rattle.zt_model.specs.Hearing.{heard_all, rows_heard}
use Rattle.zt_model.specs.Lists.{at_id, is_some_and, without_id}
use Rattle.zt_model.specs.Routing.{end_upstream_to, final_of_both, finalising, unheld, untell_to}
use Rattle.zt_model.specs.Rows.{Ask, ById, Face, InterestRow, Rows}
use Rattle.zt_model.specs.Says.{find_face, is_routed, to_each, to_face, with_face}
use Rattle.zt_model.specs.Transcript.{Each}
use Rattle.zt_laws.specs.Order.{HasRowsInOrder, RowsAreInOrder}
use Rattle.zt_laws.specs.Sound.{IsToldInOrder}
use Rattle.zt_laws.proofs.Faces.{with_face_twice}
use Rattle.zt_laws.proofs.Hearing.{each_ruled_one, find_only, heard_all-held, heard_all-live, heard_all-number, heard_all-region, rows_heard-to_face}
use Rattle.zt_laws.proofs.Lists.{by_test, each_both, each_filter, each_passes, each_weaker, never, of_cond}
use Rattle.zt_laws.proofs.PartsOrder.{quiet_face, rise_without_id, rows_in_order_heard_all}
use Rattle.zt_laws.proofs.Said.{with_face_rises}
use Rattle.zt_laws.proofs.Silent.{silent_final_of_both, silent_untell}
use Rattle.zt_laws.proofs.ToldOrder.{DrawsNothing}
use Rattle.zt_theorem_soundness.specs.Ran.{ran}
use Rattle.zt_theorem_soundness.specs.Sound.{AskIsHeld, KeepsBut, PendingsOfAskAreKnown, nothing_left}
use Rattle.zt_theorem_soundness.proofs.Answered.{keeps_finalised}
use Rattle.zt_theorem_soundness.proofs.ById.{at_without_other, each_at}
use Rattle.zt_theorem_soundness.proofs.Ends.{with_face_same}
use Rattle.zt_theorem_soundness.proofs.Going.{FaceGoesOn, MakesNoPending, asks_heard, goes_on_itself, named_heard, none_if_drawn, ordered_altered, silent_ordered, sound_goes_on, sound_quiet}
use Rattle.zt_theorem_soundness.proofs.Keeping.{ShowSame, keeps_stays, stays_itself}
use Rattle.zt_theorem_soundness.proofs.Parts.{each_end_upstream, nobody}
use Rattle.zt_theorem_soundness.proofs.Tokens.{Sound}

module _ {K : Type 0} where
  pub with_face_faces : (n : ℕ) (change : Face K → Face K) (g : Rows K) → (with_face n change g).faces ≡ map (λ f. if n == f.number then change f else f) g.faces
  unfolding with_face
  with_face_faces n change g = refl

  pub with_face_made : (n : ℕ) (change : Face K → Face K) (g : Rows K) → g.made ≤ (with_face n change g).made
  unfolding with_face
  with_face_made n change g = omega arith

  pub with_face_mode : (n : ℕ) (change : Face K → Face K) (g : Rows K) → (with_face n change g).mode ≡ g.mode
  unfolding with_face
  with_face_mode n change g = refl

module _ {K : Type 0} (cmp : K → K → Ordering) (matching : K → K → Bool) where
  -- ---- one face is changed, and hears twice what is for it alone

  pub face_hears_twice : (n : ℕ) (change : Face K → Face K) (one two : Face K → List (Message K)) (g : Rows K) → RowsAreInOrder cmp matching g → ((f : Face K) → (change f).number ≡ f.number)
      → (let h = with_face n change g in
      let k = rows_heard cmp (to_face n one h) h in
      rows_heard cmp (to_face n two k) k
      ≡ with_face n (λ f. let a = change f in let b = heard_all cmp g.moment (one a) a in heard_all cmp g.moment (two b) b) g)
  unfolding with_face
  face_hears_twice n change one two g ordered number_ =
      let h = with_face n change g in
      let first = λ (f : Face K). heard_all cmp g.moment (one f) f in
      let second = λ (f : Face K). heard_all cmp g.moment (two f) f in
      let rises = with_face_rises n change g number_ ordered.lists.faces_rise in
      let first_number = λ (f : Face K). heard_all-number cmp g.moment (one f) f in
      let one_ : rows_heard cmp (to_face n one h) h ≡ with_face n first h = rows_heard-to_face cmp 1 n one h rises in
      ap (λ (k : Rows K). rows_heard cmp (to_face n two k) k) one_
      ∙ rows_heard-to_face cmp 1 n two (with_face n first h) (with_face_rises n first h first_number rises)
      ∙ with_face_twice n first second h first_number
      ∙ with_face_twice n change (λ f. second (first f)) g number_

  -- ---- the end of an interest

  module _ (at : Rows K) (now id : ℕ) (interest : InterestRow K) (f : Face K) where
    abbrev untold_face : Face K
    untold_face = heard_all cmp now (untell_to cmp matching at (unheld id f)) (unheld id f)

    abbrev pub finalised_face : Face K
    finalised_face = heard_all cmp now (final_of_both id interest untold_face) untold_face

    abbrev ends_ask : Face K → Bool
    ends_ask k = is_current interest.mode && is_some_and (at_id id k.asks) (λ ask. is_future ask.interest.mode)

    final_asks : (k : Face K) → (heard_all cmp now (final_of_both id interest k) k).asks ≡ (if ends_ask k then without_id id k.asks else k.asks)
    unfolding heard_all
    final_asks k = by_test (ends_ask k) (λ here. rw here refl) (λ here. rw here refl)

    asks_ended : HasRowsInOrder f → at_id id f.held ≡ Some interest → Each (AskIsHeld f) f.asks → Each (AskIsHeld finalised_face) finalised_face.asks
    asks_ended rows held_ all =
        let two = untold_face in
        let three = finalised_face in
        let unheld_rows : HasRowsInOrder (unheld id f) = record { live = rows.live; held = rise_without_id id f.held rows.held; locals = rows.locals; pendings = rows.pendings; asks = rows.asks } in
        let two_rows = rows_in_order_heard_all cmp now (untell_to cmp matching at (unheld id f)) (unheld id f) unheld_rows in
        let all_two : Each (AskIsHeld f) two.asks = asks_heard cmp (AskIsHeld f) (λ row es one. record { current = one.current; held = one.held; from_south = one.from_south }) now (untell_to cmp matching at (unheld id f)) (unheld id f) all in
        let region_ : three.region ≡ f.region = heard_all-region cmp now (final_of_both id interest two) two ∙ heard_all-region cmp now (untell_to cmp matching at (unheld id f)) (unheld id f) in
        let held_three : three.held ≡ without_id id f.held = heard_all-held cmp now (final_of_both id interest two) two ∙ heard_all-held cmp now (untell_to cmp matching at (unheld id f)) (unheld id f) in
        let ends = of_cond (Each (λ row. AskIsHeld f row × ((id == row.0) ≡ true → is_future row.1.interest.mode ≡ false))) (ends_ask two) (without_id id two.asks) two.asks
        (λ _. each_both (AskIsHeld f) (λ row. not (id == row.0) ≡ true) (λ row. AskIsHeld f row × ((id == row.0) ≡ true → is_future row.1.interest.mode ≡ false))
        (λ row one other. (one, λ hit. never other (ap not hit))) (without_id id two.asks) (each_filter (AskIsHeld f) (λ row. not (id == row.0)) two.asks all_two) (each_passes (λ row. not (id == row.0)) two.asks))
        (λ stays. each_both (AskIsHeld f) (λ row. at_id row.0 two.asks ≡ Some row.1) (λ row. AskIsHeld f row × ((id == row.0) ≡ true → is_future row.1.interest.mode ≡ false))
        (λ row one at_. (one, λ hit. by_test (is_future row.1.interest.mode) (λ later. never (both_end row one (eqb-true id row.0 hit) at_ later) stays) (λ now_. now_)))
        two.asks all_two (each_at 0 two.asks two_rows.asks)) in
        each_weaker (λ row. AskIsHeld f row × ((id == row.0) ≡ true → is_future row.1.interest.mode ≡ false)) (AskIsHeld three)
        (λ row both. record {
          current = both.0.current;
          held = λ later.
              ap (λ (rows_ : ById (InterestRow K)). at_id row.0 rows_) held_three
              ∙ at_without_other row.0 id f.held (by_test (id == row.0) (λ hit. never later (both.1 hit)) (λ miss. miss))
              ∙ both.0.held later;
          from_south = λ north. both.0.from_south (ap is_north (sym region_) ∙ north);
        })
        three.asks (subst (Each (λ row. AskIsHeld f row × ((id == row.0) ≡ true → is_future row.1.interest.mode ≡ false))) (sym (final_asks two)) ends)
      where
        both_end : (row : ℕ × Ask K) → AskIsHeld f row → id ≡ row.0 → at_id row.0 untold_face.asks ≡ Some row.1 → is_future row.1.interest.mode ≡ true → ends_ask untold_face ≡ true
        both_end row one is at_ later =
            let held_too : at_id id f.held ≡ Some row.1.interest = ap (λ k. at_id k f.held) is ∙ one.held later in
            let e : Some interest ≡ Some row.1.interest = sym held_ ∙ held_too in
            let same_ : interest ≡ row.1.interest = cc in
            and_from (is_current interest.mode) (is_some_and (at_id id untold_face.asks) (λ ask. is_future ask.interest.mode)) (ap (λ (i : InterestRow K). is_current i.mode) same_ ∙ one.current)
            (ap (λ k. is_some_and (at_id k untold_face.asks) (λ ask. is_future ask.interest.mode)) is ∙ ap (λ (o : Option (Ask K)). is_some_and o (λ ask. is_future ask.interest.mode)) at_ ∙ later)

    pub finalised_goes_on : (g : Rows K) → HasRowsInOrder f → at_id id f.held ≡ Some interest → FaceGoesOn nobody g f finalised_face
    finalised_goes_on g rows held_ =
        let two = untold_face in
        let untells = untell_to cmp matching at (unheld id f) in
        let finals = final_of_both id interest two in
        record {
          number = heard_all-number cmp now finals two ∙ heard_all-number cmp now untells (unheld id f);
          region = heard_all-region cmp now finals two ∙ heard_all-region cmp now untells (unheld id f);
          named = λ mode k is.
              named_heard cmp mode k now finals two (each_weaker DrawsNothing MakesNoPending none_if_drawn finals (silent_final_of_both id interest two))
              (named_heard cmp mode k now untells (unheld id f) (each_weaker DrawsNothing MakesNoPending none_if_drawn untells (silent_untell cmp matching at (unheld id f))) (record { below = is.below; of_mode = is.of_mode }));
          held = λ _ all. asks_ended rows held_ all;
          pendings = λ all. asks_heard cmp (PendingsOfAskAreKnown g) (λ row es one. one) now finals two (asks_heard cmp (PendingsOfAskAreKnown g) (λ row es one. one) now untells (unheld id f) all);
          live = λ _ none_. heard_all-live cmp now finals two ∙ heard_all-live cmp now untells (unheld id f) ∙ none_;
        }

  module _ (total : IsTotalOrder cmp) (equal_is_same : (a b : K) → cmp a b ≡ Equal → a ≡ b) where
    pub sound_finalised : (n id : ℕ) (interest : InterestRow K) (from : Face K) (g : Rows K) → find_face n g ≡ Some from → at_id id from.held ≡ Some interest → Sound cmp matching total equal_is_same g → Sound cmp matching total equal_is_same (ran cmp (finalising cmp matching n id interest) g)
    unfolding ran
    sound_finalised n id interest from g found held_ sound =
        let h1 = with_face n (unheld id) g in
        let ss2 = to_face n (untell_to cmp matching h1) h1 in
        let h2 = rows_heard cmp ss2 h1 in
        let ss3 = to_face n (final_of_both id interest) h2 in
        let h3 = rows_heard cmp ss3 h2 in
        let o1 = ordered_altered cmp matching (with_face n (unheld id)) g (quiet_face cmp matching n (unheld id) (λ k. refl) (λ k rows. record { live = rows.live; held = rise_without_id id k.held rows.held; locals = rows.locals; pendings = rows.pendings; asks = rows.asks })) sound.ordered in
        let o2 = silent_ordered cmp matching ss2 h1 (each_ruled_one DrawsNothing n (untell_to cmp matching h1) h1 (silent_untell cmp matching h1)) o1 in
        let o3 = silent_ordered cmp matching ss3 h2 (each_ruled_one DrawsNothing n (final_of_both id interest) h2 (silent_final_of_both id interest)) o2 in
        let is : h3 ≡ with_face n (finalised_face (with_face n (unheld id) g) g.moment id interest) g = face_hears_twice n (unheld id) (untell_to cmp matching h1) (final_of_both id interest) g sound.ordered (λ f. refl) in
        let sound_three = composite (subst (RowsAreInOrder cmp matching) is o3) in
        sound_quiet cmp matching nobody nothing_left nothing_left (to_each (end_upstream_to cmp matching h3 interest) h3.faces) h3 (each_end_upstream cmp matching h3 interest) (subst (Sound cmp matching total equal_is_same) (sym is) sound_three)
      where
        composite : RowsAreInOrder cmp matching (with_face n (finalised_face (with_face n (unheld id) g) g.moment id interest) g) → Sound cmp matching total equal_is_same (with_face n (finalised_face (with_face n (unheld id) g) g.moment id interest) g)
        composite ordered =
            let three = finalised_face (with_face n (unheld id) g) g.moment id interest in
            let chosen = λ (f : Face K). if n == f.number then three f else f in
            let h = with_face n three g in
            let facts = each_both (λ f. (n == f.number) ≡ true → f ≡ from) HasRowsInOrder (λ f. ((n == f.number) ≡ true → f ≡ from) × HasRowsInOrder f) (λ f a b. (a, b)) g.faces (find_only n 1 g.faces from sound.ordered.lists.faces_rise found) sound.ordered.lists.rows in
            let goes = each_weaker (λ f. ((n == f.number) ≡ true → f ≡ from) × HasRowsInOrder f) (λ f. FaceGoesOn nobody g f (chosen f))
            (λ f both. of_cond (FaceGoesOn nobody g f) (n == f.number) (three f) f (λ here. finalised_goes_on (with_face n (unheld id) g) g.moment id interest f g both.1 (ap (λ (k : Face K). at_id id k.held) (both.0 here) ∙ held_)) (λ _. goes_on_itself nobody g f)) g.faces facts in
            let shows_same : ShowSame g h = with_face_same n three g (λ f. heard_all-region cmp g.moment (final_of_both id interest (untold_face (with_face n (unheld id) g) g.moment id interest f)) (untold_face (with_face n (unheld id) g) g.moment id interest f) ∙ heard_all-region cmp g.moment (untell_to cmp matching (with_face n (unheld id) g) (unheld id f)) (unheld id f))
            (λ f. heard_all-live cmp g.moment (final_of_both id interest (untold_face (with_face n (unheld id) g) g.moment id interest f)) (untold_face (with_face n (unheld id) g) g.moment id interest f) ∙ heard_all-live cmp g.moment (untell_to cmp matching (with_face n (unheld id) g) (unheld id f)) (unheld id f)) in
            sound_goes_on cmp matching nobody nothing_left nothing_left nothing_left nothing_left g h chosen (record { faces = with_face_faces n three g; made = with_face_made n three g; mode = with_face_mode n three g; each = goes }) ordered
            (each_weaker (λ f. IsToldInOrder cmp f.told f.next) (λ f. is_routed g f ≡ false → false ≡ false → KeepsBut cmp matching nothing_left nothing_left g f → KeepsBut cmp matching nothing_left nothing_left h (chosen f))
            (λ f told _ _ right.
            of_cond (KeepsBut cmp matching nothing_left nothing_left h) (n == f.number) (three f) f
            (λ here. keeps_stays cmp matching nothing_left nothing_left g h (three f) (three f) shows_same (stays_itself (three f)) (keeps_finalised cmp matching total equal_is_same (with_face n (unheld id) g) g.moment id interest g f told right))
            (λ _. keeps_stays cmp matching nothing_left nothing_left g h f f shows_same (stays_itself f) right)) g.faces sound.ordered.told)
            sound
