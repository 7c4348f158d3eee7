-- Finals, expiry and entities leave a gateway sound.
use Rattle.std.proofs.Common.{◌≡◌, ℕ, Bool, true, not, if◌then◌else◌, ◌==◌, List, [], ◌∷◌, filter, map, refl, sym, ap, ◌∙◌, subst}
use Rattle.std.specs.Cmp.{IsTotalOrder}
use Rattle.std.specs.List.{flat_map}
use Rattle.std.specs.declared.cmp.Ordering.{Ordering}
use Rattle.std.specs.declared.cmp.Ordering.TheVariants.{Equal}
use Rattle.zt_region.specs.declared.region.Region.{Region}
use Rattle.zt_region.specs.Region.{is_north}
use Rattle.zt_protocol.specs.declared.interests.InterestMode.{InterestMode}
use Rattle.zt_protocol.specs.declared.messages.QueryableInfo.{QueryableInfo}
use Rattle.zt_model.specs.Closing.{expiring, is_expired}
use Rattle.zt_model.specs.Entities.{entity_expressions, with_entities, with_numbers}
use Rattle.zt_model.specs.Hearing.{rows_heard}
use Rattle.zt_model.specs.Lists.{at_id, has_id}
use Rattle.zt_model.specs.Routing.{ended, ending, finish_to, finishing, initial_finalised}
use Rattle.zt_model.specs.Rows.{ById, Face, InterestRow, Rows}
use Rattle.zt_model.specs.Says.{Part, Sends, to_each, with_face}
use Rattle.zt_model.specs.Transcript.{Each}
use Rattle.zt_model.specs.Visible.{rows_of_face}
use Rattle.zt_laws.specs.Order.{HasRowsInOrder}
use Rattle.zt_laws.proofs.CallsOrder.{quiet_moment, quiet_numbers}
use Rattle.zt_laws.specs.Kept.{Told, told_of}
use Rattle.zt_laws.proofs.Faces.{chosen_leaves}
use Rattle.zt_laws.proofs.Hearing.{each_ruled}
use Rattle.zt_laws.proofs.Lists.{each_always, each_filter, each_weaker, of_cond}
use Rattle.zt_laws.proofs.PartsOrder.{quiet_face, rise_without_id}
use Rattle.zt_laws.proofs.Visible.{flat_map_map, live_rows_alike, rows_of_face_alike}
use Rattle.zt_theorem_soundness.specs.Ran.{ran}
use Rattle.zt_theorem_soundness.specs.Sound.{AskIsHeld, IsNamed, IsSoundBut, PendingsOfAskAreKnown, nothing_left}
use Rattle.zt_theorem_soundness.proofs.Going.{FaceGoesOn, IsQuietMessage, ordered_altered, sound_face, sound_quiet, sound_rows_same}
use Rattle.zt_theorem_soundness.proofs.Keeping.{ShowSame, keeps_stays}
use Rattle.zt_theorem_soundness.proofs.Parts.{Spares, nobody, quiet_finish}
use Rattle.zt_theorem_soundness.proofs.Running.{ran-append}
use Rattle.zt_theorem_soundness.proofs.Tokens.{Sound, spares_nothing}

-- a face that declares what it did shows the same
pub with_face_same : {K : Type 0} (n : ℕ) (change : Face K → Face K) (g : Rows K) → ((f : Face K) → (change f).region ≡ f.region) → ((f : Face K) → (change f).live ≡ f.live) → ShowSame g (with_face n change g)
unfolding with_face
with_face_same {K} n change g region_ live_ =
    let chosen = λ (f : Face K). if n == f.number then change f else f in
    record {
      live = live_rows_alike g (map chosen g.faces)
          (flat_map_map rows_of_face chosen g.faces
          (each_always (λ f. rows_of_face (chosen f) ≡ rows_of_face f)
          (λ f. rows_of_face_alike (chosen f) f (chosen_leaves (λ k. k.region) change (n == f.number) f (region_ f)) (chosen_leaves (λ k. k.live) change (n == f.number) f (live_ f))) g.faces));
      refused = refl;
    }

module _ {K : Type 0} (cmp : K → K → Ordering) (matching : K → K → Bool) where
  -- a change of one face that leaves its live and told rows, what it holds and asks, and makes no pending
  pub sound_beside : (but : ℕ → Bool) (unseen untold : Region → K → Bool) (n : ℕ) (change : Face K → Face K) (g : Rows K)
      → ((f : Face K) → told_of (change f) ≡ told_of f)
      → ((f : Face K) → HasRowsInOrder f → HasRowsInOrder (change f))
      → ((f : Face K) → (change f).region ≡ f.region) → ((f : Face K) → (change f).held ≡ f.held) → ((f : Face K) → (change f).live ≡ f.live) → ((f : Face K) → (change f).asks ≡ f.asks)
      → ((f : Face K) (mode : InterestMode) (id : ℕ) → IsNamed mode id f → IsNamed mode id (change f))
      → IsSoundBut cmp matching but unseen untold g → IsSoundBut cmp matching but unseen untold (with_face n change g)
  sound_beside but unseen untold n change g told_ rows_ region_ held_ live_ asks_ named_ sound =
      sound_face cmp matching but unseen untold unseen untold n change g
      (quiet_face cmp matching n change told_ rows_)
      (each_always (λ f. (n == f.number) ≡ true → FaceGoesOn but g f (change f))
      (λ f here. record {
        number = ap (λ (t : Told K). t.number) (told_ f);
        region = region_ f;
        named = named_ f;
        held = λ _ all. subst (Each (AskIsHeld (change f))) (sym (asks_ f)) (each_weaker (AskIsHeld f) (AskIsHeld (change f))
            (λ row own. record {
              current = own.current;
              held = λ future. ap (λ (rows : ById (InterestRow K)). at_id row.0 rows) (held_ f) ∙ own.held future;
              from_south = λ north. own.from_south (ap is_north (sym (region_ f)) ∙ north);
            }) f.asks all);
        pendings = λ all. subst (Each (PendingsOfAskAreKnown g)) (sym (asks_ f)) all;
        live = λ _ none_. live_ f ∙ none_;
      }) g.faces)
      (λ f k stays right. keeps_stays cmp matching unseen untold g (with_face n change g) f k (with_face_same n change g region_ live_) stays right)
      (λ f. record { region = region_ f; told = ap (λ (t : Told K). t.rows) (told_ f); held = held_ f })
      sound

  -- ---- the end of a pending

  pub sound_ended : (but : ℕ → Bool) (unseen untold : Region → K → Bool) (spare : Sends K → Sends K) (n id : ℕ) (g : Rows K) → Spares but spare → IsSoundBut cmp matching but unseen untold g
      → (let h = with_face n (ended id) g in IsSoundBut cmp matching but unseen untold (rows_heard cmp (spare (to_each (finish_to h n id) h.faces)) h))
  sound_ended but unseen untold spare n id g spares sound =
      let h = with_face n (ended id) g in
      sound_quiet cmp matching but unseen untold (spare (to_each (finish_to h n id) h.faces)) h (spares.quiet (to_each (finish_to h n id) h.faces) (each_ruled IsQuietMessage (finish_to h n id) h.faces (quiet_finish h n id)))
      (sound_beside but unseen untold n (ended id) g (λ f. refl)
      (λ f rows. record { live = rows.live; held = rows.held; locals = rows.locals; pendings = rise_without_id id f.pendings rows.pendings; asks = rows.asks })
      (λ f. refl) (λ f. refl) (λ f. refl) (λ f. refl)
      (λ f mode k is. record { below = is.below; of_mode = each_filter (λ row. (k == row.0) ≡ true → row.1.mode ≡ mode) (λ row. not (id == row.0)) f.pendings is.of_mode })
      sound)

  module _ (total : IsTotalOrder cmp) (equal_is_same : (a b : K) → cmp a b ≡ Equal → a ≡ b) where
    sound_ending : (n id : ℕ) (g : Rows K) → Sound cmp matching total equal_is_same g → Sound cmp matching total equal_is_same (ran cmp (ending n id) g)
    unfolding ran
    sound_ending n id g sound = sound_ended nobody nothing_left nothing_left (λ ss. ss) n id g spares_nothing sound

    -- parts of which each leaves a gateway sound
    pub sound_all : {A : Type 0} (parts : A → List (Part K)) (xs : List A) → ((x : A) (g : Rows K) → Sound cmp matching total equal_is_same g → Sound cmp matching total equal_is_same (ran cmp (parts x) g)) → (g : Rows K) → Sound cmp matching total equal_is_same g
        → Sound cmp matching total equal_is_same (ran cmp (flat_map parts xs) g)
    unfolding ran
    sound_all parts [] one g sound = sound
    sound_all parts (x ∷ xs) one g sound = subst (Sound cmp matching total equal_is_same) (sym (ran-append cmp (parts x) (flat_map parts xs) g)) (sound_all parts xs one (ran cmp (parts x) g) (one x g sound))

    pub sound_finishing : (n id : ℕ) (f : Face K) (g : Rows K) → Sound cmp matching total equal_is_same g → Sound cmp matching total equal_is_same (ran cmp (finishing n id f) g)
    unfolding ran
    sound_finishing n id f g sound =
        let h = with_face n (initial_finalised id) g in
        let one = sound_beside nobody nothing_left nothing_left n (initial_finalised id) g (λ k. refl) (λ k rows. record { live = rows.live; held = rows.held; locals = rows.locals; pendings = rows.pendings; asks = rows.asks })
        (λ k. refl) (λ k. refl) (λ k. refl) (λ k. refl) (λ k mode i is. record { below = is.below; of_mode = is.of_mode }) sound in
        of_cond (λ (parts : List (Part K)). Sound cmp matching total equal_is_same (ran cmp parts h)) (has_id id f.pendings) (ending n id) [] (λ _. sound_ending n id h one) (λ _. one)

    pub sound_expiring : (now : ℕ) (g : Rows K) → Sound cmp matching total equal_is_same g → Sound cmp matching total equal_is_same (ran cmp (expiring now g) g)
    unfolding ran
    sound_expiring now g sound =
        let h = record g { moment = now } in
        let one = sound_rows_same cmp matching nobody nothing_left nothing_left g h refl refl refl (ordered_altered cmp matching (λ (k : Rows K). record k { moment = now }) g (quiet_moment cmp matching now) sound.ordered) (record { live = refl; refused = refl }) sound in
        sound_all (λ f. flat_map (λ row. ending f.number row.0) (filter (is_expired now g.timeout) f.pendings)) g.faces
        (λ f k fine. sound_all (λ row. ending f.number row.0) (filter (is_expired now g.timeout) f.pendings) (λ row x right. sound_ending f.number row.0 x right) k fine) h one

    -- ---- entities

    pub sound_numbers : (es : List K) (g : Rows K) → Sound cmp matching total equal_is_same g → Sound cmp matching total equal_is_same (with_numbers cmp es g)
    sound_numbers es g sound =
        sound_rows_same cmp matching nobody nothing_left nothing_left g (with_numbers cmp es g) refl refl refl (ordered_altered cmp matching (with_numbers cmp es) g (quiet_numbers cmp matching total es) sound.ordered) (record { live = refl; refused = refl }) sound

    pub sound_entities : (n : ℕ) (subscribers : List K) (queryables : List (K × QueryableInfo)) (g : Rows K) → Sound cmp matching total equal_is_same g → Sound cmp matching total equal_is_same (with_entities cmp n subscribers queryables g)
    sound_entities n subscribers queryables g sound =
        let es = entity_expressions cmp subscribers queryables in
        sound_beside nobody nothing_left nothing_left n (λ f. record f { subscribers = subscribers; queryables = queryables }) (with_numbers cmp es g) (λ k. refl) (λ k rows. record { live = rows.live; held = rows.held; locals = rows.locals; pendings = rows.pendings; asks = rows.asks })
        (λ k. refl) (λ k. refl) (λ k. refl) (λ k. refl) (λ k mode i is. record { below = is.below; of_mode = is.of_mode }) (sound_numbers es g sound)
