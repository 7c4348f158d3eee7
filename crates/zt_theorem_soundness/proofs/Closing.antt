-- Closing a face leaves a gateway sound: the others hear all that its leaving says.
use Rattle.std.proofs.Common.{◌≡◌, ℕ, Bool, true, false, not, if◌then◌else◌, ◌==◌, List, [], ◌∷◌, ◌++◌, filter, map, Option, Some, None, refl, sym, ap, ◌∙◌, subst, eq-eqb}
use Rattle.std.proofs.lemmas.Bool.{not-true}
use Rattle.std.specs.Cmp.{IsTotalOrder}
use Rattle.std.specs.List.{flat_map}
use Rattle.std.specs.declared.cmp.Ordering.{Ordering}
use Rattle.std.specs.declared.cmp.Ordering.TheVariants.{Equal}
use Rattle.zt_region.specs.declared.region.Region.{Region}
use Rattle.zt_protocol.specs.declared.interests.InterestMode.{InterestMode}
use Rattle.zt_protocol.specs.declared.messages.Message.{Message}
use Rattle.zt_model.specs.Closing.{closing, leaving, without_asks, without_face}
use Rattle.zt_model.specs.Hearing.{messages_for, rows_heard}
use Rattle.zt_model.specs.Lists.{at_id, without_id}
use Rattle.zt_model.specs.Parts.{unsaid_to}
use Rattle.zt_model.specs.Routing.{end_upstream_to, ended, ending, final_of_both, finalising, finish_to, unheld, untell_to}
use Rattle.zt_model.specs.Rows.{ById, Face, InterestRow, Pending, Rows}
use Rattle.zt_model.specs.Says.{Alter, Part, Say, Sends, find_face, forget_to, is_routed, to_each, to_face, undeclared, undeclaring, unregistered, with_face}
use Rattle.zt_model.specs.Transcript.{Each}
use Rattle.zt_model.specs.Trees.{hide_to, hiding, without_own_rows}
use Rattle.zt_model.specs.Visible.{routed_rows, rows_of_face}
use Rattle.zt_laws.specs.Order.{HasRowsInOrder}
use Rattle.zt_laws.specs.Sound.{IsToldInOrder, RiseFrom}
use Rattle.zt_laws.proofs.CallsOrder.{without_face_in_order}
use Rattle.zt_laws.proofs.Faces.{chosen_leaves}
use Rattle.zt_laws.proofs.Hearing.{find_each, find_only, find_passes, heard_all-live, heard_all-number, heard_all-region, rows_heard_nothing}
use Rattle.zt_laws.proofs.Lists.{by_test, each_always, each_both, each_filter, each_map, each_passes, each_weaker, never, of_cond}
use Rattle.zt_laws.proofs.PartsOrder.{IsQuiet, quiet_face, rise_without_id}
use Rattle.zt_laws.proofs.Registering.{messages_but_for}
use Rattle.zt_laws.proofs.ToldOrder.{DrawsNothing}
use Rattle.zt_laws.proofs.Visible.{at_only}
use Rattle.zt_theorem_soundness.specs.Ran.{ran}
use Rattle.zt_theorem_soundness.specs.Sound.{AskIsHeld, IsNamed, IsSoundBut, KeepsBut, PendingIsKnown, PendingsOfAskAreKnown, named_by_ask, nothing_left}
use Rattle.zt_theorem_soundness.proofs.ById.{each_at, find_mapped, without_first}
use Rattle.zt_theorem_soundness.proofs.Ends.{sound_ended, with_face_same}
use Rattle.zt_theorem_soundness.proofs.Going.{FaceGoesOn, IsQuietMessage, goes_on_itself, hears, ordered_altered, sound_goes_on, sound_quiet}
use Rattle.zt_theorem_soundness.proofs.Interests.{with_face_faces, with_face_made, with_face_mode}
use Rattle.zt_theorem_soundness.proofs.Keeping.{ShowSame, keeps_stays, stays_itself}
use Rattle.zt_theorem_soundness.proofs.Parts.{Spares, each_end_upstream, only, sound_forgot, sound_hid, sound_unregistered}
use Rattle.zt_theorem_soundness.proofs.Running.{ran-append}
use Rattle.zt_theorem_soundness.proofs.Tokens.{Sound}

module _ {K : Type 0} where
  -- what is said, but for what is said to one face
  abbrev pub unsaid : ℕ → Sends K → Sends K
  unsaid n ss = filter (λ s. not (n == s.0)) ss

  pub spares_one : (cmp : K → K → Ordering) (matching : K → K → Bool) (n : ℕ) → Spares (only n) (unsaid n)
  spares_one cmp matching n = record {
    quiet = λ ss all. each_filter (λ s. IsQuietMessage s.1) (λ s. not (n == s.0)) ss all;
    silent = λ ss all. each_filter (λ s. DrawsNothing s.1) (λ s. not (n == s.0)) ss all;
    speaks = λ k ss apart. messages_but_for cmp matching n k ss ∙ ap (λ b. if b then [] else messages_for k ss) apart;
  }

  unsaid-append : (n : ℕ) (ps qs : List (Part K)) → unsaid_to n (ps ++ qs) ≡ unsaid_to n ps ++ unsaid_to n qs
  unfolding unsaid_to
  unsaid-append n [] qs = refl
  unsaid-append n (Alter change ∷ ps) qs = ap (λ rest. Alter change ∷ rest) (unsaid-append n ps qs)
  unsaid-append n (Say rule ∷ ps) qs = ap (λ rest. Say (λ g. unsaid n (rule g)) ∷ rest) (unsaid-append n ps qs)

  none_own : (n : ℕ) (ms : List (Message K)) → unsaid n (map (λ m. (n, m)) ms) ≡ []
  none_own n [] = refl
  none_own n (m ∷ ms) = rw (eq-eqb n n refl) (none_own n ms)

  -- nothing is left of what is said to that face
  none_said : (n : ℕ) (rule : Face K → List (Message K)) (g : Rows K) → unsaid n (to_face n rule g) ≡ []
  unfolding to_face
  none_said n rule g = cases (find_face n g)
    where
      cases : (o : Option (Face K)) → unsaid n (elim o [ None ↦ [] | Some f ↦ map (λ m. (n, m)) (rule f) ]) ≡ []
      cases None = refl
      cases (Some f) = none_own n (rule f)

  -- the face that leaves declares nothing any more
  abbrev pub DeclaresNothing : ℕ → Rows K → Type 0
  DeclaresNothing n g = Each (λ f. (n == f.number) ≡ true → f.live ≡ []) g.faces

  nothing_mapped : (n : ℕ) (change : Face K → Face K) (fs : List (Face K)) → ((f : Face K) → (change f).number ≡ f.number) → ((f : Face K) → (change f).live ≡ f.live) → Each (λ f. (n == f.number) ≡ true → f.live ≡ []) fs → Each (λ f. (n == f.number) ≡ true → f.live ≡ []) (map change fs)
  nothing_mapped n change fs number_ live_ none_ =
      each_map (λ f. (n == f.number) ≡ true → f.live ≡ []) change fs
      (each_weaker (λ f. (n == f.number) ≡ true → f.live ≡ []) (λ f. (n == (change f).number) ≡ true → (change f).live ≡ []) (λ f one hit. live_ f ∙ one (ap (λ k. n == k) (sym (number_ f)) ∙ hit)) fs none_)

  pub nothing_changed : (n k : ℕ) (change : Face K → Face K) (g : Rows K) → ((f : Face K) → (change f).number ≡ f.number) → ((f : Face K) → (change f).live ≡ f.live) → DeclaresNothing n g → DeclaresNothing n (with_face k change g)
  unfolding with_face
  nothing_changed n k change g number_ live_ none_ =
      nothing_mapped n (λ f. if k == f.number then change f else f) g.faces (λ f. chosen_leaves (λ x. x.number) change (k == f.number) f (number_ f)) (λ f. chosen_leaves (λ x. x.live) change (k == f.number) f (live_ f)) none_

module _ {K : Type 0} (cmp : K → K → Ordering) (matching : K → K → Bool) where
  nothing_heard : (n : ℕ) (ss : Sends K) (g : Rows K) → DeclaresNothing n g → DeclaresNothing n (rows_heard cmp ss g)
  unfolding rows_heard
  nothing_heard n ss g none_ = nothing_mapped n (hears cmp matching ss g) g.faces (λ f. heard_all-number cmp g.moment (messages_for f.number ss) f) (λ f. heard_all-live cmp g.moment (messages_for f.number ss) f) none_

  abbrev Beside : ℕ → Rows K → Type 0
  Beside n g = IsSoundBut cmp matching (only n) nothing_left nothing_left g

  -- a change of the face that leaves, of what it holds and asks alone
  sound_aside : (n : ℕ) (change : Face K → Face K) (g : Rows K) → IsQuiet cmp matching (with_face n change)
      → ((f : Face K) → (change f).number ≡ f.number) → ((f : Face K) → (change f).region ≡ f.region) → ((f : Face K) → (change f).live ≡ f.live)
      → ((f : Face K) (mode : InterestMode) (id : ℕ) → IsNamed mode id f → IsNamed mode id (change f))
      → ((f : Face K) → Each (PendingsOfAskAreKnown g) f.asks → Each (PendingsOfAskAreKnown g) (change f).asks)
      → Beside n g → Beside n (with_face n change g)
  sound_aside n change g quiet number_ region_ live_ named_ asks_ sound =
      let chosen = λ (f : Face K). if n == f.number then change f else f in
      let h = with_face n change g in
      sound_goes_on cmp matching (only n) nothing_left nothing_left nothing_left nothing_left g h chosen
      (record {
        faces = with_face_faces n change g;
        made = with_face_made n change g;
        mode = with_face_mode n change g;
        each = each_always (λ f. FaceGoesOn (only n) g f (chosen f))
            (λ f. of_cond (FaceGoesOn (only n) g f) (n == f.number) (change f) f
            (λ here. record { number = number_ f; region = region_ f; named = named_ f; held = λ apart _. never here apart; pendings = asks_ f; live = λ _ none_. live_ f ∙ none_ })
            (λ _. goes_on_itself (only n) g f)) g.faces;
      })
      (ordered_altered cmp matching (with_face n change) g quiet sound.ordered)
      (each_always (λ f. is_routed g f ≡ false → (n == f.number) ≡ false → KeepsBut cmp matching nothing_left nothing_left g f → KeepsBut cmp matching nothing_left nothing_left h (chosen f))
      (λ f _ apart right. subst (KeepsBut cmp matching nothing_left nothing_left h) (sym (ap (λ b. if b then change f else f) apart)) (keeps_stays cmp matching nothing_left nothing_left g h f f (with_face_same n change g region_ live_) (stays_itself f) right)) g.faces)
      sound

  -- ---- what it holds

  module _ (total : IsTotalOrder cmp) (equal_is_same : (a b : K) → cmp a b ≡ Equal → a ≡ b) where
    abbrev Left : ℕ → Rows K → Type 0
    Left n g = Beside n g × DeclaresNothing n g

    left_final : (n id : ℕ) (interest : InterestRow K) (g : Rows K) → Left n g → Left n (ran cmp (unsaid_to n (finalising cmp matching n id interest)) g)
    unfolding ran unsaid_to
    left_final n id interest g left =
        let h = with_face n (unheld id) g in
        let s1 = sound_aside n (unheld id) g (quiet_face cmp matching n (unheld id) (λ k. refl) (λ k rows. record { live = rows.live; held = rise_without_id id k.held rows.held; locals = rows.locals; pendings = rows.pendings; asks = rows.asks }))
        (λ f. refl) (λ f. refl) (λ f. refl) (λ f mode k is. record { below = is.below; of_mode = is.of_mode }) (λ f all. all) left.0 in
        let n1 = nothing_changed n n (unheld id) g (λ f. refl) (λ f. refl) left.1 in
        let ss = unsaid n (to_each (end_upstream_to cmp matching h interest) h.faces) in
        let done : Left n (rows_heard cmp ss h) = (sound_quiet cmp matching (only n) nothing_left nothing_left ss h ((spares_one cmp matching n).quiet (to_each (end_upstream_to cmp matching h interest) h.faces) (each_end_upstream cmp matching h interest)) s1, nothing_heard n ss h n1) in
        let silent_two : (k : Rows K) → k ≡ h → Left n (rows_heard cmp (unsaid n (to_each (end_upstream_to cmp matching k interest) k.faces)) k) = λ k is. subst (λ x. Left n (rows_heard cmp (unsaid n (to_each (end_upstream_to cmp matching x interest) x.faces)) x)) (sym is) done in
        let h2 = rows_heard cmp (unsaid n (to_face n (untell_to cmp matching h) h)) h in
        let is2 : h2 ≡ h = ap (λ ss. rows_heard cmp ss h) (none_said n (untell_to cmp matching h) h) ∙ rows_heard_nothing cmp h in
        let is3 : rows_heard cmp (unsaid n (to_face n (final_of_both id interest) h2)) h2 ≡ h = ap (λ ss. rows_heard cmp ss h2) (none_said n (final_of_both id interest) h2) ∙ rows_heard_nothing cmp h2 ∙ is2 in
        silent_two (rows_heard cmp (unsaid n (to_face n (final_of_both id interest) h2)) h2) is3

    left_finals : (n : ℕ) (rows : ById (InterestRow K)) (g : Rows K) → Left n g → Left n (ran cmp (unsaid_to n (flat_map (λ row. finalising cmp matching n row.0 row.1) rows)) g)
    unfolding ran unsaid_to
    left_finals n [] g left = left
    left_finals n (row ∷ rows) g left =
        let one = unsaid_to n (finalising cmp matching n row.0 row.1) in
        let rest = flat_map (λ row. finalising cmp matching n row.0 row.1) rows in
        subst (λ parts. Left n (ran cmp parts g)) (sym (unsaid-append n (finalising cmp matching n row.0 row.1) rest))
        (subst (Left n) (sym (ran-append cmp one (unsaid_to n rest) g)) (left_finals n rows (ran cmp one g) (left_final n row.0 row.1 g left)))

    -- ---- its pendings

    left_ending : (n id : ℕ) (g : Rows K) → Left n g → Left n (ran cmp (unsaid_to n (ending n id)) g)
    unfolding ran unsaid_to
    left_ending n id g left =
        let h = with_face n (ended id) g in
        (sound_ended cmp matching (only n) nothing_left nothing_left (unsaid n) n id g (spares_one cmp matching n) left.0, nothing_heard n (unsaid n (to_each (finish_to h n id) h.faces)) h (nothing_changed n n (ended id) g (λ f. refl) (λ f. refl) left.1))

    left_endings : (n : ℕ) (rows : ById Pending) (g : Rows K) → Left n g → Left n (ran cmp (unsaid_to n (flat_map (λ row. ending n row.0) rows)) g)
    unfolding ran unsaid_to
    left_endings n [] g left = left
    left_endings n (row ∷ rows) g left =
        let rest : List (Part K) = flat_map (λ row. ending n row.0) rows in
        subst (λ parts. Left n (ran cmp parts g)) (sym (unsaid-append n (ending n row.0) rest))
        (subst (Left n) (sym (ran-append cmp (unsaid_to n (ending n row.0)) (unsaid_to n rest) g)) (left_endings n rows (ran cmp (unsaid_to n (ending n row.0)) g) (left_ending n row.0 g left)))

    -- ---- its tokens

    -- the face that leaves still declares these
    record Declares (n : ℕ) (region : Region) (rest : ById K) (g : Rows K) : Type 0 where
      sound : Beside n g
      own : Face K
      found : find_face n g ≡ Some own
      of_region : own.region ≡ region
      live : own.live ≡ rest

    left_row : (n : ℕ) (region : Region) (row : ℕ × K) (rest : ById K) (g : Rows K) → Declares n region (row ∷ rest) g
        → Declares n region rest (ran cmp (Alter (with_face n (unregistered row.0)) ∷ Say (λ h. unsaid n (to_each (forget_to cmp matching h region row.1) h.faces)) ∷ Say (λ h. unsaid n (to_each (hide_to cmp h region row.1) h.faces)) ∷ Alter (without_own_rows cmp region row.1) ∷ []) g)
    unfolding ran with_face rows_heard without_own_rows
    left_row n region row rest g declares =
        let own = declares.own in
        let h1 = with_face n (unregistered row.0) g in
        let ss2 = unsaid n (to_each (forget_to cmp matching h1 region row.1) h1.faces) in
        let h2 = rows_heard cmp ss2 h1 in
        let ss3 = unsaid n (to_each (hide_to cmp h2 region row.1) h2.faces) in
        let rises_own = find_each (λ f. RiseFrom (λ r. r.0) 0 f.live) (λ f. n == f.number) g.faces own (each_weaker HasRowsInOrder (λ f. RiseFrom (λ r. r.0) 0 f.live) (λ f rows. rows.live) g.faces declares.sound.ordered.lists.rows) declares.found in
        let rises = subst (RiseFrom (λ r. r.0) 0) declares.live rises_own in
        let at_ : at_id row.0 own.live ≡ Some row.1 = ap (at_id row.0) declares.live ∙ ap (λ b. if b then Some row.1 else at_id row.0 rest) (eq-eqb row.0 row.0 refl) in
        let s1 = sound_unregistered cmp matching total equal_is_same (only n) n row.0 row.1 own g declares.found (at_only row.0 0 own.live row.1 rises_own at_) declares.sound in
        let s2 = sound_forgot cmp matching total equal_is_same (only n) (unsaid n) region row.1 [] h1 (spares_one cmp matching n) s1 in
        let s3 = sound_hid cmp matching total equal_is_same (only n) nothing_left (unsaid n) region row.1 h2 (spares_one cmp matching n) s2 in
        let own1 = unregistered row.0 own in
        let own2 = hears cmp matching ss2 h1 own1 in
        let own3 = hears cmp matching ss3 h2 own2 in
        let chosen = λ (f : Face K). if n == f.number then unregistered row.0 f else f in
        let found1 : find_face n h1 ≡ Some own1 = find_mapped n chosen g.faces own (λ f. chosen_leaves (λ k. k.number) (unregistered row.0) (n == f.number) f refl) declares.found ∙ ap (λ b. Some (if b then unregistered row.0 own else own)) (find_passes (λ f. n == f.number) g.faces own declares.found) in
        let found2 : find_face n h2 ≡ Some own2 = find_mapped n (hears cmp matching ss2 h1) h1.faces own1 (λ f. heard_all-number cmp h1.moment (messages_for f.number ss2) f) found1 in
        let found3 : find_face n (rows_heard cmp ss3 h2) ≡ Some own3 = find_mapped n (hears cmp matching ss3 h2) h2.faces own2 (λ f. heard_all-number cmp h2.moment (messages_for f.number ss3) f) found2 in
        record {
          sound = s3;
          own = own3;
          found = found3;
          of_region = heard_all-region cmp h2.moment (messages_for own2.number ss3) own2 ∙ heard_all-region cmp h1.moment (messages_for own1.number ss2) own1 ∙ declares.of_region;
          live = heard_all-live cmp h2.moment (messages_for own2.number ss3) own2 ∙ heard_all-live cmp h1.moment (messages_for own1.number ss2) own1 ∙ ap (without_id row.0) declares.live ∙ without_first row rest rises.1;
        }

    left_tokens : (n : ℕ) (f : Face K) (rest : ById K) (g : Rows K) → Each (λ row. undeclared cmp matching row.0 None f ≡ Some row.1) rest → Declares n f.region rest g
        → Declares n f.region [] (ran cmp (unsaid_to n (flat_map (λ row. undeclaring cmp matching n row.0 None f ++ hiding cmp f.region row.1) rest)) g)
    unfolding ran unsaid_to
    left_tokens n f [] g all declares = declares
    left_tokens n f (row ∷ rest) g all declares =
        let more = flat_map (λ row. undeclaring cmp matching n row.0 None f ++ hiding cmp f.region row.1) rest in
        let one = undeclaring cmp matching n row.0 None f ++ hiding cmp f.region row.1 in
        let parts = λ (o : Option K). unsaid_to n (elim o [ None ↦ [] | Some e ↦ Alter (with_face n (unregistered row.0)) ∷ Say (λ h. to_each (forget_to cmp matching h f.region e) h.faces) ∷ [] ] ++ hiding cmp f.region row.1) in
        let first : Declares n f.region rest (ran cmp (unsaid_to n one) g) = subst (λ (o : Option K). Declares n f.region rest (ran cmp (parts o) g)) (sym all.0) (left_row n f.region row rest g declares) in
        subst (λ ps. Declares n f.region [] (ran cmp ps g)) (sym (unsaid-append n one more))
        (subst (Declares n f.region []) (sym (ran-append cmp (unsaid_to n one) (unsaid_to n more) g)) (left_tokens n f rest (ran cmp (unsaid_to n one) g) all.1 first))

    -- ---- it goes

    no_rows : (n : ℕ) (fs : List (Face K)) → Each (λ f. (n == f.number) ≡ true → f.live ≡ []) fs → flat_map rows_of_face (filter (λ f. not (n == f.number)) fs) ≡ flat_map rows_of_face fs
    no_rows n [] none_ = refl
    no_rows n (f ∷ fs) none_ =
        by_test (n == f.number)
        (λ here. let empty_ : rows_of_face f ≡ [] = ap (map (λ (row : ℕ × K). (f.region, row.1))) (none_.0 here) in rw here (no_rows n fs none_.1 ∙ ap (λ rows. rows ++ flat_map rows_of_face fs) (sym empty_)))
        (λ here. rw here (ap (λ rows. rows_of_face f ++ rows) (no_rows n fs none_.1)))

    gone_same : (n : ℕ) (g : Rows K) → DeclaresNothing n g → ShowSame g (without_face n g)
    gone_same n g none_ = record { live = ap (λ rows. rows ++ routed_rows g) (no_rows n g.faces none_); refused = refl }

    each_kept : (P : Face K → Type 0) (n : ℕ) (fs : List (Face K)) → Each (λ f. (n == f.number) ≡ false → P f) fs → Each P (filter (λ f. not (n == f.number)) fs)
    each_kept P n fs all =
        each_both (λ f. (n == f.number) ≡ false → P f) (λ f. not (n == f.number) ≡ true) P (λ f one apart. one (not-true (n == f.number) apart)) (filter (λ f. not (n == f.number)) fs)
        (each_filter (λ f. (n == f.number) ≡ false → P f) (λ f. not (n == f.number)) fs all) (each_passes (λ f. not (n == f.number)) fs)

    left_gone : (n : ℕ) (g : Rows K) → Left n g → Sound cmp matching total equal_is_same (without_face n g)
    left_gone n g left =
        let h = without_face n g in
        let sound = left.0 in
        let same_ = gone_same n g left.1 in
        record {
          ordered = record { lists = without_face_in_order cmp matching total n g sound.ordered.lists; told = each_filter (λ f. IsToldInOrder cmp f.told f.next) (λ f. not (n == f.number)) g.faces sound.ordered.told };
          keeps = each_kept (λ f. is_routed g f ≡ false → false ≡ false → KeepsBut cmp matching nothing_left nothing_left h f) n g.faces
              (each_weaker (λ f. is_routed g f ≡ false → (n == f.number) ≡ false → KeepsBut cmp matching nothing_left nothing_left g f) (λ f. (n == f.number) ≡ false → is_routed g f ≡ false → false ≡ false → KeepsBut cmp matching nothing_left nothing_left h f)
              (λ f one apart plain _. keeps_stays cmp matching nothing_left nothing_left g h f f same_ (stays_itself f) (one plain apart)) g.faces sound.keeps);
          held = each_kept (λ f. false ≡ false → Each (AskIsHeld f) f.asks) n g.faces (each_weaker (λ f. (n == f.number) ≡ false → Each (AskIsHeld f) f.asks) (λ f. (n == f.number) ≡ false → false ≡ false → Each (AskIsHeld f) f.asks) (λ f one apart _. one apart) g.faces sound.held);
          named = each_filter (λ f. Each (PendingsOfAskAreKnown h) f.asks) (λ f. not (n == f.number)) g.faces
              (each_weaker (λ f. Each (PendingsOfAskAreKnown g) f.asks) (λ f. Each (PendingsOfAskAreKnown h) f.asks)
              (λ f all. each_weaker (PendingsOfAskAreKnown g) (PendingsOfAskAreKnown h)
              (λ row known. each_weaker (PendingIsKnown g) (PendingIsKnown h) (λ p is. record { made = is.made; named = each_filter (λ k. (p.face == k.number) ≡ true → IsNamed p.mode p.id k) (λ k. not (n == k.number)) g.faces is.named }) (named_by_ask row) known) f.asks all)
              g.faces sound.named);
          routed = each_filter (λ f. is_routed g f ≡ true → f.live ≡ []) (λ f. not (n == f.number)) g.faces sound.routed;
        }

    left_aside : (n : ℕ) (g : Rows K) → Sound cmp matching total equal_is_same g → Beside n g
    left_aside n g sound = record {
      ordered = sound.ordered;
      keeps = each_weaker (λ f. is_routed g f ≡ false → false ≡ false → KeepsBut cmp matching nothing_left nothing_left g f) (λ f. is_routed g f ≡ false → (n == f.number) ≡ false → KeepsBut cmp matching nothing_left nothing_left g f) (λ f one plain _. one plain refl) g.faces sound.keeps;
      held = each_weaker (λ f. false ≡ false → Each (AskIsHeld f) f.asks) (λ f. (n == f.number) ≡ false → Each (AskIsHeld f) f.asks) (λ f one _. one refl) g.faces sound.held;
      named = sound.named;
      routed = sound.routed;
    }

    -- ---- closing

    left_all : (n : ℕ) (f : Face K) (g : Rows K) → find_face n g ≡ Some f → Sound cmp matching total equal_is_same g → Left n (ran cmp (unsaid_to n (leaving cmp matching n f)) g)
    unfolding ran unsaid_to
    left_all n f g found sound =
        let tokens = flat_map (λ row. undeclaring cmp matching n row.0 None f ++ hiding cmp f.region row.1) f.live in
        let finals = flat_map (λ row. finalising cmp matching n row.0 row.1) f.held in
        let ends : List (Part K) = flat_map (λ row. ending n row.0) f.pendings in
        let rises = find_each (λ k. RiseFrom (λ r. r.0) 0 k.live) (λ k. n == k.number) g.faces f (each_weaker HasRowsInOrder (λ k. RiseFrom (λ r. r.0) 0 k.live) (λ k rows. rows.live) g.faces sound.ordered.lists.rows) found in
        let named = each_weaker (λ row. at_id row.0 f.live ≡ Some row.1) (λ row. undeclared cmp matching row.0 None f ≡ Some row.1)
        (λ row at_. ap (λ (o : Option K). let given : Option K = elim o [ None ↦ None | Some e ↦ Some e ] in given) at_) f.live (each_at 0 f.live rises) in
        let one = left_tokens n f f.live g named (record { sound = left_aside n g sound; own = f; found = found; of_region = refl; live = refl }) in
        let g1 = ran cmp (unsaid_to n tokens) g in
        let none_ = each_weaker (λ k. (n == k.number) ≡ true → k ≡ one.own) (λ k. (n == k.number) ≡ true → k.live ≡ []) (λ k is hit. ap (λ (x : Face K). x.live) (is hit) ∙ one.live) g1.faces (find_only n 1 g1.faces one.own one.sound.ordered.lists.faces_rise one.found) in
        let two = left_finals n f.held g1 (one.sound, none_) in
        let g2 = ran cmp (unsaid_to n finals) g1 in
        let g3 = with_face n without_asks g2 in
        let three : Left n g3 = (
          sound_aside n without_asks g2 (quiet_face cmp matching n without_asks (λ k. refl) (λ k rows. record { live = rows.live; held = rows.held; locals = rows.locals; pendings = rows.pendings; asks = tt }))
              (λ k. refl) (λ k. refl) (λ k. refl) (λ k mode i is. record { below = is.below; of_mode = is.of_mode }) (λ k all. tt) two.0,
          nothing_changed n n without_asks g2 (λ k. refl) (λ k. refl) two.1,
        ) in
        let four = left_endings n f.pendings g3 three in
        subst (λ ps. Left n (ran cmp ps g)) (sym (unsaid-append n (tokens ++ finals) (Alter (with_face n without_asks) ∷ ends)))
        (subst (Left n) (sym (ran-append cmp (unsaid_to n (tokens ++ finals)) (Alter (with_face n without_asks) ∷ unsaid_to n ends) g))
        (subst (λ h. Left n (ran cmp (unsaid_to n ends) (with_face n without_asks h)))
        (sym (ap (λ ps. ran cmp ps g) (unsaid-append n tokens finals) ∙ ran-append cmp (unsaid_to n tokens) (unsaid_to n finals) g)) four))

    pub sound_closing : (n : ℕ) (f : Face K) (g : Rows K) → find_face n g ≡ Some f → Sound cmp matching total equal_is_same g → Sound cmp matching total equal_is_same (ran cmp (closing cmp matching n g f) g)
    unfolding ran
    sound_closing n f g found sound =
        let parts : List (Part K) = if is_routed g f then [] else unsaid_to n (leaving cmp matching n f) in
        let left = of_cond (λ (ps : List (Part K)). Left n (ran cmp ps g)) (is_routed g f) [] (unsaid_to n (leaving cmp matching n f))
        (λ routed. (left_aside n g sound, each_both (λ k. (n == k.number) ≡ true → k ≡ f) (λ k. is_routed g k ≡ true → k.live ≡ []) (λ k. (n == k.number) ≡ true → k.live ≡ []) (λ k is none_ hit. none_ (ap (is_routed g) (is hit) ∙ routed)) g.faces (find_only n 1 g.faces f sound.ordered.lists.faces_rise found) sound.routed))
        (λ _. left_all n f g found sound) in
        subst (Sound cmp matching total equal_is_same) (sym (ran-append cmp parts (Alter (without_face n) ∷ []) g)) (left_gone n (ran cmp parts g) left)
