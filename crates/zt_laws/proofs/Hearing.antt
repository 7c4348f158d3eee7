-- What faces hear: hearing leaves all but ids, told rows and upstream interests, each face hears what a rule
-- gives for it, and messages in one call add up.
use Rattle.std.proofs.Common.{◌≡◌, ℕ, ◌+◌, ◌≤◌, Bool, true, false, if◌then◌else◌, ◌==◌, List, [], ◌∷◌, ◌++◌, map, Option, Some, None, refl, sym, ap, ◌∙◌, subst, arith, eqb-true, ne_eqb, eq-eqb, append-nil}
use Rattle.std.specs.declared.cmp.Ordering.{Ordering}
use Rattle.zt_protocol.specs.declared.messages.Message.{Message}
use Rattle.zt_protocol.specs.declared.messages.Message.TheVariants.{DeclareToken, UndeclareToken, DeclareFinal, Interest, InterestFinal, DeclareSubscriber, DeclareQueryable}
use Rattle.zt_model.specs.Hearing.{heard, heard_all, messages_for, rows_heard}
use Rattle.zt_model.specs.Lists.{first_where}
use Rattle.zt_model.specs.Rows.{Face, Rows}
use Rattle.zt_model.specs.Says.{Sends, find_face, to_each, to_face, with_face}
use Rattle.zt_model.specs.Transcript.{Each}
use Rattle.zt_laws.specs.Sound.{RiseFrom}
use Rattle.zt_laws.proofs.Lists.{by_test, each_append, each_map, never, each_weaker, each_both, each_always, map_alike, map_same, map-map, rise_above}

-- ---- the face of a number

pub find_passes : {A : Type 0} (p : A → Bool) (xs : List A) (x : A) → first_where p xs ≡ Some x → p x ≡ true
find_passes p [] x found = cc
find_passes p (y ∷ xs) x found =
    by_test (p y) (λ here. let e : Some y ≡ Some x = rw here at found in let same_ : y ≡ x = cc in subst (λ z. p z ≡ true) same_ here) (λ here. find_passes p xs x (rw here at found))

pub find_each : {A : Type 0} (P : A → Type 0) (p : A → Bool) (xs : List A) (x : A) → Each P xs → first_where p xs ≡ Some x → P x
find_each P p [] x all found = cc
find_each P p (y ∷ xs) x all found =
    by_test (p y) (λ here. let e : Some y ≡ Some x = rw here at found in let same_ : y ≡ x = cc in subst P same_ all.0) (λ here. find_each P p xs x all.1 (rw here at found))

pub find_none : {A : Type 0} (p : A → Bool) (xs : List A) → first_where p xs ≡ None → Each (λ x. p x ≡ false) xs
find_none p [] found = tt
find_none p (y ∷ xs) found =
    by_test (p y) (λ here. let e : Some y ≡ None = rw here at found in cc) (λ here. (here, find_none p xs (rw here at found)))

-- where numbers rise, the face of a number is the only one
pub find_only : {K : Type 0} (n low : ℕ) (fs : List (Face K)) (f : Face K) → RiseFrom (λ f. f.number) low fs → first_where (λ f. n == f.number) fs ≡ Some f → Each (λ h. (n == h.number) ≡ true → h ≡ f) fs
find_only n low [] f rises found = tt
find_only n low (h ∷ fs) f rises found =
    by_test (n == h.number)
    (λ here.
    let e : Some h ≡ Some f = rw here at found in
    let same_ : h ≡ f = cc in
    let n_is : n ≡ h.number = eqb-true n h.number here in
    (λ _. same_, each_weaker (λ k. h.number + 1 ≤ k.number) (λ k. (n == k.number) ≡ true → k ≡ f) (λ k above there. let other : n ≡ k.number = eqb-true n k.number there in absurd (omega arith)) fs (rise_above (λ k. k.number) (h.number + 1) fs rises.1)))
    (λ here. (λ there. never there here, find_only n (h.number + 1) fs f rises.1 (rw here at found)))

-- ---- messages for a face

pub messages_for-append : {M : Type 0} (n : ℕ) (ss ts : List (ℕ × M)) → messages_for n (ss ++ ts) ≡ messages_for n ss ++ messages_for n ts
unfolding messages_for
messages_for-append n [] ts = refl
messages_for-append n (s ∷ ss) ts =
    by_test (n == s.0) (λ here. rw here (ap (λ ms. s.1 ∷ ms) (messages_for-append n ss ts))) (λ here. rw here (messages_for-append n ss ts))

pub messages_for_own : {M : Type 0} (n : ℕ) (ms : List M) → messages_for n (map (λ m. (n, m)) ms) ≡ ms
unfolding messages_for
messages_for_own n [] = refl
messages_for_own n (m ∷ ms) = rw (eq-eqb n n refl) (ap (λ rest. m ∷ rest) (messages_for_own n ms))

pub messages_for_other : {M : Type 0} (n k : ℕ) (ms : List M) → (n == k) ≡ false → messages_for n (map (λ m. (k, m)) ms) ≡ []
unfolding messages_for
messages_for_other n k [] h = refl
messages_for_other n k (m ∷ ms) h = rw h (messages_for_other n k ms h)

pub messages_for_none : {K : Type 0} (n : ℕ) (rule : Face K → List (Message K)) (fs : List (Face K)) → Each (λ f. (n == f.number) ≡ false) fs → messages_for n (to_each rule fs) ≡ []
unfolding messages_for to_each
messages_for_none n rule [] others = refl
messages_for_none n rule (f ∷ fs) others =
    messages_for-append n (map (λ m. (f.number, m)) (rule f)) (to_each rule fs)
    ∙ ap (λ ms. ms ++ messages_for n (to_each rule fs)) (messages_for_other n f.number (rule f) others.0)
    ∙ messages_for_none n rule fs others.1

apart : (n m : ℕ) → n + 1 ≤ m → (n == m) ≡ false
apart n m h = ne_eqb n m (λ e. omega arith)

apart_back : (n m : ℕ) → n + 1 ≤ m → (m == n) ≡ false
apart_back n m h = ne_eqb m n (λ e. omega arith)

-- each face is sent what the rule gives for it, and nothing else
pub messages_for_each : {K : Type 0} (low : ℕ) (rule : Face K → List (Message K)) (fs : List (Face K)) → RiseFrom (λ f. f.number) low fs → Each (λ f. messages_for f.number (to_each rule fs) ≡ rule f) fs
unfolding to_each
messages_for_each low rule [] rises = tt
messages_for_each low rule (f ∷ fs) rises =
    let above = rise_above (λ k. k.number) (f.number + 1) fs rises.1 in
    let own : messages_for f.number (to_each rule fs) ≡ [] = messages_for_none f.number rule fs (each_weaker (λ k. f.number + 1 ≤ k.number) (λ k. (f.number == k.number) ≡ false) (λ k h. apart f.number k.number h) fs above) in (
      messages_for-append f.number (map (λ m. (f.number, m)) (rule f)) (to_each rule fs)
          ∙ ap (λ ms. ms ++ messages_for f.number (to_each rule fs)) (messages_for_own f.number (rule f))
          ∙ ap (λ ms. rule f ++ ms) own
          ∙ append-nil (rule f),
      each_both (λ k. f.number + 1 ≤ k.number) (λ k. messages_for k.number (to_each rule fs) ≡ rule k) (λ k. messages_for k.number (map (λ m. (f.number, m)) (rule f) ++ to_each rule fs) ≡ rule k)
          (λ k h rest.
          messages_for-append k.number (map (λ m. (f.number, m)) (rule f)) (to_each rule fs)
          ∙ ap (λ ms. ms ++ messages_for k.number (to_each rule fs)) (messages_for_other k.number f.number (rule f) (apart_back f.number k.number h))
          ∙ rest)
          fs above (messages_for_each (f.number + 1) rule fs rises.1),
    )

-- what holds of each message of a rule
pub each_ruled : {K : Type 0} → (P : Message K → Type 0) (rule : Face K → List (Message K)) (fs : List (Face K)) → ((f : Face K) → Each P (rule f)) → Each (λ t. P t.1) (to_each rule fs)
unfolding to_each
each_ruled {K} P rule [] h = tt
each_ruled {K} P rule (f ∷ fs) h = each_append (λ t. P t.1) (map (λ m. (f.number, m)) (rule f)) (to_each rule fs) (each_map (λ (t : ℕ × Message K). P t.1) (λ m. (f.number, m)) (rule f) (h f)) (each_ruled P rule fs h)

pub each_ruled_one : {K : Type 0} → (P : Message K → Type 0) (n : ℕ) (rule : Face K → List (Message K)) (g : Rows K) → ((f : Face K) → Each P (rule f)) → Each (λ t. P t.1) (to_face n rule g)
unfolding to_face
each_ruled_one {K} P n rule g h = cases (find_face n g)
  where
    cases : (o : Option (Face K)) → Each (λ (t : ℕ × Message K). P t.1) (elim o [ None ↦ [] | Some f ↦ map (λ m. (n, m)) (rule f) ])
    cases None = tt
    cases (Some f) = each_map (λ (t : ℕ × Message K). P t.1) (λ m. (n, m)) (rule f) (h f)

module _ {K : Type 0} (cmp : K → K → Ordering) where
  pub heard_all-append : (now : ℕ) (ms ns : List (Message K)) (f : Face K) → heard_all cmp now (ms ++ ns) f ≡ heard_all cmp now ns (heard_all cmp now ms f)
  unfolding heard_all
  heard_all-append now [] ns f = refl
  heard_all-append now (m ∷ ms) ns f = heard_all-append now ms ns (heard cmp now m f)

  -- what no message changes, hearing leaves
  pub heard_all_leaves : {A : Type 0} (part : Face K → A) → ((now : ℕ) (m : Message K) (f : Face K) → part (heard cmp now m f) ≡ part f) → (now : ℕ) (ms : List (Message K)) (f : Face K) → part (heard_all cmp now ms f) ≡ part f
  unfolding heard_all
  heard_all_leaves part one now [] f = refl
  heard_all_leaves part one now (m ∷ ms) f = heard_all_leaves part one now ms (heard cmp now m f) ∙ one now m f

  heard-number : (now : ℕ) (m : Message K) (f : Face K) → (heard cmp now m f).number ≡ f.number
  heard-number now (DeclareToken id e interest node) f = refl
  heard-number now (UndeclareToken id e node) f = refl
  heard-number now (DeclareFinal interest) f = refl
  heard-number now (Interest id mode options e) f = refl
  heard-number now (InterestFinal id) f = refl
  heard-number now (DeclareSubscriber id e interest) f = refl
  heard-number now (DeclareQueryable id e info interest) f = refl

  heard-region : (now : ℕ) (m : Message K) (f : Face K) → (heard cmp now m f).region ≡ f.region
  heard-region now (DeclareToken id e interest node) f = refl
  heard-region now (UndeclareToken id e node) f = refl
  heard-region now (DeclareFinal interest) f = refl
  heard-region now (Interest id mode options e) f = refl
  heard-region now (InterestFinal id) f = refl
  heard-region now (DeclareSubscriber id e interest) f = refl
  heard-region now (DeclareQueryable id e info interest) f = refl

  heard-live : (now : ℕ) (m : Message K) (f : Face K) → (heard cmp now m f).live ≡ f.live
  heard-live now (DeclareToken id e interest node) f = refl
  heard-live now (UndeclareToken id e node) f = refl
  heard-live now (DeclareFinal interest) f = refl
  heard-live now (Interest id mode options e) f = refl
  heard-live now (InterestFinal id) f = refl
  heard-live now (DeclareSubscriber id e interest) f = refl
  heard-live now (DeclareQueryable id e info interest) f = refl

  heard-held : (now : ℕ) (m : Message K) (f : Face K) → (heard cmp now m f).held ≡ f.held
  heard-held now (DeclareToken id e interest node) f = refl
  heard-held now (UndeclareToken id e node) f = refl
  heard-held now (DeclareFinal interest) f = refl
  heard-held now (Interest id mode options e) f = refl
  heard-held now (InterestFinal id) f = refl
  heard-held now (DeclareSubscriber id e interest) f = refl
  heard-held now (DeclareQueryable id e info interest) f = refl

  pub heard_all-number : (now : ℕ) (ms : List (Message K)) (f : Face K) → (heard_all cmp now ms f).number ≡ f.number
  heard_all-number now ms f = heard_all_leaves (λ f. f.number) heard-number now ms f

  pub heard_all-region : (now : ℕ) (ms : List (Message K)) (f : Face K) → (heard_all cmp now ms f).region ≡ f.region
  heard_all-region now ms f = heard_all_leaves (λ f. f.region) heard-region now ms f

  pub heard_all-live : (now : ℕ) (ms : List (Message K)) (f : Face K) → (heard_all cmp now ms f).live ≡ f.live
  heard_all-live now ms f = heard_all_leaves (λ f. f.live) heard-live now ms f

  pub heard_all-held : (now : ℕ) (ms : List (Message K)) (f : Face K) → (heard_all cmp now ms f).held ≡ f.held
  heard_all-held now ms f = heard_all_leaves (λ f. f.held) heard-held now ms f

  -- ---- each face hears

  -- each face hears what a rule gives for it
  pub rows_heard-to_each : (low : ℕ) (rule : Face K → List (Message K)) (g : Rows K) → RiseFrom (λ f. f.number) low g.faces → rows_heard cmp (to_each rule g.faces) g ≡ record g { faces = map (λ f. heard_all cmp g.moment (rule f) f) g.faces }
  unfolding rows_heard
  rows_heard-to_each low rule g rises =
      ap (λ (fs : List (Face K)). record g { faces = fs })
      (map_alike (λ f. heard_all cmp g.moment (messages_for f.number (to_each rule g.faces)) f) (λ f. heard_all cmp g.moment (rule f) f) g.faces
      (each_weaker (λ f. messages_for f.number (to_each rule g.faces) ≡ rule f) (λ f. heard_all cmp g.moment (messages_for f.number (to_each rule g.faces)) f ≡ heard_all cmp g.moment (rule f) f) (λ f h. ap (λ ms. heard_all cmp g.moment ms f) h) g.faces (messages_for_each low rule g.faces rises)))

  -- messages sent later are heard later
  pub rows_heard-append : (ss ts : Sends K) (g : Rows K) → rows_heard cmp (ss ++ ts) g ≡ rows_heard cmp ts (rows_heard cmp ss g)
  unfolding rows_heard
  rows_heard-append ss ts g =
      ap (λ (fs : List (Face K)). record g { faces = fs })
      (map_alike (λ f. heard_all cmp g.moment (messages_for f.number (ss ++ ts)) f) (λ f. after (first f)) g.faces
      (each_always (λ f. heard_all cmp g.moment (messages_for f.number (ss ++ ts)) f ≡ after (first f))
      (λ f.
      ap (λ ms. heard_all cmp g.moment ms f) (messages_for-append f.number ss ts)
      ∙ heard_all-append g.moment (messages_for f.number ss) (messages_for f.number ts) f
      ∙ ap (λ n. heard_all cmp g.moment (messages_for n ts) (first f)) (sym (heard_all-number g.moment (messages_for f.number ss) f)))
      g.faces)
      ∙ sym (map-map after first g.faces))
    where
      first : Face K → Face K
      first f = heard_all cmp g.moment (messages_for f.number ss) f

      after : Face K → Face K
      after f = heard_all cmp g.moment (messages_for f.number ts) f

  pub rows_heard_nothing : (g : Rows K) → rows_heard cmp [] g ≡ g
  unfolding rows_heard messages_for heard_all
  rows_heard_nothing g = ap (λ (fs : List (Face K)). record g { faces = fs }) (map_same (λ f. f) g.faces (each_always (λ f. f ≡ f) (λ f. refl) g.faces))

  -- one face hears what a rule gives for it
  pub rows_heard-to_face : (low n : ℕ) (rule : Face K → List (Message K)) (g : Rows K) → RiseFrom (λ f. f.number) low g.faces → rows_heard cmp (to_face n rule g) g ≡ with_face n (λ f. heard_all cmp g.moment (rule f) f) g
  unfolding rows_heard with_face to_face heard_all messages_for
  rows_heard-to_face low n rule g rises = found (find_face n g) refl
    where
      none_for : (f : Face K) → (n == f.number) ≡ false → (o : Option (Face K)) → heard_all cmp g.moment (messages_for f.number (elim o [ None ↦ [] | Some h ↦ map (λ m. (n, m)) (rule h) ])) f ≡ f
      none_for f h None = refl
      none_for f h (Some k) = ap (λ ms. heard_all cmp g.moment ms f) (messages_for_other f.number n (rule k) (ne_eqb f.number n (λ e. never (eq-eqb n f.number (sym e)) h)))

      found : (o : Option (Face K)) → find_face n g ≡ o → record g { faces = map (λ f. heard_all cmp g.moment (messages_for f.number (elim o [ None ↦ [] | Some h ↦ map (λ m. (n, m)) (rule h) ])) f) g.faces } ≡ record g { faces = map (λ f. if n == f.number then heard_all cmp g.moment (rule f) f else f) g.faces }
      found None is =
          ap (λ (fs : List (Face K)). record g { faces = fs })
          (map_alike (λ f. heard_all cmp g.moment (messages_for f.number []) f) (λ f. if n == f.number then heard_all cmp g.moment (rule f) f else f) g.faces
          (each_weaker (λ f. (n == f.number) ≡ false) (λ f. heard_all cmp g.moment (messages_for f.number []) f ≡ (if n == f.number then heard_all cmp g.moment (rule f) f else f)) (λ f h. rw h (none_for f h None)) g.faces (find_none (λ f. n == f.number) g.faces is)))
      found (Some k) is =
          ap (λ (fs : List (Face K)). record g { faces = fs })
          (map_alike (λ f. heard_all cmp g.moment (messages_for f.number (map (λ m. (n, m)) (rule k))) f) (λ f. if n == f.number then heard_all cmp g.moment (rule f) f else f) g.faces
          (each_weaker (λ f. (n == f.number) ≡ true → f ≡ k) (λ f. heard_all cmp g.moment (messages_for f.number (map (λ m. (n, m)) (rule k))) f ≡ (if n == f.number then heard_all cmp g.moment (rule f) f else f))
          (λ f only.
          by_test (n == f.number)
          (λ here.
          let number_ : f.number ≡ n = sym (eqb-true n f.number here) in
          rw here (ap (λ ms. heard_all cmp g.moment ms f) (ap (λ j. messages_for j (map (λ m. (n, m)) (rule k))) number_ ∙ messages_for_own n (rule k) ∙ ap rule (sym (only here)))))
          (λ here. rw here (none_for f here (Some k))))
          g.faces (find_only n low g.faces k rises is)))
