-- One face, followed through the parts of a call: what it is sent is said well, and what the call itself changes of it.
use Rattle.std.proofs.Common.{◌≡◌, ℕ, Bool, true, false, if◌then◌else◌, ◌&&◌, ◌==◌, not, List, [], ◌∷◌, map, filter, Option, Some, None, option_map, refl, sym, ap, ◌∙◌, subst, eq-eqb, eqb-true}
use Rattle.std.specs.declared.cmp.Ordering.{Ordering}
use Rattle.zt_region.specs.Region.{is_north}
use Rattle.zt_protocol.specs.declared.messages.Message.{Message}
use Rattle.zt_model.specs.Hearing.{heard_all, messages_for, rows_heard}
use Rattle.zt_model.specs.Parts.{Alter, Part, Say, Sends, altered_by, find_face, said_by, to_each, to_face, unsaid_to, with_face}
use Rattle.zt_model.specs.Rows.{Ask, ById, Face, Pending, Rows}
use Rattle.zt_model.specs.Transcript.{Each}
use Rattle.zt_laws.specs.Sound.{RiseFrom}
use Rattle.zt_laws.proofs.Hearing.{find_each, find_passes, heard_all-region, messages_for-append, messages_for_each, messages_for_other, messages_for_own}
use Rattle.zt_laws.proofs.Lists.{by_test, each_always, each_filter, each_map, each_weaker, filter_all, never, of_cond, rise_map}
use Rattle.zt_theorem_tree_invariant.specs.Facts.{IsTreeFace, tokens_after}
use Rattle.zt_theorem_tree_invariant.proofs.Saying.{IsReal, SaidWell, TreeRows, all_asks, all_told, find_heard_at, find_map, well_append}

-- what a rule reads of a face to which messages were said
pub record SameEar {K : Type 0} (f h : Face K) : Type 0 where
  pub region : h.region ≡ f.region
  pub told : h.told ≡ f.told
  pub asks : h.asks ≡ f.asks

-- a face of which a call itself changes nothing that a joint sees, but that pendings go
pub record Unmoved {K : Type 0} (f h : Face K) : Type 0 where
  pub region : h.region ≡ f.region
  pub live : h.live ≡ f.live
  pub told : h.told ≡ f.told
  pub next : h.next ≡ f.next
  pub held : h.held ≡ f.held
  pub locals : h.locals ≡ f.locals
  pub asks : h.asks ≡ f.asks
  pub stays : ℕ × Pending → Bool
  pub pendings : h.pendings ≡ filter stays f.pendings

filter_twice : {A : Type 0} (p q : A → Bool) (xs : List A) → filter q (filter p xs) ≡ filter (λ x. p x && q x) xs
filter_twice p q [] = refl
filter_twice p q (x ∷ xs) =
    by_test (p x)
    (λ here. by_test (q x) (λ own. rw (here, own) (ap (λ ys. x ∷ ys) (filter_twice p q xs))) (λ own. rw (here, own) (filter_twice p q xs)))
    (λ here. rw here (filter_twice p q xs))

-- what holds of all pendings holds of those that are left
pub thin : {K : Type 0} (P : ℕ × Pending → Type 0) (f h : Face K) → Unmoved f h → Each P f.pendings → Each P h.pendings
thin P f h same_ all = subst (Each P) (sym same_.pendings) (each_filter P same_.stays f.pendings all)

pub unmoved_itself : {K : Type 0} (f : Face K) → Unmoved f f
unmoved_itself f = record { region = refl; live = refl; told = refl; next = refl; held = refl; locals = refl; asks = refl; stays = λ row. true; pendings = sym (filter_all (λ row. true) f.pendings (each_always (λ row. true ≡ true) (λ row. refl) f.pendings)) }

pub unmoved_trans : {K : Type 0} (f h k : Face K) → Unmoved f h → Unmoved h k → Unmoved f k
unmoved_trans f h k one two = record {
  region = two.region ∙ one.region;
  live = two.live ∙ one.live;
  told = two.told ∙ one.told;
  next = two.next ∙ one.next;
  held = two.held ∙ one.held;
  locals = two.locals ∙ one.locals;
  asks = two.asks ∙ one.asks;
  stays = λ row. one.stays row && two.stays row;
  pendings = two.pendings ∙ ap (filter two.stays) one.pendings ∙ filter_twice one.stays two.stays f.pendings;
}

pub unmoved_ear : {K : Type 0} (f h : Face K) → Unmoved f h → SameEar f h
unmoved_ear f h same_ = record { region = same_.region; told = same_.told; asks = same_.asks }

pub ear_itself : {K : Type 0} (f : Face K) → SameEar f f
ear_itself f = record { region = refl; told = refl; asks = refl }

pub ear_trans : {K : Type 0} (f h k : Face K) → SameEar f h → SameEar h k → SameEar f k
ear_trans f h k one two = record { region = two.region ∙ one.region; told = two.told ∙ one.told; asks = two.asks ∙ one.asks }

module _ {K : Type 0} (cmp : K → K → Ordering) (matching : K → K → Bool) where
  -- ---- what a face is sent

  pub sent_each : (p : ℕ) (rule : Face K → List (Message K)) (g : Rows K) (f : Face K) → RiseFrom (λ f. f.number) 1 g.faces → find_face p g ≡ Some f → messages_for p (to_each rule g.faces) ≡ rule f
  sent_each p rule g f rises found =
      ap (λ n. messages_for n (to_each rule g.faces)) (eqb-true p f.number (find_passes (λ (h : Face K). p == h.number) g.faces f found))
      ∙ find_each (λ f. messages_for f.number (to_each rule g.faces) ≡ rule f) (λ (h : Face K). p == h.number) g.faces f (messages_for_each 1 rule g.faces rises) found

  pub sent_face : (P : List (Message K) → Type 0) (p n : ℕ) (rule : Face K → List (Message K)) (g : Rows K) (f : Face K) → find_face p g ≡ Some f → (n ≡ p → P (rule f)) → P [] → P (messages_for p (to_face n rule g))
  unfolding to_face messages_for
  sent_face P p n rule g f found own other =
      by_test (p == n)
      (λ here.
      let is : p ≡ n = eqb-true p n here in
      let found_n : find_face n g ≡ Some f = ap (λ k. find_face k g) (sym is) ∙ found in
      subst (λ o. P (messages_for p (elim o [ None ↦ [] | Some h ↦ map (λ m. (n, m)) (rule h) ]))) (sym found_n)
      (subst (λ k. P (messages_for p (map (λ m. (k, m)) (rule f)))) is (subst P (sym (messages_for_own p (rule f))) (own (sym is)))))
      (λ there. cases there (find_face n g))
    where
      cases : (p == n) ≡ false → (o : Option (Face K)) → P (messages_for p (elim o [ None ↦ [] | Some h ↦ map (λ m. (n, m)) (rule h) ]))
      cases there None = other
      cases there (Some h) = subst P (sym (messages_for_other p n (rule h) there)) other

  pub messages_unsaid : (p n : ℕ) (ss : Sends K) → (n == p) ≡ false → messages_for p (filter (λ s. not (n == s.0)) ss) ≡ messages_for p ss
  unfolding messages_for
  messages_unsaid p n [] apart = refl
  messages_unsaid p n (s ∷ ss) apart =
      by_test (n == s.0)
      (λ here.
      let is : n ≡ s.0 = eqb-true n s.0 here in
      let miss : (p == s.0) ≡ false = by_test (p == s.0) (λ own. never (eq-eqb n p (is ∙ sym (eqb-true p s.0 own))) apart) (λ h. h) in
      rw (here, miss) (messages_unsaid p n ss apart))
      (λ here. rw here (by_test (p == s.0) (λ own. rw own (ap (λ ms. s.1 ∷ ms) (messages_unsaid p n ss apart))) (λ own. rw own (messages_unsaid p n ss apart))))

  module _ (p : ℕ) (up : Bool) (I : Rows K → Type 0) (rows_of : (g : Rows K) → I g → TreeRows cmp g) (heard_ : (ss : Sends K) (g : Rows K) → I g → I (rows_heard cmp ss g))
      (R : Face K → Face K → Type 0) (itself : (f : Face K) → R f f) (trans : (f h k : Face K) → R f h → R h k → R f k) (ear : (f h : Face K) → R f h → SameEar f h) where
    -- a part that keeps the face, and says well what it says to it
    abbrev pub IsGood : Part K → Type 0
    IsGood (Alter change) = (g : Rows K) (f : Face K) → I g → find_face p g ≡ Some f → I (change g) × ((h : Face K) × (find_face p (change g) ≡ Some h) × R f h)
    IsGood (Say rule) = (g : Rows K) (f : Face K) → I g → find_face p g ≡ Some f → is_north f.region ≡ up → SaidWell cmp up (messages_for p (rule g)) f.told f.asks

    pub said_well : (parts : List (Part K)) (g : Rows K) (f : Face K) → Each IsGood parts → I g → find_face p g ≡ Some f → is_north f.region ≡ up → SaidWell cmp up (messages_for p (said_by cmp matching parts g)) f.told f.asks
    unfolding said_by messages_for
    said_well [] g f good inv found side = tt
    said_well (Alter change ∷ parts) g f good inv found side =
        let after = good.0 g f inv found in
        let same_ = ear f after.1.0 after.1.2 in
        let rest = said_well parts (change g) after.1.0 good.1 after.0 after.1.1 (ap is_north same_.region ∙ side) in
        subst (λ (asks : ById (Ask K)). SaidWell cmp up (messages_for p (said_by cmp matching parts (change g))) f.told asks) same_.asks
        (subst (λ (told : ById K). SaidWell cmp up (messages_for p (said_by cmp matching parts (change g))) told after.1.0.asks) same_.told rest)
    said_well (Say rule ∷ parts) g f good inv found side =
        let ss = rule g in
        let h = rows_heard cmp ss g in
        let k = heard_all cmp g.moment (messages_for p ss) f in
        let rest = said_well parts h k good.1 (heard_ ss g inv) (find_heard_at cmp ss g p f found) (ap is_north (heard_all-region cmp g.moment (messages_for p ss) f) ∙ side) in
        subst (λ ms. SaidWell cmp up ms f.told f.asks) (sym (messages_for-append p ss (said_by cmp matching parts h)))
        (well_append cmp up (messages_for p ss) (messages_for p (said_by cmp matching parts h)) f.told f.asks (good.0 g f inv found side)
        (subst (λ (asks : ById (Ask K)). SaidWell cmp up (messages_for p (said_by cmp matching parts h)) (tokens_after cmp (messages_for p ss) f.told) asks) (all_asks cmp g.moment (messages_for p ss) f)
        (subst (λ (told : ById K). SaidWell cmp up (messages_for p (said_by cmp matching parts h)) told k.asks) (all_told cmp g.moment (messages_for p ss) f) rest)))

    pub altered_to : (parts : List (Part K)) (g : Rows K) (f : Face K) → Each IsGood parts → I g → find_face p g ≡ Some f → I (altered_by cmp matching parts g) × ((h : Face K) × (find_face p (altered_by cmp matching parts g) ≡ Some h) × R f h)
    unfolding altered_by
    altered_to [] g f good inv found = (inv, (f, found, itself f))
    altered_to (Alter change ∷ parts) g f good inv found =
        let one = good.0 g f inv found in
        let two = altered_to parts (change g) one.1.0 good.1 one.0 one.1.1 in
        (two.0, (two.1.0, two.1.1, trans f one.1.0 two.1.0 one.1.2 two.1.2))
    altered_to (Say rule ∷ parts) g f good inv found = altered_to parts g f good.1 inv found

    -- ---- parts by parts

    pub good_unsaid : (n : ℕ) (parts : List (Part K)) → (n == p) ≡ false → Each IsGood parts → Each IsGood (unsaid_to n parts)
    unfolding unsaid_to
    good_unsaid n [] apart good = tt
    good_unsaid n (Alter change ∷ parts) apart good = (good.0, good_unsaid n parts apart good.1)
    good_unsaid n (Say rule ∷ parts) apart good = (
      (λ g f inv found side. subst (λ ms. SaidWell cmp up ms f.told f.asks) (sym (messages_unsaid p n (rule g) apart)) (good.0 g f inv found side)),
      good_unsaid n parts apart good.1,
    )

    pub good_each : (rule : Rows K → Face K → List (Message K)) → ((g : Rows K) (f : Face K) → IsTreeFace g.mode f → IsReal cmp f → is_north f.region ≡ up → SaidWell cmp up (rule g f) f.told f.asks) → IsGood (Say (λ g. to_each (rule g) g.faces))
    good_each rule well = λ g f inv found side.
        let rows = rows_of g inv in
        subst (λ ms. SaidWell cmp up ms f.told f.asks) (sym (sent_each p (rule g) g f rows.rises found))
        (well g f (find_each (IsTreeFace g.mode) (λ (h : Face K). p == h.number) g.faces f rows.faces found) (find_each (IsReal cmp) (λ (h : Face K). p == h.number) g.faces f rows.real found) side)

    pub good_one : (n : ℕ) (rule : Rows K → Face K → List (Message K)) → (n ≡ p → (g : Rows K) (f : Face K) → IsTreeFace g.mode f → IsReal cmp f → is_north f.region ≡ up → SaidWell cmp up (rule g f) f.told f.asks) → IsGood (Say (λ g. to_face n (rule g) g))
    good_one n rule well = λ g f inv found side.
        let rows = rows_of g inv in
        sent_face (λ ms. SaidWell cmp up ms f.told f.asks) p n (rule g) g f found
        (λ is. well is g f (find_each (IsTreeFace g.mode) (λ (h : Face K). p == h.number) g.faces f rows.faces found) (find_each (IsReal cmp) (λ (h : Face K). p == h.number) g.faces f rows.real found) side) tt

  -- the rows of a gateway with one face changed
  pub with_face_rows : (n : ℕ) (change : Face K → Face K) (g : Rows K) → ((f : Face K) → (change f).number ≡ f.number) → Each (λ f. (n == f.number) ≡ true → IsTreeFace g.mode f → IsTreeFace g.mode (change f)) g.faces → ((f : Face K) → IsReal cmp f → IsReal cmp (change f))
      → TreeRows cmp g → TreeRows cmp (with_face n change g)
  unfolding with_face
  with_face_rows n change g still tree real rows = record {
    rises = rise_map (λ f. f.number) 1 (λ f. if n == f.number then change f else f) g.faces (λ f. of_cond (λ (h : Face K). h.number ≡ f.number) (n == f.number) (change f) f (λ _. still f) (λ _. refl)) rows.rises;
    faces = each_map (IsTreeFace g.mode) (λ f. if n == f.number then change f else f) g.faces (all g.faces tree rows.faces);
    real = each_map (IsReal cmp) (λ f. if n == f.number then change f else f) g.faces (each_weaker (IsReal cmp) (λ f. IsReal cmp (if n == f.number then change f else f)) (λ f r. of_cond (IsReal cmp) (n == f.number) (change f) f (λ _. real f r) (λ _. r)) g.faces rows.real);
  }
    where
      all : (fs : List (Face K)) → Each (λ f. (n == f.number) ≡ true → IsTreeFace g.mode f → IsTreeFace g.mode (change f)) fs → Each (IsTreeFace g.mode) fs → Each (λ f. IsTreeFace g.mode (if n == f.number then change f else f)) fs
      all [] tree faces = tt
      all (f ∷ fs) tree faces = (of_cond (IsTreeFace g.mode) (n == f.number) (change f) f (λ here. tree.0 here faces.0) (λ _. faces.0), all fs tree.1 faces.1)

  pub find_with_face : (p n : ℕ) (change : Face K → Face K) (g : Rows K) (f : Face K) → ((f : Face K) → (change f).number ≡ f.number) → find_face p g ≡ Some f → find_face p (with_face n change g) ≡ Some (if n == p then change f else f)
  unfolding with_face
  find_with_face p n change g f still found =
      find_map cmp p (λ f. if n == f.number then change f else f) g.faces (λ f. of_cond (λ (h : Face K). h.number ≡ f.number) (n == f.number) (change f) f (λ _. still f) (λ _. refl))
      ∙ ap (option_map (λ f. if n == f.number then change f else f)) found
      ∙ ap (λ k. Some (if n == k then change f else f)) (sym (eqb-true p f.number (find_passes (λ (h : Face K). p == h.number) g.faces f found)))
