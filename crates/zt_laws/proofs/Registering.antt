-- A declaration whose row is there changes no row, and closing says nothing to the face that is closed.
use Rattle.std.proofs.Common.{◌≡◌, ℕ, ◌+◌, ◌≤◌, ◌<◌, Bool, true, false, not, if◌then◌else◌, ◌==◌, List, [], ◌∷◌, ◌++◌, map, filter, Option, Some, None, refl, sym, ap, ◌∙◌, subst, arith, eq-eqb, eqb-true, ne_eqb}
use Rattle.std.proofs.lemmas.Cmp.{ranked}
use Rattle.std.specs.Cmp.{IsTotalOrder}
use Rattle.std.specs.FinMap.Entries.{by_order, put}
use Rattle.std.specs.Ordering.{nat_cmp}
use Rattle.std.specs.declared.cmp.Ordering.{Ordering}
use Rattle.std.specs.declared.cmp.Ordering.TheVariants.{Less, Equal, Greater}
use Rattle.zt_region.specs.declared.region.Region.{Region}
use Rattle.zt_region.specs.declared.region.Zid.{Zid}
use Rattle.zt_protocol.specs.Plain.{CloseFace, DeclareToken}
use Rattle.zt_protocol.specs.declared.messages.Message.{Message}
use Rattle.zt_model.specs.Closing.{closing, leaving, without_face}
use Rattle.zt_model.specs.Hearing.{heard_all, messages_for, rows_heard}
use Rattle.zt_model.specs.Lists.{at_id, has_id, same}
use Rattle.zt_model.specs.Parts.{unsaid_to}
use Rattle.zt_model.specs.Rows.{ById, Face, Rows}
use Rattle.zt_model.specs.Says.{Alter, Part, Say, Sends, altered, altered_by, answering, declaring, declaring_of, find_face, is_routed, parts_of, registered, registers, said, said_by, with_face}
use Rattle.zt_model.specs.Telling.{answer}
use Rattle.zt_model.specs.Trees.{showing, is_newly_shown, router_regions, source_of, with_own_rows, with_routed}
use Rattle.zt_laws.specs.Order.{HasRowsInOrder, ListsAreInOrder}
use Rattle.zt_laws.specs.Sound.{RiseFrom, rows_after_call}
use Rattle.zt_laws.proofs.Hearing.{messages_for-append, find_each, find_only, heard_all-live}
use Rattle.zt_laws.proofs.Keys.{same_is}
use Rattle.zt_laws.proofs.Lists.{by_test, each_always, each_weaker, map-map, map_alike, never, of_cond}
use Rattle.zt_laws.proofs.PartsOrder.{said_by_last}

-- a row that is put where it is
pub put_there : {A : Type 0} (id low : ℕ) (v : A) (rows : ById A) → RiseFrom (λ row. row.0) low rows → at_id id rows ≡ Some v → put nat_cmp id v rows ≡ rows
put_there {A} id low v [] rises at_ = cc
put_there {A} id low v (row ∷ rows) rises at_ =
    by_test (id == row.0)
    (λ here.
    let e : Some row.1 ≡ Some v = rw here at at_ in
    let is : row.1 ≡ v = cc in
    let id_is : id ≡ row.0 = eqb-true id row.0 here in
    elim (nat_cmp id row.0) as (λ o. nat_cmp id row.0 ≡ o → by_order o ((id, v) ∷ row ∷ rows) ((row.0, v) ∷ rows) (row ∷ put nat_cmp id v rows) ≡ row ∷ rows) [
      | Less ↦ λ c. let less : id < row.0 = ranked id row.0 Less (sym c) in absurd (omega arith)
      | Equal ↦ λ c. ap (λ x. (row.0, x) ∷ rows) (sym is)
      | Greater ↦ λ c. let more : row.0 < id = ranked id row.0 Greater (sym c) in absurd (omega arith)
    ] refl)
    (λ here.
    let later : at_id id rows ≡ Some v = rw here at at_ in
    let up : row.0 + 1 ≤ id = at_above (row.0 + 1) rows rises.1 later in
    elim (nat_cmp id row.0) as (λ o. nat_cmp id row.0 ≡ o → by_order o ((id, v) ∷ row ∷ rows) ((row.0, v) ∷ rows) (row ∷ put nat_cmp id v rows) ≡ row ∷ rows) [
      | Less ↦ λ c. let less : id < row.0 = ranked id row.0 Less (sym c) in absurd (omega arith)
      | Equal ↦ λ c. let equal : id ≡ row.0 = ranked id row.0 Equal (sym c) in absurd (omega arith)
      | Greater ↦ λ c. ap (λ rest. row ∷ rest) (put_there id (row.0 + 1) v rows rises.1 later)
    ] refl)
  where
    at_above : (low : ℕ) (rows : ById A) → RiseFrom (λ row. row.0) low rows → at_id id rows ≡ Some v → low ≤ id
    at_above low [] rises at_ = cc
    at_above low (row ∷ rows) rises at_ =
        let first : low ≤ row.0 = rises.0 in
        by_test (id == row.0)
        (λ here. let is : id ≡ row.0 = eqb-true id row.0 here in omega arith)
        (λ here. let more : row.0 + 1 ≤ id = at_above (row.0 + 1) rows rises.1 (rw here at at_) in omega arith)

module _ {K : Type 0} (cmp : K → K → Ordering) (matching : K → K → Bool) where
  abbrev lives : Rows K → List (ById K)
  lives g = map (λ f. f.live) g.faces

  lives_heard : (ss : Sends K) (g : Rows K) → lives (rows_heard cmp ss g) ≡ lives g
  unfolding rows_heard
  lives_heard ss g =
      map-map (λ f. f.live) (λ f. heard_all cmp g.moment (messages_for f.number ss) f) g.faces
      ∙ map_alike (λ f. (heard_all cmp g.moment (messages_for f.number ss) f).live) (λ f. f.live) g.faces
      (each_always (λ f. (heard_all cmp g.moment (messages_for f.number ss) f).live ≡ f.live) (λ f. heard_all-live cmp g.moment (messages_for f.number ss) f) g.faces)

  own_rows_faces : (rs : List Region) (e : K) (g : Rows K) → (with_own_rows cmp rs e g).faces ≡ g.faces
  unfolding with_own_rows with_routed
  own_rows_faces [] e g = refl
  own_rows_faces (r ∷ rs) e g = own_rows_faces rs e (with_routed cmp r g.zid e g)

  routed_lives : (region : Region) (source : Zid) (e : K) (g : Rows K) → lives (with_routed cmp region source e g) ≡ lives g
  unfolding with_routed
  routed_lives region source e g = refl

  registered_there : (n id : ℕ) (e : K) (f : Face K) (g : Rows K) → ListsAreInOrder cmp matching g → find_face n g ≡ Some f → at_id id f.live ≡ Some e → lives (with_face n (registered id e) g) ≡ lives g
  unfolding with_face
  registered_there n id e f g lists found at_ =
      map-map (λ f. f.live) (λ f. if n == f.number then registered id e f else f) g.faces
      ∙ map_alike (λ h. (if n == h.number then registered id e h else h).live) (λ h. h.live) g.faces
      (each_weaker (λ h. (n == h.number) ≡ true → h ≡ f) (λ h. (if n == h.number then registered id e h else h).live ≡ h.live)
      (λ h only. by_test (n == h.number)
      (λ here.
      let live_ : h.live ≡ f.live = ap (λ (k : Face K). k.live) (only here) in
      rw here (ap (put nat_cmp id e) live_ ∙ put_there id 0 e f.live rises at_ ∙ sym live_))
      (λ here. rw here refl))
      g.faces (find_only n 1 g.faces f lists.faces_rise found))
    where
      rises : RiseFrom (λ row. row.0) 0 f.live
      rises = (find_each HasRowsInOrder (λ f. n == f.number) g.faces f lists.rows found).live

  module _ (total : IsTotalOrder cmp) (equal_is_same : (a b : K) → cmp a b ≡ Equal → a ≡ b) where
    -- a declaration whose row is there changes no live row
    pub declared_again : (n id node : ℕ) (e k : K) (interest : Option ℕ) (f : Face K) (g : Rows K) → ListsAreInOrder cmp matching g → find_face n g ≡ Some f → at_id id f.live ≡ Some k → same cmp e k ≡ true
        → lives (rows_after_call cmp matching (DeclareToken n id e node interest) g) ≡ lives g
    unfolding parts_of altered_by
    declared_again n id node e k interest f g lists found at_ same_ =
        let c = DeclareToken n id e node interest in
        lives_heard (said cmp matching c g) (altered cmp matching c g)
        ∙ subst (λ o. Same (elim o [ None ↦ [] | Some f ↦ if is_routed g f then declaring_of cmp matching n (source_of g f node) e f else answering cmp matching n interest e f ++ (if registers f interest then declaring cmp matching n id e f ++ showing cmp f.region e else []) ])) (sym found) of_face
      where
        Same : List (Part K) → Type 0
        Same parts = lives (altered_by cmp matching parts g) ≡ lives g

        there : lives (with_face n (registered id e) g) ≡ lives g
        there = registered_there n id e f g lists found (at_ ∙ ap (λ x. Some x) (sym (same_is cmp total equal_is_same e k same_)))

        shown : (h : Rows K) → lives h ≡ lives g → lives (with_own_rows cmp (filter (is_newly_shown cmp h f.region e) (router_regions h)) e h) ≡ lives g
        shown h is = ap (map (λ f. f.live)) (own_rows_faces (filter (is_newly_shown cmp h f.region e) (router_regions h)) e h) ∙ is

        routed : (o : Option Zid) → Same (declaring_of cmp matching n o e f)
        routed None = refl
        routed (Some source) = shown (with_routed cmp f.region source e g) (routed_lives f.region source e g)

        registers_ : (b : Bool) → Same (if b then declaring cmp matching n id e f ++ showing cmp f.region e else [])
        registers_ true = shown (with_face n (registered id e) g) there
        registers_ false = refl

        answers : (o : Option ℕ) → Same (answering cmp matching n o e f ++ (if registers f interest then declaring cmp matching n id e f ++ showing cmp f.region e else []))
        answers None = registers_ (registers f interest)
        answers (Some i) = of_cond (λ ps. Same (ps ++ (if registers f interest then declaring cmp matching n id e f ++ showing cmp f.region e else []))) (has_id i f.pendings) (Say (answer cmp matching n i e) ∷ []) [] (λ _. registers_ (registers f interest)) (λ _. registers_ (registers f interest))

        of_face : Same (if is_routed g f then declaring_of cmp matching n (source_of g f node) e f else answering cmp matching n interest e f ++ (if registers f interest then declaring cmp matching n id e f ++ showing cmp f.region e else []))
        of_face =
            of_cond Same (is_routed g f) (declaring_of cmp matching n (source_of g f node) e f) (answering cmp matching n interest e f ++ (if registers f interest then declaring cmp matching n id e f ++ showing cmp f.region e else []))
            (λ _. routed (source_of g f node)) (λ _. answers interest)

  -- ---- closing

  pub closing_says : (n : ℕ) (f : Face K) (g : Rows K) → find_face n g ≡ Some f → is_routed g f ≡ false → said cmp matching (CloseFace n) g ≡ said_by cmp matching (unsaid_to n (leaving cmp matching n f)) g
  unfolding parts_of
  closing_says n f g found plain =
      ap (λ (o : Option (Face K)). said_by cmp matching (elim o [ None ↦ [] | Some f ↦ closing cmp matching n g f ]) g) found
      ∙ said_by_last cmp matching (if is_routed g f then [] else unsaid_to n (leaving cmp matching n f)) (without_face n) g
      ∙ ap (λ (b : Bool). said_by cmp matching (if b then [] else unsaid_to n (leaving cmp matching n f)) g) plain

  -- what is said without what is said to one face
  pub messages_but_for : (n k : ℕ) (ss : Sends K) → messages_for k (filter (λ s. not (n == s.0)) ss) ≡ (if n == k then [] else messages_for k ss)
  unfolding messages_for
  messages_but_for n k [] = either (n == k)
    where
      either : (b : Bool) → (let none_ : List (Message K) = [] in none_) ≡ (if b then [] else [])
      either true = refl
      either false = refl
  messages_but_for n k (s ∷ ss) =
      by_test (n == s.0)
      (λ own.
      let is : n ≡ s.0 = eqb-true n s.0 own in
      rw own
      (messages_but_for n k ss
      ∙ by_test (n == k) (λ here. rw here refl)
      (λ here. let miss : (k == s.0) ≡ false = ne_eqb k s.0 (λ e. never (eq-eqb n k (is ∙ sym e)) here) in rw (here, miss) refl)))
      (λ own.
      rw own
      (by_test (k == s.0)
      (λ hit. let other : (n == k) ≡ false = ap (λ j. n == j) (eqb-true k s.0 hit) ∙ own in rw (hit, other) (ap (λ ms. s.1 ∷ ms) (messages_but_for n k ss ∙ ap (λ b. if b then [] else messages_for k ss) other)))
      (λ hit. rw hit (messages_but_for n k ss))))

  unsaid_nothing : (n : ℕ) (parts : List (Part K)) (g : Rows K) → messages_for n (said_by cmp matching (unsaid_to n parts) g) ≡ []
  unfolding said_by unsaid_to messages_for
  unsaid_nothing n [] g = refl
  unsaid_nothing n (Alter change ∷ parts) g = unsaid_nothing n parts (change g)
  unsaid_nothing n (Say rule ∷ parts) g =
      let ss = filter (λ s. not (n == s.0)) (rule g) in
      messages_for-append n ss (said_by cmp matching (unsaid_to n parts) (rows_heard cmp ss g))
      ∙ ap (λ ms. ms ++ messages_for n (said_by cmp matching (unsaid_to n parts) (rows_heard cmp ss g))) (messages_but_for n n (rule g) ∙ ap (λ b. if b then [] else messages_for n (rule g)) (eq-eqb n n refl))
      ∙ unsaid_nothing n parts (rows_heard cmp ss g)

  pub closing_routed : (n : ℕ) (f : Face K) (g : Rows K) → find_face n g ≡ Some f → is_routed g f ≡ true → said cmp matching (CloseFace n) g ≡ []
  unfolding parts_of said_by
  closing_routed n f g found routed =
      ap (λ (o : Option (Face K)). said_by cmp matching (elim o [ None ↦ [] | Some f ↦ closing cmp matching n g f ]) g) found
      ∙ said_by_last cmp matching (if is_routed g f then [] else unsaid_to n (leaving cmp matching n f)) (without_face n) g
      ∙ ap (λ (b : Bool). said_by cmp matching (if b then [] else unsaid_to n (leaving cmp matching n f)) g) routed

  -- nothing is said to the face that is closed
  pub closing_spares : (n : ℕ) (g : Rows K) → messages_for n (said cmp matching (CloseFace n) g) ≡ []
  unfolding parts_of said_by messages_for
  closing_spares n g = cases (find_face n g)
    where
      unsaid : (f : Face K) (b : Bool) → messages_for n (said_by cmp matching (if b then [] else unsaid_to n (leaving cmp matching n f)) g) ≡ []
      unsaid f true = refl
      unsaid f false = unsaid_nothing n (leaving cmp matching n f) g

      cases : (o : Option (Face K)) → messages_for n (said_by cmp matching (elim o [ None ↦ [] | Some f ↦ closing cmp matching n g f ]) g) ≡ []
      cases None = refl
      cases (Some f) = ap (messages_for n) (said_by_last cmp matching (if is_routed g f then [] else unsaid_to n (leaving cmp matching n f)) (without_face n) g) ∙ unsaid f (is_routed g f)
