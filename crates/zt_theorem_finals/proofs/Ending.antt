-- What parts of a call come to for one ask: it goes on, or it is finished, by one final.
use Rattle.std.proofs.Common.{◌≡◌, ℕ, ◌+◌, ◌≤◌, Bool, true, false, not, if◌then◌else◌, ◌&&◌, ◌||◌, ◌==◌, List, [], ◌∷◌, ◌++◌, length, map, filter, Some, refl, sym, ap, ◌∙◌, subst, arith, append-nil, ne_eqb, eqb-true}
use Rattle.std.proofs.lemmas.Bool.{and_parts}
use Rattle.std.specs.List.{flat_map, list_any}
use Rattle.std.specs.declared.cmp.Ordering.{Ordering}
use Rattle.zt_protocol.specs.declared.messages.Message.{Message}
use Rattle.zt_protocol.specs.declared.messages.Message.TheVariants as message
use Rattle.zt_model.specs.Hearing.{messages_for, rows_heard}
use Rattle.zt_model.specs.Lists.{has_id}
use Rattle.zt_model.specs.Promises.{finals_in, is_final_of}
use Rattle.zt_model.specs.Routing.{ended, finish_to, is_finished_by, stands}
use Rattle.zt_model.specs.Rows.{Ask, ById, Face, Rows}
use Rattle.zt_model.specs.Says.{Alter, Part, Say, Sends, find_face, said_by, to_each, to_face, with_face}
use Rattle.zt_model.specs.Transcript.{Each}
use Rattle.zt_laws.specs.Sound.{RiseFrom}
use Rattle.zt_laws.proofs.Hearing.{each_ruled, find_each, find_passes, messages_for-append, messages_for_each}
use Rattle.zt_laws.proofs.Lists.{any_alike, any_weaker, by_test, each_fails, each_weaker, fails_with, of_cond, rise_above}
use Rattle.zt_laws.proofs.PartsOrder.{each_message_for}
use Rattle.zt_theorem_soundness.specs.Ran.{ran}
use Rattle.zt_theorem_soundness.proofs.Going.{IsQuietMessage, MakesNoPending, drawn_if_quiet, none_if_drawn}
use Rattle.zt_theorem_soundness.proofs.Parts.{Spares, nobody, quiet_finish}
use Rattle.zt_theorem_soundness.proofs.Running.{ran-append, said_by-append}
use Rattle.zt_theorem_finals.proofs.Asks.{AskAt, IsAsk, IsLike, LeavesAsks, LeavesBoth, NoFinal, any_final, ask_changed, ask_heard, finals-append, is_changed, none_final, stands_ended, stands_heard, stands_still}
use Rattle.zt_theorem_finals.proofs.Initial.{to_face_none, to_face_own}

-- the finals that an ask has still to get
abbrev pub count : Bool → ℕ
count b = if b then 1 else 0

counted : (b : Bool) → not (count b == 0) ≡ b
counted true = refl
counted false = refl

-- a test of others is the same where these fail one
any_others : {A : Type 0} (s q : A → Bool) (xs : List A) → Each (λ x. q x ≡ false) xs → list_any (λ x. s x && not (q x)) xs ≡ list_any s xs
any_others s q [] none_ = refl
any_others s q (x ∷ xs) none_ = let miss : q x ≡ false = none_.0 in rw miss (ap (λ b. b || list_any (λ y. s y && not (q y)) xs) (and_true (s x)) ∙ ap (λ b. s x || b) (any_others s q xs none_.1))
  where
    and_true : (b : Bool) → (b && true) ≡ b
    and_true true = refl
    and_true false = refl

module _ {K : Type 0} where
  pub finals_none : (i : ℕ) (q : ℕ × Ask K → Bool) (rows : ById (Ask K)) → Each (λ row. (i == row.0) ≡ false) rows → finals_in i (let ms : List (Message K) = map (λ row. message.DeclareFinal row.0) (filter q rows) in ms) ≡ 0
  finals_none i q [] apart = refl
  finals_none i q (row ∷ rows) apart = let miss : (i == row.0) ≡ false = apart.0 in by_test (q row) (λ here. rw (here, miss) (finals_none i q rows apart.1)) (λ here. rw here (finals_none i q rows apart.1))

  -- the finals of one id, where ids rise
  finals_each : (i : ℕ) (q : ℕ × Ask K → Bool) (v : Bool) (low : ℕ) (rows : ById (Ask K)) → RiseFrom (λ row. row.0) low rows → Each (λ row. (i == row.0) ≡ true → q row ≡ v) rows
      → finals_in i (let ms : List (Message K) = map (λ row. message.DeclareFinal row.0) (filter q rows) in ms) ≡ count (has_id i rows && v)
  finals_each i q v low [] rises all = refl
  finals_each i q v low (row ∷ rows) rises all =
      by_test (i == row.0)
      (λ here.
      let is : i ≡ row.0 = eqb-true i row.0 here in
      let rest = finals_none i q rows (each_weaker (λ r. row.0 + 1 ≤ r.0) (λ r. (i == r.0) ≡ false) (λ r above. ne_eqb i r.0 (λ e. omega arith)) rows (rise_above (λ r. r.0) (row.0 + 1) rows rises.1)) in
      let v_is : q row ≡ v = all.0 here in
      by_test (q row)
      (λ yes_.
      let v_ : v ≡ true = sym v_is ∙ yes_ in
      let filtered : filter q (row ∷ rows) ≡ row ∷ filter q rows = rw yes_ refl in
      ap (λ (rs : ById (Ask K)). finals_in i (let ms : List (Message K) = map (λ r. message.DeclareFinal r.0) rs in ms)) filtered ∙ own_final (map (λ r. message.DeclareFinal r.0) (filter q rows)) here rest ∙ ap count (sym v_) ∙ ap (λ b. count ((b || has_id i rows) && v)) (sym here))
      (λ no_. let v_ : v ≡ false = sym v_is ∙ no_ in rw (here, no_, v_) rest))
      (λ here.
      let more = finals_each i q v (row.0 + 1) rows rises.1 all.1 in
      by_test (q row) (λ yes_. rw (yes_, here) more) (λ no_. rw (no_, here) more))
    where
      one_more : (xs : List (Message K)) (x : Message K) → length xs ≡ 0 → length (x ∷ xs) ≡ 1
      one_more xs x none_ = omega (arith, none_)

      own_final : (ms : List (Message K)) → (i == row.0) ≡ true → finals_in i ms ≡ 0 → finals_in i (message.DeclareFinal row.0 ∷ ms) ≡ 1
      own_final ms here none_ = rw here (one_more (filter (is_final_of i) ms) (message.DeclareFinal row.0) none_)

-- changes of one face that leave its asks, but for some faces
pub record Beside {K : Type 0} (but : ℕ → Bool) (change : Face K → Face K) : Type 0 where
  pub number : (f : Face K) → (change f).number ≡ f.number
  pub region : (f : Face K) → (change f).region ≡ f.region
  pub asks : (f : Face K) → but f.number ≡ false → (change f).asks ≡ f.asks
  pub none : (f : Face K) → f.pendings ≡ [] → (change f).pendings ≡ []

module _ {K : Type 0} (cmp : K → K → Ordering) (matching : K → K → Bool) where
  pub leaves_face : (but : ℕ → Bool) (n : ℕ) (change : Face K → Face K) (g : Rows K) → Beside but change → LeavesAsks cmp but g (with_face n change g)
  unfolding with_face
  leaves_face but n change g beside = record {
    mode = refl;
    change = λ f. if n == f.number then change f else f;
    faces = refl;
    number = λ f. of_cond (λ (k : Face K). k.number ≡ f.number) (n == f.number) (change f) f (λ _. beside.number f) (λ _. refl);
    region = λ f. of_cond (λ (k : Face K). k.region ≡ f.region) (n == f.number) (change f) f (λ _. beside.region f) (λ _. refl);
    asks = λ f apart. of_cond (λ (k : Face K). k.asks ≡ f.asks) (n == f.number) (change f) f (λ _. beside.asks f apart) (λ _. refl);
    none = λ f none_. of_cond (λ (k : Face K). k.pendings ≡ []) (n == f.number) (change f) f (λ _. beside.none f none_) (λ _. none_);
  }

  pub both_face : (but : ℕ → Bool) (n : ℕ) (change : Face K → Face K) (g : Rows K) → Beside but change → ((f : Face K) → (change f).pendings ≡ f.pendings) → LeavesBoth cmp but g (with_face n change g)
  unfolding with_face leaves_face
  both_face but n change g beside pendings_ = record {
    leaves = leaves_face but n change g beside;
    pendings = λ f. of_cond (λ (k : Face K). k.pendings ≡ f.pendings) (n == f.number) (change f) f (λ _. pendings_ f) (λ _. refl);
  }

  map_itself : {A : Type 0} (xs : List A) → map (λ x. x) xs ≡ xs
  map_itself [] = refl
  map_itself (x ∷ xs) = ap (λ ys. x ∷ ys) (map_itself xs)

  pub both_same : (but : ℕ → Bool) (g h : Rows K) → h.mode ≡ g.mode → h.faces ≡ g.faces → LeavesBoth cmp but g h
  both_same but g h mode_ faces_ = record {
    leaves = record { mode = mode_; change = λ f. f; faces = faces_ ∙ sym (map_itself g.faces); number = λ f. refl; region = λ f. refl; asks = λ f apart. refl; none = λ f none_. none_ };
    pendings = λ f. refl;
  }

  pub ended_beside : (but : ℕ → Bool) (id : ℕ) → Beside {K = K} but (ended id)
  ended_beside but id = record { number = λ f. refl; region = λ f. refl; asks = λ f apart. refl; none = λ f none_. ap (λ rows. filter (λ row. not (id == row.0)) rows) none_ }

  -- ---- messages and parts that leave asks and pendings

  abbrev pub StillMessage : Message K → Type 0
  StillMessage (message.DeclareFinal id) = ⊥
  StillMessage (message.Interest id mode options e) = ⊥
  StillMessage _ = Unit {0}

  pub none_if_still : (m : Message K) → StillMessage m → MakesNoPending m
  none_if_still (message.DeclareToken id e interest node) still = tt
  none_if_still (message.UndeclareToken id e node) still = tt
  none_if_still (message.DeclareFinal id) still = absurd still
  none_if_still (message.Interest id mode options e) still = absurd still
  none_if_still (message.InterestFinal id) still = tt
  none_if_still (message.DeclareSubscriber number e id) still = tt
  none_if_still (message.DeclareQueryable number e info id) still = tt

  pub no_final_if_still : (m : Message K) → StillMessage m → NoFinal m
  no_final_if_still (message.DeclareToken id e interest node) still = λ i. refl
  no_final_if_still (message.UndeclareToken id e node) still = λ i. refl
  no_final_if_still (message.DeclareFinal id) still = absurd still
  no_final_if_still (message.Interest id mode options e) still = absurd still
  no_final_if_still (message.InterestFinal id) still = λ i. refl
  no_final_if_still (message.DeclareSubscriber number e id) still = λ i. refl
  no_final_if_still (message.DeclareQueryable number e info id) still = λ i. refl

  abbrev pub PartStill : (ℕ → Bool) → Part K → Type 0
  PartStill but (Alter change) = (g : Rows K) → LeavesBoth cmp but g (change g)
  PartStill but (Say rule) = (g : Rows K) → Each (λ s. StillMessage s.1) (rule g)

  module _ (k i : ℕ) (ask : Ask K) where
    pub record Outcome (before : Bool) (h : Rows K) (ms : List (Message K)) : Type 0 where
      pub there : Bool
      pub is : IsAsk cmp k i ask there h
      pub counts : finals_in i ms + count there ≡ count before

    abbrev pub Ends : List (Part K) → Type 0
    Ends parts = (b : Bool) (g : Rows K) → IsAsk cmp k i ask b g → Outcome b (ran cmp parts g) (messages_for k (said_by cmp matching parts g))

    pub ends_nothing : Ends []
    unfolding ran said_by messages_for
    ends_nothing b g is = record { there = b; is = is; counts = cases b }
      where
        cases : (b : Bool) → 0 + count b ≡ count b
        cases true = refl
        cases false = refl

    pub ends_append : (ps qs : List (Part K)) → Ends ps → Ends qs → Ends (ps ++ qs)
    ends_append ps qs first second b g is =
        let one = first b g is in
        let h = ran cmp ps g in
        let two = second one.there h one.is in
        let xs = messages_for k (said_by cmp matching ps g) in
        let ys = messages_for k (said_by cmp matching qs h) in
        let split : messages_for k (said_by cmp matching (ps ++ qs) g) ≡ xs ++ ys = ap (messages_for k) (said_by-append cmp matching ps qs g) ∙ messages_for-append k (said_by cmp matching ps g) (said_by cmp matching qs h) in
        let sum : finals_in i (messages_for k (said_by cmp matching (ps ++ qs) g)) ≡ finals_in i xs + finals_in i ys = ap (finals_in i) split ∙ finals-append i xs ys in
        let a : finals_in i xs + count one.there ≡ count b = one.counts in
        let c : finals_in i ys + count two.there ≡ count one.there = two.counts in
        record {
          there = two.there;
          is = subst (IsAsk cmp k i ask two.there) (sym (ran-append cmp ps qs g)) two.is;
          counts = ap (λ n. n + count two.there) sum ∙ added (finals_in i xs) (finals_in i ys) (count two.there) (count one.there) (count b) a c;
        }
      where
        added : (x y z u v : ℕ) → x + u ≡ v → y + z ≡ u → (x + y) + z ≡ v
        added x y z u v one two = omega (arith, one, two)

    pub ends_all : {A : Type 0} (parts : A → List (Part K)) (xs : List A) → ((x : A) → Ends (parts x)) → Ends (flat_map parts xs)
    ends_all parts [] one = ends_nothing
    ends_all parts (x ∷ xs) one = ends_append (parts x) (flat_map parts xs) (one x) (ends_all parts xs one)

    -- where nothing of asks and pendings changes
    pub still_heard : (b : Bool) (ss : Sends K) (g : Rows K) → Each (λ s. StillMessage s.1) ss → IsAsk cmp k i ask b g → IsAsk cmp k i ask b (rows_heard cmp ss g) × (finals_in i (messages_for k ss) ≡ 0)
    still_heard b ss g still is =
        let none_ : finals_in i (messages_for k ss) ≡ 0 = none_final i (messages_for k ss) (each_message_for cmp NoFinal k ss (each_weaker (λ s. StillMessage s.1) (λ s. NoFinal s.1) (λ s one. no_final_if_still s.1 one) ss still)) in
        let any_ : list_any (is_final_of i) (messages_for k ss) ≡ false = any_final i (messages_for k ss) ∙ ap (λ n. not (n == 0)) none_ in (
          record {
            at = subst (λ c. AskAt cmp k i ask c (rows_heard cmp ss g)) (ap (λ c. b && not c) any_ ∙ and_true b) (ask_heard cmp k i ask b ss g is.at);
            stand = any_alike (stands (rows_heard cmp ss g)) (stands g) (stands_heard cmp ss g (each_weaker (λ s. StillMessage s.1) (λ s. MakesNoPending s.1) (λ s one. none_if_still s.1 one) ss still)) ask.pendings ∙ is.stand;
          },
          none_,
        )
      where
        and_true : (b : Bool) → (b && true) ≡ b
        and_true true = refl
        and_true false = refl

    pub ends_still : (but : ℕ → Bool) → but k ≡ false → (parts : List (Part K)) → Each (PartStill but) parts → Ends parts
    unfolding ran said_by
    ends_still but apart [] still b g is = ends_nothing b g is
    ends_still but apart (Alter change ∷ parts) still b g is = ends_still but apart parts still.1 b (change g) (is_changed cmp but k i ask b g (change g) apart (still.0 g) is)
    ends_still but apart (Say rule ∷ parts) still b g is =
        let ss = rule g in
        let h = rows_heard cmp ss g in
        let one = still_heard b ss g (still.0 g) is in
        let rest = ends_still but apart parts still.1 b h one.0 in
        let xs = messages_for k ss in
        let ys = messages_for k (said_by cmp matching parts h) in
        let sum : finals_in i (messages_for k (ss ++ said_by cmp matching parts h)) ≡ finals_in i ys = ap (finals_in i) (messages_for-append k ss (said_by cmp matching parts h)) ∙ finals-append i xs ys ∙ no_more (finals_in i xs) (finals_in i ys) one.1 in
        record { there = rest.there; is = rest.is; counts = ap (λ n. n + count rest.there) sum ∙ rest.counts }
      where
        no_more : (x y : ℕ) → x ≡ 0 → x + y ≡ y
        no_more x y none_ = omega (arith, none_)

    -- ---- parts that leave an ask where it is

    abbrev pub Stays : List (Part K) → Type 0
    Stays parts = (g : Rows K) → IsAsk cmp k i ask true g → IsAsk cmp k i ask true (ran cmp parts g) × (finals_in i (messages_for k (said_by cmp matching parts g)) ≡ 0)

    pub stays_nothing : Stays []
    unfolding ran said_by messages_for
    stays_nothing g is = (is, refl)

    pub stays_alter : (change : Rows K → Rows K) (parts : List (Part K)) → ((g : Rows K) → IsAsk cmp k i ask true g → IsAsk cmp k i ask true (change g)) → Stays parts → Stays (Alter change ∷ parts)
    unfolding ran said_by
    stays_alter change parts one rest g is = rest (change g) (one g is)

    -- whatever is heard but its final
    pub stays_heard : (ss : Sends K) (g : Rows K) → finals_in i (messages_for k ss) ≡ 0 → IsAsk cmp k i ask true g → IsAsk cmp k i ask true (rows_heard cmp ss g)
    stays_heard ss g none_ is = record {
      at = subst (λ c. AskAt cmp k i ask c (rows_heard cmp ss g)) (ap not (any_final i (messages_for k ss) ∙ ap (λ n. not (n == 0)) none_)) (ask_heard cmp k i ask true ss g is.at);
      stand = any_weaker (stands g) (stands (rows_heard cmp ss g)) (stands_still cmp ss g) ask.pendings is.stand;
    }

    pub stays_say : (rule : Rows K → Sends K) (parts : List (Part K)) → ((g : Rows K) → IsAsk cmp k i ask true g → finals_in i (messages_for k (rule g)) ≡ 0) → Stays parts → Stays (Say rule ∷ parts)
    unfolding ran said_by
    stays_say rule parts one rest g is =
        let ss = rule g in
        let h = rows_heard cmp ss g in
        let none_ = one g is in
        let after = rest h (stays_heard ss g none_ is) in (
          after.0,
          ap (finals_in i) (messages_for-append k ss (said_by cmp matching parts h)) ∙ finals-append i (messages_for k ss) (messages_for k (said_by cmp matching parts h)) ∙ neither (finals_in i (messages_for k ss)) (finals_in i (messages_for k (said_by cmp matching parts h))) none_ after.1,
        )
      where
        neither : (x y : ℕ) → x ≡ 0 → y ≡ 0 → x + y ≡ 0
        neither x y one two = omega (arith, one, two)

    pub stays_still : (parts : List (Part K)) → Each (PartStill nobody) parts → Stays parts
    stays_still [] still = stays_nothing
    stays_still (Alter change ∷ parts) still = stays_alter change parts (λ g is. is_changed cmp nobody k i ask true g (change g) refl (still.0 g) is) (stays_still parts still.1)
    stays_still (Say rule ∷ parts) still = stays_say rule parts (λ g is. (still_heard true (rule g) g (still.0 g) is).1) (stays_still parts still.1)

    pub outcome_stays : (parts : List (Part K)) (g : Rows K) → Stays parts → IsAsk cmp k i ask true g → Outcome true (ran cmp parts g) (messages_for k (said_by cmp matching parts g))
    outcome_stays parts g stays is = let after = stays g is in record { there = true; is = after.0; counts = ap (λ n. n + 1) after.1 }

    -- what one face is sent
    pub face_finals : (n : ℕ) (rule : Face K → List (Message K)) (g : Rows K) (b : Bool) (at : AskAt cmp k i ask b g) → ((k == n) ≡ true → finals_in i (rule at.face) ≡ 0) → finals_in i (messages_for k (to_face n rule g)) ≡ 0
    face_finals n rule g b at one =
        by_test (k == n)
        (λ own.
        let is : k ≡ n = eqb-true k n own in
        ap (λ j. finals_in i (messages_for j (to_face n rule g))) is ∙ ap (finals_in i) (to_face_own n rule g at.face (subst (λ j. find_face j g ≡ Some at.face) is at.found)) ∙ one own)
        (λ other. ap (finals_in i) (to_face_none k n rule g other))

    -- a pending ends, and the asks get their finals that have none any more
    pub ends_ending : (but : ℕ → Bool) (spare : Sends K → Sends K) → Spares but spare → but k ≡ false → (n id : ℕ) → Ends (Alter (with_face n (ended id)) ∷ Say (λ g. spare (to_each (finish_to g n id) g.faces)) ∷ [])
    unfolding ran said_by finish_to
    ends_ending but spare spares apart n id b g is =
        record {
          there = st;
          is = record {
            at = subst (λ c. AskAt cmp k i ask c h) (ap (λ c. b && not c) any_ ∙ there_) (ask_heard cmp k i ask b (spare ss) g1 at1);
            stand = any_alike (stands h) (stands g1) (stands_heard cmp (spare ss) g1 none_) ask.pendings;
          };
          counts = ap (λ xs. finals_in i (messages_for k xs) + count st) (append-nil (spare ss)) ∙ ap (λ c. c + count st) count_ ∙ summed b sent st (λ x. fewer x) (λ x y. kept x y);
        }
      where
        g1 : Rows K
        g1 = with_face n (ended id) g

        at1 : AskAt cmp k i ask b g1
        at1 = ask_changed cmp but k i ask b g g1 apart (leaves_face but n (ended id) g (ended_beside but id)) is.at

        rule : Face K → List (Message K)
        rule = finish_to g1 n id

        ss : Sends K
        ss = to_each rule g1.faces

        h : Rows K
        h = rows_heard cmp (spare ss) g1

        none_ : Each (λ s. MakesNoPending s.1) (spare ss)
        none_ = each_weaker (λ s. IsQuietMessage s.1) (λ s. MakesNoPending s.1) (λ s quiet. none_if_drawn s.1 (drawn_if_quiet s.1 quiet)) (spare ss) (spares.quiet ss (each_ruled IsQuietMessage rule g1.faces (quiet_finish g1 n id)))

        is_this : ℕ × ℕ → Bool
        is_this p = (n == p.0) && (id == p.1)

        sent : Bool
        sent = list_any is_this ask.pendings

        st : Bool
        st = list_any (stands g1) ask.pendings

        number_ : k ≡ at1.face.number
        number_ = eqb-true k at1.face.number (find_passes (λ f. k == f.number) g1.faces at1.face at1.found)

        ms : messages_for k (spare ss) ≡ rule at1.face
        ms = spares.speaks k ss apart ∙ ap (λ j. messages_for j ss) number_ ∙ find_each (λ f. messages_for f.number ss ≡ rule f) (λ f. k == f.number) g1.faces at1.face (messages_for_each 1 rule g1.faces at1.rises) at1.found

        finals_ : finals_in i (rule at1.face) ≡ count (has_id i at1.face.asks && (sent && not st))
        finals_ =
            finals_each i (λ row. is_finished_by g1 n id row.1) (sent && not st) 0 at1.face.asks at1.asks_rise
            (each_weaker (λ row. (i == row.0) ≡ true → IsLike cmp ask row.1) (λ row. (i == row.0) ≡ true → is_finished_by g1 n id row.1 ≡ (sent && not st)) (λ row own hit. ap (λ ps. list_any is_this ps && not (list_any (stands g1) ps)) (own hit).0) at1.face.asks at1.own)

        count_ : finals_in i (messages_for k (spare ss)) ≡ count (b && (sent && not st))
        count_ = ap (finals_in i) ms ∙ finals_ ∙ ap (λ c. count (c && (sent && not st))) at1.has

        any_ : list_any (is_final_of i) (messages_for k (spare ss)) ≡ (b && (sent && not st))
        any_ = any_final i (messages_for k (spare ss)) ∙ ap (λ c. not (c == 0)) count_ ∙ counted (b && (sent && not st))

        -- a pending that stands, stood
        fewer : b ≡ false → st ≡ false
        fewer gone =
            fails_with st b
            (λ has. sym is.stand ∙ any_weaker (stands g1) (stands g) (λ p own. (and_parts (stands g p) (not (is_this p)) (sym (stands_ended n id g p) ∙ own)).0) ask.pendings has) gone

        -- another pending's end leaves it
        kept : b ≡ true → sent ≡ false → st ≡ true
        kept was none_sent =
            any_alike (stands g1) (λ p. stands g p && not (is_this p)) (stands_ended n id g) ask.pendings
            ∙ any_others (stands g) is_this ask.pendings (each_fails is_this ask.pendings none_sent)
            ∙ is.stand ∙ was

        there_by : (b sent st : Bool) → (b ≡ false → st ≡ false) → (b ≡ true → sent ≡ false → st ≡ true) → (b && not (b && (sent && not st))) ≡ st
        there_by true true true fewer_ kept_ = refl
        there_by true true false fewer_ kept_ = refl
        there_by true false st fewer_ kept_ = sym (kept_ refl refl)
        there_by false sent st fewer_ kept_ = sym (fewer_ refl)

        there_ : (b && not (b && (sent && not st))) ≡ st
        there_ = there_by b sent st (λ x. fewer x) (λ x y. kept x y)

        summed : (b sent st : Bool) → (b ≡ false → st ≡ false) → (b ≡ true → sent ≡ false → st ≡ true) → count (b && (sent && not st)) + count st ≡ count b
        summed true true true fewer_ kept_ = refl
        summed true true false fewer_ kept_ = refl
        summed true false st fewer_ kept_ = ap (λ c. 0 + count c) (kept_ refl refl)
        summed false sent st fewer_ kept_ = ap (λ c. 0 + count c) (fewer_ refl)
