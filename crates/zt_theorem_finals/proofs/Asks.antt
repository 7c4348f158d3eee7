-- One ask of a gateway while its rows change and its faces hear: whether it is there, and whether a pending of its stands.
use Rattle.std.proofs.Common.{◌≡◌, ℕ, ◌+◌, Bool, true, false, not, if◌then◌else◌, ◌&&◌, ◌||◌, ◌==◌, List, [], ◌∷◌, ◌++◌, length, length-append, map, filter, Option, Some, None, refl, sym, ap, ◌∙◌, subst, arith, eq-eqb, ne_eqb, eqb-true}
use Rattle.std.proofs.lemmas.Bool.{or_right}
use Rattle.std.specs.Ordering.{nat_cmp}
use Rattle.std.specs.FinMap.Entries.{by_order, put}
use Rattle.std.specs.List.{list_any}
use Rattle.std.specs.declared.cmp.Ordering.{Ordering}
use Rattle.std.specs.declared.cmp.Ordering.TheVariants.{Less, Equal, Greater}
use Rattle.std.proofs.lemmas.Cmp.{ranked}
use Rattle.zt_protocol.specs.Interest.{is_current}
use Rattle.zt_protocol.specs.declared.messages.Message.{Message}
use Rattle.zt_protocol.specs.declared.messages.Message.TheVariants as message
use Rattle.zt_model.specs.Hearing.{heard, heard_all, messages_for, put_if, rows_heard, with_answer}
use Rattle.zt_model.specs.Lists.{first_where, has_id, is_some_and, without_id}
use Rattle.zt_model.specs.Promises.{finals_in, is_final_of}
use Rattle.zt_model.specs.Routing.{ended, stands}
use Rattle.zt_model.specs.Rows.{Ask, ById, Face, Rows}
use Rattle.zt_model.specs.Says.{Sends, find_face, with_face}
use Rattle.zt_model.specs.Transcript.{Each}
use Rattle.zt_laws.specs.Sound.{RiseFrom}
use Rattle.zt_laws.proofs.Hearing.{find_passes, heard_all-number}
use Rattle.zt_laws.proofs.Lists.{any_alike, by_test, never, of_cond, rise_filter, rise_map}
use Rattle.zt_laws.proofs.PartsOrder.{each_message_for}
use Rattle.zt_theorem_soundness.proofs.ById.{find_mapped}
use Rattle.zt_theorem_soundness.proofs.Going.{MakesNoPending, asks_heard}
pub use Rattle.zt_theorem_finals.proofs.Last.{NoFinal}

-- ---- rows by id, and tests

has_without : {A : Type 0} (k id : ℕ) (rows : ById A) → has_id k (without_id id rows) ≡ (has_id k rows && not (id == k))
has_without k id [] = refl
has_without k id (row ∷ rows) =
    by_test (id == row.0)
    (λ here.
    by_test (k == row.0)
    (λ own.
    let same_ : (id == k) ≡ true = eq-eqb id k (eqb-true id row.0 here ∙ sym (eqb-true k row.0 own)) in
    rw (here, own, same_) (has_without k id rows ∙ ap (λ b. has_id k rows && not b) same_ ∙ none_left (has_id k rows)))
    (λ own. rw (here, own) (has_without k id rows)))
    (λ here.
    by_test (k == row.0)
    (λ own.
    let apart : (id == k) ≡ false = ap (λ j. id == j) (eqb-true k row.0 own) ∙ here in
    rw (here, own, apart) refl)
    (λ own. rw (here, own) (has_without k id rows)))
  where
    none_left : (b : Bool) → (b && false) ≡ false
    none_left true = refl
    none_left false = refl

pub has_put : {A : Type 0} (id : ℕ) (v : A) (rows : ById A) → has_id id (put nat_cmp id v rows) ≡ true
has_put id v [] = rw (eq-eqb id id refl) refl
has_put id v (row ∷ rows) =
    elim (nat_cmp id row.0) as (λ o. nat_cmp id row.0 ≡ o → has_id id (by_order o ((id, v) ∷ row ∷ rows) ((row.0, v) ∷ rows) (row ∷ put nat_cmp id v rows)) ≡ true) [
      | Less ↦ λ is. rw (eq-eqb id id refl) refl
      | Equal ↦ λ is. rw (eq-eqb id row.0 (ranked id row.0 Equal (sym is))) refl
      | Greater ↦ λ is. or_right (id == row.0) (has_id id (put nat_cmp id v rows)) (has_put id v rows)
    ] refl

pub has_put_other : {A : Type 0} (k id : ℕ) (v : A) (rows : ById A) → (k == id) ≡ false → has_id k (put nat_cmp id v rows) ≡ has_id k rows
has_put_other k id v [] apart = rw apart refl
has_put_other k id v (row ∷ rows) apart =
    elim (nat_cmp id row.0) as (λ o. nat_cmp id row.0 ≡ o → has_id k (by_order o ((id, v) ∷ row ∷ rows) ((row.0, v) ∷ rows) (row ∷ put nat_cmp id v rows)) ≡ has_id k (row ∷ rows)) [
      | Less ↦ λ is. rw apart refl
      | Equal ↦ λ is. refl
      | Greater ↦ λ is. ap (λ b. (k == row.0) || b) (has_put_other k id v rows apart)
    ] refl

-- what is there stays where a row is put
has_put_still : {A : Type 0} (k id : ℕ) (v : A) (rows : ById A) → has_id k rows ≡ true → has_id k (put nat_cmp id v rows) ≡ true
has_put_still k id v rows has =
    by_test (k == id)
    (λ own. subst (λ j. has_id j (put nat_cmp id v rows) ≡ true) (sym (eqb-true k id own)) (has_put id v rows))
    (λ own. has_put_other k id v rows own ∙ has)

pub any_filtered_length : {A : Type 0} (p : A → Bool) (xs : List A) → list_any p xs ≡ not (length (filter p xs) == 0)
any_filtered_length p [] = refl
any_filtered_length p (x ∷ xs) =
    by_test (p x)
    (λ here. let miss : (length (x ∷ filter p xs) == 0) ≡ false = ne_eqb (length (x ∷ filter p xs)) 0 (λ e. omega (arith, e)) in rw here (sym (ap not miss)))
    (λ here. rw here (any_filtered_length p xs))

filter-both : {A : Type 0} (p : A → Bool) (xs ys : List A) → filter p (xs ++ ys) ≡ filter p xs ++ filter p ys
filter-both p [] ys = refl
filter-both p (x ∷ xs) ys = by_test (p x) (λ here. rw here (ap (λ zs. x ∷ zs) (filter-both p xs ys))) (λ here. rw here (filter-both p xs ys))

module _ {K : Type 0} where
  pub finals-append : (i : ℕ) (xs ys : List (Message K)) → finals_in i (xs ++ ys) ≡ finals_in i xs + finals_in i ys
  finals-append i xs ys = ap (λ (ms : List (Message K)). length ms) (filter-both (is_final_of i) xs ys) ∙ length-append (filter (is_final_of i) xs) (filter (is_final_of i) ys)

  pub none_final : (i : ℕ) (ms : List (Message K)) → Each NoFinal ms → finals_in i ms ≡ 0
  none_final i [] none_ = refl
  none_final i (m ∷ ms) none_ = let miss : is_final_of i m ≡ false = none_.0 i in rw miss (none_final i ms none_.1)

  -- a final of the id is there
  pub any_final : (i : ℕ) (ms : List (Message K)) → list_any (is_final_of i) ms ≡ not (finals_in i ms == 0)
  any_final i ms = any_filtered_length (is_final_of i) ms

  -- ---- pendings

  -- faces go on, one for one
  pub find_changed : (n : ℕ) (change : Face K → Face K) (P : Face K → Bool) (fs : List (Face K)) → ((f : Face K) → (change f).number ≡ f.number)
      → is_some_and (first_where (λ f. n == f.number) (map change fs)) P ≡ is_some_and (first_where (λ f. n == f.number) fs) (λ f. P (change f))
  find_changed n change P [] number_ = refl
  find_changed n change P (f ∷ fs) number_ =
      let same_ : (n == (change f).number) ≡ (n == f.number) = ap (λ k. n == k) (number_ f) in
      by_test (n == f.number)
      (λ here. let there : (n == (change f).number) ≡ true = same_ ∙ here in rw (here, there) refl)
      (λ here. let there : (n == (change f).number) ≡ false = same_ ∙ here in rw (here, there) (find_changed n change P fs number_))

  some_alike : (o : Option (Face K)) (p q : Face K → Bool) → ((f : Face K) → p f ≡ q f) → is_some_and o p ≡ is_some_and o q
  some_alike None p q one = refl
  some_alike (Some f) p q one = one f

  some_still : (o : Option (Face K)) (p q : Face K → Bool) → ((f : Face K) → p f ≡ true → q f ≡ true) → is_some_and o p ≡ true → is_some_and o q ≡ true
  some_still None p q one has = has
  some_still (Some f) p q one has = one f has

  -- where each face keeps its pendings
  pub stands_changed : (g h : Rows K) (change : Face K → Face K) → h.faces ≡ map change g.faces → ((f : Face K) → (change f).number ≡ f.number) → ((f : Face K) → (change f).pendings ≡ f.pendings) → (p : ℕ × ℕ) → stands h p ≡ stands g p
  stands_changed g h change faces_ number_ pendings_ p =
      ap (λ (fs : List (Face K)). is_some_and (first_where (λ f. p.0 == f.number) fs) (λ f. has_id p.1 f.pendings)) faces_
      ∙ find_changed p.0 change (λ f. has_id p.1 f.pendings) g.faces number_
      ∙ some_alike (find_face p.0 g) (λ f. has_id p.1 (change f).pendings) (λ f. has_id p.1 f.pendings) (λ f. ap (has_id p.1) (pendings_ f))

  -- a pending ends
  pub stands_ended : (n id : ℕ) (g : Rows K) (p : ℕ × ℕ) → stands (with_face n (ended id) g) p ≡ (stands g p && not ((n == p.0) && (id == p.1)))
  unfolding with_face
  stands_ended n id g p = find_changed p.0 change (λ f. has_id p.1 f.pendings) g.faces number_ ∙ cases (find_face p.0 g) refl
    where
      change : Face K → Face K
      change f = if n == f.number then ended id f else f

      number_ : (f : Face K) → (change f).number ≡ f.number
      number_ f = of_cond (λ (k : Face K). k.number ≡ f.number) (n == f.number) (ended id f) f (λ _. refl) (λ _. refl)

      and_true : (b : Bool) → b ≡ (b && true)
      and_true true = refl
      and_true false = refl

      cases : (o : Option (Face K)) → find_face p.0 g ≡ o → is_some_and o (λ f. has_id p.1 (change f).pendings) ≡ (is_some_and o (λ f. has_id p.1 f.pendings) && not ((n == p.0) && (id == p.1)))
      cases None found = refl
      cases (Some f) found =
          let at_ : p.0 ≡ f.number = eqb-true p.0 f.number (find_passes (λ (k : Face K). p.0 == k.number) g.faces f found) in
          by_test (n == f.number)
          (λ here. let there : (n == p.0) ≡ true = ap (λ k. n == k) at_ ∙ here in rw (here, there) (has_without p.1 id f.pendings))
          (λ here. let there : (n == p.0) ≡ false = ap (λ k. n == k) at_ ∙ here in rw (here, there) (and_true (has_id p.1 f.pendings)))

-- ---- hearing

module _ {K : Type 0} (cmp : K → K → Ordering) where
  pub pendings_same : (now : ℕ) (ms : List (Message K)) (f : Face K) → Each MakesNoPending ms → (heard_all cmp now ms f).pendings ≡ f.pendings
  unfolding heard_all
  pendings_same now [] f none_ = refl
  pendings_same now (m ∷ ms) f none_ = pendings_same now ms (heard cmp now m f) none_.1 ∙ one m none_.0
    where
      one : (m : Message K) → MakesNoPending m → (heard cmp now m f).pendings ≡ f.pendings
      one (message.DeclareToken id e interest node) is = refl
      one (message.UndeclareToken id e node) is = refl
      one (message.DeclareFinal id) is = refl
      one (message.Interest id mode options e) is = absurd is
      one (message.InterestFinal id) is = refl
      one (message.DeclareSubscriber number e id) is = refl
      one (message.DeclareQueryable number e info id) is = refl

  pendings_more : (j now : ℕ) (ms : List (Message K)) (f : Face K) → has_id j f.pendings ≡ true → has_id j (heard_all cmp now ms f).pendings ≡ true
  unfolding heard_all
  pendings_more j now [] f has = has
  pendings_more j now (m ∷ ms) f has = pendings_more j now ms (heard cmp now m f) (one m)
    where
      one : (m : Message K) → has_id j (heard cmp now m f).pendings ≡ true
      one (message.DeclareToken id e interest node) = has
      one (message.UndeclareToken id e node) = has
      one (message.DeclareFinal id) = has
      one (message.Interest id mode options e) = by_mode (is_current mode)
        where
          by_mode : (b : Bool) → has_id j (put_if b id (record { mode = mode; since = now }) f.pendings) ≡ true
          by_mode true = has_put_still j id (record { mode = mode; since = now }) f.pendings has
          by_mode false = has
      one (message.InterestFinal id) = has
      one (message.DeclareSubscriber number e id) = has
      one (message.DeclareQueryable number e info id) = has

  -- hearing that makes no pending
  pub stands_heard : (ss : Sends K) (g : Rows K) → Each (λ s. MakesNoPending s.1) ss → (p : ℕ × ℕ) → stands (rows_heard cmp ss g) p ≡ stands g p
  unfolding rows_heard
  stands_heard ss g none_ p =
      stands_changed g (rows_heard cmp ss g) (λ f. heard_all cmp g.moment (messages_for f.number ss) f) refl (λ f. heard_all-number cmp g.moment (messages_for f.number ss) f)
      (λ f. pendings_same g.moment (messages_for f.number ss) f (each_message_for cmp MakesNoPending f.number ss none_)) p

  -- what stands, stands whatever is heard
  pub stands_still : (ss : Sends K) (g : Rows K) (p : ℕ × ℕ) → stands g p ≡ true → stands (rows_heard cmp ss g) p ≡ true
  unfolding rows_heard
  stands_still ss g p has =
      find_changed p.0 (λ f. heard_all cmp g.moment (messages_for f.number ss) f) (λ f. has_id p.1 f.pendings) g.faces (λ f. heard_all-number cmp g.moment (messages_for f.number ss) f)
      ∙ some_still (find_face p.0 g) (λ f. has_id p.1 f.pendings) (λ f. has_id p.1 (heard_all cmp g.moment (messages_for f.number ss) f).pendings) (λ f own. pendings_more p.1 g.moment (messages_for f.number ss) f own) has

  asks_rise_heard : (low now : ℕ) (ms : List (Message K)) (f : Face K) → RiseFrom (λ row. row.0) low f.asks → RiseFrom (λ row. row.0) low (heard_all cmp now ms f).asks
  unfolding heard_all
  asks_rise_heard low now [] f rises = rises
  asks_rise_heard low now (m ∷ ms) f rises = asks_rise_heard low now ms (heard cmp now m f) (one m)
    where
      number_ : (id : ℕ) (e : K) (row : ℕ × Ask K) → (with_answer cmp id e row).0 ≡ row.0
      number_ id e row = of_cond (λ (r : ℕ × Ask K). r.0 ≡ row.0) _ (row.0, record row.1 { answered = row.1.answered ++ e ∷ [] }) row (λ _. refl) (λ _. refl)

      one : (m : Message K) → RiseFrom (λ row. row.0) low (heard cmp now m f).asks
      one (message.DeclareToken id e None node) = rises
      one (message.DeclareToken id e (Some i) node) = rise_map (λ row. row.0) low (with_answer cmp i e) f.asks (number_ i e) rises
      one (message.UndeclareToken id e node) = rises
      one (message.DeclareFinal id) = rise_filter (λ row. row.0) low (λ row. not (id == row.0)) f.asks rises
      one (message.Interest id mode options e) = rises
      one (message.InterestFinal id) = rises
      one (message.DeclareSubscriber number e id) = rises
      one (message.DeclareQueryable number e info id) = rises

  -- an ask is there until its final
  pub has_ask_heard : (i now : ℕ) (ms : List (Message K)) (f : Face K) → has_id i (heard_all cmp now ms f).asks ≡ (has_id i f.asks && not (list_any (is_final_of i) ms))
  unfolding heard_all
  has_ask_heard i now [] f = and_true (has_id i f.asks)
    where
      and_true : (b : Bool) → b ≡ (b && true)
      and_true true = refl
      and_true false = refl
  has_ask_heard i now (m ∷ ms) f = has_ask_heard i now ms (heard cmp now m f) ∙ ap (λ b. b && not (list_any (is_final_of i) ms)) (one m) ∙ both (has_id i f.asks) (is_final_of i m) (list_any (is_final_of i) ms)
    where
      both : (a b c : Bool) → ((a && not b) && not c) ≡ (a && not (b || c))
      both true true c = refl
      both true false c = refl
      both false b c = refl

      and_true : (b : Bool) → b ≡ (b && true)
      and_true true = refl
      and_true false = refl

      answered : (id : ℕ) (e : K) (rows : ById (Ask K)) → has_id i (map (with_answer cmp id e) rows) ≡ has_id i rows
      answered id e [] = refl
      answered id e (row ∷ rows) =
          let same_ : (with_answer cmp id e row).0 ≡ row.0 = of_cond (λ (r : ℕ × Ask K). r.0 ≡ row.0) _ (row.0, record row.1 { answered = row.1.answered ++ e ∷ [] }) row (λ _. refl) (λ _. refl) in
          ap (λ k. (i == k) || has_id i (map (with_answer cmp id e) rows)) same_ ∙ ap (λ b. (i == row.0) || b) (answered id e rows)

      turn : (a b : ℕ) → (a == b) ≡ (b == a)
      turn a b = by_test (a == b) (λ here. here ∙ sym (eq-eqb b a (sym (eqb-true a b here)))) (λ here. here ∙ sym (by_test (b == a) (λ own. never (eq-eqb a b (sym (eqb-true b a own))) here) (λ own. own)))

      one : (m : Message K) → has_id i (heard cmp now m f).asks ≡ (has_id i f.asks && not (is_final_of i m))
      one (message.DeclareToken id e None node) = and_true (has_id i f.asks)
      one (message.DeclareToken id e (Some k) node) = answered k e f.asks ∙ and_true (has_id i f.asks)
      one (message.UndeclareToken id e node) = and_true (has_id i f.asks)
      one (message.DeclareFinal id) = has_without i id f.asks ∙ ap (λ b. has_id i f.asks && not b) (turn id i)
      one (message.Interest id mode options e) = and_true (has_id i f.asks)
      one (message.InterestFinal id) = and_true (has_id i f.asks)
      one (message.DeclareSubscriber number e id) = and_true (has_id i f.asks)
      one (message.DeclareQueryable number e info id) = and_true (has_id i f.asks)

  -- ---- one ask

  -- the same ask, whatever it was answered
  abbrev pub IsLike : Ask K → Ask K → Type 0
  IsLike ask other = (other.pendings ≡ ask.pendings) × (other.interest ≡ ask.interest)

  -- the k-th face is open, and its ask under an id, if it is there, is this one
  pub record AskAt (k i : ℕ) (ask : Ask K) (there : Bool) (g : Rows K) : Type 0 where
    pub face : Face K
    pub rises : RiseFrom (λ f. f.number) 1 g.faces
    pub found : find_face k g ≡ Some face
    pub asks_rise : RiseFrom (λ row. row.0) 0 face.asks
    pub own : Each (λ row. (i == row.0) ≡ true → IsLike ask row.1) face.asks
    pub has : has_id i face.asks ≡ there

  -- it is there exactly as long as a pending of its stands
  pub record IsAsk (k i : ℕ) (ask : Ask K) (there : Bool) (g : Rows K) : Type 0 where
    pub at : AskAt k i ask there g
    pub stand : list_any (stands g) ask.pendings ≡ there

  -- What a part of a call leaves of a gateway's faces, but for some: their numbers, regions and asks.
  pub record LeavesAsks (but : ℕ → Bool) (g h : Rows K) : Type 0 where
    pub mode : h.mode ≡ g.mode
    pub change : Face K → Face K
    pub faces : h.faces ≡ map change g.faces
    pub number : (f : Face K) → (change f).number ≡ f.number
    pub region : (f : Face K) → (change f).region ≡ f.region
    pub asks : (f : Face K) → but f.number ≡ false → (change f).asks ≡ f.asks
    pub none : (f : Face K) → f.pendings ≡ [] → (change f).pendings ≡ []

  -- and their pendings
  pub record LeavesBoth (but : ℕ → Bool) (g h : Rows K) : Type 0 where
    pub leaves : LeavesAsks but g h
    pub pendings : (f : Face K) → (leaves.change f).pendings ≡ f.pendings

  pub ask_changed : (but : ℕ → Bool) (k i : ℕ) (ask : Ask K) (there : Bool) (g h : Rows K) → but k ≡ false → LeavesAsks but g h → AskAt k i ask there g → AskAt k i ask there h
  ask_changed but k i ask there g h apart leaves at =
      let number_ : k ≡ at.face.number = eqb-true k at.face.number (find_passes (λ f. k == f.number) g.faces at.face at.found) in
      let asks_ : (leaves.change at.face).asks ≡ at.face.asks = leaves.asks at.face (ap but (sym number_) ∙ apart) in
      record {
        face = leaves.change at.face;
        rises = subst (RiseFrom (λ (f : Face K). f.number) 1) (sym leaves.faces) (rise_map (λ f. f.number) 1 leaves.change g.faces leaves.number at.rises);
        found = ap (λ (fs : List (Face K)). first_where (λ f. k == f.number) fs) leaves.faces ∙ find_mapped k leaves.change g.faces at.face leaves.number at.found;
        asks_rise = subst (RiseFrom (λ row. row.0) 0) (sym asks_) at.asks_rise;
        own = subst (Each (λ row. (i == row.0) ≡ true → IsLike ask row.1)) (sym asks_) at.own;
        has = ap (has_id i) asks_ ∙ at.has;
      }

  pub ask_heard : (k i : ℕ) (ask : Ask K) (there : Bool) (ss : Sends K) (g : Rows K) → AskAt k i ask there g → AskAt k i ask (there && not (list_any (is_final_of i) (messages_for k ss))) (rows_heard cmp ss g)
  unfolding rows_heard
  ask_heard k i ask there ss g at =
      let hears = λ (f : Face K). heard_all cmp g.moment (messages_for f.number ss) f in
      let number_ : k ≡ at.face.number = eqb-true k at.face.number (find_passes (λ f. k == f.number) g.faces at.face at.found) in
      record {
        face = hears at.face;
        rises = rise_map (λ f. f.number) 1 hears g.faces (λ f. heard_all-number cmp g.moment (messages_for f.number ss) f) at.rises;
        found = find_mapped k hears g.faces at.face (λ f. heard_all-number cmp g.moment (messages_for f.number ss) f) at.found;
        asks_rise = asks_rise_heard 0 g.moment (messages_for at.face.number ss) at.face at.asks_rise;
        own = asks_heard cmp (λ row. (i == row.0) ≡ true → IsLike ask row.1) (λ row es one. one) g.moment (messages_for at.face.number ss) at.face at.own;
        has = has_ask_heard i g.moment (messages_for at.face.number ss) at.face ∙ ap (λ b. b && not (list_any (is_final_of i) (messages_for at.face.number ss))) at.has ∙ ap (λ n. there && not (list_any (is_final_of i) (messages_for n ss))) (sym number_);
      }

  pub stand_changed : (but : ℕ → Bool) (g h : Rows K) → LeavesBoth but g h → (ps : List (ℕ × ℕ)) → list_any (stands h) ps ≡ list_any (stands g) ps
  stand_changed but g h both ps = any_alike (stands h) (stands g) (stands_changed g h both.leaves.change both.leaves.faces both.leaves.number both.pendings) ps

  pub is_changed : (but : ℕ → Bool) (k i : ℕ) (ask : Ask K) (there : Bool) (g h : Rows K) → but k ≡ false → LeavesBoth but g h → IsAsk k i ask there g → IsAsk k i ask there h
  is_changed but k i ask there g h apart both is = record { at = ask_changed but k i ask there g h apart both.leaves is.at; stand = stand_changed but g h both ask.pendings ∙ is.stand }
