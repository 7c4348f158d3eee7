-- What keeps asks known by what they were sent as.
use Rattle.std.proofs.Common.{◌≡◌, ℕ, ◌+◌, ◌<◌, ◌==◌, ◌&&◌, Bool, true, false, cond, if◌then◌else◌, List, [], ◌∷◌, ◌++◌, Option, Some, add-one, ap, drop, eq-eqb, get_or, length, map, refl, subst, suc, sym, ◌∙◌}
use Rattle.std.proofs.Math.Seq.{drop-cons}
use Rattle.std.proofs.lemmas.Bool.{and_from, and_parts, eqb-true}
use Rattle.std.proofs.lemmas.Cmp.{ranked}
use Rattle.std.specs.FinMap.Entries.{by_order, put}
use Rattle.std.specs.List.{AllByRecursion, list_any}
use Rattle.std.specs.Ordering.{nat_cmp}
use Rattle.std.specs.declared.cmp.Ordering.TheVariants.{Less, Equal, Greater}
use Rattle.zt_keys.specs.Test.{by_test}
use Rattle.zt_model.specs.Hearing.{put_if}
use Rattle.zt_model.specs.Rows.{Ask, ById, Face}
use Rattle.zt_model.specs.Telling.{was_sent_as}
use Rattle.zt_faces.specs.Asked.{AreAsked, AreKnown, Askings, IsAskerOf, IsKnown, KnowsMore, asker_at, knows, pair_eq}
use Rattle.zt_faces.specs.declared.asked.Asker.{Asker}

-- ---- by askers that know more

pub same-known : (askers : Askings) → KnowsMore askers askers
same-known askers = record { at = λ p n id known. known }

pub more-still : (old mid new : Askings) → KnowsMore old mid → KnowsMore mid new → KnowsMore old new
more-still old mid new more further = record { at = λ p n id known. further.at p n id (more.at p n id known) }

pub known-more : (n id : ℕ) (old new : Askings) → KnowsMore old new → (sent : List (ℕ × ℕ)) → IsKnown old n id sent → IsKnown new n id sent
known-more n id old new more [] known = tt
known-more n id old new more (p ∷ sent) known = (more.at p n id known.0, known-more n id old new more sent known.1)

module _ {K : Type 0} where
  pub asks-more : (n : ℕ) (old new : Askings) → KnowsMore old new → (asks : ById (Ask K)) → AreKnown old n asks → AreKnown new n asks
  asks-more n old new more [] known = tt
  asks-more n old new more (row ∷ asks) known = (known-more n row.0 old new more row.1.pendings known.0, asks-more n old new more asks known.1)

  pub asked-more : (old new : Askings) → KnowsMore old new → (faces : List (Face K)) → AreAsked old faces → AreAsked new faces
  asked-more old new more [] known = tt
  asked-more old new more (f ∷ faces) known = (asks-more f.number old new more f.asks known.0, asked-more old new more faces known.1)

-- ---- as one thing after another becomes known

pub record Noted {X : Type 0} (Q : Askings → X → Type 0) (old new : Askings) (left all : List X) : Type 0 where
  pub kept : KnowsMore old new
  pub rest : (final : Askings) → KnowsMore new final → AllByRecursion (Q final) left → AllByRecursion (Q final) all

module _ {X : Type 0} (Q : Askings → X → Type 0) where
  pub noted-none : (askers : Askings) (all : List X) → Noted Q askers askers all all
  noted-none askers all = record { kept = same-known askers; rest = λ final more known. known }

  pub noted-more : ((old new : Askings) (x : X) → KnowsMore old new → Q old x → Q new x) → (old mid new : Askings) (x : X) (left later all : List X)
      → left ≡ x ∷ later → Noted Q old mid left all → KnowsMore mid new → Q new x → Noted Q old new later all
  noted-more still old mid new x left later all is noted more here = record {
    kept = more-still old mid new noted.kept more;
    rest = λ final further known. noted.rest final (more-still mid new final more further) (subst (AllByRecursion (Q final)) (sym is) (still new final x further here, known));
  }

  pub noted-all : (old new : Askings) (left all : List X) → left ≡ [] → Noted Q old new left all → AllByRecursion (Q new) all
  noted-all old new left all is noted = noted.rest new (same-known new) (subst (AllByRecursion (Q new)) (sym is) tt)

-- what is left at an index begins with the item there
pub item-left : {X : Type 0} (xs : List X) (i : ℕ) (x : X) → i < length xs → x ≡ get_or xs i x → drop i xs ≡ x ∷ drop (i + 1) xs
item-left xs i x lt is = rw add-one (drop-cons xs i x lt ∙ ap (λ y. y ∷ drop (suc i) xs) (sym is))

-- ---- as one is put

-- two numbers are the same where their test says so
pub pair_eq-same : (a b : ℕ × ℕ) → pair_eq a b ≡ true → a ≡ b
pair_eq-same a b same =
    let both = and_parts (a.0 == b.0) (a.1 == b.1) same in
    λ i. (eqb-true a.0 b.0 both.0 i, eqb-true a.1 b.1 both.1 i)

pub pair_eq-refl : (a : ℕ × ℕ) → pair_eq a a ≡ true
pair_eq-refl a = and_from _ _ (eq-eqb a.0 a.0 refl) (eq-eqb a.1 a.1 refl)

module _ (old new : ℕ × ℕ → Option Asker) (sent : ℕ × ℕ) (asker : Asker)
    (is : (q : ℕ × ℕ) → new q ≡ cond (pair_eq sent q) (Some asker) (old q)) where
  pub one-put : ((n id : ℕ) → knows (asker_at old sent) n id ≡ true → knows asker n id ≡ true) → KnowsMore (asker_at old) (asker_at new)
  one-put kept = record {
    at = λ p n id known.
        by_test (pair_eq sent p)
        (λ t. rw (is p, t) (kept n id (subst (λ q. knows (asker_at old q) n id ≡ true) (sym (pair_eq-same sent p t)) known)))
        (λ t. rw (is p, t) known);
  }

  pub one-here : (n id : ℕ) → knows asker n id ≡ true → knows (asker_at new sent) n id ≡ true
  one-here n id known = rw (is sent, pair_eq-refl sent) known

-- a row that is put in its place
pub all-put : {A : Type 0} (P : ℕ × A → Type 0) (id : ℕ) (v : A) (rows : ById A) → P (id, v) → AllByRecursion P rows → AllByRecursion P (put nat_cmp id v rows)
all-put P id v [] new all = (new, tt)
all-put P id v (row ∷ rows) new all =
    elim (nat_cmp id row.0) as (λ o. nat_cmp id row.0 ≡ o → AllByRecursion P (by_order o ((id, v) ∷ row ∷ rows) ((row.0, v) ∷ rows) (row ∷ put nat_cmp id v rows))) [
      | Less ↦ λ is. (new, all)
      | Equal ↦ λ is. (subst (λ k. P (k, v)) (ranked id row.0 Equal (sym is)) new, all.1)
      | Greater ↦ λ is. (all.0, all-put P id v rows new all.1)
    ] refl

-- ---- who is found

sent-known : (askers : Askings) (n id m k : ℕ) (sent : List (ℕ × ℕ)) → IsKnown askers m k sent → list_any (λ p. (n == p.0) && (id == p.1)) sent ≡ true → knows (askers (n, id)) m k ≡ true
sent-known askers n id m k [] known was = cc
sent-known askers n id m k (p ∷ sent) known was =
    by_test (n == p.0)
    (λ t. by_test (id == p.1)
    (λ u. subst (λ (q : ℕ × ℕ). knows (askers q) m k ≡ true) (λ i. (sym (eqb-true n p.0 t) i, sym (eqb-true id p.1 u) i)) known.0)
    (λ u. sent-known askers n id m k sent known.1 (rw (t, u) at was)))
    (λ t. sent-known askers n id m k sent known.1 (rw t at was))

-- ---- by faces that change

module _ {K : Type 0} (askers : Askings) where
  pub asked-pushed : (faces : List (Face K)) (f : Face K) → AreAsked askers faces → AreKnown askers f.number f.asks → AreAsked askers (faces ++ f ∷ [])
  asked-pushed [] f known more = (more, tt)
  asked-pushed (g ∷ faces) f known more = (known.0, asked-pushed faces f known.1 more)

  -- one face, whose number stays
  pub asked-changed : (n : ℕ) (change : Face K → Face K) → ((f : Face K) → (change f).number ≡ f.number)
      → ((f : Face K) → (n == f.number) ≡ true → AreKnown askers f.number f.asks → AreKnown askers f.number (change f).asks)
      → (faces : List (Face K)) → AreAsked askers faces → AreAsked askers (map (λ f. if n == f.number then change f else f) faces)
  asked-changed n change same keeps [] known = tt
  asked-changed n change same keeps (f ∷ faces) known =
      (by_test (n == f.number) (λ t. rw (t, same f) (keeps f t known.0)) (λ t. rw t known.0), asked-changed n change same keeps faces known.1)

  -- an ask more, which is known
  pub asks-put : (b : Bool) (n id : ℕ) (ask : Ask K) (asks : ById (Ask K)) → (b ≡ true → IsKnown askers n id ask.pendings) → AreKnown askers n asks → AreKnown askers n (put_if b id ask asks)
  asks-put true n id ask asks here known = all-put (λ row. IsKnown askers n row.0 row.1.pendings) id ask asks (here refl) known
  asks-put false n id ask asks here known = known

  pub asker-found : (n id : ℕ) (faces : List (Face K)) → AreAsked askers faces → IsAskerOf (askers (n, id)) n id faces
  asker-found n id [] known = tt
  asker-found n id (f ∷ faces) known = (of_asks f.asks known.0, asker-found n id faces known.1)
    where
      of_asks : (asks : ById (Ask K)) → AreKnown askers f.number asks → AllByRecursion (λ row. was_sent_as n id row.1 ≡ true → knows (askers (n, id)) f.number row.0 ≡ true) asks
      of_asks [] h = tt
      of_asks (row ∷ asks) h = (sent-known askers n id f.number row.0 row.1.pendings h.0, of_asks asks h.1)
