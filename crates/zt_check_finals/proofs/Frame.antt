-- What stays of the asks and pendings of a gateway after an accepted call, but for what the call makes or may end.
use Rattle.std.proofs.Common.{◌≡◌, ◌⊎◌, inl, inr, ℕ, ◌+◌, Bool, true, false, ◌&&◌, ◌||◌, ◌==◌, not, if◌then◌else◌, List, [], ◌∷◌, ◌++◌, map, filter, Option, None, Some, refl, sym, ap, subst, ◌∙◌, ⊎_elim, eqb-true, eq-eqb}
use Rattle.std.proofs.lemmas.Bool.{and_from, and_parts, false≢true}
use Rattle.std.specs.List.{list_any}
use Rattle.std.specs.Ordering.{nat_cmp}
use Rattle.std.specs.declared.cmp.Ordering.{Ordering}
use Rattle.std.specs.FinMap.Entries.{put}
use Rattle.zt_keys.specs.Test.{by_test}
use Rattle.zt_region.specs.declared.region.Zid.{Zid}
use Rattle.zt_protocol.specs.Interest.{is_current}
use Rattle.zt_protocol.specs.Plain.{PlainCall, NewSession, NewTransport, DeclareToken, UndeclareToken, Interest, InterestFinal, DeclareFinal, CloseFace, Expire, SetTrees, SetEntities}
use Rattle.zt_model.specs.Lists.{first_where, has_id, is_some_and}
use Rattle.zt_model.specs.Parts.{find_face, is_routed, with_face}
use Rattle.zt_model.specs.Routing.{stands}
use Rattle.zt_model.specs.Rows.{Ask, ById, Face, InterestRow, Pending, Rows}
use Rattle.zt_model.specs.Shown.{by_face, counts_as_declared, interest_kept, router_meant, rows_shown, with_declared, with_held, with_initial_final, with_interest, with_question, with_source, with_token, without_declared, without_expired, without_held, without_pending, without_source, without_token}
use Rattle.zt_model.specs.Trees.{with_routed, without_routed}
use Rattle.zt_check_keeping.specs.Changed.{is_sought}
use Rattle.zt_check_keeping.proofs.Members.{Among, append_left, filter_in, in_append, in_filter, in_map, member_any, any_member}
use Rattle.zt_check_keeping.proofs.Touched.{in_put_if}
use Rattle.zt_check_asks.specs.Answering.{is_that}
use Rattle.zt_check_finals.specs.Ending.{Ended, ended_by, is_ended, touched_by}

-- ---- finding a face

-- what is so of the first that passes is so of what it is changed to
first_mapped : {A : Type 0} (q : A → Bool) (c : A → A) (t u : A → Bool) (xs : List A) → ((x : A) → q (c x) ≡ q x) → ((x : A) → q x ≡ true → t x ≡ true → u (c x) ≡ true)
    → is_some_and (first_where q xs) t ≡ true → is_some_and (first_where q (map c xs)) u ≡ true
first_mapped q c t u [] same tests h = cc
first_mapped q c t u (x ∷ xs) same tests h =
    by_test (q x)
    (λ here.
    let there : q (c x) ≡ true = same x ∙ here in
    let own : t x ≡ true = rw here at h in
    rw there (tests x here own))
    (λ here.
    let there : q (c x) ≡ false = same x ∙ here in
    let rest : is_some_and (first_where q xs) t ≡ true = rw here at h in
    rw there (first_mapped q c t u xs same tests rest))

first_more : {A : Type 0} (q t : A → Bool) (xs ys : List A) → is_some_and (first_where q xs) t ≡ true → is_some_and (first_where q (xs ++ ys)) t ≡ true
first_more q t [] ys h = cc
first_more q t (x ∷ xs) ys h =
    by_test (q x)
    (λ here. rw here (rw here at h))
    (λ here. rw here (first_more q t xs ys (rw here at h)))

-- none that passes is left out
first_filtered : {A : Type 0} (q k t : A → Bool) (xs : List A) → ((x : A) → q x ≡ true → k x ≡ true) → is_some_and (first_where q xs) t ≡ true → is_some_and (first_where q (filter k xs)) t ≡ true
first_filtered q k t [] keeps h = cc
first_filtered q k t (x ∷ xs) keeps h =
    by_test (q x)
    (λ here.
    let kept : k x ≡ true = keeps x here in
    let own : t x ≡ true = rw here at h in
    rw (kept, here) own)
    (λ here.
    let rest : is_some_and (first_where q xs) t ≡ true = rw here at h in
    by_test (k x)
    (λ kept. rw (kept, here) (first_filtered q k t xs keeps rest))
    (λ lost. rw lost (first_filtered q k t xs keeps rest)))

-- a row of another id stays
id_filtered : {A : Type 0} (id : ℕ) (k : ℕ × A → Bool) (rows : ById A) → ((row : ℕ × A) → (id == row.0) ≡ true → k row ≡ true) → has_id id rows ≡ true → has_id id (filter k rows) ≡ true
id_filtered id k rows keeps h =
    let found = any_member (λ (row : ℕ × _). id == row.0) rows h in
    member_any (λ (row : ℕ × _). id == row.0) found.0 (filter k rows) (filter_in k found.0 rows found.1.0 (keeps found.0 found.1.1)) found.1.1

-- the row of an ask with its face, at the rows of a gateway
pub record HasAsk {K : Type 0} (g : Rows K) (number : ℕ) (row : ℕ × Ask K) : Type 0 where
  pub face : Face K
  pub there : Among face g.faces
  pub is_number : number ≡ face.number
  pub asked : Among row face.asks

-- Rows after others: each ask stood before, or is the one that is made; each pending that stood stands, or may end.
pub record StaysOn {K : Type 0} (made : ℕ → ℕ → Type 0) (over : ℕ × ℕ → Type 0) (g h : Rows K) : Type 0 where
  pub stands_on : (p : ℕ × ℕ) → stands g p ≡ true → (stands h p ≡ true) ⊎ over p
  pub asks_on : (f : Face K) (row : ℕ × Ask K) → Among f h.faces → Among row f.asks → HasAsk g f.number row ⊎ made f.number row.0

pub on_weaker : {K : Type 0} (made made' : ℕ → ℕ → Type 0) (over over' : ℕ × ℕ → Type 0) → ((n id : ℕ) → made n id → made' n id) → ((p : ℕ × ℕ) → over p → over' p) → (g h : Rows K) → StaysOn made over g h → StaysOn made' over' g h
on_weaker made made' over over' mades overs g h stays = record {
  stands_on = λ p stood. ⊎_elim (λ still. inl still) (λ past. inr (overs p past)) (stays.stands_on p stood);
  asks_on = λ f row at asked. ⊎_elim (λ old. inl old) (λ new. inr (mades f.number row.0 new)) (stays.asks_on f row at asked);
}

module _ {K : Type 0} (made : ℕ → ℕ → Type 0) (over : ℕ × ℕ → Type 0) where
  pub on_same : (g h : Rows K) → h.faces ≡ g.faces → StaysOn made over g h
  on_same g h is = record {
    stands_on = λ p stood. inl (subst (λ (fs : List (Face K)). is_some_and (first_where (λ f. p.0 == f.number) fs) (λ f. has_id p.1 f.pendings) ≡ true) (sym is) stood);
    asks_on = λ f row at asked. inl (record { face = f; there = subst (Among f) is at; is_number = refl; asked = asked });
  }

  pub on_then : (a b c : Rows K) → StaysOn made over a b → StaysOn made over b c → StaysOn made over a c
  on_then a b c one two = record {
    stands_on = λ p stood. ⊎_elim (λ mid. two.stands_on p mid) (λ past. inr past) (one.stands_on p stood);
    asks_on = λ f row at asked. ⊎_elim (λ mid. moved f.number row mid (one.asks_on mid.face row mid.there mid.asked)) (λ new. inr new) (two.asks_on f row at asked);
  }
    where
      moved : (number : ℕ) (row : ℕ × Ask K) → (mid : HasAsk b number row) → HasAsk a mid.face.number row ⊎ made mid.face.number row.0 → HasAsk a number row ⊎ made number row.0
      moved number row mid (inl has) = inl (record { face = has.face; there = has.there; is_number = mid.is_number ∙ has.is_number; asked = has.asked })
      moved number row mid (inr new) = inr (subst (λ n. made n row.0) (sym mid.is_number) new)

  -- faces change one by one
  pub on_mapped : (c : Face K → Face K) (g h : Rows K) → h.faces ≡ map c g.faces → ((f : Face K) → (c f).number ≡ f.number) → ((f : Face K) (row : ℕ × Ask K) → Among row (c f).asks → Among row f.asks ⊎ made f.number row.0)
      → ((p : ℕ × ℕ) → ((f : Face K) → (p.0 == f.number) ≡ true → has_id p.1 f.pendings ≡ true → has_id p.1 (c f).pendings ≡ true) ⊎ over p) → StaysOn made over g h
  on_mapped c g h is number asks pendings = record {
    stands_on = λ p stood.
        ⊎_elim
        (λ kept.
        inl (subst (λ (fs : List (Face K)). is_some_and (first_where (λ f. p.0 == f.number) fs) (λ f. has_id p.1 f.pendings) ≡ true) (sym is)
        (first_mapped (λ (f : Face K). p.0 == f.number) c (λ (f : Face K). has_id p.1 f.pendings) (λ (f : Face K). has_id p.1 f.pendings) g.faces (λ f. ap (λ k. p.0 == k) (number f)) kept stood)))
        (λ past. inr past)
        (pendings p);
    asks_on = λ f row at asked. found f row (in_map c f g.faces (subst (Among f) is at)) asked;
  }
    where
      found : (f : Face K) (row : ℕ × Ask K) → (o : Face K) × (Among o g.faces × (f ≡ c o)) → Among row f.asks → HasAsk g f.number row ⊎ made f.number row.0
      found f row (o, (there, same)) asked =
          let numbered : f.number ≡ o.number = ap (λ (x : Face K). x.number) same ∙ number o in
          ⊎_elim
          (λ old. inl (record { face = o; there = there; is_number = numbered; asked = old }))
          (λ new. inr (subst (λ n. made n row.0) (sym numbered) new))
          (asks o row (subst (λ (x : Face K). Among row x.asks) same asked))

  -- a face is put behind the others, which asks nothing
  pub on_appended : (g h : Rows K) (new : Face K) → h.faces ≡ g.faces ++ new ∷ [] → new.asks ≡ [] → StaysOn made over g h
  on_appended g h new is none = record {
    stands_on = λ p stood.
        inl (subst (λ (fs : List (Face K)). is_some_and (first_where (λ f. p.0 == f.number) fs) (λ f. has_id p.1 f.pendings) ≡ true) (sym is)
        (first_more (λ (f : Face K). p.0 == f.number) (λ (f : Face K). has_id p.1 f.pendings) g.faces (new ∷ []) stood));
    asks_on = λ f row at asked. ⊎_elim (λ old. inl (record { face = f; there = old; is_number = refl; asked = asked })) (λ last. absurd (nobody f row last asked)) (in_append f g.faces (new ∷ []) (subst (Among f) is at));
  }
    where
      nobody : (f : Face K) (row : ℕ × Ask K) → Among f (new ∷ []) → Among row f.asks → ⊥
      nobody f row (inl same) asked = subst (λ (rows : ById (Ask K)). Among row rows) (ap (λ (x : Face K). x.asks) same ∙ none) asked
      nobody f row (inr at) asked = at

  -- faces of one number change
  pub on_face : (n : ℕ) (change : Face K → Face K) (g h : Rows K) → h.faces ≡ map (λ f. if n == f.number then change f else f) g.faces → ((f : Face K) → (change f).number ≡ f.number)
      → ((f : Face K) (row : ℕ × Ask K) → n ≡ f.number → Among row (change f).asks → Among row f.asks ⊎ made f.number row.0)
      → ((p : ℕ × ℕ) → ((f : Face K) → (p.0 == f.number) ≡ true → n ≡ f.number → has_id p.1 f.pendings ≡ true → has_id p.1 (change f).pendings ≡ true) ⊎ over p) → StaysOn made over g h
  on_face n change g h is number asks pendings =
      on_mapped (λ f. if n == f.number then change f else f) g h is
      (λ f. by_test (n == f.number) (λ own. rw own (number f)) (λ other. rw other refl))
      (λ f row at. by_test (n == f.number) (λ own. asks f row (eqb-true n f.number own) (rw own at at)) (λ other. inl (rw other at at)))
      (λ p.
      ⊎_elim
      (λ kept. inl (λ f there stood. by_test (n == f.number) (λ own. rw own (kept f there (eqb-true n f.number own) stood)) (λ other. rw other stood)))
      (λ past. inr past)
      (pendings p))

module _ {K : Type 0} (cmp : K → K → Ordering) (made : ℕ → ℕ → Type 0) (over : ℕ × ℕ → Type 0) where
  abbrev On : Rows K → Rows K → Type 0
  On g h = StaysOn made over g h

  on_itself : (g : Rows K) → On g g
  on_itself g = on_same made over g g refl

  on_if : (b : Bool) (g x y : Rows K) → On g x → On g y → On g (if b then x else y)
  on_if true g x y one two = one
  on_if false g x y one two = two

  -- what changes at a face is neither its asks nor its pendings
  quiet_face : (n : ℕ) (change : Face K → Face K) (g h : Rows K) → h.faces ≡ map (λ f. if n == f.number then change f else f) g.faces → ((f : Face K) → (change f).number ≡ f.number)
      → ((f : Face K) → (change f).asks ≡ f.asks) → ((f : Face K) → (change f).pendings ≡ f.pendings) → On g h
  quiet_face n change g h is number asks pendings =
      on_face made over n change g h is number
      (λ f row own at. inl (subst (Among row) (asks f) at))
      (λ p. inl (λ f there own stood. ap (has_id p.1) (pendings f) ∙ stood))

  sourced : (f : Face K) (source : Option Zid) (e : K) (g : Rows K) → On g (with_source cmp f source e g)
  unfolding with_routed
  sourced f None e g = on_itself g
  sourced f (Some source) e g = on_same made over g (with_routed cmp f.region source e g) refl

  unsourced : (f : Face K) (source : Option Zid) (e : Option K) (g : Rows K) → On g (without_source cmp f source e g)
  unfolding without_routed
  unsourced f None e g = on_itself g
  unsourced f (Some source) None g = on_itself g
  unsourced f (Some source) (Some e) g = on_same made over g (without_routed cmp f.region source e g) refl

  declared_on : (n id : ℕ) (e : K) (node : ℕ) (interest : Option ℕ) (g : Rows K) (f : Face K) → On g (with_declared cmp n id e node interest g f)
  unfolding with_face
  declared_on n id e node interest g f =
      on_if (is_routed g f) g _ _ (sourced f (router_meant g f node) e g)
      (on_if (counts_as_declared f interest) g _ _ (quiet_face n (with_token id e) g (with_face n (with_token id e) g) refl (λ o. refl) (λ o. refl) (λ o. refl)) (on_itself g))

  undeclared_on : (n id : ℕ) (e : Option K) (node : ℕ) (g : Rows K) (f : Face K) → On g (without_declared cmp n id e node g f)
  unfolding with_face
  undeclared_on n id e node g f =
      on_if (is_routed g f) g _ _ (unsourced f (router_meant g f node) e g)
      (quiet_face n (without_token id) g (with_face n (without_token id) g) refl (λ o. refl) (λ o. refl) (λ o. refl))

  interest_on : (n id : ℕ) (pendings : List (ℕ × ℕ)) (interest : InterestRow K) (g : Rows K) → ((f : Face K) → n ≡ f.number → made f.number id) → On g (with_interest cmp n id pendings interest g)
  unfolding with_face
  interest_on n id pendings interest g new =
      on_face made over n (λ f. with_question pendings id interest (with_held id interest f)) g (with_interest cmp n id pendings interest g) refl (λ f. refl)
      (λ f row own at.
      ⊎_elim (λ first. inr (subst (λ k. made f.number k) (sym (ap (λ (r : ℕ × Ask K). r.0) first.1)) (new f own))) (λ old. inl old)
      (in_put_if (is_current interest.mode) id (record { interest = interest; pendings = pendings; answered = [] }) row f.asks at))
      (λ p. inl (λ f there own stood. stood))

  by_face_on : (n : ℕ) (g : Rows K) (change : Face K → Rows K) → ((f : Face K) → On g (change f)) → On g (by_face cmp n g change)
  by_face_on n g change on = go (find_face n g)
    where
      go : (found : Option (Face K)) → On g (elim found [ None ↦ g | Some f ↦ change f ])
      go None = on_itself g
      go (Some f) = on f

  final_on : (n id : ℕ) (g : Rows K) → ((p : ℕ × ℕ) → p.0 ≡ n → p.1 ≡ id → over p) → On g (with_face n (without_pending id) (with_face n (with_initial_final id) g))
  unfolding with_face
  final_on n id g past =
      let h = with_face n (with_initial_final id) g in
      on_then made over g h (with_face n (without_pending id) h)
      (quiet_face n (with_initial_final id) g h refl (λ o. refl) (λ o. refl) (λ o. refl))
      (on_face made over n (without_pending id) h (with_face n (without_pending id) h) refl (λ o. refl) (λ o row own at. inl at)
      (λ p.
      by_test (p.0 == n)
      (λ own. by_test (p.1 == id)
      (λ same. inr (past p (eqb-true p.0 n own) (eqb-true p.1 id same)))
      (λ other. inl (λ f there mine stood. id_filtered p.1 (λ (row : ℕ × Pending). not (id == row.0)) f.pendings (λ row is. apart p.1 row.0 is other) stood)))
      (λ differ. inl (λ f there mine stood. absurd (false≢true (sym differ ∙ eq-eqb p.0 n (eqb-true p.0 f.number there ∙ sym mine)))))))
    where
      apart : (a b : ℕ) → (a == b) ≡ true → (a == id) ≡ false → not (id == b) ≡ true
      apart a b is other =
          by_test (id == b)
          (λ same. absurd (false≢true (sym other ∙ eq-eqb a id (eqb-true a b is ∙ sym (eqb-true id b same)))))
          (λ differ. ap not differ)

  closed_on : (n : ℕ) (g h : Rows K) → h.faces ≡ filter (λ f. not (n == f.number)) g.faces → ((p : ℕ × ℕ) → p.0 ≡ n → over p) → On g h
  closed_on n g h is past = record {
    stands_on = λ p stood.
        by_test (p.0 == n)
        (λ own. inr (past p (eqb-true p.0 n own)))
        (λ other.
        inl (subst (λ (fs : List (Face K)). is_some_and (first_where (λ f. p.0 == f.number) fs) (λ f. has_id p.1 f.pendings) ≡ true) (sym is)
        (first_filtered (λ (f : Face K). p.0 == f.number) (λ (f : Face K). not (n == f.number)) (λ (f : Face K). has_id p.1 f.pendings) g.faces (λ f there. apart p.0 f.number there other) stood)));
    asks_on = λ f row at asked. inl (record { face = f; there = in_filter (λ (x : Face K). not (n == x.number)) f g.faces (subst (Among f) is at); is_number = refl; asked = asked });
  }
    where
      apart : (a b : ℕ) → (a == b) ≡ true → (a == n) ≡ false → not (n == b) ≡ true
      apart a b is other =
          by_test (n == b)
          (λ same. absurd (false≢true (sym other ∙ eq-eqb a n (eqb-true a b is ∙ sym (eqb-true n b same)))))
          (λ differ. ap not differ)

-- what a call makes, and what it may end, at its gateway
abbrev pub MadeBy : {K : Type 0} → ℕ → PlainCall K → ℕ → ℕ → Type 0
MadeBy gateway call n id = is_that (touched_by gateway call) gateway n id ≡ true

abbrev pub is_over : ℕ → ℕ × ℕ → Ended → Bool
is_over n p e = (n == e.0) && is_ended e p

abbrev pub OverBy : {K : Type 0} → ℕ → PlainCall K → ℕ × ℕ → Type 0
OverBy gateway call p = list_any (is_over gateway p) (ended_by gateway call) ≡ true

module _ {K : Type 0} (cmp : K → K → Ordering) (gateway : ℕ) where
  that_one : (n id k : ℕ) → n ≡ k → is_that (Some (gateway, n, id)) gateway k id ≡ true
  that_one n id k is = and_from (gateway == gateway) ((k == n) && (id == id)) (eq-eqb gateway gateway refl) (and_from (k == n) (id == id) (eq-eqb k n (sym is)) (eq-eqb id id refl))

  some_true : (a b c : Bool) → a ≡ true → b ≡ true → c ≡ true → ((a && (b && c)) || false) ≡ true
  some_true true true true one two three = refl
  some_true true true false one two three = absurd (false≢true three)
  some_true true false c one two three = absurd (false≢true two)
  some_true false b c one two three = absurd (false≢true one)

  own : (gateway == gateway) ≡ true
  own = eq-eqb gateway gateway refl

  pub called_on : (pendings : List (ℕ × ℕ)) (call : PlainCall K) (g : Rows K) → StaysOn (MadeBy gateway call) (OverBy gateway call) g (rows_shown cmp pendings call g)
  unfolding rows_shown with_face
  called_on pendings (NewSession first) g = on_appended (MadeBy {K = K} gateway (NewSession first)) (OverBy {K = K} gateway (NewSession first)) g _ _ refl refl
  called_on pendings (NewTransport zid mode region bound first) g = on_appended (MadeBy {K = K} gateway (NewTransport zid mode region bound first)) (OverBy {K = K} gateway (NewTransport zid mode region bound first)) g _ _ refl refl
  called_on pendings (DeclareToken n id e node interest) g =
      by_face_on cmp (MadeBy {K = K} gateway (DeclareToken n id e node interest)) (OverBy {K = K} gateway (DeclareToken n id e node interest)) n g (with_declared cmp n id e node interest g) (λ f. declared_on cmp _ _ n id e node interest g f)
  called_on pendings (UndeclareToken n id e node) g =
      by_face_on cmp (MadeBy {K = K} gateway (UndeclareToken n id e node)) (OverBy {K = K} gateway (UndeclareToken n id e node)) n g (without_declared cmp n id e node g) (λ f. undeclared_on cmp _ _ n id e node g f)
  called_on pendings (Interest n id mode options e) g =
      by_face_on cmp (MadeBy {K = K} gateway (Interest n id mode options e)) (OverBy {K = K} gateway (Interest n id mode options e)) n g (λ f. with_interest cmp n id pendings (interest_kept f mode options e) g)
      (λ f. interest_on cmp _ _ n id pendings (interest_kept f mode options e) g (λ o own. that_one n id o.number own))
  called_on pendings (InterestFinal n id) g =
      quiet_face cmp (MadeBy {K = K} gateway (InterestFinal n id)) (OverBy {K = K} gateway (InterestFinal n id)) n (without_held id) g (with_face n (without_held id) g) refl (λ o. refl) (λ o. refl) (λ o. refl)
  called_on pendings (DeclareFinal n id) g =
      final_on cmp (MadeBy {K = K} gateway (DeclareFinal n id)) (OverBy {K = K} gateway (DeclareFinal n id)) n id g
      (λ p face same. some_true (gateway == gateway) (n == p.0) (id == p.1) own (eq-eqb n p.0 (sym face)) (eq-eqb id p.1 (sym same)))
  called_on pendings (CloseFace n) g =
      closed_on cmp (MadeBy {K = K} gateway (CloseFace n)) (OverBy {K = K} gateway (CloseFace n)) n g _ refl (λ p face. some_true (gateway == gateway) (n == p.0) true own (eq-eqb n p.0 (sym face)) refl)
  called_on pendings (Expire now) g =
      on_mapped (MadeBy {K = K} gateway (Expire now)) (OverBy {K = K} gateway (Expire now)) (without_expired now g.timeout) g _ refl (λ o. refl) (λ o row at. inl at) (λ p. inr (some_true (gateway == gateway) true true own refl refl))
  called_on pendings (SetTrees region table) g = on_same (MadeBy {K = K} gateway (SetTrees region table)) (OverBy {K = K} gateway (SetTrees region table)) g _ refl
  called_on pendings (SetEntities n subscribers queryables) g =
      quiet_face cmp (MadeBy {K = K} gateway (SetEntities n subscribers queryables)) (OverBy {K = K} gateway (SetEntities n subscribers queryables)) n (λ f. record f { subscribers = subscribers; queryables = queryables }) g _ refl (λ o. refl) (λ o. refl) (λ o. refl)
