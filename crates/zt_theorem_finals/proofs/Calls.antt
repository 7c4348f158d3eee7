-- Each ask of a gateway gets its final in the call that ends it: the calls that ask for nothing and open nothing.
use Rattle.std.proofs.Common.{◌≡◌, ℕ, ◌+◌, Bool, true, false, not, if◌then◌else◌, ◌&&◌, ◌||◌, ◌==◌, List, [], ◌∷◌, filter, Option, Some, None, refl, sym, ap, subst, arith}
use Rattle.std.specs.List.{flat_map, list_any}
use Rattle.std.specs.declared.cmp.Ordering.{Ordering}
use Rattle.zt_protocol.specs.Interest.{is_future}
use Rattle.zt_protocol.specs.Plain.{DeclareFinal, CloseFace, Expire}
use Rattle.zt_model.specs.Closing.{closing, expiring, is_expired, leaving, without_face}
use Rattle.zt_model.specs.Hearing.{messages_for}
use Rattle.zt_model.specs.Lists.{at_id, has_id}
use Rattle.zt_model.specs.Parts.{unsaid_to}
use Rattle.zt_model.specs.Promises.{finals_in}
use Rattle.zt_model.specs.Routing.{ending, finishing, initial_finalised, stands}
use Rattle.zt_model.specs.Rows.{Ask, ById, Face, Rows}
use Rattle.zt_model.specs.Says.{Alter, Part, altered_by, find_face, is_routed, parts_of, said_by, with_face}
use Rattle.zt_model.specs.Transcript.{Each}
use Rattle.zt_laws.specs.Order.{HasRowsInOrder, RowsAreInOrder}
use Rattle.zt_laws.proofs.Lists.{by_test, each_append, each_both, each_filter, each_passes, each_weaker, never, of_cond}
use Rattle.zt_laws.proofs.PartsOrder.{altered_by_last, each_flat_map}
use Rattle.zt_laws.proofs.ToldFrom.{found_by_number}
use Rattle.zt_laws.proofs.Visible.{at_only}
use Rattle.zt_theorem_soundness.specs.Ran.{ran}
use Rattle.zt_theorem_soundness.proofs.ById.{at_has, each_at}
use Rattle.zt_theorem_soundness.proofs.Parts.{nobody, only}
use Rattle.zt_theorem_soundness.proofs.Tokens.{spares_nothing}
use Rattle.zt_theorem_finals.specs.Open.{AsksStand}
use Rattle.zt_theorem_finals.proofs.Asks.{IsAsk, IsLike}
use Rattle.zt_theorem_finals.proofs.Closing.{closing_ends}
use Rattle.zt_theorem_finals.proofs.Ending.{Ends, Outcome, both_same, ends_all, ends_append, ends_ending, ends_nothing, ends_still, leaves_face}
use Rattle.zt_theorem_finals.proofs.Still.{AsksAre, PartKeeps, StillPart, asks_altered, ending_keeps, initial_still, keep_if_still, leaving_keeps, unsaid_keeps}

-- no interest of a face and id ends, or this one
abbrev pub nothing_ended : ℕ → ℕ → Bool
nothing_ended k i = false

abbrev pub is_this : ℕ → ℕ → ℕ → ℕ → Bool
is_this n id k i = (k == n) && (i == id)

module _ {K : Type 0} (cmp : K → K → Ordering) (matching : K → K → Bool) where
  -- An ask gets one final where none of its pendings stands after the parts, or where its interest ends and it asked for both.
  abbrev pub GetsFinal : (ℕ → ℕ → Bool) → List (Part K) → Rows K → ℕ → ℕ × Ask K → Type 0
  GetsFinal ended parts g k row =
      finals_in row.0 (messages_for k (said_by cmp matching parts g)) ≡ (if not (list_any (stands (ran cmp parts g)) row.1.pendings) || (is_future row.1.interest.mode && ended k row.0) then 1 else 0)

  abbrev pub FinishesBy : (ℕ → ℕ → Bool) → List (Part K) → Rows K → Type 0
  FinishesBy ended parts g = Each (λ f. Each (GetsFinal ended parts g f.number) f.asks) (altered_by cmp matching parts g).faces

  -- each ask, as it stands
  pub each_ask : (g : Rows K) → RowsAreInOrder cmp matching g → AsksStand g → Each (λ f. Each (λ row. IsAsk cmp f.number row.0 row.1 true g) f.asks) g.faces
  each_ask g ordered stand =
      each_both (λ f. find_face f.number g ≡ Some f) (λ f. HasRowsInOrder f × Each (λ row. list_any (stands g) row.1.pendings ≡ true) f.asks) (λ f. Each (λ row. IsAsk cmp f.number row.0 row.1 true g) f.asks)
      (λ f found both.
      each_both (λ row. at_id row.0 f.asks ≡ Some row.1) (λ row. list_any (stands g) row.1.pendings ≡ true) (λ row. IsAsk cmp f.number row.0 row.1 true g)
      (λ row at_ standing. record {
        at = record {
          face = f;
          rises = ordered.lists.faces_rise;
          found = found;
          asks_rise = both.0.asks;
          own = each_weaker (λ r. (row.0 == r.0) ≡ true → r.1 ≡ row.1) (λ r. (row.0 == r.0) ≡ true → IsLike cmp row.1 r.1) (λ r is hit. (ap (λ (a : Ask K). a.pendings) (is hit), ap (λ (a : Ask K). a.interest) (is hit))) f.asks (at_only row.0 0 f.asks row.1 both.0.asks at_);
          has = at_has row.0 f.asks row.1 at_;
        };
        stand = standing;
      }) f.asks (each_at 0 f.asks both.0.asks) both.1)
      g.faces (found_by_number 1 g.faces ordered.lists.faces_rise)
      (each_both HasRowsInOrder (λ f. Each (λ row. list_any (stands g) row.1.pendings ≡ true) f.asks) (λ f. HasRowsInOrder f × Each (λ row. list_any (stands g) row.1.pendings ≡ true) f.asks) (λ f a b. (a, b)) g.faces ordered.lists.rows stand.asks)

  pub gets_final : (ended : ℕ → ℕ → Bool) (parts : List (Part K)) (g : Rows K) (k : ℕ) (row : ℕ × Ask K) → ended k row.0 ≡ false → Outcome cmp matching k row.0 row.1 true (ran cmp parts g) (messages_for k (said_by cmp matching parts g)) → GetsFinal ended parts g k row
  gets_final ended parts g k row goes_on one = cases one.there (finals_in row.0 (messages_for k (said_by cmp matching parts g))) (list_any (stands (ran cmp parts g)) row.1.pendings) (is_future row.1.interest.mode) (ended k row.0) one.is.stand goes_on one.counts
    where
      cases : (there : Bool) (n : ℕ) (st fut end : Bool) → st ≡ there → end ≡ false → n + (if there then 1 else 0) ≡ 1 → n ≡ (if not st || (fut && end) then 1 else 0)
      cases true n st true end is none_ counts = rw (is, none_) (omega (arith, counts))
      cases true n st false end is none_ counts = rw is (omega (arith, counts))
      cases false n st fut end is none_ counts = rw is (omega (arith, counts))

  -- where each ask goes on or gets its final, and asks are left otherwise
  by_outcome : (but : ℕ → Bool) (parts : List (Part K)) (g : Rows K) → RowsAreInOrder cmp matching g → AsksStand g
      → ((k i : ℕ) (ask : Ask K) → but k ≡ false → IsAsk cmp k i ask true g → Outcome cmp matching k i ask true (ran cmp parts g) (messages_for k (said_by cmp matching parts g)))
      → AsksAre cmp matching but (λ k asks. Each (GetsFinal nothing_ended parts g k) asks) g
  by_outcome but parts g ordered stand one =
      each_weaker (λ f. Each (λ row. IsAsk cmp f.number row.0 row.1 true g) f.asks) (λ f. but f.number ≡ false → Each (GetsFinal nothing_ended parts g f.number) f.asks)
      (λ f all apart. each_weaker (λ row. IsAsk cmp f.number row.0 row.1 true g) (GetsFinal nothing_ended parts g f.number) (λ row is. gets_final nothing_ended parts g f.number row refl (one f.number row.0 row.1 apart is)) f.asks all)
      g.faces (each_ask g ordered stand)

  pub everywhere : (P : ℕ → ById (Ask K) → Type 0) (g : Rows K) → AsksAre cmp matching nobody P g → Each (λ f. P f.number f.asks) g.faces
  everywhere P g all = each_weaker (λ f. nobody f.number ≡ false → P f.number f.asks) (λ f. P f.number f.asks) (λ f own. own refl) g.faces all

  pub ends_finish : (parts : List (Part K)) (g : Rows K) → RowsAreInOrder cmp matching g → AsksStand g → Each (PartKeeps cmp matching nobody) parts → ((k i : ℕ) (ask : Ask K) → Ends cmp matching k i ask parts) → FinishesBy nothing_ended parts g
  ends_finish parts g ordered stand keep ends =
      everywhere (λ k asks. Each (GetsFinal nothing_ended parts g k) asks) (altered_by cmp matching parts g)
      (asks_altered cmp matching nobody (λ k asks. Each (GetsFinal nothing_ended parts g k) asks) parts g keep (by_outcome nobody parts g ordered stand (λ k i ask _ is. ends k i ask true g is)))

  pub still_finish : (parts : List (Part K)) (g : Rows K) → RowsAreInOrder cmp matching g → AsksStand g → Each (StillPart cmp matching nobody) parts → FinishesBy nothing_ended parts g
  still_finish parts g ordered stand still = ends_finish parts g ordered stand (keep_if_still cmp matching nobody parts still) (λ k i ask. ends_still cmp matching k i ask nobody refl parts still)

  pub at_face : (ended : ℕ → ℕ → Bool) (n : ℕ) (g : Rows K) (parts : Face K → List (Part K)) → FinishesBy ended [] g → ((f : Face K) → find_face n g ≡ Some f → FinishesBy ended (parts f) g) → FinishesBy ended (elim (find_face n g) [ None ↦ [] | Some f ↦ parts f ]) g
  at_face ended n g parts nothing one = cases (find_face n g) refl
    where
      cases : (o : Option (Face K)) → find_face n g ≡ o → FinishesBy ended (elim o [ None ↦ [] | Some f ↦ parts f ]) g
      cases None found = nothing
      cases (Some f) found = one f found

  -- ---- ends of pendings

  ends_one : (k i : ℕ) (ask : Ask K) (n id : ℕ) → Ends cmp matching k i ask (ending n id)
  ends_one k i ask n id = ends_ending cmp matching k i ask nobody (λ ss. ss) spares_nothing refl n id

  pub finishing_keeps : (n id : ℕ) (f : Face K) → Each (PartKeeps cmp matching nobody) (finishing n id f)
  finishing_keeps n id f =
      each_append (PartKeeps cmp matching nobody) (Alter (with_face n (initial_finalised id)) ∷ []) (if has_id id f.pendings then ending n id else [])
      ((λ h. leaves_face cmp matching nobody n (initial_finalised id) h (record { number = λ k. refl; region = λ k. refl; asks = λ k apart. refl; none = λ k none_. none_ })), tt)
      (of_cond (Each (PartKeeps cmp matching nobody)) (has_id id f.pendings) (ending n id) [] (λ _. ending_keeps cmp matching nobody n id) (λ _. tt))

  pub expiring_keeps : (now : ℕ) (g : Rows K) → Each (PartKeeps cmp matching nobody) (expiring now g)
  expiring_keeps now g =
      let over = λ (f : Face K). flat_map (λ row. ending f.number row.0) (filter (is_expired now g.timeout) f.pendings) in (
        (λ h. (both_same cmp matching nobody h (record h { moment = now }) refl refl).leaves),
        each_flat_map (PartKeeps cmp matching nobody) over g.faces (λ f. each_flat_map (PartKeeps cmp matching nobody) (λ row. ending f.number row.0) (filter (is_expired now g.timeout) f.pendings) (λ row. ending_keeps cmp matching nobody f.number row.0)),
      )

  pub final_finishes : (n id : ℕ) (g : Rows K) → RowsAreInOrder cmp matching g → AsksStand g → FinishesBy nothing_ended (parts_of cmp matching (DeclareFinal n id) g) g
  unfolding parts_of
  final_finishes n id g ordered stand =
      at_face nothing_ended n g (finishing n id) (still_finish [] g ordered stand tt)
      (λ f found.
      ends_finish (finishing n id f) g ordered stand (finishing_keeps n id f)
      (λ k i ask.
      ends_append cmp matching k i ask (Alter (with_face n (initial_finalised id)) ∷ []) (rest f) (ends_still cmp matching k i ask nobody refl (Alter (with_face n (initial_finalised id)) ∷ []) (first, tt))
      (of_cond (Ends cmp matching k i ask) (has_id id f.pendings) (ending n id) [] (λ _. ends_one k i ask n id) (λ _. ends_nothing cmp matching k i ask))))
    where
      rest : Face K → List (Part K)
      rest f = if has_id id f.pendings then ending n id else []

      first : StillPart cmp matching nobody (Alter (with_face n (initial_finalised id)))
      first = initial_still cmp matching nobody n id

  pub expiry_finishes : (now : ℕ) (g : Rows K) → RowsAreInOrder cmp matching g → AsksStand g → FinishesBy nothing_ended (parts_of cmp matching (Expire now) g) g
  unfolding parts_of
  expiry_finishes now g ordered stand =
      let over = λ (f : Face K). flat_map (λ row. ending f.number row.0) (filter (is_expired now g.timeout) f.pendings) in
      ends_finish (parts_of cmp matching (Expire now) g) g ordered stand (expiring_keeps now g)
      (λ k i ask.
      ends_append cmp matching k i ask (Alter (λ h. record h { moment = now }) ∷ []) (flat_map over g.faces)
      (ends_still cmp matching k i ask nobody refl (Alter (λ h. record h { moment = now }) ∷ []) ((λ h. both_same cmp matching nobody h (record h { moment = now }) refl refl), tt))
      (ends_all cmp matching k i ask over g.faces (λ f. ends_all cmp matching k i ask (λ row. ending f.number row.0) (filter (is_expired now g.timeout) f.pendings) (λ row. ends_one k i ask f.number row.0))))

  -- ---- closing

  -- the asks of other faces stay what they are
  pub closing_asks : (P : ℕ → ById (Ask K) → Type 0) (n : ℕ) (from : Face K) (g : Rows K) → AsksAre cmp matching (only n) P g → (let a = altered_by cmp matching (closing cmp matching n g from) g in Each (λ f. P f.number f.asks) a.faces)
  closing_asks P n from g before =
      let parts : List (Part K) = if is_routed g from then [] else unsaid_to n (leaving cmp matching n from) in
      let a = altered_by cmp matching parts g in
      let keep = of_cond (Each (PartKeeps cmp matching (only n))) (is_routed g from) [] (unsaid_to n (leaving cmp matching n from)) (λ _. tt) (λ _. unsaid_keeps cmp matching (only n) n (leaving cmp matching n from) (leaving_keeps cmp matching n from)) in
      let all = asks_altered cmp matching (only n) P parts g keep before in
      subst (λ (x : Rows K). Each (λ f. P f.number f.asks) x.faces) (sym (altered_by_last cmp matching parts (without_face n) g))
      (each_both (λ f. not (n == f.number) ≡ true) (λ f. only n f.number ≡ false → P f.number f.asks) (λ f. P f.number f.asks)
      (λ f kept own. own (by_test (n == f.number) (λ here. let drops : not (n == f.number) ≡ false = rw here refl in never kept drops) (λ here. here)))
      (filter (λ f. not (n == f.number)) a.faces) (each_passes (λ f. not (n == f.number)) a.faces) (each_filter (λ f. only n f.number ≡ false → P f.number f.asks) (λ f. not (n == f.number)) a.faces all))

  -- and the face is gone
  pub closing_away : (n : ℕ) (from : Face K) (g : Rows K) → (let a = altered_by cmp matching (closing cmp matching n g from) g in Each (λ f. (n == f.number) ≡ false) a.faces)
  closing_away n from g =
      let parts : List (Part K) = if is_routed g from then [] else unsaid_to n (leaving cmp matching n from) in
      let a = altered_by cmp matching parts g in
      subst (λ (x : Rows K). Each (λ f. (n == f.number) ≡ false) x.faces) (sym (altered_by_last cmp matching parts (without_face n) g))
      (each_weaker (λ f. not (n == f.number) ≡ true) (λ f. (n == f.number) ≡ false)
      (λ f kept. by_test (n == f.number) (λ here. let drops : not (n == f.number) ≡ false = rw here refl in never kept drops) (λ here. here))
      (filter (λ f. not (n == f.number)) a.faces) (each_passes (λ f. not (n == f.number)) a.faces))

  pub closing_finishes : (n : ℕ) (g : Rows K) → RowsAreInOrder cmp matching g → AsksStand g → FinishesBy nothing_ended (parts_of cmp matching (CloseFace n) g) g
  unfolding parts_of
  closing_finishes n g ordered stand =
      at_face nothing_ended n g (closing cmp matching n g) (still_finish [] g ordered stand tt)
      (λ from found.
      closing_asks (λ k asks. Each (GetsFinal nothing_ended (closing cmp matching n g from) g k) asks) n from g
      (by_outcome (only n) (closing cmp matching n g from) g ordered stand (λ k i ask apart is. closing_ends cmp matching k i ask n from true g apart found stand.routed is)))
