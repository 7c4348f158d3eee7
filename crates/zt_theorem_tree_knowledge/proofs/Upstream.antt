-- An interest ends upstream only where none that is held asks for the same.
use Rattle.std.proofs.Common.{◌≡◌, ℕ, ◌<◌, Bool, true, false, ◌&&◌, ◌==◌, not, List, [], ◌∷◌, map, filter, Option, Some, None, refl, sym, ap, ◌∙◌, subst, eqb-true}
use Rattle.std.proofs.lemmas.Bool.{and_from, and_parts}
use Rattle.std.specs.Cmp.{IsTotalOrder}
use Rattle.std.specs.List.{list_any}
use Rattle.std.specs.Ordering.{is_eq, nat_cmp, ordering_then}
use Rattle.std.specs.declared.cmp.Ordering.{Ordering}
use Rattle.std.specs.declared.cmp.Ordering.TheVariants.{Less, Equal, Greater}
use Rattle.std.proofs.lemmas.Cmp.{ranked}
use Rattle.zt_region.specs.Region.{is_north}
use Rattle.zt_protocol.specs.Interest.{is_current, is_future}
use Rattle.zt_protocol.specs.declared.messages.Message.{Message}
use Rattle.zt_protocol.specs.declared.messages.Message.TheVariants as message
use Rattle.zt_model.specs.Hearing.{heard, heard_all, messages_for, rows_heard}
use Rattle.zt_model.specs.Lists.{at_id, without_id}
use Rattle.zt_model.specs.Parts.{Say, to_each}
use Rattle.zt_model.specs.Routing.{asks_same, end_upstream_to, expression_order, is_held_south}
use Rattle.zt_model.specs.Rows.{ById, Face, InterestRow, Rows}
use Rattle.zt_model.specs.Transcript.{Each}
use Rattle.zt_laws.specs.Sound.{RiseFrom}
use Rattle.zt_laws.proofs.Hearing.{heard_all-number, heard_all-region, messages_for_each}
use Rattle.zt_laws.proofs.Keys.{is_equal}
use Rattle.zt_laws.proofs.Lists.{any_alike, by_test, each_both, each_filter, each_passes, each_weaker, never, of_cond, rise_filter}
use Rattle.zt_theorem_soundness.proofs.ById.{each_at}
use Rattle.zt_theorem_tree_invariant.specs.Facts.{LocalsAreDrawn}
use Rattle.zt_theorem_tree_invariant.proofs.Saying.{tree_face_heard_all}
use Rattle.zt_theorem_tree_invariant.proofs.Tracking.{messages_unsaid}
use Rattle.zt_theorem_tree_knowledge.proofs.Inside.{GoesOn, KeepsPart, asks_itself, goes_itself, mapped, members}

-- a row that passes stays, where no other with its id goes
any_without : {A : Type 0} (test : ℕ × A → Bool) (id : ℕ) (rows : ById A) → Each (λ row. test row ≡ true → (id == row.0) ≡ false) rows → list_any test rows ≡ true → list_any test (without_id id rows) ≡ true
any_without test id [] apart some = some
any_without test id (row ∷ rows) apart some =
    by_test (id == row.0)
    (λ here.
    let fails : test row ≡ false = by_test (test row) (λ own. never here (apart.0 own)) (λ e. e) in
    let rest : list_any test rows ≡ true = rw fails at some in
    rw here (any_without test id rows apart.1 rest))
    (λ here. rw here (by_test (test row) (λ own. rw own refl) (λ own. let rest : list_any test rows ≡ true = rw own at some in rw own (any_without test id rows apart.1 rest))))

messages_left : {M : Type 0} (p n : ℕ) (ss : List (ℕ × M)) → (n == p) ≡ true → messages_for p (filter (λ s. not (n == s.0)) ss) ≡ []
unfolding messages_for
messages_left p n [] same_ = refl
messages_left p n (s ∷ ss) same_ =
    by_test (n == s.0)
    (λ here. rw here (messages_left p n ss same_))
    (λ here. let miss : (p == s.0) ≡ false = ap (λ k. k == s.0) (sym (eqb-true n p same_)) ∙ here in rw (here, miss) (messages_left p n ss same_))

module _ {K : Type 0} (cmp : K → K → Ordering) (matching : K → K → Bool) where
  abbrev finals : ById (InterestRow K) → List (Message K)
  finals rows = map (λ row. message.InterestFinal row.0) rows

  -- ends of interests: the others stay sent up
  finals_leave : (test : ℕ × InterestRow K → Bool) (now : ℕ) (rs : ById (InterestRow K)) (f : Face K) → Each (λ r. Each (λ row. test row ≡ true → (r.0 == row.0) ≡ false) f.locals) rs → list_any test f.locals ≡ true → list_any test (heard_all cmp now (finals rs) f).locals ≡ true
  unfolding heard_all
  finals_leave test now [] f apart some = some
  finals_leave test now (r ∷ rs) f apart some =
      finals_leave test now rs (heard cmp now (message.InterestFinal r.0) f)
      (each_weaker (λ q. Each (λ row. test row ≡ true → (q.0 == row.0) ≡ false) f.locals) (λ q. Each (λ row. test row ≡ true → (q.0 == row.0) ≡ false) (without_id r.0 f.locals)) (λ q all. each_filter (λ row. test row ≡ true → (q.0 == row.0) ≡ false) (λ row. not (r.0 == row.0)) f.locals all) rs apart.1)
      (any_without test r.0 f.locals apart.0 some)

  finals_rise : (now : ℕ) (rs : ById (InterestRow K)) (f : Face K) → RiseFrom (λ row. row.0) 0 f.locals → RiseFrom (λ row. row.0) 0 (heard_all cmp now (finals rs) f).locals
  unfolding heard_all
  finals_rise now [] f rises = rises
  finals_rise now (r ∷ rs) f rises = finals_rise now rs (heard cmp now (message.InterestFinal r.0) f) (rise_filter (λ row. row.0) 0 (λ row. not (r.0 == row.0)) f.locals rises)

  finals_drawn : (now : ℕ) (rs : ById (InterestRow K)) (f : Face K) → LocalsAreDrawn f → LocalsAreDrawn (heard_all cmp now (finals rs) f)
  unfolding heard_all
  finals_drawn now [] f drawn = drawn
  finals_drawn now (r ∷ rs) f drawn = finals_drawn now rs (heard cmp now (message.InterestFinal r.0) f) (each_filter (λ row. row.0 < f.next) (λ row. not (r.0 == row.0)) f.locals drawn)

  module _ (total : IsTotalOrder cmp) (equal_is_same : (a b : K) → cmp a b ≡ Equal → a ≡ b) where
    -- ---- interests that ask for the same

    expressions_same : (a b : Option K) → expression_order cmp matching a b ≡ Equal → a ≡ b
    expressions_same None None is = refl
    expressions_same None (Some b) is = cc
    expressions_same (Some a) None is = cc
    expressions_same (Some a) (Some b) is = ap Some (equal_is_same a b is)

    order_parts : (a b : Ordering) → is_eq (ordering_then a b) ≡ true → (a ≡ Equal) × (is_eq b ≡ true)
    order_parts Less b h = cc
    order_parts Equal b h = (refl, h)
    order_parts Greater b h = cc

    -- they have the same expression and options, so all others ask for the same as both or as neither
    pub same_to_all : (a b c : InterestRow K) → asks_same cmp matching a b ≡ true → asks_same cmp matching a c ≡ asks_same cmp matching b c
    same_to_all a b c h =
        let parts = order_parts (expression_order cmp matching a.expr b.expr) (nat_cmp a.options.0 b.options.0) h in
        let expr_ : a.expr ≡ b.expr = expressions_same a.expr b.expr parts.0 in
        let options_ : a.options.0 ≡ b.options.0 = ranked a.options.0 b.options.0 Equal (sym (is_equal (nat_cmp a.options.0 b.options.0) parts.1)) in
        ap (λ e. is_eq (ordering_then (expression_order cmp matching e c.expr) (nat_cmp a.options.0 c.options.0))) expr_
        ∙ ap (λ n. is_eq (ordering_then (expression_order cmp matching b.expr c.expr) (nat_cmp n c.options.0))) options_

    pub same_from_all : (a b c : InterestRow K) → asks_same cmp matching a b ≡ true → asks_same cmp matching c a ≡ asks_same cmp matching c b
    same_from_all a b c h =
        let parts = order_parts (expression_order cmp matching a.expr b.expr) (nat_cmp a.options.0 b.options.0) h in
        let expr_ : a.expr ≡ b.expr = expressions_same a.expr b.expr parts.0 in
        let options_ : a.options.0 ≡ b.options.0 = ranked a.options.0 b.options.0 Equal (sym (is_equal (nat_cmp a.options.0 b.options.0) parts.1)) in
        ap (λ e. is_eq (ordering_then (expression_order cmp matching c.expr e) (nat_cmp c.options.0 a.options.0))) expr_
        ∙ ap (λ n. is_eq (ordering_then (expression_order cmp matching c.expr b.expr) (nat_cmp c.options.0 n))) options_

    pub same_back : (a b : InterestRow K) → asks_same cmp matching a b ≡ true → asks_same cmp matching b a ≡ true
    same_back a b h = sym (same_to_all a b a h) ∙ asks_itself cmp matching total equal_is_same a

    held_alike : (g : Rows K) (a b : InterestRow K) → asks_same cmp matching a b ≡ true → is_held_south cmp matching g a ≡ is_held_south cmp matching g b
    unfolding is_held_south
    held_alike g a b h =
        any_alike (λ f. not (is_north f.region) && list_any (λ row. asks_same cmp matching a row.1) f.held) (λ f. not (is_north f.region) && list_any (λ row. asks_same cmp matching b row.1) f.held)
        (λ f. ap (λ t. not (is_north f.region) && t) (any_alike (λ row. asks_same cmp matching a row.1) (λ row. asks_same cmp matching b row.1) (λ row. same_to_all a b row.1 h) f.held)) g.faces

    -- what a face that leads down holds is held
    each_held : (g : Rows K) → Each (λ f. is_north f.region ≡ false → Each (λ row. is_held_south cmp matching g row.1 ≡ true) f.held) g.faces
    unfolding is_held_south
    each_held g =
        each_weaker (λ f. (p : Face K → Bool) → p f ≡ true → list_any p g.faces ≡ true) (λ f. is_north f.region ≡ false → Each (λ row. list_any (λ k. not (is_north k.region) && list_any (λ r. asks_same cmp matching row.1 r.1) k.held) g.faces ≡ true) f.held)
        (λ f among down.
        each_weaker (λ row. (p : ℕ × InterestRow K → Bool) → p row ≡ true → list_any p f.held ≡ true) (λ row. list_any (λ k. not (is_north k.region) && list_any (λ r. asks_same cmp matching row.1 r.1) k.held) g.faces ≡ true)
        (λ row here. among (λ k. not (is_north k.region) && list_any (λ r. asks_same cmp matching row.1 r.1) k.held) (and_from (not (is_north f.region)) (list_any (λ r. asks_same cmp matching row.1 r.1) f.held) (ap not down) (here (λ r. asks_same cmp matching row.1 r.1) (asks_itself cmp matching total equal_is_same row.1))))
        f.held (members f.held))
        g.faces (members g.faces)

    -- ---- the part

    abbrev IsHeld : Rows K → InterestRow K → Type 0
    IsHeld g i = is_held_south cmp matching g i ≡ true

    goes_ended : (g : Rows K) (interest : InterestRow K) (f : Face K) → RiseFrom (λ row. row.0) 0 f.locals → GoesOn cmp matching (IsHeld g) g f (heard_all cmp g.moment (end_upstream_to cmp matching g interest f) f)
    unfolding end_upstream_to heard_all
    goes_ended g interest f rises =
        of_cond (λ ms. GoesOn cmp matching (IsHeld g) g f (heard_all cmp g.moment ms f)) (is_north f.region && not (is_held_south cmp matching g interest)) (finals (filter (λ row. asks_same cmp matching interest row.1) f.locals)) []
        (λ ends. by_finals ends)
        (λ _. nothing)
      where
        nothing : GoesOn cmp matching (IsHeld g) g f (heard_all cmp g.moment [] f)
        nothing = record { number = refl; region = refl; face = λ h. h; rises = λ h. h; drawn = λ h. h; held = λ _ h. h; asks = λ i _ h. h }

        rs : ById (InterestRow K)
        rs = filter (λ row. asks_same cmp matching interest row.1) f.locals

        by_finals : (is_north f.region && not (is_held_south cmp matching g interest)) ≡ true → GoesOn cmp matching (IsHeld g) g f (heard_all cmp g.moment (finals rs) f)
        by_finals ends =
            let parts = and_parts (is_north f.region) (not (is_held_south cmp matching g interest)) ends in
            record {
              number = heard_all-number cmp g.moment (finals rs) f;
              region = heard_all-region cmp g.moment (finals rs) f;
              face = λ face. tree_face_heard_all cmp g.mode g.moment (finals rs) f face;
              rises = λ own. finals_rise g.moment rs f own;
              drawn = λ own. finals_drawn g.moment rs f own;
              held = λ down. never parts.0 down;
              asks = λ i held some.
                  finals_leave (λ row. (is_current row.1.mode && is_future row.1.mode) && asks_same cmp matching i row.1) g.moment rs f
                  (each_both (λ r. asks_same cmp matching interest r.1 ≡ true) (λ r. at_id r.0 f.locals ≡ Some r.1) (λ r. Each (λ row. ((is_current row.1.mode && is_future row.1.mode) && asks_same cmp matching i row.1) ≡ true → (r.0 == row.0) ≡ false) f.locals)
                  (λ r same_ at_.
                  each_weaker (λ row. at_id row.0 f.locals ≡ Some row.1) (λ row. ((is_current row.1.mode && is_future row.1.mode) && asks_same cmp matching i row.1) ≡ true → (r.0 == row.0) ≡ false)
                  (λ row there passes.
                  by_test (r.0 == row.0)
                  (λ here.
                  let both : Some r.1 ≡ Some row.1 = sym at_ ∙ ap (λ n. at_id n f.locals) (eqb-true r.0 row.0 here) ∙ there in
                  let one : r.1 ≡ row.1 = cc in
                  let asks_i : asks_same cmp matching i row.1 ≡ true = (and_parts (is_current row.1.mode && is_future row.1.mode) (asks_same cmp matching i row.1) passes).1 in
                  let asks_own : asks_same cmp matching interest row.1 ≡ true = ap (λ k. asks_same cmp matching interest k) (sym one) ∙ same_ in
                  let alike : asks_same cmp matching i interest ≡ true = same_from_all interest row.1 i asks_own ∙ asks_i in
                  never held (held_alike g i interest alike ∙ not_true (is_held_south cmp matching g interest) parts.1))
                  (λ apart. apart))
                  f.locals (each_at 0 f.locals rises))
                  rs (each_passes (λ row. asks_same cmp matching interest row.1) f.locals) (each_filter (λ r. at_id r.0 f.locals ≡ Some r.1) (λ row. asks_same cmp matching interest row.1) f.locals (each_at 0 f.locals rises)))
                  some;
            }
          where
            not_true : (b : Bool) → not b ≡ true → b ≡ false
            not_true true h = cc
            not_true false h = refl

    pub keeps_end_upstream : (interest : InterestRow K) → KeepsPart cmp matching (Say (λ g. to_each (end_upstream_to cmp matching g interest) g.faces))
    unfolding rows_heard
    keeps_end_upstream interest = λ g inside.
        mapped cmp matching (IsHeld g) g (λ f. heard_all cmp g.moment (messages_for f.number (to_each (end_upstream_to cmp matching g interest) g.faces)) f)
        (each_both (λ f. messages_for f.number (to_each (end_upstream_to cmp matching g interest) g.faces) ≡ end_upstream_to cmp matching g interest f) (λ f. RiseFrom (λ row. row.0) 0 f.locals)
        (λ f. GoesOn cmp matching (IsHeld g) g f (heard_all cmp g.moment (messages_for f.number (to_each (end_upstream_to cmp matching g interest) g.faces)) f))
        (λ f is rises. subst (λ ms. GoesOn cmp matching (IsHeld g) g f (heard_all cmp g.moment ms f)) (sym is) (goes_ended g interest f rises))
        g.faces (messages_for_each 1 (end_upstream_to cmp matching g interest) g.faces inside.rises) inside.locals)
        (each_held g) inside

    -- the same, where one face isn't told
    pub keeps_end_unsaid : (n : ℕ) (interest : InterestRow K) → KeepsPart cmp matching (Say (λ g. filter (λ s. not (n == s.0)) (to_each (end_upstream_to cmp matching g interest) g.faces)))
    unfolding rows_heard heard_all
    keeps_end_unsaid n interest = λ g inside.
        let ss = to_each (end_upstream_to cmp matching g interest) g.faces in
        let ms = filter (λ s. not (n == s.0)) ss in
        mapped cmp matching (IsHeld g) g (λ f. heard_all cmp g.moment (messages_for f.number ms) f)
        (each_both (λ f. messages_for f.number ss ≡ end_upstream_to cmp matching g interest f) (λ f. RiseFrom (λ row. row.0) 0 f.locals) (λ f. GoesOn cmp matching (IsHeld g) g f (heard_all cmp g.moment (messages_for f.number ms) f))
        (λ f is rises.
        by_test (n == f.number)
        (λ here. subst (λ xs. GoesOn cmp matching (IsHeld g) g f (heard_all cmp g.moment xs f)) (sym (messages_left f.number n ss here)) (goes_itself cmp matching (IsHeld g) g f))
        (λ apart. subst (λ xs. GoesOn cmp matching (IsHeld g) g f (heard_all cmp g.moment xs f)) (sym (messages_unsaid cmp matching f.number n ss apart ∙ is)) (goes_ended g interest f rises)))
        g.faces (messages_for_each 1 (end_upstream_to cmp matching g interest) g.faces inside.rises) inside.locals)
        (each_held g) inside
