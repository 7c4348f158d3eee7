-- An interest is sent up before it is held.
use Rattle.std.proofs.Common.{◌≡◌, ℕ, ◌+◌, ◌≤◌, ◌<◌, max, Bool, true, false, ◌&&◌, ◌==◌, not, List, [], ◌∷◌, length, refl, sym, ap, ◌∙◌, subst, arith}
use Rattle.std.proofs.lemmas.Bool.{and_from, and_parts, or_left, or_right}
use Rattle.std.proofs.lemmas.Cmp.{ranked}
use Rattle.std.specs.Cmp.{IsTotalOrder}
use Rattle.std.specs.FinMap.Entries.{by_order, put}
use Rattle.std.specs.List.{list_any}
use Rattle.std.specs.Ordering.{nat_cmp}
use Rattle.std.specs.declared.cmp.Ordering.{Ordering}
use Rattle.std.specs.declared.cmp.Ordering.TheVariants.{Less, Equal, Greater}
use Rattle.zt_region.specs.declared.region.Region.{Region}
use Rattle.zt_region.specs.declared.region.WhatAmI.TheVariants.{Client}
use Rattle.zt_region.specs.Region.{is_north}
use Rattle.zt_protocol.specs.Interest.{has_tokens, is_current, is_future}
use Rattle.zt_protocol.specs.declared.messages.Message.{Message}
use Rattle.zt_protocol.specs.declared.messages.Message.TheVariants as message
use Rattle.zt_model.specs.Entities.{entities_for, numbered_by, with_numbers}
use Rattle.zt_model.specs.Hearing.{heard, heard_all, messages_for, put_if, rows_heard}
use Rattle.zt_model.specs.Parts.{to_each, to_face, with_face}
use Rattle.zt_model.specs.Refusals.{GREATEST_DICTIONARY}
use Rattle.zt_model.specs.Routing.{asked_as, asks_same, final_of, is_asked, is_target, route_to, sent_as}
use Rattle.zt_model.specs.Rows.{ById, Face, InterestRow, Rows}
use Rattle.zt_model.specs.Says.{answers_of, asking}
use Rattle.zt_model.specs.Transcript.{Each}
use Rattle.zt_model.specs.Wants.{kept_options}
use Rattle.zt_model.proofs.Hats.{asked_in, asked_is}
use Rattle.zt_laws.proofs.Hearing.{each_ruled_one, heard_all-number, heard_all-region, messages_for_each}
use Rattle.zt_laws.proofs.Lists.{by_test, each_always, each_both, each_map, each_weaker, never, of_cond}
use Rattle.zt_laws.proofs.PartsOrder.{each_message_for, rise_put_if}
use Rattle.zt_theorem_soundness.specs.Ran.{ran}
use Rattle.zt_theorem_soundness.proofs.Going.{each_put_if}
use Rattle.zt_theorem_tree_invariant.specs.Facts.{AsksAbove, IsTreeFace, LocalsAreDrawn}
use Rattle.zt_theorem_tree_invariant.proofs.Saying.{tree_face_heard_all}
use Rattle.zt_theorem_tree_knowledge.proofs.Hearing.{LeavesLocals, goes_heard, leaving_answers, leaving_entities, leaving_final, one_leaving}
use Rattle.zt_theorem_tree_knowledge.proofs.Inside.{Any, GoesOn, Held, Inside, asks_itself, asks_mapped, asks_row, face_changed, goes_itself, mapped_any}
use Rattle.zt_theorem_tree_knowledge.proofs.Parts.{numbered}

-- ---- a row under a new id

any_put_new : {A : Type 0} (test : ℕ × A → Bool) (id : ℕ) (v : A) (rows : ById A) → Each (λ row. row.0 < id) rows → list_any test rows ≡ true → list_any test (put nat_cmp id v rows) ≡ true
any_put_new test id v [] below some = never some refl
any_put_new test id v (row ∷ rows) below some =
    let less : row.0 < id = below.0 in
    elim (nat_cmp id row.0) as (λ o. nat_cmp id row.0 ≡ o → list_any test (by_order o ((id, v) ∷ row ∷ rows) ((row.0, v) ∷ rows) (row ∷ put nat_cmp id v rows)) ≡ true) [
      | Less ↦ λ is. let more : id < row.0 = ranked id row.0 Less (sym is) in absurd (omega arith)
      | Equal ↦ λ is. let one : id ≡ row.0 = ranked id row.0 Equal (sym is) in absurd (omega arith)
      | Greater ↦ λ is.
          by_test (test row) (λ here. or_left (test row) (list_any test (put nat_cmp id v rows)) here)
          (λ here. or_right (test row) (list_any test (put nat_cmp id v rows)) (any_put_new test id v rows below.1 (let rest : list_any test rows ≡ true = rw here at some in rest)))
    ] refl

any_put_if_new : {A : Type 0} (test : ℕ × A → Bool) (b : Bool) (id : ℕ) (v : A) (rows : ById A) → Each (λ row. row.0 < id) rows → list_any test rows ≡ true → list_any test (put_if b id v rows) ≡ true
any_put_if_new test true id v rows below some = any_put_new test id v rows below some
any_put_if_new test false id v rows below some = some

pub any_put_own : {A : Type 0} (test : ℕ × A → Bool) (id : ℕ) (v : A) (rows : ById A) → test (id, v) ≡ true → list_any test (put nat_cmp id v rows) ≡ true
any_put_own test id v [] own = or_left (test (id, v)) false own
any_put_own test id v (row ∷ rows) own =
    elim (nat_cmp id row.0) as (λ o. nat_cmp id row.0 ≡ o → list_any test (by_order o ((id, v) ∷ row ∷ rows) ((row.0, v) ∷ rows) (row ∷ put nat_cmp id v rows)) ≡ true) [
      | Less ↦ λ is. or_left (test (id, v)) (list_any test (row ∷ rows)) own
      | Equal ↦ λ is. or_left (test (row.0, v)) (list_any test rows) (ap (λ k. test (k, v)) (sym (ranked id row.0 Equal (sym is))) ∙ own)
      | Greater ↦ λ is. or_right (test row) (list_any test (put nat_cmp id v rows)) (any_put_own test id v rows own)
    ] refl

module _ {K : Type 0} (cmp : K → K → Ordering) (matching : K → K → Bool) where
  -- ---- an interest is sent up

  -- the face after it was sent an interest under its next id
  abbrev pub sent_up : ℕ → InterestRow K → Face K → Face K
  sent_up now i f = heard cmp now (message.Interest f.next i.mode i.options i.expr) f

  pub goes_sent : (g : Rows K) (now : ℕ) (i : InterestRow K) (f : Face K) → LocalsAreDrawn f → GoesOn cmp matching (Any cmp matching) g f (sent_up now i f)
  unfolding heard_all
  goes_sent g now i f drawn = record {
    number = refl;
    region = refl;
    face = λ face. tree_face_heard_all cmp g.mode now (message.Interest f.next i.mode i.options i.expr ∷ []) f face;
    rises = λ rises. rise_put_if (is_future i.mode) f.next i f.locals rises;
    drawn = λ own. each_put_if (λ row. row.0 < max f.next (f.next + 1)) (is_future i.mode) f.next i f.locals (λ _. omega arith) (each_weaker (λ row. row.0 < f.next) (λ row. row.0 < max f.next (f.next + 1)) (λ row less. omega arith) f.locals own);
    held = λ _ all. all;
    asks = λ j _ some. any_put_if_new (λ row. (is_current row.1.mode && is_future row.1.mode) && asks_same cmp matching j row.1) (is_future i.mode) f.next i f.locals drawn some;
  }

  goes_routed : (g : Rows K) (asker : Region) (i : InterestRow K) (f : Face K) → LocalsAreDrawn f → GoesOn cmp matching (Any cmp matching) g f (heard_all cmp g.moment (route_to g asker i f) f)
  unfolding route_to heard_all
  goes_routed g asker i f drawn =
      of_cond (λ ms. GoesOn cmp matching (Any cmp matching) g f (heard_all cmp g.moment ms f)) (is_target g asker i.mode f) (message.Interest f.next i.mode i.options i.expr ∷ []) []
      (λ _. goes_sent g g.moment i f drawn) (λ _. goes_itself cmp matching (Any cmp matching) g f)

  module _ (total : IsTotalOrder cmp) (equal_is_same : (a b : K) → cmp a b ≡ Equal → a ≡ b) where
    pub sent_asks : (now : ℕ) (j i : InterestRow K) (f : Face K) → asks_same cmp matching j i ≡ true → is_current i.mode ≡ true → is_future i.mode ≡ true → asks_row cmp matching j (sent_up now i f) ≡ true
    sent_asks now j i f same_ current future =
        rw future (any_put_own (λ row. (is_current row.1.mode && is_future row.1.mode) && asks_same cmp matching j row.1) f.next i f.locals
        (and_from (is_current i.mode && is_future i.mode) (asks_same cmp matching j i) (and_from (is_current i.mode) (is_future i.mode) current future) same_))

    routed_asks : (g : Rows K) (asker : Region) (i : InterestRow K) (f : Face K) → IsTreeFace g.mode f → is_north asker ≡ false → is_current i.mode ≡ true → is_future i.mode ≡ true → is_north f.region ≡ true → asks_row cmp matching i (heard_all cmp g.moment (route_to g asker i f) f) ≡ true
    unfolding route_to is_target heard_all
    routed_asks g asker i f face south current future up =
        let own : g.mode ≡ Client = (face.up up).own in
        let target : is_asked g i.mode f ≡ true = asked_is g i.mode f ∙ ap (λ m. asked_in m g i.mode f) own ∙ up in
        of_cond (λ ms. asks_row cmp matching i (heard_all cmp g.moment ms f) ≡ true) (is_target g asker i.mode f) (message.Interest f.next i.mode i.options i.expr ∷ []) []
        (λ _. sent_asks g.moment i i f (asks_itself cmp matching total equal_is_same i) current future)
        (λ misses. never (and_from (not (is_north asker)) (is_asked g i.mode f) (ap not south) target) misses)

    abbrev IsAsked : Rows K → InterestRow K → Type 0
    IsAsked g i = is_current i.mode ≡ true → is_future i.mode ≡ true → AsksAbove cmp matching g i

    after_route : (g : Rows K) (asker : Region) (i : InterestRow K) → is_north asker ≡ false → Inside cmp matching g → (let h = rows_heard cmp (to_each (route_to g asker i) g.faces) g in Inside cmp matching h × IsAsked h i)
    unfolding rows_heard
    after_route g asker i south inside =
        let ss = to_each (route_to g asker i) g.faces in
        let hears = λ (f : Face K). heard_all cmp g.moment (messages_for f.number ss) f in
        let sent = messages_for_each 1 (route_to g asker i) g.faces inside.rises in (
          mapped_any cmp matching g hears
              (each_both (λ f. messages_for f.number ss ≡ route_to g asker i f) LocalsAreDrawn (λ f. GoesOn cmp matching (Any cmp matching) g f (hears f))
              (λ f is drawn. subst (λ ms. GoesOn cmp matching (Any cmp matching) g f (heard_all cmp g.moment ms f)) (sym is) (goes_routed g asker i f drawn)) g.faces sent inside.tree.drawn)
              inside,
          λ current future.
              each_map (λ (f : Face K). is_north f.region ≡ true → asks_row cmp matching i f ≡ true) hears g.faces
              (each_both (λ f. messages_for f.number ss ≡ route_to g asker i f) (IsTreeFace g.mode) (λ f. is_north (hears f).region ≡ true → asks_row cmp matching i (hears f) ≡ true)
              (λ f is face up.
              subst (λ ms. asks_row cmp matching i (heard_all cmp g.moment ms f) ≡ true) (sym is)
              (routed_asks g asker i f face south current future (ap is_north (sym (heard_all-region cmp g.moment (messages_for f.number ss) f)) ∙ up)))
              g.faces sent inside.tree.faces),
        )

    -- messages that leave interests leave it asked
    asked_heard : (rule : Rows K → List (ℕ × Message K)) (g : Rows K) (i : InterestRow K) → Each (λ s. LeavesLocals s.1) (rule g) → IsAsked g i → IsAsked (rows_heard cmp (rule g) g) i
    unfolding rows_heard
    asked_heard rule g i leaves asked = λ current future.
        asks_mapped cmp matching (Any cmp matching) g (λ f. heard_all cmp g.moment (messages_for f.number (rule g)) f) i
        (each_always (λ f. GoesOn cmp matching (Any cmp matching) g f (heard_all cmp g.moment (messages_for f.number (rule g)) f)) (λ f. goes_heard cmp matching g g.moment (messages_for f.number (rule g)) f (each_message_for cmp LeavesLocals f.number (rule g) leaves)) g.faces)
        tt (asked current future)

    -- ---- the face that asks

    abbrev IsSouth : ℕ → Rows K → Type 0
    IsSouth n g = Each (λ f. (n == f.number) ≡ true → is_north f.region ≡ false) g.faces

    south_heard : (n : ℕ) (ss : List (ℕ × Message K)) (g : Rows K) → IsSouth n g → IsSouth n (rows_heard cmp ss g)
    unfolding rows_heard
    south_heard n ss g south =
        each_map (λ (f : Face K). (n == f.number) ≡ true → is_north f.region ≡ false) (λ f. heard_all cmp g.moment (messages_for f.number ss) f) g.faces
        (each_weaker (λ f. (n == f.number) ≡ true → is_north f.region ≡ false) (λ f. (n == (heard_all cmp g.moment (messages_for f.number ss) f).number) ≡ true → is_north (heard_all cmp g.moment (messages_for f.number ss) f).region ≡ false)
        (λ f one here. ap is_north (heard_all-region cmp g.moment (messages_for f.number ss) f) ∙ one (ap (λ k. n == k) (sym (heard_all-number cmp g.moment (messages_for f.number ss) f)) ∙ here)) g.faces south)

    goes_asked : (g : Rows K) (pendings : List (ℕ × ℕ)) (id : ℕ) (i : InterestRow K) (f : Face K) → is_north f.region ≡ false → kept_options Client i.options ≡ i.options → IsAsked g i → GoesOn cmp matching (Any cmp matching) g f (asked_as pendings id i f)
    goes_asked g pendings id i f south kept asked = record {
      number = refl;
      region = refl;
      face = λ face. record {
        up = λ up. never up south;
        down = λ down. let leads = face.down down in record { shares = leads.shares; mode = leads.mode; held = each_put_if (λ (row : ℕ × InterestRow K). kept_options Client row.1.options ≡ row.1.options) (is_future i.mode) id i f.held (λ _. kept) leads.held };
      };
      rises = λ rises. rises;
      drawn = λ drawn. drawn;
      held = λ _ all. each_put_if (Held cmp matching (Any cmp matching) g) (is_future i.mode) id i f.held (λ future for_now. (asked (and_parts (is_current i.mode) (has_tokens i.options) for_now).0 future, tt)) all;
      asks = λ j _ some. some;
    }

    -- the parts of an interest
    pub after_asking : (n id : ℕ) (i : InterestRow K) (asker : Region) (g : Rows K) → is_north asker ≡ false → IsSouth n g → kept_options Client i.options ≡ i.options → length (with_numbers cmp (numbered_by cmp i) g).dictionary ≤ GREATEST_DICTIONARY → Inside cmp matching g
        → Inside cmp matching (ran cmp (asking cmp matching n id i asker g) g)
    unfolding ran
    after_asking n id i asker g down south kept room inside =
        let g1 = with_numbers cmp (numbered_by cmp i) g in
        let one = numbered cmp matching (numbered_by cmp i) g room inside in
        let two = after_route g1 asker i down one in
        let g2 = rows_heard cmp (to_each (route_to g1 asker i) g1.faces) g1 in
        let entities = λ (h : Rows K). to_face n (entities_for cmp matching h id i) h in
        let three = one_leaving cmp matching n (λ h. entities_for cmp matching h id i) (λ h. leaving_entities cmp matching h id i) g2 two.0 in
        let asked = asked_heard entities g2 i (each_ruled_one LeavesLocals n (entities_for cmp matching g2 id i) g2 (leaving_entities cmp matching g2 id i)) two.1 in
        let g3 = rows_heard cmp (entities g2) g2 in
        let south3 = south_heard n (entities g2) g2 (south_heard n (to_each (route_to g1 asker i) g1.faces) g1 south) in
        let change = asked_as (sent_as g asker i.mode) id i in
        let four = face_changed cmp matching n change g3 (each_weaker (λ f. (n == f.number) ≡ true → is_north f.region ≡ false) (λ f. (n == f.number) ≡ true → GoesOn cmp matching (Any cmp matching) g3 f (change f)) (λ f own here. goes_asked g3 (sent_as g asker i.mode) id i f (own here) kept asked) g3.faces south3) three in
        let g4 = with_face n change g3 in
        let five = one_leaving cmp matching n (λ h. answers_of cmp matching h id i) (λ h f. leaving_answers cmp matching f.next f.told i.mode id _) g4 four in
        one_leaving cmp matching n (λ h. final_of id) (λ h. leaving_final cmp matching id) (rows_heard cmp (to_face n (answers_of cmp matching g4 id i) g4) g4) five
