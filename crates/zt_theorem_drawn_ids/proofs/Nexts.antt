-- How many ids the messages of a phase draw at a face.
use Rattle.std.proofs.Common.{◌≡◌, ℕ, ◌+◌, ◌≤◌, ◌<◌, max, Bool, true, false, not, if◌then◌else◌, ◌&&◌, ◌||◌, List, [], ◌∷◌, length, map, Option, Some, None, refl, sym, ap, ◌∙◌, subst, arith}
use Rattle.std.specs.List.{flat_map, list_any}
use Rattle.std.specs.declared.cmp.Ordering.{Ordering}
use Rattle.zt_protocol.specs.Interest.{is_future}
use Rattle.zt_protocol.specs.declared.interests.InterestMode.{InterestMode}
use Rattle.zt_protocol.specs.declared.messages.Message.{Message}
use Rattle.zt_protocol.specs.declared.messages.Message.TheVariants as message
use Rattle.zt_model.specs.Hearing.{heard, heard_all, messages_for}
use Rattle.zt_model.specs.Rows.{Ask, ById, Face, InterestRow, Rows}
use Rattle.zt_model.specs.Routing.{interests_from, tokens_from}
use Rattle.zt_model.specs.Says.{Sends, answers_from, told_id}
use Rattle.zt_model.specs.Telling.{answer_to, is_answered_by}
use Rattle.zt_model.specs.Transcript.{Each}
use Rattle.zt_model.specs.Visible.{keeps}
use Rattle.zt_laws.specs.Order.{RowsAreInOrder}
use Rattle.zt_laws.specs.Sound.{IsToldInOrder}
use Rattle.zt_laws.proofs.Hearing.{heard_all-append}
use Rattle.zt_laws.proofs.Lists.{by_test, each_weaker, map-map, map_alike, of_cond}
use Rattle.zt_laws.proofs.PartsOrder.{each_message_for}
use Rattle.zt_laws.proofs.Told.{names, told_id_each, told_id_names, told_id_none}
use Rattle.zt_laws.proofs.ToldOrder.{DrawsNothing}
use Rattle.zt_theorem_soundness.proofs.Answered.{is_answered_later}
use Rattle.zt_theorem_soundness.proofs.Going.{hears}

module _ {K : Type 0} where
  -- what each face of a gateway has drawn since
  abbrev pub HaveDrawn : (Face K → ℕ) → Rows K → Rows K → Type 0
  HaveDrawn count g after = map (λ f. f.next) after.faces ≡ map (λ f. f.next + count f) g.faces

  pub drawn_by : (count : Face K → ℕ) (change : Face K → Face K) (g h : Rows K) → h.faces ≡ map change g.faces → Each (λ f. (change f).next ≡ f.next + count f) g.faces → HaveDrawn count g h
  drawn_by count change g h faces_ each_ = ap (map (λ (f : Face K). f.next)) faces_ ∙ map-map (λ f. f.next) change g.faces ∙ map_alike (λ f. (change f).next) (λ f. f.next + count f) g.faces each_

  -- first so many, and then more
  pub drawn_then : (one two count : Face K → ℕ) (change : Face K → Face K) (g h k : Rows K) → h.faces ≡ map change g.faces → HaveDrawn two h k → Each (λ f. (change f).next + two (change f) ≡ f.next + count f) g.faces → HaveDrawn count g k
  drawn_then one two count change g h k faces_ more each_ =
      more ∙ ap (map (λ (f : Face K). f.next + two f)) faces_ ∙ map-map (λ f. f.next + two f) change g.faces ∙ map_alike (λ f. (change f).next + two (change f)) (λ f. f.next + count f) g.faces each_

module _ {K : Type 0} (cmp : K → K → Ordering) (matching : K → K → Bool) where
  pub next_silent : (now : ℕ) (ms : List (Message K)) (f : Face K) → 1 ≤ f.next → Each DrawsNothing ms → (heard_all cmp now ms f).next ≡ f.next
  unfolding heard_all
  next_silent now [] f real silent = refl
  next_silent now (m ∷ ms) f real silent =
      let one = next_one m silent.0 in
      next_silent now ms (heard cmp now m f) (subst (λ k. 1 ≤ k) (sym one) real) silent.1 ∙ one
    where
      next_one : (m : Message K) → DrawsNothing m → (heard cmp now m f).next ≡ f.next
      next_one (message.DeclareToken id e interest node) none_ = let zero_ : id ≡ 0 = none_ in omega arith
      next_one (message.UndeclareToken id e node) none_ = refl
      next_one (message.DeclareFinal interest) none_ = refl
      next_one (message.Interest id mode options e) none_ = absurd none_
      next_one (message.InterestFinal id) none_ = refl
      next_one (message.DeclareSubscriber id e interest) none_ = refl
      next_one (message.DeclareQueryable id e info interest) none_ = refl

  -- silent messages draw nothing at any face
  pub drawn_silent : (ss : Sends K) (g : Rows K) → RowsAreInOrder cmp matching g → Each (λ s. DrawsNothing s.1) ss → Each (λ f. (hears cmp matching ss g f).next ≡ f.next) g.faces
  drawn_silent ss g ordered silent =
      each_weaker (λ f. IsToldInOrder cmp f.told f.next) (λ f. (hears cmp matching ss g f).next ≡ f.next)
      (λ f told. next_silent g.moment (messages_for f.number ss) f told.next_is_real (each_message_for cmp DrawsNothing f.number ss silent)) g.faces ordered.told

  -- ---- answers to asks

  -- an answer under a new id, where the face doesn't keep the expression and is to hear of later too
  one_answer : (now next : ℕ) (told : ById K) (mode : InterestMode) (id : ℕ) (e : K) (h : Face K) → 1 ≤ next → next ≤ h.next → Each (λ row. row.0 < next) told
      → (heard_all cmp now (answers_from cmp matching next told mode id (e ∷ [])) h).next ≡ (if is_future mode && not (names cmp e told) then max h.next (next + 1) else h.next)
  unfolding answers_from heard_all
  one_answer now next told mode id e h real up below =
      by_test (is_future mode)
      (λ future. rw future (by_id (told_id cmp e told) refl))
      (λ future. rw future (omega arith))
    where
      Ends : List (Message K) → Type 0
      Ends ms = (heard_all cmp now ms h).next ≡ (if true && not (names cmp e told) then max h.next (next + 1) else h.next)

      by_id : (o : Option ℕ) → told_id cmp e told ≡ o → Ends (elim o [ None ↦ message.DeclareToken next e (Some id) 0 ∷ [] | Some old ↦ message.DeclareToken old e (Some id) 0 ∷ [] ])
      by_id None is = rw (told_id_none cmp e told is) refl
      by_id (Some old) is = let less : old < next = told_id_each cmp (λ k. k < next) e told old below is in rw (told_id_names cmp e told old is) (omega arith)

  -- the id that asks draw together
  asks_next : (now next n id : ℕ) (told : ById K) (e : K) (asks : ById (Ask K)) (h : Face K) → 1 ≤ next → next ≤ h.next → Each (λ row. row.0 < next) told
      → (let ms = flat_map (λ row. if is_answered_by cmp matching n id e row.1 then answers_from cmp matching next told row.1.interest.mode row.0 (e ∷ []) else []) asks in
      (heard_all cmp now ms h).next ≡ (if list_any (is_answered_later cmp matching n id e) asks && not (names cmp e told) then max h.next (next + 1) else h.next))
  unfolding heard_all
  asks_next now next n id told e [] h real up below = refl
  asks_next now next n id told e (row ∷ rows) h real up below =
      let ms = if is_answered_by cmp matching n id e row.1 then answers_from cmp matching next told row.1.interest.mode row.0 (e ∷ []) else [] in
      let rest = flat_map (λ row. if is_answered_by cmp matching n id e row.1 then answers_from cmp matching next told row.1.interest.mode row.0 (e ∷ []) else []) rows in
      let k = heard_all cmp now ms h in
      let one : k.next ≡ (if is_answered_later cmp matching n id e row && not (names cmp e told) then max h.next (next + 1) else h.next) = first row h up in
      let up_ : next ≤ k.next = subst (λ j. next ≤ j) (sym one) (of_cond (λ j. next ≤ j) (is_answered_later cmp matching n id e row && not (names cmp e told)) (max h.next (next + 1)) h.next (λ _. omega arith) (λ _. up)) in
      ap (λ (x : Face K). x.next) (heard_all-append cmp now ms rest h)
      ∙ asks_next now next n id told e rows k real up_ below
      ∙ ap (λ (j : ℕ). if list_any (is_answered_later cmp matching n id e) rows && not (names cmp e told) then max j (next + 1) else j) one
      ∙ joined (is_answered_later cmp matching n id e row) (list_any (is_answered_later cmp matching n id e) rows) (not (names cmp e told)) h.next (next + 1)
    where
      joined : (a b c : Bool) (x y : ℕ) → (if b && c then max (if a && c then max x y else x) y else (if a && c then max x y else x)) ≡ (if (a || b) && c then max x y else x)
      joined true true true x y = omega arith
      joined true true false x y = refl
      joined true false true x y = refl
      joined true false false x y = refl
      joined false true true x y = refl
      joined false true false x y = refl
      joined false false c x y = refl

      first : (row : ℕ × Ask K) (h : Face K) → next ≤ h.next
          → (let ms = if is_answered_by cmp matching n id e row.1 then answers_from cmp matching next told row.1.interest.mode row.0 (e ∷ []) else [] in
          (heard_all cmp now ms h).next ≡ (if is_answered_later cmp matching n id e row && not (names cmp e told) then max h.next (next + 1) else h.next))
      first row h up =
          by_test (is_answered_by cmp matching n id e row.1)
          (λ here. rw here (one_answer now next told row.1.interest.mode row.0 e h real up below ∙ with_true (is_future row.1.interest.mode) (not (names cmp e told)) (max h.next (next + 1)) h.next))
          (λ here. rw here (with_false (is_future row.1.interest.mode) (not (names cmp e told)) (max h.next (next + 1)) h.next))
        where
          with_true : (a b : Bool) (x y : ℕ) → (if a && b then x else y) ≡ (if (a && true) && b then x else y)
          with_true true b x y = refl
          with_true false b x y = refl

          with_false : (a b : Bool) (x y : ℕ) → y ≡ (if (a && false) && b then x else y)
          with_false true b x y = refl
          with_false false b x y = refl

  -- a token from the north draws an id where an ask is answered that is to hear of later too, and the face doesn't keep it
  pub answer_next : (now n id : ℕ) (e : K) (f : Face K) → IsToldInOrder cmp f.told f.next → (heard_all cmp now (answer_to cmp matching n id e f) f).next ≡ f.next + (if list_any (is_answered_later cmp matching n id e) f.asks && not (keeps cmp f e) then 1 else 0)
  unfolding answer_to
  answer_next now n id e f ordered =
      asks_next now f.next n id f.told e f.asks f ordered.next_is_real (omega arith) ordered.below
      ∙ counted (list_any (is_answered_later cmp matching n id e) f.asks && not (keeps cmp f e)) f.next
    where
      counted : (b : Bool) (k : ℕ) → (if b then max k (k + 1) else k) ≡ k + (if b then 1 else 0)
      counted true k = omega arith
      counted false k = omega arith

  -- ---- openings

  pub interests_next : (now next : ℕ) (is : List (InterestRow K)) (f : Face K) → next ≡ f.next → (heard_all cmp now (interests_from next is) f).next ≡ f.next + length is
  unfolding interests_from heard_all
  interests_next now next [] f one = omega arith
  interests_next now next (i ∷ is) f one =
      let h = heard cmp now (message.Interest next i.mode i.options i.expr) f in
      let next_ : h.next ≡ f.next + 1 = omega arith in
      let rest = interests_next now (next + 1) is h (omega arith) in
      omega arith

  pub tokens_next : (now next : ℕ) (es : List K) (f : Face K) → next ≡ f.next → (heard_all cmp now (tokens_from next es) f).next ≡ f.next + length es
  unfolding tokens_from heard_all
  tokens_next now next [] f one = omega arith
  tokens_next now next (e ∷ es) f one =
      let h = heard cmp now (message.DeclareToken next e None 0) f in
      let next_ : h.next ≡ f.next + 1 = omega arith in
      let rest = tokens_next now (next + 1) es h (omega arith) in
      omega arith
