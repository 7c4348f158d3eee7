-- What a call needs is within what it could draw at the most, as a transcript shows it.
use Rattle.std.proofs.Common.{◌≡◌, ℕ, ◌+◌, ◌≤◌, Bool, true, false, not, nat_lt, if◌then◌else◌, ◌&&◌, ◌||◌, ◌==◌, List, [], ◌∷◌, length, sum_by, map, filter, Some, refl, sym, ap, ◌∙◌, subst, arith, le_trans, length-append, lt-ltb}
use Rattle.std.proofs.lemmas.Bool.{and_parts, and_from, or_left, or_right, not-true, not_from_false}
use Rattle.std.proofs.lemmas.List.{length-map}
use Rattle.std.proofs.lemmas.List.Sums.{sum_by-cons}
use Rattle.std.specs.Cmp.{IsTotalOrder}
use Rattle.std.specs.FinMap.Entries.{by_order, put}
use Rattle.std.specs.List.{flat_map, list_any}
use Rattle.std.specs.Ordering.{nat_cmp}
use Rattle.std.specs.declared.cmp.Ordering.{Ordering}
use Rattle.std.specs.declared.cmp.Ordering.TheVariants.{Less, Equal, Greater}
use Rattle.zt_region.specs.declared.region.Region.{Region}
use Rattle.zt_region.specs.Admission.{admits}
use Rattle.zt_region.specs.Region.{is_north}
use Rattle.zt_protocol.specs.Interest.{is_current, is_future, has_tokens}
use Rattle.zt_protocol.specs.declared.interests.InterestMode.{InterestMode}
use Rattle.zt_protocol.specs.declared.interests.InterestMode.TheVariants.{Current, Future, CurrentFuture}
use Rattle.zt_model.specs.Hearing.{put_if}
use Rattle.zt_model.specs.Lists.{first_where, in_key_order, is_among, same, with_key}
use Rattle.zt_model.specs.Refusals.{asks_upstream}
use Rattle.zt_model.specs.Routing.{asked_as, held_south, interest_order, is_target}
use Rattle.zt_model.specs.Rows.{Ask, ById, Face, InterestRow, Rows}
use Rattle.zt_model.specs.Says.{answered_expressions, find_face, is_routed, is_told, with_face}
use Rattle.zt_model.specs.Transcript.{Each}
use Rattle.zt_model.specs.Visible.{is_visible, keeps, shows, visible_expressions}
use Rattle.zt_model.specs.Wants.{is_about, seeks}
use Rattle.zt_laws.proofs.Hearing.{find_passes}
use Rattle.zt_laws.proofs.Keys.{among-filter}
use Rattle.zt_laws.proofs.Lists.{by_test, each_weaker, never, of_cond}
use Rattle.zt_laws.proofs.Visible.{among-visible_expressions}
use Rattle.zt_theorem_soundness.proofs.ById.{find_mapped}

-- ---- lengths and sums

some_there : {A : Type 0} (p : A → Bool) (xs : List A) → list_any p xs ≡ true → 1 ≤ length (filter p xs)
some_there p [] h = never h refl
some_there p (x ∷ xs) h = by_test (p x) (λ here. rw here (omega arith)) (λ here. rw here (some_there p xs (rw here at h)))

filter_less : {A : Type 0} (p q : A → Bool) (xs : List A) → length (filter p (filter q xs)) ≤ length (filter p xs)
filter_less p q [] = omega arith
filter_less p q (x ∷ xs) =
    let rest = filter_less p q xs in
    by_test (q x)
    (λ here. rw here (by_test (p x) (λ there. rw there (omega arith)) (λ there. rw there rest)))
    (λ here. rw here (by_test (p x) (λ there. rw there (omega arith)) (λ there. rw there rest)))

-- the number of a member is within the sum
sum_at : {A : Type 0} (f : A → ℕ) (q : A → Bool) (xs : List A) (x : A) → first_where q xs ≡ Some x → f x ≤ sum_by f xs
sum_at f q [] x found = cc
sum_at f q (y ∷ ys) x found =
    let whole = sum_by-cons f y ys in
    by_test (q y)
    (λ here. let e : Some y ≡ Some x = rw here at found in let is : y ≡ x = cc in let one : f y ≡ f x = ap f is in omega arith)
    (λ here. let rest : f x ≤ sum_by f ys = sum_at f q ys x (rw here at found) in omega arith)

put_some : {A : Type 0} (p : ℕ × A → Bool) (id : ℕ) (v : A) (rows : ById A) → ((k : ℕ) → p (k, v) ≡ true) → list_any p (put nat_cmp id v rows) ≡ true
put_some p id v [] h = or_left (p (id, v)) false (h id)
put_some p id v (row ∷ rows) h =
    elim (nat_cmp id row.0) as (λ o. list_any p (by_order o ((id, v) ∷ row ∷ rows) ((row.0, v) ∷ rows) (row ∷ put nat_cmp id v rows)) ≡ true) [
      | Less ↦ or_left (p (id, v)) (p row || list_any p rows) (h id)
      | Equal ↦ or_left (p (row.0, v)) (list_any p rows) (h row.0)
      | Greater ↦ or_right (p row) (list_any p (put nat_cmp id v rows)) (put_some p id v rows h)
    ]

filter_true : {A : Type 0} (xs : List A) → filter (λ x. true) xs ≡ xs
filter_true [] = refl
filter_true (x ∷ xs) = ap (λ ys. x ∷ ys) (filter_true xs)

put_real : {A : Type 0} (id : ℕ) (v : A) (rows : ById A) → 1 ≤ length (put nat_cmp id v rows)
put_real id v rows = subst (λ xs. 1 ≤ length xs) (filter_true (put nat_cmp id v rows)) (some_there (λ row. true) (put nat_cmp id v rows) (put_some (λ row. true) id v rows (λ k. refl)))

with_key_length : {A : Type 0} (order : A → A → Ordering) (x : A) (xs : List A) → length (with_key order x xs) ≤ length xs + 1
with_key_length order x [] = omega arith
with_key_length order x (k ∷ ks) =
    elim (order x k) as (λ o. length (by_order o (x ∷ k ∷ ks) (k ∷ ks) (k ∷ with_key order x ks)) ≤ length (k ∷ ks) + 1) [
      | Less ↦ omega arith
      | Equal ↦ omega arith
      | Greater ↦ let rest = with_key_length order x ks in omega arith
    ]

key_order_length : {A : Type 0} (order : A → A → Ordering) (xs : List A) → length (in_key_order order xs) ≤ length xs
key_order_length order [] = omega arith
key_order_length order (x ∷ xs) =
    let one = with_key_length order x (in_key_order order xs) in
    let rest = key_order_length order xs in
    omega arith

-- a mode is one for what comes later, or for what is there now
now_or_later : (mode : InterestMode) → is_future mode ≡ false → is_current mode ≡ true
now_or_later Current h = refl
now_or_later Future h = never refl h
now_or_later CurrentFuture h = refl

module _ {K : Type 0} (cmp : K → K → Ordering) (matching : K → K → Bool) where
  -- what a face could be told, after a call has left these rows
  abbrev pub could_from : Rows K → Face K → ℕ
  could_from after f =
      length (filter (λ e. not (keeps cmp f e)) (visible_expressions cmp after f.region))
      + (sum_by (λ x. length x.held) after.faces + sum_by (asks_upstream cmp matching) after.faces)

  -- ---- a token

  module _ (total : IsTotalOrder cmp) (equal_is_same : (a b : K) → cmp a b ≡ Equal → a ≡ b) where
    -- an expression that is visible then and isn't kept is one that a face could be told
    one_could : (g : Rows K) (f : Face K) (e : K) → is_visible cmp g f.region e ≡ true → keeps cmp f e ≡ false → 1 ≤ length (filter (λ k. not (keeps cmp f k)) (visible_expressions cmp g f.region))
    one_could g f e seen new_ =
        let es = filter (λ k. not (keeps cmp f k)) (visible_expressions cmp g f.region) in
        let less = filter_less (λ k. true) (same cmp e) es in
        let some = some_there (same cmp e) es
        (among-filter cmp total equal_is_same (λ k. not (keeps cmp f k)) e (visible_expressions cmp g f.region)
        ∙ and_from (not (keeps cmp f e)) (is_among cmp e (visible_expressions cmp g f.region)) (not_from_false (keeps cmp f e) new_) (among-visible_expressions cmp total g f.region e ∙ seen)) in
        subst (λ xs. 1 ≤ length xs) (filter_true es) (le_trans (subst (λ xs. 1 ≤ length xs) (sym (filter_true (filter (same cmp e) es))) some) less)

    -- a face that is told an expression from a region, once that is visible where the region is shown
    pub told_could : (source : Region) (e : K) (g after : Rows K) (f : Face K) → (shows g.mode f.region source ≡ true → is_visible cmp after f.region e ≡ true) → is_told cmp matching g source e f ≡ true → 1 ≤ could_from after f
    told_could source e g after f seen told =
        let whole = and_parts (not (is_routed g f)) (admits g.refused source f.region && shows g.mode f.region source && not (keeps cmp f e) && seeks matching g.mode f e) told in
        let sought = and_parts (admits g.refused source f.region && shows g.mode f.region source && not (keeps cmp f e)) (seeks matching g.mode f e) whole.1 in
        let new_ = and_parts (admits g.refused source f.region && shows g.mode f.region source) (not (keeps cmp f e)) sought.0 in
        let shown = (and_parts (admits g.refused source f.region) (shows g.mode f.region source) new_.0).1 in
        let one = one_could after f e (seen shown) (not-true (keeps cmp f e) new_.1) in
        omega arith

    pub unkept_could : (e : K) (after : Rows K) (f : Face K) → is_visible cmp after f.region e ≡ true → keeps cmp f e ≡ false → 1 ≤ could_from after f
    unkept_could e after f seen new_ = let one = one_could after f e seen new_ in omega arith

  -- ---- an interest

  answers_less : (interest : InterestRow K) (g : Rows K) (f : Face K) → length (filter (λ k. not (keeps cmp f k)) (answered_expressions cmp matching g interest f)) ≤ length (filter (λ k. not (keeps cmp f k)) (visible_expressions cmp g f.region))
  unfolding answered_expressions
  answers_less interest g f =
      of_cond (λ (es : List K). length (filter (λ k. not (keeps cmp f k)) es) ≤ length (filter (λ k. not (keeps cmp f k)) (visible_expressions cmp g f.region))) (is_current interest.mode && has_tokens interest.options)
      (filter (is_about matching interest.expr) (visible_expressions cmp g f.region)) [] (λ _. filter_less (λ k. not (keeps cmp f k)) (is_about matching interest.expr) (visible_expressions cmp g f.region)) (λ _. omega arith)

  -- the face that asked holds the interest, or its ask was sent upstream
  asked_counts : (pendings : List (ℕ × ℕ)) (id : ℕ) (interest : InterestRow K) (f : Face K) → 1 ≤ length pendings → 1 ≤ length (asked_as pendings id interest f).held + asks_upstream cmp matching (asked_as pendings id interest f)
  asked_counts pendings id interest f some =
      by_test (is_future interest.mode)
      (λ later. let one : 1 ≤ length (put_if (is_future interest.mode) id interest f.held) = subst (λ b. 1 ≤ length (put_if b id interest f.held)) (sym later) (put_real id interest f.held) in omega arith)
      (λ now.
      let ask : Ask K = record { interest = interest; pendings = pendings; answered = [] } in
      let sent = λ (row : ℕ × Ask K). nat_lt 0 (length row.1.pendings) in
      let one : 1 ≤ length (filter sent (put_if (is_current interest.mode) id ask f.asks)) =
      subst (λ b. 1 ≤ length (filter sent (put_if b id ask f.asks))) (sym (now_or_later interest.mode now)) (some_there sent (put nat_cmp id ask f.asks) (put_some sent id ask f.asks (λ k. lt-ltb 0 (length pendings) (omega arith)))) in
      omega arith)

  pub asked_could : (pendings : List (ℕ × ℕ)) (n id : ℕ) (interest : InterestRow K) (from : Face K) (g : Rows K) → find_face n g ≡ Some from → 1 ≤ length pendings
      → (let after = with_face n (asked_as pendings id interest) g in 1 ≤ sum_by (λ x. length x.held) after.faces + sum_by (asks_upstream cmp matching) after.faces)
  unfolding with_face
  asked_could pendings n id interest from g found some =
      let change = λ (f : Face K). if n == f.number then asked_as pendings id interest f else f in
      let fs = map change g.faces in
      let there : first_where (λ f. n == f.number) fs ≡ Some (change from) = find_mapped n change g.faces from (λ f. of_cond (λ (k : Face K). k.number ≡ f.number) (n == f.number) (asked_as pendings id interest f) f (λ _. refl) (λ _. refl)) found in
      let is : change from ≡ asked_as pendings id interest from = ap (λ b. if b then asked_as pendings id interest from else from) (find_passes (λ f. n == f.number) g.faces from found) in
      let held_ = sum_at (λ (x : Face K). length x.held) (λ f. n == f.number) fs (change from) there in
      let asks_ = sum_at (asks_upstream cmp matching) (λ f. n == f.number) fs (change from) there in
      let counts = subst (λ (k : Face K). 1 ≤ length k.held + asks_upstream cmp matching k) (sym is) (asked_counts pendings id interest from some) in
      omega arith

  pub answers_could : (interest : InterestRow K) (g after : Rows K) (f : Face K) (more : ℕ) → visible_expressions cmp after f.region ≡ visible_expressions cmp g f.region → more ≤ sum_by (λ x. length x.held) after.faces + sum_by (asks_upstream cmp matching) after.faces
      → length (filter (λ k. not (keeps cmp f k)) (answered_expressions cmp matching g interest f)) + more ≤ could_from after f
  answers_could interest g after f more same_ less =
      let one = answers_less interest g f in
      let two : length (filter (λ k. not (keeps cmp f k)) (visible_expressions cmp after f.region)) ≡ length (filter (λ k. not (keeps cmp f k)) (visible_expressions cmp g f.region)) = ap (λ es. length (filter (λ k. not (keeps cmp f k)) es)) same_ in
      omega arith

  -- a target is one of those that an interest was sent to
  pub sent_some : (g : Rows K) (asker : Region) (mode : InterestMode) (fs : List (Face K)) → Each (λ f. is_target g asker mode f ≡ true → 1 ≤ length {A = ℕ × ℕ} (map (λ (k : Face K). (k.number, k.next)) (filter (is_target g asker mode) fs))) fs
  sent_some g asker mode [] = tt
  sent_some g asker mode (f ∷ fs) =
      let sends : List (Face K) → ℕ = λ xs. length {A = ℕ × ℕ} (map (λ (k : Face K). (k.number, k.next)) (filter (is_target g asker mode) xs)) in
      ((λ here. rw here (omega arith)), each_weaker (λ k. is_target g asker mode k ≡ true → 1 ≤ sends fs) (λ k. is_target g asker mode k ≡ true → 1 ≤ sends (f ∷ fs)) (λ k one there. let up : 1 ≤ sends fs = one there in by_test (is_target g asker mode f) (λ here. rw here (omega arith)) (λ here. rw here up)) fs (sent_some g asker mode fs))

  -- ---- an opening

  holds_length : (fs : List (Face K)) → length (flat_map (λ f. if is_north f.region then [] else map (λ row. record row.1 { mode = CurrentFuture }) f.held) fs) ≤ sum_by (λ x. length x.held) fs
  holds_length [] = omega arith
  holds_length (f ∷ fs) =
      let holds = λ (k : Face K). if is_north k.region then [] else map (λ (row : ℕ × InterestRow K). record row.1 { mode = CurrentFuture }) k.held in
      let whole = sum_by-cons (λ (x : Face K). length x.held) f fs in
      let rest = holds_length fs in
      let own : length (holds f) ≤ length f.held = of_cond (λ (is : List (InterestRow K)). length is ≤ length f.held) (is_north f.region) [] (map (λ (row : ℕ × InterestRow K). record row.1 { mode = CurrentFuture }) f.held) (λ _. omega arith) (λ _. omega (arith, length-map f.held (λ (row : ℕ × InterestRow K). record row.1 { mode = CurrentFuture }))) in
      let sum = length-append (holds f) (flat_map holds fs) in
      omega arith

  pub held_south_less : (g : Rows K) → length (held_south cmp matching g) ≤ sum_by (λ x. length x.held) g.faces
  unfolding held_south
  held_south_less g =
      let one = key_order_length (interest_order cmp matching) (flat_map (λ f. if is_north f.region then [] else map (λ row. record row.1 { mode = CurrentFuture }) f.held) g.faces) in
      let two = holds_length g.faces in
      omega arith

  -- a face that was told nothing lacks all that is visible
  pub nothing_kept : (g : Rows K) (f : Face K) → f.told ≡ [] → length (filter (λ e. not (keeps cmp f e)) (visible_expressions cmp g f.region)) ≡ length (visible_expressions cmp g f.region)
  nothing_kept g f none_ =
      ap (λ (rows : ById K). length (filter (λ e. not (list_any (λ row. same cmp e row.1) rows)) (visible_expressions cmp g f.region))) none_ ∙ ap length (filter_true (visible_expressions cmp g f.region))
