-- Interests end upstream when no south-bound face holds them any more.
use Rattle.std.proofs.Common.{◌≡◌, ℕ, ◌+◌, ◌≤◌, Bool, true, false, not, ◌&&◌, ◌||◌, ◌==◌, if◌then◌else◌, List, [], ◌∷◌, map, filter, Some, refl, sym, ap, ◌∙◌, arith, eqb-true, eq-eqb, ne_eqb}
use Rattle.std.specs.Cmp.{IsTotalOrder}
use Rattle.std.specs.List.{list_any}
use Rattle.std.specs.declared.cmp.Ordering.{Ordering}
use Rattle.zt_region.specs.declared.region.WhatAmI.TheVariants.{Router}
use Rattle.zt_region.specs.Region.{is_north}
use Rattle.zt_protocol.specs.declared.messages.Message.TheVariants as message
use Rattle.zt_model.specs.Hearing.{heard_all, messages_for, rows_heard}
use Rattle.zt_model.specs.Lists.{at_id, first_where, has_id, without_id}
use Rattle.zt_model.specs.Promises.{is_sent_all}
use Rattle.zt_model.specs.Routing.{asks_same, end_upstream_to, final_of_both, interest_order, is_held_south, unheld, untell_to}
use Rattle.zt_model.specs.Rows.{ById, Face, InterestRow, Rows}
use Rattle.zt_model.specs.Says.{Sends, find_face, is_routed, to_each, to_face, with_face}
use Rattle.zt_model.specs.Transcript.{Each}
use Rattle.zt_laws.specs.Order.{HasRowsInOrder}
use Rattle.zt_laws.specs.Sound.{RiseFrom}
use Rattle.zt_laws.proofs.Hearing.{each_ruled_one, find_each, messages_for_each}
use Rattle.zt_laws.proofs.Keys.{any_and, same_back, same_left}
use Rattle.zt_laws.proofs.Lists.{any-filter, any_alike, by_test, each_always, each_both, each_map, each_weaker, filter_alike, map_same, never, of_cond, rise_above, rise_map}
use Rattle.zt_laws.proofs.PartsOrder.{each_message_for, rise_without_id}
use Rattle.zt_theorem_soundness.proofs.Parts.{Spares}
use Rattle.zt_theorem_visibility.proofs.Saying.{final_of_both_says, untell_says}
use Rattle.zt_theorem_upstream.proofs.Locals.{IsQuiet, IsUpstream, LocalsBelow, Stands, held_heard, interest_total, local_any, locals_quiet, sent_all_north, sent_all_same, south_any, stands_alike, stands_heard}

pub each_three : {A : Type 0} (P Q R Z : A → Type 0) → ((x : A) → P x → Q x → R x → Z x) → (xs : List A) → Each P xs → Each Q xs → Each R xs → Each Z xs
each_three P Q R Z one [] p q r = tt
each_three P Q R Z one (x ∷ xs) p q r = (one x p.0 q.0 r.0, each_three P Q R Z one xs p.1 q.1 r.1)

filter-filter : {A : Type 0} (p q : A → Bool) (xs : List A) → filter p (filter q xs) ≡ filter (λ x. q x && p x) xs
filter-filter p q [] = refl
filter-filter p q (x ∷ xs) =
    by_test (q x)
    (λ here. rw here (by_test (p x) (λ there. rw there (ap (λ ys. x ∷ ys) (filter-filter p q xs))) (λ there. rw there (filter-filter p q xs))))
    (λ here. rw here (filter-filter p q xs))

-- of rows with ids of their own, a filter has the ids of those that it keeps
has_filtered : {A : Type 0} (p : ℕ × A → Bool) (low : ℕ) (rows : ById A) → RiseFrom (λ row. row.0) low rows → Each (λ row. has_id row.0 (filter p rows) ≡ p row) rows
has_filtered p low [] rises = tt
has_filtered {A} p low (row ∷ rows) rises = (first, each_both (λ r. row.0 + 1 ≤ r.0) (λ r. has_id r.0 (filter p rows) ≡ p r) (λ r. has_id r.0 (filter p (row ∷ rows)) ≡ p r) (λ r up one. later r (ne_eqb r.0 row.0 (λ e. omega arith)) one) rows above (has_filtered p (row.0 + 1) rows rises.1))
  where
    above : Each (λ r. row.0 + 1 ≤ r.0) rows
    above = rise_above (λ r. r.0) (row.0 + 1) rows rises.1

    none_there : (rs : ById A) → Each (λ r. row.0 + 1 ≤ r.0) rs → has_id row.0 (filter p rs) ≡ false
    none_there [] up = refl
    none_there (r ∷ rs) up =
        let low_ : row.0 + 1 ≤ r.0 = up.0 in
        let miss : (row.0 == r.0) ≡ false = ne_eqb row.0 r.0 (λ e. omega arith) in
        by_test (p r) (λ here. rw (here, miss) (none_there rs up.1)) (λ here. rw here (none_there rs up.1))

    first : has_id row.0 (filter p (row ∷ rows)) ≡ p row
    first =
        let own : (row.0 == row.0) ≡ true = eq-eqb row.0 row.0 refl in
        by_test (p row) (λ here. rw here (rw own refl)) (λ here. rw here (none_there rows above))

    later : (r : ℕ × A) → (r.0 == row.0) ≡ false → has_id r.0 (filter p rows) ≡ p r → has_id r.0 (filter p (row ∷ rows)) ≡ p r
    later r miss one = by_test (p row) (λ here. rw here (rw miss one)) (λ here. rw here one)

module _ {K : Type 0} (cmp : K → K → Ordering) (matching : K → K → Bool) where
  abbrev S : InterestRow K → InterestRow K → Bool
  S a b = asks_same cmp matching a b

  -- ---- locals that end

  ended_by : (now : ℕ) (rs : ById (InterestRow K)) (f : Face K) → (heard_all cmp now (map (λ row. message.InterestFinal row.0) rs) f).locals ≡ filter (λ row. not (has_id row.0 rs)) f.locals
  unfolding heard_all
  ended_by now [] f = sym (all_stay f.locals)
    where
      all_stay : (rows : ById (InterestRow K)) → filter (λ row. true) rows ≡ rows
      all_stay [] = refl
      all_stay (row ∷ rows) = ap (λ rs. row ∷ rs) (all_stay rows)
  ended_by now (r ∷ rs) f =
      ended_by now rs (record f { locals = without_id r.0 f.locals })
      ∙ filter-filter (λ row. not (has_id row.0 rs)) (λ row. not (r.0 == row.0)) f.locals
      ∙ filter_alike (λ row. not (r.0 == row.0) && not (has_id row.0 rs)) (λ row. not (has_id row.0 (r ∷ rs))) f.locals
      (each_always (λ row. (not (r.0 == row.0) && not (has_id row.0 rs)) ≡ not (has_id row.0 (r ∷ rs))) (λ row. by_test (r.0 == row.0) (λ here. let back : (row.0 == r.0) ≡ true = eq-eqb row.0 r.0 (sym (eqb-true r.0 row.0 here)) in rw (here, back) refl) (λ here. let back : (row.0 == r.0) ≡ false = ne_eqb row.0 r.0 (λ e. never (eq-eqb r.0 row.0 (sym e)) here) in rw (here, back) refl)) f.locals)

  module _ (total : IsTotalOrder cmp) where
    -- two interests that ask for the same ask a third for the same
    S_left : (a b x : InterestRow K) → S a b ≡ true → S a x ≡ S b x
    S_left a b x same_ = same_left (interest_order cmp matching) (interest_total cmp matching total) a b x same_

    S_back : (a b : InterestRow K) → S a b ≡ S b a
    S_back a b = same_back (interest_order cmp matching) (interest_total cmp matching total) a b

    -- the locals but those that ask for the same
    ended_any : (now : ℕ) (interest : InterestRow K) (f : Face K) (i : InterestRow K) → HasRowsInOrder f
        → local_any cmp matching (heard_all cmp now (map (λ row. message.InterestFinal row.0) (filter (λ row. S interest row.1) f.locals)) f) i ≡ (not (S i interest) && local_any cmp matching f i)
    ended_any now interest f i rows =
        ap (list_any (λ row. S i row.1)) (ended_by now (filter (λ row. S interest row.1) f.locals) f ∙ filter_alike (λ row. not (has_id row.0 (filter (λ r. S interest r.1) f.locals))) (λ row. not (S interest row.1)) f.locals (each_weaker (λ row. has_id row.0 (filter (λ r. S interest r.1) f.locals) ≡ S interest row.1) (λ row. not (has_id row.0 (filter (λ r. S interest r.1) f.locals)) ≡ not (S interest row.1)) (λ row one. ap not one) f.locals (has_filtered (λ row. S interest row.1) 0 f.locals rows.locals)))
        ∙ any-filter (λ row. S i row.1) (λ row. not (S interest row.1)) f.locals
        ∙ any_alike (λ row. not (S interest row.1) && S i row.1) (λ row. not (S i interest) && S i row.1) (λ row. one row.1) f.locals
        ∙ any_and (not (S i interest)) (λ row. S i row.1) f.locals
      where
        one : (r : InterestRow K) → (not (S interest r) && S i r) ≡ (not (S i interest) && S i r)
        one r =
            by_test (S i r)
            (λ here. ap (λ b. not b && S i r) (S_back interest r ∙ sym (S_left i r interest here)))
            (λ here. rw here (by_test (S interest r) (λ a. rw a (by_test (S i interest) (λ b. rw b refl) (λ b. rw b refl))) (λ a. rw a (by_test (S i interest) (λ b. rw b refl) (λ b. rw b refl)))))

    -- ---- what one face holds no more

    -- the row of an id, beside the others
    any_held : (p : ℕ × InterestRow K → Bool) (id low : ℕ) (v : InterestRow K) (rows : ById (InterestRow K)) → RiseFrom (λ row. row.0) low rows → at_id id rows ≡ Some v → list_any p rows ≡ (list_any p (without_id id rows) || p (id, v))
    any_held p id low v [] rises found = cc
    any_held p id low v (row ∷ rows) rises found =
        by_test (id == row.0)
        (λ here.
        let e : Some row.1 ≡ Some v = rw here at found in
        let is : row.1 ≡ v = cc in
        let rest : without_id id rows ≡ rows = filter_stays rows (each_weaker (λ r. row.0 + 1 ≤ r.0) (λ r. not (id == r.0) ≡ true) (λ r up. let id_is : id ≡ row.0 = eqb-true id row.0 here in ap not (ne_eqb id r.0 (λ x. omega arith))) rows (rise_above (λ r. r.0) (row.0 + 1) rows rises.1)) in
        let row_is : p row ≡ p (id, v) = ap (λ k. p (k, row.1)) (sym (eqb-true id row.0 here)) ∙ ap (λ w. p (id, w)) is in
        rw here (ap (λ b. b || list_any p rows) row_is ∙ or_swap (p (id, v)) (list_any p rows) ∙ ap (λ rs. list_any p rs || p (id, v)) (sym rest)))
        (λ here. rw here (ap (λ b. p row || b) (any_held p id (row.0 + 1) v rows rises.1 (rw here at found)) ∙ or_in (p row) (list_any p (without_id id rows)) (p (id, v))))
      where
        or_swap : (a b : Bool) → (a || b) ≡ (b || a)
        or_swap true true = refl
        or_swap true false = refl
        or_swap false true = refl
        or_swap false false = refl

        or_in : (a b c : Bool) → (a || (b || c)) ≡ ((a || b) || c)
        or_in true b c = refl
        or_in false b c = refl

        filter_stays : (rs : ById (InterestRow K)) → Each (λ r. not (id == r.0) ≡ true) rs → filter (λ r. not (id == r.0)) rs ≡ rs
        filter_stays [] all = refl
        filter_stays (r ∷ rs) all = let first : not (id == r.0) ≡ true = all.0 in rw first (ap (λ xs. r ∷ xs) (filter_stays rs all.1))

    held_by_same : (g : Rows K) (a b : InterestRow K) → ((x : InterestRow K) → S a x ≡ S b x) → is_held_south cmp matching g a ≡ is_held_south cmp matching g b
    unfolding is_held_south
    held_by_same g a b same_ = any_alike (λ f. south_any cmp matching f a) (λ f. south_any cmp matching f b) (λ f. ap (λ c. not (is_north f.region) && c) (any_alike (λ row. S a row.1) (λ row. S b row.1) (λ row. same_ row.1) f.held)) g.faces

    -- a test of faces, where one of them is changed
    any_one_changed : (q : Face K → Bool) (change : Face K → Face K) (n : ℕ) (b : Bool) (from : Face K) (low : ℕ) (fs : List (Face K)) → RiseFrom (λ f. f.number) low fs → first_where (λ f. n == f.number) fs ≡ Some from → q from ≡ (q (change from) || b)
        → list_any q fs ≡ (list_any q (map (λ f. if n == f.number then change f else f) fs) || b)
    any_one_changed q change n b from low [] rises found own = cc
    any_one_changed q change n b from low (f ∷ fs) rises found own =
        by_test (n == f.number)
        (λ here.
        let e : Some f ≡ Some from = rw here at found in
        let is : f ≡ from = cc in
        let rest : map (λ x. if n == x.number then change x else x) fs ≡ fs = map_same (λ x. if n == x.number then change x else x) fs (each_weaker (λ x. f.number + 1 ≤ x.number) (λ x. (if n == x.number then change x else x) ≡ x) (λ x up. let n_is : n ≡ f.number = eqb-true n f.number here in let miss : (n == x.number) ≡ false = ne_eqb n x.number (λ y. omega arith) in rw miss refl) fs (rise_above (λ x. x.number) (f.number + 1) fs rises.1)) in
        let first : q f ≡ (q (change f) || b) = ap q is ∙ own ∙ ap (λ x. q (change x) || b) (sym is) in
        rw here (ap (λ c. c || list_any q fs) first ∙ or_last (q (change f)) b (list_any q fs) ∙ ap (λ xs. (q (change f) || list_any q xs) || b) (sym rest)))
        (λ here. rw here (ap (λ c. q f || c) (any_one_changed q change n b from (f.number + 1) fs rises.1 (rw here at found) own) ∙ or_in (q f) (list_any q (map (λ x. if n == x.number then change x else x) fs)) b))
      where
        or_last : (a b c : Bool) → ((a || b) || c) ≡ ((a || c) || b)
        or_last true b c = refl
        or_last false true true = refl
        or_last false true false = refl
        or_last false false true = refl
        or_last false false false = refl

        or_in : (a b c : Bool) → (a || (b || c)) ≡ ((a || b) || c)
        or_in true b c = refl
        or_in false b c = refl

    -- ---- a held interest is finalised

    -- what the face of the number holds counts, to the south
    abbrev counts_south : Face K → Bool
    counts_south from = not (is_north from.region)

    unheld_any : (n id : ℕ) (interest : InterestRow K) (from : Face K) (g : Rows K) → RiseFrom (λ f. f.number) 1 g.faces → Each HasRowsInOrder g.faces → find_face n g ≡ Some from → at_id id from.held ≡ Some interest
        → (i : InterestRow K) → is_held_south cmp matching g i ≡ (is_held_south cmp matching (with_face n (unheld id) g) i || (counts_south from && S i interest))
    unfolding is_held_south with_face
    unheld_any n id interest from g rises rows found held i =
        any_one_changed (λ f. south_any cmp matching f i) (unheld id) n (counts_south from && S i interest) from 1 g.faces rises found
        (ap (λ b. counts_south from && b) (any_held (λ row. S i row.1) id 0 interest from.held (find_each HasRowsInOrder (λ f. n == f.number) g.faces from rows found).held held)
        ∙ and_over (counts_south from) (list_any (λ row. S i row.1) (without_id id from.held)) (S i interest))
      where
        and_over : (a b c : Bool) → (a && (b || c)) ≡ ((a && b) || (a && c))
        and_over true b c = refl
        and_over false b c = refl

    stands_unheld : (but : ℕ → Bool) (T : InterestRow K → Bool) (n id : ℕ) (g : Rows K) → Stands cmp matching but T g → Stands cmp matching but T (with_face n (unheld id) g)
    unfolding with_face
    stands_unheld but T n id g stands = record {
      rises = rise_map (λ f. f.number) 1 chosen g.faces (λ f. of_cond (λ (k : Face K). k.number ≡ f.number) (n == f.number) (unheld id f) f (λ _. refl) (λ _. refl)) stands.rises;
      rows = over HasRowsInOrder (λ f rows. of_cond HasRowsInOrder (n == f.number) (unheld id f) f (λ _. record { live = rows.live; held = rise_without_id id f.held rows.held; locals = rows.locals; pendings = rows.pendings; asks = rows.asks }) (λ _. rows)) stands.rows;
      below = over (LocalsBelow cmp matching) (λ f below. of_cond (LocalsBelow cmp matching) (n == f.number) (unheld id f) f (λ _. below) (λ _. below)) stands.below;
      locals = over (λ f. but f.number ≡ false → is_sent_all cmp matching g.mode f ≡ true → (i : InterestRow K) → local_any cmp matching f i ≡ T i) (λ f own. of_cond (λ f. but f.number ≡ false → is_sent_all cmp matching g.mode f ≡ true → (i : InterestRow K) → local_any cmp matching f i ≡ T i) (n == f.number) (unheld id f) f (λ _. sent_beside f own) (λ _. own)) stands.locals;
      routed = over (λ f. is_routed g f ≡ true → (f.mode ≡ Router) × (f.held ≡ [])) (λ f own. of_cond (λ (k : Face K). is_routed g k ≡ true → (k.mode ≡ Router) × (k.held ≡ [])) (n == f.number) (unheld id f) f (λ _ routed. let both = own routed in (both.0, ap (without_id id) both.1)) (λ _. own)) stands.routed;
    }
      where
        chosen : Face K → Face K
        chosen f = if n == f.number then unheld id f else f

        over : (P : Face K → Type 0) → ((f : Face K) → P f → P (chosen f)) → Each P g.faces → Each P (map chosen g.faces)
        over P one all = each_map P chosen g.faces (each_weaker P (λ f. P (chosen f)) one g.faces all)

        sent_beside : (f : Face K) → (but f.number ≡ false → is_sent_all cmp matching g.mode f ≡ true → (i : InterestRow K) → local_any cmp matching f i ≡ T i)
            → but f.number ≡ false → is_sent_all cmp matching g.mode (unheld id f) ≡ true → (i : InterestRow K) → local_any cmp matching f i ≡ T i
        sent_beside f own counts sent i = own counts (sym (sent_all_same cmp matching g.mode f (unheld id f) refl refl) ∙ sent) i

    -- messages that some faces are spared, and that tell the others of no interest
    stands_spared : (but : ℕ → Bool) (spare : Sends K → Sends K) (T : InterestRow K → Bool) (ss : Sends K) (g : Rows K) → Spares but spare → Stands cmp matching but T g → Each (λ s. IsQuiet cmp matching s.1) ss → Stands cmp matching but T (rows_heard cmp (spare ss) g)
    stands_spared but spare T ss g spares stands quiet =
        stands_heard cmp matching but but T T (spare ss) g stands
        (each_weaker (λ f. but f.number ≡ false → is_sent_all cmp matching g.mode f ≡ true → (i : InterestRow K) → local_any cmp matching f i ≡ T i) (λ f. but f.number ≡ false → is_sent_all cmp matching g.mode f ≡ true → (i : InterestRow K) → local_any cmp matching (heard_all cmp g.moment (messages_for f.number (spare ss)) f) i ≡ T i)
        (λ f own counts sent i.
        ap (λ ms. local_any cmp matching (heard_all cmp g.moment ms f) i) (spares.speaks f.number ss counts)
        ∙ ap (λ (rows : ById (InterestRow K)). list_any (λ row. S i row.1) rows) (locals_quiet cmp matching g.moment (messages_for f.number ss) f (each_message_for cmp (IsQuiet cmp matching) f.number ss quiet))
        ∙ own counts sent i) g.faces stands.locals)

    -- it ends upstream where it isn't held any more
    stands_ended : (but : ℕ → Bool) (spare : Sends K → Sends K) (T : InterestRow K → Bool) (c : Bool) (interest : InterestRow K) (g : Rows K) → Spares but spare → Stands cmp matching but T g
        → ((i : InterestRow K) → T i ≡ (is_held_south cmp matching g i || (c && S i interest))) → Stands cmp matching but (is_held_south cmp matching g) (rows_heard cmp (spare (to_each (end_upstream_to cmp matching g interest) g.faces)) g)
    unfolding end_upstream_to heard_all
    stands_ended but spare T c interest g spares stands T_is =
        stands_heard cmp matching but but T (is_held_south cmp matching g) (spare ss) g stands
        (each_three (λ f. messages_for f.number ss ≡ end_upstream_to cmp matching g interest f) HasRowsInOrder (λ f. but f.number ≡ false → is_sent_all cmp matching g.mode f ≡ true → (i : InterestRow K) → local_any cmp matching f i ≡ T i) (λ f. but f.number ≡ false → is_sent_all cmp matching g.mode f ≡ true → (i : InterestRow K) → local_any cmp matching (heard_all cmp g.moment (messages_for f.number (spare ss)) f) i ≡ is_held_south cmp matching g i)
        (λ f says rows own counts sent i.
        ap (λ ms. local_any cmp matching (heard_all cmp g.moment ms f) i) (spares.speaks f.number ss counts ∙ says)
        ∙ by_test (is_held_south cmp matching g interest) (λ held. still f own counts sent i held) (λ gone. ends f rows own counts sent i gone))
        g.faces (messages_for_each 1 (end_upstream_to cmp matching g interest) g.faces stands.rises) stands.rows stands.locals)
      where
        ss : Sends K
        ss = to_each (end_upstream_to cmp matching g interest) g.faces

        and_false : (b : Bool) → (b && false) ≡ false
        and_false true = refl
        and_false false = refl

        or_false : (b : Bool) → (b || false) ≡ b
        or_false true = refl
        or_false false = refl

        -- what asks for the same is held alike
        held_alike : (i : InterestRow K) → S i interest ≡ true → is_held_south cmp matching g i ≡ is_held_south cmp matching g interest
        held_alike i same_ = held_by_same g i interest (λ x. S_left i interest x same_)

        still : (f : Face K) → (but f.number ≡ false → is_sent_all cmp matching g.mode f ≡ true → (i : InterestRow K) → local_any cmp matching f i ≡ T i) → but f.number ≡ false → is_sent_all cmp matching g.mode f ≡ true → (i : InterestRow K)
            → is_held_south cmp matching g interest ≡ true → local_any cmp matching (heard_all cmp g.moment (end_upstream_to cmp matching g interest f) f) i ≡ is_held_south cmp matching g i
        still f own counts sent i held =
            let nothing : end_upstream_to cmp matching g interest f ≡ [] = rw held (by_test (is_north f.region) (λ b. rw b refl) (λ b. rw b refl)) in
            ap (λ ms. local_any cmp matching (heard_all cmp g.moment ms f) i) nothing ∙ own counts sent i ∙ T_is i
            ∙ by_test (S i interest)
            (λ same_. let there : is_held_south cmp matching g i ≡ true = held_alike i same_ ∙ held in rw there refl)
            (λ other. rw other (ap (λ b. is_held_south cmp matching g i || b) (and_false c) ∙ or_false (is_held_south cmp matching g i)))

        ends : (f : Face K) → HasRowsInOrder f → (but f.number ≡ false → is_sent_all cmp matching g.mode f ≡ true → (i : InterestRow K) → local_any cmp matching f i ≡ T i) → but f.number ≡ false → is_sent_all cmp matching g.mode f ≡ true → (i : InterestRow K)
            → is_held_south cmp matching g interest ≡ false → local_any cmp matching (heard_all cmp g.moment (end_upstream_to cmp matching g interest f) f) i ≡ is_held_south cmp matching g i
        ends f rows own counts sent i gone =
            let up = sent_all_north cmp matching g.mode f sent in
            let says : end_upstream_to cmp matching g interest f ≡ map (λ row. message.InterestFinal row.0) (filter (λ row. S interest row.1) f.locals) = rw (up, gone) refl in
            ap (λ ms. local_any cmp matching (heard_all cmp g.moment ms f) i) says
            ∙ ended_any g.moment interest f i rows
            ∙ ap (λ b. not (S i interest) && b) (own counts sent i ∙ T_is i)
            ∙ by_test (S i interest)
            (λ same_. let none_ : is_held_south cmp matching g i ≡ false = held_alike i same_ ∙ gone in rw (same_, none_) refl)
            (λ other. rw other (ap (λ b. is_held_south cmp matching g i || b) (and_false c) ∙ or_false (is_held_south cmp matching g i)))

    -- A held interest of a face is finalised: what is sent upstream is held still.
    pub finalising_stands : (but : ℕ → Bool) (spare : Sends K → Sends K) (n id : ℕ) (interest : InterestRow K) (from : Face K) (g : Rows K) → Spares but spare → find_face n g ≡ Some from → at_id id from.held ≡ Some interest → IsUpstream cmp matching but g
        → (let g1 = with_face n (unheld id) g in
        let g2 = rows_heard cmp (spare (to_face n (untell_to cmp matching g1) g1)) g1 in
        let g3 = rows_heard cmp (spare (to_face n (final_of_both id interest) g2)) g2 in
        IsUpstream cmp matching but (rows_heard cmp (spare (to_each (end_upstream_to cmp matching g3 interest) g3.faces)) g3))
    finalising_stands but spare n id interest from g spares found held stands =
        let T = is_held_south cmp matching g in
        let g1 = with_face n (unheld id) g in
        let s1 = stands_unheld but T n id g stands in
        let untells = to_face n (untell_to cmp matching g1) g1 in
        let g2 = rows_heard cmp (spare untells) g1 in
        let s2 = stands_spared but spare T untells g1 spares s1 (each_ruled_one (IsQuiet cmp matching) n (untell_to cmp matching g1) g1 (untell_says cmp matching (IsQuiet cmp matching) (λ k. tt) g1)) in
        let finals = to_face n (final_of_both id interest) g2 in
        let g3 = rows_heard cmp (spare finals) g2 in
        let s3 = stands_spared but spare T finals g2 spares s2 (each_ruled_one (IsQuiet cmp matching) n (final_of_both id interest) g2 (final_of_both_says cmp matching (IsQuiet cmp matching) (λ k. tt) id interest)) in
        let same_ : (i : InterestRow K) → is_held_south cmp matching g1 i ≡ is_held_south cmp matching g3 i = λ i. sym (held_heard cmp matching (spare untells) g1 i) ∙ sym (held_heard cmp matching (spare finals) g2 i) in
        let ends = to_each (end_upstream_to cmp matching g3 interest) g3.faces in
        let s4 = stands_ended but spare T (counts_south from) interest g3 spares s3 (λ i. unheld_any n id interest from g stands.rises stands.rows found held i ∙ ap (λ b. b || (counts_south from && S i interest)) (same_ i)) in
        stands_alike cmp matching but (is_held_south cmp matching g3) (is_held_south cmp matching (rows_heard cmp (spare ends) g3)) (rows_heard cmp (spare ends) g3) (λ i. sym (held_heard cmp matching (spare ends) g3 i)) s4
