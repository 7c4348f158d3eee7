-- Interests that end and asks that are finished owe no more, and pay for what says so.
use Rattle.std.proofs.Common.{◌≡◌, ℕ, ◌+◌, ◌≤◌, Bool, true, false, not, ◌&&◌, ◌||◌, ◌==◌, List, [], ◌∷◌, ◌++◌, map, filter, Option, Some, None, refl, ap, ◌∙◌, arith, eq-eqb}
use Rattle.std.specs.List.{list_any}
use Rattle.std.specs.declared.cmp.Ordering.{Ordering}
use Rattle.zt_region.specs.Region.{is_north}
use Rattle.zt_protocol.specs.Interest.{is_current, is_future}
use Rattle.zt_protocol.specs.declared.messages.Message.{Message}
use Rattle.zt_protocol.specs.declared.messages.Message.TheVariants as message
use Rattle.zt_model.specs.Hearing.{heard_all}
use Rattle.zt_model.specs.Lists.{at_id, is_some_and, without_id}
use Rattle.zt_model.specs.Routing.{asks_same, end_upstream_to, final_of, final_of_both, finish_to, is_finished_by, is_held_south}
use Rattle.zt_model.specs.Rows.{Ask, ById, Face, InterestRow, Rows}
use Rattle.zt_model.specs.Transcript.{Each}
use Rattle.zt_laws.proofs.Lists.{by_test, each_always, each_weaker, of_cond}
use Rattle.zt_theorem_tree_rest.proofs.Prices.{Pays, left, message_price, owed}
use Rattle.zt_theorem_tree_rest.proofs.Sums.{times, total, total_filter}

-- the rows but those under the ids of others
abbrev pub without_rows : {A B : Type 0} → ById B → ById A → ById A
without_rows [] rows = rows
without_rows (gone ∷ more) rows = without_rows more (without_id gone.0 rows)

abbrev are_of : {A B : Type 0} → ById B → ℕ × A → Bool
are_of gone row = list_any (λ g. g.0 == row.0) gone

filter-filter : {A : Type 0} (p q : A → Bool) (xs : List A) → filter p (filter q xs) ≡ filter (λ x. not (not (q x)) && p x) xs
filter-filter p q [] = refl
filter-filter p q (x ∷ xs) = by_test (q x) (λ here. rw here (by_test (p x) (λ there. rw there (ap (λ ys. x ∷ ys) (filter-filter p q xs))) (λ there. rw there (filter-filter p q xs)))) (λ here. rw here (filter-filter p q xs))

filter_as : {A : Type 0} (p q : A → Bool) → ((x : A) → p x ≡ q x) → (xs : List A) → filter p xs ≡ filter q xs
filter_as p q h [] = refl
filter_as p q h (x ∷ xs) = let first = h x in let rest = filter_as p q h xs in cc

without_is : {A B : Type 0} (gone : ById B) (rows : ById A) → without_rows gone rows ≡ filter (λ row. not (are_of gone row)) rows
without_is [] rows = all_stay rows
  where
    all_stay : {A : Type 0} (rows : List A) → rows ≡ filter (λ row. true) rows
    all_stay [] = refl
    all_stay (row ∷ rows) = ap (λ rest. row ∷ rest) (all_stay rows)
without_is {A} (g ∷ gone) rows =
    without_is gone (without_id g.0 rows)
    ∙ filter-filter (λ row. not (are_of gone row)) (λ row. not (g.0 == row.0)) rows
    ∙ filter_as (λ (row : ℕ × A). not (not (not (g.0 == row.0))) && not (are_of gone row)) (λ row. not ((g.0 == row.0) || are_of gone row)) (λ row. tests (g.0 == row.0) (are_of gone row)) rows
  where
    tests : (a b : Bool) → (not (not (not a)) && not b) ≡ not (a || b)
    tests true b = refl
    tests false b = refl

module _ {A : Type 0} (n : ℕ) (w : ℕ × A → ℕ) (p : ℕ × A → Bool) where
  -- where all that pass are taken away, and each is worth as much
  taken_out : (gone rows : ById A) → Each (λ row. n ≤ w row) rows → Each (λ row. p row ≡ true → are_of gone row ≡ true) rows → times n (filter p rows) + total w (filter (λ row. not (are_of gone row)) rows) ≤ total w rows
  taken_out gone [] worth all = omega arith
  taken_out gone (row ∷ rows) worth all =
      let rest = taken_out gone rows worth.1 all.1 in
      let own : n ≤ w row = worth.0 in
      by_test (p row)
      (λ here. let there : are_of gone row ≡ true = all.0 here in rw (here, there) (omega arith))
      (λ here. rw here (of_cond (λ (rs : ById A). times n (filter p rows) + total w rs ≤ total w (row ∷ rows)) (not (are_of gone row)) (row ∷ filter (λ row. not (are_of gone row)) rows) (filter (λ row. not (are_of gone row)) rows) (λ _. omega arith) (λ _. omega arith)))

  passing_are_of : (rows more : ById A) → Each (λ row. p row ≡ true → are_of (filter p (more ++ rows)) row ≡ true) rows
  passing_are_of [] more = tt
  passing_are_of (row ∷ rows) more = (
    λ passes. there more passes,
    let again = passing_are_of rows (more ++ row ∷ []) in each_weaker (λ r. p r ≡ true → are_of (filter p ((more ++ row ∷ []) ++ rows)) r ≡ true) (λ r. p r ≡ true → are_of (filter p (more ++ row ∷ rows)) r ≡ true) (λ r h passes. ap (λ rs. are_of (filter p rs) r) (moved more) ∙ h passes) rows again,
  )
    where
      moved : (more : ById A) → more ++ row ∷ rows ≡ (more ++ row ∷ []) ++ rows
      moved [] = refl
      moved (x ∷ more) = ap (λ rs. x ∷ rs) (moved more)

      or_true : (b : Bool) → (b || true) ≡ true
      or_true true = refl
      or_true false = refl

      there : (more : ById A) → p row ≡ true → are_of (filter p (more ++ row ∷ rows)) row ≡ true
      there [] passes = rw passes (rw (eq-eqb row.0 row.0 refl) refl)
      there (x ∷ more) passes = let found = there more passes in by_test (p x) (λ here. rw here (rw found (or_true (x.0 == row.0)))) (λ here. rw here found)

  pub ended_pay : (rows : ById A) → Each (λ row. n ≤ w row) rows → times n (filter p rows) + total w (without_rows (filter p rows) rows) ≤ total w rows
  ended_pay rows worth = rw (without_is (filter p rows) rows) (taken_out (filter p rows) rows worth (passing_are_of rows []))

module _ {K : Type 0} (cmp : K → K → Ordering) (matching : K → K → Bool) (tokens : List K) (price : ℕ → ℕ) (end_price : ℕ) where
  -- ---- finals

  finals_heard : {A : Type 0} (now : ℕ) (gone : ById A) (f : Face K) → owed cmp tokens price end_price (heard_all cmp now (map (λ row. message.DeclareFinal row.0) gone) f) ≡ times end_price f.locals + total (λ row. left cmp tokens price end_price f.number row.1) (without_rows gone f.asks)
  unfolding heard_all
  finals_heard now [] f = refl
  finals_heard now (g ∷ gone) f = finals_heard now gone (record f { asks = without_id g.0 f.asks })

  finals_price : {A : Type 0} (n : ℕ) (rows : ById A) → total (message_price cmp tokens price end_price n) (map (λ row. message.DeclareFinal row.0) rows) ≡ times (price n) rows
  finals_price n [] = refl
  finals_price n (row ∷ rows) = ap (λ k. price n + k) (finals_price n rows)

  asks_are_worth : (n : ℕ) (asks : ById (Ask K)) → Each (λ row. price n ≤ left cmp tokens price end_price n row.1) asks
  asks_are_worth n asks = each_always (λ (row : ℕ × Ask K). price n ≤ left cmp tokens price end_price n row.1) (λ row. omega arith) asks

  pub finals_pay : (now : ℕ) (f : Face K) (p : ℕ × Ask K → Bool) → Pays cmp tokens price end_price now f 0 (map (λ row. message.DeclareFinal row.0) (filter p f.asks))
  finals_pay now f p =
      let one = finals_price f.number (filter p f.asks) in
      let two = finals_heard now (filter p f.asks) f in
      let three = ended_pay (price f.number) (λ (row : ℕ × Ask K). left cmp tokens price end_price f.number row.1) p f.asks (asks_are_worth f.number f.asks) in
      omega arith

  pub finish_pays : (now : ℕ) (g : Rows K) (n id : ℕ) (f : Face K) → Pays cmp tokens price end_price now f 0 (finish_to g n id f)
  unfolding finish_to
  finish_pays now g n id f = finals_pay now f (λ row. is_finished_by g n id row.1)

  -- the final of one ask
  one_out : (n id : ℕ) (asks : ById (Ask K)) (ask : Ask K) → at_id id asks ≡ Some ask → price n + total (λ row. left cmp tokens price end_price n row.1) (without_id id asks) ≤ total (λ row. left cmp tokens price end_price n row.1) asks
  one_out n id [] ask at_ = cc
  one_out n id (row ∷ asks) ask at_ =
      by_test (id == row.0)
      (λ here. let less = total_filter (λ (r : ℕ × Ask K). left cmp tokens price end_price n r.1) (λ r. not (id == r.0)) asks in rw here (omega arith))
      (λ here. let rest = one_out n id asks ask (rw here at at_) in rw here (omega arith))

  pub one_final_pays : (now id : ℕ) (f : Face K) (ask : Ask K) → at_id id f.asks ≡ Some ask → Pays cmp tokens price end_price now f 0 (message.DeclareFinal id ∷ [])
  unfolding heard_all
  one_final_pays now id f ask at_ = let out = one_out f.number id f.asks ask at_ in omega arith

  pub final_pays : (now id : ℕ) (f : Face K) → Pays cmp tokens price end_price now f 0 (final_of id f)
  unfolding heard_all
  final_pays now id f = by_ask (at_id id f.asks) refl
    where
      by_pendings : (ask : Ask K) → at_id id f.asks ≡ Some ask → (ps : List (ℕ × ℕ)) → Pays cmp tokens price end_price now f 0 (elim ps [ [] ↦ message.DeclareFinal id ∷ [] | p ∷ ps ↦ [] ])
      by_pendings ask at_ [] = one_final_pays now id f ask at_
      by_pendings ask at_ (p ∷ ps) = omega arith

      by_ask : (o : Option (Ask K)) → at_id id f.asks ≡ o → Pays cmp tokens price end_price now f 0 (elim o [ None ↦ [] | Some ask ↦ elim ask.pendings [ [] ↦ message.DeclareFinal id ∷ [] | p ∷ ps ↦ [] ] ])
      by_ask None at_ = omega arith
      by_ask (Some ask) at_ = by_pendings ask at_ ask.pendings

  pub final_of_both_pays : (now id : ℕ) (interest : InterestRow K) (f : Face K) → Pays cmp tokens price end_price now f 0 (final_of_both id interest f)
  unfolding heard_all
  final_of_both_pays now id interest f =
      of_cond (λ (ms : List (Message K)). Pays cmp tokens price end_price now f 0 ms) (is_current interest.mode && is_some_and (at_id id f.asks) (λ ask. is_future ask.interest.mode)) (message.DeclareFinal id ∷ []) [] (λ here. by_ask (at_id id f.asks) refl (second (is_current interest.mode) (is_some_and (at_id id f.asks) (λ ask. is_future ask.interest.mode)) here)) (λ _. omega arith)
    where
      second : (a b : Bool) → (a && b) ≡ true → b ≡ true
      second true b h = h
      second false b h = cc

      by_ask : (o : Option (Ask K)) → at_id id f.asks ≡ o → is_some_and o (λ ask. is_future ask.interest.mode) ≡ true → Pays cmp tokens price end_price now f 0 (message.DeclareFinal id ∷ [])
      by_ask None at_ some = cc
      by_ask (Some ask) at_ some = one_final_pays now id f ask at_

  -- ---- the ends of interests

  ends_heard : {A : Type 0} (now : ℕ) (gone : ById A) (f : Face K) → owed cmp tokens price end_price (heard_all cmp now (map (λ row. message.InterestFinal row.0) gone) f) ≡ times end_price (without_rows gone f.locals) + total (λ row. left cmp tokens price end_price f.number row.1) f.asks
  unfolding heard_all
  ends_heard now [] f = refl
  ends_heard now (g ∷ gone) f = ends_heard now gone (record f { locals = without_id g.0 f.locals })

  ends_price : {A : Type 0} (n : ℕ) (rows : ById A) → total (message_price cmp tokens price end_price n) (map (λ row. message.InterestFinal row.0) rows) ≡ times end_price rows
  ends_price n [] = refl
  ends_price n (row ∷ rows) = ap (λ k. end_price + k) (ends_price n rows)

  pub end_upstream_pays : (now : ℕ) (g : Rows K) (interest : InterestRow K) (f : Face K) → Pays cmp tokens price end_price now f 0 (end_upstream_to cmp matching g interest f)
  unfolding heard_all end_upstream_to
  end_upstream_pays now g interest f =
      let p = λ (row : ℕ × InterestRow K). asks_same cmp matching interest row.1 in
      of_cond (λ (ms : List (Message K)). Pays cmp tokens price end_price now f 0 ms) (is_north f.region && not (is_held_south cmp matching g interest)) (map (λ row. message.InterestFinal row.0) (filter p f.locals)) []
      (λ _.
      let one = ends_price f.number (filter p f.locals) in
      let two = ends_heard now (filter p f.locals) f in
      let three = ended_pay end_price (λ (row : ℕ × InterestRow K). end_price) p f.locals (each_always (λ (row : ℕ × InterestRow K). end_price ≤ end_price) (λ row. omega arith) f.locals) in
      omega arith)
      (λ _. omega arith)
