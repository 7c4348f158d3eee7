-- What waits, with one message more.
use Rattle.std.proofs.Common.{◌≡◌, ℕ, ◌+◌, ◌≤◌, ◌<◌, max, Bool, true, false, ◌&&◌, ◌||◌, ◌==◌, not, List, [], ◌∷◌, ◌++◌, filter, Option, Some, None, refl, sym, ap, ◌∙◌, arith, le_trans}
use Rattle.std.proofs.lemmas.Cmp.{ranked}
use Rattle.std.specs.FinMap.Entries.{by_order, put}
use Rattle.std.specs.List.{list_any}
use Rattle.std.specs.Ordering.{nat_cmp}
use Rattle.std.specs.declared.cmp.Ordering.{Ordering}
use Rattle.std.specs.declared.cmp.Ordering.TheVariants.{Less, Equal, Greater}
use Rattle.zt_protocol.specs.Interest.{has_tokens}
use Rattle.zt_protocol.specs.declared.messages.Message.{Message}
use Rattle.zt_protocol.specs.declared.messages.Message.TheVariants.{DeclareToken, UndeclareToken, DeclareFinal, Interest, InterestFinal, DeclareSubscriber, DeclareQueryable}
use Rattle.zt_model.specs.Hearing.{put_if, told_pair, untold}
use Rattle.zt_model.specs.Lists.{same, without_id}
use Rattle.zt_model.specs.Rows.{ById, InterestRow}
use Rattle.zt_model.specs.Transcript.{Each}
use Rattle.zt_laws.proofs.Lists.{by_test, each_append, each_filter, each_weaker, of_cond}
use Rattle.zt_theorem_tree_invariant.specs.Facts.{AreClear, InterestsRise, IsClear, interests_after, interests_by, token_interests, tokens_after, tokens_by, top_of}

-- ---- rows by id

pub put_last : {A : Type 0} (id : ℕ) (v : A) (rows : ById A) → Each (λ row. row.0 < id) rows → put nat_cmp id v rows ≡ rows ++ (id, v) ∷ []
put_last id v [] below = refl
put_last id v (row ∷ rows) below =
    let less : row.0 < id = below.0 in
    elim (nat_cmp id row.0) as (λ o. nat_cmp id row.0 ≡ o → by_order o ((id, v) ∷ row ∷ rows) ((row.0, v) ∷ rows) (row ∷ put nat_cmp id v rows) ≡ row ∷ rows ++ (id, v) ∷ []) [
      | Less ↦ λ c. let more : id < row.0 = ranked id row.0 Less (sym c) in absurd (omega arith)
      | Equal ↦ λ c. let equal : id ≡ row.0 = ranked id row.0 Equal (sym c) in absurd (omega arith)
      | Greater ↦ λ c. ap (λ rest. row ∷ rest) (put_last id v rows below.1)
    ] refl

filter-append : {A : Type 0} (p : A → Bool) (xs ys : List A) → filter p (xs ++ ys) ≡ filter p xs ++ filter p ys
filter-append p [] ys = refl
filter-append p (x ∷ xs) ys = by_test (p x) (λ here. rw here (ap (λ zs. x ∷ zs) (filter-append p xs ys))) (λ here. rw here (filter-append p xs ys))

filter-swap : {A : Type 0} (p q : A → Bool) (xs : List A) → filter p (filter q xs) ≡ filter q (filter p xs)
filter-swap p q [] = refl
filter-swap p q (x ∷ xs) =
    by_test (p x)
    (λ here. by_test (q x) (λ own. rw (here, own) (rw here (ap (λ zs. x ∷ zs) (filter-swap p q xs)))) (λ own. rw (here, own) (filter-swap p q xs)))
    (λ here. by_test (q x) (λ own. rw (here, own) (rw here (filter-swap p q xs))) (λ own. rw (here, own) (filter-swap p q xs)))

pub each_put : {A : Type 0} (P : ℕ × A → Type 0) (id : ℕ) (v : A) (rows : ById A) → P (id, v) → Each (λ row. row.0 < id) rows → Each P rows → Each P (put nat_cmp id v rows)
each_put P id v rows new_ below all = rw (put_last id v rows below) (each_append P rows ((id, v) ∷ []) all (new_, tt))

pub each_put_if : {A : Type 0} (P : ℕ × A → Type 0) (b : Bool) (id : ℕ) (v : A) (rows : ById A) → P (id, v) → Each (λ row. row.0 < id) rows → Each P rows → Each P (put_if b id v rows)
each_put_if P true id v rows new_ below all = each_put P id v rows new_ below all
each_put_if P false id v rows new_ below all = all

pub each_below_later : {A : Type 0} (next later : ℕ) (rows : ById A) → next ≤ later → Each (λ row. row.0 < next) rows → Each (λ row. row.0 < later) rows
each_below_later next later rows up all = each_weaker (λ row. row.0 < next) (λ row. row.0 < later) (λ row less. le_trans less up) rows all

-- ids below the top
pub below_top : {A : Type 0} (low : ℕ) (rows : ById A) → top_of rows ≤ low → Each (λ row. row.0 < low) rows
below_top low [] h = tt
below_top low (row ∷ rows) h = let h2 : max (row.0 + 1) (top_of rows) ≤ low = h in (omega arith, below_top low rows (omega arith))

pub top_of_below : {A : Type 0} (low : ℕ) (rows : ById A) → Each (λ row. row.0 < low) rows → top_of rows ≤ low
top_of_below low [] all = omega arith
top_of_below low (row ∷ rows) all = let more = top_of_below low rows all.1 in let here : row.0 < low = all.0 in omega arith

pub top_filter : {A : Type 0} (p : ℕ × A → Bool) (rows : ById A) → top_of (filter p rows) ≤ top_of rows
top_filter p [] = omega arith
top_filter p (row ∷ rows) =
    let more = top_filter p rows in
    of_cond (λ xs. top_of xs ≤ max (row.0 + 1) (top_of rows)) (p row) (row ∷ filter p rows) (filter p rows) (λ _. omega arith) (λ _. omega arith)

-- ---- interests of tokens

pub tokens_put : {K : Type 0} (b : Bool) (id : ℕ) (v : InterestRow K) (rows : ById (InterestRow K)) → Each (λ row. row.0 < id) rows → token_interests (put_if b id v rows) ≡ put_if (b && has_tokens v.options) id v (token_interests rows)
tokens_put false id v rows below = refl
tokens_put {K} true id v rows below =
    ap token_interests (put_last id v rows below)
    ∙ filter-append (λ (row : ℕ × InterestRow K). has_tokens row.1.options) rows ((id, v) ∷ [])
    ∙ by_test (has_tokens v.options)
    (λ here. rw here (sym (put_last id v (token_interests rows) (each_filter (λ (row : ℕ × InterestRow K). row.0 < id) (λ row. has_tokens row.1.options) rows below))))
    (λ here. rw here (no_more (token_interests rows)))
  where
    no_more : (xs : ById (InterestRow K)) → xs ++ [] ≡ xs
    no_more [] = refl
    no_more (x ∷ xs) = ap (λ ys. x ∷ ys) (no_more xs)

pub tokens_without : {K : Type 0} (id : ℕ) (rows : ById (InterestRow K)) → token_interests (without_id id rows) ≡ without_id id (token_interests rows)
tokens_without {K} id rows = filter-swap (λ (row : ℕ × InterestRow K). has_tokens row.1.options) (λ row. not (id == row.0)) rows

pub interests_last : {K : Type 0} (ms : List (Message K)) (m : Message K) (rows : ById (InterestRow K)) → interests_after (ms ++ m ∷ []) rows ≡ interests_by m (interests_after ms rows)
interests_last [] m rows = refl
interests_last (n ∷ ms) m rows = interests_last ms m (interests_by n rows)

-- ---- ids that rise

pub rise_low : {K : Type 0} (low less : ℕ) (ms : List (Message K)) (high : ℕ) → less ≤ low → InterestsRise low ms high → InterestsRise less ms high
rise_low low less [] high h rises = le_trans h rises
rise_low low less (Interest id mode options e ∷ ms) high h rises = (le_trans h rises.0, rises.1)
rise_low low less (DeclareToken id e interest node ∷ ms) high h rises = rise_low low less ms high h rises
rise_low low less (UndeclareToken id e node ∷ ms) high h rises = rise_low low less ms high h rises
rise_low low less (DeclareFinal interest ∷ ms) high h rises = rise_low low less ms high h rises
rise_low low less (InterestFinal id ∷ ms) high h rises = rise_low low less ms high h rises
rise_low low less (DeclareSubscriber id e interest ∷ ms) high h rises = rise_low low less ms high h rises
rise_low low less (DeclareQueryable id e info interest ∷ ms) high h rises = rise_low low less ms high h rises

pub rise_within : {K : Type 0} (low : ℕ) (ms : List (Message K)) (high : ℕ) → InterestsRise low ms high → low ≤ high
rise_within low [] high rises = rises
rise_within low (Interest id mode options e ∷ ms) high rises = let more = rise_within (id + 1) ms high rises.1 in let h : low ≤ id = rises.0 in omega arith
rise_within low (DeclareToken id e interest node ∷ ms) high rises = rise_within low ms high rises
rise_within low (UndeclareToken id e node ∷ ms) high rises = rise_within low ms high rises
rise_within low (DeclareFinal interest ∷ ms) high rises = rise_within low ms high rises
rise_within low (InterestFinal id ∷ ms) high rises = rise_within low ms high rises
rise_within low (DeclareSubscriber id e interest ∷ ms) high rises = rise_within low ms high rises
rise_within low (DeclareQueryable id e info interest ∷ ms) high rises = rise_within low ms high rises

-- what a message more makes of the bound
abbrev pub rises_by : {K : Type 0} → Message K → ℕ → ℕ → Type 0
rises_by (Interest id mode options e) high later = (high ≤ id) × (id + 1 ≤ later)
rises_by _ high later = high ≤ later

pub rise_last : {K : Type 0} (low : ℕ) (ms : List (Message K)) (m : Message K) (high later : ℕ) → InterestsRise low ms high → rises_by m high later → InterestsRise low (ms ++ m ∷ []) later
rise_last low [] (Interest id mode options e) high later rises by = (le_trans rises by.0, by.1)
rise_last low [] (DeclareToken id e interest node) high later rises by = le_trans rises by
rise_last low [] (UndeclareToken id e node) high later rises by = le_trans rises by
rise_last low [] (DeclareFinal interest) high later rises by = le_trans rises by
rise_last low [] (InterestFinal id) high later rises by = le_trans rises by
rise_last low [] (DeclareSubscriber id e interest) high later rises by = le_trans rises by
rise_last low [] (DeclareQueryable id e info interest) high later rises by = le_trans rises by
rise_last low (Interest id mode options e ∷ ms) m high later rises by = (rises.0, rise_last (id + 1) ms m high later rises.1 by)
rise_last low (DeclareToken id e interest node ∷ ms) m high later rises by = rise_last low ms m high later rises by
rise_last low (UndeclareToken id e node ∷ ms) m high later rises by = rise_last low ms m high later rises by
rise_last low (DeclareFinal interest ∷ ms) m high later rises by = rise_last low ms m high later rises by
rise_last low (InterestFinal id ∷ ms) m high later rises by = rise_last low ms m high later rises by
rise_last low (DeclareSubscriber id e interest ∷ ms) m high later rises by = rise_last low ms m high later rises by
rise_last low (DeclareQueryable id e info interest ∷ ms) m high later rises by = rise_last low ms m high later rises by

-- an interest that waits has an id below the bound
abbrev pub IsBelow : {K : Type 0} → ℕ → Message K → Type 0
IsBelow high (Interest id mode options e) = id < high
IsBelow high _ = Unit {0}

pub rise_below : {K : Type 0} (low : ℕ) (ms : List (Message K)) (high : ℕ) → InterestsRise low ms high → Each (IsBelow high) ms
rise_below low [] high rises = tt
rise_below low (Interest id mode options e ∷ ms) high rises = let up : id + 1 ≤ high = rise_within (id + 1) ms high rises.1 in (omega arith, rise_below (id + 1) ms high rises.1)
rise_below low (DeclareToken id e interest node ∷ ms) high rises = (tt, rise_below low ms high rises)
rise_below low (UndeclareToken id e node ∷ ms) high rises = (tt, rise_below low ms high rises)
rise_below low (DeclareFinal interest ∷ ms) high rises = (tt, rise_below low ms high rises)
rise_below low (InterestFinal id ∷ ms) high rises = (tt, rise_below low ms high rises)
rise_below low (DeclareSubscriber id e interest ∷ ms) high rises = (tt, rise_below low ms high rises)
rise_below low (DeclareQueryable id e info interest ∷ ms) high rises = (tt, rise_below low ms high rises)

-- ---- tokens

module _ {K : Type 0} (cmp : K → K → Ordering) where
  pub tokens_last : (ms : List (Message K)) (m : Message K) (rows : ById K) → tokens_after cmp (ms ++ m ∷ []) rows ≡ tokens_by cmp m (tokens_after cmp ms rows)
  tokens_last [] m rows = refl
  tokens_last (n ∷ ms) m rows = tokens_last ms m (tokens_by cmp n rows)

  pub clear_last : (ms : List (Message K)) (m : Message K) (rows : ById K) → AreClear cmp ms rows → IsClear cmp m (tokens_after cmp ms rows) → AreClear cmp (ms ++ m ∷ []) rows
  clear_last [] m rows clear last = (last, tt)
  clear_last (n ∷ ms) m rows clear last = (clear.0, clear_last ms m (tokens_by cmp n rows) clear.1 last)

  -- told ids stay below the next one
  pub told_pair_below : (id : ℕ) (e : K) (told : ById K) (next : ℕ) → Each (λ row. row.0 < next) told → Each (λ row. row.0 < max next (id + 1)) (told_pair cmp id e told)
  told_pair_below id e told next below =
      let later = each_below_later next (max next (id + 1)) told (omega arith) below in
      of_cond (Each (λ row. row.0 < max next (id + 1))) (id == 0 || list_any (λ row. (id == row.0) && same cmp e row.1) told) told (told ++ (id, e) ∷ [])
      (λ _. later) (λ _. each_append (λ row. row.0 < max next (id + 1)) told ((id, e) ∷ []) later (omega arith, tt))

  pub untold_each : (P : ℕ × K → Type 0) (id : ℕ) (e : Option K) (told : ById K) → Each P told → Each P (untold cmp id e told)
  untold_each P id None told all = each_filter P (λ row. not (id == row.0)) told all
  untold_each P id (Some e) told all = each_filter P (λ row. not (same cmp e row.1)) told all
