-- One poll more, and a journal that goes on.
use Rattle.std.proofs.Common.{◌≡◌, ℕ, zero, suc, ◌+◌, ◌≤◌, ◌<◌, Bool, List, [], ◌∷◌, ◌++◌, length, take, slice_get, Option, Some, Ok, Err, refl, sym, ap, ◌∙◌, subst, arith}
use Rattle.std.specs.declared.cmp.Ordering.{Ordering}
use mathlib.Core.List.{IsPrefix}
use Rattle.zt_protocol.specs.Plain.{PlainCall}
use Rattle.zt_model.specs.Journal.{Journalled, rows_replayed}
use Rattle.zt_model.specs.Rows.{Rows}
use Rattle.zt_theorem_journal.specs.Asked.{AreVisible, rows_before, token_ask}
use Rattle.zt_theorem_watch.specs.Beside.{ArePolled, IsPolled}
use Rattle.zt_theorem_watch.specs.Tables.{PlainPoll, table_after, tables_after}
use Rattle.zt_theorem_watch.specs.Watched.{Agrees, asks_from}
use Rattle.zt_theorem_watch.proofs.Polled.{agrees_weaker}

pub asks_more : {K : Type 0} (face id count : ℕ) (expr : Option K) → asks_from face id (count + 1) expr ≡ asks_from face id count expr ++ token_ask face (id + count) expr ∷ []
asks_more face id zero expr = ap (λ n. token_ask face n expr ∷ []) (omega arith)
asks_more face id (suc count) expr =
    let one : suc count + 1 ≡ suc (count + 1) = omega arith in
    let two : (id + 1) + count ≡ id + suc count = omega arith in
    ap (λ n. asks_from face id n expr) one
    ∙ ap (λ cs. token_ask face id expr ∷ cs) (asks_more face (id + 1) count expr)
    ∙ ap (λ n. token_ask face id expr ∷ (asks_from face (id + 1) count expr ++ token_ask face n expr ∷ [])) two

pub tables_more : {K : Type 0} (cmp : K → K → Ordering) (polls : List (PlainPoll K)) (poll : PlainPoll K) (table : List K) → tables_after cmp (polls ++ poll ∷ []) table ≡ table_after cmp poll (tables_after cmp polls table)
tables_more cmp [] poll table = refl
tables_more cmp (p ∷ polls) poll table = tables_more cmp polls poll (table_after cmp p table)

-- ---- lists that go on

get_front : {A : Type 0} (xs rest : List A) (i : ℕ) (x : A) → slice_get xs i ≡ Some x → slice_get (xs ++ rest) i ≡ Some x
get_front [] rest i x at = cc
get_front (y ∷ xs) rest zero x at = at
get_front (y ∷ xs) rest (suc i) x at = get_front xs rest i x at

pub get_longer : {A : Type 0} (xs ys : List A) (i : ℕ) (x : A) → IsPrefix xs ys → slice_get xs i ≡ Some x → slice_get ys i ≡ Some x
get_longer xs ys i x begins at = subst (λ zs. slice_get zs i ≡ Some x) begins.1 (get_front xs begins.0 i x at)

take_front : {A : Type 0} (xs rest : List A) (i : ℕ) (x : A) → slice_get xs i ≡ Some x → take i (xs ++ rest) ≡ take i xs
take_front [] rest i x at = cc
take_front (y ∷ xs) rest zero x at = refl
take_front (y ∷ xs) rest (suc i) x at = ap (λ zs. y ∷ zs) (take_front xs rest i x at)

pub take_longer : {A : Type 0} (xs ys : List A) (i : ℕ) (x : A) → IsPrefix xs ys → slice_get xs i ≡ Some x → take i ys ≡ take i xs
take_longer xs ys i x begins at = subst (λ zs. take i zs ≡ take i xs) begins.1 (take_front xs begins.0 i x at)

module _ {K : Type 0} (cmp : K → K → Ordering) (matching : K → K → Bool) (pass : ℕ) (g : Rows K) (face : ℕ) (expr : Option K) where
  pub polled_more : (journal : List (Journalled K)) (number : ℕ) (table : List K) (polls : List (PlainPoll K)) (poll : PlainPoll K) → ArePolled cmp matching pass g journal face expr number table polls
      → IsPolled cmp matching pass g journal face expr (number + length polls) (table_after cmp poll (tables_after cmp polls table)) poll → ArePolled cmp matching pass g journal face expr number table (polls ++ poll ∷ [])
  polled_more journal number table [] poll are is =
      let same : number + 0 ≡ number = omega arith in
      (subst (λ n. IsPolled cmp matching pass g journal face expr n (table_after cmp poll table) poll) same is, tt)
  polled_more journal number table (p ∷ polls) poll are is =
      let same : number + suc (length polls) ≡ (number + 1) + length polls = omega arith in
      (are.0, polled_more journal (number + 1) (table_after cmp p table) polls poll are.1 (subst (λ n. IsPolled cmp matching pass g journal face expr n (table_after cmp poll (tables_after cmp polls (table_after cmp p table))) poll) same is))

  poll_longer : (journal more : List (Journalled K)) → IsPrefix journal more → (number : ℕ) (table : List K) (poll : PlainPoll K) → IsPolled cmp matching pass g journal face expr number table poll → IsPolled cmp matching pass g more face expr number table poll
  poll_longer journal more begins number table poll is = record {
    entry = is.entry;
    there = get_longer journal more poll.place is.entry begins is.there;
    by = is.by;
    is_of = is.is_of;
    agrees =
        let Sees : List (Journalled K) → Type 0 = λ es. AreVisible cmp matching face expr (rows_before cmp matching poll.place es g) table in
        agrees_weaker (Sees journal) (Sees more)
        (subst (λ (es : List (Journalled K)). AreVisible cmp matching face expr (rows_replayed cmp matching es g) table) (sym (take_longer journal more poll.place is.entry begins is.there)))
        is.entry.outcome poll.outcome is.agrees;
  }

  pub polled_longer : (journal more : List (Journalled K)) → IsPrefix journal more → (number : ℕ) (table : List K) (polls : List (PlainPoll K)) → ArePolled cmp matching pass g journal face expr number table polls → ArePolled cmp matching pass g more face expr number table polls
  polled_longer journal more begins number table [] are = tt
  polled_longer journal more begins number table (poll ∷ polls) are =
      (poll_longer journal more begins number (table_after cmp poll table) poll are.0, polled_longer journal more begins (number + 1) (table_after cmp poll table) polls are.1)
