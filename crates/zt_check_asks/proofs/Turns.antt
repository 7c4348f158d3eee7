-- Asks of an accepted turn are answered what they ask for exactly where those are that the turn may make or answer.
use Rattle.std.proofs.Common.{◌≡◌, ℕ, Bool, true, false, List, [], Ok, Err, refl, ap}
use Rattle.std.proofs.lemmas.Bool.{false≢true}
use Rattle.std.specs.List.{list_any}
use Rattle.std.specs.declared.cmp.Ordering.{Ordering}
use Rattle.zt_protocol.specs.Interest.{has_tokens}
use Rattle.zt_protocol.specs.Plain.{PlainLine}
use Rattle.zt_protocol.specs.declared.entries.Sent.{Sent}
use Rattle.zt_protocol.specs.declared.errors.Refusal.{Refusal}
use Rattle.zt_model.specs.Fabric.{CallAt, Fabric, Node, call_of, printed_for}
use Rattle.zt_model.specs.Lists.{same}
use Rattle.zt_model.specs.Promises.{AnswersAsks, IsAnswered, Turn, calls_in, is_answering, is_asking}
use Rattle.zt_model.specs.Rows.{Ask, Face, Rows}
use Rattle.zt_model.specs.Transcript.{Each, fabric_shown, fabric_with}
use Rattle.zt_check_fabric.specs.Placed.{IsPlaced}
use Rattle.zt_check_keeping.proofs.Members.{each_member, members_each, never}
use Rattle.zt_check_asks.specs.Answering.{answers_to, asks_are_answered, is_answered, is_answered_so}
use Rattle.zt_check_asks.specs.Calls.{PlainTold, told_of}
use Rattle.zt_check_asks.proofs.Asked.{ask_says, ask_told, if_so, unless}
use Rattle.zt_check_asks.proofs.LineCalls.{line_tells}
use Rattle.zt_check_asks.proofs.Covered.{All, all_say, all_told, each_face, face_each}

module _ {K : Type 0} (cmp : K → K → Ordering) (matching : K → K → Bool) (itself : (e : K) → same cmp e e ≡ true) (exact : (a b : K) → same cmp a b ≡ true → a ≡ b) (line : PlainLine K) (ms : List (Sent K)) (s : Fabric K) where
  abbrev turn : Turn K
  turn = record { line = line; entry = Ok ms; before = s; after = fabric_shown cmp matching line (Ok ms) s }

  abbrev carried : Fabric K
  carried = fabric_with cmp matching line ms s

  abbrev told : PlainTold K
  told = told_of (call_of line s) ms

  -- what is printed for a face is told by its place, which what is heard doesn't change
  ask_is : (n : ℕ) (g : Rows K) (f : Face K) (row : ℕ × Ask K) → is_answered cmp matching (fabric_with cmp matching line ms s) (told_of (call_of line s) ms) n g f row ≡ true
      → has_tokens row.1.interest.options ≡ true → IsAnswered cmp matching (record { line = line; entry = Ok ms; before = s; after = fabric_shown cmp matching line (Ok ms) s }) n g f row.0 row.1
  unfolding fabric_shown
  ask_is n g f row h tokens =
      ask_says cmp matching itself exact turn told n g f row.0 row.1 (line_tells cmp matching itself exact line ms s turn.after n g f row.0 row.1)
      (if_so (has_tokens row.1.interest.options) (is_answered_so cmp matching told n g f row.0 row.1 (answers_to carried ms n f.number row.0)) h tokens)

  is_ask : (n : ℕ) (g : Rows K) (f : Face K) (row : ℕ × Ask K) → (has_tokens row.1.interest.options ≡ true → IsAnswered cmp matching (record { line = line; entry = Ok ms; before = s; after = fabric_shown cmp matching line (Ok ms) s }) n g f row.0 row.1)
      → is_answered cmp matching (fabric_with cmp matching line ms s) (told_of (call_of line s) ms) n g f row ≡ true
  unfolding fabric_shown
  is_ask n g f row h =
      unless (has_tokens row.1.interest.options) (is_answered_so cmp matching told n g f row.0 row.1 (answers_to carried ms n f.number row.0))
      (λ tokens. ask_told cmp matching itself exact turn told n g f row.0 row.1 (line_tells cmp matching itself exact line ms s turn.after n g f row.0 row.1) (h tokens))

  pub answers_say : IsPlaced (fabric_with cmp matching line ms s) → asks_are_answered cmp matching (fabric_with cmp matching line ms s) (told_of (call_of line s) ms) ≡ true
      → AnswersAsks cmp matching (record { line = line; entry = Ok ms; before = s; after = fabric_shown cmp matching line (Ok ms) s })
  answers_say placed checked =
      face_each (λ n g f. Each (λ (row : ℕ × Ask K). has_tokens row.1.interest.options ≡ true → IsAnswered cmp matching turn n g f row.0 row.1) f.asks) carried
      (λ n node f at there.
      members_each (λ (row : ℕ × Ask K). has_tokens row.1.interest.options ≡ true → IsAnswered cmp matching turn n node.rows f row.0 row.1) f.asks
      (λ row asked. ask_is n node.rows f row (all_say cmp matching carried told placed checked n node f row at there asked)))

  pub answers_told : AnswersAsks cmp matching (record { line = line; entry = Ok ms; before = s; after = fabric_shown cmp matching line (Ok ms) s })
      → asks_are_answered cmp matching (fabric_with cmp matching line ms s) (told_of (call_of line s) ms) ≡ true
  answers_told h =
      all_told cmp matching carried told
      (λ n node f row at there asked.
      is_ask n node.rows f row
      (each_member (λ (r : ℕ × Ask K). has_tokens r.1.interest.options ≡ true → IsAnswered cmp matching turn n node.rows f r.0 r.1) row f.asks
      (each_face (λ k g x. Each (λ (r : ℕ × Ask K). has_tokens r.1.interest.options ≡ true → IsAnswered cmp matching turn k g x r.0 r.1) x.asks) carried n node f h at there) asked))

-- a refused line prints nothing and makes no call
module _ {K : Type 0} (cmp : K → K → Ordering) (matching : K → K → Bool) (line : PlainLine K) (refusal : Refusal) (s : Fabric K) where
  nothing_in : (t : Turn K) → t.entry ≡ Err refusal → calls_in cmp matching t ≡ []
  unfolding calls_in
  nothing_in t is = rw is refl

  abbrev refused : Turn K
  refused = record { line = line; entry = Err refusal; before = s; after = fabric_shown cmp matching line (Err refusal) s }

  unanswered : (p : CallAt K → Bool) → list_any p (calls_in cmp matching (record { line = line; entry = Err refusal; before = s; after = fabric_shown cmp matching line (Err refusal) s })) ≡ false
  unanswered p = ap (list_any p) (nothing_in refused refl)

  refused_ask : (n : ℕ) (g : Rows K) (f : Face K) (id : ℕ) (ask : Ask K) → IsAnswered cmp matching (record { line = line; entry = Err refusal; before = s; after = fabric_shown cmp matching line (Err refusal) s }) n g f id ask
  unfolding printed_for
  refused_ask n g f id ask = record {
    at_once = λ made. never made (unanswered (is_asking cmp matching n f.number id));
    only_declared = λ unmade e there. absurd (false≢true there);
    each_declared = λ e about declared. never declared (unanswered (is_answering cmp matching n ask e));
    once = refl;
  }

  pub refused_answers : AnswersAsks cmp matching (record { line = line; entry = Err refusal; before = s; after = fabric_shown cmp matching line (Err refusal) s })
  refused_answers =
      face_each (λ n g f. Each (λ (row : ℕ × Ask K). has_tokens row.1.interest.options ≡ true → IsAnswered cmp matching refused n g f row.0 row.1) f.asks) s
      (λ n node f at there.
      members_each (λ (row : ℕ × Ask K). has_tokens row.1.interest.options ≡ true → IsAnswered cmp matching refused n node.rows f row.0 row.1) f.asks
      (λ row asked tokens. refused_ask n node.rows f row.0 row.1))
