-- The walk takes the chunks of a key expression.
use Rattle.std.proofs.Common.{◌≡◌, ℕ, Bool, true, false, cond, List, [], ◌∷◌, drop, map, refl, sym, ap, ◌∙◌, eqb}
use Rattle.std.specs.Prelude.{◌↔◌, IsTrue, None}
use Rattle.std.specs.List.{list_any, list_all, onto_first}
use Rattle.std.proofs.lemmas.Bool.{false≢true}
use Rattle.std.proofs.lemmas.List.Splits.{slice_split-cons_yes, slice_split-cons_no}
use Rattle.zt_keys.specs.Chunks.{chunks, is_empty, is_good_chunk}
use Rattle.zt_keys.specs.Parts.{part_of, parts_match}
use Rattle.zt_keys.specs.Expression.{Expression}
use Rattle.zt_keys.specs.Matching.{parts, matching, Intersect}
use Rattle.zt_keys.specs.Members.{matching-intersect}
use Rattle.zt_keys.specs.Laws.{good_chunks, prints_some}
use Rattle.zt_keys.specs.Test.{by_test}
use Rattle.zt_keys.specs.Walking.{pieces, walked}
use Rattle.zt_keys.specs.Numbers.{numbered, numbers_from}

abbrev is_slash : ℕ → Bool
is_slash b = eqb b 47

-- a `/` ends the text
abbrev ends_open : List ℕ → Bool
ends_open [] = true
ends_open (b ∷ []) = is_slash b
ends_open (b ∷ c ∷ bytes) = ends_open (c ∷ bytes)

chunks-slash : (b : ℕ) (bytes : List ℕ) → is_slash b ≡ true → chunks (b ∷ bytes) ≡ [] ∷ chunks bytes
chunks-slash b bytes e = slice_split-cons_yes is_slash b bytes e

chunks-other : (b : ℕ) (bytes : List ℕ) → is_slash b ≡ false → chunks (b ∷ bytes) ≡ onto_first b (chunks bytes)
chunks-other b bytes e = slice_split-cons_no is_slash b bytes e

pieces-chunks : (bytes : List ℕ) → ends_open bytes ≡ false → pieces bytes ≡ chunks bytes
pieces-chunks [] h = absurd (false≢true (sym h))
pieces-chunks (b ∷ []) h = rw (chunks-other b [] h, h) refl
pieces-chunks (b ∷ c ∷ bytes) h =
    by_test (is_slash b)
    (λ e. rw (chunks-slash b (c ∷ bytes) e) (ap (λ t. cond t ([] ∷ pieces (c ∷ bytes)) (onto_first b (pieces (c ∷ bytes)))) e ∙ ap (λ parts. [] ∷ parts) (pieces-chunks (c ∷ bytes) h)))
    (λ e. rw (chunks-other b (c ∷ bytes) e) (ap (λ t. cond t ([] ∷ pieces (c ∷ bytes)) (onto_first b (pieces (c ∷ bytes)))) e ∙ ap (onto_first b) (pieces-chunks (c ∷ bytes) h)))

any-tail : (parts : List (List ℕ)) → list_any is_empty (drop 1 parts) ≡ true → list_any is_empty parts ≡ true
any-tail [] h = h
any-tail (part ∷ parts) h = by_test (is_empty part) (λ e. rw e refl) (λ e. rw e h)

tail-onto_first : (b : ℕ) (parts : List (List ℕ)) → list_any is_empty (drop 1 parts) ≡ true → list_any is_empty (drop 1 (onto_first b parts)) ≡ true
tail-onto_first b [] h = h
tail-onto_first b (part ∷ parts) h = h

open-empty : (b : ℕ) (bytes : List ℕ) → ends_open (b ∷ bytes) ≡ true → list_any is_empty (drop 1 (chunks (b ∷ bytes))) ≡ true
open-empty b [] h = rw (chunks-slash b [] h) refl
open-empty b (c ∷ bytes) h =
    by_test (is_slash b)
    (λ e. rw (chunks-slash b (c ∷ bytes) e) (any-tail (chunks (c ∷ bytes)) (open-empty c bytes h)))
    (λ e. rw (chunks-other b (c ∷ bytes) e) (tail-onto_first b (chunks (c ∷ bytes)) (open-empty c bytes h)))

good-some : (part : List ℕ) → is_good_chunk part ≡ true → is_empty part ≡ false
good-some [] h = absurd (false≢true h)
good-some (b ∷ part) h = refl

none-empty : (parts : List (List ℕ)) → list_all is_good_chunk parts ≡ true → list_any is_empty parts ≡ false
none-empty [] h = refl
none-empty (part ∷ parts) h =
    by_test (is_good_chunk part)
    (λ e. rw (good-some part e) (none-empty parts (rw e at h)))
    (λ e. absurd (false≢true (rw e at h)))

closed : (bytes : List ℕ) → (bytes ≡ [] → ⊥) → list_all is_good_chunk (chunks bytes) ≡ true → ends_open bytes ≡ false
closed [] some h = absurd (some refl)
closed (b ∷ bytes) some h =
    by_test (ends_open (b ∷ bytes))
    (λ e. absurd (false≢true (sym (none-empty (chunks (b ∷ bytes)) h) ∙ any-tail (chunks (b ∷ bytes)) (open-empty b bytes e))))
    (λ e. e)

pub walked-parts : (key : Expression) → walked key.bytes ≡ parts key.bytes
walked-parts key = ap (map part_of) (pieces-chunks key.bytes (closed key.bytes (prints_some key) (good_chunks key.bytes key.valid)))

pub texts-matching : (a b : Expression) (x y : List ℕ) → x ≡ a.bytes → y ≡ b.bytes → parts_match (walked x) (walked y) ≡ matching a b
unfolding matching
texts-matching a b x y e f = ap (λ t. parts_match (walked t) (walked y)) e ∙ ap (λ t. parts_match (walked a.bytes) (walked t)) f ∙ ap (λ t. parts_match t (walked b.bytes)) (walked-parts a) ∙ ap (parts_match (parts a.bytes)) (walked-parts b)

pub answer-member : (a b : Expression) (answer : Bool) → answer ≡ matching a b → IsTrue answer ↔ Intersect (chunks a.bytes) (chunks b.bytes)
answer-member a b answer e = let law = matching-intersect a b in (λ h. law.0 (sym e ∙ h), λ i. e ∙ law.1 i)

pub text-numbered : (key : Expression) (x : List ℕ) → x ≡ key.bytes → numbers_from None (walked x) ≡ numbered key
unfolding numbered
text-numbered key x e = ap (λ t. numbers_from None (walked t)) e ∙ ap (numbers_from None) (walked-parts key)
