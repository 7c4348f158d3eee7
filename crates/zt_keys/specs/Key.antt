-- What holds of every type of keys.
use Rattle.std.specs.Prelude.{◌≡◌, ◌≢◌, ℕ, Bool, true, false, ◌||◌, List, [], Option, Some, Result, Ok, Err, ◌==◌, MatchResult, nat_eq}
use Rattle.std.specs.List.{All, list_any}
use Rattle.std.specs.Str.{IsUtf8}
use Rattle.std.specs.declared.cmp.Ordering.{Ordering}
use Rattle.std.specs.declared.cmp.Ordering.TheVariants.{Equal}
use Rattle.std.proofs.Common.{sym, ap, ◌∙◌, get_or}
use Rattle.std.proofs.lemmas.Bool.{false≢true, eqb-true}
use Rattle.zt_keys.specs.Test.{by_test}
use Rattle.zt_keys.specs.declared.anchor.Anchor.{Anchor}
use Rattle.zt_keys.specs.declared.anchor.Anchor.TheVariants.{Whole}
use Rattle.zt_keys.specs.declared.error.KeyError.{KeyError}
use Rattle.zt_keys.specs.declared.error.KeyError.TheVariants.{Memory}

-- a space, a tab, a line feed or a carriage return
abbrev pub is_blank : ℕ → Bool
is_blank b = b == 32 || b == 9 || b == 10 || b == 13

-- a call that reads a text gives this answer, unless memory runs out
abbrev pub Reads : {K : Type 0} → Result K KeyError → Result K KeyError → Type 0
Reads answer result = MatchResult result (λ key. answer ≡ Ok key) (λ error. error ≢ Memory → answer ≡ Err error)

-- the laws of keys: `cmp` is the order, `matching` says whether two keys match, `reading` what a text is read as, `printed` the bytes of a key's text, and `anchored` the number that a key has at an anchor
pub record KeyLaws {K : Type 0} (cmp : K → K → Ordering) (matching : K → K → Bool) (reading : List ℕ → Result K KeyError) (printed : K → List ℕ) (anchored : Anchor → K → Option ℕ) : Type 0 where
  -- keys that compare equal are the same value
  pub equal_is_same : (a b : K) → cmp a b ≡ Equal → a ≡ b
  pub reads_back : (key : K) → reading (printed key) ≡ Ok key
  -- want of memory is no answer to a text
  pub never_memory : (text : List ℕ) → reading text ≢ Err Memory
  pub prints_some : (key : K) → printed key ≢ []
  pub prints_no_blank : (key : K) → All (λ b. is_blank b ≡ false) (printed key)
  pub prints_utf8 : (key : K) → IsUtf8 (printed key)
  pub matches_itself : (key : K) → matching key key ≡ true
  pub matches_back : (a b : K) → matching a b ≡ matching b a
  -- keys that match have the same number at an anchor where both have one
  pub anchors_agree : (at : Anchor) (a b : K) (m n : ℕ) → matching a b ≡ true → anchored at a ≡ Some m → anchored at b ≡ Some n → m ≡ n
  -- keys that match and both have a number as a whole are the same value
  pub plain_is_same : (a b : K) (m n : ℕ) → matching a b ≡ true → anchored Whole a ≡ Some m → anchored Whole b ≡ Some n → a ≡ b

-- each number of a key is one of each key that it matches and that has a number as a whole
abbrev pub NumbersAgree : {K : Type 0} → (K → K → Bool) → (Anchor → K → Option ℕ) → (K → List ℕ) → Type 0
NumbersAgree {K} matching anchored numbered =
    (a b : K) (m n : ℕ) → matching a b ≡ true → anchored Whole b ≡ Some n → list_any (nat_eq m) (numbered a) ≡ true → list_any (nat_eq m) (numbered b) ≡ true

-- a key is read from its printed text alone. No law of keys: a type of keys may normalise what it reads
abbrev pub OneSpelling : {K : Type 0} → (List ℕ → Result K KeyError) → (K → List ℕ) → Type 0
OneSpelling {K} reading printed = (text : List ℕ) (key : K) → reading text ≡ Ok key → printed key ≡ text

-- a text without blanks has none of the byte `c`, which is one
pub no_byte : (c : ℕ) → is_blank c ≡ true → (bytes : List ℕ) → All (λ b. is_blank b ≡ false) bytes → All (λ b. (b == c) ≡ false) bytes
no_byte c blank bytes none k d l =
    by_test (get_or bytes k d == c) (λ e. absurd (false≢true (sym (none k d l) ∙ ap is_blank (eqb-true (get_or bytes k d) c e) ∙ blank))) (λ e. e)
