-- What two texts begin with alike, in whole chunks.
use Rattle.std.proofs.Common.{◌≡◌, ℕ, ◌+◌, ◌<◌, Bool, true, false, List, [], ◌∷◌, ◌++◌, length, drop, get_or, refl, sym, ap, ◌∙◌, eqb, append_assoc, cond, None}
use Rattle.std.specs.List.{list_any, onto_first}
use Rattle.std.proofs.lemmas.Bool.{false≢true, eqb-true}
use Rattle.std.proofs.lemmas.List.{at_drop_more}
use Rattle.std.proofs.lemmas.List.Folds.{list_any-append}
use Rattle.zt_keys.specs.Test.{by_test}
use Rattle.zt_keys.specs.Chunks.{is_star}
use Rattle.zt_keys.specs.Parts.{part_of, is_many}
use Rattle.zt_keys.specs.Meet.{meets-itself}
use Rattle.zt_keys.specs.AnchorLaws.{starless-double}
use Rattle.zt_keys.specs.Walking.{pieces, walked, strip}
use Rattle.zt_keys.proofs.Passing.{strip-single}
use Rattle.zt_keys.proofs.Pieces.{is_many-part}

abbrev pub is_slash : ℕ → Bool
is_slash b = eqb b 47

-- the bytes of a chunk before a `/`
pieces-slash : (us rest : List ℕ) → list_any is_slash us ≡ false → pieces (us ++ 47 ∷ rest) ≡ us ∷ pieces rest
pieces-slash [] rest h = refl
pieces-slash (u ∷ us) rest h =
    by_test (is_slash u)
    (λ e. absurd (false≢true (sym (rw e at h))))
    (λ e. ap (λ t. cond t ([] ∷ pieces (us ++ 47 ∷ rest)) (onto_first u (pieces (us ++ 47 ∷ rest)))) e ∙ ap (onto_first u) (pieces-slash us rest (rw e at h)))

same-strip : (us xs ys : List ℕ) → list_any is_slash us ≡ false → list_any is_star us ≡ false
    → strip (walked (us ++ 47 ∷ xs)) (walked (us ++ 47 ∷ ys)) ≡ strip (walked xs) (walked ys)
same-strip us xs ys h s =
    let single : is_many (part_of us) ≡ false = is_many-part us ∙ starless-double us s in
    rw (pieces-slash us xs h, pieces-slash us ys h)
    (strip-single (part_of us) (part_of us) (walked xs) (walked ys) single single ∙ ap (λ b. cond b (strip (walked xs) (walked ys)) None) (meets-itself (part_of us) single))

-- from `end` on the texts go on with the same bytes of one chunk as far as `place`
pub record AreAlike (first second : List ℕ) (end place : ℕ) : Type 0 where
  pub chunk : List ℕ
  pub first_is : drop end first ≡ chunk ++ drop place first
  pub second_is : drop end second ≡ chunk ++ drop place second
  pub slashless : list_any is_slash chunk ≡ false
  pub starless : list_any is_star chunk ≡ false
  pub rest : strip (walked (drop end first)) (walked (drop end second)) ≡ strip (walked first) (walked second)

pub alike-start : (first second : List ℕ) → AreAlike first second 0 0
alike-start first second = record { chunk = []; first_is = refl; second_is = refl; slashless = refl; starless = refl; rest = refl }

none-more : (p : ℕ → Bool) (us : List ℕ) (b : ℕ) → list_any p us ≡ false → p b ≡ false → list_any p (us ++ b ∷ []) ≡ false
none-more p us b h e = list_any-append p us (b ∷ []) ∙ (rw (h, e) refl)

one-more : (text us : List ℕ) (end place : ℕ) → place < length text → drop end text ≡ us ++ drop place text → drop end text ≡ (us ++ get_or text place 0 ∷ []) ++ drop (place + 1) text
one-more text us end place l h = h ∙ at_drop_more (λ t. us ++ t) text place 0 l ∙ sym (append_assoc us (get_or text place 0 ∷ []) (drop (place + 1) text))

pub alike-more : (first second : List ℕ) (end place : ℕ) → place < length first → place < length second → get_or first place 0 ≡ get_or second place 0
    → is_slash (get_or first place 0) ≡ false → is_star (get_or first place 0) ≡ false → AreAlike first second end place → AreAlike first second end (place + 1)
alike-more first second end place l k same slash star a = record {
  chunk = a.chunk ++ get_or first place 0 ∷ [];
  first_is = one-more first a.chunk end place l a.first_is;
  second_is = rw same (one-more second a.chunk end place k a.second_is);
  slashless = none-more is_slash a.chunk (get_or first place 0) a.slashless slash;
  starless = none-more is_star a.chunk (get_or first place 0) a.starless star;
  rest = a.rest;
}

at-slash : (text us : List ℕ) (end place : ℕ) → place < length text → get_or text place 0 ≡ 47 → drop end text ≡ us ++ drop place text → drop end text ≡ us ++ 47 ∷ drop (place + 1) text
at-slash text us end place l e h = h ∙ at_drop_more (λ t. us ++ t) text place 0 l ∙ ap (λ b. us ++ b ∷ drop (place + 1) text) e

pub alike-slash : (first second : List ℕ) (end place : ℕ) → place < length first → place < length second → get_or first place 0 ≡ get_or second place 0
    → is_slash (get_or first place 0) ≡ true → AreAlike first second end place → AreAlike first second (place + 1) (place + 1)
alike-slash first second end place l k same slash a =
    let is : get_or first place 0 ≡ 47 = eqb-true _ _ slash in
    record {
      chunk = [];
      first_is = refl;
      second_is = refl;
      slashless = refl;
      starless = refl;
      rest =
          sym (same-strip a.chunk (drop (place + 1) first) (drop (place + 1) second) a.slashless a.starless)
          ∙ ap (λ t. strip (walked t) (walked (a.chunk ++ 47 ∷ drop (place + 1) second))) (sym (at-slash first a.chunk end place l is a.first_is))
          ∙ ap (λ t. strip (walked (drop end first)) (walked t)) (sym (at-slash second a.chunk end place k (sym same ∙ is) a.second_is))
          ∙ a.rest;
    }
