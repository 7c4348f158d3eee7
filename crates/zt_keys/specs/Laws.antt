-- The laws of keys, for key expressions.
use Rattle.std.specs.Prelude.{◌≡◌, ◌≢◌, ℕ, ◌+◌, Bool, true, false, List, [], ◌∷◌, length, Option, Some, None, Ok, Err, refl, is_none, unwrap_or, IsTrue}
use Rattle.std.specs.Ordering.{nat_cmp, is_eq}
use Rattle.std.specs.declared.cmp.Ordering.TheVariants.{Equal}
use Rattle.std.specs.Cmp.Lexicographic.{slice_cmp, same_text, texts_ties}
use Rattle.std.specs.List.{All, list_all, list_any}
use Rattle.std.specs.Str.{IsUtf8, is_utf8}
use Rattle.std.proofs.Common.{ap, sym, ◌∙◌, arith, get_or, ◌<◌}
use Rattle.std.proofs.lemmas.Bool.Decides.{nat_tests}
use Rattle.std.proofs.lemmas.List.Recursion.{or_at}
use Rattle.std.proofs.lemmas.Bool.{false≢true}
use Rattle.std.proofs.lemmas.Str.{IsUtf8-from_is_utf8, is_utf8-from_IsUtf8}
use Rattle.zt_keys.specs.Chunks.{refusal, chunks, bad_or, first_bad, first_loose, is_good_chunk, is_forbidden, is_empty}
use Rattle.zt_keys.specs.Expression.{Expression, bytes_of, make, is_expression, expression_if, reading, same_expression}
use Rattle.zt_keys.specs.Matching.{matching, parts}
use Rattle.zt_keys.specs.Test.{by_test}
use Rattle.zt_keys.specs.Meet.{parts_match-sym, parts_match-itself}
use Rattle.zt_keys.specs.Key.{KeyLaws, OneSpelling, is_blank}
use Rattle.zt_keys.specs.Anchors.{anchored}
use Rattle.zt_keys.specs.AnchorLaws.{any-chunks, anchors_agree, plain_is_same}
use Rattle.zt_keys.specs.declared.error.KeyError.{KeyError}
use Rattle.zt_keys.specs.declared.error.KeyError.TheVariants.{Empty, Memory}

pub equal_is_same : (a b : Expression) → slice_cmp nat_cmp a.bytes b.bytes ≡ Equal → a ≡ b
equal_is_same a b e = same_expression a b (same_text a.bytes b.bytes (sym (texts_ties a.bytes b.bytes ∙ ap is_eq e)))

reading-if : (text : List ℕ) (b : Bool) (h : is_expression text ≡ b) (e : b ≡ true) → (key : Expression) → key.bytes ≡ text → expression_if text b h ≡ Ok key
reading-if text true h e key k = ap Ok (same_expression _ _ (sym k))
reading-if text false h e key k = cc

pub reads_back : (key : Expression) → reading key.bytes ≡ Ok key
unfolding reading
reads_back key = reading-if key.bytes (is_expression key.bytes) refl key.valid key refl

-- a text that is a key expression is read as it
pub reading_gives : (text : List ℕ) (key : Expression) → IsTrue (is_expression text) → key.bytes ≡ text → reading text ≡ Ok key
unfolding reading
reading_gives text key h e = reading-if text (is_expression text) refl h key e

-- no rule is broken
pub valid_from : (text : List ℕ) → IsUtf8 text → refusal text ≡ None → IsTrue (is_expression text)
unfolding is_expression
valid_from text u e = rw (is_utf8-from_IsUtf8 text u, e) refl

refuses-if : (text : List ℕ) (b : Bool) (h : is_expression text ≡ b) (error : KeyError) → refusal text ≡ Some error → b ≡ false → expression_if text b h ≡ Err error
refuses-if text true h error e f = cc
refuses-if text false h error e f = rw e refl

refused-invalid : (text : List ℕ) (error : KeyError) → refusal text ≡ Some error → is_expression text ≡ false
unfolding is_expression
refused-invalid text error e = rw e (by_test (is_utf8 text) (λ u. rw u refl) (λ u. rw u refl))

-- a text that breaks a rule is refused by it
pub reading_refuses : (text : List ℕ) (error : KeyError) → refusal text ≡ Some error → reading text ≡ Err error
unfolding reading
reading_refuses text error e = refuses-if text (is_expression text) refl error e (refused-invalid text error e)

spelling-if : (text : List ℕ) (b : Bool) (h : is_expression text ≡ b) (key : Expression) → expression_if text b h ≡ Ok key → key.bytes ≡ text
spelling-if text true h key e = let same : make text h ≡ key = cc in sym (ap bytes_of same)
spelling-if text false h key e = cc

pub one_spelling : OneSpelling reading (λ key. key.bytes)
unfolding reading
one_spelling text key e = spelling-if text (is_expression text) refl key e

bad_or-memory : (bad loose : Option ℕ) → unwrap_or (bad_or bad loose) Empty ≢ Memory
bad_or-memory (Some place) loose e = cc
bad_or-memory None (Some place) e = cc
bad_or-memory None None e = cc

refusal-memory : (text : List ℕ) → unwrap_or (refusal text) Empty ≢ Memory
unfolding refusal
refusal-memory [] e = cc
refusal-memory (b ∷ text) e = bad_or-memory (first_bad 0 (chunks (b ∷ text))) (first_loose 0 (chunks (b ∷ text))) e

never_memory-if : (text : List ℕ) (b : Bool) (h : is_expression text ≡ b) → expression_if text b h ≢ Err Memory
never_memory-if text true h e = cc
never_memory-if text false h e = refusal-memory text cc

pub never_memory : (text : List ℕ) → reading text ≢ Err Memory
unfolding reading
never_memory text = never_memory-if text (is_expression text) refl

-- the two parts of validity
pub valid_utf8 : (text : List ℕ) → IsTrue (is_expression text) → is_utf8 text ≡ true
unfolding is_expression
valid_utf8 text h = by_test (is_utf8 text) (λ e. e) (λ e. absurd (false≢true (rw e at h)))

is_none-true : {A : Type 0} (o : Option A) → is_none o ≡ true → o ≡ None
is_none-true None h = refl
is_none-true (Some x) h = cc

pub valid_refusal : (text : List ℕ) → IsTrue (is_expression text) → refusal text ≡ None
unfolding is_expression
valid_refusal text h = by_test (is_utf8 text) (λ e. is_none-true (refusal text) (rw e at h)) (λ e. absurd (false≢true (rw e at h)))

pub prints_utf8 : (key : Expression) → IsUtf8 key.bytes
prints_utf8 key = IsUtf8-from_is_utf8 key.bytes (valid_utf8 key.bytes key.valid)

refusal-nothing : refusal [] ≡ Some Empty
unfolding refusal
refusal-nothing = refl

pub prints_some : (key : Expression) → key.bytes ≢ []
prints_some key e = let h = valid_refusal key.bytes key.valid in let f : refusal [] ≡ None = rw e at h in cc (refusal-nothing)

-- the chunks of a key expression are good
good-first_bad : (place : ℕ) (parts : List (List ℕ)) → first_bad place parts ≡ None → list_all is_good_chunk parts ≡ true
unfolding first_bad
good-first_bad place [] h = refl
good-first_bad place (part ∷ parts) h =
    by_test (is_good_chunk part)
    (λ e. rw e (good-first_bad (place + length part + 1) parts (rw e at h)))
    (λ e. let f : Some place ≡ None = rw e at h in cc)

bad_or-none : (bad loose : Option ℕ) → bad_or bad loose ≡ None → bad ≡ None
bad_or-none None loose h = refl
bad_or-none (Some place) loose h = cc

good-refusal : (text : List ℕ) → refusal text ≡ None → list_all is_good_chunk (chunks text) ≡ true
unfolding refusal
good-refusal [] h = cc
good-refusal (b ∷ text) h = good-first_bad 0 (chunks (b ∷ text)) (bad_or-none (first_bad 0 (chunks (b ∷ text))) (first_loose 0 (chunks (b ∷ text))) h)

pub good_chunks : (text : List ℕ) → IsTrue (is_expression text) → list_all is_good_chunk (chunks text) ≡ true
good_chunks text h = good-refusal text (valid_refusal text h)

good-chunk : (part : List ℕ) → is_good_chunk part ≡ true → list_any is_forbidden part ≡ false
good-chunk part h =
    by_test (list_any is_forbidden part)
    (λ e. absurd (false≢true (by_test (is_empty part) (λ f. simp (e, f) at h) (λ f. simp (e, f) at h))))
    (λ e. e)

good-no_forbidden : (parts : List (List ℕ)) → list_all is_good_chunk parts ≡ true → list_any (list_any is_forbidden) parts ≡ false
good-no_forbidden [] h = refl
good-no_forbidden (part ∷ parts) h =
    by_test (is_good_chunk part)
    (λ e. rw (good-chunk part e) (good-no_forbidden parts (rw e at h)))
    (λ e. absurd (false≢true (rw e at h)))

forbidden_slash : is_forbidden 47 ≡ false
unfolding is_forbidden
forbidden_slash = refl

blank-forbidden : (b : ℕ) → is_forbidden b ≡ false → is_blank b ≡ false
unfolding is_forbidden
blank-forbidden b h = grind (arith, nat_tests)

none-at : (p : ℕ → Bool) (xs : List ℕ) (k d : ℕ) → list_any p xs ≡ false → k < length xs → p (get_or xs k d) ≡ false
none-at p xs k d h l =
    by_test (p (get_or xs k d)) (λ e. absurd (false≢true (sym h ∙ or_at (list_any p) p refl (λ _ _. refl) xs k d l e))) (λ e. e)

pub prints_no_blank : (key : Expression) → All (λ b. is_blank b ≡ false) key.bytes
prints_no_blank key k d h =
    let none_forbidden : list_any is_forbidden key.bytes ≡ false = sym (any-chunks is_forbidden forbidden_slash key.bytes) ∙ good-no_forbidden (chunks key.bytes) (good_chunks key.bytes key.valid) in
    blank-forbidden (get_or key.bytes k d) (none-at is_forbidden key.bytes k d none_forbidden h)

pub matches_itself : (key : Expression) → matching key key ≡ true
unfolding matching
matches_itself key = parts_match-itself (parts key.bytes)

pub matches_back : (a b : Expression) → matching a b ≡ matching b a
unfolding matching
matches_back a b = parts_match-sym (parts a.bytes) (parts b.bytes)

pub expression_laws : KeyLaws (λ a b. slice_cmp nat_cmp a.bytes b.bytes) matching reading (λ key. key.bytes) anchored
expression_laws = record {
  equal_is_same = equal_is_same;
  reads_back = reads_back;
  never_memory = never_memory;
  prints_some = prints_some;
  prints_no_blank = prints_no_blank;
  prints_utf8 = prints_utf8;
  matches_itself = matches_itself;
  matches_back = matches_back;
  anchors_agree = anchors_agree;
  plain_is_same = plain_is_same;
}
