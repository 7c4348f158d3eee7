-- The value of a key expression, as contracts see it.
use Rattle.std.specs.Prelude.{◌≡◌, ℕ, Bool, true, false, ◌&&◌, List, Result, Ok, Err, is_none, IsTrue, refl, unwrap_or}
use Rattle.std.specs.Str.{is_utf8}
use Rattle.std.specs.Coded.{Coded, coded_ℕ, coded_list}
use Rattle.std.proofs.Common.{ap, subst}
use base.Stored.{coded_via}
use Rattle.std.proofs.Math.Bool.{Bool-set}
use Rattle.zt_keys.specs.Chunks.{refusal}
use Rattle.zt_keys.specs.declared.error.KeyError.{KeyError}
use Rattle.zt_keys.specs.declared.error.KeyError.TheVariants.{Empty}

-- a text is a key expression: no rule is broken
unfoldable pub is_expression : List ℕ → Bool
is_expression text = is_utf8 text && is_none (refusal text)

-- a text that is a key expression
pub record Expression : Type 0 where
  pub bytes : List ℕ
  pub valid : IsTrue (is_expression bytes)

abbrev pub bytes_of : Expression → List ℕ
bytes_of key = key.bytes

abbrev pub make : (text : List ℕ) → IsTrue (is_expression text) → Expression
make text valid = record { bytes = text; valid = valid }

same_make : (s t : List ℕ) → s ≡ t → (u : IsTrue (is_expression s)) (v : IsTrue (is_expression t)) → make s u ≡ make t v
same_make s t e u =
    let P : List ℕ → Type 0 = λ r. (v : IsTrue (is_expression r)) → make s u ≡ make r v in
    subst P e (λ v. ap (make s) (Bool-set (is_expression s) true u v))

-- a key expression is its bytes
pub same_expression : (a b : Expression) → a.bytes ≡ b.bytes → a ≡ b
same_expression a b e = same_make a.bytes b.bytes e a.valid b.valid

abbrev pub expression_code : Coded Expression
expression_code = coded_via (coded_list coded_ℕ) (λ e. e.bytes) same_expression

abbrev pub expression_if : (text : List ℕ) (b : Bool) → is_expression text ≡ b → Result Expression KeyError
expression_if text true valid = Ok (make text valid)
expression_if text false invalid = Err (unwrap_or (refusal text) Empty)

-- the key expression that a text spells, or the first broken rule with its place. Bytes that are no UTF-8, which no text is, and break no rule, are read as `Empty`
unfoldable pub reading : List ℕ → Result Expression KeyError
reading text = expression_if text (is_expression text) refl
