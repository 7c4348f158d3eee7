-- A line is read exactly where the grammar has it.
use Rattle.std.proofs.Common.{◌≡◌, ◌≢◌, ◌↔◌, inl, inr, ℕ, Bool, true, false, List, [], ◌∷◌, Some, None, Result, Ok, Err, refl, sym, ap, subst, ◌∙◌}
use Rattle.std.proofs.lemmas.Bool.{cond-true, cond-false}
use Rattle.std.proofs.lemmas.Str.{is_utf8-from_IsUtf8, IsUtf8-from_is_utf8}
use Rattle.std.specs.Prelude.{codes}
use Rattle.std.specs.Str.{is_utf8, IsUtf8}
use Rattle.zt_keys.specs.declared.error.KeyError.{KeyError}
use Rattle.zt_protocol.specs.declared.errors.LineError.{LineError}
use Rattle.zt_protocol.specs.declared.errors.LineError.TheVariants as errors
use Rattle.zt_protocol.specs.Plain.{PlainLine, Gateway, Session, Face, Link, Unlink, Step, Speak, Moment, SetTreesAt, PlainCall, NewSession, NewTransport, DeclareToken, UndeclareToken, Interest, InterestFinal, DeclareFinal, CloseFace, Expire, SetTrees, SetEntities}
use Rattle.zt_lines.specs.declared.words.Word.{Word}
use Rattle.zt_lines.specs.declared.words.Word.TheVariants as word
use Rattle.zt_lines.specs.Words.{spelled, word_of}
use Rattle.zt_fields.specs.Fields.{Fields, fields_of, settled}
use Rattle.zt_lines.specs.Reading.{kind_at, line_at, line_read}
use Rattle.zt_lines.specs.Grammar.{IsLine}
use Rattle.zt_fields.proofs.Exact.{chosen, row, no_row}
use Rattle.zt_lines.proofs.LineLaws.{gateway_sound, gateway_complete, session_sound, session_complete, face_sound, face_complete, link_sound, link_complete, unlink_sound, unlink_complete, step_sound, step_complete, moment_sound, moment_complete, declare_sound, declare_complete, undeclare_sound, undeclare_complete, interest_sound, interest_complete, interest_final_sound, interest_final_complete, declare_final_sound, declare_final_complete, close_sound, close_complete, trees_sound, trees_complete, entities_line_sound, entities_line_complete}

abbrev result_of : {A : Type 0} → A → Result A LineError
result_of x = Ok x

abbrev Spells : List ℕ → Word → Type 0
Spells text w = text ≡ spelled w

word_is : (text : List ℕ) (w : Word) → word_of text ≡ Some w → text ≡ spelled w
unfolding word_of
word_is text w =
    row (Spells text) text (codes "declare") word.Declare _ w (λ e. e)
    (row (Spells text) text (codes "undeclare") word.Undeclare _ w (λ e. e)
    (row (Spells text) text (codes "step") word.Step _ w (λ e. e)
    (row (Spells text) text (codes "interest") word.Interest _ w (λ e. e)
    (row (Spells text) text (codes "session") word.Session _ w (λ e. e)
    (row (Spells text) text (codes "close") word.Close _ w (λ e. e)
    (row (Spells text) text (codes "face") word.Face _ w (λ e. e)
    (row (Spells text) text (codes "link") word.Link _ w (λ e. e)
    (row (Spells text) text (codes "moment") word.Moment _ w (λ e. e)
    (row (Spells text) text (codes "interest-final") word.InterestFinal _ w (λ e. e)
    (row (Spells text) text (codes "declare-final") word.DeclareFinal _ w (λ e. e)
    (row (Spells text) text (codes "unlink") word.Unlink _ w (λ e. e)
    (row (Spells text) text (codes "gateway") word.Gateway _ w (λ e. e)
    (row (Spells text) text (codes "trees") word.Trees _ w (λ e. e)
    (row (Spells text) text (codes "entities") word.Entities _ w (λ e. e) (no_row (Spells text) w)))))))))))))))

kind_sound : {K : Type 0} (reading : List ℕ → Result K KeyError) (w : Word) (fields : Fields) (line : PlainLine K) → kind_at reading (Some w) fields ≡ Ok line → IsLine reading (spelled w ∷ fields) line
unfolding kind_at
kind_sound reading word.Gateway fields line h = gateway_sound reading fields line h
kind_sound reading word.Session fields line h = session_sound reading fields line h
kind_sound reading word.Face fields line h = face_sound reading fields line h
kind_sound reading word.Link fields line h = link_sound reading fields line h
kind_sound reading word.Unlink fields line h = unlink_sound reading fields line h
kind_sound reading word.Step fields line h = step_sound reading fields line h
kind_sound reading word.Declare fields line h = declare_sound reading fields line h
kind_sound reading word.Undeclare fields line h = undeclare_sound reading fields line h
kind_sound reading word.Interest fields line h = interest_sound reading fields line h
kind_sound reading word.InterestFinal fields line h = interest_final_sound reading fields line h
kind_sound reading word.DeclareFinal fields line h = declare_final_sound reading fields line h
kind_sound reading word.Close fields line h = close_sound reading fields line h
kind_sound reading word.Moment fields line h = moment_sound reading fields line h
kind_sound reading word.Trees fields line h = trees_sound reading fields line h
kind_sound reading word.Entities fields line h = entities_line_sound reading fields line h

line_sound : {K : Type 0} (reading : List ℕ → Result K KeyError) (fields : Fields) (line : PlainLine K) → line_at reading fields ≡ Ok line → IsLine reading fields line
unfolding line_at kind_at
line_sound reading [] line h = absurd cc
line_sound reading (first ∷ rest) line h =
    elim (word_of first) as (λ v. word_of first ≡ v → kind_at reading v rest ≡ Ok line → IsLine reading (first ∷ rest) line) [
      | None ↦ λ is g. absurd cc
      | Some w ↦ λ is g. subst (λ (t : List ℕ). IsLine reading (t ∷ rest) line) (sym (word_is first w is)) (kind_sound reading w rest line g)
    ] refl h

call_complete : {K : Type 0} (reading : List ℕ → Result K KeyError) (fields : Fields) (call : PlainCall K) → IsLine reading fields (Speak call) → line_at reading fields ≡ Ok (Speak call)
call_complete reading fields (NewSession first) h = absurd h
call_complete reading fields (NewTransport zid mode region bound first) h = absurd h
call_complete reading fields (DeclareToken face id expr node interest) h = declare_complete reading fields face id expr node interest h
call_complete reading fields (UndeclareToken face id expr node) h = undeclare_complete reading fields face id expr node h
call_complete reading fields (Interest face id mode options expr) h = interest_complete reading fields face id mode options expr h
call_complete reading fields (InterestFinal face id) h = interest_final_complete reading fields face id h
call_complete reading fields (DeclareFinal face interest) h = declare_final_complete reading fields face interest h
call_complete reading fields (CloseFace face) h = close_complete reading fields face h
call_complete reading fields (Expire now) h = absurd h
call_complete reading fields (SetTrees region table) h = absurd h
call_complete reading fields (SetEntities face subscribers queryables) h = entities_line_complete reading fields face subscribers queryables h

line_complete : {K : Type 0} (reading : List ℕ → Result K KeyError) (fields : Fields) (line : PlainLine K) → IsLine reading fields line → line_at reading fields ≡ Ok line
line_complete reading fields (Gateway mode zid regions south name timeout refused) h = gateway_complete reading fields mode zid regions south name timeout refused h
line_complete reading fields (Session gateway first) h = session_complete reading fields gateway first h
line_complete reading fields (Face gateway mode zid region bound first) h = face_complete reading fields gateway mode zid region bound first h
line_complete reading fields (Link one two first back) h = link_complete reading fields one two first back h
line_complete reading fields (Unlink link) h = unlink_complete reading fields link h
line_complete reading fields (Step link back) h = step_complete reading fields link back h
line_complete reading fields (Speak call) h = call_complete reading fields call h
line_complete reading fields (Moment gateway now) h = moment_complete reading fields gateway now h
line_complete reading fields (SetTreesAt gateway region table) h = trees_complete reading fields gateway region table h

-- ---- the bytes of a line

settled_ok : {A : Type 0} (r : Result A LineError) (x : A) → settled r ≡ Ok x → r ≡ Ok x
settled_ok (Ok y) x h = h
settled_ok (Err e) x h = absurd cc

read_sound : {K : Type 0} (reading : List ℕ → Result K KeyError) (bytes : List ℕ) (line : PlainLine K) → line_read reading bytes ≡ Ok line → IsUtf8 bytes × IsLine reading (fields_of bytes) line
unfolding line_read
read_sound reading bytes line h =
    elim (chosen (is_utf8 bytes) (settled (line_at reading (fields_of bytes))) (Err errors.NotUtf8) (Ok line) h) [
      | inl g ↦ (IsUtf8-from_is_utf8 bytes g.0, line_sound reading (fields_of bytes) line (settled_ok (line_at reading (fields_of bytes)) line g.1))
      | inr g ↦ absurd cc
    ]

read_complete : {K : Type 0} (reading : List ℕ → Result K KeyError) (bytes : List ℕ) (line : PlainLine K) → IsUtf8 bytes × IsLine reading (fields_of bytes) line → line_read reading bytes ≡ Ok line
unfolding line_read
read_complete reading bytes line h = cond-true _ _ _ (is_utf8-from_IsUtf8 bytes h.0) ∙ ap settled (line_complete reading (fields_of bytes) line h.1)

pub read_exactly : {K : Type 0} (reading : List ℕ → Result K KeyError) (bytes : List ℕ) (line : PlainLine K) → (line_read reading bytes ≡ Ok line) ↔ (IsUtf8 bytes × IsLine reading (fields_of bytes) line)
read_exactly reading bytes line = (read_sound reading bytes line, read_complete reading bytes line)

is_false : (b : Bool) → (b ≡ true → ⊥) → b ≡ false
is_false true h = absurd (h refl)
is_false false h = refl

pub not_utf8_exactly : {K : Type 0} (reading : List ℕ → Result K KeyError) (bytes : List ℕ) → (line_read reading bytes ≡ Err errors.NotUtf8) ↔ (IsUtf8 bytes → ⊥)
unfolding line_read
not_utf8_exactly reading bytes = (
  λ h utf8. no_text (line_at reading (fields_of bytes)) (sym (cond-true _ _ _ (is_utf8-from_IsUtf8 bytes utf8)) ∙ h),
  λ h. cond-false _ _ _ (is_false (is_utf8 bytes) (λ e. h (IsUtf8-from_is_utf8 bytes e))),
)
  where
    no_text : {A : Type 0} (r : Result A LineError) → settled r ≡ Err errors.NotUtf8 → ⊥
    no_text (Ok x) h = absurd cc
    no_text (Err e) h = absurd cc

pub not_in_grammar_exactly : {K : Type 0} (reading : List ℕ → Result K KeyError) (bytes : List ℕ)
    → (line_read reading bytes ≡ Err errors.NotInGrammar) ↔ (IsUtf8 bytes × ((line : PlainLine K) → IsLine reading (fields_of bytes) line → ⊥))
unfolding line_read
not_in_grammar_exactly {K} reading bytes = (bad reading bytes, λ h. cond-true _ _ _ (is_utf8-from_IsUtf8 bytes h.0) ∙ none reading (fields_of bytes) (line_at reading (fields_of bytes)) refl h.1)
  where
    other : {A : Type 0} (x : A) → Err errors.NotInGrammar ≡ result_of x → ⊥
    other x h = cc

    bad : {K : Type 0} (reading : List ℕ → Result K KeyError) (bytes : List ℕ) → line_read reading bytes ≡ Err errors.NotInGrammar → IsUtf8 bytes × ((line : PlainLine K) → IsLine reading (fields_of bytes) line → ⊥)
    bad reading bytes h =
        elim (chosen (is_utf8 bytes) (settled (line_at reading (fields_of bytes))) (Err errors.NotUtf8) (Err errors.NotInGrammar) h) [
          | inl g ↦ (IsUtf8-from_is_utf8 bytes g.0, λ line is. other line (sym h ∙ read_complete reading bytes line (IsUtf8-from_is_utf8 bytes g.0, is)))
          | inr g ↦ absurd cc
        ]

    none : {K : Type 0} (reading : List ℕ → Result K KeyError) (fields : Fields) (r : Result (PlainLine K) LineError) → line_at reading fields ≡ r → ((line : PlainLine K) → IsLine reading fields line → ⊥) → settled r ≡ Err errors.NotInGrammar
    none reading fields (Ok line) is h = absurd (h line (line_sound reading fields line is))
    none reading fields (Err e) is h = refl

pub never_memory : {K : Type 0} (reading : List ℕ → Result K KeyError) (bytes : List ℕ) → line_read reading bytes ≢ Err errors.Memory
unfolding line_read
never_memory reading bytes h =
    elim (chosen (is_utf8 bytes) (settled (line_at reading (fields_of bytes))) (Err errors.NotUtf8) (Err errors.Memory) h) [
      | inl g ↦ no_memory (line_at reading (fields_of bytes)) g.1
      | inr g ↦ absurd cc
    ]
  where
    no_memory : {A : Type 0} (r : Result A LineError) → settled r ≡ Err errors.Memory → ⊥
    no_memory (Ok x) h = absurd cc
    no_memory (Err e) h = absurd cc
