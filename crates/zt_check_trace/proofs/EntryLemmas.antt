-- Lemmas on an entry at the front of a claimed transcript.
use Rattle.std.proofs.Common.{◌≡◌, ◌≢◌, ℕ, ◌<◌, ◌^◌, true, false, List, [], ◌∷◌, ◌++◌, get_or, Some, None, Result, Ok, Err, refl, sym, ap, subst, ◌∙◌, append_assoc, arith}
use Rattle.std.proofs.lemmas.Bool.{false≢true}
use Rattle.std.proofs.lemmas.List.{append-nil, append_cancel_left}
use Rattle.std.specs.Prelude.{Bool, codes, decimal, IfOk, IsUtf8, Option}
use Rattle.std.specs.List.{AllByRecursion, flat_map, list_any}
use Rattle.std.specs.Option.{option_map}
use Rattle.std.specs.declared.cmp.Ordering.{Ordering}
use Rattle.zt_protocol.specs.Plain.{PlainEntry}
use Rattle.zt_protocol.specs.Refusal.{name_of}
use Rattle.zt_protocol.specs.declared.entries.Sent.{Sent}
use Rattle.zt_protocol.specs.declared.errors.Refusal.{Refusal}
use Rattle.zt_protocol.specs.declared.errors.Refusal.TheVariants.{UnknownGateway, UnknownLink, EmptyLink, UnknownFace, LinkedFace, NoSuchRegion, RegionConflict, NorthTaken, WouldLoop, AnswerFromSouth, FinalFromSouth, InterestFromRouter, InterestFromNorth, IllegalCurrent, InterestIdInUse, UnknownInterest, UnknownAsk, UnknownRouter, TokenIdZero, TokenIdInUse, UnknownToken, MomentBack, DictionaryFull, IdsSpent, NumbersSpent}
use Rattle.zt_streams.specs.Lines.{HasNoFeed, is_feed}
use Rattle.zt_fields.specs.Fields.{behind, is_byte}
use Rattle.zt_fields.proofs.FieldLemmas.{behind_of, behind_is}
use Rattle.zt_keys.specs.Key.{KeyLaws}
use Rattle.zt_keys.specs.declared.anchor.Anchor.{Anchor}
use Rattle.zt_keys.specs.declared.error.KeyError.{KeyError}
use Rattle.zt_text.specs.Text.{entries_text, entry_text, sent_text, spaced}
use Rattle.zt_text.proofs.TranscriptLaws.{fronts_apart}
use Rattle.zt_text.proofs.Clean.{clean_decimal, clean_plain, feedless_line, first_lines, is_plain, text_of_line}
use Rattle.zt_model.specs.Transcript.{StandInOrderOfFace}
use Rattle.zt_check_trace.specs.Names.{FindsRefusal}
use Rattle.zt_check_trace.specs.Parts.{FindsLine, begins_with_mark}
use Rattle.zt_check_trace.specs.Entries.{BeginsWithEntry, BeginsWithMessages, FindsAccepted, FindsEntry, FindsHead, FindsRefused, head_text}
use Rattle.zt_check_trace.proofs.MessageLemmas.{feedless, has_feed, named, same_messages}

abbrev Head : Type 0
Head = Result (Unit {0}) Refusal

-- ---- first lines

plain_name : (r : Refusal) → is_plain (name_of r) ≡ true
plain_name UnknownGateway = refl
plain_name UnknownLink = refl
plain_name EmptyLink = refl
plain_name UnknownFace = refl
plain_name LinkedFace = refl
plain_name NoSuchRegion = refl
plain_name RegionConflict = refl
plain_name NorthTaken = refl
plain_name WouldLoop = refl
plain_name AnswerFromSouth = refl
plain_name FinalFromSouth = refl
plain_name InterestFromRouter = refl
plain_name InterestFromNorth = refl
plain_name IllegalCurrent = refl
plain_name InterestIdInUse = refl
plain_name UnknownInterest = refl
plain_name UnknownAsk = refl
plain_name UnknownRouter = refl
plain_name TokenIdZero = refl
plain_name TokenIdInUse = refl
plain_name UnknownToken = refl
plain_name MomentBack = refl
plain_name DictionaryFull = refl
plain_name IdsSpent = refl
plain_name NumbersSpent = refl

head_utf8 : (number : ℕ) → number < 2 ^ 64 → (head : Head) → IsUtf8 (head_text number head)
head_utf8 number small (Ok accepted) = text_of_line (decimal number) (codes "ok" ∷ []) (clean_decimal number small) (clean_plain (codes "ok") refl, tt)
head_utf8 number small (Err r) = text_of_line (decimal number) (codes "refused" ∷ name_of r ∷ []) (clean_decimal number small) (clean_plain (codes "refused") refl, (clean_plain (name_of r) (plain_name r), tt))

head_feedless : (number : ℕ) → number < 2 ^ 64 → (head : Head) → AllByRecursion (λ b. is_byte 10 b ≡ false) (head_text number head)
head_feedless number small (Ok accepted) = feedless_line (decimal number) (codes "ok" ∷ []) (clean_decimal number small) (clean_plain (codes "ok") refl, tt)
head_feedless number small (Err r) = feedless_line (decimal number) (codes "refused" ∷ name_of r ∷ []) (clean_decimal number small) (clean_plain (codes "refused") refl, (clean_plain (name_of r) (plain_name r), tt))

pub not_text : (number : ℕ) → number < 2 ^ 64 → (line : List ℕ) → (IsUtf8 line → ⊥) → FindsHead number line None
not_text number small line h head is = h (subst IsUtf8 (sym is) (head_utf8 number small head))

some_outcome : (number : ℕ) (line : List ℕ) (head : Head) → line ≡ head_text number head → (outcome : List ℕ) × (behind (decimal number) line ≡ Some outcome) × (line ≡ decimal number ++ outcome)
some_outcome number line (Ok accepted) is = (spaced (codes "ok" ∷ []), ap (behind (decimal number)) is ∙ behind_of (decimal number) _, is)
some_outcome number line (Err r) is = (spaced (codes "refused" ∷ name_of r ∷ []), ap (behind (decimal number)) is ∙ behind_of (decimal number) _, is)

none≢some : {A : Type 0} (x : A) → None ≢ Some x
none≢some x e = absurd cc

-- what a search said of a text and a word as they were shown
pub behind_shown : (word shown line text : List ℕ) (found : Option (List ℕ)) → found ≡ behind shown text → shown ≡ word → text ≡ line → behind word line ≡ found
behind_shown word shown line text found h w l = sym (h ∙ (ap (λ (t : List ℕ). behind t text) w ∙ ap (behind word) l))

pub no_number : (number : ℕ) (line : List ℕ) → behind (decimal number) line ≡ None → FindsHead number line None
no_number number line h head is = none≢some _ (sym h ∙ (some_outcome number line head is).1)

refused_is : (r : Refusal) → spaced (codes "refused" ∷ name_of r ∷ []) ≡ codes " refused " ++ name_of r
refused_is r = ap (λ (t : List ℕ). codes " refused " ++ t) (append-nil (name_of r))

pub no_outcome : (number : ℕ) (line outcome : List ℕ) → behind (decimal number) line ≡ Some outcome → outcome ≢ codes " ok" → behind (codes " refused ") outcome ≡ None → FindsHead number line None
no_outcome number line outcome is other none (Ok accepted) h = other (append_cancel_left (decimal number) outcome (codes " ok") (sym (behind_is (decimal number) line outcome is) ∙ h))
no_outcome number line outcome is other none (Err r) h =
    let same = append_cancel_left (decimal number) outcome (codes " refused " ++ name_of r) (sym (behind_is (decimal number) line outcome is) ∙ (h ∙ ap (λ (t : List ℕ). decimal number ++ t) (refused_is r))) in
    none≢some _ (sym none ∙ (ap (behind (codes " refused ")) same ∙ behind_of (codes " refused ") (name_of r)))

pub no_name : (number : ℕ) (line outcome name : List ℕ) → behind (decimal number) line ≡ Some outcome → outcome ≢ codes " ok" → behind (codes " refused ") outcome ≡ Some name → FindsRefusal name None
    → FindsHead number line None
no_name number line outcome name is other found none (Ok accepted) h = other (append_cancel_left (decimal number) outcome (codes " ok") (sym (behind_is (decimal number) line outcome is) ∙ h))
no_name number line outcome name is other found none (Err r) h =
    let same = append_cancel_left (decimal number) outcome (codes " refused " ++ name_of r) (sym (behind_is (decimal number) line outcome is) ∙ (h ∙ ap (λ (t : List ℕ). decimal number ++ t) (refused_is r))) in
    none r (append_cancel_left (codes " refused ") name (name_of r) (sym (behind_is (codes " refused ") outcome name found) ∙ same))

pub head_accepted : (number : ℕ) (line outcome : List ℕ) (accepted : Unit {0}) → behind (decimal number) line ≡ Some outcome → outcome ≡ codes " ok" → line ≡ head_text number (Ok accepted)
head_accepted number line outcome accepted is ok = behind_is (decimal number) line outcome is ∙ ap (λ (t : List ℕ). decimal number ++ t) ok

pub head_refused : (number : ℕ) (line outcome name : List ℕ) (r : Refusal) → behind (decimal number) line ≡ Some outcome → behind (codes " refused ") outcome ≡ Some name → name ≡ name_of r → line ≡ head_text number (Err r)
head_refused number line outcome name r is found named =
    behind_is (decimal number) line outcome is
    ∙ ap (λ (t : List ℕ). decimal number ++ t) (behind_is (codes " refused ") outcome name found ∙ (ap (λ (t : List ℕ). codes " refused " ++ t) named ∙ sym (refused_is r)))

-- ---- an entry's first line, and what is behind it

not_both : (a b : List ℕ) → 32 ∷ 111 ∷ a ≡ 32 ∷ 114 ∷ b → ⊥
not_both a b h = omega (arith, ap (λ (t : List ℕ). get_or t 1 0) h)

accepted_and_refused : (number : ℕ) (accepted : Unit {0}) (r : Refusal) → head_text number (Ok accepted) ≢ head_text number (Err r)
accepted_and_refused number accepted r h = not_both _ _ (append_cancel_left (decimal number) (spaced (codes "ok" ∷ [])) (spaced (codes "refused" ∷ name_of r ∷ [])) h)

module _ {K : Type 0} (printed : K → List ℕ) where
  abbrev head : PlainEntry K → Head
  head (Ok sents) = Ok tt
  head (Err r) = Err r

  abbrev body : PlainEntry K → List ℕ
  body (Ok sents) = flat_map (sent_text printed) sents
  body (Err r) = []

  line_split : (first fields more : List ℕ) → (first ++ (fields ++ 10 ∷ [])) ++ more ≡ (first ++ fields) ++ 10 ∷ more
  line_split first fields more =
      append_assoc first (fields ++ 10 ∷ []) more
      ∙ (ap (λ (t : List ℕ). first ++ t) (append_assoc fields (10 ∷ []) more)
      ∙ sym (append_assoc first fields (10 ∷ more)))

  entry_parts : (number : ℕ) (entry : PlainEntry K) (rest : List ℕ) → entry_text printed number entry ++ rest ≡ head_text number (head entry) ++ 10 ∷ (body entry ++ rest)
  entry_parts number (Ok sents) rest =
      append_assoc (decimal number ++ (spaced (codes "ok" ∷ []) ++ 10 ∷ [])) (flat_map (sent_text printed) sents) rest
      ∙ line_split (decimal number) (spaced (codes "ok" ∷ [])) (flat_map (sent_text printed) sents ++ rest)
  entry_parts number (Err r) rest = line_split (decimal number) (spaced (codes "refused" ∷ name_of r ∷ [])) rest

  -- what an entry at the front of a text has as its first line, and behind it
  record HasParts (number : ℕ) (line more : List ℕ) (entry : PlainEntry K) (rest : List ℕ) : Type 0 where
    line_is : line ≡ head_text number (head entry)
    more_is : more ≡ body entry ++ rest

  has_parts : (number : ℕ) → number < 2 ^ 64 → (text line more : List ℕ) → FindsLine text (Some (line, more)) → (entry : PlainEntry K) (rest : List ℕ) → BeginsWithEntry printed number text entry rest
      → HasParts number line more entry rest
  has_parts number small text line more found entry rest begins =
      let same = first_lines line (head_text number (head entry)) more (body entry ++ rest) (feedless line found.0) (head_feedless number small (head entry))
      (sym found.1 ∙ (begins.stands ∙ entry_parts number entry rest)) in
      record { line_is = same.0; more_is = same.1 }

  pub no_line : (number : ℕ) (text : List ℕ) → HasNoFeed text → FindsEntry printed number text None
  no_line number text none entry rest begins =
      false≢true (sym none ∙ (ap (list_any is_feed) (begins.stands ∙ entry_parts number entry rest) ∙ has_feed (head_text number (head entry)) (body entry ++ rest)))

  pub no_head : (number : ℕ) → number < 2 ^ 64 → (text line more : List ℕ) → FindsLine text (Some (line, more)) → FindsHead number line None → FindsEntry printed number text None
  no_head number small text line more found none entry rest begins = none (head entry) (has_parts number small text line more found entry rest begins).line_is

  -- ---- an accepted line's

  accepted_some : (number : ℕ) (text line more : List ℕ) (accepted : Unit {0}) → FindsLine text (Some (line, more)) → line ≡ head_text number (Ok accepted)
      → (entry : PlainEntry K) (rest : List ℕ) (sents : List (Sent K)) → entry ≡ Ok sents → BeginsWithMessages printed more sents rest → StandInOrderOfFace sents → BeginsWithEntry printed number text entry rest
  accepted_some number text line more accepted found is entry rest sents same begins order =
      subst (λ (e : PlainEntry K). BeginsWithEntry printed number text e rest) (sym same)
      (record {
        is_entry = record { in_order = order; named_options = named sents begins.are_sent };
        is_printed = begins.are_sent;
        stands =
            found.1
            ∙ (ap (λ (t : List ℕ). t ++ 10 ∷ more) is
            ∙ (ap (λ (t : List ℕ). head_text number (Ok accepted) ++ 10 ∷ t) begins.stand
            ∙ sym (entry_parts number (Ok sents) rest)));
        is_all = begins.are_all;
      })

  accepted_none : (number : ℕ) → number < 2 ^ 64 → (text line more : List ℕ) (accepted : Unit {0}) → FindsLine text (Some (line, more)) → line ≡ head_text number (Ok accepted)
      → FindsAccepted printed more None → FindsEntry printed number text None
  accepted_none number small text line more accepted found is none (Ok sents) rest begins =
      let parts = has_parts number small text line more found (Ok sents) rest begins in
      none sents rest (record { are_sent = begins.is_printed; stand = parts.more_is; are_all = begins.is_all }) begins.is_entry.in_order
  accepted_none number small text line more accepted found is none (Err r) rest begins =
      let parts = has_parts number small text line more found (Err r) rest begins in
      accepted_and_refused number accepted r (sym is ∙ parts.line_is)

  pub accepted_entry : (number : ℕ) → number < 2 ^ 64 → (text line more : List ℕ) (accepted : Unit {0}) → FindsLine text (Some (line, more)) → line ≡ head_text number (Ok accepted)
      → (entry : Option (PlainEntry K × List ℕ)) → FindsAccepted printed more entry → FindsEntry printed number text entry
  accepted_entry number small text line more accepted found is None h = accepted_none number small text line more accepted found is h
  accepted_entry number small text line more accepted found is (Some e) h = accepted_some number text line more accepted found is e.0 e.1 h.0 h.1 h.2 h.3

  pub accepted_result : (number : ℕ) → number < 2 ^ 64 → (text line more : List ℕ) (accepted : Unit {0}) → FindsLine text (Some (line, more)) → line ≡ head_text number (Ok accepted)
      → {X E : Type 0} (view : X → PlainEntry K × List ℕ) (result : Result (Option X) E) → IfOk result (λ x. FindsAccepted printed more (option_map view x)) → IfOk result (λ x. FindsEntry printed number text (option_map view x))
  accepted_result number small text line more accepted found is view (Ok x) h = accepted_entry number small text line more accepted found is (option_map view x) h
  accepted_result number small text line more accepted found is view (Err e) h = tt

  -- ---- a refused line's

  refused_none : (number : ℕ) → number < 2 ^ 64 → (text line more : List ℕ) (r : Refusal) → FindsLine text (Some (line, more)) → line ≡ head_text number (Err r)
      → begins_with_mark more ≡ true → FindsEntry printed number text None
  refused_none number small text line more r found is marked (Ok sents) rest begins =
      let parts = has_parts number small text line more found (Ok sents) rest begins in
      accepted_and_refused number tt r (sym parts.line_is ∙ is)
  refused_none number small text line more r found is marked (Err q) rest begins =
      let parts = has_parts number small text line more found (Err q) rest begins in
      false≢true (sym begins.is_all ∙ (ap begins_with_mark (sym parts.more_is) ∙ marked))

  refused_some : (number : ℕ) (text line more : List ℕ) (r : Refusal) → FindsLine text (Some (line, more)) → line ≡ head_text number (Err r)
      → (entry : PlainEntry K) (rest : List ℕ) → entry ≡ Err r → rest ≡ more → begins_with_mark more ≡ false → BeginsWithEntry printed number text entry rest
  refused_some number text line more r found is entry rest same behind last =
      subst (λ (e : PlainEntry K). BeginsWithEntry printed number text e rest) (sym same)
      (record {
        is_entry = record { in_order = tt; named_options = refl };
        is_printed = tt;
        stands =
            found.1
            ∙ (ap (λ (t : List ℕ). t ++ 10 ∷ more) is
            ∙ (ap (λ (t : List ℕ). head_text number (Err r) ++ 10 ∷ t) (sym behind)
            ∙ sym (entry_parts number (Err r) rest)));
        is_all = ap begins_with_mark behind ∙ last;
      })

  pub refused_entry : (number : ℕ) → number < 2 ^ 64 → (text line more : List ℕ) (r : Refusal) → FindsLine text (Some (line, more)) → line ≡ head_text number (Err r)
      → (entry : Option (PlainEntry K × List ℕ)) → FindsRefused r more entry → FindsEntry printed number text entry
  refused_entry number small text line more r found is None h = refused_none number small text line more r found is h
  refused_entry number small text line more r found is (Some e) h = refused_some number text line more r found is e.0 e.1 h.0 h.1 h.2

-- ---- at most one entry stands at the front of a text

module _ {K : Type 0} (cmp : K → K → Ordering) (matching : K → K → Bool) (reading : List ℕ → Result K KeyError) (printed : K → List ℕ) (anchored : Anchor → K → Option ℕ) (laws : KeyLaws cmp matching reading printed anchored) where
  heads_apart : (r q : Refusal) (number : ℕ) → head_text number (Err r) ≡ head_text number (Err q) → r ≡ q
  unfolding entries_text
  heads_apart r q number h =
      let texts : entries_text printed number (Err r ∷ []) ≡ entries_text printed number (Err q ∷ []) =
      ap (λ (t : List ℕ). t ++ []) (lines r ∙ (ap (λ (t : List ℕ). t ++ 10 ∷ []) h ∙ sym (lines q))) in
      let same = fronts_apart cmp matching reading printed anchored laws (Err r ∷ []) (Err q ∷ []) number (tt, tt) (tt, tt) texts in
      cc
    where
      lines : (r : Refusal) → entry_text printed number (Err r) ≡ head_text number (Err r) ++ 10 ∷ []
      lines r = sym (append_assoc (decimal number) (spaced (codes "refused" ∷ name_of r ∷ [])) (10 ∷ []))

  pub one_entry : (number : ℕ) → number < 2 ^ 64 → (text : List ℕ) (e f : PlainEntry K) (more rest : List ℕ) → BeginsWithEntry printed number text e more → BeginsWithEntry printed number text f rest → (e ≡ f) × (more ≡ rest)
  one_entry number small text e f more rest one two =
      let lines = first_lines (head_text number (head printed e)) (head_text number (head printed f)) (body printed e ++ more) (body printed f ++ rest)
      (head_feedless number small (head printed e)) (head_feedless number small (head printed f))
      (sym (entry_parts printed number e more) ∙ ((sym one.stands ∙ two.stands) ∙ entry_parts printed number f rest)) in
      by_parts e f one two lines.0 lines.1
    where
      by_parts : (e f : PlainEntry K) → BeginsWithEntry printed number text e more → BeginsWithEntry printed number text f rest → head_text number (head printed e) ≡ head_text number (head printed f)
          → body printed e ++ more ≡ body printed f ++ rest → (e ≡ f) × (more ≡ rest)
      by_parts (Ok ss) (Ok ts) one two h b =
          let same = same_messages cmp matching reading printed anchored laws ss ts more rest one.is_printed two.is_printed one.is_all two.is_all b in (
            ap (λ (x : List (Sent K)). Ok x) same,
            append_cancel_left (flat_map (sent_text printed) ts) more rest (sym (ap (λ (x : List (Sent K)). flat_map (sent_text printed) x ++ more) same) ∙ b),
          )
      by_parts (Ok ss) (Err q) one two h b = absurd (accepted_and_refused number tt q h)
      by_parts (Err r) (Ok ts) one two h b = absurd (accepted_and_refused number tt r (sym h))
      by_parts (Err r) (Err q) one two h b = (ap (λ (x : Refusal). Err x) (heads_apart r q number h), b)
