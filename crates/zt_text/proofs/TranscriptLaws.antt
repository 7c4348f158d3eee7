-- The text of a transcript tells it apart from every other.
use Rattle.std.proofs.Common.{◌≡◌, ◌⊎◌, inl, inr, ℕ, zero, suc, ◌+◌, ◌<◌, ◌≤◌, ◌/◌, ◌%◌, ◌^◌, Bool, true, false, cond, List, [], ◌∷◌, ◌++◌, map, get_or, Option, Some, None, Result, Ok, Err, refl, sym, ap, subst, ◌∙◌, append_assoc, arith}
use Rattle.std.proofs.lemmas.Bool.Decides.{nat_tests}
use Rattle.std.proofs.lemmas.Fmt.{decimal_injective}
use Rattle.std.proofs.lemmas.List.{append-nil, append_cancel_left}
use Rattle.std.proofs.lemmas.List.Elements.{recursion_from_All}
use Rattle.std.specs.Prelude.{codes, decimal, if◌then◌else◌, ◌==◌}
use Rattle.std.specs.Fmt.{digits, digits_onto, digit_glyph}
use Rattle.std.specs.List.{AllByRecursion, flat_map}
use Rattle.std.specs.Str.{bytes_eq}
use Rattle.std.specs.declared.cmp.Ordering.{Ordering}
use Rattle.zt_keys.specs.Key.{KeyLaws}
use Rattle.zt_keys.specs.declared.anchor.Anchor.{Anchor}
use Rattle.zt_keys.specs.declared.error.KeyError.{KeyError}
use Rattle.zt_protocol.specs.Plain.{PlainEntry}
use Rattle.zt_protocol.specs.Refusal.{name_of}
use Rattle.zt_protocol.specs.declared.entries.Report.{Report}
use Rattle.zt_protocol.specs.declared.entries.Sent.{Sent}
use Rattle.zt_protocol.specs.declared.errors.Refusal.{Refusal}
use Rattle.zt_protocol.specs.declared.errors.Refusal.TheVariants.{UnknownGateway, UnknownLink, EmptyLink, UnknownFace, LinkedFace, NoSuchRegion, RegionConflict, NorthTaken, WouldLoop, AnswerFromSouth, FinalFromSouth, InterestFromRouter, InterestFromNorth, IllegalCurrent, InterestIdInUse, UnknownInterest, UnknownAsk, UnknownRouter, TokenIdZero, TokenIdInUse, UnknownToken, MomentBack, DictionaryFull, IdsSpent, NumbersSpent}
use Rattle.zt_fields.proofs.Exact.{some_is}
use Rattle.zt_fields.specs.Fields.{is_byte}
use Rattle.zt_text.specs.Sent.{IsSent, IsPrinted, ArePrinted}
use Rattle.zt_text.specs.Text.{NumbersFit, spaced, line_of, message_fields, transcript_text, sent_text, entry_text, report_text, entries_text, numbered_text}
use Rattle.zt_text.proofs.Clean.{is_plain, clean_plain, clean_decimal, feedless_line, first_fields, first_lines}
use Rattle.zt_text.proofs.SentLaws.{sent_line, line_feedless, same_sent}

-- ---- refusals

-- the refusal of a name
abbrev refusal_of : List ℕ → Option Refusal
refusal_of text =
    if bytes_eq text (codes "UnknownGateway") then Some UnknownGateway
    else if bytes_eq text (codes "UnknownLink") then Some UnknownLink
    else if bytes_eq text (codes "EmptyLink") then Some EmptyLink
    else if bytes_eq text (codes "UnknownFace") then Some UnknownFace
    else if bytes_eq text (codes "LinkedFace") then Some LinkedFace
    else if bytes_eq text (codes "NoSuchRegion") then Some NoSuchRegion
    else if bytes_eq text (codes "RegionConflict") then Some RegionConflict
    else if bytes_eq text (codes "NorthTaken") then Some NorthTaken
    else if bytes_eq text (codes "WouldLoop") then Some WouldLoop
    else if bytes_eq text (codes "AnswerFromSouth") then Some AnswerFromSouth
    else if bytes_eq text (codes "FinalFromSouth") then Some FinalFromSouth
    else if bytes_eq text (codes "InterestFromRouter") then Some InterestFromRouter
    else if bytes_eq text (codes "InterestFromNorth") then Some InterestFromNorth
    else if bytes_eq text (codes "IllegalCurrent") then Some IllegalCurrent
    else if bytes_eq text (codes "InterestIdInUse") then Some InterestIdInUse
    else if bytes_eq text (codes "UnknownInterest") then Some UnknownInterest
    else if bytes_eq text (codes "UnknownAsk") then Some UnknownAsk
    else if bytes_eq text (codes "UnknownRouter") then Some UnknownRouter
    else if bytes_eq text (codes "TokenIdZero") then Some TokenIdZero
    else if bytes_eq text (codes "TokenIdInUse") then Some TokenIdInUse
    else if bytes_eq text (codes "UnknownToken") then Some UnknownToken
    else if bytes_eq text (codes "MomentBack") then Some MomentBack
    else if bytes_eq text (codes "DictionaryFull") then Some DictionaryFull
    else if bytes_eq text (codes "IdsSpent") then Some IdsSpent
    else if bytes_eq text (codes "NumbersSpent") then Some NumbersSpent
    else None

named : (r : Refusal) → refusal_of (name_of r) ≡ Some r
named UnknownGateway = refl
named UnknownLink = refl
named EmptyLink = refl
named UnknownFace = refl
named LinkedFace = refl
named NoSuchRegion = refl
named RegionConflict = refl
named NorthTaken = refl
named WouldLoop = refl
named AnswerFromSouth = refl
named FinalFromSouth = refl
named InterestFromRouter = refl
named InterestFromNorth = refl
named IllegalCurrent = refl
named InterestIdInUse = refl
named UnknownInterest = refl
named UnknownAsk = refl
named UnknownRouter = refl
named TokenIdZero = refl
named TokenIdInUse = refl
named UnknownToken = refl
named MomentBack = refl
named DictionaryFull = refl
named IdsSpent = refl
named NumbersSpent = refl

same_refusal : (r q : Refusal) → name_of r ≡ name_of q → r ≡ q
same_refusal r q h = some_is r q (sym (named r) ∙ (ap refusal_of h ∙ named q))

plain_name : (r : Refusal) → is_plain (name_of r) ≡ true
plain_name UnknownGateway = refl
plain_name UnknownLink = refl
plain_name EmptyLink = refl
plain_name UnknownFace = refl
plain_name LinkedFace = refl
plain_name NoSuchRegion = refl
plain_name RegionConflict = refl
plain_name NorthTaken = refl
plain_name WouldLoop = refl
plain_name AnswerFromSouth = refl
plain_name FinalFromSouth = refl
plain_name InterestFromRouter = refl
plain_name InterestFromNorth = refl
plain_name IllegalCurrent = refl
plain_name InterestIdInUse = refl
plain_name UnknownInterest = refl
plain_name UnknownAsk = refl
plain_name UnknownRouter = refl
plain_name TokenIdZero = refl
plain_name TokenIdInUse = refl
plain_name UnknownToken = refl
plain_name MomentBack = refl
plain_name DictionaryFull = refl
plain_name IdsSpent = refl
plain_name NumbersSpent = refl

-- ---- how lines begin

-- a digit stands first
abbrev BeginsWithDigit : List ℕ → Type 0
BeginsWithDigit text = (d : ℕ) × (others : List ℕ) × (text ≡ d ∷ others) × (48 ≤ d) × (d < 58)

glyph_is : (d : ℕ) → d < 10 → digit_glyph false d ≡ 48 + d
glyph_is d h = grind (arith, nat_tests)

last_digit : (n : ℕ) (acc : List ℕ) → BeginsWithDigit (digit_glyph false (n % 10) ∷ acc)
last_digit n acc =
    let small : n % 10 < 10 = omega arith in
    let is = glyph_is (n % 10) small in
    (digit_glyph false (n % 10), acc, refl, omega (arith, is), omega (arith, is, small))

digits_begin : (most n : ℕ) (acc : List ℕ) → BeginsWithDigit acc → BeginsWithDigit (digits_onto most 10 false n acc)
digits_begin zero n acc h = h
digits_begin (suc most) n acc h =
    elim (n / 10 == 0) as (λ v. BeginsWithDigit (cond v (digit_glyph false (n % 10) ∷ acc) (digits_onto most 10 false (n / 10) (digit_glyph false (n % 10) ∷ acc)))) [
      | true ↦ last_digit n acc
      | false ↦ digits_begin most (n / 10) (digit_glyph false (n % 10) ∷ acc) (last_digit n acc)
    ]

digits_begin_some : (most n : ℕ) → BeginsWithDigit (digits_onto (suc most) 10 false n [])
digits_begin_some most n =
    elim (n / 10 == 0) as (λ v. BeginsWithDigit (cond v (digit_glyph false (n % 10) ∷ []) (digits_onto most 10 false (n / 10) (digit_glyph false (n % 10) ∷ [])))) [
      | true ↦ last_digit n []
      | false ↦ digits_begin most (n / 10) (digit_glyph false (n % 10) ∷ []) (last_digit n [])
    ]

decimal_begins : (n : ℕ) → BeginsWithDigit (decimal n)
unfolding digits
decimal_begins n = digits_begin_some 63 n

begins_more : (text more : List ℕ) → BeginsWithDigit text → BeginsWithDigit (text ++ more)
begins_more text more h = (h.0, h.1 ++ more, ap (λ (t : List ℕ). t ++ more) h.2, h.3, h.4)

-- a transcript's text ends, or its totals stand here
abbrev IsEnd : List ℕ → Type 0
IsEnd text = (text ≡ []) ⊎ ((others : List ℕ) × (text ≡ 116 ∷ others))

-- texts that are one have one first byte, and one second
same_first : (a b : List ℕ) → a ≡ b → get_or a 0 0 ≡ get_or b 0 0
same_first a b h = ap (λ (t : List ℕ). get_or t 0 0) h

same_second : (a b : List ℕ) → a ≡ b → get_or a 1 0 ≡ get_or b 1 0
same_second a b h = ap (λ (t : List ℕ). get_or t 1 0) h

no_digit_at_end : (text : List ℕ) → BeginsWithDigit text → IsEnd text → ⊥
no_digit_at_end text h (inl e) = omega (arith, same_first (h.0 ∷ h.1) [] (sym h.2 ∙ e), h.3)
no_digit_at_end text h (inr e) = omega (arith, same_first (h.0 ∷ h.1) (116 ∷ e.0) (sym h.2 ∙ e.1), h.4)

-- no message stands here
abbrev HasNoMessage : List ℕ → Type 0
HasNoMessage text = (others : List ℕ) → text ≡ 62 ∷ others → ⊥

no_message_at_end : (text : List ℕ) → IsEnd text → HasNoMessage text
no_message_at_end text (inl e) others h = omega (arith, same_first [] (62 ∷ others) (sym e ∙ h))
no_message_at_end text (inr e) others h = omega (arith, same_first (116 ∷ e.0) (62 ∷ others) (sym e.1 ∙ h))

no_message_at_digit : (text : List ℕ) → BeginsWithDigit text → HasNoMessage text
no_message_at_digit text h others e = omega (arith, same_first (h.0 ∷ h.1) (62 ∷ others) (sym h.2 ∙ e), h.4)

module _ {K : Type 0} (cmp : K → K → Ordering) (matching : K → K → Bool) (reading : List ℕ → Result K KeyError) (printed : K → List ℕ) (anchored : Anchor → K → Option ℕ) (laws : KeyLaws cmp matching reading printed anchored) where
  abbrev line : Sent K → List ℕ
  line sent = sent_line cmp matching reading printed anchored laws sent

  -- ---- messages

  messages_apart : (ss ts : List (Sent K)) (more rest : List ℕ) → AllByRecursion IsSent ss → AllByRecursion IsSent ts → HasNoMessage more → HasNoMessage rest
      → flat_map (sent_text printed) ss ++ more ≡ flat_map (sent_text printed) ts ++ rest → (ss ≡ ts) × (more ≡ rest)
  messages_apart [] [] more rest p q m r h = (refl, h)
  messages_apart [] (t ∷ ts) more rest p q m r h = absurd (m _ h)
  messages_apart (s ∷ ss) [] more rest p q m r h = absurd (r _ (sym h))
  messages_apart (s ∷ ss) (t ∷ ts) more rest p q m r h =
      let f = first_lines (line s) (line t) (flat_map (sent_text printed) ss ++ more) (flat_map (sent_text printed) ts ++ rest)
      (line_feedless cmp matching reading printed anchored laws s p.0) (line_feedless cmp matching reading printed anchored laws t q.0)
      (sym (first_of_all s ss more) ∙ (h ∙ first_of_all t ts rest)) in
      let others = messages_apart ss ts more rest p.1 q.1 m r f.1 in
      (rw (same_sent cmp matching reading printed anchored laws s t p.0 q.0 f.0, others.0) refl, others.1)
    where
      first_of_all : (s : Sent K) (ss : List (Sent K)) (more : List ℕ) → flat_map (sent_text printed) (s ∷ ss) ++ more ≡ line s ++ 10 ∷ (flat_map (sent_text printed) ss ++ more)
      first_of_all s ss more =
          append_assoc (sent_text printed s) (flat_map (sent_text printed) ss) more
          ∙ (ap (λ (t : List ℕ). t ++ (flat_map (sent_text printed) ss ++ more)) (sym (append_assoc (codes ">") (spaced (decimal s.gateway ∷ decimal s.face ∷ message_fields printed s.message)) (10 ∷ [])))
          ∙ append_assoc (line s) (10 ∷ []) (flat_map (sent_text printed) ss ++ more))

  -- ---- entries

  entry_begins : (n : ℕ) (entry : PlainEntry K) → BeginsWithDigit (entry_text printed n entry)
  entry_begins n (Ok sents) = begins_more (line_of (decimal n) (codes "ok" ∷ [])) (flat_map (sent_text printed) sents) (begins_more (decimal n) (spaced (codes "ok" ∷ []) ++ 10 ∷ []) (decimal_begins n))
  entry_begins n (Err refusal) = begins_more (decimal n) (spaced (codes "refused" ∷ name_of refusal ∷ []) ++ 10 ∷ []) (decimal_begins n)

  some_begin : (n : ℕ) (entry : PlainEntry K) (entries : List (PlainEntry K)) (end : List ℕ) → BeginsWithDigit (entries_text printed n (entry ∷ entries) ++ end)
  unfolding entries_text
  some_begin n entry entries end = begins_more _ end (begins_more (entry_text printed n entry) (entries_text printed (n + 1) entries) (entry_begins n entry))

  no_message : (n : ℕ) (entries : List (PlainEntry K)) (end : List ℕ) → IsEnd end → HasNoMessage (entries_text printed n entries ++ end)
  unfolding entries_text
  no_message n [] end h = no_message_at_end end h
  no_message n (entry ∷ entries) end h = no_message_at_digit _ (some_begin n entry entries end)

  -- the text of an entry, behind its number
  abbrev behind_number : PlainEntry K → List ℕ
  behind_number (Ok sents) = (spaced (codes "ok" ∷ []) ++ 10 ∷ []) ++ flat_map (sent_text printed) sents
  behind_number (Err refusal) = spaced (codes "refused" ∷ name_of refusal ∷ []) ++ 10 ∷ []

  number_first : (n : ℕ) (entry : PlainEntry K) → entry_text printed n entry ≡ decimal n ++ behind_number entry
  number_first n (Ok sents) = append_assoc (decimal n) (spaced (codes "ok" ∷ []) ++ 10 ∷ []) (flat_map (sent_text printed) sents)
  number_first n (Err refusal) = refl

  numbered : (n : ℕ) (entry : PlainEntry K) (entries : List (PlainEntry K)) (end : List ℕ)
      → entries_text printed n (entry ∷ entries) ++ end ≡ decimal n ++ (behind_number entry ++ (entries_text printed (n + 1) entries ++ end))
  unfolding entries_text
  numbered n entry entries end =
      append_assoc (entry_text printed n entry) (entries_text printed (n + 1) entries) end
      ∙ (ap (λ (t : List ℕ). t ++ (entries_text printed (n + 1) entries ++ end)) (number_first n entry)
      ∙ append_assoc (decimal n) (behind_number entry) (entries_text printed (n + 1) entries ++ end))

  -- a refusal's line, behind its number and before the line feed
  abbrev refused : Refusal → List ℕ
  refused refusal = spaced (codes "refused" ∷ name_of refusal ∷ [])

  refused_feedless : (r : Refusal) → AllByRecursion (λ b. is_byte 10 b ≡ false) (refused r)
  refused_feedless r = feedless_line [] (codes "refused" ∷ name_of r ∷ []) (clean_plain [] refl) (clean_plain (codes "refused") refl, (clean_plain (name_of r) (plain_name r), tt))

  same_refused : (r q : Refusal) → refused r ≡ refused q → r ≡ q
  same_refused r q h =
      let names = append_cancel_left (32 ∷ (codes "refused" ++ 32 ∷ [])) (name_of r ++ []) (name_of q ++ []) h in
      same_refusal r q (sym (append-nil (name_of r)) ∙ (names ∙ append-nil (name_of q)))

  not_both : (a b : List ℕ) → 32 ∷ 111 ∷ a ≡ 32 ∷ 114 ∷ b → ⊥
  not_both a b h = omega (arith, same_second (32 ∷ 111 ∷ a) (32 ∷ 114 ∷ b) h)

  entry_apart : (e f : PlainEntry K) (more rest : List ℕ) → IsPrinted e → IsPrinted f → HasNoMessage more → HasNoMessage rest → behind_number e ++ more ≡ behind_number f ++ rest → (e ≡ f) × (more ≡ rest)
  entry_apart (Ok ss) (Ok ts) more rest p q m r h =
      let ok = spaced (codes "ok" ∷ []) ++ 10 ∷ [] in
      let same = append_cancel_left ok (flat_map (sent_text printed) ss ++ more) (flat_map (sent_text printed) ts ++ rest)
      (sym (append_assoc ok (flat_map (sent_text printed) ss) more) ∙ (h ∙ append_assoc ok (flat_map (sent_text printed) ts) rest)) in
      let found = messages_apart ss ts more rest p q m r same in
      (ap (λ (x : List (Sent K)). Ok x) found.0, found.1)
  entry_apart (Ok ss) (Err refusal) more rest p q m r h = absurd (not_both _ _ h)
  entry_apart (Err refusal) (Ok ts) more rest p q m r h = absurd (not_both _ _ (sym h))
  entry_apart (Err one) (Err two) more rest p q m r h =
      let found = first_lines (refused one) (refused two) more rest (refused_feedless one) (refused_feedless two)
      (sym (append_assoc (refused one) (10 ∷ []) more) ∙ (h ∙ append_assoc (refused two) (10 ∷ []) rest)) in
      (ap (λ (x : Refusal). Err x) (same_refused one two found.0), found.1)

  entries_apart : (es fs : List (PlainEntry K)) (n : ℕ) (end last : List ℕ) → ArePrinted es → ArePrinted fs → IsEnd end → IsEnd last
      → entries_text printed n es ++ end ≡ entries_text printed n fs ++ last → (es ≡ fs) × (end ≡ last)
  unfolding entries_text
  entries_apart [] [] n end last p q a b h = (refl, h)
  entries_apart [] (f ∷ fs) n end last p q a b h = absurd (no_digit_at_end end (subst BeginsWithDigit (sym h) (some_begin n f fs last)) a)
  entries_apart (e ∷ es) [] n end last p q a b h = absurd (no_digit_at_end last (subst BeginsWithDigit h (some_begin n e es end)) b)
  entries_apart (e ∷ es) (f ∷ fs) n end last p q a b h =
      let behind = append_cancel_left (decimal n) _ _ (sym (numbered n e es end) ∙ (h ∙ numbered n f fs last)) in
      let first = entry_apart e f (entries_text printed (n + 1) es ++ end) (entries_text printed (n + 1) fs ++ last) p.0 q.0 (no_message (n + 1) es end a) (no_message (n + 1) fs last b) behind in
      let others = entries_apart es fs (n + 1) end last p.1 q.1 a b first.1 in
      (rw (first.0, others.0) refl, others.1)

  pub fronts_apart : (es fs : List (PlainEntry K)) (n : ℕ) → ArePrinted es → ArePrinted fs → entries_text printed n es ≡ entries_text printed n fs → es ≡ fs
  fronts_apart es fs n p q h = (entries_apart es fs n [] [] p q (inl refl) (inl refl) (ap (λ (t : List ℕ). t ++ []) h)).0

  pub transcripts_apart : (es fs : List (PlainEntry K)) (one two : Report) → ArePrinted es → ArePrinted fs → transcript_text printed es one ≡ transcript_text printed fs two → es ≡ fs
  transcripts_apart es fs one two p q h = (entries_apart es fs 1 (report_text one) (report_text two) p q (inr (_, refl)) (inr (_, refl)) h).0

  -- ---- entries with numbers of their own

  -- the text of an entry, behind its number and a space
  abbrev behind_space : PlainEntry K → List ℕ
  behind_space (Ok sents) = ((codes "ok" ++ []) ++ 10 ∷ []) ++ flat_map (sent_text printed) sents
  behind_space (Err refusal) = (codes "refused" ++ spaced (name_of refusal ∷ [])) ++ 10 ∷ []

  space_first : (entry : PlainEntry K) → behind_number entry ≡ 32 ∷ behind_space entry
  space_first (Ok sents) = refl
  space_first (Err refusal) = refl

  numbered_begin : (x : ℕ × PlainEntry K) (xs : List (ℕ × PlainEntry K)) (end : List ℕ) → BeginsWithDigit (numbered_text printed (x ∷ xs) ++ end)
  numbered_begin x xs end = begins_more (numbered_text printed (x ∷ xs)) end (begins_more (entry_text printed x.0 x.1) (numbered_text printed xs) (entry_begins x.0 x.1))

  numbered_message : (xs : List (ℕ × PlainEntry K)) (end : List ℕ) → IsEnd end → HasNoMessage (numbered_text printed xs ++ end)
  numbered_message [] end h = no_message_at_end end h
  numbered_message (x ∷ xs) end h = no_message_at_digit (numbered_text printed (x ∷ xs) ++ end) (numbered_begin x xs end)

  first_numbered : (x : ℕ × PlainEntry K) (xs : List (ℕ × PlainEntry K)) (end : List ℕ)
      → numbered_text printed (x ∷ xs) ++ end ≡ decimal x.0 ++ 32 ∷ (behind_space x.1 ++ (numbered_text printed xs ++ end))
  first_numbered x xs end =
      let more = numbered_text printed xs ++ end in
      append_assoc (entry_text printed x.0 x.1) (numbered_text printed xs) end
      ∙ (ap (λ (t : List ℕ). t ++ more) (number_first x.0 x.1)
      ∙ (append_assoc (decimal x.0) (behind_number x.1) more
      ∙ ap (λ (t : List ℕ). decimal x.0 ++ (t ++ more)) (space_first x.1)))

  spaceless : (n : ℕ) → n < 2 ^ 64 → AllByRecursion (λ b. is_byte 32 b ≡ false) (decimal n)
  spaceless n small = recursion_from_All (λ b. is_byte 32 b ≡ false) (decimal n) (clean_decimal n small).no_space

  numbered_apart : (xs ys : List (ℕ × PlainEntry K)) (end last : List ℕ) → NumbersFit xs → NumbersFit ys → ArePrinted (map (λ x. x.1) xs) → ArePrinted (map (λ x. x.1) ys)
      → IsEnd end → IsEnd last → numbered_text printed xs ++ end ≡ numbered_text printed ys ++ last → (xs ≡ ys) × (end ≡ last)
  numbered_apart [] [] end last u v p q a b h = (refl, h)
  numbered_apart [] (y ∷ ys) end last u v p q a b h = absurd (no_digit_at_end end (subst BeginsWithDigit (sym h) (numbered_begin y ys last)) a)
  numbered_apart (x ∷ xs) [] end last u v p q a b h = absurd (no_digit_at_end last (subst BeginsWithDigit h (numbered_begin x xs end)) b)
  numbered_apart (x ∷ xs) (y ∷ ys) end last u v p q a b h =
      let more = numbered_text printed xs ++ end in
      let rest = numbered_text printed ys ++ last in
      let fields = first_fields (decimal x.0) (decimal y.0) (behind_space x.1 ++ more) (behind_space y.1 ++ rest) (spaceless x.0 u.0) (spaceless y.0 v.0)
      (sym (first_numbered x xs end) ∙ (h ∙ first_numbered y ys last)) in
      let behind : behind_number x.1 ++ more ≡ behind_number y.1 ++ rest =
      ap (λ (t : List ℕ). t ++ more) (space_first x.1) ∙ (ap (λ (t : List ℕ). 32 ∷ t) fields.1 ∙ sym (ap (λ (t : List ℕ). t ++ rest) (space_first y.1))) in
      let first = entry_apart x.1 y.1 more rest p.0 q.0 (numbered_message xs end a) (numbered_message ys last b) behind in
      let others = numbered_apart xs ys end last u.1 v.1 p.1 q.1 a b first.1 in
      (same_numbered x y xs ys (decimal_injective x.0 y.0 u.0 v.0 fields.0) first.0 others.0, others.1)
    where
      same_numbered : (x y : ℕ × PlainEntry K) (xs ys : List (ℕ × PlainEntry K)) → x.0 ≡ y.0 → x.1 ≡ y.1 → xs ≡ ys → x ∷ xs ≡ y ∷ ys
      same_numbered (n, e) (m, f) xs ys h g t = rw (h, g, t) refl

  pub numbered_transcripts_apart : (xs ys : List (ℕ × PlainEntry K)) (one two : Report) → NumbersFit xs → NumbersFit ys → ArePrinted (map (λ x. x.1) xs) → ArePrinted (map (λ x. x.1) ys)
      → numbered_text printed xs ++ report_text one ≡ numbered_text printed ys ++ report_text two → xs ≡ ys
  numbered_transcripts_apart xs ys one two u v p q h = (numbered_apart xs ys (report_text one) (report_text two) u v p q (inr (_, refl)) (inr (_, refl)) h).0
