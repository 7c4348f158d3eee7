-- Lemmas on the messages of an entry, read off the front of a text one after another.
use Rattle.std.proofs.Common.{◌≡◌, ◌≢◌, ℕ, ◌+◌, ◌<◌, ◌≤◌, ◌↔◌, IsTrue, Bool, true, false, List, [], ◌∷◌, ◌++◌, length, drop, get_or, Result, Ok, is_err, refl, sym, ap, subst, ◌∙◌, append_assoc, arith}
use Rattle.std.proofs.lemmas.Bool.{and_parts, and_from, false≢true}
use Rattle.std.proofs.lemmas.Bool.Decides.{nat_tests}
use Rattle.std.proofs.lemmas.List.{append-nil, drop_all, drop_more}
use Rattle.std.proofs.lemmas.Grind.{flat_map-append}
use Rattle.std.specs.Prelude.{codes, decimal, Option, ◌&&◌, ◌||◌, nat_le}
use Rattle.std.specs.List.{AllByRecursion, flat_map, list_all, list_any}
use Rattle.std.specs.declared.cmp.Ordering.{Ordering}
use Rattle.zt_keys.specs.Key.{KeyLaws, OneSpelling}
use Rattle.zt_keys.specs.declared.anchor.Anchor.{Anchor}
use Rattle.zt_keys.specs.declared.error.KeyError.{KeyError}
use Rattle.zt_protocol.specs.declared.entries.Sent.{Sent}
use Rattle.zt_protocol.specs.declared.messages.Message.{Message}
use Rattle.zt_protocol.specs.declared.messages.Message.TheVariants.{DeclareToken, UndeclareToken, DeclareFinal, Interest, InterestFinal, DeclareSubscriber, DeclareQueryable}
use Rattle.zt_streams.specs.Lines.{HasNoFeed, is_feed}
use Rattle.zt_streams.proofs.LineLemmas.{or_false}
use Rattle.zt_fields.specs.Fields.{is_byte}
use Rattle.zt_text.specs.Sent.{IsSent, IsMessage, sent_read}
use Rattle.zt_text.specs.Text.{message_fields, sent_text, spaced}
use Rattle.zt_text.proofs.Clean.{first_lines}
use Rattle.zt_text.proofs.SentLaws.{line_feedless, read_complete, read_sound, same_sent, sent_line}
use Rattle.zt_model.specs.Transcript.{StandInOrderOfFace, has_named_options}
use Rattle.zt_check_trace.specs.Parts.{begins_with_mark}
use Rattle.zt_check_trace.specs.Entries.{BeginsWithMessages}

-- a line without feed, byte for byte
pub feedless : (line : List ℕ) → HasNoFeed line → AllByRecursion (λ b. is_byte 10 b ≡ false) line
feedless [] h = tt
feedless (b ∷ line) h = let p = or_false (is_feed b) (list_any is_feed line) h in (p.0, feedless line p.1)

-- a text with a line in front has a feed
pub has_feed : (line behind : List ℕ) → list_any is_feed (line ++ 10 ∷ behind) ≡ true
has_feed [] behind = refl
has_feed (b ∷ line) behind = or_true (is_feed b) (list_any is_feed (line ++ 10 ∷ behind)) (has_feed line behind)
  where
    or_true : (a b : Bool) → b ≡ true → (a || b) ≡ true
    or_true true b h = refl
    or_true false b h = h

-- ---- in order of face

-- each message's face is at least the one before, the first's at least this
abbrev pub are_from : {K : Type 0} → ℕ → List (Sent K) → Bool
are_from face [] = true
are_from face (m ∷ ms) = nat_le face m.face && are_from m.face ms

above : {K : Type 0} (low face : ℕ) (ms : List (Sent K)) → nat_le low face ≡ true → are_from face ms ≡ true → list_all (λ x. nat_le low x.face) ms ≡ true
above low face [] h g = refl
above low face (m ∷ ms) h g =
    let p = and_parts (nat_le face m.face) (are_from m.face ms) g in
    let more : nat_le low m.face ≡ true = grind (arith, nat_tests, h, p.0) in
    and_from (nat_le low m.face) (list_all (λ x. nat_le low x.face) ms) more (above low m.face ms more p.1)

stand_from : {K : Type 0} (face : ℕ) (ms : List (Sent K)) → are_from face ms ≡ true → StandInOrderOfFace ms
stand_from face [] h = tt
stand_from face (m ∷ ms) h =
    let p = and_parts (nat_le face m.face) (are_from m.face ms) h in
    let same : nat_le m.face m.face ≡ true = grind (arith, nat_tests) in
    (above m.face m.face ms same p.1, stand_from m.face ms p.1)

from_stand : {K : Type 0} (face : ℕ) (ms : List (Sent K)) → list_all (λ x. nat_le face x.face) ms ≡ true → StandInOrderOfFace ms → are_from face ms ≡ true
from_stand face [] h g = refl
from_stand face (m ∷ ms) h g =
    let p = and_parts (nat_le face m.face) (list_all (λ x. nat_le face x.face) ms) h in
    and_from (nat_le face m.face) (are_from m.face ms) p.0 (from_stand m.face ms g.0 g.1)

all_from_zero : {K : Type 0} (ms : List (Sent K)) → list_all (λ x. nat_le 0 x.face) ms ≡ true
all_from_zero [] = refl
all_from_zero (m ∷ ms) = let low : nat_le 0 m.face ≡ true = grind (arith, nat_tests) in and_from (nat_le 0 m.face) (list_all (λ x. nat_le 0 x.face) ms) low (all_from_zero ms)

pub in_order : {K : Type 0} (ms : List (Sent K)) → are_from 0 ms ≡ true → StandInOrderOfFace ms
in_order ms h = stand_from 0 ms h

pub order_is : {K : Type 0} (ms : List (Sent K)) → StandInOrderOfFace ms → are_from 0 ms ≡ true
order_is ms h = from_stand 0 ms (all_from_zero ms) h

pub order_breaks : {K : Type 0} (ms : List (Sent K)) (face index : ℕ) (m : Sent K) → are_from 0 ms ≡ are_from face (drop index ms) → index < length ms → m ≡ get_or ms index m → m.face < face
    → (IsTrue false → StandInOrderOfFace ms) × (StandInOrderOfFace ms → IsTrue false)
order_breaks ms face index m same within is low =
    let lower : nat_le face m.face ≡ false = grind (arith, nat_tests, low) in
    let left : drop index ms ≡ m ∷ drop (index + 1) ms = drop_more ms index m within ∙ ap (λ (x : Sent _). x ∷ drop (index + 1) ms) (sym is) in
    let broken : are_from 0 ms ≡ false = same ∙ (ap (are_from face) left ∙ ap (λ (t : Bool). t && are_from m.face (drop (index + 1) ms)) lower) in
    (λ e. absurd (false≢true e), λ stand. sym broken ∙ order_is ms stand)

pub order_stands : {K : Type 0} (ms : List (Sent K)) (face index : ℕ) → are_from 0 ms ≡ are_from face (drop index ms) → length ms ≤ index → (IsTrue true → StandInOrderOfFace ms) × (StandInOrderOfFace ms → IsTrue true)
order_stands ms face index same past =
    let whole : are_from 0 ms ≡ true = same ∙ ap (are_from face) (drop_all index ms past) in
    (λ e. in_order ms whole, λ stand. refl)

-- ---- named options

named_message : {K : Type 0} (m : Message K) → IsMessage m → has_named_options m ≡ true
named_message (DeclareToken id expr interest node) h = refl
named_message (UndeclareToken id expr node) h = refl
named_message (DeclareFinal interest) h = refl
named_message (Interest id mode options expr) h = let low : options.0 < 32 = h.1 in grind (arith, nat_tests, low)
named_message (InterestFinal id) h = refl
named_message (DeclareSubscriber id expr interest) h = refl
named_message (DeclareQueryable id expr info interest) h = refl

pub named : {K : Type 0} (ms : List (Sent K)) → AllByRecursion IsSent ms → list_all (λ m. has_named_options m.message) ms ≡ true
named [] h = refl
named (m ∷ ms) h = and_from (has_named_options m.message) (list_all (λ m. has_named_options m.message) ms) (named_message m.message h.0.message) (named ms h.1)

-- ---- messages read

pub all_more : {X : Type 0} (P : X → Type 0) (xs : List X) (x : X) → AllByRecursion P xs → P x → AllByRecursion P (xs ++ x ∷ [])
all_more P [] x h g = (g, tt)
all_more P (y ∷ xs) x h g = (h.0, all_more P xs x h.1 g)

module _ {K : Type 0} (printed : K → List ℕ) where
  -- messages were read off the front of a text
  pub record AreTaken (text : List ℕ) (sents : List (Sent K)) (rest : List ℕ) : Type 0 where
    pub are_sent : AllByRecursion IsSent sents
    pub stand : text ≡ flat_map (sent_text printed) sents ++ rest

  pub taken_none : (text : List ℕ) → AreTaken text [] text
  taken_none text = record { are_sent = tt; stand = refl }

  pub taken_all : (text : List ℕ) (sents : List (Sent K)) (rest : List ℕ) → AreTaken text sents rest → begins_with_mark rest ≡ false → BeginsWithMessages printed text sents rest
  taken_all text sents rest taken last = record { are_sent = taken.are_sent; stand = taken.stand; are_all = last }

module _ {K : Type 0} (cmp : K → K → Ordering) (matching : K → K → Bool) (reading : List ℕ → Result K KeyError) (printed : K → List ℕ) (anchored : Anchor → K → Option ℕ) (laws : KeyLaws cmp matching reading printed anchored) where
  abbrev line : Sent K → List ℕ
  line sent = sent_line cmp matching reading printed anchored laws sent

  sent_is : (s : Sent K) (more : List ℕ) → sent_text printed s ++ more ≡ line s ++ 10 ∷ more
  sent_is s more =
      ap (λ (t : List ℕ). t ++ more) (sym (append_assoc (codes ">") (spaced (decimal s.gateway ∷ decimal s.face ∷ message_fields printed s.message)) (10 ∷ [])))
      ∙ append_assoc (line s) (10 ∷ []) more

  all_is : (s : Sent K) (ss : List (Sent K)) (more : List ℕ) → flat_map (sent_text printed) (s ∷ ss) ++ more ≡ line s ++ 10 ∷ (flat_map (sent_text printed) ss ++ more)
  all_is s ss more = append_assoc (sent_text printed s) (flat_map (sent_text printed) ss) more ∙ sent_is s (flat_map (sent_text printed) ss ++ more)

  pub taken_next : OneSpelling reading printed → (text : List ℕ) (sents : List (Sent K)) (rest bytes behind : List ℕ) (sent : Sent K) → AreTaken printed text sents rest → rest ≡ bytes ++ 10 ∷ behind
      → sent_read reading bytes ≡ Ok sent → AreTaken printed text (sents ++ sent ∷ []) behind
  taken_next spelling text sents rest bytes behind sent taken is read =
      let sound = read_sound reading printed spelling bytes sent read in
      record {
        are_sent = all_more IsSent sents sent taken.are_sent sound.0;
        stand =
            taken.stand
            ∙ ap (λ (t : List ℕ). flat_map (sent_text printed) sents ++ t) (is ∙ sym (append_assoc bytes (10 ∷ []) behind) ∙ ap (λ (t : List ℕ). t ++ behind) (sound.1 ∙ sym (append-nil (sent_text printed sent))))
            ∙ sym (append_assoc (flat_map (sent_text printed) sents) (flat_map (sent_text printed) (sent ∷ [])) behind)
            ∙ ap (λ (t : List ℕ). t ++ behind) (sym (flat_map-append (sent_text printed) sents (sent ∷ [])));
      }

  -- messages that stand at the front of a text go on where the first of them were read
  record GoOn (rest : List ℕ) (more : List (Sent K)) (end : List ℕ) : Type 0 where
    are_sent : AllByRecursion IsSent more
    stand : rest ≡ flat_map (sent_text printed) more ++ end

  marked : (end : List ℕ) (others : List ℕ) → begins_with_mark end ≡ false → end ≢ 62 ∷ others
  marked end others h e = false≢true (sym h ∙ ap begins_with_mark e)

  go_on : (sents all : List (Sent K)) (rest end : List ℕ) → AllByRecursion IsSent sents → AllByRecursion IsSent all → begins_with_mark end ≡ false
      → flat_map (sent_text printed) sents ++ rest ≡ flat_map (sent_text printed) all ++ end → (more : List (Sent K)) × GoOn rest more end
  go_on [] all rest end p q last h = (all, record { are_sent = q; stand = h })
  go_on (s ∷ sents) [] rest end p q last h = absurd (marked end _ last (sym h))
  go_on (s ∷ sents) (t ∷ all) rest end p q last h =
      let f = first_lines (line s) (line t) (flat_map (sent_text printed) sents ++ rest) (flat_map (sent_text printed) all ++ end)
      (line_feedless cmp matching reading printed anchored laws s p.0) (line_feedless cmp matching reading printed anchored laws t q.0)
      (sym (all_is s sents rest) ∙ (h ∙ all_is t all end)) in
      go_on sents all rest end p.1 q.1 last f.1

  -- and where the rest begins as a message does, one message at least goes on there
  record NextIs (rest : List ℕ) : Type 0 where
    sent : Sent K
    behind : List ℕ
    is_sent : IsSent sent
    stands : rest ≡ line sent ++ 10 ∷ behind

  next_is : (text : List ℕ) (sents : List (Sent K)) (rest : List ℕ) → AreTaken printed text sents rest → begins_with_mark rest ≡ true → (all : List (Sent K)) (end : List ℕ) → BeginsWithMessages printed text all end → NextIs rest
  next_is text sents rest taken begins all end whole =
      let on = go_on sents all rest end taken.are_sent whole.are_sent whole.are_all (sym taken.stand ∙ whole.stand) in
      next on.0 on.1
    where
      next : (more : List (Sent K)) → GoOn rest more end → NextIs rest
      next [] on = absurd (false≢true (sym whole.are_all ∙ (ap begins_with_mark (sym on.stand) ∙ begins)))
      next (s ∷ more) on = record { sent = s; behind = flat_map (sent_text printed) more ++ end; is_sent = on.are_sent.0; stands = on.stand ∙ all_is s more end }

  pub unended : (text : List ℕ) (sents : List (Sent K)) (rest : List ℕ) → AreTaken printed text sents rest → begins_with_mark rest ≡ true → HasNoFeed rest
      → (all : List (Sent K)) (end : List ℕ) → BeginsWithMessages printed text all end → ⊥
  unended text sents rest taken begins none all end whole =
      let next = next_is text sents rest taken begins all end whole in
      false≢true (sym none ∙ (ap (list_any is_feed) next.stands ∙ has_feed (line next.sent) next.behind))

  pub unread : (text : List ℕ) (sents : List (Sent K)) (rest bytes behind : List ℕ) → AreTaken printed text sents rest → begins_with_mark rest ≡ true → HasNoFeed bytes → rest ≡ bytes ++ 10 ∷ behind
      → is_err (sent_read reading bytes) ≡ true → (all : List (Sent K)) (end : List ℕ) → BeginsWithMessages printed text all end → ⊥
  unread text sents rest bytes behind taken begins none is bad all end whole =
      let next = next_is text sents rest taken begins all end whole in
      let same = first_lines bytes (line next.sent) behind next.behind (feedless bytes none) (line_feedless cmp matching reading printed anchored laws next.sent next.is_sent) (sym is ∙ next.stands) in
      not_read next.sent (read_complete cmp matching reading printed anchored laws bytes next.sent next.is_sent
      (ap (λ (t : List ℕ). t ++ 10 ∷ []) same.0 ∙ sym (sent_is next.sent []) ∙ append-nil (sent_text printed next.sent)))
    where
      not_read : (sent : Sent K) → sent_read reading bytes ≡ Ok sent → ⊥
      not_read sent is = false≢true (sym (ap is_err is) ∙ bad)

  -- ---- messages in another order

  pub same_messages : (ss ts : List (Sent K)) (more rest : List ℕ) → AllByRecursion IsSent ss → AllByRecursion IsSent ts → begins_with_mark more ≡ false → begins_with_mark rest ≡ false
      → flat_map (sent_text printed) ss ++ more ≡ flat_map (sent_text printed) ts ++ rest → ss ≡ ts
  same_messages [] [] more rest p q m r h = refl
  same_messages [] (t ∷ ts) more rest p q m r h = absurd (marked more _ m h)
  same_messages (s ∷ ss) [] more rest p q m r h = absurd (marked rest _ r (sym h))
  same_messages (s ∷ ss) (t ∷ ts) more rest p q m r h =
      let f = first_lines (line s) (line t) (flat_map (sent_text printed) ss ++ more) (flat_map (sent_text printed) ts ++ rest)
      (line_feedless cmp matching reading printed anchored laws s p.0) (line_feedless cmp matching reading printed anchored laws t q.0)
      (sym (all_is s ss more) ∙ (h ∙ all_is t ts rest)) in
      let first : s ≡ t = same_sent cmp matching reading printed anchored laws s t p.0 q.0 f.0 in
      let others : ss ≡ ts = same_messages ss ts more rest p.1 q.1 m r f.1 in
      rw (first, others) refl

  pub out_of_order : (text : List ℕ) (sents shown : List (Sent K)) (rest : List ℕ) (stand : Bool) → BeginsWithMessages printed text sents rest → shown ≡ sents → (IsTrue stand ↔ StandInOrderOfFace shown) → stand ≡ false
      → (all : List (Sent K)) (end : List ℕ) → BeginsWithMessages printed text all end → StandInOrderOfFace all → ⊥
  out_of_order text sents shown rest stand found is decides breaks all end whole order =
      let same = same_messages sents all rest end found.are_sent whole.are_sent found.are_all whole.are_all (sym found.stand ∙ whole.stand) in
      false≢true (sym breaks ∙ decides.1 (subst StandInOrderOfFace (sym (is ∙ same)) order))
