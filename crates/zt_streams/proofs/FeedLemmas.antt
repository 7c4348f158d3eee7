-- Lemmas on a feeder's buffer.
use Rattle.std.proofs.Common.{◌≡◌, ℕ, ◌+◌, ◌-◌, ◌<◌, ◌≤◌, suc, true, false, ◌||◌, List, ◌∷◌, [], ◌++◌, length, take, drop, get_or, None, Some, refl, sym, ap, ◌∙◌, subst, arith}
use Rattle.std.specs.declared.option.Option.{Option}
use Rattle.std.specs.Option.{option_map}
use Rattle.std.specs.List.{list_any}
use Rattle.std.proofs.lemmas.Bool.{eqb-true}
use Rattle.std.proofs.lemmas.Grind.{common_steps}
use Rattle.std.proofs.lemmas.List.{drop_more, take_rest, take-append-drop, take_all, drop_all, length-drop, get_or-drop}
use Rattle.std.proofs.lemmas.List.Folds.{list_any-append}
use Rattle.std.proofs.Math.Seq.{take-add}
use Rattle.memchr.specs.Find.{IsFirstByte, is_byte}
use Rattle.zt_streams.specs.Lines.{is_feed, HasNoFeed, whole_lines, TakesLine, TakesRest}
use Rattle.zt_streams.specs.Feeding.{IsReady, StandsAt, FindsFeed}
use Rattle.zt_streams.proofs.LineLemmas.{by_test, whole_lines-none, rest_of-none, HasNoFeed-from_whole_lines}

-- bytes of which none is a feed
no_feed-from_reads : (bytes : List ℕ) → ((k : ℕ) → k < length bytes → is_feed (get_or bytes k 0) ≡ false) → HasNoFeed bytes
no_feed-from_reads [] h = refl
no_feed-from_reads (x ∷ bytes) h =
    ap (λ t. t || list_any is_feed bytes) (h 0 (omega arith))
    ∙ no_feed-from_reads bytes (λ k l. h (suc k) (omega arith))

-- the first of these bytes have no feed, where a search passed over them
no_feed-before : (bytes : List ℕ) (place : ℕ) → place ≤ length bytes → ((k : ℕ) → k < place → is_feed (get_or bytes k 0) ≡ true → ⊥) → HasNoFeed (take place bytes)
no_feed-before bytes place within h =
    no_feed-from_reads (take place bytes)
    (λ k l. by_test (is_feed (get_or (take place bytes) k 0))
    (λ found. absurd (h k (at k l) (ap is_feed (sym (reads k (at k l))) ∙ found)))
    (λ lacks. lacks))
  where
    at : (k : ℕ) → k < length (take place bytes) → k < place
    at k l = grind (arith, common_steps)

    reads : (k : ℕ) → k < place → get_or (take place bytes) k 0 ≡ get_or bytes k 0
    reads k l = grind (arith, common_steps)

-- the search in what stands from `from` on, as a search in the whole
finds_feed : (bytes : List ℕ) (from : ℕ) (found : Option ℕ) → from ≤ length bytes → IsFirstByte (is_byte 10) (drop from bytes) found → FindsFeed bytes from (option_map (λ place. from + place) found)
finds_feed bytes from None within h =
    let later = drop from bytes in
    no_feed-from_reads later (λ k l. by_test (is_feed (get_or later k 0)) (λ found. absurd (h k (omega arith) l found)) (λ lacks. lacks))
finds_feed bytes from (Some place) within h = record {
  after = omega arith;
  within = inside;
  before = subst (λ n. HasNoFeed (take n later)) same (no_feed-before later place (omega (arith, h.0.high)) (λ k l. h.0.before k (omega arith) l));
  feed = drop_more bytes (from + place) 0 inside ∙ ap (λ x. x ∷ drop (from + place + 1) bytes) (sym (get_or-drop from bytes place 0) ∙ eqb-true (get_or later place 0) 10 h.1);
}
  where
    later : List ℕ
    later = drop from bytes

    inside : from + place < length bytes
    inside = omega (arith, h.0.high, length-drop from bytes)

    same : place ≡ from + place - from
    same = omega arith

-- the same, of the slice `&bytes[from..]`
pub FindsFeed-from_search : (bytes : List ℕ) (from : ℕ) (found : Option ℕ) → from ≤ length bytes
    → IsFirstByte (is_byte 10) (take (length bytes - from) (drop from bytes)) found → FindsFeed bytes from (option_map (λ place. from + place) found)
FindsFeed-from_search bytes from found within h =
    finds_feed bytes from found within (subst (λ later. IsFirstByte (is_byte 10) later found) (take_rest bytes from) h)

-- ---- a buffer in which no feed is found

-- what was searched and what was searched now: no kept byte is a feed
kept_no_feed : (bytes : List ℕ) (start seen : ℕ) → IsReady bytes start seen → HasNoFeed (drop seen bytes) → HasNoFeed (drop start bytes)
kept_no_feed bytes start seen ready h =
    let kept = drop start bytes in
    let later : drop (seen - start) kept ≡ drop seen bytes = rest in
    ap (list_any is_feed) (sym (take-append-drop (seen - start) kept))
    ∙ list_any-append is_feed (take (seen - start) kept) (drop (seen - start) kept)
    ∙ ap (λ t. t || list_any is_feed (drop (seen - start) kept)) ready.searched
    ∙ ap (list_any is_feed) later ∙ h
  where
    rest : drop (seen - start) (drop start bytes) ≡ drop seen bytes
    rest = let low : start ≤ seen = ready.ordered in grind (arith, common_steps)

-- all that is kept has now been searched
pub IsReady-searched : (bytes shown : List ℕ) (start seen end : ℕ) → shown ≡ bytes → end ≡ length bytes → IsReady bytes start seen → HasNoFeed (drop seen shown) → IsReady bytes start end
IsReady-searched bytes shown start seen end same all ready h =
    let later : HasNoFeed (drop seen bytes) = subst (λ text. HasNoFeed (drop seen text)) same h in record {
      ordered = omega (arith, ready.ordered, ready.within);
      within = omega arith;
      searched = ap (list_any is_feed) (take_all (end - start) (drop start bytes) (omega (arith, length-drop start bytes))) ∙ kept_no_feed bytes start seen ready later;
    }

-- and no line of it is whole
pub whole_lines-searched : (bytes shown kept : List ℕ) (start seen : ℕ) → shown ≡ bytes → drop start bytes ≡ kept → IsReady bytes start seen → HasNoFeed (drop seen shown) → whole_lines kept ≡ []
whole_lines-searched bytes shown kept start seen same is ready h =
    let later : HasNoFeed (drop seen bytes) = subst (λ text. HasNoFeed (drop seen text)) same h in
    ap whole_lines (sym is) ∙ whole_lines-none (drop start bytes) (kept_no_feed bytes start seen ready later)

-- ---- a buffer in which a feed is found

-- up to the feed that was found there is none
no_feed-up_to : (bytes : List ℕ) (start seen place : ℕ) → IsReady bytes start seen → StandsAt bytes seen place → HasNoFeed (take (place - start) (drop start bytes))
no_feed-up_to bytes start seen place ready h =
    let kept = drop start bytes in
    ap (λ n. list_any is_feed (take n kept)) parts
    ∙ ap (list_any is_feed) (take-add (seen - start) (place - seen) kept)
    ∙ list_any-append is_feed (take (seen - start) kept) (take (place - seen) (drop (seen - start) kept))
    ∙ ap (λ t. t || list_any is_feed (take (place - seen) (drop (seen - start) kept))) ready.searched
    ∙ ap (λ later. list_any is_feed (take (place - seen) later)) rest ∙ h.before
  where
    parts : place - start ≡ (seen - start) + (place - seen)
    parts = omega (arith, ready.ordered, h.after)

    rest : drop (seen - start) (drop start bytes) ≡ drop seen bytes
    rest = let low : start ≤ seen = ready.ordered in grind (arith, common_steps)

-- the bytes kept are the line, the feed and what stands after it
kept-at_feed : (bytes : List ℕ) (start seen place : ℕ) → IsReady bytes start seen → StandsAt bytes seen place
    → drop start bytes ≡ take (place - start) (drop start bytes) ++ 10 ∷ drop (place + 1) bytes
kept-at_feed bytes start seen place ready h =
    sym (take-append-drop (place - start) (drop start bytes))
    ∙ ap (λ later. take (place - start) (drop start bytes) ++ later) (rest ∙ h.feed)
  where
    rest : drop (place - start) (drop start bytes) ≡ drop place bytes
    rest = let low : start ≤ place = omega (arith, ready.ordered, h.after) in grind (arith, common_steps)

-- so the slice up to the feed is the line that is taken
pub TakesLine-found : (bytes shown again kept : List ℕ) (start seen place : ℕ) → shown ≡ bytes → again ≡ bytes → drop start bytes ≡ kept → IsReady bytes start seen → StandsAt shown seen place
    → TakesLine kept (Some (take (place - start) (drop start again))) (drop (place + 1) bytes)
TakesLine-found bytes shown again kept start seen place same same_again is ready h =
    let stands : StandsAt bytes seen place = subst (λ text. StandsAt text seen place) same h in
    subst (λ text. TakesLine kept (Some (take (place - start) (drop start text))) (drop (place + 1) bytes)) (sym same_again)
    (no_feed-up_to bytes start seen place ready stands, sym is ∙ kept-at_feed bytes start seen place ready stands)

-- ---- the end

-- the slice from the start on is the rest that is taken
pub TakesRest-kept : (bytes shown kept : List ℕ) (start seen end : ℕ) → shown ≡ bytes → end ≡ length bytes → drop start bytes ≡ kept → IsReady bytes start seen → (start ≡ end → ⊥) → whole_lines kept ≡ []
    → TakesRest kept (Some (take (end - start) (drop start shown))) (drop end bytes)
TakesRest-kept bytes shown kept start seen end same all is ready more none =
    subst (λ text. TakesRest kept (Some (take (end - start) (drop start text))) (drop end bytes)) (sym same)
    (rest_of-none kept (HasNoFeed-from_whole_lines kept none) ∙ sym is ∙ sym whole, (λ nothing. some (ap length nothing)), gone)
  where
    whole : take (end - start) (drop start bytes) ≡ drop start bytes
    whole = take_all (end - start) (drop start bytes) (omega (arith, length-drop start bytes))

    some : length (take (end - start) (drop start bytes)) ≡ 0 → ⊥
    some h = omega (arith, ap length whole, length-drop start bytes, ready.ordered, ready.within)

    gone : drop end bytes ≡ []
    gone = drop_all end bytes (omega arith)
