-- A script read line by line.
use Rattle.std.proofs.Common.{◌≡◌, ℕ, ◌+◌, Bool, false, List, [], ◌∷◌, ◌++◌, length, map, slice_get, Some, None, Result, Ok, Err, inr, refl, sym, ap, ◌∙◌, subst, append_assoc, append-nil}
use Rattle.std.proofs.lemmas.List.{length-map}
use Rattle.zt_keys.specs.declared.error.KeyError.{KeyError}
use Rattle.std.specs.Result.{IfErr, OnOk, is_err}
use Rattle.zt_streams.specs.Lines.{last_line, lines_of, rest_of, whole_lines}
use Rattle.zt_streams.proofs.LineLemmas.{lines_of-parts, rest_of-rest_of}
use Rattle.zt_protocol.specs.Plain.{PlainLine}
use Rattle.zt_protocol.specs.declared.errors.RunError.{RunError}
use Rattle.zt_protocol.specs.declared.errors.RunError.TheVariants as errors
use Rattle.zt_lines.specs.Reading.{line_read}
use Rattle.zt_laws.proofs.Lists.{map-append}
use Rattle.zt_plans.specs.Plans.{AreInForm, LineStops, TextsStop, script_lines}
use Rattle.zt_plans.specs.Reading.{HasRead, ReadingStops, TakesText}
use Rattle.zt_plans.specs.declared.reading.Reading.{Reading}
use Rattle.zt_plans.proofs.PlanLemmas.{lines_driven}

pub last_one : (rest line : List ℕ) → Some line ≡ slice_get (last_line rest) 0 → last_line rest ≡ line ∷ []
last_one [] line given = absurd (cc)
last_one (byte ∷ rest) line given = let same : line ≡ byte ∷ rest = cc in ap (λ l. l ∷ []) (sym same)

-- where the whole lines are gone, the last line makes the others all
pub last_behind : (bytes kept : List ℕ) → kept ≡ rest_of bytes → whole_lines bytes ++ last_line (rest_of kept) ≡ lines_of bytes
last_behind bytes kept is =
    ap (λ k. whole_lines bytes ++ last_line (rest_of k)) is ∙ ap (λ k. whole_lines bytes ++ last_line k) (rest_of-rest_of bytes) ∙ sym (lines_of-parts bytes)

-- what was fed to an empty feeder is all that it keeps
pub fed_whole : {X E : Type 0} (result : Result X E) (failed : Bool) (empty piece new bytes : List ℕ)
    → failed ≡ is_err result → failed ≡ false → OnOk result (new ≡ empty ++ piece) → empty ≡ [] → piece ≡ bytes → new ≡ bytes
fed_whole (Ok x) failed empty piece new bytes same good fed none is = fed ∙ ap (λ b. b ++ piece) none ∙ is
fed_whole (Err e) failed empty piece new bytes same good fed none is = absurd (cc)

module _ {K : Type 0} (reading : List ℕ → Result K KeyError) where
  as_many : (texts : List (List ℕ)) (r : Reading K) → HasRead reading texts r → r.lines ≡ length texts
  as_many texts r read =
      read.is.counted ∙ sym (length-map (script_lines r.plan) (λ (line : PlainLine K). let o : Result (PlainLine K) _ = Ok line in o))
      ∙ sym (ap length read.are_read) ∙ length-map texts (line_read reading)

  -- with one text more
  text_added : (texts : List (List ℕ)) (text : List ℕ) (old new : Reading K) → HasRead reading texts old → TakesText reading text old new → HasRead reading (texts ++ text ∷ []) new
  text_added texts text old new read takes = record {
    is = takes.is;
    are_read =
        map-append (line_read reading) texts (text ∷ [])
        ∙ ap (λ ls. ls ++ line_read reading text ∷ []) read.are_read
        ∙ ap (λ l. map (λ line. Ok line) (script_lines old.plan) ++ l ∷ []) takes.is_read
        ∙ sym (ap (map (λ line. Ok line)) takes.added ∙ map-append (λ line. Ok line) (script_lines old.plan) (takes.line ∷ []));
  }

  -- of all texts those before the ones left were read
  pub record Partly (all left : List (List ℕ)) (r : Reading K) : Type 0 where
    pub before : List (List ℕ)
    pub read : HasRead reading before r
    pub are : all ≡ before ++ left

  pub partly_none : (all : List (List ℕ)) (r : Reading K) → r.plan ≡ None → r.lines ≡ 0 → Partly all all r
  partly_none all r none zero_ = record {
    before = [];
    read = record {
      is = record { form = subst AreInForm (sym none) tt; counted = zero_ ∙ sym (ap (λ p. length (script_lines p)) none) };
      are_read = sym (ap (λ p. map (λ line. Ok line) (script_lines p)) none);
    };
    are = refl;
  }

  pub partly_next : (all left later : List (List ℕ)) (text : List ℕ) (old new : Reading K) → Partly all left old → left ≡ text ∷ later → TakesText reading text old new → Partly all later new
  partly_next all left later text old new partly is takes = record {
    before = partly.before ++ text ∷ [];
    read = text_added partly.before text old new partly.read takes;
    are = partly.are ∙ ap (λ ls. partly.before ++ ls) is ∙ sym (append_assoc partly.before (text ∷ []) later);
  }

  pub partly_all : (all left : List (List ℕ)) (r : Reading K) → Partly all left r → left ≡ [] → HasRead reading all r
  partly_all all left r partly none =
      let whole : partly.before ≡ all = sym (partly.are ∙ ap (λ ls. partly.before ++ ls) none ∙ append-nil partly.before) in
      subst (λ ls. HasRead reading ls r) whole partly.read

  pub partly_stops : (all left later : List (List ℕ)) (text : List ℕ) (r : Reading K) (e : RunError) → Partly all left r → left ≡ text ∷ later → LineStops reading (script_lines r.plan) text (r.lines + 1) e → TextsStop reading all e
  partly_stops all left later text r (errors.BadLine n) partly is stops = record {
    before = partly.before;
    bad = text;
    others = later;
    are = partly.are ∙ ap (λ ls. partly.before ++ ls) is ∙ sym (append_assoc partly.before (text ∷ []) later);
    lines = script_lines r.plan;
    are_read = partly.read.are_read;
    driven = lines_driven r.plan partly.read.is.form;
    is_bad = stops.0;
    counted = stops.1 ∙ ap (λ k. k + 1) (as_many partly.before r partly.read);
  }
  partly_stops all left later text r errors.Alloc partly is stops = tt
  partly_stops all left later text r errors.TooLong partly is stops = absurd stops
  partly_stops all left later text r errors.ReadFault partly is stops = absurd stops
  partly_stops all left later text r errors.WriteFault partly is stops = absurd stops

  -- behind texts that were read
  partly_behind : (texts more : List (List ℕ)) (r : Reading K) → HasRead reading texts r → Partly (texts ++ more) more r
  partly_behind texts more r read = record { before = texts; read = read; are = refl }

  -- the last line, which isn't added
  pub rest_stops : {X : Type 0} (rest line : List ℕ) (r : Reading K) (result : Result X RunError) → last_line rest ≡ line ∷ [] → IfErr result (LineStops reading (script_lines r.plan) line (r.lines + 1))
      → IfErr result (λ error. (texts : List (List ℕ)) → HasRead reading texts r → TextsStop reading (texts ++ last_line rest) error)
  rest_stops rest line r (Ok x) one stops = tt
  rest_stops rest line r (Err e) one stops = λ texts read. partly_stops (texts ++ last_line rest) (last_line rest) [] line r e (partly_behind texts (last_line rest) r read) one stops

  -- not all lines are added
  pub whole_stops : (bytes : List ℕ) (longer : Bool) (e : RunError) → longer ≡ false → TextsStop reading (lines_of bytes) e → ReadingStops reading bytes longer e
  whole_stops bytes longer (errors.BadLine n) whole stops = inr (whole, stops)
  whole_stops bytes longer errors.Alloc whole stops = tt
  whole_stops bytes longer errors.TooLong whole stops = absurd stops
  whole_stops bytes longer errors.ReadFault whole stops = absurd stops
  whole_stops bytes longer errors.WriteFault whole stops = absurd stops
