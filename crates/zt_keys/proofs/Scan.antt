-- Checking a text byte by byte finds its refusal.
use Rattle.std.proofs.Common.{◌≡◌, ℕ, ◌+◌, Bool, true, false, cond, ◌&&◌, ◌||◌, not, List, [], ◌∷◌, length, Option, Some, None, Result, Ok, Err, refl, sym, ap, ◌∙◌, arith, eqb, ◌<◌, ◌≤◌, get_or, drop}
use Rattle.std.proofs.lemmas.List.{at_drop_more, at_drop_all}
use Rattle.std.proofs.lemmas.Bool.{eqb-true, both_ways}
use Rattle.std.specs.Option.{option_map, option_or}
use Rattle.std.specs.List.{onto_first, list_any}
use Rattle.std.specs.Prelude.{option_and_then}
use Rattle.std.proofs.lemmas.List.Splits.{slice_split-cons_yes, slice_split-cons_no}
use Rattle.zt_keys.specs.Chunks.{chunks, is_forbidden, is_star, is_double, is_single, is_wild, is_empty, is_good_chunk, first_bad, first_loose, begins_wild, bad_or, refusal}
use Rattle.zt_keys.specs.Test.{by_test}
use Rattle.zt_keys.specs.Scan.{next_kind, end_at, end_chunk, grown, step}
use Rattle.zt_keys.specs.declared.error.KeyError.{KeyError}
use Rattle.zt_keys.specs.declared.error.KeyError.TheVariants.{Empty, BadChunk, NotCanonical}
use Rattle.zt_keys.specs.declared.check.Kind.{Kind}
use Rattle.zt_keys.specs.declared.check.Kind.TheVariants.{Fresh, Name, Single, Double}
use Rattle.zt_keys.specs.declared.check.Scan.{Scan}

abbrev pub first_scan : Scan
first_scan = record { kind = Fresh; start = 0; double = None; loose = None }

-- the refusal that is found by reading on
abbrev pub finish : Result Scan KeyError → Option KeyError
finish (Ok scan) = option_map NotCanonical scan.loose
finish (Err error) = Some error

abbrev pub go_on : (Scan → Option KeyError) → Result Scan KeyError → Option KeyError
go_on read (Ok scan) = read scan
go_on read (Err error) = Some error

abbrev pub run : List ℕ → ℕ → Scan → Option KeyError
run [] place scan = finish (end_chunk scan place)
run (b ∷ bytes) place scan = go_on (run bytes (place + 1)) (step scan place b)

-- the kind of a chunk from the kind of its front
abbrev fold : List ℕ → Kind → Option Kind
fold [] kind = Some kind
fold (b ∷ chunk) kind = option_and_then (fold chunk) (next_kind kind b)

abbrev ended : (ℕ → Option ℕ → Option ℕ → Option KeyError) → Option Kind → ℕ → Option ℕ → Option ℕ → ℕ → Option KeyError
ended more None start double loose next = Some (BadChunk start)
ended more (Some kind) start double loose next = go_on (λ (scan : Scan). more scan.start scan.double scan.loose) (end_at kind start double loose next)

-- the refusal by whole chunks
abbrev judge : List (List ℕ) → ℕ → Option ℕ → Option ℕ → Option KeyError
judge [] start double loose = option_map NotCanonical loose
judge (chunk ∷ rest) start double loose = ended (judge rest) (fold chunk Fresh) start double loose (start + length chunk + 1)

-- the same, within the first chunk
abbrev judge_rest : List (List ℕ) → ℕ → Scan → Option KeyError
judge_rest [] place scan = option_map NotCanonical scan.loose
judge_rest (chunk ∷ rest) place scan = ended (judge rest) (fold chunk scan.kind) scan.start scan.double scan.loose (place + length chunk + 1)

finish-is : (kind : Kind) (start : ℕ) (double loose : Option ℕ) (next other : ℕ) → finish (end_at kind start double loose next) ≡ ended (judge []) (Some kind) start double loose other
finish-is Fresh start double loose next other = refl
finish-is Name start double loose next other = refl
finish-is Single start double loose next other = refl
finish-is Double start double loose next other = refl

judge_rest-fresh : (chunks : List (List ℕ)) (start : ℕ) (double loose : Option ℕ) → judge_rest chunks start (record { kind = Fresh; start = start; double = double; loose = loose }) ≡ judge chunks start double loose
judge_rest-fresh [] start double loose = refl
judge_rest-fresh (chunk ∷ rest) start double loose = refl

run-slash : (bytes : List ℕ) (chunks : List (List ℕ)) (place next : ℕ) (kind : Kind) (start : ℕ) (double loose : Option ℕ) → ((scan : Scan) → run bytes next scan ≡ judge_rest chunks next scan)
    → go_on (run bytes next) (end_at kind start double loose next) ≡ ended (judge chunks) (Some kind) start double loose next
run-slash bytes chunks place next Fresh start double loose h = refl
run-slash bytes chunks place next Name start double loose h = h _ ∙ judge_rest-fresh chunks next _ _
run-slash bytes chunks place next Single start double loose h = h _ ∙ judge_rest-fresh chunks next _ _
run-slash bytes chunks place next Double start double loose h = h _ ∙ judge_rest-fresh chunks next _ _

abbrev HasFirst : List (List ℕ) → Type 0
HasFirst parts = (first : List ℕ) × (rest : List (List ℕ)) × (parts ≡ first ∷ rest)

onto_first-has : (b : ℕ) (parts : List (List ℕ)) → HasFirst (onto_first b parts)
onto_first-has b [] = (b ∷ [], [], refl)
onto_first-has b (part ∷ parts) = (b ∷ part, parts, refl)

chunks-has : (bytes : List ℕ) → HasFirst (chunks bytes)
chunks-has [] = ([], [], refl)
chunks-has (b ∷ bytes) = by_test (eqb b 47) (λ e. ([], chunks bytes, slice_split-cons_yes (λ x. eqb x 47) b bytes e)) (λ e. let h = onto_first-has b (chunks bytes) in (h.0, h.1, slice_split-cons_no (λ x. eqb x 47) b bytes e ∙ h.2))

run-grown : (bytes : List ℕ) (b : ℕ) (first : List ℕ) (rest : List (List ℕ)) (place : ℕ) (grows : Option Kind) (scan : Scan) → ((scan : Scan) → run bytes (place + 1) scan ≡ judge_rest (first ∷ rest) (place + 1) scan)
    → go_on (run bytes (place + 1)) (grown grows scan) ≡ ended (judge rest) (option_and_then (fold first) grows) scan.start scan.double scan.loose (place + length (b ∷ first) + 1)
run-grown bytes b first rest place None scan h = refl
run-grown bytes b first rest place (Some kind) scan h =
    let e : place + 1 + length first + 1 ≡ place + length (b ∷ first) + 1 = omega arith in
    h _ ∙ ap (λ n. ended (judge rest) (fold first kind) scan.start scan.double scan.loose n) e

pub run-judge : (bytes : List ℕ) (place : ℕ) (scan : Scan) → run bytes place scan ≡ judge_rest (chunks bytes) place scan
run-judge [] place scan = finish-is scan.kind scan.start scan.double scan.loose place (place + 0 + 1)
run-judge (b ∷ bytes) place scan =
    by_test (eqb b 47)
    (λ e.
    let zero_more : place + 1 ≡ place + length {A = ℕ} [] + 1 = omega arith in
    ap (λ t. go_on (run bytes (place + 1)) (cond t (end_chunk scan (place + 1)) (grown (next_kind scan.kind b) scan))) e
    ∙ run-slash bytes (chunks bytes) place (place + 1) scan.kind scan.start scan.double scan.loose (run-judge bytes (place + 1))
    ∙ ap (λ n. ended (judge (chunks bytes)) (Some scan.kind) scan.start scan.double scan.loose n) zero_more
    ∙ sym (ap (λ c. judge_rest c place scan) (slice_split-cons_yes (λ x. eqb x 47) b bytes e)))
    (λ e.
    let w = chunks-has bytes in
    ap (λ t. go_on (run bytes (place + 1)) (cond t (end_chunk scan (place + 1)) (grown (next_kind scan.kind b) scan))) e
    ∙ run-grown bytes b w.0 w.1 place (next_kind scan.kind b) scan (λ s. run-judge bytes (place + 1) s ∙ ap (λ c. judge_rest c (place + 1) s) w.2)
    ∙ sym (ap (λ c. judge_rest c place scan) (slice_split-cons_no (λ x. eqb x 47) b bytes e ∙ ap (onto_first b) w.2)))

abbrev good_of : Option Kind → Bool
good_of None = false
good_of (Some Fresh) = false
good_of (Some Name) = true
good_of (Some Single) = true
good_of (Some Double) = true

abbrev wild_of : Option Kind → Bool
wild_of None = false
wild_of (Some Fresh) = false
wild_of (Some Name) = false
wild_of (Some Single) = true
wild_of (Some Double) = true

abbrev double_of : Option Kind → Bool
double_of None = false
double_of (Some Fresh) = false
double_of (Some Name) = false
double_of (Some Single) = false
double_of (Some Double) = true

fold-name : (chunk : List ℕ) → fold chunk Name ≡ cond (list_any is_forbidden chunk) None (cond (list_any is_star chunk) None (Some Name))
fold-name [] = refl
fold-name (b ∷ chunk) =
    by_test (is_forbidden b) (λ f. rw f refl) (λ f. by_test (is_star b) (λ s. rw (f, s) (by_test (list_any is_forbidden chunk) (λ g. rw g refl) (λ g. rw g refl))) (λ s. rw (f, s) (fold-name chunk)))

fold-double : (chunk : List ℕ) → fold chunk Double ≡ cond (is_empty chunk) (Some Double) None
fold-double [] = refl
fold-double (b ∷ chunk) =
    by_test (is_forbidden b) (λ f. rw f refl) (λ f. by_test (is_star b) (λ s. rw (f, s) refl) (λ s. rw (f, s) refl))

forbidden_star : (b : ℕ) → is_star b ≡ true → is_forbidden b ≡ false
unfolding is_forbidden
forbidden_star b e = rw (eqb-true b 42 e) refl

record Fits (chunk : List ℕ) (kind : Option Kind) : Type 0 where
  good : is_good_chunk chunk ≡ good_of kind
  wild : is_wild chunk ≡ wild_of kind
  double : is_double chunk ≡ double_of kind

star_forbidden : (b : ℕ) → is_forbidden b ≡ true → is_star b ≡ false
star_forbidden b f = by_test (is_star b) (λ s. absurd (both_ways (is_forbidden b) (forbidden_star b s) f)) (λ s. s)

fits-star : (b : ℕ) (chunk : List ℕ) → is_star b ≡ true → is_forbidden b ≡ false → Fits (b ∷ chunk) (fold chunk Single)
fits-star b [] s f = record { good = simp (s, f); wild = simp s; double = refl }
fits-star b (d ∷ []) s f =
    by_test (is_forbidden d)
    (λ g. let t = star_forbidden d g in record { good = simp (s, f, g); wild = simp (s, g, t); double = simp (s, g, t) })
    (λ g. by_test (is_star d)
    (λ t. record { good = simp (s, f, g, t); wild = simp (s, g, t); double = simp (s, g, t) })
    (λ t. record { good = simp (s, f, g, t); wild = simp (s, g, t); double = simp (s, g, t) }))
fits-star b (d ∷ e ∷ rest) s f =
    by_test (is_forbidden d)
    (λ g. record { good = simp (s, f, g); wild = simp g; double = simp g })
    (λ g. by_test (is_star d)
    (λ t. record { good = simp (s, f, g, t, fold-double (e ∷ rest)) (after rest e); wild = simp (g, t, fold-double (e ∷ rest)); double = simp (g, t, fold-double (e ∷ rest)) })
    (λ t. record { good = simp (s, f, g, t) (by_test (is_forbidden e || list_any is_forbidden rest) (λ h. simp h) (λ h. simp h)); wild = simp (g, t); double = simp (g, t) }))
  where
    after : (rest : List ℕ) (e : ℕ) → (not (is_forbidden e || list_any is_forbidden rest) && false) ≡ false
    after rest e = by_test (is_forbidden e || list_any is_forbidden rest) (λ h. simp h) (λ h. simp h)

single-other : (b : ℕ) (chunk : List ℕ) → is_star b ≡ false → is_single (b ∷ chunk) ≡ false
single-other b [] s = s
single-other b (d ∷ rest) s = refl

double-other : (b : ℕ) (chunk : List ℕ) → is_star b ≡ false → is_double (b ∷ chunk) ≡ false
double-other b [] s = refl
double-other b (d ∷ []) s = rw s refl
double-other b (d ∷ e ∷ rest) s = refl

fits-other : (b : ℕ) (chunk : List ℕ) → is_star b ≡ false → is_forbidden b ≡ false → Fits (b ∷ chunk) (fold chunk Name)
fits-other b chunk s f =
    by_test (list_any is_forbidden chunk)
    (λ g. rw (fold-name chunk) (record { good = simp (s, f, g, single-other b chunk s, double-other b chunk s); wild = simp (g, single-other b chunk s, double-other b chunk s); double = simp (g, double-other b chunk s) }))
    (λ g. by_test (list_any is_star chunk)
    (λ t. rw (fold-name chunk) (record { good = simp (s, f, g, t, single-other b chunk s, double-other b chunk s); wild = simp (g, t, single-other b chunk s, double-other b chunk s); double = simp (g, t, double-other b chunk s) }))
    (λ t. rw (fold-name chunk) (record { good = simp (s, f, g, t); wild = simp (g, t, single-other b chunk s, double-other b chunk s); double = simp (g, t, double-other b chunk s) })))

fits : (chunk : List ℕ) → Fits chunk (fold chunk Fresh)
fits [] = record { good = refl; wild = refl; double = refl }
fits (b ∷ chunk) =
    by_test (is_forbidden b)
    (λ f. let s = star_forbidden b f in record { good = simp f; wild = simp (f, single-other b chunk s, double-other b chunk s); double = simp (f, double-other b chunk s) })
    (λ f. by_test (is_star b)
    (λ s. simp (f, s) (fits-star b chunk s f))
    (λ s. simp (f, s) (fits-other b chunk s f)))

-- the first loose `**` of chunks behind one that begins at `double` where it is `**`
abbrev loose_behind : List (List ℕ) → ℕ → Option ℕ → Option ℕ
loose_behind chunks start double = option_or (cond (begins_wild chunks) double None) (first_loose start chunks)

abbrev Judged : List (List ℕ) → ℕ → Option ℕ → Option ℕ → Type 0
Judged chunks start double loose = judge chunks start double loose ≡ bad_or (first_bad start chunks) (option_or loose (loose_behind chunks start double))

loose_behind-none : (chunks : List (List ℕ)) (start : ℕ) → loose_behind chunks start None ≡ first_loose start chunks
loose_behind-none chunks start = by_test (begins_wild chunks) (λ t. rw t refl) (λ t. rw t refl)

option_or-assoc : (a b c : Option ℕ) → option_or (option_or a b) c ≡ option_or a (option_or b c)
option_or-assoc None b c = refl
option_or-assoc (Some x) b c = refl

judged-by : (kind : Option Kind) (chunk : List ℕ) (rest : List (List ℕ)) (start : ℕ) (double loose : Option ℕ) → fold chunk Fresh ≡ kind → Fits chunk kind
    → ((start : ℕ) (double loose : Option ℕ) → Judged rest start double loose) → Judged (chunk ∷ rest) start double loose
unfolding first_bad first_loose
judged-by None chunk rest start double loose e w h = rw (e, w.good) refl
judged-by (Some Fresh) chunk rest start double loose e w h = rw (e, w.good) refl
judged-by (Some Name) chunk rest start double loose e w h =
    rw (e, w.good, w.wild, w.double, h (start + length chunk + 1) None loose)
    (by_test (begins_wild rest) (λ t. rw t refl) (λ t. rw t refl))
judged-by (Some Single) chunk rest start double loose e w h =
    rw (e, w.good, w.wild, w.double, h (start + length chunk + 1) None (option_or loose double), option_or-assoc)
    (by_test (begins_wild rest) (λ t. rw t refl) (λ t. rw t refl))
judged-by (Some Double) chunk rest start double loose e w h =
    rw (e, w.good, w.wild, w.double, h (start + length chunk + 1) (Some start) (option_or loose double), option_or-assoc)
    (by_test (begins_wild rest) (λ t. rw t refl) (λ t. rw t refl))

judged : (chunks : List (List ℕ)) (start : ℕ) (double loose : Option ℕ) → Judged chunks start double loose
unfolding first_bad first_loose
judged [] start double None = refl
judged [] start double (Some place) = refl
judged (chunk ∷ rest) start double loose = judged-by (fold chunk Fresh) chunk rest start double loose refl (fits chunk) (judged rest)

run-refusal : (b : ℕ) (bytes : List ℕ) → run (b ∷ bytes) 0 first_scan ≡ refusal (b ∷ bytes)
unfolding refusal
run-refusal b bytes =
    run-judge (b ∷ bytes) 0 first_scan ∙ judge_rest-fresh (chunks (b ∷ bytes)) 0 None None ∙ judged (chunks (b ∷ bytes)) 0 None None
    ∙ ap (bad_or (first_bad 0 (chunks (b ∷ bytes)))) (loose_behind-none (chunks (b ∷ bytes)) 0)

-- what the checker's loop keeps, and where it stops
pub run-whole : (bytes : List ℕ) → 0 < length bytes → run bytes 0 first_scan ≡ refusal bytes
run-whole [] h = absurd (omega arith)
run-whole (b ∷ bytes) h = run-refusal b bytes

pub refusal-nothing : (text : List ℕ) → length text ≡ 0 → refusal text ≡ Some Empty
unfolding refusal
refusal-nothing [] h = refl
refusal-nothing (b ∷ text) h = absurd (omega arith)

pub run-more : (bytes : List ℕ) (place : ℕ) (scan : Scan) → place < length bytes → run (drop place bytes) place scan ≡ go_on (run (drop (place + 1) bytes) (place + 1)) (step scan place (get_or bytes place 0))
run-more bytes place scan h = at_drop_more (λ rest. run rest place scan) bytes place 0 h

pub run-ends : (bytes : List ℕ) (scan : Scan) → run (drop (length bytes) bytes) (length bytes) scan ≡ finish (end_chunk scan (length bytes))
run-ends bytes scan = at_drop_all (λ rest. run rest (length bytes) scan) bytes (length bytes) (omega arith)

abbrev LoopSays : List ℕ → ℕ → Scan → Type 0
LoopSays bytes place scan = run (drop place bytes) place scan ≡ run bytes 0 first_scan

pub refusal-inside : (text bytes : List ℕ) (place : ℕ) (scan : Scan) (error : KeyError) → bytes ≡ text → 0 < length text → LoopSays bytes place scan → place < length bytes → step scan place (get_or bytes place 0) ≡ Err error → refusal text ≡ Some error
refusal-inside text bytes place scan error e some says h stops =
    let more : 0 < length bytes = rw e some in
    ap refusal (sym e) ∙ sym (run-whole bytes more) ∙ sym says ∙ run-more bytes place scan h ∙ ap (go_on (run (drop (place + 1) bytes) (place + 1))) stops

pub refusal-at_end : (text bytes : List ℕ) (place : ℕ) (scan : Scan) (result : Result Scan KeyError) → bytes ≡ text → 0 < length text → LoopSays bytes place scan → length bytes ≤ place → place ≤ length bytes → result ≡ end_chunk scan (length bytes) → refusal text ≡ finish result
refusal-at_end text bytes place scan result e some says h g ends =
    let more : 0 < length bytes = rw e some in
    let same : length bytes ≡ place = omega arith in
    let there : LoopSays bytes (length bytes) scan = rw same says in
    ap refusal (sym e) ∙ sym (run-whole bytes more) ∙ sym there ∙ run-ends bytes scan ∙ ap finish (sym ends)

pub nonempty_from_test : (text : List ℕ) (test : Bool) → test ≡ eqb (length text) 0 → test ≡ false → 0 < length text
nonempty_from_test [] test e f = cc
nonempty_from_test (b ∷ text) test e f = omega arith
