-- Lines put together in two: what stands before a message's key, and the rest.
use Rattle.std.proofs.Common.{◌≡◌, ℕ, ◌+◌, ◌/◌, ◌%◌, ◌<◌, ◌≤◌, arith, List, [], ◌∷◌, ◌++◌, Option, Some, None, refl, sym, ap, ◌∙◌, append_assoc, drop, get_or, length}
use Rattle.std.proofs.lemmas.Fmt.{decimal_digit, decimal_step}
use Rattle.std.specs.List.{flat_map}
use Rattle.std.specs.Prelude.{decimal}
use Rattle.zt_protocol.specs.declared.entries.Sent.{Sent}
use Rattle.zt_protocol.specs.declared.messages.Message.{Message}
use Rattle.zt_protocol.specs.declared.messages.Message.TheVariants.{DeclareToken, UndeclareToken, DeclareFinal, Interest, InterestFinal, DeclareSubscriber, DeclareQueryable}
use Rattle.zt_text.specs.Text.{spaced, key_fields, message_fields, sent_text}
use Rattle.zt_text.specs.Front.{key_of, fields_before, front_text}
use Rattle.zt_text.proofs.TextLemmas.{flat_map_drop}

-- ---- numbers

pub digit_put : (n : ℕ) (old new : List ℕ) → n < 10 → new ≡ old ++ (48 + n) ∷ [] → new ≡ old ++ decimal n
digit_put n old new lo put = put ∙ ap (λ (x : List ℕ). old ++ x) (sym (decimal_digit n lo))

pub pair_put : (n : ℕ) (old one two : List ℕ) → 10 ≤ n → n < 100 → one ≡ old ++ (48 + n / 10) ∷ [] → two ≡ one ++ (48 + n % 10) ∷ [] → two ≡ old ++ decimal n
pair_put n old one two lo hi first second =
    let tens : List ℕ = (48 + n / 10) ∷ [] in
    let ones : List ℕ = (48 + n % 10) ∷ [] in
    let step : decimal n ≡ tens ++ ones = decimal_step n lo (omega arith) ∙ ap (λ (x : List ℕ). x ++ ones) (decimal_digit (n / 10) (omega arith)) in
    second ∙ (ap (λ (x : List ℕ). x ++ ones) first ∙ (append_assoc old tens ones ∙ ap (λ (x : List ℕ). old ++ x) (sym step)))

-- the digits of a number are those of its hundreds, and two more
pub decimal_hundreds : (n : ℕ) (old one two three : List ℕ) → 100 ≤ n → n < 10000
    → one ≡ old ++ decimal (n / 100) → two ≡ one ++ (48 + n % 100 / 10) ∷ [] → three ≡ two ++ (48 + n % 100 % 10) ∷ []
    → three ≡ old ++ decimal n
decimal_hundreds n old one two three lo hi first second third =
    let tens : List ℕ = (48 + n % 100 / 10) ∷ [] in
    let ones : List ℕ = (48 + n % 100 % 10) ∷ [] in
    let a : n / 10 / 10 ≡ n / 100 = omega arith in
    let b : n / 10 % 10 ≡ n % 100 / 10 = omega arith in
    let c : n % 10 ≡ n % 100 % 10 = omega arith in
    let front : decimal (n / 10) ≡ decimal (n / 100) ++ tens =
    decimal_step (n / 10) (omega arith) (omega arith)
    ∙ (ap (λ (m : ℕ). decimal m ++ (48 + n / 10 % 10) ∷ []) a ∙ ap (λ (d : ℕ). decimal (n / 100) ++ (48 + d) ∷ []) b) in
    let step : decimal n ≡ (decimal (n / 100) ++ tens) ++ ones =
    decimal_step n (omega arith) (omega arith)
    ∙ (ap (λ (d : ℕ). decimal (n / 10) ++ (48 + d) ∷ []) c ∙ ap (λ (x : List ℕ). x ++ ones) front) in
    third
    ∙ (ap (λ (x : List ℕ). x ++ ones) (second ∙ (ap (λ (x : List ℕ). x ++ tens) first ∙ append_assoc old (decimal (n / 100)) tens))
    ∙ (append_assoc old (decimal (n / 100) ++ tens) ones
    ∙ ap (λ (x : List ℕ). old ++ x) (sym step)))

-- ---- messages

pub spaced_append : (xs ys : List (List ℕ)) → spaced (xs ++ ys) ≡ spaced xs ++ spaced ys
spaced_append [] ys = refl
spaced_append (x ∷ xs) ys = ap (λ (t : List ℕ). 32 ∷ t) (ap (λ (t : List ℕ). x ++ t) (spaced_append xs ys) ∙ sym (append_assoc x (spaced xs) (spaced ys)))

pub fields_in_two : {K : Type 0} (printed : K → List ℕ) (m : Message K) → message_fields printed m ≡ fields_before m ++ key_fields printed (key_of m)
fields_in_two printed (DeclareToken id expr None node) = refl
fields_in_two printed (DeclareToken id expr (Some interest) node) = refl
fields_in_two printed (UndeclareToken id expr node) = refl
fields_in_two printed (DeclareFinal interest) = refl
fields_in_two printed (Interest id mode options expr) = refl
fields_in_two printed (InterestFinal id) = refl
fields_in_two printed (DeclareSubscriber id expr interest) = refl
fields_in_two printed (DeclareQueryable id expr info interest) = refl

pub sent_in_two : {K : Type 0} (printed : K → List ℕ) (s : Sent K) → sent_text printed s ≡ front_text s ++ (spaced (key_fields printed (key_of s.message)) ++ 10 ∷ [])
sent_in_two {K = K} printed s =
    let before : List (List ℕ) = decimal s.gateway ∷ decimal s.face ∷ fields_before s.message in
    let keys : List (List ℕ) = key_fields printed (key_of s.message) in
    ap (λ (fs : List (List ℕ)). 62 ∷ (spaced (decimal s.gateway ∷ decimal s.face ∷ fs) ++ 10 ∷ [])) (fields_in_two printed s.message)
    ∙ ap (λ (t : List ℕ). 62 ∷ (t ++ 10 ∷ [])) (spaced_append before keys)
    ∙ ap (λ (t : List ℕ). 62 ∷ t) (append_assoc (spaced before) (spaced keys) (10 ∷ []))

regroup : (a b c d e : List ℕ) → (a ++ ((b ++ c) ++ d)) ++ e ≡ a ++ (b ++ (c ++ (d ++ e)))
regroup a b c d e = simp append_assoc

-- what is put of a message, and of its key, is its line but for the end
pub sent_put : {K : Type 0} (printed : K → List ℕ) (s : Sent K) (key : Option K) (out head middle new : List ℕ)
    → key ≡ key_of s.message → middle ≡ head ++ front_text s
    → new ≡ out ++ (middle ++ spaced (key_fields printed key))
    → new ++ 10 ∷ [] ≡ out ++ (head ++ sent_text printed s)
sent_put {K = K} printed s key out head middle new same front put =
    let keys : List ℕ = spaced (key_fields printed (key_of s.message)) in
    ap (λ (t : List ℕ). t ++ 10 ∷ [])
    (put
    ∙ (ap (λ (k : Option K). out ++ (middle ++ spaced (key_fields printed k))) same
    ∙ ap (λ (m : List ℕ). out ++ (m ++ keys)) front))
    ∙ (regroup out head (front_text s) keys (10 ∷ [])
    ∙ ap (λ (t : List ℕ). out ++ (head ++ t)) (sym (sent_in_two printed s)))

-- what is put and what is left are all, where a part of what is put is still in the head
pub told_on : {X : Type 0} (f : X → List ℕ) (xs : List X) (i : ℕ) (x : X) (out head all new : List ℕ) → i < length xs → x ≡ get_or xs i x
    → new ≡ out ++ (head ++ f x)
    → (out ++ head) ++ flat_map f (drop i xs) ≡ all → new ++ flat_map f (drop (i + 1) xs) ≡ all
told_on {X = X} f xs i x out head all new h is put told =
    let rest : List ℕ = flat_map f (drop (i + 1) xs) in
    ap (λ (t : List ℕ). t ++ rest) (put ∙ sym (append_assoc out head (f x)))
    ∙ append_assoc (out ++ head) (f x) rest
    ∙ ap (λ (t : List ℕ). (out ++ head) ++ t) (sym (flat_map_drop f xs i x h is))
    ∙ told
