-- Reading a list, one member after the other.
use Rattle.std.proofs.Common.{◌≡◌, ℕ, List, [], ◌∷◌, ◌++◌, Result, Ok, Err, refl, sym, ap, ◌∙◌, append_assoc}
use Rattle.std.proofs.lemmas.List.{append-nil}
use Rattle.zt_protocol.specs.declared.errors.LineError.{LineError}
use Rattle.zt_protocol.specs.declared.errors.LineError.TheVariants as errors
use Rattle.zt_fields.specs.Fields.{◌>>=◌, Misses}
use Rattle.zt_lines.specs.Lists.{each_read}

-- what was read before, and what is still read
abbrev pub with_front : {A : Type 0} → List A → Result (List A) LineError → Result (List A) LineError
with_front front read = read >>= λ xs. Ok (front ++ xs)

pub starts : {A : Type 0} (read : Result (List A) LineError) → with_front [] read ≡ read
starts (Ok xs) = refl
starts (Err e) = refl

regroup : {A : Type 0} (front : List A) (x : A) (read : Result (List A) LineError) → with_front front (read >>= λ xs. Ok (x ∷ xs)) ≡ with_front (front ++ x ∷ []) read
regroup {A} front x (Ok xs) = ap (λ (ys : List A). Ok ys) (sym (append_assoc front (x ∷ []) xs))
regroup front x (Err e) = refl

pub goes_on : {A : Type 0} (read : List ℕ → Result A LineError) (front : List A) (left : List (List ℕ)) (part : List ℕ) (parts : List (List ℕ)) (x : A) (total : Result (List A) LineError) → left ≡ part ∷ parts → read part ≡ Ok x
    → with_front front (each_read read left) ≡ total → with_front (front ++ x ∷ []) (each_read read parts) ≡ total
goes_on read front left part parts x total next h so_far =
    let one : with_front front (each_read read left) ≡ with_front (front ++ x ∷ []) (each_read read parts) = rw (next, h) (regroup front x (each_read read parts)) in
    sym one ∙ so_far

failed : {A : Type 0} (read : List ℕ → Result A LineError) (front : List A) (left : List (List ℕ)) (part : List ℕ) (parts : List (List ℕ)) (e : LineError) → left ≡ part ∷ parts → read part ≡ Err e → with_front front (each_read read left) ≡ Err e
failed read front left part parts e next h = rw (next, h) refl

pub ends : {A : Type 0} (read : List ℕ → Result A LineError) (e : LineError) (front : List A) (left : List (List ℕ)) (part : List ℕ) (parts : List (List ℕ)) (total : Result (List A) LineError) → left ≡ part ∷ parts → Misses e (read part)
    → with_front front (each_read read left) ≡ total → Misses e total
ends read errors.Memory front left part parts total next h so_far = tt
ends read errors.NotUtf8 front left part parts total next h so_far = absurd h
ends read errors.NotInGrammar front left part parts total next h so_far = sym so_far ∙ failed read front left part parts errors.NotInGrammar next h

pub is_done : {A : Type 0} (front : List A) (total : Result (List A) LineError) → with_front front (Ok []) ≡ total → total ≡ Ok front
is_done {A} front total so_far = sym so_far ∙ ap (λ (ys : List A). Ok ys) (append-nil front)
