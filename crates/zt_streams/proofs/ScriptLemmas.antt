-- Lemmas on a text that is read up to a limit.
use Rattle.std.proofs.Common.{◌≡◌, ℕ, ◌+◌, ◌-◌, ◌<◌, ◌≤◌, ◌↔◌, min, Bool, true, false, IsTrue, IfSome, List, [], ◌++◌, length, take, None, Some, refl, sym, ap, subst, ◌∙◌, arith}
use Rattle.std.specs.declared.option.Option.{Option}
use Rattle.std.specs.Io.KnownBytes.{Consumes, IsAtEnd}
use Rattle.std.proofs.KnownBytes.{Consumes-trans}
use Rattle.std.proofs.lemmas.List.{append-nil, length-append, take-append-le, take_all, take_min}
use Rattle.std.proofs.Math.Seq.{take-append-add}
use Rattle.zt_streams.specs.Streams.{TakesFront}

-- the front of what was read and a piece, where there was room for the first
pub take-append-room : (limit room : ℕ) (read piece : List ℕ) → length read ≤ limit → room ≡ limit - length read → read ++ take (min room (length piece)) piece ≡ take limit (read ++ piece)
take-append-room limit room read piece h same =
    ap (λ front. read ++ front) (take_min room piece)
    ∙ sym (ap (λ n. take n (read ++ piece)) sum ∙ take-append-add read piece room)
  where
    sum : limit ≡ length read + room
    sum = omega arith

-- the limit is passed by what was read, so it is the text's front, and the text is longer
pub front-longer : (a c : Option (List ℕ)) (read : List ℕ) (limit : ℕ) → Consumes a c read → limit < length read → IfSome a (λ text. take limit read ≡ take limit text)
front-longer None c read limit p h = tt
front-longer (Some x) None read limit p h = absurd p
front-longer (Some x) (Some y) read limit p h = sym (ap (take limit) p ∙ take-append-le limit read y (omega arith))

pub longer-read : (a c : Option (List ℕ)) (read : List ℕ) (limit : ℕ) → Consumes a c read → limit < length read → IfSome a (λ text. IsTrue true ↔ (limit < length text))
longer-read None c read limit p h = tt
longer-read (Some x) None read limit p h = absurd p
longer-read (Some x) (Some y) read limit p h = ((λ _. omega (arith, ap length p, length-append read y)), (λ _. refl))

-- the source was at its end with no more bytes, so what was read is the whole text
pub front-whole : (a b c : Option (List ℕ)) (read piece : List ℕ) (n limit : ℕ) → Consumes a b read → Consumes b c (take n piece) → n ≡ 0 → IsAtEnd c → length read ≤ limit
    → IfSome a (λ text. read ≡ take limit text)
front-whole None b c read piece n limit p q none e h = tt
front-whole (Some x) None c read piece n limit p q none e h = absurd p
front-whole (Some x) (Some y) None read piece n limit p q none e h = absurd q
front-whole (Some x) (Some y) (Some z) read piece n limit p q none e h =
    let nothing : y ≡ [] = q ∙ ap (λ more. take n piece ++ more) e ∙ ap (λ k. take k piece ++ []) none in
    sym (ap (take limit) (p ∙ ap (λ more. read ++ more) nothing ∙ append-nil read) ∙ take_all limit read h)

-- a read that gave nothing ends a text that there was room for
pub takes-whole : (a b c : Option (List ℕ)) (read piece : List ℕ) (n limit : ℕ) → Consumes a b read → Consumes b c (take n piece) → n ≡ 0 → length read ≤ limit → TakesFront limit a c read false
takes-whole a b c read piece n limit p q none h = record {
  read = read;
  taken = subst (Consumes a c) (ap (λ k. read ++ take k piece) none ∙ append-nil read) (Consumes-trans a b c read (take n piece) p q);
  front = sym (take_all limit read h);
  longer_is = ((λ e. absurd (cc)), (λ more. absurd (omega arith)));
}

-- and a piece for which there wasn't room makes it longer
pub takes-longer : (a b c : Option (List ℕ)) (read piece bytes : List ℕ) (limit : ℕ) → Consumes a b read → Consumes b c piece → bytes ≡ take limit (read ++ piece) → limit < length (read ++ piece) → TakesFront limit a c bytes true
takes-longer a b c read piece bytes limit p q is more = record {
  read = read ++ piece;
  taken = Consumes-trans a b c read piece p q;
  front = is;
  longer_is = ((λ _. more), (λ _. refl));
}
