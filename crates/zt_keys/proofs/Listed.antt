-- The number of a chunk, by what the chunk is.
use Rattle.std.proofs.Common.{◌≡◌, ℕ, List, Some, None, true, false, refl}
use Rattle.zt_keys.specs.Chunks.{is_double, is_single}
use Rattle.zt_keys.specs.Parts.{part_of, is_marked}
use Rattle.zt_keys.specs.Anchors.{hash_of}
use Rattle.zt_keys.specs.Numbers.{part_number}
use Rattle.zt_keys.specs.Test.{by_test}

pub number-double : (c : List ℕ) → is_double c ≡ true → None ≡ part_number (part_of c)
unfolding part_of
number-double c d = rw d refl

pub number-single : (c : List ℕ) → is_double c ≡ false → is_single c ≡ true → None ≡ part_number (part_of c)
unfolding part_of
number-single c d s = rw (d, s) refl

pub number-named : (c : List ℕ) → is_double c ≡ false → is_single c ≡ false → Some (hash_of c) ≡ part_number (part_of c)
unfolding part_of
number-named c d s = rw (d, s) (by_test (is_marked c) (λ e. rw e refl) (λ e. rw e refl))
