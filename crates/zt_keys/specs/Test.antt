-- A proof by cases of a test.
use Rattle.std.specs.Prelude.{◌≡◌, Bool, true, false, refl}

-- a test is true or false
pub by_test : {G : Type 0} (b : Bool) → (b ≡ true → G) → (b ≡ false → G) → G
by_test true holds fails = holds refl
by_test false holds fails = fails refl
