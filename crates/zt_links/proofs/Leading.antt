-- A third test behind two that are made together.
use Rattle.std.proofs.Common.{◌≡◌, Bool, true, false, ◌&&◌, refl}

pub third-alone : (a b c : Bool) → (a && b) ≡ true → c ≡ (a && (b && c))
third-alone true b c h = rw h refl
third-alone false b c h = cc
