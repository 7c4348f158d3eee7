-- Steps of a reading that did not fail.
use Rattle.std.proofs.Common.{◌≡◌, Result, Ok, Err, refl}
use Rattle.zt_protocol.specs.declared.errors.LineError.{LineError}
use Rattle.zt_fields.specs.Fields.{◌>>=◌}

-- the value of a step that did not fail
pub bind_ok : {A B : Type 0} (r : Result A LineError) (f : A → Result B LineError) (y : B) → (r >>= f) ≡ Ok y → (x : A) × (r ≡ Ok x) × (f x ≡ Ok y)
bind_ok (Ok x) f y e = (x, refl, e)
bind_ok (Err d) f y e = absurd cc

abbrev done : {A : Type 0} → A → Result A LineError
done x = Ok x

pub ok_is : {A : Type 0} (x y : A) → done x ≡ done y → x ≡ y
ok_is x y e = cc
