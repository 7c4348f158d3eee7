-- The regions that a link gives its two ends, where both gateways are clients: they can't both lead up, nor both down.
use Rattle.std.proofs.Common.{◌≡◌, true, not, Option, Some, None, option_map, Ok, Err, Result, refl, sym, subst}
use Rattle.zt_region.specs.declared.region.Bound.{Bound}
use Rattle.zt_region.specs.declared.region.Region.{Region}
use Rattle.zt_region.specs.declared.region.Region.TheVariants.{North, Local, South}
use Rattle.zt_region.specs.declared.region.RegionError.{RegionError}
use Rattle.zt_region.specs.declared.region.WhatAmI.{WhatAmI}
use Rattle.zt_region.specs.declared.region.WhatAmI.TheVariants.{Client}
use Rattle.zt_region.specs.Region.{bound_of, is_north}
use Rattle.zt_region.specs.Tables.{RegionAnswer, agreed_after}
use Rattle.zt_model.specs.Hat.{hat_of}
use Rattle.zt_laws.proofs.Lists.{never}

-- what an end is given, by both transient regions
abbrev pub given_end : WhatAmI → WhatAmI → Result (Option Region) RegionError → Result (Option Region) RegionError → RegionAnswer
given_end own remote mine (Ok theirs) = agreed_after own remote mine (option_map bound_of theirs)
given_end own remote mine (Err e) = Err e

abbrev Fits : RegionAnswer → Type 0
Fits (Ok given) = (hat_of Client given.0).fits given.0 Client given.1 ≡ true
Fits (Err e) = ⊥

abbrev OneUp : RegionAnswer → RegionAnswer → Type 0
OneUp (Ok one) (Ok two) = is_north two.0 ≡ not (is_north one.0)
OneUp _ _ = Unit {0}

one_up_clients : (t1 t2 : Result (Option Region) RegionError) → Fits (given_end Client Client t1 t2) → Fits (given_end Client Client t2 t1) → OneUp (given_end Client Client t1 t2) (given_end Client Client t2 t1)
one_up_clients (Err e) (Err f) fits1 fits2 = absurd fits1
one_up_clients (Err e) (Ok o) fits1 fits2 = absurd fits1
one_up_clients (Ok o) (Err e) fits1 fits2 = absurd fits1
one_up_clients (Ok None) (Ok None) fits1 fits2 = absurd fits1
one_up_clients (Ok None) (Ok (Some North)) fits1 fits2 = absurd fits1
one_up_clients (Ok None) (Ok (Some Local)) fits1 fits2 = refl
one_up_clients (Ok None) (Ok (Some (South i m))) fits1 fits2 = refl
one_up_clients (Ok (Some North)) (Ok None) fits1 fits2 = absurd fits1
one_up_clients (Ok (Some North)) (Ok (Some North)) fits1 fits2 = never fits1 refl
one_up_clients (Ok (Some North)) (Ok (Some Local)) fits1 fits2 = refl
one_up_clients (Ok (Some North)) (Ok (Some (South i m))) fits1 fits2 = refl
one_up_clients (Ok (Some Local)) (Ok None) fits1 fits2 = refl
one_up_clients (Ok (Some Local)) (Ok (Some North)) fits1 fits2 = refl
one_up_clients (Ok (Some Local)) (Ok (Some Local)) fits1 fits2 = absurd fits1
one_up_clients (Ok (Some Local)) (Ok (Some (South i m))) fits1 fits2 = absurd fits1
one_up_clients (Ok (Some (South i m))) (Ok None) fits1 fits2 = refl
one_up_clients (Ok (Some (South i m))) (Ok (Some North)) fits1 fits2 = refl
one_up_clients (Ok (Some (South i m))) (Ok (Some Local)) fits1 fits2 = absurd fits1
one_up_clients (Ok (Some (South i m))) (Ok (Some (South j k))) fits1 fits2 = absurd fits1

pub one_up_of_clients : (t1 t2 : Result (Option Region) RegionError) (r1 r2 : Region) (b1 b2 : Bound) → given_end Client Client t1 t2 ≡ Ok (r1, b1) → given_end Client Client t2 t1 ≡ Ok (r2, b2) → (hat_of Client r1).fits r1 Client b1 ≡ true → (hat_of Client r2).fits r2 Client b2 ≡ true → is_north r2 ≡ not (is_north r1)
one_up_of_clients t1 t2 r1 r2 b1 b2 one two fits1 fits2 =
    let both = one_up_clients t1 t2 (subst Fits (sym one) fits1) (subst Fits (sym two) fits2) in
    subst (λ a. OneUp a (Ok (r2, b2))) one (subst (OneUp (given_end Client Client t1 t2)) two both)
