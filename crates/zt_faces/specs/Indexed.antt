-- What the look-ups beside a gateway's faces have to be.
--     AreFound next standings askers keys slots     numbers rise, no next id is above `next`, the faces are found by
--                                                   their routers, each ask is known by what it was sent as, and each
--                                                   pending by when it was sent
use Rattle.std.specs.Prelude.{ℕ, List}
use Rattle.zt_faces.specs.Asked.{AreAsked, Askings}
use Rattle.zt_faces.specs.Rising.{AreUpTo, IsRising}
use Rattle.zt_faces.specs.Routers.{AreStandings}
use Rattle.zt_faces.specs.Slots.{faces_in, number_of}
use Rattle.zt_faces.specs.Timed.{AreTimed}
use Rattle.zt_faces.specs.declared.by_router.Standing.{Standing}
use Rattle.zt_faces.specs.declared.by_time.Timed.{Timed}
use Rattle.zt_faces.specs.declared.slots.Slot.{Slot}

pub record AreFound {K : Type 0} (next : ℕ) (standings : List Standing) (askers : Askings) (keys : List Timed) (slots : List (Slot K)) : Type 0 where
  pub rising : IsRising number_of slots
  pub up_to : AreUpTo (λ f. f.next) next (faces_in slots)
  pub routers : AreStandings standings (faces_in slots)
  pub asked : AreAsked askers (faces_in slots)
  pub timed : AreTimed keys (faces_in slots)
