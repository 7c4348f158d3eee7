-- What stands beside one another in a fabric: places with what waits there, and the links between places.
use Rattle.std.specs.Prelude.{◌≡◌, ◌+◌, List, length}
use Rattle.zt_model.specs.Places.{Link, Place}
use Rattle.zt_link_queues.specs.Found.{AreBelow}
use Rattle.zt_link_queues.specs.Waiting.{Queued}

-- there are as many queues as places, and links join places
pub record StandTogether {K : Type 0} (queues : Queued K) (places : List Place) (links : List Link) : Type 0 where
  pub beside : length queues ≡ length places
  pub placed : AreBelow (length places + 1) links
