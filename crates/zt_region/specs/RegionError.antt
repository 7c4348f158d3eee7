-- The numbers of the errors.
use Rattle.std.specs.Prelude.{ℕ}
use Rattle.zt_region.specs.declared.region.RegionError.{RegionError}
use Rattle.zt_region.specs.declared.region.RegionError.TheVariants.{RouterUnderNonRouter, ClientClient, RemoteConflictsWithAuto, AutoConflictsWithOwn, NorthModesDiffer, SouthSouth, MulticastLimit}

abbrev pub error_number : RegionError → ℕ
error_number RouterUnderNonRouter = 1
error_number ClientClient = 2
error_number RemoteConflictsWithAuto = 3
error_number AutoConflictsWithOwn = 4
error_number NorthModesDiffer = 5
error_number SouthSouth = 6
error_number MulticastLimit = 7
