-- What is known of one queryable more.
use Rattle.std.specs.Prelude.{Option, Some, None}
use Rattle.zt_protocol.specs.declared.messages.QueryableInfo.{QueryableInfo}
use Rattle.zt_model.specs.Entities.{merged}

abbrev pub merged_with : QueryableInfo → Option QueryableInfo → QueryableInfo
merged_with info None = info
merged_with info (Some known) = merged info known
