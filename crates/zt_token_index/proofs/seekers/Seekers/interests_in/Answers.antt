use Rattle.std.proofs.Common.{flat_map}
use Rattle.zt_token_index.specs.Seekers.{token_rows}
use Rattle.zt_token_index.proofs.seekers.Seekers.interests_in.Goals as goal

pub returns : goal.returns
returns g c fs are = let there = rw (← c.self.view_is) at are in c.interests_in.ensures (flat_map token_rows fs) there.index
