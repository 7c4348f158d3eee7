use Rattle.std.proofs.Common.{flat_map}
use Rattle.zt_token_index.specs.Seekers.{other_rows}
use Rattle.zt_token_index.proofs.seekers.Seekers.others_in.Goals as goal

pub returns : goal.returns
returns g c fs are = let there = rw (← c.self.view_is) at are in c.interests_in.ensures (flat_map other_rows fs) there.others
