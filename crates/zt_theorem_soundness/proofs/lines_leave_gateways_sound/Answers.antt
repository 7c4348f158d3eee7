use Rattle.zt_laws.proofs.Seen.{all_as_promised}
use Rattle.zt_theorem_soundness.proofs.Sound.{sound_after_line, sound_gateways_keep, sound_start}
use Rattle.zt_theorem_soundness.proofs.lines_leave_gateways_sound.Goals as goal

pub returns : goal.returns
returns g c = record {
  start = sound_start g.K.Ord.cmp g.K.Key.matching;
  step = λ line s real sound. sound_after_line g.K.Ord.cmp g.K.Key.matching g.met.K.Ord.total g.met.K.Key.laws.equal_is_same line s real sound;
  keeps = λ s sound. all_as_promised g.K.Ord.cmp g.K.Key.matching s (sound_gateways_keep g.K.Ord.cmp g.K.Key.matching s sound);
}
