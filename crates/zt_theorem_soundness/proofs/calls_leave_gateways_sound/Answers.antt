use Rattle.zt_theorem_soundness.proofs.Calls.{sound_after_any, sound_after_call}
use Rattle.zt_theorem_soundness.proofs.calls_leave_gateways_sound.Goals as goal

pub returns : goal.returns
returns g c = record {
  accepted = λ spent call rows real accepted sound. sound_after_call g.K.Ord.cmp g.K.Key.matching g.met.K.Ord.total g.met.K.Key.laws.equal_is_same spent call rows real accepted sound;
  any = λ call rows real sound. sound_after_any g.K.Ord.cmp g.K.Key.matching g.met.K.Ord.total g.met.K.Key.laws.equal_is_same call rows real sound;
}
