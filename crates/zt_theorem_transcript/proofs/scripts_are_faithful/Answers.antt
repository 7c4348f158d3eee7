use Rattle.zt_model.specs.Fabric.{empty_fabric}
use Rattle.zt_theorem_soundness.proofs.Sound.{sound_start}
use Rattle.zt_theorem_transcript.proofs.Whole.{faithful_from, strict_from}
use Rattle.zt_theorem_transcript.proofs.scripts_are_faithful.Goals as goal

pub returns : goal.returns
returns g c =
    let cmp = g.K.Ord.cmp in
    let matching = g.K.Key.matching in
    let total = g.met.K.Ord.total in
    let equal_is_same = g.met.K.Key.laws.equal_is_same in
    record {
      faithful = λ lines real named. faithful_from cmp matching total equal_is_same lines empty_fabric real named (sound_start cmp matching) (record { gateways = tt; waiting = tt });
      strict = λ lines real. strict_from cmp matching total equal_is_same lines empty_fabric real (sound_start cmp matching);
      faithful_from = λ lines s real named sound all. faithful_from cmp matching total equal_is_same lines s real named sound all;
      strict_from = λ lines s real sound. strict_from cmp matching total equal_is_same lines s real sound;
    }
