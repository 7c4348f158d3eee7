use Rattle.std.proofs.Common.{option_map}
use Rattle.std.proofs.lemmas.Result.{on_ok_weaker}
use Rattle.zt_protocol.specs.Plain.{plain_call}
use Rattle.zt_check_fabric.proofs.Carried.{link_opened}
use Rattle.zt_check_fabric.proofs.fabric.ShownFabric.open_link.Goals as goal

pub returns : goal.returns
returns g c =
    let x = c.args in
    on_ok_weaker c.open_end-2.result
    (λ done.
    link_opened g.K.Ord.cmp g.K.Key.matching x.self.now c.add_link.new.self c.open_end.new.self c.open_end-2.new.self x.one x.two x.first x.back (option_map plain_call c.in_ok-calls.calls.0) (option_map plain_call c.in_ok-calls.calls.1)
    c.in_ok-calls.ensures.one c.in_ok-calls.ensures.two c.in_ok-add_link.ensures c.in_ok-open_end.ensures done)
    c.open_end-2.ensures
