use Rattle.std.proofs.Common.{◌≡◌, ◌<◌, [], length, set, arith, ap, ◌∙◌}
use Rattle.std.proofs.lemmas.List.{get_or_default}
use Rattle.zt_link_queues.specs.Found.{faces_at, without_number}
use Rattle.zt_link_queues.proofs.Numbers.{faces_set, number_dropped}
use Rattle.zt_link_queues.proofs.places.drop_number.Goals as goal

pub returns-then-gateway-len : goal.returns-then-gateway-len
returns-then-gateway-len c =
    let old = c.args.numbers.now.items in
    let gateway = c.args.gateway in
    let within : gateway < length old = omega arith in
    let faces = c.index_mut.result.now in
    let there : faces ≡ faces_at gateway old = c.index_mut.ensures.value ∙ get_or_default old gateway faces [] within in
    number_dropped gateway c.args.face c.args.number c.remove.new.self old (set old gateway c.remove.new.self)
    (c.remove.ensures ∙ ap (without_number c.args.face c.args.number) there)
    (faces_set gateway c.remove.new.self old within)
