use Rattle.std.proofs.Common.{◌++◌, ap, filter, map, ◌∙◌}
use Rattle.std.proofs.lemmas.Result.{on_ok_weaker}
use Rattle.std.proofs.lemmas.Simd.{map-map}
use Rattle.zt_protocol.specs.declared.messages.Message.TheVariants as message
use Rattle.zt_model.specs.Routing.{asks_same}
use Rattle.zt_interests.proofs.upstream.end_same.Goals as goal

pub returns : goal.returns
returns g c =
    let n = c.args.f.now.number in
    let same = filter (λ row. asks_same g.K.Ord.cmp g.K.Key.matching c.args.interest.now row.1) c.args.f.now.locals in
    on_ok_weaker c.end_all.result
    (λ ends.
    ends
    ∙ ap (λ ids. c.args.sends.now.items ++ map (λ id. (n, message.InterestFinal id)) ids)
    (c.as_slice.ensures.value ∙ c.in_ok-ids.ensures ∙ ap (λ rows. map (λ row. row.0) (filter (λ row. asks_same g.K.Ord.cmp g.K.Key.matching c.args.interest.now row.1) rows)) c.locals.ensures)
    ∙ ap (λ said. c.args.sends.now.items ++ said) (map-map (λ id. (n, message.InterestFinal id)) (λ row. row.0) same))
    c.end_all.ensures
