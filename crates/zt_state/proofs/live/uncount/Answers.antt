use Rattle.std.proofs.Common.{ap, sym, ◌∙◌}
use Rattle.zt_indexes.specs.Recounts.{recounts-less, recounts-none}
use Rattle.zt_model.specs.Lists.{at_id}
use Rattle.zt_model.specs.Visible.{rows_of_face}
use Rattle.zt_state.proofs.Recounted.{not-found-kept, row-gone}
use Rattle.zt_state.proofs.live.uncount.Goals as goal

pub returns-in-Some : goal.returns-in-Some
returns-in-Some g c =
    let f = c.args.f.now in
    let less = rw c.region.ensures at c.remove.ensures.less in
    row-gone g.K.Ord.cmp f.region c.args.id f.live c.requires c.args.live.now c.remove.new.self c.in-Some.expr.now
    (sym (c.in-Some.ensures.row ∙ ap (at_id c.args.id) c.live.ensures))
    (recounts-less g.K.Ord.cmp g.met.K.Ord.total f.region c.in-Some.expr.now c.args.live.now c.remove.new.self less)

pub returns-in_default : goal.returns-in_default
returns-in_default g c =
    let f = c.args.f.now in
    rw (not-found-kept c.args.id f.live (sym (c.in_default.ensures.row ∙ ap (at_id c.args.id) c.live.ensures))) (recounts-none g.K.Ord.cmp (rows_of_face f) c.args.live.now)
