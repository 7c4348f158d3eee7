use Rattle.std.proofs.lemmas.Result.{on_ok_weaker}
use Rattle.zt_indexes.specs.Live.{HasOneMore}
use Rattle.zt_indexes.specs.Recounts.{recounts-more, recounts-then}
use Rattle.zt_model.specs.Telling.{registered, unregistered}
use Rattle.zt_model.specs.Visible.{rows_of_face}
use Rattle.zt_state.proofs.Recounted.{row-put}
use Rattle.zt_state.proofs.live.recount.Goals as goal

pub returns : goal.returns
returns g c =
    let cmp = g.K.Ord.cmp in
    let f = c.args.f.now in
    let e = c.args.expr.now in
    on_ok_weaker c.add.result
    (λ (more : HasOneMore cmp c.region.result e c.uncount.new.live c.add.new.self).
    recounts-then cmp (rows_of_face f) (rows_of_face (unregistered c.args.id f)) (rows_of_face (registered c.args.id e f)) c.args.live.now c.uncount.new.live c.add.new.self c.uncount.ensures
    (row-put cmp f.region c.args.id f.live c.requires c.uncount.new.live c.add.new.self e
    (recounts-more cmp g.met.K.Ord.total f.region e c.uncount.new.live c.add.new.self (rw c.region.ensures at more))))
    c.add.ensures.ok
