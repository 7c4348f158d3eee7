use Rattle.std.proofs.Common.{◌<◌, ◌≤◌, arith, get_or, length}
use Rattle.std.proofs.lemmas.List.{get_or_default}
use Rattle.zt_check_faces.proofs.Untold.{all_pass, pairs_all, pairs_more}
use Rattle.zt_check_faces.proofs.told.drop_pairs.Goals as goal

pub loop-id-init : goal.loop-id-init
loop-id-init g c = record { gone = all_pass c.args.rows.now.items; rise = c.requires.rise }

pub loop-id-preserved : goal.loop-id-preserved
loop-id-preserved g c =
    let ids = c.args.ids.now in
    let i = c.loop-id.id-index in
    let within : i < length ids = omega arith in
    record {
      gone =
          pairs_more g.K.Ord.cmp ids i (get_or ids i 0) c.args.expr.now c.args.rows.now.items c.loop-id.rows.items c.drop_pair.new.rows.items within (get_or_default ids i 0 (get_or ids i 0) within) c.loop-id.invariant.gone c.drop_pair.ensures.gone;
      rise = c.drop_pair.ensures.rise;
    }

pub returns-clause-gone : goal.returns-clause-gone
returns-clause-gone g c =
    let past : length c.args.ids.now ≤ c.loop-id.id-index = omega arith in
    pairs_all g.K.Ord.cmp c.args.ids.now c.loop-id.id-index c.args.expr.now c.args.rows.now.items c.loop-id.rows.items past c.requires.named c.loop-id.invariant.gone
