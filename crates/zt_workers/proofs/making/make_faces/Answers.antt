use Rattle.std.proofs.Common.{[], map, drop, sym, ap, ◌∙◌, refl, rules, subst, arith}
use Rattle.zt_protocol.specs.Plain.{plain_entry, plain_line}
use Rattle.zt_laws.specs.Sound.{HasFirstIds}
use Rattle.zt_model.specs.Transcript.{Each}
use Rattle.zt_workers.proofs.MadeLemmas.{left_at, left_none, made_all, made_pushed, made_start, rows_left}
use Rattle.zt_workers.proofs.making.make_faces.Goals as goal

pub loop-line-init : goal.loop-line-init
loop-line-init g c = record {
  so_far = made_start g.K.Ord.cmp g.K.Key.matching (map plain_line c.args.lines.now) c.args.gateway.now.rows (map plain_entry c.new-entries.result.items) (search rules);
  first = c.requires.first;
  quiet = c.requires.quiet;
}

pub returns-clause-entries : goal.returns-clause-entries
returns-clause-entries g c =
    let inv = c.loop-line.invariant in
    made_all g.K.Ord.cmp g.K.Key.matching (map plain_line c.args.lines.now) _ c.args.gateway.now.rows c.loop-line.gateway.rows (map plain_entry c.loop-line.entries.items) inv.so_far (left_none plain_line c.args.lines.now c.loop-line.line-index c.loop-line-test.false)

pub loop-line-preserved : goal.loop-line-preserved
loop-line-preserved g c =
    let inv = c.loop-line.invariant in
    let left = left_at plain_line c.args.lines.now c.loop-line.line-index c.line-item.result c.loop-line-test.true c.line-item.is in
    let made = c.in_ok-make_face.ensures in
    record {
      so_far = made_pushed g.K.Ord.cmp g.K.Key.matching (map plain_line c.args.lines.now) _ _ (plain_line c.line-item.result) c.args.gateway.now.rows c.loop-line.gateway.rows c.make_face.new.gateway.rows c.loop-line.entries.items c.push.new.self.items _
          inv.so_far left made.entry (ap (λ gateway. gateway.rows) made.done) c.in_ok-push.ensures.items;
      first = (subst (Each HasFirstIds) left inv.first).1;
      quiet = ap (λ gateway. gateway.waiting) made.done;
    }

pub returns-clause-done : goal.returns-clause-done
returns-clause-done g c =
    let inv = c.loop-line.invariant in
    rows_left g.K.Ord.cmp g.K.Key.matching (map plain_line c.args.lines.now) _ c.args.gateway.now.rows c.loop-line.gateway (map plain_entry c.loop-line.entries.items) inv.so_far (left_none plain_line c.args.lines.now c.loop-line.line-index c.loop-line-test.false) inv.quiet
