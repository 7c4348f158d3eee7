use Rattle.std.proofs.Common.{string_bytes}
use Rattle.zt_breaks.specs.Sentences.{break_text}
use Rattle.zt_breaks.proofs.Lines.{lines_more}
use Rattle.zt_breaks.proofs.sentences.put_breaks.Goals as goal

pub loop-told-preserved : goal.loop-told-preserved
loop-told-preserved g c =
    lines_more (break_text g.K.Key.printed) c.args.breaks.now c.loop-told.told-index c.told-item.result
    (string_bytes c.args.out.now) (string_bytes c.loop-told.out) (string_bytes c.put_break.new.out)
    c.loop-told-test.true c.told-item.is c.loop-told.invariant c.in_ok-put_break.ensures
