use Rattle.std.proofs.Common.{string_bytes}
use Rattle.zt_watchers.specs.Text.{key_line}
use Rattle.zt_watchers.proofs.PollLemmas.{lines_more}
use Rattle.zt_watchers.proofs.printing.put_keys.Goals as goal

pub loop-key-preserved : goal.loop-key-preserved
loop-key-preserved g c =
    lines_more (key_line g.K.Key.printed c.args.mark.now) c.args.keys.now c.loop-key.key-index c.key-item.result
    (string_bytes c.args.text.now) (string_bytes c.loop-key.text) (string_bytes c.put_key.new.text)
    c.loop-key-test.true c.key-item.is c.loop-key.invariant c.in_ok-put_key.ensures
