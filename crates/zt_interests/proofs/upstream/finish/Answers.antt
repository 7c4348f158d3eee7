use Rattle.std.proofs.Common.{sym, ◌∙◌}
use Rattle.zt_interests.proofs.Asked.{nobody-finished}
use Rattle.zt_interests.proofs.upstream.finish.Goals as goal

pub returns-in-Nobody : goal.returns-in-Nobody
returns-in-Nobody g c =
    c.new.ensures.items ∙ sym (nobody-finished c.args.g.now c.args.face c.args.id c.args.g.now.faces (rw c.in-Nobody.is at c.asker.ensures.asker))
