use Rattle.std.proofs.Common.{refl}
use Rattle.zt_watchers.proofs.BesideLemmas.{drawn_behind}
use Rattle.zt_watchers.proofs.sharing.pass_behind.Goals as goal

pub returns : goal.returns
returns g c =
    drawn_behind c.args.shared.now c.args.jobs.items c.pop.new.self.items c.push.new.self.items c.in-Some.last (record { pass = c.pass.new.pass; calls = c.in-Some.last.calls }) c.in-Ok.own.number c.in-Ok.own
    c.in-Some.ensures.items c.in-Ok.ensures.drawn refl c.in-Ok.ensures.made c.in-Ok.ensures.fresh.0 c.in_ok-push.ensures.items
