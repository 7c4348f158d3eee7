use Rattle.std.proofs.Common.{◌∙◌, ap}
use Rattle.zt_link_queues.specs.Waiting.{waiting_from}
use Rattle.zt_link_queues.proofs.Growing.{on_ok, places_stay, waiting_grown}
use Rattle.zt_link_queues.proofs.queues.Queues.add.Goals as goal

pub returns-clause-ok : goal.returns-clause-ok
returns-clause-ok g c =
    let qs = c.self.inside.queues.items in
    on_ok c.add_all.result _ _ (λ added. rw (← c.self.view_is) (ap (waiting_from 1) added ∙ waiting_grown 1 c.args.sent.now qs)) c.add_all.ensures.ok

pub returns-clause-places : goal.returns-clause-places
returns-clause-places g c = rw (← c.self.view_is) (places_stay c.add_all.result c.args.sent.now c.self.inside.queues.items c.add_all.new.queues.items c.add_all.ensures.ok c.add_all.ensures.err)
