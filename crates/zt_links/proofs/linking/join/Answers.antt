use Rattle.std.proofs.Common.{ap, ◌∙◌}
use Rattle.zt_model.specs.Fabric.{Fabric, sorted_by_face}
use Rattle.zt_link_queues.specs.Waiting.{with_printed}
use Rattle.zt_links.proofs.linking.join.Goals as goal

pub returns-in-Ok-clause-says : goal.returns-in-Ok-clause-says
returns-in-Ok-clause-says g c = c.in_ok-sent.ensures ∙ ap sorted_by_face c.in_ok-append.ensures.items

pub returns-in-Ok-clause-does : goal.returns-in-Ok-clause-does
returns-in-Ok-clause-does g c =
    c.in-Ok.ensures.ok
    ∙ ap (λ ms. record c.push_link.new.self { waiting = with_printed ms c.push_link.new.self.waiting }) c.as_slice.ensures.value
    ∙ ap (λ (t : Fabric _). record t { waiting = with_printed c.in_ok-sent.sent.items t.waiting }) c.in_ok-push_link.ensures.ok
