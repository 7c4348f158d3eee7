use Rattle.std.proofs.Common.{◌+◌, ◌++◌, false, ap, ◌∙◌}
use Rattle.zt_model.specs.Fabric.{Fabric, at_nth, sorted_by_face}
use Rattle.zt_model.specs.Lists.{without_id}
use Rattle.zt_link_queues.specs.Waiting.{with_printed}
use Rattle.zt_links.specs.Lines.{for_others}
use Rattle.zt_links.proofs.unlinking.part.Goals as goal

pub shut_link-requires : goal.shut_link-requires
shut_link-requires g c = rw (ap (λ (t : Fabric _). t.links) c.in_ok-turn_waiting.ensures.ok) c.requires

pub returns-clause-says : goal.returns-clause-says
returns-clause-says g c =
    let one = c.args.one in
    let two = c.args.two in
    c.in_ok-sent.ensures
    ∙ ap sorted_by_face (c.in_ok-add_others-2.ensures ∙ ap (λ xs. xs ++ for_others one two c.args.second.items) (c.in_ok-add_others.ensures ∙ ap (λ xs. xs ++ for_others one two c.args.first.items) c.new-printed.ensures.items))

pub returns-clause-does : goal.returns-clause-does
returns-clause-does g c =
    let s = c.args.s.now in
    c.close_end-2.ensures
    ∙ ap (λ (t : Fabric _). record t { waiting = without_id c.args.one t.waiting })
    (c.close_end.ensures
    ∙ ap (λ (t : Fabric _). record t { waiting = without_id c.args.two t.waiting })
    (c.shut_link.ensures
    ∙ ap (λ (t : Fabric _). record t { links = at_nth (c.args.at + 1) (λ l. record l { is_open = false }) t.links })
    (c.in_ok-turn_waiting.ensures.ok ∙ ap (λ ms. record s { waiting = with_printed ms s.waiting }) c.as_slice.ensures.value)))
