use Rattle.std.proofs.Common.{ap, sym, ◌∙◌}
use Rattle.std.specs.Option.{option_copied}
use Rattle.zt_model.specs.Lists.{at_id}
use Rattle.zt_interests.proofs.Asked.{closed-finished, none-finished, some-finished}
use Rattle.zt_interests.proofs.upstream.finish_asker.Goals as goal

pub returns-in_default : goal.returns-in_default
returns-in_default g c =
    c.new-sends.ensures.items
    ∙ sym
    (closed-finished c.args.g.now c.args.face c.args.id c.args.asker c.args.under c.args.place c.args.g.now.faces c.requires.rising c.requires.asker
    (sym c.find_face.ensures ∙ ap option_copied c.in_default.is))

pub returns-in_default-at : goal.returns-in_default-at
returns-in_default-at g c =
    c.new-sends.ensures.items
    ∙ sym
    (none-finished c.args.g.now c.args.face c.args.id c.args.asker c.args.under c.args.place c.args.g.now.faces c.requires.rising c.requires.asker
    c.in-Some.f.now (sym c.find_face.ensures ∙ ap option_copied c.in-Some.is) (rw c.asks.ensures at c.at.ensures.ordered)
    (ap (at_id c.args.under) (sym c.asks.ensures) ∙ sym c.at.ensures.row ∙ ap option_copied c.in_default-at.is))

pub returns : goal.returns
returns g c =
    some-finished c.args.g.now c.args.face c.args.id c.args.asker c.args.under c.args.place c.args.g.now.faces c.requires.rising c.requires.asker
    c.in-Some.f.now (sym c.find_face.ensures ∙ ap option_copied c.in-Some.is) (rw c.asks.ensures at c.at.ensures.ordered)
    c.in-Some-at.ask.now _ _
    (ap (at_id c.args.under) (sym c.asks.ensures) ∙ sym c.at.ensures.row ∙ ap option_copied c.in-Some-at.is)
    c.new-sends.ensures.items c.in_ok-finish_row.ensures
