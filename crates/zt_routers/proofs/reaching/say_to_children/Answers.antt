use Rattle.zt_routers.specs.Reached.{are_at_children}
use Rattle.zt_routers.proofs.Noted.{unnoted}
use Rattle.zt_routers.proofs.reaching.say_to_children.Goals as goal

pub say_among-requires : goal.say_among-requires
say_among-requires g c =
    λ f off. c.requires f (unnoted (are_at_children c.args.g.now c.args.region c.args.children.now) _ _ c.in_ok-note_children.ensures f off)
