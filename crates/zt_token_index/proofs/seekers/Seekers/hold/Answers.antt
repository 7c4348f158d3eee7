use Rattle.std.proofs.Common.{ap, refl, sym, ◌∙◌}
use Rattle.zt_protocol.specs.Interest.{is_future}
use Rattle.zt_token_index.proofs.SeekersChanged.{seekers-held, seekers-unchanged}
use Rattle.zt_token_index.proofs.seekers.Seekers.hold.Goals as goal

pub returns-in_ok-put_held : goal.returns-in_ok-put_held
returns-in_ok-put_held g c pendings =
    let future = ap is_future (sym c.mode.ensures) ∙ sym c.is_future.ensures ∙ c.if-is_future.true in
    rw (← c.self.view_is) (seekers-held g.K.Ord.cmp g.K.Key.anchored c.args.f.now c.args.id c.args.interest.now pendings future c.drop_held.ensures.ordered _ _ _ _ refl refl c.drop_held.ensures.tokens c.drop_held.ensures.others (rw c.number.ensures at c.in_ok-put_held.ensures.tokens) (rw c.number.ensures at c.in_ok-put_held.ensures.others))

pub returns-else-is_future : goal.returns-else-is_future
returns-else-is_future g c pendings =
    let future = ap is_future (sym c.mode.ensures) ∙ sym c.is_future.ensures ∙ c.if-is_future.false in
    seekers-unchanged g.K.Ord.cmp g.K.Key.anchored c.args.f.now c.args.id c.args.interest.now pendings future c.args.self.now
