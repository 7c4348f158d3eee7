use Rattle.std.proofs.Common.{◌≡◌, ◌++◌, [], ◌∷◌, subst, sym}
use Rattle.std.proofs.lemmas.Result.{on_ok_weaker}
use Rattle.zt_token_index.specs.Seekers.{AreSeekers}
use Rattle.zt_token_index.proofs.SeekersChanged.{seekers-opened}
use Rattle.zt_state.proofs.opening.open_in.Goals as goal

pub returns-clause-seekers : goal.returns-clause-seekers
returns-clause-seekers g c =
    on_ok_weaker c.push.result
    (λ (made : c.push.new.self ≡ c.args.faces.now ++ c.args.face ∷ []).
    subst (AreSeekers g.K.Ord.cmp g.K.Key.anchored c.open.new.self) (sym made)
    (rw c.in_ok-open.ensures.ok (seekers-opened g.K.Ord.cmp g.K.Key.anchored c.args.face c.requires.holds c.requires.told c.args.seekers.now c.args.faces.now c.requires.seekers)))
    c.push.ensures.ok
