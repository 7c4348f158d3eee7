use Rattle.std.proofs.Common.{◌≡◌, ◌||◌, not, drop}
use Rattle.std.specs.List.{list_all}
use Rattle.zt_check_keeping.specs.Owing.{is_shown_and_admitted, keeps_declared}
use Rattle.zt_check_keeping.proofs.owing.keeps_of_faces.Given as goal

-- all so far do
abbrev pub invariant-loop-source : goal.invariant-loop-source
invariant-loop-source g l =
    list_all (λ source. not (is_shown_and_admitted l.refused l.face.region source.region) || keeps_declared g.K.Ord.cmp g.K.Key.matching l.face l.id source.live) (drop l.source-index l.sources)
    ≡ list_all (λ source. not (is_shown_and_admitted l.refused l.face.region source.region) || keeps_declared g.K.Ord.cmp g.K.Key.matching l.face l.id source.live) l.sources
