use Rattle.std.proofs.Common.{◌&&◌, not, ap, ◌∙◌}
use Rattle.std.specs.List.{list_any}
use Rattle.zt_check_keeping.specs.Owing.{lacks}
use Rattle.zt_check_keeping.proofs.owing.keeps_near.Goals as goal

pub returns : goal.returns
returns g c =
    let x = c.args in
    let cmp = g.K.Ord.cmp in
    let matching = g.K.Key.matching in
    ap not (c.any_near.ensures ∙ ap (λ refused. list_any (λ source. list_any (λ row. matching x.key.now row.1 && lacks cmp matching refused x.face.now source row.1) source.live) x.rows.now.faces) c.refused.ensures)
