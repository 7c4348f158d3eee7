use Rattle.std.proofs.Common.{◌≡◌, ℕ, List, true, false, ap, map, sym, ◌∙◌}
use Rattle.zt_model.specs.Visible.{shows}
use Rattle.zt_check_causes.specs.Keys.{with_keys}
use Rattle.zt_check_causes.proofs.Seen.{face_seen, face_unseen}
use Rattle.zt_check_causes.proofs.expressions.add_face.Goals as goal

pub returns-in_ok-add_live : goal.returns-in_ok-add_live
returns-in_ok-add_live g c =
    let x = c.args in
    let seen : shows x.mode x.own x.face.now.region ≡ true = sym (c.shows.ensures ∙ ap (shows x.mode x.own) c.region.ensures) ∙ c.if-shows.true in
    c.in_ok-add_live.ensures
    ∙ ap (λ (es : List g.row.K.Denot). with_keys g.K.Ord.cmp es x.exprs.now.items)
    (ap (map (λ (row : ℕ × g.row.K.Denot). row.1)) c.live.ensures ∙ face_seen x.mode x.own x.face.now seen)

pub returns-else-shows : goal.returns-else-shows
returns-else-shows g c =
    let x = c.args in
    let unseen : shows x.mode x.own x.face.now.region ≡ false = sym (c.shows.ensures ∙ ap (shows x.mode x.own) c.region.ensures) ∙ c.if-shows.false in
    ap (λ (es : List g.row.K.Denot). with_keys g.K.Ord.cmp es x.exprs.now.items) (face_unseen x.mode x.own x.face.now unseen)
