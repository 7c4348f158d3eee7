use Rattle.std.proofs.Common.{ap, subst, sym, ◌∙◌}
use Rattle.zt_model.specs.Rows.{Face}
use Rattle.zt_faces.specs.Rising.{IsRising}
use Rattle.zt_faces.specs.Routers.{AreStandings}
use Rattle.zt_faces.specs.Slots.{faces_in, number_of, without_face}
use Rattle.zt_faces.proofs.Gaps.{closed-standings, dropped-in, dropped-rising, faces-none}
use Rattle.zt_faces.proofs.Rising.{none-dropped, place-changed, some-of}
use Rattle.zt_faces.proofs.by_number.close_in.Goals as goal

pub returns-in-Some-clause-faces : goal.returns-in-Some-clause-faces
returns-in-Some-clause-faces g c =
    let slots = c.args.slots.now.items in
    let at = rw c.as_slice.ensures.value at c.in-Some.ensures.found in
    let s = some-of slots c.in-Some.place at.within in
    ap faces_in (c.close_at.ensures.slots s ∙ sym (place-changed number_of c.args.number without_face slots c.in-Some.place s c.requires.rising at.within (at.there s)))
    ∙ dropped-in c.args.number slots

pub returns-in-Some-clause-rising : goal.returns-in-Some-clause-rising
returns-in-Some-clause-rising g c =
    let slots = c.args.slots.now.items in
    let at = rw c.as_slice.ensures.value at c.in-Some.ensures.found in
    let s = some-of slots c.in-Some.place at.within in
    subst (IsRising number_of) (sym (c.close_at.ensures.slots s ∙ sym (place-changed number_of c.args.number without_face slots c.in-Some.place s c.requires.rising at.within (at.there s))))
    (dropped-rising c.args.number slots c.requires.rising)

pub returns-in-Some-clause-standings : goal.returns-in-Some-clause-standings
returns-in-Some-clause-standings g c =
    let slots = c.args.slots.now.items in
    let at = rw c.as_slice.ensures.value at c.in-Some.ensures.found in
    let s = some-of slots c.in-Some.place at.within in
    subst (AreStandings c.close_at.new.routers.keys) (sym (returns-in-Some-clause-faces g c))
    (closed-standings c.args.number c.args.routers.now.keys c.close_at.new.routers.keys slots c.in-Some.place s c.requires.rising at.within (at.there s) c.requires.standings (c.close_at.ensures.standings s))

pub returns-in-None-clause-faces : goal.returns-in-None-clause-faces
returns-in-None-clause-faces g c =
    sym (none-dropped (λ (x : Face g.row.K.Denot). x.number) c.args.number (faces_in c.args.slots.now.items) (faces-none c.args.number c.args.slots.now.items (rw c.as_slice.ensures.value at c.in-None.ensures.none)))
