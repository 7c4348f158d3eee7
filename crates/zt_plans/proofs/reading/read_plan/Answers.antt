use Rattle.std.proofs.Common.{ℕ, List, ap, ◌∙◌, subst}
use Rattle.zt_streams.specs.Lines.{lines_of, rest_of, whole_lines}
use Rattle.zt_streams.proofs.LineLemmas.{whole_lines-rest_of}
use Rattle.zt_plans.specs.Plans.{TextsStop, script_lines}
use Rattle.zt_plans.specs.Reading.{HasRead}
use Rattle.zt_plans.proofs.PlanLemmas.{lines_driven}
use Rattle.zt_plans.proofs.ReadLemmas.{fed_whole, last_behind, whole_stops}
use Rattle.zt_plans.proofs.reading.read_plan.Goals as goal

pub returns-then-script-clause-err : goal.returns-then-script-clause-err
returns-then-script-clause-err g c =
    let bytes = c.args.script.now.bytes.items in
    let plan = c.in-Ok.reading.plan in
    let fed = fed_whole c.feed.result _ _ _ c.feed.new.self bytes c.is_err.ensures.value c.if-is_err.false c.feed.ensures.ok c.new-feeder.ensures c.as_slice.ensures.value in
    let read : HasRead g.K.Key.reading (whole_lines bytes) c.in-Ok.reading = subst (λ (b : List ℕ). HasRead g.K.Key.reading (whole_lines b) c.in-Ok.reading) fed c.in-Ok.ensures.ok in
    (c.if-script.true, script_lines plan, read.are_read, lines_driven plan read.is.form)

pub take_rest-requires-clause-whole : goal.take_rest-requires-clause-whole
take_rest-requires-clause-whole g c = ap whole_lines c.in-Ok.ensures.rest ∙ whole_lines-rest_of c.feed.new.self

pub returns-in-Err-take_rest-clause-err : goal.returns-in-Err-take_rest-clause-err
returns-in-Err-take_rest-clause-err g c =
    let bytes = c.args.script.now.bytes.items in
    let error = c.in-Err-take_rest.error in
    let fed = fed_whole c.feed.result _ _ _ c.feed.new.self bytes c.is_err.ensures.value c.if-is_err.false c.feed.ensures.ok c.new-feeder.ensures c.as_slice.ensures.value in
    let read : HasRead g.K.Key.reading (whole_lines bytes) c.in-Ok.reading = subst (λ (b : List ℕ). HasRead g.K.Key.reading (whole_lines b) c.in-Ok.reading) fed c.in-Ok.ensures.ok in
    let all = last_behind bytes c.take_lines.new.feeder (c.in-Ok.ensures.rest ∙ ap rest_of fed) in
    whole_stops g.K.Key.reading bytes c.args.script.now.longer error c.if-script.false
    (subst (λ (texts : List (List ℕ)). TextsStop g.K.Key.reading texts error) all (c.in-Err-take_rest.ensures.err (whole_lines bytes) read))

pub returns-clause-ok : goal.returns-clause-ok
returns-clause-ok g c =
    let bytes = c.args.script.now.bytes.items in
    let new = c.take_rest.new.reading in
    let fed = fed_whole c.feed.result _ _ _ c.feed.new.self bytes c.is_err.ensures.value c.if-is_err.false c.feed.ensures.ok c.new-feeder.ensures c.as_slice.ensures.value in
    let read : HasRead g.K.Key.reading (whole_lines bytes) c.in-Ok.reading = subst (λ (b : List ℕ). HasRead g.K.Key.reading (whole_lines b) c.in-Ok.reading) fed c.in-Ok.ensures.ok in
    let all = last_behind bytes c.take_lines.new.feeder (c.in-Ok.ensures.rest ∙ ap rest_of fed) in
    let last : HasRead g.K.Key.reading (lines_of bytes) new = subst (λ (texts : List (List ℕ)). HasRead g.K.Key.reading texts new) all (c.in_default.ensures.ok (whole_lines bytes) read) in
    record { whole = c.if-script.false; are_read = last.are_read; form = last.is.form }
