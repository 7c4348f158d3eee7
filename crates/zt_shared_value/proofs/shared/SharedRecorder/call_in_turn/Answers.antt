use Rattle.std.proofs.Common.{rules, ◌≡◌, ℕ, ◌+◌, refl, sym, ap, ◌∙◌, subst}
use Rattle.zt_shared_value.specs.Plays.{part_left}
use Rattle.zt_shared_value.specs.Passes.{Standing, standing, Adds, Finds}
use Rattle.zt_shared_value.proofs.Standings.{seen_so, adds_of, finds_of, standing_left}
use Rattle.zt_shared_value.proofs.shared.SharedRecorder.call_in_turn.Goals as goal

pub overflow_add-pass : goal.overflow_add-pass
overflow_add-pass g c = let one = c.pass.inside.one in
    let room = (c.in-Ok.ensures.ok one.0 one.1.0).1.room in search rules

pub invariant_of-pass-inside : goal.invariant_of-pass-inside
invariant_of-pass-inside g c = let one = c.pass.inside.one in
    let turn = (c.in-Ok.ensures.ok one.0 one.1.0).1 in
    ((part_left (c.in-Ok.place + 1) turn.left one.0, (turn.is, (one.1.1.0, (refl, (one.1.1.1.1.0, refl))))), tt)

pub invariant_of-pass-inside-in-Err-1 : goal.invariant_of-pass-inside-in-Err-1
invariant_of-pass-inside-in-Err-1 g c = let one = c.pass.inside.one in
    let was = (c.in-Err.ensures.err one.0 one.1.0).0 in
    ((part_left one.0.seen was.taken one.0, (was.is, (one.1.1.0, (one.1.1.1.0, (one.1.1.1.1.0, refl))))), tt)

pub returns-in-Ok-clause-ok : goal.returns-in-Ok-clause-ok
returns-in-Ok-clause-ok g c = let one = c.pass.inside.one in
    let made = c.in-Ok.ensures.ok one.0 one.1.0 in
    let place = c.in-Ok.place in
    let entry = made.0 in
    let turn = made.1 in
    let J = g.J.Recorder in
    let pass = c.args.pass.now in
    let left = part_left (place + 1) turn.left one.0 in
    let F : Standing g.row.J.Denot → Type 0 = λ s. (place : ℕ) × (entry : J.Entered)
    × Adds J.journal J.author pass s place entry
    × (J.author entry ≡ pass.number) × J.is_entry_of c.args.call entry × J.tells place entry c.in-Ok.receipt
    × J.is_replay (J.state s.opening) (J.journal s.found) in
    let by : J.author entry ≡ one.0.number = made.2 ∙ sym one.1.1.0 in
    let done : F (standing c.call.new.seat.table_id left) = (
      place,
      entry,
      adds_of J.journal J.author J.state c.pass.inside.seat.table_id c.call.new.seat.table_id one.0 pass c.pass.view_is c.call.ensures.seat.0 c.call.new.seat.me place entry turn by,
      by ∙ ap (λ s. s.number) c.pass.view_is,
      made.3,
      made.4,
      subst (λ state. J.is_replay state (J.journal turn.left)) turn.opened made.5,
    ) in
    search (rules, seen_so c.call.new.seat.me c.call.new.seat.table_id left F turn.is done)

pub returns-in-Err-clause-err : goal.returns-in-Err-clause-err
returns-in-Err-clause-err g c = let one = c.pass.inside.one in
    let was = (c.in-Err.ensures.err one.0 one.1.0).0 in
    let J = g.J.Recorder in
    let pass = c.args.pass.now in
    let left = part_left one.0.seen was.taken one.0 in
    let F : Standing g.row.J.Denot → Type 0 = λ s. Finds J.journal J.author pass s.found × (s ≡ record pass { found = s.found }) in
    let done : F (standing c.call.new.seat.table_id left) = (
      finds_of J.journal J.author J.state c.pass.inside.seat.table_id c.call.new.seat.table_id one.0 pass c.pass.view_is c.call.ensures.seat.0 was.taken was.continues,
      standing_left c.pass.inside.seat.table_id c.call.new.seat.table_id one.0 pass c.pass.view_is c.call.ensures.seat.0 was.taken,
    ) in
    search (rules, seen_so c.call.new.seat.me c.call.new.seat.table_id left F was.is done)

pub returns-in-Err-clause-replay : goal.returns-in-Err-clause-replay
returns-in-Err-clause-replay g c = let one = c.pass.inside.one in
    let told = c.in-Err.ensures.err one.0 one.1.0 in
    let was = told.0 in
    let J = g.J.Recorder in
    let left = part_left one.0.seen was.taken one.0 in
    let F : Standing g.row.J.Denot → Type 0 = λ s. J.is_replay (J.state s.opening) (J.journal s.found) in
    let replay : F (standing c.call.new.seat.table_id left) = subst (λ state. J.is_replay state (J.journal was.taken)) was.continues.opened told.1 in
    search (rules, seen_so c.call.new.seat.me c.call.new.seat.table_id left F was.is replay)
