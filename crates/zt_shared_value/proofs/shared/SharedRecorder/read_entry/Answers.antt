use Rattle.std.proofs.Common.{rules, ◌≡◌, length, refl, ap, ◌∙◌, subst}
use Rattle.std.specs.Prelude.{IfOk}
use Rattle.zt_shared_value.specs.Plays.{part_left, part_looked}
use Rattle.zt_shared_value.specs.Copies.{Copies}
use Rattle.zt_shared_value.specs.Passes.{Standing, standing, pass_looked, Finds}
use Rattle.zt_shared_value.proofs.Standings.{seen_so, finds_of, standing_read}
use Rattle.zt_shared_value.proofs.shared.SharedRecorder.read_entry.Goals as goal

pub invariant_of-pass-inside : goal.invariant_of-pass-inside
invariant_of-pass-inside g c = let one = c.pass.inside.one in
    let turn = (c.read-length.ensures.told one.0 one.1.0).0 in
    ((part_looked c.read-length.result.0 (part_left one.0.seen turn.taken one.0), (turn.is, (one.1.1.0, (refl, (one.1.1.1.1.0, refl))))), tt)

pub returns-clause-finds : goal.returns-clause-finds
returns-clause-finds g c = let one = c.pass.inside.one in
    let J = g.J.Recorder in
    let turn = (c.read-length.ensures.told one.0 one.1.0).0 in
    let part = part_looked c.read-length.result.0 (part_left one.0.seen turn.taken one.0) in
    let F : Standing g.row.J.Denot → Type 0 = λ s. Finds J.journal J.author c.args.pass.now s.found in
    let finds : F (standing c.read-length.new.seat.table_id part) =
    finds_of J.journal J.author J.state c.pass.inside.seat.table_id c.read-length.new.seat.table_id one.0 c.args.pass.now c.pass.view_is c.read-length.ensures.seat.0 turn.taken turn.continues in
    search (rules, seen_so c.read-length.new.seat.me c.read-length.new.seat.table_id part F turn.is finds)

pub returns-clause-looked : goal.returns-clause-looked
returns-clause-looked g c = let one = c.pass.inside.one in
    let J = g.J.Recorder in
    let turn = (c.read-length.ensures.told one.0 one.1.0).0 in
    let part = part_looked c.read-length.result.0 (part_left one.0.seen turn.taken one.0) in
    let F : Standing g.row.J.Denot → Type 0 = λ s. s ≡ pass_looked (length (J.journal s.found)) (record c.args.pass.now { found = s.found }) in
    let looked : F (standing c.read-length.new.seat.table_id part) =
    standing_read c.pass.inside.seat.table_id c.read-length.new.seat.table_id one.0 c.args.pass.now c.pass.view_is c.read-length.ensures.seat.0 c.read-length.result.0 turn.taken
    ∙ ap (λ n. pass_looked n (record c.args.pass.now { found = turn.taken })) turn.whole in
    search (rules, seen_so c.read-length.new.seat.me c.read-length.new.seat.table_id part F turn.is looked)

pub returns-clause-copied : goal.returns-clause-copied
returns-clause-copied g c = let one = c.pass.inside.one in
    let J = g.J.Recorder in
    let told = c.read-length.ensures.told one.0 one.1.0 in
    let part = part_looked c.read-length.result.0 (part_left one.0.seen told.0.taken one.0) in
    let F : Standing g.row.J.Denot → Type 0 = λ s. IfOk c.read-length.result.1 (λ found. Copies J.journal J.shows s.found c.args.place found) in
    let copied : F (standing c.read-length.new.seat.table_id part) = told.1 in
    search (rules, seen_so c.read-length.new.seat.me c.read-length.new.seat.table_id part F told.0.is copied)

pub returns-clause-replay : goal.returns-clause-replay
returns-clause-replay g c = let one = c.pass.inside.one in
    let J = g.J.Recorder in
    let told = c.read-length.ensures.told one.0 one.1.0 in
    let part = part_looked c.read-length.result.0 (part_left one.0.seen told.0.taken one.0) in
    let F : Standing g.row.J.Denot → Type 0 = λ s. J.is_replay (J.state s.opening) (J.journal s.found) in
    let replay : F (standing c.read-length.new.seat.table_id part) =
    subst (λ state. J.is_replay state (J.journal told.0.taken)) told.0.continues.opened told.2 in
    search (rules, seen_so c.read-length.new.seat.me c.read-length.new.seat.table_id part F told.0.is replay)
