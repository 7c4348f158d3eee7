use Rattle.std.proofs.Common.{◌≡◌, [], ◌∷◌, ◌++◌, map, sym, ap, ◌∙◌, subst, arith}
use Rattle.std.specs.List.{AllByRecursion}
use Rattle.zt_shared_value.specs.Passes.{Standing, part_of}
use Rattle.zt_shared_value.proofs.ViewSums.{AllByRecursion-left, AllByRecursion-right}
use Rattle.zt_shared_value.proofs.Accounting.{popped, parts-popped}
use Rattle.zt_shared_value.proofs.Stepping.{joins}
use Rattle.zt_shared_value.proofs.closing.joined.Goals as goal

pub loop-pass-init : goal.loop-pass-init
loop-pass-init g c =
    let Own : Standing g.row.J.Denot → Type 0 = λ pass. pass.table ≡ c.args.top.now.table_id in
    let pass = c.unwrap.result in
    let rest = c.pop.new.self.items in
    let items = popped c.args.passes.items rest c.pop.result pass c.pop.ensures.items c.unwrap.ensures in
    let own : AllByRecursion Own (rest ++ pass ∷ []) = subst (AllByRecursion Own) items c.requires.own in
    let seat = c.into_seat-seat.ensures in (
      parts-popped c.args.passes.items rest pass items ∙ ap (λ me. map part_of rest ++ me.0) (sym seat.1),
      ap (λ me. me.1) seat.1,
      seat.0 ∙ (AllByRecursion-right Own rest (pass ∷ []) own).0,
      AllByRecursion-left Own rest (pass ∷ []) own,
    )

pub join_seat-requires : goal.join_seat-requires
join_seat-requires g c =
    let Own : Standing g.row.J.Denot → Type 0 = λ pass. pass.table ≡ c.args.top.now.table_id in
    let pass = c.in-Some.pass in
    let rest = c.pop-in-loop-pass.new.self.items in
    let items = popped c.loop-pass.rest.items rest c.pop-in-loop-pass.result pass c.pop-in-loop-pass.ensures.items c.in-Some.is in
    let own : AllByRecursion Own (rest ++ pass ∷ []) = subst (AllByRecursion Own) items c.loop-pass.invariant.3 in
    let seat = c.into_seat.ensures in
    let words = c.requires.table.0 in (
      c.loop-pass.invariant.2,
      seat.0 ∙ (AllByRecursion-right Own rest (pass ∷ []) own).0,
      ap (λ me. me.1) seat.1,
      omega arith,
      joins g.J.Recorder.journal g.J.Recorder.author g.J.Recorder.state c.args.top.now.key.value c.loop-pass.seat.id c.into_seat.result.id c.loop-pass.seat.me.0 c.into_seat.result.me.0,
    )
