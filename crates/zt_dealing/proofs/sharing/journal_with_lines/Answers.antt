use Rattle.std.proofs.Common.{◌≡◌, length, map, subst, sym, ap, arith, refl}
use Rattle.std.proofs.lemmas.List.{length-map}
use Rattle.std.specs.List.{AllByRecursion}
use Rattle.zt_shared_value.specs.Passes.{Standing}
use Rattle.zt_shared.specs.Recorded.{Recorded, journalled}
use Rattle.zt_dealing.specs.declared.working.Done.{Done}
use Rattle.zt_dealing.proofs.DealLemmas.{all_of_map}
use Rattle.zt_dealing.proofs.OrderLemmas.{made_by_passes}
use Rattle.zt_dealing.proofs.sharing.journal_with_lines.Goals as goal

pub close-requires-clause-some : goal.close-requires-clause-some
close-requires-clause-some g c =
    let same = ap length c.in_ok-passes.ensures.passes in
    omega (arith, length-map c.args.all.items (λ (done : Done g.row.K.Denot). done.pass), c.requires.some)

pub close-requires-clause-own : goal.close-requires-clause-own
close-requires-clause-own g c =
    subst (AllByRecursion (λ (pass : Standing (Recorded g.row.K.Denot)). pass.table ≡ c.args.shared)) (sym c.in_ok-passes.ensures.passes)
    (all_of_map (λ (pass : Standing (Recorded g.row.K.Denot)). pass.table ≡ c.args.shared) (λ (done : Done g.row.K.Denot). done.pass) c.args.all.items c.requires.own)

pub returns-clause-whole : goal.returns-clause-whole
returns-clause-whole g c = rw (← c.in_ok-passes.ensures.passes) c.in-Ok.ensures.ok

pub returns-clause-made : goal.returns-clause-made
returns-clause-made g c = λ opening dealt done.
    let all = c.args.all.items in
    let whole = rw (c.in_ok-passes.ensures.passes) at c.in-Ok.ensures.ok in
    let have = rw (c.as_slice.ensures.value, c.as_slice-2.ensures.value, c.in_ok-passes.ensures.queues) at c.in_ok-lines.ensures in
    made_by_passes g.K.Ord.cmp g.K.Key.matching c.args.shared opening (length all) dealt all (map journalled c.in-Ok.journal.entries.items) c.in_ok-lines.lines.items c.requires.some refl done whole have
