use Rattle.std.proofs.Common.{◌≡◌, false, rules, sym, ◌∙◌}
use Rattle.zt_check_keeping.proofs.Owed.{all_kept}
use Rattle.zt_check_keeping.proofs.owing.keeps_all.Goals as goal

pub returns-then-not-may_be_owed : goal.returns-then-not-may_be_owed
returns-then-not-may_be_owed g c =
    let none : c.may_be_owed.result ≡ false = search (rules, c.if-not-may_be_owed.true) in
    sym (all_kept g.K.Ord.cmp g.K.Key.matching c.args.rows.now c.args.face.now c.asking_rows-asking.result.now c.args.id c.asking_rows-asking.ensures (sym c.may_be_owed.ensures ∙ none))
