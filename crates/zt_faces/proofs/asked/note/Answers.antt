use Rattle.std.proofs.Common.{◌≡◌, true, subst, sym}
use Rattle.std.specs.HashMap.{get}
use Rattle.std.specs.Map.{lookup}
use Rattle.zt_faces.specs.Asked.{KnowsMore, asked_in, asker_of, knows, pair_eq}
use Rattle.zt_faces.proofs.Known.{one-put, same-known}
use Rattle.zt_faces.proofs.Rising.{either-way}
use Rattle.zt_faces.proofs.asked.note.Goals as goal

pub returns-clause-kept : goal.returns-clause-kept
returns-clause-kept c =
    let old = c.args.askers.now in
    either-way c.insert.result c.insert.ensures.updates c.insert.ensures.err
    (λ made. one-put (get pair_eq old) (get pair_eq c.insert.new.self) c.args.sent c.with-asker.result made.0
    (λ n id known. c.with-asker.ensures.kept n id (subst (λ found. knows found n id ≡ true) (sym c.find_in.ensures) known)))
    (λ same. subst (λ entries. KnowsMore (asked_in old) (λ p. asker_of (lookup (pair_eq p) entries))) (sym same) (same-known (asked_in old)))
