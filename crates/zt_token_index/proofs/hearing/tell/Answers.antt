use Rattle.std.proofs.Common.{sym, ◌∙◌}
use Rattle.std.proofs.lemmas.Bool.{ne_eqb}
use Rattle.zt_token_index.proofs.Retold.{retold-again, retold-more}
use Rattle.zt_token_index.proofs.hearing.tell.Goals as goal

pub returns-in_default : goal.returns-in_default
returns-in_default g c =
    let told = c.in_ok-known.ensures in
    let found = rw (c.number.ensures, c.if-known-id.false) at (sym c.in-Some.is ∙ told.known) in
    retold-again g.K.Ord.cmp c.args.f.now.number g.met.K.Ord.total g.met.K.Key.laws.equal_is_same c.args.id c.args.expr.now c.args.f.now.told c.args.told.now c.tell.new.self found (rw c.number.ensures at told.ok)

pub returns-in_default-2 : goal.returns-in_default-2
returns-in_default-2 g c =
    let told = c.in_ok-known.ensures in
    let none = rw c.number.ensures at (sym c.in_default.is ∙ told.known) in
    retold-more g.K.Ord.cmp c.args.f.now.number g.met.K.Ord.total g.met.K.Key.laws.equal_is_same c.args.id c.args.expr.now c.args.f.now.told c.args.told.now c.tell.new.self (ne_eqb c.args.id 0 c.if-id-eq0.false) none (rw c.number.ensures at told.ok)
