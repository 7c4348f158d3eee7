use Rattle.std.proofs.Common.{◌≡◌, rules, tests, ap, sym, subst, not, IsFalse, ◌↔◌, Contains}
use Rattle.std.proofs.lemmas.Iterator.{YieldsList-from_slice}
use Rattle.std.proofs.lemmas.Iterator.Search.{any_from_yields_List}
use Rattle.zt_region.specs.Admission.{admits, admits-iff, is_pair}
use Rattle.zt_region.proofs.region.Admission.admits.Goals as goal

pub returns-clause-answer : goal.returns-clause-answer
returns-clause-answer c =
    ap not (any_from_yields_List (is_pair c.args.src c.args.dst) _ _ _ c.any.ensures.ran
    (YieldsList-from_slice c.args.self.now.refused.items cc) (λ x b q k. search (rules, tests)))

pub returns-clause-refused : goal.returns-clause-refused
returns-clause-refused c =
    let answer : not c.any.result ≡ admits c.args.self.now.refused.items c.args.src c.args.dst = returns-clause-answer c in
    subst (λ b. IsFalse b ↔ Contains c.args.self.now.refused.items (c.args.src, c.args.dst)) (sym answer)
    (admits-iff c.args.self.now.refused.items c.args.src c.args.dst)
