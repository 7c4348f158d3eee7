use Rattle.std.proofs.Common.{◌≡◌, true, false, ◌||◌, ◌==◌, Bool, ℕ, bit_and, List, ap, sym, ◌∙◌}
use Rattle.std.proofs.lemmas.Bool.{false≢true}
use Rattle.std.specs.Arc.{arc_value}
use Rattle.std.specs.List.{list_any}
use Rattle.zt_keys.specs.Chunks.{is_star}
use Rattle.zt_keys.specs.Expression.{bytes_of}
use Rattle.zt_keys.specs.Kinds.{kinds_of}
use Rattle.zt_keys.proofs.Agree.{may-match}
use Rattle.zt_keys.proofs.expr.KeyExpr.may_match.Goals as goal

-- what is asked of two texts
abbrev asked : List ℕ → List ℕ → Bool
asked own other = list_any is_star own || bit_and (kinds_of other) (kinds_of own) == kinds_of own

pub returns-then-may_match : goal.returns-then-may_match
returns-then-may_match c h =
    c.may_match-then-may_match.ensures
    ∙ ap (λ own. asked own c.deref-then-may_match-2.result.now) (c.deref-then-may_match.ensures ∙ ap bytes_of c.other.view_is)
    ∙ ap (asked c.args.other.now.bytes) (c.deref-then-may_match-2.ensures ∙ ap bytes_of c.self.view_is)
    ∙ (may-match c.args.self.now c.args.other.now h).1

pub returns-else-may_match : goal.returns-else-may_match
returns-else-may_match c h =
    c.may_match.ensures
    ∙ ap (λ own. asked own c.deref-2.result.now) (c.deref.ensures ∙ ap bytes_of c.self.view_is)
    ∙ ap (asked c.args.self.now.bytes) (c.deref-2.ensures ∙ ap bytes_of c.other.view_is)
    ∙ (may-match c.args.self.now c.args.other.now h).0
