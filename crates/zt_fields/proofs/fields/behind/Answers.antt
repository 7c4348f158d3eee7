use Rattle.std.proofs.Common.{◌≡◌, ℕ, List, ◌++◌, Some, None, ap, sym, ◌∙◌}
use Rattle.std.specs.Option.{MatchOption, option_copied}
use Rattle.std.specs.Str.Pattern.{FindsTextPrefix, StripsPrefix}
use Rattle.zt_fields.proofs.fields.behind.Goals as goal
use Rattle.zt_fields.specs.Fields.{behind}
use Rattle.zt_fields.proofs.FieldLemmas.{behind_of, behind_none}

pub returns : goal.returns
returns c = elim c.strip_prefix.result as (λ v. MatchOption v (FindsTextPrefix c.args.word.now c.args.text.now None) (λ x. StripsPrefix (FindsTextPrefix c.args.word.now) c.args.text.now x.now) → option_copied v ≡ behind c.args.word.now c.args.text.now) [
  | None ↦ λ h. sym (behind_none c.args.word.now c.args.text.now h)
  | Some x ↦ λ h. sym (ap (behind c.args.word.now) (h.1.1 ∙ ap (λ (t : List ℕ). c.args.word.now ++ t) (sym h.2)) ∙ behind_of c.args.word.now x.now)
] c.strip_prefix.ensures.cases
