use Rattle.std.proofs.Common.{◌≡◌, true}
use Rattle.zt_theorem_tree_only_what_lived.proofs.Tokens.{call_leaves_in, call_says_in}
use Rattle.zt_theorem_tree_only_what_lived.proofs.calls_declare_what_was_declared.Goals as goal

pub returns : goal.returns
returns g c = record {
  said = λ test call rows own in_. call_says_in g.K.Ord.cmp g.K.Key.matching (λ e. test e ≡ true) call rows own in_;
  rows = λ test call rows own in_. call_leaves_in g.K.Ord.cmp g.K.Key.matching (λ e. test e ≡ true) call rows own in_;
}
