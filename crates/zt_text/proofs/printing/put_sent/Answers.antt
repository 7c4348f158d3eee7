use Rattle.std.proofs.Common.{◌≡◌, ℕ, List, [], ◌∷◌, ◌++◌, ap, ◌∙◌, arith}
use Rattle.std.specs.Prelude.{string_bytes}
use Rattle.std.specs.Option.{option_copied}
use Rattle.zt_text.proofs.FrontLemmas.{sent_put}
use Rattle.zt_text.proofs.printing.put_sent.Goals as goal

pub returns-clause-ok : goal.returns-clause-ok
returns-clause-ok g c =
    let end : c.push.new.self.bytes ≡ 10 ∷ [] = c.push.ensures.ascii (omega arith) ∙ ap (λ (t : List ℕ). t ++ 10 ∷ []) c.clear.ensures in
    ap (λ (t : List ℕ). string_bytes c.put_key.new.out ++ t) end
    ∙ sent_put g.K.Key.printed c.args.sent.now (option_copied c.put_front-key.result) (string_bytes c.args.out.now) c.args.head.now.bytes c.put_front-key.new.head.bytes (string_bytes c.put_key.new.out)
    c.put_front-key.ensures.key c.put_front-key.ensures.bytes c.in_ok-put_key.ensures.ok
