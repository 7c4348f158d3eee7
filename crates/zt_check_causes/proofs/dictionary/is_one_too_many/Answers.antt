use Rattle.std.proofs.Common.{◌≡◌, ◌||◌, true, false, not, nat_lt, length, ap, sym, ◌∙◌, lt-ltb, le-ltb}
use Rattle.zt_model.specs.Lists.{is_among}
use Rattle.zt_check_causes.proofs.Numbered.{one_too_many}
use Rattle.zt_check_causes.proofs.dictionary.is_one_too_many.Goals as goal

pub returns-then-known-gt-GREATEST_DICTIONARY : goal.returns-then-known-gt-GREATEST_DICTIONARY
returns-then-known-gt-GREATEST_DICTIONARY g c =
    let e = c.args.expr.now in
    let known = c.args.known.now in
    let more : nat_lt 65535 (length known) ≡ true = lt-ltb 65535 (length known) c.if-known-gt-GREATEST_DICTIONARY.true in
    more
    ∙ sym (ap (λ b. b || not (is_among g.K.Ord.cmp e known)) more)
    ∙ one_too_many g.K.Ord.cmp 65535 e known c.if-known-lt-GREATEST_DICTIONARY.false

pub returns-else-known-gt-GREATEST_DICTIONARY : goal.returns-else-known-gt-GREATEST_DICTIONARY
returns-else-known-gt-GREATEST_DICTIONARY g c =
    let e = c.args.expr.now in
    let known = c.args.known.now in
    let few : nat_lt 65535 (length known) ≡ false = le-ltb 65535 (length known) c.if-known-gt-GREATEST_DICTIONARY.false in
    ap not c.is_among.ensures
    ∙ sym (ap (λ b. b || not (is_among g.K.Ord.cmp e known)) few)
    ∙ one_too_many g.K.Ord.cmp 65535 e known c.if-known-lt-GREATEST_DICTIONARY.false
