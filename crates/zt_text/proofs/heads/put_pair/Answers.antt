use Rattle.zt_text.proofs.FrontLemmas.{digit_put, pair_put}
use Rattle.zt_text.proofs.heads.put_pair.Goals as goal

pub returns-then-number-lt10-clause-bytes : goal.returns-then-number-lt10-clause-bytes
returns-then-number-lt10-clause-bytes c = digit_put c.args.number c.args.head.now.bytes c.put_digit.new.head.bytes c.if-number-lt10.true c.put_digit.ensures

pub returns-clause-bytes : goal.returns-clause-bytes
returns-clause-bytes c =
    pair_put c.args.number c.args.head.now.bytes c.put_digit-2.new.head.bytes c.put_digit-3.new.head.bytes c.if-number-lt10.false c.requires.pair c.put_digit-2.ensures c.put_digit-3.ensures
