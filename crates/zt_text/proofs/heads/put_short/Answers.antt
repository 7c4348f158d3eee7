use Rattle.zt_text.proofs.FrontLemmas.{decimal_hundreds}
use Rattle.zt_text.proofs.heads.put_short.Goals as goal

pub returns-clause-bytes : goal.returns-clause-bytes
returns-clause-bytes c =
    decimal_hundreds c.args.number c.args.head.now.bytes c.put_pair-2.new.head.bytes c.put_digit.new.head.bytes c.put_digit-2.new.head.bytes c.if-number-lt100.false c.requires.short
    c.put_pair-2.ensures.bytes c.put_digit.ensures c.put_digit-2.ensures
