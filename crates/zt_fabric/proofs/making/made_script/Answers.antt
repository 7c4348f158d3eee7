use Rattle.std.proofs.Common.{string_bytes}
use Rattle.zt_fabric.proofs.MakeLemmas.{text-made}
use Rattle.zt_fabric.proofs.making.made_script.Goals as goal

pub returns : goal.returns
returns c =
    text-made c.args.number (string_bytes c.new-out.result) (string_bytes c.put_first.new.out) (string_bytes c.put_all_coming.new.out) (string_bytes c.put_all_going.new.out)
    c.new-out.ensures.bytes c.in_ok-put_first.ensures c.in_ok-put_all_coming.ensures c.in_ok-put_all_going.ensures
