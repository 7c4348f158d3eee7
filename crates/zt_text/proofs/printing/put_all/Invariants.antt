use Rattle.std.proofs.Common.{◌≡◌, ◌≤◌, ◌++◌, drop, take}
use Rattle.std.specs.Prelude.{string_bytes}
use Rattle.std.specs.List.{AllByRecursion, flat_map}
use Rattle.arrayvec.specs.ArrayString.{array_string_len}
use Rattle.zt_text.proofs.printing.put_all.Given as goal
use Rattle.zt_text.specs.Sent.{SentFits}
use Rattle.zt_text.specs.Text.{Begins, sent_text}

-- the messages so far, with what the head holds of them, and those that are left are all
abbrev pub invariant-loop-sent : goal.invariant-loop-sent
invariant-loop-sent g l =
    let text = flat_map (sent_text g.K.Key.printed) in
    record {
      told : (string_bytes l.out ++ l.head.bytes) ++ text (drop l.sent-index l.sents) ≡ string_bytes l.fn.out ++ (l.fn.head.bytes ++ text l.sents);
      room : array_string_len l.head ≤ 40;
      begun : Begins (string_bytes l.fn.out) (string_bytes l.out);
      fit : AllByRecursion SentFits (take l.sent-index l.sents);
    }
