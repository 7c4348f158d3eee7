use Rattle.std.proofs.Common.{◌≡◌, length, map}
use Rattle.std.specs.Option.{option_copied}
use Rattle.std.specs.Prelude.{string_bytes}
use Rattle.zt_lines.proofs.lists.names_of.Given as goal
use Rattle.zt_fields.specs.Fields.{spelled_by, parts_of, parts_left}
use Rattle.zt_lines.specs.Lists.{name_of, each_read}
use Rattle.zt_lines.proofs.ListLemmas.{with_front}

-- the members so far and those that are left are all
abbrev pub invariant-loop-rest : goal.invariant-loop-rest
invariant-loop-rest l =
    let read = spelled_by name_of in
    record {
      told : with_front (map string_bytes l.members.items) (each_read read (parts_left l.separator (option_copied l.rest))) ≡ each_read read (parts_of l.separator l.text);
    }

abbrev pub decreases-loop-rest : goal.decreases-loop-rest
decreases-loop-rest l = length (parts_left l.separator (option_copied l.rest))
