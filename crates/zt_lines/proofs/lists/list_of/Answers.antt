use Rattle.std.proofs.Common.{◌≡◌, ◌∷◌}
use Rattle.std.proofs.lemmas.Result.{err_from_is_err_and}
use Rattle.std.specs.Option.{option_copied}
use Rattle.zt_lines.proofs.lists.list_of.Goals as goal
use Rattle.zt_fields.specs.Fields.{spelled_by, parts_of, parts_left}
use Rattle.zt_lines.specs.Lists.{each_read, list_read}
use Rattle.zt_lines.proofs.ListLemmas.{starts, goes_on, ends, is_done}

pub loop-rest-init : goal.loop-rest-init
loop-rest-init g c = record {
  told = rw c.new-members.ensures.items (starts _);
}

pub returns-in_err-member : goal.returns-in_err-member
unfolding list_read
returns-in_err-member g c =
    let read = spelled_by g.M.Spelled.of_text in
    let sep = c.args.separator in
    let next : parts_left sep (option_copied c.loop-rest.rest) ≡ c.first_part.result.0.now ∷ parts_left sep (option_copied c.first_part.result.1) = rw c.in-Some.is c.first_part.ensures in
    let p = err_from_is_err_and c.from_residual.result c.from_residual.ensures.1 in
    rw (p.1, p.2) (ends read c.in_err-member.field-0.0 c.loop-rest.members.items (parts_left sep (option_copied c.loop-rest.rest)) c.first_part.result.0.now (parts_left sep (option_copied c.first_part.result.1)) (each_read read (parts_of sep c.args.text.now)) next c.in_err-member.ensures c.loop-rest.invariant.told)

pub loop-rest-preserved : goal.loop-rest-preserved
loop-rest-preserved g c =
    let read = spelled_by g.M.Spelled.of_text in
    let sep = c.args.separator in
    let next : parts_left sep (option_copied c.loop-rest.rest) ≡ c.first_part.result.0.now ∷ parts_left sep (option_copied c.first_part.result.1) = rw c.in-Some.is c.first_part.ensures in
    let grown = c.in_ok-push.ensures.ok in
    record {
      told = rw grown (goes_on read c.loop-rest.members.items (parts_left sep (option_copied c.loop-rest.rest)) c.first_part.result.0.now (parts_left sep (option_copied c.first_part.result.1)) c.in_ok-member.member (each_read read (parts_of sep c.args.text.now)) next c.in_ok-member.ensures c.loop-rest.invariant.told);
    }

pub returns : goal.returns
unfolding list_read
returns g c =
    let read = spelled_by g.M.Spelled.of_text in
    is_done c.loop-rest.members.items (each_read read (parts_of c.args.separator c.args.text.now)) (rw c.in_default.is at c.loop-rest.invariant.told)
