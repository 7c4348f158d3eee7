use Rattle.std.proofs.Common.{◌≡◌, List, map, sym, ap, ◌∙◌, subst, arith}
use Rattle.zt_shared_value.specs.Account.{IsCounted}
use Rattle.zt_shared_value.specs.declared.part.Part.{Part}
use Rattle.zt_shared_value.specs.Handed.{IsLeft}
use Rattle.zt_shared_value.specs.Passes.{Standing, part_of}
use Rattle.zt_shared_value.proofs.Zipped.{AllZip-right, AllZip-length}
use Rattle.zt_shared_value.proofs.Accounting.{handed_all, accounts_all, complete}
use Rattle.zt_shared_value.proofs.shared.SharedRecorder.close.Goals as goal

pub joined-seat-requires-clause-own : goal.joined-seat-requires-clause-own
joined-seat-requires-clause-own g c =
    let Mine : Standing g.row.J.Denot → Type 0 = λ pass. pass.table ≡ c.args.self in
    let Own : Standing g.row.J.Denot → Type 0 = λ pass. pass.table ≡ c.self.inside.table.shared.table_id in
    AllZip-right IsCounted Mine Own (λ a b counted own. ap (λ pass. pass.table) counted.0 ∙ (own ∙ sym c.self.view_is))
    c.args.passes.items c.missing.new.passes.items c.missing.ensures.counted c.requires.own

pub taken_out-requires-clause-all : goal.taken_out-requires-clause-all
taken_out-requires-clause-all g c =
    let same = AllZip-length IsCounted c.args.passes.items c.missing.new.passes.items c.missing.ensures.counted in
    let some = c.requires.some in
    handed_all c.missing.new.passes.items c.joined-seat.result.me c.joined-seat.ensures.parts (omega arith) c.in-None.ensures.missing

pub returns-in-None-clause-ok : goal.returns-in-None-clause-ok
returns-in-None-clause-ok g c =
    let J = g.J.Recorder in
    let left : IsLeft J.journal J.author J.state c.taken_out.result (map part_of c.missing.new.passes.items) =
    subst (λ me. IsLeft J.journal J.author J.state c.taken_out.result me.0) c.joined-seat.ensures.parts c.taken_out.ensures in
    accounts_all J.journal J.author J.state c.taken_out.result c.args.passes.items c.missing.new.passes.items c.missing.ensures.counted left

pub returns-in-None-clause-whole : goal.returns-in-None-clause-whole
returns-in-None-clause-whole g c =
    let J = g.J.Recorder in
    let value = c.taken_out.result in
    let news = c.missing.new.passes.items in
    let Left : List (Part g.row.J.Denot) → Type 0 = IsLeft J.journal J.author J.state value in
    let left = subst (λ me. Left me.0) c.joined-seat.ensures.parts c.taken_out.ensures in
    let zip = c.missing.ensures.counted in
    complete J.journal J.author J.state value c.args.passes.items news zip left

pub returns-in-Some-clause-own : goal.returns-in-Some-clause-own
returns-in-Some-clause-own g c =
    let Mine : Standing g.row.J.Denot → Type 0 = λ pass. pass.table ≡ c.args.self in
    AllZip-right IsCounted Mine Mine (λ a b counted own. ap (λ pass. pass.table) counted.0 ∙ own)
    c.args.passes.items c.missing.new.passes.items c.missing.ensures.counted c.requires.own
