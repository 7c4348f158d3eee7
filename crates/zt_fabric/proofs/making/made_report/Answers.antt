use Rattle.std.proofs.Common.{Some, ap, ◌∙◌}
use Rattle.zt_fabric.specs.Making.{made_lines, made_script}
use Rattle.zt_fabric.proofs.MadeLemmas.{made_back, made_complete}
use Rattle.zt_fabric.proofs.MakeLemmas.{none_has_risen, reported}
use Rattle.zt_fabric.proofs.making.made_report.Goals as goal

pub returns-clause-ok : goal.returns-clause-ok
returns-clause-ok c =
    let n = c.args.number in
    reported _ _ _ _ _ _ (made_script n) (made_lines n) c.carry_script.result c.carry_script.ensures.answers (ap Some (c.new-source.ensures ∙ c.in-Ok.ensures)) (made_back n c.requires.most)

pub returns-clause-err : goal.returns-clause-err
returns-clause-err c =
    let n = c.args.number in
    c.carry_script.ensures.complete (made_script n, ap Some (c.new-source.ensures ∙ c.in-Ok.ensures), made_complete n c.requires.most, (none_has_risen, none_has_risen))
