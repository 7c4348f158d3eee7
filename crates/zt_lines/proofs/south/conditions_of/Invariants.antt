use Rattle.zt_lines.proofs.south.conditions_of.Given as goal

-- what the conditions are separated by
abbrev pub ghost-nothing_left : goal.ghost-nothing_left
ghost-nothing_left a = 38
