use Rattle.zt_fields.proofs.fields.end_at.Given as goal

abbrev pub ghost-nothing_left : goal.ghost-nothing_left
ghost-nothing_left a = 32
