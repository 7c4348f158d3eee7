use Rattle.zt_text.proofs.heads.put_front.Goals as goal

pub returns-clause-fit : goal.returns-clause-fit
returns-clause-fit g c = record { gateway = c.put_two.ensures.one; face = c.put_two.ensures.two; message = c.put_fields.ensures.fit }
