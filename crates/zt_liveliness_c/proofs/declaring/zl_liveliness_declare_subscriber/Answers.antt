use Rattle.std.proofs.Common.{rules, inl}
use Rattle.zt_liveliness_c.proofs.declaring.zl_liveliness_declare_subscriber.Goals as goal

pub returns : goal.returns
returns c =
    inl (record { engine = c.deref_mut.result.now; left = record { liveliness = c.declare_subscriber-status.new.engine }; was = search rules; is = search rules; answered = c.declare_subscriber-status.ensures })
