use Rattle.std.proofs.Common.{◌≡◌, ◌++◌, map, take}
use Rattle.zt_protocol.specs.declared.messages.Message.TheVariants as message
use Rattle.zt_interests.proofs.upstream.end_all.Given as goal

-- those so far are sent
abbrev pub invariant-loop-id : goal.invariant-loop-id
invariant-loop-id g l = l.sends.items ≡ l.fn.sends.items ++ map (λ id. (l.f.number, message.InterestFinal id)) (take l.id-index l.ids)
