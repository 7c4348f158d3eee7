use Rattle.std.proofs.Common.{subst}
use Rattle.zt_token_index.specs.Held.{pairs_of}
use Rattle.zt_token_index.specs.Told.{AreRising}
use Rattle.zt_token_index.proofs.Pairs.{rising-without}
use Rattle.zt_token_index.proofs.faces.ToldFaces.remove.Goals as goal

pub invariant_of-self-in-More : goal.invariant_of-self-in-More
invariant_of-self-in-More c =
    let rising = subst (λ faces. AreRising (pairs_of faces)) c.in-More.is c.self.invariant in
    rw (c.remove.ensures, c.deref_mut.ensures.value) (rising-without c.args.face c.in-More.many.value rising)
