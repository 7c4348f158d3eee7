use Rattle.std.proofs.Common.{Err, Ok, OnErr, OnOk, Result, subst}
use Rattle.zt_token_index.specs.Held.{pairs_of}
use Rattle.zt_token_index.specs.Told.{AreRising}
use Rattle.zt_token_index.proofs.Pairs.{rising-put}
use Rattle.zt_token_index.proofs.faces.ToldFaces.put.Goals as goal

either : {T E P Q G : Type 0} (r : Result T E) → OnOk r P → OnErr r Q → (P → G) → (Q → G) → G
either (Ok x) p q ok err = ok p
either (Err x) p q ok err = err q

pub invariant_of-self-in-More : goal.invariant_of-self-in-More
invariant_of-self-in-More c =
    let rising = subst (λ faces. AreRising (pairs_of faces)) c.in-More.is c.self.invariant in
    either c.put.result c.put.ensures.ok c.put.ensures.err
    (λ put. rw (put, c.deref_mut.ensures.value) (rising-put c.args.face c.args.id c.in-More.many.value rising))
    (λ stayed. rw (stayed, c.deref_mut.ensures.value) rising)
