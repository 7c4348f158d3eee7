use Rattle.std.proofs.Common.{◌≡◌, ◌++◌, [], ◌∷◌, List, map, ap, append_assoc, sym, ◌∙◌}
use Rattle.std.specs.Vec.Iter.{into_iter_items}
use Rattle.zt_laws.proofs.Sorting.{printed}
use Rattle.zt_fabric_state.proofs.printing.print_all.Goals as goal

one_more : {A B : Type 0} (f : A → B) (done new all : List B) (before rest : List A) (x : A) (y : B) → done ++ map f before ≡ all → before ≡ x ∷ rest → y ≡ f x → new ≡ done ++ y ∷ [] → new ++ map f rest ≡ all
one_more f done new all before rest x y so_far step is more =
    ap (λ ys. ys ++ map f rest) (more ∙ ap (λ z. done ++ z ∷ []) is)
    ∙ append_assoc done (f x ∷ []) (map f rest)
    ∙ ap (λ xs. done ++ map f xs) (sym step)
    ∙ so_far

pub loop-face-preserved : goal.loop-face-preserved
loop-face-preserved g c =
    one_more (printed c.args.places.now c.args.gateway) c.loop-face.printed.items c.push.new.self.items _ _ (into_iter_items c.next.new.self) (c.in-Some.face, c.in-Some.message) _ c.loop-face.invariant c.in-Some.ensures.steps.0
    (ap (λ n. record { gateway = c.args.gateway; face = n; message = c.in-Some.message }) (c.number.ensures ∙ c.faces_of-faces.ensures c.in-Some.face))
    c.in_ok-push.ensures.items
