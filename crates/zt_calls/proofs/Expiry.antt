-- What expires, face by face, is what the list of it says.
use Rattle.std.proofs.Common.{◌≡◌, ℕ, List, [], ◌∷◌, ◌++◌, filter, map, refl, sym, ap, ◌∙◌}
use Rattle.std.proofs.lemmas.Grind.{flat_map-append}
use Rattle.std.specs.List.{flat_map}
use Rattle.zt_calls.specs.Expired.{ending_each, expired_in}
use Rattle.zt_faces.specs.Timed.{expired_at}
use Rattle.zt_model.specs.Closing.{is_expired}
use Rattle.zt_model.specs.Parts.{Part}
use Rattle.zt_model.specs.Routing.{ending}
use Rattle.zt_model.specs.Rows.{Face, Pending, Rows}

at_rows : {K : Type 0} (n : ℕ) (rows : List (ℕ × Pending)) → flat_map (λ row. ending {K = K} n row.0) rows ≡ flat_map ending_each (map (λ row. (n, row.0)) rows)
at_rows n [] = refl
at_rows n (row ∷ rows) = ap (λ parts. ending n row.0 ++ parts) (at_rows n rows)

at_faces : {K : Type 0} (now timeout : ℕ) (fs : List (Face K)) → flat_map (λ (f : Face K). flat_map (λ row. ending {K = K} f.number row.0) (filter (is_expired now timeout) f.pendings)) fs ≡ flat_map ending_each (flat_map (expired_at now timeout) fs)
at_faces now timeout [] = refl
at_faces {K} now timeout (f ∷ fs) =
    let rest = flat_map (expired_at now timeout) fs in
    ap (λ (parts : List (Part K)). parts ++ flat_map (λ (x : Face K). flat_map (λ row. ending {K = K} x.number row.0) (filter (is_expired now timeout) x.pendings)) fs) (at_rows f.number (filter (is_expired now timeout) f.pendings))
    ∙ ap (λ (parts : List (Part K)). flat_map ending_each (expired_at now timeout f) ++ parts) (at_faces now timeout fs)
    ∙ sym (flat_map-append ending_each (expired_at now timeout f) rest)

pub expiring-pendings : {K : Type 0} (now : ℕ) (g : Rows K) → flat_map (λ (f : Face K). flat_map (λ row. ending {K = K} f.number row.0) (filter (is_expired now g.timeout) f.pendings)) g.faces ≡ flat_map ending_each (expired_in now g)
expiring-pendings now g = at_faces now g.timeout g.faces
