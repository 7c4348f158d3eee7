-- Asks of an id are looked for in a part of the rows that has all of it, at faces of a number among those that have it.
use Rattle.std.proofs.Common.{◌≡◌, ℕ, ◌==◌, ◌||◌, not, List, Option, refl}
use Rattle.std.specs.List.{list_all}
use Rattle.zt_protocol.specs.declared.entries.Sent.{Sent}
use Rattle.zt_model.specs.Fabric.{Fabric}
use Rattle.zt_model.specs.Rows.{Ask, ById, Face, Rows}
use Rattle.zt_check_faces.specs.Parts.{HasThoseOf}
use Rattle.zt_check_faces.proofs.Parts.{all-of_part}
use Rattle.zt_check_finals.specs.Finishing.{are_finished_of, is_finished_at}

module _ {K : Type 0} (s : Fabric K) (finalised : Option (ℕ × ℕ × ℕ)) (ms : List (Sent K)) (gateway : ℕ) (g : Rows K) where
  pub of_part_of_faces : (n id : ℕ) (part : List (Face K)) → HasThoseOf (λ (f : Face K). f.number) n part g.faces
      → list_all (are_finished_of s finalised ms gateway g n id) part ≡ list_all (are_finished_of s finalised ms gateway g n id) g.faces
  of_part_of_faces n id part = all-of_part (λ (f : Face K). f.number) n (are_finished_of s finalised ms gateway g n id) part g.faces (λ f other. rw other refl)

  pub of_part_of_asks : (id : ℕ) (f : Face K) (part : ById (Ask K)) → HasThoseOf (λ (row : ℕ × Ask K). row.0) id part f.asks
      → list_all (is_finished_at s finalised ms gateway g f id) part ≡ list_all (is_finished_at s finalised ms gateway g f id) f.asks
  of_part_of_asks id f part = all-of_part (λ (row : ℕ × Ask K). row.0) id (is_finished_at s finalised ms gateway g f id) part f.asks (λ row other. rw other refl)
