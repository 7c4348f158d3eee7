-- Changes of one face and of all faces alike, and what they leave.
use Rattle.std.proofs.Common.{◌≡◌, ℕ, Bool, true, false, cond, not, if◌then◌else◌, ◌&&◌, ◌==◌, List, map, refl, ap, ◌∙◌}
use Rattle.std.specs.declared.cmp.Ordering.{Ordering}
use Rattle.zt_region.specs.declared.region.Region.{Region}
use Rattle.zt_region.specs.Admission.{admits}
use Rattle.zt_model.specs.Hat.{hat_of}
use Rattle.zt_model.specs.Hearing.{rows_heard}
use Rattle.zt_model.specs.Rows.{Face, Rows}
use Rattle.zt_model.specs.Says.{Part, altered_by, is_routed, is_told, said_by, with_face}
use Rattle.zt_model.specs.Visible.{keeps, shows}
use Rattle.zt_model.specs.Wants.{seeks}
use Rattle.zt_laws.proofs.Lists.{map-map}
use Rattle.zt_laws.proofs.Telling.{seeks_alike}

-- what a change leaves at a face is left where it is made by a test
pub chosen_leaves : {A B : Type 0} (part : A → B) (change : A → A) (b : Bool) (f : A) → part (change f) ≡ part f → part (cond b (change f) f) ≡ part f
chosen_leaves part change true f h = h
chosen_leaves part change false f h = refl

-- one face changed twice
pub with_face_twice : {K : Type 0} (n : ℕ) (one two : Face K → Face K) (g : Rows K) → ((f : Face K) → (one f).number ≡ f.number) → with_face n two (with_face n one g) ≡ with_face n (λ f. two (one f)) g
unfolding with_face
with_face_twice {K} n one two g number_ =
    ap (λ (fs : List (Face K)). record g { faces = fs })
    (map-map (λ f. if n == f.number then two f else f) (λ f. if n == f.number then one f else f) g.faces ∙ ap (λ (change : Face K → Face K). map change g.faces) (λ i f. twice f (n == f.number) refl i))
  where
    twice : (f : Face K) (b : Bool) → (n == f.number) ≡ b → (if n == (if b then one f else f).number then two (if b then one f else f) else (if b then one f else f)) ≡ (if b then two (one f) else f)
    twice f true is = ap (λ c. cond c (two (one f)) (one f)) (ap (λ k. n == k) (number_ f) ∙ is)
    twice f false is = ap (λ c. cond c (two f) f) is

module _ {K : Type 0} (cmp : K → K → Ordering) (matching : K → K → Bool) where
  -- the rows that parts of a call leave
  abbrev pub carried : List (Part K) → Rows K → Rows K
  carried parts g = rows_heard cmp (said_by cmp matching parts g) (altered_by cmp matching parts g)

  pub is_told_alike : (g : Rows K) (source : Region) (e : K) (f h : Face K) → f.region ≡ h.region → f.told ≡ h.told → f.held ≡ h.held → is_told cmp matching g source e f ≡ is_told cmp matching g source e h
  is_told_alike g source e f h region_ told_ held_ =
      ap (λ (r : Region). not ((hat_of g.mode r).goes_by_trees) && (admits g.refused source r && shows g.mode r source && not (keeps cmp f e) && seeks matching g.mode f e)) region_
      ∙ ap (λ b. not (is_routed g h) && (admits g.refused source h.region && shows g.mode h.region source && not (keeps cmp f e) && b)) (seeks_alike matching g.mode f h e region_ held_)
      ∙ ap (λ (rows : List (ℕ × K)). not (is_routed g h) && (admits g.refused source h.region && shows g.mode h.region source && not (keeps cmp (record h { told = rows }) e) && seeks matching g.mode h e)) told_
