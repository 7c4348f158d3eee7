-- Where as many of the faces that seek an expression keep it as faces do altogether, no other face hears of its tokens.
use Rattle.std.proofs.Common.{◌≡◌, ◌≤◌, ℕ, ◌==◌, Bool, true, false, ◌||◌, suc, is_some, List, [], ◌∷◌, Option, Some, None, ap, arith, filter, length, map, refl, sym, ◌∙◌}
use Rattle.std.specs.List.{AllByRecursion, list_any}
use Rattle.std.specs.declared.cmp.Ordering.{Ordering}
use Rattle.zt_keys.specs.Test.{by_test}
use Rattle.zt_region.specs.declared.region.Region.{Region}
use Rattle.zt_model.specs.Lists.{first_where, is_some_and, same}
use Rattle.zt_model.specs.Hat.{hat_of_face}
use Rattle.zt_model.specs.Parts.{is_routed, told_id}
use Rattle.zt_model.specs.Rows.{ById, Face, Rows}
use Rattle.zt_model.specs.Telling.{forget_to}
use Rattle.zt_model.specs.Visible.{is_visible, keeps}
use Rattle.zt_model.specs.Wants.{seeks, wants}
use Rattle.zt_token_index.specs.Told.{id_of}
use Rattle.zt_faces.specs.Rising.{IsRising}
use Rattle.zt_state.specs.Told.{AreToldIds}
use Rattle.zt_tokens.specs.Walks.{is_told_at}
use Rattle.zt_tokens.proofs.Chosen.{all-found}
use Rattle.zt_tokens.proofs.Told.{told_is_some}

both-less : (a b : ℕ) → suc a ≡ suc b → a ≡ b
both-less a b h = omega (arith, h)

too-many : (a b : ℕ) → suc a ≡ b → b ≤ a → ⊥
too-many a b h k = omega (arith, h, k)

or_false_first : (a b : Bool) → (a || b) ≡ false → a ≡ false
or_false_first true b h = h
or_false_first false b h = refl

or_false_second : (a b : Bool) → (a || b) ≡ false → b ≡ false
or_false_second true b h = cc
or_false_second false b h = h

-- ---- of things that pass two tests
module _ {A : Type 0} (p k : A → Bool) where
  both-fewer : (xs : List A) → length (filter k (filter p xs)) ≤ length (filter k xs)
  both-fewer [] = omega arith
  both-fewer (x ∷ xs) =
      let rest = both-fewer xs in
      by_test (p x)
      (λ t. by_test (k x) (λ u. rw (t, u) (omega (arith, rest))) (λ u. rw (t, u) rest))
      (λ t. by_test (k x) (λ u. rw (t, u) (omega (arith, rest))) (λ u. rw (t, u) rest))

  -- where as many pass both as pass one, what fails the other fails it too
  all-both : (xs : List A) → length (filter k xs) ≡ length (filter k (filter p xs)) → AllByRecursion (λ x. p x ≡ false → k x ≡ false) xs
  all-both [] is = tt
  all-both (x ∷ xs) is =
      by_test (p x)
      (λ t. by_test (k x)
      (λ u. (λ fails. cc, all-both xs (both-less _ _ (rw (t, u) at is))))
      (λ u. (λ fails. u, all-both xs (rw (t, u) at is))))
      (λ t. by_test (k x)
      (λ u. absurd (too-many (length (filter k xs)) (length (filter k (filter p xs))) (rw (t, u) at is) (both-fewer xs)))
      (λ u. (λ fails. u, all-both xs (rw (t, u) at is))))

module _ {K : Type 0} (cmp : K → K → Ordering) (e : K) where
  -- those of numbers are the faces that have them
  counted-at : (pairs : List (ℕ × ℕ)) (fs gs : List (Face K)) (p : Face K → Bool) → AllByRecursion (λ f. id_of f.number pairs ≡ told_id cmp e f.told) gs
      → AllByRecursion (λ f. first_where (λ x. f.number == x.number) fs ≡ Some f) gs
      → length (filter (is_told_at pairs fs) (map (λ f. f.number) (filter p gs))) ≡ length (filter (λ f. keeps cmp f e) (filter p gs))
  counted-at pairs fs [] p ids found = refl
  counted-at pairs fs (g ∷ gs) p ids found =
      let rest = counted-at pairs fs gs p ids.1 found.1 in
      let here : is_told_at pairs fs g.number ≡ keeps cmp g e =
      ap (λ (o : Option (Face K)). is_some_and o (λ f. is_some (id_of f.number pairs))) found.0 ∙ ap is_some ids.0 ∙ told_is_some cmp e g.told in
      by_test (p g)
      (λ t. by_test (keeps cmp g e)
      (λ u. let there : is_told_at pairs fs g.number ≡ true = here ∙ u in rw (t, there, u) (ap (λ n. suc n) rest))
      (λ u. let there : is_told_at pairs fs g.number ≡ false = here ∙ u in rw (t, there, u) rest))
      (λ t. rw t rest)

  untold : (told : ById K) → list_any (λ row. same cmp e row.1) told ≡ false → told_id cmp e told ≡ None
  unfolding told_id
  untold [] none = refl
  untold (row ∷ rows) none = let here : same cmp e row.1 ≡ false = or_false_first _ _ none in rw here (untold rows (or_false_second _ _ none))

  module _ (matching : K → K → Bool) (g : Rows K) (source : Region) where
    unwanted : (f : Face K) → seeks matching g.mode f e ≡ false → wants matching f e ≡ false
    unfolding seeks
    unwanted f h = or_false_second ((hat_of_face g f).is_told_unasked f.region) (wants matching f e) h

    unsought-unheard : (f : Face K) → seeks matching g.mode f e ≡ false → keeps cmp f e ≡ false → forget_to cmp matching g source e f ≡ []
    unfolding forget_to
    unsought-unheard f sought kept =
        let none = untold f.told kept in
        let never = unwanted f sought in
        by_test (is_routed g f || is_visible cmp g f.region e) (λ t. rw t refl) (λ t. rw (t, none, never) refl)

    pub others-unheard : (pairs : List (ℕ × ℕ)) → AreToldIds cmp e pairs g.faces → (numbers : List ℕ) → IsRising (λ f. f.number) g.faces → numbers ≡ map (λ f. f.number) (filter (λ f. seeks matching g.mode f e) g.faces)
        → length pairs ≡ length (filter (is_told_at pairs g.faces) numbers)
        → AllByRecursion (λ f. seeks matching g.mode f e ≡ false → forget_to cmp matching g source e f ≡ []) g.faces
    others-unheard pairs told numbers rising are is =
        let many =
        sym told.count
        ∙ is
        ∙ ap (λ ns. length (filter (is_told_at pairs g.faces) ns)) are
        ∙ counted-at pairs g.faces g.faces (λ f. seeks matching g.mode f e) told.ids (all-found g.faces rising) in
        each g.faces (all-both (λ f. seeks matching g.mode f e) (λ f. keeps cmp f e) g.faces many)
      where
        each : (fs : List (Face K)) → AllByRecursion (λ f. seeks matching g.mode f e ≡ false → keeps cmp f e ≡ false) fs → AllByRecursion (λ f. seeks matching g.mode f e ≡ false → forget_to cmp matching g source e f ≡ []) fs
        each [] h = tt
        each (f ∷ fs) h = (λ sought. unsought-unheard f sought (h.0 sought), each fs h.1)
