-- By what faces were told it is known which need an id for a token; of one that answers nobody, those that seek it alone.
use Rattle.std.proofs.Common.{◌≡◌, ◌&&◌, ◌||◌, ◌==◌, ℕ, Bool, false, is_none, if◌then◌else◌, List, [], ◌∷◌, Option, Some, None, ap, filter, map, refl, ◌∙◌}
use Rattle.std.specs.List.{AllByRecursion, list_any}
use Rattle.std.specs.declared.cmp.Ordering.{Ordering}
use Rattle.zt_keys.specs.Test.{by_test}
use Rattle.zt_token_index.specs.Told.{id_of}
use Rattle.zt_model.specs.Lists.{first_where, has_id, is_some_and}
use Rattle.zt_model.specs.Parts.{find_face, told_id}
use Rattle.zt_model.specs.Refusals.{is_answered_anew}
use Rattle.zt_model.specs.Rows.{Face, Rows}
use Rattle.zt_model.specs.Telling.{registers}
use Rattle.zt_model.specs.Wants.{seeks}
use Rattle.zt_faces.specs.Rising.{IsRising}
use Rattle.zt_tokens.proofs.Chosen.{all-found}
use Rattle.zt_tokens.proofs.Told.{told_is_none}
use Rattle.zt_tokens.proofs.Unsought.{told-by, unsought}
use Rattle.zt_refusals.specs.Lacking.{answers_for_later, ids_among, is_answered_anew_by, lacks, lacks_among, lacks_for_token}
use Rattle.zt_refusals.proofs.LeftIds.{needs_none}

module _ {K : Type 0} where
  -- those that a test passes over fail another: the numbers of the others serve
  pub any_chosen : (fs gs : List (Face K)) (p q : Face K → Bool) → ((f : Face K) → p f ≡ false → q f ≡ false) → AllByRecursion (λ f. first_where (λ x. f.number == x.number) fs ≡ Some f) gs
      → list_any (λ n. is_some_and (first_where (λ x. n == x.number) fs) q) (map (λ f. f.number) (filter p gs)) ≡ list_any q gs
  any_chosen fs [] p q none found = refl
  any_chosen fs (g ∷ gs) p q none found =
      let rest = any_chosen fs gs p q none found.1 in
      by_test (p g)
      (λ t.
      let here : is_some_and (first_where (λ x. g.number == x.number) fs) q ≡ q g = ap (λ (o : Option (Face K)). is_some_and o q) found.0 in
      rw t (λ i. here i || rest i))
      (λ t. let fails = none g t in rw (t, fails) rest)

  module _ (cmp : K → K → Ordering) (matching : K → K → Bool) (n : ℕ) (interest : Option ℕ) (e : K) (g : Rows K) (pairs : List (ℕ × ℕ)) where
    -- pairs that name each face that was told the expression, and under which id, say which lack an id
    module _ (f : Face K) (is : id_of f.number pairs ≡ told_id cmp e f.told) where
      anew_same : (interest : Option ℕ) (from : Face K) → is_answered_anew_by cmp matching n interest e from f (id_of f.number pairs) ≡ is_answered_anew cmp matching n interest e from f
      anew_same None from = refl
      anew_same (Some id) from = ap (λ b. has_id id from.pendings && (b && answers_for_later cmp matching n id e f)) (ap is_none is ∙ told_is_none cmp e f.told)

      lacks_same : lacks_among cmp matching n interest e g pairs f ≡ lacks_for_token cmp matching n interest e g f
      lacks_same =
          let told = id_of f.number pairs in
          ap (λ (needs : Face K → Bool). lacks g (λ f. elim (find_face n g) [ None ↦ 0 | Some from ↦ if registers from interest && needs from then 1 else 0 ]) f)
          (λ i from. told-by matching g from.region e f cmp told is i || anew_same interest from i)

    pub any_same : (fs : List (Face K)) → AllByRecursion (λ f. id_of f.number pairs ≡ told_id cmp e f.told) fs → list_any (lacks_among cmp matching n interest e g pairs) fs ≡ list_any (lacks_for_token cmp matching n interest e g) fs
    any_same [] are = refl
    any_same (f ∷ fs) are = let rest = any_same fs are.1 in λ i. lacks_same f are.0 i || rest i

    -- the one that is found too
    pub one_same : (p : Face K → Bool) (fs : List (Face K)) → AllByRecursion (λ f. id_of f.number pairs ≡ told_id cmp e f.told) fs
        → is_some_and (first_where p fs) (lacks_among cmp matching n interest e g pairs) ≡ is_some_and (first_where p fs) (lacks_for_token cmp matching n interest e g)
    one_same p [] are = refl
    one_same p (f ∷ fs) are = by_test (p f) (λ t. rw t (lacks_same f are.0)) (λ t. rw t (one_same p fs are.1))

  module _ (cmp : K → K → Ordering) (matching : K → K → Bool) (n : ℕ) (e : K) (from : Face K) (g : Rows K) (is : find_face n g ≡ Some from) (pairs : List (ℕ × ℕ)) where
    no_ids : (f : Face K) → seeks matching g.mode f e ≡ false → ids_among cmp matching n None e g pairs f ≡ 0
    no_ids f h =
        let untold = unsought matching g from.region e f h (id_of f.number pairs) in
        rw (is, ids_among) (rw untold refl)

    pub seekers_lack : IsRising (λ f. f.number) g.faces → AllByRecursion (λ f. id_of f.number pairs ≡ told_id cmp e f.told) g.faces
        → list_any (λ m. is_some_and (find_face m g) (lacks_among cmp matching n None e g pairs)) (map (λ f. f.number) (filter (λ f. seeks matching g.mode f e) g.faces)) ≡ list_any (lacks_for_token cmp matching n None e g) g.faces
    seekers_lack rising are =
        any_chosen g.faces g.faces (λ f. seeks matching g.mode f e) (lacks_among cmp matching n None e g pairs) (λ f h. needs_none g (ids_among cmp matching n None e g pairs) f (no_ids f h)) (all-found g.faces rising)
        ∙ any_same cmp matching n None e g pairs g.faces are
