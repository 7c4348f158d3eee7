-- Answers that are gathered in a set, and tokens that are looked up by a key.
use Rattle.std.proofs.Common.{◌≡◌, ℕ, ◌<◌, ◌+◌, Bool, true, false, ◌&&◌, ◌||◌, cond, not, List, [], ◌∷◌, ◌++◌, Option, None, Some, length, get_or, drop, take, refl, sym, ap, subst, ◌∙◌}
use Rattle.std.specs.List.{list_all, list_any}
use Rattle.std.specs.Ordering.{is_eq}
use Rattle.std.specs.declared.cmp.Ordering.{Ordering}
use Rattle.zt_keys.specs.Test.{by_test}
use Rattle.zt_region.specs.declared.region.Region.{Region}
use Rattle.zt_model.specs.Lists.{is_among, same}
use Rattle.zt_model.specs.Promises.{are_new}
use Rattle.zt_model.specs.Rows.{ById, Face}
use Rattle.zt_model.specs.Seen.{sees}
use Rattle.zt_check_faces.proofs.Placed.{next_is}
use Rattle.zt_check_asks.specs.Answering.{are_of_face, are_of_faces, is_missing}
use Rattle.zt_check_asks.proofs.Asked.{among_more}
use Rattle.zt_check_asks.proofs.Walked.{take_more}

-- ---- by equality

module _ {K : Type 0} {eq : K → K → Bool} (cmp : K → K → Ordering) (ties : (a b : K) → eq a b ≡ is_eq (cmp a b)) where
  alike : eq ≡ (λ a b. is_eq (cmp a b))
  alike = λ i a b. ties a b i

  pub found_by : (q : K) (keys : List K) → list_any (eq q) keys ≡ is_among cmp q keys
  found_by q keys = λ i. list_any (alike i q) keys

  cond_or : (b x : Bool) → cond b true x ≡ (b || x)
  cond_or true x = refl
  cond_or false x = refl

  pub keys_added : (key : K) (old new : List K) → ((q : K) → list_any (eq q) new ≡ cond (eq key q) true (list_any (eq q) old)) → (q : K) → is_among cmp q new ≡ (same cmp key q || is_among cmp q old)
  keys_added key old new changed q =
      sym (found_by q new)
      ∙ (changed q
      ∙ (cond_or (eq key q) (list_any (eq q) old)
      ∙ (ap (λ b. b || list_any (eq q) old) (ties key q) ∙ ap (λ b. same cmp key q || b) (found_by q old))))

-- ---- one after another

module _ {K : Type 0} (cmp : K → K → Ordering) (itself : (e : K) → same cmp e e ≡ true) (exact : (a b : K) → same cmp a b ≡ true → a ≡ b) where
  back : (a b : K) → same cmp a b ≡ true → same cmp b a ≡ true
  back a b h = subst (λ (x : K). same cmp b x ≡ true) (sym (exact a b h)) (itself b)

  flipped : (a b : K) → same cmp a b ≡ same cmp b a
  flipped a b =
      by_test (same cmp a b)
      (λ here. here ∙ sym (back a b here))
      (λ apart. by_test (same cmp b a) (λ here. back b a here ∙ sym here) (λ other. apart ∙ sym other))

  swapped : (a s : Bool) → (s || a) ≡ (a || (s || false))
  swapped true true = refl
  swapped true false = refl
  swapped false true = refl
  swapped false false = refl

  pub found_more : (es : List K) (i : ℕ) (e : K) (old new : List K) → i < length es → e ≡ get_or es i e → ((q : K) → is_among cmp q new ≡ (same cmp e q || is_among cmp q old))
      → ((q : K) → is_among cmp q old ≡ is_among cmp q (take i es)) → (q : K) → is_among cmp q new ≡ is_among cmp q (take (i + 1) es)
  found_more es i e old new within is added was q =
      added q
      ∙ (ap (λ b. same cmp e q || b) (was q)
      ∙ (ap (λ b. b || is_among cmp q (take i es)) (flipped e q)
      ∙ (swapped (is_among cmp q (take i es)) (same cmp q e)
      ∙ (sym (among_more cmp q (take i es) (e ∷ [])) ∙ ap (is_among cmp q) (sym (take_more cmp (λ a b. true) i e es within is))))))

module _ {K : Type 0} (cmp : K → K → Ordering) (matching : K → K → Bool) where
  -- one that is among those so far, or was known, isn't new
  pub not_new : (known es : List K) (i : ℕ) (e : K) → i < length es → e ≡ get_or es i e → (is_among cmp e (take i es) || is_among cmp e known) ≡ true
      → are_new cmp matching (take i es ++ known) (drop i es) ≡ are_new cmp matching known es → false ≡ are_new cmp matching known es
  not_new known es i e within is there so_far =
      let here : is_among cmp e (take i es ++ known) ≡ true = among_more cmp e (take i es) known ∙ there in
      sym (ap (λ b. not b && are_new cmp matching (e ∷ (take i es ++ known)) (drop (i + 1) es)) here)
      ∙ (ap (are_new cmp matching (take i es ++ known)) (sym (next_is es i e within is)) ∙ so_far)

  -- ---- tokens near a key

  none_fails : {A : Type 0} (passes fails : A → Bool) → ((x : A) → fails x ≡ not (passes x)) → (xs : List A) → not (list_any fails xs) ≡ list_all passes xs
  none_fails passes fails is [] = refl
  none_fails passes fails is (x ∷ xs) = both (passes x) (fails x) (list_any fails xs) (list_all passes xs) (is x) (none_fails passes fails is xs)
    where
      both : (p f fs ps : Bool) → f ≡ not p → not fs ≡ ps → not (f || fs) ≡ (p && ps)
      both true f fs ps here rest = rw here rest
      both false f fs ps here rest = rw here refl

  not_twice : (a b : Bool) → not a ≡ b → a ≡ not b
  not_twice true b h = rw (sym h) refl
  not_twice false b h = rw (sym h) refl

  one_missing : (about among : Bool) → (about && not among) ≡ not (not about || among)
  one_missing true true = refl
  one_missing true false = refl
  one_missing false among = refl

  none_hidden : (k : K) (es : List K) (rows : ById K) → list_any (λ row. matching k row.1 && (false && not (is_among cmp row.1 es))) rows ≡ false
  none_hidden k es [] = refl
  none_hidden k es (row ∷ rows) = both (matching k row.1) (none_hidden k es rows)
    where
      both : (b : Bool) → list_any (λ r. matching k r.1 && (false && not (is_among cmp r.1 es))) rows ≡ false → ((b && false) || list_any (λ r. matching k r.1 && (false && not (is_among cmp r.1 es))) rows) ≡ false
      both true h = h
      both false h = h

  source_by : (seen : Bool) (k : K) (es : List K) (rows : ById K) → list_any (λ row. matching k row.1 && (seen && not (is_among cmp row.1 es))) rows ≡ not (not seen || are_of_face cmp matching (Some k) es rows)
  source_by true k es rows =
      not_twice (list_any (λ row. matching k row.1 && not (is_among cmp row.1 es)) rows) (are_of_face cmp matching (Some k) es rows)
      (none_fails (λ (row : ℕ × K). not (matching k row.1) || is_among cmp row.1 es) (λ (row : ℕ × K). matching k row.1 && not (is_among cmp row.1 es))
      (λ row. one_missing (matching k row.1) (is_among cmp row.1 es)) rows)
  source_by false k es rows = none_hidden k es rows

  pub missing_tried : (own : Region) (k : K) (es : List K) (fs : List (Face K)) → not (list_any (λ f. list_any (λ row. matching k row.1 && is_missing cmp matching own es f row.1) f.live) fs) ≡ are_of_faces cmp matching own (Some k) es fs
  missing_tried own k es fs =
      none_fails (λ (f : Face K). not (sees own f.region) || are_of_face cmp matching (Some k) es f.live)
      (λ (f : Face K). list_any (λ row. matching k row.1 && is_missing cmp matching own es f row.1) f.live)
      (λ f. source_by (sees own f.region) k es f.live) fs
