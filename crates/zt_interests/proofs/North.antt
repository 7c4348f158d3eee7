-- Faces to the south are given nothing that goes north.
use Rattle.std.proofs.Common.{◌≡◌, ◌<◌, ◌≤◌, ◌+◌, ℕ, ◌==◌, drop, get_or, length, Bool, true, false, ◌&&◌, ◌||◌, not, if◌then◌else◌, List, [], ◌∷◌, Option, Some, None, ap, filter, flat_map, map, option_map, refl, ◌∙◌}
use Rattle.std.specs.List.{AllByRecursion, list_any}
use Rattle.std.specs.declared.cmp.Ordering.{Ordering}
use Rattle.zt_keys.specs.Test.{by_test}
use Rattle.zt_region.specs.Region.{is_north}
use Rattle.zt_region.specs.declared.region.Region.{Region}
use Rattle.zt_protocol.specs.Interest.{is_future}
use Rattle.zt_protocol.specs.declared.interests.InterestMode.{InterestMode}
use Rattle.zt_protocol.specs.declared.messages.Message.TheVariants as message
use Rattle.std.proofs.lemmas.List.{drop_all, drop_more}
use Rattle.zt_model.specs.Hat.{north_hat}
use Rattle.zt_model.specs.Lists.{first_where, is_some_and}
use Rattle.zt_model.specs.Parts.{find_face}
use Rattle.zt_model.specs.Routing.{asks_same, awaits_initial, end_upstream_to, is_asked, is_held_south, is_lowest_up, is_target, leads_up, route, route_to, sent_as}
use Rattle.zt_model.specs.Rows.{Face, InterestRow, Rows}
use Rattle.zt_faces.specs.Rising.{IsRising}
use Rattle.zt_model.specs.Parts.{to_each}
use Rattle.zt_interests.specs.Chosen.{all_chosen, chosen}
use Rattle.zt_interests.specs.Ended.{ended_at}
use Rattle.zt_interests.specs.Lowest.{interest_to, lowest_up}
use Rattle.zt_tokens.proofs.Chosen.{all-found}

and-first : (a b : Bool) → a ≡ false → (a && b) ≡ false
and-first true b h = cc
and-first false b h = refl

and-second : (a b : Bool) → b ≡ false → (a && b) ≡ false
and-second true b h = h
and-second false b h = refl

either : (test a b : Bool) → a ≡ false → b ≡ false → (if test then a else b) ≡ false
either true a b h k = h
either false a b h k = k

-- where none passes nothing is chosen
none-chosen : {A B : Type 0} (p : A → Bool) (give : A → B) (xs : List A) → list_any p xs ≡ false → map give (filter p xs) ≡ []
none-chosen p give [] h = refl
none-chosen p give (x ∷ xs) h = by_test (p x) (λ t. cc (rw t at h)) (λ t. rw t (none-chosen p give xs (rw t at h)))

module _ {X : Type 0} (p : X → Bool) where
  pub first-here : (xs : List X) (i : ℕ) (d : X) → i < length xs → p (get_or xs i d) ≡ true → first_where p (drop i xs) ≡ Some (get_or xs i d)
  first-here xs i d lt t = let left = drop_more xs i d lt in rw (left, t) refl

  pub first-later : (xs : List X) (i : ℕ) (d : X) → i < length xs → p (get_or xs i d) ≡ false → first_where p (drop (i + 1) xs) ≡ first_where p (drop i xs)
  first-later xs i d lt t = let left = drop_more xs i d lt in rw (left, t) refl

  pub first-none : (xs : List X) (i : ℕ) → length xs ≤ i → first_where p (drop i xs) ≡ None
  first-none xs i past = ap (first_where p) (drop_all i xs past)

module _ {K : Type 0} where
  south-unasked : (g : Rows K) (mode : InterestMode) (f : Face K) → is_north f.region ≡ false → is_asked g mode f ≡ false
  south-unasked g mode f h =
      either (is_future mode || not (north_hat g.mode).asks_one) (leads_up g.mode f) (is_north f.region && (awaits_initial f || is_lowest_up g f))
      (and-first (is_north f.region) ((north_hat g.mode).leads_up f.bound) h)
      (and-first (is_north f.region) (awaits_initial f || is_lowest_up g f) h)

  pub south-untargeted : (g : Rows K) (asker : Region) (mode : InterestMode) (f : Face K) → is_north f.region ≡ false → is_target g asker mode f ≡ false
  unfolding is_target
  south-untargeted g asker mode f h = and-second (not (is_north asker)) (is_asked g mode f) (south-unasked g mode f h)

  pub south-unrouted : (g : Rows K) (asker : Region) (i : InterestRow K) (f : Face K) → is_north f.region ≡ false → route_to g asker i f ≡ []
  unfolding route_to
  south-unrouted g asker i f h = let none = south-untargeted g asker i.mode f h in rw none refl

  pub south-unchosen : {B : Type 0} (give : Face K → B) (g : Rows K) (asker : Region) (mode : InterestMode) (f : Face K) → is_north f.region ≡ false → chosen (is_target g asker mode) give f ≡ []
  south-unchosen give g asker mode f h = let none = south-untargeted g asker mode f h in rw none refl

  pub south-unended : (cmp : K → K → Ordering) (matching : K → K → Bool) (i : InterestRow K) (f : Face K) → is_north f.region ≡ false → ended_at cmp matching i f ≡ []
  south-unended cmp matching i f h = rw h refl

  -- a face that wasn't sent the interest is told of no end
  pub unsent-unended : (cmp : K → K → Ordering) (matching : K → K → Bool) (i : InterestRow K) (f : Face K) → list_any (λ row. asks_same cmp matching i row.1) f.locals ≡ false → ended_at cmp matching i f ≡ []
  unsent-unended cmp matching i f none =
      by_test (is_north f.region)
      (λ t. rw t (none-chosen (λ row. asks_same cmp matching i row.1) (λ row. message.InterestFinal row.0) f.locals none))
      (λ t. rw t refl)

  -- what all are given together
  pub chosen-all : {B : Type 0} (p : Face K → Bool) (give : Face K → B) (fs : List (Face K)) → flat_map (chosen p give) fs ≡ all_chosen p give fs
  chosen-all p give [] = refl
  chosen-all p give (f ∷ fs) = let rest = chosen-all p give fs in by_test (p f) (λ t. rw t (ap (λ xs. give f ∷ xs) rest)) (λ t. rw t rest)

  -- the lowest that leads up is the first among those to the north
  pub lowest-up : (g : Rows K) → IsRising (λ f. f.number) g.faces
      → first_where (λ n. is_some_and (find_face n g) (leads_up g.mode)) (map (λ f. f.number) (filter (λ f. is_north f.region) g.faces)) ≡ lowest_up g
  lowest-up g rising = each g.faces (all-found g.faces rising)
    where
      each : (fs : List (Face K)) → AllByRecursion (λ f. first_where (λ x. f.number == x.number) g.faces ≡ Some f) fs
          → first_where (λ n. is_some_and (find_face n g) (leads_up g.mode)) (map (λ f. f.number) (filter (λ f. is_north f.region) fs)) ≡ option_map (λ f. f.number) (first_where (leads_up g.mode) fs)
      each [] found = refl
      each (f ∷ fs) found =
          let rest = each fs found.1 in
          by_test (is_north f.region)
          (λ t.
          let here : is_some_and (find_face f.number g) (leads_up g.mode) ≡ leads_up g.mode f = ap (λ (o : Option (Face K)). is_some_and o (leads_up g.mode)) found.0 in
          by_test ((north_hat g.mode).leads_up f.bound)
          (λ u. let yes : is_some_and (find_face f.number g) (leads_up g.mode) ≡ true = here ∙ (λ i. t i && u i) in rw (t, yes, u) refl)
          (λ u. let no_more : is_some_and (find_face f.number g) (leads_up g.mode) ≡ false = here ∙ (λ i. t i && u i) in rw (t, no_more, u) rest))
          (λ t. rw t rest)

  -- a face is the lowest where it has its number
  number-of-lowest : (o : Option (Face K)) (m : ℕ) → is_some_and (option_map (λ f. f.number) o) (λ n. n == m) ≡ is_some_and o (λ f. f.number == m)
  number-of-lowest None m = refl
  number-of-lowest (Some f) m = refl

  pub is-lowest : (g : Rows K) (lowest : Option ℕ) (f : Face K) → lowest ≡ lowest_up g → is_some_and lowest (λ n. n == f.number) ≡ is_lowest_up g f
  is-lowest g lowest f known = ap (λ (o : Option ℕ). is_some_and o (λ n. n == f.number)) known ∙ number-of-lowest (first_where (leads_up g.mode) g.faces) f.number

  -- an interest goes to its targets, and to each under the next id there
  pub routed-is : (g : Rows K) (asker : Region) (i : InterestRow K) → map (interest_to i) (sent_as g asker i.mode) ≡ route asker i g
  unfolding sent_as route_to to_each
  routed-is g asker i = each g.faces
    where
      each : (fs : List (Face K)) → map (interest_to i) (map (λ f. (f.number, f.next)) (filter (is_target g asker i.mode) fs)) ≡ to_each (route_to g asker i) fs
      each [] = refl
      each (f ∷ fs) = let rest = each fs in by_test (is_target g asker i.mode f) (λ t. rw t (ap (λ xs. interest_to i (f.number, f.next) ∷ xs) rest)) (λ t. rw t rest)

  -- an interest ends upstream where none to the south holds it
  pub ended-is : (cmp : K → K → Ordering) (matching : K → K → Bool) (g : Rows K) (i : InterestRow K) (fs : List (Face K))
      → (if is_held_south cmp matching g i then [] else to_each (ended_at cmp matching i) fs) ≡ to_each (end_upstream_to cmp matching g i) fs
  unfolding end_upstream_to to_each
  ended-is cmp matching g i = by_test (is_held_south cmp matching g i) (λ t fs. rw t (none t fs)) (λ t fs. rw t (same t fs))
    where
      none : is_held_south cmp matching g i ≡ true → (fs : List (Face K)) → [] ≡ to_each (end_upstream_to cmp matching g i) fs
      none t [] = refl
      none t (f ∷ fs) = let rest = none t fs in by_test (is_north f.region) (λ n. rw (n, t) rest) (λ n. rw n rest)

      same : is_held_south cmp matching g i ≡ false → (fs : List (Face K)) → to_each (ended_at cmp matching i) fs ≡ to_each (end_upstream_to cmp matching g i) fs
      same t [] = refl
      same t (f ∷ fs) = let rest = same t fs in by_test (is_north f.region) (λ n. rw (n, t, rest) refl) (λ n. rw (n, rest) refl)
