-- Passes that are counted, handed in and accounted for.
use Rattle.std.proofs.Common.{◌≡◌, ℕ, suc, ◌<◌, ◌≤◌, List, [], ◌∷◌, ◌++◌, map, length, get_or, set, Some, Option, slice_get, refl, sym, ap, ◌∙◌, subst, arith}
use Rattle.std.specs.Prelude.{option_to_list}
use Rattle.std.specs.List.{sum_by, AllByRecursion, AllZip}
use Rattle.std.proofs.lemmas.List.Sums.{sum_by-cons}
use Rattle.zt_shared_value.specs.declared.part.Part.{Part}
use Rattle.zt_shared_value.specs.Owned.{below, owned}
use Rattle.zt_shared_value.specs.Plays.{Sat}
use Rattle.zt_shared_value.specs.Rule.{Fits}
use Rattle.zt_shared_value.specs.Passes.{Standing, mine, part_of, pass_counted}
use Rattle.zt_shared_value.specs.Account.{IsCounted, IsComplete, Accounts, AccountsForAll}
use Rattle.zt_shared_value.specs.Handed.{Handed, AreAllHanded, IsLeft}
use Rattle.zt_shared_value.proofs.ViewSums.{AllByRecursion-map}
use Rattle.zt_shared_value.proofs.Zipped.{AllZip-set, AllZip-length}
use Rattle.zt_shared_value.proofs.AllHanded.{owned-lengths}
use Rattle.zt_shared_value.proofs.OwnedLists.{owned-at}

map-snoc : {A B : Type 0} (f : A → B) (xs : List A) (x : A) → map f (xs ++ x ∷ []) ≡ map f xs ++ f x ∷ []
map-snoc f [] x = refl
map-snoc f (y ∷ ys) x = ap (λ zs. f y ∷ zs) (map-snoc f ys x)

pub popped : {A : Type 0} (items rest : List A) (found : Option A) (x : A) → items ≡ rest ++ option_to_list found → found ≡ Some x → items ≡ rest ++ x ∷ []
popped {A} items rest found x is some = is ∙ ap (λ (o : Option A). rest ++ option_to_list o) some

module _ {S : Type 0} where
  pub counted-self : (pass : Standing S) → IsCounted pass pass
  counted-self pass = (refl, omega arith)

  pub counted-is : (old new : Standing S) (n : ℕ) → new ≡ pass_counted n old → old.known ≤ n → IsCounted old new
  counted-is old new n is more = let known : new.known ≡ n = ap (λ (p : Standing S). p.known) is in
      (is ∙ ap (λ (k : ℕ). pass_counted k old) (sym known), omega arith)

  pub counted-trans : (a b c : Standing S) → IsCounted a b → IsCounted b c → IsCounted a c
  counted-trans a b c p q = let le = p.1 in let le' = q.1 in
      (q.0 ∙ ap (λ (x : Standing S). pass_counted c.known x) p.0, omega arith)

  -- one pass more was counted
  pub counted-set : (olds xs : List (Standing S)) (i n : ℕ) (old new : Standing S) → AllZip IsCounted olds xs → i < length xs
      → old ≡ get_or xs i old → new ≡ pass_counted n old → old.known ≤ n → AllZip IsCounted olds (set xs i new)
  counted-set olds xs i n old new zip inside at is more =
      AllZip-set IsCounted counted-trans olds xs i old new inside (subst (λ (p : Standing S). IsCounted p new) at (counted-is old new n is more)) zip

  -- ---- passes that are joined one after another, from the last on

  pub parts-popped : (items rest : List (Standing S)) (x : Standing S) → items ≡ rest ++ x ∷ [] → map part_of items ≡ map part_of rest ++ part_of x ∷ []
  parts-popped items rest x is = ap (map part_of) is ∙ map-snoc part_of rest x

  -- ---- what the parts of all passes are

  handed-map : (n : ℕ) (passes : List (Standing S)) → AllByRecursion (λ pass. pass.known ≤ n) passes → AllByRecursion (Handed n) (map part_of passes)
  handed-map n [] all = tt
  handed-map n (x ∷ xs) all = ((all.0, refl), handed-map n xs all.1)

  length-parts : (passes : List (Standing S)) → length (map part_of passes) ≡ length passes
  length-parts [] = refl
  length-parts (x ∷ xs) = ap suc (length-parts xs)

  pub handed_all : (passes : List (Standing S)) (me : Sat S) → me ≡ (map part_of passes, []) → 0 < length passes
      → AllByRecursion (λ pass. pass.known ≤ length passes) passes → AreAllHanded me
  handed_all passes me is some_handed all =
      let long = length-parts passes in
      subst (λ (m : Sat S). AreAllHanded m) (sym is) (record {
        carries_none = refl;
        some_handed = omega arith;
        handed = subst (λ (n : ℕ). AllByRecursion (Handed n) (map part_of passes)) (sym long) (handed-map (length passes) passes all);
      })

  sum-parts : (w : Part S → ℕ) (v : Standing S → ℕ) → ((a b : Standing S) → IsCounted a b → w (part_of b) ≡ v a)
      → (olds news : List (Standing S)) → AllZip IsCounted olds news → sum_by w (map part_of news) ≡ sum_by v olds
  sum-parts w v same [] [] zip = refl
  sum-parts w v same [] (y ∷ ys) zip = absurd zip
  sum-parts w v same (x ∷ xs) [] zip = absurd zip
  sum-parts w v same (x ∷ xs) (y ∷ ys) zip =
      let one = same x y zip.0 in
      let rest = sum-parts w v same xs ys zip.1 in
      let a = sum_by-cons w (part_of y) (map part_of ys) in
      let b = sum_by-cons v x xs in omega arith

  all-parts : (F : Part S → Type 0) (G : Standing S → Type 0) → ((a b : Standing S) → IsCounted a b → F (part_of b) → G a)
      → (olds news : List (Standing S)) → AllZip IsCounted olds news → AllByRecursion F (map part_of news) → AllByRecursion G olds
  all-parts F G over [] [] zip all = tt
  all-parts F G over [] (y ∷ ys) zip all = absurd zip
  all-parts F G over (x ∷ xs) [] zip all = absurd zip
  all-parts F G over (x ∷ xs) (y ∷ ys) zip all = (over x y zip.0 all.0, all-parts F G over xs ys zip.1 all.1)

-- the pass found no more numbers than n, and drew none past them
abbrev IsWithin : {S : Type 0} → ℕ → Standing S → Type 0
IsWithin n pass = (pass.known ≤ n) × AllByRecursion (λ m. m < n) pass.drawn

module _ {S E O : Type 0} (journal : S → List E) (author : E → ℕ) (state : S → O) (value first : S) where
  accounts : (log_count : ℕ) → state value ≡ state first → (a b : Standing S) → IsCounted a b
      → Fits journal author state first (journal value) log_count (part_of b) → Accounts journal author state value a
  accounts n opened a b counted f =
      let F : Standing S → Type 0 = λ x. Fits journal author state first (journal value) n (part_of x) in
      let at-a : F (pass_counted b.known a) = subst F counted.0 f in record {
        begins = at-a.begins;
        mine_whole = at-a.owns;
        mine_stands = λ k place entry at. owned-at author a.number (journal value) k place entry
            (ap (λ (es : List (ℕ × E)). slice_get es k) at-a.owns ∙ at);
        opened = opened ∙ sym at-a.opened;
        seen_long = at-a.seen_long;
        looks_long = AllByRecursion-map (λ (m : ℕ). m ≤ a.seen) (λ (m : ℕ). m ≤ length (journal value)) (λ m le. let seen = at-a.seen_long in omega arith) a.looks at-a.looks_seen;
      }

  -- what the pass knows of numbers is below the count
  within : (n : ℕ) (a b : Standing S) → IsCounted a b
      → Fits journal author state first (journal value) n (part_of b) → IsWithin n a
  within n a b counted f =
      let Fact : Part S → Type 0 = Fits journal author state first (journal value) n in
      let at-a = subst (λ (x : Standing S). Fact (part_of x)) counted.0 f in
      let most = at-a.known_drawn in
      let more = counted.1 in (
        omega arith,
        AllByRecursion-map (λ (m : ℕ). (a.number < m) × (m < b.known)) (λ (m : ℕ). m < n)
            (λ m d. let below = d.1 in omega arith) a.drawn at-a.draws,
      )

module _ {S E O : Type 0} (journal : S → List E) (author : E → ℕ) (state : S → O) (value : S) where
  pub complete : (olds news : List (Standing S)) → AllZip IsCounted olds news
      → IsLeft journal author state value (map part_of news) → IsComplete olds
  complete olds news zip left =
      let n = length (map part_of news) in
      let long = length-parts news ∙ sym (AllZip-length IsCounted olds news zip) in
      let Fact : Part S → Type 0 = Fits journal author state left.first (journal value) n in
      let each = within journal author state value left.first n in
      subst (λ (m : ℕ). AllByRecursion (IsWithin m) olds) long
      (all-parts Fact (IsWithin n) each olds news zip left.fits)

  sum-mine : (passes : List (Standing S)) → AllByRecursion (Accounts journal author state value) passes
      → sum_by (λ (pass : Standing S). length (mine journal author pass)) passes ≡ sum_by (λ (pass : Standing S). length (owned author pass.number (journal value))) passes
  sum-mine [] all = refl
  sum-mine (x ∷ xs) all =
      let one = ap length all.0.mine_whole in
      let rest = sum-mine xs all.1 in
      let a = sum_by-cons (λ (pass : Standing S). length (mine journal author pass)) x xs in
      let b = sum_by-cons (λ (pass : Standing S). length (owned author pass.number (journal value))) x xs in omega arith

  pub accounts_all : (olds news : List (Standing S)) → AllZip IsCounted olds news → IsLeft journal author state value (map part_of news)
      → AccountsForAll journal author state value olds
  accounts_all olds news zip left =
      let long : length (map part_of news) ≡ length olds = length-parts news ∙ sym (AllZip-length IsCounted olds news zip) in
      let fits = left.fits in
      let numbers : (f : ℕ → ℕ) → sum_by (λ (pass : Standing S). f pass.number) olds ≡ below f (length olds) = λ f.
      sym (sum-parts (λ p. f p.number) (λ pass. f pass.number) (λ a b c. ap (λ (x : Standing S). f x.number) c.0) olds news zip)
      ∙ (left.numbers f ∙ ap (below f) long) in
      let authors : AllByRecursion (λ e. author e < length olds) (journal value) =
      subst (λ (n : ℕ). AllByRecursion (λ e. author e < n) (journal value)) long left.authors in
      let each = all-parts (Fits journal author state left.first (journal value) (length (map part_of news))) (Accounts journal author state value)
      (accounts journal author state value left.first (length (map part_of news)) left.opened_first) olds news zip fits in record {
        each = each;
        numbers = numbers;
        authors = authors;
        lengths = sum-mine olds each ∙ (numbers (λ n. length (owned author n (journal value))) ∙ owned-lengths author (length olds) 0 (journal value) authors);
      }
