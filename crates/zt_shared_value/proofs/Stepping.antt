-- Each step keeps the rule.
use Rattle.std.proofs.Common.{◌≡◌, ℕ, ◌+◌, ◌%◌, ◌^◌, ◌<◌, ◌≤◌, ◌≢◌, ◌==◌, inl, inr, ⊎_elim, Bool, true, false, List, [], ◌∷◌, ◌++◌, set, get_or, length, refl, sym, ap, ◌∙◌, subst, arith, length-append}
use Rattle.std.proofs.lemmas.Bool.{eqb-true, eqb-false}
use Rattle.std.proofs.Math.Nat.{mod-eq_of_lt}
use Rattle.std.specs.List.{sum_by, AllByRecursion}
use Rattle.std.proofs.lemmas.List.Sums.{sum_by-append}
use Rattle.atomic_table.proofs.Lists.{set_else}
use mathlib.Core.Option.{Option, none, some}
use mathlib.Core.List.{IsPrefix}
use lib.ListN.{get_elem?}
use prog.Atomic.{either}
use Rattle.atomic_table.specs.Table.{State, Act, opening, keeps, takes, gives, step, Valid, homes_after, carried_after, Allows, Splits, Joins}
use Rattle.zt_shared_value.specs.declared.part.Part.{Part}
use Rattle.zt_shared_value.specs.Owned.{below, owned}
use Rattle.zt_shared_value.specs.Views.{total, AllParts}
use Rattle.zt_shared_value.specs.Rule.{held, first_part, Fits, Home, IsShared}
use Rattle.zt_shared_value.specs.Plays.{Sat, Continues, alone, holding, part_looked, part_locked, part_entered, part_released, part_counted, part_drawn, part_made, Took, Published, Released, Looked, Drew, Counted}
use Rattle.zt_shared_value.proofs.ViewSums.{AllByRecursion-map, AllByRecursion-join, AllByRecursion-left, AllByRecursion-right, total-snoc, total-others, total-with, parts-at, parts-set, parts-with, parts-map, parts-both, all-weightless}
use Rattle.zt_shared_value.proofs.OwnedLists.{owned-other, owned-none}
use Rattle.zt_shared_value.proofs.Numbers.{one_at, one_at-self, one_at-apart, below-at, below-more}
use Rattle.zt_shared_value.proofs.Prefixes.{prefix-self, prefix-more}

held-free : {S : Type 0} (p : Part S) → held p ≡ 0 → p.locked ≡ true → ⊥
held-free p free locked = let one : held p ≡ 1 = rw locked refl in omega arith

module _ {S E O : Type 0} (journal : S → List E) (author : E → ℕ) (state : S → O) (first : S) where
  home_lock : (log : List E) (lock : ℕ) (homes : List (Option S)) → Home journal author state first log lock homes → lock ≤ 1
  home_lock log lock homes (inl h) = let free = h.0 in omega arith
  home_lock log lock homes (inr h) = let away = h.0 in omega arith

  home_away : (log : List E) (lock : ℕ) (homes : List (Option S)) → 0 < lock → Home journal author state first log lock homes → (lock ≡ 1) × (homes ≡ none ∷ [])
  home_away log lock homes held (inl h) = let free = h.0 in absurd (omega arith)
  home_away log lock homes held (inr h) = h

  home_held : (log longer : List E) (lock : ℕ) (homes : List (Option S)) → 0 < lock → Home journal author state first log lock homes
      → Home journal author state first longer lock homes
  home_held log longer lock homes held h = inr (home_away log lock homes held h)

module _ {S E O : Type 0} (journal : S → List E) (author : E → ℕ) (state : S → O) (first : S) where
  abbrev Rule : State S (List (Part S)) → Type 0
  Rule = IsShared journal author state first

  abbrev Fact : List E → ℕ → Part S → Type 0
  Fact = Fits journal author state first

  -- the rule after a step, from what is true of the other views and of the seat's new one
  rebuilt : (vs : List (List (Part S))) (homes : List (Option S)) (id : ℕ) (v new : List (Part S)) → get_elem? vs id ≡ some v
      → (log : List E) (count lock : ℕ) → Home journal author state first log lock homes
      → total held (set vs id []) + sum_by held new ≡ lock
      → count ≤ 4294967295
      → ((f : ℕ → ℕ) → total (λ p. f p.number) (set vs id []) + sum_by (λ p. f p.number) new ≡ below f count)
      → ((f : ℕ → ℕ) → total (λ p. sum_by f p.drawn) (set vs id []) + sum_by (λ p. sum_by f p.drawn) new + f 0 ≡ below f count)
      → AllByRecursion (λ e. author e < count) log
      → AllParts (Fact log count) (set vs id []) → AllByRecursion (Fact log count) new
      → Rule record { words = length log ∷ count ∷ lock ∷ []; homes = homes; views = set vs id new }
  rebuilt vs homes id v new at log count lock home holder few numbers drawn authors others mine = record {
    log = log;
    count = count;
    lock = lock;
    words = refl;
    home = home;
    one_holder = total-with held vs id v new at ∙ holder;
    few = few;
    numbers = λ f. total-with (λ (p : Part S). f p.number) vs id v new at ∙ numbers f;
    all_drawn = λ f. let with = total-with (λ (p : Part S). sum_by f p.drawn) vs id v new at in ap (λ (n : ℕ). n + f 0) with ∙ drawn f;
    authors = authors;
    parts = parts-with (Fact log count) vs id new others mine;
  }

  fits_looked : (log : List E) (count : ℕ) (p : Part S) → Fact log count p → Fact log count (part_looked (length log) p)
  fits_looked log count p f = record {
    below_known = f.below_known;
    known_drawn = f.known_drawn;
    draws = f.draws;
    seen_long = omega arith;
    looks_seen = AllByRecursion-join (λ (n : ℕ). n ≤ length log) p.looks (length log ∷ [])
        (AllByRecursion-map (λ (n : ℕ). n ≤ p.seen) (λ (n : ℕ). n ≤ length log) (λ n le. let seen = f.seen_long in omega arith) p.looks f.looks_seen) (omega arith, tt);
    begins = f.begins;
    owns = f.owns;
    opened = f.opened;
    opened_empty = f.opened_empty;
    found_opened = f.found_opened;
    holds_all = f.holds_all;
  }

  -- the rule after a step of one pass that draws no number
  moved : (s : State S (List (Part S))) (r : Rule s) (id : ℕ) (p q : Part S) → get_elem? s.views id ≡ some (p ∷ [])
      → q.number ≡ p.number → q.drawn ≡ p.drawn
      → (homes : List (Option S)) (log : List E) (lock : ℕ) → Home journal author state first log lock homes
      → total held (set s.views id []) + held q ≡ lock
      → AllByRecursion (λ e. author e < r.count) log
      → AllParts (Fact log r.count) (set s.views id []) → Fact log r.count q
      → Rule record { words = length log ∷ r.count ∷ lock ∷ []; homes = homes; views = set s.views id (q ∷ []) }
  moved s r id p q at number drawn homes log lock home holder authors others mine =
      rebuilt s.views homes id (p ∷ []) (q ∷ []) at log r.count lock home (omega arith) r.few
      (λ f. let all = total-others (λ (x : Part S). f x.number) s.views id (p ∷ []) at in let now = r.numbers f in let same = ap f number in omega arith)
      (λ f. let all = total-others (λ (x : Part S). sum_by f x.drawn) s.views id (p ∷ []) at in let now = r.all_drawn f in let same = ap (sum_by f) drawn in omega arith)
      authors others (mine, tt)

  -- what is true of one pass and of the others
  of_one : (s : State S (List (Part S))) (r : Rule s) (id : ℕ) (p : Part S) → get_elem? s.views id ≡ some (p ∷ []) → Fact r.log r.count p
  of_one s r id p at = (parts-at (Fact r.log r.count) s.views id (p ∷ []) at r.parts).0

  of_others : (s : State S (List (Part S))) (r : Rule s) (id : ℕ) → AllParts (Fact r.log r.count) (set s.views id [])
  of_others s r id = parts-set (Fact r.log r.count) s.views id [] r.parts tt

  holders : (s : State S (List (Part S))) (r : Rule s) (id : ℕ) (p : Part S) → get_elem? s.views id ≡ some (p ∷ [])
      → total held (set s.views id []) + held p ≡ r.lock
  holders s r id p at = let all = total-others held s.views id (p ∷ []) at in let now = r.one_holder in omega arith

  pub looks : (slots id : ℕ) (p : Part S) (c : List (ℕ × S))
      → Allows Rule slots id (p ∷ [], c) 0 (λ n. n) (Looked journal author state (step slots 0 0 0 none) (p ∷ [], c))
  looks slots id p c s r len at fits =
      let P : List ℕ → Type 0 = λ ws. (w : List (Part S)) × (a : Act S) × Valid s.homes c a
      × Rule record { words = set ws 0 (get_or ws 0 0); homes = homes_after s.homes c a; views = set s.views id w }
      × Looked journal author state (step slots 0 0 0 none) (p ∷ [], c) (get_or ws 0 0) (w, carried_after c a) in
      let mine = of_one s r id p at in
      let new : Part S = part_looked (length r.log) p in
      subst P (sym r.words) (
        new ∷ [],
        keeps,
        tt,
        moved s r id p new at refl refl s.homes r.log r.lock r.home (holders s r id p at) r.authors (of_others s r id) (fits_looked r.log r.count p mine),
        (λ q same. let is : p ≡ q = ap (λ (l : List (Part S)). get_or l 0 p) same in
            let Q : Part S → Type 0 = λ q. ◌≡◌ {A = Sat S} (new ∷ [], c) (part_looked (length r.log) q ∷ [], c) × (q.seen ≤ length r.log) × (q.locked ≡ true → length r.log ≡ length (journal q.found)) in
            subst Q is (refl, mine.seen_long, λ locked. ap length (sym (mine.holds_all locked)))),
      )

  -- ---- the lock

  fits_taken : (log : List E) (count : ℕ) (p : Part S) (x : S) → journal x ≡ log → state x ≡ state first → Fact log count p → Fact log count (part_locked x p)
  fits_taken log count p x is opened f = record {
    below_known = f.below_known;
    known_drawn = f.known_drawn;
    draws = f.draws;
    seen_long = f.seen_long;
    looks_seen = f.looks_seen;
    begins = subst (λ (l : List E). IsPrefix l log) (sym is) (prefix-self log);
    owns = ap (owned author p.number) (sym is);
    opened = f.opened;
    opened_empty = f.opened_empty;
    found_opened = opened;
    holds_all = λ _. is;
  }

  continues : (log : List E) (count : ℕ) (p : Part S) (x : S) → journal x ≡ log → state x ≡ state first → Fact log count p → Continues journal author state x p
  continues log count p x is opened f = record {
    begins = subst (IsPrefix (journal p.found)) (sym is) f.begins;
    owns = ap (owned author p.number) is ∙ f.owns;
    seen_long = subst (λ (l : List E). p.seen ≤ length l) (sym is) f.seen_long;
    opened = opened ∙ sym f.opened;
  }

  pub locks : (slots id : ℕ) (p : Part S) → p.locked ≡ false
      → Allows Rule slots id (alone p) 2 (λ n. either (n == 0) 1 n) (Took journal author state (step slots 2 0 1 none) (alone p))
  locks slots id p free s r len at fits =
      let mine = of_one s r id p at in
      let all = holders s r id p at in
      let Goal : List ℕ → List (Option S) → Type 0 = λ ws hs. (w : List (Part S)) × (a : Act S) × Valid hs [] a
      × Rule record { words = set ws 2 (either (get_or ws 2 0 == 0) 1 (get_or ws 2 0)); homes = homes_after hs [] a; views = set s.views id w }
      × Took journal author state (step slots 2 0 1 none) (alone p) (get_or ws 2 0) (w, carried_after [] a) in
      let none-held : held p ≡ 0 = rw free refl in
      subst (λ ws. Goal ws s.homes) (sym r.words) (⊎_elim
      (λ (h : (r.lock ≡ 0) × ((x : S) × (s.homes ≡ some x ∷ []) × (journal x ≡ r.log) × (state x ≡ state first))).
      let x = h.1.0 in
      let new : Part S = part_locked x p in
      subst (λ (n : ℕ). Goal (length r.log ∷ r.count ∷ n ∷ []) s.homes) (sym h.0) (subst (λ hs. Goal (length r.log ∷ r.count ∷ 0 ∷ []) hs) (sym h.1.1) (
        new ∷ [],
        takes 0 x,
        refl,
        moved s r id p new at refl refl (none ∷ []) r.log 1 (inr (refl, refl)) (omega arith) r.authors (of_others s r id) (fits_taken r.log r.count p x h.1.2 h.1.3 mine),
        (λ q same. let is : p ≡ q = ap (λ (m : Sat S). get_or m.0 0 p) same in
            let Q : Part S → Type 0 = λ q. (y : S) × ◌≡◌ {A = Sat S} (new ∷ [], (0, x) ∷ []) (holding (part_locked y q) y) × Continues journal author state y q in
            subst Q is (x, refl, continues r.log r.count p x h.1.2 h.1.3 mine)),
      )))
      (λ (h : (r.lock ≡ 1) × (s.homes ≡ none ∷ [])).
      subst (λ (n : ℕ). Goal (length r.log ∷ r.count ∷ n ∷ []) s.homes) (sym h.0) (
        p ∷ [],
        keeps,
        tt,
        moved s r id p p at refl refl s.homes r.log 1 (inr (refl, h.1)) (omega arith) r.authors (of_others s r id) mine,
        (λ q same. let is : p ≡ q = ap (λ (m : Sat S). get_or m.0 0 p) same in ap alone is),
      ))
      r.home)

  -- an entry of another pass changes nothing of what a pass knows
  fits_beside : (log : List E) (count n : ℕ) (e : E) (q : Part S) → author e ≡ n
      → Fact log count q → held q ≡ 0 → one_at n q.number ≡ 0 → Fact (log ++ e ∷ []) count q
  fits_beside log count n e q by f free apart = let longer = length-append log (e ∷ []) in record {
    below_known = f.below_known;
    known_drawn = f.known_drawn;
    draws = f.draws;
    seen_long = let seen = f.seen_long in omega arith;
    looks_seen = f.looks_seen;
    begins = prefix-more (journal q.found) log (e ∷ []) f.begins;
    owns = owned-other author q.number log e (λ same. one_at-apart n q.number apart (sym same ∙ by)) ∙ f.owns;
    opened = f.opened;
    opened_empty = f.opened_empty;
    found_opened = f.found_opened;
    holds_all = λ locked. absurd (held-free q free locked);
  }

  fits_entered : (log : List E) (count : ℕ) (e : E) (p : Part S) (y : S) → journal y ≡ log ++ e ∷ [] → state y ≡ state p.opening
      → Fact log count p → Fact (log ++ e ∷ []) count (part_entered (length log + 1) y p)
  fits_entered log count e p y is opened f = let longer = length-append log (e ∷ []) in record {
    below_known = f.below_known;
    known_drawn = f.known_drawn;
    draws = f.draws;
    seen_long = omega arith;
    looks_seen = AllByRecursion-map (λ (n : ℕ). n ≤ p.seen) (λ (n : ℕ). n ≤ length log + 1) (λ n le. let seen = f.seen_long in omega arith) p.looks f.looks_seen;
    begins = subst (λ (l : List E). IsPrefix l (log ++ e ∷ [])) (sym is) (prefix-self (log ++ e ∷ []));
    owns = ap (owned author p.number) (sym is);
    opened = f.opened;
    opened_empty = f.opened_empty;
    found_opened = opened ∙ f.opened;
    holds_all = λ _. is;
  }

  -- the other passes have other numbers, and none of them holds the lock
  others_apart : (s : State S (List (Part S))) (r : Rule s) (id : ℕ) (p : Part S) → get_elem? s.views id ≡ some (p ∷ []) → p.locked ≡ true
      → AllParts (λ q. (Fact r.log r.count q × held q ≡ 0) × (one_at p.number q.number ≡ 0)) (set s.views id [])
  others_apart s r id p at locked =
      let mine = of_one s r id p at in
      let holds : held p ≡ 1 = rw locked refl in
      let lock : r.lock ≤ 1 = home_lock journal author state first r.log r.lock s.homes r.home in
      let all = holders s r id p at in
      let unheld : total held (set s.views id []) ≡ 0 = omega arith in
      let numbers = r.numbers (one_at p.number) in
      let once : below (one_at p.number) r.count ≡ 1 = let a = mine.below_known in let b = mine.known_drawn in below-at p.number r.count (omega arith) in
      let others = total-others (λ (q : Part S). one_at p.number q.number) s.views id (p ∷ []) at in
      let self : one_at p.number p.number ≡ 1 = one_at-self p.number in
      let apart : total (λ (q : Part S). one_at p.number q.number) (set s.views id []) ≡ 0 = omega arith in
      parts-both (λ q. Fact r.log r.count q × held q ≡ 0) (λ q. one_at p.number q.number ≡ 0) (set s.views id [])
      (parts-both (Fact r.log r.count) (λ q. held q ≡ 0) (set s.views id []) (of_others s r id) (all-weightless held (set s.views id []) unheld))
      (all-weightless (λ (q : Part S). one_at p.number q.number) (set s.views id []) apart)

  pub publishes : (slots id : ℕ) (p : Part S) (y : S) (e : E) → p.locked ≡ true
      → journal y ≡ journal p.found ++ e ∷ [] → author e ≡ p.number → state y ≡ state p.opening → length (journal y) < 2 ^ 64
      → Allows Rule slots id (holding p y) 0 (λ n. (n + 1) % 2 ^ 64) (Published journal author state (step slots 0 1 0 none) (holding p y))
  publishes slots id p y e locked grown by opened room s r len at fits =
      let mine = of_one s r id p at in
      let whole = mine.holds_all locked in
      let is : journal y ≡ r.log ++ e ∷ [] = grown ∙ ap (λ (l : List E). l ++ e ∷ []) whole in
      let longer : length (r.log ++ e ∷ []) ≡ length r.log + 1 = length-append r.log (e ∷ []) in
      let long : length (journal y) ≡ length r.log + 1 = ap length is ∙ longer in
      let small : length r.log + 1 < 2 ^ 64 = omega arith in
      let word : (length r.log + 1) % 2 ^ 64 ≡ length (r.log ++ e ∷ []) = mod-eq_of_lt small ∙ sym longer in
      let holds : held p ≡ 1 = rw locked refl in
      let P : List ℕ → Type 0 = λ ws. (w : List (Part S)) × (a : Act S) × Valid s.homes ((0, y) ∷ []) a
      × Rule record { words = set ws 0 ((get_or ws 0 0 + 1) % 2 ^ 64); homes = homes_after s.homes ((0, y) ∷ []) a; views = set s.views id w }
      × Published journal author state (step slots 0 1 0 none) (holding p y) (get_or ws 0 0) (w, carried_after ((0, y) ∷ []) a) in
      let new : Part S = part_entered (length r.log + 1) y p in
      let Words : ℕ → Type 0 = λ n. Rule record { words = n ∷ r.count ∷ r.lock ∷ []; homes = s.homes; views = set s.views id (new ∷ []) } in
      let home : Home journal author state first (r.log ++ e ∷ []) r.lock s.homes = home_held journal author state first r.log (r.log ++ e ∷ []) r.lock s.homes (let all = holders s r id p at in omega arith) r.home in
      subst P (sym r.words) (
        new ∷ [],
        keeps,
        tt,
        subst Words (sym word) (moved s r id p new at refl refl s.homes (r.log ++ e ∷ []) r.lock home (holders s r id p at)
            (AllByRecursion-join (λ x. author x < r.count) r.log (e ∷ []) r.authors ((let a = mine.below_known in let b = mine.known_drawn in omega arith), tt))
            (parts-map (λ q. (Fact r.log r.count q × held q ≡ 0) × (one_at p.number q.number ≡ 0)) (Fact (r.log ++ e ∷ []) r.count)
            (λ q f. fits_beside r.log r.count p.number e q by f.0.0 f.0.1 f.1) (set s.views id []) (others_apart s r id p at locked))
            (fits_entered r.log r.count e p y is opened mine)),
        (λ q x same. let is : p ≡ q = ap (λ (m : Sat S). get_or m.0 0 p) same in let put : y ≡ x = ap (λ (m : Sat S). (get_or m.1 0 (0, y)).1) same in
            let Q : Part S → S → Type 0 = λ q x. ◌≡◌ {A = Sat S} (holding new y) (holding (part_entered (length r.log + 1) x q) x) × (length r.log ≡ length (journal q.found)) × (q.seen ≤ length r.log) in
            let at_self : Q p y = (refl, ap length (sym whole), mine.seen_long) in
            subst (λ (q : Part S). Q q x) is (subst (λ (x : S). Q p x) put at_self)),
      )

  fits_released : (log : List E) (count : ℕ) (p : Part S) → Fact log count p → Fact log count (part_released p)
  fits_released log count p f = record {
    below_known = f.below_known;
    known_drawn = f.known_drawn;
    draws = f.draws;
    seen_long = f.seen_long;
    looks_seen = f.looks_seen;
    begins = f.begins;
    owns = f.owns;
    opened = f.opened;
    opened_empty = f.opened_empty;
    found_opened = f.found_opened;
    holds_all = λ locked. absurd cc;
  }

  pub releases : (slots id : ℕ) (p : Part S) (y : S) → p.locked ≡ true → journal y ≡ journal p.found → state y ≡ state p.opening
      → Allows Rule slots id (holding p y) 2 (λ _. 0) (Released (step slots 2 0 0 none) (holding p y))
  releases slots id p y locked kept opened s r len at fits =
      let mine = of_one s r id p at in
      let holds : held p ≡ 1 = rw locked refl in
      let all = holders s r id p at in
      let away : (r.lock ≡ 1) × (s.homes ≡ none ∷ []) = home_away journal author state first r.log r.lock s.homes (omega arith) r.home in
      let Goal : List ℕ → List (Option S) → Type 0 = λ ws hs. (w : List (Part S)) × (a : Act S) × Valid hs ((0, y) ∷ []) a
      × Rule record { words = set ws 2 0; homes = homes_after hs ((0, y) ∷ []) a; views = set s.views id w }
      × Released (step slots 2 0 0 none) (holding p y) (get_or ws 2 0) (w, carried_after ((0, y) ∷ []) a) in
      let new : Part S = part_released p in
      let one = away.0 in
      subst (λ ws. Goal ws s.homes) (sym r.words) (subst (λ hs. Goal (length r.log ∷ r.count ∷ r.lock ∷ []) hs) (sym away.1) (
        new ∷ [],
        gives,
        tt,
        moved s r id p new at refl refl (some y ∷ []) r.log 0 (inl (refl, (y, refl, kept ∙ mine.holds_all locked, opened ∙ mine.opened)))
            (omega arith) r.authors (of_others s r id) (fits_released r.log r.count p mine),
        (λ q x same. let is : p ≡ q = ap (λ (m : Sat S). get_or m.0 0 p) same in ap (λ (q : Part S). alone (part_released q)) is),
      ))

  -- ---- the count of numbers

  fits_counted : (log : List E) (count : ℕ) (p : Part S) → Fact log count p → Fact log count (part_counted count p)
  fits_counted log count p f = record {
    below_known = let a = f.below_known in let b = f.known_drawn in omega arith;
    known_drawn = omega arith;
    draws = AllByRecursion-map (λ (n : ℕ). (p.number < n) × (n < p.known)) (λ (n : ℕ). (p.number < n) × (n < count)) (λ n d. (d.0, let b = f.known_drawn in let c = d.1 in omega arith)) p.drawn f.draws;
    seen_long = f.seen_long;
    looks_seen = f.looks_seen;
    begins = f.begins;
    owns = f.owns;
    opened = f.opened;
    opened_empty = f.opened_empty;
    found_opened = f.found_opened;
    holds_all = f.holds_all;
  }

  pub counts : (slots id : ℕ) (p : Part S)
      → Allows Rule slots id (alone p) 1 (λ n. n) (Counted (step slots 1 0 0 none) (alone p))
  counts slots id p s r len at fits =
      let P : List ℕ → Type 0 = λ ws. (w : List (Part S)) × (a : Act S) × Valid s.homes [] a
      × Rule record { words = set ws 1 (get_or ws 1 0); homes = homes_after s.homes [] a; views = set s.views id w }
      × Counted (step slots 1 0 0 none) (alone p) (get_or ws 1 0) (w, carried_after [] a) in
      let mine = of_one s r id p at in
      let new : Part S = part_counted r.count p in
      subst P (sym r.words) (
        new ∷ [],
        keeps,
        tt,
        moved s r id p new at refl refl s.homes r.log r.lock r.home (holders s r id p at) r.authors (of_others s r id) (fits_counted r.log r.count p mine),
        (λ q same. let is : p ≡ q = ap (λ (m : Sat S). get_or m.0 0 p) same in
            let Q : Part S → Type 0 = λ q. ◌≡◌ {A = Sat S} (alone new) (alone (part_counted r.count q)) × (q.known ≤ r.count) × (r.count ≤ 4294967295) in
            subst Q is (refl, mine.known_drawn, r.few)),
      )

  -- what a part knows stays true where more numbers are drawn
  fits_more : (log : List E) (count : ℕ) (p : Part S) → Fact log count p → Fact log (count + 1) p
  fits_more log count p f = record {
    below_known = f.below_known;
    known_drawn = let b = f.known_drawn in omega arith;
    draws = f.draws;
    seen_long = f.seen_long;
    looks_seen = f.looks_seen;
    begins = f.begins;
    owns = f.owns;
    opened = f.opened;
    opened_empty = f.opened_empty;
    found_opened = f.found_opened;
    holds_all = f.holds_all;
  }

  fits_drawn : (log : List E) (count : ℕ) (p : Part S) → p.known ≡ count → Fact log count p → Fact log (count + 1) (part_drawn count p)
  fits_drawn log count p known f = record {
    below_known = let a = f.below_known in omega arith;
    known_drawn = omega arith;
    draws = AllByRecursion-join (λ (n : ℕ). (p.number < n) × (n < count + 1)) p.drawn (count ∷ [])
        (AllByRecursion-map (λ (n : ℕ). (p.number < n) × (n < p.known)) (λ (n : ℕ). (p.number < n) × (n < count + 1)) (λ n d. (d.0, let c = d.1 in omega arith)) p.drawn f.draws)
        (((let a = f.below_known in omega arith), omega arith), tt);
    seen_long = f.seen_long;
    looks_seen = f.looks_seen;
    begins = f.begins;
    owns = f.owns;
    opened = f.opened;
    opened_empty = f.opened_empty;
    found_opened = f.found_opened;
    holds_all = f.holds_all;
  }

  fits_made : (log : List E) (count : ℕ) (p : Part S) → AllByRecursion (λ e. author e < count) log → Fact log count p → Fact log (count + 1) (part_made count p)
  fits_made log count p authors f =
      let none-found : owned author count (journal p.opening) ≡ [] = ap (owned author count) f.opened_empty in record {
        below_known = omega arith;
        known_drawn = omega arith;
        draws = tt;
        seen_long = f.seen_long;
        looks_seen = tt;
        begins = subst (λ (l : List E). IsPrefix l log) (sym f.opened_empty) (log, refl);
        owns = owned-none author 0 count log authors ∙ sym none-found;
        opened = f.opened;
        opened_empty = f.opened_empty;
        found_opened = f.opened;
        holds_all = λ locked. absurd cc;
      }

  draw_goes : (slots id k : ℕ) (p : Part S) → p.known ≡ k → k < 4294967295
      → (s : State S (List (Part S))) (r : Rule s) → get_elem? s.views id ≡ some (p ∷ []) → (b : Bool) → (r.count == k) ≡ b
      → (w : List (Part S)) × (a : Act S) × Valid s.homes [] a
      × Rule record { words = length r.log ∷ either (r.count == k) (k + 1) r.count ∷ r.lock ∷ []; homes = homes_after s.homes [] a; views = set s.views id w }
      × Drew (step slots 1 k (k + 1) none) (alone p) r.count (w, carried_after [] a)
  draw_goes slots id k p known room s r at true is =
      let here : r.count ≡ k = eqb-true r.count k is in
      let mine : Fact r.log k p = subst (λ (n : ℕ). Fact r.log n p) here (of_one s r id p at) in
      let others : AllParts (Fact r.log (k + 1)) (set s.views id []) = parts-map (Fact r.log r.count) (Fact r.log (k + 1))
      (λ q f. fits_more r.log k q (subst (λ (n : ℕ). Fact r.log n q) here f)) (set s.views id []) (of_others s r id) in
      let authors : AllByRecursion (λ e. author e < k) r.log = subst (λ (n : ℕ). AllByRecursion (λ e. author e < n) r.log) here r.authors in
      let new : List (Part S) = part_drawn k p ∷ part_made k p ∷ [] in
      let ready : Rule record { words = length r.log ∷ (k + 1) ∷ r.lock ∷ []; homes = s.homes; views = set s.views id new } =
      rebuilt s.views s.homes id (p ∷ []) new at r.log (k + 1) r.lock r.home
      (let all = holders s r id p at in omega arith)
      (omega arith)
      (λ f. let all = total-others (λ (x : Part S). f x.number) s.views id (p ∷ []) at in let now = r.numbers f in
      let more = below-more f k in let same = ap (below f) here in omega arith)
      (λ f. let all = total-others (λ (x : Part S). sum_by f x.drawn) s.views id (p ∷ []) at in let now = r.all_drawn f in
      let more = below-more f k in let same = ap (below f) here in let longer = sum_by-append f p.drawn (k ∷ []) in omega arith)
      (AllByRecursion-map (λ e. author e < k) (λ e. author e < k + 1) (λ e lt. omega arith) r.log authors)
      others
      (fits_drawn r.log k p known mine, (fits_made r.log k p authors mine, tt)) in (
        new,
        keeps,
        tt,
        rw is ready,
        (λ q same. let is' : p ≡ q = ap (λ (m : Sat S). get_or m.0 0 p) same in
            rw is (let Q : Part S → Type 0 = λ q. ◌≡◌ {A = Sat S} (new, []) (part_drawn k q ∷ part_made k q ∷ [], []) in subst Q is' refl)),
      )
  draw_goes slots id k p known room s r at false is =
      let mine = of_one s r id p at in
      let new : Part S = part_counted r.count p in
      let past : k < r.count = let apart : r.count ≢ k = eqb-false r.count k is in let b = mine.known_drawn in omega arith in
      let ready : Rule record { words = length r.log ∷ r.count ∷ r.lock ∷ []; homes = s.homes; views = set s.views id (new ∷ []) } =
      moved s r id p new at refl refl s.homes r.log r.lock r.home (holders s r id p at) r.authors (of_others s r id) (fits_counted r.log r.count p mine) in (
        new ∷ [],
        keeps,
        tt,
        rw is ready,
        (λ q same. let is' : p ≡ q = ap (λ (m : Sat S). get_or m.0 0 p) same in
            rw is (let Q : Part S → Type 0 = λ q. ◌≡◌ {A = Sat S} (alone new) (alone (part_counted r.count q)) × (q.known < r.count) × (r.count ≤ 4294967295) in
            subst Q is' (refl, omega arith, r.few))),
      )

  pub draws_one : (slots id k : ℕ) (p : Part S) → p.known ≡ k → k < 4294967295
      → Allows Rule slots id (alone p) 1 (λ n. either (n == k) (k + 1) n) (Drew (step slots 1 k (k + 1) none) (alone p))
  draws_one slots id k p known room s r len at fits =
      let P : List ℕ → Type 0 = λ ws. (w : List (Part S)) × (a : Act S) × Valid s.homes [] a
      × Rule record { words = set ws 1 (either (get_or ws 1 0 == k) (k + 1) (get_or ws 1 0)); homes = homes_after s.homes [] a; views = set s.views id w }
      × Drew (step slots 1 k (k + 1) none) (alone p) (get_or ws 1 0) (w, carried_after [] a) in
      subst P (sym r.words) (draw_goes slots id k p known room s r at (r.count == k) refl)

  -- ---- views that are cut and joined

  pub splits : (id : ℕ) (v left right : List (Part S)) → left ++ right ≡ v → Splits Rule id v left right
  splits id v left right whole s r at =
      let facts : AllByRecursion (Fact r.log r.count) (left ++ right) = subst (AllByRecursion (Fact r.log r.count)) (sym whole) (parts-at (Fact r.log r.count) s.views id v at r.parts) in
      let sums : (w : Part S → ℕ) → total w (set s.views id left ++ right ∷ []) ≡ total w s.views = λ w.
      let all = total-others w s.views id v at in
      let cut = total-with w s.views id v left at in
      let both = sum_by-append w left right in
      let same = ap (sum_by w) whole in
      let end = total-snoc w (set s.views id left) right in omega arith in record {
        log = r.log;
        count = r.count;
        lock = r.lock;
        words = r.words;
        home = r.home;
        one_holder = sums held ∙ r.one_holder;
        few = r.few;
        numbers = λ f. sums (λ (p : Part S). f p.number) ∙ r.numbers f;
        all_drawn = λ f. ap (λ (n : ℕ). n + f 0) (sums (λ (p : Part S). sum_by f p.drawn)) ∙ r.all_drawn f;
        authors = r.authors;
        parts = AllByRecursion-join (AllByRecursion (Fact r.log r.count)) (set s.views id left) (right ∷ [])
            (parts-set (Fact r.log r.count) s.views id left r.parts (AllByRecursion-left (Fact r.log r.count) left right facts))
            (AllByRecursion-right (Fact r.log r.count) left right facts, tt);
      }

  pub joins : (id other : ℕ) (v w : List (Part S)) → Joins Rule id v other w (w ++ v) []
  joins id other v w s r at apart there =
      let mine = parts-at (Fact r.log r.count) s.views id v at r.parts in
      let before : List (List (Part S)) = set s.views id (w ++ v) in
      let theirs : AllByRecursion (Fact r.log r.count) w =
      parts-at (Fact r.log r.count) s.views other w (sym (set_else s.views id other (w ++ v) apart) ∙ there) r.parts in
      let both : AllByRecursion (Fact r.log r.count) (w ++ v) = AllByRecursion-join (Fact r.log r.count) w v theirs mine in
      let sums : (weight : Part S → ℕ) → total weight (set before other []) ≡ total weight s.views = λ weight.
      let all = total-others weight s.views id v at in
      let put = total-with weight s.views id v (w ++ v) at in
      let spent = total-others weight before other w there in
      let parts = sum_by-append weight w v in omega arith in record {
        log = r.log;
        count = r.count;
        lock = r.lock;
        words = r.words;
        home = r.home;
        one_holder = sums held ∙ r.one_holder;
        few = r.few;
        numbers = λ f. sums (λ (p : Part S). f p.number) ∙ r.numbers f;
        all_drawn = λ f. ap (λ (n : ℕ). n + f 0) (sums (λ (p : Part S). sum_by f p.drawn)) ∙ r.all_drawn f;
        authors = r.authors;
        parts = parts-set (Fact r.log r.count) before other [] (parts-set (Fact r.log r.count) s.views id (w ++ v) r.parts both) tt;
      }

module _ {S E O : Type 0} (journal : S → List E) (author : E → ℕ) (state : S → O) where
  -- the table at the start
  pub starts : (x : S) → journal x ≡ [] → IsShared journal author state x (opening (0 ∷ 1 ∷ 0 ∷ []) (x ∷ []) (first_part x ∷ []))
  starts x empty = record {
    log = [];
    count = 1;
    lock = 0;
    words = refl;
    home = inl (refl, (x, refl, empty, refl));
    one_holder = refl;
    few = omega arith;
    numbers = λ f. omega (arith, below-more f 0);
    all_drawn = λ f. omega (arith, below-more f 0);
    authors = tt;
    parts = (
      (
        (record {
          below_known = omega arith;
          known_drawn = omega arith;
          draws = tt;
          seen_long = omega arith;
          looks_seen = tt;
          begins = ([], ap (λ (l : List E). l ++ []) empty);
          owns = sym (ap (owned author 0) empty);
          opened = refl;
          opened_empty = empty;
          found_opened = refl;
          holds_all = λ _. empty;
        }),
        tt,
      ),
      tt,
    );
  }
