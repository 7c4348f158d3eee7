-- Links join places: a place more or one less, a link more, one less, or one closed.
use Rattle.std.proofs.Common.{◌≡◌, ℕ, zero, suc, ◌+◌, ◌-◌, ◌<◌, ◌≤◌, ◌==◌, false, List, [], ◌∷◌, ◌++◌, length, take, Option, Some, None, Result, Ok, Err, OnOk, OnErr, subst, sym, arith}
use Rattle.std.proofs.lemmas.List.{length-append, length-take}
use Rattle.zt_laws.proofs.Lists.{by_test}
use Rattle.zt_model.specs.Fabric.{Fabric, Link, Place, at_nth}
use Rattle.zt_rollback.specs.After.{Before}
use Rattle.zt_link_queues.specs.Found.{AreBelow}
use Rattle.zt_fabric_state.specs.Changes.{undone}

below_more : (n m : ℕ) (ls : List Link) → n ≤ m → AreBelow n ls → AreBelow m ls
below_more n m [] le below = tt
below_more n m (l ∷ ls) le below = let first : l.two < n = below.0 in (omega arith, below_more n m ls le below.1)

-- ---- places

-- no link ends at a place that is put behind the others
pub free_pushed : (xs ys : List Place) (p : Place) (ls : List Link) → AreBelow (length xs + 1) ls → ys ≡ xs ++ p ∷ [] → AreBelow (length ys) ls
free_pushed xs ys p ls below more =
    let count = length-append xs (p ∷ []) in
    subst (λ zs. AreBelow (length zs) ls) (sym more) (below_more (length xs + 1) (length (xs ++ p ∷ [])) ls (omega (arith, count)) below)

pub placed_pushed : {E : Type 0} (r : Result (Unit {0}) E) (xs ys : List Place) (p : Place) (ls : List Link) → AreBelow (length xs + 1) ls → OnOk r (ys ≡ xs ++ p ∷ []) → OnErr r (ys ≡ xs) → AreBelow (length ys + 1) ls
placed_pushed (Ok t) xs ys p ls below more err = below_more (length ys) (length ys + 1) ls (omega arith) (free_pushed xs ys p ls below more)
placed_pushed (Err e) xs ys p ls below more err = subst (λ zs. AreBelow (length zs + 1) ls) (sym err) below

pub placed_popped : (xs ys : List Place) (ls : List Link) → AreBelow (length xs) ls → ys ≡ take (length xs - 1) xs → AreBelow (length ys + 1) ls
placed_popped xs ys ls below popped =
    let count = length-take (length xs - 1) xs in
    subst (λ zs. AreBelow (length zs + 1) ls) (sym popped) (below_more (length xs) (length (take (length xs - 1) xs) + 1) ls (omega (arith, count)) below)

-- ---- links

below_last : (n : ℕ) (ls : List Link) (l : Link) → AreBelow n ls → l.two < n → AreBelow n (ls ++ l ∷ [])
below_last n [] l below lt = (lt, tt)
below_last n (x ∷ ls) l below lt = (below.0, below_last n ls l below.1 lt)

pub links_pushed : {E : Type 0} (r : Result (Unit {0}) E) (n : ℕ) (ls ks : List Link) (l : Link) → AreBelow n ls → l.two < n → OnOk r (ks ≡ ls ++ l ∷ []) → OnErr r (ks ≡ ls) → AreBelow n ks
links_pushed (Ok t) n ls ks l below lt more err = subst (AreBelow n) (sym more) (below_last n ls l below lt)
links_pushed (Err e) n ls ks l below lt more err = subst (AreBelow n) (sym err) below

pub links_taken : (k n : ℕ) (ls : List Link) → AreBelow n ls → AreBelow n (take k ls)
links_taken zero n ls below = tt
links_taken (suc k) n [] below = tt
links_taken (suc k) n (l ∷ ls) below = (below.0, links_taken k n ls below.1)

pub links_shut : (k n : ℕ) (ls : List Link) → AreBelow n ls → AreBelow n (at_nth k (λ l. record l { is_open = false }) ls)
links_shut k n [] below = tt
links_shut k n (l ∷ ls) below = by_test (k == 1) (λ here. rw here below) (λ past. rw past (below.0, links_shut (k - 1) n ls below.1))

-- ---- a gateway keeps again what it kept before

pub undone_free : {K : Type 0} (former : Option (Before K)) (n : ℕ) (s : Fabric K) → AreBelow (length s.faces) s.links → AreBelow (length (undone former n s).faces) (undone former n s).links
undone_free None n s free = free
undone_free (Some former) n s free = free
