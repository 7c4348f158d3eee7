-- Which expressions a subscriber sees, by its samples.
use Rattle.std.specs.Prelude.{◌≡◌, Bool, true, false, ◌==◌, ◌&&◌, if◌then◌else◌, List, [], ◌∷◌, Option, Some, None, filter}
use Rattle.std.specs.declared.cmp.Ordering.{Ordering}
use Rattle.zt_model.specs.Lists.{same}
use Rattle.zt_samples.specs.Samples.{has_told, keeps_told}
use Rattle.zt_samples.specs.declared.samples.Sample.{Sample}
use Rattle.zt_samples.specs.declared.samples.Sample.TheVariants.{Put, Delete}
use Rattle.zt_samples.specs.declared.samples.Subscriber.{Subscriber}
use Rattle.zt_samples.specs.declared.samples.Told.{Told}

-- the subscriber is the only one of its session and id
abbrev pub IsOnly : {K : Type 0} → Subscriber K → List (Subscriber K) → Type 0
IsOnly s subscribers = filter (λ x. (s.session == x.session) && (s.id == x.id)) subscribers ≡ s ∷ []

module _ {K : Type 0} (cmp : K → K → Ordering) where
  -- Whether an expression is seen after samples, where it was or wasn't before: a Put shows it and a Delete hides it.
  -- None where a Put comes of an expression that is seen, or a Delete of one that isn't.
  abbrev pub replayed : K → List (Sample K) → Bool → Option Bool
  replayed e [] seen = Some seen
  replayed e (Put k ∷ samples) seen = if same cmp e k then (if seen then None else replayed e samples true) else replayed e samples seen
  replayed e (Delete k ∷ samples) seen = if same cmp e k then (if seen then replayed e samples false else None) else replayed e samples seen

  -- no session was told a pair of id and expression twice
  abbrev pub NoPairTwice : List (Told K) → Type 0
  NoPairTwice [] = Unit {0}
  NoPairTwice (t ∷ ts) = (has_told cmp t.session t.id t.expr ts ≡ false) × NoPairTwice ts

module _ {K : Type 0} (cmp : K → K → Ordering) (matching : K → K → Bool) where
  -- what a subscriber is to see: what its session keeps and what matches
  abbrev pub sees : Subscriber K → K → List (Told K) → Bool
  sees s e told = matching s.expr e && keeps_told cmp s.session e told
