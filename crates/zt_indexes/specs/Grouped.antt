-- Keys grouped by a number that each may have.
--     is_in cmp q keys                           a key is among others
--     as_list key                                a key, if it is there
--     keys_at number groups                      the keys that stand at the number, or at none
--     is_grouped cmp number q groups             a key is one of these
--     HasChanged cmp number key there old new    the key stands at the number, or doesn't, and all else stays
--     Grows cmp old new                          what stands at a number stays
--     Covers cmp numbered groups entries         each key of the entries stands at its number
--     AreGrouped cmp anchored firsts lasts entries    .. at the number that it has at the first part, and at the last
use Rattle.std.specs.Prelude.{◌≡◌, ℕ, Bool, true, false, ◌&&◌, if◌then◌else◌, List, [], ◌∷◌, Option, Some, None, is_some, unwrap_or, refl}
use Rattle.std.specs.BTreeMap.{is_at}
use Rattle.std.specs.Cmp.{IsTotalOrder, nat_cmp_total, tied_itself}
use Rattle.std.specs.Cmp.Lexicographic.{options_total}
use Rattle.std.specs.List.{list_any}
use Rattle.std.specs.Map.{lookup}
use Rattle.std.specs.Option.{option_cmp}
use Rattle.std.specs.Ordering.{is_eq, nat_cmp}
use Rattle.std.specs.declared.cmp.Ordering.{Ordering}
use Rattle.std.specs.declared.cmp.Ordering.TheVariants.{Less, Equal, Greater}
use Rattle.std.proofs.Common.{ap, sym, ◌∙◌}
use Rattle.std.proofs.lemmas.Bool.{false≢true}
use Rattle.zt_keys.specs.Test.{by_test}
use Rattle.zt_keys.specs.declared.anchor.Anchor.{Anchor}
use Rattle.zt_keys.specs.declared.anchor.Anchor.TheVariants.{First, Last}
use Rattle.zt_indexes.specs.Live.{IsWith, IsWithout}

abbrev pub number_cmp : Option ℕ → Option ℕ → Ordering
number_cmp = option_cmp nat_cmp

pub number-total : IsTotalOrder number_cmp
number-total = options_total nat_cmp_total

pub equal-from : (r : Ordering) → is_eq r ≡ true → r ≡ Equal
equal-from Less h = cc
equal-from Equal h = refl
equal-from Greater h = cc

-- what was there stays where one is put or another is taken
pub still : (a b was : Bool) → was ≡ true → (if a && b then true else was) ≡ true
still true true was h = refl
still true false was h = h
still false b was h = h

pub others : (a b was : Bool) → b ≡ false → was ≡ true → (if a && b then false else was) ≡ true
others true true was e h = cc
others true false was e h = h
others false b was e h = h

pub here : (a b was : Bool) → a ≡ true → b ≡ true → (if a && b then true else was) ≡ true
here true true was e h = refl
here true false was e h = cc
here false b was e h = cc

module _ {K : Type 0} where
  -- a key, if it is there
  abbrev pub as_list : Option K → List K
  as_list None = []
  as_list (Some key) = key ∷ []

  abbrev pub keys_at : Option ℕ → List (Option ℕ × List K) → List K
  keys_at number groups = unwrap_or (lookup (is_at (number_cmp number)) groups) []

  module _ (cmp : K → K → Ordering) where
    abbrev pub is_in : K → List K → Bool
    is_in q keys = list_any (is_at (cmp q)) keys

    abbrev pub is_grouped : Option ℕ → K → List (Option ℕ × List K) → Bool
    is_grouped number q groups = is_in q (keys_at number groups)

    pub record HasChanged (number : Option ℕ) (key : K) (there : Bool) (old new : List (Option ℕ × List K)) : Type 0 where
      pub at : (m : Option ℕ) (q : K) → is_grouped m q new ≡ (if is_at (number_cmp number) m && is_at (cmp key) q then there else is_grouped m q old)

    pub record Grows (old new : List (Option ℕ × List K)) : Type 0 where
      pub at : (m : Option ℕ) (q : K) → is_grouped m q old ≡ true → is_grouped m q new ≡ true

    pub record Covers {X : Type 0} (numbered : K → Option ℕ) (groups : List (Option ℕ × List K)) (entries : List (K × X)) : Type 0 where
      pub at : (q : K) → is_some (lookup (is_at (cmp q)) entries) ≡ true → is_grouped (numbered q) q groups ≡ true

    pub record AreGrouped {X : Type 0} (anchored : Anchor → K → Option ℕ) (firsts lasts : List (Option ℕ × List K)) (entries : List (K × X)) : Type 0 where
      pub first : Covers (anchored First) firsts entries
      pub last : Covers (anchored Last) lasts entries

    -- ---- what changes at a number
    pub grows-not : (groups : List (Option ℕ × List K)) → Grows groups groups
    grows-not groups = record { at = λ m q h. h }

    pub grows-put : (number : Option ℕ) (key : K) (old new : List (Option ℕ × List K)) → HasChanged number key true old new → Grows old new
    grows-put number key old new changed = record { at = λ m q h. changed.at m q ∙ still (is_at (number_cmp number) m) (is_at (cmp key) q) _ h }

    pub own-put : IsTotalOrder cmp → (number : Option ℕ) (key : K) (old new : List (Option ℕ × List K)) → HasChanged number key true old new → is_grouped number key new ≡ true
    own-put o number key old new changed =
        changed.at number key ∙ here (is_at (number_cmp number) number) (is_at (cmp key) key) _ (ap is_eq (tied_itself number-total number)) (ap is_eq (tied_itself o key))

    -- ---- keys of entries
    module _ {X : Type 0} where
      pub record HasSameKeys (old new : List (K × X)) : Type 0 where
        pub at : (q : K) → is_some (lookup (is_at (cmp q)) new) ≡ is_some (lookup (is_at (cmp q)) old)

      pub record HasKeyMore (key : K) (old new : List (K × X)) : Type 0 where
        pub at : (q : K) → is_some (lookup (is_at (cmp q)) new) ≡ (if is_at (cmp key) q then true else is_some (lookup (is_at (cmp q)) old))

      pub key-with : (key : K) (x : X) (old new : List (K × X)) → IsWith cmp key x old new → HasKeyMore key old new
      key-with key x old new puts = record {
        at = λ q. by_test (is_at (cmp key) q) (λ t. rw t (ap is_some (rw t at (puts.at q)))) (λ t. rw t (ap is_some (rw t at (puts.at q))));
      }

    module _ {X : Type 0} (numbered : K → Option ℕ) where
      covers-grown : (before after : List (Option ℕ × List K)) (entries : List (K × X)) → Covers numbered before entries → Grows before after → Covers numbered after entries
      covers-grown before after entries covers grows = record { at = λ q h. grows.at (numbered q) q (covers.at q h) }

      covers-same : (groups : List (Option ℕ × List K)) (old new : List (K × X)) → Covers numbered groups old → HasSameKeys old new → Covers numbered groups new
      covers-same groups old new covers same = record { at = λ q h. covers.at q (sym (same.at q) ∙ h) }

      covers-more : ((a b : K) → cmp a b ≡ Equal → a ≡ b) → (key : K) (groups : List (Option ℕ × List K)) (old new : List (K × X)) → Covers numbered groups old
          → is_grouped (numbered key) key groups ≡ true → HasKeyMore key old new → Covers numbered groups new
      covers-more one key groups old new covers own more = record {
        at = λ q h.
            by_test (is_at (cmp key) q)
            (λ t. ap (λ k. is_grouped (numbered k) k groups) (sym (one key q (equal-from _ t))) ∙ own)
            (λ t. covers.at q (sym (rw t at (more.at q)) ∙ h));
      }

      covers-less : (key : K) (before after : List (Option ℕ × List K)) (old new : List (K × X)) → Covers numbered before old
          → HasChanged (numbered key) key false before after → IsWithout cmp key old new → Covers numbered after new
      covers-less key before after old new covers changed gone = record {
        at = λ q h.
            by_test (is_at (cmp key) q)
            (λ t. absurd (false≢true (sym (ap is_some (rw t at (gone.at q))) ∙ h)))
            (λ t.
            let was : is_some (lookup (is_at (cmp q)) old) ≡ true = sym (ap is_some (rw t at (gone.at q))) ∙ h in
            changed.at (numbered q) q ∙ others (is_at (number_cmp (numbered key)) (numbered q)) (is_at (cmp key) q) _ t (covers.at q was));
      }

    -- ---- keys at both anchors
    module _ {X : Type 0} (anchored : Anchor → K → Option ℕ) where
      pub grouped-none : AreGrouped {X = X} anchored [] [] []
      grouped-none = record { first = record { at = λ q h. absurd (false≢true h) }; last = record { at = λ q h. absurd (false≢true h) } }

      pub grouped-grown : (firsts first-after lasts last-after : List (Option ℕ × List K)) (entries : List (K × X)) → AreGrouped anchored firsts lasts entries
          → Grows firsts first-after → Grows lasts last-after → AreGrouped anchored first-after last-after entries
      grouped-grown firsts first-after lasts last-after entries grouped first last = record {
        first = covers-grown (anchored First) firsts first-after entries grouped.first first;
        last = covers-grown (anchored Last) lasts last-after entries grouped.last last;
      }

      pub grouped-same : (firsts lasts : List (Option ℕ × List K)) (old new : List (K × X)) → AreGrouped anchored firsts lasts old → HasSameKeys old new → AreGrouped anchored firsts lasts new
      grouped-same firsts lasts old new grouped same = record {
        first = covers-same (anchored First) firsts old new grouped.first same;
        last = covers-same (anchored Last) lasts old new grouped.last same;
      }

      -- a key more, which stands at its numbers
      pub grouped-more : ((a b : K) → cmp a b ≡ Equal → a ≡ b) → (key : K) (firsts lasts : List (Option ℕ × List K)) (old new : List (K × X)) → AreGrouped anchored firsts lasts old
          → is_grouped (anchored First key) key firsts ≡ true → is_grouped (anchored Last key) key lasts ≡ true → HasKeyMore key old new → AreGrouped anchored firsts lasts new
      grouped-more one key firsts lasts old new grouped first last more = record {
        first = covers-more (anchored First) one key firsts old new grouped.first first more;
        last = covers-more (anchored Last) one key lasts old new grouped.last last more;
      }

      -- a key less, which is gone from its numbers
      pub grouped-less : (key : K) (firsts first-after lasts last-after : List (Option ℕ × List K)) (old new : List (K × X)) → AreGrouped anchored firsts lasts old
          → HasChanged (anchored First key) key false firsts first-after → HasChanged (anchored Last key) key false lasts last-after → IsWithout cmp key old new
          → AreGrouped anchored first-after last-after new
      grouped-less key firsts first-after lasts last-after old new grouped first last gone = record {
        first = covers-less (anchored First) key firsts first-after old new grouped.first first gone;
        last = covers-less (anchored Last) key lasts last-after old new grouped.last last gone;
      }
