-- The keys with wildcards that interests are in, by the numbers of their chunks.
--     is_covered cmp anchored numbered key wilds           a key has no wildcards, or stands at one of its numbers or at none
--     AreCovered cmp anchored numbered wilds entries       each key of the entries does
--     KeepsOthers cmp key old new                          where another key stood it stands
--     asks_in cmp matching e n entries key                 a key matches, and the face has an interest in it about the expression
--     covered-none, covered-grown, covered-same, covered-more, covered-less
use Rattle.std.specs.Prelude.{◌≡◌, ℕ, Bool, true, false, ◌&&◌, ◌||◌, List, [], ◌∷◌, Option, Some, None, is_some, refl}
use Rattle.std.specs.BTreeMap.{is_at}
use Rattle.std.specs.List.{list_any}
use Rattle.std.specs.Map.{lookup}
use Rattle.std.specs.declared.cmp.Ordering.{Ordering}
use Rattle.std.specs.declared.cmp.Ordering.TheVariants.{Equal}
use Rattle.std.proofs.Common.{ap, sym, ◌∙◌}
use Rattle.std.proofs.lemmas.Bool.{false≢true}
use Rattle.zt_keys.specs.Test.{by_test}
use Rattle.zt_keys.specs.declared.anchor.Anchor.{Anchor}
use Rattle.zt_keys.specs.declared.anchor.Anchor.TheVariants.{Whole}
use Rattle.zt_indexes.specs.Grouped.{Grows, HasKeyMore, HasSameKeys, equal-from, is_grouped}
use Rattle.zt_indexes.specs.Live.{IsWithout}
use Rattle.zt_interest_index.specs.Holdings.{asks_from}
use Rattle.zt_interest_index.specs.Index.{Interest, rows_of}

or-left : (a b : Bool) → a ≡ true → (a || b) ≡ true
or-left true b h = refl
or-left false b h = cc

or-right : (a b : Bool) → b ≡ true → (a || b) ≡ true
or-right true b h = refl
or-right false b h = h

module _ {K : Type 0} (cmp : K → K → Ordering) where
  abbrev pub asks_in : (K → K → Bool) → K → ℕ → List (K × List (Interest K)) → K → Bool
  asks_in matching e n entries key = matching key e && list_any (asks_from matching e n) (rows_of cmp key entries)

  pub record KeepsOthers (key : K) (old new : List (Option ℕ × List K)) : Type 0 where
    pub at : (m : Option ℕ) (q : K) → is_at (cmp key) q ≡ false → is_grouped cmp m q old ≡ true → is_grouped cmp m q new ≡ true

  module _ (anchored : Anchor → K → Option ℕ) (numbered : K → List ℕ) where
    abbrev pub is_covered : K → List (Option ℕ × List K) → Bool
    is_covered key wilds = is_some (anchored Whole key) || (is_grouped cmp None key wilds || list_any (λ n. is_grouped cmp (Some n) key wilds) (numbered key))

    pub record AreCovered {X : Type 0} (wilds : List (Option ℕ × List K)) (entries : List (K × X)) : Type 0 where
      pub at : (q : K) → is_some (lookup (is_at (cmp q)) entries) ≡ true → is_covered q wilds ≡ true

    or-grows : (a b c d : Bool) → (a ≡ true → c ≡ true) → (b ≡ true → d ≡ true) → (a || b) ≡ true → (c || d) ≡ true
    or-grows true b c d f g h = or-left c d (f refl)
    or-grows false b c d f g h = or-right c d (g h)

    any-grows : (p q : ℕ → Bool) → ((n : ℕ) → p n ≡ true → q n ≡ true) → (ns : List ℕ) → list_any p ns ≡ true → list_any q ns ≡ true
    any-grows p q f [] h = h
    any-grows p q f (n ∷ ns) h = or-grows (p n) (list_any p ns) (q n) (list_any q ns) (f n) (any-grows p q f ns) h

    -- a key that stands where it stood stays covered
    pub stays : (key : K) (old new : List (Option ℕ × List K)) → ((m : Option ℕ) → is_grouped cmp m key old ≡ true → is_grouped cmp m key new ≡ true) → is_covered key old ≡ true → is_covered key new ≡ true
    stays key old new f h =
        or-grows (is_some (anchored Whole key)) _ (is_some (anchored Whole key)) _ (λ e. e)
        (or-grows (is_grouped cmp None key old) _ (is_grouped cmp None key new) _ (f None) (any-grows (λ n. is_grouped cmp (Some n) key old) (λ n. is_grouped cmp (Some n) key new) (λ n. f (Some n)) (numbered key)))
        h

    module _ {X : Type 0} where
      pub covered-none : (wilds : List (Option ℕ × List K)) → AreCovered {X = X} wilds []
      covered-none wilds = record { at = λ q h. absurd (false≢true h) }

      pub covered-grown : (before after : List (Option ℕ × List K)) (entries : List (K × X)) → AreCovered before entries → Grows cmp before after → AreCovered after entries
      covered-grown before after entries covered grows = record { at = λ q h. stays q before after (λ m. grows.at m q) (covered.at q h) }

      pub covered-same : (wilds : List (Option ℕ × List K)) (old new : List (K × X)) → AreCovered wilds old → HasSameKeys cmp old new → AreCovered wilds new
      covered-same wilds old new covered same = record { at = λ q h. covered.at q (sym (same.at q) ∙ h) }

      pub covered-more : ((a b : K) → cmp a b ≡ Equal → a ≡ b) → (key : K) (wilds : List (Option ℕ × List K)) (old new : List (K × X)) → AreCovered wilds old
          → is_covered key wilds ≡ true → HasKeyMore cmp key old new → AreCovered wilds new
      covered-more one key wilds old new covered own more = record {
        at = λ q h.
            by_test (is_at (cmp key) q)
            (λ t. ap (λ k. is_covered k wilds) (sym (one key q (equal-from _ t))) ∙ own)
            (λ t. covered.at q (sym (rw t at (more.at q)) ∙ h));
      }

      pub covered-less : (key : K) (before after : List (Option ℕ × List K)) (old new : List (K × X)) → AreCovered before old → KeepsOthers key before after → IsWithout cmp key old new → AreCovered after new
      covered-less key before after old new covered others gone = record {
        at = λ q h.
            by_test (is_at (cmp key) q)
            (λ t. absurd (false≢true (sym (ap is_some (rw t at (gone.at q))) ∙ h)))
            (λ t.
            let was : is_some (lookup (is_at (cmp q)) old) ≡ true = sym (ap is_some (rw t at (gone.at q))) ∙ h in
            stays q before after (λ m. others.at m q t) (covered.at q was));
      }
