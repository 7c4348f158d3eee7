-- Hints by expression, and what changes of them leave. A hint is spoken of by the tests that it passes.
use Rattle.std.specs.Prelude.{◌≡◌, Bool, true, false, if◌then◌else◌, List, [], Option, None, Some}
use Rattle.std.specs.BTreeMap.{is_at}
use Rattle.std.specs.List.{list_any}
use Rattle.std.specs.Map.{lookup}
use Rattle.std.specs.Option.{unwrap_or}
use Rattle.std.specs.declared.cmp.Ordering.{Ordering}

module _ {H : Type 0} where
  -- the hint is there
  pub record Has (hint : H) (hints : List H) : Type 0 where
    pub at : (test : H → Bool) → test hint ≡ true → list_any test hints ≡ true

  -- every hint of one expression stays
  pub record KeepsAll (old new : List H) : Type 0 where
    pub at : (test : H → Bool) → list_any test old ≡ true → list_any test new ≡ true

  -- every hint of one expression stays but those that are gone
  pub record KeepsAllBut (gone : H → Bool) (old new : List H) : Type 0 where
    pub at : (test : H → Bool) → ((hint : H) → gone hint ≡ true → test hint ≡ false) → list_any test old ≡ true → list_any test new ≡ true

module _ {K H : Type 0} (cmp : K → K → Ordering) where
  -- the hints of an expression
  abbrev pub hints_at : K → List (K × List H) → List H
  hints_at e hints = unwrap_or (lookup (is_at (cmp e)) hints) []

  -- a hint of the expression passes the test
  abbrev pub is_hinted : (H → Bool) → K → List (K × List H) → Bool
  is_hinted test e hints = list_any test (hints_at e hints)

  -- the expression has this hint
  pub record IsHinted (e : K) (hint : H) (hints : List (K × List H)) : Type 0 where
    pub at : (test : H → Bool) → test hint ≡ true → is_hinted test e hints ≡ true

  -- every hint stays
  pub record Keeps (old new : List (K × List H)) : Type 0 where
    pub at : (test : H → Bool) (e : K) → is_hinted test e old ≡ true → is_hinted test e new ≡ true

  -- every hint stays but those that are gone
  pub record KeepsBut (gone : H → Bool) (old new : List (K × List H)) : Type 0 where
    pub at : (test : H → Bool) → ((hint : H) → gone hint ≡ true → test hint ≡ false) → (e : K) → is_hinted test e old ≡ true → is_hinted test e new ≡ true

  -- an expression has no hints, and others have those that they had
  pub record IsWithout (e : K) (old new : List (K × List H)) : Type 0 where
    pub at : (q : K) → lookup (is_at (cmp q)) new ≡ (if is_at (cmp e) q then None else lookup (is_at (cmp q)) old)
