-- The words of the program.
use Rattle.std.specs.Prelude.{ℕ, Bool, true, false, ◌&&◌, is_some, nat_le, if◌then◌else◌, List, [], ◌∷◌, Option, Some, None, Result, Ok, Err}
use Rattle.zt_keys.specs.declared.error.KeyError.{KeyError}
use Rattle.zt_fields.specs.Numbers.{u32_of}
use Rattle.zt_fabric.specs.Making.{from_one_to}
use Rattle.zt_watch_tool.specs.declared.words.Asked.{Asked}

abbrev pub up_to : ℕ → Option ℕ → Option ℕ
up_to most None = None
up_to most (Some n) = if nat_le n most then Some n else None

-- there is one word
abbrev pub is_one : List (List ℕ) → Bool
is_one (word ∷ []) = true
is_one _ = false

-- a number of workers, one of polls, and one word more, which may spell a key: reading it takes memory
unfoldable pub may_spell_key : List (List ℕ) → Bool
may_spell_key (workers ∷ wanted ∷ words) =
    is_some (from_one_to 16 (u32_of workers)) && (is_some (up_to 1000 (u32_of wanted)) && is_one words)
may_spell_key _ = false

module _ {K : Type 0} (reading : List ℕ → Result K KeyError) where
  -- the expression that at most one word spells
  abbrev pub key_asked : List (List ℕ) → Option (Option K)
  key_asked [] = Some None
  key_asked (word ∷ []) = elim (reading word) [ Ok key ↦ Some (Some key) | Err error ↦ None ]
  key_asked (word ∷ other ∷ words) = None

  -- so many workers, so many polls, and the expression, where all are asked for
  abbrev pub asked_for : Option ℕ → Option ℕ → Option (Option K) → Option (Asked K)
  asked_for (Some workers) (Some wanted) (Some expr) = Some (record { workers = workers; wanted = wanted; expr = expr })
  asked_for (Some workers) (Some wanted) None = None
  asked_for (Some workers) None expr = None
  asked_for None wanted expr = None

  -- what the words ask for: a decimal number of workers from 1 to 16, one of polls up to 1,000, and at most one key
  unfoldable pub watch_asked : List (List ℕ) → Option (Asked K)
  watch_asked [] = None
  watch_asked (workers ∷ []) = None
  watch_asked (workers ∷ wanted ∷ words) = asked_for (from_one_to 16 (u32_of workers)) (up_to 1000 (u32_of wanted)) (key_asked words)
