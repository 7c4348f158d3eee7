-- Keys as bytes.
use Rattle.std.specs.Prelude.{◌≡◌, ◌⊎◌, ℕ, List, Option, Some, None, Result, Ok, Err, if◌then◌else◌}
use Rattle.std.specs.Str.{is_utf8}
use Rattle.zt_keys.specs.declared.error.KeyError.{KeyError}

-- a key, where one is read
abbrev pub read_key : {K : Type 0} → Result K KeyError → Option K
read_key (Ok key) = Some key
read_key (Err error) = None

-- the key that bytes spell
abbrev pub key_in : {K : Type 0} → (List ℕ → Result K KeyError) → List ℕ → Option K
key_in reading bytes = if is_utf8 bytes then read_key (reading bytes) else None

-- the status of a call with bytes that no key was read of: they spell none, or memory ran out
abbrev pub IsUnread : {K : Type 0} → (List ℕ → Result K KeyError) → List ℕ → ℕ → Type 0
IsUnread reading bytes status = ((status ≡ 9) × (key_in reading bytes ≡ None)) ⊎ (status ≡ 5)
