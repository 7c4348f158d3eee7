-- How handles get an engine, and lose it.
use Rattle.std.specs.Prelude.{◌≡◌, ◌⊎◌, ℕ, Option, Some, None}
use Rattle.zt_engine.specs.Numbers.{IsMade, IsNotMade}
use Rattle.zt_engine.specs.declared.engine.Engine.{Engine}

-- The handle has an engine already, and keeps it.
pub record IsOpenAlready (before after : Option Engine) (status : ℕ) : Type 0 where
  pub engine : Engine
  pub was : before ≡ Some engine
  pub is : after ≡ Some engine
  pub status_is : status ≡ 7

-- The handle had none, and has one as it is made.
pub record IsOpened (high low mode timeout : ℕ) (before after : Option Engine) (status : ℕ) : Type 0 where
  pub was : before ≡ None
  pub engine : Engine
  pub is : after ≡ Some engine
  pub made : IsMade high low mode timeout engine.liveliness
  pub status_is : status ≡ 0

-- The handle had none, and has none.
pub record IsNotOpened (high low mode : ℕ) (before after : Option Engine) (status : ℕ) : Type 0 where
  pub was : before ≡ None
  pub is : after ≡ None
  pub why : IsNotMade high low mode status

abbrev pub Opens : ℕ → ℕ → ℕ → ℕ → Option Engine → Option Engine → ℕ → Type 0
Opens high low mode timeout before after status =
    IsOpenAlready before after status ⊎ (IsOpened high low mode timeout before after status ⊎ IsNotOpened high low mode before after status)

-- the status of a handle that is closed
abbrev pub closed_status : Option Engine → ℕ
closed_status None = 6
closed_status (Some engine) = 0
