-- What a feeder keeps of its buffer, and how it looks for a line feed there.
use Rattle.std.specs.Prelude.{◌≡◌, ℕ, ◌+◌, ◌-◌, ◌<◌, ◌≤◌, List, ◌∷◌, length, take, drop, Option, None, Some}
use Rattle.zt_streams.specs.Lines.{HasNoFeed}

-- the bytes from `start` on are kept, and those of them before `seen` have no feed
pub record IsReady (bytes : List ℕ) (start seen : ℕ) : Type 0 where
  pub ordered : start ≤ seen
  pub within : seen ≤ length bytes
  pub searched : HasNoFeed (take (seen - start) (drop start bytes))

-- a feed stands at `place`, and none from `from` up to there
pub record StandsAt (bytes : List ℕ) (from place : ℕ) : Type 0 where
  pub after : from ≤ place
  pub within : place < length bytes
  pub before : HasNoFeed (take (place - from) (drop from bytes))
  pub feed : drop place bytes ≡ 10 ∷ drop (place + 1) bytes

-- the place of the first feed from `from` on; None exactly where there is none
abbrev pub FindsFeed : List ℕ → ℕ → Option ℕ → Type 0
FindsFeed bytes from None = HasNoFeed (drop from bytes)
FindsFeed bytes from (Some place) = StandsAt bytes from place
