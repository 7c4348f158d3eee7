-- Modes and options of interests.
use Rattle.std.specs.Prelude.{ℕ, Bool, true, false, ◌==◌}
use Rattle.std.specs.Int.RustNames.{bit_and}
use Rattle.zt_protocol.specs.declared.interests.InterestMode.{InterestMode}
use Rattle.zt_protocol.specs.declared.interests.InterestMode.TheVariants.{Current, Future, CurrentFuture}
use Rattle.zt_protocol.specs.declared.interests.InterestOptions.{InterestOptions}

-- what is there now is asked for
abbrev pub is_current : InterestMode → Bool
is_current Current = true
is_current Future = false
is_current CurrentFuture = true

-- what comes later is asked for
abbrev pub is_future : InterestMode → Bool
is_future Current = false
is_future Future = true
is_future CurrentFuture = true

-- whether these bits are all in a set of options
abbrev pub has_bits : ℕ → InterestOptions → Bool
has_bits bits options = bit_and options.0 bits == bits

abbrev pub has_subscribers : InterestOptions → Bool
has_subscribers options = has_bits 2 options

abbrev pub has_queryables : InterestOptions → Bool
has_queryables options = has_bits 4 options

abbrev pub has_tokens : InterestOptions → Bool
has_tokens options = has_bits 8 options

abbrev pub has_aggregate : InterestOptions → Bool
has_aggregate options = has_bits 16 options

-- the options but AGGREGATE
abbrev pub without_aggregate : InterestOptions → InterestOptions
without_aggregate options = record { 0 = bit_and options.0 239 }

-- whether two sets have the same bits
abbrev pub options_eq : InterestOptions → InterestOptions → Bool
options_eq a b = a.0 == b.0
