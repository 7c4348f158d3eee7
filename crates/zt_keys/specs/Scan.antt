-- How a text is checked byte by byte. No public clause rests on this: proofs/Scan.antt shows that it finds the refusal.
use Rattle.std.specs.Prelude.{ℕ, ◌+◌, cond, Option, Some, None, Result, Ok, Err, ◌==◌}
use Rattle.std.specs.Option.{option_or}
use Rattle.zt_keys.specs.Chunks.{is_forbidden, is_star}
use Rattle.zt_keys.specs.declared.error.KeyError.{KeyError}
use Rattle.zt_keys.specs.declared.error.KeyError.TheVariants.{BadChunk}
use Rattle.zt_keys.specs.declared.check.Kind.{Kind}
use Rattle.zt_keys.specs.declared.check.Kind.TheVariants.{Fresh, Name, Single, Double}
use Rattle.zt_keys.specs.declared.check.Scan.{Scan}

abbrev pub with_star : Kind → Option Kind
with_star Fresh = Some Single
with_star Name = None
with_star Single = Some Double
with_star Double = None

abbrev pub with_other : Kind → Option Kind
with_other Fresh = Some Name
with_other Name = Some Name
with_other Single = None
with_other Double = None

abbrev pub next_kind : Kind → ℕ → Option Kind
next_kind kind byte = cond (is_forbidden byte) None (cond (is_star byte) (with_star kind) (with_other kind))

abbrev pub end_at : Kind → ℕ → Option ℕ → Option ℕ → ℕ → Result Scan KeyError
end_at Fresh start double loose next = Err (BadChunk start)
end_at Name start double loose next = Ok (record { kind = Fresh; start = next; double = None; loose = loose })
end_at Single start double loose next = Ok (record { kind = Fresh; start = next; double = None; loose = option_or loose double })
end_at Double start double loose next = Ok (record { kind = Fresh; start = next; double = Some start; loose = option_or loose double })

abbrev pub end_chunk : Scan → ℕ → Result Scan KeyError
end_chunk scan next = end_at scan.kind scan.start scan.double scan.loose next

abbrev pub grown : Option Kind → Scan → Result Scan KeyError
grown None scan = Err (BadChunk scan.start)
grown (Some kind) scan = Ok (record { kind = kind; start = scan.start; double = scan.double; loose = scan.loose })

abbrev pub step : Scan → ℕ → ℕ → Result Scan KeyError
step scan place byte = cond (byte == 47) (end_chunk scan (place + 1)) (grown (next_kind scan.kind byte) scan)
