use Rattle.std.proofs.Common.{◌≡◌, drop}
use Rattle.zt_keys.proofs.Scan.{run, first_scan}
use Rattle.zt_keys.proofs.check.check.Given as goal

abbrev pub invariant-loop-place : goal.invariant-loop-place
invariant-loop-place l = run (drop l.place l.bytes) l.place l.scan ≡ run l.bytes 0 first_scan
