use Rattle.std.proofs.Common.{◌≡◌, ◌*◌, ◌≤◌, length, sum_by, take}
use Rattle.zt_check_causes.proofs.left.count_asks.Given as goal

-- those of the faces so far are counted, and each has fewer than 2 ^ 64
abbrev pub invariant-loop-face : goal.invariant-loop-face
invariant-loop-face g l = record {
  counted : l.count ≡ sum_by (λ f. length f.asks) (take l.face-index l.faces);
  few : l.count ≤ l.face-index * 18446744073709551615;
}
