use Rattle.std.proofs.Common.{◌≡◌, ◌++◌, drop, take}
use Rattle.zt_liveliness.specs.Books.{find_session, with_session}
use Rattle.zt_liveliness.specs.declared.books.Session.{Session}
use Rattle.zt_liveliness.proofs.books.place_of.Given as goal

-- the session is none of those so far
abbrev pub invariant-loop-place : goal.invariant-loop-place
invariant-loop-place l = record {
  found : find_session l.number l.sessions ≡ find_session l.number (drop l.place l.sessions);
  changed : (change : Session → Session) → with_session l.number change l.sessions ≡ take l.place l.sessions ++ with_session l.number change (drop l.place l.sessions);
}
