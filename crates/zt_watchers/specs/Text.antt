-- The printed text of polls.
use Rattle.std.specs.Prelude.{ℕ, List, ◌++◌, codes, decimal, Ok, Err}
use Rattle.std.specs.List.{flat_map}
use Rattle.zt_protocol.specs.Refusal.{name_of}
use Rattle.zt_theorem_watch.specs.Tables.{PlainPoll}
use Rattle.zt_watchers.specs.declared.polls.Poll.{Poll}

-- a poll without where its keys lie in memory
abbrev pub plain_poll : {K : Type 0} → Poll K → PlainPoll K
plain_poll poll = record {
  place = poll.place;
  outcome = elim poll.outcome [ Ok found ↦ Ok (found.joined.items, found.left.items) | Err refusal ↦ Err refusal ];
}

-- the line of a key behind its mark
abbrev pub key_line : {K : Type 0} → (K → List ℕ) → List ℕ → K → List ℕ
key_line printed mark key = mark ++ (printed key ++ codes "\n")

-- the lines of a poll: its place, and the keys that joined and those that left, or why it was refused
abbrev pub poll_text : {K : Type 0} → (K → List ℕ) → PlainPoll K → List ℕ
poll_text printed poll =
    (codes "poll " ++ decimal poll.place)
    ++ elim poll.outcome [
      | Ok keys ↦ codes "\n" ++ (flat_map (key_line printed (codes "+ ")) keys.0 ++ flat_map (key_line printed (codes "- ")) keys.1)
      | Err refusal ↦ codes " refused " ++ (name_of refusal ++ codes "\n")
    ]

abbrev pub polls_text : {K : Type 0} → (K → List ℕ) → List (PlainPoll K) → List ℕ
polls_text printed polls = flat_map (poll_text printed) polls
