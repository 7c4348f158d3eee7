use Rattle.std.proofs.Common.{◌≡◌, drop}
use Rattle.std.specs.List.{list_all}
use Rattle.zt_check_asks.specs.Answering.{are_answered_by}
use Rattle.zt_check_asks.proofs.Walked.{Passes}
use Rattle.zt_check_asks.proofs.answers.are_answered_by_all.Given as goal

-- the asks are that those so far answer, and those are that any message answers which answers as the last one does
abbrev pub invariant-loop-sent : goal.invariant-loop-sent
invariant-loop-sent g l = record {
  so_far : list_all (are_answered_by g.K.Ord.cmp g.K.Key.matching l.fabric l.told) (drop l.sent-index l.sents)
      ≡ list_all (are_answered_by g.K.Ord.cmp g.K.Key.matching l.fabric l.told) l.sents;
  again : Passes g.K.Ord.cmp g.K.Key.matching l.fabric l.told l.last;
}
