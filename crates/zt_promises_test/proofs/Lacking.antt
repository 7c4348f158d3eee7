-- The laws of these scripts, by evaluation.
-- Written by tools/premises_to_antt.py; change the scripts or the tool, and not this file.
use Rattle.std.proofs.Common.{◌==◌, not, [], ◌∷◌, take, drop, Some, None, refl, true≢false}
use Rattle.std.specs.Ordering.{nat_cmp}
use Rattle.zt_protocol.specs.declared.interests.InterestMode.TheVariants.{Current, CurrentFuture}
use Rattle.zt_model.specs.Lists.{rest_of}
use Rattle.zt_model.specs.Transcript.{face_numbered}
use Rattle.zt_model.specs.TreePromises.{Itself, Beyond}
use Rattle.zt_model_test.specs.Script.{matching_in, options}
use Rattle.zt_promises_test.specs.Premises.{NothingWaits, NoMoment, NoUnlinking, InterestStands, IdsAreLeft, IsOfTrees, GetsLessWithout, GetsMoreWithout, KnowsLessWithout, GetsLessOfMoving, GetsLessOfLinked, turns_in}
use Rattle.zt_promises_test.specs.Lacking as part
use Rattle.zt_promises_test.proofs.Apart.{never}
use Rattle.zt_promises_test.proofs.Opened.{opened}
use Rattle.zt_promises_test.proofs.Tests.{cut_at_both, cut_at_own, first_turn, live_nowhere, none_stays, same_tree_same_side, some_is, trees_by, turn_at, turn_is, was_nowhere}

-- the answer is refused, since its face has no id left
pub answer_without_an_id : GetsLessWithout IdsAreLeft part.answer_without_an_id
unfolding opened
answer_without_an_id = (
  (refl, refl),
  record {
    ask = record {
      earlier = take 6 (turns_in part.answer_without_an_id);
      asking = first_turn (drop 6 (turns_in part.answer_without_an_id));
      between = take 2 (rest_of (drop 6 (turns_in part.answer_without_an_id)));
      ending = Some (first_turn (drop 2 (rest_of (drop 6 (turns_in part.answer_without_an_id)))));
      later = rest_of (drop 2 (rest_of (drop 6 (turns_in part.answer_without_an_id))));
      turns_are = cut_at_both 6 2 (turns_in part.answer_without_an_id) refl refl;
      face = 4;
      id = 1;
      interest = record { mode = CurrentFuture; options = options 8; expr = Some 0 };
      made = record {
        accepted = refl;
        plain = refl;
        options = options 8;
        at = (some_is (face_numbered (first_turn (drop 6 (turns_in part.answer_without_an_id))).before 4) refl).0;
        line = refl;
        there = (some_is (face_numbered (first_turn (drop 6 (turns_in part.answer_without_an_id))).before 4) refl).1;
        kept = refl;
        current = refl;
        tokens = refl;
      };
      finished = (refl, refl);
    };
    premises = (refl, (refl, (refl, (refl, (λ h. never refl h, (trees_by (turns_in part.answer_without_an_id) refl, tt))))));
    expr = 0;
    stays = record { about = refl; own = 2; other = 1; place = 3; at_own = refl; in_tree = Beyond 2 2 1 (Itself 2) refl; at_other = refl; stays = refl };
    missed = refl;
  },
)

-- a plain face to the north answers a token that is live nowhere
pub answered_from_above : GetsMoreWithout IsOfTrees part.answered_from_above
unfolding opened
answered_from_above = (
  (refl, refl),
  record {
    ask = record {
      earlier = take 3 (turns_in part.answered_from_above);
      asking = first_turn (drop 3 (turns_in part.answered_from_above));
      between = take 1 (rest_of (drop 3 (turns_in part.answered_from_above)));
      ending = Some (first_turn (drop 1 (rest_of (drop 3 (turns_in part.answered_from_above)))));
      later = rest_of (drop 1 (rest_of (drop 3 (turns_in part.answered_from_above))));
      turns_are = cut_at_both 3 1 (turns_in part.answered_from_above) refl refl;
      face = 2;
      id = 1;
      interest = record { mode = Current; options = options 8; expr = Some 0 };
      made = record {
        accepted = refl;
        plain = refl;
        options = options 8;
        at = (some_is (face_numbered (first_turn (drop 3 (turns_in part.answered_from_above))).before 2) refl).0;
        line = refl;
        there = (some_is (face_numbered (first_turn (drop 3 (turns_in part.answered_from_above))).before 2) refl).1;
        kept = refl;
        current = refl;
        tokens = refl;
      };
      finished = (refl, refl);
    };
    premises = (refl, (refl, (refl, (refl, (refl, (λ h. never refl (h.1.0.north.0.0 refl).1, tt))))));
    expr = 0;
    answered = refl;
    nowhere = λ was. was_nowhere nat_cmp (matching_in part.answered_from_above) 0 (first_turn (drop 3 (turns_in part.answered_from_above)) ∷ take 1 (drop 4 (turns_in part.answered_from_above))) refl was;
  },
)

-- the face ends its own interest before the ask has gone up
pub ended_before_the_final : GetsLessWithout InterestStands part.ended_before_the_final
unfolding opened
ended_before_the_final = (
  (refl, refl),
  record {
    ask = record {
      earlier = take 6 (turns_in part.ended_before_the_final);
      asking = first_turn (drop 6 (turns_in part.ended_before_the_final));
      between = take 0 (rest_of (drop 6 (turns_in part.ended_before_the_final)));
      ending = Some (first_turn (drop 0 (rest_of (drop 6 (turns_in part.ended_before_the_final)))));
      later = rest_of (drop 0 (rest_of (drop 6 (turns_in part.ended_before_the_final))));
      turns_are = cut_at_both 6 0 (turns_in part.ended_before_the_final) refl refl;
      face = 4;
      id = 1;
      interest = record { mode = CurrentFuture; options = options 8; expr = Some 0 };
      made = record {
        accepted = refl;
        plain = refl;
        options = options 8;
        at = (some_is (face_numbered (first_turn (drop 6 (turns_in part.ended_before_the_final))).before 4) refl).0;
        line = refl;
        there = (some_is (face_numbered (first_turn (drop 6 (turns_in part.ended_before_the_final))).before 4) refl).1;
        kept = refl;
        current = refl;
        tokens = refl;
      };
      finished = (refl, refl);
    };
    premises = (refl, (refl, (refl, (λ h. never refl h, (refl, (trees_by (turns_in part.ended_before_the_final) refl, tt))))));
    expr = 0;
    stays = record { about = refl; own = 2; other = 1; place = 3; at_own = refl; in_tree = Beyond 2 2 1 (Itself 2) refl; at_other = refl; stays = refl };
    missed = refl;
  },
)

-- a token is gone, and that still waits on the link when the ask is made
pub gone_and_still_told : GetsMoreWithout NothingWaits part.gone_and_still_told
unfolding opened
gone_and_still_told = (
  (refl, refl),
  record {
    ask = record {
      earlier = take 8 (turns_in part.gone_and_still_told);
      asking = first_turn (drop 8 (turns_in part.gone_and_still_told));
      between = [];
      ending = None;
      later = rest_of (drop 8 (turns_in part.gone_and_still_told));
      turns_are = cut_at_own 8 (turns_in part.gone_and_still_told) refl;
      face = 4;
      id = 1;
      interest = record { mode = Current; options = options 8; expr = Some 0 };
      made = record {
        accepted = refl;
        plain = refl;
        options = options 8;
        at = (some_is (face_numbered (first_turn (drop 8 (turns_in part.gone_and_still_told))).before 4) refl).0;
        line = refl;
        there = (some_is (face_numbered (first_turn (drop 8 (turns_in part.gone_and_still_told))).before 4) refl).1;
        kept = refl;
        current = refl;
        tokens = refl;
      };
      finished = (refl, refl);
    };
    premises = (λ h. never h refl, (refl, (refl, (refl, (refl, (trees_by (turns_in part.gone_and_still_told) refl, tt))))));
    expr = 0;
    answered = refl;
    nowhere = λ was. was_nowhere nat_cmp (matching_in part.gone_and_still_told) 0 (first_turn (drop 8 (turns_in part.gone_and_still_told)) ∷ []) refl was;
  },
)

-- a token still waits on the link
pub known_only_after_the_step : KnowsLessWithout NothingWaits 7 part.known_only_after_the_step
unfolding opened
known_only_after_the_step = (
  (refl, refl),
  record {
    turn = turn_at 7 (turns_in part.known_only_after_the_step);
    is_turn = turn_is 7 (turns_in part.known_only_after_the_step) refl;
    premises = (λ h. never h refl, (refl, (trees_by (turns_in part.known_only_after_the_step) refl, tt)));
    unknown = λ h. never ((h.0.1.0 refl refl).live_is_kept 0 refl (record { face = 3; at_gateway = 2; place = refl; in_tree = Beyond 1 1 2 (Itself 1) refl; live = refl })) refl;
  },
)

-- the gateway of the token is linked after the ask was made
pub linked_after_the_asking : GetsLessOfLinked part.linked_after_the_asking
unfolding opened
linked_after_the_asking = (
  (refl, refl),
  record {
    ask = record {
      earlier = take 7 (turns_in part.linked_after_the_asking);
      asking = first_turn (drop 7 (turns_in part.linked_after_the_asking));
      between = take 2 (rest_of (drop 7 (turns_in part.linked_after_the_asking)));
      ending = Some (first_turn (drop 2 (rest_of (drop 7 (turns_in part.linked_after_the_asking)))));
      later = rest_of (drop 2 (rest_of (drop 7 (turns_in part.linked_after_the_asking))));
      turns_are = cut_at_both 7 2 (turns_in part.linked_after_the_asking) refl refl;
      face = 3;
      id = 1;
      interest = record { mode = Current; options = options 8; expr = Some 0 };
      made = record {
        accepted = refl;
        plain = refl;
        options = options 8;
        at = (some_is (face_numbered (first_turn (drop 7 (turns_in part.linked_after_the_asking))).before 3) refl).0;
        line = refl;
        there = (some_is (face_numbered (first_turn (drop 7 (turns_in part.linked_after_the_asking))).before 3) refl).1;
        kept = refl;
        current = refl;
        tokens = refl;
      };
      finished = (refl, refl);
    };
    premises = (refl, (refl, (refl, (refl, (refl, (trees_by (turns_in part.linked_after_the_asking) refl, tt))))));
    expr = 0;
    about = refl;
    own = 2;
    other = 3;
    place = 4;
    at_own = refl;
    at_other = refl;
    apart = λ tree. true≢false (same_tree_same_side (first_turn (drop 7 (turns_in part.linked_after_the_asking))).before (λ n. not (n == 3)) 2 3 refl tree);
    joined = (Beyond 2 1 3 (Beyond 2 2 1 (Itself 2) refl) refl, tt);
    stays = refl;
    missed = refl;
  },
)

-- a moment ends the ask at its timeout, before it has gone up the link
pub moment_before_the_final : GetsLessWithout NoMoment part.moment_before_the_final
unfolding opened
moment_before_the_final = (
  (refl, refl),
  record {
    ask = record {
      earlier = take 6 (turns_in part.moment_before_the_final);
      asking = first_turn (drop 6 (turns_in part.moment_before_the_final));
      between = take 0 (rest_of (drop 6 (turns_in part.moment_before_the_final)));
      ending = Some (first_turn (drop 0 (rest_of (drop 6 (turns_in part.moment_before_the_final)))));
      later = rest_of (drop 0 (rest_of (drop 6 (turns_in part.moment_before_the_final))));
      turns_are = cut_at_both 6 0 (turns_in part.moment_before_the_final) refl refl;
      face = 4;
      id = 1;
      interest = record { mode = Current; options = options 8; expr = Some 0 };
      made = record {
        accepted = refl;
        plain = refl;
        options = options 8;
        at = (some_is (face_numbered (first_turn (drop 6 (turns_in part.moment_before_the_final))).before 4) refl).0;
        line = refl;
        there = (some_is (face_numbered (first_turn (drop 6 (turns_in part.moment_before_the_final))).before 4) refl).1;
        kept = refl;
        current = refl;
        tokens = refl;
      };
      finished = (refl, refl);
    };
    premises = (refl, (λ h. never refl h, (refl, (refl, (refl, (trees_by (turns_in part.moment_before_the_final) refl, tt))))));
    expr = 0;
    stays = record { about = refl; own = 2; other = 1; place = 3; at_own = refl; in_tree = Beyond 2 2 1 (Itself 2) refl; at_other = refl; stays = refl };
    missed = refl;
  },
)

-- the gateway below tells nothing upward: its admission table refuses the pair
pub pair_refused : GetsLessWithout IsOfTrees part.pair_refused
unfolding opened
pair_refused = (
  (refl, refl),
  record {
    ask = record {
      earlier = take 6 (turns_in part.pair_refused);
      asking = first_turn (drop 6 (turns_in part.pair_refused));
      between = [];
      ending = None;
      later = rest_of (drop 6 (turns_in part.pair_refused));
      turns_are = cut_at_own 6 (turns_in part.pair_refused) refl;
      face = 4;
      id = 1;
      interest = record { mode = Current; options = options 8; expr = Some 0 };
      made = record {
        accepted = refl;
        plain = refl;
        options = options 8;
        at = (some_is (face_numbered (first_turn (drop 6 (turns_in part.pair_refused))).before 4) refl).0;
        line = refl;
        there = (some_is (face_numbered (first_turn (drop 6 (turns_in part.pair_refused))).before 4) refl).1;
        kept = refl;
        current = refl;
        tokens = refl;
      };
      finished = (refl, refl);
    };
    premises = (refl, (refl, (refl, (refl, (refl, (λ h. never refl h.1.1.1.0.admitted.1.0.0, tt))))));
    expr = 0;
    stays = record { about = refl; own = 1; other = 2; place = 3; at_own = refl; in_tree = Beyond 1 1 2 (Itself 1) refl; at_other = refl; stays = refl };
    missed = refl;
  },
)

-- a peer face is not shown the tokens of its own region, not even its own
pub peer_alone : KnowsLessWithout IsOfTrees 4 part.peer_alone
unfolding opened
peer_alone = (
  (refl, refl),
  record {
    turn = turn_at 4 (turns_in part.peer_alone);
    is_turn = turn_is 4 (turns_in part.peer_alone) refl;
    premises = (refl, (refl, (λ h. never h.1.0.south.0.0 refl, tt)));
    unknown = λ h. never ((h.0.0 refl refl).live_is_kept 0 refl (record { face = 1; at_gateway = 1; place = refl; in_tree = Itself 1; live = refl })) refl;
  },
)

-- two peers of one region hear nothing of each other through the gateway
pub region_of_peers : KnowsLessWithout IsOfTrees 5 part.region_of_peers
unfolding opened
region_of_peers = (
  (refl, refl),
  record {
    turn = turn_at 5 (turns_in part.region_of_peers);
    is_turn = turn_is 5 (turns_in part.region_of_peers) refl;
    premises = (refl, (refl, (λ h. never h.1.0.south.0.0 refl, tt)));
    unknown = λ h. never ((h.0.1.0 refl refl).live_is_kept 0 refl (record { face = 1; at_gateway = 1; place = refl; in_tree = Itself 1; live = refl })) refl;
  },
)

-- a token of a router stays when the face to it has closed
pub router_gone_rows_stay : KnowsLessWithout IsOfTrees 7 part.router_gone_rows_stay
unfolding opened
router_gone_rows_stay = (
  (refl, refl),
  record {
    turn = turn_at 7 (turns_in part.router_gone_rows_stay);
    is_turn = turn_is 7 (turns_in part.router_gone_rows_stay) refl;
    premises = (refl, (refl, (λ h. never refl (h.1.0.north.0.0 refl).1, tt)));
    unknown = λ h.
        let lives = (h.0.0 refl refl).kept_is_live 0 refl refl in
        never lives.live (live_nowhere nat_cmp (matching_in part.router_gone_rows_stay) 0 (turn_at 7 (turns_in part.router_gone_rows_stay)).after refl lives.face);
  },
)

-- two linked routers without tables tell each other nothing
pub routers_without_tables : KnowsLessWithout IsOfTrees 7 part.routers_without_tables
unfolding opened
routers_without_tables = (
  (refl, refl),
  record {
    turn = turn_at 7 (turns_in part.routers_without_tables);
    is_turn = turn_is 7 (turns_in part.routers_without_tables) refl;
    premises = (refl, (refl, (λ h. never (h.1.1.0.north.0.0 refl).0 refl, tt)));
    unknown = λ h. never ((h.1.0.1.0 refl refl).live_is_kept 0 refl (record { face = 3; at_gateway = 1; place = refl; in_tree = Beyond 2 2 1 (Itself 2) refl; live = refl })) refl;
  },
)

-- a token still waits on the link when the ask is made
pub token_still_on_its_way : GetsLessWithout NothingWaits part.token_still_on_its_way
unfolding opened
token_still_on_its_way = (
  (refl, refl),
  record {
    ask = record {
      earlier = take 6 (turns_in part.token_still_on_its_way);
      asking = first_turn (drop 6 (turns_in part.token_still_on_its_way));
      between = [];
      ending = None;
      later = rest_of (drop 6 (turns_in part.token_still_on_its_way));
      turns_are = cut_at_own 6 (turns_in part.token_still_on_its_way) refl;
      face = 4;
      id = 1;
      interest = record { mode = Current; options = options 8; expr = Some 0 };
      made = record {
        accepted = refl;
        plain = refl;
        options = options 8;
        at = (some_is (face_numbered (first_turn (drop 6 (turns_in part.token_still_on_its_way))).before 4) refl).0;
        line = refl;
        there = (some_is (face_numbered (first_turn (drop 6 (turns_in part.token_still_on_its_way))).before 4) refl).1;
        kept = refl;
        current = refl;
        tokens = refl;
      };
      finished = (refl, refl);
    };
    premises = (λ h. never h refl, (refl, (refl, (refl, (refl, (trees_by (turns_in part.token_still_on_its_way) refl, tt))))));
    expr = 0;
    stays = record { about = refl; own = 1; other = 2; place = 3; at_own = refl; in_tree = Beyond 1 1 2 (Itself 1) refl; at_other = refl; stays = refl };
    missed = refl;
  },
)

-- the token moves from one face to another while the ask is on its way
pub token_that_moves : GetsLessOfMoving part.token_that_moves
unfolding opened
token_that_moves = (
  (refl, refl),
  record {
    ask = record {
      earlier = take 7 (turns_in part.token_that_moves);
      asking = first_turn (drop 7 (turns_in part.token_that_moves));
      between = take 3 (rest_of (drop 7 (turns_in part.token_that_moves)));
      ending = Some (first_turn (drop 3 (rest_of (drop 7 (turns_in part.token_that_moves)))));
      later = rest_of (drop 3 (rest_of (drop 7 (turns_in part.token_that_moves))));
      turns_are = cut_at_both 7 3 (turns_in part.token_that_moves) refl refl;
      face = 4;
      id = 1;
      interest = record { mode = Current; options = options 8; expr = Some 0 };
      made = record {
        accepted = refl;
        plain = refl;
        options = options 8;
        at = (some_is (face_numbered (first_turn (drop 7 (turns_in part.token_that_moves))).before 4) refl).0;
        line = refl;
        there = (some_is (face_numbered (first_turn (drop 7 (turns_in part.token_that_moves))).before 4) refl).1;
        kept = refl;
        current = refl;
        tokens = refl;
      };
      finished = (refl, refl);
    };
    premises = (refl, (refl, (refl, (refl, (refl, (trees_by (turns_in part.token_that_moves) refl, tt))))));
    expr = 0;
    about = refl;
    own = 2;
    at_own = refl;
    live = (record { face = 3; at_gateway = 1; place = refl; in_tree = Beyond 2 2 1 (Itself 2) refl; live = refl }, (record { face = 3; at_gateway = 1; place = refl; in_tree = Beyond 2 2 1 (Itself 2) refl; live = refl }, (record { face = 5; at_gateway = 2; place = refl; in_tree = Itself 2; live = refl }, (record { face = 5; at_gateway = 2; place = refl; in_tree = Itself 2; live = refl }, (record { face = 5; at_gateway = 2; place = refl; in_tree = Itself 2; live = refl }, tt)))));
    moves = λ stays. none_stays nat_cmp (matching_in part.token_that_moves) 0 (first_turn (drop 7 (turns_in part.token_that_moves))) (take 4 (rest_of (drop 7 (turns_in part.token_that_moves)))) refl stays.place stays.stays;
    missed = refl;
  },
)

-- the token is refused, since the face that is to be told has no id left
pub token_without_an_id : KnowsLessWithout IdsAreLeft 10 part.token_without_an_id
unfolding opened
token_without_an_id = (
  (refl, refl),
  record {
    turn = turn_at 10 (turns_in part.token_without_an_id);
    is_turn = turn_is 10 (turns_in part.token_without_an_id) refl;
    premises = (refl, (λ h. never refl h, (trees_by (turns_in part.token_without_an_id) refl, tt)));
    unknown = λ h. never ((h.1.0.1.0 refl refl).live_is_kept 0 refl (record { face = 3; at_gateway = 1; place = refl; in_tree = Beyond 2 2 1 (Itself 2) refl; live = refl })) refl;
  },
)

-- the link is taken out before the ask has gone up
pub unlinked_before_the_final : GetsLessWithout NoUnlinking part.unlinked_before_the_final
unfolding opened
unlinked_before_the_final = (
  (refl, refl),
  record {
    ask = record {
      earlier = take 6 (turns_in part.unlinked_before_the_final);
      asking = first_turn (drop 6 (turns_in part.unlinked_before_the_final));
      between = take 0 (rest_of (drop 6 (turns_in part.unlinked_before_the_final)));
      ending = Some (first_turn (drop 0 (rest_of (drop 6 (turns_in part.unlinked_before_the_final)))));
      later = rest_of (drop 0 (rest_of (drop 6 (turns_in part.unlinked_before_the_final))));
      turns_are = cut_at_both 6 0 (turns_in part.unlinked_before_the_final) refl refl;
      face = 4;
      id = 1;
      interest = record { mode = Current; options = options 8; expr = Some 0 };
      made = record {
        accepted = refl;
        plain = refl;
        options = options 8;
        at = (some_is (face_numbered (first_turn (drop 6 (turns_in part.unlinked_before_the_final))).before 4) refl).0;
        line = refl;
        there = (some_is (face_numbered (first_turn (drop 6 (turns_in part.unlinked_before_the_final))).before 4) refl).1;
        kept = refl;
        current = refl;
        tokens = refl;
      };
      finished = (refl, refl);
    };
    premises = (refl, (refl, (λ h. never refl h, (refl, (refl, (trees_by (turns_in part.unlinked_before_the_final) refl, tt))))));
    expr = 0;
    stays = record { about = refl; own = 2; other = 1; place = 3; at_own = refl; in_tree = Beyond 2 2 1 (Itself 2) refl; at_other = refl; stays = refl };
    missed = refl;
  },
)
