-- Three scripts that keep the promises over trees, by evaluation. Each knows one key, 0.
use Rattle.std.proofs.Common.{◌≡◌, ℕ, ◌==◌, Bool, true, false, ◌||◌, [], ◌∷◌, take, drop, Some, refl, eqb-true, true≢false, sym}
use Rattle.std.specs.Ordering.{nat_cmp}
use Rattle.zt_protocol.specs.declared.interests.InterestMode.TheVariants.{Current}
use Rattle.zt_model.specs.Lists.{rest_of}
use Rattle.zt_model.specs.Transcript.{Each, face_numbered}
use Rattle.zt_model.specs.TreePromises.{Beyond, Itself}
use Rattle.zt_model_test.specs.Script.{matching_in, options}
use Rattle.zt_theorem_tree_invariant.specs.Trees.{FacesFormTrees}
use Rattle.zt_promises_test.specs.Lacking as part
use Rattle.zt_promises_test.specs.Premises.{GetsAlone, Knows, KnowsAfter, turns_in}
use Rattle.zt_promises_test.proofs.Opened.{opened}
use Rattle.zt_promises_test.proofs.Tests.{cut_at_both, first_turn, know_it, know_none, some_is, trees_by, turn_at, turn_is}

-- ---- an ask

-- face 8, of gateway 3, has the token live all the while
pub asks_in_a_tree : GetsAlone 0 part.asks_in_a_tree
unfolding opened
asks_in_a_tree = (
  (refl, refl),
  record {
    ask = record {
      earlier = take 11 (turns_in part.asks_in_a_tree);
      asking = first_turn (drop 11 (turns_in part.asks_in_a_tree));
      between = take 5 (rest_of (drop 11 (turns_in part.asks_in_a_tree)));
      ending = Some (first_turn (drop 5 (rest_of (drop 11 (turns_in part.asks_in_a_tree)))));
      later = rest_of (drop 5 (rest_of (drop 11 (turns_in part.asks_in_a_tree))));
      turns_are = cut_at_both 11 5 (turns_in part.asks_in_a_tree) refl refl;
      face = 7;
      id = 1;
      interest = record { mode = Current; options = options 8; expr = Some 0 };
      made = record {
        accepted = refl;
        plain = refl;
        options = options 8;
        at = (some_is (face_numbered (first_turn (drop 11 (turns_in part.asks_in_a_tree))).before 7) refl).0;
        line = refl;
        there = (some_is (face_numbered (first_turn (drop 11 (turns_in part.asks_in_a_tree))).before 7) refl).1;
        kept = refl;
        current = refl;
        tokens = refl;
      };
      finished = (refl, refl);
    };
    premises = (refl, (refl, (refl, (refl, (refl, (trees_by (turns_in part.asks_in_a_tree) refl, tt))))));
    stays = record {
      about = refl;
      own = 4;
      other = 3;
      place = 8;
      at_own = refl;
      in_tree = Beyond 4 1 3 (Beyond 4 2 1 (Beyond 4 4 2 (Itself 4) refl) refl) refl;
      at_other = refl;
      stays = refl;
    };
    answers = refl;
  },
)

-- the root lists a region of peers and refuses pairs of regions, of which one has no face
pub root_with_other_regions : GetsAlone 0 part.root_with_other_regions
unfolding opened
root_with_other_regions = (
  (refl, refl),
  record {
    ask = record {
      earlier = take 6 (turns_in part.root_with_other_regions);
      asking = first_turn (drop 6 (turns_in part.root_with_other_regions));
      between = take 2 (rest_of (drop 6 (turns_in part.root_with_other_regions)));
      ending = Some (first_turn (drop 2 (rest_of (drop 6 (turns_in part.root_with_other_regions)))));
      later = rest_of (drop 2 (rest_of (drop 6 (turns_in part.root_with_other_regions))));
      turns_are = cut_at_both 6 2 (turns_in part.root_with_other_regions) refl refl;
      face = 4;
      id = 1;
      interest = record { mode = Current; options = options 8; expr = Some 0 };
      made = record {
        accepted = refl;
        plain = refl;
        options = options 8;
        at = (some_is (face_numbered (first_turn (drop 6 (turns_in part.root_with_other_regions))).before 4) refl).0;
        line = refl;
        there = (some_is (face_numbered (first_turn (drop 6 (turns_in part.root_with_other_regions))).before 4) refl).1;
        kept = refl;
        current = refl;
        tokens = refl;
      };
      finished = (refl, refl);
    };
    premises = (refl, (refl, (refl, (refl, (refl, (trees_by (turns_in part.root_with_other_regions) refl, tt))))));
    stays = record {
      about = refl;
      own = 2;
      other = 1;
      place = 3;
      at_own = refl;
      in_tree = Beyond 2 2 1 (Itself 2) refl;
      at_other = refl;
      stays = refl;
    };
    answers = refl;
  },
)

-- ---- knowledge

-- the one key that an interest in this key is about
zero_alone : (e : ℕ) → ((0 == e) || false) ≡ true → 0 ≡ e
zero_alone e h = by_case (0 == e) refl h
  where
    by_case : (b : Bool) → (0 == e) ≡ b → (b || false) ≡ true → 0 ≡ e
    by_case true is h = eqb-true 0 e is
    by_case false is h = absurd (true≢false (sym h))

trees : Each (λ t. FacesFormTrees t.after) (turns_in part.tree_echo)
unfolding opened
trees = trees_by (turns_in part.tree_echo) refl

-- Face 7, the session of gateway 4, knows its tree: at first nothing is live, then the token of face 8, then that and its
-- own, then its own alone, and at last nothing again, though its own had come back down to its gateway.
known_after_14 : Knows nat_cmp (matching_in part.tree_echo) 14 (turns_in part.tree_echo)
unfolding opened
known_after_14 = record {
  turn = turn_at 14 (turns_in part.tree_echo);
  is_turn = turn_is 14 (turns_in part.tree_echo) refl;
  premises = (refl, (refl, (trees, tt)));
  known = know_none (matching_in part.tree_echo) 0 zero_alone (turn_at 14 (turns_in part.tree_echo)).after 4 refl refl;
}

known_after_18 : Knows nat_cmp (matching_in part.tree_echo) 18 (turns_in part.tree_echo)
unfolding opened
known_after_18 = record {
  turn = turn_at 18 (turns_in part.tree_echo);
  is_turn = turn_is 18 (turns_in part.tree_echo) refl;
  premises = (refl, (refl, (trees, tt)));
  known = know_it (matching_in part.tree_echo) 0 zero_alone (turn_at 18 (turns_in part.tree_echo)).after 4 refl (record { face = 8; at_gateway = 3; place = refl; in_tree = Beyond 4 1 3 (Beyond 4 2 1 (Beyond 4 4 2 (Itself 4) refl) refl) refl; live = refl });
}

known_after_21 : Knows nat_cmp (matching_in part.tree_echo) 21 (turns_in part.tree_echo)
unfolding opened
known_after_21 = record {
  turn = turn_at 21 (turns_in part.tree_echo);
  is_turn = turn_is 21 (turns_in part.tree_echo) refl;
  premises = (refl, (refl, (trees, tt)));
  known = know_it (matching_in part.tree_echo) 0 zero_alone (turn_at 21 (turns_in part.tree_echo)).after 4 refl (record { face = 8; at_gateway = 3; place = refl; in_tree = Beyond 4 1 3 (Beyond 4 2 1 (Beyond 4 4 2 (Itself 4) refl) refl) refl; live = refl });
}

known_after_23 : Knows nat_cmp (matching_in part.tree_echo) 23 (turns_in part.tree_echo)
unfolding opened
known_after_23 = record {
  turn = turn_at 23 (turns_in part.tree_echo);
  is_turn = turn_is 23 (turns_in part.tree_echo) refl;
  premises = (refl, (refl, (trees, tt)));
  known = know_it (matching_in part.tree_echo) 0 zero_alone (turn_at 23 (turns_in part.tree_echo)).after 4 refl (record { face = 7; at_gateway = 4; place = refl; in_tree = Itself 4; live = refl });
}

known_after_28 : Knows nat_cmp (matching_in part.tree_echo) 28 (turns_in part.tree_echo)
unfolding opened
known_after_28 = record {
  turn = turn_at 28 (turns_in part.tree_echo);
  is_turn = turn_is 28 (turns_in part.tree_echo) refl;
  premises = (refl, (refl, (trees, tt)));
  known = know_none (matching_in part.tree_echo) 0 zero_alone (turn_at 28 (turns_in part.tree_echo)).after 4 refl refl;
}

pub tree_echo : KnowsAfter (14 ∷ 18 ∷ 21 ∷ 23 ∷ 28 ∷ []) part.tree_echo
unfolding opened
tree_echo = ((refl, refl), (known_after_14, (known_after_18, (known_after_21, (known_after_23, (known_after_28, tt))))))
