-- Wrong transcripts, as the definitions speak of them.
-- Written by tools/wrong_to_antt.py; change the transcripts or the tool, and not this file.
use Rattle.std.specs.Prelude.{[], ◌∷◌, Some, None, Ok, Err}
use Rattle.zt_region.specs.declared.region.Bound.TheVariants as bound
use Rattle.zt_region.specs.declared.region.Region.TheVariants.{North}
use Rattle.zt_region.specs.declared.region.WhatAmI.TheVariants.{Router, Peer, Client}
use Rattle.zt_protocol.specs.Plain.{DeclareToken, UndeclareToken, Interest, InterestFinal, DeclareFinal, Gateway, Session, Face as FaceLine, Speak, Moment, SetTreesAt}
use Rattle.zt_protocol.specs.declared.errors.Refusal.TheVariants as refusal
use Rattle.zt_protocol.specs.declared.interests.InterestMode.TheVariants.{Current, Future, CurrentFuture}
use Rattle.zt_protocol.specs.declared.messages.Message.TheVariants as message
use Rattle.zt_model_test.specs.Script.{Script, options, sent, zid}

-- everybody-is-told: 0 is k
abbrev pub everybody_is_told : Script
everybody_is_told = record {
  matches = [];
  lines =
      Gateway Client (zid 1) [] None None 10000 []
      ∷ Session 1 1
      ∷ Session 1 1
      ∷ Speak (DeclareToken 1 1 0 0 None)
      ∷ [];
  entries =
      Ok []
      ∷ Ok []
      ∷ Ok []
      ∷ Ok (sent 1 2 (message.DeclareToken 1 0 None 0) ∷ [])
      ∷ [];
  totals = Some (record { lines = 4; messages = 1; refusals = 0 });
}

-- faces-out-of-order: 0 is k
abbrev pub faces_out_of_order : Script
faces_out_of_order = record {
  matches = [];
  lines =
      Gateway Client (zid 1) [] None None 10000 []
      ∷ Session 1 1
      ∷ Session 1 1
      ∷ Speak (Interest 1 1 CurrentFuture (options 8) None)
      ∷ Speak (Interest 2 1 CurrentFuture (options 8) None)
      ∷ Speak (DeclareToken 1 1 0 0 None)
      ∷ [];
  entries =
      Ok []
      ∷ Ok []
      ∷ Ok []
      ∷ Ok (sent 1 1 (message.DeclareFinal 1) ∷ [])
      ∷ Ok (sent 1 2 (message.DeclareFinal 1) ∷ [])
      ∷ Ok (sent 1 2 (message.DeclareToken 1 0 None 0) ∷ sent 1 1 (message.DeclareToken 1 0 None 0) ∷ [])
      ∷ [];
  totals = Some (record { lines = 6; messages = 4; refusals = 0 });
}

-- final-at-expiry-and-again
abbrev pub final_at_expiry_and_again : Script
final_at_expiry_and_again = record {
  matches = [];
  lines =
      Gateway Client (zid 1) [] None None 10 []
      ∷ FaceLine 1 Router (zid 9) North bound.South 1
      ∷ Session 1 1
      ∷ Speak (Interest 2 1 Current (options 8) None)
      ∷ Moment 1 10
      ∷ Moment 1 11
      ∷ [];
  entries =
      Ok []
      ∷ Ok []
      ∷ Ok []
      ∷ Ok (sent 1 1 (message.Interest 1 Current (options 8) None) ∷ [])
      ∷ Ok (sent 1 2 (message.DeclareFinal 1) ∷ [])
      ∷ Ok (sent 1 2 (message.DeclareFinal 1) ∷ [])
      ∷ [];
  totals = Some (record { lines = 6; messages = 3; refusals = 0 });
}

-- final-at-once-and-nobody-asked
abbrev pub final_at_once_and_nobody_asked : Script
final_at_once_and_nobody_asked = record {
  matches = [];
  lines =
      Gateway Client (zid 1) [] None None 10000 []
      ∷ FaceLine 1 Router (zid 9) North bound.South 1
      ∷ Session 1 1
      ∷ Speak (Interest 2 1 Current (options 8) None)
      ∷ [];
  entries =
      Ok []
      ∷ Ok []
      ∷ Ok []
      ∷ Ok (sent 1 2 (message.DeclareFinal 1) ∷ [])
      ∷ [];
  totals = Some (record { lines = 4; messages = 1; refusals = 0 });
}

-- final-at-once
abbrev pub final_at_once : Script
final_at_once = record {
  matches = [];
  lines =
      Gateway Client (zid 1) [] None None 10000 []
      ∷ FaceLine 1 Router (zid 9) North bound.South 1
      ∷ Session 1 1
      ∷ Speak (Interest 2 1 Current (options 8) None)
      ∷ [];
  entries =
      Ok []
      ∷ Ok []
      ∷ Ok []
      ∷ Ok (sent 1 1 (message.Interest 1 Current (options 8) None) ∷ sent 1 2 (message.DeclareFinal 1) ∷ [])
      ∷ [];
  totals = Some (record { lines = 4; messages = 2; refusals = 0 });
}

-- final-before-the-last-pending
abbrev pub final_before_the_last_pending : Script
final_before_the_last_pending = record {
  matches = [];
  lines =
      Gateway Peer (zid 1) [] None None 10000 []
      ∷ FaceLine 1 Peer (zid 2) North bound.North 1
      ∷ FaceLine 1 Peer (zid 3) North bound.North 1
      ∷ Session 1 1
      ∷ Speak (Interest 3 1 Current (options 8) None)
      ∷ Speak (DeclareFinal 1 1)
      ∷ [];
  entries =
      Ok []
      ∷ Ok (sent 1 1 (message.DeclareFinal 0) ∷ [])
      ∷ Ok (sent 1 2 (message.DeclareFinal 0) ∷ [])
      ∷ Ok []
      ∷ Ok (sent 1 1 (message.Interest 1 Current (options 8) None) ∷ sent 1 2 (message.Interest 1 Current (options 8) None) ∷ [])
      ∷ Ok (sent 1 3 (message.DeclareFinal 1) ∷ [])
      ∷ [];
  totals = Some (record { lines = 6; messages = 5; refusals = 0 });
}

-- final-never
abbrev pub final_never : Script
final_never = record {
  matches = [];
  lines =
      Gateway Client (zid 1) [] None None 10000 []
      ∷ FaceLine 1 Router (zid 9) North bound.South 1
      ∷ Session 1 1
      ∷ Speak (Interest 2 1 Current (options 8) None)
      ∷ Speak (DeclareFinal 1 1)
      ∷ [];
  entries =
      Ok []
      ∷ Ok []
      ∷ Ok []
      ∷ Ok (sent 1 1 (message.Interest 1 Current (options 8) None) ∷ [])
      ∷ Ok []
      ∷ [];
  totals = Some (record { lines = 5; messages = 1; refusals = 0 });
}

-- first-line-only
abbrev pub first_line_only : Script
first_line_only = record {
  matches = [];
  lines =
      Gateway Client (zid 1) [] None None 10000 []
      ∷ Session 1 1
      ∷ [];
  entries =
      Ok []
      ∷ [];
  totals = Some (record { lines = 2; messages = 0; refusals = 0 });
}

-- future-interest-finished
abbrev pub future_interest_finished : Script
future_interest_finished = record {
  matches = [];
  lines =
      Gateway Client (zid 1) [] None None 10000 []
      ∷ Session 1 1
      ∷ Speak (Interest 1 1 Future (options 8) None)
      ∷ [];
  entries =
      Ok []
      ∷ Ok []
      ∷ Ok (sent 1 1 (message.DeclareFinal 1) ∷ [])
      ∷ [];
  totals = Some (record { lines = 3; messages = 1; refusals = 0 });
}

-- id-passed-over: 0 is k
abbrev pub id_passed_over : Script
id_passed_over = record {
  matches = [];
  lines =
      Gateway Client (zid 1) [] None None 10000 []
      ∷ Session 1 1
      ∷ Speak (Interest 1 1 CurrentFuture (options 8) None)
      ∷ Speak (DeclareToken 1 1 0 0 None)
      ∷ [];
  entries =
      Ok []
      ∷ Ok []
      ∷ Ok (sent 1 1 (message.DeclareFinal 1) ∷ [])
      ∷ Ok (sent 1 1 (message.DeclareToken 2 0 None 0) ∷ [])
      ∷ [];
  totals = Some (record { lines = 4; messages = 2; refusals = 0 });
}

-- ids-spent-by-an-undeclaration: 0 is a, 1 is b
abbrev pub ids_spent_by_an_undeclaration : Script
ids_spent_by_an_undeclaration = record {
  matches = [];
  lines =
      Gateway Client (zid 1) [] None None 10000 []
      ∷ Session 1 4294967294
      ∷ Speak (Interest 1 1 CurrentFuture (options 8) None)
      ∷ Speak (DeclareToken 1 1 0 0 None)
      ∷ Speak (DeclareToken 1 2 1 0 None)
      ∷ Speak (DeclareToken 1 2 1 0 None)
      ∷ Speak (UndeclareToken 1 1 None 0)
      ∷ [];
  entries =
      Ok []
      ∷ Ok []
      ∷ Ok (sent 1 1 (message.DeclareFinal 1) ∷ [])
      ∷ Ok (sent 1 1 (message.DeclareToken 4294967294 0 None 0) ∷ [])
      ∷ Err refusal.IdsSpent
      ∷ Err refusal.IdsSpent
      ∷ Err refusal.IdsSpent
      ∷ [];
  totals = Some (record { lines = 7; messages = 2; refusals = 3 });
}

-- later-tokens-not-told: 0 is k
abbrev pub later_tokens_not_told : Script
later_tokens_not_told = record {
  matches = [];
  lines =
      Gateway Client (zid 1) [] None None 10000 []
      ∷ Session 1 1
      ∷ Speak (Interest 1 1 Future (options 8) None)
      ∷ Speak (DeclareToken 1 1 0 0 None)
      ∷ [];
  entries =
      Ok []
      ∷ Ok []
      ∷ Ok []
      ∷ Ok []
      ∷ [];
  totals = Some (record { lines = 4; messages = 0; refusals = 0 });
}

-- never-ended-upstream: 0 is k
abbrev pub never_ended_upstream : Script
never_ended_upstream = record {
  matches = [];
  lines =
      Gateway Client (zid 1) [] None None 10000 []
      ∷ FaceLine 1 Router (zid 9) North bound.South 1
      ∷ Session 1 1
      ∷ Speak (Interest 2 1 Future (options 8) (Some 0))
      ∷ Speak (InterestFinal 2 1)
      ∷ [];
  entries =
      Ok []
      ∷ Ok []
      ∷ Ok []
      ∷ Ok (sent 1 1 (message.Interest 1 Future (options 8) (Some 0)) ∷ [])
      ∷ Ok []
      ∷ [];
  totals = Some (record { lines = 5; messages = 1; refusals = 0 });
}

-- never-recorded: 0 is k
abbrev pub never_recorded : Script
never_recorded = record {
  matches = [];
  lines =
      Gateway Client (zid 1) [] None None 10000 []
      ∷ Session 1 1
      ∷ Speak (DeclareToken 1 1 0 0 None)
      ∷ Speak (Interest 1 1 Current (options 8) None)
      ∷ [];
  entries =
      Ok []
      ∷ Ok []
      ∷ Ok []
      ∷ Ok (sent 1 1 (message.DeclareFinal 1) ∷ [])
      ∷ [];
  totals = Some (record { lines = 4; messages = 1; refusals = 0 });
}

-- never-undeclared: 0 is k
abbrev pub never_undeclared : Script
never_undeclared = record {
  matches = [];
  lines =
      Gateway Client (zid 1) [] None None 10000 []
      ∷ Session 1 1
      ∷ Speak (Interest 1 1 CurrentFuture (options 8) None)
      ∷ Speak (DeclareToken 1 1 0 0 None)
      ∷ Speak (UndeclareToken 1 1 None 0)
      ∷ [];
  entries =
      Ok []
      ∷ Ok []
      ∷ Ok (sent 1 1 (message.DeclareFinal 1) ∷ [])
      ∷ Ok (sent 1 1 (message.DeclareToken 1 0 None 0) ∷ [])
      ∷ Ok []
      ∷ [];
  totals = Some (record { lines = 5; messages = 2; refusals = 0 });
}

-- no-initial-final
abbrev pub no_initial_final : Script
no_initial_final = record {
  matches = [];
  lines =
      Gateway Peer (zid 1) [] None None 10000 []
      ∷ FaceLine 1 Peer (zid 2) North bound.North 1
      ∷ [];
  entries =
      Ok []
      ∷ Ok []
      ∷ [];
  totals = Some (record { lines = 2; messages = 0; refusals = 0 });
}

-- nobody-is-told: 0 is k
abbrev pub nobody_is_told : Script
nobody_is_told = record {
  matches = [];
  lines =
      Gateway Client (zid 1) [] None None 10000 []
      ∷ Session 1 1
      ∷ Speak (Interest 1 1 CurrentFuture (options 8) None)
      ∷ Speak (DeclareToken 1 1 0 0 None)
      ∷ [];
  entries =
      Ok []
      ∷ Ok []
      ∷ Ok (sent 1 1 (message.DeclareFinal 1) ∷ [])
      ∷ Ok []
      ∷ [];
  totals = Some (record { lines = 4; messages = 1; refusals = 0 });
}

-- node-of-another-router: 0 is k
abbrev pub node_of_another_router : Script
node_of_another_router = record {
  matches = [];
  lines =
      Gateway Router (zid 1) [] None None 10000 []
      ∷ FaceLine 1 Router (zid 2) North bound.North 1
      ∷ SetTreesAt 1 North (record { routers = ((0, zid 1) ∷ (1, zid 2) ∷ (5, zid 3) ∷ []); links = ((1, 1, zid 2) ∷ []); children = ((zid 1, zid 2) ∷ []) })
      ∷ Session 1 1
      ∷ Speak (DeclareToken 2 1 0 0 None)
      ∷ [];
  entries =
      Ok []
      ∷ Ok []
      ∷ Ok []
      ∷ Ok []
      ∷ Ok (sent 1 1 (message.DeclareToken 0 0 None 5) ∷ [])
      ∷ [];
  totals = Some (record { lines = 5; messages = 1; refusals = 0 });
}

-- node-outside-router-regions: 0 is k
abbrev pub node_outside_router_regions : Script
node_outside_router_regions = record {
  matches = [];
  lines =
      Gateway Client (zid 1) [] None None 10000 []
      ∷ Session 1 1
      ∷ Session 1 1
      ∷ Speak (Interest 1 1 Future (options 8) None)
      ∷ Speak (DeclareToken 2 1 0 0 None)
      ∷ [];
  entries =
      Ok []
      ∷ Ok []
      ∷ Ok []
      ∷ Ok []
      ∷ Ok (sent 1 1 (message.DeclareToken 1 0 None 3) ∷ [])
      ∷ [];
  totals = Some (record { lines = 5; messages = 1; refusals = 0 });
}

-- opened-without-interests
abbrev pub opened_without_interests : Script
opened_without_interests = record {
  matches = [];
  lines =
      Gateway Client (zid 1) [] None None 10000 []
      ∷ Session 1 1
      ∷ Speak (Interest 1 1 CurrentFuture (options 8) None)
      ∷ FaceLine 1 Router (zid 9) North bound.South 1
      ∷ [];
  entries =
      Ok []
      ∷ Ok []
      ∷ Ok (sent 1 1 (message.DeclareFinal 1) ∷ [])
      ∷ Ok []
      ∷ [];
  totals = Some (record { lines = 4; messages = 1; refusals = 0 });
}
