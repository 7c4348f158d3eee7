-- Scripts that lack a premise of a promise over trees, and three that lack none, as the definitions speak of them.
-- Written by tools/premises_to_antt.py; change the scripts or the tool, and not this file.
use Rattle.std.specs.Prelude.{true, false, [], ◌∷◌, Some, None, Ok, Err}
use Rattle.zt_region.specs.declared.region.Bound.TheVariants as bound
use Rattle.zt_region.specs.declared.region.Region.TheVariants.{North, Local, South}
use Rattle.zt_region.specs.declared.region.WhatAmI.TheVariants.{Router, Peer, Client}
use Rattle.zt_protocol.specs.Plain.{DeclareToken, UndeclareToken, Interest, InterestFinal, DeclareFinal, CloseFace, Gateway, Session, Face as FaceLine, Link as LinkLine, Unlink, Step, Speak, Moment, SetTreesAt}
use Rattle.zt_protocol.specs.declared.errors.Refusal.TheVariants as refusal
use Rattle.zt_protocol.specs.declared.interests.InterestMode.TheVariants.{Current, CurrentFuture}
use Rattle.zt_protocol.specs.declared.messages.Message.TheVariants as message
use Rattle.zt_model_test.specs.Script.{Script, options, sent, zid}

-- answer-without-an-id: 0 is k
abbrev pub answer_without_an_id : Script
answer_without_an_id = record {
  matches = [];
  lines =
      Gateway Router (zid 1) (South 0 Client ∷ []) None None 10000 []
      ∷ Gateway Client (zid 2) [] None None 10000 []
      ∷ LinkLine 2 1 1 1
      ∷ Session 1 1
      ∷ Session 2 4294967295
      ∷ Speak (DeclareToken 3 1 0 0 None)
      ∷ Speak (Interest 4 1 CurrentFuture (options 8) (Some 0))
      ∷ Step 1 false
      ∷ Step 1 true
      ∷ Step 1 true
      ∷ [];
  entries =
      Ok []
      ∷ Ok []
      ∷ Ok []
      ∷ Ok []
      ∷ Ok []
      ∷ Ok []
      ∷ Ok (sent 2 1 (message.Interest 1 CurrentFuture (options 8) (Some 0)) ∷ [])
      ∷ Ok (sent 1 2 (message.DeclareToken 1 0 (Some 1) 0) ∷ sent 1 2 (message.DeclareFinal 1) ∷ [])
      ∷ Err refusal.IdsSpent
      ∷ Ok (sent 2 4 (message.DeclareFinal 1) ∷ [])
      ∷ [];
  totals = Some (record { lines = 10; messages = 4; refusals = 1 });
}

-- answered-from-above: 0 is k
abbrev pub answered_from_above : Script
answered_from_above = record {
  matches = [];
  lines =
      Gateway Client (zid 1) [] None None 10000 []
      ∷ FaceLine 1 Router (zid 9) North bound.South 1
      ∷ Session 1 1
      ∷ Speak (Interest 2 1 Current (options 8) (Some 0))
      ∷ Speak (DeclareToken 1 0 0 0 (Some 1))
      ∷ Speak (DeclareFinal 1 1)
      ∷ [];
  entries =
      Ok []
      ∷ Ok []
      ∷ Ok []
      ∷ Ok (sent 1 1 (message.Interest 1 Current (options 8) (Some 0)) ∷ [])
      ∷ Ok (sent 1 2 (message.DeclareToken 0 0 (Some 1) 0) ∷ [])
      ∷ Ok (sent 1 2 (message.DeclareFinal 1) ∷ [])
      ∷ [];
  totals = Some (record { lines = 6; messages = 3; refusals = 0 });
}

-- ended-before-the-final: 0 is k
abbrev pub ended_before_the_final : Script
ended_before_the_final = record {
  matches = [];
  lines =
      Gateway Router (zid 1) (South 0 Client ∷ []) None None 10000 []
      ∷ Gateway Client (zid 2) [] None None 10000 []
      ∷ LinkLine 2 1 1 1
      ∷ Session 1 1
      ∷ Session 2 1
      ∷ Speak (DeclareToken 3 1 0 0 None)
      ∷ Speak (Interest 4 1 CurrentFuture (options 8) (Some 0))
      ∷ Speak (InterestFinal 4 1)
      ∷ [];
  entries =
      Ok []
      ∷ Ok []
      ∷ Ok []
      ∷ Ok []
      ∷ Ok []
      ∷ Ok []
      ∷ Ok (sent 2 1 (message.Interest 1 CurrentFuture (options 8) (Some 0)) ∷ [])
      ∷ Ok (sent 2 1 (message.InterestFinal 1) ∷ sent 2 4 (message.DeclareFinal 1) ∷ [])
      ∷ [];
  totals = Some (record { lines = 8; messages = 3; refusals = 0 });
}

-- gone-and-still-told: 0 is k
abbrev pub gone_and_still_told : Script
gone_and_still_told = record {
  matches = [];
  lines =
      Gateway Router (zid 1) (South 0 Client ∷ []) None None 10000 []
      ∷ Gateway Client (zid 2) [] None None 10000 []
      ∷ LinkLine 2 1 1 1
      ∷ Session 2 1
      ∷ Session 1 1
      ∷ Speak (DeclareToken 3 1 0 0 None)
      ∷ Step 1 false
      ∷ Speak (UndeclareToken 3 1 None 0)
      ∷ Speak (Interest 4 1 Current (options 8) (Some 0))
      ∷ [];
  entries =
      Ok []
      ∷ Ok []
      ∷ Ok []
      ∷ Ok []
      ∷ Ok []
      ∷ Ok (sent 2 1 (message.DeclareToken 1 0 None 0) ∷ [])
      ∷ Ok []
      ∷ Ok (sent 2 1 (message.UndeclareToken 1 None 0) ∷ [])
      ∷ Ok (sent 1 4 (message.DeclareToken 0 0 (Some 1) 0) ∷ sent 1 4 (message.DeclareFinal 1) ∷ [])
      ∷ [];
  totals = Some (record { lines = 9; messages = 4; refusals = 0 });
}

-- known-only-after-the-step: 0 is k
abbrev pub known_only_after_the_step : Script
known_only_after_the_step = record {
  matches = [];
  lines =
      Gateway Router (zid 1) (South 0 Client ∷ []) None None 10000 []
      ∷ Gateway Client (zid 2) [] None None 10000 []
      ∷ LinkLine 2 1 1 1
      ∷ Session 2 1
      ∷ Session 1 1
      ∷ Speak (Interest 4 1 CurrentFuture (options 8) (Some 0))
      ∷ Speak (DeclareToken 3 1 0 0 None)
      ∷ [];
  entries =
      Ok []
      ∷ Ok []
      ∷ Ok []
      ∷ Ok []
      ∷ Ok []
      ∷ Ok (sent 1 4 (message.DeclareFinal 1) ∷ [])
      ∷ Ok (sent 2 1 (message.DeclareToken 1 0 None 0) ∷ [])
      ∷ [];
  totals = Some (record { lines = 7; messages = 2; refusals = 0 });
}

-- linked-after-the-asking: 0 is k
abbrev pub linked_after_the_asking : Script
linked_after_the_asking = record {
  matches = [];
  lines =
      Gateway Router (zid 1) (South 0 Client ∷ []) None None 10000 []
      ∷ Gateway Client (zid 2) [] None None 10000 []
      ∷ Gateway Client (zid 3) [] None None 10000 []
      ∷ LinkLine 2 1 1 1
      ∷ Session 2 1
      ∷ Session 3 1
      ∷ Speak (DeclareToken 4 1 0 0 None)
      ∷ Speak (Interest 3 1 Current (options 8) (Some 0))
      ∷ Step 1 false
      ∷ LinkLine 3 1 1 1
      ∷ Step 1 true
      ∷ [];
  entries =
      Ok []
      ∷ Ok []
      ∷ Ok []
      ∷ Ok []
      ∷ Ok []
      ∷ Ok []
      ∷ Ok []
      ∷ Ok (sent 2 1 (message.Interest 1 Current (options 8) (Some 0)) ∷ [])
      ∷ Ok (sent 1 2 (message.DeclareFinal 1) ∷ [])
      ∷ Ok (sent 3 5 (message.DeclareToken 1 0 None 0) ∷ [])
      ∷ Ok (sent 2 3 (message.DeclareFinal 1) ∷ [])
      ∷ [];
  totals = Some (record { lines = 11; messages = 4; refusals = 0 });
}

-- moment-before-the-final: 0 is k
abbrev pub moment_before_the_final : Script
moment_before_the_final = record {
  matches = [];
  lines =
      Gateway Router (zid 1) (South 0 Client ∷ []) None None 10000 []
      ∷ Gateway Client (zid 2) [] None None 10 []
      ∷ LinkLine 2 1 1 1
      ∷ Session 1 1
      ∷ Session 2 1
      ∷ Speak (DeclareToken 3 1 0 0 None)
      ∷ Speak (Interest 4 1 Current (options 8) (Some 0))
      ∷ Moment 2 10
      ∷ [];
  entries =
      Ok []
      ∷ Ok []
      ∷ Ok []
      ∷ Ok []
      ∷ Ok []
      ∷ Ok []
      ∷ Ok (sent 2 1 (message.Interest 1 Current (options 8) (Some 0)) ∷ [])
      ∷ Ok (sent 2 4 (message.DeclareFinal 1) ∷ [])
      ∷ [];
  totals = Some (record { lines = 8; messages = 2; refusals = 0 });
}

-- pair-refused: 0 is k
abbrev pub pair_refused : Script
pair_refused = record {
  matches = [];
  lines =
      Gateway Router (zid 1) (South 0 Client ∷ []) None None 10000 []
      ∷ Gateway Client (zid 2) [] None None 10000 ((Local, North) ∷ [])
      ∷ LinkLine 2 1 1 1
      ∷ Session 2 1
      ∷ Session 1 1
      ∷ Speak (DeclareToken 3 1 0 0 None)
      ∷ Speak (Interest 4 1 Current (options 8) (Some 0))
      ∷ [];
  entries =
      Ok []
      ∷ Ok []
      ∷ Ok []
      ∷ Ok []
      ∷ Ok []
      ∷ Ok []
      ∷ Ok (sent 1 4 (message.DeclareFinal 1) ∷ [])
      ∷ [];
  totals = Some (record { lines = 7; messages = 1; refusals = 0 });
}

-- peer-alone: 0 is k
abbrev pub peer_alone : Script
peer_alone = record {
  matches = [];
  lines =
      Gateway Router (zid 1) (South 0 Peer ∷ []) None None 10000 []
      ∷ FaceLine 1 Peer (zid 2) (South 0 Peer) bound.North 1
      ∷ Speak (DeclareToken 1 1 0 0 None)
      ∷ Speak (Interest 1 1 CurrentFuture (options 8) None)
      ∷ [];
  entries =
      Ok []
      ∷ Ok []
      ∷ Ok []
      ∷ Ok (sent 1 1 (message.DeclareFinal 1) ∷ [])
      ∷ [];
  totals = Some (record { lines = 4; messages = 1; refusals = 0 });
}

-- region-of-peers: 0 is k
abbrev pub region_of_peers : Script
region_of_peers = record {
  matches = [];
  lines =
      Gateway Router (zid 1) (South 0 Peer ∷ []) None None 10000 []
      ∷ FaceLine 1 Peer (zid 2) (South 0 Peer) bound.North 1
      ∷ FaceLine 1 Peer (zid 3) (South 0 Peer) bound.North 1
      ∷ Speak (Interest 2 1 CurrentFuture (options 8) (Some 0))
      ∷ Speak (DeclareToken 1 1 0 0 None)
      ∷ [];
  entries =
      Ok []
      ∷ Ok []
      ∷ Ok []
      ∷ Ok (sent 1 2 (message.DeclareFinal 1) ∷ [])
      ∷ Ok []
      ∷ [];
  totals = Some (record { lines = 5; messages = 1; refusals = 0 });
}

-- router-gone-rows-stay: 0 is k
abbrev pub router_gone_rows_stay : Script
router_gone_rows_stay = record {
  matches = [];
  lines =
      Gateway Router (zid 1) [] None None 10000 []
      ∷ FaceLine 1 Router (zid 10) North bound.North 1
      ∷ SetTreesAt 1 North (record { routers = ((0, zid 1) ∷ (1, zid 10) ∷ []); links = ((1, 1, zid 10) ∷ []); children = [] })
      ∷ Speak (DeclareToken 1 0 0 1 None)
      ∷ Speak (CloseFace 1)
      ∷ Session 1 1
      ∷ Speak (Interest 2 1 CurrentFuture (options 8) (Some 0))
      ∷ [];
  entries =
      Ok []
      ∷ Ok []
      ∷ Ok []
      ∷ Ok []
      ∷ Ok []
      ∷ Ok []
      ∷ Ok (sent 1 2 (message.DeclareToken 1 0 (Some 1) 0) ∷ sent 1 2 (message.DeclareFinal 1) ∷ [])
      ∷ [];
  totals = Some (record { lines = 7; messages = 2; refusals = 0 });
}

-- routers-without-tables: 0 is k
abbrev pub routers_without_tables : Script
routers_without_tables = record {
  matches = [];
  lines =
      Gateway Router (zid 1) [] None None 10000 []
      ∷ Gateway Router (zid 2) [] None None 10000 []
      ∷ LinkLine 1 2 1 1
      ∷ Session 1 1
      ∷ Session 2 1
      ∷ Speak (DeclareToken 3 1 0 0 None)
      ∷ Speak (Interest 4 1 CurrentFuture (options 8) (Some 0))
      ∷ [];
  entries =
      Ok []
      ∷ Ok []
      ∷ Ok []
      ∷ Ok []
      ∷ Ok []
      ∷ Ok []
      ∷ Ok (sent 2 4 (message.DeclareFinal 1) ∷ [])
      ∷ [];
  totals = Some (record { lines = 7; messages = 1; refusals = 0 });
}

-- token-still-on-its-way: 0 is k
abbrev pub token_still_on_its_way : Script
token_still_on_its_way = record {
  matches = [];
  lines =
      Gateway Router (zid 1) (South 0 Client ∷ []) None None 10000 []
      ∷ Gateway Client (zid 2) [] None None 10000 []
      ∷ LinkLine 2 1 1 1
      ∷ Session 2 1
      ∷ Session 1 1
      ∷ Speak (DeclareToken 3 1 0 0 None)
      ∷ Speak (Interest 4 1 Current (options 8) (Some 0))
      ∷ [];
  entries =
      Ok []
      ∷ Ok []
      ∷ Ok []
      ∷ Ok []
      ∷ Ok []
      ∷ Ok (sent 2 1 (message.DeclareToken 1 0 None 0) ∷ [])
      ∷ Ok (sent 1 4 (message.DeclareFinal 1) ∷ [])
      ∷ [];
  totals = Some (record { lines = 7; messages = 2; refusals = 0 });
}

-- token-that-moves: 0 is k
abbrev pub token_that_moves : Script
token_that_moves = record {
  matches = [];
  lines =
      Gateway Router (zid 1) (South 0 Client ∷ []) None None 10000 []
      ∷ Gateway Client (zid 2) [] None None 10000 []
      ∷ LinkLine 2 1 1 1
      ∷ Session 1 1
      ∷ Session 2 1
      ∷ Session 2 1
      ∷ Speak (DeclareToken 3 1 0 0 None)
      ∷ Speak (Interest 4 1 Current (options 8) (Some 0))
      ∷ Speak (DeclareToken 5 1 0 0 None)
      ∷ Speak (UndeclareToken 3 1 None 0)
      ∷ Step 1 false
      ∷ Step 1 true
      ∷ [];
  entries =
      Ok []
      ∷ Ok []
      ∷ Ok []
      ∷ Ok []
      ∷ Ok []
      ∷ Ok []
      ∷ Ok []
      ∷ Ok (sent 2 1 (message.Interest 1 Current (options 8) (Some 0)) ∷ [])
      ∷ Ok (sent 2 1 (message.DeclareToken 2 0 None 0) ∷ [])
      ∷ Ok []
      ∷ Ok (sent 1 2 (message.DeclareFinal 1) ∷ [])
      ∷ Ok (sent 2 4 (message.DeclareFinal 1) ∷ [])
      ∷ [];
  totals = Some (record { lines = 12; messages = 4; refusals = 0 });
}

-- token-without-an-id: 0 is k
abbrev pub token_without_an_id : Script
token_without_an_id = record {
  matches = [];
  lines =
      Gateway Router (zid 1) (South 0 Client ∷ []) None None 10000 []
      ∷ Gateway Client (zid 2) [] None None 10000 []
      ∷ LinkLine 2 1 1 1
      ∷ Session 1 1
      ∷ Session 2 4294967295
      ∷ Speak (Interest 4 1 CurrentFuture (options 8) (Some 0))
      ∷ Step 1 false
      ∷ Step 1 true
      ∷ Speak (DeclareToken 3 1 0 0 None)
      ∷ Step 1 true
      ∷ [];
  entries =
      Ok []
      ∷ Ok []
      ∷ Ok []
      ∷ Ok []
      ∷ Ok []
      ∷ Ok (sent 2 1 (message.Interest 1 CurrentFuture (options 8) (Some 0)) ∷ [])
      ∷ Ok (sent 1 2 (message.DeclareFinal 1) ∷ [])
      ∷ Ok (sent 2 4 (message.DeclareFinal 1) ∷ [])
      ∷ Ok (sent 1 2 (message.DeclareToken 1 0 None 0) ∷ [])
      ∷ Err refusal.IdsSpent
      ∷ [];
  totals = Some (record { lines = 10; messages = 4; refusals = 1 });
}

-- unlinked-before-the-final: 0 is k
abbrev pub unlinked_before_the_final : Script
unlinked_before_the_final = record {
  matches = [];
  lines =
      Gateway Router (zid 1) (South 0 Client ∷ []) None None 10000 []
      ∷ Gateway Client (zid 2) [] None None 10000 []
      ∷ LinkLine 2 1 1 1
      ∷ Session 1 1
      ∷ Session 2 1
      ∷ Speak (DeclareToken 3 1 0 0 None)
      ∷ Speak (Interest 4 1 Current (options 8) (Some 0))
      ∷ Unlink 1
      ∷ [];
  entries =
      Ok []
      ∷ Ok []
      ∷ Ok []
      ∷ Ok []
      ∷ Ok []
      ∷ Ok []
      ∷ Ok (sent 2 1 (message.Interest 1 Current (options 8) (Some 0)) ∷ [])
      ∷ Ok (sent 2 4 (message.DeclareFinal 1) ∷ [])
      ∷ [];
  totals = Some (record { lines = 8; messages = 2; refusals = 0 });
}

-- asks-in-a-tree: 0 is k
abbrev pub asks_in_a_tree : Script
asks_in_a_tree = record {
  matches = [];
  lines =
      Gateway Router (zid 1) (South 0 Client ∷ []) None None 10000 []
      ∷ Gateway Client (zid 2) (South 0 Client ∷ []) (Some (Some (record { zids = (Some (zid 4 ∷ [])); interfaces = None; modes = None; region_names = None; negated = false } ∷ []) ∷ [])) None 10000 []
      ∷ Gateway Client (zid 3) [] None None 10000 []
      ∷ Gateway Client (zid 4) [] None None 10000 []
      ∷ LinkLine 2 1 1 1
      ∷ LinkLine 3 1 1 1
      ∷ LinkLine 4 2 1 1
      ∷ Session 4 1
      ∷ Session 3 1
      ∷ Speak (DeclareToken 8 1 0 0 None)
      ∷ Step 2 false
      ∷ Speak (Interest 7 1 Current (options 8) (Some 0))
      ∷ Step 3 false
      ∷ Step 1 false
      ∷ Step 1 true
      ∷ Step 1 true
      ∷ Step 3 true
      ∷ Step 3 true
      ∷ [];
  entries =
      Ok []
      ∷ Ok []
      ∷ Ok []
      ∷ Ok []
      ∷ Ok []
      ∷ Ok []
      ∷ Ok []
      ∷ Ok []
      ∷ Ok []
      ∷ Ok (sent 3 3 (message.DeclareToken 1 0 None 0) ∷ [])
      ∷ Ok []
      ∷ Ok (sent 4 5 (message.Interest 1 Current (options 8) (Some 0)) ∷ [])
      ∷ Ok (sent 2 1 (message.Interest 1 Current (options 8) (Some 0)) ∷ [])
      ∷ Ok (sent 1 2 (message.DeclareToken 0 0 (Some 1) 0) ∷ sent 1 2 (message.DeclareFinal 1) ∷ [])
      ∷ Ok (sent 2 6 (message.DeclareToken 0 0 (Some 1) 0) ∷ [])
      ∷ Ok (sent 2 6 (message.DeclareFinal 1) ∷ [])
      ∷ Ok (sent 4 7 (message.DeclareToken 0 0 (Some 1) 0) ∷ [])
      ∷ Ok (sent 4 7 (message.DeclareFinal 1) ∷ [])
      ∷ [];
  totals = Some (record { lines = 18; messages = 9; refusals = 0 });
}

-- tree-echo: 0 is k
abbrev pub tree_echo : Script
tree_echo = record {
  matches = [];
  lines =
      Gateway Router (zid 1) (South 0 Client ∷ []) None None 10000 []
      ∷ Gateway Client (zid 2) (South 0 Client ∷ []) (Some (Some (record { zids = (Some (zid 4 ∷ [])); interfaces = None; modes = None; region_names = None; negated = false } ∷ []) ∷ [])) None 10000 []
      ∷ Gateway Client (zid 3) [] None None 10000 []
      ∷ Gateway Client (zid 4) [] None None 10000 []
      ∷ LinkLine 2 1 1 1
      ∷ LinkLine 3 1 1 1
      ∷ LinkLine 4 2 1 1
      ∷ Session 4 1
      ∷ Session 3 1
      ∷ Speak (Interest 7 1 CurrentFuture (options 8) (Some 0))
      ∷ Step 3 false
      ∷ Step 1 false
      ∷ Step 1 true
      ∷ Step 3 true
      ∷ Speak (DeclareToken 8 1 0 0 None)
      ∷ Step 2 false
      ∷ Step 1 true
      ∷ Step 3 true
      ∷ Speak (DeclareToken 7 1 0 0 None)
      ∷ Step 3 false
      ∷ Step 1 false
      ∷ Speak (UndeclareToken 8 1 None 0)
      ∷ Step 2 false
      ∷ Speak (UndeclareToken 7 1 None 0)
      ∷ Step 3 false
      ∷ Step 1 false
      ∷ Step 1 true
      ∷ Step 3 true
      ∷ [];
  entries =
      Ok []
      ∷ Ok []
      ∷ Ok []
      ∷ Ok []
      ∷ Ok []
      ∷ Ok []
      ∷ Ok []
      ∷ Ok []
      ∷ Ok []
      ∷ Ok (sent 4 5 (message.Interest 1 CurrentFuture (options 8) (Some 0)) ∷ [])
      ∷ Ok (sent 2 1 (message.Interest 1 CurrentFuture (options 8) (Some 0)) ∷ [])
      ∷ Ok (sent 1 2 (message.DeclareFinal 1) ∷ [])
      ∷ Ok (sent 2 6 (message.DeclareFinal 1) ∷ [])
      ∷ Ok (sent 4 7 (message.DeclareFinal 1) ∷ [])
      ∷ Ok (sent 3 3 (message.DeclareToken 1 0 None 0) ∷ [])
      ∷ Ok (sent 1 2 (message.DeclareToken 1 0 None 0) ∷ [])
      ∷ Ok (sent 2 6 (message.DeclareToken 1 0 None 0) ∷ [])
      ∷ Ok (sent 4 7 (message.DeclareToken 1 0 None 0) ∷ [])
      ∷ Ok (sent 4 5 (message.DeclareToken 2 0 None 0) ∷ [])
      ∷ Ok (sent 2 1 (message.DeclareToken 2 0 None 0) ∷ [])
      ∷ Ok []
      ∷ Ok (sent 3 3 (message.UndeclareToken 1 None 0) ∷ [])
      ∷ Ok []
      ∷ Ok (sent 4 5 (message.UndeclareToken 2 None 0) ∷ [])
      ∷ Ok (sent 2 1 (message.UndeclareToken 2 None 0) ∷ [])
      ∷ Ok (sent 1 2 (message.UndeclareToken 1 None 0) ∷ [])
      ∷ Ok (sent 2 6 (message.UndeclareToken 1 None 0) ∷ [])
      ∷ Ok (sent 4 7 (message.UndeclareToken 1 None 0) ∷ [])
      ∷ [];
  totals = Some (record { lines = 28; messages = 17; refusals = 0 });
}

-- root-with-other-regions: 0 is k
abbrev pub root_with_other_regions : Script
root_with_other_regions = record {
  matches = [];
  lines =
      Gateway Router (zid 1) (South 0 Client ∷ South 1 Peer ∷ []) None None 10000 ((South 1 Peer, Local) ∷ (Local, North) ∷ [])
      ∷ Gateway Client (zid 2) [] None None 10000 []
      ∷ LinkLine 2 1 1 1
      ∷ Session 1 1
      ∷ Session 2 1
      ∷ Speak (DeclareToken 3 1 0 0 None)
      ∷ Speak (Interest 4 1 Current (options 8) (Some 0))
      ∷ Step 1 false
      ∷ Step 1 true
      ∷ Step 1 true
      ∷ [];
  entries =
      Ok []
      ∷ Ok []
      ∷ Ok []
      ∷ Ok []
      ∷ Ok []
      ∷ Ok []
      ∷ Ok (sent 2 1 (message.Interest 1 Current (options 8) (Some 0)) ∷ [])
      ∷ Ok (sent 1 2 (message.DeclareToken 0 0 (Some 1) 0) ∷ sent 1 2 (message.DeclareFinal 1) ∷ [])
      ∷ Ok (sent 2 4 (message.DeclareToken 0 0 (Some 1) 0) ∷ [])
      ∷ Ok (sent 2 4 (message.DeclareFinal 1) ∷ [])
      ∷ [];
  totals = Some (record { lines = 10; messages = 5; refusals = 0 });
}
