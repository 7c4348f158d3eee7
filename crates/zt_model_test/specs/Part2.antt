-- Scripts and their transcripts, as the definitions speak of them.
-- Written by tools/scripts_to_antt.py; change the scripts or the tool, and not this file.
use Rattle.std.specs.Prelude.{false, [], ◌∷◌, Some, None, Ok, Err}
use Rattle.zt_region.specs.declared.region.Bound.TheVariants as bound
use Rattle.zt_region.specs.declared.region.Region.TheVariants.{North, South}
use Rattle.zt_region.specs.declared.region.WhatAmI.TheVariants.{Router, Peer, Client}
use Rattle.zt_protocol.specs.Plain.{DeclareToken, UndeclareToken, Interest, InterestFinal, DeclareFinal, CloseFace, Gateway, Session, Face as FaceLine, Link as LinkLine, Step, Speak, Moment, SetTreesAt}
use Rattle.zt_protocol.specs.declared.errors.Refusal.TheVariants as refusal
use Rattle.zt_protocol.specs.declared.interests.InterestMode.TheVariants.{Current, Future, CurrentFuture}
use Rattle.zt_protocol.specs.declared.messages.Message.TheVariants as message
use Rattle.zt_model_test.specs.Script.{Script, options, sent, zid}

-- expiry-at-the-timeout
abbrev pub expiry_at_the_timeout : Script
expiry_at_the_timeout = record {
  matches = [];
  lines =
      Gateway Client (zid 1) [] None None 10 []
      ∷ FaceLine 1 Router (zid 9) North bound.South 1
      ∷ Session 1 1
      ∷ Moment 1 5
      ∷ Speak (Interest 2 1 Current (options 8) None)
      ∷ Speak (Interest 2 2 CurrentFuture (options 8) None)
      ∷ Moment 1 14
      ∷ Moment 1 15
      ∷ Speak (DeclareFinal 1 1)
      ∷ Speak (DeclareFinal 1 2)
      ∷ Moment 1 14
      ∷ [];
  entries =
      Ok []
      ∷ Ok []
      ∷ Ok []
      ∷ Ok []
      ∷ Ok (sent 1 1 (message.Interest 1 Current (options 8) None) ∷ [])
      ∷ Ok (sent 1 1 (message.Interest 2 CurrentFuture (options 8) None) ∷ [])
      ∷ Ok []
      ∷ Ok (sent 1 2 (message.DeclareFinal 1) ∷ sent 1 2 (message.DeclareFinal 2) ∷ [])
      ∷ Err refusal.UnknownAsk
      ∷ Ok []
      ∷ Err refusal.MomentBack
      ∷ [];
  totals = Some (record { lines = 11; messages = 4; refusals = 2 });
}

-- finalised-interest-forgotten: 0 is k/*, 1 is k/a, 2 is k/b
abbrev pub finalised_interest_forgotten : Script
finalised_interest_forgotten = record {
  matches = (0, 1) ∷ (0, 2) ∷ (1, 0) ∷ (2, 0) ∷ [];
  lines =
      Gateway Client (zid 1) [] None None 10000 []
      ∷ Session 1 1
      ∷ Session 1 1
      ∷ Speak (Interest 1 1 CurrentFuture (options 8) (Some 0))
      ∷ Speak (Interest 1 2 Future (options 8) (Some 1))
      ∷ Speak (DeclareToken 2 1 1 0 None)
      ∷ Speak (DeclareToken 2 2 2 0 None)
      ∷ Speak (InterestFinal 1 1)
      ∷ Speak (InterestFinal 1 2)
      ∷ Speak (UndeclareToken 2 1 None 0)
      ∷ Speak (Interest 1 3 CurrentFuture (options 8) None)
      ∷ [];
  entries =
      Ok []
      ∷ Ok []
      ∷ Ok []
      ∷ Ok (sent 1 1 (message.DeclareFinal 1) ∷ [])
      ∷ Ok []
      ∷ Ok (sent 1 1 (message.DeclareToken 1 1 None 0) ∷ [])
      ∷ Ok (sent 1 1 (message.DeclareToken 2 2 None 0) ∷ [])
      ∷ Ok (sent 1 1 (message.UndeclareToken 2 None 0) ∷ [])
      ∷ Ok (sent 1 1 (message.UndeclareToken 1 None 0) ∷ [])
      ∷ Ok []
      ∷ Ok (sent 1 1 (message.DeclareToken 3 2 (Some 3) 0) ∷ sent 1 1 (message.DeclareFinal 3) ∷ [])
      ∷ [];
  totals = Some (record { lines = 11; messages = 7; refusals = 0 });
}

-- hostile-01: 0 is k
abbrev pub hostile_01 : Script
hostile_01 = record {
  matches = [];
  lines =
      Gateway Client (zid 1) [] None None 10000 []
      ∷ FaceLine 1 Router (zid 9) North bound.South 1
      ∷ Session 1 1
      ∷ Speak (DeclareToken 2 0 0 0 None)
      ∷ [];
  entries =
      Ok []
      ∷ Ok []
      ∷ Ok []
      ∷ Err refusal.TokenIdZero
      ∷ [];
  totals = Some (record { lines = 4; messages = 0; refusals = 1 });
}

-- hostile-02: 0 is k
abbrev pub hostile_02 : Script
hostile_02 = record {
  matches = [];
  lines =
      Gateway Client (zid 1) [] None None 10000 []
      ∷ FaceLine 1 Router (zid 9) North bound.South 1
      ∷ Session 1 1
      ∷ Speak (DeclareToken 2 1 0 0 None)
      ∷ Speak (DeclareToken 2 1 0 0 None)
      ∷ [];
  entries =
      Ok []
      ∷ Ok []
      ∷ Ok []
      ∷ Ok (sent 1 1 (message.DeclareToken 1 0 None 0) ∷ [])
      ∷ Ok []
      ∷ [];
  totals = Some (record { lines = 5; messages = 1; refusals = 0 });
}

-- hostile-03: 0 is k
abbrev pub hostile_03 : Script
hostile_03 = record {
  matches = [];
  lines =
      Gateway Client (zid 1) [] None None 10000 []
      ∷ FaceLine 1 Router (zid 9) North bound.South 1
      ∷ Session 1 1
      ∷ Speak (DeclareToken 2 1 0 0 (Some 1))
      ∷ [];
  entries =
      Ok []
      ∷ Ok []
      ∷ Ok []
      ∷ Err refusal.AnswerFromSouth
      ∷ [];
  totals = Some (record { lines = 4; messages = 0; refusals = 1 });
}

-- hostile-04
abbrev pub hostile_04 : Script
hostile_04 = record {
  matches = [];
  lines =
      Gateway Client (zid 1) [] None None 10000 []
      ∷ FaceLine 1 Router (zid 9) North bound.South 1
      ∷ Session 1 1
      ∷ Speak (DeclareFinal 2 0)
      ∷ [];
  entries =
      Ok []
      ∷ Ok []
      ∷ Ok []
      ∷ Err refusal.FinalFromSouth
      ∷ [];
  totals = Some (record { lines = 4; messages = 0; refusals = 1 });
}

-- hostile-05
abbrev pub hostile_05 : Script
hostile_05 = record {
  matches = [];
  lines =
      Gateway Client (zid 1) [] None None 10000 []
      ∷ FaceLine 1 Router (zid 9) North bound.South 1
      ∷ Session 1 1
      ∷ Speak (DeclareFinal 1 0)
      ∷ [];
  entries =
      Ok []
      ∷ Ok []
      ∷ Ok []
      ∷ Err refusal.UnknownAsk
      ∷ [];
  totals = Some (record { lines = 4; messages = 0; refusals = 1 });
}

-- hostile-06: 0 is k
abbrev pub hostile_06 : Script
hostile_06 = record {
  matches = [];
  lines =
      Gateway Client (zid 1) [] None None 10000 []
      ∷ FaceLine 1 Router (zid 9) North bound.South 1
      ∷ Session 1 1
      ∷ Speak (Interest 2 1 Current (options 8) None)
      ∷ Speak (CloseFace 2)
      ∷ Speak (DeclareToken 1 0 0 0 (Some 1))
      ∷ Speak (DeclareFinal 1 1)
      ∷ Speak (DeclareFinal 1 1)
      ∷ [];
  entries =
      Ok []
      ∷ Ok []
      ∷ Ok []
      ∷ Ok (sent 1 1 (message.Interest 1 Current (options 8) None) ∷ [])
      ∷ Ok []
      ∷ Ok []
      ∷ Ok []
      ∷ Err refusal.UnknownAsk
      ∷ [];
  totals = Some (record { lines = 8; messages = 1; refusals = 1 });
}

-- hostile-07
abbrev pub hostile_07 : Script
hostile_07 = record {
  matches = [];
  lines =
      Gateway Client (zid 1) [] None None 10000 []
      ∷ FaceLine 1 Router (zid 9) North bound.South 1
      ∷ Session 1 1
      ∷ Speak (Interest 2 1 CurrentFuture (options 8) None)
      ∷ Speak (Interest 2 1 Current (options 8) None)
      ∷ Speak (DeclareFinal 1 1)
      ∷ Speak (Interest 2 1 Current (options 8) None)
      ∷ [];
  entries =
      Ok []
      ∷ Ok []
      ∷ Ok []
      ∷ Ok (sent 1 1 (message.Interest 1 CurrentFuture (options 8) None) ∷ [])
      ∷ Err refusal.InterestIdInUse
      ∷ Ok (sent 1 2 (message.DeclareFinal 1) ∷ [])
      ∷ Ok (sent 1 1 (message.Interest 2 Current (options 8) None) ∷ [])
      ∷ [];
  totals = Some (record { lines = 7; messages = 3; refusals = 1 });
}

-- hostile-08
abbrev pub hostile_08 : Script
hostile_08 = record {
  matches = [];
  lines =
      Gateway Client (zid 1) [] None None 10000 []
      ∷ FaceLine 1 Router (zid 9) North bound.South 1
      ∷ Session 1 1
      ∷ Speak (InterestFinal 2 1)
      ∷ [];
  entries =
      Ok []
      ∷ Ok []
      ∷ Ok []
      ∷ Err refusal.UnknownInterest
      ∷ [];
  totals = Some (record { lines = 4; messages = 0; refusals = 1 });
}

-- hostile-09: 0 is k
abbrev pub hostile_09 : Script
hostile_09 = record {
  matches = [];
  lines =
      Gateway Client (zid 1) [] None None 10000 []
      ∷ FaceLine 1 Router (zid 9) North bound.South 1
      ∷ Session 1 1
      ∷ Speak (UndeclareToken 1 5 (Some 0) 0)
      ∷ [];
  entries =
      Ok []
      ∷ Ok []
      ∷ Ok []
      ∷ Ok []
      ∷ [];
  totals = Some (record { lines = 4; messages = 0; refusals = 0 });
}

-- hostile-10
abbrev pub hostile_10 : Script
hostile_10 = record {
  matches = [];
  lines =
      Gateway Client (zid 1) [] None None 10000 []
      ∷ FaceLine 1 Router (zid 9) North bound.South 1
      ∷ Session 1 1
      ∷ Speak (CloseFace 1)
      ∷ Speak (Interest 2 1 Current (options 8) None)
      ∷ [];
  entries =
      Ok []
      ∷ Ok []
      ∷ Ok []
      ∷ Ok []
      ∷ Ok (sent 1 2 (message.DeclareFinal 1) ∷ [])
      ∷ [];
  totals = Some (record { lines = 5; messages = 1; refusals = 0 });
}

-- hostile-11
abbrev pub hostile_11 : Script
hostile_11 = record {
  matches = [];
  lines =
      Gateway Client (zid 1) [] None None 10000 []
      ∷ FaceLine 1 Router (zid 9) North bound.South 1
      ∷ Session 1 1
      ∷ Moment 1 18446744073709551615
      ∷ Moment 1 18446744073709551615
      ∷ Moment 1 0
      ∷ [];
  entries =
      Ok []
      ∷ Ok []
      ∷ Ok []
      ∷ Ok []
      ∷ Ok []
      ∷ Err refusal.MomentBack
      ∷ [];
  totals = Some (record { lines = 6; messages = 0; refusals = 1 });
}

-- hostile-12
abbrev pub hostile_12 : Script
hostile_12 = record {
  matches = [];
  lines =
      Gateway Client (zid 1) [] None None 10000 []
      ∷ FaceLine 1 Router (zid 9) North bound.South 1
      ∷ Session 1 1
      ∷ Speak (Interest 2 1 Current (options 8) None)
      ∷ Moment 1 9999
      ∷ Moment 1 10000
      ∷ [];
  entries =
      Ok []
      ∷ Ok []
      ∷ Ok []
      ∷ Ok (sent 1 1 (message.Interest 1 Current (options 8) None) ∷ [])
      ∷ Ok []
      ∷ Ok (sent 1 2 (message.DeclareFinal 1) ∷ [])
      ∷ [];
  totals = Some (record { lines = 6; messages = 2; refusals = 0 });
}

-- interests-at-opening-and-closing: 0 is k
abbrev pub interests_at_opening_and_closing : Script
interests_at_opening_and_closing = record {
  matches = [];
  lines =
      Gateway Peer (zid 1) [] None None 10000 []
      ∷ Session 1 1
      ∷ Session 1 1
      ∷ Speak (Interest 1 1 CurrentFuture (options 8) (Some 0))
      ∷ Speak (Interest 2 1 Future (options 8) (Some 0))
      ∷ FaceLine 1 Peer (zid 2) North bound.North 1
      ∷ FaceLine 1 Router (zid 3) North bound.South 1
      ∷ Speak (CloseFace 1)
      ∷ Speak (Interest 2 2 CurrentFuture (options 2) None)
      ∷ Speak (CloseFace 2)
      ∷ [];
  entries =
      Ok []
      ∷ Ok []
      ∷ Ok []
      ∷ Ok (sent 1 1 (message.DeclareFinal 1) ∷ [])
      ∷ Ok []
      ∷ Ok (sent 1 3 (message.DeclareFinal 0) ∷ [])
      ∷ Ok (sent 1 4 (message.Interest 1 CurrentFuture (options 8) (Some 0)) ∷ [])
      ∷ Ok []
      ∷ Ok (sent 1 4 (message.Interest 2 CurrentFuture (options 2) None) ∷ [])
      ∷ Ok (sent 1 4 (message.InterestFinal 1) ∷ sent 1 4 (message.InterestFinal 2) ∷ [])
      ∷ [];
  totals = Some (record { lines = 10; messages = 6; refusals = 0 });
}

-- interests-sent-at-opening-client-client
abbrev pub interests_sent_at_opening_client_client : Script
interests_sent_at_opening_client_client = record {
  matches = [];
  lines =
      Gateway Client (zid 1) (South 0 Client ∷ []) None None 10000 []
      ∷ FaceLine 1 Client (zid 2) (South 0 Client) bound.North 1
      ∷ Speak (Interest 1 42 CurrentFuture (options 4) None)
      ∷ FaceLine 1 Router (zid 9) North bound.South 1
      ∷ [];
  entries =
      Ok []
      ∷ Ok []
      ∷ Ok (sent 1 1 (message.DeclareFinal 42) ∷ [])
      ∷ Ok (sent 1 2 (message.Interest 1 CurrentFuture (options 4) None) ∷ [])
      ∷ [];
  totals = Some (record { lines = 4; messages = 2; refusals = 0 });
}

-- interests-sent-at-opening-client-peer
abbrev pub interests_sent_at_opening_client_peer : Script
interests_sent_at_opening_client_peer = record {
  matches = [];
  lines =
      Gateway Client (zid 1) (South 0 Peer ∷ []) None None 10000 []
      ∷ FaceLine 1 Peer (zid 2) (South 0 Peer) bound.North 1
      ∷ Speak (Interest 1 42 CurrentFuture (options 4) None)
      ∷ FaceLine 1 Router (zid 9) North bound.South 1
      ∷ [];
  entries =
      Ok []
      ∷ Ok []
      ∷ Ok (sent 1 1 (message.DeclareFinal 42) ∷ [])
      ∷ Ok (sent 1 2 (message.Interest 1 CurrentFuture (options 4) None) ∷ [])
      ∷ [];
  totals = Some (record { lines = 4; messages = 2; refusals = 0 });
}

-- interests-sent-at-opening-peer-client
abbrev pub interests_sent_at_opening_peer_client : Script
interests_sent_at_opening_peer_client = record {
  matches = [];
  lines =
      Gateway Peer (zid 1) (South 0 Client ∷ []) None None 10000 []
      ∷ FaceLine 1 Client (zid 2) (South 0 Client) bound.North 1
      ∷ Speak (Interest 1 42 CurrentFuture (options 4) None)
      ∷ FaceLine 1 Router (zid 9) North bound.South 1
      ∷ [];
  entries =
      Ok []
      ∷ Ok []
      ∷ Ok (sent 1 1 (message.DeclareFinal 42) ∷ [])
      ∷ Ok (sent 1 2 (message.Interest 1 CurrentFuture (options 4) None) ∷ [])
      ∷ [];
  totals = Some (record { lines = 4; messages = 2; refusals = 0 });
}

-- interests-sent-at-opening-peer-peer
abbrev pub interests_sent_at_opening_peer_peer : Script
interests_sent_at_opening_peer_peer = record {
  matches = [];
  lines =
      Gateway Peer (zid 1) (South 0 Peer ∷ []) None None 10000 []
      ∷ FaceLine 1 Peer (zid 2) (South 0 Peer) bound.North 1
      ∷ Speak (Interest 1 42 CurrentFuture (options 4) None)
      ∷ FaceLine 1 Router (zid 9) North bound.South 1
      ∷ [];
  entries =
      Ok []
      ∷ Ok []
      ∷ Ok (sent 1 1 (message.DeclareFinal 42) ∷ [])
      ∷ Ok (sent 1 2 (message.Interest 1 CurrentFuture (options 4) None) ∷ [])
      ∷ [];
  totals = Some (record { lines = 4; messages = 2; refusals = 0 });
}

-- last-id: 0 is a, 1 is b
abbrev pub last_id : Script
last_id = record {
  matches = [];
  lines =
      Gateway Client (zid 1) [] None None 10000 []
      ∷ Session 1 4294967294
      ∷ Speak (Interest 1 1 CurrentFuture (options 8) None)
      ∷ Speak (DeclareToken 1 1 0 0 None)
      ∷ Speak (DeclareToken 1 2 1 0 None)
      ∷ Speak (UndeclareToken 1 1 None 0)
      ∷ Speak (DeclareToken 1 2 1 0 None)
      ∷ [];
  entries =
      Ok []
      ∷ Ok []
      ∷ Ok (sent 1 1 (message.DeclareFinal 1) ∷ [])
      ∷ Ok (sent 1 1 (message.DeclareToken 4294967294 0 None 0) ∷ [])
      ∷ Err refusal.IdsSpent
      ∷ Ok (sent 1 1 (message.UndeclareToken 4294967294 None 0) ∷ [])
      ∷ Err refusal.IdsSpent
      ∷ [];
  totals = Some (record { lines = 7; messages = 3; refusals = 2 });
}

-- loops-and-links: 0 is k
abbrev pub loops_and_links : Script
loops_and_links = record {
  matches = [];
  lines =
      Gateway Client (zid 1) (South 0 Client ∷ []) (Some (Some (record { zids = (Some (zid 2 ∷ [])); interfaces = None; modes = None; region_names = None; negated = false } ∷ []) ∷ [])) None 10000 []
      ∷ Gateway Client (zid 2) (South 0 Client ∷ []) (Some (Some (record { zids = (Some (zid 3 ∷ [])); interfaces = None; modes = None; region_names = None; negated = false } ∷ []) ∷ [])) None 10000 []
      ∷ Gateway Client (zid 3) (South 0 Client ∷ []) (Some (Some (record { zids = (Some (zid 1 ∷ [])); interfaces = None; modes = None; region_names = None; negated = false } ∷ []) ∷ [])) None 10000 []
      ∷ LinkLine 2 1 1 1
      ∷ LinkLine 3 2 1 1
      ∷ LinkLine 1 3 1 1
      ∷ FaceLine 2 Router (zid 9) North bound.South 1
      ∷ Step 1 false
      ∷ Step 9 false
      ∷ Speak (DeclareToken 1 1 0 0 None)
      ∷ LinkLine 1 2 1 1
      ∷ Gateway Client (zid 4) [] None None 10000 []
      ∷ LinkLine 4 4 1 1
      ∷ FaceLine 4 Client (zid 5) (South 0 Client) bound.North 1
      ∷ [];
  entries =
      Ok []
      ∷ Ok []
      ∷ Ok []
      ∷ Ok []
      ∷ Ok []
      ∷ Err refusal.WouldLoop
      ∷ Err refusal.NorthTaken
      ∷ Err refusal.EmptyLink
      ∷ Err refusal.UnknownLink
      ∷ Err refusal.LinkedFace
      ∷ Err refusal.NorthTaken
      ∷ Ok []
      ∷ Err refusal.RegionConflict
      ∷ Err refusal.NoSuchRegion
      ∷ [];
  totals = Some (record { lines = 14; messages = 0; refusals = 8 });
}

-- no-echo-to-source: 0 is k
abbrev pub no_echo_to_source : Script
no_echo_to_source = record {
  matches = [];
  lines =
      Gateway Router (zid 1) (South 0 Router ∷ []) (Some (Some (record { zids = (Some (zid 2 ∷ [])); interfaces = None; modes = None; region_names = None; negated = false } ∷ []) ∷ [])) None 10000 []
      ∷ Gateway Router (zid 2) [] None None 10000 []
      ∷ LinkLine 2 1 1 1
      ∷ SetTreesAt 2 North (record { routers = ((0, zid 2) ∷ (1, zid 1) ∷ []); links = ((1, 0, zid 1) ∷ (1, 1, zid 2) ∷ []); children = ((zid 2, zid 1) ∷ []) })
      ∷ SetTreesAt 1 (South 0 Router) (record { routers = ((0, zid 1) ∷ (1, zid 2) ∷ []); links = ((2, 0, zid 2) ∷ (2, 1, zid 1) ∷ []); children = ((zid 1, zid 2) ∷ []) })
      ∷ Session 2 1
      ∷ Speak (DeclareToken 3 1 0 0 None)
      ∷ Step 1 false
      ∷ [];
  entries =
      Ok []
      ∷ Ok []
      ∷ Ok []
      ∷ Ok []
      ∷ Ok []
      ∷ Ok []
      ∷ Ok (sent 2 1 (message.DeclareToken 0 0 None 0) ∷ [])
      ∷ Ok []
      ∷ [];
  totals = Some (record { lines = 8; messages = 1; refusals = 0 });
}

-- north-face-closes: 0 is k
abbrev pub north_face_closes : Script
north_face_closes = record {
  matches = [];
  lines =
      Gateway Client (zid 1) [] None None 10000 []
      ∷ FaceLine 1 Router (zid 9) North bound.South 1
      ∷ Session 1 1
      ∷ Speak (DeclareToken 1 3 0 0 None)
      ∷ Speak (Interest 2 1 CurrentFuture (options 8) None)
      ∷ Speak (CloseFace 1)
      ∷ Speak (Interest 2 1 CurrentFuture (options 8) None)
      ∷ Speak (InterestFinal 2 1)
      ∷ Speak (InterestFinal 2 1)
      ∷ [];
  entries =
      Ok []
      ∷ Ok []
      ∷ Ok []
      ∷ Ok []
      ∷ Ok (sent 1 1 (message.Interest 1 CurrentFuture (options 8) None) ∷ sent 1 2 (message.DeclareToken 1 0 (Some 1) 0) ∷ [])
      ∷ Ok (sent 1 2 (message.UndeclareToken 1 None 0) ∷ sent 1 2 (message.DeclareFinal 1) ∷ [])
      ∷ Err refusal.InterestIdInUse
      ∷ Ok []
      ∷ Err refusal.UnknownInterest
      ∷ [];
  totals = Some (record { lines = 9; messages = 4; refusals = 2 });
}

-- one-declarer-leaves: 0 is k
abbrev pub one_declarer_leaves : Script
one_declarer_leaves = record {
  matches = [];
  lines =
      Gateway Client (zid 1) [] None None 10000 []
      ∷ Session 1 1
      ∷ Speak (Interest 1 1 CurrentFuture (options 8) (Some 0))
      ∷ FaceLine 1 Router (zid 9) North bound.South 1
      ∷ Speak (DeclareToken 1 1 0 0 None)
      ∷ Speak (DeclareToken 2 7 0 0 None)
      ∷ Speak (UndeclareToken 2 7 None 0)
      ∷ Speak (UndeclareToken 1 1 None 0)
      ∷ [];
  entries =
      Ok []
      ∷ Ok []
      ∷ Ok (sent 1 1 (message.DeclareFinal 1) ∷ [])
      ∷ Ok (sent 1 2 (message.Interest 1 CurrentFuture (options 8) (Some 0)) ∷ [])
      ∷ Ok (sent 1 1 (message.DeclareToken 1 0 None 0) ∷ sent 1 2 (message.DeclareToken 2 0 None 0) ∷ [])
      ∷ Ok []
      ∷ Ok []
      ∷ Ok (sent 1 1 (message.UndeclareToken 1 None 0) ∷ sent 1 2 (message.UndeclareToken 2 None 0) ∷ [])
      ∷ [];
  totals = Some (record { lines = 8; messages = 6; refusals = 0 });
}

-- own-token-shown: 0 is k
abbrev pub own_token_shown : Script
own_token_shown = record {
  matches = [];
  lines =
      Gateway Client (zid 1) [] None None 10000 []
      ∷ Session 1 1
      ∷ Speak (Interest 1 1 CurrentFuture (options 8) (Some 0))
      ∷ Speak (DeclareToken 1 1 0 0 None)
      ∷ [];
  entries =
      Ok []
      ∷ Ok []
      ∷ Ok (sent 1 1 (message.DeclareFinal 1) ∷ [])
      ∷ Ok (sent 1 1 (message.DeclareToken 1 0 None 0) ∷ [])
      ∷ [];
  totals = Some (record { lines = 4; messages = 2; refusals = 0 });
}

-- peer-asks: 0 is k
abbrev pub peer_asks : Script
peer_asks = record {
  matches = [];
  lines =
      Gateway Peer (zid 1) [] None None 10000 []
      ∷ FaceLine 1 Peer (zid 2) North bound.North 1
      ∷ FaceLine 1 Router (zid 3) North bound.South 1
      ∷ FaceLine 1 Router (zid 4) North bound.South 1
      ∷ Session 1 1
      ∷ Speak (Interest 4 1 Current (options 8) None)
      ∷ Speak (DeclareFinal 1 0)
      ∷ Speak (DeclareToken 2 0 0 0 (Some 1))
      ∷ Speak (DeclareToken 1 0 0 0 (Some 1))
      ∷ Speak (DeclareFinal 2 1)
      ∷ Speak (DeclareFinal 1 1)
      ∷ Speak (Interest 4 2 CurrentFuture (options 8) None)
      ∷ Speak (InterestFinal 4 2)
      ∷ [];
  entries =
      Ok []
      ∷ Ok (sent 1 1 (message.DeclareFinal 0) ∷ [])
      ∷ Ok []
      ∷ Ok []
      ∷ Ok []
      ∷ Ok (sent 1 1 (message.Interest 1 Current (options 8) None) ∷ sent 1 2 (message.Interest 1 Current (options 8) None) ∷ [])
      ∷ Ok []
      ∷ Ok (sent 1 4 (message.DeclareToken 0 0 (Some 1) 0) ∷ [])
      ∷ Ok []
      ∷ Ok []
      ∷ Ok (sent 1 4 (message.DeclareFinal 1) ∷ [])
      ∷ Ok (sent 1 2 (message.Interest 2 CurrentFuture (options 8) None) ∷ sent 1 3 (message.Interest 1 CurrentFuture (options 8) None) ∷ [])
      ∷ Ok (sent 1 2 (message.InterestFinal 2) ∷ sent 1 3 (message.InterestFinal 1) ∷ sent 1 4 (message.DeclareFinal 2) ∷ [])
      ∷ [];
  totals = Some (record { lines = 13; messages = 10; refusals = 0 });
}
