-- Scripts and their transcripts, as the definitions speak of them.
-- Written by tools/scripts_to_antt.py; change the scripts or the tool, and not this file.
use Rattle.std.specs.Prelude.{true, false, [], ◌∷◌, Some, None, Ok, Err}
use Rattle.zt_region.specs.declared.region.Bound.TheVariants as bound
use Rattle.zt_region.specs.declared.region.Region.TheVariants.{North, Local, South}
use Rattle.zt_region.specs.declared.region.WhatAmI.TheVariants.{Router, Peer, Client}
use Rattle.zt_protocol.specs.Plain.{DeclareToken, UndeclareToken, Interest, DeclareFinal, CloseFace, Gateway, Session, Face as FaceLine, Link as LinkLine, Unlink, Step, Speak, SetTreesAt}
use Rattle.zt_protocol.specs.declared.errors.Refusal.TheVariants as refusal
use Rattle.zt_protocol.specs.declared.interests.InterestMode.TheVariants.{Current, Future, CurrentFuture}
use Rattle.zt_protocol.specs.declared.messages.Message.TheVariants as message
use Rattle.zt_model_test.specs.Script.{Script, options, sent, zid}

-- peer-linked-to-itself
abbrev pub peer_linked_to_itself : Script
peer_linked_to_itself = record {
  matches = [];
  lines =
      Gateway Peer (zid 1) [] None None 10000 []
      ∷ LinkLine 1 1 1 1
      ∷ Step 1 false
      ∷ Step 1 false
      ∷ [];
  entries =
      Ok []
      ∷ Ok (sent 1 1 (message.DeclareFinal 0) ∷ sent 1 2 (message.DeclareFinal 0) ∷ [])
      ∷ Ok []
      ∷ Err refusal.EmptyLink
      ∷ [];
  totals = Some (record { lines = 4; messages = 2; refusals = 1 });
}

-- peers-finalised
abbrev pub peers_finalised : Script
peers_finalised = record {
  matches = [];
  lines =
      Gateway Peer (zid 1) [] None None 10000 []
      ∷ FaceLine 1 Peer (zid 2) North bound.North 1
      ∷ FaceLine 1 Peer (zid 3) North bound.North 1
      ∷ Speak (DeclareFinal 1 0)
      ∷ Speak (DeclareFinal 2 0)
      ∷ Speak (Interest 1 42 Current (options 8) None)
      ∷ [];
  entries =
      Ok []
      ∷ Ok (sent 1 1 (message.DeclareFinal 0) ∷ [])
      ∷ Ok (sent 1 2 (message.DeclareFinal 0) ∷ [])
      ∷ Ok []
      ∷ Ok []
      ∷ Ok (sent 1 1 (message.DeclareFinal 42) ∷ [])
      ∷ [];
  totals = Some (record { lines = 6; messages = 3; refusals = 0 });
}

-- peers-not-finalised
abbrev pub peers_not_finalised : Script
peers_not_finalised = record {
  matches = [];
  lines =
      Gateway Peer (zid 1) [] None None 10000 []
      ∷ FaceLine 1 Peer (zid 2) North bound.North 1
      ∷ FaceLine 1 Peer (zid 3) North bound.North 1
      ∷ Speak (Interest 1 42 Current (options 8) None)
      ∷ [];
  entries =
      Ok []
      ∷ Ok (sent 1 1 (message.DeclareFinal 0) ∷ [])
      ∷ Ok (sent 1 2 (message.DeclareFinal 0) ∷ [])
      ∷ Ok (sent 1 1 (message.DeclareFinal 42) ∷ [])
      ∷ [];
  totals = Some (record { lines = 4; messages = 3; refusals = 0 });
}

-- router-disconnect: 0 is k
abbrev pub router_disconnect : Script
router_disconnect = record {
  matches = [];
  lines =
      Gateway Router (zid 1) [] None None 10000 []
      ∷ Gateway Router (zid 2) [] None None 10000 []
      ∷ LinkLine 1 2 1 1
      ∷ SetTreesAt 1 North (record { routers = ((0, zid 1) ∷ (1, zid 2) ∷ []); links = ((1, 0, zid 2) ∷ (1, 1, zid 1) ∷ []); children = ((zid 1, zid 2) ∷ []) })
      ∷ SetTreesAt 2 North (record { routers = ((0, zid 2) ∷ (1, zid 1) ∷ []); links = ((2, 0, zid 1) ∷ (2, 1, zid 2) ∷ []); children = ((zid 2, zid 1) ∷ []) })
      ∷ Session 1 1
      ∷ Session 2 1
      ∷ Speak (Interest 4 1 Future (options 8) (Some 0))
      ∷ Speak (DeclareToken 3 1 0 0 None)
      ∷ Step 1 false
      ∷ Unlink 1
      ∷ SetTreesAt 2 North (record { routers = ((0, zid 2) ∷ []); links = []; children = [] })
      ∷ [];
  entries =
      Ok []
      ∷ Ok []
      ∷ Ok []
      ∷ Ok []
      ∷ Ok []
      ∷ Ok []
      ∷ Ok []
      ∷ Ok []
      ∷ Ok (sent 1 1 (message.DeclareToken 0 0 None 0) ∷ [])
      ∷ Ok (sent 2 4 (message.DeclareToken 1 0 None 0) ∷ [])
      ∷ Ok []
      ∷ Ok (sent 2 4 (message.UndeclareToken 1 None 0) ∷ [])
      ∷ [];
  totals = Some (record { lines = 12; messages = 3; refusals = 0 });
}

-- sessions-alone: 0 is j, 1 is k
abbrev pub sessions_alone : Script
sessions_alone = record {
  matches = [];
  lines =
      Gateway Client (zid 1) [] None None 10000 []
      ∷ Session 1 1
      ∷ Session 1 1
      ∷ Speak (Interest 1 1 CurrentFuture (options 8) (Some 1))
      ∷ Speak (DeclareToken 1 1 1 0 None)
      ∷ Speak (DeclareToken 2 1 1 0 None)
      ∷ Speak (UndeclareToken 2 1 None 0)
      ∷ Speak (UndeclareToken 1 1 None 0)
      ∷ Speak (DeclareToken 1 1 1 0 None)
      ∷ Speak (DeclareToken 2 1 0 0 None)
      ∷ Speak (DeclareToken 1 1 0 0 None)
      ∷ Speak (UndeclareToken 1 7 None 0)
      ∷ Speak (DeclareToken 9 1 1 0 None)
      ∷ Speak (Interest 1 1 CurrentFuture (options 8) None)
      ∷ [];
  entries =
      Ok []
      ∷ Ok []
      ∷ Ok []
      ∷ Ok (sent 1 1 (message.DeclareFinal 1) ∷ [])
      ∷ Ok (sent 1 1 (message.DeclareToken 1 1 None 0) ∷ [])
      ∷ Ok []
      ∷ Ok []
      ∷ Ok (sent 1 1 (message.UndeclareToken 1 None 0) ∷ [])
      ∷ Ok (sent 1 1 (message.DeclareToken 2 1 None 0) ∷ [])
      ∷ Ok []
      ∷ Err refusal.TokenIdInUse
      ∷ Err refusal.UnknownToken
      ∷ Err refusal.UnknownFace
      ∷ Err refusal.InterestIdInUse
      ∷ [];
  totals = Some (record { lines = 14; messages = 4; refusals = 4 });
}

-- tables-and-their-trees: 0 is k, 1 is l, 2 is m, 3 is n, 4 is o, 5 is p
abbrev pub tables_and_their_trees : Script
tables_and_their_trees = record {
  matches = [];
  lines =
      Gateway Router (zid 1) [] None None 10000 []
      ∷ FaceLine 1 Router (zid 10) North bound.North 1
      ∷ FaceLine 1 Router (zid 10) North bound.North 1
      ∷ FaceLine 1 Router (zid 11) North bound.North 1
      ∷ Session 1 1
      ∷ Session 1 1
      ∷ SetTreesAt 1 North (record { routers = ((0, zid 1) ∷ (1, zid 10) ∷ (2, zid 11) ∷ (2, zid 12) ∷ (3, zid 10) ∷ []); links = ((1, 1, zid 10) ∷ (1, 3, zid 10) ∷ (1, 2, zid 11) ∷ (3, 1, zid 11) ∷ (3, 1, zid 10) ∷ []); children = ((zid 1, zid 10) ∷ (zid 11, zid 10) ∷ (zid 10, zid 11) ∷ []) })
      ∷ Speak (DeclareToken 4 1 0 0 None)
      ∷ Speak (DeclareToken 5 1 0 0 None)
      ∷ Speak (UndeclareToken 4 1 None 0)
      ∷ Speak (DeclareToken 1 0 1 1 None)
      ∷ Speak (DeclareToken 1 0 2 2 None)
      ∷ Speak (DeclareToken 1 0 3 3 None)
      ∷ Speak (DeclareToken 3 0 4 1 None)
      ∷ SetTreesAt 1 North (record { routers = ((0, zid 1) ∷ (1, zid 10) ∷ (2, zid 11) ∷ []); links = ((1, 1, zid 10) ∷ (1, 2, zid 11) ∷ (3, 1, zid 11) ∷ []); children = ((zid 1, zid 10) ∷ (zid 1, zid 11) ∷ (zid 10, zid 11) ∷ (zid 11, zid 10) ∷ []) })
      ∷ Speak (UndeclareToken 5 1 None 0)
      ∷ Speak (DeclareToken 4 2 5 0 None)
      ∷ FaceLine 1 Router (zid 13) North bound.North 1
      ∷ [];
  entries =
      Ok []
      ∷ Ok []
      ∷ Ok []
      ∷ Ok []
      ∷ Ok []
      ∷ Ok []
      ∷ Ok []
      ∷ Ok (sent 1 1 (message.DeclareToken 0 0 None 0) ∷ [])
      ∷ Ok []
      ∷ Ok []
      ∷ Ok (sent 1 3 (message.DeclareToken 0 1 None 1) ∷ [])
      ∷ Ok []
      ∷ Err refusal.UnknownRouter
      ∷ Ok (sent 1 1 (message.DeclareToken 0 4 None 2) ∷ [])
      ∷ Ok (sent 1 3 (message.DeclareToken 0 0 None 0) ∷ [])
      ∷ Ok (sent 1 1 (message.UndeclareToken 0 (Some 0) 0) ∷ sent 1 3 (message.UndeclareToken 0 (Some 0) 0) ∷ [])
      ∷ Ok (sent 1 1 (message.DeclareToken 0 5 None 0) ∷ sent 1 3 (message.DeclareToken 0 5 None 0) ∷ [])
      ∷ Ok []
      ∷ [];
  totals = Some (record { lines = 18; messages = 8; refusals = 1 });
}

-- three-routers: 0 is k
abbrev pub three_routers : Script
three_routers = record {
  matches = [];
  lines =
      Gateway Router (zid 1) [] None None 10000 []
      ∷ Gateway Router (zid 2) [] None None 10000 []
      ∷ Gateway Router (zid 3) [] None None 10000 []
      ∷ LinkLine 1 2 1 1
      ∷ LinkLine 2 3 1 1
      ∷ SetTreesAt 1 North (record { routers = ((0, zid 1) ∷ (1, zid 2) ∷ (2, zid 3) ∷ []); links = ((1, 0, zid 2) ∷ (1, 1, zid 1) ∷ (1, 2, zid 3) ∷ []); children = ((zid 1, zid 2) ∷ []) })
      ∷ SetTreesAt 2 North (record { routers = ((0, zid 2) ∷ (1, zid 1) ∷ (2, zid 3) ∷ []); links = ((2, 0, zid 1) ∷ (2, 1, zid 2) ∷ (2, 2, zid 3) ∷ (3, 0, zid 3) ∷ (3, 1, zid 2) ∷ (3, 2, zid 1) ∷ []); children = ((zid 2, zid 1) ∷ (zid 2, zid 3) ∷ (zid 1, zid 3) ∷ (zid 3, zid 1) ∷ []) })
      ∷ SetTreesAt 3 North (record { routers = ((0, zid 3) ∷ (1, zid 2) ∷ (2, zid 1) ∷ []); links = ((4, 0, zid 2) ∷ (4, 1, zid 1) ∷ (4, 2, zid 3) ∷ []); children = ((zid 3, zid 2) ∷ []) })
      ∷ Session 1 1
      ∷ Speak (DeclareToken 5 1 0 0 None)
      ∷ Step 1 false
      ∷ Step 2 false
      ∷ Speak (UndeclareToken 5 1 None 0)
      ∷ Step 1 false
      ∷ Step 2 false
      ∷ [];
  entries =
      Ok []
      ∷ Ok []
      ∷ Ok []
      ∷ Ok []
      ∷ Ok []
      ∷ Ok []
      ∷ Ok []
      ∷ Ok []
      ∷ Ok []
      ∷ Ok (sent 1 1 (message.DeclareToken 0 0 None 0) ∷ [])
      ∷ Ok (sent 2 3 (message.DeclareToken 0 0 None 1) ∷ [])
      ∷ Ok []
      ∷ Ok (sent 1 1 (message.UndeclareToken 0 (Some 0) 0) ∷ [])
      ∷ Ok (sent 2 3 (message.UndeclareToken 0 (Some 0) 1) ∷ [])
      ∷ Ok []
      ∷ [];
  totals = Some (record { lines = 15; messages = 4; refusals = 0 });
}

-- token-of-a-router-and-a-session: 0 is k
abbrev pub token_of_a_router_and_a_session : Script
token_of_a_router_and_a_session = record {
  matches = [];
  lines =
      Gateway Router (zid 1) [] None None 10000 []
      ∷ FaceLine 1 Router (zid 2) North bound.North 1
      ∷ SetTreesAt 1 North (record { routers = ((0, zid 1) ∷ (1, zid 2) ∷ []); links = ((1, 0, zid 2) ∷ (1, 1, zid 1) ∷ []); children = ((zid 1, zid 2) ∷ []) })
      ∷ Session 1 1
      ∷ Speak (DeclareToken 1 1 0 0 None)
      ∷ Speak (DeclareToken 2 1 0 0 None)
      ∷ Speak (UndeclareToken 2 1 None 0)
      ∷ [];
  entries =
      Ok []
      ∷ Ok []
      ∷ Ok []
      ∷ Ok []
      ∷ Ok []
      ∷ Ok (sent 1 1 (message.DeclareToken 0 0 None 0) ∷ [])
      ∷ Ok (sent 1 1 (message.UndeclareToken 0 (Some 0) 0) ∷ [])
      ∷ [];
  totals = Some (record { lines = 7; messages = 2; refusals = 0 });
}

-- tree-echo: 0 is k
abbrev pub tree_echo : Script
tree_echo = record {
  matches = [];
  lines =
      Gateway Router (zid 1) (South 0 Client ∷ []) None None 10000 []
      ∷ Gateway Client (zid 2) (South 0 Client ∷ []) (Some (Some (record { zids = (Some (zid 4 ∷ [])); interfaces = None; modes = None; region_names = None; negated = false } ∷ []) ∷ [])) None 10000 []
      ∷ Gateway Client (zid 3) [] None None 10000 []
      ∷ Gateway Client (zid 4) [] None None 10000 []
      ∷ LinkLine 2 1 1 1
      ∷ LinkLine 3 1 1 1
      ∷ LinkLine 4 2 1 1
      ∷ Session 4 1
      ∷ Session 3 1
      ∷ Speak (Interest 7 1 CurrentFuture (options 8) (Some 0))
      ∷ Step 3 false
      ∷ Step 1 false
      ∷ Step 1 true
      ∷ Step 3 true
      ∷ Speak (DeclareToken 8 1 0 0 None)
      ∷ Step 2 false
      ∷ Step 1 true
      ∷ Step 3 true
      ∷ Speak (DeclareToken 7 1 0 0 None)
      ∷ Step 3 false
      ∷ Step 1 false
      ∷ Speak (UndeclareToken 8 1 None 0)
      ∷ Step 2 false
      ∷ Speak (UndeclareToken 7 1 None 0)
      ∷ Step 3 false
      ∷ Step 1 false
      ∷ Step 1 true
      ∷ Step 3 true
      ∷ [];
  entries =
      Ok []
      ∷ Ok []
      ∷ Ok []
      ∷ Ok []
      ∷ Ok []
      ∷ Ok []
      ∷ Ok []
      ∷ Ok []
      ∷ Ok []
      ∷ Ok (sent 4 5 (message.Interest 1 CurrentFuture (options 8) (Some 0)) ∷ [])
      ∷ Ok (sent 2 1 (message.Interest 1 CurrentFuture (options 8) (Some 0)) ∷ [])
      ∷ Ok (sent 1 2 (message.DeclareFinal 1) ∷ [])
      ∷ Ok (sent 2 6 (message.DeclareFinal 1) ∷ [])
      ∷ Ok (sent 4 7 (message.DeclareFinal 1) ∷ [])
      ∷ Ok (sent 3 3 (message.DeclareToken 1 0 None 0) ∷ [])
      ∷ Ok (sent 1 2 (message.DeclareToken 1 0 None 0) ∷ [])
      ∷ Ok (sent 2 6 (message.DeclareToken 1 0 None 0) ∷ [])
      ∷ Ok (sent 4 7 (message.DeclareToken 1 0 None 0) ∷ [])
      ∷ Ok (sent 4 5 (message.DeclareToken 2 0 None 0) ∷ [])
      ∷ Ok (sent 2 1 (message.DeclareToken 2 0 None 0) ∷ [])
      ∷ Ok []
      ∷ Ok (sent 3 3 (message.UndeclareToken 1 None 0) ∷ [])
      ∷ Ok []
      ∷ Ok (sent 4 5 (message.UndeclareToken 2 None 0) ∷ [])
      ∷ Ok (sent 2 1 (message.UndeclareToken 2 None 0) ∷ [])
      ∷ Ok (sent 1 2 (message.UndeclareToken 1 None 0) ∷ [])
      ∷ Ok (sent 2 6 (message.UndeclareToken 1 None 0) ∷ [])
      ∷ Ok (sent 4 7 (message.UndeclareToken 1 None 0) ∷ [])
      ∷ [];
  totals = Some (record { lines = 28; messages = 17; refusals = 0 });
}

-- two-declarers-one-holder: 0 is group1/**, 1 is group1/zenoh-rs
abbrev pub two_declarers_one_holder : Script
two_declarers_one_holder = record {
  matches = (0, 1) ∷ (1, 0) ∷ [];
  lines =
      Gateway Client (zid 1) [] None None 10000 []
      ∷ Session 1 1
      ∷ Session 1 1
      ∷ Speak (Interest 1 1 CurrentFuture (options 8) (Some 0))
      ∷ Speak (DeclareToken 1 1 1 0 None)
      ∷ Speak (DeclareToken 2 1 1 0 None)
      ∷ Speak (UndeclareToken 2 1 None 0)
      ∷ Speak (UndeclareToken 1 1 None 0)
      ∷ [];
  entries =
      Ok []
      ∷ Ok []
      ∷ Ok []
      ∷ Ok (sent 1 1 (message.DeclareFinal 1) ∷ [])
      ∷ Ok (sent 1 1 (message.DeclareToken 1 1 None 0) ∷ [])
      ∷ Ok []
      ∷ Ok []
      ∷ Ok (sent 1 1 (message.UndeclareToken 1 None 0) ∷ [])
      ∷ [];
  totals = Some (record { lines = 8; messages = 3; refusals = 0 });
}

-- two-links-of-a-face: 0 is k, 1 is l, 2 is m
abbrev pub two_links_of_a_face : Script
two_links_of_a_face = record {
  matches = [];
  lines =
      Gateway Router (zid 1) [] None None 10000 []
      ∷ FaceLine 1 Router (zid 10) North bound.North 1
      ∷ FaceLine 1 Router (zid 11) North bound.North 1
      ∷ Session 1 1
      ∷ SetTreesAt 1 North (record { routers = ((0, zid 1) ∷ (1, zid 10) ∷ (2, zid 11) ∷ (3, zid 12) ∷ []); links = ((1, 1, zid 10) ∷ (1, 2, zid 12) ∷ (1, 3, zid 1) ∷ (2, 1, zid 11) ∷ (2, 2, zid 12) ∷ []); children = ((zid 1, zid 10) ∷ (zid 1, zid 11) ∷ (zid 10, zid 11) ∷ (zid 11, zid 10) ∷ (zid 12, zid 11) ∷ []) })
      ∷ Speak (Interest 3 1 CurrentFuture (options 8) None)
      ∷ Speak (DeclareToken 1 0 0 1 None)
      ∷ Speak (DeclareToken 1 0 0 2 None)
      ∷ Speak (DeclareToken 1 0 1 2 None)
      ∷ Speak (DeclareToken 1 0 1 3 None)
      ∷ Speak (DeclareToken 2 0 1 3 None)
      ∷ Speak (DeclareToken 2 0 2 1 None)
      ∷ Speak (UndeclareToken 1 0 (Some 0) 1)
      ∷ Speak (UndeclareToken 1 0 (Some 1) 2)
      ∷ Speak (UndeclareToken 1 0 (Some 0) 2)
      ∷ SetTreesAt 1 North (record { routers = ((0, zid 1) ∷ (1, zid 10) ∷ (2, zid 11) ∷ []); links = ((1, 1, zid 10) ∷ (1, 2, zid 11) ∷ (2, 1, zid 11) ∷ []); children = ((zid 1, zid 10) ∷ (zid 1, zid 11) ∷ (zid 11, zid 10) ∷ []) })
      ∷ Speak (DeclareToken 1 0 0 2 None)
      ∷ Speak (UndeclareToken 2 0 (Some 2) 1)
      ∷ [];
  entries =
      Ok []
      ∷ Ok []
      ∷ Ok []
      ∷ Ok []
      ∷ Ok []
      ∷ Ok (sent 1 3 (message.DeclareFinal 1) ∷ [])
      ∷ Ok (sent 1 2 (message.DeclareToken 0 0 None 1) ∷ sent 1 3 (message.DeclareToken 1 0 None 0) ∷ [])
      ∷ Ok (sent 1 2 (message.DeclareToken 0 0 None 3) ∷ [])
      ∷ Ok (sent 1 2 (message.DeclareToken 0 1 None 3) ∷ sent 1 3 (message.DeclareToken 2 1 None 0) ∷ [])
      ∷ Err refusal.UnknownRouter
      ∷ Err refusal.UnknownRouter
      ∷ Ok (sent 1 1 (message.DeclareToken 0 2 None 2) ∷ sent 1 3 (message.DeclareToken 3 2 None 0) ∷ [])
      ∷ Ok (sent 1 2 (message.UndeclareToken 0 (Some 0) 1) ∷ [])
      ∷ Ok (sent 1 2 (message.UndeclareToken 0 (Some 1) 3) ∷ sent 1 3 (message.UndeclareToken 2 None 0) ∷ [])
      ∷ Ok (sent 1 2 (message.UndeclareToken 0 (Some 0) 3) ∷ sent 1 3 (message.UndeclareToken 1 None 0) ∷ [])
      ∷ Ok []
      ∷ Ok (sent 1 3 (message.DeclareToken 4 0 None 0) ∷ [])
      ∷ Ok (sent 1 1 (message.UndeclareToken 0 (Some 2) 2) ∷ sent 1 3 (message.UndeclareToken 3 None 0) ∷ [])
      ∷ [];
  totals = Some (record { lines = 18; messages = 16; refusals = 2 });
}

-- undeclaring-the-untold: 0 is k
abbrev pub undeclaring_the_untold : Script
undeclaring_the_untold = record {
  matches = [];
  lines =
      Gateway Client (zid 1) (South 0 Peer ∷ []) None None 10000 []
      ∷ Session 1 1
      ∷ FaceLine 1 Peer (zid 2) (South 0 Peer) bound.North 1
      ∷ Speak (Interest 1 1 Future (options 8) (Some 0))
      ∷ Speak (Interest 2 1 Future (options 8) (Some 0))
      ∷ Speak (UndeclareToken 1 9 (Some 0) 0)
      ∷ Speak (UndeclareToken 1 9 None 0)
      ∷ Speak (UndeclareToken 2 9 (Some 0) 0)
      ∷ [];
  entries =
      Ok []
      ∷ Ok []
      ∷ Ok []
      ∷ Ok []
      ∷ Ok []
      ∷ Ok (sent 1 1 (message.UndeclareToken 0 (Some 0) 0) ∷ sent 1 2 (message.UndeclareToken 0 (Some 0) 0) ∷ [])
      ∷ Err refusal.UnknownToken
      ∷ Ok (sent 1 1 (message.UndeclareToken 0 (Some 0) 0) ∷ [])
      ∷ [];
  totals = Some (record { lines = 8; messages = 3; refusals = 1 });
}

-- what-matches-is-answered: 0 is k/*, 1 is k/a, 2 is k/b, 3 is z
abbrev pub what_matches_is_answered : Script
what_matches_is_answered = record {
  matches = (0, 1) ∷ (0, 2) ∷ (1, 0) ∷ (2, 0) ∷ [];
  lines =
      Gateway Client (zid 1) [] None None 10000 []
      ∷ FaceLine 1 Router (zid 9) North bound.South 1
      ∷ Session 1 1
      ∷ Session 1 1
      ∷ Speak (DeclareToken 2 1 1 0 None)
      ∷ Speak (DeclareToken 2 2 2 0 None)
      ∷ Speak (DeclareToken 2 3 3 0 None)
      ∷ Speak (Interest 3 1 Current (options 8) (Some 0))
      ∷ Speak (Interest 3 2 CurrentFuture (options 8) (Some 0))
      ∷ Speak (UndeclareToken 2 1 (Some 3) 0)
      ∷ Speak (Interest 3 3 Current (options 8) None)
      ∷ Speak (CloseFace 3)
      ∷ Speak (Interest 2 1 Future (options 8) (Some 0))
      ∷ Speak (CloseFace 2)
      ∷ [];
  entries =
      Ok []
      ∷ Ok []
      ∷ Ok []
      ∷ Ok []
      ∷ Ok (sent 1 1 (message.DeclareToken 1 1 None 0) ∷ [])
      ∷ Ok (sent 1 1 (message.DeclareToken 2 2 None 0) ∷ [])
      ∷ Ok (sent 1 1 (message.DeclareToken 3 3 None 0) ∷ [])
      ∷ Ok (sent 1 1 (message.Interest 4 Current (options 8) (Some 0)) ∷ sent 1 3 (message.DeclareToken 0 1 (Some 1) 0) ∷ sent 1 3 (message.DeclareToken 0 2 (Some 1) 0) ∷ [])
      ∷ Ok (sent 1 1 (message.Interest 5 CurrentFuture (options 8) (Some 0)) ∷ sent 1 3 (message.DeclareToken 1 1 (Some 2) 0) ∷ sent 1 3 (message.DeclareToken 2 2 (Some 2) 0) ∷ [])
      ∷ Ok (sent 1 1 (message.UndeclareToken 1 None 0) ∷ sent 1 3 (message.UndeclareToken 1 None 0) ∷ [])
      ∷ Ok (sent 1 1 (message.Interest 6 Current (options 8) None) ∷ sent 1 3 (message.DeclareToken 0 2 (Some 3) 0) ∷ sent 1 3 (message.DeclareToken 0 3 (Some 3) 0) ∷ [])
      ∷ Ok (sent 1 1 (message.InterestFinal 5) ∷ [])
      ∷ Ok (sent 1 1 (message.Interest 7 Future (options 8) (Some 0)) ∷ [])
      ∷ Ok (sent 1 1 (message.UndeclareToken 2 None 0) ∷ sent 1 1 (message.UndeclareToken 3 None 0) ∷ sent 1 1 (message.InterestFinal 7) ∷ [])
      ∷ [];
  totals = Some (record { lines = 14; messages = 19; refusals = 0 });
}

-- who-may-have-a-face
abbrev pub who_may_have_a_face : Script
who_may_have_a_face = record {
  matches = [];
  lines =
      Gateway Client (zid 1) (South 0 Client ∷ []) None None 10000 []
      ∷ FaceLine 1 Client (zid 9) (South 0 Client) bound.South 1
      ∷ FaceLine 1 Peer (zid 8) (South 0 Client) bound.North 1
      ∷ FaceLine 1 Client (zid 9) Local bound.North 1
      ∷ FaceLine 1 Client (zid 9) (South 0 Client) bound.North 1
      ∷ FaceLine 1 Router (zid 7) North bound.North 1
      ∷ FaceLine 1 Router (zid 7) North bound.South 1
      ∷ FaceLine 1 Router (zid 6) North bound.South 1
      ∷ Gateway Peer (zid 2) (South 0 Peer ∷ []) None None 10000 []
      ∷ FaceLine 2 Client (zid 5) North bound.North 1
      ∷ FaceLine 2 Client (zid 5) (South 0 Peer) bound.North 1
      ∷ FaceLine 2 Peer (zid 5) (South 0 Peer) bound.South 1
      ∷ FaceLine 2 Peer (zid 5) (South 0 Peer) bound.North 1
      ∷ FaceLine 2 Peer (zid 4) North bound.North 1
      ∷ Speak (Interest 4 1 Current (options 8) None)
      ∷ FaceLine 2 Client (zid 3) North bound.South 1
      ∷ Speak (Interest 5 1 Current (options 8) None)
      ∷ [];
  entries =
      Ok []
      ∷ Err refusal.RegionConflict
      ∷ Err refusal.RegionConflict
      ∷ Err refusal.RegionConflict
      ∷ Ok []
      ∷ Err refusal.RegionConflict
      ∷ Ok []
      ∷ Err refusal.NorthTaken
      ∷ Ok []
      ∷ Err refusal.RegionConflict
      ∷ Err refusal.RegionConflict
      ∷ Err refusal.RegionConflict
      ∷ Ok []
      ∷ Ok (sent 2 4 (message.DeclareFinal 0) ∷ [])
      ∷ Ok (sent 2 4 (message.DeclareFinal 1) ∷ [])
      ∷ Ok []
      ∷ Err refusal.InterestFromNorth
      ∷ [];
  totals = Some (record { lines = 17; messages = 2; refusals = 9 });
}

-- who-may-not-speak: 0 is k
abbrev pub who_may_not_speak : Script
who_may_not_speak = record {
  matches = [];
  lines =
      Gateway Client (zid 1) [] None None 10000 []
      ∷ FaceLine 1 Router (zid 9) North bound.South 1
      ∷ Speak (Interest 1 1 Current (options 8) None)
      ∷ Speak (CloseFace 1)
      ∷ FaceLine 1 Peer (zid 8) North bound.South 1
      ∷ Speak (Interest 2 1 Current (options 8) None)
      ∷ Gateway Router (zid 2) [] None None 10000 []
      ∷ FaceLine 2 Router (zid 7) North bound.North 1
      ∷ Speak (DeclareToken 3 0 0 4 None)
      ∷ Speak (DeclareToken 3 0 0 0 (Some 1))
      ∷ FaceLine 2 Peer (zid 6) North bound.North 1
      ∷ Gateway Client (zid 3) (South 0 Router ∷ []) None None 10000 []
      ∷ Gateway Peer (zid 3) [] None None 10000 ((North, South 0 Peer) ∷ [])
      ∷ [];
  entries =
      Ok []
      ∷ Ok []
      ∷ Err refusal.InterestFromRouter
      ∷ Ok []
      ∷ Ok []
      ∷ Err refusal.InterestFromNorth
      ∷ Ok []
      ∷ Ok []
      ∷ Err refusal.UnknownRouter
      ∷ Err refusal.UnknownAsk
      ∷ Err refusal.RegionConflict
      ∷ Err refusal.RegionConflict
      ∷ Err refusal.NoSuchRegion
      ∷ [];
  totals = Some (record { lines = 13; messages = 0; refusals = 7 });
}

-- word-run: 0 is k
abbrev pub word_run : Script
word_run = record {
  matches = [];
  lines =
      Gateway Client (zid 1) [] None None 10000 []
      ∷ Session 1 1
      ∷ Speak (Interest 1 1 CurrentFuture (options 8) (Some 0))
      ∷ Speak (DeclareToken 1 1 0 0 None)
      ∷ [];
  entries =
      Ok []
      ∷ Ok []
      ∷ Ok (sent 1 1 (message.DeclareFinal 1) ∷ [])
      ∷ Ok (sent 1 1 (message.DeclareToken 1 0 None 0) ∷ [])
      ∷ [];
  totals = Some (record { lines = 4; messages = 2; refusals = 0 });
}
