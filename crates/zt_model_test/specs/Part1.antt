-- Scripts and their transcripts, as the definitions speak of them.
-- Written by tools/scripts_to_antt.py; change the scripts or the tool, and not this file.
use Rattle.std.specs.Prelude.{true, false, [], ◌∷◌, Some, None, Ok, Err}
use Rattle.zt_region.specs.declared.region.Bound.TheVariants as bound
use Rattle.zt_region.specs.declared.region.Region.TheVariants.{North, Local, South}
use Rattle.zt_region.specs.declared.region.WhatAmI.TheVariants.{Router, Peer, Client}
use Rattle.zt_protocol.specs.Plain.{DeclareToken, UndeclareToken, Interest, InterestFinal, DeclareFinal, CloseFace, SetEntities, Gateway, Session, Face as FaceLine, Link as LinkLine, Step, Speak}
use Rattle.zt_protocol.specs.declared.errors.Refusal.TheVariants as refusal
use Rattle.zt_protocol.specs.declared.interests.InterestMode.TheVariants.{Current, Future, CurrentFuture}
use Rattle.zt_protocol.specs.declared.messages.Message.TheVariants as message
use Rattle.zt_model_test.specs.Script.{Script, options, sent, zid}

-- admission: 0 is k
abbrev pub admission : Script
admission = record {
  matches = [];
  lines =
      Gateway Client (zid 1) (South 0 Client ∷ []) None None 10000 ((South 0 Client, Local) ∷ [])
      ∷ Session 1 1
      ∷ FaceLine 1 Client (zid 2) (South 0 Client) bound.North 1
      ∷ Speak (Interest 1 1 CurrentFuture (options 8) None)
      ∷ Speak (DeclareToken 2 1 0 0 None)
      ∷ Speak (Interest 1 2 CurrentFuture (options 8) (Some 0))
      ∷ Speak (UndeclareToken 2 1 None 0)
      ∷ [];
  entries =
      Ok []
      ∷ Ok []
      ∷ Ok []
      ∷ Ok (sent 1 1 (message.DeclareFinal 1) ∷ [])
      ∷ Ok []
      ∷ Ok (sent 1 1 (message.DeclareToken 1 0 (Some 2) 0) ∷ sent 1 1 (message.DeclareFinal 2) ∷ [])
      ∷ Ok (sent 1 1 (message.UndeclareToken 1 None 0) ∷ [])
      ∷ [];
  totals = Some (record { lines = 7; messages = 4; refusals = 0 });
}

-- aggregates: 0 is k/*, 1 is k/a, 2 is k/b
abbrev pub aggregates : Script
aggregates = record {
  matches = (0, 1) ∷ (0, 2) ∷ (1, 0) ∷ (2, 0) ∷ [];
  lines =
      Gateway Peer (zid 1) (South 0 Peer ∷ South 1 Client ∷ []) None None 10000 []
      ∷ Session 1 1
      ∷ FaceLine 1 Peer (zid 2) (South 0 Peer) bound.North 1
      ∷ FaceLine 1 Client (zid 3) (South 1 Client) bound.North 1
      ∷ FaceLine 1 Router (zid 4) North bound.South 1
      ∷ Speak (SetEntities 1 (1 ∷ 2 ∷ []) ((1, record { complete = false; distance = 3 }) ∷ []))
      ∷ Speak (Interest 2 1 CurrentFuture (options 22) (Some 0))
      ∷ Speak (Interest 3 1 CurrentFuture (options 22) (Some 0))
      ∷ Speak (DeclareToken 1 1 1 0 None)
      ∷ Speak (Interest 2 2 CurrentFuture (options 26) (Some 0))
      ∷ Speak (Interest 3 2 CurrentFuture (options 26) (Some 0))
      ∷ Speak (Interest 3 3 CurrentFuture (options 24) (Some 0))
      ∷ Speak (Interest 3 4 Current (options 24) (Some 0))
      ∷ Speak (Interest 2 3 Future (options 18) (Some 0))
      ∷ Speak (InterestFinal 3 1)
      ∷ Speak (InterestFinal 2 1)
      ∷ Speak (InterestFinal 2 3)
      ∷ Speak (InterestFinal 3 2)
      ∷ Speak (InterestFinal 2 2)
      ∷ Speak (InterestFinal 3 3)
      ∷ [];
  entries =
      Ok []
      ∷ Ok []
      ∷ Ok []
      ∷ Ok []
      ∷ Ok []
      ∷ Ok []
      ∷ Ok (sent 1 2 (message.DeclareSubscriber 1 1 1) ∷ sent 1 2 (message.DeclareSubscriber 2 2 1) ∷ sent 1 2 (message.DeclareQueryable 1 1 (record { complete = false; distance = 3 }) 1) ∷ sent 1 4 (message.Interest 1 CurrentFuture (options 6) (Some 0)) ∷ [])
      ∷ Ok (sent 1 3 (message.DeclareSubscriber 3 0 1) ∷ sent 1 3 (message.DeclareQueryable 3 0 (record { complete = false; distance = 3 }) 1) ∷ sent 1 4 (message.Interest 2 CurrentFuture (options 22) (Some 0)) ∷ [])
      ∷ Ok (sent 1 4 (message.DeclareToken 3 1 None 0) ∷ [])
      ∷ Ok (sent 1 2 (message.DeclareSubscriber 1 1 2) ∷ sent 1 2 (message.DeclareSubscriber 2 2 2) ∷ sent 1 2 (message.DeclareToken 1 1 (Some 2) 0) ∷ sent 1 4 (message.Interest 4 CurrentFuture (options 10) (Some 0)) ∷ [])
      ∷ Ok (sent 1 3 (message.DeclareSubscriber 1 1 2) ∷ sent 1 3 (message.DeclareSubscriber 2 2 2) ∷ sent 1 3 (message.DeclareToken 1 1 (Some 2) 0) ∷ sent 1 4 (message.Interest 5 CurrentFuture (options 10) (Some 0)) ∷ [])
      ∷ Ok (sent 1 3 (message.DeclareToken 1 1 (Some 3) 0) ∷ sent 1 4 (message.Interest 6 CurrentFuture (options 8) (Some 0)) ∷ [])
      ∷ Ok (sent 1 3 (message.DeclareToken 0 1 (Some 4) 0) ∷ sent 1 4 (message.Interest 7 Current (options 8) (Some 0)) ∷ [])
      ∷ Ok (sent 1 4 (message.Interest 8 Future (options 2) (Some 0)) ∷ [])
      ∷ Ok (sent 1 3 (message.DeclareFinal 1) ∷ sent 1 4 (message.InterestFinal 2) ∷ [])
      ∷ Ok (sent 1 2 (message.DeclareFinal 1) ∷ sent 1 4 (message.InterestFinal 1) ∷ [])
      ∷ Ok (sent 1 4 (message.InterestFinal 8) ∷ [])
      ∷ Ok (sent 1 3 (message.DeclareFinal 2) ∷ [])
      ∷ Ok (sent 1 2 (message.UndeclareToken 1 None 0) ∷ sent 1 2 (message.DeclareFinal 2) ∷ sent 1 4 (message.InterestFinal 4) ∷ sent 1 4 (message.InterestFinal 5) ∷ [])
      ∷ Ok (sent 1 3 (message.UndeclareToken 1 None 0) ∷ sent 1 3 (message.DeclareFinal 3) ∷ sent 1 4 (message.InterestFinal 6) ∷ [])
      ∷ [];
  totals = Some (record { lines = 20; messages = 34; refusals = 0 });
}

-- answers: 0 is j, 1 is k
abbrev pub answers : Script
answers = record {
  matches = [];
  lines =
      Gateway Client (zid 1) (South 0 Client ∷ []) None None 10000 []
      ∷ FaceLine 1 Router (zid 9) North bound.South 1
      ∷ Session 1 1
      ∷ Speak (Interest 2 1 CurrentFuture (options 8) (Some 1))
      ∷ Speak (DeclareToken 1 0 1 0 (Some 1))
      ∷ Speak (DeclareToken 1 5 1 0 (Some 1))
      ∷ Speak (DeclareToken 1 6 0 0 (Some 77))
      ∷ Speak (DeclareToken 1 0 0 0 (Some 77))
      ∷ Speak (DeclareToken 2 1 1 0 (Some 1))
      ∷ Speak (DeclareFinal 2 1)
      ∷ Speak (DeclareFinal 1 1)
      ∷ Speak (DeclareToken 1 0 1 0 (Some 1))
      ∷ Speak (DeclareToken 1 5 0 0 None)
      ∷ [];
  entries =
      Ok []
      ∷ Ok []
      ∷ Ok []
      ∷ Ok (sent 1 1 (message.Interest 1 CurrentFuture (options 8) (Some 1)) ∷ [])
      ∷ Err refusal.TokenIdZero
      ∷ Ok (sent 1 2 (message.DeclareToken 1 1 (Some 1) 0) ∷ [])
      ∷ Ok []
      ∷ Err refusal.UnknownAsk
      ∷ Err refusal.AnswerFromSouth
      ∷ Err refusal.FinalFromSouth
      ∷ Ok (sent 1 2 (message.DeclareFinal 1) ∷ [])
      ∷ Err refusal.TokenIdZero
      ∷ Err refusal.TokenIdInUse
      ∷ [];
  totals = Some (record { lines = 13; messages = 3; refusals = 6 });
}

-- asks-after-a-final-0: 0 is k
abbrev pub asks_after_a_final_0 : Script
asks_after_a_final_0 = record {
  matches = [];
  lines =
      Gateway Peer (zid 1) (South 0 Client ∷ []) None None 10000 []
      ∷ FaceLine 1 Peer (zid 2) North bound.North 1
      ∷ Session 1 1
      ∷ FaceLine 1 Client (zid 4) (South 0 Client) bound.North 1
      ∷ Speak (Interest 2 1 Current (options 8) None)
      ∷ Speak (DeclareFinal 1 1)
      ∷ Speak (DeclareFinal 1 7)
      ∷ Speak (Interest 2 2 Current (options 8) (Some 0))
      ∷ Speak (DeclareFinal 1 0)
      ∷ Speak (Interest 2 3 Current (options 8) (Some 0))
      ∷ Speak (DeclareFinal 1 2)
      ∷ Speak (Interest 3 1 Current (options 8) None)
      ∷ Speak (Interest 3 2 CurrentFuture (options 8) None)
      ∷ Speak (DeclareFinal 1 0)
      ∷ Speak (Interest 3 3 Current (options 8) (Some 0))
      ∷ [];
  entries =
      Ok []
      ∷ Ok (sent 1 1 (message.DeclareFinal 0) ∷ [])
      ∷ Ok []
      ∷ Ok []
      ∷ Ok (sent 1 1 (message.Interest 1 Current (options 8) None) ∷ [])
      ∷ Ok (sent 1 2 (message.DeclareFinal 1) ∷ [])
      ∷ Err refusal.UnknownAsk
      ∷ Ok (sent 1 1 (message.Interest 2 Current (options 8) (Some 0)) ∷ [])
      ∷ Ok []
      ∷ Ok (sent 1 2 (message.DeclareFinal 3) ∷ [])
      ∷ Ok (sent 1 2 (message.DeclareFinal 2) ∷ [])
      ∷ Ok (sent 1 3 (message.DeclareFinal 1) ∷ [])
      ∷ Ok (sent 1 3 (message.DeclareFinal 2) ∷ [])
      ∷ Ok []
      ∷ Ok (sent 1 3 (message.DeclareFinal 3) ∷ [])
      ∷ [];
  totals = Some (record { lines = 15; messages = 9; refusals = 1 });
}

-- asks-in-a-tree: 0 is k
abbrev pub asks_in_a_tree : Script
asks_in_a_tree = record {
  matches = [];
  lines =
      Gateway Router (zid 1) (South 0 Client ∷ []) None None 10000 []
      ∷ Gateway Client (zid 2) (South 0 Client ∷ []) (Some (Some (record { zids = (Some (zid 4 ∷ [])); interfaces = None; modes = None; region_names = None; negated = false } ∷ []) ∷ [])) None 10000 []
      ∷ Gateway Client (zid 3) [] None None 10000 []
      ∷ Gateway Client (zid 4) [] None None 10000 []
      ∷ LinkLine 2 1 1 1
      ∷ LinkLine 3 1 1 1
      ∷ LinkLine 4 2 1 1
      ∷ Session 4 1
      ∷ Session 3 1
      ∷ Speak (DeclareToken 8 1 0 0 None)
      ∷ Step 2 false
      ∷ Speak (Interest 7 1 Current (options 8) (Some 0))
      ∷ Step 3 false
      ∷ Step 1 false
      ∷ Step 1 true
      ∷ Step 1 true
      ∷ Step 3 true
      ∷ Step 3 true
      ∷ [];
  entries =
      Ok []
      ∷ Ok []
      ∷ Ok []
      ∷ Ok []
      ∷ Ok []
      ∷ Ok []
      ∷ Ok []
      ∷ Ok []
      ∷ Ok []
      ∷ Ok (sent 3 3 (message.DeclareToken 1 0 None 0) ∷ [])
      ∷ Ok []
      ∷ Ok (sent 4 5 (message.Interest 1 Current (options 8) (Some 0)) ∷ [])
      ∷ Ok (sent 2 1 (message.Interest 1 Current (options 8) (Some 0)) ∷ [])
      ∷ Ok (sent 1 2 (message.DeclareToken 0 0 (Some 1) 0) ∷ sent 1 2 (message.DeclareFinal 1) ∷ [])
      ∷ Ok (sent 2 6 (message.DeclareToken 0 0 (Some 1) 0) ∷ [])
      ∷ Ok (sent 2 6 (message.DeclareFinal 1) ∷ [])
      ∷ Ok (sent 4 7 (message.DeclareToken 0 0 (Some 1) 0) ∷ [])
      ∷ Ok (sent 4 7 (message.DeclareFinal 1) ∷ [])
      ∷ [];
  totals = Some (record { lines = 18; messages = 9; refusals = 0 });
}

-- bad-byte
abbrev pub bad_byte : Script
bad_byte = record {
  matches = [];
  lines =
      Gateway Client (zid 1) [] None None 10000 []
      ∷ Session 1 1
      ∷ [];
  entries =
      Ok []
      ∷ Ok []
      ∷ [];
  totals = None;
}

-- bad-byte-unended
abbrev pub bad_byte_unended : Script
bad_byte_unended = record {
  matches = [];
  lines =
      Gateway Client (zid 1) [] None None 10000 []
      ∷ Session 1 1
      ∷ [];
  entries =
      Ok []
      ∷ Ok []
      ∷ [];
  totals = None;
}

-- bad-word
abbrev pub bad_word : Script
bad_word = record {
  matches = [];
  lines =
      Gateway Client (zid 1) [] None None 10000 []
      ∷ Session 1 1
      ∷ [];
  entries =
      Ok []
      ∷ Ok []
      ∷ [];
  totals = None;
}

-- cancelling-across-regions: 0 is k
abbrev pub cancelling_across_regions : Script
cancelling_across_regions = record {
  matches = [];
  lines =
      Gateway Client (zid 1) (South 0 Client ∷ []) None None 10000 []
      ∷ FaceLine 1 Router (zid 9) North bound.South 1
      ∷ Session 1 1
      ∷ FaceLine 1 Client (zid 2) (South 0 Client) bound.North 1
      ∷ Speak (Interest 2 1 CurrentFuture (options 8) (Some 0))
      ∷ Speak (Interest 3 1 Future (options 8) (Some 0))
      ∷ Speak (InterestFinal 2 1)
      ∷ Speak (InterestFinal 3 1)
      ∷ Speak (DeclareFinal 1 1)
      ∷ Speak (InterestFinal 3 1)
      ∷ [];
  entries =
      Ok []
      ∷ Ok []
      ∷ Ok []
      ∷ Ok []
      ∷ Ok (sent 1 1 (message.Interest 1 CurrentFuture (options 8) (Some 0)) ∷ [])
      ∷ Ok (sent 1 1 (message.Interest 2 Future (options 8) (Some 0)) ∷ [])
      ∷ Ok (sent 1 2 (message.DeclareFinal 1) ∷ [])
      ∷ Ok (sent 1 1 (message.InterestFinal 1) ∷ sent 1 1 (message.InterestFinal 2) ∷ [])
      ∷ Ok []
      ∷ Err refusal.UnknownInterest
      ∷ [];
  totals = Some (record { lines = 10; messages = 5; refusals = 1 });
}

-- client-token-repropagation: 0 is k/a, 1 is k/b, 2 is k/c
abbrev pub client_token_repropagation : Script
client_token_repropagation = record {
  matches = [];
  lines =
      Gateway Client (zid 1) (South 0 Client ∷ []) None None 10000 []
      ∷ Session 1 1
      ∷ FaceLine 1 Client (zid 2) (South 0 Client) bound.North 1
      ∷ Speak (DeclareToken 1 1 0 0 None)
      ∷ Speak (DeclareToken 1 2 1 0 None)
      ∷ Speak (DeclareToken 2 1 1 0 None)
      ∷ Speak (DeclareToken 2 2 2 0 None)
      ∷ FaceLine 1 Router (zid 9) North bound.South 1
      ∷ [];
  entries =
      Ok []
      ∷ Ok []
      ∷ Ok []
      ∷ Ok []
      ∷ Ok []
      ∷ Ok []
      ∷ Ok []
      ∷ Ok (sent 1 3 (message.DeclareToken 1 0 None 0) ∷ sent 1 3 (message.DeclareToken 2 1 None 0) ∷ sent 1 3 (message.DeclareToken 3 2 None 0) ∷ [])
      ∷ [];
  totals = Some (record { lines = 8; messages = 3; refusals = 0 });
}

-- closing-amid-asks: 0 is k
abbrev pub closing_amid_asks : Script
closing_amid_asks = record {
  matches = [];
  lines =
      Gateway Client (zid 1) [] None None 10000 []
      ∷ FaceLine 1 Router (zid 9) North bound.South 1
      ∷ Session 1 1
      ∷ Session 1 1
      ∷ Speak (Interest 2 1 Current (options 8) None)
      ∷ Speak (Interest 3 1 Current (options 8) None)
      ∷ Speak (DeclareToken 2 1 0 0 None)
      ∷ Speak (CloseFace 2)
      ∷ Speak (DeclareFinal 1 1)
      ∷ Speak (CloseFace 1)
      ∷ Speak (CloseFace 1)
      ∷ Speak (Interest 3 1 Current (options 2) None)
      ∷ Speak (Interest 3 1 CurrentFuture (options 8) None)
      ∷ Speak (Interest 3 1 Future (options 8) None)
      ∷ [];
  entries =
      Ok []
      ∷ Ok []
      ∷ Ok []
      ∷ Ok []
      ∷ Ok (sent 1 1 (message.Interest 1 Current (options 8) None) ∷ [])
      ∷ Ok (sent 1 1 (message.Interest 2 Current (options 8) None) ∷ [])
      ∷ Ok (sent 1 1 (message.DeclareToken 3 0 None 0) ∷ [])
      ∷ Ok (sent 1 1 (message.UndeclareToken 3 None 0) ∷ [])
      ∷ Ok []
      ∷ Ok (sent 1 3 (message.DeclareFinal 1) ∷ [])
      ∷ Err refusal.UnknownFace
      ∷ Err refusal.IllegalCurrent
      ∷ Ok (sent 1 3 (message.DeclareFinal 1) ∷ [])
      ∷ Err refusal.InterestIdInUse
      ∷ [];
  totals = Some (record { lines = 14; messages = 6; refusals = 3 });
}

-- concurrent-interests
abbrev pub concurrent_interests : Script
concurrent_interests = record {
  matches = [];
  lines =
      Gateway Peer (zid 1) (South 0 Peer ∷ []) None None 10000 []
      ∷ FaceLine 1 Router (zid 9) North bound.South 1
      ∷ FaceLine 1 Peer (zid 2) (South 0 Peer) bound.North 1
      ∷ FaceLine 1 Peer (zid 3) (South 0 Peer) bound.North 1
      ∷ Speak (Interest 2 42 CurrentFuture (options 3) None)
      ∷ Speak (Interest 3 42 CurrentFuture (options 3) None)
      ∷ [];
  entries =
      Ok []
      ∷ Ok []
      ∷ Ok []
      ∷ Ok []
      ∷ Ok (sent 1 1 (message.Interest 1 CurrentFuture (options 3) None) ∷ [])
      ∷ Ok (sent 1 1 (message.Interest 2 CurrentFuture (options 3) None) ∷ [])
      ∷ [];
  totals = Some (record { lines = 6; messages = 2; refusals = 0 });
}

-- concurrent-interests-client-both
abbrev pub concurrent_interests_client_both : Script
concurrent_interests_client_both = record {
  matches = [];
  lines =
      Gateway Client (zid 1) (South 0 Client ∷ []) None None 10000 []
      ∷ FaceLine 1 Router (zid 9) North bound.South 1
      ∷ FaceLine 1 Client (zid 2) (South 0 Client) bound.North 1
      ∷ FaceLine 1 Client (zid 3) (South 0 Client) bound.North 1
      ∷ Speak (Interest 2 42 CurrentFuture (options 3) None)
      ∷ Speak (Interest 3 42 CurrentFuture (options 3) None)
      ∷ [];
  entries =
      Ok []
      ∷ Ok []
      ∷ Ok []
      ∷ Ok []
      ∷ Ok (sent 1 1 (message.Interest 1 CurrentFuture (options 3) None) ∷ [])
      ∷ Ok (sent 1 1 (message.Interest 2 CurrentFuture (options 3) None) ∷ [])
      ∷ [];
  totals = Some (record { lines = 6; messages = 2; refusals = 0 });
}

-- concurrent-interests-client-faces
abbrev pub concurrent_interests_client_faces : Script
concurrent_interests_client_faces = record {
  matches = [];
  lines =
      Gateway Peer (zid 1) (South 0 Client ∷ []) None None 10000 []
      ∷ FaceLine 1 Router (zid 9) North bound.South 1
      ∷ FaceLine 1 Client (zid 2) (South 0 Client) bound.North 1
      ∷ FaceLine 1 Client (zid 3) (South 0 Client) bound.North 1
      ∷ Speak (Interest 2 42 CurrentFuture (options 3) None)
      ∷ Speak (Interest 3 42 CurrentFuture (options 3) None)
      ∷ [];
  entries =
      Ok []
      ∷ Ok []
      ∷ Ok []
      ∷ Ok []
      ∷ Ok (sent 1 1 (message.Interest 1 CurrentFuture (options 3) None) ∷ [])
      ∷ Ok (sent 1 1 (message.Interest 2 CurrentFuture (options 3) None) ∷ [])
      ∷ [];
  totals = Some (record { lines = 6; messages = 2; refusals = 0 });
}

-- concurrent-interests-client-gateway
abbrev pub concurrent_interests_client_gateway : Script
concurrent_interests_client_gateway = record {
  matches = [];
  lines =
      Gateway Client (zid 1) (South 0 Peer ∷ []) None None 10000 []
      ∷ FaceLine 1 Router (zid 9) North bound.South 1
      ∷ FaceLine 1 Peer (zid 2) (South 0 Peer) bound.North 1
      ∷ FaceLine 1 Peer (zid 3) (South 0 Peer) bound.North 1
      ∷ Speak (Interest 2 42 CurrentFuture (options 3) None)
      ∷ Speak (Interest 3 42 CurrentFuture (options 3) None)
      ∷ [];
  entries =
      Ok []
      ∷ Ok []
      ∷ Ok []
      ∷ Ok []
      ∷ Ok (sent 1 1 (message.Interest 1 CurrentFuture (options 3) None) ∷ [])
      ∷ Ok (sent 1 1 (message.Interest 2 CurrentFuture (options 3) None) ∷ [])
      ∷ [];
  totals = Some (record { lines = 6; messages = 2; refusals = 0 });
}

-- current-interest-finalized-client
abbrev pub current_interest_finalized_client : Script
current_interest_finalized_client = record {
  matches = [];
  lines =
      Gateway Client (zid 1) [] None None 10000 []
      ∷ Session 1 1
      ∷ Speak (Interest 1 2 CurrentFuture (options 15) None)
      ∷ [];
  entries =
      Ok []
      ∷ Ok []
      ∷ Ok (sent 1 1 (message.DeclareFinal 2) ∷ [])
      ∷ [];
  totals = Some (record { lines = 3; messages = 1; refusals = 0 });
}

-- current-interest-finalized-peer
abbrev pub current_interest_finalized_peer : Script
current_interest_finalized_peer = record {
  matches = [];
  lines =
      Gateway Peer (zid 1) [] None None 10000 []
      ∷ Session 1 1
      ∷ Speak (Interest 1 2 CurrentFuture (options 15) None)
      ∷ [];
  entries =
      Ok []
      ∷ Ok []
      ∷ Ok (sent 1 1 (message.DeclareFinal 2) ∷ [])
      ∷ [];
  totals = Some (record { lines = 3; messages = 1; refusals = 0 });
}

-- current-interest-finalized-router
abbrev pub current_interest_finalized_router : Script
current_interest_finalized_router = record {
  matches = [];
  lines =
      Gateway Router (zid 1) [] None None 10000 []
      ∷ Session 1 1
      ∷ Speak (Interest 1 2 CurrentFuture (options 15) None)
      ∷ [];
  entries =
      Ok []
      ∷ Ok []
      ∷ Ok (sent 1 1 (message.DeclareFinal 2) ∷ [])
      ∷ [];
  totals = Some (record { lines = 3; messages = 1; refusals = 0 });
}

-- current-token-repropagation: 0 is test
abbrev pub current_token_repropagation : Script
current_token_repropagation = record {
  matches = [];
  lines =
      Gateway Router (zid 1) (South 0 Client ∷ []) None None 10000 []
      ∷ Gateway Client (zid 2) [] None None 10000 []
      ∷ LinkLine 2 1 1 1
      ∷ Session 2 1
      ∷ Session 2 1
      ∷ Speak (Interest 3 1 Future (options 8) (Some 0))
      ∷ Step 1 false
      ∷ Speak (DeclareToken 4 1 0 0 None)
      ∷ Step 1 false
      ∷ Step 1 true
      ∷ Speak (Interest 3 1 Current (options 8) (Some 0))
      ∷ Step 1 false
      ∷ Step 1 true
      ∷ Step 1 true
      ∷ [];
  entries =
      Ok []
      ∷ Ok []
      ∷ Ok []
      ∷ Ok []
      ∷ Ok []
      ∷ Ok (sent 2 1 (message.Interest 1 Future (options 8) (Some 0)) ∷ [])
      ∷ Ok []
      ∷ Ok (sent 2 1 (message.DeclareToken 2 0 None 0) ∷ sent 2 3 (message.DeclareToken 1 0 None 0) ∷ [])
      ∷ Ok (sent 1 2 (message.DeclareToken 1 0 None 0) ∷ [])
      ∷ Ok []
      ∷ Ok (sent 2 1 (message.Interest 3 Current (options 8) (Some 0)) ∷ sent 2 3 (message.DeclareToken 0 0 (Some 1) 0) ∷ [])
      ∷ Ok (sent 1 2 (message.DeclareToken 0 0 (Some 3) 0) ∷ sent 1 2 (message.DeclareFinal 3) ∷ [])
      ∷ Ok []
      ∷ Ok (sent 2 3 (message.DeclareFinal 1) ∷ [])
      ∷ [];
  totals = Some (record { lines = 14; messages = 9; refusals = 0 });
}

-- empty-script
abbrev pub empty_script : Script
empty_script = record {
  matches = [];
  lines = [];
  entries = [];
  totals = Some (record { lines = 0; messages = 0; refusals = 0 });
}

-- entities: 0 is k/*, 1 is k/a, 2 is k/b
abbrev pub entities : Script
entities = record {
  matches = (0, 1) ∷ (0, 2) ∷ (1, 0) ∷ (2, 0) ∷ [];
  lines =
      Gateway Client (zid 1) (South 0 Client ∷ []) None None 10000 []
      ∷ Session 1 1
      ∷ Session 1 1
      ∷ Speak (SetEntities 2 (1 ∷ 2 ∷ []) ((1, record { complete = false; distance = 3 }) ∷ (1, record { complete = true; distance = 5 }) ∷ []))
      ∷ Speak (Interest 1 1 CurrentFuture (options 6) (Some 0))
      ∷ Speak (Interest 1 2 CurrentFuture (options 18) (Some 0))
      ∷ Speak (Interest 2 1 CurrentFuture (options 2) (Some 0))
      ∷ [];
  entries =
      Ok []
      ∷ Ok []
      ∷ Ok []
      ∷ Ok []
      ∷ Ok (sent 1 1 (message.DeclareSubscriber 1 1 1) ∷ sent 1 1 (message.DeclareSubscriber 2 2 1) ∷ sent 1 1 (message.DeclareQueryable 1 1 (record { complete = true; distance = 3 }) 1) ∷ sent 1 1 (message.DeclareFinal 1) ∷ [])
      ∷ Ok (sent 1 1 (message.DeclareSubscriber 3 0 2) ∷ sent 1 1 (message.DeclareFinal 2) ∷ [])
      ∷ Ok (sent 1 2 (message.DeclareFinal 1) ∷ [])
      ∷ [];
  totals = Some (record { lines = 7; messages = 7; refusals = 0 });
}

-- entities-of-a-region: 0 is k/*, 1 is k/a, 2 is k/b, 3 is y, 4 is z
abbrev pub entities_of_a_region : Script
entities_of_a_region = record {
  matches = (0, 1) ∷ (0, 2) ∷ (1, 0) ∷ (2, 0) ∷ [];
  lines =
      Gateway Peer (zid 1) (South 0 Peer ∷ []) None None 10000 []
      ∷ FaceLine 1 Peer (zid 2) (South 0 Peer) bound.North 1
      ∷ FaceLine 1 Peer (zid 3) (South 0 Peer) bound.North 1
      ∷ Session 1 1
      ∷ Session 1 1
      ∷ Speak (SetEntities 1 (1 ∷ []) ((1, record { complete = false; distance = 3 }) ∷ []))
      ∷ Speak (SetEntities 3 (2 ∷ 4 ∷ []) ((2, record { complete = true; distance = 5 }) ∷ (2, record { complete = false; distance = 2 }) ∷ (4, record { complete = false; distance = 1 }) ∷ []))
      ∷ Speak (Interest 1 1 CurrentFuture (options 6) (Some 0))
      ∷ Speak (Interest 2 1 CurrentFuture (options 6) None)
      ∷ Speak (Interest 4 1 CurrentFuture (options 6) (Some 0))
      ∷ Speak (Interest 2 2 CurrentFuture (options 20) (Some 0))
      ∷ Speak (Interest 2 3 CurrentFuture (options 22) (Some 3))
      ∷ [];
  entries =
      Ok []
      ∷ Ok []
      ∷ Ok []
      ∷ Ok []
      ∷ Ok []
      ∷ Ok []
      ∷ Ok []
      ∷ Ok (sent 1 1 (message.DeclareSubscriber 2 2 1) ∷ sent 1 1 (message.DeclareQueryable 2 2 (record { complete = true; distance = 2 }) 1) ∷ sent 1 1 (message.DeclareFinal 1) ∷ [])
      ∷ Ok (sent 1 2 (message.DeclareSubscriber 2 2 1) ∷ sent 1 2 (message.DeclareSubscriber 3 4 1) ∷ sent 1 2 (message.DeclareQueryable 2 2 (record { complete = true; distance = 2 }) 1) ∷ sent 1 2 (message.DeclareQueryable 3 4 (record { complete = false; distance = 1 }) 1) ∷ sent 1 2 (message.DeclareFinal 1) ∷ [])
      ∷ Ok (sent 1 4 (message.DeclareSubscriber 1 1 1) ∷ sent 1 4 (message.DeclareSubscriber 2 2 1) ∷ sent 1 4 (message.DeclareQueryable 1 1 (record { complete = false; distance = 3 }) 1) ∷ sent 1 4 (message.DeclareQueryable 2 2 (record { complete = true; distance = 2 }) 1) ∷ sent 1 4 (message.DeclareFinal 1) ∷ [])
      ∷ Ok (sent 1 2 (message.DeclareQueryable 2 2 (record { complete = true; distance = 2 }) 2) ∷ sent 1 2 (message.DeclareFinal 2) ∷ [])
      ∷ Ok (sent 1 2 (message.DeclareFinal 3) ∷ [])
      ∷ [];
  totals = Some (record { lines = 12; messages = 16; refusals = 0 });
}

-- equal-ids-at-two-faces: 0 is k, 1 is l
abbrev pub equal_ids_at_two_faces : Script
equal_ids_at_two_faces = record {
  matches = [];
  lines =
      Gateway Peer (zid 1) [] None None 10000 []
      ∷ FaceLine 1 Peer (zid 2) North bound.North 1
      ∷ FaceLine 1 Router (zid 3) North bound.South 1
      ∷ Session 1 1
      ∷ Session 1 1
      ∷ Speak (Interest 3 1 Current (options 8) None)
      ∷ FaceLine 1 Peer (zid 4) North bound.North 1
      ∷ Speak (Interest 4 1 Current (options 8) (Some 0))
      ∷ Speak (DeclareToken 2 0 0 0 (Some 1))
      ∷ Speak (DeclareToken 5 0 0 0 (Some 1))
      ∷ Speak (DeclareToken 1 0 0 0 (Some 1))
      ∷ Speak (DeclareFinal 5 1)
      ∷ Speak (DeclareFinal 1 1)
      ∷ Speak (DeclareToken 2 0 1 0 (Some 1))
      ∷ Speak (DeclareFinal 2 1)
      ∷ Speak (DeclareFinal 1 2)
      ∷ Speak (DeclareFinal 2 2)
      ∷ [];
  entries =
      Ok []
      ∷ Ok (sent 1 1 (message.DeclareFinal 0) ∷ [])
      ∷ Ok []
      ∷ Ok []
      ∷ Ok []
      ∷ Ok (sent 1 1 (message.Interest 1 Current (options 8) None) ∷ sent 1 2 (message.Interest 1 Current (options 8) None) ∷ [])
      ∷ Ok (sent 1 5 (message.DeclareFinal 0) ∷ [])
      ∷ Ok (sent 1 1 (message.Interest 2 Current (options 8) (Some 0)) ∷ sent 1 2 (message.Interest 2 Current (options 8) (Some 0)) ∷ sent 1 5 (message.Interest 1 Current (options 8) (Some 0)) ∷ [])
      ∷ Ok (sent 1 3 (message.DeclareToken 0 0 (Some 1) 0) ∷ [])
      ∷ Ok (sent 1 4 (message.DeclareToken 0 0 (Some 1) 0) ∷ [])
      ∷ Ok []
      ∷ Ok []
      ∷ Ok []
      ∷ Ok (sent 1 3 (message.DeclareToken 0 1 (Some 1) 0) ∷ [])
      ∷ Ok (sent 1 3 (message.DeclareFinal 1) ∷ [])
      ∷ Ok []
      ∷ Ok (sent 1 4 (message.DeclareFinal 1) ∷ [])
      ∷ [];
  totals = Some (record { lines = 17; messages = 12; refusals = 0 });
}
