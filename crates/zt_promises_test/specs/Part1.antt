-- Wrong transcripts, as the definitions speak of them.
-- Written by tools/wrong_to_antt.py; change the transcripts or the tool, and not this file.
use Rattle.std.specs.Prelude.{false, [], ◌∷◌, Some, None, Ok, Err}
use Rattle.zt_region.specs.declared.region.Bound.TheVariants as bound
use Rattle.zt_region.specs.declared.region.Region.TheVariants.{North, South}
use Rattle.zt_region.specs.declared.region.WhatAmI.TheVariants.{Router, Peer, Client}
use Rattle.zt_protocol.specs.Plain.{DeclareToken, Interest, InterestFinal, CloseFace, SetEntities, Gateway, Session, Face as FaceLine, Speak}
use Rattle.zt_protocol.specs.declared.errors.Refusal.TheVariants as refusal
use Rattle.zt_protocol.specs.declared.interests.InterestMode.TheVariants.{Current, Future, CurrentFuture}
use Rattle.zt_protocol.specs.declared.messages.Message.TheVariants as message
use Rattle.zt_model_test.specs.Script.{Script, options, sent, zid}

-- all-faces-unknown: 0 is k
abbrev pub all_faces_unknown : Script
all_faces_unknown = record {
  matches = [];
  lines =
      Gateway Client (zid 1) [] None None 10000 []
      ∷ Session 1 1
      ∷ Speak (DeclareToken 1 1 0 0 None)
      ∷ [];
  entries =
      Ok []
      ∷ Ok []
      ∷ Err refusal.UnknownFace
      ∷ [];
  totals = Some (record { lines = 3; messages = 0; refusals = 1 });
}

-- all-ids-spent: 0 is k
abbrev pub all_ids_spent : Script
all_ids_spent = record {
  matches = [];
  lines =
      Gateway Client (zid 1) [] None None 10000 []
      ∷ Session 1 1
      ∷ Speak (DeclareToken 1 1 0 0 None)
      ∷ [];
  entries =
      Ok []
      ∷ Ok []
      ∷ Err refusal.IdsSpent
      ∷ [];
  totals = Some (record { lines = 3; messages = 0; refusals = 1 });
}

-- answer-after-the-final: 0 is k
abbrev pub answer_after_the_final : Script
answer_after_the_final = record {
  matches = [];
  lines =
      Gateway Client (zid 1) [] None None 10000 []
      ∷ Session 1 1
      ∷ Speak (DeclareToken 1 1 0 0 None)
      ∷ Speak (Interest 1 1 Current (options 8) None)
      ∷ [];
  entries =
      Ok []
      ∷ Ok []
      ∷ Ok []
      ∷ Ok (sent 1 1 (message.DeclareFinal 1) ∷ sent 1 1 (message.DeclareToken 0 0 (Some 1) 0) ∷ [])
      ∷ [];
  totals = Some (record { lines = 4; messages = 2; refusals = 0 });
}

-- answer-lost: 0 is k
abbrev pub answer_lost : Script
answer_lost = record {
  matches = [];
  lines =
      Gateway Client (zid 1) [] None None 10000 []
      ∷ FaceLine 1 Router (zid 9) North bound.South 1
      ∷ Session 1 1
      ∷ Speak (Interest 2 1 Current (options 8) None)
      ∷ Speak (DeclareToken 1 0 0 0 (Some 1))
      ∷ [];
  entries =
      Ok []
      ∷ Ok []
      ∷ Ok []
      ∷ Ok (sent 1 1 (message.Interest 1 Current (options 8) None) ∷ [])
      ∷ Ok []
      ∷ [];
  totals = Some (record { lines = 5; messages = 1; refusals = 0 });
}

-- answer-to-no-token-ask: 0 is k
abbrev pub answer_to_no_token_ask : Script
answer_to_no_token_ask = record {
  matches = [];
  lines =
      Gateway Client (zid 1) [] None None 10000 []
      ∷ Session 1 1
      ∷ Speak (DeclareToken 1 1 0 0 None)
      ∷ Speak (Interest 1 1 CurrentFuture (options 2) None)
      ∷ [];
  entries =
      Ok []
      ∷ Ok []
      ∷ Ok []
      ∷ Ok (sent 1 1 (message.DeclareToken 1 0 (Some 1) 0) ∷ sent 1 1 (message.DeclareFinal 1) ∷ [])
      ∷ [];
  totals = Some (record { lines = 4; messages = 2; refusals = 0 });
}

-- answered-by-a-stranger: 0 is k
abbrev pub answered_by_a_stranger : Script
answered_by_a_stranger = record {
  matches = [];
  lines =
      Gateway Client (zid 1) [] None None 10000 []
      ∷ FaceLine 1 Router (zid 9) North bound.South 1
      ∷ Session 1 1
      ∷ Speak (Interest 2 1 Current (options 8) None)
      ∷ Speak (DeclareToken 2 1 0 0 None)
      ∷ [];
  entries =
      Ok []
      ∷ Ok []
      ∷ Ok []
      ∷ Ok (sent 1 1 (message.Interest 1 Current (options 8) None) ∷ [])
      ∷ Ok (sent 1 1 (message.DeclareToken 2 0 None 0) ∷ sent 1 2 (message.DeclareToken 0 0 (Some 1) 0) ∷ [])
      ∷ [];
  totals = Some (record { lines = 5; messages = 3; refusals = 0 });
}

-- answered-twice: 0 is k
abbrev pub answered_twice : Script
answered_twice = record {
  matches = [];
  lines =
      Gateway Peer (zid 1) [] None None 10000 []
      ∷ FaceLine 1 Peer (zid 2) North bound.North 1
      ∷ FaceLine 1 Peer (zid 3) North bound.North 1
      ∷ Session 1 1
      ∷ Speak (Interest 3 1 Current (options 8) None)
      ∷ Speak (DeclareToken 1 0 0 0 (Some 1))
      ∷ Speak (DeclareToken 2 0 0 0 (Some 1))
      ∷ [];
  entries =
      Ok []
      ∷ Ok (sent 1 1 (message.DeclareFinal 0) ∷ [])
      ∷ Ok (sent 1 2 (message.DeclareFinal 0) ∷ [])
      ∷ Ok []
      ∷ Ok (sent 1 1 (message.Interest 1 Current (options 8) None) ∷ sent 1 2 (message.Interest 1 Current (options 8) None) ∷ [])
      ∷ Ok (sent 1 3 (message.DeclareToken 0 0 (Some 1) 0) ∷ [])
      ∷ Ok (sent 1 3 (message.DeclareToken 0 0 (Some 1) 0) ∷ [])
      ∷ [];
  totals = Some (record { lines = 7; messages = 6; refusals = 0 });
}

-- answered-what-is-nowhere: 0 is j, 1 is k
abbrev pub answered_what_is_nowhere : Script
answered_what_is_nowhere = record {
  matches = [];
  lines =
      Gateway Client (zid 1) [] None None 10000 []
      ∷ Session 1 1
      ∷ Speak (DeclareToken 1 1 1 0 None)
      ∷ Speak (Interest 1 1 Current (options 8) None)
      ∷ [];
  entries =
      Ok []
      ∷ Ok []
      ∷ Ok []
      ∷ Ok (sent 1 1 (message.DeclareToken 0 0 (Some 1) 0) ∷ sent 1 1 (message.DeclareToken 0 1 (Some 1) 0) ∷ sent 1 1 (message.DeclareFinal 1) ∷ [])
      ∷ [];
  totals = Some (record { lines = 4; messages = 3; refusals = 0 });
}

-- asked-twice
abbrev pub asked_twice : Script
asked_twice = record {
  matches = [];
  lines =
      Gateway Client (zid 1) [] None None 10000 []
      ∷ FaceLine 1 Router (zid 9) North bound.South 1
      ∷ Session 1 1
      ∷ Speak (Interest 2 1 Current (options 8) None)
      ∷ [];
  entries =
      Ok []
      ∷ Ok []
      ∷ Ok []
      ∷ Ok (sent 1 1 (message.Interest 1 Current (options 8) None) ∷ sent 1 1 (message.Interest 2 Current (options 8) None) ∷ [])
      ∷ [];
  totals = Some (record { lines = 4; messages = 2; refusals = 0 });
}

-- closed-face-named: 0 is k
abbrev pub closed_face_named : Script
closed_face_named = record {
  matches = [];
  lines =
      Gateway Client (zid 1) [] None None 10000 []
      ∷ Session 1 1
      ∷ Session 1 1
      ∷ Speak (CloseFace 2)
      ∷ Speak (DeclareToken 1 1 0 0 None)
      ∷ [];
  entries =
      Ok []
      ∷ Ok []
      ∷ Ok []
      ∷ Ok []
      ∷ Ok (sent 1 2 (message.DeclareToken 1 0 None 0) ∷ [])
      ∷ [];
  totals = Some (record { lines = 5; messages = 1; refusals = 0 });
}

-- declared-anew-at-each-call: 0 is j, 1 is k
abbrev pub declared_anew_at_each_call : Script
declared_anew_at_each_call = record {
  matches = [];
  lines =
      Gateway Client (zid 1) [] None None 10000 []
      ∷ Session 1 1
      ∷ Speak (Interest 1 1 CurrentFuture (options 8) None)
      ∷ Speak (DeclareToken 1 1 1 0 None)
      ∷ Speak (DeclareToken 1 2 0 0 None)
      ∷ [];
  entries =
      Ok []
      ∷ Ok []
      ∷ Ok (sent 1 1 (message.DeclareFinal 1) ∷ [])
      ∷ Ok (sent 1 1 (message.DeclareToken 1 1 None 0) ∷ [])
      ∷ Ok (sent 1 1 (message.UndeclareToken 1 None 0) ∷ sent 1 1 (message.DeclareToken 2 0 None 0) ∷ sent 1 1 (message.DeclareToken 3 1 None 0) ∷ [])
      ∷ [];
  totals = Some (record { lines = 5; messages = 5; refusals = 0 });
}

-- earlier-cause-passed-over: 0 is k
abbrev pub earlier_cause_passed_over : Script
earlier_cause_passed_over = record {
  matches = [];
  lines =
      Gateway Client (zid 1) [] None None 10000 []
      ∷ Session 1 1
      ∷ Speak (DeclareToken 1 0 0 0 (Some 1))
      ∷ [];
  entries =
      Ok []
      ∷ Ok []
      ∷ Err refusal.TokenIdZero
      ∷ [];
  totals = Some (record { lines = 3; messages = 0; refusals = 1 });
}

-- ended-what-never-stood: 0 is k
abbrev pub ended_what_never_stood : Script
ended_what_never_stood = record {
  matches = [];
  lines =
      Gateway Client (zid 1) [] None None 10000 []
      ∷ FaceLine 1 Router (zid 9) North bound.South 1
      ∷ Session 1 1
      ∷ Speak (Interest 2 1 Future (options 8) (Some 0))
      ∷ Speak (InterestFinal 2 1)
      ∷ [];
  entries =
      Ok []
      ∷ Ok []
      ∷ Ok []
      ∷ Ok (sent 1 1 (message.Interest 1 Future (options 8) (Some 0)) ∷ [])
      ∷ Ok (sent 1 1 (message.InterestFinal 1) ∷ sent 1 1 (message.InterestFinal 4) ∷ [])
      ∷ [];
  totals = Some (record { lines = 5; messages = 3; refusals = 0 });
}

-- ended-while-another-mode-holds: 0 is k
abbrev pub ended_while_another_mode_holds : Script
ended_while_another_mode_holds = record {
  matches = [];
  lines =
      Gateway Client (zid 1) [] None None 10000 []
      ∷ FaceLine 1 Router (zid 9) North bound.South 1
      ∷ Session 1 1
      ∷ Speak (Interest 2 1 CurrentFuture (options 8) (Some 0))
      ∷ Speak (Interest 2 2 Future (options 8) (Some 0))
      ∷ Speak (InterestFinal 2 1)
      ∷ [];
  entries =
      Ok []
      ∷ Ok []
      ∷ Ok []
      ∷ Ok (sent 1 1 (message.Interest 1 CurrentFuture (options 8) (Some 0)) ∷ [])
      ∷ Ok (sent 1 1 (message.Interest 2 Future (options 8) (Some 0)) ∷ [])
      ∷ Ok (sent 1 1 (message.InterestFinal 1) ∷ sent 1 1 (message.InterestFinal 2) ∷ sent 1 2 (message.DeclareFinal 1) ∷ [])
      ∷ [];
  totals = Some (record { lines = 6; messages = 5; refusals = 0 });
}

-- ended-while-another-region-holds: 0 is k
abbrev pub ended_while_another_region_holds : Script
ended_while_another_region_holds = record {
  matches = [];
  lines =
      Gateway Client (zid 1) (South 0 Client ∷ []) None None 10000 []
      ∷ FaceLine 1 Router (zid 9) North bound.South 1
      ∷ Session 1 1
      ∷ FaceLine 1 Client (zid 2) (South 0 Client) bound.North 1
      ∷ Speak (Interest 2 1 Future (options 8) (Some 0))
      ∷ Speak (Interest 3 1 Future (options 8) (Some 0))
      ∷ Speak (InterestFinal 2 1)
      ∷ [];
  entries =
      Ok []
      ∷ Ok []
      ∷ Ok []
      ∷ Ok []
      ∷ Ok (sent 1 1 (message.Interest 1 Future (options 8) (Some 0)) ∷ [])
      ∷ Ok (sent 1 1 (message.Interest 2 Future (options 8) (Some 0)) ∷ [])
      ∷ Ok (sent 1 1 (message.InterestFinal 1) ∷ sent 1 1 (message.InterestFinal 2) ∷ [])
      ∷ [];
  totals = Some (record { lines = 7; messages = 4; refusals = 0 });
}

-- entities-out-of-order: 0 is k/a, 1 is k/b
abbrev pub entities_out_of_order : Script
entities_out_of_order = record {
  matches = [];
  lines =
      Gateway Client (zid 1) [] None None 10000 []
      ∷ Session 1 1
      ∷ Session 1 1
      ∷ Speak (SetEntities 2 (0 ∷ 1 ∷ []) [])
      ∷ Speak (Interest 1 1 CurrentFuture (options 2) None)
      ∷ [];
  entries =
      Ok []
      ∷ Ok []
      ∷ Ok []
      ∷ Ok []
      ∷ Ok (sent 1 1 (message.DeclareSubscriber 2 1 1) ∷ sent 1 1 (message.DeclareSubscriber 1 0 1) ∷ sent 1 1 (message.DeclareFinal 1) ∷ [])
      ∷ [];
  totals = Some (record { lines = 5; messages = 3; refusals = 0 });
}

-- entity-after-the-final: 0 is k
abbrev pub entity_after_the_final : Script
entity_after_the_final = record {
  matches = [];
  lines =
      Gateway Client (zid 1) [] None None 10000 []
      ∷ Session 1 1
      ∷ Session 1 1
      ∷ Speak (Interest 1 1 CurrentFuture (options 2) None)
      ∷ Speak (SetEntities 2 (0 ∷ []) [])
      ∷ [];
  entries =
      Ok []
      ∷ Ok []
      ∷ Ok []
      ∷ Ok (sent 1 1 (message.DeclareFinal 1) ∷ [])
      ∷ Ok (sent 1 1 (message.DeclareSubscriber 1 0 1) ∷ [])
      ∷ [];
  totals = Some (record { lines = 5; messages = 2; refusals = 0 });
}

-- entity-answered-twice: 0 is k/a
abbrev pub entity_answered_twice : Script
entity_answered_twice = record {
  matches = [];
  lines =
      Gateway Client (zid 1) [] None None 10000 []
      ∷ Session 1 1
      ∷ Session 1 1
      ∷ Speak (SetEntities 2 [] ((0, record { complete = false; distance = 3 }) ∷ []))
      ∷ Speak (Interest 1 1 CurrentFuture (options 4) None)
      ∷ [];
  entries =
      Ok []
      ∷ Ok []
      ∷ Ok []
      ∷ Ok []
      ∷ Ok (sent 1 1 (message.DeclareQueryable 1 0 (record { complete = false; distance = 3 }) 1) ∷ sent 1 1 (message.DeclareQueryable 1 0 (record { complete = false; distance = 3 }) 1) ∷ sent 1 1 (message.DeclareFinal 1) ∷ [])
      ∷ [];
  totals = Some (record { lines = 5; messages = 3; refusals = 0 });
}

-- entity-left-out: 0 is k/a, 1 is k/b
abbrev pub entity_left_out : Script
entity_left_out = record {
  matches = [];
  lines =
      Gateway Client (zid 1) [] None None 10000 []
      ∷ Session 1 1
      ∷ Session 1 1
      ∷ Speak (SetEntities 2 (0 ∷ 1 ∷ []) [])
      ∷ Speak (Interest 1 1 CurrentFuture (options 2) None)
      ∷ [];
  entries =
      Ok []
      ∷ Ok []
      ∷ Ok []
      ∷ Ok []
      ∷ Ok (sent 1 1 (message.DeclareSubscriber 2 1 1) ∷ sent 1 1 (message.DeclareFinal 1) ∷ [])
      ∷ [];
  totals = Some (record { lines = 5; messages = 2; refusals = 0 });
}
