-- Wrong transcripts, as the definitions speak of them.
-- Written by tools/wrong_to_antt.py; change the transcripts or the tool, and not this file.
use Rattle.std.specs.Prelude.{[], ◌∷◌, Some, None, Ok}
use Rattle.zt_region.specs.declared.region.Bound.TheVariants as bound
use Rattle.zt_region.specs.declared.region.Region.TheVariants.{North, Local, South}
use Rattle.zt_region.specs.declared.region.WhatAmI.TheVariants.{Router, Peer, Client}
use Rattle.zt_protocol.specs.Plain.{DeclareToken, UndeclareToken, Interest, InterestFinal, DeclareFinal, CloseFace, Gateway, Session, Face as FaceLine, Speak, SetTreesAt}
use Rattle.zt_protocol.specs.declared.interests.InterestMode.TheVariants.{Current, Future, CurrentFuture}
use Rattle.zt_protocol.specs.declared.messages.Message.TheVariants as message
use Rattle.zt_model_test.specs.Script.{Script, options, sent, zid}

-- opened-without-tokens: 0 is k
abbrev pub opened_without_tokens : Script
opened_without_tokens = record {
  matches = [];
  lines =
      Gateway Client (zid 1) [] None None 10000 []
      ∷ Session 1 1
      ∷ Speak (DeclareToken 1 1 0 0 None)
      ∷ FaceLine 1 Router (zid 9) North bound.South 1
      ∷ [];
  entries =
      Ok []
      ∷ Ok []
      ∷ Ok []
      ∷ Ok []
      ∷ [];
  totals = Some (record { lines = 4; messages = 0; refusals = 0 });
}

-- other-gateway-named: 0 is k
abbrev pub other_gateway_named : Script
other_gateway_named = record {
  matches = [];
  lines =
      Gateway Client (zid 1) [] None None 10000 []
      ∷ Gateway Client (zid 2) [] None None 10000 []
      ∷ Session 1 1
      ∷ Speak (Interest 1 1 CurrentFuture (options 8) None)
      ∷ Speak (DeclareToken 1 1 0 0 None)
      ∷ [];
  entries =
      Ok []
      ∷ Ok []
      ∷ Ok []
      ∷ Ok (sent 1 1 (message.DeclareFinal 1) ∷ [])
      ∷ Ok (sent 2 1 (message.DeclareToken 1 0 None 0) ∷ [])
      ∷ [];
  totals = Some (record { lines = 5; messages = 2; refusals = 0 });
}

-- stands-when-its-declarer-closes: 0 is k
abbrev pub stands_when_its_declarer_closes : Script
stands_when_its_declarer_closes = record {
  matches = [];
  lines =
      Gateway Client (zid 1) [] None None 10000 []
      ∷ Session 1 1
      ∷ Session 1 1
      ∷ Speak (Interest 1 1 CurrentFuture (options 8) None)
      ∷ Speak (DeclareToken 2 1 0 0 None)
      ∷ Speak (CloseFace 2)
      ∷ [];
  entries =
      Ok []
      ∷ Ok []
      ∷ Ok []
      ∷ Ok (sent 1 1 (message.DeclareFinal 1) ∷ [])
      ∷ Ok (sent 1 1 (message.DeclareToken 1 0 None 0) ∷ [])
      ∷ Ok []
      ∷ [];
  totals = Some (record { lines = 6; messages = 2; refusals = 0 });
}

-- tokens-of-routers-not-told: 0 is k
abbrev pub tokens_of_routers_not_told : Script
tokens_of_routers_not_told = record {
  matches = [];
  lines =
      Gateway Router (zid 1) [] None None 10000 []
      ∷ FaceLine 1 Router (zid 2) North bound.North 1
      ∷ Session 1 1
      ∷ Speak (Interest 2 1 Future (options 8) None)
      ∷ SetTreesAt 1 North (record { routers = ((0, zid 1) ∷ (1, zid 2) ∷ []); links = ((1, 1, zid 2) ∷ []); children = ((zid 1, zid 2) ∷ []) })
      ∷ Speak (DeclareToken 1 1 0 1 None)
      ∷ [];
  entries =
      Ok []
      ∷ Ok []
      ∷ Ok []
      ∷ Ok []
      ∷ Ok []
      ∷ Ok []
      ∷ [];
  totals = Some (record { lines = 6; messages = 0; refusals = 0 });
}

-- told-rows-dropped-in-silence: 0 is k
abbrev pub told_rows_dropped_in_silence : Script
told_rows_dropped_in_silence = record {
  matches = [];
  lines =
      Gateway Client (zid 1) [] None None 10000 []
      ∷ Session 1 1
      ∷ Speak (Interest 1 1 CurrentFuture (options 8) None)
      ∷ Speak (DeclareToken 1 1 0 0 None)
      ∷ Speak (InterestFinal 1 1)
      ∷ [];
  entries =
      Ok []
      ∷ Ok []
      ∷ Ok (sent 1 1 (message.DeclareFinal 1) ∷ [])
      ∷ Ok (sent 1 1 (message.DeclareToken 1 0 None 0) ∷ [])
      ∷ Ok []
      ∷ [];
  totals = Some (record { lines = 5; messages = 2; refusals = 0 });
}

-- told-though-refused: 0 is k
abbrev pub told_though_refused : Script
told_though_refused = record {
  matches = [];
  lines =
      Gateway Client (zid 1) (South 0 Client ∷ []) None None 10000 ((South 0 Client, Local) ∷ [])
      ∷ Session 1 1
      ∷ FaceLine 1 Client (zid 2) (South 0 Client) bound.North 1
      ∷ Speak (Interest 1 1 CurrentFuture (options 8) None)
      ∷ Speak (DeclareToken 2 1 0 0 None)
      ∷ [];
  entries =
      Ok []
      ∷ Ok []
      ∷ Ok []
      ∷ Ok (sent 1 1 (message.DeclareFinal 1) ∷ [])
      ∷ Ok (sent 1 1 (message.DeclareToken 1 0 None 0) ∷ [])
      ∷ [];
  totals = Some (record { lines = 5; messages = 2; refusals = 0 });
}

-- told-under-id-zero: 0 is k
abbrev pub told_under_id_zero : Script
told_under_id_zero = record {
  matches = [];
  lines =
      Gateway Client (zid 1) [] None None 10000 []
      ∷ Session 1 1
      ∷ Speak (Interest 1 1 CurrentFuture (options 8) None)
      ∷ Speak (DeclareToken 1 1 0 0 None)
      ∷ [];
  entries =
      Ok []
      ∷ Ok []
      ∷ Ok (sent 1 1 (message.DeclareFinal 1) ∷ [])
      ∷ Ok (sent 1 1 (message.DeclareToken 0 0 None 0) ∷ [])
      ∷ [];
  totals = Some (record { lines = 4; messages = 2; refusals = 0 });
}

-- totals-of-zeros
abbrev pub totals_of_zeros : Script
totals_of_zeros = record {
  matches = [];
  lines =
      Gateway Client (zid 1) [] None None 10000 []
      ∷ Session 1 1
      ∷ [];
  entries =
      Ok []
      ∷ Ok []
      ∷ [];
  totals = Some (record { lines = 0; messages = 0; refusals = 0 });
}

-- undeclared-by-expression-though-kept: 0 is k
abbrev pub undeclared_by_expression_though_kept : Script
undeclared_by_expression_though_kept = record {
  matches = [];
  lines =
      Gateway Client (zid 1) [] None None 10000 []
      ∷ Session 1 1
      ∷ Session 1 1
      ∷ Speak (Interest 2 1 Future (options 8) None)
      ∷ Speak (DeclareToken 1 1 0 0 None)
      ∷ Speak (UndeclareToken 1 1 None 0)
      ∷ [];
  entries =
      Ok []
      ∷ Ok []
      ∷ Ok []
      ∷ Ok []
      ∷ Ok (sent 1 2 (message.DeclareToken 1 0 None 0) ∷ [])
      ∷ Ok (sent 1 2 (message.UndeclareToken 0 (Some 0) 0) ∷ [])
      ∷ [];
  totals = Some (record { lines = 6; messages = 2; refusals = 0 });
}

-- undeclared-by-expression-under-an-id: 0 is k
abbrev pub undeclared_by_expression_under_an_id : Script
undeclared_by_expression_under_an_id = record {
  matches = [];
  lines =
      Gateway Client (zid 1) [] None None 10000 []
      ∷ Session 1 1
      ∷ Session 1 1
      ∷ Speak (DeclareToken 1 1 0 0 None)
      ∷ Speak (Interest 2 1 Future (options 8) None)
      ∷ Speak (UndeclareToken 1 1 None 0)
      ∷ [];
  entries =
      Ok []
      ∷ Ok []
      ∷ Ok []
      ∷ Ok []
      ∷ Ok []
      ∷ Ok (sent 1 2 (message.UndeclareToken 7 (Some 0) 0) ∷ [])
      ∷ [];
  totals = Some (record { lines = 6; messages = 1; refusals = 0 });
}

-- undeclared-for-who-wants-nothing: 0 is k
abbrev pub undeclared_for_who_wants_nothing : Script
undeclared_for_who_wants_nothing = record {
  matches = [];
  lines =
      Gateway Client (zid 1) [] None None 10000 []
      ∷ Session 1 1
      ∷ Session 1 1
      ∷ Speak (DeclareToken 1 1 0 0 None)
      ∷ Speak (UndeclareToken 1 1 None 0)
      ∷ [];
  entries =
      Ok []
      ∷ Ok []
      ∷ Ok []
      ∷ Ok []
      ∷ Ok (sent 1 2 (message.UndeclareToken 0 (Some 0) 0) ∷ [])
      ∷ [];
  totals = Some (record { lines = 5; messages = 1; refusals = 0 });
}

-- undeclared-unkept: 0 is k
abbrev pub undeclared_unkept : Script
undeclared_unkept = record {
  matches = [];
  lines =
      Gateway Client (zid 1) [] None None 10000 []
      ∷ Session 1 1
      ∷ Speak (Interest 1 1 Future (options 8) None)
      ∷ Speak (DeclareToken 1 1 0 0 None)
      ∷ Speak (UndeclareToken 1 1 None 0)
      ∷ [];
  entries =
      Ok []
      ∷ Ok []
      ∷ Ok []
      ∷ Ok (sent 1 1 (message.DeclareToken 1 0 None 0) ∷ [])
      ∷ Ok (sent 1 1 (message.UndeclareToken 1 None 0) ∷ sent 1 1 (message.UndeclareToken 5 None 0) ∷ [])
      ∷ [];
  totals = Some (record { lines = 5; messages = 3; refusals = 0 });
}

-- undeclared-with-the-first-declarer: 0 is k
abbrev pub undeclared_with_the_first_declarer : Script
undeclared_with_the_first_declarer = record {
  matches = [];
  lines =
      Gateway Client (zid 1) [] None None 10000 []
      ∷ Session 1 1
      ∷ Session 1 1
      ∷ Speak (Interest 1 1 CurrentFuture (options 8) None)
      ∷ Speak (DeclareToken 1 1 0 0 None)
      ∷ Speak (DeclareToken 2 1 0 0 None)
      ∷ Speak (UndeclareToken 2 1 None 0)
      ∷ [];
  entries =
      Ok []
      ∷ Ok []
      ∷ Ok []
      ∷ Ok (sent 1 1 (message.DeclareFinal 1) ∷ [])
      ∷ Ok (sent 1 1 (message.DeclareToken 1 0 None 0) ∷ [])
      ∷ Ok []
      ∷ Ok (sent 1 1 (message.UndeclareToken 1 None 0) ∷ [])
      ∷ [];
  totals = Some (record { lines = 7; messages = 3; refusals = 0 });
}

-- unknown-face-accepted: 0 is k
abbrev pub unknown_face_accepted : Script
unknown_face_accepted = record {
  matches = [];
  lines =
      Gateway Client (zid 1) [] None None 10000 []
      ∷ Session 1 1
      ∷ Speak (DeclareToken 2 1 0 0 None)
      ∷ [];
  entries =
      Ok []
      ∷ Ok []
      ∷ Ok []
      ∷ [];
  totals = Some (record { lines = 3; messages = 0; refusals = 0 });
}

-- untold-what-is-wanted: 0 is k
abbrev pub untold_what_is_wanted : Script
untold_what_is_wanted = record {
  matches = [];
  lines =
      Gateway Client (zid 1) [] None None 10000 []
      ∷ Session 1 1
      ∷ Speak (Interest 1 1 CurrentFuture (options 8) (Some 0))
      ∷ Speak (Interest 1 2 CurrentFuture (options 8) None)
      ∷ Speak (DeclareToken 1 1 0 0 None)
      ∷ Speak (InterestFinal 1 1)
      ∷ [];
  entries =
      Ok []
      ∷ Ok []
      ∷ Ok (sent 1 1 (message.DeclareFinal 1) ∷ [])
      ∷ Ok (sent 1 1 (message.DeclareFinal 2) ∷ [])
      ∷ Ok (sent 1 1 (message.DeclareToken 1 0 None 0) ∷ [])
      ∷ Ok (sent 1 1 (message.UndeclareToken 1 None 0) ∷ [])
      ∷ [];
  totals = Some (record { lines = 6; messages = 4; refusals = 0 });
}

-- upstream-under-another-id
abbrev pub upstream_under_another_id : Script
upstream_under_another_id = record {
  matches = [];
  lines =
      Gateway Client (zid 1) [] None None 10000 []
      ∷ FaceLine 1 Router (zid 9) North bound.South 1
      ∷ Session 1 1
      ∷ Speak (Interest 2 1 Current (options 8) None)
      ∷ Speak (DeclareFinal 1 7)
      ∷ [];
  entries =
      Ok []
      ∷ Ok []
      ∷ Ok []
      ∷ Ok (sent 1 1 (message.Interest 7 Current (options 8) None) ∷ [])
      ∷ Ok (sent 1 2 (message.DeclareFinal 1) ∷ [])
      ∷ [];
  totals = Some (record { lines = 5; messages = 2; refusals = 0 });
}

-- visible-undeclared: 0 is k
abbrev pub visible_undeclared : Script
visible_undeclared = record {
  matches = [];
  lines =
      Gateway Client (zid 1) (South 0 Peer ∷ []) None None 10000 []
      ∷ Session 1 1
      ∷ Session 1 1
      ∷ Speak (Interest 1 1 Future (options 8) None)
      ∷ Speak (DeclareToken 2 1 0 0 None)
      ∷ Speak (UndeclareToken 1 9 (Some 0) 0)
      ∷ [];
  entries =
      Ok []
      ∷ Ok []
      ∷ Ok []
      ∷ Ok []
      ∷ Ok (sent 1 1 (message.DeclareToken 1 0 None 0) ∷ [])
      ∷ Ok (sent 1 1 (message.UndeclareToken 0 (Some 0) 0) ∷ [])
      ∷ [];
  totals = Some (record { lines = 6; messages = 2; refusals = 0 });
}
