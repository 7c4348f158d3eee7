-- What an accepted call is known to be, and what it leaves.
use Rattle.std.proofs.Common.{◌≡◌, ◌+◌, ◌<◌, ◌^◌, Bool, true, None, arith, leb-false, Ok, ap, map, sym, ◌∙◌}
use Rattle.std.specs.declared.cmp.Ordering.{Ordering}
use Rattle.zt_protocol.specs.Plain.{PlainCall, NewSession, NewTransport, DeclareToken, UndeclareToken, Interest, InterestFinal, DeclareFinal, CloseFace, Expire, SetTrees, SetEntities}
use Rattle.zt_laws.proofs.Calls.{no_cause}
use Rattle.zt_laws.proofs.Seen.{faces_as_promised}
use Rattle.zt_laws.specs.Sound.{opens_face, rows_after_call}
use Rattle.zt_theorem_soundness.specs.Sound.{IsSound}
use Rattle.zt_model.specs.Journal.{cause_of, face_of_call, made_by, outcome_of, rows_after}
use Rattle.zt_model.specs.Refusals.{call_causes}
use Rattle.zt_model.specs.Rows.{Rows}
use Rattle.zt_model.specs.Says.{said}
use Rattle.zt_model.specs.Transcript.{FacesKeepWhatTheyShould}
use Rattle.zt_gateway.proofs.ByFace.{by_face_alone}
use Rattle.zt_gateway.specs.Running.{by_face, sent_alone}

module _ {K : Type 0} (cmp : K → K → Ordering) (matching : K → K → Bool) where
  -- the faces of a sound gateway keep what they should
  pub sound_as_promised : (g : Rows K) → IsSound cmp matching g → FacesKeepWhatTheyShould cmp matching g
  sound_as_promised g sound = faces_as_promised cmp matching g sound.keeps

  -- there is a number left for the face that it makes
  pub numbers_are_left : (c : PlainCall K) (g : Rows K) → cause_of cmp matching c g ≡ None → opens_face c ≡ true → g.made + 1 < 2 ^ 32
  unfolding cause_of call_causes
  numbers_are_left (NewSession first) g accepted opens =
      let below = leb-false 4294967295 g.made (no_cause _ _ _ accepted).0 in
      omega (arith, below)
  numbers_are_left (NewTransport zid whatami region bound first) g accepted opens =
      let one = (no_cause _ _ _ accepted).1 in
      let two = (no_cause _ _ _ one).1 in
      let three = (no_cause _ _ _ two).1 in
      let four = (no_cause _ _ _ three).1 in
      let below = leb-false 4294967295 g.made (no_cause _ _ _ four).0 in
      omega (arith, below)
  numbers_are_left (DeclareToken n id e node interest) g accepted opens = cc
  numbers_are_left (UndeclareToken n id given node) g accepted opens = cc
  numbers_are_left (Interest n id mode options e) g accepted opens = cc
  numbers_are_left (InterestFinal n id) g accepted opens = cc
  numbers_are_left (DeclareFinal n id) g accepted opens = cc
  numbers_are_left (CloseFace n) g accepted opens = cc
  numbers_are_left (Expire now) g accepted opens = cc
  numbers_are_left (SetTrees region table) g accepted opens = cc
  numbers_are_left (SetEntities n subscribers queryables) g accepted opens = cc

  -- it leaves what it and its messages change
  pub rows_of_accepted : (c : PlainCall K) (g : Rows K) → cause_of cmp matching c g ≡ None → rows_after_call cmp matching c g ≡ rows_after cmp matching c g
  unfolding rows_after
  rows_of_accepted c g accepted = rw (accepted, rows_after)

  -- it makes the face that it names
  pub face_of_accepted : (c : PlainCall K) (g : Rows K) → cause_of cmp matching c g ≡ None → face_of_call c g ≡ made_by cmp matching c g
  unfolding made_by
  face_of_accepted c g accepted = rw (accepted, made_by)

  -- its outcome is its messages, in order of face
  pub outcome_of_accepted : (c : PlainCall K) (g : Rows K) → cause_of cmp matching c g ≡ None → outcome_of cmp matching c g ≡ Ok (map sent_alone (by_face (said cmp matching c g)))
  unfolding outcome_of
  outcome_of_accepted c g accepted = rw (accepted, outcome_of) (ap Ok (sym (by_face_alone (said cmp matching c g))))

  -- where it makes one
  pub face_is_made : (c : PlainCall K) (g : Rows K) → cause_of cmp matching c g ≡ None → opens_face c ≡ true → made_by cmp matching c g ≡ None → ⊥
  face_is_made c g accepted opens missing = none_missing c opens (face_of_accepted c g accepted ∙ missing)
    where
      none_missing : (d : PlainCall K) → opens_face d ≡ true → face_of_call d g ≡ None → ⊥
      none_missing (NewSession first) opening none = cc
      none_missing (NewTransport zid whatami region bound first) opening none = cc
      none_missing (DeclareToken n id e node interest) opening none = cc
      none_missing (UndeclareToken n id given node) opening none = cc
      none_missing (Interest n id mode options e) opening none = cc
      none_missing (InterestFinal n id) opening none = cc
      none_missing (DeclareFinal n id) opening none = cc
      none_missing (CloseFace n) opening none = cc
      none_missing (Expire now) opening none = cc
      none_missing (SetTrees region table) opening none = cc
      none_missing (SetEntities n subscribers queryables) opening none = cc
