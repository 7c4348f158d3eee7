-- Too few ids are a cause beside the others: without it the answer is the same, or one that comes after it.
use Rattle.std.proofs.Common.{◌≡◌, Bool, true, false, [], ◌∷◌, ◌++◌, Option, Some, None, refl, subst, append-nil, inl, inr}
use Rattle.std.specs.declared.cmp.Ordering.{Ordering}
use Rattle.zt_protocol.specs.Plain.{PlainCall, NewSession, NewTransport, DeclareToken, UndeclareToken, Interest, InterestFinal, DeclareFinal, CloseFace, Expire, SetTrees, SetEntities, PlainLine, Gateway, Session, Face as FaceLine, Link as LinkLine, Unlink, Step, Speak, Moment, SetTreesAt}
use Rattle.zt_protocol.specs.declared.errors.Refusal.{Refusal}
use Rattle.zt_protocol.specs.declared.errors.Refusal.TheVariants as refusal
use Rattle.zt_model.specs.Fabric.{CallAt, Fabric, line_causes, call_of, causes_of_call, is_full}
use Rattle.zt_model.specs.Refusals.{Causes, call_causes, can_draw, first_cause}
use Rattle.zt_model.specs.Rows.{Rows}
use Rattle.zt_model.specs.Transcript.{comes_to_ids}
use Rattle.zt_laws.proofs.Refusing.{OnlyIds}

-- the answer isn't that too few ids are left
abbrev pub NotIds : Option Refusal → Type 0
NotIds o = o ≡ Some refusal.IdsSpent → ⊥

-- causes that differ at too few ids alone, which is none of the first
pub record AreBeside (cs ds : Causes) : Type 0 where
  pub apart : NotIds (first_cause cs)
  pub only : OnlyIds (first_cause cs) (first_cause ds)

-- causes that are tried after it
pub record AreLate (cs : Causes) : Type 0 where
  pub apart : NotIds (first_cause cs)
  pub late : comes_to_ids (first_cause cs) ≡ true

pub late_none : AreLate []
unfolding first_cause
late_none = record { apart = λ e. cc; late = refl }

pub late_numbers : (b : Bool) (cs : Causes) → AreLate cs → AreLate ((b, refusal.NumbersSpent) ∷ cs)
unfolding first_cause
late_numbers true cs is = record { apart = λ e. cc; late = refl }
late_numbers false cs is = record { apart = is.apart; late = is.late }

beside_late : (cs : Causes) → AreLate cs → AreBeside cs cs
beside_late cs is = record { apart = is.apart; only = inl refl }

beside_more : (b : Bool) (r : Refusal) (cs ds : Causes) → NotIds (Some r) → AreBeside cs ds → AreBeside ((b, r) ∷ cs) ((b, r) ∷ ds)
unfolding first_cause
beside_more true r cs ds apart is = record { apart = apart; only = inl refl }
beside_more false r cs ds apart is = record { apart = is.apart; only = is.only }

beside_ids : (cs : Causes) → AreLate cs → AreBeside ((false, refusal.IdsSpent) ∷ cs) ((true, refusal.IdsSpent) ∷ cs)
unfolding first_cause
beside_ids cs is = record { apart = is.apart; only = inr (refl, is.late) }

-- the cause is too few ids: no earlier one holds
pub not_yet : (b : Bool) (r : Refusal) (cs : Causes) → NotIds (Some r) → first_cause ((b, r) ∷ cs) ≡ Some refusal.IdsSpent → first_cause cs ≡ Some refusal.IdsSpent
unfolding first_cause
not_yet true r cs apart h = absurd (apart h)
not_yet false r cs apart h = h

-- nor is it one of those after
pub not_after : (cs ds : Causes) → NotIds (first_cause ds) → first_cause (cs ++ ds) ≡ Some refusal.IdsSpent → first_cause cs ≡ Some refusal.IdsSpent
unfolding first_cause
not_after [] ds apart h = absurd (apart h)
not_after ((true, r) ∷ cs) ds apart h = h
not_after ((false, r) ∷ cs) ds apart h = not_after cs ds apart h

module _ {K : Type 0} (cmp : K → K → Ordering) (matching : K → K → Bool) where
  call_beside : (c : PlainCall K) (g : Rows K) (after : Causes) → AreLate after → AreBeside (call_causes cmp matching false c g ++ after) (call_causes cmp matching true c g ++ after)
  unfolding call_causes
  call_beside (NewSession first) g after late = beside_more _ _ _ _ (λ h. cc) (beside_late after late)
  call_beside (NewTransport zid whatami region bound first) g after late =
      beside_more _ _ _ _ (λ h. cc) (beside_more _ _ _ _ (λ h. cc) (beside_more _ _ _ _ (λ h. cc) (beside_ids _ (late_numbers _ after late))))
  call_beside (DeclareToken n id e node interest) g after late =
      beside_more _ _ _ _ (λ h. cc)
      (beside_more _ _ _ _ (λ h. cc) (beside_more _ _ _ _ (λ h. cc) (beside_more _ _ _ _ (λ h. cc) (beside_more _ _ _ _ (λ h. cc) (beside_more _ _ _ _ (λ h. cc) (beside_ids after late))))))
  call_beside (UndeclareToken n id given node) g after late = beside_more _ _ _ _ (λ h. cc) (beside_more _ _ _ _ (λ h. cc) (beside_more _ _ _ _ (λ h. cc) (beside_late after late)))
  call_beside (Interest n id mode options e) g after late =
      beside_more _ _ _ _ (λ h. cc)
      (beside_more _ _ _ _ (λ h. cc) (beside_more _ _ _ _ (λ h. cc) (beside_more _ _ _ _ (λ h. cc) (beside_more _ _ _ _ (λ h. cc) (beside_more _ _ _ _ (λ h. cc) (beside_ids after late))))))
  call_beside (InterestFinal n id) g after late = beside_more _ _ _ _ (λ h. cc) (beside_more _ _ _ _ (λ h. cc) (beside_late after late))
  call_beside (DeclareFinal n id) g after late = beside_more _ _ _ _ (λ h. cc) (beside_more _ _ _ _ (λ h. cc) (beside_more _ _ _ _ (λ h. cc) (beside_late after late)))
  call_beside (CloseFace n) g after late = beside_more _ _ _ _ (λ h. cc) (beside_late after late)
  call_beside (Expire now) g after late = beside_more _ _ _ _ (λ h. cc) (beside_late after late)
  call_beside (SetTrees region t) g after late = beside_more _ _ _ _ (λ h. cc) (beside_more _ _ _ _ (λ h. cc) (beside_more _ _ _ _ (λ h. cc) (beside_late after late)))
  call_beside (SetEntities n subscribers queryables) g after late = beside_more _ _ _ _ (λ h. cc) (beside_more _ _ _ _ (λ h. cc) (beside_late after late))

  of_call_beside : (at : Option (CallAt K)) (after : Causes) → AreLate after → AreBeside (causes_of_call cmp matching false at ++ after) (causes_of_call cmp matching true at ++ after)
  of_call_beside None after late = beside_late after late
  of_call_beside (Some at) after late = call_beside at.call at.rows after late

  alone_beside : (at : Option (CallAt K)) → AreBeside (causes_of_call cmp matching false at) (causes_of_call cmp matching true at)
  alone_beside at =
      subst (λ cs. AreBeside cs (causes_of_call cmp matching true at)) (append-nil (causes_of_call cmp matching false at))
      (subst (AreBeside (causes_of_call cmp matching false at ++ [])) (append-nil (causes_of_call cmp matching true at)) (of_call_beside at [] late_none))

  -- The causes of a line.
  pub line_beside : (line : PlainLine K) (s : Fabric K) → AreBeside (line_causes cmp matching false line s) (line_causes cmp matching true line s)
  unfolding line_causes
  line_beside (Gateway mode zid regions south name timeout refused) s = beside_more _ _ _ _ (λ h. cc) (beside_more _ _ _ _ (λ h. cc) (beside_late _ (late_numbers _ [] late_none)))
  line_beside (Session n first) s = beside_more _ _ _ _ (λ h. cc) (beside_late _ (late_numbers _ [] late_none))
  line_beside (FaceLine n mode zid region bound first) s =
      beside_more _ _ _ _ (λ h. cc) (of_call_beside (call_of (FaceLine n mode zid region bound first) s) ((is_full s.faces, refusal.NumbersSpent) ∷ []) (late_numbers (is_full s.faces) [] late_none))
  line_beside (LinkLine one two first back) s =
      beside_more _ _ _ _ (λ h. cc)
      (beside_more _ _ _ _ (λ h. cc) (beside_more _ _ _ _ (λ h. cc) (beside_more _ _ _ _ (λ h. cc) (beside_more _ _ _ _ (λ h. cc) (beside_ids _ (late_numbers _ [] late_none))))))
  line_beside (Unlink link) s = beside_more _ _ _ _ (λ h. cc) (beside_late [] late_none)
  line_beside (Step link back) s = beside_more _ _ _ _ (λ h. cc) (beside_more _ _ _ _ (λ h. cc) (alone_beside (call_of (Step link back) s)))
  line_beside (Speak c) s = beside_more _ _ _ _ (λ h. cc) (beside_more _ _ _ _ (λ h. cc) (alone_beside (call_of (Speak c) s)))
  line_beside (Moment n now) s = beside_more _ _ _ _ (λ h. cc) (alone_beside (call_of (Moment n now) s))
  line_beside (SetTreesAt n region t) s = beside_more _ _ _ _ (λ h. cc) (alone_beside (call_of (SetTreesAt n region t) s))

  -- a call that is refused so draws ids
  pub draws_if_spent : (c : PlainCall K) (g : Rows K) → first_cause (call_causes cmp matching true c g) ≡ Some refusal.IdsSpent → can_draw cmp matching c ≡ true
  unfolding call_causes
  draws_if_spent (DeclareToken n id e node interest) g h = refl
  draws_if_spent (Interest n id mode options e) g h = refl
  draws_if_spent (NewTransport zid whatami region bound first) g h = refl
  draws_if_spent (NewSession first) g h = absurd ((call_beside (NewSession first) g [] late_none).apart h)
  draws_if_spent (UndeclareToken n id given node) g h = absurd ((call_beside (UndeclareToken n id given node) g [] late_none).apart h)
  draws_if_spent (InterestFinal n id) g h = absurd ((call_beside (InterestFinal n id) g [] late_none).apart h)
  draws_if_spent (DeclareFinal n id) g h = absurd ((call_beside (DeclareFinal n id) g [] late_none).apart h)
  draws_if_spent (CloseFace n) g h = absurd ((call_beside (CloseFace n) g [] late_none).apart h)
  draws_if_spent (Expire now) g h = absurd ((call_beside (Expire now) g [] late_none).apart h)
  draws_if_spent (SetTrees region t) g h = absurd ((call_beside (SetTrees region t) g [] late_none).apart h)
  draws_if_spent (SetEntities n subscribers queryables) g h = absurd ((call_beside (SetEntities n subscribers queryables) g [] late_none).apart h)
