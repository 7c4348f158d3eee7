-- Calls that draw no ids: all but declarations, interests and the opening of a transport's face.
use Rattle.std.proofs.Common.{◌≡◌, ℕ, ◌+◌, Bool, false, if◌then◌else◌, List, [], ◌∷◌, ◌++◌, map, Option, Some, None, refl, sym, ap, ◌∙◌, subst, arith}
use Rattle.std.specs.Cmp.{IsTotalOrder}
use Rattle.std.specs.declared.cmp.Ordering.{Ordering}
use Rattle.zt_protocol.specs.Plain.{PlainCall, NewSession, NewTransport, DeclareToken, UndeclareToken, Interest, InterestFinal, DeclareFinal, CloseFace, Expire, SetTrees, SetEntities}
use Rattle.zt_model.specs.Closing.{closing, leaving, without_face}
use Rattle.zt_model.specs.Hearing.{messages_for, rows_heard}
use Rattle.zt_model.specs.Lists.{at_id}
use Rattle.zt_model.specs.Parts.{unsaid_to}
use Rattle.zt_model.specs.Refusals.{can_draw, need}
use Rattle.zt_model.specs.Routing.{finalising}
use Rattle.zt_model.specs.Rows.{Face, InterestRow, Rows}
use Rattle.zt_model.specs.Says.{Alter, Part, Say, Sends, altered, find_face, hiding_undeclared, is_routed, parts_of, said, said_by, undeclaring, undeclaring_of}
use Rattle.zt_model.specs.Transcript.{Each}
use Rattle.zt_model.specs.Trees.{source_of}
use Rattle.zt_laws.specs.Kept.{Told, told_by_all, told_of}
use Rattle.zt_laws.specs.Order.{RowsAreInOrder}
use Rattle.zt_laws.specs.Sound.{CallHasFirstIds, rows_after_call}
use Rattle.zt_laws.proofs.CallsOrder.{altered_in_order_all, silent_changing, silent_expiring, silent_finalising, silent_finishing, silent_hiding_undeclared, silent_leaving, silent_undeclaring, silent_undeclaring_of}
use Rattle.zt_laws.proofs.Lists.{each_always, each_append, each_weaker, map-map, map_alike, never, of_cond}
use Rattle.zt_laws.proofs.PartsOrder.{AreInOrder, IsSilentPart, each_message_for, said_by_last, silent_unsaid, tolds, tolds_after, tolds_heard, tolds_in_order}
use Rattle.zt_laws.proofs.ToldOrder.{DrawsNothing, IsInOrder, next_after_nothings}

module _ {K : Type 0} (cmp : K → K → Ordering) (matching : K → K → Bool) where
  -- what silent parts say draws no id
  said_draws_nothing : (parts : List (Part K)) (g : Rows K) → Each (IsSilentPart cmp matching) parts → Each (λ s. DrawsNothing s.1) (said_by cmp matching parts g)
  unfolding said_by
  said_draws_nothing [] g silent = tt
  said_draws_nothing (Alter change ∷ parts) g silent = said_draws_nothing parts (change g) silent.1
  said_draws_nothing (Say rule ∷ parts) g silent =
      each_append (λ s. DrawsNothing s.1) (rule g) (said_by cmp matching parts (rows_heard cmp (rule g) g)) (silent.0 g) (said_draws_nothing parts (rows_heard cmp (rule g) g) silent.1)

  -- messages that draw no id leave the next ids
  next_left : (ss : Sends K) (ts : List (Told K)) → Each (λ s. DrawsNothing s.1) ss → AreInOrder cmp ts → map (λ t. t.next) (tolds_after cmp ss ts) ≡ map (λ t. t.next) ts
  next_left ss ts nothing ordered =
      map-map (λ t. t.next) (λ (t : Told K). told_by_all cmp (messages_for t.number ss) t) ts
      ∙ map_alike (λ (t : Told K). (told_by_all cmp (messages_for t.number ss) t).next) (λ t. t.next) ts
      (each_weaker (IsInOrder cmp) (λ t. (told_by_all cmp (messages_for t.number ss) t).next ≡ t.next) (λ t one. next_after_nothings cmp (messages_for t.number ss) t (each_message_for cmp DrawsNothing t.number ss nothing) one.next_is_real) ts ordered)

  nexts : (g : Rows K) → map (λ t. t.next) (tolds cmp g) ≡ map (λ f. f.next) g.faces
  nexts g = map-map (λ (t : Told K). t.next) told_of g.faces

  -- a call whose messages draw no id
  next_after_call : (c : PlainCall K) (g : Rows K) → Each (λ s. DrawsNothing s.1) (said cmp matching c g) → AreInOrder cmp (tolds cmp (altered cmp matching c g)) → map (λ f. f.next) (rows_after_call cmp matching c g).faces ≡ map (λ f. f.next) (altered cmp matching c g).faces
  next_after_call c g nothing ordered =
      let a = altered cmp matching c g in
      let ss = said cmp matching c g in
      sym (nexts (rows_heard cmp ss a)) ∙ ap (map (λ t. t.next)) (tolds_heard cmp ss a) ∙ next_left ss (tolds cmp a) nothing ordered ∙ nexts a

  module _ (total : IsTotalOrder cmp) where
    silent_found : (n : ℕ) (g : Rows K) (parts : Face K → List (Part K)) → ((f : Face K) → Each (IsSilentPart cmp matching) (parts f)) → Each (IsSilentPart cmp matching) (elim (find_face n g) [ None ↦ [] | Some f ↦ parts f ])
    silent_found n g parts h = cases (find_face n g)
      where
        cases : (o : Option (Face K)) → Each (IsSilentPart cmp matching) (elim o [ None ↦ [] | Some f ↦ parts f ])
        cases None = tt
        cases (Some f) = h f

    closing_draws_nothing : (n : ℕ) (g : Rows K) → Each (λ s. DrawsNothing s.1) (said cmp matching (CloseFace n) g)
    unfolding parts_of said_by
    closing_draws_nothing n g = cases (find_face n g)
      where
        closes : (f : Face K) → Each (λ s. DrawsNothing s.1) (said_by cmp matching (closing cmp matching n g f) g)
        closes f =
            let parts : List (Part K) = if is_routed g f then [] else unsaid_to n (leaving cmp matching n f) in
            subst (Each (λ s. DrawsNothing s.1)) (sym (said_by_last cmp matching parts (without_face n) g))
            (said_draws_nothing parts g (of_cond (Each (IsSilentPart cmp matching)) (is_routed g f) [] (unsaid_to n (leaving cmp matching n f)) (λ _. tt) (λ _. silent_unsaid cmp matching n (leaving cmp matching n f) (silent_leaving cmp matching n f))))

        cases : (o : Option (Face K)) → Each (λ s. DrawsNothing s.1) (said_by cmp matching (elim o [ None ↦ [] | Some f ↦ closing cmp matching n g f ]) g)
        cases None = tt
        cases (Some f) = closes f

    -- what a call says that can draw no id
    pub said_undrawn : (c : PlainCall K) (g : Rows K) → can_draw cmp matching c ≡ false → Each (λ s. DrawsNothing s.1) (said cmp matching c g)
    unfolding parts_of said_by
    said_undrawn (NewSession first) g draws = tt
    said_undrawn (CloseFace n) g draws = closing_draws_nothing n g
    said_undrawn (UndeclareToken n id given node) g draws =
        said_draws_nothing (parts_of cmp matching (UndeclareToken n id given node) g) g
        (silent_found n g _
        (λ f.
        of_cond (Each (IsSilentPart cmp matching)) (is_routed g f) (undeclaring_of cmp matching n (source_of g f node) given f) (undeclaring cmp matching n id given f ++ hiding_undeclared cmp matching id given f)
        (λ _. silent_undeclaring_of cmp matching n (source_of g f node) given f)
        (λ _. each_append (IsSilentPart cmp matching) (undeclaring cmp matching n id given f) (hiding_undeclared cmp matching id given f) (silent_undeclaring cmp matching n id given f) (silent_hiding_undeclared cmp matching id given f))))
    said_undrawn (InterestFinal n id) g draws = said_draws_nothing (parts_of cmp matching (InterestFinal n id) g) g (silent_found n g _ (λ f. finals (at_id id f.held)))
      where
        finals : (o : Option (InterestRow K)) → Each (IsSilentPart cmp matching) (elim o [ None ↦ [] | Some interest ↦ finalising cmp matching n id interest ])
        finals None = tt
        finals (Some interest) = silent_finalising cmp matching n id interest
    said_undrawn (DeclareFinal n id) g draws = said_draws_nothing (parts_of cmp matching (DeclareFinal n id) g) g (silent_found n g _ (λ f. silent_finishing cmp matching n id f))
    said_undrawn (Expire now) g draws = said_draws_nothing (parts_of cmp matching (Expire now) g) g (silent_expiring cmp matching now g)
    said_undrawn (SetTrees region t) g draws = said_draws_nothing (parts_of cmp matching (SetTrees region t) g) g (silent_changing cmp matching region t g)
    said_undrawn (SetEntities n subscribers queryables) g draws = tt
    said_undrawn (NewTransport zid whatami region bound first) g draws = never refl draws
    said_undrawn (DeclareToken n id e node interest) g draws = never refl draws
    said_undrawn (Interest n id mode options e) g draws = never refl draws

    needs_nothing : (c : PlainCall K) (g : Rows K) (f : Face K) → can_draw cmp matching c ≡ false → need cmp matching c g f ≡ 0
    unfolding need
    needs_nothing (NewSession first) g f draws = refl
    needs_nothing (CloseFace n) g f draws = refl
    needs_nothing (UndeclareToken n id given node) g f draws = refl
    needs_nothing (InterestFinal n id) g f draws = refl
    needs_nothing (DeclareFinal n id) g f draws = refl
    needs_nothing (Expire now) g f draws = refl
    needs_nothing (SetTrees region t) g f draws = refl
    needs_nothing (SetEntities n subscribers queryables) g f draws = refl
    needs_nothing (NewTransport zid whatami region bound first) g f draws = never refl draws
    needs_nothing (DeclareToken n id e node interest) g f draws = never refl draws
    needs_nothing (Interest n id mode options e) g f draws = never refl draws

    -- a call that can draw no ids draws none, and needs none
    pub others_draw_nothing : (c : PlainCall K) (g : Rows K) → can_draw cmp matching c ≡ false → CallHasFirstIds c → RowsAreInOrder cmp matching g → map (λ f. f.next) (rows_after_call cmp matching c g).faces ≡ map (λ f. f.next + need cmp matching c g f) (altered cmp matching c g).faces
    others_draw_nothing c g draws real rows =
        next_after_call c g (said_undrawn c g draws) (tolds_in_order cmp matching (altered cmp matching c g) (altered_in_order_all cmp matching total c g real rows))
        ∙ map_alike (λ f. f.next) (λ f. f.next + need cmp matching c g f) (altered cmp matching c g).faces
        (each_always (λ f. f.next ≡ f.next + need cmp matching c g f) (λ f. let none_ = needs_nothing c g f draws in omega arith) (altered cmp matching c g).faces)
