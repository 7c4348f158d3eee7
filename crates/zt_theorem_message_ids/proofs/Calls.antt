-- What each call says names what stands, once the call has changed what it changes itself.
use Rattle.std.proofs.Common.{◌≡◌, ℕ, ◌+◌, ◌≤◌, Bool, true, false, not, ◌==◌, if◌then◌else◌, List, [], ◌++◌, Option, Some, None, refl, sym, ap, subst}
use Rattle.std.specs.Cmp.{IsTotalOrder}
use Rattle.std.specs.List.{list_any}
use Rattle.std.specs.declared.cmp.Ordering.{Ordering}
use Rattle.zt_region.specs.declared.region.Bound.{Bound}
use Rattle.zt_region.specs.declared.region.Region.{Region}
use Rattle.zt_region.specs.declared.region.WhatAmI.{WhatAmI}
use Rattle.zt_region.specs.declared.region.Zid.{Zid}
use Rattle.zt_protocol.specs.Plain.{PlainCall, NewSession, NewTransport, DeclareToken, UndeclareToken, Interest, InterestFinal, DeclareFinal, CloseFace, Expire, SetTrees, SetEntities, Trees}
use Rattle.zt_model.specs.Closing.{closing, leaving, without_face}
use Rattle.zt_model.specs.Hearing.{messages_for, rows_heard}
use Rattle.zt_model.specs.Lists.{at_id, same}
use Rattle.zt_model.specs.Parts.{unsaid_to}
use Rattle.zt_model.specs.Routing.{face_opened, finalising, interests_from, opened, opening, opening_final, opening_interests, opening_tokens, tokens_from}
use Rattle.zt_model.specs.Rows.{ById, Face, InterestRow, Rows}
use Rattle.zt_model.specs.Says.{Part, altered, altered_by, answering, declaring, declaring_of, finalising_held, find_face, hiding_undeclared, is_routed, parts_of, registers, said, said_by, to_each, to_face, undeclaring, undeclaring_of}
use Rattle.zt_model.specs.Transcript.{Each}
use Rattle.zt_model.specs.Trees.{counted_table, forgetting, greet_to, left_out, showing, source_of, table_of}
use Rattle.zt_laws.specs.Order.{RowsAreInOrder}
use Rattle.zt_laws.specs.Sound.{CallHasFirstIds}
use Rattle.zt_laws.proofs.CallsOrder.{closing_orderly, keeps_faces, none_after_interests, opening_tokens_once, orderly_call, told_nothing_new, transport_in_order}
use Rattle.zt_laws.proofs.Hearing.{each_ruled, each_ruled_one}
use Rattle.zt_laws.proofs.Lists.{each_always, each_append, each_filter, each_map, each_weaker, of_cond}
use Rattle.zt_laws.proofs.PartsOrder.{altered_by_last, each_of_map, lists_heard, said_by_last, tolds_in_order}
use Rattle.zt_theorem_visibility.proofs.Saying.{declare_final_says, expiry_says, greet_says, interest_says, interests_say, opening_final_says}
use Rattle.zt_theorem_message_ids.proofs.Standing.{AllName, Name, NamesNothing, Standing, all_name_nothing, all_name_then, standing_of, standings}
use Rattle.zt_theorem_message_ids.proofs.Rules.{PartNames, all_at, all_forgotten, altered_stands, answering_names, declaring_names, declaring_of_names, finalising_names, hiding_undeclared_names, leaving_names, names_tokens, said_names, undeclaring_names, undeclaring_of_names, unsaid_names}

module _ {K : Type 0} (cmp : K → K → Ordering) (matching : K → K → Bool) where
  abbrev pub CallNames : PlainCall K → Rows K → Type 0
  CallNames c g = AllName cmp (said cmp matching c g) (standings (altered cmp matching c g))

  nothing_said : (c : PlainCall K) (g : Rows K) → Each (λ s. NamesNothing cmp s.1) (said cmp matching c g) → CallNames c g
  nothing_said c g nothing = all_name_nothing cmp (said cmp matching c g) (standings (altered cmp matching c g)) nothing

  -- the parts of a call at its face
  at_found : (n : ℕ) (g : Rows K) (parts : Face K → List (Part K)) → ((f : Face K) → Each (PartNames cmp matching) (parts f)) → Each (PartNames cmp matching) (elim (find_face n g) [ None ↦ [] | Some f ↦ parts f ])
  at_found n g parts one = cases (find_face n g)
    where
      cases : (o : Option (Face K)) → Each (PartNames cmp matching) (elim o [ None ↦ [] | Some f ↦ parts f ])
      cases None = tt
      cases (Some f) = one f

  declaration_names : (n id node : ℕ) (e : K) (interest : Option ℕ) (g : Rows K) → Each (PartNames cmp matching) (parts_of cmp matching (DeclareToken n id e node interest) g)
  unfolding parts_of
  declaration_names n id node e interest g =
      at_found n g (λ f. if is_routed g f then declaring_of cmp matching n (source_of g f node) e f else answering cmp matching n interest e f ++ plain f)
      (λ f.
      of_cond (Each (PartNames cmp matching)) (is_routed g f) (declaring_of cmp matching n (source_of g f node) e f) (answering cmp matching n interest e f ++ plain f)
      (λ _. declaring_of_names cmp matching n (source_of g f node) e f)
      (λ _. each_append (PartNames cmp matching) (answering cmp matching n interest e f) (plain f) (answering_names cmp matching n interest e f)
      (of_cond (Each (PartNames cmp matching)) (registers f interest) (declaring cmp matching n id e f ++ showing cmp f.region e) [] (λ _. declaring_names cmp matching n id e f) (λ _. tt))))
    where
      plain : Face K → List (Part K)
      plain f = if registers f interest then declaring cmp matching n id e f ++ showing cmp f.region e else []

  undeclaration_names : (n id node : ℕ) (given : Option K) (g : Rows K) → Each (PartNames cmp matching) (parts_of cmp matching (UndeclareToken n id given node) g)
  unfolding parts_of
  undeclaration_names n id node given g =
      at_found n g (λ f. if is_routed g f then undeclaring_of cmp matching n (source_of g f node) given f else undeclaring cmp matching n id given f ++ hiding_undeclared cmp matching id given f)
      (λ f.
      of_cond (Each (PartNames cmp matching)) (is_routed g f) (undeclaring_of cmp matching n (source_of g f node) given f) (undeclaring cmp matching n id given f ++ hiding_undeclared cmp matching id given f)
      (λ _. undeclaring_of_names cmp matching n (source_of g f node) given f)
      (λ _. each_append (PartNames cmp matching) (undeclaring cmp matching n id given f) (hiding_undeclared cmp matching id given f) (undeclaring_names cmp matching n id given f) (hiding_undeclared_names cmp matching id given f)))

  table_names : (region : Region) (t : Trees) (g : Rows K) → Each (PartNames cmp matching) (parts_of cmp matching (SetTrees region t) g)
  unfolding parts_of
  table_names region t g =
      let gone = left_out cmp region (counted_table t) g in (
        (λ h. refl),
        each_append (PartNames cmp matching) (forgetting cmp matching region gone) _ (all_forgotten cmp matching region gone) (
          (λ h. refl),
          ((λ h lists ordered. all_name_nothing cmp (to_each (greet_to cmp h region (table_of g region)) h.faces) (standings h) (each_ruled (NamesNothing cmp) (greet_to cmp h region (table_of g region)) h.faces (greet_says cmp matching (NamesNothing cmp) (λ x k. refl) h region (table_of g region)))), tt),
        ),
      )

  module _ (total : IsTotalOrder cmp) where
    interest_final_names : (n id : ℕ) (g : Rows K) → Each (PartNames cmp matching) (parts_of cmp matching (InterestFinal n id) g)
    unfolding parts_of
    interest_final_names n id g = at_found n g (λ f. finalising_held cmp matching n id f) (λ f. held (at_id id f.held))
      where
        held : (o : Option (InterestRow K)) → Each (PartNames cmp matching) (elim o [ None ↦ [] | Some interest ↦ finalising cmp matching n id interest ])
        held None = tt
        held (Some interest) = finalising_names cmp matching total n id interest

    -- a call that opens or closes no face
    kept_names : (c : PlainCall K) (g : Rows K) → keeps_faces cmp matching total c ≡ true → Each (PartNames cmp matching) (parts_of cmp matching c g) → RowsAreInOrder cmp matching g → CallNames c g
    kept_names c g keeps_ named rows =
        subst (AllName cmp (said cmp matching c g)) (sym (altered_stands cmp matching (parts_of cmp matching c g) g named))
        (said_names cmp matching (parts_of cmp matching c g) g (orderly_call cmp matching total c g keeps_) named rows.lists (tolds_in_order cmp matching g rows))

    -- ---- closing

    -- what is said to a face that is closed, but for the face's end
    closing_parts : (n : ℕ) (f : Face K) (g : Rows K) → (let parts : List (Part K) = if is_routed g f then [] else unsaid_to n (leaving cmp matching n f) in Each (PartNames cmp matching) parts)
    closing_parts n f g = of_cond (Each (PartNames cmp matching)) (is_routed g f) [] (unsaid_to n (leaving cmp matching n f)) (λ _. tt) (λ _. unsaid_names cmp matching n (leaving cmp matching n f) (leaving_names cmp matching total n f))

    -- what holds of what stands at the faces holds after a closing
    closed_stands : (P : Standing K → Type 0) (n : ℕ) (f : Face K) (g : Rows K) → Each (λ k. P (standing_of k)) g.faces → Each (λ k. P (standing_of k)) (altered_by cmp matching (closing cmp matching n g f) g).faces
    closed_stands P n f g all =
        let parts : List (Part K) = if is_routed g f then [] else unsaid_to n (leaving cmp matching n f) in
        let before = altered_by cmp matching parts g in
        subst (λ (h : Rows K). Each (λ k. P (standing_of k)) h.faces) (sym (altered_by_last cmp matching parts (without_face n) g))
        (each_filter (λ k. P (standing_of k)) (λ k. not (n == k.number)) before.faces
        (each_of_map P standing_of before.faces (subst (Each P) (sym (altered_stands cmp matching parts g (closing_parts n f g))) (each_map P standing_of g.faces all))))

    pub closing_stands : (P : Standing K → Type 0) (n : ℕ) (g : Rows K) → Each (λ k. P (standing_of k)) g.faces → Each (λ k. P (standing_of k)) (altered cmp matching (CloseFace n) g).faces
    unfolding parts_of altered_by
    closing_stands P n g all = cases (find_face n g)
      where
        cases : (o : Option (Face K)) → (let parts : List (Part K) = elim o [ None ↦ [] | Some f ↦ closing cmp matching n g f ] in Each (λ k. P (standing_of k)) (altered_by cmp matching parts g).faces)
        cases None = all
        cases (Some f) = closed_stands P n f g all

    closing_names : (n : ℕ) (g : Rows K) → RowsAreInOrder cmp matching g → CallNames (CloseFace n) g
    unfolding parts_of said_by altered_by messages_for
    closing_names n g rows = cases (find_face n g)
      where
        cases : (o : Option (Face K)) → (let parts : List (Part K) = elim o [ None ↦ [] | Some f ↦ closing cmp matching n g f ] in AllName cmp (said_by cmp matching parts g) (standings (altered_by cmp matching parts g)))
        cases None = each_always (λ v. Unit {0}) (λ v. tt) (standings g)
        cases (Some f) =
            let parts : List (Part K) = if is_routed g f then [] else unsaid_to n (leaving cmp matching n f) in
            let ss = said_by cmp matching parts g in
            let after = altered_by cmp matching (closing cmp matching n g f) g in
            let one = said_names cmp matching parts g (closing_orderly cmp matching total n f g) (closing_parts n f g) rows.lists (tolds_in_order cmp matching g rows) in
            subst (λ ts. AllName cmp ts (standings after)) (sym (said_by_last cmp matching parts (without_face n) g))
            (each_map (λ v. Name cmp (messages_for v.number ss) v) standing_of after.faces
            (closed_stands (λ v. Name cmp (messages_for v.number ss) v) n f g (each_of_map (λ v. Name cmp (messages_for v.number ss) v) standing_of g.faces one)))

    -- ---- opening

    opening_names : (zid : Zid) (whatami : WhatAmI) (region : Region) (bound : Bound) (first : ℕ) (g : Rows K) → 1 ≤ first → RowsAreInOrder cmp matching g
        → AllName cmp (said_by cmp matching (opening cmp matching zid whatami region bound first g) g) (standings (opened zid whatami region bound first g))
    unfolding said_by
    opening_names zid whatami region bound first g real rows =
        let n = g.made + 1 in
        let one = opened zid whatami region bound first g in
        let lists = (transport_in_order cmp matching total zid whatami region bound first g real rows).lists in
        let interests = to_face n (λ f. interests_from f.next (opening_interests cmp matching one f)) one in
        let two = rows_heard cmp interests one in
        let tokens = to_face n (λ f. tokens_from f.next (opening_tokens cmp matching two f)) two in
        let three = rows_heard cmp tokens two in
        let finals = to_face n (opening_final cmp matching) three in
        all_name_then cmp interests (tokens ++ (finals ++ [])) one
        (all_name_nothing cmp interests (standings one) (each_ruled_one (NamesNothing cmp) n (λ f. interests_from f.next (opening_interests cmp matching one f)) one (λ f. interests_say cmp matching (NamesNothing cmp) (λ i mode options e. tt) f.next (opening_interests cmp matching one f))))
        (all_name_then cmp tokens (finals ++ []) two
        (all_at cmp matching n (λ f. tokens_from f.next (opening_tokens cmp matching two f)) two (lists_heard cmp matching interests one lists)
        (each_weaker (λ f. (n == f.number) ≡ true → f.told ≡ []) (λ f. (n == f.number) ≡ true → Name cmp (tokens_from f.next (opening_tokens cmp matching two f)) (standing_of f))
        (λ f blank hit.
        names_tokens cmp matching total f.next (opening_tokens cmp matching two f) (standing_of f) refl (opening_tokens_once cmp matching total two f)
        (each_always (λ e. list_any (λ row. same cmp e row.1) f.told ≡ false) (λ e. ap (λ (rows : ById K). list_any (λ row. same cmp e row.1) rows) (blank hit)) (opening_tokens cmp matching two f))) two.faces
        (none_after_interests cmp matching total n (opening_interests cmp matching one) one lists (told_nothing_new cmp matching total (face_opened zid whatami region bound first g) g refl rows.lists))))
        (all_name_nothing cmp (finals ++ []) (standings three) (each_append (λ s. NamesNothing cmp s.1) finals [] (each_ruled_one (NamesNothing cmp) n (opening_final cmp matching) three (opening_final_says cmp matching (NamesNothing cmp) (λ i. tt))) tt)))

    -- What each call says names what stands.
    pub call_names : (c : PlainCall K) (g : Rows K) → CallHasFirstIds c → RowsAreInOrder cmp matching g → CallNames c g
    unfolding parts_of said_by altered_by
    call_names (NewSession first) g real rows = nothing_said (NewSession first) g tt
    call_names (NewTransport zid whatami region bound first) g real rows = opening_names zid whatami region bound first g real rows
    call_names (DeclareToken n id e node interest) g real rows = kept_names (DeclareToken n id e node interest) g refl (declaration_names n id node e interest g) rows
    call_names (UndeclareToken n id given node) g real rows = kept_names (UndeclareToken n id given node) g refl (undeclaration_names n id node given g) rows
    call_names (Interest n id mode options e) g real rows = nothing_said (Interest n id mode options e) g (interest_says cmp matching (NamesNothing cmp) (λ i m o x. tt) (λ k x i. tt) (λ k x info i. tt) (λ k x i. tt) (λ i. tt) n id mode options e g)
    call_names (InterestFinal n id) g real rows = kept_names (InterestFinal n id) g refl (interest_final_names n id g) rows
    call_names (DeclareFinal n id) g real rows = nothing_said (DeclareFinal n id) g (declare_final_says cmp matching (NamesNothing cmp) (λ i. tt) n id g)
    call_names (CloseFace n) g real rows = closing_names n g rows
    call_names (Expire now) g real rows = nothing_said (Expire now) g (expiry_says cmp matching (NamesNothing cmp) (λ i. tt) now g)
    call_names (SetTrees region t) g real rows = kept_names (SetTrees region t) g refl (table_names region t g) rows
    call_names (SetEntities n subscribers queryables) g real rows = nothing_said (SetEntities n subscribers queryables) g tt
