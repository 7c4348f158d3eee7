-- Each message of a call is for a face that is open once the call is done.
use Rattle.std.proofs.Common.{◌≡◌, ℕ, ◌+◌, Bool, true, false, not, ◌==◌, ◌||◌, if◌then◌else◌, List, [], ◌∷◌, ◌++◌, map, filter, Option, Some, None, refl, sym, ap, ◌∙◌, subst, eqb-true, eq-eqb}
use Rattle.std.proofs.lemmas.Bool.{not-true, or_left, or_right}
use Rattle.std.specs.Cmp.{IsTotalOrder}
use Rattle.std.specs.List.{flat_map, list_any}
use Rattle.std.specs.declared.cmp.Ordering.{Ordering}
use Rattle.zt_region.specs.declared.region.Bound.{Bound}
use Rattle.zt_region.specs.declared.region.Region.{Region}
use Rattle.zt_region.specs.declared.region.WhatAmI.{WhatAmI}
use Rattle.zt_region.specs.declared.region.Zid.{Zid}
use Rattle.zt_protocol.specs.Plain.{PlainCall, NewSession, NewTransport, DeclareToken, UndeclareToken, Interest, InterestFinal, DeclareFinal, CloseFace, Expire, SetTrees, SetEntities}
use Rattle.zt_protocol.specs.declared.messages.Message.{Message}
use Rattle.zt_model.specs.Closing.{closing, is_expired, leaving, without_asks, without_face}
use Rattle.zt_model.specs.Entities.{entities_for}
use Rattle.zt_model.specs.Hearing.{heard_all, messages_for, rows_heard}
use Rattle.zt_model.specs.Lists.{at_id, first_where, has_id}
use Rattle.zt_model.specs.Parts.{unsaid_to}
use Rattle.zt_model.specs.Routing.{end_upstream_to, ending, final_of_both, finalising, finish_to, finishing, interests_from, opened, opening, opening_final, opening_interests, opening_tokens, route_to, tokens_from, untell_to}
use Rattle.zt_model.specs.Rows.{Face, InterestRow, Rows}
use Rattle.zt_model.specs.Says.{Alter, Part, Say, Sends, altered, altered_by, answering, answers_of, asking, declaring, declaring_of, final_of, finalising_held, find_face, forget_to, hiding_undeclared, is_routed, parts_of, registers, row_of, said, said_by, tell_to, to_each, to_face, undeclared, undeclaring, undeclaring_of, unregistered, with_face}
use Rattle.zt_model.specs.Telling.{answer_to}
use Rattle.zt_model.specs.Transcript.{Each}
use Rattle.zt_model.specs.Trees.{counted_table, forgetting, greet_to, hide_to, hiding, left_out, pass_to, show_to, showing, source_of, table_of, unpass_to}
use Rattle.zt_laws.specs.Kept.{Told, told_of}
use Rattle.zt_laws.specs.Order.{ListsAreInOrder}
use Rattle.zt_laws.specs.Sound.{rows_after_call}
use Rattle.zt_laws.proofs.CallsOrder.{closing_orderly, keeps_faces, orderly_call}
use Rattle.zt_laws.proofs.Entries.{has_number}
use Rattle.zt_laws.proofs.Hearing.{heard_all-number}
use Rattle.zt_laws.proofs.Lists.{any-map, by_test, each_always, each_append, each_filter, each_map, each_passes, each_weaker, never, of_cond}
use Rattle.zt_laws.proofs.PartsOrder.{IsOrderlyPart, altered_by_last, altered_in_order, each_flat_map, lists_heard, said_by_last, tolds}
use Rattle.zt_laws.proofs.Sorting.{each_send}

module _ {K : Type 0} where
  -- some face of the rows has the number
  abbrev pub HasFace : Rows K → ℕ → Type 0
  HasFace g k = has_number k g.faces ≡ true

  -- each message is for a face of the rows
  abbrev pub ForFaces : Rows K → Sends K → Type 0
  ForFaces g ss = Each (λ s. HasFace g s.0) ss

  pub faces_there : (fs : List (Face K)) → Each (λ f. has_number f.number fs ≡ true) fs
  faces_there [] = tt
  faces_there (f ∷ fs) = (
    or_left (f.number == f.number) (has_number f.number fs) (eq-eqb f.number f.number refl),
    each_weaker (λ h. has_number h.number fs ≡ true) (λ h. has_number h.number (f ∷ fs) ≡ true) (λ h there. or_right (h.number == f.number) (has_number h.number fs) there) fs (faces_there fs),
  )

  -- rows whose faces have the same numbers
  abbrev pub SameNumbers : Rows K → Rows K → Type 0
  SameNumbers g h = (k : ℕ) → has_number k h.faces ≡ has_number k g.faces

  pub to_faces : (rule : Face K → List (Message K)) (g : Rows K) → ForFaces g (to_each rule g.faces)
  to_faces rule g = each_send (λ k. has_number k g.faces ≡ true) rule g.faces (faces_there g.faces)

  found_there : (n : ℕ) (fs : List (Face K)) (f : Face K) → first_where (λ h. n == h.number) fs ≡ Some f → has_number n fs ≡ true
  found_there n [] f found = cc
  found_there n (h ∷ fs) f found =
      by_test (n == h.number)
      (λ here. or_left (n == h.number) (has_number n fs) here)
      (λ here. or_right (n == h.number) (has_number n fs) (found_there n fs f (rw here at found)))

  pub to_its_face : (n : ℕ) (rule : Face K → List (Message K)) (g : Rows K) → ForFaces g (to_face n rule g)
  unfolding to_face
  to_its_face n rule g = cases (find_face n g) refl
    where
      cases : (o : Option (Face K)) → find_face n g ≡ o → (let ss : Sends K = elim o [ None ↦ [] | Some f ↦ map (λ m. (n, m)) (rule f) ] in ForFaces g ss)
      cases None found = tt
      cases (Some f) found = each_map (λ (s : ℕ × Message K). HasFace g s.0) (λ m. (n, m)) (rule f) (each_always (λ m. HasFace g n) (λ m. found_there n g.faces f found) (rule f))

  -- what a part says is for faces of the rows that it reads
  abbrev pub SaysOpen : Part K → Type 0
  SaysOpen (Alter change) = Unit {0}
  SaysOpen (Say rule) = (g : Rows K) → ForFaces g (rule g)

  each_said : (rule : Rows K → Face K → List (Message K)) → SaysOpen (Say (λ g. to_each (rule g) g.faces))
  each_said rule = λ g. to_faces (rule g) g

  one_said : (n : ℕ) (rule : Rows K → Face K → List (Message K)) → SaysOpen (Say (λ g. to_face n (rule g) g))
  one_said n rule = λ g. to_its_face n (rule g) g

  but_one_said : (n : ℕ) (rule : Rows K → Face K → List (Message K)) → SaysOpen (Say (λ g. filter (λ s. not (n == s.0)) (to_each (rule g) g.faces)))
  but_one_said n rule = λ g. each_filter (λ s. HasFace g s.0) (λ s. not (n == s.0)) (to_each (rule g) g.faces) (to_faces (rule g) g)

  for_same : (g h : Rows K) (ss : Sends K) → SameNumbers g h → ForFaces h ss → ForFaces g ss
  for_same g h ss same_ for_ = each_weaker (λ s. HasFace h s.0) (λ s. HasFace g s.0) (λ s there. sym (same_ s.0) ∙ there) ss for_

module _ {K : Type 0} (cmp : K → K → Ordering) (matching : K → K → Bool) where
  pub same_heard : (ss : Sends K) (g : Rows K) → SameNumbers g (rows_heard cmp ss g)
  unfolding rows_heard
  same_heard ss g k = hears g.faces
    where
      hears : (fs : List (Face K)) → has_number k (map (λ f. heard_all cmp g.moment (messages_for f.number ss) f) fs) ≡ has_number k fs
      hears [] = refl
      hears (f ∷ fs) =
          ap (λ n. (k == n) || has_number k (map (λ f. heard_all cmp g.moment (messages_for f.number ss) f) fs)) (heard_all-number cmp g.moment (messages_for f.number ss) f)
          ∙ ap (λ b. (k == f.number) || b) (hears fs)

  same_tolds : (g h : Rows K) → tolds cmp h ≡ tolds cmp g → SameNumbers g h
  same_tolds g h same_ k =
      sym (any-map (λ (t : Told K). k == t.number) told_of h.faces) ∙ ap (λ ts. list_any (λ (t : Told K). k == t.number) ts) same_ ∙ any-map (λ (t : Told K). k == t.number) told_of g.faces

  -- what parts say that open and close no face
  said_open : (parts : List (Part K)) (g : Rows K) → Each (IsOrderlyPart cmp matching) parts → ListsAreInOrder cmp matching g → Each SaysOpen parts → ForFaces g (said_by cmp matching parts g)
  unfolding said_by
  said_open [] g orderly lists says = tt
  said_open (Alter change ∷ parts) g orderly lists says =
      let one = orderly.0 g lists in
      for_same g (change g) (said_by cmp matching parts (change g)) (same_tolds g (change g) one.1) (said_open parts (change g) orderly.1 one.0 says.1)
  said_open (Say rule ∷ parts) g orderly lists says =
      let ss = rule g in
      let h = rows_heard cmp ss g in
      each_append (λ s. HasFace g s.0) ss (said_by cmp matching parts h) (says.0 g)
      (for_same g h (said_by cmp matching parts h) (same_heard ss g) (said_open parts h orderly.1 (lists_heard cmp matching ss g lists) says.1))

  -- ---- parts

  showing_open : (source : Region) (e : K) → Each SaysOpen (showing cmp source e)
  showing_open source e = (each_said (λ g. show_to cmp g source e), (tt, tt))

  hiding_open : (source : Region) (e : K) → Each SaysOpen (hiding cmp source e)
  hiding_open source e = (each_said (λ g. hide_to cmp g source e), (tt, tt))

  declaring_of_open : (n : ℕ) (source : Option Zid) (e : K) (f : Face K) → Each SaysOpen (declaring_of cmp matching n source e f)
  declaring_of_open n None e f = tt
  declaring_of_open n (Some zid) e f = (tt, (but_one_said n (λ g. pass_to cmp g f.region zid e), (each_said (λ g. tell_to cmp matching g f.region e), showing_open f.region e)))

  answering_open : (n : ℕ) (interest : Option ℕ) (e : K) (f : Face K) → Each SaysOpen (answering cmp matching n interest e f)
  answering_open n None e f = tt
  answering_open n (Some i) e f =
      of_cond (Each SaysOpen) (has_id i f.pendings) (Say (λ h. to_each (answer_to cmp matching n i e) h.faces) ∷ []) [] (λ _. (each_said (λ h. answer_to cmp matching n i e), tt)) (λ _. tt)

  undeclaring_open : (n id : ℕ) (given : Option K) (f : Face K) → Each SaysOpen (undeclaring cmp matching n id given f)
  undeclaring_open n id given f = cases (undeclared cmp matching id given f)
    where
      cases : (o : Option K) → Each SaysOpen (elim o [ None ↦ [] | Some e ↦ Alter (with_face n (unregistered id)) ∷ Say (λ g. to_each (forget_to cmp matching g f.region e) g.faces) ∷ [] ])
      cases None = tt
      cases (Some e) = (tt, (each_said (λ g. forget_to cmp matching g f.region e), tt))

  hiding_undeclared_open : (id : ℕ) (given : Option K) (f : Face K) → Each SaysOpen (hiding_undeclared cmp matching id given f)
  hiding_undeclared_open id given f = cases (undeclared cmp matching id given f)
    where
      cases : (o : Option K) → Each SaysOpen (elim o [ None ↦ [] | Some e ↦ hiding cmp f.region e ])
      cases None = tt
      cases (Some e) = hiding_open f.region e

  undeclaring_of_open : (n : ℕ) (source : Option Zid) (given : Option K) (f : Face K) → Each SaysOpen (undeclaring_of cmp matching n source given f)
  undeclaring_of_open n None given f = tt
  undeclaring_of_open n (Some zid) None f = tt
  undeclaring_of_open n (Some zid) (Some e) f = (tt, (but_one_said n (λ g. unpass_to cmp g f.region zid e), (each_said (λ g. forget_to cmp matching g f.region e), hiding_open f.region e)))

  finalising_open : (n id : ℕ) (interest : InterestRow K) → Each SaysOpen (finalising cmp matching n id interest)
  finalising_open n id interest = (tt, (one_said n (λ g. untell_to cmp matching g), (one_said n (λ g. final_of_both id interest), (each_said (λ g. end_upstream_to cmp matching g interest), tt))))

  ending_open : (n id : ℕ) → Each SaysOpen (ending {K = K} n id)
  ending_open n id = (tt, (each_said (λ g. finish_to g n id), tt))

  leaving_open : (n : ℕ) (f : Face K) → Each SaysOpen (leaving cmp matching n f)
  leaving_open n f =
      let gone = λ (row : ℕ × K). undeclaring cmp matching n row.0 None f ++ hiding cmp f.region row.1 in
      let finalises = λ (row : ℕ × InterestRow K). finalising cmp matching n row.0 row.1 in
      let over : List (Part K) = flat_map (λ row. ending n row.0) f.pendings in
      each_append SaysOpen (flat_map gone f.live ++ flat_map finalises f.held) (Alter (with_face n without_asks) ∷ over)
      (each_append SaysOpen (flat_map gone f.live) (flat_map finalises f.held)
      (each_flat_map SaysOpen gone f.live (λ row. each_append SaysOpen (undeclaring cmp matching n row.0 None f) (hiding cmp f.region row.1) (undeclaring_open n row.0 None f) (hiding_open f.region row.1)))
      (each_flat_map SaysOpen finalises f.held (λ row. finalising_open n row.0 row.1)))
      (tt, each_flat_map SaysOpen (λ row. ending n row.0) f.pendings (λ row. ending_open n row.0))

  -- ---- calls

  at_face_open : (n : ℕ) (g : Rows K) (parts : Face K → List (Part K)) → ((f : Face K) → Each SaysOpen (parts f)) → Each SaysOpen (elim (find_face n g) [ None ↦ [] | Some f ↦ parts f ])
  at_face_open n g parts one = cases (find_face n g)
    where
      cases : (o : Option (Face K)) → Each SaysOpen (elim o [ None ↦ [] | Some f ↦ parts f ])
      cases None = tt
      cases (Some f) = one f

  module _ (total : IsTotalOrder cmp) where
    call_says_open : (c : PlainCall K) (g : Rows K) → keeps_faces cmp matching total c ≡ true → Each SaysOpen (parts_of cmp matching c g)
    unfolding parts_of
    call_says_open (DeclareToken n id e node interest) g keeps_ =
        at_face_open n g (λ f. if is_routed g f then declaring_of cmp matching n (source_of g f node) e f else answering cmp matching n interest e f ++ plain f)
        (λ f.
        of_cond (Each SaysOpen) (is_routed g f) (declaring_of cmp matching n (source_of g f node) e f) (answering cmp matching n interest e f ++ plain f)
        (λ _. declaring_of_open n (source_of g f node) e f)
        (λ _. each_append SaysOpen (answering cmp matching n interest e f) (plain f) (answering_open n interest e f)
        (of_cond (Each SaysOpen) (registers f interest) (declaring cmp matching n id e f ++ showing cmp f.region e) [] (λ _. (tt, (each_said (λ h. tell_to cmp matching h f.region e), showing_open f.region e))) (λ _. tt))))
      where
        plain : Face K → List (Part K)
        plain f = if registers f interest then declaring cmp matching n id e f ++ showing cmp f.region e else []
    call_says_open (UndeclareToken n id given node) g keeps_ =
        at_face_open n g (λ f. if is_routed g f then undeclaring_of cmp matching n (source_of g f node) given f else undeclaring cmp matching n id given f ++ hiding_undeclared cmp matching id given f)
        (λ f.
        of_cond (Each SaysOpen) (is_routed g f) (undeclaring_of cmp matching n (source_of g f node) given f) (undeclaring cmp matching n id given f ++ hiding_undeclared cmp matching id given f)
        (λ _. undeclaring_of_open n (source_of g f node) given f)
        (λ _. each_append SaysOpen (undeclaring cmp matching n id given f) (hiding_undeclared cmp matching id given f) (undeclaring_open n id given f) (hiding_undeclared_open id given f)))
    call_says_open (Interest n id mode options e) g keeps_ =
        at_face_open n g (λ f. asking cmp matching n id (row_of cmp matching f mode options e) f.region g)
        (λ f.
        let interest = row_of cmp matching f mode options e in
        (tt, (each_said (λ h. route_to h f.region interest), (one_said n (λ h. entities_for cmp matching h id interest), (tt, (one_said n (λ h. answers_of cmp matching h id interest), (one_said n (λ h. final_of id), tt)))))))
    call_says_open (InterestFinal n id) g keeps_ = at_face_open n g (λ f. finalising_held cmp matching n id f) (λ f. held (at_id id f.held))
      where
        held : (o : Option (InterestRow K)) → Each SaysOpen (elim o [ None ↦ [] | Some interest ↦ finalising cmp matching n id interest ])
        held None = tt
        held (Some interest) = finalising_open n id interest
    call_says_open (DeclareFinal n id) g keeps_ = at_face_open n g (finishing n id) (λ f. (tt, of_cond (Each SaysOpen) (has_id id f.pendings) (ending n id) [] (λ _. ending_open n id) (λ _. tt)))
    call_says_open (Expire now) g keeps_ =
        (tt, each_flat_map SaysOpen (λ f. flat_map (λ row. ending f.number row.0) (filter (is_expired now g.timeout) f.pendings)) g.faces (λ f. each_flat_map SaysOpen (λ row. ending f.number row.0) (filter (is_expired now g.timeout) f.pendings) (λ row. ending_open f.number row.0)))
    call_says_open (SetTrees region t) g keeps_ =
        let gone = left_out cmp region (counted_table t) g in (
          tt,
          each_append SaysOpen (forgetting cmp matching region gone) _
              (each_flat_map SaysOpen (λ e. Say (λ h. to_each (forget_to cmp matching h region e) h.faces) ∷ hiding cmp region e) gone (λ e. (each_said (λ h. forget_to cmp matching h region e), hiding_open region e)))
              (tt, (each_said (λ h. greet_to cmp h region (table_of g region)), tt)),
        )
    call_says_open (SetEntities n subscribers queryables) g keeps_ = (tt, tt)
    call_says_open (NewSession first) g keeps_ = never keeps_ refl
    call_says_open (NewTransport zid whatami region bound first) g keeps_ = never keeps_ refl
    call_says_open (CloseFace n) g keeps_ = never keeps_ refl

    -- a call that opens and closes no face
    kept_open : (c : PlainCall K) (g : Rows K) → keeps_faces cmp matching total c ≡ true → ListsAreInOrder cmp matching g → ForFaces (rows_after_call cmp matching c g) (said cmp matching c g)
    kept_open c g keeps_ lists =
        let orderly = orderly_call cmp matching total c g keeps_ in
        let parts = parts_of cmp matching c g in
        let alters = altered_in_order cmp matching parts g orderly lists in
        each_weaker (λ s. HasFace g s.0) (λ s. HasFace (rows_after_call cmp matching c g) s.0)
        (λ s there. same_heard (said cmp matching c g) (altered cmp matching c g) s.0 ∙ same_tolds g (altered cmp matching c g) alters.1 s.0 ∙ there)
        (said cmp matching c g) (said_open parts g orderly lists (call_says_open c g keeps_))

    -- what parts say but to one face
    said_to_others : (n : ℕ) (parts : List (Part K)) (g : Rows K) → Each (λ s. (n == s.0) ≡ false) (said_by cmp matching (unsaid_to n parts) g)
    unfolding said_by unsaid_to
    said_to_others n [] g = tt
    said_to_others n (Alter change ∷ parts) g = said_to_others n parts (change g)
    said_to_others n (Say rule ∷ parts) g =
        let ss = filter (λ s. not (n == s.0)) (rule g) in
        each_append (λ s. (n == s.0) ≡ false) ss (said_by cmp matching (unsaid_to n parts) (rows_heard cmp ss g))
        (each_weaker (λ s. not (n == s.0) ≡ true) (λ s. (n == s.0) ≡ false) (λ s passes. not-true (n == s.0) passes) ss (each_passes (λ s. not (n == s.0)) (rule g)))
        (said_to_others n parts (rows_heard cmp ss g))

    unsaid_open : (n : ℕ) (parts : List (Part K)) → Each SaysOpen parts → Each SaysOpen (unsaid_to n parts)
    unfolding unsaid_to
    unsaid_open n [] says = tt
    unsaid_open n (Alter change ∷ parts) says = (tt, unsaid_open n parts says.1)
    unsaid_open n (Say rule ∷ parts) says = (λ g. each_filter (λ s. HasFace g s.0) (λ s. not (n == s.0)) (rule g) (says.0 g), unsaid_open n parts says.1)

    number_kept : (n k : ℕ) (fs : List (Face K)) → (n == k) ≡ false → has_number k fs ≡ true → has_number k (filter (λ f. not (n == f.number)) fs) ≡ true
    number_kept n k [] other there = there
    number_kept n k (f ∷ fs) other there =
        by_test (n == f.number)
        (λ here.
        let miss : (k == f.number) ≡ false = by_test (k == f.number) (λ own. never (eq-eqb n k (eqb-true n f.number here ∙ sym (eqb-true k f.number own))) other) (λ own. own) in
        rw here (number_kept n k fs other (rw miss at there)))
        (λ here.
        rw here
        (by_test (k == f.number)
        (λ own. or_left (k == f.number) (has_number k (filter (λ h. not (n == h.number)) fs)) own)
        (λ own. or_right (k == f.number) (has_number k (filter (λ h. not (n == h.number)) fs)) (number_kept n k fs other (rw own at there)))))

    closing_open : (n : ℕ) (g : Rows K) → ListsAreInOrder cmp matching g → ForFaces (rows_after_call cmp matching (CloseFace n) g) (said cmp matching (CloseFace n) g)
    unfolding parts_of
    closing_open n g lists = cases (find_face n g)
      where
        cases : (o : Option (Face K)) → (let parts : List (Part K) = elim o [ None ↦ [] | Some f ↦ closing cmp matching n g f ] in ForFaces (rows_heard cmp (said_by cmp matching parts g) (altered_by cmp matching parts g)) (said_by cmp matching parts g))
        cases None = unfold said_by in tt
        cases (Some f) =
            let parts : List (Part K) = if is_routed g f then [] else unsaid_to n (leaving cmp matching n f) in
            let orderly = closing_orderly cmp matching total n f g in
            let before = altered_by cmp matching parts g in
            let ss = said_by cmp matching parts g in
            let alters = altered_in_order cmp matching parts g orderly lists in
            let opens = said_open parts g orderly lists (of_cond (Each SaysOpen) (is_routed g f) [] (unsaid_to n (leaving cmp matching n f)) (λ _. tt) (λ _. unsaid_open n (leaving cmp matching n f) (leaving_open n f))) in
            let others : Each (λ s. (n == s.0) ≡ false) ss =
            of_cond (λ ps. Each (λ s. (n == s.0) ≡ false) (said_by cmp matching ps g)) (is_routed g f) [] (unsaid_to n (leaving cmp matching n f)) (λ _. unfold said_by in tt) (λ _. said_to_others n (leaving cmp matching n f) g) in
            subst (λ ts. ForFaces (rows_heard cmp ts (altered_by cmp matching (parts ++ Alter (without_face n) ∷ []) g)) ts) (sym (said_by_last cmp matching parts (without_face n) g))
            (subst (λ (h : Rows K). ForFaces (rows_heard cmp ss h) ss) (sym (altered_by_last cmp matching parts (without_face n) g))
            (open_others ss before (same_tolds g before alters.1) opens others))
          where
            open_others : (ss : Sends K) (before : Rows K) → SameNumbers g before → ForFaces g ss → Each (λ s. (n == s.0) ≡ false) ss → ForFaces (rows_heard cmp ss (without_face n before)) ss
            open_others ss before same_ opens others = both ss opens others
              where
                both : (ts : Sends K) → ForFaces g ts → Each (λ s. (n == s.0) ≡ false) ts → ForFaces (rows_heard cmp ss (without_face n before)) ts
                both [] opens_ others_ = tt
                both (s ∷ ts) opens_ others_ = (same_heard ss (without_face n before) s.0 ∙ number_kept n s.0 before.faces others_.0 (same_ s.0 ∙ opens_.0), both ts opens_.1 others_.1)

    -- a face that is closed leaves the others open
    pub closed_keeps : (n k : ℕ) (g : Rows K) → ListsAreInOrder cmp matching g → (n == k) ≡ false → has_number k g.faces ≡ true → has_number k (altered cmp matching (CloseFace n) g).faces ≡ true
    unfolding parts_of altered_by
    closed_keeps n k g lists other there = cases (find_face n g)
      where
        cases : (o : Option (Face K)) → (let parts : List (Part K) = elim o [ None ↦ [] | Some f ↦ closing cmp matching n g f ] in has_number k (altered_by cmp matching parts g).faces ≡ true)
        cases None = there
        cases (Some f) =
            let parts : List (Part K) = if is_routed g f then [] else unsaid_to n (leaving cmp matching n f) in
            let before = altered_by cmp matching parts g in
            let alters = altered_in_order cmp matching parts g (closing_orderly cmp matching total n f g) lists in
            subst (λ (h : Rows K). has_number k h.faces ≡ true) (sym (altered_by_last cmp matching parts (without_face n) g)) (number_kept n k before.faces other (same_tolds g before alters.1 k ∙ there))

    session_open : (first : ℕ) (g : Rows K) → ForFaces (rows_after_call cmp matching (NewSession first) g) (said cmp matching (NewSession first) g)
    unfolding parts_of said_by
    session_open first g = tt

    -- what a new face is sent is for itself
    transport_open : (zid : Zid) (whatami : WhatAmI) (region : Region) (bound : Bound) (first : ℕ) (g : Rows K) → (let c : PlainCall K = NewTransport zid whatami region bound first in ForFaces (rows_after_call cmp matching c g) (said cmp matching c g))
    unfolding parts_of said_by altered_by
    transport_open zid whatami region bound first g =
        let n = g.made + 1 in
        let one = opened zid whatami region bound first g in
        let interests = λ (h : Rows K). to_face n (λ f. interests_from f.next (opening_interests cmp matching h f)) h in
        let tokens = λ (h : Rows K). to_face n (λ f. tokens_from f.next (opening_tokens cmp matching h f)) h in
        let two = rows_heard cmp (interests one) one in
        let three = rows_heard cmp (tokens two) two in
        let finals = to_face n (opening_final cmp matching) three in
        let ss = said_by cmp matching (opening cmp matching zid whatami region bound first g) g in
        for_same (rows_heard cmp ss one) one ss (λ k. sym (same_heard ss one k))
        (each_append (λ s. HasFace one s.0) (interests one) (tokens two ++ (finals ++ [])) (to_its_face n (λ f. interests_from f.next (opening_interests cmp matching one f)) one)
        (each_append (λ s. HasFace one s.0) (tokens two) (finals ++ []) (for_same one two (tokens two) (same_heard (interests one) one) (to_its_face n (λ f. tokens_from f.next (opening_tokens cmp matching two f)) two))
        (each_append (λ s. HasFace one s.0) finals [] (for_same one three finals (λ k. same_heard (tokens two) two k ∙ same_heard (interests one) one k) (to_its_face n (opening_final cmp matching) three)) tt)))

    -- Each message of a call is for a face that is open after it.
    pub said_for_open : (c : PlainCall K) (g : Rows K) → ListsAreInOrder cmp matching g → ForFaces (rows_after_call cmp matching c g) (said cmp matching c g)
    said_for_open (NewSession first) g lists = session_open first g
    said_for_open (NewTransport zid whatami region bound first) g lists = transport_open zid whatami region bound first g
    said_for_open (CloseFace n) g lists = closing_open n g lists
    said_for_open (DeclareToken n id e node interest) g lists = kept_open (DeclareToken n id e node interest) g refl lists
    said_for_open (UndeclareToken n id given node) g lists = kept_open (UndeclareToken n id given node) g refl lists
    said_for_open (Interest n id mode options e) g lists = kept_open (Interest n id mode options e) g refl lists
    said_for_open (InterestFinal n id) g lists = kept_open (InterestFinal n id) g refl lists
    said_for_open (DeclareFinal n id) g lists = kept_open (DeclareFinal n id) g refl lists
    said_for_open (Expire now) g lists = kept_open (Expire now) g refl lists
    said_for_open (SetTrees region t) g lists = kept_open (SetTrees region t) g refl lists
    said_for_open (SetEntities n subscribers queryables) g lists = kept_open (SetEntities n subscribers queryables) g refl lists
