-- What a turn of a transcript undeclares by id was kept before its line.
use Rattle.std.proofs.Common.{◌≡◌, ℕ, ◌+◌, ◌-◌, ◌≤◌, Bool, true, false, not, ◌==◌, ◌||◌, ◌&&◌, if◌then◌else◌, List, [], ◌∷◌, ◌++◌, map, filter, Option, Some, None, refl, sym, ap, ◌∙◌, subst, arith, eq-eqb, ne_eqb, eqb-true}
use Rattle.std.proofs.lemmas.Bool.{or_left, or_right}
use Rattle.std.specs.Cmp.{IsTotalOrder}
use Rattle.std.specs.List.{flat_map, list_any}
use Rattle.std.specs.declared.cmp.Ordering.{Ordering}
use Rattle.zt_region.specs.declared.region.Region.{Region}
use Rattle.zt_region.specs.declared.region.Zid.{Zid}
use Rattle.zt_protocol.specs.Plain.{PlainCall, NewSession, NewTransport, DeclareToken, UndeclareToken, Interest, InterestFinal, DeclareFinal, CloseFace, Expire, SetTrees, SetEntities, PlainLine}
use Rattle.zt_protocol.specs.declared.entries.Sent.{Sent}
use Rattle.zt_protocol.specs.declared.messages.Message.{Message}
use Rattle.zt_protocol.specs.declared.messages.Message.TheVariants as message
use Rattle.zt_model.specs.Closing.{closing, leaving, without_asks, without_face}
use Rattle.zt_model.specs.Fabric.{CallAt, Fabric, Node, Place, after_closing, after_hearing, altered_at, at_nth, both_ends, closing_call, entries_from, number_from, said_at, said_closing, said_opening, with_place, with_rows}
use Rattle.zt_model.specs.Hat.{hat_of_face}
use Rattle.zt_model.specs.Hearing.{heard, heard_all, messages_for, rows_heard}
use Rattle.zt_model.specs.Linking.{link_ends}
use Rattle.zt_model.specs.Lists.{at_id, first_where, has_id, in_key_order, is_some_and, nth}
use Rattle.zt_model.specs.Parts.{unsaid_to}
use Rattle.zt_model.specs.Promises.{Turn, UndeclaresWhatWasKept, WasKept, printed, turns_from}
use Rattle.zt_model.specs.Routing.{end_upstream_to, ended, ending, final_of_both, finalising, finish_to, unheld, untell_to}
use Rattle.zt_model.specs.Rows.{ById, Face, InterestRow, Rows}
use Rattle.zt_model.specs.Says.{Alter, Part, Say, Sends, finalising_held, find_face, forget_to, hiding_undeclared, is_routed, parts_of, said, said_by, to_each, to_face, told_id, undeclared, undeclaring, undeclaring_of, unregistered, with_face}
use Rattle.zt_model.specs.Transcript.{Each, FaceAt, face_numbered}
use Rattle.zt_model.specs.Trees.{counted_table, forgetting, greet_to, hiding, left_out, source_of, table_of, unpass_to, without_own_rows, without_routed}
use Rattle.zt_model.specs.Visible.{is_visible, shows}
use Rattle.zt_model.specs.Wants.{wants}
use Rattle.zt_laws.specs.Order.{FabricIsInOrder}
use Rattle.zt_laws.specs.Shown.{as_shown, node_shown, without_own}
use Rattle.zt_laws.specs.Sound.{HasFirstIds, RiseFrom, is_placed, rows_after_call}
use Rattle.zt_laws.proofs.Entries.{nth_of_number}
use Rattle.zt_laws.proofs.Gateways.{after_hearing_nothing, prints_map}
use Rattle.zt_laws.proofs.Hearing.{each_ruled, each_ruled_one, find_each, find_passes, heard_all-number}
use Rattle.zt_laws.proofs.CallsOrder.{altered_faces}
use Rattle.zt_laws.proofs.LinesOrder.{after_prints, faces_placed, gateway_in_order}
use Rattle.zt_laws.proofs.Lists.{any_member, by_test, each_append, each_both, each_filter, each_map, each_weaker, never, of_cond, rise_above}
use Rattle.zt_laws.proofs.PartsOrder.{each_flat_map, each_message_for}
use Rattle.zt_laws.proofs.Sorting.{printed as printed_at, sorted_each}
use Rattle.zt_laws.proofs.Told.{told_id_each}
use Rattle.zt_laws.proofs.Unlinking.{closing_case, closing_in_order}
use Rattle.zt_theorem_soundness.specs.Ran.{ran}
use Rattle.zt_theorem_soundness.proofs.CallsRun.{call_runs}
use Rattle.zt_theorem_visibility.proofs.Calls.{IsOfCalls, IsShownTurn, turns_show}
use Rattle.zt_theorem_visibility.proofs.Future.{nth_map}
use Rattle.zt_theorem_visibility.proofs.Saying.{declaration_says, declare_final_says, end_upstream_says, expiry_says, final_of_both_says, finish_says, forget_says, greet_says, hiding_says, interest_says, opening_says, openings_say, undeclaring_of_says, unpass_says, untell_says}

-- each row's id is there
own_ids : {A : Type 0} (rows : ById A) → Each (λ row. has_id row.0 rows ≡ true) rows
own_ids [] = tt
own_ids (r ∷ rows) = (
  or_left (r.0 == r.0) (has_id r.0 rows) (eq-eqb r.0 r.0 refl),
  each_weaker (λ row. has_id row.0 rows ≡ true) (λ row. has_id row.0 (r ∷ rows) ≡ true) (λ row there. or_right (row.0 == r.0) (has_id row.0 rows) there) rows (own_ids rows),
)

-- a test of a changed member, where it holds of the member before
at_back : {A : Type 0} (j n : ℕ) (h : A → A) (q : A → Bool) (x : A) (xs : List A) → nth n xs ≡ Some x → (q (h x) ≡ true → q x ≡ true) → is_some_and (nth j (at_nth n h xs)) q ≡ true → is_some_and (nth j xs) q ≡ true
at_back j n h q x [] at_ back has = has
at_back {A = A} j n h q x (y ∷ xs) at_ back has =
    by_test (n == 1)
    (λ first.
    let e : Some y ≡ Some x = rw first at at_ in
    let is : y ≡ x = cc in
    let has_ : is_some_and (nth j (h y ∷ xs)) q ≡ true = rw first at has in
    by_test (j == 1)
    (λ here. let one : q (h y) ≡ true = rw here at has_ in let own : q y ≡ true = ap q is ∙ back (ap (λ (z : A). q (h z)) (sym is) ∙ one) in rw here own)
    (λ here. let rest : is_some_and (nth (j - 1) xs) q ≡ true = rw here at has_ in rw here rest))
    (λ later.
    let has_ : is_some_and (nth j (y ∷ at_nth (n - 1) h xs)) q ≡ true = rw later at has in
    by_test (j == 1)
    (λ here. let one : q y ≡ true = rw here at has_ in rw here one)
    (λ here. let rest : is_some_and (nth (j - 1) (at_nth (n - 1) h xs)) q ≡ true = rw here at has_ in rw here (at_back (j - 1) (n - 1) h q x xs (rw later at at_) back rest)))

module _ {K : Type 0} (cmp : K → K → Ordering) (matching : K → K → Bool) where
  -- nothing is told
  abbrev NoTell : Message K → Type 0
  NoTell (message.DeclareToken id e interest node) = id ≡ 0
  NoTell m = Unit {0}

  -- nothing is undeclared by id
  abbrev NoId : Message K → Type 0
  NoId (message.UndeclareToken id None node) = ⊥
  NoId m = Unit {0}

  abbrev KeptT : (ℕ → ℕ → Bool) → ℕ → Message K → Type 0
  KeptT T k (message.UndeclareToken id None node) = T k id ≡ true
  KeptT T k m = Unit {0}

  none_kept : (T : ℕ → ℕ → Bool) (k : ℕ) (m : Message K) → NoId m → KeptT T k m
  none_kept T k (message.DeclareToken id e interest node) none_ = tt
  none_kept T k (message.UndeclareToken id None node) none_ = absurd none_
  none_kept T k (message.UndeclareToken id (Some e) node) none_ = tt
  none_kept T k (message.DeclareFinal id) none_ = tt
  none_kept T k (message.Interest id mode options e) none_ = tt
  none_kept T k (message.InterestFinal id) none_ = tt
  none_kept T k (message.DeclareSubscriber number e id) none_ = tt
  none_kept T k (message.DeclareQueryable number e info id) none_ = tt

  heard_told : (Q : ℕ → Type 0) (now : ℕ) (m : Message K) (f : Face K) → NoTell m → Each (λ row. Q row.0) f.told → Each (λ row. Q row.0) (heard cmp now m f).told
  heard_told Q now (message.DeclareToken id e interest node) f none_ own = let zero : (id == 0) ≡ true = eq-eqb id 0 none_ in rw zero own
  heard_told Q now (message.UndeclareToken id None node) f none_ own = each_filter (λ row. Q row.0) (λ row. not (id == row.0)) f.told own
  heard_told Q now (message.UndeclareToken id (Some e) node) f none_ own = each_filter (λ row. Q row.0) _ f.told own
  heard_told Q now (message.DeclareFinal id) f none_ own = own
  heard_told Q now (message.Interest id mode options e) f none_ own = own
  heard_told Q now (message.InterestFinal id) f none_ own = own
  heard_told Q now (message.DeclareSubscriber number e id) f none_ own = own
  heard_told Q now (message.DeclareQueryable number e info id) f none_ own = own

  all_told : (Q : ℕ → Type 0) (now : ℕ) (ms : List (Message K)) (f : Face K) → Each NoTell ms → Each (λ row. Q row.0) f.told → Each (λ row. Q row.0) (heard_all cmp now ms f).told
  unfolding heard_all
  all_told Q now [] f none_ own = own
  all_told Q now (m ∷ ms) f none_ own = all_told Q now ms (heard cmp now m f) none_.1 (heard_told Q now m f none_.0 own)

  module _ (T : ℕ → ℕ → Bool) where
    abbrev Told : Face K → Type 0
    Told f = Each (λ row. T f.number row.0 ≡ true) f.told

    abbrev ToldIn : Rows K → Type 0
    ToldIn g = Each Told g.faces

    abbrev Spoken : Sends K → Type 0
    Spoken ss = Each (λ s. KeptT T s.0 s.1) ss

    abbrev PartKept : Part K → Type 0
    PartKept (Alter change) = (g : Rows K) → ToldIn g → ToldIn (change g)
    PartKept (Say rule) = (g : Rows K) → Each (λ s. NoTell s.1) (rule g) × (ToldIn g → Spoken (rule g))

    heard_in : (ss : Sends K) (g : Rows K) → Each (λ s. NoTell s.1) ss → ToldIn g → ToldIn (rows_heard cmp ss g)
    unfolding rows_heard
    heard_in ss g none_ all =
        let hears = λ (f : Face K). heard_all cmp g.moment (messages_for f.number ss) f in
        each_map Told hears g.faces
        (each_weaker Told (λ f. Told (hears f))
        (λ f own.
        let ms = messages_for f.number ss in
        subst (λ k. Each (λ row. T k row.0 ≡ true) (hears f).told) (sym (heard_all-number cmp g.moment ms f)) (all_told (λ id. T f.number id ≡ true) g.moment ms f (each_message_for cmp NoTell f.number ss none_) own)) g.faces all)

    said_kept : (parts : List (Part K)) (g : Rows K) → Each PartKept parts → ToldIn g → Spoken (said_by cmp matching parts g)
    unfolding said_by
    said_kept [] g kept all = tt
    said_kept (Alter change ∷ parts) g kept all = said_kept parts (change g) kept.1 (kept.0 g all)
    said_kept (Say rule ∷ parts) g kept all =
        let h = rows_heard cmp (rule g) g in
        each_append (λ s. KeptT T s.0 s.1) (rule g) (said_by cmp matching parts h) ((kept.0 g).1 all) (said_kept parts h kept.1 (heard_in (rule g) g (kept.0 g).0 all))

    ran_kept : (parts : List (Part K)) (g : Rows K) → Each PartKept parts → ToldIn g → ToldIn (ran cmp parts g)
    unfolding ran
    ran_kept [] g kept all = all
    ran_kept (Alter change ∷ parts) g kept all = ran_kept parts (change g) kept.1 (kept.0 g all)
    ran_kept (Say rule ∷ parts) g kept all = ran_kept parts (rows_heard cmp (rule g) g) kept.1 (heard_in (rule g) g (kept.0 g).0 all)

    unsaid_kept : (n : ℕ) (parts : List (Part K)) → Each PartKept parts → Each PartKept (unsaid_to n parts)
    unfolding unsaid_to
    unsaid_kept n [] kept = tt
    unsaid_kept n (Alter change ∷ parts) kept = (kept.0, unsaid_kept n parts kept.1)
    unsaid_kept n (Say rule ∷ parts) kept = (
      λ g. (each_filter (λ s. NoTell s.1) (λ s. not (n == s.0)) (rule g) (kept.0 g).0, λ all. each_filter (λ s. KeptT T s.0 s.1) (λ s. not (n == s.0)) (rule g) ((kept.0 g).1 all)),
      unsaid_kept n parts kept.1,
    )

    -- ---- parts

    plain : (rule : Rows K → Sends K) → ((g : Rows K) → Each (λ s. NoTell s.1) (rule g)) → ((g : Rows K) → Each (λ s. NoId s.1) (rule g)) → PartKept (Say rule)
    plain rule untold none_ = λ g. (untold g, λ all. each_weaker (λ s. NoId s.1) (λ s. KeptT T s.0 s.1) (λ s one. none_kept T s.0 s.1 one) (rule g) (none_ g))

    each_spoken : (rule : Face K → List (Message K)) (fs : List (Face K)) → Each (λ f. Each (KeptT T f.number) (rule f)) fs → Spoken (to_each rule fs)
    unfolding to_each
    each_spoken rule [] all = tt
    each_spoken rule (f ∷ fs) all = each_append (λ s. KeptT T s.0 s.1) (map (λ m. (f.number, m)) (rule f)) (to_each rule fs) (each_map (λ s. KeptT T s.0 s.1) (λ m. (f.number, m)) (rule f) all.0) (each_spoken rule fs all.1)

    one_spoken : (n : ℕ) (rule : Face K → List (Message K)) (g : Rows K) → ((f : Face K) → Told f → Each (KeptT T f.number) (rule f)) → ToldIn g → Spoken (to_face n rule g)
    unfolding to_face
    one_spoken n rule g one all = cases (find_face n g) refl
      where
        cases : (o : Option (Face K)) → find_face n g ≡ o → Spoken (elim o [ None ↦ [] | Some f ↦ map (λ m. (n, m)) (rule f) ])
        cases None found = tt
        cases (Some f) found =
            let number_ : n ≡ f.number = eqb-true n f.number (find_passes (λ y. n == y.number) g.faces f found) in
            each_map (λ s. KeptT T s.0 s.1) (λ m. (n, m)) (rule f) (subst (λ k. Each (KeptT T k) (rule f)) (sym number_) (one f (find_each Told (λ y. n == y.number) g.faces f all found)))

    forget_kept : (g : Rows K) (source : Region) (e : K) (f : Face K) → Told f → Each (KeptT T f.number) (forget_to cmp matching g source e f)
    unfolding forget_to
    forget_kept g source e f own =
        by_test (is_routed g f || is_visible cmp g f.region e) (λ here. rw here tt) (λ here. rw here (cases (told_id cmp e f.told) refl))
      where
        cases : (o : Option ℕ) → told_id cmp e f.told ≡ o → (let ms : List (Message K) = elim o [ None ↦ (if wants matching f e && (hat_of_face g f).undeclares_untold && shows g.mode f.region source then message.UndeclareToken 0 (Some e) 0 ∷ [] else []) | Some id ↦ message.UndeclareToken id None 0 ∷ [] ] in Each (KeptT T f.number) ms)
        cases None found = of_cond (Each (KeptT T f.number)) (wants matching f e && (hat_of_face g f).undeclares_untold && shows g.mode f.region source) (message.UndeclareToken 0 (Some e) 0 ∷ []) [] (λ _. (tt, tt)) (λ _. tt)
        cases (Some id) found = (told_id_each cmp (λ i. T f.number i ≡ true) e f.told id own found, tt)

    untell_kept : (g : Rows K) (f : Face K) → Told f → Each (KeptT T f.number) (untell_to cmp matching g f)
    unfolding untell_to
    untell_kept g f own =
        let rule : K → List (Message K) = λ e. elim (told_id cmp e f.told) [ None ↦ [] | Some id ↦ message.UndeclareToken id None 0 ∷ [] ] in
        of_cond (Each (KeptT T f.number)) ((hat_of_face g f).is_told_unasked f.region) [] (flat_map rule (filter (λ e. not (wants matching f e)) (in_key_order cmp (map (λ row. row.1) f.told)))) (λ _. tt)
        (λ _. each_flat_map (KeptT T f.number) rule (filter (λ e. not (wants matching f e)) (in_key_order cmp (map (λ row. row.1) f.told))) (λ e. one e (told_id cmp e f.told) refl))
      where
        one : (e : K) (o : Option ℕ) → told_id cmp e f.told ≡ o → (let ms : List (Message K) = elim o [ None ↦ [] | Some id ↦ message.UndeclareToken id None 0 ∷ [] ] in Each (KeptT T f.number) ms)
        one e None found = tt
        one e (Some id) found = (told_id_each cmp (λ i. T f.number i ≡ true) e f.told id own found, tt)

    forgets : (source : Region) (e : K) → PartKept (Say (λ g. to_each (forget_to cmp matching g source e) g.faces))
    forgets source e =
        λ g. (
          each_ruled NoTell (forget_to cmp matching g source e) g.faces (forget_says cmp matching NoTell (λ i. tt) (λ x k. tt) g source e),
          λ all. each_spoken (forget_to cmp matching g source e) g.faces (each_weaker Told (λ f. Each (KeptT T f.number) (forget_to cmp matching g source e f)) (λ f own. forget_kept g source e f own) g.faces all),
        )

    face_kept : (n : ℕ) (change : Face K → Face K) → ((f : Face K) → Told f → Told (change f)) → PartKept (Alter (with_face n change))
    unfolding with_face
    face_kept n change one = λ g all. each_map Told (λ f. if n == f.number then change f else f) g.faces (each_weaker Told (λ f. Told (if n == f.number then change f else f)) (λ f own. of_cond Told (n == f.number) (change f) f (λ _. one f own) (λ _. own)) g.faces all)

    hides : (source : Region) (e : K) → Each PartKept (hiding cmp source e)
    unfolding without_own_rows
    hides source e = (plain _ (hiding_says cmp matching NoTell (λ x k. tt) source e).0 (hiding_says cmp matching NoId (λ x k. tt) source e).0, ((λ g all. all), tt))

    undeclares : (n id : ℕ) (given : Option K) (f : Face K) → Each PartKept (undeclaring cmp matching n id given f)
    undeclares n id given f = cases (undeclared cmp matching id given f)
      where
        cases : (o : Option K) → Each PartKept (elim o [ None ↦ [] | Some e ↦ Alter (with_face n (unregistered id)) ∷ Say (λ g. to_each (forget_to cmp matching g f.region e) g.faces) ∷ [] ])
        cases None = tt
        cases (Some e) = (face_kept n (unregistered id) (λ k own. own), (forgets f.region e, tt))

    finalises : (n id : ℕ) (interest : InterestRow K) → Each PartKept (finalising cmp matching n id interest)
    finalises n id interest = (
      face_kept n (unheld id) (λ k own. own),
      (
        (λ g. (each_ruled_one NoTell n (untell_to cmp matching g) g (untell_says cmp matching NoTell (λ i. tt) g), λ all. one_spoken n (untell_to cmp matching g) g (untell_kept g) all)),
        (
          plain (to_face n (final_of_both id interest)) (λ g. each_ruled_one NoTell n (final_of_both id interest) g (final_of_both_says cmp matching NoTell (λ i. tt) id interest)) (λ g. each_ruled_one NoId n (final_of_both id interest) g (final_of_both_says cmp matching NoId (λ i. tt) id interest)),
          (plain (λ g. to_each (end_upstream_to cmp matching g interest) g.faces) (λ g. each_ruled NoTell (end_upstream_to cmp matching g interest) g.faces (end_upstream_says cmp matching NoTell (λ i. tt) g interest)) (λ g. each_ruled NoId (end_upstream_to cmp matching g interest) g.faces (end_upstream_says cmp matching NoId (λ i. tt) g interest)), tt),
        ),
      ),
    )

    ends : (n id : ℕ) → Each PartKept (ending n id)
    ends n id = (
      face_kept n (ended id) (λ k own. own),
      (plain (λ g. to_each (finish_to g n id) g.faces) (λ g. each_ruled NoTell (finish_to g n id) g.faces (finish_says cmp matching NoTell (λ i. tt) g n id)) (λ g. each_ruled NoId (finish_to g n id) g.faces (finish_says cmp matching NoId (λ i. tt) g n id)), tt),
    )

    leaves : (n : ℕ) (f : Face K) → Each PartKept (leaving cmp matching n f)
    leaves n f =
        let gone = λ (row : ℕ × K). undeclaring cmp matching n row.0 None f ++ hiding cmp f.region row.1 in
        let finals = λ (row : ℕ × InterestRow K). finalising cmp matching n row.0 row.1 in
        let over = flat_map (λ row. ending n row.0) f.pendings in
        each_append PartKept (flat_map gone f.live ++ flat_map finals f.held) (Alter (with_face n without_asks) ∷ over)
        (each_append PartKept (flat_map gone f.live) (flat_map finals f.held)
        (each_flat_map PartKept gone f.live (λ row. each_append PartKept (undeclaring cmp matching n row.0 None f) (hiding cmp f.region row.1) (undeclares n row.0 None f) (hides f.region row.1)))
        (each_flat_map PartKept finals f.held (λ row. finalises n row.0 row.1)))
        (face_kept n without_asks (λ k own. own), each_flat_map PartKept (λ row. ending n row.0) f.pendings (λ row. ends n row.0))

    closes : (n : ℕ) (g : Rows K) (f : Face K) → Each PartKept (closing cmp matching n g f)
    closes n g f =
        let parts : List (Part K) = if is_routed g f then [] else unsaid_to n (leaving cmp matching n f) in
        each_append PartKept parts (Alter (without_face n) ∷ [])
        (of_cond (Each PartKept) (is_routed g f) [] (unsaid_to n (leaving cmp matching n f)) (λ _. tt) (λ _. unsaid_kept n (leaving cmp matching n f) (leaves n f)))
        ((λ h all. each_filter Told (λ k. not (n == k.number)) h.faces all), tt)

    undeclares_of : (n : ℕ) (source : Option Zid) (given : Option K) (f : Face K) → Each PartKept (undeclaring_of cmp matching n source given f)
    unfolding without_routed
    undeclares_of n None given f = tt
    undeclares_of n (Some zid) None f = tt
    undeclares_of n (Some zid) (Some e) f = (
      (λ g all. all),
      (plain _ (undeclaring_of_says cmp matching NoTell (λ i. tt) (λ x k. tt) n (Some zid) (Some e) f).1.0 (λ g. each_filter (λ s. NoId s.1) (λ s. not (n == s.0)) (to_each (unpass_to cmp g f.region zid e) g.faces) (each_ruled NoId (unpass_to cmp g f.region zid e) g.faces (unpass_says cmp matching NoId (λ x k. tt) g f.region zid e))), (forgets f.region e, hides f.region e)),
    )

    changes : (region : Region) (gone : List K) → Each PartKept (forgetting cmp matching region gone)
    changes region gone = each_flat_map PartKept (λ e. Say (λ h. to_each (forget_to cmp matching h region e) h.faces) ∷ hiding cmp region e) gone (λ e. (forgets region e, hides region e))

  -- ---- calls

  -- the face of the number keeps a pair of the id
  abbrev told_at : Rows K → ℕ → ℕ → Bool
  told_at g k id = is_some_and (find_face k g) (λ f. has_id id f.told)

  find_own : (low : ℕ) (fs : List (Face K)) → RiseFrom (λ f. f.number) low fs → Each (λ f. first_where (λ (k : Face K). f.number == k.number) fs ≡ Some f) fs
  find_own low [] up = tt
  find_own low (x ∷ fs) up = (
    (let own : (x.number == x.number) ≡ true = eq-eqb x.number x.number refl in rw own refl),
    each_both (λ f. x.number + 1 ≤ f.number) (λ f. first_where (λ (k : Face K). f.number == k.number) fs ≡ Some f) (λ f. first_where (λ (k : Face K). f.number == k.number) (x ∷ fs) ≡ Some f)
        (λ f above found. let miss : (f.number == x.number) ≡ false = ne_eqb f.number x.number (λ e. omega arith) in rw miss found) fs (rise_above (λ f. f.number) (x.number + 1) fs up.1) (find_own (x.number + 1) fs up.1),
  )

  start : (g : Rows K) → RiseFrom (λ f. f.number) 1 g.faces → ToldIn (told_at g) g
  start g up =
      each_weaker (λ f. find_face f.number g ≡ Some f) (Told (told_at g))
      (λ f found. each_weaker (λ row. has_id row.0 f.told ≡ true) (λ row. told_at g f.number row.0 ≡ true) (λ row there. ap (λ (o : Option (Face K)). is_some_and o (λ k. has_id row.0 k.told)) found ∙ there) f.told (own_ids f.told)) g.faces (find_own 1 g.faces up)

  at_face : (T : ℕ → ℕ → Bool) (n : ℕ) (g : Rows K) (parts : Face K → List (Part K)) → ((f : Face K) → Each (PartKept T) (parts f)) → Each (PartKept T) (elim (find_face n g) [ None ↦ [] | Some f ↦ parts f ])
  at_face T n g parts one = cases (find_face n g)
    where
      cases : (o : Option (Face K)) → Each (PartKept T) (elim o [ None ↦ [] | Some f ↦ parts f ])
      cases None = tt
      cases (Some f) = one f

  closing_parts : (T : ℕ → ℕ → Bool) (n : ℕ) (g : Rows K) → Each (PartKept T) (parts_of cmp matching (CloseFace n) g)
  unfolding parts_of
  closing_parts T n g = at_face T n g (closing cmp matching n g) (closes T n g)

  call_kept : (c : PlainCall K) (g : Rows K) → RiseFrom (λ f. f.number) 1 g.faces → Spoken (told_at g) (said cmp matching c g)
  unfolding parts_of said_by
  call_kept (NewSession first) g up = tt
  call_kept (NewTransport zid whatami region bound first) g up = each_weaker (λ s. NoId s.1) (λ s. KeptT (told_at g) s.0 s.1) (λ s one. none_kept (told_at g) s.0 s.1 one) (said cmp matching (NewTransport zid whatami region bound first) g) (opening_says cmp matching NoId (λ i mode options e. tt) (λ i e. tt) (λ i. tt) zid whatami region bound first g)
  call_kept (DeclareToken n id e node interest) g up = each_weaker (λ s. NoId s.1) (λ s. KeptT (told_at g) s.0 s.1) (λ s one. none_kept (told_at g) s.0 s.1 one) (said cmp matching (DeclareToken n id e node interest) g) (declaration_says cmp matching NoId (λ i x. tt) (λ x k. tt) (λ i x j. tt) n id node e interest g)
  call_kept (UndeclareToken n id given node) g up =
      said_kept (told_at g) (parts_of cmp matching (UndeclareToken n id given node) g) g
      (at_face (told_at g) n g (λ f. if is_routed g f then undeclaring_of cmp matching n (source_of g f node) given f else undeclaring cmp matching n id given f ++ hiding_undeclared cmp matching id given f)
      (λ f.
      of_cond (Each (PartKept (told_at g))) (is_routed g f) (undeclaring_of cmp matching n (source_of g f node) given f) (undeclaring cmp matching n id given f ++ hiding_undeclared cmp matching id given f)
      (λ _. undeclares_of (told_at g) n (source_of g f node) given f)
      (λ _. each_append (PartKept (told_at g)) (undeclaring cmp matching n id given f) (hiding_undeclared cmp matching id given f) (undeclares (told_at g) n id given f) (hidden f (undeclared cmp matching id given f))))) (start g up)
    where
      hidden : (f : Face K) (o : Option K) → Each (PartKept (told_at g)) (elim o [ None ↦ [] | Some e ↦ hiding cmp f.region e ])
      hidden f None = tt
      hidden f (Some e) = hides (told_at g) f.region e
  call_kept (Interest n id mode options e) g up = each_weaker (λ s. NoId s.1) (λ s. KeptT (told_at g) s.0 s.1) (λ s one. none_kept (told_at g) s.0 s.1 one) (said cmp matching (Interest n id mode options e) g) (interest_says cmp matching NoId (λ i m o x. tt) (λ i x j. tt) (λ i x info j. tt) (λ i x j. tt) (λ i. tt) n id mode options e g)
  call_kept (InterestFinal n id) g up =
      said_kept (told_at g) (parts_of cmp matching (InterestFinal n id) g) g (at_face (told_at g) n g (λ f. finalising_held cmp matching n id f) (λ f. held (at_id id f.held))) (start g up)
    where
      held : (o : Option (InterestRow K)) → Each (PartKept (told_at g)) (elim o [ None ↦ [] | Some interest ↦ finalising cmp matching n id interest ])
      held None = tt
      held (Some interest) = finalises (told_at g) n id interest
  call_kept (DeclareFinal n id) g up = each_weaker (λ s. NoId s.1) (λ s. KeptT (told_at g) s.0 s.1) (λ s one. none_kept (told_at g) s.0 s.1 one) (said cmp matching (DeclareFinal n id) g) (declare_final_says cmp matching NoId (λ i. tt) n id g)
  call_kept (CloseFace n) g up = said_kept (told_at g) (parts_of cmp matching (CloseFace n) g) g (closing_parts (told_at g) n g) (start g up)
  call_kept (Expire now) g up = each_weaker (λ s. NoId s.1) (λ s. KeptT (told_at g) s.0 s.1) (λ s one. none_kept (told_at g) s.0 s.1 one) (said cmp matching (Expire now) g) (expiry_says cmp matching NoId (λ i. tt) now g)
  call_kept (SetTrees region t) g up =
      let gone = left_out cmp region (counted_table t) g in
      said_kept (told_at g) (parts_of cmp matching (SetTrees region t) g) g (
        (λ h all. all),
        each_append (PartKept (told_at g)) (forgetting cmp matching region gone) _ (changes (told_at g) region gone) (
          (λ h all. all),
          (plain (told_at g) _ (λ h. each_ruled NoTell (greet_to cmp h region (table_of g region)) h.faces (greet_says cmp matching NoTell (λ x k. refl) h region (table_of g region))) (λ h. each_ruled NoId (greet_to cmp h region (table_of g region)) h.faces (greet_says cmp matching NoId (λ x k. tt) h region (table_of g region))), tt),
        ),
      ) (start g up)
  call_kept (SetEntities n subscribers queryables) g up = tt

  -- a closing tells nothing
  closing_told : (n : ℕ) (g : Rows K) → RiseFrom (λ f. f.number) 1 g.faces → (i id : ℕ) → told_at (rows_after_call cmp matching (CloseFace n) g) i id ≡ true → told_at g i id ≡ true
  closing_told n g up i id has = cases (find_face i h) refl
    where
      h : Rows K
      h = rows_after_call cmp matching (CloseFace n) g

      all : ToldIn (told_at g) h
      all = subst (ToldIn (told_at g)) (sym (call_runs cmp matching (CloseFace n) g)) (ran_kept (told_at g) (parts_of cmp matching (CloseFace n) g) g (closing_parts (told_at g) n g) (start g up))

      cases : (o : Option (Face K)) → find_face i h ≡ o → told_at g i id ≡ true
      cases None found = never (sym (ap (λ (o : Option (Face K)). is_some_and o (λ f. has_id id f.told)) found) ∙ has) refl
      cases (Some f) found =
          let has_ : has_id id f.told ≡ true = sym (ap (λ (o : Option (Face K)). is_some_and o (λ k. has_id id k.told)) found) ∙ has in
          let number_ : i ≡ f.number = eqb-true i f.number (find_passes (λ y. i == y.number) h.faces f found) in
          any_member (λ row. told_at g f.number row.0 ≡ true) (λ row. id == row.0) f.told (find_each (Told (told_at g)) (λ y. i == y.number) h.faces f all found) has_
          (λ row own hit. let id_ : id ≡ row.0 = eqb-true id row.0 hit in subst (λ j. told_at g i j ≡ true) (sym id_) (subst (λ k. told_at g k row.0 ≡ true) (sym number_) own))

  -- ---- fabrics

  abbrev told_here : Fabric K → ℕ → ℕ → Bool
  told_here X k id = is_some_and (nth k X.faces) (λ p. is_some_and (nth p.gateway X.gateways) (λ (x : Node K). told_at x.rows p.face id))

  kept_weaker : (T S : ℕ → ℕ → Bool) (k j : ℕ) (m : Message K) → ((id : ℕ) → T k id ≡ true → S j id ≡ true) → KeptT T k m → KeptT S j m
  kept_weaker T S k j (message.DeclareToken id e interest node) one kept = tt
  kept_weaker T S k j (message.UndeclareToken id None node) one kept = one id kept
  kept_weaker T S k j (message.UndeclareToken id (Some e) node) one kept = tt
  kept_weaker T S k j (message.DeclareFinal id) one kept = tt
  kept_weaker T S k j (message.Interest id mode options e) one kept = tt
  kept_weaker T S k j (message.InterestFinal id) one kept = tt
  kept_weaker T S k j (message.DeclareSubscriber number e id) one kept = tt
  kept_weaker T S k j (message.DeclareQueryable number e info id) one kept = tt

  some_weaker : {A : Type 0} (o : Option A) (p q : A → Bool) → ((x : A) → p x ≡ true → q x ≡ true) → is_some_and o p ≡ true → is_some_and o q ≡ true
  some_weaker None p q one has = has
  some_weaker (Some x) p q one has = one x has

  abbrev KeptIn : Fabric K → Sent K → Type 0
  KeptIn X m = KeptT (told_here X) m.face m.message

  none_in : (X : Fabric K) (ms : List (Sent K)) → Each (λ m. NoId m.message) ms → Each (KeptIn X) ms
  none_in X ms none_ = each_weaker (λ m. NoId m.message) (KeptIn X) (λ m one. none_kept (told_here X) m.face m.message one) ms none_

  told_there : (X : Fabric K) (n : ℕ) (node : Node K) → nth n X.gateways ≡ Some node → FabricIsInOrder cmp matching X → (k id : ℕ) → told_at node.rows k id ≡ true → told_here X (number_from 1 n k X.faces) id ≡ true
  told_there X n node at_ fine k id has = cases (find_face k node.rows) refl
    where
      cases : (o : Option (Face K)) → find_face k node.rows ≡ o → told_here X (number_from 1 n k X.faces) id ≡ true
      cases None found = never (sym (ap (λ (o : Option (Face K)). is_some_and o (λ f. has_id id f.told)) found) ∙ has) refl
      cases (Some f) found =
          let gateway = gateway_in_order cmp matching X n node at_ fine in
          let number_ : k ≡ f.number = eqb-true k f.number (find_passes (λ y. k == y.number) node.rows.faces f found) in
          let placed : is_placed n k X.faces ≡ true = subst (λ i. is_placed n i X.faces ≡ true) (sym number_) (find_each (λ y. is_placed n y.number X.faces ≡ true) (λ y. k == y.number) node.rows.faces f gateway.placed found) in
          let back : number_from 1 n k X.faces + 1 - 1 ≡ number_from 1 n k X.faces = omega arith in
          let place_ : nth (number_from 1 n k X.faces) X.faces ≡ Some (record { gateway = n; face = k }) = sym (ap (λ i. nth i X.faces) back) ∙ nth_of_number 1 n k X.faces placed in
          ap (λ (o : Option Place). is_some_and o (λ p. is_some_and (nth p.gateway X.gateways) (λ (x : Node K). told_at x.rows p.face id))) place_ ∙ ap (λ (o : Option (Node K)). is_some_and o (λ (x : Node K). told_at x.rows k id)) at_ ∙ has

  called_kept : (X : Fabric K) (n : ℕ) (node : Node K) (c : PlainCall K) → nth n X.gateways ≡ Some node → FabricIsInOrder cmp matching X → Each (KeptIn X) (map (printed_at X.faces n) (said cmp matching c node.rows))
  called_kept X n node c at_ fine =
      let gateway = gateway_in_order cmp matching X n node at_ fine in
      each_map (KeptIn X) (printed_at X.faces n) (said cmp matching c node.rows)
      (each_weaker (λ s. KeptT (told_at node.rows) s.0 s.1) (λ s. KeptIn X (printed_at X.faces n s)) (λ s one. kept_weaker (told_at node.rows) (told_here X) s.0 (number_from 1 n s.0 X.faces) s.1 (λ id has. told_there X n node at_ fine s.0 id has) one)
      (said cmp matching c node.rows) (call_kept c node.rows gateway.rows.lists.faces_rise))

  module _ (total : IsTotalOrder cmp) where
    closed_told : (face : ℕ) (X : Fabric K) → FabricIsInOrder cmp matching X → (k id : ℕ) → told_here (after_closing cmp matching face X) k id ≡ true → told_here X k id ≡ true
    closed_told face X fine =
        closing_case cmp matching (λ at. (k id : ℕ) → told_here (after_hearing cmp (said_at cmp matching X at) (altered_at cmp matching X at)) k id ≡ true → told_here X k id ≡ true) X face
        (λ k id. subst (λ (t : Fabric K). told_here t k id ≡ true → told_here X k id ≡ true) (sym (after_hearing_nothing cmp X)) (λ has. has))
        (λ n i node at_ k id.
        let g = node.rows in
        let ss = said cmp matching (CloseFace i) g in
        let gateway = gateway_in_order cmp matching X n node at_ fine in
        let placed = altered_faces cmp matching total (λ j. is_placed n j X.faces ≡ true) (CloseFace i) g refl gateway.rows.lists gateway.placed in
        subst (λ (t : Fabric K). told_here t k id ≡ true → told_here X k id ≡ true) (sym (after_prints cmp matching n node (CloseFace i) X (map (printed_at X.faces n) ss) (prints_map X.faces n ss) at_ placed.0 (faces_placed cmp matching X fine)))
        (λ has.
        some_weaker (nth k X.faces) (λ p. is_some_and (nth p.gateway (with_rows n (rows_after_call cmp matching (CloseFace i)) X).gateways) (λ (x : Node K). told_at x.rows p.face id)) (λ p. is_some_and (nth p.gateway X.gateways) (λ (x : Node K). told_at x.rows p.face id))
        (λ p there. at_back p.gateway n (λ (x : Node K). record x { rows = rows_after_call cmp matching (CloseFace i) x.rows }) (λ (x : Node K). told_at x.rows p.face id) node X.gateways at_ (λ own. closing_told i g gateway.rows.lists.faces_rise p.face id own) there) has))

    closings_kept : (fs : List ℕ) (X : Fabric K) → FabricIsInOrder cmp matching X → Each (KeptIn X) (said_closing cmp matching fs X)
    unfolding said_closing
    closings_kept [] X fine = tt
    closings_kept (face ∷ fs) X fine =
        let H = after_closing cmp matching face X in
        each_append (KeptIn X) (said_at cmp matching X (closing_call X face)) (said_closing cmp matching fs H)
        (closing_case cmp matching (λ at. Each (KeptIn X) (said_at cmp matching X at)) X face tt (λ n k node at_. called_kept X n node (CloseFace k) at_ fine))
        (each_weaker (KeptIn H) (KeptIn X) (λ m one. kept_weaker (told_here H) (told_here X) m.face m.face m.message (λ id has. closed_told face X fine m.face id has) one) (said_closing cmp matching fs H) (closings_kept fs H (closing_in_order cmp matching total face X fine)))

    abbrev Comes : Fabric K → List (CallAt K) → List (Sent K) → List Place → List (Node K) → List (Node K) → Type 0
    Comes s calls ms places ws gs = Each (KeptIn s) ms

    kept_of_calls : IsOfCalls cmp matching (λ s. Unit {0}) Comes
    kept_of_calls = record {
      nothing = λ s fine _. tt;
      gateway = λ mode zid regions timeout refused node s new_ fine _. tt;
      call = λ spent n node c s at_ still accepted fine _. sorted_each (KeptIn s) (map (printed_at s.faces n) (said cmp matching c node.rows)) (called_kept s n node c at_ fine);
      session = λ n first node s at_ real fine _. tt;
      transport = λ spent n node zid whatami region bound first s at_ real accepted fine _.
          let c : PlainCall K = NewTransport zid whatami region bound first in
          let ss = said cmp matching c node.rows in
          let ms = map (printed_at (with_place n s).faces n) ss in
          sorted_each (KeptIn s) ms (none_in s ms (each_map (λ (m : Sent K). NoId m.message) (printed_at (with_place n s).faces n) ss (opening_says cmp matching NoId (λ i mode options e. tt) (λ i e. tt) (λ i. tt) zid whatami region bound first node.rows)));
      link = λ spent one two first back s real real_back accepted fine _.
          let ms = said_opening cmp matching (link_ends s one two first back) s in
          sorted_each (KeptIn s) ms (none_in s ms (openings_say cmp matching NoId (λ i mode options e. tt) (λ i e. tt) (λ i. tt) (link_ends s one two first back) s));
      unlink = λ n s fine _.
          let fs = both_ends cmp matching s n in
          let kept = filter (λ m. not (list_any (λ face. face == m.face) fs)) (said_closing cmp matching fs s) in
          sorted_each (KeptIn s) kept (each_filter (KeptIn s) (λ m. not (list_any (λ face. face == m.face) fs)) (said_closing cmp matching fs s) (closings_kept fs s fine));
    }

    -- as a transcript shows it
    told_shown : (s : Fabric K) (k id : ℕ) → told_here s k id ≡ true → is_some_and (face_numbered (as_shown s) k) (λ x. has_id id x.face.told) ≡ true
    unfolding face_numbered
    told_shown s k id has = by_place (nth k s.faces) refl has
      where
        there : FaceAt K → Bool
        there x = has_id id x.face.told

        at_node : Place → Option (Node K) → Option (FaceAt K)
        at_node q o = elim o [ None ↦ None | Some x ↦ elim (find_face q.face x.rows) [ None ↦ None | Some f ↦ Some (record { gateway = q.gateway; rows = x.rows; face = f }) ] ]

        at_place : Option Place → Option (FaceAt K)
        at_place o =
            elim o [
              | None ↦ None
              | Some q ↦
                  elim (nth q.gateway (map node_shown s.gateways)) [
                    | None ↦ None
                    | Some x ↦ elim (find_face q.face x.rows) [ None ↦ None | Some f ↦ Some (record { gateway = q.gateway; rows = x.rows; face = f }) ]
                  ]
            ]

        by_face : (p : Place) (g : Rows K) (o : Option (Face K)) → is_some_and (let x : Option (FaceAt K) = elim o [ None ↦ None | Some f ↦ Some (record { gateway = p.gateway; rows = g; face = f }) ] in x) there ≡ is_some_and o (λ f. has_id id f.told)
        by_face p g None = refl
        by_face p g (Some f) = refl

        by_node : (p : Place) (o : Option (Node K)) → is_some_and (at_node p (elim o [ None ↦ None | Some x ↦ Some (node_shown x) ])) there ≡ is_some_and o (λ (x : Node K). told_at x.rows p.face id)
        by_node p None = refl
        by_node p (Some x) = by_face p (without_own x.rows) (find_face p.face x.rows)

        by_place : (o : Option Place) → nth k s.faces ≡ o → is_some_and o (λ p. is_some_and (nth p.gateway s.gateways) (λ (x : Node K). told_at x.rows p.face id)) ≡ true → is_some_and (face_numbered (as_shown s) k) there ≡ true
        by_place None at_ has_ = never has_ refl
        by_place (Some p) at_ has_ = ap (λ o. is_some_and (at_place o) there) at_ ∙ ap (λ o. is_some_and (at_node p o) there) (nth_map node_shown p.gateway s.gateways) ∙ by_node p (nth p.gateway s.gateways) ∙ has_

    kept_shown : (s : Fabric K) (t : Turn K) → FabricIsInOrder cmp matching s → Unit {0} → IsShownTurn cmp matching total (λ s. Unit {0}) Comes kept_of_calls s t → UndeclaresWhatWasKept cmp matching t
    kept_shown s t fine _ is = each_weaker (KeptIn s) (λ m. WasKept cmp matching t m.face m.message) (λ m one. kept m.face m.message one) (printed t) is.comes
      where
        kept : (k : ℕ) (m : Message K) → KeptT (told_here s) k m → WasKept cmp matching t k m
        kept k (message.DeclareToken id e interest node) one = tt
        kept k (message.UndeclareToken id None node) one = ap (λ (X : Fabric K). is_some_and (face_numbered X k) (λ x. has_id id x.face.told)) is.before_is ∙ told_shown s k id one
        kept k (message.UndeclareToken id (Some e) node) one = tt
        kept k (message.DeclareFinal id) one = tt
        kept k (message.Interest id mode options e) one = tt
        kept k (message.InterestFinal id) one = tt
        kept k (message.DeclareSubscriber number e id) one = tt
        kept k (message.DeclareQueryable number e info id) one = tt

    -- Each turn of a transcript undeclares by id what was kept.
    pub turns_undeclare_kept : (lines : List (PlainLine K)) (s : Fabric K) → Each HasFirstIds lines → FabricIsInOrder cmp matching s
        → Each (UndeclaresWhatWasKept cmp matching) (turns_from cmp matching lines (entries_from cmp matching lines s) (as_shown s))
    turns_undeclare_kept lines s real fine =
        turns_show cmp matching total (λ s. Unit {0}) Comes kept_of_calls (UndeclaresWhatWasKept cmp matching) kept_shown (λ line x first ordered _. tt) lines s real fine tt
