-- The parts of calls at a gateway of a tree: a fact of all that they say, where the rows stay of a kind on the way.
use Rattle.std.proofs.Common.{◌≡◌, ℕ, Bool, true, false, if◌then◌else◌, ◌&&◌, ◌==◌, not, List, [], ◌∷◌, ◌++◌, map, filter, Option, Some, None, refl, sym, ap, ◌∙◌, subst, eqb-true}
use Rattle.std.proofs.lemmas.Bool.{and_from}
use Rattle.std.specs.List.{flat_map, list_any}
use Rattle.std.specs.declared.cmp.Ordering.{Ordering}
use Rattle.zt_region.specs.declared.region.Region.{Region}
use Rattle.zt_protocol.specs.Plain.{PlainCall, DeclareToken, UndeclareToken, Interest, InterestFinal, DeclareFinal, CloseFace, SetEntities, SetTrees, Trees}
use Rattle.zt_protocol.specs.declared.interests.InterestMode.{InterestMode}
use Rattle.zt_protocol.specs.declared.interests.InterestOptions.{InterestOptions}
use Rattle.zt_protocol.specs.declared.messages.Message.{Message}
use Rattle.zt_protocol.specs.declared.messages.QueryableInfo.{QueryableInfo}
use Rattle.zt_model.specs.Closing.{closing, leaving, without_asks, without_face}
use Rattle.zt_model.specs.Entities.{with_entities}
use Rattle.zt_model.specs.Hearing.{heard, heard_all, messages_for, rows_heard}
use Rattle.zt_model.specs.Lists.{at_id, has_id}
use Rattle.zt_model.specs.Parts.{Alter, Part, Say, Sends, altered_by, find_face, is_routed, said_by, to_each, to_face, unsaid_to, with_face}
use Rattle.zt_model.specs.Routing.{end_upstream_to, ended, ending, final_of_both, finalising, finish_to, finishing, initial_finalised, unheld, untell_to}
use Rattle.zt_model.specs.Rows.{Face, InterestRow, Pending, Rows}
use Rattle.zt_model.specs.Says.{asking, declaring_of, finalising_held, forget_to, hiding_undeclared, parts_of, row_of, said, tell_to, undeclaring_of}
use Rattle.zt_model.specs.Telling.{answer_to, answering, declaring, registered, registers, undeclared, undeclaring, unregistered}
use Rattle.zt_model.specs.Transcript.{Each}
use Rattle.zt_model.specs.Trees.{counted_table, forgetting, greet_to, hide_to, hiding, left_out, table_of, with_table, without_left_out, is_newly_shown, router_regions, show_to, showing, source_of, with_own_rows, without_own_rows}
use Rattle.zt_laws.specs.Sound.{rows_after_call}
use Rattle.zt_laws.proofs.Hearing.{find_each, heard_all-number}
use Rattle.zt_laws.proofs.Lists.{any-filter, any-map, any_alike, any_weaker, by_test, each_append, each_filter, each_map, each_weaker, of_cond}
use Rattle.zt_laws.proofs.PartsOrder.{each_flat_map}
use Rattle.zt_theorem_tree_invariant.specs.Facts.{IsTreeFace}
use Rattle.zt_theorem_tree_invariant.proofs.Knowledge.{is_no_router}
use Rattle.zt_theorem_tree_invariant.proofs.Saying.{TreeRows}

-- a fact of what is said to one face
abbrev pub To : {K : Type 0} → ℕ → (Message K → Type 0) → ℕ × Message K → Type 0
To p M s = (p == s.0) ≡ true → M s.1

module _ {K : Type 0} (p : ℕ) (M : Message K → Type 0) where
  to_own : (k : ℕ) (ms : List (Message K)) → ((p == k) ≡ true → Each M ms) → Each (To p M) (map (λ m. (k, m)) ms)
  to_own k [] h = tt
  to_own k (m ∷ ms) h = ((λ is. (h is).0), to_own k ms (λ is. (h is).1))

  -- a rule for each face says so
  pub each_to : (rule : Face K → List (Message K)) (fs : List (Face K)) → Each (λ f. (p == f.number) ≡ true → Each M (rule f)) fs → Each (To p M) (to_each rule fs)
  unfolding to_each
  each_to rule [] all = tt
  each_to rule (f ∷ fs) all = each_append (To p M) (map (λ m. (f.number, m)) (rule f)) (to_each rule fs) (to_own f.number (rule f) all.0) (each_to rule fs all.1)

  -- and one for one face
  pub one_to : (n : ℕ) (rule : Face K → List (Message K)) (g : Rows K) → Each (λ f. (n == f.number) ≡ true → (p == n) ≡ true → Each M (rule f)) g.faces → Each (To p M) (to_face n rule g)
  unfolding to_face
  one_to n rule g all = cases (find_face n g) refl
    where
      cases : (o : Option (Face K)) → find_face n g ≡ o → Each (To p M) (elim o [ None ↦ [] | Some f ↦ map (λ m. (n, m)) (rule f) ])
      cases None found = tt
      cases (Some f) found = to_own n (rule f) (find_there f found)
        where
          find_there : (f : Face K) → find_face n g ≡ Some f → (p == n) ≡ true → Each M (rule f)
          find_there f there = go g.faces all there
            where
              go : (fs : List (Face K)) → Each (λ f. (n == f.number) ≡ true → (p == n) ≡ true → Each M (rule f)) fs → (let o : Option (Face K) = find_face n (record g { faces = fs }) in o) ≡ Some f → (p == n) ≡ true → Each M (rule f)
              go [] each_ is = cc
              go (h ∷ fs) each_ is =
                  by_test (n == h.number)
                  (λ here. let e : Some h ≡ Some f = rw here at is in let same_ : h ≡ f = cc in λ own. subst (λ (k : Face K). Each M (rule k)) same_ (each_.0 here own))
                  (λ here. go fs each_.1 (rw here at is))

  -- what a face is sent
  pub sent_to : (k : ℕ) (ss : Sends K) → (p == k) ≡ true → Each (To p M) ss → Each M (messages_for k ss)
  unfolding messages_for
  sent_to k [] own all = tt
  sent_to k (s ∷ ss) own all =
      of_cond (Each M) (k == s.0) (s.1 ∷ messages_for k ss) (messages_for k ss)
      (λ here. (all.0 (ap (λ n. n == s.0) (eqb-true p k own) ∙ here), sent_to k ss own all.1)) (λ _. sent_to k ss own all.1)

  -- a fact of the face that what it hears keeps
  module _ (cmp : K → K → Ordering) (C : Face K → Type 0) where
    abbrev pub Own : List (Face K) → Type 0
    Own fs = Each (λ f. (p == f.number) ≡ true → C f) fs

    heard_all_own : ((now : ℕ) (m : Message K) (f : Face K) → C f → M m → C (heard cmp now m f)) → (now : ℕ) (ms : List (Message K)) (f : Face K) → C f → Each M ms → C (heard_all cmp now ms f)
    unfolding heard_all
    heard_all_own hear now [] f own all = own
    heard_all_own hear now (m ∷ ms) f own all = heard_all_own hear now ms (heard cmp now m f) (hear now m f own all.0) all.1

    pub own_heard : ((now : ℕ) (m : Message K) (f : Face K) → C f → M m → C (heard cmp now m f)) → (ss : Sends K) (g : Rows K) → Each (To p M) ss → Own g.faces → Own (rows_heard cmp ss g).faces
    unfolding rows_heard
    own_heard hear ss g said_ all =
        each_map (λ f. (p == f.number) ≡ true → C f) (λ f. heard_all cmp g.moment (messages_for f.number ss) f) g.faces
        (each_weaker (λ f. (p == f.number) ≡ true → C f) (λ f. (p == (heard_all cmp g.moment (messages_for f.number ss) f).number) ≡ true → C (heard_all cmp g.moment (messages_for f.number ss) f))
        (λ f own is.
        let here : (p == f.number) ≡ true = ap (λ n. p == n) (sym (heard_all-number cmp g.moment (messages_for f.number ss) f)) ∙ is in
        heard_all_own hear g.moment (messages_for f.number ss) f (own here) (sent_to f.number ss here said_))
        g.faces all)

    pub own_changed : (n : ℕ) (change : Face K → Face K) → ((f : Face K) → (change f).number ≡ f.number) → ((f : Face K) → (n == f.number) ≡ true → (p == f.number) ≡ true → C f → C (change f)) → (g : Rows K) → Own g.faces → Own (with_face n change g).faces
    unfolding with_face
    own_changed n change still keeps_ g all =
        each_map (λ f. (p == f.number) ≡ true → C f) (λ f. if n == f.number then change f else f) g.faces
        (each_weaker (λ f. (p == f.number) ≡ true → C f) (λ f. (p == (if n == f.number then change f else f).number) ≡ true → C (if n == f.number then change f else f))
        (λ f own.
        of_cond (λ (h : Face K). (p == h.number) ≡ true → C h) (n == f.number) (change f) f
        (λ here is. let is_ : (p == f.number) ≡ true = ap (λ k. p == k) (sym (still f)) ∙ is in keeps_ f here is_ (own is_)) (λ _. own))
        g.faces all)

    -- a rule for each face, of which one is followed
    pub own_each : (rule : Face K → List (Message K)) (fs : List (Face K)) → ((f : Face K) → C f → Each M (rule f)) → Own fs → Each (To p M) (to_each rule fs)
    own_each rule fs says all = each_to rule fs (each_weaker (λ f. (p == f.number) ≡ true → C f) (λ f. (p == f.number) ≡ true → Each M (rule f)) (λ f own is. says f (own is)) fs all)

    pub own_one : (n : ℕ) (rule : Face K → List (Message K)) (g : Rows K) → ((f : Face K) → C f → Each M (rule f)) → Own g.faces → Each (To p M) (to_face n rule g)
    own_one n rule g says all =
        one_to n rule g
        (each_weaker (λ f. (p == f.number) ≡ true → C f) (λ f. (n == f.number) ≡ true → (p == n) ≡ true → Each M (rule f)) (λ f own here is. says f (own (ap (λ k. k == f.number) (eqb-true p n is) ∙ here))) g.faces all)

  -- some face that passes a test still does
  pub any_heard : (cmp : K → K → Ordering) (test : Face K → Bool) → ((now : ℕ) (ms : List (Message K)) (f : Face K) → test (heard_all cmp now ms f) ≡ test f) → (ss : Sends K) (g : Rows K) → list_any test g.faces ≡ true → list_any test (rows_heard cmp ss g).faces ≡ true
  unfolding rows_heard
  any_heard cmp test same_ ss g some =
      any-map test (λ f. heard_all cmp g.moment (messages_for f.number ss) f) g.faces ∙ any_alike (λ f. test (heard_all cmp g.moment (messages_for f.number ss) f)) test (λ f. same_ g.moment (messages_for f.number ss) f) g.faces ∙ some

  pub any_changed : (test : Face K → Bool) (n : ℕ) (change : Face K → Face K) → ((f : Face K) → (n == f.number) ≡ true → test f ≡ true → test (change f) ≡ true) → (g : Rows K) → list_any test g.faces ≡ true → list_any test (with_face n change g).faces ≡ true
  unfolding with_face
  any_changed test n change keeps_ g some =
      any-map test (λ f. if n == f.number then change f else f) g.faces
      ∙ any_weaker test (λ f. test (if n == f.number then change f else f)) (λ f passes. of_cond (λ (h : Face K). test h ≡ true) (n == f.number) (change f) f (λ here. keeps_ f here passes) (λ _. passes)) g.faces some

module _ {K : Type 0} (cmp : K → K → Ordering) (matching : K → K → Bool) (S : Rows K → Type 0) (N : ℕ × Message K → Type 0) where
  -- a change keeps the rows of the kind, and a rule says messages of the kind
  abbrev pub IsFine : Part K → Type 0
  IsFine (Alter change) = (g : Rows K) → S g → S (change g)
  IsFine (Say rule) = (g : Rows K) → S g → Each N (rule g)

  pub unsaid_fine : (n : ℕ) (parts : List (Part K)) → Each IsFine parts → Each IsFine (unsaid_to n parts)
  unfolding unsaid_to
  unsaid_fine n [] all = tt
  unsaid_fine n (Alter change ∷ parts) all = (all.0, unsaid_fine n parts all.1)
  unsaid_fine n (Say rule ∷ parts) all = ((λ g of_kind. each_filter N (λ s. not (n == s.0)) (rule g) (all.0 g of_kind)), unsaid_fine n parts all.1)

  -- what is heard leaves the rows of the kind
  abbrev pub Hears : Type 0
  Hears = (ss : Sends K) (g : Rows K) → S g → Each N ss → S (rows_heard cmp ss g)

  pub said_fine : Hears → (parts : List (Part K)) (g : Rows K) → Each IsFine parts → S g → Each N (said_by cmp matching parts g)
  unfolding said_by
  said_fine hear [] g all of_kind = tt
  said_fine hear (Alter change ∷ parts) g all of_kind = said_fine hear parts (change g) all.1 (all.0 g of_kind)
  said_fine hear (Say rule ∷ parts) g all of_kind = each_append N (rule g) (said_by cmp matching parts (rows_heard cmp (rule g) g)) (all.0 g of_kind) (said_fine hear parts (rows_heard cmp (rule g) g) all.1 (hear (rule g) g of_kind (all.0 g of_kind)))

  pub altered_fine : (parts : List (Part K)) (g : Rows K) → Each IsFine parts → S g → S (altered_by cmp matching parts g)
  unfolding altered_by
  altered_fine [] g all of_kind = of_kind
  altered_fine (Alter change ∷ parts) g all of_kind = altered_fine parts (change g) all.1 (all.0 g of_kind)
  altered_fine (Say rule ∷ parts) g all of_kind = altered_fine parts g all.1 of_kind

  -- what parts say is of the kind, and what they leave
  abbrev pub Come : List (Part K) → Rows K → Type 0
  Come parts g = Each N (said_by cmp matching parts g) × S (rows_heard cmp (said_by cmp matching parts g) (altered_by cmp matching parts g))

  pub parts_come : Hears → (parts : List (Part K)) (g : Rows K) → Each IsFine parts → S g → Come parts g
  parts_come hear parts g all of_kind =
      let says = said_fine hear parts g all of_kind in
      (says, hear (said_by cmp matching parts g) (altered_by cmp matching parts g) (altered_fine parts g all of_kind) says)

  abbrev pub Comes : PlainCall K → Rows K → Type 0
  Comes c g = Each N (said cmp matching c g) × S (rows_after_call cmp matching c g)

  pub called_fine : Hears → (c : PlainCall K) (g : Rows K) → Each IsFine (parts_of cmp matching c g) → S g → Comes c g
  called_fine hear c g all of_kind = parts_come hear (parts_of cmp matching c g) g all of_kind

  -- what the rules of a gateway of a tree say, but for the rule of tokens that are gone, and what they leave
  pub record AreFine (n : ℕ) : Type 0 where
    pub hear : Hears
    pub tell : (source : Region) (e : K) → IsFine (Say (λ g. to_each (tell_to cmp matching g source e) g.faces))
    pub answer : (k id : ℕ) (e : K) → IsFine (Say (λ g. to_each (answer_to cmp matching k id e) g.faces))
    pub end_upstream : (interest : InterestRow K) → IsFine (Say (λ g. to_each (end_upstream_to cmp matching g interest) g.faces))
    pub show : (source : Region) (e : K) → IsFine (Say (λ g. to_each (show_to cmp g source e) g.faces))
    pub hide : (source : Region) (e : K) → IsFine (Say (λ g. to_each (hide_to cmp g source e) g.faces))
    pub finish : (k id : ℕ) → IsFine (Say (λ g. to_each (finish_to g k id) g.faces))
    pub untell : IsFine (Say (λ g. to_face n (untell_to cmp matching g) g))
    pub initial : (id : ℕ) → IsFine (Alter (with_face n (initial_finalised id)))
    pub shown : (source : Region) (e : K) → IsFine (Alter (λ g. with_own_rows cmp (filter (is_newly_shown cmp g source e) (router_regions g)) e g))
    pub hidden : (source : Region) (e : K) → IsFine (Alter (without_own_rows cmp source e))

  -- the rule of tokens that are gone does so too
  abbrev pub Forgets : Type 0
  Forgets = (source : Region) (e : K) → IsFine (Say (λ g. to_each (forget_to cmp matching g source e) g.faces))

  module _ (n : ℕ) (rules : AreFine n) where
    hiding_fine : (source : Region) (e : K) → Each IsFine (hiding cmp source e)
    hiding_fine source e = (rules.hide source e, (rules.hidden source e, tt))

    tree_face_of : (g : Rows K) (k : ℕ) (f : Face K) → TreeRows cmp g → find_face k g ≡ Some f → IsTreeFace g.mode f
    tree_face_of g k f rows found = find_each (IsTreeFace g.mode) (λ (h : Face K). k == h.number) g.faces f rows.faces found

    pub declare_fine : (id node : ℕ) (e : K) (interest : Option ℕ) (g : Rows K) → TreeRows cmp g → IsFine (Alter (with_face n (registered id e))) → S g → Comes (DeclareToken n id e node interest) g
    unfolding parts_of
    declare_fine id node e interest g rows adds of_kind = called_fine rules.hear (DeclareToken n id e node interest) g (cases (find_face n g) refl) of_kind
      where
        answers : (i : Option ℕ) (f : Face K) → Each IsFine (answering cmp matching n i e f)
        answers None f = tt
        answers (Some i) f = of_cond (Each IsFine) (has_id i f.pendings) (Say (λ h. to_each (answer_to cmp matching n i e) h.faces) ∷ []) [] (λ _. (rules.answer n i e, tt)) (λ _. tt)

        cases : (o : Option (Face K)) → find_face n g ≡ o
            → Each IsFine (elim o [ None ↦ [] | Some f ↦ if is_routed g f then declaring_of cmp matching n (source_of g f node) e f else answering cmp matching n interest e f ++ (if registers f interest then declaring cmp matching n id e f ++ showing cmp f.region e else []) ])
        cases None found = tt
        cases (Some f) found =
            let plain : is_routed g f ≡ false = is_no_router g f (tree_face_of g n f rows found) in
            rw plain (each_append IsFine (answering cmp matching n interest e f) (if registers f interest then declaring cmp matching n id e f ++ showing cmp f.region e else []) (answers interest f)
            (of_cond (Each IsFine) (registers f interest) (declaring cmp matching n id e f ++ showing cmp f.region e) [] (λ _. (adds, (rules.tell f.region e, (rules.show f.region e, (rules.shown f.region e, tt))))) (λ _. tt)))

    undeclaring_fine : Forgets → ((id : ℕ) → IsFine (Alter (with_face n (unregistered id)))) → (id : ℕ) (given : Option K) (f : Face K) → Each IsFine (undeclaring cmp matching n id given f)
    undeclaring_fine forget takes id given f = cases (undeclared cmp matching id given f)
      where
        cases : (o : Option K) → Each IsFine (elim o [ None ↦ [] | Some e ↦ Alter (with_face n (unregistered id)) ∷ Say (λ g. to_each (forget_to cmp matching g f.region e) g.faces) ∷ [] ])
        cases None = tt
        cases (Some e) = (takes id, (forget f.region e, tt))

    finalising_fine : (id : ℕ) (interest : InterestRow K) → IsFine (Alter (with_face n (unheld id))) → IsFine (Say (to_face n (final_of_both id interest))) → Each IsFine (finalising cmp matching n id interest)
    finalising_fine id interest takes both = (takes, (rules.untell, (both, (rules.end_upstream interest, tt))))

    pub final_fine : (id : ℕ) (g : Rows K) → IsFine (Alter (with_face n (unheld id))) → ((interest : InterestRow K) → IsFine (Say (to_face n (final_of_both id interest)))) → S g → Comes (InterestFinal n id) g
    unfolding parts_of
    final_fine id g takes both of_kind = called_fine rules.hear (InterestFinal n id) g (cases (find_face n g)) of_kind
      where
        held : (o : Option (InterestRow K)) → Each IsFine (elim o [ None ↦ [] | Some interest ↦ finalising cmp matching n id interest ])
        held None = tt
        held (Some interest) = finalising_fine id interest takes (both interest)

        cases : (o : Option (Face K)) → Each IsFine (elim o [ None ↦ [] | Some f ↦ finalising_held cmp matching n id f ])
        cases None = tt
        cases (Some f) = held (at_id id f.held)

    pub finish_fine : (id : ℕ) (g : Rows K) → IsFine (Alter (with_face n (ended id))) → S g → Comes (DeclareFinal n id) g
    unfolding parts_of
    finish_fine id g ends of_kind = called_fine rules.hear (DeclareFinal n id) g (cases (find_face n g)) of_kind
      where
        cases : (o : Option (Face K)) → Each IsFine (elim o [ None ↦ [] | Some f ↦ finishing n id f ])
        cases None = tt
        cases (Some f) = (rules.initial id, of_cond (Each IsFine) (has_id id f.pendings) (ending n id) [] (λ _. (ends, (rules.finish n id, tt))) (λ _. tt))

    -- an undeclaration forgets once it has taken the row
    pub undeclare_fine : (id node : ℕ) (given : Option K) (g : Rows K) → TreeRows cmp g → Forgets → S g → S (with_face n (unregistered id) g) → Comes (UndeclareToken n id given node) g
    unfolding parts_of said_by altered_by
    undeclare_fine id node given g rows forget of_kind then_ = cases (find_face n g) refl
      where
        nothing : Come [] g
        nothing = parts_come rules.hear [] g tt of_kind

        named : (f : Face K) (o : Option K) → Come ((elim o [ None ↦ [] | Some e ↦ Alter (with_face n (unregistered id)) ∷ Say (λ g. to_each (forget_to cmp matching g f.region e) g.faces) ∷ [] ]) ++ (elim o [ None ↦ [] | Some e ↦ hiding cmp f.region e ])) g
        named f None = nothing
        named f (Some e) = parts_come rules.hear (Say (λ g. to_each (forget_to cmp matching g f.region e) g.faces) ∷ hiding cmp f.region e) (with_face n (unregistered id) g) (forget f.region e, hiding_fine f.region e) then_

        cases : (o : Option (Face K)) → find_face n g ≡ o → Come (elim o [ None ↦ [] | Some f ↦ if is_routed g f then undeclaring_of cmp matching n (source_of g f node) given f else undeclaring cmp matching n id given f ++ hiding_undeclared cmp matching id given f ]) g
        cases None found = nothing
        cases (Some f) found =
            let plain : is_routed g f ≡ false = is_no_router g f (tree_face_of g n f rows found) in
            rw plain (named f (undeclared cmp matching id given f))

    pub interest_fine : (id : ℕ) (mode : InterestMode) (options : InterestOptions) (e : Option K) (g : Rows K) → ((f : Face K) → find_face n g ≡ Some f → (let i = row_of cmp matching f mode options e in Each IsFine (asking cmp matching n id i f.region g))) → S g
        → Comes (Interest n id mode options e) g
    unfolding parts_of
    interest_fine id mode options e g asks of_kind = called_fine rules.hear (Interest n id mode options e) g (cases (find_face n g) refl) of_kind
      where
        cases : (o : Option (Face K)) → find_face n g ≡ o → Each IsFine (elim o [ None ↦ [] | Some f ↦ asking cmp matching n id (row_of cmp matching f mode options e) f.region g ])
        cases None found = tt
        cases (Some f) found = asks f found

    -- closing a face
    pub close_fine : (g : Rows K) → Forgets → ((id : ℕ) → IsFine (Alter (with_face n (unregistered id)))) → ((id : ℕ) → IsFine (Alter (with_face n (unheld id)))) → ((id : ℕ) (interest : InterestRow K) → IsFine (Say (to_face n (final_of_both id interest)))) → IsFine (Alter (with_face n without_asks))
        → ((id : ℕ) → IsFine (Alter (with_face n (ended id)))) → IsFine (Alter (without_face n)) → S g → Comes (CloseFace n) g
    unfolding parts_of
    close_fine g forget takes ends both drops dropped gone of_kind = called_fine rules.hear (CloseFace n) g (cases (find_face n g)) of_kind
      where
        leaving_fine : (f : Face K) → Each IsFine (leaving cmp matching n f)
        leaving_fine f =
            let undeclares : List (Part K) = flat_map (λ row. undeclaring cmp matching n row.0 None f ++ hiding cmp f.region row.1) f.live in
            let finals : List (Part K) = flat_map (λ row. finalising cmp matching n row.0 row.1) f.held in
            each_append IsFine (undeclares ++ finals) (Alter (with_face n without_asks) ∷ flat_map (λ row. ending n row.0) f.pendings)
            (each_append IsFine undeclares finals
            (each_flat_map IsFine (λ (row : ℕ × K). undeclaring cmp matching n row.0 None f ++ hiding cmp f.region row.1) f.live
            (λ row. each_append IsFine (undeclaring cmp matching n row.0 None f) (hiding cmp f.region row.1) (undeclaring_fine forget takes row.0 None f) (hiding_fine f.region row.1)))
            (each_flat_map IsFine (λ (row : ℕ × InterestRow K). finalising cmp matching n row.0 row.1) f.held (λ row. finalising_fine row.0 row.1 (ends row.0) (both row.0 row.1))))
            (drops, each_flat_map IsFine (λ (row : ℕ × Pending). ending n row.0) f.pendings (λ row. (dropped row.0, (rules.finish n row.0, tt))))

        cases : (o : Option (Face K)) → Each IsFine (elim o [ None ↦ [] | Some f ↦ closing cmp matching n g f ])
        cases None = tt
        cases (Some f) =
            each_append IsFine (if is_routed g f then [] else unsaid_to n (leaving cmp matching n f)) (Alter (without_face n) ∷ [])
            (of_cond (Each IsFine) (is_routed g f) [] (unsaid_to n (leaving cmp matching n f)) (λ _. tt) (λ _. unsaid_fine n (leaving cmp matching n f) (leaving_fine f))) (gone, tt)

    pub entities_fine : (subscribers : List K) (queryables : List (K × QueryableInfo)) (g : Rows K) → IsFine (Alter (with_entities cmp n subscribers queryables)) → S g → Comes (SetEntities n subscribers queryables) g
    unfolding parts_of
    entities_fine subscribers queryables g sets of_kind = called_fine rules.hear (SetEntities n subscribers queryables) g (sets, tt) of_kind

    -- a table is set
    pub trees_fine : (region : Region) (t : Trees) (g : Rows K) → Forgets → IsFine (Alter (without_left_out cmp region (counted_table t))) → IsFine (Alter (with_table cmp region t)) → ((before : Trees) → IsFine (Say (λ h. to_each (greet_to cmp h region before) h.faces))) → S g → Comes (SetTrees region t) g
    unfolding parts_of
    trees_fine region t g forget leaves sets greets of_kind =
        called_fine rules.hear (SetTrees region t) g (
          leaves,
          each_append IsFine (forgetting cmp matching region (left_out cmp region (counted_table t) g)) (Alter (with_table cmp region t) ∷ Say (λ h. to_each (greet_to cmp h region (table_of g region)) h.faces) ∷ [])
              (each_flat_map IsFine (λ (e : K). Say (λ h. to_each (forget_to cmp matching h region e) h.faces) ∷ hiding cmp region e) (left_out cmp region (counted_table t) g) (λ e. (forget region e, hiding_fine region e)))
              (sets, (greets (table_of g region), tt)),
        ) of_kind

-- closing a face leaves the others
pub any_left : {K : Type 0} (test : Face K → Bool) (n : ℕ) (fs : List (Face K)) → ((f : Face K) → test f ≡ true → (n == f.number) ≡ false) → list_any test fs ≡ true → list_any test (filter (λ f. not (n == f.number)) fs) ≡ true
any_left test n fs apart some = any-filter test (λ f. not (n == f.number)) fs ∙ any_weaker test (λ f. not (n == f.number) && test f) (λ f passes. and_from (not (n == f.number)) (test f) (ap not (apart f passes)) passes) fs some
