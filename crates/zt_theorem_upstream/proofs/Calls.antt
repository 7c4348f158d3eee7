-- Every call leaves upstream what south-bound faces hold.
use Rattle.std.proofs.Common.{◌≡◌, ℕ, Bool, not, ◌==◌, if◌then◌else◌, List, [], ◌∷◌, ◌++◌, map, filter, Option, Some, None, refl, sym, ap, ◌∙◌, subst}
use Rattle.std.specs.List.{flat_map}
use Rattle.std.specs.declared.cmp.Ordering.{Ordering}
use Rattle.zt_region.specs.declared.region.Region.{Region}
use Rattle.zt_region.specs.declared.region.Zid.{Zid}
use Rattle.zt_protocol.specs.Plain.{PlainCall, DeclareToken, UndeclareToken, DeclareFinal, Expire, SetTrees, SetEntities, Trees}
use Rattle.zt_protocol.specs.declared.messages.Message.{Message}
use Rattle.zt_protocol.specs.declared.messages.QueryableInfo.{QueryableInfo}
use Rattle.zt_model.specs.Closing.{is_expired, without_asks}
use Rattle.zt_model.specs.Entities.{entity_expressions, with_numbers}
use Rattle.zt_model.specs.Hearing.{rows_heard}
use Rattle.zt_model.specs.Lists.{has_id}
use Rattle.zt_model.specs.Parts.{unsaid_to}
use Rattle.zt_model.specs.Routing.{ended, ending, finishing, initial_finalised, is_held_south}
use Rattle.zt_model.specs.Rows.{Face, Rows}
use Rattle.zt_model.specs.Says.{Alter, Part, Say, answering, declaring, declaring_of, find_face, forget_to, hiding_undeclared, is_routed, parts_of, registered, registers, to_each, undeclared, undeclaring, undeclaring_of, unregistered, with_face}
use Rattle.zt_model.specs.Telling.{answer_to}
use Rattle.zt_model.specs.Transcript.{Each}
use Rattle.zt_model.specs.Trees.{counted_table, forgetting, greet_to, hiding, is_newly_shown, left_out, router_regions, showing, source_of, table_of, with_own_rows, with_routed, with_table, without_left_out, without_own_rows, without_routed}
use Rattle.zt_laws.specs.Order.{HasRowsInOrder}
use Rattle.zt_laws.specs.Sound.{rows_after_call}
use Rattle.zt_laws.proofs.Hearing.{each_ruled}
use Rattle.zt_laws.proofs.Lists.{each_append, each_filter, of_cond}
use Rattle.zt_laws.proofs.PartsOrder.{each_flat_map, rise_without_id}
use Rattle.zt_laws.proofs.Visible.{rise_put}
use Rattle.zt_theorem_soundness.specs.Ran.{ran}
use Rattle.zt_theorem_soundness.proofs.CallsRun.{call_runs, own_rows_leave}
use Rattle.zt_theorem_soundness.proofs.Parts.{nobody}
use Rattle.zt_theorem_visibility.proofs.Saying.{answer_says, declaring_of_says, ending_says, forgets_say, greet_says, hiding_says, showing_says, telling_says, undeclaring_of_says}
use Rattle.zt_theorem_upstream.proofs.Locals.{IsQuiet, IsUpstream, Leaves, held_heard, held_leaves, stands_alike, stands_leaves, stands_quiet}

module _ {K : Type 0} (cmp : K → K → Ordering) (matching : K → K → Bool) where
  abbrev pub Quiet : Message K → Type 0
  Quiet = IsQuiet cmp matching

  -- a part that changes nothing that was sent upstream or is held
  abbrev pub PartQuiet : Part K → Type 0
  PartQuiet (Alter change) = (g : Rows K) → Leaves cmp matching g (change g)
  PartQuiet (Say rule) = (g : Rows K) → Each (λ s. Quiet s.1) (rule g)

  map_itself : {A : Type 0} (xs : List A) → map (λ x. x) xs ≡ xs
  map_itself [] = refl
  map_itself (x ∷ xs) = ap (λ ys. x ∷ ys) (map_itself xs)

  pub leaves_same : (g h : Rows K) → h.mode ≡ g.mode → h.faces ≡ g.faces → Leaves cmp matching g h
  leaves_same g h mode_ faces_ = record {
    mode = mode_;
    change = λ f. f;
    faces = faces_ ∙ sym (map_itself g.faces);
    number = λ f. refl;
    region = λ f. refl;
    bound = λ f. refl;
    whatami = λ f. refl;
    locals = λ f. refl;
    next = λ f. refl;
    held = λ f. refl;
    rows = λ f rows. rows;
  }

  -- one face is changed, but for what it holds and was sent
  pub record Beside (change : Face K → Face K) : Type 0 where
    pub number : (f : Face K) → (change f).number ≡ f.number
    pub region : (f : Face K) → (change f).region ≡ f.region
    pub bound : (f : Face K) → (change f).bound ≡ f.bound
    pub whatami : (f : Face K) → (change f).mode ≡ f.mode
    pub locals : (f : Face K) → (change f).locals ≡ f.locals
    pub next : (f : Face K) → (change f).next ≡ f.next
    pub held : (f : Face K) → (change f).held ≡ f.held
    pub rows : (f : Face K) → HasRowsInOrder f → HasRowsInOrder (change f)

  pub leaves_face : (n : ℕ) (change : Face K → Face K) (g : Rows K) → Beside change → Leaves cmp matching g (with_face n change g)
  unfolding with_face
  leaves_face n change g beside = record {
    mode = refl;
    change = λ f. if n == f.number then change f else f;
    faces = refl;
    number = λ f. of_cond (λ (k : Face K). k.number ≡ f.number) (n == f.number) (change f) f (λ _. beside.number f) (λ _. refl);
    region = λ f. of_cond (λ (k : Face K). k.region ≡ f.region) (n == f.number) (change f) f (λ _. beside.region f) (λ _. refl);
    bound = λ f. of_cond (λ (k : Face K). k.bound ≡ f.bound) (n == f.number) (change f) f (λ _. beside.bound f) (λ _. refl);
    whatami = λ f. of_cond (λ (k : Face K). k.mode ≡ f.mode) (n == f.number) (change f) f (λ _. beside.whatami f) (λ _. refl);
    locals = λ f. of_cond (λ (k : Face K). k.locals ≡ f.locals) (n == f.number) (change f) f (λ _. beside.locals f) (λ _. refl);
    next = λ f. of_cond (λ (k : Face K). k.next ≡ f.next) (n == f.number) (change f) f (λ _. beside.next f) (λ _. refl);
    held = λ f. of_cond (λ (k : Face K). k.held ≡ f.held) (n == f.number) (change f) f (λ _. beside.held f) (λ _. refl);
    rows = λ f rows. of_cond HasRowsInOrder (n == f.number) (change f) f (λ _. beside.rows f rows) (λ _. rows);
  }

  pub ran_quiet : (but : ℕ → Bool) (parts : List (Part K)) (g : Rows K) → Each PartQuiet parts → IsUpstream cmp matching but g → IsUpstream cmp matching but (ran cmp parts g)
  unfolding ran
  ran_quiet but [] g quiet up = up
  ran_quiet but (Alter change ∷ parts) g quiet up =
      let h = change g in
      ran_quiet but parts h quiet.1 (stands_alike cmp matching but (is_held_south cmp matching g) (is_held_south cmp matching h) h (λ i. sym (held_leaves cmp matching g h (quiet.0 g) i)) (stands_leaves cmp matching but (is_held_south cmp matching g) g h (quiet.0 g) up))
  ran_quiet but (Say rule ∷ parts) g quiet up =
      let h = rows_heard cmp (rule g) g in
      ran_quiet but parts h quiet.1 (stands_alike cmp matching but (is_held_south cmp matching g) (is_held_south cmp matching h) h (λ i. sym (held_heard cmp matching (rule g) g i)) (stands_quiet cmp matching but (is_held_south cmp matching g) (rule g) g up (quiet.0 g)))

  -- ---- quiet parts

  registered_beside : (id : ℕ) (e : K) → Beside (registered id e)
  registered_beside id e = record { number = λ f. refl; region = λ f. refl; bound = λ f. refl; whatami = λ f. refl; locals = λ f. refl; next = λ f. refl; held = λ f. refl; rows = λ f rows. record { live = rise_put id e f.live rows.live; held = rows.held; locals = rows.locals; pendings = rows.pendings; asks = rows.asks } }

  unregistered_beside : (id : ℕ) → Beside (unregistered id)
  unregistered_beside id = record { number = λ f. refl; region = λ f. refl; bound = λ f. refl; whatami = λ f. refl; locals = λ f. refl; next = λ f. refl; held = λ f. refl; rows = λ f rows. record { live = rise_without_id id f.live rows.live; held = rows.held; locals = rows.locals; pendings = rows.pendings; asks = rows.asks } }

  ended_beside : (id : ℕ) → Beside (ended id)
  ended_beside id = record { number = λ f. refl; region = λ f. refl; bound = λ f. refl; whatami = λ f. refl; locals = λ f. refl; next = λ f. refl; held = λ f. refl; rows = λ f rows. record { live = rows.live; held = rows.held; locals = rows.locals; pendings = rise_without_id id f.pendings rows.pendings; asks = rows.asks } }

  initial_beside : (id : ℕ) → Beside (initial_finalised id)
  initial_beside id = record { number = λ f. refl; region = λ f. refl; bound = λ f. refl; whatami = λ f. refl; locals = λ f. refl; next = λ f. refl; held = λ f. refl; rows = λ f rows. record { live = rows.live; held = rows.held; locals = rows.locals; pendings = rows.pendings; asks = rows.asks } }

  pub asks_beside : Beside without_asks
  asks_beside = record { number = λ f. refl; region = λ f. refl; bound = λ f. refl; whatami = λ f. refl; locals = λ f. refl; next = λ f. refl; held = λ f. refl; rows = λ f rows. record { live = rows.live; held = rows.held; locals = rows.locals; pendings = rows.pendings; asks = tt } }

  showing_quiet : (source : Region) (e : K) → Each PartQuiet (showing cmp source e)
  showing_quiet source e =
      let says = showing_says cmp matching Quiet (λ x k. tt) source e in (
        says.0,
        (
          (λ g.
              let rs = filter (is_newly_shown cmp g source e) (router_regions g) in
              leaves_same g (with_own_rows cmp rs e g) (own_rows_leave cmp (λ (k : Rows K). k.mode) (λ k rows. refl) rs e g) (own_rows_leave cmp (λ (k : Rows K). k.faces) (λ k rows. refl) rs e g)),
          tt,
        ),
      )

  without_own_leaves : (source : Region) (e : K) (g : Rows K) → Leaves cmp matching g (without_own_rows cmp source e g)
  unfolding without_own_rows
  without_own_leaves source e g = leaves_same g (without_own_rows cmp source e g) refl refl

  pub hiding_quiet : (source : Region) (e : K) → Each PartQuiet (hiding cmp source e)
  hiding_quiet source e = let says = hiding_says cmp matching Quiet (λ x k. tt) source e in (says.0, ((λ g. without_own_leaves source e g), tt))

  pub undeclaring_quiet : (n id : ℕ) (given : Option K) (f : Face K) → Each PartQuiet (undeclaring cmp matching n id given f)
  undeclaring_quiet n id given f = cases (undeclared cmp matching id given f)
    where
      cases : (o : Option K) → Each PartQuiet (elim o [ None ↦ [] | Some e ↦ Alter (with_face n (unregistered id)) ∷ Say (λ g. to_each (forget_to cmp matching g f.region e) g.faces) ∷ [] ])
      cases None = tt
      cases (Some e) = ((λ g. leaves_face n (unregistered id) g (unregistered_beside id)), (forgets_say cmp matching Quiet (λ k. tt) (λ x k. tt) f.region e, tt))

  hiding_undeclared_quiet : (id : ℕ) (given : Option K) (f : Face K) → Each PartQuiet (hiding_undeclared cmp matching id given f)
  hiding_undeclared_quiet id given f = cases (undeclared cmp matching id given f)
    where
      cases : (o : Option K) → Each PartQuiet (elim o [ None ↦ [] | Some e ↦ hiding cmp f.region e ])
      cases None = tt
      cases (Some e) = hiding_quiet f.region e

  declaring_of_quiet : (n : ℕ) (source : Option Zid) (e : K) (f : Face K) → Each PartQuiet (declaring_of cmp matching n source e f)
  unfolding with_routed
  declaring_of_quiet n None e f = tt
  declaring_of_quiet n (Some zid) e f =
      let says = declaring_of_says cmp matching Quiet (λ k x. tt) (λ x k. tt) n (Some zid) e f in
      ((λ g. leaves_same g (with_routed cmp f.region zid e g) refl refl), (says.1.0, (telling_says cmp matching Quiet (λ k x. tt) f.region e, showing_quiet f.region e)))

  undeclaring_of_quiet : (n : ℕ) (source : Option Zid) (given : Option K) (f : Face K) → Each PartQuiet (undeclaring_of cmp matching n source given f)
  unfolding without_routed
  undeclaring_of_quiet n None given f = tt
  undeclaring_of_quiet n (Some zid) None f = tt
  undeclaring_of_quiet n (Some zid) (Some e) f =
      let says = undeclaring_of_says cmp matching Quiet (λ k. tt) (λ x k. tt) n (Some zid) (Some e) f in
      ((λ g. leaves_same g (without_routed cmp f.region zid e g) refl refl), (says.1.0, (forgets_say cmp matching Quiet (λ k. tt) (λ x k. tt) f.region e, hiding_quiet f.region e)))

  pub ending_quiet : (n id : ℕ) → Each PartQuiet (ending n id)
  ending_quiet n id = let says = ending_says cmp matching Quiet (λ k. tt) n id in ((λ g. leaves_face n (ended id) g (ended_beside id)), (says.1.0, tt))

  answering_quiet : (n : ℕ) (interest : Option ℕ) (e : K) (f : Face K) → Each PartQuiet (answering cmp matching n interest e f)
  answering_quiet n None e f = tt
  answering_quiet n (Some i) e f = of_cond (Each PartQuiet) (has_id i f.pendings) (Say (λ h. to_each (answer_to cmp matching n i e) h.faces) ∷ []) [] (λ _. ((λ g. each_ruled Quiet (answer_to cmp matching n i e) g.faces (answer_says cmp matching Quiet (λ k x j. tt) n i e)), tt)) (λ _. tt)

  pub unsaid_quiet : (n : ℕ) (parts : List (Part K)) → Each PartQuiet parts → Each PartQuiet (unsaid_to n parts)
  unfolding unsaid_to
  unsaid_quiet n [] quiet = tt
  unsaid_quiet n (Alter change ∷ parts) quiet = (quiet.0, unsaid_quiet n parts quiet.1)
  unsaid_quiet n (Say rule ∷ parts) quiet = ((λ g. each_filter (λ s. Quiet s.1) (λ s. not (n == s.0)) (rule g) (quiet.0 g)), unsaid_quiet n parts quiet.1)

  -- ---- quiet calls

  abbrev pub Stays : PlainCall K → Rows K → Type 0
  Stays c g = IsUpstream cmp matching nobody g → IsUpstream cmp matching nobody (rows_after_call cmp matching c g)

  quietly : (c : PlainCall K) (g : Rows K) → Each PartQuiet (parts_of cmp matching c g) → Stays c g
  quietly c g quiet up = subst (IsUpstream cmp matching nobody) (sym (call_runs cmp matching c g)) (ran_quiet nobody (parts_of cmp matching c g) g quiet up)

  at_face : (n : ℕ) (g : Rows K) (parts : Face K → List (Part K)) → ((f : Face K) → Each PartQuiet (parts f)) → Each PartQuiet (elim (find_face n g) [ None ↦ [] | Some f ↦ parts f ])
  at_face n g parts one = cases (find_face n g)
    where
      cases : (o : Option (Face K)) → Each PartQuiet (elim o [ None ↦ [] | Some f ↦ parts f ])
      cases None = tt
      cases (Some f) = one f

  pub declaration_stays : (n id node : ℕ) (e : K) (interest : Option ℕ) (g : Rows K) → Stays (DeclareToken n id e node interest) g
  unfolding parts_of
  declaration_stays n id node e interest g =
      quietly (DeclareToken n id e node interest) g
      (at_face n g (λ f. if is_routed g f then declaring_of cmp matching n (source_of g f node) e f else answering cmp matching n interest e f ++ plain f)
      (λ f.
      of_cond (Each PartQuiet) (is_routed g f) (declaring_of cmp matching n (source_of g f node) e f) (answering cmp matching n interest e f ++ plain f)
      (λ _. declaring_of_quiet n (source_of g f node) e f)
      (λ _. each_append PartQuiet (answering cmp matching n interest e f) (plain f) (answering_quiet n interest e f)
      (of_cond (Each PartQuiet) (registers f interest) (declaring cmp matching n id e f ++ showing cmp f.region e) [] (λ _. ((λ h. leaves_face n (registered id e) h (registered_beside id e)), (telling_says cmp matching Quiet (λ k x. tt) f.region e, showing_quiet f.region e))) (λ _. tt)))))
    where
      plain : Face K → List (Part K)
      plain f = if registers f interest then declaring cmp matching n id e f ++ showing cmp f.region e else []

  pub undeclaration_stays : (n id node : ℕ) (given : Option K) (g : Rows K) → Stays (UndeclareToken n id given node) g
  unfolding parts_of
  undeclaration_stays n id node given g =
      quietly (UndeclareToken n id given node) g
      (at_face n g (λ f. if is_routed g f then undeclaring_of cmp matching n (source_of g f node) given f else undeclaring cmp matching n id given f ++ hiding_undeclared cmp matching id given f)
      (λ f.
      of_cond (Each PartQuiet) (is_routed g f) (undeclaring_of cmp matching n (source_of g f node) given f) (undeclaring cmp matching n id given f ++ hiding_undeclared cmp matching id given f)
      (λ _. undeclaring_of_quiet n (source_of g f node) given f)
      (λ _. each_append PartQuiet (undeclaring cmp matching n id given f) (hiding_undeclared cmp matching id given f) (undeclaring_quiet n id given f) (hiding_undeclared_quiet id given f))))

  pub declare_final_stays : (n id : ℕ) (g : Rows K) → Stays (DeclareFinal n id) g
  unfolding parts_of
  declare_final_stays n id g =
      quietly (DeclareFinal n id) g (at_face n g (finishing n id) (λ f. ((λ h. leaves_face n (initial_finalised id) h (initial_beside id)), of_cond (Each PartQuiet) (has_id id f.pendings) (ending n id) [] (λ _. ending_quiet n id) (λ _. tt))))

  pub expiry_stays : (now : ℕ) (g : Rows K) → Stays (Expire now) g
  unfolding parts_of
  expiry_stays now g =
      quietly (Expire now) g (
        (λ h. leaves_same h (record h { moment = now }) refl refl),
        each_flat_map PartQuiet (λ f. flat_map (λ row. ending f.number row.0) (filter (is_expired now g.timeout) f.pendings)) g.faces (λ f. each_flat_map PartQuiet (λ row. ending f.number row.0) (filter (is_expired now g.timeout) f.pendings) (λ row. ending_quiet f.number row.0)),
      )

  pub table_stays : (region : Region) (t : Trees) (g : Rows K) → Stays (SetTrees region t) g
  unfolding parts_of
  table_stays region t g =
      quietly (SetTrees region t) g (
        (λ h. leaves_same h (without_left_out cmp region (counted_table t) h) refl refl),
        each_append PartQuiet (forgetting cmp matching region (left_out cmp region (counted_table t) g)) _
            (each_flat_map PartQuiet (λ e. Say (λ h. to_each (forget_to cmp matching h region e) h.faces) ∷ hiding cmp region e) (left_out cmp region (counted_table t) g) (λ e. (forgets_say cmp matching Quiet (λ k. tt) (λ x k. tt) region e, hiding_quiet region e))) (
              (λ h. leaves_same h (with_table cmp region t h) refl refl),
              ((λ h. each_ruled Quiet (greet_to cmp h region (table_of g region)) h.faces (greet_says cmp matching Quiet (λ x k. tt) h region (table_of g region))), tt),
            ),
      )

  pub entities_stay : (n : ℕ) (subscribers : List K) (queryables : List (K × QueryableInfo)) (g : Rows K) → Stays (SetEntities n subscribers queryables) g
  unfolding parts_of
  entities_stay n subscribers queryables g =
      let change = λ (f : Face K). record f { subscribers = subscribers; queryables = queryables } in
      quietly (SetEntities n subscribers queryables) g
      ((λ h. numbered h (leaves_face n change (with_numbers cmp es h) (record { number = λ f. refl; region = λ f. refl; bound = λ f. refl; whatami = λ f. refl; locals = λ f. refl; next = λ f. refl; held = λ f. refl; rows = λ f rows. record { live = rows.live; held = rows.held; locals = rows.locals; pendings = rows.pendings; asks = rows.asks } }))), tt)
    where
      es : List K
      es = entity_expressions cmp subscribers queryables

      numbered : (h : Rows K) → Leaves cmp matching (with_numbers cmp es h) (with_face n (λ (f : Face K). record f { subscribers = subscribers; queryables = queryables }) (with_numbers cmp es h)) → Leaves cmp matching h (with_face n (λ (f : Face K). record f { subscribers = subscribers; queryables = queryables }) (with_numbers cmp es h))
      numbered h leaves = record { mode = leaves.mode; change = leaves.change; faces = leaves.faces; number = leaves.number; region = leaves.region; bound = leaves.bound; whatami = leaves.whatami; locals = leaves.locals; next = leaves.next; held = leaves.held; rows = leaves.rows }
