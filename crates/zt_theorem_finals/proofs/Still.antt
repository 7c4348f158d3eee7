-- The parts of calls that leave asks and pendings, and what all parts leave of them.
use Rattle.std.proofs.Common.{◌≡◌, ℕ, Bool, true, false, not, if◌then◌else◌, ◌==◌, List, [], ◌∷◌, ◌++◌, map, filter, Option, Some, None, refl, sym, ap, ◌∙◌, subst, eq-eqb}
use Rattle.std.specs.List.{flat_map}
use Rattle.std.specs.declared.cmp.Ordering.{Ordering}
use Rattle.zt_region.specs.declared.region.Region.{Region}
use Rattle.zt_region.specs.declared.region.Zid.{Zid}
use Rattle.zt_protocol.specs.Plain.{DeclareToken, UndeclareToken, SetTrees, SetEntities, Trees}
use Rattle.zt_protocol.specs.declared.messages.Message.{Message}
use Rattle.zt_protocol.specs.declared.messages.QueryableInfo.{QueryableInfo}
use Rattle.zt_model.specs.Closing.{leaving, without_asks}
use Rattle.zt_model.specs.Entities.{entity_expressions, with_numbers}
use Rattle.zt_model.specs.Hat.{hat_of}
use Rattle.zt_model.specs.Hearing.{heard_all, messages_for, rows_heard}
use Rattle.zt_model.specs.Lists.{has_id}
use Rattle.zt_model.specs.Parts.{unsaid_to}
use Rattle.zt_model.specs.Routing.{end_upstream_to, ended, ending, final_of_both, finalising, finish_to, initial_finalised, unheld, untell_to}
use Rattle.zt_model.specs.Rows.{Ask, ById, Face, InterestRow, Rows}
use Rattle.zt_model.specs.Says.{Alter, Part, Say, Sends, altered_by, answering, declaring, declaring_of, find_face, forget_to, hiding_undeclared, is_routed, parts_of, registered, registers, to_each, to_face, undeclared, undeclaring, undeclaring_of, unregistered, with_face}
use Rattle.zt_model.specs.Telling.{answer_to}
use Rattle.zt_model.specs.Transcript.{Each}
use Rattle.zt_model.specs.Trees.{counted_table, forgetting, greet_to, hiding, is_newly_shown, left_out, router_regions, showing, source_of, table_of, with_own_rows, with_routed, with_table, without_left_out, without_own_rows, without_routed}
use Rattle.zt_laws.proofs.Hearing.{each_ruled, each_ruled_one, heard_all-region}
use Rattle.zt_laws.proofs.Lists.{each_append, each_filter, each_map, each_weaker, never, of_cond}
use Rattle.zt_laws.proofs.PartsOrder.{each_flat_map, each_message_for}
use Rattle.zt_theorem_soundness.specs.Ran.{ran}
use Rattle.zt_theorem_soundness.proofs.CallsRun.{own_rows_leave}
use Rattle.zt_theorem_soundness.proofs.Going.{IsQuietMessage, MakesNoPending, drawn_if_quiet, none_if_drawn}
use Rattle.zt_theorem_soundness.proofs.Parts.{nobody, only, quiet_finish}
use Rattle.zt_theorem_visibility.proofs.Saying.{answer_says, declaring_of_says, end_upstream_says, final_of_both_says, forgets_say, greet_says, hiding_says, showing_says, telling_says, undeclaring_of_says, untell_says}
use Rattle.zt_theorem_finals.proofs.Asks.{LeavesAsks, LeavesBoth, pendings_same}
use Rattle.zt_theorem_finals.proofs.Ending.{PartStill, StillMessage, both_face, both_same, ended_beside, leaves_face, none_if_still}

module _ {K : Type 0} (cmp : K → K → Ordering) (matching : K → K → Bool) where
  abbrev Still : Message K → Type 0
  Still = StillMessage cmp matching

  abbrev pub StillPart : (ℕ → Bool) → Part K → Type 0
  StillPart = PartStill cmp matching

  -- ---- still parts

  -- a change of a face that leaves asks and pendings
  one_still : (but : ℕ → Bool) (n : ℕ) (change : Face K → Face K) → ((f : Face K) → (change f).number ≡ f.number) → ((f : Face K) → (change f).region ≡ f.region) → ((f : Face K) → but f.number ≡ false → (change f).asks ≡ f.asks) → ((f : Face K) → (change f).pendings ≡ f.pendings)
      → StillPart but (Alter (with_face n change))
  one_still but n change number_ region_ asks_ pendings_ = λ g. both_face cmp matching but n change g (record { number = number_; region = region_; asks = asks_; none = λ f none_. pendings_ f ∙ none_ }) pendings_

  pub showing_still : (but : ℕ → Bool) (source : Region) (e : K) → Each (StillPart but) (showing cmp source e)
  showing_still but source e =
      let says = showing_says cmp matching Still (λ x k. tt) source e in (
        says.0,
        (
          (λ g.
              let rs = filter (is_newly_shown cmp g source e) (router_regions g) in
              both_same cmp matching but g (with_own_rows cmp rs e g) (own_rows_leave cmp (λ (k : Rows K). k.mode) (λ k rows. refl) rs e g) (own_rows_leave cmp (λ (k : Rows K). k.faces) (λ k rows. refl) rs e g)),
          tt,
        ),
      )

  pub hiding_still : (but : ℕ → Bool) (source : Region) (e : K) → Each (StillPart but) (hiding cmp source e)
  unfolding without_own_rows
  hiding_still but source e = let says = hiding_says cmp matching Still (λ x k. tt) source e in (says.0, ((λ g. both_same cmp matching but g (without_own_rows cmp source e g) refl refl), tt))

  pub undeclaring_still : (but : ℕ → Bool) (n id : ℕ) (given : Option K) (f : Face K) → Each (StillPart but) (undeclaring cmp matching n id given f)
  undeclaring_still but n id given f = cases (undeclared cmp matching id given f)
    where
      cases : (o : Option K) → Each (StillPart but) (elim o [ None ↦ [] | Some e ↦ Alter (with_face n (unregistered id)) ∷ Say (λ g. to_each (forget_to cmp matching g f.region e) g.faces) ∷ [] ])
      cases None = tt
      cases (Some e) = (one_still but n (unregistered id) (λ k. refl) (λ k. refl) (λ k apart. refl) (λ k. refl), (forgets_say cmp matching Still (λ k. tt) (λ x k. tt) f.region e, tt))

  hiding_undeclared_still : (id : ℕ) (given : Option K) (f : Face K) → Each (StillPart nobody) (hiding_undeclared cmp matching id given f)
  hiding_undeclared_still id given f = cases (undeclared cmp matching id given f)
    where
      cases : (o : Option K) → Each (StillPart nobody) (elim o [ None ↦ [] | Some e ↦ hiding cmp f.region e ])
      cases None = tt
      cases (Some e) = hiding_still nobody f.region e

  declaring_of_still : (n : ℕ) (source : Option Zid) (e : K) (f : Face K) → Each (StillPart nobody) (declaring_of cmp matching n source e f)
  unfolding with_routed
  declaring_of_still n None e f = tt
  declaring_of_still n (Some zid) e f =
      let says = declaring_of_says cmp matching Still (λ k x. tt) (λ x k. tt) n (Some zid) e f in
      ((λ g. both_same cmp matching nobody g (with_routed cmp f.region zid e g) refl refl), (says.1.0, (telling_says cmp matching Still (λ k x. tt) f.region e, showing_still nobody f.region e)))

  undeclaring_of_still : (n : ℕ) (source : Option Zid) (given : Option K) (f : Face K) → Each (StillPart nobody) (undeclaring_of cmp matching n source given f)
  unfolding without_routed
  undeclaring_of_still n None given f = tt
  undeclaring_of_still n (Some zid) None f = tt
  undeclaring_of_still n (Some zid) (Some e) f =
      let says = undeclaring_of_says cmp matching Still (λ k. tt) (λ x k. tt) n (Some zid) (Some e) f in
      ((λ g. both_same cmp matching nobody g (without_routed cmp f.region zid e g) refl refl), (says.1.0, (forgets_say cmp matching Still (λ k. tt) (λ x k. tt) f.region e, hiding_still nobody f.region e)))

  answering_still : (n : ℕ) (interest : Option ℕ) (e : K) (f : Face K) → Each (StillPart nobody) (answering cmp matching n interest e f)
  answering_still n None e f = tt
  answering_still n (Some i) e f = of_cond (Each (StillPart nobody)) (has_id i f.pendings) (Say (λ h. to_each (answer_to cmp matching n i e) h.faces) ∷ []) [] (λ _. ((λ g. each_ruled Still (answer_to cmp matching n i e) g.faces (answer_says cmp matching Still (λ k x j. tt) n i e)), tt)) (λ _. tt)

  -- an interest ends, but for its final
  pub unheld_still : (but : ℕ → Bool) (n id : ℕ) → StillPart but (Alter (with_face n (unheld id)))
  unheld_still but n id = one_still but n (unheld id) (λ k. refl) (λ k. refl) (λ k apart. refl) (λ k. refl)

  pub untell_still : (but : ℕ → Bool) (n : ℕ) → StillPart but (Say (λ g. to_face n (untell_to cmp matching g) g))
  untell_still but n = λ g. each_ruled_one Still n (untell_to cmp matching g) g (untell_says cmp matching Still (λ k. tt) g)

  pub upstream_still : (but : ℕ → Bool) (interest : InterestRow K) → StillPart but (Say (λ g. to_each (end_upstream_to cmp matching g interest) g.faces))
  upstream_still but interest = λ g. each_ruled Still (end_upstream_to cmp matching g interest) g.faces (end_upstream_says cmp matching Still (λ k. tt) g interest)

  pub unsaid_still : (but : ℕ → Bool) (n : ℕ) (parts : List (Part K)) → Each (StillPart but) parts → Each (StillPart but) (unsaid_to n parts)
  unfolding unsaid_to
  unsaid_still but n [] still = tt
  unsaid_still but n (Alter change ∷ parts) still = (still.0, unsaid_still but n parts still.1)
  unsaid_still but n (Say rule ∷ parts) still = ((λ g. each_filter (λ s. Still s.1) (λ s. not (n == s.0)) (rule g) (still.0 g)), unsaid_still but n parts still.1)

  none_own : (n : ℕ) (ms : List (Message K)) → filter (λ (s : ℕ × Message K). not (n == s.0)) (map (λ m. (n, m)) ms) ≡ []
  none_own n [] = refl
  none_own n (m ∷ ms) = rw (eq-eqb n n refl) (none_own n ms)

  unsaid_own : (n : ℕ) (rule : Face K → List (Message K)) (g : Rows K) → filter (λ (s : ℕ × Message K). not (n == s.0)) (to_face n rule g) ≡ []
  unfolding to_face
  unsaid_own n rule g = cases (find_face n g)
    where
      cases : (o : Option (Face K)) → filter (λ (s : ℕ × Message K). not (n == s.0)) (elim o [ None ↦ [] | Some f ↦ map (λ m. (n, m)) (rule f) ]) ≡ []
      cases None = refl
      cases (Some f) = none_own n (rule f)

  pub finalising_unsaid : (but : ℕ → Bool) (n id : ℕ) (interest : InterestRow K) → Each (StillPart but) (unsaid_to n (finalising cmp matching n id interest))
  unfolding unsaid_to
  finalising_unsaid but n id interest = (
    unheld_still but n id,
    (
      (λ g. each_filter (λ s. Still s.1) (λ s. not (n == s.0)) (to_face n (untell_to cmp matching g) g) (untell_still but n g)),
      (
        (λ g. subst (Each (λ s. Still s.1)) (sym (unsaid_own n (final_of_both id interest) g)) tt),
        ((λ g. each_filter (λ s. Still s.1) (λ s. not (n == s.0)) (to_each (end_upstream_to cmp matching g interest) g.faces) (upstream_still but interest g)), tt),
      ),
    ),
  )

  -- and asks go
  pub asks_still : (n : ℕ) → StillPart (only n) (Alter (with_face n without_asks))
  unfolding with_face
  asks_still n = λ g. record {
    leaves = record {
      mode = refl;
      change = λ f. if n == f.number then without_asks f else f;
      faces = refl;
      number = λ f. of_cond (λ (x : Face K). x.number ≡ f.number) (n == f.number) (without_asks f) f (λ _. refl) (λ _. refl);
      region = λ f. of_cond (λ (x : Face K). x.region ≡ f.region) (n == f.number) (without_asks f) f (λ _. refl) (λ _. refl);
      asks = λ f apart. of_cond (λ (x : Face K). x.asks ≡ f.asks) (n == f.number) (without_asks f) f (λ here. never here apart) (λ _. refl);
      none = λ f none_. of_cond (λ (x : Face K). x.pendings ≡ []) (n == f.number) (without_asks f) f (λ _. none_) (λ _. none_);
    };
    pendings = λ f. of_cond (λ (x : Face K). x.pendings ≡ f.pendings) (n == f.number) (without_asks f) f (λ _. refl) (λ _. refl);
  }

  pub initial_still : (but : ℕ → Bool) (n id : ℕ) → StillPart but (Alter (with_face n (initial_finalised id)))
  initial_still but n id = one_still but n (initial_finalised id) (λ k. refl) (λ k. refl) (λ k apart. refl) (λ k. refl)

  -- ---- still calls

  at_face : (n : ℕ) (g : Rows K) (parts : Face K → List (Part K)) → ((f : Face K) → Each (StillPart nobody) (parts f)) → Each (StillPart nobody) (elim (find_face n g) [ None ↦ [] | Some f ↦ parts f ])
  at_face n g parts one = cases (find_face n g)
    where
      cases : (o : Option (Face K)) → Each (StillPart nobody) (elim o [ None ↦ [] | Some f ↦ parts f ])
      cases None = tt
      cases (Some f) = one f

  pub declaration_still : (n id node : ℕ) (e : K) (interest : Option ℕ) (g : Rows K) → Each (StillPart nobody) (parts_of cmp matching (DeclareToken n id e node interest) g)
  unfolding parts_of
  declaration_still n id node e interest g =
      at_face n g (λ f. if is_routed g f then declaring_of cmp matching n (source_of g f node) e f else answering cmp matching n interest e f ++ plain f)
      (λ f.
      of_cond (Each (StillPart nobody)) (is_routed g f) (declaring_of cmp matching n (source_of g f node) e f) (answering cmp matching n interest e f ++ plain f)
      (λ _. declaring_of_still n (source_of g f node) e f)
      (λ _. each_append (StillPart nobody) (answering cmp matching n interest e f) (plain f) (answering_still n interest e f)
      (of_cond (Each (StillPart nobody)) (registers f interest) (declaring cmp matching n id e f ++ showing cmp f.region e) []
      (λ _. (one_still nobody n (registered id e) (λ k. refl) (λ k. refl) (λ k apart. refl) (λ k. refl), (telling_says cmp matching Still (λ k x. tt) f.region e, showing_still nobody f.region e))) (λ _. tt))))
    where
      plain : Face K → List (Part K)
      plain f = if registers f interest then declaring cmp matching n id e f ++ showing cmp f.region e else []

  pub undeclaration_still : (n id node : ℕ) (given : Option K) (g : Rows K) → Each (StillPart nobody) (parts_of cmp matching (UndeclareToken n id given node) g)
  unfolding parts_of
  undeclaration_still n id node given g =
      at_face n g (λ f. if is_routed g f then undeclaring_of cmp matching n (source_of g f node) given f else undeclaring cmp matching n id given f ++ hiding_undeclared cmp matching id given f)
      (λ f.
      of_cond (Each (StillPart nobody)) (is_routed g f) (undeclaring_of cmp matching n (source_of g f node) given f) (undeclaring cmp matching n id given f ++ hiding_undeclared cmp matching id given f)
      (λ _. undeclaring_of_still n (source_of g f node) given f)
      (λ _. each_append (StillPart nobody) (undeclaring cmp matching n id given f) (hiding_undeclared cmp matching id given f) (undeclaring_still nobody n id given f) (hiding_undeclared_still id given f)))

  pub table_still : (region : Region) (t : Trees) (g : Rows K) → Each (StillPart nobody) (parts_of cmp matching (SetTrees region t) g)
  unfolding parts_of
  table_still region t g = (
    (λ h. both_same cmp matching nobody h (without_left_out cmp region (counted_table t) h) refl refl),
    each_append (StillPart nobody) (forgetting cmp matching region (left_out cmp region (counted_table t) g)) _
        (each_flat_map (StillPart nobody) (λ e. Say (λ h. to_each (forget_to cmp matching h region e) h.faces) ∷ hiding cmp region e) (left_out cmp region (counted_table t) g) (λ e. (forgets_say cmp matching Still (λ k. tt) (λ x k. tt) region e, hiding_still nobody region e))) (
          (λ h. both_same cmp matching nobody h (with_table cmp region t h) refl refl),
          ((λ h. each_ruled Still (greet_to cmp h region (table_of g region)) h.faces (greet_says cmp matching Still (λ x k. tt) h region (table_of g region))), tt),
        ),
  )

  pub entities_still : (n : ℕ) (subscribers : List K) (queryables : List (K × QueryableInfo)) (g : Rows K) → Each (StillPart nobody) (parts_of cmp matching (SetEntities n subscribers queryables) g)
  unfolding parts_of
  entities_still n subscribers queryables g = ((λ h. numbered h (one_still nobody n change (λ k. refl) (λ k. refl) (λ k apart. refl) (λ k. refl) (with_numbers cmp es h))), tt)
    where
      change : Face K → Face K
      change f = record f { subscribers = subscribers; queryables = queryables }

      es : List K
      es = entity_expressions cmp subscribers queryables

      numbered : (h : Rows K) → LeavesBoth cmp nobody (with_numbers cmp es h) (with_face n change (with_numbers cmp es h)) → LeavesBoth cmp nobody h (with_face n change (with_numbers cmp es h))
      numbered h both =
          let leaves = both.leaves in
          record { leaves = record { mode = leaves.mode; change = leaves.change; faces = leaves.faces; number = leaves.number; region = leaves.region; asks = leaves.asks; none = leaves.none }; pendings = both.pendings }

  -- ---- what parts leave

  -- a part makes no pending, and leaves asks
  abbrev pub PartKeeps : (ℕ → Bool) → Part K → Type 0
  PartKeeps but (Alter change) = (g : Rows K) → LeavesAsks cmp but g (change g)
  PartKeeps but (Say rule) = (g : Rows K) → Each (λ s. MakesNoPending s.1) (rule g)

  keeps_if_still : (but : ℕ → Bool) (part : Part K) → StillPart but part → PartKeeps but part
  keeps_if_still but (Alter change) still = λ g. (still g).leaves
  keeps_if_still but (Say rule) still = λ g. each_weaker (λ s. Still s.1) (λ s. MakesNoPending s.1) (λ s one. none_if_still cmp matching s.1 one) (rule g) (still g)

  pub keep_if_still : (but : ℕ → Bool) (parts : List (Part K)) → Each (StillPart but) parts → Each (PartKeeps but) parts
  keep_if_still but parts still = each_weaker (StillPart but) (PartKeeps but) (λ part one. keeps_if_still but part one) parts still

  pub ending_keeps : (but : ℕ → Bool) (n id : ℕ) → Each (PartKeeps but) (ending n id)
  ending_keeps but n id = (
    (λ g. leaves_face cmp matching but n (ended id) g (ended_beside cmp matching but id)),
    (
      (λ g. each_weaker (λ s. IsQuietMessage s.1) (λ s. MakesNoPending s.1) (λ s quiet. none_if_drawn s.1 (drawn_if_quiet s.1 quiet)) (to_each (finish_to g n id) g.faces) (each_ruled IsQuietMessage (finish_to g n id) g.faces (quiet_finish g n id))),
      tt,
    ),
  )

  pub unsaid_keeps : (but : ℕ → Bool) (n : ℕ) (parts : List (Part K)) → Each (PartKeeps but) parts → Each (PartKeeps but) (unsaid_to n parts)
  unfolding unsaid_to
  unsaid_keeps but n [] keep = tt
  unsaid_keeps but n (Alter change ∷ parts) keep = (keep.0, unsaid_keeps but n parts keep.1)
  unsaid_keeps but n (Say rule ∷ parts) keep = ((λ g. each_filter (λ s. MakesNoPending s.1) (λ s. not (n == s.0)) (rule g) (keep.0 g)), unsaid_keeps but n parts keep.1)

  pub finalising_keeps : (but : ℕ → Bool) (n id : ℕ) (interest : InterestRow K) → Each (PartKeeps but) (finalising cmp matching n id interest)
  finalising_keeps but n id interest = (
    keeps_if_still but (Alter (with_face n (unheld id))) (unheld_still but n id),
    (
      keeps_if_still but (Say (λ g. to_face n (untell_to cmp matching g) g)) (untell_still but n),
      (
        (λ g. each_ruled_one MakesNoPending n (final_of_both id interest) g (final_of_both_says cmp matching MakesNoPending (λ k. tt) id interest)),
        (keeps_if_still but (Say (λ g. to_each (end_upstream_to cmp matching g interest) g.faces)) (upstream_still but interest), tt),
      ),
    ),
  )

  -- a face's leaving
  pub leaving_keeps : (n : ℕ) (f : Face K) → Each (PartKeeps (only n)) (leaving cmp matching n f)
  leaving_keeps n f =
      let gone = λ (row : ℕ × K). undeclaring cmp matching n row.0 None f ++ hiding cmp f.region row.1 in
      let finals = λ (row : ℕ × InterestRow K). finalising cmp matching n row.0 row.1 in
      let over = flat_map (λ row. ending n row.0) f.pendings in
      each_append (PartKeeps (only n)) (flat_map gone f.live ++ flat_map finals f.held) (Alter (with_face n without_asks) ∷ over)
      (each_append (PartKeeps (only n)) (flat_map gone f.live) (flat_map finals f.held)
      (each_flat_map (PartKeeps (only n)) gone f.live
      (λ row. each_append (PartKeeps (only n)) (undeclaring cmp matching n row.0 None f) (hiding cmp f.region row.1) (keep_if_still (only n) (undeclaring cmp matching n row.0 None f) (undeclaring_still (only n) n row.0 None f)) (keep_if_still (only n) (hiding cmp f.region row.1) (hiding_still (only n) f.region row.1))))
      (each_flat_map (PartKeeps (only n)) finals f.held (λ row. finalising_keeps (only n) n row.0 row.1)))
      (keeps_if_still (only n) (Alter (with_face n without_asks)) (asks_still n), each_flat_map (PartKeeps (only n)) (λ row. ending n row.0) f.pendings (λ row. ending_keeps (only n) n row.0))

  -- a fact of the asks of each face, by its number, but for some faces
  abbrev pub AsksAre : (ℕ → Bool) → (ℕ → ById (Ask K) → Type 0) → Rows K → Type 0
  AsksAre but P g = Each (λ f. but f.number ≡ false → P f.number f.asks) g.faces

  pub asks_left : (but : ℕ → Bool) (P : ℕ → ById (Ask K) → Type 0) (g h : Rows K) → LeavesAsks cmp but g h → AsksAre but P g → AsksAre but P h
  asks_left but P g h leaves all =
      subst (Each (λ f. but f.number ≡ false → P f.number f.asks)) (sym leaves.faces)
      (each_map (λ f. but f.number ≡ false → P f.number f.asks) leaves.change g.faces
      (each_weaker (λ f. but f.number ≡ false → P f.number f.asks) (λ f. but (leaves.change f).number ≡ false → P (leaves.change f).number (leaves.change f).asks)
      (λ f own apart.
      let apart_ : but f.number ≡ false = ap but (sym (leaves.number f)) ∙ apart in
      subst (λ k. P k (leaves.change f).asks) (sym (leaves.number f)) (subst (P f.number) (sym (leaves.asks f apart_)) (own apart_))) g.faces all))

  pub asks_altered : (but : ℕ → Bool) (P : ℕ → ById (Ask K) → Type 0) (parts : List (Part K)) (g : Rows K) → Each (PartKeeps but) parts → AsksAre but P g → AsksAre but P (altered_by cmp matching parts g)
  unfolding altered_by
  asks_altered but P [] g keep all = all
  asks_altered but P (Alter change ∷ parts) g keep all = asks_altered but P parts (change g) keep.1 (asks_left but P g (change g) (keep.0 g) all)
  asks_altered but P (Say rule ∷ parts) g keep all = asks_altered but P parts g keep.1 all

  -- faces of router regions have no pendings
  abbrev pub RoutedAskNothing : Rows K → Type 0
  RoutedAskNothing g = Each (λ f. is_routed g f ≡ true → f.pendings ≡ []) g.faces

  pub routed_left : (but : ℕ → Bool) (g h : Rows K) → LeavesAsks cmp but g h → RoutedAskNothing g → RoutedAskNothing h
  routed_left but g h leaves all =
      subst (Each (λ f. is_routed h f ≡ true → f.pendings ≡ [])) (sym leaves.faces)
      (each_map (λ f. is_routed h f ≡ true → f.pendings ≡ []) leaves.change g.faces
      (each_weaker (λ f. is_routed g f ≡ true → f.pendings ≡ []) (λ f. is_routed h (leaves.change f) ≡ true → (leaves.change f).pendings ≡ [])
      (λ f own routed.
      let routed_ : is_routed g f ≡ true = sym (ap (λ m. (hat_of m (leaves.change f).region).goes_by_trees) leaves.mode ∙ ap (λ (r : Region). (hat_of g.mode r).goes_by_trees) (leaves.region f)) ∙ routed in
      leaves.none f (own routed_)) g.faces all))

  pub routed_heard : (ss : Sends K) (g : Rows K) → Each (λ f. is_routed g f ≡ true → Each MakesNoPending (messages_for f.number ss)) g.faces → RoutedAskNothing g → RoutedAskNothing (rows_heard cmp ss g)
  unfolding rows_heard
  routed_heard ss g quiet all = by_faces g.faces quiet all
    where
      hears : Face K → Face K
      hears f = heard_all cmp g.moment (messages_for f.number ss) f

      by_faces : (fs : List (Face K)) → Each (λ f. is_routed g f ≡ true → Each MakesNoPending (messages_for f.number ss)) fs → Each (λ f. is_routed g f ≡ true → f.pendings ≡ []) fs
          → Each (λ f. (hat_of g.mode f.region).goes_by_trees ≡ true → f.pendings ≡ []) (map hears fs)
      by_faces [] quiet_ all_ = tt
      by_faces (f ∷ fs) quiet_ all_ = (
        (λ routed.
            let routed_ : is_routed g f ≡ true = sym (ap (λ (r : Region). (hat_of g.mode r).goes_by_trees) (heard_all-region cmp g.moment (messages_for f.number ss) f)) ∙ routed in
            pendings_same cmp g.moment (messages_for f.number ss) f (quiet_.0 routed_) ∙ all_.0 routed_),
        by_faces fs quiet_.1 all_.1,
      )

  pub routed_quietly : (ss : Sends K) (g : Rows K) → Each (λ s. MakesNoPending s.1) ss → RoutedAskNothing g → RoutedAskNothing (rows_heard cmp ss g)
  routed_quietly ss g none_ all = routed_heard ss g (each_weaker (λ f. is_routed g f ≡ true → f.pendings ≡ []) (λ f. is_routed g f ≡ true → Each MakesNoPending (messages_for f.number ss)) (λ f own routed. each_message_for cmp MakesNoPending f.number ss none_) g.faces all) all

  pub routed_ran : (but : ℕ → Bool) (parts : List (Part K)) (g : Rows K) → Each (PartKeeps but) parts → RoutedAskNothing g → RoutedAskNothing (ran cmp parts g)
  unfolding ran
  routed_ran but [] g keep all = all
  routed_ran but (Alter change ∷ parts) g keep all = routed_ran but parts (change g) keep.1 (routed_left but g (change g) (keep.0 g) all)
  routed_ran but (Say rule ∷ parts) g keep all = routed_ran but parts (rows_heard cmp (rule g) g) keep.1 (routed_quietly (rule g) g (keep.0 g) all)
