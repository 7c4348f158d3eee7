-- The parts of calls keep a gateway one of a tree, all but those of an interest that is made.
use Rattle.std.proofs.Common.{◌≡◌, ℕ, ◌≤◌, ◌<◌, Bool, true, if◌then◌else◌, ◌&&◌, ◌==◌, not, List, [], ◌∷◌, ◌++◌, length, filter, Option, Some, None, refl, sym, ap, ◌∙◌, subst, eq-eqb}
use Rattle.std.specs.Cmp.{IsTotalOrder}
use Rattle.std.specs.List.{flat_map, list_any}
use Rattle.std.specs.declared.cmp.Ordering.{Ordering}
use Rattle.std.specs.declared.cmp.Ordering.TheVariants.{Less, Equal, Greater}
use Rattle.std.specs.FinMap.Entries.{by_order}
use Rattle.zt_region.specs.declared.region.Region.{Region}
use Rattle.zt_region.specs.declared.region.WhatAmI.TheVariants.{Client}
use Rattle.zt_region.specs.declared.region.Zid.{Zid}
use Rattle.zt_region.specs.Region.{zid_eq}
use Rattle.zt_protocol.specs.Interest.{is_current, is_future}
use Rattle.zt_protocol.specs.Plain.{Trees}
use Rattle.zt_protocol.specs.declared.messages.Message.{Message}
use Rattle.zt_protocol.specs.declared.messages.QueryableInfo.{QueryableInfo}
use Rattle.zt_model.specs.Closing.{closing, expiring, is_expired, leaving, without_asks, without_face}
use Rattle.zt_model.specs.Entities.{with_numbers}
use Rattle.zt_model.specs.Lists.{has_id, with_key}
use Rattle.zt_model.specs.Parts.{Alter, Part, Say, to_each, to_face, unsaid_to, with_face}
use Rattle.zt_model.specs.Refusals.{GREATEST_DICTIONARY}
use Rattle.zt_model.specs.Routing.{asks_same, ended, ending, final_of_both, finalising, finish_to, finishing, initial_finalised, unheld, untell_to}
use Rattle.zt_model.specs.Rows.{ById, Face, InterestRow, RoutedRow, Rows}
use Rattle.zt_model.specs.Says.{answering, declaring, forget_to, hiding_undeclared, is_routed, registered, tell_to, undeclared, undeclaring, unregistered}
use Rattle.zt_model.specs.Telling.{answer_to}
use Rattle.zt_model.specs.Transcript.{Each}
use Rattle.zt_model.specs.Trees.{changing_table, counted_table, greet_to, hide_to, hiding, is_newly_shown, left_out, router_regions, routed_order, row_at, show_to, showing, table_of, with_own_rows, with_routed, with_table, without_left_out, without_own_rows}
use Rattle.zt_model.specs.Wants.{kept_options}
use Rattle.zt_laws.specs.Sound.{RiseFrom}
use Rattle.zt_laws.proofs.Hearing.{each_ruled, each_ruled_one}
use Rattle.zt_laws.proofs.Lists.{each_always, each_append, each_filter, each_weaker, filter_all, of_cond}
use Rattle.zt_laws.proofs.PartsOrder.{each_flat_map}
use Rattle.zt_theorem_tree_invariant.proofs.Parts.{tree_face_less}
use Rattle.zt_theorem_tree_knowledge.proofs.Hearing.{LeavesLocals, leaving_answer, leaving_final_of_both, leaving_finish, leaving_forget, leaving_greet, leaving_hide, leaving_show, leaving_tell, leaving_untell, says_leaving}
use Rattle.zt_theorem_tree_knowledge.proofs.Inside.{Any, GoesOn, Held, Inside, KeepsPart, beside, face_changed, filtered}
use Rattle.zt_theorem_tree_knowledge.proofs.Upstream.{keeps_end_unsaid, keeps_end_upstream}

module _ {K : Type 0} (cmp : K → K → Ordering) (matching : K → K → Bool) where
  abbrev Keeps : Part K → Type 0
  Keeps part = KeepsPart cmp matching part

  -- ---- a face is changed

  -- a face that holds no more than before, and sent up the same
  goes_less : (g : Rows K) (f h : Face K) (stays : ℕ × InterestRow K → Bool) → h.number ≡ f.number → h.region ≡ f.region → h.bound ≡ f.bound → h.mode ≡ f.mode → h.next ≡ f.next → h.locals ≡ f.locals → h.held ≡ filter stays f.held → (f.asks ≡ [] → h.asks ≡ []) → GoesOn cmp matching (Any cmp matching) g f h
  goes_less g f h stays number_ region_ bound_ mode_ next_ locals_ held_ asks_ = record {
    number = number_;
    region = region_;
    face = λ face.
        tree_face_less g.mode f h region_ bound_ mode_ (λ none_. held_ ∙ ap (filter stays) none_)
        (λ all. subst (λ (rows : ById (InterestRow K)). Each (λ row. kept_options Client row.1.options ≡ row.1.options) rows) (sym held_) (each_filter (λ (row : ℕ × InterestRow K). kept_options Client row.1.options ≡ row.1.options) stays f.held all)) asks_ face;
    rises = λ rises. subst (λ (rows : ById (InterestRow K)). RiseFrom (λ row. row.0) 0 rows) (sym locals_) rises;
    drawn = λ drawn. subst (λ (rows : ById (InterestRow K)). Each (λ row. row.0 < h.next) rows) (sym locals_) (subst (λ n. Each (λ row. row.0 < n) f.locals) (sym next_) drawn);
    held = λ _ all. subst (λ (rows : ById (InterestRow K)). Each (Held cmp matching (Any cmp matching) g) rows) (sym held_) (each_filter (Held cmp matching (Any cmp matching) g) stays f.held all);
    asks = λ i _ some. subst (λ (rows : ById (InterestRow K)). list_any (λ row. (is_current row.1.mode && is_future row.1.mode) && asks_same cmp matching i row.1) rows ≡ true) (sym locals_) some;
  }

  all_stay : {A : Type 0} (xs : List A) → xs ≡ filter (λ x. true) xs
  all_stay xs = sym (filter_all (λ x. true) xs (each_always (λ x. true ≡ true) (λ x. refl) xs))

  changes_face : (n : ℕ) (change : Face K → Face K) → ((g : Rows K) (f : Face K) → GoesOn cmp matching (Any cmp matching) g f (change f)) → Keeps (Alter (with_face n change))
  changes_face n change goes = λ g inside. face_changed cmp matching n change g (each_always (λ f. (n == f.number) ≡ true → GoesOn cmp matching (Any cmp matching) g f (change f)) (λ f _. goes g f) g.faces) inside

  pub keeps_registered : (n id : ℕ) (e : K) → Keeps (Alter (with_face n (registered id e)))
  keeps_registered n id e = changes_face n (registered id e) (λ g f. goes_less g f (registered id e f) (λ row. true) refl refl refl refl refl refl (all_stay f.held) (λ h. h))

  keeps_unregistered : (n id : ℕ) → Keeps (Alter (with_face n (unregistered id)))
  keeps_unregistered n id = changes_face n (unregistered id) (λ g f. goes_less g f (unregistered id f) (λ row. true) refl refl refl refl refl refl (all_stay f.held) (λ h. h))

  keeps_unheld : (n id : ℕ) → Keeps (Alter (with_face n (unheld id)))
  keeps_unheld n id = changes_face n (unheld id) (λ g f. goes_less g f (unheld id f) (λ row. not (id == row.0)) refl refl refl refl refl refl refl (λ h. h))

  keeps_ended : (n id : ℕ) → Keeps (Alter (with_face n (ended id)))
  keeps_ended n id = changes_face n (ended id) (λ g f. goes_less g f (ended id f) (λ row. true) refl refl refl refl refl refl (all_stay f.held) (λ h. h))

  keeps_initial : (n id : ℕ) → Keeps (Alter (with_face n (initial_finalised id)))
  keeps_initial n id = changes_face n (initial_finalised id) (λ g f. goes_less g f (initial_finalised id f) (λ row. true) refl refl refl refl refl refl (all_stay f.held) (λ h. h))

  keeps_without_asks : (n : ℕ) → Keeps (Alter (with_face n without_asks))
  keeps_without_asks n = changes_face n without_asks (λ g f. goes_less g f (without_asks f) (λ row. true) refl refl refl refl refl refl (all_stay f.held) (λ h. refl))

  pub keeps_entities : (n : ℕ) (subscribers : List K) (queryables : List (K × QueryableInfo)) → Keeps (Alter (with_face n (λ f. record f { subscribers = subscribers; queryables = queryables })))
  keeps_entities n subscribers queryables =
      changes_face n (λ f. record f { subscribers = subscribers; queryables = queryables })
      (λ g f. goes_less g f (record f { subscribers = subscribers; queryables = queryables }) (λ row. true) refl refl refl refl refl refl (all_stay f.held) (λ h. h))

  -- ---- rows beside the faces

  -- the dictionary gets what it has room for
  pub numbered : (es : List K) (g : Rows K) → length (with_numbers cmp es g).dictionary ≤ GREATEST_DICTIONARY → Inside cmp matching g → Inside cmp matching (with_numbers cmp es g)
  numbered es g room inside = beside cmp matching g (with_numbers cmp es g) refl refl inside.tree.own_rows room inside

  keeps_moment : (now : ℕ) → Keeps (Alter (λ h. record h { moment = now }))
  keeps_moment now = λ g inside. beside cmp matching g (record g { moment = now }) refl refl inside.tree.own_rows inside.tree.dictionary inside

  own_row_put : (zid : Zid) (row : RoutedRow K) (rows : List (RoutedRow K)) → zid_eq row.source zid ≡ true → Each (λ r. zid_eq r.source zid ≡ true) rows → Each (λ r. zid_eq r.source zid ≡ true) (with_key (routed_order cmp) row rows)
  own_row_put zid row [] own all = (own, tt)
  own_row_put zid row (r ∷ rows) own all =
      elim (routed_order cmp row r) as (λ o. Each (λ r. zid_eq r.source zid ≡ true) (by_order o (row ∷ r ∷ rows) (r ∷ rows) (r ∷ with_key (routed_order cmp) row rows))) [
        | Less ↦ (own, all)
        | Equal ↦ all
        | Greater ↦ (all.0, own_row_put zid row rows own all.1)
      ]

  own_rows_shown : (rs : List Region) (e : K) (g : Rows K) → Inside cmp matching g → Inside cmp matching (with_own_rows cmp rs e g)
  unfolding with_own_rows with_routed
  own_rows_shown [] e g inside = inside
  own_rows_shown (r ∷ rs) e g inside =
      let h = with_routed cmp r g.zid e g in
      own_rows_shown rs e h (beside cmp matching g h refl refl (own_row_put g.zid (row_at cmp r g.zid e) g.routed (eq-eqb g.zid.0 g.zid.0 refl) inside.tree.own_rows) inside.tree.dictionary inside)

  keeps_without_own : (source : Region) (e : K) → Keeps (Alter (without_own_rows cmp source e))
  unfolding without_own_rows
  keeps_without_own source e = λ g inside. beside cmp matching g (without_own_rows cmp source e g) refl refl (each_filter (λ row. zid_eq row.source g.zid ≡ true) _ g.routed inside.tree.own_rows) inside.tree.dictionary inside

  -- ---- what is said, to all or to all but one face

  abbrev pub KeepsUnsaid : ℕ → Part K → Type 0
  KeepsUnsaid n (Alter change) = Keeps (Alter change)
  KeepsUnsaid n (Say rule) = Keeps (Say (λ g. filter (λ s. not (n == s.0)) (rule g)))

  abbrev pub KeepsBoth : ℕ → Part K → Type 0
  KeepsBoth n part = Keeps part × KeepsUnsaid n part

  altered_both : (n : ℕ) (change : Rows K → Rows K) → Keeps (Alter change) → KeepsBoth n (Alter change)
  altered_both n change keeps = (keeps, keeps)

  said_both : (n : ℕ) (rule : Rows K → List (ℕ × Message K)) → ((g : Rows K) → Each (λ s. LeavesLocals s.1) (rule g)) → KeepsBoth n (Say rule)
  said_both n rule leaves = (says_leaving cmp matching rule leaves, says_leaving cmp matching (λ g. filter (λ s. not (n == s.0)) (rule g)) (λ g. each_filter (λ s. LeavesLocals s.1) (λ s. not (n == s.0)) (rule g) (leaves g)))

  each_both_said : (n : ℕ) (rule : Rows K → Face K → List (Message K)) → ((g : Rows K) (f : Face K) → Each LeavesLocals (rule g f)) → KeepsBoth n (Say (λ g. to_each (rule g) g.faces))
  each_both_said n rule leaves = said_both n (λ g. to_each (rule g) g.faces) (λ g. each_ruled LeavesLocals (rule g) g.faces (leaves g))

  one_both_said : (n k : ℕ) (rule : Rows K → Face K → List (Message K)) → ((g : Rows K) (f : Face K) → Each LeavesLocals (rule g f)) → KeepsBoth n (Say (λ g. to_face k (rule g) g))
  one_both_said n k rule leaves = said_both n (λ g. to_face k (rule g) g) (λ g. each_ruled_one LeavesLocals k (rule g) g (leaves g))

  -- ---- groups of parts

  pub both_hiding : (n : ℕ) (source : Region) (e : K) → Each (KeepsBoth n) (hiding cmp source e)
  both_hiding n source e = (each_both_said n (λ g. hide_to cmp g source e) (λ g. leaving_hide cmp matching g source e), (altered_both n (without_own_rows cmp source e) (keeps_without_own source e), tt))

  pub both_undeclaring : (n k id : ℕ) (given : Option K) (f : Face K) → Each (KeepsBoth n) (undeclaring cmp matching k id given f)
  both_undeclaring n k id given f = cases (undeclared cmp matching id given f)
    where
      cases : (o : Option K) → Each (KeepsBoth n) (elim o [ None ↦ [] | Some e ↦ Alter (with_face k (unregistered id)) ∷ Say (λ g. to_each (forget_to cmp matching g f.region e) g.faces) ∷ [] ])
      cases None = tt
      cases (Some e) = (altered_both n (with_face k (unregistered id)) (keeps_unregistered k id), (each_both_said n (λ g. forget_to cmp matching g f.region e) (λ g. leaving_forget cmp matching g f.region e), tt))

  pub both_hiding_undeclared : (n id : ℕ) (given : Option K) (f : Face K) → Each (KeepsBoth n) (hiding_undeclared cmp matching id given f)
  both_hiding_undeclared n id given f = cases (undeclared cmp matching id given f)
    where
      cases : (o : Option K) → Each (KeepsBoth n) (elim o [ None ↦ [] | Some e ↦ hiding cmp f.region e ])
      cases None = tt
      cases (Some e) = both_hiding n f.region e

  pub both_ending : (n k id : ℕ) → Each (KeepsBoth n) (ending k id)
  both_ending n k id = (altered_both n (with_face k (ended id)) (keeps_ended k id), (each_both_said n (λ g. finish_to g k id) (λ g. leaving_finish cmp matching g k id), tt))

  both_forgetting : (n : ℕ) (source : Region) (e : K) → Each (KeepsBoth n) (Say (λ g. to_each (forget_to cmp matching g source e) g.faces) ∷ hiding cmp source e)
  both_forgetting n source e = (each_both_said n (λ g. forget_to cmp matching g source e) (λ g. leaving_forget cmp matching g source e), both_hiding n source e)

  pub alone : (n : ℕ) (parts : List (Part K)) → Each (KeepsBoth n) parts → Each Keeps parts
  alone n parts both = each_weaker (KeepsBoth n) Keeps (λ part one. one.0) parts both

  pub unsaid : (n : ℕ) (parts : List (Part K)) → Each (KeepsBoth n) parts → Each Keeps (unsaid_to n parts)
  unfolding unsaid_to
  unsaid n [] both = tt
  unsaid n (Alter change ∷ parts) both = (both.0.1, unsaid n parts both.1)
  unsaid n (Say rule ∷ parts) both = (both.0.1, unsaid n parts both.1)

  -- ---- declaring

  pub keeps_declaring : (n id : ℕ) (e : K) (f : Face K) → Each Keeps (declaring cmp matching n id e f)
  keeps_declaring n id e f = (keeps_registered n id e, ((each_both_said 0 (λ g. tell_to cmp matching g f.region e) (λ g. leaving_tell cmp matching g f.region e)).0, tt))

  pub keeps_showing : (source : Region) (e : K) → Each Keeps (showing cmp source e)
  keeps_showing source e = ((each_both_said 0 (λ g. show_to cmp g source e) (λ g. leaving_show cmp matching g source e)).0, ((λ g inside. own_rows_shown (filter (is_newly_shown cmp g source e) (router_regions g)) e g inside), tt))

  pub keeps_answering : (n : ℕ) (interest : Option ℕ) (e : K) (f : Face K) → Each Keeps (answering cmp matching n interest e f)
  keeps_answering n None e f = tt
  keeps_answering n (Some id) e f = of_cond (Each Keeps) (has_id id f.pendings) (Say (λ g. to_each (answer_to cmp matching n id e) g.faces) ∷ []) [] (λ _. ((each_both_said 0 (λ g. answer_to cmp matching n id e) (λ g. leaving_answer cmp matching n id e)).0, tt)) (λ _. tt)

  -- ---- ends of asks, time and tables

  pub keeps_finishing : (n id : ℕ) (f : Face K) → Each Keeps (finishing n id f)
  keeps_finishing n id f = (keeps_initial n id, of_cond (Each Keeps) (has_id id f.pendings) (ending n id) [] (λ _. alone 0 (ending n id) (both_ending 0 n id)) (λ _. tt))

  pub keeps_expiring : (now : ℕ) (g : Rows K) → Each Keeps (expiring now g)
  keeps_expiring now g =
      (keeps_moment now, each_flat_map Keeps (λ f. flat_map (λ row. ending f.number row.0) (filter (is_expired now g.timeout) f.pendings)) g.faces (λ f. each_flat_map Keeps (λ row. ending f.number row.0) (filter (is_expired now g.timeout) f.pendings) (λ row. alone 0 (ending f.number row.0) (both_ending 0 f.number row.0))))

  pub keeps_changing : (region : Region) (t : Trees) (g : Rows K) → Each Keeps (changing_table cmp matching region t g)
  keeps_changing region t g =
      let forgets = λ (e : K). Say (λ h. to_each (forget_to cmp matching h region e) h.faces) ∷ hiding cmp region e in (
        (λ h inside. beside cmp matching h (without_left_out cmp region (counted_table t) h) refl refl (each_filter (λ row. zid_eq row.source h.zid ≡ true) _ h.routed inside.tree.own_rows) inside.tree.dictionary inside),
        each_append Keeps (flat_map forgets (left_out cmp region (counted_table t) g)) _ (each_flat_map Keeps forgets (left_out cmp region (counted_table t) g) (λ e. alone 0 (forgets e) (both_forgetting 0 region e))) (
          (λ h inside. beside cmp matching h (with_table cmp region t h) refl refl inside.tree.own_rows inside.tree.dictionary inside),
          ((each_both_said 0 (λ h. greet_to cmp h region (table_of g region)) (λ h. leaving_greet cmp matching h region (table_of g region))).0, tt),
        ),
      )

  module _ (total : IsTotalOrder cmp) (equal_is_same : (a b : K) → cmp a b ≡ Equal → a ≡ b) where
    pub both_finalising : (n k id : ℕ) (interest : InterestRow K) → Each (KeepsBoth n) (finalising cmp matching k id interest)
    both_finalising n k id interest = (
      altered_both n (with_face k (unheld id)) (keeps_unheld k id),
      (
        one_both_said n k (untell_to cmp matching) (leaving_untell cmp matching),
        (
          one_both_said n k (λ g. final_of_both id interest) (λ g. leaving_final_of_both cmp matching id interest),
          ((keeps_end_upstream cmp matching total equal_is_same interest, keeps_end_unsaid cmp matching total equal_is_same n interest), tt),
        ),
      ),
    )

    -- ---- closing

    both_leaving : (n : ℕ) (f : Face K) → Each (KeepsBoth n) (leaving cmp matching n f)
    both_leaving n f =
        let undeclares = λ (row : ℕ × K). undeclaring cmp matching n row.0 None f ++ hiding cmp f.region row.1 in
        let finalises = λ (row : ℕ × InterestRow K). finalising cmp matching n row.0 row.1 in
        let ends = flat_map (λ row. ending n row.0) f.pendings in
        each_append (KeepsBoth n) (flat_map undeclares f.live ++ flat_map finalises f.held) (Alter (with_face n without_asks) ∷ ends)
        (each_append (KeepsBoth n) (flat_map undeclares f.live) (flat_map finalises f.held)
        (each_flat_map (KeepsBoth n) undeclares f.live (λ row. each_append (KeepsBoth n) (undeclaring cmp matching n row.0 None f) (hiding cmp f.region row.1) (both_undeclaring n n row.0 None f) (both_hiding n f.region row.1)))
        (each_flat_map (KeepsBoth n) finalises f.held (λ row. both_finalising n n row.0 row.1)))
        (altered_both n (with_face n without_asks) (keeps_without_asks n), each_flat_map (KeepsBoth n) (λ row. ending n row.0) f.pendings (λ row. both_ending n n row.0))

    pub keeps_closing : (n : ℕ) (g : Rows K) (f : Face K) → Each Keeps (closing cmp matching n g f)
    keeps_closing n g f =
        let parts : List (Part K) = if is_routed g f then [] else unsaid_to n (leaving cmp matching n f) in
        each_append Keeps parts (Alter (without_face n) ∷ [])
        (of_cond (Each Keeps) (is_routed g f) [] (unsaid_to n (leaving cmp matching n f)) (λ _. tt) (λ _. unsaid n (leaving cmp matching n f) (both_leaving n f)))
        ((λ h inside. filtered cmp matching (λ k. not (n == k.number)) h inside), tt)
