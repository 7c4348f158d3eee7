-- A face that opens at a gateway of a tree: a session, a client's, or that to the gateway above, which is sent all that is
-- held.
use Rattle.std.proofs.Common.{◌≡◌, ℕ, ◌+◌, ◌≤◌, ◌<◌, max, Bool, true, false, if◌then◌else◌, ◌&&◌, ◌==◌, List, [], ◌∷◌, ◌++◌, length, map, filter, Option, Some, None, refl, sym, ap, ◌∙◌, subst, arith, eq-eqb, ne_eqb}
use Rattle.std.proofs.lemmas.Bool.{or_left, or_right}
use Rattle.std.specs.Cmp.{IsTotalOrder}
use Rattle.std.specs.FinMap.Entries.{by_order}
use Rattle.std.specs.List.{flat_map, list_any}
use Rattle.std.specs.Ordering.{is_eq}
use Rattle.std.specs.declared.cmp.Ordering.{Ordering}
use Rattle.std.specs.declared.cmp.Ordering.TheVariants.{Less, Equal, Greater}
use Rattle.zt_region.specs.declared.region.Bound.{Bound}
use Rattle.zt_region.specs.declared.region.Bound.TheVariants.{South as SouthBound}
use Rattle.zt_region.specs.declared.region.Region.TheVariants.{North, South}
use Rattle.zt_region.specs.declared.region.WhatAmI.{WhatAmI}
use Rattle.zt_region.specs.declared.region.WhatAmI.TheVariants.{Client}
use Rattle.zt_region.specs.declared.region.Zid.{Zid}
use Rattle.zt_region.specs.Region.{is_north, zid_eq}
use Rattle.zt_protocol.specs.Interest.{has_tokens, is_current, is_future}
use Rattle.zt_protocol.specs.Plain.{NewSession, NewTransport}
use Rattle.zt_protocol.specs.declared.interests.InterestMode.TheVariants.{CurrentFuture}
use Rattle.zt_protocol.specs.declared.messages.Message.{Message}
use Rattle.zt_protocol.specs.declared.messages.Message.TheVariants as message
use Rattle.zt_model.specs.Hat.{north_hat}
use Rattle.zt_model.specs.Hearing.{heard, heard_all, rows_heard}
use Rattle.zt_model.specs.Lists.{in_key_order, with_key}
use Rattle.zt_model.specs.Parts.{find_face, opened_session, to_face, with_face}
use Rattle.zt_model.specs.Refusals.{GREATEST_DICTIONARY}
use Rattle.zt_model.specs.Routing.{asks_same, face_opened, held_south, interest_order, interests_from, opened, opening, opening_final, opening_interests, opening_tokens, tokens_from}
use Rattle.zt_model.specs.Rows.{ById, Face, InterestRow, RoutedRow, Rows}
use Rattle.zt_model.specs.Says.{parts_of}
use Rattle.zt_model.specs.Transcript.{Each}
use Rattle.zt_laws.specs.Order.{RowsAreInOrder}
use Rattle.zt_laws.specs.Sound.{RiseFrom, rows_after_call}
use Rattle.zt_laws.proofs.Hearing.{heard_all-held, rows_heard-to_face}
use Rattle.zt_laws.proofs.Lists.{by_test, each_always, each_append, each_both, each_front, each_map, each_weaker, never, of_cond, rise_push}
use Rattle.zt_laws.proofs.PartsOrder.{each_flat_map}
use Rattle.zt_theorem_soundness.specs.Ran.{ran}
use Rattle.zt_theorem_soundness.proofs.CallsRun.{call_runs}
use Rattle.zt_theorem_tree_invariant.specs.Facts.{AsksAbove, IsTreeFace, IsTreeGateway, LocalsAreDrawn}
use Rattle.zt_theorem_tree_invariant.proofs.Fresh.{each_in_order, find_last}
use Rattle.zt_theorem_tree_knowledge.proofs.Asking.{goes_sent, sent_asks, sent_up}
use Rattle.zt_theorem_tree_knowledge.proofs.Calls.{inside_of}
use Rattle.zt_theorem_tree_knowledge.proofs.Hearing.{LeavesLocals, hears_leaving, one_leaving}
use Rattle.zt_theorem_tree_knowledge.proofs.Inside.{Any, GoesOn, Inside, asks_itself, asks_row, goes_itself, goes_trans, members}
use Rattle.zt_theorem_tree_knowledge.proofs.Upstream.{same_from_all}

-- ---- lists

north_more : {K : Type 0} (fs : List (Face K)) (f : Face K) → length (filter (λ f. is_north f.region) fs) ≤ 1 → (is_north f.region ≡ true → list_any (λ k. is_north k.region) fs ≡ false) → length (filter (λ f. is_north f.region) (fs ++ f ∷ [])) ≤ 1
north_more [] f one none_ = by_test (is_north f.region) (λ up. rw up (omega arith)) (λ down. rw down (omega arith))
north_more {K} (k ∷ fs) f one none_ =
    by_test (is_north k.region)
    (λ up.
    let down : is_north f.region ≡ false = by_test (is_north f.region) (λ f_up. never (or_left (is_north k.region) (list_any (λ h. is_north h.region) fs) up) (none_ f_up)) (λ e. e) in
    let less : length (filter (λ f. is_north f.region) (k ∷ fs)) ≤ 1 = one in
    rw (up, north_same fs down) (rw up at less))
    (λ down. rw down (north_more fs f (rw down at one) (λ f_up. rw down at (none_ f_up))))
  where
    north_same : (xs : List (Face K)) → is_north f.region ≡ false → filter (λ f. is_north f.region) (xs ++ f ∷ []) ≡ filter (λ f. is_north f.region) xs
    north_same [] down = rw down refl
    north_same (x ∷ xs) down = by_test (is_north x.region) (λ here. rw here (ap (λ ys. x ∷ ys) (north_same xs down))) (λ here. rw here (north_same xs down))

any_flat : {A B : Type 0} (p : B → Bool) (make : A → List B) (xs : List A) → list_any (λ x. list_any p (make x)) xs ≡ true → list_any p (flat_map make xs) ≡ true
any_flat p make [] some = some
any_flat {A} {B} p make (x ∷ xs) some =
    by_test (list_any p (make x))
    (λ here. front (make x) here)
    (λ here. back (make x) (any_flat p make xs (rw here at some)))
  where
    front : (ys : List B) → list_any p ys ≡ true → list_any p (ys ++ flat_map make xs) ≡ true
    front [] h = never h refl
    front (y ∷ ys) h = by_test (p y) (λ own. rw own refl) (λ own. rw own (front ys (rw own at h)))

    back : (ys : List B) → list_any p (flat_map make xs) ≡ true → list_any p (ys ++ flat_map make xs) ≡ true
    back [] h = h
    back (y ∷ ys) h = or_right (p y) (list_any p (ys ++ flat_map make xs)) (back ys h)

any_mapped : {A B : Type 0} (p : B → Bool) (make : A → B) (xs : List A) → list_any (λ x. p (make x)) xs ≡ true → list_any p (map make xs) ≡ true
any_mapped p make [] some = some
any_mapped p make (x ∷ xs) some = by_test (p (make x)) (λ here. rw here refl) (λ here. rw here (any_mapped p make xs (rw here at some)))

-- of equal keys one stays
any_in_key_order : {A : Type 0} (order : A → A → Ordering) (p : A → Bool) → ((a b : A) → order a b ≡ Equal → p a ≡ true → p b ≡ true) → (xs : List A) → list_any p xs ≡ true → list_any p (in_key_order order xs) ≡ true
any_in_key_order order p alike [] some = some
any_in_key_order {A} order p alike (x ∷ xs) some =
    by_test (p x) (λ here. own (in_key_order order xs) here) (λ here. other (in_key_order order xs) (any_in_key_order order p alike xs (rw here at some)))
  where
    own : (ks : List A) → p x ≡ true → list_any p (with_key order x ks) ≡ true
    own [] here = or_left (p x) false here
    own (k ∷ ks) here =
        elim (order x k) as (λ o. order x k ≡ o → list_any p (by_order o (x ∷ k ∷ ks) (k ∷ ks) (k ∷ with_key order x ks)) ≡ true) [
          | Less ↦ λ is. or_left (p x) (list_any p (k ∷ ks)) here
          | Equal ↦ λ is. or_left (p k) (list_any p ks) (alike x k is here)
          | Greater ↦ λ is. or_right (p k) (list_any p (with_key order x ks)) (own ks here)
        ] refl

    other : (ks : List A) → list_any p ks ≡ true → list_any p (with_key order x ks) ≡ true
    other [] some_ = never some_ refl
    other (k ∷ ks) some_ =
        elim (order x k) as (λ o. list_any p (by_order o (x ∷ k ∷ ks) (k ∷ ks) (k ∷ with_key order x ks)) ≡ true) [
          | Less ↦ or_right (p x) (list_any p (k ∷ ks)) some_
          | Equal ↦ some_
          | Greater ↦ by_test (p k) (λ here. or_left (p k) (list_any p (with_key order x ks)) here) (λ here. or_right (p k) (list_any p (with_key order x ks)) (other ks (let rest : list_any p ks ≡ true = rw here at some_ in rest)))
        ]

module _ {K : Type 0} (cmp : K → K → Ordering) (matching : K → K → Bool) where
  -- what is held at faces that lead down was sent to the face
  abbrev AsksAll : List (Face K) → Face K → Type 0
  AsksAll fs f = Each (λ k. is_north k.region ≡ false → Each (λ row. (is_current row.1.mode && has_tokens row.1.options) ≡ true → asks_row cmp matching row.1 f ≡ true) k.held) fs

  -- a face comes behind the others
  pushed : (g h : Rows K) (f : Face K) → h.faces ≡ g.faces ++ f ∷ [] → h.mode ≡ g.mode → h.routed ≡ g.routed → h.zid ≡ g.zid → h.dictionary ≡ g.dictionary → 1 ≤ f.number → Each (λ k. k.number < f.number) g.faces → IsTreeFace g.mode f → f.held ≡ [] → LocalsAreDrawn f → RiseFrom (λ row. row.0) 0 f.locals
      → (is_north f.region ≡ true → (list_any (λ k. is_north k.region) g.faces ≡ false) × AsksAll g.faces f) → Inside cmp matching g → Inside cmp matching h
  pushed g h f faces_ mode_ routed_ zid_ dictionary_ real below face held drawn rises north inside =
      let tree = inside.tree in
      record {
        tree = record {
          faces = subst (λ (fs : List (Face K)). Each (IsTreeFace h.mode) fs) (sym faces_) (subst (λ m. Each (IsTreeFace m) (g.faces ++ f ∷ [])) (sym mode_) (each_append (IsTreeFace g.mode) g.faces (f ∷ []) tree.faces (face, tt)));
          one_north = subst (λ (fs : List (Face K)). length (filter (λ f. is_north f.region) fs) ≤ 1) (sym faces_) (north_more g.faces f tree.one_north (λ up. (north up).0));
          own_rows = subst (λ z. Each (λ row. zid_eq row.source z ≡ true) h.routed) (sym zid_) (subst (λ (rows : List (RoutedRow K)). Each (λ row. zid_eq row.source g.zid ≡ true) rows) (sym routed_) tree.own_rows);
          dictionary = subst (λ (es : List K). length es ≤ GREATEST_DICTIONARY) (sym dictionary_) tree.dictionary;
          drawn = subst (Each LocalsAreDrawn) (sym faces_) (each_append LocalsAreDrawn g.faces (f ∷ []) tree.drawn (drawn, tt));
          asks_above =
              subst (λ (fs : List (Face K)). Each (λ k. is_north k.region ≡ false → Each (λ row. (is_current row.1.mode && has_tokens row.1.options) ≡ true → Each (λ n. is_north n.region ≡ true → asks_row cmp matching row.1 n ≡ true) fs) k.held) fs) (sym faces_)
              (each_append (λ k. is_north k.region ≡ false → Each (λ row. (is_current row.1.mode && has_tokens row.1.options) ≡ true → Each (λ n. is_north n.region ≡ true → asks_row cmp matching row.1 n ≡ true) (g.faces ++ f ∷ [])) k.held) g.faces (f ∷ []) (old (is_north f.region) refl)
              ((λ down. subst (λ (rows : ById (InterestRow K)). Each (λ row. (is_current row.1.mode && has_tokens row.1.options) ≡ true → Each (λ n. is_north n.region ≡ true → asks_row cmp matching row.1 n ≡ true) (g.faces ++ f ∷ [])) rows) (sym held) tt), tt));
        };
        rises = subst (RiseFrom (λ (k : Face K). k.number) 1) (sym faces_) (rise_push (λ k. k.number) 1 g.faces f real below inside.rises);
        locals = subst (Each (λ k. RiseFrom (λ row. row.0) 0 k.locals)) (sym faces_) (each_append (λ (k : Face K). RiseFrom (λ row. row.0) 0 k.locals) g.faces (f ∷ []) inside.locals (rises, tt));
      }
    where
      old : (b : Bool) → is_north f.region ≡ b → Each (λ k. is_north k.region ≡ false → Each (λ row. (is_current row.1.mode && has_tokens row.1.options) ≡ true → Each (λ n. is_north n.region ≡ true → asks_row cmp matching row.1 n ≡ true) (g.faces ++ f ∷ [])) k.held) g.faces
      old false side =
          each_weaker (λ k. is_north k.region ≡ false → Each (λ row. (is_current row.1.mode && has_tokens row.1.options) ≡ true → AsksAbove cmp matching g row.1) k.held)
          (λ k. is_north k.region ≡ false → Each (λ row. (is_current row.1.mode && has_tokens row.1.options) ≡ true → Each (λ n. is_north n.region ≡ true → asks_row cmp matching row.1 n ≡ true) (g.faces ++ f ∷ [])) k.held)
          (λ k one down.
          each_weaker (λ row. (is_current row.1.mode && has_tokens row.1.options) ≡ true → AsksAbove cmp matching g row.1) (λ row. (is_current row.1.mode && has_tokens row.1.options) ≡ true → Each (λ n. is_north n.region ≡ true → asks_row cmp matching row.1 n ≡ true) (g.faces ++ f ∷ []))
          (λ row above for_now. each_append (λ n. is_north n.region ≡ true → asks_row cmp matching row.1 n ≡ true) g.faces (f ∷ []) (above for_now) ((λ up. never up side), tt)) k.held (one down))
          g.faces inside.tree.asks_above
      old true side =
          each_both (λ k. is_north k.region ≡ false → Each (λ row. (is_current row.1.mode && has_tokens row.1.options) ≡ true → AsksAbove cmp matching g row.1) k.held)
          (λ k. is_north k.region ≡ false → Each (λ row. (is_current row.1.mode && has_tokens row.1.options) ≡ true → asks_row cmp matching row.1 f ≡ true) k.held)
          (λ k. is_north k.region ≡ false → Each (λ row. (is_current row.1.mode && has_tokens row.1.options) ≡ true → Each (λ n. is_north n.region ≡ true → asks_row cmp matching row.1 n ≡ true) (g.faces ++ f ∷ [])) k.held)
          (λ k one two down.
          each_both (λ row. (is_current row.1.mode && has_tokens row.1.options) ≡ true → AsksAbove cmp matching g row.1) (λ row. (is_current row.1.mode && has_tokens row.1.options) ≡ true → asks_row cmp matching row.1 f ≡ true) (λ row. (is_current row.1.mode && has_tokens row.1.options) ≡ true → Each (λ n. is_north n.region ≡ true → asks_row cmp matching row.1 n ≡ true) (g.faces ++ f ∷ []))
          (λ row above own for_now. each_append (λ n. is_north n.region ≡ true → asks_row cmp matching row.1 n ≡ true) g.faces (f ∷ []) (above for_now) ((λ up. own for_now), tt)) k.held (one down) (two down))
          g.faces inside.tree.asks_above (north side).1

  -- ---- faces that lead down

  pub session_inside : (first : ℕ) (g : Rows K) → Each (λ f. f.number ≤ g.made) g.faces → Inside cmp matching g → Inside cmp matching (opened_session first g)
  session_inside first g made inside =
      pushed g (opened_session first g) _ refl refl refl refl refl (omega arith) (each_weaker (λ f. f.number ≤ g.made) (λ f. f.number < g.made + 1) (λ f le. omega arith) g.faces made)
      (record { up = λ up. never up refl; down = λ down. record { shares = refl; mode = refl; held = tt } }) refl tt tt (λ up. never up refl) inside

  said_to : (P : Message K → Type 0) (n : ℕ) (rule : Face K → List (Message K)) (g : Rows K) (f : Face K) → find_face n g ≡ Some f → Each P (rule f) → Each (λ s. P s.1) (to_face n rule g)
  unfolding to_face
  said_to P n rule g f found all = cases (find_face n g) found
    where
      cases : (o : Option (Face K)) → o ≡ Some f → Each (λ (s : ℕ × Message K). P s.1) (elim o [ None ↦ [] | Some h ↦ map (λ m. (n, m)) (rule h) ])
      cases None is = cc
      cases (Some h) is = let same_ : f ≡ h = cc in each_map (λ (s : ℕ × Message K). P s.1) (λ m. (n, m)) (rule h) (subst (λ k. Each P (rule k)) same_ all)

  leaving_tokens : (next : ℕ) (es : List K) → Each LeavesLocals (tokens_from next es)
  unfolding tokens_from
  leaving_tokens next [] = tt
  leaving_tokens next (e ∷ es) = (tt, leaving_tokens (next + 1) es)

  leaving_opening_final : (f : Face K) → Each LeavesLocals (opening_final cmp matching f)
  leaving_opening_final f = cases f.initial
    where
      cases : (o : Option Bool) → (let ms : List (Message K) = elim o [ None ↦ [] | Some finalised ↦ message.DeclareFinal 0 ∷ [] ] in Each LeavesLocals ms)
      cases None = tt
      cases (Some finalised) = (tt, tt)

  -- tokens and the final that a new face is sent
  then_tokens : (k : ℕ) (g : Rows K) → Inside cmp matching g → (let tokens = λ (h : Rows K). to_face k (λ f. tokens_from f.next (opening_tokens cmp matching h f)) h in let h = rows_heard cmp (tokens g) g in Inside cmp matching (rows_heard cmp (to_face k (opening_final cmp matching) h) h))
  then_tokens k g inside =
      let one = one_leaving cmp matching k (λ h f. tokens_from f.next (opening_tokens cmp matching h f)) (λ h f. leaving_tokens f.next (opening_tokens cmp matching h f)) g inside in
      one_leaving cmp matching k (λ h. opening_final cmp matching) (λ h. leaving_opening_final) _ one

  pub south_inside : (zid : Zid) (id : ℕ) (bound : Bound) (first : ℕ) (g : Rows K) → Each (λ f. f.number ≤ g.made) g.faces → Inside cmp matching g → Inside cmp matching (ran cmp (opening cmp matching zid Client (South id Client) bound first g) g)
  unfolding ran interests_from
  south_inside zid id bound first g made inside =
      let f = face_opened zid Client (South id Client) bound first g in
      let one = opened zid Client (South id Client) bound first g in
      let k = g.made + 1 in
      let below = each_weaker (λ (h : Face K). h.number ≤ g.made) (λ h. h.number < g.made + 1) (λ h le. omega arith) g.faces made in
      let there : find_face k one ≡ Some f = find_last k g.faces f below refl in
      let inside1 = pushed g one f refl refl refl refl refl (omega arith) below (record { up = λ up. never up refl; down = λ down. record { shares = refl; mode = refl; held = tt } }) refl tt tt (λ up. never up refl) inside in
      let interests = to_face k (λ h. interests_from h.next (opening_interests cmp matching one h)) one in
      then_tokens k (rows_heard cmp interests one) (hears_leaving cmp matching interests one (said_to LeavesLocals k (λ h. interests_from h.next (opening_interests cmp matching one h)) one f there tt) inside1)

  -- ---- the face to the north

  module _ (total : IsTotalOrder cmp) (equal_is_same : (a b : K) → cmp a b ≡ Equal → a ≡ b) where
    abbrev IsForBoth : InterestRow K → Type 0
    IsForBoth i = (is_current i.mode ≡ true) × (is_future i.mode ≡ true)

    goes_all_sent : (g : Rows K) (now next : ℕ) (is : List (InterestRow K)) (f : Face K) → next ≡ f.next → LocalsAreDrawn f → GoesOn cmp matching (Any cmp matching) g f (heard_all cmp now (interests_from next is) f)
    unfolding heard_all interests_from
    goes_all_sent g now next [] f next_ drawn = goes_itself cmp matching (Any cmp matching) g f
    goes_all_sent g now next (i ∷ is) f next_ drawn =
        let h = sent_up cmp matching now i f in
        let one = goes_sent cmp matching g now i f drawn in
        let more : next + 1 ≡ max f.next (f.next + 1) = omega arith in
        let rest = goes_all_sent g now (next + 1) is h more (one.drawn drawn) in
        subst (λ n. GoesOn cmp matching (Any cmp matching) g f (heard_all cmp now (interests_from (next + 1) is) (heard cmp now (message.Interest n i.mode i.options i.expr) f))) (sym next_) (goes_trans cmp matching (Any cmp matching) g f h _ one rest)

    all_asked : (g : Rows K) (now next : ℕ) (is : List (InterestRow K)) (j : InterestRow K) (f : Face K) → next ≡ f.next → LocalsAreDrawn f → Each IsForBoth is → list_any (asks_same cmp matching j) is ≡ true → asks_row cmp matching j (heard_all cmp now (interests_from next is) f) ≡ true
    unfolding heard_all interests_from
    all_asked g now next [] j f next_ drawn both some = never some refl
    all_asked g now next (i ∷ is) j f next_ drawn both some =
        let h = sent_up cmp matching now i f in
        let one = goes_sent cmp matching g now i f drawn in
        let more : next + 1 ≡ max f.next (f.next + 1) = omega arith in
        subst (λ n. asks_row cmp matching j (heard_all cmp now (interests_from (next + 1) is) (heard cmp now (message.Interest n i.mode i.options i.expr) f)) ≡ true) (sym next_)
        (by_test (asks_same cmp matching j i)
        (λ here. (goes_all_sent g now (next + 1) is h more (one.drawn drawn)).asks j tt (sent_asks cmp matching total equal_is_same now j i f here both.0.0 both.0.1))
        (λ here. all_asked g now (next + 1) is j h more (one.drawn drawn) both.1 (rw here at some)))

    abbrev gathered : Face K → List (InterestRow K)
    gathered f = if is_north f.region then [] else map (λ row. record row.1 { mode = CurrentFuture }) f.held

    held_for_both : (g : Rows K) → Each IsForBoth (held_south cmp matching g)
    unfolding held_south
    held_for_both g =
        each_in_order (interest_order cmp matching) IsForBoth (flat_map gathered g.faces)
        (each_flat_map IsForBoth gathered g.faces (λ f. of_cond (Each IsForBoth) (is_north f.region) [] (map (λ row. record row.1 { mode = CurrentFuture }) f.held) (λ _. tt) (λ _. each_map IsForBoth (λ (row : ℕ × InterestRow K). record row.1 { mode = CurrentFuture }) f.held (each_always (λ row. IsForBoth (record row.1 { mode = CurrentFuture })) (λ row. (refl, refl)) f.held))))

    held_is_among : (g : Rows K) → Each (λ f. is_north f.region ≡ false → Each (λ row. list_any (asks_same cmp matching row.1) (held_south cmp matching g) ≡ true) f.held) g.faces
    unfolding held_south
    held_is_among g =
        each_weaker (λ f. (p : Face K → Bool) → p f ≡ true → list_any p g.faces ≡ true) (λ f. is_north f.region ≡ false → Each (λ row. list_any (asks_same cmp matching row.1) (in_key_order (interest_order cmp matching) (flat_map gathered g.faces)) ≡ true) f.held)
        (λ f among down.
        each_weaker (λ row. (p : ℕ × InterestRow K → Bool) → p row ≡ true → list_any p f.held ≡ true) (λ row. list_any (asks_same cmp matching row.1) (in_key_order (interest_order cmp matching) (flat_map gathered g.faces)) ≡ true)
        (λ row here.
        any_in_key_order (interest_order cmp matching) (asks_same cmp matching row.1)
        (λ a b is own. sym (same_from_all cmp matching total equal_is_same a b row.1 (ap is_eq is)) ∙ own)
        (flat_map gathered g.faces)
        (any_flat (asks_same cmp matching row.1) gathered g.faces
        (among (λ x. list_any (asks_same cmp matching row.1) (gathered x))
        (rw down (any_mapped (asks_same cmp matching row.1) (λ (r : ℕ × InterestRow K). record r.1 { mode = CurrentFuture }) f.held (here (λ r. asks_same cmp matching row.1 (record r.1 { mode = CurrentFuture })) (asks_itself cmp matching total equal_is_same row.1)))))))
        f.held (members f.held))
        g.faces (members g.faces)

    pub north_inside : (zid : Zid) (whatami : WhatAmI) (first : ℕ) (g : Rows K) → g.mode ≡ Client → list_any (λ f. is_north f.region) g.faces ≡ false → Each (λ f. f.number ≤ g.made) g.faces → Inside cmp matching g → Inside cmp matching (ran cmp (opening cmp matching zid whatami North SouthBound first g) g)
    unfolding ran with_face
    north_inside zid whatami first g client none_ made inside =
        let f = face_opened zid whatami North SouthBound first g in
        let one = opened zid whatami North SouthBound first g in
        let k = g.made + 1 in
        let below = each_weaker (λ (h : Face K). h.number ≤ g.made) (λ h. h.number < g.made + 1) (λ h le. omega arith) g.faces made in
        let rule = λ (h : Face K). interests_from h.next (opening_interests cmp matching one h) in
        let h = heard_all cmp one.moment (rule f) f in
        let rises1 : RiseFrom (λ (x : Face K). x.number) 1 one.faces = rise_push (λ x. x.number) 1 g.faces f (omega arith) below inside.rises in
        let greeted : opening_interests cmp matching one f ≡ held_south cmp matching one = ap (λ m. (if (north_hat m).leads_up SouthBound then held_south cmp matching one else [])) client in
        let goes = goes_all_sent g one.moment f.next (opening_interests cmp matching one f) f refl tt in
        let asks : AsksAll g.faces h = each_weaker (λ x. is_north x.region ≡ false → Each (λ row. list_any (asks_same cmp matching row.1) (held_south cmp matching one) ≡ true) x.held) (λ x. is_north x.region ≡ false → Each (λ row. (is_current row.1.mode && has_tokens row.1.options) ≡ true → asks_row cmp matching row.1 h ≡ true) x.held)
        (λ x among down.
        each_weaker (λ row. list_any (asks_same cmp matching row.1) (held_south cmp matching one) ≡ true) (λ row. (is_current row.1.mode && has_tokens row.1.options) ≡ true → asks_row cmp matching row.1 h ≡ true)
        (λ row some _. all_asked g one.moment f.next (opening_interests cmp matching one f) row.1 f refl tt (subst (Each IsForBoth) (sym greeted) (held_for_both one)) (ap (list_any (asks_same cmp matching row.1)) greeted ∙ some))
        x.held (among down))
        g.faces (each_front (λ x. is_north x.region ≡ false → Each (λ row. list_any (asks_same cmp matching row.1) (held_south cmp matching one) ≡ true) x.held) g.faces (f ∷ []) (held_is_among one)) in
        let face : IsTreeFace g.mode f = record { up = λ up. record { own = client; bound = refl; held = refl; asks = refl }; down = λ down. never refl down } in
        let two = record one { faces = g.faces ++ h ∷ [] } in
        let inside2 : Inside cmp matching two =
        pushed g two h refl refl refl refl refl (subst (λ n. 1 ≤ n) (sym goes.number) (omega arith)) (subst (λ n. Each (λ x. x.number < n) g.faces) (sym goes.number) below) (goes.face face) (heard_all-held cmp one.moment (rule f) f) (goes.drawn tt) (goes.rises tt) (λ _. (none_, asks)) inside in
        let is : rows_heard cmp (to_face k rule one) one ≡ two = rows_heard-to_face cmp 1 k rule one rises1 ∙ last_changed k (λ x. heard_all cmp one.moment (rule x) x) one g.faces f refl below refl in
        subst (λ (r : Rows K). (let tokens = λ (h : Rows K). to_face k (λ f. tokens_from f.next (opening_tokens cmp matching h f)) h in let h = rows_heard cmp (tokens r) r in Inside cmp matching (rows_heard cmp (to_face k (opening_final cmp matching) h) h))) (sym is) (then_tokens k two inside2)
      where
        last_changed : (k : ℕ) (change : Face K → Face K) (r : Rows K) (fs : List (Face K)) (f : Face K) → r.faces ≡ fs ++ f ∷ [] → Each (λ x. x.number < k) fs → f.number ≡ k → with_face k change r ≡ record r { faces = fs ++ change f ∷ [] }
        last_changed k change r fs f faces_ below is = ap (λ (xs : List (Face K)). record r { faces = xs }) (ap (map (λ x. if k == x.number then change x else x)) faces_ ∙ go fs below)
          where
            go : (xs : List (Face K)) → Each (λ x. x.number < k) xs → map (λ x. if k == x.number then change x else x) (xs ++ f ∷ []) ≡ xs ++ change f ∷ []
            go [] all = rw (eq-eqb k f.number (sym is)) refl
            go (x ∷ xs) all = let less : x.number < k = all.0 in rw (ne_eqb k x.number (λ e. omega arith)) (ap (λ ys. x ∷ ys) (go xs all.1))

    -- ---- calls

    pub tree_after_session : (first : ℕ) (g : Rows K) → RowsAreInOrder cmp matching g → IsTreeGateway cmp matching g → IsTreeGateway cmp matching (rows_after_call cmp matching (NewSession first) g)
    unfolding parts_of ran
    tree_after_session first g ordered tree = subst (IsTreeGateway cmp matching) (sym (call_runs cmp matching (NewSession first) g)) (session_inside first g ordered.lists.faces_made (inside_of cmp matching total equal_is_same g tree ordered)).tree

    pub tree_after_south : (zid : Zid) (id : ℕ) (bound : Bound) (first : ℕ) (g : Rows K) → RowsAreInOrder cmp matching g → IsTreeGateway cmp matching g → IsTreeGateway cmp matching (rows_after_call cmp matching (NewTransport zid Client (South id Client) bound first) g)
    unfolding parts_of
    tree_after_south zid id bound first g ordered tree = subst (IsTreeGateway cmp matching) (sym (call_runs cmp matching (NewTransport zid Client (South id Client) bound first) g)) (south_inside zid id bound first g ordered.lists.faces_made (inside_of cmp matching total equal_is_same g tree ordered)).tree

    pub tree_after_north : (zid : Zid) (whatami : WhatAmI) (first : ℕ) (g : Rows K) → g.mode ≡ Client → list_any (λ f. is_north f.region) g.faces ≡ false → RowsAreInOrder cmp matching g → IsTreeGateway cmp matching g → IsTreeGateway cmp matching (rows_after_call cmp matching (NewTransport zid whatami North SouthBound first) g)
    unfolding parts_of
    tree_after_north zid whatami first g client none_ ordered tree = subst (IsTreeGateway cmp matching) (sym (call_runs cmp matching (NewTransport zid whatami North SouthBound first) g)) (north_inside zid whatami first g client none_ ordered.lists.faces_made (inside_of cmp matching total equal_is_same g tree ordered)).tree
