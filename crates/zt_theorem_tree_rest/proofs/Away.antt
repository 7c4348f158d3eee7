-- At a gateway of a tree, messages go on away from where they came.
use Rattle.std.proofs.Common.{◌≡◌, ℕ, ◌+◌, ◌≤◌, Bool, true, false, not, if◌then◌else◌, ◌&&◌, ◌==◌, List, [], ◌∷◌, length, map, filter, Option, Some, None, option_map, refl, sym, ap, ◌∙◌, subst, arith, eqb-true}
use Rattle.std.proofs.lemmas.Bool.{or_left, or_right}
use Rattle.std.specs.Cmp.{IsTotalOrder}
use Rattle.std.specs.List.{flat_map, list_any}
use Rattle.std.specs.declared.cmp.Ordering.{Ordering}
use Rattle.std.specs.declared.cmp.Ordering.TheVariants.{Equal}
use Rattle.zt_region.specs.Region.{is_north, zid_eq}
use Rattle.zt_protocol.specs.Plain.{PlainCall, NewSession, NewTransport, DeclareToken, UndeclareToken, Interest, InterestFinal, DeclareFinal, CloseFace, Expire, SetTrees, SetEntities}
use Rattle.zt_protocol.specs.declared.messages.Message.{Message}
use Rattle.zt_protocol.specs.declared.messages.Message.TheVariants as message
use Rattle.zt_model.specs.Lists.{first_where, is_among, is_some_and, same}
use Rattle.zt_model.specs.Parts.{Sends, find_face, is_routed, with_face}
use Rattle.zt_model.specs.Rows.{Ask, ById, Face, RoutedRow, Rows}
use Rattle.zt_model.specs.Says.{parts_of, said}
use Rattle.zt_model.specs.Telling.{forget_to, undeclared, unregistered}
use Rattle.zt_model.specs.Transcript.{Each}
use Rattle.zt_model.specs.Visible.{is_visible}
use Rattle.zt_laws.specs.Keeping.{KeepsRight}
use Rattle.zt_laws.specs.Order.{HasRowsInOrder}
use Rattle.zt_laws.specs.Sound.{RiseFrom}
use Rattle.zt_laws.proofs.Hearing.{find_each, find_passes}
use Rattle.zt_laws.proofs.Keys.{same_itself}
use Rattle.zt_laws.proofs.Lists.{by_test, each_both, each_map, each_weaker, never, of_cond}
use Rattle.zt_laws.proofs.PartsOrder.{each_of_map}
use Rattle.zt_theorem_soundness.specs.Sound.{IsSound}
use Rattle.zt_theorem_tree_invariant.specs.Facts.{IsTreeFace, IsTreeGateway}
use Rattle.zt_theorem_tree_invariant.proofs.Knowledge.{is_no_router}
use Rattle.zt_theorem_tree_only_what_lived.specs.Tokens.{IsIn}
use Rattle.zt_theorem_tree_rest.specs.Ways.{ComesFromAbove, ComesFromBelow, ends_interest, going_up, is_for_above}
use Rattle.zt_theorem_tree_rest.proofs.Answering.{each_part}
use Rattle.zt_theorem_tree_rest.proofs.AtGateway.{times_few}
use Rattle.zt_theorem_tree_rest.proofs.Calls.{NoRouters}
use Rattle.zt_theorem_tree_rest.proofs.Directions.{risen_declare, risen_undeclare, still_seen, wants_nothing}
use Rattle.zt_theorem_tree_rest.proofs.Frames.{Framed, Outline, RunsWithin, outline, outlines_rise}
use Rattle.zt_theorem_tree_rest.proofs.Interests.{entities_price, interest_runs}
use Rattle.zt_theorem_tree_rest.proofs.Prices.{left, message_price, owed}
use Rattle.zt_theorem_tree_rest.proofs.Sends.{cost, owed_by}
use Rattle.zt_theorem_tree_rest.proofs.Sums.{times, total, total_none}
use Rattle.zt_theorem_tree_rest.proofs.Tokens.{forgets_nothing}
use Rattle.zt_theorem_tree_rest.proofs.Ways.{AskNothing, NoneUp, declare_down, each_own, finish_down, leads_up_at, undeclare_down}

module _ {K : Type 0} (cmp : K → K → Ordering) (matching : K → K → Bool) (total_order : IsTotalOrder cmp) (equal_is_same : (a b : K) → cmp a b ≡ Equal → a ≡ b) (g : Rows K) (sound : IsSound cmp matching g) (tree : IsTreeGateway cmp matching g) where
  abbrev os : List (Outline K)
  os = map outline g.faces

  framed : Framed g.mode os g
  framed = record { mode_is = refl; faces_are = refl }

  rises : RiseFrom (λ (o : Outline K). o.number) 1 os
  rises = outlines_rise 1 g.faces sound.ordered.lists.faces_rise

  plain : NoRouters g.mode os
  plain = each_map _ outline g.faces (each_weaker (IsTreeFace g.mode) _ (λ f own. is_no_router g f own) g.faces tree.faces)

  outside : (n : ℕ) (f : Face K) → find_face n g ≡ Some f → is_routed g f ≡ false
  outside n f found = is_no_router g f (find_each (IsTreeFace g.mode) (λ (h : Face K). n == h.number) g.faces f tree.faces found)

  ask_nothing : AskNothing cmp matching g.mode os rises plain g
  ask_nothing = each_weaker (IsTreeFace g.mode) (λ f. is_north f.region ≡ true → f.asks ≡ []) (λ f own up. (own.up up).asks) g.faces tree.faces

  for_above_is : (k : ℕ) → is_some_and (find_face k g) (λ f. is_north f.region) ≡ leads_up_at os k
  for_above_is k = by_face (find_face k g) ∙ ap (λ (o : Option (Outline K)). is_some_and o (λ p. is_north p.region)) (outlines_found k g.faces)
    where
      by_face : (o : Option (Face K)) → is_some_and o (λ f. is_north f.region) ≡ is_some_and (option_map outline o) (λ p. is_north p.region)
      by_face None = refl
      by_face (Some f) = refl

      outlines_found : (n : ℕ) (fs : List (Face K)) → option_map outline (first_where (λ (f : Face K). n == f.number) fs) ≡ first_where (λ (o : Outline K). n == o.number) (map outline fs)
      outlines_found n [] = refl
      outlines_found n (f ∷ fs) = by_test (n == f.number) (λ here. rw here refl) (λ here. rw here (outlines_found n fs))

  none_for_above : (ms : Sends K) → NoneUp cmp matching g.mode os rises plain ms → Each (λ m. is_for_above g m ≡ false) ms
  none_for_above ms none_ = each_weaker (λ (m : ℕ × Message K). leads_up_at os m.0 ≡ false) (λ m. is_for_above g m ≡ false) (λ m own. for_above_is m.0 ∙ own) ms none_

  -- ---- what comes from above

  forgets : (n id : ℕ) (given : Option K) (f : Face K) (e : K) → find_face n g ≡ Some f → is_north f.region ≡ true → undeclared cmp matching id given f ≡ Some e → Each (λ (h : Face K). is_north h.region ≡ true → forget_to cmp matching (with_face n (unregistered id) g) f.region e h ≡ []) (with_face n (unregistered id) g).faces
  unfolding with_face
  forgets n id given f e found north about =
      let g1 = with_face n (unregistered id) g in
      let live_rises = (find_each HasRowsInOrder (λ (h : Face K). n == h.number) g.faces f sound.ordered.lists.rows found).live in
      let Sees = λ (h : Face K). (is_north h.region ≡ true → h.held ≡ []) × KeepsRight cmp matching g h in
      let sees : Each Sees g.faces = each_both (IsTreeFace g.mode) (λ (h : Face K). is_routed g h ≡ false → KeepsRight cmp matching g h) Sees (λ h own kept. ((λ up. (own.up up).held), kept (is_no_router g h own))) g.faces tree.faces sound.keeps in
      let nothing = λ (h k : Face K) (see : Sees h) (region_ : k.region ≡ h.region) (held_ : k.held ≡ h.held) (told_ : k.told ≡ h.told) (up : is_north k.region ≡ true).
      (let up_h : is_north h.region ≡ true = sym (ap is_north region_) ∙ up in
      forgets_nothing cmp matching [] (λ n. 0) 0 g.mode os rises plain g1 f.region e k
      (wants_nothing cmp matching [] (λ n. 0) 0 g.mode os rises plain total_order equal_is_same k e (held_ ∙ see.0 up_h))
      (λ kept.
      still_seen cmp matching [] (λ n. 0) 0 g.mode os rises plain total_order equal_is_same n id given f g k.region e framed live_rises found north up about
      (subst (λ r. is_visible cmp g r e ≡ true) (sym region_) (see.1.kept_is_visible e (subst (λ (rows : ById K). list_any (λ row. same cmp e row.1) rows ≡ true) told_ kept))))) in
      each_map (λ (h : Face K). is_north h.region ≡ true → forget_to cmp matching g1 f.region e h ≡ []) (λ h. if n == h.number then unregistered id h else h) g.faces
      (each_weaker Sees (λ h. is_north (if n == h.number then unregistered id h else h).region ≡ true → forget_to cmp matching g1 f.region e (if n == h.number then unregistered id h else h) ≡ [])
      (λ h see. of_cond (λ (k : Face K). is_north k.region ≡ true → forget_to cmp matching g1 f.region e k ≡ []) (n == h.number) (unregistered id h) h (λ _. nothing h (unregistered id h) see refl refl refl) (λ _. nothing h h see refl refl refl)) g.faces sees)

  pub from_above : (n : ℕ) (f : Face K) (c : PlainCall K) → find_face n g ≡ Some f → is_north f.region ≡ true → ComesFromAbove n c → Each (λ m. is_for_above g m ≡ false) (said cmp matching c g)
  from_above n f (DeclareToken k id e node interest) found north is =
      let found_ : find_face k g ≡ Some f = ap (λ j. find_face j g) is ∙ found in
      none_for_above _ (declare_down cmp matching g.mode os rises plain k id node e interest f g framed found_ (outside k f found_) north ask_nothing)
  from_above n f (UndeclareToken k id given node) found north is =
      let found_ : find_face k g ≡ Some f = ap (λ j. find_face j g) is ∙ found in
      none_for_above _ (undeclare_down cmp matching g.mode os rises plain k id node given f g framed found_ (outside k f found_) (λ e about. forgets k id given f e found_ north about))
  from_above n f (DeclareFinal k id) found north is =
      let found_ : find_face k g ≡ Some f = ap (λ j. find_face j g) is ∙ found in
      none_for_above _ (finish_down cmp matching g.mode os rises plain k id f g framed found_ ask_nothing)
  from_above n f (NewSession first) found north is = absurd is
  from_above n f (NewTransport zid whatami region bound first) found north is = absurd is
  from_above n f (Interest k id mode options e) found north is = absurd is
  from_above n f (InterestFinal k id) found north is = absurd is
  from_above n f (CloseFace k) found north is = absurd is
  from_above n f (Expire now) found north is = absurd is
  from_above n f (SetTrees region t) found north is = absurd is
  from_above n f (SetEntities k subscribers queryables) found north is = absurd is

  -- ---- what comes from below

  -- only what goes up and ends no interest is counted
  abbrev up_price : ℕ → ℕ
  up_price k = if leads_up_at os k then 1 else 0

  module _ (tokens : List K) where
    counted : (ms : Sends K) → going_up g ms ≤ cost cmp tokens up_price 0 ms
    counted [] = omega arith
    counted (m ∷ ms) =
        let rest = counted ms in
        let is = for_above_is m.0 in
        of_cond (λ (xs : Sends K). length xs ≤ cost cmp tokens up_price 0 (m ∷ ms)) (is_for_above g m && not (ends_interest m)) (m ∷ filter (λ m. is_for_above g m && not (ends_interest m)) ms) (filter (λ m. is_for_above g m && not (ends_interest m)) ms)
        (λ here. let one = by_message m.0 m.1 (is_for_above g m) is here in omega arith)
        (λ _. omega arith)
      where
        by_message : (k : ℕ) (x : Message K) (b : Bool) → b ≡ leads_up_at os k → (b && not (ends_interest (k, x))) ≡ true → 1 ≤ message_price cmp tokens up_price 0 k x
        by_message k x true is here = by_kind x (sym is) here
          where
            by_kind : (x : Message K) → leads_up_at os k ≡ true → not (ends_interest (k, x)) ≡ true → 1 ≤ message_price cmp tokens up_price 0 k x
            by_kind (message.InterestFinal id) up mild = cc
            by_kind (message.DeclareToken id e interest node) up mild = rw up (omega arith)
            by_kind (message.UndeclareToken id e node) up mild = rw up (omega arith)
            by_kind (message.DeclareFinal id) up mild = rw up (omega arith)
            by_kind (message.Interest id mode options e) up mild = rw up (omega arith)
            by_kind (message.DeclareSubscriber id e interest) up mild = rw up (omega arith)
            by_kind (message.DeclareQueryable id e info interest) up mild = rw up (omega arith)
        by_message k x false is here = cc

    -- nothing is owed
    owed_nothing : owed_by cmp tokens up_price 0 g.faces ≡ 0
    owed_nothing = go g.faces (each_of_map (λ (o : Outline K). leads_up_at os o.number ≡ is_north o.region) outline g.faces (each_own 1 os rises)) ask_nothing
      where
        asks_nothing : (n : ℕ) (asks : ById (Ask K)) → leads_up_at os n ≡ false → total (λ row. left cmp tokens up_price 0 n row.1) asks ≡ 0
        asks_nothing n [] down = refl
        asks_nothing n (row ∷ asks) down =
            let rest = asks_nothing n asks down in
            let none_ = total_none (filter (λ e. not (is_among cmp e row.1.answered)) tokens) in
            let own : left cmp tokens up_price 0 n row.1 ≡ 0 = rw down (omega arith) in
            omega arith

        one : (f : Face K) → leads_up_at os f.number ≡ is_north f.region → (is_north f.region ≡ true → f.asks ≡ []) → owed cmp tokens up_price 0 f ≡ 0
        one f own quiet =
            let locals_ = total_none f.locals in
            by_test (is_north f.region)
            (λ north. let none_ : total (λ (row : ℕ × Ask K). left cmp tokens up_price 0 f.number row.1) f.asks ≡ 0 = ap (total (λ (row : ℕ × Ask K). left cmp tokens up_price 0 f.number row.1)) (quiet north) in omega arith)
            (λ south. let none_ = asks_nothing f.number f.asks (own ∙ south) in omega arith)

        go : (fs : List (Face K)) → Each (λ f. leads_up_at os f.number ≡ is_north f.region) fs → Each (λ f. is_north f.region ≡ true → f.asks ≡ []) fs → owed_by cmp tokens up_price 0 fs ≡ 0
        go [] owns quiet = refl
        go (f ∷ fs) owns quiet = let first = one f owns.0 quiet.0 in let rest = go fs owns.1 quiet.1 in omega arith

    -- so parts that run within so much send no more up
    runs_up : (c : PlainCall K) (most : ℕ) → RunsWithin cmp matching tokens up_price 0 (parts_of cmp matching c g) g most → most ≤ 1 → going_up g (said cmp matching c g) ≤ 1
    runs_up c most runs less = let run = runs.within in let none_ = owed_nothing in let count = counted (said cmp matching c g) in omega arith

  down_nothing : total (λ (o : Outline K). if is_north o.region then 0 else up_price o.number) os ≡ 0
  down_nothing = go os (each_own 1 os rises)
    where
      go : (xs : List (Outline K)) → Each (λ o. leads_up_at os o.number ≡ is_north o.region) xs → total (λ (o : Outline K). if is_north o.region then 0 else up_price o.number) xs ≡ 0
      go [] owns = refl
      go (o ∷ xs) owns =
          let rest = go xs owns.1 in
          by_test (is_north o.region) (λ north. rw north (omega arith)) (λ south. let own : leads_up_at os o.number ≡ false = owns.0 ∙ south in rw (south, own) (omega arith))

  up_once : total (λ (o : Outline K). if is_north o.region then up_price o.number + 0 else 0) os ≤ 1
  up_once =
      let few = times_few 1 (filter (λ (f : Face K). is_north f.region) g.faces) tree.one_north in
      let less = norths g.faces in
      omega arith
    where
      price_small : (k : ℕ) → up_price k ≤ 1
      price_small k = of_cond (λ n. n ≤ 1) (leads_up_at os k) 1 0 (λ _. omega arith) (λ _. omega arith)

      norths : (fs : List (Face K)) → total (λ (o : Outline K). if is_north o.region then up_price o.number + 0 else 0) (map outline fs) ≤ times 1 (filter (λ f. is_north f.region) fs)
      norths [] = omega arith
      norths (f ∷ fs) =
          let rest = norths fs in
          let own = price_small f.number in
          by_test (is_north f.region) (λ here. rw here (omega arith)) (λ here. rw here (omega arith))

  no_extra : (xs : List (Outline K)) → total (λ (o : Outline K). if is_north o.region then up_price o.number + 0 else 0) xs ≡ total (λ (o : Outline K). if is_north o.region then up_price o.number else 0) xs
  no_extra [] = refl
  no_extra (o ∷ xs) = let rest = no_extra xs in by_test (is_north o.region) (λ here. rw here (omega arith)) (λ here. rw here (omega arith))

  -- the tokens that are live here
  abbrev live_here : List K
  live_here = flat_map (λ (f : Face K). map (λ row. row.1) f.live) g.faces

  all_here : IsIn (λ e. is_among cmp e live_here ≡ true) g
  all_here = record {
    live =
        each_weaker (λ (f : Face K). (test : K → Bool) → list_any test (map (λ row. row.1) f.live) ≡ true → list_any test live_here ≡ true) (λ f. Each (λ row. is_among cmp row.1 live_here ≡ true) f.live)
        (λ f own. each_weaker (λ (row : ℕ × K). is_among cmp row.1 (map (λ r. r.1) f.live) ≡ true) (λ row. is_among cmp row.1 live_here ≡ true) (λ row there. own (same cmp row.1) there) f.live (each_row f.live))
        g.faces (each_part (λ (f : Face K). map (λ (row : ℕ × K). row.1) f.live) g.faces);
    routed = each_weaker (λ (row : RoutedRow K). zid_eq row.source g.zid ≡ true) (λ row. zid_eq row.source g.zid ≡ false → is_among cmp row.expr live_here ≡ true) (λ row own other. never own other) g.routed tree.own_rows;
  }
    where
      each_row : (rows : ById K) → Each (λ row. is_among cmp row.1 (map (λ r. r.1) rows) ≡ true) rows
      each_row [] = tt
      each_row (row ∷ rows) = (or_left (same cmp row.1 row.1) _ (same_itself cmp total_order row.1), each_weaker (λ (r : ℕ × K). is_among cmp r.1 (map (λ r. r.1) rows) ≡ true) (λ r. is_among cmp r.1 (map (λ r. r.1) (row ∷ rows)) ≡ true) (λ r there. or_right (same cmp r.1 row.1) _ there) rows (each_row rows))

  pub from_below : (n : ℕ) (f : Face K) (c : PlainCall K) → find_face n g ≡ Some f → is_north f.region ≡ false → ComesFromBelow n c → going_up g (said cmp matching c g) ≤ 1
  from_below n f (DeclareToken k id e node interest) found south is =
      let found_ : find_face k g ≡ Some f = ap (λ j. find_face j g) is ∙ found in
      let here : is_among cmp e (e ∷ []) ≡ true = or_left (same cmp e e) false (same_itself cmp total_order e) in
      let none_ = down_nothing in
      let once = up_once in
      let same_ = no_extra os in
      runs_up (e ∷ []) (DeclareToken k id e node interest) _ (risen_declare cmp matching (e ∷ []) up_price 0 g.mode os rises plain total_order equal_is_same k id node e interest f g framed found_ (outside k f found_) here) (omega arith)
  from_below n f (UndeclareToken k id given node) found south is =
      let found_ : find_face k g ≡ Some f = ap (λ j. find_face j g) is ∙ found in
      let none_ = down_nothing in
      let once = up_once in
      let same_ = no_extra os in
      runs_up [] (UndeclareToken k id given node) _ (risen_undeclare cmp matching [] up_price 0 g.mode os rises plain total_order equal_is_same k id node given f g framed found_ (outside k f found_)) (omega arith)
  from_below n f (Interest k id mode options e) found south is =
      let found_ : find_face k g ≡ Some f = ap (λ j. find_face j g) is ∙ found in
      let number_ : k ≡ f.number = eqb-true k f.number (find_passes (λ (h : Face K). k == h.number) g.faces f found_) in
      let down_ : leads_up_at os k ≡ false = sym (for_above_is k) ∙ ap (λ (o : Option (Face K)). is_some_and o (λ h. is_north h.region)) found_ ∙ south in
      let price_ : up_price k ≡ 0 = rw down_ refl in
      let once = up_once in
      let entities_ = entities_nothing k price_ os in
      let answers_ : times (up_price k) live_here ≡ 0 = ap (λ p. times p live_here) price_ ∙ total_none live_here in
      runs_up live_here (Interest k id mode options e) _ (interest_runs cmp matching live_here up_price 0 g.mode os rises plain total_order equal_is_same k id mode options e f g framed found_ all_here) (omega arith)
    where
      entities_nothing : (k : ℕ) → up_price k ≡ 0 → (xs : List (Outline K)) → total (entities_price cmp matching live_here up_price 0 g.mode os rises plain total_order equal_is_same (up_price k)) xs ≡ 0
      entities_nothing k price_ xs = ap (λ p. total (λ (o : Outline K). times p o.subscribers + times p o.queryables) xs) price_ ∙ go xs
        where
          go : (xs : List (Outline K)) → total (λ (o : Outline K). times 0 o.subscribers + times 0 o.queryables) xs ≡ 0
          go [] = refl
          go (o ∷ xs) = let one = total_none o.subscribers in let two = total_none o.queryables in let rest = go xs in omega arith
  from_below n f (DeclareFinal k id) found south is = absurd is
  from_below n f (NewSession first) found south is = absurd is
  from_below n f (NewTransport zid whatami region bound first) found south is = absurd is
  from_below n f (InterestFinal k id) found south is = absurd is
  from_below n f (CloseFace k) found south is = absurd is
  from_below n f (Expire now) found south is = absurd is
  from_below n f (SetTrees region t) found south is = absurd is
  from_below n f (SetEntities k subscribers queryables) found south is = absurd is
