-- Opening a face leaves a gateway sound: a new face to the north is told what is there.
use Rattle.std.proofs.Common.{◌≡◌, ℕ, ◌+◌, ◌≤◌, Bool, true, false, if◌then◌else◌, ◌==◌, List, [], ◌∷◌, ◌++◌, map, Option, Some, None, refl, sym, ap, ◌∙◌, subst, arith, append-nil, append_assoc, ne_eqb, eq-eqb, eqb-true}
use Rattle.std.specs.Cmp.{IsTotalOrder}
use Rattle.std.specs.List.{flat_map}
use Rattle.std.specs.declared.cmp.Ordering.{Ordering}
use Rattle.std.specs.declared.cmp.Ordering.TheVariants.{Equal}
use Rattle.zt_region.specs.declared.region.Bound.{Bound}
use Rattle.zt_region.specs.declared.region.Bound.TheVariants.{North as NorthBound}
use Rattle.zt_region.specs.declared.region.Region.{Region}
use Rattle.zt_region.specs.declared.region.Region.TheVariants.{Local}
use Rattle.zt_region.specs.declared.region.WhatAmI.{WhatAmI}
use Rattle.zt_region.specs.declared.region.WhatAmI.TheVariants.{Client}
use Rattle.zt_region.specs.declared.region.Zid.{Zid}
use Rattle.zt_protocol.specs.declared.interests.InterestMode.{InterestMode}
use Rattle.zt_protocol.specs.declared.messages.Message.{Message}
use Rattle.zt_model.specs.Hat.{hat_of}
use Rattle.zt_model.specs.Hearing.{heard_all, messages_for, rows_heard}
use Rattle.zt_model.specs.Routing.{face_opened, interests_from, opened, opening, opening_final, opening_interests, opening_tokens, tokens_from}
use Rattle.zt_model.specs.Rows.{Face, InterestRow, Rows}
use Rattle.zt_model.specs.Says.{Sends, find_face, is_routed, new_face, opened_session, to_face}
use Rattle.zt_model.specs.Transcript.{Each}
use Rattle.zt_model.specs.Wants.{covers, seeks, wants}
use Rattle.zt_model.specs.Visible.{routed_rows, rows_of_face}
use Rattle.zt_laws.specs.Order.{RowsAreInOrder}
use Rattle.zt_laws.specs.Sound.{IsToldInOrder, RiseFrom}
use Rattle.zt_laws.proofs.CallsOrder.{greeted_in_order, none_after_interests, session_in_order, told_nothing_new, transport_in_order}
use Rattle.zt_laws.proofs.Hearing.{each_ruled_one, find_none, find_only, heard_all-held, heard_all-number, heard_all-region, messages_for_other, messages_for_own}
use Rattle.zt_laws.proofs.Lists.{by_test, each_append, each_both, each_map, each_weaker, never, of_cond}
use Rattle.zt_laws.proofs.PartsOrder.{heard_in_order, in_order_by, lists_heard, nothing_told, tolds, tolds_in_order}
use Rattle.zt_laws.proofs.ToldOrder.{TellsNothing, interests_tell_nothing}
use Rattle.zt_theorem_soundness.specs.Ran.{ran}
use Rattle.zt_theorem_soundness.specs.Sound.{AllKeepBut, AskIsHeld, AsksAreHeld, IsNamed, KeepsBut, NamedPending, PendingIsKnown, PendingsAreKnown, PendingsOfAskAreKnown, RoutedDeclareNothing, named_by_ask, nothing_left}
use Rattle.zt_theorem_soundness.proofs.Answered.{keeps_greeted}
use Rattle.zt_theorem_soundness.proofs.CallsRun.{live_rows_heard}
use Rattle.zt_theorem_soundness.proofs.Going.{FaceGoesOn, GoesOn, IsQuietMessage, MakesNoPending, goes_on_heard, held_go_on, hears, keeps_go_on, named_all_sent, pendings_go_on, routed_go_on, sound_quiet}
use Rattle.zt_theorem_soundness.proofs.Keeping.{ShowSame, Stays, keeps_stays, stays_itself}
use Rattle.zt_theorem_soundness.proofs.Parts.{all_named, nobody, only, quiet_opening_final}
use Rattle.zt_theorem_soundness.proofs.Tokens.{Sound}

pub flat_map-append : {A B : Type 0} (f : A → List B) (xs ys : List A) → flat_map f (xs ++ ys) ≡ flat_map f xs ++ flat_map f ys
flat_map-append f [] ys = refl
flat_map-append f (x ∷ xs) ys = ap (λ zs. f x ++ zs) (flat_map-append f xs ys) ∙ sym (append_assoc (f x) (flat_map f xs) (flat_map f ys))

module _ {K : Type 0} where
  -- one face is sent what a rule gives for it, and the others nothing
  pub speaks_one : (n : ℕ) (rule : Face K → List (Message K)) (g : Rows K) → RiseFrom (λ f. f.number) 1 g.faces → Each (λ f. messages_for f.number (to_face n rule g) ≡ (if n == f.number then rule f else [])) g.faces
  unfolding to_face messages_for
  speaks_one n rule g rises = cases (find_face n g) refl
    where
      cases : (o : Option (Face K)) → find_face n g ≡ o → Each (λ f. messages_for f.number (elim o [ None ↦ [] | Some h ↦ map (λ m. (n, m)) (rule h) ]) ≡ (if n == f.number then rule f else [])) g.faces
      cases None found = each_weaker (λ f. (n == f.number) ≡ false) (λ f. [] ≡ (if n == f.number then rule f else [])) (λ f apart. rw apart refl) g.faces (find_none (λ f. n == f.number) g.faces found)
      cases (Some k) found =
          each_weaker (λ f. (n == f.number) ≡ true → f ≡ k) (λ f. messages_for f.number (map (λ m. (n, m)) (rule k)) ≡ (if n == f.number then rule f else []))
          (λ f one.
          by_test (n == f.number)
          (λ here. rw here (ap (λ j. messages_for j (map (λ m. (n, m)) (rule k))) (sym (eqb-true n f.number here)) ∙ messages_for_own n (rule k) ∙ ap rule (sym (one here))))
          (λ here. rw here (messages_for_other f.number n (rule k) (ne_eqb f.number n (λ e. never (eq-eqb n f.number (sym e)) here)))))
          g.faces (find_only n 1 g.faces k rises found)

  -- a face that is left aside in part is one that goes on
  pub goes_on_aside : (but : ℕ → Bool) (g h : Rows K) (change : Face K → Face K) → GoesOn nobody g h change → GoesOn but g h change
  goes_on_aside but g h change goes = record {
    faces = goes.faces;
    made = goes.made;
    mode = goes.mode;
    each = each_weaker (λ f. FaceGoesOn nobody g f (change f)) (λ f. FaceGoesOn but g f (change f)) (λ f one. record { number = one.number; region = one.region; named = one.named; held = λ _ all. one.held refl all; pendings = one.pendings; live = one.live }) g.faces goes.each;
  }

  -- ---- a new face

  module _ (f : Face K) (g : Rows K) (number_ : f.number ≡ g.made + 1) (live_ : f.live ≡ []) (asks_ : f.asks ≡ []) where
    abbrev pub with_new : Rows K
    with_new = record g { made = g.made + 1; faces = g.faces ++ f ∷ [] }

    pub new_same : ShowSame g with_new
    new_same = record {
      live =
          ap (λ rows. rows ++ routed_rows g)
          (flat_map-append rows_of_face g.faces (f ∷ [])
          ∙ ap (λ (rows : List (ℕ × K)). flat_map rows_of_face g.faces ++ (map (λ row. (f.region, row.1)) rows ++ [])) live_
          ∙ append-nil (flat_map rows_of_face g.faces));
      refused = refl;
    }

    pub new_only : (P : Face K → Type 0) → P f → Each (λ k. k.number ≤ g.made) g.faces → Each (λ k. (g.made + 1 == k.number) ≡ true → P k) (g.faces ++ f ∷ [])
    new_only P own made =
        each_append (λ k. (g.made + 1 == k.number) ≡ true → P k) g.faces (f ∷ [])
        (each_weaker (λ k. k.number ≤ g.made) (λ k. (g.made + 1 == k.number) ≡ true → P k) (λ k up hit. never hit (ne_eqb (g.made + 1) k.number (λ e. omega arith))) g.faces made)
        ((λ hit. own), tt)

    pub new_held : AsksAreHeld nobody g → AsksAreHeld nobody with_new
    new_held held = each_append (λ k. false ≡ false → Each (AskIsHeld k) k.asks) g.faces (f ∷ []) held ((λ _. subst (Each (AskIsHeld f)) (sym asks_) tt), tt)

    pub new_named : PendingsAreKnown g → PendingsAreKnown with_new
    new_named named =
        each_append (λ k. Each (PendingsOfAskAreKnown with_new) k.asks) g.faces (f ∷ [])
        (each_weaker (λ k. Each (PendingsOfAskAreKnown g) k.asks) (λ k. Each (PendingsOfAskAreKnown with_new) k.asks)
        (λ k all. each_weaker (PendingsOfAskAreKnown g) (PendingsOfAskAreKnown with_new) (λ row known. each_weaker (PendingIsKnown g) (PendingIsKnown with_new) known_still (named_by_ask row) known) k.asks all) g.faces named)
        (subst (Each (PendingsOfAskAreKnown with_new)) (sym asks_) tt, tt)
      where
        known_still : (p : NamedPending) → PendingIsKnown g p → PendingIsKnown with_new p
        known_still p known =
            let made_ : p.face ≤ g.made = known.made in
            record {
              made = omega arith;
              named = each_append (λ k. (p.face == k.number) ≡ true → IsNamed p.mode p.id k) g.faces (f ∷ []) known.named ((λ hit. never hit (ne_eqb p.face f.number (λ e. omega arith))), tt);
            }

    pub new_routed : RoutedDeclareNothing g → RoutedDeclareNothing with_new
    new_routed routed = each_append (λ k. is_routed with_new k ≡ true → k.live ≡ []) g.faces (f ∷ []) routed ((λ _. live_), tt)

    pub new_kept : (cmp : K → K → Ordering) (matching : K → K → Bool) (but : ℕ → Bool) → (is_routed g f ≡ false → but f.number ≡ false → KeepsBut cmp matching nothing_left nothing_left with_new f) → AllKeepBut cmp matching nobody nothing_left nothing_left g → AllKeepBut cmp matching but nothing_left nothing_left with_new
    new_kept cmp matching but own keeps =
        each_append (λ k. is_routed with_new k ≡ false → but k.number ≡ false → KeepsBut cmp matching nothing_left nothing_left with_new k) g.faces (f ∷ [])
        (each_weaker (λ k. is_routed g k ≡ false → false ≡ false → KeepsBut cmp matching nothing_left nothing_left g k) (λ k. is_routed with_new k ≡ false → but k.number ≡ false → KeepsBut cmp matching nothing_left nothing_left with_new k)
        (λ k one plain _. keeps_stays cmp matching nothing_left nothing_left g with_new k k new_same (stays_itself k) (one plain refl)) g.faces keeps)
        (own, tt)

module _ {K : Type 0} (cmp : K → K → Ordering) (matching : K → K → Bool) (total : IsTotalOrder cmp) (equal_is_same : (a b : K) → cmp a b ≡ Equal → a ≡ b) where
  -- ---- a session

  pub sound_session : (first : ℕ) (g : Rows K) → 1 ≤ first → Sound cmp matching total equal_is_same g → Sound cmp matching total equal_is_same (opened_session first g)
  unfolding seeks covers wants
  sound_session first g real sound =
      let f : Face K = new_face (g.made + 1) Local NorthBound Client g.zid first in
      record {
        ordered = session_in_order cmp matching total first g real sound.ordered;
        keeps = new_kept f g refl refl refl cmp matching nobody (λ _ _. record { kept_is_visible = λ e kept _. never kept refl; kept_is_sought = λ e kept. never kept refl; admitted_is_kept = λ e admitted covered _. never covered refl }) sound.keeps;
        held = new_held f g refl refl refl sound.held;
        named = new_named f g refl refl refl sound.named;
        routed = new_routed f g refl refl refl sound.routed;
      }

  -- ---- a transport's face

  heard_same : (ss : Sends K) (g : Rows K) → ShowSame g (rows_heard cmp ss g)
  unfolding rows_heard
  heard_same ss g = record { live = live_rows_heard cmp ss g; refused = refl }

  stays_silent : (ss : Sends K) (g : Rows K) (k : Face K) → messages_for k.number ss ≡ [] → Stays k (hears cmp matching ss g k)
  unfolding heard_all
  stays_silent ss g k none_ = record {
    region = ap (λ ms. (heard_all cmp g.moment ms k).region) none_;
    told = ap (λ ms. (heard_all cmp g.moment ms k).told) none_;
    held = ap (λ ms. (heard_all cmp g.moment ms k).held) none_;
  }

  interests_named : (g : Rows K) (n : ℕ) (is : List (InterestRow K)) (f : Face K) (mode : InterestMode) (id : ℕ) → IsNamed mode id f → IsNamed mode id (heard_all cmp g.moment (if n == f.number then interests_from f.next is else []) f)
  unfolding heard_all
  interests_named g n is f mode id named =
      of_cond (λ (ms : List (Message K)). IsNamed mode id (heard_all cmp g.moment ms f)) (n == f.number) (interests_from f.next is) [] (λ _. named_all_sent cmp mode id g.moment f.next is f refl named) (λ _. named)

  tokens_make_none : (next : ℕ) (es : List K) → Each MakesNoPending (tokens_from next es)
  unfolding tokens_from
  tokens_make_none next [] = tt
  tokens_make_none next (e ∷ es) = (tt, tokens_make_none (next + 1) es)

  -- the new face is told what is there, and the others stay
  greeted_kept : (n : ℕ) (two : Rows K) → RowsAreInOrder cmp matching two → Each (λ k. (n == k.number) ≡ true → k.told ≡ []) two.faces → Each (λ k. (n == k.number) ≡ true → k.held ≡ []) two.faces
      → AllKeepBut cmp matching (only n) nothing_left nothing_left two
      → AllKeepBut cmp matching nobody nothing_left nothing_left (rows_heard cmp (to_face n (λ k. tokens_from k.next (opening_tokens cmp matching two k)) two) two)
  unfolding rows_heard
  greeted_kept n two ordered untold unheld keeps =
      let tokens = λ (k : Face K). tokens_from k.next (opening_tokens cmp matching two k) in
      let ss = to_face n tokens two in
      let three = rows_heard cmp ss two in
      let same_ = heard_same ss two in
      let says = speaks_one n tokens two ordered.lists.faces_rise in
      let one = each_both (λ k. (n == k.number) ≡ true → k.told ≡ []) (λ k. (n == k.number) ≡ true → k.held ≡ []) (λ k. (n == k.number) ≡ true → (k.told ≡ []) × (k.held ≡ [])) (λ k a b hit. (a hit, b hit)) two.faces untold unheld in
      let both = each_both (λ k. IsToldInOrder cmp k.told k.next) (λ k. messages_for k.number ss ≡ (if n == k.number then tokens k else [])) (λ k. IsToldInOrder cmp k.told k.next × (messages_for k.number ss ≡ (if n == k.number then tokens k else []))) (λ k a b. (a, b)) two.faces ordered.told says in
      let known = each_both (λ k. (n == k.number) ≡ true → (k.told ≡ []) × (k.held ≡ [])) (λ k. IsToldInOrder cmp k.told k.next × (messages_for k.number ss ≡ (if n == k.number then tokens k else []))) (λ k. ((n == k.number) ≡ true → (k.told ≡ []) × (k.held ≡ [])) × IsToldInOrder cmp k.told k.next × (messages_for k.number ss ≡ (if n == k.number then tokens k else []))) (λ k a b. (a, b.0, b.1)) two.faces one both in
      each_map (λ k. is_routed three k ≡ false → false ≡ false → KeepsBut cmp matching nothing_left nothing_left three k) (hears cmp matching ss two) two.faces
      (each_both (λ k. ((n == k.number) ≡ true → (k.told ≡ []) × (k.held ≡ [])) × IsToldInOrder cmp k.told k.next × (messages_for k.number ss ≡ (if n == k.number then tokens k else []))) (λ k. is_routed two k ≡ false → (n == k.number) ≡ false → KeepsBut cmp matching nothing_left nothing_left two k) (λ k. is_routed three (hears cmp matching ss two k) ≡ false → false ≡ false → KeepsBut cmp matching nothing_left nothing_left three (hears cmp matching ss two k))
      (λ k facts right plain _.
      let plain_ : is_routed two k ≡ false = sym (ap (λ (r : Region). (hat_of two.mode r).goes_by_trees) (heard_all-region cmp two.moment (messages_for k.number ss) k)) ∙ plain in
      by_test (n == k.number)
      (λ here.
      let new_ = facts.0 here in
      subst (λ ms. KeepsBut cmp matching nothing_left nothing_left three (heard_all cmp two.moment ms k)) (sym (facts.2 ∙ ap (λ b. if b then tokens k else []) here))
      (keeps_stays cmp matching nothing_left nothing_left two three (heard_all cmp two.moment (tokens k) k) (heard_all cmp two.moment (tokens k) k) same_ (stays_itself (heard_all cmp two.moment (tokens k) k))
      (keeps_greeted cmp matching total equal_is_same two.moment two two k facts.1.next_is_real new_.0 new_.1 plain_ refl (λ x. refl))))
      (λ here. keeps_stays cmp matching nothing_left nothing_left two three k (hears cmp matching ss two k) same_ (stays_silent ss two k (facts.2 ∙ ap (λ b. if b then tokens k else []) here)) (right plain_ here)))
      two.faces known keeps)

  pub sound_opening : (zid : Zid) (whatami : WhatAmI) (region : Region) (bound : Bound) (first : ℕ) (g : Rows K) → 1 ≤ first → Sound cmp matching total equal_is_same g → Sound cmp matching total equal_is_same (ran cmp (opening cmp matching zid whatami region bound first g) g)
  unfolding ran rows_heard
  sound_opening zid whatami region bound first g real sound =
      let n = g.made + 1 in
      let f = face_opened zid whatami region bound first g in
      let one = opened zid whatami region bound first g in
      let o1 = transport_in_order cmp matching total zid whatami region bound first g real sound.ordered in
      let made = sound.ordered.lists.faces_made in
      let k1 = new_kept f g refl refl refl cmp matching (only n) (λ _ apart. never (eq-eqb n n refl) apart) sound.keeps in
      let interests = λ (k : Face K). interests_from k.next (opening_interests cmp matching one k) in
      let ss1 = to_face n interests one in
      let two = rows_heard cmp ss1 one in
      let o2 = in_order_by cmp matching two (lists_heard cmp matching ss1 one o1.lists)
      (heard_in_order cmp matching ss1 one (nothing_told cmp ss1 (tolds cmp one) (each_ruled_one TellsNothing n interests one (λ k. interests_tell_nothing cmp k.next (opening_interests cmp matching one k))) (tolds_in_order cmp matching one o1))) in
      let says1 = speaks_one n interests one o1.lists.faces_rise in
      let named1 = each_weaker (λ k. messages_for k.number ss1 ≡ (if n == k.number then interests k else [])) (λ k. (mode : InterestMode) (id : ℕ) → IsNamed mode id k → IsNamed mode id (hears cmp matching ss1 one k))
      (λ k says mode id is. subst (λ ms. IsNamed mode id (heard_all cmp one.moment ms k)) (sym says) (interests_named one n (opening_interests cmp matching one k) k mode id is)) one.faces says1 in
      let goes1 = goes_on_heard cmp matching nobody ss1 one named1 in
      let k2 = keeps_go_on cmp matching (only n) nothing_left nothing_left nothing_left nothing_left one two (hears cmp matching ss1 one) (goes_on_aside (only n) one two (hears cmp matching ss1 one) goes1)
      (each_weaker (λ k. messages_for k.number ss1 ≡ (if n == k.number then interests k else [])) (λ k. is_routed one k ≡ false → (n == k.number) ≡ false → KeepsBut cmp matching nothing_left nothing_left one k → KeepsBut cmp matching nothing_left nothing_left two (hears cmp matching ss1 one k))
      (λ k says plain apart right. keeps_stays cmp matching nothing_left nothing_left one two k (hears cmp matching ss1 one k) (heard_same ss1 one) (stays_silent ss1 one k (says ∙ ap (λ b. if b then interests k else []) apart)) right) one.faces says1) k1 in
      let facts = each_map (λ k. (n == k.number) ≡ true → k.held ≡ []) (hears cmp matching ss1 one) one.faces
      (each_weaker (λ k. (n == k.number) ≡ true → k.held ≡ []) (λ k. (n == (hears cmp matching ss1 one k).number) ≡ true → (hears cmp matching ss1 one k).held ≡ [])
      (λ k none_ hit. heard_all-held cmp one.moment (messages_for k.number ss1) k ∙ none_ (ap (λ j. n == j) (sym (heard_all-number cmp one.moment (messages_for k.number ss1) k)) ∙ hit)) one.faces (new_only f g refl refl refl (λ k. k.held ≡ []) refl made)) in
      let untold = none_after_interests cmp matching total n (opening_interests cmp matching one) one o1.lists (told_nothing_new cmp matching total f g refl sound.ordered.lists) in
      let tokens = λ (k : Face K). tokens_from k.next (opening_tokens cmp matching two k) in
      let ss2 = to_face n tokens two in
      let three = rows_heard cmp ss2 two in
      let o3 = in_order_by cmp matching three (lists_heard cmp matching ss2 two o2.lists) (heard_in_order cmp matching ss2 two (greeted_in_order cmp matching total n two o2.lists (tolds_in_order cmp matching two o2) untold)) in
      let goes2 = goes_on_heard cmp matching nobody ss2 two (all_named cmp matching ss2 two (each_ruled_one MakesNoPending n tokens two (λ k. tokens_make_none k.next (opening_tokens cmp matching two k)))) in
      let sound3 : Sound cmp matching total equal_is_same three = record {
        ordered = o3;
        keeps = greeted_kept n two o2 untold facts k2;
        held = held_go_on nobody two three (hears cmp matching ss2 two) goes2 (held_go_on nobody one two (hears cmp matching ss1 one) goes1 (new_held f g refl refl refl sound.held));
        named = pendings_go_on nobody two three (hears cmp matching ss2 two) goes2 (pendings_go_on nobody one two (hears cmp matching ss1 one) goes1 (new_named f g refl refl refl sound.named));
        routed = routed_go_on nobody two three (hears cmp matching ss2 two) goes2 (routed_go_on nobody one two (hears cmp matching ss1 one) goes1 (new_routed f g refl refl refl sound.routed));
      } in
      sound_quiet cmp matching nobody nothing_left nothing_left (to_face n (opening_final cmp matching) three) three (each_ruled_one IsQuietMessage n (opening_final cmp matching) three (quiet_opening_final cmp matching)) sound3
