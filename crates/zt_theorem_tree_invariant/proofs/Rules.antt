-- What the rules of gateways say to a face of a tree is said well.
use Rattle.std.proofs.Common.{◌≡◌, ℕ, ◌+◌, ◌≤◌, Bool, true, false, if◌then◌else◌, ◌&&◌, ◌||◌, ◌==◌, not, List, [], ◌∷◌, ◌++◌, map, filter, Option, Some, None, refl, sym, ap, ◌∙◌, subst, arith, eq-eqb, ne_eqb, ⊎_elim}
use Rattle.std.proofs.lemmas.Bool.{and_from, and_parts, or_cases, or_left, or_right}
use Rattle.std.proofs.lemmas.Nat.{and_assoc}
use Rattle.std.specs.Int.Bits.{and_self, bit_and}
use Rattle.std.specs.List.{flat_map, list_any}
use Rattle.std.specs.declared.cmp.Ordering.{Ordering}
use Rattle.zt_region.specs.declared.region.Region.{Region}
use Rattle.zt_region.specs.declared.region.Region.TheVariants.{North}
use Rattle.zt_region.specs.declared.region.WhatAmI.{WhatAmI}
use Rattle.zt_region.specs.declared.region.WhatAmI.TheVariants.{Client}
use Rattle.zt_region.specs.Region.{is_north, region_eq-same}
use Rattle.zt_protocol.specs.Interest.{has_tokens, is_current, is_future, without_aggregate}
use Rattle.zt_protocol.specs.declared.interests.InterestMode.{InterestMode}
use Rattle.zt_protocol.specs.declared.interests.InterestOptions.{InterestOptions}
use Rattle.zt_protocol.specs.declared.messages.Message.{Message}
use Rattle.zt_protocol.specs.declared.messages.Message.TheVariants.{DeclareToken, UndeclareToken, DeclareFinal, Interest, InterestFinal, DeclareSubscriber, DeclareQueryable}
use Rattle.zt_model.specs.Hat.{hat_of, hat_of_face}
use Rattle.zt_model.specs.Hearing.{with_answer}
use Rattle.zt_model.specs.Lists.{at_id, in_key_order, is_among, is_some_and}
use Rattle.zt_model.specs.Routing.{asks_same, end_upstream_to, final_of, final_of_both, finish_to, is_asked, is_finished_by, is_held_south, is_target, route_to, untell_to}
use Rattle.zt_model.specs.Rows.{Ask, ById, Face, InterestRow, Rows}
use Rattle.zt_model.specs.Says.{answered_expressions, answers_from, answers_of, forget_to, forget_untold, is_routed, is_told, tell_to, told_id}
use Rattle.zt_model.specs.Telling.{answer_to, is_answered_by}
use Rattle.zt_model.specs.Transcript.{Each}
use Rattle.zt_model.specs.Trees.{hide_to, is_hidden, is_newly_shown, show_to}
use Rattle.zt_model.specs.Visible.{is_visible, shows}
use Rattle.zt_model.specs.Wants.{kept_options, wants}
use Rattle.zt_model.proofs.Hats.{asked_north}
use Rattle.zt_laws.proofs.Lists.{any-map, any_alike, by_test, each_always, each_append, each_map, each_weaker, never, of_cond}
use Rattle.zt_laws.proofs.PartsOrder.{each_flat_map}
use Rattle.zt_laws.proofs.Told.{told_id_each, told_id_none}
use Rattle.zt_theorem_tree_invariant.specs.Facts.{IsTreeFace, tokens_by}
use Rattle.zt_theorem_tree_invariant.proofs.Hears.{IsWell, is_of_mode}
use Rattle.zt_theorem_tree_invariant.proofs.Knowledge.{is_no_router}
use Rattle.zt_theorem_tree_invariant.proofs.Saying.{IsReal, SaidWell, asks_by}

-- the options that a client's face keeps, it keeps
pub kept_twice : (o : InterestOptions) → kept_options Client (kept_options Client o) ≡ kept_options Client o
kept_twice o = by_test (has_tokens o) (λ here. rw here (cases (has_tokens (without_aggregate o)))) (λ here. rw here (rw here refl))
  where
    once : without_aggregate (without_aggregate o) ≡ without_aggregate o
    once = ap (λ (n : ℕ). let r : InterestOptions = record { 0 = n } in r) (and_assoc 239 o.0 239 ∙ ap (λ n. bit_and o.0 n) (and_self 239))

    cases : (b : Bool) → (if b then without_aggregate (without_aggregate o) else without_aggregate o) ≡ without_aggregate o
    cases true = once
    cases false = refl

module _ {K : Type 0} (cmp : K → K → Ordering) where
  -- what is well whatever was told and asked
  abbrev pub IsPlainlyWell : Bool → Message K → Type 0
  IsPlainlyWell up (DeclareToken id e None node) = Unit {0}
  IsPlainlyWell up (DeclareToken id e (Some interest) node) = ⊥
  IsPlainlyWell up (UndeclareToken id None node) = Unit {0}
  IsPlainlyWell up (UndeclareToken id (Some e) node) = ⊥
  IsPlainlyWell up (Interest id mode options e) = (up ≡ true) × (kept_options Client options ≡ options)
  IsPlainlyWell up (InterestFinal id) = up ≡ true
  IsPlainlyWell up (DeclareFinal interest) = up ≡ false
  IsPlainlyWell up (DeclareSubscriber id e interest) = up ≡ false
  IsPlainlyWell up (DeclareQueryable id e info interest) = up ≡ false

  plain_is_well : (up : Bool) (m : Message K) (told : ById K) (asks : ById (Ask K)) → IsPlainlyWell up m → IsWell cmp up told asks m
  plain_is_well up (DeclareToken id e None node) told asks h = tt
  plain_is_well up (DeclareToken id e (Some interest) node) told asks h = absurd h
  plain_is_well up (UndeclareToken id None node) told asks h = tt
  plain_is_well up (UndeclareToken id (Some e) node) told asks h = absurd h
  plain_is_well up (Interest id mode options e) told asks h = h
  plain_is_well up (InterestFinal id) told asks h = h
  plain_is_well up (DeclareFinal interest) told asks h = h
  plain_is_well up (DeclareSubscriber id e interest) told asks h = h
  plain_is_well up (DeclareQueryable id e info interest) told asks h = h

  pub plainly : (up : Bool) (ms : List (Message K)) (told : ById K) (asks : ById (Ask K)) → Each (IsPlainlyWell up) ms → SaidWell cmp up ms told asks
  plainly up [] told asks all = tt
  plainly up (m ∷ ms) told asks all = (plain_is_well up m told asks all.0, plainly up ms (tokens_by cmp m told) (asks_by cmp m asks) all.1)

  -- ---- answers

  -- an answer to an ask that stands, in its mode
  abbrev pub IsAnswerTo : ById (Ask K) → Message K → Type 0
  IsAnswerTo asks (DeclareToken id e (Some interest) node) = list_any (λ row. (interest == row.0) && is_of_mode id row.1) asks ≡ true
  IsAnswerTo asks _ = ⊥

  answered_still : (interest id k : ℕ) (e : K) (row : ℕ × Ask K) → ((interest == (with_answer cmp k e row).0) && is_of_mode id (with_answer cmp k e row).1) ≡ ((interest == row.0) && is_of_mode id row.1)
  answered_still interest id k e row =
      of_cond (λ (r : ℕ × Ask K). ((interest == r.0) && is_of_mode id r.1) ≡ ((interest == row.0) && is_of_mode id row.1)) ((k == row.0) && not (is_among cmp e row.1.answered)) (row.0, record row.1 { answered = row.1.answered ++ e ∷ [] }) row (λ _. refl) (λ _. refl)

  still_answers : (k : ℕ) (e : K) (asks : ById (Ask K)) (m : Message K) → IsAnswerTo asks m → IsAnswerTo (map (with_answer cmp k e) asks) m
  still_answers k e asks (DeclareToken id x (Some interest) node) h =
      any-map (λ row. (interest == row.0) && is_of_mode id row.1) (with_answer cmp k e) asks
      ∙ any_alike (λ row. (interest == (with_answer cmp k e row).0) && is_of_mode id (with_answer cmp k e row).1) (λ row. (interest == row.0) && is_of_mode id row.1) (λ row. answered_still interest id k e row) asks
      ∙ h
  still_answers k e asks (DeclareToken id x None node) h = absurd h
  still_answers k e asks (UndeclareToken id x node) h = absurd h
  still_answers k e asks (Interest id mode options x) h = absurd h
  still_answers k e asks (InterestFinal id) h = absurd h
  still_answers k e asks (DeclareFinal interest) h = absurd h
  still_answers k e asks (DeclareSubscriber id x interest) h = absurd h
  still_answers k e asks (DeclareQueryable id x info interest) h = absurd h

  pub answers_well : (ms : List (Message K)) (told : ById K) (asks : ById (Ask K)) → Each (IsAnswerTo asks) ms → SaidWell cmp false ms told asks
  answers_well [] told asks all = tt
  answers_well (DeclareToken id e (Some interest) node ∷ ms) told asks all =
      ((refl, all.0), answers_well ms (tokens_by cmp (DeclareToken id e (Some interest) node) told) (map (with_answer cmp interest e) asks) (each_weaker (IsAnswerTo asks) (IsAnswerTo (map (with_answer cmp interest e) asks)) (λ m h. still_answers interest e asks m h) ms all.1))
  answers_well (DeclareToken id e None node ∷ ms) told asks all = absurd all.0
  answers_well (UndeclareToken id e node ∷ ms) told asks all = absurd all.0
  answers_well (Interest id mode options e ∷ ms) told asks all = absurd all.0
  answers_well (InterestFinal id ∷ ms) told asks all = absurd all.0
  answers_well (DeclareFinal interest ∷ ms) told asks all = absurd all.0
  answers_well (DeclareSubscriber id e interest ∷ ms) told asks all = absurd all.0
  answers_well (DeclareQueryable id e info interest ∷ ms) told asks all = absurd all.0

module _ {K : Type 0} (cmp : K → K → Ordering) (matching : K → K → Bool) where
  abbrev Plain : Bool → List (Message K) → Type 0
  Plain up ms = Each (IsPlainlyWell cmp up) ms

  -- ---- tokens

  pub tell_well : (g : Rows K) (source : Region) (e : K) (f : Face K) (up : Bool) → SaidWell cmp up (tell_to cmp matching g source e f) f.told f.asks
  unfolding tell_to
  tell_well g source e f up = of_cond (λ ms. SaidWell cmp up ms f.told f.asks) (is_told cmp matching g source e f) (DeclareToken f.next e None 0 ∷ []) [] (λ _. (tt, tt)) (λ _. tt)

  pub forget_well : (g : Rows K) (source : Region) (e : K) (f : Face K) → IsTreeFace g.mode f → SaidWell cmp (is_north f.region) (forget_to cmp matching g source e f) f.told f.asks
  unfolding forget_to
  forget_well g source e f face =
      of_cond (λ ms. SaidWell cmp (is_north f.region) ms f.told f.asks) (is_routed g f || is_visible cmp g f.region e) [] (elim (told_id cmp e f.told) [ None ↦ forget_untold cmp matching g source e f | Some id ↦ UndeclareToken id None 0 ∷ [] ]) (λ _. tt) (λ _. cases (told_id cmp e f.told) refl)
    where
      not_up : (wants matching f e && (hat_of_face g f).undeclares_untold && shows g.mode f.region source) ≡ true → is_north f.region ≡ false
      not_up h =
          let first = and_parts (wants matching f e && (hat_of_face g f).undeclares_untold) (shows g.mode f.region source) h in
          let second = and_parts (wants matching f e) ((hat_of_face g f).undeclares_untold) first.0 in
          by_test (is_north f.region)
          (λ up.
          let bad : (hat_of_face g f).undeclares_untold ≡ false = rw ((face.up up).own, region_eq-same f.region North up) refl in
          never second.1 bad)
          (λ down. down)

      cases : (o : Option ℕ) → told_id cmp e f.told ≡ o → SaidWell cmp (is_north f.region) (elim o [ None ↦ forget_untold cmp matching g source e f | Some id ↦ UndeclareToken id None 0 ∷ [] ]) f.told f.asks
      cases None none_ =
          of_cond (λ ms. SaidWell cmp (is_north f.region) ms f.told f.asks) (wants matching f e && (hat_of_face g f).undeclares_untold && shows g.mode f.region source) (UndeclareToken 0 (Some e) 0 ∷ []) []
          (λ h. ((not_up h, refl, told_id_none cmp e f.told none_), tt)) (λ _. tt)
      cases (Some id) found = (tt, tt)

  -- ---- trees say nothing

  show_none : (g : Rows K) (source : Region) (e : K) (f : Face K) → IsTreeFace g.mode f → show_to cmp g source e f ≡ []
  unfolding show_to is_newly_shown
  show_none g source e f face = let no_hat : (hat_of g.mode f.region).goes_by_trees ≡ false = is_no_router g f face in rw no_hat refl

  hide_none : (g : Rows K) (source : Region) (e : K) (f : Face K) → IsTreeFace g.mode f → hide_to cmp g source e f ≡ []
  unfolding hide_to is_hidden
  hide_none g source e f face = let no_hat : (hat_of g.mode f.region).goes_by_trees ≡ false = is_no_router g f face in rw no_hat refl

  pub show_well : (g : Rows K) (source : Region) (e : K) (f : Face K) (up : Bool) → IsTreeFace g.mode f → SaidWell cmp up (show_to cmp g source e f) f.told f.asks
  show_well g source e f up face = subst (λ ms. SaidWell cmp up ms f.told f.asks) (sym (show_none g source e f face)) tt

  pub hide_well : (g : Rows K) (source : Region) (e : K) (f : Face K) (up : Bool) → IsTreeFace g.mode f → SaidWell cmp up (hide_to cmp g source e f) f.told f.asks
  hide_well g source e f up face = subst (λ ms. SaidWell cmp up ms f.told f.asks) (sym (hide_none g source e f face)) tt

  -- ---- interests

  pub route_well : (g : Rows K) (asker : Region) (interest : InterestRow K) (f : Face K) → kept_options Client interest.options ≡ interest.options → SaidWell cmp (is_north f.region) (route_to g asker interest f) f.told f.asks
  unfolding route_to is_target
  route_well g asker interest f kept =
      of_cond (λ ms. SaidWell cmp (is_north f.region) ms f.told f.asks) (is_target g asker interest.mode f) (Interest f.next interest.mode interest.options interest.expr ∷ []) []
      (λ h. ((asked_north g interest.mode f (and_parts (not (is_north asker)) (is_asked g interest.mode f) h).1, kept), tt)) (λ _. tt)

  alike : {A : Type 0} (up : Bool) (message : A → Message K) (xs : List A) → ((x : A) → IsPlainlyWell cmp up (message x)) → Plain up (map message xs)
  alike up message xs h = each_map (IsPlainlyWell cmp up) message xs (each_always (λ x. IsPlainlyWell cmp up (message x)) h xs)

  final_plain : (id : ℕ) (f : Face K) → Plain false (final_of id f)
  final_plain id f = cases (at_id id f.asks)
    where
      by_pendings : (ps : List (ℕ × ℕ)) → (let ms : List (Message K) = elim ps [ [] ↦ DeclareFinal id ∷ [] | pending ∷ pendings ↦ [] ] in Plain false ms)
      by_pendings [] = (refl, tt)
      by_pendings (p ∷ ps) = tt

      cases : (o : Option (Ask K)) → (let ms : List (Message K) = elim o [ None ↦ [] | Some ask ↦ elim ask.pendings [ [] ↦ DeclareFinal id ∷ [] | pending ∷ pendings ↦ [] ] ] in Plain false ms)
      cases None = tt
      cases (Some ask) = by_pendings ask.pendings

  pub final_well : (id : ℕ) (f : Face K) (told : ById K) (asks : ById (Ask K)) → SaidWell cmp false (final_of id f) told asks
  final_well id f told asks = plainly cmp false (final_of id f) told asks (final_plain id f)

  pub final_of_both_well : (id : ℕ) (interest : InterestRow K) (f : Face K) → SaidWell cmp false (final_of_both id interest f) f.told f.asks
  final_of_both_well id interest f =
      of_cond (λ ms. SaidWell cmp false ms f.told f.asks) (is_current interest.mode && is_some_and (at_id id f.asks) (λ ask. is_future ask.interest.mode)) (DeclareFinal id ∷ []) [] (λ _. (refl, tt)) (λ _. tt)

  pub finish_well : (g : Rows K) (n id : ℕ) (f : Face K) → IsTreeFace g.mode f → SaidWell cmp (is_north f.region) (finish_to g n id f) f.told f.asks
  unfolding finish_to
  finish_well g n id f face =
      by_test (is_north f.region)
      (λ up. let none_ : f.asks ≡ [] = (face.up up).asks in subst (λ (asks : ById (Ask K)). SaidWell cmp (is_north f.region) (map (λ row. DeclareFinal row.0) (filter (λ row. is_finished_by g n id row.1) asks)) f.told f.asks) (sym none_) tt)
      (λ down. rw down (plainly cmp false (map (λ row. DeclareFinal row.0) (filter (λ row. is_finished_by g n id row.1) f.asks)) f.told f.asks (alike false (λ row. DeclareFinal row.0) (filter (λ row. is_finished_by g n id row.1) f.asks) (λ row. refl))))

  pub end_upstream_well : (g : Rows K) (interest : InterestRow K) (f : Face K) → SaidWell cmp (is_north f.region) (end_upstream_to cmp matching g interest f) f.told f.asks
  unfolding end_upstream_to
  end_upstream_well g interest f =
      of_cond (λ ms. SaidWell cmp (is_north f.region) ms f.told f.asks) (is_north f.region && not (is_held_south cmp matching g interest)) (map (λ row. InterestFinal row.0) (filter (λ row. asks_same cmp matching interest row.1) f.locals)) []
      (λ h.
      let up : is_north f.region ≡ true = (and_parts (is_north f.region) (not (is_held_south cmp matching g interest)) h).0 in
      plainly cmp (is_north f.region) (map (λ row. InterestFinal row.0) (filter (λ row. asks_same cmp matching interest row.1) f.locals)) f.told f.asks (alike (is_north f.region) (λ row. InterestFinal row.0) (filter (λ row. asks_same cmp matching interest row.1) f.locals) (λ row. up)))
      (λ _. tt)

  abbrev untold_one : Face K → K → List (Message K)
  untold_one f e = elim (told_id cmp e f.told) [ None ↦ [] | Some id ↦ UndeclareToken id None 0 ∷ [] ]

  pub untell_well : (g : Rows K) (f : Face K) (up : Bool) → SaidWell cmp up (untell_to cmp matching g f) f.told f.asks
  unfolding untell_to
  untell_well g f up =
      of_cond (λ ms. SaidWell cmp up ms f.told f.asks) ((hat_of_face g f).is_told_unasked f.region) [] (flat_map (untold_one f) (filter (λ e. not (wants matching f e)) (in_key_order cmp (map (λ row. row.1) f.told)))) (λ _. tt)
      (λ _. plainly cmp up (flat_map (untold_one f) (filter (λ e. not (wants matching f e)) (in_key_order cmp (map (λ row. row.1) f.told)))) f.told f.asks (each_flat_map (IsPlainlyWell cmp up) (untold_one f) (filter (λ e. not (wants matching f e)) (in_key_order cmp (map (λ row. row.1) f.told))) (λ e. cases (told_id cmp e f.told))))
    where
      cases : (o : Option ℕ) → (let ms : List (Message K) = elim o [ None ↦ [] | Some id ↦ UndeclareToken id None 0 ∷ [] ] in Plain up ms)
      cases None = tt
      cases (Some id) = (tt, tt)

  -- ---- answers

  answers_named : (next : ℕ) (told : ById K) (mode : InterestMode) (id : ℕ) (es : List K) (asks : ById (Ask K)) → 1 ≤ next → Each (λ row. 1 ≤ row.0) told
      → list_any (λ row. (id == row.0) && ((is_future mode && is_future row.1.interest.mode) || (not (is_future mode) && not (is_future row.1.interest.mode)))) asks ≡ true
      → Each (IsAnswerTo cmp asks) (answers_from cmp matching next told mode id es)
  unfolding answers_from
  answers_named next told mode id [] asks real told_real named = tt
  answers_named next told mode id (e ∷ es) asks real told_real named =
      by_test (is_future mode)
      (λ future.
      rw future (cases (λ k real_k. answers_named k told mode id es asks real_k told_real named) (told_id cmp e told) refl future))
      (λ now_. rw now_ (of_zero now_ asks named, answers_named next told mode id es asks real told_real named))
    where
      pair_mode : (f a : Bool) → ((f && a) || (not f && not a)) ≡ true → f ≡ a
      pair_mode true true h = refl
      pair_mode true false h = cc
      pair_mode false true h = cc
      pair_mode false false h = refl

      of_zero : is_future mode ≡ false → (rows : ById (Ask K)) → list_any (λ row. (id == row.0) && ((is_future mode && is_future row.1.interest.mode) || (not (is_future mode) && not (is_future row.1.interest.mode)))) rows ≡ true → list_any (λ row. (id == row.0) && is_of_mode 0 row.1) rows ≡ true
      of_zero now_ [] some = cc
      of_zero now_ (row ∷ rows) some =
          ⊎_elim
          (λ here.
          let parts = and_parts (id == row.0) ((is_future mode && is_future row.1.interest.mode) || (not (is_future mode) && not (is_future row.1.interest.mode))) here in
          or_left ((id == row.0) && is_of_mode 0 row.1) (list_any (λ r. (id == r.0) && is_of_mode 0 r.1) rows) (and_from (id == row.0) (is_of_mode 0 row.1) parts.0 (ap not (sym (pair_mode (is_future mode) (is_future row.1.interest.mode) parts.1) ∙ now_))))
          (λ there. or_right ((id == row.0) && is_of_mode 0 row.1) (list_any (λ r. (id == r.0) && is_of_mode 0 r.1) rows) (of_zero now_ rows there))
          (or_cases ((id == row.0) && ((is_future mode && is_future row.1.interest.mode) || (not (is_future mode) && not (is_future row.1.interest.mode)))) (list_any (λ r. (id == r.0) && ((is_future mode && is_future r.1.interest.mode) || (not (is_future mode) && not (is_future r.1.interest.mode)))) rows) some)

      of_real : (k : ℕ) → 1 ≤ k → is_future mode ≡ true → (rows : ById (Ask K)) → list_any (λ row. (id == row.0) && ((is_future mode && is_future row.1.interest.mode) || (not (is_future mode) && not (is_future row.1.interest.mode)))) rows ≡ true → list_any (λ row. (id == row.0) && is_of_mode k row.1) rows ≡ true
      of_real k real_ future [] some = cc
      of_real k real_ future (row ∷ rows) some =
          let not_zero : (k == 0) ≡ false = ne_eqb k 0 (λ is. omega arith) in
          ⊎_elim
          (λ here.
          let parts = and_parts (id == row.0) ((is_future mode && is_future row.1.interest.mode) || (not (is_future mode) && not (is_future row.1.interest.mode))) here in
          or_left ((id == row.0) && is_of_mode k row.1) (list_any (λ r. (id == r.0) && is_of_mode k r.1) rows) (and_from (id == row.0) (is_of_mode k row.1) parts.0 (rw not_zero (sym (pair_mode (is_future mode) (is_future row.1.interest.mode) parts.1) ∙ future))))
          (λ there. or_right ((id == row.0) && is_of_mode k row.1) (list_any (λ r. (id == r.0) && is_of_mode k r.1) rows) (of_real k real_ future rows there))
          (or_cases ((id == row.0) && ((is_future mode && is_future row.1.interest.mode) || (not (is_future mode) && not (is_future row.1.interest.mode)))) (list_any (λ r. (id == r.0) && ((is_future mode && is_future r.1.interest.mode) || (not (is_future mode) && not (is_future r.1.interest.mode)))) rows) some)

      cases : ((k : ℕ) → 1 ≤ k → Each (IsAnswerTo cmp asks) (answers_from cmp matching k told mode id es)) → (o : Option ℕ) → told_id cmp e told ≡ o → is_future mode ≡ true
          → Each (IsAnswerTo cmp asks) (elim o [ None ↦ DeclareToken next e (Some id) 0 ∷ answers_from cmp matching (next + 1) told mode id es | Some old ↦ DeclareToken old e (Some id) 0 ∷ answers_from cmp matching next told mode id es ])
      cases more None none_ future = (of_real next real future asks named, more (next + 1) (omega arith))
      cases more (Some old) found future = (of_real old (told_id_each cmp (λ k. 1 ≤ k) e told old told_real found) future asks named, more next real)

  -- the mode of an ask is its own
  pub own_mode : (f : Bool) → ((f && f) || (not f && not f)) ≡ true
  own_mode true = refl
  own_mode false = refl

  abbrev answers_one : ℕ → ℕ → K → Face K → ℕ × Ask K → List (Message K)
  answers_one n id e f row = if is_answered_by cmp matching n id e row.1 then answers_from cmp matching f.next f.told row.1.interest.mode row.0 (e ∷ []) else []

  abbrev same_row : ℕ × Ask K → ℕ × Ask K → Bool
  same_row row r = (row.0 == r.0) && ((is_future row.1.interest.mode && is_future r.1.interest.mode) || (not (is_future row.1.interest.mode) && not (is_future r.1.interest.mode)))

  pub answer_well : (n id : ℕ) (e : K) (mode : WhatAmI) (f : Face K) → IsTreeFace mode f → IsReal cmp f → SaidWell cmp (is_north f.region) (answer_to cmp matching n id e f) f.told f.asks
  unfolding answer_to
  answer_well n id e mode f face real =
      by_test (is_north f.region)
      (λ up. let none_ : f.asks ≡ [] = (face.up up).asks in subst (λ (asks : ById (Ask K)). SaidWell cmp (is_north f.region) (flat_map (answers_one n id e f) asks) f.told f.asks) (sym none_) tt)
      (λ down. rw down (answers_well cmp (flat_map (answers_one n id e f) f.asks) f.told f.asks (each_ask f.asks f.asks (λ row some. some))))
    where
      each_ask : (rows asks : ById (Ask K)) → ((row : ℕ × Ask K) → list_any (same_row row) rows ≡ true → list_any (same_row row) asks ≡ true) → Each (IsAnswerTo cmp asks) (flat_map (answers_one n id e f) rows)
      each_ask [] asks h = tt
      each_ask (row ∷ rows) asks h =
          each_append (IsAnswerTo cmp asks) (answers_one n id e f row) (flat_map (answers_one n id e f) rows)
          (of_cond (Each (IsAnswerTo cmp asks)) (is_answered_by cmp matching n id e row.1) (answers_from cmp matching f.next f.told row.1.interest.mode row.0 (e ∷ [])) []
          (λ _. answers_named f.next f.told row.1.interest.mode row.0 (e ∷ []) asks real.next real.told (h row (or_left (same_row row row) (list_any (same_row row) rows) (and_from (row.0 == row.0) _ (eq-eqb row.0 row.0 refl) (own_mode (is_future row.1.interest.mode)))))) (λ _. tt))
          (each_ask rows asks (λ r some. h r (or_right (same_row r row) (list_any (same_row r) rows) some)))

  -- what an interest is answered at once, where its ask stands
  pub answers_of_well : (g : Rows K) (id : ℕ) (interest : InterestRow K) (f : Face K) (asks : ById (Ask K)) → IsReal cmp f
      → (is_current interest.mode ≡ true → list_any (λ row. (id == row.0) && ((is_future interest.mode && is_future row.1.interest.mode) || (not (is_future interest.mode) && not (is_future row.1.interest.mode)))) asks ≡ true)
      → SaidWell cmp false (answers_of cmp matching g id interest f) f.told asks
  unfolding answered_expressions answers_from
  answers_of_well g id interest f asks real named =
      by_test (is_current interest.mode)
      (λ current. answers_well cmp (answers_of cmp matching g id interest f) f.told asks (answers_named f.next f.told interest.mode id (answered_expressions cmp matching g interest f) asks real.next real.told (named current)))
      (λ later. rw later tt)
