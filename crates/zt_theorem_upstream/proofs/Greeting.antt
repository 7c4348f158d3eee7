-- A new face to the north is sent what south-bound faces hold.
use Rattle.std.proofs.Common.{◌≡◌, ℕ, ◌+◌, ◌≤◌, Bool, true, false, not, max, ◌&&◌, ◌||◌, ◌==◌, if◌then◌else◌, List, [], ◌∷◌, ◌++◌, map, refl, sym, ap, ◌∙◌, subst, arith, eqb-true, eq-eqb}
use Rattle.std.specs.Cmp.{IsTotalOrder}
use Rattle.std.specs.FinMap.Entries.{by_order}
use Rattle.std.specs.List.{flat_map, list_any}
use Rattle.std.specs.declared.cmp.Ordering.{Ordering}
use Rattle.std.specs.declared.cmp.Ordering.TheVariants.{Less, Equal, Greater}
use Rattle.zt_region.specs.declared.region.Bound.{Bound}
use Rattle.zt_region.specs.declared.region.Bound.TheVariants.{North as NorthBound}
use Rattle.zt_region.specs.declared.region.Region.{Region}
use Rattle.zt_region.specs.declared.region.Region.TheVariants.{North, Local, South}
use Rattle.zt_region.specs.declared.region.WhatAmI.{WhatAmI}
use Rattle.zt_region.specs.declared.region.WhatAmI.TheVariants.{Router, Peer, Client}
use Rattle.zt_region.specs.declared.region.Zid.{Zid}
use Rattle.zt_region.specs.Region.{is_north}
use Rattle.zt_protocol.specs.Interest.{is_future}
use Rattle.zt_protocol.specs.Plain.{NewSession, NewTransport}
use Rattle.zt_protocol.specs.declared.interests.InterestMode.TheVariants.{CurrentFuture}
use Rattle.zt_protocol.specs.declared.messages.Message.{Message}
use Rattle.zt_protocol.specs.declared.messages.Message.TheVariants as message
use Rattle.zt_model.specs.Hat.{hat_of}
use Rattle.zt_model.specs.Hearing.{heard, heard_all, messages_for, put_if, rows_heard}
use Rattle.zt_model.specs.Lists.{in_key_order, with_key}
use Rattle.zt_model.specs.Promises.{is_sent_all}
use Rattle.zt_model.specs.Routing.{asks_same, face_opened, held_south, interest_order, interests_from, is_held_south, opened, opening_final, opening_interests, opening_tokens, tokens_from}
use Rattle.zt_model.specs.Rows.{ById, Face, InterestRow, Rows}
use Rattle.zt_model.specs.Says.{Part, Say, Sends, is_routed, new_face, opened_session, parts_of, to_face}
use Rattle.zt_model.specs.Transcript.{Each}
use Rattle.zt_laws.specs.Order.{RowsAreInOrder}
use Rattle.zt_laws.proofs.CallsOrder.{session_in_order, transport_in_order}
use Rattle.zt_laws.proofs.Hearing.{each_ruled_one}
use Rattle.zt_laws.proofs.Keys.{among-in_key_order}
use Rattle.zt_laws.proofs.Lists.{any-append, any-map, any_alike, by_test, each_always, each_append, each_both, each_map, each_weaker, never, of_cond}
use Rattle.zt_laws.proofs.PartsOrder.{each_flat_map}
use Rattle.zt_laws.proofs.Visible.{any-flat_map}
use Rattle.zt_theorem_soundness.specs.Ran.{ran}
use Rattle.zt_theorem_soundness.proofs.CallsRun.{call_runs}
use Rattle.zt_theorem_soundness.proofs.Opening.{speaks_one}
use Rattle.zt_theorem_soundness.proofs.Parts.{nobody, only}
use Rattle.zt_theorem_visibility.proofs.Saying.{opening_final_says, tokens_say}
use Rattle.zt_theorem_upstream.proofs.Calls.{Quiet, Stays, ran_quiet}
use Rattle.zt_theorem_upstream.proofs.Locals.{IsUpstream, LocalsBelow, Stands, any_put, below_heard_all, fresh_next, held_heard, interest_total, local_any, sent_all_north, sent_leads_up, south_any, stands_alike, stands_heard}

and_none : (b : Bool) → (b && false) ≡ false
and_none true = refl
and_none false = refl

or_none : (b : Bool) → (b || false) ≡ b
or_none true = refl
or_none false = refl

module _ {K : Type 0} (cmp : K → K → Ordering) (matching : K → K → Bool) where
  -- ---- what south-bound faces hold, in order

  each_with_key : {A : Type 0} (order : A → A → Ordering) (P : A → Type 0) (x : A) (xs : List A) → P x → Each P xs → Each P (with_key order x xs)
  each_with_key order P x [] own all = (own, tt)
  each_with_key order P x (y ∷ xs) own all =
      elim (order x y) as (λ o. Each P (by_order o (x ∷ y ∷ xs) (y ∷ xs) (y ∷ with_key order x xs))) [
        | Less ↦ (own, all)
        | Equal ↦ all
        | Greater ↦ (all.0, each_with_key order P x xs own all.1)
      ]

  each_in_order : {A : Type 0} (order : A → A → Ordering) (P : A → Type 0) (xs : List A) → Each P xs → Each P (in_key_order order xs)
  each_in_order order P [] all = tt
  each_in_order order P (x ∷ xs) all = each_with_key order P x (in_key_order order xs) all.0 (each_in_order order P xs all.1)

  abbrev holds : Face K → List (InterestRow K)
  holds f = if is_north f.region then [] else map (λ row. record row.1 { mode = CurrentFuture }) f.held

  south_future : (g : Rows K) → Each (λ i. is_future i.mode ≡ true) (held_south cmp matching g)
  unfolding held_south
  south_future g =
      each_in_order (interest_order cmp matching) (λ i. is_future i.mode ≡ true) (flat_map holds g.faces)
      (each_flat_map (λ i. is_future i.mode ≡ true) holds g.faces
      (λ f. of_cond (Each (λ (i : InterestRow K). is_future i.mode ≡ true)) (is_north f.region) [] (map (λ row. record row.1 { mode = CurrentFuture }) f.held) (λ _. tt) (λ _. each_map (λ (i : InterestRow K). is_future i.mode ≡ true) (λ (row : ℕ × InterestRow K). record row.1 { mode = CurrentFuture }) f.held (each_always (λ row. is_future CurrentFuture ≡ true) (λ row. refl) f.held))))

  south_any_is : (total : IsTotalOrder cmp) (g : Rows K) (i : InterestRow K) → list_any (λ x. asks_same cmp matching i x) (held_south cmp matching g) ≡ is_held_south cmp matching g i
  unfolding held_south is_held_south
  south_any_is total g i =
      among-in_key_order (interest_order cmp matching) (interest_total cmp matching total) i (flat_map holds g.faces)
      ∙ any-flat_map (λ x. asks_same cmp matching i x) holds g.faces
      ∙ any_alike (λ f. list_any (λ x. asks_same cmp matching i x) (holds f)) (λ f. south_any cmp matching f i)
      (λ f. by_test (is_north f.region) (λ up. rw up refl) (λ up. rw up (any-map (λ x. asks_same cmp matching i x) (λ (row : ℕ × InterestRow K). record row.1 { mode = CurrentFuture }) f.held))) g.faces

  -- ---- interests are sent under the next ids

  sent_from : (now next : ℕ) (is : List (InterestRow K)) (f : Face K) (i : InterestRow K) → next ≡ f.next → LocalsBelow cmp matching f → Each (λ x. is_future x.mode ≡ true) is
      → local_any cmp matching (heard_all cmp now (interests_from next is) f) i ≡ (list_any (λ x. asks_same cmp matching i x) is || local_any cmp matching f i)
  unfolding interests_from heard_all
  sent_from now next [] f i is_next below future = refl
  sent_from now next (x ∷ is) f i is_next below future =
      let m : Message K = message.Interest next x.mode x.options x.expr in
      let h = heard cmp now m f in
      let next_ : next + 1 ≡ h.next = let e : max f.next (next + 1) ≡ next + 1 = omega arith in sym e in
      let one : local_any cmp matching h i ≡ (asks_same cmp matching i x || local_any cmp matching f i) =
      ap (λ b. list_any (λ row. asks_same cmp matching i row.1) (put_if b next x f.locals)) future.0
      ∙ any_put (λ row. asks_same cmp matching i row.1) next x f.locals (subst (λ k. Each (λ row. (k == row.0) ≡ false) f.locals) (sym is_next) (fresh_next cmp matching f below)) in
      sent_from now (next + 1) is h i next_ (below_heard_all cmp matching now (m ∷ []) f below) future.1
      ∙ ap (λ b. list_any (λ y. asks_same cmp matching i y) is || b) one
      ∙ or_first (list_any (λ y. asks_same cmp matching i y) is) (asks_same cmp matching i x) (local_any cmp matching f i)
    where
      or_first : (a b c : Bool) → (a || (b || c)) ≡ ((b || a) || c)
      or_first true true c = refl
      or_first true false c = refl
      or_first false true c = refl
      or_first false false c = refl

  -- ---- new faces

  -- a face of a router region is a router's
  fits_router : (w : WhatAmI) (region : Region) (remote : WhatAmI) (bound : Bound) → (hat_of w region).fits region remote bound ≡ true → (hat_of w region).goes_by_trees ≡ true → remote ≡ Router
  fits_router w Local remote bound fit routed = never fit refl
  fits_router w (South id Router) Router bound fit routed = refl
  fits_router w (South id Router) Peer bound fit routed = never fit refl
  fits_router w (South id Router) Client bound fit routed = never fit refl
  fits_router w (South id Peer) remote bound fit routed = never routed refl
  fits_router w (South id Client) remote bound fit routed = never routed refl
  fits_router Router North Router bound fit routed = refl
  fits_router Router North Peer bound fit routed = never fit refl
  fits_router Router North Client bound fit routed = never fit refl
  fits_router Peer North remote bound fit routed = never routed refl
  fits_router Client North remote bound fit routed = never routed refl

  held_with_new : (f : Face K) (g : Rows K) (made : ℕ) → f.held ≡ [] → (i : InterestRow K) → is_held_south cmp matching (record g { made = made; faces = g.faces ++ f ∷ [] }) i ≡ is_held_south cmp matching g i
  unfolding is_held_south
  held_with_new f g made none_ i =
      any-append (λ k. south_any cmp matching k i) g.faces (f ∷ [])
      ∙ ap (λ (rows : ById (InterestRow K)). list_any (λ k. south_any cmp matching k i) g.faces || ((not (is_north f.region) && list_any (λ row. asks_same cmp matching i row.1) rows) || false)) none_
      ∙ ap (λ b. list_any (λ k. south_any cmp matching k i) g.faces || (b || false)) (and_none (not (is_north f.region)))
      ∙ or_none (list_any (λ k. south_any cmp matching k i) g.faces)

  module _ (total : IsTotalOrder cmp) where
    pub session_stays : (first : ℕ) (g : Rows K) → 1 ≤ first → RowsAreInOrder cmp matching g → Stays cmp matching (NewSession first) g
    unfolding parts_of ran is_held_south
    session_stays first g real ordered up =
        let new_ = new_face (g.made + 1) Local NorthBound Client g.zid first in
        let h = opened_session first g in
        let lists = session_in_order cmp matching total first g real ordered in
        let same_ : (i : InterestRow K) → is_held_south cmp matching g i ≡ is_held_south cmp matching h i = λ i. sym (any-append (λ f. south_any cmp matching f i) g.faces (new_ ∷ []) ∙ or_none (list_any (λ f. south_any cmp matching f i) g.faces)) in
        subst (IsUpstream cmp matching nobody) (sym (call_runs cmp matching (NewSession first) g))
        (stands_alike cmp matching nobody (is_held_south cmp matching g) (is_held_south cmp matching h) h same_
        (record {
          rises = lists.lists.faces_rise;
          rows = lists.lists.rows;
          below = each_append (LocalsBelow cmp matching) g.faces (new_ ∷ []) up.below (tt, tt);
          locals = each_append (λ f. nobody f.number ≡ false → is_sent_all cmp matching g.mode f ≡ true → (i : InterestRow K) → local_any cmp matching f i ≡ is_held_south cmp matching g i) g.faces (new_ ∷ []) up.locals ((λ _ sent. never (sent_all_north cmp matching g.mode new_ sent) refl), tt);
          routed = each_append (λ f. is_routed g f ≡ true → (f.mode ≡ Router) × (f.held ≡ [])) g.faces (new_ ∷ []) up.routed ((λ routed. never routed refl), tt);
        }))

    pub transport_stays : (zid : Zid) (whatami : WhatAmI) (region : Region) (bound : Bound) (first : ℕ) (g : Rows K) → 1 ≤ first → (hat_of g.mode region).fits region whatami bound ≡ true → RowsAreInOrder cmp matching g → Stays cmp matching (NewTransport zid whatami region bound first) g
    unfolding parts_of ran heard_all
    transport_stays zid whatami region bound first g real fit ordered up =
        subst (IsUpstream cmp matching nobody) (sym (call_runs cmp matching (NewTransport zid whatami region bound first) g))
        (ran_quiet cmp matching nobody rest g2
        ((λ h. each_ruled_one (Quiet cmp matching) n (λ f. tokens_from f.next (opening_tokens cmp matching h f)) h (λ f. tokens_say cmp matching (Quiet cmp matching) (λ k x. tt) f.next (opening_tokens cmp matching h f))), ((λ h. each_ruled_one (Quiet cmp matching) n (opening_final cmp matching) h (opening_final_says cmp matching (Quiet cmp matching) (λ k. tt))), tt))
        (stands_alike cmp matching nobody T (is_held_south cmp matching g2) g2 (λ i. sym (held_heard cmp matching ss one i ∙ sym (same_ i))) sent))
      where
        n : ℕ
        n = g.made + 1

        T : InterestRow K → Bool
        T = is_held_south cmp matching g

        one : Rows K
        one = opened zid whatami region bound first g

        new_ : Face K
        new_ = face_opened zid whatami region bound first g

        rule : Face K → List (Message K)
        rule f = interests_from f.next (opening_interests cmp matching one f)

        ss : Sends K
        ss = to_face n rule one

        g2 : Rows K
        g2 = rows_heard cmp ss one

        rest : List (Part K)
        rest = Say (λ h. to_face n (λ f. tokens_from f.next (opening_tokens cmp matching h f)) h) ∷ Say (to_face n (opening_final cmp matching)) ∷ []

        lists : RowsAreInOrder cmp matching one
        lists = transport_in_order cmp matching total zid whatami region bound first g real ordered

        same_ : (i : InterestRow K) → T i ≡ is_held_south cmp matching one i
        same_ i = sym (held_with_new new_ g (g.made + 1) refl i)

        Before : (ℕ → Bool) → Face K → Type 0
        Before but f = but f.number ≡ false → is_sent_all cmp matching g.mode f ≡ true → (i : InterestRow K) → local_any cmp matching f i ≡ T i

        opened_stands : Stands cmp matching (only n) T one
        opened_stands = record {
          rises = lists.lists.faces_rise;
          rows = lists.lists.rows;
          below = each_append (LocalsBelow cmp matching) g.faces (new_ ∷ []) up.below (tt, tt);
          locals = each_append (Before (only n)) g.faces (new_ ∷ []) (each_weaker (Before nobody) (Before (only n)) (λ f own _ sent i. own refl sent i) g.faces up.locals) ((λ counts. never (eq-eqb n n refl) counts), tt);
          routed = each_append (λ f. is_routed g f ≡ true → (f.mode ≡ Router) × (f.held ≡ [])) g.faces (new_ ∷ []) up.routed ((λ routed. (fits_router g.mode region whatami bound fit routed, refl)), tt);
        }

        After : Face K → Type 0
        After f = nobody f.number ≡ false → is_sent_all cmp matching one.mode f ≡ true → (i : InterestRow K) → local_any cmp matching (heard_all cmp one.moment (messages_for f.number ss) f) i ≡ T i

        sent : Stands cmp matching nobody T g2
        sent =
            stands_heard cmp matching (only n) nobody T T ss one opened_stands
            (each_both (λ f. messages_for f.number ss ≡ (if n == f.number then rule f else [])) (λ f. ((n == f.number) ≡ true → f ≡ new_) × ((n == f.number) ≡ false → Before nobody f)) After
            (λ f says which counts sent_ i. ap (λ ms. local_any cmp matching (heard_all cmp one.moment ms f) i) says ∙ by_test (n == f.number) (λ here. own f here (which.0 here) sent_ i) (λ other. beside f other (which.1 other) sent_ i))
            one.faces (speaks_one n rule one lists.lists.faces_rise)
            (each_append (λ f. ((n == f.number) ≡ true → f ≡ new_) × ((n == f.number) ≡ false → Before nobody f)) g.faces (new_ ∷ [])
            (each_both (λ f. f.number ≤ g.made) (Before nobody) (λ f. ((n == f.number) ≡ true → f ≡ new_) × ((n == f.number) ≡ false → Before nobody f)) (λ f low own_. ((λ here. let is : n ≡ f.number = eqb-true n f.number here in absurd (omega arith)), (λ _. own_))) g.faces ordered.lists.faces_made up.locals)
            (((λ _. refl), (λ other. never (eq-eqb n n refl) other)), tt)))
          where
            own : (f : Face K) → (n == f.number) ≡ true → f ≡ new_ → is_sent_all cmp matching g.mode f ≡ true → (i : InterestRow K) → local_any cmp matching (heard_all cmp one.moment (if n == f.number then rule f else []) f) i ≡ T i
            own f here is sent_ i =
                let own_sent : is_sent_all cmp matching g.mode new_ ≡ true = ap (is_sent_all cmp matching g.mode) (sym is) ∙ sent_ in
                let up_ = sent_leads_up cmp matching g.mode new_ own_sent in
                let rule_is : rule new_ ≡ interests_from first (held_south cmp matching one) = ap (λ b. interests_from first (if b then held_south cmp matching one else [])) up_ in
                ap (λ b. local_any cmp matching (heard_all cmp one.moment (if b then rule f else []) f) i) here
                ∙ ap (λ (k : Face K). local_any cmp matching (heard_all cmp one.moment (rule k) k) i) is
                ∙ ap (λ ms. local_any cmp matching (heard_all cmp one.moment ms new_) i) rule_is
                ∙ sent_from one.moment first (held_south cmp matching one) new_ i refl tt (south_future one)
                ∙ or_none (list_any (λ x. asks_same cmp matching i x) (held_south cmp matching one))
                ∙ south_any_is total one i ∙ sym (same_ i)

            beside : (f : Face K) → (n == f.number) ≡ false → Before nobody f → is_sent_all cmp matching g.mode f ≡ true → (i : InterestRow K) → local_any cmp matching (heard_all cmp one.moment (if n == f.number then rule f else []) f) i ≡ T i
            beside f other own_ sent_ i = ap (λ b. local_any cmp matching (heard_all cmp one.moment (if b then rule f else []) f) i) other ∙ own_ refl sent_ i
