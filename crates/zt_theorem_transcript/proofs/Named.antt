-- What interests are printed, held and waiting carry named options alone, where the lines do.
use Rattle.std.proofs.Common.{◌≡◌, ℕ, ◌+◌, ◌<◌, Bool, true, not, ◌==◌, ◌||◌, if◌then◌else◌, List, [], ◌∷◌, ◌++◌, map, Option, Some, None, refl, sym, subst, arith, lt-ltb}
use Rattle.std.proofs.lemmas.Nat.{and_le_l}
use Rattle.std.specs.List.{flat_map}
use Rattle.std.specs.declared.cmp.Ordering.{Ordering}
use Rattle.std.specs.declared.cmp.Ordering.TheVariants.{Less, Equal, Greater}
use Rattle.std.specs.FinMap.Entries.{by_order}
use Rattle.zt_region.specs.declared.region.Bound.{Bound}
use Rattle.zt_region.specs.declared.region.Region.{Region}
use Rattle.zt_region.specs.declared.region.WhatAmI.{WhatAmI}
use Rattle.zt_region.specs.declared.region.WhatAmI.TheVariants.{Peer}
use Rattle.zt_region.specs.declared.region.Zid.{Zid}
use Rattle.zt_region.specs.Region.{is_north, whatami_eq}
use Rattle.zt_protocol.specs.Interest.{has_tokens, is_future, without_aggregate}
use Rattle.zt_protocol.specs.Plain.{PlainCall, NewSession, NewTransport, DeclareToken, UndeclareToken, Interest, InterestFinal, DeclareFinal, CloseFace, Expire, SetTrees, SetEntities}
use Rattle.zt_protocol.specs.declared.interests.InterestMode.{InterestMode}
use Rattle.zt_protocol.specs.declared.interests.InterestMode.TheVariants.{CurrentFuture}
use Rattle.zt_protocol.specs.declared.interests.InterestOptions.{InterestOptions}
use Rattle.zt_protocol.specs.declared.messages.Message.{Message}
use Rattle.zt_protocol.specs.declared.messages.Message.TheVariants as message
use Rattle.zt_model.specs.Entities.{entities_for, numbered_by, with_numbers}
use Rattle.zt_model.specs.Hearing.{heard_all, rows_heard}
use Rattle.zt_model.specs.Lists.{in_key_order, with_key}
use Rattle.zt_model.specs.Refusals.{would_send}
use Rattle.zt_model.specs.Routing.{asked_as, ended, face_opened, held_south, initial_finalised, interest_order, interests_from, is_target, leads_up, opened, opening_final, opening_interests, opening_tokens, route_to, tokens_from, unheld}
use Rattle.zt_model.specs.Rows.{ById, Face, InterestRow, Rows}
use Rattle.zt_model.specs.Says.{altered, answered_expressions, answers_of, asking, final_of, find_face, is_routed, parts_of, registered, registers, row_of, said, said_by, to_face, unregistered, with_face}
use Rattle.zt_model.specs.Shown.{interest_kept, rows_shown, with_declared, with_interest, with_source, without_declared, without_expired, without_source}
use Rattle.zt_model.specs.Transcript.{Each, has_named_options}
use Rattle.zt_model.specs.Trees.{source_of, with_routed, without_routed}
use Rattle.zt_model.specs.Wants.{kept_options}
use Rattle.zt_laws.specs.Order.{ListsAreInOrder}
use Rattle.zt_laws.proofs.Hearing.{each_ruled, each_ruled_one, heard_all-held}
use Rattle.zt_laws.proofs.Lists.{each_append, each_filter, each_map, each_weaker, of_cond}
use Rattle.zt_laws.proofs.ShownRows.{call_is_shown}
use Rattle.zt_theorem_soundness.proofs.CallsRun.{each_entity}
use Rattle.zt_theorem_soundness.proofs.Going.{each_put_if}
use Rattle.zt_theorem_visibility.proofs.Saying.{answers_say, closing_says, declaration_says, declare_final_says, expiry_says, final_says, interest_final_says, opening_final_says, said_each, table_says, tokens_say, undeclaration_says}
use Rattle.zt_theorem_transcript.specs.Named.{CallHasNamedOptions, HoldNamedOptions}

kept_named : (mode : WhatAmI) (options : InterestOptions) → options.0 < 32 → (kept_options mode options).0 < 32
kept_named mode options low =
    of_cond (λ (o : InterestOptions). o.0 < 32) (whatami_eq mode Peer || has_tokens options) (without_aggregate options) options
    (λ _. let less = and_le_l options.0 239 in omega (arith, less, low)) (λ _. low)

-- what holds of each row holds of the rows in order
each_with_key : {R : Type 0} (order : R → R → Ordering) (P : R → Type 0) (e : R) (ks : List R) → P e → Each P ks → Each P (with_key order e ks)
each_with_key order P e [] own all = (own, tt)
each_with_key order P e (k ∷ ks) own all =
    elim (order e k) as (λ o. Each P (by_order o (e ∷ k ∷ ks) (k ∷ ks) (k ∷ with_key order e ks))) [
      | Less ↦ (own, all)
      | Equal ↦ all
      | Greater ↦ (all.0, each_with_key order P e ks own all.1)
    ]

each_in_order : {R : Type 0} (order : R → R → Ordering) (P : R → Type 0) (es : List R) → Each P es → Each P (in_key_order order es)
each_in_order order P [] all = tt
each_in_order order P (e ∷ es) all = each_with_key order P e (in_key_order order es) all.0 (each_in_order order P es all.1)

each_flat : {A B : Type 0} (P : A → Type 0) (Q : B → Type 0) (f : A → List B) (xs : List A) → ((x : A) → P x → Each Q (f x)) → Each P xs → Each Q (flat_map f xs)
each_flat P Q f [] one all = tt
each_flat P Q f (x ∷ xs) one all = each_append Q (f x) (flat_map f xs) (one x all.0) (each_flat P Q f xs one all.1)

module _ {K : Type 0} where
  abbrev pub HeldNamed : Face K → Type 0
  HeldNamed f = Each (λ row. row.1.options.0 < 32) f.held

  named_face : (n : ℕ) (change : Face K → Face K) (g : Rows K) → ((f : Face K) → HeldNamed f → HeldNamed (change f)) → HoldNamedOptions g → HoldNamedOptions (with_face n change g)
  unfolding with_face
  named_face n change g one all =
      each_map HeldNamed (λ f. if n == f.number then change f else f) g.faces
      (each_weaker HeldNamed (λ f. HeldNamed (if n == f.number then change f else f)) (λ f own. of_cond HeldNamed (n == f.number) (change f) f (λ _. one f own) (λ _. own)) g.faces all)

module _ {K : Type 0} (cmp : K → K → Ordering) (matching : K → K → Bool) where
  -- ---- what faces hold

  pub named_heard : (now : ℕ) (of_face : Face K → List (Message K)) (fs : List (Face K)) → Each HeldNamed fs → Each HeldNamed (map (λ f. heard_all cmp now (of_face f) f) fs)
  named_heard now of_face fs all =
      each_map HeldNamed (λ f. heard_all cmp now (of_face f) f) fs
      (each_weaker HeldNamed (λ f. HeldNamed (heard_all cmp now (of_face f) f)) (λ f own. subst (λ (rows : ById (InterestRow K)). Each (λ row. row.1.options.0 < 32) rows) (sym (heard_all-held cmp now (of_face f) f)) own) fs all)

  -- what a call changes, as a transcript shows it
  pub named_shown : (ps : List (ℕ × ℕ)) (c : PlainCall K) (g : Rows K) → CallHasNamedOptions c → HoldNamedOptions g → HoldNamedOptions (rows_shown cmp ps c g)
  unfolding rows_shown with_routed without_routed source_of
  named_shown ps (NewSession first) g named all = each_append HeldNamed g.faces _ all (tt, tt)
  named_shown ps (NewTransport zid whatami region bound first) g named all = each_append HeldNamed g.faces _ all (tt, tt)
  named_shown ps (DeclareToken n id e node interest) g named all = cases (find_face n g)
    where
      by_source : (f : Face K) (o : Option Zid) → HoldNamedOptions (with_source cmp f o e g)
      by_source f None = all
      by_source f (Some source) = all

      cases : (o : Option (Face K)) → HoldNamedOptions (elim o [ None ↦ g | Some f ↦ with_declared cmp n id e node interest g f ])
      cases None = all
      cases (Some f) =
          of_cond HoldNamedOptions (is_routed g f) (with_source cmp f (source_of g f node) e g) (if registers f interest then with_face n (registered id e) g else g) (λ _. by_source f (source_of g f node))
          (λ _. of_cond HoldNamedOptions (registers f interest) (with_face n (registered id e) g) g (λ _. named_face n (registered id e) g (λ h own. own) all) (λ _. all))
  named_shown ps (UndeclareToken n id given node) g named all = cases (find_face n g)
    where
      by_source : (f : Face K) (o : Option Zid) (k : Option K) → HoldNamedOptions (without_source cmp f o k g)
      by_source f None k = all
      by_source f (Some source) None = all
      by_source f (Some source) (Some k) = all

      cases : (o : Option (Face K)) → HoldNamedOptions (elim o [ None ↦ g | Some f ↦ without_declared cmp n id given node g f ])
      cases None = all
      cases (Some f) =
          of_cond HoldNamedOptions (is_routed g f) (without_source cmp f (source_of g f node) given g) (with_face n (unregistered id) g) (λ _. by_source f (source_of g f node) given) (λ _. named_face n (unregistered id) g (λ h own. own) all)
  named_shown ps (Interest n id mode options e) g named all = cases (find_face n g)
    where
      cases : (o : Option (Face K)) → HoldNamedOptions (elim o [ None ↦ g | Some f ↦ with_interest cmp n id ps (interest_kept f mode options e) g ])
      cases None = all
      cases (Some f) =
          let interest = interest_kept f mode options e in
          named_face n (asked_as ps id interest) (with_numbers cmp (numbered_by cmp interest) g)
          (λ h own. each_put_if (λ (row : ℕ × InterestRow K). row.1.options.0 < 32) (is_future interest.mode) id interest h.held (λ _. kept_named f.mode options named) own) all
  named_shown ps (InterestFinal n id) g named all = named_face n (unheld id) g (λ h own. each_filter (λ (row : ℕ × InterestRow K). row.1.options.0 < 32) (λ row. not (id == row.0)) h.held own) all
  named_shown ps (DeclareFinal n id) g named all = named_face n (ended id) (with_face n (initial_finalised id) g) (λ h own. own) (named_face n (initial_finalised id) g (λ h own. own) all)
  named_shown ps (CloseFace n) g named all = each_filter HeldNamed (λ f. not (n == f.number)) g.faces all
  named_shown ps (Expire now) g named all = each_map HeldNamed (without_expired now g.timeout) g.faces all
  named_shown ps (SetTrees region t) g named all = all
  named_shown ps (SetEntities n subscribers queryables) g named all = named_face n (λ f. record f { subscribers = subscribers; queryables = queryables }) _ (λ h own. own) all

  -- and as the machine has it
  pub named_altered : (c : PlainCall K) (g : Rows K) → ListsAreInOrder cmp matching g → CallHasNamedOptions c → HoldNamedOptions g → HoldNamedOptions (altered cmp matching c g)
  named_altered c g lists named all =
      subst HoldNamedOptions (sym (call_is_shown cmp matching c g lists)) (named_shown (would_send cmp matching c g) c g named all)

  -- ---- what calls say

  abbrev Named : Message K → Type 0
  Named m = has_named_options m ≡ true

  route_named : (h : Rows K) (asker : Region) (interest : InterestRow K) → interest.options.0 < 32 → (f : Face K) → Each Named (route_to h asker interest f)
  unfolding route_to
  route_named h asker interest low f =
      of_cond (Each Named) (is_target h asker interest.mode f) (message.Interest f.next interest.mode interest.options interest.expr ∷ []) [] (λ _. (lt-ltb interest.options.0 32 low, tt)) (λ _. tt)

  interest_named : (n id : ℕ) (mode : InterestMode) (options : InterestOptions) (e : Option K) (g : Rows K) → options.0 < 32 → Each (λ s. Named s.1) (said cmp matching (Interest n id mode options e) g)
  unfolding parts_of said_by
  interest_named n id mode options e g low = cases (find_face n g)
    where
      cases : (o : Option (Face K)) → Each (λ s. Named s.1) (said_by cmp matching (elim o [ None ↦ [] | Some f ↦ asking cmp matching n id (row_of cmp matching f mode options e) f.region g ]) g)
      cases None = tt
      cases (Some f) =
          let interest = row_of cmp matching f mode options e in
          said_each cmp matching Named (asking cmp matching n id interest f.region g) g (
            tt,
            (
              (λ h. each_ruled Named (route_to h f.region interest) h.faces (route_named h f.region interest (kept_named f.mode options low))),
              (
                (λ h. each_ruled_one Named n (entities_for cmp matching h id interest) h (each_entity cmp Named (λ number k i. refl) (λ number k info i. refl) matching h id interest)),
                (tt, ((λ h. each_ruled_one Named n (answers_of cmp matching h id interest) h (λ k. answers_say cmp matching Named (λ i x j. refl) k.next k.told interest.mode id (answered_expressions cmp matching h interest k))), ((λ h. each_ruled_one Named n (final_of id) h (final_says cmp matching Named (λ i. refl) id)), tt))),
              ),
            ),
          )

  interests_named : (next : ℕ) (is : List (InterestRow K)) → Each (λ i. i.options.0 < 32) is → Each Named (interests_from next is)
  unfolding interests_from
  interests_named next [] all = tt
  interests_named next (i ∷ is) all = (lt-ltb i.options.0 32 all.0, interests_named (next + 1) is all.1)

  south_named : (g : Rows K) → HoldNamedOptions g → Each (λ i. i.options.0 < 32) (held_south cmp matching g)
  unfolding held_south
  south_named g all =
      each_in_order (interest_order cmp matching) (λ (i : InterestRow K). i.options.0 < 32) (flat_map holds g.faces)
      (each_flat HeldNamed (λ (i : InterestRow K). i.options.0 < 32) holds g.faces
      (λ f own.
      of_cond (Each (λ (i : InterestRow K). i.options.0 < 32)) (is_north f.region) [] (map (λ row. record row.1 { mode = CurrentFuture }) f.held) (λ _. tt)
      (λ _. each_map (λ (i : InterestRow K). i.options.0 < 32) (λ row. record row.1 { mode = CurrentFuture }) f.held own)) all)
    where
      holds : Face K → List (InterestRow K)
      holds f = if is_north f.region then [] else map (λ row. record row.1 { mode = CurrentFuture }) f.held

  opening_named : (zid : Zid) (whatami : WhatAmI) (region : Region) (bound : Bound) (first : ℕ) (g : Rows K) → HoldNamedOptions g → Each (λ s. Named s.1) (said cmp matching (NewTransport zid whatami region bound first) g)
  unfolding parts_of said_by
  opening_named zid whatami region bound first g all =
      let n = g.made + 1 in
      let one = opened zid whatami region bound first g in
      let asks = λ (f : Face K). interests_from f.next (opening_interests cmp matching one f) in
      let two = rows_heard cmp (to_face n asks one) one in
      let tells = λ (f : Face K). tokens_from f.next (opening_tokens cmp matching two f) in
      let three = rows_heard cmp (to_face n tells two) two in
      let south : Each (λ i. i.options.0 < 32) (held_south cmp matching one) = south_named one (each_append HeldNamed g.faces (face_opened zid whatami region bound first g ∷ []) all (tt, tt)) in
      each_append (λ s. Named s.1) (to_face n asks one) (to_face n tells two ++ (to_face n (opening_final cmp matching) three ++ []))
      (each_ruled_one Named n asks one
      (λ f.
      interests_named f.next (opening_interests cmp matching one f)
      (of_cond (Each (λ (i : InterestRow K). i.options.0 < 32)) (leads_up one.mode f) (held_south cmp matching one) [] (λ _. south) (λ _. tt))))
      (each_append (λ s. Named s.1) (to_face n tells two) (to_face n (opening_final cmp matching) three ++ []) (each_ruled_one Named n tells two (λ f. tokens_say cmp matching Named (λ i x. refl) f.next (opening_tokens cmp matching two f)))
      (each_append (λ s. Named s.1) (to_face n (opening_final cmp matching) three) [] (each_ruled_one Named n (opening_final cmp matching) three (opening_final_says cmp matching Named (λ i. refl))) tt))

  -- A call's interests carry named options alone.
  pub said_named : (c : PlainCall K) (g : Rows K) → CallHasNamedOptions c → HoldNamedOptions g → Each (λ s. has_named_options s.1 ≡ true) (said cmp matching c g)
  unfolding parts_of said_by
  said_named (NewSession first) g named all = tt
  said_named (NewTransport zid whatami region bound first) g named all = opening_named zid whatami region bound first g all
  said_named (DeclareToken n id e node interest) g named all = declaration_says cmp matching Named (λ i x. refl) (λ x j. refl) (λ i x j. refl) n id node e interest g
  said_named (UndeclareToken n id given node) g named all = undeclaration_says cmp matching Named (λ i. refl) (λ x j. refl) n id node given g
  said_named (Interest n id mode options e) g named all = interest_named n id mode options e g named
  said_named (InterestFinal n id) g named all = interest_final_says cmp matching Named (λ i. refl) (λ i. refl) (λ i. refl) n id g
  said_named (DeclareFinal n id) g named all = declare_final_says cmp matching Named (λ i. refl) n id g
  said_named (CloseFace n) g named all = closing_says cmp matching Named (λ i. refl) (λ x j. refl) (λ i. refl) (λ i. refl) n g
  said_named (Expire now) g named all = expiry_says cmp matching Named (λ i. refl) now g
  said_named (SetTrees region t) g named all = table_says cmp matching Named (λ i. refl) (λ x j. refl) (λ x j. refl) region t g
  said_named (SetEntities n subscribers queryables) g named all = tt
