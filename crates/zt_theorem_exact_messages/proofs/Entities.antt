-- What each call says of subscribers and queryables is what is due.
use Rattle.std.proofs.Common.{◌≡◌, ℕ, Bool, true, false, not, ◌==◌, ◌&&◌, if◌then◌else◌, List, [], ◌∷◌, ◌++◌, map, filter, Option, Some, None, refl, sym, ap, ◌∙◌, append-nil, eqb-true, eq-eqb}
use Rattle.std.specs.List.{flat_map}
use Rattle.std.specs.Option.{option_to_list}
use Rattle.std.specs.declared.cmp.Ordering.{Ordering}
use Rattle.zt_protocol.specs.Interest.{is_current, is_future, has_aggregate, has_queryables, has_subscribers}
use Rattle.zt_protocol.specs.Plain.{PlainCall, NewSession, NewTransport, DeclareToken, UndeclareToken, Interest, InterestFinal, DeclareFinal, CloseFace, Expire, SetTrees, SetEntities}
use Rattle.zt_protocol.specs.declared.interests.InterestMode.{InterestMode}
use Rattle.zt_protocol.specs.declared.interests.InterestOptions.{InterestOptions}
use Rattle.zt_protocol.specs.declared.messages.Message.{Message}
use Rattle.zt_protocol.specs.declared.messages.Message.TheVariants as message
use Rattle.zt_protocol.specs.declared.messages.QueryableInfo.{QueryableInfo}
use Rattle.zt_model.specs.Entities.{aggregate_of, all_merged, entities_for, info_of, matching_queryables, matching_subscribers, numbered_by, queryable_of, queryables_for, subscriber_of, subscribers_for, with_numbers}
use Rattle.zt_model.specs.Fabric.{CallAt}
use Rattle.zt_model.specs.Hearing.{heard, heard_all, messages_for, rows_heard}
use Rattle.zt_model.specs.Lists.{first_of, in_key_order}
use Rattle.zt_model.specs.Routing.{asked_as, route_to, sent_as}
use Rattle.zt_model.specs.Rows.{Face, InterestRow, Rows}
use Rattle.zt_model.specs.Says.{Sends, answered_expressions, answers_of, asking, find_face, final_of, parts_of, row_of, said, said_by, to_each, to_face, with_face}
use Rattle.zt_model.specs.Seen.{sees}
use Rattle.zt_model.specs.Transcript.{Each}
use Rattle.zt_model.specs.Visible.{shows}
use Rattle.zt_model.specs.Wants.{is_about}
use Rattle.zt_laws.specs.Shown.{without_own}
use Rattle.zt_laws.proofs.Hearing.{each_ruled, each_ruled_one, heard_all-number, heard_all-region, heard_all_leaves, messages_for-append, messages_for_other, messages_for_own}
use Rattle.zt_laws.proofs.Lists.{by_test, each_append}
use Rattle.zt_laws.proofs.PartsOrder.{each_message_for}
use Rattle.zt_laws.proofs.Seen.{sees_is}
use Rattle.zt_theorem_soundness.proofs.ById.{find_mapped}
use Rattle.zt_theorem_soundness.proofs.CallsRun.{each_entity}
use Rattle.zt_theorem_visibility.proofs.Saying.{answers_say, closing_says, declaration_says, declare_final_says, expiry_says, final_says, interest_final_says, opening_says, route_says, table_says, undeclaration_says}
use Rattle.zt_theorem_exact_messages.specs.Entities.{any_of, entities_asked, entities_due, entities_in, faces_seen, for_aggregate, queryables_due, subscribers_due}

any_is_first : {A : Type 0} (xs : List A) → any_of xs ≡ first_of xs
any_is_first [] = refl
any_is_first (x ∷ xs) = refl

module _ {K : Type 0} where
  -- ---- entities among messages

  -- the message declares no entity
  abbrev pub DeclaresNone : Message K → Type 0
  DeclaresNone (message.DeclareSubscriber number e interest) = ⊥
  DeclaresNone (message.DeclareQueryable number e info interest) = ⊥
  DeclaresNone m = Unit {0}

  -- and it declares one
  abbrev DeclaresOne : Message K → Type 0
  DeclaresOne (message.DeclareSubscriber number e interest) = Unit {0}
  DeclaresOne (message.DeclareQueryable number e info interest) = Unit {0}
  DeclaresOne m = ⊥

  pub no_entities : (ms : List (Message K)) → Each DeclaresNone ms → entities_in ms ≡ []
  no_entities [] none_ = refl
  no_entities (message.DeclareToken id e interest node ∷ ms) none_ = no_entities ms none_.1
  no_entities (message.UndeclareToken id e node ∷ ms) none_ = no_entities ms none_.1
  no_entities (message.DeclareFinal interest ∷ ms) none_ = no_entities ms none_.1
  no_entities (message.Interest id mode options e ∷ ms) none_ = no_entities ms none_.1
  no_entities (message.InterestFinal id ∷ ms) none_ = no_entities ms none_.1
  no_entities (message.DeclareSubscriber number e interest ∷ ms) none_ = absurd none_.0
  no_entities (message.DeclareQueryable number e info interest ∷ ms) none_ = absurd none_.0

  all_entities : (ms : List (Message K)) → Each DeclaresOne ms → entities_in ms ≡ ms
  all_entities [] all = refl
  all_entities (message.DeclareToken id e interest node ∷ ms) all = absurd all.0
  all_entities (message.UndeclareToken id e node ∷ ms) all = absurd all.0
  all_entities (message.DeclareFinal interest ∷ ms) all = absurd all.0
  all_entities (message.Interest id mode options e ∷ ms) all = absurd all.0
  all_entities (message.InterestFinal id ∷ ms) all = absurd all.0
  all_entities (message.DeclareSubscriber number e interest ∷ ms) all = ap (λ (xs : List (Message K)). message.DeclareSubscriber number e interest ∷ xs) (all_entities ms all.1)
  all_entities (message.DeclareQueryable number e info interest ∷ ms) all = ap (λ (xs : List (Message K)). message.DeclareQueryable number e info interest ∷ xs) (all_entities ms all.1)

  entities-append : (ms ns : List (Message K)) → entities_in (ms ++ ns) ≡ entities_in ms ++ entities_in ns
  entities-append [] ns = refl
  entities-append (message.DeclareToken id e interest node ∷ ms) ns = entities-append ms ns
  entities-append (message.UndeclareToken id e node ∷ ms) ns = entities-append ms ns
  entities-append (message.DeclareFinal interest ∷ ms) ns = entities-append ms ns
  entities-append (message.Interest id mode options e ∷ ms) ns = entities-append ms ns
  entities-append (message.InterestFinal id ∷ ms) ns = entities-append ms ns
  entities-append (message.DeclareSubscriber number e interest ∷ ms) ns = ap (λ (xs : List (Message K)). message.DeclareSubscriber number e interest ∷ xs) (entities-append ms ns)
  entities-append (message.DeclareQueryable number e info interest ∷ ms) ns = ap (λ (xs : List (Message K)). message.DeclareQueryable number e info interest ∷ xs) (entities-append ms ns)

  -- ---- what faces have together

  -- lists of faces that are chosen, where each is changed
  gathered : {A : Type 0} (part : Face K → List A) (p q : Face K → Bool) (change : Face K → Face K) (fs : List (Face K)) → ((f : Face K) → part (change f) ≡ part f) → ((f : Face K) → p (change f) ≡ q f)
      → flat_map part (filter p (map change fs)) ≡ flat_map part (filter q fs)
  gathered part p q change [] parts tests = refl
  gathered part p q change (f ∷ fs) parts tests =
      let test_ = tests f in
      let rest = gathered part p q change fs parts tests in
      by_test (q f)
      (λ here. let there : p (change f) ≡ true = test_ ∙ here in rw (here, there) (ap (λ xs. xs ++ flat_map part (filter p (map change fs))) (parts f) ∙ ap (λ xs. part f ++ xs) rest))
      (λ here. let there : p (change f) ≡ false = test_ ∙ here in rw (here, there) rest)

module _ {K : Type 0} (cmp : K → K → Ordering) (matching : K → K → Bool) where
  -- ---- the words of the promise are those of the machine

  aggregate_is : {A : Type 0} (k : Option K) (o : Option A) (declare : K → A → Message K) → for_aggregate k o declare ≡ aggregate_of cmp k o declare
  aggregate_is None o declare = refl
  aggregate_is (Some k) None declare = refl
  aggregate_is (Some k) (Some x) declare = refl

  -- of rows that have the same mode and dictionary, and the same faces but for what messages change there
  subscribers_are : (g : Rows K) (change : Face K → Face K) (id : ℕ) (interest : InterestRow K) (f : Face K)
      → ((x : Face K) → (change x).subscribers ≡ x.subscribers) → ((x : Face K) → (change x).number ≡ x.number) → ((x : Face K) → (change x).region ≡ x.region)
      → subscribers_for cmp matching (record g { faces = map change g.faces }) id interest (change f) ≡ subscribers_due cmp matching (without_own g) id interest f
  unfolding subscribers_for subscribers_due
  subscribers_are g change id interest f subscribers_ number_ region_ =
      let h : Rows K = record g { faces = map change g.faces } in
      let found : matching_subscribers cmp matching h interest (change f) ≡ filter (is_about matching interest.expr) (flat_map (λ x. x.subscribers) (faces_seen g f)) =
      ap (filter (is_about matching interest.expr))
      (gathered (λ x. x.subscribers) (λ x. not (x.number == (change f).number) && shows g.mode (change f).region x.region) (λ x. not (x.number == f.number) && sees f.region x.region) change g.faces subscribers_
      (λ x.
      ap (λ n. not (n == (change f).number) && shows g.mode (change f).region (change x).region) (number_ x)
      ∙ ap (λ n. not (x.number == n) && shows g.mode (change f).region (change x).region) (number_ f)
      ∙ ap (λ r. not (x.number == f.number) && shows g.mode r (change x).region) (region_ f)
      ∙ ap (λ r. not (x.number == f.number) && shows g.mode f.region r) (region_ x)
      ∙ ap (λ b. not (x.number == f.number) && b) (sym (sees_is g.mode f.region x.region)))) in
      ap (λ (es : List K). if has_aggregate interest.options then aggregate_of cmp interest.expr (first_of es) (λ k e. subscriber_of cmp h id k) else map (subscriber_of cmp h id) (in_key_order cmp es)) found
      ∙ ap (λ (o : List (Message K)). if has_aggregate interest.options then o else map (subscriber_of cmp h id) (in_key_order cmp seen))
      (ap (λ (o : Option K). aggregate_of cmp interest.expr o (λ k e. subscriber_of cmp h id k)) (sym (any_is_first seen)) ∙ sym (aggregate_is interest.expr (any_of seen) (λ k e. subscriber_of cmp h id k)))
    where
      seen : List K
      seen = filter (is_about matching interest.expr) (flat_map (λ x. x.subscribers) (faces_seen g f))

  queryables_are : (g : Rows K) (change : Face K → Face K) (id : ℕ) (interest : InterestRow K) (f : Face K)
      → ((x : Face K) → (change x).queryables ≡ x.queryables) → ((x : Face K) → (change x).number ≡ x.number) → ((x : Face K) → (change x).region ≡ x.region)
      → queryables_for cmp matching (record g { faces = map change g.faces }) id interest (change f) ≡ queryables_due cmp matching (without_own g) id interest f
  unfolding queryables_for queryables_due
  queryables_are g change id interest f queryables_ number_ region_ =
      let h : Rows K = record g { faces = map change g.faces } in
      let found : matching_queryables cmp matching h interest (change f) ≡ filter (λ q. is_about matching interest.expr q.0) (flat_map (λ x. x.queryables) (faces_seen g f)) =
      ap (filter (λ q. is_about matching interest.expr q.0))
      (gathered (λ x. x.queryables) (λ x. not (x.number == (change f).number) && shows g.mode (change f).region x.region) (λ x. not (x.number == f.number) && sees f.region x.region) change g.faces queryables_
      (λ x.
      ap (λ n. not (n == (change f).number) && shows g.mode (change f).region (change x).region) (number_ x)
      ∙ ap (λ n. not (x.number == n) && shows g.mode (change f).region (change x).region) (number_ f)
      ∙ ap (λ r. not (x.number == f.number) && shows g.mode r (change x).region) (region_ f)
      ∙ ap (λ r. not (x.number == f.number) && shows g.mode f.region r) (region_ x)
      ∙ ap (λ b. not (x.number == f.number) && b) (sym (sees_is g.mode f.region x.region)))) in
      ap (λ (qs : List (K × QueryableInfo)). if has_aggregate interest.options then aggregate_of cmp interest.expr (all_merged (map (λ q. q.1) qs)) (queryable_of cmp h id) else flat_map (λ e. map (queryable_of cmp h id e) (option_to_list (info_of cmp e qs))) (in_key_order cmp (map (λ q. q.0) qs))) found
      ∙ ap (λ (o : List (Message K)). if has_aggregate interest.options then o else flat_map (λ e. map (queryable_of cmp h id e) (option_to_list (info_of cmp e seen))) (in_key_order cmp (map (λ q. q.0) seen)))
      (sym (aggregate_is interest.expr (all_merged (map (λ q. q.1) seen)) (queryable_of cmp h id)))
    where
      seen : List (K × QueryableInfo)
      seen = filter (λ q. is_about matching interest.expr q.0) (flat_map (λ x. x.queryables) (faces_seen g f))

  entities_are : (g : Rows K) (change : Face K → Face K) (id : ℕ) (interest : InterestRow K) (f : Face K)
      → ((x : Face K) → (change x).subscribers ≡ x.subscribers) → ((x : Face K) → (change x).queryables ≡ x.queryables) → ((x : Face K) → (change x).number ≡ x.number) → ((x : Face K) → (change x).region ≡ x.region)
      → entities_for cmp matching (record g { faces = map change g.faces }) id interest (change f) ≡ entities_asked cmp matching (without_own g) id interest f
  unfolding entities_for entities_asked
  entities_are g change id interest f subscribers_ queryables_ number_ region_ =
      let h : Rows K = record g { faces = map change g.faces } in
      ap (λ (ms : List (Message K)). if is_current interest.mode && is_future interest.mode then (if has_subscribers interest.options then ms else []) ++ (if has_queryables interest.options then queryables_for cmp matching h id interest (change f) else []) else []) (subscribers_are g change id interest f subscribers_ number_ region_)
      ∙ ap (λ (ms : List (Message K)). if is_current interest.mode && is_future interest.mode then (if has_subscribers interest.options then subscribers_due cmp matching (without_own g) id interest f else []) ++ (if has_queryables interest.options then ms else []) else []) (queryables_are g change id interest f queryables_ number_ region_)

  -- ---- what is heard leaves entities

  heard_subscribers : (now : ℕ) (m : Message K) (f : Face K) → (heard cmp now m f).subscribers ≡ f.subscribers
  heard_subscribers now (message.DeclareToken id e interest node) f = refl
  heard_subscribers now (message.UndeclareToken id e node) f = refl
  heard_subscribers now (message.DeclareFinal interest) f = refl
  heard_subscribers now (message.Interest id mode options e) f = refl
  heard_subscribers now (message.InterestFinal id) f = refl
  heard_subscribers now (message.DeclareSubscriber id e interest) f = refl
  heard_subscribers now (message.DeclareQueryable id e info interest) f = refl

  heard_queryables : (now : ℕ) (m : Message K) (f : Face K) → (heard cmp now m f).queryables ≡ f.queryables
  heard_queryables now (message.DeclareToken id e interest node) f = refl
  heard_queryables now (message.UndeclareToken id e node) f = refl
  heard_queryables now (message.DeclareFinal interest) f = refl
  heard_queryables now (message.Interest id mode options e) f = refl
  heard_queryables now (message.InterestFinal id) f = refl
  heard_queryables now (message.DeclareSubscriber id e interest) f = refl
  heard_queryables now (message.DeclareQueryable id e info interest) f = refl

  -- ---- calls

  none_for : (number : ℕ) (ss : Sends K) → Each (λ s. DeclaresNone s.1) ss → entities_in (messages_for number ss) ≡ []
  none_for number ss none_ = no_entities (messages_for number ss) (each_message_for cmp DeclaresNone number ss none_)

  for_both : (number : ℕ) (ss ts : Sends K) → entities_in (messages_for number (ss ++ ts)) ≡ entities_in (messages_for number ss) ++ entities_in (messages_for number ts)
  for_both number ss ts = ap entities_in (messages_for-append number ss ts) ∙ entities-append (messages_for number ss) (messages_for number ts)

  -- of two gateways it is this one
  due_here : (gateway : ℕ) (ms : List (Message K)) → (if not (gateway == gateway) then [] else ms) ≡ ms
  due_here gateway ms = ap (λ b. if not b then [] else ms) (eq-eqb gateway gateway refl)

  nothing_either : (b : Bool) → (let none : List (Message K) = [] in (if b then none else none) ≡ none)
  nothing_either true = refl
  nothing_either false = refl

  -- an interest is answered at its own face
  asking_declares : (number n id : ℕ) (interest : InterestRow K) (from : Face K) (g : Rows K) → find_face n g ≡ Some from
      → entities_in (messages_for number (said_by cmp matching (asking cmp matching n id interest from.region g) g)) ≡ (if number == n then entities_asked cmp matching (with_numbers cmp (numbered_by cmp interest) (without_own g)) id interest from else [])
  unfolding said_by to_face rows_heard
  asking_declares number n id interest from g found =
      for_both number ss1 (ss2 ++ (ss3 ++ (ss4 ++ [])))
      ∙ ap (λ ms. ms ++ entities_in (messages_for number (ss2 ++ (ss3 ++ (ss4 ++ []))))) (none_for number ss1 (each_ruled DeclaresNone (route_to g1 from.region interest) g1.faces (route_says cmp matching DeclaresNone (λ k m o x. tt) g1 from.region interest)))
      ∙ for_both number ss2 (ss3 ++ (ss4 ++ []))
      ∙ ap (λ ms. entities_in (messages_for number ss2) ++ ms) (none_for number (ss3 ++ (ss4 ++ [])) rest_none)
      ∙ append-nil (entities_in (messages_for number ss2))
      ∙ ap (λ ss. entities_in (messages_for number ss)) ss2_is
      ∙ own
    where
      g1 : Rows K
      g1 = with_numbers cmp (numbered_by cmp interest) g

      ss1 : Sends K
      ss1 = to_each (route_to g1 from.region interest) g1.faces

      hears : Face K → Face K
      hears f = heard_all cmp g1.moment (messages_for f.number ss1) f

      g2 : Rows K
      g2 = rows_heard cmp ss1 g1

      ss2 : Sends K
      ss2 = to_face n (entities_for cmp matching g2 id interest) g2

      g4 : Rows K
      g4 = with_face n (asked_as (sent_as g from.region interest.mode) id interest) (rows_heard cmp ss2 g2)

      ss3 : Sends K
      ss3 = to_face n (answers_of cmp matching g4 id interest) g4

      g5 : Rows K
      g5 = rows_heard cmp ss3 g4

      ss4 : Sends K
      ss4 = to_face n (final_of id) g5

      answered : List (Message K)
      answered = entities_for cmp matching g2 id interest (hears from)

      rest_none : Each (λ s. DeclaresNone s.1) (ss3 ++ (ss4 ++ []))
      rest_none =
          each_append (λ s. DeclaresNone s.1) ss3 (ss4 ++ [])
          (each_ruled_one DeclaresNone n (answers_of cmp matching g4 id interest) g4 (λ k. answers_say cmp matching DeclaresNone (λ i x j. tt) k.next k.told interest.mode id (answered_expressions cmp matching g4 interest k)))
          (each_append (λ s. DeclaresNone s.1) ss4 [] (each_ruled_one DeclaresNone n (final_of id) g5 (final_says cmp matching DeclaresNone (λ i. tt) id)) tt)

      there : find_face n g2 ≡ Some (hears from)
      there = find_mapped n hears g1.faces from (λ f. heard_all-number cmp g1.moment (messages_for f.number ss1) f) found

      ss2_is : ss2 ≡ map (λ m. (n, m)) answered
      ss2_is = ap (λ (o : Option (Face K)). elim o [ None ↦ [] | Some f ↦ map (λ m. (n, m)) (entities_for cmp matching g2 id interest f) ]) there

      due : List (Message K)
      due = entities_asked cmp matching (with_numbers cmp (numbered_by cmp interest) (without_own g)) id interest from

      answered_due : answered ≡ due
      answered_due =
          entities_are g1 hears id interest from
          (λ f. heard_all_leaves cmp (λ x. x.subscribers) heard_subscribers g1.moment (messages_for f.number ss1) f)
          (λ f. heard_all_leaves cmp (λ x. x.queryables) heard_queryables g1.moment (messages_for f.number ss1) f)
          (λ f. heard_all-number cmp g1.moment (messages_for f.number ss1) f)
          (λ f. heard_all-region cmp g1.moment (messages_for f.number ss1) f)

      own : entities_in (messages_for number (map (λ m. (n, m)) answered)) ≡ (if number == n then due else [])
      own =
          by_test (number == n)
          (λ here.
          ap (λ k. entities_in (messages_for k (map (λ m. (n, m)) answered))) (eqb-true number n here)
          ∙ ap entities_in (messages_for_own n answered)
          ∙ all_entities answered (each_entity cmp DeclaresOne (λ k x i. tt) (λ k x info i. tt) matching g2 id interest (hears from))
          ∙ answered_due
          ∙ sym (ap (λ b. if b then due else []) here))
          (λ here. ap entities_in (messages_for_other number n answered here) ∙ sym (ap (λ b. if b then due else []) here))

  interest_declares : (gateway number n id : ℕ) (mode : InterestMode) (options : InterestOptions) (e : Option K) (g : Rows K)
      → (let c : PlainCall K = Interest n id mode options e in entities_in (messages_for number (said cmp matching c g)) ≡ entities_due cmp matching gateway number (record { gateway = gateway; rows = without_own g; call = c }))
  unfolding parts_of said_by messages_for
  interest_declares gateway number n id mode options e g = cases (find_face n g) refl ∙ sym (due_here gateway (due (find_face n g)))
    where
      due : Option (Face K) → List (Message K)
      due o =
          if number == n
          then elim o [
            | None ↦ []
            | Some f ↦ entities_asked cmp matching (with_numbers cmp (numbered_by cmp (row_of cmp matching f mode options e)) (without_own g)) id (row_of cmp matching f mode options e) f
          ]
          else []

      cases : (o : Option (Face K)) → find_face n g ≡ o → entities_in (messages_for number (said_by cmp matching (elim o [ None ↦ [] | Some f ↦ asking cmp matching n id (row_of cmp matching f mode options e) f.region g ]) g)) ≡ due o
      cases None found = sym (nothing_either (number == n))
      cases (Some from) found = asking_declares number n id (row_of cmp matching from mode options e) from g found

  -- the call asks nothing
  abbrev pub AsksNothing : PlainCall K → Type 0
  AsksNothing (Interest n id mode options e) = ⊥
  AsksNothing c = Unit {0}

  -- and declares no entity
  pub nothing_declared : (c : PlainCall K) (g : Rows K) → AsksNothing c → Each (λ s. DeclaresNone s.1) (said cmp matching c g)
  unfolding parts_of said_by
  nothing_declared (NewSession first) g still = tt
  nothing_declared (NewTransport zid whatami region bound first) g still = opening_says cmp matching DeclaresNone (λ k mode options e. tt) (λ k e. tt) (λ k. tt) zid whatami region bound first g
  nothing_declared (DeclareToken n id e node interest) g still = declaration_says cmp matching DeclaresNone (λ k x. tt) (λ x k. tt) (λ k x i. tt) n id node e interest g
  nothing_declared (UndeclareToken n id given node) g still = undeclaration_says cmp matching DeclaresNone (λ k. tt) (λ e k. tt) n id node given g
  nothing_declared (Interest n id mode options e) g still = absurd still
  nothing_declared (InterestFinal n id) g still = interest_final_says cmp matching DeclaresNone (λ k. tt) (λ k. tt) (λ k. tt) n id g
  nothing_declared (DeclareFinal n id) g still = declare_final_says cmp matching DeclaresNone (λ k. tt) n id g
  nothing_declared (CloseFace n) g still = closing_says cmp matching DeclaresNone (λ k. tt) (λ e k. tt) (λ k. tt) (λ k. tt) n g
  nothing_declared (Expire now) g still = expiry_says cmp matching DeclaresNone (λ k. tt) now g
  nothing_declared (SetTrees region t) g still = table_says cmp matching DeclaresNone (λ k. tt) (λ e k. tt) (λ e k. tt) region t g
  nothing_declared (SetEntities n subscribers queryables) g still = tt

  -- nothing is due by such a call
  pub nothing_due : (j number : ℕ) (at : CallAt K) → AsksNothing at.call → entities_due cmp matching j number at ≡ []
  nothing_due j number at still = by_kind at.gateway at.rows at.call still
    where
      by_kind : (n : ℕ) (g : Rows K) (c : PlainCall K) → AsksNothing c → entities_due cmp matching j number (record { gateway = n; rows = g; call = c }) ≡ []
      by_kind n g (NewSession first) still = nothing_either (not (j == n))
      by_kind n g (NewTransport zid whatami region bound first) still = nothing_either (not (j == n))
      by_kind n g (DeclareToken k id e node interest) still = nothing_either (not (j == n))
      by_kind n g (UndeclareToken k id given node) still = nothing_either (not (j == n))
      by_kind n g (Interest k id mode options e) still = absurd still
      by_kind n g (InterestFinal k id) still = nothing_either (not (j == n))
      by_kind n g (DeclareFinal k id) still = nothing_either (not (j == n))
      by_kind n g (CloseFace k) still = nothing_either (not (j == n))
      by_kind n g (Expire now) still = nothing_either (not (j == n))
      by_kind n g (SetTrees region t) still = nothing_either (not (j == n))
      by_kind n g (SetEntities k subscribers queryables) still = nothing_either (not (j == n))

  still_declares : (gateway number : ℕ) (c : PlainCall K) (g : Rows K) → AsksNothing c → entities_in (messages_for number (said cmp matching c g)) ≡ entities_due cmp matching gateway number (record { gateway = gateway; rows = without_own g; call = c })
  still_declares gateway number c g still = none_for number (said cmp matching c g) (nothing_declared c g still) ∙ sym (nothing_due gateway number (record { gateway = gateway; rows = without_own g; call = c }) still)

  -- What a call declares to a face of its gateway is what is due there.
  pub call_declares : (gateway number : ℕ) (c : PlainCall K) (g : Rows K) → entities_in (messages_for number (said cmp matching c g)) ≡ entities_due cmp matching gateway number (record { gateway = gateway; rows = without_own g; call = c })
  call_declares gateway number (Interest n id mode options e) g = interest_declares gateway number n id mode options e g
  call_declares gateway number (NewSession first) g = still_declares gateway number (NewSession first) g tt
  call_declares gateway number (NewTransport zid whatami region bound first) g = still_declares gateway number (NewTransport zid whatami region bound first) g tt
  call_declares gateway number (DeclareToken k id e node interest) g = still_declares gateway number (DeclareToken k id e node interest) g tt
  call_declares gateway number (UndeclareToken k id given node) g = still_declares gateway number (UndeclareToken k id given node) g tt
  call_declares gateway number (InterestFinal k id) g = still_declares gateway number (InterestFinal k id) g tt
  call_declares gateway number (DeclareFinal k id) g = still_declares gateway number (DeclareFinal k id) g tt
  call_declares gateway number (CloseFace k) g = still_declares gateway number (CloseFace k) g tt
  call_declares gateway number (Expire now) g = still_declares gateway number (Expire now) g tt
  call_declares gateway number (SetTrees region t) g = still_declares gateway number (SetTrees region t) g tt
  call_declares gateway number (SetEntities k subscribers queryables) g = still_declares gateway number (SetEntities k subscribers queryables) g tt
