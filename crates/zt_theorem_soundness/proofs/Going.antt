-- A gateway stays sound, but for what is left to be done, while its faces hear and its rows change.
use Rattle.std.proofs.Common.{◌≡◌, ℕ, ◌+◌, ◌≤◌, ◌<◌, Bool, true, false, not, if◌then◌else◌, ◌&&◌, ◌||◌, ◌==◌, List, [], ◌∷◌, ◌++◌, filter, map, Option, Some, None, refl, sym, ap, ◌∙◌, subst, arith, ne_eqb}
use Rattle.std.proofs.lemmas.Cmp.{ranked}
use Rattle.std.specs.FinMap.Entries.{by_order, put}
use Rattle.std.specs.List.{list_any}
use Rattle.std.specs.Ordering.{nat_cmp}
use Rattle.std.specs.declared.cmp.Ordering.{Ordering}
use Rattle.std.specs.declared.cmp.Ordering.TheVariants.{Less, Equal, Greater}
use Rattle.zt_region.specs.declared.region.Region.{Region}
use Rattle.zt_protocol.specs.Interest.{is_current}
use Rattle.zt_protocol.specs.declared.interests.InterestMode.{InterestMode}
use Rattle.zt_protocol.specs.declared.interests.InterestOptions.{InterestOptions}
use Rattle.zt_protocol.specs.declared.messages.Message.{Message}
use Rattle.zt_protocol.specs.declared.messages.Message.TheVariants as message
use Rattle.zt_model.specs.Hat.{hat_of}
use Rattle.zt_model.specs.Hearing.{heard, heard_all, messages_for, put_if, rows_heard, with_answer}
use Rattle.zt_region.specs.Region.{is_north}
use Rattle.zt_model.specs.Lists.{at_id, same}
use Rattle.zt_model.specs.Routing.{interests_from}
use Rattle.zt_model.specs.Rows.{Ask, ById, Face, InterestRow, Rows}
use Rattle.zt_model.specs.Says.{Say, Sends, is_routed, to_each, with_face}
use Rattle.zt_model.specs.Transcript.{Each}
use Rattle.zt_laws.specs.Order.{RowsAreInOrder}
use Rattle.zt_laws.specs.Sound.{IsToldInOrder}
use Rattle.zt_laws.proofs.Hearing.{heard_all-held, heard_all-live, heard_all-number, heard_all-region, messages_for_each}
use Rattle.zt_laws.proofs.Lists.{each_always, each_both, each_filter, each_map, each_weaker, map_same, never, of_cond}
use Rattle.zt_laws.proofs.PartsOrder.{IsOrderlyPart, IsQuiet, each_message_for, heard_in_order, in_order_by, lists_heard, nothing_told, tolds, tolds_in_order}
use Rattle.zt_laws.proofs.Registering.{messages_but_for}
use Rattle.zt_laws.proofs.ToldOrder.{DrawsNothing, tells_if_draws, TellsNothing}
use Rattle.zt_theorem_soundness.specs.Sound.{AllKeepBut, AskIsHeld, AsksAreHeld, IsNamed, IsSoundBut, KeepsBut, NamedPending, PendingIsKnown, PendingsAreKnown, PendingsOfAskAreKnown, RoutedDeclareNothing, named_by_ask}
use Rattle.zt_theorem_soundness.proofs.CallsRun.{live_rows_heard}
use Rattle.zt_theorem_soundness.proofs.Keeping.{ShowSame, Stays, keeps_stays, stays_itself}

-- ---- rows by id

pub each_put : {A : Type 0} (P : ℕ × A → Type 0) (id : ℕ) (v : A) (rows : ById A) → P (id, v) → Each P rows → Each P (put nat_cmp id v rows)
each_put P id v [] own all = (own, tt)
each_put P id v (row ∷ rows) own all =
    elim (nat_cmp id row.0) as (λ o. nat_cmp id row.0 ≡ o → Each P (by_order o ((id, v) ∷ row ∷ rows) ((row.0, v) ∷ rows) (row ∷ put nat_cmp id v rows))) [
      | Less ↦ λ is. (own, all)
      | Equal ↦ λ is. let one : id ≡ row.0 = ranked id row.0 Equal (sym is) in (subst (λ k. P (k, v)) one own, all.1)
      | Greater ↦ λ is. (all.0, each_put P id v rows own all.1)
    ] refl

pub each_put_if : {A : Type 0} (P : ℕ × A → Type 0) (b : Bool) (id : ℕ) (v : A) (rows : ById A) → (b ≡ true → P (id, v)) → Each P rows → Each P (put_if b id v rows)
each_put_if P true id v rows own all = each_put P id v rows (own refl) all
each_put_if P false id v rows own all = all

-- ---- kinds of messages

-- the message makes no pending
abbrev pub MakesNoPending : {K : Type 0} → Message K → Type 0
MakesNoPending (message.Interest id mode options e) = ⊥
MakesNoPending _ = Unit {0}

-- the message changes neither told rows nor pendings
abbrev pub IsQuietMessage : {K : Type 0} → Message K → Type 0
IsQuietMessage (message.DeclareToken id e interest node) = id ≡ 0
IsQuietMessage (message.UndeclareToken id e node) = ⊥
IsQuietMessage (message.Interest id mode options e) = ⊥
IsQuietMessage _ = Unit {0}

pub none_if_drawn : {K : Type 0} (m : Message K) → DrawsNothing m → MakesNoPending m
none_if_drawn (message.DeclareToken id e interest node) nothing = tt
none_if_drawn (message.UndeclareToken id e node) nothing = tt
none_if_drawn (message.DeclareFinal interest) nothing = tt
none_if_drawn (message.Interest id mode options e) nothing = absurd nothing
none_if_drawn (message.InterestFinal id) nothing = tt
none_if_drawn (message.DeclareSubscriber id e interest) nothing = tt
none_if_drawn (message.DeclareQueryable id e info interest) nothing = tt

pub drawn_if_quiet : {K : Type 0} (m : Message K) → IsQuietMessage m → DrawsNothing m
drawn_if_quiet (message.DeclareToken id e interest node) quiet = quiet
drawn_if_quiet (message.UndeclareToken id e node) quiet = absurd quiet
drawn_if_quiet (message.DeclareFinal interest) quiet = tt
drawn_if_quiet (message.Interest id mode options e) quiet = absurd quiet
drawn_if_quiet (message.InterestFinal id) quiet = tt
drawn_if_quiet (message.DeclareSubscriber id e interest) quiet = tt
drawn_if_quiet (message.DeclareQueryable id e info interest) quiet = tt

module _ {K : Type 0} (cmp : K → K → Ordering) where
  -- ---- what hearing leaves of asks and pendings

  -- what holds of an ask whatever it was answered holds still
  pub asks_heard : (P : ℕ × Ask K → Type 0) → ((row : ℕ × Ask K) (es : List K) → P row → P (row.0, record row.1 { answered = es })) → (now : ℕ) (ms : List (Message K)) (f : Face K) → Each P f.asks → Each P (heard_all cmp now ms f).asks
  unfolding heard_all
  asks_heard P any now [] f all = all
  asks_heard P any now (m ∷ ms) f all = asks_heard P any now ms (heard cmp now m f) (one m)
    where
      one : (m : Message K) → Each P (heard cmp now m f).asks
      one (message.DeclareToken id e None node) = all
      one (message.DeclareToken id e (Some interest) node) =
          each_map P (with_answer cmp interest e) f.asks
          (each_weaker P (λ row. P (with_answer cmp interest e row)) (λ row p. of_cond P _ (row.0, record row.1 { answered = row.1.answered ++ e ∷ [] }) row (λ _. any row (row.1.answered ++ e ∷ []) p) (λ _. p)) f.asks all)
      one (message.UndeclareToken id e node) = all
      one (message.DeclareFinal interest) = each_filter P (λ row. not (interest == row.0)) f.asks all
      one (message.Interest id mode options e) = all
      one (message.InterestFinal id) = all
      one (message.DeclareSubscriber id e interest) = all
      one (message.DeclareQueryable id e info interest) = all

  pub named_heard : (mode : InterestMode) (id now : ℕ) (ms : List (Message K)) (f : Face K) → Each MakesNoPending ms → IsNamed mode id f → IsNamed mode id (heard_all cmp now ms f)
  unfolding heard_all
  named_heard mode id now [] f none_ is = is
  named_heard mode id now (m ∷ ms) f none_ is = named_heard mode id now ms (heard cmp now m f) none_.1 (one m none_.0)
    where
      one : (m : Message K) → MakesNoPending m → IsNamed mode id (heard cmp now m f)
      one (message.DeclareToken token e interest node) none_ = let less : id < f.next = is.below in record { below = omega arith; of_mode = is.of_mode }
      one (message.UndeclareToken token e node) none_ = record { below = is.below; of_mode = is.of_mode }
      one (message.DeclareFinal interest) none_ = record { below = is.below; of_mode = is.of_mode }
      one (message.Interest token mode_ options e) none_ = absurd none_
      one (message.InterestFinal token) none_ = record { below = is.below; of_mode = is.of_mode }
      one (message.DeclareSubscriber token e interest) none_ = is
      one (message.DeclareQueryable token e info interest) none_ = is

  -- an interest under the next id is a pending of none that was named before
  pub named_sent : (mode : InterestMode) (id now : ℕ) (sent : InterestMode) (options : InterestOptions) (e : Option K) (f : Face K) → IsNamed mode id f → IsNamed mode id (heard cmp now (message.Interest f.next sent options e) f)
  named_sent mode id now sent options e f is =
      let less : id < f.next = is.below in
      record {
        below = omega arith;
        of_mode = each_put_if (λ row. (id == row.0) ≡ true → row.1.mode ≡ mode) (is_current sent) f.next (record { mode = sent; since = now }) f.pendings (λ _ hit. never hit (ne_eqb id f.next (λ one. omega arith))) is.of_mode;
      }

  pub named_all_sent : (mode : InterestMode) (id now next : ℕ) (is : List (InterestRow K)) (f : Face K) → next ≡ f.next → IsNamed mode id f → IsNamed mode id (heard_all cmp now (interests_from next is) f)
  unfolding interests_from heard_all
  named_all_sent mode id now next [] f one named = named
  named_all_sent mode id now next (i ∷ is) f one named =
      let h = heard cmp now (message.Interest next i.mode i.options i.expr) f in
      let next_ : next + 1 ≡ h.next = omega arith in
      named_all_sent mode id now (next + 1) is h next_ (subst (λ n. IsNamed mode id (heard cmp now (message.Interest n i.mode i.options i.expr) f)) (sym one) (named_sent mode id now i.mode i.options i.expr f named))

  told_quiet : (now : ℕ) (ms : List (Message K)) (f : Face K) → Each IsQuietMessage ms → (heard_all cmp now ms f).told ≡ f.told
  unfolding heard_all
  told_quiet now [] f quiet = refl
  told_quiet now (m ∷ ms) f quiet = told_quiet now ms (heard cmp now m f) quiet.1 ∙ one m quiet.0
    where
      one : (m : Message K) → IsQuietMessage m → (heard cmp now m f).told ≡ f.told
      one (message.DeclareToken id e interest node) none_ = ap (λ b. if b || list_any (λ row. (id == row.0) && same cmp e row.1) f.told then f.told else f.told ++ (id, e) ∷ []) (ap (λ k. k == 0) none_)
      one (message.UndeclareToken id e node) none_ = absurd none_
      one (message.DeclareFinal interest) none_ = refl
      one (message.Interest id mode options e) none_ = absurd none_
      one (message.InterestFinal id) none_ = refl
      one (message.DeclareSubscriber id e interest) none_ = refl
      one (message.DeclareQueryable id e info interest) none_ = refl

-- ---- a face goes on

-- What a part of a call leaves of a face of `g`: its number and region, what is named there, that its asks are held
-- and name what is known, and that it declares nothing, where it is of a router region.
pub record FaceGoesOn {K : Type 0} (but : ℕ → Bool) (g : Rows K) (f k : Face K) : Type 0 where
  pub number : k.number ≡ f.number
  pub region : k.region ≡ f.region
  pub named : (mode : InterestMode) (id : ℕ) → IsNamed mode id f → IsNamed mode id k
  pub held : but f.number ≡ false → Each (AskIsHeld f) f.asks → Each (AskIsHeld k) k.asks
  pub pendings : Each (PendingsOfAskAreKnown g) f.asks → Each (PendingsOfAskAreKnown g) k.asks
  pub live : is_routed g f ≡ true → f.live ≡ [] → k.live ≡ []

pub goes_on_itself : {K : Type 0} (but : ℕ → Bool) (g : Rows K) (f : Face K) → FaceGoesOn but g f f
goes_on_itself but g f = record { number = refl; region = refl; named = λ mode id is. is; held = λ _ all. all; pendings = λ all. all; live = λ _ none_. none_ }

-- and of a gateway
pub record GoesOn {K : Type 0} (but : ℕ → Bool) (g h : Rows K) (change : Face K → Face K) : Type 0 where
  pub faces : h.faces ≡ map change g.faces
  pub made : g.made ≤ h.made
  pub mode : h.mode ≡ g.mode
  pub each : Each (λ f. FaceGoesOn but g f (change f)) g.faces

module _ {K : Type 0} where
  pub known_goes_on : (but : ℕ → Bool) (g h : Rows K) (change : Face K → Face K) → GoesOn but g h change → (p : NamedPending) → PendingIsKnown g p → PendingIsKnown h p
  known_goes_on but g h change goes p known =
      let made_ : p.face ≤ g.made = known.made in
      let more : g.made ≤ h.made = goes.made in
      record {
        made = omega arith;
        named =
            subst (Each (λ f. (p.face == f.number) ≡ true → IsNamed p.mode p.id f)) (sym goes.faces)
            (each_map (λ f. (p.face == f.number) ≡ true → IsNamed p.mode p.id f) change g.faces
            (each_both (λ f. FaceGoesOn but g f (change f)) (λ f. (p.face == f.number) ≡ true → IsNamed p.mode p.id f) (λ f. (p.face == (change f).number) ≡ true → IsNamed p.mode p.id (change f))
            (λ f one named hit. one.named p.mode p.id (named (ap (λ k. p.face == k) (sym one.number) ∙ hit))) g.faces goes.each known.named));
      }

  pub pendings_go_on : (but : ℕ → Bool) (g h : Rows K) (change : Face K → Face K) → GoesOn but g h change → PendingsAreKnown g → PendingsAreKnown h
  pendings_go_on but g h change goes known =
      subst (Each (λ f. Each (PendingsOfAskAreKnown h) f.asks)) (sym goes.faces)
      (each_map (λ f. Each (PendingsOfAskAreKnown h) f.asks) change g.faces
      (each_both (λ f. FaceGoesOn but g f (change f)) (λ f. Each (PendingsOfAskAreKnown g) f.asks) (λ f. Each (PendingsOfAskAreKnown h) (change f).asks)
      (λ f one known_. each_weaker (PendingsOfAskAreKnown g) (PendingsOfAskAreKnown h) (λ row all. each_weaker (PendingIsKnown g) (PendingIsKnown h) (known_goes_on but g h change goes) (named_by_ask row) all) (change f).asks (one.pendings known_))
      g.faces goes.each known))

  pub held_go_on : (but : ℕ → Bool) (g h : Rows K) (change : Face K → Face K) → GoesOn but g h change → AsksAreHeld but g → AsksAreHeld but h
  held_go_on but g h change goes held =
      subst (Each (λ f. but f.number ≡ false → Each (AskIsHeld f) f.asks)) (sym goes.faces)
      (each_map (λ f. but f.number ≡ false → Each (AskIsHeld f) f.asks) change g.faces
      (each_both (λ f. FaceGoesOn but g f (change f)) (λ f. but f.number ≡ false → Each (AskIsHeld f) f.asks) (λ f. but (change f).number ≡ false → Each (AskIsHeld (change f)) (change f).asks)
      (λ f one all seen. let seen_ : but f.number ≡ false = ap but (sym one.number) ∙ seen in one.held seen_ (all seen_))
      g.faces goes.each held))

  pub routed_go_on : (but : ℕ → Bool) (g h : Rows K) (change : Face K → Face K) → GoesOn but g h change → RoutedDeclareNothing g → RoutedDeclareNothing h
  routed_go_on but g h change goes routed =
      subst (Each (λ f. is_routed h f ≡ true → f.live ≡ [])) (sym goes.faces)
      (each_map (λ f. is_routed h f ≡ true → f.live ≡ []) change g.faces
      (each_both (λ f. FaceGoesOn but g f (change f)) (λ f. is_routed g f ≡ true → f.live ≡ []) (λ f. is_routed h (change f) ≡ true → (change f).live ≡ [])
      (λ f one none_ is.
      let is_ : is_routed g f ≡ true = sym (ap (λ m. (hat_of m (change f).region).goes_by_trees) goes.mode ∙ ap (λ (r : Region). (hat_of g.mode r).goes_by_trees) one.region) ∙ is in
      one.live is_ (none_ is_))
      g.faces goes.each routed))

module _ {K : Type 0} (cmp : K → K → Ordering) (matching : K → K → Bool) where
  -- what each face keeps, after a part of a call
  pub keeps_go_on : (but : ℕ → Bool) (unseen untold unseen_ untold_ : Region → K → Bool) (g h : Rows K) (change : Face K → Face K) → GoesOn but g h change
      → Each (λ f. is_routed g f ≡ false → but f.number ≡ false → KeepsBut cmp matching unseen untold g f → KeepsBut cmp matching unseen_ untold_ h (change f)) g.faces
      → AllKeepBut cmp matching but unseen untold g → AllKeepBut cmp matching but unseen_ untold_ h
  keeps_go_on but unseen untold unseen_ untold_ g h change goes each_ keeps =
      subst (Each (λ f. is_routed h f ≡ false → but f.number ≡ false → KeepsBut cmp matching unseen_ untold_ h f)) (sym goes.faces)
      (each_map (λ f. is_routed h f ≡ false → but f.number ≡ false → KeepsBut cmp matching unseen_ untold_ h f) change g.faces
      (each_both (λ f. FaceGoesOn but g f (change f) × (is_routed g f ≡ false → but f.number ≡ false → KeepsBut cmp matching unseen untold g f → KeepsBut cmp matching unseen_ untold_ h (change f))) (λ f. is_routed g f ≡ false → but f.number ≡ false → KeepsBut cmp matching unseen untold g f) (λ f. is_routed h (change f) ≡ false → but (change f).number ≡ false → KeepsBut cmp matching unseen_ untold_ h (change f))
      (λ f both right plain seen.
      let plain_ : is_routed g f ≡ false = sym (ap (λ m. (hat_of m (change f).region).goes_by_trees) goes.mode ∙ ap (λ (r : Region). (hat_of g.mode r).goes_by_trees) both.0.region) ∙ plain in
      let seen_ : but f.number ≡ false = ap but (sym both.0.number) ∙ seen in
      both.1 plain_ seen_ (right plain_ seen_))
      g.faces
      (each_both (λ f. FaceGoesOn but g f (change f)) (λ f. is_routed g f ≡ false → but f.number ≡ false → KeepsBut cmp matching unseen untold g f → KeepsBut cmp matching unseen_ untold_ h (change f)) (λ f. FaceGoesOn but g f (change f) × (is_routed g f ≡ false → but f.number ≡ false → KeepsBut cmp matching unseen untold g f → KeepsBut cmp matching unseen_ untold_ h (change f))) (λ f a b. (a, b)) g.faces goes.each each_)
      keeps))

  -- A gateway is sound after a part of a call, where its lists are in order, each face goes on, and keeps what it should.
  pub sound_goes_on : (but : ℕ → Bool) (unseen untold unseen_ untold_ : Region → K → Bool) (g h : Rows K) (change : Face K → Face K) → GoesOn but g h change → RowsAreInOrder cmp matching h
      → Each (λ f. is_routed g f ≡ false → but f.number ≡ false → KeepsBut cmp matching unseen untold g f → KeepsBut cmp matching unseen_ untold_ h (change f)) g.faces
      → IsSoundBut cmp matching but unseen untold g → IsSoundBut cmp matching but unseen_ untold_ h
  sound_goes_on but unseen untold unseen_ untold_ g h change goes ordered each_ sound = record {
    ordered = ordered;
    keeps = keeps_go_on but unseen untold unseen_ untold_ g h change goes each_ sound.keeps;
    held = held_go_on but g h change goes sound.held;
    named = pendings_go_on but g h change goes sound.named;
    routed = routed_go_on but g h change goes sound.routed;
  }

  -- ---- hearing

  abbrev pub hears : Sends K → Rows K → Face K → Face K
  hears ss g f = heard_all cmp g.moment (messages_for f.number ss) f

  -- a face goes on while it hears what makes no pending
  pub face_hears : (but : ℕ → Bool) (ms : List (Message K)) (g : Rows K) (f : Face K) → ((mode : InterestMode) (id : ℕ) → IsNamed mode id f → IsNamed mode id (heard_all cmp g.moment ms f)) → FaceGoesOn but g f (heard_all cmp g.moment ms f)
  face_hears but ms g f named_ =
      let k = heard_all cmp g.moment ms f in
      let held_ = heard_all-held cmp g.moment ms f in
      let region_ = heard_all-region cmp g.moment ms f in
      record {
        number = heard_all-number cmp g.moment ms f;
        region = region_;
        named = named_;
        held = λ _ all.
            each_weaker (AskIsHeld f) (AskIsHeld k)
            (λ row one. record {
              current = one.current;
              held = λ future. subst (λ (rows : ById (InterestRow K)). at_id row.0 rows ≡ Some row.1.interest) (sym held_) (one.held future);
              from_south = λ north. one.from_south (ap is_north (sym region_) ∙ north);
            })
            k.asks (asks_heard cmp (AskIsHeld f) (λ row es one. record { current = one.current; held = one.held; from_south = one.from_south }) g.moment ms f all);
        pendings = λ all. asks_heard cmp (PendingsOfAskAreKnown g) (λ row es one. one) g.moment ms f all;
        live = λ _ none_. heard_all-live cmp g.moment ms f ∙ none_;
      }

  -- in order after a part that leaves all in order
  pub ordered_heard : (rule : Rows K → Sends K) (g : Rows K) → IsOrderlyPart cmp matching (Say rule) → RowsAreInOrder cmp matching g → RowsAreInOrder cmp matching (rows_heard cmp (rule g) g)
  ordered_heard rule g orderly ordered =
      in_order_by cmp matching (rows_heard cmp (rule g) g) (lists_heard cmp matching (rule g) g ordered.lists) (heard_in_order cmp matching (rule g) g (orderly g ordered.lists (tolds_in_order cmp matching g ordered)))

  pub ordered_altered : (change : Rows K → Rows K) (g : Rows K) → IsQuiet cmp matching change → RowsAreInOrder cmp matching g → RowsAreInOrder cmp matching (change g)
  ordered_altered change g quiet ordered =
      let one = quiet g ordered.lists in
      in_order_by cmp matching (change g) one.0 (subst (λ ts. Each (λ t. IsToldInOrder cmp t.rows t.next) ts) (sym one.1) (tolds_in_order cmp matching g ordered))

  pub goes_on_heard : (but : ℕ → Bool) (ss : Sends K) (g : Rows K) → Each (λ f. (mode : InterestMode) (id : ℕ) → IsNamed mode id f → IsNamed mode id (hears ss g f)) g.faces → GoesOn but g (rows_heard cmp ss g) (hears ss g)
  unfolding rows_heard
  goes_on_heard but ss g named_ = record {
    faces = refl;
    made = omega arith;
    mode = refl;
    each = each_weaker (λ f. (mode : InterestMode) (id : ℕ) → IsNamed mode id f → IsNamed mode id (hears ss g f)) (λ f. FaceGoesOn but g f (hears ss g f)) (λ f named. face_hears but (messages_for f.number ss) g f named) g.faces named_;
  }

  -- Faces hear, and their lists stay in order: each goes on.
  pub sound_heard : (but : ℕ → Bool) (unseen untold unseen_ untold_ : Region → K → Bool) (ss : Sends K) (g : Rows K) → RowsAreInOrder cmp matching (rows_heard cmp ss g)
      → Each (λ f. (mode : InterestMode) (id : ℕ) → IsNamed mode id f → IsNamed mode id (hears ss g f)) g.faces
      → Each (λ f. is_routed g f ≡ false → but f.number ≡ false → KeepsBut cmp matching unseen untold g f → KeepsBut cmp matching unseen_ untold_ g (hears ss g f)) g.faces
      → IsSoundBut cmp matching but unseen untold g → IsSoundBut cmp matching but unseen_ untold_ (rows_heard cmp ss g)
  unfolding rows_heard
  sound_heard but unseen untold unseen_ untold_ ss g ordered named_ each_ sound =
      let h = rows_heard cmp ss g in
      let same_ : ShowSame g h = record { live = live_rows_heard cmp ss g; refused = refl } in
      sound_goes_on but unseen untold unseen_ untold_ g h (hears ss g)
      (goes_on_heard but ss g named_)
      ordered
      (each_weaker (λ f. is_routed g f ≡ false → but f.number ≡ false → KeepsBut cmp matching unseen untold g f → KeepsBut cmp matching unseen_ untold_ g (hears ss g f)) (λ f. is_routed g f ≡ false → but f.number ≡ false → KeepsBut cmp matching unseen untold g f → KeepsBut cmp matching unseen_ untold_ h (hears ss g f))
      (λ f one plain seen right. keeps_stays cmp matching unseen_ untold_ g h (hears ss g f) (hears ss g f) same_ (stays_itself (hears ss g f)) (one plain seen right)) g.faces each_)
      sound

  pub silent_ordered : (ss : Sends K) (g : Rows K) → Each (λ s. DrawsNothing s.1) ss → RowsAreInOrder cmp matching g → RowsAreInOrder cmp matching (rows_heard cmp ss g)
  silent_ordered ss g silent ordered =
      in_order_by cmp matching (rows_heard cmp ss g) (lists_heard cmp matching ss g ordered.lists)
      (heard_in_order cmp matching ss g (nothing_told cmp ss (tolds cmp g) (each_weaker (λ s. DrawsNothing s.1) (λ s. TellsNothing s.1) (λ s nothing. tells_if_draws s.1 nothing) ss silent) (tolds_in_order cmp matching g ordered)))

  pub silent_named : (ss : Sends K) (g : Rows K) → Each (λ s. DrawsNothing s.1) ss → Each (λ f. (mode : InterestMode) (id : ℕ) → IsNamed mode id f → IsNamed mode id (hears ss g f)) g.faces
  silent_named ss g silent =
      each_always (λ f. (mode : InterestMode) (id : ℕ) → IsNamed mode id f → IsNamed mode id (hears ss g f))
      (λ f mode id is. named_heard cmp mode id g.moment (messages_for f.number ss) f (each_message_for cmp MakesNoPending f.number ss (each_weaker (λ s. DrawsNothing s.1) (λ s. MakesNoPending s.1) (λ s nothing. none_if_drawn s.1 nothing) ss silent)) is) g.faces

  -- what draws nothing, where faces outside router regions keep what they were told
  pub sound_untold : (but : ℕ → Bool) (unseen untold : Region → K → Bool) (ss : Sends K) (g : Rows K) → Each (λ s. DrawsNothing s.1) ss
      → Each (λ f. is_routed g f ≡ false → but f.number ≡ false → (hears ss g f).told ≡ f.told) g.faces
      → IsSoundBut cmp matching but unseen untold g → IsSoundBut cmp matching but unseen untold (rows_heard cmp ss g)
  sound_untold but unseen untold ss g silent told_ sound =
      sound_heard but unseen untold unseen untold ss g (silent_ordered ss g silent sound.ordered) (silent_named ss g silent)
      (each_weaker (λ f. is_routed g f ≡ false → but f.number ≡ false → (hears ss g f).told ≡ f.told) (λ f. is_routed g f ≡ false → but f.number ≡ false → KeepsBut cmp matching unseen untold g f → KeepsBut cmp matching unseen untold g (hears ss g f))
      (λ f one plain seen right.
      keeps_stays cmp matching unseen untold g g f (hears ss g f) (record { live = refl; refused = refl })
      (record { region = heard_all-region cmp g.moment (messages_for f.number ss) f; told = one plain seen; held = heard_all-held cmp g.moment (messages_for f.number ss) f }) right) g.faces told_)
      sound

  -- what is quiet
  pub sound_quiet : (but : ℕ → Bool) (unseen untold : Region → K → Bool) (ss : Sends K) (g : Rows K) → Each (λ s. IsQuietMessage s.1) ss
      → IsSoundBut cmp matching but unseen untold g → IsSoundBut cmp matching but unseen untold (rows_heard cmp ss g)
  sound_quiet but unseen untold ss g quiet sound =
      sound_untold but unseen untold ss g (each_weaker (λ s. IsQuietMessage s.1) (λ s. DrawsNothing s.1) (λ s one. drawn_if_quiet s.1 one) ss quiet)
      (each_always (λ f. is_routed g f ≡ false → but f.number ≡ false → (hears ss g f).told ≡ f.told) (λ f _ _. told_quiet cmp g.moment (messages_for f.number ss) f (each_message_for cmp IsQuietMessage f.number ss quiet)) g.faces)
      sound

  -- ---- what each face hears

  -- of the faces that count, each is sent what a rule gives for it
  abbrev pub Speaks : (ℕ → Bool) → (Face K → List (Message K)) → Sends K → Rows K → Type 0
  Speaks but rule ss g = Each (λ f. but f.number ≡ false → messages_for f.number ss ≡ rule f) g.faces

  pub speaks_each : (but : ℕ → Bool) (rule : Face K → List (Message K)) (g : Rows K) → RowsAreInOrder cmp matching g → Speaks but rule (to_each rule g.faces) g
  speaks_each but rule g ordered =
      each_weaker (λ f. messages_for f.number (to_each rule g.faces) ≡ rule f) (λ f. but f.number ≡ false → messages_for f.number (to_each rule g.faces) ≡ rule f) (λ f one _. one) g.faces (messages_for_each 1 rule g.faces ordered.lists.faces_rise)

  pub speaks_unsaid : (n : ℕ) (rule : Face K → List (Message K)) (ss : Sends K) (g : Rows K) → Speaks (λ k. false) rule ss g → Speaks (λ k. n == k) rule (filter (λ s. not (n == s.0)) ss) g
  speaks_unsaid n rule ss g all =
      each_weaker (λ f. false ≡ false → messages_for f.number ss ≡ rule f) (λ f. (n == f.number) ≡ false → messages_for f.number (filter (λ s. not (n == s.0)) ss) ≡ rule f)
      (λ f one apart. messages_but_for cmp matching n f.number ss ∙ ap (λ b. if b then [] else messages_for f.number ss) apart ∙ one refl) g.faces all

  -- a rule that leaves nothing to a face outside router regions
  pub sound_routed : (but : ℕ → Bool) (unseen untold : Region → K → Bool) (rule : Face K → List (Message K)) (ss : Sends K) (g : Rows K) → Each (λ s. DrawsNothing s.1) ss → Speaks but rule ss g
      → ((f : Face K) → is_routed g f ≡ false → rule f ≡ [])
      → IsSoundBut cmp matching but unseen untold g → IsSoundBut cmp matching but unseen untold (rows_heard cmp ss g)
  unfolding heard_all
  sound_routed but unseen untold rule ss g silent speaks none_ sound =
      sound_untold but unseen untold ss g silent
      (each_weaker (λ f. but f.number ≡ false → messages_for f.number ss ≡ rule f) (λ f. is_routed g f ≡ false → but f.number ≡ false → (hears ss g f).told ≡ f.told)
      (λ f one plain seen. ap (λ ms. (heard_all cmp g.moment ms f).told) (one seen ∙ none_ f plain)) g.faces speaks)
      sound

  -- ---- rows of the gateway change

  -- the same faces, with rows that show the same
  pub sound_rows : (but : ℕ → Bool) (unseen untold unseen_ untold_ : Region → K → Bool) (g h : Rows K) → h.faces ≡ g.faces → h.made ≡ g.made → h.mode ≡ g.mode → RowsAreInOrder cmp matching h
      → ((f : Face K) → KeepsBut cmp matching unseen untold g f → KeepsBut cmp matching unseen_ untold_ h f)
      → IsSoundBut cmp matching but unseen untold g → IsSoundBut cmp matching but unseen_ untold_ h
  sound_rows but unseen untold unseen_ untold_ g h faces_ made_ mode_ ordered one sound =
      sound_goes_on but unseen untold unseen_ untold_ g h (λ f. f)
      (record {
        faces = faces_ ∙ sym (map_same (λ f. f) g.faces (each_always (λ f. f ≡ f) (λ f. refl) g.faces));
        made = omega arith;
        mode = mode_;
        each = each_always (λ f. FaceGoesOn but g f f) (goes_on_itself but g) g.faces;
      })
      ordered
      (each_always (λ f. is_routed g f ≡ false → but f.number ≡ false → KeepsBut cmp matching unseen untold g f → KeepsBut cmp matching unseen_ untold_ h f) (λ f _ _ right. one f right) g.faces)
      sound

  pub sound_rows_same : (but : ℕ → Bool) (unseen untold : Region → K → Bool) (g h : Rows K) → h.faces ≡ g.faces → h.made ≡ g.made → h.mode ≡ g.mode → RowsAreInOrder cmp matching h → ShowSame g h
      → IsSoundBut cmp matching but unseen untold g → IsSoundBut cmp matching but unseen untold h
  sound_rows_same but unseen untold g h faces_ made_ mode_ ordered same_ sound =
      sound_rows but unseen untold unseen untold g h faces_ made_ mode_ ordered (λ f right. keeps_stays cmp matching unseen untold g h f f same_ (stays_itself f) right) sound

  -- ---- one face changes

  pub sound_face : (but : ℕ → Bool) (unseen untold unseen_ untold_ : Region → K → Bool) (n : ℕ) (change : Face K → Face K) (g : Rows K) → IsQuiet cmp matching (with_face n change)
      → Each (λ f. (n == f.number) ≡ true → FaceGoesOn but g f (change f)) g.faces
      → ((f k : Face K) → Stays f k → KeepsBut cmp matching unseen untold g f → KeepsBut cmp matching unseen_ untold_ (with_face n change g) k)
      → ((f : Face K) → Stays f (change f))
      → IsSoundBut cmp matching but unseen untold g → IsSoundBut cmp matching but unseen_ untold_ (with_face n change g)
  unfolding with_face
  sound_face but unseen untold unseen_ untold_ n change g quiet goes one stays sound =
      let chosen = λ (f : Face K). if n == f.number then change f else f in
      let h = with_face n change g in
      sound_goes_on but unseen untold unseen_ untold_ g h chosen
      (record {
        faces = refl;
        made = omega arith;
        mode = refl;
        each = each_weaker (λ f. (n == f.number) ≡ true → FaceGoesOn but g f (change f)) (λ f. FaceGoesOn but g f (chosen f)) (λ f here. of_cond (FaceGoesOn but g f) (n == f.number) (change f) f here (λ _. goes_on_itself but g f)) g.faces goes;
      })
      (ordered_altered (with_face n change) g quiet sound.ordered)
      (each_always (λ f. is_routed g f ≡ false → but f.number ≡ false → KeepsBut cmp matching unseen untold g f → KeepsBut cmp matching unseen_ untold_ h (chosen f))
      (λ f _ _ right. one f (chosen f) (of_cond (Stays f) (n == f.number) (change f) f (λ _. stays f) (λ _. stays_itself f)) right) g.faces)
      sound
