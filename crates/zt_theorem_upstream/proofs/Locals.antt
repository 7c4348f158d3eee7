-- What faces to the north were sent and stands there still, and what faces to the south hold.
use Rattle.std.proofs.Common.{◌≡◌, ℕ, ◌+◌, ◌<◌, Bool, true, false, not, max, ◌&&◌, ◌||◌, ◌==◌, List, [], ◌∷◌, map, Option, Some, None, refl, sym, ap, ◌∙◌, subst, arith, eq-eqb, ne_eqb}
use Rattle.std.proofs.lemmas.Bool.{and_parts}
use Rattle.std.proofs.lemmas.Cmp.{nat_cmp_total, on_total, ranked, then_total}
use Rattle.std.specs.Cmp.{IsTotalOrder}
use Rattle.std.specs.FinMap.Entries.{by_order, put}
use Rattle.std.specs.List.{list_any}
use Rattle.std.specs.Ordering.{nat_cmp, ordering_reverse}
use Rattle.std.specs.declared.cmp.Ordering.{Ordering}
use Rattle.std.specs.declared.cmp.Ordering.TheVariants.{Less, Equal, Greater}
use Rattle.zt_region.specs.declared.region.Bound.TheVariants.{South as SouthBound}
use Rattle.zt_region.specs.declared.region.Region.{Region}
use Rattle.zt_region.specs.declared.region.WhatAmI.{WhatAmI}
use Rattle.zt_region.specs.declared.region.WhatAmI.TheVariants.{Router, Peer, Client}
use Rattle.zt_region.specs.Region.{bound_eq, is_north}
use Rattle.zt_protocol.specs.Interest.{is_future}
use Rattle.zt_protocol.specs.declared.messages.Message.{Message}
use Rattle.zt_protocol.specs.declared.messages.Message.TheVariants as message
use Rattle.zt_model.specs.Hat.{hat_of}
use Rattle.zt_model.specs.Hearing.{heard, heard_all, messages_for, rows_heard}
use Rattle.zt_model.specs.Promises.{is_sent_all}
use Rattle.zt_model.specs.Routing.{asks_same, expression_order, interest_order, is_held_south, leads_up}
use Rattle.zt_model.specs.Rows.{ById, Face, InterestRow, Rows}
use Rattle.zt_model.specs.Says.{Sends, is_routed}
use Rattle.zt_model.specs.Transcript.{Each}
use Rattle.zt_laws.specs.Order.{HasRowsInOrder}
use Rattle.zt_laws.specs.Sound.{RiseFrom}
use Rattle.zt_laws.proofs.Hearing.{heard_all-held, heard_all-number, heard_all-region, heard_all_leaves}
use Rattle.zt_laws.proofs.Lists.{any-map, any_alike, each_filter, each_map, each_weaker, never, rise_map}
use Rattle.zt_laws.proofs.PartsOrder.{each_message_for, rows_in_order_heard_all}
use Rattle.zt_theorem_soundness.proofs.Going.{each_put_if}

-- a test of a list with a row more
pub any_put : {A : Type 0} (p : ℕ × A → Bool) (id : ℕ) (v : A) (rows : ById A) → Each (λ row. (id == row.0) ≡ false) rows → list_any p (put nat_cmp id v rows) ≡ (p (id, v) || list_any p rows)
any_put p id v [] fresh = refl
any_put p id v (row ∷ rows) fresh =
    elim (nat_cmp id row.0) as (λ o. nat_cmp id row.0 ≡ o → list_any p (by_order o ((id, v) ∷ row ∷ rows) ((row.0, v) ∷ rows) (row ∷ put nat_cmp id v rows)) ≡ (p (id, v) || list_any p (row ∷ rows))) [
      | Less ↦ λ is. refl
      | Equal ↦ λ is. never (eq-eqb id row.0 (ranked id row.0 Equal (sym is))) fresh.0
      | Greater ↦ λ is. ap (λ b. p row || b) (any_put p id v rows fresh.1) ∙ or_swap (p row) (p (id, v)) (list_any p rows)
    ] refl
  where
    or_swap : (a b c : Bool) → (a || (b || c)) ≡ (b || (a || c))
    or_swap true true c = refl
    or_swap true false c = refl
    or_swap false b c = refl

-- expressions in order, none first
expression_total : {K : Type 0} (cmp : K → K → Ordering) (matching : K → K → Bool) → IsTotalOrder cmp → IsTotalOrder (expression_order cmp matching)
expression_total {K} cmp matching total = record { antisymm = antisymm_; trans = trans_; congr = congr_ }
  where
    antisymm_ : (a b : Option K) → expression_order cmp matching a b ≡ ordering_reverse (expression_order cmp matching b a)
    antisymm_ None None = refl
    antisymm_ None (Some b) = refl
    antisymm_ (Some a) None = refl
    antisymm_ (Some a) (Some b) = total.antisymm a b

    trans_ : (a b c : Option K) → expression_order cmp matching a b ≡ Less → expression_order cmp matching b c ≡ Less → expression_order cmp matching a c ≡ Less
    trans_ None None c one two = two
    trans_ None (Some b) None one two = cc
    trans_ None (Some b) (Some c) one two = refl
    trans_ (Some a) None c one two = cc
    trans_ (Some a) (Some b) None one two = two
    trans_ (Some a) (Some b) (Some c) one two = total.trans a b c one two

    congr_ : (a b c : Option K) → expression_order cmp matching a b ≡ Equal → expression_order cmp matching a c ≡ expression_order cmp matching b c
    congr_ None None c one = refl
    congr_ None (Some b) c one = cc
    congr_ (Some a) None c one = cc
    congr_ (Some a) (Some b) None one = refl
    congr_ (Some a) (Some b) (Some c) one = total.congr a b c one

module _ {K : Type 0} (cmp : K → K → Ordering) (matching : K → K → Bool) where
  pub interest_total : IsTotalOrder cmp → IsTotalOrder (interest_order cmp matching)
  interest_total total = then_total (on_total (λ (i : InterestRow K). i.expr) (expression_total cmp matching total)) (on_total (λ (i : InterestRow K). i.options.0) nat_cmp_total)

  -- ---- messages that change no local

  abbrev pub IsQuiet : Message K → Type 0
  IsQuiet (message.Interest id mode options e) = ⊥
  IsQuiet (message.InterestFinal id) = ⊥
  IsQuiet m = Unit {0}

  heard_quiet : (now : ℕ) (m : Message K) (f : Face K) → IsQuiet m → (heard cmp now m f).locals ≡ f.locals
  heard_quiet now (message.DeclareToken id e interest node) f quiet = refl
  heard_quiet now (message.UndeclareToken id e node) f quiet = refl
  heard_quiet now (message.DeclareFinal interest) f quiet = refl
  heard_quiet now (message.Interest id mode options e) f quiet = absurd quiet
  heard_quiet now (message.InterestFinal id) f quiet = absurd quiet
  heard_quiet now (message.DeclareSubscriber id e interest) f quiet = refl
  heard_quiet now (message.DeclareQueryable id e info interest) f quiet = refl

  pub locals_quiet : (now : ℕ) (ms : List (Message K)) (f : Face K) → Each IsQuiet ms → (heard_all cmp now ms f).locals ≡ f.locals
  unfolding heard_all
  locals_quiet now [] f quiet = refl
  locals_quiet now (m ∷ ms) f quiet = locals_quiet now ms (heard cmp now m f) quiet.1 ∙ heard_quiet now m f quiet.0

  -- ---- locals stand below the next id

  abbrev pub LocalsBelow : Face K → Type 0
  LocalsBelow f = Each (λ row. row.0 < f.next) f.locals

  below_heard : (now : ℕ) (m : Message K) (f : Face K) → LocalsBelow f → LocalsBelow (heard cmp now m f)
  below_heard now (message.DeclareToken id e interest node) f below = each_weaker (λ row. row.0 < f.next) (λ row. row.0 < max f.next (id + 1)) (λ row low. omega arith) f.locals below
  below_heard now (message.UndeclareToken id e node) f below = below
  below_heard now (message.DeclareFinal interest) f below = below
  below_heard now (message.Interest id mode options e) f below =
      each_put_if (λ row. row.0 < max f.next (id + 1)) (is_future mode) id (record { mode = mode; options = options; expr = e }) f.locals (λ _. omega arith)
      (each_weaker (λ row. row.0 < f.next) (λ row. row.0 < max f.next (id + 1)) (λ row low. omega arith) f.locals below)
  below_heard now (message.InterestFinal id) f below = each_filter (λ row. row.0 < f.next) (λ row. not (id == row.0)) f.locals below
  below_heard now (message.DeclareSubscriber id e interest) f below = below
  below_heard now (message.DeclareQueryable id e info interest) f below = below

  pub below_heard_all : (now : ℕ) (ms : List (Message K)) (f : Face K) → LocalsBelow f → LocalsBelow (heard_all cmp now ms f)
  unfolding heard_all
  below_heard_all now [] f below = below
  below_heard_all now (m ∷ ms) f below = below_heard_all now ms (heard cmp now m f) (below_heard now m f below)

  pub fresh_next : (f : Face K) → LocalsBelow f → Each (λ row. (f.next == row.0) ≡ false) f.locals
  fresh_next f below = each_weaker (λ row. row.0 < f.next) (λ row. (f.next == row.0) ≡ false) (λ row low. ne_eqb f.next row.0 (λ e. omega arith)) f.locals below

  -- ---- upstream

  -- what a face was sent and stands there
  abbrev pub local_any : Face K → InterestRow K → Bool
  local_any f i = list_any (λ row. asks_same cmp matching i row.1) f.locals

  -- what a face holds, to the south
  abbrev pub south_any : Face K → InterestRow K → Bool
  south_any f i = not (is_north f.region) && list_any (λ row. asks_same cmp matching i row.1) f.held

  -- ---- what stands there is what is given

  -- faces that are sent all interests in what comes later, but those of some numbers, have these sent
  abbrev pub LocalsAre : (ℕ → Bool) → (InterestRow K → Bool) → Rows K → Type 0
  LocalsAre but T g = Each (λ f. but f.number ≡ false → is_sent_all cmp matching g.mode f ≡ true → (i : InterestRow K) → local_any f i ≡ T i) g.faces

  pub sent_all_same : (w : WhatAmI) (f h : Face K) → h.region ≡ f.region → h.bound ≡ f.bound → is_sent_all cmp matching w h ≡ is_sent_all cmp matching w f
  sent_all_same Client f h region_ bound_ = ap is_north region_
  sent_all_same Peer f h region_ bound_ = ap (λ r. is_north r && bound_eq h.bound SouthBound) region_ ∙ ap (λ b. is_north f.region && bound_eq b SouthBound) bound_
  sent_all_same Router f h region_ bound_ = refl

  pub sent_all_north : (w : WhatAmI) (f : Face K) → is_sent_all cmp matching w f ≡ true → is_north f.region ≡ true
  sent_all_north Client f sent = sent
  sent_all_north Peer f sent = (and_parts (is_north f.region) (bound_eq f.bound SouthBound) sent).0
  sent_all_north Router f sent = never sent refl

  -- such a face leads to a gateway above
  pub sent_leads_up : (w : WhatAmI) (f : Face K) → is_sent_all cmp matching w f ≡ true → leads_up w f ≡ true
  sent_leads_up Client f sent = rw sent refl
  sent_leads_up Peer f sent = sent
  sent_leads_up Router f sent = never sent refl

  -- faces of router regions hold nothing
  abbrev pub RoutedHoldNothing : Rows K → Type 0
  RoutedHoldNothing g = Each (λ f. is_routed g f ≡ true → (f.mode ≡ Router) × (f.held ≡ [])) g.faces

  -- faces stay what they are
  pub record Leaves (g h : Rows K) : Type 0 where
    pub mode : h.mode ≡ g.mode
    pub change : Face K → Face K
    pub faces : h.faces ≡ map change g.faces
    pub number : (f : Face K) → (change f).number ≡ f.number
    pub region : (f : Face K) → (change f).region ≡ f.region
    pub bound : (f : Face K) → (change f).bound ≡ f.bound
    pub whatami : (f : Face K) → (change f).mode ≡ f.mode
    pub locals : (f : Face K) → (change f).locals ≡ f.locals
    pub next : (f : Face K) → (change f).next ≡ f.next
    pub held : (f : Face K) → (change f).held ≡ f.held
    pub rows : (f : Face K) → HasRowsInOrder f → HasRowsInOrder (change f)

  -- what is so while faces change but what they hold
  pub record Stands (but : ℕ → Bool) (T : InterestRow K → Bool) (g : Rows K) : Type 0 where
    pub rises : RiseFrom (λ f. f.number) 1 g.faces
    pub rows : Each HasRowsInOrder g.faces
    pub below : Each LocalsBelow g.faces
    pub locals : LocalsAre but T g
    pub routed : RoutedHoldNothing g

  pub stands_leaves : (but : ℕ → Bool) (T : InterestRow K → Bool) (g h : Rows K) → Leaves g h → Stands but T g → Stands but T h
  stands_leaves but T g h leaves stands = record {
    rises = subst (RiseFrom (λ f. f.number) 1) (sym leaves.faces) (rise_map (λ f. f.number) 1 leaves.change g.faces leaves.number stands.rises);
    rows = over HasRowsInOrder HasRowsInOrder leaves.rows stands.rows;
    below = over LocalsBelow LocalsBelow (λ f below. subst (λ n. Each (λ row. row.0 < n) (leaves.change f).locals) (sym (leaves.next f)) (subst (Each (λ row. row.0 < f.next)) (sym (leaves.locals f)) below)) stands.below;
    locals = over (λ f. but f.number ≡ false → is_sent_all cmp matching g.mode f ≡ true → (i : InterestRow K) → local_any f i ≡ T i) (λ f. but f.number ≡ false → is_sent_all cmp matching h.mode f ≡ true → (i : InterestRow K) → local_any f i ≡ T i)
        (λ f own counts sent i.
        ap (λ (rows : ById (InterestRow K)). list_any (λ row. asks_same cmp matching i row.1) rows) (leaves.locals f)
        ∙ own (sym (ap but (leaves.number f)) ∙ counts) (sym (sent_all_same g.mode f (leaves.change f) (leaves.region f) (leaves.bound f)) ∙ ap (λ w. is_sent_all cmp matching w (leaves.change f)) (sym leaves.mode) ∙ sent) i) stands.locals;
    routed = over (λ f. is_routed g f ≡ true → (f.mode ≡ Router) × (f.held ≡ [])) (λ f. is_routed h f ≡ true → (f.mode ≡ Router) × (f.held ≡ []))
        (λ f own routed.
        let both = own (ap (λ (r : Region). (hat_of g.mode r).goes_by_trees) (sym (leaves.region f)) ∙ ap (λ (w : WhatAmI). (hat_of w (leaves.change f).region).goes_by_trees) (sym leaves.mode) ∙ routed) in
        (leaves.whatami f ∙ both.0, leaves.held f ∙ both.1)) stands.routed;
  }
    where
      over : (P Q : Face K → Type 0) → ((f : Face K) → P f → Q (leaves.change f)) → Each P g.faces → Each Q h.faces
      over P Q one all = subst (Each Q) (sym leaves.faces) (each_map Q leaves.change g.faces (each_weaker P (λ f. Q (leaves.change f)) one g.faces all))

  pub held_leaves : (g h : Rows K) → Leaves g h → (i : InterestRow K) → is_held_south cmp matching h i ≡ is_held_south cmp matching g i
  unfolding is_held_south
  held_leaves g h leaves i =
      ap (list_any (λ f. south_any f i)) leaves.faces
      ∙ any-map (λ f. south_any f i) leaves.change g.faces
      ∙ any_alike (λ f. south_any (leaves.change f) i) (λ f. south_any f i)
      (λ f. ap (λ r. not (is_north r) && list_any (λ row. asks_same cmp matching i row.1) (leaves.change f).held) (leaves.region f) ∙ ap (λ (rows : ById (InterestRow K)). not (is_north f.region) && list_any (λ row. asks_same cmp matching i row.1) rows) (leaves.held f)) g.faces

  heard_bound : (now : ℕ) (m : Message K) (f : Face K) → (heard cmp now m f).bound ≡ f.bound
  heard_bound now (message.DeclareToken id e interest node) f = refl
  heard_bound now (message.UndeclareToken id e node) f = refl
  heard_bound now (message.DeclareFinal interest) f = refl
  heard_bound now (message.Interest id mode options e) f = refl
  heard_bound now (message.InterestFinal id) f = refl
  heard_bound now (message.DeclareSubscriber id e interest) f = refl
  heard_bound now (message.DeclareQueryable id e info interest) f = refl

  pub heard_all_bound : (now : ℕ) (ms : List (Message K)) (f : Face K) → (heard_all cmp now ms f).bound ≡ f.bound
  heard_all_bound now ms f = heard_all_leaves cmp (λ f. f.bound) heard_bound now ms f

  heard_mode : (now : ℕ) (m : Message K) (f : Face K) → (heard cmp now m f).mode ≡ f.mode
  heard_mode now (message.DeclareToken id e interest node) f = refl
  heard_mode now (message.UndeclareToken id e node) f = refl
  heard_mode now (message.DeclareFinal interest) f = refl
  heard_mode now (message.Interest id mode options e) f = refl
  heard_mode now (message.InterestFinal id) f = refl
  heard_mode now (message.DeclareSubscriber id e interest) f = refl
  heard_mode now (message.DeclareQueryable id e info interest) f = refl

  pub heard_all_mode : (now : ℕ) (ms : List (Message K)) (f : Face K) → (heard_all cmp now ms f).mode ≡ f.mode
  heard_all_mode now ms f = heard_all_leaves cmp (λ f. f.mode) heard_mode now ms f

  pub held_heard : (ss : Sends K) (g : Rows K) (i : InterestRow K) → is_held_south cmp matching (rows_heard cmp ss g) i ≡ is_held_south cmp matching g i
  unfolding is_held_south rows_heard
  held_heard ss g i =
      let hears = λ (f : Face K). heard_all cmp g.moment (messages_for f.number ss) f in
      any-map (λ f. south_any f i) hears g.faces
      ∙ any_alike (λ f. south_any (hears f) i) (λ f. south_any f i)
      (λ f.
      ap (λ r. not (is_north r) && list_any (λ row. asks_same cmp matching i row.1) (hears f).held) (heard_all-region cmp g.moment (messages_for f.number ss) f)
      ∙ ap (λ (rows : ById (InterestRow K)). not (is_north f.region) && list_any (λ row. asks_same cmp matching i row.1) rows) (heard_all-held cmp g.moment (messages_for f.number ss) f)) g.faces

  -- What faces hear: where it leaves what the others were sent as it should be, all stands.
  pub stands_heard : (but_ but : ℕ → Bool) (T U : InterestRow K → Bool) (ss : Sends K) (g : Rows K) → Stands but_ T g
      → Each (λ f. but f.number ≡ false → is_sent_all cmp matching g.mode f ≡ true → (i : InterestRow K) → local_any (heard_all cmp g.moment (messages_for f.number ss) f) i ≡ U i) g.faces → Stands but U (rows_heard cmp ss g)
  unfolding rows_heard
  stands_heard but_ but T U ss g stands all = record {
    rises = rise_map (λ f. f.number) 1 hears g.faces (λ f. heard_all-number cmp g.moment (messages_for f.number ss) f) stands.rises;
    rows = each_map HasRowsInOrder hears g.faces (each_weaker HasRowsInOrder (λ f. HasRowsInOrder (hears f)) (λ f rows. rows_in_order_heard_all cmp g.moment (messages_for f.number ss) f rows) g.faces stands.rows);
    below = each_map LocalsBelow hears g.faces (each_weaker LocalsBelow (λ f. LocalsBelow (hears f)) (λ f below. below_heard_all g.moment (messages_for f.number ss) f below) g.faces stands.below);
    locals =
        each_map (λ f. but f.number ≡ false → is_sent_all cmp matching g.mode f ≡ true → (i : InterestRow K) → local_any f i ≡ U i) hears g.faces
        (each_weaker (λ f. but f.number ≡ false → is_sent_all cmp matching g.mode f ≡ true → (i : InterestRow K) → local_any (hears f) i ≡ U i) (λ f. but (hears f).number ≡ false → is_sent_all cmp matching g.mode (hears f) ≡ true → (i : InterestRow K) → local_any (hears f) i ≡ U i)
        (λ f own counts sent i.
        own (sym (ap but (heard_all-number cmp g.moment (messages_for f.number ss) f)) ∙ counts)
        (sym (sent_all_same g.mode f (hears f) (heard_all-region cmp g.moment (messages_for f.number ss) f) (heard_all_bound g.moment (messages_for f.number ss) f)) ∙ sent) i) g.faces all);
    routed =
        each_map (λ f. is_routed g f ≡ true → (f.mode ≡ Router) × (f.held ≡ [])) hears g.faces
        (each_weaker (λ f. is_routed g f ≡ true → (f.mode ≡ Router) × (f.held ≡ [])) (λ f. is_routed g (hears f) ≡ true → ((hears f).mode ≡ Router) × ((hears f).held ≡ []))
        (λ f own routed.
        let both = own (ap (λ (r : Region). (hat_of g.mode r).goes_by_trees) (sym (heard_all-region cmp g.moment (messages_for f.number ss) f)) ∙ routed) in
        (heard_all_mode g.moment (messages_for f.number ss) f ∙ both.0, heard_all-held cmp g.moment (messages_for f.number ss) f ∙ both.1)) g.faces stands.routed);
  }
    where
      hears : Face K → Face K
      hears f = heard_all cmp g.moment (messages_for f.number ss) f

  -- where the others hear of no interest
  pub stands_quiet : (but : ℕ → Bool) (T : InterestRow K → Bool) (ss : Sends K) (g : Rows K) → Stands but T g → Each (λ s. IsQuiet s.1) ss → Stands but T (rows_heard cmp ss g)
  stands_quiet but T ss g stands quiet =
      stands_heard but but T T ss g stands
      (each_weaker (λ f. but f.number ≡ false → is_sent_all cmp matching g.mode f ≡ true → (i : InterestRow K) → local_any f i ≡ T i) (λ f. but f.number ≡ false → is_sent_all cmp matching g.mode f ≡ true → (i : InterestRow K) → local_any (heard_all cmp g.moment (messages_for f.number ss) f) i ≡ T i)
      (λ f own counts sent i. ap (λ (rows : ById (InterestRow K)). list_any (λ row. asks_same cmp matching i row.1) rows) (locals_quiet g.moment (messages_for f.number ss) f (each_message_for cmp IsQuiet f.number ss quiet)) ∙ own counts sent i) g.faces stands.locals)

  pub stands_alike : (but : ℕ → Bool) (T U : InterestRow K → Bool) (g : Rows K) → ((i : InterestRow K) → T i ≡ U i) → Stands but T g → Stands but U g
  stands_alike but T U g same_ stands = record {
    rises = stands.rises;
    rows = stands.rows;
    below = stands.below;
    locals = each_weaker (λ f. but f.number ≡ false → is_sent_all cmp matching g.mode f ≡ true → (i : InterestRow K) → local_any f i ≡ T i) (λ f. but f.number ≡ false → is_sent_all cmp matching g.mode f ≡ true → (i : InterestRow K) → local_any f i ≡ U i) (λ f own counts sent i. own counts sent i ∙ same_ i) g.faces stands.locals;
    routed = stands.routed;
  }

  -- faces that are sent all interests in what comes later, but those of some numbers, have sent what is held to the south
  abbrev pub IsUpstream : (ℕ → Bool) → Rows K → Type 0
  IsUpstream but g = Stands but (is_held_south cmp matching g) g
