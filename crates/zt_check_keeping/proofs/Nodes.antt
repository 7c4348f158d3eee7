-- What stays of all gateways after the calls of a line.
use Rattle.std.proofs.Common.{◌≡◌, ◌⊎◌, inl, inr, ℕ, ◌+◌, ◌-◌, Bool, true, false, ◌==◌, not, List, [], ◌∷◌, ◌++◌, filter, Option, None, Some, Ok, Err, refl, sym, ap, subst, ◌∙◌, ⊎_elim, arith, eqb-true}
use Rattle.std.proofs.lemmas.Bool.{eqb-false}
use Rattle.std.specs.declared.cmp.Ordering.{Ordering}
use Rattle.zt_keys.specs.Test.{by_test}
use Rattle.zt_region.specs.Tables.{RegionAnswer}
use Rattle.zt_protocol.specs.Plain.{PlainCall, NewTransport, CloseFace}
use Rattle.zt_protocol.specs.declared.entries.Sent.{Sent}
use Rattle.zt_model.specs.Fabric.{CallAt, Fabric, Node, Place, at_nth, call_at, closing_call, opening_at, with_place, with_rows}
use Rattle.zt_model.specs.Linking.{LinkEnd, end_region}
use Rattle.zt_model.specs.Lists.{nth}
use Rattle.zt_model.specs.Rows.{Face, Rows}
use Rattle.zt_model.specs.Shown.{rows_shown}
use Rattle.zt_model.specs.Transcript.{pendings_printed, with_call, with_opening}
use Rattle.zt_check_keeping.specs.Changed.{held_at, opened_at, tokens_at, unheld_at}
use Rattle.zt_check_keeping.proofs.Called.{GoesOn, IsSame, called, closed_same, opened_same, same_goes, same_itself, same_new, same_then}
use Rattle.zt_check_keeping.proofs.Going.{Goes, goes_then, goes_weaker, stays_all}
use Rattle.zt_check_keeping.proofs.Members.{Among, in_filter}
use Rattle.zt_check_keeping.proofs.Standing.{Has}
use Rattle.zt_check_keeping.proofs.Touched.{Covers}
use Rattle.zt_model.specs.Lists.{same}

-- ---- members by number

some_same : {A : Type 0} (x y : A) → Some x ≡ Some y → x ≡ y
some_same x y e = cc

-- a member of a list of which one was changed
pub changed_at : {A : Type 0} (k n : ℕ) (c : A → A) (xs : List A) (y : A) → nth n (at_nth k c xs) ≡ Some y → (x : A) × ((nth n xs ≡ Some x) × (((n ≡ k) × (y ≡ c x)) ⊎ (y ≡ x)))
changed_at k n c [] y h = let e : None ≡ Some y = h in cc
changed_at k n c (x ∷ xs) y h =
    by_test (k == 1)
    (λ own. by_test (n == 1)
    (λ first. (x, (rw first refl, inl (eqb-true n 1 first ∙ sym (eqb-true k 1 own), sym (some_same (c x) y (rw (own, first) at h))))))
    (λ later. (y, (rw later (rw (own, later) at h), inr refl))))
    (λ other. by_test (n == 1)
    (λ first. (x, (rw first refl, inr (sym (some_same x y (rw (other, first) at h))))))
    (λ later.
    let rest = changed_at (k - 1) (n - 1) c xs y (rw (other, later) at h) in (
      rest.0,
      (rw later rest.1.0, ⊎_elim (λ is. inl (both (eqb-false k 1 other) (eqb-false n 1 later) is.0, is.1)) (λ is. inr is) rest.1.1),
    )))
  where
    both : (k ≡ 1 → ⊥) → (n ≡ 1 → ⊥) → n - 1 ≡ k - 1 → n ≡ k
    both a b e = omega arith

-- a member of a list behind which one was put
pub nth_end : {A : Type 0} (n : ℕ) (xs : List A) (y z : A) → nth n (xs ++ y ∷ []) ≡ Some z → (nth n xs ≡ Some z) ⊎ (z ≡ y)
nth_end n [] y z h = by_test (n == 1) (λ first. inr (sym (some_same y z (rw first at h)))) (λ later. let e : None ≡ Some z = rw later at h in cc)
nth_end n (x ∷ xs) y z h =
    by_test (n == 1)
    (λ first. inl (rw first (rw first at h)))
    (λ later. rw later (nth_end (n - 1) xs y z (rw later at h)))

-- the lists of what is touched, by the number of the gateway
pub record Lists (K : Type 0) : Type 0 where
  pub tokens : List (ℕ × K)
  pub unheld : List (ℕ × ℕ)
  pub opened : List (ℕ × ℕ)
  pub held : List (ℕ × ℕ × ℕ)

module _ {K : Type 0} (cmp : K → K → Ordering) (matching : K → K → Bool) (exact : (a b : K) → same cmp a b ≡ true → a ≡ b) (lists : Lists K) where
  abbrev Token : ℕ → K → Type 0
  Token n e = Among (n, e) lists.tokens

  abbrev Unheld : ℕ → ℕ → Type 0
  Unheld n f = Among (n, f) lists.unheld

  abbrev Opened : ℕ → ℕ → Type 0
  Opened n f = Among (n, f) lists.opened

  abbrev Held : ℕ → ℕ → ℕ → Type 0
  Held n f id = Among (n, f, id) lists.held

  -- a gateway is one of before, which goes on
  abbrev pub NodeGoes : (ℕ → Face K → Face K → Type 0) → List (Node K) → ℕ → Node K → Type 0
  NodeGoes R nodes n node = (old : Node K) × ((nth n nodes ≡ Some old) × Goes (Token n) (Opened n) (R n) old.rows node.rows)

  -- each is
  abbrev pub NodesGo : (ℕ → Face K → Face K → Type 0) → List (Node K) → List (Node K) → Type 0
  NodesGo R nodes later = (n : ℕ) (node : Node K) → nth n later ≡ Some node → NodeGoes R nodes n node

  abbrev pub Same : ℕ → Face K → Face K → Type 0
  Same n = IsSame

  abbrev pub On : ℕ → Face K → Face K → Type 0
  On n = GoesOn cmp matching (Unheld n) (Held n)

  on_itself : (n : ℕ) (o : Face K) → On n o o
  on_itself n o = same_goes cmp matching (Unheld n) (Held n) o o (same_itself o)

  nodes_stay : (R : ℕ → Face K → Face K → Type 0) → ((n : ℕ) (o : Face K) → R n o o) → (nodes : List (Node K)) → NodesGo R nodes nodes
  nodes_stay R same nodes n node at = (node, (at, stays_all (Token n) (Opened n) (R n) (same n) node.rows))

  pub all_stay : (nodes : List (Node K)) → NodesGo On nodes nodes
  all_stay nodes = nodes_stay On on_itself nodes

  pub same_stay : (nodes : List (Node K)) → NodesGo Same nodes nodes
  same_stay nodes = nodes_stay Same (λ n o. same_itself o) nodes

  pub nodes_weaker : (nodes later : List (Node K)) → NodesGo Same nodes later → NodesGo On nodes later
  nodes_weaker nodes later go n node at =
      let old = go n node at in
      (old.0, (old.1.0, goes_weaker (Token n) (Opened n) IsSame (On n) (same_goes cmp matching (Unheld n) (Held n)) old.0.rows node.rows old.1.1))

  pub nodes_then : (one two three : List (Node K)) → NodesGo Same one two → NodesGo Same two three → NodesGo Same one three
  nodes_then one two three first second n node at =
      let mid = second n node at in
      let old = first n mid.0 mid.1.0 in
      (old.0, (old.1.0, goes_then (Token n) (Opened n) IsSame same_then (same_new (Token n) (Opened n)) old.0.rows mid.0.rows node.rows old.1.1 mid.1.1))

  -- the rows of one gateway change
  abbrev with_changed : ℕ → (Rows K → Rows K) → List (Node K) → List (Node K)
  with_changed k change nodes = at_nth k (λ (node : Node K). record node { rows = change node.rows }) nodes

  one_goes : (R : ℕ → Face K → Face K → Type 0) → ((n : ℕ) (o : Face K) → R n o o) → (k : ℕ) (change : Rows K → Rows K) (nodes : List (Node K))
      → ((old : Node K) → nth k nodes ≡ Some old → Goes (Token k) (Opened k) (R k) old.rows (change old.rows)) → NodesGo R nodes (with_changed k change nodes)
  one_goes R same k change nodes goes n node at =
      let found = changed_at k n (λ (x : Node K). record x { rows = change x.rows }) nodes node at in
      (found.0, (found.1.0, ⊎_elim (λ is. own found.0 found.1.0 is.0 is.1) (λ is. other found.0 is) found.1.1))
    where
      own : (old : Node K) → nth n nodes ≡ Some old → n ≡ k → node ≡ record old { rows = change old.rows } → Goes (Token n) (Opened n) (R n) old.rows node.rows
      own old there number is =
          let goes_here : Goes (Token k) (Opened k) (R k) old.rows (change old.rows) = goes old (subst (λ i. nth i nodes ≡ Some old) number there) in
          subst (λ i. Goes (Token i) (Opened i) (R i) old.rows node.rows) (sym number)
          (subst (λ (g : Rows K). Goes (Token k) (Opened k) (R k) old.rows g) (sym (ap (λ (x : Node K). x.rows) is)) goes_here)

      other : (old : Node K) → node ≡ old → Goes (Token n) (Opened n) (R n) old.rows node.rows
      other old is = subst (λ (x : Node K). Goes (Token n) (Opened n) (R n) old.rows x.rows) (sym is) (stays_all (Token n) (Opened n) (R n) (same n) old.rows)

  -- ---- one call

  -- the lists of a call are within these
  pub record Within (found : Option (CallAt K)) : Type 0 where
    pub tokens : (x : ℕ × K) → Among x (tokens_at found) → Among x lists.tokens
    pub unheld : (x : ℕ × ℕ) → Among x (unheld_at found) → Among x lists.unheld
    pub opened : (x : ℕ × ℕ) → Among x (opened_at found) → Among x lists.opened
    pub held : (x : ℕ × ℕ × ℕ) → Among x (held_at found) → Among x lists.held

  -- the rows of a call are those of its gateway
  abbrev pub IsOwn : List (Node K) → Option (CallAt K) → Type 0
  IsOwn nodes None = Unit {0}
  IsOwn nodes (Some at) = (old : Node K) → nth at.gateway nodes ≡ Some old → at.rows ≡ old.rows

  pub call_goes : (s : Fabric K) (ms : List (Sent K)) (found : Option (CallAt K)) → IsOwn s.gateways found → Within found → NodesGo On s.gateways (with_call cmp matching ms found s).gateways
  call_goes s ms None own within = all_stay s.gateways
  call_goes s ms (Some at) own within =
      one_goes On on_itself at.gateway (rows_shown cmp (pendings_printed s ms at) at.call) s.gateways
      (λ old there.
      called cmp matching exact (Token at.gateway) (Unheld at.gateway) (Opened at.gateway) (Held at.gateway) at.gateway (pendings_printed s ms at) at.call old.rows
      (subst (λ (g : Rows K). Covers (Token at.gateway) (Unheld at.gateway) (Opened at.gateway) (Held at.gateway) at.gateway g at.call) (own old there) covers))
    where
      covers : Covers (Token at.gateway) (Unheld at.gateway) (Opened at.gateway) (Held at.gateway) at.gateway at.rows at.call
      covers = record {
        tokens = λ e there. within.tokens (at.gateway, e) there;
        unheld = λ n there. within.unheld (at.gateway, n) there;
        opened = λ n there. within.opened (at.gateway, n) there;
        held = λ n id there. within.held (at.gateway, n, id) there;
      }

  pub own_at : (nodes : List (Node K)) (s : Fabric K) → s.gateways ≡ nodes → (n : ℕ) (call : PlainCall K) → IsOwn nodes (call_at s n call)
  own_at nodes s is n call = go (nth n s.gateways) refl
    where
      go : (found : Option (Node K)) → nth n s.gateways ≡ found → IsOwn nodes (elim found [ None ↦ None | Some node ↦ Some (record { gateway = n; rows = node.rows; call = call }) ])
      go None none = tt
      go (Some node) some = λ old there. ap (λ (x : Node K). x.rows) (some_same node old (sym some ∙ (ap (nth n) is ∙ there)))

  -- ---- a face that opens

  opening_goes : (s : Fabric K) (n : ℕ) (call : PlainCall K) → ((ps : List (ℕ × ℕ)) (old : Node K) → nth n s.gateways ≡ Some old → Goes (Token n) (Opened n) IsSame old.rows (rows_shown cmp ps call old.rows))
      → NodesGo Same s.gateways (with_opening cmp matching (call_at s n call) s).gateways
  opening_goes s n call goes = go (nth n s.gateways)
    where
      go : (found : Option (Node K)) → NodesGo Same s.gateways (with_opening cmp matching (elim found [ None ↦ None | Some node ↦ Some (record { gateway = n; rows = node.rows; call = call }) ]) s).gateways
      go None = nodes_stay Same (λ k o. same_itself o) s.gateways
      go (Some node) =
          let at : CallAt K = record { gateway = n; rows = node.rows; call = call } in
          one_goes Same (λ k o. same_itself o) n (rows_shown cmp (pendings_printed (with_place n s) [] at) call) s.gateways
          (λ old there. goes (pendings_printed (with_place n s) [] at) old there)

  abbrev call_by : LinkEnd K → RegionAnswer → Option (PlainCall K)
  call_by end answer = elim answer [ Ok given ↦ Some (NewTransport end.other.rows.zid end.other.rows.mode given.0 given.1 end.first) | Err e ↦ None ]

  abbrev with_end : Fabric K → LinkEnd K → RegionAnswer → Fabric K
  with_end s end answer = with_opening cmp matching (elim (call_by end answer) [ None ↦ None | Some call ↦ call_at s end.gateway call ]) s

  pub end_goes : (s : Fabric K) (end : LinkEnd K) → ((old : Node K) → nth end.gateway s.gateways ≡ Some old → Opened end.gateway (old.rows.made + 1))
      → NodesGo Same s.gateways (with_opening cmp matching (opening_at cmp matching s end) s).gateways
  end_goes s end opened = go (end_region end.node end.other)
    where
      go : (answer : RegionAnswer) → NodesGo Same s.gateways (with_end s end answer).gateways
      go (Err e) = nodes_stay Same (λ k o. same_itself o) s.gateways
      go (Ok given) =
          opening_goes s end.gateway (NewTransport end.other.rows.zid end.other.rows.mode given.0 given.1 end.first)
          (λ ps old there.
          opened_same cmp matching exact (Token end.gateway) (Unheld end.gateway) (Opened end.gateway) (Held end.gateway) end.gateway ps end.other.rows.zid end.other.rows.mode given.0 given.1 end.first old.rows (opened old there))

  -- how many faces a gateway has made when one opened
  abbrev Made : Node K → Node K → Type 0
  Made old node = (node.rows.made ≡ old.rows.made) ⊎ (node.rows.made ≡ old.rows.made + 1)

  pub end_made : (s : Fabric K) (end : LinkEnd K) (n : ℕ) (node : Node K) → nth n (with_opening cmp matching (opening_at cmp matching s end) s).gateways ≡ Some node
      → (old : Node K) × ((nth n s.gateways ≡ Some old) × Made old node)
  unfolding rows_shown
  end_made s end n node = go (end_region end.node end.other)
    where
      there : (call : PlainCall K) (found : Option (Node K)) → ((ps : List (ℕ × ℕ)) (old : Node K) → (rows_shown cmp ps call old.rows).made ≡ old.rows.made + 1)
          → nth n (with_opening cmp matching (elim found [ None ↦ None | Some x ↦ Some (record { gateway = end.gateway; rows = x.rows; call = call }) ]) s).gateways ≡ Some node
          → (old : Node K) × ((nth n s.gateways ≡ Some old) × Made old node)
      there call None more at = (node, (at, inl refl))
      there call (Some x) more at =
          let place : CallAt K = record { gateway = end.gateway; rows = x.rows; call = call } in
          let ps = pendings_printed (with_place end.gateway s) [] place in
          let found = changed_at end.gateway n (λ (y : Node K). record y { rows = rows_shown cmp ps call y.rows }) s.gateways node at in
          (found.0, (found.1.0, ⊎_elim (λ is. inr (ap (λ (y : Node K). y.rows.made) is.1 ∙ more ps found.0)) (λ is. inl (ap (λ (y : Node K). y.rows.made) is)) found.1.1))

      go : (answer : RegionAnswer) → nth n (with_end s end answer).gateways ≡ Some node → (old : Node K) × ((nth n s.gateways ≡ Some old) × Made old node)
      go (Err e) at = (node, (at, inl refl))
      go (Ok given) at = there (NewTransport end.other.rows.zid end.other.rows.mode given.0 given.1 end.first) (nth end.gateway s.gateways) (λ ps old. refl) at

  -- ---- a face that closes

  -- all tokens of the face are touched
  abbrev pub Closes : Fabric K → ℕ → Type 0
  Closes s face =
      (p : Place) → nth face s.faces ≡ Some p → (old : Node K) → nth p.gateway s.gateways ≡ Some old → (o : Face K) → Among o old.rows.faces → p.face ≡ o.number → (k : K) → Has k o.live → Token p.gateway k

  abbrev closing_at : Fabric K → Option Place → Option (CallAt K)
  closing_at s None = None
  closing_at s (Some p) = call_at s p.gateway (CloseFace p.face)

  pub closing_goes : (s : Fabric K) (face : ℕ) → Closes s face → NodesGo Same s.gateways (with_call cmp matching [] (closing_call s face) s).gateways
  closing_goes s face closes = go (nth face s.faces) refl
    where
      there : (p : Place) (found : Option (Node K)) → nth face s.faces ≡ Some p
          → NodesGo Same s.gateways (with_call cmp matching [] (elim found [ None ↦ None | Some x ↦ Some (record { gateway = p.gateway; rows = x.rows; call = CloseFace p.face }) ]) s).gateways
      there p None is = nodes_stay Same (λ k o. same_itself o) s.gateways
      there p (Some x) is =
          let at : CallAt K = record { gateway = p.gateway; rows = x.rows; call = CloseFace p.face } in
          one_goes Same (λ k o. same_itself o) p.gateway (rows_shown cmp (pendings_printed s [] at) (CloseFace p.face)) s.gateways
          (λ old here.
          closed_same cmp matching exact (Token p.gateway) (Unheld p.gateway) (Opened p.gateway) (Held p.gateway) p.gateway (pendings_printed s [] at) p.face old.rows (closes p is old here))

      go : (place : Option Place) → nth face s.faces ≡ place → NodesGo Same s.gateways (with_call cmp matching [] (closing_at s place) s).gateways
      go None none = nodes_stay Same (λ k o. same_itself o) s.gateways
      go (Some p) some = there p (nth p.gateway s.gateways) some

  -- what is so of a face that closes is so still when another has closed
  pub still_closes : (s : Fabric K) (one two : ℕ) → Closes s two → Closes (with_call cmp matching [] (closing_call s one) s) two
  unfolding rows_shown
  still_closes s one two closes = go (nth one s.faces)
    where
      there : (p : Place) (found : Option (Node K)) → Closes (with_call cmp matching [] (elim found [ None ↦ None | Some x ↦ Some (record { gateway = p.gateway; rows = x.rows; call = CloseFace p.face }) ]) s) two
      there p None q is node here o at own k has = closes q is node here o at own k has
      there p (Some x) q is node here o at own k has =
          let found = changed_at p.gateway q.gateway (λ (y : Node K). record y { rows = rows_shown cmp (pendings_printed s [] (record { gateway = p.gateway; rows = x.rows; call = CloseFace p.face })) (CloseFace p.face) y.rows }) s.gateways node here in
          closes q is found.0 found.1.0 o
          (⊎_elim
          (λ changed. in_filter (λ (f : Face K). not (p.face == f.number)) o found.0.rows.faces (subst (λ (y : Node K). Among o y.rows.faces) changed.1 at))
          (λ same_. subst (λ (y : Node K). Among o y.rows.faces) same_ at) found.1.1)
          own k has

      go : (place : Option Place) → Closes (with_call cmp matching [] (closing_at s place) s) two
      go None = closes
      go (Some p) = there p (nth p.gateway s.gateways)
