-- Where tokens stand, and what faces keep and seek, by the rows that say so.
use Rattle.std.proofs.Common.{◌≡◌, ◌⊎◌, inl, inr, ℕ, Bool, true, false, ◌&&◌, ◌||◌, ◌==◌, not, List, [], ◌∷◌, map, refl, sym, ap, subst, ◌∙◌, ⊎_elim}
use Rattle.std.proofs.lemmas.Bool.{and_from, and_parts, not-true, or_cases, or_left, or_right}
use Rattle.std.specs.List.{list_any}
use Rattle.std.specs.declared.cmp.Ordering.{Ordering}
use Rattle.zt_region.specs.declared.region.Region.{Region}
use Rattle.zt_region.specs.Region.{is_north, zid_eq}
use Rattle.zt_region.specs.Admission.{admits}
use Rattle.zt_protocol.specs.Interest.{is_current}
use Rattle.zt_model.specs.Lists.{same}
use Rattle.zt_model.specs.Rows.{ById, Face, InterestRow, RoutedRow, Rows}
use Rattle.zt_model.specs.Seen.{concerns, interests_held, is_interested, is_owed, is_seen, is_seen_and_admitted, may_hear, sees, stands_in}
use Rattle.zt_model.specs.Visible.{keeps}
use Rattle.zt_check_keeping.proofs.Members.{Among, any_member, in_map, map_in, member_any}

not_false : (b : Bool) → not b ≡ true → b ≡ false
not_false true h = cc
not_false false h = refl

module _ {K : Type 0} where
  -- one of these rows is of the expression
  abbrev pub Has : K → ById K → Type 0
  Has e rows = (id : ℕ) × Among (id, e) rows

  -- a face in one of the regions declares the expression
  pub record StandsAt (regions : Region → Bool) (fs : List (Face K)) (e : K) : Type 0 where
    pub face : Face K
    pub there : Among face fs
    pub region : regions face.region ≡ true
    pub has : Has e face.live

  -- another router than the one of this zid does
  pub record IsRoutedIn (regions : Region → Bool) (g : Rows K) (e : K) : Type 0 where
    pub row : RoutedRow K
    pub there : Among row g.routed
    pub region : regions row.region ≡ true
    pub expr : e ≡ row.expr
    pub other : zid_eq row.source g.zid ≡ false

  abbrev pub Stands : (Region → Bool) → Rows K → K → Type 0
  Stands regions g e = StandsAt regions g.faces e ⊎ IsRoutedIn regions g e

  -- an interest that a face holds, with its id
  pub record Holds (held : ById (InterestRow K)) (test : InterestRow K → Bool) : Type 0 where
    pub row : ℕ × InterestRow K
    pub there : Among row held
    pub passes : test row.1 ≡ true

  pub holds_any : (held : ById (InterestRow K)) (test : InterestRow K → Bool) → list_any test (map (λ row. row.1) held) ≡ true → Holds held test
  holds_any held test any =
      let found = any_member test (map (λ row. row.1) held) any in
      let at = in_map (λ (row : ℕ × InterestRow K). row.1) found.0 held found.1.0 in
      record { row = at.0; there = at.1.0; passes = ap test (sym at.1.1) ∙ found.1.1 }

  pub any_holds : (held : ById (InterestRow K)) (test : InterestRow K → Bool) → Holds held test → list_any test (map (λ row. row.1) held) ≡ true
  any_holds held test h = member_any test h.row.1 (map (λ row. row.1) held) (map_in (λ (row : ℕ × InterestRow K). row.1) h.row held h.there) h.passes

module _ {K : Type 0} (cmp : K → K → Ordering) (itself : (e : K) → same cmp e e ≡ true) (exact : (a b : K) → same cmp a b ≡ true → a ≡ b) where
  pub has_any : (e : K) (rows : ById K) → list_any (λ row. same cmp e row.1) rows ≡ true → Has e rows
  has_any e rows any =
      let found = any_member (λ (row : ℕ × K). same cmp e row.1) rows any in
      let is : e ≡ found.0.1 = exact e found.0.1 found.1.1 in
      (found.0.0, subst (λ (k : K). Among (found.0.0, k) rows) (sym is) found.1.0)

  pub any_has : (e : K) (rows : ById K) → Has e rows → list_any (λ row. same cmp e row.1) rows ≡ true
  any_has e rows h = member_any (λ (row : ℕ × K). same cmp e row.1) (h.0, e) rows h.1 (itself e)

  abbrev declares : (Region → Bool) → K → Face K → Bool
  declares regions e f = regions f.region && list_any (λ row. same cmp e row.1) f.live

  abbrev routes : (Region → Bool) → Rows K → K → RoutedRow K → Bool
  routes regions g e row = (regions row.region && same cmp e row.expr) && not (zid_eq row.source g.zid)

  pub stands_from : (regions : Region → Bool) (g : Rows K) (e : K) → stands_in cmp regions g e ≡ true → Stands regions g e
  stands_from regions g e h = ⊎_elim (λ here. inl (at_face here)) (λ here. inr (at_router here)) (or_cases (list_any (declares regions e) g.faces) (list_any (routes regions g e) g.routed) h)
    where
      at_face : list_any (declares regions e) g.faces ≡ true → StandsAt regions g.faces e
      at_face any =
          let found = any_member (declares regions e) g.faces any in
          let parts = and_parts (regions found.0.region) (list_any (λ row. same cmp e row.1) found.0.live) found.1.1 in
          record { face = found.0; there = found.1.0; region = parts.0; has = has_any e found.0.live parts.1 }

      at_router : list_any (routes regions g e) g.routed ≡ true → IsRoutedIn regions g e
      at_router any =
          let found = any_member (routes regions g e) g.routed any in
          let parts = and_parts (regions found.0.region && same cmp e found.0.expr) (not (zid_eq found.0.source g.zid)) found.1.1 in
          let both = and_parts (regions found.0.region) (same cmp e found.0.expr) parts.0 in
          record { row = found.0; there = found.1.0; region = both.0; expr = exact e found.0.expr both.1; other = not_false (zid_eq found.0.source g.zid) parts.1 }

  pub stands_to : (regions : Region → Bool) (g : Rows K) (e : K) → Stands regions g e → stands_in cmp regions g e ≡ true
  stands_to regions g e (inl h) =
      or_left (list_any (declares regions e) g.faces) (list_any (routes regions g e) g.routed)
      (member_any (declares regions e) h.face g.faces h.there (and_from (regions h.face.region) (list_any (λ row. same cmp e row.1) h.face.live) h.region (any_has e h.face.live h.has)))
  stands_to regions g e (inr h) =
      or_right (list_any (declares regions e) g.faces) (list_any (routes regions g e) g.routed)
      (member_any (routes regions g e) h.row g.routed h.there
      (and_from (regions h.row.region && same cmp e h.row.expr) (not (zid_eq h.row.source g.zid))
      (and_from (regions h.row.region) (same cmp e h.row.expr) h.region (ap (same cmp e) (sym h.expr) ∙ itself e)) (ap not h.other)))

  -- ---- what is seen and kept

  pub seen_stands : (g : Rows K) (own : Region) (e : K) → is_seen cmp g own e ≡ true → Stands (sees own) g e
  unfolding is_seen
  seen_stands g own e h = stands_from (sees own) g e h

  pub stands_seen : (g : Rows K) (own : Region) (e : K) → Stands (sees own) g e → is_seen cmp g own e ≡ true
  unfolding is_seen
  stands_seen g own e h = stands_to (sees own) g e h

  -- the regions that a face of this one sees, and from which it is admitted
  abbrev pub shown : Rows K → Region → Region → Bool
  shown g own source = sees own source && admits g.refused source own

  pub admitted_stands : (g : Rows K) (own : Region) (e : K) → is_seen_and_admitted cmp g own e ≡ true → Stands (shown g own) g e
  unfolding is_seen_and_admitted
  admitted_stands g own e h = stands_from (shown g own) g e h

  pub stands_admitted : (g : Rows K) (own : Region) (e : K) → Stands (shown g own) g e → is_seen_and_admitted cmp g own e ≡ true
  unfolding is_seen_and_admitted
  stands_admitted g own e h = stands_to (shown g own) g e h

  pub keeps_has : (f : Face K) (e : K) → keeps cmp f e ≡ true → Has e f.told
  keeps_has f e h = has_any e f.told h

  pub has_keeps : (f : Face K) (e : K) → Has e f.told → keeps cmp f e ≡ true
  has_keeps f e h = any_has e f.told h

module _ {K : Type 0} (matching : K → K → Bool) where
  -- ---- what is sought

  abbrev asks_now : K → InterestRow K → Bool
  asks_now e interest = concerns matching interest e && is_current interest.mode

  pub Hears : Face K → K → Type 0
  Hears f e = (is_north f.region ≡ true) ⊎ Holds f.held (λ interest. concerns matching interest e)

  pub hears_from : (f : Face K) (e : K) → may_hear matching f e ≡ true → (is_north f.region ≡ true) ⊎ Holds f.held (λ interest. concerns matching interest e)
  unfolding may_hear is_interested
  hears_from f e h =
      ⊎_elim (λ north. inl north) (λ held. inr (holds_any f.held (λ interest. concerns matching interest e) held))
      (or_cases (is_north f.region) (list_any (λ interest. concerns matching interest e) (interests_held matching f)) h)

  pub hears_to : (f : Face K) (e : K) → (is_north f.region ≡ true) ⊎ Holds f.held (λ interest. concerns matching interest e) → may_hear matching f e ≡ true
  unfolding may_hear is_interested
  hears_to f e (inl north) = or_left (is_north f.region) (list_any (λ interest. concerns matching interest e) (interests_held matching f)) north
  hears_to f e (inr h) =
      or_right (is_north f.region) (list_any (λ interest. concerns matching interest e) (interests_held matching f)) (any_holds f.held (λ interest. concerns matching interest e) h)

  pub owed_from : (f : Face K) (e : K) → is_owed matching f e ≡ true → (is_north f.region ≡ true) ⊎ Holds f.held (asks_now e)
  unfolding is_owed
  owed_from f e h =
      ⊎_elim (λ north. inl north) (λ held. inr (holds_any f.held (asks_now e) held))
      (or_cases (is_north f.region) (list_any (asks_now e) (interests_held matching f)) h)

  pub owed_to : (f : Face K) (e : K) → (is_north f.region ≡ true) ⊎ Holds f.held (asks_now e) → is_owed matching f e ≡ true
  unfolding is_owed
  owed_to f e (inl north) = or_left (is_north f.region) (list_any (asks_now e) (interests_held matching f)) north
  owed_to f e (inr h) = or_right (is_north f.region) (list_any (asks_now e) (interests_held matching f)) (any_holds f.held (asks_now e) h)
