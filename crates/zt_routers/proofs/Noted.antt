-- Numbers of faces that are noted one after another, and what the others are sent: nothing.
use Rattle.std.proofs.Common.{◌≡◌, ◌==◌, ◌&&◌, ◌||◌, ◌+◌, ◌<◌, ◌≤◌, ◌++◌, ◌∷◌, ℕ, Bool, true, false, not, cond, List, [], Option, Some, None, ap, arith, drop, flat_map, get_or, length, refl, subst, suc, sym, ◌∙◌}
use Rattle.std.proofs.lemmas.Bool.{and_parts}
use Rattle.std.proofs.lemmas.Bool.Decides.{nat_tests}
use Rattle.std.proofs.lemmas.List.{drop_all, drop_more}
use Rattle.std.specs.List.{list_any}
use Rattle.std.specs.declared.cmp.Ordering.{Ordering}
use Rattle.zt_keys.specs.Test.{by_test}
use Rattle.zt_region.specs.declared.region.Region.{Region}
use Rattle.zt_region.specs.declared.region.Zid.{Zid}
use Rattle.zt_region.specs.Region.{region_eq, region_eq-refl, region_eq-same, zid_eq, zid_eq-same}
use Rattle.zt_protocol.specs.Plain.{Trees}
use Rattle.zt_model.specs.Lists.{first_where, is_some_and}
use Rattle.zt_model.specs.Rows.{Face, Rows}
use Rattle.zt_model.specs.Trees.{counted_table, hide_to, is_child, is_face_of_router, is_hidden, is_newly_shown, pass_to, routed_expressions, routers_in_order, show_to, table_of, unpass_to}
use Rattle.zt_link_state.specs.Lookups.{HaveChildrenOf}
use Rattle.zt_routers.specs.Branches.{is_reached, passed, unpassed}
use Rattle.zt_routers.specs.Greeting.{declared, greeted, greeted_by, has_child, is_new_child}
use Rattle.zt_routers.specs.Reached.{KeepsAll, Notes, are_at_children, are_at_new_children, has, is_at_child, is_at_new_child, is_hidden_by, is_own_child, is_shown_by}

never : {P : Type 0} (b : Bool) → b ≡ true → b ≡ false → P
never true t f = cc
never false t f = cc

or_first : (a b : Bool) → a ≡ true → (a || b) ≡ true
or_first true b t = refl
or_first false b t = cc

or_second : (a b : Bool) → b ≡ true → (a || b) ≡ true
or_second true b t = refl
or_second false b t = t

both : (a b : Bool) → a ≡ true → b ≡ true → (a && b) ≡ true
both true b s t = t
both false b s t = cc

swap : (a b : ℕ) → (a == b) ≡ true → (b == a) ≡ true
swap a b h = grind (arith, nat_tests)

unless : {A : Type 0} (b : Bool) (xs : List A) → b ≡ false → cond b xs [] ≡ []
unless true xs is = cc
unless false xs is = refl

-- ---- one number more

has-before : (n m : ℕ) (old : List ℕ) → has n old ≡ true → has n (old ++ m ∷ []) ≡ true
has-before n m [] h = cc
has-before n m (k ∷ old) h = by_test (n == k) (λ t. rw t refl) (λ t. rw t (has-before n m old (rw t at h)))

has-last : (n m : ℕ) (old : List ℕ) → (n == m) ≡ true → has n (old ++ m ∷ []) ≡ true
has-last n m [] h = rw h refl
has-last n m (k ∷ old) h = or_second (n == k) (has n (old ++ m ∷ [])) (has-last n m old h)

-- a list without length is empty
positive : {P : Type 0} (n : ℕ) → (suc n == 0) ≡ true → P
positive n is = absurd (grind (arith, nat_tests))

pub empty_of : {A : Type 0} (xs : List A) → (length xs == 0) ≡ true → xs ≡ []
empty_of [] is = refl
empty_of (x ∷ xs) is = positive (length xs) is

-- those listed as children all count
pub counted_children : (t : Trees) → t.children ≡ (counted_table t).children
unfolding counted_table
counted_children t = refl

module _ {K : Type 0} where
  pub same_notes : (p : Face K → Bool) (old : List ℕ) → ((f : Face K) → p f ≡ true → ⊥) → Notes p old old
  same_notes p old none = record { kept = λ n h. h; there = λ f h. absurd (none f h) }

  pub weaker_notes : (p q : Face K → Bool) (old new : List ℕ) → ((f : Face K) → q f ≡ true → p f ≡ true) → Notes p old new → Notes q old new
  weaker_notes p q old new weaker notes = record { kept = notes.kept; there = λ f h. notes.there f (weaker f h) }

  -- a face whose number isn't noted isn't reached
  pub unnoted : (p : Face K → Bool) (old new : List ℕ) → Notes p old new → (f : Face K) → has f.number new ≡ false → p f ≡ false
  unnoted p old new notes f off = by_test (p f) (λ t. never (has f.number new) (notes.there f t) off) (λ t. t)

-- ---- the face of a child

module _ {K : Type 0} (g : Rows K) (region : Region) (c : Zid × Zid) where
  abbrev is_its : Face K → Bool
  is_its f = region_eq f.region region && zid_eq f.zid c.1

  stands_first : (f : Face K) → is_at_child g region c f ≡ true → is_some_and (first_where is_its g.faces) (λ x. x.number == f.number) ≡ true
  stands_first f at =
      let parts = and_parts (region_eq f.region region) (zid_eq f.zid c.1 && is_face_of_router g f) at in
      let more = and_parts (zid_eq f.zid c.1) (is_face_of_router g f) parts.1 in
      let r = region_eq-same f.region region parts.0 in
      let z = zid_eq-same f.zid c.1 more.0 in
      subst (λ (s : Region × Zid). is_some_and (first_where (λ x. region_eq x.region s.0 && zid_eq x.zid s.1) g.faces) (λ x. x.number == f.number) ≡ true) (λ i. (r i, z i)) more.1

  pub child_noted : (x : Face K) → Some x ≡ first_where is_its g.faces → (old : List ℕ) → Notes (is_at_child g region c) old (old ++ x.number ∷ [])
  child_noted x found old = record {
    kept = λ n h. has-before n x.number old h;
    there = λ f at. has-last f.number x.number old (swap x.number f.number (subst (λ (o : Option (Face K)). is_some_and o (λ y. y.number == f.number) ≡ true) (sym found) (stands_first f at)));
  }

  pub child_unnoted : None ≡ first_where is_its g.faces → (old : List ℕ) → Notes (is_at_child g region c) old old
  child_unnoted none old =
      same_notes (is_at_child g region c) old
      (λ f at. let no : false ≡ true = subst (λ (o : Option (Face K)). is_some_and o (λ y. y.number == f.number) ≡ true) (sym none) (stands_first f at) in cc)

-- ---- one after another

pub record NotesBut {K X : Type 0} (reached : X → Face K → Bool) (all left : List X) (old new : List ℕ) : Type 0 where
  pub kept : KeepsAll old new
  pub there : (f : Face K) → list_any (λ x. reached x f) all ≡ true → (has f.number new || list_any (λ x. reached x f) left) ≡ true

module _ {K X : Type 0} (reached : X → Face K → Bool) (all : List X) where
  pub notes_none : (old : List ℕ) → NotesBut reached all all old old
  notes_none old = record { kept = λ n h. h; there = λ f h. or_second (has f.number old) (list_any (λ x. reached x f) all) h }

  pub notes_more : (x : X) (left later : List X) (old mid new : List ℕ) → left ≡ x ∷ later → NotesBut reached all left old mid → Notes (reached x) mid new → NotesBut reached all later old new
  notes_more x left later old mid new is so_far more = record {
    kept = λ n h. more.kept n (so_far.kept n h);
    there = λ f h.
        let was : (has f.number mid || (reached x f || list_any (λ y. reached y f) later)) ≡ true = subst (λ (ys : List X). (has f.number mid || list_any (λ y. reached y f) ys) ≡ true) is (so_far.there f h) in
        by_test (has f.number mid)
        (λ t. or_first (has f.number new) (list_any (λ y. reached y f) later) (more.kept f.number t))
        (λ off. by_test (reached x f)
        (λ t. or_first (has f.number new) (list_any (λ y. reached y f) later) (more.there f t))
        (λ out. or_second (has f.number new) (list_any (λ y. reached y f) later) (rw (off, out) at was)));
  }

  pub notes_all : (left : List X) (old new : List ℕ) → left ≡ [] → NotesBut reached all left old new → Notes (λ f. list_any (λ x. reached x f) all) old new
  notes_all left old new is so_far = record {
    kept = so_far.kept;
    there = λ f h. last (has f.number new) (subst (λ (ys : List X). (has f.number new || list_any (λ y. reached y f) ys) ≡ true) is (so_far.there f h));
  }
    where
      last : (b : Bool) → (b || false) ≡ true → b ≡ true
      last true h = refl
      last false h = cc

  -- by an index
  pub notes_next : (i : ℕ) (d : X) (old mid new : List ℕ) → i < length all → NotesBut reached all (drop i all) old mid → Notes (reached (get_or all i d)) mid new → NotesBut reached all (drop (i + 1) all) old new
  notes_next i d old mid new within so_far more = notes_more (get_or all i d) (drop i all) (drop (i + 1) all) old mid new (drop_more all i d within) so_far more

  pub notes_done : (i : ℕ) (old new : List ℕ) → length all ≤ i → NotesBut reached all (drop i all) old new → Notes (λ f. list_any (λ x. reached x f) all) old new
  notes_done i old new past so_far = notes_all (drop i all) old new (drop_all i all past) so_far

-- ---- along a branch

module _ {K : Type 0} (g : Rows K) (region : Region) where
  at_one : (children : List (Zid × Zid)) (f : Face K) → region_eq f.region region ≡ true → is_face_of_router g f ≡ true → list_any (λ c. zid_eq f.zid c.1) children ≡ true
      → are_at_children g region children f ≡ true
  at_one [] f here stands h = cc
  at_one (c ∷ cs) f here stands h =
      by_test (zid_eq f.zid c.1)
      (λ t. rw (here, t, stands) refl)
      (λ t. or_second (is_at_child g region c f) (are_at_children g region cs f) (at_one cs f here stands (rw t at h)))

  -- a region that was handed no table has no children
  pub childless : (source : Zid) (f : Face K) (t : Trees) → t ≡ record { routers = []; links = []; children = [] } → is_child g t source f ≡ false
  unfolding is_child
  childless source f t is = ap (λ (u : Trees). list_any (λ c. zid_eq source c.0 && zid_eq f.zid c.1) u.children && is_face_of_router g f) is

  -- faces that aren't at the children aren't told of tokens that go on, nor of those that are gone
  unreached : (children : List (Zid × Zid)) (f : Face K) → are_at_children g region children f ≡ false → is_reached g region children f ≡ false
  unreached children f off =
      by_test (is_reached g region children f)
      (λ t.
      let parts = and_parts (region_eq f.region region) (list_any (λ c. zid_eq f.zid c.1) children && is_face_of_router g f) t in
      let more = and_parts (list_any (λ c. zid_eq f.zid c.1) children) (is_face_of_router g f) parts.1 in
      never (are_at_children g region children f) (at_one children f parts.0 more.1 more.0) off)
      (λ t. t)

  pub passes_none : (children : List (Zid × Zid)) (node : ℕ) (e : K) (f : Face K) → are_at_children g region children f ≡ false → passed g region children node e f ≡ []
  passes_none children node e f off = unless (is_reached g region children f) (_ ∷ []) (unreached children f off)

  pub unpasses_none : (children : List (Zid × Zid)) (node : ℕ) (e : K) (f : Face K) → are_at_children g region children f ≡ false → unpassed g region children node e f ≡ []
  unpasses_none children node e f off = unless (is_reached g region children f) (_ ∷ []) (unreached children f off)

-- ---- in the regions that were handed a table

module _ {A : Type 0} (p q : A → Bool) where
  found_both : (xs : List A) (x : A) → first_where p xs ≡ Some x → q x ≡ true → list_any (λ y. p y && q y) xs ≡ true
  found_both [] x found is = cc
  found_both (y ∷ ys) x found is =
      by_test (p y)
      (λ t.
      let same : Some y ≡ Some x = rw t at found in
      or_first (p y && q y) (list_any (λ z. p z && q z) ys) (both (p y) (q y) t (subst (λ z. q z ≡ true) (sym (some_same y x same)) is)))
      (λ t. or_second (p y && q y) (list_any (λ z. p z && q z) ys) (found_both ys x (rw t at found) is))
    where
      some_same : (a b : A) → Some a ≡ Some b → a ≡ b
      some_same a b same = ap (λ (o : Option A). elim o [ None ↦ a | Some z ↦ z ]) same

module _ {K : Type 0} (g : Rows K) (test : Region → Bool) where
  -- a face to which the gateway's own tokens go on is noted by the table of its region
  abbrev is_by : Region × Trees → Face K → Bool
  is_by t f = test t.0 && is_own_child g t f

  its_table : (f : Face K) → is_child g (table_of g f.region) g.zid f ≡ true → test f.region ≡ true → list_any (λ t. is_by t f) g.trees ≡ true
  unfolding table_of
  its_table f child is =
      elim (first_where (λ t. region_eq f.region t.0) g.trees) as (λ o. first_where (λ t. region_eq f.region t.0) g.trees ≡ o → list_any (λ t. is_by t f) g.trees ≡ true) [
        | None ↦ λ found.
            never (is_child g (table_of g f.region) g.zid f) child
            (childless g f.region g.zid f (table_of g f.region) (ap (λ (o : Option (Region × Trees)). elim o [ None ↦ record { routers = []; links = []; children = [] } | Some t ↦ counted_table t.1 ]) found))
        | Some t ↦ λ found.
            let by : is_child g (counted_table t.1) g.zid f ≡ true = subst (λ (o : Option (Region × Trees)). is_child g (elim o [ None ↦ record { routers = []; links = []; children = [] } | Some t ↦ counted_table t.1 ]) g.zid f ≡ true) found child in
            any_weaker g.trees (found_both (λ t. region_eq f.region t.0) (λ t. is_child g (counted_table t.1) g.zid f) g.trees t found by)
      ] refl
    where
      any_weaker : (ts : List (Region × Trees)) → list_any (λ t. region_eq f.region t.0 && is_child g (counted_table t.1) g.zid f) ts ≡ true → list_any (λ t. is_by t f) ts ≡ true
      any_weaker [] h = cc
      any_weaker (t ∷ ts) h =
          by_test (is_own_child g t f)
          (λ own.
          let same = region_eq-same f.region t.0 (and_parts (region_eq f.region t.0) (is_child g (counted_table t.1) g.zid f) own).0 in
          or_first (is_by t f) (list_any (λ u. is_by u f) ts) (both (test t.0) (is_own_child g t f) (subst (λ r. test r ≡ true) same is) own))
          (λ off. or_second (is_by t f) (list_any (λ u. is_by u f) ts) (any_weaker ts (rw off at h)))

  pub out_of : (old new : List ℕ) → Notes (λ f. list_any (λ t. is_by t f) g.trees) old new → (f : Face K) → has f.number new ≡ false
      → test f.region ≡ true → (region_eq f.region f.region && is_child g (table_of g f.region) g.zid f) ≡ false
  out_of old new notes f off is =
      by_test (is_child g (table_of g f.region) g.zid f)
      (λ t. never (list_any (λ u. is_by u f) g.trees) (its_table f t is) (unnoted (λ x. list_any (λ u. is_by u x) g.trees) old new notes f off))
      (λ t. rw (region_eq-refl f.region) t)

module _ {K : Type 0} (cmp : K → K → Ordering) (g : Rows K) (source : Region) (e : K) (old new : List ℕ) where
  pub shows_none : Notes (λ f. list_any (λ t. is_shown_by cmp g source e t f) g.trees) old new → (f : Face K) → has f.number new ≡ false → show_to cmp g source e f ≡ []
  unfolding show_to pass_to
  shows_none notes f off =
      by_test (is_newly_shown cmp g source e f.region)
      (λ t. rw t (unless (region_eq f.region f.region && is_child g (table_of g f.region) g.zid f) (_ ∷ []) (out_of g (is_newly_shown cmp g source e) old new notes f off t)))
      (λ t. rw t refl)

  pub hides_none : Notes (λ f. list_any (λ t. is_hidden_by cmp g source e t f) g.trees) old new → (f : Face K) → has f.number new ≡ false → hide_to cmp g source e f ≡ []
  unfolding hide_to unpass_to
  hides_none notes f off =
      by_test (is_hidden cmp g source e f.region)
      (λ t. rw t (unless (region_eq f.region f.region && is_child g (table_of g f.region) g.zid f) (_ ∷ []) (out_of g (is_hidden cmp g source e) old new notes f off t)))
      (λ t. rw t refl)

-- by the table of a region
module _ {K : Type 0} (g : Rows K) (test : Region → Bool) (region : Region) (t : Trees) where
  pub table_noted : (children : List (Zid × Zid)) → HaveChildrenOf g.zid children (counted_table t).children → (old new : List ℕ)
      → Notes (are_at_children g region children) old new → Notes (λ f. test region && is_own_child g (region, t) f) old new
  unfolding is_child
  table_noted children have old new notes = weaker_notes (are_at_children g region children) (λ f. test region && is_own_child g (region, t) f) old new on notes
    where
      on : (f : Face K) → (test region && is_own_child g (region, t) f) ≡ true → are_at_children g region children f ≡ true
      on f h =
          let parts = and_parts (region_eq f.region region) (is_child g (counted_table t) g.zid f) (and_parts (test region) (is_own_child g (region, t) f) h).1 in
          let more = and_parts (list_any (λ c. zid_eq g.zid c.0 && zid_eq f.zid c.1) (counted_table t).children) (is_face_of_router g f) parts.1 in
          at_one g region children f parts.0 more.1 (have.at f.zid ∙ more.0)

  pub table_unnoted : (children : List (Zid × Zid)) → HaveChildrenOf g.zid children (counted_table t).children → children ≡ [] → (old : List ℕ)
      → Notes (λ f. test region && is_own_child g (region, t) f) old old
  table_unnoted children have none old =
      table_noted children have old old
      (same_notes (are_at_children g region children) old (λ f h. let no : are_at_children g region [] f ≡ true = subst (λ (cs : List (Zid × Zid)). are_at_children g region cs f ≡ true) none h in cc))

  pub region_unnoted : test region ≡ false → (old : List ℕ) → Notes (λ f. test region && is_own_child g (region, t) f) old old
  region_unnoted off old = same_notes (λ f. test region && is_own_child g (region, t) f) old (λ f h. never {P = ⊥} (test region) (and_parts (test region) (is_own_child g (region, t) f) h).0 off)

-- ---- new children

module _ {K : Type 0} (g : Rows K) (region : Region) (before : Trees) where
  pub new_noted : (c : Zid × Zid) (old new : List ℕ) → Notes (is_at_child g region c) old new → Notes (is_at_new_child g region before c) old new
  new_noted c old new notes = weaker_notes (is_at_child g region c) (is_at_new_child g region before c) old new (λ f h. (and_parts (not (has_child before c.0 c.1)) (is_at_child g region c f) h).1) notes

  pub old_noted : (c : Zid × Zid) → has_child before c.0 c.1 ≡ true → (old : List ℕ) → Notes (is_at_new_child g region before c) old old
  old_noted c is old = same_notes (is_at_new_child g region before c) old (λ f h. let no : (false && is_at_child g region c f) ≡ true = subst (λ b. (not b && is_at_child g region c f) ≡ true) is h in cc)

  module _ (cmp : K → K → Ordering) (t : Trees) where
    not_true : (b : Bool) → b ≡ false → not b ≡ true
    not_true true h = cc
    not_true false h = refl

    new_child : (source router : Zid) (f : Face K) (cs : List (Zid × Zid)) → router ≡ f.zid → region_eq f.region region ≡ true → is_face_of_router g f ≡ true
        → has_child before source router ≡ false → list_any (λ c. zid_eq source c.0 && zid_eq router c.1) cs ≡ true → are_at_new_children g region before cs f ≡ true
    new_child source router f [] its here stands gone h = cc
    new_child source router f (c ∷ cs) its here stands gone h =
        by_test (zid_eq source c.0 && zid_eq router c.1)
        (λ both_are.
        let parts = and_parts (zid_eq source c.0) (zid_eq router c.1) both_are in
        let s = zid_eq-same source c.0 parts.0 in
        let r = zid_eq-same router c.1 parts.1 in
        let fresh : not (has_child before c.0 c.1) ≡ true = not_true (has_child before c.0 c.1) (subst (λ (p : Zid × Zid). has_child before p.0 p.1 ≡ false) (λ i. (s i, r i)) gone) in
        let at : is_at_child g region c f ≡ true = both (region_eq f.region region) (zid_eq f.zid c.1 && is_face_of_router g f) here (both (zid_eq f.zid c.1) (is_face_of_router g f) (subst (λ (z : Zid). zid_eq z c.1 ≡ true) its parts.1) stands) in
        or_first (is_at_new_child g region before c f) (are_at_new_children g region before cs f) (both (not (has_child before c.0 c.1)) (is_at_child g region c f) fresh at))
        (λ off. or_second (is_at_new_child g region before c f) (are_at_new_children g region before cs f) (new_child source router f cs its here stands gone (rw off at h)))

    module _ (old new : List ℕ) (notes : Notes (are_at_new_children g region before t.children) old new) (f : Face K) (off : has f.number new ≡ false) where
      none_new : region_eq f.region region ≡ true → is_face_of_router g f ≡ true → (source : Zid) → is_new_child source f.zid t before ≡ false
      none_new here stands source =
          by_test (has_child t source f.zid)
          (λ now.
          by_test (has_child before source f.zid)
          (λ was. rw (now, was) refl)
          (λ gone.
          never (are_at_new_children g region before t.children f) (new_child source f.zid f t.children refl here stands gone now)
          (unnoted (are_at_new_children g region before t.children) old new notes f off)))
          (λ now. rw now refl)

      pub greets_nobody : greeted_by cmp g region t before f ≡ []
      greets_nobody =
          by_test (region_eq f.region region)
          (λ here.
          by_test (is_face_of_router g f)
          (λ stands. rw (here, stands) (all_none here stands (routers_in_order cmp t)))
          (λ stands. rw (here, stands) refl))
          (λ here. rw here refl)
        where
          all_none : region_eq f.region region ≡ true → is_face_of_router g f ≡ true → (rs : List (ℕ × Zid)) → flat_map (greeted cmp g region t before f) rs ≡ []
          all_none here stands [] = refl
          all_none here stands (r ∷ rs) =
              ap (λ xs. xs ++ flat_map (greeted cmp g region t before f) rs)
              (unless (is_new_child r.1 f.zid t before) (declared r.0 (routed_expressions cmp g region r.1)) (none_new here stands r.1))
              ∙ all_none here stands rs
