-- A gateway of a tree between the parts of a call: what stays true of it while its faces change one by one.
use Rattle.std.proofs.Common.{◌≡◌, ℕ, suc, ◌+◌, ◌≤◌, Bool, true, false, if◌then◌else◌, ◌&&◌, ◌==◌, List, [], ◌∷◌, length, map, filter, Option, Some, None, refl, sym, ap, ◌∙◌, subst, arith}
use Rattle.std.proofs.lemmas.Bool.{or_left, or_right}
use Rattle.std.proofs.lemmas.Cmp.{nat_cmp_total, tied_itself}
use Rattle.std.specs.Cmp.{IsTotalOrder}
use Rattle.std.specs.List.{list_any}
use Rattle.std.specs.Ordering.{is_eq}
use Rattle.std.specs.declared.cmp.Ordering.{Ordering}
use Rattle.std.specs.declared.cmp.Ordering.TheVariants.{Equal}
use Rattle.zt_region.specs.Region.{is_north, zid_eq}
use Rattle.zt_protocol.specs.Interest.{has_tokens, is_current, is_future}
use Rattle.zt_model.specs.Hearing.{rows_heard}
use Rattle.zt_model.specs.Parts.{Alter, Part, Say, with_face}
use Rattle.zt_model.specs.Refusals.{GREATEST_DICTIONARY}
use Rattle.zt_model.specs.Routing.{asks_same, expression_order}
use Rattle.zt_model.specs.Rows.{Face, InterestRow, Rows}
use Rattle.zt_model.specs.Transcript.{Each}
use Rattle.zt_laws.specs.Sound.{RiseFrom}
use Rattle.zt_laws.proofs.Lists.{by_test, each_always, each_both, each_filter, each_map, each_weaker, of_cond, rise_filter}
use Rattle.zt_theorem_soundness.specs.Ran.{ran}
use Rattle.zt_theorem_tree_invariant.specs.Facts.{AsksAbove, IsTreeFace, IsTreeGateway, LocalsAreDrawn}

-- each member passes what some member is asked for
pub members : {A : Type 0} (xs : List A) → Each (λ x. (p : A → Bool) → p x ≡ true → list_any p xs ≡ true) xs
members [] = tt
members {A} (x ∷ xs) = (
  λ p here. or_left (p x) (list_any p xs) here,
  each_weaker (λ y. (p : A → Bool) → p y ≡ true → list_any p xs ≡ true) (λ y. (p : A → Bool) → p y ≡ true → list_any p (x ∷ xs) ≡ true) (λ y h p here. or_right (p x) (list_any p xs) (h p here)) xs (members xs),
)

-- ---- lists that grow no longer

north_same : {K : Type 0} (change : Face K → Face K) (fs : List (Face K)) → Each (λ f. (change f).region ≡ f.region) fs → length (filter (λ f. is_north f.region) (map change fs)) ≡ length (filter (λ f. is_north f.region) fs)
north_same change [] all = refl
north_same change (f ∷ fs) all =
    let same_ : is_north (change f).region ≡ is_north f.region = ap is_north all.0 in
    by_test (is_north f.region)
    (λ up. let there : is_north (change f).region ≡ true = same_ ∙ up in rw (up, there) (ap suc (north_same change fs all.1)))
    (λ down. let there : is_north (change f).region ≡ false = same_ ∙ down in rw (down, there) (north_same change fs all.1))

north_fewer : {K : Type 0} (p : Face K → Bool) (fs : List (Face K)) → length (filter (λ f. is_north f.region) (filter p fs)) ≤ length (filter (λ f. is_north f.region) fs)
north_fewer p [] = omega arith
north_fewer p (f ∷ fs) =
    let rest = north_fewer p fs in
    by_test (p f)
    (λ here. by_test (is_north f.region) (λ up. rw (here, up) (omega arith)) (λ down. rw (here, down) rest))
    (λ here. by_test (is_north f.region) (λ up. rw (here, up) (omega arith)) (λ down. rw (here, down) rest))

rise_same : {K : Type 0} (low : ℕ) (change : Face K → Face K) (fs : List (Face K)) → Each (λ f. (change f).number ≡ f.number) fs → RiseFrom (λ f. f.number) low fs → RiseFrom (λ f. f.number) low (map change fs)
rise_same low change [] all rises = tt
rise_same low change (f ∷ fs) all rises = rw (all.0) (rises.0, rise_same (f.number + 1) change fs all.1 rises.1)

module _ {K : Type 0} (cmp : K → K → Ordering) (matching : K → K → Bool) where
  -- the face sent such an interest up, for now and later
  abbrev pub asks_row : InterestRow K → Face K → Bool
  asks_row i f = list_any (λ row. (is_current row.1.mode && is_future row.1.mode) && asks_same cmp matching i row.1) f.locals

  -- a gateway of a tree, with its lists in order
  pub record Inside (g : Rows K) : Type 0 where
    pub tree : IsTreeGateway cmp matching g
    pub rises : RiseFrom (λ f. f.number) 1 g.faces
    pub locals : Each (λ f. RiseFrom (λ row. row.0) 0 f.locals) g.faces

  -- what is asked of a held row: that its interest was sent up, and a further fact
  abbrev pub Held : (InterestRow K → Type 0) → Rows K → ℕ × InterestRow K → Type 0
  Held Q g row = (is_current row.1.mode && has_tokens row.1.options) ≡ true → AsksAbove cmp matching g row.1 × Q row.1

  -- a face goes on as another, where interests of a kind stay sent up
  pub record GoesOn (Q : InterestRow K → Type 0) (g : Rows K) (f h : Face K) : Type 0 where
    pub number : h.number ≡ f.number
    pub region : h.region ≡ f.region
    pub face : IsTreeFace g.mode f → IsTreeFace g.mode h
    pub rises : RiseFrom (λ row. row.0) 0 f.locals → RiseFrom (λ row. row.0) 0 h.locals
    pub drawn : LocalsAreDrawn f → LocalsAreDrawn h
    pub held : is_north f.region ≡ false → Each (Held Q g) f.held → Each (Held Q g) h.held
    pub asks : (i : InterestRow K) → Q i → asks_row i f ≡ true → asks_row i h ≡ true

  pub goes_itself : (Q : InterestRow K → Type 0) (g : Rows K) (f : Face K) → GoesOn Q g f f
  goes_itself Q g f = record { number = refl; region = refl; face = λ h. h; rises = λ h. h; drawn = λ h. h; held = λ _ h. h; asks = λ i _ h. h }

  pub goes_trans : (Q : InterestRow K → Type 0) (g : Rows K) (f h k : Face K) → GoesOn Q g f h → GoesOn Q g h k → GoesOn Q g f k
  goes_trans Q g f h k one two = record {
    number = two.number ∙ one.number;
    region = two.region ∙ one.region;
    face = λ face. two.face (one.face face);
    rises = λ rises. two.rises (one.rises rises);
    drawn = λ drawn. two.drawn (one.drawn drawn);
    held = λ down all. two.held (ap is_north one.region ∙ down) (one.held down all);
    asks = λ i right some. two.asks i right (one.asks i right some);
  }

  -- the interests that stay sent up
  pub asks_mapped : (Q : InterestRow K → Type 0) (g : Rows K) (change : Face K → Face K) (i : InterestRow K) → Each (λ f. GoesOn Q g f (change f)) g.faces → Q i → AsksAbove cmp matching g i → AsksAbove cmp matching (record g { faces = map change g.faces }) i
  asks_mapped Q g change i goes right above =
      each_map (λ (f : Face K). is_north f.region ≡ true → asks_row i f ≡ true) change g.faces
      (each_both (λ f. GoesOn Q g f (change f)) (λ f. is_north f.region ≡ true → asks_row i f ≡ true) (λ f. is_north (change f).region ≡ true → asks_row i (change f) ≡ true)
      (λ f one old up. one.asks i right (old (ap is_north (sym one.region) ∙ up))) g.faces goes above)

  pub mapped : (Q : InterestRow K → Type 0) (g : Rows K) (change : Face K → Face K) → Each (λ f. GoesOn Q g f (change f)) g.faces → Each (λ f. is_north f.region ≡ false → Each (λ row. Q row.1) f.held) g.faces → Inside g → Inside (record g { faces = map change g.faces })
  mapped Q g change goes right inside =
      let tree = inside.tree in
      let h = record g { faces = map change g.faces } in
      record {
        tree = record {
          faces = each_map (IsTreeFace g.mode) change g.faces (each_both (λ f. GoesOn Q g f (change f)) (IsTreeFace g.mode) (λ f. IsTreeFace g.mode (change f)) (λ f one face. one.face face) g.faces goes tree.faces);
          one_north = subst (λ n. n ≤ 1) (sym (north_same change g.faces (each_weaker (λ f. GoesOn Q g f (change f)) (λ f. (change f).region ≡ f.region) (λ f one. one.region) g.faces goes))) tree.one_north;
          own_rows = tree.own_rows;
          dictionary = tree.dictionary;
          drawn = each_map LocalsAreDrawn change g.faces (each_both (λ f. GoesOn Q g f (change f)) LocalsAreDrawn (λ f. LocalsAreDrawn (change f)) (λ f one own. one.drawn own) g.faces goes tree.drawn);
          asks_above =
              each_map (λ (f : Face K). is_north f.region ≡ false → Each (λ row. (is_current row.1.mode && has_tokens row.1.options) ≡ true → AsksAbove cmp matching h row.1) f.held) change g.faces
              (each_both (λ f. GoesOn Q g f (change f)) (λ f. is_north f.region ≡ false → Each (Held Q g) f.held) (λ f. is_north (change f).region ≡ false → Each (λ row. (is_current row.1.mode && has_tokens row.1.options) ≡ true → AsksAbove cmp matching h row.1) (change f).held)
              (λ f one old down.
              let down_f = ap is_north (sym one.region) ∙ down in
              each_weaker (Held Q g) (λ row. (is_current row.1.mode && has_tokens row.1.options) ≡ true → AsksAbove cmp matching h row.1) (λ row own for_now. let both = own for_now in asks_mapped Q g change row.1 goes both.1 both.0) (change f).held (one.held down_f (old down_f)))
              g.faces goes
              (each_both (λ f. is_north f.region ≡ false → Each (λ row. Q row.1) f.held) (λ f. is_north f.region ≡ false → Each (λ row. (is_current row.1.mode && has_tokens row.1.options) ≡ true → AsksAbove cmp matching g row.1) f.held) (λ f. is_north f.region ≡ false → Each (Held Q g) f.held)
              (λ f one old down. each_both (λ row. Q row.1) (λ row. (is_current row.1.mode && has_tokens row.1.options) ≡ true → AsksAbove cmp matching g row.1) (Held Q g) (λ row q above for_now. (above for_now, q)) f.held (one down) (old down))
              g.faces right tree.asks_above));
        };
        rises = rise_same 1 change g.faces (each_weaker (λ f. GoesOn Q g f (change f)) (λ f. (change f).number ≡ f.number) (λ f one. one.number) g.faces goes) inside.rises;
        locals = each_map (λ (f : Face K). RiseFrom (λ row. row.0) 0 f.locals) change g.faces (each_both (λ f. GoesOn Q g f (change f)) (λ f. RiseFrom (λ row. row.0) 0 f.locals) (λ f. RiseFrom (λ row. row.0) 0 (change f).locals) (λ f one own. one.rises own) g.faces goes inside.locals);
      }

  -- nothing further is asked
  abbrev pub Any : InterestRow K → Type 0
  Any i = Unit {0}

  any_right : (g : Rows K) → Each (λ f. is_north f.region ≡ false → Each (λ row. Any row.1) f.held) g.faces
  any_right g = each_always (λ f. is_north f.region ≡ false → Each (λ row. Any row.1) f.held) (λ f down. each_always (λ row. Any row.1) (λ row. tt) f.held) g.faces

  pub mapped_any : (g : Rows K) (change : Face K → Face K) → Each (λ f. GoesOn Any g f (change f)) g.faces → Inside g → Inside (record g { faces = map change g.faces })
  mapped_any g change goes inside = mapped Any g change goes (any_right g) inside

  -- one face is changed
  pub face_changed : (n : ℕ) (change : Face K → Face K) (g : Rows K) → Each (λ f. (n == f.number) ≡ true → GoesOn Any g f (change f)) g.faces → Inside g → Inside (with_face n change g)
  unfolding with_face
  face_changed n change g goes inside =
      mapped_any g (λ f. if n == f.number then change f else f)
      (each_weaker (λ f. (n == f.number) ≡ true → GoesOn Any g f (change f)) (λ f. GoesOn Any g f (if n == f.number then change f else f))
      (λ f one. of_cond (GoesOn Any g f) (n == f.number) (change f) f one (λ _. goes_itself Any g f)) g.faces goes)
      inside

  -- faces go
  pub filtered : (p : Face K → Bool) (g : Rows K) → Inside g → Inside (record g { faces = filter p g.faces })
  filtered p g inside =
      let tree = inside.tree in
      let fewer = north_fewer p g.faces in
      let one : length (filter (λ f. is_north f.region) g.faces) ≤ 1 = tree.one_north in
      record {
        tree = record {
          faces = each_filter (IsTreeFace g.mode) p g.faces tree.faces;
          one_north = omega arith;
          own_rows = tree.own_rows;
          dictionary = tree.dictionary;
          drawn = each_filter LocalsAreDrawn p g.faces tree.drawn;
          asks_above =
              each_weaker (λ f. is_north f.region ≡ false → Each (λ row. (is_current row.1.mode && has_tokens row.1.options) ≡ true → AsksAbove cmp matching g row.1) f.held)
              (λ f. is_north f.region ≡ false → Each (λ row. (is_current row.1.mode && has_tokens row.1.options) ≡ true → AsksAbove cmp matching (record g { faces = filter p g.faces }) row.1) f.held)
              (λ f one down.
              each_weaker (λ row. (is_current row.1.mode && has_tokens row.1.options) ≡ true → AsksAbove cmp matching g row.1) (λ row. (is_current row.1.mode && has_tokens row.1.options) ≡ true → AsksAbove cmp matching (record g { faces = filter p g.faces }) row.1)
              (λ row above for_now. each_filter (λ k. is_north k.region ≡ true → asks_row row.1 k ≡ true) p g.faces (above for_now)) f.held (one down))
              (filter p g.faces) (each_filter (λ f. is_north f.region ≡ false → Each (λ row. (is_current row.1.mode && has_tokens row.1.options) ≡ true → AsksAbove cmp matching g row.1) f.held) p g.faces tree.asks_above);
        };
        rises = rise_filter (λ f. f.number) 1 p g.faces inside.rises;
        locals = each_filter (λ f. RiseFrom (λ row. row.0) 0 f.locals) p g.faces inside.locals;
      }

  -- what stands beside the faces changes
  pub beside : (g h : Rows K) → h.faces ≡ g.faces → h.mode ≡ g.mode → Each (λ row. zid_eq row.source h.zid ≡ true) h.routed → length h.dictionary ≤ GREATEST_DICTIONARY → Inside g → Inside h
  beside g h faces_ mode_ own room inside =
      let tree = inside.tree in
      record {
        tree = record {
          faces = subst (λ (fs : List (Face K)). Each (IsTreeFace h.mode) fs) (sym faces_) (subst (λ m. Each (IsTreeFace m) g.faces) (sym mode_) tree.faces);
          one_north = subst (λ (fs : List (Face K)). length (filter (λ f. is_north f.region) fs) ≤ 1) (sym faces_) tree.one_north;
          own_rows = own;
          dictionary = room;
          drawn = subst (Each LocalsAreDrawn) (sym faces_) tree.drawn;
          asks_above =
              subst (λ (fs : List (Face K)). Each (λ f. is_north f.region ≡ false → Each (λ row. (is_current row.1.mode && has_tokens row.1.options) ≡ true → Each (λ k. is_north k.region ≡ true → asks_row row.1 k ≡ true) fs) f.held) fs) (sym faces_) tree.asks_above;
        };
        rises = subst (RiseFrom (λ (f : Face K). f.number) 1) (sym faces_) inside.rises;
        locals = subst (Each (λ f. RiseFrom (λ row. row.0) 0 f.locals)) (sym faces_) inside.locals;
      }

  -- ---- parts

  abbrev pub KeepsPart : Part K → Type 0
  KeepsPart (Alter change) = (g : Rows K) → Inside g → Inside (change g)
  KeepsPart (Say rule) = (g : Rows K) → Inside g → Inside (rows_heard cmp (rule g) g)

  pub ran_keeps : (parts : List (Part K)) (g : Rows K) → Each KeepsPart parts → Inside g → Inside (ran cmp parts g)
  unfolding ran
  ran_keeps [] g keep inside = inside
  ran_keeps (Alter change ∷ parts) g keep inside = ran_keeps parts (change g) keep.1 (keep.0 g inside)
  ran_keeps (Say rule ∷ parts) g keep inside = ran_keeps parts (rows_heard cmp (rule g) g) keep.1 (keep.0 g inside)

  -- ---- interests that ask for the same

  module _ (total : IsTotalOrder cmp) (equal_is_same : (a b : K) → cmp a b ≡ Equal → a ≡ b) where
    expression_itself : (e : Option K) → expression_order cmp matching e e ≡ Equal
    expression_itself None = refl
    expression_itself (Some a) = tied_itself total a

    pub asks_itself : (i : InterestRow K) → asks_same cmp matching i i ≡ true
    asks_itself i = rw (expression_itself i.expr) (ap is_eq (tied_itself nat_cmp_total i.options.0))
