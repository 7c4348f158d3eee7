-- What a call of each message costs at a gateway of a sound fabric of trees.
use Rattle.std.proofs.Common.{◌≡◌, ℕ, ◌+◌, ◌*◌, ◌≤◌, Bool, true, false, ◌==◌, List, [], ◌∷◌, length, map, filter, Some, refl, sym, ap, ◌∙◌, subst, arith, eqb-true, add-mul}
use Rattle.std.proofs.lemmas.Bool.{or_left, or_right}
use Rattle.std.specs.Cmp.{IsTotalOrder}
use Rattle.std.specs.List.{list_any}
use Rattle.std.specs.declared.cmp.Ordering.{Ordering}
use Rattle.std.specs.declared.cmp.Ordering.TheVariants.{Equal}
use Rattle.zt_region.specs.Region.{is_north}
use Rattle.zt_model.specs.Hat.{hat_of}
use Rattle.zt_model.specs.Lists.{first_where, is_among, same}
use Rattle.zt_model.specs.Parts.{find_face, is_routed}
use Rattle.zt_model.specs.Rows.{ById, Face, Rows}
use Rattle.zt_model.specs.Transcript.{Each}
use Rattle.zt_model.specs.Visible.{is_visible, visible_expressions}
use Rattle.zt_laws.specs.Keeping.{KeepsRight}
use Rattle.zt_laws.specs.Order.{HasRowsInOrder}
use Rattle.zt_laws.specs.Sound.{RiseFrom}
use Rattle.zt_laws.proofs.Hearing.{find_each}
use Rattle.zt_laws.proofs.Keys.{same_is, same_itself}
use Rattle.zt_laws.proofs.Lists.{any_member, by_test, each_both, each_map, each_weaker}
use Rattle.zt_laws.proofs.Visible.{among-visible_expressions}
use Rattle.zt_theorem_soundness.specs.Sound.{IsSound}
use Rattle.zt_theorem_tree_invariant.specs.Facts.{IsTreeFace, IsTreeGateway}
use Rattle.zt_theorem_tree_invariant.proofs.Knowledge.{is_no_router}
use Rattle.zt_theorem_tree_only_what_lived.specs.Tokens.{IsIn}
use Rattle.zt_theorem_tree_rest.proofs.Calls.{NoRouters}
use Rattle.zt_theorem_tree_rest.proofs.Directions.{LooksDown, down, up}
use Rattle.zt_theorem_tree_rest.proofs.Frames.{Framed, Outline, outline, outlines_rise}
use Rattle.zt_theorem_tree_rest.proofs.Interests.{entities_price, up_price, visible_in}
use Rattle.zt_theorem_tree_rest.proofs.Sums.{times, times_is, total}

pub times_few : {A : Type 0} (n : ℕ) (xs : List A) → length xs ≤ 1 → times n xs ≤ n
times_few n [] few = omega arith
times_few n (x ∷ []) few = omega arith
times_few n (x ∷ y ∷ xs) few = absurd (omega arith)

-- each row is one of them
each_itself : {K : Type 0} (cmp : K → K → Ordering) (total_order : IsTotalOrder cmp) (rows : ById K) → Each (λ row. list_any (λ r. same cmp row.1 r.1) rows ≡ true) rows
each_itself cmp total_order [] = tt
each_itself cmp total_order (row ∷ rows) = (
  or_left (same cmp row.1 row.1) _ (same_itself cmp total_order row.1),
  each_weaker (λ x. list_any (λ r. same cmp x.1 r.1) rows ≡ true) (λ x. list_any (λ r. same cmp x.1 r.1) (row ∷ rows) ≡ true) (λ x there. or_right (same cmp x.1 row.1) _ there) rows (each_itself cmp total_order rows),
)

module _ {K : Type 0} (cmp : K → K → Ordering) (matching : K → K → Bool) (tokens : List K) (total_order : IsTotalOrder cmp) (equal_is_same : (a b : K) → cmp a b ≡ Equal → a ≡ b)
    (g : Rows K) (sound : IsSound cmp matching g) (tree : IsTreeGateway cmp matching g) (in_ : IsIn (λ e. is_among cmp e tokens ≡ true) g) where
  abbrev pub os : List (Outline K)
  os = map outline g.faces

  pub framed : Framed g.mode os g
  framed = record { mode_is = refl; faces_are = refl }

  pub rises : RiseFrom (λ (o : Outline K). o.number) 1 os
  rises = outlines_rise 1 g.faces sound.ordered.lists.faces_rise

  pub plain : NoRouters g.mode os
  plain = each_map (λ (o : Outline K). (hat_of g.mode o.region).goes_by_trees ≡ false) outline g.faces (each_weaker (IsTreeFace g.mode) (λ f. (hat_of g.mode f.region).goes_by_trees ≡ false) (λ f own. is_no_router g f own) g.faces tree.faces)

  pub outside : (n : ℕ) (f : Face K) → find_face n g ≡ Some f → is_routed g f ≡ false
  outside n f found = is_no_router g f (find_each (IsTreeFace g.mode) (λ (h : Face K). n == h.number) g.faces f tree.faces found)

  pub live_rise : (n : ℕ) (f : Face K) → find_face n g ≡ Some f → RiseFrom (λ row. row.0) 0 f.live
  live_rise n f found = (find_each HasRowsInOrder (λ (h : Face K). n == h.number) g.faces f sound.ordered.lists.rows found).live

  keep : Each (KeepsRight cmp matching g) g.faces
  keep = each_both (IsTreeFace g.mode) (λ f. is_routed g f ≡ false → KeepsRight cmp matching g f) (KeepsRight cmp matching g) (λ f own kept. kept (is_no_router g f own)) g.faces tree.faces sound.keeps

  -- what faces were told are tokens that were there
  pub told_tokens : Each (λ (f : Face K). Each (λ e. is_among cmp e tokens ≡ true) (map (λ row. row.1) f.told)) g.faces
  told_tokens =
      each_weaker (KeepsRight cmp matching g) (λ f. Each (λ e. is_among cmp e tokens ≡ true) (map (λ row. row.1) f.told))
      (λ f kept.
      each_map (λ e. is_among cmp e tokens ≡ true) (λ (row : ℕ × K). row.1) f.told
      (each_weaker (λ (row : ℕ × K). list_any (λ r. same cmp row.1 r.1) f.told ≡ true) (λ row. is_among cmp row.1 tokens ≡ true)
      (λ row there.
      let seen : is_visible cmp g f.region row.1 ≡ true = kept.kept_is_visible row.1 there in
      any_member (λ e. is_among cmp e tokens ≡ true) (same cmp row.1) (visible_expressions cmp g f.region) (visible_in cmp matching (λ e. is_among cmp e tokens ≡ true) g f.region in_) (among-visible_expressions cmp total_order g f.region row.1 ∙ seen)
      (λ e own is. subst (λ x. is_among cmp x tokens ≡ true) (sym (same_is cmp total_order equal_is_same row.1 e is)) own))
      f.told (each_itself cmp total_order f.told))) g.faces keep

  module _ (price : ℕ → ℕ) (end_price : ℕ) where
    pub looks : Each (LooksDown cmp matching tokens price end_price g.mode os rises plain total_order equal_is_same g) g.faces
    looks =
        each_both (IsTreeFace g.mode) (KeepsRight cmp matching g) (LooksDown cmp matching tokens price end_price g.mode os rises plain total_order equal_is_same g)
        (λ f own kept. record { holds_nothing = λ north. (own.up north).held; sees_what_it_keeps = λ north e k. kept.kept_is_visible e k }) g.faces tree.faces keep

    abbrev pub Down : ℕ
    Down = total (down cmp matching tokens price end_price g.mode os rises plain total_order equal_is_same) os

    abbrev pub Up : ℕ
    Up = total (up cmp matching tokens price end_price g.mode os rises plain total_order equal_is_same) os

    abbrev pub Entities : ℕ
    Entities = total (λ (o : Outline K). length o.subscribers + length o.queryables) os

    -- one face leads up at the most
    pub up_once : total (up_price cmp matching tokens price end_price g.mode os rises plain total_order equal_is_same) os ≤ Up + end_price
    up_once =
        let few = times_few end_price (filter (λ (f : Face K). is_north f.region) g.faces) tree.one_north in
        let sum = split g.faces in
        omega arith
      where
        split : (fs : List (Face K)) → total (up_price cmp matching tokens price end_price g.mode os rises plain total_order equal_is_same) (map outline fs) ≡ total (up cmp matching tokens price end_price g.mode os rises plain total_order equal_is_same) (map outline fs) + times end_price (filter (λ (f : Face K). is_north f.region) fs)
        split [] = omega arith
        split (f ∷ fs) = let rest = split fs in by_test (is_north f.region) (λ here. rw here (omega arith)) (λ here. rw here (omega arith))

    pub entities_are : (n : ℕ) → total (entities_price cmp matching tokens price end_price g.mode os rises plain total_order equal_is_same n) os ≡ Entities * n
    entities_are n = go os
      where
        go : (xs : List (Outline K)) → total (entities_price cmp matching tokens price end_price g.mode os rises plain total_order equal_is_same n) xs ≡ total (λ (o : Outline K). length o.subscribers + length o.queryables) xs * n
        go [] = omega arith
        go (o ∷ xs) =
            let rest = go xs in
            let one = times_is n o.subscribers in
            let two = times_is n o.queryables in
            let sum = add-mul (length o.subscribers + length o.queryables) (total (λ (o : Outline K). length o.subscribers + length o.queryables) xs) n in
            let own = add-mul (length o.subscribers) (length o.queryables) n in
            omega arith

    -- a face that leads down is one of them
    pub down_member : (n : ℕ) (f : Face K) → find_face n g ≡ Some f → is_north f.region ≡ false → price n ≤ Down
    down_member n f found south = go g.faces found
      where
        go : (fs : List (Face K)) → first_where (λ (h : Face K). n == h.number) fs ≡ Some f → price n ≤ total (down cmp matching tokens price end_price g.mode os rises plain total_order equal_is_same) (map outline fs)
        go [] at_ = cc
        go (h ∷ fs) at_ =
            by_test (n == h.number)
            (λ here.
            let first : Some h ≡ Some f = rw here at at_ in
            let is : h ≡ f = cc in
            let down_ : is_north h.region ≡ false = ap (λ (k : Face K). is_north k.region) is ∙ south in
            let number_ : price n ≡ price h.number = ap price (eqb-true n h.number here) in
            rw down_ (omega arith))
            (λ here. let rest = go fs (rw here at at_) in omega arith)
