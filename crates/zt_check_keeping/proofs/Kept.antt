-- What faces keep after a turn is within both bounds, where it was before, and where that is so of all that the turn touches.
use Rattle.std.proofs.Common.{◌≡◌, ◌⊎◌, inl, inr, ℕ, ◌+◌, ◌-◌, Bool, true, false, ◌&&◌, ◌||◌, ◌==◌, not, List, [], ◌∷◌, Option, None, Some, refl, sym, ap, subst, ◌∙◌, ⊎_elim, arith, eqb-true, ne_eqb}
use Rattle.std.proofs.lemmas.Bool.{and_parts, eqb-false}
use Rattle.std.specs.List.{list_all}
use Rattle.std.specs.declared.cmp.Ordering.{Ordering}
use Rattle.zt_keys.specs.Test.{by_test}
use Rattle.zt_region.specs.declared.region.Region.{Region}
use Rattle.zt_region.specs.Admission.{admits}
use Rattle.zt_region.specs.Region.{is_north}
use Rattle.zt_protocol.specs.Interest.{is_current}
use Rattle.zt_model.specs.Fabric.{Fabric, Node}
use Rattle.zt_model.specs.Hat.{hat_of}
use Rattle.zt_model.specs.Lists.{nth, same}
use Rattle.zt_model.specs.Parts.{is_routed}
use Rattle.zt_model.specs.Rows.{Face, InterestRow, Rows}
use Rattle.zt_model.specs.Seen.{concerns, is_owed, is_seen, is_seen_and_admitted, may_hear, sees}
use Rattle.zt_model.specs.Transcript.{Each}
use Rattle.zt_model.specs.Visible.{keeps}
use Rattle.zt_check_fabric.proofs.Numbered.{nth_zero}
use Rattle.zt_check_keeping.specs.Bounds.{EachPlainFace, KeepsNoLess, KeepsNoMore}
use Rattle.zt_check_keeping.specs.Keeping.{are_no_less, are_no_more, changed_are_kept, heard_are_kept, holder_keeps, opened_keeps_all, unheld_may_hear}
use Rattle.zt_check_keeping.specs.Owing.{is_concerned}
use Rattle.zt_check_keeping.specs.declared.keeping.Bound.TheVariants.{Upper, Lower}
use Rattle.zt_check_keeping.proofs.Called.{GoesOn}
use Rattle.zt_check_keeping.proofs.Checked.{all_says, changed_says, heard_says, holder_says, lower_says, opened_says, unheld_says, upper_says}
use Rattle.zt_check_keeping.proofs.Going.{Goes, IsNew}
use Rattle.zt_check_keeping.proofs.Hearing.{HearsOn}
use Rattle.zt_check_keeping.proofs.Lines.{GoesOrNew}
use Rattle.zt_check_keeping.proofs.Members.{Among, each_member, members_each}
use Rattle.zt_check_keeping.proofs.Nodes.{Lists}
use Rattle.zt_check_keeping.proofs.Standing.{Has, Holds, Stands, admitted_stands, any_has, has_any, hears_from, hears_to, owed_from, owed_to, seen_stands, stands_admitted, stands_seen}

-- ---- members by number

pub each_nth : {A : Type 0} (P : A → Type 0) (n : ℕ) (xs : List A) (x : A) → Each P xs → nth n xs ≡ Some x → P x
each_nth P n [] x each at = let e : None ≡ Some x = at in cc
each_nth P n (y ∷ xs) x each at =
    by_test (n == 1)
    (λ first. let is : y ≡ x = (let e : Some y ≡ Some x = rw first at at in cc) in subst P is each.0)
    (λ later. each_nth P (n - 1) xs x each.1 (rw later at at))

pub nth_each : {A : Type 0} (P : A → Type 0) (xs : List A) → ((n : ℕ) (x : A) → nth n xs ≡ Some x → P x) → Each P xs
nth_each P [] h = tt
nth_each P (y ∷ xs) h = (h 1 y refl, nth_each P xs (λ n x at. by_test (n == 0) (λ none. missing n x none at) (λ some. h (n + 1) x (further n x some at))))
  where
    missing : (n : ℕ) (x : _) → (n == 0) ≡ true → nth n xs ≡ Some x → P x
    missing n x none at = let e : None ≡ Some x = sym (ap (λ k. nth k xs) (eqb-true n 0 none) ∙ nth_zero xs) ∙ at in cc

    further : (n : ℕ) (x : _) → (n == 0) ≡ false → nth n xs ≡ Some x → nth (n + 1) (y ∷ xs) ≡ Some x
    further n x some at =
        let more : n ≡ 0 → ⊥ = eqb-false n 0 some in
        let later : (n + 1 == 1) ≡ false = ne_eqb (n + 1) 1 (λ e. more (omega arith)) in
        let back : n + 1 - 1 ≡ n = omega arith in
        rw (later, back) at

module _ {K : Type 0} (cmp : K → K → Ordering) (matching : K → K → Bool) (itself : (e : K) → same cmp e e ≡ true) (exact : (a b : K) → same cmp a b ≡ true → a ≡ b) (lists : Lists K) (heard : List (ℕ × ℕ × K)) where
  -- interests that are held alike seek alike
  hears_alike : (o f : Face K) (e : K) → f.region ≡ o.region → f.held ≡ o.held → may_hear matching o e ≡ true → may_hear matching f e ≡ true
  hears_alike o f e region held h =
      hears_to matching f e (⊎_elim
      (λ north. inl (ap is_north region ∙ north))
      (λ holds. inr (subst (λ rows. Holds rows (λ interest. concerns matching interest e)) (sym held) holds)) (hears_from matching o e h))

  owed_alike : (o f : Face K) (e : K) → f.region ≡ o.region → f.held ≡ o.held → is_owed matching f e ≡ true → is_owed matching o e ≡ true
  owed_alike o f e region held h =
      owed_to matching o e (⊎_elim
      (λ north. inl (ap is_north (sym region) ∙ north))
      (λ holds. inr (subst (λ rows. Holds rows (λ interest. concerns matching interest e && is_current interest.mode)) held holds)) (owed_from matching f e h))

  -- a line leaves the gateways of c of those of s, and what is printed for it leaves those of t
  module _ (s c t : Fabric K) (line : GoesOrNew cmp matching exact lists s.gateways c.gateways)
      (hearing : (n : ℕ) (node : Node K) → nth n t.gateways ≡ Some node → (old : Node K) × ((nth n c.gateways ≡ Some old) × Goes (λ (e : K). ⊥) (λ k. ⊥) (HearsOn cmp exact heard n) old.rows node.rows)) where
    abbrev Token : ℕ → K → Type 0
    Token n e = Among (n, e) lists.tokens

    abbrev Opened : ℕ → ℕ → Type 0
    Opened n k = Among (n, k) lists.opened

    abbrev Unheld : ℕ → ℕ → Type 0
    Unheld n k = Among (n, k) lists.unheld

    abbrev Held : ℕ → ℕ → ℕ → Type 0
    Held n k id = Among (n, k, id) lists.held

    -- a face of before the line
    record WasThere (n : ℕ) (mid : Rows K) (m : Face K) : Type 0 where
      old : Node K
      there : nth n s.gateways ≡ Some old
      goes : Goes (Token n) (Opened n) (GoesOn cmp matching (Unheld n) (Held n)) old.rows mid
      face : Face K
      among : Among face old.rows.faces
      on : GoesOn cmp matching (Unheld n) (Held n) face m

    -- where a face comes from
    record Came (n : ℕ) (node : Node K) (f : Face K) : Type 0 where
      mid : Node K
      goes : Goes (λ (e : K). ⊥) (λ k. ⊥) (HearsOn cmp exact heard n) mid.rows node.rows
      face : Face K
      hears : HearsOn cmp exact heard n face f
      before : WasThere n mid.rows face ⊎ IsNew (Token n) (Opened n) face

    came : (n : ℕ) (node : Node K) (f : Face K) → nth n t.gateways ≡ Some node → Among f node.rows.faces → Came n node f
    came n node f there at =
        let found = hearing n node there in
        by_face found.0 found.1.0 found.1.1 (found.1.1.faces f at)
      where
        by_line : (mid : Node K) → Goes (λ (e : K). ⊥) (λ k. ⊥) (HearsOn cmp exact heard n) mid.rows node.rows → (m : Face K) → Among m mid.rows.faces → HearsOn cmp exact heard n m f
            → ((old : Node K) × ((nth n s.gateways ≡ Some old) × Goes (Token n) (Opened n) (GoesOn cmp matching (Unheld n) (Held n)) old.rows mid.rows)) ⊎ (mid.rows.faces ≡ [])
            → Came n node f
        by_line mid goes m at_m hears (inl old) = record {
          mid = mid;
          goes = goes;
          face = m;
          hears = hears;
          before =
              ⊎_elim
              (λ was. inl (record { old = old.0; there = old.1.0; goes = old.1.1; face = was.0; among = was.1.0; on = was.1.1 }))
              (λ new. inr new)
              (old.1.1.faces m at_m);
        }
        by_line mid goes m at_m hears (inr none) = absurd (subst (Among m) none at_m)

        by_face : (mid : Node K) → nth n c.gateways ≡ Some mid → Goes (λ (e : K). ⊥) (λ k. ⊥) (HearsOn cmp exact heard n) mid.rows node.rows
            → ((m : Face K) × (Among m mid.rows.faces × HearsOn cmp exact heard n m f)) ⊎ IsNew (λ (e : K). ⊥) (λ k. ⊥) f → Came n node f
        by_face mid there_mid goes (inl m) = by_line mid goes m.0 m.1.0 m.1.1 (line n mid there_mid)
        by_face mid there_mid goes (inr new) = absurd new.opened

    -- a face is of a router region as it was
    plain_then : (n : ℕ) (g mid h : Rows K) (o m f : Face K) → mid.mode ≡ g.mode → h.mode ≡ mid.mode → m.region ≡ o.region → f.region ≡ m.region → is_routed h f ≡ false → is_routed g o ≡ false
    plain_then n g mid h o m f one two first second plain =
        let mode : g.mode ≡ h.mode = sym (two ∙ one) in
        let region : o.region ≡ f.region = sym (second ∙ first) in
        ap (λ x. (hat_of x o.region).goes_by_trees) mode ∙ (ap (λ r. (hat_of h.mode r).goes_by_trees) region ∙ plain)

    module _ (n : ℕ) (node : Node K) (f : Face K) (there : nth n t.gateways ≡ Some node) (at : Among f node.rows.faces) (plain : is_routed node.rows f ≡ false) where
      -- ---- no more

      module _ (changed : changed_are_kept cmp matching Upper t lists.tokens ≡ true) (listed : heard_are_kept cmp matching Upper t heard ≡ true) (unheld : list_all (unheld_may_hear cmp matching t) lists.unheld ≡ true) (was : EachPlainFace (KeepsNoMore cmp matching) s) where
        abbrev Right : K → Type 0
        Right e = (may_hear matching f e ≡ true) × (is_seen cmp node.rows f.region e ≡ true)

        heard_right : (m : Face K) (e : K) → HearsOn cmp exact heard n m f → Among (n, m.number, e) heard → keeps cmp f e ≡ true → Right e
        heard_right m e hears listed_e kept =
            upper_says cmp matching itself exact node.rows f e
            (heard_says cmp matching itself exact Upper t heard n node f e listed (subst (λ k. Among (n, k, e) heard) (sym hears.number) listed_e) there at plain) kept

        old_right : (x : Came n node f) (w : WasThere n x.mid.rows x.face) (e : K) → keeps cmp f e ≡ true → Has e x.face.told → Right e
        old_right x w e kept has =
            let plain_before = plain_then n w.old.rows x.mid.rows node.rows w.face x.face f w.goes.mode x.goes.mode w.on.region x.hears.region plain in
            let before : KeepsNoMore cmp matching w.old.rows w.face = each_member (λ o. is_routed w.old.rows o ≡ false → KeepsNoMore cmp matching w.old.rows o) w.face w.old.rows.faces
            (each_nth (λ (y : Node K). Each (λ o. is_routed y.rows o ≡ false → KeepsNoMore cmp matching y.rows o) y.rows.faces) n s.gateways w.old was w.there) w.among plain_before in
            (hearing_still before, seen_still before)
          where
            hearing_still : KeepsNoMore cmp matching w.old.rows w.face → may_hear matching f e ≡ true
            hearing_still before =
                ⊎_elim
                (λ h. hears_alike x.face f e x.hears.region x.hears.held h)
                (λ lost. unheld_says cmp matching itself exact t lists.unheld n node f e unheld (subst (λ k. Among (n, k) lists.unheld) (sym x.hears.number) lost) there at plain (has_any cmp itself exact e f.told kept))
                (w.on.hears e (before.is_sought e (any_has cmp itself exact e w.face.told (subst (λ rows. Has e rows) w.on.told has))))

            on_to : Stands (sees w.face.region) x.mid.rows e → is_seen cmp node.rows f.region e ≡ true
            on_to stands =
                ⊎_elim
                (λ now. stands_seen cmp itself exact node.rows f.region e (subst (λ r. Stands (sees r) node.rows e) (sym (x.hears.region ∙ w.on.region)) now))
                (λ none. absurd none)
                (x.goes.stood (sees w.face.region) e stands)

            seen_still : KeepsNoMore cmp matching w.old.rows w.face → is_seen cmp node.rows f.region e ≡ true
            seen_still before =
                ⊎_elim
                (λ stands. on_to stands)
                (λ touched. (upper_says cmp matching itself exact node.rows f e (changed_says cmp matching itself exact Upper t lists.tokens n node f e changed touched there at plain) kept).1)
                (w.goes.stood (sees w.face.region) e
                (seen_stands cmp itself exact w.old.rows w.face.region e (before.is_visible e (any_has cmp itself exact e w.face.told (subst (λ rows. Has e rows) w.on.told has)))))

        by_before : (x : Came n node f) (e : K) → keeps cmp f e ≡ true → Has e x.face.told → WasThere n x.mid.rows x.face ⊎ IsNew (Token n) (Opened n) x.face → Right e
        by_before x e kept has (inl w) = old_right x w e kept has
        by_before x e kept has (inr new) = absurd (subst (λ rows. Has e rows) new.told has).1

        right : (e : K) → keeps cmp f e ≡ true → Right e
        right e kept =
            let x = came n node f there at in
            ⊎_elim (λ has. by_before x e kept has x.before) (λ listed_e. heard_right x.face e x.hears listed_e kept) (x.hears.more e (has_any cmp itself exact e f.told kept))

        pub face_no_more : KeepsNoMore cmp matching node.rows f
        face_no_more = record { is_visible = λ e kept. (right e kept).1; is_sought = λ e kept. (right e kept).0 }

      -- ---- no less

      module _ (changed : changed_are_kept cmp matching Lower t lists.tokens ≡ true) (listed : heard_are_kept cmp matching Lower t heard ≡ true) (opened : list_all (opened_keeps_all cmp matching t) lists.opened ≡ true) (held : list_all (holder_keeps cmp matching t) lists.held ≡ true)
          (was : EachPlainFace (KeepsNoLess cmp matching) s) where
        new_keeps : (x : Came n node f) → IsNew (Token n) (Opened n) x.face → (e : K) → is_seen_and_admitted cmp node.rows f.region e ≡ true → is_owed matching f e ≡ true → keeps cmp f e ≡ true
        new_keeps x new e seen owed =
            all_says cmp matching itself exact node.rows f None e
            (opened_says cmp matching itself exact t lists.opened n node f opened (subst (λ k. Among (n, k) lists.opened) (sym x.hears.number) new.opened) there at plain)
            (admitted_stands cmp itself exact node.rows f.region e seen) refl owed

        -- the regions that are seen and admitted, of a face of the region
        abbrev regions : List (Region × Region) → Region → Region → Bool
        regions refused own source = sees own source && admits refused source own

        old_keeps : (x : Came n node f) (w : WasThere n x.mid.rows x.face) (e : K) → is_seen_and_admitted cmp node.rows f.region e ≡ true → is_owed matching f e ≡ true → keeps cmp f e ≡ true
        old_keeps x w e seen owed =
            ⊎_elim
            (λ owed_then. by_stands owed_then (x.goes.stands (regions node.rows.refused f.region) e (admitted_stands cmp itself exact node.rows f.region e seen)))
            (λ asked. by_holder asked.0 asked.1.0 asked.1.1)
            (w.on.owed e (owed_alike x.face f e x.hears.region x.hears.held owed))
          where
            by_holder : (id : ℕ) → Held n x.face.number id → is_concerned cmp matching x.face.held id e ≡ true → keeps cmp f e ≡ true
            by_holder id held_id concerned =
                all_says cmp matching itself exact node.rows f (Some id) e
                (holder_says cmp matching itself exact t lists.held n id node f held (subst (λ k. Among (n, k, id) lists.held) (sym x.hears.number) held_id) there at plain)
                (admitted_stands cmp itself exact node.rows f.region e seen)
                (subst (λ rows. is_concerned cmp matching rows id e ≡ true) (sym x.hears.held) concerned) owed

            by_old : is_owed matching w.face e ≡ true → Stands (regions node.rows.refused f.region) w.old.rows e ⊎ Token n e → keeps cmp f e ≡ true
            by_old owed_then (inl stands) =
                ⊎_elim
                (λ has. any_has cmp itself exact e f.told has)
                (λ listed_e.
                lower_says cmp matching itself exact node.rows f e
                (heard_says cmp matching itself exact Lower t heard n node f e listed (subst (λ k. Among (n, k, e) heard) (sym x.hears.number) listed_e) there at plain) seen owed)
                (x.hears.less e (subst (λ rows. Has e rows) (sym w.on.told) (has_any cmp itself exact e w.face.told
                (each_member (λ o. is_routed w.old.rows o ≡ false → KeepsNoLess cmp matching w.old.rows o) w.face w.old.rows.faces
                (each_nth (λ (y : Node K). Each (λ o. is_routed y.rows o ≡ false → KeepsNoLess cmp matching y.rows o) y.rows.faces) n s.gateways w.old was w.there)
                w.among (plain_then n w.old.rows x.mid.rows node.rows w.face x.face f w.goes.mode x.goes.mode w.on.region x.hears.region plain) e
                (stands_admitted cmp itself exact w.old.rows w.face.region e
                (subst (λ rs. Stands rs w.old.rows e) (ap (λ r. regions r f.region) (x.goes.refused ∙ w.goes.refused) ∙ ap (λ o. regions w.old.rows.refused o) (x.hears.region ∙ w.on.region)) stands)) owed_then))))
            by_old owed_then (inr touched) = lower_says cmp matching itself exact node.rows f e (changed_says cmp matching itself exact Lower t lists.tokens n node f e changed touched there at plain) seen owed

            by_stands : is_owed matching w.face e ≡ true → Stands (regions node.rows.refused f.region) x.mid.rows e ⊎ ⊥ → keeps cmp f e ≡ true
            by_stands owed_then (inl stands) = by_old owed_then (w.goes.stands (regions node.rows.refused f.region) e stands)
            by_stands owed_then (inr none) = absurd none

        by_before_less : (x : Came n node f) → WasThere n x.mid.rows x.face ⊎ IsNew (Token n) (Opened n) x.face → KeepsNoLess cmp matching node.rows f
        by_before_less x (inl w) e seen owed = old_keeps x w e seen owed
        by_before_less x (inr new) e seen owed = new_keeps x new e seen owed

        pub face_no_less : KeepsNoLess cmp matching node.rows f
        face_no_less = let x = came n node f there at in by_before_less x x.before

    -- ---- all faces

    pub all_no_more : are_no_more cmp matching t lists.tokens heard lists.unheld ≡ true → EachPlainFace (KeepsNoMore cmp matching) s → EachPlainFace (KeepsNoMore cmp matching) t
    all_no_more passes was =
        let parts = and_parts (changed_are_kept cmp matching Upper t lists.tokens && heard_are_kept cmp matching Upper t heard) (list_all (unheld_may_hear cmp matching t) lists.unheld) passes in
        let both = and_parts (changed_are_kept cmp matching Upper t lists.tokens) (heard_are_kept cmp matching Upper t heard) parts.0 in
        nth_each (λ (node : Node K). Each (λ f. is_routed node.rows f ≡ false → KeepsNoMore cmp matching node.rows f) node.rows.faces) t.gateways
        (λ n node there. members_each (λ f. is_routed node.rows f ≡ false → KeepsNoMore cmp matching node.rows f) node.rows.faces (λ f at plain. face_no_more n node f there at plain both.0 both.1 parts.1 was))

    pub all_no_less : are_no_less cmp matching t lists.tokens heard lists.opened lists.held ≡ true → EachPlainFace (KeepsNoLess cmp matching) s → EachPlainFace (KeepsNoLess cmp matching) t
    all_no_less passes was =
        let parts = and_parts (changed_are_kept cmp matching Lower t lists.tokens && heard_are_kept cmp matching Lower t heard) (list_all (opened_keeps_all cmp matching t) lists.opened && list_all (holder_keeps cmp matching t) lists.held) passes in
        let both = and_parts (changed_are_kept cmp matching Lower t lists.tokens) (heard_are_kept cmp matching Lower t heard) parts.0 in
        let new = and_parts (list_all (opened_keeps_all cmp matching t) lists.opened) (list_all (holder_keeps cmp matching t) lists.held) parts.1 in
        nth_each (λ (node : Node K). Each (λ f. is_routed node.rows f ≡ false → KeepsNoLess cmp matching node.rows f) node.rows.faces) t.gateways
        (λ n node there. members_each (λ f. is_routed node.rows f ≡ false → KeepsNoLess cmp matching node.rows f) node.rows.faces (λ f at plain. face_no_less n node f there at plain both.0 both.1 new.0 new.1 was))
