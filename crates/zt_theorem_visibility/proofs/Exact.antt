-- Turns of a transcript keep exactly what is visible.
use Rattle.std.proofs.Common.{◌≡◌, ℕ, ◌+◌, Bool, true, false, ◌&&◌, List, [], ◌∷◌, ◌++◌, map, sym, ap, ◌∙◌}
use Rattle.std.specs.Cmp.{IsTotalOrder}
use Rattle.std.specs.List.{list_any, flat_map}
use Rattle.std.specs.declared.cmp.Ordering.{Ordering}
use Rattle.std.specs.declared.cmp.Ordering.TheVariants.{Equal}
use Rattle.zt_region.specs.declared.region.Region.{Region}
use Rattle.zt_region.specs.Admission.{admits}
use Rattle.zt_protocol.specs.Plain.{PlainLine}
use Rattle.zt_model.specs.Fabric.{Fabric, Node, entries_from}
use Rattle.zt_model.specs.Lists.{same}
use Rattle.zt_model.specs.Promises.{EachGateway, KeepsExactly, Turn, turns_from}
use Rattle.zt_model.specs.Rows.{Face, RoutedRow, Rows}
use Rattle.zt_model.specs.Says.{is_routed}
use Rattle.zt_model.specs.Seen.{is_owed, is_seen}
use Rattle.zt_model.specs.Transcript.{AllKeepWhatTheyShould, Each}
use Rattle.zt_model.specs.Visible.{is_admitted, is_visible, keeps, live_rows, rows_of_face, shows}
use Rattle.zt_laws.specs.Keeping.{AllKeepRight, FacesKeepRight, KeepsRight}
use Rattle.zt_laws.specs.Shown.{as_shown, is_from_other, node_shown, without_own}
use Rattle.zt_laws.specs.Sound.{HasFirstIds}
use Rattle.zt_laws.proofs.Lists.{each_map, each_weaker}
use Rattle.zt_laws.proofs.Seen.{all_as_promised, owed_is, seen_is}
use Rattle.zt_laws.proofs.ShownLines.{turns_have}
use Rattle.zt_laws.proofs.ShownRows.{filter_within}
use Rattle.zt_theorem_soundness.specs.Lines.{EachGatewayIs}
use Rattle.zt_theorem_soundness.specs.Sound.{IsSound}
use Rattle.zt_theorem_soundness.proofs.Calls.{keeps_exactly}
use Rattle.zt_theorem_soundness.proofs.Sound.{sound_after_line}

each_gateway : {K : Type 0} (P : ℕ → Node K → Type 0) (Q : Node K → Type 0) → ((n : ℕ) (node : Node K) → Q node → P n node) → (i : ℕ) (gs : List (Node K)) → Each Q gs → EachGateway P i gs
each_gateway P Q one i [] all = tt
each_gateway P Q one i (node ∷ gs) all = (one i node all.0, each_gateway P Q one (i + 1) gs all.1)

module _ {K : Type 0} (cmp : K → K → Ordering) (matching : K → K → Bool) where
  -- own rows are no live ones
  pub live_shown : (g : Rows K) → live_rows (without_own g) ≡ live_rows g
  live_shown g = ap (λ (rows : List (RoutedRow K)). flat_map rows_of_face g.faces ++ map (λ row. (row.region, row.expr)) rows) (filter_within (is_from_other g.zid) (is_from_other g.zid) (λ row other. other) g.routed)

  pub visible_shown : (g : Rows K) (own : Region) (e : K) → is_visible cmp (without_own g) own e ≡ is_visible cmp g own e
  unfolding is_visible
  visible_shown g own e = ap (list_any (λ row. same cmp e row.1 && shows g.mode own row.0)) (live_shown g)

  pub admitted_shown : (g : Rows K) (own : Region) (e : K) → is_admitted cmp (without_own g) own e ≡ is_admitted cmp g own e
  unfolding is_admitted
  admitted_shown g own e = ap (list_any (λ row. same cmp e row.1 && (shows g.mode own row.0 && admits g.refused row.0 own))) (live_shown g)

  keeps_shown : (g : Rows K) (f : Face K) → KeepsRight cmp matching g f → KeepsRight cmp matching (without_own g) f
  keeps_shown g f right = record {
    kept_is_visible = λ e kept. visible_shown g f.region e ∙ right.kept_is_visible e kept;
    kept_is_sought = λ e kept. right.kept_is_sought e kept;
    admitted_is_kept = λ e admitted covered. right.admitted_is_kept e (sym (admitted_shown g f.region e) ∙ admitted) covered;
  }

  rows_shown_keep : (g : Rows K) → FacesKeepRight cmp matching g → FacesKeepRight cmp matching (without_own g)
  rows_shown_keep g all =
      each_weaker (λ f. is_routed g f ≡ false → KeepsRight cmp matching g f) (λ f. is_routed g f ≡ false → KeepsRight cmp matching (without_own g) f)
      (λ f one plain. keeps_shown g f (one plain)) g.faces all

  -- what a transcript shows of sound gateways
  pub shown_keep : (s : Fabric K) → EachGatewayIs cmp matching (IsSound cmp matching) s → AllKeepRight cmp matching (as_shown s)
  shown_keep s is =
      each_map (λ (node : Node K). FacesKeepRight cmp matching node.rows) node_shown s.gateways
      (each_weaker (λ (node : Node K). IsSound cmp matching node.rows) (λ (node : Node K). FacesKeepRight cmp matching (without_own node.rows))
      (λ node sound. rows_shown_keep node.rows sound.keeps) s.gateways is.gateways)

  module _ (total : IsTotalOrder cmp) (equal_is_same : (a b : K) → cmp a b ≡ Equal → a ≡ b) where
    -- where faces keep what they should, they keep exactly what they cover and see
    pub exactly : (t : Turn K) → AllKeepRight cmp matching t.after → KeepsExactly cmp matching t
    exactly t all =
        each_gateway (λ n (node : Node K). Each (λ f. is_routed node.rows f ≡ false → node.rows.refused ≡ [] → (e : K) → is_owed matching f e ≡ true → keeps cmp f e ≡ is_seen cmp node.rows f.region e) node.rows.faces)
        (λ (node : Node K). FacesKeepRight cmp matching node.rows)
        (λ n node right.
        each_weaker (λ f. is_routed node.rows f ≡ false → KeepsRight cmp matching node.rows f)
        (λ f. is_routed node.rows f ≡ false → node.rows.refused ≡ [] → (e : K) → is_owed matching f e ≡ true → keeps cmp f e ≡ is_seen cmp node.rows f.region e)
        (λ f one plain none_ e owed.
        keeps_exactly cmp matching total equal_is_same node.rows f e (one plain) none_ (sym (owed_is matching node.rows.mode f e) ∙ owed) ∙ sym (seen_is cmp node.rows f.region e))
        node.rows.faces right)
        1 t.after.gateways all

    abbrev SoundFabric : Fabric K → Type 0
    SoundFabric s = EachGatewayIs cmp matching (IsSound cmp matching) s

    turns_keep_right : (lines : List (PlainLine K)) (s : Fabric K) → Each HasFirstIds lines → SoundFabric s
        → Each (λ t. AllKeepRight cmp matching t.after) (turns_from cmp matching lines (entries_from cmp matching lines s) (as_shown s))
    turns_keep_right lines s real sound =
        turns_have cmp matching total (λ t. AllKeepRight cmp matching t.after) SoundFabric
        (λ line x first fine holds.
        let after = sound_after_line cmp matching total equal_is_same line x first holds in
        (shown_keep _ after, after))
        lines s real sound.order sound

    -- as promises read it
    pub turns_keep : (lines : List (PlainLine K)) (s : Fabric K) → Each HasFirstIds lines → SoundFabric s
        → Each (λ t. AllKeepWhatTheyShould cmp matching t.after) (turns_from cmp matching lines (entries_from cmp matching lines s) (as_shown s))
    turns_keep lines s real sound =
        let ts = turns_from cmp matching lines (entries_from cmp matching lines s) (as_shown s) in
        each_weaker (λ (t : Turn K). AllKeepRight cmp matching t.after) (λ (t : Turn K). AllKeepWhatTheyShould cmp matching t.after) (λ t right. all_as_promised cmp matching t.after right) ts (turns_keep_right lines s real sound)

    pub turns_exact : (lines : List (PlainLine K)) (s : Fabric K) → Each HasFirstIds lines → SoundFabric s
        → Each (KeepsExactly cmp matching) (turns_from cmp matching lines (entries_from cmp matching lines s) (as_shown s))
    turns_exact lines s real sound =
        let ts = turns_from cmp matching lines (entries_from cmp matching lines s) (as_shown s) in
        each_weaker (λ (t : Turn K). AllKeepRight cmp matching t.after) (KeepsExactly cmp matching) (λ t right. exactly t right) ts (turns_keep_right lines s real sound)
