-- The same of the configuration of the south, and of items.
use Rattle.std.proofs.Common.{◌≡◌, ◌≢◌, inl, inr, ℕ, zero, suc, ◌<◌, ◌≤◌, Bool, true, false, cond, eqb, List, [], ◌∷◌, ◌++◌, length, Option, Some, None, Result, Ok, refl, sym, ap, subst, ◌∙◌, arith}
use Rattle.std.proofs.lemmas.Bool.{cond-true, cond-false, eqb-true}
use Rattle.std.specs.Prelude.{codes}
use Rattle.std.specs.List.{onto_first}
use Rattle.std.specs.Str.{bytes_eq}
use Rattle.zt_keys.specs.declared.error.KeyError.{KeyError}
use Rattle.zt_region.specs.declared.region.WhatAmI.{WhatAmI}
use Rattle.zt_region.specs.declared.region.Zid.{Zid}
use Rattle.zt_region.specs.South.{PlainFilter, PlainSubregion, PlainSouth}
use Rattle.zt_protocol.specs.declared.errors.LineError.{LineError}
use Rattle.zt_protocol.specs.declared.messages.QueryableInfo.{QueryableInfo}
use Rattle.zt_lines.specs.declared.entities.Item.{Item}
use Rattle.zt_lines.specs.declared.entities.Item.TheVariants.{Subscriber, Queryable}
use Rattle.zt_fields.specs.Numbers.{u16_of}
use Rattle.zt_fields.specs.Fields.{◌>>=◌, spelled_by, Fields, parts_of, behind, end_at, value_at, optional_value_at}
use Rattle.zt_fields.specs.Values.{zid_of, mode_of, key_read, flag_of}
use Rattle.zt_lines.specs.Lists.{name_of, list_read, conditions_read, positive_read, filter_by, filter_read, subregion_read, south_read}
use Rattle.zt_lines.specs.Items.{subscriber_at, queryable_at, item_at, items_within, items_read, subscribers_of, queryables_of, entities_read}
use Rattle.zt_lines.specs.Grammar.{EachIs, IsList, IsName, AreConditions, IsPositive, IsFilter, IsSubregion, IsSouthConf, AreTheItems, AreItems}
use Rattle.zt_fields.specs.Spellings.{IsZid, IsMode, IsU16, IsFlag, IsKey, MayStand}
use Rattle.zt_fields.proofs.FieldLemmas.{behind_of, behind_is, parts_some}
use Rattle.zt_fields.proofs.ResultLemmas.{bind_ok, ok_is}
use Rattle.zt_lines.proofs.ItemLemmas.{items_step}
use Rattle.zt_fields.proofs.Exact.{Exact, chosen, same_bytes, bytes_same, exact_mode, exact_u16, exact_flag}
use Rattle.zt_fields.proofs.ExactParts.{exact_zid, exact_key}
use Rattle.zt_lines.proofs.ExactNames.{exact_name}
use Rattle.zt_lines.proofs.ExactLists.{exact_list}
use Rattle.zt_fields.proofs.ExactFields.{value_sound, value_complete, Absent, optional_sound, optional_complete, optional_last, absent_before, absent_last, end_sound, ended}

-- ---- conditions

abbrev zids_exact : Exact (list_read (spelled_by zid_of) 43) (IsList IsZid 43)
zids_exact = exact_list (spelled_by zid_of) IsZid exact_zid 43

abbrev modes_exact : Exact (list_read (spelled_by mode_of) 43) (IsList IsMode 43)
modes_exact = exact_list (spelled_by mode_of) IsMode exact_mode 43

abbrev names_exact : Exact (list_read (spelled_by name_of) 43) (IsList IsName 43)
names_exact = exact_list (spelled_by name_of) IsName exact_name 43

conditions_sound : (negated : Bool) (text : List ℕ) (f : PlainFilter) → conditions_read negated text ≡ Ok f → AreConditions text f × (f.negated ≡ negated)
unfolding conditions_read
conditions_sound negated text f h =
    let a = bind_ok (optional_value_at (list_read (spelled_by zid_of) 43) (codes "zid:") (parts_of 38 text)) _ f h in
    let b = bind_ok (optional_value_at (list_read (spelled_by mode_of) 43) (codes "mode:") a.0.1) _ f a.2 in
    let c = bind_ok (optional_value_at (list_read (spelled_by name_of) 43) (codes "name:") b.0.1) _ f b.2 in
    let d = bind_ok (end_at c.0.1) _ f c.2 in
    let made : PlainFilter = record { zids = a.0.0; interfaces = None; modes = b.0.0; region_names = c.0.0; negated = negated } in
    let x = optional_sound (list_read (spelled_by zid_of) 43) (IsList IsZid 43) zids_exact (codes "zid:") (parts_of 38 text) a.0 a.1 in
    let y = optional_sound (list_read (spelled_by mode_of) 43) (IsList IsMode 43) modes_exact (codes "mode:") a.0.1 b.0 b.1 in
    let z = optional_sound (list_read (spelled_by name_of) 43) (IsList IsName 43) names_exact (codes "name:") b.0.1 c.0 c.1 in
    let last = ended b.0.1 z.0 c.0.1 z.1 (end_sound c.0.1 d.0 d.1) in
    let parts : parts_of 38 text ≡ x.0 ++ (y.0 ++ z.0) = x.1 ∙ ap (λ (t : Fields). x.0 ++ t) (y.1 ∙ ap (λ (t : Fields). y.0 ++ t) last) in
    let found : AreConditions text made = (x.0, y.0, z.0, parts, x.2, y.2, z.2, refl) in
    subst (λ (g : PlainFilter). AreConditions text g × (g.negated ≡ negated)) (ok_is made f d.2) (found, refl)

conditions_complete : (text : List ℕ) (f : PlainFilter) → AreConditions text f → conditions_read f.negated text ≡ Ok f
unfolding conditions_read
conditions_complete text f h =
    let x = h.0 in
    let y = h.1 in
    let z = h.2 in
    let modes_absent : Absent (codes "mode:") z = absent_last (IsList IsName 43) (codes "mode:") (codes "name:") (λ t. refl) z f.region_names h.6 in
    let names_absent : Absent (codes "zid:") z = absent_last (IsList IsName 43) (codes "zid:") (codes "name:") (λ t. refl) z f.region_names h.6 in
    let zids_absent : Absent (codes "zid:") (y ++ z) = absent_before (IsList IsMode 43) (codes "zid:") (codes "mode:") (λ t. refl) y f.modes z h.5 names_absent in
    let made : PlainFilter = record { zids = f.zids; interfaces = None; modes = f.modes; region_names = f.region_names; negated = f.negated } in
    let same : made ≡ f = λ i. record { zids = f.zids; interfaces = (sym h.7) i; modes = f.modes; region_names = f.region_names; negated = f.negated } in
    ap (λ (t : Fields). optional_value_at (list_read (spelled_by zid_of) 43) (codes "zid:") t >>= λ zids. optional_value_at (list_read (spelled_by mode_of) 43) (codes "mode:") zids.1 >>= λ modes. optional_value_at (list_read (spelled_by name_of) 43) (codes "name:") modes.1 >>= λ names. end_at names.1 >>= λ end. Ok (record { zids = zids.0; interfaces = None; modes = modes.0; region_names = names.0; negated = f.negated })) h.3
    ∙ rw (
      optional_complete (list_read (spelled_by zid_of) 43) (IsList IsZid 43) zids_exact (codes "zid:") x f.zids (y ++ z) h.4 zids_absent,
      optional_complete (list_read (spelled_by mode_of) 43) (IsList IsMode 43) modes_exact (codes "mode:") y f.modes z h.5 modes_absent,
      optional_last (list_read (spelled_by name_of) 43) (IsList IsName 43) names_exact (codes "name:") z f.region_names h.6,
    ) (ap (λ (g : PlainFilter). Ok g) same)

-- the first byte of the first part
onto_is : (c b : ℕ) (parts others : Fields) (bs : List ℕ) → onto_first c parts ≡ (b ∷ bs) ∷ others → c ≡ b
onto_is c b [] others bs h = cc
onto_is c b (part ∷ parts) others bs h = cc

part_begins : (separator c : ℕ) (cs : List ℕ) (b : ℕ) (bs : List ℕ) (others : Fields) → eqb c separator ≡ false → parts_of separator (c ∷ cs) ≡ (b ∷ bs) ∷ others → c ≡ b
part_begins separator c cs b bs others differs h = onto_is c b (parts_of separator cs) others bs (sym (cond-false _ _ _ differs) ∙ h)

-- conditions begin with `z`, `m` or `n`
conditions_begin : (text : List ℕ) (f : PlainFilter) → AreConditions text f → (b : ℕ) × (bs : List ℕ) × (others : Fields) × (parts_of 38 text ≡ (b ∷ bs) ∷ others) × (97 < b)
conditions_begin text f h = by_parts text f.zids f.modes f.region_names h.0 h.1 h.2 h.3 h.4 h.5 h.6
  where
    by_parts : (text : List ℕ) (zs : Option (List Zid)) (ms : Option (List WhatAmI)) (ns : Option (List (List ℕ))) (x y z : Fields) → parts_of 38 text ≡ x ++ (y ++ z)
        → MayStand (codes "zid:") (IsList IsZid 43) x zs → MayStand (codes "mode:") (IsList IsMode 43) y ms → MayStand (codes "name:") (IsList IsName 43) z ns
        → (b : ℕ) × (bs : List ℕ) × (others : Fields) × (parts_of 38 text ≡ (b ∷ bs) ∷ others) × (97 < b)
    by_parts text (Some zs) ms ns x y z p hx hy hz = (122, codes "id:" ++ hx.0, y ++ z, p ∙ ap (λ (t : Fields). t ++ (y ++ z)) hx.1, omega arith)
    by_parts text None (Some ms) ns x y z p hx hy hz = (109, codes "ode:" ++ hy.0, z, p ∙ (ap (λ (t : Fields). t ++ (y ++ z)) hx ∙ ap (λ (t : Fields). t ++ z) hy.1), omega arith)
    by_parts text None None (Some ns) x y z p hx hy hz = (110, codes "ame:" ++ hz.0, [], p ∙ (ap (λ (t : Fields). t ++ (y ++ z)) hx ∙ (ap (λ (t : Fields). t ++ z) hy ∙ hz.1)), omega arith)
    by_parts text None None None x y z p hx hy hz =
        let q = parts_some 38 text in
        absurd (none_left q.0 q.1 (sym q.2 ∙ (p ∙ (ap (λ (t : Fields). t ++ (y ++ z)) hx ∙ (ap (λ (t : Fields). t ++ z) hy ∙ hz)))))
      where
        none_left : (first : List ℕ) (others : Fields) → first ∷ others ≡ [] → ⊥
        none_left first others h = cc

no_conditions : (c : ℕ) (cs : List ℕ) (f : PlainFilter) → c ≤ 97 → eqb c 38 ≡ false → AreConditions (c ∷ cs) f → ⊥
no_conditions c cs f low differs h =
    let p = conditions_begin (c ∷ cs) f h in
    omega (arith, low, p.4, part_begins 38 c cs p.0 p.1 p.2 differs p.3)

-- ---- filters

no_truth : false ≡ true → ⊥
no_truth h = cc

differs : (a b : List ℕ) → bytes_eq a b ≡ false → a ≡ b → ⊥
differs a b f e = no_truth (sym f ∙ bytes_same a b e)

positive_sound : (negated : Bool) (text : List ℕ) (f : PlainFilter) → positive_read negated text ≡ Ok f → IsPositive text f × (f.negated ≡ negated)
unfolding positive_read
positive_sound negated text f h =
    elim (chosen (bytes_eq text (codes "all")) (Ok (record { zids = None; interfaces = None; modes = None; region_names = None; negated = negated })) (conditions_read negated text) (Ok f) h) [
      | inl g ↦
          let made : PlainFilter = record { zids = None; interfaces = None; modes = None; region_names = None; negated = negated } in
          let found : IsPositive text made = inl (same_bytes text (codes "all") g.0, refl, refl, refl, refl) in
          subst (λ (k : PlainFilter). IsPositive text k × (k.negated ≡ negated)) (ok_is made f g.1) (found, refl)
      | inr g ↦ let c = conditions_sound negated text f g.1 in (inr c.0, c.1)
    ]

not_all : (text : List ℕ) (f : PlainFilter) → AreConditions text f → bytes_eq text (codes "all") ≡ false
not_all text f h =
    elim (bytes_eq text (codes "all")) as (λ v. bytes_eq text (codes "all") ≡ v → v ≡ false) [
      | false ↦ λ is. refl
      | true ↦ λ is. absurd (no_conditions 97 (codes "ll") f (omega arith) refl (subst (λ (t : List ℕ). AreConditions t f) (same_bytes text (codes "all") is) h))
    ] refl

positive_complete : (text : List ℕ) (f : PlainFilter) → IsPositive text f → positive_read f.negated text ≡ Ok f
unfolding positive_read
positive_complete text f (inl h) =
    let same : record { zids = None; interfaces = None; modes = None; region_names = None; negated = f.negated } ≡ f = λ i. record { zids = (sym h.1) i; interfaces = (sym h.2) i; modes = (sym h.3) i; region_names = (sym h.4) i; negated = f.negated } in
    cond-true _ _ _ (bytes_same text (codes "all") h.0) ∙ ap (λ (g : PlainFilter). Ok g) same
positive_complete text f (inr h) = cond-false _ _ _ (not_all text f h) ∙ conditions_complete text f h

filter_sound : (text : List ℕ) (f : PlainFilter) → filter_read text ≡ Ok f → IsFilter text f
unfolding filter_read
filter_sound text f h =
    elim (behind (codes "!") text) as (λ v. behind (codes "!") text ≡ v → filter_by text v ≡ Ok f → IsFilter text f) [
      | None ↦ λ is g. let p = positive_sound false text f g in inl (p.1, p.0)
      | Some rest ↦ λ is g. let p = positive_sound true rest f g in inr (rest, behind_is (codes "!") text rest is, p.1, p.0)
    ] refl h

no_mark : (text : List ℕ) (f : PlainFilter) → IsPositive text f → behind (codes "!") text ≡ None
no_mark text f (inl h) = ap (behind (codes "!")) h.0
no_mark [] f (inr h) = refl
no_mark (c ∷ cs) f (inr h) =
    elim (eqb c 33) as (λ v. eqb c 33 ≡ v → cond v (Some cs) None ≡ None) [
      | false ↦ λ is. refl
      | true ↦ λ is. absurd (no_conditions 33 cs f (omega arith) refl (subst (λ (b : ℕ). AreConditions (b ∷ cs) f) (eqb-true c 33 is) h))
    ] refl

filter_complete : (text : List ℕ) (f : PlainFilter) → IsFilter text f → filter_read text ≡ Ok f
unfolding filter_read
filter_complete text f (inl h) =
    ap (filter_by text) (no_mark text f h.1) ∙ (ap (λ (b : Bool). positive_read b text) (sym h.0) ∙ positive_complete text f h.1)
filter_complete text f (inr h) =
    ap (filter_by text) (ap (behind (codes "!")) h.1 ∙ behind_of (codes "!") h.0) ∙ (ap (λ (b : Bool). positive_read b h.0) (sym h.2) ∙ positive_complete h.0 f h.3)

exact_filter : Exact filter_read IsFilter
exact_filter = record { sound = filter_sound; complete = filter_complete }

-- a filter that begins with `a` is `all`
no_filter : (cs : List ℕ) (f : PlainFilter) → (97 ∷ cs ≢ codes "all") → IsFilter (97 ∷ cs) f → ⊥
no_filter cs f other (inl (negated, inl h)) = other h.0
no_filter cs f other (inl (negated, inr h)) = no_conditions 97 cs f (omega arith) refl h
no_filter cs f other (inr h) = other_mark cs h.0 h.1
  where
    other_mark : (cs rest : List ℕ) → 97 ∷ cs ≡ 33 ∷ rest → ⊥
    other_mark cs rest h = cc

no_filters : (cs : List ℕ) (fs : List PlainFilter) → (97 ∷ cs ≢ codes "all") → EachIs IsFilter ((97 ∷ cs) ∷ []) fs → ⊥
no_filters cs [] other h = h
no_filters cs (f ∷ fs) other h = no_filter cs f other h.0

-- ---- subregions

subregion_sound : (text : List ℕ) (s : PlainSubregion) → subregion_read text ≡ Ok s → IsSubregion text s
unfolding subregion_read
subregion_sound text s h =
    elim (chosen (bytes_eq text (codes "any")) (Ok None) (list_read filter_read 124 text >>= λ filters. Ok (Some filters)) (Ok s) h) [
      | inl g ↦ subst (IsSubregion text) (ok_is None s g.1) (same_bytes text (codes "any") g.0)
      | inr g ↦
          let a = bind_ok (list_read filter_read 124 text) _ s g.1 in
          subst (IsSubregion text) (ok_is (Some a.0) s a.2) ((exact_list filter_read IsFilter exact_filter 124).sound text a.0 a.1)
    ]

not_any : (text : List ℕ) (fs : List PlainFilter) → IsList IsFilter 124 text fs → bytes_eq text (codes "any") ≡ false
not_any text fs h =
    elim (bytes_eq text (codes "any")) as (λ v. bytes_eq text (codes "any") ≡ v → v ≡ false) [
      | false ↦ λ is. refl
      | true ↦ λ is. absurd (no_filters (codes "ny") fs (differs (codes "any") (codes "all") refl) (subst (λ (t : List ℕ). IsList IsFilter 124 t fs) (same_bytes text (codes "any") is) h))
    ] refl

subregion_complete : (text : List ℕ) (s : PlainSubregion) → IsSubregion text s → subregion_read text ≡ Ok s
unfolding subregion_read
subregion_complete text None h = cond-true _ _ _ (bytes_same text (codes "any") h)
subregion_complete text (Some fs) h =
    cond-false _ _ _ (not_any text fs h) ∙ ap (λ (r : Result (List PlainFilter) LineError). r >>= λ filters. Ok (Some filters)) ((exact_list filter_read IsFilter exact_filter 124).complete text fs h)

exact_subregion : Exact subregion_read IsSubregion
exact_subregion = record { sound = subregion_sound; complete = subregion_complete }

no_subregions : (ss : List PlainSubregion) → EachIs IsSubregion (codes "auto" ∷ []) ss → ⊥
no_subregions [] h = h
no_subregions (None ∷ ss) h = differs (codes "auto") (codes "any") refl h.0
no_subregions (Some fs ∷ ss) h = no_filters (codes "uto") fs (differs (codes "auto") (codes "all") refl) h.0

south_sound : (text : List ℕ) (s : PlainSouth) → south_read text ≡ Ok s → IsSouthConf text s
unfolding south_read
south_sound text s h =
    elim (chosen (bytes_eq text (codes "auto")) (Ok None) (list_read subregion_read 59 text >>= λ subregions. Ok (Some subregions)) (Ok s) h) [
      | inl g ↦ subst (IsSouthConf text) (ok_is None s g.1) (same_bytes text (codes "auto") g.0)
      | inr g ↦
          let a = bind_ok (list_read subregion_read 59 text) _ s g.1 in
          subst (IsSouthConf text) (ok_is (Some a.0) s a.2) ((exact_list subregion_read IsSubregion exact_subregion 59).sound text a.0 a.1)
    ]

not_auto : (text : List ℕ) (ss : List PlainSubregion) → IsList IsSubregion 59 text ss → bytes_eq text (codes "auto") ≡ false
not_auto text ss h =
    elim (bytes_eq text (codes "auto")) as (λ v. bytes_eq text (codes "auto") ≡ v → v ≡ false) [
      | false ↦ λ is. refl
      | true ↦ λ is. absurd (no_subregions ss (subst (λ (t : List ℕ). IsList IsSubregion 59 t ss) (same_bytes text (codes "auto") is) h))
    ] refl

south_complete : (text : List ℕ) (s : PlainSouth) → IsSouthConf text s → south_read text ≡ Ok s
unfolding south_read
south_complete text None h = cond-true _ _ _ (bytes_same text (codes "auto") h)
south_complete text (Some ss) h =
    cond-false _ _ _ (not_auto text ss h) ∙ ap (λ (r : Result (List PlainSubregion) LineError). r >>= λ subregions. Ok (Some subregions)) ((exact_list subregion_read IsSubregion exact_subregion 59).complete text ss h)

pub exact_south : Exact south_read IsSouthConf
exact_south = record { sound = south_sound; complete = south_complete }

-- ---- items

abbrev IsItem : {K : Type 0} → (List ℕ → Result K KeyError) → Fields → Item K → Fields → Type 0
IsItem reading fields (Subscriber key) rest = (text : List ℕ) × (fields ≡ codes "s" ∷ text ∷ rest) × IsKey reading text key
IsItem reading fields (Queryable key info) rest =
    (c d text : List ℕ) × (fields ≡ codes "q" ∷ c ∷ d ∷ text ∷ rest) × IsFlag c info.complete × IsU16 d info.distance × IsKey reading text key

item_first : {K : Type 0} (reading : List ℕ → Result K KeyError) (fields : Fields) (item : Item K) (rest : Fields) (items : List (Item K)) → IsItem reading fields item rest → AreTheItems reading rest items → AreTheItems reading fields (item ∷ items)
item_first reading fields (Subscriber key) rest items h others = (h.0, rest, h.1, h.2, others)
item_first reading fields (Queryable key info) rest items h others = (h.0, h.1, h.2, rest, h.3, h.4, h.5, h.6, others)

subscriber_sound : {K : Type 0} (reading : List ℕ → Result K KeyError) (kind : List ℕ) (rest : Fields) (x : Item K × Fields) → kind ≡ codes "s" → subscriber_at reading rest ≡ Ok x → IsItem reading (kind ∷ rest) x.0 x.1
unfolding subscriber_at
subscriber_sound {K} reading kind rest x k h =
    let a = bind_ok (value_at (key_read reading) rest) _ x h in
    let v = value_sound (key_read reading) (IsKey reading) (exact_key reading) rest a.0 a.1 in
    let found : IsItem reading (kind ∷ rest) (Subscriber a.0.0) a.0.1 = (v.0, ap (λ (t : List ℕ). t ∷ rest) k ∙ ap (λ (t : Fields). codes "s" ∷ t) v.1, v.2) in
    subst (λ (y : Item K × Fields). IsItem reading (kind ∷ rest) y.0 y.1) (ok_is (Subscriber a.0.0, a.0.1) x a.2) found

queryable_sound : {K : Type 0} (reading : List ℕ → Result K KeyError) (kind : List ℕ) (rest : Fields) (x : Item K × Fields) → kind ≡ codes "q" → queryable_at reading rest ≡ Ok x → IsItem reading (kind ∷ rest) x.0 x.1
unfolding queryable_at
queryable_sound {K} reading kind rest x k h =
    let a = bind_ok (value_at (spelled_by flag_of) rest) _ x h in
    let b = bind_ok (value_at (spelled_by u16_of) a.0.1) _ x a.2 in
    let c = bind_ok (value_at (key_read reading) b.0.1) _ x b.2 in
    let u = value_sound (spelled_by flag_of) IsFlag exact_flag rest a.0 a.1 in
    let v = value_sound (spelled_by u16_of) IsU16 exact_u16 a.0.1 b.0 b.1 in
    let w = value_sound (key_read reading) (IsKey reading) (exact_key reading) b.0.1 c.0 c.1 in
    let made : Item K = Queryable c.0.0 (record { complete = a.0.0; distance = b.0.0 }) in
    let fields : kind ∷ rest ≡ codes "q" ∷ u.0 ∷ v.0 ∷ w.0 ∷ c.0.1 =
    ap (λ (t : List ℕ). t ∷ rest) k ∙ ap (λ (t : Fields). codes "q" ∷ t) (u.1 ∙ ap (λ (t : Fields). u.0 ∷ t) (v.1 ∙ ap (λ (t : Fields). v.0 ∷ t) w.1)) in
    let found : IsItem reading (kind ∷ rest) made c.0.1 = (u.0, v.0, w.0, fields, u.2, v.2, w.2) in
    subst (λ (y : Item K × Fields). IsItem reading (kind ∷ rest) y.0 y.1) (ok_is (made, c.0.1) x c.2) found

item_sound : {K : Type 0} (reading : List ℕ → Result K KeyError) (fields : Fields) (x : Item K × Fields) → item_at reading fields ≡ Ok x → IsItem reading fields x.0 x.1
unfolding item_at
item_sound reading [] x h = absurd cc
item_sound reading (kind ∷ rest) x h =
    elim (chosen (bytes_eq kind (codes "s")) (subscriber_at reading rest) _ (Ok x) h) [
      | inl g ↦ subscriber_sound reading kind rest x (same_bytes kind (codes "s") g.0) g.1
      | inr g ↦ elim (chosen (bytes_eq kind (codes "q")) (queryable_at reading rest) _ (Ok x) g.1) [
        | inl k ↦ queryable_sound reading kind rest x (same_bytes kind (codes "q") k.0) k.1
        | inr k ↦ absurd cc
      ]
    ]

items_sound : {K : Type 0} (reading : List ℕ → Result K KeyError) (most : ℕ) (fields : Fields) (items : List (Item K)) → items_within reading most fields ≡ Ok items → AreTheItems reading fields items
unfolding items_within
items_sound reading zero [] items h = subst (AreTheItems reading []) (ok_is [] items h) refl
items_sound reading (suc most) [] items h = subst (AreTheItems reading []) (ok_is [] items h) refl
items_sound reading zero (field ∷ fields) items h = absurd cc
items_sound reading (suc most) (field ∷ fields) items h =
    let a = bind_ok (item_at reading (field ∷ fields)) _ items h in
    let b = bind_ok (items_within reading most a.0.1) _ items a.2 in
    subst (AreTheItems reading (field ∷ fields)) (ok_is (a.0.0 ∷ b.0) items b.2)
    (item_first reading (field ∷ fields) a.0.0 a.0.1 b.0 (item_sound reading (field ∷ fields) a.0 a.1) (items_sound reading most a.0.1 b.0 b.1))

subscriber_complete : {K : Type 0} (reading : List ℕ → Result K KeyError) (text : List ℕ) (rest : Fields) (key : K) → IsKey reading text key → item_at reading (codes "s" ∷ text ∷ rest) ≡ Ok (Subscriber key, rest)
unfolding item_at subscriber_at
subscriber_complete reading text rest key h = rw (value_complete (key_read reading) (IsKey reading) (exact_key reading) text rest key h) refl

queryable_complete : {K : Type 0} (reading : List ℕ → Result K KeyError) (c d text : List ℕ) (rest : Fields) (key : K) (info : QueryableInfo) → IsFlag c info.complete → IsU16 d info.distance → IsKey reading text key
    → item_at reading (codes "q" ∷ c ∷ d ∷ text ∷ rest) ≡ Ok (Queryable key info, rest)
unfolding item_at queryable_at
queryable_complete reading c d text rest key info hc hd hk =
    rw (
      value_complete (spelled_by flag_of) IsFlag exact_flag c (d ∷ text ∷ rest) info.complete hc,
      value_complete (spelled_by u16_of) IsU16 exact_u16 d (text ∷ rest) info.distance hd,
      value_complete (key_read reading) (IsKey reading) (exact_key reading) text rest key hk,
    ) refl

items_complete : {K : Type 0} (reading : List ℕ → Result K KeyError) (fields : Fields) (items : List (Item K)) → AreTheItems reading fields items → items_read reading fields ≡ Ok items
unfolding items_read items_within
items_complete reading fields [] h = ap (items_read reading) h
items_complete reading fields (Subscriber key ∷ items) h =
    let one = ap (item_at reading) h.2 ∙ subscriber_complete reading h.0 h.1 key h.3 in
    items_step reading fields (Subscriber key) h.1 one ∙ rw (items_complete reading h.1 items h.4) refl
items_complete reading fields (Queryable key info ∷ items) h =
    let one = ap (item_at reading) h.4 ∙ queryable_complete reading h.0 h.1 h.2 h.3 key info h.5 h.6 h.7 in
    items_step reading fields (Queryable key info) h.3 one ∙ rw (items_complete reading h.3 items h.8) refl

pub entities_sound : {K : Type 0} (reading : List ℕ → Result K KeyError) (fields : Fields) (x : List K × List (K × QueryableInfo)) → entities_read reading fields ≡ Ok x → AreItems reading fields x.0 x.1
unfolding entities_read items_read
entities_sound {K} reading fields x h =
    let a = bind_ok (items_read reading fields) _ x h in
    let same = ok_is (subscribers_of a.0, queryables_of a.0) x a.2 in
    (a.0, items_sound reading (length fields) fields a.0 a.1, sym (ap (λ (p : List K × List (K × QueryableInfo)). p.0) same), sym (ap (λ (p : List K × List (K × QueryableInfo)). p.1) same))

pub entities_complete : {K : Type 0} (reading : List ℕ → Result K KeyError) (fields : Fields) (subscribers : List K) (queryables : List (K × QueryableInfo)) → AreItems reading fields subscribers queryables
    → entities_read reading fields ≡ Ok (subscribers, queryables)
unfolding entities_read
entities_complete reading fields subscribers queryables h = rw (items_complete reading fields h.0 h.1, h.2, h.3) refl
