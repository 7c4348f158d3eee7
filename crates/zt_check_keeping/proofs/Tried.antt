-- Where those alone are tried that a test may concern, as many pass as of all.
use Rattle.std.proofs.Common.{◌≡◌, ℕ, Bool, true, false, ◌==◌, ◌&&◌, ◌||◌, not, if◌then◌else◌, List, [], ◌∷◌, Option, None, Some, refl, sym, ap, subst, ◌∙◌}
use Rattle.std.proofs.lemmas.Bool.{and_parts, or_left, or_right, true≢false}
use Rattle.std.specs.List.{list_all, list_any}
use Rattle.std.specs.declared.cmp.Ordering.{Ordering}
use Rattle.zt_keys.specs.Test.{by_test}
use Rattle.zt_protocol.specs.Interest.{has_tokens, is_current}
use Rattle.zt_region.specs.declared.region.Region.{Region}
use Rattle.zt_region.specs.Region.{is_north, region_eq, region_eq-same}
use Rattle.zt_model.specs.Parts.{is_routed}
use Rattle.zt_model.specs.Rows.{ById, Face, InterestRow, Rows}
use Rattle.zt_model.specs.Seen.{concerns, is_owed, is_seen, is_seen_and_admitted, may_hear}
use Rattle.zt_model.specs.Visible.{keeps}
use Rattle.zt_check_keeping.specs.Keeping.{breaks, is_shown, is_shown_beside, keeps_rightly}
use Rattle.zt_check_keeping.specs.Owing.{AreAsking, IsOnlyKey, asks_for_tokens, is_asked, is_concerned, is_shown_and_admitted, keeps_concerned, keeps_declared, keeps_near, keeps_of_faces, key_under, lacks}
use Rattle.zt_check_keeping.specs.declared.keeping.Bound.{Bound}
use Rattle.zt_check_keeping.specs.declared.keeping.Bound.TheVariants.{Upper, Lower}
use Rattle.zt_check_keeping.proofs.Asked.{owes}

-- all pass, where none fails
none_fails : {A : Type 0} (passes fails : A → Bool) → ((x : A) → fails x ≡ not (passes x)) → (xs : List A) → not (list_any fails xs) ≡ list_all passes xs
none_fails passes fails is [] = refl
none_fails passes fails is (x ∷ xs) = both (passes x) (fails x) (list_any fails xs) (list_all passes xs) (is x) (none_fails passes fails is xs)
  where
    both : (p f fs ps : Bool) → f ≡ not p → not fs ≡ ps → not (f || fs) ≡ (p && ps)
    both true f fs ps here rest = rw here rest
    both false f fs ps here rest = rw here refl

any_weaker : {A : Type 0} (p q : A → Bool) → ((x : A) → p x ≡ true → q x ≡ true) → (xs : List A) → list_any p xs ≡ true → list_any q xs ≡ true
any_weaker p q weaker [] h = absurd (true≢false (sym h))
any_weaker p q weaker (x ∷ xs) h =
    by_test (p x)
    (λ here. or_left (q x) (list_any q xs) (weaker x here))
    (λ later. or_right (q x) (list_any q xs) (any_weaker p q weaker xs (rw later at h)))

module _ {K : Type 0} (cmp : K → K → Ordering) (matching : K → K → Bool) where
  -- ---- faces

  shown_beside : (bound : Bound) (other : Region) (shown : Bool) (g : Rows K) (own : Region) (e : K) → shown ≡ is_shown cmp matching bound g other e
      → is_shown_beside cmp matching bound other shown g own e ≡ is_shown cmp matching bound g own e
  shown_beside bound other shown g own e is =
      by_test (region_eq other own)
      (λ here. rw here (is ∙ ap (λ r. is_shown cmp matching bound g r e) (region_eq-same other own here)))
      (λ apart. rw apart refl)

  upper_table : (routed hears seen kept : Bool) → (kept && (not routed && (not seen || not hears))) ≡ not (routed || ((hears && seen) || not kept))
  upper_table true hears seen true = refl
  upper_table true hears seen false = refl
  upper_table false true true true = refl
  upper_table false true true false = refl
  upper_table false true false true = refl
  upper_table false true false false = refl
  upper_table false false true true = refl
  upper_table false false true false = refl
  upper_table false false false true = refl
  upper_table false false false false = refl

  lower_table : (routed owed seen kept : Bool) → (owed && (not routed && (seen && not kept))) ≡ not (routed || ((not owed || not seen) || kept))
  lower_table true true seen kept = refl
  lower_table true false seen kept = refl
  lower_table false true true true = refl
  lower_table false true true false = refl
  lower_table false true false kept = refl
  lower_table false false seen kept = refl

  told_now : (other : Region) (shown : Bool) (g : Rows K) (e : K) → shown ≡ is_shown cmp matching Upper g other e
      → not (list_any (λ f. keeps cmp f e && breaks cmp matching Upper other shown g e f) g.faces) ≡ list_all (λ f. keeps_rightly cmp matching Upper g f e) g.faces
  told_now other shown g e is =
      none_fails (λ (f : Face K). keeps_rightly cmp matching Upper g f e) (λ (f : Face K). keeps cmp f e && breaks cmp matching Upper other shown g e f)
      (λ f. ap (λ b. keeps cmp f e && (not (is_routed g f) && (not b || not (may_hear matching f e)))) (shown_beside Upper other shown g f.region e is)
      ∙ upper_table (is_routed g f) (may_hear matching f e) (is_seen cmp g f.region e) (keeps cmp f e)) g.faces

  owed_now : (other : Region) (shown : Bool) (g : Rows K) (e : K) → shown ≡ is_shown cmp matching Lower g other e
      → not (list_any (λ f. is_owed matching f e && breaks cmp matching Lower other shown g e f) g.faces) ≡ list_all (λ f. keeps_rightly cmp matching Lower g f e) g.faces
  owed_now other shown g e is =
      none_fails (λ (f : Face K). keeps_rightly cmp matching Lower g f e) (λ (f : Face K). is_owed matching f e && breaks cmp matching Lower other shown g e f)
      (λ f. ap (λ b. is_owed matching f e && (not (is_routed g f) && (b && not (keeps cmp f e)))) (shown_beside Lower other shown g f.region e is)
      ∙ lower_table (is_routed g f) (is_owed matching f e) (is_seen_and_admitted cmp g f.region e) (keeps cmp f e)) g.faces

  -- the same for a test of these
  pub told_tried : (bound kept : Bound) (other : Region) (shown : Bool) (g h : Rows K) (e d : K) → bound ≡ Upper → kept ≡ bound → h ≡ g → d ≡ e → shown ≡ is_shown cmp matching bound g other e
      → (any : Bool) → any ≡ list_any (λ f. keeps cmp f e && breaks cmp matching kept other shown h d f) g.faces → not any ≡ list_all (λ f. keeps_rightly cmp matching bound g f e) g.faces
  told_tried bound kept other shown g h e d at by rows expr is any found =
      ap not (found
      ∙ (ap (λ k. list_any (λ f. keeps cmp f e && breaks cmp matching k other shown h d f) g.faces) (by ∙ at)
      ∙ (ap (λ k. list_any (λ f. keeps cmp f e && breaks cmp matching Upper other shown k d f) g.faces) rows
      ∙ ap (λ k. list_any (λ f. keeps cmp f e && breaks cmp matching Upper other shown g k f) g.faces) expr)))
      ∙ (told_now other shown g e (is ∙ ap (λ k. is_shown cmp matching k g other e) at) ∙ ap (λ k. list_all (λ f. keeps_rightly cmp matching k g f e) g.faces) (sym at))

  pub owed_tried : (bound kept : Bound) (other : Region) (shown : Bool) (g h : Rows K) (e d : K) → bound ≡ Lower → kept ≡ bound → h ≡ g → d ≡ e → shown ≡ is_shown cmp matching bound g other e
      → (any : Bool) → any ≡ list_any (λ f. is_owed matching f e && breaks cmp matching kept other shown h d f) g.faces → not any ≡ list_all (λ f. keeps_rightly cmp matching bound g f e) g.faces
  owed_tried bound kept other shown g h e d at by rows expr is any found =
      ap not (found
      ∙ (ap (λ k. list_any (λ f. is_owed matching f e && breaks cmp matching k other shown h d f) g.faces) (by ∙ at)
      ∙ (ap (λ k. list_any (λ f. is_owed matching f e && breaks cmp matching Lower other shown k d f) g.faces) rows
      ∙ ap (λ k. list_any (λ f. is_owed matching f e && breaks cmp matching Lower other shown g k f) g.faces) expr)))
      ∙ (owed_now other shown g e (is ∙ ap (λ k. is_shown cmp matching k g other e) at) ∙ ap (λ k. list_all (λ f. keeps_rightly cmp matching k g f e) g.faces) (sym at))

  -- ---- tokens near a key

  -- the one interest of an id has the key
  pub only_is : (row : ℕ × InterestRow K) (id : ℕ) (found : Option K) → found ≡ key_under row id → IsOnlyKey cmp matching (row ∷ []) (Some id) found
  only_is row id None is = tt
  only_is row id (Some k) is = λ e. go ((row.0 == id) && asks_for_tokens row.1) refl e
    where
      table : (same current tokens about : Bool) → (same && (current && tokens)) ≡ true → ((same && ((tokens && about) && current)) || false) ≡ about
      table true true true true h = refl
      table true true true false h = refl
      table true true false about h = absurd (true≢false (sym h))
      table true false tokens about h = absurd (true≢false (sym h))
      table false current tokens about h = absurd (true≢false (sym h))

      about_is : (found : Option K) (e : K) → Some k ≡ found → (elim found as (λ _. Bool) [ None ↦ true | Some x ↦ matching x e ]) ≡ matching k e
      about_is None e h = cc
      about_is (Some x) e h = let same : k ≡ x = cc in ap (λ y. matching y e) (sym same)

      go : (b : Bool) → ((row.0 == id) && asks_for_tokens row.1) ≡ b → (e : K) → is_concerned cmp matching (row ∷ []) id e ≡ matching k e
      go true asks e =
          table (row.0 == id) (is_current row.1.mode) (has_tokens row.1.options) (elim row.1.expr as (λ _. Bool) [ None ↦ true | Some x ↦ matching x e ]) asks
          ∙ about_is row.1.expr e (is ∙ ap (λ b. if b then row.1.expr else None) asks)
      go false asks e = let none : Some k ≡ None = is ∙ ap (λ b. if b then row.1.expr else None) asks in cc

  -- what an interest concerns that asked for what was there is owed
  concerned_owed : (f : Face K) (id : ℕ) (e : K) → is_concerned cmp matching f.held id e ≡ true → is_owed matching f e ≡ true
  concerned_owed f id e h =
      sym (owes matching f e) ∙ or_right (is_north f.region) (list_any (λ row. concerns matching row.1 e && is_current row.1.mode) f.held)
      (any_weaker (λ (row : ℕ × InterestRow K). (row.0 == id) && (concerns matching row.1 e && is_current row.1.mode)) (λ (row : ℕ × InterestRow K). concerns matching row.1 e && is_current row.1.mode)
      (λ row passes. (and_parts (row.0 == id) (concerns matching row.1 e && is_current row.1.mode) passes).1) f.held h)

  module _ (g : Rows K) (f : Face K) (id : ℕ) (k : K) (asked : (e : K) → is_asked cmp matching f (Some id) e ≡ matching k e) where
    token_table : (asked owed kept : Bool) → (asked ≡ true → owed ≡ true) → (asked && not kept) ≡ not ((not asked || not owed) || kept)
    token_table true true true h = refl
    token_table true true false h = refl
    token_table true false kept h = absurd (true≢false (sym (h refl)))
    token_table false owed kept h = refl

    token_is : (e : K) → (matching k e && not (keeps cmp f e)) ≡ not (keeps_concerned cmp matching f (Some id) e)
    token_is e =
        ap (λ b. b && not (keeps cmp f e)) (sym (asked e))
        ∙ token_table (is_asked cmp matching f (Some id) e) (is_owed matching f e) (keeps cmp f e) (λ h. concerned_owed f id e h)

    none_hidden : (rows : ById K) → list_any (λ row. matching k row.1 && (false && not (keeps cmp f row.1))) rows ≡ false
    none_hidden [] = refl
    none_hidden (row ∷ rows) = both (matching k row.1) (none_hidden rows)
      where
        both : (b : Bool) → list_any (λ r. matching k r.1 && (false && not (keeps cmp f r.1))) rows ≡ false → ((b && false) || list_any (λ r. matching k r.1 && (false && not (keeps cmp f r.1))) rows) ≡ false
        both true h = h
        both false h = h

    not_twice : (a b : Bool) → not a ≡ b → a ≡ not b
    not_twice true b h = rw (sym h) refl
    not_twice false b h = rw (sym h) refl

    source_by : (shown : Bool) (rows : ById K) → list_any (λ row. matching k row.1 && (shown && not (keeps cmp f row.1))) rows ≡ not (not shown || keeps_declared cmp matching f (Some id) rows)
    source_by true rows =
        not_twice (list_any (λ row. matching k row.1 && not (keeps cmp f row.1)) rows) (keeps_declared cmp matching f (Some id) rows)
        (none_fails (λ (row : ℕ × K). keeps_concerned cmp matching f (Some id) row.1) (λ (row : ℕ × K). matching k row.1 && not (keeps cmp f row.1)) (λ row. token_is row.1) rows)
    source_by false rows = none_hidden rows

    near_of : keeps_near cmp matching g f k ≡ keeps_of_faces cmp matching g.refused f (Some id) g.faces
    near_of =
        none_fails (λ (source : Face K). not (is_shown_and_admitted g.refused f.region source.region) || keeps_declared cmp matching f (Some id) source.live)
        (λ (source : Face K). list_any (λ row. matching k row.1 && lacks cmp matching g.refused f source row.1) source.live)
        (λ source. source_by (is_shown_and_admitted g.refused f.region source.region) source.live) g.faces

  pub near_tried : (g : Rows K) (f : Face K) (asking : ById (InterestRow K)) (id : Option ℕ) (k : K) → AreAsking cmp matching f id asking → IsOnlyKey cmp matching asking id (Some k)
      → keeps_near cmp matching g f k ≡ keeps_of_faces cmp matching g.refused f id g.faces
  near_tried g f asking None k are only = absurd only
  near_tried g f asking (Some id) k are only = near_of g f id k (λ e. sym (are e) ∙ only e)
