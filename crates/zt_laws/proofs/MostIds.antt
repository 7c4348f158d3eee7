-- What a call could draw for a face is at most what its line could, as the transcript alone shows it.
use Rattle.std.proofs.Common.{◌≡◌, ℕ, suc, ◌+◌, ◌-◌, ◌≤◌, ◌<◌, Bool, true, false, ◌&&◌, ◌==◌, not, if◌then◌else◌, nat_lt, List, [], ◌∷◌, ◌++◌, map, filter, flat_map, length, sum_by, Option, Some, None, refl, sym, ap, ◌∙◌, subst, arith, lt-ltb, ltb-true}
use Rattle.std.proofs.lemmas.Bool.{and_parts, or_left, or_right}
use Rattle.std.proofs.lemmas.List.Sums.{sum_by-cons}
use Rattle.std.specs.List.{list_any}
use Rattle.std.specs.FinMap.Entries.{by_order, put}
use Rattle.std.specs.Ordering.{is_eq, nat_cmp}
use Rattle.std.specs.declared.cmp.Ordering.{Ordering}
use Rattle.std.specs.declared.cmp.Ordering.TheVariants.{Less, Equal, Greater}
use Rattle.zt_region.specs.declared.region.Region.{Region}
use Rattle.zt_region.specs.declared.region.Zid.{Zid}
use Rattle.zt_protocol.specs.Interest.{is_current}
use Rattle.zt_protocol.specs.Plain.{PlainCall, NewSession, NewTransport, DeclareToken, UndeclareToken, Interest, InterestFinal, DeclareFinal, CloseFace, Expire, SetTrees, SetEntities}
use Rattle.zt_model.specs.Entities.{numbered_by, with_numbers}
use Rattle.zt_model.specs.Hearing.{put_if}
use Rattle.zt_model.specs.Refusals.{asks_upstream, could, could_spend_ids, left_ids, would_send}
use Rattle.zt_model.specs.Routing.{asked_as}
use Rattle.zt_model.specs.Rows.{ById, Face, InterestRow, Rows}
use Rattle.zt_model.specs.Says.{find_face, is_routed, registered, registers, with_face}
use Rattle.zt_model.specs.Shown.{interest_kept, rows_shown, with_declared, with_interest, with_new_transport, with_source}
use Rattle.zt_model.specs.Transcript.{most_ids}
use Rattle.zt_model.specs.Trees.{source_of, with_routed}
use Rattle.zt_model.specs.Visible.{keeps, rows_of_face, visible_expressions}
use Rattle.zt_laws.proofs.Lists.{by_test, never, of_cond}
use Rattle.zt_laws.proofs.ShownRows.{opened_is_made}
use Rattle.zt_laws.proofs.Visible.{visible_expressions_alike}

length_filter : {A : Type 0} (p : A → Bool) (xs : List A) → length (filter p xs) ≤ length xs
length_filter p [] = omega arith
length_filter p (x ∷ xs) = let rest = length_filter p xs in by_test (p x) (λ here. rw here (omega arith)) (λ here. rw here (omega arith))

sum_less : {A : Type 0} (f g : A → ℕ) (xs : List A) → ((x : A) → f x ≤ g x) → sum_by f xs ≤ sum_by g xs
sum_less f g [] less = omega arith
sum_less f g (x ∷ xs) less =
    let one = sum_by-cons f x xs in
    let two = sum_by-cons g x xs in
    let first : f x ≤ g x = less x in
    let rest : sum_by f xs ≤ sum_by g xs = sum_less f g xs less in
    omega arith

sum_alike : {A : Type 0} (f : A → ℕ) (one two : A → A) (xs : List A) → ((x : A) → f (one x) ≡ f (two x)) → sum_by f (map one xs) ≡ sum_by f (map two xs)
sum_alike f one two [] alike = refl
sum_alike f one two (x ∷ xs) alike =
    sum_by-cons f (one x) (map one xs) ∙ ap (λ k. k + sum_by f (map one xs)) (alike x) ∙ ap (λ k. f (two x) + k) (sum_alike f one two xs alike) ∙ sym (sum_by-cons f (two x) (map two xs))

put_length : {A : Type 0} (id : ℕ) (v w : A) (rows : ById A) → length (put nat_cmp id v rows) ≡ length (put nat_cmp id w rows)
put_length id v w [] = refl
put_length id v w (row ∷ rows) =
    elim (nat_cmp id row.0) as (λ o. length (by_order o ((id, v) ∷ row ∷ rows) ((row.0, v) ∷ rows) (row ∷ put nat_cmp id v rows)) ≡ length (by_order o ((id, w) ∷ row ∷ rows) ((row.0, w) ∷ rows) (row ∷ put nat_cmp id w rows))) [
      | Less ↦ refl
      | Equal ↦ refl
      | Greater ↦ ap (λ k. suc k) (put_length id v w rows)
    ]

put_if_length : {A : Type 0} (b : Bool) (id : ℕ) (v w : A) (rows : ById A) → length (put_if b id v rows) ≡ length (put_if b id w rows)
put_if_length true id v w rows = put_length id v w rows
put_if_length false id v w rows = refl

module _ {K : Type 0} (cmp : K → K → Ordering) (matching : K → K → Bool) where
  -- what a face could be told and asked, by the asks that were sent upstream
  abbrev upstream_ids : Rows K → Face K → ℕ
  upstream_ids after f =
      length (filter (λ e. not (keeps cmp f e)) (visible_expressions cmp after f.region))
      + (sum_by (λ x. length x.held) after.faces + sum_by (asks_upstream cmp matching) after.faces)

  upstream_less : (g : Rows K) (f : Face K) → upstream_ids g f ≤ most_ids cmp matching g f
  upstream_less g f =
      let less = sum_less (asks_upstream cmp matching) (λ x. length x.asks) g.faces (λ x. length_filter (λ row. nat_lt 0 (length row.1.pendings)) x.asks) in
      omega arith

  -- a change that leaves what a face was told, its region and its next id
  record LeavesIds (change : Face K → Face K) : Type 0 where
    region : (f : Face K) → (change f).region ≡ f.region
    told : (f : Face K) → (change f).told ≡ f.told
    next : (f : Face K) → (change f).next ≡ f.next

  most_alike : (g : Rows K) (f h : Face K) → h.region ≡ f.region → h.told ≡ f.told → most_ids cmp matching g h ≡ most_ids cmp matching g f
  most_alike g f h region_ told_ =
      ap (λ (told : ById K). length (filter (λ e. not (list_any (λ row. is_eq (cmp e row.1)) told)) (visible_expressions cmp g h.region)) + (sum_by (λ x. length x.held) g.faces + sum_by (λ x. length x.asks) g.faces)) told_
      ∙ ap (λ (r : Region). length (filter (λ e. not (keeps cmp f e)) (visible_expressions cmp g r)) + (sum_by (λ x. length x.held) g.faces + sum_by (λ x. length x.asks) g.faces)) region_

  abbrev LacksMore : Rows K → (Face K → ℕ) → List (Face K) → Type 0
  LacksMore g draws fs = list_any (λ f. not (is_routed g f) && nat_lt (left_ids f) (draws f)) fs ≡ true

  -- where a face lacks ids of a number, it lacks them of a greater one
  lacks_after : (g : Rows K) (draws most : Face K → ℕ) (change : Face K → Face K) → ((f : Face K) → draws f ≤ most (change f)) → ((f : Face K) → (change f).next ≡ f.next)
      → (fs : List (Face K)) → LacksMore g draws fs → list_any (λ f. nat_lt (left_ids f) (most f)) (map change fs) ≡ true
  lacks_after g draws most change less next_ [] lacks = lacks
  lacks_after g draws most change less next_ (f ∷ fs) lacks =
      by_test (not (is_routed g f) && nat_lt (left_ids f) (draws f))
      (λ here.
      let short : left_ids f < draws f = ltb-true (left_ids f) (draws f) (and_parts (not (is_routed g f)) (nat_lt (left_ids f) (draws f)) here).1 in
      let up : draws f ≤ most (change f) = less f in
      let left_ : left_ids (change f) ≡ left_ids f = ap (λ k. 4294967295 - k) (next_ f) in
      or_left (nat_lt (left_ids (change f)) (most (change f))) _ (lt-ltb (left_ids (change f)) (most (change f)) (omega arith)))
      (λ here. or_right (nat_lt (left_ids (change f)) (most (change f))) _ (lacks_after g draws most change less next_ fs (rw here at lacks)))

  -- a change of one face
  abbrev Changed : ℕ → (Face K → Face K) → Face K → Face K
  Changed n change f = if n == f.number then change f else f

  changed_leaves : (n : ℕ) (change : Face K → Face K) → LeavesIds change → LeavesIds (Changed n change)
  changed_leaves n change leaves = record {
    region = λ f. of_cond (λ (h : Face K). h.region ≡ f.region) (n == f.number) (change f) f (λ _. leaves.region f) (λ _. refl);
    told = λ f. of_cond (λ (h : Face K). h.told ≡ f.told) (n == f.number) (change f) f (λ _. leaves.told f) (λ _. refl);
    next = λ f. of_cond (λ (h : Face K). h.next ≡ f.next) (n == f.number) (change f) f (λ _. leaves.next f) (λ _. refl);
  }

  itself : LeavesIds (λ f. f)
  itself = record { region = λ f. refl; told = λ f. refl; next = λ f. refl }

  -- asks with other pendings are as many
  asked_more : (n id : ℕ) (ps qs : List (ℕ × ℕ)) (interest : InterestRow K) (h : Rows K) (f : Face K) → upstream_ids (with_face n (asked_as qs id interest) h) f ≤ most_ids cmp matching (with_face n (asked_as ps id interest) h) f
  unfolding with_face
  asked_more n id ps qs interest h f =
      let one = Changed n (asked_as qs id interest) in
      let two = Changed n (asked_as ps id interest) in
      let gs = map one h.faces in
      let seen : visible_expressions cmp (record h { faces = map two h.faces }) f.region ≡ visible_expressions cmp (record h { faces = gs }) f.region =
      visible_expressions_alike cmp (record h { faces = gs }) (map two h.faces) f.region (rows_alike h.faces) in
      let held_ : sum_by (λ x. length x.held) gs ≡ sum_by (λ x. length x.held) (map two h.faces) = sum_alike (λ x. length x.held) one two h.faces (λ x. held_alike (n == x.number) x) in
      let asks_ : sum_by (λ x. length x.asks) gs ≡ sum_by (λ x. length x.asks) (map two h.faces) = sum_alike (λ x. length x.asks) one two h.faces (λ x. asks_alike (n == x.number) x) in
      let less = upstream_less (record h { faces = gs }) f in
      subst (λ es. upstream_ids (record h { faces = gs }) f ≤ length (filter (λ e. not (keeps cmp f e)) es) + (sum_by (λ x. length x.held) (map two h.faces) + sum_by (λ x. length x.asks) (map two h.faces))) (sym seen) (omega arith)
    where
      held_alike : (b : Bool) (x : Face K) → length (if b then asked_as qs id interest x else x).held ≡ length (if b then asked_as ps id interest x else x).held
      held_alike true x = refl
      held_alike false x = refl

      asks_alike : (b : Bool) (x : Face K) → length (if b then asked_as qs id interest x else x).asks ≡ length (if b then asked_as ps id interest x else x).asks
      asks_alike true x = put_if_length (is_current interest.mode) id (record { interest = interest; pendings = qs; answered = [] }) (record { interest = interest; pendings = ps; answered = [] }) x.asks
      asks_alike false x = refl

      face_alike : (b : Bool) (x : Face K) → rows_of_face (if b then asked_as ps id interest x else x) ≡ rows_of_face (if b then asked_as qs id interest x else x)
      face_alike true x = refl
      face_alike false x = refl

      rows_alike : (fs : List (Face K)) → flat_map rows_of_face (map (Changed n (asked_as ps id interest)) fs) ≡ flat_map rows_of_face (map (Changed n (asked_as qs id interest)) fs)
      rows_alike [] = refl
      rows_alike (x ∷ fs) =
          ap (λ rs. rs ++ flat_map rows_of_face (map (Changed n (asked_as ps id interest)) fs)) (face_alike (n == x.number) x)
          ∙ ap (λ rs. rows_of_face (if n == x.number then asked_as qs id interest x else x) ++ rs) (rows_alike fs)

  abbrev LacksIn : Rows K → Type 0
  LacksIn B = list_any (λ f. nat_lt (left_ids f) (most_ids cmp matching B f)) B.faces ≡ true

  -- the faces are those that were there, or are changed so
  changes : (g B : Rows K) (change : Face K → Face K) (fs : List (Face K)) → LeavesIds change → B.faces ≡ map change fs → LacksMore g (upstream_ids B) fs → LacksIn B
  changes g B change fs leaves is lacks =
      subst (λ hs. list_any (λ f. nat_lt (left_ids f) (most_ids cmp matching B f)) hs ≡ true) (sym is)
      (lacks_after g (upstream_ids B) (most_ids cmp matching B) change (λ f. subst (λ k. upstream_ids B f ≤ k) (sym (most_alike B f (change f) (leaves.region f) (leaves.told f))) (upstream_less B f)) leaves.next fs lacks)

  stays : (fs : List (Face K)) → fs ≡ map (λ f. f) fs
  stays [] = refl
  stays (f ∷ fs) = ap (λ (hs : List (Face K)). f ∷ hs) (stays fs)

  still_lacks : (g B : Rows K) → LacksMore g (upstream_ids B) B.faces → LacksIn B
  still_lacks g B lacks = changes g B (λ h. h) B.faces itself (stays B.faces) lacks

  -- A call that could draw more ids than are left is one of a line that could, whatever is printed for it.
  pub call_may_lack : (ps : List (ℕ × ℕ)) (c : PlainCall K) (g : Rows K) → could_spend_ids cmp matching c g ≡ true → LacksIn (rows_shown cmp ps c g)
  unfolding could_spend_ids could rows_shown with_face source_of
  call_may_lack ps (DeclareToken n id e node interest) g spends = cases (find_face n g) spends
    where
      by_source : (f : Face K) (o : Option Zid) → LacksMore g (upstream_ids (with_source cmp f o e g)) g.faces → LacksIn (with_source cmp f o e g)
      by_source f None lacks = still_lacks g g lacks
      by_source f (Some source) lacks = changes g (with_routed cmp f.region source e g) (λ h. h) g.faces itself (unfold with_routed in stays g.faces) lacks

      cases : (o : Option (Face K)) → LacksMore g (upstream_ids (elim o [ None ↦ g | Some f ↦ with_declared cmp n id e node interest g f ])) g.faces → LacksIn (elim o [ None ↦ g | Some f ↦ with_declared cmp n id e node interest g f ])
      cases None lacks = still_lacks g g lacks
      cases (Some f) lacks =
          of_cond (λ B. LacksMore g (upstream_ids B) g.faces → LacksIn B) (is_routed g f) (with_source cmp f (source_of g f node) e g) (if registers f interest then with_face n (registered id e) g else g)
          (λ _. by_source f (source_of g f node))
          (λ _.
          of_cond (λ B. LacksMore g (upstream_ids B) g.faces → LacksIn B) (registers f interest) (with_face n (registered id e) g) g
          (λ _ short. changes g (with_face n (registered id e) g) (Changed n (registered id e)) g.faces (changed_leaves n (registered id e) (record { region = λ h. refl; told = λ h. refl; next = λ h. refl })) refl short)
          (λ _ short. still_lacks g g short)) lacks
  call_may_lack ps (Interest n id mode options e) g spends = cases (find_face n g) (would_send cmp matching (Interest n id mode options e) g) spends
    where
      cases : (o : Option (Face K)) (qs : List (ℕ × ℕ)) → LacksMore g (upstream_ids (elim o [ None ↦ g | Some f ↦ with_interest cmp n id qs (interest_kept f mode options e) g ])) g.faces
          → LacksIn (elim o [ None ↦ g | Some f ↦ with_interest cmp n id ps (interest_kept f mode options e) g ])
      cases None qs lacks = still_lacks g g lacks
      cases (Some f) qs lacks =
          let interest = interest_kept f mode options e in
          let h = with_numbers cmp (numbered_by cmp interest) g in
          let change = Changed n (asked_as ps id interest) in
          let leaves = changed_leaves n (asked_as ps id interest) (record { region = λ k. refl; told = λ k. refl; next = λ k. refl }) in
          let B = with_face n (asked_as ps id interest) h in
          lacks_after g (upstream_ids (with_face n (asked_as qs id interest) h)) (most_ids cmp matching B) change
          (λ k. subst (λ m. upstream_ids (with_face n (asked_as qs id interest) h) k ≤ m) (sym (most_alike B k (change k) (leaves.region k) (leaves.told k))) (asked_more n id ps qs interest h k))
          leaves.next g.faces lacks
  call_may_lack ps (NewTransport zid whatami region bound first) g spends =
      let made : Rows K = with_new_transport zid whatami region bound first g in
      still_lacks g made (subst (λ (B : Rows K). LacksMore g (upstream_ids made) B.faces) (opened_is_made zid whatami region bound first g) spends)
  call_may_lack ps (NewSession first) g spends = never spends refl
  call_may_lack ps (CloseFace n) g spends = never spends refl
  call_may_lack ps (UndeclareToken n id given node) g spends = never spends refl
  call_may_lack ps (InterestFinal n id) g spends = never spends refl
  call_may_lack ps (DeclareFinal n id) g spends = never spends refl
  call_may_lack ps (Expire now) g spends = never spends refl
  call_may_lack ps (SetTrees region t) g spends = never spends refl
  call_may_lack ps (SetEntities n subscribers queryables) g spends = never spends refl
