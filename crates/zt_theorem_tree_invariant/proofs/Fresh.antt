-- A link that opens: its two new faces agree once the lower one has heard what is said to it.
use Rattle.std.proofs.Common.{◌≡◌, ℕ, ◌+◌, ◌≤◌, ◌<◌, Bool, true, false, if◌then◌else◌, ◌==◌, List, [], ◌∷◌, ◌++◌, map, Option, Some, None, refl, sym, ap, ◌∙◌, subst, arith, eq-eqb, ne_eqb}
use Rattle.std.specs.Cmp.{IsTotalOrder}
use Rattle.std.specs.FinMap.Entries.{by_order}
use Rattle.std.specs.List.{flat_map}
use Rattle.std.specs.declared.cmp.Ordering.{Ordering}
use Rattle.std.specs.declared.cmp.Ordering.TheVariants.{Less, Equal, Greater}
use Rattle.zt_region.specs.declared.region.Bound.{Bound}
use Rattle.zt_region.specs.declared.region.Region.TheVariants.{North}
use Rattle.zt_region.specs.declared.region.WhatAmI.{WhatAmI}
use Rattle.zt_region.specs.declared.region.WhatAmI.TheVariants.{Client}
use Rattle.zt_region.specs.declared.region.Zid.{Zid}
use Rattle.zt_region.specs.Region.{is_north}
use Rattle.zt_protocol.specs.Plain.{PlainCall, NewTransport}
use Rattle.zt_protocol.specs.declared.interests.InterestMode.TheVariants.{CurrentFuture}
use Rattle.zt_protocol.specs.declared.messages.Message.{Message}
use Rattle.zt_protocol.specs.declared.messages.Message.TheVariants as message
use Rattle.zt_model.specs.Hearing.{heard, heard_all, messages_for, rows_heard}
use Rattle.zt_model.specs.Lists.{first_where, in_key_order, with_key}
use Rattle.zt_model.specs.Parts.{Sends, altered_by, find_face, said_by, to_face}
use Rattle.zt_model.specs.Routing.{face_opened, held_south, interest_order, initial_of, interests_from, leads_up, opened, opening_final, opening_interests, opening_tokens, tokens_from}
use Rattle.zt_model.specs.Rows.{Face, InterestRow, Rows}
use Rattle.zt_model.specs.Says.{altered, parts_of, said}
use Rattle.zt_model.specs.Transcript.{Each}
use Rattle.zt_model.specs.Wants.{kept_options}
use Rattle.zt_laws.specs.Kept.{told_of}
use Rattle.zt_laws.specs.Order.{RowsAreInOrder}
use Rattle.zt_laws.specs.Sound.{IsToldInOrder, rows_after_call}
use Rattle.zt_laws.proofs.Hearing.{find_each, heard_all_leaves, messages_for-append, messages_for_own}
use Rattle.zt_laws.proofs.Lists.{each_append, each_map, each_weaker, never, of_cond, rise_above}
use Rattle.zt_laws.proofs.NextIds.{DrawNext, call_draws}
use Rattle.zt_laws.proofs.PartsOrder.{each_of_map}
use Rattle.zt_theorem_tree_invariant.specs.Facts.{IsTreeFace, IsTreeGateway, JointAgrees}
use Rattle.zt_theorem_tree_invariant.proofs.Rules.{IsPlainlyWell, plainly}
use Rattle.zt_theorem_tree_invariant.proofs.Saying.{IsReal, TreeRows, find_heard_at, lower_hears_all}

module _ {K : Type 0} (cmp : K → K → Ordering) where
  -- two faces of which nothing is known yet
  pub fresh_agrees : (lower upper : Face K) → lower.live ≡ [] → lower.told ≡ [] → lower.locals ≡ [] → lower.pendings ≡ [] → upper.live ≡ [] → upper.told ≡ [] → upper.held ≡ [] → upper.asks ≡ [] → JointAgrees cmp lower upper [] []
  fresh_agrees lower upper live told locals pendings up_live up_told up_held up_asks = record {
    tokens_above = up_live ∙ sym told;
    tokens_below = live ∙ sym up_told;
    interests_above = rw (up_held, locals) refl;
    clear_above = tt;
    clear_below = tt;
    ids_rise = rw (up_held, up_asks) (omega arith);
    locals_below = rw locals tt;
    pendings_below = rw pendings tt;
    told_below_above = rw up_told tt;
    told_below = rw told tt;
    live_real = rw live tt;
    for_above = tt;
    for_below = tt;
    modes = rw pendings tt;
  }

pub each_in_order : {A : Type 0} (cmp : A → A → Ordering) (P : A → Type 0) (xs : List A) → Each P xs → Each P (in_key_order cmp xs)
each_in_order cmp P [] all = tt
each_in_order {A} cmp P (x ∷ xs) all = put x (in_key_order cmp xs) all.0 (each_in_order cmp P xs all.1)
  where
    put : (e : A) (ks : List A) → P e → Each P ks → Each P (with_key cmp e ks)
    put e [] h all = (h, tt)
    put e (k ∷ ks) h all =
        elim (cmp e k) as (λ o. Each P (by_order o (e ∷ k ∷ ks) (k ∷ ks) (k ∷ with_key cmp e ks))) [
          | Less ↦ (h, all)
          | Equal ↦ all
          | Greater ↦ (all.0, put e ks h all.1)
        ]

pub find_last : {K : Type 0} (n : ℕ) (fs : List (Face K)) (f : Face K) → Each (λ h. h.number < n) fs → f.number ≡ n → first_where (λ h. n == h.number) (fs ++ f ∷ []) ≡ Some f
find_last n [] f below is = rw (eq-eqb n f.number (sym is)) refl
find_last n (h ∷ fs) f below is = let less : h.number < n = below.0 in let miss : (n == h.number) ≡ false = ne_eqb n h.number (λ e. omega arith) in rw miss (find_last n fs f below.1 is)

module _ {K : Type 0} (cmp : K → K → Ordering) (matching : K → K → Bool) (total : IsTotalOrder cmp) where
  abbrev HoldsKept : Face K → Type 0
  HoldsKept f = is_north f.region ≡ false → Each (λ row. kept_options Client row.1.options ≡ row.1.options) f.held

  -- what faces that lead down hold has the options that clients' faces keep
  held_kept : (g : Rows K) → Each HoldsKept g.faces → Each (λ (i : InterestRow K). kept_options Client i.options ≡ i.options) (held_south cmp matching g)
  unfolding held_south
  held_kept g faces = each_in_order (interest_order cmp matching) (λ (i : InterestRow K). kept_options Client i.options ≡ i.options) (flat_map (λ f. if is_north f.region then [] else map (λ row. record row.1 { mode = CurrentFuture }) f.held) g.faces) (go g.faces faces)
    where
      go : (fs : List (Face K)) → Each HoldsKept fs → Each (λ (i : InterestRow K). kept_options Client i.options ≡ i.options) (flat_map (λ (f : Face K). if is_north f.region then [] else map (λ row. record row.1 { mode = CurrentFuture }) f.held) fs)
      go [] all = tt
      go (f ∷ fs) all =
          each_append (λ (i : InterestRow K). kept_options Client i.options ≡ i.options) (if is_north f.region then [] else map (λ row. record row.1 { mode = CurrentFuture }) f.held) (flat_map (λ (f : Face K). if is_north f.region then [] else map (λ row. record row.1 { mode = CurrentFuture }) f.held) fs)
          (of_cond (Each (λ (i : InterestRow K). kept_options Client i.options ≡ i.options)) (is_north f.region) [] (map (λ row. record row.1 { mode = CurrentFuture }) f.held) (λ _. tt)
          (λ down. each_map (λ (i : InterestRow K). kept_options Client i.options ≡ i.options) (λ (row : ℕ × InterestRow K). record row.1 { mode = CurrentFuture }) f.held (all.0 down)))
          (go fs all.1)

  interests_plain : (next : ℕ) (is : List (InterestRow K)) → Each (λ (i : InterestRow K). kept_options Client i.options ≡ i.options) is → Each (IsPlainlyWell cmp true) (interests_from next is)
  unfolding interests_from
  interests_plain next [] all = tt
  interests_plain next (i ∷ is) all = ((refl, all.0), interests_plain (next + 1) is all.1)

  tokens_plain : (next : ℕ) (es : List K) → Each (IsPlainlyWell cmp true) (tokens_from next es)
  unfolding tokens_from
  tokens_plain next [] = tt
  tokens_plain next (e ∷ es) = (tt, tokens_plain (next + 1) es)

  sent_own : (n : ℕ) (rule : Face K → List (Message K)) (g : Rows K) (f : Face K) → find_face n g ≡ Some f → messages_for n (to_face n rule g) ≡ rule f
  unfolding to_face
  sent_own n rule g f found = by_found (find_face n g) found
    where
      by_found : (o : Option (Face K)) → o ≡ Some f → messages_for n (let ss : Sends K = elim o [ None ↦ [] | Some h ↦ map (λ m. (n, m)) (rule h) ] in ss) ≡ rule f
      by_found None is = cc
      by_found (Some h) is = messages_for_own n (rule h) ∙ (let same_ : h ≡ f = cc in ap rule same_)

  initial_still : (now : ℕ) (ms : List (Message K)) (f : Face K) → (heard_all cmp now ms f).initial ≡ f.initial
  initial_still now ms f = heard_all_leaves cmp (λ (h : Face K). h.initial) one now ms f
    where
      one : (now : ℕ) (m : Message K) (f : Face K) → (heard cmp now m f).initial ≡ f.initial
      one now (message.DeclareToken id e interest node) f = refl
      one now (message.UndeclareToken id e node) f = refl
      one now (message.DeclareFinal interest) f = refl
      one now (message.Interest id mode options e) f = refl
      one now (message.InterestFinal id) f = refl
      one now (message.DeclareSubscriber id e interest) f = refl
      one now (message.DeclareQueryable id e info interest) f = refl

  -- what a client's new face to the north is sent is said well
  opening_well : (zid : Zid) (whatami : WhatAmI) (bound : Bound) (first : ℕ) (g : Rows K) → TreeRows cmp g → Each (λ f. f.number ≤ g.made) g.faces → g.mode ≡ Client
      → (let c : PlainCall K = NewTransport zid whatami North bound first in
      let f : Face K = face_opened zid whatami North bound first g in
      (find_face (g.made + 1) (altered cmp matching c g) ≡ Some f) × Each (IsPlainlyWell cmp true) (messages_for (g.made + 1) (said cmp matching c g)))
  unfolding parts_of said_by altered_by messages_for
  opening_well zid whatami bound first g rows made client =
      let k = g.made + 1 in
      let f : Face K = face_opened zid whatami North bound first g in
      let one = opened zid whatami North bound first g in
      let found1 : find_face k one ≡ Some f = find_last k g.faces f (each_weaker (λ (h : Face K). h.number ≤ g.made) (λ h. h.number < g.made + 1) (λ h le. omega arith) g.faces made) refl in
      let interests = to_face k (λ f. interests_from f.next (opening_interests cmp matching one f)) one in
      let two = rows_heard cmp interests one in
      let f2 = heard_all cmp one.moment (messages_for k interests) f in
      let found2 : find_face k two ≡ Some f2 = find_heard_at cmp interests one k f found1 in
      let tokens = to_face k (λ f. tokens_from f.next (opening_tokens cmp matching two f)) two in
      let three = rows_heard cmp tokens two in
      let f3 = heard_all cmp two.moment (messages_for k tokens) f2 in
      let found3 : find_face k three ≡ Some f3 = find_heard_at cmp tokens two k f2 found2 in
      let finals = to_face k (opening_final cmp matching) three in
      let none_ : f3.initial ≡ None = initial_still two.moment (messages_for k tokens) f2 ∙ initial_still one.moment (messages_for k interests) f ∙ ap (λ m. initial_of m North bound) client in
      let is1 = sent_own k (λ f. interests_from f.next (opening_interests cmp matching one f)) one f found1 in
      let is2 = sent_own k (λ f. tokens_from f.next (opening_tokens cmp matching two f)) two f2 found2 in
      let is3 = sent_own k (opening_final cmp matching) three f3 found3 ∙ ap (λ (o : Option Bool). (let ms : List (Message K) = elim o [ None ↦ [] | Some x ↦ message.DeclareFinal 0 ∷ [] ] in ms)) none_ in
      let all : messages_for k (interests ++ (tokens ++ (finals ++ []))) ≡ interests_from f.next (opening_interests cmp matching one f) ++ (tokens_from f2.next (opening_tokens cmp matching two f2) ++ ([] ++ messages_for k [])) =
      messages_for-append k interests (tokens ++ (finals ++ []))
      ∙ ap (λ xs. xs ++ messages_for k (tokens ++ (finals ++ []))) is1
      ∙ ap (λ xs. interests_from f.next (opening_interests cmp matching one f) ++ xs)
      (messages_for-append k tokens (finals ++ [])
      ∙ ap (λ xs. xs ++ messages_for k (finals ++ [])) is2
      ∙ ap (λ xs. tokens_from f2.next (opening_tokens cmp matching two f2) ++ xs) (messages_for-append k finals [] ∙ ap (λ xs. xs ++ messages_for k []) is3)) in (
        found1,
        subst (Each (IsPlainlyWell cmp true)) (sym all)
            (each_append (IsPlainlyWell cmp true) (interests_from f.next (opening_interests cmp matching one f)) (tokens_from f2.next (opening_tokens cmp matching two f2) ++ ([] ++ messages_for k []))
            (interests_plain f.next (opening_interests cmp matching one f) (of_cond (Each (λ (i : InterestRow K). kept_options Client i.options ≡ i.options)) (leads_up one.mode f) (held_south cmp matching one) [] (λ _. held_here one) (λ _. tt)))
            (each_append (IsPlainlyWell cmp true) (tokens_from f2.next (opening_tokens cmp matching two f2)) ([] ++ messages_for k []) (tokens_plain f2.next (opening_tokens cmp matching two f2)) (nothing k))),
      )
    where
      held_here : Rows K → Each (λ (i : InterestRow K). kept_options Client i.options ≡ i.options) (held_south cmp matching (opened zid whatami North bound first g))
      held_here h =
          held_kept (opened zid whatami North bound first g)
          (each_append HoldsKept g.faces (face_opened zid whatami North bound first g ∷ []) (each_weaker (IsTreeFace g.mode) HoldsKept (λ f face. λ down. (face.down down).held) g.faces rows.faces) ((λ down. never refl down), tt))

      nothing : (k : ℕ) → Each (IsPlainlyWell cmp true) (messages_for k [])
      nothing k = tt

  -- The new face to the north agrees with the one above that nothing was said to yet.
  pub opened_link_agrees : (zid : Zid) (whatami : WhatAmI) (bound : Bound) (first : ℕ) (g : Rows K) (f upper : Face K) → TreeRows cmp g → RowsAreInOrder cmp matching g → g.mode ≡ Client → 1 ≤ first
      → (let c : PlainCall K = NewTransport zid whatami North bound first in
      find_face (g.made + 1) (rows_after_call cmp matching c g) ≡ Some f → upper.live ≡ [] → upper.told ≡ [] → upper.held ≡ [] → upper.asks ≡ []
      → JointAgrees cmp f upper (messages_for (g.made + 1) (said cmp matching c g)) [])
  opened_link_agrees zid whatami bound first g f upper rows ordered client real = λ found up_live up_told up_held up_asks.
      let c : PlainCall K = NewTransport zid whatami North bound first in
      let k = g.made + 1 in
      let new_ : Face K = face_opened zid whatami North bound first g in
      let ss = said cmp matching c g in
      let a = altered cmp matching c g in
      let well = opening_well zid whatami bound first g rows ordered.lists.faces_made client in
      let drawn_all = call_draws cmp total matching c g real ordered in
      let drawn_own = find_each (λ (h : Face K). DrawNext cmp (messages_for h.number ss) (told_of h)) (λ (h : Face K). k == h.number) a.faces new_ (each_of_map (λ t. DrawNext cmp (messages_for t.number ss) t) told_of a.faces drawn_all) well.0 in
      let is : Some f ≡ Some (heard_all cmp a.moment (messages_for k ss) new_) = sym found ∙ find_heard_at cmp ss a k new_ well.0 in
      let f_is : f ≡ heard_all cmp a.moment (messages_for k ss) new_ = cc in
      subst (λ h. JointAgrees cmp h upper (messages_for k ss) []) (sym f_is)
      (lower_hears_all cmp a.moment (messages_for k ss) new_ upper [] [] (plainly cmp true (messages_for k ss) new_.told new_.asks well.1) drawn_own (fresh_agrees cmp new_ upper refl refl refl refl up_live up_told up_held up_asks))

  -- the rows of a gateway of trees that are in order
  pub rows_of_tree : (g : Rows K) → IsTreeGateway cmp matching g → RowsAreInOrder cmp matching g → TreeRows cmp g
  rows_of_tree g tree ordered = record {
    rises = ordered.lists.faces_rise;
    faces = tree.faces;
    real = each_weaker (λ f. IsToldInOrder cmp f.told f.next) (IsReal cmp) (λ f told. record { next = told.next_is_real; told = rise_above (λ row. row.0) 1 f.told told.rises }) g.faces ordered.told;
  }
