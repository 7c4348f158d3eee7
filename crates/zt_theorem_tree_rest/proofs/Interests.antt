-- What interests and their ends cost at a gateway of a tree.
use Rattle.std.proofs.Common.{◌≡◌, ℕ, ◌+◌, ◌≤◌, Bool, true, false, not, if◌then◌else◌, ◌==◌, List, [], ◌∷◌, map, filter, Option, Some, None, refl, sym, ap, subst, arith, eqb-true}
use Rattle.std.specs.Cmp.{IsTotalOrder}
use Rattle.std.specs.List.{flat_map}
use Rattle.std.specs.declared.cmp.Ordering.{Ordering}
use Rattle.std.specs.declared.cmp.Ordering.TheVariants.{Equal}
use Rattle.zt_region.specs.declared.region.Region.{Region}
use Rattle.zt_region.specs.declared.region.WhatAmI.{WhatAmI}
use Rattle.zt_region.specs.Region.{is_north, zid_eq}
use Rattle.zt_protocol.specs.Interest.{is_current}
use Rattle.zt_protocol.specs.Plain.{Interest, InterestFinal}
use Rattle.zt_protocol.specs.declared.interests.InterestMode.{InterestMode}
use Rattle.zt_protocol.specs.declared.interests.InterestOptions.{InterestOptions}
use Rattle.zt_protocol.specs.declared.messages.Message.{Message}
use Rattle.zt_model.specs.Entities.{entities_for, numbered_by, with_numbers}
use Rattle.zt_model.specs.Hearing.{rows_heard}
use Rattle.zt_model.specs.Lists.{at_id, is_among}
use Rattle.zt_model.specs.Parts.{Part, find_face, to_each, to_face, with_face}
use Rattle.zt_model.specs.Routing.{asked_as, end_upstream_to, final_of, final_of_both, finalising, route, route_to, sent_as, unheld, untell_to}
use Rattle.zt_model.specs.Rows.{Ask, Face, InterestRow, Rows}
use Rattle.zt_model.specs.Says.{answers_of, asking, finalising_held, parts_of, row_of}
use Rattle.zt_model.specs.Transcript.{Each}
use Rattle.zt_model.specs.Visible.{live_rows, rows_of_face, shows, visible_expressions}
use Rattle.zt_laws.specs.Sound.{RiseFrom}
use Rattle.zt_laws.proofs.Lists.{each_always, each_append, each_both, each_filter, each_map, each_passes, each_weaker, of_cond}
use Rattle.zt_theorem_tree_invariant.proofs.Fresh.{each_in_order}
use Rattle.zt_theorem_tree_only_what_lived.specs.Tokens.{IsIn}
use Rattle.zt_theorem_tree_only_what_lived.proofs.Tokens.{heard_in}
use Rattle.zt_theorem_tree_rest.proofs.Calls.{NoRouters, changed_owes, each_said, framed_rise, framed_total}
use Rattle.zt_theorem_tree_rest.proofs.Ending.{end_upstream_pays, final_of_both_pays, final_pays}
use Rattle.zt_theorem_tree_rest.proofs.Frames.{Cost, Framed, Outline, Owes, RunsWithin, face_frame, framed_face, framed_heard, outline, runs_alter, runs_more, runs_nothing, runs_say}
use Rattle.zt_theorem_tree_rest.proofs.Prices.{Pays, left, total_put_if}
use Rattle.zt_theorem_tree_rest.proofs.Sends.{one_pays}
use Rattle.zt_theorem_tree_rest.proofs.Sums.{times, total, total_filter, total_none}
use Rattle.zt_theorem_tree_rest.proofs.Telling.{AreTokens, answers_pay, entities_pay, entity_price, route_pays, untell_pays}

each_member_flat : {A B : Type 0} (P : B → Type 0) (make : A → List B) (xs : List A) → Each (λ x. Each P (make x)) xs → Each P (flat_map make xs)
each_member_flat P make [] all = tt
each_member_flat P make (x ∷ xs) all = each_append P (make x) (flat_map make xs) all.0 (each_member_flat P make xs all.1)

module _ {K : Type 0} (cmp : K → K → Ordering) (matching : K → K → Bool) (Q : K → Type 0) where
  -- what is visible is of a kind, where all that is live is
  pub visible_in : (g : Rows K) (own : Region) → IsIn Q g → Each Q (visible_expressions cmp g own)
  unfolding visible_expressions
  visible_in g own in_ =
      each_in_order cmp Q (map (λ row. row.1) (filter (λ row. shows g.mode own row.0) (live_rows g)))
      (each_map Q (λ (row : Region × K). row.1) (filter (λ row. shows g.mode own row.0) (live_rows g))
      (each_filter (λ (row : Region × K). Q row.1) (λ row. shows g.mode own row.0) (live_rows g)
      (each_append (λ (row : Region × K). Q row.1) (flat_map rows_of_face g.faces) _
      (each_member_flat (λ (row : Region × K). Q row.1) rows_of_face g.faces (each_weaker (λ f. Each (λ row. Q row.1) f.live) (λ f. Each (λ (row : Region × K). Q row.1) (rows_of_face f)) (λ f all. each_map (λ (row : Region × K). Q row.1) (λ row. (f.region, row.1)) f.live all) g.faces in_.live))
      (each_map (λ (row : Region × K). Q row.1) (λ row. (row.region, row.expr)) (filter (λ row. not (zid_eq row.source g.zid)) g.routed)
      (each_both (λ row. not (zid_eq row.source g.zid) ≡ true) (λ row. zid_eq row.source g.zid ≡ false → Q row.expr) (λ row. Q row.expr) (λ row other own. own (not_true (zid_eq row.source g.zid) other)) (filter (λ row. not (zid_eq row.source g.zid)) g.routed) (each_passes (λ row. not (zid_eq row.source g.zid)) g.routed) (each_filter (λ row. zid_eq row.source g.zid ≡ false → Q row.expr) (λ row. not (zid_eq row.source g.zid)) g.routed in_.routed))))))
    where
      not_true : (b : Bool) → not b ≡ true → b ≡ false
      not_true true h = cc
      not_true false h = refl

  in_face : (n : ℕ) (change : Face K → Face K) → ((f : Face K) → (change f).live ≡ f.live) → (g : Rows K) → IsIn Q g → IsIn Q (with_face n change g)
  unfolding with_face
  in_face n change same_ g in_ = record {
    live =
        each_map (λ (f : Face K). Each (λ row. Q row.1) f.live) (λ f. if n == f.number then change f else f) g.faces
        (each_weaker (λ f. Each (λ row. Q row.1) f.live) (λ f. Each (λ row. Q row.1) (if n == f.number then change f else f).live) (λ f all. of_cond (λ (h : Face K). Each (λ row. Q row.1) h.live) (n == f.number) (change f) f (λ _. subst (Each (λ row. Q row.1)) (sym (same_ f)) all) (λ _. all)) g.faces in_.live);
    routed = in_.routed;
  }

module _ {K : Type 0} (cmp : K → K → Ordering) (matching : K → K → Bool) (tokens : List K) (price : ℕ → ℕ) (end_price : ℕ)
    (mode : WhatAmI) (os : List (Outline K)) (rises : RiseFrom (λ (o : Outline K). o.number) 1 os) (plain : NoRouters mode os) (total_order : IsTotalOrder cmp) (equal_is_same : (a b : K) → cmp a b ≡ Equal → a ≡ b) where
  abbrev Runs : List (Part K) → Rows K → ℕ → Type 0
  Runs parts g most = RunsWithin cmp matching tokens price end_price parts g most

  abbrev Frame : Rows K → Type 0
  Frame g = Framed mode os g

  abbrev IsToken : K → Type 0
  IsToken e = is_among cmp e tokens ≡ true

  -- one face is sent what a rule gives
  one_said : (n : ℕ) (rule : Face K → List (Message K)) (most : ℕ) (g : Rows K) → Frame g → Each (λ f. (n == f.number) ≡ true → Pays cmp tokens price end_price g.moment f most (rule f)) g.faces
      → Cost cmp matching tokens price end_price (to_face n rule g) + Owes cmp matching tokens price end_price (rows_heard cmp (to_face n rule g) g) ≤ Owes cmp matching tokens price end_price g + most
  one_said n rule most g framed pays = one_pays cmp tokens price end_price n 1 rule most g (framed_rise mode os g rises framed) pays

  -- ---- an interest

  -- what it is sent up for, and the local that stands for it
  abbrev pub up_price : Outline K → ℕ
  up_price o = if is_north o.region then price o.number + end_price else 0

  abbrev pub entities_price : ℕ → Outline K → ℕ
  entities_price n o = times n o.subscribers + times n o.queryables

  ask_owes : (n : ℕ) (pendings : List (ℕ × ℕ)) (id : ℕ) (interest : InterestRow K) (g : Rows K) (f : Face K) → (n == f.number) ≡ true
      → Owes cmp matching tokens price end_price (record g { faces = asked_as pendings id interest f ∷ [] }) ≤ Owes cmp matching tokens price end_price (record g { faces = f ∷ [] }) + (price n + times (price n) tokens)
  ask_owes n pendings id interest g f own =
      let is : n ≡ f.number = eqb-true n f.number own in
      let ask : Ask K = record { interest = interest; pendings = pendings; answered = [] } in
      let put_ = total_put_if (λ (a : Ask K). left cmp tokens price end_price f.number a) (is_current interest.mode) id ask f.asks in
      let most = total_filter (λ (e : K). price f.number) (λ e. not (is_among cmp e [])) tokens in
      subst (λ k. Owes cmp matching tokens price end_price (record g { faces = asked_as pendings id interest f ∷ [] }) ≤ Owes cmp matching tokens price end_price (record g { faces = f ∷ [] }) + (price k + times (price k) tokens)) (sym is) (omega arith)

  abbrev pub interest_most : ℕ → ℕ
  interest_most n = total up_price os + (total (entities_price (price n)) os + ((price n + times (price n) tokens) + times (price n) tokens))

  pub interest_runs : (n id : ℕ) (imode : InterestMode) (options : InterestOptions) (e : Option K) (f : Face K) (g : Rows K) → Frame g → find_face n g ≡ Some f → IsIn IsToken g → Runs (parts_of cmp matching (Interest n id imode options e) g) g (interest_most n)
  unfolding parts_of
  interest_runs n id imode options e f g framed found in_ =
      let interest = row_of cmp matching f imode options e in
      let is : parts_of cmp matching (Interest n id imode options e) g ≡ asking cmp matching n id interest f.region g = ap (λ (o : Option (Face K)). (let ps : List (Part K) = elim o [ None ↦ [] | Some k ↦ asking cmp matching n id (row_of cmp matching k imode options e) k.region g ] in ps)) found in
      let g1 = with_numbers cmp (numbered_by cmp interest) g in
      let framed1 : Frame g1 = record { mode_is = framed.mode_is; faces_are = framed.faces_are } in
      let in1 : IsIn IsToken g1 = record { live = in_.live; routed = in_.routed } in
      let route_ = to_each (route_to g1 f.region interest) g1.faces in
      let g2 = rows_heard cmp route_ g1 in
      let framed2 = framed_heard cmp mode os route_ g1 framed1 in
      let in2 = heard_in cmp matching IsToken route_ g1 in1 in
      let entities = to_face n (entities_for cmp matching g2 id interest) g2 in
      let g3 = rows_heard cmp entities g2 in
      let framed3 = framed_heard cmp mode os entities g2 framed2 in
      let in3 = heard_in cmp matching IsToken entities g2 in2 in
      let pendings = sent_as g f.region imode in
      let g4 = with_face n (asked_as pendings id interest) g3 in
      let framed4 : Frame g4 = framed_face mode os n (asked_as pendings id interest) (λ k. refl) g3 framed3 in
      let in4 = in_face cmp matching IsToken n (asked_as pendings id interest) (λ k. refl) g3 in3 in
      let answers = to_face n (answers_of cmp matching g4 id interest) g4 in
      let g5 = rows_heard cmp answers g4 in
      let framed5 = framed_heard cmp mode os answers g4 framed4 in
      let p = price n in
      let route_sum = framed_total up_price mode os g1 framed1 in
      let routed =
      each_said cmp matching tokens price end_price mode os rises plain (route_to g1 f.region interest) (λ k. up_price (outline k)) g1 framed1
      (each_always (λ (k : Face K). Pays cmp tokens price end_price g1.moment k (up_price (outline k)) (route_to g1 f.region interest k)) (λ k. route_pays cmp matching tokens price end_price g1.moment g1 f.region interest k) g1.faces) in
      let entity_sum = framed_total (entities_price p) mode os g2 framed2 in
      let entered =
      one_said n (entities_for cmp matching g2 id interest) (total (entities_price p) os) g2 framed2
      (each_always (λ (k : Face K). (n == k.number) ≡ true → Pays cmp tokens price end_price g2.moment k (total (entities_price p) os) (entities_for cmp matching g2 id interest k))
      (λ k own. let at_ = at_number n k own (λ q. total (entity_price cmp matching tokens price end_price q) g2.faces) in let pays = entities_pay cmp matching tokens price end_price g2.moment g2 id interest k in omega arith) g2.faces) in
      let asked_ = changed_owes cmp matching tokens price end_price mode os rises plain n (asked_as pendings id interest) (p + times p tokens) g3 framed3
      (each_always (λ (k : Face K). (n == k.number) ≡ true → Owes cmp matching tokens price end_price (record g3 { faces = asked_as pendings id interest k ∷ [] }) ≤ Owes cmp matching tokens price end_price (record g3 { faces = k ∷ [] }) + (p + times p tokens)) (λ k own. ask_owes n pendings id interest g3 k own) g3.faces) in
      let answered =
      one_said n (answers_of cmp matching g4 id interest) (times p tokens) g4 framed4
      (each_always (λ (k : Face K). (n == k.number) ≡ true → Pays cmp tokens price end_price g4.moment k (times p tokens) (answers_of cmp matching g4 id interest k))
      (λ k own. let at_ = at_number n k own (λ q. times q tokens) in let pays = answers_pay cmp matching tokens price end_price total_order equal_is_same g4.moment g4 id interest k (visible_in cmp matching IsToken g4 k.region in4) in omega arith) g4.faces) in
      let finished =
      one_said n (final_of id) 0 g5 framed5 (each_always (λ (k : Face K). (n == k.number) ≡ true → Pays cmp tokens price end_price g5.moment k 0 (final_of id k)) (λ k own. final_pays cmp matching tokens price end_price g5.moment id k) g5.faces) in
      subst (λ (ps : List (Part K)). Runs ps g (interest_most n)) (sym is)
      (runs_more cmp matching tokens price end_price _ g (0 + (total up_price os + (total (entities_price p) os + ((p + times p tokens) + (times p tokens + (0 + 0)))))) (interest_most n) (omega arith)
      (runs_alter cmp matching tokens price end_price (with_numbers cmp (numbered_by cmp interest)) _ g 0 _ (omega arith) refl
      (runs_say cmp matching tokens price end_price (route f.region interest) _ g1 (total up_price os) _ (omega arith)
      (runs_say cmp matching tokens price end_price (λ h. to_face n (entities_for cmp matching h id interest) h) _ g2 (total (entities_price p) os) _ entered
      (runs_alter cmp matching tokens price end_price (with_face n (asked_as pendings id interest)) _ g3 (p + times p tokens) _ asked_ (face_frame n (asked_as pendings id interest) (λ k. refl) g3)
      (runs_say cmp matching tokens price end_price (λ h. to_face n (answers_of cmp matching h id interest) h) _ g4 (times p tokens) _ answered
      (runs_say cmp matching tokens price end_price (to_face n (final_of id)) [] g5 0 0 finished (runs_nothing cmp matching tokens price end_price _))))))))
    where
      at_number : (n : ℕ) (k : Face K) → (n == k.number) ≡ true → (w : ℕ → ℕ) → w (price k.number) ≡ w (price n)
      at_number n k own w = ap (λ j. w (price j)) (sym (eqb-true n k.number own))

  -- ---- the end of an interest

  pub end_runs : (n id : ℕ) (f : Face K) (g : Rows K) → Frame g → find_face n g ≡ Some f → Each (λ (k : Face K). AreTokens cmp matching tokens price end_price total_order equal_is_same (map (λ row. row.1) k.told)) g.faces → Runs (parts_of cmp matching (InterestFinal n id) g) g (times (price n) tokens)
  unfolding parts_of with_face
  end_runs n id f g framed found told =
      let is : parts_of cmp matching (InterestFinal n id) g ≡ finalising_held cmp matching n id f = ap (λ (o : Option (Face K)). (let ps : List (Part K) = elim o [ None ↦ [] | Some k ↦ finalising_held cmp matching n id k ] in ps)) found in
      subst (λ (ps : List (Part K)). Runs ps g (times (price n) tokens)) (sym is) (by_held (at_id id f.held))
    where
      at_number : (n : ℕ) (k : Face K) → (n == k.number) ≡ true → (w : ℕ → ℕ) → w (price k.number) ≡ w (price n)
      at_number n k own w = ap (λ j. w (price j)) (sym (eqb-true n k.number own))

      held_runs : (interest : InterestRow K) → Runs (finalising cmp matching n id interest) g (times (price n) tokens)
      held_runs interest =
          let p = price n in
          let g1 = with_face n (unheld id) g in
          let framed1 : Frame g1 = framed_face mode os n (unheld id) (λ k. refl) g framed in
          let told1 : Each (λ (k : Face K). AreTokens cmp matching tokens price end_price total_order equal_is_same (map (λ row. row.1) k.told)) g1.faces =
          each_map (λ (k : Face K). AreTokens cmp matching tokens price end_price total_order equal_is_same (map (λ row. row.1) k.told)) (λ k. if n == k.number then unheld id k else k) g.faces
          (each_weaker (λ (k : Face K). AreTokens cmp matching tokens price end_price total_order equal_is_same (map (λ row. row.1) k.told)) (λ k. AreTokens cmp matching tokens price end_price total_order equal_is_same (map (λ row. row.1) (if n == k.number then unheld id k else k).told))
          (λ k own. of_cond (λ (h : Face K). AreTokens cmp matching tokens price end_price total_order equal_is_same (map (λ row. row.1) h.told)) (n == k.number) (unheld id k) k (λ _. own) (λ _. own)) g.faces told) in
          let unheld_ = changed_owes cmp matching tokens price end_price mode os rises plain n (unheld id) 0 g framed
          (each_always (λ (k : Face K). (n == k.number) ≡ true → Owes cmp matching tokens price end_price (record g { faces = unheld id k ∷ [] }) ≤ Owes cmp matching tokens price end_price (record g { faces = k ∷ [] }) + 0) (λ k own. omega arith) g.faces) in
          let untold = to_face n (untell_to cmp matching g1) g1 in
          let untells =
          one_said n (untell_to cmp matching g1) (times p tokens) g1 framed1
          (each_weaker (λ (k : Face K). AreTokens cmp matching tokens price end_price total_order equal_is_same (map (λ row. row.1) k.told)) (λ (k : Face K). (n == k.number) ≡ true → Pays cmp tokens price end_price g1.moment k (times p tokens) (untell_to cmp matching g1 k))
          (λ k are own. let at_ = at_number n k own (λ q. times q tokens) in let pays = untell_pays cmp matching tokens price end_price total_order equal_is_same g1.moment g1 k are in omega arith) g1.faces told1) in
          let g2 = rows_heard cmp untold g1 in
          let framed2 = framed_heard cmp mode os untold g1 framed1 in
          let final = to_face n (final_of_both id interest) g2 in
          let finished = one_said n (final_of_both id interest) 0 g2 framed2 (each_always (λ (k : Face K). (n == k.number) ≡ true → Pays cmp tokens price end_price g2.moment k 0 (final_of_both id interest k)) (λ k own. final_of_both_pays cmp matching tokens price end_price g2.moment id interest k) g2.faces) in
          let g3 = rows_heard cmp final g2 in
          let framed3 = framed_heard cmp mode os final g2 framed2 in
          let ends =
          each_said cmp matching tokens price end_price mode os rises plain (end_upstream_to cmp matching g3 interest) (λ k. 0) g3 framed3
          (each_always (λ (k : Face K). Pays cmp tokens price end_price g3.moment k 0 (end_upstream_to cmp matching g3 interest k)) (λ k. end_upstream_pays cmp matching tokens price end_price g3.moment g3 interest k) g3.faces) in
          let zero_ = total_none g3.faces in
          runs_more cmp matching tokens price end_price _ g (0 + (times p tokens + (0 + (0 + 0)))) (times p tokens) (omega arith)
          (runs_alter cmp matching tokens price end_price (with_face n (unheld id)) _ g 0 _ unheld_ (face_frame n (unheld id) (λ k. refl) g)
          (runs_say cmp matching tokens price end_price (λ h. to_face n (untell_to cmp matching h) h) _ g1 (times p tokens) _ untells
          (runs_say cmp matching tokens price end_price (to_face n (final_of_both id interest)) _ g2 0 _ finished
          (runs_say cmp matching tokens price end_price (λ h. to_each (end_upstream_to cmp matching h interest) h.faces) [] g3 0 0 (omega arith) (runs_nothing cmp matching tokens price end_price _)))))

      by_held : (o : Option (InterestRow K)) → Runs (let ps : List (Part K) = elim o [ None ↦ [] | Some interest ↦ finalising cmp matching n id interest ] in ps) g (times (price n) tokens)
      by_held None = runs_more cmp matching tokens price end_price [] g 0 (times (price n) tokens) (omega arith) (runs_nothing cmp matching tokens price end_price g)
      by_held (Some interest) = held_runs interest
