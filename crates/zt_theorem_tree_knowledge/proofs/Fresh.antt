-- The face that an opening makes, and what it is sent.
use Rattle.std.proofs.Common.{◌≡◌, ℕ, ◌+◌, ◌≤◌, ◌<◌, Bool, true, false, if◌then◌else◌, ◌&&◌, not, List, [], ◌∷◌, ◌++◌, map, Option, Some, None, refl, sym, ap, ◌∙◌, subst, arith}
use Rattle.std.specs.Cmp.{IsTotalOrder}
use Rattle.std.specs.declared.cmp.Ordering.{Ordering}
use Rattle.zt_region.specs.declared.region.Bound.{Bound}
use Rattle.zt_region.specs.declared.region.Bound.TheVariants.{North as NorthBound}
use Rattle.zt_region.specs.declared.region.Region.{Region}
use Rattle.zt_region.specs.declared.region.Region.TheVariants.{North}
use Rattle.zt_region.specs.declared.region.WhatAmI.{WhatAmI}
use Rattle.zt_region.specs.declared.region.WhatAmI.TheVariants.{Peer, Client, Router}
use Rattle.zt_region.specs.declared.region.Zid.{Zid}
use Rattle.zt_region.specs.Region.{bound_eq, is_north, region_eq-same, whatami_eq}
use Rattle.zt_protocol.specs.Plain.{NewTransport, PlainCall}
use Rattle.zt_protocol.specs.declared.messages.Message.{Message}
use Rattle.zt_protocol.specs.declared.messages.Message.TheVariants as message
use Rattle.zt_model.specs.Hat.{north_hat}
use Rattle.zt_model.specs.Hearing.{heard_all, messages_for, rows_heard}
use Rattle.zt_model.specs.Parts.{Sends, altered_by, find_face, said_by, to_face}
use Rattle.zt_model.specs.Routing.{face_opened, held_south, interests_from, opened, opening_final, opening_interests, opening_tokens, tokens_from}
use Rattle.zt_model.specs.Rows.{Face, Rows}
use Rattle.zt_model.specs.Says.{altered, parts_of, said}
use Rattle.zt_model.specs.Transcript.{Each}
use Rattle.zt_model.specs.Visible.{visible_expressions}
use Rattle.zt_model.proofs.Hats.{greeted_is, initial_is}
use Rattle.zt_laws.specs.Order.{RowsAreInOrder}
use Rattle.zt_laws.specs.Sound.{rows_after_call}
use Rattle.zt_laws.proofs.Hearing.{rows_heard_nothing}
use Rattle.zt_laws.proofs.Lists.{each_weaker}
use Rattle.zt_theorem_tree_invariant.specs.Facts.{IsTreeGateway, JointAgrees}
use Rattle.zt_theorem_tree_invariant.proofs.Fresh.{find_last, opened_link_agrees, rows_of_tree}
use Rattle.zt_theorem_tree_invariant.proofs.Saying.{find_heard_at}

module _ {K : Type 0} (cmp : K → K → Ordering) (matching : K → K → Bool) (zid : Zid) (whatami : WhatAmI) (region : Region) (bound : Bound) (first : ℕ) (g : Rows K) (made : Each (λ f. f.number ≤ g.made) g.faces) where
  abbrev opens : PlainCall K
  opens = NewTransport zid whatami region bound first

  abbrev pub fresh : Face K
  fresh = face_opened zid whatami region bound first g

  altered_is : altered cmp matching opens g ≡ opened zid whatami region bound first g
  unfolding parts_of altered_by
  altered_is = refl

  there : find_face (g.made + 1) (opened zid whatami region bound first g) ≡ Some fresh
  there = find_last (g.made + 1) g.faces fresh (each_weaker (λ (h : Face K). h.number ≤ g.made) (λ h. h.number < g.made + 1) (λ h le. omega arith) g.faces made) refl

  -- the face after it heard what it was sent
  pub fresh_heard : find_face (g.made + 1) (rows_after_call cmp matching opens g) ≡ Some (heard_all cmp g.moment (messages_for (g.made + 1) (said cmp matching opens g)) fresh)
  unfolding parts_of altered_by
  fresh_heard = find_heard_at cmp (said cmp matching opens g) (opened zid whatami region bound first g) (g.made + 1) fresh there

  nothing_to : (rule : Face K → List (Message K)) → rule fresh ≡ [] → to_face (g.made + 1) rule (opened zid whatami region bound first g) ≡ []
  unfolding to_face
  nothing_to rule none_ = ap (λ (o : Option (Face K)). (let ss : Sends K = elim o [ None ↦ [] | Some f ↦ map (λ m. (g.made + 1, m)) (rule f) ] in ss)) there ∙ ap (λ (ms : List (Message K)). (let ss : Sends K = map (λ m. (g.made + 1, m)) ms in ss)) none_

  -- a face that leads down is sent nothing
  pub nothing_said : is_north region ≡ false → said cmp matching opens g ≡ []
  unfolding parts_of said_by interests_from tokens_from
  nothing_said down =
      let k = g.made + 1 in
      let h = opened zid whatami region bound first g in
      let interests = to_face k (λ f. interests_from f.next (opening_interests cmp matching h f)) h in
      let none1 : interests ≡ [] = nothing_to (λ f. interests_from f.next (opening_interests cmp matching h f)) (ap (λ b. interests_from first (if b && (north_hat h.mode).leads_up bound then held_south cmp matching h else [])) down) in
      let none2 : to_face k (λ f. tokens_from f.next (opening_tokens cmp matching h f)) h ≡ [] = nothing_to (λ f. tokens_from f.next (opening_tokens cmp matching h f)) (ap (λ b. tokens_from first (if b then visible_expressions cmp h region else [])) (greeted_is cmp matching h fresh ∙ ap (λ b. b && not (whatami_eq h.mode Router)) down)) in
      let none3 : to_face k (opening_final cmp matching) h ≡ [] = nothing_to (opening_final cmp matching) (ap (λ (o : Option Bool). (let ms : List (Message K) = elim o [ None ↦ [] | Some finalised ↦ message.DeclareFinal 0 ∷ [] ] in ms)) (initial_is g.mode region bound ∙ ap (λ b. (if whatami_eq g.mode Peer && (b && bound_eq bound NorthBound) then Some false else None)) down) ∙ none_at (whatami_eq g.mode Peer)) in
      let rest = λ (r : Rows K). (let tokens = to_face k (λ f. tokens_from f.next (opening_tokens cmp matching r f)) r in let n = rows_heard cmp tokens r in tokens ++ (to_face k (opening_final cmp matching) n ++ [])) in
      ap (λ ss. ss ++ rest (rows_heard cmp ss h)) none1
      ∙ ap rest (rows_heard_nothing cmp h)
      ∙ ap (λ ss. ss ++ (to_face k (opening_final cmp matching) (rows_heard cmp ss h) ++ [])) none2
      ∙ ap (λ r. to_face k (opening_final cmp matching) r ++ []) (rows_heard_nothing cmp h)
      ∙ ap (λ ss. ss ++ []) none3
    where
      none_at : (p : Bool) → (let ms : List (Message K) = elim (if p && false then Some false else None) [ None ↦ [] | Some finalised ↦ message.DeclareFinal 0 ∷ [] ] in ms) ≡ []
      none_at true = refl
      none_at false = refl

  pub fresh_as_it_was : is_north region ≡ false → find_face (g.made + 1) (rows_after_call cmp matching opens g) ≡ Some fresh
  unfolding parts_of altered_by messages_for heard_all
  fresh_as_it_was down = fresh_heard ∙ ap (λ ss. Some (heard_all cmp g.moment (messages_for (g.made + 1) ss) fresh)) (nothing_said down)

  -- what leads down is as it was made
  pub fresh_below : is_north region ≡ false → heard_all cmp g.moment (messages_for (g.made + 1) (said cmp matching opens g)) fresh ≡ fresh
  unfolding messages_for heard_all
  fresh_below down = ap (λ ss. heard_all cmp g.moment (messages_for (g.made + 1) ss) fresh) (nothing_said down)

module _ {K : Type 0} (cmp : K → K → Ordering) (matching : K → K → Bool) (total : IsTotalOrder cmp) where
  -- a face that leads up agrees with one above of which nothing is known
  pub fresh_agrees_above : (zid : Zid) (whatami : WhatAmI) (region : Region) (bound : Bound) (first : ℕ) (g : Rows K) (made : Each (λ f. f.number ≤ g.made) g.faces) (upper : Face K) → is_north region ≡ true → g.mode ≡ Client → 1 ≤ first → IsTreeGateway cmp matching g → RowsAreInOrder cmp matching g
      → upper.live ≡ [] → upper.told ≡ [] → upper.held ≡ [] → upper.asks ≡ []
      → (let ms = messages_for (g.made + 1) (said cmp matching (NewTransport zid whatami region bound first) g) in JointAgrees cmp (heard_all cmp g.moment ms (fresh cmp matching zid whatami region bound first g made)) upper ms [])
  fresh_agrees_above zid whatami region bound first g made upper up client real tree ordered live told held asks =
      let P = λ (r : Region). (let ms = messages_for (g.made + 1) (said cmp matching (NewTransport zid whatami r bound first) g) in JointAgrees cmp (heard_all cmp g.moment ms (fresh cmp matching zid whatami r bound first g made)) upper ms []) in
      subst P (sym (region_eq-same region North up))
      (opened_link_agrees cmp matching total zid whatami bound first g _ upper (rows_of_tree cmp matching total g tree ordered) ordered client real (fresh_heard cmp matching zid whatami North bound first g made) live told held asks)
