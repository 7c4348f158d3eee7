-- Why a link between two gateways isn't made, by what its two ends come to.
use Rattle.std.proofs.Common.{◌≡◌, ℕ, ◌+◌, Bool, true, false, ◌||◌, not, nat_le, length, List, [], ◌∷◌, ◌++◌, Option, Some, None, refl, ap, sym, ◌∙◌}
use Rattle.std.specs.List.{list_any}
use Rattle.std.specs.Option.{option_to_list}
use Rattle.std.specs.declared.cmp.Ordering.{Ordering}
use Rattle.zt_protocol.specs.Plain.{PlainCall, Link as LinkLine}
use Rattle.zt_protocol.specs.declared.errors.Refusal.{Refusal}
use Rattle.zt_protocol.specs.declared.errors.Refusal.TheVariants as refusal
use Rattle.zt_region.specs.Tables.{RegionAnswer}
use Rattle.zt_model.specs.Fabric.{CallAt, Fabric, Node, after_opening, call_at, is_full, is_region_of, is_unknown_gateway, line_spends_ids, opening_at, opening_calls}
use Rattle.zt_model.specs.Hat.{hat_of}
use Rattle.zt_model.specs.Linking.{LinkEnd, closes_loop, end_call, end_region, is_end, is_refused_end, link_ends}
use Rattle.zt_model.specs.Lists.{is_some_and, nth}
use Rattle.zt_model.specs.Refusals.{GREATEST_NUMBER, is_north_taken, spends_ids}
use Rattle.zt_links.specs.Lines.{cause_if, cause_of_line, later_cause, opened_by_call, call_to_open, or_cause, regions_cause}
use Rattle.zt_links.proofs.Refusing.{link_cause}

or_nothing : (b : Bool) → b ≡ (b || false)
or_nothing true = refl
or_nothing false = refl

or_yes : (b : Bool) → (b || true) ≡ true
or_yes true = refl
or_yes false = refl

any_two : {A : Type 0} (p : A → Bool) (x y : A) → (p x || p y) ≡ list_any p (x ∷ y ∷ [])
any_two p x y = ap (λ b. p x || b) (or_nothing (p y))

any_of_both : {A : Type 0} (p : A → Bool) (x y : Option A) → (is_some_and x p || is_some_and y p) ≡ list_any p (option_to_list x ++ (option_to_list y ++ []))
any_of_both p None None = refl
any_of_both p None (Some y) = or_nothing (p y)
any_of_both p (Some x) None = refl
any_of_both p (Some x) (Some y) = any_two p x y

or_three : (x y z rest : Option Refusal) → or_cause (or_cause x (or_cause y z)) rest ≡ or_cause x (or_cause y (or_cause z rest))
or_three (Some r) y z rest = refl
or_three None (Some r) z rest = refl
or_three None None z rest = refl

known_first : (b : Bool) (later : Option Refusal) → b ≡ true → or_cause (cause_if b refusal.UnknownGateway) later ≡ Some refusal.UnknownGateway
known_first true later is = refl
known_first false later is = absurd cc

-- the causes of a link in turn
abbrev in_turn : Bool → Bool → Bool → Bool → Bool → Option Refusal → Option Refusal
in_turn unknown lacks conflicts taken loops rest =
    or_cause (cause_if unknown refusal.UnknownGateway)
    (or_cause (cause_if lacks refusal.NoSuchRegion)
    (or_cause (cause_if conflicts refusal.RegionConflict)
    (or_cause (cause_if taken refusal.NorthTaken)
    (or_cause (cause_if loops refusal.WouldLoop) rest))))

module _ {K : Type 0} (cmp : K → K → Ordering) (matching : K → K → Bool) where
  ends_are : (one two first back : ℕ) (s : Fabric K) (a b : Node K) → nth one s.gateways ≡ Some a → nth two s.gateways ≡ Some b
      → record { gateway = one; node = a; beyond = two; other = b; first = first } ∷ record { gateway = two; node = b; beyond = one; other = a; first = back } ∷ [] ≡ link_ends s one two first back
  ends_are one two first back s a b a_is b_is = rw (a_is, link_ends) (rw b_is refl)

  -- the call that opens an end, where it has a region
  opening_is : (s : Fabric K) (end : LinkEnd K) (call : PlainCall K) → end_call end ≡ Some call → call_at s end.gateway call ≡ opening_at cmp matching s end
  opening_is s end call is = rw (is, opening_at) refl

  two_calls : (p : CallAt K → Bool) (s : Fabric K) (x y : LinkEnd K) (forth back : PlainCall K) → end_call x ≡ Some forth → end_call y ≡ Some back
      → (is_some_and (call_at s x.gateway forth) p || is_some_and (call_at (opened_by_call cmp matching x.gateway forth s) y.gateway back) p)
      ≡ list_any p (opening_calls cmp matching (x ∷ y ∷ []) s)
  unfolding opening_calls
  two_calls p s x y forth back x_is y_is =
      let t = after_opening cmp matching (call_at s x.gateway forth) s in
      any_of_both p (call_at s x.gateway forth) (call_at t y.gateway back)
      ∙ ap (λ o. list_any p (option_to_list (call_at s x.gateway forth) ++ (option_to_list o ++ []))) (opening_is t y back y_is)
      ∙ ap (λ o. list_any p (option_to_list o ++ (option_to_list (opening_at cmp matching (after_opening cmp matching o s) y) ++ []))) (opening_is s x forth x_is)

  -- whether the two calls of a link need more ids than are left
  pub link_spends : (one two first back : ℕ) (s : Fabric K) (a b : Node K) (forth_call back_call : PlainCall K) → nth one s.gateways ≡ Some a → nth two s.gateways ≡ Some b
      → call_to_open b (end_region a b) first ≡ Some forth_call → call_to_open a (end_region b a) back ≡ Some back_call
      → (is_some_and (call_at s one forth_call) (λ at. spends_ids cmp matching at.call at.rows)
      || is_some_and (call_at (opened_by_call cmp matching one forth_call s) two back_call) (λ at. spends_ids cmp matching at.call at.rows))
      ≡ line_spends_ids cmp matching (LinkLine one two first back) s
  link_spends one two first back s a b forth_call back_call a_is b_is forth_is back_is =
      let x : LinkEnd K = record { gateway = one; node = a; beyond = two; other = b; first = first } in
      let y : LinkEnd K = record { gateway = two; node = b; beyond = one; other = a; first = back } in
      two_calls (λ at. spends_ids cmp matching at.call at.rows) s x y forth_call back_call forth_is back_is
      ∙ ap (λ ends. list_any (λ at. spends_ids cmp matching at.call at.rows) (opening_calls cmp matching ends s)) (ends_are one two first back s a b a_is b_is)

  -- ---- the causes of a link

  no_gateway : (one two first back : ℕ) (s : Fabric K) → (is_unknown_gateway s one || is_unknown_gateway s two) ≡ true
      → Some refusal.UnknownGateway ≡ cause_of_line cmp matching (LinkLine one two first back) s
  no_gateway one two first back s unknown = sym (link_cause cmp matching one two first back s ∙ known_first _ _ unknown)

  pub first_absent : (one two first back : ℕ) (s : Fabric K) (xs : List (Node K)) → xs ≡ s.gateways → None ≡ nth one xs
      → Some refusal.UnknownGateway ≡ cause_of_line cmp matching (LinkLine one two first back) s
  first_absent one two first back s xs is none =
      let absent : nth one s.gateways ≡ None = ap (nth one) (sym is) ∙ sym none in
      no_gateway one two first back s (rw absent refl)

  pub second_absent : (one two first back : ℕ) (s : Fabric K) (xs : List (Node K)) → xs ≡ s.gateways → None ≡ nth two xs
      → Some refusal.UnknownGateway ≡ cause_of_line cmp matching (LinkLine one two first back) s
  second_absent one two first back s xs is none =
      let absent : nth two s.gateways ≡ None = ap (nth two) (sym is) ∙ sym none in
      let unknown : is_unknown_gateway s two ≡ true = rw absent refl in
      no_gateway one two first back s (ap (λ b. is_unknown_gateway s one || b) unknown ∙ or_yes (is_unknown_gateway s one))

  ends_cause : (one two first back : ℕ) (s : Fabric K) (a b : Node K) → nth one s.gateways ≡ Some a → nth two s.gateways ≡ Some b
      → or_cause (regions_cause a (end_region a b) b (end_region b a)) (later_cause cmp matching one two first back s a (end_region a b) b (end_region b a))
      ≡ cause_of_line cmp matching (LinkLine one two first back) s
  ends_cause one two first back s a b a_is b_is =
      let x : LinkEnd K = record { gateway = one; node = a; beyond = two; other = b; first = first } in
      let y : LinkEnd K = record { gateway = two; node = b; beyond = one; other = a; first = back } in
      let ends = x ∷ y ∷ [] in
      let lacks : LinkEnd K → Bool = is_end (λ end region bound. not (is_region_of end.node.rows.regions region)) in
      let unfit : LinkEnd K → Bool = is_end (λ end region bound. not ((hat_of end.node.rows.mode region).fits region end.other.rows.mode bound)) in
      let taken : LinkEnd K → Bool = is_end (λ end region bound. is_north_taken region end.node.rows) in
      let loops : LinkEnd K → Bool = is_end (closes_loop s) in
      let spent = or_cause (cause_if (line_spends_ids cmp matching (LinkLine one two first back) s) refusal.IdsSpent) (cause_if (nat_le GREATEST_NUMBER (length s.faces + 1) || is_full s.links) refusal.NumbersSpent) in
      let conflict = (is_refused_end x || is_refused_end y) || (unfit x || unfit y) in
      let known : false ≡ (is_unknown_gateway s one || is_unknown_gateway s two) = rw (a_is, b_is) refl in
      or_three (cause_if (lacks x || lacks y) refusal.NoSuchRegion) (cause_if conflict refusal.RegionConflict) (cause_if (taken x || taken y) refusal.NorthTaken) (or_cause (cause_if (loops x || loops y) refusal.WouldLoop) spent)
      ∙ ap (λ l. in_turn false l conflict (taken x || taken y) (loops x || loops y) spent) (any_two lacks x y)
      ∙ ap (λ r. in_turn false (list_any lacks ends) (r || (unfit x || unfit y)) (taken x || taken y) (loops x || loops y) spent) (any_two is_refused_end x y)
      ∙ ap (λ u. in_turn false (list_any lacks ends) (list_any is_refused_end ends || u) (taken x || taken y) (loops x || loops y) spent) (any_two unfit x y)
      ∙ ap (λ t. in_turn false (list_any lacks ends) (list_any is_refused_end ends || list_any unfit ends) t (loops x || loops y) spent) (any_two taken x y)
      ∙ ap (λ l. in_turn false (list_any lacks ends) (list_any is_refused_end ends || list_any unfit ends) (list_any taken ends) l spent) (any_two loops x y)
      ∙ ap (λ es. in_turn false (list_any lacks es) (list_any is_refused_end es || list_any unfit es) (list_any taken es) (list_any loops es) spent) (ends_are one two first back s a b a_is b_is)
      ∙ ap (λ u. in_turn u (list_any lacks (link_ends s one two first back)) (list_any is_refused_end (link_ends s one two first back) || list_any unfit (link_ends s one two first back)) (list_any taken (link_ends s one two first back)) (list_any loops (link_ends s one two first back)) spent) known
      ∙ sym (link_cause cmp matching one two first back s)

  -- a link between two gateways is refused by its regions, or else for a later cause
  pub by_ends : (one two first back : ℕ) (s : Fabric K) (a b : Node K) (near far : RegionAnswer) (regions later : Option Refusal) → nth one s.gateways ≡ Some a → nth two s.gateways ≡ Some b
      → near ≡ end_region a b → far ≡ end_region b a → regions ≡ regions_cause a near b far → later ≡ later_cause cmp matching one two first back s a near b far
      → or_cause regions later ≡ cause_of_line cmp matching (LinkLine one two first back) s
  by_ends one two first back s a b near far regions later a_is b_is near_is far_is regions_is later_is =
      ap (λ r. or_cause r later) regions_is
      ∙ ap (or_cause (regions_cause a near b far)) later_is
      ∙ ap (λ x. or_cause (regions_cause a x b far) (later_cause cmp matching one two first back s a x b far)) near_is
      ∙ ap (λ x. or_cause (regions_cause a (end_region a b) b x) (later_cause cmp matching one two first back s a (end_region a b) b x)) far_is
      ∙ ends_cause one two first back s a b a_is b_is
