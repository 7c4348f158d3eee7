-- Climbing from gateway to gateway: any two gateways of a tree lie at or below a common one.
use Rattle.std.proofs.Common.{◌≡◌, ◌⊎◌, inl, inr, ℕ, Bool, true, ◌&&◌, ◌||◌, ◌==◌, not, List, [], ◌∷◌, Some, refl, sym, ap, ◌∙◌, subst, eq-eqb, eqb-true, ⊎_elim}
use Rattle.std.proofs.lemmas.Bool.{and_from, and_parts, or_cases, or_left, or_right}
use Rattle.std.specs.List.{list_any}
use Rattle.std.specs.declared.cmp.Ordering.{Ordering}
use Rattle.zt_region.specs.Region.{is_north}
use Rattle.zt_model.specs.Fabric.{Fabric, Link, Node, number_of_place}
use Rattle.zt_model.specs.Lists.{first_where, nth}
use Rattle.zt_model.specs.Parts.{find_face}
use Rattle.zt_model.specs.Rows.{Face}
use Rattle.zt_model.specs.Transcript.{FaceAt, face_numbered}
use Rattle.zt_model.specs.TreePromises.{IsInTree, Itself, Beyond, are_linked, is_at_gateway}
use Rattle.zt_laws.specs.Order.{FabricIsInOrder}
use Rattle.zt_laws.proofs.Entries.{found_where}
use Rattle.zt_laws.proofs.Hearing.{find_passes}
use Rattle.zt_laws.proofs.Lists.{any_weaker, by_test}
use Rattle.zt_theorem_tree_invariant.specs.Facts.{TreesAgree}
use Rattle.zt_theorem_tree_invariant.specs.Joints.{HasBothEnds, are_joined, joins}
use Rattle.zt_theorem_tree_invariant.proofs.Members.{is_there, number_is_its, only_one}
use Rattle.zt_theorem_tree_invariant.proofs.Quiet.{gateway_of, joined_back}

pub any_found : {A : Type 0} (p q : A → Bool) (xs : List A) (x : A) → first_where p xs ≡ Some x → q x ≡ true → list_any q xs ≡ true
any_found p q [] x found here = cc
any_found p q (y ∷ xs) x found here =
    by_test (p y)
    (λ own. let e : Some y ≡ Some x = rw own at found in let is : y ≡ x = cc in or_left (q y) (list_any q xs) (ap q is ∙ here))
    (λ own. or_right (q y) (list_any q xs) (any_found p q xs x (rw own at found) here))

module _ {K : Type 0} (s : Fabric K) where
  -- a step from a gateway to the one above it, by the faces of a joint
  pub record StepUp (g h : ℕ) : Type 0 where
    pub a : ℕ
    pub b : ℕ
    pub x : FaceAt K
    pub y : FaceAt K
    pub joined : are_joined s a b ≡ true
    pub x_is : face_numbered s a ≡ Some x
    pub y_is : face_numbered s b ≡ Some y
    pub up : is_north x.face.region ≡ true
    pub start : x.gateway ≡ g
    pub end_ : y.gateway ≡ h

  -- at or below
  pub data IsUnder : ℕ → ℕ → Type 0 where
    Same : (g : ℕ) → IsUnder g g
    Up : (g b c : ℕ) → IsUnder g b → StepUp b c → IsUnder g c

  pub at_gateway : (k g : ℕ) (x : FaceAt K) → face_numbered s k ≡ Some x → is_at_gateway s k g ≡ true → g ≡ x.gateway
  at_gateway k g x found at_ =
      let there = is_there s k x found in
      let here : (g == there.place.gateway) ≡ true = rw (there.place_is) at at_ in
      eqb-true g there.place.gateway here ∙ there.gateway_is

  pub is_at_its : (k : ℕ) (x : FaceAt K) → face_numbered s k ≡ Some x → is_at_gateway s k x.gateway ≡ true
  is_at_its k x found =
      let there = is_there s k x found in
      rw (there.place_is) (eq-eqb x.gateway there.place.gateway (sym there.gateway_is))

  -- a joint links its gateways
  pub joint_links : (a b : ℕ) (x y : FaceAt K) → are_joined s a b ≡ true → face_numbered s a ≡ Some x → face_numbered s b ≡ Some y → are_linked s x.gateway y.gateway ≡ true
  joint_links a b x y joined x_is y_is =
      any_weaker (λ link. link.is_open && joins a b link)
      (λ link. link.is_open && ((is_at_gateway s link.one x.gateway && is_at_gateway s link.two y.gateway) || (is_at_gateway s link.one y.gateway && is_at_gateway s link.two x.gateway)))
      (λ link h.
      let parts = and_parts link.is_open (joins a b link) h in
      and_from link.is_open _ parts.0 (
      ⊎_elim
      (λ one.
      let ends = and_parts (a == link.one) (b == link.two) one in
      or_left (is_at_gateway s link.one x.gateway && is_at_gateway s link.two y.gateway) (is_at_gateway s link.one y.gateway && is_at_gateway s link.two x.gateway)
      (and_from (is_at_gateway s link.one x.gateway) (is_at_gateway s link.two y.gateway) (subst (λ k. is_at_gateway s k x.gateway ≡ true) (eqb-true a link.one ends.0) (is_at_its a x x_is)) (subst (λ k. is_at_gateway s k y.gateway ≡ true) (eqb-true b link.two ends.1) (is_at_its b y y_is))))
      (λ two.
      let ends = and_parts (a == link.two) (b == link.one) two in
      or_right (is_at_gateway s link.one x.gateway && is_at_gateway s link.two y.gateway) (is_at_gateway s link.one y.gateway && is_at_gateway s link.two x.gateway)
      (and_from (is_at_gateway s link.one y.gateway) (is_at_gateway s link.two x.gateway) (subst (λ k. is_at_gateway s k y.gateway ≡ true) (eqb-true b link.one ends.1) (is_at_its b y y_is)) (subst (λ k. is_at_gateway s k x.gateway ≡ true) (eqb-true a link.two ends.0) (is_at_its a x x_is))))
      (or_cases ((a == link.one) && (b == link.two)) ((a == link.two) && (b == link.one)) parts.1)
      ))
      s.links joined

  -- a walk after a walk
  pub walk : (a b c : ℕ) → IsInTree s a b → IsInTree s b c → IsInTree s a c
  walk a b c one (Itself d) = one
  walk a b c one (Beyond d e f two more) = Beyond a e f (walk a d e one two) more

  pub under_trans : (a b c : ℕ) → IsUnder a b → IsUnder b c → IsUnder a c
  under_trans a b c one (Same d) = one
  under_trans a b c one (Up d e f two more) = Up a e f (under_trans a d e one two) more

  -- where a climb begins
  abbrev Begins : ℕ → ℕ → Type 0
  Begins b a = (b ≡ a) ⊎ ((c : ℕ) × StepUp b c × IsUnder c a)

  begins : (b a : ℕ) → IsUnder b a → Begins b a
  begins b a (Same g) = inl refl
  begins b a (Up g d e under more) =
      ⊎_elim (λ is. inr (e, subst (λ k. StepUp k e) (sym is) more, Same e)) (λ first. inr (first.0, first.1, Up first.0 d e first.2 more)) (begins g d under)

module _ {K : Type 0} (cmp : K → K → Ordering) (matching : K → K → Bool) (s : Fabric K) (fine : FabricIsInOrder cmp matching s) (agree : TreesAgree cmp matching s) where
  -- a linked gateway is just above or just below
  pub one_is_above : (b c : ℕ) → are_linked s b c ≡ true → StepUp s b c ⊎ StepUp s c b
  one_is_above b c linked =
      let test = λ (link : Link). link.is_open && ((is_at_gateway s link.one b && is_at_gateway s link.two c) || (is_at_gateway s link.one c && is_at_gateway s link.two b)) in
      let found = found_where test s.links linked in
      let link = found.0 in
      let passes = find_passes test s.links link found.1 in
      let parts = and_parts link.is_open ((is_at_gateway s link.one b && is_at_gateway s link.two c) || (is_at_gateway s link.one c && is_at_gateway s link.two b)) passes in
      let joined : are_joined s link.one link.two ≡ true = any_found test (λ l. l.is_open && joins link.one link.two l) s.links link found.1
      (and_from link.is_open (joins link.one link.two link) parts.0 (or_left ((link.one == link.one) && (link.two == link.two)) ((link.one == link.two) && (link.two == link.one)) (and_from (link.one == link.one) (link.two == link.two) (eq-eqb link.one link.one refl) (eq-eqb link.two link.two refl)))) in
      let ends = agree.links.meet link.one link.two joined in
      ⊎_elim
      (λ straight.
      let at_ = and_parts (is_at_gateway s link.one b) (is_at_gateway s link.two c) straight in
      by_ends link.one link.two b c joined ends (sym (at_gateway s link.one b ends.one ends.one_is at_.0)) (sym (at_gateway s link.two c ends.two ends.two_is at_.1)))
      (λ crossed.
      let at_ = and_parts (is_at_gateway s link.one c) (is_at_gateway s link.two b) crossed in
      swap (by_ends link.one link.two c b joined ends (sym (at_gateway s link.one c ends.one ends.one_is at_.0)) (sym (at_gateway s link.two b ends.two ends.two_is at_.1))))
      (or_cases (is_at_gateway s link.one b && is_at_gateway s link.two c) (is_at_gateway s link.one c && is_at_gateway s link.two b) parts.1)
    where
      swap : {A B : Type 0} → A ⊎ B → B ⊎ A
      swap (inl x) = inr x
      swap (inr y) = inl y

      by_ends : (k m g h : ℕ) → are_joined s k m ≡ true → (ends : HasBothEnds s k m) → ends.one.gateway ≡ g → ends.two.gateway ≡ h → StepUp s g h ⊎ StepUp s h g
      by_ends k m g h joined ends at_g at_h =
          by_test (is_north ends.one.face.region)
          (λ up. inl (record { a = k; b = m; x = ends.one; y = ends.two; joined = joined; x_is = ends.one_is; y_is = ends.two_is; up = up; start = at_g; end_ = at_h }))
          (λ down. inr (record { a = m; b = k; x = ends.two; y = ends.one; joined = joined_back s k m joined; x_is = ends.two_is; y_is = ends.one_is; up = ends.one_leads_up ∙ ap not down; start = at_h; end_ = at_g }))

  -- a gateway has one face that leads up
  pub one_up : (a b : ℕ) (x y : FaceAt K) → face_numbered s a ≡ Some x → face_numbered s b ≡ Some y → x.gateway ≡ y.gateway → is_north x.face.region ≡ true → is_north y.face.region ≡ true → a ≡ b
  one_up a b x y x_is y_is same_gateway x_up y_up =
      let at_x = is_there s a x x_is in
      let at_y = is_there s b y y_is in
      let rows_same : y.rows ≡ x.rows = (
      let e : Some at_y.node ≡ Some at_x.node = sym at_y.node_is ∙ ap (λ k. nth k s.gateways) (sym same_gateway) ∙ at_x.node_is in
      let n : at_y.node ≡ at_x.node = cc in
      sym at_y.rows_are ∙ ap (λ (z : Node K). z.rows) n ∙ at_x.rows_are
      ) in
      let y_found : find_face y.face.number x.rows ≡ Some y.face = ap (λ g. find_face y.face.number g) (sym rows_same) ∙ at_y.face_is in
      let faces_same : x.face ≡ y.face = only_one (λ (f : Face K). is_north f.region) (λ (f : Face K). x.face.number == f.number) (λ (f : Face K). y.face.number == f.number) x.rows.faces x.face y.face
      (gateway_of cmp matching s a x agree x_is).one_north at_x.face_is x_up y_found y_up in
      sym (number_is_its cmp matching s a x fine x_is) ∙ ap (λ (f : Face K). number_from_of x.gateway f.number) faces_same ∙ ap (λ g. number_from_of g y.face.number) same_gateway ∙ number_is_its cmp matching s b y fine y_is
    where
      number_from_of : ℕ → ℕ → ℕ
      number_from_of g f = number_of_place s g f

  -- and one gateway above it
  pub one_above : (g h k : ℕ) → StepUp s g h → StepUp s g k → h ≡ k
  one_above g h k one two =
      let lower : one.a ≡ two.a = one_up one.a two.a one.x two.x one.x_is two.x_is (one.start ∙ sym two.start) one.up two.up in
      let upper : one.b ≡ two.b = agree.links.once one.a one.b two.b one.joined (subst (λ a. are_joined s a two.b ≡ true) (sym lower) two.joined) in
      let e : Some one.y ≡ Some two.y = sym one.y_is ∙ ap (face_numbered s) upper ∙ two.y_is in
      let same_ : one.y ≡ two.y = cc in
      sym one.end_ ∙ ap (λ (z : FaceAt K). z.gateway) same_ ∙ two.end_

  -- both lie at or below one gateway
  pub record MeetAt (g h : ℕ) : Type 0 where
    pub top : ℕ
    pub one : IsUnder s g top
    pub two : IsUnder s h top

  pub meet_at : (g h : ℕ) → IsInTree s g h → MeetAt g h
  meet_at g h (Itself a) = record { top = a; one = Same a; two = Same a }
  meet_at g h (Beyond a b c walk_ linked) =
      let m = meet_at a b walk_ in
      ⊎_elim
      (λ above.
      ⊎_elim
      (λ here. record { top = c; one = Up a m.top c m.one (subst (λ k. StepUp s k c) here above); two = Same c })
      (λ first. record { top = m.top; one = m.one; two = subst (λ k. IsUnder s k m.top) (one_above b first.0 c first.1 above) first.2 })
      (begins s b m.top m.two))
      (λ below. record { top = m.top; one = m.one; two = under_trans s c b m.top (Up c c b (Same c) below) m.two })
      (one_is_above b c linked)
