-- An open link is taken out of a fabric of trees: its two faces are plain then, and all that is true of trees is so of
-- what is left.
use Rattle.std.proofs.Common.{◌≡◌, ℕ, ◌-◌, ◌≤◌, ◌<◌, Bool, true, false, ◌&&◌, ◌||◌, ◌==◌, not, List, [], ◌∷◌, length, filter, Option, Some, None, refl, sym, ap, ◌∙◌, subst, arith, eq-eqb, eqb-true, ne_eqb, ⊎_elim}
use Rattle.std.proofs.lemmas.Bool.{and_from, and_parts, or_cases, or_left, or_right}
use Rattle.std.specs.List.{list_any}
use Rattle.std.specs.declared.cmp.Ordering.{Ordering}
use Rattle.zt_protocol.specs.declared.messages.Message.{Message}
use Rattle.zt_model.specs.Fabric.{Fabric, Link, at_nth}
use Rattle.zt_model.specs.Linking.{is_end_of, waiting_of}
use Rattle.zt_model.specs.Lists.{has_id, nth, without_id}
use Rattle.zt_model.specs.Rows.{ById}
use Rattle.zt_model.specs.Transcript.{Each, face_numbered}
use Rattle.zt_laws.specs.Order.{FabricIsInOrder}
use Rattle.zt_laws.proofs.Lists.{any-filter, any_alike, by_test, each_filter, never, of_cond}
use Rattle.zt_theorem_soundness.proofs.ById.{at_without_other}
use Rattle.zt_theorem_tree_invariant.specs.Facts.{JointAgrees, TreesAgree}
use Rattle.zt_theorem_tree_invariant.specs.Joints.{EndsRise, are_joined, joins}
use Rattle.zt_theorem_tree_invariant.proofs.Quiet.{joins_back}

-- ---- lists of links

abbrev pub closed : Link → Link
closed link = record link { is_open = false }

ends_lower : (low high : ℕ) (links : List Link) → low ≤ high → EndsRise high links → EndsRise low links
ends_lower low high [] le rise = tt
ends_lower low high (link ∷ links) le rise = let one : high < link.one = rise.0 in (omega arith, rise.1, rise.2)

ends_filter : (p : Link → Bool) (low : ℕ) (links : List Link) → EndsRise low links → EndsRise low (filter p links)
ends_filter p low [] rise = tt
ends_filter p low (link ∷ links) rise =
    let one : low < link.one = rise.0 in
    let two : link.one < link.two = rise.1 in
    let rest = ends_filter p link.two links rise.2 in
    of_cond (EndsRise low) (p link) (link ∷ filter p links) (filter p links) (λ _. (one, two, rest)) (λ _. ends_lower low link.two (filter p links) (omega arith) rest)

pub ends_closed : (n low : ℕ) (links : List Link) → EndsRise low links → EndsRise low (at_nth n closed links)
ends_closed n low [] rise = tt
ends_closed n low (link ∷ links) rise = of_cond (EndsRise low) (n == 1) (closed link ∷ links) (link ∷ at_nth (n - 1) closed links) (λ _. rise) (λ _. (rise.0, rise.1, ends_closed (n - 1) link.two links rise.2))

pub each_closed : (P : Link → Type 0) → ((link : Link) → P link → P (closed link)) → (n : ℕ) (links : List Link) → Each P links → Each P (at_nth n closed links)
each_closed P still n [] all = tt
each_closed P still n (link ∷ links) all = of_cond (Each P) (n == 1) (closed link ∷ links) (link ∷ at_nth (n - 1) closed links) (λ _. (still link all.0, all.1)) (λ _. (all.0, each_closed P still (n - 1) links all.1))

-- the ends of a link that is listed
ends_listed : (low n : ℕ) (links : List Link) (l : Link) → EndsRise low links → nth n links ≡ Some l → (low < l.one) × (l.one < l.two)
ends_listed low n [] l rise at_ = cc
ends_listed low n (link ∷ links) l rise at_ =
    by_test (n == 1)
    (λ here. let first : Some link ≡ Some l = rw here at at_ in let is : link ≡ l = cc in subst (λ (k : Link). (low < k.one) × (k.one < k.two)) is (rise.0, rise.1))
    (λ here.
    let rest = ends_listed link.two (n - 1) links l rise.2 (rw here at at_) in
    let one : low < link.one = rise.0 in
    let two : link.one < link.two = rise.1 in
    let three : link.two < l.one = rest.0 in
    (omega arith, rest.1))

joined_above : (low a b : ℕ) (links : List Link) → EndsRise low links → list_any (λ link. link.is_open && joins a b link) links ≡ true → low < a
joined_above low a b [] rise some = never some refl
joined_above low a b (link ∷ links) rise some =
    let one : low < link.one = rise.0 in
    let two : link.one < link.two = rise.1 in
    ⊎_elim
    (λ here.
    ⊎_elim
    (λ straight. let is : a ≡ link.one = eqb-true a link.one (and_parts (a == link.one) (b == link.two) straight).0 in omega arith)
    (λ crossed. let is : a ≡ link.two = eqb-true a link.two (and_parts (a == link.two) (b == link.one) crossed).0 in omega arith)
    (or_cases ((a == link.one) && (b == link.two)) ((a == link.two) && (b == link.one)) (and_parts link.is_open (joins a b link) here).1))
    (λ there. let more : link.two < a = joined_above link.two a b links rise.2 there in omega arith)
    (or_cases (link.is_open && joins a b link) (list_any (λ l. l.is_open && joins a b l) links) some)

-- a face apart from a link's
abbrev pub Apart : ℕ → Link → Type 0
Apart a link = ((a == link.one) ≡ false) × ((a == link.two) ≡ false)

-- once a link is closed, no open one has its faces
pub apart_from : (low n a b : ℕ) (links : List Link) (l : Link) → EndsRise low links → nth n links ≡ Some l → list_any (λ link. link.is_open && joins a b link) (at_nth n closed links) ≡ true → Apart a l
apart_from low n a b [] l rise at_ some = cc
apart_from low n a b (link ∷ links) l rise at_ some =
    by_test (n == 1)
    (λ here.
    let first : Some link ≡ Some l = rw here at at_ in
    let is : link ≡ l = cc in
    let rest : list_any (λ link. link.is_open && joins a b link) links ≡ true = rw here at some in
    let above : link.two < a = joined_above link.two a b links rise.2 rest in
    let two : link.one < link.two = rise.1 in
    subst (Apart a) is (ne_eqb a link.one (λ e. omega arith), ne_eqb a link.two (λ e. omega arith)))
    (λ here.
    let at_l : nth (n - 1) links ≡ Some l = rw here at at_ in
    let some_ : ((link.is_open && joins a b link) || list_any (λ link. link.is_open && joins a b link) (at_nth (n - 1) closed links)) ≡ true = rw here at some in
    let l_ends = ends_listed link.two (n - 1) links l rise.2 at_l in
    let l_one : link.two < l.one = l_ends.0 in
    let l_two : l.one < l.two = l_ends.1 in
    let two : link.one < link.two = rise.1 in
    ⊎_elim
    (λ own.
    let within : a ≤ link.two = ⊎_elim (λ straight. let is : a ≡ link.one = eqb-true a link.one (and_parts (a == link.one) (b == link.two) straight).0 in omega arith) (λ crossed. let is : a ≡ link.two = eqb-true a link.two (and_parts (a == link.two) (b == link.one) crossed).0 in omega arith)
    (or_cases ((a == link.one) && (b == link.two)) ((a == link.two) && (b == link.one)) (and_parts link.is_open (joins a b link) own).1) in
    (ne_eqb a l.one (λ e. omega arith), ne_eqb a l.two (λ e. omega arith)))
    (λ there. apart_from link.two (n - 1) a b links l rise.2 at_l there)
    (or_cases (link.is_open && joins a b link) (list_any (λ link. link.is_open && joins a b link) (at_nth (n - 1) closed links)) some_))

-- a link that joins others stays
pub still_joined : (n a b : ℕ) (links : List Link) (l : Link) → nth n links ≡ Some l → Apart a l → list_any (λ link. link.is_open && joins a b link) links ≡ true → list_any (λ link. link.is_open && joins a b link) (at_nth n closed links) ≡ true
still_joined n a b [] l at_ apart some = some
still_joined n a b (link ∷ links) l at_ apart some =
    by_test (n == 1)
    (λ here.
    let first : Some link ≡ Some l = rw here at at_ in
    let is : link ≡ l = cc in
    rw here
    (⊎_elim
    (λ own.
    ⊎_elim (λ straight. never (ap (λ (k : Link). a == k.one) (sym is) ∙ (and_parts (a == link.one) (b == link.two) straight).0) apart.0) (λ crossed. never (ap (λ (k : Link). a == k.two) (sym is) ∙ (and_parts (a == link.two) (b == link.one) crossed).0) apart.1)
    (or_cases ((a == link.one) && (b == link.two)) ((a == link.two) && (b == link.one)) (and_parts link.is_open (joins a b link) own).1))
    (λ there. there)
    (or_cases (link.is_open && joins a b link) (list_any (λ link. link.is_open && joins a b link) links) some)))
    (λ here.
    rw here
    (⊎_elim (λ own. or_left (link.is_open && joins a b link) (list_any (λ link. link.is_open && joins a b link) (at_nth (n - 1) closed links)) own)
    (λ there. or_right (link.is_open && joins a b link) (list_any (λ link. link.is_open && joins a b link) (at_nth (n - 1) closed links)) (still_joined (n - 1) a b links l (rw here at at_) apart there))
    (or_cases (link.is_open && joins a b link) (list_any (λ link. link.is_open && joins a b link) links) some)))

-- one that is joined was so
pub was_joined : (n a b : ℕ) (links : List Link) → list_any (λ link. link.is_open && joins a b link) (at_nth n closed links) ≡ true → list_any (λ link. link.is_open && joins a b link) links ≡ true
was_joined n a b [] some = some
was_joined n a b (link ∷ links) some =
    by_test (n == 1)
    (λ here. or_right (link.is_open && joins a b link) (list_any (λ link. link.is_open && joins a b link) links) (rw here at some))
    (λ here.
    let some_ : ((link.is_open && joins a b link) || list_any (λ link. link.is_open && joins a b link) (at_nth (n - 1) closed links)) ≡ true = rw here at some in
    ⊎_elim (λ own. or_left (link.is_open && joins a b link) (list_any (λ link. link.is_open && joins a b link) links) own) (λ there. or_right (link.is_open && joins a b link) (list_any (λ link. link.is_open && joins a b link) links) (was_joined (n - 1) a b links there))
    (or_cases (link.is_open && joins a b link) (list_any (λ link. link.is_open && joins a b link) (at_nth (n - 1) closed links)) some_))

-- closing leaves ends
pub ends_were : (n a : ℕ) (links : List Link) → list_any (is_end_of a) (at_nth n closed links) ≡ true → list_any (is_end_of a) links ≡ true
ends_were n a [] some = some
ends_were n a (link ∷ links) some =
    by_test (n == 1)
    (λ here. rw here at some)
    (λ here.
    let some_ : (is_end_of a link || list_any (is_end_of a) (at_nth (n - 1) closed links)) ≡ true = rw here at some in
    ⊎_elim (λ own. or_left (is_end_of a link) (list_any (is_end_of a) links) own) (λ there. or_right (is_end_of a link) (list_any (is_end_of a) links) (ends_were (n - 1) a links there)) (or_cases (is_end_of a link) (list_any (is_end_of a) (at_nth (n - 1) closed links)) some_))

-- an end of an open link is joined
joined_end : (a : ℕ) (links : List Link) → list_any (is_end_of a) (filter (λ link. link.is_open) links) ≡ true → (b : ℕ) × (list_any (λ link. link.is_open && joins a b link) links ≡ true)
joined_end a [] some = never some refl
joined_end a (link ∷ links) some =
    by_test link.is_open
    (λ opens.
    let some_ : (is_end_of a link || list_any (is_end_of a) (filter (λ link. link.is_open) links)) ≡ true = rw opens at some in
    ⊎_elim
    (λ own.
    ⊎_elim
    (λ one. (link.two, or_left (link.is_open && joins a link.two link) _ (and_from link.is_open (joins a link.two link) opens (or_left ((a == link.one) && (link.two == link.two)) _ (and_from (a == link.one) (link.two == link.two) one (eq-eqb link.two link.two refl))))))
    (λ two. (link.one, or_left (link.is_open && joins a link.one link) _ (and_from link.is_open (joins a link.one link) opens (or_right ((a == link.one) && (link.one == link.two)) _ (and_from (a == link.two) (link.one == link.one) two (eq-eqb link.one link.one refl))))))
    (or_cases (a == link.one) (a == link.two) own))
    (λ there. let rest = joined_end a links there in (rest.0, or_right (link.is_open && joins a rest.0 link) (list_any (λ l. l.is_open && joins a rest.0 l) links) rest.1))
    (or_cases (is_end_of a link) (list_any (is_end_of a) (filter (λ link. link.is_open) links)) some_))
    (λ shut. let rest = joined_end a links (rw shut at some) in (rest.0, or_right (link.is_open && joins a rest.0 link) (list_any (λ l. l.is_open && joins a rest.0 l) links) rest.1))

-- open links alone join
pub open_joins : (a b : ℕ) (links : List Link) → list_any (λ link. link.is_open && joins a b link) (filter (λ link. link.is_open) links) ≡ list_any (λ link. link.is_open && joins a b link) links
open_joins a b links = any-filter (λ link. link.is_open && joins a b link) (λ link. link.is_open) links ∙ any_alike (λ link. link.is_open && (link.is_open && joins a b link)) (λ link. link.is_open && joins a b link) (λ link. twice link.is_open (joins a b link)) links
  where
    twice : (p q : Bool) → (p && (p && q)) ≡ (p && q)
    twice true q = refl
    twice false q = refl

has_without : {A : Type 0} (k id : ℕ) (rows : ById A) → (id == k) ≡ false → has_id k rows ≡ true → has_id k (without_id id rows) ≡ true
has_without k id [] apart there = there
has_without k id (row ∷ rows) apart there =
    by_test (id == row.0)
    (λ here.
    let miss : (k == row.0) ≡ false = by_test (k == row.0) (λ own. never (eq-eqb id k (eqb-true id row.0 here ∙ sym (eqb-true k row.0 own))) apart) (λ e. e) in
    let rest : has_id k rows ≡ true = rw miss at there in
    rw here (has_without k id rows apart rest))
    (λ here. rw here (⊎_elim (λ own. or_left (k == row.0) (has_id k (without_id id rows)) own) (λ more. or_right (k == row.0) (has_id k (without_id id rows)) (has_without k id rows apart more)) (or_cases (k == row.0) (has_id k rows) there)))

pub turned_apart : (a b : ℕ) → (a == b) ≡ false → (b == a) ≡ false
turned_apart a b apart = ne_eqb b a (λ is. never (eq-eqb a b (sym is)) apart)

module _ {K : Type 0} (cmp : K → K → Ordering) (matching : K → K → Bool) (s : Fabric K) (agree : TreesAgree cmp matching s) (n : ℕ) (l : Link) (at_l : nth n s.links ≡ Some l) where
  -- the fabric without the link, and without those that were closed
  abbrev pub removed : Fabric K
  removed = record s { links = filter (λ link. link.is_open) (at_nth n closed s.links); waiting = without_id l.one (without_id l.two s.waiting) }

  pub removed_joins : (a b : ℕ) → are_joined removed a b ≡ true → list_any (λ link. link.is_open && joins a b link) (at_nth n closed s.links) ≡ true
  removed_joins a b joined = sym (open_joins a b (at_nth n closed s.links)) ∙ joined

  removed_was : (a b : ℕ) → are_joined removed a b ≡ true → are_joined s a b ≡ true
  removed_was a b joined = was_joined n a b s.links (removed_joins a b joined)

  pub removed_apart : (a b : ℕ) → are_joined removed a b ≡ true → Apart a l
  removed_apart a b joined = apart_from 0 n a b s.links l agree.links.rise at_l (removed_joins a b joined)

  waits_still : (a : ℕ) → Apart a l → waiting_of removed a ≡ waiting_of s a
  waits_still a apart =
      ap (λ (o : Option (List (Message K))). (let q : List (Message K) = elim o [ None ↦ [] | Some xs ↦ xs ] in q))
      (at_without_other a l.one (without_id l.two s.waiting) (turned_apart a l.one apart.0) ∙ at_without_other a l.two s.waiting (turned_apart a l.two apart.1))

  pub removed_in_order : FabricIsInOrder cmp matching s → FabricIsInOrder cmp matching removed
  removed_in_order fine = record { gateways = fine.gateways; places_exist = fine.places_exist }

  pub removed_agrees : TreesAgree cmp matching removed
  unfolding face_numbered
  removed_agrees = record {
    gateways = agree.gateways;
    joints = λ a b x y joined x_is y_is up.
        let back : are_joined removed b a ≡ true = any_alike (λ link. link.is_open && joins b a link) (λ link. link.is_open && joins a b link) (λ link. ap (λ t. link.is_open && t) (joins_back b a link)) removed.links ∙ joined in
        subst (λ ms. JointAgrees cmp x.face y.face ms (waiting_of removed b)) (sym (waits_still a (removed_apart a b joined)))
        (subst (λ ms. JointAgrees cmp x.face y.face (waiting_of s a) ms) (sym (waits_still b (removed_apart b a back))) (agree.joints a b x y (removed_was a b joined) x_is y_is up));
    links = record {
      meet = λ a b joined. let ends = agree.links.meet a b (removed_was a b joined) in record { one = ends.one; two = ends.two; one_is = ends.one_is; two_is = ends.two_is; one_leads_up = ends.one_leads_up };
      once = λ a b c one two. agree.links.once a b c (removed_was a b one) (removed_was a c two);
      stay = λ a x found some. let j = joined_end a (at_nth n closed s.links) some in record { other = j.0; joined = open_joins a j.0 (at_nth n closed s.links) ∙ j.1 };
      wait = λ a b joined.
          let apart = removed_apart a b joined in
          has_without a l.one (without_id l.two s.waiting) (turned_apart a l.one apart.0) (has_without a l.two s.waiting (turned_apart a l.two apart.1) (agree.links.wait a b (removed_was a b joined)));
      made = each_filter (λ link. (link.one ≤ length s.faces) × (link.two ≤ length s.faces)) (λ link. link.is_open) (at_nth n closed s.links) (each_closed (λ link. (link.one ≤ length s.faces) × (link.two ≤ length s.faces)) (λ link le. le) n s.links agree.links.made);
      rise = ends_filter (λ link. link.is_open) 0 (at_nth n closed s.links) (ends_closed n 0 s.links agree.links.rise);
      rows = each_filter (λ (row : ℕ × List (Message K)). row.0 ≤ length s.faces) (λ row. not (l.one == row.0)) (without_id l.two s.waiting) (each_filter (λ (row : ℕ × List (Message K)). row.0 ≤ length s.faces) (λ row. not (l.two == row.0)) s.waiting agree.links.rows);
    };
    forest = record { rank = agree.forest.rank; within = agree.forest.within; falls = λ a b x y joined. agree.forest.falls a b x y (removed_was a b joined) };
  }
