-- The faces of one gateway have the same numbers there and in scripts.
use Rattle.std.proofs.Common.{◌≡◌, ◌≢◌, ℕ, ◌+◌, ◌-◌, ◌≤◌, Bool, true, ◌==◌, List, [], ◌∷◌, length, map, Option, Some, None, refl, ap, ◌∙◌, arith, eqb-true}
use Rattle.std.proofs.lemmas.Bool.{eqb-false}
use Rattle.std.specs.declared.cmp.Ordering.{Ordering}
use Rattle.zt_protocol.specs.Plain.{PlainCall, NewSession, NewTransport, DeclareToken, UndeclareToken, Interest, InterestFinal, DeclareFinal, CloseFace, Expire, SetTrees, SetEntities}
use Rattle.zt_protocol.specs.declared.entries.Sent.{Sent}
use Rattle.zt_protocol.specs.declared.messages.Message.{Message}
use Rattle.zt_model.specs.Fabric.{CallAt, Fabric, Node, Place, call_at, call_face, number_from, with_call_face}
use Rattle.zt_model.specs.Lists.{first_where, nth}
use Rattle.zt_model.specs.Rows.{Face, Rows}
use Rattle.zt_model.specs.Says.{Sends}
use Rattle.zt_model.specs.Transcript.{Each}
use Rattle.zt_laws.specs.Order.{ListsAreInOrder}
use Rattle.zt_laws.specs.Sound.{EachFrom, RiseFrom, places_of}
use Rattle.zt_laws.proofs.Entries.{has_number}
use Rattle.zt_laws.proofs.Lists.{by_test, each_weaker, map_alike, never}
use Rattle.zt_laws.proofs.Numbered.{each_from_nth}
use Rattle.zt_laws.proofs.Places.{number_of_nth}
use Rattle.zt_laws.proofs.Sorting.{printed}

nth_there : {A : Type 0} (n : ℕ) (xs : List A) → 1 ≤ n → n ≤ length xs → (x : A) × (nth n xs ≡ Some x)
nth_there n [] real within = absurd (omega arith)
nth_there n (x ∷ xs) real within =
    by_test (n == 1)
    (λ here. (x, rw here refl))
    (λ here.
    let apart : n ≢ 1 = eqb-false n 1 here in
    let more = nth_there (n - 1) xs (omega arith) (omega arith) in
    (more.0, rw here more.1))

-- a face of a number is among those that were made
pub number_in_range : {K : Type 0} (k low made : ℕ) (fs : List (Face K)) → RiseFrom (λ f. f.number) low fs → Each (λ f. f.number ≤ made) fs → has_number k fs ≡ true → (low ≤ k) × (k ≤ made)
number_in_range k low made [] rise all there = never there refl
number_in_range k low made (f ∷ fs) rise all there =
    by_test (k == f.number)
    (λ own. let is : k ≡ f.number = eqb-true k f.number own in let least = rise.0 in let most = all.0 in (omega arith, omega arith))
    (λ own.
    let later = number_in_range k (f.number + 1) made fs rise.1 all.1 (rw own at there) in
    let least = rise.0 in
    let least_ = later.0 in
    (omega arith, later.1))

-- and no other number is one of a face
pub not_found : {K : Type 0} (n low made : ℕ) (fs : List (Face K)) → RiseFrom (λ f. f.number) low fs → Each (λ f. f.number ≤ made) fs → ((low ≤ n) × (n ≤ made) → ⊥) → first_where (λ (f : Face K). n == f.number) fs ≡ None
not_found n low made [] rise all out = refl
not_found n low made (f ∷ fs) rise all out =
    by_test (n == f.number)
    (λ own. let is : n ≡ f.number = eqb-true n f.number own in let least = rise.0 in let most = all.0 in absurd (out (omega arith, omega arith)))
    (λ own. let least = rise.0 in rw own (not_found n (f.number + 1) made fs rise.1 all.1 (λ within. let least_ = within.0 in out (omega arith, within.1))))

-- ---- places

abbrev pub Places : List Place → Type 0
Places faces = EachFrom (λ n p. p ≡ record { gateway = 1; face = n }) 1 faces

pub place_of : (n : ℕ) (faces : List Place) (p : Place) → Places faces → nth n faces ≡ Some p → p ≡ record { gateway = 1; face = n }
place_of n faces p places at_ = each_from_nth (λ n p. p ≡ record { gateway = 1; face = n }) 1 n n faces p (omega arith) places at_

-- a number in the range has its place
pub placed_there : (n : ℕ) (faces : List Place) → Places faces → 1 ≤ n → n ≤ length faces → nth n faces ≡ Some (record { gateway = 1; face = n })
placed_there n faces places real within =
    let there = nth_there n faces real within in
    there.1 ∙ ap Some (place_of n faces there.0 places there.1)

pub number_same : (n : ℕ) (faces : List Place) → Places faces → RiseFrom (λ p. p.face) 1 (places_of 1 faces) → 1 ≤ n → n ≤ length faces → number_from 1 1 n faces ≡ n
number_same n faces places rises real within = number_of_nth n faces (record { gateway = 1; face = n }) rises (placed_there n faces places real within)

-- what is printed for one gateway alone
abbrev pub sent_alone : {K : Type 0} → ℕ × Message K → Sent K
sent_alone m = record { gateway = 1; face = m.0; message = m.1 }

pub printed_alone : {K : Type 0} (faces : List Place) (ss : Sends K) → Places faces → RiseFrom (λ p. p.face) 1 (places_of 1 faces) → Each (λ s. (1 ≤ s.0) × (s.0 ≤ length faces)) ss → map (printed faces 1) ss ≡ map sent_alone ss
printed_alone faces ss places rises all =
    map_alike (printed faces 1) sent_alone ss
    (each_weaker (λ s. (1 ≤ s.0) × (s.0 ≤ length faces)) (λ s. printed faces 1 s ≡ sent_alone s)
    (λ s within. ap (λ k. record { gateway = 1; face = k; message = s.1 }) (number_same s.0 faces places rises within.0 within.1)) ss all)

-- ---- calls

-- a call that names a face by the number that it has at the gateway
pub own_face : {K : Type 0} (c : PlainCall K) (n : ℕ) → call_face c ≡ Some n → with_call_face n c ≡ c
own_face (NewSession first) n is = refl
own_face (NewTransport zid whatami region bound first) n is = refl
own_face (DeclareToken m id e node interest) n is = let same : n ≡ m = cc in ap (λ k. with_call_face k (DeclareToken m id e node interest)) same
own_face (UndeclareToken m id given node) n is = let same : n ≡ m = cc in ap (λ k. with_call_face k (UndeclareToken m id given node)) same
own_face (Interest m id mode options e) n is = let same : n ≡ m = cc in ap (λ k. with_call_face k (Interest m id mode options e)) same
own_face (InterestFinal m id) n is = let same : n ≡ m = cc in ap (λ k. with_call_face k (InterestFinal m id)) same
own_face (DeclareFinal m id) n is = let same : n ≡ m = cc in ap (λ k. with_call_face k (DeclareFinal m id)) same
own_face (CloseFace m) n is = let same : n ≡ m = cc in ap (λ k. with_call_face k (CloseFace m)) same
own_face (Expire now) n is = refl
own_face (SetTrees region t) n is = refl
own_face (SetEntities m subscribers queryables) n is = let same : n ≡ m = cc in ap (λ k. with_call_face k (SetEntities m subscribers queryables)) same

abbrev pub at_one : {K : Type 0} → Node K → PlainCall K → Option (CallAt K)
at_one node c = Some (record { gateway = 1; rows = node.rows; call = c })

pub called_at_one : {K : Type 0} (s : Fabric K) (node : Node K) (c : PlainCall K) → s.gateways ≡ node ∷ [] → call_at s 1 c ≡ at_one node c
called_at_one {K = K} s node c is =
    ap (λ (gs : List (Node K)). let at : Option (CallAt K) = elim (nth 1 gs) [ None ↦ None | Some found ↦ Some (record { gateway = 1; rows = found.rows; call = c }) ] in at) is

-- the lists are in order, so that what names a face of the rows names one that was made
pub numbers_made : {K : Type 0} (cmp : K → K → Ordering) (matching : K → K → Bool) (g : Rows K) (ss : Sends K) → ListsAreInOrder cmp matching g → Each (λ s. has_number s.0 g.faces ≡ true) ss → Each (λ s. (1 ≤ s.0) × (s.0 ≤ g.made)) ss
numbers_made cmp matching g ss lists all =
    each_weaker (λ s. has_number s.0 g.faces ≡ true) (λ s. (1 ≤ s.0) × (s.0 ≤ g.made)) (λ s there. number_in_range s.0 1 g.made g.faces lists.faces_rise lists.faces_made there) ss all
