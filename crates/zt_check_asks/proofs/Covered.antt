-- Of all asks: where those are answered rightly that a turn may make or answer, all are.
use Rattle.std.proofs.Common.{◌≡◌, ◌⊎◌, inl, inr, ℕ, ◌+◌, ◌-◌, ◌≤◌, Bool, true, false, ◌&&◌, ◌||◌, ◌==◌, not, if◌then◌else◌, List, [], ◌∷◌, ◌++◌, Option, None, Some, refl, sym, ap, subst, ◌∙◌, ⊎_elim, arith, eqb-true, eq-eqb, ne_eqb}
use Rattle.std.proofs.lemmas.Bool.{and_from, and_parts, eqb-false, false≢true, or_left, or_parts, or_right}
use Rattle.std.specs.List.{list_all, list_any, flat_map}
use Rattle.std.specs.declared.cmp.Ordering.{Ordering}
use Rattle.zt_keys.specs.Test.{by_test}
use Rattle.zt_protocol.specs.Interest.{has_tokens}
use Rattle.zt_protocol.specs.declared.entries.Sent.{Sent}
use Rattle.zt_protocol.specs.declared.messages.Message.{Message}
use Rattle.zt_protocol.specs.declared.messages.Message.TheVariants.{DeclareToken, UndeclareToken, DeclareFinal, Interest, InterestFinal, DeclareSubscriber, DeclareQueryable}
use Rattle.zt_model.specs.Fabric.{Fabric, Node, Place, number_of_place, printed_for}
use Rattle.zt_model.specs.Lists.{is_some_and, nth, same}
use Rattle.zt_model.specs.Promises.{EachFace, EachGateway, answers_in}
use Rattle.zt_model.specs.Promises.{answered_by}
use Rattle.zt_model.specs.Rows.{Ask, Face, Rows}
use Rattle.zt_model.specs.Telling.{was_sent_as}
use Rattle.zt_model.specs.Transcript.{Each}
use Rattle.zt_check_fabric.specs.Placed.{IsPlaced, has_one_place, is_place}
use Rattle.zt_check_fabric.proofs.Numbered.{nth_zero}
use Rattle.zt_check_fabric.proofs.Numbers.{number_is}
use Rattle.zt_check_keeping.specs.Keeping.{at_gateway}
use Rattle.zt_check_keeping.proofs.Members.{Among, all_member, any_member, each_member, members_each}
use Rattle.zt_check_asks.specs.Answering.{answers_to, are_answered_at, are_answered_by, are_answered_for, are_answered_of, are_answered_under, asks_are_answered, is_answered, is_answered_at, is_answered_so, is_answered_under, is_of, is_that, made_is_answered, pending_is_answered}
use Rattle.zt_check_asks.specs.Calls.{PlainTold}
use Rattle.zt_check_asks.proofs.Asked.{if_so, members_all, unless}

-- ---- gateways by their numbers

pub gateway_each : {K : Type 0} (P : ℕ → Node K → Type 0) (i : ℕ) (nodes : List (Node K)) → ((m : ℕ) (node : Node K) → 1 ≤ m → nth m nodes ≡ Some node → P (i + m - 1) node) → EachGateway P i nodes
gateway_each P i [] h = tt
gateway_each P i (x ∷ nodes) h = (subst (λ k. P k x) own (h 1 x (omega arith) refl), gateway_each P (i + 1) nodes further)
  where
    own : i + 1 - 1 ≡ i
    own = omega arith

    further : (m : ℕ) (node : Node _) → 1 ≤ m → nth m nodes ≡ Some node → P (i + 1 + m - 1) node
    further m node real at =
        let later : (m + 1 == 1) ≡ false = ne_eqb (m + 1) 1 (λ e. absurd (omega (arith, real, e))) in
        let back : m + 1 - 1 ≡ m = omega arith in
        let index : i + (m + 1) - 1 ≡ i + 1 + m - 1 = omega arith in
        subst (λ k. P k node) index (h (m + 1) node (omega arith) (rw (later, back) at))

pub each_gateway : {K : Type 0} (P : ℕ → Node K → Type 0) (i m : ℕ) (nodes : List (Node K)) (node : Node K) → 1 ≤ m → EachGateway P i nodes → nth m nodes ≡ Some node → P (i + m - 1) node
each_gateway P i m [] node real each at = let e : None ≡ Some node = at in cc
each_gateway P i m (x ∷ nodes) node real each at =
    by_test (m == 1)
    (λ first. let own : i ≡ i + m - 1 = (let one : m ≡ 1 = eqb-true m 1 first in omega arith) in let is : x ≡ node = (let e : Some x ≡ Some node = rw first at at in cc) in subst (λ k. P k node) own (subst (P i) is each.0))
    (λ later.
    let more : m ≡ 1 → ⊥ = eqb-false m 1 later in
    let same_index : i + 1 + (m - 1) - 1 ≡ i + m - 1 = omega arith in
    subst (λ k. P k node) same_index (each_gateway P (i + 1) (m - 1) nodes node (omega arith) each.1 (rw later at at)))

pub is_real : {K : Type 0} (m : ℕ) (nodes : List (Node K)) (node : Node K) → nth m nodes ≡ Some node → 1 ≤ m
is_real m nodes node at =
    by_test (m == 0)
    (λ none. let e : None ≡ Some node = sym (ap (λ k. nth k nodes) (eqb-true m 0 none) ∙ nth_zero nodes) ∙ at in cc)
    (λ some. let apart : m ≡ 0 → ⊥ = eqb-false m 0 some in omega arith)

-- what is so of each face of each gateway
pub face_each : {K : Type 0} (P : ℕ → Rows K → Face K → Type 0) (s : Fabric K) → ((n : ℕ) (node : Node K) (f : Face K) → nth n s.gateways ≡ Some node → Among f node.rows.faces → P n node.rows f) → EachFace P s
face_each P s h =
    gateway_each (λ n (node : Node _). Each (P n node.rows) node.rows.faces) 1 s.gateways
    (λ m node real at.
    let index : m ≡ 1 + m - 1 = omega arith in
    subst (λ k. Each (P k node.rows) node.rows.faces) index (members_each (P m node.rows) node.rows.faces (λ f there. h m node f at there)))

pub each_face : {K : Type 0} (P : ℕ → Rows K → Face K → Type 0) (s : Fabric K) (n : ℕ) (node : Node K) (f : Face K) → EachFace P s → nth n s.gateways ≡ Some node → Among f node.rows.faces → P n node.rows f
each_face P s n node f each at there =
    let index : 1 + n - 1 ≡ n = omega arith in
    subst (λ k. P k node.rows f) index
    (each_member (P (1 + n - 1) node.rows) f node.rows.faces (each_gateway (λ k (x : Node _). Each (P k x.rows) x.rows.faces) 1 n s.gateways node (is_real n s.gateways node at) each at) there)

pub passes_at : {K : Type 0} (s : Fabric K) (n : ℕ) (node : Node K) (test : Rows K → Bool) → nth n s.gateways ≡ Some node → at_gateway s n test ≡ true → test node.rows ≡ true
passes_at s n node test at h = subst (λ (found : Option (Node _)). (elim found [ None ↦ true | Some x ↦ test x.rows ]) ≡ true) at h

pub at_passes : {K : Type 0} (s : Fabric K) (n : ℕ) (test : Rows K → Bool) → ((node : Node K) → nth n s.gateways ≡ Some node → test node.rows ≡ true) → at_gateway s n test ≡ true
at_passes s n test h = go (nth n s.gateways) refl
  where
    go : (found : Option (Node _)) → nth n s.gateways ≡ found → (elim found [ None ↦ true | Some x ↦ test x.rows ]) ≡ true
    go None is = refl
    go (Some node) is = h node is

-- ---- messages that answer an id

abbrev pub is_one : {K : Type 0} → ℕ → Message K → Bool
is_one id (DeclareToken token e (Some i) node) = id == i
is_one id _ = false

abbrev pub answers_one : {K : Type 0} → ℕ → ℕ → Sent K → Bool
answers_one number id m = (number == m.face) && is_one id m.message

not_one : {K : Type 0} (id : ℕ) (m : Message K) → is_one id m ≡ false → answered_by id m ≡ []
not_one id (DeclareToken token e (Some i) node) h = rw h refl
not_one id (DeclareToken token e None node) h = refl
not_one id (UndeclareToken token e node) h = refl
not_one id (DeclareFinal interest) h = refl
not_one id (Interest i mode options e) h = refl
not_one id (InterestFinal i) h = refl
not_one id (DeclareSubscriber i e interest) h = refl
not_one id (DeclareQueryable i e info interest) h = refl

none_answers : {K : Type 0} (number id : ℕ) (ms : List (Sent K)) → list_any (answers_one number id) ms ≡ false → answers_in id (printed_for number ms) ≡ []
unfolding printed_for
none_answers number id [] none = refl
none_answers number id (m ∷ ms) none =
    let parts = or_parts (answers_one number id m) (list_any (answers_one number id) ms) none in
    by_test (number == m.face)
    (λ own.
    let other : is_one id m.message ≡ false = rw own at parts.0 in
    rw own (ap (λ (es : List _). es ++ answers_in id (printed_for number ms)) (not_one id m.message other) ∙ none_answers number id ms parts.1))
    (λ other. rw other (none_answers number id ms parts.1))

module _ {K : Type 0} (cmp : K → K → Ordering) (matching : K → K → Bool) (s : Fabric K) (told : PlainTold K) where
  -- each ask of each face is answered rightly
  abbrev pub All : Type 0
  All = (n : ℕ) (node : Node K) (f : Face K) (row : ℕ × Ask K) → nth n s.gateways ≡ Some node → Among f node.rows.faces → Among row f.asks → is_answered cmp matching s told n node.rows f row ≡ true

  -- ---- what the tests say

  -- those of an id of a face
  at_says : (n k id : ℕ) (node : Node K) (f : Face K) (row : ℕ × Ask K) → are_answered_at cmp matching s told n k id ≡ true → nth n s.gateways ≡ Some node → Among f node.rows.faces → k ≡ f.number → Among row f.asks → id ≡ row.0
      → is_answered cmp matching s told n node.rows f row ≡ true
  at_says n k id node f row h at there number asked own =
      let faces = passes_at s n node (λ g. list_all (are_answered_of cmp matching s told n g k id) g.faces) at h in
      let face = all_member (are_answered_of cmp matching s told n node.rows k id) f node.rows.faces faces there in
      let rows = if_so (k == f.number) (list_all (is_answered_at cmp matching s told n node.rows f id) f.asks) face (eq-eqb k f.number number) in
      if_so (id == row.0) (is_answered cmp matching s told n node.rows f row) (all_member (is_answered_at cmp matching s told n node.rows f id) row f.asks rows asked) (eq-eqb id row.0 own)

  for_message : (id : ℕ) (m : Message K) (p : Place) → is_one id m ≡ true → are_answered_for cmp matching s told m (Some p) ≡ true → are_answered_at cmp matching s told p.gateway p.face id ≡ true
  for_message id (DeclareToken token e (Some i) node) p is h = subst (λ k. are_answered_at cmp matching s told p.gateway p.face k ≡ true) (sym (eqb-true id i is)) h
  for_message id (DeclareToken token e None node) p is h = absurd (false≢true is)
  for_message id (UndeclareToken token e node) p is h = absurd (false≢true is)
  for_message id (DeclareFinal interest) p is h = absurd (false≢true is)
  for_message id (Interest i mode options e) p is h = absurd (false≢true is)
  for_message id (InterestFinal i) p is h = absurd (false≢true is)
  for_message id (DeclareSubscriber i e interest) p is h = absurd (false≢true is)
  for_message id (DeclareQueryable i e info interest) p is h = absurd (false≢true is)

  by_message : (n k id : ℕ) (m : Sent K) → has_one_place n k s.faces ≡ true → answers_one (number_of_place s n k) id m ≡ true → are_answered_by cmp matching s told m ≡ true → are_answered_at cmp matching s told n k id ≡ true
  by_message n k id m one hit ok = go (nth m.face s.faces) (sym (number_is m.face n k s.faces one) ∙ parts.0) ok
    where
      parts : ((number_of_place s n k == m.face) ≡ true) × (is_one id m.message ≡ true)
      parts = and_parts (number_of_place s n k == m.face) (is_one id m.message) hit

      go : (found : Option Place) → is_some_and found (is_place n k) ≡ true → are_answered_for cmp matching s told m.message found ≡ true → are_answered_at cmp matching s told n k id ≡ true
      go None is h = absurd (false≢true is)
      go (Some p) is h =
          let own = and_parts (n == p.gateway) (k == p.face) is in
          subst (λ j. are_answered_at cmp matching s told j k id ≡ true) (sym (eqb-true n p.gateway own.0))
          (subst (λ j. are_answered_at cmp matching s told p.gateway j id ≡ true) (sym (eqb-true k p.face own.1))
          (for_message id m.message p parts.1 h))

  -- an ask that the turn doesn't make, declares nothing under a pending of, and answers nothing
  quiet : (n : ℕ) (g : Rows K) (f : Face K) (row : ℕ × Ask K) → is_that told.asking n f.number row.0 ≡ false → is_of told.pending n row.1 ≡ false → answers_to s told.sents n f.number row.0 ≡ []
      → is_answered cmp matching s told n g f row ≡ true
  quiet n g f row unmade apart none =
      or_right (not (has_tokens row.1.interest.options)) (is_answered_so cmp matching told n g f row.0 row.1 (answers_to s told.sents n f.number row.0))
      (subst (λ (es : List K). is_answered_so cmp matching told n g f row.0 row.1 es ≡ true) (sym none) (rw (unmade, apart) refl))

  module _ (placed : IsPlaced s) (checked : asks_are_answered cmp matching s told ≡ true) where
    messages : list_all (are_answered_by cmp matching s told) told.sents ≡ true
    messages = (and_parts (list_all (are_answered_by cmp matching s told) told.sents) (made_is_answered cmp matching s told told.asking && pending_is_answered cmp matching s told told.pending) checked).0

    others : (made_is_answered cmp matching s told told.asking ≡ true) × (pending_is_answered cmp matching s told told.pending ≡ true)
    others =
        and_parts (made_is_answered cmp matching s told told.asking) (pending_is_answered cmp matching s told told.pending)
        (and_parts (list_all (are_answered_by cmp matching s told) told.sents) (made_is_answered cmp matching s told told.asking && pending_is_answered cmp matching s told told.pending) checked).1

    of_made : (n : ℕ) (node : Node K) (f : Face K) (row : ℕ × Ask K) → nth n s.gateways ≡ Some node → Among f node.rows.faces → Among row f.asks → is_that told.asking n f.number row.0 ≡ true
        → is_answered cmp matching s told n node.rows f row ≡ true
    of_made n node f row at there asked that = go told.asking that others.0
      where
        go : (asking : Option (ℕ × ℕ × ℕ)) → is_that asking n f.number row.0 ≡ true → made_is_answered cmp matching s told asking ≡ true → is_answered cmp matching s told n node.rows f row ≡ true
        go None is h = absurd (false≢true is)
        go (Some a) is h =
            let own = and_parts (n == a.0) ((f.number == a.1) && (row.0 == a.2)) is in
            let both = and_parts (f.number == a.1) (row.0 == a.2) own.1 in
            at_says n a.1 a.2 node f row (subst (λ k. are_answered_at cmp matching s told k a.1 a.2 ≡ true) (sym (eqb-true n a.0 own.0)) h) at there (sym (eqb-true f.number a.1 both.0)) asked (sym (eqb-true row.0 a.2 both.1))

    of_pending : (n : ℕ) (node : Node K) (f : Face K) (row : ℕ × Ask K) → nth n s.gateways ≡ Some node → Among f node.rows.faces → Among row f.asks → is_of told.pending n row.1 ≡ true
        → is_answered cmp matching s told n node.rows f row ≡ true
    of_pending n node f row at there asked that = go told.pending that others.1
      where
        go : (pending : Option (ℕ × ℕ × ℕ)) → is_of pending n row.1 ≡ true → pending_is_answered cmp matching s told pending ≡ true → is_answered cmp matching s told n node.rows f row ≡ true
        go None is h = absurd (false≢true is)
        go (Some p) is h =
            let own = and_parts (n == p.0) (was_sent_as p.1 p.2 row.1) is in
            let gateway : n ≡ p.0 = eqb-true n p.0 own.0 in
            let faces = passes_at s p.0 node (λ g. list_all (are_answered_under cmp matching s told p g) g.faces) (subst (λ k. nth k s.gateways ≡ Some node) gateway at) h in
            let rows = all_member (are_answered_under cmp matching s told p node.rows) f node.rows.faces faces there in
            subst (λ k. is_answered cmp matching s told k node.rows f row ≡ true) (sym gateway)
            (if_so (was_sent_as p.1 p.2 row.1) (is_answered cmp matching s told p.0 node.rows f row)
            (all_member (is_answered_under cmp matching s told p node.rows f) row f.asks rows asked) own.1)

    pub all_say : All
    all_say n node f row at there asked =
        by_test (is_that told.asking n f.number row.0)
        (λ that. of_made n node f row at there asked that)
        (λ unmade. by_test (is_of told.pending n row.1)
        (λ that. of_pending n node f row at there asked that)
        (λ apart. by_test (list_any (answers_one (number_of_place s n f.number) row.0) told.sents)
        (λ some.
        let found = any_member (answers_one (number_of_place s n f.number) row.0) told.sents some in
        at_says n f.number row.0 node f row
        (by_message n f.number row.0 found.0 (each_face (λ k g x. has_one_place k x.number s.faces ≡ true) s n node f placed.one at there) found.1.1
        (all_member (are_answered_by cmp matching s told) found.0 told.sents messages found.1.0))
        at there refl asked refl)
        (λ none. quiet n node.rows f row unmade apart (none_answers (number_of_place s n f.number) row.0 told.sents none))))

  -- ---- and what they are told by

  module _ (all : All) where
    at_told : (n k id : ℕ) → are_answered_at cmp matching s told n k id ≡ true
    at_told n k id =
        at_passes s n (λ g. list_all (are_answered_of cmp matching s told n g k id) g.faces)
        (λ node at.
        members_all (are_answered_of cmp matching s told n node.rows k id) node.rows.faces
        (λ f there.
        unless (k == f.number) (list_all (is_answered_at cmp matching s told n node.rows f id) f.asks)
        (λ own.
        members_all (is_answered_at cmp matching s told n node.rows f id) f.asks
        (λ row asked. or_right (not (id == row.0)) (is_answered cmp matching s told n node.rows f row) (all n node f row at there asked)))))

    message_told : (m : Message K) (found : Option Place) → are_answered_for cmp matching s told m found ≡ true
    message_told m None = refl
    message_told (DeclareToken token e (Some i) node) (Some p) = at_told p.gateway p.face i
    message_told (DeclareToken token e None node) (Some p) = refl
    message_told (UndeclareToken token e node) (Some p) = refl
    message_told (DeclareFinal interest) (Some p) = refl
    message_told (Interest i mode options e) (Some p) = refl
    message_told (InterestFinal i) (Some p) = refl
    message_told (DeclareSubscriber i e interest) (Some p) = refl
    message_told (DeclareQueryable i e info interest) (Some p) = refl

    made_told : (asking : Option (ℕ × ℕ × ℕ)) → made_is_answered cmp matching s told asking ≡ true
    made_told None = refl
    made_told (Some a) = at_told a.0 a.1 a.2

    pending_told : (pending : Option (ℕ × ℕ × ℕ)) → pending_is_answered cmp matching s told pending ≡ true
    pending_told None = refl
    pending_told (Some p) =
        at_passes s p.0 (λ g. list_all (are_answered_under cmp matching s told p g) g.faces)
        (λ node at.
        members_all (are_answered_under cmp matching s told p node.rows) node.rows.faces
        (λ f there.
        members_all (is_answered_under cmp matching s told p node.rows f) f.asks
        (λ row asked. or_right (not (was_sent_as p.1 p.2 row.1)) (is_answered cmp matching s told p.0 node.rows f row) (all p.0 node f row at there asked))))

    pub all_told : asks_are_answered cmp matching s told ≡ true
    all_told =
        and_from (list_all (are_answered_by cmp matching s told) told.sents) (made_is_answered cmp matching s told told.asking && pending_is_answered cmp matching s told told.pending)
        (members_all (are_answered_by cmp matching s told) told.sents (λ m at. message_told m.message (nth m.face s.faces)))
        (and_from (made_is_answered cmp matching s told told.asking) (pending_is_answered cmp matching s told told.pending) (made_told told.asking) (pending_told told.pending))
