-- Of all asks: where those get their finals that a turn may make, end or finish, all do, if none had ended before.
use Rattle.std.proofs.Common.{◌≡◌, ◌⊎◌, inl, inr, ℕ, ◌+◌, ◌-◌, Bool, true, false, ◌&&◌, ◌||◌, ◌==◌, not, if◌then◌else◌, List, [], ◌∷◌, length, filter, Option, None, Some, refl, sym, ap, subst, ◌∙◌, ⊎_elim, eqb-true, eq-eqb}
use Rattle.std.proofs.lemmas.Bool.{and_from, and_parts, false≢true, or_left, or_parts, or_right}
use Rattle.std.specs.List.{list_all, list_any}
use Rattle.std.specs.declared.cmp.Ordering.{Ordering}
use Rattle.zt_keys.specs.Test.{by_test}
use Rattle.zt_protocol.specs.Interest.{is_future}
use Rattle.zt_protocol.specs.declared.entries.Sent.{Sent}
use Rattle.zt_protocol.specs.declared.messages.Message.{Message}
use Rattle.zt_protocol.specs.declared.messages.Message.TheVariants.{DeclareToken, UndeclareToken, DeclareFinal, Interest, InterestFinal, DeclareSubscriber, DeclareQueryable}
use Rattle.zt_model.specs.Fabric.{Fabric, Node, Place, number_of_place, printed_for}
use Rattle.zt_model.specs.Lists.{is_some_and, nth}
use Rattle.zt_model.specs.Promises.{finals_in, is_final_of}
use Rattle.zt_model.specs.Routing.{stands}
use Rattle.zt_model.specs.Rows.{Ask, Face, Rows}
use Rattle.zt_model.specs.Transcript.{Each}
use Rattle.zt_check_fabric.specs.Placed.{IsPlaced, has_one_place, is_place}
use Rattle.zt_check_fabric.proofs.Numbers.{number_is}
use Rattle.zt_check_keeping.proofs.Members.{Among, all_member, any_member, each_member, member_any, members_each}
use Rattle.zt_check_asks.specs.Answering.{is_that}
use Rattle.zt_check_finals.specs.Ending.{Ended, is_ended}
use Rattle.zt_check_finals.specs.Finishing.{are_finished_at, are_finished_by, are_finished_for, are_finished_of, are_finished_under, ended_are_finished, ends_ask, finals_from, finals_one, Unended, is_finished, is_finished_at, is_finished_under, stands_after, touched_is_finished}
use Rattle.zt_check_asks.proofs.Asked.{if_so, members_all, unless}
use Rattle.zt_check_asks.proofs.Covered.{at_passes, each_face, face_each, passes_at}
use Rattle.zt_check_finals.proofs.Frame.{HasAsk, StaysOn, is_over}
use Rattle.zt_check_finals.proofs.Lines.{Made, OnOrNew, Over}

-- ---- messages that are finals of an id

none_final : {K : Type 0} (number id : ℕ) (ms : List (Sent K)) → list_any (finals_one number id) ms ≡ false → finals_from id number ms ≡ 0
unfolding printed_for
none_final number id [] none = refl
none_final number id (m ∷ ms) none =
    let parts = or_parts (finals_one number id m) (list_any (finals_one number id) ms) none in
    by_test (number == m.face)
    (λ own.
    let other : is_final_of id m.message ≡ false = rw own at parts.0 in
    rw (own, other) (none_final number id ms parts.1))
    (λ other. rw other (none_final number id ms parts.1))

-- no ask has ended, ask by ask
abbrev pub NoneEnded : {K : Type 0} → Fabric K → Type 0
NoneEnded {K} s = (n : ℕ) (node : Node K) (f : Face K) (row : ℕ × Ask K) → nth n s.gateways ≡ Some node → Among f node.rows.faces → Among row f.asks → list_any (stands node.rows) row.1.pendings ≡ true

pub none_ended : {K : Type 0} (s : Fabric K) → Unended s → NoneEnded s
none_ended {K} s unended n node f row at there asked =
    each_member (λ (r : ℕ × Ask K). list_any (stands node.rows) r.1.pendings ≡ true) row f.asks
    (each_face (λ k g x. Each (λ (r : ℕ × Ask K). list_any (stands g) r.1.pendings ≡ true) x.asks) s n node f unended at there) asked

pub each_unended : {K : Type 0} (s : Fabric K) → NoneEnded s → Unended s
each_unended {K} s none =
    face_each (λ k g x. Each (λ (r : ℕ × Ask K). list_any (stands g) r.1.pendings ≡ true) x.asks) s
    (λ n node f at there. members_each (λ (r : ℕ × Ask K). list_any (stands node.rows) r.1.pendings ≡ true) f.asks (λ row asked. none n node f row at there asked))

module _ {K : Type 0} (s : Fabric K) (finalised : Option (ℕ × ℕ × ℕ)) (ms : List (Sent K)) where
  -- each ask of each face gets its finals rightly
  abbrev pub AllFinished : Type 0
  AllFinished = (n : ℕ) (node : Node K) (f : Face K) (row : ℕ × Ask K) → nth n s.gateways ≡ Some node → Among f node.rows.faces → Among row f.asks → is_finished s finalised ms n node.rows f row ≡ true

  -- ---- what the tests say

  at_says : (n k id : ℕ) (node : Node K) (f : Face K) (row : ℕ × Ask K) → are_finished_at s finalised ms n k id ≡ true → nth n s.gateways ≡ Some node → Among f node.rows.faces → k ≡ f.number → Among row f.asks → id ≡ row.0
      → is_finished s finalised ms n node.rows f row ≡ true
  at_says n k id node f row h at there number asked own =
      let faces = passes_at s n node (λ g. list_all (are_finished_of s finalised ms n g k id) g.faces) at h in
      let face = all_member (are_finished_of s finalised ms n node.rows k id) f node.rows.faces faces there in
      let rows = if_so (k == f.number) (list_all (is_finished_at s finalised ms n node.rows f id) f.asks) face (eq-eqb k f.number number) in
      if_so (id == row.0) (is_finished s finalised ms n node.rows f row) (all_member (is_finished_at s finalised ms n node.rows f id) row f.asks rows asked) (eq-eqb id row.0 own)

  for_message : (id : ℕ) (m : Message K) (p : Place) → is_final_of id m ≡ true → are_finished_for s finalised ms m (Some p) ≡ true → are_finished_at s finalised ms p.gateway p.face id ≡ true
  for_message id (DeclareFinal i) p is h = subst (λ k. are_finished_at s finalised ms p.gateway p.face k ≡ true) (sym (eqb-true id i is)) h
  for_message id (DeclareToken token e interest node) p is h = absurd (false≢true is)
  for_message id (UndeclareToken token e node) p is h = absurd (false≢true is)
  for_message id (Interest i mode options e) p is h = absurd (false≢true is)
  for_message id (InterestFinal i) p is h = absurd (false≢true is)
  for_message id (DeclareSubscriber i e interest) p is h = absurd (false≢true is)
  for_message id (DeclareQueryable i e info interest) p is h = absurd (false≢true is)

  by_message : (n k id : ℕ) (m : Sent K) → has_one_place n k s.faces ≡ true → finals_one (number_of_place s n k) id m ≡ true → are_finished_by s finalised ms m ≡ true → are_finished_at s finalised ms n k id ≡ true
  by_message n k id m one hit ok = go (nth m.face s.faces) (sym (number_is m.face n k s.faces one) ∙ parts.0) ok
    where
      parts : ((number_of_place s n k == m.face) ≡ true) × (is_final_of id m.message ≡ true)
      parts = and_parts (number_of_place s n k == m.face) (is_final_of id m.message) hit

      go : (found : Option Place) → is_some_and found (is_place n k) ≡ true → are_finished_for s finalised ms m.message found ≡ true → are_finished_at s finalised ms n k id ≡ true
      go None is h = absurd (false≢true is)
      go (Some p) is h =
          let own = and_parts (n == p.gateway) (k == p.face) is in
          subst (λ j. are_finished_at s finalised ms j k id ≡ true) (sym (eqb-true n p.gateway own.0))
          (subst (λ j. are_finished_at s finalised ms p.gateway j id ≡ true) (sym (eqb-true k p.face own.1))
          (for_message id m.message p parts.1 h))

  -- an ask that goes on, and gets none
  quiet : (n : ℕ) (g : Rows K) (f : Face K) (row : ℕ × Ask K) → finals_from row.0 (number_of_place s n f.number) ms ≡ 0 → list_any (stands_after s ms n g) row.1.pendings ≡ true → is_that finalised n f.number row.0 ≡ false
      → is_finished s finalised ms n g f row ≡ true
  quiet n g f row none stood other = rw (none, stood, other) (last (is_future row.1.interest.mode))
    where
      last : (b : Bool) → (0 == (if b && false then 1 else 0)) ≡ true
      last true = refl
      last false = refl

  module _ (cmp : K → K → Ordering) (matching : K → K → Bool) (before : Fabric K) (touched : Option (ℕ × ℕ × ℕ)) (ended : List Ended) (placed : IsPlaced s) (unended : NoneEnded before)
      (goes : OnOrNew cmp matching touched ended before.gateways s.gateways) (within : (n k id : ℕ) → is_that finalised n k id ≡ true → is_that touched n k id ≡ true)
      (are_ended : list_all (ended_are_finished s finalised ms) ended ≡ true) (is_touched : touched_is_finished s finalised ms touched ≡ true) (are_printed : list_all (are_finished_by s finalised ms) ms ≡ true) where
    -- a pending of the gateway's ask may end by this
    abbrev ends_by : ℕ → ℕ × Ask K → Ended → Bool
    ends_by n row e = (n == e.0) && list_any (is_ended e) row.1.pendings

    of_touched : (n : ℕ) (node : Node K) (f : Face K) (row : ℕ × Ask K) → nth n s.gateways ≡ Some node → Among f node.rows.faces → Among row f.asks → is_that touched n f.number row.0 ≡ true → is_finished s finalised ms n node.rows f row ≡ true
    of_touched n node f row at there asked that = go touched that is_touched
      where
        go : (t : Option (ℕ × ℕ × ℕ)) → is_that t n f.number row.0 ≡ true → touched_is_finished s finalised ms t ≡ true → is_finished s finalised ms n node.rows f row ≡ true
        go None is h = absurd (false≢true is)
        go (Some a) is h =
            let own = and_parts (n == a.0) ((f.number == a.1) && (row.0 == a.2)) is in
            let both = and_parts (f.number == a.1) (row.0 == a.2) own.1 in
            at_says n a.1 a.2 node f row (subst (λ k. are_finished_at s finalised ms k a.1 a.2 ≡ true) (sym (eqb-true n a.0 own.0)) h) at there (sym (eqb-true f.number a.1 both.0)) asked (sym (eqb-true row.0 a.2 both.1))

    of_ended : (n : ℕ) (node : Node K) (f : Face K) (row : ℕ × Ask K) → nth n s.gateways ≡ Some node → Among f node.rows.faces → Among row f.asks → list_any (ends_by n row) ended ≡ true → is_finished s finalised ms n node.rows f row ≡ true
    of_ended n node f row at there asked some =
        let found = any_member (ends_by n row) ended some in
        let e = found.0 in
        let own = and_parts (n == e.0) (list_any (is_ended e) row.1.pendings) found.1.1 in
        let gateway : n ≡ e.0 = eqb-true n e.0 own.0 in
        let one = all_member (ended_are_finished s finalised ms) e ended are_ended found.1.0 in
        let faces = passes_at s e.0 node (λ g. list_all (are_finished_under s finalised ms e g) g.faces) (subst (λ k. nth k s.gateways ≡ Some node) gateway at) one in
        let rows = all_member (are_finished_under s finalised ms e node.rows) f node.rows.faces faces there in
        subst (λ k. is_finished s finalised ms k node.rows f row ≡ true) (sym gateway)
        (if_so (list_any (is_ended e) row.1.pendings) (is_finished s finalised ms e.0 node.rows f row) (all_member (is_finished_under s finalised ms e node.rows f) row f.asks rows asked) own.1)

    -- an ask that stood before goes on where none of its pendings may end
    goes_on : (n : ℕ) (node : Node K) (f : Face K) (row : ℕ × Ask K) → nth n s.gateways ≡ Some node → Among f node.rows.faces → Among row f.asks → is_that touched n f.number row.0 ≡ false → list_any (ends_by n row) ended ≡ false
        → list_any (stands_after s ms n node.rows) row.1.pendings ≡ true
    goes_on n node f row at there asked other none =
        ⊎_elim
        (λ old. from_old old.0 old.1.0 old.1.1)
        (λ new. absurd (subst (λ (fs : List (Face K)). Among f fs) new there))
        (goes n node at)
      where
        not_over : (p : ℕ × ℕ) → Among p row.1.pendings → list_any (is_over n p) ended ≡ true → ⊥
        not_over p listed over =
            let found = any_member (is_over n p) ended over in
            let own = and_parts (n == found.0.0) (is_ended found.0 p) found.1.1 in
            false≢true (sym none ∙ member_any (ends_by n row) found.0 ended found.1.0 (and_from (n == found.0.0) (list_any (is_ended found.0) row.1.pendings) own.0 (member_any (is_ended found.0) p row.1.pendings listed own.1)))

        from_old : (old : Node K) → nth n before.gateways ≡ Some old → StaysOn (Made cmp matching touched ended n) (Over cmp matching touched ended n) old.rows node.rows → list_any (stands_after s ms n node.rows) row.1.pendings ≡ true
        from_old old was stays =
            ⊎_elim
            (λ (has : HasAsk old.rows f.number row).
            let found = any_member (stands old.rows) row.1.pendings (unended n old has.face row was has.there has.asked) in
            ⊎_elim
            (λ still. member_any (stands_after s ms n node.rows) found.0 row.1.pendings found.1.0 (or_left (stands node.rows found.0) _ still))
            (λ over. absurd (not_over found.0 found.1.0 over))
            (stays.stands_on found.0 found.1.1))
            (λ made. absurd (false≢true (sym other ∙ made)))
            (stays.asks_on f row there asked)

    pub all_finished : AllFinished
    all_finished n node f row at there asked =
        by_test (is_that touched n f.number row.0)
        (λ that. of_touched n node f row at there asked that)
        (λ other. by_test (list_any (ends_by n row) ended)
        (λ some. of_ended n node f row at there asked some)
        (λ none. by_test (list_any (finals_one (number_of_place s n f.number) row.0) ms)
        (λ some.
        let found = any_member (finals_one (number_of_place s n f.number) row.0) ms some in
        at_says n f.number row.0 node f row
        (by_message n f.number row.0 found.0 (each_face (λ k g x. has_one_place k x.number s.faces ≡ true) s n node f placed.one at there) found.1.1 (all_member (are_finished_by s finalised ms) found.0 ms are_printed found.1.0))
        at there refl asked refl)
        (λ silent.
        quiet n node.rows f row (none_final (number_of_place s n f.number) row.0 ms silent) (goes_on n node f row at there asked other none)
        (by_test (is_that finalised n f.number row.0) (λ that. absurd (false≢true (sym other ∙ within n f.number row.0 that))) (λ apart. apart)))))

  -- ---- and what they are told by

  module _ (all : AllFinished) where
    at_told : (n k id : ℕ) → are_finished_at s finalised ms n k id ≡ true
    at_told n k id =
        at_passes s n (λ g. list_all (are_finished_of s finalised ms n g k id) g.faces)
        (λ node at.
        members_all (are_finished_of s finalised ms n node.rows k id) node.rows.faces
        (λ f there.
        unless (k == f.number) (list_all (is_finished_at s finalised ms n node.rows f id) f.asks)
        (λ own.
        members_all (is_finished_at s finalised ms n node.rows f id) f.asks
        (λ row asked. or_right (not (id == row.0)) (is_finished s finalised ms n node.rows f row) (all n node f row at there asked)))))

    message_told : (m : Message K) (found : Option Place) → are_finished_for s finalised ms m found ≡ true
    message_told m None = refl
    message_told (DeclareFinal i) (Some p) = at_told p.gateway p.face i
    message_told (DeclareToken token e interest node) (Some p) = refl
    message_told (UndeclareToken token e node) (Some p) = refl
    message_told (Interest i mode options e) (Some p) = refl
    message_told (InterestFinal i) (Some p) = refl
    message_told (DeclareSubscriber i e interest) (Some p) = refl
    message_told (DeclareQueryable i e info interest) (Some p) = refl

    pub printed_told : list_all (are_finished_by s finalised ms) ms ≡ true
    printed_told = members_all (are_finished_by s finalised ms) ms (λ m at. message_told m.message (nth m.face s.faces))

    pub touched_told : (t : Option (ℕ × ℕ × ℕ)) → touched_is_finished s finalised ms t ≡ true
    touched_told None = refl
    touched_told (Some a) = at_told a.0 a.1 a.2

    pub ended_told : (ended : List Ended) → list_all (ended_are_finished s finalised ms) ended ≡ true
    ended_told ended =
        members_all (ended_are_finished s finalised ms) ended
        (λ e listed.
        at_passes s e.0 (λ g. list_all (are_finished_under s finalised ms e g) g.faces)
        (λ node at.
        members_all (are_finished_under s finalised ms e node.rows) node.rows.faces
        (λ f there.
        members_all (is_finished_under s finalised ms e node.rows f) f.asks
        (λ row asked. or_right (not (list_any (is_ended e) row.1.pendings)) (is_finished s finalised ms e.0 node.rows f row) (all e.0 node f row at there asked)))))
