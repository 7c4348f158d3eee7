-- What a call itself leaves of a face that it doesn't close: its asks, and rows that it neither replaces nor takes.
use Rattle.std.proofs.Common.{◌≡◌, ℕ, Bool, true, false, if◌then◌else◌, ◌&&◌, ◌==◌, not, [], ◌∷◌, Option, Some, None, refl, sym, ap, ◌∙◌, eqb-true, eq-eqb}
use Rattle.std.proofs.lemmas.Bool.{and_from, and_parts, or_left, or_right}
use Rattle.std.proofs.lemmas.Cmp.{ranked}
use Rattle.std.specs.Cmp.{IsTotalOrder}
use Rattle.std.specs.FinMap.Entries.{by_order, put}
use Rattle.std.specs.List.{list_any}
use Rattle.std.specs.Ordering.{nat_cmp}
use Rattle.std.specs.declared.cmp.Ordering.{Ordering}
use Rattle.std.specs.declared.cmp.Ordering.TheVariants.{Less, Equal, Greater}
use Rattle.zt_region.specs.Region.{is_north}
use Rattle.zt_protocol.specs.Interest.{is_current, is_future}
use Rattle.zt_protocol.specs.Plain.{PlainCall, NewSession, NewTransport, DeclareToken, UndeclareToken, Interest, InterestFinal, DeclareFinal, CloseFace, Expire, SetTrees, SetEntities}
use Rattle.zt_model.specs.Fabric.{call_face}
use Rattle.zt_model.specs.Hearing.{put_if}
use Rattle.zt_model.specs.Lists.{at_id, has_id, same, without_id}
use Rattle.zt_model.specs.Parts.{find_face}
use Rattle.zt_model.specs.Refusals.{call_causes, first_cause, is_interest_id_in_use, is_unknown_token}
use Rattle.zt_model.specs.Rows.{Ask, ById, Face, Rows}
use Rattle.zt_model.specs.Says.{altered, registered, registers, undeclared, unregistered}
use Rattle.zt_laws.specs.Sound.{opens_face}
use Rattle.zt_laws.proofs.Calls.{no_cause, not_on_face}
use Rattle.zt_laws.proofs.Lists.{any-filter, any_weaker, by_test, never, of_cond}
use Rattle.zt_theorem_soundness.proofs.ById.{at_has, at_put_other}
use Rattle.zt_theorem_tree_knowledge.proofs.Asking.{any_put_own}
use Rattle.zt_theorem_tree_invariant.proofs.Effects.{Acts, Hears, any_entities, own_declare, own_final, own_finish, own_interest, own_undeclare}
use Rattle.zt_theorem_tree_invariant.proofs.Lines.{hears_call, interest_from}
use Rattle.zt_theorem_tree_invariant.proofs.Saying.{TreeRows}
use Rattle.zt_theorem_tree_invariant.proofs.Standing.{LeavesOpen}
use Rattle.zt_theorem_tree_invariant.proofs.Steps.{found_at, not_true}
use Rattle.zt_theorem_tree_all_that_stays.specs.Steady.{has_row}

any_put_other : {A : Type 0} (test : ℕ × A → Bool) (id : ℕ) (v : A) (rows : ById A) → ((row : ℕ × A) → test row ≡ true → (id == row.0) ≡ false) → list_any test rows ≡ true → list_any test (put nat_cmp id v rows) ≡ true
any_put_other test id v [] apart some = cc
any_put_other test id v (row ∷ rows) apart some =
    elim (nat_cmp id row.0) as (λ o. nat_cmp id row.0 ≡ o → list_any test (by_order o ((id, v) ∷ row ∷ rows) ((row.0, v) ∷ rows) (row ∷ put nat_cmp id v rows)) ≡ true) [
      | Less ↦ λ is. or_right (test (id, v)) (list_any test (row ∷ rows)) some
      | Equal ↦ λ is.
          let here : (id == row.0) ≡ true = eq-eqb id row.0 (ranked id row.0 Equal (sym is)) in
          let fails : test row ≡ false = by_test (test row) (λ own. never here (apart row own)) (λ h. h) in
          or_right (test (row.0, v)) (list_any test rows) (rw fails at some)
      | Greater ↦ λ is. by_test (test row) (λ own. or_left (test row) (list_any test (put nat_cmp id v rows)) own) (λ own. or_right (test row) (list_any test (put nat_cmp id v rows)) (any_put_other test id v rows apart (rw own at some)))
    ] refl

module _ {K : Type 0} (cmp : K → K → Ordering) (matching : K → K → Bool) (total : IsTotalOrder cmp) where
  the_same : {A : Type 0} {u v : A} → Some u ≡ Some v → u ≡ v
  the_same h = cc

  -- the call, where it names the face, replaces no row of the id by another expression, and takes none
  abbrev pub SparesRow : PlainCall K → ℕ → ℕ → K → Type 0
  SparesRow (DeclareToken n k x node interest) p id e = n ≡ p → (id == k) ≡ true → same cmp e x ≡ true
  SparesRow (UndeclareToken n k given node) p id e = n ≡ p → (id == k) ≡ false
  SparesRow _ p id e = Unit {0}

  -- the face after what the call itself changes
  pub record IsLeft (c : PlainCall K) (g : Rows K) (p : ℕ) (f : Face K) : Type 0 where
    pub after : Face K
    pub altered_is : find_face p (altered cmp matching c g) ≡ Some after
    pub region : after.region ≡ f.region
    pub row : (id : ℕ) (e : K) → SparesRow c p id e → has_row cmp id e f.live ≡ true → has_row cmp id e after.live ≡ true
    pub ask : (id : ℕ) (a : Ask K) → at_id id f.asks ≡ Some a → at_id id after.asks ≡ Some a
    pub next : after.next ≡ f.next
    pub locals : after.locals ≡ f.locals

  put_row : (id k : ℕ) (e x : K) (rows : ById K) → ((id == k) ≡ true → same cmp e x ≡ true) → has_row cmp id e rows ≡ true → has_row cmp id e (put nat_cmp k x rows) ≡ true
  put_row id k e x rows same_ has =
      by_test (id == k)
      (λ here. any_put_own (λ row. (id == row.0) && same cmp e row.1) k x rows (and_from (id == k) (same cmp e x) here (same_ here)))
      (λ apart.
      any_put_other (λ row. (id == row.0) && same cmp e row.1) k x rows
      (λ row passes.
      let own : id ≡ row.0 = eqb-true id row.0 (and_parts (id == row.0) (same cmp e row.1) passes).0 in
      by_test (k == row.0) (λ is. never (eq-eqb id k (own ∙ sym (eqb-true k row.0 is))) apart) (λ h. h)) has)

  without_row : (id k : ℕ) (e : K) (rows : ById K) → (id == k) ≡ false → has_row cmp id e rows ≡ true → has_row cmp id e (without_id k rows) ≡ true
  without_row id k e rows apart has =
      any-filter (λ row. (id == row.0) && same cmp e row.1) (λ row. not (k == row.0)) rows
      ∙ any_weaker (λ row. (id == row.0) && same cmp e row.1) (λ row. not (k == row.0) && ((id == row.0) && same cmp e row.1))
      (λ row passes.
      let own : id ≡ row.0 = eqb-true id row.0 (and_parts (id == row.0) (same cmp e row.1) passes).0 in
      let miss : (k == row.0) ≡ false = by_test (k == row.0) (λ is. never (eq-eqb id k (own ∙ sym (eqb-true k row.0 is))) apart) (λ h. h) in
      and_from (not (k == row.0)) ((id == row.0) && same cmp e row.1) (ap not miss) passes) rows has

  -- an undeclaration that is accepted names an expression
  pub named_undeclared : (id : ℕ) (f : Face K) (o : Option K) → is_unknown_token id o f ≡ false → (x : K) × (undeclared cmp matching id o f ≡ Some x)
  named_undeclared id f None known = let there = found_at id f.live (not_true known) in (there.0, ap (λ o. (let r : Option K = elim o [ None ↦ None | Some k ↦ Some k ] in r)) there.1)
  named_undeclared id f (Some e) known = at_live (at_id id f.live) refl
    where
      at_live : (o : Option K) → at_id id f.live ≡ o → (x : K) × (undeclared cmp matching id (Some e) f ≡ Some x)
      at_live None at_ = (e, ap (λ o. (let r : Option K = elim o [ None ↦ Some e | Some k ↦ Some k ] in r)) at_)
      at_live (Some x) at_ = (x, ap (λ o. (let r : Option K = elim o [ None ↦ Some e | Some k ↦ Some k ] in r)) at_)

  heard_there : (c : PlainCall K) (g : Rows K) (p : ℕ) (f : Face K) → Hears cmp matching c g p f → IsLeft c g p f
  heard_there c g p f h = record {
    after = h.after;
    altered_is = h.altered_is;
    region = h.unmoved.region;
    row = λ id e spares has. ap (has_row cmp id e) h.unmoved.live ∙ has;
    ask = λ id a at_. ap (at_id id) h.unmoved.asks ∙ at_;
    next = h.unmoved.next;
    locals = h.unmoved.locals;
  }

  acted : (c : PlainCall K) (g : Rows K) (n p : ℕ) (f after : Face K) → n ≡ p → Acts cmp matching c g n f after → after.region ≡ f.region → ((id : ℕ) (e : K) → SparesRow c p id e → has_row cmp id e f.live ≡ true → has_row cmp id e after.live ≡ true) → ((id : ℕ) (a : Ask K) → at_id id f.asks ≡ Some a → at_id id after.asks ≡ Some a)
      → after.next ≡ f.next → after.locals ≡ f.locals → IsLeft c g p f
  acted c g n p f after is acts region_ row ask next_ locals_ = record { after = after; altered_is = ap (λ k. find_face k (altered cmp matching c g)) (sym is) ∙ acts.altered_is; region = region_; row = row; ask = ask; next = next_; locals = locals_ }

  by_name : (spent : Bool) (c : PlainCall K) (g : Rows K) (n p : ℕ) (f : Face K) → TreeRows cmp g → first_cause (call_causes cmp matching spent c g) ≡ None → opens_face c ≡ false → call_face c ≡ Some n → find_face p g ≡ Some f → (n ≡ p → find_face n g ≡ Some f → IsLeft c g p f) → IsLeft c g p f
  by_name spent c g n p f rows accepted still names found own =
      by_test (n == p)
      (λ here. let is = eqb-true n p here in own is (ap (λ k. find_face k g) is ∙ found))
      (λ apart. heard_there c g p f (hears_call cmp matching spent c g p f rows accepted still (λ k k_is is. let both : Some k ≡ Some n = sym k_is ∙ names in never (eq-eqb n p (sym (the_same both) ∙ is)) apart) found))

  pub is_left : (spent : Bool) (c : PlainCall K) (g : Rows K) (p : ℕ) (f : Face K) → TreeRows cmp g → first_cause (call_causes cmp matching spent c g) ≡ None → opens_face c ≡ false → LeavesOpen c p → find_face p g ≡ Some f → IsLeft c g p f
  unfolding call_causes
  is_left spent (NewSession first) g p f rows accepted still open_ found = never refl still
  is_left spent (NewTransport zid whatami region bound first) g p f rows accepted still open_ found = never refl still
  is_left spent (CloseFace n) g p f rows accepted still open_ found = heard_there (CloseFace n) g p f (hears_call cmp matching spent (CloseFace n) g p f rows accepted refl (open_ refl) found)
  is_left spent (DeclareToken n id e node interest) g p f rows accepted still open_ found =
      by_name spent (DeclareToken n id e node interest) g n p f rows accepted refl refl found
      (λ is own.
      acted (DeclareToken n id e node interest) g n p f (if registers f interest then registered id e f else f) is (own_declare cmp matching n id node e interest g f rows own)
      (of_cond (λ (h : Face K). h.region ≡ f.region) (registers f interest) (registered id e f) f (λ _. refl) (λ _. refl))
      (λ k x spares has. of_cond (λ (h : Face K). has_row cmp k x h.live ≡ true) (registers f interest) (registered id e f) f (λ _. put_row k id x e f.live (spares is) has) (λ _. has))
      (λ k a at_. of_cond (λ (h : Face K). at_id k h.asks ≡ Some a) (registers f interest) (registered id e f) f (λ _. at_) (λ _. at_))
      (of_cond (λ (h : Face K). h.next ≡ f.next) (registers f interest) (registered id e f) f (λ _. refl) (λ _. refl)) (of_cond (λ (h : Face K). h.locals ≡ f.locals) (registers f interest) (registered id e f) f (λ _. refl) (λ _. refl)))
  is_left spent (UndeclareToken n id given node) g p f rows accepted still open_ found =
      by_name spent (UndeclareToken n id given node) g n p f rows accepted refl refl found
      (λ is own.
      let three = no_cause _ _ _ (no_cause _ _ _ (no_cause _ _ _ accepted).1).1 in
      let named = named_undeclared id f given (not_on_face n g (is_unknown_token id given) f own three.0) in
      acted (UndeclareToken n id given node) g n p f (unregistered id f) is (own_undeclare cmp matching n id node given g f rows own named.0 named.1) refl (λ k x spares has. without_row k id x f.live (spares is) has) (λ k a at_. at_) refl refl)
  is_left spent (Interest n id mode options e) g p f rows accepted still open_ found =
      by_name spent (Interest n id mode options e) g n p f rows accepted refl refl found
      (λ is own.
      let from = interest_from cmp matching spent n id mode options e g rows accepted in
      let same_ : from.0 ≡ f = the_same (sym from.1.0 ∙ own) in
      let one = no_cause _ _ _ accepted in
      let two = no_cause _ _ _ one.1 in
      let three = no_cause _ _ _ two.1 in
      let four = no_cause _ _ _ three.1 in
      let five = no_cause _ _ _ four.1 in
      let free : is_interest_id_in_use id mode f ≡ false = not_on_face n g (is_interest_id_in_use id mode) f own five.0 in
      acted (Interest n id mode options e) g n p f _ is (own_interest cmp matching n id mode options e g f rows own (ap (λ (h : Face K). is_north h.region) (sym same_) ∙ from.1.1)) refl (λ k x spares has. has)
      (λ k a at_. other_ask _ k a at_ (is_current mode) (λ current is_id. never (or_right (is_future mode && has_id id f.held) (is_current mode && has_id id f.asks) (and_from (is_current mode) (has_id id f.asks) current (ap (λ i. has_id i f.asks) (sym (eqb-true k id is_id)) ∙ at_has k f.asks a at_))) free)) refl refl)
    where
      other_ask : (new : Ask K) (k : ℕ) (a : Ask K) → at_id k f.asks ≡ Some a → (b : Bool) → (b ≡ true → (k == id) ≡ true → ⊥) → at_id k (put_if b id new f.asks) ≡ Some a
      other_ask new k a at_ false apart = at_
      other_ask new k a at_ true apart = at_put_other k id new f.asks (by_test (k == id) (λ is. absurd (apart refl is)) (λ h. h)) ∙ at_
  is_left spent (InterestFinal n id) g p f rows accepted still open_ found =
      by_name spent (InterestFinal n id) g n p f rows accepted refl refl found
      (λ is own.
      let two = no_cause _ _ _ (no_cause _ _ _ accepted).1 in
      let there = found_at id f.held (not_true (not_on_face n g (λ h. not (has_id id h.held)) f own two.0)) in
      acted (InterestFinal n id) g n p f _ is (own_final cmp matching n id g f there.0 rows own there.1) refl (λ k x spares has. has) (λ k a at_. at_) refl refl)
  is_left spent (DeclareFinal n id) g p f rows accepted still open_ found =
      by_name spent (DeclareFinal n id) g n p f rows accepted refl refl found
      (λ is own.
      let h = own_finish cmp matching n id g f rows own in
      record {
        after = h.after;
        altered_is = ap (λ k. find_face k (altered cmp matching (DeclareFinal n id) g)) (sym is) ∙ h.altered_is;
        region = h.unmoved.region;
        row = λ k x spares has. ap (has_row cmp k x) h.unmoved.live ∙ has;
        ask = λ k a at_. ap (at_id k) h.unmoved.asks ∙ at_;
        next = h.unmoved.next;
        locals = h.unmoved.locals;
      })
  is_left spent (Expire now) g p f rows accepted still open_ found = heard_there (Expire now) g p f (hears_call cmp matching spent (Expire now) g p f rows accepted refl (λ k k_is is. let bad : None ≡ Some k = k_is in cc) found)
  is_left spent (SetTrees region t) g p f rows accepted still open_ found = heard_there (SetTrees region t) g p f (hears_call cmp matching spent (SetTrees region t) g p f rows accepted refl (λ k k_is is. let bad : None ≡ Some k = k_is in cc) found)
  is_left spent (SetEntities n subscribers queryables) g p f rows accepted still open_ found = heard_there (SetEntities n subscribers queryables) g p f (any_entities cmp matching n subscribers queryables g p f rows found)
