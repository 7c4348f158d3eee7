-- Declarations, undeclarations and tree tables leave a gateway sound.
use Rattle.std.proofs.Common.{◌≡◌, ℕ, Bool, true, false, not, if◌then◌else◌, ◌&&◌, ◌==◌, List, [], ◌∷◌, ◌++◌, filter, Option, Some, None, refl, sym, ap, ◌∙◌, subst, eqb-true}
use Rattle.std.proofs.lemmas.Bool.{and_from, and_parts, or_right}
use Rattle.std.specs.Cmp.{IsTotalOrder}
use Rattle.std.specs.List.{list_any}
use Rattle.std.specs.declared.cmp.Ordering.{Ordering}
use Rattle.std.specs.declared.cmp.Ordering.TheVariants.{Equal}
use Rattle.zt_region.specs.declared.region.Region.{Region}
use Rattle.zt_region.specs.declared.region.Region.TheVariants.{North}
use Rattle.zt_region.specs.declared.region.Zid.{Zid}
use Rattle.zt_region.specs.Region.{is_north, region_eq-same, zid_eq}
use Rattle.zt_protocol.specs.Interest.{is_future}
use Rattle.zt_protocol.specs.Plain.{Trees}
use Rattle.zt_protocol.specs.declared.messages.Message.{Message}
use Rattle.zt_model.specs.Hat.{hat_of}
use Rattle.zt_model.specs.Hearing.{heard_all, messages_for, rows_heard}
use Rattle.zt_model.specs.Lists.{at_id, first_where, has_id, is_some_and, same}
use Rattle.zt_model.specs.Refusals.{is_token_id_in_use}
use Rattle.zt_model.specs.Rows.{Ask, ById, Face, Pending, Rows}
use Rattle.zt_model.specs.Says.{Alter, Part, Say, answering, declaring, declaring_of, find_face, forget_to, hiding_undeclared, is_routed, registered, registers, tell_to, to_each, undeclared, undeclaring, undeclaring_of, unregistered, with_face}
use Rattle.zt_model.specs.Seen.{sees}
use Rattle.zt_model.specs.Telling.{answer_to, is_answered_by, was_sent_as}
use Rattle.zt_model.specs.Transcript.{Each}
use Rattle.zt_model.specs.Trees.{changing_table, counted_table, forgetting, greet_to, hiding, left_out, pass_to, showing, source_of, table_of, unpass_to, with_routed, with_table, without_left_out, without_routed}
use Rattle.zt_model.specs.Visible.{is_visible}
use Rattle.zt_laws.specs.Order.{HasRowsInOrder}
use Rattle.zt_laws.specs.Sound.{RiseFrom}
use Rattle.zt_laws.proofs.CallsOrder.{quiet_table, quiet_with_routed, quiet_without_left_out, quiet_without_routed}
use Rattle.zt_laws.proofs.Hearing.{each_ruled, find_each, find_passes, heard_all-live, heard_all-number, heard_all-region}
use Rattle.zt_laws.proofs.Keys.{same_itself}
use Rattle.zt_laws.proofs.Lists.{any_member, any_none, by_test, each_both, each_filter, each_weaker, never, of_cond}
use Rattle.zt_laws.proofs.PartsOrder.{each_of_map, orderly_each}
use Rattle.zt_laws.proofs.Registering.{messages_but_for}
use Rattle.zt_laws.proofs.Silent.{silent_unpass}
use Rattle.zt_laws.proofs.ToldOrder.{DrawsNothing, in_order_answer}
use Rattle.zt_laws.proofs.Undeclaring.{undeclared_only}
use Rattle.zt_theorem_soundness.specs.Ran.{ran}
use Rattle.zt_theorem_soundness.specs.Sound.{IsNamed, IsSoundBut, KeepsBut, PendingIsKnown, PendingsOfAskAreKnown, any_of, nothing_left, shown_from, told_from}
use Rattle.zt_theorem_soundness.proofs.Answered.{is_answered_later, keeps_answered_now}
use Rattle.zt_theorem_soundness.proofs.ById.{at_each, at_has, at_none_has, find_mapped}
use Rattle.zt_theorem_soundness.proofs.CallsRun.{visible_heard}
use Rattle.zt_theorem_soundness.proofs.Going.{IsQuietMessage, hears, ordered_altered, ordered_heard, sound_heard, sound_quiet, sound_routed, sound_rows, sound_rows_same, speaks_each}
use Rattle.zt_theorem_soundness.proofs.Keeping.{IsShown, keeps_less, keeps_more, stays_itself, visible_more}
use Rattle.zt_theorem_soundness.proofs.Parts.{Spares, all_named, each_greet, each_pass, makes_none_answer, nobody, sound_answered, sound_forgot, sound_hid, sound_registered, sound_shown, sound_tell, sound_unregistered, unpasses_routed}
use Rattle.zt_theorem_soundness.proofs.Running.{ran-append}
use Rattle.zt_theorem_soundness.proofs.Showing.{left_out_gone, routed_gone, routed_more}

module _ {K : Type 0} where
  -- nothing is spared
  pub spares_nothing : Spares {K = K} nobody (λ ss. ss)
  spares_nothing = record { quiet = λ ss all. all; silent = λ ss all. all; speaks = λ n ss _. refl }

  -- a token's source isn't the gateway itself
  pub source_is_other : (g : Rows K) (f : Face K) (node : ℕ) (source : Zid) → source_of g f node ≡ Some source → zid_eq source g.zid ≡ false
  unfolding source_of
  source_is_other g f node source is = by_row (first_where (λ l. (l.0 == f.number) && (l.1 == node)) (table_of g f.region).links) is
    where
      by_own : (zid : Zid) (b : Bool) → zid_eq zid g.zid ≡ b → (let o : Option Zid = if b then None else Some zid in o) ≡ Some source → zid_eq source g.zid ≡ false
      by_own zid true own found = cc
      by_own zid false own found = let one : zid ≡ source = cc in ap (λ (z : Zid). zid_eq z g.zid) (sym one) ∙ own

      by_row : (o : Option (ℕ × ℕ × Zid)) → elim o [ None ↦ None | Some l ↦ if zid_eq l.2 g.zid then None else Some l.2 ] ≡ Some source → zid_eq source g.zid ≡ false
      by_row None found = cc
      by_row (Some l) found = by_own l.2 (zid_eq l.2 g.zid) refl found

module _ {K : Type 0} (cmp : K → K → Ordering) (matching : K → K → Bool) (total : IsTotalOrder cmp) (equal_is_same : (a b : K) → cmp a b ≡ Equal → a ≡ b) where
  abbrev pub Sound : Rows K → Type 0
  Sound g = IsSoundBut cmp matching nobody nothing_left nothing_left g

  -- ---- declarations

  sound_declared : (unseen : Region → K → Bool) (n id : ℕ) (e : K) (region : Region) (from : Face K) (g : Rows K) → find_face n g ≡ Some from → from.region ≡ region → is_routed g from ≡ false → is_token_id_in_use cmp id e from ≡ false
      → ((own : Region) (x : K) → unseen own x ≡ true → shown_from cmp region e own x ≡ true)
      → IsSoundBut cmp matching nobody unseen nothing_left g
      → Sound (ran cmp (Alter (with_face n (registered id e)) ∷ Say (λ h. to_each (tell_to cmp matching h region e) h.faces) ∷ showing cmp region e) g)
  unfolding ran
  sound_declared unseen n id e region from g found one plain free covered_by sound =
      let h = with_face n (registered id e) g in
      let both = sound_registered cmp matching total equal_is_same unseen n id e from g found plain free (subst (λ (r : Region). (own : Region) (x : K) → unseen own x ≡ true → shown_from cmp r e own x ≡ true) (sym one) covered_by) sound in
      let shown = subst (λ (r : Region). IsShown cmp matching total equal_is_same r e h) one both.1 in
      let here = subst (λ (r : Region). IsSoundBut cmp matching nobody nothing_left (told_from cmp h r e) h) one both.0 in
      sound_shown cmp matching total equal_is_same region e (rows_heard cmp (to_each (tell_to cmp matching h region e) h.faces) h) (sound_tell cmp matching total equal_is_same region e h shown here)

  -- an ask whose pending asks for what is there now alone does so too
  none_later : (n id : ℕ) (e : K) (from : Face K) (g : Rows K) (asks : ById (Ask K)) → find_face n g ≡ Some from → (pending : Pending) → at_id id from.pendings ≡ Some pending → is_future pending.mode ≡ false → Each (PendingsOfAskAreKnown g) asks
      → list_any (is_answered_later cmp matching n id e) asks ≡ false
  none_later n id e from g asks found pending at_ now known =
      any_none (is_answered_later cmp matching n id e) asks
      (each_weaker (PendingsOfAskAreKnown g) (λ row. is_answered_later cmp matching n id e row ≡ false) (λ row known_. one row known_) asks known)
    where
      one : (row : ℕ × Ask K) → PendingsOfAskAreKnown g row → is_answered_later cmp matching n id e row ≡ false
      one row known_ =
          by_test (is_answered_later cmp matching n id e row)
          (λ later.
          let future = and_parts (is_future row.1.interest.mode) (is_answered_by cmp matching n id e row.1) later in
          let sent = (and_parts (was_sent_as n id row.1) _ future.1).0 in
          any_member (λ (p : ℕ × ℕ). PendingIsKnown g (record { mode = row.1.interest.mode; face = p.0; id = p.1 })) (λ p. (n == p.0) && (id == p.1)) row.1.pendings
          (each_of_map (PendingIsKnown g) (λ (p : ℕ × ℕ). record { mode = row.1.interest.mode; face = p.0; id = p.1 }) row.1.pendings known_) sent
          (λ p is passes.
          let parts = and_parts (n == p.0) (id == p.1) passes in
          let face_ : n ≡ p.0 = eqb-true n p.0 parts.0 in
          let id_ : id ≡ p.1 = eqb-true id p.1 parts.1 in
          let hit : (n == from.number) ≡ true = find_passes (λ f. n == f.number) g.faces from found in
          let named = find_each (λ f. (p.0 == f.number) ≡ true → IsNamed row.1.interest.mode p.1 f) (λ f. n == f.number) g.faces from is.named found (ap (λ k. k == from.number) (sym face_) ∙ hit) in
          let mode_ : pending.mode ≡ row.1.interest.mode = at_each (λ (v : Pending). v.mode ≡ row.1.interest.mode) p.1 from.pendings pending named.of_mode (ap (λ k. at_id k from.pendings) (sym id_) ∙ at_) in
          never (ap is_future mode_ ∙ future.0) now))
          (λ none_. none_)

  sound_answered_now : (n id : ℕ) (e : K) (from : Face K) (g : Rows K) → find_face n g ≡ Some from → (pending : Pending) → at_id id from.pendings ≡ Some pending → is_future pending.mode ≡ false → Sound g
      → Sound (rows_heard cmp (to_each (answer_to cmp matching n id e) g.faces) g)
  sound_answered_now n id e from g found pending at_ now sound =
      let ss = to_each (answer_to cmp matching n id e) g.faces in
      sound_heard cmp matching nobody nothing_left nothing_left nothing_left nothing_left ss g
      (ordered_heard cmp matching (λ h. to_each (answer_to cmp matching n id e) h.faces) g (orderly_each cmp matching (λ h f. answer_to cmp matching n id e f) (λ h f ordered. in_order_answer cmp total matching n id e f ordered)) sound.ordered)
      (all_named cmp matching ss g (makes_none_answer cmp matching total equal_is_same n id e g))
      (each_both (λ f. false ≡ false → messages_for f.number ss ≡ answer_to cmp matching n id e f) (λ f. Each (PendingsOfAskAreKnown g) f.asks) (λ f. is_routed g f ≡ false → false ≡ false → KeepsBut cmp matching nothing_left nothing_left g f → KeepsBut cmp matching nothing_left nothing_left g (hears cmp matching ss g f))
      (λ f one known plain _ right.
      subst (λ ms. KeepsBut cmp matching nothing_left nothing_left g (heard_all cmp g.moment ms f)) (sym (one refl))
      (keeps_answered_now cmp matching total equal_is_same g.moment n id e g f (none_later n id e from g f.asks found pending at_ now known) right))
      g.faces (speaks_each cmp matching nobody (answer_to cmp matching n id e) g sound.ordered) sound.named)
      sound

  -- a declaration outside router regions
  pub sound_plain : (n id : ℕ) (e : K) (interest : Option ℕ) (from : Face K) (g : Rows K) → find_face n g ≡ Some from → is_routed g from ≡ false
      → (registers from interest ≡ true → is_token_id_in_use cmp id e from ≡ false) → ((i : ℕ) → interest ≡ Some i → is_north from.region ≡ true) → Sound g
      → Sound (ran cmp (answering cmp matching n interest e from ++ (if registers from interest then declaring cmp matching n id e from ++ showing cmp from.region e else [])) g)
  unfolding ran rows_heard
  sound_plain n id e None from g found plain free north sound = sound_declared nothing_left n id e from.region from g found refl plain (free refl) (λ own x none_. never none_ refl) sound
  sound_plain n id e (Some i) from g found plain free north sound = by_pending (at_id i from.pendings) refl
    where
      parts : Bool → Bool → List (Part K)
      parts a b = (if a then Say (λ h. to_each (answer_to cmp matching n i e) h.faces) ∷ [] else []) ++ (if b then declaring cmp matching n id e from ++ showing cmp from.region e else [])

      by_both : (a b : Bool) → has_id i from.pendings ≡ a → registers from (Some i) ≡ b → Sound (ran cmp (parts a b) g) → Sound (ran cmp (answering cmp matching n (Some i) e from ++ (if registers from (Some i) then declaring cmp matching n id e from ++ showing cmp from.region e else [])) g)
      by_both a b has_ registers_ there =
          subst (λ c. Sound (ran cmp (parts c (registers from (Some i))) g)) (sym has_) (subst (λ c. Sound (ran cmp (parts a c) g)) (sym registers_) there)

      registered_as : (o : Option Pending) → at_id i from.pendings ≡ o → registers from (Some i) ≡ elim o [ None ↦ true | Some pending ↦ is_future pending.mode ]
      registered_as o at_ = ap (λ (p : Option Pending). elim p [ None ↦ true | Some pending ↦ is_future pending.mode ]) at_

      by_pending : (o : Option Pending) → at_id i from.pendings ≡ o → Sound (ran cmp (answering cmp matching n (Some i) e from ++ (if registers from (Some i) then declaring cmp matching n id e from ++ showing cmp from.region e else [])) g)
      by_pending None at_ =
          let registers_ = registered_as None at_ in
          by_both false true (at_none_has i from.pendings at_) registers_ (sound_declared nothing_left n id e from.region from g found refl plain (free registers_) (λ own x none_. never none_ refl) sound)
      by_pending (Some pending) at_ =
          by_test (is_future pending.mode)
          (λ later.
          let registers_ = registered_as (Some pending) at_ ∙ later in
          let ss = to_each (answer_to cmp matching n i e) g.faces in
          let now = hears cmp matching ss g from in
          let region_ = heard_all-region cmp g.moment (messages_for from.number ss) from in
          let live_ = heard_all-live cmp g.moment (messages_for from.number ss) from in
          let is_north_ : from.region ≡ North = region_eq-same from.region North (north i refl) in
          by_both true true (at_has i from.pendings pending at_) registers_
          (sound_declared (shown_from cmp North e) n id e from.region now (rows_heard cmp ss g) (found_heard ss) region_
          (routed_heard ss ∙ ap (λ (r : Region). (hat_of g.mode r).goes_by_trees) region_ ∙ plain)
          (ap (λ (rows : ById K). is_some_and (at_id id rows) (λ live. not (same cmp e live))) live_ ∙ free registers_)
          (λ own x is. ap (λ (r : Region). shown_from cmp r e own x) is_north_ ∙ is)
          (sound_answered cmp matching total equal_is_same n i e g sound)))
          (λ now. by_both true false (at_has i from.pendings pending at_) (registered_as (Some pending) at_ ∙ now) (sound_answered_now n i e from g found pending at_ now sound))
        where
          found_heard : (ss : List (ℕ × Message K)) → find_face n (rows_heard cmp ss g) ≡ Some (hears cmp matching ss g from)
          found_heard ss = find_mapped n (hears cmp matching ss g) g.faces from (λ f. heard_all-number cmp g.moment (messages_for f.number ss) f) found

          routed_heard : (ss : List (ℕ × Message K)) → is_routed (rows_heard cmp ss g) (hears cmp matching ss g from) ≡ (hat_of g.mode (hears cmp matching ss g from).region).goes_by_trees
          routed_heard ss = refl

  -- ---- undeclarations

  pub sound_undeclared : (n id : ℕ) (given : Option K) (from : Face K) (g : Rows K) → find_face n g ≡ Some from → Sound g → Sound (ran cmp (undeclaring cmp matching n id given from ++ hiding_undeclared cmp matching id given from) g)
  unfolding ran
  sound_undeclared n id given from g found sound = cases (undeclared cmp matching id given from) refl
    where
      cases : (o : Option K) → undeclared cmp matching id given from ≡ o
          → Sound (ran cmp (elim o [ None ↦ [] | Some e ↦ Alter (with_face n (unregistered id)) ∷ Say (λ h. to_each (forget_to cmp matching h from.region e) h.faces) ∷ [] ] ++ elim o [ None ↦ [] | Some e ↦ hiding cmp from.region e ]) g)
      cases None is = sound
      cases (Some e) is =
          let lives = find_each (λ f. RiseFrom (λ row. row.0) 0 f.live) (λ f. n == f.number) g.faces from (each_weaker HasRowsInOrder (λ f. RiseFrom (λ row. row.0) 0 f.live) (λ f rows. rows.live) g.faces sound.ordered.lists.rows) found in
          let h = with_face n (unregistered id) g in
          let one = sound_unregistered cmp matching total equal_is_same nobody n id e from g found (undeclared_only cmp matching id given e from lives is) sound in
          let two = sound_forgot cmp matching total equal_is_same nobody (λ ss. ss) from.region e [] h spares_nothing one in
          sound_hid cmp matching total equal_is_same nobody nothing_left (λ ss. ss) from.region e (rows_heard cmp (to_each (forget_to cmp matching h from.region e) h.faces) h) spares_nothing two

  -- ---- tokens of routers

  pub sound_declared_routed : (n : ℕ) (source : Option Zid) (e : K) (from : Face K) (g : Rows K) → ((zid : Zid) → source ≡ Some zid → zid_eq zid g.zid ≡ false) → Sound g → Sound (ran cmp (declaring_of cmp matching n source e from) g)
  unfolding ran with_routed rows_heard
  sound_declared_routed n None e from g other sound = sound
  sound_declared_routed n (Some zid) e from g other sound =
      let region = from.region in
      let h = with_routed cmp region zid e g in
      let more = routed_more cmp equal_is_same region zid e g (other zid refl) in
      let one = sound_rows cmp matching nobody nothing_left nothing_left nothing_left (told_from cmp h region e) g h refl refl refl
      (ordered_altered cmp matching (with_routed cmp region zid e) g (quiet_with_routed cmp matching total region zid e) sound.ordered)
      (λ f right. keeps_more cmp matching region e nothing_left g h f f more (stays_itself f) (λ own x none_. never none_ refl) right) sound in
      let ss = filter (λ s. not (n == s.0)) (to_each (pass_to cmp h region zid e) h.faces) in
      let k = rows_heard cmp ss h in
      let two = sound_quiet cmp matching nobody nothing_left (told_from cmp h region e) ss h (each_filter (λ s. IsQuietMessage s.1) (λ s. not (n == s.0)) (to_each (pass_to cmp h region zid e) h.faces) (each_pass cmp matching h region zid e)) one in
      let shown : IsShown cmp matching total equal_is_same region e k =
      λ own shows_. visible_heard cmp ss h own e ∙ visible_more cmp region e g h own e more ∙ or_right (is_visible cmp g own e) (shown_from cmp region e own e) (and_from (same cmp e e) (sees own region) (same_itself cmp total e) shows_) in
      sound_shown cmp matching total equal_is_same region e (rows_heard cmp (to_each (tell_to cmp matching k region e) k.faces) k) (sound_tell cmp matching total equal_is_same region e k shown two)

  pub sound_undeclared_routed : (n : ℕ) (source : Option Zid) (given : Option K) (from : Face K) (g : Rows K) → is_routed g from ≡ true → Sound g → Sound (ran cmp (undeclaring_of cmp matching n source given from) g)
  unfolding ran without_routed
  sound_undeclared_routed n None given from g routed sound = sound
  sound_undeclared_routed n (Some zid) None from g routed sound = sound
  sound_undeclared_routed n (Some zid) (Some e) from g routed sound =
      let region = from.region in
      let h = without_routed cmp region zid e g in
      let one = sound_rows cmp matching nobody nothing_left nothing_left (any_of cmp (e ∷ [])) nothing_left g h refl refl refl
      (ordered_altered cmp matching (without_routed cmp region zid e) g (quiet_without_routed cmp matching region zid e) sound.ordered)
      (λ f right. keeps_less cmp matching region (e ∷ []) g h f f (routed_gone cmp equal_is_same region zid e g) (stays_itself f) right) sound in
      let all = to_each (unpass_to cmp h region zid e) h.faces in
      let ss = filter (λ s. not (n == s.0)) all in
      let rule = λ (f : Face K). if n == f.number then [] else unpass_to cmp h region zid e f in
      let two = sound_routed cmp matching nobody (any_of cmp (e ∷ [])) nothing_left rule ss h
      (each_filter (λ s. DrawsNothing s.1) (λ s. not (n == s.0)) all (each_ruled DrawsNothing (unpass_to cmp h region zid e) h.faces (silent_unpass cmp matching h region zid e)))
      (each_weaker (λ f. false ≡ false → messages_for f.number all ≡ unpass_to cmp h region zid e f) (λ f. false ≡ false → messages_for f.number ss ≡ rule f)
      (λ f is _. messages_but_for cmp matching n f.number all ∙ ap (λ ms. if n == f.number then [] else ms) (is refl)) h.faces (speaks_each cmp matching nobody (unpass_to cmp h region zid e) h one.ordered))
      (λ f plain. ap (λ ms. if n == f.number then [] else ms) (unpasses_routed cmp matching h region zid e f routed plain) ∙ of_cond (λ (ms : List (Message K)). ms ≡ []) (n == f.number) [] [] (λ _. refl) (λ _. refl)) one in
      let k = rows_heard cmp ss h in
      let three = sound_forgot cmp matching total equal_is_same nobody (λ xs. xs) region e [] k spares_nothing two in
      sound_hid cmp matching total equal_is_same nobody nothing_left (λ xs. xs) region e (rows_heard cmp (to_each (forget_to cmp matching k region e) k.faces) k) spares_nothing three

  -- ---- tables

  sound_forgetting : (region : Region) (es : List K) (g : Rows K) → IsSoundBut cmp matching nobody (any_of cmp es) nothing_left g → Sound (ran cmp (forgetting cmp matching region es) g)
  unfolding ran
  sound_forgetting region [] g sound = sound
  sound_forgetting region (e ∷ es) g sound =
      let one = sound_forgot cmp matching total equal_is_same nobody (λ ss. ss) region e es g spares_nothing sound in
      let h = rows_heard cmp (to_each (forget_to cmp matching g region e) g.faces) g in
      sound_forgetting region es _ (sound_hid cmp matching total equal_is_same nobody (any_of cmp es) (λ ss. ss) region e h spares_nothing one)

  pub sound_table : (region : Region) (t : Trees) (g : Rows K) → Sound g → Sound (ran cmp (changing_table cmp matching region t g) g)
  unfolding ran
  sound_table region t g sound =
      let counted = counted_table t in
      let h = without_left_out cmp region counted g in
      let es = left_out cmp region counted g in
      let one = sound_rows cmp matching nobody nothing_left nothing_left (any_of cmp es) nothing_left g h refl refl refl
      (ordered_altered cmp matching (without_left_out cmp region counted) g (quiet_without_left_out cmp matching region counted) sound.ordered)
      (λ f right. keeps_less cmp matching region es g h f f (left_out_gone cmp equal_is_same region counted g) (stays_itself f) right) sound in
      let two = sound_forgetting region es h one in
      let k = ran cmp (forgetting cmp matching region es) h in
      let three = sound_rows_same cmp matching nobody nothing_left nothing_left k (with_table cmp region t k) refl refl refl (ordered_altered cmp matching (with_table cmp region t) k (quiet_table cmp matching region t) two.ordered) (record { live = refl; refused = refl }) two in
      subst Sound (sym (ran-append cmp (forgetting cmp matching region es) (Alter (with_table cmp region t) ∷ Say (λ x. to_each (greet_to cmp x region (table_of g region)) x.faces) ∷ []) h))
      (sound_quiet cmp matching nobody nothing_left nothing_left (to_each (greet_to cmp (with_table cmp region t k) region (table_of g region)) (with_table cmp region t k).faces) (with_table cmp region t k) (each_greet cmp matching (with_table cmp region t k) region (table_of g region)) three)
