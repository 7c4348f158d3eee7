-- In each turn of a transcript nothing that is printed for a face answers an interest after its final.
use Rattle.std.proofs.Common.{◌≡◌, ℕ, ◌+◌, Bool, true, false, not, ◌==◌, List, [], ◌∷◌, ◌++◌, map, filter, Option, Some, None, refl, sym, ap, ◌∙◌, subst, append-nil, eq-eqb}
use Rattle.std.specs.Cmp.{IsTotalOrder}
use Rattle.std.specs.List.{list_any}
use Rattle.std.specs.declared.cmp.Ordering.{Ordering}
use Rattle.zt_protocol.specs.Plain.{PlainCall, NewSession, NewTransport, DeclareToken, UndeclareToken, Interest, InterestFinal, DeclareFinal, CloseFace, Expire, SetTrees, SetEntities, PlainLine}
use Rattle.zt_protocol.specs.declared.entries.Sent.{Sent}
use Rattle.zt_protocol.specs.declared.messages.Message.{Message}
use Rattle.zt_protocol.specs.declared.messages.Message.TheVariants as message
use Rattle.zt_model.specs.Entities.{entities_for, numbered_by, with_numbers}
use Rattle.zt_model.specs.Fabric.{CallAt, Fabric, Node, Place, both_ends, entries_from, number_of_place, printed_for, said_closing, said_opening, sorted_by_face, with_place}
use Rattle.zt_model.specs.Linking.{link_ends}
use Rattle.zt_model.specs.Promises.{EachFace, EachGateway, NothingFollowsFinals, Turn, answers_interest, is_final_of, printed_to, turns_from}
use Rattle.zt_model.specs.Routing.{asked_as, final_of, route_to, sent_as}
use Rattle.zt_model.specs.Rows.{Face, InterestRow, Rows}
use Rattle.zt_model.specs.Says.{Alter, Part, Say, Sends, answered_expressions, answers_of, asking, find_face, parts_of, row_of, said, said_by, to_each, to_face, with_face}
use Rattle.zt_model.specs.Transcript.{Each}
use Rattle.zt_laws.specs.Order.{FabricIsInOrder}
use Rattle.zt_laws.specs.Shown.{as_shown}
use Rattle.zt_laws.specs.Sound.{HasFirstIds}
use Rattle.zt_laws.proofs.Ends.{printed_for-append}
use Rattle.zt_laws.proofs.Hearing.{each_ruled, each_ruled_one}
use Rattle.zt_laws.proofs.Lists.{any_none, each_always, each_map, each_weaker, never}
use Rattle.zt_laws.proofs.Sorting.{printed as printed_at, printed_sorted}
use Rattle.zt_theorem_soundness.specs.Ran.{ran}
use Rattle.zt_theorem_soundness.proofs.CallsRun.{each_entity}
use Rattle.zt_theorem_soundness.proofs.Running.{said_by-append}
use Rattle.zt_theorem_visibility.proofs.Calls.{IsOfCalls, IsShownTurn, turns_show}
use Rattle.zt_theorem_visibility.proofs.Saying.{answers_say, closing_says, closings_say, declaration_says, declare_final_says, expiry_says, final_says, interest_final_says, openings_say, opening_says, printed_each, printed_sorted_each, route_says, said_each, table_says, undeclaration_says, unlinked_each}

map_both : {A B : Type 0} (f : A → B) (xs ys : List A) → map f (xs ++ ys) ≡ map f xs ++ map f ys
map_both f [] ys = refl
map_both f (x ∷ xs) ys = ap (λ zs. f x ∷ zs) (map_both f xs ys)

module _ {K : Type 0} where
  abbrev NoAnswer : Message K → Type 0
  NoAnswer m = (id : ℕ) → answers_interest id m ≡ false

  abbrev pub NoFinal : Message K → Type 0
  NoFinal m = (id : ℕ) → is_final_of id m ≡ false

  follows : (m : Message K) (ms : List (Message K)) → ((id : ℕ) → is_final_of id m ≡ true → list_any (answers_interest id) ms ≡ false) → NothingFollowsFinals ms → NothingFollowsFinals (m ∷ ms)
  follows (message.DeclareToken id e interest node) ms one all = all
  follows (message.UndeclareToken id e node) ms one all = all
  follows (message.DeclareFinal id) ms one all = (one id (eq-eqb id id refl), all)
  follows (message.Interest id mode options e) ms one all = all
  follows (message.InterestFinal id) ms one all = all
  follows (message.DeclareSubscriber number e id) ms one all = all
  follows (message.DeclareQueryable number e info id) ms one all = all

  none_answers : (ms : List (Message K)) → Each NoAnswer ms → NothingFollowsFinals ms
  none_answers [] none_ = tt
  none_answers (m ∷ ms) none_ = follows m ms (λ id _. any_none (answers_interest id) ms (each_weaker NoAnswer (λ x. answers_interest id x ≡ false) (λ x one. one id) ms none_.1)) (none_answers ms none_.1)

  -- finals come last, where none comes before what answers
  finals_last : (ms ns : List (Message K)) → Each NoFinal ms → Each NoAnswer ns → NothingFollowsFinals (ms ++ ns)
  finals_last [] ns none_ last = none_answers ns last
  finals_last (m ∷ ms) ns none_ last = follows m (ms ++ ns) (λ id is. never is (none_.0 id)) (finals_last ms ns none_.1 last)

module _ {K : Type 0} (cmp : K → K → Ordering) (matching : K → K → Bool) where
  -- what a call prints is first without finals, and then without answers
  record Parted (ss : Sends K) : Type 0 where
    first : Sends K
    last : Sends K
    is : ss ≡ first ++ last
    none_final : Each (λ s. NoFinal s.1) first
    none_answers_ : Each (λ s. NoAnswer s.1) last

  all_last : (ss : Sends K) → Each (λ s. NoAnswer s.1) ss → Parted ss
  all_last ss none_ = record { first = []; last = ss; is = refl; none_final = tt; none_answers_ = none_ }

  all_first : (ss : Sends K) → Each (λ s. NoFinal s.1) ss → Parted ss
  all_first ss none_ = record { first = ss; last = []; is = sym (append-nil ss); none_final = none_; none_answers_ = tt }

  parted_printed : (k n : ℕ) (places : List Place) (ss : Sends K) → Parted ss → NothingFollowsFinals (printed_for k (sorted_by_face (map (printed_at places n) ss)))
  parted_printed k n places ss parted =
      let ms = map (printed_at places n) parted.first in
      let ns = map (printed_at places n) parted.last in
      let parts : map (printed_at places n) ss ≡ ms ++ ns = ap (map (printed_at places n)) parted.is ∙ map_both (printed_at places n) parted.first parted.last in
      subst (λ xs. NothingFollowsFinals xs) (sym (printed_sorted k (map (printed_at places n) ss) ∙ ap (printed_for k) parts ∙ printed_for-append k ms ns))
      (finals_last (printed_for k ms) (printed_for k ns)
      (printed_each cmp matching NoFinal k ms (each_map (λ (m : Sent K). NoFinal m.message) (printed_at places n) parted.first parted.none_final))
      (printed_each cmp matching NoAnswer k ns (each_map (λ (m : Sent K). NoAnswer m.message) (printed_at places n) parted.last parted.none_answers_)))

  interest_parted : (n id : ℕ) (interest : InterestRow K) (from : Face K) (g : Rows K) → Parted (said_by cmp matching (asking cmp matching n id interest from.region g) g)
  unfolding said_by
  interest_parted n id interest from g =
      let before : List (Part K) =
      Alter (with_numbers cmp (numbered_by cmp interest)) ∷ Say (λ h. to_each (route_to h from.region interest) h.faces) ∷ Say (λ h. to_face n (entities_for cmp matching h id interest) h) ∷ Alter (with_face n (asked_as (sent_as g from.region interest.mode) id interest)) ∷ Say (λ h. to_face n (answers_of cmp matching h id interest) h) ∷ [] in
      let after : List (Part K) = Say (to_face n (final_of id)) ∷ [] in record {
        first = said_by cmp matching before g;
        last = said_by cmp matching after (ran cmp before g);
        is = said_by-append cmp matching before after g;
        none_final = said_each cmp matching NoFinal before g (
          tt,
          (
            (λ h. each_ruled NoFinal (route_to h from.region interest) h.faces (route_says cmp matching NoFinal (λ i mode options e j. refl) h from.region interest)),
            (
              (λ h. each_ruled_one NoFinal n (entities_for cmp matching h id interest) h (each_entity cmp NoFinal (λ number k i j. refl) (λ number k info i j. refl) matching h id interest)),
              (tt, ((λ h. each_ruled_one NoFinal n (answers_of cmp matching h id interest) h (λ k. answers_say cmp matching NoFinal (λ i e j l. refl) k.next k.told interest.mode id (answered_expressions cmp matching h interest k))), tt)),
            ),
          ),
        );
        none_answers_ = said_each cmp matching NoAnswer after (ran cmp before g) ((λ h. each_ruled_one NoAnswer n (final_of id) h (final_says cmp matching NoAnswer (λ i j. refl) id)), tt);
      }

  call_parted : (c : PlainCall K) (g : Rows K) → Parted (said cmp matching c g)
  unfolding parts_of said_by
  call_parted (NewSession first) g = all_last [] tt
  call_parted (NewTransport zid whatami region bound first) g = all_last (said cmp matching (NewTransport zid whatami region bound first) g) (opening_says cmp matching NoAnswer (λ k mode options e i. refl) (λ k e i. refl) (λ k i. refl) zid whatami region bound first g)
  call_parted (DeclareToken n id e node interest) g = all_first (said cmp matching (DeclareToken n id e node interest) g) (declaration_says cmp matching NoFinal (λ k x i. refl) (λ x k i. refl) (λ k x i j. refl) n id node e interest g)
  call_parted (UndeclareToken n id given node) g = all_last (said cmp matching (UndeclareToken n id given node) g) (undeclaration_says cmp matching NoAnswer (λ k i. refl) (λ e k i. refl) n id node given g)
  call_parted (Interest n id mode options e) g = by_face (find_face n g)
    where
      by_face : (o : Option (Face K)) → Parted (said_by cmp matching (elim o [ None ↦ [] | Some f ↦ asking cmp matching n id (row_of cmp matching f mode options e) f.region g ]) g)
      by_face None = all_last [] tt
      by_face (Some from) = interest_parted n id (row_of cmp matching from mode options e) from g
  call_parted (InterestFinal n id) g = all_last (said cmp matching (InterestFinal n id) g) (interest_final_says cmp matching NoAnswer (λ k i. refl) (λ k i. refl) (λ k i. refl) n id g)
  call_parted (DeclareFinal n id) g = all_last (said cmp matching (DeclareFinal n id) g) (declare_final_says cmp matching NoAnswer (λ k i. refl) n id g)
  call_parted (CloseFace n) g = all_last (said cmp matching (CloseFace n) g) (closing_says cmp matching NoAnswer (λ k i. refl) (λ e k i. refl) (λ k i. refl) (λ k i. refl) n g)
  call_parted (Expire now) g = all_last (said cmp matching (Expire now) g) (expiry_says cmp matching NoAnswer (λ k i. refl) now g)
  call_parted (SetTrees region t) g = all_last (said cmp matching (SetTrees region t) g) (table_says cmp matching NoAnswer (λ k i. refl) (λ e k i. refl) (λ e k i. refl) region t g)
  call_parted (SetEntities n subscribers queryables) g = all_last [] tt

  -- ---- turns

  abbrev Comes : Fabric K → List (CallAt K) → List (Sent K) → List Place → List (Node K) → List (Node K) → Type 0
  Comes s calls ms places ws gs = (k : ℕ) → NothingFollowsFinals (printed_for k ms)

  none_printed : (k : ℕ) → NothingFollowsFinals {K = K} (printed_for k [])
  unfolding printed_for
  none_printed k = tt

  finals_of_calls : IsOfCalls cmp matching (λ s. Unit {0}) Comes
  finals_of_calls = record {
    nothing = λ s fine _. none_printed;
    gateway = λ mode zid regions timeout refused node s new_ fine _. none_printed;
    call = λ spent n node c s at_ still accepted fine _ k. parted_printed k n s.faces (said cmp matching c node.rows) (call_parted c node.rows);
    session = λ n first node s at_ real fine _. none_printed;
    transport = λ spent n node zid whatami region bound first s at_ real accepted fine _ k.
        let c : PlainCall K = NewTransport zid whatami region bound first in
        parted_printed k n (with_place n s).faces (said cmp matching c node.rows) (call_parted c node.rows);
    link = λ spent one two first back s real real_back accepted fine _ k.
        let ends = link_ends s one two first back in
        let ms = said_opening cmp matching ends s in
        none_answers (printed_for k (sorted_by_face ms)) (printed_sorted_each cmp matching NoAnswer k ms (openings_say cmp matching NoAnswer (λ i mode options e j. refl) (λ i e j. refl) (λ i j. refl) ends s));
    unlink = λ n s fine _ k.
        let fs = both_ends cmp matching s n in
        let ms = said_closing cmp matching fs s in
        none_answers (printed_for k (sorted_by_face (filter (λ m. not (list_any (λ face. face == m.face) fs)) ms))) (unlinked_each cmp matching NoAnswer k fs ms (closings_say cmp matching NoAnswer (λ i j. refl) (λ e i j. refl) (λ i j. refl) (λ i j. refl) fs s));
  }

  module _ (total : IsTotalOrder cmp) where
    finals_shown : (s : Fabric K) (t : Turn K) → FabricIsInOrder cmp matching s → Unit {0} → IsShownTurn cmp matching total (λ s. Unit {0}) Comes finals_of_calls s t → EachFace (λ n g f. NothingFollowsFinals (printed_to t n f)) t.after
    finals_shown s t fine _ is = of_all 1 t.after.gateways
      where
        of_all : (i : ℕ) (gs : List (Node K)) → EachGateway (λ n (node : Node K). Each (λ f. NothingFollowsFinals (printed_to t n f)) node.rows.faces) i gs
        of_all i [] = tt
        of_all i (x ∷ gs) = (each_always (λ f. NothingFollowsFinals (printed_to t i f)) (λ f. is.comes (number_of_place t.after i f.number)) x.rows.faces, of_all (i + 1) gs)

    -- In each turn of a transcript finals come last.
    pub turns_end_with_finals : (lines : List (PlainLine K)) (s : Fabric K) → Each HasFirstIds lines → FabricIsInOrder cmp matching s
        → Each (λ t. EachFace (λ n g f. NothingFollowsFinals (printed_to t n f)) t.after) (turns_from cmp matching lines (entries_from cmp matching lines s) (as_shown s))
    turns_end_with_finals lines s real fine =
        turns_show cmp matching total (λ s. Unit {0}) Comes finals_of_calls (λ t. EachFace (λ n g f. NothingFollowsFinals (printed_to t n f)) t.after) finals_shown (λ line x first ordered _. tt) lines s real fine tt
