-- Every accepted call that opens no face leaves a gateway of a tree one.
use Rattle.std.proofs.Common.{◌≡◌, ℕ, Bool, true, false, if◌then◌else◌, ◌==◌, List, [], ◌++◌, length, Option, Some, None, refl, sym, ap, ◌∙◌, subst}
use Rattle.std.proofs.lemmas.Bool.{ltb-false}
use Rattle.std.specs.Cmp.{IsTotalOrder}
use Rattle.std.specs.declared.cmp.Ordering.{Ordering}
use Rattle.std.specs.declared.cmp.Ordering.TheVariants.{Equal}
use Rattle.zt_region.specs.Region.{is_north}
use Rattle.zt_protocol.specs.Plain.{PlainCall, NewSession, NewTransport, DeclareToken, UndeclareToken, Interest, InterestFinal, DeclareFinal, CloseFace, Expire, SetTrees, SetEntities}
use Rattle.zt_model.specs.Closing.{closing, expiring}
use Rattle.zt_model.specs.Entities.{entity_expressions, numbered_by, numbered_with, with_numbers}
use Rattle.zt_model.specs.Lists.{at_id}
use Rattle.zt_model.specs.Parts.{Part, find_face}
use Rattle.zt_model.specs.Refusals.{GREATEST_DICTIONARY, call_causes, fills_dictionary, first_cause}
use Rattle.zt_model.specs.Routing.{finalising, finishing}
use Rattle.zt_model.specs.Rows.{Face, InterestRow, Rows}
use Rattle.zt_model.specs.Says.{answering, asking, declaring, declaring_of, finalising_held, hiding_undeclared, is_routed, parts_of, registers, row_of, undeclaring, undeclaring_of}
use Rattle.zt_model.specs.Transcript.{Each}
use Rattle.zt_model.specs.Trees.{changing_table, showing, source_of}
use Rattle.zt_laws.specs.Order.{HasRowsInOrder, RowsAreInOrder}
use Rattle.zt_laws.specs.Sound.{RiseFrom, opens_face, rows_after_call}
use Rattle.zt_laws.proofs.Calls.{no_cause, not_on_face}
use Rattle.zt_laws.proofs.Hearing.{find_each, find_only}
use Rattle.zt_laws.proofs.Lists.{each_append, each_weaker, never, of_cond}
use Rattle.zt_theorem_soundness.specs.Ran.{ran}
use Rattle.zt_theorem_soundness.proofs.CallsRun.{call_runs}
use Rattle.zt_theorem_tree_invariant.specs.Facts.{IsTreeFace, IsTreeGateway}
use Rattle.zt_theorem_tree_invariant.proofs.Effects.{row_kept}
use Rattle.zt_theorem_tree_invariant.proofs.Fresh.{rows_of_tree}
use Rattle.zt_theorem_tree_invariant.proofs.Knowledge.{is_no_router}
use Rattle.zt_theorem_tree_invariant.proofs.Lines.{interest_from}
use Rattle.zt_theorem_tree_knowledge.proofs.Asking.{after_asking}
use Rattle.zt_theorem_tree_knowledge.proofs.Inside.{Inside, KeepsPart, ran_keeps}
use Rattle.zt_theorem_tree_knowledge.proofs.Parts.{alone, both_finalising, both_hiding_undeclared, both_undeclaring, keeps_answering, keeps_changing, keeps_closing, keeps_declaring, keeps_entities, keeps_expiring, keeps_finishing, keeps_showing, numbered}

module _ {K : Type 0} (cmp : K → K → Ordering) (matching : K → K → Bool) (total : IsTotalOrder cmp) (equal_is_same : (a b : K) → cmp a b ≡ Equal → a ≡ b) where
  abbrev Keeps : List (Part K) → Type 0
  Keeps parts = Each (KeepsPart cmp matching) parts

  by_face : (n : ℕ) (g : Rows K) (parts : Face K → List (Part K)) → ((f : Face K) → find_face n g ≡ Some f → Keeps (parts f)) → Keeps (elim (find_face n g) [ None ↦ [] | Some f ↦ parts f ])
  by_face n g parts found = cases (find_face n g) refl
    where
      cases : (o : Option (Face K)) → find_face n g ≡ o → Keeps (elim o [ None ↦ [] | Some f ↦ parts f ])
      cases None is = tt
      cases (Some f) is = found f is

  not_routed : (n : ℕ) (g : Rows K) (f : Face K) → IsTreeGateway cmp matching g → find_face n g ≡ Some f → is_routed g f ≡ false
  not_routed n g f tree found = is_no_router g f (find_each (IsTreeFace g.mode) (λ (h : Face K). n == h.number) g.faces f tree.faces found)

  pub inside_of : (g : Rows K) → IsTreeGateway cmp matching g → RowsAreInOrder cmp matching g → Inside cmp matching g
  inside_of g tree ordered = record { tree = tree; rises = ordered.lists.faces_rise; locals = each_weaker HasRowsInOrder (λ f. RiseFrom (λ row. row.0) 0 f.locals) (λ f rows. rows.locals) g.faces ordered.lists.rows }

  -- the parts of a call
  ran_inside : (spent : Bool) (c : PlainCall K) (g : Rows K) → opens_face c ≡ false → first_cause (call_causes cmp matching spent c g) ≡ None → RowsAreInOrder cmp matching g → Inside cmp matching g → Inside cmp matching (ran cmp (parts_of cmp matching c g) g)
  unfolding parts_of call_causes ran
  ran_inside spent (NewSession first) g still accepted ordered inside = never refl still
  ran_inside spent (NewTransport zid whatami region bound first) g still accepted ordered inside = never refl still
  ran_inside spent (DeclareToken n id e node interest) g still accepted ordered inside =
      ran_keeps cmp matching _ g
      (by_face n g (λ f. if is_routed g f then declaring_of cmp matching n (source_of g f node) e f else answering cmp matching n interest e f ++ (if registers f interest then declaring cmp matching n id e f ++ showing cmp f.region e else []))
      (λ f found.
      of_cond Keeps (is_routed g f) (declaring_of cmp matching n (source_of g f node) e f) (answering cmp matching n interest e f ++ (if registers f interest then declaring cmp matching n id e f ++ showing cmp f.region e else []))
      (λ routed. never routed (not_routed n g f inside.tree found))
      (λ _. each_append (KeepsPart cmp matching) (answering cmp matching n interest e f) (if registers f interest then declaring cmp matching n id e f ++ showing cmp f.region e else []) (keeps_answering cmp matching n interest e f)
      (of_cond Keeps (registers f interest) (declaring cmp matching n id e f ++ showing cmp f.region e) [] (λ _. each_append (KeepsPart cmp matching) (declaring cmp matching n id e f) (showing cmp f.region e) (keeps_declaring cmp matching n id e f) (keeps_showing cmp matching f.region e)) (λ _. tt)))))
      inside
  ran_inside spent (UndeclareToken n id given node) g still accepted ordered inside =
      ran_keeps cmp matching _ g
      (by_face n g (λ f. if is_routed g f then undeclaring_of cmp matching n (source_of g f node) given f else undeclaring cmp matching n id given f ++ hiding_undeclared cmp matching id given f)
      (λ f found.
      of_cond Keeps (is_routed g f) (undeclaring_of cmp matching n (source_of g f node) given f) (undeclaring cmp matching n id given f ++ hiding_undeclared cmp matching id given f)
      (λ routed. never routed (not_routed n g f inside.tree found))
      (λ _. each_append (KeepsPart cmp matching) (undeclaring cmp matching n id given f) (hiding_undeclared cmp matching id given f)
      (alone cmp matching n (undeclaring cmp matching n id given f) (both_undeclaring cmp matching n n id given f)) (alone cmp matching n (hiding_undeclared cmp matching id given f) (both_hiding_undeclared cmp matching n id given f)))))
      inside
  ran_inside spent (Interest n id mode options e) g still accepted ordered inside =
      let rows = rows_of_tree cmp matching total g inside.tree ordered in
      let from = interest_from cmp matching spent n id mode options e g rows accepted in
      let two = no_cause _ _ _ (no_cause _ _ _ accepted).1 in
      let four = no_cause _ _ _ (no_cause _ _ _ two.1).1 in
      let five = no_cause _ _ _ four.1 in
      let six = no_cause _ _ _ five.1 in
      let i = row_of cmp matching from.0 mode options e in
      let fits : fills_dictionary cmp matching (numbered_by cmp i) g ≡ false = not_on_face n g (λ f. fills_dictionary cmp matching (numbered_by cmp (row_of cmp matching f mode options e)) g) from.0 from.1.0 six.0 in
      subst (λ (o : Option (Face K)). Inside cmp matching (ran cmp (elim o [ None ↦ [] | Some f ↦ asking cmp matching n id (row_of cmp matching f mode options e) f.region g ]) g)) (sym from.1.0)
      (after_asking cmp matching total equal_is_same n id i from.0.region g from.1.1
      (each_weaker (λ h. (n == h.number) ≡ true → h ≡ from.0) (λ h. (n == h.number) ≡ true → is_north h.region ≡ false) (λ h only here. ap (λ (k : Face K). is_north k.region) (only here) ∙ from.1.1) g.faces (find_only n 1 g.faces from.0 ordered.lists.faces_rise from.1.0))
      (row_kept cmp matching g n from.0 mode options e rows from.1.0 from.1.1)
      (ltb-false GREATEST_DICTIONARY (length (numbered_with cmp (numbered_by cmp i) g.dictionary)) fits) inside)
  ran_inside spent (InterestFinal n id) g still accepted ordered inside = ran_keeps cmp matching _ g (by_face n g (λ f. finalising_held cmp matching n id f) (λ f found. finals (at_id id f.held))) inside
    where
      finals : (o : Option (InterestRow K)) → Keeps (elim o [ None ↦ [] | Some interest ↦ finalising cmp matching n id interest ])
      finals None = tt
      finals (Some interest) = alone cmp matching n (finalising cmp matching n id interest) (both_finalising cmp matching total equal_is_same n n id interest)
  ran_inside spent (DeclareFinal n id) g still accepted ordered inside = ran_keeps cmp matching _ g (by_face n g (λ f. finishing n id f) (λ f found. keeps_finishing cmp matching n id f)) inside
  ran_inside spent (CloseFace n) g still accepted ordered inside = ran_keeps cmp matching _ g (by_face n g (λ f. closing cmp matching n g f) (λ f found. keeps_closing cmp matching total equal_is_same n g f)) inside
  ran_inside spent (Expire now) g still accepted ordered inside = ran_keeps cmp matching (expiring now g) g (keeps_expiring cmp matching now g) inside
  ran_inside spent (SetTrees region t) g still accepted ordered inside = ran_keeps cmp matching (changing_table cmp matching region t g) g (keeps_changing cmp matching region t g) inside
  ran_inside spent (SetEntities n subscribers queryables) g still accepted ordered inside =
      let two = no_cause _ _ _ (no_cause _ _ _ accepted).1 in
      let es = entity_expressions cmp subscribers queryables in
      keeps_entities cmp matching n subscribers queryables (with_numbers cmp es g) (numbered cmp matching es g (ltb-false GREATEST_DICTIONARY (length (numbered_with cmp es g.dictionary)) two.0) inside)

  -- Every accepted call that opens no face leaves a gateway of a tree one.
  pub tree_after_call : (spent : Bool) (c : PlainCall K) (g : Rows K) → opens_face c ≡ false → first_cause (call_causes cmp matching spent c g) ≡ None → RowsAreInOrder cmp matching g → IsTreeGateway cmp matching g → IsTreeGateway cmp matching (rows_after_call cmp matching c g)
  tree_after_call spent c g still accepted ordered tree = subst (IsTreeGateway cmp matching) (sym (call_runs cmp matching c g)) (ran_inside spent c g still accepted ordered (inside_of g tree ordered)).tree
