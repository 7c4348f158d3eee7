-- What a face was told before a call is what it was told once the call has changed what it changes itself: messages
-- alone tell more.
use Rattle.std.proofs.Common.{◌≡◌, ℕ, ◌+◌, ◌≤◌, ◌<◌, Bool, true, false, not, if◌then◌else◌, ◌==◌, List, [], ◌∷◌, ◌++◌, Option, Some, None, option_map, refl, sym, ap, ◌∙◌, subst, arith, eq-eqb, eqb-true, ne_eqb}
use Rattle.std.specs.Cmp.{IsTotalOrder}
use Rattle.std.specs.declared.cmp.Ordering.{Ordering}
use Rattle.zt_protocol.specs.Plain.{PlainCall, NewSession, NewTransport, DeclareToken, UndeclareToken, Interest, InterestFinal, DeclareFinal, CloseFace, Expire, SetTrees, SetEntities}
use Rattle.zt_protocol.specs.declared.messages.Message.{Message}
use Rattle.zt_model.specs.Closing.{closing, leaving, without_face}
use Rattle.zt_model.specs.Hearing.{heard_all, messages_for, rows_heard}
use Rattle.zt_model.specs.Lists.{first_where}
use Rattle.zt_model.specs.Parts.{unsaid_to}
use Rattle.zt_model.specs.Rows.{Face, Rows}
use Rattle.zt_model.specs.Says.{Part, altered, altered_by, find_face, is_routed, parts_of, said}
use Rattle.zt_model.specs.Transcript.{Each}
use Rattle.zt_laws.specs.Kept.{Told, has_pair, is_kept, told_by_all, told_of}
use Rattle.zt_laws.specs.Order.{ListsAreInOrder, RowsAreInOrder}
use Rattle.zt_laws.specs.Sound.{RiseFrom, rows_after_call}
use Rattle.zt_laws.proofs.CallsOrder.{closing_orderly, keeps_faces, orderly_call}
use Rattle.zt_laws.proofs.Closed.{find_heard}
use Rattle.zt_laws.proofs.Hearing.{find_each, find_passes}
use Rattle.zt_laws.proofs.Keeping.{kept_pairs, told_alone}
use Rattle.zt_laws.proofs.Lists.{each_append, each_both, each_filter, each_map, each_weaker, rise_above}
use Rattle.zt_laws.proofs.PartsOrder.{altered_by_last, altered_in_order, each_of_map, tolds}

module _ {K : Type 0} where
  abbrev pub FromFace : ℕ → Told K → Option (Face K) → Type 0
  FromFace made t None = (t.rows ≡ []) × (made < t.number)
  FromFace made t (Some f) = t ≡ told_of f

  -- what is told now: what the face of the number was told before, or nothing where there was none
  abbrev pub FromBefore : Rows K → Told K → Type 0
  FromBefore g t = FromFace g.made t (find_face t.number g)

  -- each face is found by its number
  pub found_by_number : (low : ℕ) (fs : List (Face K)) → RiseFrom (λ f. f.number) low fs → Each (λ f. first_where (λ h. f.number == h.number) fs ≡ Some f) fs
  found_by_number low [] rises = tt
  found_by_number low (f ∷ fs) rises = (
    ap (λ b. if b then Some f else first_where (λ h. f.number == h.number) fs) (eq-eqb f.number f.number refl),
    each_both (λ h. f.number + 1 ≤ h.number) (λ h. first_where (λ k. h.number == k.number) fs ≡ Some h) (λ h. first_where (λ k. h.number == k.number) (f ∷ fs) ≡ Some h)
        (λ h up found. ap (λ b. if b then Some f else first_where (λ k. h.number == k.number) fs) (ne_eqb h.number f.number (λ e. omega arith)) ∙ found)
        fs (rise_above (λ h. h.number) (f.number + 1) fs rises.1) (found_by_number (f.number + 1) fs rises.1),
  )

  pub from_itself : (g : Rows K) → RiseFrom (λ f. f.number) 1 g.faces → Each (λ f. FromBefore g (told_of f)) g.faces
  from_itself g rises =
      each_weaker (λ f. find_face f.number g ≡ Some f) (λ f. FromBefore g (told_of f)) (λ f found. subst (FromFace g.made (told_of f)) (sym found) refl) g.faces (found_by_number 1 g.faces rises)

  -- a number above those of all faces is no face's
  pub found_none : (n : ℕ) (fs : List (Face K)) → Each (λ f. f.number < n) fs → first_where (λ f. n == f.number) fs ≡ None
  found_none n [] below = refl
  found_none n (f ∷ fs) below =
      let less : f.number < n = below.0 in
      let miss : (n == f.number) ≡ false = ne_eqb n f.number (λ e. omega arith) in
      rw miss (found_none n fs below.1)

module _ {K : Type 0} (cmp : K → K → Ordering) (matching : K → K → Bool) (total : IsTotalOrder cmp) where
  from_tolds : (g h : Rows K) → tolds cmp h ≡ tolds cmp g → RiseFrom (λ f. f.number) 1 g.faces → Each (λ f. FromBefore g (told_of f)) h.faces
  from_tolds g h same_ rises = each_of_map (FromBefore g) told_of h.faces (subst (Each (FromBefore g)) (sym same_) (each_map (FromBefore g) told_of g.faces (from_itself g rises)))

  from_opened : (f : Face K) (g : Rows K) → f.number ≡ g.made + 1 → f.told ≡ [] → ListsAreInOrder cmp matching g → Each (λ h. FromBefore g (told_of h)) (g.faces ++ f ∷ [])
  from_opened f g number_ none_ lists =
      let gone : find_face f.number g ≡ None = found_none f.number g.faces (each_weaker (λ h. h.number ≤ g.made) (λ h. h.number < f.number) (λ h up. omega arith) g.faces lists.faces_made) in
      each_append (λ h. FromBefore g (told_of h)) g.faces (f ∷ []) (from_itself g lists.faces_rise) (subst (FromFace g.made (told_of f)) (sym gone) (none_, omega arith), tt)

  kept_from : (c : PlainCall K) (g : Rows K) → keeps_faces cmp matching total c ≡ true → ListsAreInOrder cmp matching g → Each (λ f. FromBefore g (told_of f)) (altered cmp matching c g).faces
  kept_from c g keeps_ lists = from_tolds g (altered cmp matching c g) (altered_in_order cmp matching (parts_of cmp matching c g) g (orderly_call cmp matching total c g keeps_) lists).1 lists.faces_rise

  -- what a call itself changes leaves what faces were told
  pub altered_from : (c : PlainCall K) (g : Rows K) → ListsAreInOrder cmp matching g → Each (λ f. FromBefore g (told_of f)) (altered cmp matching c g).faces
  unfolding parts_of altered_by
  altered_from (NewSession first) g lists = from_opened _ g refl refl lists
  altered_from (NewTransport zid whatami region bound first) g lists = from_opened _ g refl refl lists
  altered_from (CloseFace n) g lists = cases (find_face n g)
    where
      cases : (o : Option (Face K)) → Each (λ f. FromBefore g (told_of f)) (altered_by cmp matching (elim o [ None ↦ [] | Some f ↦ closing cmp matching n g f ]) g).faces
      cases None = from_itself g lists.faces_rise
      cases (Some f) =
          let parts : List (Part K) = if is_routed g f then [] else unsaid_to n (leaving cmp matching n f) in
          let before = altered_by cmp matching parts g in
          let alters = altered_in_order cmp matching parts g (closing_orderly cmp matching total n f g) lists in
          subst (λ (h : Rows K). Each (λ f. FromBefore g (told_of f)) h.faces) (sym (altered_by_last cmp matching parts (without_face n) g))
          (each_filter (λ f. FromBefore g (told_of f)) (λ h. not (n == h.number)) before.faces (from_tolds g before alters.1 lists.faces_rise))
  altered_from (DeclareToken n id e node interest) g lists = kept_from (DeclareToken n id e node interest) g refl lists
  altered_from (UndeclareToken n id given node) g lists = kept_from (UndeclareToken n id given node) g refl lists
  altered_from (Interest n id mode options e) g lists = kept_from (Interest n id mode options e) g refl lists
  altered_from (InterestFinal n id) g lists = kept_from (InterestFinal n id) g refl lists
  altered_from (DeclareFinal n id) g lists = kept_from (DeclareFinal n id) g refl lists
  altered_from (Expire now) g lists = kept_from (Expire now) g refl lists
  altered_from (SetTrees region t) g lists = kept_from (SetTrees region t) g refl lists
  altered_from (SetEntities n subscribers queryables) g lists = kept_from (SetEntities n subscribers queryables) g refl lists

  -- the face of a number after a call, and what it was told before its messages
  face_after : (c : PlainCall K) (g : Rows K) (n : ℕ) (k : Face K) → ListsAreInOrder cmp matching g → find_face n (rows_after_call cmp matching c g) ≡ Some k
      → (h : Face K) × (FromBefore g (told_of h)) × (h.number ≡ n) × (k ≡ heard_all cmp (altered cmp matching c g).moment (messages_for n (said cmp matching c g)) h)
  unfolding rows_heard
  face_after c g n k lists found = cases (find_face n a) refl (sym (find_heard cmp matching n a.moment (λ m. messages_for m ss) a.faces) ∙ found)
    where
      a : Rows K
      a = altered cmp matching c g

      ss : List (ℕ × Message K)
      ss = said cmp matching c g

      cases : (o : Option (Face K)) → find_face n a ≡ o → option_map (λ (f : Face K). heard_all cmp a.moment (messages_for f.number ss) f) o ≡ Some k
          → (h : Face K) × (FromBefore g (told_of h)) × (h.number ≡ n) × (k ≡ heard_all cmp a.moment (messages_for n ss) h)
      cases None there is = cc
      cases (Some h) there is =
          let number_ : h.number ≡ n = sym (eqb-true n h.number (find_passes (λ f. n == f.number) a.faces h there)) in
          let heard : heard_all cmp a.moment (messages_for h.number ss) h ≡ k = cc in
          (h, find_each (λ f. FromBefore g (told_of f)) (λ f. n == f.number) a.faces h (altered_from c g lists) there, number_, sym heard ∙ ap (λ m. heard_all cmp a.moment (messages_for m ss) h) number_)

  -- a face that was there was told what its messages say
  pub told_by_call : (c : PlainCall K) (g : Rows K) (n : ℕ) (f k : Face K) → RowsAreInOrder cmp matching g → find_face n g ≡ Some f → find_face n (rows_after_call cmp matching c g) ≡ Some k → told_of k ≡ told_by_all cmp (messages_for n (said cmp matching c g)) (told_of f)
  told_by_call c g n f k rows before after =
      let it = face_after c g n k rows.lists after in
      let h = it.0 in
      let found : find_face h.number g ≡ Some f = ap (λ m. find_face m g) it.2 ∙ before in
      let told_ : told_of h ≡ told_of f = subst (FromFace g.made (told_of h)) found it.1 in
      ap told_of it.3 ∙ told_alone cmp (altered cmp matching c g).moment (messages_for n (said cmp matching c g)) h ∙ ap (told_by_all cmp (messages_for n (said cmp matching c g))) told_

  -- and one that the call opens was told nothing before
  pub told_by_opening : (c : PlainCall K) (g : Rows K) (n id : ℕ) (e : K) (k : Face K) → RowsAreInOrder cmp matching g → find_face n g ≡ None → find_face n (rows_after_call cmp matching c g) ≡ Some k → has_pair cmp id e k.told ≡ is_kept cmp id e (messages_for n (said cmp matching c g)) false
  told_by_opening c g n id e k rows before after =
      let it = face_after c g n k rows.lists after in
      let h = it.0 in
      let found : find_face h.number g ≡ None = ap (λ m. find_face m g) it.2 ∙ before in
      let none_ : h.told ≡ [] = (subst (FromFace g.made (told_of h)) found it.1).0 in
      ap (λ (x : Face K). has_pair cmp id e x.told) it.3 ∙ kept_pairs cmp total (altered cmp matching c g).moment id e (messages_for n (said cmp matching c g)) h ∙ ap (λ rows. is_kept cmp id e (messages_for n (said cmp matching c g)) (has_pair cmp id e rows)) none_
