-- What a face was told before a line is what it was told once the line has changed what it changes itself: printed
-- messages alone tell more.
use Rattle.std.proofs.Common.{◌≡◌, ℕ, ◌+◌, ◌-◌, ◌≤◌, ◌<◌, Bool, true, false, cond, ◌==◌, nat_lt, List, [], ◌∷◌, ◌++◌, Option, Some, None, option_map, Ok, Err, refl, sym, ap, ◌∙◌, subst, arith, eqb-true, le_refl, le_trans, append-nil, append_assoc}
use Rattle.std.specs.Cmp.{IsTotalOrder}
use Rattle.std.specs.declared.cmp.Ordering.{Ordering}
use Rattle.zt_protocol.specs.Plain.{PlainCall, NewSession, NewTransport, CloseFace, Expire, SetTrees, PlainLine, PlainEntry, Gateway, Session, Face as FaceLine, Link as LinkLine, Unlink, Step, Speak, Moment, SetTreesAt}
use Rattle.zt_protocol.specs.Refusal.{number_of}
use Rattle.zt_protocol.specs.declared.entries.Sent.{Sent}
use Rattle.zt_protocol.specs.declared.errors.Refusal.{Refusal}
use Rattle.zt_protocol.specs.declared.messages.Message.{Message}
use Rattle.zt_model.specs.Fabric.{CallAt, Fabric, Node, Place, after_hearing, after_refusal, altered_at, altered_by_line, at_nth, both_ends, call_of, call_of_step, closed_ends, closing_call, fabric_after, gateways_after_hearing, new_rows, next_face, number_from, opened_at, opened_ends, opening_at, printed_for, rows_after_hearing, table_at, with_place, with_rows, without_message}
use Rattle.zt_model.specs.Hearing.{heard_all}
use Rattle.zt_model.specs.Linking.{LinkEnd, link_ends, with_link, without_link}
use Rattle.zt_model.specs.Lists.{nth, without_id}
use Rattle.zt_model.specs.Places.{Link}
use Rattle.zt_model.specs.Rows.{ById, Face, Rows}
use Rattle.zt_model.specs.Says.{altered, altered_by, find_face, parts_of}
use Rattle.zt_model.specs.Transcript.{Each, FaceAt, face_numbered, messages_of}
use Rattle.zt_laws.specs.Kept.{Told, has_pair, is_kept, told_by_all, told_of}
use Rattle.zt_laws.specs.Order.{FabricIsInOrder}
use Rattle.zt_laws.specs.Sound.{HasFirstIds, RiseFrom, is_placed, opens_face, places_of}
use Rattle.zt_laws.proofs.AllLines.{starts_real, without_message_is}
use Rattle.zt_laws.proofs.CallsOrder.{altered_faces}
use Rattle.zt_laws.proofs.Closed.{find_heard}
use Rattle.zt_laws.proofs.Ends.{end_alone, opened_elsewhere}
use Rattle.zt_laws.proofs.Entries.{nth_of_number}
use Rattle.zt_laws.proofs.Gateways.{after_hearing_nothing}
use Rattle.zt_laws.proofs.Hearing.{find_each, find_passes}
use Rattle.zt_laws.proofs.Keeping.{kept_pairs, told_alone}
use Rattle.zt_laws.proofs.LinesOrder.{called_at, called_by_speaker, called_by_step, gateway_in_order, opened_faces}
use Rattle.zt_laws.proofs.Lists.{by_test, each_always, each_weaker, of_cond}
use Rattle.zt_laws.proofs.Numbered.{nth_real}
use Rattle.zt_laws.proofs.Places.{number_of_nth}
use Rattle.zt_laws.proofs.ToldFrom.{FromBefore, FromFace, altered_from, found_none, from_itself}
use Rattle.zt_laws.proofs.Unlinking.{closing_alone, closing_case}

-- ---- members by their numbers

nth_append : {A : Type 0} (n : ℕ) (xs ys : List A) (x : A) → nth n xs ≡ Some x → nth n (xs ++ ys) ≡ Some x
nth_append n [] ys x at_ = cc
nth_append n (y ∷ xs) ys x at_ = by_test (n == 1) (λ here. rw here (rw here at at_)) (λ here. rw here (nth_append (n - 1) xs ys x (rw here at at_)))

-- a member of a list with one changed: it is that one, or as it was
nth_at : {A G : Type 0} (j n : ℕ) (change : A → A) (xs : List A) (y : A) → nth j (at_nth n change xs) ≡ Some y
    → ((x : A) → j ≡ n → nth n xs ≡ Some x → y ≡ change x → G) → (nth j xs ≡ Some y → G) → G
nth_at j n change [] y at_ changed still = still at_
nth_at {A} j n change (x ∷ xs) y at_ changed still =
    by_test (n == 1)
    (λ here.
    let one : n ≡ 1 = eqb-true n 1 here in
    let first : nth j (change x ∷ xs) ≡ Some y = ap (λ b. nth j (cond b (change x ∷ xs) (x ∷ at_nth (n - 1) change xs))) (sym here) ∙ at_ in
    by_test (j == 1)
    (λ own.
    let e : Some (change x) ≡ Some y = ap (λ b. cond b (Some (change x)) (nth (j - 1) xs)) (sym own) ∙ first in
    let is : y ≡ change x = cc in
    changed x (eqb-true j 1 own ∙ sym one) (ap (λ b. cond b (Some x) (nth (n - 1) xs)) here) is)
    (λ own. still (ap (λ b. cond b (Some x) (nth (j - 1) xs)) own ∙ ap (λ b. cond b (Some (change x)) (nth (j - 1) xs)) (sym own) ∙ first)))
    (λ here.
    let later : nth j (x ∷ at_nth (n - 1) change xs) ≡ Some y = ap (λ b. nth j (cond b (change x ∷ xs) (x ∷ at_nth (n - 1) change xs))) (sym here) ∙ at_ in
    by_test (j == 1)
    (λ own. still (ap (λ b. cond b (Some x) (nth (j - 1) xs)) own ∙ ap (λ b. cond b (Some x) (nth (j - 1) (at_nth (n - 1) change xs))) (sym own) ∙ later))
    (λ own.
    let rest : nth (j - 1) (at_nth (n - 1) change xs) ≡ Some y = ap (λ b. cond b (Some x) (nth (j - 1) (at_nth (n - 1) change xs))) (sym own) ∙ later in
    nth_at (j - 1) (n - 1) change xs y rest
    (λ z is at_z y_is.
    let n_more : nth n (x ∷ xs) ≡ Some z = ap (λ b. cond b (Some x) (nth (n - 1) xs)) here ∙ at_z in
    let jj : 1 ≤ j - 1 = nth_real (j - 1) (at_nth (n - 1) change xs) y rest in
    changed z (omega arith) n_more y_is)
    (λ at_y. still (ap (λ b. cond b (Some x) (nth (j - 1) xs)) own ∙ at_y))))

nth_at_none : {A : Type 0} (j n : ℕ) (change : A → A) (xs : List A) → nth j (at_nth n change xs) ≡ None → nth j xs ≡ None
nth_at_none j n change [] none_ = refl
nth_at_none j n change (x ∷ xs) none_ =
    by_test (n == 1)
    (λ here.
    let first : nth j (change x ∷ xs) ≡ None = ap (λ b. nth j (cond b (change x ∷ xs) (x ∷ at_nth (n - 1) change xs))) (sym here) ∙ none_ in
    by_test (j == 1)
    (λ own. let bad : Some (change x) ≡ None = ap (λ b. cond b (Some (change x)) (nth (j - 1) xs)) (sym own) ∙ first in cc)
    (λ own. ap (λ b. cond b (Some x) (nth (j - 1) xs)) own ∙ ap (λ b. cond b (Some (change x)) (nth (j - 1) xs)) (sym own) ∙ first))
    (λ here.
    let later : nth j (x ∷ at_nth (n - 1) change xs) ≡ None = ap (λ b. nth j (cond b (change x ∷ xs) (x ∷ at_nth (n - 1) change xs))) (sym here) ∙ none_ in
    by_test (j == 1)
    (λ own. let bad : Some x ≡ None = ap (λ b. cond b (Some x) (nth (j - 1) (at_nth (n - 1) change xs))) (sym own) ∙ later in cc)
    (λ own. ap (λ b. cond b (Some x) (nth (j - 1) xs)) own ∙ nth_at_none (j - 1) (n - 1) change xs (ap (λ b. cond b (Some x) (nth (j - 1) (at_nth (n - 1) change xs))) (sym own) ∙ later)))

nth_last_none : {A : Type 0} (j : ℕ) (xs : List A) (x : A) → nth j (xs ++ x ∷ []) ≡ None → nth j xs ≡ None
nth_last_none j [] x none_ = refl
nth_last_none j (z ∷ xs) x none_ =
    by_test (j == 1)
    (λ here. let bad : Some z ≡ None = ap (λ b. cond b (Some z) (nth (j - 1) (xs ++ x ∷ []))) (sym here) ∙ none_ in cc)
    (λ here. ap (λ b. cond b (Some z) (nth (j - 1) xs)) here ∙ nth_last_none (j - 1) xs x (ap (λ b. cond b (Some z) (nth (j - 1) (xs ++ x ∷ []))) (sym here) ∙ none_))

nth_last : {A G : Type 0} (j : ℕ) (xs : List A) (x y : A) → nth j (xs ++ x ∷ []) ≡ Some y → (nth j xs ≡ Some y → G) → (nth j xs ≡ None → y ≡ x → G) → G
nth_last j [] x y at_ there last =
    by_test (j == 1)
    (λ here. let e : Some x ≡ Some y = rw here at at_ in let is : y ≡ x = cc in last refl is)
    (λ here. let e : None ≡ Some y = rw here at at_ in cc)
nth_last j (z ∷ xs) x y at_ there last =
    by_test (j == 1)
    (λ here. there (ap (λ b. cond b (Some z) (nth (j - 1) xs)) here ∙ ap (λ b. cond b (Some z) (nth (j - 1) (xs ++ x ∷ []))) (sym here) ∙ at_))
    (λ here.
    nth_last (j - 1) xs x y (ap (λ b. cond b (Some z) (nth (j - 1) (xs ++ x ∷ []))) (sym here) ∙ at_)
    (λ more. there (ap (λ b. cond b (Some z) (nth (j - 1) xs)) here ∙ more))
    (λ none_ is. last (ap (λ b. cond b (Some z) (nth (j - 1) xs)) here ∙ none_) is))

module _ {K : Type 0} where
  -- ---- what the faces of a gateway were told, after some of a line is done

  abbrev RowsFrom : Rows K → Rows K → Type 0
  RowsFrom g k = Each (λ h. FromBefore g (told_of h)) k.faces × (g.made ≤ k.made)

  -- a new gateway's faces were told nothing
  abbrev FromGateway : Option (Node K) → Rows K → Type 0
  FromGateway None k = Each (λ h. h.told ≡ []) k.faces
  FromGateway (Some x) k = RowsFrom x.rows k

  -- Between the fabrics faces are told nothing: each face of `t` was told what it was told in `s`.
  record LeavesTold (s t : Fabric K) : Type 0 where
    places : List Place
    faces_are : t.faces ≡ s.faces ++ places
    still : (j : ℕ) → nth j t.gateways ≡ None → nth j s.gateways ≡ None
    gateways : (j : ℕ) (y : Node K) → nth j t.gateways ≡ Some y → FromGateway (nth j s.gateways) y.rows

  rows_from_trans : (g h k : Rows K) → Each (λ f. f.number ≤ g.made) g.faces → RowsFrom g h → RowsFrom h k → RowsFrom g k
  rows_from_trans g h k made one two = (each_weaker (λ x. FromBefore h (told_of x)) (λ x. FromBefore g (told_of x)) each_ k.faces two.0, le_trans one.1 two.1)
    where
      by_face : (t : Told K) (o : Option (Face K)) → find_face t.number h ≡ o → FromFace h.made t o → FromBefore g t
      by_face t None found from =
          let up : h.made < t.number = from.1 in
          let low : g.made ≤ h.made = one.1 in
          let gone : find_face t.number g ≡ None = found_none t.number g.faces (each_weaker (λ f. f.number ≤ g.made) (λ f. f.number < t.number) (λ f le. omega arith) g.faces made) in
          subst (FromFace g.made t) (sym gone) (from.0, omega arith)
      by_face t (Some y) found from = subst (FromBefore g) (sym from) (find_each (λ f. FromBefore g (told_of f)) (λ f. t.number == f.number) h.faces y one.0 found)

      each_ : (x : Face K) → FromBefore h (told_of x) → FromBefore g (told_of x)
      each_ x from = by_face (told_of x) (find_face x.number h) refl from

  -- the face of a number, with its place and gateway
  record IsNumbered (s : Fabric K) (n : ℕ) (f : Face K) : Type 0 where
    place : Place
    node : Node K
    place_is : nth n s.faces ≡ Some place
    node_is : nth place.gateway s.gateways ≡ Some node
    face_is : find_face place.face node.rows ≡ Some f

  is_numbered : (s : Fabric K) (n : ℕ) (x : FaceAt K) → face_numbered s n ≡ Some x → IsNumbered s n x.face
  unfolding face_numbered
  is_numbered s n x found = by_place (nth n s.faces) refl found
    where
      by_face : (p : Place) (node : Node K) → nth n s.faces ≡ Some p → nth p.gateway s.gateways ≡ Some node → (o : Option (Face K)) → find_face p.face node.rows ≡ o
          → elim o [ None ↦ None | Some f ↦ Some (record { gateway = p.gateway; rows = node.rows; face = f }) ] ≡ Some x → IsNumbered s n x.face
      by_face p node at_ there None is e = cc
      by_face p node at_ there (Some f) is e =
          let y : FaceAt K = record { gateway = p.gateway; rows = node.rows; face = f } in
          let same_ : y ≡ x = cc in
          subst (IsNumbered s n) (ap (λ (z : FaceAt K). z.face) same_) (record { place = p; node = node; place_is = at_; node_is = there; face_is = is })

      by_node : (p : Place) → nth n s.faces ≡ Some p → (o : Option (Node K)) → nth p.gateway s.gateways ≡ o
          → elim o [ None ↦ None | Some node ↦ elim (find_face p.face node.rows) [ None ↦ None | Some f ↦ Some (record { gateway = p.gateway; rows = node.rows; face = f }) ] ] ≡ Some x → IsNumbered s n x.face
      by_node p at_ None there e = cc
      by_node p at_ (Some node) there e = by_face p node at_ there (find_face p.face node.rows) refl e

      by_place : (o : Option Place) → nth n s.faces ≡ o
          → elim o [ None ↦ None | Some p ↦ elim (nth p.gateway s.gateways) [ None ↦ None | Some node ↦ elim (find_face p.face node.rows) [ None ↦ None | Some f ↦ Some (record { gateway = p.gateway; rows = node.rows; face = f }) ] ] ] ≡ Some x → IsNumbered s n x.face
      by_place None at_ e = cc
      by_place (Some p) at_ e = by_node p at_ (nth p.gateway s.gateways) refl e

  numbered : (s : Fabric K) (n : ℕ) (p : Place) (node : Node K) (f : Face K) → nth n s.faces ≡ Some p → nth p.gateway s.gateways ≡ Some node → find_face p.face node.rows ≡ Some f → face_numbered s n ≡ Some (record { gateway = p.gateway; rows = node.rows; face = f })
  unfolding face_numbered
  numbered s n p node f at_ there is =
      let at_face = λ (o : Option (Face K)). (let found : Option (FaceAt K) = elim o [ None ↦ None | Some h ↦ Some (record { gateway = p.gateway; rows = node.rows; face = h }) ] in found) in
      let at_node = λ (o : Option (Node K)). (let found : Option (FaceAt K) = elim o [ None ↦ None | Some x ↦ elim (find_face p.face x.rows) [ None ↦ None | Some h ↦ Some (record { gateway = p.gateway; rows = x.rows; face = h }) ] ] in found) in
      let at_place = λ (o : Option Place). (let found : Option (FaceAt K) = elim o [ None ↦ None | Some q ↦ elim (nth q.gateway s.gateways) [ None ↦ None | Some x ↦ elim (find_face q.face x.rows) [ None ↦ None | Some h ↦ Some (record { gateway = q.gateway; rows = x.rows; face = h }) ] ] ] in found) in
      ap at_place at_ ∙ ap at_node there ∙ ap at_face is

module _ {K : Type 0} (cmp : K → K → Ordering) (matching : K → K → Bool) where
  leaves_elsewhere : (links : List Link) (waiting : ById (List (Message K))) (s t : Fabric K) → LeavesTold s t → LeavesTold s (record t { links = links; waiting = waiting })
  leaves_elsewhere links waiting s t leaves = record { places = leaves.places; faces_are = leaves.faces_are; still = leaves.still; gateways = leaves.gateways }

  itself : (s : Fabric K) → FabricIsInOrder cmp matching s → (j : ℕ) (y : Node K) → nth j s.gateways ≡ Some y → FromGateway (nth j s.gateways) y.rows
  itself s fine j y at_ = subst (λ o. FromGateway o y.rows) (sym at_) (from_itself y.rows (gateway_in_order cmp matching s j y at_ fine).rows.lists.faces_rise, le_refl y.rows.made)

  leaves_itself : (s : Fabric K) → FabricIsInOrder cmp matching s → LeavesTold s s
  leaves_itself s fine = record { places = []; faces_are = sym (append-nil s.faces); still = λ j none_. none_; gateways = itself s fine }

  -- one gateway's rows change
  leaves_changed : (n : ℕ) (change : Rows K → Rows K) (places : List Place) (s : Fabric K) → ((x : Node K) → nth n s.gateways ≡ Some x → RowsFrom x.rows (change x.rows)) → FabricIsInOrder cmp matching s → LeavesTold s (record (with_rows n change s) { faces = s.faces ++ places })
  leaves_changed n change places s rows fine = record {
    places = places;
    faces_are = refl;
    still = λ j none_. nth_at_none j n (λ (x : Node K). record x { rows = change x.rows }) s.gateways none_;
    gateways = λ j y at_.
        nth_at j n (λ (x : Node K). record x { rows = change x.rows }) s.gateways y at_
        (λ x is there y_is.
        let at_j : nth j s.gateways ≡ Some x = ap (λ k. nth k s.gateways) is ∙ there in
        subst (λ o. FromGateway o y.rows) (sym at_j) (subst (λ (z : Node K). RowsFrom x.rows z.rows) (sym y_is) (rows x there)))
        (λ there. itself s fine j y there);
  }

  leaves_rows : (n : ℕ) (change : Rows K → Rows K) (s : Fabric K) → ((x : Node K) → nth n s.gateways ≡ Some x → RowsFrom x.rows (change x.rows)) → FabricIsInOrder cmp matching s → LeavesTold s (with_rows n change s)
  leaves_rows n change s rows fine =
      let one = leaves_changed n change [] s rows fine in
      record { places = []; faces_are = sym (append-nil s.faces); still = one.still; gateways = one.gateways }

  leaves_trans : (s t u : Fabric K) → FabricIsInOrder cmp matching s → LeavesTold s t → LeavesTold t u → LeavesTold s u
  leaves_trans s t u fine one two = record {
    places = one.places ++ two.places;
    faces_are = two.faces_are ∙ ap (λ ps. ps ++ two.places) one.faces_are ∙ append_assoc s.faces one.places two.places;
    still = λ j none_. one.still j (two.still j none_);
    gateways = λ j z at_. by_t j z (nth j t.gateways) refl (two.gateways j z at_);
  }
    where
      from_none : (y z : Node K) → Each (λ h. h.told ≡ []) y.rows.faces → RowsFrom y.rows z.rows → Each (λ h. h.told ≡ []) z.rows.faces
      from_none y z none_ from = each_weaker (λ h. FromBefore y.rows (told_of h)) (λ h. h.told ≡ []) (λ h from_. by_face (told_of h) (find_face h.number y.rows) refl from_) z.rows.faces from.0
        where
          by_face : (v : Told K) (o : Option (Face K)) → find_face v.number y.rows ≡ o → FromFace y.rows.made v o → v.rows ≡ []
          by_face v None found from_ = from_.0
          by_face v (Some f) found from_ = ap (λ (w : Told K). w.rows) from_ ∙ find_each (λ h. h.told ≡ []) (λ h. v.number == h.number) y.rows.faces f none_ found

      by_s : (j : ℕ) (y z : Node K) → (o : Option (Node K)) → nth j s.gateways ≡ o → FromGateway o y.rows → RowsFrom y.rows z.rows → FromGateway o z.rows
      by_s j y z None at_ from more = from_none y z from more
      by_s j y z (Some x) at_ from more = rows_from_trans x.rows y.rows z.rows (gateway_in_order cmp matching s j x at_ fine).rows.lists.faces_made from more

      by_t : (j : ℕ) (z : Node K) (o : Option (Node K)) → nth j t.gateways ≡ o → FromGateway o z.rows → FromGateway (nth j s.gateways) z.rows
      by_t j z None at_ from = subst (λ o. FromGateway o z.rows) (sym (one.still j at_)) from
      by_t j z (Some y) at_ from = by_s j y z (nth j s.gateways) refl (one.gateways j y at_) from

  module _ (total : IsTotalOrder cmp) where
    call_from : (c : PlainCall K) (s : Fabric K) (n : ℕ) (x : Node K) → nth n s.gateways ≡ Some x → FabricIsInOrder cmp matching s → RowsFrom x.rows (altered cmp matching c x.rows)
    call_from c s n x at_ fine =
        let lists = (gateway_in_order cmp matching s n x at_ fine).rows.lists in (
          altered_from cmp matching total c x.rows lists,
          by_test (opens_face c)
              (λ opens. let made_ : (altered cmp matching c x.rows).made ≡ x.rows.made + 1 = (opened_faces cmp matching total (λ k. Unit {0}) c x.rows opens tt (each_always (λ f. Unit {0}) (λ f. tt) x.rows.faces)).1 in omega arith)
              (λ still. let made_ : (altered cmp matching c x.rows).made ≡ x.rows.made = (altered_faces cmp matching total (λ k. Unit {0}) c x.rows still lists (each_always (λ f. Unit {0}) (λ f. tt) x.rows.faces)).1 in omega arith),
        )

    leaves_call : (c : PlainCall K) (n : ℕ) (s : Fabric K) → FabricIsInOrder cmp matching s → LeavesTold s (with_rows n (altered cmp matching c) s)
    leaves_call c n s fine = leaves_rows n (altered cmp matching c) s (λ x at_. call_from c s n x at_ fine) fine

    leaves_open : (c : PlainCall K) (n : ℕ) (s : Fabric K) → FabricIsInOrder cmp matching s → LeavesTold s (with_rows n (altered cmp matching c) (with_place n s))
    leaves_open c n s fine = leaves_changed n (altered cmp matching c) (record { gateway = n; face = next_face (nth n s.gateways) } ∷ []) s (λ x at_. call_from c s n x at_ fine) fine

    leaves_end : (end : LinkEnd K) (s : Fabric K) → FabricIsInOrder cmp matching s → LeavesTold s (opened_at cmp matching (opening_at cmp matching s end) s)
    leaves_end end s fine = cases (opening_at cmp matching s end)
      where
        cases : (at : Option (CallAt K)) → LeavesTold s (opened_at cmp matching at s)
        cases None = leaves_itself s fine
        cases (Some at) = leaves_open at.call at.gateway s fine

    leaves_ends : (ends : List (LinkEnd K)) (s : Fabric K) → Each (λ end. 1 ≤ end.first) ends → FabricIsInOrder cmp matching s → LeavesTold s (opened_ends cmp matching ends s)
    unfolding opened_ends
    leaves_ends [] s real fine = leaves_itself s fine
    leaves_ends (end ∷ ends) s real fine =
        let t = opened_at cmp matching (opening_at cmp matching s end) s in
        leaves_trans s t (opened_ends cmp matching ends t) fine (leaves_end end s fine) (leaves_ends ends t real.1 (end_alone cmp matching total end s real.0 fine).0)

    leaves_closing : (face : ℕ) (s : Fabric K) → FabricIsInOrder cmp matching s → LeavesTold s (altered_at cmp matching s (closing_call s face))
    leaves_closing face s fine = closing_case cmp matching (λ at. LeavesTold s (altered_at cmp matching s at)) s face (leaves_itself s fine) (λ n k node at_. leaves_call (CloseFace k) n s fine)

    leaves_closings : (fs : List ℕ) (s : Fabric K) → FabricIsInOrder cmp matching s → LeavesTold s (closed_ends cmp matching fs s)
    unfolding closed_ends
    leaves_closings [] s fine = leaves_itself s fine
    leaves_closings (face ∷ fs) s fine =
        let t = altered_at cmp matching s (closing_call s face) in
        leaves_trans s t (closed_ends cmp matching fs t) fine (leaves_closing face s fine) (leaves_closings fs t (closing_alone cmp matching total face s fine))

    leaves_unlinked : (n : ℕ) (s t : Fabric K) → LeavesTold s t → LeavesTold s (without_link n t)
    leaves_unlinked n s t leaves = cases (nth n t.links)
      where
        cases : (o : Option Link) → LeavesTold s (elim o [ None ↦ t | Some link ↦ record t { links = at_nth n (λ l. record l { is_open = false }) t.links; waiting = without_id link.one (without_id link.two t.waiting) } ])
        cases None = leaves
        cases (Some link) = leaves_elsewhere (at_nth n (λ l. record l { is_open = false }) t.links) (without_id link.one (without_id link.two t.waiting)) s t leaves

    -- what a line itself changes tells nothing
    leaves_line : (line : PlainLine K) (s : Fabric K) → HasFirstIds line → FabricIsInOrder cmp matching s → LeavesTold s (altered_by_line cmp matching line s)
    unfolding altered_by_line call_of parts_of altered_by
    leaves_line (Gateway mode zid regions south name timeout refused) s real fine =
        let node : Node K = record { rows = new_rows mode zid regions timeout refused; south = south; name = name } in
        record {
          places = [];
          faces_are = sym (append-nil s.faces);
          still = λ j none_. nth_last_none j s.gateways node none_;
          gateways = λ j y at_.
              nth_last j s.gateways node y at_ (λ there. itself s fine j y there)
              (λ none_ is. subst (λ o. FromGateway o y.rows) (sym none_) (subst (λ (z : Node K). Each (λ h. h.told ≡ []) z.rows.faces) (sym is) tt));
        }
    leaves_line (Session n first) s real fine = leaves_open (NewSession first) n s fine
    leaves_line (FaceLine n mode zid region bound first) s real fine =
        let c : PlainCall K = NewTransport zid mode region bound first in
        called_at (λ at. LeavesTold s (opened_at cmp matching at s)) s n c (leaves_itself s fine) (λ node at_. leaves_open c n s fine)
    leaves_line (LinkLine one two first back) s real fine =
        let ends = link_ends s one two first back in
        let linked = with_link s in
        subst (LeavesTold s) (sym (opened_elsewhere cmp matching total ends linked.links linked.waiting s)) (leaves_elsewhere linked.links linked.waiting s (opened_ends cmp matching ends s) (leaves_ends ends s (starts_real cmp matching s one two first back real.0 real.1) fine))
    leaves_line (Unlink link) s real fine = leaves_unlinked link s (closed_ends cmp matching (both_ends cmp matching s link) s) (leaves_closings (both_ends cmp matching s link) s fine)
    leaves_line (Step link back) s real fine =
        let taken = without_message_is cmp matching link back s in
        subst (λ (t : Fabric K). LeavesTold s (altered_at cmp matching t (call_of_step s back (nth link s.links)))) (sym taken.1)
        (called_by_step (λ at. LeavesTold s (altered_at cmp matching (record s { waiting = taken.0 }) at)) s back (nth link s.links) (leaves_elsewhere s.links taken.0 s s (leaves_itself s fine))
        (λ n node c at_ still. leaves_elsewhere s.links taken.0 s (with_rows n (altered cmp matching c) s) (leaves_call c n s fine)))
    leaves_line (Speak c) s real fine = called_by_speaker (λ at. LeavesTold s (altered_at cmp matching s at)) s c (leaves_itself s fine) (λ n node call at_ still. leaves_call call n s fine)
    leaves_line (Moment n now) s real fine = called_at (λ at. LeavesTold s (altered_at cmp matching s at)) s n (Expire now) (leaves_itself s fine) (λ node at_. leaves_call (Expire now) n s fine)
    leaves_line (SetTreesAt n region t) s real fine =
        called_at (λ at. LeavesTold s (altered_at cmp matching s at)) s n (SetTrees region (table_at s n t)) (leaves_itself s fine) (λ node at_. leaves_call (SetTrees region (table_at s n t)) n s fine)

    leaves_refused : (line : PlainLine K) (r : Refusal) (s : Fabric K) → FabricIsInOrder cmp matching s → LeavesTold s (after_refusal cmp matching line r s)
    leaves_refused (Step link back) r s fine =
        let taken = without_message_is cmp matching link back s in
        of_cond (LeavesTold s) (nat_lt 3 (number_of r)) (without_message link back s) s (λ _. subst (LeavesTold s) (sym taken.1) (leaves_elsewhere s.links taken.0 s s (leaves_itself s fine))) (λ _. leaves_itself s fine)
    leaves_refused (Gateway mode zid regions south name timeout refused) r s fine = leaves_itself s fine
    leaves_refused (Session gateway first) r s fine = leaves_itself s fine
    leaves_refused (FaceLine gateway mode zid region bound first) r s fine = leaves_itself s fine
    leaves_refused (LinkLine one two first back) r s fine = leaves_itself s fine
    leaves_refused (Unlink link) r s fine = leaves_itself s fine
    leaves_refused (Speak call) r s fine = leaves_itself s fine
    leaves_refused (Moment gateway now) r s fine = leaves_itself s fine
    leaves_refused (SetTreesAt gateway region table) r s fine = leaves_itself s fine

    -- the gateway of a number, before its faces heard
    gateway_before : (s : Fabric K) (ms : List (Sent K)) (k m : ℕ) (gs : List (Node K)) (z : Node K) → nth m (gateways_after_hearing cmp s ms k gs) ≡ Some z → (y : Node K) × (nth m gs ≡ Some y) × (z.rows ≡ rows_after_hearing cmp s ms (k + m - 1) y.rows)
    unfolding gateways_after_hearing
    gateway_before s ms k m [] z at_ = cc
    gateway_before s ms k m (y ∷ gs) z at_ =
        by_test (m == 1)
        (λ here.
        let one : m ≡ 1 = eqb-true m 1 here in
        let k_is : k ≡ k + m - 1 = omega arith in
        let x : Node K = record y { rows = rows_after_hearing cmp s ms k y.rows } in
        let e : Some x ≡ Some z = ap (λ b. cond b (Some x) (nth (m - 1) (gateways_after_hearing cmp s ms (k + 1) gs))) (sym here) ∙ at_ in
        let is : z ≡ x = cc in
        (y, ap (λ b. cond b (Some y) (nth (m - 1) gs)) here, ap (λ (w : Node K). w.rows) is ∙ ap (λ j. rows_after_hearing cmp s ms j y.rows) k_is))
        (λ here.
        let later : nth (m - 1) (gateways_after_hearing cmp s ms (k + 1) gs) ≡ Some z = ap (λ b. cond b (Some (record y { rows = rows_after_hearing cmp s ms k y.rows })) (nth (m - 1) (gateways_after_hearing cmp s ms (k + 1) gs))) (sym here) ∙ at_ in
        let rest = gateway_before s ms (k + 1) (m - 1) gs z later in
        let real : 1 ≤ m - 1 = nth_real (m - 1) gs rest.0 rest.1 in
        let j_is : k + 1 + (m - 1) - 1 ≡ k + m - 1 = omega arith in
        (rest.0, ap (λ b. cond b (Some y) (nth (m - 1) gs)) here ∙ rest.1, rest.2 ∙ ap (λ j. rows_after_hearing cmp s ms j rest.0.rows) j_is))

    -- the face of a number, before it heard
    record HeardFrom (t : Fabric K) (n : ℕ) (ms : List (Sent K)) (f : Face K) : Type 0 where
      place : Place
      node : Node K
      before : Face K
      place_is : nth n t.faces ≡ Some place
      node_is : nth place.gateway t.gateways ≡ Some node
      face_is : find_face place.face node.rows ≡ Some before
      rises : RiseFrom (λ p. p.face) 1 (places_of place.gateway t.faces)
      told : told_of f ≡ told_by_all cmp (printed_for n ms) (told_of before)

    heard_from : (t : Fabric K) (ms : List (Sent K)) (n : ℕ) (y : FaceAt K) → FabricIsInOrder cmp matching (after_hearing cmp ms t) → face_numbered (after_hearing cmp ms t) n ≡ Some y → HeardFrom t n ms y.face
    heard_from t ms n y fine found =
        let it = is_numbered (after_hearing cmp ms t) n y found in
        let p = it.place in
        let gateway = gateway_in_order cmp matching (after_hearing cmp ms t) p.gateway it.node it.node_is fine in
        let before = gateway_before t ms 1 p.gateway t.gateways it.node it.node_is in
        let g = before.0.rows in
        let j_is : 1 + p.gateway - 1 ≡ p.gateway = omega arith in
        let rows_ : it.node.rows ≡ rows_after_hearing cmp t ms p.gateway g = before.2 ∙ ap (λ j. rows_after_hearing cmp t ms j g) j_is in
        let number_ : number_from 1 p.gateway p.face t.faces ≡ n = number_of_nth n t.faces p gateway.places_rise it.place_is in
        let found_ : option_map (λ (f : Face K). heard_all cmp g.moment (printed_for (number_from 1 p.gateway f.number t.faces) ms) f) (find_face p.face g) ≡ Some y.face =
        sym (find_heard cmp matching p.face g.moment (λ k. printed_for (number_from 1 p.gateway k t.faces) ms) g.faces) ∙ ap (find_face p.face) (sym rows_) ∙ it.face_is in
        cases p before.0 it.place_is before.1 gateway.places_rise number_ (find_face p.face g) refl found_
      where
        cases : (p : Place) (node : Node K) → nth n t.faces ≡ Some p → nth p.gateway t.gateways ≡ Some node → RiseFrom (λ q. q.face) 1 (places_of p.gateway t.faces) → number_from 1 p.gateway p.face t.faces ≡ n → (o : Option (Face K)) → find_face p.face node.rows ≡ o
            → option_map (λ (f : Face K). heard_all cmp node.rows.moment (printed_for (number_from 1 p.gateway f.number t.faces) ms) f) o ≡ Some y.face → HeardFrom t n ms y.face
        cases p node at_ there rises number_ None is e = cc
        cases p node at_ there rises number_ (Some h) is e =
            let own : p.face ≡ h.number = eqb-true p.face h.number (find_passes (λ f. p.face == f.number) node.rows.faces h is) in
            let heard : heard_all cmp node.rows.moment (printed_for (number_from 1 p.gateway h.number t.faces) ms) h ≡ y.face = cc in
            let n_is : number_from 1 p.gateway h.number t.faces ≡ n = ap (λ k. number_from 1 p.gateway k t.faces) (sym own) ∙ number_ in
            record {
              place = p;
              node = node;
              before = h;
              place_is = at_;
              node_is = there;
              face_is = is;
              rises = rises;
              told = ap told_of (sym heard) ∙ told_alone cmp node.rows.moment (printed_for (number_from 1 p.gateway h.number t.faces) ms) h ∙ ap (λ k. told_by_all cmp (printed_for k ms) (told_of h)) n_is;
            }

    -- what a face of both fabrics was told
    told_between : (s t : Fabric K) (ms : List (Sent K)) (n : ℕ) (x y : FaceAt K) → LeavesTold s t → FabricIsInOrder cmp matching (after_hearing cmp ms t) → face_numbered s n ≡ Some x → face_numbered (after_hearing cmp ms t) n ≡ Some y
        → told_of y.face ≡ told_by_all cmp (printed_for n ms) (told_of x.face)
    told_between s t ms n x y leaves fine was is =
        let old = is_numbered s n x was in
        let new_ = heard_from t ms n y fine is in
        let h = new_.before in
        let more : nth n t.faces ≡ Some old.place = ap (nth n) leaves.faces_are ∙ nth_append n s.faces leaves.places old.place old.place_is in
        let e : Some old.place ≡ Some new_.place = sym more ∙ new_.place_is in
        let same_ : old.place ≡ new_.place = cc in
        let node_is : nth new_.place.gateway s.gateways ≡ Some old.node = ap (λ (p : Place). nth p.gateway s.gateways) (sym same_) ∙ old.node_is in
        let from : RowsFrom old.node.rows new_.node.rows = subst (λ o. FromGateway o new_.node.rows) node_is (leaves.gateways new_.place.gateway new_.node new_.node_is) in
        let own : FromBefore old.node.rows (told_of h) = find_each (λ f. FromBefore old.node.rows (told_of f)) (λ f. new_.place.face == f.number) new_.node.rows.faces h from.0 new_.face_is in
        let number_ : h.number ≡ old.place.face = sym (eqb-true new_.place.face h.number (find_passes (λ f. new_.place.face == f.number) new_.node.rows.faces h new_.face_is)) ∙ ap (λ (p : Place). p.face) (sym same_) in
        let found : find_face h.number old.node.rows ≡ Some x.face = ap (λ k. find_face k old.node.rows) number_ ∙ old.face_is in
        new_.told ∙ ap (told_by_all cmp (printed_for n ms)) (subst (FromFace old.node.rows.made (told_of h)) found own)

    -- a face that is new was told nothing before
    told_anew_between : (s t : Fabric K) (ms : List (Sent K)) (n id : ℕ) (e : K) (y : FaceAt K) → FabricIsInOrder cmp matching s → LeavesTold s t → FabricIsInOrder cmp matching (after_hearing cmp ms t) → face_numbered s n ≡ None → face_numbered (after_hearing cmp ms t) n ≡ Some y
        → has_pair cmp id e y.face.told ≡ is_kept cmp id e (printed_for n ms) false
    told_anew_between s t ms n id e y was_fine leaves fine was is =
        ap (λ (v : Told K). has_pair cmp id e v.rows) (new_.told ∙ sym (told_alone cmp 0 (printed_for n ms) h))
        ∙ kept_pairs cmp total 0 id e (printed_for n ms) h
        ∙ ap (λ rows. is_kept cmp id e (printed_for n ms) (has_pair cmp id e rows)) (by_gateway (nth p.gateway s.gateways) refl (leaves.gateways p.gateway new_.node new_.node_is))
      where
        new_ : HeardFrom t n ms y.face
        new_ = heard_from t ms n y fine is

        p : Place
        p = new_.place

        h : Face K
        h = new_.before

        own : p.face ≡ h.number
        own = eqb-true p.face h.number (find_passes (λ f. p.face == f.number) new_.node.rows.faces h new_.face_is)

        -- the face had a number before
        numbered_before : (node : Node K) (f : Face K) → nth p.gateway s.gateways ≡ Some node → find_face p.face node.rows ≡ Some f → ⊥
        numbered_before node f at_ found =
            let gateway = gateway_in_order cmp matching s p.gateway node at_ was_fine in
            let f_is : p.face ≡ f.number = eqb-true p.face f.number (find_passes (λ h. p.face == h.number) node.rows.faces f found) in
            let placed : is_placed p.gateway p.face s.faces ≡ true = ap (λ k. is_placed p.gateway k s.faces) f_is ∙ find_each (λ f. is_placed p.gateway f.number s.faces ≡ true) (λ h. p.face == h.number) node.rows.faces f gateway.placed found in
            let m = number_from 1 p.gateway p.face s.faces in
            let m_is : m ≡ m + 1 - 1 = omega arith in
            let there : nth m s.faces ≡ Some p = ap (λ k. nth k s.faces) m_is ∙ nth_of_number 1 p.gateway p.face s.faces placed in
            let more : nth m t.faces ≡ Some p = ap (nth m) leaves.faces_are ∙ nth_append m s.faces leaves.places p there in
            let one : number_from 1 p.gateway p.face t.faces ≡ m = number_of_nth m t.faces p new_.rises more in
            let two : number_from 1 p.gateway p.face t.faces ≡ n = number_of_nth n t.faces p new_.rises new_.place_is in
            let n_there : nth n s.faces ≡ Some p = ap (λ k. nth k s.faces) (sym two ∙ one) ∙ there in
            let x : FaceAt K = record { gateway = p.gateway; rows = node.rows; face = f } in
            let bad : None ≡ Some x = sym was ∙ numbered s n p node f n_there at_ found in
            cc

        by_face : (node : Node K) → nth p.gateway s.gateways ≡ Some node → (o : Option (Face K)) → find_face h.number node.rows ≡ o → FromFace node.rows.made (told_of h) o → h.told ≡ []
        by_face node at_ None found from = from.0
        by_face node at_ (Some f) found from = absurd (numbered_before node f at_ (ap (λ k. find_face k node.rows) own ∙ found))

        by_gateway : (o : Option (Node K)) → nth p.gateway s.gateways ≡ o → FromGateway o new_.node.rows → h.told ≡ []
        by_gateway None at_ from = find_each (λ f. f.told ≡ []) (λ f. p.face == f.number) new_.node.rows.faces h from new_.face_is
        by_gateway (Some node) at_ from = by_face node at_ (find_face h.number node.rows) refl (find_each (λ f. FromBefore node.rows (told_of f)) (λ f. p.face == f.number) new_.node.rows.faces h from.0 new_.face_is)

    -- Each line tells a face what is printed for it.
    pub told_by_line : (line : PlainLine K) (entry : PlainEntry K) (s : Fabric K) (n : ℕ) (x y : FaceAt K) → HasFirstIds line → FabricIsInOrder cmp matching s → FabricIsInOrder cmp matching (fabric_after cmp matching line entry s)
        → face_numbered s n ≡ Some x → face_numbered (fabric_after cmp matching line entry s) n ≡ Some y → told_of y.face ≡ told_by_all cmp (printed_for n (messages_of entry)) (told_of x.face)
    unfolding fabric_after face_numbered printed_for
    told_by_line line (Ok ms) s n x y real fine after was is =
        let t = altered_by_line cmp matching line s in
        told_between s t ms n x y (leaves_line line s real fine) (record { gateways = after.gateways; places_exist = after.places_exist }) was is
    told_by_line line (Err r) s n x y real fine after was is =
        let t = after_refusal cmp matching line r s in
        let none_ = sym (after_hearing_nothing cmp t) in
        told_between s t [] n x y (leaves_refused line r s fine) (subst (FabricIsInOrder cmp matching) none_ after) was (subst (λ (u : Fabric K). face_numbered u n ≡ Some y) none_ is)

    pub told_by_making : (line : PlainLine K) (entry : PlainEntry K) (s : Fabric K) (n id : ℕ) (e : K) (y : FaceAt K) → HasFirstIds line → FabricIsInOrder cmp matching s → FabricIsInOrder cmp matching (fabric_after cmp matching line entry s)
        → face_numbered s n ≡ None → face_numbered (fabric_after cmp matching line entry s) n ≡ Some y → has_pair cmp id e y.face.told ≡ is_kept cmp id e (printed_for n (messages_of entry)) false
    unfolding fabric_after face_numbered printed_for
    told_by_making line (Ok ms) s n id e y real fine after was is =
        told_anew_between s (altered_by_line cmp matching line s) ms n id e y fine (leaves_line line s real fine) (record { gateways = after.gateways; places_exist = after.places_exist }) was is
    told_by_making line (Err r) s n id e y real fine after was is =
        let t = after_refusal cmp matching line r s in
        let none_ = sym (after_hearing_nothing cmp t) in
        told_anew_between s t [] n id e y fine (leaves_refused line r s fine) (subst (FabricIsInOrder cmp matching) none_ after) was (subst (λ (u : Fabric K). face_numbered u n ≡ Some y) none_ is)
