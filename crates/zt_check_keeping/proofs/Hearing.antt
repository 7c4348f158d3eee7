-- What stays of all gateways when printed messages are heard.
use Rattle.std.proofs.Common.{◌≡◌, ◌⊎◌, inl, inr, ℕ, ◌+◌, ◌-◌, ◌≤◌, Bool, true, false, ◌&&◌, ◌||◌, ◌==◌, not, if◌then◌else◌, List, [], ◌∷◌, ◌++◌, map, filter, Option, None, Some, refl, sym, ap, subst, ◌∙◌, ⊎_elim, arith, eqb-true, eq-eqb}
use Rattle.std.proofs.lemmas.Bool.{and_parts, eqb-false, or_parts}
use Rattle.std.specs.List.{list_any}
use Rattle.std.specs.declared.cmp.Ordering.{Ordering}
use Rattle.zt_keys.specs.Test.{by_test}
use Rattle.zt_protocol.specs.declared.entries.Sent.{Sent}
use Rattle.zt_protocol.specs.declared.messages.Message.{Message}
use Rattle.zt_protocol.specs.declared.messages.Message.TheVariants.{DeclareToken, UndeclareToken, DeclareFinal, Interest, InterestFinal, DeclareSubscriber, DeclareQueryable}
use Rattle.zt_model.specs.Fabric.{Fabric, Node, Place, after_hearing, gateways_after_hearing, number_of_place, printed_for, rows_after_hearing}
use Rattle.zt_model.specs.Hearing.{heard, heard_all, told_pair}
use Rattle.zt_model.specs.Lists.{is_some_and, nth, same}
use Rattle.zt_model.specs.Promises.{EachGateway}
use Rattle.zt_model.specs.Rows.{ById, Face, Rows}
use Rattle.zt_model.specs.Transcript.{Each}
use Rattle.zt_check_fabric.specs.Placed.{IsPlaced, has_one_place, is_place}
use Rattle.zt_check_fabric.proofs.Numbered.{nth_zero}
use Rattle.zt_check_fabric.proofs.Numbers.{number_is}
use Rattle.zt_check_keeping.specs.Heard.{heard_among, heard_at, heard_by, heard_of, heard_there, told_under}
use Rattle.zt_check_keeping.proofs.Going.{Goes, Stays, mapped, stays_same}
use Rattle.zt_check_keeping.proofs.Members.{Among, append_left, append_right, each_member, filter_in, in_append, in_filter}
use Rattle.zt_check_keeping.proofs.Standing.{Has}

-- ---- one face

module _ {K : Type 0} (cmp : K → K → Ordering) (exact : (a b : K) → same cmp a b ≡ true → a ≡ b) where
  -- a message adds the expression to what its face was told
  abbrev Adds : K → Message K → Type 0
  Adds e (DeclareToken id k interest node) = (e ≡ k) × ((id == 0) ≡ false)
  Adds e _ = ⊥

  -- a message takes the row away
  abbrev Takes : ℕ × K → Message K → Type 0
  Takes row (UndeclareToken id None node) = id ≡ row.0
  Takes row (UndeclareToken id (Some k) node) = k ≡ row.1
  Takes row _ = ⊥

  more_told : (now : ℕ) (m : Message K) (f : Face K) (row : ℕ × K) → Among row (heard cmp now m f).told → Among row f.told ⊎ Adds row.1 m
  more_told now (DeclareToken id e interest node) f row at =
      by_test (id == 0 || list_any (λ r. id == r.0 && same cmp e r.1) f.told)
      (λ old. inl (rw old at at))
      (λ new. ⊎_elim (λ there. inl there) (λ last. inr (is last, (or_parts (id == 0) (list_any (λ r. id == r.0 && same cmp e r.1) f.told) new).0)) (in_append row f.told ((id, e) ∷ []) (rw new at at)))
    where
      is : Among row ((id, e) ∷ []) → row.1 ≡ e
      is (inl here) = ap (λ (r : ℕ × K). r.1) here
      is (inr none) = absurd none
  more_told now (UndeclareToken id None node) f row at = inl (in_filter (λ (r : ℕ × K). not (id == r.0)) row f.told at)
  more_told now (UndeclareToken id (Some e) node) f row at = inl (in_filter (λ (r : ℕ × K). not (same cmp e r.1)) row f.told at)
  more_told now (DeclareFinal interest) f row at = inl at
  more_told now (Interest id mode options e) f row at = inl at
  more_told now (InterestFinal id) f row at = inl at
  more_told now (DeclareSubscriber id e interest) f row at = inl at
  more_told now (DeclareQueryable id e info interest) f row at = inl at

  less_told : (now : ℕ) (m : Message K) (f : Face K) (row : ℕ × K) → Among row f.told → Among row (heard cmp now m f).told ⊎ Takes row m
  less_told now (DeclareToken id e interest node) f row at =
      by_test (id == 0 || list_any (λ r. id == r.0 && same cmp e r.1) f.told)
      (λ old. rw old (inl at))
      (λ new. rw new (inl (append_left row f.told ((id, e) ∷ []) at)))
  less_told now (UndeclareToken id None node) f row at =
      by_test (id == row.0)
      (λ gone. inr (eqb-true id row.0 gone))
      (λ kept. inl (filter_in (λ (r : ℕ × K). not (id == r.0)) row f.told at (ap not kept)))
  less_told now (UndeclareToken id (Some e) node) f row at =
      by_test (same cmp e row.1)
      (λ gone. inr (exact e row.1 gone))
      (λ kept. inl (filter_in (λ (r : ℕ × K). not (same cmp e r.1)) row f.told at (ap not kept)))
  less_told now (DeclareFinal interest) f row at = inl at
  less_told now (Interest id mode options e) f row at = inl at
  less_told now (InterestFinal id) f row at = inl at
  less_told now (DeclareSubscriber id e interest) f row at = inl at
  less_told now (DeclareQueryable id e info interest) f row at = inl at

  -- what messages leave of a face
  record IsStill (o f : Face K) : Type 0 where
    number : f.number ≡ o.number
    region : f.region ≡ o.region
    live : f.live ≡ o.live
    held : f.held ≡ o.held

  still_one : (now : ℕ) (m : Message K) (f : Face K) → IsStill f (heard cmp now m f)
  still_one now (DeclareToken id e interest node) f = record { number = refl; region = refl; live = refl; held = refl }
  still_one now (UndeclareToken id e node) f = record { number = refl; region = refl; live = refl; held = refl }
  still_one now (DeclareFinal interest) f = record { number = refl; region = refl; live = refl; held = refl }
  still_one now (Interest id mode options e) f = record { number = refl; region = refl; live = refl; held = refl }
  still_one now (InterestFinal id) f = record { number = refl; region = refl; live = refl; held = refl }
  still_one now (DeclareSubscriber id e interest) f = record { number = refl; region = refl; live = refl; held = refl }
  still_one now (DeclareQueryable id e info interest) f = record { number = refl; region = refl; live = refl; held = refl }

  still_all : (now : ℕ) (ms : List (Message K)) (f : Face K) → IsStill f (heard_all cmp now ms f)
  unfolding heard_all
  still_all now [] f = record { number = refl; region = refl; live = refl; held = refl }
  still_all now (m ∷ ms) f =
      let one = still_one now m f in
      let more = still_all now ms (heard cmp now m f) in
      record { number = more.number ∙ one.number; region = more.region ∙ one.region; live = more.live ∙ one.live; held = more.held ∙ one.held }

  -- a message of these does
  abbrev Some_of : (Message K → Type 0) → List (Message K) → Type 0
  Some_of P ms = (m : Message K) × (Among m ms × P m)

  all_more : (now : ℕ) (ms : List (Message K)) (f : Face K) (row : ℕ × K) → Among row (heard_all cmp now ms f).told → Among row f.told ⊎ Some_of (Adds row.1) ms
  unfolding heard_all
  all_more now [] f row at = inl at
  all_more now (m ∷ ms) f row at =
      ⊎_elim
      (λ there. ⊎_elim (λ old. inl old) (λ adds. inr (m, (inl refl, adds))) (more_told now m f row there))
      (λ later. inr (later.0, (inr later.1.0, later.1.1)))
      (all_more now ms (heard cmp now m f) row at)

  all_less : (now : ℕ) (ms : List (Message K)) (f : Face K) (row : ℕ × K) → Among row f.told → Among row (heard_all cmp now ms f).told ⊎ Some_of (Takes row) ms
  unfolding heard_all
  all_less now [] f row at = inl at
  all_less now (m ∷ ms) f row at =
      ⊎_elim
      (λ there. ⊎_elim (λ kept. inl kept) (λ later. inr (later.0, (inr later.1.0, later.1.1))) (all_less now ms (heard cmp now m f) row there))
      (λ takes. inr (m, (inl refl, takes)))
      (less_told now m f row at)

  -- ---- the messages of a face, and what is in the list of what was heard

  in_printed : (number : ℕ) (ms : List (Sent K)) (m : Message K) → Among m (printed_for number ms) → (x : Sent K) × (Among x ms × ((number ≡ x.face) × (m ≡ x.message)))
  unfolding printed_for
  in_printed number [] m at = absurd at
  in_printed number (x ∷ ms) m at =
      by_test (number == x.face)
      (λ own. first (eqb-true number x.face own) (rw own at at) (λ later. in_printed number ms m later))
      (λ other. let rest = in_printed number ms m (rw other at at) in (rest.0, (inr rest.1.0, rest.1.1)))
    where
      first : number ≡ x.face → Among m (x.message ∷ printed_for number ms) → (Among m (printed_for number ms) → (y : Sent K) × (Among y ms × ((number ≡ y.face) × (m ≡ y.message))))
          → (y : Sent K) × (Among y (x ∷ ms) × ((number ≡ y.face) × (m ≡ y.message)))
      first own (inl here) more = (x, (inl refl, (own, here)))
      first own (inr later) more = let rest = more later in (rest.0, (inr rest.1.0, rest.1.1))

  told_in : (gateway n id : ℕ) (e : K) (rows : ById K) → Among (id, e) rows → Among (gateway, n, e) (told_under gateway n id rows)
  told_in gateway n id e [] at = absurd at
  told_in gateway n id e (row ∷ rows) (inl same_row) =
      let here : (id == row.0) ≡ true = eq-eqb id row.0 (ap (λ (r : ℕ × K). r.0) same_row) in
      rw here (inl (ap (λ (r : ℕ × K). (gateway, n, r.1)) same_row))
  told_in gateway n id e (row ∷ rows) (inr at) =
      by_test (id == row.0)
      (λ here. rw here (inr (told_in gateway n id e rows at)))
      (λ here. rw here (told_in gateway n id e rows at))

  adds_in : (gateway n : ℕ) (told : ById K) (m : Message K) (e : K) → Adds e m → Among (gateway, n, e) (heard_of gateway n told m)
  adds_in gateway n told (DeclareToken id k interest node) e adds = let real : (id == 0) ≡ false = adds.1 in rw real (inl (ap (λ (x : K). (gateway, n, x)) adds.0))
  adds_in gateway n told (UndeclareToken id k node) e adds = absurd adds
  adds_in gateway n told (DeclareFinal interest) e adds = absurd adds
  adds_in gateway n told (Interest id mode options k) e adds = absurd adds
  adds_in gateway n told (InterestFinal id) e adds = absurd adds
  adds_in gateway n told (DeclareSubscriber id k interest) e adds = absurd adds
  adds_in gateway n told (DeclareQueryable id k info interest) e adds = absurd adds

  takes_in : (gateway n : ℕ) (told : ById K) (m : Message K) (row : ℕ × K) → Among row told → Takes row m → Among (gateway, n, row.1) (heard_of gateway n told m)
  takes_in gateway n told (UndeclareToken id None node) row at takes = told_in gateway n id row.1 told (subst (λ i. Among (i, row.1) told) (sym takes) at)
  takes_in gateway n told (UndeclareToken id (Some k) node) row at takes = inl (ap (λ (x : K). (gateway, n, x)) (sym takes))
  takes_in gateway n told (DeclareToken id k interest node) row at takes = absurd takes
  takes_in gateway n told (DeclareFinal interest) row at takes = absurd takes
  takes_in gateway n told (Interest id mode options k) row at takes = absurd takes
  takes_in gateway n told (InterestFinal id) row at takes = absurd takes
  takes_in gateway n told (DeclareSubscriber id k interest) row at takes = absurd takes
  takes_in gateway n told (DeclareQueryable id k info interest) row at takes = absurd takes

  among_in : (gateway n : ℕ) (m : Message K) (o : Face K) (fs : List (Face K)) (x : ℕ × ℕ × K) → Among o fs → n ≡ o.number → Among x (heard_of gateway n o.told m) → Among x (heard_among gateway n m fs)
  among_in gateway n m o [] x at own there = absurd at
  among_in gateway n m o (f ∷ fs) x (inl is) own there =
      let here : (n == f.number) ≡ true = eq-eqb n f.number (own ∙ ap (λ (y : Face K). y.number) is) in
      rw here (append_left x (heard_of gateway n f.told m) (heard_among gateway n m fs) (subst (λ (y : Face K). Among x (heard_of gateway n y.told m)) is there))
  among_in gateway n m o (f ∷ fs) x (inr at) own there =
      by_test (n == f.number)
      (λ here. rw here (append_right x (heard_of gateway n f.told m) (heard_among gateway n m fs) (among_in gateway n m o fs x at own there)))
      (λ here. rw here (among_in gateway n m o fs x at own there))

  by_in : (s : Fabric K) (ms : List (Sent K)) (m : Sent K) (x : ℕ × ℕ × K) → Among m ms → Among x (heard_there s m.message (nth m.face s.faces)) → Among x (heard_by s ms)
  by_in s [] m x at there = absurd at
  by_in s (y ∷ ms) m x (inl is) there = append_left x (heard_there s y.message (nth y.face s.faces)) (heard_by s ms) (subst (λ (z : Sent K). Among x (heard_there s z.message (nth z.face s.faces))) is there)
  by_in s (y ∷ ms) m x (inr at) there = append_right x (heard_there s y.message (nth y.face s.faces)) (heard_by s ms) (by_in s ms m x at there)

  -- ---- gateways

  -- a face after its messages: what it keeps is as before, but for what is in the list
  pub record HearsOn (heard_list : List (ℕ × ℕ × K)) (n : ℕ) (o f : Face K) : Type 0 where
    pub number : f.number ≡ o.number
    pub region : f.region ≡ o.region
    pub held : f.held ≡ o.held
    pub more : (e : K) → Has e f.told → Has e o.told ⊎ Among (n, o.number, e) heard_list
    pub less : (e : K) → Has e o.told → Has e f.told ⊎ Among (n, o.number, e) heard_list

  module _ (s : Fabric K) (ms : List (Sent K)) (placed : IsPlaced s) (heard_list : List (ℕ × ℕ × K)) (within : (x : ℕ × ℕ × K) → Among x (heard_by s ms) → Among x heard_list) where
    face_there : (n : ℕ) (node : Node K) (o : Face K) → nth n s.gateways ≡ Some node → Among o node.rows.faces → has_one_place n o.number s.faces ≡ true
        → (m : Sent K) → Among m ms → number_of_place s n o.number ≡ m.face → (x : ℕ × ℕ × K) → Among x (heard_of n o.number o.told m.message) → Among x heard_list
    unfolding number_of_place
    face_there n node o there at one m sent own x listed =
        within x (by_in s ms m x sent (go (nth m.face s.faces) (sym (number_is m.face n o.number s.faces one) ∙ eq-eqb _ m.face own)))
      where
        go : (found : Option Place) → is_some_and found (is_place n o.number) ≡ true → Among x (heard_there s m.message found)
        go None is = cc
        go (Some p) is =
            let parts = and_parts (n == p.gateway) (o.number == p.face) is in
            let gateway : n ≡ p.gateway = eqb-true n p.gateway parts.0 in
            let number : o.number ≡ p.face = eqb-true o.number p.face parts.1 in
            subst (λ k. Among x (heard_at k p.face m.message (nth k s.gateways))) gateway
            (subst (λ i. Among x (heard_at n i m.message (nth n s.gateways))) number
            (subst (λ (found : Option (Node K)). Among x (heard_at n o.number m.message found)) (sym there)
            (among_in n o.number m.message o node.rows.faces x at refl listed)))

    face_hears : (n : ℕ) (node : Node K) (o : Face K) → nth n s.gateways ≡ Some node → Among o node.rows.faces → has_one_place n o.number s.faces ≡ true
        → HearsOn heard_list n o (heard_all cmp node.rows.moment (printed_for (number_of_place s n o.number) ms) o)
    face_hears n node o there at one =
        let now = node.rows.moment in
        let messages = printed_for (number_of_place s n o.number) ms in
        let still = still_all now messages o in
        record {
          number = still.number;
          region = still.region;
          held = still.held;
          more = λ e has. ⊎_elim (λ old. inl (has.0, old)) (λ new. inr (added e new)) (all_more now messages o (has.0, e) has.1);
          less = λ e has. ⊎_elim (λ kept. inl (has.0, kept)) (λ gone. inr (taken (has.0, e) has.1 gone)) (all_less now messages o (has.0, e) has.1);
        }
      where
        added : (e : K) → Some_of (Adds e) (printed_for (number_of_place s n o.number) ms) → Among (n, o.number, e) heard_list
        added e new =
            let sent = in_printed (number_of_place s n o.number) ms new.0 new.1.0 in
            face_there n node o there at one sent.0 sent.1.0 sent.1.1.0 (n, o.number, e) (adds_in n o.number o.told sent.0.message e (subst (Adds e) sent.1.1.1 new.1.1))

        taken : (row : ℕ × K) → Among row o.told → Some_of (Takes row) (printed_for (number_of_place s n o.number) ms) → Among (n, o.number, row.1) heard_list
        taken row told gone =
            let sent = in_printed (number_of_place s n o.number) ms gone.0 gone.1.0 in
            face_there n node o there at one sent.0 sent.1.0 sent.1.1.0 (n, o.number, row.1) (takes_in n o.number o.told sent.0.message row told (subst (Takes row) sent.1.1.1 gone.1.1))

    -- the places of a gateway's faces
    each_at : (P : ℕ → Node K → Type 0) (i m : ℕ) (nodes : List (Node K)) (node : Node K) → 1 ≤ m → EachGateway P i nodes → nth m nodes ≡ Some node → P (i + m - 1) node
    each_at P i m [] node real each at = let e : None ≡ Some node = at in cc
    each_at P i m (x ∷ nodes) node real each at =
        by_test (m == 1)
        (λ first. let own : i ≡ i + m - 1 = (let one : m ≡ 1 = eqb-true m 1 first in omega arith) in let is : x ≡ node = (let e : Some x ≡ Some node = rw first at at in cc) in subst (λ k. P k node) own (subst (P i) is each.0))
        (λ later.
        let more : m ≡ 1 → ⊥ = eqb-false m 1 later in
        let same_index : i + 1 + (m - 1) - 1 ≡ i + m - 1 = omega arith in
        subst (λ k. P k node) same_index (each_at P (i + 1) (m - 1) nodes node (omega arith) each.1 (rw later at at)))

    is_real : (m : ℕ) (nodes : List (Node K)) (node : Node K) → nth m nodes ≡ Some node → 1 ≤ m
    is_real m nodes node at =
        by_test (m == 0)
        (λ none. let e : None ≡ Some node = sym (ap (λ k. nth k nodes) (eqb-true m 0 none) ∙ nth_zero nodes) ∙ at in cc)
        (λ some. let apart : m ≡ 0 → ⊥ = eqb-false m 0 some in omega arith)

    heard_node : (i m : ℕ) (nodes : List (Node K)) (node : Node K) → 1 ≤ m → nth m (gateways_after_hearing cmp s ms i nodes) ≡ Some node
        → (old : Node K) × ((nth m nodes ≡ Some old) × (node.rows ≡ rows_after_hearing cmp s ms (i + m - 1) old.rows))
    unfolding gateways_after_hearing
    heard_node i m [] node real at = let e : None ≡ Some node = at in cc
    heard_node i m (x ∷ nodes) node real at =
        by_test (m == 1)
        (λ first.
        let own : i ≡ i + m - 1 = (let one : m ≡ 1 = eqb-true m 1 first in omega arith) in
        let is : record x { rows = rows_after_hearing cmp s ms i x.rows } ≡ node = (let e : Some (record x { rows = rows_after_hearing cmp s ms i x.rows }) ≡ Some node = rw first at at in cc) in
        (x, (rw first refl, subst (λ k. node.rows ≡ rows_after_hearing cmp s ms k x.rows) own (ap (λ (y : Node K). y.rows) (sym is)))))
        (λ later.
        let more : m ≡ 1 → ⊥ = eqb-false m 1 later in
        let same_index : i + 1 + (m - 1) - 1 ≡ i + m - 1 = omega arith in
        let rest = heard_node (i + 1) (m - 1) nodes node (omega arith) (rw later at at) in
        (rest.0, (rw later rest.1.0, subst (λ k. node.rows ≡ rows_after_hearing cmp s ms k rest.0.rows) same_index rest.1.1)))

    abbrev pub nothing : K → Type 0
    nothing e = ⊥

    abbrev pub nobody : ℕ → Type 0
    nobody n = ⊥

    -- each gateway is one of before whose faces heard their messages
    pub hearing_goes : (n : ℕ) (node : Node K) → nth n (after_hearing cmp ms s).gateways ≡ Some node → (old : Node K) × ((nth n s.gateways ≡ Some old) × Goes (λ (e : K). ⊥) (λ k. ⊥) (HearsOn heard_list n) old.rows node.rows)
    hearing_goes n node at =
        let real = is_real n (gateways_after_hearing cmp s ms 1 s.gateways) node at in
        let found = heard_node 1 n s.gateways node real at in
        let index : 1 + n - 1 ≡ n = omega arith in
        let rows : node.rows ≡ rows_after_hearing cmp s ms n found.0.rows = subst (λ k. node.rows ≡ rows_after_hearing cmp s ms k found.0.rows) index found.1.1 in
        let places : Each (λ (f : Face K). has_one_place n f.number s.faces ≡ true) found.0.rows.faces =
        subst (λ k. Each (λ (f : Face K). has_one_place k f.number s.faces ≡ true) found.0.rows.faces) index
        (each_at (λ k (x : Node K). Each (λ (f : Face K). has_one_place k f.number s.faces ≡ true) x.rows.faces) 1 n s.gateways found.0 real placed.one found.1.0) in
        (found.0, (found.1.0, subst (λ (h : Rows K). Goes (λ (e : K). ⊥) (λ k. ⊥) (HearsOn heard_list n) found.0.rows h) (sym rows) (go found.0 found.1.0 places)))
      where
        go : (old : Node K) → nth n s.gateways ≡ Some old → Each (λ (f : Face K). has_one_place n f.number s.faces ≡ true) old.rows.faces
            → Goes (λ (e : K). ⊥) (λ k. ⊥) (HearsOn heard_list n) old.rows (rows_after_hearing cmp s ms n old.rows)
        go old there places =
            mapped (λ (e : K). ⊥) (λ k. ⊥) (HearsOn heard_list n) old.rows (rows_after_hearing cmp s ms n old.rows) refl refl refl
            (λ f. heard_all cmp old.rows.moment (printed_for (number_of_place s n f.number) ms) f) refl refl
            (λ o at_o.
            let still = still_all old.rows.moment (printed_for (number_of_place s n o.number) ms) o in (
              stays_same (λ (e : K). ⊥) (λ k. ⊥) o (heard_all cmp old.rows.moment (printed_for (number_of_place s n o.number) ms) o) still.region still.live,
              face_hears n old o there at_o (each_member (λ (f : Face K). has_one_place n f.number s.faces ≡ true) o old.rows.faces places at_o),
            ))
