-- What faces are sent together, and what they owe then.
use Rattle.std.proofs.Common.{◌≡◌, ℕ, ◌+◌, ◌≤◌, true, false, if◌then◌else◌, ◌==◌, List, [], ◌∷◌, ◌++◌, map, Some, None, refl, sym, ap, ◌∙◌, subst, arith, ne_eqb, eqb-true}
use Rattle.std.specs.declared.cmp.Ordering.{Ordering}
use Rattle.zt_protocol.specs.declared.messages.Message.{Message}
use Rattle.zt_model.specs.Hearing.{heard_all, rows_heard}
use Rattle.zt_model.specs.Lists.{first_where}
use Rattle.zt_model.specs.Parts.{Sends, to_each, to_face, with_face}
use Rattle.zt_model.specs.Rows.{Face, Rows}
use Rattle.zt_model.specs.Transcript.{Each}
use Rattle.zt_laws.specs.Sound.{RiseFrom}
use Rattle.zt_laws.proofs.Hearing.{rows_heard-to_each}
use Rattle.zt_laws.proofs.Lists.{by_test, each_weaker, rise_above}
use Rattle.zt_theorem_tree_rest.proofs.Prices.{Pays, message_price, owed}
use Rattle.zt_theorem_tree_rest.proofs.Sums.{total, total-append, total-map, total_less, total_none, total_sum}

-- what counts for the face of one number alone
pub one_alone : {K : Type 0} (n b low : ℕ) (fs : List (Face K)) → RiseFrom (λ f. f.number) low fs → total (λ f. if n == f.number then b else 0) fs ≤ b
one_alone n b low [] rises = omega arith
one_alone {K} n b low (f ∷ fs) rises =
    by_test (n == f.number)
    (λ here.
    let n_is : n ≡ f.number = eqb-true n f.number here in
    let none_ : total (λ (h : Face K). if n == h.number then b else 0) fs ≤ total (λ (h : Face K). 0) fs =
    total_less (λ (h : Face K). if n == h.number then b else 0) (λ h. 0) fs
    (each_weaker (λ (h : Face K). f.number + 1 ≤ h.number) (λ (h : Face K). (if n == h.number then b else 0) ≤ 0) (λ h above. let apart : (n == h.number) ≡ false = ne_eqb n h.number (λ e. omega arith) in rw apart (omega arith)) fs (rise_above (λ (h : Face K). h.number) (f.number + 1) fs rises.1)) in
    let zero_ = total_none fs in
    rw here (omega arith))
    (λ here. let rest = one_alone n b (f.number + 1) fs rises.1 in rw here (omega arith))

-- one face is sent what a rule gives for it: each is, of which others are sent nothing
pub to_face_is : {K : Type 0} (n low : ℕ) (rule : Face K → List (Message K)) (g : Rows K) → RiseFrom (λ f. f.number) low g.faces → to_face n rule g ≡ to_each (λ f. if n == f.number then rule f else []) g.faces
unfolding to_face to_each
to_face_is {K} n low rule g rises = go low g.faces rises
  where
    none_of : (fs : List (Face K)) → Each (λ h. (n == h.number) ≡ false) fs → to_each (λ f. if n == f.number then rule f else []) fs ≡ []
    none_of [] all = refl
    none_of (f ∷ fs) all = let here : (n == f.number) ≡ false = all.0 in rw here (none_of fs all.1)

    no_more : (xs : List (ℕ × Message K)) → xs ++ [] ≡ xs
    no_more [] = refl
    no_more (x ∷ xs) = ap (λ ys. x ∷ ys) (no_more xs)

    go : (low : ℕ) (fs : List (Face K)) → RiseFrom (λ f. f.number) low fs → (let ss : Sends K = elim (first_where (λ (f : Face K). n == f.number) fs) [ None ↦ [] | Some f ↦ map (λ m. (n, m)) (rule f) ] in ss) ≡ to_each (λ f. if n == f.number then rule f else []) fs
    go low [] rises_ = refl
    go low (f ∷ fs) rises_ =
        by_test (n == f.number)
        (λ here.
        let n_is : n ≡ f.number = eqb-true n f.number here in
        let above = each_weaker (λ (h : Face K). f.number + 1 ≤ h.number) (λ (h : Face K). (n == h.number) ≡ false) (λ h more. ne_eqb n h.number (λ e. omega arith)) fs (rise_above (λ (h : Face K). h.number) (f.number + 1) fs rises_.1) in
        rw here (ap (λ k. map (λ m. (let s : ℕ × Message K = (k, m) in s)) (rule f)) n_is ∙ sym (no_more (map (λ m. (f.number, m)) (rule f))) ∙ ap (λ rest. map (λ m. (f.number, m)) (rule f) ++ rest) (sym (none_of fs above))))
        (λ here. rw here (go (f.number + 1) fs rises_.1))

module _ {K : Type 0} (cmp : K → K → Ordering) (tokens : List K) (price : ℕ → ℕ) (end_price : ℕ) where
  abbrev pub cost : Sends K → ℕ
  cost ss = total (λ s. message_price cmp tokens price end_price s.0 s.1) ss

  pub cost-append : (ss ts : Sends K) → cost (ss ++ ts) ≡ cost ss + cost ts
  cost-append ss ts = total-append (λ (s : ℕ × Message K). message_price cmp tokens price end_price s.0 s.1) ss ts

  abbrev pub owed_by : List (Face K) → ℕ
  owed_by fs = total (owed cmp tokens price end_price) fs

  pub changed_owe : (change : Face K → Face K) (most : Face K → ℕ) (fs : List (Face K)) → Each (λ f. owed cmp tokens price end_price (change f) ≤ owed cmp tokens price end_price f + most f) fs → owed_by (map change fs) ≤ owed_by fs + total most fs
  changed_owe change most fs all =
      let is = total-map (owed cmp tokens price end_price) change fs in
      let less = total_less (λ f. owed cmp tokens price end_price (change f)) (λ f. owed cmp tokens price end_price f + most f) fs all in
      let sum = total_sum (owed cmp tokens price end_price) most fs in
      omega arith

  -- one face is changed
  pub one_owes : (n low : ℕ) (change : Face K → Face K) (most : ℕ) (g : Rows K) → RiseFrom (λ f. f.number) low g.faces → Each (λ f. (n == f.number) ≡ true → owed cmp tokens price end_price (change f) ≤ owed cmp tokens price end_price f + most) g.faces
      → owed_by (with_face n change g).faces ≤ owed_by g.faces + most
  unfolding with_face
  one_owes n low change most g rises all =
      let alone = one_alone n most low g.faces rises in
      let less = changed_owe (λ f. if n == f.number then change f else f) (λ f. if n == f.number then most else 0) g.faces
      (each_weaker (λ f. (n == f.number) ≡ true → owed cmp tokens price end_price (change f) ≤ owed cmp tokens price end_price f + most) (λ f. owed cmp tokens price end_price (if n == f.number then change f else f) ≤ owed cmp tokens price end_price f + (if n == f.number then most else 0))
      (λ f own. by_test (n == f.number) (λ here. rw here (own here)) (λ here. rw here (omega arith))) g.faces all) in
      omega arith

  cost_each : (rule : Face K → List (Message K)) (fs : List (Face K)) → cost (to_each rule fs) ≡ total (λ f. total (message_price cmp tokens price end_price f.number) (rule f)) fs
  unfolding to_each
  cost_each rule [] = refl
  cost_each rule (f ∷ fs) =
      let one = total-append (λ (s : ℕ × Message K). message_price cmp tokens price end_price s.0 s.1) (map (λ m. (f.number, m)) (rule f)) (to_each rule fs) in
      let two = total-map (λ (s : ℕ × Message K). message_price cmp tokens price end_price s.0 s.1) (λ m. (f.number, m)) (rule f) in
      let rest = cost_each rule fs in
      omega arith

  -- each face is sent what a rule gives for it
  pub each_pays : (low : ℕ) (rule : Face K → List (Message K)) (most : Face K → ℕ) (g : Rows K) → RiseFrom (λ f. f.number) low g.faces → Each (λ f. Pays cmp tokens price end_price g.moment f (most f) (rule f)) g.faces
      → cost (to_each rule g.faces) + owed_by (rows_heard cmp (to_each rule g.faces) g).faces ≤ owed_by g.faces + total most g.faces
  each_pays low rule most g rises all =
      let heard_is : owed_by (rows_heard cmp (to_each rule g.faces) g).faces ≡ owed_by (map (λ f. heard_all cmp g.moment (rule f) f) g.faces) = ap (λ (h : Rows K). owed_by h.faces) (rows_heard-to_each cmp low rule g rises) in
      let cost_is = cost_each rule g.faces in
      let is = total-map (owed cmp tokens price end_price) (λ f. heard_all cmp g.moment (rule f) f) g.faces in
      let both = total_sum (λ f. total (message_price cmp tokens price end_price f.number) (rule f)) (λ f. owed cmp tokens price end_price (heard_all cmp g.moment (rule f) f)) g.faces in
      let sum = total_sum (owed cmp tokens price end_price) most g.faces in
      let less = total_less (λ f. total (message_price cmp tokens price end_price f.number) (rule f) + owed cmp tokens price end_price (heard_all cmp g.moment (rule f) f)) (λ f. owed cmp tokens price end_price f + most f) g.faces all in
      omega arith

  -- one face is
  pub one_pays : (n low : ℕ) (rule : Face K → List (Message K)) (most : ℕ) (g : Rows K) → RiseFrom (λ f. f.number) low g.faces → Each (λ f. (n == f.number) ≡ true → Pays cmp tokens price end_price g.moment f most (rule f)) g.faces
      → cost (to_face n rule g) + owed_by (rows_heard cmp (to_face n rule g) g).faces ≤ owed_by g.faces + most
  unfolding heard_all
  one_pays n low rule most g rises all =
      let one = λ (f : Face K). if n == f.number then rule f else [] in
      let less = each_pays low one (λ f. if n == f.number then most else 0) g rises
      (each_weaker (λ f. (n == f.number) ≡ true → Pays cmp tokens price end_price g.moment f most (rule f)) (λ f. Pays cmp tokens price end_price g.moment f (if n == f.number then most else 0) (one f))
      (λ f own. by_test (n == f.number) (λ here. rw here (own here)) (λ here. rw here (omega arith))) g.faces all) in
      let alone = one_alone n most low g.faces rises in
      let is = to_face_is n low rule g rises in
      subst (λ (ss : Sends K). cost ss + owed_by (rows_heard cmp ss g).faces ≤ owed_by g.faces + most) (sym is) (omega arith)
