-- Lines taken from queues, one for each entry of a journal.
use Rattle.std.proofs.Common.{◌≡◌, ◌≢◌, ℕ, zero, suc, ◌+◌, ◌<◌, ◌≤◌, true, false, cond, ◌==◌, List, [], ◌∷◌, ◌++◌, length, map, filter, take, get_or, set, refl, sym, ap, ◌∙◌, subst, arith, eqb-true, append-nil, length-append}
use lib.ListN.{replicate}
use Rattle.std.proofs.lemmas.Bool.{eqb-false}
use Rattle.std.proofs.lemmas.List.{get_or-set_same, get_or-set_other, length-set, take_all, take_more}
use Rattle.std.proofs.lemmas.List.Elements.{filter-append}
use Rattle.zt_model.specs.Journal.{Journalled}
use Rattle.zt_laws.proofs.Lists.{by_test, map-append}
use Rattle.zt_dealing.specs.Dealing.{HaveLines, NextLine, of_pass, with_lines}
use Rattle.zt_dealing.proofs.OrderLemmas.{lines_more}

-- a front with one more
pub front_more : {A B : Type 0} (f : A → B) (xs : List A) (i : ℕ) (x : A) → i < length xs → x ≡ get_or xs i x → map f (take (i + 1) xs) ≡ map f (take i xs) ++ f x ∷ []
front_more f xs i x less is = ap (map f) (take_more xs i x less ∙ ap (λ y. take i xs ++ y ∷ []) (sym is)) ∙ map-append f (take i xs) (x ∷ [])

pub front_all : {A B : Type 0} (f : A → B) (xs : List A) (i : ℕ) → length xs ≤ i → map f (take i xs) ≡ map f xs
front_all f xs i most = ap (map f) (take_all i xs most)

get_or_zeros : (n p : ℕ) → (let zeros : List ℕ = replicate n 0 in let none : ℕ = 0 in get_or zeros p none ≡ none)
get_or_zeros zero p = refl
get_or_zeros (suc n) zero = refl
get_or_zeros (suc n) (suc p) = get_or_zeros n p

module _ {K : Type 0} (queues : List (List ℕ)) where
  -- how far a queue was taken, and that its lines are those of its worker's entries
  pub record IsTaken (taken : List ℕ) (entries : List (Journalled K)) (lines : List ℕ) (p : ℕ) : Type 0 where
    pub count : get_or taken p 0 ≡ length (of_pass p entries)
    pub front : map (λ x. x.0) (filter (λ x. x.1.pass == p) (with_lines lines entries)) ≡ take (get_or taken p 0) (get_or queues p [])

  pub record AreTaken (taken : List ℕ) (entries : List (Journalled K)) (lines : List ℕ) : Type 0 where
    pub long : length lines ≡ length entries
    pub many : length taken ≡ length queues
    pub each : (p : ℕ) → IsTaken taken entries lines p

  pub taken_none : (taken lines : List ℕ) (n : ℕ) → length taken ≡ length queues → taken ≡ replicate n 0 → lines ≡ [] → AreTaken taken [] lines
  taken_none taken lines n many zeros none = subst (AreTaken taken []) (sym none) (record {
    long = refl;
    many = many;
    each = λ p.
        let zero_ : get_or taken p 0 ≡ 0 = ap (λ ts. get_or ts p 0) zeros ∙ get_or_zeros n p in
        record { count = zero_; front = sym (ap (λ k. take k (get_or queues p [])) zero_) };
  })

  one_more : (e : Journalled K) (line p : ℕ) → (e.pass == p) ≡ true → filter (λ (x : ℕ × Journalled K). x.1.pass == p) ((line, e) ∷ []) ≡ (line, e) ∷ []
  one_more e line p own = ap (λ b. cond b ((line, e) ∷ []) []) own

  no_more : (e : Journalled K) (line p : ℕ) → (e.pass == p) ≡ false → filter (λ (x : ℕ × Journalled K). x.1.pass == p) ((line, e) ∷ []) ≡ []
  no_more e line p other = ap (λ b. cond b ((line, e) ∷ []) []) other

  pub taken_next : (taken taken' : List ℕ) (entries : List (Journalled K)) (e : Journalled K) (lines lines' : List ℕ) (line : ℕ) → AreTaken taken entries lines → NextLine queues taken taken' e.pass line → lines' ≡ lines ++ line ∷ [] → AreTaken taken' (entries ++ e ∷ []) lines'
  taken_next taken taken' entries e lines lines' line are next more = record {
    long = ap length more ∙ length-append lines (line ∷ []) ∙ ap (λ n. n + 1) are.long ∙ sym (length-append entries (e ∷ []));
    many = ap length next.one ∙ length-set taken e.pass (get_or taken e.pass 0 + 1) ∙ are.many;
    each = λ p. subst (λ ls. IsTaken taken' (entries ++ e ∷ []) ls p) (sym more) (by_test (e.pass == p) (own p) (other p));
  }
    where
      within : e.pass < length taken
      within = let there = next.there in let many = are.many in omega arith

      grown : (p : ℕ) → filter (λ (x : ℕ × Journalled K). x.1.pass == p) (with_lines (lines ++ line ∷ []) (entries ++ e ∷ []))
          ≡ filter (λ (x : ℕ × Journalled K). x.1.pass == p) (with_lines lines entries) ++ filter (λ (x : ℕ × Journalled K). x.1.pass == p) ((line, e) ∷ [])
      grown p =
          ap (filter (λ (x : ℕ × Journalled K). x.1.pass == p)) (lines_more lines entries line e are.long)
          ∙ filter-append (λ (x : ℕ × Journalled K). x.1.pass == p) (with_lines lines entries) ((line, e) ∷ [])

      own : (p : ℕ) → (e.pass == p) ≡ true → IsTaken taken' (entries ++ e ∷ []) (lines ++ line ∷ []) p
      own p here =
          let same : e.pass ≡ p = eqb-true e.pass p here in
          let now : get_or taken' p 0 ≡ get_or taken p 0 + 1 =
          ap (λ ts. get_or ts p 0) next.one ∙ ap (λ n. get_or (set taken e.pass (get_or taken e.pass 0 + 1)) n 0) (sym same)
          ∙ get_or-set_same taken e.pass (get_or taken e.pass 0 + 1) 0 within ∙ ap (λ n. get_or taken n 0 + 1) same
          in
          let is = are.each p in
          record {
            count =
                now ∙ ap (λ n. n + 1) is.count
                ∙ sym (ap length (filter-append (λ (x : Journalled K). x.pass == p) entries (e ∷ []) ∙ ap (λ es. of_pass p entries ++ es) (ap (λ b. cond b (e ∷ []) []) here)) ∙ length-append (of_pass p entries) (e ∷ []));
            front =
                ap (map (λ x. x.0)) (grown p ∙ ap (λ xs. filter (λ (x : ℕ × Journalled K). x.1.pass == p) (with_lines lines entries) ++ xs) (one_more e line p here))
                ∙ map-append (λ (x : ℕ × Journalled K). x.0) (filter (λ (x : ℕ × Journalled K). x.1.pass == p) (with_lines lines entries)) ((line, e) ∷ [])
                ∙ ap (λ ls. ls ++ line ∷ []) is.front
                ∙ ap (λ n. take (get_or taken n 0) (get_or queues n []) ++ line ∷ []) (sym same)
                ∙ sym next.line_is
                ∙ ap (λ n. take (get_or taken n 0 + 1) (get_or queues n [])) same
                ∙ ap (λ n. take n (get_or queues p [])) (sym now);
          }

      other : (p : ℕ) → (e.pass == p) ≡ false → IsTaken taken' (entries ++ e ∷ []) (lines ++ line ∷ []) p
      other p apart =
          let differ : p ≢ e.pass = λ is. eqb-false e.pass p apart (sym is) in
          let now : get_or taken' p 0 ≡ get_or taken p 0 = ap (λ ts. get_or ts p 0) next.one ∙ get_or-set_other taken e.pass p (get_or taken e.pass 0 + 1) 0 differ in
          let is = are.each p in
          record {
            count =
                now ∙ is.count
                ∙ sym (ap length (filter-append (λ (x : Journalled K). x.pass == p) entries (e ∷ []) ∙ ap (λ es. of_pass p entries ++ es) (ap (λ b. cond b (e ∷ []) []) apart) ∙ append-nil (of_pass p entries)));
            front =
                ap (map (λ x. x.0)) (grown p ∙ ap (λ xs. filter (λ (x : ℕ × Journalled K). x.1.pass == p) (with_lines lines entries) ++ xs) (no_more e line p apart) ∙ append-nil (filter (λ (x : ℕ × Journalled K). x.1.pass == p) (with_lines lines entries)))
                ∙ is.front ∙ ap (λ n. take n (get_or queues p [])) (sym now);
          }

  pub have_lines : (taken : List ℕ) (entries : List (Journalled K)) (lines : List ℕ) → AreTaken taken entries lines → HaveLines queues entries lines
  have_lines taken entries lines are = record {
    long = are.long;
    each = λ p less. let is = are.each p in is.front ∙ ap (λ n. take n (get_or queues p [])) is.count;
  }
