-- What is seen of a pass after a step of its seat.
use Rattle.std.proofs.Common.{◌≡◌, ℕ, ◌+◌, List, [], ◌∷◌, ◌++◌, length, get_or, sym, ap, ◌∙◌, subst, slice_get}
use Rattle.atomic_table.specs.Seated.{TableId}
use Rattle.zt_shared_value.specs.declared.part.Part.{Part}
use Rattle.zt_shared_value.specs.Plays.{Sat, alone, part_made, part_drawn, part_counted, part_looked, part_left, Continues}
use Rattle.zt_shared_value.specs.Owned.{owned}
use Rattle.zt_shared_value.specs.Turns.{Entered}
use Rattle.zt_shared_value.proofs.OwnedLists.{owned-more, owned-at}
use Rattle.zt_shared_value.specs.Single.{HasOnePart}
use Rattle.zt_shared_value.specs.Passes.{Standing, standing, made_pass, pass_drawn, pass_looked, pass_counted, Finds, Adds}

module _ {S : Type 0} where
  -- the one part of a seat
  pub one_part : (me : Sat S) (number seen known : ℕ) (one : HasOnePart me number seen known) (q : Part S) → me ≡ alone q → one.0 ≡ q
  one_part me number seen known one q is = ap (λ (m : Sat S). get_or m.0 0 one.0) (sym one.1.0 ∙ is)

  -- whatever the seat's part is called, it is this one
  pub seen_as : (me : Sat S) (table : TableId) (q : Part S) (seen : Standing S) → me ≡ alone q → standing table q ≡ seen
      → (p : Part S) → me ≡ alone p → standing table p ≡ seen
  seen_as me table q seen is shown p same = ap (λ (m : Sat S). standing table (get_or m.0 0 p)) (sym same ∙ is) ∙ shown

  pub seen_so : (me : Sat S) (table : TableId) (q : Part S) (F : Standing S → Type 0) → me ≡ alone q → F (standing table q)
      → (p : Part S) → me ≡ alone p → F (standing table p)
  seen_so me table q F is shown p same = let is-p : q ≡ p = ap (λ (m : Sat S). get_or m.0 0 q) (sym is ∙ same) in subst (λ (x : Part S). F (standing table x)) is-p shown

  module _ (before after : TableId) (p : Part S) (pass : Standing S) (is : standing before p ≡ pass) (same : after ≡ before) where
    pub standing_made : (k : ℕ) → p.known ≡ k → standing after (part_made k p) ≡ made_pass pass.known pass
    standing_made k known = ap (λ (t : TableId). standing t (part_made k p)) same
        ∙ (ap (λ (n : ℕ). standing before (part_made n p)) (sym known) ∙ ap (λ (x : Standing S). made_pass x.known x) is)

    pub standing_drawn : (k : ℕ) → p.known ≡ k → standing after (part_drawn k p) ≡ pass_drawn pass.known pass
    standing_drawn k known = ap (λ (t : TableId). standing t (part_drawn k p)) same
        ∙ (ap (λ (n : ℕ). standing before (part_drawn n p)) (sym known) ∙ ap (λ (x : Standing S). pass_drawn x.known x) is)

    pub standing_counted : (n : ℕ) → standing after (part_counted n p) ≡ pass_counted n pass
    standing_counted n = ap (λ (t : TableId). standing t (part_counted n p)) same ∙ ap (λ (x : Standing S). pass_counted n x) is

    pub standing_left : (x : S) → standing after (part_left p.seen x p) ≡ record pass { found = x }
    standing_left x = ap (λ (t : TableId). standing t (part_left p.seen x p)) same ∙ ap (λ (s : Standing S). record s { found = x }) is

    pub standing_read : (n : ℕ) (x : S) → standing after (part_looked n (part_left p.seen x p)) ≡ pass_looked n (record pass { found = x })
    standing_read n x = ap (λ (t : TableId). standing t (part_looked n (part_left p.seen x p))) same ∙ ap (λ (s : Standing S). pass_looked n (record s { found = x })) is

    pub standing_looked : (n : ℕ) → standing after (part_looked n p) ≡ pass_looked n pass
    standing_looked n = ap (λ (t : TableId). standing t (part_looked n p)) same ∙ ap (λ (x : Standing S). pass_looked n x) is

module _ {S E O : Type 0} (journal : S → List E) (author : E → ℕ) (state : S → O) (before after : TableId) (p : Part S) (pass : Standing S)
    (is : standing before p ≡ pass) (same : after ≡ before) where
  finds_at : (x : S) → Continues journal author state x p → Finds journal author (standing before p) x
  finds_at x c = record {
    begins = c.begins;
    mine_same = c.owns;
    mine_stands = λ k place entry there. owned-at author p.number (journal x) k place entry (ap (λ (es : List (ℕ × E)). slice_get es k) c.owns ∙ there);
    seen_long = c.seen_long;
  }

  pub finds_of : (x : S) → Continues journal author state x p → Finds journal author pass x
  finds_of x c = subst (λ (s : Standing S). Finds journal author s x) is (finds_at x c)

  pub adds_of : (me : Sat S) (place : ℕ) (entry : E) (turn : Entered journal author state p me place entry) → author entry ≡ p.number
      → Adds journal author pass (standing after (part_left (place + 1) turn.left p)) place entry
  adds_of me place entry turn by =
      let more : owned author p.number (journal turn.left) ≡ owned author p.number (journal p.found) ++ (place, entry) ∷ [] =
      ap (owned author p.number) turn.added
      ∙ (owned-more author p.number (journal turn.taken) entry by
      ∙ (ap (λ (es : List (ℕ × E)). es ++ (length (journal turn.taken), entry) ∷ []) turn.continues.owns
      ∙ ap (λ (k : ℕ). owned author p.number (journal p.found) ++ (k, entry) ∷ []) (sym turn.placed))) in
      let c = turn.continues in
      subst (λ (s : Standing S). Adds journal author s (standing after (part_left (place + 1) turn.left p)) place entry) is (record {
        found = turn.taken;
        finds = finds_at turn.taken c;
        placed = turn.placed;
        added = turn.added;
        mine_more = more;
        rest = ap (λ (t : TableId). standing t (part_left (place + 1) turn.left p)) same;
      })
