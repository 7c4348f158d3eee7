use Rattle.std.proofs.Common.{◌≡◌, ◌<◌, ◌+◌, ◌++◌, ℕ, Bool, true, false, List, ◌∷◌, add-one, ap, append_assoc, arith, drop, drop-cons, filter, flat_map, get_or, length, sym, take, ◌∙◌}
use Rattle.std.proofs.lemmas.List.Filters.{length-filter_more}
use Rattle.zt_tokens.specs.Gone.{forget_told}
use Rattle.zt_tokens.specs.Walks.{given_at, is_told_at, sent_to}
use Rattle.zt_tokens.proofs.forgetting.Forgets.say_to_numbers.Goals as goal
use Rattle.zt_tokens.proofs.forgetting.Forgets.say_to_numbers.Goals.{then-branch, else-branch}

-- what is said so far and to the numbers left is all, one number later too
said-more : {B : Type 0} (given : ℕ → List B) (ns : List ℕ) (i : ℕ) (before after all : List B) → i < length ns → before ++ flat_map given (drop i ns) ≡ all → after ≡ before ++ given (get_or ns i 0)
    → after ++ flat_map given (drop (i + 1) ns) ≡ all
said-more given ns i before after all within left more =
    let first : drop i ns ≡ get_or ns i 0 ∷ drop (i + 1) ns = rw add-one (drop-cons ns i 0 within) in
    ap (λ sends. sends ++ flat_map given (drop (i + 1) ns)) more
    ∙ append_assoc before (given (get_or ns i 0)) (flat_map given (drop (i + 1) ns))
    ∙ ap (λ ks. before ++ flat_map given ks) (sym first)
    ∙ left

-- one more passes, or none
passes-more : (p : ℕ → Bool) (ns : List ℕ) (i kept : ℕ) → i < length ns → p (get_or ns i 0) ≡ true → kept ≡ length (filter p (take i ns)) → kept + 1 ≡ length (filter p (take (i + 1) ns))
passes-more p ns i kept within passes so_far = let more = length-filter_more {X = ℕ} p ns i 0 within in let one = rw passes at more in ap (λ n. n + 1) so_far ∙ sym one

fails-more : (p : ℕ → Bool) (ns : List ℕ) (i kept : ℕ) → i < length ns → p (get_or ns i 0) ≡ false → kept ≡ length (filter p (take i ns)) → kept ≡ length (filter p (take (i + 1) ns))
fails-more p ns i kept within fails so_far = let more = length-filter_more {X = ℕ} p ns i 0 within in let none = rw fails at more in omega (arith, so_far, none)

pub loop-number-preserved : goal.loop-number-preserved
loop-number-preserved g c =
    let faces = c.args.g.now.faces in
    let e = c.args.self.now.expr.now in
    let pairs = c.args.self.now.told.now in
    let given = given_at (sent_to (forget_told g.K.Ord.cmp g.K.Key.matching c.args.self.now.is_gone c.args.g.now c.args.self.now.source e pairs)) faces in
    let numbers = c.args.numbers.now in
    let i = c.loop-number.number-index in
    let within : i < length numbers = omega arith in
    let said = said-more given numbers i c.loop-number.sends.items _ _ within c.loop-number.invariant.said c.in_ok-say_to_number.ensures.said in
    let is = c.in_ok-say_to_number.ensures.was_told in
    elim c.if-branch.branch [
      | then-branch w ↦
          let passes : is_told_at pairs faces (get_or numbers i 0) ≡ true = (cc) in
          record { said = said; counted = w.count-is ∙ passes-more (is_told_at pairs faces) numbers i c.loop-number.count within passes c.loop-number.invariant.counted; few = omega arith }
      | else-branch w ↦
          let fails : is_told_at pairs faces (get_or numbers i 0) ≡ false = (cc) in
          record { said = said; counted = w.count-is ∙ fails-more (is_told_at pairs faces) numbers i c.loop-number.count within fails c.loop-number.invariant.counted; few = omega arith }
    ]
