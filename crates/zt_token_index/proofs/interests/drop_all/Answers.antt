use Rattle.std.proofs.Common.{ℕ, ◌∷◌, subst, sym, ◌≡◌, ◌∙◌}
use Rattle.std.specs.List.{AllByRecursion}
use Rattle.std.specs.List.Sorted.{IsStrictlySortedBy}
use Rattle.std.specs.Map.{keys_of}
use Rattle.std.specs.Ordering.{nat_cmp}
use Rattle.std.specs.declared.cmp.Ordering.TheVariants.{Less}
use Rattle.zt_rows.specs.ById.{IsInOrder}
use Rattle.zt_interest_index.specs.Holders.{IsIndexOf}
use Rattle.zt_model.specs.Rows.{ById, InterestRow}
use Rattle.zt_token_index.specs.Seekers.{in_others, in_tokens}
use Rattle.zt_token_index.proofs.Held.{all-found, all_stay, gone_one, others_stay}
use Rattle.zt_token_index.proofs.interests.drop_all.Goals as goal

above_of : {A : Type 0} (row : ℕ × A) (rows : ById A) → IsInOrder (row ∷ rows) → AllByRecursion (λ k. nat_cmp row.0 k ≡ Less) (keys_of rows)
unfolding IsStrictlySortedBy
above_of row rows sorted = sorted.0

rest_of : {A : Type 0} (row : ℕ × A) (rows : ById A) → IsInOrder (row ∷ rows) → IsInOrder rows
unfolding IsStrictlySortedBy
rest_of row rows sorted = sorted.1

pub loop-id-init : goal.loop-id-init
loop-id-init g c =
    let f = c.args.f.now in
    let cmp = g.K.Ord.cmp in
    let total = g.met.K.Ord.total in
    let all = c.into_iter-id-iterator.ensures.into_iter_gives ∙ c.iter-id-items.ensures.rest ∙ c.held.ensures in
    let sorted = rw c.held.ensures at c.iter-id-items.ensures.ordered in
    rw all (record {
      whole = sorted;
      in_order = sorted;
      among = all-found f.held sorted;
      tokens = λ fs one was. subst (IsIndexOf cmp c.args.tokens.now) (sym (all_stay in_tokens cmp total f fs sorted one.only)) was;
      others = λ fs one was. subst (IsIndexOf cmp c.args.others.now) (sym (all_stay in_others cmp total f fs sorted one.only)) was;
    })

pub loop-id-preserved : goal.loop-id-preserved
loop-id-preserved g c =
    let cmp = g.K.Ord.cmp in
    let total = g.met.K.Ord.total in
    let f = c.args.f.now in
    let row : ℕ × InterestRow g.row.K.Denot = (c.in-Some.id.now, c.in-Some.held.now) in
    let later = c.next.new.self in
    let steps = c.in-Some.ensures.steps in
    let sorted = rw steps at c.loop-id.invariant.in_order in
    let among = rw steps at c.loop-id.invariant.among in
    let above = above_of row later sorted in
    record {
      whole = c.loop-id.invariant.whole;
      in_order = rest_of row later sorted;
      among = among.1;
      tokens = λ fs one was.
          gone_one in_tokens cmp total f row later above c.loop-id.tokens c.remove_held.new.tokens (rw c.number.ensures at c.remove_held.ensures.tokens) c.loop-id.invariant.whole among.0 fs one
          (rw steps at (c.loop-id.invariant.tokens fs one was));
      others = λ fs one was.
          gone_one in_others cmp total f row later above c.loop-id.others c.remove_held.new.others (rw c.number.ensures at c.remove_held.ensures.others) c.loop-id.invariant.whole among.0 fs one
          (rw steps at (c.loop-id.invariant.others fs one was));
    }

pub returns-clause-tokens : goal.returns-clause-tokens
returns-clause-tokens g c fs one was =
    let ended = c.in-None.ensures.steps.0 in
    subst (IsIndexOf g.K.Ord.cmp c.loop-id.tokens) (others_stay in_tokens g.K.Ord.cmp g.met.K.Ord.total c.args.f.now.number fs) (rw ended at (c.loop-id.invariant.tokens fs one was))

pub returns-clause-others : goal.returns-clause-others
returns-clause-others g c fs one was =
    let ended = c.in-None.ensures.steps.0 in
    subst (IsIndexOf g.K.Ord.cmp c.loop-id.others) (others_stay in_others g.K.Ord.cmp g.met.K.Ord.total c.args.f.now.number fs) (rw ended at (c.loop-id.invariant.others fs one was))
