-- Loops that send interests and tokens, each under the next id.
use Rattle.std.proofs.Common.{◌≡◌, ◌+◌, ◌<◌, ◌≤◌, ℕ, List, [], ◌∷◌, ◌++◌, None, ap, append_assoc, drop, get_or, length, map, sym, ◌∙◌}
use Rattle.std.proofs.lemmas.List.{append-nil, drop_all}
use Rattle.zt_protocol.specs.declared.messages.Message.TheVariants as message
use Rattle.zt_model.specs.Parts.{Sends}
use Rattle.zt_model.specs.Routing.{interests_from, tokens_from}
use Rattle.zt_model.specs.Rows.{InterestRow}
use Rattle.zt_state.proofs.Walks.{drop_item}

-- what is sent so far, and what those left give, is all, one later too
pub interests_more : {K : Type 0} (n id later : ℕ) (xs : List (InterestRow K)) (i : ℕ) (x : InterestRow K) (before after all : Sends K)
    → i < length xs → x ≡ get_or xs i x → later ≡ id + 1
    → before ++ map (λ m. (n, m)) (interests_from id (drop i xs)) ≡ all
    → after ≡ before ++ (n, message.Interest id x.mode x.options x.expr) ∷ []
    → after ++ map (λ m. (n, m)) (interests_from later (drop (i + 1) xs)) ≡ all
unfolding interests_from
interests_more {K} n id later xs i x before after all within is next left more =
    let said : ℕ → List (InterestRow K) → Sends K = λ k ys. map (λ m. (n, m)) (interests_from k ys) in
    let rest = drop (i + 1) xs in
    ap (λ (k : ℕ). after ++ said k rest) next
    ∙ ap (λ sends. sends ++ said (id + 1) rest) more
    ∙ append_assoc before ((n, message.Interest id x.mode x.options x.expr) ∷ []) (said (id + 1) rest)
    ∙ ap (λ ys. before ++ said id ys) (sym (drop_item xs i x within is))
    ∙ left

-- behind the last all is sent
pub interests_done : {K : Type 0} (n id : ℕ) (xs : List (InterestRow K)) (i : ℕ) (before all : Sends K)
    → length xs ≤ i → before ++ map (λ m. (n, m)) (interests_from id (drop i xs)) ≡ all → before ≡ all
unfolding interests_from
interests_done n id xs i before all past left =
    sym (append-nil before) ∙ ap (λ ys. before ++ map (λ m. (n, m)) (interests_from id ys)) (sym (drop_all i xs past)) ∙ left

-- what is sent so far, and what those left give, is all, one later too
pub tokens_more : {K : Type 0} (n id later : ℕ) (xs : List (K)) (i : ℕ) (x : K) (before after all : Sends K)
    → i < length xs → x ≡ get_or xs i x → later ≡ id + 1
    → before ++ map (λ m. (n, m)) (tokens_from id (drop i xs)) ≡ all
    → after ≡ before ++ (n, message.DeclareToken id x None 0) ∷ []
    → after ++ map (λ m. (n, m)) (tokens_from later (drop (i + 1) xs)) ≡ all
unfolding tokens_from
tokens_more {K} n id later xs i x before after all within is next left more =
    let said : ℕ → List (K) → Sends K = λ k ys. map (λ m. (n, m)) (tokens_from k ys) in
    let rest = drop (i + 1) xs in
    ap (λ (k : ℕ). after ++ said k rest) next
    ∙ ap (λ sends. sends ++ said (id + 1) rest) more
    ∙ append_assoc before ((n, message.DeclareToken id x None 0) ∷ []) (said (id + 1) rest)
    ∙ ap (λ ys. before ++ said id ys) (sym (drop_item xs i x within is))
    ∙ left

-- behind the last all is sent
pub tokens_done : {K : Type 0} (n id : ℕ) (xs : List (K)) (i : ℕ) (before all : Sends K)
    → length xs ≤ i → before ++ map (λ m. (n, m)) (tokens_from id (drop i xs)) ≡ all → before ≡ all
unfolding tokens_from
tokens_done n id xs i before all past left =
    sym (append-nil before) ∙ ap (λ ys. before ++ map (λ m. (n, m)) (tokens_from id ys)) (sym (drop_all i xs past)) ∙ left
