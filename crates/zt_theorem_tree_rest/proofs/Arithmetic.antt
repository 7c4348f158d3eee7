-- The sums that the steps of messages come to.
use Rattle.std.proofs.Common.{◌≡◌, ℕ, ◌+◌, ◌*◌, ◌≤◌, arith, add-mul, mul_assoc, mul-le-mul, le_refl, ap, ◌∙◌}

-- what an interest brings about is within what a message that rises may
pub interest_fits : (tokens entities price down all up : ℕ) → price ≤ down → all ≡ 1 + down
    → (up + (1 + tokens * all)) + (entities * price + ((price + tokens * price) + tokens * price)) + 1 ≤ (3 * tokens + entities + 2) * all + up
interest_fits tokens entities price down all up within is =
    let less : price ≤ all = omega arith in
    let one : tokens * price ≤ tokens * all = mul-le-mul (le_refl tokens) less in
    let two : entities * price ≤ entities * all = mul-le-mul (le_refl entities) less in
    let parts : (3 * tokens + entities + 2) * all ≡ 3 * (tokens * all) + entities * all + 2 * all = add-mul (3 * tokens + entities) 2 all ∙ ap (λ k. k + 2 * all) (add-mul (3 * tokens) entities all ∙ ap (λ k. k + entities * all) (mul_assoc 3 tokens all)) in
    omega arith

-- and so is what a token does
pub token_fits : (tokens entities down all up : ℕ) → all ≡ 1 + down → (down + up) + 1 ≤ (3 * tokens + entities + 2) * all + up
token_fits tokens entities down all up is =
    let parts : (3 * tokens + entities + 2) * all ≡ (3 * tokens + entities) * all + 2 * all = add-mul (3 * tokens + entities) 2 all in
    omega arith
