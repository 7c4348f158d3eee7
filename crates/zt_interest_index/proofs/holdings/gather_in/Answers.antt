use Rattle.std.proofs.Common.{◌≡◌, ℕ, ◌&&◌, ◌==◌, ◌||◌, ap, sym, take, ◌∙◌}
use Rattle.std.proofs.lemmas.List.{take_all}
use Rattle.std.specs.List.{list_any}
use Rattle.std.proofs.lemmas.List.Folds.{list_any_more}
use Rattle.zt_interest_index.specs.Holdings.{asks_from, is_among}
use Rattle.zt_interest_index.proofs.InOrder.{or_nowhere, or_rest, or_where}
use Rattle.zt_interest_index.proofs.holdings.gather_in.Goals as goal
use Rattle.zt_interest_index.proofs.holdings.gather_in.Goals.{then-is_about+in_ok-add_face, else-is_about}

pub is_about_as-is_about-requires : goal.is_about_as-is_about-requires
is_about_as-is_about-requires g c = c.loop-row.invariant.tried

pub loop-row-preserved : goal.loop-row-preserved
loop-row-preserved g c =
    let asks = asks_from g.K.Key.matching c.args.expr.now in
    let i = c.loop-row.row-index in
    let face = c.row-item.result.0.0 in
    let test = c.is_about_as-is_about.result in
    let more : (n : ℕ) → is_among n c.if-is_about.found.items ≡ (is_among n c.loop-row.found.items || (n == face && test)) =
    λ n. elim c.if-is_about.branch [
      | then-is_about+in_ok-add_face w ↦
          ap (λ found. is_among n found.items) w.found-is
          ∙ w.in_ok-add_face.ensures n
          ∙ or_where (is_among n c.loop-row.found.items) (n == face) test w.if-is_about.true
      | else-is_about w ↦
          ap (λ found. is_among n found.items) w.found-is
          ∙ or_nowhere (is_among n c.loop-row.found.items) (n == face) test w.if-is_about.false
    ] in
    record {
      found = λ n.
          more n
          ∙ ap (λ b. b || (n == face && test)) (c.loop-row.invariant.found n)
          ∙ or_rest (is_among n c.args.found.now.items) (list_any (asks n) (take i c.args.rows.now)) _ _ (ap (λ b. n == face && b) c.is_about_as-is_about.ensures)
          ∙ ap (λ row. is_among n c.args.found.now.items || (list_any (asks n) (take i c.args.rows.now) || asks n row)) c.row-item.is
          ∙ ap (λ b. is_among n c.args.found.now.items || b) (sym (list_any_more (asks n) c.args.rows.now i c.row-item.result c.loop-row-test.true));
      tried = c.is_about_as-is_about.ensures;
    }

pub returns : goal.returns
returns g c = λ n. c.loop-row.invariant.found n ∙ ap (λ rows. is_among n c.args.found.now.items || list_any (asks_from g.K.Key.matching c.args.expr.now n) rows) (take_all c.loop-row.row-index c.args.rows.now c.loop-row-test.false)
