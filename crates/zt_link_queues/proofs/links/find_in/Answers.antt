use Rattle.std.proofs.Common.{◌≡◌, ◌<◌, ◌&&◌, true, false, Some, length, arith, ap, refl, sym, ◌∙◌}
use Rattle.zt_model.specs.Linking.{is_end_of}
use Rattle.zt_model.specs.Places.{Link}
use Rattle.zt_link_queues.proofs.Ends.{found_beyond, found_none, found_there}
use Rattle.zt_link_queues.proofs.links.find_in.Goals as goal
use Rattle.zt_link_queues.proofs.links.find_in.Goals.{else-is_open-via-then-is_open+else-is_end, else-is_open-via-else-is_open}

pub returns-then-at-links : goal.returns-then-at-links
returns-then-at-links c = sym (found_beyond 0 c.args.face c.args.links.now c.count_before-at.result c.requires c.count_before-at.ensures (omega arith))

pub returns-then-is_end : goal.returns-then-is_end
returns-then-is_end c =
    let x = c.index-links-at.result in
    let there = c.index-links-at.is in
    let is_open : x.is_open ≡ true = sym c.is_open.ensures ∙ c.if-is_open.true in
    let ends : is_end_of c.args.face x ≡ true = sym c.is_end.ensures ∙ c.if-is_end.true in
    let passes : (x.is_open && is_end_of c.args.face x) ≡ true = rw (is_open, ends) refl in
    let within : c.count_before-at.result < length c.args.links.now = omega arith in
    ap (λ (l : Link). Some l) there
    ∙ sym (found_there 0 c.args.face c.args.links.now c.count_before-at.result x c.requires c.count_before-at.ensures within
    (ap (λ (l : Link). l.is_open && is_end_of c.args.face l) (sym there) ∙ passes))

pub returns-else-is_open : goal.returns-else-is_open
returns-else-is_open c =
    let x = c.index-links-at.result in
    let misses : (x.is_open && is_end_of c.args.face x) ≡ false =
    elim c.else-is_open.branch [
      | else-is_open-via-then-is_open+else-is_end w ↦
          let is_open : x.is_open ≡ true = sym c.is_open.ensures ∙ w.if-is_open.true in
          let ends : is_end_of c.args.face x ≡ false = sym w.is_end.ensures ∙ w.if-is_end.false in
          rw (is_open, ends) refl
      | else-is_open-via-else-is_open w ↦
          let is_open : x.is_open ≡ false = sym c.is_open.ensures ∙ w.if-is_open.false in
          rw is_open refl
    ]
    in
    let within : c.count_before-at.result < length c.args.links.now = omega arith in
    sym (found_none 0 c.args.face c.args.links.now c.count_before-at.result x c.requires c.count_before-at.ensures within
    (ap (λ (l : Link). l.is_open && is_end_of c.args.face l) (sym c.index-links-at.is) ∙ misses))
