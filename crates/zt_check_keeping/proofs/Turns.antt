-- Each bound holds after an accepted line exactly where it does of all that the line and its messages touch, if it held before.
use Rattle.std.proofs.Common.{◌≡◌, ℕ, Bool, true, false, List, Ok, refl, sym, ap, subst, ◌∙◌}
use Rattle.std.specs.Prelude.{Option}
use Rattle.std.specs.declared.cmp.Ordering.{Ordering}
use Rattle.zt_protocol.specs.Plain.{PlainLine}
use Rattle.zt_protocol.specs.declared.entries.Sent.{Sent}
use Rattle.zt_model.specs.Fabric.{CallAt, Fabric, after_hearing, call_of, with_waiting}
use Rattle.zt_model.specs.Lists.{same}
use Rattle.zt_model.specs.Transcript.{fabric_shown, fabric_with}
use Rattle.zt_check_fabric.specs.Placed.{IsPlaced}
use Rattle.zt_check_keeping.specs.Bounds.{EachPlainFace, KeepsNoLess, KeepsNoMore}
use Rattle.zt_check_keeping.specs.Changed.{held_at, opened_by, tokens_by, unheld_at}
use Rattle.zt_check_keeping.specs.Heard.{heard_by}
use Rattle.zt_check_keeping.specs.Keeping.{are_no_less, are_no_more}
use Rattle.zt_check_keeping.proofs.Hearing.{hearing_goes}
use Rattle.zt_check_keeping.proofs.Kept.{all_no_less, all_no_more}
use Rattle.zt_check_keeping.proofs.Lines.{LineWithin, line_goes}
use Rattle.zt_check_keeping.proofs.Members.{Among}
use Rattle.zt_check_keeping.proofs.Nodes.{Lists}

module _ {K : Type 0} (cmp : K → K → Ordering) (matching : K → K → Bool) (itself : (e : K) → same cmp e e ≡ true) (exact : (a b : K) → same cmp a b ≡ true → a ≡ b) where
  -- what an accepted line touches, with what is printed for it
  pub record Touches (line : PlainLine K) (ms : List (Sent K)) (s : Fabric K) (lists : Lists K) (heard : List (ℕ × ℕ × K)) : Type 0 where
    pub tokens : lists.tokens ≡ tokens_by line (call_of line s) s
    pub opened : lists.opened ≡ opened_by line (call_of line s) s
    pub held : lists.held ≡ held_at (call_of line s)
    pub unheld : lists.unheld ≡ unheld_at (call_of line s)
    pub heard_is : heard ≡ heard_by (fabric_with cmp matching line ms s) ms

  module _ (line : PlainLine K) (ms : List (Sent K)) (s : Fabric K) (lists : Lists K) (heard : List (ℕ × ℕ × K)) (touches : Touches line ms s lists heard) (placed : IsPlaced (fabric_with cmp matching line ms s)) where
    abbrev carried : Fabric K
    carried = fabric_with cmp matching line ms s

    within : LineWithin cmp matching exact lists line s
    within = record {
      tokens = λ x at. subst (Among x) (sym touches.tokens) at;
      unheld = λ x at. subst (Among x) (sym touches.unheld) at;
      opened = λ x at. subst (Among x) (sym touches.opened) at;
      held = λ x at. subst (Among x) (sym touches.held) at;
    }

    pub turn_no_more : are_no_more cmp matching (fabric_shown cmp matching line (Ok ms) s) lists.tokens heard lists.unheld ≡ true → EachPlainFace (KeepsNoMore cmp matching) s → EachPlainFace (KeepsNoMore cmp matching) (fabric_shown cmp matching line (Ok ms) s)
    unfolding fabric_shown
    turn_no_more passes was =
        all_no_more cmp matching itself exact lists heard s carried (with_waiting ms (after_hearing cmp ms carried))
        (line_goes cmp matching exact lists line ms s within)
        (λ n node at. hearing_goes cmp exact carried ms placed heard (λ x there. subst (Among x) (sym touches.heard_is) there) n node at)
        passes was

    pub turn_no_less : are_no_less cmp matching (fabric_shown cmp matching line (Ok ms) s) lists.tokens heard lists.opened lists.held ≡ true → EachPlainFace (KeepsNoLess cmp matching) s → EachPlainFace (KeepsNoLess cmp matching) (fabric_shown cmp matching line (Ok ms) s)
    unfolding fabric_shown
    turn_no_less passes was =
        all_no_less cmp matching itself exact lists heard s carried (with_waiting ms (after_hearing cmp ms carried))
        (line_goes cmp matching exact lists line ms s within)
        (λ n node at. hearing_goes cmp exact carried ms placed heard (λ x there. subst (Among x) (sym touches.heard_is) there) n node at)
        passes was
