use Rattle.std.proofs.Common.{◌≡◌, Some, Result, Ok, Err, IfOk, option_map, ap, sym, ◌∙◌}
use Rattle.std.proofs.lemmas.Result.{IfOk-weaker}
use Rattle.zt_protocol.specs.Plain.{plain_call}
use Rattle.zt_model.specs.Lists.{nth}
use Rattle.zt_links.specs.Lines.{opening_call}
use Rattle.zt_links.proofs.Joined.{accepted_calls, between_in_order, joined_does, joined_says, known_by, opens_by}
use Rattle.zt_links.proofs.joining.link.Goals as goal

both : {A E : Type 0} (P Q R : A → Type 0) (r : Result A E) → ((x : A) → P x → Q x → R x) → IfOk r P → IfOk r Q → IfOk r R
both P Q R (Ok x) all p q = all x p q
both P Q R (Err e) all p q = tt

pub unreachable-requires : goal.unreachable-requires
unreachable-requires g c =
    let calls = accepted_calls g.K.Ord.cmp g.K.Key.matching c.args.one c.args.two c.args.first c.args.back c.args.s.now c.requires.accepted in
    calls.0 (sym c.in_ok-forth.ensures ∙ ap (option_map plain_call) c.in_default.is)

pub unreachable-requires-in_default-2 : goal.unreachable-requires-in_default-2
unreachable-requires-in_default-2 g c =
    let calls = accepted_calls g.K.Ord.cmp g.K.Key.matching c.args.one c.args.two c.args.first c.args.back c.args.s.now c.requires.accepted in
    calls.1 (sym c.in_ok-answer.ensures ∙ ap (option_map plain_call) c.in_default-2.is)

pub make_link-requires-clause-opens_forth : goal.make_link-requires-clause-opens_forth
make_link-requires-clause-opens_forth g c =
    let s = c.args.s.now in
    opens_by (nth c.args.one s.gateways) (nth c.args.two s.gateways) c.args.first (plain_call c.in-Some.forth) (sym c.in_ok-forth.ensures ∙ ap (option_map plain_call) c.in-Some.is)

pub make_link-requires-clause-opens_back : goal.make_link-requires-clause-opens_back
make_link-requires-clause-opens_back g c =
    let s = c.args.s.now in
    opens_by (nth c.args.two s.gateways) (nth c.args.one s.gateways) c.args.back (plain_call c.in-Some-2.answer) (sym c.in_ok-answer.ensures ∙ ap (option_map plain_call) c.in-Some-2.is)

pub make_link-requires-clause-order_between : goal.make_link-requires-clause-order_between
make_link-requires-clause-order_between g c =
    let cmp = g.K.Ord.cmp in
    let matching = g.K.Key.matching in
    let s = c.args.s.now in
    let one = c.args.one in
    let two = c.args.two in
    let forth = plain_call c.in-Some.forth in
    let answer = plain_call c.in-Some-2.answer in
    let goes : opening_call (nth one s.gateways) (nth two s.gateways) c.args.first ≡ Some forth = sym c.in_ok-forth.ensures ∙ ap (option_map plain_call) c.in-Some.is in
    let comes : opening_call (nth two s.gateways) (nth one s.gateways) c.args.back ≡ Some answer = sym c.in_ok-answer.ensures ∙ ap (option_map plain_call) c.in-Some-2.is in
    between_in_order cmp matching g.met.K.Ord.total one two c.args.first c.args.back s forth answer goes comes c.requires.first_id c.requires.order

pub make_link-requires-clause-there_one : goal.make_link-requires-clause-there_one
make_link-requires-clause-there_one g c =
    let s = c.args.s.now in
    (known_by (nth c.args.one s.gateways) (nth c.args.two s.gateways) c.args.first (plain_call c.in-Some.forth) (sym c.in_ok-forth.ensures ∙ ap (option_map plain_call) c.in-Some.is)).0

pub make_link-requires-clause-there_two : goal.make_link-requires-clause-there_two
make_link-requires-clause-there_two g c =
    let s = c.args.s.now in
    (known_by (nth c.args.one s.gateways) (nth c.args.two s.gateways) c.args.first (plain_call c.in-Some.forth) (sym c.in_ok-forth.ensures ∙ ap (option_map plain_call) c.in-Some.is)).1

pub returns-clause-says : goal.returns-clause-says
returns-clause-says g c =
    let cmp = g.K.Ord.cmp in
    let matching = g.K.Key.matching in
    let s = c.args.s.now in
    let one = c.args.one in
    let two = c.args.two in
    let forth = plain_call c.in-Some.forth in
    let answer = plain_call c.in-Some-2.answer in
    let goes : opening_call (nth one s.gateways) (nth two s.gateways) c.args.first ≡ Some forth = sym c.in_ok-forth.ensures ∙ ap (option_map plain_call) c.in-Some.is in
    let comes : opening_call (nth two s.gateways) (nth one s.gateways) c.args.back ≡ Some answer = sym c.in_ok-answer.ensures ∙ ap (option_map plain_call) c.in-Some-2.is in
    IfOk-weaker c.make_link.result _ _
    (λ sent says. says ∙ joined_says cmp matching g.met.K.Ord.total one two c.args.first c.args.back s forth answer goes comes)
    c.make_link.ensures.says

pub returns-clause-does : goal.returns-clause-does
returns-clause-does g c =
    let cmp = g.K.Ord.cmp in
    let matching = g.K.Key.matching in
    let s = c.args.s.now in
    let one = c.args.one in
    let two = c.args.two in
    let forth = plain_call c.in-Some.forth in
    let answer = plain_call c.in-Some-2.answer in
    let goes : opening_call (nth one s.gateways) (nth two s.gateways) c.args.first ≡ Some forth = sym c.in_ok-forth.ensures ∙ ap (option_map plain_call) c.in-Some.is in
    let comes : opening_call (nth two s.gateways) (nth one s.gateways) c.args.back ≡ Some answer = sym c.in_ok-answer.ensures ∙ ap (option_map plain_call) c.in-Some-2.is in
    let said_is = joined_says cmp matching g.met.K.Ord.total one two c.args.first c.args.back s forth answer goes comes in
    both _ _ _ c.make_link.result
    (λ sent says does. does ∙ joined_does cmp matching g.met.K.Ord.total one two c.args.first c.args.back s forth answer goes comes sent.items c.requires.first_id c.requires.back_id c.requires.order (says ∙ said_is))
    c.make_link.ensures.says c.make_link.ensures.does
