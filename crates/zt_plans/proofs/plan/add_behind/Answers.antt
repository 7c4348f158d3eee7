use Rattle.std.proofs.Common.{◌≡◌, ◌+◌, ◌==◌, ℕ, Bool, true, false, inl, inr, List, [], ◌++◌, ◌∷◌, length, map, sym, ap, subst, arith}
use Rattle.zt_protocol.specs.Plain.{plain_line}
use Rattle.zt_model.specs.Journal.{is_speaking}
use Rattle.zt_gateway.specs.Settings.{line_of}
use Rattle.zt_theorem_journal.specs.Dealt.{numbered_from}
use Rattle.zt_plans.specs.Plans.{call_of, numbered}
use Rattle.zt_plans.specs.declared.plan.Numbered.{Numbered}
use Rattle.zt_plans.proofs.PlanLemmas.{numbers_more, other_kind, script_ended, script_speaks}
use Rattle.zt_plans.proofs.plan.add_behind.Goals as goal

some_calls : {K : Type 0} (calls : List (Numbered K)) (none : Bool) (n : ℕ) → none ≡ false → none ≡ (n == 0) → n ≡ length calls → map call_of calls ≡ [] → ⊥
some_calls [] none n is found many empty = let zero : (n == 0) ≡ true = ap (λ k. k == 0) many in cc
some_calls (one ∷ calls) none n is found many empty = cc

pub returns-then-not-is_empty-clause-other : goal.returns-then-not-is_empty-clause-other
returns-then-not-is_empty-clause-other g c =
    let plan = c.args.plan.now in
    let silent : is_speaking (plain_line c.args.line) ≡ false =
    elim c.in-Session.is [ inl w ↦ ap (λ l. is_speaking (plain_line l)) w.2 | inr w ↦ ap (λ l. is_speaking (plain_line l)) w.6 ] in
    λ _. script_speaks plan.gateway (map plain_line plan.makings.items) (map call_of plan.calls.items) (plain_line c.args.line) c.requires.form.making
    (some_calls plan.calls.items c.is_empty.result _ c.if-not-is_empty.true c.is_empty.ensures (omega (arith, plan.calls.ok.0))) silent

pub returns-in_ok-push-in-Speak-clause-form : goal.returns-in_ok-push-in-Speak-clause-form
returns-in_ok-push-in-Speak-clause-form g c =
    let plan = c.args.plan.now in
    let makings = map plain_line plan.makings.items in
    let one : Numbered g.row.K.Denot = record { line = c.args.number; call = c.in-Speak.call } in
    let more : List (Numbered g.row.K.Denot) = plan.calls.items ++ one ∷ [] in
    λ _. record {
      making = c.requires.form.making;
      numbers =
          subst (λ (xs : List (Numbered g.row.K.Denot)). map numbered xs ≡ numbered_from (2 + length makings) (map call_of xs)) {x = more} {y = c.push-in-Speak.new.self.items}
          (sym {a = c.push-in-Speak.new.self.items} {b = more} c.in_ok-push-in-Speak.ensures.items)
          (numbers_more (line_of plan.gateway) makings plan.calls.items one c.requires.form.numbers c.requires.number);
    }

pub returns-in_default : goal.returns-in_default
returns-in_default g c =
    let plan = c.args.plan.now in
    let kind = other_kind c.args.line c.in_default.not-Session c.in_default.not-Face c.in_default.not-Speak in
    record {
      lines = λ same. absurd (cc);
      form = λ same. c.requires.form;
      other = λ _. script_ended plan.gateway (map plain_line plan.makings.items) (map call_of plan.calls.items) (plain_line c.args.line) c.requires.form.making kind.0 kind.1;
    }
