use Rattle.std.proofs.Common.{rules, ◌≡◌, ◌+◌, ◌<◌, ◌≤◌, ◌∷◌, drop, length, refl, set, suc, take, sym, ap, ◌∙◌, subst, arith, add-one, length-set}
use Rattle.std.proofs.lemmas.Grind.{drop_more_same}
use Rattle.std.proofs.lemmas.List.{drop-set, drop-set-lt, drop_more, length-map, take-set}
use Rattle.std.specs.List.{AllByRecursion}
use Rattle.zt_shared_value.specs.Account.{IsCounted}
use Rattle.zt_shared_value.specs.Passes.{Standing}
use Rattle.zt_shared_value.proofs.Zipped.{AllZip-length, AllZip-self, AllZip-right, AllByRecursion-get, AllByRecursion-next, AllByRecursion-whole, get_or-map-set}
use Rattle.zt_shared_value.proofs.Accounting.{counted-self, counted-set}
use Rattle.zt_shared_value.proofs.closing.missing.Goals as goal

pub loop-i-init : goal.loop-i-init
loop-i-init g c = (AllZip-self IsCounted counted-self c.args.passes.now.items, tt, search rules, refl)

pub counted-made-requires-clause-own : goal.counted-made-requires-clause-own
counted-made-requires-clause-own g c =
    let Own : Standing g.row.J.Denot → Type 0 = λ pass. pass.table ≡ c.args.top.now.table_id in
    let own : AllByRecursion Own c.loop-i.passes.items = AllZip-right IsCounted Own Own (λ a b counted own. ap (λ pass. pass.table) counted.0 ∙ own)
    c.args.passes.now.items c.loop-i.passes.items c.loop-i.invariant.0 c.requires.own in
    let below = c.loop-i-test.true in
    let all = c.loop-i.invariant.2 in
    subst Own (sym c.index_mut-pass.ensures.value) (AllByRecursion-get Own c.loop-i.passes.items c.loop-i.i c.index_mut-pass.result.now (omega arith) own)

pub returns-then-made-handed-clause-counted : goal.returns-then-made-handed-clause-counted
returns-then-made-handed-clause-counted g c =
    let below = c.loop-i-test.true in
    let all = c.loop-i.invariant.2 in
    counted-set c.args.passes.now.items c.loop-i.passes.items c.loop-i.i c.counted-made.result c.index_mut-pass.result.now c.counted-made.new.pass
    c.loop-i.invariant.0 (omega arith) c.index_mut-pass.ensures.value c.counted-made.ensures.counted c.counted-made.ensures.more

pub returns-then-made-handed-clause-missing : goal.returns-then-made-handed-clause-missing
returns-then-made-handed-clause-missing g c =
    let known = λ (pass : Standing g.row.J.Denot). pass.known in
    let items = c.loop-i.passes.items in
    let new = c.counted-made.new.pass in
    let below = c.loop-i-test.true in
    let all = c.loop-i.invariant.2 in
    let inside : c.loop-i.i < length items = omega arith in
    let past = c.if-made-handed.true in
    let long = length-set items c.loop-i.i new in
    let mapped = length-map (set items c.loop-i.i new) known in
    (omega arith, (c.loop-i.i, (omega arith), get_or-map-set known items c.loop-i.i new c.counted-made.result inside ∙ ap known c.counted-made.ensures.counted))

pub returns-then-made-handed-clause-found : goal.returns-then-made-handed-clause-found
returns-then-made-handed-clause-found g c =
    let i = c.loop-i.i in
    let items = c.loop-i.passes.items in
    let pass = c.index_mut-pass.result.now in
    let new = c.counted-made.new.pass in
    let below = c.loop-i-test.true in
    let all = c.loop-i.invariant.2 in
    let inside : i < length items = omega arith in
    let past = c.if-made-handed.true in
    let long : c.len-handed.result ≡ length c.args.passes.now.items = all ∙ sym (AllZip-length IsCounted c.args.passes.now.items items c.loop-i.invariant.0) in
    let here : drop i items ≡ pass ∷ drop (i + 1) items = drop_more items i pass inside ∙ ap (λ x. x ∷ drop (i + 1) items) (sym c.index_mut-pass.ensures.value) in
    record {
      place = i;
      pass = pass;
      rest = drop (i + 1) items;
      stood = sym c.loop-i.invariant.3 ∙ here;
      found = drop-set items i new inside ∙ ap (λ x. x ∷ drop (i + 1) items) c.counted-made.ensures.counted;
      fewer = subst (λ most. AllByRecursion (λ (pass : Standing g.row.J.Denot). pass.known ≤ most) (take i (set items i new))) long (rw take-set c.loop-i.invariant.1);
      more = omega arith;
    }

pub loop-i-preserved : goal.loop-i-preserved
loop-i-preserved g c =
    let items = c.loop-i.passes.items in
    let new = c.counted-made.new.pass in
    let below = c.loop-i-test.true in
    let all = c.loop-i.invariant.2 in
    let inside : c.loop-i.i < length items = omega arith in
    let few = c.if-made-handed.false in
    let known = ap (λ pass. pass.known) c.counted-made.ensures.counted in
    let F : Standing g.row.J.Denot → Type 0 = λ pass. pass.known ≤ c.len-handed.result in (
      counted-set c.args.passes.now.items items c.loop-i.i c.counted-made.result c.index_mut-pass.result.now new
          c.loop-i.invariant.0 inside c.index_mut-pass.ensures.value c.counted-made.ensures.counted c.counted-made.ensures.more,
      rw add-one (AllByRecursion-next F items c.loop-i.i new inside c.loop-i.invariant.1 (omega arith)),
      all ∙ sym (length-set items c.loop-i.i new),
      rw add-one (drop-set-lt (suc c.loop-i.i) items c.loop-i.i new (omega arith) ∙ rw add-one at (drop_more_same items c.args.passes.now.items c.loop-i.i c.loop-i.invariant.3)),
    )

pub returns-clause-missing : goal.returns-clause-missing
returns-clause-missing g c =
    let items = c.loop-i.passes.items in
    let all = c.loop-i.invariant.2 in
    let past = c.loop-i-test.false in
    subst (λ n. AllByRecursion (λ (pass : Standing g.row.J.Denot). pass.known ≤ n) items) all
    (AllByRecursion-whole (λ (pass : Standing g.row.J.Denot). pass.known ≤ c.len-handed.result) items c.loop-i.i (omega arith) c.loop-i.invariant.1)
