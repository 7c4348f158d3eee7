use Rattle.std.proofs.Common.{◌≡◌, ◌++◌, drop, map}
use Rattle.std.specs.List.{flat_map}
use Rattle.zt_model.specs.Trees.{counted_table, routers_in_order}
use Rattle.zt_routers.specs.Greeting.{greeted}
use Rattle.zt_routers.proofs.greeting.greet_from_each.Given as goal

-- what is sent so far, and of the routers left, is all
abbrev pub invariant-loop-router : goal.invariant-loop-router
invariant-loop-router g l =
    let t = counted_table l.table in
    let rule = greeted g.K.Ord.cmp l.g l.region t (counted_table l.before) l.f in
    l.sends.items ++ map (λ m. (l.f.number, m)) (flat_map rule (drop l.router-index l.router-items))
    ≡ l.initial.sends.items ++ map (λ m. (l.f.number, m)) (flat_map rule (routers_in_order g.K.Ord.cmp t))
