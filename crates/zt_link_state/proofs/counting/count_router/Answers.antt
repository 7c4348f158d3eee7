use Rattle.std.proofs.Common.{◌++◌, ◌∷◌, ◌==◌, [], ℕ, cond, ap, sym, ◌∙◌}
use Rattle.std.proofs.lemmas.Bool.{or_parts}
use Rattle.zt_region.specs.declared.region.Zid.{Zid}
use Rattle.zt_link_state.proofs.Clashes.{is_known, one_key_more, router_clashes}
use Rattle.zt_link_state.proofs.Looked.{nat-turned, node_last}
use Rattle.zt_link_state.proofs.counting.count_router.Goals as goal

pub returns-then-is_taken : goal.returns-then-is_taken
returns-then-is_taken c =
    let r = c.args.router.now in
    let counted = c.args.counted.now.items in
    let clashes = sym (router_clashes r c.args.node_ids.now.keys c.args.nodes.now.entries counted c.requires.node_ids c.requires.nodes) ∙ sym c.is_taken.ensures ∙ c.if-is_taken.true in
    record {
      counted = ap (λ b. cond b counted (counted ++ r ∷ [])) (sym clashes);
      node_ids = c.requires.node_ids;
      nodes = c.requires.nodes;
    }

pub returns : goal.returns
returns c =
    let r = c.args.router.now in
    let counted = c.args.counted.now.items in
    let apart = sym c.is_taken.ensures ∙ c.if-is_taken.false in
    let free = sym (router_clashes r c.args.node_ids.now.keys c.args.nodes.now.entries counted c.requires.node_ids c.requires.nodes) ∙ apart in
    let unknown = sym (is_known r.1 c.args.nodes.now.entries counted c.requires.nodes) ∙ (or_parts _ _ apart).1 in
    record {
      counted = c.in_ok-push.ensures.items ∙ ap (λ b. cond b counted (counted ++ r ∷ [])) (sym free);
      node_ids = rw c.in_ok-push.ensures.items (one_key_more (λ a b. a == b) nat-turned (λ (x : ℕ × Zid). x.0) c.args.node_ids.now c.insert.new.self counted r c.requires.node_ids c.in_ok-insert.ensures.updates);
      nodes = rw c.in_ok-push.ensures.items (node_last c.args.nodes.now c.insert-2.new.self counted r c.requires.nodes unknown c.in_ok-insert-2.ensures.updates);
    }
