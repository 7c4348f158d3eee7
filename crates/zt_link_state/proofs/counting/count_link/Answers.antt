use Rattle.std.proofs.Common.{◌++◌, ◌∷◌, [], ℕ, cond, ap, sym, ◌∙◌}
use Rattle.std.proofs.lemmas.Bool.{or_parts}
use Rattle.zt_region.specs.declared.region.Zid.{Zid}
use Rattle.zt_link_state.specs.KeysOf.{zid_key_eq}
use Rattle.zt_link_state.proofs.Clashes.{is_behind, link_clashes, one_key_more, zid_key-turned}
use Rattle.zt_link_state.proofs.Looked.{behind_last}
use Rattle.zt_link_state.proofs.counting.count_link.Goals as goal

pub returns-then-is_link_taken : goal.returns-then-is_link_taken
returns-then-is_link_taken c =
    let l = c.args.link.now in
    let counted = c.args.counted.now.items in
    let clashes = sym (link_clashes l c.args.behind.now.entries c.args.zids.now.keys counted c.requires.behind c.requires.zids) ∙ sym c.is_link_taken.ensures ∙ c.if-is_link_taken.true in
    record {
      counted = ap (λ b. cond b counted (counted ++ l ∷ [])) (sym clashes);
      behind = c.requires.behind;
      zids = c.requires.zids;
    }

pub returns : goal.returns
returns c =
    let l = c.args.link.now in
    let counted = c.args.counted.now.items in
    let apart = sym c.is_link_taken.ensures ∙ c.if-is_link_taken.false in
    let free = sym (link_clashes l c.args.behind.now.entries c.args.zids.now.keys counted c.requires.behind c.requires.zids) ∙ apart in
    let unknown = sym (is_behind l.0 l.1 c.args.behind.now.entries counted c.requires.behind) ∙ (or_parts _ _ apart).0 in
    record {
      counted = c.in_ok-push.ensures.items ∙ ap (λ b. cond b counted (counted ++ l ∷ [])) (sym free);
      behind = rw c.in_ok-push.ensures.items (behind_last c.args.behind.now c.insert.new.self counted l c.requires.behind unknown c.in_ok-insert.ensures.updates);
      zids = rw c.in_ok-push.ensures.items (one_key_more zid_key_eq zid_key-turned (λ (x : ℕ × ℕ × Zid). (x.0, x.2)) c.args.zids.now c.insert-2.new.self counted l c.requires.zids c.in_ok-insert-2.ensures.updates);
    }
