use Rattle.std.proofs.Common.{set, sym, ap, ◌∙◌}
use Rattle.zt_liveliness.specs.Books.{with_token_made}
use Rattle.zt_liveliness.specs.declared.books.Session.{Session}
use Rattle.zt_liveliness.proofs.books.count_token.Goals as goal

pub returns-in-Some : goal.returns-in-Some
returns-in-Some c =
    let before = c.args.sessions.now.items in
    let changed = rw c.as_slice.ensures.value at (c.in-Some.ensures.changed with_token_made c.index_mut.result.now) in
    sym (changed ∙ ap (λ (s : Session). set before c.in-Some.place (with_token_made s)) (sym c.index_mut.ensures.value))
