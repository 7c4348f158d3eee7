use Rattle.std.proofs.Common.{◌≡◌, ◌&&◌, drop}
use Rattle.zt_model.specs.Linking.{is_end_of}
use Rattle.zt_model.specs.Lists.{first_where}
use Rattle.zt_check_lines.proofs.loops.open_link_of.Given as goal

-- no link so far is the one
abbrev pub invariant-loop-link : goal.invariant-loop-link
invariant-loop-link l =
    first_where (λ link. link.is_open && is_end_of l.face link) (drop l.link-index l.links)
    ≡ first_where (λ link. link.is_open && is_end_of l.face link) l.links
