use Rattle.std.proofs.Common.{◌≡◌, subst, ◌∙◌}
use Rattle.std.specs.FinMap.Entries.{put}
use Rattle.std.specs.declared.cmp.Ordering.{Ordering}
use Rattle.zt_region.specs.declared.region.Region.{Region}
use Rattle.zt_link_state.proofs.Regions.{region_cmp-order}
use Rattle.zt_state.proofs.Tabled.{put-entry}
use Rattle.zt_state.proofs.routed.put_table.Goals as goal

pub returns : goal.returns
returns c =
    let old = c.args.trees.now.entries in
    subst (λ (cmp : Region → Region → Ordering). c.insert.new.self.entries ≡ put cmp c.args.region c.args.table old) (λ i a b. region_cmp-order a b i)
    (c.in_ok-insert.ensures.entries ∙ put-entry _ c.args.region c.args.table old)
