-- What is read of a gateway without a change: the list that it stands in, and what the other end of a link sees.
use Rattle.std.proofs.Common.{◌≡◌, ℕ, List, [], ◌++◌, length, take, drop, ap, ◌∙◌}
use Rattle.std.proofs.Math.Seq.{take-append_seam}
use Rattle.zt_region.specs.South.{PlainPeer}
use Rattle.zt_model.specs.Fabric.{Node}
use Rattle.zt_model.specs.Linking.{peer_of}

-- what was taken apart and put together again
pub put_together : {A : Type 0} (xs ys : List A) (n : ℕ) → xs ≡ ys → n ≡ length ys → take n (xs ++ drop (length xs) ys) ≡ ys
put_together xs ys n same all =
    ap (λ zs. take n (zs ++ drop (length zs) ys)) same ∙ ap (λ k. take k (ys ++ drop (length ys) ys)) all ∙ take-append_seam ys (drop (length ys) ys)

-- a peer by its parts
pub peer_by_parts : {K : Type 0} (node : Node K) (peer : PlainPeer) → peer.zid ≡ node.rows.zid → peer.whatami ≡ node.rows.mode → peer.links ≡ []
    → peer.region_name ≡ node.name → peer ≡ peer_of node
peer_by_parts node peer zid mode links name =
    ap (λ z. record { zid = z; whatami = peer.whatami; links = peer.links; region_name = peer.region_name }) zid
    ∙ ap (λ w. record { zid = node.rows.zid; whatami = w; links = peer.links; region_name = peer.region_name }) mode
    ∙ ap (λ ls. record { zid = node.rows.zid; whatami = node.rows.mode; links = ls; region_name = peer.region_name }) links
    ∙ ap (λ n. record { zid = node.rows.zid; whatami = node.rows.mode; links = []; region_name = n }) name
