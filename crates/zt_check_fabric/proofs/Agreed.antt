-- The two ends of a link, as they see each other.
use Rattle.std.proofs.Common.{◌≡◌, ap, ◌∙◌}
use Rattle.zt_region.specs.declared.region.WhatAmI.{WhatAmI}
use Rattle.zt_region.specs.South.{PlainPeer, PlainSouth}
use Rattle.zt_model.specs.Fabric.{Node}
use Rattle.zt_model.specs.Linking.{end_region, peer_of}
use Rattle.zt_check_fabric.specs.Linked.{agreed}

pub agreed_is : {K : Type 0} (own other : Node K) (peer beyond : PlainPeer) (mode : WhatAmI) (south : PlainSouth) (other_mode : WhatAmI) (other_south : PlainSouth)
    → peer ≡ peer_of own → beyond ≡ peer_of other → mode ≡ own.rows.mode → south ≡ own.south → other_mode ≡ other.rows.mode → other_south ≡ other.south
    → agreed peer beyond mode south other_mode other_south ≡ end_region own other
unfolding end_region
agreed_is own other p q m a n b p_is q_is m_is a_is n_is b_is =
    ap (λ x. agreed x q m a n b) p_is
    ∙ ap (λ x. agreed (peer_of own) x m a n b) q_is
    ∙ ap (λ x. agreed (peer_of own) (peer_of other) x a n b) m_is
    ∙ ap (λ x. agreed (peer_of own) (peer_of other) own.rows.mode x n b) a_is
    ∙ ap (λ x. agreed (peer_of own) (peer_of other) own.rows.mode own.south x b) n_is
    ∙ ap (λ x. agreed (peer_of own) (peer_of other) own.rows.mode own.south other.rows.mode x) b_is
