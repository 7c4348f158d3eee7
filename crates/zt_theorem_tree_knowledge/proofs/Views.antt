-- Fabrics with the same links, in which each end of an open link is seen as before: links stand, and ranks fall, in the one
-- where they do in the other.
use Rattle.std.proofs.Common.{◌≡◌, ℕ, ◌≤◌, ◌<◌, Bool, true, ◌&&◌, not, length, Some, sym, ap, ◌∙◌, subst, le_trans}
use Rattle.std.specs.List.{list_any}
use Rattle.std.specs.declared.cmp.Ordering.{Ordering}
use Rattle.zt_region.specs.Region.{is_north}
use Rattle.zt_model.specs.Fabric.{Fabric, Link}
use Rattle.zt_model.specs.Linking.{is_end_of}
use Rattle.zt_model.specs.Lists.{has_id}
use Rattle.zt_model.specs.Transcript.{Each, FaceAt, face_numbered}
use Rattle.zt_laws.proofs.Lists.{each_weaker}
use Rattle.zt_theorem_tree_invariant.specs.Joints.{EndsRise, IsForest, LinksStand, are_joined, joins}
use Rattle.zt_theorem_tree_invariant.proofs.Quiet.{joined_back}
use Rattle.zt_theorem_tree_knowledge.proofs.LineCalls.{the_one}

module _ {K : Type 0} (cmp : K → K → Ordering) (matching : K → K → Bool) (s : Fabric K) where
  -- a face of the one fabric in the other
  pub record Seen (t : Fabric K) (a : ℕ) (z : FaceAt K) : Type 0 where
    pub face : FaceAt K
    pub is : face_numbered t a ≡ Some face
    pub gateway : face.gateway ≡ z.gateway
    pub region : is_north face.face.region ≡ is_north z.face.region

  -- the other fabric: it has the same links, each joined face is seen, and no end of a link comes anew
  pub record IsLike (t : Fabric K) : Type 0 where
    pub links : t.links ≡ s.links
    pub faces : length s.faces ≤ length t.faces
    pub gateways : length s.gateways ≤ length t.gateways
    pub wait : (k : ℕ) → has_id k s.waiting ≡ true → has_id k t.waiting ≡ true
    pub rows : Each (λ row. row.0 ≤ length t.faces) t.waiting
    pub there : (a b : ℕ) (z : FaceAt K) → are_joined s a b ≡ true → face_numbered s a ≡ Some z → Seen t a z
    pub was : (a : ℕ) (x : FaceAt K) → face_numbered t a ≡ Some x → list_any (is_end_of a) s.links ≡ true → (z : FaceAt K) × (face_numbered s a ≡ Some z)

  pub like_stands : (t : Fabric K) → IsLike t → LinksStand s → LinksStand t
  like_stands t like stand =
      let joined_is = λ (a b : ℕ) (joined : are_joined t a b ≡ true). (let is : are_joined s a b ≡ true = ap (λ ls. list_any (λ link. link.is_open && joins a b link) ls) (sym like.links) ∙ joined in is) in
      let joined_was = λ (a b : ℕ) (joined : are_joined s a b ≡ true). (let is : are_joined t a b ≡ true = ap (λ ls. list_any (λ link. link.is_open && joins a b link) ls) like.links ∙ joined in is) in
      record {
        meet = λ a b joined.
            let joined_s = joined_is a b joined in
            let ends = stand.meet a b joined_s in
            let one = like.there a b ends.one joined_s ends.one_is in
            let two = like.there b a ends.two (joined_back s a b joined_s) ends.two_is in
            record { one = one.face; two = two.face; one_is = one.is; two_is = two.is; one_leads_up = two.region ∙ ends.one_leads_up ∙ ap not (sym one.region) };
        once = λ a b c one two. stand.once a b c (joined_is a b one) (joined_is a c two);
        stay = λ a x found some.
            let some_s = ap (λ ls. list_any (is_end_of a) ls) (sym like.links) ∙ some in
            let z = like.was a x found some_s in
            let j = stand.stay a z.0 z.1 some_s in
            record { other = j.other; joined = joined_was a j.other j.joined };
        wait = λ a b joined. like.wait a (stand.wait a b (joined_is a b joined));
        made = subst (λ ls. Each (λ (link : Link). (link.one ≤ length t.faces) × (link.two ≤ length t.faces)) ls) (sym like.links)
            (each_weaker (λ (link : Link). (link.one ≤ length s.faces) × (link.two ≤ length s.faces)) (λ link. (link.one ≤ length t.faces) × (link.two ≤ length t.faces)) (λ link le. (le_trans le.0 like.faces, le_trans le.1 like.faces)) s.links stand.made);
        rise = subst (EndsRise 0) (sym like.links) stand.rise;
        rows = like.rows;
      }

  pub like_falls : (t : Fabric K) → IsLike t → LinksStand s → IsForest s → IsForest t
  like_falls t like stand forest = record {
    rank = forest.rank;
    within = λ n. le_trans (forest.within n) like.gateways;
    falls = λ a b x y joined x_is y_is up.
        let joined_s : are_joined s a b ≡ true = ap (λ ls. list_any (λ link. link.is_open && joins a b link) ls) (sym like.links) ∙ joined in
        let ends = stand.meet a b joined_s in
        let one = like.there a b ends.one joined_s ends.one_is in
        let two = like.there b a ends.two (joined_back s a b joined_s) ends.two_is in
        let x_same : x ≡ one.face = the_one (sym x_is ∙ one.is) in
        let y_same : y ≡ two.face = the_one (sym y_is ∙ two.is) in
        let up_s : is_north ends.one.face.region ≡ true = sym one.region ∙ ap (λ (v : FaceAt K). is_north v.face.region) (sym x_same) ∙ up in
        let less = forest.falls a b ends.one ends.two joined_s ends.one_is ends.two_is up_s in
        subst (λ g. forest.rank y.gateway < forest.rank g) (sym (ap (λ (v : FaceAt K). v.gateway) x_same ∙ one.gateway))
        (subst (λ g. forest.rank g < forest.rank ends.one.gateway) (sym (ap (λ (v : FaceAt K). v.gateway) y_same ∙ two.gateway)) less);
  }
