-- The client: it speaks to one gateway above, tells it of all tokens, and asks it whatever is asked in the south. Zenoh's
-- `hat/client`.
use Rattle.std.specs.Prelude.{true, false}
use Rattle.zt_region.specs.declared.region.Bound.TheVariants.{South as SouthBound}
use Rattle.zt_region.specs.Region.{bound_eq}
use Rattle.zt_model.specs.hats.Rules.{Hat}

abbrev pub client : Hat
client = record {
  fits = λ region remote bound. bound_eq bound SouthBound;
  has_one_face = true;
  takes_interests = λ remote. false;
  has_initial = λ region bound. false;
  shares_tokens = false;
  is_told_unasked = λ region. true;
  -- nothing is asked from above, so this isn't seen
  undeclares_untold = false;
  goes_by_trees = false;
  leads_up = λ bound. true;
  -- the one face is asked all
  asks_one = false;
  kind_of = λ remote. remote;
}
