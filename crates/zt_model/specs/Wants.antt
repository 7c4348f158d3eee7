-- Which tokens a face asks for.
use Rattle.std.specs.Prelude.{Bool, true, ◌&&◌, ◌||◌, if◌then◌else◌, Option, Some, None}
use Rattle.std.specs.List.{list_any}
use Rattle.zt_region.specs.declared.region.WhatAmI.{WhatAmI}
use Rattle.zt_region.specs.declared.region.WhatAmI.TheVariants.{Peer}
use Rattle.zt_region.specs.Region.{whatami_eq}
use Rattle.zt_protocol.specs.Interest.{is_current, has_tokens, without_aggregate}
use Rattle.zt_protocol.specs.declared.interests.InterestOptions.{InterestOptions}
use Rattle.zt_model.specs.Hat.{hat_of}
use Rattle.zt_model.specs.Rows.{Face, InterestRow}

-- AGGREGATE is kept by no face of mode Peer, and by no interest in tokens
abbrev pub kept_options : WhatAmI → InterestOptions → InterestOptions
kept_options mode options = if whatami_eq mode Peer || has_tokens options then without_aggregate options else options

module _ {K : Type 0} (matching : K → K → Bool) where
  -- an interest without expression asks for all
  abbrev pub is_about : Option K → K → Bool
  is_about None e = true
  is_about (Some k) e = matching k e

  -- the interest asks for tokens of the expression
  abbrev pub asks_token : InterestRow K → K → Bool
  asks_token interest e = has_tokens interest.options && is_about interest.expr e

  -- the face holds an interest in the expression's tokens
  unfoldable pub wants : Face K → K → Bool
  wants f e = list_any (λ row. asks_token row.1 e) f.held

  -- a face of a gateway of this mode is to know all of the expression's tokens, those too that were there before it asked
  unfoldable pub covers : WhatAmI → Face K → K → Bool
  covers mode f e = (hat_of mode f.region).is_told_unasked f.region || list_any (λ row. is_current row.1.mode && asks_token row.1 e) f.held

  -- a face of a gateway of this mode may be told of the expression
  unfoldable pub seeks : WhatAmI → Face K → K → Bool
  seeks mode f e = (hat_of mode f.region).is_told_unasked f.region || wants f e
