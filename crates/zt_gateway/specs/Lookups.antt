-- What is looked up in what a gateway keeps.
--     declarers cmp region e g          how many live tokens of an expression there are in a region
--     told_under cmp n e g              the id under which an open face was told an expression, if it was
--     next_told cmp n after g           the least expression that an open face was told above another one, or the least of
--                                       all where there is no other
--     is_above cmp after e              the expression is above the other one, if there is one
--     next_above cmp after es           of these the least above it
--     is_below cmp best e               the expression is below the best so far, if there is one
--     nearer cmp after e best           it is the best from here on, if it is above the one and below the other
--     nearer_in cmp after e best        the same of an expression that may be there
use Rattle.std.specs.Prelude.{ℕ, Bool, true, ◌&&◌, if◌then◌else◌, List, Option, Some, None, count_by, map}
use Rattle.std.specs.Ordering.{is_lt}
use Rattle.std.specs.declared.cmp.Ordering.{Ordering}
use Rattle.zt_model.specs.Lists.{first_where, in_key_order, same}
use Rattle.zt_model.specs.Parts.{find_face, told_id}
use Rattle.zt_model.specs.Rows.{Rows}
use Rattle.zt_model.specs.Visible.{live_rows}
use Rattle.zt_region.specs.Region.{region_eq}
use Rattle.zt_region.specs.declared.region.Region.{Region}

module _ {K : Type 0} (cmp : K → K → Ordering) where
  abbrev pub declarers : Region → K → Rows K → ℕ
  declarers region e g = count_by (λ row. same cmp e row.1 && region_eq region row.0) (live_rows g)

  abbrev pub told_under : ℕ → K → Rows K → Option ℕ
  told_under n e g = elim (find_face n g) [ None ↦ None | Some f ↦ told_id cmp e f.told ]

  abbrev pub is_above : Option K → K → Bool
  is_above None e = true
  is_above (Some low) e = is_lt (cmp low e)

  abbrev pub next_above : Option K → List K → Option K
  next_above after es = first_where (is_above after) (in_key_order cmp es)

  abbrev pub next_told : ℕ → Option K → Rows K → Option K
  next_told n after g = elim (find_face n g) [ None ↦ None | Some f ↦ next_above after (map (λ row. row.1) f.told) ]

  -- ---- a walk to the next expression
  abbrev pub is_below : Option K → K → Bool
  is_below None e = true
  is_below (Some high) e = is_lt (cmp e high)

  abbrev pub nearer : Option K → K → Option K → Option K
  nearer after e best = if is_above after e && is_below best e then Some e else best

  abbrev pub nearer_in : Option K → Option K → Option K → Option K
  nearer_in after None best = best
  nearer_in after (Some e) best = nearer after e best
