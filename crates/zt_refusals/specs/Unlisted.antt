-- What a table's links and children name beside its routers.
use Rattle.std.specs.Prelude.{ℕ, Bool, ◌||◌, not, List}
use Rattle.std.specs.List.{list_any}
use Rattle.zt_region.specs.declared.region.Zid.{Zid}
use Rattle.zt_link_state.specs.Listed.{is_among}

-- links or children name a router that isn't among these, or the gateway isn't
abbrev pub names_others : List (ℕ × ℕ × Zid) → List (Zid × Zid) → List (Zid × ℕ) → Zid → Bool
names_others links children listed zid =
    not (is_among zid listed) || list_any (λ l. not (is_among l.2 listed)) links || list_any (λ c. not (is_among c.0 listed) || not (is_among c.1 listed)) children
