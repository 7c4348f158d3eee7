-- What a face was told, by id.
use Rattle.std.specs.Prelude.{◌≡◌, ℕ, ◌==◌, ◌&&◌, if◌then◌else◌, [], ◌∷◌, ◌++◌, Option, Some, None}
use Rattle.std.specs.List.{list_any}
use Rattle.std.specs.declared.cmp.Ordering.{Ordering}
use Rattle.zt_protocol.specs.declared.messages.Message.{Message}
use Rattle.zt_protocol.specs.declared.messages.Message.TheVariants.{DeclareToken, UndeclareToken, DeclareFinal, Interest, InterestFinal, DeclareSubscriber, DeclareQueryable}
use Rattle.zt_model.specs.Hearing.{heard}
use Rattle.zt_model.specs.Parts.{told_id}
use Rattle.zt_model.specs.Lists.{is_among, same, without_id}
use Rattle.zt_model.specs.Rows.{Ask, ById, Face}

module _ {K : Type 0} (cmp : K → K → Ordering) where
  -- rows of which no two are of one expression
  abbrev pub AreApart : ById K → Type 0
  AreApart [] = Unit
  AreApart (row ∷ rows) = (told_id cmp row.1 rows ≡ None) × AreApart rows

  -- a pair of id and expression more, which is there once
  abbrev pub with_pair : ℕ → K → ById K → ById K
  with_pair id e rows = if list_any (λ row. id == row.0 && same cmp e row.1) rows then rows else rows ++ (id, e) ∷ []

  -- an ask that was answered an expression, which is there once
  abbrev pub answered_with : K → Ask K → Ask K
  answered_with e ask = if is_among cmp e ask.answered then ask else record ask { answered = ask.answered ++ e ∷ [] }

-- told that the pair of an id is gone, or that of an expression, whose id is known
abbrev pub untold_known : {K : Type 0} → ℕ → Option K → Option ℕ → ById K → ById K
untold_known id None known told = without_id id told
untold_known id (Some e) None told = told
untold_known id (Some e) (Some known) told = without_id known told

-- the face after it was sent a message, at this moment. Of one that says of an expression that it is gone it is
-- known under which id the face was told the expression.
abbrev pub heard_known : {K : Type 0} → (K → K → Ordering) → ℕ → Message K → Option ℕ → Face K → Face K
heard_known cmp now (UndeclareToken id e node) known f = record f { told = untold_known id e known f.told }
heard_known cmp now (DeclareToken id e interest node) known f = heard cmp now (DeclareToken id e interest node) f
heard_known cmp now (DeclareFinal interest) known f = heard cmp now (DeclareFinal interest) f
heard_known cmp now (Interest id mode options e) known f = heard cmp now (Interest id mode options e) f
heard_known cmp now (InterestFinal id) known f = heard cmp now (InterestFinal id) f
heard_known cmp now (DeclareSubscriber id e interest) known f = heard cmp now (DeclareSubscriber id e interest) f
heard_known cmp now (DeclareQueryable id e info interest) known f = heard cmp now (DeclareQueryable id e info interest) f
