-- What faces were told, as an index finds it.
--     told_id_at cmp e faces n                    the id under which the face of a number was told an expression
--     gone_id cmp n message index                 the id under which the face was told the expression that a message says is gone
--     IsRetold cmp n before after old new         where what the face of a number was told changes, the index changes with it
use Rattle.std.specs.Prelude.{◌≡◌, ℕ, ◌==◌, if◌then◌else◌, List, Option, Some, None}
use Rattle.std.specs.declared.cmp.Ordering.{Ordering}
use Rattle.zt_protocol.specs.declared.messages.Message.{Message}
use Rattle.zt_protocol.specs.declared.messages.Message.TheVariants.{DeclareToken, UndeclareToken, DeclareFinal, Interest, InterestFinal, DeclareSubscriber, DeclareQueryable}
use Rattle.zt_token_index.specs.Told.{id_of, told_at}
use Rattle.zt_face.specs.Told.{AreApart}
use Rattle.zt_model.specs.Lists.{first_where}
use Rattle.zt_model.specs.Parts.{told_id}
use Rattle.zt_model.specs.Rows.{ById, Face}

-- of each expression the faces that were told it, each with its id
abbrev pub Index : Type 0 → Type 0
Index K = List (K × List (ℕ × ℕ))

module _ {K : Type 0} (cmp : K → K → Ordering) where
  abbrev pub told_id_at : K → List (Face K) → ℕ → Option ℕ
  told_id_at e faces n = elim (first_where (λ f. n == f.number) faces) [ None ↦ None | Some f ↦ told_id cmp e f.told ]

  abbrev pub gone_id : ℕ → Message K → Index K → Option ℕ
  gone_id n (UndeclareToken id (Some e) node) index = id_of n (told_at cmp e index)
  gone_id n (UndeclareToken id None node) index = None
  gone_id n (DeclareToken id e interest node) index = None
  gone_id n (DeclareFinal interest) index = None
  gone_id n (Interest id mode options e) index = None
  gone_id n (InterestFinal id) index = None
  gone_id n (DeclareSubscriber id e interest) index = None
  gone_id n (DeclareQueryable id e info interest) index = None

  -- The index finds for this face what it was told, and that is told under one id each: so it is after the change,
  -- and for no other face it finds anything else.
  pub record IsRetold (n : ℕ) (before after : ById K) (old new : Index K) : Type 0 where
    pub apart : AreApart cmp before → ((q : K) → id_of n (told_at cmp q old) ≡ told_id cmp q before) → AreApart cmp after
    pub at : AreApart cmp before → ((q : K) → id_of n (told_at cmp q old) ≡ told_id cmp q before) → (q : K) (m : ℕ) → id_of m (told_at cmp q new) ≡ (if n == m then told_id cmp q after else id_of m (told_at cmp q old))
