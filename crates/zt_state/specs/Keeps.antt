-- Changes of a face that keep its number, its region and its tokens; and that no message adds an ask.
use Rattle.std.specs.Prelude.{ℕ, Bool, true, false, ◌==◌, ◌&&◌, ◌++◌, not, if◌then◌else◌, [], ◌∷◌, Option, Some, None, filter, map, refl}
use Rattle.std.specs.declared.cmp.Ordering.{Ordering}
use Rattle.zt_protocol.specs.declared.messages.Message.{Message}
use Rattle.zt_protocol.specs.declared.messages.Message.TheVariants.{DeclareToken, UndeclareToken, DeclareFinal, Interest, InterestFinal, DeclareSubscriber, DeclareQueryable}
use Rattle.zt_face.specs.Told.{heard_known}
use Rattle.zt_faces.specs.Asked.{AreKnown, Askings, IsKnown, KeepsAsks}
use Rattle.zt_faces.specs.Routers.{KeepsRouter}
use Rattle.zt_model.specs.Hearing.{heard, with_answer}
use Rattle.zt_model.specs.Lists.{is_among, without_id}
use Rattle.zt_model.specs.Rows.{Ask, ById, Face}
use Rattle.zt_state.specs.Indexed.{KeepsDeclared}

-- no message changes what a face declares
pub heard-keeps : {K : Type 0} (cmp : K → K → Ordering) (now : ℕ) (m : Message K) (f : Face K) → KeepsDeclared f (heard cmp now m f)
heard-keeps cmp now (DeclareToken id e interest node) f = record { number = refl; region = refl; live = refl }
heard-keeps cmp now (UndeclareToken id e node) f = record { number = refl; region = refl; live = refl }
heard-keeps cmp now (DeclareFinal interest) f = record { number = refl; region = refl; live = refl }
heard-keeps cmp now (Interest id mode options e) f = record { number = refl; region = refl; live = refl }
heard-keeps cmp now (InterestFinal id) f = record { number = refl; region = refl; live = refl }
heard-keeps cmp now (DeclareSubscriber id e interest) f = record { number = refl; region = refl; live = refl }
heard-keeps cmp now (DeclareQueryable id e info interest) f = record { number = refl; region = refl; live = refl }

-- whatever id is known of an expression that is gone
pub known-keeps : {K : Type 0} (cmp : K → K → Ordering) (now : ℕ) (m : Message K) (known : Option ℕ) (f : Face K) → KeepsDeclared f (heard_known cmp now m known f)
known-keeps cmp now (DeclareToken id e interest node) known f = record { number = refl; region = refl; live = refl }
known-keeps cmp now (UndeclareToken id e node) known f = record { number = refl; region = refl; live = refl }
known-keeps cmp now (DeclareFinal interest) known f = record { number = refl; region = refl; live = refl }
known-keeps cmp now (Interest id mode options e) known f = record { number = refl; region = refl; live = refl }
known-keeps cmp now (InterestFinal id) known f = record { number = refl; region = refl; live = refl }
known-keeps cmp now (DeclareSubscriber id e interest) known f = record { number = refl; region = refl; live = refl }
known-keeps cmp now (DeclareQueryable id e info interest) known f = record { number = refl; region = refl; live = refl }

-- no message changes what a face is known by
pub known-keeps-router : {K : Type 0} (cmp : K → K → Ordering) (now : ℕ) (m : Message K) (known : Option ℕ) (f : Face K) → KeepsRouter f (heard_known cmp now m known f)
known-keeps-router cmp now (DeclareToken id e interest node) known f = record { region = refl; zid = refl }
known-keeps-router cmp now (UndeclareToken id e node) known f = record { region = refl; zid = refl }
known-keeps-router cmp now (DeclareFinal interest) known f = record { region = refl; zid = refl }
known-keeps-router cmp now (Interest id mode options e) known f = record { region = refl; zid = refl }
known-keeps-router cmp now (InterestFinal id) known f = record { region = refl; zid = refl }
known-keeps-router cmp now (DeclareSubscriber id e interest) known f = record { region = refl; zid = refl }
known-keeps-router cmp now (DeclareQueryable id e info interest) known f = record { region = refl; zid = refl }

-- an answer changes nothing of what an ask was sent as
answers-known : {K : Type 0} (cmp : K → K → Ordering) (askers : Askings) (n id : ℕ) (e : K) (asks : ById (Ask K)) → AreKnown askers n asks → AreKnown askers n (map (with_answer cmp id e) asks)
answers-known cmp askers n id e [] known = tt
answers-known cmp askers n id e (row ∷ asks) known = (by_answer ((id == row.0) && not (is_among cmp e row.1.answered)), answers-known cmp askers n id e asks known.1)
  where
    by_answer : (b : Bool) → IsKnown askers n (if b then (row.0, record row.1 { answered = row.1.answered ++ e ∷ [] }) else row).0 (if b then (row.0, record row.1 { answered = row.1.answered ++ e ∷ [] }) else row).1.pendings
    by_answer true = known.0
    by_answer false = known.0

known-if : {K : Type 0} (askers : Askings) (n : ℕ) (b : Bool) (row : ℕ × Ask K) (asks : ById (Ask K)) → IsKnown askers n row.0 row.1.pendings → AreKnown askers n asks → AreKnown askers n (if b then row ∷ asks else asks)
known-if askers n true row asks here known = (here, known)
known-if askers n false row asks here known = known

asks-without : {K : Type 0} (askers : Askings) (n id : ℕ) (asks : ById (Ask K)) → AreKnown askers n asks → AreKnown askers n (without_id id asks)
asks-without askers n id [] known = tt
asks-without askers n id (row ∷ asks) known = known-if askers n (not (id == row.0)) row (without_id id asks) known.0 (asks-without askers n id asks known.1)

-- no message adds an ask
pub known-keeps-asks : {K : Type 0} (cmp : K → K → Ordering) (now : ℕ) (m : Message K) (known : Option ℕ) (f : Face K) → KeepsAsks f (heard_known cmp now m known f)
known-keeps-asks cmp now (DeclareToken id e None node) known f = λ _ before. before
known-keeps-asks cmp now (DeclareToken id e (Some interest) node) known f = λ askers before. answers-known cmp askers f.number interest e f.asks before
known-keeps-asks cmp now (UndeclareToken id e node) known f = λ _ before. before
known-keeps-asks cmp now (DeclareFinal interest) known f = λ askers before. asks-without askers f.number interest f.asks before
known-keeps-asks cmp now (Interest id mode options e) known f = λ _ before. before
known-keeps-asks cmp now (InterestFinal id) known f = λ _ before. before
known-keeps-asks cmp now (DeclareSubscriber id e interest) known f = λ _ before. before
known-keeps-asks cmp now (DeclareQueryable id e info interest) known f = λ _ before. before
