-- The interests that faces were sent and that wait for their finals: what may wait once a face changed.
--     awaits_final now m   the interest that a message is, if it asks for what is there now: it waits from now on
use Rattle.std.specs.Prelude.{◌≡◌, ℕ, Bool, true, false, ◌==◌, ◌&&◌, ◌||◌, not, if◌then◌else◌, List, [], ◌∷◌, Option, Some, None, refl}
use Rattle.std.proofs.Common.{subst, sym}
use Rattle.std.proofs.lemmas.Bool.{and_from, and_parts}
use Rattle.std.proofs.lemmas.Cmp.{ranked}
use Rattle.std.specs.FinMap.Entries.{by_order, put}
use Rattle.std.specs.Ordering.{nat_cmp}
use Rattle.std.specs.declared.cmp.Ordering.{Ordering}
use Rattle.std.specs.declared.cmp.Ordering.TheVariants.{Less, Equal, Greater}
use Rattle.zt_keys.specs.Test.{by_test}
use Rattle.zt_protocol.specs.Interest.{is_current}
use Rattle.zt_protocol.specs.declared.messages.Message.{Message}
use Rattle.zt_protocol.specs.declared.messages.Message.TheVariants.{DeclareToken, UndeclareToken, DeclareFinal, Interest, InterestFinal, DeclareSubscriber, DeclareQueryable}
use Rattle.zt_face.specs.Told.{heard_known}
use Rattle.zt_faces.specs.Timed.{AwaitsOnly, KeepsPendings, is_awaited, waits_in}
use Rattle.zt_model.specs.Hearing.{put_if}
use Rattle.zt_model.specs.Lists.{without_id}
use Rattle.zt_model.specs.Routing.{ended}
use Rattle.zt_model.specs.Rows.{ById, Face, Pending}

abbrev pub awaits_final : {K : Type 0} → ℕ → Message K → Option (ℕ × ℕ)
awaits_final now (Interest id mode options e) = if is_current mode then Some (now, id) else None
awaits_final now m = None

or-left : (a b : Bool) → a ≡ true → (a || b) ≡ true
or-left true b t = refl
or-left false b t = cc

or-right : (a b : Bool) → b ≡ true → (a || b) ≡ true
or-right true b t = refl
or-right false b t = t

or-either : {P : Type 0} (a b : Bool) → (a || b) ≡ true → (a ≡ true → P) → (b ≡ true → P) → P
or-either true b t one other = one refl
or-either false b t one other = other t

-- ---- one that ends
without-waits : (since k id : ℕ) (rows : ById Pending) → waits_in since k (without_id id rows) ≡ true → waits_in since k rows ≡ true
without-waits since k id [] w = w
without-waits since k id (row ∷ rows) w =
    by_test (not (id == row.0))
    (λ t. or-either ((k == row.0) && (since == row.1.since)) (waits_in since k (without_id id rows)) (rw t at w)
    (λ u. or-left _ (waits_in since k rows) u)
    (λ u. or-right ((k == row.0) && (since == row.1.since)) _ (without-waits since k id rows u)))
    (λ t. or-right ((k == row.0) && (since == row.1.since)) _ (without-waits since k id rows (rw t at w)))

pub ended-keeps : {K : Type 0} (id : ℕ) (f : Face K) → KeepsPendings f (ended id f)
ended-keeps id f since k w = without-waits since k id f.pendings w

-- ---- one that is put in its place
turned : (a b : Bool) → (a && b) ≡ true → (b && a) ≡ true
turned a b h = let both = and_parts a b h in and_from b a both.1 both.0

put-waits : (since k id : ℕ) (p : Pending) (rows : ById Pending) → waits_in since k (put nat_cmp id p rows) ≡ true → (((since == p.since) && (k == id)) || waits_in since k rows) ≡ true
put-waits since k id p [] w =
    or-either ((k == id) && (since == p.since)) false w
    (λ u. or-left _ false (turned (k == id) (since == p.since) u))
    (λ u. cc)
put-waits since k id p (row ∷ rows) w =
    elim (nat_cmp id row.0) as (λ o. nat_cmp id row.0 ≡ o → waits_in since k (by_order o ((id, p) ∷ row ∷ rows) ((row.0, p) ∷ rows) (row ∷ put nat_cmp id p rows)) ≡ true → (((since == p.since) && (k == id)) || waits_in since k (row ∷ rows)) ≡ true) [
      | Less ↦ λ is h. or-either ((k == id) && (since == p.since)) (waits_in since k (row ∷ rows)) h
          (λ u. or-left _ (waits_in since k (row ∷ rows)) (turned (k == id) (since == p.since) u))
          (λ u. or-right ((since == p.since) && (k == id)) _ u)
      | Equal ↦ λ is h. or-either ((k == row.0) && (since == p.since)) (waits_in since k rows) h
          (λ u. or-left _ (waits_in since k (row ∷ rows)) (turned (k == id) (since == p.since) (subst (λ n. ((k == n) && (since == p.since)) ≡ true) (sym (ranked id row.0 Equal (sym is))) u)))
          (λ u. or-right ((since == p.since) && (k == id)) _ (or-right ((k == row.0) && (since == row.1.since)) _ u))
      | Greater ↦ λ is h. or-either ((k == row.0) && (since == row.1.since)) (waits_in since k (put nat_cmp id p rows)) h
          (λ u. or-right ((since == p.since) && (k == id)) _ (or-left _ (waits_in since k rows) u))
          (λ u. or-either ((since == p.since) && (k == id)) (waits_in since k rows) (put-waits since k id p rows u)
          (λ v. or-left _ (waits_in since k (row ∷ rows)) v)
          (λ v. or-right ((since == p.since) && (k == id)) _ (or-right ((k == row.0) && (since == row.1.since)) _ v)))
    ] refl w

put-if-waits : (since k now id : ℕ) (b : Bool) (p : Pending) (rows : ById Pending) → p.since ≡ now → waits_in since k (put_if b id p rows) ≡ true → (is_awaited since k (if b then Some (now, id) else None) || waits_in since k rows) ≡ true
put-if-waits since k now id true p rows is w = subst (λ n. (((since == n) && (k == id)) || waits_in since k rows) ≡ true) is (put-waits since k id p rows w)
put-if-waits since k now id false p rows is w = w

-- no other waits once a message was sent
pub known-awaits : {K : Type 0} (cmp : K → K → Ordering) (now : ℕ) (m : Message K) (known : Option ℕ) (f : Face K) → AwaitsOnly (awaits_final now m) f (heard_known cmp now m known f)
known-awaits cmp now (DeclareToken id e None node) known f = λ _ _ w. w
known-awaits cmp now (DeclareToken id e (Some interest) node) known f = λ _ _ w. w
known-awaits cmp now (UndeclareToken id e node) known f = λ _ _ w. w
known-awaits cmp now (DeclareFinal interest) known f = λ _ _ w. w
known-awaits cmp now (Interest id mode options e) known f = λ since k w. put-if-waits since k now id (is_current mode) (record { mode = mode; since = now }) f.pendings refl w
known-awaits cmp now (InterestFinal id) known f = λ _ _ w. w
known-awaits cmp now (DeclareSubscriber id e interest) known f = λ _ _ w. w
known-awaits cmp now (DeclareQueryable id e info interest) known f = λ _ _ w. w
