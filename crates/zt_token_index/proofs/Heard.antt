-- What a face keeps where it hears a message.
use Rattle.std.proofs.Common.{◌≡◌, ℕ, refl}
use Rattle.std.specs.declared.cmp.Ordering.{Ordering}
use Rattle.zt_protocol.specs.declared.messages.Message.{Message}
use Rattle.zt_protocol.specs.declared.messages.Message.TheVariants.{DeclareToken, UndeclareToken, DeclareFinal, Interest, InterestFinal, DeclareSubscriber, DeclareQueryable}
use Rattle.zt_model.specs.Hearing.{heard}
use Rattle.zt_model.specs.Rows.{Face}

pub record KeepsPlace {K : Type 0} (f g : Face K) : Type 0 where
  pub number : g.number ≡ f.number
  pub region : g.region ≡ f.region
  pub held : g.held ≡ f.held

pub heard-place : {K : Type 0} (cmp : K → K → Ordering) (now : ℕ) (m : Message K) (f : Face K) → KeepsPlace f (heard cmp now m f)
heard-place cmp now (DeclareToken id e interest node) f = record { number = refl; region = refl; held = refl }
heard-place cmp now (UndeclareToken id e node) f = record { number = refl; region = refl; held = refl }
heard-place cmp now (DeclareFinal interest) f = record { number = refl; region = refl; held = refl }
heard-place cmp now (Interest id mode options e) f = record { number = refl; region = refl; held = refl }
heard-place cmp now (InterestFinal id) f = record { number = refl; region = refl; held = refl }
heard-place cmp now (DeclareSubscriber id e interest) f = record { number = refl; region = refl; held = refl }
heard-place cmp now (DeclareQueryable id e info interest) f = record { number = refl; region = refl; held = refl }
