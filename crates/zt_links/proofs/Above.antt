-- The gateway above one that has one face to the north, by the first such face.
use Rattle.std.proofs.Common.{◌≡◌, ℕ, Bool, true, false, if◌then◌else◌, Option, Some, None, option_map, ap, refl, sym, ◌∙◌}
use Rattle.zt_region.specs.Region.{is_north}
use Rattle.zt_model.specs.Fabric.{Fabric, Node, number_of_place}
use Rattle.zt_model.specs.Hat.{north_hat}
use Rattle.zt_model.specs.Linking.{gateway_above, gateway_beyond}
use Rattle.zt_model.specs.Lists.{first_where, nth}
use Rattle.zt_model.specs.Rows.{Face}

some-same : (a b : ℕ) → Some a ≡ Some b → a ≡ b
some-same a b h = cc

module _ {K : Type 0} (s : Fabric K) (n : ℕ) where
  abbrev beyond-first : Option (Face K) → Option ℕ
  beyond-first None = None
  beyond-first (Some f) = gateway_beyond s (number_of_place s n f.number)

  abbrev above-of : Option (Node K) → Option ℕ
  above-of None = None
  above-of (Some node) = if (north_hat node.rows.mode).has_one_face then beyond-first (first_where (λ f. is_north f.region) node.rows.faces) else None

  first-is : (face : ℕ) (found : Option (Face K)) → Some face ≡ option_map (λ f. f.number) found → gateway_beyond s (number_of_place s n face) ≡ beyond-first found
  first-is face None absent = cc
  first-is face (Some f) is = ap (λ k. gateway_beyond s (number_of_place s n k)) (some-same face f.number is)

  pub above_is : (face : ℕ) (node : Node K) → nth n s.gateways ≡ Some node → (north_hat node.rows.mode).has_one_face ≡ true
      → Some face ≡ option_map (λ f. f.number) (first_where (λ f. is_north f.region) node.rows.faces) → gateway_beyond s (number_of_place s n face) ≡ gateway_above s n
  above_is face node at single first =
      let found = first_where (λ f. is_north f.region) node.rows.faces in
      first-is face found first
      ∙ sym (ap (λ b. if b then beyond-first found else None) single)
      ∙ sym (ap above-of at)

  -- none lies above another gateway
  pub none_above : (node : Node K) → nth n s.gateways ≡ Some node → (north_hat node.rows.mode).has_one_face ≡ false → None ≡ gateway_above s n
  none_above node at other =
      sym (ap above-of at ∙ ap (λ b. if b then beyond-first (first_where (λ f. is_north f.region) node.rows.faces) else None) other)

  none-first : (found : Option (Face K)) → None ≡ option_map (λ f. f.number) found → beyond-first found ≡ None
  none-first None none = refl
  none-first (Some f) none = cc

  -- nor above one without a face to the north
  pub none_north : (node : Node K) → nth n s.gateways ≡ Some node → None ≡ option_map (λ f. f.number) (first_where (λ f. is_north f.region) node.rows.faces) → None ≡ gateway_above s n
  none_north node at none =
      let found = first_where (λ f. is_north f.region) node.rows.faces in
      sym (ap above-of at ∙ either-none (north_hat node.rows.mode).has_one_face (beyond-first found) (none-first found none))
    where
      either-none : (b : Bool) (o : Option ℕ) → o ≡ None → (if b then o else None) ≡ None
      either-none true o is = is
      either-none false o is = refl
