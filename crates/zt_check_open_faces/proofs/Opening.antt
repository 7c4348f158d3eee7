-- What is kept beside open faces still fits them after each change.
use Rattle.std.proofs.Common.{◌≡◌, ℕ, ◌+◌, ◌<◌, ◌≤◌, ◌==◌, ◌&&◌, not, List, [], ◌∷◌, ◌++◌, filter, map, sym, subst, arith}
use Rattle.std.specs.declared.cmp.Ordering.{Ordering}
use Rattle.std.specs.declared.cmp.Ordering.TheVariants.{Equal}
use Rattle.zt_protocol.specs.declared.messages.Message.{Message}
use Rattle.zt_model.specs.Hearing.{heard}
use Rattle.zt_model.specs.Rows.{Face}
use Rattle.zt_model.specs.Shown.{with_token, without_token}
use Rattle.zt_check_hints.specs.Hinted.{IsHinted, Keeps, KeepsBut}
use Rattle.zt_check_faces.specs.Faces.{if_number}
use Rattle.zt_check_open_faces.specs.declared.tokens.TokenPlace.{TokenPlace}
use Rattle.zt_check_open_faces.specs.Found.{AreTold}
use Rattle.zt_check_open_faces.specs.Open.{KeepsRows}
use Rattle.zt_check_open_faces.specs.Places.{AreOpen}
use Rattle.zt_check_open_faces.proofs.Declaring.{declared_changed, declared_closed, declared_dropped, declared_pushed, declared_put, number_dropped, number_put, tokens_changed, tokens_dropped, tokens_filtered, tokens_kept, tokens_pushed, tokens_put}
use Rattle.zt_check_open_faces.proofs.Rising.{rise_changed, rise_filtered, rise_pushed, within_changed, within_filtered, within_pushed}
use Rattle.zt_check_open_faces.proofs.Telling.{live_heard, number_heard, told_changed, told_closed, told_dropped, told_pushed, told_put}

module _ {K : Type 0} (cmp : K → K → Ordering) where
  pub open_pushed : (made next : ℕ) (hints : List (K × List TokenPlace)) (told : List (K × List ℕ)) (f : Face K) (fs new : List (Face K)) → next ≡ made + 1 → f.number ≡ next → f.live ≡ [] → f.told ≡ [] → new ≡ fs ++ f ∷ []
      → AreOpen cmp made fs hints told → AreOpen cmp next new hints told
  open_pushed made next hints told f fs new more number live quiet is open_ =
      subst (λ gs. AreOpen cmp next gs hints told) (sym is)
      (record {
        rise = rise_pushed 0 made f fs open_.rise open_.within (omega arith) (omega (arith, more, number));
        within = within_pushed made next f fs open_.within (omega (arith, more)) (omega (arith, number));
        tokens = tokens_pushed f fs open_.tokens live;
        declared = declared_pushed cmp hints f fs open_.declared live;
        told = told_pushed cmp told f fs open_.told quiet;
      })

  pub open_closed : (made n : ℕ) (old hints : List (K × List TokenPlace)) (told less : List (K × List ℕ)) (fs new : List (Face K)) → KeepsBut cmp (λ p. n == p.face) old hints → KeepsBut cmp (λ m. n == m) told less → new ≡ filter (λ f. not (n == f.number)) fs
      → AreOpen cmp made fs old told → AreOpen cmp made new hints less
  open_closed made n old hints told less fs new keeps rest is open_ =
      subst (λ gs. AreOpen cmp made gs hints less) (sym is)
      (record {
        rise = rise_filtered (λ f. not (n == f.number)) 0 fs open_.rise;
        within = within_filtered (λ f. not (n == f.number)) made fs open_.within;
        tokens = tokens_filtered (λ f. not (n == f.number)) fs open_.tokens;
        declared = declared_closed cmp n old hints fs keeps open_.declared;
        told = told_closed cmp n told less fs rest open_.told;
      })

  pub open_same : (made : ℕ) (change : Face K → Face K) (hints : List (K × List TokenPlace)) (told : List (K × List ℕ)) (fs new : List (Face K)) → ((f : Face K) → (change f).number ≡ f.number) → ((f : Face K) → (change f).live ≡ f.live) → ((f : Face K) → (change f).told ≡ f.told)
      → new ≡ map change fs → AreOpen cmp made fs hints told → AreOpen cmp made new hints told
  open_same made change hints told fs new number live quiet is open_ =
      subst (λ gs. AreOpen cmp made gs hints told) (sym is)
      (record {
        rise = rise_changed change number 0 fs open_.rise;
        within = within_changed change number made fs open_.within;
        tokens = tokens_changed change fs (tokens_kept change live) open_.tokens;
        declared = declared_changed cmp change hints fs number live open_.declared;
        told = told_changed cmp change number quiet told fs open_.told;
      })

  pub open_changed : (made : ℕ) (change : Face K → Face K) (hints : List (K × List TokenPlace)) (told : List (K × List ℕ)) (fs new : List (Face K)) → KeepsRows change → new ≡ map change fs → AreOpen cmp made fs hints told → AreOpen cmp made new hints told
  open_changed made change hints told fs new keeps = open_same made change hints told fs new keeps.number keeps.live keeps.told

  pub open_dropped : (made n id : ℕ) (old hints : List (K × List TokenPlace)) (told : List (K × List ℕ)) (fs new : List (Face K)) → KeepsBut cmp (λ p. n == p.face && id == p.id) old hints → new ≡ map (if_number n (without_token id)) fs
      → AreOpen cmp made fs old told → AreOpen cmp made new hints told
  open_dropped made n id old hints told fs new keeps is open_ =
      subst (λ gs. AreOpen cmp made gs hints told) (sym is)
      (record {
        rise = rise_changed (if_number n (without_token id)) (number_dropped n id) 0 fs open_.rise;
        within = within_changed (if_number n (without_token id)) (number_dropped n id) made fs open_.within;
        tokens = tokens_changed (if_number n (without_token id)) fs (tokens_dropped n id) open_.tokens;
        declared = declared_dropped cmp n id old hints fs keeps open_.declared;
        told = told_changed cmp (if_number n (without_token id)) (number_dropped n id) (told_dropped cmp n id) told fs open_.told;
      })

  pub open_put : ((a b : K) → cmp a b ≡ Equal → a ≡ b) → (made n id : ℕ) (x : K) (old mid hints : List (K × List TokenPlace)) (told : List (K × List ℕ)) (fs new : List (Face K)) → KeepsBut cmp (λ p. n == p.face && id == p.id) old mid → Keeps cmp mid hints
      → IsHinted cmp x (record { face = n; id = id }) hints → new ≡ map (if_number n (with_token id x)) fs → AreOpen cmp made fs old told → AreOpen cmp made new hints told
  open_put one made n id x old mid hints told fs new keeps more hinted is open_ =
      subst (λ gs. AreOpen cmp made gs hints told) (sym is)
      (record {
        rise = rise_changed (if_number n (with_token id x)) (number_put n id x) 0 fs open_.rise;
        within = within_changed (if_number n (with_token id x)) (number_put n id x) made fs open_.within;
        tokens = tokens_changed (if_number n (with_token id x)) fs (tokens_put n id x) open_.tokens;
        declared = declared_put cmp one n id x old mid hints fs open_.tokens keeps more hinted open_.declared;
        told = told_changed cmp (if_number n (with_token id x)) (number_put n id x) (told_put cmp n id x) told fs open_.told;
      })

  pub open_heard : (made n now : ℕ) (m : Message K) (hints : List (K × List TokenPlace)) (old told : List (K × List ℕ)) (fs new : List (Face K)) → new ≡ map (if_number n (heard cmp now m)) fs → AreTold cmp told new
      → AreOpen cmp made fs hints old → AreOpen cmp made new hints told
  open_heard made n now m hints old told fs new is are open_ =
      let change = if_number n (heard cmp now m) in
      subst (λ gs. AreOpen cmp made gs hints told) (sym is)
      (record {
        rise = rise_changed change (number_heard cmp n now m) 0 fs open_.rise;
        within = within_changed change (number_heard cmp n now m) made fs open_.within;
        tokens = tokens_changed change fs (tokens_kept change (live_heard cmp n now m)) open_.tokens;
        declared = declared_changed cmp change hints fs (number_heard cmp n now m) (live_heard cmp n now m) open_.declared;
        told = subst (AreTold cmp told) is are;
      })
