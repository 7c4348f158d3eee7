-- What forgetting an expression leaves at a face.
use Rattle.std.proofs.Common.{◌≡◌, ℕ, Bool, true, false, cond, not, if◌then◌else◌, ◌&&◌, ◌||◌, [], ◌∷◌, Option, Some, None, refl, sym, ap, ◌∙◌}
use Rattle.std.proofs.lemmas.Bool.{not_from_false}
use Rattle.std.specs.Cmp.{IsTotalOrder}
use Rattle.std.specs.declared.cmp.Ordering.{Ordering}
use Rattle.std.specs.declared.cmp.Ordering.TheVariants.{Equal}
use Rattle.zt_region.specs.declared.region.Region.{Region}
use Rattle.zt_protocol.specs.declared.messages.Message.TheVariants.{UndeclareToken}
use Rattle.zt_model.specs.Hat.{hat_of_face}
use Rattle.zt_model.specs.Hearing.{heard_all}
use Rattle.zt_model.specs.Lists.{same}
use Rattle.zt_model.specs.Rows.{ById, Face, Rows}
use Rattle.zt_model.specs.Says.{forget_to, is_routed, told_id}
use Rattle.zt_model.specs.Visible.{is_visible, shows}
use Rattle.zt_model.specs.Wants.{wants}
use Rattle.zt_laws.specs.Sound.{IsToldInOrder}
use Rattle.zt_laws.proofs.Keys.{any_and, and_back, same_is}
use Rattle.zt_laws.proofs.Lists.{by_test, each_weaker, each_fails, any_alike, any-filter, filter_all}
use Rattle.zt_laws.proofs.Told.{names, told_id_none, without_told}
pub use Rattle.zt_laws.specs.Effects.{forgotten, without_key}

module _ {K : Type 0} (cmp : K → K → Ordering) where
  without_none : (e : K) (told : ById K) → names cmp e told ≡ false → without_key cmp e told ≡ told
  without_none e told h =
      filter_all (λ row. not (same cmp e row.1)) told (each_weaker (λ row. same cmp e row.1 ≡ false) (λ row. not (same cmp e row.1) ≡ true) (λ row apart. not_from_false (same cmp e row.1) apart) told (each_fails (λ row. same cmp e row.1) told h))

  -- hearing that an expression is gone, by expression, where there is no such row
  heard_untold : (now : ℕ) (b : Bool) (e : K) (f : Face K) → names cmp e f.told ≡ false → heard_all cmp now (cond b (UndeclareToken 0 (Some e) 0 ∷ []) []) f ≡ forgotten cmp e f
  unfolding heard_all
  heard_untold now true e f h = refl
  heard_untold now false e f h = ap (λ (rows : ById K). record f { told = rows }) (sym (without_none e f.told h))

  module _ (total : IsTotalOrder cmp) where
    heard_forgotten : (now : ℕ) (b : Bool) (e : K) (f : Face K) → IsToldInOrder cmp f.told f.next → (o : Option ℕ) → told_id cmp e f.told ≡ o
        → heard_all cmp now (elim o [ None ↦ cond b (UndeclareToken 0 (Some e) 0 ∷ []) [] | Some id ↦ UndeclareToken id None 0 ∷ [] ]) f ≡ forgotten cmp e f
    unfolding heard_all
    heard_forgotten now b e f ordered None is = heard_untold now b e f (told_id_none cmp e f.told is)
    heard_forgotten now b e f ordered (Some id) is = ap (λ (rows : ById K). record f { told = rows }) (without_told cmp total e 1 f.told id ordered.rises ordered.once is)

    -- a face that can't see the expression any more has no row of it, and any other face is as it was
    pub heard_forget : (matching : K → K → Bool) (now : ℕ) (g : Rows K) (source : Region) (e : K) (f : Face K) → IsToldInOrder cmp f.told f.next
        → heard_all cmp now (forget_to cmp matching g source e f) f ≡ (if is_routed g f || is_visible cmp g f.region e then f else forgotten cmp e f)
    unfolding forget_to heard_all
    heard_forget matching now g source e f ordered =
        by_test (is_routed g f || is_visible cmp g f.region e)
        (λ here. rw here refl)
        (λ here. rw here (heard_forgotten now (wants matching f e && (hat_of_face g f).undeclares_untold && shows g.mode f.region source) e f ordered (told_id cmp e f.told) refl))

    module _ (equal_is_same : (a b : K) → cmp a b ≡ Equal → a ≡ b) where
      pub names-without_key : (x e : K) (told : ById K) → names cmp x (without_key cmp e told) ≡ (names cmp x told && not (same cmp e x))
      names-without_key x e told =
          any-filter (λ row. same cmp x row.1) (λ row. not (same cmp e row.1)) told
          ∙ any_alike (λ row. not (same cmp e row.1) && same cmp x row.1) (λ row. not (same cmp e x) && same cmp x row.1)
          (λ row. by_test (same cmp x row.1)
          (λ here. ap (λ k. not (same cmp e k) && same cmp x row.1) (sym (same_is cmp total equal_is_same x row.1 here)))
          (λ here. rw here (and_back (not (same cmp e row.1)) false ∙ and_back false (not (same cmp e x)))))
          told
          ∙ any_and (not (same cmp e x)) (λ row. same cmp x row.1) told
          ∙ and_back (not (same cmp e x)) (names cmp x told)
