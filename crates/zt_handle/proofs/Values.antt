-- The machine values of a box taken apart and of a handle.
use Rattle.std.proofs.Common.{◌≡◌, ℕ, List, [], ◌∷◌, ◌++◌, refl, subst, w64}
use mathlib.Core.Bool.{Bool, true, false}
use seplogic.Ra.Ura.{Ura}
use mir.Syntax.{impl, tnil, dnil}
use mir.Raw.{raw as bare}
use mir.Val.{Val, vptr, vint, vbool, vstruct, vcons, vnil, of_list}
use base.Logic.{SProp, never, never_e, fst∗}
use types.Logic.{Logic, sem}
use types.Kit.{Item, Goal, Seq, Step, step, prop, by, keep, ‵, ◌$◌, move, drop, fsplit, fjoin, fpick, fpack, feq_i, feq_l}
use denote.RattleType.{RattleType, Valss}
use denote.Memory.{lone}
use denote.Plain.{Boolean}
use denote.RawPtr.{Ptr, RawPtr, block_ptr, null_ptr, ptr_val, in_a_block}
use denote.Steps.{nothing}
use denote.Struct.Struct.{within}
use denote.Struct.Owning.{shape}
use Rattle.core.proofs.alloc.Calls.{Al, Fits, handle_tells}
use Rattle.std.specs.contracts.alloc.Global as heap
use Rattle.std.proofs.alloc.Global.TheLaws as heap_laws
use Rattle.std.specs.contracts.impls.GlobalAllocator.TheImpl.{ghosts}
use Rattle.std.specs.Prelude.{Option, Some, None}
use Rattle.std_alloc.specs.Box.Ownership.{box_owns}
use Rattle.zt_engine.specs.contracts.engine.Engine as engine
use Rattle.zt_handle.specs.contracts.raw_box.RawBox as raw_box
use Rattle.zt_handle.specs.contracts.handle.Handle as handle
use Rattle.zt_handle.specs.Owned.{owned, may_free}

abbrev pub R : RattleType
R = engine.the_row

abbrev pub Z : RattleType
Z = heap.the_row

abbrev pub al : Al
al = record { row = Z; laws = heap_laws.the_row_laws; g = ghosts; d = impl [] tnil dnil; drops = impl [] tnil dnil }

abbrev pub Raw : RattleType
Raw = raw_box.the_row R Z ghosts

abbrev pub both : Val → Val → Val
both v w = vstruct (vcons v (vcons w vnil))

module _ {M : Type 1} {𝓤 : Ura M} {𝓛 : Logic 𝓤} {K : Type 0} {Γ : List (Item 𝓤)} {G : Goal 𝓤 𝓛.H} where
  pub raw_out : K → (d : Raw.Denot) (vs : List Val)
      → ((b o : ℕ) (h : Val) → d.ptr ≡ block_ptr b o → vs ≡ both (vptr b o) h ∷ [] → Fits al h → Seq K 𝓛 (‵ (box_owns (ghosts.dealloc_token d.alloc) R (block_ptr b o) d.value) ∷ ‵ (Z.own_val d.alloc (h ∷ [])) ∷ Γ) G)
      → Seq K 𝓛 (‵ (Raw.own_val d vs) ∷ Γ) G
  raw_out t d vs k =
      fsplit t $ fpick t (λ vss. fsplit t $ feq_l t (λ ev. fsplit t $ feq_l t (λ ep. fsplit t $ handle_tells al t d.alloc vss.1.0 (λ h ea fits. move t (1 ∷ []) $ drop t $ move t (1 ∷ []) $
      in_a_block t d.ptr (λ p. box_owns (ghosts.dealloc_token d.alloc) R p d.value) (fst∗ 𝓤 (never 𝓤) (sem 𝓛 (ghosts.dealloc_token d.alloc (bare (lone R.mir)) null_ptr))) (λ b o e. k b o h e
      (subst (λ (p : Ptr). vs ≡ vstruct (of_list (ptr_val p ∷ h ∷ [])) ∷ []) e
      (subst (λ (ws : List Val). vs ≡ vstruct (of_list (ptr_val d.ptr ∷ (ws ++ []))) ∷ []) ea (subst (λ (ps : List Val). vs ≡ vstruct (of_list (ps ++ (vss.1.0 ++ []))) ∷ []) ep ev))) fits)))))

  pub handle_in : K → (b o : ℕ) (a : Z.Denot) (x : R.Denot)
      → Step K 𝓛 (‵ (handle.the_row.own_val (record { at = block_ptr b o; there = true; value = Some x }) (both (vptr b o) (vbool true) ∷ [])) ∷ Γ) G (‵ (box_owns (ghosts.dealloc_token a) R (block_ptr b o) x) ∷ Γ) G
  handle_in t b o a x = step (λ s. let v : Val = both (vptr b o) (vbool true) in
      nothing t $ feq_i t (List Val) (vbool true ∷ []) (vbool true ∷ []) refl $ fjoin t $ feq_i t (List Val) (vptr b o ∷ []) (vptr b o ∷ []) refl $ fjoin t $ feq_i t (List Val) (v ∷ []) (v ∷ []) refl $ fjoin t $
      fpack t (Valss (RawPtr ∷ Boolean ∷ [])) (within (shape handle.the_type) (block_ptr b o, (true, tt)) (v ∷ [])) (vptr b o ∷ [], (vbool true ∷ [], tt)) $ fjoin t $ s)

  pub none_in : K → Step K 𝓛 (‵ (handle.the_row.own_val (record { at = null_ptr; there = false; value = None }) (both (vint w64 0) (vbool false) ∷ [])) ∷ Γ) G Γ G
  none_in t = step (λ s. let v : Val = both (vint w64 0) (vbool false) in
      nothing t $ nothing t $ feq_i t (List Val) (vbool false ∷ []) (vbool false ∷ []) refl $ fjoin t $ feq_i t (List Val) (vint w64 0 ∷ []) (vint w64 0 ∷ []) refl $ fjoin t $ feq_i t (List Val) (v ∷ []) (v ∷ []) refl $ fjoin t $
      fpack t (Valss (RawPtr ∷ Boolean ∷ [])) (within (shape handle.the_type) (null_ptr, (false, tt)) (v ∷ [])) (vint w64 0 ∷ [], (vbool false ∷ [], tt)) $ fjoin t $ s)

  pub raw_in : K → (b o : ℕ) (h : Val) (a : Z.Denot) (x : R.Denot)
      → Step K 𝓛 (‵ (Raw.own_val (record { ptr = block_ptr b o; alloc = a; value = x }) (both (vptr b o) h ∷ [])) ∷ Γ) G (‵ (box_owns (ghosts.dealloc_token a) R (block_ptr b o) x) ∷ ‵ (Z.own_val a (h ∷ [])) ∷ Γ) G
  raw_in t b o h a x = step (λ s. let v : Val = both (vptr b o) h in
      nothing t $ move t (2 ∷ 0 ∷ []) $ fjoin t $ feq_i t (List Val) (vptr b o ∷ []) (vptr b o ∷ []) refl $ fjoin t $ feq_i t (List Val) (v ∷ []) (v ∷ []) refl $ fjoin t $
      fpack t (Valss (RawPtr ∷ Z ∷ [])) (within (shape (raw_box.the_type R Z ghosts)) (block_ptr b o, (a, tt)) (v ∷ [])) (vptr b o ∷ [], (h ∷ [], tt)) $ fjoin t $ s)

  pub handle_out : K → (d : handle.the_row.Denot) (vs : List Val)
      → (vs ≡ both (ptr_val d.at) (vbool d.there) ∷ [] → Seq K 𝓛 (‵ (owned d.there d.at d.value) ∷ Γ) G)
      → Seq K 𝓛 (‵ (handle.the_row.own_val d vs) ∷ Γ) G
  handle_out t d vs k =
      fsplit t $ fpick t (λ vss. fsplit t $ feq_l t (λ ev. fsplit t $ feq_l t (λ ep. fsplit t $ feq_l t (λ eb. drop t $ k
      (subst (λ (bs : List Val). vs ≡ vstruct (of_list (ptr_val d.at ∷ (bs ++ []))) ∷ []) eb (subst (λ (ps : List Val). vs ≡ vstruct (of_list (ps ++ (vss.1.0 ++ []))) ∷ []) ep ev))))))

module _ {M : Type 1} {𝓤 : Ura M} {𝓛 : Logic 𝓤} {K : Type 0} {Γ : List (Item 𝓤)} where
  pub owned_out : K → (P : SProp 𝓤) (at : Ptr) (there : Bool) (value : Option R.Denot)
      → (there ≡ false → value ≡ None → Seq K 𝓛 Γ (prop P))
      → ((b o : ℕ) (x : R.Denot) → at ≡ block_ptr b o → there ≡ true → value ≡ Some x → Seq K 𝓛 (‵ (box_owns (may_free) R (block_ptr b o) x) ∷ Γ) (prop P))
      → Seq K 𝓛 (‵ (owned there at value) ∷ Γ) (prop P)
  owned_out t P at false None n s = drop t $ n refl refl
  owned_out t P at true (Some x) n s = in_a_block t at (λ p. box_owns (may_free) R p x) (fst∗ 𝓤 (never 𝓤) (sem 𝓛 (may_free (bare (lone R.mir)) null_ptr))) (λ b o e. s b o x e refl refl)
  owned_out t P at false (Some x) n s = keep t (0 ∷ []) $ by t (never_e 𝓤 P)
  owned_out t P at true None n s = keep t (0 ∷ []) $ by t (never_e 𝓤 P)
