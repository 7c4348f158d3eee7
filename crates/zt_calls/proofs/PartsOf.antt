-- The parts of a call that a face speaks, where the face is open or isn't.
use Rattle.std.proofs.Common.{◌≡◌, ℕ, Bool, true, false, ◌==◌, if◌then◌else◌, List, [], ◌∷◌, ◌++◌, Option, Some, None, refl, sym, ap, ◌∙◌}
use Rattle.std.proofs.lemmas.Bool.{eqb-true}
use Rattle.std.specs.declared.cmp.Ordering.{Ordering}
use Rattle.zt_protocol.specs.Plain.{CloseFace, DeclareFinal, DeclareToken, Interest, InterestFinal, UndeclareToken}
use Rattle.zt_protocol.specs.declared.interests.InterestMode.{InterestMode}
use Rattle.zt_protocol.specs.declared.interests.InterestOptions.{InterestOptions}
use Rattle.zt_laws.proofs.Hearing.{find_passes}
use Rattle.zt_model.specs.Closing.{closing}
use Rattle.zt_model.specs.Parts.{Alter, Part, Say, find_face, is_routed, with_face}
use Rattle.zt_model.specs.Routing.{finishing}
use Rattle.zt_model.specs.Rows.{Face, Rows}
use Rattle.zt_model.specs.Says.{asking, declaring_of, finalising_held, hiding_undeclared, parts_of, row_of, undeclaring_of}
use Rattle.zt_model.specs.Telling.{answering, declaring, forget, registers, undeclared, undeclaring, unregistered}
use Rattle.zt_model.specs.Trees.{hiding, showing, source_of}
use Rattle.zt_region.specs.declared.region.Zid.{Zid}
use Rattle.zt_calls.specs.Speaking.{declaring_at, declaring_from, undeclaring_at, undeclaring_from, undeclaring_plain}

module _ {K : Type 0} where
  -- a face that is found has the number
  pub found_number : (n : ℕ) (g : Rows K) (f : Face K) → find_face n g ≡ Some f → f.number ≡ n
  found_number n g f is =
      let same_ : (n == f.number) ≡ true = find_passes (λ (x : Face K). n == x.number) g.faces f is in
      sym (eqb-true n f.number same_)

module _ {A B : Type 0} (rule : A → List B) where
  -- what a rule gives where nothing is found, and where something is
  abbrev pub given_by : Option A → List B
  given_by None = []
  given_by (Some f) = rule f

  pub nobody : (o : Option A) → o ≡ None → given_by o ≡ []
  nobody o is = ap given_by is

  pub somebody : (o : Option A) (f : A) → o ≡ Some f → given_by o ≡ rule f
  somebody o f is = ap given_by is

module _ {K : Type 0} (cmp : K → K → Ordering) (matching : K → K → Bool) where
  pub declare_nobody : (n id node : ℕ) (e : K) (i : Option ℕ) (g : Rows K) → find_face n g ≡ None → parts_of cmp matching (DeclareToken n id e node i) g ≡ []
  unfolding parts_of
  declare_nobody n id node e i g none = nobody (λ (f : Face K). declaring_at cmp matching n id e node i g f) (find_face n g) none

  pub declare_at_face : (n id node : ℕ) (e : K) (i : Option ℕ) (g : Rows K) (f : Face K) → find_face n g ≡ Some f → parts_of cmp matching (DeclareToken n id e node i) g ≡ declaring_at cmp matching n id e node i g f
  unfolding parts_of
  declare_at_face n id node e i g f is = somebody (λ (f : Face K). declaring_at cmp matching n id e node i g f) (find_face n g) f is

  pub undeclare_nobody : (n id node : ℕ) (e : Option K) (g : Rows K) → find_face n g ≡ None → parts_of cmp matching (UndeclareToken n id e node) g ≡ []
  unfolding parts_of
  undeclare_nobody n id node e g none = nobody (λ (f : Face K). undeclaring_at cmp matching n id e node g f) (find_face n g) none

  pub undeclare_at_face : (n id node : ℕ) (e : Option K) (g : Rows K) (f : Face K) → find_face n g ≡ Some f → parts_of cmp matching (UndeclareToken n id e node) g ≡ undeclaring_at cmp matching n id e node g f
  unfolding parts_of
  undeclare_at_face n id node e g f is = somebody (λ (f : Face K). undeclaring_at cmp matching n id e node g f) (find_face n g) f is

  pub interest_nobody : (n id : ℕ) (mode : InterestMode) (options : InterestOptions) (e : Option K) (g : Rows K) → find_face n g ≡ None → parts_of cmp matching (Interest n id mode options e) g ≡ []
  unfolding parts_of
  interest_nobody n id mode options e g none = nobody (λ (f : Face K). asking cmp matching n id (row_of cmp matching f mode options e) f.region g) (find_face n g) none

  pub interest_at_face : (n id : ℕ) (mode : InterestMode) (options : InterestOptions) (e : Option K) (g : Rows K) (f : Face K) → find_face n g ≡ Some f → parts_of cmp matching (Interest n id mode options e) g ≡ asking cmp matching n id (row_of cmp matching f mode options e) f.region g
  unfolding parts_of
  interest_at_face n id mode options e g f is = somebody (λ (f : Face K). asking cmp matching n id (row_of cmp matching f mode options e) f.region g) (find_face n g) f is

  pub interest_final_nobody : (n id : ℕ) (g : Rows K) → find_face n g ≡ None → parts_of cmp matching (InterestFinal n id) g ≡ []
  unfolding parts_of
  interest_final_nobody n id g none = nobody (λ (f : Face K). finalising_held cmp matching n id f) (find_face n g) none

  pub interest_final_at_face : (n id : ℕ) (g : Rows K) (f : Face K) → find_face n g ≡ Some f → parts_of cmp matching (InterestFinal n id) g ≡ finalising_held cmp matching n id f
  unfolding parts_of
  interest_final_at_face n id g f is = somebody (λ (f : Face K). finalising_held cmp matching n id f) (find_face n g) f is

  pub final_nobody : (n id : ℕ) (g : Rows K) → find_face n g ≡ None → parts_of cmp matching (DeclareFinal n id) g ≡ []
  unfolding parts_of
  final_nobody n id g none = nobody (λ (f : Face K). finishing n id f) (find_face n g) none

  pub final_at_face : (n id : ℕ) (g : Rows K) (f : Face K) → find_face n g ≡ Some f → parts_of cmp matching (DeclareFinal n id) g ≡ finishing n id f
  unfolding parts_of
  final_at_face n id g f is = somebody (λ (f : Face K). finishing n id f) (find_face n g) f is

  pub close_nobody : (n : ℕ) (g : Rows K) → find_face n g ≡ None → parts_of cmp matching (CloseFace n) g ≡ []
  unfolding parts_of
  close_nobody n g none = nobody (λ (f : Face K). closing cmp matching n g f) (find_face n g) none

  pub close_at_face : (n : ℕ) (g : Rows K) (f : Face K) → find_face n g ≡ Some f → parts_of cmp matching (CloseFace n) g ≡ closing cmp matching n g f
  unfolding parts_of
  close_at_face n g f is = somebody (λ (f : Face K). closing cmp matching n g f) (find_face n g) f is

  -- ---- where the face's region is of routers, and where not

  abbrev pub if_routed : Bool → List (Part K) → List (Part K) → List (Part K)
  if_routed b routed plain = if b then routed else plain

  declaring_named : (n : ℕ) (source : Option Zid) (e : K) (f : Face K) → declaring_of cmp matching n source e f ≡ declaring_from cmp matching n f.region source e
  declaring_named n None e f = refl
  declaring_named n (Some source) e f = refl

  undeclaring_named : (n : ℕ) (source : Option Zid) (e : Option K) (f : Face K) → undeclaring_of cmp matching n source e f ≡ undeclaring_from cmp matching n f.region source e
  undeclaring_named n None e f = refl
  undeclaring_named n (Some source) None f = refl
  undeclaring_named n (Some source) (Some e) f = refl

  pub declare_routed_at : (n id node : ℕ) (e : K) (i : Option ℕ) (g : Rows K) (f : Face K) → is_routed g f ≡ true → declaring_at cmp matching n id e node i g f ≡ declaring_from cmp matching n f.region (source_of g f node) e
  declare_routed_at n id node e i g f routed =
      ap (λ b. if_routed b (declaring_of cmp matching n (source_of g f node) e f) (answering cmp matching n i e f ++ (if registers f i then declaring cmp matching n id e f ++ showing cmp f.region e else []))) routed
      ∙ declaring_named n (source_of g f node) e f

  pub declare_plain_at : (n id node : ℕ) (e : K) (i : Option ℕ) (g : Rows K) (f : Face K) → is_routed g f ≡ false
      → declaring_at cmp matching n id e node i g f ≡ answering cmp matching n i e f ++ (if registers f i then declaring cmp matching n id e f ++ showing cmp f.region e else [])
  declare_plain_at n id node e i g f plain =
      ap (λ b. if_routed b (declaring_of cmp matching n (source_of g f node) e f) (answering cmp matching n i e f ++ (if registers f i then declaring cmp matching n id e f ++ showing cmp f.region e else []))) plain

  pub undeclare_routed_at : (n id node : ℕ) (e : Option K) (g : Rows K) (f : Face K) → is_routed g f ≡ true → undeclaring_at cmp matching n id e node g f ≡ undeclaring_from cmp matching n f.region (source_of g f node) e
  undeclare_routed_at n id node e g f routed =
      ap (λ b. if_routed b (undeclaring_of cmp matching n (source_of g f node) e f) (undeclaring cmp matching n id e f ++ hiding_undeclared cmp matching id e f)) routed
      ∙ undeclaring_named n (source_of g f node) e f

  undeclaring_named_plain : (n id : ℕ) (f : Face K) (o : Option K)
      → elim o [ None ↦ [] | Some e ↦ Alter (with_face n (unregistered id)) ∷ Say (forget cmp matching f.region e) ∷ [] ]
      ++ elim o [ None ↦ [] | Some e ↦ hiding cmp f.region e ]
      ≡ undeclaring_plain cmp matching n f.region id o
  undeclaring_named_plain n id f None = refl
  undeclaring_named_plain n id f (Some e) = refl

  pub undeclare_plain_at : (n id node : ℕ) (e : Option K) (g : Rows K) (f : Face K) → is_routed g f ≡ false
      → undeclaring_at cmp matching n id e node g f ≡ undeclaring_plain cmp matching n f.region id (undeclared cmp matching id e f)
  undeclare_plain_at n id node e g f plain =
      ap (λ b. if_routed b (undeclaring_of cmp matching n (source_of g f node) e f) (undeclaring cmp matching n id e f ++ hiding_undeclared cmp matching id e f)) plain
      ∙ undeclaring_named_plain n id f (undeclared cmp matching id e f)
