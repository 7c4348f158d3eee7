-- What stays true of a gateway under every call: its faces keep what they should, and what its asks name is there.
--     KeepsBut      what a face keeps, between the parts of a call: all but what isn't seen, or isn't told, yet
--     AskIsHeld     an ask for what comes later too stands beside its held interest
--     IsNamed       an id that an ask named at a face: below the next one, and a pending of the ask's mode
--     IsSoundBut    all of these, between the parts of a call
--     IsSound       and between calls
use Rattle.std.specs.Prelude.{◌≡◌, ℕ, ◌≤◌, ◌<◌, Bool, true, false, ◌==◌, ◌&&◌, List, [], Some, map}
use Rattle.std.specs.declared.cmp.Ordering.{Ordering}
use Rattle.zt_region.specs.declared.region.Region.{Region}
use Rattle.zt_region.specs.Admission.{admits}
use Rattle.zt_region.specs.Region.{is_north}
use Rattle.zt_protocol.specs.Interest.{is_current, is_future}
use Rattle.zt_protocol.specs.declared.interests.InterestMode.{InterestMode}
use Rattle.zt_model.specs.Lists.{at_id, is_among, same}
use Rattle.zt_model.specs.Rows.{Ask, Face, Rows}
use Rattle.zt_model.specs.Says.{is_routed}
use Rattle.zt_model.specs.Seen.{sees}
use Rattle.zt_model.specs.Transcript.{Each}
use Rattle.zt_model.specs.Visible.{is_admitted, is_visible, keeps}
use Rattle.zt_model.specs.Wants.{covers, seeks}
use Rattle.zt_laws.specs.Keeping.{FacesKeepRight}
use Rattle.zt_laws.specs.Order.{RowsAreInOrder}

-- ---- what is left to be done, in a region

abbrev pub nothing_left : {K : Type 0} → Region → K → Bool
nothing_left own e = false

module _ {K : Type 0} (cmp : K → K → Ordering) where
  -- one expression, in the regions that are shown another
  abbrev pub shown_from : Region → K → Region → K → Bool
  shown_from source e own x = same cmp x e && sees own source

  -- one expression, in the regions that are shown another and to which the admission table admits it
  abbrev pub told_from : Rows K → Region → K → Region → K → Bool
  told_from g source e own x = same cmp x e && (sees own source && admits g.refused source own)

  -- these expressions, in each region
  abbrev pub any_of : List K → Region → K → Bool
  any_of es own x = is_among cmp x es

-- ---- what a face keeps

module _ {K : Type 0} (cmp : K → K → Ordering) (matching : K → K → Bool) where
  -- A face keeps only what is visible, but for `unseen`, and what it seeks, and of what is admitted all that it
  -- covers, but for `untold`.
  pub record KeepsBut (unseen untold : Region → K → Bool) (g : Rows K) (f : Face K) : Type 0 where
    pub kept_is_visible : (e : K) → keeps cmp f e ≡ true → unseen f.region e ≡ false → is_visible cmp g f.region e ≡ true
    pub kept_is_sought : (e : K) → keeps cmp f e ≡ true → seeks matching g.mode f e ≡ true
    pub admitted_is_kept : (e : K) → is_admitted cmp g f.region e ≡ true → covers matching g.mode f e ≡ true → untold f.region e ≡ false → keeps cmp f e ≡ true

  -- each face outside router regions, but those of some numbers
  abbrev pub AllKeepBut : (ℕ → Bool) → (Region → K → Bool) → (Region → K → Bool) → Rows K → Type 0
  AllKeepBut but unseen untold g = Each (λ f. is_routed g f ≡ false → but f.number ≡ false → KeepsBut unseen untold g f) g.faces

-- ---- asks

-- An ask asks for what is there now. Where it asks for what comes later too, the face holds its interest. What a face
-- to the north asks is sent to nobody.
pub record AskIsHeld {K : Type 0} (f : Face K) (row : ℕ × Ask K) : Type 0 where
  pub current : is_current row.1.interest.mode ≡ true
  pub held : is_future row.1.interest.mode ≡ true → at_id row.0 f.held ≡ Some row.1.interest
  pub from_south : is_north f.region ≡ true → row.1.pendings ≡ []

-- a pending that an ask names: the ask's mode, and the face and the id that its interest was sent under
pub record NamedPending : Type 0 where
  pub mode : InterestMode
  pub face : ℕ
  pub id : ℕ

abbrev pub named_by_ask : {K : Type 0} → ℕ × Ask K → List NamedPending
named_by_ask row = map (λ p. record { mode = row.1.interest.mode; face = p.0; id = p.1 }) row.1.pendings

-- the id was drawn, and where it is a pending still, that is one of this mode
pub record IsNamed {K : Type 0} (mode : InterestMode) (id : ℕ) (f : Face K) : Type 0 where
  pub below : id < f.next
  pub of_mode : Each (λ row. (id == row.0) ≡ true → row.1.mode ≡ mode) f.pendings

-- the face was made, and where it is open, the id is named rightly there
pub record PendingIsKnown {K : Type 0} (g : Rows K) (p : NamedPending) : Type 0 where
  pub made : p.face ≤ g.made
  pub named : Each (λ f. (p.face == f.number) ≡ true → IsNamed p.mode p.id f) g.faces

abbrev pub AsksAreHeld : {K : Type 0} → (ℕ → Bool) → Rows K → Type 0
AsksAreHeld but g = Each (λ f. but f.number ≡ false → Each (AskIsHeld f) f.asks) g.faces

abbrev pub PendingsOfAskAreKnown : {K : Type 0} → Rows K → ℕ × Ask K → Type 0
PendingsOfAskAreKnown g row = Each (PendingIsKnown g) (named_by_ask row)

abbrev pub PendingsAreKnown : {K : Type 0} → Rows K → Type 0
PendingsAreKnown g = Each (λ f. Each (PendingsOfAskAreKnown g) f.asks) g.faces

-- faces of router regions declare no rows of their own
abbrev pub RoutedDeclareNothing : {K : Type 0} → Rows K → Type 0
RoutedDeclareNothing g = Each (λ f. is_routed g f ≡ true → f.live ≡ []) g.faces

-- ---- gateways

module _ {K : Type 0} (cmp : K → K → Ordering) (matching : K → K → Bool) where
  -- Between the parts of a call: sound but for some faces, for what some can't see though they keep it, and for what
  -- some aren't told yet.
  pub record IsSoundBut (but : ℕ → Bool) (unseen untold : Region → K → Bool) (g : Rows K) : Type 0 where
    pub ordered : RowsAreInOrder cmp matching g
    pub keeps : AllKeepBut cmp matching but unseen untold g
    pub held : AsksAreHeld but g
    pub named : PendingsAreKnown g
    pub routed : RoutedDeclareNothing g

  -- Its lists are in order, each face outside router regions keeps what it should, each ask stands beside what it
  -- needs, and faces of router regions declare no rows of their own.
  pub record IsSound (g : Rows K) : Type 0 where
    pub ordered : RowsAreInOrder cmp matching g
    pub keeps : FacesKeepRight cmp matching g
    pub held : AsksAreHeld (λ n. false) g
    pub named : PendingsAreKnown g
    pub routed : RoutedDeclareNothing g
