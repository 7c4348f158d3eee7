-- The grammar of a script's lines, over the fields of a line: one space stands between two fields.
use Rattle.std.specs.Prelude.{◌≡◌, ◌≢◌, ◌⊎◌, ℕ, ◌≤◌, true, false, List, [], ◌∷◌, ◌++◌, codes, length, Some, None, Result}
use Rattle.std.specs.List.{AllByRecursion}
use Rattle.std.specs.Int.{IsInRange}
use Rattle.zt_keys.specs.declared.error.KeyError.{KeyError}
use Rattle.zt_region.specs.declared.region.Region.{Region}
use Rattle.zt_region.specs.declared.region.Region.TheVariants.{North, Local, South}
use Rattle.zt_region.specs.South.{PlainFilter, PlainSubregion, PlainSouth}
use Rattle.zt_protocol.specs.declared.messages.QueryableInfo.{QueryableInfo}
use Rattle.zt_protocol.specs.Plain.{PlainLine, Gateway, Session, Face, Link, Unlink, Step, Speak, Moment, SetTreesAt, PlainCall, NewSession, NewTransport, DeclareToken, UndeclareToken, Interest, InterestFinal, DeclareFinal, CloseFace, Expire, SetTrees, SetEntities}
use Rattle.zt_lines.specs.declared.entities.Item.{Item}
use Rattle.zt_lines.specs.declared.entities.Item.TheVariants.{Subscriber, Queryable}
use Rattle.zt_lines.specs.Items.{subscribers_of, queryables_of}
use Rattle.zt_fields.specs.Spellings.{IsU16, IsU32, IsU64, IsFirst, IsMode, IsBound, IsDirection, IsInterestMode, IsOptions, IsZid, IsRegion, IsKey, IsPair, IsTriple, MayStand, StandsOr, IsFlag}
use Rattle.zt_fields.specs.Fields.{parts_of, Fields}

-- ---- names and lists

abbrev pub IsWordByte : ℕ → Type 0
IsWordByte b = IsInRange 97 122 b ⊎ (IsInRange 48 57 b ⊎ (b ≡ 95))

-- 1 to 32 of `a-z0-9_`
pub record IsName (text : List ℕ) (name : List ℕ) : Type 0 where
  pub same : name ≡ text
  pub nonempty : text ≢ []
  pub short : length text ≤ 32
  pub bytes : AllByRecursion IsWordByte text

-- each part is a member, in order
abbrev pub EachIs : {A : Type 0} → (List ℕ → A → Type 0) → List (List ℕ) → List A → Type 0
EachIs Is [] [] = Unit {0}
EachIs Is (part ∷ parts) (x ∷ xs) = Is part x × EachIs Is parts xs
EachIs Is [] (x ∷ xs) = ⊥
EachIs Is (part ∷ parts) [] = ⊥

-- one or more members with a separator between them
abbrev pub IsList : {A : Type 0} → (List ℕ → A → Type 0) → ℕ → List ℕ → List A → Type 0
IsList Is separator text members = EachIs Is (parts_of separator text) members

abbrev pub IsSouth : Region → Type 0
IsSouth North = ⊥
IsSouth Local = ⊥
IsSouth (South id mode) = Unit {0}

-- south regions with `,` between them
abbrev pub AreSouthRegions : List ℕ → List Region → Type 0
AreSouthRegions text regions = IsList IsRegion 44 text regions × AllByRecursion IsSouth regions

-- ---- the configuration of the south

-- conditions with `&` between them, each kind at most once and in this order
abbrev pub AreConditions : List ℕ → PlainFilter → Type 0
AreConditions text f =
    (zids modes names : Fields) × (parts_of 38 text ≡ zids ++ (modes ++ names))
    × MayStand (codes "zid:") (IsList IsZid 43) zids f.zids
    × MayStand (codes "mode:") (IsList IsMode 43) modes f.modes
    × MayStand (codes "name:") (IsList IsName 43) names f.region_names
    × (f.interfaces ≡ None)

-- `all`, or conditions
abbrev pub IsPositive : List ℕ → PlainFilter → Type 0
IsPositive text f =
    ((text ≡ codes "all") × (f.zids ≡ None) × (f.interfaces ≡ None) × (f.modes ≡ None) × (f.region_names ≡ None)) ⊎ AreConditions text f

-- an optional `!`, which negates
abbrev pub IsFilter : List ℕ → PlainFilter → Type 0
IsFilter text f =
    ((f.negated ≡ false) × IsPositive text f) ⊎ ((rest : List ℕ) × (text ≡ codes "!" ++ rest) × (f.negated ≡ true) × IsPositive rest f)

-- `any`, or filters with `|` between them
abbrev pub IsSubregion : List ℕ → PlainSubregion → Type 0
IsSubregion text None = text ≡ codes "any"
IsSubregion text (Some filters) = IsList IsFilter 124 text filters

-- `auto`, or subregions with `;` between them
abbrev pub IsSouthConf : List ℕ → PlainSouth → Type 0
IsSouthConf text None = text ≡ codes "auto"
IsSouthConf text (Some subregions) = IsList IsSubregion 59 text subregions

-- ---- the items of entities

-- items, each `s KEY`, a subscriber, or `q C U16 KEY`, a queryable
abbrev pub AreTheItems : {K : Type 0} → (List ℕ → Result K KeyError) → Fields → List (Item K) → Type 0
AreTheItems reading fields [] = fields ≡ []
AreTheItems reading fields (Subscriber key ∷ items) =
    (text : List ℕ) × (rest : Fields) × (fields ≡ codes "s" ∷ text ∷ rest) × IsKey reading text key × AreTheItems reading rest items
AreTheItems reading fields (Queryable key info ∷ items) =
    (c d text : List ℕ) × (rest : Fields) × (fields ≡ codes "q" ∷ c ∷ d ∷ text ∷ rest)
    × IsFlag c info.complete × IsU16 d info.distance × IsKey reading text key × AreTheItems reading rest items

-- items, by their subscribers and their queryables
abbrev pub AreItems : {K : Type 0} → (List ℕ → Result K KeyError) → Fields → List K → List (K × QueryableInfo) → Type 0
AreItems {K} reading fields subscribers queryables =
    (items : List (Item K)) × AreTheItems reading fields items × (subscribers ≡ subscribers_of items) × (queryables ≡ queryables_of items)

-- ---- calls and lines

-- the fields of a line that speaks for a face
abbrev pub IsCall : {K : Type 0} → (List ℕ → Result K KeyError) → Fields → PlainCall K → Type 0
IsCall reading fields (DeclareToken face id expr node interest) =
    (f i e : List ℕ) × (asked from : Fields)
    × (fields ≡ codes "declare" ∷ f ∷ i ∷ e ∷ (asked ++ from))
    × IsU32 f face × IsU32 i id × IsKey reading e expr
    × MayStand (codes "interest=") IsU32 asked interest × StandsOr (codes "node=") IsU16 0 from node
IsCall reading fields (UndeclareToken face id expr node) =
    (f i : List ℕ) × (named from : Fields)
    × (fields ≡ codes "undeclare" ∷ f ∷ i ∷ (named ++ from))
    × IsU32 f face × IsU32 i id
    × MayStand (codes "expr=") (IsKey reading) named expr × StandsOr (codes "node=") IsU16 0 from node
IsCall reading fields (Interest face id mode options expr) =
    (f i m o : List ℕ) × (named : Fields)
    × (fields ≡ codes "interest" ∷ f ∷ i ∷ m ∷ o ∷ named)
    × IsU32 f face × IsU32 i id × IsInterestMode m mode × IsOptions o options
    × MayStand (codes "expr=") (IsKey reading) named expr
IsCall reading fields (InterestFinal face id) =
    (f i : List ℕ) × (fields ≡ codes "interest-final" ∷ f ∷ i ∷ []) × IsU32 f face × IsU32 i id
IsCall reading fields (DeclareFinal face interest) =
    (f i : List ℕ) × (fields ≡ codes "declare-final" ∷ f ∷ i ∷ []) × IsU32 f face × IsU32 i interest
IsCall reading fields (CloseFace face) =
    (f : List ℕ) × (fields ≡ codes "close" ∷ f ∷ []) × IsU32 f face
IsCall reading fields (SetEntities face subscribers queryables) =
    (f : List ℕ) × (items : Fields) × (fields ≡ codes "entities" ∷ f ∷ items) × IsU32 f face × AreItems reading items subscribers queryables
IsCall reading fields (NewSession first) = ⊥
IsCall reading fields (NewTransport zid mode region bound first) = ⊥
IsCall reading fields (Expire now) = ⊥
IsCall reading fields (SetTrees region table) = ⊥

-- the fields of a line
abbrev pub IsLine : {K : Type 0} → (List ℕ → Result K KeyError) → Fields → PlainLine K → Type 0
IsLine reading fields (Gateway mode zid regions south name timeout refused) =
    (m z : List ℕ) × (r s n t f : Fields)
    × (fields ≡ codes "gateway" ∷ m ∷ z ∷ (r ++ (s ++ (n ++ (t ++ f)))))
    × IsMode m mode × IsZid z zid
    × StandsOr (codes "regions=") AreSouthRegions [] r regions
    × StandsOr (codes "south=") IsSouthConf None s south
    × MayStand (codes "name=") IsName n name
    × StandsOr (codes "timeout=") IsU64 10000 t timeout
    × StandsOr (codes "refuse=") (IsList (IsPair IsRegion IsRegion) 44) [] f refused
IsLine reading fields (Session gateway first) =
    (g : List ℕ) × (f : Fields) × (fields ≡ codes "session" ∷ g ∷ f) × IsU32 g gateway × StandsOr (codes "first=") IsFirst 1 f first
IsLine reading fields (Face gateway mode zid region bound first) =
    (g m z r b : List ℕ) × (f : Fields)
    × (fields ≡ codes "face" ∷ g ∷ m ∷ z ∷ r ∷ b ∷ f)
    × IsU32 g gateway × IsMode m mode × IsZid z zid × IsRegion r region × IsBound b bound
    × StandsOr (codes "first=") IsFirst 1 f first
IsLine reading fields (Link one two first back) =
    (o t : List ℕ) × (f b : Fields)
    × (fields ≡ codes "link" ∷ o ∷ t ∷ (f ++ b))
    × IsU32 o one × IsU32 t two
    × StandsOr (codes "first=") IsFirst 1 f first × StandsOr (codes "back=") IsFirst 1 b back
IsLine reading fields (Unlink link) =
    (l : List ℕ) × (fields ≡ codes "unlink" ∷ l ∷ []) × IsU32 l link
IsLine reading fields (Step link back) =
    (l d : List ℕ) × (fields ≡ codes "step" ∷ l ∷ d ∷ []) × IsU32 l link × IsDirection d back
IsLine reading fields (Speak call) = IsCall reading fields call
IsLine reading fields (Moment gateway now) =
    (g n : List ℕ) × (fields ≡ codes "moment" ∷ g ∷ n ∷ []) × IsU32 g gateway × IsU64 n now
IsLine reading fields (SetTreesAt gateway region table) =
    (g r routers : List ℕ) × (l c : Fields)
    × (fields ≡ codes "trees" ∷ g ∷ r ∷ (codes "routers=" ++ routers) ∷ (l ++ c))
    × IsU32 g gateway × IsRegion r region
    × IsList (IsPair IsU16 IsZid) 44 routers table.routers
    × StandsOr (codes "links=") (IsList (IsTriple IsU32 IsU16 IsZid) 44) [] l table.links
    × StandsOr (codes "children=") (IsList (IsPair IsZid IsZid) 44) [] c table.children
