-- What stays of a gateway whatever its faces hear: their numbers, regions and entities; and what parts of calls cost.
use Rattle.std.proofs.Common.{◌≡◌, ℕ, ◌+◌, ◌≤◌, Bool, if◌then◌else◌, ◌==◌, List, [], ◌∷◌, ◌++◌, map, refl, ap, ◌∙◌, arith}
use Rattle.std.specs.declared.cmp.Ordering.{Ordering}
use Rattle.zt_region.specs.declared.region.Region.{Region}
use Rattle.zt_region.specs.declared.region.WhatAmI.{WhatAmI}
use Rattle.zt_protocol.specs.declared.messages.Message.{Message}
use Rattle.zt_protocol.specs.declared.messages.Message.TheVariants as message
use Rattle.zt_protocol.specs.declared.messages.QueryableInfo.{QueryableInfo}
use Rattle.zt_model.specs.Hearing.{heard, heard_all, messages_for, rows_heard}
use Rattle.zt_model.specs.Parts.{Part, Alter, Say, Sends, said_by, with_face}
use Rattle.zt_model.specs.Rows.{Face, Rows}
use Rattle.zt_laws.specs.Sound.{RiseFrom}
use Rattle.zt_laws.proofs.Hearing.{heard_all_leaves}
use Rattle.zt_laws.proofs.Lists.{each_always, map-map, map_alike, of_cond}
use Rattle.zt_theorem_soundness.specs.Ran.{ran}
use Rattle.zt_theorem_soundness.proofs.Running.{ran-append, said_by-append}
use Rattle.zt_theorem_tree_rest.proofs.Sends.{cost, cost-append, owed_by}

-- a face's number, region and entities
pub record Outline (K : Type 0) : Type 0 where
  pub number : ℕ
  pub region : Region
  pub subscribers : List K
  pub queryables : List (K × QueryableInfo)

abbrev pub outline : {K : Type 0} → Face K → Outline K
outline f = record { number = f.number; region = f.region; subscribers = f.subscribers; queryables = f.queryables }

-- what stays of a gateway whatever is said there: its settings, and its faces' outlines
pub record Frame (K : Type 0) : Type 0 where
  pub mode : WhatAmI
  pub regions : List Region
  pub refused : List (Region × Region)
  pub outlines : List (Outline K)

abbrev pub frame_of : {K : Type 0} → Rows K → Frame K
frame_of g = record { mode = g.mode; regions = g.regions; refused = g.refused; outlines = map outline g.faces }

-- the gateway's mode and its faces' outlines
pub record Framed {K : Type 0} (mode : WhatAmI) (outlines : List (Outline K)) (g : Rows K) : Type 0 where
  pub mode_is : g.mode ≡ mode
  pub faces_are : map outline g.faces ≡ outlines

-- faces rise by number where their outlines do
pub rise_outlines : {K : Type 0} (low : ℕ) (fs : List (Face K)) → RiseFrom (λ (o : Outline K). o.number) low (map outline fs) → RiseFrom (λ f. f.number) low fs
rise_outlines low [] rises = tt
rise_outlines low (f ∷ fs) rises = (rises.0, rise_outlines (f.number + 1) fs rises.1)

pub outlines_rise : {K : Type 0} (low : ℕ) (fs : List (Face K)) → RiseFrom (λ f. f.number) low fs → RiseFrom (λ (o : Outline K). o.number) low (map outline fs)
outlines_rise low [] rises = tt
outlines_rise low (f ∷ fs) rises = (rises.0, outlines_rise (f.number + 1) fs rises.1)

module _ {K : Type 0} (cmp : K → K → Ordering) where
  heard-outline : (now : ℕ) (m : Message K) (f : Face K) → outline (heard cmp now m f) ≡ outline f
  heard-outline now (message.DeclareToken id e interest node) f = refl
  heard-outline now (message.UndeclareToken id e node) f = refl
  heard-outline now (message.DeclareFinal interest) f = refl
  heard-outline now (message.Interest id mode options e) f = refl
  heard-outline now (message.InterestFinal id) f = refl
  heard-outline now (message.DeclareSubscriber id e interest) f = refl
  heard-outline now (message.DeclareQueryable id e info interest) f = refl

  pub heard_outlines : (ss : Sends K) (g : Rows K) → map outline (rows_heard cmp ss g).faces ≡ map outline g.faces
  unfolding rows_heard
  heard_outlines ss g =
      map-map outline (λ f. heard_all cmp g.moment (messages_for f.number ss) f) g.faces
      ∙ map_alike (λ f. outline (heard_all cmp g.moment (messages_for f.number ss) f)) outline g.faces (each_always (λ f. outline (heard_all cmp g.moment (messages_for f.number ss) f) ≡ outline f) (λ f. heard_all_leaves cmp outline heard-outline g.moment (messages_for f.number ss) f) g.faces)

  pub heard_frame : (ss : Sends K) (g : Rows K) → frame_of (rows_heard cmp ss g) ≡ frame_of g
  unfolding rows_heard
  heard_frame ss g = ap (λ (os : List (Outline K)). record (frame_of g) { outlines = os }) (heard_outlines ss g)

  pub framed_heard : (mode : WhatAmI) (os : List (Outline K)) (ss : Sends K) (g : Rows K) → Framed mode os g → Framed mode os (rows_heard cmp ss g)
  unfolding rows_heard
  framed_heard mode os ss g framed = record { mode_is = framed.mode_is; faces_are = heard_outlines ss g ∙ framed.faces_are }

pub face_outlines : {K : Type 0} (n : ℕ) (change : Face K → Face K) → ((f : Face K) → outline (change f) ≡ outline f) → (g : Rows K) → map outline (with_face n change g).faces ≡ map outline g.faces
unfolding with_face
face_outlines n change same_ g =
    map-map outline (λ f. if n == f.number then change f else f) g.faces
    ∙ map_alike (λ f. outline (if n == f.number then change f else f)) outline g.faces (each_always (λ f. outline (if n == f.number then change f else f) ≡ outline f) (λ f. of_cond (λ (h : Face _). outline h ≡ outline f) (n == f.number) (change f) f (λ _. same_ f) (λ _. refl)) g.faces)

pub face_frame : {K : Type 0} (n : ℕ) (change : Face K → Face K) → ((f : Face K) → outline (change f) ≡ outline f) → (g : Rows K) → frame_of (with_face n change g) ≡ frame_of g
unfolding with_face
face_frame n change same_ g = ap (λ (os : List (Outline _)). record (frame_of g) { outlines = os }) (face_outlines n change same_ g)

pub framed_face : {K : Type 0} (mode : WhatAmI) (os : List (Outline K)) (n : ℕ) (change : Face K → Face K) → ((f : Face K) → outline (change f) ≡ outline f) → (g : Rows K) → Framed mode os g → Framed mode os (with_face n change g)
unfolding with_face
framed_face mode os n change same_ g framed = record { mode_is = framed.mode_is; faces_are = face_outlines n change same_ g ∙ framed.faces_are }

-- ---- what parts of calls cost

module _ {K : Type 0} (cmp : K → K → Ordering) (matching : K → K → Bool) (tokens : List K) (price : ℕ → ℕ) (end_price : ℕ) where
  abbrev pub Owes : Rows K → ℕ
  Owes g = owed_by cmp tokens price end_price g.faces

  abbrev pub Cost : Sends K → ℕ
  Cost ss = cost cmp tokens price end_price ss

  -- what parts say, and what is owed once they have run, is within what was owed and so much; and the frame stays
  pub record RunsWithin (parts : List (Part K)) (g : Rows K) (most : ℕ) : Type 0 where
    pub within : Cost (said_by cmp matching parts g) + Owes (ran cmp parts g) ≤ Owes g + most
    pub frame : frame_of (ran cmp parts g) ≡ frame_of g

  pub runs_nothing : (g : Rows K) → RunsWithin [] g 0
  unfolding said_by ran
  runs_nothing g = record { within = omega arith; frame = refl }

  pub runs_alter : (change : Rows K → Rows K) (parts : List (Part K)) (g : Rows K) (a b : ℕ) → Owes (change g) ≤ Owes g + a → frame_of (change g) ≡ frame_of g → RunsWithin parts (change g) b → RunsWithin (Alter change ∷ parts) g (a + b)
  unfolding said_by ran
  runs_alter change parts g a b first same_ rest = let r = rest.within in record { within = omega arith; frame = rest.frame ∙ same_ }

  pub runs_say : (rule : Rows K → Sends K) (parts : List (Part K)) (g : Rows K) (a b : ℕ) → Cost (rule g) + Owes (rows_heard cmp (rule g) g) ≤ Owes g + a → RunsWithin parts (rows_heard cmp (rule g) g) b → RunsWithin (Say rule ∷ parts) g (a + b)
  unfolding said_by ran
  runs_say rule parts g a b first rest =
      let sum = cost-append cmp tokens price end_price (rule g) (said_by cmp matching parts (rows_heard cmp (rule g) g)) in
      let r = rest.within in
      record { within = omega arith; frame = rest.frame ∙ heard_frame cmp (rule g) g }

  pub runs_append : (ps qs : List (Part K)) (g : Rows K) (a b : ℕ) → RunsWithin ps g a → RunsWithin qs (ran cmp ps g) b → RunsWithin (ps ++ qs) g (a + b)
  runs_append ps qs g a b first rest =
      let sum = cost-append cmp tokens price end_price (said_by cmp matching ps g) (said_by cmp matching qs (ran cmp ps g)) in
      let one = first.within in
      let two = rest.within in
      let said_is : Cost (said_by cmp matching (ps ++ qs) g) ≡ Cost (said_by cmp matching ps g ++ said_by cmp matching qs (ran cmp ps g)) = ap Cost (said_by-append cmp matching ps qs g) in
      let ran_is : Owes (ran cmp (ps ++ qs) g) ≡ Owes (ran cmp qs (ran cmp ps g)) = ap Owes (ran-append cmp ps qs g) in
      record { within = omega arith; frame = ap frame_of (ran-append cmp ps qs g) ∙ rest.frame ∙ first.frame }

  pub runs_more : (parts : List (Part K)) (g : Rows K) (a b : ℕ) → a ≤ b → RunsWithin parts g a → RunsWithin parts g b
  runs_more parts g a b le runs = let r = runs.within in record { within = omega arith; frame = runs.frame }
