-- Trees of client gateways: what faces know of tokens anywhere in their tree, and what asks get from it, over every
-- order in which links are opened, closed and stepped.
use Rattle.std.specs.Prelude.{◌≡◌, ℕ, Bool, true, false, ◌==◌, ◌&&◌, ◌||◌, not, List, [], ◌∷◌, ◌++◌, Option, Some, None, Ok, Err}
use Rattle.std.specs.List.{list_any, list_all}
use Rattle.std.specs.Option.{option_to_list}
use Rattle.std.specs.declared.cmp.Ordering.{Ordering}
use Rattle.zt_region.specs.declared.region.Region.{Region}
use Rattle.zt_region.specs.declared.region.Region.TheVariants.{South}
use Rattle.zt_region.specs.declared.region.WhatAmI.TheVariants.{Client}
use Rattle.zt_region.specs.Region.{is_north, whatami_eq}
use Rattle.zt_protocol.specs.Interest.{is_current, is_future, has_tokens}
use Rattle.zt_protocol.specs.Plain.{Interest, InterestFinal, PlainLine, Unlink, Speak, Moment}
use Rattle.zt_protocol.specs.Refusal.{number_of}
use Rattle.zt_protocol.specs.declared.interests.InterestOptions.{InterestOptions}
use Rattle.zt_model.specs.Fabric.{Fabric, Node, Place, number_of_place, printed_for}
use Rattle.zt_model.specs.Linking.{is_end_of}
use Rattle.zt_model.specs.Lists.{is_among, is_some_and, nth, same}
use Rattle.zt_model.specs.Promises.{EachFace, EachGateway, FaceAt, Turn, answers_in, face_numbered, finals_in, is_accepted, printed}
use Rattle.zt_model.specs.Rows.{Face, InterestRow, Rows}
use Rattle.zt_model.specs.Shown.{interest_kept}
use Rattle.zt_model.specs.Transcript.{Each}
use Rattle.zt_model.specs.Visible.{keeps}
use Rattle.zt_model.specs.Seen.{is_owed}
use Rattle.zt_model.specs.Wants.{is_about}

-- ---- trees

-- a face is plain if it ends no link
abbrev pub is_plain_number : {K : Type 0} → Fabric K → ℕ → Bool
is_plain_number s n = not (list_any (is_end_of n) s.links)

abbrev pub is_plain : {K : Type 0} → Fabric K → ℕ → Face K → Bool
is_plain s gateway f = is_plain_number s (number_of_place s gateway f.number)

abbrev pub is_client_region : Region → Bool
is_client_region (South id mode) = whatami_eq mode Client
is_client_region _ = true

-- faces to the north are those of client gateways, and end links
abbrev pub LeadsUpByLink : {K : Type 0} → Fabric K → ℕ → Rows K → Face K → Type 0
LeadsUpByLink s n g f = is_north f.region ≡ true → (whatami_eq g.mode Client ≡ true) × (is_plain s n f ≡ false)

-- south regions are client regions, and admission tables refuse nothing
abbrev pub ServesClients : {K : Type 0} → ℕ → Node K → Type 0
ServesClients n node = (list_all is_client_region node.rows.regions ≡ true) × (node.rows.refused ≡ [])

pub record IsTreeFabric {K : Type 0} (s : Fabric K) : Type 0 where
  pub north : EachFace (LeadsUpByLink s) s
  pub clients : EachGateway ServesClients 1 s.gateways

-- the gateways of two faces, by their numbers in scripts
abbrev pub is_at_gateway : {K : Type 0} → Fabric K → ℕ → ℕ → Bool
is_at_gateway s face gateway = is_some_and (nth face s.faces) (λ (p : Place). gateway == p.gateway)

-- an open link joins the gateways
abbrev pub are_linked : {K : Type 0} → Fabric K → ℕ → ℕ → Bool
are_linked s a b =
    list_any (λ link. link.is_open && ((is_at_gateway s link.one a && is_at_gateway s link.two b) || (is_at_gateway s link.one b && is_at_gateway s link.two a))) s.links

-- the tree of a gateway: all gateways that open links join to it
pub data IsInTree {K : Type 0} (s : Fabric K) : ℕ → ℕ → Type 0 where
  Itself : (a : ℕ) → IsInTree s a a
  Beyond : (a b c : ℕ) → IsInTree s a b → are_linked s b c ≡ true → IsInTree s a c

-- a member of a list
pub data IsMember {A : Type 0} (x : A) : List A → Type 0 where
  Here : (xs : List A) → IsMember x (x ∷ xs)
  There : (y : A) (xs : List A) → IsMember x xs → IsMember x (y ∷ xs)

-- nothing waits on a link
abbrev pub are_links_empty : {K : Type 0} → Fabric K → Bool
are_links_empty s = list_all (λ row. elim row.1 [ [] ↦ true | m ∷ ms ↦ false ]) s.waiting

module _ {K : Type 0} (cmp : K → K → Ordering) (matching : K → K → Bool) where
  -- the expression is a live token of the face
  abbrev pub is_live_at : Face K → K → Bool
  is_live_at f e = list_any (λ row. same cmp e row.1) f.live

  -- the expression stands in a row of a plain face
  abbrev pub is_plainly_live_at : Fabric K → ℕ → K → Bool
  is_plainly_live_at s n e = is_plain_number s n && is_some_and (face_numbered s n) (λ x. is_live_at x.face e)

  -- it does so at a plain face of the gateway's tree
  pub record IsPlainlyLive (s : Fabric K) (gateway : ℕ) (e : K) : Type 0 where
    pub face : ℕ
    pub at_gateway : ℕ
    pub place : is_at_gateway s face at_gateway ≡ true
    pub in_tree : IsInTree s gateway at_gateway
    pub live : is_plainly_live_at s face e ≡ true

  -- the face holds an interest in tokens that asks for now and later
  abbrev pub holds_both : Face K → Bool
  holds_both f = list_any (λ row. is_current row.1.mode && (is_future row.1.mode && has_tokens row.1.options)) f.held

  -- of what is owed to it, a face keeps exactly what is plainly live in its tree
  pub record KnowsItsTree (s : Fabric K) (gateway : ℕ) (f : Face K) : Type 0 where
    pub kept_is_live : (e : K) → is_owed matching f e ≡ true → keeps cmp f e ≡ true → IsPlainlyLive s gateway e
    pub live_is_kept : (e : K) → is_owed matching f e ≡ true → IsPlainlyLive s gateway e → keeps cmp f e ≡ true

  -- Knowledge: where all links are empty, each open plain face that asked for tokens now and later knows its tree.
  abbrev pub KnowsTrees : Turn K → Type 0
  KnowsTrees t = are_links_empty t.after ≡ true → EachFace (λ n g f. is_plain t.after n f ≡ true → holds_both f ≡ true → KnowsItsTree t.after n f) t.after

  -- ---- what an ask of a tree gets

  -- a token ask that the turn makes at a plain face, by the face's number in scripts
  pub record MakesAsk (t : Turn K) (face id : ℕ) (interest : InterestRow K) : Type 0 where
    pub accepted : is_accepted t.entry ≡ true
    pub plain : is_plain_number t.before face ≡ true
    pub options : InterestOptions
    pub at : FaceAt K
    pub line : t.line ≡ Speak (Interest face id interest.mode options interest.expr)
    pub there : face_numbered t.before face ≡ Some at
    pub kept : interest ≡ interest_kept at.face interest.mode options interest.expr
    pub current : is_current interest.mode ≡ true
    pub tokens : has_tokens interest.options ≡ true

  -- what a turn prints for a face, by its number in scripts
  abbrev pub finals_of : ℕ → ℕ → Turn K → ℕ
  finals_of face id t = finals_in id (printed_for face (printed t))

  abbrev pub answers_of_turn : ℕ → ℕ → Turn K → List K
  answers_of_turn face id t = answers_in id (printed_for face (printed t))

  -- An accepted moment, an unlinking, or the end of the ask's own interest, where it asked for both: what may end
  -- an ask before all has answered.
  abbrev pub disturbs : ℕ → ℕ → InterestRow K → Turn K → Bool
  disturbs face id interest t = is_accepted t.entry && is_disturbing t.line
    where
      is_disturbing : PlainLine K → Bool
      is_disturbing (Moment gateway now) = true
      is_disturbing (Unlink link) = true
      is_disturbing (Speak (InterestFinal f i)) = is_future interest.mode && ((face == f) && (id == i))
      is_disturbing _ = false

  -- the final is printed in the ask's own turn, or in the ending one and not before
  abbrev pub IsFinishedBy : ℕ → ℕ → Turn K → List (Turn K) → Option (Turn K) → Type 0
  IsFinishedBy face id asking between None = (between ≡ []) × (finals_of face id asking ≡ 1)
  IsFinishedBy face id asking between (Some ending) = (list_all (λ t. finals_of face id t == 0) (asking ∷ between) ≡ true) × (finals_of face id ending ≡ 1)

  -- A token ask of a plain face, made when all links are empty, whose final is printed, with nothing that disturbs
  -- it up to then. `ending` is the turn of its final, where that isn't its own.
  pub record TreeAsk (turns : List (Turn K)) : Type 0 where
    pub earlier : List (Turn K)
    pub asking : Turn K
    pub between : List (Turn K)
    pub ending : Option (Turn K)
    pub later : List (Turn K)
    pub turns_are : turns ≡ earlier ++ asking ∷ between ++ option_to_list ending ++ later
    pub face : ℕ
    pub id : ℕ
    pub interest : InterestRow K
    pub made : MakesAsk asking face id interest
    pub quiet : are_links_empty asking.before ≡ true
    pub undisturbed : list_any (disturbs face id interest) (asking ∷ between ++ option_to_list ending) ≡ false
    pub finished : IsFinishedBy face id asking between ending

  -- the turns from an ask's own to that of its final
  abbrev pub turns_of : {turns : List (Turn K)} → TreeAsk turns → List (Turn K)
  turns_of a = a.asking ∷ a.between ++ option_to_list a.ending

  -- the ask is answered the expression
  abbrev pub is_answered_in : {turns : List (Turn K)} → TreeAsk turns → K → Bool
  is_answered_in a e = list_any (λ t. is_among cmp e (answers_of_turn a.face a.id t)) (turns_of a)

  -- What it gets: a matching expression that one plain face of the tree has live from the asking to the final.
  abbrev pub GetsWhatStays : List (Turn K) → Type 0
  GetsWhatStays turns =
      (a : TreeAsk turns) (e : K) (own other face : ℕ) →
      is_about matching a.interest.expr e ≡ true →
      is_at_gateway a.asking.before a.face own ≡ true → IsInTree a.asking.before own other → is_at_gateway a.asking.before face other ≡ true →
      list_all (λ t. is_plainly_live_at t.after face e) (turns_of a) ≡ true →
      is_answered_in a e ≡ true

  -- What it doesn't get: what no plain face of the fabric had live since the asking.
  abbrev pub GetsOnlyWhatWas : List (Turn K) → Type 0
  GetsOnlyWhatWas turns =
      (a : TreeAsk turns) (e : K) → is_answered_in a e ≡ true →
      (t : Turn K) × (face : ℕ) × IsMember t (a.asking ∷ a.between) × (is_plainly_live_at t.after face e ≡ true)

  -- ---- trees over a transcript

  abbrev pub is_ids_spent : Turn K → Bool
  is_ids_spent t = elim t.entry [ Ok ms ↦ false | Err refusal ↦ number_of refusal == 24 ]

  -- in a fabric of trees, after each turn, and no entry is refused for want of ids
  abbrev pub IsTreeTurn : Turn K → Type 0
  IsTreeTurn t = IsTreeFabric t.after × (is_ids_spent t ≡ false)

  -- the three promises over trees
  pub record MeetTreePromises (turns : List (Turn K)) : Type 0 where
    pub knowledge : Each KnowsTrees turns
    pub gets : GetsWhatStays turns
    pub gets_only : GetsOnlyWhatWas turns

  -- a transcript that is one of trees keeps them
  abbrev pub KeepTreePromises : List (Turn K) → Type 0
  KeepTreePromises turns = Each IsTreeTurn turns → MeetTreePromises turns
