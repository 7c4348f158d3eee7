-- What a gateway says when a call is accepted, and the rows that the call leaves.
use Rattle.std.specs.Prelude.{ℕ, Bool, ◌++◌, if◌then◌else◌, List, [], ◌∷◌, Option, Some, None}
use Rattle.std.specs.declared.cmp.Ordering.{Ordering}
use Rattle.zt_region.specs.declared.region.Region.{Region}
use Rattle.zt_region.specs.declared.region.Zid.{Zid}
use Rattle.zt_protocol.specs.Plain.{PlainCall, NewSession, NewTransport, DeclareToken, UndeclareToken, Interest, InterestFinal, DeclareFinal, CloseFace, Expire, SetTrees, SetEntities}
use Rattle.zt_protocol.specs.declared.interests.InterestMode.{InterestMode}
use Rattle.zt_protocol.specs.declared.interests.InterestOptions.{InterestOptions}
use Rattle.zt_model.specs.Closing.{closing, expiring}
use Rattle.zt_model.specs.Entities.{entities_for, numbered_by, with_entities, with_numbers}
use Rattle.zt_model.specs.Lists.{at_id}
use Rattle.zt_model.specs.Routing.{asked_as, finalising, finishing, opening, route, sent_as}
use Rattle.zt_model.specs.Rows.{Face, InterestRow, Rows}
use Rattle.zt_model.specs.Trees.{changing_table, declaring_routed, hiding, showing, source_of, undeclaring_routed}
use Rattle.zt_model.specs.Wants.{kept_options}
pub use Rattle.zt_model.specs.Parts.{Part, Alter, Say}
unfoldable pub use Rattle.zt_model.specs.Parts.{Sends, altered_by, find_face, is_routed, new_face, opened_session, said_by, to_each, to_face, told_id, with_face}
unfoldable pub use Rattle.zt_model.specs.Telling.{answered_expressions, answering, answers_from, answers_of, declaring, forget, forget_to, forget_untold, is_told, registered, registers, tell, tell_to, undeclared, undeclaring, unregistered}
unfoldable pub use Rattle.zt_model.specs.Routing.{asked, final_of}

module _ {K : Type 0} (cmp : K → K → Ordering) (matching : K → K → Bool) where
  -- ---- the calls

  -- an interest at its own face, which was sent to these faces under these ids
  abbrev pub interesting_above : List (ℕ × ℕ) → ℕ → ℕ → InterestRow K → List (Part K)
  interesting_above pendings n id interest =
      Alter (with_face n (asked_as pendings id interest))
      ∷ Say (λ g. to_face n (answers_of cmp matching g id interest) g)
      ∷ Say (to_face n (final_of id))
      ∷ []

  -- the same of an interest that was sent to nobody
  abbrev pub interesting : ℕ → ℕ → InterestRow K → List (Part K)
  interesting n id interest = interesting_above [] n id interest

  -- an interest of a face, with the options that the gateway keeps
  abbrev pub row_of : Face K → InterestMode → InterestOptions → Option K → InterestRow K
  row_of f mode options e = record { mode = mode; options = kept_options f.mode options; expr = e }

  -- An interest is sent on to the north, and then answered: the entities, the tokens and, where it was sent to
  -- nobody, the final.
  abbrev pub asking : ℕ → ℕ → InterestRow K → Region → Rows K → List (Part K)
  asking n id interest asker g =
      Alter (with_numbers cmp (numbered_by cmp interest))
      ∷ Say (route asker interest)
      ∷ Say (λ h. to_face n (entities_for cmp matching h id interest) h)
      ∷ interesting_above (sent_as g asker interest.mode) n id interest

  -- a token of a router, which the face's link table names
  abbrev pub declaring_of : ℕ → Option Zid → K → Face K → List (Part K)
  declaring_of n None e f = []
  declaring_of n (Some source) e f = declaring_routed cmp matching n source e f

  abbrev pub undeclaring_of : ℕ → Option Zid → Option K → Face K → List (Part K)
  undeclaring_of n (Some source) (Some e) f = undeclaring_routed cmp matching n source e f
  undeclaring_of n _ _ f = []

  -- the router regions of the gateway hear too of what was undeclared
  abbrev pub hiding_undeclared : ℕ → Option K → Face K → List (Part K)
  hiding_undeclared id given f = elim (undeclared cmp matching id given f) [ None ↦ [] | Some e ↦ hiding cmp f.region e ]

  abbrev pub finalising_held : ℕ → ℕ → Face K → List (Part K)
  finalising_held n id f = elim (at_id id f.held) [ None ↦ [] | Some interest ↦ finalising cmp matching n id interest ]

  -- What a call is made of, read over the rows before it.
  unfoldable pub parts_of : PlainCall K → Rows K → List (Part K)
  parts_of (NewSession first) g = Alter (opened_session first) ∷ []
  parts_of (NewTransport zid whatami region bound first) g = opening cmp matching zid whatami region bound first g
  parts_of (DeclareToken n id e node interest) g =
      elim (find_face n g) [
        | None ↦ []
        | Some f ↦
            if is_routed g f then declaring_of n (source_of g f node) e f
            else answering cmp matching n interest e f ++ (if registers f interest then declaring cmp matching n id e f ++ showing cmp f.region e else [])
      ]
  parts_of (UndeclareToken n id given node) g =
      elim (find_face n g) [
        | None ↦ []
        | Some f ↦
            if is_routed g f then undeclaring_of n (source_of g f node) given f
            else undeclaring cmp matching n id given f ++ hiding_undeclared id given f
      ]
  parts_of (Interest n id mode options e) g = elim (find_face n g) [ None ↦ [] | Some f ↦ asking n id (row_of f mode options e) f.region g ]
  parts_of (InterestFinal n id) g = elim (find_face n g) [ None ↦ [] | Some f ↦ finalising_held n id f ]
  parts_of (DeclareFinal n id) g = elim (find_face n g) [ None ↦ [] | Some f ↦ finishing n id f ]
  parts_of (CloseFace n) g = elim (find_face n g) [ None ↦ [] | Some f ↦ closing cmp matching n g f ]
  parts_of (Expire now) g = expiring now g
  parts_of (SetTrees region table) g = changing_table cmp matching region table g
  parts_of (SetEntities n subscribers queryables) g = Alter (with_entities cmp n subscribers queryables) ∷ []

  -- the messages of a call, in the order sent
  abbrev pub said : PlainCall K → Rows K → Sends K
  said c g = said_by cmp matching (parts_of c g) g

  -- the rows that the call itself changes
  abbrev pub altered : PlainCall K → Rows K → Rows K
  altered c g = altered_by cmp matching (parts_of c g) g
