-- What a transcript shows after a line has the places that it had, and those of the faces that the line opens.
use Rattle.std.proofs.Common.{◌≡◌, ℕ, Bool, true, false, if◌then◌else◌, List, [], ◌∷◌, Option, None, Some, Ok, Err, refl, subst, sym, nat_lt}
use Rattle.std.specs.declared.cmp.Ordering.{Ordering}
use Rattle.zt_region.specs.declared.region.Bound.{Bound}
use Rattle.zt_region.specs.declared.region.Region.{Region}
use Rattle.zt_region.specs.declared.region.WhatAmI.{WhatAmI}
use Rattle.zt_region.specs.declared.region.Zid.{Zid}
use Rattle.zt_region.specs.Tables.{RegionAnswer}
use Rattle.zt_protocol.specs.Plain.{PlainCall, PlainEntry, PlainLine, NewSession, NewTransport, Gateway, Session, Face as FaceLine, Link as LinkLine, Unlink, Step, Speak, Moment, SetTreesAt, Expire, SetTrees}
use Rattle.zt_protocol.specs.Refusal.{number_of}
use Rattle.zt_protocol.specs.declared.entries.Sent.{Sent}
use Rattle.zt_protocol.specs.declared.errors.Refusal.{Refusal}
use Rattle.zt_model.specs.Fabric.{CallAt, Fabric, Link, Node, after_hearing, after_refusal, both_ends, call_at, call_of, call_of_face, call_face, closing_call, opening_at, table_at, with_place, with_rows, with_session, without_message}
use Rattle.zt_model.specs.Linking.{LinkEnd, end_region, link_ends, with_link, without_link}
use Rattle.zt_model.specs.Lists.{nth}
use Rattle.zt_model.specs.Rows.{Face, Rows}
use Rattle.zt_model.specs.Shown.{face_made, initial_interest, rows_shown}
use Rattle.zt_region.specs.declared.region.Region.TheVariants.{Local}
use Rattle.zt_region.specs.declared.region.Bound.TheVariants.{North as NorthBound}
use Rattle.zt_region.specs.declared.region.WhatAmI.TheVariants.{Client}
use Rattle.zt_model.specs.Transcript.{call_stepped, fabric_shown, fabric_with, pendings_printed, with_call, with_closings, with_opening, with_openings, with_stepped}
use Rattle.zt_check_fabric.specs.Changed.{told}
use Rattle.zt_check_fabric.specs.Linked.{given_at}
use Rattle.zt_check_fabric.specs.Placed.{IsPlaced}
use Rattle.zt_check_fabric.proofs.Carried.{given_is, not_opened, opened, session_opened}
use Rattle.zt_check_fabric.proofs.Heard.{all_heard, one_heard, stays_placed}
use Rattle.zt_check_fabric.proofs.Kept.{gateway_placed, opening_placed, rows_placed}
use Rattle.zt_check_fabric.proofs.Still.{IsStill, shown_keeps, still_at, still_closing, still_face, still_step}

module _ {K : Type 0} (cmp : K → K → Ordering) (matching : K → K → Bool) where
  -- a call that opens no face
  called_placed : (s : Fabric K) (ms : List (Sent K)) (at : Option (CallAt K)) → IsStill at → IsPlaced s → IsPlaced (with_call cmp matching ms at s)
  called_placed s ms None still placed = placed
  called_placed s ms (Some at) still placed =
      rows_placed (rows_shown cmp (pendings_printed s ms at) at.call) (λ g. shown_keeps cmp (pendings_printed s ms at) at.call g still) at.gateway s placed

  -- ---- faces that open

  session_new : (first : ℕ) (g : Rows K) → Face K
  session_new first g = face_made g.zid Client Local NorthBound first None g

  session_placed : (s : Fabric K) (n first : ℕ) → IsPlaced s → IsPlaced (with_session n first s)
  unfolding rows_shown session_new
  session_placed s n first placed =
      subst IsPlaced (session_opened cmp matching s n first)
      (opening_placed (rows_shown cmp [] (NewSession first)) (session_new first) (λ g. refl) (λ g. refl) s n placed)

  transport_new : Zid → WhatAmI → Region → Bound → ℕ → Rows K → Face K
  transport_new zid mode region bound first g = face_made zid mode region bound first (initial_interest g.mode region bound) g

  transport_placed : (s : Fabric K) (n : ℕ) (zid : Zid) (mode : WhatAmI) (region : Region) (bound : Bound) (first : ℕ) → IsPlaced s → IsPlaced (with_opening cmp matching (call_at s n (NewTransport zid mode region bound first)) s)
  unfolding rows_shown transport_new
  transport_placed s n zid mode region bound first placed = go (nth n s.gateways) refl
    where
      go : (found : Option (Node K)) → nth n s.gateways ≡ found → IsPlaced (with_opening cmp matching (call_at s n (NewTransport zid mode region bound first)) s)
      go None none = subst IsPlaced (not_opened cmp matching s n (NewTransport zid mode region bound first) none) placed
      go (Some node) some =
          subst IsPlaced (opened cmp matching s n (NewTransport zid mode region bound first) node (with_rows n (rows_shown cmp [] (NewTransport zid mode region bound first)) (with_place n s)) some refl)
          (opening_placed (rows_shown cmp [] (NewTransport zid mode region bound first)) (transport_new zid mode region bound first) (λ g. refl) (λ g. refl) s n placed)

  -- the call that an answer makes
  abbrev call_by : LinkEnd K → RegionAnswer → Option (PlainCall K)
  call_by end answer = elim answer [ Ok given ↦ Some (NewTransport end.other.rows.zid end.other.rows.mode given.0 given.1 end.first) | Err e ↦ None ]

  end_placed : (s : Fabric K) (end : LinkEnd K) → IsPlaced s → IsPlaced (with_opening cmp matching (opening_at cmp matching s end) s)
  end_placed s end placed = subst (λ at. IsPlaced (with_opening cmp matching at s)) (given_is cmp matching s end) (go (end_region end.node end.other))
    where
      go : (answer : RegionAnswer) → IsPlaced (with_opening cmp matching (given_at s end.gateway (call_by end answer)) s)
      go (Ok given) = transport_placed s end.gateway end.other.rows.zid end.other.rows.mode given.0 given.1 end.first placed
      go (Err e) = placed

  ends_placed : (ends : List (LinkEnd K)) (s : Fabric K) → IsPlaced s → IsPlaced (with_openings cmp matching ends s)
  unfolding with_openings
  ends_placed [] s placed = placed
  ends_placed (end ∷ ends) s placed = ends_placed ends (with_opening cmp matching (opening_at cmp matching s end) s) (end_placed s end placed)

  -- ---- faces that close, and links

  closings_placed : (faces : List ℕ) (s : Fabric K) → IsPlaced s → IsPlaced (with_closings cmp matching faces s)
  unfolding with_closings
  closings_placed [] s placed = placed
  closings_placed (face ∷ faces) s placed = closings_placed faces (with_call cmp matching [] (closing_call s face) s) (called_placed s [] (closing_call s face) (still_closing s face) placed)

  unlinked_placed : (s : Fabric K) (n : ℕ) → IsPlaced s → IsPlaced (without_link n s)
  unlinked_placed s n placed = go (nth n s.links) refl
    where
      go : (found : Option Link) → nth n s.links ≡ found → IsPlaced (without_link n s)
      go None none = rw (none, without_link) placed
      go (Some link) some = rw (some, without_link) (record { one = placed.one; made = placed.made })

  stepped_placed : (s : Fabric K) (n : ℕ) (back : Bool) → IsPlaced s → IsPlaced (with_stepped n back s)
  stepped_placed s n back placed = go (nth n s.links) refl
    where
      go : (found : Option Link) → nth n s.links ≡ found → IsPlaced (with_stepped n back s)
      go None none = rw (none, with_stepped) placed
      go (Some link) some = rw (some, with_stepped) (record { one = placed.one; made = placed.made })

  taken_placed : (s : Fabric K) (n : ℕ) (back : Bool) → IsPlaced s → IsPlaced (without_message n back s)
  taken_placed s n back placed = go (nth n s.links) refl
    where
      go : (found : Option Link) → nth n s.links ≡ found → IsPlaced (without_message n back s)
      go None none = rw (none, without_message) placed
      go (Some link) some = rw (some, without_message) (record { one = placed.one; made = placed.made })

  -- ---- lines

  pub with_line_placed : (line : PlainLine K) (ms : List (Sent K)) (s : Fabric K) → IsPlaced s → IsPlaced (fabric_with cmp matching line ms s)
  unfolding fabric_with call_of
  with_line_placed (Gateway mode zid regions south name timeout refused) ms s placed = gateway_placed s _ refl refl placed
  with_line_placed (Session gateway first) ms s placed = session_placed s gateway first placed
  with_line_placed (FaceLine gateway mode zid region bound first) ms s placed = transport_placed s gateway zid mode region bound first placed
  with_line_placed (LinkLine one two first back) ms s placed =
      ends_placed (link_ends s one two first back) (with_link s) (record { one = placed.one; made = placed.made })
  with_line_placed (Unlink link) ms s placed =
      unlinked_placed (with_closings cmp matching (both_ends cmp matching s link) s) link (closings_placed (both_ends cmp matching s link) s placed)
  with_line_placed (Step link back) ms s placed =
      called_placed (with_stepped link back s) ms (call_stepped s back (nth link s.links)) (still_step s back (nth link s.links)) (stepped_placed s link back placed)
  with_line_placed (Speak call) ms s placed = called_placed s ms (call_of_face s call (call_face call)) (still_face s call) placed
  with_line_placed (Moment gateway now) ms s placed = called_placed s ms (call_at s gateway (Expire now)) (still_at s gateway (Expire now) refl) placed
  with_line_placed (SetTreesAt gateway region table) ms s placed =
      called_placed s ms (call_at s gateway (SetTrees region (table_at s gateway table))) (still_at s gateway (SetTrees region (table_at s gateway table)) refl) placed

  pub heard_placed : (ms : List (Sent K)) (s : Fabric K) → IsPlaced s → IsPlaced (after_hearing cmp ms s)
  heard_placed [] s placed = subst IsPlaced (sym (all_heard cmp s)) placed
  heard_placed (m ∷ ms) s placed = subst IsPlaced (sym (one_heard cmp m ms s placed)) (heard_placed ms (told cmp m s) (stays_placed cmp m s placed))

  refused_placed : (line : PlainLine K) (refusal : Refusal) (s : Fabric K) → IsPlaced s → IsPlaced (after_refusal cmp matching line refusal s)
  refused_placed (Gateway mode zid regions south name timeout refused) refusal s placed = placed
  refused_placed (Session gateway first) refusal s placed = placed
  refused_placed (FaceLine gateway mode zid region bound first) refusal s placed = placed
  refused_placed (LinkLine one two first back) refusal s placed = placed
  refused_placed (Unlink link) refusal s placed = placed
  refused_placed (Step link back) refusal s placed = go (nat_lt 3 (number_of refusal))
    where
      go : (b : Bool) → IsPlaced (if b then without_message link back s else s)
      go true = taken_placed s link back placed
      go false = placed
  refused_placed (Speak call) refusal s placed = placed
  refused_placed (Moment gateway now) refusal s placed = placed
  refused_placed (SetTreesAt gateway region table) refusal s placed = placed

  pub shown_placed : (line : PlainLine K) (entry : PlainEntry K) (s : Fabric K) → IsPlaced s → IsPlaced (fabric_shown cmp matching line entry s)
  unfolding fabric_shown
  shown_placed line (Err refusal) s placed = refused_placed line refusal s placed
  shown_placed line (Ok ms) s placed =
      let heard = heard_placed ms (fabric_with cmp matching line ms s) (with_line_placed line ms s placed) in
      record { one = heard.one; made = heard.made }
