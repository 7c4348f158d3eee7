-- The calls of a turn, as far as they matter to asks: the line's one call, or none.
use Rattle.std.proofs.Common.{◌≡◌, ℕ, Bool, true, false, ◌&&◌, ◌||◌, ◌==◌, if◌then◌else◌, List, [], ◌∷◌, ◌++◌, Option, None, Some, Ok, Err, refl, sym, ap, subst, ◌∙◌}
use Rattle.std.proofs.lemmas.Bool.{false≢true}
use Rattle.std.specs.List.{list_any, flat_map}
use Rattle.std.specs.Option.{option_to_list}
use Rattle.std.specs.declared.cmp.Ordering.{Ordering}
use Rattle.zt_region.specs.declared.region.Bound.{Bound}
use Rattle.zt_region.specs.declared.region.Region.{Region}
use Rattle.zt_region.specs.declared.region.WhatAmI.{WhatAmI}
use Rattle.zt_region.specs.declared.region.Zid.{Zid}
use Rattle.zt_region.specs.Tables.{RegionAnswer}
use Rattle.zt_protocol.specs.Interest.{is_current}
use Rattle.zt_protocol.specs.Plain.{PlainCall, NewSession, NewTransport, DeclareToken, UndeclareToken, Interest, InterestFinal, DeclareFinal, CloseFace, Expire, SetTrees, SetEntities, PlainLine, Gateway, Session, Face as FaceLine, Link as LinkLine, Unlink, Step, Speak, Moment, SetTreesAt}
use Rattle.zt_protocol.specs.declared.entries.Sent.{Sent}
use Rattle.zt_model.specs.Fabric.{CallAt, Fabric, Link, Node, Place, both_ends, call_at, call_of, closing_call, opening_at}
use Rattle.zt_model.specs.Linking.{LinkEnd, end_region, link_ends}
use Rattle.zt_model.specs.Lists.{is_some_and, nth, same}
use Rattle.zt_model.specs.Promises.{Turn, calls_in, is_answering, is_asking}
use Rattle.zt_model.specs.Routing.{stands}
use Rattle.zt_model.specs.Rows.{Ask, Face, Rows}
use Rattle.zt_model.specs.Telling.{was_sent_as}
use Rattle.zt_model.specs.Transcript.{openings, with_opening}
use Rattle.zt_check_asks.specs.Answering.{declared_for, is_of, is_that}
use Rattle.zt_check_asks.specs.Calls.{PlainTold, answered_at, answered_by, asked_at, asked_by, declared_at, declared_by, told_of}
use Rattle.zt_check_asks.proofs.Asked.{Tells}

and_false : (a : Bool) → (a && false) ≡ false
and_false true = refl
and_false false = refl

and_true : (a : Bool) → (a && true) ≡ a
and_true true = refl
and_true false = refl

any_option : {A : Type 0} (p : A → Bool) (o : Option A) → list_any p (option_to_list o) ≡ is_some_and o p
any_option p None = refl
any_option p (Some x) = go (p x)
  where
    go : (b : Bool) → (b || false) ≡ b
    go true = refl
    go false = refl

none_more : {A : Type 0} (p : A → Bool) (xs ys : List A) → list_any p xs ≡ false → list_any p ys ≡ false → list_any p (xs ++ ys) ≡ false
none_more p [] ys one two = two
none_more p (x ∷ xs) ys one two = go (p x) (list_any p xs) one (none_more p xs ys)
  where
    go : (b c : Bool) → (b || c) ≡ false → (c ≡ false → list_any p ys ≡ false → list_any p (xs ++ ys) ≡ false) → (b || list_any p (xs ++ ys)) ≡ false
    go true c h rest = absurd (false≢true (sym h))
    go false c h rest = rest h two

module _ {K : Type 0} (cmp : K → K → Ordering) (matching : K → K → Bool) where
  -- a test that no call passes that opens a link's face or closes a face
  pub record Ignores (p : CallAt K → Bool) : Type 0 where
    pub opened : (n : ℕ) (g : Rows K) (zid : Zid) (mode : WhatAmI) (region : Region) (bound : Bound) (first : ℕ) → p (record { gateway = n; rows = g; call = NewTransport zid mode region bound first }) ≡ false
    pub closed : (n : ℕ) (g : Rows K) (face : ℕ) → p (record { gateway = n; rows = g; call = CloseFace face }) ≡ false

  module _ (p : CallAt K → Bool) (ignores : Ignores p) where
    none_at : (s : Fabric K) (n : ℕ) (call : PlainCall K) → ((g : Rows K) → p (record { gateway = n; rows = g; call = call }) ≡ false) → is_some_and (call_at s n call) p ≡ false
    none_at s n call fails = go (nth n s.gateways)
      where
        go : (found : Option (Node K)) → is_some_and (elim found as (λ _. Option (CallAt K)) [ None ↦ None | Some node ↦ Some (record { gateway = n; rows = node.rows; call = call }) ]) p ≡ false
        go None = refl
        go (Some node) = fails node.rows

    abbrev call_by : LinkEnd K → RegionAnswer → Option (PlainCall K)
    call_by end answer = elim answer [ Ok given ↦ Some (NewTransport end.other.rows.zid end.other.rows.mode given.0 given.1 end.first) | Err e ↦ None ]

    none_opens : (s : Fabric K) (end : LinkEnd K) → is_some_and (opening_at cmp matching s end) p ≡ false
    none_opens s end = go (end_region end.node end.other)
      where
        go : (answer : RegionAnswer) → is_some_and (elim (call_by end answer) as (λ _. Option (CallAt K)) [ None ↦ None | Some call ↦ call_at s end.gateway call ]) p ≡ false
        go (Err e) = refl
        go (Ok given) = none_at s end.gateway (NewTransport end.other.rows.zid end.other.rows.mode given.0 given.1 end.first) (λ g. ignores.opened end.gateway g end.other.rows.zid end.other.rows.mode given.0 given.1 end.first)

    none_open : (ends : List (LinkEnd K)) (s : Fabric K) → list_any p (openings cmp matching ends s) ≡ false
    unfolding openings
    none_open [] s = refl
    none_open (end ∷ ends) s =
        none_more p (option_to_list (opening_at cmp matching s end)) (openings cmp matching ends (with_opening cmp matching (opening_at cmp matching s end) s))
        (any_option p (opening_at cmp matching s end) ∙ none_opens s end)
        (none_open ends (with_opening cmp matching (opening_at cmp matching s end) s))

    none_closes : (s : Fabric K) (face : ℕ) → is_some_and (closing_call s face) p ≡ false
    none_closes s face = go (nth face s.faces)
      where
        go : (place : Option Place) → is_some_and (elim place as (λ _. Option (CallAt K)) [ None ↦ None | Some q ↦ call_at s q.gateway (CloseFace q.face) ]) p ≡ false
        go None = refl
        go (Some q) = none_at s q.gateway (CloseFace q.face) (λ g. ignores.closed q.gateway g q.face)

    none_close : (s : Fabric K) (faces : List ℕ) → list_any p (flat_map (λ face. option_to_list (closing_call s face)) faces) ≡ false
    none_close s [] = refl
    none_close s (face ∷ faces) =
        none_more p (option_to_list (closing_call s face)) (flat_map (λ k. option_to_list (closing_call s k)) faces)
        (any_option p (closing_call s face) ∙ none_closes s face)
        (none_close s faces)

    pub calls_any : (line : PlainLine K) (ms : List (Sent K)) (s after : Fabric K) → list_any p (calls_in cmp matching (record { line = line; entry = Ok ms; before = s; after = after })) ≡ is_some_and (call_of line s) p
    unfolding calls_in call_of
    calls_any (Gateway mode zid regions south name timeout refused) ms s after = any_option p (call_of (Gateway mode zid regions south name timeout refused) s)
    calls_any (Session gateway first) ms s after = any_option p (call_of (Session gateway first) s)
    calls_any (FaceLine gateway mode zid region bound first) ms s after = any_option p (call_of (FaceLine gateway mode zid region bound first) s)
    calls_any (LinkLine one two first back) ms s after = none_open (link_ends s one two first back) s
    calls_any (Unlink link) ms s after = none_close s (both_ends cmp matching s link)
    calls_any (Step link back) ms s after = any_option p (call_of (Step link back) s)
    calls_any (Speak call) ms s after = any_option p (call_of (Speak call) s)
    calls_any (Moment gateway now) ms s after = any_option p (call_of (Moment gateway now) s)
    calls_any (SetTreesAt gateway region table) ms s after = any_option p (call_of (SetTreesAt gateway region table) s)

  -- ---- what a call asks and answers

  asks_call : (gateway n id k : ℕ) (g : Rows K) (call : PlainCall K) → is_asking cmp matching gateway n id (record { gateway = k; rows = g; call = call }) ≡ is_that (asked_by k call) gateway n id
  asks_call gateway n id k g (Interest face i mode options e) = go (is_current mode)
    where
      go : (b : Bool) → ((gateway == k) && ((n == face) && ((id == i) && b))) ≡ is_that (if b then Some (k, face, i) else None) gateway n id
      go true = ap (λ b. (gateway == k) && ((n == face) && b)) (and_true (id == i))
      go false = ap (λ b. (gateway == k) && ((n == face) && b)) (and_false (id == i)) ∙ (ap (λ b. (gateway == k) && b) (and_false (n == face)) ∙ and_false (gateway == k))
  asks_call gateway n id k g (NewSession first) = refl
  asks_call gateway n id k g (NewTransport zid whatami region bound first) = refl
  asks_call gateway n id k g (DeclareToken face i e node interest) = refl
  asks_call gateway n id k g (UndeclareToken face i e node) = refl
  asks_call gateway n id k g (InterestFinal face i) = refl
  asks_call gateway n id k g (DeclareFinal face interest) = refl
  asks_call gateway n id k g (CloseFace face) = refl
  asks_call gateway n id k g (Expire now) = refl
  asks_call gateway n id k g (SetTrees region table) = refl
  asks_call gateway n id k g (SetEntities face subscribers queryables) = refl

  answers_call : (gateway : ℕ) (ask : Ask K) (e : K) (k : ℕ) (g : Rows K) (call : PlainCall K)
      → is_answering cmp matching gateway ask e (record { gateway = k; rows = g; call = call }) ≡ is_some_and (if is_of (answered_by k g call) gateway ask then declared_by call else None) (same cmp e)
  answers_call gateway ask e k g (DeclareToken n id x node None) = ap (λ b. (gateway == k) && b) (and_false (same cmp e x)) ∙ and_false (gateway == k)
  answers_call gateway ask e k g (DeclareToken n id x node (Some i)) = go (stands g (n, i))
    where
      sent : (a w : Bool) → (a && (same cmp e x && (w && true))) ≡ is_some_and (if a && w then Some x else None) (same cmp e)
      sent false w = refl
      sent true false = and_false (same cmp e x)
      sent true true = and_true (same cmp e x)

      go : (b : Bool) → ((gateway == k) && (same cmp e x && (was_sent_as n i ask && b))) ≡ is_some_and (if is_of (if b then Some (k, n, i) else None) gateway ask then Some x else None) (same cmp e)
      go true = sent (gateway == k) (was_sent_as n i ask)
      go false = ap (λ b. (gateway == k) && (same cmp e x && b)) (and_false (was_sent_as n i ask)) ∙ (ap (λ b. (gateway == k) && b) (and_false (same cmp e x)) ∙ and_false (gateway == k))
  answers_call gateway ask e k g (Interest face i mode options x) = refl
  answers_call gateway ask e k g (NewSession first) = refl
  answers_call gateway ask e k g (NewTransport zid whatami region bound first) = refl
  answers_call gateway ask e k g (UndeclareToken face i x node) = refl
  answers_call gateway ask e k g (InterestFinal face i) = refl
  answers_call gateway ask e k g (DeclareFinal face interest) = refl
  answers_call gateway ask e k g (CloseFace face) = refl
  answers_call gateway ask e k g (Expire now) = refl
  answers_call gateway ask e k g (SetTrees region table) = refl
  answers_call gateway ask e k g (SetEntities face subscribers queryables) = refl

  -- a call that asks answers nothing
  apart_call : (gateway n id : ℕ) (ask : Ask K) (k : ℕ) (g : Rows K) (call : PlainCall K) → is_that (asked_by k call) gateway n id ≡ true → (if is_of (answered_by k g call) gateway ask then declared_by call else None) ≡ None
  apart_call gateway n id ask k g (Interest face i mode options x) h = refl
  apart_call gateway n id ask k g (DeclareToken face i e node interest) h = absurd (false≢true h)
  apart_call gateway n id ask k g (NewSession first) h = absurd (false≢true h)
  apart_call gateway n id ask k g (NewTransport zid whatami region bound first) h = absurd (false≢true h)
  apart_call gateway n id ask k g (UndeclareToken face i x node) h = absurd (false≢true h)
  apart_call gateway n id ask k g (InterestFinal face i) h = absurd (false≢true h)
  apart_call gateway n id ask k g (DeclareFinal face interest) h = absurd (false≢true h)
  apart_call gateway n id ask k g (CloseFace face) h = absurd (false≢true h)
  apart_call gateway n id ask k g (Expire now) h = absurd (false≢true h)
  apart_call gateway n id ask k g (SetTrees region table) h = absurd (false≢true h)
  apart_call gateway n id ask k g (SetEntities face subscribers queryables) h = absurd (false≢true h)

  asks_found : (gateway n id : ℕ) (found : Option (CallAt K)) → is_some_and found (is_asking cmp matching gateway n id) ≡ is_that (asked_at found) gateway n id
  asks_found gateway n id None = refl
  asks_found gateway n id (Some at) = asks_call gateway n id at.gateway at.rows at.call

  answers_found : (gateway : ℕ) (ask : Ask K) (e : K) (ms : List (Sent K)) (found : Option (CallAt K)) → is_some_and found (is_answering cmp matching gateway ask e) ≡ is_some_and (declared_for (told_of found ms) gateway ask) (same cmp e)
  answers_found gateway ask e ms None = refl
  answers_found gateway ask e ms (Some at) = answers_call gateway ask e at.gateway at.rows at.call

  apart_found : (gateway n id : ℕ) (ask : Ask K) (ms : List (Sent K)) (found : Option (CallAt K)) → is_that (asked_at found) gateway n id ≡ true → declared_for (told_of found ms) gateway ask ≡ None
  apart_found gateway n id ask ms None h = absurd (false≢true h)
  apart_found gateway n id ask ms (Some at) h = apart_call gateway n id ask at.gateway at.rows at.call h

  module _ (itself : (e : K) → same cmp e e ≡ true) (exact : (a b : K) → same cmp a b ≡ true → a ≡ b) where
    -- the line's call tells of all calls of the turn what matters to an ask
    pub line_tells : (line : PlainLine K) (ms : List (Sent K)) (s after : Fabric K) (gateway : ℕ) (g : Rows K) (f : Face K) (id : ℕ) (ask : Ask K)
        → Tells cmp matching itself exact (record { line = line; entry = Ok ms; before = s; after = after }) (told_of (call_of line s) ms) gateway g f id ask
    line_tells line ms s after gateway g f id ask = record {
      made = calls_any (is_asking cmp matching gateway f.number id) (record { opened = λ n h zid mode region bound first. refl; closed = λ n h face. refl }) line ms s after ∙ asks_found gateway f.number id (call_of line s);
      declared = λ e. calls_any (is_answering cmp matching gateway ask e) (record { opened = λ n h zid mode region bound first. refl; closed = λ n h face. refl }) line ms s after ∙ answers_found gateway ask e ms (call_of line s);
      apart = apart_found gateway f.number id ask ms (call_of line s);
    }
