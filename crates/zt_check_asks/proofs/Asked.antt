-- Of one ask: it is decided rightly whether it is answered what it asks for.
use Rattle.std.proofs.Common.{◌≡◌, ◌⊎◌, inl, inr, ℕ, Bool, true, false, ◌&&◌, ◌||◌, ◌==◌, not, if◌then◌else◌, List, [], ◌∷◌, ◌++◌, Option, None, Some, refl, sym, ap, subst, ◌∙◌, ⊎_elim}
use Rattle.std.proofs.lemmas.Bool.{and_from, and_parts, false≢true, or_cases, or_left, or_right}
use Rattle.std.specs.List.{list_all, list_any}
use Rattle.std.specs.declared.cmp.Ordering.{Ordering}
use Rattle.zt_keys.specs.Test.{by_test}
use Rattle.zt_region.specs.declared.region.Region.{Region}
use Rattle.zt_region.specs.Region.{zid_eq}
use Rattle.zt_model.specs.Lists.{is_among, is_some_and, same}
use Rattle.zt_model.specs.Promises.{IsAnswered, Turn, answers_in, are_new, calls_in, is_answering, is_asking, printed_to}
use Rattle.zt_model.specs.Rows.{Ask, ById, Face, RoutedRow, Rows}
use Rattle.zt_model.specs.Seen.{is_seen, sees}
use Rattle.zt_model.specs.Wants.{is_about}
use Rattle.zt_check_keeping.proofs.Members.{Among, all_member, any_member, member_any, never}
use Rattle.zt_check_keeping.proofs.Standing.{Stands, seen_stands, stands_seen}
use Rattle.zt_check_asks.specs.Answering.{are_all, are_of_face, are_of_faces, are_seen, declared_for, is_answered_at_once, is_answered_later, is_answered_so, is_nothing, is_of_router, is_that}
use Rattle.zt_check_asks.specs.Calls.{PlainTold}

-- ---- tests

pub members_all : {A : Type 0} (p : A → Bool) (xs : List A) → ((x : A) → Among x xs → p x ≡ true) → list_all p xs ≡ true
members_all p [] h = refl
members_all p (x ∷ xs) h = and_from (p x) (list_all p xs) (h x (inl refl)) (members_all p xs (λ y at. h y (inr at)))

pub unless : (a b : Bool) → (a ≡ true → b ≡ true) → (not a || b) ≡ true
unless true b h = h refl
unless false b h = refl

pub if_so : (a b : Bool) → (not a || b) ≡ true → a ≡ true → b ≡ true
if_so true b h is = h
if_so false b h is = absurd (false≢true is)

pub either_so : (a b : Bool) → (a || b) ≡ true → a ≡ false → b ≡ true
either_so true b h is = absurd (false≢true (sym is))
either_so false b h is = h

same_tests : (a b : Bool) → (a ≡ true → b ≡ true) → (b ≡ true → a ≡ true) → a ≡ b
same_tests true b one other = sym (one refl)
same_tests false true one other = other refl
same_tests false false one other = refl

module _ {K : Type 0} (cmp : K → K → Ordering) where
  pub among_more : (e : K) (xs ys : List K) → is_among cmp e (xs ++ ys) ≡ (is_among cmp e xs || is_among cmp e ys)
  among_more e [] ys = refl
  among_more e (x ∷ xs) ys =
      by_test (same cmp e x)
      (λ here. rw here refl)
      (λ here. rw here (among_more e xs ys))

  nothing_is : (es : List K) → is_nothing es ≡ true → es ≡ []
  nothing_is [] h = refl
  nothing_is (e ∷ es) h = cc

module _ {K : Type 0} (cmp : K → K → Ordering) (matching : K → K → Bool) (itself : (e : K) → same cmp e e ≡ true) (exact : (a b : K) → same cmp a b ≡ true → a ≡ b) where
  flip : (a b : K) → same cmp a b ≡ true → same cmp b a ≡ true
  flip a b h = subst (λ (x : K). same cmp b x ≡ true) (sym (exact a b h)) (itself b)

  is_in : (e : K) (es : List K) → is_among cmp e es ≡ true → Among e es
  is_in e es h =
      let found = any_member (same cmp e) es h in
      subst (λ (x : K). Among x es) (sym (exact e found.0 found.1.1)) found.1.0

  in_is : (e : K) (es : List K) → Among e es → is_among cmp e es ≡ true
  in_is e es at = member_any (same cmp e) e es at (itself e)

  -- ---- an ask that is made

  module _ (g : Rows K) (f : Face K) (ask : Ask K) (es : List K) where
    abbrev Exactly : Type 0
    Exactly = (e : K) → is_among cmp e es ≡ (is_about matching ask.interest.expr e && is_seen cmp g f.region e)

    of_rows : (e : K) → are_all cmp matching g f.region ask.interest.expr es ≡ true → is_about matching ask.interest.expr e ≡ true → Stands (sees f.region) g e → is_among cmp e es ≡ true
    of_rows e all about (inl s) =
        let parts = and_parts (are_of_faces cmp matching f.region ask.interest.expr es g.faces) (list_all (is_of_router cmp matching g f.region ask.interest.expr es) g.routed) all in
        let one = all_member (λ (x : Face K). not (sees f.region x.region) || are_of_face cmp matching ask.interest.expr es x.live) s.face g.faces parts.0 s.there in
        let rows = if_so (sees f.region s.face.region) (are_of_face cmp matching ask.interest.expr es s.face.live) one s.region in
        let row = all_member (λ (r : ℕ × K). not (is_about matching ask.interest.expr r.1) || is_among cmp r.1 es) (s.has.0, e) s.face.live rows s.has.1 in
        if_so (is_about matching ask.interest.expr e) (is_among cmp e es) row about
    of_rows e all about (inr r) =
        let parts = and_parts (are_of_faces cmp matching f.region ask.interest.expr es g.faces) (list_all (is_of_router cmp matching g f.region ask.interest.expr es) g.routed) all in
        let one = all_member (is_of_router cmp matching g f.region ask.interest.expr es) r.row g.routed parts.1 r.there in
        let there = either_so (zid_eq r.row.source g.zid || not (sees f.region r.row.region)) (not (is_about matching ask.interest.expr r.row.expr) || is_among cmp r.row.expr es) one (apart (zid_eq r.row.source g.zid) (sees f.region r.row.region) r.other r.region) in
        subst (λ (x : K). is_among cmp x es ≡ true) (sym r.expr)
        (if_so (is_about matching ask.interest.expr r.row.expr) (is_among cmp r.row.expr es) there (subst (λ (x : K). is_about matching ask.interest.expr x ≡ true) r.expr about))
      where
        apart : (a b : Bool) → a ≡ false → b ≡ true → (a || not b) ≡ false
        apart true b h k = absurd (false≢true (sym h))
        apart false true h k = refl
        apart false false h k = absurd (false≢true k)

    pub once_says : is_answered_at_once cmp matching g f ask es ≡ true → Exactly
    once_says h e =
        same_tests (is_among cmp e es) (is_about matching ask.interest.expr e && is_seen cmp g f.region e)
        (λ there. all_member (λ (x : K). is_about matching ask.interest.expr x && is_seen cmp g f.region x) e es parts.0 (is_in e es there))
        (λ due.
        let both = and_parts (is_about matching ask.interest.expr e) (is_seen cmp g f.region e) due in
        of_rows e parts.1 both.0 (seen_stands cmp itself exact g f.region e both.1))
      where
        parts : (are_seen cmp matching g f.region ask.interest.expr es ≡ true) × (are_all cmp matching g f.region ask.interest.expr es ≡ true)
        parts = and_parts (are_seen cmp matching g f.region ask.interest.expr es) (are_all cmp matching g f.region ask.interest.expr es) h

    due_there : Exactly → (e : K) → Stands (sees f.region) g e → (not (is_about matching ask.interest.expr e) || is_among cmp e es) ≡ true
    due_there h e stands =
        unless (is_about matching ask.interest.expr e) (is_among cmp e es)
        (λ about. h e ∙ and_from (is_about matching ask.interest.expr e) (is_seen cmp g f.region e) about (stands_seen cmp itself exact g f.region e stands))

    pub once_told : Exactly → is_answered_at_once cmp matching g f ask es ≡ true
    once_told h =
        and_from (are_seen cmp matching g f.region ask.interest.expr es) (are_all cmp matching g f.region ask.interest.expr es)
        (members_all (λ (x : K). is_about matching ask.interest.expr x && is_seen cmp g f.region x) es (λ x at. sym (h x) ∙ in_is x es at))
        (and_from (are_of_faces cmp matching f.region ask.interest.expr es g.faces) (list_all (is_of_router cmp matching g f.region ask.interest.expr es) g.routed)
        (members_all (λ (x : Face K). not (sees f.region x.region) || are_of_face cmp matching ask.interest.expr es x.live) g.faces
        (λ x at.
        unless (sees f.region x.region) (are_of_face cmp matching ask.interest.expr es x.live)
        (λ seen.
        members_all (λ (r : ℕ × K). not (is_about matching ask.interest.expr r.1) || is_among cmp r.1 es) x.live
        (λ r there. due_there h r.1 (inl (record { face = x; there = at; region = seen; has = (r.0, there) }))))))
        (members_all (is_of_router cmp matching g f.region ask.interest.expr es) g.routed (λ r at. router r at)))
      where
        router : (r : RoutedRow K) → Among r g.routed → is_of_router cmp matching g f.region ask.interest.expr es r ≡ true
        router r at =
            by_test (zid_eq r.source g.zid)
            (λ own. or_left (zid_eq r.source g.zid || not (sees f.region r.region)) (not (is_about matching ask.interest.expr r.expr) || is_among cmp r.expr es) (or_left (zid_eq r.source g.zid) (not (sees f.region r.region)) own))
            (λ other. by_test (sees f.region r.region)
            (λ seen. or_right (zid_eq r.source g.zid || not (sees f.region r.region)) (not (is_about matching ask.interest.expr r.expr) || is_among cmp r.expr es)
            (due_there h r.expr (inr (record { row = r; there = at; region = seen; expr = refl; other = other }))))
            (λ unseen. or_left (zid_eq r.source g.zid || not (sees f.region r.region)) (not (is_about matching ask.interest.expr r.expr) || is_among cmp r.expr es)
            (or_right (zid_eq r.source g.zid) (not (sees f.region r.region)) (ap not unseen))))

  -- ---- an ask that stood

  -- what is said of it, where `answering` says of an expression that the turn declares it under a pending
  pub record IsLater (ask : Ask K) (answering : K → Bool) (es : List K) : Type 0 where
    pub only : (e : K) → is_among cmp e es ≡ true → answering e ≡ true
    pub each : (e : K) → is_about matching ask.interest.expr e ≡ true → answering e ≡ true → is_among cmp e (ask.answered ++ es) ≡ true

  pub later_says : (ask : Ask K) (answering : K → Bool) (es : List K) (d : Option K) → ((e : K) → answering e ≡ is_some_and d (same cmp e)) → is_answered_later cmp matching ask d es ≡ true → IsLater ask answering es
  later_says ask answering es None is h = record {
    only = λ e there. never (subst (λ (xs : List K). is_among cmp e xs ≡ true) (nothing_is cmp es h) there) refl;
    each = λ e about declared. never declared (is e);
  }
  later_says ask answering es (Some k) is h = record {
    only = λ e there. is e ∙ flip k e (all_member (same cmp k) e es parts.0 (is_in e es there));
    each = λ e about declared.
        let own : e ≡ k = exact e k (sym (is e) ∙ declared) in
        among_more cmp e ask.answered es
        ∙ subst (λ (x : K). (is_among cmp x ask.answered || is_among cmp x es) ≡ true) (sym own)
        (if_so (is_about matching ask.interest.expr k) (is_among cmp k ask.answered || is_among cmp k es) parts.1 (subst (λ (x : K). is_about matching ask.interest.expr x ≡ true) own about));
  }
    where
      parts : (list_all (same cmp k) es ≡ true) × ((not (is_about matching ask.interest.expr k) || (is_among cmp k ask.answered || is_among cmp k es)) ≡ true)
      parts = and_parts (list_all (same cmp k) es) (not (is_about matching ask.interest.expr k) || (is_among cmp k ask.answered || is_among cmp k es)) h

  pub later_told : (ask : Ask K) (answering : K → Bool) (es : List K) (d : Option K) → ((e : K) → answering e ≡ is_some_and d (same cmp e)) → IsLater ask answering es → is_answered_later cmp matching ask d es ≡ true
  later_told ask answering [] None is h = refl
  later_told ask answering (e ∷ es) None is h = never (h.only e (in_is e (e ∷ es) (inl refl))) (is e)
  later_told ask answering es (Some k) is h =
      and_from (list_all (same cmp k) es) (not (is_about matching ask.interest.expr k) || (is_among cmp k ask.answered || is_among cmp k es))
      (members_all (same cmp k) es (λ x at. flip x k (sym (is x) ∙ h.only x (in_is x es at))))
      (unless (is_about matching ask.interest.expr k) (is_among cmp k ask.answered || is_among cmp k es)
      (λ about. sym (among_more cmp k ask.answered es) ∙ h.each k about (is k ∙ itself k)))

  -- ---- one ask, in a turn

  module _ (t : Turn K) (told : PlainTold K) (gateway : ℕ) (g : Rows K) (f : Face K) (id : ℕ) (ask : Ask K) where
    abbrev asks : Bool
    asks = list_any (is_asking cmp matching gateway f.number id) (calls_in cmp matching t)

    abbrev answering : K → Bool
    answering e = list_any (is_answering cmp matching gateway ask e) (calls_in cmp matching t)

    -- what is told of the turn's call says what the turn's calls ask and answer
    pub record Tells : Type 0 where
      pub made : list_any (is_asking cmp matching gateway f.number id) (calls_in cmp matching t) ≡ is_that told.asking gateway f.number id
      pub declared : (e : K) → list_any (is_answering cmp matching gateway ask e) (calls_in cmp matching t) ≡ is_some_and (declared_for told gateway ask) (same cmp e)
      pub apart : is_that told.asking gateway f.number id ≡ true → declared_for told gateway ask ≡ None

    abbrev es : List K
    es = answers_in id (printed_to t gateway f)

    pub ask_says : Tells → is_answered_so cmp matching told gateway g f id ask (answers_in id (printed_to t gateway f)) ≡ true → IsAnswered cmp matching t gateway g f id ask
    ask_says tells h =
        by_test (is_that told.asking gateway f.number id)
        (λ that.
        let says = once_says g f ask (answers_in id (printed_to t gateway f)) (rw that at parts.1) in
        record {
          at_once = λ made. says;
          only_declared = λ unmade e there. never (tells.made ∙ that) unmade;
          each_declared = λ e about declared. never declared (tells.declared e ∙ ap (λ d. is_some_and d (same cmp e)) (tells.apart that));
          once = parts.0;
        })
        (λ other.
        let says = later_says ask answering (answers_in id (printed_to t gateway f)) (declared_for told gateway ask) tells.declared (rw other at parts.1) in
        record {
          at_once = λ made. never made (tells.made ∙ other);
          only_declared = λ unmade e there. says.only e there;
          each_declared = λ e about declared. says.each e about declared;
          once = parts.0;
        })
      where
        parts : (are_new cmp matching ask.answered (answers_in id (printed_to t gateway f)) ≡ true)
            × ((if is_that told.asking gateway f.number id then is_answered_at_once cmp matching g f ask (answers_in id (printed_to t gateway f)) else is_answered_later cmp matching ask (declared_for told gateway ask) (answers_in id (printed_to t gateway f))) ≡ true)
        parts = and_parts (are_new cmp matching ask.answered (answers_in id (printed_to t gateway f))) _ h

    pub ask_told : Tells → IsAnswered cmp matching t gateway g f id ask → is_answered_so cmp matching told gateway g f id ask (answers_in id (printed_to t gateway f)) ≡ true
    ask_told tells h =
        and_from (are_new cmp matching ask.answered (answers_in id (printed_to t gateway f))) _ h.once
        (by_test (is_that told.asking gateway f.number id)
        (λ that. rw that (once_told g f ask (answers_in id (printed_to t gateway f)) (λ e. h.at_once (tells.made ∙ that) e)))
        (λ other. rw other (later_told ask answering (answers_in id (printed_to t gateway f)) (declared_for told gateway ask) tells.declared (record {
          only = λ e there. h.only_declared (tells.made ∙ other) e there;
          each = λ e about declared. h.each_declared e about declared;
        }))))
