-- Steps of the walks over answers and messages.
use Rattle.std.proofs.Common.{◌≡◌, ℕ, zero, suc, ◌<◌, ◌+◌, Bool, true, false, ◌&&◌, ◌||◌, ◌==◌, not, List, [], ◌∷◌, ◌++◌, Option, None, Some, length, get_or, drop, take, refl, sym, ap, subst, ◌∙◌, append_assoc, arith, eqb-true}
use Rattle.std.proofs.lemmas.Bool.{and_parts}
use Rattle.std.specs.List.{list_all, flat_map}
use Rattle.std.specs.declared.cmp.Ordering.{Ordering}
use Rattle.zt_keys.specs.Test.{by_test}
use Rattle.zt_protocol.specs.declared.entries.Sent.{Sent}
use Rattle.zt_protocol.specs.declared.messages.Message.{Message}
use Rattle.zt_protocol.specs.declared.messages.Message.TheVariants.{DeclareToken, UndeclareToken, DeclareFinal, Interest, InterestFinal, DeclareSubscriber, DeclareQueryable}
use Rattle.zt_model.specs.Fabric.{Fabric, Place, printed_for}
use Rattle.zt_model.specs.Lists.{is_among, nth, same}
use Rattle.zt_model.specs.Promises.{answered_by, answers_in, are_new}
use Rattle.zt_check_faces.proofs.Placed.{next_is}
use Rattle.zt_check_fabric.proofs.Gathered.{append_none}
use Rattle.zt_check_asks.specs.Answering.{answered_there, answers_from, are_answered_at, are_answered_by, are_answered_for, is_again}
use Rattle.zt_check_asks.specs.Calls.{PlainTold}
use Rattle.zt_check_asks.proofs.Asked.{among_more}

-- ---- answers, one message after another

pub from_none : (K : Type 0) (id number : ℕ) → answers_from {K = K} id number [] ≡ []
unfolding printed_for
from_none K id number = refl

pub from_first : {K : Type 0} (id number : ℕ) (m : Sent K) (ms : List (Sent K)) → answers_from id number (m ∷ ms) ≡ answers_from id number (m ∷ []) ++ answers_from id number ms
unfolding printed_for
from_first id number m ms =
    by_test (number == m.face)
    (λ own. rw own (ap (λ (es : List _). es ++ answers_from id number ms) (sym (append_none (answered_by id m.message)))))
    (λ other. rw other refl)

pub from_other : {K : Type 0} (id number : ℕ) (m : Sent K) (es : List K) → (number == m.face) ≡ false → es ≡ es ++ answers_from id number (m ∷ [])
unfolding printed_for
from_other id number m es other = rw other (sym (append_none es))

pub from_one : {K : Type 0} (id number : ℕ) (m : Sent K) (es more : List K) → (number == m.face) ≡ true → more ≡ es ++ answered_by id m.message → more ≡ es ++ answers_from id number (m ∷ [])
unfolding printed_for
from_one id number m es more own is = rw own (is ∙ ap (λ (ys : List _). es ++ ys) (sym (append_none (answered_by id m.message))))

-- ---- tests of all, one after another

pub all_left : {A : Type 0} (p : A → Bool) (xs : List A) (i : ℕ) (x : A) → i < length xs → x ≡ get_or xs i x → p x ≡ true → list_all p (drop i xs) ≡ list_all p xs → list_all p (drop (i + 1) xs) ≡ list_all p xs
all_left p xs i x within is ok so_far = sym (ap (λ b. b && list_all p (drop (i + 1) xs)) ok) ∙ (ap (list_all p) (sym (next_is xs i x within is)) ∙ so_far)

pub none_left : {A : Type 0} (p : A → Bool) (xs : List A) (i : ℕ) (x : A) → i < length xs → x ≡ get_or xs i x → p x ≡ false → list_all p (drop i xs) ≡ list_all p xs → false ≡ list_all p xs
none_left p xs i x within is bad so_far = sym (ap (λ b. b && list_all p (drop (i + 1) xs)) bad) ∙ (ap (list_all p) (sym (next_is xs i x within is)) ∙ so_far)

-- ---- new ones

module _ {K : Type 0} (cmp : K → K → Ordering) (matching : K → K → Bool) where
  -- what is new beside some is new beside as many others
  new_alike : (ks ls es : List K) → ((e : K) → is_among cmp e ks ≡ is_among cmp e ls) → are_new cmp matching ks es ≡ are_new cmp matching ls es
  new_alike ks ls [] alike = refl
  new_alike ks ls (e ∷ es) alike =
      ap (λ b. not b && are_new cmp matching (e ∷ ks) es) (alike e)
      ∙ ap (λ b. not (is_among cmp e ls) && b) (new_alike (e ∷ ks) (e ∷ ls) es (λ x. ap (λ b. same cmp x e || b) (alike x)))

  pub take_more : (i : ℕ) (e : K) (es : List K) → i < length es → e ≡ get_or es i e → take (i + 1) es ≡ take i es ++ e ∷ []
  take_more i e [] within is = absurd (omega (arith, within))
  take_more zero e (x ∷ es) within is = ap (λ (y : K). y ∷ []) (sym is)
  take_more (suc i) e (x ∷ es) within is =
      let next : suc i + 1 ≡ suc (i + 1) = omega arith in
      rw next (ap (λ (ys : List K). x ∷ ys) (take_more i e es (omega (arith, within)) is))

  moved : (a b c : Bool) → (b || (a || c)) ≡ ((a || (b || false)) || c)
  moved true true c = refl
  moved true false c = refl
  moved false true c = refl
  moved false false c = refl

  pub new_more : (known es : List K) (i : ℕ) (e : K) → i < length es → e ≡ get_or es i e → is_among cmp e known ≡ false → is_among cmp e (take i es) ≡ false
      → are_new cmp matching (take i es ++ known) (drop i es) ≡ are_new cmp matching known es → are_new cmp matching (take (i + 1) es ++ known) (drop (i + 1) es) ≡ are_new cmp matching known es
  new_more known es i e within is fresh first so_far =
      let rest = drop (i + 1) es in
      let here : is_among cmp e (take i es ++ known) ≡ false = among_more cmp e (take i es) known ∙ rw (first, fresh) refl in
      let step : are_new cmp matching (take i es ++ known) (e ∷ rest) ≡ are_new cmp matching (e ∷ (take i es ++ known)) rest = ap (λ (b : Bool). not b && are_new cmp matching (e ∷ (take i es ++ known)) rest) here in
      let left : are_new cmp matching (take i es ++ known) (e ∷ rest) ≡ are_new cmp matching known es = ap (are_new cmp matching (take i es ++ known)) (sym (next_is es i e within is)) ∙ so_far in
      new_alike (take (i + 1) es ++ known) (e ∷ (take i es ++ known)) rest alike ∙ (sym step ∙ left)
    where
      alike : (x : K) → is_among cmp x (take (i + 1) es ++ known) ≡ is_among cmp x (e ∷ (take i es ++ known))
      alike x =
          ap (λ (ys : List K). is_among cmp x (ys ++ known)) (take_more i e es within is)
          ∙ (among_more cmp x (take i es ++ e ∷ []) known
          ∙ (ap (λ b. b || is_among cmp x known) (among_more cmp x (take i es) (e ∷ []))
          ∙ (sym (moved (is_among cmp x (take i es)) (same cmp x e) (is_among cmp x known))
          ∙ ap (λ b. same cmp x e || b) (sym (among_more cmp x (take i es) known)))))

  -- ---- messages that answer one after another

  module _ (s : Fabric K) (told : PlainTold K) where
    -- the asks are that a message answers which answers this interest
    abbrev pub Passes : Option (ℕ × ℕ) → Type 0
    Passes last = (m : Sent K) (x : ℕ × ℕ) → last ≡ Some x → answered_there m.message m.face ≡ Some x → are_answered_by cmp matching s told m ≡ true

    pub passes_none : Passes None
    passes_none m x is there = let e : None ≡ Some x = is in cc

    abbrev passes_at : ℕ × ℕ → Option Place → Bool
    passes_at x None = true
    passes_at x (Some p) = are_answered_at cmp matching s told p.gateway p.face x.1

    -- which asks a message answers goes by its face and its interest
    there_is : (m : Message K) (face : ℕ) (x : ℕ × ℕ) (found : Option Place) → answered_there m face ≡ Some x → are_answered_for cmp matching s told m found ≡ passes_at x found
    there_is m face x None is = refl
    there_is (DeclareToken token e (Some i) node) face x (Some p) is = ap (λ (k : ℕ). are_answered_at cmp matching s told p.gateway p.face k) (interest is)
      where
        interest : Some (face, i) ≡ Some x → i ≡ x.1
        interest h = let e : (face, i) ≡ x = cc in ap (λ (y : ℕ × ℕ). y.1) e
    there_is (DeclareToken token e None node) face x (Some p) is = let h : None ≡ Some x = is in cc
    there_is (UndeclareToken token e node) face x (Some p) is = let h : None ≡ Some x = is in cc
    there_is (DeclareFinal interest) face x (Some p) is = let h : None ≡ Some x = is in cc
    there_is (Interest i mode options e) face x (Some p) is = let h : None ≡ Some x = is in cc
    there_is (InterestFinal i) face x (Some p) is = let h : None ≡ Some x = is in cc
    there_is (DeclareSubscriber i e interest) face x (Some p) is = let h : None ≡ Some x = is in cc
    there_is (DeclareQueryable i e info interest) face x (Some p) is = let h : None ≡ Some x = is in cc

    face_is : (m : Message K) (face : ℕ) (x : ℕ × ℕ) → answered_there m face ≡ Some x → face ≡ x.0
    face_is (DeclareToken token e (Some i) node) face x is = ap (λ (y : ℕ × ℕ). y.0) (let e : (face, i) ≡ x = cc in e)
    face_is (DeclareToken token e None node) face x is = let h : None ≡ Some x = is in cc
    face_is (UndeclareToken token e node) face x is = let h : None ≡ Some x = is in cc
    face_is (DeclareFinal interest) face x is = let h : None ≡ Some x = is in cc
    face_is (Interest i mode options e) face x is = let h : None ≡ Some x = is in cc
    face_is (InterestFinal i) face x is = let h : None ≡ Some x = is in cc
    face_is (DeclareSubscriber i e interest) face x is = let h : None ≡ Some x = is in cc
    face_is (DeclareQueryable i e info interest) face x is = let h : None ≡ Some x = is in cc

    by_is : (m : Sent K) (x : ℕ × ℕ) → answered_there m.message m.face ≡ Some x → are_answered_by cmp matching s told m ≡ passes_at x (nth x.0 s.faces)
    by_is m x is =
        there_is m.message m.face x (nth m.face s.faces) is ∙ ap (λ k. passes_at x (nth k s.faces)) (face_is m.message m.face x is)

    same_pair : (l h : ℕ × ℕ) → ((l.0 == h.0) && (l.1 == h.1)) ≡ true → l ≡ h
    same_pair l h is =
        let parts = and_parts (l.0 == h.0) (l.1 == h.1) is in
        ap (λ k. (k, l.1)) (eqb-true l.0 h.0 parts.0) ∙ ap (λ k. (h.0, k)) (eqb-true l.1 h.1 parts.1)

    -- one that answers as the last passes, as does one that was looked at
    pub passes_now : (last here : Option (ℕ × ℕ)) (m : Sent K) → here ≡ answered_there m.message m.face → Passes last → (is_again last here || are_answered_by cmp matching s told m) ≡ true → are_answered_by cmp matching s told m ≡ true
    passes_now (Some l) (Some h) m is passes ok =
        by_test ((l.0 == h.0) && (l.1 == h.1))
        (λ again. passes m h (ap (λ x. Some x) (same_pair l h again)) (sym is))
        (λ other. rw other at ok)
    passes_now None here m is passes ok = ok
    passes_now (Some l) None m is passes ok = ok

    pub passes_next : (here : Option (ℕ × ℕ)) (m : Sent K) → here ≡ answered_there m.message m.face → are_answered_by cmp matching s told m ≡ true → Passes here
    passes_next here m is ok other x own there = by_is other x there ∙ (sym (by_is m x (sym is ∙ own)) ∙ ok)

    pub bad_next : (last here : Option (ℕ × ℕ)) (m : Sent K) → (is_again last here || are_answered_by cmp matching s told m) ≡ false → are_answered_by cmp matching s told m ≡ false
    bad_next last here m h =
        by_test (is_again last here)
        (λ again. let e : true ≡ false = rw again at h in cc)
        (λ other. rw other at h)
