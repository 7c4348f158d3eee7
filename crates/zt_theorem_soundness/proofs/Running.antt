-- What a call leaves is what its parts run to: what a part changes and what faces hear before it can be exchanged.
use Rattle.std.proofs.Common.{◌≡◌, ℕ, Bool, true, false, if◌then◌else◌, ◌==◌, List, [], ◌∷◌, ◌++◌, map, filter, refl, sym, ap, ◌∙◌, append_assoc}
use Rattle.std.specs.declared.cmp.Ordering.{Ordering}
use Rattle.zt_protocol.specs.declared.messages.Message.{Message}
use Rattle.zt_model.specs.Hearing.{heard, heard_all, messages_for, rows_heard}
use Rattle.zt_model.specs.Rows.{Face, RoutedRow, Rows}
use Rattle.zt_model.specs.Says.{Alter, Part, Say, Sends, altered_by, said_by, with_face}
use Rattle.zt_model.specs.Transcript.{Each}
use Rattle.zt_laws.proofs.Faces.{carried}
use Rattle.zt_laws.proofs.Hearing.{heard_all-number, rows_heard-append, rows_heard_nothing}
use Rattle.zt_laws.proofs.Lists.{by_test, each_always, map-map, map_alike}
use Rattle.zt_laws.proofs.PartsOrder.{each_message_for}
use Rattle.zt_theorem_soundness.specs.Ran.{ran}

module _ {K : Type 0} (cmp : K → K → Ordering) where
  pub ran-append : (ps qs : List (Part K)) (g : Rows K) → ran cmp (ps ++ qs) g ≡ ran cmp qs (ran cmp ps g)
  unfolding ran
  ran-append [] qs g = refl
  ran-append (Alter change ∷ ps) qs g = ran-append ps qs (change g)
  ran-append (Say rule ∷ ps) qs g = ran-append ps qs (rows_heard cmp (rule g) g)

  -- ---- exchanges

  -- what is said of messages of a kind is heard after a change as before it
  abbrev pub Exchanges : (Message K → Type 0) → (Rows K → Rows K) → Type 0
  Exchanges P change = (ss : Sends K) (g : Rows K) → Each (λ s. P s.1) ss → rows_heard cmp ss (change g) ≡ change (rows_heard cmp ss g)

  -- a part that says messages of a kind alone, or a change that may wait for them
  abbrev pub IsExchanged : (Message K → Type 0) → Part K → Type 0
  IsExchanged P (Alter change) = Exchanges P change
  IsExchanged P (Say rule) = (g : Rows K) → Each (λ s. P s.1) (rule g)

  module _ (P : Message K → Type 0) where
    heard_all_exchanged : (change : Face K → Face K) → ((now : ℕ) (m : Message K) (f : Face K) → P m → heard cmp now m (change f) ≡ change (heard cmp now m f)) → (now : ℕ) (ms : List (Message K)) (f : Face K) → Each P ms → heard_all cmp now ms (change f) ≡ change (heard_all cmp now ms f)
    unfolding heard_all
    heard_all_exchanged change one now [] f all = refl
    heard_all_exchanged change one now (m ∷ ms) f all = ap (heard_all cmp now ms) (one now m f all.0) ∙ heard_all_exchanged change one now ms (heard cmp now m f) all.1

    pub exchange_face : (n : ℕ) (change : Face K → Face K) → ((f : Face K) → (change f).number ≡ f.number) → ((now : ℕ) (m : Message K) (f : Face K) → P m → heard cmp now m (change f) ≡ change (heard cmp now m f)) → Exchanges P (with_face n change)
    unfolding rows_heard with_face
    exchange_face n change number_ one = λ ss g all.
        let chosen = λ (f : Face K). if n == f.number then change f else f in
        let hears = λ (f : Face K). heard_all cmp g.moment (messages_for f.number ss) f in
        ap (λ (fs : List (Face K)). record g { faces = fs })
        (map-map hears chosen g.faces
        ∙ map_alike (λ f. hears (chosen f)) (λ f. chosen (hears f)) g.faces (each_always (λ f. hears (chosen f) ≡ chosen (hears f)) (λ f. at_face ss g all f) g.faces)
        ∙ sym (map-map chosen hears g.faces))
      where
        at_face : (ss : Sends K) (g : Rows K) → Each (λ s. P s.1) ss → (f : Face K)
            → (let hears = λ (k : Face K). heard_all cmp g.moment (messages_for k.number ss) k in
            let chosen = λ (k : Face K). if n == k.number then change k else k in hears (chosen f) ≡ chosen (hears f))
        at_face ss g all f =
            let number_is = heard_all-number cmp g.moment (messages_for f.number ss) f in
            by_test (n == f.number)
            (λ here.
            let there : (n == (heard_all cmp g.moment (messages_for f.number ss) f).number) ≡ true = ap (λ k. n == k) number_is ∙ here in
            rw (here, there)
            (ap (λ k. heard_all cmp g.moment (messages_for k ss) (change f)) (number_ f)
            ∙ heard_all_exchanged change one g.moment (messages_for f.number ss) f (each_message_for cmp P f.number ss all)))
            (λ here. let there : (n == (heard_all cmp g.moment (messages_for f.number ss) f).number) ≡ false = ap (λ k. n == k) number_is ∙ here in rw (here, there) refl)

    -- a change of routed rows that looks at nothing that is heard
    pub exchange_routed : (change : Rows K → List (RoutedRow K)) → ((ss : Sends K) (g : Rows K) → change (rows_heard cmp ss g) ≡ change g) → Exchanges P (λ g. record g { routed = change g })
    unfolding rows_heard
    exchange_routed change same_ = λ ss g all. ap (λ (rows : List (RoutedRow K)). record (rows_heard cmp ss g) { routed = rows }) (sym (same_ ss g))

    -- a face is taken away
    pub exchange_filter : (p : ℕ → Bool) → Exchanges P (λ g. record g { faces = filter (λ f. p f.number) g.faces })
    unfolding rows_heard
    exchange_filter p = λ ss g all. ap (λ (fs : List (Face K)). record g { faces = fs }) (at_faces ss g.moment g.faces)
      where
        at_faces : (ss : Sends K) (now : ℕ) (fs : List (Face K)) → (let hears = λ (k : Face K). heard_all cmp now (messages_for k.number ss) k in map hears (filter (λ f. p f.number) fs) ≡ filter (λ f. p f.number) (map hears fs))
        at_faces ss now [] = refl
        at_faces ss now (f ∷ fs) =
            let hears = λ (k : Face K). heard_all cmp now (messages_for k.number ss) k in
            let number_is : p (hears f).number ≡ p f.number = ap p (heard_all-number cmp now (messages_for f.number ss) f) in
            by_test (p f.number)
            (λ here. let there : p (hears f).number ≡ true = number_is ∙ here in rw (here, there) (ap (λ ks. hears f ∷ ks) (at_faces ss now fs)))
            (λ here. let there : p (hears f).number ≡ false = number_is ∙ here in rw (here, there) (at_faces ss now fs))

  module _ (matching : K → K → Bool) where
    -- what is said by later parts is said over what the earlier ones run to
    pub said_by-append : (ps qs : List (Part K)) (g : Rows K) → said_by cmp matching (ps ++ qs) g ≡ said_by cmp matching ps g ++ said_by cmp matching qs (ran cmp ps g)
    unfolding said_by ran
    said_by-append [] qs g = refl
    said_by-append (Alter change ∷ ps) qs g = said_by-append ps qs (change g)
    said_by-append (Say rule ∷ ps) qs g =
        let h = rows_heard cmp (rule g) g in
        ap (λ ss. rule g ++ ss) (said_by-append ps qs h) ∙ sym (append_assoc (rule g) (said_by cmp matching ps h) (said_by cmp matching qs (ran cmp ps h)))

    altered_by-append : (ps qs : List (Part K)) (g : Rows K) → altered_by cmp matching (ps ++ qs) g ≡ altered_by cmp matching qs (altered_by cmp matching ps g)
    unfolding altered_by
    altered_by-append [] qs g = refl
    altered_by-append (Alter change ∷ ps) qs g = altered_by-append ps qs (change g)
    altered_by-append (Say rule ∷ ps) qs g = altered_by-append ps qs g

    altered_exchanged : (P : Message K → Type 0) (parts : List (Part K)) (ss : Sends K) (g : Rows K) → Each (IsExchanged P) parts → Each (λ s. P s.1) ss → rows_heard cmp ss (altered_by cmp matching parts g) ≡ altered_by cmp matching parts (rows_heard cmp ss g)
    unfolding altered_by
    altered_exchanged P [] ss g exchanged all = refl
    altered_exchanged P (Alter change ∷ parts) ss g exchanged all = altered_exchanged P parts ss (change g) exchanged.1 all ∙ ap (altered_by cmp matching parts) (exchanged.0 ss g all)
    altered_exchanged P (Say rule ∷ parts) ss g exchanged all = altered_exchanged P parts ss g exchanged.1 all

    -- What parts leave is what they run to, where each change may wait for what is said before it.
    pub carried_is_ran : (P : Message K → Type 0) (parts : List (Part K)) (g : Rows K) → Each (IsExchanged P) parts → carried cmp matching parts g ≡ ran cmp parts g
    unfolding said_by altered_by ran
    carried_is_ran P [] g exchanged = rows_heard_nothing cmp g
    carried_is_ran P (Alter change ∷ parts) g exchanged = carried_is_ran P parts (change g) exchanged.1
    carried_is_ran P (Say rule ∷ parts) g exchanged =
        let h = rows_heard cmp (rule g) g in
        rows_heard-append cmp (rule g) (said_by cmp matching parts h) (altered_by cmp matching parts g)
        ∙ ap (rows_heard cmp (said_by cmp matching parts h)) (altered_exchanged P parts (rule g) g exchanged.1 (exchanged.0 g))
        ∙ carried_is_ran P parts h exchanged.1

    -- a part that changes nothing
    abbrev pub SaysOnly : Part K → Type 0
    SaysOnly (Alter change) = ⊥
    SaysOnly (Say rule) = Unit {0}

    pub nothing_altered : (parts : List (Part K)) (g : Rows K) → Each SaysOnly parts → altered_by cmp matching parts g ≡ g
    unfolding altered_by
    nothing_altered [] g says = refl
    nothing_altered (Alter change ∷ parts) g says = absurd says.0
    nothing_altered (Say rule ∷ parts) g says = nothing_altered parts g says.1

    pub said_is_ran : (parts : List (Part K)) (g : Rows K) → Each SaysOnly parts → rows_heard cmp (said_by cmp matching parts g) g ≡ ran cmp parts g
    unfolding said_by ran
    said_is_ran [] g says = rows_heard_nothing cmp g
    said_is_ran (Alter change ∷ parts) g says = absurd says.0
    said_is_ran (Say rule ∷ parts) g says =
        let h = rows_heard cmp (rule g) g in
        rows_heard-append cmp (rule g) (said_by cmp matching parts h) g ∙ said_is_ran parts h says.1

    -- and so is what parts leave, and then others that only say something
    pub carried_then_says : (P : Message K → Type 0) (ps qs : List (Part K)) (g : Rows K) → Each (IsExchanged P) ps → Each SaysOnly qs → carried cmp matching (ps ++ qs) g ≡ ran cmp (ps ++ qs) g
    carried_then_says P ps qs g exchanged says =
        let h = ran cmp ps g in
        ap (λ ss. rows_heard cmp ss (altered_by cmp matching (ps ++ qs) g)) (said_by-append ps qs g)
        ∙ ap (rows_heard cmp (said_by cmp matching ps g ++ said_by cmp matching qs h)) (altered_by-append ps qs g ∙ nothing_altered qs (altered_by cmp matching ps g) says)
        ∙ rows_heard-append cmp (said_by cmp matching ps g) (said_by cmp matching qs h) (altered_by cmp matching ps g)
        ∙ ap (rows_heard cmp (said_by cmp matching qs h)) (carried_is_ran P ps g exchanged)
        ∙ said_is_ran qs h says
        ∙ sym (ran-append ps qs g)
