-- How pieces of work join.
use Rattle.std.proofs.Common.{◌≡◌, ℕ, Bool, List, [], ◌∷◌, ◌++◌, Option, Some, None, append_assoc, ap, drop, eq-eqb, filter, get_or, length, map, subst, ◌+◌, ◌<◌, ◌≤◌, not, refl, sym, ◌==◌, ◌∙◌}
use Rattle.std.proofs.lemmas.List.{append-nil, drop_all}
use Rattle.std.specs.List.{flat_map}
use Rattle.zt_state.proofs.Walks.{drop_item}
use Rattle.std.specs.declared.cmp.Ordering.{Ordering}
use Rattle.zt_theorem_soundness.proofs.Running.{ran-append}
use Rattle.zt_theorem_soundness.specs.Ran.{ran}
use Rattle.zt_model.specs.Hearing.{heard_all, messages_for, rows_heard}
use Rattle.zt_model.specs.Parts.{Alter, Part, Say, Sends, find_face, said_by, to_face, unsaid_to}
use Rattle.zt_model.specs.Rows.{Face, Rows}
use Rattle.zt_protocol.specs.declared.messages.Message.{Message}
use Rattle.zt_calls.specs.declared.speech.Speech.{Speech}
use Rattle.zt_calls.specs.Does.{Does, spoken}

unsaid-append : {K : Type 0} (n : ℕ) (ps qs : List (Part K)) → unsaid_to n (ps ++ qs) ≡ unsaid_to n ps ++ unsaid_to n qs
unfolding unsaid_to
unsaid-append n [] qs = refl
unsaid-append n (Alter change ∷ ps) qs = ap (λ rest. Alter change ∷ rest) (unsaid-append n ps qs)
unsaid-append n (Say rule ∷ ps) qs = ap (λ rest. Say (λ g. filter (λ s. not (n == s.0)) (rule g)) ∷ rest) (unsaid-append n ps qs)

spoken-append : {K : Type 0} (spared : Option ℕ) (ps qs : List (Part K)) → spoken spared (ps ++ qs) ≡ spoken spared ps ++ spoken spared qs
spoken-append None ps qs = refl
spoken-append (Some n) ps qs = unsaid-append n ps qs

-- what is heard of what is said, where a face may be spared
abbrev pub heard_of : {K : Type 0} → Option ℕ → Sends K → Sends K
heard_of None ss = ss
heard_of (Some n) ss = filter (λ s. not (n == s.0)) ss

map_same : {A : Type 0} (xs : List A) → map (λ x. x) xs ≡ xs
map_same [] = refl
map_same (x ∷ xs) = ap (λ ys. x ∷ ys) (map_same xs)

-- where nothing is said nothing changes
none-heard : {K : Type 0} (cmp : K → K → Ordering) (g : Rows K) → rows_heard cmp [] g ≡ g
unfolding rows_heard messages_for heard_all
none-heard {K} cmp g = ap (λ (fs : List (Face K)). record g { faces = fs }) (map_same g.faces)

-- nothing is heard of what is said to the face that is spared
none-of : {M : Type 0} (n : ℕ) (ms : List M) → filter (λ (s : ℕ × M). not (n == s.0)) (map (λ m. (n, m)) ms) ≡ []
none-of n [] = refl
none-of n (m ∷ ms) = rw (eq-eqb n n refl) (none-of n ms)

none-heard-of : {K : Type 0} (n : ℕ) (rule : Face K → List (Message K)) (g : Rows K) → heard_of (Some n) (to_face n rule g) ≡ []
unfolding to_face
none-heard-of {K} n rule g =
    elim (find_face n g) as (λ f. filter (λ (s : ℕ × Message K). not (n == s.0)) (elim f [ None ↦ [] | Some f ↦ map (λ m. (n, m)) (rule f) ]) ≡ []) [ None ↦ refl | Some f ↦ none-of n (rule f) ]

module _ {K : Type 0} (cmp : K → K → Ordering) (matching : K → K → Bool) where
  said-append : (ps qs : List (Part K)) (g : Rows K) → said_by cmp matching (ps ++ qs) g ≡ said_by cmp matching ps g ++ said_by cmp matching qs (ran cmp ps g)
  unfolding said_by ran
  said-append [] qs g = refl
  said-append (Alter change ∷ ps) qs g = said-append ps qs (change g)
  said-append (Say rule ∷ ps) qs g =
      ap (λ more. rule g ++ more) (said-append ps qs (rows_heard cmp (rule g) g))
      ∙ sym (append_assoc (rule g) (said_by cmp matching ps (rows_heard cmp (rule g) g)) (said_by cmp matching qs (ran cmp ps (rows_heard cmp (rule g) g))))

module _ {K : Type 0} {cmp : K → K → Ordering} {matching : K → K → Bool} where
  -- a change is made
  pub does-alter : (change : Rows K → Rows K) {g h : Rows K} {s : Speech K} → h ≡ change g → Does cmp matching (Alter change ∷ []) g h s s
  unfolding ran said_by unsaid_to
  does-alter change {g} {h} {s} changed = at_spared s.spared refl
    where
      at_spared : (spared : Option ℕ) → s.spared ≡ spared → Does cmp matching (Alter change ∷ []) g h s s
      at_spared None is = record { spared = refl; rows = rw is changed; said = rw is (sym (append-nil s.said.items)) }
      at_spared (Some n) is = record { spared = refl; rows = rw is changed; said = rw is (sym (append-nil s.said.items)) }

  -- one piece of work and then another
  pub does-both : {ps qs : List (Part K)} {g h k : Rows K} {s t u : Speech K} → Does cmp matching ps g h s t → Does cmp matching qs h k t u → Does cmp matching (ps ++ qs) g k s u
  does-both {ps} {qs} {g} {h} {k} {s} {t} {u} one two =
      let first = spoken s.spared ps in
      let second = spoken s.spared qs in
      let both = spoken-append s.spared ps qs in
      let rows_of_two : k ≡ ran cmp second (ran cmp first g) =
      two.rows ∙ ap (λ spared. ran cmp (spoken spared qs) h) one.spared ∙ ap (ran cmp second) one.rows in
      let said_of_two : u.said.items ≡ t.said.items ++ said_by cmp matching second (ran cmp first g) =
      two.said ∙ ap (λ spared. t.said.items ++ said_by cmp matching (spoken spared qs) h) one.spared ∙ ap (λ rows. t.said.items ++ said_by cmp matching second rows) one.rows in
      record {
        spared = two.spared ∙ one.spared;
        rows = rows_of_two ∙ sym (ran-append cmp first second g) ∙ ap (λ parts. ran cmp parts g) (sym both);
        said =
            said_of_two
            ∙ ap (λ said. said ++ said_by cmp matching second (ran cmp first g)) one.said
            ∙ append_assoc s.said.items (said_by cmp matching first g) (said_by cmp matching second (ran cmp first g))
            ∙ ap (λ more. s.said.items ++ more) (sym (said-append cmp matching first second g))
            ∙ ap (λ parts. s.said.items ++ said_by cmp matching parts g) (sym both);
      }

module _ {K : Type 0} (cmp : K → K → Ordering) (matching : K → K → Bool) where
  -- nothing is done
  pub does-nothing : (g : Rows K) (s : Speech K) → Does cmp matching [] g g s s
  unfolding ran said_by unsaid_to
  does-nothing g s = at_spared s.spared refl
    where
      at_spared : (spared : Option ℕ) → s.spared ≡ spared → Does cmp matching [] g g s s
      at_spared None is = record { spared = refl; rows = rw is refl; said = rw is (sym (append-nil s.said.items)) }
      at_spared (Some n) is = record { spared = refl; rows = rw is refl; said = rw is (sym (append-nil s.said.items)) }

  -- messages are said and heard
  pub does-say : (rule : Rows K → Sends K) (g h : Rows K) (s t : Speech K) (ss : Sends K) → ss ≡ heard_of s.spared (rule g) → t.spared ≡ s.spared → h ≡ rows_heard cmp ss g → t.said.items ≡ s.said.items ++ ss
      → Does cmp matching (Say rule ∷ []) g h s t
  unfolding ran said_by unsaid_to
  does-say rule g h s t ss heard same_ rows said = at_spared s.spared refl
    where
      at_spared : (spared : Option ℕ) → s.spared ≡ spared → Does cmp matching (Say rule ∷ []) g h s t
      at_spared None is =
          let all = rw is at heard in
          record { spared = same_; rows = rw is (rows ∙ ap (λ sends. rows_heard cmp sends g) all); said = rw is (said ∙ ap (λ sends. s.said.items ++ sends) (all ∙ sym (append-nil (rule g)))) }
      at_spared (Some n) is =
          let others = rw is at heard in
          record { spared = same_; rows = rw is (rows ∙ ap (λ sends. rows_heard cmp sends g) others); said = rw is (said ∙ ap (λ sends. s.said.items ++ sends) (others ∙ sym (append-nil (heard_of (Some n) (rule g))))) }

  -- what is said to the face that is spared isn't said
  pub does-unsaid : (n : ℕ) (rule : Rows K → Face K → List (Message K)) (g : Rows K) (s : Speech K) → s.spared ≡ Some n → Does cmp matching (Say (λ h. to_face n (rule h) h) ∷ []) g g s s
  does-unsaid n rule g s spared =
      does-say (λ h. to_face n (rule h) h) g g s s []
      (rw spared (sym (none-heard-of n (rule g) g))) refl (sym (none-heard cmp g)) (sym (append-nil s.said.items))

  -- ---- one piece of work for each of a list

  -- whatever does the pieces left has done all of them
  pub Leads : {A : Type 0} (work : A → List (Part K)) (xs : List A) (i : ℕ) (g h : Rows K) (s t : Speech K) → Type 0
  Leads work xs i g h s t = (k : Rows K) (u : Speech K) → Does cmp matching (flat_map work (drop i xs)) h k t u → Does cmp matching (flat_map work xs) g k s u

  pub leads-more : {A : Type 0} (work : A → List (Part K)) (xs : List A) (i : ℕ) (x : A) (g h k : Rows K) (s t u : Speech K) → i < length xs → x ≡ get_or xs i x
      → Leads work xs i g h s t → Does cmp matching (work x) h k t u → Leads work xs (i + 1) g k s u
  unfolding Leads
  leads-more work xs i x g h k s t u within is leads one =
      λ last end rest. leads last end
      (subst (λ ys. Does cmp matching (flat_map work ys) h last t end) (sym (drop_item xs i x within is))
      (does-both one rest))

  pub leads-done : {A : Type 0} (work : A → List (Part K)) (xs : List A) (i : ℕ) (g h : Rows K) (s t : Speech K) → length xs ≤ i → Leads work xs i g h s t → Does cmp matching (flat_map work xs) g h s t
  unfolding Leads
  leads-done work xs i g h s t past leads =
      leads h t (subst (λ ys. Does cmp matching (flat_map work ys) h h t t) (sym (drop_all i xs past)) (does-nothing h t))

  pub leads-all : {A : Type 0} (work : A → List (Part K)) (xs : List A) (g : Rows K) (s : Speech K) → Leads work xs 0 g g s s
  unfolding Leads
  leads-all work xs g s = λ k u all. all

  -- ---- one piece of work for each row of a map

  -- whatever does the pieces left has done all of them
  pub LeadsOver : {A : Type 0} (work : A → List (Part K)) (xs left : List A) (g h : Rows K) (s t : Speech K) → Type 0
  LeadsOver work xs left g h s t = (k : Rows K) (u : Speech K) → Does cmp matching (flat_map work left) h k t u → Does cmp matching (flat_map work xs) g k s u

  pub leads_over-more : {A : Type 0} (work : A → List (Part K)) (xs left later : List A) (x : A) (g h k : Rows K) (s t u : Speech K) → left ≡ x ∷ later
      → LeadsOver work xs left g h s t → Does cmp matching (work x) h k t u → LeadsOver work xs later g k s u
  unfolding LeadsOver
  leads_over-more work xs left later x g h k s t u first leads one =
      λ last end rest. leads last end
      (subst (λ ys. Does cmp matching (flat_map work ys) h last t end) (sym first) (does-both one rest))

  pub leads_over-done : {A : Type 0} (work : A → List (Part K)) (xs left : List A) (g h : Rows K) (s t : Speech K) → left ≡ [] → LeadsOver work xs left g h s t → Does cmp matching (flat_map work xs) g h s t
  unfolding LeadsOver
  leads_over-done work xs left g h s t past leads = leads h t (subst (λ ys. Does cmp matching (flat_map work ys) h h t t) (sym past) (does-nothing h t))

  pub leads_over-all : {A : Type 0} (work : A → List (Part K)) (xs left : List A) (g : Rows K) (s : Speech K) → left ≡ xs → LeadsOver work xs left g g s s
  unfolding LeadsOver
  leads_over-all work xs left g s whole = λ k u all. subst (λ ys. Does cmp matching (flat_map work ys) g k s u) whole all

  -- ---- what isn't said to a face

  -- work during which a face is spared
  pub does-sparing : (n : ℕ) (ps : List (Part K)) (g h : Rows K) (s t : Speech K) → s.spared ≡ None → Does cmp matching ps g h (record s { spared = Some n }) t → Does cmp matching (unsaid_to n ps) g h s (record t { spared = None })
  does-sparing n ps g h s t none done = record {
    spared = sym none;
    rows = done.rows ∙ ap (λ spared. ran cmp (spoken spared (unsaid_to n ps)) g) (sym none);
    said = done.said ∙ ap (λ spared. s.said.items ++ said_by cmp matching (spoken spared (unsaid_to n ps)) g) (sym none);
  }
