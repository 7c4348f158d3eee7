-- A face that isn't open is sent nothing, and one that is closed is sent nothing then.
use Rattle.std.proofs.Common.{◌≡◌, ℕ, Bool, true, false, if◌then◌else◌, ◌==◌, not, List, [], ◌∷◌, filter, Option, Some, None, refl, sym, ap, ◌∙◌, subst, eqb-true, eq-eqb}
use Rattle.std.specs.declared.cmp.Ordering.{Ordering}
use Rattle.zt_region.specs.declared.region.Region.{Region}
use Rattle.zt_protocol.specs.Plain.{PlainCall, NewSession, NewTransport, DeclareToken, UndeclareToken, Interest, InterestFinal, DeclareFinal, CloseFace, Expire, SetTrees, SetEntities}
use Rattle.zt_protocol.specs.declared.messages.Message.{Message}
use Rattle.zt_model.specs.Closing.{closing, leaving, without_asks, without_face}
use Rattle.zt_model.specs.Entities.{entities_for, entity_expressions, numbered_by, with_numbers}
use Rattle.zt_model.specs.Hearing.{heard_all, messages_for, rows_heard}
use Rattle.zt_model.specs.Lists.{first_where}
use Rattle.zt_model.specs.Parts.{Alter, Part, Say, Sends, find_face, is_routed, said_by, to_each, to_face, unsaid_to, with_face}
use Rattle.zt_model.specs.Routing.{asked_as, end_upstream_to, ended, final_of, final_of_both, finish_to, initial_finalised, route_to, sent_as, unheld, untell_to}
use Rattle.zt_model.specs.Rows.{Face, Rows}
use Rattle.zt_model.specs.Says.{forget_to, parts_of, row_of, said, tell_to}
use Rattle.zt_model.specs.Telling.{answer_to, answers_of, registered, unregistered}
use Rattle.zt_model.specs.Transcript.{Each}
use Rattle.zt_model.specs.Trees.{counted_table, greet_to, hide_to, is_newly_shown, router_regions, show_to, with_own_rows, with_routed, with_table, without_left_out, without_own_rows}
use Rattle.zt_laws.specs.Sound.{opens_face}
use Rattle.zt_laws.proofs.Hearing.{heard_all-number}
use Rattle.zt_laws.proofs.Lists.{by_test, each_append, each_filter, each_map, each_passes, each_weaker, never, of_cond}
use Rattle.zt_laws.proofs.PartsOrder.{said_by_last}
use Rattle.zt_theorem_tree_invariant.proofs.Saying.{TreeRows}
use Rattle.zt_theorem_tree_all_that_stays.proofs.Carrying.{expires}
use Rattle.zt_theorem_tree_all_that_stays.proofs.Parts.{AreFine, Forgets, IsFine, To, close_fine, declare_fine, each_to, entities_fine, final_fine, finish_fine, interest_fine, one_to, sent_to, trees_fine, undeclare_fine}

-- all lists of nothing are empty
pub nothing_is : {A : Type 0} (xs : List A) → Each (λ x. ⊥) xs → xs ≡ []
nothing_is [] all = refl
nothing_is (x ∷ xs) all = absurd all.0

module _ {K : Type 0} (cmp : K → K → Ordering) (matching : K → K → Bool) (n : ℕ) where
  abbrev None_ : Message K → Type 0
  None_ m = ⊥

  -- no face has the number
  abbrev pub IsAbsent : Rows K → Type 0
  IsAbsent g = Each (λ f. (n == f.number) ≡ false) g.faces

  abbrev Fine : Part K → Type 0
  Fine = IsFine cmp matching IsAbsent (To n None_)

  by_each : (rule : Rows K → Face K → List (Message K)) → Fine (Say (λ g. to_each (rule g) g.faces))
  by_each rule = λ g absent. each_to n None_ (rule g) g.faces (each_weaker (λ (f : Face K). (n == f.number) ≡ false) (λ f. (n == f.number) ≡ true → Each None_ (rule g f)) (λ f no_ own. never own no_) g.faces absent)

  by_one : (k : ℕ) (rule : Rows K → Face K → List (Message K)) → Fine (Say (λ g. to_face k (rule g) g))
  by_one k rule = λ g absent.
      one_to n None_ k (rule g) g
      (each_weaker (λ (f : Face K). (n == f.number) ≡ false) (λ f. (k == f.number) ≡ true → (n == k) ≡ true → Each None_ (rule g f)) (λ f no_ here own. never (ap (λ j. j == f.number) (eqb-true n k own) ∙ here) no_) g.faces absent)

  absent_heard : (ss : Sends K) (g : Rows K) → IsAbsent g → Each (To n None_) ss → IsAbsent (rows_heard cmp ss g)
  unfolding rows_heard
  absent_heard ss g absent said_ =
      each_map (λ (f : Face K). (n == f.number) ≡ false) (λ f. heard_all cmp g.moment (messages_for f.number ss) f) g.faces
      (each_weaker (λ (f : Face K). (n == f.number) ≡ false) (λ f. (n == (heard_all cmp g.moment (messages_for f.number ss) f).number) ≡ false) (λ f no_. ap (λ k. n == k) (heard_all-number cmp g.moment (messages_for f.number ss) f) ∙ no_) g.faces absent)

  changed : (k : ℕ) (change : Face K → Face K) → ((f : Face K) → (change f).number ≡ f.number) → Fine (Alter (with_face k change))
  unfolding with_face
  changed k change still = λ g absent.
      each_map (λ (f : Face K). (n == f.number) ≡ false) (λ f. if k == f.number then change f else f) g.faces
      (each_weaker (λ (f : Face K). (n == f.number) ≡ false) (λ f. (n == (if k == f.number then change f else f).number) ≡ false) (λ f no_. of_cond (λ (h : Face K). (n == h.number) ≡ false) (k == f.number) (change f) f (λ _. ap (λ j. n == j) (still f) ∙ no_) (λ _. no_)) g.faces absent)

  beside : (change : Rows K → Rows K) → ((g : Rows K) → (change g).faces ≡ g.faces) → Fine (Alter change)
  beside change faces_ = λ g absent. subst (λ (fs : List (Face K)). Each (λ f. (n == f.number) ≡ false) fs) (sym (faces_ g)) absent

  own_rows_faces : (rs : List Region) (x : K) (g : Rows K) → (with_own_rows cmp rs x g).faces ≡ g.faces
  unfolding with_own_rows with_routed
  own_rows_faces [] x g = refl
  own_rows_faces (r ∷ rs) x g = own_rows_faces rs x (with_routed cmp r g.zid x g)

  hides_rows : (source : Region) (x : K) → Fine (Alter (without_own_rows cmp source x))
  unfolding without_own_rows
  hides_rows source x = beside (without_own_rows cmp source x) (λ g. refl)

  rules : (k : ℕ) → AreFine cmp matching IsAbsent (To n None_) k
  rules k = record {
    hear = absent_heard;
    tell = λ source x. by_each (λ g f. tell_to cmp matching g source x f);
    answer = λ j i x. by_each (λ g f. answer_to cmp matching j i x f);
    end_upstream = λ interest. by_each (λ g f. end_upstream_to cmp matching g interest f);
    show = λ source x. by_each (λ g f. show_to cmp g source x f);
    hide = λ source x. by_each (λ g f. hide_to cmp g source x f);
    finish = λ j i. by_each (λ g f. finish_to g j i f);
    untell = by_one k (untell_to cmp matching);
    initial = λ i. changed k (initial_finalised i) (λ f. refl);
    shown = λ source x. beside (λ g. with_own_rows cmp (filter (is_newly_shown cmp g source x) (router_regions g)) x g) (λ g. own_rows_faces (filter (is_newly_shown cmp g source x) (router_regions g)) x g);
    hidden = hides_rows;
  }

  forgets : Forgets cmp matching IsAbsent (To n None_)
  forgets source x = by_each (λ g f. forget_to cmp matching g source x f)

  pub absent_said : (c : PlainCall K) (g : Rows K) → TreeRows cmp g → opens_face c ≡ false → expires c ≡ false → IsAbsent g → Each (To n None_) (said cmp matching c g)
  absent_said (DeclareToken k id x node interest) g rows still timeless absent = (declare_fine cmp matching IsAbsent (To n None_) k (rules k) id node x interest g rows (changed k (registered id x) (λ f. refl)) absent).0
  absent_said (UndeclareToken k id given node) g rows still timeless absent = (undeclare_fine cmp matching IsAbsent (To n None_) k (rules k) id node given g rows forgets absent (changed k (unregistered id) (λ f. refl) g absent)).0
  absent_said (Interest k id mode options x) g rows still timeless absent =
      (interest_fine cmp matching IsAbsent (To n None_) k (rules k) id mode options x g
      (λ f found.
      let i = row_of cmp matching f mode options x in (
        beside (with_numbers cmp (numbered_by cmp i)) (λ g. refl),
        (
          by_each (λ g h. route_to g f.region i h),
          (by_one k (λ g h. entities_for cmp matching g id i h), (changed k (asked_as (sent_as g f.region mode) id i) (λ f. refl), (by_one k (λ g h. answers_of cmp matching g id i h), (by_one k (λ g h. final_of id h), tt)))),
        ),
      )) absent).0
  absent_said (InterestFinal k id) g rows still timeless absent = (final_fine cmp matching IsAbsent (To n None_) k (rules k) id g (changed k (unheld id) (λ f. refl)) (λ interest. by_one k (λ g f. final_of_both id interest f)) absent).0
  absent_said (DeclareFinal k id) g rows still timeless absent = (finish_fine cmp matching IsAbsent (To n None_) k (rules k) id g (changed k (ended id) (λ f. refl)) absent).0
  absent_said (CloseFace k) g rows still timeless absent =
      (close_fine cmp matching IsAbsent (To n None_) k (rules k) g forgets (λ id. changed k (unregistered id) (λ f. refl)) (λ id. changed k (unheld id) (λ f. refl)) (λ id interest. by_one k (λ g f. final_of_both id interest f)) (changed k without_asks (λ f. refl)) (λ id. changed k (ended id) (λ f. refl))
      (λ g absent_. each_filter (λ (f : Face K). (n == f.number) ≡ false) (λ f. not (k == f.number)) g.faces absent_) absent).0
  absent_said (SetTrees region t) g rows still timeless absent =
      (trees_fine cmp matching IsAbsent (To n None_) 0 (rules 0) region t g forgets (beside (without_left_out cmp region (counted_table t)) (λ g. refl)) (beside (with_table cmp region t) (λ g. refl)) (λ before. by_each (λ g f. greet_to cmp g region before f)) absent).0
  absent_said (SetEntities k subscribers queryables) g rows still timeless absent =
      (entities_fine cmp matching IsAbsent (To n None_) k (rules k) subscribers queryables g (λ g absent_. changed k (λ f. record f { subscribers = subscribers; queryables = queryables }) (λ f. refl) (with_numbers cmp (entity_expressions cmp subscribers queryables) g) absent_) absent).0
  absent_said (NewSession first) g rows still timeless absent = never refl still
  absent_said (NewTransport zid whatami region bound first) g rows still timeless absent = never refl still
  absent_said (Expire now) g rows still timeless absent = never refl timeless

  -- ---- closing

  unsaid_none : (parts : List (Part K)) (g : Rows K) → Each (To n None_) (said_by cmp matching (unsaid_to n parts) g)
  unfolding unsaid_to said_by
  unsaid_none [] g = tt
  unsaid_none (Alter change ∷ parts) g = unsaid_none parts (change g)
  unsaid_none (Say rule ∷ parts) g =
      let ss = filter (λ s. not (n == s.0)) (rule g) in
      each_append (To n None_) ss (said_by cmp matching (unsaid_to n parts) (rows_heard cmp ss g))
      (each_weaker (λ (s : ℕ × Message K). not (n == s.0) ≡ true) (To n None_) (λ s passes own. never passes (ap not own)) ss (each_passes (λ (s : ℕ × Message K). not (n == s.0)) (rule g))) (unsaid_none parts (rows_heard cmp ss g))

  pub closed_said : (g : Rows K) → Each (To n None_) (said cmp matching (CloseFace n) g)
  unfolding parts_of said_by
  closed_said g = by_found (find_face n g)
    where
      by_found : (o : Option (Face K)) → Each (To n None_) (said_by cmp matching (elim o [ None ↦ [] | Some f ↦ closing cmp matching n g f ]) g)
      by_found None = tt
      by_found (Some f) =
          let parts : List (Part K) = if is_routed g f then [] else unsaid_to n (leaving cmp matching n f) in
          subst (Each (To n None_)) (sym (said_by_last cmp matching parts (without_face n) g)) (of_cond (λ (ps : List (Part K)). Each (To n None_) (said_by cmp matching ps g)) (is_routed g f) [] (unsaid_to n (leaving cmp matching n f)) (λ _. tt) (λ _. unsaid_none (leaving cmp matching n f) g))

  pub absent_of : (fs : List (Face K)) → first_where (λ f. n == f.number) fs ≡ None → Each (λ f. (n == f.number) ≡ false) fs
  absent_of [] none_ = tt
  absent_of (f ∷ fs) none_ = by_test (n == f.number) (λ here. let bad : Some f ≡ None = rw here at none_ in cc) (λ apart. (apart, absent_of fs (rw apart at none_)))

  -- what is sent to it
  pub sent_none : (ss : Sends K) → Each (To n None_) ss → messages_for n ss ≡ []
  sent_none ss all = nothing_is (messages_for n ss) (sent_to n None_ n ss (eq-eqb n n refl) all)
