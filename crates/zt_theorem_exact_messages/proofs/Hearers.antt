-- Of a face, what an undeclaration by expression goes by: what the face keeps and holds, and whether it hears by trees; and
-- how that changes while messages are heard.
use Rattle.std.proofs.Common.{◌≡◌, ℕ, Bool, true, false, ◌==◌, ◌&&◌, ◌||◌, not, List, [], ◌∷◌, ◌++◌, map, filter, Some, None, refl, sym, ap, ◌∙◌, subst, eq-eqb}
use Rattle.std.proofs.lemmas.Bool.{and_from, or_left, or_right}
use Rattle.std.specs.List.{list_any}
use Rattle.std.specs.declared.cmp.Ordering.{Ordering}
use Rattle.zt_protocol.specs.declared.messages.Message.{Message}
use Rattle.zt_protocol.specs.declared.messages.Message.TheVariants as message
use Rattle.zt_model.specs.Hearing.{heard, heard_all, messages_for, rows_heard, told_pair, untold}
use Rattle.zt_model.specs.Lists.{same}
use Rattle.zt_model.specs.Rows.{ById, Face, InterestRow, Rows}
use Rattle.zt_model.specs.Says.{Sends, is_routed}
use Rattle.zt_model.specs.Transcript.{Each}
use Rattle.zt_model.specs.Visible.{keeps}
use Rattle.zt_model.specs.Wants.{asks_token, wants}
use Rattle.zt_laws.proofs.Hearing.{heard_all-number, messages_for-append}
use Rattle.zt_laws.proofs.Lists.{by_test, each_always, each_both, map-map, map_alike}
use Rattle.zt_laws.proofs.PartsOrder.{each_message_for, each_of_map}
use Rattle.zt_laws.proofs.Seen.{interested_is}
use Rattle.zt_theorem_exact_messages.specs.Undeclared.{AreForWhoWants, is_for_who_wants}

-- of a face, what undeclarations by expression go by
pub record Hearer (K : Type 0) : Type 0 where
  pub number : ℕ
  pub routed : Bool
  pub told : ById K
  pub held : ById (InterestRow K)

abbrev pub hearer_of : {K : Type 0} → Rows K → Face K → Hearer K
hearer_of g f = record { number = f.number; routed = is_routed g f; told = f.told; held = f.held }

-- the hearers of a gateway whose numbers pass a test
abbrev pub hearers : {K : Type 0} → (ℕ → Bool) → Rows K → List (Hearer K)
hearers p g = map (hearer_of g) (filter (λ f. p f.number) g.faces)

-- what is chosen by a part that a change leaves
pub filter_map : {A B : Type 0} (p : B → Bool) (q : A → Bool) (f : A → B) (xs : List A) → ((x : A) → p (f x) ≡ q x) → filter p (map f xs) ≡ map f (filter q xs)
filter_map p q f [] same_ = refl
filter_map p q f (x ∷ xs) same_ =
    let test_ = same_ x in
    by_test (q x)
    (λ here. let there : p (f x) ≡ true = test_ ∙ here in rw (here, there) (ap (λ ys. f x ∷ ys) (filter_map p q f xs same_)))
    (λ here. let there : p (f x) ≡ false = test_ ∙ here in rw (here, there) (filter_map p q f xs same_))

module _ {K : Type 0} (cmp : K → K → Ordering) (matching : K → K → Bool) where
  -- what a hearer keeps after a message
  abbrev hears_one : Message K → Hearer K → Hearer K
  hears_one (message.DeclareToken id e interest node) v = record v { told = told_pair cmp id e v.told }
  hears_one (message.UndeclareToken id e node) v = record v { told = untold cmp id e v.told }
  hears_one m v = v

  abbrev pub hears_all : List (Message K) → Hearer K → Hearer K
  hears_all [] v = v
  hears_all (m ∷ ms) v = hears_all ms (hears_one m v)

  after_heard : (now : ℕ) (g : Rows K) (m : Message K) (f : Face K) → hearer_of g (heard cmp now m f) ≡ hears_one m (hearer_of g f)
  after_heard now g (message.DeclareToken id e interest node) f = refl
  after_heard now g (message.UndeclareToken id e node) f = refl
  after_heard now g (message.DeclareFinal interest) f = refl
  after_heard now g (message.Interest id mode options e) f = refl
  after_heard now g (message.InterestFinal id) f = refl
  after_heard now g (message.DeclareSubscriber id e interest) f = refl
  after_heard now g (message.DeclareQueryable id e info interest) f = refl

  pub after_heard_all : (now : ℕ) (g : Rows K) (ms : List (Message K)) (f : Face K) → hearer_of g (heard_all cmp now ms f) ≡ hears_all ms (hearer_of g f)
  unfolding heard_all
  after_heard_all now g [] f = refl
  after_heard_all now g (m ∷ ms) f = after_heard_all now g ms (heard cmp now m f) ∙ ap (hears_all ms) (after_heard now g m f)

  one-number : (m : Message K) (v : Hearer K) → (hears_one m v).number ≡ v.number
  one-number (message.DeclareToken id e interest node) v = refl
  one-number (message.UndeclareToken id e node) v = refl
  one-number (message.DeclareFinal interest) v = refl
  one-number (message.Interest id mode options e) v = refl
  one-number (message.InterestFinal id) v = refl
  one-number (message.DeclareSubscriber id e interest) v = refl
  one-number (message.DeclareQueryable id e info interest) v = refl

  all-number : (ms : List (Message K)) (v : Hearer K) → (hears_all ms v).number ≡ v.number
  all-number [] v = refl
  all-number (m ∷ ms) v = all-number ms (hears_one m v) ∙ one-number m v

  one-routed : (m : Message K) (v : Hearer K) → (hears_one m v).routed ≡ v.routed
  one-routed (message.DeclareToken id e interest node) v = refl
  one-routed (message.UndeclareToken id e node) v = refl
  one-routed (message.DeclareFinal interest) v = refl
  one-routed (message.Interest id mode options e) v = refl
  one-routed (message.InterestFinal id) v = refl
  one-routed (message.DeclareSubscriber id e interest) v = refl
  one-routed (message.DeclareQueryable id e info interest) v = refl

  -- ---- undeclarations that are right

  abbrev is_right : Message K → Hearer K → Bool
  is_right (message.UndeclareToken id (Some e) node) v =
      (id == 0) && (v.routed || (list_any (λ row. asks_token matching row.1 e) v.held && not (list_any (λ row. same cmp e row.1) v.told)))
  is_right m v = true

  abbrev pub Right : List (Message K) → Hearer K → Type 0
  Right [] v = Unit {0}
  Right (m ∷ ms) v = (is_right m v ≡ true) × Right ms (hears_one m v)

  one_for_who_wants : (g : Rows K) (m : Message K) (f : Face K) → is_right m (hearer_of g f) ≡ true → is_for_who_wants cmp matching g m f ≡ true
  unfolding wants
  one_for_who_wants g (message.UndeclareToken id (Some e) node) f right = ap (λ b. (id == 0) && (is_routed g f || (b && not (keeps cmp f e)))) (interested_is matching f e) ∙ right
  one_for_who_wants g (message.UndeclareToken id None node) f right = refl
  one_for_who_wants g (message.DeclareToken id e interest node) f right = refl
  one_for_who_wants g (message.DeclareFinal interest) f right = refl
  one_for_who_wants g (message.Interest id mode options e) f right = refl
  one_for_who_wants g (message.InterestFinal id) f right = refl
  one_for_who_wants g (message.DeclareSubscriber id e interest) f right = refl
  one_for_who_wants g (message.DeclareQueryable id e info interest) f right = refl

  pub for_who_wants : (g : Rows K) (ms : List (Message K)) (f : Face K) → Right ms (hearer_of g f) → AreForWhoWants cmp matching g ms f
  for_who_wants g [] f right = tt
  for_who_wants g (m ∷ ms) f right = (one_for_who_wants g m f right.0, for_who_wants g ms (heard cmp 0 m f) (subst (Right ms) (sym (after_heard 0 g m f)) right.1))

  pub right_then : (ms ns : List (Message K)) (v : Hearer K) → Right ms v → Right ns (hears_all ms v) → Right (ms ++ ns) v
  right_then [] ns v one two = two
  right_then (m ∷ ms) ns v one two = (one.0, right_then ms ns (hears_one m v) one.1 two)

  -- the message is no undeclaration by expression
  abbrev pub NamesNone : Message K → Type 0
  NamesNone (message.UndeclareToken id (Some e) node) = ⊥
  NamesNone m = Unit {0}

  pub right_if_none : (ms : List (Message K)) (v : Hearer K) → Each NamesNone ms → Right ms v
  right_if_none [] v none_ = tt
  right_if_none (m ∷ ms) v none_ = (one m none_.0, right_if_none ms (hears_one m v) none_.1)
    where
      one : (m : Message K) → NamesNone m → is_right m v ≡ true
      one (message.UndeclareToken id (Some e) node) none_ = absurd none_
      one (message.UndeclareToken id None node) none_ = refl
      one (message.DeclareToken id e interest node) none_ = refl
      one (message.DeclareFinal interest) none_ = refl
      one (message.Interest id mode options e) none_ = refl
      one (message.InterestFinal id) none_ = refl
      one (message.DeclareSubscriber id e interest) none_ = refl
      one (message.DeclareQueryable id e info interest) none_ = refl

  -- where a face hears by trees, the id 0 is enough
  abbrev pub HasNoId : Message K → Type 0
  HasNoId (message.UndeclareToken id (Some e) node) = id ≡ 0
  HasNoId m = Unit {0}

  pub right_if_routed : (ms : List (Message K)) (v : Hearer K) → v.routed ≡ true → Each HasNoId ms → Right ms v
  right_if_routed [] v routed_ all = tt
  right_if_routed (m ∷ ms) v routed_ all = (one m all.0, right_if_routed ms (hears_one m v) (one-routed m v ∙ routed_) all.1)
    where
      one : (m : Message K) → HasNoId m → is_right m v ≡ true
      one (message.UndeclareToken id (Some e) node) none_ =
          let rest : Bool = list_any (λ row. asks_token matching row.1 e) v.held && not (list_any (λ row. same cmp e row.1) v.told) in
          and_from (id == 0) (v.routed || rest) (eq-eqb id 0 none_) (or_left v.routed rest routed_)
      one (message.UndeclareToken id None node) none_ = refl
      one (message.DeclareToken id e interest node) none_ = refl
      one (message.DeclareFinal interest) none_ = refl
      one (message.Interest id mode options e) none_ = refl
      one (message.InterestFinal id) none_ = refl
      one (message.DeclareSubscriber id e interest) none_ = refl
      one (message.DeclareQueryable id e info interest) none_ = refl

  -- outside router regions it's for a face that wants the expression and doesn't keep it
  pub right_to_who_wants : (e : K) (node : ℕ) (v : Hearer K) → list_any (λ row. asks_token matching row.1 e) v.held ≡ true → list_any (λ row. same cmp e row.1) v.told ≡ false → Right (message.UndeclareToken 0 (Some e) node ∷ []) v
  right_to_who_wants e node v wanted unkept =
      let rest : Bool = list_any (λ row. asks_token matching row.1 e) v.held && not (list_any (λ row. same cmp e row.1) v.told) in
      (or_right v.routed rest (and_from (list_any (λ row. asks_token matching row.1 e) v.held) (not (list_any (λ row. same cmp e row.1) v.told)) wanted (ap not unkept)), tt)

  -- ---- what a gateway says

  -- of what is said, what is for each of these is right
  abbrev pub AllRight : Sends K → List (Hearer K) → Type 0
  AllRight ss vs = Each (λ v. Right (messages_for v.number ss) v) vs

  pub all_right_if_none : (ss : Sends K) (vs : List (Hearer K)) → Each (λ s. NamesNone s.1) ss → AllRight ss vs
  all_right_if_none ss vs none_ = each_always (λ v. Right (messages_for v.number ss) v) (λ v. right_if_none (messages_for v.number ss) v (each_message_for cmp NamesNone v.number ss none_)) vs

  pub hearers_heard : (p : ℕ → Bool) (ss : Sends K) (g : Rows K) → hearers p (rows_heard cmp ss g) ≡ map (λ v. hears_all (messages_for v.number ss) v) (hearers p g)
  unfolding rows_heard
  hearers_heard p ss g =
      let hears = λ (f : Face K). heard_all cmp g.moment (messages_for f.number ss) f in
      let kept = filter (λ (f : Face K). p f.number) g.faces in
      ap (map (hearer_of g)) (filter_map (λ (f : Face K). p f.number) (λ (f : Face K). p f.number) hears g.faces (λ f. ap p (heard_all-number cmp g.moment (messages_for f.number ss) f)))
      ∙ map-map (hearer_of g) hears kept
      ∙ map_alike (λ f. hearer_of g (hears f)) (λ f. hears_all (messages_for f.number ss) (hearer_of g f)) kept
      (each_always (λ f. hearer_of g (hears f) ≡ hears_all (messages_for f.number ss) (hearer_of g f)) (λ f. after_heard_all g.moment g (messages_for f.number ss) f) kept)
      ∙ sym (map-map (λ v. hears_all (messages_for v.number ss) v) (hearer_of g) kept)

  pub all_right_then : (p : ℕ → Bool) (ss rest : Sends K) (g : Rows K) → AllRight ss (hearers p g) → AllRight rest (hearers p (rows_heard cmp ss g)) → AllRight (ss ++ rest) (hearers p g)
  all_right_then p ss rest g one two =
      each_both (λ v. Right (messages_for v.number ss) v) Later (λ v. Right (messages_for v.number (ss ++ rest)) v)
      (λ v a b.
      let w = hears_all (messages_for v.number ss) v in
      subst (λ ms. Right ms v) (sym (messages_for-append v.number ss rest))
      (right_then (messages_for v.number ss) (messages_for v.number rest) v a (subst (λ k. Right (messages_for k rest) w) (all-number (messages_for v.number ss) v) b)))
      (hearers p g) one
      (each_of_map (λ v. Right (messages_for v.number rest) v) (λ v. hears_all (messages_for v.number ss) v) (hearers p g) (subst (AllRight rest) (hearers_heard p ss g) two))
    where
      Later : Hearer K → Type 0
      Later v = (let w = hears_all (messages_for v.number ss) v in Right (messages_for w.number rest) w)
