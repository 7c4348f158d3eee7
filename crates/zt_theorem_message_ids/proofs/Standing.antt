-- What messages may name at a face: its next id, what it keeps, and what it was sent upstream; and how that changes while
-- messages are heard.
use Rattle.std.proofs.Common.{◌≡◌, ℕ, Bool, true, false, ◌==◌, ◌&&◌, ◌||◌, not, List, [], ◌∷◌, ◌++◌, map, Some, None, refl, sym, ap, ◌∙◌, subst, eq-eqb}
use Rattle.std.proofs.lemmas.Bool.{or_left}
use Rattle.std.specs.List.{list_any}
use Rattle.std.specs.declared.cmp.Ordering.{Ordering}
use Rattle.zt_protocol.specs.Interest.{is_future}
use Rattle.zt_protocol.specs.declared.messages.Message.{Message}
use Rattle.zt_protocol.specs.declared.messages.Message.TheVariants as message
use Rattle.zt_model.specs.Hearing.{heard, heard_all, messages_for, next_after, put_if, rows_heard, told_pair, untold}
use Rattle.zt_model.specs.Lists.{has_id, same, without_id}
use Rattle.zt_model.specs.Promises.{NameWhatStands, names_what_stands}
use Rattle.zt_model.specs.Rows.{ById, Face, InterestRow, Rows}
use Rattle.zt_model.specs.Says.{Sends}
use Rattle.zt_model.specs.Transcript.{Each}
use Rattle.zt_model.specs.Visible.{keeps}
use Rattle.zt_laws.proofs.Hearing.{messages_for-append}
use Rattle.zt_laws.proofs.Lists.{each_always, each_both, map-map, map_alike, never}
use Rattle.zt_laws.proofs.PartsOrder.{each_message_for, each_of_map}
use Rattle.zt_theorem_message_ids.specs.Anew.{AreNews, is_news}

-- of a face, what messages may name there
pub record Standing (K : Type 0) : Type 0 where
  pub number : ℕ
  pub next : ℕ
  pub told : ById K
  pub locals : ById (InterestRow K)

abbrev pub standing_of : {K : Type 0} → Face K → Standing K
standing_of f = record { number = f.number; next = f.next; told = f.told; locals = f.locals }

abbrev pub standings : {K : Type 0} → Rows K → List (Standing K)
standings g = map standing_of g.faces

first_of_both : (a b c : Bool) → (a || (b && c)) ≡ true → (a || b) ≡ true
first_of_both true b c h = refl
first_of_both false true c h = refl
first_of_both false false c h = never h refl

last_of_both : (a b c : Bool) → (a || (b && c)) ≡ true → (a || c) ≡ true
last_of_both true b c h = refl
last_of_both false true c h = h
last_of_both false false c h = never h refl

module _ {K : Type 0} (cmp : K → K → Ordering) where
  -- what stands after a message
  abbrev stands_after : Message K → Standing K → Standing K
  stands_after (message.DeclareToken id e interest node) v = record v { next = next_after id v.next; told = told_pair cmp id e v.told }
  stands_after (message.UndeclareToken id e node) v = record v { told = untold cmp id e v.told }
  stands_after (message.Interest id mode options e) v = record v { next = next_after id v.next; locals = put_if (is_future mode) id (record { mode = mode; options = options; expr = e }) v.locals }
  stands_after (message.InterestFinal id) v = record v { locals = without_id id v.locals }
  stands_after m v = v

  abbrev stands_after_all : List (Message K) → Standing K → Standing K
  stands_after_all [] v = v
  stands_after_all (m ∷ ms) v = stands_after_all ms (stands_after m v)

  after_heard : (now : ℕ) (m : Message K) (f : Face K) → standing_of (heard cmp now m f) ≡ stands_after m (standing_of f)
  after_heard now (message.DeclareToken id e interest node) f = refl
  after_heard now (message.UndeclareToken id e node) f = refl
  after_heard now (message.DeclareFinal interest) f = refl
  after_heard now (message.Interest id mode options e) f = refl
  after_heard now (message.InterestFinal id) f = refl
  after_heard now (message.DeclareSubscriber id e interest) f = refl
  after_heard now (message.DeclareQueryable id e info interest) f = refl

  pub after_heard_all : (now : ℕ) (ms : List (Message K)) (f : Face K) → standing_of (heard_all cmp now ms f) ≡ stands_after_all ms (standing_of f)
  unfolding heard_all
  after_heard_all now [] f = refl
  after_heard_all now (m ∷ ms) f = after_heard_all now ms (heard cmp now m f) ∙ ap (stands_after_all ms) (after_heard now m f)

  after-number : (m : Message K) (v : Standing K) → (stands_after m v).number ≡ v.number
  after-number (message.DeclareToken id e interest node) v = refl
  after-number (message.UndeclareToken id e node) v = refl
  after-number (message.DeclareFinal interest) v = refl
  after-number (message.Interest id mode options e) v = refl
  after-number (message.InterestFinal id) v = refl
  after-number (message.DeclareSubscriber id e interest) v = refl
  after-number (message.DeclareQueryable id e info interest) v = refl

  after_all-number : (ms : List (Message K)) (v : Standing K) → (stands_after_all ms v).number ≡ v.number
  after_all-number [] v = refl
  after_all-number (m ∷ ms) v = after_all-number ms (stands_after m v) ∙ after-number m v

  -- ---- naming

  -- the message names what stands, and a token that answers nobody isn't kept
  abbrev names : Message K → Standing K → Bool
  names (message.DeclareToken id e None node) v = (id == 0) || ((id == v.next) && not (list_any (λ row. same cmp e row.1) v.told))
  names (message.UndeclareToken id None node) v = has_id id v.told
  names (message.InterestFinal id) v = has_id id v.locals
  names m v = true

  abbrev pub Name : List (Message K) → Standing K → Type 0
  Name [] v = Unit {0}
  Name (m ∷ ms) v = (names m v ≡ true) × Name ms (stands_after m v)

  named_what_stands : (matching : K → K → Bool) (m : Message K) (f : Face K) → names m (standing_of f) ≡ true → names_what_stands cmp matching m f ≡ true
  named_what_stands matching (message.DeclareToken id e None node) f named = first_of_both (id == 0) (id == f.next) (not (keeps cmp f e)) named
  named_what_stands matching (message.DeclareToken id e (Some i) node) f named = refl
  named_what_stands matching (message.UndeclareToken id None node) f named = named
  named_what_stands matching (message.UndeclareToken id (Some e) node) f named = refl
  named_what_stands matching (message.DeclareFinal interest) f named = refl
  named_what_stands matching (message.Interest id mode options e) f named = refl
  named_what_stands matching (message.InterestFinal id) f named = named
  named_what_stands matching (message.DeclareSubscriber id e interest) f named = refl
  named_what_stands matching (message.DeclareQueryable id e info interest) f named = refl

  pub name_what_stands : (matching : K → K → Bool) (ms : List (Message K)) (f : Face K) → Name ms (standing_of f) → NameWhatStands cmp matching ms f
  name_what_stands matching [] f named = tt
  name_what_stands matching (m ∷ ms) f named = (named_what_stands matching m f named.0, name_what_stands matching ms (heard cmp 0 m f) (subst (Name ms) (sym (after_heard 0 m f)) named.1))

  named_news : (matching : K → K → Bool) (m : Message K) (f : Face K) → names m (standing_of f) ≡ true → is_news cmp matching m f ≡ true
  named_news matching (message.DeclareToken id e None node) f named = last_of_both (id == 0) (id == f.next) (not (keeps cmp f e)) named
  named_news matching (message.DeclareToken id e (Some i) node) f named = refl
  named_news matching (message.UndeclareToken id e node) f named = refl
  named_news matching (message.DeclareFinal interest) f named = refl
  named_news matching (message.Interest id mode options e) f named = refl
  named_news matching (message.InterestFinal id) f named = refl
  named_news matching (message.DeclareSubscriber id e interest) f named = refl
  named_news matching (message.DeclareQueryable id e info interest) f named = refl

  pub name_news : (matching : K → K → Bool) (ms : List (Message K)) (f : Face K) → Name ms (standing_of f) → AreNews cmp matching ms f
  name_news matching [] f named = tt
  name_news matching (m ∷ ms) f named = (named_news matching m f named.0, name_news matching ms (heard cmp 0 m f) (subst (Name ms) (sym (after_heard 0 m f)) named.1))

  pub name_then : (ms ns : List (Message K)) (v : Standing K) → Name ms v → Name ns (stands_after_all ms v) → Name (ms ++ ns) v
  name_then [] ns v one two = two
  name_then (m ∷ ms) ns v one two = (one.0, name_then ms ns (stands_after m v) one.1 two)

  -- the message names nothing
  abbrev pub NamesNothing : Message K → Type 0
  NamesNothing (message.DeclareToken id e None node) = id ≡ 0
  NamesNothing (message.UndeclareToken id None node) = ⊥
  NamesNothing (message.InterestFinal id) = ⊥
  NamesNothing m = Unit {0}

  pub name_nothing : (ms : List (Message K)) (v : Standing K) → Each NamesNothing ms → Name ms v
  name_nothing [] v nothing = tt
  name_nothing (m ∷ ms) v nothing = (one m nothing.0, name_nothing ms (stands_after m v) nothing.1)
    where
      one : (m : Message K) → NamesNothing m → names m v ≡ true
      one (message.DeclareToken id e None node) zero_ = or_left (id == 0) ((id == v.next) && not (list_any (λ row. same cmp e row.1) v.told)) (eq-eqb id 0 zero_)
      one (message.DeclareToken id e (Some i) node) nothing_ = refl
      one (message.UndeclareToken id None node) nothing_ = absurd nothing_
      one (message.UndeclareToken id (Some e) node) nothing_ = refl
      one (message.DeclareFinal interest) nothing_ = refl
      one (message.Interest id mode options e) nothing_ = refl
      one (message.InterestFinal id) nothing_ = absurd nothing_
      one (message.DeclareSubscriber id e interest) nothing_ = refl
      one (message.DeclareQueryable id e info interest) nothing_ = refl

  -- ---- what a gateway says

  -- of what is said, what is for each face names what stands there
  abbrev pub AllName : Sends K → List (Standing K) → Type 0
  AllName ss vs = Each (λ v. Name (messages_for v.number ss) v) vs

  pub all_name_nothing : (ss : Sends K) (vs : List (Standing K)) → Each (λ s. NamesNothing s.1) ss → AllName ss vs
  all_name_nothing ss vs nothing = each_always (λ v. Name (messages_for v.number ss) v) (λ v. name_nothing (messages_for v.number ss) v (each_message_for cmp NamesNothing v.number ss nothing)) vs

  standings_heard : (ss : Sends K) (g : Rows K) → standings (rows_heard cmp ss g) ≡ map (λ v. stands_after_all (messages_for v.number ss) v) (standings g)
  unfolding rows_heard
  standings_heard ss g =
      map-map standing_of (λ f. heard_all cmp g.moment (messages_for f.number ss) f) g.faces
      ∙ map_alike (λ f. standing_of (heard_all cmp g.moment (messages_for f.number ss) f)) (λ f. stands_after_all (messages_for f.number ss) (standing_of f)) g.faces
      (each_always (λ f. standing_of (heard_all cmp g.moment (messages_for f.number ss) f) ≡ stands_after_all (messages_for f.number ss) (standing_of f)) (λ f. after_heard_all g.moment (messages_for f.number ss) f) g.faces)
      ∙ sym (map-map (λ v. stands_after_all (messages_for v.number ss) v) standing_of g.faces)

  pub all_name_then : (ss rest : Sends K) (g : Rows K) → AllName ss (standings g) → AllName rest (standings (rows_heard cmp ss g)) → AllName (ss ++ rest) (standings g)
  all_name_then ss rest g one two =
      each_both (λ v. Name (messages_for v.number ss) v) Later (λ v. Name (messages_for v.number (ss ++ rest)) v)
      (λ v a b.
      let w = stands_after_all (messages_for v.number ss) v in
      subst (λ ms. Name ms v) (sym (messages_for-append v.number ss rest))
      (name_then (messages_for v.number ss) (messages_for v.number rest) v a (subst (λ k. Name (messages_for k rest) w) (after_all-number (messages_for v.number ss) v) b)))
      (standings g) one
      (each_of_map (λ v. Name (messages_for v.number rest) v) (λ v. stands_after_all (messages_for v.number ss) v) (standings g) (subst (AllName rest) (standings_heard ss g) two))
    where
      Later : Standing K → Type 0
      Later v = (let w = stands_after_all (messages_for v.number ss) v in Name (messages_for w.number rest) w)
