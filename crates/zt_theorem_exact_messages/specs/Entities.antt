-- What is promised of subscribers and queryables beside `Promises`: an interest in what is there now and later is answered in
-- its own entry exactly those that it asks for, each once and in order, and no other is printed. So none comes after its final.
use Rattle.std.specs.Prelude.{◌≡◌, ℕ, Bool, ◌==◌, ◌&&◌, not, if◌then◌else◌, List, [], ◌∷◌, ◌++◌, Option, Some, None, map, filter}
use Rattle.std.specs.List.{flat_map}
use Rattle.std.specs.Option.{option_to_list}
use Rattle.std.specs.declared.cmp.Ordering.{Ordering}
use Rattle.zt_protocol.specs.Interest.{is_current, is_future, has_aggregate, has_queryables, has_subscribers}
use Rattle.zt_protocol.specs.Plain.{Interest}
use Rattle.zt_protocol.specs.declared.messages.Message.{Message}
use Rattle.zt_protocol.specs.declared.messages.Message.TheVariants as message
use Rattle.zt_model.specs.Entities.{all_merged, info_of, number_of, numbered_by, with_numbers}
use Rattle.zt_model.specs.Fabric.{CallAt}
use Rattle.zt_model.specs.Lists.{in_key_order}
use Rattle.zt_model.specs.Parts.{find_face}
use Rattle.zt_model.specs.Promises.{EachFace, Turn, calls_in, printed_to, with_line}
use Rattle.zt_model.specs.Rows.{Face, InterestRow, Rows}
use Rattle.zt_model.specs.Seen.{sees}
use Rattle.zt_model.specs.Shown.{interest_kept}
use Rattle.zt_model.specs.Wants.{is_about}

-- the declarations of subscribers and queryables among messages
abbrev pub entities_in : {K : Type 0} → List (Message K) → List (Message K)
entities_in [] = []
entities_in (message.DeclareSubscriber number e interest ∷ ms) = message.DeclareSubscriber number e interest ∷ entities_in ms
entities_in (message.DeclareQueryable number e info interest ∷ ms) = message.DeclareQueryable number e info interest ∷ entities_in ms
entities_in (m ∷ ms) = entities_in ms

-- a face sees the entities of each other face whose region's tokens it sees
abbrev pub faces_seen : {K : Type 0} → Rows K → Face K → List (Face K)
faces_seen g f = filter (λ x. not (x.number == f.number) && sees f.region x.region) g.faces

-- one declaration for the expression of an aggregate, where anything is found that it matches
abbrev pub for_aggregate : {K A : Type 0} → Option K → Option A → (K → A → Message K) → List (Message K)
for_aggregate (Some k) (Some x) declare = declare k x ∷ []
for_aggregate _ _ declare = []

abbrev pub any_of : {A : Type 0} → List A → Option A
any_of [] = None
any_of (x ∷ xs) = Some x

module _ {K : Type 0} (cmp : K → K → Ordering) (matching : K → K → Bool) where
  -- the subscribers that an interest is answered: for an aggregate one, else each expression once, in key order
  unfoldable pub subscribers_due : Rows K → ℕ → InterestRow K → Face K → List (Message K)
  subscribers_due g id interest f =
      let found = filter (is_about matching interest.expr) (flat_map (λ x. x.subscribers) (faces_seen g f)) in
      if has_aggregate interest.options
      then for_aggregate interest.expr (any_of found) (λ k e. message.DeclareSubscriber (number_of cmp g k) k id)
      else map (λ e. message.DeclareSubscriber (number_of cmp g e) e id) (in_key_order cmp found)

  -- the queryables: with what is known of all of an aggregate together, or of all of an expression
  unfoldable pub queryables_due : Rows K → ℕ → InterestRow K → Face K → List (Message K)
  queryables_due g id interest f =
      let found = filter (λ q. is_about matching interest.expr q.0) (flat_map (λ x. x.queryables) (faces_seen g f)) in
      if has_aggregate interest.options
      then for_aggregate interest.expr (all_merged (map (λ q. q.1) found)) (λ k info. message.DeclareQueryable (number_of cmp g k) k info id)
      else flat_map (λ e. map (λ info. message.DeclareQueryable (number_of cmp g e) e info id) (option_to_list (info_of cmp e found))) (in_key_order cmp (map (λ q. q.0) found))

  -- An interest in what is there now and later is answered what it asks for, subscribers first.
  unfoldable pub entities_asked : Rows K → ℕ → InterestRow K → Face K → List (Message K)
  entities_asked g id interest f =
      if is_current interest.mode && is_future interest.mode
      then (if has_subscribers interest.options then subscribers_due g id interest f else [])
      ++ (if has_queryables interest.options then queryables_due g id interest f else [])
      else []

  -- what a call prints for the face of a number: its own interest is answered, once the expression of an aggregate has a
  -- number
  abbrev pub entities_due : ℕ → ℕ → CallAt K → List (Message K)
  entities_due gateway number at =
      if not (gateway == at.gateway) then []
      else elim at.call [
        | Interest n id mode options e ↦
            if number == n
            then elim (find_face n at.rows) [
              | None ↦ []
              | Some f ↦ (let interest = interest_kept f mode options e in entities_asked (with_numbers cmp (numbered_by cmp interest) at.rows) id interest f)
            ]
            else []
        | _ ↦ []
      ]

  -- exactly these are printed
  abbrev pub AnswersEntities : Turn K → Type 0
  AnswersEntities t = EachFace (λ n g f. entities_in (printed_to t n f) ≡ flat_map (entities_due n f.number) (calls_in cmp matching t)) (with_line cmp matching t)
