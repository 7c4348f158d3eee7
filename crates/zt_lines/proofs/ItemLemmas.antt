-- Reading items, one after the other.
use Rattle.std.proofs.Common.{◌≡◌, ℕ, zero, suc, ◌<◌, ◌≤◌, Bool, true, false, cond, List, [], ◌∷◌, ◌++◌, Result, Ok, Err, refl, sym, ap, ◌∙◌, append_assoc, length, arith, ◌⊎◌, inl, inr}
use Rattle.std.proofs.lemmas.List.{append-nil}
use Rattle.std.specs.Str.{bytes_eq}
use Rattle.std.specs.Prelude.{codes}
use Rattle.zt_keys.specs.declared.error.KeyError.{KeyError}
use Rattle.zt_protocol.specs.declared.errors.LineError.{LineError}
use Rattle.zt_protocol.specs.declared.errors.LineError.TheVariants as errors
use Rattle.zt_protocol.specs.declared.messages.QueryableInfo.{QueryableInfo}
use Rattle.zt_lines.specs.declared.entities.Item.{Item}
use Rattle.zt_lines.specs.declared.entities.Item.TheVariants.{Subscriber, Queryable}
use Rattle.zt_fields.specs.Fields.{◌>>=◌, Misses, Fields, spelled_by, field_at, value_at}
use Rattle.zt_fields.specs.Numbers.{u16_of}
use Rattle.zt_fields.specs.Values.{key_read, flag_of}
use Rattle.zt_lines.specs.Items.{subscriber_at, queryable_at, item_at, items_within, items_read, subscribers_of, queryables_of, entities_read}
use Rattle.zt_fields.proofs.ResultLemmas.{bind_ok, ok_is}

abbrev pub Reading : Type 0 → Type 0
Reading K = List ℕ → Result K KeyError

-- ---- an item takes fields

abbrev pub Shortens : Fields → Fields → Type 0
Shortens fields rest = length rest < length fields

field_shortens : (fields : Fields) (x : List ℕ × Fields) → field_at fields ≡ Ok x → length x.1 < length fields
field_shortens [] x e = absurd cc
field_shortens (field ∷ rest) x e = let same = ok_is (field, rest) x e in omega (arith, ap (λ (y : List ℕ × Fields). length y.1) same)

value_shortens : {A : Type 0} (read : List ℕ → Result A LineError) (fields : Fields) (x : A × Fields) → value_at read fields ≡ Ok x → length x.1 < length fields
unfolding value_at
value_shortens read fields x e =
    let a = bind_ok (field_at fields) _ x e in
    let b = bind_ok (read a.0.0) _ x a.2 in
    let same = ok_is (b.0, a.0.1) x b.2 in
    omega (arith, field_shortens fields a.0 a.1, ap (λ y. length y.1) same)

subscriber_shortens : {K : Type 0} (reading : Reading K) (fields : Fields) (x : Item K × Fields) → subscriber_at reading fields ≡ Ok x → length x.1 < length fields
unfolding subscriber_at
subscriber_shortens reading fields x e =
    let a = bind_ok (value_at (key_read reading) fields) _ x e in
    let same = ok_is (Subscriber a.0.0, a.0.1) x a.2 in
    omega (arith, value_shortens (key_read reading) fields a.0 a.1, ap (λ y. length y.1) same)

queryable_shortens : {K : Type 0} (reading : Reading K) (fields : Fields) (x : Item K × Fields) → queryable_at reading fields ≡ Ok x → length x.1 < length fields
unfolding queryable_at
queryable_shortens reading fields x e =
    let a = bind_ok (value_at (spelled_by flag_of) fields) _ x e in
    let b = bind_ok (value_at (spelled_by u16_of) a.0.1) _ x a.2 in
    let c = bind_ok (value_at (key_read reading) b.0.1) _ x b.2 in
    let same = ok_is (Queryable c.0.0 (record { complete = a.0.0; distance = b.0.0 }), c.0.1) x c.2 in
    omega (arith, value_shortens (spelled_by flag_of) fields a.0 a.1, value_shortens (spelled_by u16_of) a.0.1 b.0 b.1, value_shortens (key_read reading) b.0.1 c.0 c.1, ap (λ y. length y.1) same)

chosen : {A : Type 0} (b : Bool) (x y z : A) → cond b x y ≡ z → ((b ≡ true) × (x ≡ z)) ⊎ ((b ≡ false) × (y ≡ z))
chosen true x y z h = inl (refl, h)
chosen false x y z h = inr (refl, h)

pub item_shortens : {K : Type 0} (reading : Reading K) (fields : Fields) (x : Item K × Fields) → item_at reading fields ≡ Ok x → length x.1 < length fields
unfolding item_at
item_shortens reading fields x e =
    let a = bind_ok (field_at fields) _ x e in
    let s = field_shortens fields a.0 a.1 in
    elim (chosen (bytes_eq a.0.0 (codes "s")) (subscriber_at reading a.0.1) _ (Ok x) a.2) [
      | inl h ↦ omega (arith, s, subscriber_shortens reading a.0.1 x h.1)
      | inr h ↦ elim (chosen (bytes_eq a.0.0 (codes "q")) (queryable_at reading a.0.1) _ (Ok x) h.1) [
        | inl k ↦ omega (arith, s, queryable_shortens reading a.0.1 x k.1)
        | inr k ↦ absurd cc
      ]
    ]

-- ---- items

enough : {K : Type 0} (reading : Reading K) (n m : ℕ) (fields : Fields) → length fields ≤ n → length fields ≤ m → items_within reading n fields ≡ items_within reading m fields
unfolding items_within
enough reading zero zero [] a b = refl
enough reading zero (suc m) [] a b = refl
enough reading (suc n) zero [] a b = refl
enough reading (suc n) (suc m) [] a b = refl
enough reading zero m (field ∷ fields) a b = absurd (omega (arith, a))
enough reading (suc n) zero (field ∷ fields) a b = absurd (omega (arith, b))
enough {K} reading (suc n) (suc m) (field ∷ fields) a b =
    let then_all : ℕ → Item K × Fields → Result (List (Item K)) LineError = λ k item. items_within reading k item.1 >>= λ items. Ok (item.0 ∷ items) in
    elim (item_at reading (field ∷ fields)) as (λ v. item_at reading (field ∷ fields) ≡ v → (v >>= then_all n) ≡ (v >>= then_all m)) [
      | Err e ↦ λ is. refl
      | Ok item ↦ λ is.
          let short = item_shortens reading (field ∷ fields) item is in
          ap (λ (r : Result (List (Item K)) LineError). r >>= λ items. Ok (item.0 ∷ items)) (enough reading n m item.1 (omega (arith, short, a)) (omega (arith, short, b)))
    ] refl

-- one item more
pub items_step : {K : Type 0} (reading : Reading K) (fields : Fields) (item : Item K) (rest : Fields) → item_at reading fields ≡ Ok (item, rest)
    → items_read reading fields ≡ (items_read reading rest >>= λ items. Ok (item ∷ items))
unfolding items_read items_within item_at
items_step reading [] item rest h = absurd cc
items_step {K} reading (field ∷ fields) item rest h =
    let short = item_shortens reading (field ∷ fields) (item, rest) h in
    rw h (ap (λ (r : Result (List (Item K)) LineError). r >>= λ items. Ok (item ∷ items)) (enough reading (length fields) (length rest) rest (omega (arith, short)) (omega arith)))

items_fail : {K : Type 0} (reading : Reading K) (field : List ℕ) (fields : Fields) (e : LineError) → item_at reading (field ∷ fields) ≡ Err e → items_read reading (field ∷ fields) ≡ Err e
unfolding items_read items_within
items_fail reading field fields e h = rw h refl

-- what was read before, and what is still read
abbrev pub with_both : {K : Type 0} → List K → List (K × QueryableInfo) → Result (List (Item K)) LineError → Result (List K × List (K × QueryableInfo)) LineError
with_both subscribers queryables read = read >>= λ items. Ok (subscribers ++ subscribers_of items, queryables ++ queryables_of items)

pub items_start : {K : Type 0} (reading : Reading K) (fields : Fields) → with_both [] [] (items_read reading fields) ≡ entities_read reading fields
unfolding entities_read
items_start reading fields = refl

regroup : {K : Type 0} (subscribers : List K) (queryables : List (K × QueryableInfo)) (item : Item K) (read : Result (List (Item K)) LineError)
    → with_both subscribers queryables (read >>= λ items. Ok (item ∷ items)) ≡ with_both (subscribers ++ subscribers_of (item ∷ [])) (queryables ++ queryables_of (item ∷ [])) read
regroup subscribers queryables item (Err e) = refl
regroup subscribers queryables (Subscriber key) (Ok items) =
    rw (append_assoc subscribers (key ∷ []) (subscribers_of items), append-nil queryables) refl
regroup subscribers queryables (Queryable key info) (Ok items) =
    rw (append_assoc queryables ((key, info) ∷ []) (queryables_of items), append-nil subscribers) refl

pub items_go_on : {K : Type 0} (reading : Reading K) (subscribers more : List K) (queryables others : List (K × QueryableInfo)) (fields : Fields) (item : Item K) (rest : Fields) (total : Result (List K × List (K × QueryableInfo)) LineError)
    → item_at reading fields ≡ Ok (item, rest) → more ≡ subscribers ++ subscribers_of (item ∷ []) → others ≡ queryables ++ queryables_of (item ∷ [])
    → with_both subscribers queryables (items_read reading fields) ≡ total → with_both more others (items_read reading rest) ≡ total
items_go_on reading subscribers more queryables others fields item rest total h s q so_far =
    rw (s, q) (sym (ap (with_both subscribers queryables) (items_step reading fields item rest h) ∙ regroup subscribers queryables item (items_read reading rest)) ∙ so_far)

failed : {K : Type 0} (reading : Reading K) (subscribers : List K) (queryables : List (K × QueryableInfo)) (fields : Fields) (field : List ℕ) (others : Fields) (e : LineError)
    → fields ≡ field ∷ others → item_at reading fields ≡ Err e → with_both subscribers queryables (items_read reading fields) ≡ Err e
failed reading subscribers queryables fields field others e some h =
    rw some (ap (with_both subscribers queryables) (items_fail reading field others e (sym (ap (item_at reading) some) ∙ h)))

pub items_end : {K : Type 0} (reading : Reading K) (e : LineError) (subscribers : List K) (queryables : List (K × QueryableInfo)) (fields : Fields) (field : List ℕ) (others : Fields) (total : Result (List K × List (K × QueryableInfo)) LineError)
    → fields ≡ field ∷ others → Misses e (item_at reading fields) → with_both subscribers queryables (items_read reading fields) ≡ total → Misses e total
items_end reading errors.Memory subscribers queryables fields field others total some h so_far = tt
items_end reading errors.NotUtf8 subscribers queryables fields field others total some h so_far = absurd h
items_end reading errors.NotInGrammar subscribers queryables fields field others total some h so_far = sym so_far ∙ failed reading subscribers queryables fields field others errors.NotInGrammar some h

pub items_done : {K : Type 0} (reading : Reading K) (subscribers : List K) (queryables : List (K × QueryableInfo)) (total : Result (List K × List (K × QueryableInfo)) LineError)
    → with_both subscribers queryables (items_read reading []) ≡ total → total ≡ Ok (subscribers, queryables)
unfolding items_read items_within
items_done reading subscribers queryables total so_far = sym so_far ∙ rw (append-nil subscribers, append-nil queryables) refl
