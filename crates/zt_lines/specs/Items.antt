-- The items of an `entities` line.
use Rattle.std.specs.Prelude.{ℕ, zero, suc, if◌then◌else◌, List, [], ◌∷◌, codes, length, Result, Ok, Err}
use Rattle.std.specs.Str.{bytes_eq}
use Rattle.zt_keys.specs.declared.error.KeyError.{KeyError}
use Rattle.zt_protocol.specs.declared.errors.LineError.{LineError}
use Rattle.zt_protocol.specs.declared.errors.LineError.TheVariants as errors
use Rattle.zt_protocol.specs.declared.messages.QueryableInfo.{QueryableInfo}
use Rattle.zt_lines.specs.declared.entities.Item.{Item}
use Rattle.zt_lines.specs.declared.entities.Item.TheVariants.{Subscriber, Queryable}
use Rattle.zt_fields.specs.Fields.{◌>>=◌, Fields, field_at, spelled_by, value_at}
use Rattle.zt_fields.specs.Numbers.{u16_of}
use Rattle.zt_fields.specs.Values.{key_read, flag_of}

-- the two fields `s KEY`, behind the first
unfoldable pub subscriber_at : {K : Type 0} → (List ℕ → Result K KeyError) → Fields → Result (Item K × Fields) LineError
subscriber_at reading fields = do
  key ← value_at (key_read reading) fields
  Ok (Subscriber key.0, key.1)

-- the four fields `q C U16 KEY`, behind the first
unfoldable pub queryable_at : {K : Type 0} → (List ℕ → Result K KeyError) → Fields → Result (Item K × Fields) LineError
queryable_at reading fields = do
  complete ← value_at (spelled_by flag_of) fields
  distance ← value_at (spelled_by u16_of) complete.1
  key ← value_at (key_read reading) distance.1
  Ok (Queryable key.0 (record { complete = complete.0; distance = distance.0 }), key.1)

abbrev pub item_by : {K : Type 0} → (List ℕ → Result K KeyError) → List ℕ → Fields → Result (Item K × Fields) LineError
item_by reading kind rest =
    if bytes_eq kind (codes "s") then subscriber_at reading rest
    else if bytes_eq kind (codes "q") then queryable_at reading rest
    else Err errors.NotInGrammar

unfoldable pub item_at : {K : Type 0} → (List ℕ → Result K KeyError) → Fields → Result (Item K × Fields) LineError
item_at reading fields = do
  kind ← field_at fields
  item_by reading kind.0 kind.1

-- an item, and those behind it, of which at most `most` are taken
unfoldable pub items_within : {K : Type 0} → (List ℕ → Result K KeyError) → ℕ → Fields → Result (List (Item K)) LineError
items_within reading most [] = Ok []
items_within reading zero (field ∷ fields) = Err errors.NotInGrammar
items_within reading (suc most) (field ∷ fields) = item_at reading (field ∷ fields) >>= λ item. items_within reading most item.1 >>= λ items. Ok (item.0 ∷ items)

-- no line has more items than fields
unfoldable pub items_read : {K : Type 0} → (List ℕ → Result K KeyError) → Fields → Result (List (Item K)) LineError
items_read reading fields = items_within reading (length fields) fields

abbrev pub subscribers_of : {K : Type 0} → List (Item K) → List K
subscribers_of [] = []
subscribers_of (Subscriber key ∷ items) = key ∷ subscribers_of items
subscribers_of (Queryable key info ∷ items) = subscribers_of items

abbrev pub queryables_of : {K : Type 0} → List (Item K) → List (K × QueryableInfo)
queryables_of [] = []
queryables_of (Subscriber key ∷ items) = queryables_of items
queryables_of (Queryable key info ∷ items) = (key, info) ∷ queryables_of items

unfoldable pub entities_read : {K : Type 0} → (List ℕ → Result K KeyError) → Fields → Result (List K × List (K × QueryableInfo)) LineError
entities_read reading fields = items_read reading fields >>= λ items. Ok (subscribers_of items, queryables_of items)
