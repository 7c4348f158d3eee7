-- What a line is read as: each kind of line takes its fields one after the other.
use Rattle.std.specs.Prelude.{ℕ, if◌then◌else◌, List, [], codes, Option, Some, None, Result, Ok, Err, unwrap_or}
use Rattle.std.specs.Str.{is_utf8}
use Rattle.zt_keys.specs.declared.error.KeyError.{KeyError}
use Rattle.zt_protocol.specs.declared.errors.LineError.{LineError}
use Rattle.zt_protocol.specs.declared.errors.LineError.TheVariants as errors
use Rattle.zt_protocol.specs.Plain.{PlainLine, Gateway, Session, Face, Link, Unlink, Step, Speak, Moment, SetTreesAt, SetEntities, DeclareToken, UndeclareToken, Interest, InterestFinal, DeclareFinal, CloseFace}
use Rattle.zt_lines.specs.declared.words.Word.{Word}
use Rattle.zt_lines.specs.declared.words.Word.TheVariants as word
use Rattle.zt_fields.specs.Numbers.{u16_of, u32_of, u64_of}
use Rattle.zt_lines.specs.Words.{word_of}
use Rattle.zt_fields.specs.Fields.{◌>>=◌, or_bad, spelled_by, Fields, fields_of, field_at, end_at, value_at, optional_value_at, settled}
use Rattle.zt_fields.specs.Values.{mode_of, bound_of, zid_of, direction_of, interest_mode_of, options_of, first_of, key_read, region_of, pair_of, triple_of}
use Rattle.zt_lines.specs.Lists.{name_of, list_read, south_read, south_regions_read}
use Rattle.zt_lines.specs.Items.{entities_read}

-- ---- kinds of line, behind their first word

unfoldable pub gateway_at : {K : Type 0} → Fields → Result (PlainLine K) LineError
gateway_at fields = do
  mode ← value_at (spelled_by mode_of) fields
  zid ← value_at (spelled_by zid_of) mode.1
  regions ← optional_value_at south_regions_read (codes "regions=") zid.1
  south ← optional_value_at south_read (codes "south=") regions.1
  name ← optional_value_at (spelled_by name_of) (codes "name=") south.1
  timeout ← optional_value_at (spelled_by u64_of) (codes "timeout=") name.1
  refuse ← optional_value_at (list_read (spelled_by (pair_of region_of region_of)) 44) (codes "refuse=") timeout.1
  end ← end_at refuse.1
  Ok (Gateway mode.0 zid.0 (unwrap_or regions.0 []) (unwrap_or south.0 None) name.0 (unwrap_or timeout.0 10000) (unwrap_or refuse.0 []))

unfoldable pub session_at : {K : Type 0} → Fields → Result (PlainLine K) LineError
session_at fields = do
  gateway ← value_at (spelled_by u32_of) fields
  first ← optional_value_at (spelled_by first_of) (codes "first=") gateway.1
  end ← end_at first.1
  Ok (Session gateway.0 (unwrap_or first.0 1))

unfoldable pub face_at : {K : Type 0} → Fields → Result (PlainLine K) LineError
face_at fields = do
  gateway ← value_at (spelled_by u32_of) fields
  mode ← value_at (spelled_by mode_of) gateway.1
  zid ← value_at (spelled_by zid_of) mode.1
  region ← value_at (spelled_by region_of) zid.1
  bound ← value_at (spelled_by bound_of) region.1
  first ← optional_value_at (spelled_by first_of) (codes "first=") bound.1
  end ← end_at first.1
  Ok (Face gateway.0 mode.0 zid.0 region.0 bound.0 (unwrap_or first.0 1))

unfoldable pub trees_at : {K : Type 0} → Fields → Result (PlainLine K) LineError
trees_at fields = do
  gateway ← value_at (spelled_by u32_of) fields
  region ← value_at (spelled_by region_of) gateway.1
  routers ← optional_value_at (list_read (spelled_by (pair_of u16_of zid_of)) 44) (codes "routers=") region.1
  listed ← or_bad routers.0
  links ← optional_value_at (list_read (spelled_by (triple_of u32_of u16_of zid_of)) 44) (codes "links=") routers.1
  children ← optional_value_at (list_read (spelled_by (pair_of zid_of zid_of)) 44) (codes "children=") links.1
  end ← end_at children.1
  Ok (SetTreesAt gateway.0 region.0 (record { routers = listed; links = unwrap_or links.0 []; children = unwrap_or children.0 [] }))

unfoldable pub entities_at : {K : Type 0} → (List ℕ → Result K KeyError) → Fields → Result (PlainLine K) LineError
entities_at reading fields = do
  face ← value_at (spelled_by u32_of) fields
  items ← entities_read reading face.1
  Ok (Speak (SetEntities face.0 items.0 items.1))

unfoldable pub link_at : {K : Type 0} → Fields → Result (PlainLine K) LineError
link_at fields = do
  one ← value_at (spelled_by u32_of) fields
  two ← value_at (spelled_by u32_of) one.1
  first ← optional_value_at (spelled_by first_of) (codes "first=") two.1
  back ← optional_value_at (spelled_by first_of) (codes "back=") first.1
  end ← end_at back.1
  Ok (Link one.0 two.0 (unwrap_or first.0 1) (unwrap_or back.0 1))

unfoldable pub unlink_at : {K : Type 0} → Fields → Result (PlainLine K) LineError
unlink_at fields = do
  link ← value_at (spelled_by u32_of) fields
  end ← end_at link.1
  Ok (Unlink link.0)

unfoldable pub step_at : {K : Type 0} → Fields → Result (PlainLine K) LineError
step_at fields = do
  link ← value_at (spelled_by u32_of) fields
  back ← value_at (spelled_by direction_of) link.1
  end ← end_at back.1
  Ok (Step link.0 back.0)

unfoldable pub moment_at : {K : Type 0} → Fields → Result (PlainLine K) LineError
moment_at fields = do
  gateway ← value_at (spelled_by u32_of) fields
  now ← value_at (spelled_by u64_of) gateway.1
  end ← end_at now.1
  Ok (Moment gateway.0 now.0)

unfoldable pub declare_at : {K : Type 0} → (List ℕ → Result K KeyError) → Fields → Result (PlainLine K) LineError
declare_at reading fields = do
  face ← value_at (spelled_by u32_of) fields
  id ← value_at (spelled_by u32_of) face.1
  expr ← value_at (key_read reading) id.1
  interest ← optional_value_at (spelled_by u32_of) (codes "interest=") expr.1
  node ← optional_value_at (spelled_by u16_of) (codes "node=") interest.1
  end ← end_at node.1
  Ok (Speak (DeclareToken face.0 id.0 expr.0 (unwrap_or node.0 0) interest.0))

unfoldable pub undeclare_at : {K : Type 0} → (List ℕ → Result K KeyError) → Fields → Result (PlainLine K) LineError
undeclare_at reading fields = do
  face ← value_at (spelled_by u32_of) fields
  id ← value_at (spelled_by u32_of) face.1
  expr ← optional_value_at (key_read reading) (codes "expr=") id.1
  node ← optional_value_at (spelled_by u16_of) (codes "node=") expr.1
  end ← end_at node.1
  Ok (Speak (UndeclareToken face.0 id.0 expr.0 (unwrap_or node.0 0)))

unfoldable pub interest_at : {K : Type 0} → (List ℕ → Result K KeyError) → Fields → Result (PlainLine K) LineError
interest_at reading fields = do
  face ← value_at (spelled_by u32_of) fields
  id ← value_at (spelled_by u32_of) face.1
  mode ← value_at (spelled_by interest_mode_of) id.1
  options ← value_at (spelled_by options_of) mode.1
  expr ← optional_value_at (key_read reading) (codes "expr=") options.1
  end ← end_at expr.1
  Ok (Speak (Interest face.0 id.0 mode.0 options.0 expr.0))

unfoldable pub interest_final_at : {K : Type 0} → Fields → Result (PlainLine K) LineError
interest_final_at fields = do
  face ← value_at (spelled_by u32_of) fields
  id ← value_at (spelled_by u32_of) face.1
  end ← end_at id.1
  Ok (Speak (InterestFinal face.0 id.0))

unfoldable pub declare_final_at : {K : Type 0} → Fields → Result (PlainLine K) LineError
declare_final_at fields = do
  face ← value_at (spelled_by u32_of) fields
  id ← value_at (spelled_by u32_of) face.1
  end ← end_at id.1
  Ok (Speak (DeclareFinal face.0 id.0))

unfoldable pub close_at : {K : Type 0} → Fields → Result (PlainLine K) LineError
close_at fields = do
  face ← value_at (spelled_by u32_of) fields
  end ← end_at face.1
  Ok (Speak (CloseFace face.0))

-- ---- lines

unfoldable pub kind_at : {K : Type 0} → (List ℕ → Result K KeyError) → Option Word → Fields → Result (PlainLine K) LineError
kind_at reading None fields = Err errors.NotInGrammar
kind_at reading (Some word.Session) fields = session_at fields
kind_at reading (Some word.Link) fields = link_at fields
kind_at reading (Some word.Unlink) fields = unlink_at fields
kind_at reading (Some word.Step) fields = step_at fields
kind_at reading (Some word.Declare) fields = declare_at reading fields
kind_at reading (Some word.Undeclare) fields = undeclare_at reading fields
kind_at reading (Some word.Interest) fields = interest_at reading fields
kind_at reading (Some word.InterestFinal) fields = interest_final_at fields
kind_at reading (Some word.DeclareFinal) fields = declare_final_at fields
kind_at reading (Some word.Close) fields = close_at fields
kind_at reading (Some word.Moment) fields = moment_at fields
kind_at reading (Some word.Gateway) fields = gateway_at fields
kind_at reading (Some word.Face) fields = face_at fields
kind_at reading (Some word.Trees) fields = trees_at fields
kind_at reading (Some word.Entities) fields = entities_at reading fields

unfoldable pub line_at : {K : Type 0} → (List ℕ → Result K KeyError) → Fields → Result (PlainLine K) LineError
line_at reading fields = do
  first ← field_at fields
  kind_at reading (word_of first.0) first.1

-- what a line is read as; never want of memory
unfoldable pub line_read : {K : Type 0} → (List ℕ → Result K KeyError) → List ℕ → Result (PlainLine K) LineError
line_read reading bytes = if is_utf8 bytes then settled (line_at reading (fields_of bytes)) else Err errors.NotUtf8
