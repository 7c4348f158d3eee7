-- A message is what its numbers and the bytes of its key say.
use Rattle.std.proofs.Common.{◌≡◌, ◌≢◌, ◌⊎◌, ◌≤◌, ◌==◌, ℕ, Bool, true, false, not, nat_lt, if◌then◌else◌, List, [], ◌∷◌, Option, Some, None, option_and_then, refl, sym, ap, subst, ◌∙◌, inl, inr, ⊎_elim}
use Rattle.std.proofs.lemmas.Bool.{and_parts, le-ltb}
use Rattle.std.specs.Str.{is_utf8}
use Rattle.std.specs.declared.cmp.Ordering.{Ordering}
use Rattle.zt_keys.specs.Expression.{Expression, is_expression, reading, same_expression}
use Rattle.zt_keys.specs.Laws.{prints_some, reads_back}
use Rattle.zt_protocol.specs.declared.interests.InterestMode.{InterestMode}
use Rattle.zt_protocol.specs.declared.interests.InterestMode.TheVariants.{Current, Future, CurrentFuture}
use Rattle.zt_protocol.specs.declared.messages.Message.{Message}
use Rattle.zt_protocol.specs.declared.messages.Message.TheVariants.{DeclareToken, UndeclareToken, DeclareFinal, Interest, InterestFinal, DeclareSubscriber, DeclareQueryable}
use Rattle.zt_liveliness.specs.Lively.{Lively, Receive}
use Rattle.zt_engine.specs.Answers.{Answers, Receives}
use Rattle.zt_engine.specs.Given.{sent_text, text_of}
use Rattle.zt_engine.specs.Messages.{FitsItsBytes, IsUnreadMessage, bit, fields_of, is_empty, key_of, message_in, message_of, mode_number, mode_of, optional_key_in}
use Rattle.zt_engine.specs.declared.messages.MessageFields.{MessageFields}

-- ---- keys

spelled : (key : Expression) → is_utf8 key.bytes ≡ true
unfolding is_expression
spelled key = (and_parts (is_utf8 key.bytes) _ key.valid).0

none_empty : (bytes : List ℕ) → bytes ≢ [] → is_empty bytes ≡ false
none_empty [] some = absurd (some refl)
none_empty (b ∷ bytes) some = refl

key_read : (key : Expression) → optional_key_in reading key.bytes ≡ Some (Some key)
key_read key = rw (none_empty key.bytes (prints_some key), spelled key, reads_back key) refl

-- the bytes of a key, or of none, are read as it
text_read : (key : Option Expression) → optional_key_in reading (text_of key) ≡ Some key
text_read None = refl
text_read (Some key) = key_read key

-- ---- numbers

not_above : (n most : ℕ) → n ≤ most → nat_lt most n ≡ false
not_above n most fits = le-ltb most n fits

mode_read : (mode : InterestMode) → mode_of (mode_number mode) ≡ Some mode
mode_read Current = refl
mode_read Future = refl
mode_read CurrentFuture = refl

bit_read : (b : Bool) → not (bit b == 0) ≡ b
bit_read true = refl
bit_read false = refl

-- the numbers of a message and its key are read as it
numbers_read : (m : Message Expression) → FitsItsBytes m → message_of (fields_of m) (key_of m) ≡ Some m
numbers_read (DeclareToken id e None node) fits = rw (not_above node 65535 fits) refl
numbers_read (DeclareToken id e (Some interest) node) fits = rw (not_above node 65535 fits) refl
numbers_read (UndeclareToken id e node) fits = rw (not_above node 65535 fits) refl
numbers_read (DeclareFinal interest) fits = refl
numbers_read (Interest id mode options e) fits = rw (mode_read mode, not_above options.0 255 fits) refl
numbers_read (InterestFinal id) fits = refl
numbers_read (DeclareSubscriber id e interest) fits = refl
numbers_read (DeclareQueryable id e info interest) fits = rw (not_above info.distance 65535 fits, bit_read info.complete) refl

-- and so are its numbers and the bytes of its key
pub read_back : (m : Message Expression) → FitsItsBytes m → message_in reading (fields_of m) (sent_text m) ≡ Some m
read_back m fits = ap (option_and_then (message_of (fields_of m))) (text_read (key_of m)) ∙ numbers_read m fits

-- ---- messages with the same numbers and bytes

same_text : (a b : Option Expression) → text_of a ≡ text_of b → a ≡ b
same_text None None e = refl
same_text None (Some b) e = absurd (prints_some b (sym e))
same_text (Some a) None e = absurd (prints_some a e)
same_text (Some a) (Some b) e = ap (λ k. Some k) (same_expression a b e)

-- the message of numbers and a key, where no bound is asked for
token_by : MessageFields → Option ℕ → Option Expression → Option (Message Expression)
token_by f interest None = None
token_by f interest (Some e) = Some (DeclareToken f.id e interest f.node_id)

interest_by : MessageFields → Option Expression → Option InterestMode → Option (Message Expression)
interest_by f e None = None
interest_by f e (Some mode) = Some (Interest f.id mode (record { 0 = f.options }) e)

subscriber_by : MessageFields → Option Expression → Option (Message Expression)
subscriber_by f None = None
subscriber_by f (Some e) = Some (DeclareSubscriber f.id e f.interest_id)

queryable_by : MessageFields → Option Expression → Option (Message Expression)
queryable_by f None = None
queryable_by f (Some e) = Some (DeclareQueryable f.id e (record { complete = not (f.complete == 0); distance = f.distance }) f.interest_id)

message_by : MessageFields → Option Expression → Option (Message Expression)
message_by f e =
    if f.kind == 1 then token_by f None e else (
    if f.kind == 2 then token_by f (Some f.interest_id) e else (
    if f.kind == 3 then Some (UndeclareToken f.id e f.node_id) else (
    if f.kind == 4 then Some (DeclareFinal f.interest_id) else (
    if f.kind == 5 then interest_by f e (mode_of f.mode) else (
    if f.kind == 6 then Some (InterestFinal f.id) else (
    if f.kind == 7 then subscriber_by f e else queryable_by f e))))))

numbers_by : (m : Message Expression) → message_by (fields_of m) (key_of m) ≡ Some m
unfolding message_by token_by interest_by subscriber_by queryable_by
numbers_by (DeclareToken id e None node) = refl
numbers_by (DeclareToken id e (Some interest) node) = refl
numbers_by (UndeclareToken id e node) = refl
numbers_by (DeclareFinal interest) = refl
numbers_by (Interest id mode options e) = ap (interest_by (fields_of (Interest id mode options e)) e) (mode_read mode)
numbers_by (InterestFinal id) = refl
numbers_by (DeclareSubscriber id e interest) = refl
numbers_by (DeclareQueryable id e info interest) = ap (λ b. Some (DeclareQueryable id e (record { complete = b; distance = info.distance }) interest)) (bit_read info.complete)

pub same_message : (a b : Message Expression) → fields_of a ≡ fields_of b → sent_text a ≡ sent_text b → a ≡ b
same_message a b fields text =
    let same_ : Some a ≡ Some b =
    sym (numbers_by a) ∙ ap (λ f. message_by f (key_of a)) fields ∙ ap (message_by (fields_of b)) (same_text (key_of a) (key_of b) text) ∙ numbers_by b in
    cc

-- ---- what a call that takes a message answers, where these are its numbers and bytes

some_other : (a b : Message Expression) (P : Message Expression → Type 0) → Some a ≡ Some b → P a → P b
some_other a b P e p = let is : a ≡ b = cc in subst P is p

module _ (cmp : Expression → Expression → Ordering) (matching : Expression → Expression → Bool) where
  pub received : (m : Message Expression) (uplink status : ℕ) (before after : Lively Expression) → FitsItsBytes m
      → Receives cmp matching reading uplink (fields_of m) (sent_text m) before after status
      → Answers cmp matching (Receive uplink m) before after status ⊎ ((status ≡ 5) × (after ≡ before))
  received m uplink status before after fits got = ⊎_elim read (λ unread. not_read unread.0 unread.1) got
    where
      is : message_in reading (fields_of m) (sent_text m) ≡ Some m
      is = read_back m fits

      read : (x : Message Expression) × (message_in reading (fields_of m) (sent_text m) ≡ Some x) × Answers cmp matching (Receive uplink x) before after status
          → Answers cmp matching (Receive uplink m) before after status ⊎ ((status ≡ 5) × (after ≡ before))
      read one = inl (some_other one.0 m (λ y. Answers cmp matching (Receive uplink y) before after status) (sym one.1 ∙ is) one.2)

      none_some : {A : Type 0} {x : A} (o : Option A) → o ≡ None → o ≡ Some x → ⊥
      none_some o none some = let wrong = sym none ∙ some in cc

      not_read : IsUnreadMessage reading (fields_of m) (sent_text m) status → after ≡ before → Answers cmp matching (Receive uplink m) before after status ⊎ ((status ≡ 5) × (after ≡ before))
      not_read unread same_ =
          ⊎_elim (λ bad. absurd (none_some (message_in reading (fields_of m) (sent_text m)) bad.1 is))
          (λ key. ⊎_elim (λ bad. absurd (none_some (optional_key_in reading (sent_text m)) bad.1 (text_read (key_of m)))) (λ five. inr (five, same_)) key) unread
