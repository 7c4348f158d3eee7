-- What calls by handles answer and leave.
use Rattle.std.specs.Prelude.{◌≡◌, ◌⊎◌, ◌+◌, ◌==◌, ℕ, Bool, if◌then◌else◌, List, Option, Some, None, Result, option_map}
use Rattle.std.specs.declared.cmp.Ordering.{Ordering}
use Rattle.zt_keys.specs.Expression.{Expression}
use Rattle.zt_keys.specs.declared.error.KeyError.{KeyError}
use Rattle.zt_liveliness.specs.Lively.{Api, Lively, DeclareSubscriber, DeclareToken, Get, OpenSession, TakeReply, TakeSample, TakeSent, interests_made, left_after, reply_of, sample_of, sent_of, tokens_made}
use Rattle.zt_engine.specs.Answers.{Answers, Makes, MakesOf, OpensUplink, Receives}
use Rattle.zt_engine.specs.Given.{buffer_after, fields_after, has_room, kind_after, length_after, reply_status, reply_text, sample_text, sent_text, waiting_status}
use Rattle.zt_engine.specs.Numbers.{remote_of}
use Rattle.zt_engine.specs.declared.engine.Engine.{Engine}
use Rattle.zt_engine.specs.declared.messages.MessageFields.{MessageFields}

-- The handle has an engine, and the call was one on it.
pub record OnEngine (answers : Lively Expression → Lively Expression → Type 0) (before after : Option Engine) : Type 0 where
  pub engine : Engine
  pub left : Engine
  pub was : before ≡ Some engine
  pub is : after ≡ Some left
  pub answered : answers engine.liveliness left.liveliness

-- The handle has no engine. The call did nothing, and what it gives is as it was.
pub record IsClosed (untouched : Type 0) (before after : Option Engine) (status : ℕ) : Type 0 where
  pub was : before ≡ None
  pub is : after ≡ None
  pub status_is : status ≡ 6
  pub same : untouched

abbrev pub OnHandle : (Lively Expression → Lively Expression → Type 0) → Type 0 → Option Engine → Option Engine → ℕ → Type 0
OnHandle answers untouched before after status = OnEngine answers before after ⊎ IsClosed untouched before after status

module _ (cmp : Expression → Expression → Ordering) (matching : Expression → Expression → Bool) where
  -- ---- calls that give no number

  abbrev pub Carries : Api Expression → Option Engine → Option Engine → ℕ → Type 0
  Carries a before after status = OnHandle (λ l m. Answers cmp matching a l m status) (Unit {0}) before after status

  -- ---- calls that give a number

  abbrev pub OpensSession : Option Engine → Option Engine → ℕ → ℕ → ℕ → Type 0
  OpensSession before after old new status =
      OnHandle (λ l m. Makes cmp matching OpenSession (l.rows.made + 1) l m old new status) (new ≡ old) before after status

  abbrev pub OpensUplinkTo : ℕ → ℕ → ℕ → ℕ → Option Engine → Option Engine → ℕ → ℕ → ℕ → Type 0
  OpensUplinkTo high low mode bound before after old new status =
      OnHandle (λ l m. OpensUplink cmp matching (remote_of high low mode bound) l m old new status) (new ≡ old) before after status

  -- ---- calls that take what waits

  -- a reply of a query, and the end of its replies
  pub record GivesReply (session get : ℕ) (before after : Lively Expression) (out out' : List ℕ) (n n' status : ℕ) : Type 0 where
    pub status_is : status ≡ reply_status (reply_of session get before) out
    pub left_is : after
        ≡ (if has_room (reply_text (reply_of session get before)) out then left_after cmp matching (TakeReply session get) before else before)
    pub text_is : out' ≡ buffer_after (reply_text (reply_of session get before)) out
    pub length_is : n' ≡ length_after (reply_text (reply_of session get before)) n

  pub record GivesSample (session subscriber : ℕ) (before after : Lively Expression) (kind kind' : ℕ) (out out' : List ℕ) (n n' status : ℕ) : Type 0 where
    pub status_is : status ≡ waiting_status (option_map sample_text (sample_of session subscriber before)) out
    pub left_is : after ≡ (if status == 0 then left_after cmp matching (TakeSample session subscriber) before else before)
    pub kind_is : kind' ≡ kind_after (sample_of session subscriber before) kind
    pub text_is : out' ≡ buffer_after (option_map sample_text (sample_of session subscriber before)) out
    pub length_is : n' ≡ length_after (option_map sample_text (sample_of session subscriber before)) n

  pub record GivesMessage (uplink : ℕ) (before after : Lively Expression) (fields fields' : MessageFields) (out out' : List ℕ) (n n' status : ℕ) : Type 0 where
    pub status_is : status ≡ waiting_status (option_map sent_text (sent_of uplink before)) out
    pub left_is : after ≡ (if status == 0 then left_after cmp matching (TakeSent uplink) before else before)
    pub fields_is : fields' ≡ fields_after (sent_of uplink before) fields
    pub text_is : out' ≡ buffer_after (option_map sent_text (sent_of uplink before)) out
    pub length_is : n' ≡ length_after (option_map sent_text (sent_of uplink before)) n

  abbrev pub TakesReply : ℕ → ℕ → Option Engine → Option Engine → List ℕ → List ℕ → ℕ → ℕ → ℕ → Type 0
  TakesReply session get before after out out' n n' status =
      OnHandle (λ l m. GivesReply session get l m out out' n n' status) ((out' ≡ out) × (n' ≡ n)) before after status

  abbrev pub TakesSample : ℕ → ℕ → Option Engine → Option Engine → ℕ → ℕ → List ℕ → List ℕ → ℕ → ℕ → ℕ → Type 0
  TakesSample session subscriber before after kind kind' out out' n n' status =
      OnHandle (λ l m. GivesSample session subscriber l m kind kind' out out' n n' status) ((kind' ≡ kind) × (out' ≡ out) × (n' ≡ n)) before after status

  abbrev pub TakesMessage : ℕ → Option Engine → Option Engine → MessageFields → MessageFields → List ℕ → List ℕ → ℕ → ℕ → ℕ → Type 0
  TakesMessage uplink before after fields fields' out out' n n' status =
      OnHandle (λ l m. GivesMessage uplink l m fields fields' out out' n n' status) ((fields' ≡ fields) × (out' ≡ out) × (n' ≡ n)) before after status

module _ (cmp : Expression → Expression → Ordering) (matching : Expression → Expression → Bool) (reading : List ℕ → Result Expression KeyError) where
  -- ---- calls that take a key

  abbrev pub DeclaresToken : ℕ → List ℕ → Option Engine → Option Engine → ℕ → ℕ → ℕ → Type 0
  DeclaresToken session key before after old new status =
      OnHandle (λ l m. MakesOf cmp matching reading (DeclareToken session) (tokens_made session l + 1) key l m old new status) (new ≡ old) before after status

  abbrev pub Asks : ℕ → List ℕ → Option Engine → Option Engine → ℕ → ℕ → ℕ → Type 0
  Asks session key before after old new status =
      OnHandle (λ l m. MakesOf cmp matching reading (Get session) (interests_made session l + 1) key l m old new status) (new ≡ old) before after status

  abbrev pub Subscribes : ℕ → List ℕ → Bool → Option Engine → Option Engine → ℕ → ℕ → ℕ → Type 0
  Subscribes session key history before after old new status =
      OnHandle (λ l m. MakesOf cmp matching reading (λ e. DeclareSubscriber session e history) (interests_made session l + 1) key l m old new status)
      (new ≡ old) before after status

  abbrev pub ReceivesAt : ℕ → MessageFields → List ℕ → Option Engine → Option Engine → ℕ → Type 0
  ReceivesAt uplink fields key before after status =
      OnHandle (λ l m. Receives cmp matching reading uplink fields key l m status) (Unit {0}) before after status
