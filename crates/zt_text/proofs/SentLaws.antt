-- What a message line is read as is the message of which it is the printed form.
use Rattle.std.proofs.Common.{◌≡◌, inl, inr, ℕ, ◌<◌, ◌≤◌, Bool, true, false, cond, List, [], ◌∷◌, ◌++◌, Option, Some, None, Result, Ok, Err, refl, sym, ap, subst, ◌∙◌, append_assoc, arith}
use Rattle.std.proofs.lemmas.Bool.{cond-true}
use Rattle.std.proofs.lemmas.List.{append_cancel_right}
use Rattle.std.proofs.lemmas.Str.{is_utf8-from_IsUtf8}
use Rattle.std.specs.Prelude.{codes, decimal}
use Rattle.std.specs.List.{AllByRecursion}
use Rattle.std.specs.Str.{bytes_eq, is_utf8}
use Rattle.std.specs.declared.cmp.Ordering.{Ordering}
use Rattle.zt_keys.specs.Key.{KeyLaws, OneSpelling}
use Rattle.zt_keys.specs.declared.anchor.Anchor.{Anchor}
use Rattle.zt_keys.specs.declared.error.KeyError.{KeyError}
use Rattle.zt_protocol.specs.declared.entries.Sent.{Sent}
use Rattle.zt_protocol.specs.declared.errors.LineError.{LineError}
use Rattle.zt_protocol.specs.declared.errors.LineError.TheVariants as errors
use Rattle.zt_protocol.specs.declared.interests.InterestMode.{InterestMode}
use Rattle.zt_protocol.specs.declared.interests.InterestMode.TheVariants.{Current, Future, CurrentFuture}
use Rattle.zt_protocol.specs.declared.interests.InterestOptions.{InterestOptions}
use Rattle.zt_protocol.specs.declared.messages.Message.{Message}
use Rattle.zt_protocol.specs.declared.messages.Message.TheVariants.{DeclareToken, UndeclareToken, DeclareFinal, Interest, InterestFinal, DeclareSubscriber, DeclareQueryable}
use Rattle.zt_fields.specs.Numbers.{u16_of, u32_of}
use Rattle.zt_fields.specs.Fields.{is_byte, spelled_by, Fields, fields_of, field_at, end_at, value_at, settled}
use Rattle.zt_fields.specs.Values.{interest_mode_of, options_of, key_read, flag_of}
use Rattle.zt_text.specs.Text.{spaced, key_fields, message_fields, sent_text}
use Rattle.zt_fields.specs.Spellings.{interest_mode_text, options_text, flag_text, IsU16, IsU32, IsInterestMode, IsOptions, IsFlag, IsKey}
use Rattle.zt_text.specs.Sent.{last_key_at, last_optional_key_at, token_at, answer_at, untoken_at, final_at, asked_at, asked_final_at, subscriber_message_at, queryable_message_at, message_by, sent_behind, sent_at, sent_read, IsMessage, IsSent}
use Rattle.zt_fields.proofs.ResultLemmas.{bind_ok, ok_is}
use Rattle.zt_fields.proofs.Exact.{chosen, same_bytes, exact_u16, exact_u32, exact_interest_mode, exact_flag}
use Rattle.zt_fields.proofs.ExactParts.{exact_options, exact_key, below_at}
use Rattle.zt_fields.proofs.ExactFields.{value_sound, value_complete, end_sound}
use Rattle.zt_text.proofs.Clean.{Clean, is_plain, clean_plain, clean_decimal, clean_key_bytes, AllClean, feedless_line, fields_of_line, line_from_fields, text_of_line}

-- a value that is read exactly from the one text that prints it
pub record Prints {A : Type 0} (read : List ℕ → Result A LineError) (text : A → List ℕ) (Fits : A → Type 0) : Type 0 where
  pub sound : (fields : Fields) (x : A × Fields) → value_at read fields ≡ Ok x → (fields ≡ text x.0 ∷ x.1) × Fits x.0
  pub complete : (value : A) (rest : Fields) → Fits value → value_at read (text value ∷ rest) ≡ Ok (value, rest)

u32_prints : Prints (spelled_by u32_of) decimal (λ n. n ≤ 4294967295)
u32_prints = record {
  sound = λ fields x h. let v = value_sound (spelled_by u32_of) IsU32 exact_u32 fields x h in (v.1 ∙ ap (λ (t : List ℕ). t ∷ x.1) v.2.spelled, v.2.within);
  complete = λ n rest h. value_complete (spelled_by u32_of) IsU32 exact_u32 (decimal n) rest n (record { spelled = refl; within = h });
}

u16_prints : Prints (spelled_by u16_of) decimal (λ n. n ≤ 65535)
u16_prints = record {
  sound = λ fields x h. let v = value_sound (spelled_by u16_of) IsU16 exact_u16 fields x h in (v.1 ∙ ap (λ (t : List ℕ). t ∷ x.1) v.2.spelled, v.2.within);
  complete = λ n rest h. value_complete (spelled_by u16_of) IsU16 exact_u16 (decimal n) rest n (record { spelled = refl; within = h });
}

mode_prints : Prints (spelled_by interest_mode_of) interest_mode_text (λ m. Unit {0})
mode_prints = record {
  sound = λ fields x h. let v = value_sound (spelled_by interest_mode_of) IsInterestMode exact_interest_mode fields x h in (v.1 ∙ ap (λ (t : List ℕ). t ∷ x.1) v.2, tt);
  complete = λ m rest h. value_complete (spelled_by interest_mode_of) IsInterestMode exact_interest_mode (interest_mode_text m) rest m refl;
}

flag_prints : Prints (spelled_by flag_of) flag_text (λ m. Unit {0})
flag_prints = record {
  sound = λ fields x h. let v = value_sound (spelled_by flag_of) IsFlag exact_flag fields x h in (v.1 ∙ ap (λ (t : List ℕ). t ∷ x.1) v.2, tt);
  complete = λ m rest h. value_complete (spelled_by flag_of) IsFlag exact_flag (flag_text m) rest m refl;
}

options_prints : Prints (spelled_by options_of) options_text (λ o. o.0 < 32)
options_prints = record {
  sound = λ fields x h. let v = value_sound (spelled_by options_of) IsOptions exact_options fields x h in (v.1 ∙ ap (λ (t : List ℕ). t ∷ x.1) v.2.spelled, v.2.known);
  complete = λ o rest h. value_complete (spelled_by options_of) IsOptions exact_options (options_text o) rest o (record { spelled = refl; known = h });
}

-- the fields behind a message line's mark
abbrev fields_behind : {K : Type 0} → (K → List ℕ) → Sent K → Fields
fields_behind printed sent = decimal sent.gateway ∷ decimal sent.face ∷ message_fields printed sent.message

-- ---- a line that is read is the printed form of what it is read as, where keys have one spelling

module _ {K : Type 0} (reading : List ℕ → Result K KeyError) (printed : K → List ℕ) (spelling : OneSpelling reading printed) where
  key_sound : (fields : Fields) (x : K × Fields) → value_at (key_read reading) fields ≡ Ok x → fields ≡ printed x.0 ∷ x.1
  key_sound fields x h = let v = value_sound (key_read reading) (IsKey reading) (exact_key reading) fields x h in v.1 ∙ ap (λ (t : List ℕ). t ∷ x.1) (sym (spelling v.0 x.0 v.2.accepted))

  last_sound : (fields : Fields) (key : K) → last_key_at reading fields ≡ Ok key → fields ≡ printed key ∷ []
  unfolding last_key_at
  last_sound fields key h =
      let a = bind_ok (value_at (key_read reading) fields) _ key h in
      let z = bind_ok (end_at a.0.1) _ key a.2 in
      let v = key_sound fields a.0 a.1 in
      v ∙ (ap (λ (t : Fields). printed a.0.0 ∷ t) (end_sound a.0.1 z.0 z.1) ∙ ap (λ (k : K). printed k ∷ []) (ok_is a.0.0 key z.2))

  optional_sound : (fields : Fields) (o : Option K) → last_optional_key_at reading fields ≡ Ok o → fields ≡ key_fields printed o
  unfolding last_optional_key_at
  optional_sound [] o h = ap (key_fields printed) (ok_is None o h)
  optional_sound (field ∷ fields) o h =
      let a = bind_ok (last_key_at reading (field ∷ fields)) _ o h in
      last_sound (field ∷ fields) a.0 a.1 ∙ ap (key_fields printed) (ok_is (Some a.0) o a.2)

  token_sound : (fields : Fields) (m : Message K) → token_at reading fields ≡ Ok m → (codes "token" ∷ fields ≡ message_fields printed m) × IsMessage m
  unfolding token_at
  token_sound fields m h =
      let a = bind_ok (value_at (spelled_by u32_of) fields) _ m h in
      let b = bind_ok (value_at (spelled_by u16_of) a.0.1) _ m a.2 in
      let z = bind_ok (last_key_at reading b.0.1) _ m b.2 in
      let made : Message K = DeclareToken a.0.0 z.0 None b.0.0 in
      let aa = u32_prints.sound fields a.0 a.1 in
      let bb = u16_prints.sound a.0.1 b.0 b.1 in
      let same : codes "token" ∷ fields ≡ message_fields printed made = ap (λ (t : Fields). codes "token" ∷ t) (aa.0 ∙ ap (λ (t : Fields). decimal a.0.0 ∷ t) (bb.0 ∙ ap (λ (t : Fields). decimal b.0.0 ∷ t) (last_sound b.0.1 z.0 z.1))) in
      let fits : IsMessage made = (aa.1, tt, bb.1) in
      subst (λ (n : Message K). (codes "token" ∷ fields ≡ message_fields printed n) × IsMessage n) (ok_is made m z.2) (same, fits)

  answer_sound : (fields : Fields) (m : Message K) → answer_at reading fields ≡ Ok m → (codes "answer" ∷ fields ≡ message_fields printed m) × IsMessage m
  unfolding answer_at
  answer_sound fields m h =
      let a = bind_ok (value_at (spelled_by u32_of) fields) _ m h in
      let b = bind_ok (value_at (spelled_by u32_of) a.0.1) _ m a.2 in
      let c = bind_ok (value_at (spelled_by u16_of) b.0.1) _ m b.2 in
      let z = bind_ok (last_key_at reading c.0.1) _ m c.2 in
      let made : Message K = DeclareToken b.0.0 z.0 (Some a.0.0) c.0.0 in
      let aa = u32_prints.sound fields a.0 a.1 in
      let bb = u32_prints.sound a.0.1 b.0 b.1 in
      let cc = u16_prints.sound b.0.1 c.0 c.1 in
      let same : codes "answer" ∷ fields ≡ message_fields printed made = ap (λ (t : Fields). codes "answer" ∷ t) (aa.0 ∙ ap (λ (t : Fields). decimal a.0.0 ∷ t) (bb.0 ∙ ap (λ (t : Fields). decimal b.0.0 ∷ t) (cc.0 ∙ ap (λ (t : Fields). decimal c.0.0 ∷ t) (last_sound c.0.1 z.0 z.1)))) in
      let fits : IsMessage made = (bb.1, aa.1, cc.1) in
      subst (λ (n : Message K). (codes "answer" ∷ fields ≡ message_fields printed n) × IsMessage n) (ok_is made m z.2) (same, fits)

  untoken_sound : (fields : Fields) (m : Message K) → untoken_at reading fields ≡ Ok m → (codes "untoken" ∷ fields ≡ message_fields printed m) × IsMessage m
  unfolding untoken_at
  untoken_sound fields m h =
      let a = bind_ok (value_at (spelled_by u32_of) fields) _ m h in
      let b = bind_ok (value_at (spelled_by u16_of) a.0.1) _ m a.2 in
      let z = bind_ok (last_optional_key_at reading b.0.1) _ m b.2 in
      let made : Message K = UndeclareToken a.0.0 z.0 b.0.0 in
      let aa = u32_prints.sound fields a.0 a.1 in
      let bb = u16_prints.sound a.0.1 b.0 b.1 in
      let same : codes "untoken" ∷ fields ≡ message_fields printed made = ap (λ (t : Fields). codes "untoken" ∷ t) (aa.0 ∙ ap (λ (t : Fields). decimal a.0.0 ∷ t) (bb.0 ∙ ap (λ (t : Fields). decimal b.0.0 ∷ t) (optional_sound b.0.1 z.0 z.1))) in
      let fits : IsMessage made = (aa.1, bb.1) in
      subst (λ (n : Message K). (codes "untoken" ∷ fields ≡ message_fields printed n) × IsMessage n) (ok_is made m z.2) (same, fits)

  final_sound : (fields : Fields) (m : Message K) → final_at fields ≡ Ok m → (codes "final" ∷ fields ≡ message_fields printed m) × IsMessage m
  unfolding final_at
  final_sound fields m h =
      let a = bind_ok (value_at (spelled_by u32_of) fields) _ m h in
      let z = bind_ok (end_at a.0.1) _ m a.2 in
      let made : Message K = DeclareFinal a.0.0 in
      let aa = u32_prints.sound fields a.0 a.1 in
      let same : codes "final" ∷ fields ≡ message_fields printed made = ap (λ (t : Fields). codes "final" ∷ t) (aa.0 ∙ ap (λ (t : Fields). decimal a.0.0 ∷ t) (end_sound a.0.1 z.0 z.1)) in
      let fits : IsMessage made = aa.1 in
      subst (λ (n : Message K). (codes "final" ∷ fields ≡ message_fields printed n) × IsMessage n) (ok_is made m z.2) (same, fits)

  asked_sound : (fields : Fields) (m : Message K) → asked_at reading fields ≡ Ok m → (codes "interest" ∷ fields ≡ message_fields printed m) × IsMessage m
  unfolding asked_at
  asked_sound fields m h =
      let a = bind_ok (value_at (spelled_by u32_of) fields) _ m h in
      let b = bind_ok (value_at (spelled_by interest_mode_of) a.0.1) _ m a.2 in
      let c = bind_ok (value_at (spelled_by options_of) b.0.1) _ m b.2 in
      let z = bind_ok (last_optional_key_at reading c.0.1) _ m c.2 in
      let made : Message K = Interest a.0.0 b.0.0 c.0.0 z.0 in
      let aa = u32_prints.sound fields a.0 a.1 in
      let bb = mode_prints.sound a.0.1 b.0 b.1 in
      let cc = options_prints.sound b.0.1 c.0 c.1 in
      let same : codes "interest" ∷ fields ≡ message_fields printed made = ap (λ (t : Fields). codes "interest" ∷ t) (aa.0 ∙ ap (λ (t : Fields). decimal a.0.0 ∷ t) (bb.0 ∙ ap (λ (t : Fields). interest_mode_text b.0.0 ∷ t) (cc.0 ∙ ap (λ (t : Fields). options_text c.0.0 ∷ t) (optional_sound c.0.1 z.0 z.1)))) in
      let fits : IsMessage made = (aa.1, cc.1) in
      subst (λ (n : Message K). (codes "interest" ∷ fields ≡ message_fields printed n) × IsMessage n) (ok_is made m z.2) (same, fits)

  asked_final_sound : (fields : Fields) (m : Message K) → asked_final_at fields ≡ Ok m → (codes "interest-final" ∷ fields ≡ message_fields printed m) × IsMessage m
  unfolding asked_final_at
  asked_final_sound fields m h =
      let a = bind_ok (value_at (spelled_by u32_of) fields) _ m h in
      let z = bind_ok (end_at a.0.1) _ m a.2 in
      let made : Message K = InterestFinal a.0.0 in
      let aa = u32_prints.sound fields a.0 a.1 in
      let same : codes "interest-final" ∷ fields ≡ message_fields printed made = ap (λ (t : Fields). codes "interest-final" ∷ t) (aa.0 ∙ ap (λ (t : Fields). decimal a.0.0 ∷ t) (end_sound a.0.1 z.0 z.1)) in
      let fits : IsMessage made = aa.1 in
      subst (λ (n : Message K). (codes "interest-final" ∷ fields ≡ message_fields printed n) × IsMessage n) (ok_is made m z.2) (same, fits)

  subscriber_message_sound : (fields : Fields) (m : Message K) → subscriber_message_at reading fields ≡ Ok m → (codes "subscriber" ∷ fields ≡ message_fields printed m) × IsMessage m
  unfolding subscriber_message_at
  subscriber_message_sound fields m h =
      let a = bind_ok (value_at (spelled_by u32_of) fields) _ m h in
      let b = bind_ok (value_at (spelled_by u32_of) a.0.1) _ m a.2 in
      let z = bind_ok (last_key_at reading b.0.1) _ m b.2 in
      let made : Message K = DeclareSubscriber b.0.0 z.0 a.0.0 in
      let aa = u32_prints.sound fields a.0 a.1 in
      let bb = u32_prints.sound a.0.1 b.0 b.1 in
      let same : codes "subscriber" ∷ fields ≡ message_fields printed made = ap (λ (t : Fields). codes "subscriber" ∷ t) (aa.0 ∙ ap (λ (t : Fields). decimal a.0.0 ∷ t) (bb.0 ∙ ap (λ (t : Fields). decimal b.0.0 ∷ t) (last_sound b.0.1 z.0 z.1))) in
      let fits : IsMessage made = (bb.1, aa.1) in
      subst (λ (n : Message K). (codes "subscriber" ∷ fields ≡ message_fields printed n) × IsMessage n) (ok_is made m z.2) (same, fits)

  queryable_message_sound : (fields : Fields) (m : Message K) → queryable_message_at reading fields ≡ Ok m → (codes "queryable" ∷ fields ≡ message_fields printed m) × IsMessage m
  unfolding queryable_message_at
  queryable_message_sound fields m h =
      let a = bind_ok (value_at (spelled_by u32_of) fields) _ m h in
      let b = bind_ok (value_at (spelled_by u32_of) a.0.1) _ m a.2 in
      let c = bind_ok (value_at (spelled_by flag_of) b.0.1) _ m b.2 in
      let d = bind_ok (value_at (spelled_by u16_of) c.0.1) _ m c.2 in
      let z = bind_ok (last_key_at reading d.0.1) _ m d.2 in
      let made : Message K = DeclareQueryable b.0.0 z.0 (record { complete = c.0.0; distance = d.0.0 }) a.0.0 in
      let aa = u32_prints.sound fields a.0 a.1 in
      let bb = u32_prints.sound a.0.1 b.0 b.1 in
      let cc = flag_prints.sound b.0.1 c.0 c.1 in
      let dd = u16_prints.sound c.0.1 d.0 d.1 in
      let same : codes "queryable" ∷ fields ≡ message_fields printed made = ap (λ (t : Fields). codes "queryable" ∷ t) (aa.0 ∙ ap (λ (t : Fields). decimal a.0.0 ∷ t) (bb.0 ∙ ap (λ (t : Fields). decimal b.0.0 ∷ t) (cc.0 ∙ ap (λ (t : Fields). flag_text c.0.0 ∷ t) (dd.0 ∙ ap (λ (t : Fields). decimal d.0.0 ∷ t) (last_sound d.0.1 z.0 z.1))))) in
      let fits : IsMessage made = (bb.1, aa.1, dd.1) in
      subst (λ (n : Message K). (codes "queryable" ∷ fields ≡ message_fields printed n) × IsMessage n) (ok_is made m z.2) (same, fits)

  abbrev IsFound : List ℕ → Fields → Message K → Type 0
  IsFound word fields m = (word ∷ fields ≡ message_fields printed m) × IsMessage m

  word_row : (word spelled : List ℕ) (fields : Fields) (here others : Result (Message K) LineError) (m : Message K) → (here ≡ Ok m → IsFound spelled fields m) → (others ≡ Ok m → IsFound word fields m)
      → cond (bytes_eq word spelled) here others ≡ Ok m → IsFound word fields m
  word_row word spelled fields here others m this that h =
      elim (chosen (bytes_eq word spelled) here others (Ok m) h) [
        | inl g ↦ subst (λ (t : List ℕ). IsFound t fields m) (sym (same_bytes word spelled g.0)) (this g.1)
        | inr g ↦ that g.1
      ]

  message_sound : (word : List ℕ) (fields : Fields) (m : Message K) → message_by reading word fields ≡ Ok m → IsFound word fields m
  unfolding message_by
  message_sound word fields m =
      (word_row word (codes "token") fields (token_at reading fields) _ m (token_sound fields m)
      (word_row word (codes "answer") fields (answer_at reading fields) _ m (answer_sound fields m)
      (word_row word (codes "untoken") fields (untoken_at reading fields) _ m (untoken_sound fields m)
      (word_row word (codes "final") fields (final_at fields) _ m (final_sound fields m)
      (word_row word (codes "interest") fields (asked_at reading fields) _ m (asked_sound fields m)
      (word_row word (codes "interest-final") fields (asked_final_at fields) _ m (asked_final_sound fields m)
      (word_row word (codes "subscriber") fields (subscriber_message_at reading fields) _ m (subscriber_message_sound fields m)
      (word_row word (codes "queryable") fields (queryable_message_at reading fields) _ m (queryable_message_sound fields m)
      (λ h. absurd cc)))))))))

  behind_sound : (fields : Fields) (sent : Sent K) → sent_behind reading fields ≡ Ok sent → (fields ≡ fields_behind printed sent) × IsSent sent
  unfolding sent_behind
  behind_sound fields sent h =
      let a = bind_ok (value_at (spelled_by u32_of) fields) _ sent h in
      let b = bind_ok (value_at (spelled_by u32_of) a.0.1) _ sent a.2 in
      let c = bind_ok (field_at b.0.1) _ sent b.2 in
      let d = bind_ok (message_by reading c.0.0 c.0.1) _ sent c.2 in
      let made : Sent K = record { gateway = a.0.0; face = b.0.0; message = d.0 } in
      let aa = u32_prints.sound fields a.0 a.1 in
      let bb = u32_prints.sound a.0.1 b.0 b.1 in
      let mm = message_sound c.0.0 c.0.1 d.0 d.1 in
      let same : fields ≡ fields_behind printed made = aa.0 ∙ ap (λ (t : Fields). decimal a.0.0 ∷ t) (bb.0 ∙ ap (λ (t : Fields). decimal b.0.0 ∷ t) (field_is b.0.1 c.0 c.1 ∙ mm.0)) in
      let fits : IsSent made = record { gateway = aa.1; face = bb.1; message = mm.1 } in
      subst (λ (s : Sent K). (fields ≡ fields_behind printed s) × IsSent s) (ok_is made sent d.2) (same, fits)
    where
      field_is : (fields : Fields) (x : List ℕ × Fields) → field_at fields ≡ Ok x → fields ≡ x.0 ∷ x.1
      field_is [] x h = absurd cc
      field_is (field ∷ rest) x h = let same = ok_is (field, rest) x h in ap (λ (p : List ℕ × Fields). p.0 ∷ p.1) same

  at_sound : (fields : Fields) (sent : Sent K) → sent_at reading fields ≡ Ok sent → (fields ≡ codes ">" ∷ fields_behind printed sent) × IsSent sent
  unfolding sent_at
  at_sound [] sent h = absurd cc
  at_sound (mark ∷ rest) sent h =
      elim (chosen (bytes_eq mark (codes ">")) (sent_behind reading rest) _ (Ok sent) h) [
        | inl g ↦
            let b = behind_sound rest sent g.1 in
            (ap (λ (t : List ℕ). t ∷ rest) (same_bytes mark (codes ">") g.0) ∙ ap (λ (t : Fields). codes ">" ∷ t) b.0, b.1)
        | inr g ↦ absurd cc
      ]

  settled_ok : {A : Type 0} (r : Result A LineError) (x : A) → settled r ≡ Ok x → r ≡ Ok x
  settled_ok (Ok y) x h = h
  settled_ok (Err e) x h = absurd cc

  pub read_sound : (bytes : List ℕ) (sent : Sent K) → sent_read reading bytes ≡ Ok sent → IsSent sent × (bytes ++ 10 ∷ [] ≡ sent_text printed sent)
  unfolding sent_read
  read_sound bytes sent h =
      elim (chosen (is_utf8 bytes) (settled (sent_at reading (fields_of bytes))) (Err errors.NotUtf8) (Ok sent) h) [
        | inl g ↦
            let s = at_sound (fields_of bytes) sent (settled_ok (sent_at reading (fields_of bytes)) sent g.1) in
            (s.1, ap (λ (t : List ℕ). t ++ 10 ∷ []) (line_from_fields bytes (codes ">") (fields_behind printed sent) s.0) ∙ append_assoc (codes ">") (spaced (fields_behind printed sent)) (10 ∷ []))
        | inr g ↦ absurd cc
      ]

-- ---- a printed message is read back

module _ {K : Type 0} (cmp : K → K → Ordering) (matching : K → K → Bool) (reading : List ℕ → Result K KeyError) (printed : K → List ℕ) (anchored : Anchor → K → Option ℕ) (laws : KeyLaws cmp matching reading printed anchored) where
  key_complete : (key : K) (rest : Fields) → value_at (key_read reading) (printed key ∷ rest) ≡ Ok (key, rest)
  key_complete key rest = value_complete (key_read reading) (IsKey reading) (exact_key reading) (printed key) rest key (record { nonempty = laws.prints_some key; unblanked = laws.prints_no_blank key; accepted = laws.reads_back key })

  last_complete : (key : K) → last_key_at reading (printed key ∷ []) ≡ Ok key
  unfolding last_key_at
  last_complete key = rw (key_complete key []) refl

  optional_complete : (o : Option K) → last_optional_key_at reading (key_fields printed o) ≡ Ok o
  unfolding last_optional_key_at
  optional_complete None = refl
  optional_complete (Some key) = rw (last_complete key) refl

  -- the word of a message and the fields behind it, and that these are read as the message
  message_complete : (m : Message K) → IsMessage m → (word : List ℕ) × (fields : Fields) × (message_fields printed m ≡ word ∷ fields) × (message_by reading word fields ≡ Ok m)
  unfolding message_by token_at answer_at untoken_at final_at asked_at asked_final_at subscriber_message_at queryable_message_at
  message_complete (DeclareToken id expr None node) h =
      (codes "token", decimal id ∷ decimal node ∷ printed expr ∷ [], refl, rw (u32_prints.complete id (decimal node ∷ printed expr ∷ []) h.0, u16_prints.complete node (printed expr ∷ []) h.2, last_complete expr) refl)
  message_complete (DeclareToken id expr (Some interest) node) h =
      (codes "answer", decimal interest ∷ decimal id ∷ decimal node ∷ printed expr ∷ [], refl, rw (u32_prints.complete interest (decimal id ∷ decimal node ∷ printed expr ∷ []) h.1, u32_prints.complete id (decimal node ∷ printed expr ∷ []) h.0, u16_prints.complete node (printed expr ∷ []) h.2, last_complete expr) refl)
  message_complete (UndeclareToken id expr node) h =
      (codes "untoken", decimal id ∷ decimal node ∷ key_fields printed expr, refl, rw (u32_prints.complete id (decimal node ∷ key_fields printed expr) h.0, u16_prints.complete node (key_fields printed expr) h.1, optional_complete expr) refl)
  message_complete (DeclareFinal interest) h =
      (codes "final", decimal interest ∷ [], refl, rw (u32_prints.complete interest [] h) refl)
  message_complete (Interest id mode options expr) h =
      (codes "interest", decimal id ∷ interest_mode_text mode ∷ options_text options ∷ key_fields printed expr, refl, rw (u32_prints.complete id (interest_mode_text mode ∷ options_text options ∷ key_fields printed expr) h.0, mode_prints.complete mode (options_text options ∷ key_fields printed expr) tt, options_prints.complete options (key_fields printed expr) h.1, optional_complete expr) refl)
  message_complete (InterestFinal id) h =
      (codes "interest-final", decimal id ∷ [], refl, rw (u32_prints.complete id [] h) refl)
  message_complete (DeclareSubscriber id expr interest) h =
      (codes "subscriber", decimal interest ∷ decimal id ∷ printed expr ∷ [], refl, rw (u32_prints.complete interest (decimal id ∷ printed expr ∷ []) h.1, u32_prints.complete id (printed expr ∷ []) h.0, last_complete expr) refl)
  message_complete (DeclareQueryable id expr info interest) h =
      (codes "queryable", decimal interest ∷ decimal id ∷ flag_text info.complete ∷ decimal info.distance ∷ printed expr ∷ [], refl, rw (u32_prints.complete interest (decimal id ∷ flag_text info.complete ∷ decimal info.distance ∷ printed expr ∷ []) h.1, u32_prints.complete id (flag_text info.complete ∷ decimal info.distance ∷ printed expr ∷ []) h.0, flag_prints.complete info.complete (decimal info.distance ∷ printed expr ∷ []) tt, u16_prints.complete info.distance (printed expr ∷ []) h.2, last_complete expr) refl)

  at_complete : (sent : Sent K) → IsSent sent → sent_at reading (codes ">" ∷ fields_behind printed sent) ≡ Ok sent
  unfolding sent_at sent_behind
  at_complete sent fits =
      let m = message_complete sent.message fits.message in
      rw (u32_prints.complete sent.gateway (decimal sent.face ∷ message_fields printed sent.message) fits.gateway, u32_prints.complete sent.face (message_fields printed sent.message) fits.face, m.2, m.3) refl

  -- ---- fields without spaces

  clean_key : (key : K) → Clean (printed key)
  clean_key key = clean_key_bytes (printed key) (laws.prints_utf8 key) (laws.prints_no_blank key)

  clean_keys : (o : Option K) → AllClean (key_fields printed o)
  clean_keys None = tt
  clean_keys (Some key) = (clean_key key, tt)

  clean_u32 : (n : ℕ) → n ≤ 4294967295 → Clean (decimal n)
  clean_u32 n h = clean_decimal n (omega (arith, h))

  clean_u16 : (n : ℕ) → n ≤ 65535 → Clean (decimal n)
  clean_u16 n h = clean_decimal n (omega (arith, h))

  clean_mode : (mode : InterestMode) → Clean (interest_mode_text mode)
  clean_mode Current = clean_plain (codes "current") refl
  clean_mode Future = clean_plain (codes "future") refl
  clean_mode CurrentFuture = clean_plain (codes "current-future") refl

  clean_flag : (flag : Bool) → Clean (flag_text flag)
  clean_flag false = clean_plain (codes "0") refl
  clean_flag true = clean_plain (codes "1") refl

  abbrev plain_options : ℕ → Bool
  plain_options n = is_plain (options_text (record { 0 = n }))

  clean_options : (options : InterestOptions) → options.0 < 32 → Clean (options_text options)
  clean_options options h = clean_plain (options_text options) (below_at plain_options 32 options.0 refl h)

  clean_message : (m : Message K) → IsMessage m → AllClean (message_fields printed m)
  clean_message (DeclareToken id expr None node) h = (clean_plain (codes "token") refl, (clean_u32 id h.0, (clean_u16 node h.2, (clean_key expr, tt))))
  clean_message (DeclareToken id expr (Some interest) node) h = (clean_plain (codes "answer") refl, (clean_u32 interest h.1, (clean_u32 id h.0, (clean_u16 node h.2, (clean_key expr, tt)))))
  clean_message (UndeclareToken id expr node) h = (clean_plain (codes "untoken") refl, (clean_u32 id h.0, (clean_u16 node h.1, clean_keys expr)))
  clean_message (DeclareFinal interest) h = (clean_plain (codes "final") refl, (clean_u32 interest h, tt))
  clean_message (Interest id mode options expr) h = (clean_plain (codes "interest") refl, (clean_u32 id h.0, (clean_mode mode, (clean_options options h.1, clean_keys expr))))
  clean_message (InterestFinal id) h = (clean_plain (codes "interest-final") refl, (clean_u32 id h, tt))
  clean_message (DeclareSubscriber id expr interest) h = (clean_plain (codes "subscriber") refl, (clean_u32 interest h.1, (clean_u32 id h.0, (clean_key expr, tt))))
  clean_message (DeclareQueryable id expr info interest) h = (clean_plain (codes "queryable") refl, (clean_u32 interest h.1, (clean_u32 id h.0, (clean_flag info.complete, (clean_u16 info.distance h.2, (clean_key expr, tt))))))

  clean_sent : (sent : Sent K) → IsSent sent → AllClean (fields_behind printed sent)
  clean_sent sent fits = (clean_u32 sent.gateway fits.gateway, (clean_u32 sent.face fits.face, clean_message sent.message fits.message))

  -- ---- the line

  pub read_complete : (bytes : List ℕ) (sent : Sent K) → IsSent sent → bytes ++ 10 ∷ [] ≡ sent_text printed sent → sent_read reading bytes ≡ Ok sent
  unfolding sent_read
  read_complete bytes sent fits line =
      let clean = clean_sent sent fits in
      let mark = clean_plain (codes ">") refl in
      let is : bytes ≡ codes ">" ++ spaced (fields_behind printed sent) = append_cancel_right bytes (codes ">" ++ spaced (fields_behind printed sent)) (10 ∷ []) (line ∙ sym (append_assoc (codes ">") (spaced (fields_behind printed sent)) (10 ∷ []))) in
      let text : is_utf8 bytes ≡ true = ap is_utf8 is ∙ is_utf8-from_IsUtf8 (codes ">" ++ spaced (fields_behind printed sent)) (text_of_line (codes ">") (fields_behind printed sent) mark clean) in
      let parts : fields_of bytes ≡ codes ">" ∷ fields_behind printed sent = ap fields_of is ∙ fields_of_line (codes ">") (fields_behind printed sent) mark clean in
      cond-true _ _ _ text ∙ ap settled (ap (sent_at reading) parts ∙ at_complete sent fits)

  -- a message's line, before the line feed
  abbrev pub sent_line : Sent K → List ℕ
  sent_line sent = codes ">" ++ spaced (fields_behind printed sent)

  pub line_feedless : (sent : Sent K) → IsSent sent → AllByRecursion (λ b. is_byte 10 b ≡ false) (sent_line sent)
  line_feedless sent fits = feedless_line (codes ">") (fields_behind printed sent) (clean_plain (codes ">") refl) (clean_sent sent fits)

  pub same_sent : (one two : Sent K) → IsSent one → IsSent two → sent_line one ≡ sent_line two → one ≡ two
  same_sent one two p q h =
      let read = read_complete (sent_line one) one p (append_assoc (codes ">") (spaced (fields_behind printed one)) (10 ∷ [])) in
      let also = read_complete (sent_line two) two q (append_assoc (codes ">") (spaced (fields_behind printed two)) (10 ∷ [])) in
      ok_is one two (sym read ∙ (ap (sent_read reading) h ∙ also))
