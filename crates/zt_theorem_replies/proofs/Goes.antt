-- Parts of calls that send an ask what is due to it.
use Rattle.std.proofs.Common.{◌≡◌, ℕ, Bool, true, false, not, if◌then◌else◌, ◌&&◌, ◌==◌, List, [], ◌∷◌, ◌++◌, filter, Option, Some, None, is_some, option_map, refl, sym, ap, ◌∙◌, subst, eqb-true}
use Rattle.std.proofs.lemmas.Bool.{and_parts}
use Rattle.std.specs.List.{flat_map}
use Rattle.std.specs.declared.cmp.Ordering.{Ordering}
use Rattle.zt_protocol.specs.Interest.{is_current, is_future}
use Rattle.zt_protocol.specs.declared.messages.Message.{Message}
use Rattle.zt_protocol.specs.declared.messages.Message.TheVariants as message
use Rattle.zt_model.specs.Closing.{closing, expiring, is_expired, leaving, without_face}
use Rattle.zt_model.specs.Hearing.{messages_for, rows_heard}
use Rattle.zt_model.specs.Lists.{at_id, has_id, is_some_and}
use Rattle.zt_model.specs.Parts.{unsaid_to}
use Rattle.zt_model.specs.Routing.{end_upstream_to, ended, ending, final_of_both, finalising, finish_to, finishing, initial_finalised, is_finished_by, unheld, untell_to}
use Rattle.zt_model.specs.Rows.{Ask, Face, InterestRow, Pending, Rows}
use Rattle.zt_model.specs.Says.{Alter, Part, Say, Sends, is_routed, said_by, to_each, to_face, with_face}
use Rattle.zt_model.specs.Transcript.{Each}
use Rattle.zt_laws.proofs.Hearing.{each_ruled, each_ruled_one, messages_for-append}
use Rattle.zt_laws.proofs.Lists.{by_test, each_both, each_front, never, of_cond}
use Rattle.zt_laws.proofs.PartsOrder.{each_message_for}
use Rattle.zt_theorem_soundness.specs.Ran.{ran}
use Rattle.zt_theorem_soundness.proofs.Closing.{spares_one}
use Rattle.zt_theorem_soundness.proofs.Parts.{Spares, nobody, only}
use Rattle.zt_theorem_soundness.proofs.Running.{ran-append, said_by-append}
use Rattle.zt_theorem_soundness.proofs.Tokens.{spares_nothing}
use Rattle.zt_theorem_visibility.proofs.Saying.{SaysEach, end_upstream_says, leaving_says, unsaid_each, untell_says}
use Rattle.zt_theorem_finals.proofs.Closing.{leaving_splits, still_before, still_before_still}
use Rattle.zt_theorem_finals.proofs.Ending.{StillMessage, ended_beside, leaves_face}
use Rattle.zt_theorem_finals.proofs.Still.{PartKeeps, StillPart, keep_if_still, unheld_still, untell_still}
use Rattle.zt_theorem_replies.proofs.Due.{IsSilent, answered_at, are_due, due_append, finals_due, silent_due, state-append, state_after}
use Rattle.zt_theorem_replies.proofs.Faces.{AskIs, ask_heard, ask_left, ask_without, each_due, face_due}

module _ {K : Type 0} (cmp : K → K → Ordering) (matching : K → K → Bool) (n id : ℕ) where
  -- what is sent is due to the ask, and it is then what that makes of it
  pub record Outcome (s : Option (List K)) (h : Rows K) (ms : List (Message K)) : Type 0 where
    pub due : are_due cmp id ms s ≡ true
    pub ask : AskIs cmp matching n id (state_after cmp id ms s) h

  abbrev pub Goes : List (Part K) → Type 0
  Goes parts = (s : Option (List K)) (g : Rows K) → AskIs cmp matching n id s g → Outcome s (ran cmp parts g) (messages_for n (said_by cmp matching parts g))

  pub outcome_then : (s : Option (List K)) (h k : Rows K) (xs ys : List (Message K)) → Outcome s h xs → Outcome (state_after cmp id xs s) k ys → Outcome s k (xs ++ ys)
  outcome_then s h k xs ys one two = record {
    due = due_append cmp id xs ys s one.due two.due;
    ask = subst (λ t. AskIs cmp matching n id t k) (sym (state-append cmp id xs ys s)) two.ask;
  }

  pub goes_nothing : Goes []
  unfolding ran said_by messages_for
  goes_nothing s g is = record { due = refl; ask = is }

  pub goes_alter : (change : Rows K → Rows K) (parts : List (Part K)) → ((s : Option (List K)) (g : Rows K) → AskIs cmp matching n id s g → AskIs cmp matching n id s (change g)) → Goes parts → Goes (Alter change ∷ parts)
  unfolding ran said_by
  goes_alter change parts one rest s g is = rest s (change g) (one s g is)

  pub goes_say : (rule : Rows K → Sends K) (parts : List (Part K)) → ((s : Option (List K)) (g : Rows K) → AskIs cmp matching n id s g → are_due cmp id (messages_for n (rule g)) s ≡ true) → Goes parts → Goes (Say rule ∷ parts)
  unfolding ran said_by
  goes_say rule parts one rest s g is =
      let ss = rule g in
      let h = rows_heard cmp ss g in
      let xs = messages_for n ss in
      let first : Outcome s h xs = record { due = one s g is; ask = ask_heard cmp matching n id s ss g is } in
      subst (Outcome s (ran cmp parts h)) (sym (messages_for-append n ss (said_by cmp matching parts h)))
      (outcome_then s h (ran cmp parts h) xs (messages_for n (said_by cmp matching parts h)) first (rest (state_after cmp id xs s) h first.ask))

  pub goes_append : (ps qs : List (Part K)) → Goes ps → Goes qs → Goes (ps ++ qs)
  goes_append ps qs first second s g is =
      let one = first s g is in
      let h = ran cmp ps g in
      let xs = messages_for n (said_by cmp matching ps g) in
      let ys = messages_for n (said_by cmp matching qs h) in
      let split : messages_for n (said_by cmp matching (ps ++ qs) g) ≡ xs ++ ys = ap (messages_for n) (said_by-append cmp matching ps qs g) ∙ messages_for-append n (said_by cmp matching ps g) (said_by cmp matching qs h) in
      subst (Outcome s (ran cmp (ps ++ qs) g)) (sym split)
      (subst (λ (k : Rows K). Outcome s k (xs ++ ys)) (sym (ran-append cmp ps qs g)) (outcome_then s h (ran cmp qs h) xs ys one (second (state_after cmp id xs s) h one.ask)))

  pub goes_all : {A : Type 0} (parts : A → List (Part K)) (xs : List A) → ((x : A) → Goes (parts x)) → Goes (flat_map parts xs)
  goes_all parts [] one = goes_nothing
  goes_all parts (x ∷ xs) one = goes_append (parts x) (flat_map parts xs) (one x) (goes_all parts xs one)

  -- ---- parts that are nothing to the ask

  pub due_if_silent : (ss : Sends K) (s : Option (List K)) → Each (λ t. IsSilent cmp id t.1) ss → are_due cmp id (messages_for n ss) s ≡ true
  due_if_silent ss s silent = silent_due cmp id (messages_for n ss) s (each_message_for cmp (IsSilent cmp id) n ss silent)

  pub goes_silent : (but : ℕ → Bool) → but n ≡ false → (parts : List (Part K)) → Each (PartKeeps cmp matching but) parts → Each (SaysEach cmp matching (IsSilent cmp id)) parts → Goes parts
  goes_silent but apart [] keep silent = goes_nothing
  goes_silent but apart (Alter change ∷ parts) keep silent = goes_alter change parts (λ s g is. ask_left cmp matching n id but s g (change g) apart (keep.0 g) is) (goes_silent but apart parts keep.1 silent.1)
  goes_silent but apart (Say rule ∷ parts) keep silent = goes_say rule parts (λ s g is. due_if_silent (rule g) s (silent.0 g)) (goes_silent but apart parts keep.1 silent.1)

  -- ---- ends

  goes_ending_spared : (but : ℕ → Bool) (spare : Sends K → Sends K) → Spares but spare → but n ≡ false → (k i : ℕ) → Goes (Alter (with_face k (ended i)) ∷ Say (λ g. spare (to_each (finish_to g k i) g.faces)) ∷ [])
  unfolding finish_to
  goes_ending_spared but spare spares apart k i =
      goes_alter (with_face k (ended i)) (Say (λ g. spare (to_each (finish_to g k i) g.faces)) ∷ []) (λ s g is. ask_left cmp matching n id but s g (with_face k (ended i) g) apart (leaves_face cmp matching but k (ended i) g (ended_beside cmp matching but i)) is)
      (goes_say (λ g. spare (to_each (finish_to g k i) g.faces)) []
      (λ s g is.
      ap (λ (ms : List (Message K)). are_due cmp id ms s) (spares.speaks n (to_each (finish_to g k i) g.faces) apart)
      ∙ each_due cmp matching n id s (finish_to g k i) g is (λ f own rises. subst (λ t. are_due cmp id (finish_to g k i f) t ≡ true) own (finals_due cmp id (λ row. is_finished_by g k i row.1) 0 f.asks rises)))
      goes_nothing)

  pub goes_ending : (k i : ℕ) → Goes (ending k i)
  goes_ending k i = goes_ending_spared nobody (λ ss. ss) spares_nothing refl k i

  pub goes_finishing : (k i : ℕ) (f : Face K) → Goes (finishing k i f)
  goes_finishing k i f =
      goes_alter (with_face k (initial_finalised i)) (if has_id i f.pendings then ending k i else [])
      (λ s g is. ask_left cmp matching n id nobody s g (with_face k (initial_finalised i) g) refl (leaves_face cmp matching nobody k (initial_finalised i) g (record { number = λ x. refl; region = λ x. refl; asks = λ x apart. refl; none = λ x none_. none_ })) is)
      (of_cond Goes (has_id i f.pendings) (ending k i) [] (λ _. goes_ending k i) (λ _. goes_nothing))

  pub goes_expiring : (now : ℕ) (g : Rows K) → Goes (expiring now g)
  goes_expiring now g =
      let over = λ (f : Face K). flat_map (λ row. ending f.number row.0) (filter (is_expired now g.timeout) f.pendings) in
      goes_alter (λ h. record h { moment = now }) (flat_map over g.faces) (λ s h is. record { rises = is.rises; own = is.own })
      (goes_all over g.faces (λ f. goes_all (λ row. ending f.number row.0) (filter (is_expired now g.timeout) f.pendings) (λ row. goes_ending f.number row.0)))

  both_due : (i : ℕ) (interest : InterestRow K) (f : Face K) (s : Option (List K)) → answered_at cmp id f.asks ≡ s → are_due cmp id (final_of_both i interest f) s ≡ true
  both_due i interest f s own =
      of_cond (λ (ms : List (Message K)). are_due cmp id ms s ≡ true) (is_current interest.mode && is_some_and (at_id i f.asks) (λ ask. is_future ask.interest.mode)) (message.DeclareFinal i ∷ []) []
      (λ ends. by_test (id == i) (λ here. rw here (there (eqb-true id i here) (at_id i f.asks) refl (and_parts _ _ ends).1)) (λ here. rw here refl)) (λ _. refl)
    where
      some_ : (b : Bool) → b ≡ true → (b && true) ≡ true
      some_ b is = rw is refl

      there : id ≡ i → (o : Option (Ask K)) → at_id i f.asks ≡ o → is_some_and (at_id i f.asks) (λ ask. is_future ask.interest.mode) ≡ true → (is_some s && true) ≡ true
      there is None at_ has = never has (ap (λ (o : Option (Ask K)). is_some_and o (λ ask. is_future ask.interest.mode)) at_)
      there is (Some ask) at_ has = some_ (is_some s) (ap is_some (sym own ∙ ap (option_map (λ (a : Ask K). a.answered)) (ap (λ j. at_id j f.asks) is ∙ at_)))

  pub goes_finalising : (k i : ℕ) (interest : InterestRow K) → Goes (finalising cmp matching k i interest)
  goes_finalising k i interest =
      goes_append (Alter (with_face k (unheld i)) ∷ Say (λ g. to_face k (untell_to cmp matching g) g) ∷ []) (Say (to_face k (final_of_both i interest)) ∷ Say (λ g. to_each (end_upstream_to cmp matching g interest) g.faces) ∷ [])
      (goes_silent nobody refl (Alter (with_face k (unheld i)) ∷ Say (λ g. to_face k (untell_to cmp matching g) g) ∷ [])
      (keep_if_still cmp matching nobody (Alter (with_face k (unheld i)) ∷ Say (λ g. to_face k (untell_to cmp matching g) g) ∷ []) (unheld_still cmp matching nobody k i, (untell_still cmp matching nobody k, tt)))
      (tt, ((λ g. each_ruled_one (IsSilent cmp id) k (untell_to cmp matching g) g (untell_says cmp matching (IsSilent cmp id) (λ j. tt) g)), tt)))
      (goes_say (to_face k (final_of_both i interest)) (Say (λ g. to_each (end_upstream_to cmp matching g interest) g.faces) ∷ [])
      (λ s g is. face_due cmp matching n id s k (final_of_both i interest) g is (λ f _ own. both_due i interest f s own))
      (goes_say (λ g. to_each (end_upstream_to cmp matching g interest) g.faces) []
      (λ s g is. due_if_silent (to_each (end_upstream_to cmp matching g interest) g.faces) s (each_ruled (IsSilent cmp id) (end_upstream_to cmp matching g interest) g.faces (end_upstream_says cmp matching (IsSilent cmp id) (λ j. tt) g interest)))
      goes_nothing))

  -- what is no final and no answer is nothing to the ask
  abbrev AnswersNobody : Message K → Type 0
  AnswersNobody (message.DeclareToken number e (Some i) node) = ⊥
  AnswersNobody m = Unit {0}

  nothing_to : (m : Message K) → StillMessage cmp matching m → AnswersNobody m → IsSilent cmp id m
  nothing_to (message.DeclareToken number e (Some i) node) still none_ = absurd none_
  nothing_to (message.DeclareToken number e None node) still none_ = tt
  nothing_to (message.UndeclareToken number e node) still none_ = tt
  nothing_to (message.DeclareFinal i) still none_ = absurd still
  nothing_to (message.Interest number mode options e) still none_ = tt
  nothing_to (message.InterestFinal number) still none_ = tt
  nothing_to (message.DeclareSubscriber number e i) still none_ = tt
  nothing_to (message.DeclareQueryable number e info i) still none_ = tt

  part_silent : (but : ℕ → Bool) (part : Part K) → StillPart cmp matching but part → SaysEach cmp matching AnswersNobody part → SaysEach cmp matching (IsSilent cmp id) part
  part_silent but (Alter change) still none_ = tt
  part_silent but (Say rule) still none_ = λ g. each_both (λ t. StillMessage cmp matching t.1) (λ t. AnswersNobody t.1) (λ t. IsSilent cmp id t.1) (λ t a b. nothing_to t.1 a b) (rule g) (still g) (none_ g)

  -- another face closes
  pub goes_closing : (k : ℕ) (from : Face K) (g : Rows K) → (k == n) ≡ false → Goes (closing cmp matching k g from)
  unfolding unsaid_to
  goes_closing k from g apart =
      of_cond (λ (parts : List (Part K)). Goes (parts ++ Alter (without_face k) ∷ [])) (is_routed g from) [] (unsaid_to k (leaving cmp matching k from))
      (λ _. gone)
      (λ _. goes_append (unsaid_to k (leaving cmp matching k from)) (Alter (without_face k) ∷ []) left gone)
    where
      gone : Goes (Alter (without_face k) ∷ [])
      gone = goes_alter (without_face k) [] (λ s h is. ask_without cmp matching n id k s h apart is) goes_nothing

      over : (rows : List (ℕ × Pending)) → Goes (unsaid_to k (flat_map (λ row. ending k row.0) rows))
      over [] = goes_nothing
      over (row ∷ rows) =
          goes_append (unsaid_to k (ending k row.0)) (unsaid_to k (flat_map (λ r. ending k r.0) rows)) (goes_ending_spared (only k) (λ ss. filter (λ s. not (k == s.0)) ss) (spares_one cmp matching k) apart k row.0) (over rows)

      before : List (Part K)
      before = still_before cmp matching k from

      before_silent : Each (SaysEach cmp matching (IsSilent cmp id)) before
      before_silent =
          each_both (StillPart cmp matching (only k)) (SaysEach cmp matching AnswersNobody) (SaysEach cmp matching (IsSilent cmp id)) (λ part a b. part_silent (only k) part a b) before (still_before_still cmp matching k from)
          (each_front (SaysEach cmp matching AnswersNobody) before (unsaid_to k (flat_map (λ row. ending k row.0) from.pendings))
          (subst (Each (SaysEach cmp matching AnswersNobody)) (leaving_splits cmp matching k from)
          (unsaid_each cmp matching AnswersNobody k (leaving cmp matching k from) (leaving_says cmp matching AnswersNobody (λ j. tt) (λ e j. tt) (λ j. tt) (λ j. tt) k from))))

      left : Goes (unsaid_to k (leaving cmp matching k from))
      left =
          subst Goes (sym (leaving_splits cmp matching k from))
          (goes_append before (unsaid_to k (flat_map (λ row. ending k row.0) from.pendings))
          (goes_silent (only k) apart before (keep_if_still cmp matching (only k) before (still_before_still cmp matching k from)) before_silent) (over from.pendings))
