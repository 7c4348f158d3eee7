-- Over many calls an interest is sent each expression once, and nothing after its final.
use Rattle.std.proofs.Common.{◌≡◌, ℕ, ◌≤◌, Bool, true, false, ◌||◌, ◌==◌, List, [], ◌∷◌, ◌++◌, Option, Some, None, is_some, refl, sym, ap, ◌∙◌, subst, arith, eqb-true}
use Rattle.std.proofs.lemmas.Bool.{and_parts, or_cases, or_left, or_right}
use Rattle.std.proofs.Common.{⊎_elim}
use Rattle.std.specs.Cmp.{IsTotalOrder}
use Rattle.std.specs.List.{list_any}
use Rattle.std.specs.declared.cmp.Ordering.{Ordering}
use Rattle.zt_protocol.specs.Interest.{is_current}
use Rattle.zt_protocol.specs.Plain.{PlainCall, Interest}
use Rattle.zt_protocol.specs.declared.errors.Refusal.{Refusal}
use Rattle.zt_protocol.specs.declared.interests.InterestMode.{InterestMode}
use Rattle.zt_protocol.specs.declared.interests.InterestOptions.{InterestOptions}
use Rattle.zt_protocol.specs.declared.messages.Message.{Message}
use Rattle.zt_protocol.specs.declared.messages.Message.TheVariants as message
use Rattle.zt_model.specs.Hearing.{messages_for}
use Rattle.zt_model.specs.Journal.{cause_of, rows_after}
use Rattle.zt_model.specs.Lists.{is_among, same}
use Rattle.zt_model.specs.Promises.{answers_in, are_new, finals_in, is_final_of}
use Rattle.zt_model.specs.Refusals.{call_causes, first_cause}
use Rattle.zt_model.specs.Rows.{Face, Rows}
use Rattle.zt_model.specs.Says.{find_face, said}
use Rattle.zt_model.specs.Transcript.{Each}
use Rattle.zt_laws.specs.Order.{RowsAreInOrder}
use Rattle.zt_laws.specs.Sound.{CallHasFirstIds, rows_after_call}
use Rattle.zt_laws.proofs.CallsOrder.{in_order_after_any, in_order_after_call}
use Rattle.zt_laws.proofs.Hearing.{find_each, find_passes}
use Rattle.zt_laws.proofs.Lists.{any-append, by_test, never}
use Rattle.zt_theorem_replies.specs.Replies.{NothingFollowsFinal, is_asking_as, sent_by, sent_to}
use Rattle.zt_theorem_replies.proofs.Calls.{asking_goes, call_goes}
use Rattle.zt_theorem_replies.proofs.Due.{are_due, due_append, is_due, state_after, state_then}
use Rattle.zt_theorem_replies.proofs.Faces.{AskIs}
use Rattle.zt_theorem_replies.proofs.Made.{made_after_call}

module _ {K : Type 0} (cmp : K → K → Ordering) (matching : K → K → Bool) where
  -- ---- what is due comes once, and nothing after the final

  -- an ask that ended is sent nothing
  pub nothing_due : (id : ℕ) (ms : List (Message K)) → are_due cmp id ms None ≡ true → (answers_in id ms ≡ []) × (finals_in id ms ≡ 0)
  nothing_due id [] due = (refl, refl)
  nothing_due id (message.DeclareToken number e (Some i) node ∷ ms) due =
      by_test (id == i) (λ here. let wrong = rw here at due in cc) (λ here. rw here (nothing_due id ms (rw here at due)))
  nothing_due id (message.DeclareToken number e None node ∷ ms) due = nothing_due id ms due
  nothing_due id (message.UndeclareToken number e node ∷ ms) due = nothing_due id ms due
  nothing_due id (message.DeclareFinal i ∷ ms) due =
      by_test (id == i) (λ here. let wrong = rw here at due in cc) (λ here. rw here (nothing_due id ms (rw here at due)))
  nothing_due id (message.Interest number mode options e ∷ ms) due = nothing_due id ms due
  nothing_due id (message.InterestFinal number ∷ ms) due = nothing_due id ms due
  nothing_due id (message.DeclareSubscriber number e i ∷ ms) due = nothing_due id ms due
  nothing_due id (message.DeclareQueryable number e info i ∷ ms) due = nothing_due id ms due

  pub due_once : (id : ℕ) (ms : List (Message K)) (known seen : List K) → are_due cmp id ms (Some known) ≡ true → ((x : K) → is_among cmp x seen ≡ true → is_among cmp x known ≡ true) → are_new cmp matching seen (answers_in id ms) ≡ true
  due_once id [] known seen due within = refl
  due_once id (message.DeclareToken number e (Some i) node ∷ ms) known seen due within =
      by_test (id == i)
      (λ here. by_test (is_among cmp e known)
      (λ old. let wrong = rw (here, old) at due in cc)
      (λ old.
      let unseen : is_among cmp e seen ≡ false = by_test (is_among cmp e seen) (λ there. never (within e there) old) (λ there. there) in
      rw (here, unseen) (due_once id ms (known ++ e ∷ []) (e ∷ seen) (rw (here, old) at due) more)))
      (λ here. rw here (due_once id ms known seen (rw here at due) within))
    where
      more : (x : K) → is_among cmp x (e ∷ seen) ≡ true → is_among cmp x (known ++ e ∷ []) ≡ true
      more x there =
          any-append (same cmp x) known (e ∷ [])
          ∙ ⊎_elim (λ own. or_right (list_any (same cmp x) known) (list_any (same cmp x) (e ∷ [])) (or_left (same cmp x e) false own)) (λ before. or_left (list_any (same cmp x) known) (list_any (same cmp x) (e ∷ [])) (within x before)) (or_cases (same cmp x e) (is_among cmp x seen) there)
  due_once id (message.DeclareToken number e None node ∷ ms) known seen due within = due_once id ms known seen due within
  due_once id (message.UndeclareToken number e node ∷ ms) known seen due within = due_once id ms known seen due within
  due_once id (message.DeclareFinal i ∷ ms) known seen due within =
      by_test (id == i)
      (λ here. ap (are_new cmp matching seen) (nothing_due id ms (rw here at due)).0)
      (λ here. due_once id ms known seen (rw here at due) within)
  due_once id (message.Interest number mode options e ∷ ms) known seen due within = due_once id ms known seen due within
  due_once id (message.InterestFinal number ∷ ms) known seen due within = due_once id ms known seen due within
  due_once id (message.DeclareSubscriber number e i ∷ ms) known seen due within = due_once id ms known seen due within
  due_once id (message.DeclareQueryable number e info i ∷ ms) known seen due within = due_once id ms known seen due within

  pub due_last : (id : ℕ) (ms : List (Message K)) (s : Option (List K)) → are_due cmp id ms s ≡ true → NothingFollowsFinal id ms
  due_last id [] s due = tt
  due_last id (m ∷ ms) s due =
      let rest = (and_parts (is_due cmp id m s) (are_due cmp id ms (state_then cmp id m s)) due).1 in
      ((λ final. nothing_due id ms (subst (λ t. are_due cmp id ms t ≡ true) (ended m s final) rest)), due_last id ms (state_then cmp id m s) rest)
    where
      ended : (m : Message K) (s : Option (List K)) → is_final_of id m ≡ true → state_then cmp id m s ≡ None
      ended (message.DeclareFinal i) s final = rw final refl
      ended (message.DeclareToken number e interest node) s final = cc
      ended (message.UndeclareToken number e node) s final = cc
      ended (message.Interest number mode options e) s final = cc
      ended (message.InterestFinal number) s final = cc
      ended (message.DeclareSubscriber number e i) s final = cc
      ended (message.DeclareQueryable number e info i) s final = cc

  -- ---- calls, one after another

  module _ (n id : ℕ) where
    -- the gateway is in order, the face was made, and its ask of the id was answered so
    pub record Stands (s : Option (List K)) (g : Rows K) : Type 0 where
      pub ordered : RowsAreInOrder cmp matching g
      pub made : n ≤ g.made
      pub ask : AskIs cmp matching n id s g

    module _ (total : IsTotalOrder cmp) where
      -- a call, refused or not
      pub one_call : (s : Option (List K)) (c : PlainCall K) (g : Rows K) → CallHasFirstIds c → is_asking_as n id c ≡ false → Stands s g
          → (are_due cmp id (messages_for n (sent_by cmp matching c g)) s ≡ true) × Stands (state_after cmp id (messages_for n (sent_by cmp matching c g)) s) (rows_after cmp matching c g)
      unfolding rows_after messages_for
      one_call s c g real other stands = cases (cause_of cmp matching c g) (in_order_after_any cmp matching total c g real stands.ordered)
        where
          Goal : Option Refusal → Type 0
          Goal o =
              (let ms = messages_for n (elim o [ None ↦ said cmp matching c g | Some refusal ↦ [] ]) in
              let h : Rows K = elim o [ None ↦ rows_after_call cmp matching c g | Some refusal ↦ g ] in
              (are_due cmp id ms s ≡ true) × Stands (state_after cmp id ms s) h)

          cases : (o : Option Refusal) → (let h : Rows K = elim o [ None ↦ rows_after_call cmp matching c g | Some refusal ↦ g ] in RowsAreInOrder cmp matching h) → Goal o
          cases None ordered = let one = call_goes cmp matching n id total s c g other stands.made stands.ordered stands.ask in (one.due, record { ordered = ordered; made = made_after_call cmp matching total n c g stands.ordered stands.made; ask = one.ask })
          cases (Some refusal) ordered = (refl, stands)

      pub calls_due : (calls : List (PlainCall K)) (s : Option (List K)) (g : Rows K) → Each CallHasFirstIds calls → list_any (is_asking_as n id) calls ≡ false → Stands s g → are_due cmp id (sent_to cmp matching n calls g) s ≡ true
      calls_due [] s g real other stands = refl
      calls_due (c ∷ calls) s g real other stands =
          let none_ = neither (is_asking_as n id c) (list_any (is_asking_as n id) calls) other in
          let one = one_call s c g real.0 none_.0 stands in
          let ms = messages_for n (sent_by cmp matching c g) in
          due_append cmp id ms (sent_to cmp matching n calls (rows_after cmp matching c g)) s one.0 (calls_due calls (state_after cmp id ms s) (rows_after cmp matching c g) real.1 none_.1 one.1)
        where
          neither : (a b : Bool) → (a || b) ≡ false → (a ≡ false) × (b ≡ false)
          neither true b h = never refl h
          neither false b h = (refl, h)

      -- the interest's own call
      module _ (mode : InterestMode) (options : InterestOptions) (e : Option K) (g : Rows K) (current : is_current mode ≡ true) (accepted : cause_of cmp matching (Interest n id mode options e) g ≡ None) where
        there : is_some (find_face n g) ≡ true
        unfolding cause_of call_causes first_cause
        there = by_test (is_some (find_face n g)) (λ open_. open_) (λ gone. absurd (unknown gone))
          where
            unknown : is_some (find_face n g) ≡ false → ⊥
            unknown gone = cc

        face_made : (o : Option (Face K)) → find_face n g ≡ o → is_some o ≡ true → RowsAreInOrder cmp matching g → n ≤ g.made
        face_made None found open_ ordered = never open_ refl
        face_made (Some f) found open_ ordered =
            let up : f.number ≤ g.made = find_each (λ h. h.number ≤ g.made) (λ h. n == h.number) g.faces f ordered.lists.faces_made found in
            let own : n ≡ f.number = eqb-true n f.number (find_passes (λ h. n == h.number) g.faces f found) in
            omega (arith, own, up)

        pub asked_stands : RowsAreInOrder cmp matching g → (are_due cmp id (messages_for n (said cmp matching (Interest n id mode options e) g)) (Some []) ≡ true) × Stands (state_after cmp id (messages_for n (said cmp matching (Interest n id mode options e) g)) (Some [])) (rows_after cmp matching (Interest n id mode options e) g)
        unfolding rows_after
        asked_stands ordered =
            let c : PlainCall K = Interest n id mode options e in
            let one = asking_goes cmp matching n id total mode options e g current there ordered in (
              one.due,
              subst (λ (h : Rows K). Stands (state_after cmp id (messages_for n (said cmp matching c g)) (Some [])) h) (sym (after_accepted accepted))
                  (record { ordered = in_order_after_call cmp matching total c g tt ordered; made = made_after_call cmp matching total n c g ordered (face_made (find_face n g) refl there ordered); ask = one.ask }),
            )
          where
            after_accepted : cause_of cmp matching (Interest n id mode options e) g ≡ None → rows_after cmp matching (Interest n id mode options e) g ≡ rows_after_call cmp matching (Interest n id mode options e) g
            after_accepted none_ =
                let c : PlainCall K = Interest n id mode options e in
                subst (λ (o : Option Refusal). (elim o [ None ↦ rows_after_call cmp matching c g | Some refusal ↦ g ]) ≡ rows_after_call cmp matching c g) (sym none_) refl

        pub all_due : (calls : List (PlainCall K)) → RowsAreInOrder cmp matching g → Each CallHasFirstIds calls → list_any (is_asking_as n id) calls ≡ false → are_due cmp id (sent_to cmp matching n (Interest n id mode options e ∷ calls) g) (Some []) ≡ true
        all_due calls ordered real other =
            let c : PlainCall K = Interest n id mode options e in
            let own = asked_stands ordered in
            let ms = messages_for n (said cmp matching c g) in
            ap (λ (o : Option Refusal). are_due cmp id (messages_for n (elim o [ None ↦ said cmp matching c g | Some refusal ↦ [] ]) ++ sent_to cmp matching n calls (rows_after cmp matching c g)) (Some [])) accepted
            ∙ due_append cmp id ms (sent_to cmp matching n calls (rows_after cmp matching c g)) (Some []) own.0 (calls_due calls (state_after cmp id ms (Some [])) (rows_after cmp matching c g) real other own.1)

        pub replies_once : (calls : List (PlainCall K)) → RowsAreInOrder cmp matching g → Each CallHasFirstIds calls → list_any (is_asking_as n id) calls ≡ false → are_new cmp matching [] (answers_in id (sent_to cmp matching n (Interest n id mode options e ∷ calls) g)) ≡ true
        replies_once calls ordered real other = due_once id (sent_to cmp matching n (Interest n id mode options e ∷ calls) g) [] [] (all_due calls ordered real other) (λ x there. there)

        pub final_last : (calls : List (PlainCall K)) → RowsAreInOrder cmp matching g → Each CallHasFirstIds calls → list_any (is_asking_as n id) calls ≡ false → NothingFollowsFinal id (sent_to cmp matching n (Interest n id mode options e ∷ calls) g)
        final_last calls ordered real other = due_last id (sent_to cmp matching n (Interest n id mode options e ∷ calls) g) (Some []) (all_due calls ordered real other)
