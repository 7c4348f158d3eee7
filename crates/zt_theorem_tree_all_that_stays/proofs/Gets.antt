-- What asks of trees are answered: what a plain face of the tree has live from the asking to the final.
use Rattle.std.proofs.Common.{◌≡◌, ◌⊎◌, inl, inr, ℕ, ◌-◌, Bool, true, false, ◌||◌, ◌==◌, List, [], ◌∷◌, ◌++◌, map, Option, Some, None, refl, sym, ap, ◌∙◌, subst, arith, append_assoc, eqb-true, ⊎_elim}
use Rattle.std.proofs.lemmas.Bool.{and_parts, or_left, or_right}
use Rattle.std.specs.Cmp.{IsTotalOrder}
use Rattle.std.specs.List.{list_all, list_any}
use Rattle.std.specs.Option.{option_to_list}
use Rattle.std.specs.declared.cmp.Ordering.{Ordering}
use Rattle.std.specs.declared.cmp.Ordering.TheVariants.{Equal}
use Rattle.zt_protocol.specs.Interest.{is_current, is_future, has_tokens}
use Rattle.zt_protocol.specs.Plain.{PlainLine, Speak, Interest}
use Rattle.zt_protocol.specs.declared.messages.Message.{Message}
use Rattle.zt_protocol.specs.declared.messages.Message.TheVariants as message
use Rattle.zt_model.specs.Fabric.{Fabric, Node, entries_from, entry_of, fabric_after, printed_for}
use Rattle.zt_model.specs.Lists.{at_id, is_among, is_some_and, nth}
use Rattle.zt_model.specs.Parts.{find_face}
use Rattle.zt_model.specs.Promises.{Turn, answers_in, finals_in, is_accepted, turns_from}
use Rattle.zt_model.specs.Refusals.{is_illegal_current}
use Rattle.zt_model.specs.Rows.{Ask, Face, InterestRow}
use Rattle.zt_model.specs.Shown.{interest_kept}
use Rattle.zt_model.specs.Transcript.{Each, FaceAt, fabric_shown, face_numbered, messages_of}
use Rattle.zt_model.specs.TreePromises.{Beyond, GetsWhatStays, IsFinishedBy, IsInTree, Itself, MakesAsk, answers_of_turn, are_links_empty, disturbs, finals_of, is_at_gateway, is_live_at, is_plain_number, is_plainly_live_at}
use Rattle.zt_model.specs.Wants.{is_about}
use Rattle.zt_laws.specs.Order.{FabricIsInOrder}
use Rattle.zt_laws.specs.Shown.{as_shown, node_shown}
use Rattle.zt_laws.specs.Sound.{HasFirstIds}
use Rattle.zt_laws.proofs.Hearing.{find_each}
use Rattle.zt_laws.proofs.Lists.{by_test, each_weaker, never}
use Rattle.zt_laws.proofs.ShownLines.{fabric_is_shown}
use Rattle.zt_theorem_soundness.specs.Sound.{AskIsHeld, IsSound}
use Rattle.zt_theorem_soundness.proofs.ById.{at_each}
use Rattle.zt_theorem_soundness.proofs.Sound.{sound_after_line, sound_gateways_keep}
use Rattle.zt_theorem_tree_invariant.specs.Facts.{TreesAgree}
use Rattle.zt_theorem_tree_invariant.specs.Trees.{FacesFormTrees, KeepPromisesOfTrees, LeavesTrees}
use Rattle.zt_theorem_tree_invariant.proofs.Members.{each_nth, is_there, numbered}
use Rattle.zt_theorem_tree_knowledge.proofs.Lines.{trees_after_each}
use Rattle.zt_theorem_tree_knowledge.proofs.Turns.{SoundFabric, live_shown, not_spent, tree_unshown, turns_know}
use Rattle.zt_theorem_tree_only_what_lived.proofs.Asks.{gets_only}
use Rattle.zt_theorem_tree_all_that_stays.specs.Steady.{AnswersFirst, IsNoFinal}
use Rattle.zt_theorem_tree_all_that_stays.proofs.Asked.{asked_line}
use Rattle.zt_theorem_tree_all_that_stays.proofs.Asking.{answers_are_messages, first_is_some}
use Rattle.zt_theorem_tree_all_that_stays.proofs.Beginning.{plainly_lives}
use Rattle.zt_theorem_tree_all_that_stays.proofs.Turning.{Stands, one_turn}
use Rattle.zt_theorem_tree_all_that_stays.specs.Ways.{LivesAt}

-- ---- lists

heads : {A : Type 0} {x y : A} {xs ys : List A} → x ∷ xs ≡ y ∷ ys → x ≡ y
heads h = cc

tails : {A : Type 0} {x y : A} {xs ys : List A} → x ∷ xs ≡ y ∷ ys → xs ≡ ys
tails h = cc

none_each : {A : Type 0} (p : A → Bool) (xs : List A) → list_any p xs ≡ false → Each (λ x. p x ≡ false) xs
none_each p [] h = tt
none_each p (x ∷ xs) h =
    by_test (p x)
    (λ here. never (ap (λ b. b || list_any p xs) here) h)
    (λ here. (here, none_each p xs (ap (λ b. b || list_any p xs) (sym here) ∙ h)))

all_each : {A : Type 0} (p : A → Bool) (xs : List A) → list_all p xs ≡ true → Each (λ x. p x ≡ true) xs
all_each p [] h = tt
all_each p (x ∷ xs) h = let both = and_parts (p x) (list_all p xs) h in (both.0, all_each p xs both.1)

last_of : {A : Type 0} (P : A → Type 0) (xs : List A) (y : A) → Each P (xs ++ y ∷ []) → P y
last_of P [] y all = all.0
last_of P (x ∷ xs) y all = last_of P xs y all.1

-- what ends no ask counts for no final
no_finals : {K : Type 0} (id : ℕ) (ms : List (Message K)) → Each (IsNoFinal id) ms → finals_in id ms ≡ 0
no_finals id [] all = refl
no_finals id (message.DeclareFinal i ∷ ms) all = let apart : (id == i) ≡ false = all.0 in rw apart (no_finals id ms all.1)
no_finals id (message.DeclareToken n e i node ∷ ms) all = no_finals id ms all.1
no_finals id (message.UndeclareToken n e node ∷ ms) all = no_finals id ms all.1
no_finals id (message.Interest n mode options e ∷ ms) all = no_finals id ms all.1
no_finals id (message.InterestFinal n ∷ ms) all = no_finals id ms all.1
no_finals id (message.DeclareSubscriber n e i ∷ ms) all = no_finals id ms all.1
no_finals id (message.DeclareQueryable n e info i ∷ ms) all = no_finals id ms all.1

-- ---- what a transcript shows

in_tree_unshown : {K : Type 0} (s : Fabric K) (a b : ℕ) → IsInTree (as_shown s) a b → IsInTree s a b
in_tree_unshown s a b (Itself c) = Itself c
in_tree_unshown s a b (Beyond c d e walk linked) = Beyond c d e (in_tree_unshown s c d walk) linked

nth_shown : {K : Type 0} (n : ℕ) (xs : List (Node K)) (y : Node K) → nth n (map node_shown xs) ≡ Some y → (x : Node K) × ((nth n xs ≡ Some x) × (y ≡ node_shown x))
nth_shown n [] y h = cc
nth_shown n (x ∷ xs) y h =
    by_test (n == 1)
    (λ here. let is : Some (node_shown x) ≡ Some y = rw here at h in (x, (rw here refl, (let same_ : node_shown x ≡ y = cc in sym same_))))
    (λ apart. let rest = nth_shown (n - 1) xs y (rw apart at h) in (rest.0, (rw apart rest.1.0, rest.1.1)))

unshown : {K : Type 0} (s : Fabric K) (k : ℕ) (x : FaceAt K) → face_numbered (as_shown s) k ≡ Some x → (z : FaceAt K) × ((face_numbered s k ≡ Some z) × (z.face ≡ x.face))
unshown {K} s k x found =
    let th = is_there (as_shown s) k x found in
    let at_ = nth_shown x.gateway s.gateways th.node th.node_is in
    let rows : node_shown at_.0 ≡ th.node = sym at_.1.1 in
    let there : find_face th.place.face at_.0.rows ≡ Some x.face = ap (λ (y : Node K). find_face th.place.face y.rows) rows ∙ ap (λ m. find_face m th.node.rows) th.number_is ∙ ap (find_face x.face.number) th.rows_are ∙ th.face_is in
    (record { gateway = th.place.gateway; rows = at_.0.rows; face = x.face }, (numbered s k th.place at_.0 x.face th.place_is (ap (λ g. nth g s.gateways) th.gateway_is ∙ at_.1.0) there, refl))

module _ {K : Type 0} (cmp : K → K → Ordering) (matching : K → K → Bool) (total : IsTotalOrder cmp) (equal_is_same : (a b : K) → cmp a b ≡ Equal → a ≡ b) where
  -- an ask for what comes later too stands beside its held interest
  holds : (s : Fabric K) → SoundFabric cmp matching total equal_is_same s → (k : ℕ) (z : FaceAt K) (id : ℕ) (ask : Ask K) → face_numbered s k ≡ Some z → at_id id z.face.asks ≡ Some ask → is_future ask.interest.mode ≡ true → at_id id z.face.held ≡ Some ask.interest
  holds s sound k z id ask z_is at_ =
      let th = is_there s k z z_is in
      let node = th.node in
      let found : find_face z.face.number node.rows ≡ Some z.face = ap (find_face z.face.number) th.rows_are ∙ th.face_is in
      let own = each_nth (λ (x : Node K). IsSound cmp matching x.rows) z.gateway s.gateways node sound.gateways th.node_is in
      let asks = find_each (λ f. false ≡ false → Each (AskIsHeld f) f.asks) (λ (f : Face K). z.face.number == f.number) node.rows.faces z.face own.held found refl in
      at_each (λ (a : Ask K). is_future a.interest.mode ≡ true → at_id id z.face.held ≡ Some a.interest) id z.face.asks ask
      (each_weaker (AskIsHeld z.face) (λ row. (id == row.0) ≡ true → is_future row.1.interest.mode ≡ true → at_id id z.face.held ≡ Some row.1.interest) (λ row h same_ later. ap (λ n. at_id n z.face.held) (eqb-true id row.0 same_) ∙ h.held later) z.face.asks asks) at_

  module _ (e : K) (i : InterestRow K) (about : is_about matching i.expr e ≡ true) (k id q : ℕ) where
    abbrev Calm : Turn K → Type 0
    Calm t = disturbs cmp matching k id i t ≡ false

    abbrev Live : Turn K → Type 0
    Live t = is_plainly_live_at cmp matching t.after q e ≡ true

    abbrev is_answered : Turn K → Bool
    is_answered t = is_among cmp e (answers_of_turn cmp matching k id t)

    abbrev NoFinal : Turn K → Type 0
    NoFinal t = finals_of cmp matching k id t ≡ 0

    abbrev Ends : List (Turn K) → Type 0
    Ends turns = (list_any is_answered turns ≡ true) ⊎ Each NoFinal turns

    abbrev TurnsOf : List (PlainLine K) → Fabric K → Fabric K → List (Turn K)
    TurnsOf lines s shown = turns_from cmp matching lines (entries_from cmp matching lines s) shown

    abbrev TurnOf : PlainLine K → Fabric K → Turn K
    TurnOf line s = record { line = line; entry = entry_of cmp matching line s; before = as_shown s; after = fabric_shown cmp matching line (entry_of cmp matching line s) (as_shown s) }

    abbrev Next : PlainLine K → Fabric K → Fabric K
    Next line s = fabric_after cmp matching line (entry_of cmp matching line s) s

    answered : (ms : List (Message K)) → AnswersFirst cmp id e ms → is_among cmp e (answers_in id ms) ≡ true
    answered ms first = answers_are_messages cmp id e ms ∙ first_is_some cmp id e ms first

    -- ---- an ask that stands

    module _ (tokens : has_tokens i.options ≡ true) (current : is_current i.mode ≡ true) (legal : is_illegal_current i.mode i.options ≡ false) (way up : List (ℕ × ℕ)) (top : ℕ) where
      goes : (lines : List (PlainLine K)) (s : Fabric K) → Each HasFirstIds lines → SoundFabric cmp matching total equal_is_same s → TreesAgree cmp matching s → FacesFormTrees s
          → (rest later : List (Turn K)) → TurnsOf lines s (as_shown s) ≡ rest ++ later → Each (LeavesTrees cmp matching) (TurnsOf lines s (as_shown s)) → Each Calm rest → Each Live rest → Stands cmp matching total equal_is_same e i k id q way up top s → Ends rest
      unfolding turns_from entries_from
      goes lines s real sound agree trees_s [] later = λ is trees calm live stands. inr tt
      goes [] s real sound agree trees_s (t ∷ rest) later = λ is trees calm live stands. cc
      goes (line ∷ lines) s real sound agree trees_s (t ∷ rest) later = λ is trees calm live stands.
          let next = Next line s in
          let entry = entry_of cmp matching line s in
          let shown = fabric_is_shown cmp matching total line s sound.order in
          let here : FacesFormTrees next = tree_unshown cmp matching next (subst FacesFormTrees shown trees.0.0) in
          let head_ : TurnOf line s ≡ t = heads is in
          let sound_next = sound_after_line cmp matching total equal_is_same line s real.0 sound in
          let other = not_spent cmp matching total equal_is_same entry trees.0.1 in
          let agree_next = trees_after_each cmp matching total equal_is_same s sound.order agree line real.0 other here in
          let after_ : t.after ≡ as_shown next = ap (λ (u : Turn K). u.after) (sym head_) ∙ shown in
          let live_next : is_plainly_live_at cmp matching next q e ≡ true = sym (live_shown cmp matching next q e) ∙ ap (λ (u : Fabric K). is_plainly_live_at cmp matching u q e) (sym after_) ∙ live.0 in
          let lives = plainly_lives cmp matching total equal_is_same next sound_next.order agree_next here q e live_next in
          let calm_ : Calm (TurnOf line s) = subst Calm (sym head_) calm.0 in
          let turned = one_turn cmp matching total equal_is_same e i k id q way up top about tokens current legal s sound.order agree (holds s sound) stands line real.0 other here (λ before after. calm_) sound_next.order lives in
          ⊎_elim
          (λ first. inl (or_left (is_answered t) (list_any is_answered rest) (subst (λ (u : Turn K). is_answered u ≡ true) head_ (answered (printed_for k (messages_of entry)) first))))
          (λ on.
          ⊎_elim
          (λ some. inl (or_right (is_answered t) (list_any is_answered rest) some))
          (λ none_. inr (subst NoFinal head_ (no_finals id (printed_for k (messages_of entry)) on.1), none_))
          (goes lines next real.1 sound_next agree_next here rest later (subst (λ (u : Fabric K). TurnsOf lines next u ≡ rest ++ later) shown (tails is)) (subst (λ (u : Fabric K). Each (LeavesTrees cmp matching) (TurnsOf lines next u)) shown trees.1) calm.1 live.1 on.0))
          turned

    -- ---- the asking

    module _ (own other : ℕ) where
      -- the accepted line that asks, of a fabric where nothing waits
      begins : (line : PlainLine K) (s : Fabric K) → Each HasFirstIds (line ∷ []) → (sound : SoundFabric cmp matching total equal_is_same s) → TreesAgree cmp matching s → FacesFormTrees s → (asking : Turn K) → TurnOf line s ≡ asking → LeavesTrees cmp matching (TurnOf line s)
          → (made : MakesAsk cmp matching asking k id i) → are_links_empty asking.before ≡ true → is_at_gateway asking.before k own ≡ true → IsInTree asking.before own other → is_at_gateway asking.before q other ≡ true → Live asking
          → (is_illegal_current i.mode i.options ≡ false) × (AnswersFirst cmp id e (printed_for k (messages_of (entry_of cmp matching line s)))
          ⊎ ((way : List (ℕ × ℕ)) × (up : List (ℕ × ℕ)) × (top : ℕ) × Stands cmp matching total equal_is_same e i k id q way up top (Next line s) × Each (IsNoFinal id) (printed_for k (messages_of (entry_of cmp matching line s)))))
      begins line s real sound agree trees_s asking head_ trees made quiet own_at tree other_at live =
          let next = Next line s in
          let entry = entry_of cmp matching line s in
          let shown = fabric_is_shown cmp matching total line s sound.order in
          let here : FacesFormTrees next = tree_unshown cmp matching next (subst FacesFormTrees shown trees.0) in
          let sound_next = sound_after_line cmp matching total equal_is_same line s real.0 sound in
          let agree_next = trees_after_each cmp matching total equal_is_same s sound.order agree line real.0 (not_spent cmp matching total equal_is_same entry trees.1) here in
          let after_ : asking.after ≡ as_shown next = ap (λ (u : Turn K). u.after) (sym head_) ∙ shown in
          let before_ : asking.before ≡ as_shown s = ap (λ (u : Turn K). u.before) (sym head_) in
          let live_next : is_plainly_live_at cmp matching next q e ≡ true = sym (live_shown cmp matching next q e) ∙ ap (λ (u : Fabric K). is_plainly_live_at cmp matching u q e) (sym after_) ∙ live in
          let lives = plainly_lives cmp matching total equal_is_same next sound_next.order agree_next here q e live_next in
          let plain_q = (and_parts (is_plain_number next q) (is_some_and (face_numbered next q) (λ x. is_live_at cmp matching x.face e)) live_next).0 in
          let line_is : line ≡ Speak (Interest k id i.mode made.options i.expr) = ap (λ (u : Turn K). u.line) head_ ∙ made.line in
          let z = unshown s k made.at (subst (λ (u : Fabric K). face_numbered u k ≡ Some made.at) before_ made.there) in
          let kept : i ≡ interest_kept z.0.face i.mode made.options i.expr = made.kept ∙ ap (λ (f : Face K). interest_kept f i.mode made.options i.expr) (sym z.1.1) in
          let plain : is_plain_number s k ≡ true = ap (λ (u : Fabric K). is_plain_number u k) (sym before_) ∙ made.plain in
          let quiet_ : are_links_empty s ≡ true = ap (λ (u : Fabric K). are_links_empty u) (sym before_) ∙ quiet in
          let own_ : is_at_gateway s k own ≡ true = ap (λ (u : Fabric K). is_at_gateway u k own) (sym before_) ∙ own_at in
          let other_ : is_at_gateway s q other ≡ true = ap (λ (u : Fabric K). is_at_gateway u q other) (sym before_) ∙ other_at in
          let tree_ : IsInTree s own other = in_tree_unshown s own other (subst (λ (u : Fabric K). IsInTree u own other) before_ tree) in
          let accepted : is_accepted entry ≡ true = ap (λ (u : Turn K). is_accepted u.entry) head_ ∙ made.accepted in
          let asks = asked_line cmp matching total equal_is_same e i about made.tokens made.current s sound.order agree trees_s quiet_ (sound_gateways_keep cmp matching s sound) k id q plain z.0 z.1.0 made.options kept own other own_ tree_ other_ in
          subst
          (λ (l : PlainLine K).
          is_accepted (entry_of cmp matching l s) ≡ true → FabricIsInOrder cmp matching (Next l s) → is_plain_number (Next l s) q ≡ true → LivesAt cmp matching e (Next l s) q
          → (is_illegal_current i.mode i.options ≡ false) × (AnswersFirst cmp id e (printed_for k (messages_of (entry_of cmp matching l s)))
          ⊎ ((way : List (ℕ × ℕ)) × (up : List (ℕ × ℕ)) × (top : ℕ) × Stands cmp matching total equal_is_same e i k id q way up top (Next l s) × Each (IsNoFinal id) (printed_for k (messages_of (entry_of cmp matching l s))))))
          (sym line_is) asks accepted sound_next.order plain_q lives

      asked : (lines : List (PlainLine K)) (s : Fabric K) → Each HasFirstIds lines → SoundFabric cmp matching total equal_is_same s → TreesAgree cmp matching s → FacesFormTrees s
          → (earlier : List (Turn K)) (asking : Turn K) (rest later : List (Turn K)) → TurnsOf lines s (as_shown s) ≡ earlier ++ asking ∷ rest ++ later → Each (LeavesTrees cmp matching) (TurnsOf lines s (as_shown s))
          → MakesAsk cmp matching asking k id i → are_links_empty asking.before ≡ true → is_at_gateway asking.before k own ≡ true → IsInTree asking.before own other → is_at_gateway asking.before q other ≡ true → Each Calm rest → Each Live (asking ∷ rest) → Ends (asking ∷ rest)
      unfolding turns_from entries_from
      asked [] s real sound agree trees_s [] asking rest later = λ is trees made quiet own_at tree other_at calm live. cc
      asked [] s real sound agree trees_s (t ∷ ts) asking rest later = λ is trees made quiet own_at tree other_at calm live. cc
      asked (line ∷ lines) s real sound agree trees_s [] asking rest later = λ is trees made quiet own_at tree other_at calm live.
          let next = Next line s in
          let entry = entry_of cmp matching line s in
          let shown = fabric_is_shown cmp matching total line s sound.order in
          let here : FacesFormTrees next = tree_unshown cmp matching next (subst FacesFormTrees shown trees.0.0) in
          let head_ : TurnOf line s ≡ asking = heads is in
          let sound_next = sound_after_line cmp matching total equal_is_same line s real.0 sound in
          let agree_next = trees_after_each cmp matching total equal_is_same s sound.order agree line real.0 (not_spent cmp matching total equal_is_same entry trees.0.1) here in
          let begun = begins line s (real.0, tt) sound agree trees_s asking head_ trees.0 made quiet own_at tree other_at live.0 in
          ⊎_elim
          (λ first. inl (or_left (is_answered asking) (list_any is_answered rest) (subst (λ (u : Turn K). is_answered u ≡ true) head_ (answered (printed_for k (messages_of entry)) first))))
          (λ on.
          ⊎_elim
          (λ some. inl (or_right (is_answered asking) (list_any is_answered rest) some))
          (λ none_. inr (subst NoFinal head_ (no_finals id (printed_for k (messages_of entry)) on.4), none_))
          (goes made.tokens made.current begun.0 on.0 on.1 on.2 lines next real.1 sound_next agree_next here rest later (subst (λ (u : Fabric K). TurnsOf lines next u ≡ rest ++ later) shown (tails is)) (subst (λ (u : Fabric K). Each (LeavesTrees cmp matching) (TurnsOf lines next u)) shown trees.1) calm live.1 on.3))
          begun.1
      asked (line ∷ lines) s real sound agree trees_s (t ∷ ts) asking rest later = λ is trees made quiet own_at tree other_at calm live.
          let next = Next line s in
          let shown = fabric_is_shown cmp matching total line s sound.order in
          let here : FacesFormTrees next = tree_unshown cmp matching next (subst FacesFormTrees shown trees.0.0) in
          let sound_next = sound_after_line cmp matching total equal_is_same line s real.0 sound in
          let agree_next = trees_after_each cmp matching total equal_is_same s sound.order agree line real.0 (not_spent cmp matching total equal_is_same (entry_of cmp matching line s) trees.0.1) here in
          asked lines next real.1 sound_next agree_next here ts asking rest later (subst (λ (u : Fabric K). TurnsOf lines next u ≡ ts ++ asking ∷ rest ++ later) shown (tails is)) (subst (λ (u : Fabric K). Each (LeavesTrees cmp matching) (TurnsOf lines next u)) shown trees.1) made quiet own_at tree other_at calm live

  -- ---- the theorem

  -- the final came in one of the turns
  final_came : (k id : ℕ) (asking : Turn K) (between : List (Turn K)) (ending : Option (Turn K)) → IsFinishedBy cmp matching k id asking between ending → Each (λ t. finals_of cmp matching k id t ≡ 0) (asking ∷ between ++ option_to_list ending) → ⊥
  final_came k id asking between None finished none_ = let one : finals_of cmp matching k id asking ≡ 1 = finished.1 in let zero : finals_of cmp matching k id asking ≡ 0 = none_.0 in omega arith
  final_came k id asking between (Some ending) finished none_ =
      let one : finals_of cmp matching k id ending ≡ 1 = finished.1 in
      let zero : finals_of cmp matching k id ending ≡ 0 = last_of (λ t. finals_of cmp matching k id t ≡ 0) between ending none_.1 in
      omega arith

  -- An ask is answered what a plain face of its tree has live from the asking to the final.
  pub gets_what_stays : (lines : List (PlainLine K)) (s : Fabric K) → Each HasFirstIds lines → SoundFabric cmp matching total equal_is_same s → TreesAgree cmp matching s → FacesFormTrees s
      → (let turns = turns_from cmp matching lines (entries_from cmp matching lines s) (as_shown s) in Each (LeavesTrees cmp matching) turns → GetsWhatStays cmp matching turns)
  gets_what_stays lines s real sound agree trees_s = λ trees a e own other face about own_at tree other_at stays.
      let rest = a.between ++ option_to_list a.ending in
      let calm = none_each (disturbs cmp matching a.face a.id a.interest) (a.asking ∷ rest) a.undisturbed in
      let live = all_each (λ t. is_plainly_live_at cmp matching t.after face e) (a.asking ∷ rest) stays in
      let is = a.turns_are ∙ ap (λ ts. ts ++ a.later) (append_assoc a.earlier (a.asking ∷ a.between) (option_to_list a.ending)) in
      ⊎_elim (λ some. some) (λ none_. absurd (final_came a.face a.id a.asking a.between a.ending a.finished none_))
      (asked e a.interest about a.face a.id face own other lines s real sound agree trees_s a.earlier a.asking rest a.later is trees a.made a.quiet own_at tree other_at calm.1 live)

  -- The three promises over trees.
  pub keep_tree_promises : (lines : List (PlainLine K)) (s : Fabric K) → Each HasFirstIds lines → SoundFabric cmp matching total equal_is_same s → TreesAgree cmp matching s → FacesFormTrees s
      → KeepPromisesOfTrees cmp matching (turns_from cmp matching lines (entries_from cmp matching lines s) (as_shown s))
  keep_tree_promises lines s real sound agree trees_s = λ trees. record {
    knowledge = turns_know cmp matching total equal_is_same lines s real sound agree trees;
    gets = gets_what_stays lines s real sound agree trees_s trees;
    gets_only = gets_only cmp matching total equal_is_same lines s real sound agree trees_s trees;
  }
