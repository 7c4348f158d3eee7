-- What asks of trees aren't answered: what was live at no plain face since the asking.
use Rattle.std.proofs.Common.{◌≡◌, inl, ℕ, ◌+◌, ◌-◌, Bool, true, false, ◌&&◌, ◌||◌, ◌==◌, not, List, [], ◌∷◌, ◌++◌, Option, Some, None, Ok, Err, refl, sym, ap, ◌∙◌, subst, arith, ⊎_elim}
use Rattle.std.proofs.lemmas.Bool.{and_from, or_right}
use Rattle.std.specs.Cmp.{IsTotalOrder}
use Rattle.std.specs.List.{flat_map, list_all, list_any}
use Rattle.std.specs.Option.{option_to_list}
use Rattle.std.specs.declared.cmp.Ordering.{Ordering}
use Rattle.std.specs.declared.cmp.Ordering.TheVariants.{Equal}
use Rattle.zt_region.specs.Region.{is_north, zid_eq}
use Rattle.zt_protocol.specs.Plain.{PlainEntry, PlainLine, Gateway, Session, Face as FaceLine, Link as LinkLine, Unlink, Step, Speak, Moment, SetTreesAt, Interest}
use Rattle.zt_protocol.specs.declared.entries.Sent.{Sent}
use Rattle.zt_protocol.specs.declared.interests.InterestMode.{InterestMode}
use Rattle.zt_protocol.specs.declared.interests.InterestOptions.{InterestOptions}
use Rattle.zt_protocol.specs.declared.messages.Message.{Message}
use Rattle.zt_protocol.specs.declared.messages.Message.TheVariants as message
use Rattle.zt_model.specs.Fabric.{Fabric, Node, entries_from, entry_of, fabric_after, number_from, printed_for}
use Rattle.zt_model.specs.Linking.{is_end_of}
use Rattle.zt_model.specs.Lists.{is_among, is_some_and, nth, same}
use Rattle.zt_model.specs.Parts.{find_face}
use Rattle.zt_model.specs.Promises.{EachGateway, Turn, answered_by, answers_in, is_accepted, printed, turns_from}
use Rattle.zt_model.specs.Rows.{ById, InterestRow}
use Rattle.zt_model.specs.Transcript.{Each, FaceAt, fabric_shown, face_numbered, messages_of}
use Rattle.zt_model.specs.TreePromises.{GetsOnlyWhatWas, Here, IsMember, MakesAsk, There, answers_of_turn, are_links_empty, disturbs, is_live_at, is_plain_number, is_plainly_live_at}
use Rattle.zt_model.specs.Visible.{keeps}
use Rattle.zt_laws.specs.Shown.{as_shown}
use Rattle.zt_laws.specs.Sound.{HasFirstIds, is_placed}
use Rattle.zt_laws.proofs.Entries.{nth_of_number}
use Rattle.zt_laws.proofs.Keys.{is_equal, same_itself}
use Rattle.zt_laws.proofs.Lists.{any_member, by_test, each_append, each_both, each_weaker, never, of_cond}
use Rattle.zt_laws.proofs.LinesOrder.{gateway_in_order}
use Rattle.zt_laws.proofs.ShownLines.{fabric_is_shown}
use Rattle.zt_laws.proofs.ToldFrom.{found_by_number}
use Rattle.zt_theorem_soundness.proofs.Sound.{sound_after_line, sound_gateways_keep}
use Rattle.zt_theorem_tree_invariant.specs.Facts.{TreesAgree}
use Rattle.zt_theorem_tree_invariant.specs.Trees.{FacesFormTrees, LeavesTrees}
use Rattle.zt_theorem_tree_invariant.proofs.Knowledge.{kept_is_plainly_live}
use Rattle.zt_theorem_tree_invariant.proofs.Members.{each_nth, numbered}
use Rattle.zt_theorem_tree_invariant.proofs.Quiet.{joined_back, quiet_joint}
use Rattle.zt_theorem_tree_knowledge.proofs.Lines.{trees_after_each}
use Rattle.zt_theorem_tree_knowledge.proofs.Turns.{SoundFabric, each_gateway_from, live_shown, not_spent, tree_unshown}
use Rattle.zt_theorem_tree_only_what_lived.specs.Tokens.{IsIn}
use Rattle.zt_theorem_tree_only_what_lived.proofs.Answers.{AnswerIn}
use Rattle.zt_theorem_tree_only_what_lived.proofs.Calls.{AnswersIn, Leaves, LiveAt, OrLive, line_leaves}
use Rattle.zt_theorem_tree_only_what_lived.proofs.Everywhere.{Everywhere, Queues, everywhere_weaker}
use Rattle.zt_theorem_tree_only_what_lived.proofs.Staying.{asks_stay}

-- ---- lists

each_of_gateways : {K : Type 0} (P : Node K → Type 0) (i : ℕ) (gs : List (Node K)) → EachGateway (λ n (node : Node K). P node) i gs → Each P gs
each_of_gateways P i [] all = tt
each_of_gateways P i (node ∷ gs) all = (all.0, each_of_gateways P (i + 1) gs all.1)

none_each : {A : Type 0} (p : A → Bool) (xs : List A) → list_any p xs ≡ false → Each (λ x. p x ≡ false) xs
none_each p [] h = tt
none_each p (x ∷ xs) h =
    by_test (p x)
    (λ here. never (ap (λ b. b || list_any p xs) here) h)
    (λ here. (here, none_each p xs (ap (λ b. b || list_any p xs) (sym here) ∙ h)))

each_of_members : {A : Type 0} (P : A → Type 0) (xs : List A) → ((x : A) → IsMember x xs → P x) → Each P xs
each_of_members P [] h = tt
each_of_members P (x ∷ xs) h = (h x (Here xs), each_of_members P xs (λ y is. h y (There x xs is)))

each_flat : {A B : Type 0} (P : B → Type 0) (make : A → List B) (xs : List A) → Each (λ x. Each P (make x)) xs → Each P (flat_map make xs)
each_flat P make [] all = tt
each_flat P make (x ∷ xs) all = each_append P (make x) (flat_map make xs) all.0 (each_flat P make xs all.1)

heads : {A : Type 0} {x y : A} {xs ys : List A} → x ∷ xs ≡ y ∷ ys → x ≡ y
heads h = cc

tails : {A : Type 0} {x y : A} {xs ys : List A} → x ∷ xs ≡ y ∷ ys → xs ≡ ys
tails h = cc

module _ {K : Type 0} (cmp : K → K → Ordering) (matching : K → K → Bool) where
  answer_weaker : (Q R : K → Type 0) → ((e : K) → Q e → R e) → (m : Message K) → AnswerIn Q m → AnswerIn R m
  answer_weaker Q R h (message.DeclareToken id e None node) own = tt
  answer_weaker Q R h (message.DeclareToken id e (Some i) node) own = h e own
  answer_weaker Q R h (message.UndeclareToken id e node) own = tt
  answer_weaker Q R h (message.DeclareFinal id) own = tt
  answer_weaker Q R h (message.Interest id mode options e) own = tt
  answer_weaker Q R h (message.InterestFinal id) own = tt
  answer_weaker Q R h (message.DeclareSubscriber id e i) own = tt
  answer_weaker Q R h (message.DeclareQueryable id e info i) own = tt

  answers_weaker : (Q R : K → Type 0) → ((e : K) → Q e → R e) → (ms : List (Sent K)) → AnswersIn cmp matching Q ms → AnswersIn cmp matching R ms
  answers_weaker Q R h ms all = each_weaker (λ m. AnswerIn Q m.message) (λ m. AnswerIn R m.message) (λ m own. answer_weaker Q R h m.message own) ms all

  -- the expressions that an id is answered
  answered_in : (Q : K → Type 0) (id : ℕ) (m : Message K) → AnswerIn Q m → Each Q (answered_by id m)
  answered_in Q id (message.DeclareToken token e None node) own = tt
  answered_in Q id (message.DeclareToken token e (Some i) node) own = of_cond (Each Q) (id == i) (e ∷ []) [] (λ _. (own, tt)) (λ _. tt)
  answered_in Q id (message.UndeclareToken token e node) own = tt
  answered_in Q id (message.DeclareFinal i) own = tt
  answered_in Q id (message.Interest i mode options e) own = tt
  answered_in Q id (message.InterestFinal i) own = tt
  answered_in Q id (message.DeclareSubscriber n e i) own = tt
  answered_in Q id (message.DeclareQueryable n e info i) own = tt

  for_face : (Q : K → Type 0) (face : ℕ) (ms : List (Sent K)) → AnswersIn cmp matching Q ms → Each (AnswerIn Q) (printed_for face ms)
  unfolding printed_for
  for_face Q face [] all = tt
  for_face Q face (m ∷ ms) all = of_cond (Each (AnswerIn Q)) (face == m.face) (m.message ∷ printed_for face ms) (printed_for face ms) (λ _. (all.0, for_face Q face ms all.1)) (λ _. for_face Q face ms all.1)

  answers_each : (Q : K → Type 0) (face id : ℕ) (ms : List (Sent K)) → AnswersIn cmp matching Q ms → Each Q (answers_in id (printed_for face ms))
  answers_each Q face id ms all = each_flat Q (answered_by id) (printed_for face ms) (each_weaker (AnswerIn Q) (λ m. Each Q (answered_by id m)) (λ m own. answered_in Q id m own) (printed_for face ms) (for_face Q face ms all))

  shown_live : (s : Fabric K) (e : K) → LiveAt cmp matching s e → LiveAt cmp matching (as_shown s) e
  shown_live s e live = (live.0, live_shown cmp matching s live.0 e ∙ live.1)

  module _ (total : IsTotalOrder cmp) (equal_is_same : (a b : K) → cmp a b ≡ Equal → a ≡ b) where
    -- ---- where nothing waits

    own_live : (rows : ById K) → Each (λ row. list_any (λ r. same cmp row.1 r.1) rows ≡ true) rows
    own_live [] = tt
    own_live (row ∷ rows) = (
      ap (λ b. b || list_any (λ r. same cmp row.1 r.1) rows) (same_itself cmp total row.1),
      each_weaker (λ x. list_any (λ r. same cmp x.1 r.1) rows ≡ true) (λ x. (same cmp x.1 row.1 || list_any (λ r. same cmp x.1 r.1) rows) ≡ true) (λ x own. or_right (same cmp x.1 row.1) _ own) rows (own_live rows),
    )

    no_queues : (Q : K → Type 0) (w : ById (List (Message K))) → list_all (λ row. elim row.1 [ [] ↦ true | m ∷ ms ↦ false ]) w ≡ true → Queues Q w
    no_queues Q [] h = tt
    no_queues Q ((q, []) ∷ w) h = (tt, no_queues Q w h)
    no_queues Q ((q, m ∷ ms) ∷ w) h = cc

    module _ (s : Fabric K) (sound : SoundFabric cmp matching total equal_is_same s) (agree : TreesAgree cmp matching s) (trees : FacesFormTrees s) (quiet : are_links_empty s ≡ true) where
      to_live : (k : ℕ) (x : FaceAt K) (e : K) → face_numbered s k ≡ Some x → keeps cmp x.face e ≡ true → LiveAt cmp matching s e
      to_live k x e found kept =
          let live = kept_is_plainly_live cmp matching s sound.order agree trees (sound_gateways_keep cmp matching s sound) quiet k x e found kept in
          (live.face, live.live)

      live_somewhere : (k : ℕ) (x : FaceAt K) (e : K) → face_numbered s k ≡ Some x → is_live_at cmp matching x.face e ≡ true → LiveAt cmp matching s e
      live_somewhere k x e found lives =
          let has = λ (rows : ById K). list_any (λ row. same cmp e row.1) rows in
          by_test (list_any (is_end_of k) s.links)
          (λ is_end.
          let joint = agree.links.stay k x found is_end in
          let ends = agree.links.meet k joint.other joint.joined in
          let y = ends.two in
          by_test (is_north x.face.region)
          (λ up.
          let q = quiet_joint cmp matching s k joint.other x y agree quiet joint.joined found ends.two_is up in
          to_live joint.other y e ends.two_is (ap has (sym q.live_below) ∙ lives))
          (λ down.
          let one_ : ends.one ≡ x = some_is (sym ends.one_is ∙ found) in
          let up : is_north y.face.region ≡ true = ends.one_leads_up ∙ ap (λ (z : FaceAt K). not (is_north z.face.region)) one_ ∙ ap not down in
          let q = quiet_joint cmp matching s joint.other k y x agree quiet (joined_back s k joint.other joint.joined) ends.two_is found up in
          to_live joint.other y e ends.two_is (ap has (sym q.live_above) ∙ lives)))
          (λ plain. (k, and_from (is_plain_number s k) (is_some_and (face_numbered s k) (λ z. is_live_at cmp matching z.face e)) (ap not plain) (ap (λ o. is_some_and o (λ z. is_live_at cmp matching z.face e)) found ∙ lives)))
        where
          some_is : {A : Type 0} {u v : A} → Some u ≡ Some v → u ≡ v
          some_is h = cc

      -- all tokens are live at plain faces
      quiet_everywhere : Everywhere (LiveAt cmp matching s) s
      quiet_everywhere =
          let Q = LiveAt cmp matching s in
          record {
            gateways =
                each_of_gateways (λ (node : Node K). IsIn Q node.rows) 1 s.gateways
                (each_gateway_from (λ n (node : Node K). IsIn Q node.rows) 1 s.gateways
                (λ m node at_.
                let n = m + 1 in
                let gateway = gateway_in_order cmp matching s n node at_ sound.order in
                record {
                  live =
                      each_both (λ f. find_face f.number node.rows ≡ Some f) (λ f. is_placed n f.number s.faces ≡ true) (λ f. Each (λ row. Q row.1) f.live)
                      (λ f found placed.
                      let k = number_from 1 n f.number s.faces in
                      let k_is : k + 1 - 1 ≡ k = omega arith in
                      let place_ : nth k s.faces ≡ Some (record { gateway = n; face = f.number }) = ap (λ j. nth j s.faces) (sym k_is) ∙ nth_of_number 1 n f.number s.faces placed in
                      let is = numbered s k (record { gateway = n; face = f.number }) node f place_ at_ found in
                      each_weaker (λ row. list_any (λ r. same cmp row.1 r.1) f.live ≡ true) (λ row. Q row.1) (λ row own. live_somewhere k (record { gateway = n; rows = node.rows; face = f }) row.1 is own) f.live (own_live f.live))
                      node.rows.faces (found_by_number 1 node.rows.faces gateway.rows.lists.faces_rise) gateway.placed;
                  routed = each_weaker (λ row. zid_eq row.source node.rows.zid ≡ true) (λ row. zid_eq row.source node.rows.zid ≡ false → Q row.expr) (λ row own other. never own other) node.rows.routed (each_nth (λ (x : Node K). _) n s.gateways node agree.gateways at_).own_rows;
                }));
            waiting = no_queues Q s.waiting quiet;
          }

    -- ---- turns

    module _ (face id : ℕ) (interest : InterestRow K) where
      -- a line that doesn't disturb the ask is no accepted unlinking
      calm_leaves : (line : PlainLine K) (s : Fabric K) (sound : SoundFabric cmp matching total equal_is_same s) (agree : TreesAgree cmp matching s) (trees : FacesFormTrees s) (Q : K → Type 0) (all : Everywhere Q s) (before after : Fabric K)
          → disturbs cmp matching face id interest (record { line = line; entry = entry_of cmp matching line s; before = before; after = after }) ≡ false → HasFirstIds line → FacesFormTrees (fabric_after cmp matching line (entry_of cmp matching line s) s)
          → Leaves cmp matching total equal_is_same s sound.order agree trees Q all (messages_of (entry_of cmp matching line s)) (fabric_after cmp matching line (entry_of cmp matching line s) s)
      unfolding fabric_after
      calm_leaves (Unlink n) s sound agree trees Q all before after calm real now_ = refused (entry_of cmp matching (Unlink n) s) calm
        where
          refused : (e : PlainEntry K) → (is_accepted e && true) ≡ false → Leaves cmp matching total equal_is_same s sound.order agree trees Q all (messages_of e) (fabric_after cmp matching (Unlink n) e s)
          refused (Ok ms) h = never refl h
          refused (Err r) h = (everywhere_weaker Q (OrLive cmp matching Q s) (λ e own. inl own) s all, tt)
      calm_leaves (Step n back) s sound agree trees Q all before after calm real now_ = line_leaves cmp matching total equal_is_same s sound.order agree trees Q all (Step n back) refl real now_
      calm_leaves (Speak call) s sound agree trees Q all before after calm real now_ = line_leaves cmp matching total equal_is_same s sound.order agree trees Q all (Speak call) refl real now_
      calm_leaves (Moment n now) s sound agree trees Q all before after calm real now_ = line_leaves cmp matching total equal_is_same s sound.order agree trees Q all (Moment n now) refl real now_
      calm_leaves (SetTreesAt n region t) s sound agree trees Q all before after calm real now_ = line_leaves cmp matching total equal_is_same s sound.order agree trees Q all (SetTreesAt n region t) refl real now_
      calm_leaves (Gateway mode zid regions south name timeout refused) s sound agree trees Q all before after calm real now_ = line_leaves cmp matching total equal_is_same s sound.order agree trees Q all (Gateway mode zid regions south name timeout refused) refl real now_
      calm_leaves (Session n first) s sound agree trees Q all before after calm real now_ = line_leaves cmp matching total equal_is_same s sound.order agree trees Q all (Session n first) refl real now_
      calm_leaves (FaceLine n mode zid region bound first) s sound agree trees Q all before after calm real now_ = line_leaves cmp matching total equal_is_same s sound.order agree trees Q all (FaceLine n mode zid region bound first) refl real now_
      calm_leaves (LinkLine one two first back) s sound agree trees Q all before after calm real now_ = line_leaves cmp matching total equal_is_same s sound.order agree trees Q all (LinkLine one two first back) refl real now_

      abbrev Calm : Turn K → Type 0
      Calm t = disturbs cmp matching face id interest t ≡ false

      abbrev Answers : (K → Type 0) → Turn K → Type 0
      Answers Q t = AnswersIn cmp matching Q (printed t)

      abbrev Closed : (K → Type 0) → Turn K → Type 0
      Closed Q t = (e : K) → LiveAt cmp matching t.after e → Q e

      abbrev TurnsOf : List (PlainLine K) → Fabric K → Fabric K → List (Turn K)
      TurnsOf lines s shown = turns_from cmp matching lines (entries_from cmp matching lines s) shown

      abbrev TurnOf : PlainLine K → Fabric K → Turn K
      TurnOf line s = record { line = line; entry = entry_of cmp matching line s; before = as_shown s; after = fabric_shown cmp matching line (entry_of cmp matching line s) (as_shown s) }

      abbrev Next : PlainLine K → Fabric K → Fabric K
      Next line s = fabric_after cmp matching line (entry_of cmp matching line s) s

      -- from tokens of a kind on, answers are of the kind, where what becomes live is too
      goes : (lines : List (PlainLine K)) (s : Fabric K) → Each HasFirstIds lines → SoundFabric cmp matching total equal_is_same s → TreesAgree cmp matching s → FacesFormTrees s → (Q : K → Type 0) → Everywhere Q s
          → (between : List (Turn K)) (ending : Option (Turn K)) (later : List (Turn K)) → TurnsOf lines s (as_shown s) ≡ between ++ option_to_list ending ++ later → Each (LeavesTrees cmp matching) (TurnsOf lines s (as_shown s)) → Each (Closed Q) between → Each Calm (between ++ option_to_list ending)
          → Each (Answers Q) (between ++ option_to_list ending)
      unfolding turns_from entries_from
      goes [] s real sound agree trees_s Q all [] None later = λ is trees closed calm. tt
      goes [] s real sound agree trees_s Q all [] (Some t) later = λ is trees closed calm. cc
      goes [] s real sound agree trees_s Q all (t ∷ ts) ending later = λ is trees closed calm. cc
      goes (line ∷ lines) s real sound agree trees_s Q all [] None later = λ is trees closed calm. tt
      goes (line ∷ lines) s real sound agree trees_s Q all [] (Some t) later = λ is trees closed calm.
          let shown = fabric_is_shown cmp matching total line s sound.order in
          let here : FacesFormTrees (Next line s) = tree_unshown cmp matching (Next line s) (subst FacesFormTrees shown trees.0.0) in
          let head_ : TurnOf line s ≡ t = heads is in
          let leaves = calm_leaves line s sound agree trees_s Q all (as_shown s) (TurnOf line s).after (subst Calm (sym head_) calm.0) real.0 here in
          (subst (Answers Q) head_ leaves.1, tt)
      goes (line ∷ lines) s real sound agree trees_s Q all (t ∷ ts) ending later = λ is trees closed calm.
          let next = Next line s in
          let shown = fabric_is_shown cmp matching total line s sound.order in
          let here : FacesFormTrees next = tree_unshown cmp matching next (subst FacesFormTrees shown trees.0.0) in
          let head_ : TurnOf line s ≡ t = heads is in
          let leaves = calm_leaves line s sound agree trees_s Q all (as_shown s) (TurnOf line s).after (subst Calm (sym head_) calm.0) real.0 here in
          let sound_next = sound_after_line cmp matching total equal_is_same line s real.0 sound in
          let agree_next = trees_after_each cmp matching total equal_is_same s sound.order agree line real.0 (not_spent cmp matching total equal_is_same (entry_of cmp matching line s) trees.0.1) here in
          let closed_ : (e : K) → LiveAt cmp matching (as_shown next) e → Q e = subst (λ (u : Fabric K). (e : K) → LiveAt cmp matching u e → Q e) shown (subst (Closed Q) (sym head_) closed.0) in
          let all_next : Everywhere Q next = everywhere_weaker (OrLive cmp matching Q next) Q (λ e own. ⊎_elim (λ q. q) (λ live. closed_ e (shown_live next e live)) own) next leaves.0 in (
            subst (Answers Q) head_ leaves.1,
            goes lines next real.1 sound_next agree_next here Q all_next ts ending later (subst (λ (u : Fabric K). TurnsOf lines next u ≡ ts ++ option_to_list ending ++ later) shown (tails is)) (subst (λ (u : Fabric K). Each (LeavesTrees cmp matching) (TurnsOf lines next u)) shown trees.1) closed.1 calm.1,
          )

      -- what was live since the asking
      abbrev Was : List (Turn K) → K → Type 0
      Was turns e = (t : Turn K) × (face : ℕ) × IsMember t turns × (is_plainly_live_at cmp matching t.after face e ≡ true)

      -- the asking itself
      at_ask : (n i : ℕ) (mode : InterestMode) (options : InterestOptions) (ex : Option K) (s : Fabric K) (sound : SoundFabric cmp matching total equal_is_same s) (agree : TreesAgree cmp matching s) (trees_s : FacesFormTrees s) → are_links_empty s ≡ true
          → (let line : PlainLine K = Speak (Interest n i mode options ex) in HasFirstIds line → FacesFormTrees (Next line s) → Everywhere (LiveAt cmp matching (Next line s)) (Next line s) × AnswersIn cmp matching (LiveAt cmp matching (Next line s)) (messages_of (entry_of cmp matching line s)))
      at_ask n i mode options ex s sound agree trees_s quiet = λ real now_.
          let line : PlainLine K = Speak (Interest n i mode options ex) in
          let next = Next line s in
          let L = LiveAt cmp matching next in
          let leaves = line_leaves cmp matching total equal_is_same s sound.order agree trees_s (LiveAt cmp matching s) (quiet_everywhere s sound agree trees_s quiet) line refl real now_ in
          let stay : (e : K) → LiveAt cmp matching s e → L e = asks_stay cmp matching total equal_is_same s sound.order agree trees_s n i mode options ex in (
            everywhere_weaker (OrLive cmp matching (LiveAt cmp matching s) next) L (λ e own. ⊎_elim (stay e) (λ live. live) own) next leaves.0,
            answers_weaker (LiveAt cmp matching s) L stay (messages_of (entry_of cmp matching line s)) leaves.1,
          )

      asked : (lines : List (PlainLine K)) (s : Fabric K) → Each HasFirstIds lines → SoundFabric cmp matching total equal_is_same s → TreesAgree cmp matching s → FacesFormTrees s
          → (earlier : List (Turn K)) (asking : Turn K) (between : List (Turn K)) (ending : Option (Turn K)) (later : List (Turn K)) → TurnsOf lines s (as_shown s) ≡ earlier ++ asking ∷ between ++ option_to_list ending ++ later → Each (LeavesTrees cmp matching) (TurnsOf lines s (as_shown s))
          → MakesAsk cmp matching asking face id interest → are_links_empty asking.before ≡ true → Each Calm (between ++ option_to_list ending)
          → Each (Answers (Was (asking ∷ between))) (asking ∷ between ++ option_to_list ending)
      unfolding turns_from entries_from
      asked [] s real sound agree trees_s [] asking between ending later = λ is trees made quiet calm. cc
      asked [] s real sound agree trees_s (t ∷ ts) asking between ending later = λ is trees made quiet calm. cc
      asked (line ∷ lines) s real sound agree trees_s [] asking between ending later = λ is trees made quiet calm.
          let next = Next line s in
          let Q = Was (asking ∷ between) in
          let shown = fabric_is_shown cmp matching total line s sound.order in
          let here : FacesFormTrees next = tree_unshown cmp matching next (subst FacesFormTrees shown trees.0.0) in
          let head_ : TurnOf line s ≡ asking = heads is in
          let line_is : line ≡ Speak (Interest face id interest.mode made.options interest.expr) = ap (λ (t : Turn K). t.line) head_ ∙ made.line in
          let quiet_ : are_links_empty s ≡ true = ap (λ (t : Turn K). are_links_empty t.before) head_ ∙ quiet in
          let at_ =
          subst (λ (l : PlainLine K). HasFirstIds l → FacesFormTrees (Next l s) → Everywhere (LiveAt cmp matching (Next l s)) (Next l s) × AnswersIn cmp matching (LiveAt cmp matching (Next l s)) (messages_of (entry_of cmp matching l s))) (sym line_is)
          (at_ask face id interest.mode made.options interest.expr s sound agree trees_s quiet_) real.0 here in
          let after_ : as_shown next ≡ asking.after = sym shown ∙ ap (λ (t : Turn K). t.after) head_ in
          let was : (e : K) → LiveAt cmp matching next e → Q e = λ e live. let l = subst (λ (u : Fabric K). LiveAt cmp matching u e) after_ (shown_live next e live) in (asking, l.0, Here between, l.1) in
          let sound_next = sound_after_line cmp matching total equal_is_same line s real.0 sound in
          let agree_next = trees_after_each cmp matching total equal_is_same s sound.order agree line real.0 (not_spent cmp matching total equal_is_same (entry_of cmp matching line s) trees.0.1) here in (
            subst (Answers Q) head_ (answers_weaker (LiveAt cmp matching next) Q was (messages_of (entry_of cmp matching line s)) at_.1),
            goes lines next real.1 sound_next agree_next here Q (everywhere_weaker (LiveAt cmp matching next) Q was next at_.0) between ending later (subst (λ (u : Fabric K). TurnsOf lines next u ≡ between ++ option_to_list ending ++ later) shown (tails is)) (subst (λ (u : Fabric K). Each (LeavesTrees cmp matching) (TurnsOf lines next u)) shown trees.1)
                (each_of_members (Closed Q) between (λ t member e live. (t, live.0, There asking between member, live.1))) calm,
          )
      asked (line ∷ lines) s real sound agree trees_s (t ∷ ts) asking between ending later = λ is trees made quiet calm.
          let next = Next line s in
          let shown = fabric_is_shown cmp matching total line s sound.order in
          let here : FacesFormTrees next = tree_unshown cmp matching next (subst FacesFormTrees shown trees.0.0) in
          let sound_next = sound_after_line cmp matching total equal_is_same line s real.0 sound in
          let agree_next = trees_after_each cmp matching total equal_is_same s sound.order agree line real.0 (not_spent cmp matching total equal_is_same (entry_of cmp matching line s) trees.0.1) here in
          asked lines next real.1 sound_next agree_next here ts asking between ending later (subst (λ (u : Fabric K). TurnsOf lines next u ≡ ts ++ asking ∷ between ++ option_to_list ending ++ later) shown (tails is)) (subst (λ (u : Fabric K). Each (LeavesTrees cmp matching) (TurnsOf lines next u)) shown trees.1) made quiet calm

    -- An ask is answered only what was live at a plain face since.
    pub gets_only : (lines : List (PlainLine K)) (s : Fabric K) → Each HasFirstIds lines → SoundFabric cmp matching total equal_is_same s → TreesAgree cmp matching s → FacesFormTrees s
        → (let turns = turns_from cmp matching lines (entries_from cmp matching lines s) (as_shown s) in Each (LeavesTrees cmp matching) turns → GetsOnlyWhatWas cmp matching turns)
    gets_only lines s real sound agree trees_s = λ trees a e answered.
        let Q = Was a.face a.id a.interest (a.asking ∷ a.between) in
        let calm = none_each (disturbs cmp matching a.face a.id a.interest) (a.asking ∷ a.between ++ option_to_list a.ending) a.undisturbed in
        let all = asked a.face a.id a.interest lines s real sound agree trees_s a.earlier a.asking a.between a.ending a.later a.turns_are trees a.made a.quiet calm.1 in
        any_member (λ t. AnswersIn cmp matching Q (printed t)) (λ t. is_among cmp e (answers_of_turn cmp matching a.face a.id t)) (a.asking ∷ a.between ++ option_to_list a.ending) all answered
        (λ t own among.
        any_member Q (same cmp e) (answers_of_turn cmp matching a.face a.id t) (answers_each Q a.face a.id (printed t) own) among
        (λ other was same_. subst Q (sym (equal_is_same e other (is_equal (cmp e other) same_))) was))
