-- An interest is answered in its own call.
use Rattle.std.proofs.Common.{◌≡◌, ℕ, ◌+◌, Bool, if◌then◌else◌, ◌&&◌, ◌==◌, List, [], ◌∷◌, ◌++◌, filter, map, Option, Some, None, refl, ap, ◌∙◌, append-nil, eq-eqb, ◌||◌, not}
use Rattle.std.specs.declared.cmp.Ordering.{Ordering}
use Rattle.zt_region.specs.Region.{region_eq}
use Rattle.zt_region.specs.declared.region.Region.{Region}
use Rattle.zt_protocol.specs.Interest.{is_current, is_future, has_tokens}
use Rattle.zt_protocol.specs.Plain.{Interest}
use Rattle.zt_protocol.specs.declared.interests.InterestMode.{InterestMode}
use Rattle.zt_protocol.specs.declared.interests.InterestOptions.{InterestOptions}
use Rattle.zt_protocol.specs.declared.messages.Message.{Message}
use Rattle.zt_protocol.specs.declared.messages.Message.TheVariants as message
use Rattle.zt_model.specs.Entities.{entities_for, numbered_by, with_numbers}
use Rattle.zt_model.specs.Hearing.{heard_all, messages_for, rows_heard}
use Rattle.zt_model.specs.Lists.{at_id, in_key_order}
use Rattle.zt_model.specs.Promises.{answered_by, answers_in}
use Rattle.zt_model.specs.Routing.{asked_as, is_target, route_to, sent_as}
use Rattle.zt_model.specs.Rows.{Ask, ById, Face, InterestRow, Rows}
use Rattle.zt_model.specs.Says.{Sends, answered_expressions, answers_from, answers_of, asking, final_of, find_face, parts_of, row_of, said, said_by, to_each, to_face, told_id, with_face}
use Rattle.zt_model.specs.Transcript.{Each}
use Rattle.zt_model.specs.Visible.{live_rows, shows, visible_expressions}
use Rattle.zt_model.specs.Wants.{is_about}
use Rattle.zt_model.proofs.Hats.{shares_tokens_by_region}
use Rattle.zt_laws.proofs.Hearing.{each_ruled, each_ruled_one, heard_all-number, heard_all-region, messages_for-append, messages_for_own}
use Rattle.zt_laws.proofs.Lists.{by_test, of_cond}
use Rattle.zt_laws.proofs.PartsOrder.{each_message_for}
use Rattle.zt_theorem_soundness.proofs.ById.{find_mapped}
use Rattle.zt_theorem_soundness.proofs.CallsRun.{each_entity, live_rows_heard}
use Rattle.zt_theorem_soundness.proofs.Ends.{with_face_same}
use Rattle.zt_theorem_soundness.proofs.Opening.{flat_map-append}

module _ {K : Type 0} where
  -- the message answers nobody
  abbrev pub AnswersNone : ℕ → Message K → Type 0
  AnswersNone id m = answered_by id m ≡ []

  pub answers_none : (id : ℕ) (ms : List (Message K)) → Each (AnswersNone id) ms → answers_in id ms ≡ []
  answers_none id [] none_ = refl
  answers_none id (m ∷ ms) none_ = ap (λ (es : List K). es ++ answers_in id ms) none_.0 ∙ answers_none id ms none_.1

  pub final_none : (id k : ℕ) (f : Face K) → Each (AnswersNone k) (final_of id f)
  final_none id k f = by_ask (at_id id f.asks)
    where
      by_pendings : (ps : List (ℕ × ℕ)) → (let ms : List (Message K) = elim ps [ [] ↦ message.DeclareFinal id ∷ [] | p ∷ qs ↦ [] ] in Each (AnswersNone k) ms)
      by_pendings [] = (refl, tt)
      by_pendings (p ∷ qs) = tt

      by_ask : (o : Option (Ask K)) → (let ms : List (Message K) = elim o [ None ↦ [] | Some ask ↦ elim ask.pendings [ [] ↦ message.DeclareFinal id ∷ [] | p ∷ qs ↦ [] ] ] in Each (AnswersNone k) ms)
      by_ask None = tt
      by_ask (Some ask) = by_pendings ask.pendings

  pub route_none : (id : ℕ) (g : Rows K) (asker : Region) (interest : InterestRow K) (f : Face K) → Each (AnswersNone id) (route_to g asker interest f)
  unfolding route_to
  route_none id g asker interest f = of_cond (Each (AnswersNone id)) (is_target g asker interest.mode f) (message.Interest f.next interest.mode interest.options interest.expr ∷ []) [] (λ _. (refl, tt)) (λ _. tt)

  -- what one face is sent by a rule
  one_hears : (n : ℕ) (rule : Face K → List (Message K)) (g : Rows K) (f : Face K) → find_face n g ≡ Some f → messages_for n (to_face n rule g) ≡ rule f
  unfolding to_face
  one_hears n rule g f found = ap (λ (o : Option (Face K)). messages_for n (elim o [ None ↦ [] | Some k ↦ map (λ m. (n, m)) (rule k) ])) found ∙ messages_for_own n (rule f)

module _ {K : Type 0} (cmp : K → K → Ordering) (matching : K → K → Bool) where
  -- answers are what is answered
  pub answers_are : (next : ℕ) (told : ById K) (mode : InterestMode) (id : ℕ) (es : List K) → answers_in id (answers_from cmp matching next told mode id es) ≡ es
  unfolding answers_from
  answers_are next told mode id [] = refl
  answers_are next told mode id (e ∷ es) = by_test (is_future mode) (λ future. rw future (by_id (told_id cmp e told) (answers_are (next + 1) told mode id es) (answers_are next told mode id es))) (λ future. rw future (one 0 (answers_from cmp matching next told mode id es) (answers_are next told mode id es)))
    where
      one : (k : ℕ) (ms : List (Message K)) → answers_in id ms ≡ es → answers_in id (message.DeclareToken k e (Some id) 0 ∷ ms) ≡ e ∷ es
      one k ms rest = ap (λ b. (if b then e ∷ [] else []) ++ answers_in id ms) (eq-eqb id id refl) ∙ ap (λ xs. e ∷ xs) rest

      by_id : (o : Option ℕ) → answers_in id (answers_from cmp matching (next + 1) told mode id es) ≡ es → answers_in id (answers_from cmp matching next told mode id es) ≡ es
          → answers_in id (elim o [ None ↦ message.DeclareToken next e (Some id) 0 ∷ answers_from cmp matching (next + 1) told mode id es | Some old ↦ message.DeclareToken old e (Some id) 0 ∷ answers_from cmp matching next told mode id es ]) ≡ e ∷ es
      by_id None more same_ = one next (answers_from cmp matching (next + 1) told mode id es) more
      by_id (Some old) more same_ = one old (answers_from cmp matching next told mode id es) same_

  answered_as : (g h : Rows K) (interest : InterestRow K) (f k : Face K) → live_rows h ≡ live_rows g → k.region ≡ f.region → answered_expressions cmp matching h interest k ≡ answered_expressions cmp matching g interest f
  unfolding answered_expressions visible_expressions
  answered_as g h interest f k live_ region_ =
      ap (λ es. if is_current interest.mode && has_tokens interest.options then filter (is_about matching interest.expr) es else [])
      (ap (visible_expressions cmp h) region_
      ∙ ap (λ b. in_key_order cmp (map (λ row. row.1) (filter (λ row. b || not (region_eq row.0 f.region)) (live_rows h)))) (shares_tokens_by_region h.mode g.mode f.region)
      ∙ ap (λ (rows : List (Region × K)). in_key_order cmp (map (λ row. row.1) (filter (λ row. shows g.mode f.region row.0) rows))) live_)

  pub none_for : (id n : ℕ) (ss : Sends K) → Each (λ s. AnswersNone id s.1) ss → answers_in id (messages_for n ss) ≡ []
  none_for id n ss none_ = answers_none id (messages_for n ss) (each_message_for cmp (AnswersNone id) n ss none_)

  found_heard : (n : ℕ) (ss : Sends K) (g : Rows K) (f : Face K) → find_face n g ≡ Some f → find_face n (rows_heard cmp ss g) ≡ Some (heard_all cmp g.moment (messages_for f.number ss) f)
  unfolding rows_heard
  found_heard n ss g f found = find_mapped n (λ (k : Face K). heard_all cmp g.moment (messages_for k.number ss) k) g.faces f (λ k. heard_all-number cmp g.moment (messages_for k.number ss) k) found

  asking_answers : (n id : ℕ) (interest : InterestRow K) (f : Face K) (g : Rows K) → find_face n g ≡ Some f → answers_in id (messages_for n (said_by cmp matching (asking cmp matching n id interest f.region g) g)) ≡ answered_expressions cmp matching g interest f
  unfolding said_by with_face
  asking_answers n id interest f g found =
      let g1 = with_numbers cmp (numbered_by cmp interest) g in
      let ss1 = to_each (route_to g1 f.region interest) g1.faces in
      let g2 = rows_heard cmp ss1 g1 in
      let ss2 = to_face n (entities_for cmp matching g2 id interest) g2 in
      let g3 = rows_heard cmp ss2 g2 in
      let change = asked_as (sent_as g f.region interest.mode) id interest in
      let g4 = with_face n change g3 in
      let rule = answers_of cmp matching g4 id interest in
      let ss3 = to_face n rule g4 in
      let g5 = rows_heard cmp ss3 g4 in
      let ss4 = to_face n (final_of id) g5 in
      let f2 = heard_all cmp g1.moment (messages_for f.number ss1) f in
      let f3 = heard_all cmp g2.moment (messages_for f2.number ss2) f2 in
      let chosen = λ (k : Face K). if n == k.number then change k else k in
      let k = chosen f3 in
      let found3 : find_face n g3 ≡ Some f3 = found_heard n ss2 g2 f2 (found_heard n ss1 g1 f found) in
      let found4 : find_face n g4 ≡ Some k = find_mapped n chosen g3.faces f3 (λ x. of_cond (λ (y : Face K). y.number ≡ x.number) (n == x.number) (change x) x (λ _. refl) (λ _. refl)) found3 in
      let region_ : k.region ≡ f.region =
      of_cond (λ (y : Face K). y.region ≡ f3.region) (n == f3.number) (change f3) f3 (λ _. refl) (λ _. refl)
      ∙ heard_all-region cmp g2.moment (messages_for f2.number ss2) f2 ∙ heard_all-region cmp g1.moment (messages_for f.number ss1) f in
      let live_ : live_rows g4 ≡ live_rows g = (with_face_same n change g3 (λ x. refl) (λ x. refl)).live ∙ live_rows_heard cmp ss2 g2 ∙ live_rows_heard cmp ss1 g1 in
      let one = none_for id n ss1 (each_ruled (AnswersNone id) (route_to g1 f.region interest) g1.faces (route_none id g1 f.region interest)) in
      let two = none_for id n ss2 (each_ruled_one (AnswersNone id) n (entities_for cmp matching g2 id interest) g2 (each_entity cmp (AnswersNone id) (λ number e i. refl) (λ number e info i. refl) matching g2 id interest)) in
      let three : answers_in id (messages_for n ss3) ≡ answered_expressions cmp matching g interest f =
      ap (answers_in id) (one_hears n rule g4 k found4) ∙ answers_are k.next k.told interest.mode id (answered_expressions cmp matching g4 interest k) ∙ answered_as g g4 interest f k live_ region_ in
      let four = none_for id n ss4 (each_ruled_one (AnswersNone id) n (final_of id) g5 (λ x. final_none id id x)) in
      split ss1 (ss2 ++ (ss3 ++ (ss4 ++ [])))
      ∙ ap (λ es. es ++ answers_in id (messages_for n (ss2 ++ (ss3 ++ (ss4 ++ []))))) one
      ∙ split ss2 (ss3 ++ (ss4 ++ []))
      ∙ ap (λ es. es ++ answers_in id (messages_for n (ss3 ++ (ss4 ++ [])))) two
      ∙ split ss3 (ss4 ++ [])
      ∙ ap (λ es. answers_in id (messages_for n ss3) ++ es) (ap (λ ss. answers_in id (messages_for n ss)) (append-nil ss4) ∙ four)
      ∙ append-nil (answers_in id (messages_for n ss3))
      ∙ three
    where
      split : (ss ts : Sends K) → answers_in id (messages_for n (ss ++ ts)) ≡ answers_in id (messages_for n ss) ++ answers_in id (messages_for n ts)
      split ss ts = ap (answers_in id) (messages_for-append n ss ts) ∙ flat_map-append (answered_by id) (messages_for n ss) (messages_for n ts)

  pub answered_at_once : (n id : ℕ) (mode : InterestMode) (options : InterestOptions) (e : Option K) (f : Face K) (g : Rows K) → find_face n g ≡ Some f
      → answers_in id (messages_for n (said cmp matching (Interest n id mode options e) g)) ≡ answered_expressions cmp matching g (row_of cmp matching f mode options e) f
  unfolding parts_of
  answered_at_once n id mode options e f g found =
      ap (λ (o : Option (Face K)). answers_in id (messages_for n (said_by cmp matching (elim o [ None ↦ [] | Some k ↦ asking cmp matching n id (row_of cmp matching k mode options e) k.region g ]) g))) found
      ∙ asking_answers n id (row_of cmp matching f mode options e) f g found
