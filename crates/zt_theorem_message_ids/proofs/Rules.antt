-- What each part of a call says names what stands.
use Rattle.std.proofs.Common.{◌≡◌, ℕ, ◌+◌, ◌≤◌, max, Bool, true, false, not, ◌==◌, ◌&&◌, ◌||◌, if◌then◌else◌, List, [], ◌∷◌, ◌++◌, map, filter, Option, Some, None, refl, sym, ap, ◌∙◌, subst, arith, eq-eqb, eqb-true, ne_eqb}
use Rattle.std.proofs.lemmas.Bool.{and_from, and_parts, or_left, or_right}
use Rattle.std.specs.Cmp.{IsTotalOrder}
use Rattle.std.specs.List.{flat_map, list_any}
use Rattle.std.specs.declared.cmp.Ordering.{Ordering}
use Rattle.zt_region.specs.declared.region.Region.{Region}
use Rattle.zt_region.specs.declared.region.Zid.{Zid}
use Rattle.zt_region.specs.Admission.{admits}
use Rattle.zt_region.specs.Region.{is_north}
use Rattle.zt_protocol.specs.declared.messages.Message.{Message}
use Rattle.zt_protocol.specs.declared.messages.Message.TheVariants as message
use Rattle.zt_model.specs.Closing.{leaving, without_asks}
use Rattle.zt_model.specs.Hat.{hat_of_face}
use Rattle.zt_model.specs.Hearing.{messages_for, rows_heard, told_pair}
use Rattle.zt_model.specs.Lists.{has_id, in_key_order, same, without_id}
use Rattle.zt_model.specs.Parts.{unsaid_to}
use Rattle.zt_model.specs.Routing.{asks_same, end_upstream_to, ended, ending, finalising, final_of_both, finish_to, is_held_south, tokens_from, unheld, untell_to}
use Rattle.zt_model.specs.Rows.{ById, Face, InterestRow, Rows}
use Rattle.zt_model.specs.Says.{Alter, Part, Say, Sends, altered_by, answering, declaring, declaring_of, find_face, forget_to, forget_untold, hiding_undeclared, is_routed, is_told, registered, said_by, tell_to, to_each, to_face, told_id, undeclared, undeclaring, undeclaring_of, unregistered, with_face}
use Rattle.zt_model.specs.Telling.{answer_to}
use Rattle.zt_model.specs.Transcript.{Each}
use Rattle.zt_model.specs.Trees.{forgetting, hide_to, hiding, is_newly_shown, pass_to, router_regions, show_to, showing, unpass_to, with_routed, without_own_rows, without_routed}
use Rattle.zt_model.specs.Visible.{is_visible, keeps, shows}
use Rattle.zt_model.specs.Wants.{seeks, wants}
use Rattle.zt_laws.specs.Order.{HasRowsInOrder, KeysOnce, ListsAreInOrder}
use Rattle.zt_laws.specs.Sound.{IsToldInOrder, RiseFrom}
use Rattle.zt_laws.proofs.Faces.{chosen_leaves}
use Rattle.zt_laws.proofs.Hearing.{each_ruled, each_ruled_one, find_only, messages_for_each, messages_for_other, messages_for_own}
use Rattle.zt_laws.proofs.Keys.{in_key_order_is, in_order_filter, once_in_order, same_back, same_left}
use Rattle.zt_laws.proofs.Lists.{any-append, any_weaker, by_test, each_always, each_append, each_both, each_fails, each_filter, each_map, each_weaker, map-map, map_alike, never, of_cond, rise_above, rise_filter}
use Rattle.zt_laws.proofs.PartsOrder.{AreInOrder, IsOrderlyPart, each_flat_map, each_of_map, heard_in_order, lists_heard, tolds}
use Rattle.zt_laws.proofs.Registering.{messages_but_for}
use Rattle.zt_laws.proofs.Told.{told_id_each, told_id_row}
use Rattle.zt_laws.specs.Kept.{told_of}
use Rattle.zt_theorem_soundness.proofs.CallsRun.{own_rows_leave}
use Rattle.zt_theorem_visibility.proofs.Saying.{SaysEach, answering_says, final_of_both_says, finish_says, hiding_says, pass_says, showing_says, unpass_says}
use Rattle.zt_theorem_message_ids.proofs.Standing.{AllName, Name, NamesNothing, Standing, all_name_nothing, all_name_then, standing_of, standings}

-- ---- rows by id

-- each row's id is there
own_ids : {A : Type 0} (rows : ById A) → Each (λ row. has_id row.0 rows ≡ true) rows
own_ids [] = tt
own_ids (r ∷ rows) = (
  or_left (r.0 == r.0) (has_id r.0 rows) (eq-eqb r.0 r.0 refl),
  each_weaker (λ row. has_id row.0 rows ≡ true) (λ row. has_id row.0 (r ∷ rows) ≡ true) (λ row there. or_right (row.0 == r.0) (has_id row.0 rows) there) rows (own_ids rows),
)

-- a row stays where another id is taken away
has_still : {A : Type 0} (k id : ℕ) (rows : ById A) → (id == k) ≡ false → has_id k rows ≡ true → has_id k (without_id id rows) ≡ true
has_still k id [] apart there = there
has_still k id (row ∷ rows) apart there =
    by_test (id == row.0)
    (λ gone.
    let miss : (k == row.0) ≡ false = ne_eqb k row.0 (λ one. never (ap (λ j. id == j) one ∙ gone) apart) in
    rw gone (has_still k id rows apart (rw miss at there)))
    (λ kept. rw kept (by_test (k == row.0) (λ here. or_left (k == row.0) _ here) (λ here. or_right (k == row.0) _ (has_still k id rows apart (rw here at there)))))

module _ {K : Type 0} (cmp : K → K → Ordering) where
  -- a told id is there
  told_there : (e : K) (told : ById K) (id : ℕ) → told_id cmp e told ≡ Some id → has_id id told ≡ true
  told_there e told id is = any_weaker (λ row. (id == row.0) && same cmp e row.1) (λ row. id == row.0) (λ row both. (and_parts (id == row.0) (same cmp e row.1) both).0) told (told_id_row cmp e told id is)

  -- where ids rise, what is told under one id is one expression
  told_same : (total : IsTotalOrder cmp) (e x : K) (low : ℕ) (told : ById K) (id : ℕ) → RiseFrom (λ row. row.0) low told → told_id cmp e told ≡ Some id → told_id cmp x told ≡ Some id → same cmp e x ≡ true
  unfolding told_id
  told_same total e x low [] id rises one two = cc
  told_same total e x low (row ∷ rows) id rises one two =
      let above = rise_above (λ r. r.0) (row.0 + 1) rows rises.1 in
      by_test (same cmp e row.1)
      (λ here.
      let e_ : Some row.0 ≡ Some id = rw here at one in
      let is : row.0 ≡ id = cc in
      by_test (same cmp x row.1)
      (λ own. same_left cmp total e row.1 x here ∙ same_back cmp total row.1 x ∙ own)
      (λ own. let up : row.0 + 1 ≤ id = told_id_each cmp (λ k. row.0 + 1 ≤ k) x rows id above (rw own at two) in absurd (omega arith)))
      (λ here.
      let later : told_id cmp e rows ≡ Some id = rw here at one in
      let up : row.0 + 1 ≤ id = told_id_each cmp (λ k. row.0 + 1 ≤ k) e rows id above later in
      by_test (same cmp x row.1)
      (λ own. let x_ : Some row.0 ≡ Some id = rw own at two in let is : row.0 ≡ id = cc in absurd (omega arith))
      (λ own. told_same total e x (row.0 + 1) rows id rises.1 later (rw own at two)))

module _ {K : Type 0} (cmp : K → K → Ordering) (matching : K → K → Bool) where
  abbrev Names : List (Message K) → Face K → Type 0
  Names ms f = Name cmp ms (standing_of f)

  -- ---- rules

  names_tell : (g : Rows K) (source : Region) (e : K) (f : Face K) → Names (tell_to cmp matching g source e f) f
  unfolding tell_to
  names_tell g source e f =
      of_cond (λ ms. Names ms f) (is_told cmp matching g source e f) (message.DeclareToken f.next e None 0 ∷ []) []
      (λ told. (or_right (f.next == 0) ((f.next == f.next) && not (keeps cmp f e)) (and_from (f.next == f.next) (not (keeps cmp f e)) (eq-eqb f.next f.next refl) (unkept told)), tt)) (λ _. tt)
    where
      unkept : is_told cmp matching g source e f ≡ true → not (keeps cmp f e) ≡ true
      unkept told =
          let outside = and_parts (not (is_routed g f)) (admits g.refused source f.region && shows g.mode f.region source && not (keeps cmp f e) && seeks matching g.mode f e) told in
          let sought = and_parts (admits g.refused source f.region && shows g.mode f.region source && not (keeps cmp f e)) (seeks matching g.mode f e) outside.1 in
          (and_parts (admits g.refused source f.region && shows g.mode f.region source) (not (keeps cmp f e)) sought.0).1

  names_forget : (g : Rows K) (source : Region) (e : K) (f : Face K) → Names (forget_to cmp matching g source e f) f
  unfolding forget_to
  names_forget g source e f = by_test (is_routed g f || is_visible cmp g f.region e) (λ here. rw here tt) (λ here. rw here (cases (told_id cmp e f.told) refl))
    where
      cases : (o : Option ℕ) → told_id cmp e f.told ≡ o → (let ms : List (Message K) = elim o [ None ↦ forget_untold cmp matching g source e f | Some id ↦ message.UndeclareToken id None 0 ∷ [] ] in Names ms f)
      cases None found = of_cond (λ ms. Names ms f) (wants matching f e && (hat_of_face g f).undeclares_untold && shows g.mode f.region source) (message.UndeclareToken 0 (Some e) 0 ∷ []) [] (λ _. (refl, tt)) (λ _. tt)
      cases (Some id) found = (told_there cmp e f.told id found, tt)

  -- the id under which each expression was told is undeclared
  abbrev untells : ById K → List K → List (Message K)
  untells told es = flat_map (λ e. elim (told_id cmp e told) [ None ↦ [] | Some id ↦ message.UndeclareToken id None 0 ∷ [] ]) es

  abbrev StillTold : ById K → ById K → K → Type 0
  StillTold told rest e = (id : ℕ) → told_id cmp e told ≡ Some id → has_id id rest ≡ true

  -- the pairs of expressions that aren't the same, each by its id
  names_untells : (total : IsTotalOrder cmp) (told : ById K) (es : List K) (v : Standing K) → RiseFrom (λ row. row.0) 1 told → KeysOnce cmp es → Each (StillTold told v.told) es → Name cmp (untells told es) v
  names_untells total told [] v rises once there = tt
  names_untells total told (e ∷ es) v rises once there = cases (told_id cmp e told) refl (λ w still. names_untells total told es w rises once.1 still)
    where
      cases : (o : Option ℕ) → told_id cmp e told ≡ o → ((w : Standing K) → Each (StillTold told w.told) es → Name cmp (untells told es) w)
          → (let ms : List (Message K) = elim o [ None ↦ [] | Some id ↦ message.UndeclareToken id None 0 ∷ [] ] in Name cmp (ms ++ untells told es) v)
      cases None found rest = rest v there.1
      cases (Some id) found rest = (
        there.0 id found,
        rest (record v { told = without_id id v.told })
            (each_both (λ x. same cmp e x ≡ false) (StillTold told v.told) (StillTold told (without_id id v.told))
            (λ x apart still k k_is.
            let miss : (id == k) ≡ false = by_test (id == k) (λ one. let is : id ≡ k = eqb-true id k one in never (told_same cmp total e x 1 told id rises found (k_is ∙ ap (λ j. Some j) (sym is))) apart) (λ one. one) in
            has_still k id v.told miss (still k k_is)) es (each_fails (same cmp e) es once.0) there.1),
      )

  names_untell : (total : IsTotalOrder cmp) (g : Rows K) (f : Face K) → IsToldInOrder cmp f.told f.next → Names (untell_to cmp matching g f) f
  unfolding untell_to
  names_untell total g f ordered =
      let es = in_key_order cmp (map (λ row. row.1) f.told) in
      let gone = filter (λ e. not (wants matching f e)) es in
      of_cond (λ ms. Names ms f) ((hat_of_face g f).is_told_unasked f.region) [] (untells f.told gone) (λ _. tt)
      (λ _. names_untells total f.told gone (standing_of f) ordered.rises (once_in_order cmp gone (in_order_filter cmp (λ e. not (wants matching f e)) es (in_key_order_is cmp total (map (λ row. row.1) f.told))))
      (each_always (StillTold f.told f.told) (λ e id found. told_there cmp e f.told id found) gone))

  -- locals end, each by its id
  names_ends : (low : ℕ) (rows : ById (InterestRow K)) (v : Standing K) → RiseFrom (λ row. row.0) low rows → Each (λ row. has_id row.0 v.locals ≡ true) rows → Name cmp (map (λ row. message.InterestFinal row.0) rows) v
  names_ends low [] v rises there = tt
  names_ends low (row ∷ rows) v rises there = (
    there.0,
    names_ends (row.0 + 1) rows (record v { locals = without_id row.0 v.locals }) rises.1
        (each_both (λ other. row.0 + 1 ≤ other.0) (λ other. has_id other.0 v.locals ≡ true) (λ other. has_id other.0 (without_id row.0 v.locals) ≡ true)
        (λ other above still. has_still other.0 row.0 v.locals (ne_eqb row.0 other.0 (λ one. omega arith)) still) rows (rise_above (λ other. other.0) (row.0 + 1) rows rises.1) there.1),
  )

  names_end_upstream : (g : Rows K) (interest : InterestRow K) (f : Face K) → HasRowsInOrder f → Names (end_upstream_to cmp matching g interest f) f
  unfolding end_upstream_to
  names_end_upstream g interest f rows =
      let test = λ (row : ℕ × InterestRow K). asks_same cmp matching interest row.1 in
      of_cond (λ ms. Names ms f) (is_north f.region && not (is_held_south cmp matching g interest)) (map (λ row. message.InterestFinal row.0) (filter test f.locals)) []
      (λ _. names_ends 0 (filter test f.locals) (standing_of f) (rise_filter (λ row. row.0) 0 test f.locals rows.locals) (each_filter (λ row. has_id row.0 f.locals ≡ true) test f.locals (own_ids f.locals))) (λ _. tt)

  -- what wasn't told is told by no other expression's row
  still_new : (total : IsTotalOrder cmp) (n : ℕ) (e x : K) (told : ById K) → same cmp e x ≡ false → list_any (λ row. same cmp x row.1) told ≡ false → list_any (λ row. same cmp x row.1) (told_pair cmp n e told) ≡ false
  still_new total n e x told apart none_ =
      of_cond (λ (rows : ById K). list_any (λ row. same cmp x row.1) rows ≡ false) (n == 0 || list_any (λ row. n == row.0 && same cmp e row.1) told) told (told ++ (n, e) ∷ []) (λ _. none_)
      (λ _.
      any-append (λ row. same cmp x row.1) told ((n, e) ∷ [])
      ∙ ap (λ b. b || list_any (λ (row : ℕ × K). same cmp x row.1) ((n, e) ∷ [])) none_
      ∙ ap (λ b. b || false) (same_back cmp total x e ∙ apart))

  pub names_tokens : (total : IsTotalOrder cmp) (n : ℕ) (es : List K) (v : Standing K) → n ≡ v.next → KeysOnce cmp es → Each (λ e. list_any (λ row. same cmp e row.1) v.told ≡ false) es → Name cmp (tokens_from n es) v
  unfolding tokens_from
  names_tokens total n [] v is_next once new_ = tt
  names_tokens total n (e ∷ es) v is_next once new_ =
      let next_ : n + 1 ≡ max v.next (n + 1) = omega arith in (
        or_right (n == 0) ((n == v.next) && not (list_any (λ row. same cmp e row.1) v.told)) (and_from (n == v.next) (not (list_any (λ row. same cmp e row.1) v.told)) (eq-eqb n v.next is_next) (ap not new_.0)),
        names_tokens total (n + 1) es _ next_ once.1
            (each_both (λ x. same cmp e x ≡ false) (λ x. list_any (λ row. same cmp x row.1) v.told ≡ false) (λ x. list_any (λ row. same cmp x row.1) (told_pair cmp n e v.told) ≡ false)
            (λ x apart none_. still_new total n e x v.told apart none_) es (each_fails (same cmp e) es once.0) new_.1),
      )

  -- ---- parts

  -- A part says only what names what stands, and changes nothing else that stands.
  abbrev pub PartNames : Part K → Type 0
  PartNames (Alter change) = (g : Rows K) → standings (change g) ≡ standings g
  PartNames (Say rule) = (g : Rows K) → ListsAreInOrder cmp matching g → AreInOrder cmp (tolds cmp g) → AllName cmp (rule g) (standings g)

  -- what parts say
  pub said_names : (parts : List (Part K)) (g : Rows K) → Each (IsOrderlyPart cmp matching) parts → Each PartNames parts → ListsAreInOrder cmp matching g → AreInOrder cmp (tolds cmp g) → AllName cmp (said_by cmp matching parts g) (standings g)
  unfolding said_by messages_for
  said_names [] g orderly named lists ordered = each_always (λ v. Unit {0}) (λ v. tt) (standings g)
  said_names (Alter change ∷ parts) g orderly named lists ordered =
      let one = orderly.0 g lists in
      subst (AllName cmp (said_by cmp matching parts (change g))) (named.0 g) (said_names parts (change g) orderly.1 named.1 one.0 (subst (AreInOrder cmp) (sym one.1) ordered))
  said_names (Say rule ∷ parts) g orderly named lists ordered =
      let ss = rule g in
      let h = rows_heard cmp ss g in
      all_name_then cmp ss (said_by cmp matching parts h) g (named.0 g lists ordered) (said_names parts h orderly.1 named.1 (lists_heard cmp matching ss g lists) (heard_in_order cmp matching ss g (orderly.0 g lists ordered)))

  pub altered_stands : (parts : List (Part K)) (g : Rows K) → Each PartNames parts → standings (altered_by cmp matching parts g) ≡ standings g
  unfolding altered_by
  altered_stands [] g named = refl
  altered_stands (Alter change ∷ parts) g named = altered_stands parts (change g) named.1 ∙ named.0 g
  altered_stands (Say rule ∷ parts) g named = altered_stands parts g named.1

  -- a change of one face
  at_face : (n : ℕ) (change : Face K → Face K) → ((f : Face K) → standing_of (change f) ≡ standing_of f) → PartNames (Alter (with_face n change))
  unfolding with_face
  at_face n change same_ = λ g.
      map-map standing_of (λ f. if n == f.number then change f else f) g.faces
      ∙ map_alike (λ f. standing_of (if n == f.number then change f else f)) standing_of g.faces (each_always (λ f. standing_of (if n == f.number then change f else f) ≡ standing_of f) (λ f. chosen_leaves standing_of change (n == f.number) f (same_ f)) g.faces)

  says_nothing : (rule : Rows K → Sends K) → ((g : Rows K) → Each (λ s. NamesNothing cmp s.1) (rule g)) → PartNames (Say rule)
  says_nothing rule nothing = λ g lists ordered. all_name_nothing cmp (rule g) (standings g) (nothing g)

  -- what a rule gives for each face
  says_each : (rule : Rows K → Face K → List (Message K)) → ((g : Rows K) (f : Face K) → HasRowsInOrder f → IsToldInOrder cmp f.told f.next → Names (rule g f) f) → PartNames (Say (λ g. to_each (rule g) g.faces))
  says_each rule one = λ g lists ordered.
      each_map (λ v. Name cmp (messages_for v.number (to_each (rule g) g.faces)) v) standing_of g.faces
      (each_both (λ f. messages_for f.number (to_each (rule g) g.faces) ≡ rule g f) (λ f. HasRowsInOrder f × IsToldInOrder cmp f.told f.next) (λ f. Names (messages_for f.number (to_each (rule g) g.faces)) f)
      (λ f is both. subst (λ ms. Names ms f) (sym is) (one g f both.0 both.1)) g.faces (messages_for_each 1 (rule g) g.faces lists.faces_rise)
      (each_both HasRowsInOrder (λ f. IsToldInOrder cmp f.told f.next) (λ f. HasRowsInOrder f × IsToldInOrder cmp f.told f.next) (λ f a b. (a, b)) g.faces lists.rows (each_of_map (λ t. IsToldInOrder cmp t.rows t.next) told_of g.faces ordered)))

  -- and for one
  pub all_at : (n : ℕ) (rule : Face K → List (Message K)) (g : Rows K) → ListsAreInOrder cmp matching g → Each (λ f. (n == f.number) ≡ true → Names (rule f) f) g.faces → AllName cmp (to_face n rule g) (standings g)
  unfolding to_face messages_for
  all_at n rule g lists one = each_map (λ v. Name cmp (messages_for v.number (to_face n rule g)) v) standing_of g.faces (cases (find_face n g) refl)
    where
      cases : (o : Option (Face K)) → find_face n g ≡ o → Each (λ f. Names (messages_for f.number (elim o [ None ↦ [] | Some k ↦ map (λ m. (n, m)) (rule k) ])) f) g.faces
      cases None found = each_always (λ f. Unit {0}) (λ f. tt) g.faces
      cases (Some k) found =
          each_both (λ f. (n == f.number) ≡ true → f ≡ k) (λ f. (n == f.number) ≡ true → Names (rule f) f) (λ f. Names (messages_for f.number (map (λ m. (n, m)) (rule k))) f)
          (λ f only own.
          by_test (n == f.number)
          (λ here.
          let number_ : f.number ≡ n = sym (eqb-true n f.number here) in
          subst (λ ms. Names ms f) (sym (ap (λ j. messages_for j (map (λ m. (n, m)) (rule k))) number_ ∙ messages_for_own n (rule k) ∙ ap rule (sym (only here)))) (own here))
          (λ here. subst (λ ms. Names ms f) (sym (messages_for_other f.number n (rule k) (ne_eqb f.number n (λ is. never (eq-eqb n f.number (sym is)) here)))) tt))
          g.faces (find_only n 1 g.faces k lists.faces_rise found) one

  -- but for one face
  said_but : (n : ℕ) (rule : Rows K → Sends K) → PartNames (Say rule) → PartNames (Say (λ g. filter (λ s. not (n == s.0)) (rule g)))
  unfolding messages_for
  said_but n rule named = λ g lists ordered.
      each_weaker (λ v. Name cmp (messages_for v.number (rule g)) v) (λ v. Name cmp (messages_for v.number (filter (λ s. not (n == s.0)) (rule g))) v)
      (λ v own. subst (λ ms. Name cmp ms v) (sym (messages_but_for cmp matching n v.number (rule g))) (of_cond (λ ms. Name cmp ms v) (n == v.number) [] (messages_for v.number (rule g)) (λ _. tt) (λ _. own))) (standings g) (named g lists ordered)

  pub unsaid_names : (n : ℕ) (parts : List (Part K)) → Each PartNames parts → Each PartNames (unsaid_to n parts)
  unfolding unsaid_to
  unsaid_names n [] named = tt
  unsaid_names n (Alter change ∷ parts) named = (named.0, unsaid_names n parts named.1)
  unsaid_names n (Say rule ∷ parts) named = (said_but n rule named.0, unsaid_names n parts named.1)

  -- ---- what tokens bring about

  telling_names : (source : Region) (e : K) → PartNames (Say (λ g. to_each (tell_to cmp matching g source e) g.faces))
  telling_names source e = says_each (λ g. tell_to cmp matching g source e) (λ g f rows told. names_tell g source e f)

  forgetting_names : (source : Region) (e : K) → PartNames (Say (λ g. to_each (forget_to cmp matching g source e) g.faces))
  forgetting_names source e = says_each (λ g. forget_to cmp matching g source e) (λ g f rows told. names_forget g source e f)

  showing_names : (source : Region) (e : K) → Each PartNames (showing cmp source e)
  showing_names source e = (
    says_nothing (λ g. to_each (show_to cmp g source e) g.faces) (showing_says cmp matching (NamesNothing cmp) (λ x k. refl) source e).0,
    ((λ g. ap (map standing_of) (own_rows_leave cmp (λ (k : Rows K). k.faces) (λ k rows. refl) (filter (is_newly_shown cmp g source e) (router_regions g)) e g)), tt),
  )

  hiding_names : (source : Region) (e : K) → Each PartNames (hiding cmp source e)
  unfolding without_own_rows
  hiding_names source e = (says_nothing (λ g. to_each (hide_to cmp g source e) g.faces) (hiding_says cmp matching (NamesNothing cmp) (λ x k. tt) source e).0, ((λ g. refl), tt))

  pub answering_names : (n : ℕ) (interest : Option ℕ) (e : K) (f : Face K) → Each PartNames (answering cmp matching n interest e f)
  answering_names n None e f = tt
  answering_names n (Some i) e f =
      by_test (has_id i f.pendings)
      (λ here. let says : Each (SaysEach cmp matching (NamesNothing cmp)) (answering cmp matching n (Some i) e f) = answering_says cmp matching (NamesNothing cmp) (λ k x j. tt) n (Some i) e f in rw here (says_nothing (λ h. to_each (answer_to cmp matching n i e) h.faces) (rw here at says).0, tt))
      (λ here. rw here tt)

  pub declaring_names : (n id : ℕ) (e : K) (f : Face K) → Each PartNames (declaring cmp matching n id e f ++ showing cmp f.region e)
  declaring_names n id e f = (at_face n (registered id e) (λ k. refl), (telling_names f.region e, showing_names f.region e))

  pub declaring_of_names : (n : ℕ) (source : Option Zid) (e : K) (f : Face K) → Each PartNames (declaring_of cmp matching n source e f)
  unfolding with_routed
  declaring_of_names n None e f = tt
  declaring_of_names n (Some zid) e f = (
    λ g. refl,
    (
      said_but n (λ g. to_each (pass_to cmp g f.region zid e) g.faces) (says_nothing (λ g. to_each (pass_to cmp g f.region zid e) g.faces) (λ g. each_ruled (NamesNothing cmp) (pass_to cmp g f.region zid e) g.faces (pass_says cmp matching (NamesNothing cmp) (λ x k. refl) g f.region zid e))),
      (telling_names f.region e, showing_names f.region e),
    ),
  )

  pub undeclaring_names : (n id : ℕ) (given : Option K) (f : Face K) → Each PartNames (undeclaring cmp matching n id given f)
  undeclaring_names n id given f = cases (undeclared cmp matching id given f)
    where
      cases : (o : Option K) → Each PartNames (elim o [ None ↦ [] | Some e ↦ Alter (with_face n (unregistered id)) ∷ Say (λ g. to_each (forget_to cmp matching g f.region e) g.faces) ∷ [] ])
      cases None = tt
      cases (Some e) = (at_face n (unregistered id) (λ k. refl), (forgetting_names f.region e, tt))

  pub hiding_undeclared_names : (id : ℕ) (given : Option K) (f : Face K) → Each PartNames (hiding_undeclared cmp matching id given f)
  hiding_undeclared_names id given f = cases (undeclared cmp matching id given f)
    where
      cases : (o : Option K) → Each PartNames (elim o [ None ↦ [] | Some e ↦ hiding cmp f.region e ])
      cases None = tt
      cases (Some e) = hiding_names f.region e

  pub undeclaring_of_names : (n : ℕ) (source : Option Zid) (given : Option K) (f : Face K) → Each PartNames (undeclaring_of cmp matching n source given f)
  unfolding without_routed
  undeclaring_of_names n None given f = tt
  undeclaring_of_names n (Some zid) None f = tt
  undeclaring_of_names n (Some zid) (Some e) f = (
    λ g. refl,
    (
      said_but n (λ g. to_each (unpass_to cmp g f.region zid e) g.faces) (says_nothing (λ g. to_each (unpass_to cmp g f.region zid e) g.faces) (λ g. each_ruled (NamesNothing cmp) (unpass_to cmp g f.region zid e) g.faces (unpass_says cmp matching (NamesNothing cmp) (λ x k. tt) g f.region zid e))),
      (forgetting_names f.region e, hiding_names f.region e),
    ),
  )

  pub all_forgotten : (region : Region) (es : List K) → Each PartNames (forgetting cmp matching region es)
  all_forgotten region es = each_flat_map PartNames (λ e. Say (λ h. to_each (forget_to cmp matching h region e) h.faces) ∷ hiding cmp region e) es (λ e. (forgetting_names region e, hiding_names region e))

  -- ---- what ends

  pub finalising_names : (total : IsTotalOrder cmp) (n id : ℕ) (interest : InterestRow K) → Each PartNames (finalising cmp matching n id interest)
  finalising_names total n id interest = (
    at_face n (unheld id) (λ k. refl),
    (
      (λ g lists ordered. all_at n (untell_to cmp matching g) g lists (each_weaker (λ f. IsToldInOrder cmp f.told f.next) (λ f. (n == f.number) ≡ true → Names (untell_to cmp matching g f) f) (λ f told _. names_untell total g f told) g.faces (each_of_map (λ t. IsToldInOrder cmp t.rows t.next) told_of g.faces ordered))),
      (
        says_nothing (to_face n (final_of_both id interest)) (λ g. each_ruled_one (NamesNothing cmp) n (final_of_both id interest) g (final_of_both_says cmp matching (NamesNothing cmp) (λ i. tt) id interest)),
        (says_each (λ g. end_upstream_to cmp matching g interest) (λ g f rows told. names_end_upstream g interest f rows), tt),
      ),
    ),
  )

  ending_names : (n id : ℕ) → Each PartNames (ending n id)
  ending_names n id = (at_face n (ended id) (λ k. refl), (says_nothing (λ g. to_each (finish_to g n id) g.faces) (λ g. each_ruled (NamesNothing cmp) (finish_to g n id) g.faces (finish_says cmp matching (NamesNothing cmp) (λ i. tt) g n id)), tt))

  pub leaving_names : (total : IsTotalOrder cmp) (n : ℕ) (f : Face K) → Each PartNames (leaving cmp matching n f)
  leaving_names total n f =
      let gone = λ (row : ℕ × K). undeclaring cmp matching n row.0 None f ++ hiding cmp f.region row.1 in
      let finals = λ (row : ℕ × InterestRow K). finalising cmp matching n row.0 row.1 in
      let over = flat_map (λ row. ending n row.0) f.pendings in
      each_append PartNames (flat_map gone f.live ++ flat_map finals f.held) (Alter (with_face n without_asks) ∷ over)
      (each_append PartNames (flat_map gone f.live) (flat_map finals f.held)
      (each_flat_map PartNames gone f.live (λ row. each_append PartNames (undeclaring cmp matching n row.0 None f) (hiding cmp f.region row.1) (undeclaring_names n row.0 None f) (hiding_names f.region row.1)))
      (each_flat_map PartNames finals f.held (λ row. finalising_names total n row.0 row.1)))
      (at_face n without_asks (λ k. refl), each_flat_map PartNames (λ row. ending n row.0) f.pendings (λ row. ending_names n row.0))
