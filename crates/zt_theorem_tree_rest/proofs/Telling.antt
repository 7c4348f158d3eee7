-- What telling, forgetting, sending interests up and answering them cost at a face.
use Rattle.std.proofs.Common.{◌≡◌, ℕ, ◌+◌, ◌≤◌, Bool, true, not, if◌then◌else◌, ◌&&◌, ◌||◌, List, [], ◌∷◌, ◌++◌, map, filter, Option, Some, None, refl, sym, ap, subst, arith, le_trans}
use Rattle.std.proofs.lemmas.Bool.{and_parts}
use Rattle.std.specs.Cmp.{IsTotalOrder}
use Rattle.std.specs.List.{flat_map}
use Rattle.std.specs.Option.{option_to_list}
use Rattle.std.specs.declared.cmp.Ordering.{Ordering}
use Rattle.std.specs.declared.cmp.Ordering.TheVariants.{Less, Equal, Greater}
use Rattle.std.specs.FinMap.Entries.{by_order}
use Rattle.zt_region.specs.declared.region.Region.{Region}
use Rattle.zt_region.specs.Region.{is_north}
use Rattle.zt_protocol.specs.Interest.{has_aggregate, has_queryables, has_subscribers, has_tokens, is_current, is_future}
use Rattle.zt_protocol.specs.declared.interests.InterestMode.{InterestMode}
use Rattle.zt_protocol.specs.declared.messages.Message.{Message}
use Rattle.zt_protocol.specs.declared.messages.Message.TheVariants as message
use Rattle.zt_protocol.specs.declared.messages.QueryableInfo.{QueryableInfo}
use Rattle.zt_model.specs.Entities.{aggregate_of, all_merged, entities_for, info_of, matching_queryables, matching_subscribers, queryable_of, queryables_for, shown_faces, subscriber_of, subscribers_for}
use Rattle.zt_model.specs.Hat.{hat_of_face}
use Rattle.zt_model.specs.Hearing.{heard_all}
use Rattle.zt_model.specs.Lists.{first_of, in_key_order, is_among, with_key}
use Rattle.zt_model.specs.Parts.{is_routed, told_id}
use Rattle.zt_model.specs.Routing.{is_asked, is_target, route_to, untell_to}
use Rattle.zt_model.specs.Rows.{ById, Face, InterestRow, Rows}
use Rattle.zt_model.specs.Telling.{answered_expressions, answers_from, answers_of, forget_to, forget_untold, is_told, tell_to}
use Rattle.zt_model.specs.Transcript.{Each}
use Rattle.zt_model.specs.Visible.{is_visible, live_rows, shows, visible_expressions}
use Rattle.zt_model.specs.Wants.{is_about, wants}
use Rattle.zt_model.proofs.Hats.{asked_north}
use Rattle.zt_laws.proofs.Lists.{by_test, each_append, each_filter, of_cond}
use Rattle.zt_theorem_tree_invariant.proofs.Fresh.{each_in_order}
use Rattle.zt_theorem_tree_rest.proofs.Once.{in_order_within}
use Rattle.zt_theorem_tree_rest.proofs.Prices.{IsMild, Pays, mild_pay, total_put_if}
use Rattle.zt_theorem_tree_rest.proofs.Sums.{times, total, total-append, total_filter}

-- ---- lengths

pub times-map : {A B : Type 0} (n : ℕ) (make : A → B) (xs : List A) → times n (map make xs) ≡ times n xs
times-map n make [] = refl
times-map n make (x ∷ xs) = ap (λ k. n + k) (times-map n make xs)

pub times-flat_map : {A B : Type 0} (n : ℕ) (make : A → List B) (xs : List A) → times n (flat_map make xs) ≡ total (λ x. times n (make x)) xs
times-flat_map n make [] = refl
times-flat_map n make (x ∷ xs) = let one = total-append (λ _. n) (make x) (flat_map make xs) in let rest = times-flat_map n make xs in omega arith

one_each : {A B : Type 0} (n : ℕ) (make : A → List B) → ((x : A) → times n (make x) ≤ n) → (xs : List A) → times n (flat_map make xs) ≤ times n xs
one_each n make h [] = omega arith
one_each n make h (x ∷ xs) =
    let sum = total-append (λ _. n) (make x) (flat_map make xs) in
    let first : times n (make x) ≤ n = h x in
    let rest = one_each n make h xs in
    omega arith

each_map_of : {A B : Type 0} (P : B → Type 0) (make : A → B) → ((x : A) → P (make x)) → (xs : List A) → Each P (map make xs)
each_map_of P make h [] = tt
each_map_of P make h (x ∷ xs) = (h x, each_map_of P make h xs)

each_flat_of : {A B : Type 0} (P : B → Type 0) (make : A → List B) → ((x : A) → Each P (make x)) → (xs : List A) → Each P (flat_map make xs)
each_flat_of P make h [] = tt
each_flat_of P make h (x ∷ xs) = each_append P (make x) (flat_map make xs) (h x) (each_flat_of P make h xs)

module _ {K : Type 0} (cmp : K → K → Ordering) where
  with_key_times : (n : ℕ) (e : K) (ks : List K) → times n (with_key cmp e ks) ≤ n + times n ks
  with_key_times n e [] = omega arith
  with_key_times n e (k ∷ ks) =
      let rest = with_key_times n e ks in
      elim (cmp e k) as (λ o. times n (by_order o (e ∷ k ∷ ks) (k ∷ ks) (k ∷ with_key cmp e ks)) ≤ n + times n (k ∷ ks)) [
        | Less ↦ omega arith
        | Equal ↦ omega arith
        | Greater ↦ omega arith
      ]

  in_order_times : (n : ℕ) (es : List K) → times n (in_key_order cmp es) ≤ times n es
  in_order_times n [] = omega arith
  in_order_times n (e ∷ es) = let one = with_key_times n e (in_key_order cmp es) in let rest = in_order_times n es in omega arith

module _ {K : Type 0} (cmp : K → K → Ordering) (matching : K → K → Bool) (tokens : List K) (price : ℕ → ℕ) (end_price : ℕ) where
  -- ---- one message or none

  -- so few mild messages
  few_pay : (now most : ℕ) (f : Face K) (ms : List (Message K)) → Each IsMild ms → times (price f.number) ms ≤ most → Pays cmp tokens price end_price now f most ms
  few_pay now most f ms mild few = let pays = mild_pay cmp tokens price end_price now f ms mild in omega arith

  pub tell_pays : (now : ℕ) (g : Rows K) (source : Region) (e : K) (f : Face K) → Pays cmp tokens price end_price now f (if is_told cmp matching g source e f then price f.number else 0) (tell_to cmp matching g source e f)
  unfolding tell_to
  tell_pays now g source e f =
      by_test (is_told cmp matching g source e f)
      (λ here. rw here (few_pay now (price f.number) f (message.DeclareToken f.next e None 0 ∷ []) (tt, tt) (omega arith)))
      (λ here. rw here (few_pay now 0 f [] tt (omega arith)))

  -- it may be told so, or not
  abbrev MaybeOne : ℕ → List (Message K) → Type 0
  MaybeOne n ms = Each IsMild ms × (times (price n) ms ≤ price n)

  forget_one : (g : Rows K) (source : Region) (e : K) (f : Face K) → MaybeOne f.number (forget_to cmp matching g source e f)
  unfolding forget_to
  forget_one g source e f =
      let P = MaybeOne f.number in
      of_cond P (is_routed g f || is_visible cmp g f.region e) [] (elim (told_id cmp e f.told) [ None ↦ forget_untold cmp matching g source e f | Some id ↦ message.UndeclareToken id None 0 ∷ [] ])
      (λ _. (tt, omega arith)) (λ _. by_told (told_id cmp e f.told))
    where
      by_told : (o : Option ℕ) → MaybeOne f.number (elim o [ None ↦ forget_untold cmp matching g source e f | Some id ↦ message.UndeclareToken id None 0 ∷ [] ])
      by_told None = of_cond (MaybeOne f.number) _ (message.UndeclareToken 0 (Some e) 0 ∷ []) [] (λ _. ((tt, tt), omega arith)) (λ _. (tt, omega arith))
      by_told (Some id) = ((tt, tt), omega arith)

  pub forget_pays : (now : ℕ) (g : Rows K) (source : Region) (e : K) (f : Face K) → Pays cmp tokens price end_price now f (price f.number) (forget_to cmp matching g source e f)
  forget_pays now g source e f = let one = forget_one g source e f in few_pay now (price f.number) f (forget_to cmp matching g source e f) one.0 one.1

  pub nothing_pays : (now : ℕ) (f : Face K) (ms : List (Message K)) → ms ≡ [] → Pays cmp tokens price end_price now f 0 ms
  nothing_pays now f ms none_ = subst (Pays cmp tokens price end_price now f 0) (sym none_) (few_pay now 0 f [] tt (omega arith))

  -- ---- interests on their way

  abbrev pub route_price : Face K → ℕ
  route_price f = if is_north f.region then price f.number + end_price else 0

  pub route_pays : (now : ℕ) (g : Rows K) (asker : Region) (interest : InterestRow K) (f : Face K) → Pays cmp tokens price end_price now f (route_price f) (route_to g asker interest f)
  unfolding route_to is_target heard_all
  route_pays now g asker interest f =
      by_test (is_target g asker interest.mode f)
      (λ here.
      let north : is_north f.region ≡ true = asked_north g interest.mode f (and_parts (not (is_north asker)) (is_asked g interest.mode f) here).1 in
      let put_ = total_put_if (λ (i : InterestRow K). end_price) (is_future interest.mode) f.next (record { mode = interest.mode; options = interest.options; expr = interest.expr }) f.locals in
      rw (here, north) (omega arith))
      (λ here. rw here (omega arith))

  -- ---- entities

  abbrev pub entity_price : ℕ → Face K → ℕ
  entity_price n x = times n x.subscribers + times n x.queryables

  shown_less : (n : ℕ) (w : Face K → ℕ) (g : Rows K) (f : Face K) → total w (shown_faces cmp g f) ≤ total w g.faces
  shown_less n w g f = total_filter w _ g.faces

  aggregate_one : {A B : Type 0} (n : ℕ) (expr : Option K) (found : List A) (o : Option B) (declare : K → B → Message K) → ((x : B) → o ≡ Some x → n ≤ times n found) → times n (aggregate_of cmp expr o declare) ≤ times n found
  aggregate_one n None found o declare more = omega arith
  aggregate_one n (Some k) found None declare more = omega arith
  aggregate_one n (Some k) found (Some x) declare more = let some = more x refl in omega arith

  aggregate_mild : {A : Type 0} (expr : Option K) (o : Option A) (declare : K → A → Message K) → ((k : K) (x : A) → IsMild (declare k x)) → Each IsMild (aggregate_of cmp expr o declare)
  aggregate_mild None o declare h = tt
  aggregate_mild (Some k) None declare h = tt
  aggregate_mild (Some k) (Some x) declare h = (h k x, tt)

  subscribers_few : (n : ℕ) (g : Rows K) (id : ℕ) (interest : InterestRow K) (f : Face K) → Each IsMild (subscribers_for cmp matching g id interest f) × (times n (subscribers_for cmp matching g id interest f) ≤ total (λ x. times n x.subscribers) g.faces)
  unfolding subscribers_for
  subscribers_few n g id interest f =
      let found = matching_subscribers cmp matching g interest f in
      let all = flat_map (λ (x : Face K). x.subscribers) (shown_faces cmp g f) in
      let less = total_filter (λ (e : K). n) (is_about matching interest.expr) all in
      let is = times-flat_map n (λ (x : Face K). x.subscribers) (shown_faces cmp g f) in
      let fewer = shown_less n (λ x. times n x.subscribers) g f in
      let within : times n found ≤ total (λ (x : Face K). times n x.subscribers) g.faces = omega arith in
      of_cond (λ (ms : List (Message K)). Each IsMild ms × (times n ms ≤ total (λ (x : Face K). times n x.subscribers) g.faces)) (has_aggregate interest.options) (aggregate_of cmp interest.expr (first_of found) (λ k e. subscriber_of cmp g id k)) (map (subscriber_of cmp g id) (in_key_order cmp found))
      (λ _. (aggregate_mild interest.expr (first_of found) (λ k e. subscriber_of cmp g id k) (λ k e. tt), le_trans (aggregate_one n interest.expr found (first_of found) (λ k e. subscriber_of cmp g id k) (first_few found)) within))
      (λ _. (each_map_of IsMild (subscriber_of cmp g id) (λ e. tt) (in_key_order cmp found), (let same_ = times-map n (subscriber_of cmp g id) (in_key_order cmp found) in let one = in_order_times cmp n found in omega arith)))
    where
      first_few : (found : List K) (x : K) → first_of found ≡ Some x → n ≤ times n found
      first_few [] x is = cc
      first_few (y ∷ found) x is = omega arith

  queryables_few : (n : ℕ) (g : Rows K) (id : ℕ) (interest : InterestRow K) (f : Face K) → Each IsMild (queryables_for cmp matching g id interest f) × (times n (queryables_for cmp matching g id interest f) ≤ total (λ x. times n x.queryables) g.faces)
  unfolding queryables_for
  queryables_few n g id interest f =
      let found = matching_queryables cmp matching g interest f in
      let all = flat_map (λ (x : Face K). x.queryables) (shown_faces cmp g f) in
      let less = total_filter (λ (q : K × QueryableInfo). n) (λ q. is_about matching interest.expr q.0) all in
      let is = times-flat_map n (λ (x : Face K). x.queryables) (shown_faces cmp g f) in
      let fewer = shown_less n (λ x. times n x.queryables) g f in
      let within : times n found ≤ total (λ (x : Face K). times n x.queryables) g.faces = omega arith in
      let each_info = λ (e : K). map (queryable_of cmp g id e) (option_to_list (info_of cmp e found)) in
      let keys = in_key_order cmp (map (λ (q : K × QueryableInfo). q.0) found) in
      of_cond (λ (ms : List (Message K)). Each IsMild ms × (times n ms ≤ total (λ (x : Face K). times n x.queryables) g.faces)) (has_aggregate interest.options) (aggregate_of cmp interest.expr (all_merged (map (λ q. q.1) found)) (queryable_of cmp g id)) (flat_map each_info keys)
      (λ _. (aggregate_mild interest.expr (all_merged (map (λ q. q.1) found)) (queryable_of cmp g id) (λ k x. tt), le_trans (aggregate_one n interest.expr found (all_merged (map (λ q. q.1) found)) (queryable_of cmp g id) (merged_few found)) within))
      (λ _. (
        each_flat_of IsMild each_info (λ e. each_map_of IsMild (queryable_of cmp g id e) (λ x. tt) (option_to_list (info_of cmp e found))) keys,
        (let one = one_each n each_info (λ e. by_info e (info_of cmp e found)) keys in
            let two = in_order_times cmp n (map (λ (q : K × QueryableInfo). q.0) found) in
            let three = times-map n (λ (q : K × QueryableInfo). q.0) found in
            omega arith),
      ))
    where
      merged_few : (found : List (K × QueryableInfo)) (x : QueryableInfo) → all_merged (map (λ q. q.1) found) ≡ Some x → n ≤ times n found
      merged_few [] x is = cc
      merged_few (y ∷ found) x is = omega arith

      by_info : (e : K) (o : Option QueryableInfo) → times n (map (queryable_of cmp g id e) (option_to_list o)) ≤ n
      by_info e None = omega arith
      by_info e (Some x) = omega arith

  pub entities_pay : (now : ℕ) (g : Rows K) (id : ℕ) (interest : InterestRow K) (f : Face K) → Pays cmp tokens price end_price now f (total (entity_price (price f.number)) g.faces) (entities_for cmp matching g id interest f)
  unfolding entities_for
  entities_pay now g id interest f =
      let n = price f.number in
      let subs = if has_subscribers interest.options then subscribers_for cmp matching g id interest f else [] in
      let quers = if has_queryables interest.options then queryables_for cmp matching g id interest f else [] in
      let one : Each IsMild subs × (times n subs ≤ total (λ (x : Face K). times n x.subscribers) g.faces) =
      of_cond (λ (ms : List (Message K)). Each IsMild ms × (times n ms ≤ total (λ (x : Face K). times n x.subscribers) g.faces)) (has_subscribers interest.options) (subscribers_for cmp matching g id interest f) [] (λ _. subscribers_few n g id interest f) (λ _. (tt, omega arith)) in
      let two : Each IsMild quers × (times n quers ≤ total (λ (x : Face K). times n x.queryables) g.faces) =
      of_cond (λ (ms : List (Message K)). Each IsMild ms × (times n ms ≤ total (λ (x : Face K). times n x.queryables) g.faces)) (has_queryables interest.options) (queryables_for cmp matching g id interest f) [] (λ _. queryables_few n g id interest f) (λ _. (tt, omega arith)) in
      let sum = total_both n g.faces in
      let most = total (entity_price n) g.faces in
      of_cond (λ (ms : List (Message K)). Pays cmp tokens price end_price now f most ms) (is_current interest.mode && is_future interest.mode) (subs ++ quers) []
      (λ _. few_pay now most f (subs ++ quers) (each_append IsMild subs quers one.0 two.0) (let few = total-append (λ _. n) subs quers in omega arith))
      (λ _. few_pay now most f [] tt (omega arith))
    where
      total_both : (n : ℕ) (fs : List (Face K)) → total (entity_price n) fs ≡ total (λ x. times n x.subscribers) fs + total (λ x. times n x.queryables) fs
      total_both n [] = omega arith
      total_both n (x ∷ fs) = let rest = total_both n fs in omega arith

  -- ---- answers at once, and what is untold

  module _ (total_order : IsTotalOrder cmp) (equal_is_same : (a b : K) → cmp a b ≡ Equal → a ≡ b) where
    -- all of these are among the tokens
    abbrev pub AreTokens : List K → Type 0
    AreTokens es = Each (λ e. is_among cmp e tokens ≡ true) es

    answers_mild : (n : ℕ) (next : ℕ) (told : ById K) (mode : InterestMode) (id : ℕ) (es : List K) → Each IsMild (answers_from cmp matching next told mode id es) × (times n (answers_from cmp matching next told mode id es) ≡ times n es)
    unfolding answers_from
    answers_mild n next told mode id [] = (tt, refl)
    answers_mild n next told mode id (e ∷ es) =
        by_test (is_future mode) (λ here. rw here (by_told (told_id cmp e told) (λ k. answers_mild n k told mode id es)))
        (λ here. rw here (let rest = answers_mild n next told mode id es in ((tt, rest.0), ap (λ k. n + k) rest.1)))
      where
        by_told : (o : Option ℕ) → ((k : ℕ) → Each IsMild (answers_from cmp matching k told mode id es) × (times n (answers_from cmp matching k told mode id es) ≡ times n es))
            → (let ms : List (Message K) = elim o [ None ↦ message.DeclareToken next e (Some id) 0 ∷ answers_from cmp matching (next + 1) told mode id es | Some old ↦ message.DeclareToken old e (Some id) 0 ∷ answers_from cmp matching next told mode id es ] in Each IsMild ms × (times n ms ≡ times n (e ∷ es)))
        by_told None more = let rest = more (next + 1) in ((tt, rest.0), ap (λ k. n + k) rest.1)
        by_told (Some old) more = let rest = more next in ((tt, rest.0), ap (λ k. n + k) rest.1)

    pub answers_pay : (now : ℕ) (g : Rows K) (id : ℕ) (interest : InterestRow K) (f : Face K) → AreTokens (visible_expressions cmp g f.region) → Pays cmp tokens price end_price now f (times (price f.number) tokens) (answers_of cmp matching g id interest f)
    unfolding answered_expressions visible_expressions
    answers_pay now g id interest f all =
        let n = price f.number in
        let es = answered_expressions cmp matching g interest f in
        let few : times n es ≤ times n tokens =
        of_cond (λ (ks : List K). times n ks ≤ times n tokens) (is_current interest.mode && has_tokens interest.options) (filter (is_about matching interest.expr) (visible_expressions cmp g f.region)) []
        (λ _. in_order_within cmp total_order equal_is_same n (is_about matching interest.expr) (map (λ row. row.1) (filter (λ row. shows g.mode f.region row.0) (live_rows g))) tokens (each_filter (λ e. is_among cmp e tokens ≡ true) (is_about matching interest.expr) (visible_expressions cmp g f.region) all))
        (λ _. omega arith) in
        let is = answers_mild n f.next f.told interest.mode id es in
        few_pay now (times n tokens) f (answers_of cmp matching g id interest f) is.0 (let same_ = is.1 in omega arith)

    pub untell_pays : (now : ℕ) (g : Rows K) (f : Face K) → AreTokens (map (λ row. row.1) f.told) → Pays cmp tokens price end_price now f (times (price f.number) tokens) (untell_to cmp matching g f)
    unfolding untell_to
    untell_pays now g f all =
        let n = price f.number in
        let told = map (λ (row : ℕ × K). row.1) f.told in
        let unwanted = filter (λ e. not (wants matching f e)) (in_key_order cmp told) in
        let untold = λ (e : K). (let ms : List (Message K) = elim (told_id cmp e f.told) [ None ↦ [] | Some id ↦ message.UndeclareToken id None 0 ∷ [] ] in ms) in
        of_cond (λ (ms : List (Message K)). Pays cmp tokens price end_price now f (times n tokens) ms) ((hat_of_face g f).is_told_unasked f.region) [] (flat_map untold unwanted)
        (λ _. few_pay now (times n tokens) f [] tt (omega arith))
        (λ _.
        let one = one_each n untold (λ e. by_told (told_id cmp e f.told)) unwanted in
        let two = in_order_within cmp total_order equal_is_same n (λ e. not (wants matching f e)) told tokens (each_filter (λ e. is_among cmp e tokens ≡ true) (λ e. not (wants matching f e)) (in_key_order cmp told) (each_in_order cmp (λ e. is_among cmp e tokens ≡ true) told all)) in
        few_pay now (times n tokens) f (flat_map untold unwanted) (each_flat_of IsMild untold (λ e. mild_told (told_id cmp e f.told)) unwanted) (omega arith))
      where
        by_told : (o : Option ℕ) → (let ms : List (Message K) = elim o [ None ↦ [] | Some id ↦ message.UndeclareToken id None 0 ∷ [] ] in times (price f.number) ms ≤ price f.number)
        by_told None = omega arith
        by_told (Some id) = omega arith

        mild_told : (o : Option ℕ) → (let ms : List (Message K) = elim o [ None ↦ [] | Some id ↦ message.UndeclareToken id None 0 ∷ [] ] in Each IsMild ms)
        mild_told None = tt
        mild_told (Some id) = (tt, tt)
