-- A journal that workers and a monitor have made.
use Rattle.std.proofs.Common.{◌≡◌, ◌≢◌, ◌⊎◌, inl, inr, ℕ, zero, suc, ◌+◌, ◌≤◌, ◌<◌, Bool, true, false, ◌==◌, if◌then◌else◌, List, [], ◌∷◌, ◌++◌, length, map, slice_get, Option, Some, None, Ok, Err, refl, sym, ap, ◌∙◌, subst, arith, eqb-true, eq-eqb, ne_eqb, length-append}
use lib.ListN.{replicate}
use Rattle.std.proofs.lemmas.List.{length-map}
use Rattle.std.specs.Global.{Vec}
use Rattle.std.specs.List.{AllByRecursion, AllZip}
use Rattle.std.specs.declared.cmp.Ordering.{Ordering}
use mathlib.Core.List.{IsPrefix}
use Rattle.atomic_table.specs.Seated.{TableId}
use Rattle.zt_protocol.specs.Plain.{NewSession, PlainCall}
use Rattle.zt_model.specs.Journal.{Journalled}
use Rattle.zt_model.specs.Rows.{Rows}
use Rattle.zt_laws.specs.Sound.{EachFrom}
use Rattle.zt_laws.proofs.Lists.{map-append}
use Rattle.zt_laws.proofs.Numbered.{each_from_last}
use Rattle.zt_shared_value.specs.Account.{Accounts}
use Rattle.zt_shared_value.specs.Passes.{Standing, made_pass, pass_drawn}
use Rattle.zt_shared.specs.Recorded.{Recorded}
use Rattle.zt_shared.specs.Sharing.{IsWholeJournal, entries_of, opening_of, pass_of}
use Rattle.zt_theorem_watch.specs.Beside.{ArePolled, Monitors, MonitorsNothing}
use Rattle.zt_theorem_watch.specs.Tables.{PlainPoll}
use Rattle.zt_theorem_watch.specs.Watched.{asks_from}
use Rattle.zt_theorem_watch.proofs.Growing.{get_longer, polled_longer}
use Rattle.zt_watchers.specs.Text.{plain_poll}
use Rattle.zt_watchers.specs.declared.polls.Poll.{Poll}
use Rattle.zt_plans.specs.Plans.{numbered}
use Rattle.zt_plans.specs.declared.plan.Numbered.{Numbered}
use Rattle.zt_dealing.specs.Dealing.{Does, HasDone, HasMade, HaveFirstIds, IsDone, IsJob, IsMadeByPasses, MayWork, calls_of, part}
use Rattle.zt_dealing.specs.declared.dealing.Job.{Job}
use Rattle.zt_dealing.specs.declared.working.Done.{Done}
use Rattle.zt_dealing.proofs.DealLemmas.{all_done, done_long, pass_follows, pass_stays}
use Rattle.zt_dealing.proofs.OrderLemmas.{own_numbers}
use Rattle.zt_watchers.specs.Watching.{GoesOn, IsLaterPass, IsWatching, RefusesWatch}
use Rattle.zt_watchers.specs.declared.monitoring.Watching.{Watching}
use Rattle.zt_watchers.specs.Beside.{AreDealt, IsDrawnBehind, IsMadeBeside, dealt_beside}

-- ---- lists with one more behind them

each_split : {A : Type 0} (P : ℕ → A → Type 0) (k : ℕ) (xs : List A) (x : A) → EachFrom P k (xs ++ x ∷ []) → EachFrom P k xs × P (k + length xs) x
each_split P k [] x all = (tt, subst (λ n. P n x) (let same : k ≡ k + 0 = omega arith in same) all.0)
each_split P k (y ∷ xs) x all =
    let rest = each_split P (k + 1) xs x all.1 in
    ((all.0, rest.0), subst (λ n. P n x) (let same : (k + 1) + length xs ≡ k + suc (length xs) = omega arith in same) rest.1)

all_last : {A : Type 0} (P : A → Type 0) (xs : List A) (x : A) → AllByRecursion P (xs ++ x ∷ []) → P x
all_last P [] x all = all.0
all_last P (y ∷ xs) x all = all_last P xs x all.1

all_behind : {A : Type 0} (P : A → Type 0) (xs : List A) (x : A) → AllByRecursion P xs → P x → AllByRecursion P (xs ++ x ∷ [])
all_behind P [] x all last = (last, tt)
all_behind P (y ∷ xs) x all last = (all.0, all_behind P xs x all.1 last)

pub all_more : {A : Type 0} (P : A → Type 0) (xs ys : List A) (x : A) → AllByRecursion P xs → P x → ys ≡ xs ++ x ∷ [] → AllByRecursion P ys
all_more P xs ys x all last more = subst (AllByRecursion P) (sym more) (all_behind P xs x all last)

replicate_more : (n : ℕ) → (let zeros : List ℕ = replicate n 0 in zeros ++ 0 ∷ [] ≡ 0 ∷ zeros)
replicate_more zero = refl
replicate_more (suc n) = ap (λ ys. 0 ∷ ys) (replicate_more n)

module _ {K : Type 0} where
  -- ---- passes of one table

  pub tables_done : (table : TableId) (jobs : List (Job K)) (all : List (Done K)) → AllByRecursion (MayWork table) jobs → AllZip Does jobs all → AllByRecursion (λ done. done.pass.table ≡ table) all
  tables_done table [] [] may does = tt
  tables_done table [] (done ∷ all) may does = absurd does
  tables_done table (job ∷ jobs) [] may does = absurd does
  tables_done table (job ∷ jobs) (done ∷ all) may does = (does.0.table ∙ may.0.table_is, tables_done table jobs all may.1 does.1)

  pub job_tables : (table : TableId) (opening : Recorded K) (workers : ℕ) (calls : List (ℕ × PlainCall K)) (k : ℕ) (jobs : List (Job K)) → EachFrom (IsJob table opening workers calls) k jobs → AllByRecursion (λ job. job.pass.table ≡ table) jobs
  job_tables table opening workers calls k [] are = tt
  job_tables table opening workers calls k (job ∷ jobs) are = (are.0.fresh.table_is, job_tables table opening workers calls (k + 1) jobs are.1)

  -- ---- a pass that is drawn behind those of the jobs

  pub drawn_behind : (table : TableId) (before rest after : List (Job K)) (last later : Job K) (n : ℕ) (own : Standing (Recorded K)) → before ≡ rest ++ last ∷ [] → later.pass ≡ pass_drawn n last.pass → later.calls ≡ last.calls → own ≡ made_pass n last.pass → last.pass.known ≤ n
      → after ≡ rest ++ later ∷ [] → IsDrawnBehind table before after own
  drawn_behind table before rest after last later n own split drawn same_calls made fresh more = record {
    dealt = λ opening workers calls none dealt.
        let two = each_split (IsJob table opening workers calls) 0 rest last (subst (EachFrom (IsJob table opening workers calls) 0) split dealt.each) in
        let long : length before ≡ length rest + 1 = ap length split ∙ length-append rest (last ∷ []) in
        let long_ : length after ≡ length rest + 1 = ap length more ∙ length-append rest (later ∷ []) in
        let at_ : 0 + length rest ≡ length rest = omega arith in
        let job = two.1 in
        let stays = pass_stays table opening (0 + length rest) n [] last.pass later.pass job.fresh drawn fresh in
        let again : IsJob table opening workers calls (0 + length rest) later = record {
          fresh = stays;
          dealt = ap (λ (cs : Vec (Numbered K)). map numbered cs.items) same_calls ∙ job.dealt;
          first_ids = subst (λ (cs : Vec (Numbered K)). HaveFirstIds (map numbered cs.items)) (sym same_calls) job.first_ids;
        } in
        let behind = pass_follows table opening (0 + length rest) n [] last.pass own job.fresh made fresh none in (
          record {
            some = dealt.some;
            many = (let many = dealt.many in omega arith);
            each = subst (EachFrom (IsJob table opening workers calls) 0) (sym more) (each_from_last (IsJob table opening workers calls) 0 rest later two.0 again);
          },
          subst (λ w. HasMade table opening w [] own) (let many = dealt.many in let is : (0 + length rest) + 1 ≡ workers = omega arith in is) behind,
        );
  }

-- ---- the lines of a monitor

second_of : {A : Type 0} (xs : List A) → map (λ (x : ℕ × A). x.1) (map (λ x. (0, x)) xs) ≡ xs
second_of [] = refl
second_of (x ∷ xs) = ap (λ ys. x ∷ ys) (second_of xs)

first_of : {A : Type 0} (xs : List A) → map (λ (x : ℕ × A). x.0) (map (λ x. (0, x)) xs) ≡ map (λ _. 0) xs
first_of [] = refl
first_of (x ∷ xs) = ap (λ ys. 0 ∷ ys) (first_of xs)

zero_asks : {K : Type 0} (face id count : ℕ) (expr : Option K) → (let zeros : List ℕ = replicate count 0 in map (λ _. 0) (asks_from face id count expr) ≡ zeros)
zero_asks face id zero expr = refl
zero_asks face id (suc count) expr = ap (λ ys. 0 ∷ ys) (zero_asks face (id + 1) count expr)

module _ {K : Type 0} (workers : ℕ) (calls : List (ℕ × PlainCall K)) (monitor : List (PlainCall K)) where
  abbrev dealt_lines : ℕ → List (ℕ × PlainCall K)
  dealt_lines p = dealt_beside workers calls monitor p

  pub theirs : (p : ℕ) → p < workers → dealt_lines p ≡ part workers p calls
  theirs p less = let apart : (p == workers) ≡ false = ne_eqb p workers (omega arith) in rw apart refl

  pub ours : dealt_lines workers ≡ map (λ c. (0, c)) monitor
  ours = let same : (workers == workers) ≡ true = eq-eqb workers workers refl in rw same refl

  done_beside : (table : TableId) (opening : Recorded K) (k : ℕ) (all : List (Done K)) → k + length all ≤ workers → EachFrom (IsDone table opening workers calls) k all → EachFrom (HasDone table opening dealt_lines) k all
  done_beside table opening k [] few are = tt
  done_beside table opening k (done ∷ all) few are =
      let here : part workers k calls ≡ dealt_lines k = sym (theirs k (omega arith)) in (
        record {
          made = subst (λ (cs : List (ℕ × PlainCall K)). HasMade table opening k (map (λ x. x.1) cs) done.pass) here are.0.made;
          lines = are.0.lines ∙ ap (map (λ (x : ℕ × PlainCall K). x.0)) here;
        },
        done_beside table opening (k + 1) all (omega arith) are.1,
      )

  pub all_beside : (table : TableId) (opening : Recorded K) (all everyone : List (Done K)) (own : Done K) → length all ≡ workers → EachFrom (IsDone table opening workers calls) 0 all → HasMade table opening workers monitor own.pass → own.lines.items ≡ map (λ _. 0) monitor → everyone ≡ all ++ own ∷ []
      → EachFrom (HasDone table opening dealt_lines) 0 everyone
  all_beside table opening all everyone own many are made lines more =
      let at_ : workers ≡ 0 + length all = omega arith in
      subst (EachFrom (HasDone table opening dealt_lines) 0) (sym more)
      (each_from_last (HasDone table opening dealt_lines) 0 all own (done_beside table opening 0 all (omega arith) are)
      (subst (λ w. HasDone table opening dealt_lines w own) at_
      (record {
        made = subst (λ (cs : List (PlainCall K)). HasMade table opening workers cs own.pass) (sym (ap (map (λ (x : ℕ × PlainCall K). x.1)) ours ∙ second_of monitor)) made;
        lines = lines ∙ sym (ap (map (λ (x : ℕ × PlainCall K). x.0)) ours ∙ first_of monitor);
      })))

-- ---- the monitor's pass in the whole journal

module _ {K : Type 0} (cmp : K → K → Ordering) (matching : K → K → Bool) where
  record StandsIn (number : ℕ) (journal : List (Journalled K)) (own : Standing (Recorded K)) : Type 0 where
    number_is : own.number ≡ number
    begins : IsPrefix own.found.entries journal

  stands : (table : TableId) (opening : Recorded K) (dealt : ℕ → List (ℕ × PlainCall K)) (all everyone : List (Done K)) (own : Done K) (journal : List (Journalled K)) → everyone ≡ all ++ own ∷ []
      → EachFrom (HasDone table opening dealt) 0 everyone → IsWholeJournal cmp matching journal (map (λ d. d.pass) everyone) → StandsIn (length all) journal own.pass
  stands table opening dealt all everyone own journal more are whole =
      let split : map (λ (d : Done K). d.pass) everyone ≡ map (λ (d : Done K). d.pass) all ++ own.pass ∷ [] = ap (map (λ (d : Done K). d.pass)) more ∙ map-append (λ (d : Done K). d.pass) all (own ∷ []) in
      let numbers = subst (EachFrom (λ p (pass : Standing (Recorded K)). pass.number ≡ p) 0) split (own_numbers cmp matching table opening (length everyone) dealt everyone journal are whole) in
      let own_number = (each_split (λ p (pass : Standing (Recorded K)). pass.number ≡ p) 0 (map (λ (d : Done K). d.pass) all) own.pass numbers).1 in
      let accounted = all_last (Accounts entries_of pass_of opening_of whole.last) (map (λ (d : Done K). d.pass) all) own.pass (subst (AllByRecursion (Accounts entries_of pass_of opening_of whole.last)) split whole.accounts.each) in
      record {
        number_is = let long = length-map all (λ (d : Done K). d.pass) in omega arith;
        begins = subst (IsPrefix own.pass.found.entries) (sym whole.entries) accounted.begins;
      }

  abbrev MadeByAll : TableId → List (Done K) → List (Journalled K) → List ℕ → Type 0
  MadeByAll table everyone journal lines = (opening : Recorded K) (dealt : ℕ → List (ℕ × PlainCall K)) → EachFrom (HasDone table opening dealt) 0 everyone → IsMadeByPasses cmp matching (length everyone) dealt opening.opening.rows journal lines

  module _ (table : TableId) (opening : Recorded K) (workers : ℕ) (calls : List (ℕ × PlainCall K)) (jobs : List (Job K)) (all everyone : List (Done K)) (own : Done K) (journal : List (Journalled K)) (lines : List ℕ)
      (dealt : AreDealt table opening workers calls jobs) (does : AllZip Does jobs all) (more : everyone ≡ all ++ own ∷ []) (whole : IsWholeJournal cmp matching journal (map (λ d. d.pass) everyone)) (made : MadeByAll table everyone journal lines) where
    many : length all ≡ workers
    many = done_long table opening workers calls jobs all does ∙ dealt.many

    everyone_long : length everyone ≡ workers + 1
    everyone_long = ap length more ∙ length-append all (own ∷ []) ∙ ap (λ n. n + 1) many

    each_beside : (monitor : List (PlainCall K)) → HasMade table opening workers monitor own.pass → own.lines.items ≡ map (λ _. 0) monitor → EachFrom (HasDone table opening (dealt_beside workers calls monitor)) 0 everyone
    each_beside monitor has zeros = all_beside workers calls monitor table opening all everyone own many (all_done table opening workers calls 0 jobs all dealt.each does) has zeros more

    passes_beside : (monitor : List (PlainCall K)) → HasMade table opening workers monitor own.pass → own.lines.items ≡ map (λ _. 0) monitor → IsMadeByPasses cmp matching (workers + 1) (dealt_beside workers calls monitor) opening.opening.rows journal lines
    passes_beside monitor has zeros =
        subst (λ n. IsMadeByPasses cmp matching n (dealt_beside workers calls monitor) opening.opening.rows journal lines) everyone_long (made opening (dealt_beside workers calls monitor) (each_beside monitor has zeros))

    stands_last : (monitor : List (PlainCall K)) → HasMade table opening workers monitor own.pass → own.lines.items ≡ map (λ _. 0) monitor → StandsIn workers journal own.pass
    stands_last monitor has zeros = subst (λ n. StandsIn n journal own.pass) many (stands table opening (dealt_beside workers calls monitor) all everyone own journal more (each_beside monitor has zeros) whole)

    -- The monitor's session was refused.
    pub made_unwatched : (count : ℕ) (expr : Option K) (before : Standing (Recorded K)) (polls : List (Poll K)) → HasMade table opening workers [] before → RefusesWatch before own.pass → own.lines.items ≡ replicate 0 0 ++ 0 ∷ [] → polls ≡ []
        → IsMadeBeside cmp matching workers calls count expr opening.opening.rows journal lines (map plain_poll polls)
    made_unwatched count expr before polls fresh refuses zeros none =
        let monitor : List (PlainCall K) = NewSession 1 ∷ [] in
        let has : HasMade table opening workers monitor own.pass = record {
          table_is = refuses.later.table ∙ fresh.table_is;
          opening_is = refuses.later.opening ∙ fresh.opening_is;
          least = let same = refuses.later.number in let low = fresh.least in omega arith;
          counted = let same = refuses.later.number in let known = refuses.later.known in let less = fresh.counted in omega arith;
          made = refuses.calls ∙ ap (λ (cs : List (PlainCall K)). cs ++ NewSession 1 ∷ []) fresh.made;
        } in
        let stands_ = stands_last monitor has zeros in
        record {
          monitor = monitor;
          made = passes_beside monitor has zeros;
          polled = inr (record {
            place = refuses.place;
            entry = refuses.entry;
            there = get_longer own.pass.found.entries journal refuses.place refuses.entry stands_.begins refuses.there;
            by = refuses.by ∙ stands_.number_is;
            refusal = refuses.refusal;
            refused = refuses.refused;
            calls_are = refl;
            none_polled = ap (map plain_poll) none;
          });
        }

    -- The monitor has polled.
    pub made_watched : (count : ℕ) (expr : Option K) (before after : Watching K) (polls : List (Poll K)) → before.pass.table ≡ table → before.pass.opening ≡ opening → IsWatching cmp matching workers expr before → before.polls.items ≡ [] → GoesOn cmp matching count before after
        → own.pass ≡ after.pass → own.lines.items ≡ replicate (length after.polls.items) 0 ++ 0 ∷ [] → polls ≡ after.polls.items
        → IsMadeBeside cmp matching workers calls count expr opening.opening.rows journal lines (map plain_poll polls)
    made_watched count expr before after polls own_table opened watching none goes same zeros same_polls =
        let is = goes.keeps workers expr watching in
        let face = after.monitor.face in
        let long : length after.polls.items ≡ count = (let more_polls = goes.more in let none_before : length before.polls.items ≡ 0 = ap length none in omega arith) in
        let monitor : List (PlainCall K) = NewSession 1 ∷ asks_from face 1 count expr in
        let has_after : HasMade table opening workers monitor after.pass = record {
          table_is = goes.later.table ∙ own_table;
          opening_is = goes.later.opening ∙ opened;
          least = is.least_number;
          counted = is.counted;
          made = is.calls ∙ ap (λ n. NewSession 1 ∷ asks_from face 1 n expr) long;
        } in
        let has : HasMade table opening workers monitor own.pass = subst (HasMade table opening workers monitor) (sym same) has_after in
        let zeros_ : own.lines.items ≡ map (λ _. 0) monitor = zeros ∙ replicate_more (length after.polls.items) ∙ ap (λ n. let ns : List ℕ = replicate n 0 in 0 ∷ ns) long ∙ ap (λ ns. 0 ∷ ns) (sym (zero_asks face 1 count expr)) in
        let stands_ = subst (StandsIn workers journal) same (stands_last monitor has zeros_) in
        let Polls_ : ℕ → Recorded K → List (Poll K) → Type 0 = λ number o ps. ArePolled cmp matching number o.opening.rows journal face expr 1 [] (map plain_poll ps) in
        let each : Polls_ after.pass.number after.pass.opening after.polls.items = polled_longer cmp matching after.pass.number after.pass.opening.opening.rows face expr after.pass.found.entries journal stands_.begins 1 [] (map plain_poll after.polls.items) is.each in
        record {
          monitor = monitor;
          made = passes_beside monitor has zeros_;
          polled = inl (record {
            place = is.place;
            entry = is.entry;
            there = get_longer after.pass.found.entries journal is.place is.entry stands_.begins is.there;
            by = is.by ∙ stands_.number_is;
            is_of = is.is_of;
            face = face;
            made = is.made;
            calls_are = refl;
            many = length-map polls plain_poll ∙ ap length same_polls ∙ long;
            each =
                subst (λ n. Polls_ n opening polls) stands_.number_is
                (subst (λ (o : Recorded K). Polls_ after.pass.number o polls) (goes.later.opening ∙ opened)
                (subst (λ ps. Polls_ after.pass.number after.pass.opening ps) (sym same_polls) each));
          });
        }
