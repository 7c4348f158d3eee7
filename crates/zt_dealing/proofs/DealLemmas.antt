-- Calls dealt to workers one after another.
use Rattle.std.proofs.Common.{◌≡◌, ◌≢◌, ℕ, zero, suc, ◌+◌, ◌%◌, ◌<◌, ◌≤◌, Bool, true, false, not, cond, ◌==◌, ◌&&◌, nat_le, List, [], ◌∷◌, ◌++◌, length, map, filter, get_or, unwrap_or, Some, None, refl, sym, ap, ◌∙◌, subst, arith, eqb-true, leb-true, le-leb}
use Rattle.std.proofs.lemmas.Bool.{eqb-false, lt-leb}
use Rattle.std.proofs.lemmas.List.Elements.{filter-append}
use Rattle.std.specs.List.{AllByRecursion, AllZip}
use Rattle.atomic_table.specs.Seated.{TableId}
use Rattle.zt_protocol.specs.Plain.{PlainCall, NewSession, NewTransport, DeclareToken, UndeclareToken, Interest, InterestFinal, DeclareFinal, CloseFace, Expire, SetTrees, SetEntities}
use Rattle.zt_model.specs.Fabric.{call_face}
use Rattle.zt_model.specs.Transcript.{Each}
use Rattle.zt_laws.specs.Sound.{CallHasFirstIds, EachFrom}
use Rattle.zt_laws.proofs.Numbered.{each_from_last}
use Rattle.zt_laws.proofs.Lists.{by_test, each_filter, map-append, never}
use Rattle.zt_shared_value.specs.Owned.{owned}
use Rattle.zt_shared_value.specs.Passes.{Standing, made_pass, pass_drawn}
use Rattle.zt_model.specs.Journal.{Journalled}
use Rattle.zt_theorem_journal.specs.Dealt.{worker_of}
use Rattle.zt_shared.specs.Recorded.{Recorded}
use Rattle.zt_shared.specs.Sharing.{pass_of}
use Rattle.zt_dealing.specs.Dealing.{Does, HasMade, HaveFirstIds, IsDone, IsJob, MayWork, apart, part}
use Rattle.zt_theorem_journal.specs.Alone.{Speaks}
use Rattle.zt_plans.specs.Plans.{call_of, numbered}
use Rattle.zt_dealing.specs.declared.dealing.Job.{Job}
use Rattle.zt_plans.specs.declared.plan.Numbered.{Numbered}
use Rattle.zt_dealing.specs.declared.working.Done.{Done}

-- ---- filters

filter_alike : {A : Type 0} (p q : A → Bool) (xs : List A) → ((x : A) → p x ≡ q x) → filter p xs ≡ filter q xs
filter_alike p q [] same = refl
filter_alike p q (x ∷ xs) same = ap (λ b. cond b (x ∷ filter p xs) (filter p xs)) (same x) ∙ ap (λ ys. cond (q x) (x ∷ ys) ys) (filter_alike p q xs same)

filter_twice : {A : Type 0} (p q : A → Bool) (xs : List A) → filter p (filter q xs) ≡ filter (λ x. q x && p x) xs
filter_twice p q [] = refl
filter_twice p q (x ∷ xs) =
    by_test (q x) (λ here. rw here (ap (λ ys. cond (p x) (x ∷ ys) ys) (filter_twice p q xs))) (λ here. rw here (filter_twice p q xs))

filter_all : {A : Type 0} (p : A → Bool) (xs : List A) → ((x : A) → p x ≡ true) → filter p xs ≡ xs
filter_all p [] all = refl
filter_all p (x ∷ xs) all = rw (all x) (ap (λ ys. x ∷ ys) (filter_all p xs all))

-- ---- one call more

module _ {K : Type 0} (workers worker : ℕ) where
  more_by : (p : ℕ × PlainCall K → Bool) (own own' yielded : List (Numbered K)) (one : Numbered K) → map numbered own ≡ filter p (map numbered yielded)
      → map numbered own' ≡ map numbered own ++ filter p (numbered one ∷ []) → map numbered own' ≡ filter p (map numbered (yielded ++ one ∷ []))
  more_by p own own' yielded one is more =
      more ∙ ap (λ xs. xs ++ filter p (numbered one ∷ [])) is ∙ sym (filter-append p (map numbered yielded) (numbered one ∷ [])) ∙ ap (filter p) (sym (map-append numbered yielded (one ∷ [])))

  pub part_more : (own own' yielded : List (Numbered K)) (one : Numbered K) → map numbered own ≡ part workers worker (map numbered yielded)
      → map numbered own' ≡ map numbered own ++ part workers worker (numbered one ∷ []) → map numbered own' ≡ part workers worker (map numbered (yielded ++ one ∷ []))
  part_more own own' yielded one is more = more_by (λ x. worker_of workers x.1 == worker) own own' yielded one is more

  pub apart_more : (own own' yielded : List (Numbered K)) (one : Numbered K) → map numbered own ≡ apart workers worker (map numbered yielded)
      → map numbered own' ≡ map numbered own ++ apart workers worker (numbered one ∷ []) → map numbered own' ≡ apart workers worker (map numbered (yielded ++ one ∷ []))
  apart_more own own' yielded one is more = more_by (λ x. not (worker_of workers x.1 == worker)) own own' yielded one is more

-- ---- the calls that aren't dealt yet

abbrev pub left_from : {K : Type 0} → ℕ → ℕ → List (ℕ × PlainCall K) → List (ℕ × PlainCall K)
left_from workers worker calls = filter (λ x. nat_le worker (worker_of workers x.1)) calls

below_workers : (workers n : ℕ) → 0 < workers → n % workers < workers
below_workers workers n some = omega arith

here_of : (w k : ℕ) → (nat_le w k && (k == w)) ≡ (k == w)
here_of w k =
    by_test (k == w)
    (λ own. let is : k ≡ w = eqb-true k w own in let at_ : nat_le w k ≡ true = le-leb w k (omega arith) in rw at_ refl)
    (λ other. by_test (nat_le w k) (λ at_. rw at_ refl) (λ at_. rw (at_, other) refl))

later_of : (w k : ℕ) → (nat_le w k && not (k == w)) ≡ nat_le (w + 1) k
later_of w k =
    by_test (k == w)
    (λ own.
    let is : k ≡ w = eqb-true k w own in
    let at_ : nat_le w k ≡ true = le-leb w k (omega arith) in
    let past : nat_le (w + 1) k ≡ false = lt-leb (w + 1) k (omega arith) in
    rw (at_, own, past) refl)
    (λ other.
    let apart : k ≢ w = eqb-false k w other in
    by_test (nat_le w k)
    (λ at_.
    let low : w ≤ k = leb-true w k at_ in
    let past : nat_le (w + 1) k ≡ true = le-leb (w + 1) k (omega arith) in
    rw (at_, other, past) refl)
    (λ at_.
    by_test (nat_le (w + 1) k) (λ past. let low : w + 1 ≤ k = leb-true (w + 1) k past in never (le-leb w k (omega arith)) at_) (λ past. rw (at_, past) refl)))

last_of : (workers w k : ℕ) → w + 1 ≡ workers → k < workers → nat_le w k ≡ (k == w)
last_of workers w k last less =
    by_test (k == w)
    (λ own. let is : k ≡ w = eqb-true k w own in le-leb w k (omega arith) ∙ sym own)
    (λ other. let apart : k ≢ w = eqb-false k w other in by_test (nat_le w k) (λ at_. let low : w ≤ k = leb-true w k at_ in absurd (apart (omega arith))) (λ at_. at_ ∙ sym other))

module _ {K : Type 0} (workers : ℕ) where
  pub left_first : (calls : List (ℕ × PlainCall K)) → left_from workers 0 calls ≡ calls
  left_first calls = filter_all (λ x. nat_le 0 (worker_of workers x.1)) calls (λ x. le-leb 0 (worker_of workers x.1) (omega arith))

  pub left_here : (worker : ℕ) (calls : List (ℕ × PlainCall K)) → part workers worker (left_from workers worker calls) ≡ part workers worker calls
  left_here worker calls =
      filter_twice (λ x. worker_of workers x.1 == worker) (λ x. nat_le worker (worker_of workers x.1)) calls
      ∙ filter_alike (λ x. nat_le worker (worker_of workers x.1) && (worker_of workers x.1 == worker)) (λ x. worker_of workers x.1 == worker) calls (λ x. here_of worker (worker_of workers x.1))

  pub left_later : (worker : ℕ) (calls : List (ℕ × PlainCall K)) → apart workers worker (left_from workers worker calls) ≡ left_from workers (worker + 1) calls
  left_later worker calls =
      filter_twice (λ x. not (worker_of workers x.1 == worker)) (λ x. nat_le worker (worker_of workers x.1)) calls
      ∙ filter_alike (λ x. nat_le worker (worker_of workers x.1) && not (worker_of workers x.1 == worker)) (λ x. nat_le (worker + 1) (worker_of workers x.1)) calls (λ x. later_of worker (worker_of workers x.1))

  pub left_last : 0 < workers → (worker : ℕ) (calls : List (ℕ × PlainCall K)) → worker + 1 ≡ workers → left_from workers worker calls ≡ part workers worker calls
  left_last some worker calls last =
      filter_alike (λ x. nat_le worker (worker_of workers x.1)) (λ x. worker_of workers x.1 == worker) calls
      (λ x. last_of workers worker (worker_of workers x.1) last (below_workers workers (unwrap_or (call_face x.1) 0) some))

-- ---- what is done of jobs

module _ {K : Type 0} (table : TableId) (opening : Recorded K) (workers : ℕ) (calls : List (ℕ × PlainCall K)) where
  done_of : (worker : ℕ) (job : Job K) (done : Done K) → IsJob table opening workers calls worker job → Does job done → IsDone table opening workers calls worker done
  done_of worker job done is does = record {
    made = record {
      table_is = does.table ∙ is.fresh.table_is;
      opening_is = does.opening ∙ is.fresh.opening_is;
      least = subst (λ n. worker ≤ n) (sym does.number) is.fresh.least;
      counted = let less = is.fresh.counted in let one = does.number in let two = does.known in omega arith;
      made = does.made ∙ ap (map (λ x. x.1)) is.dealt;
    };
    lines = does.lines ∙ ap (map (λ x. x.0)) is.dealt;
  }

  pub all_done : (worker : ℕ) (jobs : List (Job K)) (all : List (Done K)) → EachFrom (IsJob table opening workers calls) worker jobs → AllZip Does jobs all → EachFrom (IsDone table opening workers calls) worker all
  all_done worker [] [] are does = tt
  all_done worker [] (done ∷ all) are does = absurd does
  all_done worker (job ∷ jobs) [] are does = absurd does
  all_done worker (job ∷ jobs) (done ∷ all) are does = (done_of worker job done are.0 does.0, all_done (worker + 1) jobs all are.1 does.1)

  pub done_long : (jobs : List (Job K)) (all : List (Done K)) → AllZip Does jobs all → length all ≡ length jobs
  done_long [] [] does = refl
  done_long [] (done ∷ all) does = absurd does
  done_long (job ∷ jobs) [] does = absurd does
  done_long (job ∷ jobs) (done ∷ all) does = ap suc (done_long jobs all does.1)

  -- the passes are the table's
  pub own_passes : (worker : ℕ) (all : List (Done K)) → EachFrom (IsDone table opening workers calls) worker all → AllByRecursion (λ done. done.pass.table ≡ table) all
  own_passes worker [] are = tt
  own_passes worker (done ∷ all) are = (are.0.made.table_is, own_passes (worker + 1) all are.1)

  -- each may be begun with
  pub each_may : (worker : ℕ) (jobs : List (Job K)) → EachFrom (IsJob table opening workers calls) worker jobs → AllByRecursion (MayWork table) jobs
  each_may worker [] are = tt
  each_may worker (job ∷ jobs) are = (record { table_is = are.0.fresh.table_is; new = are.0.fresh.made; first_ids = are.0.first_ids }, each_may (worker + 1) jobs are.1)

-- ---- passes that are made

module _ {K : Type 0} (table : TableId) (opening : Recorded K) where
  -- a pass that has drawn a number
  pub pass_stays : (worker n : ℕ) (calls : List (PlainCall K)) (old new : Standing (Recorded K)) → HasMade table opening worker calls old → new ≡ pass_drawn n old → old.known ≤ n → HasMade table opening worker calls new
  pass_stays worker n calls old new has is later =
      subst (HasMade table opening worker calls) (sym is)
      (record { table_is = has.table_is; opening_is = has.opening_is; least = has.least; counted = (let low = has.counted in omega arith); made = has.made })

  -- and the one that was made with it
  pub pass_follows : (worker n : ℕ) (calls : List (PlainCall K)) (old made : Standing (Recorded K)) → HasMade table opening worker calls old → made ≡ made_pass n old → old.known ≤ n → opening.entries ≡ [] → HasMade table opening (worker + 1) [] made
  pass_follows worker n calls old made has is later empty =
      subst (HasMade table opening (worker + 1) []) (sym is)
      (record {
        table_is = has.table_is;
        opening_is = has.opening_is;
        least = let low = has.counted in let lower = has.least in omega arith;
        counted = omega arith;
        made = ap (λ (o : Recorded K). map (λ (x : ℕ × Journalled K). x.1.call) (owned pass_of n o.entries)) has.opening_is ∙ ap (λ es. map (λ (x : ℕ × Journalled K). x.1.call) (owned pass_of n es)) empty;
      })

  -- a job more
  pub job_more : (workers worker : ℕ) (calls rest : List (ℕ × PlainCall K)) (jobs jobs' : List (Job K)) (job : Job K) → EachFrom (IsJob table opening workers calls) 0 jobs → length jobs ≡ worker → HasMade table opening worker [] job.pass
      → map numbered job.calls.items ≡ part workers worker rest → part workers worker rest ≡ part workers worker calls → HaveFirstIds calls → jobs' ≡ jobs ++ job ∷ [] → EachFrom (IsJob table opening workers calls) 0 jobs'
  job_more workers worker calls rest jobs jobs' job are long fresh dealt same first more =
      let is = dealt ∙ same in
      subst (EachFrom (IsJob table opening workers calls) 0) (sym more)
      (each_from_last (IsJob table opening workers calls) 0 jobs job are
      (subst (λ n. IsJob table opening workers calls n job) (let at_ : worker ≡ 0 + length jobs = omega arith in at_)
      (record { fresh = fresh; dealt = is; first_ids = subst (λ (cs : List (ℕ × PlainCall K)). HaveFirstIds cs) (sym is) (each_filter (λ x. CallHasFirstIds x.1) (λ x. worker_of workers x.1 == worker) calls first) })))

  pub jobs_none : (workers : ℕ) (calls : List (ℕ × PlainCall K)) (jobs : List (Job K)) → jobs ≡ [] → EachFrom (IsJob table opening workers calls) 0 jobs
  jobs_none workers calls jobs none = subst (EachFrom (IsJob table opening workers calls) 0) (sym none) tt

-- what holds of each member of a map
pub all_of_map : {A B : Type 0} (P : B → Type 0) (f : A → B) (xs : List A) → AllByRecursion (λ x. P (f x)) xs → AllByRecursion P (map f xs)
all_of_map P f [] all = tt
all_of_map P f (x ∷ xs) all = (all.0, all_of_map P f xs all.1)

pub at_place : {A : Type 0} (P : A → Type 0) (xs : List A) (k : ℕ) (d : A) → AllByRecursion P xs → k < length xs → P (get_or xs k d)
at_place P [] k d all less = absurd (omega arith)
at_place P (x ∷ xs) zero d all less = all.0
at_place P (x ∷ xs) (suc k) d all less = at_place P xs k d all.1 (omega arith)

module _ {K : Type 0} where
  call_first : (c : PlainCall K) → Speaks c → CallHasFirstIds c
  call_first (NewSession first) speaks = let none : None ≡ Some speaks.0 = speaks.1 in cc
  call_first (NewTransport zid whatami region bound first) speaks = let none : None ≡ Some speaks.0 = speaks.1 in cc
  call_first (DeclareToken face id expr node interest) speaks = tt
  call_first (UndeclareToken face id expr node) speaks = tt
  call_first (Interest face id mode options expr) speaks = tt
  call_first (InterestFinal face id) speaks = tt
  call_first (DeclareFinal face interest) speaks = tt
  call_first (CloseFace face) speaks = tt
  call_first (Expire now) speaks = tt
  call_first (SetTrees region table) speaks = tt
  call_first (SetEntities face subscribers queryables) speaks = tt

  -- calls that speak open no face
  pub speak_first : (cs : List (Numbered K)) → Each Speaks (map call_of cs) → HaveFirstIds (map numbered cs)
  speak_first [] all = tt
  speak_first (c ∷ cs) all = (call_first (call_of c) all.0, speak_first cs all.1)
