-- What the machine comes to on lines is right.
use Rattle.std.proofs.Common.{◌≡◌, Bool, List, [], ◌∷◌}
use Rattle.std.specs.Cmp.{IsTotalOrder}
use Rattle.std.specs.declared.cmp.Ordering.{Ordering}
use Rattle.std.specs.declared.cmp.Ordering.TheVariants.{Equal}
use Rattle.zt_protocol.specs.Plain.{PlainEntry, PlainLine}
use Rattle.zt_model.specs.Fabric.{empty_fabric, entries_from}
use Rattle.zt_model.specs.Promises.{AnswersAsks, DrawsNextIds, EndsUpstream, EndsWhatStands, FinishesInitial, IsMoreSparing, IsSparing, KeepsExactly, MeetsPromises, MeetsStricterPromises, SendsFinals, SendsUpstream, TellsOfRouters, TellsTheFuture, Turn, UndeclaresWhatIsGone, UndeclaresWhatWasKept, turns_from}
use Rattle.zt_model.specs.Transcript.{Each, IsFaithfulFrom, IsStrictFrom}
use Rattle.zt_laws.specs.Sound.{HasFirstIds}
use Rattle.zt_laws.proofs.LinesOrder.{in_order_empty}
use Rattle.zt_theorem_soundness.proofs.Sound.{sound_start}
use Rattle.zt_theorem_visibility.proofs.Exact.{turns_exact}
use Rattle.zt_theorem_visibility.proofs.Future.{future_told, routers_told}
use Rattle.zt_theorem_upstream.proofs.Lasting.{turns_end}
use Rattle.zt_theorem_upstream.proofs.Upstream.{turns_send}
use Rattle.zt_theorem_answers.proofs.Turns.{turns_answer}
use Rattle.zt_theorem_sparing.proofs.Kept.{turns_undeclare_kept}
use Rattle.zt_theorem_sparing.proofs.MoreSparing.{turns_spare_more}
use Rattle.zt_theorem_sparing.proofs.Sparing.{turns_spare}
use Rattle.zt_theorem_sparing.proofs.Untelling.{turns_untell}
use Rattle.zt_theorem_exact_messages.specs.Exact.{PrintsExactly}
use Rattle.zt_theorem_exact_messages.proofs.Whole.{turns_print}
use Rattle.zt_theorem_message_ids.specs.Anew.{TellsWhatIsNew}
use Rattle.zt_theorem_message_ids.proofs.Turns.{turns_draw, turns_end as turns_name, turns_tell_news}
use Rattle.zt_theorem_finals.proofs.Initial.{turns_finish_initial}
use Rattle.zt_theorem_finals.proofs.Whole.{turns_send_first}
use Rattle.zt_theorem_transcript.specs.Named.{HasNamedOptions}
use Rattle.zt_theorem_transcript.proofs.Whole.{faithful_from, strict_from}
use Rattle.zt_theorem_tree_invariant.specs.Trees.{FacesFormTrees, KeepPromisesOfTrees}
use Rattle.zt_theorem_tree_invariant.proofs.Start.{agree_at_first}
use Rattle.zt_theorem_tree_knowledge.proofs.Turns.{turns_know}
use Rattle.zt_theorem_tree_only_what_lived.proofs.Asks.{gets_only}
use Rattle.zt_theorem_tree_all_that_stays.proofs.Gets.{gets_what_stays}

module _ {K : Type 0} (cmp : K → K → Ordering) (matching : K → K → Bool) where
  -- entries of lines that are right, from the empty fabric on
  pub record AreRight (lines : List (PlainLine K)) (entries : List (PlainEntry K)) : Type 0 where
    pub faithful : IsFaithfulFrom cmp matching lines entries empty_fabric
    pub strict : IsStrictFrom cmp matching lines entries empty_fabric
    pub promises : Each (MeetsPromises cmp matching) (turns_from cmp matching lines entries empty_fabric)
    pub stricter_promises : Each (MeetsStricterPromises cmp matching) (turns_from cmp matching lines entries empty_fabric)
    pub news : Each (TellsWhatIsNew cmp matching) (turns_from cmp matching lines entries empty_fabric)
    pub exactly : Each (PrintsExactly cmp matching) (turns_from cmp matching lines entries empty_fabric)
    pub tree_promises : KeepPromisesOfTrees cmp matching (turns_from cmp matching lines entries empty_fabric)

  -- each promise of each turn
  record EachKept (ts : List (Turn K)) : Type 0 where
    exact : Each (KeepsExactly cmp matching) ts
    sparing : Each (IsSparing cmp matching) ts
    future : Each (TellsTheFuture cmp matching) ts
    asks : Each (AnswersAsks cmp matching) ts
    finals : Each (SendsFinals cmp matching) ts
    upstream : Each (SendsUpstream cmp matching) ts
    upstream_ends : Each (EndsUpstream cmp matching) ts
    undeclarations : Each (UndeclaresWhatIsGone cmp matching) ts

  each_kept : (ts : List (Turn K)) → EachKept ts → Each (MeetsPromises cmp matching) ts
  each_kept [] all = tt
  each_kept (t ∷ ts) all = (
    record {
      exact = all.exact.0;
      sparing = all.sparing.0;
      future = all.future.0;
      asks = all.asks.0;
      finals = all.finals.0;
      upstream = all.upstream.0;
      upstream_ends = all.upstream_ends.0;
      undeclarations = all.undeclarations.0;
    },
    each_kept ts (record {
      exact = all.exact.1;
      sparing = all.sparing.1;
      future = all.future.1;
      asks = all.asks.1;
      finals = all.finals.1;
      upstream = all.upstream.1;
      upstream_ends = all.upstream_ends.1;
      undeclarations = all.undeclarations.1;
    }),
  )

  -- and each of those that are kept beside them
  record EachKeptBeside (ts : List (Turn K)) : Type 0 where
    sparing : Each (IsMoreSparing cmp matching) ts
    future : Each (TellsOfRouters cmp matching) ts
    initial : Each (FinishesInitial cmp matching) ts
    undeclarations : Each (UndeclaresWhatWasKept cmp matching) ts
    ids : Each (DrawsNextIds cmp matching) ts
    ends : Each (EndsWhatStands cmp matching) ts

  each_kept_beside : (ts : List (Turn K)) → EachKeptBeside ts → Each (MeetsStricterPromises cmp matching) ts
  each_kept_beside [] all = tt
  each_kept_beside (t ∷ ts) all = (
    record {
      sparing = all.sparing.0;
      future = all.future.0;
      initial = all.initial.0;
      undeclarations = all.undeclarations.0;
      ids = all.ids.0;
      ends = all.ends.0;
    },
    each_kept_beside ts (record {
      sparing = all.sparing.1;
      future = all.future.1;
      initial = all.initial.1;
      undeclarations = all.undeclarations.1;
      ids = all.ids.1;
      ends = all.ends.1;
    }),
  )

  module _ (total : IsTotalOrder cmp) (equal_is_same : (a b : K) → cmp a b ≡ Equal → a ≡ b) where
    -- The machine's are, where the first ids are at least 1 and interests carry named options alone.
    pub right_of_lines : (lines : List (PlainLine K)) → Each HasFirstIds lines → Each HasNamedOptions lines
        → AreRight lines (entries_from cmp matching lines empty_fabric)
    right_of_lines lines real named =
        let sound = sound_start cmp matching in
        let ordered = in_order_empty cmp matching in
        record {
          faithful = faithful_from cmp matching total equal_is_same lines empty_fabric real named sound (record { gateways = tt; waiting = tt });
          strict = strict_from cmp matching total equal_is_same lines empty_fabric real sound;
          promises = each_kept (turns_from cmp matching lines (entries_from cmp matching lines empty_fabric) empty_fabric) (record {
            exact = turns_exact cmp matching total equal_is_same lines empty_fabric real sound;
            sparing = turns_spare cmp matching total lines empty_fabric real ordered;
            future = future_told cmp matching total lines empty_fabric real ordered;
            asks = turns_answer cmp matching total equal_is_same lines empty_fabric real ordered;
            finals = turns_send_first cmp matching total equal_is_same lines real;
            upstream = turns_send cmp matching total equal_is_same lines empty_fabric real ordered;
            upstream_ends = turns_end cmp matching total lines empty_fabric real ordered tt;
            undeclarations = turns_untell cmp matching total equal_is_same lines empty_fabric real ordered;
          });
          stricter_promises = each_kept_beside (turns_from cmp matching lines (entries_from cmp matching lines empty_fabric) empty_fabric) (record {
            sparing = turns_spare_more cmp matching total equal_is_same lines empty_fabric real ordered;
            future = routers_told cmp matching total lines empty_fabric real ordered;
            initial = turns_finish_initial cmp matching total lines empty_fabric real ordered;
            undeclarations = turns_undeclare_kept cmp matching total lines empty_fabric real ordered;
            ids = turns_draw cmp matching total lines empty_fabric real ordered;
            ends = turns_name cmp matching total lines empty_fabric real ordered;
          });
          news = turns_tell_news cmp matching total lines empty_fabric real ordered;
          exactly = turns_print cmp matching total lines empty_fabric real ordered;
          tree_promises = λ trees.
              let agree = agree_at_first cmp matching in
              let none : FacesFormTrees empty_fabric = record { north = tt; south = tt; admitted = tt } in
              record {
                knowledge = turns_know cmp matching total equal_is_same lines empty_fabric real sound agree trees;
                gets = gets_what_stays cmp matching total equal_is_same lines empty_fabric real sound agree none trees;
                gets_only = gets_only cmp matching total equal_is_same lines empty_fabric real sound agree none trees;
              };
        }
