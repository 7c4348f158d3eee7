-- What a closing comes to for an ask of another face.
use Rattle.std.proofs.Common.{◌≡◌, ℕ, ◌+◌, Bool, true, false, not, if◌then◌else◌, ◌&&◌, ◌||◌, ◌==◌, List, [], ◌∷◌, ◌++◌, filter, Option, Some, None, refl, sym, ap, ◌∙◌, subst, append_assoc, eq-eqb, eqb-true}
use Rattle.std.proofs.lemmas.Bool.{and_parts}
use Rattle.std.specs.List.{flat_map}
use Rattle.std.specs.declared.cmp.Ordering.{Ordering}
use Rattle.zt_model.specs.Closing.{closing, leaving, without_asks, without_face}
use Rattle.zt_model.specs.Hearing.{messages_for, rows_heard}
use Rattle.zt_model.specs.Lists.{first_where, has_id, is_some_and}
use Rattle.zt_model.specs.Parts.{unsaid_to}
use Rattle.zt_model.specs.Promises.{finals_in}
use Rattle.zt_model.specs.Routing.{ended, ending, finalising, finish_to, stands}
use Rattle.zt_model.specs.Rows.{Ask, ById, Face, Pending, Rows}
use Rattle.zt_model.specs.Says.{Alter, Part, Say, Sends, find_face, is_routed, said_by, to_each, undeclaring, with_face}
use Rattle.zt_model.specs.Transcript.{Each}
use Rattle.zt_model.specs.Trees.{hiding}
use Rattle.zt_laws.proofs.Hearing.{each_ruled, find_each}
use Rattle.zt_laws.proofs.Lists.{any_alike, by_test, each_append, each_filter, each_weaker, never, of_cond, rise_filter}
use Rattle.zt_laws.proofs.PartsOrder.{each_flat_map, said_by_last}
use Rattle.zt_theorem_soundness.specs.Ran.{ran}
use Rattle.zt_theorem_soundness.proofs.Closing.{spares_one}
use Rattle.zt_theorem_soundness.proofs.Going.{IsQuietMessage, MakesNoPending, drawn_if_quiet, none_if_drawn}
use Rattle.zt_theorem_soundness.proofs.Parts.{only, quiet_finish}
use Rattle.zt_theorem_soundness.proofs.Running.{ran-append}
use Rattle.zt_theorem_finals.proofs.Asks.{IsAsk, stands_changed, stands_ended, stands_heard}
use Rattle.zt_theorem_finals.proofs.Ending.{Ends, Outcome, StillMessage, ends_append, ends_ending, ends_nothing, ends_still, none_if_still}
use Rattle.zt_theorem_finals.proofs.Still.{RoutedAskNothing, StillPart, asks_still, finalising_unsaid, hiding_still, undeclaring_still, unsaid_still}

module _ {K : Type 0} where
  pub unsaid-both : (n : ℕ) (ps qs : List (Part K)) → unsaid_to n (ps ++ qs) ≡ unsaid_to n ps ++ unsaid_to n qs
  unfolding unsaid_to
  unsaid-both n [] qs = refl
  unsaid-both n (Alter change ∷ ps) qs = ap (λ (parts : List (Part K)). Alter change ∷ parts) (unsaid-both n ps qs)
  unsaid-both n (Say rule ∷ ps) qs = ap (λ (parts : List (Part K)). Say (λ g. filter (λ s. not (n == s.0)) (rule g)) ∷ parts) (unsaid-both n ps qs)

  -- the pendings that stand at a face are among these
  abbrev StandAmong : ℕ → ById Pending → Rows K → Type 0
  StandAmong n rows g = (x : ℕ) → stands g (n, x) ≡ true → has_id x rows ≡ true

  pub find_filtered : (n k : ℕ) (fs : List (Face K)) → (n == k) ≡ false → first_where (λ f. k == f.number) (filter (λ f. not (n == f.number)) fs) ≡ first_where (λ f. k == f.number) fs
  find_filtered n k [] apart = refl
  find_filtered n k (f ∷ fs) apart =
      by_test (n == f.number)
      (λ here.
      let miss : (k == f.number) ≡ false = by_test (k == f.number) (λ own. never (eq-eqb n k (eqb-true n f.number here ∙ sym (eqb-true k f.number own))) apart) (λ own. own) in
      rw (here, miss) (find_filtered n k fs apart))
      (λ here. rw here (by_test (k == f.number) (λ own. rw own refl) (λ own. rw own (find_filtered n k fs apart))))

  find_gone : (n : ℕ) (fs : List (Face K)) → first_where (λ f. n == f.number) (filter (λ f. not (n == f.number)) fs) ≡ None
  find_gone n [] = refl
  find_gone n (f ∷ fs) = by_test (n == f.number) (λ here. rw here (find_gone n fs)) (λ here. rw (here, here) (find_gone n fs))

  -- a face goes at which nothing stands
  stands_gone : (n : ℕ) (g : Rows K) → StandAmong n [] g → (p : ℕ × ℕ) → stands (without_face n g) p ≡ stands g p
  stands_gone n g among p =
      by_test (n == p.0)
      (λ here.
      let is : n ≡ p.0 = eqb-true n p.0 here in
      let none_ : stands g (n, p.1) ≡ false = by_test (stands g (n, p.1)) (λ has. never (among p.1 has) refl) (λ gone. gone) in
      subst (λ k. stands (without_face n g) (k, p.1) ≡ stands g (k, p.1)) is (ap (λ (o : Option (Face K)). is_some_and o (λ f. has_id p.1 f.pendings)) (find_gone n g.faces) ∙ sym none_))
      (λ here. ap (λ (o : Option (Face K)). is_some_and o (λ f. has_id p.1 f.pendings)) (find_filtered n p.0 g.faces here))

module _ {K : Type 0} (cmp : K → K → Ordering) (matching : K → K → Bool) where
  -- ---- the pendings of the face that goes

  among_still : (n : ℕ) (rows : ById Pending) (parts : List (Part K)) (g : Rows K) → Each (StillPart cmp matching (only n)) parts → StandAmong n rows g → StandAmong n rows (ran cmp parts g)
  unfolding ran
  among_still n rows [] g still among = among
  among_still n rows (Alter change ∷ parts) g still among =
      let both = still.0 g in
      among_still n rows parts (change g) still.1 (λ x has. among x (sym (stands_changed g (change g) both.leaves.change both.leaves.faces both.leaves.number both.pendings (n, x)) ∙ has))
  among_still n rows (Say rule ∷ parts) g still among =
      among_still n rows parts (rows_heard cmp (rule g) g) still.1
      (λ x has. among x (sym (stands_heard cmp (rule g) g (each_weaker (λ s. StillMessage cmp matching s.1) (λ s. MakesNoPending s.1) (λ s one. none_if_still cmp matching s.1 one) (rule g) (still.0 g)) (n, x)) ∙ has))

  -- one after another they end
  all_ended : (n : ℕ) (rows : ById Pending) (g : Rows K) → StandAmong n rows g → StandAmong n [] (ran cmp (unsaid_to n (flat_map (λ row. ending n row.0) rows)) g)
  unfolding ran unsaid_to
  all_ended n [] g among = among
  all_ended n (row ∷ rows) g among = all_ended n rows h rest
    where
      g1 : Rows K
      g1 = with_face n (ended row.0) g

      ss : Sends K
      ss = filter (λ s. not (n == s.0)) (to_each (finish_to g1 n row.0) g1.faces)

      h : Rows K
      h = rows_heard cmp ss g1

      none_ : Each (λ s. MakesNoPending s.1) ss
      none_ =
          each_filter (λ s. MakesNoPending s.1) (λ s. not (n == s.0)) (to_each (finish_to g1 n row.0) g1.faces)
          (each_weaker (λ s. IsQuietMessage s.1) (λ s. MakesNoPending s.1) (λ s quiet. none_if_drawn s.1 (drawn_if_quiet s.1 quiet)) (to_each (finish_to g1 n row.0) g1.faces) (each_ruled IsQuietMessage (finish_to g1 n row.0) g1.faces (quiet_finish g1 n row.0)))

      rest : StandAmong n rows h
      rest x has =
          let both = and_parts (stands g (n, x)) (not ((n == n) && (row.0 == x))) (sym (stands_ended n row.0 g (n, x)) ∙ sym (stands_heard cmp ss g1 none_ (n, x)) ∙ has) in
          by_test (row.0 == x)
          (λ own. never both.1 (rw (eq-eqb n n refl, own) refl))
          (λ own.
          let turned : (x == row.0) ≡ false = by_test (x == row.0) (λ same_. never (eq-eqb row.0 x (sym (eqb-true x row.0 same_))) own) (λ other. other) in
          ap (λ b. b || has_id x rows) (sym turned) ∙ among x both.0)

  before_ends : (n : ℕ) (from : Face K) → List (Part K)
  before_ends n from = flat_map (λ row. undeclaring cmp matching n row.0 None from ++ hiding cmp from.region row.1) from.live ++ flat_map (λ row. finalising cmp matching n row.0 row.1) from.held

  before_still : (n : ℕ) (from : Face K) → Each (StillPart cmp matching (only n)) (unsaid_to n (before_ends n from))
  unfolding before_ends unsaid_to
  before_still n from =
      subst (Each (StillPart cmp matching (only n))) (sym (unsaid-both n tokens finals))
      (each_append (StillPart cmp matching (only n)) (unsaid_to n tokens) (unsaid_to n finals)
      (unsaid_still cmp matching (only n) n tokens (each_flat_map (StillPart cmp matching (only n)) (λ row. undeclaring cmp matching n row.0 None from ++ hiding cmp from.region row.1) from.live (λ row. each_append (StillPart cmp matching (only n)) (undeclaring cmp matching n row.0 None from) (hiding cmp from.region row.1) (undeclaring_still cmp matching (only n) n row.0 None from) (hiding_still cmp matching (only n) from.region row.1))))
      (finals_still from.held))
    where
      tokens : List (Part K)
      tokens = flat_map (λ row. undeclaring cmp matching n row.0 None from ++ hiding cmp from.region row.1) from.live

      finals : List (Part K)
      finals = flat_map (λ row. finalising cmp matching n row.0 row.1) from.held

      finals_still : (rows : ById _) → Each (StillPart cmp matching (only n)) (unsaid_to n (flat_map (λ row. finalising cmp matching n row.0 row.1) rows))
      finals_still [] = tt
      finals_still (row ∷ rows) =
          subst (Each (StillPart cmp matching (only n))) (sym (unsaid-both n (finalising cmp matching n row.0 row.1) (flat_map (λ r. finalising cmp matching n r.0 r.1) rows)))
          (each_append (StillPart cmp matching (only n)) (unsaid_to n (finalising cmp matching n row.0 row.1)) (unsaid_to n (flat_map (λ r. finalising cmp matching n r.0 r.1) rows)) (finalising_unsaid cmp matching (only n) n row.0 row.1) (finals_still rows))

  -- a face's leaving: what is still, and then its pendings end
  pub still_before : (n : ℕ) (from : Face K) → List (Part K)
  still_before n from = unsaid_to n (before_ends n from) ++ Alter (with_face n without_asks) ∷ []

  pub still_before_still : (n : ℕ) (from : Face K) → Each (StillPart cmp matching (only n)) (still_before n from)
  unfolding still_before
  still_before_still n from = each_append (StillPart cmp matching (only n)) (unsaid_to n (before_ends n from)) (Alter (with_face n without_asks) ∷ []) (before_still n from) (asks_still cmp matching n, tt)

  pub leaving_splits : (n : ℕ) (from : Face K) → unsaid_to n (leaving cmp matching n from) ≡ still_before n from ++ unsaid_to n (flat_map (λ row. ending n row.0) from.pendings)
  unfolding before_ends still_before unsaid_to
  leaving_splits n from =
      unsaid-both n (before_ends n from) (Alter (with_face n without_asks) ∷ flat_map (λ row. ending n row.0) from.pendings)
      ∙ sym (append_assoc (unsaid_to n (before_ends n from)) (Alter (with_face n without_asks) ∷ []) (unsaid_to n (flat_map (λ row. ending n row.0) from.pendings)))

  module _ (k i : ℕ) (ask : Ask K) where
    -- the face goes
    gone_asks : (n : ℕ) (b : Bool) (g : Rows K) → (n == k) ≡ false → StandAmong n [] g → IsAsk cmp k i ask b g → IsAsk cmp k i ask b (without_face n g)
    gone_asks n b g apart among is = record {
      at = record {
        face = is.at.face;
        rises = rise_filter (λ f. f.number) 1 (λ f. not (n == f.number)) g.faces is.at.rises;
        found = find_filtered n k g.faces apart ∙ is.at.found;
        asks_rise = is.at.asks_rise;
        own = is.at.own;
        has = is.at.has;
      };
      stand = any_alike (stands (without_face n g)) (stands g) (stands_gone n g among) ask.pendings ∙ is.stand;
    }

    abbrev Ends_ : List (Part K) → Type 0
    Ends_ = Ends cmp matching k i ask

    unsaid_endings : (n : ℕ) (rows : ById Pending) → (n == k) ≡ false → Ends_ (unsaid_to n (flat_map (λ row. ending n row.0) rows))
    unfolding unsaid_to
    unsaid_endings n [] apart = ends_nothing cmp matching k i ask
    unsaid_endings n (row ∷ rows) apart =
        ends_append cmp matching k i ask (unsaid_to n (ending n row.0)) (unsaid_to n (flat_map (λ r. ending n r.0) rows))
        (ends_ending cmp matching k i ask (only n) (λ ss. filter (λ s. not (n == s.0)) ss) (spares_one cmp matching n) apart n row.0) (unsaid_endings n rows apart)

    -- an outcome with the face gone, where nothing stands there
    then_gone : (n : ℕ) (parts : List (Part K)) (b : Bool) (g : Rows K) → (n == k) ≡ false → StandAmong n [] (ran cmp parts g) → Outcome cmp matching k i ask b (ran cmp parts g) (messages_for k (said_by cmp matching parts g))
        → Outcome cmp matching k i ask b (ran cmp (parts ++ Alter (without_face n) ∷ []) g) (messages_for k (said_by cmp matching (parts ++ Alter (without_face n) ∷ []) g))
    unfolding ran
    then_gone n parts b g apart among one = record {
      there = one.there;
      is = subst (IsAsk cmp k i ask one.there) (sym (ran-append cmp parts (Alter (without_face n) ∷ []) g)) (gone_asks n one.there (ran cmp parts g) apart among one.is);
      counts = ap (λ ss. finals_in i (messages_for k ss) + (if one.there then 1 else 0)) (said_by_last cmp matching parts (without_face n) g) ∙ one.counts;
    }

    pub closing_ends : (n : ℕ) (from : Face K) (b : Bool) (g : Rows K) → (n == k) ≡ false → find_face n g ≡ Some from → RoutedAskNothing cmp matching g → IsAsk cmp k i ask b g
        → Outcome cmp matching k i ask b (ran cmp (closing cmp matching n g from) g) (messages_for k (said_by cmp matching (closing cmp matching n g from) g))
    unfolding ran
    closing_ends n from b g apart found routed is =
        of_cond (λ (parts : List (Part K)). Outcome cmp matching k i ask b (ran cmp (parts ++ Alter (without_face n) ∷ []) g) (messages_for k (said_by cmp matching (parts ++ Alter (without_face n) ∷ []) g)))
        (is_routed g from) [] (unsaid_to n (leaving cmp matching n from))
        (λ here.
        then_gone n [] b g apart (λ x has. standing here x has) (ends_nothing cmp matching k i ask b g is))
        (λ _. subst (λ (parts : List (Part K)). Outcome cmp matching k i ask b (ran cmp (parts ++ Alter (without_face n) ∷ []) g) (messages_for k (said_by cmp matching (parts ++ Alter (without_face n) ∷ []) g))) (sym (leaving_splits n from)) plain)
      where
        standing : is_routed g from ≡ true → (x : ℕ) → stands g (n, x) ≡ true → has_id x (let rows : ById Pending = [] in rows) ≡ true
        standing here x has =
            let none_ : from.pendings ≡ [] = find_each (λ f. is_routed g f ≡ true → f.pendings ≡ []) (λ f. n == f.number) g.faces from routed found here in
            sym (ap (has_id x) none_) ∙ sym (ap (λ (o : Option (Face K)). is_some_and o (λ f. has_id x f.pendings)) found) ∙ has

        still : List (Part K)
        still = still_before n from

        still_ : Each (StillPart cmp matching (only n)) still
        still_ = still_before_still n from

        over : List (Part K)
        over = unsaid_to n (flat_map (λ row. ending n row.0) from.pendings)

        plain : Outcome cmp matching k i ask b (ran cmp ((still ++ over) ++ Alter (without_face n) ∷ []) g) (messages_for k (said_by cmp matching ((still ++ over) ++ Alter (without_face n) ∷ []) g))
        plain =
            then_gone n (still ++ over) b g apart
            (subst (StandAmong n []) (sym (ran-append cmp still over g)) (all_ended n from.pendings (ran cmp still g) (among_still n from.pendings still g still_ (λ x has. sym (ap (λ (o : Option (Face K)). is_some_and o (λ f. has_id x f.pendings)) found) ∙ has))))
            (ends_append cmp matching k i ask still over (ends_still cmp matching k i ask (only n) apart still still_) (unsaid_endings n from.pendings apart) b g is)
