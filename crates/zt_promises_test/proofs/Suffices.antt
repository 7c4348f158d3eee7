-- The premises of the promises over trees are those of the promises themselves.
use Rattle.std.proofs.Common.{◌≡◌, ℕ, ◌-◌, ◌==◌, Bool, true, false, ◌&&◌, ◌||◌, List, [], ◌∷◌, Some, refl, subst, true≢false}
use Rattle.std.specs.List.{list_any}
use Rattle.std.specs.declared.cmp.Ordering.{Ordering}
use Rattle.zt_protocol.specs.Plain.{DeclareToken, UndeclareToken, Interest, InterestFinal, DeclareFinal, CloseFace, Expire, SetTrees, SetEntities, NewSession, NewTransport, PlainEntry, PlainLine, Gateway, Session, Face as FaceLine, Link as LinkLine, Unlink, Step, Speak, Moment, SetTreesAt}
use Rattle.zt_model.specs.Fabric.{Fabric}
use Rattle.zt_model.specs.Lists.{nth}
use Rattle.zt_model.specs.Promises.{Turn, is_accepted}
use Rattle.zt_model.specs.Rows.{InterestRow}
use Rattle.zt_model.specs.Transcript.{Each}
use Rattle.zt_model.specs.TreePromises.{TreeAsk, disturbs, is_ids_spent}
use Rattle.zt_theorem_tree_invariant.specs.Trees.{FacesFormTrees, LeavesTrees}
use Rattle.zt_promises_test.specs.Premises.{AskIn, Holds, SufficeForKnowledge, SufficeForWhatStays, SufficeForWhatWas, comes, is_end_of_interest, is_moment, is_unlinking, premises_of_asks, turns_to_final}

pub by_test : {G : Type 0} (b : Bool) → (b ≡ true → G) → (b ≡ false → G) → G
by_test true yes_ no_ = yes_ refl
by_test false yes_ no_ = no_ refl

pub neither : (x y : Bool) → (x || y) ≡ false → (x ≡ false) × (y ≡ false)
neither true y e = absurd (true≢false e)
neither false y e = (refl, e)

not_either : (x y : Bool) → x ≡ false → y ≡ false → (x || y) ≡ false
not_either x y a b = rw a b

-- ---- the premises are those of the promises

each_nth : {A : Type 0} (P : A → Type 0) (n : ℕ) (xs : List A) (x : A) → Each P xs → nth n xs ≡ Some x → P x
each_nth P n [] x all at_ = cc
each_nth P n (y ∷ xs) x all at_ =
    by_test (n == 1)
    (λ here. let e : Some y ≡ Some x = rw here at at_ in let is : y ≡ x = cc in subst P is all.0)
    (λ here. each_nth P (n - 1) xs x all.1 (rw here at at_))

module _ {K : Type 0} (cmp : K → K → Ordering) (matching : K → K → Bool) where
  none_disturbs : (face id : ℕ) (interest : InterestRow K) (line : PlainLine K) (entry : PlainEntry K) (before after : Fabric K)
      → (is_accepted entry && is_moment line) ≡ false → (is_accepted entry && is_unlinking line) ≡ false → (is_accepted entry && is_end_of_interest face id interest line) ≡ false
      → disturbs cmp matching face id interest (record { line = line; entry = entry; before = before; after = after }) ≡ false
  none_disturbs face id interest (Gateway mode zid regions south name timeout refused) entry before after moment unlinking own = moment
  none_disturbs face id interest (Session gateway first) entry before after moment unlinking own = moment
  none_disturbs face id interest (FaceLine gateway mode zid region bound first) entry before after moment unlinking own = moment
  none_disturbs face id interest (LinkLine one two first back) entry before after moment unlinking own = moment
  none_disturbs face id interest (Unlink link) entry before after moment unlinking own = unlinking
  none_disturbs face id interest (Step link back) entry before after moment unlinking own = moment
  none_disturbs face id interest (Moment gateway now) entry before after moment unlinking own = moment
  none_disturbs face id interest (SetTreesAt gateway region table) entry before after moment unlinking own = moment
  none_disturbs face id interest (Speak (NewSession first)) entry before after moment unlinking own = moment
  none_disturbs face id interest (Speak (NewTransport zid whatami region bound first)) entry before after moment unlinking own = moment
  none_disturbs face id interest (Speak (DeclareToken n i e node asked)) entry before after moment unlinking own = moment
  none_disturbs face id interest (Speak (UndeclareToken n i e node)) entry before after moment unlinking own = moment
  none_disturbs face id interest (Speak (Interest n i mode options e)) entry before after moment unlinking own = moment
  none_disturbs face id interest (Speak (InterestFinal n i)) entry before after moment unlinking own = own
  none_disturbs face id interest (Speak (DeclareFinal n i)) entry before after moment unlinking own = moment
  none_disturbs face id interest (Speak (CloseFace n)) entry before after moment unlinking own = moment
  none_disturbs face id interest (Speak (Expire now)) entry before after moment unlinking own = moment
  none_disturbs face id interest (Speak (SetTrees region table)) entry before after moment unlinking own = moment
  none_disturbs face id interest (Speak (SetEntities n subscribers queryables)) entry before after moment unlinking own = moment

  undisturbed : (face id : ℕ) (interest : InterestRow K) (ts : List (Turn K)) → comes is_moment ts ≡ false → comes is_unlinking ts ≡ false → comes (is_end_of_interest face id interest) ts ≡ false
      → list_any (disturbs cmp matching face id interest) ts ≡ false
  undisturbed face id interest [] moment unlinking own = refl
  undisturbed face id interest (t ∷ ts) moment unlinking own =
      let m = neither (is_accepted t.entry && is_moment t.line) (comes is_moment ts) moment in
      let u = neither (is_accepted t.entry && is_unlinking t.line) (comes is_unlinking ts) unlinking in
      let o = neither (is_accepted t.entry && is_end_of_interest face id interest t.line) (comes (is_end_of_interest face id interest) ts) own in
      not_either (disturbs cmp matching face id interest t) (list_any (disturbs cmp matching face id interest) ts)
      (none_disturbs face id interest t.line t.entry t.before t.after m.0 u.0 o.0)
      (undisturbed face id interest ts m.1 u.1 o.1)

  each_turn : (ts : List (Turn K)) → list_any (is_ids_spent cmp matching) ts ≡ false → Each (λ t. FacesFormTrees t.after) ts → Each (LeavesTrees cmp matching) ts
  each_turn [] left trees = tt
  each_turn (t ∷ ts) left trees =
      let l = neither (is_ids_spent cmp matching t) (list_any (is_ids_spent cmp matching) ts) left in
      ((trees.0, l.0), each_turn ts l.1 trees.1)

  abbrev whole : {turns : List (Turn K)} (a : AskIn cmp matching turns) → Each (Holds cmp matching a) premises_of_asks → TreeAsk cmp matching turns
  whole a holds = record {
    earlier = a.earlier;
    asking = a.asking;
    between = a.between;
    ending = a.ending;
    later = a.later;
    turns_are = a.turns_are;
    face = a.face;
    id = a.id;
    interest = a.interest;
    made = a.made;
    quiet = holds.0;
    undisturbed = undisturbed a.face a.id a.interest (turns_to_final cmp matching a) holds.1.0 holds.1.1.0 holds.1.1.1.0;
    finished = a.finished;
  }

  trees_of : {turns : List (Turn K)} (a : AskIn cmp matching turns) → Each (Holds cmp matching a) premises_of_asks → Each (LeavesTrees cmp matching) turns
  trees_of {turns} a holds = each_turn turns holds.1.1.1.1.0 holds.1.1.1.1.1.0

  pub suffice_for_what_stays : SufficeForWhatStays cmp matching
  suffice_for_what_stays = λ turns keep a holds e stays.
      (keep (trees_of a holds)).gets (whole a holds) e stays.own stays.other stays.place stays.about stays.at_own stays.in_tree stays.at_other stays.stays

  pub suffice_for_what_was : SufficeForWhatWas cmp matching
  suffice_for_what_was = λ turns keep a holds e answered. (keep (trees_of a holds)).gets_only (whole a holds) e answered

  pub suffice_for_knowledge : SufficeForKnowledge cmp matching
  suffice_for_knowledge = λ turns keep n t at_ holds. each_nth _ n turns t (keep (each_turn turns holds.1.0 holds.1.1.0)).knowledge at_ holds.0
