-- By which causes an entry may refuse a line.
use Rattle.std.proofs.Common.{◌≡◌, ℕ, ◌==◌, ◌&&◌, Bool, false, true, List, [], ◌∷◌, Option, None, Some, is_none, is_some, not, Result, Ok, Err, IfOk, refl, sym, ap, ◌∙◌}
use Rattle.std.specs.Bool.{Decides}
use Rattle.std.specs.declared.cmp.Ordering.{Ordering}
use Rattle.std.proofs.lemmas.Bool.Decides.{Decides-and, Decides-at, Decides-eqb, Decides-like, Decides-or}
use Rattle.zt_protocol.specs.Plain.{PlainLine, plain_entry}
use Rattle.zt_protocol.specs.Refusal.{number_of}
use Rattle.zt_protocol.specs.declared.entries.Entry.{Entry}
use Rattle.zt_protocol.specs.declared.errors.Refusal.{Refusal}
use Rattle.zt_protocol.specs.declared.errors.Refusal.TheVariants.{UnknownGateway, UnknownLink, EmptyLink, UnknownFace, LinkedFace, NoSuchRegion, RegionConflict, NorthTaken, WouldLoop, AnswerFromSouth, FinalFromSouth, InterestFromRouter, InterestFromNorth, IllegalCurrent, InterestIdInUse, UnknownInterest, UnknownAsk, UnknownRouter, TokenIdZero, TokenIdInUse, UnknownToken, MomentBack, DictionaryFull, IdsSpent, NumbersSpent}
use Rattle.zt_model.specs.Fabric.{Fabric}
use Rattle.zt_model.specs.Lists.{first_where, is_some_and}
use Rattle.zt_model.specs.Transcript.{IsRefusedByCause, comes_to_ids, line_may_lack_ids}
use Rattle.zt_check_lines.specs.Lines.{is_refused_by, is_same, line_cause}

-- ---- refusals by their numbers

abbrev every_refusal : List Refusal
every_refusal =
    UnknownGateway ∷ UnknownLink ∷ EmptyLink ∷ UnknownFace ∷ LinkedFace ∷ NoSuchRegion ∷ RegionConflict ∷ NorthTaken ∷ WouldLoop ∷ AnswerFromSouth ∷ FinalFromSouth ∷ InterestFromRouter ∷ InterestFromNorth ∷ IllegalCurrent ∷ InterestIdInUse ∷ UnknownInterest ∷ UnknownAsk ∷ UnknownRouter ∷ TokenIdZero ∷ TokenIdInUse ∷ UnknownToken ∷ MomentBack ∷ DictionaryFull ∷ IdsSpent ∷ NumbersSpent ∷ []

abbrev numbered : ℕ → Option Refusal
numbered n = first_where (λ r. number_of r == n) every_refusal

found : (a : Refusal) → numbered (number_of a) ≡ Some a
found UnknownGateway = refl
found UnknownLink = refl
found EmptyLink = refl
found UnknownFace = refl
found LinkedFace = refl
found NoSuchRegion = refl
found RegionConflict = refl
found NorthTaken = refl
found WouldLoop = refl
found AnswerFromSouth = refl
found FinalFromSouth = refl
found InterestFromRouter = refl
found InterestFromNorth = refl
found IllegalCurrent = refl
found InterestIdInUse = refl
found UnknownInterest = refl
found UnknownAsk = refl
found UnknownRouter = refl
found TokenIdZero = refl
found TokenIdInUse = refl
found UnknownToken = refl
found MomentBack = refl
found DictionaryFull = refl
found IdsSpent = refl
found NumbersSpent = refl

same_number : (a b : Refusal) → number_of a ≡ number_of b → a ≡ b
same_number a b same = let e : Some a ≡ Some b = sym (found a) ∙ (ap numbered same ∙ found b) in cc

same_decides : (a b : Refusal) → Decides (is_same a b) (a ≡ b)
same_decides a b = Decides-like (is_same a b) (same_number a b) (λ same. ap number_of same) (Decides-eqb (number_of a) (number_of b))

cause_decides : (cause : Option Refusal) (given : Refusal) → Decides (is_some_and cause (is_same given)) (cause ≡ Some given)
cause_decides None given = (λ no. cc, λ no. cc)
cause_decides (Some cause) given = Decides-like (is_same given cause) (λ same. ap Some (sym same)) (λ same. cc) (same_decides given cause)

test_decides : (b : Bool) → Decides b (b ≡ true)
test_decides b = (λ is. is, λ is. is)

none_decides : (cause : Option Refusal) → Decides (is_none cause) (cause ≡ None)
none_decides None = (λ is. refl, λ is. refl)
none_decides (Some cause) = (λ no. cc, λ no. cc)

none_by_test : (cause : Option Refusal) (b : Bool) → is_some cause ≡ not b → b ≡ is_none cause
none_by_test None true told = refl
none_by_test None false told = cc
none_by_test (Some cause) true told = cc
none_by_test (Some cause) false told = refl

-- ---- entries

module _ {K : Type 0} (cmp : K → K → Ordering) (matching : K → K → Bool) where
  refused_decides : (line : PlainLine K) (s : Fabric K) (given : Refusal) → Decides (is_refused_by cmp matching line s (line_cause cmp matching line s) given) (IsRefusedByCause cmp matching line (Err given) s)
  unfolding line_cause
  refused_decides line s given =
      let cause = line_cause cmp matching line s in
      let lacks = line_may_lack_ids cmp matching line s in
      Decides-or (is_some_and cause (is_same given)) (is_same given IdsSpent && (comes_to_ids cause && lacks))
      (cause_decides cause given)
      (Decides-like (is_same given IdsSpent && (comes_to_ids cause && lacks)) (λ p. (p.0, p.1.0, p.1.1)) (λ p. (p.0, (p.1, p.2)))
      (Decides-and (is_same given IdsSpent) (comes_to_ids cause && lacks) (same_decides given IdsSpent) (Decides-and (comes_to_ids cause) lacks (test_decides (comes_to_ids cause)) (test_decides lacks))))

  accepted_decides : (line : PlainLine K) (s : Fabric K) → Decides (is_none (line_cause cmp matching line s)) (line_cause cmp matching line s ≡ None)
  accepted_decides line s = none_decides (line_cause cmp matching line s)

  pub accepts : (line : PlainLine K) (s : Fabric K) (entry : Entry K) (ms : _) (cause : Option Refusal) (b : Bool) → entry.outcome ≡ Ok ms → cause ≡ line_cause cmp matching line s
      → is_some cause ≡ not b → Decides b (IsRefusedByCause cmp matching line (plain_entry entry) s)
  unfolding line_cause
  accepts line s entry ms cause b is first told =
      rw is (Decides-at b (is_none (line_cause cmp matching line s)) (none_by_test cause b told ∙ ap is_none first) (accepted_decides line s))

  refuses : (line : PlainLine K) (s : Fabric K) (entry : Entry K) (given : Refusal) (cause : Option Refusal) (b : Bool) → entry.outcome ≡ Err given → cause ≡ line_cause cmp matching line s
      → b ≡ is_refused_by cmp matching line s cause given → Decides b (IsRefusedByCause cmp matching line (plain_entry entry) s)
  refuses line s entry given cause b is first told =
      rw is (Decides-at b (is_refused_by cmp matching line s (line_cause cmp matching line s) given) (told ∙ ap (λ x. is_refused_by cmp matching line s x given) first) (refused_decides line s given))

  pub refuses_so : {E : Type 0} (line : PlainLine K) (s : Fabric K) (entry : Entry K) (given : Refusal) (cause : Option Refusal) (result : Result Bool E) → entry.outcome ≡ Err given → cause ≡ line_cause cmp matching line s
      → IfOk result (λ b. b ≡ is_refused_by cmp matching line s cause given) → IfOk result (λ b. Decides b (IsRefusedByCause cmp matching line (plain_entry entry) s))
  refuses_so line s entry given cause (Ok b) is first told = refuses line s entry given cause b is first told
  refuses_so line s entry given cause (Err e) is first told = tt
