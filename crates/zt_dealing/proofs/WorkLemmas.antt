-- Calls that a worker makes.
use Rattle.std.proofs.Common.{◌≡◌, ℕ, zero, suc, ◌<◌, Bool, List, [], ◌∷◌, ◌++◌, length, map, get_or, Result, Ok, Err, IfOk, refl, sym, ap, ◌∙◌, subst, arith}
use Rattle.std.proofs.lemmas.List.{get_or-map, length-map}
use Rattle.std.specs.Global.{Vec}
use Rattle.std.specs.List.{AllZip}
use Rattle.std.specs.declared.cmp.Ordering.{Ordering}
use Rattle.zt_protocol.specs.Plain.{PlainCall}
use Rattle.zt_model.specs.Journal.{Journalled}
use Rattle.zt_model.specs.Transcript.{Each}
use Rattle.zt_laws.proofs.Lists.{map-append}
use Rattle.zt_shared_value.specs.Passes.{Standing, mine}
use Rattle.zt_shared.specs.Recorded.{Recorded}
use Rattle.zt_shared.specs.Sharing.{Enters, entries_of, pass_of}
use Rattle.zt_shared.specs.declared.entries.Receipt.{Receipt}
use Rattle.zt_dealing.specs.Dealing.{calls_of}
use Rattle.zt_plans.specs.Plans.{numbered}
use Rattle.zt_plans.specs.declared.plan.Numbered.{Numbered}

pub each_at : {A B : Type 0} (P : B → Type 0) (f : A → B) (xs : List A) (i : ℕ) (x : A) → Each P (map f xs) → i < length xs → x ≡ get_or xs i x → P (f x)
each_at P f [] i x all less is = absurd (omega arith)
each_at P f (y ∷ xs) zero x all less is = subst (λ z. P (f z)) (sym is) all.0
each_at P f (y ∷ xs) (suc i) x all less is = each_at P f xs i x all.1 (omega arith) is

-- two lists, place by place
pub zip_all : {A B : Type 0} (P : A → B → Type 0) (xs : List A) (ys : List B) → length ys ≡ length xs → ((i : ℕ) (d : A) (e : B) → i < length xs → P (get_or xs i d) (get_or ys i e)) → AllZip P xs ys
zip_all P [] [] long each = tt
zip_all P [] (y ∷ ys) long each = absurd (omega arith)
zip_all P (x ∷ xs) [] long each = absurd (omega arith)
zip_all P (x ∷ xs) (y ∷ ys) long each = (each 0 x y (omega arith), zip_all P xs ys (omega arith) (λ i d e less. each (suc i) d e (omega arith)))

-- results that were all good, place by place
zip_good : {A B E : Type 0} (P : A → B → Type 0) (xs : List A) (results : List (Result B E)) (ys : List B) → results ≡ map (λ y. Ok y) ys → length results ≡ length xs
    → ((i : ℕ) (d : A) (r : Result B E) → i < length xs → IfOk (get_or results i r) (P (get_or xs i d))) → AllZip P xs ys
zip_good {A} {B} {E} P xs results ys good long each =
    let as_long : length ys ≡ length xs = omega (arith, ap length good, length-map ys (λ (y : B). (let r : Result B E = Ok y in r))) in
    zip_all P xs ys as_long
    (λ i d e less.
    let same : get_or results i (Ok e) ≡ Ok (get_or ys i e) = ap (λ rs. get_or rs i (Ok e)) good ∙ get_or-map (λ (y : B). (let r : Result B E = Ok y in r)) ys i e (Ok e) (omega arith) in
    subst (λ (r : Result B E). IfOk r (P (get_or xs i d))) same (each i d (Ok e) less))

pub zip_collected : {A B E F : Type 0} (P : A → B → Type 0) (xs : List A) (results : List (Result B E)) (all : Result (Vec B) F) → IfOk all (λ ys. results ≡ map (λ y. Ok y) ys.items) → length results ≡ length xs
    → ((i : ℕ) (d : A) (r : Result B E) → i < length xs → IfOk (get_or results i r) (P (get_or xs i d))) → IfOk all (λ ys. AllZip P xs ys.items)
zip_collected P xs results (Ok ys) good long each = zip_good P xs results ys.items good long each
zip_collected P xs results (Err error) good long each = tt

module _ {K : Type 0} where
  -- a pass of a worker that has made the calls of these lines
  pub record HasWorked (start now : Standing (Recorded K)) (done : List (Numbered K)) (lines : List ℕ) : Type 0 where
    pub table : now.table ≡ start.table
    pub opening : now.opening ≡ start.opening
    pub number : now.number ≡ start.number
    pub known : now.known ≡ start.known
    pub made : calls_of now ≡ map (λ x. x.1) (map numbered done)
    pub lines_are : lines ≡ map (λ x. x.0) (map numbered done)

  pub worked_none : (start : Standing (Recorded K)) (lines : List ℕ) → calls_of start ≡ [] → lines ≡ [] → HasWorked start start [] lines
  worked_none start lines new none = record { table = refl; opening = refl; number = refl; known = refl; made = new; lines_are = none }

  pub worked_next : (cmp : K → K → Ordering) (matching : K → K → Bool) (receipt : Receipt) (start before after : Standing (Recorded K)) (done : List (Numbered K)) (one : Numbered K) (lines lines' : List ℕ)
      → HasWorked start before done lines → Enters cmp matching (numbered one).1 receipt before after → lines' ≡ lines ++ one.line ∷ [] → HasWorked start after (done ++ one ∷ []) lines'
  worked_next cmp matching receipt start before after done one lines lines' has enters more =
      let rest = enters.adds.rest in
      record {
        table = ap (λ (p : Standing (Recorded K)). p.table) rest ∙ has.table;
        opening = ap (λ (p : Standing (Recorded K)). p.opening) rest ∙ has.opening;
        number = ap (λ (p : Standing (Recorded K)). p.number) rest ∙ has.number;
        known = ap (λ (p : Standing (Recorded K)). p.known) rest ∙ has.known;
        made =
            ap (map (λ (x : ℕ × Journalled K). x.1.call)) enters.adds.mine_more
            ∙ map-append (λ (x : ℕ × Journalled K). x.1.call) (mine entries_of pass_of before) ((receipt.place, enters.entry) ∷ [])
            ∙ ap (λ cs. cs ++ enters.entry.call ∷ []) has.made
            ∙ ap (λ c. map (λ (x : ℕ × PlainCall K). x.1) (map numbered done) ++ c ∷ []) enters.is_of
            ∙ sym (ap (map (λ (x : ℕ × PlainCall K). x.1)) (map-append numbered done (one ∷ [])) ∙ map-append (λ (x : ℕ × PlainCall K). x.1) (map numbered done) (numbered one ∷ []));
        lines_are =
            more ∙ ap (λ ls. ls ++ one.line ∷ []) has.lines_are
            ∙ sym (ap (map (λ (x : ℕ × PlainCall K). x.0)) (map-append numbered done (one ∷ [])) ∙ map-append (λ (x : ℕ × PlainCall K). x.0) (map numbered done) (numbered one ∷ []));
      }
