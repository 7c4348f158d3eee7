-- A plain declaration answers nobody.
use Rattle.std.proofs.Common.{ℕ, Bool, if◌then◌else◌, ◌&&◌, ◌==◌, not, List, [], ◌∷◌, ◌++◌, Option, Some, None}
use Rattle.std.specs.declared.cmp.Ordering.{Ordering}
use Rattle.zt_region.specs.declared.region.Region.{Region}
use Rattle.zt_region.specs.declared.region.Zid.{Zid}
use Rattle.zt_region.specs.Region.{region_eq}
use Rattle.zt_protocol.specs.Plain.{DeclareToken}
use Rattle.zt_protocol.specs.declared.messages.Message.{Message}
use Rattle.zt_protocol.specs.declared.messages.Message.TheVariants as message
use Rattle.zt_model.specs.Hearing.{rows_heard}
use Rattle.zt_model.specs.Parts.{Alter, Part, Say, find_face, said_by, to_each}
use Rattle.zt_model.specs.Rows.{Face, Rows}
use Rattle.zt_model.specs.Says.{answering, declaring, declaring_of, is_routed, is_told, parts_of, registers, said, tell_to}
use Rattle.zt_model.specs.Transcript.{Each}
use Rattle.zt_model.specs.Trees.{is_child, is_newly_shown, node_of, pass_to, show_to, showing, source_of, table_of}
use Rattle.zt_laws.proofs.Hearing.{each_ruled}
use Rattle.zt_laws.proofs.Lists.{each_append, each_filter, of_cond}

-- an answer is of the kind
abbrev pub AnswerIn : {K : Type 0} → (K → Type 0) → Message K → Type 0
AnswerIn Q (message.DeclareToken id e (Some interest) node) = Q e
AnswerIn Q _ = Unit {0}

module _ {K : Type 0} (cmp : K → K → Ordering) (matching : K → K → Bool) (Q : K → Type 0) where
  abbrev PartIn : Part K → Type 0
  PartIn (Alter change) = Unit {0}
  PartIn (Say rule) = (g : Rows K) → Each (λ s. AnswerIn Q s.1) (rule g)

  said_in : (parts : List (Part K)) (g : Rows K) → Each PartIn parts → Each (λ s. AnswerIn Q s.1) (said_by cmp matching parts g)
  unfolding said_by
  said_in [] g all = tt
  said_in (Alter change ∷ parts) g all = said_in parts (change g) all.1
  said_in (Say rule ∷ parts) g all = each_append (λ s. AnswerIn Q s.1) (rule g) (said_by cmp matching parts (rows_heard cmp (rule g) g)) (all.0 g) (said_in parts (rows_heard cmp (rule g) g) all.1)

  tell_none : (source : Region) (e : K) → PartIn (Say (λ g. to_each (tell_to cmp matching g source e) g.faces))
  unfolding tell_to
  tell_none source e = λ g. each_ruled (AnswerIn Q) (tell_to cmp matching g source e) g.faces (λ f. of_cond (Each (AnswerIn Q)) (is_told cmp matching g source e f) (message.DeclareToken f.next e None 0 ∷ []) [] (λ _. (tt, tt)) (λ _. tt))

  pass_none : (g : Rows K) (region : Region) (source : Zid) (e : K) (f : Face K) → Each (AnswerIn Q) (pass_to cmp g region source e f)
  unfolding pass_to
  pass_none g region source e f = of_cond (Each (AnswerIn Q)) (region_eq f.region region && is_child g (table_of g region) source f) (message.DeclareToken 0 e None (node_of source (table_of g region)) ∷ []) [] (λ _. (tt, tt)) (λ _. tt)

  showing_none : (source : Region) (e : K) → Each PartIn (showing cmp source e)
  unfolding show_to
  showing_none source e = ((λ g. each_ruled (AnswerIn Q) (show_to cmp g source e) g.faces (λ f. of_cond (Each (AnswerIn Q)) (is_newly_shown cmp g source e f.region) (pass_to cmp g f.region g.zid e f) [] (λ _. pass_none g f.region g.zid e f) (λ _. tt))), (tt, tt))

  pub plain_answers_none : (n id node : ℕ) (e : K) (g : Rows K) → Each (λ s. AnswerIn Q s.1) (said cmp matching (DeclareToken n id e node None) g)
  unfolding parts_of
  plain_answers_none n id node e g = said_in _ g (cases (find_face n g))
    where
      routed : (f : Face K) (o : Option Zid) → Each PartIn (declaring_of cmp matching n o e f)
      routed f None = tt
      routed f (Some source) = (tt, ((λ h. each_filter (λ s. AnswerIn Q s.1) (λ s. not (n == s.0)) (to_each (pass_to cmp h f.region source e) h.faces) (each_ruled (AnswerIn Q) (pass_to cmp h f.region source e) h.faces (pass_none h f.region source e))), (tell_none f.region e, showing_none f.region e)))

      cases : (o : Option (Face K))
          → Each PartIn (elim o [ None ↦ [] | Some f ↦ if is_routed g f then declaring_of cmp matching n (source_of g f node) e f else answering cmp matching n None e f ++ (if registers f None then declaring cmp matching n id e f ++ showing cmp f.region e else []) ])
      cases None = tt
      cases (Some f) =
          of_cond (Each PartIn) (is_routed g f) (declaring_of cmp matching n (source_of g f node) e f) (answering cmp matching n None e f ++ (if registers f None then declaring cmp matching n id e f ++ showing cmp f.region e else [])) (λ _. routed f (source_of g f node))
          (λ _. each_append PartIn (declaring cmp matching n id e f) (showing cmp f.region e) (tt, (tell_none f.region e, tt)) (showing_none f.region e))
