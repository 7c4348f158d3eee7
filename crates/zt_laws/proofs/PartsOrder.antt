-- Parts of calls leave lists in order, and what faces were told.
use Rattle.std.proofs.Common.{◌≡◌, ℕ, ◌≤◌, Bool, true, false, not, if◌then◌else◌, ◌==◌, List, [], ◌∷◌, ◌++◌, map, Option, Some, None, refl, sym, ap, ◌∙◌, subst}
use Rattle.std.specs.List.{flat_map}
use Rattle.std.specs.declared.cmp.Ordering.{Ordering}
use Rattle.zt_protocol.specs.declared.messages.Message.{Message}
use Rattle.zt_protocol.specs.declared.messages.Message.TheVariants.{DeclareToken, UndeclareToken, DeclareFinal, Interest, InterestFinal, DeclareSubscriber, DeclareQueryable}
use Rattle.zt_protocol.specs.Interest.{is_current, is_future}
use Rattle.zt_model.specs.Hearing.{asks_answered, heard, heard_all, messages_for, put_if, rows_heard, with_answer}
use Rattle.zt_model.specs.Lists.{without_id}
use Rattle.zt_model.specs.Rows.{Ask, ById, Face, Rows}
use Rattle.zt_model.specs.Says.{Alter, Part, Say, Sends, altered_by, said_by, to_each, to_face, with_face}
use Rattle.zt_model.specs.Parts.{unsaid_to}
use Rattle.zt_model.specs.Transcript.{Each}
use Rattle.zt_laws.specs.Kept.{Told, told_by, told_by_all, told_of}
use Rattle.zt_laws.specs.Order.{HasRowsInOrder, ListsAreInOrder, RowsAreInOrder}
use Rattle.zt_laws.specs.Sound.{RiseFrom}
use Rattle.zt_laws.proofs.Faces.{chosen_leaves}
use Rattle.zt_laws.proofs.Hearing.{heard_all-number, messages_for-append, rows_heard-to_each, rows_heard-to_face}
use Rattle.zt_laws.proofs.Keeping.{told_alone}
use Rattle.zt_laws.proofs.Lists.{each_always, each_append, each_filter, each_map, each_weaker, map-map, map_alike, of_cond, rise_filter, rise_map}
use Rattle.zt_laws.proofs.ToldOrder.{DrawsNothing, IsInOrder, TellsNothing, in_order_nothings, tells_if_draws}
use Rattle.zt_laws.proofs.Visible.{rise_put}

pub each_of_map : {A B : Type 0} (P : B → Type 0) (f : A → B) (xs : List A) → Each P (map f xs) → Each (λ x. P (f x)) xs
each_of_map P f [] all = tt
each_of_map P f (x ∷ xs) all = (all.0, each_of_map P f xs all.1)

pub each_flat_map : {A B : Type 0} (P : B → Type 0) (f : A → List B) (xs : List A) → ((x : A) → Each P (f x)) → Each P (flat_map f xs)
each_flat_map P f [] h = tt
each_flat_map P f (x ∷ xs) h = each_append P (f x) (flat_map f xs) (h x) (each_flat_map P f xs h)

-- ---- rows by id

pub rise_put_if : {A : Type 0} (b : Bool) (id : ℕ) (v : A) (rows : ById A) → RiseFrom (λ row. row.0) 0 rows → RiseFrom (λ row. row.0) 0 (put_if b id v rows)
rise_put_if true id v rows rises = rise_put id v rows rises
rise_put_if false id v rows rises = rises

pub rise_without_id : {A : Type 0} (id : ℕ) (rows : ById A) → RiseFrom (λ row. row.0) 0 rows → RiseFrom (λ row. row.0) 0 (without_id id rows)
rise_without_id id rows rises = rise_filter (λ row. row.0) 0 (λ row. not (id == row.0)) rows rises

module _ {K : Type 0} (cmp : K → K → Ordering) where
  -- ---- hearing leaves each face's lists in order

  rise_answered : (interest : Option ℕ) (e : K) (asks : ById (Ask K)) → RiseFrom (λ row. row.0) 0 asks → RiseFrom (λ row. row.0) 0 (asks_answered cmp interest e asks)
  rise_answered None e asks rises = rises
  rise_answered (Some id) e asks rises =
      rise_map (λ row. row.0) 0 (with_answer cmp id e) asks
      (λ row. of_cond (λ (r : ℕ × Ask K). r.0 ≡ row.0) _ (row.0, record row.1 { answered = row.1.answered ++ e ∷ [] }) row (λ _. refl) (λ _. refl)) rises

  rows_in_order_heard : (now : ℕ) (m : Message K) (f : Face K) → HasRowsInOrder f → HasRowsInOrder (heard cmp now m f)
  rows_in_order_heard now (DeclareToken id e interest node) f rows = record {
    live = rows.live;
    held = rows.held;
    locals = rows.locals;
    pendings = rows.pendings;
    asks = rise_answered interest e f.asks rows.asks;
  }
  rows_in_order_heard now (DeclareFinal interest) f rows = record {
    live = rows.live;
    held = rows.held;
    locals = rows.locals;
    pendings = rows.pendings;
    asks = rise_without_id interest f.asks rows.asks;
  }
  rows_in_order_heard now (Interest id mode options e) f rows = record {
    live = rows.live;
    held = rows.held;
    locals = rise_put_if (is_future mode) id _ f.locals rows.locals;
    pendings = rise_put_if (is_current mode) id _ f.pendings rows.pendings;
    asks = rows.asks;
  }
  rows_in_order_heard now (InterestFinal id) f rows = record {
    live = rows.live;
    held = rows.held;
    locals = rise_without_id id f.locals rows.locals;
    pendings = rows.pendings;
    asks = rows.asks;
  }
  rows_in_order_heard now (UndeclareToken id e node) f rows = record { live = rows.live; held = rows.held; locals = rows.locals; pendings = rows.pendings; asks = rows.asks }
  rows_in_order_heard now (DeclareSubscriber id e interest) f rows = rows
  rows_in_order_heard now (DeclareQueryable id e info interest) f rows = rows

  pub rows_in_order_heard_all : (now : ℕ) (ms : List (Message K)) (f : Face K) → HasRowsInOrder f → HasRowsInOrder (heard_all cmp now ms f)
  unfolding heard_all
  rows_in_order_heard_all now [] f rows = rows
  rows_in_order_heard_all now (m ∷ ms) f rows = rows_in_order_heard_all now ms (heard cmp now m f) (rows_in_order_heard now m f rows)

  -- ---- what faces were told

  abbrev pub tolds : Rows K → List (Told K)
  tolds g = map told_of g.faces

  abbrev hear : Sends K → Told K → Told K
  hear ss t = told_by_all cmp (messages_for t.number ss) t

  -- what faces were told after messages
  abbrev pub tolds_after : Sends K → List (Told K) → List (Told K)
  tolds_after ss ts = map (hear ss) ts

  abbrev pub AreInOrder : List (Told K) → Type 0
  AreInOrder ts = Each (IsInOrder cmp) ts

  told_by-number : (m : Message K) (t : Told K) → (told_by cmp m t).number ≡ t.number
  told_by-number (DeclareToken id e interest node) t = refl
  told_by-number (UndeclareToken id e node) t = refl
  told_by-number (DeclareFinal interest) t = refl
  told_by-number (Interest id mode options e) t = refl
  told_by-number (InterestFinal id) t = refl
  told_by-number (DeclareSubscriber id e interest) t = refl
  told_by-number (DeclareQueryable id e info interest) t = refl

  pub told_by_all-number : (ms : List (Message K)) (t : Told K) → (told_by_all cmp ms t).number ≡ t.number
  told_by_all-number [] t = refl
  told_by_all-number (m ∷ ms) t = told_by_all-number ms (told_by cmp m t) ∙ told_by-number m t

  told_by_all-append : (ms ns : List (Message K)) (t : Told K) → told_by_all cmp (ms ++ ns) t ≡ told_by_all cmp ns (told_by_all cmp ms t)
  told_by_all-append [] ns t = refl
  told_by_all-append (m ∷ ms) ns t = told_by_all-append ms ns (told_by cmp m t)

  -- messages that are sent later are heard later
  pub tolds_after-append : (ss ts : Sends K) (xs : List (Told K)) → tolds_after (ss ++ ts) xs ≡ tolds_after ts (tolds_after ss xs)
  tolds_after-append ss ts xs =
      map_alike (hear (ss ++ ts)) (λ t. hear ts (hear ss t)) xs
      (each_always (λ t. hear (ss ++ ts) t ≡ hear ts (hear ss t))
      (λ t.
      ap (λ ms. told_by_all cmp ms t) (messages_for-append t.number ss ts)
      ∙ told_by_all-append (messages_for t.number ss) (messages_for t.number ts) t
      ∙ ap (λ n. told_by_all cmp (messages_for n ts) (hear ss t)) (sym (told_by_all-number (messages_for t.number ss) t)))
      xs)
      ∙ sym (map-map (hear ts) (hear ss) xs)

  pub tolds_after_nothing : (xs : List (Told K)) → tolds_after [] xs ≡ xs
  unfolding messages_for
  tolds_after_nothing [] = refl
  tolds_after_nothing (t ∷ ts) = ap (λ rest. t ∷ rest) (tolds_after_nothing ts)

  pub tolds_heard : (ss : Sends K) (g : Rows K) → tolds (rows_heard cmp ss g) ≡ tolds_after ss (tolds g)
  unfolding rows_heard
  tolds_heard ss g =
      map-map told_of (λ f. heard_all cmp g.moment (messages_for f.number ss) f) g.faces
      ∙ map_alike (λ f. told_of (heard_all cmp g.moment (messages_for f.number ss) f)) (λ f. hear ss (told_of f)) g.faces
      (each_always (λ f. told_of (heard_all cmp g.moment (messages_for f.number ss) f) ≡ hear ss (told_of f)) (λ f. told_alone cmp g.moment (messages_for f.number ss) f) g.faces)
      ∙ sym (map-map (hear ss) told_of g.faces)

  -- what holds of each message holds of those for a face
  pub each_message_for : (P : Message K → Type 0) (n : ℕ) (ss : Sends K) → Each (λ t. P t.1) ss → Each P (messages_for n ss)
  unfolding messages_for
  each_message_for P n [] all = tt
  each_message_for P n (s ∷ ss) all = of_cond (Each P) (n == s.0) (s.1 ∷ messages_for n ss) (messages_for n ss) (λ _. (all.0, each_message_for P n ss all.1)) (λ _. each_message_for P n ss all.1)

  pub nothing_told : (ss : Sends K) (ts : List (Told K)) → Each (λ s. TellsNothing s.1) ss → AreInOrder ts → AreInOrder (tolds_after ss ts)
  nothing_told ss ts nothing ordered =
      each_map (IsInOrder cmp) (hear ss) ts (each_weaker (IsInOrder cmp) (λ t. IsInOrder cmp (hear ss t)) (λ t one. in_order_nothings cmp (messages_for t.number ss) t (each_message_for TellsNothing t.number ss nothing) one) ts ordered)

  module _ (matching : K → K → Bool) where
    -- hearing leaves the lists in order, whatever is heard
    pub lists_heard : (ss : Sends K) (g : Rows K) → ListsAreInOrder cmp matching g → ListsAreInOrder cmp matching (rows_heard cmp ss g)
    unfolding rows_heard
    lists_heard ss g lists =
        let hears = λ (f : Face K). heard_all cmp g.moment (messages_for f.number ss) f in
        let number_ = λ (f : Face K). heard_all-number cmp g.moment (messages_for f.number ss) f in
        record {
          faces_rise = rise_map (λ f. f.number) 1 hears g.faces number_ lists.faces_rise;
          faces_made = each_map (λ f. f.number ≤ g.made) hears g.faces (each_weaker (λ f. f.number ≤ g.made) (λ f. (hears f).number ≤ g.made) (λ f h. subst (λ n. n ≤ g.made) (sym (number_ f)) h) g.faces lists.faces_made);
          rows = each_map HasRowsInOrder hears g.faces (each_weaker HasRowsInOrder (λ f. HasRowsInOrder (hears f)) (λ f rows. rows_in_order_heard_all g.moment (messages_for f.number ss) f rows) g.faces lists.rows);
          routed = lists.routed;
          trees = lists.trees;
          dictionary = lists.dictionary;
        }

    -- ---- parts

    -- a change that leaves lists in order, what faces were told, and the number of faces made
    abbrev pub IsQuiet : (Rows K → Rows K) → Type 0
    IsQuiet change = (g : Rows K) → ListsAreInOrder cmp matching g → ListsAreInOrder cmp matching (change g) × (tolds (change g) ≡ tolds g) × ((change g).made ≡ g.made)

    -- a part that draws no id
    abbrev pub IsSilentPart : Part K → Type 0
    IsSilentPart (Alter change) = IsQuiet change
    IsSilentPart (Say rule) = (g : Rows K) → Each (λ s. DrawsNothing s.1) (rule g)

    -- a part that leaves all in order
    abbrev pub IsOrderlyPart : Part K → Type 0
    IsOrderlyPart (Alter change) = IsQuiet change
    IsOrderlyPart (Say rule) = (g : Rows K) → ListsAreInOrder cmp matching g → AreInOrder (tolds g) → AreInOrder (tolds_after (rule g) (tolds g))

    pub orderly_if_silent : (part : Part K) → IsSilentPart part → IsOrderlyPart part
    orderly_if_silent (Alter change) silent = silent
    orderly_if_silent (Say rule) silent = λ g lists ordered. nothing_told (rule g) (tolds g) (each_weaker (λ s. DrawsNothing s.1) (λ s. TellsNothing s.1) (λ s nothing. tells_if_draws s.1 nothing) (rule g) (silent g)) ordered

    pub orderly_parts : (parts : List (Part K)) → Each IsSilentPart parts → Each IsOrderlyPart parts
    orderly_parts parts silent = each_weaker IsSilentPart IsOrderlyPart orderly_if_silent parts silent

    -- and so are the parts without what they say to one face
    pub silent_unsaid : (n : ℕ) (parts : List (Part K)) → Each IsSilentPart parts → Each IsSilentPart (unsaid_to n parts)
    unfolding unsaid_to
    silent_unsaid n [] silent = tt
    silent_unsaid n (Alter change ∷ parts) silent = (silent.0, silent_unsaid n parts silent.1)
    silent_unsaid n (Say rule ∷ parts) silent = (λ g. each_filter (λ s. DrawsNothing s.1) (λ s. not (n == s.0)) (rule g) (silent.0 g), silent_unsaid n parts silent.1)

    -- each face is sent what a rule gives for it
    pub orderly_each : (rule : Rows K → Face K → List (Message K)) → ((g : Rows K) (f : Face K) → IsInOrder cmp (told_of f) → IsInOrder cmp (told_by_all cmp (rule g f) (told_of f))) → IsOrderlyPart (Say (λ g. to_each (rule g) g.faces))
    orderly_each rule one = λ g lists ordered.
        subst AreInOrder (ap tolds (sym (rows_heard-to_each cmp 1 (rule g) g lists.faces_rise)) ∙ tolds_heard (to_each (rule g) g.faces) g)
        (each_map (IsInOrder cmp) told_of (map (λ f. heard_all cmp g.moment (rule g f) f) g.faces)
        (each_map (λ f. IsInOrder cmp (told_of f)) (λ f. heard_all cmp g.moment (rule g f) f) g.faces
        (each_weaker (λ f. IsInOrder cmp (told_of f)) (λ f. IsInOrder cmp (told_of (heard_all cmp g.moment (rule g f) f)))
        (λ f ordered_. subst (IsInOrder cmp) (sym (told_alone cmp g.moment (rule g f) f)) (one g f ordered_)) g.faces (each_of_map (IsInOrder cmp) told_of g.faces ordered))))

    -- one face is sent what a rule gives for it
    pub orderly_at : (n : ℕ) (rule : Face K → List (Message K)) (g : Rows K) → ListsAreInOrder cmp matching g
        → Each (λ f. IsInOrder cmp (told_of f) × (IsInOrder cmp (told_of f) → (n == f.number) ≡ true → IsInOrder cmp (told_of (heard_all cmp g.moment (rule f) f)))) g.faces → AreInOrder (tolds_after (to_face n rule g) (tolds g))
    unfolding with_face
    orderly_at n rule g lists all =
        subst AreInOrder (ap tolds (sym (rows_heard-to_face cmp 1 n rule g lists.faces_rise)) ∙ tolds_heard (to_face n rule g) g)
        (each_map (IsInOrder cmp) told_of (with_face n (λ f. heard_all cmp g.moment (rule f) f) g).faces
        (each_map (λ f. IsInOrder cmp (told_of f)) (λ f. if n == f.number then heard_all cmp g.moment (rule f) f else f) g.faces
        (each_weaker (λ f. IsInOrder cmp (told_of f) × (IsInOrder cmp (told_of f) → (n == f.number) ≡ true → IsInOrder cmp (told_of (heard_all cmp g.moment (rule f) f))))
        (λ f. IsInOrder cmp (told_of (if n == f.number then heard_all cmp g.moment (rule f) f else f)))
        (λ f both. of_cond (λ (k : Face K). IsInOrder cmp (told_of k)) (n == f.number) (heard_all cmp g.moment (rule f) f) f (λ here. both.1 both.0 here) (λ _. both.0)) g.faces all)))

    pub orderly_one : (n : ℕ) (rule : Rows K → Face K → List (Message K)) → ((g : Rows K) (f : Face K) → IsInOrder cmp (told_of f) → IsInOrder cmp (told_of (heard_all cmp g.moment (rule g f) f))) → IsOrderlyPart (Say (λ g. to_face n (rule g) g))
    orderly_one n rule one = λ g lists ordered.
        orderly_at n (rule g) g lists
        (each_weaker (λ f. IsInOrder cmp (told_of f)) (λ f. IsInOrder cmp (told_of f) × (IsInOrder cmp (told_of f) → (n == f.number) ≡ true → IsInOrder cmp (told_of (heard_all cmp g.moment (rule g f) f))))
        (λ f ordered_. (ordered_, λ own _. one g f own)) g.faces (each_of_map (IsInOrder cmp) told_of g.faces ordered))

    -- a change of one face that leaves what it was told
    pub quiet_face : (n : ℕ) (change : Face K → Face K) → ((f : Face K) → told_of (change f) ≡ told_of f) → ((f : Face K) → HasRowsInOrder f → HasRowsInOrder (change f)) → IsQuiet (with_face n change)
    unfolding with_face
    quiet_face n change told_ rows_ = λ g lists.
        let changes = λ (f : Face K). if n == f.number then change f else f in
        let number_ = λ (f : Face K). chosen_leaves (λ k. k.number) change (n == f.number) f (ap (λ (t : Told K). t.number) (told_ f)) in (
          record {
            faces_rise = rise_map (λ f. f.number) 1 changes g.faces number_ lists.faces_rise;
            faces_made = each_map (λ f. f.number ≤ g.made) changes g.faces (each_weaker (λ f. f.number ≤ g.made) (λ f. (changes f).number ≤ g.made) (λ f h. subst (λ k. k ≤ g.made) (sym (number_ f)) h) g.faces lists.faces_made);
            rows = each_map HasRowsInOrder changes g.faces (each_weaker HasRowsInOrder (λ f. HasRowsInOrder (changes f)) (λ f rows. of_cond HasRowsInOrder (n == f.number) (change f) f (λ _. rows_ f rows) (λ _. rows)) g.faces lists.rows);
            routed = lists.routed;
            trees = lists.trees;
            dictionary = lists.dictionary;
          },
          map-map told_of changes g.faces
              ∙ map_alike (λ f. told_of (changes f)) told_of g.faces (each_always (λ f. told_of (changes f) ≡ told_of f) (λ f. chosen_leaves told_of change (n == f.number) f (told_ f)) g.faces),
          refl,
        )

    -- ---- parts together

    pub altered_in_order : (parts : List (Part K)) (g : Rows K) → Each IsOrderlyPart parts → ListsAreInOrder cmp matching g → ListsAreInOrder cmp matching (altered_by cmp matching parts g) × (tolds (altered_by cmp matching parts g) ≡ tolds g) × ((altered_by cmp matching parts g).made ≡ g.made)
    unfolding altered_by
    altered_in_order [] g orderly lists = (lists, refl, refl)
    altered_in_order (Alter change ∷ parts) g orderly lists =
        let one = orderly.0 g lists in
        let rest = altered_in_order parts (change g) orderly.1 one.0 in
        (rest.0, rest.1 ∙ one.1, rest.2 ∙ one.2)
    altered_in_order (Say rule ∷ parts) g orderly lists = altered_in_order parts g orderly.1 lists

    -- what is said first, and then the rest
    pub said_then : (ss ts : Sends K) (g : Rows K) → AreInOrder (tolds_after ts (tolds (rows_heard cmp ss g))) → AreInOrder (tolds_after (ss ++ ts) (tolds g))
    said_then ss ts g ordered = subst AreInOrder (ap (tolds_after ts) (tolds_heard ss g) ∙ sym (tolds_after-append ss ts (tolds g))) ordered

    pub heard_in_order : (ss : Sends K) (g : Rows K) → AreInOrder (tolds_after ss (tolds g)) → AreInOrder (tolds (rows_heard cmp ss g))
    heard_in_order ss g ordered = subst AreInOrder (sym (tolds_heard ss g)) ordered

    pub said_in_order : (parts : List (Part K)) (g : Rows K) → Each IsOrderlyPart parts → ListsAreInOrder cmp matching g → AreInOrder (tolds g) → AreInOrder (tolds_after (said_by cmp matching parts g) (tolds g))
    unfolding said_by
    said_in_order [] g orderly lists ordered = subst AreInOrder (sym (tolds_after_nothing (tolds g))) ordered
    said_in_order (Alter change ∷ parts) g orderly lists ordered =
        let one = orderly.0 g lists in
        subst (λ ts. AreInOrder (tolds_after (said_by cmp matching parts (change g)) ts)) one.1 (said_in_order parts (change g) orderly.1 one.0 (subst AreInOrder (sym one.1) ordered))
    said_in_order (Say rule ∷ parts) g orderly lists ordered =
        let ss = rule g in
        let h = rows_heard cmp ss g in
        said_then ss (said_by cmp matching parts h) g (said_in_order parts h orderly.1 (lists_heard ss g lists) (heard_in_order ss g (orderly.0 g lists ordered)))

    -- a last change says nothing
    pub said_by_last : (parts : List (Part K)) (change : Rows K → Rows K) (g : Rows K) → said_by cmp matching (parts ++ Alter change ∷ []) g ≡ said_by cmp matching parts g
    unfolding said_by
    said_by_last [] change g = refl
    said_by_last (Alter one ∷ parts) change g = said_by_last parts change (one g)
    said_by_last (Say rule ∷ parts) change g = ap (λ ss. rule g ++ ss) (said_by_last parts change (rows_heard cmp (rule g) g))

    pub altered_by_last : (parts : List (Part K)) (change : Rows K → Rows K) (g : Rows K) → altered_by cmp matching (parts ++ Alter change ∷ []) g ≡ change (altered_by cmp matching parts g)
    unfolding altered_by
    altered_by_last [] change g = refl
    altered_by_last (Alter one ∷ parts) change g = altered_by_last parts change (one g)
    altered_by_last (Say rule ∷ parts) change g = altered_by_last parts change g

    pub in_order_by : (g : Rows K) → ListsAreInOrder cmp matching g → AreInOrder (tolds g) → RowsAreInOrder cmp matching g
    in_order_by g lists ordered = record { lists = lists; told = each_of_map (IsInOrder cmp) told_of g.faces ordered }

    pub tolds_in_order : (g : Rows K) → RowsAreInOrder cmp matching g → AreInOrder (tolds g)
    tolds_in_order g rows = each_map (IsInOrder cmp) told_of g.faces rows.told

    -- Rows stay in order where each part leaves them so.
    pub parts_in_order : (parts : List (Part K)) (g : Rows K) → Each IsOrderlyPart parts → RowsAreInOrder cmp matching g → RowsAreInOrder cmp matching (rows_heard cmp (said_by cmp matching parts g) (altered_by cmp matching parts g))
    parts_in_order parts g orderly rows =
        let ss = said_by cmp matching parts g in
        let after = altered_by cmp matching parts g in
        let alters = altered_in_order parts g orderly rows.lists in
        in_order_by (rows_heard cmp ss after) (lists_heard ss after alters.0)
        (heard_in_order ss after (subst (λ ts. AreInOrder (tolds_after ss ts)) (sym alters.1) (said_in_order parts g orderly rows.lists (tolds_in_order g rows))))
