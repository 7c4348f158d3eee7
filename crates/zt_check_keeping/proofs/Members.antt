-- Members of lists: what has a test, and what maps, filters and puts leave of them.
use Rattle.std.proofs.Common.{◌≡◌, ◌⊎◌, inl, inr, ℕ, Bool, true, false, ◌&&◌, ◌||◌, ◌==◌, not, if◌then◌else◌, List, [], ◌∷◌, ◌++◌, map, filter, refl, sym, ap, subst, ◌∙◌, ⊎_elim, eqb-true}
use Rattle.std.proofs.lemmas.Bool.{and_parts, false≢true, or_left, or_right}
use Rattle.std.specs.List.{list_all, list_any}
use Rattle.std.specs.Ordering.{is_eq, nat_cmp}
use Rattle.std.specs.Prelude.{nat_lt}
use Rattle.std.specs.declared.cmp.Ordering.{Ordering}
use Rattle.std.specs.declared.cmp.Ordering.TheVariants.{Less, Equal, Greater}
use Rattle.std.specs.FinMap.Entries.{put}
use Rattle.zt_keys.specs.Test.{by_test}
use Rattle.zt_model.specs.Lists.{nth, with_key}
use Rattle.zt_model.specs.Transcript.{Each}

-- a value is one of these
abbrev pub Among : {A : Type 0} → A → List A → Type 0
Among x [] = ⊥
Among x (y ∷ ys) = (x ≡ y) ⊎ Among x ys

pub never : {G : Type 0} {b : Bool} → b ≡ true → b ≡ false → G
never yes_ no_ = absurd (false≢true (sym no_ ∙ yes_))

-- ---- tests

pub any_member : {A : Type 0} (p : A → Bool) (xs : List A) → list_any p xs ≡ true → (x : A) × (Among x xs × (p x ≡ true))
any_member p [] any = absurd (false≢true any)
any_member p (y ∷ ys) any =
    by_test (p y)
    (λ here. (y, (inl refl, here)))
    (λ here. let rest = any_member p ys (rw here at any) in (rest.0, (inr rest.1.0, rest.1.1)))

pub member_any : {A : Type 0} (p : A → Bool) (x : A) (xs : List A) → Among x xs → p x ≡ true → list_any p xs ≡ true
member_any p x [] at is = absurd at
member_any p x (y ∷ ys) (inl same) is = or_left (p y) (list_any p ys) (ap p (sym same) ∙ is)
member_any p x (y ∷ ys) (inr at) is = or_right (p y) (list_any p ys) (member_any p x ys at is)

pub all_member : {A : Type 0} (p : A → Bool) (x : A) (xs : List A) → list_all p xs ≡ true → Among x xs → p x ≡ true
all_member p x [] all at = absurd at
all_member p x (y ∷ ys) all (inl same) = ap p same ∙ (and_parts (p y) (list_all p ys) all).0
all_member p x (y ∷ ys) all (inr at) = all_member p x ys (and_parts (p y) (list_all p ys) all).1 at

-- one of those of which not all have a test lacks it
pub not_all_member : {A : Type 0} (p : A → Bool) (xs : List A) → list_all p xs ≡ false → (x : A) × (Among x xs × (p x ≡ false))
not_all_member p [] all = absurd (false≢true (sym all))
not_all_member p (y ∷ ys) all =
    by_test (p y)
    (λ here. let rest = not_all_member p ys (rw here at all) in (rest.0, (inr rest.1.0, rest.1.1)))
    (λ here. (y, (inl refl, here)))

pub each_member : {A : Type 0} (P : A → Type 0) (x : A) (xs : List A) → Each P xs → Among x xs → P x
each_member P x [] each at = absurd at
each_member P x (y ∷ ys) each (inl same) = subst P (sym same) each.0
each_member P x (y ∷ ys) each (inr at) = each_member P x ys each.1 at

pub members_each : {A : Type 0} (P : A → Type 0) (xs : List A) → ((x : A) → Among x xs → P x) → Each P xs
members_each P [] h = tt
members_each P (y ∷ ys) h = (h y (inl refl), members_each P ys (λ x at. h x (inr at)))

-- ---- maps, filters and ends

pub in_map : {A B : Type 0} (c : A → B) (y : B) (xs : List A) → Among y (map c xs) → (x : A) × (Among x xs × (y ≡ c x))
in_map c y [] at = absurd at
in_map c y (x ∷ xs) (inl same) = (x, (inl refl, same))
in_map c y (x ∷ xs) (inr at) = let rest = in_map c y xs at in (rest.0, (inr rest.1.0, rest.1.1))

pub map_in : {A B : Type 0} (c : A → B) (x : A) (xs : List A) → Among x xs → Among (c x) (map c xs)
map_in c x [] at = at
map_in c x (y ∷ ys) (inl same) = inl (ap c same)
map_in c x (y ∷ ys) (inr at) = inr (map_in c x ys at)

-- the first of a longer list, or one of the rest of which this is known
pub first_or : {A : Type 0} (x y : A) (xs ys : List A) → (Among x xs → Among x ys) → Among x (y ∷ xs) → Among x (y ∷ ys)
first_or x y xs ys later (inl same) = inl same
first_or x y xs ys later (inr at) = inr (later at)

pub in_filter : {A : Type 0} (p : A → Bool) (x : A) (xs : List A) → Among x (filter p xs) → Among x xs
in_filter p x [] at = at
in_filter p x (y ∷ ys) at =
    by_test (p y)
    (λ here. first_or x y (filter p ys) ys (in_filter p x ys) (rw here at at))
    (λ here. inr (in_filter p x ys (rw here at at)))

pub filter_in : {A : Type 0} (p : A → Bool) (x : A) (xs : List A) → Among x xs → p x ≡ true → Among x (filter p xs)
filter_in p x [] at is = at
filter_in p x (y ∷ ys) (inl same) is = let here : p y ≡ true = ap p (sym same) ∙ is in rw here (inl same)
filter_in p x (y ∷ ys) (inr at) is =
    by_test (p y)
    (λ here. rw here (inr (filter_in p x ys at is)))
    (λ here. rw here (filter_in p x ys at is))

pub in_append : {A : Type 0} (x : A) (xs ys : List A) → Among x (xs ++ ys) → Among x xs ⊎ Among x ys
in_append x [] ys at = inr at
in_append x (y ∷ xs) ys (inl same) = inl (inl same)
in_append x (y ∷ xs) ys (inr at) = ⊎_elim (λ here. inl (inr here)) (λ here. inr here) (in_append x xs ys at)

pub append_left : {A : Type 0} (x : A) (xs ys : List A) → Among x xs → Among x (xs ++ ys)
append_left x [] ys at = absurd at
append_left x (y ∷ xs) ys (inl same) = inl same
append_left x (y ∷ xs) ys (inr at) = inr (append_left x xs ys at)

pub append_right : {A : Type 0} (x : A) (xs ys : List A) → Among x ys → Among x (xs ++ ys)
append_right x [] ys at = at
append_right x (y ∷ xs) ys at = inr (append_right x xs ys at)

-- ---- rows by their ids

same_number : (a b : ℕ) → nat_cmp a b ≡ Equal → a ≡ b
same_number a b e =
    by_test (nat_lt a b)
    (λ less. let f : Less ≡ Equal = rw less at e in cc)
    (λ less. by_test (a == b)
    (λ same. eqb-true a b same)
    (λ same. let f : Greater ≡ Equal = rw (less, same) at e in cc))

module _ {A : Type 0} (id : ℕ) (value : A) where
  abbrev Put : ℕ × A → List (ℕ × A) → Type 0
  Put x rows = (x ≡ (id, value)) ⊎ Among x rows

  put_later : (x row : ℕ × A) (rows : List (ℕ × A)) → Put x rows → Put x (row ∷ rows)
  put_later x row rows (inl same) = inl same
  put_later x row rows (inr at) = inr (inr at)

  put_first : (x row : ℕ × A) (rows more : List (ℕ × A)) → (Among x more → Put x rows) → Among x (row ∷ more) → Put x (row ∷ rows)
  put_first x row rows more later (inl same) = inr (inl same)
  put_first x row rows more later (inr at) = put_later x row rows (later at)

  put_new : (x row : ℕ × A) (rows more : List (ℕ × A)) → (Among x more → Among x (row ∷ rows)) → Among x ((id, value) ∷ more) → Put x (row ∷ rows)
  put_new x row rows more later (inl same) = inl same
  put_new x row rows more later (inr at) = inr (later at)

  put_over : (x row : ℕ × A) (rows : List (ℕ × A)) → id ≡ row.0 → Among x ((row.0, value) ∷ rows) → Put x (row ∷ rows)
  put_over x row rows is (inl same) = inl (same ∙ ap (λ k. (k, value)) (sym is))
  put_over x row rows is (inr at) = inr (inr at)

  pub in_put : (x : ℕ × A) (rows : List (ℕ × A)) → Among x (put nat_cmp id value rows) → Put x rows
  in_put x [] (inl same) = inl same
  in_put x [] (inr at) = absurd at
  in_put x (row ∷ rows) at = go (nat_cmp id row.0) refl (in_put x rows)
    where
      go : (o : Ordering) → nat_cmp id row.0 ≡ o → (Among x (put nat_cmp id value rows) → Put x rows) → Put x (row ∷ rows)
      go Less is later = put_new x row rows (row ∷ rows) (λ h. h) (rw is at at)
      go Equal is later = put_over x row rows (same_number id row.0 is) (rw is at at)
      go Greater is later = put_first x row rows (put nat_cmp id value rows) later (rw is at at)

  abbrev Keeps : ℕ × A → List (ℕ × A) → Type 0
  Keeps x rows = Among x rows ⊎ (id ≡ x.0)

  keeps_more : (x row : ℕ × A) (rows : List (ℕ × A)) → Keeps x rows → Keeps x (row ∷ rows)
  keeps_more x row rows (inl at) = inl (inr at)
  keeps_more x row rows (inr same) = inr same

  -- what was there is there still, but under the same id
  pub put_keeps : (x : ℕ × A) (rows : List (ℕ × A)) → Among x rows → Keeps x (put nat_cmp id value rows)
  put_keeps x [] at = absurd at
  put_keeps x (row ∷ rows) at = go (nat_cmp id row.0) refl at (put_keeps x rows)
    where
      go : (o : Ordering) → nat_cmp id row.0 ≡ o → Among x (row ∷ rows) → (Among x rows → Keeps x (put nat_cmp id value rows)) → Keeps x (put nat_cmp id value (row ∷ rows))
      go Less is here later = rw is (inl (inr here))
      go Equal is (inl same) later = inr (same_number id row.0 is ∙ sym (ap (λ (r : ℕ × A). r.0) same))
      go Equal is (inr more) later = rw is (inl (inr more))
      go Greater is (inl same) later = rw is (inl (inl same))
      go Greater is (inr more) later = rw is (keeps_more x row (put nat_cmp id value rows) (later more))

-- ---- keys in order

module _ {A : Type 0} (cmp : A → A → Ordering) (key : A) where
  abbrev With : A → List A → Type 0
  With x keys = (x ≡ key) ⊎ Among x keys

  with_later : (x k : A) (keys : List A) → With x keys → With x (k ∷ keys)
  with_later x k keys (inl same) = inl same
  with_later x k keys (inr at) = inr (inr at)

  with_first : (x k : A) (keys more : List A) → (Among x more → With x keys) → Among x (k ∷ more) → With x (k ∷ keys)
  with_first x k keys more later (inl same) = inr (inl same)
  with_first x k keys more later (inr at) = with_later x k keys (later at)

  with_new : (x : A) (keys : List A) → Among x (key ∷ keys) → With x keys
  with_new x keys (inl same) = inl same
  with_new x keys (inr at) = inr at

  pub in_key : (x : A) (keys : List A) → Among x (with_key cmp key keys) → With x keys
  in_key x [] (inl same) = inl same
  in_key x [] (inr at) = absurd at
  in_key x (k ∷ keys) at = go (cmp key k) refl (in_key x keys)
    where
      go : (o : Ordering) → cmp key k ≡ o → (Among x (with_key cmp key keys) → With x keys) → With x (k ∷ keys)
      go Less is later = with_new x (k ∷ keys) (rw is at at)
      go Equal is later = inr (rw is at at)
      go Greater is later = with_first x k keys (with_key cmp key keys) later (rw is at at)

  pub key_keeps : (x : A) (keys : List A) → Among x keys → Among x (with_key cmp key keys)
  key_keeps x [] at = absurd at
  key_keeps x (k ∷ keys) at = go (cmp key k) refl at (key_keeps x keys)
    where
      go : (o : Ordering) → cmp key k ≡ o → Among x (k ∷ keys) → (Among x keys → Among x (with_key cmp key keys)) → Among x (with_key cmp key (k ∷ keys))
      go Less is here later = rw is (inr here)
      go Equal is here later = rw is here
      go Greater is (inl same) later = rw is (inl same)
      go Greater is (inr more) later = rw is (inr (later more))
